-- Key lists: the notation, the rules, paths and frontiers.
use Rattle.std.specs.Prelude.{Bool, true, false, not, ◌&&◌, eqb, leb, length}
use Prim.Native.Char.{code}
use mathlib.Core.List.{List, [], ◌∷◌, ◌++◌, map, flat_map}
use Rattle.xml.specs.Bytes.{Bytes, bytes, any, all, keep, distinct, same_by, same, is_empty, split, join_by, among, is_name, bytes_compute}
use Rattle.keys.specs.Result.{Result, refused, ok, ◌>>=◌, ◌>>◌, refuse, r3, r4}

-- the names from the root down
abbrev pub Path : Type 0
Path = List Bytes

-- a line: "Context path, name, then 0 to 4 distinct key names"
pub record Key : Type 0 where
  pub context : Path
  pub name : Bytes
  pub key_names : List Bytes

abbrev pub KeyList : Type 0
KeyList = List Key

-- ---- the notation
unfoldable pub write_path : Path → Bytes
write_path [] = []
write_path (n ∷ p) = bytes "/" ++ n ++ write_path p

-- the context of the first line is `/`
unfoldable pub write_context : Path → Bytes
write_context [] = bytes "/"
write_context (n ∷ p) = write_path (n ∷ p)

-- "`(/station, (lamp, {pos}))` .. key names joined by `, `. The spacing is exactly as shown."
unfoldable pub write_key : Key → Bytes
write_key k = bytes "(" ++ write_context k.context ++ bytes ", (" ++ k.name ++ bytes ", {" ++ join_by (bytes ", ") k.key_names ++ bytes "}))"

-- the words of a line, between brackets, commas and spaces
unfoldable pub words : Bytes → List Bytes
words s = keep (λ w. not (is_empty w)) (split (among "(){}, ") s)

-- the key that a line can only be: its words are the context, the name and the key names
unfoldable pub key_of : List Bytes → Key
key_of [] = record { context = []; name = []; key_names = [] }
key_of (c ∷ []) = record { context = []; name = []; key_names = [] }
key_of (c ∷ n ∷ ks) = record { context = keep (λ w. not (is_empty w)) (split (eqb (code "/")) c); name = n; key_names = ks }

-- a line is in the notation: it is the written form of a key of names
unfoldable pub in_notation : Bytes → Key → Bool
in_notation line k =
    same line (write_key k) && all is_name (k.context ++ k.name ∷ k.key_names)
    && leb (length k.key_names) 4 && distinct same k.key_names

unfoldable pub is_root_context : Path → Bool
is_root_context [] = true
is_root_context (n ∷ p) = false

-- "The only context of the first line, and of no other, is `/`."
unfoldable pub contexts_in_notation : KeyList → Bool
contexts_in_notation [] = false
contexts_in_notation (k ∷ ks) = is_root_context k.context && all (λ j. not (is_root_context j.context)) ks

-- "a line per key, each ended by one LF": what the last LF is followed by is empty
unfoldable pub lines_of : List Bytes → Result (List Bytes)
lines_of [] = refused r3
lines_of (w ∷ []) = refuse r3 (not (is_empty w)) >> ok []
lines_of (w ∷ v ∷ ws) = do
  ls ← lines_of (v ∷ ws)
  ok (w ∷ ls)

unfoldable pub keys_of : List Bytes → Result KeyList
keys_of [] = ok []
keys_of (l ∷ ls) = do
  let k = key_of (words l)
  refuse r3 (not (in_notation l k))
  ks ← keys_of ls
  ok (k ∷ ks)

-- ---- the rules
unfoldable pub same_path : Path → Path → Bool
same_path = same_by same

-- "A line's path is its context joined to its name."
unfoldable pub path : Key → Path
path k = k.context ++ k.name ∷ []

-- "Key names add implied paths, each with an empty key."
unfoldable pub implied : Key → List Path
implied k = map (λ n. path k ++ n ∷ []) k.key_names

-- all paths, implied ones included
unfoldable pub paths : KeyList → List Path
paths ks = flat_map (λ k. path k ∷ implied k) ks

-- "A context is the path of an earlier line and no implied path."
unfoldable pub contexts_known : List Path → KeyList → Bool
contexts_known earlier [] = true
contexts_known earlier (k ∷ ks) = any (same_path k.context) earlier && contexts_known (path k ∷ earlier) ks

-- "The first line has no key names."
unfoldable pub first_bare : KeyList → Bool
first_bare [] = false
first_bare (k ∷ ks) = eqb (length k.key_names) 0

-- "The first line has no key names. .. No path is given twice, implied ones included. .. No name is `T`. At most 64 lines, 128 paths, 8 names in a path."
unfoldable pub rules_kept : KeyList → Bool
rules_kept ks =
    first_bare ks && contexts_known ([] ∷ []) ks
    && distinct same_path (paths ks)
    && all (λ p. not (any (λ c. same_path p c) (map (λ k. k.context) ks))) (flat_map implied ks)
    && all (λ p. all (λ n. not (same n (bytes "T"))) p) (paths ks)
    && leb (length ks) 64 && leb (length (paths ks)) 128 && all (λ p. leb (length p) 8) (paths ks)

-- the key list of a text; 3 and 4 of the table
unfoldable pub key_list : Bytes → Result KeyList
key_list s = do
  ls ← lines_of (split (eqb (code "\n")) s)
  ks ← keys_of ls
  refuse r3 (not (contexts_in_notation ks))
  refuse r4 (not (rules_kept ks))
  ok ks

-- ---- what a key list says of a path
unfoldable pub listed : KeyList → Path → Bool
listed K p = any (same_path p) (paths K)

-- q continues p: p is a proper prefix
unfoldable pub continues : Path → Path → Bool
continues [] [] = false
continues [] (m ∷ q) = true
continues (n ∷ p) [] = false
continues (n ∷ p) (m ∷ q) = same n m && continues p q

-- "A path is a frontier if no other path continues it."
unfoldable pub frontier : KeyList → Path → Bool
frontier K p = not (any (continues p) (paths K))

-- above the frontiers: the path of a list's element that is no frontier, or the empty path above the root
-- (a path that another continues is of the list, or empty, since contexts are)
unfoldable pub above : KeyList → Path → Bool
above K p = not (frontier K p)

-- the key names of a path: none where no line has it
unfoldable pub key_names_at : KeyList → Path → List Bytes
key_names_at [] p = []
key_names_at (k ∷ ks) p = elim (same_path (path k) p) [ true ↦ k.key_names | false ↦ key_names_at ks p ]

unfoldable pub keys_compute : Unit {0}
unfolding bytes_compute flat_map write_path write_context write_key words key_of in_notation is_root_context contexts_in_notation lines_of keys_of same_path path implied paths contexts_known first_bare rules_kept key_list listed continues frontier above key_names_at
keys_compute = tt
