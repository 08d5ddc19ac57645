-- Version texts: what is dropped, refusals 5 to 9, labels and their order, and the version that is kept.
use Rattle.std.specs.Prelude.{◌≡◌, Bool, true, false, not, ◌&&◌, ◌||◌, List, [], ◌∷◌, ◌++◌, map, ltb, length}
use Rattle.std.proofs.Math.Option.{Option, none, some}
use Rattle.xml.specs.Bytes.{Bytes, bytes, all, same, is_white, is_value, line_ends}
use Rattle.keys.specs.Result.{Result, refused, ok, ◌>>=◌, ◌>>◌, refuse, r5, r6, r7, r8, r9}
use Rattle.xml.specs.Forest.{Forest, end, elem, text, stamp, write, nodes, depth}
use Rattle.xml.specs.Grammar.{Spells}
use Rattle.xml.specs.Read.{Outcome, whole, broken, read, read_compute}
use Rattle.model.specs.Orders.{labels, is_eq, is_lt, labels_compute}
use Rattle.keys.specs.KeyList.{Path, KeyList, listed, above, key_names_at, keys_compute}

infixl 66 ◌▸◌
-- the path p and a name below it
abbrev pub ◌▸◌ : Path → Bytes → Path
p ▸ n = p ++ n ∷ []

-- In each function below, p is the path of the element that holds the forest directly: [] for the root.

-- "Directly in an element whose path is listed and no frontier, a run of white space is dropped"
unfoldable pub drop_white : KeyList → Path → Forest → Forest
drop_white K p end = end
drop_white K p (elem n k r) = elem n (drop_white K (p ▸ n) k) (drop_white K p r)
drop_white K p (text b r) = elim (above K p && all is_white b) [ true ↦ drop_white K p r | false ↦ text b (drop_white K p r) ]
drop_white K p (stamp t k r) = stamp t (drop_white K p k) (drop_white K p r)

-- 6: "version deeper than 16, over 512 nodes, or its written form over 16,384 bytes"
unfoldable pub too_large : Forest → Bool
too_large f = ltb 16 (depth f) || ltb 512 (nodes f) || ltb 16384 (length (write f))

-- 7: "a path not in the list above or at a frontier, refused text, or the name `T` anywhere"
unfoldable pub misplaced : KeyList → Path → Forest → Bool
misplaced K p end = false
misplaced K p (elem n k r) =
    same n (bytes "T") || above K p && not (listed K (p ▸ n)) || misplaced K (p ▸ n) k || misplaced K p r
misplaced K p (text b r) = above K p || misplaced K p r
misplaced K p (stamp t k r) = true

-- what the elements of a name hold, in a forest
unfoldable pub called : Bytes → Forest → List Forest
called n end = []
called n (text b r) = called n r
called n (stamp t k r) = called n r
called n (elem m k r) = elim (same n m) [ true ↦ k ∷ called n r | false ↦ called n r ]

-- "its value is 1 to 32 letters, digits, `.`, `-`, `_`, and no element"
unfoldable pub is_key_value : Forest → Bool
is_key_value end = false
is_key_value (elem n k r) = false
is_key_value (stamp t k r) = false
is_key_value (text b end) = is_value b
is_key_value (text b (text c r)) = false
is_key_value (text b (elem n k r)) = false
is_key_value (text b (stamp t k r)) = false

-- "has each key child just once"
unfoldable pub is_one_value : List Forest → Bool
is_one_value [] = false
is_one_value (f ∷ []) = is_key_value f
is_one_value (f ∷ g ∷ fs) = false

-- 8: "a key child missing, repeated or illegal"
unfoldable pub unkeyed : KeyList → Path → Forest → Bool
unkeyed K p end = false
unkeyed K p (text b r) = unkeyed K p r
unkeyed K p (stamp t k r) = unkeyed K p r
unkeyed K p (elem n k r) =
    not (all (λ key. is_one_value (called key k)) (key_names_at K (p ▸ n))) || unkeyed K (p ▸ n) k || unkeyed K p r

-- ---- labels: the name of an element and its key values in list order
abbrev pub Label : Type 0
Label = List Bytes

unfoldable pub run_in : Forest → Bytes
run_in end = []
run_in (elem n k r) = []
run_in (stamp t k r) = []
run_in (text b r) = b

unfoldable pub value_in : List Forest → Bytes
value_in [] = []
value_in (f ∷ fs) = run_in f

-- of the element n that holds k, in an element of path p
unfoldable pub label : KeyList → Path → Bytes → Forest → Label
label K p n k = n ∷ map (λ key. value_in (called key k)) (key_names_at K (p ▸ n))

-- the name of a label
unfoldable pub name_in : Label → Bytes
name_in [] = []
name_in (n ∷ vs) = n

unfoldable pub same_label : Label → Label → Bool
same_label a b = is_eq (labels.cmp a b)

-- "ordered by name and then by key values in list order, as byte strings with a prefix first"
unfoldable pub before : Label → Label → Bool
before a b = is_lt (labels.cmp a b)

-- what the element with a label holds, of the siblings f; a path of the list has one at most
unfoldable pub find : KeyList → Path → Label → Forest → Option Forest
find K p l end = none
find K p l (text b r) = find K p l r
find K p l (stamp t k r) = find K p l r
find K p l (elem n k r) = elim (same_label l (label K p n k)) [ true ↦ some k | false ↦ find K p l r ]

unfoldable pub is_some : {A : Type 0} → Option A → Bool
is_some none = false
is_some (some a) = true

-- 9: "No two siblings above or at a frontier have the same name and key values"
unfoldable pub doubled : KeyList → Path → Forest → Bool
doubled K p end = false
doubled K p (text b r) = doubled K p r
doubled K p (stamp t k r) = doubled K p r
doubled K p (elem n k r) =
    above K p && is_some (find K p (label K p n k) r) || doubled K (p ▸ n) k || doubled K p r

-- ---- "keyed siblings ordered by name and then by key values"
unfoldable pub insert_by : KeyList → Path → Bytes → Forest → Forest → Forest
insert_by K p n k end = elem n k end
insert_by K p n k (text b r) = text b (insert_by K p n k r)
insert_by K p n k (stamp t j r) = stamp t j (insert_by K p n k r)
insert_by K p n k (elem m j r) =
    elim (before (label K p n k) (label K p m j)) [ true ↦ elem n k (elem m j r) | false ↦ elem m j (insert_by K p n k r) ]

unfoldable pub ordered : KeyList → Path → Forest → Forest
ordered K p end = end
ordered K p (text b r) = text b (ordered K p r)
ordered K p (stamp t k r) = stamp t k (ordered K p r)
ordered K p (elem n k r) =
    elim (above K p) [ true ↦ insert_by K p n (ordered K (p ▸ n) k) (ordered K p r) | false ↦ elem n k (ordered K p r) ]

-- 5: "version not in the XML subset"
unfoldable pub parsed : Outcome → Result Forest
parsed (whole f) = ok f
parsed (broken p) = refused r5

-- what a version's text spells: one root element; or, Q-6's "A version that is empty or white space alone is now legal", nothing
pub data VersionSpells : Bytes → Forest → Type 0 where
  rooted : {s : Bytes} {f : Forest} → Spells false s f → VersionSpells s f
  vacant : {s : Bytes} → all is_white s ≡ true → VersionSpells s end

-- the same by reading; that it is the same: `read_version-sound`, `read_version-complete`
unfoldable pub read_version : Bytes → Outcome
read_version s = elim (all is_white s) [ true ↦ whole end | false ↦ read false s ]

-- the version of a text, in the order of its written form; 5 to 9 of the table. Q-4's "in a version CR LF and a lone CR are read as LF before
-- all but the length test of 2": what was received is `line_ends s`; each call that takes a version asks for it here, and nowhere else
unfoldable pub version : KeyList → Bytes → Result Forest
version K s = do
  f ← parsed (read_version (line_ends s))
  let v = drop_white K [] f
  refuse r6 (too_large v)
  refuse r7 (misplaced K [] v)
  refuse r8 (unkeyed K [] v)
  refuse r9 (doubled K [] v)
  ok (ordered K [] v)

unfoldable pub version_compute : Unit {0}
unfolding read_compute keys_compute labels_compute drop_white too_large misplaced called is_key_value is_one_value unkeyed run_in value_in label name_in same_label before find is_some doubled insert_by ordered parsed read_version version
version_compute = tt
