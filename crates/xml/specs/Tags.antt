-- What stands in a start tag: a name, and attributes. Their written form, and the names that one more attribute of a tag may have.
use Rattle.std.specs.Prelude.{ℕ, zero, suc, ◌+◌, ◌≡◌, refl, Bool, true, false, not, ◌&&◌, ◌||◌, List, [], ◌∷◌, ◌++◌, eqb, ltb, length, take, drop, get_or}
use Prim.Native.Char.{code}
use Rattle.xml.specs.Bytes.{Bytes, bytes, any, all, same, among, is_empty, is_legal, is_name, bytes_compute}

pub data Attr : Type 0 where
  attr : (name value : Bytes) → Attr

unfoldable pub attr_name : Attr → Bytes
attr_name (attr n v) = n

-- ---- written form: "Written form sorts by name, uses `\"`, and escapes `&`, `<`, `\"`."
unfoldable pub escape_value : Bytes → Bytes
escape_value [] = []
escape_value (b ∷ s) =
    elim (eqb b (code "&")) [
      | true ↦ bytes "&amp;" ++ escape_value s
      | false ↦
          elim (eqb b (code "<")) [
            | true ↦ bytes "&lt;" ++ escape_value s
            | false ↦
                elim (eqb b (code "\"")) [ true ↦ bytes "&quot;" ++ escape_value s | false ↦ b ∷ escape_value s ]
          ]
    ]

-- the attributes one after another, each after a space
unfoldable pub attr_text : List Attr → Bytes
attr_text [] = []
attr_text (attr n v ∷ l) = bytes " " ++ n ++ bytes "=\"" ++ escape_value v ++ bytes "\"" ++ attr_text l

-- as byte strings, with a prefix first
unfoldable pub less : Bytes → Bytes → Bool
less s [] = false
less [] (b ∷ t) = true
less (a ∷ s) (b ∷ t) = ltb a b || eqb a b && less s t

unfoldable pub insert : Attr → List Attr → List Attr
insert x [] = x ∷ []
insert x (y ∷ l) = elim (less (attr_name y) (attr_name x)) [ true ↦ y ∷ insert x l | false ↦ x ∷ y ∷ l ]

unfoldable pub sort : List Attr → List Attr
sort [] = []
sort (x ∷ l) = insert x (sort l)

-- a tag, written: its name, and its attributes by ascending names
unfoldable pub tag_text : Bytes → List Attr → Bytes
tag_text n l = n ++ attr_text (sort l)

-- ---- the parts of a tag
-- its name: what stands before the first space
unfoldable pub name_of : Bytes → Bytes
name_of [] = []
name_of (b ∷ s) = elim (eqb b (code " ")) [ true ↦ [] | false ↦ b ∷ name_of s ]

-- how many bytes stand before the first c
unfoldable pub until : ℕ → Bytes → ℕ
until c [] = 0
until c (b ∷ s) = elim (eqb b c) [ true ↦ 0 | false ↦ suc (until c s) ]

-- after the space before an attribute: the length of its name, and of what stands between its quotes
abbrev pub name_len_in : Bytes → ℕ
name_len_in s = until (code "=") s

abbrev pub value_len_in : Bytes → ℕ
value_len_in s = until (get_or s (1 + name_len_in s) 0) (drop (2 + name_len_in s) s)

-- its attributes in their order, each with the bytes between its quotes as they stand; k bytes are to be skipped
unfoldable pub parts : ℕ → Bytes → List Attr
parts k [] = []
parts (suc k) (b ∷ s) = parts k s
parts zero (b ∷ s) =
    elim (eqb b (code " ")) [
      | true ↦ attr (take (name_len_in s) s) (take (value_len_in s) (drop (2 + name_len_in s) s)) ∷ parts (3 + name_len_in s + value_len_in s) s
      | false ↦ parts 0 s
    ]

-- "Each is a node, a `T`'s `t` excepted": how many attributes a tag has that count
unfoldable pub count_but : Bytes → List Attr → ℕ
count_but t [] = 0
count_but t (x ∷ l) = elim (same t (attr_name x)) [ true ↦ 0 | false ↦ 1 ] + count_but t l

unfoldable pub attr_nodes : Bytes → ℕ
attr_nodes t = elim (same (name_of t) (bytes "T")) [ true ↦ count_but (bytes "t") (parts 0 t) | false ↦ length (parts 0 t) ]

-- "Nodes are elements and kept maximal runs of text; `T` elements are not counted.": how many nodes an element's tag is
unfoldable pub tag_nodes : Bytes → ℕ
tag_nodes t = elim (same (name_of t) (bytes "T")) [ true ↦ 0 | false ↦ 1 ] + attr_nodes t

-- "the name `T` anywhere"; an attribute "named `T`": the tag's name or that of an attribute is T
unfoldable pub named_t : Bytes → Bool
named_t t = same (name_of t) (bytes "T") || any (λ x. same (attr_name x) (bytes "T")) (parts 0 t)

-- ---- values: "Values use the text bytes except tab, LF and CR; `<`, `&` and the enclosing quote stand only as entities."
unfoldable pub is_quote : ℕ → Bool
is_quote q = among "\"'" q

-- no byte that ends a value between quotes q, or is of the three
unfoldable pub in_value : ℕ → ℕ → Bool
in_value q b = not (eqb b q || among "\t\n\r" b)

-- a byte that a value may mean
unfoldable pub is_inline : ℕ → Bool
is_inline b = is_legal b && not (among "\t\n\r" b)

-- ---- names: "A repeated name is 5"
-- a name that no attribute of the tag has yet
unfoldable pub is_new : List Bytes → Bytes → Bool
is_new used q = is_name q && not (any (same q) used)

unfoldable pub below : ℕ → List ℕ
below zero = []
below (suc n) = n ∷ below n

-- q begins, or is, a new name that is at most k bytes longer
unfoldable pub fresh : ℕ → List Bytes → Bytes → Bool
fresh zero used q = is_new used q
fresh (suc k) used q =
    elim (is_new used q) [
      | true ↦ true
      | false ↦
          elim (is_empty q || is_name q) [ true ↦ any (λ c. fresh k used (q ++ c ∷ [])) (below 128) | false ↦ false ]
    ]

-- how many bytes at the start of s, after the bytes q of a name, begin a new name of at most k bytes more
unfoldable pub fresh_len : ℕ → List Bytes → Bytes → Bytes → ℕ
fresh_len zero used q s = 0
fresh_len (suc k) used q [] = 0
fresh_len (suc k) used q (b ∷ s) =
    elim (fresh k used (q ++ b ∷ [])) [ true ↦ suc (fresh_len k used (q ++ b ∷ []) s) | false ↦ 0 ]

-- the same at the start of a name: of 32 bytes at most
abbrev pub new_len : List Bytes → Bytes → ℕ
new_len used s = fresh_len 32 used [] s

-- ---- tags that are as they are written
-- each name is new, after those that are used, and the values may stand
abbrev pub Fine : List Bytes → List Attr → Type 0
Fine used [] = Unit {0}
Fine used (attr n v ∷ l) = (is_new used n ≡ true) × (all is_inline v ≡ true) × Fine (n ∷ used) l

-- an archive's `T` has no attributes: its times are no attribute
pub data Written (a : Bool) : Bytes → Type 0 where
  bare : {n : Bytes} → is_name n ≡ true → Written a n
  attributed : (n : Bytes) (l : List Attr) → is_name n ≡ true → a && same n (bytes "T") ≡ false → Fine [] l → sort l ≡ l → Written a (n ++ attr_text l)

unfoldable pub tags_compute : Unit {0}
unfolding bytes_compute attr_name escape_value attr_text less insert sort tag_text name_of until parts count_but attr_nodes tag_nodes named_t is_quote in_value is_inline is_new below fresh fresh_len
tags_compute = tt

pub sorted-test : tag_text (bytes "a") (attr (bytes "b") (bytes "1<\"'") ∷ attr (bytes "ab") [] ∷ attr (bytes "a") (bytes ">&") ∷ []) ≡ bytes "a a=\">&amp;\" ab=\"\" b=\"1&lt;&quot;'\""
unfolding tags_compute
sorted-test = refl

pub parts-test : parts 0 (bytes "a b='x\"' c=\" d='\"") ≡ attr (bytes "b") (bytes "x\"") ∷ attr (bytes "c") (bytes " d='") ∷ []
unfolding tags_compute
parts-test = refl

-- a name that is used may begin a longer one, unless it has 32 bytes
pub fresh-test : fresh 31 (bytes "a" ∷ bytes "ab" ∷ []) (bytes "a") && not (fresh 0 (bytes "abcdefghijklmnopqrstuvwxyz012345" ∷ []) (bytes "abcdefghijklmnopqrstuvwxyz012345")) ≡ true
unfolding tags_compute
fresh-test = refl
