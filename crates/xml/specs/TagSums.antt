-- Counting over the attributes of a tag, one after another as they stand.
use Rattle.std.specs.Prelude.{ℕ, zero, suc, ◌+◌, ◌*◌, ◌-◌, ◌≤◌, ◌≡◌, Bool, true, false, ◌&&◌, List, [], ◌∷◌, map, eqb, length, take, drop, get_or}
use Prim.Native.Char.{code}
use Rattle.std.proofs.Common.{arith, sym, ◌∙◌, length-append}
use Rattle.std.proofs.Math.Path.{refl, ap}
use Rattle.std.proofs.Math.Seq.{slice, slice_empty, length-slice}
use Rattle.xml.specs.Bytes.{Bytes, bytes, any, same, same_by}
use Rattle.xml.specs.BytesLaws.{same-is, same_self}
use Rattle.xml.specs.CompareLaws.{same-lengths}
use Rattle.xml.specs.SignLaws.{slice_first}
use Rattle.xml.specs.Truth.{by-test}
use Rattle.xml.specs.Tags.{Attr, attr, attr_name, attr_text, sort, tag_text, name_of, name_len_in, value_len_in, parts, count_but, attr_nodes, tag_nodes, named_t}
use Rattle.xml.specs.Read.{unescape, means, tag_of}
use Rattle.xml.specs.TagLaws.{text-long, sort-long, same_not}
use Rattle.xml.specs.TagParts.{IsTag, attr_in, quoted}
use Rattle.xml.specs.TagPlaces.{Reached, PartIn, tag-start, tag-first, none_left}
use Rattle.xml.specs.TagWritten.{length-quoted}
use Rattle.xml.specs.declared.tag.Part.{Part}

unfoldable pub sum_of : (Attr → ℕ) → List Attr → ℕ
sum_of f [] = 0
sum_of f (x ∷ l) = f x + sum_of f l

-- of `whole`, n was counted up to the place i, at most six for each byte
pub record Summed (f : Attr → ℕ) (s : Bytes) (whole i n : ℕ) : Type 0 where
  pub reached : Reached s i
  pub small : n ≤ 6 * i
  pub is : whole ≡ n + sum_of f (parts 0 (drop i s))

module _ {f : Attr → ℕ} {s : Bytes} {whole : ℕ} where
  pub summed-start : {i n : ℕ} → IsTag s → i ≡ length (name_of s) → n ≤ 6 * i → whole ≡ n + sum_of f (parts 0 s) → Summed f s whole i n
  summed-start {i} {n} t e h d =
      record { reached = rw e (tag-start t); small = h; is = d ∙ ap (λ (l : List Attr). n + sum_of f l) (rw e (tag-first t)) }

  pub summed-next : {i n k m : ℕ} {g : Part} (d : ℕ) → Summed f s whole i n → PartIn s i g → d ≡ f (attr_in s i g) → i + d ≤ 6 * (g.end + 1 - i) + i → k ≡ g.end + 1 → m ≡ n + d → Summed f s whole k m
  unfolding sum_of
  summed-next {i} {n} {k} {m} {g} d x p e h z y =
      let q : sum_of f (parts 0 (drop i s)) ≡ f (attr_in s i g) + sum_of f (parts 0 (drop k s)) = ap (sum_of f) p.first ∙ ap (λ (j : ℕ). f (attr_in s i g) + sum_of f (parts 0 (drop j s))) (sym z) in
      record { reached = rw z p.next; small = omega (arith, x.small, p.named, p.valued); is = omega (arith, x.is) }

  pub summed-end : {i n : ℕ} → Summed f s whole i n → length s ≤ i → n ≡ whole
  unfolding sum_of
  summed-end x h = omega (arith, x.is, ap (sum_of f) (none_left x.reached h))

-- ---- what is counted: attributes; those of other names; and their length, written
pub sum_ones : (l : List Attr) → length l ≡ sum_of (λ x. 1) l
unfolding sum_of
sum_ones [] = refl
sum_ones (x ∷ l) = omega (arith, sum_ones l)

unfoldable pub other : Bytes → Attr → ℕ
other t x = elim (same t (attr_name x)) [ true ↦ 0 | false ↦ 1 ]

pub sum-others : (t : Bytes) (l : List Attr) → count_but t l ≡ sum_of (other t) l
unfolding sum_of other count_but
sum-others t [] = refl
sum-others t (x ∷ l) = ap (λ (k : ℕ). elim (same t (attr_name x)) [ true ↦ 0 | false ↦ 1 ] + k) (sum-others t l)

unfoldable pub written : Attr → ℕ
written (attr n v) = 4 + length n + length (quoted v)

sum-written : (l : List Attr) → length (attr_text (map means l)) ≡ sum_of written l
unfolding sum_of written means attr_text
sum-written [] = refl
sum-written (attr n v ∷ l) = omega (arith, sum-written l, text-long n (unescape 0 v) (map means l))

pub tag-long : (s : Bytes) → length (tag_of s) ≡ length (name_of s) + sum_of written (parts 0 s)
unfolding tag_of tag_text
tag-long s = omega (arith, length-append (name_of s) (attr_text (sort (map means (parts 0 s)))), sort-long (map means (parts 0 s)), sum-written (parts 0 s))

module _ {s : Bytes} {i : ℕ} {g : Part} (p : PartIn s i g) {r : ℕ} (e : r ≡ length (quoted (slice (g.equals + 2) g.end s))) where
  pub part-written : g.equals - i + 3 + r ≡ written (attr_in s i g)
  unfolding written
  part-written = let h = p.named in let k = p.valued in let l = p.inside in omega (arith, length-slice (i + 1) g.equals s (omega arith))

  pub part_room : i + (g.equals - i + 3 + r) ≤ 6 * (g.end + 1 - i) + i
  part_room =
      let h = p.named in
      let k = p.valued in
      let l = p.inside in
      omega (arith, length-quoted (slice (g.equals + 2) g.end s), length-slice (g.equals + 2) g.end s (omega arith))

-- there are no more attributes than bytes
few-parts : (k : ℕ) (s : Bytes) → length (parts k s) ≤ length s
unfolding parts
few-parts k [] = omega arith
few-parts (suc k) (b ∷ s) = omega (arith, few-parts k s)
few-parts zero (b ∷ s) = at (eqb b (code " ")) (few-parts (3 + name_len_in s + value_len_in s) s) (few-parts 0 s)
  where
    at : (t : Bool) → length (parts (3 + name_len_in s + value_len_in s) s) ≤ length s → length (parts 0 s) ≤ length s →
        length {A = Attr} (elim t [
          | true ↦ attr (take (name_len_in s) s) (take (value_len_in s) (drop (2 + name_len_in s) s)) ∷ parts (3 + name_len_in s + value_len_in s) s
          | false ↦ parts 0 s
        ]) ≤ suc (length s)
    at true h g = omega arith
    at false h g = omega arith

pub parts-few : (s : Bytes) → length (parts 0 s) ≤ length s
parts-few s = few-parts 0 s

-- ---- names of one byte
pub byte-same : (s : Bytes) (a e b : ℕ) → e ≡ a + 1 → e ≤ length s → eqb (get_or s a 0) b ≡ same (slice a e s) (b ∷ [])
unfolding same same_by
byte-same s a e b z h = rw (slice_first a e s (omega arith) h, z, slice_empty (a + 1) s) (sym (only (eqb (get_or s a 0) b)))
  where
    only : (x : Bool) → x && true ≡ x
    only true = refl
    only false = refl

pub byte-other : (s : Bytes) (a e b : ℕ) → (e - a ≡ 1 → ⊥) → e ≤ length s → same (slice a e s) (b ∷ []) ≡ false
byte-other s a e b n h = same-lengths (slice a e s) (b ∷ []) (λ x. n (sym (length-slice a e s h) ∙ x))

same-swap : (s t : Bytes) → same s t ≡ same t s
same-swap s t = by-test (same s t) (λ e. e ∙ sym (ap (λ (x : Bytes). same x s) (sym (same-is s t e)) ∙ same_self s)) (λ e. e ∙ sym (same_not s t e))

module _ (s : Bytes) (i : ℕ) (g : Part) (b : ℕ) where
  pub one-not : same (slice (i + 1) g.equals s) (b ∷ []) ≡ false → 1 ≡ other (b ∷ []) (attr_in s i g)
  unfolding other attr_name
  one-not e = rw (same-swap (b ∷ []) (slice (i + 1) g.equals s) ∙ e, other)

  pub one-so : same (slice (i + 1) g.equals s) (b ∷ []) ≡ true → 0 ≡ other (b ∷ []) (attr_in s i g)
  unfolding other attr_name
  one-so e = rw (same-swap (b ∷ []) (slice (i + 1) g.equals s) ∙ e, other)

-- the name of a tag is its first bytes
name-first : (s : Bytes) → take (length (name_of s)) s ≡ name_of s
unfolding name_of
name-first [] = refl
name-first (b ∷ s) = at (eqb b (code " ")) (name-first s)
  where
    at : (x : Bool) → take (length (name_of s)) s ≡ name_of s → take (length {A = ℕ} (elim x [ true ↦ [] | false ↦ b ∷ name_of s ])) (b ∷ s) ≡ elim x [ true ↦ [] | false ↦ b ∷ name_of s ]
    at true h = refl
    at false h = ap (b ∷◌) h

pub name-part : (s : Bytes) (i : ℕ) → i ≡ length (name_of s) → slice 0 i s ≡ name_of s
name-part s i e = ap (λ (k : ℕ). take k s) e ∙ name-first s

module _ (s : Bytes) where
  pub nodes-T : same (name_of s) (bytes "T") ≡ true → count_but (bytes "t") (parts 0 s) ≡ tag_nodes s
  unfolding tag_nodes attr_nodes
  nodes-T e = rw (e, attr_nodes) (omega arith)

  pub nodes-other : same (name_of s) (bytes "T") ≡ false → 1 + length (parts 0 s) ≡ tag_nodes s
  unfolding tag_nodes attr_nodes
  nodes-other e = rw (e, attr_nodes)

-- ---- a tag or an attribute named `T`: none up to the place i
abbrev pub is_t : Attr → Bool
is_t x = same (attr_name x) (bytes "T")

pub record Searched (s : Bytes) (i : ℕ) : Type 0 where
  pub reached : Reached s i
  pub is : named_t s ≡ any is_t (parts 0 (drop i s))

pub named-first : (s : Bytes) → same (name_of s) (bytes "T") ≡ true → named_t s ≡ true
unfolding named_t
named-first s e = rw e

module _ {s : Bytes} where
  pub searched-start : {i : ℕ} → IsTag s → same (name_of s) (bytes "T") ≡ false → i ≡ length (name_of s) → Searched s i
  unfolding named_t
  searched-start t e d = record { reached = rw d (tag-start t); is = rw (e, d) (ap (any is_t) (tag-first t)) }

  module _ {i : ℕ} {g : Part} (x : Searched s i) (p : PartIn s i g) where
    pub searched-hit : same (slice (i + 1) g.equals s) (bytes "T") ≡ true → named_t s ≡ true
    unfolding any attr_name
    searched-hit e = x.is ∙ ap (any is_t) p.first ∙ rw e

    pub searched-next : {k : ℕ} → same (slice (i + 1) g.equals s) (bytes "T") ≡ false → k ≡ g.end + 1 → Searched s k
    unfolding any attr_name
    searched-next e z = record { reached = rw z p.next; is = x.is ∙ ap (any is_t) p.first ∙ rw (e, z) refl }

  pub searched-none : {i : ℕ} → Searched s i → length s ≤ i → named_t s ≡ false
  unfolding any
  searched-none x h = x.is ∙ ap (any is_t) (none_left x.reached h)
