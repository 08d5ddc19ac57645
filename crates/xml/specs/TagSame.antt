-- Two tags mean the same where their names are the same, and their attributes mean the same one by one, by ascending names.
use Rattle.std.specs.Prelude.{ℕ, ◌+◌, ◌≤◌, ◌<◌, ◌≡◌, refl, true, false, ◌&&◌, List, [], ◌∷◌, ◌++◌, map, leb, length}
use Rattle.std.proofs.Common.{arith, ap, ◌∙◌, leb-true, leb-false}
use Rattle.std.proofs.Math.Path.{ap₂, sym}
use Rattle.std.proofs.Math.Seq.{slice}
use Rattle.xml.specs.Bytes.{Bytes, same, same_by, is_name}
use Rattle.xml.specs.BytesLaws.{same-is, same_self}
use Rattle.xml.specs.Tags.{Attr, attr, attr_text, sort, tag_text, name_of, parts}
use Rattle.xml.specs.Grammar.{StartTag, bare, attributed}
use Rattle.xml.specs.Read.{unescape, means, tag_of}
use Rattle.xml.specs.Truth.{by-test, clash, not_so, both, both_true}
use Rattle.xml.specs.Names.{name-bytes}
use Rattle.xml.specs.TagLaws.{parts-name, parts-mean, start-name, start-means, start-raw, start-bare, fine-attributes, attributes-fine, sort-fine}
use Rattle.xml.specs.TagParts.{IsTag, part_at, attr_in, alike, sorted_from}
use Rattle.xml.specs.TagPlaces.{Reached, name-bare}
use Rattle.xml.specs.NextPart.{NextPart, sorted-here}
use Rattle.xml.specs.TagWritten.{tag-named, bare-means, sort-means, tag-text, sorted_all, sorted-next, sorted-over}
use Rattle.xml.specs.declared.tag.Part.{Part}

-- ---- lists of attributes
module _ (n v m w : Bytes) where
  pub alike-other : same n m ≡ false → alike (attr n v) (attr m w) ≡ false
  unfolding alike
  alike-other e = rw e

  pub alike-named : same n m ≡ true → alike (attr n v) (attr m w) ≡ same (unescape 0 v) (unescape 0 w)
  unfolding alike
  alike-named e = rw e

alike_is : (l k : List Attr) → same_by alike l k ≡ true → map means l ≡ map means k
unfolding same_by alike means
alike_is [] [] e = refl
alike_is [] (y ∷ k) e = clash (sym e)
alike_is (x ∷ l) [] e = clash (sym e)
alike_is (attr n v ∷ l) (attr m w ∷ k) e =
    let i = both_true (same n m && same (unescape 0 v) (unescape 0 w)) (same_by alike l k) e in
    let j = both_true (same n m) (same (unescape 0 v) (unescape 0 w)) i.0 in
    ap₂ (λ (x : Attr) (y : List Attr). x ∷ y) (ap₂ attr (same-is n m j.0) (same-is (unescape 0 v) (unescape 0 w) j.1)) (alike_is l k i.1)

is-alike : (l k : List Attr) → map means l ≡ map means k → same_by alike l k ≡ true
unfolding same_by alike means
is-alike [] [] e = refl
is-alike [] (y ∷ k) e = let z : ◌≡◌ {A = ℕ} 0 1 = cc in absurd (omega arith)
is-alike (x ∷ l) [] e = let z : ◌≡◌ {A = ℕ} 0 1 = cc in absurd (omega arith)
is-alike (attr n v ∷ l) (attr m w ∷ k) e =
    let a : n ≡ m = cc in
    let b : unescape 0 v ≡ unescape 0 w = cc in
    let c : map means l ≡ map means k = cc in
    both (both (ap (same n) (sym a) ∙ same_self n) (ap (same (unescape 0 v)) (sym b) ∙ same_self (unescape 0 v))) (is-alike l k c)

-- ---- tags
-- what a tag means has its name, and its attributes by ascending names
start-attrs : {w n t : Bytes} → StartTag false w n t → map means (parts 0 t) ≡ map means (sort (parts 0 w))
unfolding tag_text sort parts
start-attrs (bare {n = n} e) = ap (map means) (name-bare n e) ∙ sym (ap (λ (l : List Attr). map means (sort l)) (name-bare n e))
start-attrs (attributed {n = n} {u = u} {l = l} e p r) =
    ap (map means) (parts-name n (attr_text (sort l)) (name-bytes n e)) ∙ parts-mean (fine-attributes [] (sort l) (sort-fine [] l (attributes-fine r)))
    ∙ sym (sym (sort-means (parts 0 (n ++ u))) ∙ ap (λ (k : List Attr). sort (map means k)) (parts-name n u (name-bytes n e)) ∙ ap sort (parts-mean r))

tag-attrs : {s : Bytes} → IsTag s → map means (parts 0 (tag_of s)) ≡ map means (sort (parts 0 s))
tag-attrs t = ap (λ (x : Bytes). map means (parts 0 x)) (start-means t.start) ∙ start-attrs t.start

tag-name : {s : Bytes} → IsTag s → name_of (tag_of s) ≡ name_of s
tag-name t = ap name_of (start-means t.start) ∙ start-name t.start ∙ sym (start-raw t.start)

module _ {s₁ s₂ : Bytes} (t₁ : IsTag s₁) (t₂ : IsTag s₂) where
  pub tags-same : same (name_of s₁) (name_of s₂) ≡ true → same (tag_of s₁) (tag_of s₂) ≡ same_by alike (sort (parts 0 s₁)) (sort (parts 0 s₂))
  tags-same e =
      by-test (same_by alike (sort (parts 0 s₁)) (sort (parts 0 s₂)))
      (λ h.
      let i : tag_of s₁ ≡ tag_of s₂ = tag-text s₁ ∙ ap₂ (λ (n : Bytes) (l : List Attr). n ++ attr_text l) (same-is (name_of s₁) (name_of s₂) e) (alike_is (sort (parts 0 s₁)) (sort (parts 0 s₂)) h) ∙ sym (tag-text s₂) in
      ap (same (tag_of s₁)) (sym i) ∙ same_self (tag_of s₁) ∙ sym h)
      (λ h.
      not_so (same (tag_of s₁) (tag_of s₂)) (λ x.
      let i : tag_of s₁ ≡ tag_of s₂ = same-is (tag_of s₁) (tag_of s₂) x in
      clash (sym (is-alike (sort (parts 0 s₁)) (sort (parts 0 s₂)) (sym (tag-attrs t₁) ∙ ap (λ (y : Bytes). map means (parts 0 y)) i ∙ tag-attrs t₂)) ∙ h))
      ∙ sym h)

  pub tags-named : same (name_of s₁) (name_of s₂) ≡ false → same (tag_of s₁) (tag_of s₂) ≡ false
  tags-named e =
      not_so (same (tag_of s₁) (tag_of s₂)) (λ x.
      let i : name_of s₁ ≡ name_of s₂ = sym (tag-name t₁) ∙ ap name_of (same-is (tag_of s₁) (tag_of s₂) x) ∙ tag-name t₂ in
      clash (sym (ap (same (name_of s₁)) (sym i) ∙ same_self (name_of s₁)) ∙ e))

pub tags-spelled : (s₁ s₂ : Bytes) → same s₁ s₂ ≡ true → same (tag_of s₁) (tag_of s₂) ≡ true
tags-spelled s₁ s₂ e = ap (λ (x : Bytes). same (tag_of s₁) (tag_of x)) (sym (same-is s₁ s₂ e)) ∙ same_self (tag_of s₁)

-- what means a name alone is spelled so
bare-spelled : {s : Bytes} (n : Bytes) → IsTag s → is_name n ≡ true → tag_of s ≡ n → s ≡ n
bare-spelled n t e h =
    let i = sym (start-means t.start) ∙ h in
    let j = start-bare t.start (ap is_name i ∙ e) in
    j.0 ∙ sym j.1 ∙ i

bare-one : {s₁ s₂ : Bytes} → IsTag s₁ → IsTag s₂ → same s₁ (name_of s₁) ≡ true → tag_of s₁ ≡ tag_of s₂ → s₁ ≡ s₂
bare-one {s₁} {s₂} t₁ t₂ b i = sym (bare-spelled s₁ t₂ (ap is_name (same-is s₁ (name_of s₁) b) ∙ tag-named t₁) (sym i ∙ bare-means t₁ b))

module _ {s₁ s₂ : Bytes} (t₁ : IsTag s₁) (t₂ : IsTag s₂) (d : same s₁ s₂ ≡ false) where
  pub bare-first : same s₁ (name_of s₁) ≡ true → same (tag_of s₁) (tag_of s₂) ≡ false
  bare-first b =
      not_so (same (tag_of s₁) (tag_of s₂)) (λ x. clash (sym (ap (same s₁) (sym (bare-one t₁ t₂ b (same-is (tag_of s₁) (tag_of s₂) x))) ∙ same_self s₁) ∙ d))

  pub bare-second : same s₂ (name_of s₂) ≡ true → same (tag_of s₁) (tag_of s₂) ≡ false
  bare-second b =
      not_so (same (tag_of s₁) (tag_of s₂)) (λ x. clash (sym (ap (same s₁) (bare-one t₂ t₁ b (sym (same-is (tag_of s₁) (tag_of s₂) x))) ∙ same_self s₁) ∙ d))

-- ---- the attributes of two tags on the way: those that were passed mean the same
pub record Comparing (s₁ : Bytes) (i : ℕ) (s₂ : Bytes) (j : ℕ) : Type 0 where
  pub reached₁ : Reached s₁ i
  pub reached₂ : Reached s₂ j
  pub is : same_by alike (sort (parts 0 s₁)) (sort (parts 0 s₂)) ≡ same_by alike (sorted_from s₁ i) (sorted_from s₂ j)

module _ {s₁ s₂ : Bytes} where
  pub comparing-start : {i j : ℕ} → IsTag s₁ → IsTag s₂ → NextPart s₁ (slice 0 0 s₁) i → NextPart s₂ (slice 0 0 s₂) j → Comparing s₁ i s₂ j
  comparing-start t₁ t₂ x y = record { reached₁ = x.reached; reached₂ = y.reached; is = ap₂ (same_by alike) (sorted_all t₁ x) (sorted_all t₂ y) }

  module _ {i j : ℕ} (c : Comparing s₁ i s₂ j) (h : i < length s₁) where
    pub comparing-short : length s₂ ≤ j → same_by alike (sort (parts 0 s₁)) (sort (parts 0 s₂)) ≡ false
    unfolding same_by
    comparing-short k = c.is ∙ ap₂ (same_by alike) (sorted-here s₁ i h) (sorted-over c.reached₂ k)

    module _ {p q : Part} (k : j < length s₂) (e : p ≡ part_at s₁ i) (f : q ≡ part_at s₂ j) where
      pub comparing-other : alike (attr_in s₁ i p) (attr_in s₂ j q) ≡ false → same_by alike (sort (parts 0 s₁)) (sort (parts 0 s₂)) ≡ false
      unfolding same_by
      comparing-other d = c.is ∙ ap₂ (same_by alike) (sorted-here s₁ i h) (sorted-here s₂ j k) ∙ rw (ap₂ (λ (x y : Part). alike (attr_in s₁ i x) (attr_in s₂ j y)) (sym e) (sym f) ∙ d)

      pub comparing-next : {i' j' : ℕ} → alike (attr_in s₁ i p) (attr_in s₂ j q) ≡ true → NextPart s₁ (slice (i + 1) p.equals s₁) i' → NextPart s₂ (slice (j + 1) q.equals s₂) j' → Comparing s₁ i' s₂ j'
      unfolding same_by
      comparing-next d x y =
          record {
            reached₁ = x.reached;
            reached₂ = y.reached;
            is = c.is ∙ ap₂ (same_by alike) (sorted-next h e x) (sorted-next k f y) ∙ rw d;
          }

  pub comparing-end : {i j : ℕ} → Comparing s₁ i s₂ j → length s₁ ≤ i → leb (length s₂) j ≡ same_by alike (sort (parts 0 s₁)) (sort (parts 0 s₂))
  unfolding same_by
  comparing-end {i} {j} c h =
      by-test (leb (length s₂) j)
      (λ k. k ∙ sym (c.is ∙ ap₂ (same_by alike) (sorted-over c.reached₁ h) (sorted-over c.reached₂ (leb-true (length s₂) j k))))
      (λ k. k ∙ sym (c.is ∙ ap₂ (same_by alike) (sorted-over c.reached₁ h) (sorted-here s₂ j (leb-false (length s₂) j k))))
