-- The text of the outer `T` of an archive of n versions, and n: what reading it as a set tells.
use Rattle.std.specs.Prelude.{ℕ, ◌+◌, ◌-◌, ◌≤◌, ◌≡◌, Bool, false, not, ◌&&◌}
use Rattle.std.proofs.Common.{arith, ◌∙◌, ap₂}
use Rattle.std.proofs.Math.Path.{refl, sym, ap, subst}
use Rattle.std.proofs.Math.Bool.{true}
use borrow.Author.Tests.{le-leb, lt-leb, leb-true, leb-false, lt-ltb}
use Rattle.std.proofs.Math.Dec.{leb}
use Rattle.xml.specs.Bytes.{Bytes, same}
use Rattle.xml.specs.BytesLaws.{same-is, same_self}
use Rattle.xml.specs.Truth.{by-test, clash, not_so, both_true, and_both}
use Rattle.timestamp.specs.Times.{always, write_times, last_number}
use Rattle.timestamp.specs.TimesLaws.{last-always}
use Rattle.timestamp.specs.Set.{up_to, outside, same_set, first_in}
use Rattle.timestamp.specs.Tests.{same-tells, same-told}
use Rattle.timestamp.specs.First.{first-is, first-high}
use Rattle.timestamp.specs.Listed.{text_of, Only, only-up-to, only-more, only-past, listed-cong, text-inj, text-up-to}
use Rattle.timestamp.specs.Parse.{refused, accepted, parsed}
use Rattle.timestamp.specs.Parses.{text-parse, parse-text}

-- the text is that of the versions 1 to its last number
unfoldable pub is_outer : Bytes → Bool
is_outer s = leb 1 (last_number s) && leb (last_number s) 999 && same s (write_times (always (last_number s)))

-- the n of the versions 1 to n whose text it is, or 0 if there are none
unfoldable pub outer_last : Bytes → ℕ
outer_last s = elim (is_outer s) [ true ↦ last_number s | false ↦ 0 ]

pub outer-yes : (s : Bytes) → is_outer s ≡ true → outer_last s ≡ last_number s
unfolding outer_last
outer-yes s e = rw (e, outer_last)

pub outer-no : (s : Bytes) → is_outer s ≡ false → outer_last s ≡ 0
unfolding outer_last
outer-no s e = rw (e, outer_last)

module _ (s : Bytes) where
  -- what the test tells
  pub outer_tells : is_outer s ≡ true → (1 ≤ last_number s) × (last_number s ≤ 999) × (s ≡ text_of (up_to (last_number s)))
  unfolding is_outer
  outer_tells e =
      let n = last_number s in
      let h = both_true (leb 1 n && leb n 999) (same s (write_times (always n))) e in
      let g = both_true (leb 1 n) (leb n 999) h.0 in
      (leb-true 1 n g.0, leb-true n 999 g.1, same-is s (write_times (always n)) h.1 ∙ sym (text-up-to n (leb-true n 999 g.1)))

  -- the text of the versions 1 to n
  outer_told : (n : ℕ) → 1 ≤ n → n ≤ 999 → s ≡ text_of (up_to n) → outer_last s ≡ n
  unfolding is_outer
  outer_told n l h e =
      let q : s ≡ write_times (always n) = e ∙ text-up-to n h in
      let m : last_number s ≡ n = ap last_number q ∙ last-always n l h in
      let t : is_outer s ≡ true =
      subst (λ x. (leb 1 x && leb x 999 && same s (write_times (always x))) ≡ true) (sym m)
      (and_both (leb 1 n && leb n 999) (same s (write_times (always n))) (and_both (leb 1 n) (leb n 999) (le-leb 1 n l) (le-leb n 999 h)) (ap (same s) (sym q) ∙ same_self s)) in
      outer-yes s t ∙ m

  -- it is at most 999
  pub outer-most : outer_last s ≤ 999
  outer-most = by-test (is_outer s) (λ e. omega (arith, outer-yes s e, (outer_tells e).1)) (λ e. omega (arith, outer-no s e))

  -- a text that is read as no set
  pub outer-refused : parsed s ≡ refused → outer_last s ≡ 0
  outer-refused e = outer-no s (not_so (is_outer s) (λ h.
      let g = outer_tells h in
      let n = last_number s in
      let o : Only 999 (up_to n) = only-more n 999 (up_to n) g.1 (only-up-to n) in
      let i : up_to n 1 ≡ true = and_both (leb 1 1) (leb 1 n) refl (le-leb 1 n g.0) in
      let z : refused ≡ accepted (up_to n) = sym e ∙ ap parsed g.2 ∙ parse-text (up_to n) 1 o i in
      let y : ◌≡◌ {A = ℕ} 0 1 = cc in omega arith))

  -- one that is read as the set t, whose first gap from 1 on comes after n
  module _ (t g : ℕ → Bool) (e : parsed s ≡ accepted t) (gaps : g ≡ outside t) (n : ℕ) (first : n ≡ first_in (1024 - 1) g 1 - 1) where
    set-up-to : is_outer s ≡ true → t ≡ up_to (last_number s)
    set-up-to h =
        let f = text-parse s t e in
        let m = last_number s in
        let w = outer_tells h in
        text-inj t (up_to m) f.1 (only-more m 999 (up_to m) w.1 (only-up-to m)) (sym f.0 ∙ w.2)

    gap-after : (m : ℕ) → 1 ≤ m → m ≤ 999 → t ≡ up_to m → n ≡ m
    gap-after m l h d =
        let z : first_in (1024 - 1) g 1 ≡ m + 1 =
        first-is g (1024 - 1) 1 (m + 1) (omega arith) (omega arith)
        (λ u a b. ap (λ x. x u) (gaps ∙ ap outside d) ∙ ap₂ (λ x y. x && y) (lt-ltb u 1024 (omega arith)) (ap not (and_both (leb 1 u) (leb u m) (le-leb 1 u a) (le-leb u m (omega arith)))))
        (λ b. ap (λ x. x (m + 1)) (gaps ∙ ap outside d) ∙ ap₂ (λ x y. x && y) (lt-ltb (m + 1) 1024 (omega arith)) (ap not (ap₂ (λ x y. x && y) (le-leb 1 (m + 1) (omega arith)) (lt-leb (m + 1) m (omega arith))))) in
        omega (arith, first, z)

    pub outer-other : same_set t (up_to n) ≡ false → outer_last s ≡ 0
    outer-other d = outer-no s (not_so (is_outer s) (λ h.
        let w = outer_tells h in
        let m = last_number s in
        let q : n ≡ m = gap-after m w.0 w.1 (set-up-to h) in
        clash (sym (same-told t (up_to n) (λ v l. ap (λ x. x v) (set-up-to h ∙ ap up_to (sym q)))) ∙ d)))

    pub outer_same : same_set t (up_to n) ≡ true → outer_last s ≡ n
    unfolding text_of
    outer_same d =
        let f = text-parse s t e in
        by-test (leb 1 n)
        (λ l. by-test (leb n 999)
        (λ h. outer_told n (leb-true 1 n l) (leb-true n 999 h) (f.0 ∙ ap write_times (listed-cong 999 t (up_to n) (λ v a b. same-tells t (up_to n) d v (omega arith)))))
        (λ h. clash (sym (and_both (leb 1 1000) (leb 1000 n) refl (le-leb 1000 n (omega (arith, leb-false n 999 h)))) ∙ sym (same-tells t (up_to n) d 1000 (omega arith)) ∙ only-past 999 t f.1 1000 (omega arith))))
        (λ l.
        let z : n ≡ 0 = omega (arith, leb-false 1 n l) in
        outer-no s (not_so (is_outer s) (λ h.
        let w = outer_tells h in
        let q : n ≡ last_number s = gap-after (last_number s) w.0 w.1 (set-up-to h) in
        omega (arith, w.0, q))) ∙ sym z)

  -- one that is read as the set t, which has no gap from 1 on
  pub outer-none : (t g : ℕ → Bool) → parsed s ≡ accepted t → g ≡ outside t → 1024 ≤ first_in (1024 - 1) g 1 → outer_last s ≡ 0
  outer-none t g e gaps far =
      let z : first_in (1024 - 1) g 1 - 1 ≡ 1023 = omega (arith, first-high g (1024 - 1) 1) in
      by-test (same_set t (up_to 1023)) (λ d. absurd (omega (arith, outer-most, outer_same t g e gaps 1023 (sym z) d)))
      (λ d. outer-other t g e gaps 1023 (sym z) d)
