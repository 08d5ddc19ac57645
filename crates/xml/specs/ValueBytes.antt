-- Which bytes a value may have, by comparing; and a value's scan at places of a text.
use Rattle.std.specs.Prelude.{ℕ, ◌+◌, ◌-◌, ◌≤◌, ◌<◌, ◌≡◌, refl, Bool, ◌&&◌, ◌||◌, leb, length, drop, get_or, Result, Ok, Err, Option, Some, None}
use Prim.Native.Char.{code}
use Rattle.std.proofs.Common.{arith, ap, sym, ◌∙◌, subst, length-drop, drop_of_length-le, drop-drop}
use Rattle.std.proofs.Math.Bool.{true, false, not}
use borrow.Author.Tests.{ne_eqb, lt-leb, leb-true, leb-false}
use Rattle.std.proofs.Math.Dec.{eqb}
use Rattle.xml.specs.Bytes.{Bytes, among, within, is_letter, is_digit, is_character}
use Rattle.xml.specs.declared.class.ByteClass.TheVariants.{Illegal, White, Start, Other, Markup, Plain}
use Rattle.xml.specs.Tags.{in_value, tags_compute}
use Rattle.xml.specs.Read.{value_byte, value}
use Rattle.xml.specs.Truth.{by-test, clash, both, and_left, and-false, neither, or-second}
use Rattle.xml.specs.GrammarLaws.{class_by, legal-character, lt-markup}
use Rattle.xml.specs.TextLaws.{at-cons}
use Rattle.xml.specs.Values.{ValueCase, over, hit, miss, plain as value-plain, off, value-case, value_turn, value-cons, value-skip, found-fits}

-- ---- the bytes
class-legal : (w n d m p : Bool) → p ≡ true → elim (class_by w n d m p) [ Illegal ↦ false | White ↦ true | Start ↦ true | Other ↦ true | Markup ↦ true | Plain ↦ true ] ≡ true
class-legal true n d m p e = refl
class-legal false true d m p e = refl
class-legal false false true m p e = refl
class-legal false false false true p e = refl
class-legal false false false false true e = refl
class-legal false false false false false e = e

class-none : (w n d m p : Bool) → w ≡ false → n ≡ false → d ≡ false → p ≡ false →
    elim (class_by w n d m p) [ Illegal ↦ false | White ↦ true | Start ↦ true | Other ↦ true | Markup ↦ false | Plain ↦ true ] ≡ false
class-none true n d m p e f g h = e
class-none false true d m p e f g h = f
class-none false false true m p e f g h = g
class-none false false false true p e f g h = refl
class-none false false false false true e f g h = h
class-none false false false false false e f g h = refl

and-not : (a b : Bool) → b ≡ false → a && b ≡ false
and-not true b e = e
and-not false b e = refl

not-and : (a b : Bool) → a ≡ false → a && b ≡ false
not-and true b e = clash e
not-and false b e = refl

module _ (q b : ℕ) where
  pub in-plain : within 0x20 0x7E b ≡ true → (b ≡ code "<" → ⊥) → (b ≡ code "&" → ⊥) → (b ≡ q → ⊥) → is_character b && in_value q b ≡ true
  unfolding tags_compute
  in-plain p n m e =
      let l : 32 ≤ b = leb-true 32 b (and_left (leb 32 b) (leb b 126) p) in
      both (legal-character b n m (class-legal (among "\t\n\r " b) (is_letter b || eqb b 95) (is_digit b || among ".-" b) (among "<&" b) (within 0x20 0x7E b) p))
      (rw (ne_eqb b q e, ne_eqb b 9 (λ x. omega arith), ne_eqb b 10 (λ x. omega arith), ne_eqb b 13 (λ x. omega arith)))

  in-high : 126 < b → is_character b && in_value q b ≡ false
  unfolding tags_compute
  in-high h =
      not-and (is_character b) (in_value q b)
      (class-none (among "\t\n\r " b) (is_letter b || eqb b 95) (is_digit b || among ".-" b) (among "<&" b) (within 0x20 0x7E b)
      (neither (ne_eqb b 9 (λ x. omega arith)) (neither (ne_eqb b 10 (λ x. omega arith)) (neither (ne_eqb b 13 (λ x. omega arith)) (neither (ne_eqb b 32 (λ x. omega arith)) refl))))
      (neither (neither (and-not (leb 65 b) (leb b 90) (lt-leb b 90 (omega arith))) (and-not (leb 97 b) (leb b 122) (lt-leb b 122 (omega arith)))) (ne_eqb b 95 (λ x. omega arith)))
      (neither (and-not (leb 48 b) (leb b 57) (lt-leb b 57 (omega arith))) (neither (ne_eqb b 46 (λ x. omega arith)) (neither (ne_eqb b 45 (λ x. omega arith)) refl)))
      (and-not (leb 32 b) (leb b 126) (lt-leb b 126 (omega arith))))

  in-low : b < 32 → is_character b && in_value q b ≡ false
  unfolding tags_compute
  in-low h =
      by-test (among "\t\n\r" b)
      (λ w. and-not (is_character b) (in_value q b) (ap not (or-second (eqb b q) (among "\t\n\r" b) w)))
      (λ w.
      not-and (is_character b) (in_value q b)
      (class-none (among "\t\n\r " b) (is_letter b || eqb b 95) (is_digit b || among ".-" b) (among "<&" b) (within 0x20 0x7E b)
      (wide w)
      (neither (neither (not-and (leb 65 b) (leb b 90) (lt-leb 65 b (omega arith))) (not-and (leb 97 b) (leb b 122) (lt-leb 97 b (omega arith)))) (ne_eqb b 95 (λ x. omega arith)))
      (neither (not-and (leb 48 b) (leb b 57) (lt-leb 48 b (omega arith))) (neither (ne_eqb b 46 (λ x. omega arith)) (neither (ne_eqb b 45 (λ x. omega arith)) refl)))
      (not-and (leb 32 b) (leb b 126) (lt-leb 32 b (omega arith)))))
    where
      wide : among "\t\n\r" b ≡ false → among "\t\n\r " b ≡ false
      wide w = at (eqb b 9) (eqb b 10) (eqb b 13) (eqb b 32) w (ne_eqb b 32 (λ x. omega arith))
        where
          at : (x y z s : Bool) → x || (y || (z || false)) ≡ false → s ≡ false → x || (y || (z || (s || false))) ≡ false
          at true y z s e f = e
          at false true z s e f = e
          at false false true s e f = e
          at false false false s e f = rw f

  pub in-other : within 0x20 0x7E b ≡ false → is_character b && in_value q b ≡ false
  unfolding within
  in-other e = by-test (leb 32 b) (λ h. in-high (leb-false b 126 (and-false h e))) (λ h. in-low (leb-false 32 b h))

  pub in-less : b ≡ code "<" → is_character b && in_value q b ≡ false
  in-less e = not-and (is_character b) (in_value q b) (ap is_character e ∙ lt-markup)

-- ---- a scan that has come to j
pub record Passed (src : Bytes) (at q j : ℕ) : Type 0 where
  pub from : at ≤ j
  pub to : j ≤ length src
  pub is : value q 0 0 (drop at src) ≡ value q 0 (j - at) (drop j src)

pub pass-start : {src : Bytes} {at q j : ℕ} → j ≡ at → at ≤ length src → Passed src at q j
pass-start {src} {at} {q} e h =
    let z : at - at ≡ 0 = omega arith in
    rw e (record { from = omega arith; to = h; is = rw z refl })

abbrev Told : ℕ → Result (Option (ℕ × ℕ)) ℕ → Type 0
Told m (Ok None) = 0 ≤ m
Told m (Ok (Some (k, r))) = k ≤ m
Told m (Err k) = k ≤ 1 + m

told : (q b : ℕ) (s : Bytes) → Told (length s) (value_byte q b s)
told q b s = go (value_byte q b s) (value-case q b s)
  where
    go : (o : Result (Option (ℕ × ℕ)) ℕ) → ValueCase q b s o → Told (length s) o
    go o (over e) = omega arith
    go o (hit {k = k} {c = c} x y z) = found-fits s (Ok (k, c)) z
    go o (miss {k = k} x y z) = let l : k ≤ length s = found-fits s (Err k) z in omega arith
    go o (value-plain x y z) = omega arith
    go o (off x y z) = omega arith

module _ {src : Bytes} {at q j : ℕ} (x : Passed src at q j) (h : j < length src) where
  abbrev Here : Result (Option (ℕ × ℕ)) ℕ
  Here = value_byte q (get_or src j 0) (drop (j + 1) src)

  turned : (o : Result (Option (ℕ × ℕ)) ℕ) → Here ≡ o → value q 0 0 (drop at src) ≡ value_turn q (j - at) (drop (j + 1) src) o
  turned o e = x.is ∙ ap (value q 0 (j - at)) (at-cons src 0 0 j h) ∙ value-cons q (j - at) (get_or src j 0) (drop (j + 1) src) ∙ ap (value_turn q (j - at) (drop (j + 1) src)) e

  pub pass-over : Here ≡ Ok None → value q 0 0 (drop at src) ≡ Ok (j - at)
  pass-over e = turned (Ok None) e

  pub pass-off : (k : ℕ) → Here ≡ Err k → value q 0 0 (drop at src) ≡ Err (j - at + k)
  pass-off k e = turned (Err k) e

  pub off-fits : (k : ℕ) → Here ≡ Err k → j + k ≤ length src
  off-fits k e = omega (arith, subst (Told (length (drop (j + 1) src))) e (told q (get_or src j 0) (drop (j + 1) src)), length-drop (j + 1) src)

  pub on_fits : (k r : ℕ) → Here ≡ Ok (Some (k, r)) → j + 1 + k ≤ length src
  on_fits k r e = omega (arith, subst (Told (length (drop (j + 1) src))) e (told q (get_or src j 0) (drop (j + 1) src)), length-drop (j + 1) src)

  pub pass_on : (k r : ℕ) (j' : ℕ) → Here ≡ Ok (Some (k, r)) → j' ≡ j + 1 + k → Passed src at q j'
  pass_on k r j' e d =
      let f = on_fits k r e in
      let l : k ≤ length (drop (j + 1) src) = omega (arith, length-drop (j + 1) src) in
      let a = x.from in
      let m : j - at + 1 + k ≡ j' - at = omega arith in
      record {
        from = omega arith;
        to = omega arith;
        is = turned (Ok (Some (k, r))) e ∙ value-skip q k (j - at + 1) (drop (j + 1) src) l ∙ ap (λ (i : ℕ). value q 0 i (drop k (drop (j + 1) src))) m
            ∙ ap (value q 0 (j' - at)) (drop-drop k (j + 1) src ∙ ap (λ (i : ℕ). drop i src) (sym d));
      }

pub pass-end : {src : Bytes} {at q j : ℕ} → Passed src at q j → length src ≤ j → value q 0 0 (drop at src) ≡ Err (j - at)
unfolding value
pass-end {src} {at} {q} {j} x h = x.is ∙ ap (value q 0 (j - at)) (drop_of_length-le src h)
