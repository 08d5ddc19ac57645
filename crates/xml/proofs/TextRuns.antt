-- A run of text as its bytes are passed: plain bytes at once, the others one by one.
use Prim.Native.Nat.{ℕ, ◌+◌, ◌-◌, ◌<◌, ◌≤◌}
use native.Mathlib.Omega.{arith}
use mathlib.Core.Path.{◌≡◌, ap, sym, ◌∙◌, subst}
use mathlib.Core.Bool.{true}
use borrow.Author.Tests.{ltb-true, ltb-false}
use lib.Dec.{ltb}
use lib.ListN.{length, drop, get_or, length-drop}
use Rattle.xml.specs.Bytes.{Bytes}
use Rattle.xml.specs.ByteTests.{is_plain}
use Rattle.xml.specs.Read.{text_byte, scan}
use Rattle.xml.specs.Stretch.{Passed, brackets_after, brackets-off, brackets-stay, scan-passed}
use Rattle.xml.specs.TextLaws.{Reach, here-reach, scan-end, scan-over, scan-off, scan-on}
use Rattle.xml.specs.Truth.{by-test}
use Rattle.std.specs.Prelude.{Result, Ok, Err, Option, Some, None}

-- the run from `at` is the run from j, after q times `]`
pub record Reached (src : Bytes) (at j q : ℕ) : Type 0 where
  pub forward : at ≤ j
  pub inside : j ≤ length src
  pub few : q ≤ j
  pub same : scan 0 0 0 (drop at src) ≡ scan q 0 (j - at) (drop j src)

brackets-most : (q i e : ℕ) → brackets_after q i e ≤ q
brackets-most q i e =
    by-test (ltb i e) (λ t. omega (arith, brackets-off q i e (ltb-true i e t))) (λ t. omega (arith, brackets-stay q i e (ltb-false i e t)))

pub run-start : {src : Bytes} {at j : ℕ} → Passed is_plain true src at (length src) j → Reached src at j 0
run-start {src} {at} {j} p =
    let none : brackets_after 0 at j ≡ 0 = omega (arith, brackets-most 0 at j) in
    let n : 0 + (j - at) ≡ j - at = omega arith in
    record {
      forward = p.forward;
      inside = p.inside;
      few = omega arith;
      same = scan-passed 0 0 p ∙ ap (λ (q : ℕ). scan q 0 (0 + (j - at)) (drop j src)) none ∙ ap (λ (m : ℕ). scan 0 0 m (drop j src)) n;
    }

module _ {src : Bytes} {at j q : ℕ} (w : Reached src at j q) where
  pub run_end : length src ≤ j → scan 0 0 0 (drop at src) ≡ Ok (j - at)
  run_end h = w.same ∙ scan-end src q (j - at) j h

  module _ (h : j < length src) where
    pub run-over : text_byte q (get_or src j 0) (drop (j + 1) src) ≡ Ok None → scan 0 0 0 (drop at src) ≡ Ok (j - at)
    run-over e = w.same ∙ scan-over src q (j - at) j h e

    pub run-off : (k : ℕ) → text_byte q (get_or src j 0) (drop (j + 1) src) ≡ Err k → scan 0 0 0 (drop at src) ≡ Err (j - at + k)
    run-off k e = w.same ∙ scan-off src q (j - at) j k h e

    reach : (x : Result (Option (ℕ × ℕ)) ℕ) → text_byte q (get_or src j 0) (drop (j + 1) src) ≡ x → Reach q (length src - (j + 1)) x
    reach x e = subst (λ (y : Result (Option (ℕ × ℕ)) ℕ). Reach q (length src - (j + 1)) y) e (here-reach src q (j - at) j)

    pub off-fits : (k : ℕ) → text_byte q (get_or src j 0) (drop (j + 1) src) ≡ Err k → j + k ≤ length src
    off-fits k e = omega (arith, reach (Err k) e)

    pub on_fits : (k r : ℕ) → text_byte q (get_or src j 0) (drop (j + 1) src) ≡ Ok (Some (k, r)) → j + 1 + k ≤ length src
    on_fits k r e = omega (arith, (reach (Ok (Some (k, r))) e).0)

    pub run_on : (k r e b : ℕ) → text_byte q (get_or src j 0) (drop (j + 1) src) ≡ Ok (Some (k, r)) → Passed is_plain true src (j + 1 + k) (length src) e →
        b ≡ brackets_after r (j + 1 + k) e → Reached src at e b
    run_on k r e b x p y =
        let g : k ≤ length (drop (j + 1) src) = omega (arith, on_fits k r x, length-drop (j + 1) src) in
        let n : j - at + 1 + k + (e - (j + 1 + k)) ≡ e - at = omega (arith, w.forward, p.forward) in
        record {
          forward = omega (arith, w.forward, p.forward);
          inside = p.inside;
          few = omega (arith, w.few, p.forward, (reach (Ok (Some (k, r))) x).1, brackets-most r (j + 1 + k) e);
          same =
              w.same ∙ scan-on src q (j - at) j k r h x g ∙ scan-passed r (j - at + 1 + k) p ∙ ap (λ (c : ℕ). scan c 0 (j - at + 1 + k + (e - (j + 1 + k))) (drop e src)) (sym y) ∙
              ap (λ (m : ℕ). scan b 0 m (drop e src)) n;
        }
