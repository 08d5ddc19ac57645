-- A run of name bytes, as the first place where there is none.
use Rattle.std.specs.Prelude.{ℕ, zero, suc, ◌+◌, ◌≤◌, ◌≡◌, refl, Bool, List, not, ltb, [], ◌∷◌, leb, min, length, take, drop}
use Rattle.std.proofs.Common.{arith, ap, sym, ◌∙◌, take_all, length-drop}
use Rattle.std.proofs.lemmas.List.{drop-take}
use Rattle.std.proofs.lemmas.List.Sums.{prefix_len-le-length}
use Rattle.std.proofs.Math.Seq.{slice}
use Rattle.std.specs.List.{position, position_or_len}
use Rattle.std.specs.Option.{unwrap_or}
use borrow.Author.Tests.{leb-true, leb-false, ltb-false}
use Rattle.xml.specs.Bytes.{Bytes, is_name_byte}
use Rattle.xml.specs.Truth.{by-test}
use Rattle.xml.specs.Read.{name_rest}
use Rattle.xml.specs.ScanLaws.{name_rest-cons, name_rest-off}

abbrev is_other : ℕ → Bool
is_other b = not (is_name_byte b)

pub position-or : {A : Type 0} (p : A → Bool) (l : List A) → unwrap_or (position p l) (length l) ≡ position_or_len p l
position-or p l =
    let h : position_or_len p l ≤ length l = prefix_len-le-length (λ x. not (p x)) l in
    by-test (ltb (position_or_len p l) (length l)) (λ e. rw e refl) (λ e. let g = ltb-false (position_or_len p l) (length l) e in rw e (omega arith))

rest-is : (r : ℕ) (s : Bytes) → name_rest r s ≡ position_or_len is_other (take r s)
unfolding name_rest
rest-is zero s = refl
rest-is (suc r) [] = refl
rest-is (suc r) (b ∷ s) = let h = rest-is r s in by-test (is_name_byte b) (λ e. name_rest-cons r b s e ∙ rw e (omega arith)) (λ e. name_rest-off (suc r) b s e ∙ rw e refl)

-- the bytes from a place on, 33 at most
module _ (s : Bytes) (at e : ℕ) (q : e ≡ min (length s) (at + 33)) (h : at ≤ length s) where
  part-is : slice at e s ≡ take 33 (drop at s)
  part-is = by-test (leb (at + 33) (length s))
      (λ t. let y = leb-true (at + 33) (length s) t in let z : e ≡ at + 33 = omega arith in ap (λ (x : ℕ). slice at x s) z ∙ drop-take at 33 s)
      (λ t. let y = leb-false (at + 33) (length s) t in let z : e ≡ length s = omega arith in
      ap (λ (x : ℕ). slice at x s) z ∙ ap (drop at) (take_all (length s) s (omega arith)) ∙ sym (take_all 33 (drop at s) (omega (arith, length-drop at s))))

  pub run-is : unwrap_or (position is_other (slice at e s)) (length (slice at e s)) ≡ name_rest 33 (drop at s)
  run-is = position-or is_other (slice at e s) ∙ ap (position_or_len is_other) part-is ∙ sym (rest-is 33 (drop at s))
