-- Laws of the loops between a lent table and one by value.
use Rattle.std.specs.Prelude.{ℕ, suc, ◌+◌, ◌≤◌, ◌<◌, ◌≡◌, refl, Bool, true, false, List, [], ◌∷◌, ◌++◌, eqb, length, set, take, drop, get_or}
use Rattle.std.proofs.Common.{arith, add-one, sym, ◌∙◌, ap, append_assoc, lit≤, length-append, length-drop, take-suc, drop-cons, length-take-le, eqb-true}
use Rattle.std.proofs.lemmas.List.{set_at}
use Rattle.marks.specs.Lent.{size_for, pick, over, blanks}

-- one entry more
pub over-next : {A : Type 0} (i : ℕ) (s t : List A) (z : A) → i < length s → i < length t → set (over i s t) i (get_or s i z) ≡ over (i + 1) s t
over-next i s t z a b =
    ap (λ l. set (take i s ++ l) i (get_or s i z)) (drop-cons t i z b)
    ∙ set_at (take i s) (get_or t i z) (drop (suc i) t) (get_or s i z) i (length-take-le i s (omega arith))
    ∙ sym (append_assoc (take i s) (get_or s i z ∷ []) (drop (suc i) t))
    ∙ ap (λ l. l ++ drop (suc i) t) (sym (take-suc s i z a))
    ∙ ap (λ n. over n s t) (sym (add-one i))

pub over-length : {A : Type 0} (i : ℕ) (s t : List A) → i ≤ length s → i ≤ length t → length (over i s t) ≡ length t
over-length i s t a b = simp (length-append, length-drop) (rw (length-take-le i s a) (omega arith))

pub size_small : (n : ℕ) → size_for n ≤ 32
size_small n = at (eqb n 32)
  where
    at : (b : Bool) → pick b ≤ 32
    at true = lit≤ tt
    at false = lit≤ tt

pub size-within : (n : ℕ) → size_for n ≤ n
size-within n = at (eqb n 32) refl
  where
    at : (b : Bool) → eqb n 32 ≡ b → pick b ≤ n
    at true e = let h = eqb-true n 32 e in omega arith
    at false e = omega arith

pub blanks-length : length blanks ≡ 32
unfolding blanks
blanks-length = refl
