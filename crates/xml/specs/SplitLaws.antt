-- Splitting a text at bytes that its parts are free of.
use Rattle.std.specs.Prelude.{ℕ, ◌≡◌, refl, Bool, true, false, List, [], ◌∷◌, ◌++◌}
use Rattle.std.proofs.Common.{append-nil}
use Rattle.xml.specs.Bytes.{Bytes, all, split, push}
use Rattle.xml.specs.Truth.{and_left, and_right}

-- no byte of s passes the test
abbrev pub Free : (ℕ → Bool) → Bytes → Type 0
Free f [] = Unit {0}
Free f (b ∷ s) = (f b ≡ false) × Free f s

pub free-append : (f : ℕ → Bool) (s t : Bytes) → Free f s → Free f t → Free f (s ++ t)
free-append f [] t h g = g
free-append f (b ∷ s) t h g = (h.0, free-append f s t h.1 g)

pub free_all : (P f : ℕ → Bool) → ((b : ℕ) → P b ≡ true → f b ≡ false) → (s : Bytes) → all P s ≡ true → Free f s
unfolding all
free_all P f h [] e = tt
free_all P f h (b ∷ s) e = (h b (and_left (P b) _ e), free_all P f h s (and_right (P b) _ e))

pub split_one : (f : ℕ → Bool) (b : ℕ) (t h : Bytes) (w : List Bytes) → f b ≡ false → split f t ≡ h ∷ w → split f (b ∷ t) ≡ (b ∷ h) ∷ w
unfolding split push
split_one f b t h w g e = rw (g, split) (rw e refl)

pub split-free : (f : ℕ → Bool) (s t h : Bytes) (w : List Bytes) → Free f s → split f t ≡ h ∷ w → split f (s ++ t) ≡ (s ++ h) ∷ w
split-free f [] t h w g e = e
split-free f (b ∷ s) t h w g e = split_one f b (s ++ t) (s ++ h) w g.0 (split-free f s t h w g.1 e)

pub split-alone : (f : ℕ → Bool) (s : Bytes) → Free f s → split f s ≡ s ∷ []
unfolding split
split-alone f s g = rw (← append-nil s) (split-free f s [] [] [] g refl)

pub split-sep : (f : ℕ → Bool) (c : ℕ) (t : Bytes) → f c ≡ true → split f (c ∷ t) ≡ [] ∷ split f t
unfolding split
split-sep f c t e = rw (e, split) refl
