-- One pass over the words decides whether two sets agree, and what the answer tells.
use Rattle.std.specs.Prelude.{ℕ, zero, suc, ◌+◌, ◌*◌, ◌/◌, ◌%◌, ◌^◌, ◌<◌, ◌≡◌, refl, List, Bool, true, false, ◌&&◌, eqb, length}
use Rattle.std.proofs.Common.{sym, ap, ◌∙◌, arith}
use Rattle.std.specs.Bool.{beq}
use Rattle.std.specs.Cmp.Lexicographic.{same_text, other_text}
use Rattle.std.proofs.lemmas.List.{ext_get_or}
use lib.Pointwise.{pointwise}
use Rattle.std.proofs.Math.Decide.{dec_lt}
use Rattle.std.proofs.Math.ListN.{get_or}
use Rattle.xml.specs.Truth.{clash, not_so, and_left, and_right, and_both}
use Rattle.timestamp.specs.TimesLaws.{beq-is, beq-self}
use Rattle.timestamp.specs.Bits.{bit, bits-ext}
use Rattle.timestamp.specs.Set.{set_of, empty_set, every, same_set, shared, apart, subset}

pub every-all : (n : ℕ) (p : ℕ → Bool) → ((v : ℕ) → v < n → p v ≡ true) → every n p ≡ true
unfolding every
every-all zero p h = refl
every-all (suc n) p h = rw (h n (omega arith)) (every-all n p (λ v l. h v (omega arith)))

pub every-at : (n : ℕ) (p : ℕ → Bool) → every n p ≡ true → (v : ℕ) → v < n → p v ≡ true
unfolding every
every-at zero p e v h = absurd (omega arith)
every-at (suc n) p e v h = go (dec_lt v n) (every-at n p (and_right (p n) (every n p) e) v)
  where
    go : Dec (v < n) → (v < n → p v ≡ true) → p v ≡ true
    go (yes q) f = f q
    go (no q) f = let z : v ≡ n = omega arith in rw z (and_left (p n) (every n p) e)

-- ---- what an answer tells
pub same-tells : (s t : ℕ → Bool) → same_set s t ≡ true → (v : ℕ) → v < 1024 → s v ≡ t v
unfolding same_set
same-tells s t e v h = beq-is (s v) (t v) (every-at 1024 (λ u. beq (s u) (t u)) e v h)

pub same-told : (s t : ℕ → Bool) → ((v : ℕ) → v < 1024 → s v ≡ t v) → same_set s t ≡ true
unfolding same_set
same-told s t h = every-all 1024 _ (λ v l. ap (beq (s v)) (sym (h v l)) ∙ beq-self (s v))

pub apart-tells : (s t : ℕ → Bool) → apart s t ≡ true → (v : ℕ) → v < 1024 → s v ≡ true → t v ≡ true → ⊥
apart-tells s t e v h p q = clash (sym (and_both (s v) (t v) p q) ∙ same-tells (shared s t) empty_set e v h)

pub subset-tells : (s t : ℕ → Bool) → subset s t ≡ true → (v : ℕ) → v < 1024 → s v ≡ true → t v ≡ true
subset-tells s t e v h p = and_right (s v) (t v) (same-tells (shared s t) s e v h ∙ p)

pub apart-told : (s t : ℕ → Bool) → ((v : ℕ) → v < 1024 → s v ≡ true → t v ≡ true → ⊥) → apart s t ≡ true
apart-told s t h = same-told (shared s t) empty_set (λ v l. not_so (s v && t v) (λ e. h v l (and_left (s v) (t v) e) (and_right (s v) (t v) e)))

pub subset-told : (s t : ℕ → Bool) → ((v : ℕ) → v < 1024 → s v ≡ true → t v ≡ true) → subset s t ≡ true
subset-told s t h = same-told (shared s t) s (λ v l. only (s v) (t v) (h v l))
  where
    only : (a b : Bool) → (a ≡ true → b ≡ true) → (a && b) ≡ a
    only true b f = f refl
    only false b f = refl

-- ---- words that agree, and a word that differs
module _ (f g : ℕ → ℕ) (s t : ℕ → Bool)
    (hs : (v : ℕ) → bit (f (v / 64)) (v % 64) ≡ s v) (ht : (v : ℕ) → bit (g (v / 64)) (v % 64) ≡ t v) where
  agree : ((k : ℕ) → k < 16 → f k ≡ g k) → same_set s t ≡ true
  agree h = same-told s t (λ v l. sym (hs v) ∙ ap (λ (x : ℕ). bit x (v % 64)) (h (v / 64) (omega arith)) ∙ ht v)

  -- sets that agree have words that agree
  pub told-words : same_set s t ≡ true → (k : ℕ) → k < 16 → f k < 2 ^ 64 → g k < 2 ^ 64 → f k ≡ g k
  told-words e k hk hf hg = bits-ext 64 (f k) (g k) hf hg at
    where
      at : (j : ℕ) → j < 64 → bit (f k) j ≡ bit (g k) j
      at j l =
          let d : (k * 64 + j) / 64 ≡ k = omega arith in
          let m : (k * 64 + j) % 64 ≡ j = omega arith in
          rw (d, m) at (hs (k * 64 + j) ∙ same-tells s t e (k * 64 + j) (omega arith) ∙ sym (ht (k * 64 + j)))

module _ (a b : List ℕ) where
  pub same-words : ((k : ℕ) → k < 16 → get_or a k 0 ≡ get_or b k 0) → same_set (set_of a) (set_of b) ≡ true
  unfolding set_of
  same-words h = agree (λ k. get_or a k 0) (λ k. get_or b k 0) (set_of a) (set_of b) (λ v. refl) (λ v. refl) h

  -- the answer of `==` on words
  pub equal-words : length a ≡ 16 → length b ≡ 16 → ((k : ℕ) → k < 16 → get_or a k 0 < 2 ^ 64) → ((k : ℕ) → k < 16 → get_or b k 0 < 2 ^ 64)
      → pointwise eqb a b ≡ same_set (set_of a) (set_of b)
  unfolding set_of
  equal-words la lb ha hb = go (pointwise eqb a b) refl
    where
      words : same_set (set_of a) (set_of b) ≡ true → (k : ℕ) → k < length a → get_or a k 0 ≡ get_or b k 0
      words e k l =
          let h : k < 16 = omega arith in
          told-words (λ k. get_or a k 0) (λ k. get_or b k 0) (set_of a) (set_of b) (λ v. refl) (λ v. refl) e k h (ha k h) (hb k h)

      go : (r : Bool) → r ≡ pointwise eqb a b → pointwise eqb a b ≡ same_set (set_of a) (set_of b)
      go true e = sym e ∙ sym (same-words (λ k l. ap (λ (w : List ℕ). get_or w k 0) (same_text a b e)))
      go false e = sym e ∙ sym (not_so (same_set (set_of a) (set_of b)) (λ z. other_text a b e (ext_get_or 0 a b (la ∙ sym lb) (words z))))
