-- Whether an attribute has a name, and how far it is from a place of a text to a byte.
use Rattle.std.specs.Prelude.{ℕ, suc, ◌+◌, ◌≤◌, ◌<◌, ◌≡◌, Bool, List, [], ◌∷◌, eqb, length, drop, get_or}
use Rattle.std.proofs.Common.{arith, eq-eqb, ne_eqb, eqb-true, drop_of_length-le, drop-cons}
use Rattle.std.proofs.Math.Path.{ap}
use Rattle.std.proofs.lemmas.Bool.{eqb-false}
use Rattle.xml.specs.Bytes.{Bytes, same, any}
use Rattle.xml.specs.Tags.{Attr, attr_name, until}
use Rattle.xml.specs.Truth.{by-test}

unfoldable pub any_named : Bytes → List Attr → Bool
any_named n l = any (λ x. same n (attr_name x)) l

-- ---- how far it is to a byte
until-at : (c b : ℕ) (s : Bytes) → b ≡ c → until c (b ∷ s) ≡ 0
unfolding until
until-at c b s e = rw (eq-eqb b c e, until)

until-past : (c b : ℕ) (s : Bytes) → (b ≡ c → ⊥) → until c (b ∷ s) ≡ suc (until c s)
unfolding until
until-past c b s n = rw (ne_eqb b c n, until)

pub record Going (s : Bytes) (c at n : ℕ) : Type 0 where
  pub small : n ≤ length s
  pub is : until c (drop at s) ≡ n + until c (drop (at + n) s)

module _ {s : Bytes} {c at : ℕ} where
  pub going_start : Going s c at 0
  going_start = let z : at + 0 ≡ at = omega arith in record { small = omega arith; is = rw z (omega arith) }

  pub going-found : {n : ℕ} → Going s c at n → at + n < length s → get_or s (at + n) 0 ≡ c → until c (drop at s) ≡ n
  going-found {n} x h e = omega (arith, x.is, ap (until c) (drop-cons s (at + n) 0 h), until-at c (get_or s (at + n) 0) (drop (suc (at + n)) s) e)

  pub going_on : {n m : ℕ} → Going s c at n → at + n < length s → (get_or s (at + n) 0 ≡ c → ⊥) → m ≡ n + 1 → Going s c at m
  going_on {n} {m} x h e d =
      let z : suc (at + n) ≡ at + m = omega arith in
      record {
        small = omega arith;
        is = omega (arith, x.is, ap (until c) (drop-cons s (at + n) 0 h), until-past c (get_or s (at + n) 0) (drop (suc (at + n)) s) e, ap (λ (i : ℕ). until c (drop i s)) z);
      }

  pub going-over : {n : ℕ} → Going s c at n → length s ≤ at + n → until c (drop at s) ≡ n
  unfolding until
  going-over {n} x h = omega (arith, x.is, ap (until c) (drop_of_length-le s h))

pub until-fits : (c : ℕ) (s : Bytes) → until c s ≤ length s
unfolding until
until-fits c [] = omega arith
until-fits c (b ∷ s) = by-test (eqb b c) (λ e. rw (until-at c b s (eqb-true b c e)) (omega arith)) (λ e. rw (until-past c b s (eqb-false b c e)) (omega (arith, until-fits c s)))
