-- The set that a text gives is the one whose text it is; and the tests of sets against the model's predicates on presence lists.
use Rattle.std.specs.Prelude.{ℕ, zero, suc, ◌+◌, ◌-◌, ◌≤◌, ◌<◌, ◌≡◌, refl, Bool, true, false, not, ◌&&◌, [], ◌∷◌, map, length, take, get_or}
use Rattle.std.proofs.Common.{arith, sym, ◌∙◌, ap, ap₂, subst, length-take-le, take_all, get_or-take}
use Rattle.std.proofs.lemmas.List.{length-map}
use Rattle.model.specs.Keyed.{any, Under}
use Rattle.model.specs.Groups.{Disjoint, Earlier}
use Rattle.model.specs.Masks.{clash, is_true, true-is}
use Rattle.xml.specs.Bytes.{Bytes}
use Rattle.xml.specs.BytesLaws.{same_self}
use Rattle.xml.specs.Truth.{and_left, and_right, and_both}
use Rattle.timestamp.specs.Times.{Times, up_from, belongs, write_times}
use Rattle.timestamp.specs.TimesLaws.{belongs-times}
use Rattle.versions.specs.Walk.{times_in, canonical, ever, within, disjoint, earlier}

-- ---- the set that a text gives
length-up_from : (i n : ℕ) → length (up_from i n) ≡ n
unfolding up_from
length-up_from i zero = refl
length-up_from i (suc n) = ap suc (length-up_from (suc i) n)

pub length-times_in : (n : ℕ) (s : Bytes) → length (times_in n s) ≡ n
unfolding times_in
length-times_in n s = length-map (up_from 1 n) (λ i. belongs i s) ∙ length-up_from 1 n

-- the answers at i, i + 1, .. are the list
map-up_from : (f : ℕ → Bool) (i : ℕ) (t : Times) → ((k : ℕ) → k < length t → f (i + k) ≡ get_or t k false) → map f (up_from i (length t)) ≡ t
unfolding up_from
map-up_from f i [] h = refl
map-up_from f i (b ∷ t) h = ap₂ (λ c u. c ∷ u)
    (ap f (sym (add-zero i)) ∙ h 0 (omega arith))
    (map-up_from f (suc i) t (λ k l. ap f (suc-add i k) ∙ h (suc k) (omega arith)))
  where
    add-zero : (i : ℕ) → i + 0 ≡ i
    add-zero i = omega arith

    suc-add : (i k : ℕ) → suc i + k ≡ i + suc k
    suc-add i k = omega arith

-- the first i versions of a set
pub times_in-cut : (i : ℕ) (t : Times) → i ≤ length t → length t ≤ 999 → times_in i (write_times t) ≡ take i t
unfolding times_in
times_in-cut i t l u =
    let e : length (take i t) ≡ i = length-take-le i t l in
    subst (λ n. map (λ j. belongs j (write_times t)) (up_from 1 n) ≡ take i t) e
    (map-up_from (λ j. belongs j (write_times t)) 1 (take i t) (λ k b.
    let z : 1 + k - 1 ≡ k = omega arith in
    belongs-times (1 + k) t (omega arith) u ∙ ap (λ m. get_or t m false) z ∙ sym (get_or-take i t k false (omega arith))))

pub times_in-write : (n : ℕ) (t : Times) → length t ≡ n → n ≤ 999 → times_in n (write_times t) ≡ t
times_in-write n t e u = times_in-cut n t (omega arith) (omega arith) ∙ take_all n t (omega arith)

pub canonical-write : (n : ℕ) (t : Times) → length t ≡ n → n ≤ 999 → canonical n (write_times t) ≡ true
unfolding canonical
canonical-write n t e u = rw (times_in-write n t e u) (same_self (write_times t))

-- ---- the tests
pub ever-any : (t : Times) → ever t ≡ any t
unfolding ever any
ever-any [] = refl
ever-any (true ∷ t) = refl
ever-any (false ∷ t) = ever-any t

pub within-under : (t u : Times) → length t ≡ length u → within t u ≡ true → Under u t
unfolding within Under
within-under [] [] e h = tt
within-under [] (b ∷ u) e h = absurd (omega arith)
within-under (a ∷ t) [] e h = absurd (omega arith)
within-under (true ∷ t) (true ∷ u) e h = (tt, within-under t u (omega arith) h)
within-under (true ∷ t) (false ∷ u) e h = absurd (clash h refl)
within-under (false ∷ t) (true ∷ u) e h = (tt, within-under t u (omega arith) h)
within-under (false ∷ t) (false ∷ u) e h = (tt, within-under t u (omega arith) h)

pub under-within : (t u : Times) → Under u t → within t u ≡ true
unfolding within Under
under-within [] u h = refl
under-within (a ∷ t) [] h = absurd h
under-within (true ∷ t) (true ∷ u) h = under-within t u h.1
under-within (true ∷ t) (false ∷ u) h = absurd h.0
under-within (false ∷ t) (b ∷ u) h = under-within t u h.1

pub under-length : (t u : Times) → Under u t → length t ≡ length u
unfolding Under
under-length [] [] h = refl
under-length [] (b ∷ u) h = absurd h
under-length (a ∷ t) [] h = absurd h
under-length (a ∷ t) (b ∷ u) h = ap suc (under-length t u h.1)

pub disjoint-is : (t u : Times) → disjoint t u ≡ true → Disjoint t u
unfolding disjoint Disjoint
disjoint-is [] u h = tt
disjoint-is (a ∷ t) [] h = tt
disjoint-is (a ∷ t) (b ∷ u) h = (true-is (and_left (not (a && b)) (disjoint t u) h), disjoint-is t u (and_right (not (a && b)) (disjoint t u) h))

pub is-disjoint : (t u : Times) → Disjoint t u → disjoint t u ≡ true
unfolding disjoint Disjoint
is-disjoint [] u h = refl
is-disjoint (a ∷ t) [] h = refl
is-disjoint (a ∷ t) (b ∷ u) h = and_both (not (a && b)) (disjoint t u) (is_true (not (a && b)) h.0) (is-disjoint t u h.1)

pub earlier-is : (t u : Times) → earlier t u ≡ true → Earlier t u
unfolding earlier Earlier
earlier-is [] u h = absurd (clash h refl)
earlier-is (a ∷ t) [] h = absurd (clash h refl)
earlier-is (a ∷ t) (true ∷ u) h = absurd (clash h refl)
earlier-is (true ∷ t) (false ∷ u) h = (tt, tt)
earlier-is (false ∷ t) (false ∷ u) h = (tt, earlier-is t u h)

pub is-earlier : (t u : Times) → Earlier t u → earlier t u ≡ true
unfolding earlier Earlier
is-earlier [] u h = absurd h
is-earlier (a ∷ t) [] h = absurd h
is-earlier (a ∷ t) (true ∷ u) h = absurd h.0
is-earlier (true ∷ t) (false ∷ u) h = refl
is-earlier (false ∷ t) (false ∷ u) h = is-earlier t u h.1
