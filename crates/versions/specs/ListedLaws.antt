-- What a program learns of timestamps as sets, said of their presence lists: the tests of Walk.antt, and its legal texts.
use Prim.Native.Nat.{ℕ, zero, suc, ◌+◌, ◌≤◌, ◌<◌}
use Rattle.std.proofs.Common.{arith, add-one, ◌∙◌, ap, ap₂, lt-ltb, le-ltb, le-leb}
use Rattle.std.proofs.Math.Decide.{dec_le, dec_lt}
use Rattle.std.specs.Prelude.{◌≡◌, refl, Bool, not, ◌&&◌, ◌||◌, ◌∷◌, map}
use Rattle.std.proofs.Math.Path.{sym}
use Rattle.std.proofs.Math.Bool.{true, false, and-true}
use Rattle.std.proofs.Math.Dec.{ltb}
use Rattle.std.proofs.lemmas.Bool.{not-true}
use Rattle.xml.specs.Truth.{clash, by-test, not_so, and_left, and_right, and_both, or_left, or_right}
use Rattle.model.specs.Stored.{or_l}
use Rattle.timestamp.specs.Times.{up_from, belongs}
use Rattle.timestamp.specs.TimesLaws.{bool_eq, or-by, same_or}
use Rattle.timestamp.specs.Set.{empty_set, cut_at, joined, shared, is_none, apart, subset, first_in}
use Rattle.timestamp.specs.Tests.{same-tells, same-told, subset-tells, subset-told}
use Rattle.timestamp.specs.First.{first-low, first-high, first-is, first-before, first_member}
use Rattle.timestamp.specs.Runs.{from-cong}
use Rattle.timestamp.specs.Listed.{listed, text_of, Only, only_zero, only-past, listed-cong, belongs-listed}
use Rattle.versions.specs.Walk.{times_in, ever, within, disjoint, earlier}

-- ---- union
pub or-listed : (n : ℕ) (s t : ℕ → Bool) → or_l (listed n s) (listed n t) ≡ listed n (joined s t)
unfolding listed or_l up_from
or-listed n s t = go 1 n
  where
    go : (i m : ℕ) → or_l (map s (up_from i m)) (map t (up_from i m)) ≡ map (joined s t) (up_from i m)
    go i zero = refl
    go i (suc m) = ap (λ l. (s i || t i) ∷ l) (go (suc i) m)

-- ---- emptiness
pub ever-none : (s : ℕ → Bool) (i n : ℕ) → ever (map s (up_from i n)) ≡ false → (v : ℕ) → i ≤ v → v < i + n → s v ≡ false
unfolding ever up_from
ever-none s i zero e v l h = absurd (omega arith)
ever-none s i (suc n) e v l h =
    same_or v i (λ q. ap s q ∙ or_left (s i) (ever (map s (up_from (suc i) n))) e)
    (λ q. ever-none s (suc i) n (or_right (s i) (ever (map s (up_from (suc i) n))) e) v (omega (arith, q)) (omega arith))

pub ever-some : (s : ℕ → Bool) (i n : ℕ) → ever (map s (up_from i n)) ≡ true → (v : ℕ) × (i ≤ v) × (v < i + n) × (s v ≡ true)
unfolding ever up_from
ever-some s i zero e = clash (sym e)
ever-some s i (suc n) e =
    or-by (s i) (ever (map s (up_from (suc i) n))) e (λ q. (i, omega arith, omega arith, q))
    (λ q. let r = ever-some s (suc i) n q in (r.0, omega (arith, r.1), omega (arith, r.2), r.3))

pub ever-listed : (n : ℕ) (s : ℕ → Bool) → Only n s → n < 1024 → ever (listed n s) ≡ not (is_none s)
unfolding listed
ever-listed n s o h = by-test (ever (map s (up_from 1 n)))
    (λ e. let r = ever-some s 1 n e in
    e ∙ sym (ap not (not_so (is_none s) (λ t. clash (sym r.3 ∙ same-tells s empty_set t r.0 (omega (arith, r.2)))))))
    (λ e. e ∙ sym (ap not (same-told s empty_set (λ v l. not_so (s v) (λ q. let x = o v q in clash (sym q ∙ ever-none s 1 n e v x.0 (omega (arith, x.1))))))))

-- ---- inclusion
within-tells : (s t : ℕ → Bool) (i n : ℕ) → within (map s (up_from i n)) (map t (up_from i n)) ≡ true → (v : ℕ) → i ≤ v → v < i + n → s v ≡ true → t v ≡ true
unfolding within up_from
within-tells s t i zero e v l h q = absurd (omega arith)
within-tells s t i (suc n) e v l h q =
    same_or v i (λ z. ap t z ∙ one (s i) (t i) (sym (ap s z) ∙ q) (and_left (not (s i) || t i) (within (map s (up_from (suc i) n)) (map t (up_from (suc i) n))) e))
    (λ z. within-tells s t (suc i) n (and_right (not (s i) || t i) (within (map s (up_from (suc i) n)) (map t (up_from (suc i) n))) e) v (omega (arith, z)) (omega arith) q)
  where
    one : (a b : Bool) → a ≡ true → (not a || b) ≡ true → b ≡ true
    one true b p r = r
    one false b p r = clash (sym p)

within-told : (s t : ℕ → Bool) (i n : ℕ) → ((v : ℕ) → i ≤ v → v < i + n → s v ≡ true → t v ≡ true) → within (map s (up_from i n)) (map t (up_from i n)) ≡ true
unfolding within up_from
within-told s t i zero f = refl
within-told s t i (suc n) f =
    and_both (not (s i) || t i) (within (map s (up_from (suc i) n)) (map t (up_from (suc i) n))) (one (s i) (t i) (f i (omega arith) (omega arith)))
    (within-told s t (suc i) n (λ v l h. f v (omega arith) (omega arith)))
  where
    one : (a b : Bool) → (a ≡ true → b ≡ true) → (not a || b) ≡ true
    one true b p = p refl
    one false b p = refl

pub within-listed : (n : ℕ) (s t : ℕ → Bool) → Only n s → n < 1024 → within (listed n s) (listed n t) ≡ subset s t
unfolding listed
within-listed n s t o h =
    bool_eq (within (map s (up_from 1 n)) (map t (up_from 1 n))) (subset s t)
    (λ e. subset-told s t (λ v l q. let x = o v q in within-tells s t 1 n e v x.0 (omega (arith, x.1)) q))
    (λ e. within-told s t 1 n (λ v l u q. subset-tells s t e v (omega arith) q))

-- ---- disjointness
disjoint-tells : (s t : ℕ → Bool) (i n : ℕ) → disjoint (map s (up_from i n)) (map t (up_from i n)) ≡ true → (v : ℕ) → i ≤ v → v < i + n → (s v && t v) ≡ false
unfolding disjoint up_from
disjoint-tells s t i zero e v l h = absurd (omega arith)
disjoint-tells s t i (suc n) e v l h =
    same_or v i (λ z. ap (λ x. s x && t x) z ∙ not-true (s i && t i) (and_left (not (s i && t i)) (disjoint (map s (up_from (suc i) n)) (map t (up_from (suc i) n))) e))
    (λ z. disjoint-tells s t (suc i) n (and_right (not (s i && t i)) (disjoint (map s (up_from (suc i) n)) (map t (up_from (suc i) n))) e) v (omega (arith, z)) (omega arith))

disjoint-told : (s t : ℕ → Bool) (i n : ℕ) → ((v : ℕ) → i ≤ v → v < i + n → (s v && t v) ≡ false) → disjoint (map s (up_from i n)) (map t (up_from i n)) ≡ true
unfolding disjoint up_from
disjoint-told s t i zero f = refl
disjoint-told s t i (suc n) f =
    and_both (not (s i && t i)) (disjoint (map s (up_from (suc i) n)) (map t (up_from (suc i) n))) (ap not (f i (omega arith) (omega arith)))
    (disjoint-told s t (suc i) n (λ v l h. f v (omega arith) (omega arith)))

pub disjoint-listed : (n : ℕ) (s t : ℕ → Bool) → Only n s → n < 1024 → disjoint (listed n s) (listed n t) ≡ apart s t
unfolding listed
disjoint-listed n s t o h =
    bool_eq (disjoint (map s (up_from 1 n)) (map t (up_from 1 n))) (apart s t)
    (λ e. same-told (shared s t) empty_set (λ v l. not_so (s v && t v) (λ q. let x = o v (and_left (s v) (t v) q) in clash (sym q ∙ disjoint-tells s t 1 n e v x.0 (omega (arith, x.1))))))
    (λ e. disjoint-told s t 1 n (λ v l u. same-tells (shared s t) empty_set e v (omega arith)))

-- ---- which begins earlier
module _ (s t : ℕ → Bool) where
  earlier-first : (i n : ℕ) → earlier (map s (up_from i n)) (map t (up_from i n)) ≡ ltb (first_in n s i) (first_in n t i)
  unfolding earlier up_from first_in
  earlier-first i zero = sym (le-ltb i i (omega arith))
  earlier-first i (suc n) = go (s i) (t i) (add-one i) (earlier-first (suc i) n)
    where
      go : (a b : Bool) → i + 1 ≡ suc i → earlier (map s (up_from (suc i) n)) (map t (up_from (suc i) n)) ≡ ltb (first_in n s (suc i)) (first_in n t (suc i))
          → (not b && (a || earlier (map s (up_from (suc i) n)) (map t (up_from (suc i) n))))
          ≡ ltb (elim a as (λ _. ℕ) [ true ↦ i | false ↦ first_in n s (i + 1) ]) (elim b as (λ _. ℕ) [ true ↦ i | false ↦ first_in n t (i + 1) ])
      go true true e ih = sym (le-ltb i i (omega arith))
      go false true e ih = sym (le-ltb (first_in n s (i + 1)) i (omega (arith, first-low s n (i + 1))))
      go true false e ih = sym (lt-ltb i (first_in n t (i + 1)) (omega (arith, first-low t n (i + 1))))
      go false false e ih = rw e ih

-- the least member of a set of the numbers 1 to n, or 1024
module _ (n : ℕ) (s : ℕ → Bool) (o : Only n s) (h : n < 1024) where
  before-first : (u : ℕ) → u < first_in n s 1 → s u ≡ false
  before-first u l = go (dec_lt 0 u)
    where
      go : Dec (0 < u) → s u ≡ false
      go (yes q) = first-before s n 1 u q l
      go (no q) = let z : u ≡ 0 = omega arith in ap s z ∙ only_zero n s o

  first-in : first_in n s 1 ≤ n → first_in 1024 s 0 ≡ first_in n s 1
  first-in l = first-is s 1024 0 (first_in n s 1) (omega arith) (omega arith) (λ u a b. before-first u b) (λ b. first_member s n 1 (omega arith))

  first_out : n < first_in n s 1 → first_in 1024 s 0 ≡ 1024
  first_out l = first-is s 1024 0 1024 (omega arith) (omega arith) (λ u a b. go u (dec_le u n)) (λ b. absurd (omega arith))
    where
      go : (u : ℕ) → Dec (u ≤ n) → s u ≡ false
      go u (yes q) = before-first u (omega arith)
      go u (no q) = only-past n s o u (omega arith)

pub earlier-listed : (n : ℕ) (s t : ℕ → Bool) → Only n s → Only n t → n < 1024 → earlier (listed n s) (listed n t) ≡ ltb (first_in 1024 s 0) (first_in 1024 t 0)
unfolding listed
earlier-listed n s t o o' h = earlier-first s t 1 n ∙ go (dec_le (first_in n s 1) n) (dec_le (first_in n t 1) n)
  where
    hs : first_in n s 1 ≤ 1 + n
    hs = first-high s n 1

    ht : first_in n t 1 ≤ 1 + n
    ht = first-high t n 1

    go : Dec (first_in n s 1 ≤ n) → Dec (first_in n t 1 ≤ n) → ltb (first_in n s 1) (first_in n t 1) ≡ ltb (first_in 1024 s 0) (first_in 1024 t 0)
    go (yes q) (yes r) = ap₂ ltb (sym (first-in n s o h q)) (sym (first-in n t o' h r))
    go (yes q) (no r) =
        lt-ltb (first_in n s 1) (first_in n t 1) (omega arith) ∙ sym (lt-ltb (first_in n s 1) 1024 (omega arith))
        ∙ ap₂ ltb (sym (first-in n s o h q)) (sym (first_out n t o' h (omega arith)))
    go (no q) (yes r) =
        le-ltb (first_in n s 1) (first_in n t 1) (omega arith) ∙ sym (le-ltb 1024 (first_in n t 1) (omega arith))
        ∙ ap₂ ltb (sym (first_out n s o h (omega arith))) (sym (first-in n t o' h r))
    go (no q) (no r) =
        le-ltb (first_in n s 1) (first_in n t 1) (omega (arith, hs, ht)) ∙ sym (le-ltb 1024 1024 (omega arith))
        ∙ ap₂ ltb (sym (first_out n s o h (omega arith))) (sym (first_out n t o' h (omega arith)))

-- ---- the set that a text gives
pub times-listed : (n : ℕ) (s : ℕ → Bool) → n ≤ 999 → times_in n (text_of s) ≡ listed n s
unfolding times_in listed
times-listed n s h = from-cong (λ i. belongs i (text_of s)) s 1 n (λ u a b. belongs-listed s u a (omega arith))

pub times_cut : (i : ℕ) (s : ℕ → Bool) → i ≤ 999 → times_in i (text_of s) ≡ listed i (cut_at i s)
times_cut i s h = times-listed i s h ∙ listed-cong i s (cut_at i s) (λ v a b. sym (ap (λ x. s v && x) (le-leb v i b) ∙ and-true (s v)))
