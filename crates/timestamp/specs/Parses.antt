-- Accepted is just the text of a set of the numbers 1 to 999 that is not empty, and it is read as that set.
use Rattle.std.specs.Prelude.{ℕ, ◌≤◌, ◌<◌, ◌≡◌, Bool, not, ◌&&◌, leb}
use Rattle.std.proofs.Math.Path.{refl, sym, ap, fun_ext}
use Rattle.std.proofs.Common.{◌∙◌, arith, ne_eqb, le-leb}
use mathlib.Core.List.{List, [], ◌∷◌}
use Rattle.std.proofs.Math.Bool.{true, false}
use Rattle.std.proofs.Math.Decide.{dec_lt, dec_le}
use Rattle.xml.specs.Bytes.{Bytes, any, is_empty, same}
use Rattle.xml.specs.BytesLaws.{same-is, same_self}
use Rattle.xml.specs.Truth.{clash, not_so, and_left, and_right, and_both, or-first}
use Rattle.timestamp.specs.Times.{runs, write_times, belongs, times_compute}
use Rattle.timestamp.specs.TimesLaws.{in_run, in-run, runs-are}
use Rattle.timestamp.specs.Set.{empty_set, up_to, first_in}
use Rattle.timestamp.specs.First.{first-before}
use Rattle.timestamp.specs.Runs.{Asc, in_runs, rest, asc-runs, below-runs, above-runs, runs-back}
use Rattle.timestamp.specs.Listed.{listed, text_of, Only, listed-length, listed_at, only_zero, only-past, only-up-to, belongs-listed, text-none}
use Rattle.timestamp.specs.Digits.{text, text-joined}
use Rattle.timestamp.specs.Parse.{Outcome, refused, accepted, numbers_in, parsed}
use Rattle.timestamp.specs.Reading.{read_in}
use Rattle.timestamp.specs.Accepts.{runs-accepted}
use Rattle.timestamp.specs.Sound.{accepted-runs}

-- ---- the runs of a set are its runs
module _ (s : ℕ → Bool) where
  asc-listed : Asc 0 (runs 1 (listed 999 s))
  asc-listed = asc-runs 1000 0 1 (listed 999 s) (omega arith) (omega (arith, listed-length 999 s))

  pub text-runs : text_of s ≡ text (runs 1 (listed 999 s))
  unfolding text_of write_times
  text-runs = text-joined (runs 1 (listed 999 s)) asc-listed

  set_runs : Only 999 s → in_runs (runs 1 (listed 999 s)) ≡ s
  set_runs o = fun_ext (λ v. go v (dec_lt 0 v) (dec_le v 999))
    where
      go : (v : ℕ) → Dec (0 < v) → Dec (v ≤ 999) → in_runs (runs 1 (listed 999 s)) v ≡ s v
      go v (yes q) (yes d) = runs-are v 1 (listed 999 s) q (omega (arith, listed-length 999 s)) ∙ listed_at 999 s v q d
      go v (yes q) (no d) = above-runs 0 v (runs 1 (listed 999 s)) asc-listed (omega arith) ∙ sym (only-past 999 s o v (omega arith))
      go v (no q) d = let z : v ≡ 0 = omega arith in rw z (below-runs 0 0 (runs 1 (listed 999 s)) asc-listed (omega arith) ∙ sym (only_zero 999 s o))

  -- the text of a set that is not empty is not empty
  none_in : (v : ℕ) → 1 ≤ v → belongs v [] ≡ false
  unfolding times_compute
  none_in v h = rw (ne_eqb v 0 (λ e. omega arith)) refl

  pub text-some : Only 999 s → (v : ℕ) → s v ≡ true → text_of s ≡ [] → ⊥
  text-some o v e z =
      let h = o v e in
      clash (sym e ∙ sym (belongs-listed s v h.0 h.1) ∙ ap (belongs v) z ∙ none_in v h.0)

  pub numbers-text : Only 999 s → numbers_in (text_of s) ≡ s
  unfolding numbers_in
  numbers-text o = fun_ext (λ v. go v (up_to 999 v) refl)
    where
      go : (v : ℕ) (b : Bool) → up_to 999 v ≡ b → (b && belongs v (text_of s)) ≡ s v
      go v true e = let h = only-up-to 999 v e in belongs-listed s v h.0 h.1
      go v false e = sym (not_so (s v) (λ t. let h = o v t in clash (sym (and_both (leb 1 v) (leb v 999) (le-leb 1 v h.0) (le-leb v 999 h.1)) ∙ e)))

  accepted-text : Only 999 s → (text_of s ≡ [] → ⊥) → read_in (text_of s) ≡ accepted s
  unfolding text
  accepted-text o ne = ap read_in text-runs ∙ go (runs 1 (listed 999 s)) asc-listed (λ e. ne (text-runs ∙ ap text e)) ∙ ap accepted (set_runs o)
    where
      go : (rs : List (ℕ × ℕ)) → Asc 0 rs → (rs ≡ [] → ⊥) → read_in (text rs) ≡ accepted (in_runs rs)
      go [] a z = absurd (z refl)
      go (r ∷ rs) a z = runs-accepted r rs a

text-accepted : (l : Bytes) (s : ℕ → Bool) → read_in l ≡ accepted s → (l ≡ text_of s) × Only 999 s × (l ≡ [] → ⊥)
unfolding rest listed any
text-accepted l s e =
    let f = accepted-runs l s e in
    let r = f.0 in
    let rs = f.1 in
    let back : runs 1 (listed 999 s) ≡ r ∷ rs = ap (λ (t : ℕ → Bool). rest t 1) f.4 ∙ runs-back (r ∷ rs) 0 1 f.2 (omega arith) (omega arith) in
    let o : Only 999 s = λ v t. inside v t (r ∷ rs) f.2 f.4 (dec_lt 0 v) (dec_le v 999) in
    let is : l ≡ text_of s = f.3 ∙ sym (text-runs s ∙ ap text back) in
    (is, o, (λ z. text-some s o r.0 (ap (λ (t : ℕ → Bool). t r.0) f.4 ∙ or-first (in_run r.0 r) (in_runs rs r.0) (in-run r.0 r.0 r.1 (omega arith) f.2.1)) (sym is ∙ z)))
  where
    inside : (v : ℕ) → s v ≡ true → (rs : List (ℕ × ℕ)) → Asc 0 rs → s ≡ in_runs rs → Dec (0 < v) → Dec (v ≤ 999) → (1 ≤ v) × (v ≤ 999)
    inside v t rs a q (yes x) (yes y) = (x, y)
    inside v t rs a q (yes x) (no y) = clash (sym t ∙ ap (λ (u : ℕ → Bool). u v) q ∙ above-runs 0 v rs a (omega arith))
    inside v t rs a q (no x) y = clash (sym t ∙ ap (λ (u : ℕ → Bool). u v) q ∙ below-runs 0 v rs a (omega arith))

only-numbers : (l : Bytes) → Only 999 (numbers_in l)
unfolding numbers_in
only-numbers l v e = only-up-to 999 v (and_left (up_to 999 v) (belongs v l) e)

not-empty : (l : Bytes) → (l ≡ [] → ⊥) → not (is_empty l) ≡ true
unfolding is_empty
not-empty [] h = absurd (h refl)
not-empty (b ∷ l) h = refl

some_bytes : (l : Bytes) → not (is_empty l) ≡ true → l ≡ [] → ⊥
unfolding is_empty
some_bytes [] h e = clash (sym h)
some_bytes (b ∷ l) h e = let z : ◌≡◌ {A = ℕ} 0 1 = cc in omega arith

-- the reader gives the definition
pub read-parsed : (l : Bytes) → read_in l ≡ parsed l
unfolding parsed
read-parsed l = go (read_in l) refl
  where
    go : (o : Outcome) → read_in l ≡ o → o ≡ parsed l
    go (accepted s) e =
        let f = text-accepted l s e in
        let n : numbers_in l ≡ s = ap numbers_in f.0 ∙ numbers-text s f.1 in
        let t : (not (is_empty l) && same l (text_of (numbers_in l))) ≡ true =
        and_both (not (is_empty l)) (same l (text_of (numbers_in l))) (not-empty l f.2) (ap (λ (x : Bytes). same l x) (ap text_of n ∙ sym f.0) ∙ same_self l) in
        rw (t, parsed) (ap accepted (sym n))
    go refused e =
        let t : (not (is_empty l) && same l (text_of (numbers_in l))) ≡ false =
        not_so (not (is_empty l) && same l (text_of (numbers_in l))) (λ x.
        let is : l ≡ text_of (numbers_in l) = same-is l (text_of (numbers_in l)) (and_right (not (is_empty l)) (same l (text_of (numbers_in l))) x) in
        let r : refused ≡ accepted (numbers_in l) = sym e ∙ ap read_in is ∙ accepted-text (numbers_in l) (only-numbers l) (λ z. some_bytes l (and_left (not (is_empty l)) (same l (text_of (numbers_in l))) x) (is ∙ z)) in
        let z : ◌≡◌ {A = ℕ} 0 1 = cc in omega arith) in
        rw (t, parsed)

-- ---- what callers need
-- the text of a set of the numbers 1 to 999 that is not empty is read as that set
pub parse-text : (s : ℕ → Bool) (v : ℕ) → Only 999 s → s v ≡ true → parsed (text_of s) ≡ accepted s
parse-text s v o e = sym (read-parsed (text_of s)) ∙ accepted-text s o (text-some s o v e)

-- what is read as a set is its text, the set has no numbers but 1 to 999, and it is not empty
pub text-parse : (l : Bytes) (s : ℕ → Bool) → parsed l ≡ accepted s → (l ≡ text_of s) × Only 999 s × (l ≡ [] → ⊥)
text-parse l s e = text-accepted l s (read-parsed l ∙ e)

-- so its least number is one of these
pub text-first : (l : Bytes) (s : ℕ → Bool) → parsed l ≡ accepted s → first_in 1024 s 0 ≤ 999
text-first l s e = go (dec_le (first_in 1024 s 0) 999)
  where
    empty : 999 < first_in 1024 s 0 → s ≡ empty_set
    empty h = fun_ext (λ v. not_so (s v) (λ q. clash (sym q ∙ first-before s 1024 0 v (omega arith) (omega (arith, (text-parse l s e).1 v q)))))

    go : Dec (first_in 1024 s 0 ≤ 999) → first_in 1024 s 0 ≤ 999
    go (yes h) = h
    go (no h) = absurd ((text-parse l s e).2 ((text-parse l s e).0 ∙ ap text_of (empty (omega arith)) ∙ text-none))
