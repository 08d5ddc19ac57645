-- An archive's `<T t="..">`: when a start tag is one, how far it reaches, and that it is the same in texts that begin with the same bytes.
use Rattle.std.specs.Prelude.{◌≡◌, refl, Bool, true, false, ◌&&◌, [], ◌∷◌, ◌++◌, ℕ, suc, ◌+◌, ◌-◌, ◌<◌, ◌≤◌, eqb, length, take, drop}
use Rattle.std.proofs.Common.{ap, sym, ◌∙◌, subst, arith, eqb-true, take-append-drop, length-take-le}
use Prim.Native.Char.{code}
use Rattle.std.proofs.lemmas.Bool.{eqb-false}
use Rattle.xml.specs.Bytes.{Bytes, bytes, same}
use Rattle.xml.specs.Truth.{and_left, and_right}
use Rattle.xml.specs.BytesLaws.{same-is}
use Rattle.xml.specs.Forest.{Forest, end}
use Rattle.xml.specs.Read.{common, times_len, timed, Stack, inside, Move, move, wrong, times_end, times_of}
use Rattle.xml.specs.StepLaws.{times-bad, times-good, times-end-bad, times-end-good}
use Rattle.xml.specs.Agree.{Agrees, agrees-drop, take_same, times_len-same, common-same, word_same}

-- ---- the name T

-- the name of n bytes is T, in an archive
pub record IsTimed (a : Bool) (s : Bytes) (n : ℕ) : Type 0 where
  pub archive : a ≡ true
  pub one : n ≡ 1
  pub is : s ≡ code "T" ∷ drop 1 s

pub is-timed : (a : Bool) (s : Bytes) (n : ℕ) → n ≤ length s → a && same (take n s) (bytes "T") ≡ true → IsTimed a s n
unfolding bytes
is-timed a s n l e =
    let x : take n s ≡ code "T" ∷ [] = same-is (take n s) (bytes "T") (and_right a (same (take n s) (bytes "T")) e) in
    let o : n ≡ 1 = sym (length-take-le n s l) ∙ ap length x in
    record {
      archive = and_left a (same (take n s) (bytes "T")) e;
      one = o;
      is = sym (take-append-drop n s) ∙ ap (λ (z : Bytes). z ++ drop n s) x ∙ ap (λ (i : ℕ). code "T" ∷ drop i s) o;
    }

-- ---- how far a tag reaches

-- after `<T`; and after `<T t="`
abbrev pub times_tag : Stack → Forest → Bytes → Move
times_tag st f s = times_of st f s (common (bytes " t=\"") s)

abbrev pub times_close : Stack → Forest → Bytes → Move
times_close st f s = times_end st f s (times_len s) (common (bytes "\">") (drop (times_len s) s))

-- the number of bytes after the first that a tag reads, or the offset of its wrong byte
abbrev pub reach_t : Move → ℕ
reach_t (move st f k) = k
reach_t (wrong k) = k

close-reach : (st : Stack) (f : Forest) (s : Bytes) (n m : ℕ) → 6 + n ≤ reach_t (times_end st f s n m)
close-reach st f s n m = at (eqb m 2) refl
  where
    at : (t : Bool) → eqb m 2 ≡ t → 6 + n ≤ reach_t (times_end st f s n m)
    at true e = rw (times-end-good st f s n m (eqb-true m 2 e)) (omega arith)
    at false e = rw (times-end-bad st f s n m (eqb-false m 2 e)) (omega arith)

pub times-reach : (st : Stack) (f : Forest) (s : Bytes) (m : ℕ) → 2 + m ≤ reach_t (times_of st f s m)
times-reach st f s m = at (eqb m 4) refl
  where
    at : (t : Bool) → eqb m 4 ≡ t → 2 + m ≤ reach_t (times_of st f s m)
    at true e =
        let h = eqb-true m 4 e in
        rw (times-good st f s m h)
        (omega (arith, close-reach st f (drop 4 s) (times_len (drop 4 s)) (common (bytes "\">") (drop (times_len (drop 4 s)) (drop 4 s)))))
    at false e = rw (times-bad st f s m (eqb-false m 4 e)) (omega arith)

-- ---- the same bytes, the same tag

close_at : (st : Stack) (f : Forest) (s s' : Bytes) (n m : ℕ) → take n s' ≡ take n s → times_end st f s' n m ≡ times_end st f s n m
close_at st f s s' n m t = at (eqb m 2) refl
  where
    at : (x : Bool) → eqb m 2 ≡ x → times_end st f s' n m ≡ times_end st f s n m
    at true e =
        let z = eqb-true m 2 e in
        times-end-good st f s' n m z ∙ ap (λ (x : Bytes). move (inside (timed x) f st) end (7 + n)) t ∙ sym (times-end-good st f s n m z)
    at false e = let z = eqb-false m 2 e in times-end-bad st f s' n m z ∙ sym (times-end-bad st f s n m z)

close-same : (st : Stack) (f : Forest) (m : ℕ) (s s' : Bytes) → Agrees m s s' → reach_t (times_close st f s) ≤ 5 + m →
    times_close st f s' ≡ times_close st f s
unfolding bytes
close-same st f m s s' a h =
    let q : Bytes = bytes "\">" in
    let n : ℕ = times_len s in
    let l : n < m = omega (arith, close-reach st f s n (common q (drop n s))) in
    let b = agrees-drop n m s s' a in
    ap (λ (i : ℕ). times_end st f s' i (common q (drop i s'))) (times_len-same m s s' l a)
    ∙ ap (times_end st f s' n) (at (eqb (common q (drop n s)) 2) refl b)
    ∙ close_at st f s s' n (common q (drop n s)) (take_same m n s s' (omega arith) a)
  where
    c : ℕ
    c = common (bytes "\">") (drop (times_len s) s)

    at : (x : Bool) → eqb c 2 ≡ x → Agrees (m - times_len s) (drop (times_len s) s) (drop (times_len s) s') → common (bytes "\">") (drop (times_len s) s') ≡ c
    at true e b =
        let z = eqb-true c 2 e in
        let i : 7 + times_len s ≤ 5 + m = subst (λ (x : Move). reach_t x ≤ 5 + m) (times-end-good st f s (times_len s) c z) h in
        word_same (bytes "\">") (m - times_len s) (drop (times_len s) s) (drop (times_len s) s') z (omega arith) b ∙ sym z
    at false e b =
        let i : 6 + times_len s + c ≤ 5 + m = subst (λ (x : Move). reach_t x ≤ 5 + m) (times-end-bad st f s (times_len s) c (eqb-false c 2 e)) h in
        common-same (bytes "\">") (m - times_len s) (drop (times_len s) s) (drop (times_len s) s') (omega arith) b

pub times-same : (st : Stack) (f : Forest) (m : ℕ) (s s' : Bytes) → Agrees m s s' → reach_t (times_tag st f s) ≤ suc m → times_tag st f s' ≡ times_tag st f s
times-same st f m s s' a h =
    let w : Bytes = bytes " t=\"" in
    let l : common w s < m = omega (arith, times-reach st f s (common w s)) in
    ap (times_of st f s') (common-same w m s s' l a) ∙ at (eqb (common w s) 4) refl
  where
    c : ℕ
    c = common (bytes " t=\"") s

    at : (x : Bool) → eqb c 4 ≡ x → times_of st f s' c ≡ times_of st f s c
    at true e =
        let z = eqb-true c 4 e in
        let v = times-good st f s c z in
        let i : reach_t (times_close st f (drop 4 s)) ≤ suc m = subst (λ (x : Move). reach_t x ≤ suc m) v h in
        let k : 4 ≤ m = omega (arith, close-reach st f (drop 4 s) (times_len (drop 4 s)) (common (bytes "\">") (drop (times_len (drop 4 s)) (drop 4 s)))) in
        times-good st f s' c z ∙ close-same st f (m - 4) (drop 4 s) (drop 4 s') (agrees-drop 4 m s s' a) (omega arith) ∙ sym v
    at false e = let z = eqb-false c 4 e in times-bad st f s' c z ∙ sym (times-bad st f s c z)
