-- Where the runs of a text begin, and that a run is read there as it was written.
use Rattle.std.specs.Prelude.{ℕ, zero, suc, ◌+◌, ◌-◌, ◌*◌, ◌≤◌, ◌<◌, ◌≡◌, Bool, true, false, ◌&&◌, ◌||◌, eqb, ltb, length, drop, Option, Some, None, IsSome}
use Rattle.std.proofs.Math.Path.{refl, ap, fun_ext}
use Rattle.std.proofs.Common.{sym, ap₂, ◌∙◌, arith, length-append, get_or-append-add, get_or-drop, lt-ltb, le-ltb}
use mathlib.Core.List.{List, [], ◌∷◌, ◌++◌, append_assoc}
use Rattle.std.proofs.Math.Bool.{or_assoc}
use Rattle.std.proofs.Math.Decide.{dec_lt}
use Rattle.std.proofs.Math.ListN.{get_or, get_or-append, get_or-eq_default}
use Rattle.std.proofs.Math.Seq.{drop-append_seam, get_or-append_seam}
use Rattle.std.proofs.lemmas.Bool.{eqb-false}
use Rattle.xml.specs.Bytes.{Bytes, any, is_digit, within}
use Rattle.xml.specs.SplitLaws.{Free}
use Rattle.xml.specs.Truth.{clash, and_both}
use Rattle.timestamp.specs.Times.{write_run}
use Rattle.timestamp.specs.TimesLaws.{in_run, free-run}
use Rattle.timestamp.specs.Set.{empty_set}
use Rattle.timestamp.specs.Runs.{Asc, in_runs, rest, asc-weaken, runs-back}
use Rattle.timestamp.specs.Listed.{listed, text_of, Only}
use Rattle.timestamp.specs.Digits.{pick, digit, digits, by_digits, run_text, tail_text, text, run-text}
use Rattle.timestamp.specs.Parse.{accepted, refused, parsed}
use Rattle.timestamp.specs.Reading.{more, set_in, read_in}
use Rattle.timestamp.specs.Accepts.{digit-is, more-digit, runs-accepted}
use Rattle.timestamp.specs.Sound.{accepted-runs}
use Rattle.timestamp.specs.RunAt.{RunAt, nothing, run, RunRead}
use Rattle.timestamp.specs.declared.text.Run.{Run}
use Rattle.timestamp.specs.Parses.{read-parsed, text-runs}

-- the text is that of a set
pub record IsSet (l : Bytes) : Type 0 where
  pub s : ℕ → Bool
  pub is : parsed l ≡ accepted s

-- and the set has no numbers but 1 to n
pub record IsSetTo (n : ℕ) (l : Bytes) : Type 0 where
  pub s : ℕ → Bool
  pub is : parsed l ≡ accepted s
  pub only : Only n s

-- the text of runs, each with a comma after it
unfoldable pub lead : List (ℕ × ℕ) → Bytes
lead [] = []
lead (r ∷ rs) = write_run r ++ 44 ∷ lead rs

-- the text is that of ascending runs, and the run q begins at the place `at`
pub record Place (l : Bytes) (at : ℕ) : Type 0 where
  pub before : List (ℕ × ℕ)
  pub q : ℕ × ℕ
  pub after : List (ℕ × ℕ)
  pub asc : Asc 0 (before ++ q ∷ after)
  pub is : l ≡ text (before ++ q ∷ after)
  pub place : at ≡ length (lead before)

-- ---- the text of runs, run by run
pub text-cons : (p : ℕ) (r : ℕ × ℕ) (rs : List (ℕ × ℕ)) → Asc p (r ∷ rs) → text (r ∷ rs) ≡ write_run r ++ tail_text rs
unfolding text
text-cons p r rs a = sym (run-text r.0 r.1 (tail_text rs) (omega (arith, a.0)) a.1 (omega (arith, a.2)))

tail-some : (xs : List (ℕ × ℕ)) (q : ℕ × ℕ) (qs : List (ℕ × ℕ)) → tail_text (xs ++ q ∷ qs) ≡ 44 ∷ text (xs ++ q ∷ qs)
unfolding tail_text text
tail-some [] q qs = refl
tail-some (x ∷ xs) q qs = refl

pub lead-text : (p : ℕ) (xs : List (ℕ × ℕ)) (q : ℕ × ℕ) (qs : List (ℕ × ℕ)) → Asc p (xs ++ q ∷ qs) → text (xs ++ q ∷ qs) ≡ lead xs ++ text (q ∷ qs)
unfolding lead
lead-text p [] q qs a = refl
lead-text p (x ∷ xs) q qs a =
    text-cons p x (xs ++ q ∷ qs) a
    ∙ ap (λ (t : Bytes). write_run x ++ t) (tail-some xs q qs ∙ ap (λ (t : Bytes). 44 ∷ t) (lead-text (x.1 + 1) xs q qs a.3))
    ∙ sym (append_assoc (write_run x) (44 ∷ lead xs) (text (q ∷ qs)))

-- the runs from a place on ascend as well
pub asc-from : (p : ℕ) (xs qs : List (ℕ × ℕ)) → Asc p (xs ++ qs) → Asc p qs
asc-from p [] qs a = a
asc-from p (x ∷ xs) qs a = asc-weaken p (x.1 + 1) qs (omega (arith, a.0, a.1)) (asc-from (x.1 + 1) xs qs a.3)

module _ {l : Bytes} {at : ℕ} (c : Place l at) where
  pub from_place : Asc 0 (c.q ∷ c.after)
  from_place = asc-from 0 c.before (c.q ∷ c.after) c.asc

  pub split-place : l ≡ lead c.before ++ text (c.q ∷ c.after)
  split-place = c.is ∙ lead-text 0 c.before c.q c.after c.asc

  pub drop-place : drop at l ≡ text (c.q ∷ c.after)
  drop-place = ap₂ (λ (n : ℕ) (t : Bytes). drop n t) c.place split-place ∙ drop-append_seam (lead c.before) (text (c.q ∷ c.after))

-- ---- a number is read as it was written
-- the number n and then more, as long as a digit may follow
unfoldable pub number_on : ℕ → Bytes → ℕ × Bytes
number_on n [] = (n, [])
number_on n (b ∷ t) = elim (is_digit b && more n b) [ true ↦ number_on (n * 10 + (b - 48)) t | false ↦ (n, b ∷ t) ]

number-digit : (n d : ℕ) (t : Bytes) → n < 100 → d < 10 → 0 < n + d → number_on n (digit d ∷ t) ≡ number_on (n * 10 + d) t
unfolding number_on
number-digit n d t hn hd h =
    let e : n * 10 + (48 + d - 48) ≡ n * 10 + d = omega arith in
    rw (and_both (is_digit (digit d)) (more n (digit d)) (digit-is d hd) (more-digit n d hn hd h), number_on) (ap (λ (m : ℕ). number_on m t) e)

-- no digit there may follow the number n
abbrev pub Stop : ℕ → Bytes → Type 0
Stop n t = is_digit (get_or t 0 0) ≡ true → more n (get_or t 0 0) ≡ false

pub number-stop : (n : ℕ) (t : Bytes) → Stop n t → number_on n t ≡ (n, t)
unfolding number_on
number-stop n [] h = refl
number-stop n (b ∷ t) h = rw (go (is_digit b) h, number_on)
  where
    go : (x : Bool) → (x ≡ true → more n b ≡ false) → (x && more n b) ≡ false
    go true f = f refl
    go false f = refl

pub number-back : (n : ℕ) (t : Bytes) → 0 < n → n < 1000 → Stop n t → number_on 0 (digits n ++ t) ≡ (n, t)
number-back n t z h s = by_digits number_on number-digit n t z h ∙ number-stop n t s

-- ---- and so is a run
-- what stands after a run does not go on with it
pub record Whole (lo hi : ℕ) (t : Bytes) : Type 0 where
  low : 0 < lo
  up : lo ≤ hi
  small : hi < 1000
  stop : Stop hi t
  dash : lo ≡ hi → get_or t 0 44 ≡ 45 → ⊥

dash-stop : (n : ℕ) (t : Bytes) → Stop n (45 ∷ t)
unfolding is_digit within
dash-stop n t e = clash (sym e)

pub first_back : {lo hi : ℕ} {t : Bytes} → Whole lo hi t → number_on 0 (run_text lo hi t) ≡ (lo, pick (ltb lo hi) (45 ∷ (digits hi ++ t)) t)
unfolding run_text
first_back {lo} {hi} {t} w = go (dec_lt lo hi)
  where
    go : Dec (lo < hi) → number_on 0 (run_text lo hi t) ≡ (lo, pick (ltb lo hi) (45 ∷ (digits hi ++ t)) t)
    go (yes q) = rw (lt-ltb lo hi q) (number-back lo (45 ∷ (digits hi ++ t)) w.low (omega (arith, w.small)) (dash-stop lo (digits hi ++ t)))
    go (no q) =
        let e : hi ≡ lo = omega (arith, w.up) in
        rw (le-ltb lo hi (omega arith)) (number-back lo t w.low (omega (arith, w.small)) (rw e at w.stop))

-- the rest of a list after its first
tail-same : (b : ℕ) (t u : Bytes) → b ∷ t ≡ b ∷ u → t ≡ u
tail-same b t u e = cc

module _ {lo hi a b : ℕ} {t u : Bytes} (w : Whole lo hi t) (x : Whole a b u) (e : run_text lo hi t ≡ run_text a b u) where
  same_first : ◌≡◌ {A = ℕ × Bytes} (lo, pick (ltb lo hi) (45 ∷ (digits hi ++ t)) t) (a, pick (ltb a b) (45 ∷ (digits b ++ u)) u)
  same_first = sym (first_back w) ∙ ap (number_on 0) e ∙ first_back x

  run-back : (lo ≡ a) × (hi ≡ b) × (t ≡ u)
  run-back = let y = go (dec_lt lo hi) (dec_lt a b) (ap (λ (y : ℕ × Bytes). y.1) same_first) in (i, y.0, y.1)
    where
      i : lo ≡ a
      i = ap (λ (y : ℕ × Bytes). y.0) same_first

      go : Dec (lo < hi) → Dec (a < b) → pick (ltb lo hi) (45 ∷ (digits hi ++ t)) t ≡ pick (ltb a b) (45 ∷ (digits b ++ u)) u → (hi ≡ b) × (t ≡ u)
      go (yes q) (yes r) f =
          let g : 45 ∷ (digits hi ++ t) ≡ 45 ∷ (digits b ++ u) = rw (lt-ltb lo hi q, lt-ltb a b r) at f in
          let y = sym (number-back hi t (omega arith) w.small w.stop) ∙ ap (number_on 0) (tail-same 45 (digits hi ++ t) (digits b ++ u) g) ∙ number-back b u (omega arith) x.small x.stop in
          (ap (λ (z : ℕ × Bytes). z.0) y, ap (λ (z : ℕ × Bytes). z.1) y)
      go (yes q) (no r) f =
          let g : 45 ∷ (digits hi ++ t) ≡ u = rw (lt-ltb lo hi q, le-ltb a b (omega arith)) at f in
          absurd (x.dash (omega (arith, x.up)) (ap (λ (z : Bytes). get_or z 0 44) (sym g)))
      go (no q) (yes r) f =
          let g : t ≡ 45 ∷ (digits b ++ u) = rw (le-ltb lo hi (omega arith), lt-ltb a b r) at f in
          absurd (w.dash (omega (arith, w.up)) (ap (λ (z : Bytes). get_or z 0 44) g))
      go (no q) (no r) f = (omega (arith, i, w.up, x.up), rw (le-ltb lo hi (omega arith), le-ltb a b (omega arith)) at f)

tail-first : (rs : List (ℕ × ℕ)) → (get_or (tail_text rs) 0 44 ≡ 44) × (is_digit (get_or (tail_text rs) 0 0) ≡ false)
unfolding tail_text is_digit within
tail-first [] = (refl, refl)
tail-first (r ∷ rs) = (refl, refl)

pub run-whole : (p : ℕ) (q : ℕ × ℕ) (qs : List (ℕ × ℕ)) → Asc p (q ∷ qs) → Whole q.0 q.1 (tail_text qs)
run-whole p q qs a =
    record {
      low = omega (arith, a.0);
      up = a.1;
      small = a.2;
      stop = λ e. clash (sym e ∙ (tail-first qs).1);
      dash = λ _ e. omega (arith, e, (tail-first qs).0);
    }

-- what is read at the place of a run is that run
pub record Reads (q : ℕ × ℕ) (qs : List (ℕ × ℕ)) (l : Bytes) (lo hi to : ℕ) : Type 0 where
  pub first : lo ≡ q.0
  pub last : hi ≡ q.1
  pub onward : to ≤ length l
  pub tail : drop to l ≡ tail_text qs

pub read-place : {l : Bytes} {at lo hi to : ℕ} (c : Place l at) → RunAt l at 0 lo hi to → Reads c.q c.after l lo hi to
unfolding text read_in
read-place {l} {at} c (nothing z f) =
    let r : accepted (in_runs (c.q ∷ c.after)) ≡ refused = sym (runs-accepted c.q c.after (from_place c)) ∙ ap read_in (sym (drop-place c)) ∙ ap set_in (f empty_set) in
    let o : ◌≡◌ {A = ℕ} 0 1 = cc in absurd (omega arith)
read-place {l} {at} {lo} {hi} {to} c (run h k b i g e x d) =
    let z : to + 0 ≡ to = omega arith in
    let w : Whole lo hi (drop to l) = record { low = omega arith; up = k; small = b; stop = rw (get_or-drop to l 0 0, z) x; dash = rw (get_or-drop to l 0 44, z) d } in
    let y = run-back w (run-whole 0 c.q c.after (from_place c)) (sym e ∙ drop-place c) in
    record { first = y.0; last = y.1; onward = g; tail = y.2 }

-- where a run begins, one is read
pub run-there : {l : Bytes} {at : ℕ} (c : Place l at) (r : Option Run) → RunRead l at 0 r → IsSome r
run-there c None x = absurd (omega (arith, (read-place c x).last, (from_place c).0, (from_place c).1))
run-there c (Some y) x = refl

-- ---- places
-- the text of the set of runs is theirs
pub text-in_runs : (rs : List (ℕ × ℕ)) → Asc 0 rs → text_of (in_runs rs) ≡ text rs
unfolding rest listed
text-in_runs rs a = text-runs (in_runs rs) ∙ ap text (runs-back rs 0 1 a (omega arith) (omega arith))

free-at : (f : ℕ → Bool) (w : Bytes) (i : ℕ) → Free f w → i < length w → f (get_or w i 0) ≡ false
free-at f [] i g h = absurd (omega arith)
free-at f (b ∷ w) zero g h = g.0
free-at f (b ∷ w) (suc i) g h = free-at f w i g.1 (omega arith)

-- a run has no comma
no-comma : (p : ℕ) (q : ℕ × ℕ) (qs : List (ℕ × ℕ)) (t : Bytes) (i : ℕ) → Asc p (q ∷ qs) → i < length (write_run q) → get_or (write_run q ++ t) i 0 ≡ 44 → ⊥
no-comma p q qs t i a h e =
    eqb-false 44 (get_or (write_run q) i 0) (free-at (eqb 44) (write_run q) i (free-run q.0 q.1 (omega (arith, a.0)) a.1 (omega (arith, a.2))) h)
    (sym (sym (get_or-append (write_run q) t 0 i h) ∙ e))

-- a comma stands inside the text
pub inside : (l : Bytes) (k : ℕ) → get_or l k 0 ≡ 44 → k < length l
inside l k e = go (dec_lt k (length l))
  where
    go : Dec (k < length l) → k < length l
    go (yes q) = q
    go (no q) = absurd (omega (arith, e, get_or-eq_default l 0 {n = k} (omega arith)))

-- a run begins after each comma
record Later (p : ℕ) (q : ℕ × ℕ) (qs : List (ℕ × ℕ)) (k : ℕ) : Type 0 where
  before : List (ℕ × ℕ)
  r : ℕ × ℕ
  after : List (ℕ × ℕ)
  is : qs ≡ before ++ r ∷ after
  place : k + 1 ≡ length (write_run q) + 1 + length (lead before)

comma-begins : (p : ℕ) (q : ℕ × ℕ) (qs : List (ℕ × ℕ)) (k : ℕ) → Asc p (q ∷ qs) → get_or (write_run q ++ tail_text qs) k 0 ≡ 44 → Later p q qs k
unfolding tail_text lead text
comma-begins p q [] k a e = go (dec_lt k (length (write_run q)))
  where
    go : Dec (k < length (write_run q)) → Later p q [] k
    go (yes h) = absurd (no-comma p q [] [] k a h e)
    go (no h) = absurd (omega (arith, inside (write_run q ++ []) k e, length-append (write_run q) []))
comma-begins p q (r ∷ rs) k a e = go (dec_lt k (length (write_run q))) (dec_lt (length (write_run q)) k) (λ j f. comma-begins (q.1 + 1) r rs j a.3 f)
  where
    go : Dec (k < length (write_run q)) → Dec (length (write_run q) < k)
        → ((j : ℕ) → get_or (write_run r ++ tail_text rs) j 0 ≡ 44 → Later (q.1 + 1) r rs j) → Later p q (r ∷ rs) k
    go (yes h) d ih = absurd (no-comma p q (r ∷ rs) (tail_text (r ∷ rs)) k a h e)
    go (no h) (no d) ih = record { before = []; r = r; after = rs; is = refl; place = omega arith }
    go (no h) (yes d) ih =
        let j : ℕ = k - length (write_run q) - 1 in
        let z : length (write_run q) + suc j ≡ k = omega arith in
        let f : get_or (44 ∷ text (r ∷ rs)) (suc j) 0 ≡ 44 = sym (get_or-append-add (write_run q) (44 ∷ text (r ∷ rs)) (suc j) 0) ∙ ap (λ (n : ℕ). get_or (write_run q ++ tail_text (r ∷ rs)) n 0) z ∙ e in
        let y = ih j (ap (λ (t : Bytes). get_or t j 0) (sym (text-cons (q.1 + 1) r rs a.3)) ∙ f) in
        record {
          before = r ∷ y.before;
          r = y.r;
          after = y.after;
          is = ap (λ (t : List (ℕ × ℕ)). r ∷ t) y.is;
          place = rw (length-append (write_run r) (44 ∷ lead y.before)) (omega (arith, y.place));
        }

module _ (l : Bytes) (s : ℕ → Bool) (e : parsed l ≡ accepted s) where
  -- the first run begins at 0
  pub place-zero : Place l 0
  unfolding lead
  place-zero = let f = accepted-runs l s (read-parsed l ∙ e) in record { before = []; q = f.0; after = f.1; asc = f.2; is = f.3; place = refl }

  -- the others after commas
  pub place-comma : (k : ℕ) → get_or l k 0 ≡ 44 → Place l (k + 1)
  unfolding lead
  place-comma k d =
      let f = accepted-runs l s (read-parsed l ∙ e) in
      let q = f.0 in
      let y = comma-begins 0 q f.1 k f.2 (ap (λ (t : Bytes). get_or t k 0) (sym (f.3 ∙ text-cons 0 q f.1 f.2)) ∙ d) in
      record {
        before = q ∷ y.before;
        q = y.r;
        after = y.after;
        asc = rw y.is at f.2;
        is = f.3 ∙ ap (λ (t : List (ℕ × ℕ)). text (q ∷ t)) y.is;
        place = y.place ∙ rw (length-append (write_run q) (44 ∷ lead y.before)) (omega arith);
      }

  pub place-begins : (at : ℕ) → (0 < at → get_or l (at - 1) 0 ≡ 44) → Place l at
  place-begins zero h = place-zero
  place-begins (suc k) h = let z : k + 1 ≡ suc k = omega arith in let y : suc k - 1 ≡ k = omega arith in rw z at (place-comma k (rw y at (h (omega arith))))

  -- the set is that of the runs
  pub place_set : {at : ℕ} (c : Place l at) → s ≡ in_runs (c.before ++ c.q ∷ c.after)
  place_set c = go c.before c.asc c.is
    where
      go : (xs : List (ℕ × ℕ)) → Asc 0 (xs ++ c.q ∷ c.after) → l ≡ text (xs ++ c.q ∷ c.after) → s ≡ in_runs (xs ++ c.q ∷ c.after)
      go [] a i = let r : accepted s ≡ accepted (in_runs (c.q ∷ c.after)) = sym (read-parsed l ∙ e) ∙ ap read_in i ∙ runs-accepted c.q c.after a in cc
      go (x ∷ xs) a i = let r : accepted s ≡ accepted (in_runs (x ∷ (xs ++ c.q ∷ c.after))) = sym (read-parsed l ∙ e) ∙ ap read_in i ∙ runs-accepted x (xs ++ c.q ∷ c.after) a in cc

-- ---- the sets of runs before and from a place
pub runs_append : (xs ys : List (ℕ × ℕ)) (u : ℕ) → in_runs (xs ++ ys) u ≡ (in_runs xs u || in_runs ys u)
unfolding any
runs_append [] ys u = refl
runs_append (x ∷ xs) ys u = ap (λ (b : Bool). in_run u x || b) (runs_append xs ys u) ∙ sym (or_assoc (in_run u x) (in_runs xs u) (in_runs ys u))

-- the runs from a place on may be replaced
pub asc-swap : (p : ℕ) (xs qs rs : List (ℕ × ℕ)) → ((m : ℕ) → Asc m qs → Asc m rs) → Asc p (xs ++ qs) → Asc p (xs ++ rs)
asc-swap p [] qs rs f a = f p a
asc-swap p (x ∷ xs) qs rs f a = (a.0, a.1, a.2, asc-swap (x.1 + 1) xs qs rs f a.3)

-- a set with the runs xs, and then r and rs, has their text
pub text-swap : (t : ℕ → Bool) (xs : List (ℕ × ℕ)) (r : ℕ × ℕ) (rs : List (ℕ × ℕ)) → Asc 0 (xs ++ r ∷ rs)
    → ((u : ℕ) → t u ≡ (in_runs xs u || in_runs (r ∷ rs) u)) → text_of t ≡ lead xs ++ text (r ∷ rs)
text-swap t xs r rs a h =
    ap text_of (fun_ext (λ u. h u ∙ sym (runs_append xs (r ∷ rs) u))) ∙ text-in_runs (xs ++ r ∷ rs) a ∙ lead-text 0 xs r rs a

-- ---- the last run
-- no comma stands from the place m to before the place e
abbrev pub Clear : Bytes → ℕ → ℕ → Type 0
Clear l m e = (j : ℕ) → m ≤ j → j < e → get_or l j 0 ≡ 44 → ⊥

pub clear-down : (l : Bytes) (m e : ℕ) → Clear l m e → (get_or l (m - 1) 0 ≡ 44 → ⊥) → Clear l (m - 1) e
clear-down l m e f g j a b = go (dec_lt j m)
  where
    go : Dec (j < m) → get_or l j 0 ≡ 44 → ⊥
    go (yes q) = let z : j ≡ m - 1 = omega arith in rw z g
    go (no q) = f j (omega arith) b

pub clear_up : (l : Bytes) (m e : ℕ) → Clear l m e → (get_or l e 0 ≡ 44 → ⊥) → Clear l m (e + 1)
clear_up l m e f g j a b = go (dec_lt j e)
  where
    go : Dec (j < e) → get_or l j 0 ≡ 44 → ⊥
    go (yes q) = f j a q
    go (no q) = let z : j ≡ e = omega arith in rw z g

-- the text's last run begins at the place `at`
pub record LastStart (l : Bytes) (at : ℕ) : Type 0 where
  pub low : at ≤ length l
  pub comma : 0 < at → get_or l (at - 1) 0 ≡ 44
  pub clear : Clear l at (length l)

pub last-alone : {l : Bytes} {at : ℕ} (c : Place l at) → LastStart l at → c.after ≡ []
unfolding tail_text
last-alone {l} {at} c b = go c.after (from_place c) (drop-place c)
  where
    go : (rs : List (ℕ × ℕ)) → Asc 0 (c.q ∷ rs) → drop at l ≡ text (c.q ∷ rs) → rs ≡ []
    go [] a e = refl
    go (r ∷ rs) a e =
        let m : ℕ = length (write_run c.q) in
        let x : get_or l (at + m) 0 ≡ 44 =
        sym (get_or-drop at l m 0) ∙ ap (λ (t : Bytes). get_or t m 0) (e ∙ text-cons 0 c.q (r ∷ rs) a) ∙ get_or-append_seam (write_run c.q) 44 (run_text r.0 r.1 (tail_text rs)) 0 in
        absurd (b.clear (at + m) (omega arith) (inside l (at + m) x) x)
