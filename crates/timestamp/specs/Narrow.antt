-- The last run of a set's text that begins at a number or below it, found by halving: it is where the set is cut at that number.
use Prim.Native.Nat.{ℕ, suc, ◌+◌, ◌-◌, ◌≤◌, ◌<◌}
use Rattle.std.specs.Prelude.{◌≡◌, Bool, get_or, take, drop, Option, Some, None, IsSome}
use Rattle.std.proofs.Math.Path.{refl}
use Rattle.std.proofs.Common.{sym, ap, ◌∙◌, arith, length-append, length-drop, get_or-append-add, get_or-drop}
use mathlib.Core.List.{List, [], ◌∷◌, ◌++◌, append_assoc}
use Rattle.std.proofs.Math.Bool.{true, false}
use Rattle.std.proofs.Math.Decide.{dec_lt}
use Rattle.std.proofs.Math.ListN.{length}
use Rattle.std.proofs.Math.Seq.{get_or-append_seam, take-length}
use Rattle.xml.specs.Bytes.{Bytes, any}
use Rattle.xml.specs.Truth.{clash}
use Rattle.timestamp.specs.Times.{write_run}
use Rattle.timestamp.specs.TimesLaws.{in_run, run_in_lem, or-by}
use Rattle.timestamp.specs.Runs.{Asc, in_runs, rest, below-runs, runs-back}
use Rattle.timestamp.specs.Digits.{text, tail_text}
use Rattle.timestamp.specs.Numbers.{NumberAt, stays, reads, Ended, NumberRead}
use Rattle.timestamp.specs.Write.{run_short}
use Rattle.timestamp.specs.declared.text.Number.{Number}
use Rattle.timestamp.specs.Place.{IsSet, lead, Place, Clear, text-cons, asc-from, from_place, split-place, drop-place, number_on, Stop, number-stop, number-back, first_back, run-whole, place-zero, place-comma, place_set}

-- ---- places in the text
-- a place where a run begins is inside
lead-long : (x : ℕ × ℕ) (xs : List (ℕ × ℕ)) → length (lead (x ∷ xs)) ≡ length (write_run x) + 1 + length (lead xs)
unfolding lead
lead-long x xs = rw (length-append (write_run x) (44 ∷ lead xs)) (omega arith)

-- a comma stands before it
lead-comma : (xs : List (ℕ × ℕ)) (t : Bytes) → 0 < length (lead xs) → get_or (lead xs ++ t) (length (lead xs) - 1) 0 ≡ 44
unfolding lead
lead-comma [] t h = absurd (omega arith)
lead-comma (x ∷ xs) t h = ap (λ (w : Bytes). get_or w (length (lead (x ∷ xs)) - 1) 0) (append_assoc (write_run x) (44 ∷ lead xs) t) ∙ go (dec_lt 0 (length (lead xs))) (λ q. lead-comma xs t q)
  where
    go : Dec (0 < length (lead xs)) → (0 < length (lead xs) → get_or (lead xs ++ t) (length (lead xs) - 1) 0 ≡ 44) → get_or (write_run x ++ 44 ∷ (lead xs ++ t)) (length (lead (x ∷ xs)) - 1) 0 ≡ 44
    go (yes q) ih =
        let z : length (lead (x ∷ xs)) - 1 ≡ length (write_run x) + suc (length (lead xs) - 1) = omega (arith, lead-long x xs) in
        rw z (get_or-append-add (write_run x) (44 ∷ (lead xs ++ t)) (suc (length (lead xs) - 1)) 0 ∙ ih q)
    go (no q) ih =
        let z : length (lead (x ∷ xs)) - 1 ≡ length (write_run x) = omega (arith, lead-long x xs) in
        rw z (get_or-append_seam (write_run x) 44 (lead xs ++ t) 0)

place_after : {l : Bytes} {at : ℕ} (c : Place l at) → 0 < at → get_or l (at - 1) 0 ≡ 44
place_after {l} {at} c h =
    ap (λ (t : Bytes). get_or t (at - 1) 0) (split-place c) ∙ ap (λ (n : ℕ). get_or (lead c.before ++ text (c.q ∷ c.after)) (n - 1) 0) c.place
    ∙ lead-comma c.before (text (c.q ∷ c.after)) (omega (arith, c.place))

run-some : (p : ℕ) (q : ℕ × ℕ) (qs : List (ℕ × ℕ)) → Asc p (q ∷ qs) → 0 < length (text (q ∷ qs))
run-some p q qs a =
    let y = ap length (text-cons p q qs a) in
    omega (arith, y, length-append (write_run q) (tail_text qs), (run_short q.0 q.1 (omega (arith, a.0)) a.1 a.2).0)

pub place_inside : {l : Bytes} {at : ℕ} (c : Place l at) → at < length l
place_inside {l} {at} c =
    omega (arith, c.place, ap length (split-place c), length-append (lead c.before) (text (c.q ∷ c.after)), run-some 0 c.q c.after (from_place c))

-- the run after it begins after its comma
lead_snoc : (xs : List (ℕ × ℕ)) (q : ℕ × ℕ) → length (lead (xs ++ q ∷ [])) ≡ length (lead xs) + length (write_run q) + 1
unfolding lead
lead_snoc [] q = lead-long q [] ∙ omega arith
lead_snoc (x ∷ xs) q = lead-long x (xs ++ q ∷ []) ∙ omega (arith, lead_snoc xs q, lead-long x xs)

next_place : {l : Bytes} {at : ℕ} (c : Place l at) (r : ℕ × ℕ) (rs : List (ℕ × ℕ)) → c.after ≡ r ∷ rs → Place l (at + length (write_run c.q) + 1)
next_place {l} {at} c r rs e =
    let z : c.before ++ c.q ∷ c.after ≡ (c.before ++ c.q ∷ []) ++ r ∷ rs = ap (λ (t : List (ℕ × ℕ)). c.before ++ c.q ∷ t) e ∙ sym (append_assoc c.before (c.q ∷ []) (r ∷ rs)) in
    record {
      before = c.before ++ c.q ∷ [];
      q = r;
      after = rs;
      asc = rw z at c.asc;
      is = c.is ∙ ap text z;
      place = omega (arith, c.place, lead_snoc c.before c.q);
    }

-- the runs of a text are determined by it, and those that begin later have greater numbers
place_same : {l : Bytes} {at k : ℕ} → IsSet l → (c : Place l at) (d : Place l k) → c.before ++ c.q ∷ c.after ≡ d.before ++ d.q ∷ d.after
place_same {l} w c d =
    sym (runs-back (c.before ++ c.q ∷ c.after) 0 1 c.asc (omega arith) (omega arith))
    ∙ ap (λ (s : ℕ → Bool). rest s 1) (sym (place_set l w.s w.is c) ∙ place_set l w.s w.is d)
    ∙ runs-back (d.before ++ d.q ∷ d.after) 0 1 d.asc (omega arith) (omega arith)

later : (p : ℕ) (xs ys : List (ℕ × ℕ)) (q r : ℕ × ℕ) (qs rs : List (ℕ × ℕ)) → xs ++ q ∷ qs ≡ ys ++ r ∷ rs → Asc p (xs ++ q ∷ qs) → length (lead xs) ≤ length (lead ys) → q.0 ≤ r.0
unfolding lead
later p [] [] q r qs rs e a h = let z : q ≡ r = cc in rw z (omega arith)
later p [] (y ∷ ys) q r qs rs e a h =
    let z : qs ≡ ys ++ r ∷ rs = cc in
    let x = asc-from (q.1 + 1) ys (r ∷ rs) (rw z at a.3) in omega (arith, a.1, x.0)
later p (x ∷ xs) [] q r qs rs e a h = absurd (omega (arith, lead-long x xs))
later p (x ∷ xs) (y ∷ ys) q r qs rs e a h =
    let z : x ≡ y = cc in
    let f : xs ++ q ∷ qs ≡ ys ++ r ∷ rs = cc in
    later (x.1 + 1) xs ys q r qs rs f a.3 (omega (arith, lead-long x xs, lead-long y ys, ap (λ (n : ℕ × ℕ). length (write_run n)) z))

place-later : {l : Bytes} {at k : ℕ} → IsSet l → (c : Place l at) (d : Place l k) → at ≤ k → c.q.0 ≤ d.q.0
place-later w c d h = later 0 c.before d.before c.q d.q c.after d.after (place_same w c d) c.asc (omega (arith, c.place, d.place))

-- the number that is read at a place is the first of its run
pub first-place : {l : Bytes} {at n to : ℕ} (c : Place l at) → NumberAt l at n to → Ended l n to → n ≡ c.q.0
unfolding text
first-place {l} {at} {n} {to} c o x = ap (λ (y : ℕ × Bytes). y.0) (sym (go o) ∙ ap (number_on 0) (drop-place c) ∙ first_back (run-whole 0 c.q c.after (from_place c)))
  where
    stop : Stop n (drop to l)
    stop = let z : to + 0 ≡ to = omega arith in rw (get_or-drop to l 0 0, z) x

    go : NumberAt l at n to → number_on 0 (drop at l) ≡ (n, drop to l)
    go (stays e f) = ap (λ (m : ℕ). number_on m (drop at l)) (sym e) ∙ ap (λ (m : ℕ). number_on n (drop m l)) (sym f) ∙ number-stop n (drop to l) stop
    go (reads i j e f g) = ap (number_on 0) e ∙ number-back n (drop to l) i j stop

-- ---- halving
-- the place after the next comma from the place `at` on; the text's end where there is none
pub record NextStart (l : Bytes) (at r : ℕ) : Type 0 where
  pub high : r ≤ length l
  pub clear : Clear l at (r - 1)
  pub comma : r < length l → (at < r) × (get_or l (r - 1) 0 ≡ 44)

-- it is that of the text from there on
pub next-from : (l : Bytes) (at r : ℕ) → at ≤ length l → NextStart (take (length l - at) (drop at l)) 0 r → NextStart l at (at + r)
next-from l at r h n = go (rw rest at n)
  where
    rest : take (length l - at) (drop at l) ≡ drop at l
    rest = ap (λ (k : ℕ). take k (drop at l)) (sym (length-drop at l)) ∙ take-length (drop at l)

    go : NextStart (drop at l) 0 r → NextStart l at (at + r)
    go n =
        record {
          high = omega (arith, n.high, length-drop at l);
          clear = λ j a b.
              let z : at + (j - at) ≡ j = omega arith in
              let y : get_or (drop at l) (j - at) 0 ≡ get_or l j 0 = rw z at (get_or-drop at l (j - at) 0) in
              let x : get_or l j 0 ≡ 44 → ⊥ = λ e. n.clear (j - at) (omega arith) (omega arith) (y ∙ e) in x;
          comma = λ k.
              let x = n.comma (omega (arith, length-drop at l)) in
              let z : at + (r - 1) ≡ at + r - 1 = omega (arith, x.0) in
              (omega (arith, x.0), rw z at (sym (get_or-drop at l (r - 1) 0) ∙ x.1));
        }

-- the run at lo begins at v or below it, or is the first; those at hi or after begin above v
pub record Bracket (l : Bytes) (v lo hi : ℕ) : Type 0 where
  pub set : IsSet l
  pub here : Place l lo
  pub low : 0 < lo → here.q.0 ≤ v
  pub high : (k : ℕ) (c : Place l k) → hi ≤ k → v < c.q.0
  pub inside : hi ≤ length l

-- the run at the place `at` is the last that begins at v or below it, or the first
pub record Narrowed (l : Bytes) (v at : ℕ) : Type 0 where
  pub here : Place l at
  pub low : 0 < at → here.q.0 ≤ v
  pub high : (r : ℕ × ℕ) (rs : List (ℕ × ℕ)) → here.after ≡ r ∷ rs → v < r.0

pub bracket-all : {l : Bytes} (v : ℕ) → IsSet l → Bracket l v 0 (length l)
bracket-all {l} v w =
    record {
      set = w;
      here = place-zero l w.s w.is;
      low = λ h. absurd (omega arith);
      high = λ k c h. absurd (omega (arith, place_inside c));
      inside = omega arith;
    }

module _ {l : Bytes} {v lo hi : ℕ} (b : Bracket l v lo hi) where
  pub bracket-in : lo < length l
  bracket-in = place_inside b.here

  pub bracket-end : hi ≤ lo + 1 → Narrowed l v lo
  unfolding next_place
  bracket-end h =
      record {
        here = b.here;
        low = b.low;
        high = λ r rs e. b.high (lo + length (write_run b.here.q) + 1) (next_place b.here r rs e) (omega arith);
      }

  module _ {mid next : ℕ} (g : 0 < mid) (i : mid < hi) (n : NextStart l (mid - 1) next) where
    -- no run begins from mid to before the next start
    none_between : (k : ℕ) → Place l k → mid ≤ k → next ≤ k
    none_between k c h = go (dec_lt k next)
      where
        go : Dec (k < next) → next ≤ k
        go (yes q) = absurd (n.clear (k - 1) (omega arith) (omega arith) (place_after c (omega arith)))
        go (no q) = omega arith

    upper : ((k : ℕ) (c : Place l k) → next ≤ k → v < c.q.0) → Bracket l v lo mid
    upper f = record { set = b.set; here = b.here; low = b.low; high = λ k c h. f k c (none_between k c h); inside = omega (arith, b.inside) }

    pub bracket-none : hi ≤ next → Bracket l v lo mid
    bracket-none h = upper (λ k c j. b.high k c (omega arith))

    module _ (h : next < hi) where
      pub next_up : mid ≤ next
      next_up = omega (arith, (n.comma (omega (arith, b.inside))).0)

      starts : Place l next
      starts =
          let x = n.comma (omega (arith, b.inside)) in
          let z : next - 1 + 1 ≡ next = omega (arith, x.0) in
          rw z at (place-comma l b.set.s b.set.is (next - 1) x.1)

      -- where a run starts, a number is read
      pub number-there : (r : Option Number) → NumberRead l next r → IsSome r
      number-there None x = absurd (omega (arith, first-place starts x.0 x.1, (from_place starts).0))
      number-there (Some m) x = refl

      module _ {m to : ℕ} (o : NumberAt l next m to) (x : Ended l m to) where
        pub bracket-low : m ≤ v → Bracket l v next hi
        bracket-low j =
            record { set = b.set; here = starts; low = λ _. omega (arith, first-place starts o x); high = b.high; inside = b.inside }

        pub bracket-high : v < m → Bracket l v lo mid
        bracket-high j = upper (λ k c q. omega (arith, first-place starts o x, place-later b.set starts c q))

-- ---- what the run found tells
-- the runs before a place have lower numbers
before-low : (p : ℕ) (xs : List (ℕ × ℕ)) (q : ℕ × ℕ) (qs : List (ℕ × ℕ)) (u : ℕ) → Asc p (xs ++ q ∷ qs) → in_runs xs u ≡ true → u < q.0
unfolding any
before-low p [] q qs u a e = clash (sym e)
before-low p (x ∷ xs) q qs u a e =
    or-by (in_run u x) (in_runs xs u) e
    (λ t. let y = asc-from (x.1 + 1) xs (q ∷ qs) a.3 in omega (arith, (run_in_lem u x.0 x.1 t).1, y.0))
    (λ t. before-low (x.1 + 1) xs q qs u a.3 t)

module _ {l : Bytes} {v at : ℕ} (n : Narrowed l v at) where
  -- the runs before it have lower numbers than it, and then it begins at v or below
  pub before-out : (u : ℕ) → in_runs n.here.before u ≡ true → (u < n.here.q.0) × (n.here.q.0 ≤ v)
  unfolding lead any
  before-out u e = go n.here.before n.here.asc n.here.place e
    where
      go : (xs : List (ℕ × ℕ)) → Asc 0 (xs ++ n.here.q ∷ n.here.after) → at ≡ length (lead xs) → in_runs xs u ≡ true → (u < n.here.q.0) × (n.here.q.0 ≤ v)
      go [] a z e = clash (sym e)
      go (x ∷ xs) a z e = (before-low 0 (x ∷ xs) n.here.q n.here.after u a e, n.low (omega (arith, z, lead-long x xs)))

  -- the runs after it have greater numbers
  pub none_after : (u : ℕ) → u ≤ v → in_runs n.here.after u ≡ false
  unfolding any
  none_after u h = go n.here.after (from_place n.here).3 n.high
    where
      go : (rs : List (ℕ × ℕ)) → Asc (n.here.q.1 + 1) rs → ((r : ℕ × ℕ) (qs : List (ℕ × ℕ)) → rs ≡ r ∷ qs → v < r.0) → in_runs rs u ≡ false
      go [] a f = refl
      go (r ∷ rs) a f = below-runs (r.0 - 1) u (r ∷ rs) (omega (arith, a.0), a.1, a.2, a.3) (omega (arith, f r rs refl))
