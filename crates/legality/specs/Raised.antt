-- What is added to the versions of a set as its text is read, from run to run.
use Prim.Native.Nat.{ℕ, ◌+◌, ◌-◌, ◌*◌, ◌≤◌, ◌<◌}
use native.Mathlib.Omega.{arith}
use Rattle.std.proofs.Common.{add-one, ◌∙◌, ap, le-leb, eqb-true, ltb-true, ltb-false}
use Rattle.std.proofs.Math.Path.{◌≡◌, sym}
use Rattle.std.specs.Prelude.{refl, Bool, ◌&&◌, ◌||◌, List, [], ◌∷◌, eqb, leb, ltb, length, get_or}
use Rattle.std.proofs.Math.Bool.{true, false, or-false}
use Rattle.std.proofs.lemmas.Bool.{lt-leb, eqb-false}
use Rattle.std.proofs.Math.Seq.{slice, slice-cons}
use Rattle.xml.specs.Bytes.{Bytes, is_digit}
use Rattle.xml.specs.Truth.{by-test, not_so, clash, and_right}
use Rattle.timestamp.specs.TimesLaws.{digit_low, digit-high}
use Rattle.timestamp.specs.Set.{empty_set, joined, between}
use Rattle.timestamp.specs.Parse.{refused, accepted, parsed, numbers_in}
use Rattle.timestamp.specs.Parses.{read-parsed}
use Rattle.timestamp.specs.Reading.{St, bad, st, pick_n, pick_s, more, opens, closes, start_at, digit_in, dash_in, close_in, step_in, steps, set_in, read_in, start-le, more-low, step-digit, step-dash, step-comma, step_other}
use Rattle.timestamp.specs.Sound.{steps-bad}
use Rattle.versions.specs.Sizes.{when_in}
use Rattle.versions.specs.Grown.{Cells, Grown, grown-none, grown-then, grown-same, in_run, run_in_lem, run-below, run_past}

-- the text is read as its numbers
abbrev pub Readable : Bytes → Type 0
Readable l = parsed l ≡ accepted (numbers_in l)

-- ---- what ends well is never bad
module _ (S : ℕ → Bool) where
  abbrev Ends : St → Bytes → Type 0
  Ends z l = set_in (close_in (steps z l)) ≡ accepted S

  never-bad : (l : Bytes) → Ends bad l → ⊥
  unfolding close_in
  never-bad l e =
      let r : refused ≡ accepted S = sym (ap (λ (z : St). set_in (close_in z)) (steps-bad l)) ∙ e in
      let z : ◌≡◌ {A = ℕ} 0 1 = cc in
      omega arith

  -- of the two states it is the good one
  good : (b : Bool) (z : St) (l : Bytes) → Ends (pick_s b z bad) l → (b ≡ true) × Ends z l
  good true z l e = (refl, e)
  good false z l e = absurd (never-bad l e)

-- the bytes l are left of the text of S; lo and n are read of a run; the versions of the runs before it have x and y more
pub record Raising (l : Bytes) (S : ℕ → Bool) (x y : ℕ) (nodes nodes' bytes bytes' : List ℕ) (lo n : ℕ) : Type 0 where
  pub set : ℕ → Bool
  pub p : ℕ
  pub ends : set_in (close_in (steps (st set p lo n) l)) ≡ accepted S
  pub below : (v : ℕ) → p ≤ v → set v ≡ false
  pub past : (lo ≡ 0 → ⊥) → p < lo
  pub small : n < 1000
  pub in-nodes : Grown nodes nodes' (λ v. when_in (set v) x)
  pub in_bytes : Grown bytes bytes' (λ v. when_in (set v) y)

module _ {l : Bytes} {x y : ℕ} {nodes bytes : List ℕ} where
  pub raising-start : Readable l → Raising l (numbers_in l) x y nodes nodes bytes bytes 0 0
  unfolding read_in
  raising-start e =
      record {
        set = empty_set;
        p = 0;
        ends = read-parsed l ∙ e;
        below = λ v h. refl;
        past = λ h. absurd (h refl);
        small = omega arith;
        in-nodes = grown-none;
        in_bytes = grown-none;
      }

-- one byte more of what is left
pub raising-byte : (src : List ℕ) (at e : ℕ) {S : ℕ → Bool} {x y : ℕ} {nodes nodes' bytes bytes' : List ℕ} {lo n : ℕ} → at < e → e ≤ length src → Raising (slice at e src) S x y nodes nodes' bytes bytes' lo n
    → Raising (get_or src at 0 ∷ slice (at + 1) e src) S x y nodes nodes' bytes bytes' lo n
raising-byte src at e h k r = rw (slice-cons at e src 0 h k ∙ ap (λ (m : ℕ). get_or src at 0 ∷ slice m e src) (sym (add-one at))) at r

module _ {b : ℕ} {l : Bytes} {S : ℕ → Bool} {x y : ℕ} {nodes nodes' bytes bytes' : List ℕ} {lo n : ℕ} (r : Raising (b ∷ l) S x y nodes nodes' bytes bytes' lo n) where
  after : set_in (close_in (steps (step_in (st r.set r.p lo n) b) l)) ≡ accepted S
  unfolding steps
  after = r.ends

  -- it is a digit
  is_digit_lem : (b ≡ 44 → ⊥) → (b ≡ 45 → ⊥) → is_digit b ≡ true
  is_digit_lem h k =
      by-test (is_digit b) (λ q. q)
      (λ q. absurd (never-bad S l (sym (ap (λ (z : St). set_in (close_in (steps z l))) (step_other (st r.set r.p lo n) b q k h)) ∙ after)))

  -- what is no digit and no comma is a dash
  pub is-dash : b < 48 → (b ≡ 44 → ⊥) → b ≡ 45
  is-dash h k = by-test (eqb b 45) (λ q. eqb-true b 45 q) (λ q. absurd (omega (arith, digit_low b (is_digit_lem k (eqb-false b 45 q)))))

  digit-next : is_digit b ≡ true → (more n b ≡ true) × (set_in (close_in (steps (st r.set r.p lo (n * 10 + (b - 48))) l)) ≡ accepted S)
  unfolding digit_in
  digit-next q = good S (more n b) (st r.set r.p lo (n * 10 + (b - 48))) l (sym (ap (λ (z : St). set_in (close_in (steps z l))) (step-digit (st r.set r.p lo n) b q)) ∙ after)

  pub digit-asks : (b ≡ 44 → ⊥) → (b ≡ 45 → ⊥) → (48 ≤ b) × (b ≤ 57) × (n < 100)
  digit-asks h k = let q = is_digit_lem h k in (digit_low b q, digit-high b q, more-low n b (digit-next q).0)

  pub raising-digit : (b ≡ 44 → ⊥) → (b ≡ 45 → ⊥) → Raising l S x y nodes nodes' bytes bytes' lo (n * 10 + (b - 48))
  raising-digit h k =
      let a = digit-asks h k in
      record {
        set = r.set;
        p = r.p;
        ends = (digit-next (is_digit_lem h k)).1;
        below = r.below;
        past = r.past;
        small = omega (arith, a);
        in-nodes = r.in-nodes;
        in_bytes = r.in_bytes;
      }

  dash-next : b ≡ 45 → (opens r.p lo n ≡ true) × (set_in (close_in (steps (st r.set r.p n 0) l)) ≡ accepted S)
  unfolding dash_in
  dash-next q = good S (opens r.p lo n) (st r.set r.p n 0) l (sym (ap (λ (z : St). set_in (close_in (steps z l))) (step-dash (st r.set r.p lo n) b q)) ∙ after)

  pub raising-dash : b ≡ 45 → Raising l S x y nodes nodes' bytes bytes' n 0
  raising-dash q =
      record {
        set = r.set;
        p = r.p;
        ends = (dash-next q).1;
        below = r.below;
        past = λ h. ltb-true r.p n (and_right (eqb lo 0) (ltb r.p n) (dash-next q).0);
        small = omega arith;
        in-nodes = r.in-nodes;
        in_bytes = r.in_bytes;
      }

  comma-next : b ≡ 44 → (closes r.p lo n ≡ true) × (set_in (close_in (steps (st (joined r.set (between (start_at lo n) n)) (n + 1) 0 0) l)) ≡ accepted S)
  unfolding close_in
  comma-next q = good S (closes r.p lo n) (st (joined r.set (between (start_at lo n) n)) (n + 1) 0 0) l (sym (ap (λ (z : St). set_in (close_in (steps z l))) (step-comma (st r.set r.p lo n) b q)) ∙ after)

  pub comma-closes : b ≡ 44 → closes r.p lo n ≡ true
  comma-closes q = (comma-next q).0

-- ---- a run that ends
module _ {l : Bytes} {S : ℕ → Bool} {x y : ℕ} {nodes nodes' bytes bytes' : List ℕ} {lo n : ℕ} (r : Raising l S x y nodes nodes' bytes bytes' lo n) (c : closes r.p lo n ≡ true) where
  -- it begins past those before it
  begins : r.p < start_at lo n
  begins = go (eqb lo 0) refl c
    where
      go : (b : Bool) → eqb lo 0 ≡ b → ltb (pick_n b r.p lo) n ≡ true → r.p < pick_n b n lo
      go true e q = ltb-true r.p n q
      go false e q = r.past (eqb-false lo 0 e)

  room : {x : ℕ} {old new : List ℕ} → Cells old 1 x → Grown old new (λ v. when_in (r.set v) x) → Cells new (start_at lo n) x
  room {x} k g =
      let b = begins in
      record {
        count = g.count ∙ k.count;
        room = λ v h i.
            let z : when_in (r.set v) x ≡ 0 = ap (λ (t : Bool). when_in t x) (r.below v (omega arith)) in
            omega (arith, g.each v (omega arith) i, k.room v (omega arith) i);
      }

  pub run-asks : Cells nodes 1 x → Cells bytes 1 y → Cells nodes' (start_at lo n) x × Cells bytes' (start_at lo n) y × (1 ≤ start_at lo n) × (start_at lo n ≤ n + 1) × (n + 1 ≤ 1000)
  run-asks a b = (room a r.in-nodes, room b r.in_bytes, omega (arith, begins), omega (arith, start-le r.p lo n c), omega (arith, r.small))

  -- the runs with it
  joins : (x : ℕ) {old mid new : List ℕ} → Grown old mid (λ v. when_in (r.set v) x) → Grown mid new (λ v. when_in (in_run (start_at lo n) (n + 1) v) x)
      → Grown old new (λ v. when_in (joined r.set (between (start_at lo n) n) v) x)
  joins x g h = grown-same (λ v. when_in (joined r.set (between (start_at lo n) n) v) x) (λ v k i. sum v begins) (grown-then g h)
    where
      sum : (v : ℕ) → r.p < start_at lo n → when_in (r.set v) x + when_in (in_run (start_at lo n) (n + 1) v) x ≡ when_in (r.set v || (leb (start_at lo n) v && leb v n)) x
      sum v a =
          by-test (ltb v (start_at lo n))
          (λ q. let k = ltb-true v (start_at lo n) q in
          rw (run-below (start_at lo n) (n + 1) v k, lt-leb (start_at lo n) v k, or-false (r.set v)) (omega arith))
          (λ q. let k = ltb-false v (start_at lo n) q in
          let s : r.set v ≡ false = r.below v (omega arith) in
          by-test (ltb n v)
          (λ t. let j = ltb-true n v t in
          rw (s, run_past (start_at lo n) (n + 1) v (omega arith), le-leb (start_at lo n) v k, lt-leb v n j) refl)
          (λ t. let j = ltb-false n v t in
          rw (s, run_in_lem (start_at lo n) (n + 1) v k (omega arith), le-leb (start_at lo n) v k, le-leb v n j) (omega arith)))

module _ {b : ℕ} {l : Bytes} {S : ℕ → Bool} {x y : ℕ} {nodes nodes' nodes'' bytes bytes' bytes'' : List ℕ} {lo n : ℕ} (r : Raising (b ∷ l) S x y nodes nodes' bytes bytes' lo n) where
  pub raising-comma : b ≡ 44 → Grown nodes' nodes'' (λ v. when_in (in_run (start_at lo n) (n + 1) v) x) → Grown bytes' bytes'' (λ v. when_in (in_run (start_at lo n) (n + 1) v) y)
      → Raising l S x y nodes nodes'' bytes bytes'' 0 0
  raising-comma q g h =
      let c = comma-next r q in
      let a = begins r c.0 in
      let d = start-le r.p lo n c.0 in
      record {
        set = joined r.set (between (start_at lo n) n);
        p = n + 1;
        ends = c.1;
        below = λ v k. not-past v (omega arith) (r.below v (omega arith));
        past = λ i. absurd (i refl);
        small = omega arith;
        in-nodes = joins r c.0 x r.in-nodes g;
        in_bytes = joins r c.0 y r.in_bytes h;
      }
    where
      not-past : (v : ℕ) → n < v → r.set v ≡ false → joined r.set (between (start_at lo n) n) v ≡ false
      not-past v k e = rw e (not_so (leb (start_at lo n) v && leb v n) (λ q. clash (sym (and_right (leb (start_at lo n) v) (leb v n) q) ∙ lt-leb v n k)))

-- ---- the text's end
module _ {S : ℕ → Bool} {x y : ℕ} {nodes nodes' bytes bytes' : List ℕ} {lo n : ℕ} (r : Raising [] S x y nodes nodes' bytes bytes' lo n) where
  end-next : (closes r.p lo n ≡ true) × (joined r.set (between (start_at lo n) n) ≡ S)
  unfolding steps close_in
  end-next = go (closes r.p lo n) r.ends
    where
      go : (b : Bool) → set_in (pick_s b (st (joined r.set (between (start_at lo n) n)) (n + 1) 0 0) bad) ≡ accepted S → (b ≡ true) × (joined r.set (between (start_at lo n) n) ≡ S)
      go true e = (refl, same (joined r.set (between (start_at lo n) n)) e)
        where
          same : (f : ℕ → Bool) → accepted f ≡ accepted S → f ≡ S
          same f e = cc
      go false e = let z : ◌≡◌ {A = ℕ} 0 1 = cc in absurd (omega arith)

  pub end-closes : closes r.p lo n ≡ true
  end-closes = end-next.0

  pub raising-end : {nodes'' bytes'' : List ℕ} → Grown nodes' nodes'' (λ v. when_in (in_run (start_at lo n) (n + 1) v) x) → Grown bytes' bytes'' (λ v. when_in (in_run (start_at lo n) (n + 1) v) y)
      → Grown nodes nodes'' (λ v. when_in (S v) x) × Grown bytes bytes'' (λ v. when_in (S v) y)
  raising-end g h =
      let e = end-next in (
        grown-same (λ v. when_in (S v) x) (λ v k i. ap (λ (f : ℕ → Bool). when_in (f v) x) e.1) (joins r e.0 x r.in-nodes g),
        grown-same (λ v. when_in (S v) y) (λ v k i. ap (λ (f : ℕ → Bool). when_in (f v) y) e.1) (joins r e.0 y r.in_bytes h),
      )
