-- Cells, one a version, that have grown: by so much at each version. Versions are added to from run to run of a set.
use Rattle.std.specs.Prelude.{ℕ, ◌+◌, ◌^◌, ◌<◌, ◌≤◌, ◌≡◌, Bool, true, false, ◌&&◌, List, eqb, leb, length, get_or, set}
use Rattle.std.proofs.Common.{arith, sym, ◌∙◌, ap, length-set, get_or-set_same, get_or-set_other}
use Rattle.std.proofs.Math.Path.{refl}
use borrow.Author.Tests.{lt-ltb, le-ltb, le-leb, lt-leb, eqb-true, eqb-false, ltb-true, ltb-false}
use Rattle.std.proofs.Math.Dec.{ltb}
use Rattle.xml.specs.Truth.{by-test, clash, not_so, and_right, and_both}
use Rattle.versions.specs.Sizes.{when_in}

-- a cell for each version and one for 0, those from lo on with room for x more
pub record Cells (cells : List ℕ) (lo x : ℕ) : Type 0 where
  pub count : length cells ≡ 1000
  pub room : (v : ℕ) → lo ≤ v → v ≤ 999 → get_or cells v 0 + x < 2 ^ 32

pub record Grown (cells left : List ℕ) (g : ℕ → ℕ) : Type 0 where
  pub count : length left ≡ length cells
  pub each : (v : ℕ) → 1 ≤ v → v ≤ 999 → get_or left v 0 ≡ get_or cells v 0 + g v

pub grown-none : {cells : List ℕ} → Grown cells cells (λ v. 0)
grown-none = record { count = refl; each = λ v l h. omega arith }

pub grown-then : {a b c : List ℕ} {g h : ℕ → ℕ} → Grown a b g → Grown b c h → Grown a c (λ v. g v + h v)
grown-then x y = record { count = y.count ∙ x.count; each = λ v l h. omega (arith, x.each v l h, y.each v l h) }

pub grown-same : {a b : List ℕ} {g : ℕ → ℕ} (h : ℕ → ℕ) → ((v : ℕ) → 1 ≤ v → v ≤ 999 → g v ≡ h v) → Grown a b g → Grown a b h
grown-same {a} h e x = record { count = x.count; each = λ v l k. x.each v l k ∙ ap (λ (z : ℕ). get_or a v 0 + z) (e v l k) }

-- ---- one run, cell by cell
unfoldable pub in_run : ℕ → ℕ → ℕ → Bool
in_run lo e v = leb lo v && ltb v e

module _ (lo e v : ℕ) where
  pub run_in_lem : lo ≤ v → v < e → in_run lo e v ≡ true
  unfolding in_run
  run_in_lem h l = and_both (leb lo v) (ltb v e) (le-leb lo v h) (lt-ltb v e l)

  pub run-below : v < lo → in_run lo e v ≡ false
  unfolding in_run
  run-below h = rw (lt-leb lo v h) refl

  pub run_past : e ≤ v → in_run lo e v ≡ false
  unfolding in_run
  run_past h = not_so (leb lo v && ltb v e) (λ q. clash (sym (and_right (leb lo v) (ltb v e) q) ∙ le-ltb v e h))

-- the cells from lo up to v have x more
pub run_none : {cells : List ℕ} (lo x : ℕ) → Grown cells cells (λ v. when_in (in_run lo lo v) x)
run_none lo x = grown-same (λ v. when_in (in_run lo lo v) x) (λ v l h. sym (ap (λ (b : Bool). when_in b x) (by-test (ltb v lo) (λ q. run-below lo lo v (ltb-true v lo q)) (λ q. run_past lo lo v (ltb-false v lo q))))) grown-none

-- the cell v has what it had
pub run-next : {cells left : List ℕ} (lo v x : ℕ) → Grown cells left (λ u. when_in (in_run lo v u) x) → 1 ≤ v → v ≤ 999 → get_or left v 0 ≡ get_or cells v 0
run-next {cells} lo v x g l h =
    let z : when_in (in_run lo v v) x ≡ 0 = ap (λ (b : Bool). when_in b x) (run_past lo v v (omega arith)) in
    omega (arith, g.each v l h)

pub run_more : {cells left : List ℕ} (lo v x : ℕ) → Grown cells left (λ u. when_in (in_run lo v u) x) → length cells ≡ 1000 → 1 ≤ v → lo ≤ v → v ≤ 999
    → Grown cells (set left v (get_or left v 0 + x)) (λ u. when_in (in_run lo (v + 1) u) x)
run_more {cells} {left} lo v x g n l k h =
    record {
      count = length-set left v (get_or left v 0 + x) ∙ g.count;
      each = λ u a b. by-test (eqb u v)
          (λ q. let e = eqb-true u v q in
          let z : in_run lo (v + 1) v ≡ true = run_in_lem lo (v + 1) v k (omega arith) in
          rw (e, z) (get_or-set_same left v (get_or left v 0 + x) 0 (omega (arith, g.count)) ∙ ap (λ (y : ℕ). y + x) (run-next lo v x g l h)))
          (λ q. let e = eqb-false u v q in
          get_or-set_other left v u (get_or left v 0 + x) 0 e ∙ g.each u a b ∙ ap (λ (t : Bool). get_or cells u 0 + when_in t x) (unmoved u e));
    }
  where
    unmoved : (u : ℕ) → (u ≡ v → ⊥) → in_run lo v u ≡ in_run lo (v + 1) u
    unmoved u e =
        by-test (ltb u lo) (λ q. let w = ltb-true u lo q in run-below lo v u w ∙ sym (run-below lo (v + 1) u w))
        (λ q. by-test (ltb u v)
        (λ r. let w = ltb-true u v r in run_in_lem lo v u (ltb-false u lo q) w ∙ sym (run_in_lem lo (v + 1) u (ltb-false u lo q) (omega arith)))
        (λ r. let w = ltb-false u v r in run_past lo v u w ∙ sym (run_past lo (v + 1) u (omega arith))))
