-- Nodes copied to another place: each cell that names a node moves with them.
use Rattle.std.specs.Prelude.{ℕ, ◌+◌, ◌*◌, ◌<◌, ◌≤◌, ◌≡◌, refl, List, ltb, eqb, length, get_or, set}
use Rattle.std.proofs.Common.{arith, ◌∙◌, length-set, get_or-set_same, get_or-set_other, ltb-true, ltb-false, eqb-true}
use Rattle.std.proofs.lemmas.Bool.{eqb-false}
use Rattle.xml.specs.Truth.{by-test}
use Rattle.xml.specs.Forest.{Forest}
use Rattle.xml.specs.Tape.{head_at, next_at, Tape, at-end, at-text, at-elem, at-stamp}
use Rattle.xml.specs.TapeLaws.{tape-le, tape-room, node-same}

-- the nodes lo to hi are on the tape, and name none but themselves and hi
pub record Linked (cells : List ℕ) (lo hi : ℕ) : Type 0 where
  pub forward : lo ≤ hi
  pub held : 2 * hi ≤ length cells
  pub next : (i : ℕ) → lo ≤ i → i < hi → (i < next_at cells i) × (next_at cells i ≤ hi)

-- the nodes lo to hi stand in `new` from m on
abbrev pub Moved : List ℕ → ℕ → ℕ → List ℕ → ℕ → Type 0
Moved cells lo hi new m =
    (i j : ℕ) → lo ≤ i → i < hi → j + lo ≡ i + m → (head_at new j ≡ head_at cells i) × (next_at new j + lo ≡ next_at cells i + m)

pub record Copied (cells : List ℕ) (lo hi : ℕ) (new : List ℕ) (m r : ℕ) (left : List ℕ) : Type 0 where
  pub count : r + lo ≡ hi + m
  pub kept : (i : ℕ) → i < 2 * m → get_or left i 0 ≡ get_or new i 0
  pub size : length left ≡ length new
  pub moved : Moved cells lo hi left m

-- ---- the loop
pub copied_none : (cells : List ℕ) (lo : ℕ) (new : List ℕ) (m : ℕ) → Copied cells lo lo new m m new
copied_none cells lo new m = record { count = omega arith; kept = λ i h. refl; size = refl; moved = λ i j a b e. absurd (omega arith) }

module _ (cells : List ℕ) (lo i : ℕ) (new : List ℕ) (m to : ℕ) (now : List ℕ) (x : Copied cells lo i new m to now) (low : lo ≤ i) (room : 2 * to + 1 < length now) (v : ℕ)
    (val : v + lo ≡ next_at cells i + m) where
  other : (k : ℕ) → (k ≡ 2 * to → ⊥) → (k ≡ 2 * to + 1 → ⊥) → get_or (set (set now (2 * to) (head_at cells i)) (2 * to + 1) v) k 0 ≡ get_or now k 0
  other k a b = get_or-set_other (set now (2 * to) (head_at cells i)) (2 * to + 1) k v 0 b ∙ get_or-set_other now (2 * to) k (head_at cells i) 0 a

  head : head_at (set (set now (2 * to) (head_at cells i)) (2 * to + 1) v) to ≡ head_at cells i
  head =
      get_or-set_other (set now (2 * to) (head_at cells i)) (2 * to + 1) (2 * to) v 0 (omega arith)
      ∙ get_or-set_same now (2 * to) (head_at cells i) 0 (omega arith)

  next : next_at (set (set now (2 * to) (head_at cells i)) (2 * to + 1) v) to ≡ v
  next = get_or-set_same (set now (2 * to) (head_at cells i)) (2 * to + 1) v 0 (simp length-set room)

  pub copied_more : Copied cells lo (i + 1) new m (to + 1) (set (set now (2 * to) (head_at cells i)) (2 * to + 1) v)
  copied_more =
      record {
        count = omega (arith, x.count);
        kept = λ k h. other k (omega (arith, x.count)) (omega (arith, x.count)) ∙ x.kept k h;
        size = simp length-set x.size;
        moved = λ k j a b e.
            by-test (eqb k i)
            (λ t.
            let z : k ≡ i = eqb-true k i t in
            let y : j ≡ to = omega (arith, x.count) in
            rw (y, z) (head, omega (arith, next)))
            (λ t.
            let z = eqb-false k i t in
            let y = x.moved k j a (omega arith) e in
            (other (2 * j) (omega (arith, x.count)) (omega arith) ∙ y.0, rw (other (2 * j + 1) (omega arith) (omega (arith, x.count))) y.1));
      }

-- ---- the copy is the same forest
module _ {src cells : List ℕ} {lo hi : ℕ} (new : List ℕ) (m : ℕ) (c : Moved cells lo hi new m) (room : 2 * (hi + m) ≤ length new + 2 * lo) where
  pub tape-moved : {p q : ℕ} {f : Forest} (p' q' : ℕ) → Tape src cells p q f → lo ≤ p → q ≤ hi → p' + lo ≡ p + m → q' + lo ≡ q + m → Tape src new p' q' f
  tape-moved p' q' (at-end e) a b g h = let z : p' ≡ q' = omega arith in at-end z
  tape-moved {p} {q} p' q' (at-text n u e r) a b g h =
      let o = tape-le r in
      let x = c p p' a (omega arith) g in
      at-text (node-same new x.0 (omega arith) n) u (omega (arith, x.1)) (tape-moved (p' + 1) q' r (omega arith) b (omega arith) h)
  tape-moved {p} {q} p' q' (at-elem {k = f} {r = s} n k r) a b g h =
      let o = tape-le k in
      let w = tape-le r in
      let x = c p p' a (omega arith) g in
      at-elem {q = q'} {k = f} {r = s} (node-same new x.0 (omega arith) n) (tape-moved (p' + 1) (next_at new p') k (omega arith) (omega arith) (omega arith) x.1) (tape-moved (next_at new p') q' r (omega arith) b x.1 h)
  tape-moved {p} {q} p' q' (at-stamp {k = f} {r = s} n k r) a b g h =
      let o = tape-le k in
      let w = tape-le r in
      let x = c p p' a (omega arith) g in
      at-stamp {q = q'} {k = f} {r = s} (node-same new x.0 (omega arith) n) (tape-moved (p' + 1) (next_at new p') k (omega arith) (omega arith) (omega arith) x.1) (tape-moved (next_at new p') q' r (omega arith) b x.1 h)

-- ---- what a tape's cells say
in-node : (cells : List ℕ) (p q i : ℕ) → p ≤ i → p + 1 ≤ next_at cells p → next_at cells p ≤ q
    → (p + 1 ≤ i → i < next_at cells p → (i < next_at cells i) × (next_at cells i ≤ next_at cells p)) → (next_at cells p ≤ i → (i < next_at cells i) × (next_at cells i ≤ q))
    → (i < next_at cells i) × (next_at cells i ≤ q)
in-node cells p q i a x y f g =
    by-test (eqb i p)
    (λ t. let z = eqb-true i p t in rw z (omega arith, y))
    (λ t.
    let z = eqb-false i p t in
    by-test (ltb i (next_at cells p)) (λ u. let w = f (omega arith) (ltb-true i (next_at cells p) u) in (w.0, omega (arith, w.1))) (λ u. g (ltb-false i (next_at cells p) u)))

module _ {src cells : List ℕ} where
  forest-next : {p q : ℕ} {f : Forest} → Tape src cells p q f → (i : ℕ) → p ≤ i → i < q → (i < next_at cells i) × (next_at cells i ≤ q)
  forest-next (at-end e) i a b = absurd (omega arith)
  forest-next {p} {q} (at-text n u e r) i a b =
      by-test (eqb i p)
      (λ t. let z = eqb-true i p t in rw z (omega arith, omega (arith, tape-le r)))
      (λ t. let z = eqb-false i p t in forest-next r i (omega arith) b)
  forest-next {p} {q} (at-elem n k r) i a b = in-node cells p q i a (tape-le k) (tape-le r) (λ g h. forest-next k i g h) (λ g. forest-next r i g b)
  forest-next {p} {q} (at-stamp n k r) i a b = in-node cells p q i a (tape-le k) (tape-le r) (λ g h. forest-next k i g h) (λ g. forest-next r i g b)

  pub tape-linked : {p q : ℕ} {f : Forest} → Tape src cells p q f → 2 * p ≤ length cells → Linked cells p q
  tape-linked t h = record { forward = tape-le t; held = tape-room t h; next = forest-next t }
