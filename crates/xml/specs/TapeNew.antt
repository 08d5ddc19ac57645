-- A node that is added to a tape: its two cells, and that no other cell is changed.
use Rattle.std.specs.Prelude.{ℕ, ◌+◌, ◌*◌, ◌%◌, ◌<◌, ◌≤◌, ◌≡◌, List, length, get_or, set}
use Rattle.std.proofs.Common.{ap, ◌∙◌, arith, length-set, get_or-set_same, get_or-set_other}
use Rattle.std.proofs.Math.Seq.{slice}
use Rattle.xml.specs.Tape.{head_at, next_at, start_in, end_in, Node}
use Rattle.xml.specs.TapeLaws.{Kept}

abbrev pub head_of : ℕ → ℕ → ℕ → ℕ
head_of start count kind = start * 131072 + count * 4 + kind

-- the cells of node n were written: so many bytes of the text from `start`, of this kind, and `next`
pub record Added (src cells : List ℕ) (n start count kind next : ℕ) (new : List ℕ) : Type 0 where
  pub room : 2 * n + 1 < length cells
  pub within : start + count ≤ length src
  pub small : count ≤ 32767
  pub kinds : kind < 4
  pub stored : new ≡ set (set cells (2 * n) (head_of start count kind)) (2 * n + 1) next

module _ {src cells : List ℕ} {n start count kind next : ℕ} {new : List ℕ} where
  pub new-long : Added src cells n start count kind next new → length new ≡ length cells
  new-long a = ap length a.stored ∙ simp length-set

  pub new-next : Added src cells n start count kind next new → next_at new n ≡ next
  new-next a =
      let room : 2 * n + 1 < length (set cells (2 * n) (head_of start count kind)) = simp length-set a.room in
      ap (λ (c : List ℕ). get_or c (2 * n + 1) 0) a.stored ∙ get_or-set_same (set cells (2 * n) (head_of start count kind)) (2 * n + 1) next 0 room

  pub new-head : Added src cells n start count kind next new → head_at new n ≡ head_of start count kind
  new-head a =
      ap (λ (c : List ℕ). get_or c (2 * n) 0) a.stored
      ∙ get_or-set_other (set cells (2 * n) (head_of start count kind)) (2 * n + 1) (2 * n) next 0 (λ d. omega arith)
      ∙ get_or-set_same cells (2 * n) (head_of start count kind) 0 (omega (arith, a.room))

  pub new-other : Added src cells n start count kind next new → (i : ℕ) → (i ≡ 2 * n → ⊥) → (i ≡ 2 * n + 1 → ⊥) → get_or new i 0 ≡ get_or cells i 0
  new-other a i x y =
      ap (λ (c : List ℕ). get_or c i 0) a.stored
      ∙ get_or-set_other (set cells (2 * n) (head_of start count kind)) (2 * n + 1) i next 0 (λ d. y d)
      ∙ get_or-set_other cells (2 * n) i (head_of start count kind) 0 (λ d. x d)

  pub new-kept : Added src cells n start count kind next new → Kept cells new 0 n
  new-kept a = record { room = omega (arith, new-long a, a.room); same = λ i x y. new-other a i (λ d. omega arith) (λ d. omega arith) }

  new-start : Added src cells n start count kind next new → start_in (head_at new n) ≡ start
  new-start a = let h = a.small in let k = a.kinds in ap start_in (new-head a) ∙ omega arith

  new-end : Added src cells n start count kind next new → end_in (head_at new n) ≡ start + count
  new-end a = let h = a.small in let k = a.kinds in ap end_in (new-head a) ∙ omega arith

  pub new-node : Added src cells n start count kind next new → Node src new n kind (slice start (start + count) src)
  new-node a =
      let k = a.kinds in
      record {
        held = omega (arith, new-long a, a.room);
        kind-is = ap (λ (x : ℕ). x % 4) (new-head a) ∙ omega arith;
        within = omega (arith, new-end a, a.within);
        bytes-are = ap (λ (x : ℕ). slice x (end_in (head_at new n)) src) (new-start a) ∙ ap (λ (x : ℕ). slice start x src) (new-end a);
      }
