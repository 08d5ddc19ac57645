-- What a function that adds answers, also of a lent part of the output.
use Rattle.std.specs.Prelude.{ℕ, ◌+◌, ◌-◌, ◌≤◌, min, ◌≡◌, List, length, take, drop}
use Rattle.std.proofs.Common.{arith}
use borrow.Rule.Slice.PartMut.{put_mid}
use Rattle.xml.specs.Forest.{Forest, write, nodes}
use Rattle.xml.specs.Over.{Wrote}
use Rattle.xml.specs.OverLaws.{lent_back}
use Rattle.adding.specs.declared.content.Added.{Added}

-- g is written where f stood, with `fresh` nodes more, of `most` at most, in `reach` bytes
pub record Grew (out : List ℕ) (at : ℕ) (g f : Forest) (most reach : ℕ) (r : Added) (left : List ℕ) : Type 0 where
  pub wrote : Wrote out at (write g) r.at left
  pub count : nodes g ≡ nodes f + r.fresh
  pub few : r.fresh ≤ most
  pub near : r.at ≤ at + reach

-- what was added in the lent part `&mut mid[from..]`, said of the whole
pub grew-lent : (mid : List ℕ) (to from : ℕ) {g f : Forest} {most reach : ℕ} {r : Added} {part : List ℕ} → from ≡ min to (length mid)
    → Grew (take (length mid - from) (drop from mid)) 0 g f most reach r part
    → Grew mid to g f most reach (record { at = to + r.at; fresh = r.fresh }) (put_mid from (length mid - from) mid part)
grew-lent mid to from e y =
    record { wrote = lent_back mid to from e y.wrote; count = y.count; few = y.few; near = omega (arith, y.near) }
