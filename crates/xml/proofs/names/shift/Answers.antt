-- `xml::names::shift` meets its contract: the cells are copied one further. Assumes nothing.
use native.Mathlib.Omega.{arith}
use Prim.Native.Nat.{ℕ, ◌+◌, ◌-◌}
use mathlib.Core.Path.{◌≡◌, ◌∙◌, ap}
use lib.ListN.{get_or}
use Rattle.xml.proofs.names.shift.Goals as goal

pub returns : goal.returns
returns c = let x = c.copy_within.ensures in
    let a = c.args in
    record {
      long = x.len;
      kept = λ i h. x.by_index.1 i 0 (omega arith);
      moved = λ i h g.
          let e : a.lo + (i + 1 - (a.lo + 1)) ≡ i = omega arith in
          x.by_index.0 (i + 1) 0 (omega arith) (omega arith) ∙ ap (λ (j : ℕ). get_or a.cells.now j 0) e;
    }
