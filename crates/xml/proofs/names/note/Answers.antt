-- `xml::names::note` meets its contract: the name is put before those that come after it. Assumes nothing.
use Prim.Native.Nat.{◌+◌}
use native.Mathlib.Omega.{arith}
use mathlib.Core.Path.{subst}
use lib.Seq.{slice}
use Rattle.xml.specs.Bytes.{Bytes}
use Rattle.xml.specs.NameCells.{Parted}
use Rattle.xml.specs.NameCellLaws.{noted_more, put-below}
use Rattle.xml.proofs.Tags.{part-is}
use Rattle.xml.proofs.names.note.Goals as goal

pub returns : goal.returns
returns c =
    let sought : Parted c.args.src.now c.args.cells.now c.args.base c.args.k (slice c.args.start (c.args.start + c.args.count) c.args.src.now) c.names_before.result c.names_before.result = let a = c.args in subst (λ (x : Bytes). Parted a.src.now a.cells.now a.base a.k x c.names_before.result c.names_before.result) (part-is a.start (a.start + a.count) a.src.now (omega arith)) c.names_before.ensures in
    let a = c.args in
    let g = c.requires in (
      λ used n. noted_more a.start a.count g.2 g.3 g.1 (g.5 used n) sought c.shift.ensures n,
      put-below _ c.names_before.ensures.high g.1 c.shift.ensures,
    )
