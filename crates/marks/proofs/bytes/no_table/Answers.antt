use mathlib.Core.Path.{refl}
use Rattle.marks.specs.Passed.{wrongs}
use Rattle.marks.proofs.bytes.no_table.Goals as goal

pub returns : goal.returns
unfolding wrongs
returns c = refl
