-- `archive::open::open` meets its contract: a text that is read is judged; a tape that is too short says that no legal archive has the text.
-- Assumes nothing.
use native.Mathlib.Omega.{arith}
use Rattle.legality.specs.Opened.{opened-read, opened-refused}
use Rattle.legality.proofs.open.open.Goals as goal

pub judge-requires : goal.judge-requires
judge-requires c = (c.requires.0, opened-read _ _ _ c.in-Ok.is c.read.ensures c.requires.1)

pub returns-in-Err : goal.returns-in-Err
returns-in-Err c K t = opened-refused _ _ _ c.in-Err.field-0 c.in-Err.is c.read.ensures (omega (arith, c.requires.2, c.read.auto)) c.requires.1 K
