-- `receive` meets its contract: a text of white space alone is vacant; of any other a tape of a cell a byte is never too short.
use native.Mathlib.Omega.{arith}
use Rattle.archive.specs.Reception.{white-tells, none-there, read_done, read-refused, sent-5}
use Rattle.archive.proofs.received.receive.Goals as goal

pub returns-then-is_white : goal.returns-then-is_white
returns-then-is_white c = none-there (white-tells _ c.is_white.ensures c.if-is_white.true)

pub accept-requires : goal.accept-requires
accept-requires c = (c.requires.0, read_done _ _ _ (white-tells _ c.is_white.ensures c.if-is_white.false) c.requires.1 c.in-Ok.is c.read.ensures, c.requires.3)

pub returns-in-Err : goal.returns-in-Err
returns-in-Err c = sent-5 (read-refused _ _ _ (white-tells _ c.is_white.ensures c.if-is_white.false) c.in-Err.field-0 c.in-Err.is c.read.ensures (omega (arith, c.requires.1, c.requires.2, c.read.auto))).1
