-- `history` meets its contract: the text of the nearest `T` is copied.
use native.Mathlib.Omega.{arith}
use mathlib.Core.Path.{◌≡◌}
use lib.ListN.{length}
use Prim.Native.Nat.{◌≤◌}
use Rattle.xml.specs.OverLaws.{wrote_none}
use Rattle.walks.specs.HistoryWalk.{history-given}
use Rattle.walks.proofs.history.history.Goals as goal

pub put_word-requires : goal.put_word-requires
put_word-requires c =
    let x = history-given c.requires.0 (λ w. (c.in-Some.nearest.now ≡ w) × (length c.in-Some.nearest.now ≤ 32767)) c.in-Some.ensures in
    (omega (arith, x.1), c.requires.1)

pub returns-in-Some : goal.returns-in-Some
returns-in-Some c K f ls t g a = rw (← (c.in-Some.ensures K f ls t g a).0) c.put_word.ensures

pub returns-in-None : goal.returns-in-None
returns-in-None c K f ls t g a = rw (c.in-None.ensures K f ls t g a) wrote_none
