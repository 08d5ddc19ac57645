-- `archive::sizes::within_limits` meets its contract. The loop's invariant: all versions are small just where those left are. Assumes
-- nothing.
use Prim.Native.Nat.{◌+◌, ◌-◌}
use mathlib.Core.Path.{◌≡◌}
use Rattle.xml.specs.Bytes.{all}
use Rattle.timestamp.specs.Times.{up_from}
use Rattle.versions.specs.Small.{is_small}
use Rattle.legality.proofs.sizes.within_limits.Given as goal

abbrev pub invariant-loop-i : goal.invariant-loop-i
invariant-loop-i l = all (is_small l.nodes l.bytes l.x l.y) (up_from 1 l.n) ≡ all (is_small l.nodes l.bytes l.x l.y) (up_from l.i (l.n + 1 - l.i))
