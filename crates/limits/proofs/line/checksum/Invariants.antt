-- The loop's invariant: each sum stays under 65,521.
use Rattle.std.proofs.Common.{◌<◌}
use Rattle.limits.proofs.line.checksum.Given as goal

abbrev pub invariant-loop-byte : goal.invariant-loop-byte
invariant-loop-byte l = (l.a < 65521) × (l.b < 65521)
