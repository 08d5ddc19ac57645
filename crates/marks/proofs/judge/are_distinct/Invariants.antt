use Rattle.std.proofs.Common.{◌≡◌, map, take, drop}
use Rattle.xml.specs.Bytes.{distinct, same}
use Rattle.marks.specs.Marks.{name_of}
use Rattle.marks.proofs.judge.are_distinct.Given as goal

abbrev pub invariant-loop-i : goal.invariant-loop-i
invariant-loop-i l = distinct same (map name_of (take l.u l.t.held)) ≡ distinct same (map name_of (drop l.i (take l.u l.t.held)))
