-- The loop's invariant: the digits passed have the value, and the word is the number of that value and the bytes that are left.
use Rattle.std.proofs.Common.{drop, ◌≤◌, ◌≡◌}
use Rattle.station.specs.Number.{number_from, number_of}
use Rattle.station.proofs.number.number.Given as goal

abbrev pub invariant-loop-b : goal.invariant-loop-b
invariant-loop-b l = (l.value ≤ 1000) × (number_from l.value (drop l.b-index l.word) ≡ number_of l.word)
