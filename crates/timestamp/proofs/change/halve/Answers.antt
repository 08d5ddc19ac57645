-- `timestamp::change::halve` meets its contract.
use native.Mathlib.Omega.{arith}
use Rattle.timestamp.specs.Narrow.{bracket-none, next_up, number-there, bracket-low, bracket-high}
use Rattle.timestamp.proofs.change.halve.Goals as goal

pub returns-then-hi-next : goal.returns-then-hi-next
returns-then-hi-next c = (bracket-none c.requires.0 (omega arith) (omega arith) c.next_start-next.ensures c.if-hi-next.true, omega arith)

pub unwrap-first-requires : goal.unwrap-first-requires
unwrap-first-requires c = number-there c.requires.0 (omega arith) (omega arith) c.next_start-next.ensures (omega (arith, c.if-hi-next.false)) _ c.number_at.ensures

pub returns-then-first-v : goal.returns-then-first-v
returns-then-first-v c =
    let o = rw c.unwrap-first.ensures at c.number_at.ensures in (
      bracket-low c.requires.0 (omega arith) (omega arith) c.next_start-next.ensures (omega (arith, c.if-hi-next.false)) o.1 o.2 c.if-first-v.true,
      omega (arith, c.if-hi-next.false, next_up c.requires.0 (omega arith) (omega arith) c.next_start-next.ensures (omega (arith, c.if-hi-next.false))),
    )

pub returns : goal.returns
returns c =
    let o = rw c.unwrap-first.ensures at c.number_at.ensures in (
      bracket-high c.requires.0 (omega arith) (omega arith) c.next_start-next.ensures (omega (arith, c.if-hi-next.false)) o.1 o.2 (omega (arith, c.if-first-v.false)),
      omega arith,
    )
