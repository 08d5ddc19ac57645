-- `walks::back::byte_in` meets its contract.
use Rattle.walks.specs.Trimmed.{part-byte, rest-byte}
use Rattle.walks.proofs.back.byte_in.Goals as goal

pub returns-then-k-to : goal.returns-then-k-to
returns-then-k-to c = part-byte c.args.src.now c.args.a c.args.to c.args.k c.args.tail.now c.requires.0 c.if-k-to.true

pub returns-else-k-to : goal.returns-else-k-to
returns-else-k-to c = rest-byte c.args.src.now c.args.a c.args.to c.args.k c.args.tail.now c.requires.0 c.if-k-to.false
