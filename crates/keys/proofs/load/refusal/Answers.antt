-- Where the rest is in the notation, so is the whole, and the broken rule tells.
use Rattle.keys.specs.LineRead.{read-notation, read-refused}
use Rattle.keys.proofs.load.refusal.Goals as goal

pub returns-then-in_notation_from : goal.returns-then-in_notation_from
returns-then-in_notation_from c = c.requires.2 (read-notation c.if-in_notation_from.true c.in_notation_from.ensures)

pub returns : goal.returns
returns c = read-refused c.args.text.now c.if-in_notation_from.false c.in_notation_from.ensures
