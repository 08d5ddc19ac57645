use Rattle.keys.specs.TableLaws.{first-top, first-after}
use Rattle.keys.proofs.places.first_below.Goals as goal

-- src/places.rt:84:9
pub returns-then-place-eq128 : goal.returns-then-place-eq128
returns-then-place-eq128 c = first-top c.args.place c.if-place-eq128.true

-- src/places.rt:79:1
pub returns : goal.returns
returns c = first-after c.args.place c.if-place-eq128.false
