-- `keys::keyed::lacks_key` meets its contract. The loop's invariant: what is lacking is lacking from the key name j on. Assumes nothing.
use mathlib.Core.Path.{◌≡◌}
use Rattle.keys.specs.Walks.{OfNodes}
use Rattle.keys.specs.Strays.{lacking}
use Rattle.keys.specs.KeyNames.{lacking_from}
use Rattle.keys.proofs.keyed.lacks_key.Given as goal

abbrev pub invariant-loop-j : goal.invariant-loop-j
invariant-loop-j l = OfNodes l.keys.text.now l.keys.table.now l.keys.paths l.place l.doc.src.now l.doc.tape.now l.lo l.hi (λ K p f. lacking K p f ≡ lacking_from K p f l.j)
