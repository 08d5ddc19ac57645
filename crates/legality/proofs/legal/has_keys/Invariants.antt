-- `has_keys` meets its contract: what is asked of all key names is asked from the key name j on.
use mathlib.Core.Path.{◌≡◌}
use Rattle.keys.specs.KeyList.{key_names_at}
use Rattle.keys.specs.Walks.{OfNodes}
use Rattle.keys.specs.Labelled.{has_keys}
use Rattle.versions.specs.LegalKeys.{keys_from}
use Rattle.legality.proofs.legal.has_keys.Given as goal

abbrev pub invariant-loop-j : goal.invariant-loop-j
invariant-loop-j l = OfNodes l.keys.text.now l.keys.table.now l.keys.paths l.place l.doc.src.now l.doc.tape.now l.lo l.hi (λ K p f. has_keys (key_names_at K p) f ≡ keys_from K p f l.j)
