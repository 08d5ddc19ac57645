-- `arrange_element` and `arrange_content` meet their contracts: an element is built around what it holds, siblings one by one in the order of the entries.
use Rattle.xml.specs.Tape.{next_at}
use Rattle.keys.specs.Building.{Progress}
use Prim.Native.Nat.{◌+◌, ◌*◌, ◌-◌}
use Rattle.keys.proofs.arrange.+arrange_content_arrange_element.Given as goal

abbrev pub decreases-arrange_content : goal.decreases-arrange_content
decreases-arrange_content l = 2 * (l.hi - l.lo) + 1

abbrev pub decreases-arrange_element : goal.decreases-arrange_element
decreases-arrange_element l = 2 * (next_at l.doc.now.tape.now l.p - l.p)

abbrev pub invariant-arrange_content-loop-j : goal.invariant-arrange_content-loop-j
invariant-arrange_content-loop-j l = Progress l.keys.text.now l.keys.table.now l.keys.paths l.place l.doc.src.now l.doc.tape.now l.lo l.hi l.initial.out l.m l.order l.j l.k l.to l.out
