-- `order_of` meets its contract.
use native.Mathlib.Omega.{arith}
use mathlib.Core.Path.{sym, ◌∙◌}
use Rattle.keys.specs.Version.{label}
use Rattle.versions.specs.AddTurns.{next-element}
use Rattle.versions.specs.AddWalk.{at_place, at_front, order-none, order-some}
use Rattle.adding.proofs.sibling.order_of.Goals as goal

pub returns-then-vhi-q : goal.returns-then-vhi-q
returns-then-vhi-q c K w t o m k v e a h x = sym (order-none K w (label K w m k) h c.if-vhi-q.true)

pub element_at-e-requires : goal.element_at-e-requires
element_at-e-requires c = (at_front c.requires.own c.requires.at).held

pub compare_labels_at-requires : goal.compare_labels_at-requires
compare_labels_at-requires c = let g = c.requires in
    let s = next-element g.vtape g.version (omega (arith, c.if-vhi-q.false)) in
    rw (c.element_at-e.ensures ∙ at_place g.at) (record {
      key_list = g.key_list;
      path = g.path;
      tabled = g.tabled;
      first = record { name = g.name; kids = g.kids; node = g.at.node; tape = g.at.inner; once = g.keys };
      second = record { name = s.name; kids = s.kids; node = s.node; tape = s.inner; once = s.keys };
      place_is = g.place_is;
    })

pub returns : goal.returns
returns c K w t o m k v e a h x = let s = next-element h x (omega (arith, c.if-vhi-q.false)) in
    (rw (c.element_at-e.ensures ∙ at_place a) at c.compare_labels_at.ensures) K w m k s.name s.kids t e a.node a.inner s.node s.inner ∙ sym (order-some (label K w m k) s)
