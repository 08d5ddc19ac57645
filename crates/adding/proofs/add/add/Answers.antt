-- `add` meets its contract: the outer `T` around what its inside comes to hold. Assumes nothing.
use native.Mathlib.Omega.{arith}
use mathlib.Core.List.{[]}
use Rattle.xml.specs.Bytes.{bytes}
use Rattle.timestamp.specs.Times.{always}
use Rattle.timestamp.specs.Set.{set_of}
use Rattle.versions.specs.Walk.{inside_of}
use Rattle.adding.specs.AddWhole.{adding-there, adding-held, adding-grew}
use Rattle.adding.proofs.add.add.Goals as goal

pub view-v-requires : goal.view-v-requires
view-v-requires c = adding-there c.requires.0.adding

pub write_added-x-requires : goal.write_added-x-requires
write_added-x-requires c = let g = c.requires.0 in (
  record { key_list = g.key_list; path = []; times = always c.args.n; forest = inside_of g.forest; other = g.other; held = rw c.view-v.ensures (adding-held g.adding) },
  c.requires.1,
  c.requires.2,
  c.requires.3,
  omega (arith, c.requires.4, c.put_times-inside.ensures.1),
)

pub put_word-last-requires : goal.put_word-last-requires
put_word-last-requires c = let g = c.requires.0 in
    let y = c.write_added-x.ensures g.key_list [] (always c.args.n) (inside_of g.forest) g.other (rw c.view-v.ensures (adding-held g.adding)) in
    (omega arith, omega (arith, c.requires.4, c.put_times-inside.ensures.1, y.near))

pub returns : goal.returns
unfolding bytes
returns c K f v x = let y = c.write_added-x.ensures K [] (always c.args.n) (inside_of f) v (rw c.view-v.ensures (adding-held x)) in
    adding-grew x (set_of c.up_to.result.words) c.requires.1 c.up_to.ensures c.put_times-inside.ensures.0 y c.put_word-last.ensures (omega arith) (omega (arith, c.put_times-inside.ensures.1, y.near, c.put_word-last.ensures.place))
