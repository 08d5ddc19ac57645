-- `write_grown` meets its contract, by what `add` ensures.
use native.Mathlib.Omega.{arith}
use Rattle.archive.specs.AddCall.{adding-few, grown-draft}
use Rattle.archive.proofs.add.write_grown.Goals as goal

pub add-x-requires : goal.add-x-requires
add-x-requires c = let h = c.requires in
    (h.0, h.1, omega (arith, h.2), omega (arith, h.3), omega (arith, h.2, h.3))

pub overflow_add-result : goal.overflow_add-result
overflow_add-result c = let g = c.requires.0 in
    omega (arith, adding-few g c.count_nodes-old.ensures, (c.add-x.ensures g.key_list g.forest g.other g.adding).few, c.requires.3)

pub returns : goal.returns
returns c K f v a = grown-draft (c.add-x.ensures K f v a) (c.count_nodes-old.ensures f a.tape)
