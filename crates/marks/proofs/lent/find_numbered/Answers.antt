-- `marks::lent::find_numbered` meets its contract: what comes of the refusals is their numbers.
use Rattle.marks.specs.Marks.{finding}
use Rattle.marks.specs.AfterLaws.{found-numbered}
use Rattle.marks.proofs.lent.find_numbered.Goals as goal

pub returns : goal.returns
returns c =
    let a = c.args in
    let p = (rw c.counted_after.ensures at c.find.ensures) in
    found-numbered a.before a.n (λ n. finding n a.marks.now a.name.now) c.find.result p.refused p.found
