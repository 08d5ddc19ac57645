-- `marks::lent::set_numbered` meets its contract: what comes of the refusals is their numbers.
use Rattle.marks.specs.Marks.{setting}
use Rattle.marks.specs.AfterLaws.{done-numbered}
use Rattle.marks.proofs.lent.set_numbered.Goals as goal

pub returns-in-Ok : goal.returns-in-Ok
returns-in-Ok c =
    let a = c.args in
    let p = (rw c.counted_after.ensures at c.in-Ok.ensures) in
    done-numbered a.before a.n (λ n. setting n a.marks.now a.name.now a.version) a.marks.now _ _ p.refused p.set

pub returns-in-Err : goal.returns-in-Err
returns-in-Err c =
    let a = c.args in
    let p = (rw c.counted_after.ensures at c.in-Err.ensures) in
    done-numbered a.before a.n (λ n. setting n a.marks.now a.name.now a.version) a.marks.now _ _ p.refused p.set
