-- `archive::mark::find_mark` meets its contract: the versions are counted, and the mark is sought under their number.
use Rattle.marks.specs.AfterLaws.{find-meant}
use Rattle.archive.specs.MarkCalls.{find-ends}
use Rattle.archive.proofs.mark.find_mark.Goals as goal

pub returns : goal.returns
returns c =
    let a = c.args in
    find-ends a.keys.now a.archive.now a.marks.now a.name.now a.work.now _ _ c.count-counted.ensures c.find.result (find-meant a.marks.now a.name.now _ _ c.find.ensures.refused c.find.ensures.found)
