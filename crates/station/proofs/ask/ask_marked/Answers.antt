-- A call without an output leaves one as it was.
use Rattle.std.proofs.Common.{refl}
use Rattle.station.specs.AskedMarked.{asks-marked, set-asked, find-asked, list-asked, back-asked, named-asked}
use Rattle.station.proofs.ask.ask_marked.Goals as goal

pub returns-in-Set : goal.returns-in-Set
returns-in-Set c =
    let a = c.args in
    asks-marked a.keys.now a.archive.now a.t.held a.name.now a.i a.out.now a.work.now c.in-Set.is c.changed.ensures
    (set-asked a.keys.now a.archive.now a.t.held a.name.now a.i a.out.now a.work.now c.set_mark.result c.set_mark.ensures.0)

pub returns-in-Find : goal.returns-in-Find
returns-in-Find c =
    let a = c.args in
    asks-marked a.keys.now a.archive.now a.t.held a.name.now a.i a.out.now a.work.now c.in-Find.is c.unchanged.ensures
    (find-asked a.keys.now a.archive.now a.t.held a.name.now a.work.now a.out.now a.t refl c.find_mark.ensures)

pub returns-in-List : goal.returns-in-List
returns-in-List c =
    let a = c.args in
    asks-marked a.keys.now a.archive.now a.t.held a.name.now a.i a.out.now a.work.now c.in-List.is c.listed.ensures
    (list-asked a.keys.now a.archive.now a.t.held a.work.now a.out.now a.t refl c.list.ensures)

pub returns-in-Back : goal.returns-in-Back
returns-in-Back c =
    let a = c.args in
    asks-marked a.keys.now a.archive.now a.t.held a.name.now a.i a.out.now a.work.now c.in-Back.is c.changed-in-Back.ensures
    (back-asked a.keys.now a.archive.now a.t.held a.name.now a.i a.out.now a.work.now c.step_back.result c.step_back.ensures.0)

pub returns-in-BackToMark : goal.returns-in-BackToMark
returns-in-BackToMark c =
    let a = c.args in
    asks-marked a.keys.now a.archive.now a.t.held a.name.now a.i a.out.now a.work.now c.in-BackToMark.is c.changed-in-BackToMark.ensures
    (named-asked a.keys.now a.archive.now a.t.held a.name.now a.i a.out.now a.work.now c.step_back_to_mark.result c.step_back_to_mark.ensures.0)
