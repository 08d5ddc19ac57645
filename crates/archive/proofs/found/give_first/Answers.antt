-- `give_first` meets its contract, by what `lacks_room` and `write_first` ensure.
use Rattle.xml.specs.Forest.{write}
use Rattle.archive.specs.Founding.{first_text}
use Rattle.archive.specs.Giving.{give-lacks, give-fits}
use Rattle.archive.proofs.found.give_first.Goals as goal

pub returns-then-lacks_room : goal.returns-then-lacks_room
returns-then-lacks_room c = λ f h. give-lacks (first_text (write f)) c.args.out.now (c.lacks_room.ensures f h) c.if-lacks_room.true

pub returns : goal.returns
returns c = λ f h.
    let out = c.args.out.now in
    give-fits (first_text (write f)) out (c.lacks_room.ensures f h) c.if-lacks_room.false (c.write_first-count.ensures f h)
