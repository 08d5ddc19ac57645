-- `give_earlier` meets its contract, by what `lacks_room` and `back` ensure.
use Rattle.archive.specs.Giving.{give-lacks, give-fits}
use Rattle.archive.specs.Asking.{asked-none, asked-past, asked-there}
use Rattle.archive.specs.BackCall.{earlier_text, back-asks}
use Rattle.archive.proofs.back.give_earlier.Goals as goal

pub returns-then-i-lt1 : goal.returns-then-i-lt1
returns-then-i-lt1 c = λ f h. let a = c.args in asked-none a.n a.i (earlier_text a.i f) a.out.now c.if-i-lt1.true

pub returns-then-n-i : goal.returns-then-n-i
returns-then-n-i c = λ f h. let a = c.args in asked-past a.n a.i (earlier_text a.i f) a.out.now c.if-i-lt1.false c.if-n-i.true

pub returns-then-lacks_room : goal.returns-then-lacks_room
returns-then-lacks_room c = λ f h.
    let a = c.args in
    asked-there a.n a.i (earlier_text a.i f) a.out.now c.if-i-lt1.false c.if-n-i.false
    (give-lacks (earlier_text a.i f) a.out.now (c.lacks_room.ensures f h) c.if-lacks_room.true)

pub back-count-requires : goal.back-count-requires
back-count-requires c = back-asks (record { count = c.args.n; lies = c.requires; reach = c.if-n-i.false; some-there = c.if-i-lt1.false })

pub returns : goal.returns
returns c = λ f h.
    let a = c.args in
    asked-there a.n a.i (earlier_text a.i f) a.out.now c.if-i-lt1.false c.if-n-i.false
    (give-fits (earlier_text a.i f) a.out.now (c.lacks_room.ensures f h) c.if-lacks_room.false (c.back-count.ensures f h))
