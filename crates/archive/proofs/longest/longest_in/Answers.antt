-- `longest_in` meets its contract, by what `lacks_room` and `put_longest` ensure.
use Rattle.timestamp.specs.Times.{write_times}
use Rattle.timestamp.specs.Longest.{longest}
use Rattle.archive.specs.Giving.{give-lacks, give-fits}
use Rattle.archive.specs.Asking.{asked-none, asked-past, asked-there}
use Rattle.archive.proofs.longest.longest_in.Goals as goal

pub returns-then-n-lt1 : goal.returns-then-n-lt1
returns-then-n-lt1 c = let a = c.args in asked-none 999 a.n (write_times (longest a.n)) a.out.now c.if-n-lt1.true

pub returns-then-n-gt999 : goal.returns-then-n-gt999
returns-then-n-gt999 c = let a = c.args in asked-past 999 a.n (write_times (longest a.n)) a.out.now c.if-n-lt1.false c.if-n-gt999.true

pub returns-then-lacks_room : goal.returns-then-lacks_room
returns-then-lacks_room c = let a = c.args in
    asked-there 999 a.n (write_times (longest a.n)) a.out.now c.if-n-lt1.false c.if-n-gt999.false
    (give-lacks (write_times (longest a.n)) a.out.now c.lacks_room.ensures c.if-lacks_room.true)

pub returns : goal.returns
returns c = let a = c.args in
    asked-there 999 a.n (write_times (longest a.n)) a.out.now c.if-n-lt1.false c.if-n-gt999.false
    (give-fits (write_times (longest a.n)) a.out.now c.lacks_room.ensures c.if-lacks_room.false c.put_longest.ensures)
