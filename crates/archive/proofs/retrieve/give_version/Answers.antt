-- `give_version` meets its contract, by what `lacks_room` and `write_version` ensure.
use Rattle.versions.specs.VersionText.{version_text}
use Rattle.archive.specs.Giving.{give-lacks, give-fits}
use Rattle.archive.specs.Asking.{asked-none, asked-past, asked-there}
use Rattle.archive.specs.RetrieveLaws.{version-asks}
use Rattle.archive.proofs.retrieve.give_version.Goals as goal

pub returns-then-i-lt1 : goal.returns-then-i-lt1
returns-then-i-lt1 c = λ f h. let a = c.args in asked-none a.n a.i (version_text a.i f) a.out.now c.if-i-lt1.true

pub returns-then-n-i : goal.returns-then-n-i
returns-then-n-i c = λ f h. let a = c.args in asked-past a.n a.i (version_text a.i f) a.out.now c.if-i-lt1.false c.if-n-i.true

pub returns-then-lacks_room : goal.returns-then-lacks_room
returns-then-lacks_room c = λ f h.
    let a = c.args in
    asked-there a.n a.i (version_text a.i f) a.out.now c.if-i-lt1.false c.if-n-i.false
    (give-lacks (version_text a.i f) a.out.now (c.lacks_room.ensures f h) c.if-lacks_room.true)

pub write_version-count-requires : goal.write_version-count-requires
write_version-count-requires c = version-asks (record { count = c.args.n; lies = c.requires; reach = c.if-n-i.false; some-there = c.if-i-lt1.false })

pub returns : goal.returns
returns c = λ f h.
    let a = c.args in
    asked-there a.n a.i (version_text a.i f) a.out.now c.if-i-lt1.false c.if-n-i.false
    (give-fits (version_text a.i f) a.out.now (c.lacks_room.ensures f h) c.if-lacks_room.false (c.write_version-count.ensures f h))
