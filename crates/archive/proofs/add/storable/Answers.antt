-- `storable` meets its contract.
use Rattle.archive.specs.AddCall.{many-nodes, many-bytes, no_room, some-room}
use Rattle.archive.proofs.add.storable.Goals as goal

pub returns-then-size-gt1024 : goal.returns-then-size-gt1024
returns-then-size-gt1024 c = many-nodes c.args.size.nodes c.args.size.bytes c.args.room c.if-size-gt1024.true

pub returns-then-size-gt32768 : goal.returns-then-size-gt32768
returns-then-size-gt32768 c = many-bytes c.args.size.nodes c.args.size.bytes c.args.room c.if-size-gt1024.false c.if-size-gt32768.true

pub returns-then-room-size : goal.returns-then-room-size
returns-then-room-size c = no_room c.args.size.nodes c.args.size.bytes c.args.room c.if-size-gt1024.false c.if-size-gt32768.false c.if-room-size.true

pub returns : goal.returns
returns c = some-room c.args.size.nodes c.args.size.bytes c.args.room c.if-size-gt1024.false c.if-size-gt32768.false c.if-room-size.false
