-- `xml::reader::close_tag` meets its contract: a law for each answer of the scanner (Closes). Assumes nothing.
use Rattle.xml.proofs.Closes.{seen-in, told, stop-in, close-in, close-bad, close-seen}
use native.Mathlib.Omega.{arith}
use Rattle.xml.proofs.Steps.{top-le}
use Rattle.xml.proofs.reader.close_tag.Goals as goal
use Rattle.std.specs.Prelude.{Ok, Err}

pub view_at-v-requires : goal.view_at-v-requires
view_at-v-requires c = omega (arith, top-le c.requires.reading c.requires.here, c.requires.reading.room, c.requires.inner)

pub end_tag-requires : goal.end_tag-requires
end_tag-requires c = seen-in c.requires c.view_at-v.ensures

pub overflow_add-result-in-Err : goal.overflow_add-result-in-Err
overflow_add-result-in-Err c = omega (arith, stop-in c.requires c.in-Err.m (told c.requires c.view_at-v.ensures c.end_tag.result (Err c.in-Err.m) c.in-Err.is c.end_tag.ensures), c.requires.reading.short)

pub set_next-requires : goal.set_next-requires
set_next-requires c = omega (arith, top-le c.requires.reading c.requires.here, c.requires.reading.room, c.requires.inner, c.requires.reading.few, c.requires.reading.short, c.requires.here)

pub overflow_add-result-in-Ok-2 : goal.overflow_add-result-in-Ok-2
overflow_add-result-in-Ok-2 c = omega (arith, close-in c.requires c.in-Ok.m (told c.requires c.view_at-v.ensures c.end_tag.result (Ok c.in-Ok.m) c.in-Ok.is c.end_tag.ensures), c.requires.reading.short)

pub returns-in-Err : goal.returns-in-Err
returns-in-Err c = close-bad c.requires c.in-Err.m (told c.requires c.view_at-v.ensures c.end_tag.result (Err c.in-Err.m) c.in-Err.is c.end_tag.ensures)

pub returns-in-Ok : goal.returns-in-Ok
returns-in-Ok c = close-seen c.requires c.view_at-v.ensures c.in-Ok.m c.set_next.new.tape (told c.requires c.view_at-v.ensures c.end_tag.result (Ok c.in-Ok.m) c.in-Ok.is c.end_tag.ensures) c.set_next.ensures
