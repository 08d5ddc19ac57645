use Rattle.std.proofs.Common.{rules, arith, ◌≡◌, ◌∙◌, ◌<◌, ◌+◌, ◌-◌, length}
use Rattle.marks.specs.BytesLaws.{entry_length, put-name, put-version, two-written}
use Rattle.marks.proofs.bytes.put_entry.Goals as goal

pub returns : goal.returns
returns c = let m = c.args.m in
    let out = c.args.out.now in
    let at = c.args.at in
    let h : length m.name ≡ 16 = search rules in
    let n = put-name m h out at c.requires.0 (at + 16 - at) c.copy_from_slice.new.self (omega arith) c.copy_from_slice.ensures.after in
    let v : m.version < 65536 = omega arith in
    let b = c.copy_from_slice-2.ensures.after ∙ c.to_le_bytes.ensures ∙ two-written m.version v in
    (put-version m h out at c.requires.0 _ _ c.copy_from_slice-2.new.self n (search rules) (omega arith) b, entry_length m h)
