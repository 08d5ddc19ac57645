use Rattle.std.proofs.Common.{arith, ◌≡◌, ◌∙◌, ap, ◌+◌, ◌-◌, take, drop}
use Rattle.marks.specs.BytesLaws.{mark-read, two-read}
use Rattle.marks.proofs.bytes.entry_at.Goals as goal

pub returns : goal.returns
returns c = let at = c.args.at in
    let s = c.args.s.now in
    let k : at + 16 - at ≡ 16 = omega arith in
    mark-read s at c.copy_from_slice.new.self c.from_le_bytes.result (c.copy_from_slice.ensures.after ∙ ap (λ n. take n (drop at s)) k) (c.from_le_bytes.ensures ∙ two-read _ _)
