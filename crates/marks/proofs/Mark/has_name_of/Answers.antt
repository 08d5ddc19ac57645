use Rattle.std.proofs.Common.{rules, ◌≡◌, sym, ◌∙◌}
use Rattle.std.specs.Str.{bytes_eq}
use Rattle.marks.specs.Marks.{name_of}
use Rattle.marks.specs.JudgeLaws.{same-eq}
use Rattle.marks.proofs.Mark.has_name_of.Goals as goal

pub returns : goal.returns
returns c = let e : c.eq.result ≡ bytes_eq (name_of c.args.self.now) (name_of c.args.other.now) = search rules in
    e ∙ sym (same-eq (name_of c.args.self.now) (name_of c.args.other.now))
