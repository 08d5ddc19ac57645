use Rattle.std.proofs.Common.{rules, arith, ◌≡◌, sym, ◌∙◌, length}
use Rattle.marks.specs.JudgeLaws.{entry-low, entry-long, entry-unset, entry-later, entry-rest}
use Rattle.marks.proofs.Mark.is_entry.Goals.{then-self-lt1-via-then-self-lt1, then-self-lt1-via-else-self-lt1+then-self-gt16, then-version-lt1-via-then-version-lt1, then-version-lt1-via-else-version-lt1+then-n-version}
use Rattle.marks.proofs.Mark.is_entry.Goals as goal

pub returns-then-self-lt1 : goal.returns-then-self-lt1
returns-then-self-lt1 c = let m = c.args.self.now in
    let h : length m.name ≡ 16 = search rules in
    sym (elim c.then-self-lt1.branch [
      | then-self-lt1-via-then-self-lt1 w ↦ entry-low c.args.n m h w.if-self-lt1.true
      | then-self-lt1-via-else-self-lt1+then-self-gt16 w ↦ entry-long c.args.n m h w.if-self-gt16.true
    ])

pub returns-then-version-lt1 : goal.returns-then-version-lt1
returns-then-version-lt1 c = let m = c.args.self.now in
    let h : length m.name ≡ 16 = search rules in
    let v : c.from-version.result ≡ m.version = search rules in
    sym (elim c.then-version-lt1.branch [
      | then-version-lt1-via-then-version-lt1 w ↦ entry-unset c.args.n m h (omega (arith, w.if-version-lt1.true))
      | then-version-lt1-via-else-version-lt1+then-n-version w ↦ entry-later c.args.n m h (omega (arith, w.if-n-version.true))
    ])

pub returns : goal.returns
returns c = let m = c.args.self.now in
    let h : length m.name ≡ 16 = search rules in
    let v : c.from-version.result ≡ m.version = search rules in
    c.is_padded.ensures ∙ sym (entry-rest c.args.n m h (omega arith) (omega arith) (omega arith) (omega arith))
