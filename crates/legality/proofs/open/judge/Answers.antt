-- `archive::open::judge` meets its contract: a law for each answer (Opened). Assumes nothing.
use mathlib.Core.Path.{◌≡◌}
use mathlib.Core.Bool.{true}
use Rattle.xml.specs.Bytes.{same}
use Rattle.xml.specs.Forest.{write}
use Rattle.legality.specs.Opened.{judged-misspelled, judged-illegal, judged-legal}
use Rattle.legality.proofs.open.judge.Goals as goal

pub spelled-requires : goal.spelled-requires
spelled-requires c = let g = c.requires.1 in (record { forest = g.forest; tape = g.tape }, g.short)

pub returns-then-not-spelled : goal.returns-then-not-spelled
returns-then-not-spelled c =
    let told : c.spelled.result ≡ same c.args.doc.now.src.now (write c.requires.1.forest) = let g = c.requires.1 in c.spelled.ensures true g.forest g.is g.tape in
    judged-misspelled c.requires.1 told c.if-not-spelled.true

pub returns-in-None : goal.returns-in-None
returns-in-None c = judged-illegal c.requires.1 c.in-None.ensures

pub returns-in-Some : goal.returns-in-Some
returns-in-Some c =
    let told : c.spelled.result ≡ same c.args.doc.now.src.now (write c.requires.1.forest) = let g = c.requires.1 in c.spelled.ensures true g.forest g.is g.tape in
    judged-legal c.requires.1 told c.in-Some.ensures c.if-not-spelled.false
