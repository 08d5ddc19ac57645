-- `archive::open::inside_legal` meets its contract: one test after the other. Assumes nothing.
use native.Mathlib.Omega.{arith}
use mathlib.Core.Path.{◌≡◌, sym, ◌∙◌, ap}
use mathlib.Core.List.{[]}
use Rattle.xml.specs.Forest.{Forest}
use Rattle.xml.specs.Tape.{Tape}
use Rattle.keys.specs.KeyList.{KeyList}
use Rattle.keys.specs.PlaceLaws.{place-root}
use Rattle.keys.specs.Table.{Table}
use Rattle.timestamp.specs.Times.{Times, always}
use Rattle.versions.specs.Walk.{siblings_legal}
use Rattle.versions.specs.AddParts.{Holds}
use Rattle.versions.specs.TimedLaws.{up-to-holds}
use Rattle.versions.specs.LegalWhole.{inside-many, inside-unlawful, inside-rest, inside-walk}
use Rattle.legality.proofs.open.inside_legal.Goals as goal

pub returns-then-count_nodes-gt1024 : goal.returns-then-count_nodes-gt1024
returns-then-count_nodes-gt1024 c K t k x = sym (inside-many K c.args.n k (omega (arith, c.count_nodes.ensures k x, c.if-count_nodes-gt1024.true)))

pub siblings_legal-requires : goal.siblings_legal-requires
siblings_legal-requires c =
    let every : Holds c.args.n c.up_to-all.result.words (always c.args.n) = up-to-holds c.args.n c.up_to-all.ensures in
    (inside-walk c.requires.0 c.requires.1, c.requires.4, every.only)

pub returns-then-not-siblings_legal : goal.returns-then-not-siblings_legal
returns-then-not-siblings_legal c K t k x =
    let every : Holds c.args.n c.up_to-all.result.words (always c.args.n) = up-to-holds c.args.n c.up_to-all.ensures in
    let said : (K : KeyList) → Table c.args.keys.now.text.now c.args.keys.now.table.now c.args.keys.now.paths K → (k : Forest) → Tape c.args.doc.now.src.now c.args.doc.now.tape.now 1 c.args.hi k → c.siblings_legal.result ≡ siblings_legal K c.args.n [] (always c.args.n) k = λ K t k x. c.siblings_legal.ensures K [] t (place-root K) k x ∙ ap (λ (z : Times). siblings_legal K c.args.n [] z k) (every).listed-is in
    sym (inside-unlawful K c.args.n k (sym (said K t k x) ∙ c.if-not-siblings_legal.true))

pub all_small-requires : goal.all_small-requires
all_small-requires c =
    let every : Holds c.args.n c.up_to-all.result.words (always c.args.n) = up-to-holds c.args.n c.up_to-all.ensures in
    let said : (K : KeyList) → Table c.args.keys.now.text.now c.args.keys.now.table.now c.args.keys.now.paths K → (k : Forest) → Tape c.args.doc.now.src.now c.args.doc.now.tape.now 1 c.args.hi k → c.siblings_legal.result ≡ siblings_legal K c.args.n [] (always c.args.n) k = λ K t k x. c.siblings_legal.ensures K [] t (place-root K) k x ∙ ap (λ (z : Times). siblings_legal K c.args.n [] z k) (every).listed-is in
    let T = c.requires.0 in
    let v = c.requires.1 in
    record {
      forest = v.forest;
      tape = v.tape;
      few = c.requires.2;
      some-there = c.requires.3;
      not_more = c.requires.4;
      keys = T.keys;
      legal = sym (said T.keys T.table v.forest v.tape) ∙ c.if-not-siblings_legal.false;
    }

pub returns : goal.returns
returns c K t k x =
    let every : Holds c.args.n c.up_to-all.result.words (always c.args.n) = up-to-holds c.args.n c.up_to-all.ensures in
    let said : (K : KeyList) → Table c.args.keys.now.text.now c.args.keys.now.table.now c.args.keys.now.paths K → (k : Forest) → Tape c.args.doc.now.src.now c.args.doc.now.tape.now 1 c.args.hi k → c.siblings_legal.result ≡ siblings_legal K c.args.n [] (always c.args.n) k = λ K t k x. c.siblings_legal.ensures K [] t (place-root K) k x ∙ ap (λ (z : Times). siblings_legal K c.args.n [] z k) (every).listed-is in
    c.all_small.ensures k x
    ∙ sym (inside-rest K c.args.n k (omega (arith, c.count_nodes.ensures k x, c.if-count_nodes-gt1024.false))
    (sym (said K t k x) ∙ c.if-not-siblings_legal.false))
