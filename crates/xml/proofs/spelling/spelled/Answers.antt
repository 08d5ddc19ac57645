-- `xml::spelling::spelled` meets its contract: a law for each answer (NeatSpelled). Assumes nothing.
use native.Mathlib.Omega.{arith}
use mathlib.Core.Path.{◌≡◌, sym, ◌∙◌}
use Rattle.xml.specs.Forest.{Forest}
use Rattle.xml.specs.Tape.{Tape}
use Rattle.xml.specs.TapeLaws.{tape-room}
use Rattle.xml.specs.Truth.{clash}
use Rattle.xml.specs.Neat.{tags}
use Rattle.xml.specs.NeatLaws.{tags-are}
use Rattle.xml.specs.NeatSpelled.{not-spelled, last-told}
use Rattle.xml.proofs.spelling.spelled.Goals as goal

pub returns-then-src-eq0 : goal.returns-then-src-eq0
returns-then-src-eq0 c a f e t = sym (not-spelled a c.args.doc.now.src.now f e (λ n. n.some c.if-src-eq0.true))

pub returns-then-is_white_byte : goal.returns-then-is_white_byte
returns-then-is_white_byte c a f e t = sym (not-spelled a c.args.doc.now.src.now f e (λ n. clash (sym c.if-is_white_byte.true ∙ c.is_white_byte.ensures ∙ n.black-first)))

pub returns-then-is_white_byte-2 : goal.returns-then-is_white_byte-2
returns-then-is_white_byte-2 c a f e t = sym (not-spelled a c.args.doc.now.src.now f e (λ n. clash (sym c.if-is_white_byte-2.true ∙ c.is_white_byte-2.ensures ∙ n.black-last)))

pub count_tags-tags-requires : goal.count_tags-tags-requires
count_tags-tags-requires c = tape-room c.requires.0.tape (omega arith)

pub overflow_mul-tags : goal.overflow_mul-tags
overflow_mul-tags c = omega (arith, c.count_tags-tags.ensures.1, tape-room c.requires.0.tape (omega arith))

pub returns-then-count_of-tags : goal.returns-then-count_of-tags
returns-then-count_of-tags c a f e t =
    let found : (f : Forest) → Tape c.args.doc.now.src.now c.args.doc.now.tape.now 0 c.args.hi f → c.count_tags-tags.result ≡ tags f = λ f t. tags-are t c.count_tags-tags.ensures.0 in
    let g = found f t in
    sym (not-spelled a c.args.doc.now.src.now f e (λ n. c.if-count_of-tags.true (omega (arith, c.count_of.ensures, n.less))))

pub returns-then-count_of-tags-2 : goal.returns-then-count_of-tags-2
returns-then-count_of-tags-2 c a f e t =
    let found : (f : Forest) → Tape c.args.doc.now.src.now c.args.doc.now.tape.now 0 c.args.hi f → c.count_tags-tags.result ≡ tags f = λ f t. tags-are t c.count_tags-tags.ensures.0 in
    let g = found f t in
    sym (not-spelled a c.args.doc.now.src.now f e (λ n. c.if-count_of-tags-2.true (omega (arith, c.count_of-2.ensures, n.greater))))

pub returns : goal.returns
returns c a f e t =
    let found : (f : Forest) → Tape c.args.doc.now.src.now c.args.doc.now.tape.now 0 c.args.hi f → c.count_tags-tags.result ≡ tags f = λ f t. tags-are t c.count_tags-tags.ensures.0 in
    let g = found f t in
    last-told a c.args.doc.now.src.now f e c.has_other.ensures
    (λ o.
    record {
      some = c.if-src-eq0.false;
      black-first = sym c.is_white_byte.ensures ∙ c.if-is_white_byte.false;
      black-last = sym c.is_white_byte-2.ensures ∙ c.if-is_white_byte-2.false;
      less = omega (arith, c.count_of.ensures, c.if-count_of-tags.false);
      greater = omega (arith, c.count_of-2.ensures, c.if-count_of-tags-2.false);
      no-others = o;
    })
