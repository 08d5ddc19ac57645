-- `xml::tag::is_bare` meets its contract: a law of the last byte. Assumes nothing.
use native.Mathlib.Omega.{arith}
use Rattle.xml.specs.TagLaws.{start-some}
use Rattle.xml.specs.TagWritten.{ends-quoted, ends-other}
use Rattle.xml.proofs.tag.is_bare.Goals as goal

pub overflow_sub-b : goal.overflow_sub-b
overflow_sub-b c = omega (arith, start-some c.requires.start)

pub bounds-s-s : goal.bounds-s-s
bounds-s-s c = omega (arith, start-some c.requires.start)

pub returns-then-b-eq34 : goal.returns-then-b-eq34
returns-then-b-eq34 c = ends-quoted c.requires c.if-b-eq34.true

pub returns : goal.returns
returns c = ends-other c.requires c.if-b-eq34.false
