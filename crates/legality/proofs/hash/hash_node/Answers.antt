-- `legality::hash::hash_node` meets its contract: a law for each kind. Assumes nothing.
use Prim.Native.Nat.{ℕ}
use native.Mathlib.Omega.{arith}
use mathlib.Core.Path.{sym, ◌∙◌, ap}
use lib.Seq.{slice}
use Rattle.xml.specs.Read.{unescape}
use Rattle.versions.specs.Hashes.{folded, mixed-small, node-run, node-element, node-timed}
use Rattle.legality.proofs.hash.hash_node.Goals as goal

pub fold_run-requires : goal.fold_run-requires
fold_run-requires c = rw c.mix.ensures (omega arith, omega arith, mixed-small _ 0)

pub returns-then-kind-eq0 : goal.returns-then-kind-eq0
returns-then-kind-eq0 c = c.fold_run.ensures ∙ ap (λ (x : ℕ). folded x (unescape 0 (slice c.args.a c.args.e c.args.src.now))) c.mix.ensures ∙ sym (node-run _ _ _ c.if-kind-eq0.true)

pub returns-then-kind-eq1 : goal.returns-then-kind-eq1
returns-then-kind-eq1 c = c.mix-then-kind-eq1.ensures ∙ sym (node-element _ _ _ c.if-kind-eq1.true)

pub returns : goal.returns
returns c = c.mix-2.ensures ∙ sym (node-timed _ _ _ c.if-kind-eq0.false c.if-kind-eq1.false)
