-- `legality::sizes::raise_span` meets its contract. Assumes nothing.
use native.Mathlib.Omega.{arith}
use borrow.Author.Tests.{eq-eqb, ne_eqb}
use Rattle.versions.specs.Grown.{run_none, run_more}
use Rattle.legality.proofs.sizes.raise_span.Goals as goal

pub overflow_add-nodes : goal.overflow_add-nodes
overflow_add-nodes c = let p = rw (eq-eqb c.args.lo 0 c.if-lo-eq0.true) at c.requires in
    omega (arith, p.0.room c.args.n (omega arith) (omega (arith, p.4)))

pub overflow_add-bytes : goal.overflow_add-bytes
overflow_add-bytes c = let p = rw (eq-eqb c.args.lo 0 c.if-lo-eq0.true) at c.requires in
    omega (arith, p.1.room c.args.n (omega arith) (omega (arith, p.4)))

pub returns-then-lo-eq0 : goal.returns-then-lo-eq0
returns-then-lo-eq0 c = let n = c.args.n in
    let p = rw (eq-eqb c.args.lo 0 c.if-lo-eq0.true) at c.requires in
    rw (eq-eqb c.args.lo 0 c.if-lo-eq0.true) (
      run_more n n c.args.x (run_none n c.args.x) p.0.count p.2 (omega arith) (omega (arith, p.4)),
      run_more n n c.args.y (run_none n c.args.y) p.1.count p.2 (omega arith) (omega (arith, p.4)),
    )

pub raise_run-requires : goal.raise_run-requires
raise_run-requires c = rw (ne_eqb c.args.lo 0 c.if-lo-eq0.false) at c.requires

pub returns : goal.returns
returns c = rw (ne_eqb c.args.lo 0 c.if-lo-eq0.false) c.raise_run.ensures
