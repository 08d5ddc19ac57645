-- `legality::front::front_legal` meets its contract: nothing, one content, or contents in their `T`s. Assumes nothing.
use mathlib.Core.Path.{◌≡◌, sym, ◌∙◌}
use Rattle.xml.specs.Forest.{Forest, end}
use Rattle.xml.specs.Tape.{Tape}
use Rattle.xml.specs.TapeLaws.{front}
use Rattle.timestamp.specs.Times.{Times}
use Rattle.timestamp.specs.Set.{set_of, empty_set}
use Rattle.timestamp.specs.Listed.{Only, listed}
use Rattle.versions.specs.Walk.{front_legal}
use Rattle.versions.specs.Branches.{judged}
use Rattle.versions.specs.Running.{front-none, front-bare, front-timed}
use Rattle.legality.proofs.front.front_legal.Goals as goal

pub returns-then-hi-lo : goal.returns-then-hi-lo
returns-then-hi-lo c f t x o e = sym (front-none _ _ x c.if-hi-lo.true)

pub view-v-requires : goal.view-v-requires
view-v-requires c = (front c.requires.0.tape c.if-hi-lo.false).held

pub returns-then-are_few : goal.returns-then-are_few
returns-then-are_few c f t x o e =
    let timed-front : (f : Forest) (t : Times) → Tape c.args.doc.now.src.now c.args.doc.now.tape.now c.args.lo c.args.hi f → Only c.args.n (set_of c.args.times.words) → listed c.args.n (set_of c.args.times.words) ≡ t → judged c.args.n (set_of c.args.times.words) empty_set 0 0 end f ≡ front_legal c.args.n t f = λ f t x o e. front-timed c.args.n t (set_of c.args.times.words) c.requires.1 o e x c.if-hi-lo.false (rw c.view-v.ensures at c.if-v-eq2.true) in
    c.few_legal.ensures f x o ∙ timed-front f t x o e

pub returns-then-v-eq2 : goal.returns-then-v-eq2
returns-then-v-eq2 c f t x o e =
    let timed-front : (f : Forest) (t : Times) → Tape c.args.doc.now.src.now c.args.doc.now.tape.now c.args.lo c.args.hi f → Only c.args.n (set_of c.args.times.words) → listed c.args.n (set_of c.args.times.words) ≡ t → judged c.args.n (set_of c.args.times.words) empty_set 0 0 end f ≡ front_legal c.args.n t f = λ f t x o e. front-timed c.args.n t (set_of c.args.times.words) c.requires.1 o e x c.if-hi-lo.false (rw c.view-v.ensures at c.if-v-eq2.true) in
    c.branches_legal.ensures f x o ∙ timed-front f t x o e

pub returns : goal.returns
returns c f t x o e = c.is_untimed.ensures f x ∙ sym (front-bare _ _ x c.if-hi-lo.false (rw c.view-v.ensures at c.if-v-eq2.false))
