-- `set_of` meets its contract. Assumes nothing.
use Prim.Native.Nat.{ℕ, ◌≤◌}
use native.Mathlib.Omega.{arith}
use mathlib.Core.Path.{sym, subst}
use Rattle.xml.specs.Bytes.{Bytes}
use Rattle.xml.specs.Tape.{head_at, start_in, end_in, Node}
use Rattle.versions.specs.Walk.{times_in}
use Rattle.versions.specs.AddParts.{Says, LegalSet, set_in, SetOf}
use Rattle.versions.specs.TimedLaws.{legal-says}
use Rattle.versions.specs.AddWalk.{timed-by, bare-by}
use Rattle.adding.proofs.sibling.set_of.Goals as goal

pub view-v-requires : goal.view-v-requires
view-v-requires c = c.requires.0

pub returns-then-v-eq2 : goal.returns-then-v-eq2
returns-then-v-eq2 c n t o m k h a s x =
    let own : (n : ℕ) (l : Bytes) → n ≤ 999 → Node c.args.archive.now.src.now c.args.archive.now.tape.now c.args.p 2 l → LegalSet n l → Says n c.args.archive.now.src.now c.view-v.result.start c.view-v.result.end (times_in n l) = λ n l h d y. let g = head_at c.args.archive.now.tape.now c.args.p in rw c.view-v.ensures (subst (λ x. Says n c.args.archive.now.src.now (start_in g) (end_in g) (times_in n x)) d.bytes-are (legal-says n (start_in g) (end_in g) c.args.archive.now.src.now h (omega arith) d.within (subst (LegalSet n) (sym d.bytes-are) y))) in
    timed-by a (λ z. SetOf n z → Says n c.args.archive.now.src.now c.view-v.result.start c.view-v.result.end (set_in n t z)) (rw c.view-v.ensures at c.if-v-eq2.true) (λ l d y. own n l h d y) s

pub returns : goal.returns
returns c n t o m k h a s x = bare-by a (λ z. Says n c.args.archive.now.src.now c.args.around.start c.args.around.end (set_in n t z)) (rw c.view-v.ensures at c.if-v-eq2.false) x
