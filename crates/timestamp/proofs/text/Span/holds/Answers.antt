-- `timestamp::text::Span::holds` meets its contract.
use mathlib.Core.Path.{◌≡◌, ◌∙◌}
use mathlib.Core.Bool.{◌&&◌}
use lib.Dec.{leb}
use native.Mathlib.Omega.{arith}
use borrow.Author.Rules.{rules}
use Rattle.timestamp.specs.Belongs.{holds-one, holds-two, holds-many}
use Rattle.timestamp.proofs.text.Span.holds.Goals as goal

pub returns-in-0 : goal.returns-in-0
returns-in-0 c = holds-one c.args.self c.args.v c.in-0.is

pub returns-in-1 : goal.returns-in-1
returns-in-1 c =
    let inside : c.contains.result ≡ (leb c.args.self.lo c.args.v && leb c.args.v c.args.self.n) = search rules in
    inside ∙ holds-two c.args.self c.args.v c.in-1.is

pub returns-in_default : goal.returns-in_default
returns-in_default c = holds-many c.args.self c.args.v (λ e. omega (arith, e)) (λ e. omega (arith, e))
