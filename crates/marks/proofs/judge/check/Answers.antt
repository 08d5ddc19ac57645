-- `check` meets its contract: what `judge` says, as `marks_in` reads the table.
use Rattle.std.specs.Prelude.{ℕ, ◌≡◌, refl, List, length, Result as Tried, Ok, Err}
use Rattle.std.proofs.Common.{sym, ◌∙◌, ap}
use Rattle.keys.specs.Result.{Result, refused, ok, ◌>>=◌}
use Rattle.keys.specs.Meant.{meant, number_in}
use Rattle.keys.specs.declared.refusal.Refusal.{Refusal}
use Rattle.marks.specs.Marks.{Named, marks_in, number}
use Rattle.marks.specs.Judging.{lent_of, judged}
use Rattle.marks.specs.ChangeLaws.{judged-means}
use Rattle.marks.proofs.judge.check.Goals as goal

-- the number of what was answered, and of what it is counted from
of-meant : (r : Tried ℕ Refusal) → number_in r ≡ number (meant r)
unfolding number
of-meant (Ok n) = refl
of-meant (Err w) = refl

of-counted : (X : Result (List Named)) → number (X >>= (λ ks. ok (length ks))) ≡ number X
unfolding number
of-counted (refused w) = refl
of-counted (ok ks) = refl

checked : (n : ℕ) (t : _) (r : Tried ℕ Refusal) → r ≡ judged n (lent_of t) → number_in r ≡ number (marks_in n (lent_of t))
checked n t r e = of-meant r ∙ ap (λ x. number (meant x)) e ∙ ap number (judged-means n (lent_of t)) ∙ of-counted (marks_in n (lent_of t))

pub returns-in-Ok : goal.returns-in-Ok
returns-in-Ok c = ap number_in (sym c.in-Ok.is) ∙ checked c.args.n c.args.t c.judge.result c.judge.ensures

pub returns-in-Err : goal.returns-in-Err
returns-in-Err c = c.number.ensures ∙ ap number_in (sym c.in-Err.is) ∙ checked c.args.n c.args.t c.judge.result c.judge.ensures
