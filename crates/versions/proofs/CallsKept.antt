-- A call over a table of marks that is refused leaves the table that was lent.
use Rattle.std.specs.Prelude.{ℕ, ◌≡◌}
use Rattle.std.proofs.Math.Path.{refl, ap}
use mathlib.Core.List.{List}
use Rattle.xml.specs.Bytes.{Bytes}
use Rattle.keys.specs.Result.{Result, refused, ok}
use Rattle.marks.specs.declared.Mark.{Mark}
use Rattle.marks.specs.Marks.{Named}
use Rattle.versions.specs.Calls.{answer, Given, marked, found_mark, set_mark, find_mark, step_back, step_back_to_mark}
use Rattle.versions.specs.CallLaws.{ByNumber, by_number}

marked-kept : (table : List Mark) (x : Result Given) → ((marked table x).answer.number ≡ 0 → ⊥) → (marked table x).table ≡ table
unfolding marked answer
marked-kept table (ok g) h = absurd (h refl)
marked-kept table (refused n) h = refl

-- refused, they leave the table that was lent: "Every refusal, of whatever number, leaves output and marks untouched."
module _ (keys archive : Bytes) (table : List Mark) (out work : ℕ) where
  pub back-kept : (i : ℕ) → ((step_back keys archive table i out work).answer.number ≡ 0 → ⊥) → (step_back keys archive table i out work).table ≡ table
  unfolding step_back
  back-kept i h = marked-kept table _ h

  pub back-to-mark-kept : (name : Bytes) → ((step_back_to_mark keys archive table name out work).answer.number ≡ 0 → ⊥) → (step_back_to_mark keys archive table name out work).table ≡ table
  unfolding step_back_to_mark
  back-to-mark-kept name h = marked-kept table _ h

pub set-kept : (keys archive : Bytes) (table : List Mark) (name : Bytes) (i work : ℕ) → ((set_mark keys archive table name i work).answer.number ≡ 0 → ⊥)
    → (set_mark keys archive table name i work).table ≡ table
unfolding set_mark
set-kept keys archive table name i work h = marked-kept table _ h

module _ (table : List Mark) where
  number-refused : (x : Result Named) (y : ℕ → Result Given) (z : Result Given) → ByNumber x y z → ((found_mark x).answer.number ≡ 0 → ⊥)
      → marked table z ≡ record { answer = (found_mark x).answer; table = table }
  unfolding found_mark answer marked
  number-refused (refused n) y z h e = ap (marked table) h.numbered
  number-refused (ok k) y z h e = absurd (e refl)

module _ (keys archive : Bytes) (table : List Mark) (name : Bytes) (out work : ℕ) where
  -- where it is not, it is refused under the same number, and changes nothing
  pub by-no-name : ((find_mark keys archive table name work).answer.number ≡ 0 → ⊥)
      → step_back_to_mark keys archive table name out work ≡ record { answer = (find_mark keys archive table name work).answer; table = table }
  unfolding find_mark step_back step_back_to_mark
  by-no-name e = number-refused table _ _ _ (by_number keys archive table name out work) e
