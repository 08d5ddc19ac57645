-- The call that checks a key list: its steps, and what it answers and leaves.
use Rattle.std.specs.Prelude.{ℕ, ◌≡◌, refl, List, [], length}
use Rattle.std.proofs.Common.{arith}
use Rattle.xml.specs.Bytes.{Bytes}
use Rattle.xml.specs.Over.{over}
use Rattle.keys.specs.Result.{Result, ok, ◌>>=◌, ◌>>◌}
use Rattle.keys.specs.KeyList.{key_list}
use Rattle.versions.specs.Calls.{answer, room, at_most, check_keys, work_after}
use Rattle.archive.specs.Giving.{Gives, Ends, gives-ok}

-- all steps but the first
abbrev pub checks : Bytes → Result Bytes
checks keys = do
  at_most 4096 keys
  K ← key_list keys
  ok []

pub check-from : (keys : Bytes) (work : ℕ) → check_keys keys work ≡ answer (room work >> checks keys)
unfolding check_keys
check-from keys work = refl

-- what a call that checks a key list answers and leaves
abbrev pub Checks : Bytes → List ℕ → ℕ → ℕ → List ℕ → Type 0
Checks keys work number size left =
    (number ≡ (check_keys keys (length work)).number) × (size ≡ 0) × (left ≡ work_after (check_keys keys (length work)) work)

pub checked : (keys : Bytes) (work : List ℕ) {number : ℕ} {left : List ℕ} → Ends (check_keys keys (length work)) [] work number 0 [] left → Checks keys work number 0 left
checked keys work e = (e.number_is, refl, e.work-is)

pub nothing-given : Gives (ok []) 0 0 [] []
unfolding over
nothing-given = gives-ok [] refl refl (omega arith) refl
