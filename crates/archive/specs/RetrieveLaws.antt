-- The call that retrieves a version, by its steps; what its walk asks of the archive on the tape, and how long what it writes can be.
use Rattle.std.specs.Prelude.{ℕ, ◌+◌, ◌*◌, ◌-◌, ◌^◌, ◌<◌, ◌≤◌, ◌≡◌, List, length}
use Rattle.std.proofs.Common.{arith, sym}
use Rattle.xml.specs.Bytes.{Bytes}
use Rattle.xml.specs.Forest.{Forest}
use Rattle.xml.specs.Tape.{Tape}
use Rattle.keys.specs.Result.{◌>>◌}
use Rattle.versions.specs.Calls.{answer, room, retrieve}
use Rattle.versions.specs.Walk.{retrieve_on}
use Rattle.versions.specs.WalkLaws.{retrieves}
use Rattle.versions.specs.Timely.{Timely}
use Rattle.versions.specs.VersionText.{version_text, pick-shorter}
use Rattle.archive.specs.Asking.{asked_in, Reaches, reaches-timely, reaches-short}

-- the call is the test for room, and the steps that follow it
pub retrieve-steps : (keys s : Bytes) (i out work : ℕ) → retrieve keys s i out work ≡ answer (room work >> asked_in (version_text i) keys s i out)
unfolding retrieve_on version_text
retrieve-steps keys s i out work = sym (retrieves keys s i out work)

-- what the walk requires, for a version that is there
pub version-asks : {src cells : List ℕ} {hi i : ℕ} → Reaches src cells hi i → Timely i src cells 0 hi × (0 + 163840 * (hi - 0) < 2 ^ 61)
version-asks x = let a = x.lies.archive in (reaches-timely x, omega (arith, a.few))

-- what it writes is no longer than the archive's text
pub version-short : {src cells : List ℕ} {hi i : ℕ} → Reaches src cells hi i → (f : Forest) → Tape src cells 0 hi f → length (version_text i f) ≤ length src
unfolding version_text
version-short {i = i} x f t = reaches-short (version_text i) (λ K g h l. pick-shorter i g) x f t
