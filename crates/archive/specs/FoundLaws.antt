-- The call that founds an archive: its steps, and what they ask and say.
use Rattle.std.specs.Prelude.{ℕ, ◌≤◌, ◌≡◌, refl, List, [], ◌∷◌, length}
use Rattle.std.proofs.Common.{arith}
use Rattle.xml.specs.Bytes.{Bytes}
use Rattle.xml.specs.Forest.{Forest, write}
use Rattle.xml.specs.Tape.{Tape}
use Rattle.xml.specs.TapeLaws.{tape-one}
use Rattle.keys.specs.Result.{Result, ok, ◌>>=◌, ◌>>◌}
use Rattle.keys.specs.KeyList.{KeyList, key_list}
use Rattle.keys.specs.Version.{version}
use Rattle.keys.specs.Table.{Table}
use Rattle.keys.specs.Loading.{Tabled}
use Rattle.versions.specs.Archive.{archive_of}
use Rattle.versions.specs.Calls.{answer, room, at_most, storable, give, found}
use Rattle.archive.specs.Reception.{Version}
use Rattle.archive.specs.Founding.{first_text, first-length, founded-text, founded-storable, short}
use Rattle.archive.specs.Giving.{Gives, gives_same}

-- the last steps of the call, and all but its first
abbrev pub found_of : KeyList → Bytes → ℕ → Result Bytes
found_of K s out = do
  v ← version K s
  storable (archive_of K (v ∷ []))
  give out (write (archive_of K (v ∷ [])))

abbrev pub found_in : Bytes → Bytes → ℕ → Result Bytes
found_in keys s out = do
  at_most 4096 keys
  at_most 16384 s
  K ← key_list keys
  found_of K s out

pub founds : (keys s : Bytes) (out work : ℕ) → found keys s out work ≡ answer (room work >> found_in keys s out)
unfolding found
founds keys s out work = refl

-- a version lies on the tape
pub record FirstOn (src cells : List ℕ) (m : ℕ) : Type 0 where
  pub forest : Forest
  pub tape : Tape src cells 0 m forest
  pub few : m ≤ 512
  pub small : length (write forest) ≤ 16384

pub first_on : {key_text : Bytes} {table : List ℕ} {n : ℕ} {src left : List ℕ} {m : ℕ} → Tabled key_text table n
    → ((K : KeyList) → Table key_text table n K → Version K src left m) → FirstOn src left m
first_on {src = src} t x =
    let w = x t.keys t.table in
    record { forest = w.forest; tape = w.tape; few = w.few; small = short t.keys src w.forest w.is }

-- its archive has at most 16,397 bytes
pub first_short : {src cells : List ℕ} {m : ℕ} → FirstOn src cells m → (f : Forest) → Tape src cells 0 m f → length (first_text (write f)) ≤ 16397
first_short x f t = rw (tape-one t x.tape) (omega (arith, first-length (write x.forest), x.small))

found-version : (K : KeyList) (s : Bytes) (v : Forest) (out : ℕ) → version K s ≡ ok v → found_of K s out ≡ give out (first_text (write v))
found-version K s v out e = rw (e, founded-storable K s v e, founded-text K s v e)

pub found-given : {K : KeyList} {src cells : List ℕ} {m number size : ℕ} {out left : List ℕ} → Version K src cells m
    → ((f : Forest) → Tape src cells 0 m f → Gives (give (length out) (first_text (write f))) number size out left) → Gives (found_of K src (length out)) number size out left
found-given {K} {src = src} {out = out} w g = gives_same (found-version K src w.forest (length out) w.is) (g w.forest w.tape)
