-- The call that gives a history: its steps, and what they ask and say.
use Rattle.std.specs.Prelude.{Option, None, Some, ℕ, ◌≡◌, refl, true, List, length}
use Rattle.std.proofs.Common.{arith, sym}
use Rattle.xml.specs.Bytes.{Bytes}
use Rattle.xml.specs.Forest.{Forest}
use Rattle.xml.specs.Tape.{Tape}
use Rattle.keys.specs.Result.{Result, number_of, ◌>>=◌, ◌>>◌, r12}
use Rattle.keys.specs.KeyList.{KeyList, key_list}
use Rattle.keys.specs.Table.{Table}
use Rattle.keys.specs.Loading.{Tabled}
use Rattle.keys.specs.Address.{address}
use Rattle.keys.specs.AddressParts.{AddressParsed, parsed-is}
use Rattle.keys.specs.declared.address.Parsed.{Parsed}
use Rattle.versions.specs.Calls.{answer, room, at_most, give, history}
use Rattle.versions.specs.Walk.{forest_legal, archive_read, history_forest, history_on}
use Rattle.versions.specs.WalkLaws.{histories}
use Rattle.walks.specs.HistoryParts.{HistoryAsked, OfHistory}
use Rattle.archive.specs.Giving.{Gives, step-refused, step_ok}
use Rattle.legality.specs.Opened.{ArchiveOn}

-- the steps with the archive's forest at hand
abbrev pub history_for : KeyList → Bytes → ℕ → Forest → Result Bytes
history_for K place out f = do
  ls ← address K place
  give out (history_forest K ls f)

-- the steps under a key list
abbrev pub history_under : KeyList → Bytes → Bytes → ℕ → Result Bytes
history_under K archive place out = do
  f ← archive_read K archive
  history_for K place out f

-- all steps but the first
abbrev pub history_from : Bytes → Bytes → Bytes → ℕ → Result Bytes
history_from keys archive place out = do
  at_most 4096 keys
  at_most 32768 archive
  at_most 2560 place
  K ← key_list keys
  history_under K archive place out

pub history-from : (keys archive place : Bytes) (out work : ℕ) → history keys archive place out work ≡ answer (room work >> history_from keys archive place out)
unfolding history_on
history-from keys archive place out work = sym (histories keys archive place out work)

-- a legal archive lies on the tape
pub record SomeArchive (text : Bytes) (table : List ℕ) (paths : ℕ) (src cells : List ℕ) (hi : ℕ) : Type 0 where
  pub key_list : KeyList
  pub tabled : Table text table paths key_list
  pub forest : Forest
  pub tape : Tape src cells 0 hi forest
  pub legal : forest_legal key_list forest ≡ true

module _ {text : Bytes} {table : List ℕ} {paths : ℕ} {src cells : List ℕ} {hi : ℕ} where
  pub some-archive : {n : ℕ} → Tabled text table paths → ((K : KeyList) → Table text table paths K → ArchiveOn K src cells hi n) → SomeArchive text table paths src cells hi
  some-archive t x =
      let a = x t.keys t.table in
      record { key_list = t.keys; tabled = t.table; forest = a.forest; tape = a.tape; legal = a.legal }

  -- what an accepted address asks
  pub history-asked : {place : Bytes} {x : Option Parsed} {r : Parsed} {values : List (List ℕ)} → ((K : KeyList) → Table text table paths K → AddressParsed K place x values)
      → SomeArchive text table paths src cells hi → x ≡ Some r → HistoryAsked text table paths place r values src cells hi
  history-asked {place} {x} {r} {values} p a z =
      let y : AddressParsed a.key_list place (Some r) values = parsed-is a.key_list place values (p a.key_list a.tabled) z in
      record {
        key_list = a.key_list;
        tabled = a.tabled;
        parsed = y.1;
        some-step = y.0;
        forest = a.forest;
        tape = a.tape;
        legal = a.legal;
      }

  -- and its steps taken
  pub history-found : (K : KeyList) (place : Bytes) (values : List (List ℕ)) {f : Forest} {x : Option Parsed} {r : Parsed} {number size : ℕ} {out left : List ℕ} → AddressParsed K place x values → x ≡ Some r
      → Table text table paths K → Tape src cells 0 hi f → OfHistory text table paths place src cells hi (λ w. Gives (give (length out) w) number size out left)
      → Gives (history_for K place (length out) f) number size out left
  history-found K place values {f} {r = r} p z t h x =
      let y : AddressParsed K place (Some r) values = parsed-is K place values p z in
      let s = y.1.accepted-as y.0 in
      step_ok _ s.steps s.accepted (x K f s.steps t h s.accepted)

-- 12: the address
pub history-12 : (K : KeyList) (place : Bytes) (values : List (List ℕ)) {x : Option Parsed} (f : Forest) (out : List ℕ) → AddressParsed K place x values → x ≡ None → Gives (history_for K place (length out) f) (number_of r12) 0 out out
unfolding number_of
history-12 K place values f out p z = step-refused _ r12 out (parsed-is K place values p z) refl refl
