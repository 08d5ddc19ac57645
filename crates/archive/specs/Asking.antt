-- The calls that ask for one of an archive's versions by its number: their steps, the archive on the tape, and a law for each answer.
use Rattle.std.specs.Prelude.{ℕ, ◌<◌, ◌≤◌, ◌≡◌, false, ◌&&◌, List, length}
use Rattle.std.proofs.Common.{arith, sym, ap, subst}
use Rattle.std.proofs.Math.Path.{refl}
use Rattle.std.proofs.Math.Bool.{true, not}
use Rattle.std.proofs.Math.Dec.{leb}
use borrow.Author.Tests.{le-leb, lt-leb}
use Rattle.xml.specs.Bytes.{Bytes}
use Rattle.xml.specs.Forest.{Forest, write}
use Rattle.xml.specs.Tape.{Tape}
use Rattle.xml.specs.TapeLaws.{tape-one}
use Rattle.keys.specs.Result.{Result, number_of, ◌>>=◌, ◌>>◌, refuse, r11}
use Rattle.keys.specs.KeyList.{KeyList, key_list}
use Rattle.keys.specs.Table.{Table}
use Rattle.keys.specs.Loading.{Tabled}
use Rattle.versions.specs.Archive.{last_version}
use Rattle.versions.specs.Calls.{at_most, give}
use Rattle.versions.specs.Walk.{forest_legal, archive_read}
use Rattle.versions.specs.Timely.{Timely, legal-timely}
use Rattle.legality.specs.Opened.{ArchiveOn}
use Rattle.archive.specs.Giving.{Gives, step_ok, test-refused, test-passed}

-- the last steps, where i of n versions is asked for and s is to be given
abbrev pub asked : ℕ → ℕ → ℕ → Bytes → Result Bytes
asked n i out s = do
  refuse r11 (not (leb 1 i && leb i n))
  give out s

-- the steps under a key list, where w of the archive's forest is to be given
abbrev pub asked_of : (Forest → Bytes) → KeyList → Bytes → ℕ → ℕ → Result Bytes
asked_of w K s i out = do
  f ← archive_read K s
  asked (last_version f) i out (w f)

-- all steps but the first
abbrev pub asked_in : (Forest → Bytes) → Bytes → Bytes → ℕ → ℕ → Result Bytes
asked_in w keys s i out = do
  at_most 4096 keys
  at_most 32768 s
  K ← key_list keys
  asked_of w K s i out

-- an archive of n versions, legal under some key list, lies on the tape
pub record Lies (src cells : List ℕ) (hi n : ℕ) : Type 0 where
  pub keys : KeyList
  pub archive : ArchiveOn keys src cells hi n

-- an archive that has the versions to i lies on the tape
pub record Reaches (src cells : List ℕ) (hi i : ℕ) : Type 0 where
  pub count : ℕ
  pub lies : Lies src cells hi count
  pub reach : i ≤ count
  pub some-there : 1 ≤ i

-- so its `T`s have the texts of sets of versions
pub reaches-timely : {src cells : List ℕ} {hi i : ℕ} → Reaches src cells hi i → Timely i src cells 0 hi
reaches-timely {i = i} x = let a = x.lies.archive in legal-timely x.lies.keys a.legal a.tape (subst (λ k. i ≤ k) (sym a.last) x.reach)

-- what is no longer than a legal archive, written, is no longer than the archive's text
pub reaches-short : {src cells : List ℕ} {hi i : ℕ} (w : Forest → Bytes) → ((K : KeyList) (f : Forest) → forest_legal K f ≡ true → i ≤ last_version f → length (w f) ≤ length (write f))
    → Reaches src cells hi i → (f : Forest) → Tape src cells 0 hi f → length (w f) ≤ length src
reaches-short {src} {i = i} w s x f t =
    let a = x.lies.archive in
    let l : i ≤ last_version a.forest = omega (arith, a.last, x.reach) in
    rw (tape-one t a.tape) (omega (arith, s x.lies.keys a.forest a.legal l, ap length a.spelled))

-- so it is where an archive was opened
pub opened-lies : {key_text : Bytes} {table : List ℕ} {paths : ℕ} {src cells : List ℕ} {hi n : ℕ} → Tabled key_text table paths
    → ((K : KeyList) → Table key_text table paths K → ArchiveOn K src cells hi n) → Lies src cells hi n
opened-lies t x = record { keys = t.keys; archive = x t.keys t.table }

-- the steps under a key list, from the last ones
pub asked-given : (w : Forest → Bytes) (i : ℕ) {K : KeyList} {src cells : List ℕ} {hi n number size : ℕ} {out left : List ℕ} → ArchiveOn K src cells hi n
    → ((f : Forest) → Tape src cells 0 hi f → Gives (asked n i (length out) (w f)) number size out left) → Gives (asked_of w K src i (length out)) number size out left
asked-given w i {number = number} {size = size} {out = out} {left = left} a g =
    let f = a.forest in
    step_ok _ f a.is (subst (λ k. Gives (asked k i (length out) (w f)) number size out left) (sym a.last) (g f a.tape))

-- ---- the last steps: there is no version 0, and none after n (11); else 14 is left
module _ (n i : ℕ) (s : Bytes) (out : List ℕ) where
  pub asked-none : i < 1 → Gives (asked n i (length out) s) (number_of r11) 0 out out
  unfolding number_of
  asked-none l = let e : not (leb 1 i && leb i n) ≡ true = rw (lt-leb 1 i l) in test-refused _ r11 out e refl refl

  pub asked-past : 1 ≤ i → n < i → Gives (asked n i (length out) s) (number_of r11) 0 out out
  unfolding number_of
  asked-past b l = let e : not (leb 1 i && leb i n) ≡ true = rw (le-leb 1 i b, lt-leb i n l) in test-refused _ r11 out e refl refl

  pub asked-there : {number size : ℕ} {left : List ℕ} → 1 ≤ i → i ≤ n → Gives (give (length out) s) number size out left
      → Gives (asked n i (length out) s) number size out left
  asked-there b l g = let e : not (leb 1 i && leb i n) ≡ false = rw (le-leb 1 i b, le-leb i n l) in test-passed _ r11 e g
