-- An archive's text opened: read onto the tape and judged, or refused under 10; and a law for each answer.
use Rattle.std.specs.Prelude.{Result as Tried, Ok, Err, Option, Some, None, MatchOption, ℕ, ◌≤◌, min, ◌≡◌, refl, Bool, true, false, List, length}
use Rattle.std.proofs.Common.{arith, sym, ◌∙◌, subst}
use Rattle.xml.specs.Bytes.{Bytes, same}
use Rattle.xml.specs.BytesLaws.{same-is}
use Rattle.xml.specs.Forest.{Forest, write}
use Rattle.xml.specs.Read.{Outcome, whole, broken, read}
use Rattle.xml.specs.Tape.{Tape}
use Rattle.xml.specs.State.{Overfull, Filled, Replied}
use Rattle.xml.specs.Fits.{version-fits, full-archive}
use Rattle.xml.specs.Truth.{by-test, not_so}
use Rattle.keys.specs.Result.{refused, ok, r10}
use Rattle.keys.specs.KeyList.{KeyList}
use Rattle.keys.specs.Version.{parsed}
use Rattle.keys.specs.Table.{Table}
use Rattle.versions.specs.Archive.{last_version}
use Rattle.versions.specs.Walk.{forest_legal, archive_read}
use Rattle.versions.specs.LegalWhole.{whole_last, whole-none, whole-some, legal-few, legal-named}
use Rattle.keys.specs.Meant.{row_of}
use Rattle.keys.specs.declared.refusal.Refusal.{Refusal}
use Rattle.legality.specs.declared.open.Opened.{Opened}
use Rattle.xml.specs.declared.ReadError.{ReadError}
use Rattle.xml.specs.declared.ReadError.TheVariants.{Wrong, Full}

-- the cells serve to read the text: a cell a byte always does, and 16,384 cells do, whatever the length
abbrev pub Roomy : Bytes → List ℕ → Type 0
Roomy text cells = min (length text) 16384 ≤ length cells

-- a legal archive lies on the tape
pub record ArchiveOn (K : KeyList) (src cells : List ℕ) (hi n : ℕ) : Type 0 where
  pub forest : Forest
  pub is : archive_read K src ≡ ok forest
  pub spelled : src ≡ write forest
  pub legal : forest_legal K forest ≡ true
  pub tape : Tape src cells 0 hi forest
  pub last : last_version forest ≡ n
  pub few : hi ≤ 16384

abbrev pub Opens : Bytes → List ℕ → ℕ → List ℕ → List ℕ → Tried Opened Refusal → Type 0
Opens key_text table paths src cells (Ok o) = (K : KeyList) → Table key_text table paths K → ArchiveOn K src cells o.nodes o.versions
Opens key_text table paths src cells (Err w) = (K : KeyList) → Table key_text table paths K → archive_read K src ≡ refused (row_of w)

-- a short text was read as an archive's onto the tape, whose nodes are few
pub record ReadOn (src cells : List ℕ) (hi : ℕ) : Type 0 where
  pub forest : Forest
  pub is : read true src ≡ whole forest
  pub tape : Tape src cells 0 hi forest
  pub few : hi ≤ 16384
  pub short : length src ≤ 32768

-- the number m, or none where it is 0
abbrev pub Numbered : ℕ → Option ℕ → Type 0
Numbered m r = MatchOption r (m ≡ 0) (λ n. (n ≡ m) × (1 ≤ n))

-- what is answered of the nodes 0 to hi: the last version of the legal archive that they are, if they are one
abbrev pub Judged : Bytes → List ℕ → ℕ → List ℕ → List ℕ → ℕ → Option ℕ → Type 0
Judged key_text table paths src cells hi r = (K : KeyList) → Table key_text table paths K → (f : Forest) → Tape src cells 0 hi f → Numbered (whole_last K f) r

-- ---- the reader's answer
module _ (src before cells : List ℕ) {r : Tried ℕ ReadError} where
  pub opened-read : {hi : ℕ} → r ≡ Ok hi → Replied true src before cells r → length src ≤ 32768 → ReadOn src cells hi
  opened-read {hi} e x l =
      let g : Filled true src before cells hi = subst (Replied true src before cells) e x in
      record { forest = g.forest; is = g.is; tape = g.tape; few = omega (arith, g.count, version-fits true src g.forest g.is); short = l }

-- ---- a law for each way to refuse a text, or to accept it
module _ (K : KeyList) (s : Bytes) where
  pub broken-read : {p : ℕ} → read true s ≡ broken p → archive_read K s ≡ refused r10
  unfolding archive_read parsed
  broken-read e = rw e

  module _ (f : Forest) (e : read true s ≡ whole f) where
    pub misspelled-read : same s (write f) ≡ false → archive_read K s ≡ refused r10
    unfolding archive_read parsed
    misspelled-read d = rw (e, d)

    pub illegal-read : forest_legal K f ≡ false → archive_read K s ≡ refused r10
    unfolding archive_read parsed
    illegal-read l = by-test (same s (write f)) (λ d. rw (e, d, l)) (λ d. misspelled-read d)

    pub legal-read : same s (write f) ≡ true → forest_legal K f ≡ true → archive_read K s ≡ ok f
    unfolding archive_read parsed
    legal-read d l = rw (e, d, l)

  -- a legal archive fits into the work cells
  full-read : (cells : List ℕ) → Overfull true s cells → Roomy s cells → length s ≤ 32768 → archive_read K s ≡ refused r10
  full-read cells o c l = at (read true s) refl
    where
      at : (x : Outcome) → read true s ≡ x → archive_read K s ≡ refused r10
      at (broken p) e = broken-read e
      at (whole f) e =
          illegal-read f e (not_so (forest_legal K f) (λ h. omega (arith, full-archive s cells f o (omega (arith, o.0)) l e (legal-named K f h), legal-few K f h)))

-- the reader's refusals
pub opened-refused : (src before cells : List ℕ) {r : Tried ℕ ReadError} (e : ReadError) → r ≡ Err e → Replied true src before cells r → Roomy src cells → length src ≤ 32768
    → (K : KeyList) → archive_read K src ≡ refused r10
opened-refused src before cells (Wrong p) e x c l K = broken-read K src (subst (Replied true src before cells) e x)
opened-refused src before cells Full e x c l K = full-read K src cells (subst (Replied true src before cells) e x) c l

-- ---- what is judged of a text that was read
module _ {key_text : Bytes} {table : List ℕ} {paths : ℕ} {src cells : List ℕ} {hi : ℕ} (g : ReadOn src cells hi) {b : Bool} (d : b ≡ same src (write g.forest)) where
  pub judged-misspelled : b ≡ false → (K : KeyList) → Table key_text table paths K → archive_read K src ≡ refused r10
  judged-misspelled e K t = misspelled-read K src g.forest g.is (sym d ∙ e)

  pub judged-legal : {n : ℕ} → Judged key_text table paths src cells hi (Some n) → b ≡ true → (K : KeyList) → Table key_text table paths K → ArchiveOn K src cells hi n
  judged-legal {n} j e K t =
      let w : n ≡ whole_last K g.forest = (j K t g.forest g.tape).0 in
      let some-version : 1 ≤ n = (j K t g.forest g.tape).1 in
      let h = whole-some K g.forest (λ y. absurd (omega (arith, w, y, some-version))) in
      record {
        forest = g.forest;
        is = legal-read K src g.forest g.is (sym d ∙ e) h.0;
        spelled = same-is src (write g.forest) (sym d ∙ e);
        legal = h.0;
        tape = g.tape;
        last = sym (w ∙ h.1);
        few = g.few;
      }

pub judged-illegal : {key_text : Bytes} {table : List ℕ} {paths : ℕ} {src cells : List ℕ} {hi : ℕ} → ReadOn src cells hi → Judged key_text table paths src cells hi None
    → (K : KeyList) → Table key_text table paths K → archive_read K src ≡ refused r10
judged-illegal {src = src} g j K t = illegal-read K src g.forest g.is (whole-none K g.forest (j K t g.forest g.tape))
