-- Demand 3 of the code. A run: a founding that succeeds, with a table of unused entries, then adds, steps back by number or name and marks
-- set, each lent as its archive the bytes that the last unrefused add or step back left in its output, and as its table what the call
-- before left there. Of each call nothing is known but what its contract says of its exit.
use Rattle.std.specs.Prelude.{ℕ, ◌≡◌, length, take}
use Rattle.std.proofs.Math.Bool.{true, false}
use mathlib.Core.List.{List, [], ◌∷◌, ◌++◌, map}
use Rattle.std.proofs.Math.Dec.{eqb}
use seplogic.Ra.Ura.{Ura}
use base.Logic.{SProp}
use prog.Memory.{Memory}
use prog.Routine.{Routine}
use types.Logic.{Logic}
use contract.Lifetimes.{Lfts}
use contract.Monad.{Fun, fact}
use denote.Triple.Entry.{Args, Res}
use denote.Triple.Clauses.{Ended, AtExit, Clauses}
use borrow.Fn.Kinds.{ParamKind, ResultKind, Out, Dens, res_t, ended_of}
use Rattle.xml.specs.Bytes.{Bytes}
use Rattle.xml.specs.Forest.{Forest, write}
use Rattle.keys.specs.Result.{ok}
use Rattle.keys.specs.KeyList.{KeyList}
use Rattle.keys.specs.Version.{Label}
use Rattle.keys.specs.Address.{address, holds}
use Rattle.keys.specs.Alike.{EachInAnyOrder}
use Rattle.timestamp.specs.Times.{write_times}
use Rattle.marks.specs.declared.Mark.{Mark}
use Rattle.marks.specs.Marks.{Named, LegalMarks, entries, find}
use Rattle.versions.specs.Archive.{archive_of}
use Rattle.versions.specs.Calls.{Answer, Marked, FoundMark, found, add, retrieve, history, set_mark, find_mark, step_back, step_back_to_mark, version_at}
use Rattle.versions.specs.Shelf.{Call, adding, back_to, back_to_mark, marking, Lent, Shelf, shelved, versions_of, SameVersions}
use Rattle.archive.specs.Giving.{Told, ToldMarked}

-- ---- calls of the code
-- what a call was lent to write into and how many cells it worked on, what it returned, and what it left in its output
pub record Exit : Type 0 where
  pub out : List ℕ
  pub cells : ℕ
  pub number : ℕ
  pub size : ℕ
  pub left : List ℕ

-- "the output's first n bytes are the result"
abbrev pub given : Exit → Bytes
given e = take e.size e.left

-- number, length and output are those of a call's answer
abbrev pub Meets : (ℕ → ℕ → Answer) → Exit → Type 0
Meets a e = Told (a (length e.out) e.cells) e.out e.number e.size e.left

-- and the table at the exit is the one that the call leaves
abbrev pub MeetsMarked : (ℕ → ℕ → Marked) → Exit → List Mark → Type 0
MeetsMarked m e table = ToldMarked (m (length e.out) e.cells) e.out e.number e.size e.left table

-- of a call with no output: how many cells it worked on, and what it returned
pub record Return : Type 0 where
  pub cells : ℕ
  pub number : ℕ
  pub size : ℕ

abbrev pub Returns : Answer → Return → Type 0
Returns a r = (r.number ≡ a.number) × (r.size ≡ length a.bytes)

-- the exits that a contract allows: the parameters at entry, the result, the parameters at exit, and what it says of them (`Post`, which
-- Rattle reads off the contract that a function is proved to meet)
abbrev pub ExitsOf : {n : ℕ} (ps : List (ParamKind n)) (r : ResultKind n) → Out n ps r → Type 0
ExitsOf {n} ps r Post = (κs : Lfts n) × (d : Dens κs ps) × (a : (res_t r κs).Denot) × (x : AtExit (ended_of n ps r) κs) × Post κs d a x

-- of a function over a lent table of marks: what is said of an exit, and the exits of which it holds
abbrev pub Saying : Ended → Type 1
Saying T = (κs : Lfts T.signature.lifetimes) (a : Args T.signature κs) (r : Res T.signature κs) (x : AtExit T κs) → Type 0

abbrev pub WalkedExits : (T : Ended) → Saying T → Type 0
WalkedExits T Says =
    (κs : Lfts T.signature.lifetimes) × (a : Args T.signature κs) × (r : Res T.signature κs) × (x : AtExit T κs) × Says κs a r x

-- that it is what the contract says which the function is proved to meet
abbrev pub Tied : (T : Ended) → ((M : Type 1) (𝓤 : Ura M) (𝓛 : Logic 𝓤) (mem : Memory → SProp 𝓤) (run : Routine → Fun 𝓤) → Clauses 𝓤 T) → Saying T → Type 2
Tied T c Says =
    (M : Type 1) (𝓤 : Ura M) (𝓛 : Logic 𝓤) (mem : Memory → SProp 𝓤) (run : Routine → Fun 𝓤) (κs : Lfts T.signature.lifetimes) (a : Args T.signature κs)
    (g : (c M 𝓤 𝓛 mem run κs a).ghost) (r : Res T.signature κs) (x : AtExit T κs) → (c M 𝓤 𝓛 mem run κs a).ensures g r x ≡ fact 𝓤 (Says κs a r x)

-- a function of the code: its exits, the arguments that it was called with, and that its answer is the call's
pub record Function (Asked : Type 0) (answers : Asked → ℕ → ℕ → Answer) : Type 1 where
  pub At : Type 0
  pub args : At → Asked
  pub exit : At → Exit
  pub meets : (x : At) → Meets (answers (args x)) (exit x)

-- one over a table of marks that has an output: also the table at its exit
pub record Stepping (Asked : Type 0) (answers : Asked → ℕ → ℕ → Marked) : Type 1 where
  pub At : Type 0
  pub args : At → Asked
  pub exit : At → Exit
  pub table : At → List Mark
  pub meets : (x : At) → MeetsMarked (answers (args x)) (exit x) (table x)

-- one that sets a mark
pub record Setting (Asked : Type 0) (answers : Asked → ℕ → Marked) : Type 1 where
  pub At : Type 0
  pub args : At → Asked
  pub return : At → Return
  pub table : At → List Mark
  pub meets : (x : At) → Returns (answers (args x) (return x).cells).answer (return x) × (table x ≡ (answers (args x) (return x).cells).table)

-- one that finds a mark: also the version that it gives
pub record Finding (Asked : Type 0) (answers : Asked → ℕ → FoundMark) : Type 1 where
  pub At : Type 0
  pub args : At → Asked
  pub return : At → Return
  pub version : At → ℕ
  pub meets : (x : At) → Returns (answers (args x) (return x).cells).answer (return x) × (version x ≡ (answers (args x) (return x).cells).version)

-- the eight calls that give or take an archive, of the library or of the firmware; arguments: keys, then the archive, then the table where
-- one is lent, then what is asked
pub record Code : Type 1 where
  pub founds : Function (Bytes × Bytes) (λ a. found a.0 a.1)
  pub adds : Function (Bytes × Bytes × Bytes) (λ a. add a.0 a.2 a.1)
  pub backs : Stepping (Bytes × Bytes × List Mark × ℕ) (λ a. step_back a.0 a.1 a.2 a.3)
  pub names : Stepping (Bytes × Bytes × List Mark × Bytes) (λ a. step_back_to_mark a.0 a.1 a.2 a.3)
  pub marks : Setting (Bytes × Bytes × List Mark × Bytes × ℕ) (λ a. set_mark a.0 a.1 a.2 a.3 a.4)
  pub finds : Finding (Bytes × Bytes × List Mark × Bytes) (λ a. find_mark a.0 a.1 a.2 a.3)
  pub retrieves : Function (Bytes × Bytes × ℕ) (λ a. retrieve a.0 a.1 a.2)
  pub histories : Function (Bytes × Bytes × Bytes) (λ a. history a.0 a.1 a.2)

-- "lent spaces of equal lengths"
abbrev pub SameLent : Exit → Exit → Type 0
SameLent d e = (length d.out ≡ length e.out) × (d.cells ≡ e.cells)

-- "the same number, length and result"
abbrev pub SameExit : Exit → Exit → Type 0
SameExit d e = (d.number ≡ e.number) × (d.size ≡ e.size) × (given d ≡ given e)

-- the archive to hand on: "the result of the last call of the list that was not refused"
abbrev pub given_or : Bytes → Exit → Bytes
given_or archive e = elim (eqb e.number 0) [ true ↦ given e | false ↦ archive ]

-- ---- runs
module _ (C : Code) where
  -- a call of the run after the founding
  pub data Step : Type 0 where
    adds : C.adds.At → Step
    backs : C.backs.At → Step
    names : C.names.At → Step
    marks : C.marks.At → Step

  -- the number that it returned
  abbrev pub number_at : Step → ℕ
  number_at (adds x) = (C.adds.exit x).number
  number_at (backs x) = (C.backs.exit x).number
  number_at (names x) = (C.names.exit x).number
  number_at (marks x) = (C.marks.return x).number

  -- the call of Shelf.antt that it is
  abbrev pub call_of : Step → Call
  call_of (adds x) = adding (C.adds.args x).2 (length (C.adds.exit x).out) (C.adds.exit x).cells
  call_of (backs x) = back_to (C.backs.args x).3 (length (C.backs.exit x).out) (C.backs.exit x).cells
  call_of (names x) = back_to_mark (C.names.args x).3 (length (C.names.exit x).out) (C.names.exit x).cells
  call_of (marks x) = marking (C.marks.args x).3 (C.marks.args x).4 (C.marks.return x).cells

  -- called with these keys, this archive and this table
  abbrev pub CalledWith : Bytes → Lent → Step → Type 0
  CalledWith keys l (adds x) = ((C.adds.args x).0 ≡ keys) × ((C.adds.args x).1 ≡ l.archive)
  CalledWith keys l (backs x) = ((C.backs.args x).0 ≡ keys) × ((C.backs.args x).1 ≡ l.archive) × ((C.backs.args x).2 ≡ l.table)
  CalledWith keys l (names x) = ((C.names.args x).0 ≡ keys) × ((C.names.args x).1 ≡ l.archive) × ((C.names.args x).2 ≡ l.table)
  CalledWith keys l (marks x) = ((C.marks.args x).0 ≡ keys) × ((C.marks.args x).1 ≡ l.archive) × ((C.marks.args x).2 ≡ l.table)

  -- what the next call is lent: the archive, and the table as this call left it, refused or not
  abbrev pub next : Lent → Step → Lent
  next l (adds x) = record { archive = given_or l.archive (C.adds.exit x); table = l.table }
  next l (backs x) = record { archive = given_or l.archive (C.backs.exit x); table = C.backs.table x }
  next l (names x) = record { archive = given_or l.archive (C.names.exit x); table = C.names.table x }
  next l (marks x) = record { archive = l.archive; table = C.marks.table x }

  -- "Each add and step back is lent as its archive, byte for byte, the result of the last call of the list that was not refused."
  unfoldable pub Follow : Bytes → Lent → List Step → Type 0
  Follow keys l [] = Unit {0}
  Follow keys l (s ∷ ss) = CalledWith keys l s × Follow keys (next l s) ss

  -- the archive and the table after the steps
  unfoldable pub last_next : Lent → List Step → Lent
  last_next l [] = l
  last_next l (s ∷ ss) = last_next (next l s) ss

  -- adds of these texts, one after the other, none of them refused
  pub data Adds : List Bytes → List Step → Type 0 where
    no_more : Adds [] []
    and-more : {ts : List Bytes} {ss : List Step} (x : C.adds.At) → (C.adds.exit x).number ≡ 0 → Adds ts ss → Adds ((C.adds.args x).2 ∷ ts) (adds x ∷ ss)

  -- such adds, and then a step back to i that is not refused
  pub record AddsAndBack (ts : List Bytes) (i : ℕ) (ss : List Step) : Type 0 where
    pub added : List Step
    pub last : C.backs.At
    pub steps-are : ss ≡ added ++ backs last ∷ []
    pub all-added : Adds ts added
    pub back_to : (C.backs.args last).3 ≡ i
    pub not-refused : (C.backs.exit last).number ≡ 0

  module _ (keys : Bytes) where
    -- "It begins with the founding that succeeds", and a table of unused entries
    abbrev pub founded_with : C.founds.At → Lent
    founded_with x = record { archive = given (C.founds.exit x); table = entries [] }

    pub record Run : Type 0 where
      pub founding : C.founds.At
      pub under-keys : (C.founds.args founding).0 ≡ keys
      pub succeeds : (C.founds.exit founding).number ≡ 0
      pub steps : List Step
      pub follow : Follow keys (founded_with founding) steps

    -- the text that it was founded from, and the archive and the table that it leaves
    abbrev pub founded_from : Run → Bytes
    founded_from r = (C.founds.args r.founding).1

    abbrev pub lent_left : Run → Lent
    lent_left r = last_next (founded_with r.founding) r.steps

    abbrev pub archive_left : Run → Bytes
    archive_left r = (lent_left r).archive

    abbrev pub table_left : Run → List Mark
    table_left r = (lent_left r).table

    -- its shelf, fed by each call that returned 0
    unfoldable pub shelf_from : Shelf → List Step → Shelf
    shelf_from s [] = s
    shelf_from s (x ∷ xs) = shelf_from (elim (eqb (number_at x) 0) [ true ↦ shelved (call_of x) s | false ↦ s ]) xs

    abbrev pub shelf_of : Run → Shelf
    shelf_of r = shelf_from (record { texts = founded_from r ∷ []; marks = [] }) r.steps

    -- "The versions standing are the shelf's, numbered from 1."
    abbrev pub standing_of : KeyList → Run → List Forest
    standing_of K r = versions_of keys K (shelf_of r).texts

    -- ---- demand 3, of the code
    pub record RunKept (K : KeyList) (r : Run) : Type 0 where
      pub archive-kept : archive_left r ≡ write (archive_of K (standing_of K r))
      pub version-kept : (i : ℕ) (x : C.retrieves.At) → C.retrieves.args x ≡ (keys, archive_left r, i) → (C.retrieves.exit x).number ≡ 0
          → (v : Forest) × (version_at i (standing_of K r) ≡ ok v) × (given (C.retrieves.exit x) ≡ write v)
      pub history-kept : (place : Bytes) (x : C.histories.At) → C.histories.args x ≡ (keys, archive_left r, place) → (C.histories.exit x).number ≡ 0
          → (ls : List Label) × (address K place ≡ ok ls) × (given (C.histories.exit x) ≡ write_times (map (holds K [] ls) (standing_of K r)))
      -- the table is that of the shelf's marks, which are legal ones of the versions standing
      pub table_kept : table_left r ≡ entries (shelf_of r).marks
      pub marks-legal : LegalMarks (length (standing_of K r)) (shelf_of r).marks
      -- finding a mark that is not refused gives the version of the shelf's mark of that name
      pub mark-kept : (name : Bytes) (x : C.finds.At) → C.finds.args x ≡ (keys, archive_left r, table_left r, name) → (C.finds.return x).number ≡ 0
          → (k : Named) × (find name (shelf_of r).marks ≡ ok k) × (C.finds.version x ≡ k.version)
      -- "By name it must equal stepping back by that mark's number, on the shelf too"
      pub name-kept : (name : Bytes) (k : Named) (x : C.names.At) (y : C.backs.At) → find name (shelf_of r).marks ≡ ok k
          → C.names.args x ≡ (keys, archive_left r, table_left r, name) → C.backs.args y ≡ (keys, archive_left r, table_left r, k.version)
          → SameLent (C.names.exit x) (C.backs.exit y)
          → SameExit (C.names.exit x) (C.backs.exit y) × (C.names.table x ≡ C.backs.table y)
          × (shelved (call_of (names x)) (shelf_of r) ≡ shelved (call_of (backs y)) (shelf_of r))

    pub record RunsAgree (r s : Run) : Type 0 where
      pub equal-archives : archive_left r ≡ archive_left s
      pub equal-retrievals : (i : ℕ) (x y : C.retrieves.At) → C.retrieves.args x ≡ (keys, archive_left r, i) → C.retrieves.args y ≡ (keys, archive_left s, i)
          → SameLent (C.retrieves.exit x) (C.retrieves.exit y) → SameExit (C.retrieves.exit x) (C.retrieves.exit y)
      pub equal-histories : (place : Bytes) (x y : C.histories.At) → C.histories.args x ≡ (keys, archive_left r, place)
          → C.histories.args y ≡ (keys, archive_left s, place) → SameLent (C.histories.exit x) (C.histories.exit y)
          → SameExit (C.histories.exit x) (C.histories.exit y)

    -- and on their marks
    pub record RunsAgreeMarked (r s : Run) : Type 0 where
      pub agree : RunsAgree r s
      pub equal-tables : table_left r ≡ table_left s
      pub equal-findings : (name : Bytes) (x y : C.finds.At) → C.finds.args x ≡ (keys, archive_left r, table_left r, name)
          → C.finds.args y ≡ (keys, archive_left s, table_left s, name) → (C.finds.return x).cells ≡ (C.finds.return y).cells
          → ((C.finds.return x).number ≡ (C.finds.return y).number) × ((C.finds.return x).size ≡ (C.finds.return y).size)
          × (C.finds.version x ≡ C.finds.version y)

-- One claim about any run of the code's calls, and any two
pub record CodeStanding (C : Code) (keys : Bytes) (K : KeyList) : Type 0 where
  pub each-run : (r : Run C keys) → RunKept C keys K r
  -- runs with the same versions agree, whatever their marks; with the same marks as well, also on these
  pub two_runs : (r s : Run C keys) → SameVersions keys K (shelf_of C keys r).texts (shelf_of C keys s).texts → RunsAgree C keys r s
  pub two-shelves : (r s : Run C keys) → SameVersions keys K (shelf_of C keys r).texts (shelf_of C keys s).texts → (shelf_of C keys r).marks ≡ (shelf_of C keys s).marks
      → RunsAgreeMarked C keys r s
  -- "each with its keyed siblings in any order"
  pub two-orders : (r s : Run C keys) → EachInAnyOrder K (shelf_of C keys r).texts (shelf_of C keys s).texts → RunsAgree C keys r s
  -- "if no call in either is refused, a run that archives versions 1 to n and then steps back to i shares them with one that archives only
  -- the first i"
  pub stepped-back : (r s : Run C keys) (ss ts : List Bytes) (i : ℕ) → AddsAndBack C ss i r.steps → Adds C ts s.steps
      → SameVersions keys K (take i (founded_from C keys r ∷ ss)) (founded_from C keys s ∷ ts) → RunsAgreeMarked C keys r s
  -- "By name it must equal stepping back by that mark's number": lent any archive and table in which the mark is found
  pub by_name : (archive : Bytes) (table : List Mark) (name : Bytes) (x : C.finds.At) (y : C.names.At) (z : C.backs.At)
      → C.finds.args x ≡ (keys, archive, table, name) → (C.finds.return x).number ≡ 0 → (C.finds.return x).cells ≡ (C.names.exit y).cells
      → C.names.args y ≡ (keys, archive, table, name) → C.backs.args z ≡ (keys, archive, table, C.finds.version x)
      → SameLent (C.names.exit y) (C.backs.exit z)
      → SameExit (C.names.exit y) (C.backs.exit z) × (C.names.table y ≡ C.backs.table z)
