-- "The versions standing": the shelf, the archive and the table of marks that the calls hand on, and demand 3 as one statement.
use Rattle.std.specs.Prelude.{ℕ, ◌≡◌, true, false, List, [], ◌∷◌, ◌++◌, map, eqb, length, take}
use Rattle.xml.specs.Bytes.{Bytes}
use Rattle.keys.specs.Result.{Result, refused, ok}
use Rattle.xml.specs.Forest.{Forest, write}
use Rattle.keys.specs.KeyList.{KeyList}
use Rattle.keys.specs.Version.{Label, version}
use Rattle.keys.specs.Alike.{AnyOrder, EachInAnyOrder}
use Rattle.keys.specs.Address.{address, holds}
use Rattle.timestamp.specs.Times.{write_times}
use Rattle.marks.specs.declared.Mark.{Mark}
use Rattle.marks.specs.Marks.{Named, LegalMarks, entries, find, up_to}
use Rattle.versions.specs.Archive.{archive_of}
use Rattle.versions.specs.Calls.{Answer, Marked, FoundMark, found, add, retrieve, history, set_mark, find_mark, step_back, step_back_to_mark, version_at, calls_compute}

-- a call of the list: its arguments "except the archive" and the table
pub data Call : Type 0 where
  adding : (text : Bytes) (out work : ℕ) → Call
  back_to : (i out work : ℕ) → Call
  back_to_mark : (name : Bytes) (out work : ℕ) → Call
  marking : (name : Bytes) (i work : ℕ) → Call

-- the first call of a list that is not refused: "the founding that succeeds"
pub record Founding : Type 0 where
  pub text : Bytes
  pub out : ℕ
  pub work : ℕ

-- what a call of the list is lent
pub record Lent : Type 0 where
  pub archive : Bytes
  pub table : List Mark

-- the shelf: "a plain list of received versions", and the marks on it "in order of setting"
pub record Shelf : Type 0 where
  pub texts : List Bytes
  pub marks : List Named

-- "A step back to i keeps the first i and drops the rest"; it "drops marks of later versions and keeps the others in order"
unfoldable pub shelved_to : ℕ → Shelf → Shelf
shelved_to i s = record { texts = take i s.texts; marks = up_to i s.marks }

-- "By name it must equal stepping back by that mark's number, on the shelf too"
unfoldable pub shelved_at : Result Named → Shelf → Shelf
shelved_at (refused r) s = s
shelved_at (ok k) s = shelved_to k.version s

-- "An add puts the version received at the end." A mark that is set comes last, "in order of setting".
unfoldable pub shelved : Call → Shelf → Shelf
shelved (adding text out work) s = record { texts = s.texts ++ text ∷ []; marks = s.marks }
shelved (back_to i out work) s = shelved_to i s
shelved (back_to_mark name out work) s = shelved_at (find name s.marks) s
shelved (marking name i work) s = record { texts = s.texts; marks = s.marks ++ record { name = name; version = i } ∷ [] }

-- the archive to hand on: "the result of the last call of the list that was not refused", where setting a mark has none
abbrev pub last_result : Bytes → Answer → Bytes
last_result archive a = elim (eqb a.number 0) [ true ↦ a.bytes | false ↦ archive ]

unfoldable pub archive_after : Bytes → Call → Answer → Bytes
archive_after archive (adding text out work) a = last_result archive a
archive_after archive (back_to i out work) a = last_result archive a
archive_after archive (back_to_mark name out work) a = last_result archive a
archive_after archive (marking name i work) a = archive

module _ (keys : Bytes) where
  -- ---- the calls: each is lent the result of the last one that was not refused, and the table as the last one left it
  unfoldable pub call : Lent → Call → Marked
  call l (adding text out work) = record { answer = add keys text l.archive out work; table = l.table }
  call l (back_to i out work) = step_back keys l.archive l.table i out work
  call l (back_to_mark name out work) = step_back_to_mark keys l.archive l.table name out work
  call l (marking name i work) = set_mark keys l.archive l.table name i work

  unfoldable pub hand_on : Lent → Call → Lent
  hand_on l c = record { archive = archive_after l.archive c (call l c).answer; table = (call l c).table }

  unfoldable pub last_lent : Lent → List Call → Lent
  last_lent l [] = l
  last_lent l (c ∷ cs) = last_lent (hand_on l c) cs

  -- ---- the shelf's versions, archive and table
  -- the versions of the texts received: each was legal when it was put there
  unfoldable pub versions_of : KeyList → List Bytes → List Forest
  versions_of K [] = []
  versions_of K (s ∷ ss) = elim (version K s) [ refused n ↦ versions_of K ss | ok v ↦ v ∷ versions_of K ss ]

  -- "the written archive of the shelf's versions"
  unfoldable pub archive_of_shelf : KeyList → List Bytes → Bytes
  archive_of_shelf K texts = write (archive_of K (versions_of K texts))

  unfoldable pub lent_of_shelf : KeyList → Shelf → Lent
  lent_of_shelf K s = record { archive = archive_of_shelf K s.texts; table = entries s.marks }

  -- "Which calls are refused, the table below decides, with the written archive of the shelf's versions as the one lent. ..
  -- A refused call changes nothing."
  unfoldable pub shelf_after : KeyList → Shelf → List Call → Shelf
  shelf_after K s [] = s
  shelf_after K s (c ∷ cs) =
      elim (eqb (call (lent_of_shelf K s) c).answer.number 0) [ true ↦ shelf_after K (shelved c s) cs | false ↦ shelf_after K s cs ]

  -- a list of calls: the founding, with a table of unused entries, and what comes after it. What it hands on, its shelf, and the versions
  -- standing.
  unfoldable pub founded_lent : Founding → Lent
  founded_lent f = record { archive = (found keys f.text f.out f.work).bytes; table = entries [] }

  unfoldable pub result : Founding → List Call → Lent
  result f cs = last_lent (founded_lent f) cs

  -- "It begins with the founding that succeeds, and holds that version alone."
  unfoldable pub founded_shelf : Founding → Shelf
  founded_shelf f = record { texts = f.text ∷ []; marks = [] }

  unfoldable pub shelf_of : KeyList → Founding → List Call → Shelf
  shelf_of K f cs = shelf_after K (founded_shelf f) cs

  abbrev pub shelf_texts : KeyList → Founding → List Call → List Bytes
  shelf_texts K f cs = (shelf_of K f cs).texts

  abbrev pub shelf_marks : KeyList → Founding → List Call → List Named
  shelf_marks K f cs = (shelf_of K f cs).marks

  unfoldable pub standing : KeyList → Founding → List Call → List Forest
  standing K f cs = versions_of K (shelf_texts K f cs)

  -- a mark looked for in what the list hands on
  abbrev pub looked_for : Founding → List Call → (name : Bytes) (work : ℕ) → FoundMark
  looked_for f cs name work = find_mark keys (result f cs).archive (result f cs).table name work

  -- ---- demand 3
  -- of one list, under the key list K
  pub record Kept (K : KeyList) (f : Founding) (cs : List Call) : Type 0 where
    -- "the result of its last unrefused call is the archive of the shelf's versions"
    pub archive-kept : (result f cs).archive ≡ write (archive_of K (standing K f cs))
    -- "a retrieval of i that is not refused gives the written form of the shelf's version i"
    pub version-kept : (i out work : ℕ) → (retrieve keys (result f cs).archive i out work).number ≡ 0
        → (v : Forest) × (version_at i (standing K f cs) ≡ ok v) × ((retrieve keys (result f cs).archive i out work).bytes ≡ write v)
    -- "a history that is not refused gives the text of the set of numbers whose versions on the shelf hold the address"
    pub history-kept : (place : Bytes) (out work : ℕ) → (history keys (result f cs).archive place out work).number ≡ 0
        → (ls : List Label) × (address K place ≡ ok ls)
        × ((history keys (result f cs).archive place out work).bytes ≡ write_times (map (holds K [] ls) (standing K f cs)))
    -- the table is that of the shelf's marks, which are legal ones of the versions standing
    pub table_kept : (result f cs).table ≡ entries (shelf_marks K f cs)
    pub marks-legal : LegalMarks (length (standing K f cs)) (shelf_marks K f cs)
    -- finding a mark that is not refused gives the version of the shelf's mark of that name
    pub mark-kept : (name : Bytes) (work : ℕ) → (looked_for f cs name work).answer.number ≡ 0
        → (k : Named) × (find name (shelf_marks K f cs) ≡ ok k) × ((looked_for f cs name work).version ≡ k.version)
    -- "By name it must equal stepping back by that mark's number, on the shelf too": what is returned and left, what it does to the shelf,
    -- and, whatever calls follow, what is handed on and the shelf
    pub name-kept : (name : Bytes) (k : Named) (out work : ℕ) (ds : List Call) → find name (shelf_marks K f cs) ≡ ok k
        → (call (result f cs) (back_to_mark name out work) ≡ call (result f cs) (back_to k.version out work))
        × (shelved (back_to_mark name out work) (shelf_of K f cs) ≡ shelved (back_to k.version out work) (shelf_of K f cs))
        × (result f (cs ++ back_to_mark name out work ∷ ds) ≡ result f (cs ++ back_to k.version out work ∷ ds))
        × (shelf_of K f (cs ++ back_to_mark name out work ∷ ds) ≡ shelf_of K f (cs ++ back_to k.version out work ∷ ds))

  -- texts of "as many versions, and the same ones number by number"; "Two versions are the same here if their written forms are equal."
  abbrev pub SameVersions : KeyList → List Bytes → List Bytes → Type 0
  SameVersions K ss ts = map write (versions_of K ss) ≡ map write (versions_of K ts)

  -- "If the shelves of two lists under the same key list have as many versions, and the same ones number by number", and the same marks
  abbrev pub SameShelf : KeyList → Founding → List Call → Founding → List Call → Type 0
  SameShelf K f cs g ds = SameVersions K (shelf_texts K f cs) (shelf_texts K g ds) × (shelf_marks K f cs ≡ shelf_marks K g ds)

  -- of two lists
  pub record Agree (f : Founding) (cs : List Call) (g : Founding) (ds : List Call) : Type 0 where
    -- "the two archives have equal bytes"
    pub equal-archives : (result f cs).archive ≡ (result g ds).archive
    -- "One retrieval or history asked of both .. returns the same number, length and result."
    pub equal-retrievals : (i out work : ℕ) → retrieve keys (result f cs).archive i out work ≡ retrieve keys (result g ds).archive i out work
    pub equal-histories : (place : Bytes) (out work : ℕ) → history keys (result f cs).archive place out work ≡ history keys (result g ds).archive place out work

  -- and of their marks
  pub record AgreeMarked (f : Founding) (cs : List Call) (g : Founding) (ds : List Call) : Type 0 where
    pub agree : Agree f cs g ds
    pub equal-tables : (result f cs).table ≡ (result g ds).table
    pub equal-findings : (name : Bytes) (work : ℕ) → looked_for f cs name work ≡ looked_for g ds name work

  abbrev pub Founded : Founding → Type 0
  Founded f = (found keys f.text f.out f.work).number ≡ 0

  -- "no call .. is refused": each returns 0, lent what the one before handed on
  unfoldable pub Unrefused : Lent → List Call → Type 0
  Unrefused l [] = Unit {0}
  Unrefused l (c ∷ cs) = ((call l c).answer.number ≡ 0) × Unrefused (hand_on l c) cs

  abbrev pub NoneRefused : Founding → List Call → Type 0
  NoneRefused f cs = Founded f × Unrefused (founded_lent f) cs

-- "archives versions": the calls are adds of these texts, one after the other
pub data Adds : List Bytes → List Call → Type 0 where
  no_more : Adds [] []
  and-more : {s : Bytes} {ss : List Bytes} {cs : List Call} {out work : ℕ} → Adds ss cs → Adds (s ∷ ss) (adding s out work ∷ cs)

-- Demand 3: "a single claim about the list of calls, and not one for each call"
pub record VersionsStanding (keys : Bytes) (K : KeyList) : Type 0 where
  pub each-list : (f : Founding) (cs : List Call) → Founded keys f → Kept keys K f cs
  -- lists with the same versions agree, whatever their marks; with the same marks as well, also on these
  pub two-lists : (f g : Founding) (cs ds : List Call) → Founded keys f → Founded keys g → SameVersions keys K (shelf_texts keys K f cs) (shelf_texts keys K g ds)
      → Agree keys f cs g ds
  pub two-shelves : (f g : Founding) (cs ds : List Call) → Founded keys f → Founded keys g → SameShelf keys K f cs g ds → AgreeMarked keys f cs g ds
  -- "each with its keyed siblings in any order": such a text is received as the same version, or refused under the same number
  pub any_order : (s t : Bytes) → AnyOrder K s t → version K s ≡ version K t
  -- so texts of which this holds number by number are of the same versions, and lists with such shelves agree
  pub same-orders : (ss ts : List Bytes) → EachInAnyOrder K ss ts → SameVersions keys K ss ts
  pub two-orders : (f g : Founding) (cs ds : List Call) → Founded keys f → Founded keys g → EachInAnyOrder K (shelf_texts keys K f cs) (shelf_texts keys K g ds)
      → Agree keys f cs g ds
  -- "if no call in either is refused, a run that archives versions 1 to n and then steps back to i shares them with one that archives only
  -- the first i"
  pub stepped-back : (f g : Founding) (ss ts : List Bytes) (cs ds : List Call) (i out work : ℕ) → Adds ss cs → Adds ts ds
      → NoneRefused keys f (cs ++ back_to i out work ∷ []) → NoneRefused keys g ds → SameVersions keys K (take i (f.text ∷ ss)) (g.text ∷ ts)
      → AgreeMarked keys f (cs ++ back_to i out work ∷ []) g ds
  -- "By name it must equal stepping back by that mark's number": of every archive and table. Where the mark is not found, stepping back to
  -- it is refused under the same number, and the table stays
  pub by_name : (archive : Bytes) (table : List Mark) (name : Bytes) (v out work : ℕ) → (find_mark keys archive table name work).answer.number ≡ 0
      → (find_mark keys archive table name work).version ≡ v → step_back_to_mark keys archive table name out work ≡ step_back keys archive table v out work
  pub by-no-name : (archive : Bytes) (table : List Mark) (name : Bytes) (out work : ℕ) → ((find_mark keys archive table name work).answer.number ≡ 0 → ⊥)
      → step_back_to_mark keys archive table name out work ≡ record { answer = (find_mark keys archive table name work).answer; table = table }

unfoldable pub shelf_compute : Unit {0}
unfolding calls_compute shelved_to shelved_at shelved archive_after call hand_on last_lent versions_of archive_of_shelf lent_of_shelf shelf_after founded_lent result founded_shelf shelf_of standing
shelf_compute = tt
