-- The calls: what each answers, for all inputs. A call is lent texts, a table of marks (Q-2), an output of `out` bytes and `work` cells.
use Rattle.std.specs.Prelude.{ℕ, zero, suc, true, false, not, ◌&&◌, ◌||◌, List, [], ◌∷◌, ◌++◌, map, eqb, leb, ltb, length, take, drop, replicate}
use Rattle.std.proofs.Math.ListN.{get_elem?}
use Rattle.xml.specs.Bytes.{Bytes}
use Rattle.keys.specs.Result.{Result, number_of, refused, ok, ◌>>=◌, ◌>>◌, refuse, or_refuse, r1, r2, r11, r13, r14}
use Rattle.xml.specs.Forest.{Forest, write, nodes}
use Rattle.keys.specs.KeyList.{KeyList, key_list}
use Rattle.keys.specs.Version.{version}
use Rattle.keys.specs.Address.{address, holds}
use Rattle.timestamp.specs.Times.{write_times}
use Rattle.timestamp.specs.Longest.{longest, longest_compute}
use Rattle.marks.specs.declared.Mark.{Mark}
use Rattle.marks.specs.Marks.{Named, entries, marks_in, legal_name, find, up_to, setting, finding, table_bytes, marks_compute}
use Rattle.versions.specs.Archive.{archive_of, archive_text, archive_compute}

-- "A success returns 0 and a length n: the output's first n bytes are the result"; "With each [refusal]: length 0"
pub record Answer : Type 0 where
  pub number : ℕ
  pub bytes : Bytes

unfoldable pub answer : Result Bytes → Answer
answer (refused n) = record { number = number_of n; bytes = [] }
answer (ok s) = record { number = 0; bytes = s }

-- 1: "work under 16,384 cells"
unfoldable pub room : ℕ → Result (Unit {0})
room work = refuse r1 (ltb work 16384)

-- 2: "key list over 4,096 bytes, version over 16,384, archive over 32,768, or address over 2,560"
unfoldable pub at_most : ℕ → Bytes → Result (Unit {0})
at_most n s = refuse r2 (ltb n (length s))

-- version i, numbered from 1; 11: "i not in 1 to n"
unfoldable pub version_at : ℕ → List Forest → Result Forest
version_at zero vs = refused r11
version_at (suc i) vs = or_refuse r11 (get_elem? vs i)

-- versions 1 to i; 11 as well
unfoldable pub versions_to : ℕ → List Forest → Result (List Forest)
versions_to i vs = refuse r11 (not (leb 1 i && leb i (length vs))) >> ok (take i vs)

-- 11: "or adding at n = 999"
unfoldable pub not_full : List Forest → Result (Unit {0})
not_full vs = refuse r11 (eqb (length vs) 999)

-- 13: "result over 1,024 nodes or 32,768 bytes"
unfoldable pub storable : Forest → Result (Unit {0})
storable f = refuse r13 (ltb 1024 (nodes f) || ltb 32768 (length (write f)))

-- 14: "output shorter than the result"
unfoldable pub give : ℕ → Bytes → Result Bytes
give out s = refuse r14 (ltb out (length s)) >> ok s

-- check a key list
unfoldable pub check_keys : (keys : Bytes) (work : ℕ) → Answer
check_keys keys work = answer (do
  room work
  at_most 4096 keys
  K ← key_list keys
  ok [])

-- found an archive from version 1
unfoldable pub found : (keys text : Bytes) (out work : ℕ) → Answer
found keys text out work = answer (do
  room work
  at_most 4096 keys
  at_most 16384 text
  K ← key_list keys
  v ← version K text
  storable (archive_of K (v ∷ []))
  give out (write (archive_of K (v ∷ []))))

-- add a version
unfoldable pub add : (keys text archive : Bytes) (out work : ℕ) → Answer
add keys text archive out work = answer (do
  room work
  at_most 4096 keys
  at_most 16384 text
  at_most 32768 archive
  K ← key_list keys
  v ← version K text
  vs ← archive_text K archive
  not_full vs
  storable (archive_of K (vs ++ v ∷ []))
  give out (write (archive_of K (vs ++ v ∷ []))))

-- retrieve version i
unfoldable pub retrieve : (keys archive : Bytes) (i out work : ℕ) → Answer
retrieve keys archive i out work = answer (do
  room work
  at_most 4096 keys
  at_most 32768 archive
  K ← key_list keys
  vs ← archive_text K archive
  v ← version_at i vs
  give out (write v))

-- give the history of an address
unfoldable pub history : (keys archive place : Bytes) (out work : ℕ) → Answer
history keys archive place out work = answer (do
  room work
  at_most 4096 keys
  at_most 32768 archive
  at_most 2560 place
  K ← key_list keys
  vs ← archive_text K archive
  ls ← address K place
  give out (write_times (map (holds K [] ls) vs)))

-- ---- the calls over a table of marks (Q-2)
-- what such a call gives: a text, and the marks held from then on
pub record Given : Type 0 where
  pub text : Bytes
  pub marks : List Named

-- its answer, and the table that it leaves: "Every refusal, of whatever number, leaves output and marks untouched."
pub record Marked : Type 0 where
  pub answer : Answer
  pub table : List Mark

unfoldable pub marked : List Mark → Result Given → Marked
marked table (refused r) = record { answer = answer (refused r); table = table }
marked table (ok g) = record { answer = answer (ok g.text); table = entries g.marks }

-- "finding also gives the version, 0 when refused"
pub record FoundMark : Type 0 where
  pub answer : Answer
  pub version : ℕ

unfoldable pub found_mark : Result Named → FoundMark
found_mark (refused r) = record { answer = answer (refused r); version = 0 }
found_mark (ok k) = record { answer = answer (ok []); version = k.version }

-- set a mark: "no output and .. length 0"
unfoldable pub set_mark : (keys archive : Bytes) (table : List Mark) (name : Bytes) (i work : ℕ) → Marked
set_mark keys archive table name i work = marked table (do
  room work
  at_most 4096 keys
  at_most 32768 archive
  K ← key_list keys
  vs ← archive_text K archive
  ks ← setting (length vs) table name i
  ok (record { text = []; marks = ks }))

-- find a mark
unfoldable pub find_mark : (keys archive : Bytes) (table : List Mark) (name : Bytes) (work : ℕ) → FoundMark
find_mark keys archive table name work = found_mark (do
  room work
  at_most 4096 keys
  at_most 32768 archive
  K ← key_list keys
  vs ← archive_text K archive
  finding (length vs) table name)

-- the archive of the versions 1 to i of vs; of the marks ks: "drops marks of later versions and keeps the others in order"
unfoldable pub earlier : KeyList → List Forest → List Named → (i out : ℕ) → Result Given
earlier K vs ks i out = do
  us ← versions_to i vs
  s ← give out (write (archive_of K us))
  ok (record { text = s; marks = up_to i ks })

-- step back to version i: "by number now takes the table too"
unfoldable pub step_back : (keys archive : Bytes) (table : List Mark) (i out work : ℕ) → Marked
step_back keys archive table i out work = marked table (do
  room work
  at_most 4096 keys
  at_most 32768 archive
  K ← key_list keys
  vs ← archive_text K archive
  ks ← marks_in (length vs) table
  earlier K vs ks i out)

-- step back to the version of a mark: "stepping back by name"
unfoldable pub step_back_to_mark : (keys archive : Bytes) (table : List Mark) (name : Bytes) (out work : ℕ) → Marked
step_back_to_mark keys archive table name out work = marked table (do
  room work
  at_most 4096 keys
  at_most 32768 archive
  K ← key_list keys
  vs ← archive_text K archive
  ks ← marks_in (length vs) table
  legal_name name
  k ← find name ks
  earlier K vs ks k.version out)

-- ---- the longest history line (Q-14)
-- "Given n from 1 to 999, a call writes a history text over versions 1 to n"; "Another n is 11."
unfoldable pub longest_history : (n out work : ℕ) → Answer
longest_history n out work = answer (do
  room work
  refuse r11 (not (leb 1 n && leb n 999))
  give out (write_times (longest n)))

-- ---- what a call leaves behind
-- "the output's first n bytes are the result, the rest keep their values"; "With each [refusal]: .. output untouched"
unfoldable pub out_after : Answer → Bytes → Bytes
out_after a out = a.bytes ++ drop (length a.bytes) out

-- "After every call the work cells are all zero, except after refusal 1, which leaves them untouched."
unfoldable pub work_after : Answer → List ℕ → List ℕ
work_after a work = elim (eqb a.number 1) [ true ↦ work | false ↦ replicate (length work) 0 ]

-- "C passes the table as 608 bytes": what a call leaves in them
unfoldable pub table_left : Marked → Bytes → Bytes
table_left m s = elim (eqb m.answer.number 0) [ true ↦ table_bytes m.table | false ↦ s ]

unfoldable pub calls_compute : Unit {0}
unfolding archive_compute marks_compute longest_compute number_of answer room at_most version_at versions_to not_full storable give check_keys found add retrieve history marked found_mark set_mark find_mark earlier step_back step_back_to_mark longest_history out_after work_after table_left
calls_compute = tt
