-- Q-2, "Named versions to come back to": what a mark and a lent table are, and what the calls do with them. Read it beside document 02.
use Rattle.std.specs.Prelude.{ℕ, zero, suc, ◌+◌, ◌-◌, ◌*◌, ◌/◌, ◌%◌, ◌≤◌, ◌≡◌, Bool, true, false, not, ◌&&◌, List, [], ◌∷◌, ◌++◌, map, eqb, leb, length, take, drop, replicate, get_or}
use Rattle.xml.specs.Bytes.{Bytes, any, all, keep, distinct, same_by, same, is_name_byte, bytes_compute}
use Rattle.marks.specs.declared.Mark.{Mark}
use Rattle.keys.specs.Result.{Result, refused, ok, ◌>>=◌, ◌>>◌, refuse, number_of, r11, r15, r16, r17}

-- ---- a mark: "a name .. and a version"
pub record Named : Type 0 where
  pub name : Bytes
  pub version : ℕ

-- "a name (1 to 16 bytes of the key value alphabet ..)"
unfoldable pub is_mark_name : Bytes → Bool
is_mark_name s = leb 1 (length s) && (leb (length s) 16 && all is_name_byte s)

-- "a version (1 to n)"
unfoldable pub in_range : ℕ → ℕ → Bool
in_range n v = leb 1 v && leb v n

unfoldable pub is_mark : ℕ → Named → Bool
is_mark n k = is_mark_name k.name && in_range n k.version

-- ---- the table: 32 entries, each of 16 bytes, the length of the name and the version
-- the entry of a mark: "bytes past a name are zero"
unfoldable pub entry : Named → Mark
entry k = record { name = k.name ++ replicate (16 - length k.name) 0; len = length k.name; version = k.version }

-- "unused entries .., all zero"
abbrev pub unused : Mark
unused = record { name = replicate 16 0; len = 0; version = 0 }

-- the table that holds marks, "in order of setting .. and unused entries follow"
unfoldable pub entries : List Named → List Mark
entries ks = map entry ks ++ replicate (32 - length ks) unused

-- marks that a table may hold, of an archive of n versions: 32 at most, each legal, "none twice"
abbrev pub names : List Named → List Bytes
names ks = map (λ k. k.name) ks

pub record LegalMarks (n : ℕ) (ks : List Named) : Type 0 where
  pub few : length ks ≤ 32
  pub good : all (is_mark n) ks ≡ true
  pub once : distinct same (names ks) ≡ true

-- ---- "17, a lent table not of 32 entries or that breaks these rules"
-- what an entry holds: a name of as many bytes as it says, and a version
abbrev pub name_of : Mark → Bytes
name_of m = take m.len m.name

abbrev pub named : Mark → Named
named m = record { name = name_of m; version = m.version }

-- the marks that a table holds: those before its first entry of length 0
unfoldable pub held : List Mark → List Named
held [] = []
held (m ∷ ms) = elim (eqb m.len 0) [ true ↦ [] | false ↦ named m ∷ held ms ]

unfoldable pub same_mark : Mark → Mark → Bool
same_mark a b = same a.name b.name && (eqb a.len b.len && eqb a.version b.version)

-- 32 entries; the marks held are legal, "none twice"; and the table is the one that holds these marks
unfoldable pub is_table : ℕ → List Mark → Bool
is_table n ms = eqb (length ms) 32 && (all (is_mark n) (held ms) && (distinct same (names (held ms)) && same_by same_mark ms (entries (held ms))))

-- the marks of a table that is lent with an archive of n versions, or 17
unfoldable pub marks_in : ℕ → List Mark → Result (List Named)
marks_in n ms = refuse r17 (not (is_table n ms)) >> ok (held ms)

-- ---- the other refusals
-- "15, a name illegal, ..
unfoldable pub legal_name : Bytes → Result (Unit {0})
legal_name s = refuse r15 (not (is_mark_name s))

-- .. already held when setting, ..
unfoldable pub not_held : Bytes → List Named → Result (Unit {0})
not_held s ks = refuse r15 (any (λ k. same s k.name) ks)

-- .. or not held when using": else the mark of that name
unfoldable pub find : Bytes → List Named → Result Named
find s [] = refused r15
find s (k ∷ ks) = elim (same s k.name) [ true ↦ ok k | false ↦ find s ks ]

-- "16, setting when 32 are held"
unfoldable pub not_full : List Named → Result (Unit {0})
not_full ks = refuse r16 (eqb (length ks) 32)

-- "setting a version outside 1 to n is 11"
unfoldable pub standing : ℕ → ℕ → Result (Unit {0})
standing n v = refuse r11 (not (in_range n v))

-- ---- setting, finding, dropping: "tried after 10 in the order 17, 15, 16", and 11 last
unfoldable pub setting : (n : ℕ) (marks : List Mark) (name : Bytes) (v : ℕ) → Result (List Named)
setting n marks name v = do
  ks ← marks_in n marks
  legal_name name
  not_held name ks
  not_full ks
  standing n v
  ok (ks ++ record { name = name; version = v } ∷ [])

unfoldable pub finding : (n : ℕ) (marks : List Mark) (name : Bytes) → Result Named
finding n marks name = do
  ks ← marks_in n marks
  legal_name name
  find name ks

-- "Stepping back, by name or number, drops marks of later versions and keeps the others in order."
unfoldable pub up_to : ℕ → List Named → List Named
up_to i ks = keep (λ k. leb k.version i) ks

unfoldable pub dropping : (n : ℕ) (marks : List Mark) (i : ℕ) → Result (List Named)
dropping n marks i = do
  ks ← marks_in n marks
  ok (up_to i ks)

-- ---- what a call leaves in the table: "Every refusal, of whatever number, leaves output and marks untouched."
unfoldable pub marks_after : Result (List Named) → List Mark → List Mark
marks_after (refused r) marks = marks
marks_after (ok ks) marks = entries ks

-- and the number that it returns
unfoldable pub number : {A : Type 0} → Result A → ℕ
number (refused r) = number_of r
number (ok a) = 0

-- ---- "C passes the table as 608 bytes: per entry 16 of name, one of its length, two of version, low byte first."
unfoldable pub entry_bytes : Mark → Bytes
entry_bytes m = m.name ++ m.len ∷ m.version % 256 ∷ m.version / 256 ∷ []

unfoldable pub table_bytes : List Mark → Bytes
table_bytes [] = []
table_bytes (m ∷ ms) = entry_bytes m ++ table_bytes ms

-- and back: the entry in 19 bytes, and the table in 608; bytes of another number pass no entry, so that 17 follows
unfoldable pub mark_of : Bytes → Mark
mark_of s = record { name = take 16 s; len = get_or s 16 0; version = get_or s 17 0 + 256 * get_or s 18 0 }

unfoldable pub marks_from : ℕ → Bytes → List Mark
marks_from zero s = []
marks_from (suc k) s = mark_of s ∷ marks_from k (drop 19 s)

unfoldable pub table_in : Bytes → List Mark
table_in s = elim (eqb (length s) 608) [ true ↦ marks_from 32 s | false ↦ [] ]

-- everything above computes where this is named on an `unfolding` line
unfoldable pub marks_compute : Unit {0}
unfolding bytes_compute number_of is_mark_name in_range is_mark entry entries held same_mark is_table marks_in legal_name not_held find not_full standing setting finding up_to dropping marks_after number entry_bytes table_bytes mark_of marks_from table_in
marks_compute = tt
