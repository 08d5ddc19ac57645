-- Worked samples of Q-2, computed: what is asked of a table, and the answer.
use Rattle.std.specs.Prelude.{ℕ, zero, suc, ◌+◌, ◌-◌, ◌/◌, ◌%◌, ◌≡◌, refl, List, [], ◌∷◌, ◌++◌, map, length, set, take, replicate}
use Rattle.keys.specs.Result.{Result, refused, ok, r11, r15, r16, r17}
use Rattle.xml.specs.Bytes.{Bytes, bytes}
use Rattle.marks.specs.declared.Mark.{Mark}
use Rattle.marks.specs.Marks.{Named, entry, entries, unused, marks_in, setting, finding, dropping, table_bytes, table_in, marks_compute}

-- three marks of an archive of 5 versions
abbrev a : Named
a = record { name = bytes "as-commissioned"; version = 2 }

abbrev b : Named
b = record { name = bytes "B.2_sixteen-long"; version = 5 }

abbrev c : Named
c = record { name = bytes "c"; version = 1 }

-- 32 marks: `c` and names of digits
abbrev digits : ℕ → List Named
digits zero = []
digits (suc k) = record { name = (48 + k / 10) ∷ (48 + k % 10) ∷ []; version = 1 } ∷ digits k

abbrev full : List Named
full = c ∷ digits 31

-- setting
abbrev settings : List (Result (List Named) × Result (List Named))
settings =
    (setting 5 (entries []) a.name 2, ok (a ∷ [])) ∷
    (setting 5 (entries (a ∷ c ∷ [])) b.name 5, ok (a ∷ c ∷ b ∷ [])) ∷
    (setting 5 (entries (digits 31)) c.name 1, ok (digits 31 ++ c ∷ [])) ∷
    -- 15: a name illegal, already held; before 16 and 11
    (setting 5 (entries (a ∷ [])) [] 1, refused r15) ∷
    (setting 5 (entries (a ∷ [])) (bytes "as commissioned") 1, refused r15) ∷
    (setting 5 (entries (a ∷ [])) (bytes "seventeen-letters") 1, refused r15) ∷
    (setting 5 (entries (a ∷ [])) a.name 1, refused r15) ∷
    (setting 5 (entries full) c.name 6, refused r15) ∷
    -- 16: 32 are held; before 11
    (setting 5 (entries full) a.name 1, refused r16) ∷
    (setting 5 (entries full) a.name 6, refused r16) ∷
    -- 11: a version outside 1 to n
    (setting 5 (entries (a ∷ [])) b.name 0, refused r11) ∷
    (setting 5 (entries (a ∷ [])) b.name 6, refused r11) ∷
    -- 17 before all
    (setting 5 [] [] 0, refused r17) ∷
    -- stepping back drops marks of later versions and keeps the others in order
    (dropping 5 (entries (a ∷ b ∷ c ∷ [])) 5, ok (a ∷ b ∷ c ∷ [])) ∷
    (dropping 5 (entries (a ∷ b ∷ c ∷ [])) 2, ok (a ∷ c ∷ [])) ∷
    (dropping 5 (entries (a ∷ b ∷ c ∷ [])) 0, ok []) ∷ []

pub set-samples : map (λ r. r.0) settings ≡ map (λ r. r.1) settings
unfolding marks_compute
set-samples = refl

-- finding; 15 before nothing but 17
abbrev findings : List (Result Named × Result Named)
findings =
    (finding 5 (entries (a ∷ b ∷ c ∷ [])) b.name, ok b) ∷
    (finding 5 (entries full) c.name, ok c) ∷
    (finding 5 (entries (a ∷ c ∷ [])) b.name, refused r15) ∷
    (finding 5 (entries (a ∷ c ∷ [])) (bytes "as"), refused r15) ∷
    (finding 5 (entries (a ∷ c ∷ [])) [], refused r15) ∷
    (finding 1 (entries (a ∷ c ∷ [])) c.name, refused r17) ∷ []

pub find-samples : map (λ r. r.0) findings ≡ map (λ r. r.1) findings
unfolding marks_compute
find-samples = refl

-- the table of `a` and `c`, with another entry in the place of one
abbrev with : ℕ → Mark → List Mark
with i m = set (entries (a ∷ c ∷ [])) i m

-- the entry of `c`, with bytes for its name, a length and a version
abbrev odd : Bytes → ℕ → ℕ → Mark
odd s k v = record { name = s ++ replicate (16 - length s) 0; len = k; version = v }

-- 17, clause by clause
abbrev tables : List (Result (List Named) × Result (List Named))
tables =
    (marks_in 5 (entries (a ∷ c ∷ [])), ok (a ∷ c ∷ [])) ∷
    (marks_in 5 (with 2 (entry b)), ok (a ∷ c ∷ b ∷ [])) ∷
    -- not of 32 entries
    (marks_in 5 (take 31 (entries (a ∷ c ∷ []))), refused r17) ∷
    (marks_in 5 (entries (a ∷ c ∷ []) ++ unused ∷ []), refused r17) ∷
    -- a name of 0 or 17 bytes, not of the alphabet, twice; a byte past it
    (marks_in 5 (with 0 (odd [] 0 1)), refused r17) ∷
    (marks_in 5 (with 0 (odd (bytes "c") 17 1)), refused r17) ∷
    (marks_in 5 (with 0 (odd (bytes "a b") 3 1)), refused r17) ∷
    (marks_in 5 (with 0 (entry c)), refused r17) ∷
    (marks_in 5 (with 0 (odd (bytes "cd") 1 1)), refused r17) ∷
    -- a version outside 1 to n
    (marks_in 5 (with 0 (odd (bytes "d") 1 0)), refused r17) ∷
    (marks_in 5 (with 0 (odd (bytes "d") 1 6)), refused r17) ∷
    -- a gap; an unused entry that is not all zero
    (marks_in 5 (with 0 unused), refused r17) ∷
    (marks_in 5 (with 3 (entry b)), refused r17) ∷
    (marks_in 5 (with 31 (odd (bytes "d") 0 0)), refused r17) ∷
    (marks_in 5 (with 31 (odd [] 0 1)), refused r17) ∷
    -- 608 bytes and back; 607 and 609 bytes
    (marks_in 5 (table_in (table_bytes (entries (a ∷ c ∷ [])))), ok (a ∷ c ∷ [])) ∷
    (marks_in 5 (table_in (take 607 (table_bytes (entries (a ∷ c ∷ []))))), refused r17) ∷
    (marks_in 5 (table_in (table_bytes (entries (a ∷ c ∷ [])) ++ 0 ∷ [])), refused r17) ∷ []

pub table-samples : map (λ r. r.0) tables ≡ map (λ r. r.1) tables
unfolding marks_compute
table-samples = refl

-- the bytes of an entry: 16 of name, the length, version 258 with its low byte first
pub byte-sample : take 38 (table_bytes (entries (a ∷ record { name = bytes "d"; version = 258 } ∷ []))) ≡ bytes "as-commissioned" ++ 0 ∷ 15 ∷ 2 ∷ 0 ∷ bytes "d" ++ replicate 15 0 ++ 1 ∷ 2 ∷ 1 ∷ []
unfolding marks_compute
byte-sample = refl

pub back-sample : table_in (table_bytes (entries full)) ≡ entries full
unfolding marks_compute
back-sample = refl
