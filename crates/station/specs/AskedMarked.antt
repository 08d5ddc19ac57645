-- What is asked over a table of marks, and what is told of it.
use Rattle.std.specs.Prelude.{ℕ, ◌≡◌, refl, Bool, true, false, List, [], ◌∷◌, ◌++◌, eqb, length, drop, Result as Tried}
use Rattle.std.proofs.Common.{arith, sym, ◌∙◌, ap, subst, eqb-true, ne_eqb}
use Rattle.xml.specs.Bytes.{Bytes}
use Rattle.keys.specs.Result.{Result, refused, ok}
use Rattle.marks.specs.declared.Mark.{Mark}
use Rattle.marks.specs.declared.Table.{Table}
use Rattle.keys.specs.Meant.{number_in, length_in}
use Rattle.keys.specs.declared.refusal.Refusal.{Refusal}
use Rattle.marks.specs.Marks.{Named}
use Rattle.versions.specs.Calls.{Answer, answer, Marked, FoundMark, found_mark, set_mark, find_mark, step_back, step_back_to_mark, out_after, work_after}
use Rattle.archive.specs.declared.by_value.Marked.{Marked as MarkedTable}
use Rattle.archive.specs.Giving.{Ends}
use Rattle.archive.specs.MarkCalls.{SetEnds, FindEnds, BackEnds, NamedEnds}
use Rattle.station.specs.declared.ask.Told.{Told}
use Rattle.station.specs.declared.words.MarkCall.{MarkCall}
use Rattle.station.specs.declared.words.MarkCall.TheVariants.{Set, Find, List as Listed, Back, BackToMark}

-- an answer, the version found, and the table left
pub record Asked : Type 0 where
  pub answer : Answer
  pub version : ℕ
  pub table : List Mark

abbrev changing : Marked → Asked
changing m = record { answer = m.answer; version = 0; table = m.table }

abbrev keeping : FoundMark → List Mark → Asked
keeping f table = record { answer = f.answer; version = f.version; table = table }

-- the marks of a table are listed where finding the empty name, which is no mark's, is refused with 15: for nothing else
abbrev but15 : Bool → ℕ → ℕ
but15 true n = 0
but15 false n = n

abbrev pub list_number : ℕ → ℕ
list_number n = but15 (eqb n 15) n

abbrev listing : FoundMark → Answer
listing f = record { number = list_number f.answer.number; bytes = [] }

-- what is told of each call, with an output of `out` bytes and `work` cells
abbrev pub asked_marked : MarkCall → (keys archive : Bytes) (table : List Mark) (name : Bytes) (i out work : ℕ) → Asked
asked_marked Set keys archive table name i out work = changing (set_mark keys archive table name i work)
asked_marked Find keys archive table name i out work = keeping (find_mark keys archive table name work) table
asked_marked Listed keys archive table name i out work = record { answer = listing (find_mark keys archive table [] work); version = 0; table = table }
asked_marked Back keys archive table name i out work = changing (step_back keys archive table i out work)
asked_marked BackToMark keys archive table name i out work = changing (step_back_to_mark keys archive table name out work)

-- what is told, the output and the work cells at the exit are those of a
pub record EndsAsked (a : Asked) (out work : List ℕ) (r : Told) (left cells : List ℕ) : Type 0 where
  pub ends : Ends a.answer out work r.number r.length left cells
  pub version-is : r.version ≡ a.version
  pub table_is : r.table.held ≡ a.table

-- the same of the list, whose result is the number alone
pub record ListEnds (keys archive : Bytes) (table : List Mark) (work : List ℕ) (number : ℕ) (cells : List ℕ) : Type 0 where
  pub number_is : number ≡ list_number (find_mark keys archive table [] (length work)).answer.number
  pub work-is : cells ≡ work_after (listing (find_mark keys archive table [] (length work))) work

abbrev pub told_of : MarkedTable → Told
told_of m = record { number = number_in m.answer; length = length_in m.answer; version = 0; table = m.table }

abbrev pub found_in : Tried ℕ Refusal → Table → Told
found_in f t = record { number = number_in f; length = 0; version = length_in f; table = t }

abbrev pub listed_in : ℕ → Table → Told
listed_in n t = record { number = n; length = 0; version = 0; table = t }

-- ---- a call without output leaves one as it was
no_bytes : (s t : Bytes) → [] ≡ s ++ t → s ≡ []
no_bytes [] t e = refl
no_bytes (b ∷ s) t e = absurd (omega (arith, ap length e))

quiet-out : (a : Answer) (out : List ℕ) → a.bytes ≡ [] → out ≡ out_after a out
unfolding out_after
quiet-out a out q = subst (λ s. out ≡ s ++ drop (length s) out) (sym q) refl

quiet-ends : (a : Answer) (out work : List ℕ) {number size : ℕ} {cells : List ℕ} → Ends a [] work number size [] cells → Ends a out work number size out cells
unfolding out_after
quiet-ends a out work e =
    record { number_is = e.number_is; size_is = e.size_is; out-is = quiet-out a out (no_bytes a.bytes _ e.out-is); work-is = e.work-is }

found-quiet : (x : Result Named) → (found_mark x).answer.bytes ≡ []
unfolding found_mark answer
found-quiet (refused w) = refl
found-quiet (ok k) = refl

-- ---- finding
module _ (keys archive : Bytes) (table : List Mark) (name : Bytes) (work : List ℕ) where
  find-quiet : (find_mark keys archive table name (length work)).answer.bytes ≡ []
  unfolding find_mark
  find-quiet = found-quiet _

  pub find-asked : (out : List ℕ) {f : Tried ℕ Refusal} {cells : List ℕ} (t : Table) → t.held ≡ table → FindEnds keys archive table name work f cells
      → EndsAsked (keeping (find_mark keys archive table name (length work)) table) out work (found_in f t) out cells
  find-asked out t h e =
      record {
        ends = record { number_is = e.number_is; size_is = ap length (sym find-quiet); out-is = quiet-out _ out find-quiet; work-is = e.work-is };
        version-is = e.version-is;
        table_is = h;
      }

-- ---- listing
pub list-15 : (n : ℕ) → n ≡ 15 → list_number n ≡ 0
list-15 n e = ap list_number e

pub list-other : (n : ℕ) → (n ≡ 15 → ⊥) → list_number n ≡ n
list-other n e = ap (λ b. but15 b n) (ne_eqb n 15 e)

number-15 : (b : Bool) (n : ℕ) → eqb n 15 ≡ b → eqb (but15 b n) 1 ≡ eqb n 1
number-15 true n e = sym (ap (λ k. eqb k 1) (eqb-true n 15 e))
number-15 false n e = refl

same-cells : (a b : Answer) (work : List ℕ) → eqb a.number 1 ≡ eqb b.number 1 → work_after a work ≡ work_after b work
unfolding work_after
same-cells a b work e = rw (e, work_after) refl

module _ (keys archive : Bytes) (table : List Mark) (work : List ℕ) where
  pub list-ends : {f : Tried ℕ Refusal} {cells : List ℕ} {n k : ℕ} → n ≡ list_number k → k ≡ number_in f → FindEnds keys archive table [] work f cells → ListEnds keys archive table work n cells
  list-ends l q e =
      let s = find_mark keys archive table [] (length work) in
      let k = s.answer.number in
      record { number_is = l ∙ ap list_number (q ∙ e.number_is); work-is = e.work-is ∙ same-cells s.answer (listing s) work (sym (number-15 (eqb k 15) k refl)) }

  pub list-asked : (out : List ℕ) {n : ℕ} {cells : List ℕ} (t : Table) → t.held ≡ table → ListEnds keys archive table work n cells
      → EndsAsked (record { answer = listing (find_mark keys archive table [] (length work)); version = 0; table = table }) out work (listed_in n t) out cells
  list-asked out t h e =
      record { ends = record { number_is = e.number_is; size_is = refl; out-is = quiet-out _ out refl; work-is = e.work-is }; version-is = refl; table_is = h }

-- ---- calls that change the table
module _ (keys archive : Bytes) (table : List Mark) (name : Bytes) (i : ℕ) (out work : List ℕ) (m : MarkedTable) {cells : List ℕ} where
  pub set-asked : SetEnds keys archive table name i work (number_in m.answer) (length_in m.answer) cells m.table.held
      → EndsAsked (changing (set_mark keys archive table name i (length work))) out work (told_of m) out cells
  set-asked e = record { ends = quiet-ends _ out work e.ends; version-is = refl; table_is = e.table_is }

  pub back-asked : {left : List ℕ} → BackEnds keys archive table i out work (number_in m.answer) (length_in m.answer) left cells m.table.held
      → EndsAsked (changing (step_back keys archive table i (length out) (length work))) out work (told_of m) left cells
  back-asked e = record { ends = e.ends; version-is = refl; table_is = e.table_is }

  pub named-asked : {left : List ℕ} → NamedEnds keys archive table name out work (number_in m.answer) (length_in m.answer) left cells m.table.held
      → EndsAsked (changing (step_back_to_mark keys archive table name (length out) (length work))) out work (told_of m) left cells
  named-asked e = record { ends = e.ends; version-is = refl; table_is = e.table_is }

-- a call that is known, and what is told of it
module _ (keys archive : Bytes) (table : List Mark) (name : Bytes) (i : ℕ) (out work : List ℕ) where
  pub asks-marked : {c c' : MarkCall} {r r' : Told} {left cells : List ℕ} → c ≡ c' → r ≡ r'
      → EndsAsked (asked_marked c' keys archive table name i (length out) (length work)) out work r' left cells
      → EndsAsked (asked_marked c keys archive table name i (length out) (length work)) out work r left cells
  asks-marked {c' = c'} {r = r} {left = left} {cells = cells} e d x =
      subst (λ q. EndsAsked (asked_marked q keys archive table name i (length out) (length work)) out work r left cells) (sym e)
      (subst (λ t. EndsAsked (asked_marked c' keys archive table name i (length out) (length work)) out work t left cells) (sym d) x)
