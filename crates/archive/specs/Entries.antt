-- The entries of the firmware over a table of marks, which C passes as bytes: what their contracts say, and that the calls on the table by
-- value meet it.
use Rattle.std.specs.Prelude.{ℕ, ◌≡◌, true, List, [], length, Result as Tried}
use Rattle.std.proofs.Common.{arith, ◌∙◌, subst}
use Rattle.std.proofs.Math.Path.{refl, sym, ap}
use Rattle.std.proofs.Math.Bool.{false}
use Rattle.std.proofs.Math.Dec.{eqb}
use borrow.Author.Tests.{eqb-true, eqb-false, ne_eqb}
use Rattle.xml.specs.Bytes.{Bytes}
use Rattle.xml.specs.Truth.{by-test}
use Rattle.keys.specs.Meant.{number_in, length_in}
use Rattle.keys.specs.declared.refusal.Refusal.{Refusal as Cause}
use Rattle.keys.specs.Result.{Refusal, Result, number_of, refused, ok, ◌>>=◌, ◌>>◌, r17}
use Rattle.marks.specs.declared.Mark.{Mark}
use Rattle.marks.specs.declared.Table.{Table}
use Rattle.marks.specs.Marks.{marks_in, is_table, legal_name, find, setting, table_bytes, table_in}
use Rattle.marks.specs.Passed.{LendsAs}
use Rattle.marks.specs.BytesLaws.{table-short}
use Rattle.marks.specs.ChangeLaws.{setting-illegal}
use Rattle.marks.specs.AfterLaws.{setting-by, finding-by}
use Rattle.versions.specs.Archive.{last_version}
use Rattle.versions.specs.Calls.{Given, Marked, marked, answer, FoundMark, found_mark, room, set_mark, find_mark, step_back, step_back_to_mark, table_left}
use Rattle.versions.specs.CallLaws.{number_of-pos}
use Rattle.versions.specs.Walk.{archive_in, count_on, earlier_on, set_mark_on, find_mark_on}
use Rattle.versions.specs.WalkLaws.{sets_mark, finds_mark}
use Rattle.archive.specs.Giving.{Told}
use Rattle.archive.specs.BackCall.{back_in, named_in, back-steps, named-steps}
use Rattle.archive.specs.MarkCalls.{bind-by, back-same, named-same, MarkedAs}
use Rattle.archive.specs.FewCells.{Whole, FoundAs}

-- number, length, output and the bytes of the table at an entry's exit are those of m
pub record ToldTable (m : Marked) (out : List ℕ) (s : Bytes) (number size : ℕ) (left : List ℕ) (bytes : Bytes) : Type 0 where
  pub told : Told m.answer out number size left
  pub bytes-are : bytes ≡ table_left m s

-- number, version and length are those of f
pub record ToldFound (f : FoundMark) (number version size : ℕ) : Type 0 where
  pub number_is : number ≡ f.answer.number
  pub version-is : version ≡ f.version
  pub size_is : size ≡ 0

-- the bytes that are left where a call answers this number and these entries
abbrev pub bytes_left : ℕ → List Mark → Bytes → Bytes
bytes_left number entries s = elim (eqb number 0) [ true ↦ table_bytes entries | false ↦ s ]

pub bytes-kept : (number : ℕ) (held : List Mark) (s : Bytes) → (number ≡ 0 → ⊥) → s ≡ bytes_left number held s
bytes-kept number held s z = rw (ne_eqb number 0 z, bytes_left) refl

pub bytes-put : (number : ℕ) (held : List Mark) (s : Bytes) {bytes : Bytes} → number ≡ 0 → bytes ≡ table_bytes held → bytes ≡ bytes_left number held s
bytes-put number held s z e = rw z e

pub told-as : {m : Marked} {out : List ℕ} {s : Bytes} {number k size n : ℕ} {left : List ℕ} {bytes now : Bytes} → number ≡ k → size ≡ n → now ≡ bytes → ToldTable m out s k n left bytes
    → ToldTable m out s number size left now
told-as e g f t = rw (e, g, f) t

pub found-by : {f : FoundMark} {number k version n size : ℕ} → number ≡ k → version ≡ n → ToldFound f k n size → ToldFound f number version size
found-by e g t = rw (e, g) t

-- ---- a call that depends on the marks of the table alone, and is refused where there are none to be read
pub record ByMarks (call : List Mark → Marked) : Type 0 where
  pub steps : List Mark → Result Given
  pub is : (table : List Mark) → call table ≡ marked table (steps table)
  pub same : (a b : List Mark) → ((n : ℕ) → marks_in n a ≡ marks_in n b) → steps a ≡ steps b
  pub none_read : (table : List Mark) → ((n : ℕ) → marks_in n table ≡ refused r17) → (w : Refusal) × (steps table ≡ refused w)

-- a refusal, wherever the steps begin
first-refused : (r : Result (Unit {0})) {X : Result Given} → (w : Refusal) × (X ≡ refused w) → (w : Refusal) × ((r >> X) ≡ refused w)
first-refused (refused v) x = (v, refl)
first-refused (ok u) x = x

then-refused : {A : Type 0} (R : Result A) {F : A → Result Given} → ((a : A) → (w : Refusal) × (F a ≡ refused w)) → (w : Refusal) × ((R >>= F) ≡ refused w)
then-refused (refused v) h = (v, refl)
then-refused (ok a) h = h a

-- bytes of another number than 608 have no table
no_table : (n : ℕ) → marks_in n [] ≡ refused r17
unfolding marks_in is_table
no_table n = refl

module _ {call : List Mark → Marked} (c : ByMarks call) (s : Bytes) (t : Table) (l : LendsAs s t) {out : List ℕ} {number size : ℕ} {left : List ℕ} {held : List Mark} (m : MarkedAs (call t.held) out number size left held) where
  by-steps : MarkedAs (marked t.held (c.steps (table_in s))) out number size left held
  by-steps =
      subst (λ X. MarkedAs (marked t.held X) out number size left held) (c.same t.held (table_in s) l.whole)
      (subst (λ z. MarkedAs z out number size left held) (c.is t.held) m)

  told-by : (X : Result Given) → MarkedAs (marked t.held X) out number size left held → ToldTable (marked (table_in s) X) out s number size left (bytes_left number held s)
  unfolding marked answer table_left
  told-by (refused w) a =
      let z : number ≡ number_of w = a.told.number_is in
      let not_none : (k : ℕ) → k ≡ number_of w → eqb k 0 ≡ false = λ k e. ne_eqb k 0 (λ y. omega (arith, number_of-pos w)) in
      record { told = a.told; bytes-are = rw (not_none number z, bytes_left) (sym (rw (not_none (number_of w) refl, table_left) refl)) }
  told-by (ok g) a =
      let z : number ≡ 0 = a.told.number_is in
      record { told = a.told; bytes-are = rw (z, a.table_is z) refl }

  pub entry-told : ToldTable (call (table_in s)) out s number size left (bytes_left number held s)
  entry-told = subst (λ z. ToldTable z out s number size left (bytes_left number held s)) (sym (c.is (table_in s))) (told-by (c.steps (table_in s)) by-steps)

  not-refused : (X : Result Given) (w : Refusal) → X ≡ refused w → MarkedAs (marked t.held X) out number size left held → number ≡ 0 → ⊥
  unfolding marked answer
  not-refused X w e a z = let y : number ≡ number_of w = (subst (λ Y. MarkedAs (marked t.held Y) out number size left held) e a).told.number_is in omega (arith, number_of-pos w)

  -- so a table that was written back was lent in 608 bytes
  pub entry-long : number ≡ 0 → length s ≡ 608
  entry-long z = by-test (eqb (length s) 608) (λ e. eqb-true (length s) 608 e) (λ e.
      let none : (n : ℕ) → marks_in n (table_in s) ≡ refused r17 = λ n. ap (marks_in n) (table-short s (eqb-false (length s) 608 e)) ∙ no_table n in
      let r = c.none_read (table_in s) none in
      absurd (not-refused (c.steps (table_in s)) r.0 r.1 by-steps z))

-- ---- the calls
module _ (keys archive : Bytes) where
  set-in : (name : Bytes) (i : ℕ) → List Mark → Result Given
  set-in name i table = room 16384 >> (count_on keys archive >>= (λ n. setting n table name i >>= (λ ks. ok (record { text = []; marks = ks }))))

  pub set-by-marks : (name : Bytes) (i : ℕ) → ByMarks (λ table. set_mark keys archive table name i 16384)
  unfolding set_mark_on set-in
  set-by-marks name i = record {
    steps = set-in name i;
    is = λ table. sym (sets_mark keys archive table name i 16384);
    same = λ a b h. ap (λ R. room 16384 >> R) (bind-by (count_on keys archive) (λ n. ap (λ R. R >>= (λ ks. ok (record { text = []; marks = ks }))) (setting-by n a b name i (h n))));
    none_read = λ table h. first-refused (room 16384) (then-refused (count_on keys archive) (λ n. (r17, ap (λ R. R >>= (λ ks. ok (record { text = []; marks = ks }))) (setting-illegal n table name i (h n)))));
  }

  pub back-by-marks : (i out : ℕ) → ByMarks (λ table. step_back keys archive table i out 16384)
  back-by-marks i out = record {
    steps = λ table. room 16384 >> back_in keys archive table i out;
    is = λ table. back-steps keys archive table i out 16384;
    same = λ a b h. ap (λ R. room 16384 >> R) (back-same keys archive b a h out i);
    none_read = λ table h. first-refused (room 16384) (then-refused (archive_in keys archive) (λ f. (r17, ap (λ R. R >>= (λ ks. earlier_on f ks i out)) (h (last_version f)))));
  }

  pub named-by-marks : (name : Bytes) (out : ℕ) → ByMarks (λ table. step_back_to_mark keys archive table name out 16384)
  named-by-marks name out = record {
    steps = λ table. room 16384 >> named_in keys archive table name out;
    is = λ table. named-steps keys archive table name out 16384;
    same = λ a b h. ap (λ R. room 16384 >> R) (named-same keys archive b a h out name);
    none_read = λ table h. first-refused (room 16384) (then-refused (archive_in keys archive) (λ f.
        (r17, ap (λ R. R >>= (λ ks. legal_name name >> (find name ks >>= (λ k. earlier_on f ks k.version out)))) (h (last_version f)))));
  }

  -- finding
  find-is : (a b : List Mark) (name : Bytes) → ((n : ℕ) → marks_in n a ≡ marks_in n b) → find_mark keys archive a name 16384 ≡ find_mark keys archive b name 16384
  unfolding find_mark_on
  find-is a b name h =
      sym (finds_mark keys archive a name 16384) ∙ ap (λ R. found_mark (room 16384 >> R)) (bind-by (count_on keys archive) (λ n. finding-by n a b name (h n))) ∙ finds_mark keys archive b name 16384

  pub find-told : (s : Bytes) (t : Table) (name : Bytes) {r : Tried ℕ Cause} → LendsAs s t → FoundAs keys archive t.held name r
      → ToldFound (find_mark keys archive (table_in s) name 16384) (number_in r) (length_in r) 0
  find-told s t name l f =
      let e = find-is t.held (table_in s) name l.whole in
      record { number_is = f.number_is ∙ ap (λ m. m.answer.number) e; version-is = f.version-is ∙ ap (λ m. m.version) e; size_is = refl }

-- the table by value is read the same, whole and as far as its size says
pub lends-whole : (s : Bytes) (t : Table) → LendsAs s t → Whole t
lends-whole s t l = record { few = l.few; same = λ n. l.lent n ∙ sym (l.whole n) }
