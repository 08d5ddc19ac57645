-- A call over a table of marks that is not refused leaves the table of legal marks: of versions that the archive has, so of 999 at most.
-- Setting and finding give no text.
use Rattle.std.specs.Prelude.{ℕ, ◌≤◌, ◌≡◌, refl, List, [], length}
use Rattle.std.proofs.Common.{arith, sym, ap, subst}
use Rattle.std.proofs.lemmas.Bool.{not-false}
use Rattle.xml.specs.Bytes.{Bytes}
use Rattle.xml.specs.Forest.{Forest}
use Rattle.keys.specs.Result.{Result, refused, ok, ◌>>=◌, ◌>>◌, r17}
use Rattle.keys.specs.ResultLaws.{ok-inj, bind_inv, passed}
use Rattle.keys.specs.KeyList.{KeyList, key_list}
use Rattle.marks.specs.declared.Mark.{Mark}
use Rattle.marks.specs.Marks.{Named, LegalMarks, is_table, held, entries, marks_in, legal_name, find, up_to, setting}
use Rattle.marks.specs.Promises.{marks-legal, legal-more, legal-back}
use Rattle.versions.specs.Archive.{archive_text}
use Rattle.versions.specs.LegalLaws.{archive-legal}
use Rattle.versions.specs.Calls.{answer, Given, Marked, marked, found_mark, room, at_most, set_mark, find_mark, earlier, step_back, step_back_to_mark}
use Rattle.versions.specs.CallLaws.{marked-ok, then_ok, back-ok, back-to-mark-ok, set-ok}
use Rattle.versions.proofs.Standing.{set-lawful}

-- the marks of a table are legal
read-legal : (n : ℕ) (table : List Mark) (ks : List Named) → marks_in n table ≡ ok ks → LegalMarks n ks
unfolding marks_in
read-legal n table ks e =
    let p = passed r17 _ (ok (held table)) ks e in
    subst (LegalMarks n) (ok-inj p.1) (marks-legal n table (not-false (is_table n table) p.0)).0

-- an archive and a table that were accepted
record Accepted (keys archive : Bytes) (table : List Mark) : Type 0 where
  keyed : KeyList
  keys-are : key_list keys ≡ ok keyed
  versions : List Forest
  archive-is : archive_text keyed archive ≡ ok versions
  few : length versions ≤ 999
  marks : List Named
  marks-are : marks_in (length versions) table ≡ ok marks
  lawful : LegalMarks (length versions) marks

module _ (keys archive : Bytes) (table : List Mark) (work : ℕ) where
  accepted : (F : KeyList → List Forest → Result Given) (g : Given)
      → (room work >> (at_most 4096 keys >> (at_most 32768 archive >> (key_list keys >>= (λ K. archive_text K archive >>= F K))))) ≡ ok g
      → ((K : KeyList) (vs : List Forest) → F K vs ≡ ok g → (ks : List Named) × (marks_in (length vs) table ≡ ok ks))
      → Accepted keys archive table
  accepted F g e marks_of =
      let k = bind_inv (key_list keys) _ g (then_ok (at_most 32768 archive) _ (then_ok (at_most 4096 keys) _ (then_ok (room work) _ e))) in
      let v = bind_inv (archive_text k.0 archive) _ g k.2 in
      let m = marks_of k.0 v.0 v.2 in
      let l = archive-legal keys k.0 k.1 archive v.0 v.1 in
      record {
        keyed = k.0;
        keys-are = k.1;
        versions = v.0;
        archive-is = v.1;
        few = subst (λ vs. length vs ≤ 999) l.1 l.0.not_more;
        marks = m.0;
        marks-are = m.1;
        lawful = read-legal (length v.0) table m.0 m.1;
      }

-- what such a call leaves
abbrev pub LeavesMarks : Marked → Type 0
LeavesMarks m = m.answer.number ≡ 0 → (ks : List Named) × LegalMarks 999 ks × (m.table ≡ entries ks)

-- the marks that a block begins with
first_marks : {B : Type 0} (table : List Mark) (n : ℕ) (f : List Named → Result B) (b : B) → (marks_in n table >>= f) ≡ ok b → (ks : List Named) × (marks_in n table ≡ ok ks)
first_marks table n f b e = let m = bind_inv (marks_in n table) f b e in (m.0, m.1)

left_is : (table : List Mark) (m : Marked) (g : Given) → m ≡ marked table (ok g) → m.table ≡ entries g.marks
unfolding marked
left_is table m g e = ap (λ x. x.table) e

pub back-leaves : (keys archive : Bytes) (table : List Mark) (i out work : ℕ) → LeavesMarks (step_back keys archive table i out work)
unfolding step_back
back-leaves keys archive table i out work h =
    let g = marked-ok table _ h in
    let A = accepted keys archive table work (λ K vs. marks_in (length vs) table >>= (λ ks. earlier K vs ks i out)) g.0 g.1 (λ K vs e. first_marks table (length vs) _ g.0 e) in
    let b = back-ok keys A.keyed A.keys-are archive A.versions A.archive-is table A.marks A.marks-are i out work h in
    (up_to i A.marks, legal-more i 999 (up_to i A.marks) (omega (arith, b.1, A.few)) (legal-back (length A.versions) i A.marks A.lawful), left_is table _ _ b.2)

pub back-to-mark-leaves : (keys archive : Bytes) (table : List Mark) (name : Bytes) (out work : ℕ) → LeavesMarks (step_back_to_mark keys archive table name out work)
unfolding step_back_to_mark
back-to-mark-leaves keys archive table name out work h =
    let g = marked-ok table _ h in
    let A = accepted keys archive table work (λ K vs. marks_in (length vs) table >>= (λ ks. legal_name name >> (find name ks >>= (λ k. earlier K vs ks k.version out)))) g.0 g.1
    (λ K vs e. first_marks table (length vs) _ g.0 e) in
    let b = back-to-mark-ok keys A.keyed A.keys-are archive A.versions A.archive-is table A.marks A.marks-are name out work h in
    let i = b.0.version in
    (up_to i A.marks, legal-more i 999 (up_to i A.marks) (omega (arith, b.3, A.few)) (legal-back (length A.versions) i A.marks A.lawful), left_is table _ _ b.4)

pub set-leaves : (keys archive : Bytes) (table : List Mark) (name : Bytes) (i work : ℕ) → LeavesMarks (set_mark keys archive table name i work)
unfolding set_mark setting
set-leaves keys archive table name i work h =
    let g = marked-ok table _ h in
    let A = accepted keys archive table work (λ K vs. setting (length vs) table name i >>= (λ ks. ok (record { text = []; marks = ks }))) g.0 g.1
    (λ K vs e. let s = bind_inv (setting (length vs) table name i) _ g.0 e in first_marks table (length vs) _ s.0 s.1) in
    let b = set-ok keys A.keyed A.keys-are archive A.versions A.archive-is table A.marks A.marks-are name i work h in
    (_, legal-more (length A.versions) 999 _ A.few (set-lawful (length A.versions) A.marks name i A.lawful b.0 b.1 b.2 b.3), left_is table _ _ b.4)

-- "Setting and finding have no output and return length 0"
set-text : (table : List Mark) (x : Result Given) → ((g : Given) → x ≡ ok g → g.text ≡ []) → (marked table x).answer.bytes ≡ []
unfolding marked answer
set-text table (ok g) h = h g refl
set-text table (refused n) h = refl

pub set-nothing : (keys archive : Bytes) (table : List Mark) (name : Bytes) (i work : ℕ) → (set_mark keys archive table name i work).answer.bytes ≡ []
unfolding set_mark
set-nothing keys archive table name i work = set-text table _ (λ g e.
    let k = bind_inv (key_list keys) _ g (then_ok (at_most 32768 archive) _ (then_ok (at_most 4096 keys) _ (then_ok (room work) _ e))) in
    let v = bind_inv (archive_text k.0 archive) _ g k.2 in
    let s = bind_inv (setting (length v.0) table name i) _ g v.2 in
    ap (λ x. x.text) (sym (ok-inj s.2)))

find-text : (x : Result Named) → (found_mark x).answer.bytes ≡ []
unfolding found_mark answer
find-text (ok k) = refl
find-text (refused n) = refl

pub find-nothing : (keys archive : Bytes) (table : List Mark) (name : Bytes) (work : ℕ) → (find_mark keys archive table name work).answer.bytes ≡ []
unfolding find_mark
find-nothing keys archive table name work = find-text _
