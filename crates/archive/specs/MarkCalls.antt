-- The calls over a table of marks: what the contracts of their parts and their own say, and that the parts make the whole.
use Rattle.std.specs.Prelude.{ℕ, ◌≤◌, ◌≡◌, Result as Tried, Ok, Err, IfOk}
use Rattle.std.proofs.Common.{arith, ◌∙◌}
use Rattle.std.proofs.Math.Path.{refl, sym, ap, subst}
use mathlib.Core.List.{List, []}
use Rattle.std.proofs.Math.ListN.{length, replicate}
use Rattle.xml.specs.Bytes.{Bytes}
use Rattle.keys.specs.Result.{Refusal, Result, number_of, refused, ok, ◌>>=◌, ◌>>◌, r1}
use Rattle.keys.specs.Meant.{row_of, meant, number_in, length_in}
use Rattle.keys.specs.declared.refusal.Refusal.{Refusal as Cause}
use Rattle.keys.specs.ResultLaws.{refused-ok, ok-inj}
use Rattle.marks.specs.declared.Mark.{Mark}
use Rattle.marks.specs.Marks.{Named, entries, marks_in, legal_name, find, setting, finding, dropping, number, marks_after}
use Rattle.marks.specs.Changing.{version_in, done, setting_after, finding_after}
use Rattle.marks.specs.AfterLaws.{dropping-by}
use Rattle.versions.specs.Archive.{last_version}
use Rattle.versions.specs.Calls.{Answer, answer, room, Given, Marked, marked, FoundMark, found_mark, set_mark, find_mark, step_back, step_back_to_mark, out_after, work_after}
use Rattle.versions.specs.CallLaws.{number_of-pos}
use Rattle.versions.specs.Walk.{archive_in, count_on, earlier_on, set_mark_on, find_mark_on}
use Rattle.versions.specs.WalkLaws.{then-bind, sets_mark, finds_mark}
use Rattle.archive.specs.declared.back.Back.{Back}
use Rattle.archive.specs.Giving.{Told, EndsMarked, ends-told}
use Rattle.archive.specs.Later.{Later, setting-later, finding-later}
use Rattle.archive.specs.FirstSteps.{room-1}
use Rattle.archive.specs.Opening.{OpenedOn, NotOpened}
use Rattle.archive.specs.BackCall.{Steps, steps-same, steps-refused, back_in, named_in, back-steps, named-steps}

-- the cells that a call leaves which answers this number
abbrev cells_after : ℕ → List ℕ → List ℕ
cells_after n work = work_after (record { number = n; bytes = [] }) work

cells-by : (a : Answer) (work : List ℕ) → cells_after a.number work ≡ work_after a work
unfolding work_after
cells-by a work = refl

cells-later : (a b : ℕ) (work : List ℕ) → Later a → Later b → cells_after a work ≡ cells_after b work
unfolding work_after
cells-later a b work x y = rw (x, y, work_after) refl

-- ---- a result of the program that is one of the definitions
meant-refused : (r : Tried ℕ Cause) {w : Refusal} → meant r ≡ refused w → (number_in r ≡ number_of w) × (length_in r ≡ 0)
meant-refused (Ok n) e = refused-ok (sym e)
meant-refused (Err v) {w} e = let x : row_of v ≡ w = cc in (ap number_of x, refl)

meant-ok : (r : Tried ℕ Cause) {k : ℕ} → meant r ≡ ok k → (number_in r ≡ 0) × (length_in r ≡ k)
meant-ok (Ok n) e = (refl, ok-inj e)
meant-ok (Err v) e = refused-ok e

meant-number : (r : Tried ℕ Cause) → number_in r ≡ number (meant r)
unfolding number
meant-number (Ok n) = refl
meant-number (Err v) = refl

-- ---- counting the versions: with room to work in, and with the test for it
pub record CountedIn (keys archive : Bytes) (r : Tried ℕ Cause) : Type 0 where
  pub is : meant r ≡ count_on keys archive
  pub few : IfOk r (λ n. n ≤ 999)
  pub later : Later (number_in r)

pub record Counts (keys archive : Bytes) (work : List ℕ) (r : Tried ℕ Cause) (cells : List ℕ) : Type 0 where
  pub is : meant r ≡ (room (length work) >> count_on keys archive)
  pub few : IfOk r (λ n. n ≤ 999)
  pub work-is : cells ≡ cells_after (number_in r) work

module _ (keys archive : Bytes) where
  pub counted-in : {cells : List ℕ} {hi n : ℕ} → OpenedOn keys archive cells hi n → CountedIn keys archive (Ok n)
  unfolding count_on
  counted-in o = record { is = sym (rw o.is (ap ok o.last)); few = o.few; later = refl }

  pub uncounted : {v : Cause} → NotOpened keys archive (row_of v) → CountedIn keys archive (Err v)
  unfolding count_on
  uncounted o = record { is = sym (rw o.is refl); few = tt; later = o.later }

  module _ (work : List ℕ) where
    pub counts-1 : {v : Cause} → refused (row_of v) ≡ room (length work) → Counts keys archive work (Err v) work
    unfolding work_after number_of
    counts-1 {v} e =
        let q : row_of v ≡ r1 = (room-1 (length work) e).0 in
        record { is = ap (λ R. R >> count_on keys archive) e; few = tt; work-is = rw q refl }

    pub counts_all : {r : Tried ℕ Cause} {left : List ℕ} → ok tt ≡ room (length work) → CountedIn keys archive r → (k : ℕ) → k ≡ length work → left ≡ replicate k 0 → Counts keys archive work r left
    unfolding work_after
    counts_all {r} e c k q w =
        let y = c.later in
        record { is = c.is ∙ ap (λ R. R >> count_on keys archive) e; few = c.few; work-is = w ∙ ap (λ j. replicate j 0) q ∙ sym (rw (y, work_after) refl) }

-- ---- setting a mark: number and length, work cells, and the table left
abbrev pub SetEnds : (keys archive : Bytes) (table : List Mark) (name : Bytes) (i : ℕ) (work : List ℕ) (number size : ℕ) (cells : List ℕ) (left : List Mark) → Type 0
SetEnds keys archive table name i work n size cells left = EndsMarked (set_mark keys archive table name i (length work)) [] work n size [] cells left

module _ (table : List Mark) (work : List ℕ) (S : ℕ → Result (List Named)) (late : (k : ℕ) → Later (number (S k))) where
  abbrev sets : ℕ → Result Given
  sets k = S k >>= (λ ks. ok (record { text = []; marks = ks }))

  -- a table that is not touched, and one that is
  set-refused : {n : ℕ} {cells : List ℕ} (w : Refusal) → n ≡ number_of w → cells ≡ cells_after n work → EndsMarked (marked table (refused w)) [] work n 0 [] cells table
  unfolding marked answer out_after work_after
  set-refused w e c = record { ends = record { number_is = e; size_is = refl; out-is = refl; work-is = c ∙ ap (λ j. cells_after j work) e }; table_is = refl }

  set-ok : {n : ℕ} {cells : List ℕ} {left : List Mark} (ks : List Named) → n ≡ 0 → cells ≡ cells_after 0 work → left ≡ entries ks
      → EndsMarked (marked table (ok (record { text = []; marks = ks }))) [] work n 0 [] cells left
  unfolding marked answer out_after work_after
  set-ok ks e c l = record { ends = record { number_is = e; size_is = refl; out-is = refl; work-is = c }; table_is = l }

  set_there : (k : ℕ) {n : ℕ} {cells : List ℕ} {left : List Mark} (X : Result (List Named)) → X ≡ S k → cells ≡ cells_after 0 work → n ≡ number X → left ≡ marks_after X table
      → EndsMarked (marked table (X >>= (λ ks. ok (record { text = []; marks = ks })))) [] work n 0 [] cells left
  unfolding number marks_after
  set_there k (ok ks) x c e l = set-ok ks e c l
  set_there k {n} {cells} (refused w) x c e l =
      let y : Later n = subst Later (sym (e ∙ ap number x)) (late k) in
      subst (EndsMarked (marked table (refused w)) [] work n 0 [] cells) (sym l) (set-refused w e (c ∙ cells-later 0 n work refl y))

  set-by : (R : Result ℕ) {n : ℕ} {cells : List ℕ} {left : List Mark} → cells ≡ cells_after (number R) work → n ≡ number (R >>= S) → left ≡ marks_after (R >>= S) table
      → EndsMarked (marked table (R >>= sets)) [] work n 0 [] cells left
  unfolding number marks_after
  set-by (refused w) {n} {cells} c e l = subst (EndsMarked (marked table (refused w)) [] work n 0 [] cells) (sym l) (set-refused w e (c ∙ ap (λ j. cells_after j work) (sym e)))
  set-by (ok k) c e l = set_there k (S k) refl c e l

pub set-ends : (keys archive : Bytes) (table : List Mark) (name : Bytes) (i : ℕ) (work : List ℕ) (r : Tried ℕ Cause) (cells : List ℕ) → Counts keys archive work r cells
    → (n : ℕ) (left : List Mark) → n ≡ number (setting_after r table name i) → left ≡ marks_after (setting_after r table name i) table → SetEnds keys archive table name i work n 0 cells left
unfolding set_mark_on
set-ends keys archive table name i work r cells c n left e l =
    let R = room (length work) >> count_on keys archive in
    let S : ℕ → Result (List Named) = λ k. setting k table name i in
    let m : set_mark keys archive table name i (length work) ≡ marked table (R >>= sets table work S (λ k. setting-later k table name i)) =
    sym (sets_mark keys archive table name i (length work)) ∙ ap (marked table) (sym (then-bind (room (length work)) (count_on keys archive) _)) in
    subst (λ y. EndsMarked y [] work n 0 [] cells left) (sym m)
    (set-by table work S (λ k. setting-later k table name i) R
    (c.work-is ∙ ap (λ j. cells_after j work) (meant-number r ∙ ap number c.is)) (e ∙ ap (λ Q. number (Q >>= S)) c.is) (l ∙ ap (λ Q. marks_after (Q >>= S) table) c.is))

-- the number of what is done, or refused
pub set_done : (X : Result (List Named)) {u : Unit {0}} → ok u ≡ done X → 0 ≡ number X
unfolding number
set_done (ok ks) e = refl
set_done (refused w) e = refused-ok (sym e)

pub set_refused : (X : Result (List Named)) {w : Refusal} → refused w ≡ done X → number_of w ≡ number X
unfolding number
set_refused (ok ks) e = refused-ok e
set_refused (refused v) {w} e = let x : w ≡ v = cc in ap number_of x

-- ---- finding a mark: the number, the version, and the work cells
pub record FindEnds (keys archive : Bytes) (table : List Mark) (name : Bytes) (work : List ℕ) (r : Tried ℕ Cause) (cells : List ℕ) : Type 0 where
  pub number_is : number_in r ≡ (find_mark keys archive table name (length work)).answer.number
  pub version-is : length_in r ≡ (find_mark keys archive table name (length work)).version
  pub work-is : cells ≡ work_after (find_mark keys archive table name (length work)).answer work

module _ (work : List ℕ) (S : ℕ → Result Named) (late : (k : ℕ) → Later (number (S k))) where
  -- what `FindEnds` says, of any answer
  record Finds (m : FoundMark) (r : Tried ℕ Cause) (cells : List ℕ) : Type 0 where
    number_is : number_in r ≡ m.answer.number
    version-is : length_in r ≡ m.version
    work-is : cells ≡ work_after m.answer work

  find-refused : {r : Tried ℕ Cause} {cells : List ℕ} (w : Refusal) → meant r ≡ refused w → cells ≡ cells_after (number_of w) work → Finds (found_mark (refused w)) r cells
  unfolding found_mark answer
  find-refused {r} w e c = let p = meant-refused r e in record { number_is = p.0; version-is = p.1; work-is = c }

  find-there : (k : ℕ) {r : Tried ℕ Cause} {cells : List ℕ} (X : Result Named) → X ≡ S k → cells ≡ cells_after 0 work → meant r ≡ version_in X → Finds (found_mark X) r cells
  unfolding found_mark answer number
  find-there k {r} (ok a) x c e = let p = meant-ok r e in record { number_is = p.0; version-is = p.1; work-is = c }
  find-there k (refused w) x c e = find-refused w e (c ∙ cells-later 0 (number_of w) work refl (subst (λ z. Later (number z)) (sym x) (late k)))

  find-by : (R : Result ℕ) {r : Tried ℕ Cause} {cells : List ℕ} → cells ≡ cells_after (number R) work → meant r ≡ version_in (R >>= S) → Finds (found_mark (R >>= S)) r cells
  unfolding number
  find-by (refused w) c e = find-refused w e c
  find-by (ok k) c e = find-there k (S k) refl c e

pub find-ends : (keys archive : Bytes) (table : List Mark) (name : Bytes) (work : List ℕ) (r : Tried ℕ Cause) (cells : List ℕ) → Counts keys archive work r cells
    → (q : Tried ℕ Cause) → meant q ≡ version_in (finding_after r table name) → FindEnds keys archive table name work q cells
unfolding find_mark_on
find-ends keys archive table name work r cells c q e =
    let S : ℕ → Result Named = λ k. finding k table name in
    let late : (k : ℕ) → Later (number (S k)) = λ k. finding-later k table name in
    let R = room (length work) >> count_on keys archive in
    let m : find_mark keys archive table name (length work) ≡ found_mark (R >>= S) =
    sym (finds_mark keys archive table name (length work)) ∙ ap found_mark (sym (then-bind (room (length work)) (count_on keys archive) _)) in
    let f = subst (λ y. Finds work S late y q cells) (sym m)
    (find-by work S late R (c.work-is ∙ ap (λ j. cells_after j work) (meant-number r ∙ ap number c.is)) (e ∙ ap (λ Q. version_in (Q >>= S)) c.is)) in
    record { number_is = f.number_is; version-is = f.version-is; work-is = f.work-is }

-- ---- stepping back
-- on a table by value that is left as it is, with the steps X after the first
pub record StepsOn (X : Result Given) (table : List Mark) (out work : List ℕ) (r : Tried Back Cause) (left cells : List ℕ) : Type 0 where
  pub steps : Steps (room (length work) >> X) table r out left
  pub work-is : cells ≡ cells_after (number_in r) work

abbrev pub BackSteps : (keys archive : Bytes) (table : List Mark) (i : ℕ) (out work : List ℕ) (r : Tried Back Cause) (left cells : List ℕ) → Type 0
BackSteps keys archive table i out work = StepsOn (back_in keys archive table i (length out)) table out work

abbrev pub NamedSteps : (keys archive : Bytes) (table : List Mark) (name : Bytes) (out work : List ℕ) (r : Tried Back Cause) (left cells : List ℕ) → Type 0
NamedSteps keys archive table name out work = StepsOn (named_in keys archive table name (length out)) table out work

abbrev pub BackEnds : (keys archive : Bytes) (table : List Mark) (i : ℕ) (out work : List ℕ) (number size : ℕ) (left cells : List ℕ) (marks : List Mark) → Type 0
BackEnds keys archive table i out work = EndsMarked (step_back keys archive table i (length out) (length work)) out work

abbrev pub NamedEnds : (keys archive : Bytes) (table : List Mark) (name : Bytes) (out work : List ℕ) (number size : ℕ) (left cells : List ℕ) (marks : List Mark) → Type 0
NamedEnds keys archive table name out work = EndsMarked (step_back_to_mark keys archive table name (length out) (length work)) out work

-- 1, and the rest
module _ (X : Result Given) (table : List Mark) (out work : List ℕ) where
  pub steps-1 : {v : Cause} → refused (row_of v) ≡ room (length work) → StepsOn X table out work (Err v) out work
  unfolding work_after number_of
  steps-1 {v} e =
      let q : row_of v ≡ r1 = (room-1 (length work) e).0 in
      record { steps = steps-refused table out (ap (λ R. R >> X) (sym e)); work-is = rw q refl }

  pub steps_all : {r : Tried Back Cause} {left cells : List ℕ} → ok tt ≡ room (length work) → Steps X table r out left → Later (number_in r) → (k : ℕ) → k ≡ length work → cells ≡ replicate k 0
      → StepsOn X table out work r left cells
  unfolding work_after
  steps_all {r} e s y k q c =
      record { steps = steps-same (ap (λ R. R >> X) (sym e)) s; work-is = c ∙ ap (λ j. replicate j 0) q ∙ sym (rw (y, work_after) refl) }

-- the whole, from the steps on the table by value and what is dropped from the one lent
module _ (table lent : List Mark) (same-marks : (n : ℕ) → marks_in n lent ≡ marks_in n table) (out work : List ℕ) where
  whole-refused : (X : Result Given) {v : Cause} {left cells : List ℕ} → Steps X lent (Err v) out left → cells ≡ cells_after (number_of (row_of v)) work
      → EndsMarked (marked table X) out work (number_of (row_of v)) 0 left cells table
  unfolding marked answer work_after
  whole-refused (refused w) s c =
      record { ends = record { number_is = s.number_is; size_is = s.size_is; out-is = s.out-is; work-is = c ∙ ap (λ j. cells_after j work) s.number_is }; table_is = refl }
  whole-refused (ok g) {v} s c = absurd (omega (arith, number_of-pos (row_of v), s.number_is))

  whole-done : (X : Result Given) {b : Back} {left cells : List ℕ} {marks : List Mark} → Steps X lent (Ok b) out left → cells ≡ cells_after 0 work
      → marks ≡ marks_after (dropping b.versions table b.to) table → EndsMarked (marked table X) out work 0 b.length left cells marks
  unfolding marked answer work_after marks_after
  whole-done (refused w) s c e = absurd (omega (arith, number_of-pos w, s.number_is))
  whole-done (ok g) {b} s c e =
      let d : dropping b.versions table b.to ≡ ok g.marks = dropping-by b.versions table lent b.to (sym (same-marks b.versions)) ∙ s.drops g b refl refl in
      record { ends = record { number_is = refl; size_is = s.size_is; out-is = s.out-is; work-is = c }; table_is = e ∙ ap (λ D. marks_after D table) d }

  -- what is dropped of a table that was not refused is not refused
  whole-dropped : {A : Type 0} (X : Result Given) {b : Back} {left : List ℕ} {w : Refusal} → Steps X lent (Ok b) out left → refused w ≡ done (dropping b.versions table b.to) → A
  unfolding marked answer
  whole-dropped (refused v) s e = absurd (omega (arith, number_of-pos v, s.number_is))
  whole-dropped (ok g) {b} s e =
      let d : dropping b.versions table b.to ≡ ok g.marks = dropping-by b.versions table lent b.to (sym (same-marks b.versions)) ∙ s.drops g b refl refl in
      refused-ok (e ∙ ap done d)

-- the steps depend on the marks of the table alone
pub bind-by : {A B : Type 0} (R : Result A) {f g : A → Result B} → ((a : A) → f a ≡ g a) → (R >>= f) ≡ (R >>= g)
bind-by (refused w) h = refl
bind-by (ok a) h = h a

module _ (keys archive : Bytes) (table lent : List Mark) (same-marks : (n : ℕ) → marks_in n lent ≡ marks_in n table) (out : ℕ) where
  pub back-same : (i : ℕ) → back_in keys archive lent i out ≡ back_in keys archive table i out
  back-same i = bind-by (archive_in keys archive) (λ f. ap (λ R. R >>= (λ ks. earlier_on f ks i out)) (same-marks (last_version f)))

  pub named-same : (name : Bytes) → named_in keys archive lent name out ≡ named_in keys archive table name out
  named-same name = bind-by (archive_in keys archive) (λ f. ap (λ R. R >>= (λ ks. legal_name name >> (find name ks >>= (λ k. earlier_on f ks k.version out)))) (same-marks (last_version f)))

-- a step back on a table by value t, which is read the same as the lent one, and then what is dropped from that one
module _ (keys archive : Bytes) (table t : List Mark) (same-marks : (n : ℕ) → marks_in n t ≡ marks_in n table) (out work : List ℕ) {left cells : List ℕ} where
  -- by number
  module _ (i : ℕ) where
    back-on : {r : Tried Back Cause} → BackSteps keys archive t i out work r left cells → Steps (room (length work) >> back_in keys archive table i (length out)) t r out left
    back-on s = steps-same (ap (λ Z. room (length work) >> Z) (sym (back-same keys archive table t same-marks (length out) i))) s.steps

    pub back-refused : {v : Cause} → BackSteps keys archive t i out work (Err v) left cells → BackEnds keys archive table i out work (number_of (row_of v)) 0 left cells table
    back-refused {v} s =
        subst (λ m. EndsMarked m out work (number_of (row_of v)) 0 left cells table) (sym (back-steps keys archive table i (length out) (length work)))
        (whole-refused table t same-marks out work (room (length work) >> back_in keys archive table i (length out)) (back-on s) s.work-is)

    pub back-done : {b : Back} {marks : List Mark} → BackSteps keys archive t i out work (Ok b) left cells → marks ≡ marks_after (dropping b.versions table b.to) table
        → BackEnds keys archive table i out work 0 b.length left cells marks
    back-done {b} {marks} s e =
        subst (λ m. EndsMarked m out work 0 b.length left cells marks) (sym (back-steps keys archive table i (length out) (length work)))
        (whole-done table t same-marks out work (room (length work) >> back_in keys archive table i (length out)) (back-on s) s.work-is e)

    pub back-dropped : {A : Type 0} {b : Back} {w : Refusal} → BackSteps keys archive t i out work (Ok b) left cells → refused w ≡ done (dropping b.versions table b.to) → A
    back-dropped s e = whole-dropped table t same-marks out work (room (length work) >> back_in keys archive table i (length out)) (back-on s) e

  -- by name
  module _ (name : Bytes) where
    named-on : {r : Tried Back Cause} → NamedSteps keys archive t name out work r left cells → Steps (room (length work) >> named_in keys archive table name (length out)) t r out left
    named-on s = steps-same (ap (λ Z. room (length work) >> Z) (sym (named-same keys archive table t same-marks (length out) name))) s.steps

    pub named-refusal : {v : Cause} → NamedSteps keys archive t name out work (Err v) left cells → NamedEnds keys archive table name out work (number_of (row_of v)) 0 left cells table
    named-refusal {v} s =
        subst (λ m. EndsMarked m out work (number_of (row_of v)) 0 left cells table) (sym (named-steps keys archive table name (length out) (length work)))
        (whole-refused table t same-marks out work (room (length work) >> named_in keys archive table name (length out)) (named-on s) s.work-is)

    pub named-done : {b : Back} {marks : List Mark} → NamedSteps keys archive t name out work (Ok b) left cells → marks ≡ marks_after (dropping b.versions table b.to) table
        → NamedEnds keys archive table name out work 0 b.length left cells marks
    named-done {b} {marks} s e =
        subst (λ m. EndsMarked m out work 0 b.length left cells marks) (sym (named-steps keys archive table name (length out) (length work)))
        (whole-done table t same-marks out work (room (length work) >> named_in keys archive table name (length out)) (named-on s) s.work-is e)

    pub named-dropped : {A : Type 0} {b : Back} {w : Refusal} → NamedSteps keys archive t name out work (Ok b) left cells → refused w ≡ done (dropping b.versions table b.to) → A
    named-dropped s e = whole-dropped table t same-marks out work (room (length work) >> named_in keys archive table name (length out)) (named-on s) e

-- ---- the calls on a table by value, with work cells of their own: number, length, output, and the table where the call is not refused
pub record MarkedAs (m : Marked) (out : List ℕ) (number size : ℕ) (left : List ℕ) (table : List Mark) : Type 0 where
  pub told : Told m.answer out number size left
  pub table_is : number ≡ 0 → table ≡ m.table

pub ends-marked : {m : Marked} {out work : List ℕ} {number size : ℕ} {left cells : List ℕ} {table : List Mark} → EndsMarked m out work number size left cells table → MarkedAs m out number size left table
ends-marked e = record { told = ends-told e.ends; table_is = λ _. e.table_is }

pub marked-as : {m : Marked} {out : List ℕ} {n size k l : ℕ} {left : List ℕ} {table : List Mark} → n ≡ k → size ≡ l → MarkedAs m out k l left table → MarkedAs m out n size left table
marked-as e f a = rw (e, f) a
