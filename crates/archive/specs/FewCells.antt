-- The calls over a table of marks on other than 16,384 work cells, as the firmware makes them for short archives: a law for each.
use Rattle.std.specs.Prelude.{ℕ, ◌≤◌, ◌≡◌, refl, List, [], length, replicate, Result as Tried, Ok, Err}
use Rattle.std.proofs.Common.{sym, ◌∙◌, ap, subst}
use Rattle.std.proofs.lemmas.List.{length-replicate}
use Rattle.xml.specs.Bytes.{Bytes}
use Rattle.keys.specs.Result.{Refusal, Result, number_of, refused, ok}
use Rattle.keys.specs.ResultLaws.{refused-ok, ok-inj}
use Rattle.keys.specs.Meant.{row_of, meant, number_in, length_in}
use Rattle.keys.specs.declared.refusal.Refusal.{Refusal as Cause}
use Rattle.marks.specs.declared.Mark.{Mark}
use Rattle.marks.specs.declared.Table.{Table}
use Rattle.marks.specs.Marks.{Named, marks_in, dropping, number, marks_after}
use Rattle.marks.specs.Judging.{lent_of}
use Rattle.marks.specs.Changing.{tabled, done, version_in, holding, setting_after, finding_after}
use Rattle.versions.specs.Calls.{room, set_mark, find_mark, step_back, step_back_to_mark}
use Rattle.archive.specs.declared.back.Back.{Back}
use Rattle.archive.specs.Giving.{EndsMarked}
use Rattle.archive.specs.Later.{Later}
use Rattle.archive.specs.BackCall.{Steps, back_in, named_in}
use Rattle.archive.specs.MarkCalls.{CountedIn, Counts, counts_all, set-ends, find-ends, BackSteps, NamedSteps, steps_all, back-refused, back-done, back-dropped, named-refusal, named-done, named-dropped, MarkedAs, ends-marked}

-- the answers are those on 16,384 cells
abbrev cells : List ℕ
cells = replicate 16384 0

all-cells : length cells ≡ 16384
all-cells = length-replicate {A = ℕ} 16384 0

all-room : ok tt ≡ room (length cells)
unfolding room
all-room = ap room (sym all-cells)

-- a table by value that is read the same as far as its size says, and whole
pub record Whole (t : Table) : Type 0 where
  pub few : t.size ≤ 32
  pub same : (n : ℕ) → marks_in n (lent_of t) ≡ marks_in n t.held

-- number and version of a mark that is looked for
pub record FoundAs (keys archive : Bytes) (table : List Mark) (name : Bytes) (r : Tried ℕ Cause) : Type 0 where
  pub number_is : number_in r ≡ (find_mark keys archive table name 16384).answer.number
  pub version-is : length_in r ≡ (find_mark keys archive table name 16384).version

-- the entries of a table that is given, or those that were held
abbrev pub held_in : List Mark → Tried Table Cause → List Mark
held_in table (Ok t) = t.held
held_in table (Err v) = table

module _ (keys archive : Bytes) (table : List Mark) (name : Bytes) {r : Tried ℕ Cause} (c : CountedIn keys archive r) where
  counts : Counts keys archive cells r cells
  counts = counts_all keys archive cells all-room c 16384 (sym all-cells) refl

  set-left : (i n : ℕ) (left : List Mark) → n ≡ number (setting_after r table name i) → left ≡ marks_after (setting_after r table name i) table → MarkedAs (set_mark keys archive table name i 16384) [] n 0 [] left
  set-left i n left e l =
      ends-marked (subst (λ k. EndsMarked (set_mark keys archive table name i k) [] cells n 0 [] cells left) all-cells (set-ends keys archive table name i cells r cells counts n left e l))

  pub set-few : (i : ℕ) (q : Tried Table Cause) → meant q ≡ tabled (setting_after r table name i) → MarkedAs (set_mark keys archive table name i 16384) [] (number_in q) 0 [] (held_in table q)
  unfolding number marks_after
  set-few i q e = let p = by q (setting_after r table name i) e in set-left i (number_in q) (held_in table q) p.0 p.1
    where
      by : (q : Tried Table Cause) (X : Result (List Named)) → meant q ≡ tabled X → (number_in q ≡ number X) × (held_in table q ≡ marks_after X table)
      by (Ok t) (ok ks) e = let x : t ≡ holding ks = ok-inj e in (refl, ap (λ y. y.held) x)
      by (Ok t) (refused w) e = refused-ok (sym e)
      by (Err v) (ok ks) e = refused-ok e
      by (Err v) (refused w) e = let x : row_of v ≡ w = cc in (ap number_of x, refl)

  pub find-few : (q : Tried ℕ Cause) → meant q ≡ version_in (finding_after r table name) → FoundAs keys archive table name q
  find-few q e =
      let f = find-ends keys archive table name cells r cells counts q e in
      record {
        number_is = f.number_is ∙ ap (λ k. (find_mark keys archive table name k).answer.number) all-cells;
        version-is = f.version-is ∙ ap (λ k. (find_mark keys archive table name k).version) all-cells;
      }

refused-done : (X : Result (List Named)) {u : Refusal} → refused u ≡ tabled X → refused u ≡ done X
refused-done (ok ks) e = refused-ok e
refused-done (refused w) {u} e = let x : u ≡ w = cc in ap refused x

pub dropped-held : (X : Result (List Named)) {t : Table} (held : List Mark) → ok t ≡ tabled X → t.held ≡ marks_after X held
unfolding marks_after
dropped-held (ok ks) {t} held e = let x : t ≡ holding ks = ok-inj e in ap (λ y. y.held) x
dropped-held (refused w) held e = refused-ok (sym e)

-- the steps back
module _ (keys archive : Bytes) (t : Table) (w : Whole t) (out : List ℕ) {left : List ℕ} where
  module _ (i : ℕ) where
    back-cells : {r : Tried Back Cause} → Steps (back_in keys archive (lent_of t) i (length out)) (lent_of t) r out left × Later (number_in r) → BackSteps keys archive (lent_of t) i out cells r left cells
    back-cells s = steps_all _ _ _ _ all-room s.0 s.1 16384 (sym all-cells) refl

    pub back-few-refused : {v : Cause} → Steps (back_in keys archive (lent_of t) i (length out)) (lent_of t) (Err v) out left × Later (number_of (row_of v))
        → MarkedAs (step_back keys archive t.held i (length out) 16384) out (number_of (row_of v)) 0 left t.held
    back-few-refused {v} s =
        ends-marked (subst (λ k. EndsMarked (step_back keys archive t.held i (length out) k) out cells (number_of (row_of v)) 0 left cells t.held) all-cells
        (back-refused keys archive t.held (lent_of t) w.same out cells i (back-cells s)))

    pub back-few-done : {b : Back} {marks : List Mark} → Steps (back_in keys archive (lent_of t) i (length out)) (lent_of t) (Ok b) out left × Later 0 → marks ≡ marks_after (dropping b.versions t.held b.to) t.held
        → MarkedAs (step_back keys archive t.held i (length out) 16384) out 0 b.length left marks
    back-few-done {b} {marks} s e =
        ends-marked (subst (λ k. EndsMarked (step_back keys archive t.held i (length out) k) out cells 0 b.length left cells marks) all-cells
        (back-done keys archive t.held (lent_of t) w.same out cells i (back-cells s) e))

    pub back-few-dropped : {A : Type 0} {b : Back} {u : Refusal} → Steps (back_in keys archive (lent_of t) i (length out)) (lent_of t) (Ok b) out left × Later 0 → refused u ≡ tabled (dropping b.versions t.held b.to) → A
    back-few-dropped {b = b} s e = back-dropped keys archive t.held (lent_of t) w.same out cells i (back-cells s) (refused-done (dropping b.versions t.held b.to) e)

  module _ (name : Bytes) where
    named-cells : {r : Tried Back Cause} → Steps (named_in keys archive (lent_of t) name (length out)) (lent_of t) r out left × Later (number_in r) → NamedSteps keys archive (lent_of t) name out cells r left cells
    named-cells s = steps_all _ _ _ _ all-room s.0 s.1 16384 (sym all-cells) refl

    pub named-few-refused : {v : Cause} → Steps (named_in keys archive (lent_of t) name (length out)) (lent_of t) (Err v) out left × Later (number_of (row_of v))
        → MarkedAs (step_back_to_mark keys archive t.held name (length out) 16384) out (number_of (row_of v)) 0 left t.held
    named-few-refused {v} s =
        ends-marked (subst (λ k. EndsMarked (step_back_to_mark keys archive t.held name (length out) k) out cells (number_of (row_of v)) 0 left cells t.held) all-cells
        (named-refusal keys archive t.held (lent_of t) w.same out cells name (named-cells s)))

    pub named-few-done : {b : Back} {marks : List Mark} → Steps (named_in keys archive (lent_of t) name (length out)) (lent_of t) (Ok b) out left × Later 0 → marks ≡ marks_after (dropping b.versions t.held b.to) t.held
        → MarkedAs (step_back_to_mark keys archive t.held name (length out) 16384) out 0 b.length left marks
    named-few-done {b} {marks} s e =
        ends-marked (subst (λ k. EndsMarked (step_back_to_mark keys archive t.held name (length out) k) out cells 0 b.length left cells marks) all-cells
        (named-done keys archive t.held (lent_of t) w.same out cells name (named-cells s) e))

    pub named-few-dropped : {A : Type 0} {b : Back} {u : Refusal} → Steps (named_in keys archive (lent_of t) name (length out)) (lent_of t) (Ok b) out left × Later 0 → refused u ≡ tabled (dropping b.versions t.held b.to) → A
    named-few-dropped {b = b} s e = named-dropped keys archive t.held (lent_of t) w.same out cells name (named-cells s) (refused-done (dropping b.versions t.held b.to) e)
