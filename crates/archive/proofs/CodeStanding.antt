-- The proof of `CodeStanding` (specs/Runs.antt): one claim about any run of the code's calls, and any two.
use Rattle.std.specs.Prelude.{ℕ, ◌≡◌, length, take}
use Rattle.std.proofs.Math.Path.{refl, sym, ap, subst}
use Rattle.std.proofs.Common.{◌∙◌, ap₂, eq-eqb, eqb-true}
use Rattle.std.proofs.Math.Bool.{true, false}
use mathlib.Core.List.{List, [], ◌∷◌, ◌++◌, map, append-nil, append_assoc}
use Rattle.std.proofs.Math.Dec.{eqb}
use Rattle.std.proofs.Math.Seq.{take-append_seam}
use Rattle.xml.specs.Bytes.{Bytes, keep}
use Rattle.xml.specs.Truth.{by-test}
use Rattle.xml.specs.Forest.{Forest, write}
use Rattle.keys.specs.Result.{ok}
use Rattle.keys.specs.KeyList.{KeyList, key_list}
use Rattle.keys.specs.Address.{holds}
use Rattle.keys.specs.Alike.{EachInAnyOrder}
use Rattle.timestamp.specs.Times.{write_times}
use Rattle.marks.specs.declared.Mark.{Mark}
use Rattle.marks.specs.Marks.{LegalMarks, entries, find, up_to}
use Rattle.versions.specs.Archive.{archive_of}
use Rattle.versions.specs.Calls.{Answer, Marked, FoundMark, found, add, retrieve, history, find_mark, step_back, step_back_to_mark, version_at, out_after}
use Rattle.versions.specs.Shelf.{Call, Founding, Lent, Shelf, shelved_to, shelved_at, shelved, last_result, archive_after, call, hand_on, last_lent, versions_of, lent_of_shelf, shelf_after, founded_lent, result, founded_shelf, shelf_of as shelf_of_list, standing, SameVersions, Founded}
use Rattle.versions.proofs.Standing.{Held, step, refused-step, first, demand-3}
use Rattle.archive.specs.Runs.{Exit, given, Meets, MeetsMarked, Returns, Function, Stepping, Setting, Finding, Code, SameLent, SameExit, given_or, Step, adds, backs, names, marks, number_at, call_of, CalledWith, next, Follow, last_next, Adds, no_more, and-more, AddsAndBack, founded_with, Run, founded_from, lent_left, archive_left, table_left, shelf_from, shelf_of, standing_of, RunKept, RunsAgree, RunsAgreeMarked, CodeStanding}

-- what a call gives is its answer's bytes
given_is : (a : ℕ → ℕ → Answer) (e : Exit) → Meets a e → given e ≡ (a (length e.out) e.cells).bytes
unfolding out_after
given_is a e m =
    let x = a (length e.out) e.cells in
    ap (λ n. take n e.left) m.size_is ∙ ap (take (length x.bytes)) m.out-is ∙ take-append_seam x.bytes _

-- two calls with one answer
equal-exit : (a b : ℕ → ℕ → Answer) (d e : Exit) → a (length d.out) d.cells ≡ b (length e.out) e.cells → Meets a d → Meets b e → SameExit d e
equal-exit a b d e z m n = (
  m.number_is ∙ ap (λ x. x.number) z ∙ sym n.number_is,
  m.size_is ∙ ap (λ x. length x.bytes) z ∙ sym n.size_is,
  given_is a d m ∙ ap (λ x. x.bytes) z ∙ sym (given_is b e n),
)

-- one call asked twice
same-exit : (a : ℕ → ℕ → Answer) (d e : Exit) → SameLent d e → Meets a d → Meets a e → SameExit d e
same-exit a d e l m n = equal-exit a a d e (rw (l.0, l.1) refl) m n

-- a call with these arguments
asked_is : {Asked : Type 0} {answers : Asked → ℕ → ℕ → Answer} (F : Function Asked answers) (x : F.At) (a : Asked) → F.args x ≡ a → Meets (answers a) (F.exit x)
asked_is {answers = answers} F x a e = subst (λ b. Meets (answers b) (F.exit x)) e (F.meets x)

stepped-is : {Asked : Type 0} {answers : Asked → ℕ → ℕ → Marked} (F : Stepping Asked answers) (x : F.At) (a : Asked) → F.args x ≡ a → MeetsMarked (answers a) (F.exit x) (F.table x)
stepped-is {answers = answers} F x a e = subst (λ b. MeetsMarked (answers b) (F.exit x) (F.table x)) e (F.meets x)

set_is : {Asked : Type 0} {answers : Asked → ℕ → Marked} (F : Setting Asked answers) (x : F.At) (a : Asked) → F.args x ≡ a
    → Returns (answers a (F.return x).cells).answer (F.return x) × (F.table x ≡ (answers a (F.return x).cells).table)
set_is {answers = answers} F x a e = subst (λ b. Returns (answers b (F.return x).cells).answer (F.return x) × (F.table x ≡ (answers b (F.return x).cells).table)) e (F.meets x)

found-is : {Asked : Type 0} {answers : Asked → ℕ → FoundMark} (F : Finding Asked answers) (x : F.At) (a : Asked) → F.args x ≡ a
    → Returns (answers a (F.return x).cells).answer (F.return x) × (F.version x ≡ (answers a (F.return x).cells).version)
found-is {answers = answers} F x a e = subst (λ b. Returns (answers b (F.return x).cells).answer (F.return x) × (F.version x ≡ (answers b (F.return x).cells).version)) e (F.meets x)

-- two steps back that come to the same, and are lent spaces of equal lengths
same-steps : (a b : ℕ → ℕ → Marked) (d e : Exit) (s t : List Mark) → ((out work : ℕ) → work ≡ d.cells → a out work ≡ b out work) → SameLent d e → MeetsMarked a d s → MeetsMarked b e t
    → SameExit d e × (s ≡ t)
same-steps a b d e s t h l m n =
    let z : a (length d.out) d.cells ≡ b (length e.out) e.cells = h _ _ refl ∙ ap₂ b l.0 l.1 in
    (equal-exit (λ o w. (a o w).answer) (λ o w. (b o w).answer) d e (ap (λ x. x.answer) z) m.told n.told, m.table_is ∙ ap (λ x. x.table) z ∙ sym n.table_is)

-- the archive handed on
last-is : (archive : Bytes) (a : ℕ → ℕ → Answer) (e : Exit) → Meets a e → given_or archive e ≡ last_result archive (a (length e.out) e.cells)
last-is archive a e m = ap₂ (λ (n : ℕ) (s : Bytes). elim (eqb n 0) as (λ _. Bytes) [ true ↦ s | false ↦ archive ]) m.number_is (given_is a e m)

lent_same : {a b : Bytes} {s t : List Mark} → a ≡ b → s ≡ t → ◌≡◌ {A = Lent} (record { archive = a; table = s }) (record { archive = b; table = t })
lent_same p q = ap₂ (λ (x : Bytes) (y : List Mark). record { archive = x; table = y }) p q

module _ (C : Code) (keys : Bytes) where
  -- a step returns and hands on what the call does
  step_is : (l : Lent) (s : Step C) → CalledWith C keys l s → (number_at C s ≡ (call keys l (call_of C s)).answer.number) × (next C l s ≡ hand_on keys l (call_of C s))
  unfolding call hand_on archive_after
  step_is l (adds x) w =
      let e = C.adds.exit x in
      let a = C.adds.args x in
      let m = asked_is C.adds x (keys, l.archive, a.2) (ap₂ (λ (p q : Bytes). (p, q, a.2)) w.0 w.1) in
      (m.number_is, lent_same (last-is l.archive (add keys a.2 l.archive) e m) refl)
  step_is l (backs x) w =
      let e = C.backs.exit x in
      let i = (C.backs.args x).3 in
      let m = stepped-is C.backs x (keys, l.archive, l.table, i) (rw (← w.0, ← w.1, ← w.2) refl) in
      (m.told.number_is, lent_same (last-is l.archive (λ o c. (step_back keys l.archive l.table i o c).answer) e m.told) m.table_is)
  step_is l (names x) w =
      let e = C.names.exit x in
      let i = (C.names.args x).3 in
      let m = stepped-is C.names x (keys, l.archive, l.table, i) (rw (← w.0, ← w.1, ← w.2) refl) in
      (m.told.number_is, lent_same (last-is l.archive (λ o c. (step_back_to_mark keys l.archive l.table i o c).answer) e m.told) m.table_is)
  step_is l (marks x) w =
      let n = (C.marks.args x).3 in
      let i = (C.marks.args x).4 in
      let m = set_is C.marks x (keys, l.archive, l.table, n, i) (rw (← w.0, ← w.1, ← w.2) refl) in
      (m.0.0, lent_same refl m.1)

  -- the steps of a run hand on what the list of their calls does
  lent_is : (ss : List (Step C)) (l : Lent) → Follow C keys l ss → last_next C l ss ≡ last_lent keys l (map (call_of C) ss)
  unfolding last_next last_lent Follow
  lent_is [] l w = refl
  lent_is (s ∷ ss) l w = lent_is ss (next C l s) w.1 ∙ ap (λ m. last_lent keys m (map (call_of C) ss)) (step_is l s w.0).1

  module _ (K : KeyList) (k : key_list keys ≡ ok K) where
    -- and feed the shelf as it does
    shelf-is : (xs : List (Step C)) (l : Lent) (s : Shelf) (vs : List Forest) → Held K s vs → l ≡ lent_of_shelf keys K s → Follow C keys l xs
        → shelf_from C keys s xs ≡ shelf_after keys K s (map (call_of C) xs)
    unfolding shelf_from Follow shelf_after
    shelf-is [] l s vs H a w = refl
    shelf-is (x ∷ xs) l s vs H a w =
        let c = call_of C x in
        let m = step_is l x w.0 in
        let n : number_at C x ≡ (call keys (lent_of_shelf keys K s) c).answer.number = m.0 ∙ ap (λ b. (call keys b c).answer.number) a in
        let g : next C l x ≡ hand_on keys (lent_of_shelf keys K s) c = m.1 ∙ ap (λ b. hand_on keys b c) a in
        by-test (eqb (number_at C x) 0)
        (λ t.
        let p : eqb (call keys (lent_of_shelf keys K s) c).answer.number 0 ≡ true = ap (λ j. eqb j 0) (sym n) ∙ t in
        let r = step keys K k c s vs H (eqb-true _ 0 p) in
        rw (t, p, shelf_after) (shelf-is xs (next C l x) (shelved c s) r.0 r.1 (g ∙ r.2) w.1))
        (λ t.
        let p : eqb (call keys (lent_of_shelf keys K s) c).answer.number 0 ≡ false = ap (λ j. eqb j 0) (sym n) ∙ t in
        rw (t, p, shelf_after) (shelf-is xs (next C l x) s vs H (g ∙ refused-step keys K k (lent_of_shelf keys K s) c p) w.1))

    -- the founding of a run, and the calls after it
    abbrev founding_of : Run C keys → Founding
    founding_of r = record { text = founded_from C keys r; out = length (C.founds.exit r.founding).out; work = (C.founds.exit r.founding).cells }

    abbrev calls_of : Run C keys → List Call
    calls_of r = map (call_of C) r.steps

    founding-meets : (r : Run C keys) → Meets (found keys (founded_from C keys r)) (C.founds.exit r.founding)
    founding-meets r = subst (λ b. Meets (found b (founded_from C keys r)) (C.founds.exit r.founding)) r.under-keys (C.founds.meets r.founding)

    founded : (r : Run C keys) → Founded keys (founding_of r)
    founded r = sym (founding-meets r).number_is ∙ r.succeeds

    first-lent : (r : Run C keys) → founded_with C keys r.founding ≡ founded_lent keys (founding_of r)
    unfolding founded_lent
    first-lent r = lent_same (given_is (found keys (founded_from C keys r)) (C.founds.exit r.founding) (founding-meets r)) refl

    -- the shelf by the numbers returned is the shelf by the table, and what is left is what the list hands on
    run-shelf : (r : Run C keys) → shelf_of C keys r ≡ shelf_of_list keys K (founding_of r) (calls_of r)
    unfolding shelf_of_list founded_shelf
    run-shelf r =
        let h = first keys K k (founding_of r) (founded r) in
        shelf-is r.steps (founded_with C keys r.founding) (founded_shelf keys (founding_of r)) h.0 h.1 (first-lent r ∙ h.2) r.follow

    run_lent : (r : Run C keys) → lent_left C keys r ≡ result keys (founding_of r) (calls_of r)
    unfolding result
    run_lent r = lent_is r.steps (founded_with C keys r.founding) r.follow ∙ ap (λ l. last_lent keys l (calls_of r)) (first-lent r)

    standing-is : (r : Run C keys) → standing_of C keys K r ≡ standing keys K (founding_of r) (calls_of r)
    unfolding standing
    standing-is r = ap (λ s. versions_of keys K s.texts) (run-shelf r)

    kept : (r : Run C keys) → RunKept C keys K r
    unfolding standing call shelved shelved_at
    kept r =
        let d = (demand-3 keys K k).each-list (founding_of r) (calls_of r) (founded r) in
        let R = result keys (founding_of r) (calls_of r) in
        let l = run_lent r in
        let h = run-shelf r in
        let v = standing-is r in
        record {
          archive-kept = ap (λ b. b.archive) l ∙ d.archive-kept ∙ ap (λ vs. write (archive_of K vs)) (sym v);
          version-kept = λ i x a n.
              let e = C.retrieves.exit x in
              let m = asked_is C.retrieves x (keys, R.archive, i) (a ∙ ap (λ b. (keys, b.archive, i)) l) in
              let w = d.version-kept i (length e.out) e.cells (sym m.number_is ∙ n) in
              (w.0, ap (version_at i) v ∙ w.1, given_is (retrieve keys R.archive i) e m ∙ w.2);
          history-kept = λ place x a n.
              let e = C.histories.exit x in
              let m = asked_is C.histories x (keys, R.archive, place) (a ∙ ap (λ b. (keys, b.archive, place)) l) in
              let w = d.history-kept place (length e.out) e.cells (sym m.number_is ∙ n) in
              (w.0, w.1, given_is (history keys R.archive place) e m ∙ w.2 ∙ ap (λ vs. write_times (map (holds K [] w.0) vs)) (sym v));
          table_kept = ap (λ b. b.table) l ∙ d.table_kept ∙ ap (λ s. entries s.marks) (sym h);
          marks-legal = subst (λ s. LegalMarks (length (versions_of keys K s.texts)) s.marks) (sym h) d.marks-legal;
          mark-kept = λ name x a n.
              let m = found-is C.finds x (keys, R.archive, R.table, name) (a ∙ ap (λ b. (keys, b.archive, b.table, name)) l) in
              let w = d.mark-kept name (C.finds.return x).cells (sym m.0.0 ∙ n) in
              (w.0, ap (λ s. find name s.marks) h ∙ w.1, m.1 ∙ w.2);
          name-kept = λ name i x y f a b q.
              let m = stepped-is C.names x (keys, R.archive, R.table, name) (a ∙ ap (λ b. (keys, b.archive, b.table, name)) l) in
              let n = stepped-is C.backs y (keys, R.archive, R.table, i.version) (b ∙ ap (λ b. (keys, b.archive, b.table, i.version)) l) in
              let z = same-steps (step_back_to_mark keys R.archive R.table name) (step_back keys R.archive R.table i.version) (C.names.exit x) (C.backs.exit y) _ _
              (λ out work e. (d.name-kept name i out work [] (ap (λ s. find name s.marks) (sym h) ∙ f)).0) q m n in
              let s = shelf_of C keys r in
              (z.0, z.1, ap (λ j. shelved_at (find j s.marks) s) (ap (λ c. c.3) a) ∙ ap (λ j. shelved_at j s) f ∙ ap (λ j. shelved_to j s) (sym (ap (λ c. c.3) b)));
        }

    agree : (r s : Run C keys) → SameVersions keys K (shelf_of C keys r).texts (shelf_of C keys s).texts → RunsAgree C keys r s
    agree r s h =
        let w : Shelf → List Bytes = λ z. map write (versions_of keys K z.texts) in
        let d = (demand-3 keys K k).two-lists (founding_of r) (founding_of s) (calls_of r) (calls_of s) (founded r) (founded s)
        (ap w (sym (run-shelf r)) ∙ h ∙ ap w (run-shelf s)) in
        let e : archive_left C keys r ≡ archive_left C keys s = ap (λ b. b.archive) (run_lent r) ∙ d.equal-archives ∙ sym (ap (λ b. b.archive) (run_lent s)) in
        record {
          equal-archives = e;
          equal-retrievals = λ i x y a b l.
              same-exit (retrieve keys (archive_left C keys s) i) (C.retrieves.exit x) (C.retrieves.exit y) l
              (asked_is C.retrieves x (keys, archive_left C keys s, i) (a ∙ ap (λ z. (keys, z, i)) e)) (asked_is C.retrieves y (keys, archive_left C keys s, i) b);
          equal-histories = λ place x y a b l.
              same-exit (history keys (archive_left C keys s) place) (C.histories.exit x) (C.histories.exit y) l
              (asked_is C.histories x (keys, archive_left C keys s, place) (a ∙ ap (λ z. (keys, z, place)) e)) (asked_is C.histories y (keys, archive_left C keys s, place) b);
        }

    agree-marked : (r s : Run C keys) → SameVersions keys K (shelf_of C keys r).texts (shelf_of C keys s).texts → (shelf_of C keys r).marks ≡ (shelf_of C keys s).marks
        → RunsAgreeMarked C keys r s
    agree-marked r s h i =
        let g = agree r s h in
        let t : table_left C keys r ≡ table_left C keys s = (kept r).table_kept ∙ ap entries i ∙ sym (kept s).table_kept in
        record {
          agree = g;
          equal-tables = t;
          equal-findings = λ name x y a b c.
              let F : ℕ → FoundMark = find_mark keys (archive_left C keys s) (table_left C keys s) name in
              let m = found-is C.finds x (keys, archive_left C keys s, table_left C keys s, name) (a ∙ ap₂ (λ (p : Bytes) (q : List Mark). (keys, p, q, name)) g.equal-archives t) in
              let n = found-is C.finds y (keys, archive_left C keys s, table_left C keys s, name) b in (
                m.0.0 ∙ ap (λ j. (F j).answer.number) c ∙ sym n.0.0,
                m.0.1 ∙ ap (λ j. length (F j).answer.bytes) c ∙ sym n.0.1,
                m.1 ∙ ap (λ j. (F j).version) c ∙ sym n.1,
              );
        }

    orders : (r s : Run C keys) → EachInAnyOrder K (shelf_of C keys r).texts (shelf_of C keys s).texts → RunsAgree C keys r s
    orders r s h = agree r s ((demand-3 keys K k).same-orders (shelf_of C keys r).texts (shelf_of C keys s).texts h)

    -- a step that is not refused feeds the shelf
    step-shelved : (x : Step C) (xs : List (Step C)) (s : Shelf) → number_at C x ≡ 0 → shelf_from C keys s (x ∷ xs) ≡ shelf_from C keys (shelved (call_of C x) s) xs
    unfolding shelf_from
    step-shelved x xs s n =
        ap (λ b. shelf_from C keys (elim b as (λ _. Shelf) [ true ↦ shelved (call_of C x) s | false ↦ s ]) xs) (eq-eqb (number_at C x) 0 n)

    -- where no add is refused, the shelf holds the texts of all, and no mark
    abbrev shelf_with : List Bytes → Shelf
    shelf_with texts = record { texts = texts; marks = [] }

    adds-shelved : {ts : List Bytes} {xs : List (Step C)} (us : List (Step C)) (texts : List Bytes) → Adds C ts xs
        → shelf_from C keys (shelf_with texts) (xs ++ us) ≡ shelf_from C keys (shelf_with (texts ++ ts)) us
    unfolding shelved
    adds-shelved us texts no_more = ap (λ l. shelf_from C keys (shelf_with l) us) (sym (append-nil texts))
    adds-shelved us texts (and-more {ts} {ss} x n a) =
        step-shelved (adds x) (ss ++ us) (shelf_with texts) n ∙ adds-shelved us (texts ++ (C.adds.args x).2 ∷ []) a
        ∙ ap (λ l. shelf_from C keys (shelf_with l) us) (append_assoc texts ((C.adds.args x).2 ∷ []) ts)

    back : (r s : Run C keys) (ss ts : List Bytes) (i : ℕ) → AddsAndBack C ss i r.steps → Adds C ts s.steps
        → SameVersions keys K (take i (founded_from C keys r ∷ ss)) (founded_from C keys s ∷ ts) → RunsAgreeMarked C keys r s
    unfolding shelf_from shelved shelved_to up_to keep
    back r s ss ts i a b h =
        let x : shelf_of C keys r ≡ shelf_with (take i (founded_from C keys r ∷ ss)) =
        ap (shelf_from C keys (shelf_with (founded_from C keys r ∷ []))) a.steps-are ∙ adds-shelved (backs a.last ∷ []) (founded_from C keys r ∷ []) a.all-added
        ∙ step-shelved (backs a.last) [] (shelf_with (founded_from C keys r ∷ ss)) a.not-refused ∙ ap (λ j. shelf_with (take j (founded_from C keys r ∷ ss))) a.back_to in
        let y : shelf_of C keys s ≡ shelf_with (founded_from C keys s ∷ ts) =
        ap (shelf_from C keys (shelf_with (founded_from C keys s ∷ []))) (sym (append-nil s.steps)) ∙ adds-shelved [] (founded_from C keys s ∷ []) b in
        let w : Shelf → List Bytes = λ z. map write (versions_of keys K z.texts) in
        agree-marked r s (ap w x ∙ h ∙ sym (ap w y)) (ap (λ z. z.marks) x ∙ sym (ap (λ z. z.marks) y))

    named : (archive : Bytes) (table : List Mark) (name : Bytes) (x : C.finds.At) (y : C.names.At) (z : C.backs.At)
        → C.finds.args x ≡ (keys, archive, table, name) → (C.finds.return x).number ≡ 0 → (C.finds.return x).cells ≡ (C.names.exit y).cells
        → C.names.args y ≡ (keys, archive, table, name) → C.backs.args z ≡ (keys, archive, table, C.finds.version x)
        → SameLent (C.names.exit y) (C.backs.exit z)
        → SameExit (C.names.exit y) (C.backs.exit z) × (C.names.table y ≡ C.backs.table z)
    named archive table name x y z a o c b d l =
        let f = found-is C.finds x (keys, archive, table, name) a in
        let v = C.finds.version x in
        same-steps (step_back_to_mark keys archive table name) (step_back keys archive table v) (C.names.exit y) (C.backs.exit z) _ _
        (λ out work e.
        let t : (C.finds.return x).cells ≡ work = c ∙ sym e in
        (demand-3 keys K k).by_name archive table name v out work (ap (λ j. (find_mark keys archive table name j).answer.number) (sym t) ∙ sym f.0.0 ∙ o)
        (ap (λ j. (find_mark keys archive table name j).version) (sym t) ∙ sym f.1))
        l (stepped-is C.names y (keys, archive, table, name) b) (stepped-is C.backs z (keys, archive, table, v) d)

    -- Demand 3 of the code: any run of its calls, and any two
    pub code-standing : CodeStanding C keys K
    code-standing = record { each-run = kept; two_runs = agree; two-shelves = agree-marked; two-orders = orders; stepped-back = back; by_name = named }
