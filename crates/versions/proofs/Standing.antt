-- "The versions standing": demand 3, by induction over the list of calls.
use Rattle.std.specs.Prelude.{ℕ, zero, suc, ◌≤◌, ◌<◌, ◌≡◌, eqb, ltb, T, take}
use Rattle.std.proofs.Common.{arith, ◌∙◌, subst, eqb→eq, eq-eqb, ltb-true, ltb-false}
use Rattle.std.proofs.Math.Path.{refl, sym, ap, ap₂}
use Rattle.std.proofs.Math.Bool.{Bool, true, false}
use mathlib.Core.List.{List, [], ◌∷◌, ◌++◌, map, append-nil, append_assoc}
use Rattle.std.proofs.Math.Dec.{lit≤}
use Rattle.std.proofs.lemmas.Bool.{eqb-false, not-false}
use Rattle.std.proofs.Math.ListN.{length, length-append}
use Rattle.std.proofs.Math.Seq.{length-take-le}
use Rattle.xml.specs.Bytes.{Bytes, all, keep, same}
use Rattle.xml.specs.Forest.{Forest, write, nodes}
use Rattle.keys.specs.Result.{Result, refused, ok, r11, r15, r16}
use Rattle.keys.specs.ResultLaws.{refused-ok}
use Rattle.keys.specs.KeyList.{KeyList, key_list}
use Rattle.keys.specs.Version.{version}
use Rattle.xml.specs.Truth.{bool_by, by-test, and_left, and_right, and_both}
use Rattle.xml.specs.BytesLaws.{same-is}
use Rattle.keys.specs.Versions.{version-legal, same_version}
use Rattle.keys.specs.Alike.{EachInAnyOrder}
use Rattle.keys.proofs.AlikeKept.{any_order, any-order-all}
use Rattle.marks.specs.declared.Mark.{Mark}
use Rattle.marks.specs.Marks.{Named, is_mark_name, in_range, is_mark, entries, marks_in, LegalMarks, legal_name, find, not_held, not_full, standing as in_versions, up_to, marks_compute}
use Rattle.marks.specs.Promises.{marks-legal, legal-marks, legal-more, legal-set, legal-back}
use Rattle.versions.specs.LegalLaws.{all-legal, read_back}
use Rattle.versions.specs.Adequate.{back-nodes}
use Rattle.versions.specs.Archive.{archive_of, archive_text, Versions, empty, more}
use Rattle.versions.specs.Calls.{answer, Given, Marked, marked, found_mark, find_mark, step_back, step_back_to_mark}
use Rattle.versions.specs.CallLaws.{refuse-ok, found_ok, add_ok, back-ok, back-to-mark-ok, set-ok, find-ok, held-name, by_name, retrieve-ok, history-ok, storable-ok, not_full-ok}
use Rattle.versions.proofs.CallsKept.{back-kept, back-to-mark-kept, set-kept, by-no-name}
use Rattle.versions.specs.Shelf.{Call, adding, back_to, back_to_mark, marking, Founding, Lent, Shelf, shelved_to, shelved_at, shelved, last_result, archive_after, call, hand_on, last_lent, versions_of, archive_of_shelf, lent_of_shelf, shelf_after, founded_lent, result, founded_shelf, shelf_of, shelf_texts, shelf_marks, standing, looked_for, Kept, SameVersions, SameShelf, Agree, AgreeMarked, Founded, Unrefused, NoneRefused, Adds, no_more, and-more, VersionsStanding}

module _ (K : KeyList) where
  versions-snoc : {ss : List Bytes} {vs : List Forest} (s : Bytes) (v : Forest) → Versions K ss vs → version K s ≡ ok v → Versions K (ss ++ s ∷ []) (vs ++ v ∷ [])
  versions-snoc s v empty e = more e empty
  versions-snoc s v (more d h) e = more d (versions-snoc s v h e)

  versions-take : {ss : List Bytes} {vs : List Forest} → (i : ℕ) → Versions K ss vs → Versions K (take i ss) (take i vs)
  versions-take zero h = empty
  versions-take (suc i) empty = empty
  versions-take (suc i) (more d h) = more d (versions-take i h)

  versions_of-are : (keys : Bytes) {ss : List Bytes} {vs : List Forest} → Versions K ss vs → versions_of keys K ss ≡ vs
  unfolding versions_of
  versions_of-are keys empty = refl
  versions_of-are keys (more d h) = rw (d, versions_of) (rw (versions_of-are keys h) refl)

true-T : (b : Bool) → b ≡ true → T b
true-T true e = tt
true-T false e = let z : ◌≡◌ {A = ℕ} 0 1 = cc in omega arith

-- what a shelf keeps to: its texts are legal versions, 1 to 999 of them, their archive has at most 1,024 nodes, and its marks are legal ones
-- of so many versions
pub record Held (K : KeyList) (s : Shelf) (vs : List Forest) : Type 0 where
  pub legal : Versions K s.texts vs
  pub there : 1 ≤ length vs
  pub counted : length vs ≤ 999
  pub small : nodes (archive_of K vs) ≤ 1024
  pub lawful : LegalMarks (length vs) s.marks

-- a mark that may be set keeps them legal
pub set-lawful : (n : ℕ) (ks : List Named) (name : Bytes) (i : ℕ) → LegalMarks n ks → legal_name name ≡ ok tt → not_held name ks ≡ ok tt → not_full ks ≡ ok tt → in_versions n i ≡ ok tt
    → LegalMarks n (ks ++ record { name = name; version = i } ∷ [])
unfolding legal_name not_held not_full in_versions is_mark
set-lawful n ks name i L p q r s =
    let f = L.few in
    let l : length ks < 32 = below (length ks) f (eqb-false (length ks) 32 (refuse-ok r16 _ r)) in
    legal-set n ks (record { name = name; version = i }) L l
    (and_both (is_mark_name name) (in_range n i) (not-false (is_mark_name name) (refuse-ok r15 _ p)) (not-false (in_range n i) (refuse-ok r11 _ s))) (refuse-ok r15 _ q)
  where
    below : (k : ℕ) → k ≤ 32 → (k ≡ 32 → ⊥) → k < 32
    below k a b = bool_by (λ _. k < 32) (ltb k 32) (λ e. ltb-true k 32 e) (λ e. absurd (b (omega (arith, ltb-false k 32 e))))

-- a legal mark's name is legal
found-legal : (n : ℕ) (ks : List Named) (name : Bytes) (x : Named) → all (is_mark n) ks ≡ true → find name ks ≡ ok x → legal_name name ≡ ok tt
unfolding all find legal_name is_mark
found-legal n [] name x g e = refused-ok e
found-legal n (y ∷ ks) name x g e = by-test (same name y.name)
    (λ s. rw (same-is name y.name s, and_left (is_mark_name y.name) _ (and_left (is_mark n y) _ g)) refl)
    (λ s. found-legal n ks name x (and_right (is_mark n y) _ g) (rw (s, find) at e))

module _ (keys : Bytes) (K : KeyList) (k : key_list keys ≡ ok K) where
  pub archive-is : {s : Shelf} {vs : List Forest} → Held K s vs → archive_of_shelf keys K s.texts ≡ write (archive_of K vs)
  unfolding archive_of_shelf
  archive-is H = rw (versions_of-are K keys H.legal) refl

  pub read_held : {s : Shelf} {vs : List Forest} → Held K s vs → archive_text K (archive_of_shelf keys K s.texts) ≡ ok vs
  read_held H = rw (archive-is H) (read_back keys K k _ (all-legal keys K k H.legal) H.there H.counted H.small)

  marks-held : {s : Shelf} {vs : List Forest} → Held K s vs → marks_in (length vs) (entries s.marks) ≡ ok s.marks
  marks-held {s} {vs} H = legal-marks (length vs) s.marks H.lawful

  -- the archive of a shelf with these versions, and the table of these marks
  lent_is : (s : Shelf) (vs : List Forest) → Held K s vs → (archive : Bytes) (table : List Mark) → archive ≡ write (archive_of K vs) → table ≡ entries s.marks
      → record { archive = archive; table = table } ≡ lent_of_shelf keys K s
  unfolding lent_of_shelf
  lent_is s vs H archive table a t = ap₂ (λ (x : Bytes) (y : List Mark). record { archive = x; table = y }) (a ∙ sym (archive-is H)) t

  -- a step back, by number or by name
  back-held : (i : ℕ) (s : Shelf) (vs : List Forest) → Held K s vs → 1 ≤ i → i ≤ length vs → Held K (shelved_to i s) (take i vs)
  unfolding shelved_to
  back-held i s vs H a b =
      let l : length (take i vs) ≡ i = length-take-le i vs b in
      record {
        legal = versions-take K i H.legal;
        there = rw l a;
        counted = rw l (omega (arith, H.counted));
        small = omega (arith, H.small, back-nodes keys K k vs (all-legal keys K k H.legal) i a b H.there H.counted);
        lawful = rw l (legal-back (length vs) i s.marks H.lawful);
      }

  -- what a call that is not refused hands on
  given : (l : Lent) (c : Call) (g : Given) → call keys l c ≡ marked l.table (ok g) → last_result l.archive (call keys l c).answer ≡ g.text
  unfolding marked answer
  given l c g e = ap (λ m. last_result l.archive m.answer) e

  given-table : (l : Lent) (c : Call) (g : Given) → call keys l c ≡ marked l.table (ok g) → (call keys l c).table ≡ entries g.marks
  unfolding marked
  given-table l c g e = ap (λ m. m.table) e

  pub step : (c : Call) (s : Shelf) (vs : List Forest) → Held K s vs → (call keys (lent_of_shelf keys K s) c).answer.number ≡ 0
      → (us : List Forest) × Held K (shelved c s) us × (hand_on keys (lent_of_shelf keys K s) c ≡ lent_of_shelf keys K (shelved c s))
  unfolding call shelved lent_of_shelf hand_on archive_after shelved_to shelved_at
  step (adding t out work) s vs H h =
      let r = add_ok keys K k (archive_of_shelf keys K s.texts) vs (read_held H) t out work h in
      let H' : Held K (record { texts = s.texts ++ t ∷ []; marks = s.marks }) (vs ++ r.0 ∷ []) = record {
        legal = versions-snoc K t r.0 H.legal r.1;
        there = rw length-append (omega arith);
        counted = let n = not_full-ok vs r.2 in rw length-append (omega (arith, H.counted));
        small = storable-ok _ r.3;
        lawful = legal-more (length vs) (length (vs ++ r.0 ∷ [])) s.marks (rw length-append (omega arith)) H.lawful;
      } in
      (vs ++ r.0 ∷ [], H', lent_is _ (vs ++ r.0 ∷ []) H' _ _ (rw (eq-eqb _ 0 h, last_result) r.4) refl)
  step (back_to i out work) s vs H h =
      let r = back-ok keys K k (archive_of_shelf keys K s.texts) vs (read_held H) (entries s.marks) s.marks (marks-held H) i out work h in
      let H' = back-held i s vs H r.0 r.1 in
      (take i vs, H', lent_is _ (take i vs) H' _ _ (given (lent_of_shelf keys K s) (back_to i out work) _ r.2) (given-table (lent_of_shelf keys K s) (back_to i out work) _ r.2))
  step (back_to_mark name out work) s vs H h =
      let r = back-to-mark-ok keys K k (archive_of_shelf keys K s.texts) vs (read_held H) (entries s.marks) s.marks (marks-held H) name out work h in
      let H' = back-held r.0.version s vs H r.2 r.3 in
      rw r.1 (take r.0.version vs, H', lent_is _ (take r.0.version vs) H' _ _ (given (lent_of_shelf keys K s) (back_to_mark name out work) _ r.4) (given-table (lent_of_shelf keys K s) (back_to_mark name out work) _ r.4))
  step (marking name i work) s vs H h =
      let r = set-ok keys K k (archive_of_shelf keys K s.texts) vs (read_held H) (entries s.marks) s.marks (marks-held H) name i work h in
      let H' : Held K (record { texts = s.texts; marks = s.marks ++ record { name = name; version = i } ∷ [] }) vs = record {
        legal = H.legal;
        there = H.there;
        counted = H.counted;
        small = H.small;
        lawful = set-lawful (length vs) s.marks name i H.lawful r.0 r.1 r.2 r.3;
      } in
      (vs, H', lent_is _ vs H' _ _ (archive-is H) (given-table (lent_of_shelf keys K s) (marking name i work) _ r.4))

  -- a call that is refused hands on what it was lent
  pub refused-step : (l : Lent) (c : Call) → eqb (call keys l c).answer.number 0 ≡ false → hand_on keys l c ≡ l
  unfolding call hand_on archive_after
  refused-step l (adding t out work) e = rw (e, last_result) refl
  refused-step l (back_to i out work) e = rw (e, last_result) (ap (λ t. record { archive = l.archive; table = t }) (back-kept keys l.archive l.table out work i (eqb-false _ 0 e)))
  refused-step l (back_to_mark name out work) e = rw (e, last_result) (ap (λ t. record { archive = l.archive; table = t }) (back-to-mark-kept keys l.archive l.table out work name (eqb-false _ 0 e)))
  refused-step l (marking name i work) e = ap (λ t. record { archive = l.archive; table = t }) (set-kept keys l.archive l.table name i work (eqb-false _ 0 e))

  held : (cs : List Call) (s : Shelf) (vs : List Forest) → Held K s vs
      → (us : List Forest) × Held K (shelf_after keys K s cs) us × (last_lent keys (lent_of_shelf keys K s) cs ≡ lent_of_shelf keys K (shelf_after keys K s cs))
  unfolding shelf_after last_lent
  held [] s vs H = (vs, H, refl)
  held (c ∷ cs) s vs H =
      bool_by G (eqb (call keys (lent_of_shelf keys K s) c).answer.number 0)
      (λ e. let r = step c s vs H (eqb→eq _ 0 (true-T _ e)) in
      let q = held cs (shelved c s) r.0 r.1 in
      (q.0, q.1, ap (λ l. last_lent keys l cs) r.2 ∙ q.2))
      (λ e. let q = held cs s vs H in
      (q.0, q.1, ap (λ l. last_lent keys l cs) (refused-step (lent_of_shelf keys K s) c e) ∙ q.2))
    where
      G : Bool → Type 0
      G b = (us : List Forest) × Held K (elim b [ true ↦ shelf_after keys K (shelved c s) cs | false ↦ shelf_after keys K s cs ]) us
          × (last_lent keys (hand_on keys (lent_of_shelf keys K s) c) cs
          ≡ lent_of_shelf keys K (elim b [ true ↦ shelf_after keys K (shelved c s) cs | false ↦ shelf_after keys K s cs ]))

  -- the shelf, its versions and what is handed on after a list that was founded
  record After (f : Founding) (cs : List Call) : Type 0 where
    versions : List Forest
    still : Held K (shelf_of keys K f cs) versions
    kept : result keys f cs ≡ lent_of_shelf keys K (shelf_of keys K f cs)

  -- the founding: its shelf, and the archive that it gives
  pub first : (f : Founding) → Founded keys f → (vs : List Forest) × Held K (founded_shelf keys f) vs × (founded_lent keys f ≡ lent_of_shelf keys K (founded_shelf keys f))
  unfolding founded_shelf founded_lent marks_compute
  first f h =
      let r = found_ok keys K k f.text f.out f.work h in
      let H : Held K (founded_shelf keys f) (r.0 ∷ []) = record {
        legal = more r.1 empty;
        there = lit≤ tt;
        counted = lit≤ tt;
        small = storable-ok _ r.2;
        lawful = (marks-legal 1 (entries []) refl).0;
      } in
      (r.0 ∷ [], H, lent_is (founded_shelf keys f) (r.0 ∷ []) H _ _ r.3 refl)

  after : (f : Founding) (cs : List Call) → Founded keys f → After f cs
  unfolding result shelf_of
  after f cs h =
      let r = first f h in
      let q = held cs (founded_shelf keys f) r.0 r.1 in
      record { versions = q.0; still = q.1; kept = ap (λ l. last_lent keys l cs) r.2 ∙ q.2 }

  standing-are : (f : Founding) (cs : List Call) (A : After f cs) → standing keys K f cs ≡ A.versions
  unfolding standing
  standing-are f cs A = versions_of-are K keys A.still.legal

  archive-after : (f : Founding) (cs : List Call) (A : After f cs) → (result keys f cs).archive ≡ archive_of_shelf keys K (shelf_texts keys K f cs)
  unfolding lent_of_shelf
  archive-after f cs A = ap (λ l. l.archive) A.kept

  table-after : (f : Founding) (cs : List Call) (A : After f cs) → (result keys f cs).table ≡ entries (shelf_marks keys K f cs)
  unfolding lent_of_shelf
  table-after f cs A = ap (λ l. l.table) A.kept

  read-after : (f : Founding) (cs : List Call) (A : After f cs) → archive_text K (result keys f cs).archive ≡ ok A.versions
  read-after f cs A = rw (archive-after f cs A) (read_held A.still)

  marks-after : (f : Founding) (cs : List Call) (A : After f cs) → marks_in (length A.versions) (result keys f cs).table ≡ ok (shelf_marks keys K f cs)
  marks-after f cs A = rw (table-after f cs A) (marks-held A.still)

  -- a mark that is found is the shelf's
  found_after_lem : (f : Founding) (cs : List Call) (A : After f cs) (name : Bytes) (work : ℕ) → (looked_for keys f cs name work).answer.number ≡ 0
      → (x : Named) × (find name (shelf_marks keys K f cs) ≡ ok x) × ((looked_for keys f cs name work).version ≡ x.version)
  unfolding found_mark
  found_after_lem f cs A name work h =
      let r = find-ok keys K k (result keys f cs).archive A.versions (read-after f cs A) (result keys f cs).table (shelf_marks keys K f cs) (marks-after f cs A) name work h in
      (r.0, r.1, ap (λ m. m.version) r.2)

  by_number : (archive : Bytes) (table : List Mark) (name : Bytes) (v out work : ℕ) → (find_mark keys archive table name work).answer.number ≡ 0
      → (find_mark keys archive table name work).version ≡ v → step_back_to_mark keys archive table name out work ≡ step_back keys archive table v out work
  by_number archive table name v out work h e = by_name keys archive table name out work h ∙ ap (λ i. step_back keys archive table i out work) e

  -- two calls that hand on the same and shelve the same, and whatever calls follow
  lent-more : (l : Lent) (cs ds : List Call) → last_lent keys l (cs ++ ds) ≡ last_lent keys (last_lent keys l cs) ds
  unfolding last_lent
  lent-more l [] ds = refl
  lent-more l (c ∷ cs) ds = lent-more (hand_on keys l c) cs ds

  shelf-more : (s : Shelf) (cs ds : List Call) → shelf_after keys K s (cs ++ ds) ≡ shelf_after keys K (shelf_after keys K s cs) ds
  unfolding shelf_after
  shelf-more s [] ds = refl
  shelf-more s (c ∷ cs) ds = by-test (eqb (call keys (lent_of_shelf keys K s) c).answer.number 0)
      (λ e. rw (e, shelf_after) (shelf-more (shelved c s) cs ds))
      (λ e. rw (e, shelf_after) (shelf-more s cs ds))

  shelf-next : (s : Shelf) (c d : Call) (ds : List Call) → call keys (lent_of_shelf keys K s) c ≡ call keys (lent_of_shelf keys K s) d → shelved c s ≡ shelved d s
      → shelf_after keys K s (c ∷ ds) ≡ shelf_after keys K s (d ∷ ds)
  unfolding shelf_after
  shelf-next s c d ds e h =
      ap₂ (λ (m : Marked) (t : Shelf). elim (eqb m.answer.number 0) as (λ _. Shelf) [ true ↦ shelf_after keys K t ds | false ↦ shelf_after keys K s ds ]) e h

  mark-handed : (l : Lent) (name : Bytes) (v out work : ℕ) → call keys l (back_to_mark name out work) ≡ call keys l (back_to v out work)
      → hand_on keys l (back_to_mark name out work) ≡ hand_on keys l (back_to v out work)
  unfolding hand_on archive_after
  mark-handed l name v out work e = ap (λ m. record { archive = last_result l.archive m.answer; table = m.table }) e

  mark-shelved : (s : Shelf) (name : Bytes) (out work : ℕ) (x : Named) → find name s.marks ≡ ok x → shelved (back_to_mark name out work) s ≡ shelved (back_to x.version out work) s
  unfolding shelved shelved_at
  mark-shelved s name out work x e = ap (λ r. shelved_at r s) e

  module _ (f : Founding) (cs : List Call) (A : After f cs) (name : Bytes) (x : Named) (out work : ℕ) (e : find name (shelf_marks keys K f cs) ≡ ok x) where
    same-call : call keys (result keys f cs) (back_to_mark name out work) ≡ call keys (result keys f cs) (back_to x.version out work)
    unfolding call
    same-call = held-name keys K k (result keys f cs).archive A.versions (read-after f cs A) (result keys f cs).table (shelf_marks keys K f cs) (marks-after f cs A) name x out work
        (found-legal (length A.versions) (shelf_marks keys K f cs) name x A.still.lawful.good e) e

    same-result : (ds : List Call) → result keys f (cs ++ back_to_mark name out work ∷ ds) ≡ result keys f (cs ++ back_to x.version out work ∷ ds)
    unfolding result last_lent
    same-result ds =
        lent-more (founded_lent keys f) cs (back_to_mark name out work ∷ ds)
        ∙ ap (λ l. last_lent keys l ds) (mark-handed (result keys f cs) name x.version out work same-call)
        ∙ sym (lent-more (founded_lent keys f) cs (back_to x.version out work ∷ ds))

    same-shelf : (ds : List Call) → shelf_of keys K f (cs ++ back_to_mark name out work ∷ ds) ≡ shelf_of keys K f (cs ++ back_to x.version out work ∷ ds)
    unfolding shelf_of
    same-shelf ds =
        shelf-more (founded_shelf keys f) cs (back_to_mark name out work ∷ ds)
        ∙ shelf-next (shelf_of keys K f cs) (back_to_mark name out work) (back_to x.version out work) ds
        (subst (λ l. call keys l (back_to_mark name out work) ≡ call keys l (back_to x.version out work)) A.kept same-call)
        (mark-shelved (shelf_of keys K f cs) name out work x e)
        ∙ sym (shelf-more (founded_shelf keys f) cs (back_to x.version out work ∷ ds))

  each : (f : Founding) (cs : List Call) → Founded keys f → Kept keys K f cs
  each f cs h =
      let A = after f cs h in
      record {
        archive-kept = rw (standing-are f cs A) (archive-after f cs A ∙ archive-is A.still);
        version-kept = λ i out work n. rw (standing-are f cs A) (retrieve-ok keys K k (result keys f cs).archive A.versions (read-after f cs A) i out work n);
        history-kept = λ place out work n. rw (standing-are f cs A) (history-ok keys K k (result keys f cs).archive A.versions (read-after f cs A) place out work n);
        table_kept = table-after f cs A;
        marks-legal = rw (standing-are f cs A) A.still.lawful;
        mark-kept = λ name work n. found_after_lem f cs A name work n;
        name-kept = λ name x out work ds e. (
          same-call f cs A name x out work e,
          mark-shelved (shelf_of keys K f cs) name out work x e,
          same-result f cs A name x out work e ds,
          same-shelf f cs A name x out work e ds,
        );
      }

  same_versions : {ss ts : List Bytes} {vs ws : List Forest} → Versions K ss vs → Versions K ts ws → map write vs ≡ map write ws → vs ≡ ws
  same_versions empty empty h = refl
  same_versions empty (more e g) h = cc
  same_versions (more d f) empty h = cc
  same_versions (more {v = v} {vs = vs} d f) (more {v = w} {vs = ws} e g) h =
      let x : write v ≡ write w = cc in
      let y : map write vs ≡ map write ws = cc in
      let p = same_version K v w (version-legal K _ v d) (version-legal K _ w e) x in
      let q = same_versions f g y in
      cc

  two : (f g : Founding) (cs ds : List Call) → Founded keys f → Founded keys g → SameVersions keys K (shelf_texts keys K f cs) (shelf_texts keys K g ds) → Agree keys f cs g ds
  unfolding standing
  two f g cs ds m n h =
      let A = after f cs m in
      let B = after g ds n in
      let u : map write A.versions ≡ map write B.versions = rw (← standing-are f cs A, ← standing-are g ds B) h in
      let v : A.versions ≡ B.versions = same_versions A.still.legal B.still.legal u in
      let e : (result keys f cs).archive ≡ (result keys g ds).archive = archive-after f cs A ∙ archive-is A.still ∙ ap (λ w. write (archive_of K w)) v ∙ sym (archive-is B.still) ∙ sym (archive-after g ds B) in
      record { equal-archives = e; equal-retrievals = λ i out work. rw e refl; equal-histories = λ place out work. rw e refl }

  two-whole : (f g : Founding) (cs ds : List Call) → Founded keys f → Founded keys g → SameShelf keys K f cs g ds → AgreeMarked keys f cs g ds
  two-whole f g cs ds m n h =
      let a = two f g cs ds m n h.0 in
      let t : (result keys f cs).table ≡ (result keys g ds).table = table-after f cs (after f cs m) ∙ ap entries h.1 ∙ sym (table-after g ds (after g ds n)) in
      record { agree = a; equal-tables = t; equal-findings = λ name work. rw (a.equal-archives, t) refl }

  -- ---- keyed siblings in any order
  versions-same : (ss ts : List Bytes) → map (version K) ss ≡ map (version K) ts → versions_of keys K ss ≡ versions_of keys K ts
  unfolding versions_of
  versions-same [] [] e = refl
  versions-same [] (t ∷ ts) e = cc
  versions-same (s ∷ ss) [] e = cc
  versions-same (s ∷ ss) (t ∷ ts) e =
      let x : version K s ≡ version K t = cc in
      let y : map (version K) ss ≡ map (version K) ts = cc in
      ap₂ (λ (r : Result Forest) (vs : List Forest). elim r as (λ _. List Forest) [ refused n ↦ vs | ok v ↦ v ∷ vs ]) x (versions-same ss ts y)

  orders-same : (ss ts : List Bytes) → EachInAnyOrder K ss ts → SameVersions keys K ss ts
  orders-same ss ts h = ap (map write) (versions-same ss ts (any-order-all keys K k ss ts h))

  orders : (f g : Founding) (cs ds : List Call) → Founded keys f → Founded keys g → EachInAnyOrder K (shelf_texts keys K f cs) (shelf_texts keys K g ds) → Agree keys f cs g ds
  orders f g cs ds m n h = two f g cs ds m n (orders-same (shelf_texts keys K f cs) (shelf_texts keys K g ds) h)

  -- ---- where no call is refused, the shelf holds all that was received
  all-shelved : List Call → Shelf → Shelf
  all-shelved [] s = s
  all-shelved (c ∷ cs) s = all-shelved cs (shelved c s)

  shelved-all : (cs : List Call) (s : Shelf) (vs : List Forest) → Held K s vs → Unrefused keys (lent_of_shelf keys K s) cs → shelf_after keys K s cs ≡ all-shelved cs s
  unfolding shelf_after Unrefused all-shelved
  shelved-all [] s vs H u = refl
  shelved-all (c ∷ cs) s vs H u =
      let r = step c s vs H u.0 in
      rw (eq-eqb _ 0 u.0, shelf_after) (shelved-all cs (shelved c s) r.0 r.1 (rw r.2 at u.1))

  abbrev shelf_with : List Bytes → Shelf
  shelf_with texts = record { texts = texts; marks = [] }

  adds-shelved : {ss : List Bytes} {cs : List Call} (ds : List Call) (texts : List Bytes) → Adds ss cs → all-shelved (cs ++ ds) (shelf_with texts) ≡ all-shelved ds (shelf_with (texts ++ ss))
  unfolding all-shelved shelved
  adds-shelved ds texts no_more = ap (λ ts. all-shelved ds (shelf_with ts)) (sym (append-nil texts))
  adds-shelved ds texts (and-more {s} {ss} {cs} a) = adds-shelved ds (texts ++ s ∷ []) a ∙ ap (λ ts. all-shelved ds (shelf_with ts)) (append_assoc texts (s ∷ []) ss)

  all-received : (f : Founding) {ss : List Bytes} {cs : List Call} (ds : List Call) → Adds ss cs → NoneRefused keys f (cs ++ ds)
      → shelf_of keys K f (cs ++ ds) ≡ all-shelved ds (shelf_with (f.text ∷ ss))
  unfolding shelf_of founded_shelf
  all-received f ds a u =
      let h = first f u.0 in
      shelved-all _ (founded_shelf keys f) h.0 h.1 (rw h.2 at u.1) ∙ adds-shelved ds (f.text ∷ []) a

  back : (f g : Founding) (ss ts : List Bytes) (cs ds : List Call) (i out work : ℕ) → Adds ss cs → Adds ts ds
      → NoneRefused keys f (cs ++ back_to i out work ∷ []) → NoneRefused keys g ds → SameVersions keys K (take i (f.text ∷ ss)) (g.text ∷ ts)
      → AgreeMarked keys f (cs ++ back_to i out work ∷ []) g ds
  unfolding all-shelved shelved shelved_to up_to keep
  back f g ss ts cs ds i out work a b u v h =
      let x : shelf_of keys K f (cs ++ back_to i out work ∷ []) ≡ shelf_with (take i (f.text ∷ ss)) = all-received f (back_to i out work ∷ []) a u in
      let z = append-nil ds in
      let y : shelf_of keys K g ds ≡ shelf_with (g.text ∷ ts) = ap (shelf_of keys K g) (sym z) ∙ all-received g [] b (rw z v) in
      let w : Shelf → List Bytes = λ s. map write (versions_of keys K s.texts) in
      two-whole f g (cs ++ back_to i out work ∷ []) ds u.0 v.0 (ap w x ∙ h ∙ sym (ap w y), ap (λ s. s.marks) x ∙ sym (ap (λ s. s.marks) y))

  -- Demand 3: for every list of calls, one statement
  pub demand-3 : VersionsStanding keys K
  demand-3 = record {
    each-list = each;
    two-lists = two;
    two-shelves = two-whole;
    any_order = any_order keys K k;
    same-orders = orders-same;
    two-orders = orders;
    stepped-back = back;
    by_name = by_number;
    by-no-name = by-no-name keys;
  }
