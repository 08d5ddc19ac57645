-- The walks on an archive's forest come to what the calls say: adding, retrieving, histories, stepping back, and the calls over marks.
use Prim.Native.Nat.{ℕ, zero, suc, ◌≤◌, ◌<◌}
use Rattle.std.proofs.Common.{arith, ◌∙◌, ap₂, subst, length-take-le}
use Rattle.std.specs.Prelude.{◌≡◌, Bool, not, ◌&&◌, eqb, take, get_or}
use Rattle.std.proofs.Math.Path.{refl, sym, ap}
use Rattle.std.proofs.Math.Bool.{true, false}
use Rattle.std.proofs.Math.Option.{none, some}
use mathlib.Core.List.{List, [], ◌∷◌, ◌++◌, map, map-append}
use borrow.Author.Tests.{le-leb, leb-true, leb-false, not-false, eqb-false}
use Rattle.std.proofs.Math.Dec.{leb}
use Rattle.std.proofs.Math.ListN.{length, get_elem?, length-append}
use Rattle.std.proofs.lemmas.List.{length-map}
use Prim.Native.Char.{code}
use Rattle.xml.specs.Bytes.{Bytes, same, split}
use Rattle.xml.specs.Forest.{Forest, end, write}
use Rattle.xml.specs.Truth.{clash, by-test, and_left, and_right, and-false}
use Rattle.model.specs.Gather.{All, gather, gather-more}
use Rattle.model.specs.Keyed.{nil}
use Rattle.model.specs.Orders.{labels}
use Rattle.model.specs.Stored.{merge_s}
use Rattle.keys.specs.KeyList.{KeyList, key_list}
use Rattle.keys.specs.KeyListLaws.{rules-kept}
use Rattle.keys.specs.Result.{Result, refused, ok, ◌>>=◌, ◌>>◌, refuse, or_refuse, r11, r12}
use Rattle.keys.specs.ResultLaws.{ok-inj, passed}
use Rattle.keys.specs.Version.{Label, version}
use Rattle.keys.specs.Versions.{version-legal}
use Rattle.keys.specs.Address.{address, holds, steps_of, steps_known, write_address}
use Rattle.keys.specs.Tree.{contents, keyed}
use Rattle.keys.specs.Legal.{LegalVersion}
use Rattle.timestamp.specs.Times.{write_times}
use Rattle.versions.specs.Archive.{archive, archive_forest, archive_of, archive_text, pick, last_version}
use Rattle.marks.specs.declared.Mark.{Mark}
use Rattle.marks.specs.Marks.{Named, marks_in, legal_name, find}
use Rattle.versions.specs.Calls.{answer, marked, found_mark, room, at_most, storable, give, not_full, version_at, versions_to, add, retrieve, history, set_mark, find_mark, earlier, step_back, step_back_to_mark}
use Rattle.versions.specs.LegalLaws.{all-legal, legal-of, picked_of, last_of, archive-legal}
use Rattle.versions.specs.Adequate.{archive-back, history-is}
use Rattle.versions.specs.AddLaws.{add-archive}
use Rattle.versions.specs.BackLaws.{back-archive}
use Rattle.versions.specs.HistoryLaws.{history-archive}
use Rattle.versions.specs.WalkRead.{mapped, read-agrees}
use Rattle.versions.specs.Walk.{archive_read, back_forest, history_forest, add_forest, add_on, retrieve_on, history_on, archive_in, count_on, set_mark_on, find_mark_on, earlier_on, step_back_on, step_back_to_mark_on}

-- steps that agree where what comes before them is not refused
bind-same : {A B : Type 0} (r : Result A) (f g : A → Result B) → ((a : A) → r ≡ ok a → f a ≡ g a) → (r >>= f) ≡ (r >>= g)
bind-same (refused n) f g h = refl
bind-same (ok a) f g h = h a refl

-- one step under two names
bind-both : {A B : Type 0} {r s : Result A} (f g : A → Result B) → r ≡ s → ((a : A) → f a ≡ g a) → (r >>= f) ≡ (s >>= g)
bind-both {s = s} f g e h = ap (λ z. z >>= f) e ∙ bind-same s f g (λ a _. h a)

then_same : {B : Type 0} (r : Result (Unit {0})) (s t : Result B) → s ≡ t → (r >> s) ≡ (r >> t)
then_same (refused n) s t h = refl
then_same (ok a) s t h = h

refuse-same : {B : Type 0} (b : Bool) (s t : Result B) → (b ≡ false → s ≡ t) → (refuse r11 b >> s) ≡ (refuse r11 b >> t)
refuse-same true s t h = refl
refuse-same false s t h = h refl

bind-bind : {A B C : Type 0} (r : Result A) (f : A → Result B) (g : B → Result C) → ((r >>= f) >>= g) ≡ (r >>= (λ a. f a >>= g))
bind-bind (refused n) f g = refl
bind-bind (ok a) f g = refl

pub then-bind : {B C : Type 0} (r : Result (Unit {0})) (s : Result B) (g : B → Result C) → ((r >> s) >>= g) ≡ (r >> (s >>= g))
then-bind (refused n) s g = refl
then-bind (ok a) s g = refl

mapped-bind : {A B C : Type 0} (h : A → B) (r : Result A) (f : B → Result C) → (mapped h r >>= f) ≡ (r >>= (λ a. f (h a)))
mapped-bind h (refused n) f = refl
mapped-bind h (ok a) f = refl

-- what an archive's text has that was accepted
pub record Accepted (K : KeyList) (vs : List Forest) : Type 0 where
  pub legal : All (LegalVersion K) vs
  pub there : 1 ≤ length vs
  pub counted : length vs ≤ 999

-- an element of a list, where it is and where it is not
get-is : (vs : List Forest) (i : ℕ) → i < length vs → get_elem? vs i ≡ some (get_or vs i end)
get-is [] i b = absurd (omega arith)
get-is (v ∷ vs) zero b = refl
get-is (v ∷ vs) (suc i) b = get-is vs i (omega arith)

get-not : (vs : List Forest) (i : ℕ) → length vs < suc i → get_elem? vs i ≡ none
get-not [] i b = refl
get-not (v ∷ vs) zero b = absurd (omega arith)
get-not (v ∷ vs) (suc i) b = get-not vs i (omega arith)

-- a legal address has a step, and each of its steps is known
abbrev Steps : KeyList → List Label → Type 0
Steps K [] = ⊥
Steps K (l ∷ ls) = steps_known K [] (l ∷ ls) ≡ true

address-steps : (K : KeyList) (place : Bytes) (ls : List Label) → address K place ≡ ok ls → Steps K ls
unfolding address
address-steps K place ls e =
    let ws = steps_of (split (eqb (code "/")) place) in
    let x = passed r12 (eqb (length ws) 0) _ ls e in
    let y = passed r12 (not (steps_known K [] ws)) _ ls x.1 in
    let z = passed r12 (not (same place (write_address K [] ws))) _ ls y.1 in
    subst (Steps K) (ok-inj z.1) (known ws x.0 (not-false (steps_known K [] ws) y.0))
  where
    known : (ws : List Label) → eqb (length ws) 0 ≡ false → steps_known K [] ws ≡ true → Steps K ws
    known [] n h = clash n
    known (w ∷ ws) n h = h

module _ (keys : Bytes) (K : KeyList) (k : key_list keys ≡ ok K) where
  accepted : (s : Bytes) (vs : List Forest) → archive_text K s ≡ ok vs → Accepted K vs
  accepted s vs e =
      let l = archive-legal keys K k s vs e in
      subst (Accepted K) l.1 (record { legal = all-legal keys K k l.0.each-legal; there = l.0.some-there; counted = l.0.not_more })

  -- ---- each walk on the archive of legal versions
  module _ (vs : List Forest) (a : Accepted K vs) where
    last : last_version (archive_of K vs) ≡ length vs
    last = last_of keys K k vs a.legal a.there a.counted

    pub add-walk : (v : Forest) → LegalVersion K v → (length vs ≡ 999 → ⊥) → add_forest K (length vs) v (archive_of K vs) ≡ archive_of K (vs ++ v ∷ [])
    unfolding archive_of archive
    add-walk v h full =
        let c = a.counted in
        let n : length (vs ++ v ∷ []) ≡ suc (length vs) = rw length-append (omega arith) in
        let m : archive K (vs ++ v ∷ []) ≡ merge_s labels contents (length vs) (archive K vs) (keyed K [] v) =
        ap (gather (merge_s labels contents) 0 nil) (map-append (keyed K []) vs (v ∷ []))
        ∙ gather-more (merge_s labels contents) nil (map (keyed K []) vs) (keyed K [] v)
        ∙ ap (λ j. merge_s labels contents j (archive K vs) (keyed K [] v)) (length-map vs (keyed K [])) in
        add-archive K (length vs) (archive K vs) v (rules-kept keys K k) (legal-of keys K k vs a.legal a.there c) a.there (omega arith) h
        ∙ sym (ap₂ archive_forest n m)

    pub back-walk : (i : ℕ) → 1 ≤ i → i ≤ length vs → back_forest i (archive_of K vs) ≡ archive_of K (take i vs)
    unfolding archive_of
    back-walk i l b =
        back-archive K (length vs) i (archive K vs) (legal-of keys K k vs a.legal a.there a.counted) a.counted l b
        ∙ sym (ap₂ archive_forest (length-take-le i vs b) (archive-back keys K k vs a.legal i b))

    pub history-walk : (l : Label) (ls : List Label) → steps_known K [] (l ∷ ls) ≡ true → history_forest K (l ∷ ls) (archive_of K vs) ≡ write_times (map (holds K [] (l ∷ ls)) vs)
    unfolding archive_of
    history-walk l ls s =
        history-archive K (length vs) (archive K vs) l ls (rules-kept keys K k) (legal-of keys K k vs a.legal a.there a.counted) a.counted s
        ∙ ap write_times (history-is keys K k vs a.legal l ls s)

    pub pick-walk : (i : ℕ) → i < length vs → pick (suc i) (archive_of K vs) ≡ get_or vs i end
    pick-walk = picked_of keys K k vs a.legal a.there a.counted

    -- ---- the steps of a call after the archive was read
    add-steps : (out : ℕ) (v : Forest) → LegalVersion K v
        → (refuse r11 (eqb (last_version (archive_of K vs)) 999) >> (storable (add_forest K (last_version (archive_of K vs)) v (archive_of K vs))
        >> give out (write (add_forest K (last_version (archive_of K vs)) v (archive_of K vs)))))
        ≡ (not_full vs >> (storable (archive_of K (vs ++ v ∷ [])) >> give out (write (archive_of K (vs ++ v ∷ [])))))
    unfolding not_full
    add-steps out v h = rw last (refuse-same (eqb (length vs) 999) _ _ (λ e. rw (add-walk v h (eqb-false (length vs) 999 e)) refl))

    earlier-steps : (ks : List Named) (i out : ℕ) → earlier_on (archive_of K vs) ks i out ≡ earlier K vs ks i out
    unfolding earlier_on earlier versions_to
    earlier-steps ks i out = rw last (by-test (leb 1 i && leb i (length vs))
        (λ e. rw (e, back-walk i (leb-true 1 i (and_left (leb 1 i) (leb i (length vs)) e)) (leb-true i (length vs) (and_right (leb 1 i) (leb i (length vs)) e))) refl)
        (λ e. rw e refl))

    at-is : (i : ℕ) → leb 1 i && leb i (length vs) ≡ true → version_at i vs ≡ ok (pick i (archive_of K vs))
    unfolding version_at
    at-is zero e = let z : true ≡ false = sym e in clash z
    at-is (suc i) e =
        let b : suc i ≤ length vs = leb-true (suc i) (length vs) (and_right (leb 1 (suc i)) (leb (suc i) (length vs)) e) in
        ap (or_refuse r11) (get-is vs i b) ∙ ap ok (sym (pick-walk i b))

    at-not : (i : ℕ) → leb 1 i && leb i (length vs) ≡ false → version_at i vs ≡ refused r11
    unfolding version_at
    at-not zero e = refl
    at-not (suc i) e = ap (or_refuse r11) (get-not vs i (leb-false (suc i) (length vs) (and-false (le-leb 1 (suc i) (omega arith)) e)))

    retrieve-steps : (out i : ℕ)
        → (refuse r11 (not (leb 1 i && leb i (last_version (archive_of K vs)))) >> give out (write (pick i (archive_of K vs))))
        ≡ (version_at i vs >>= (λ v. give out (write v)))
    retrieve-steps out i = rw last (by-test (leb 1 i && leb i (length vs)) (λ e. rw (e, at-is i e) refl) (λ e. rw (e, at-not i e) refl))

    history-steps : (out : ℕ) (place : Bytes)
        → (address K place >>= (λ ls. give out (history_forest K ls (archive_of K vs)))) ≡ (address K place >>= (λ ls. give out (write_times (map (holds K [] ls) vs))))
    history-steps out place = bind-same (address K place) _ _ (λ ls e. ap (give out) (steps ls (address-steps K place ls e)))
      where
        steps : (ls : List Label) → Steps K ls → history_forest K ls (archive_of K vs) ≡ write_times (map (holds K [] ls) vs)
        steps [] h = absurd h
        steps (l ∷ ls) h = history-walk l ls h

-- two blocks that read one archive and go on alike: on its forest, and with its versions
read_same : {B : Type 0} (keys archive : Bytes) (F : KeyList → Forest → Result B) (G : KeyList → List Forest → Result B)
    → ((K : KeyList) → key_list keys ≡ ok K → (vs : List Forest) → Accepted K vs → F K (archive_of K vs) ≡ G K vs)
    → (at_most 4096 keys >> (at_most 32768 archive >> (key_list keys >>= (λ K. archive_read K archive >>= F K))))
    ≡ (at_most 4096 keys >> (at_most 32768 archive >> (key_list keys >>= (λ K. archive_text K archive >>= G K))))
read_same keys archive F G h =
    then_same (at_most 4096 keys) _ _ (then_same (at_most 32768 archive) _ _
    (bind-same (key_list keys) _ _ (λ K k.
    rw (read-agrees keys K k archive) (mapped-bind (archive_of K) (archive_text K archive) _
    ∙ bind-same (archive_text K archive) _ _ (λ vs t. h K k vs (accepted keys K k archive vs t))))))

-- ---- the calls
pub adds : (keys received archive : Bytes) (out work : ℕ) → add_on keys received archive out work ≡ add keys received archive out work
unfolding add_on add
adds keys received archive out work = ap answer
    (then_same (room work) _ _ (then_same (at_most 4096 keys) _ _ (then_same (at_most 16384 received) _ _ (then_same (at_most 32768 archive) _ _
    (bind-same (key_list keys) _ _ (λ K k. bind-same (version K received) _ _ (λ v e.
    rw (read-agrees keys K k archive) (mapped-bind (archive_of K) (archive_text K archive) _
    ∙ bind-same (archive_text K archive) _ _ (λ vs t. add-steps keys K k vs (accepted keys K k archive vs t) out v (version-legal K received v e))))))))))

pub retrieves : (keys archive : Bytes) (i out work : ℕ) → retrieve_on keys archive i out work ≡ retrieve keys archive i out work
unfolding retrieve_on retrieve
retrieves keys archive i out work = ap answer (then_same (room work) _ _ (read_same keys archive _ _ (λ K k vs a. retrieve-steps keys K k vs a out i)))

pub histories : (keys archive place : Bytes) (out work : ℕ) → history_on keys archive place out work ≡ history keys archive place out work
unfolding history_on history
histories keys archive place out work = ap answer
    (then_same (room work) _ _ (then_same (at_most 4096 keys) _ _ (then_same (at_most 32768 archive) _ _ (then_same (at_most 2560 place) _ _
    (bind-same (key_list keys) _ _ (λ K k.
    rw (read-agrees keys K k archive) (mapped-bind (archive_of K) (archive_text K archive) _
    ∙ bind-same (archive_text K archive) _ _ (λ vs t. history-steps keys K k vs (accepted keys K k archive vs t) out place))))))))

-- ---- the calls over a table of marks
-- a block that goes on from the archive's forest
archive-then : {B : Type 0} (keys archive : Bytes) (F : Forest → Result B)
    → (archive_in keys archive >>= F) ≡ (at_most 4096 keys >> (at_most 32768 archive >> (key_list keys >>= (λ K. archive_read K archive >>= F))))
unfolding archive_in
archive-then keys archive F =
    then-bind (at_most 4096 keys) _ F ∙ then_same (at_most 4096 keys) _ _ (then-bind (at_most 32768 archive) _ F ∙ then_same (at_most 32768 archive) _ _ (bind-bind (key_list keys) _ F))

-- and one that asks of it how many versions it has
count-then : {B : Type 0} (keys archive : Bytes) (F : ℕ → Result B)
    → (count_on keys archive >>= F) ≡ (at_most 4096 keys >> (at_most 32768 archive >> (key_list keys >>= (λ K. archive_text K archive >>= (λ vs. F (length vs))))))
unfolding count_on
count-then keys archive F =
    bind-bind (archive_in keys archive) _ F ∙ archive-then keys archive _ ∙ read_same keys archive _ _ (λ K k vs a. ap F (last keys K k vs a))

pub sets_mark : (keys archive : Bytes) (table : List Mark) (name : Bytes) (i work : ℕ) → set_mark_on keys archive table name i work ≡ set_mark keys archive table name i work
unfolding set_mark_on set_mark
sets_mark keys archive table name i work = ap (marked table) (then_same (room work) _ _ (count-then keys archive _))

pub finds_mark : (keys archive : Bytes) (table : List Mark) (name : Bytes) (work : ℕ) → find_mark_on keys archive table name work ≡ find_mark keys archive table name work
unfolding find_mark_on find_mark
finds_mark keys archive table name work = ap found_mark (then_same (room work) _ _ (count-then keys archive _))

pub steps_back : (keys archive : Bytes) (table : List Mark) (i out work : ℕ) → step_back_on keys archive table i out work ≡ step_back keys archive table i out work
unfolding step_back_on step_back
steps_back keys archive table i out work = ap (marked table) (then_same (room work) _ _ (archive-then keys archive _ ∙ read_same keys archive _ _ (λ K k vs a.
    bind-both _ _ (ap (λ n. marks_in n table) (last keys K k vs a)) (λ ks. earlier-steps keys K k vs a ks i out))))

pub steps_back_to_mark : (keys archive : Bytes) (table : List Mark) (name : Bytes) (out work : ℕ) → step_back_to_mark_on keys archive table name out work ≡ step_back_to_mark keys archive table name out work
unfolding step_back_to_mark_on step_back_to_mark
steps_back_to_mark keys archive table name out work = ap (marked table) (then_same (room work) _ _ (archive-then keys archive _ ∙ read_same keys archive _ _ (λ K k vs a.
    bind-both _ _ (ap (λ n. marks_in n table) (last keys K k vs a)) (λ ks.
    then_same (legal_name name) _ _ (bind-same (find name ks) _ _ (λ x f. earlier-steps keys K k vs a ks x.version out))))))
