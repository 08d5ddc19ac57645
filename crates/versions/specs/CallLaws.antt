-- A call that is not refused: what its texts were, and what it gives. Stepping back by name is stepping back by number.
use Rattle.std.specs.Prelude.{ℕ, ◌≤◌, ◌≡◌, Bool, true, false, not, ◌&&◌, ◌||◌, eqb, leb, ltb, T, length, take}
use Rattle.std.proofs.Common.{arith, ◌∙◌, lit≤, nltb→le, leb→le}
use Rattle.std.proofs.Math.Path.{refl, sym, ap}
use mathlib.Core.List.{List, [], ◌∷◌, ◌++◌, map}
use Rattle.xml.specs.Bytes.{Bytes}
use Rattle.xml.specs.Forest.{Forest, write, nodes}
use Rattle.keys.specs.Result.{Refusal, r1, r2, r3, r4, r5, r6, r7, r8, r9, r10, r11, r12, r13, r14, r15, r16, r17, number_of, Result, refused, ok, ◌>>=◌, ◌>>◌, refuse}
use Rattle.keys.specs.ResultLaws.{refused-ok, ok-inj, bind_inv}
use Rattle.keys.specs.KeyList.{KeyList, key_list}
use Rattle.keys.specs.Version.{Label, version}
use Rattle.keys.specs.Address.{address, holds}
use Rattle.timestamp.specs.Times.{write_times}
use Rattle.versions.specs.Archive.{archive_of, archive_text}
use Rattle.marks.specs.declared.Mark.{Mark}
use Rattle.marks.specs.Marks.{Named, marks_in, legal_name, find, not_held, not_full as table_not_full, standing, up_to, setting, finding}
use Rattle.versions.specs.Calls.{Answer, answer, Given, marked, found_mark, room, at_most, not_full, storable, give, found, add, retrieve, history, set_mark, find_mark, earlier, step_back, step_back_to_mark, version_at, versions_to}

pub number_of-pos : (n : Refusal) → 1 ≤ number_of n
unfolding number_of
number_of-pos r1 = lit≤ tt
number_of-pos r2 = lit≤ tt
number_of-pos r3 = lit≤ tt
number_of-pos r4 = lit≤ tt
number_of-pos r5 = lit≤ tt
number_of-pos r6 = lit≤ tt
number_of-pos r7 = lit≤ tt
number_of-pos r8 = lit≤ tt
number_of-pos r9 = lit≤ tt
number_of-pos r10 = lit≤ tt
number_of-pos r11 = lit≤ tt
number_of-pos r12 = lit≤ tt
number_of-pos r13 = lit≤ tt
number_of-pos r14 = lit≤ tt
number_of-pos r15 = lit≤ tt
number_of-pos r16 = lit≤ tt
number_of-pos r17 = lit≤ tt

-- a chain of steps that is not refused: what its first step gave, and the rest
module _ (P : Answer → Type 0) where
  pub bind-by : {A : Type 0} (r : Result A) (f : A → Result Bytes) → (answer (r >>= f)).number ≡ 0
      → ((a : A) → r ≡ ok a → (answer (f a)).number ≡ 0 → P (answer (f a))) → P (answer (r >>= f))
  unfolding answer
  bind-by (ok a) f h g = g a refl h
  bind-by (refused n) f h g = absurd (omega (arith, number_of-pos n))

  pub then_by : (r : Result (Unit {0})) (s : Result Bytes) → (answer (r >> s)).number ≡ 0
      → (r ≡ ok tt → (answer s).number ≡ 0 → P (answer s)) → P (answer (r >> s))
  unfolding answer
  then_by (ok a) s h g = g refl h
  then_by (refused n) s h g = absurd (omega (arith, number_of-pos n))

  pub known_by : {A : Type 0} (r : Result A) (a : A) (f : A → Result Bytes) → r ≡ ok a → (answer (r >>= f)).number ≡ 0
      → ((answer (f a)).number ≡ 0 → P (answer (f a))) → P (answer (r >>= f))
  known_by r a f e h g = rw e (g (rw e at h))

  pub give-by : (out : ℕ) (s : Bytes) → (answer (give out s)).number ≡ 0 → P (answer (ok s)) → P (answer (give out s))
  unfolding give
  give-by out s h g = then_by (refuse r14 (ltb out (length s))) (ok s) h (λ e i. g)

-- the tests behind 11 and 13
pub refuse-ok : (r : Refusal) (b : Bool) → refuse r b ≡ ok tt → b ≡ false
refuse-ok r false e = refl
refuse-ok r true e = cc

or-false : (a b : Bool) → (a || b) ≡ false → a ≡ false
or-false false b e = refl
or-false true b e = cc

not-false : (b : Bool) → not b ≡ false → T b
not-false true e = tt
not-false false e = let z : ◌≡◌ {A = ℕ} 0 1 = cc in omega arith

and_T : (a b : Bool) → T (a && b) → T a × T b
and_T true b t = (tt, t)
and_T false b t = absurd t

false-T : (b : Bool) → b ≡ false → T (not b)
false-T false e = tt
false-T true e = let z : ◌≡◌ {A = ℕ} 0 1 = cc in omega arith

pub versions_to-ok : (i : ℕ) (vs us : List Forest) → versions_to i vs ≡ ok us → (1 ≤ i) × (i ≤ length vs) × (us ≡ take i vs)
unfolding versions_to
versions_to-ok i vs us e =
    let c = test (not (leb 1 i && leb i (length vs))) e in
    let t = and_T (leb 1 i) (leb i (length vs)) (not-false (leb 1 i && leb i (length vs)) c.0) in
    (leb→le 1 i t.0, leb→le i (length vs) t.1, c.1)
  where
    test : (b : Bool) → (refuse r11 b >> ok (take i vs)) ≡ ok us → (b ≡ false) × (us ≡ take i vs)
    test false h = (refl, cc)
    test true h = (cc, cc)

pub storable-ok : (f : Forest) → storable f ≡ ok tt → nodes f ≤ 1024
unfolding storable
storable-ok f e = nltb→le 1024 (nodes f) (false-T _ (or-false (ltb 1024 (nodes f)) _ (refuse-ok r13 _ e)))

pub not_full-ok : (vs : List Forest) → not_full vs ≡ ok tt → length vs ≡ 999 → ⊥
unfolding not_full
not_full-ok vs e l =
    let x : true ≡ false = rw l at (refuse-ok r11 (eqb (length vs) 999) e) in
    let z : ◌≡◌ {A = ℕ} 0 1 = cc in
    omega arith

module _ (keys : Bytes) (K : KeyList) (k : key_list keys ≡ ok K) where
  pub found_ok : (received : Bytes) (out work : ℕ) → (found keys received out work).number ≡ 0
      → (v : Forest) × (version K received ≡ ok v) × (storable (archive_of K (v ∷ [])) ≡ ok tt)
      × ((found keys received out work).bytes ≡ write (archive_of K (v ∷ [])))
  unfolding found answer
  found_ok received out work h =
      then_by P (room work) _ h λ _ h1.
      then_by P (at_most 4096 keys) _ h1 λ _ h2.
      then_by P (at_most 16384 received) _ h2 λ _ h3.
      known_by P (key_list keys) K _ k h3 λ h4.
      bind-by P (version K received) _ h4 λ v e h5.
      then_by P (storable (archive_of K (v ∷ []))) _ h5 λ s h6.
      give-by P out _ h6 (v, e, s, refl)
    where
      P : Answer → Type 0
      P x = (v : Forest) × (version K received ≡ ok v) × (storable (archive_of K (v ∷ [])) ≡ ok tt) × (x.bytes ≡ write (archive_of K (v ∷ [])))

  module _ (archive : Bytes) (vs : List Forest) (a : archive_text K archive ≡ ok vs) where
    pub add_ok : (received : Bytes) (out work : ℕ) → (add keys received archive out work).number ≡ 0
        → (v : Forest) × (version K received ≡ ok v) × (not_full vs ≡ ok tt) × (storable (archive_of K (vs ++ v ∷ [])) ≡ ok tt)
        × ((add keys received archive out work).bytes ≡ write (archive_of K (vs ++ v ∷ [])))
    unfolding add answer
    add_ok received out work h =
        then_by P (room work) _ h λ _ h1.
        then_by P (at_most 4096 keys) _ h1 λ _ h2.
        then_by P (at_most 16384 received) _ h2 λ _ h3.
        then_by P (at_most 32768 archive) _ h3 λ _ h4.
        known_by P (key_list keys) K _ k h4 λ h5.
        bind-by P (version K received) _ h5 λ v e h6.
        known_by P (archive_text K archive) vs _ a h6 λ h7.
        then_by P (not_full vs) _ h7 λ n h8.
        then_by P (storable (archive_of K (vs ++ v ∷ []))) _ h8 λ s h9.
        give-by P out _ h9 (v, e, n, s, refl)
      where
        P : Answer → Type 0
        P x = (v : Forest) × (version K received ≡ ok v) × (not_full vs ≡ ok tt) × (storable (archive_of K (vs ++ v ∷ [])) ≡ ok tt)
            × (x.bytes ≡ write (archive_of K (vs ++ v ∷ [])))

    pub retrieve-ok : (i out work : ℕ) → (retrieve keys archive i out work).number ≡ 0
        → (v : Forest) × (version_at i vs ≡ ok v) × ((retrieve keys archive i out work).bytes ≡ write v)
    unfolding retrieve answer
    retrieve-ok i out work h =
        then_by P (room work) _ h λ _ h1.
        then_by P (at_most 4096 keys) _ h1 λ _ h2.
        then_by P (at_most 32768 archive) _ h2 λ _ h3.
        known_by P (key_list keys) K _ k h3 λ h4.
        known_by P (archive_text K archive) vs _ a h4 λ h5.
        bind-by P (version_at i vs) _ h5 λ v e h6.
        give-by P out _ h6 (v, e, refl)
      where
        P : Answer → Type 0
        P x = (v : Forest) × (version_at i vs ≡ ok v) × (x.bytes ≡ write v)

    pub history-ok : (place : Bytes) (out work : ℕ) → (history keys archive place out work).number ≡ 0
        → (ls : List Label) × (address K place ≡ ok ls) × ((history keys archive place out work).bytes ≡ write_times (map (holds K [] ls) vs))
    unfolding history answer
    history-ok place out work h =
        then_by P (room work) _ h λ _ h1.
        then_by P (at_most 4096 keys) _ h1 λ _ h2.
        then_by P (at_most 32768 archive) _ h2 λ _ h3.
        then_by P (at_most 2560 place) _ h3 λ _ h4.
        known_by P (key_list keys) K _ k h4 λ h5.
        known_by P (archive_text K archive) vs _ a h5 λ h6.
        bind-by P (address K place) _ h6 λ ls e h7.
        give-by P out _ h7 (ls, e, refl)
      where
        P : Answer → Type 0
        P x = (ls : List Label) × (address K place ≡ ok ls) × (x.bytes ≡ write_times (map (holds K [] ls) vs))

-- ---- the calls over a table of marks
pub marked-ok : (table : List Mark) (x : Result Given) → (marked table x).answer.number ≡ 0 → (g : Given) × (x ≡ ok g)
unfolding marked answer
marked-ok table (ok g) h = (g, refl)
marked-ok table (refused n) h = absurd (omega (arith, number_of-pos n))

found-mark-ok : (x : Result Named) → (found_mark x).answer.number ≡ 0 → (k : Named) × (x ≡ ok k)
unfolding found_mark answer
found-mark-ok (ok k) h = (k, refl)
found-mark-ok (refused n) h = absurd (omega (arith, number_of-pos n))

pub then_ok : {B : Type 0} (r : Result (Unit {0})) (s : Result B) {b : B} → (r >> s) ≡ ok b → s ≡ ok b
then_ok (ok a) s e = e
then_ok (refused n) s e = refused-ok e

known-ok : {A B : Type 0} {r : Result A} {a : A} (f : A → Result B) {b : B} → r ≡ ok a → (r >>= f) ≡ ok b → f a ≡ ok b
known-ok f e h = ap (λ z. z >>= f) (sym e) ∙ h

give-ok : (out : ℕ) (s : Bytes) {t : Bytes} → give out s ≡ ok t → t ≡ s
unfolding give
give-ok out s e = sym (ok-inj (then_ok (refuse r14 (ltb out (length s))) (ok s) e))

-- the archive of the first i versions, and the marks of these
pub earlier-ok : (K : KeyList) (vs : List Forest) (ks : List Named) (i out : ℕ) (g : Given) → earlier K vs ks i out ≡ ok g
    → (1 ≤ i) × (i ≤ length vs) × (g ≡ record { text = write (archive_of K (take i vs)); marks = up_to i ks })
unfolding earlier
earlier-ok K vs ks i out g h =
    let p = bind_inv (versions_to i vs) _ g h in
    let q = versions_to-ok i vs p.0 p.1 in
    let r = bind_inv (give out (write (archive_of K p.0))) _ g p.2 in
    let t : r.0 ≡ write (archive_of K (take i vs)) = give-ok out _ r.1 ∙ ap (λ w. write (archive_of K w)) q.2 in
    (q.0, q.1, sym (ok-inj r.2) ∙ ap (λ s. record { text = s; marks = up_to i ks }) t)

module _ (keys : Bytes) (K : KeyList) (k : key_list keys ≡ ok K) (archive : Bytes) (vs : List Forest) (a : archive_text K archive ≡ ok vs) where
  -- a block that reads the archive and is not refused
  read_ok : {B : Type 0} (work : ℕ) (F : KeyList → List Forest → Result B) {b : B}
      → (room work >> (at_most 4096 keys >> (at_most 32768 archive >> (key_list keys >>= (λ L. archive_text L archive >>= F L))))) ≡ ok b → F K vs ≡ ok b
  read_ok work F h = known-ok (F K) a (known-ok _ k (then_ok (at_most 32768 archive) _ (then_ok (at_most 4096 keys) _ (then_ok (room work) _ h))))

  module _ (table : List Mark) (ks : List Named) (m : marks_in (length vs) table ≡ ok ks) where
    pub back-ok : (i out work : ℕ) → (step_back keys archive table i out work).answer.number ≡ 0
        → (1 ≤ i) × (i ≤ length vs) × (step_back keys archive table i out work ≡ marked table (ok (record { text = write (archive_of K (take i vs)); marks = up_to i ks })))
    unfolding step_back
    back-ok i out work h =
        let g = marked-ok table _ h in
        let e = earlier-ok K vs ks i out g.0 (known-ok _ m (read_ok work (λ L us. marks_in (length us) table >>= (λ js. earlier L us js i out)) g.1)) in
        (e.0, e.1, ap (marked table) (g.1 ∙ ap ok e.2))

    pub back-to-mark-ok : (name : Bytes) (out work : ℕ) → (step_back_to_mark keys archive table name out work).answer.number ≡ 0
        → (x : Named) × (find name ks ≡ ok x) × (1 ≤ x.version) × (x.version ≤ length vs)
        × (step_back_to_mark keys archive table name out work ≡ marked table (ok (record { text = write (archive_of K (take x.version vs)); marks = up_to x.version ks })))
    unfolding step_back_to_mark
    back-to-mark-ok name out work h =
        let g = marked-ok table _ h in
        let f = then_ok (legal_name name) _ (known-ok _ m (read_ok work (λ L us. marks_in (length us) table >>= (λ js. legal_name name >> (find name js >>= (λ x. earlier L us js x.version out)))) g.1)) in
        let x = bind_inv (find name ks) _ g.0 f in
        let e = earlier-ok K vs ks x.0.version out g.0 x.2 in
        (x.0, x.1, e.0, e.1, ap (marked table) (g.1 ∙ ap ok e.2))

    pub set-ok : (name : Bytes) (i work : ℕ) → (set_mark keys archive table name i work).answer.number ≡ 0
        → (legal_name name ≡ ok tt) × (not_held name ks ≡ ok tt) × (table_not_full ks ≡ ok tt) × (standing (length vs) i ≡ ok tt)
        × (set_mark keys archive table name i work ≡ marked table (ok (record { text = []; marks = ks ++ record { name = name; version = i } ∷ [] })))
    unfolding set_mark setting
    set-ok name i work h =
        let g = marked-ok table _ h in
        let p = bind_inv (setting (length vs) table name i) _ g.0 (read_ok work (λ L us. setting (length us) table name i >>= (λ js. ok (record { text = []; marks = js }))) g.1) in
        let s = known-ok _ m p.1 in
        let q1 = split (legal_name name) _ s in
        let q2 = split (not_held name ks) _ q1.1 in
        let q3 = split (table_not_full ks) _ q2.1 in
        let q4 = split (standing (length vs) i) _ q3.1 in
        (q1.0, q2.0, q3.0, q4.0, ap (marked table) (g.1 ∙ sym p.2 ∙ ap (λ js. ok (record { text = []; marks = js })) (sym (ok-inj q4.1))))
      where
        split : {B : Type 0} (r : Result (Unit {0})) (s : Result B) {b : B} → (r >> s) ≡ ok b → (r ≡ ok tt) × (s ≡ ok b)
        split (ok u) s e = (refl, e)
        split (refused n) s e = refused-ok e

    pub find-ok : (name : Bytes) (work : ℕ) → (find_mark keys archive table name work).answer.number ≡ 0
        → (x : Named) × (find name ks ≡ ok x) × (find_mark keys archive table name work ≡ found_mark (ok x))
    unfolding find_mark finding
    find-ok name work h =
        let x = found-mark-ok _ h in
        let f = then_ok (legal_name name) _ (known-ok _ m (read_ok work (λ L us. finding (length us) table name) x.1)) in
        (x.0, f, ap found_mark x.1)

    -- a mark that is held, and its name legal: stepping back by name is stepping back by its number
    pub held-name : (name : Bytes) (x : Named) (out work : ℕ) → legal_name name ≡ ok tt → find name ks ≡ ok x
        → step_back_to_mark keys archive table name out work ≡ step_back keys archive table x.version out work
    unfolding step_back_to_mark step_back
    held-name name x out work l f = rw (k, a, m, l, f) refl

-- ---- "By name it must equal stepping back by that mark's number"
-- where x finds, z steps back by that number; where x is refused, z is, under the same number
abbrev pub Numbered : Result Named → (ℕ → Result Given) → Result Given → Type 0
Numbered (refused n) y z = z ≡ refused n
Numbered (ok k) y z = z ≡ y k.version

pub record ByNumber (x : Result Named) (y : ℕ → Result Given) (z : Result Given) : Type 0 where
  pub numbered : Numbered x y z

number-then : (r : Result (Unit {0})) {x : Result Named} {y : ℕ → Result Given} {z : Result Given} → ByNumber x y z → ByNumber (r >> x) (λ v. r >> y v) (r >> z)
number-then (refused n) h = record { numbered = refl }
number-then (ok a) h = h

number-bind : {A : Type 0} (r : Result A) {x : A → Result Named} {y : A → ℕ → Result Given} {z : A → Result Given} → ((a : A) → ByNumber (x a) (y a) (z a))
    → ByNumber (r >>= x) (λ v. r >>= (λ a. y a v)) (r >>= z)
number-bind (refused n) h = record { numbered = refl }
number-bind (ok a) h = h a

-- a test that a step back by number has not
number-test : (r : Result (Unit {0})) {x : Result Named} {y : ℕ → Result Given} {z : Result Given} → ByNumber x y z → ByNumber (r >> x) y (r >> z)
number-test (refused n) h = record { numbered = refl }
number-test (ok a) h = h

number-found : (x : Result Named) (y : ℕ → Result Given) → ByNumber x y (x >>= (λ k. y k.version))
number-found (refused n) y = record { numbered = refl }
number-found (ok k) y = record { numbered = refl }

module _ (table : List Mark) where
  number_same : (x : Result Named) (y : ℕ → Result Given) (z : Result Given) → ByNumber x y z → (found_mark x).answer.number ≡ 0
      → marked table z ≡ marked table (y (found_mark x).version)
  unfolding found_mark answer
  number_same (refused n) y z h e = absurd (omega (arith, number_of-pos n))
  number_same (ok k) y z h e = ap (marked table) h.numbered

module _ (keys archive : Bytes) (table : List Mark) (name : Bytes) (out work : ℕ) where
  -- the three calls' blocks
  pub by_number : ByNumber
      (room work >> (at_most 4096 keys >> (at_most 32768 archive >> (key_list keys >>= (λ K. archive_text K archive >>= (λ vs. finding (length vs) table name))))))
      (λ v. room work >> (at_most 4096 keys >> (at_most 32768 archive >> (key_list keys >>= (λ K. archive_text K archive
      >>= (λ vs. marks_in (length vs) table >>= (λ ks. earlier K vs ks v out)))))))
      (room work >> (at_most 4096 keys >> (at_most 32768 archive >> (key_list keys >>= (λ K. archive_text K archive
      >>= (λ vs. marks_in (length vs) table >>= (λ ks. legal_name name >> (find name ks >>= (λ k. earlier K vs ks k.version out)))))))))
  unfolding finding
  by_number =
      number-then (room work) (number-then (at_most 4096 keys) (number-then (at_most 32768 archive)
      (number-bind (key_list keys) (λ K. number-bind (archive_text K archive) (λ vs. number-bind (marks_in (length vs) table) (λ ks.
      number-test (legal_name name) (number-found (find name ks) (λ v. earlier K vs ks v out))))))))

  -- where the mark is found, stepping back by name is stepping back to its version
  pub by_name : (find_mark keys archive table name work).answer.number ≡ 0
      → step_back_to_mark keys archive table name out work ≡ step_back keys archive table (find_mark keys archive table name work).version out work
  unfolding find_mark step_back step_back_to_mark
  by_name e = number_same table _ _ _ by_number e
