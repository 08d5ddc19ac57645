-- Laws of the table of a list of marks.
use Rattle.std.specs.Prelude.{ℕ, zero, suc, ◌+◌, ◌-◌, ◌≤◌, ◌<◌, Bool, ◌&&◌, List, [], ◌∷◌, ◌++◌, map, eqb, leb, take, drop, get_or, set, replicate, Option, Some, None, Result as Tried, Ok, Err}
use Rattle.std.specs.Option.{is_some}
use native.Mathlib.Omega.{arith}
use Rattle.std.proofs.Common.{add-one, ◌∙◌, append_assoc, length-append, take_at, take-suc}
use Rattle.std.proofs.Math.Path.{◌≡◌, refl, sym, ap}
use Rattle.std.proofs.Math.Bool.{true, false}
use Rattle.std.proofs.Math.ListN.{length, length-map, get_or-append, get_or-map}
use Rattle.std.proofs.lemmas.List.{set_at}
use Rattle.std.proofs.Math.Seq.{take-append_seam, take_all}
use borrow.Author.Tests.{eq-eqb, ne_eqb, lt-leb, le-leb, lt-ltb, le-ltb, eqb-true, leb-true}
use Rattle.xml.specs.Bytes.{Bytes, any, all, keep, same, is_name_byte, distinct, same_by}
use Rattle.xml.specs.BytesLaws.{same-is}
use Rattle.xml.specs.Truth.{and_left, and_right, by-test, clash}
use Rattle.marks.specs.declared.Mark.{Mark}
use Rattle.marks.specs.declared.Table.{Table}
use Rattle.keys.specs.declared.refusal.Refusal.{Refusal}
use Rattle.keys.specs.declared.refusal.Refusal.TheVariants.{TableIllegal}
use Rattle.keys.specs.Result.{refused, ok, ◌>>=◌, r11, r15, r16, r17}
use Rattle.keys.specs.Meant.{row_of, meant}
use Rattle.marks.specs.Marks.{Named, is_mark_name, in_range, is_mark, entry, entries, name_of, same_mark, held, is_table, marks_in, legal_name, not_held, not_full, standing, find, up_to, setting, finding, dropping, unused, names}
use Rattle.marks.specs.Judging.{place_in, placed, lent_of, judged, pick_judged}
use Rattle.marks.specs.JudgeLaws.{held-blank, held-used, map_snoc, place-yes, place-no, place-any, placed-some, placed-none, take_short}
use Rattle.marks.specs.Lent.{past, blanks}
use Rattle.marks.specs.Changing.{mark_named, tabled, version_in, setting_among, finding_among, holding}

-- ---- two marks that are the same
pub mark-is : (a b : Mark) → same_mark a b ≡ true → a ≡ b
unfolding same_mark
mark-is a b e =
    let p = same-is a.name b.name (and_left (same a.name b.name) _ e) in
    let f = and_right (same a.name b.name) _ e in
    let q = eqb-true a.len b.len (and_left (eqb a.len b.len) _ f) in
    let r = eqb-true a.version b.version (and_right (eqb a.len b.len) _ f) in
    together p q r
  where
    together : {m n : List ℕ} {k l v w : ℕ} → m ≡ n → k ≡ l → v ≡ w → ◌≡◌ {A = Mark} (record { name = m; len = k; version = v }) (record { name = n; len = l; version = w })
    together p q r = rw (p, q, r) refl

pub table_is : (ms ns : List Mark) → same_by same_mark ms ns ≡ true → ms ≡ ns
unfolding same_by
table_is [] [] e = refl
table_is [] (n ∷ ns) e = clash (sym e)
table_is (m ∷ ms) [] e = clash (sym e)
table_is (m ∷ ms) (n ∷ ns) e =
    let p = mark-is m n (and_left (same_mark m n) _ e) in
    let q = table_is ms ns (and_right (same_mark m n) _ e) in
    cc

pub held-le : (ms : List Mark) → length (held ms) ≤ length ms
unfolding held
held-le [] = omega arith
held-le (m ∷ ms) = by-test (eqb m.len 0)
    (λ z. rw (held-blank m ms z) (omega arith))
    (λ z. let q = held-le ms in rw (held-used m ms z) (omega arith))

-- ---- the table of a list of marks
pub set-entries : (ks : List Named) (k : Named) → length ks < 32 → set (entries ks) (length ks) (entry k) ≡ entries (ks ++ k ∷ [])
unfolding entries
set-entries ks k l =
    let h : 32 - length ks ≡ suc (32 - suc (length ks)) = omega arith in
    let g : length (ks ++ k ∷ []) ≡ suc (length ks) = rw length-append (omega arith) in
    rw (h, g, map_snoc, append_assoc) (set_at (map entry ks) unused (replicate (32 - suc (length ks)) unused) (entry k) (length ks) (length-map ks entry))

get_d_any : {A : Type 0} (l : List A) (i : ℕ) (a b : A) → i < length l → get_or l i a ≡ get_or l i b
get_d_any [] i a b h = absurd (omega arith)
get_d_any (x ∷ l) zero a b h = refl
get_d_any (x ∷ l) (suc i) a b h = get_d_any l i a b (omega arith)

pub at-entries : (ks : List Named) (j : ℕ) (d : Named) → j < length ks → get_or (entries ks) j past ≡ entry (get_or ks j d)
unfolding entries
at-entries ks j d l =
    let h : j < length (map entry ks) = omega (arith, length-map ks entry) in
    get_or-append (map entry ks) (replicate (32 - length ks) unused) past j h ∙ get_d_any (map entry ks) j past (entry d) h ∙ get_or-map entry ks j d

pub name-entry : (k : Named) → name_of (entry k) ≡ k.name
unfolding entry
name-entry k = take-append_seam k.name (replicate (16 - length k.name) 0)

names-entries : (ks : List Named) → map name_of (map entry ks) ≡ map (λ k. k.name) ks
names-entries [] = refl
names-entries (k ∷ ks) = rw (name-entry k, names-entries ks) refl

pub names_of : (ks : List Named) → map name_of (take (length ks) (entries ks)) ≡ map (λ k. k.name) ks
unfolding entries
names_of ks = rw (take_at (map entry ks) (replicate (32 - length ks) unused) (length ks) (length-map ks entry)) (names-entries ks)

-- ---- finding
find-yes : (s : Bytes) (k : Named) (ks : List Named) → same s k.name ≡ true → find s (k ∷ ks) ≡ ok k
unfolding find
find-yes s k ks e = rw (e, find) refl

find-no : (s : Bytes) (k : Named) (ks : List Named) → same s k.name ≡ false → find s (k ∷ ks) ≡ find s ks
unfolding find
find-no s k ks e = rw (e, find) refl

pub find-place : (s : Bytes) (ks : List Named) (d : Named) → place_in s (map (λ k. k.name) ks) < length ks → find s ks ≡ ok (get_or ks (place_in s (map (λ k. k.name) ks)) d)
find-place s [] d h = absurd (omega arith)
find-place s (k ∷ ks) d h = by-test (same s k.name)
    (λ e. let z = place-yes s k.name (map (λ k. k.name) ks) e in rw z (find-yes s k ks e))
    (λ e. let z = place-no s k.name (map (λ k. k.name) ks) e in rw z (find-no s k ks e ∙ find-place s ks d (omega arith)))

pub find_none : (s : Bytes) (ks : List Named) → length ks ≤ place_in s (map (λ k. k.name) ks) → find s ks ≡ refused r15
unfolding find
find_none s [] h = refl
find_none s (k ∷ ks) h = by-test (same s k.name)
    (λ e. let z = place-yes s k.name (map (λ k. k.name) ks) e in absurd (omega arith))
    (λ e. let z = place-no s k.name (map (λ k. k.name) ks) e in find-no s k ks e ∙ find_none s ks (omega arith))

pub held_any : (s : Bytes) (ks : List Named) → any (λ k. same s k.name) ks ≡ any (same s) (map (λ k. k.name) ks)
unfolding any
held_any s [] = refl
held_any s (k ∷ ks) = rw (held_any s ks) refl

-- ---- dropping
pub keep-yes : {A : Type 0} (f : A → Bool) (a : A) (l : List A) → f a ≡ true → keep f (a ∷ l) ≡ a ∷ keep f l
unfolding keep
keep-yes f a l e = rw (e, keep) refl

pub keep-no : {A : Type 0} (f : A → Bool) (a : A) (l : List A) → f a ≡ false → keep f (a ∷ l) ≡ keep f l
unfolding keep
keep-no f a l e = rw (e, keep) refl

keep_append : {A : Type 0} (f : A → Bool) (l k : List A) → keep f (l ++ k) ≡ keep f l ++ keep f k
unfolding keep
keep_append f [] k = refl
keep_append f (a ∷ l) k = by-test (f a)
    (λ e. keep-yes f a (l ++ k) e ∙ rw (keep_append f l k, keep-yes f a l e) refl)
    (λ e. keep-no f a (l ++ k) e ∙ rw (keep_append f l k, keep-no f a l e) refl)

pub keep-le : {A : Type 0} (f : A → Bool) (l : List A) → length (keep f l) ≤ length l
unfolding keep
keep-le f [] = omega arith
keep-le f (a ∷ l) = by-test (f a)
    (λ e. let h = keep-le f l in rw (keep-yes f a l e) (omega arith))
    (λ e. let h = keep-le f l in rw (keep-no f a l e) (omega arith))

up_to-snoc : (i : ℕ) (l : List Named) (k : Named) → leb k.version i ≡ true → up_to i (l ++ k ∷ []) ≡ up_to i l ++ k ∷ []
unfolding up_to keep
up_to-snoc i l k e = keep_append (λ k. leb k.version i) l (k ∷ []) ∙ ap (λ r. keep (λ k. leb k.version i) l ++ r) (keep-yes (λ k. leb k.version i) k [] e)

nil_end : {A : Type 0} (l : List A) → l ++ [] ≡ l
nil_end [] = refl
nil_end (a ∷ l) = ap (λ r. a ∷ r) (nil_end l)

up_to-skip : (i : ℕ) (l : List Named) (k : Named) → leb k.version i ≡ false → up_to i (l ++ k ∷ []) ≡ up_to i l
unfolding up_to keep
up_to-skip i l k e = keep_append (λ k. leb k.version i) l (k ∷ []) ∙ ap (λ r. keep (λ k. leb k.version i) l ++ r) (keep-no (λ k. leb k.version i) k [] e) ∙ nil_end (keep (λ k. leb k.version i) l)

-- the first `count` entries, and the others unused, are those of the marks kept so far
pub record Kept (kept : List Named) (ms : List Mark) (count : ℕ) : Type 0 where
  pub table : ms ≡ entries kept
  pub many : count ≡ length kept

pub kept-none : (i : ℕ) (ks : List Named) → Kept (up_to i (take 0 ks)) blanks 0
unfolding up_to keep entries blanks
kept-none i ks = record { table = refl; many = refl }

-- one mark of the table l more, which is kept or passed over
module _ (i : ℕ) (ks : List Named) (j : ℕ) (l : List Mark) (e : l ≡ entries ks) (h : j < length ks) (ms : List Mark) (c : ℕ) (k : Kept (up_to i (take j ks)) ms c) where
  abbrev d : Named
  d = record { name = []; version = 0 }

  abbrev this : Named
  this = get_or ks j d

  is-entry : get_or l j past ≡ entry this
  is-entry = ap (λ x. get_or x j past) e ∙ at-entries ks j d h

  version-is : (get_or l j past).version ≡ this.version
  unfolding entry
  version-is = ap (λ m. m.version) is-entry

  one_more : take (j + 1) ks ≡ take j ks ++ this ∷ []
  one_more = ap (λ n. take n ks) (add-one j) ∙ take-suc ks j d h

  pub kept_next : (get_or l j past).version ≤ i → c < 32 → Kept (up_to i (take (j + 1) ks)) (set ms c (get_or l j past)) (c + 1)
  kept_next v f =
      let g : length (up_to i (take j ks)) < 32 = omega (arith, k.many) in
      let p : set ms c (get_or l j past) ≡ set (entries (up_to i (take j ks))) (length (up_to i (take j ks))) (entry this) = rw (is-entry, k.table, k.many) refl in
      let q : length (up_to i (take j ks) ++ this ∷ []) ≡ c + 1 = rw (length-append, k.many) refl in
      rw (one_more, up_to-snoc i (take j ks) this (le-leb this.version i (omega (arith, version-is)))) (record { table = p ∙ set-entries (up_to i (take j ks)) this g; many = sym q })

  pub kept-past : i < (get_or l j past).version → Kept (up_to i (take (j + 1) ks)) ms c
  kept-past v = rw (one_more, up_to-skip i (take j ks) this (lt-leb this.version i (omega (arith, version-is)))) k

pub kept-all : (i u j : ℕ) (ks : List Named) (ms : List Mark) (c : ℕ) → j ≤ u → u ≤ j → length ks ≡ u → Kept (up_to i (take j ks)) ms c → ◌≡◌ {A = Table} (record { held = ms; size = 32 }) (holding (up_to i ks))
kept-all i u j ks ms c a b l k = rw (k.table, take_all j ks (omega arith)) refl

-- ---- names
pub name-empty : (s : Bytes) → length s < 1 → is_mark_name s ≡ false
unfolding is_mark_name
name-empty s l = rw (lt-leb 1 (length s) l) refl

pub name-too-long : (s : Bytes) → 16 < length s → is_mark_name s ≡ false
unfolding is_mark_name
name-too-long s l = rw (lt-leb (length s) 16 l) (off (leb 1 (length s)))
  where
    off : (a : Bool) → (a && false) ≡ false
    off true = refl
    off false = refl

pub name-bytes : (s : Bytes) → 1 ≤ length s → length s ≤ 16 → is_mark_name s ≡ all is_name_byte s
unfolding is_mark_name
name-bytes s a b = rw (le-leb 1 (length s) a, le-leb (length s) 16 b) refl

pub name-fits : (s : Bytes) → is_mark_name s ≡ true → length s ≤ 16
unfolding is_mark_name
name-fits s e = leb-true (length s) 16 (and_left (leb (length s) 16) (all is_name_byte s) (and_right (leb 1 (length s)) _ e))

drop-replicate : {A : Type 0} (i n : ℕ) (a : A) → drop i (replicate n a) ≡ replicate (n - i) a
drop-replicate zero n a = let h : n - 0 ≡ n = omega arith in rw h refl
drop-replicate (suc i) zero a = let h : 0 - suc i ≡ 0 = omega arith in rw h refl
drop-replicate (suc i) (suc n) a = let h : suc n - suc i ≡ n - i = omega arith in rw h (drop-replicate i n a)

pub entry-made : (s : Bytes) (v : ℕ) (b : List ℕ) → b ≡ s
    → ◌≡◌ {A = Mark} (record { name = b ++ drop (length s) (replicate 16 0); len = length s; version = v }) (entry (mark_named s v))
unfolding entry
entry-made s v b e = rw (e, drop-replicate {A = ℕ} (length s) 16 0) refl

-- ---- a table by value
module _ (n : ℕ) (t : Table) (small : t.size ≤ 32) (h : length t.held ≡ 32) where
  -- what a legal one is
  pub record Legal (u : ℕ) : Type 0 where
    pub are : t.held ≡ entries (held (lent_of t))
    pub count : length (held (lent_of t)) ≡ u
    pub few : u ≤ 32
    pub reads : marks_in n (lent_of t) ≡ ok (held (lent_of t))

  legal-marks : (b : Bool) (u : ℕ) → is_table n (lent_of t) ≡ b → pick_judged b (length (held (lent_of t))) ≡ Ok u → Legal u
  unfolding is_table marks_in entries
  legal-marks false u e p = absurd (never p)
    where
      never : ◌≡◌ {A = Tried ℕ Refusal} (Err TableIllegal) (Ok u) → ⊥
      never q = let y : ◌≡◌ {A = ℕ} 0 1 = cc in omega arith
  legal-marks true u e p =
      let c : length (held (lent_of t)) ≡ u = cc in
      let l : length (lent_of t) ≡ 32 = eqb-true (length (lent_of t)) 32 (and_left (eqb (length (lent_of t)) 32) _ e) in
      let g = and_right (distinct same (names (held (lent_of t)))) _ (and_right (all (is_mark n) (held (lent_of t))) _ (and_right (eqb (length (lent_of t)) 32) _ e)) in
      let s : t.size ≡ 32 = let y = take_short t.size t.held in omega arith in
      let w : lent_of t ≡ t.held = take_all t.size t.held (omega arith) in
      record {
        are = sym w ∙ table_is (lent_of t) (entries (held (lent_of t))) g;
        count = c;
        few = let y = held-le (lent_of t) in omega arith;
        reads = rw e refl;
      }

  pub legal-is : (u : ℕ) → Ok u ≡ judged n (lent_of t) → Legal u
  legal-is u p = legal-marks (is_table n (lent_of t)) u refl (sym p)

-- a table that is refused, under its row
pub illegal-is : (n : ℕ) (ms : List Mark) (w : Refusal) → Err w ≡ judged n ms → (row_of w ≡ r17) × (marks_in n ms ≡ refused r17)
unfolding marks_in
illegal-is n ms w p = at (is_table n ms) refl (sym p)
  where
    at : (b : Bool) → is_table n ms ≡ b → pick_judged b (length (held ms)) ≡ Err w → (row_of w ≡ r17) × (marks_in n ms ≡ refused r17)
    at true e q = let y : ◌≡◌ {A = ℕ} 0 1 = cc in absurd (omega arith)
    at false e q = let v : w ≡ TableIllegal = cc in (ap row_of v, rw e refl)

-- what is judged is how many marks are read
pub judged-means : (n : ℕ) (ms : List Mark) → meant (judged n ms) ≡ (marks_in n ms >>= (λ ks. ok (length ks)))
unfolding marks_in
judged-means n ms = at (is_table n ms) refl
  where
    at : (b : Bool) → is_table n ms ≡ b → meant (pick_judged b (length (held ms))) ≡ (marks_in n ms >>= (λ ks. ok (length ks)))
    at true e = rw e refl
    at false e = rw e refl

-- the three calls, after 17
pub setting-legal : (n : ℕ) (ms : List Mark) (ks : List Named) (s : Bytes) (v : ℕ) → marks_in n ms ≡ ok ks → setting n ms s v ≡ setting_among n ks s v
unfolding setting
setting-legal n ms ks s v e = rw e refl

pub setting-illegal : (n : ℕ) (ms : List Mark) (s : Bytes) (v : ℕ) → marks_in n ms ≡ refused r17 → setting n ms s v ≡ refused r17
unfolding setting
setting-illegal n ms s v e = rw e refl

pub finding-legal : (n : ℕ) (ms : List Mark) (ks : List Named) (s : Bytes) → marks_in n ms ≡ ok ks → finding n ms s ≡ finding_among ks s
unfolding finding
finding-legal n ms ks s e = rw e refl

pub finding-illegal : (n : ℕ) (ms : List Mark) (s : Bytes) → marks_in n ms ≡ refused r17 → finding n ms s ≡ refused r17
unfolding finding
finding-illegal n ms s e = rw e refl

pub dropping-legal : (n : ℕ) (ms : List Mark) (ks : List Named) (i : ℕ) → marks_in n ms ≡ ok ks → dropping n ms i ≡ ok (up_to i ks)
unfolding dropping
dropping-legal n ms ks i e = rw e refl

pub dropping-illegal : (n : ℕ) (ms : List Mark) (i : ℕ) → marks_in n ms ≡ refused r17 → dropping n ms i ≡ refused r17
unfolding dropping
dropping-illegal n ms i e = rw e refl

-- and 17
module _ (n : ℕ) (ms : List Mark) {w : Refusal} (e : Err w ≡ judged n ms) where
  pub set-17 : (s : Bytes) (v : ℕ) → refused (row_of w) ≡ tabled (setting n ms s v)
  set-17 s v = let l = illegal-is n ms w e in ap refused l.0 ∙ ap tabled (sym (setting-illegal n ms s v l.1))

  pub find-17 : (s : Bytes) → refused (row_of w) ≡ version_in (finding n ms s)
  find-17 s = let l = illegal-is n ms w e in ap refused l.0 ∙ ap version_in (sym (finding-illegal n ms s l.1))

  pub drop-17 : (i : ℕ) → refused (row_of w) ≡ tabled (dropping n ms i)
  drop-17 i = let l = illegal-is n ms w e in ap refused l.0 ∙ ap tabled (sym (dropping-illegal n ms i l.1))

-- ---- the returns of `set_among` and `find_among`
-- the place of a name among the entries of a legal table
place-among : (s : Bytes) (v : ℕ) (ks : List Named) (l : List Mark) (u : ℕ) → l ≡ entries ks → length ks ≡ u
    → place_in (name_of (entry (mark_named s v))) (map name_of (take u l)) ≡ place_in s (map (λ k. k.name) ks)
place-among s v ks l u e g = rw (e, ← g, names_of ks, name-entry (mark_named s v)) refl

-- what `place_of` answers there
module _ (s : Bytes) (v : ℕ) (ks : List Named) (l : List Mark) (u : ℕ) (e : l ≡ entries ks) (g : length ks ≡ u) {m : Mark} (q : m ≡ entry (mark_named s v)) where
  abbrev names-place : ℕ
  names-place = place_in s (map (λ k. k.name) ks)

  among : (r : Option ℕ) → r ≡ placed (place_in (name_of m) (map name_of (take u l))) u → r ≡ placed names-place (length ks)
  among r p = p ∙ ap (λ x. placed (place_in (name_of x) (map name_of (take u l))) u) q ∙ ap (λ i. placed i u) (place-among s v ks l u e g) ∙ ap (placed names-place) (sym g)

  pub place-some : {i : ℕ} → Some i ≡ placed (place_in (name_of m) (map name_of (take u l))) u → (i ≡ place_in s (map (λ k. k.name) ks)) × (i < length ks)
  place-some {i} p = let a = placed-some (among (Some i) p) in (a.0, omega (arith, a.0, a.1))

  pub place-none : (r : Option ℕ) → is_some r ≡ false → r ≡ placed (place_in (name_of m) (map name_of (take u l))) u → length ks ≤ place_in s (map (λ k. k.name) ks)
  place-none None n p = placed-none (among None p)
  place-none (Some i) n p = clash n

  pub place-held : (r : Option ℕ) → is_some r ≡ true → r ≡ placed (place_in (name_of m) (map name_of (take u l))) u → place_in s (map (λ k. k.name) ks) < length ks
  place-held None n p = clash (sym n)
  place-held (Some i) n p = (placed-some (among (Some i) p)).1

module _ (n : ℕ) (ks : List Named) (s : Bytes) (v : ℕ) where
  pub set-unnamed : is_mark_name s ≡ false → setting_among n ks s v ≡ refused r15
  unfolding legal_name
  set-unnamed e = rw e refl

  module _ (a : is_mark_name s ≡ true) where
    pub set-held : place_in s (map (λ k. k.name) ks) < length ks → setting_among n ks s v ≡ refused r15
    unfolding legal_name not_held
    set-held l = rw (a, held_any s ks, place-any s (map (λ k. k.name) ks), length-map ks (λ k. k.name), lt-ltb (place_in s (map (λ k. k.name) ks)) (length ks) l) refl

    module _ (b : length ks ≤ place_in s (map (λ k. k.name) ks)) where
      free : any (λ k. same s k.name) ks ≡ false
      free = rw (held_any s ks, place-any s (map (λ k. k.name) ks), length-map ks (λ k. k.name)) (le-ltb (place_in s (map (λ k. k.name) ks)) (length ks) b)

      pub set_full : length ks ≡ 32 → setting_among n ks s v ≡ refused r16
      unfolding legal_name not_held not_full
      set_full e = rw (a, free, eq-eqb (length ks) 32 e) refl

      module _ (c : length ks ≡ 32 → ⊥) where
        pub set-zero : v < 1 → setting_among n ks s v ≡ refused r11
        unfolding legal_name not_held not_full standing in_range
        set-zero e = rw (a, free, ne_eqb (length ks) 32 c, lt-leb 1 v e) refl

        pub set-later : 1 ≤ v → n < v → setting_among n ks s v ≡ refused r11
        unfolding legal_name not_held not_full standing in_range
        set-later d e = rw (a, free, ne_eqb (length ks) 32 c, le-leb 1 v d, lt-leb v n e) refl

        pub set-done : 1 ≤ v → v ≤ n → setting_among n ks s v ≡ ok (ks ++ mark_named s v ∷ [])
        unfolding legal_name not_held not_full standing in_range
        set-done d e = rw (a, free, ne_eqb (length ks) 32 c, le-leb 1 v d, le-leb v n e) refl

module _ (ks : List Named) (s : Bytes) where
  pub find-unnamed : is_mark_name s ≡ false → finding_among ks s ≡ refused r15
  unfolding legal_name
  find-unnamed e = rw e refl

  pub find-done : is_mark_name s ≡ true → (d : Named) → place_in s (map (λ k. k.name) ks) < length ks → finding_among ks s ≡ ok (get_or ks (place_in s (map (λ k. k.name) ks)) d)
  unfolding legal_name
  find-done e d l = rw (e, find-place s ks d l) refl

  pub find-missing : is_mark_name s ≡ true → length ks ≤ place_in s (map (λ k. k.name) ks) → finding_among ks s ≡ refused r15
  unfolding legal_name
  find-missing e l = rw (e, find_none s ks l) refl

pub set-put : (t : Table) (ks : List Named) (k : Named) (m : Mark) (u : ℕ) → t.held ≡ entries ks → length ks ≡ u → u < 32 → m ≡ entry k
    → ok (record { held = set t.held u m; size = 32 }) ≡ tabled (ok (ks ++ k ∷ []))
set-put t ks k m u e g l q =
    let h : set t.held u m ≡ entries (ks ++ k ∷ []) = rw (q, e, ← g) (set-entries ks k (omega arith)) in
    rw h refl

pub find-put : (ks : List Named) (l : List Mark) (s : Bytes) (i : ℕ) → l ≡ entries ks → is_mark_name s ≡ true → i ≡ place_in s (map (λ k. k.name) ks) → i < length ks
    → ok (get_or l i past).version ≡ version_in (finding_among ks s)
unfolding entry
find-put ks l s i e y p h =
    let d : Named = record { name = []; version = 0 } in
    let v : (get_or l i past).version ≡ (get_or ks (place_in s (map (λ k. k.name) ks)) d).version = ap (λ m. m.version) (ap (λ x. get_or x i past) e ∙ at-entries ks i d h) ∙ ap (λ j. (get_or ks j d).version) p in
    rw v (ap version_in (sym (find-done ks s y d (omega arith))))
