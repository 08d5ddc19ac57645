-- Laws of the loops that judge a table.
use Rattle.std.specs.Prelude.{ℕ, zero, suc, ◌+◌, ◌-◌, ◌≤◌, ◌<◌, ◌≡◌, Bool, not, ◌&&◌, ◌||◌, eqb, leb, ltb, take, drop, get_or, Option, Some, None, Err}
use Rattle.std.proofs.Common.{arith, sym, ◌∙◌, length-drop, take-append-drop, drop_of_length-le, drop-cons, length-take-le, take_all}
use Rattle.std.proofs.Math.Numerals.{add-one}
use Rattle.std.proofs.Math.Path.{refl, ap}
use Rattle.std.proofs.Math.Bool.{true, false}
use mathlib.Core.List.{List, [], ◌∷◌, ◌++◌, map}
use Rattle.std.proofs.Math.Dec.{leb-suc-suc}
use Rattle.std.proofs.Math.ListN.{length, replicate}
use Rattle.std.proofs.lemmas.List.Sums.{prefix_len-le-length}
use Rattle.std.specs.List.{list_all, list_any, position, position_or_len}
use Rattle.std.specs.Option.{unwrap_or}
use Rattle.std.specs.Str.{bytes_eq}
use borrow.Author.Tests.{ltb-true, ltb-false, eq-eqb, ne_eqb, lt-leb, le-leb, lt-ltb, eqb-true}
use Rattle.xml.specs.Bytes.{Bytes, any, all, distinct, same, same_by, is_name_byte}
use Rattle.xml.specs.BytesLaws.{same-is, same_self}
use Rattle.xml.specs.Truth.{by-test, clash, not_so}
use Rattle.marks.specs.declared.Mark.{Mark}
use Rattle.marks.specs.declared.Table.{Table}
use Rattle.keys.specs.declared.refusal.Refusal.TheVariants.{TableIllegal}
use Rattle.marks.specs.Marks.{is_mark_name, in_range, is_mark, entry, unused, entries, name_of, named, held, names, same_mark, is_table}
use Rattle.marks.specs.Judging.{padded, is_entry, used_in, place_in, placed, lent_of, judged, pick_judged}
use Rattle.marks.specs.Lent.{past}

-- ---- std's words for the tests of a list
pub all-is : {A : Type 0} (f : A → Bool) (l : List A) → all f l ≡ list_all f l
unfolding all
all-is f [] = refl
all-is f (x ∷ l) = ap (λ b. f x && b) (all-is f l)

pub same-eq : (s t : Bytes) → same s t ≡ bytes_eq s t
unfolding same same_by
same-eq [] [] = refl
same-eq [] (y ∷ t) = refl
same-eq (x ∷ s) [] = refl
same-eq (x ∷ s) (y ∷ t) = ap (λ b. eqb x y && b) (same-eq s t)

-- the first place that passes, or how many there are
pub position-or : {A : Type 0} (p : A → Bool) (l : List A) → unwrap_or (position p l) (length l) ≡ position_or_len p l
position-or p l =
    let h : position_or_len p l ≤ length l = prefix_len-le-length (λ x. not (p x)) l in
    by-test (ltb (position_or_len p l) (length l)) (λ e. rw e refl) (λ e. let g = ltb-false (position_or_len p l) (length l) e in rw e (omega arith))

pub position-placed : {A : Type 0} (p : A → Bool) (l : List A) → position p l ≡ placed (position_or_len p l) (length l)
position-placed p l = by-test (ltb (position_or_len p l) (length l)) (λ e. rw (e, placed) refl) (λ e. rw (e, placed) refl)

pub placed-some : {i p u : ℕ} → Some i ≡ placed p u → (i ≡ p) × (p < u)
placed-some {i} {p} {u} = at (ltb p u) refl
  where
    at : (b : Bool) → ltb p u ≡ b → ◌≡◌ {A = Option ℕ} (Some i) (elim b [ true ↦ Some p | false ↦ None ]) → (i ≡ p) × (p < u)
    at true e f = let q : i ≡ p = cc in (q, ltb-true p u e)
    at false e f = let y : ◌≡◌ {A = ℕ} 0 1 = cc in absurd (omega arith)

pub placed-none : {p u : ℕ} → ◌≡◌ {A = Option ℕ} None (placed p u) → u ≤ p
placed-none {p} {u} = at (ltb p u) refl
  where
    at : (b : Bool) → ltb p u ≡ b → ◌≡◌ {A = Option ℕ} None (elim b [ true ↦ Some p | false ↦ None ]) → u ≤ p
    at true e f = let y : ◌≡◌ {A = ℕ} 0 1 = cc in absurd (omega arith)
    at false e f = ltb-false p u e

-- ---- bytes of a name and zeros after it
pub padded-parts : (k : ℕ) (s : Bytes) → padded k s ≡ (list_all is_name_byte (take k s) && list_all (λ b. eqb b 0) (drop k s))
unfolding padded
padded-parts zero [] = refl
padded-parts (suc k) [] = refl
padded-parts zero (b ∷ s) = ap (λ r. eqb b 0 && r) (padded-parts zero s)
padded-parts (suc k) (b ∷ s) = ap (λ r. is_name_byte b && r) (padded-parts k s) ∙ regroup (is_name_byte b) (list_all is_name_byte (take k s)) (list_all (λ b. eqb b 0) (drop k s))
  where
    regroup : (a b c : Bool) → (a && (b && c)) ≡ ((a && b) && c)
    regroup true b c = refl
    regroup false b c = refl

pub drop-taken : {A : Type 0} (k : ℕ) (s : List A) → drop (length (take k s)) s ≡ drop k s
drop-taken zero s = refl
drop-taken (suc k) [] = refl
drop-taken (suc k) (x ∷ s) = drop-taken k s

-- ---- a list of so many elements
pub take_short : {A : Type 0} (k : ℕ) (s : List A) → length (take k s) ≤ k
take_short zero s = omega arith
take_short (suc k) [] = omega arith
take_short (suc k) (x ∷ s) = let h = take_short k s in omega arith

-- ---- two names
pub same_turn : (s t : Bytes) → same s t ≡ same t s
same_turn s t = by-test (same s t)
    (λ e. e ∙ sym (ap (λ x. same x s) (sym (same-is s t e)) ∙ same_self s))
    (λ e. e ∙ sym (not_so (same t s) (λ f. clash (sym (ap (same s) (same-is t s f) ∙ same_self s) ∙ e))))

eqb-turn : (m n : ℕ) → eqb m n ≡ eqb n m
eqb-turn m n = by-test (eqb m n)
    (λ e. e ∙ sym (eq-eqb n m (sym (eqb-true m n e))))
    (λ e. e ∙ sym (ne_eqb n m (λ f. clash (sym (eq-eqb m n (sym f)) ∙ e))))

-- ---- the place of a name
pub place-yes : (s t : Bytes) (ts : List Bytes) → same s t ≡ true → place_in s (t ∷ ts) ≡ 0
unfolding place_in
place-yes s t ts e = rw (e, place_in) refl

pub place-no : (s t : Bytes) (ts : List Bytes) → same s t ≡ false → place_in s (t ∷ ts) ≡ suc (place_in s ts)
unfolding place_in
place-no s t ts e = rw (e, place_in) refl

place-none : (x : Bytes) → place_in x [] ≡ 0
unfolding place_in
place-none x = refl

-- among the names of entries
pub place-is : (x : Bytes) (l : List Mark) → place_in x (map name_of l) ≡ position_or_len (λ m. same x (name_of m)) l
place-is x [] = place-none x
place-is x (m ∷ l) = by-test (same x (name_of m))
    (λ e. place-yes x (name_of m) (map name_of l) e ∙ rw e refl)
    (λ e. let h = place-is x l in place-no x (name_of m) (map name_of l) e ∙ rw e (omega arith))

-- a name stands among others where its place is one of theirs
pub place-any : (x : Bytes) (l : List Bytes) → any (same x) l ≡ ltb (place_in x l) (length l)
unfolding any place_in
place-any x [] = refl
place-any x (y ∷ l) = at (same x y) (place-any x l)
  where
    at : (b : Bool) → any (same x) l ≡ ltb (place_in x l) (length l) → (b || any (same x) l) ≡ ltb (elim b [ true ↦ 0 | false ↦ suc (place_in x l) ]) (suc (length l))
    at true ih = sym (lt-ltb 0 (suc (length l)) (omega arith))
    at false ih = ih ∙ sym (leb-suc-suc (suc (place_in x l)) (length l))

-- the length of a name
module _ (m : Mark) (h : length m.name ≡ 16) where
  pub name-long : 16 < m.len → length (name_of m) ≡ 16
  name-long l = ap length (take_all m.len m.name (omega arith)) ∙ h

  pub name-short : m.len ≤ 16 → length (name_of m) ≡ m.len
  name-short l = length-take-le m.len m.name (omega arith)

-- ---- an entry in use
-- tests, regrouped
and_last : (a b : Bool) → b ≡ false → (a && b) ≡ false
and_last true b e = e
and_last false b e = refl

all-four : (p q r : Bool) → ((p && q) && (true && r)) ≡ (p && (q && r))
all-four true q r = refl
all-four false q r = refl

zeros_of : (s : Bytes) → same s (replicate (length s) 0) ≡ padded 0 s
unfolding padded same same_by
zeros_of [] = refl
zeros_of (b ∷ s) = rw (zeros_of s) refl

pub padded-split : (k : ℕ) (s : Bytes) → (all is_name_byte (take k s) && same s (take k s ++ replicate (length s - k) 0)) ≡ padded k s
unfolding padded all same same_by
padded-split zero [] = refl
padded-split (suc k) [] = let h : 0 - suc k ≡ 0 = omega arith in rw h refl
padded-split zero (b ∷ s) = let h : suc (length s) - 0 ≡ suc (length s) = omega arith in rw h (zeros_of (b ∷ s))
padded-split (suc k) (b ∷ s) =
    let h : suc (length s) - suc k ≡ length s - k = omega arith in
    rw (h, eq-eqb b b refl) (all-four (is_name_byte b) (all is_name_byte (take k s)) (same_by eqb s (take k s ++ replicate (length s - k) 0)) ∙ ap (λ x. is_name_byte b && x) (padded-split k s))

module _ (n : ℕ) (m : Mark) (h : length m.name ≡ 16) where
  pub entry-low : m.len < 1 → is_entry n m ≡ false
  unfolding is_entry is_mark is_mark_name
  entry-low l =
      let z : length (name_of m) ≡ m.len = name-short m h (omega arith) in
      rw (z, lt-leb 1 m.len l) refl

  pub entry-long : 16 < m.len → is_entry n m ≡ false
  unfolding is_entry same_mark entry
  entry-long l =
      let z : length (name_of m) ≡ 16 = name-long m h l in
      rw (z, ne_eqb m.len 16 (λ e. absurd (omega arith))) (and_last (is_mark n (named m)) _ (and_last (same m.name (name_of m ++ replicate (16 - 16) 0)) _ refl))

  pub entry-unset : m.version < 1 → is_entry n m ≡ false
  unfolding is_entry is_mark in_range
  entry-unset l = rw (lt-leb 1 m.version l) (off (is_mark_name (name_of m)) (same_mark m (entry (named m))))
    where
      off : (a b : Bool) → ((a && false) && b) ≡ false
      off true b = refl
      off false b = refl

  pub entry-later : n < m.version → is_entry n m ≡ false
  unfolding is_entry is_mark in_range
  entry-later l = rw (lt-leb m.version n l) (off (is_mark_name (name_of m)) (leb 1 m.version) (same_mark m (entry (named m))))
    where
      off : (a c b : Bool) → ((a && (c && false)) && b) ≡ false
      off true true b = refl
      off true false b = refl
      off false c b = refl

  pub entry-rest : 1 ≤ m.len → m.len ≤ 16 → 1 ≤ m.version → m.version ≤ n → is_entry n m ≡ padded m.len m.name
  unfolding is_entry is_mark is_mark_name in_range same_mark entry
  entry-rest a b c d =
      let z : length (name_of m) ≡ m.len = name-short m h b in
      rw (z, le-leb 1 m.len a, le-leb m.len 16 b, le-leb 1 m.version c, le-leb m.version n d, eq-eqb m.len m.len refl, eq-eqb m.version m.version refl, ← h)
      (two (all is_name_byte (name_of m)) (same m.name (name_of m ++ replicate (length m.name - m.len) 0)) ∙ padded-split m.len m.name)
    where
      two : (p q : Bool) → ((p && true) && (q && true)) ≡ (p && q)
      two true true = refl
      two true false = refl
      two false q = refl

-- ---- the table
pub held-blank : (m : Mark) (ms : List Mark) → eqb m.len 0 ≡ true → held (m ∷ ms) ≡ []
unfolding held
held-blank m ms e = rw (e, held) refl

pub held-used : (m : Mark) (ms : List Mark) → eqb m.len 0 ≡ false → held (m ∷ ms) ≡ named m ∷ held ms
unfolding held
held-used m ms e = rw (e, held) refl

pub map_snoc : {A B : Type 0} (f : A → B) (l : List A) (a : A) → map f (l ++ a ∷ []) ≡ map f l ++ f a ∷ []
map_snoc f [] a = refl
map_snoc f (x ∷ l) a = ap (λ r. f x ∷ r) (map_snoc f l a)

-- ---- a legal table in three parts: entries in use, their names, unused entries
used-blank : (m : Mark) (ms : List Mark) → eqb m.len 0 ≡ true → used_in (m ∷ ms) ≡ 0
unfolding used_in
used-blank m ms e = rw (e, used_in) refl

used-more : (m : Mark) (ms : List Mark) → eqb m.len 0 ≡ false → used_in (m ∷ ms) ≡ suc (used_in ms)
unfolding used_in
used-more m ms e = rw (e, used_in) refl

used-nothing : used_in [] ≡ 0
unfolding used_in
used-nothing = refl

pub used_le : (ms : List Mark) → used_in ms ≤ length ms
used_le [] = rw used-nothing (omega arith)
used_le (m ∷ ms) = by-test (eqb m.len 0)
    (λ z. rw (used-blank m ms z) (omega arith))
    (λ z. let r = used_le ms in rw (used-more m ms z) (omega arith))

held-length : (ms : List Mark) → length (held ms) ≡ used_in ms
unfolding held used_in
held-length [] = refl
held-length (m ∷ ms) = by-test (eqb m.len 0)
    (λ z. ap length (held-blank m ms z) ∙ sym (used-blank m ms z))
    (λ z. ap length (held-used m ms z) ∙ ap suc (held-length ms) ∙ sym (used-more m ms z))

-- the marks that are held, and their names
held-are : (ms : List Mark) → held ms ≡ map named (take (used_in ms) ms)
unfolding held
held-are [] = rw used-nothing refl
held-are (m ∷ ms) = by-test (eqb m.len 0)
    (λ z. rw (used-blank m ms z) (held-blank m ms z))
    (λ z. rw (used-more m ms z) (held-used m ms z ∙ ap (λ l. named m ∷ l) (held-are ms)))

names-are : (us : List Mark) → names (map named us) ≡ map name_of us
names-are [] = refl
names-are (m ∷ us) = ap (λ l. name_of m ∷ l) (names-are us)

-- an entry in use is that of a legal mark
is-own : Mark → Bool
is-own m = same_mark m (entry (named m))

entries-are : (n : ℕ) (us : List Mark) → all (is_entry n) us ≡ (all (is_mark n) (map named us) && all is-own us)
unfolding all is_entry is-own
entries-are n [] = refl
entries-are n (m ∷ us) = rw (entries-are n us) (regroup (is_mark n (named m)) (is-own m) (all (is_mark n) (map named us)) (all is-own us))
  where
    regroup : (a b c d : Bool) → ((a && b) && (c && d)) ≡ ((a && c) && (b && d))
    regroup true true c d = refl
    regroup true false true d = refl
    regroup true false false d = refl
    regroup false b c d = refl

-- the table of the marks held, entry by entry
mark-turn : (a b : Mark) → same_mark a b ≡ same_mark b a
unfolding same_mark
mark-turn a b = rw (same_turn a.name b.name, eqb-turn a.len b.len, eqb-turn a.version b.version) refl

pub mark-eq : (m : Mark) → (bytes_eq m.name (replicate 16 0) && (eqb m.len 0 && eqb m.version 0)) ≡ same_mark unused m
unfolding same_mark
mark-eq m = ap (λ b. b && (eqb m.len 0 && eqb m.version 0)) (sym (same-eq m.name (replicate 16 0))) ∙ mark-turn m unused

unused-are : (ms : List Mark) → same_by same_mark ms (replicate (length ms) unused) ≡ all (same_mark unused) ms
unfolding same_by all
unused-are [] = refl
unused-are (m ∷ ms) = rw (mark-turn m unused, unused-are ms) refl

own-are : (us ms : List Mark) → same_by same_mark (us ++ ms) (map entry (map named us) ++ replicate (length ms) unused) ≡ (all is-own us && all (same_mark unused) ms)
unfolding same_by all is-own
own-are [] ms = unused-are ms
own-are (m ∷ us) ms = rw (own-are us ms) (group (is-own m) (all is-own us) (all (same_mark unused) ms))
  where
    group : (a b c : Bool) → (a && (b && c)) ≡ ((a && b) && c)
    group true b c = refl
    group false b c = refl

table-is-own : (ms : List Mark) → length ms ≡ 32 → same_by same_mark ms (entries (held ms)) ≡ (all is-own (take (used_in ms) ms) && all (same_mark unused) (drop (used_in ms) ms))
unfolding entries
table-is-own ms h =
    let u = used_in ms in
    let l : u ≤ length ms = used_le ms in
    let e : 32 - length (held ms) ≡ length (drop u ms) = rw (length-drop, held-length ms) (omega arith) in
    rw (e, held-are ms)
    (ap (λ l. same_by same_mark l (map entry (map named (take u ms)) ++ replicate (length (drop u ms)) unused)) (sym (take-append-drop u ms)) ∙ own-are (take u ms) (drop u ms))

legal-parts : (n : ℕ) (ms : List Mark) → length ms ≡ 32
    → is_table n ms ≡ (all (is_entry n) (take (used_in ms) ms) && (distinct same (map name_of (take (used_in ms) ms)) && all (same_mark unused) (drop (used_in ms) ms)))
unfolding is_table
legal-parts n ms h =
    rw (eq-eqb (length ms) 32 h, table-is-own ms h, held-are ms, names-are (take (used_in ms) ms), entries-are n (take (used_in ms) ms))
    (regroup (all (is_mark n) (map named (take (used_in ms) ms))) (distinct same (map name_of (take (used_in ms) ms))) (all is-own (take (used_in ms) ms)) (all (same_mark unused) (drop (used_in ms) ms)))
  where
    regroup : (a d s u : Bool) → (true && (a && (d && (s && u)))) ≡ ((a && s) && (d && u))
    regroup true true s u = refl
    regroup true false true u = refl
    regroup true false false u = refl
    regroup false d s u = refl

-- the entries in use are those before the first of length 0
pub used-is : (ms : List Mark) → used_in ms ≡ position_or_len (λ m. eqb m.len 0) ms
used-is [] = used-nothing
used-is (m ∷ ms) = by-test (eqb m.len 0)
    (λ e. used-blank m ms e ∙ rw e refl)
    (λ e. let h = used-is ms in used-more m ms e ∙ rw e (omega arith))

-- ---- the loop that compares each name with those after it
names-any : (x : Bytes) (l : List Mark) → any (same x) (map name_of l) ≡ list_any (λ m. same x (name_of m)) l
unfolding any
names-any x [] = refl
names-any x (m ∷ l) = ap (λ b. same x (name_of m) || b) (names-any x l)

pub distinct-next : (l : List Mark) (i : ℕ) → i < length l
    → distinct same (map name_of (drop i l)) ≡ (not (list_any (λ m. same (name_of (get_or l i past)) (name_of m)) (drop (i + 1) l)) && distinct same (map name_of (drop (i + 1) l)))
unfolding distinct
distinct-next l i h = rw (drop-cons l i past h, add-one) (ap (λ b. not b && distinct same (map name_of (drop (suc i) l))) (names-any (name_of (get_or l i past)) (drop (suc i) l)))

pub distinct-end : (l : List Mark) (i : ℕ) → length l ≤ i → distinct same (map name_of (drop i l)) ≡ true
unfolding distinct
distinct-end l i h = rw (drop_of_length-le l h) refl

-- ---- the answer
module _ (n : ℕ) (t : Table) (h : length t.held ≡ 32) (s : t.size ≡ 32) where
  pub judged-by : (u : ℕ) (a b c : Bool) → u ≡ used_in t.held → all (is_entry n) (take u t.held) ≡ a → distinct same (map name_of (take u t.held)) ≡ b → all (same_mark unused) (drop u t.held) ≡ c
      → judged n (lent_of t) ≡ pick_judged (a && (b && c)) u
  judged-by u a b c e f g k =
      let y : is_table n t.held ≡ (a && (b && c)) = legal-parts n t.held h ∙ rw (← e, f, g, k) refl in
      rw (s, take_all 32 t.held (omega arith), y, held-length t.held, ← e) refl

pub judged-small : (n : ℕ) (t : Table) → t.size ≤ 32 → (t.size ≡ 32 → ⊥) → Err TableIllegal ≡ judged n (lent_of t)
unfolding is_table
judged-small n t k s =
    let z = take_short t.size t.held in
    let y : t.size < 32 = lower t.size k s in
    sym (rw (ne_eqb (length (lent_of t)) 32 (λ e. absurd (omega arith))) refl)
  where
    lower : (k : ℕ) → k ≤ 32 → (k ≡ 32 → ⊥) → k < 32
    lower k a b = at (ltb k 32) refl
      where
        at : (x : Bool) → ltb k 32 ≡ x → k < 32
        at true f = ltb-true k 32 f
        at false f = let g = ltb-false k 32 f in absurd (b (omega arith))
