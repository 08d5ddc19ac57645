-- Promises of the definitions of `Marks`: a table is legal exactly if it is that of legal marks, and it is read as these; setting, adding a version
-- and stepping back keep marks legal; a table and its 608 bytes are the same thing.
use Rattle.std.specs.Prelude.{ℕ, zero, suc, ◌-◌, ◌*◌, ◌≤◌, ◌<◌, ◌≡◌, refl, Bool, true, false, not, ◌||◌, List, [], ◌∷◌, ◌++◌, map, eqb, leb, length, get_or, replicate}
use Rattle.std.proofs.Common.{arith, sym, ◌∙◌, ap, length-append, eq-eqb, ne_eqb, leb-true, le-leb, eqb-true}
use Rattle.std.proofs.lemmas.List.{length-map, length-replicate}
use Rattle.std.proofs.lemmas.Bool.{not-true}
use Rattle.xml.specs.Bytes.{Bytes, any, all, keep, distinct, same_by, same}
use Rattle.xml.specs.BytesLaws.{same_self}
use Rattle.xml.specs.Truth.{and_left, and_right, and_both, or_left, or_right, or-second, by-test, clash}
use Rattle.marks.specs.declared.Mark.{Mark}
use Rattle.keys.specs.Result.{ok, refuse, ◌>>◌, r17}
use Rattle.marks.specs.Marks.{Named, is_mark_name, in_range, is_mark, entry, unused, entries, names, LegalMarks, named, same_mark, held, is_table, marks_in, up_to, table_bytes, marks_from, table_in}
use Rattle.marks.specs.JudgeLaws.{held-blank, held-used, map_snoc, same_turn}
use Rattle.marks.specs.ChangeLaws.{table_is, held-le, name-entry, held_any, keep-yes, keep-no, keep-le}
use Rattle.marks.specs.BytesLaws.{Fits, AllFit, no_more, one_more, marks-back, table-length, table-long, bytes_back}

-- ---- tests
mark-self : (m : Mark) → same_mark m m ≡ true
unfolding same_mark
mark-self m = rw (same_self m.name, eq-eqb m.len m.len refl, eq-eqb m.version m.version refl) refl

any_append : {A : Type 0} (f : A → Bool) (a b : List A) → any f (a ++ b) ≡ (any f a || any f b)
unfolding any
any_append f [] b = refl
any_append f (x ∷ a) b = rw (any_append f a b) (three (f x) (any f a) (any f b))
  where
    three : (p q r : Bool) → (p || (q || r)) ≡ ((p || q) || r)
    three true q r = refl
    three false q r = refl

-- ---- the marks of a legal table
pub marks-legal : (n : ℕ) (ms : List Mark) → is_table n ms ≡ true → LegalMarks n (held ms) × (ms ≡ entries (held ms))
unfolding is_table
marks-legal n ms e =
    let l : length ms ≡ 32 = eqb-true (length ms) 32 (and_left (eqb (length ms) 32) _ e) in
    let f = and_right (eqb (length ms) 32) _ e in
    let g = and_right (all (is_mark n) (held ms)) _ f in (
      record { few = (let y = held-le ms in omega arith); good = and_left (all (is_mark n) (held ms)) _ f; once = and_left (distinct same (names (held ms))) _ g },
      table_is ms (entries (held ms)) (and_right (distinct same (names (held ms))) _ g),
    )

-- ---- the table of legal marks
named-entry : (k : Named) → named (entry k) ≡ k
unfolding entry
named-entry k = ap (λ s. record { name = s; version = k.version }) (name-entry k)

used : (n : ℕ) (k : Named) → is_mark n k ≡ true → eqb (entry k).len 0 ≡ false
unfolding entry is_mark is_mark_name
used n k e = let l : 1 ≤ length k.name = leb-true 1 (length k.name) (and_left _ _ (and_left _ _ e)) in ne_eqb (length k.name) 0 (λ z. absurd (omega arith))

held-entries : (n : ℕ) (ks : List Named) (j : ℕ) → all (is_mark n) ks ≡ true → held (map entry ks ++ replicate j unused) ≡ ks
unfolding all held
held-entries n [] zero e = refl
held-entries n [] (suc j) e = held-blank unused (replicate j unused) refl
held-entries n (k ∷ ks) j e =
    held-used (entry k) (map entry ks ++ replicate j unused) (used n k (and_left (is_mark n k) _ e)) ∙ rw (named-entry k, held-entries n ks j (and_right (is_mark n k) _ e)) refl

held-is : (n : ℕ) (ks : List Named) → all (is_mark n) ks ≡ true → held (entries ks) ≡ ks
unfolding entries
held-is n ks e = held-entries n ks (32 - length ks) e

entries-length : (ks : List Named) → length ks ≤ 32 → length (entries ks) ≡ 32
unfolding entries
entries-length ks l = rw (length-append, length-map, length-replicate) (omega arith)

same-table : (ms : List Mark) → same_by same_mark ms ms ≡ true
unfolding same_by
same-table [] = refl
same-table (m ∷ ms) = and_both _ _ (mark-self m) (same-table ms)

pub legal-marks : (n : ℕ) (ks : List Named) → LegalMarks n ks → marks_in n (entries ks) ≡ ok ks
unfolding marks_in is_table
legal-marks n ks L = rw (held-is n ks L.good, eq-eqb (length (entries ks)) 32 (entries-length ks L.few), L.good, L.once, same-table (entries ks)) refl

read_as_lem : (n : ℕ) (ms : List Mark) (b : Bool) → is_table n ms ≡ b → marks_in n ms ≡ (refuse r17 (not b) >> ok (held ms))
unfolding marks_in
read_as_lem n ms b e = rw e refl

-- a table is legal, and holds ks, exactly if it is the table of ks and these are legal marks
pub legal-exactly : (n : ℕ) (ms : List Mark) (ks : List Named) → (marks_in n ms ≡ ok ks → LegalMarks n ks × (ms ≡ entries ks)) × (LegalMarks n ks × (ms ≡ entries ks) → marks_in n ms ≡ ok ks)
legal-exactly n ms ks = (λ f. of_test (is_table n ms) refl (sym (read_as_lem n ms (is_table n ms) refl) ∙ f), λ p. ap (marks_in n) p.1 ∙ legal-marks n ks p.0)
  where
    of_test : (b : Bool) → is_table n ms ≡ b → (refuse r17 (not b) >> ok (held ms)) ≡ ok ks → LegalMarks n ks × (ms ≡ entries ks)
    of_test true e f = let h : held ms ≡ ks = cc in rw (← h) (marks-legal n ms e)
    of_test false e f = let z : true ≡ false = cc in clash z

is_among_lem : (s : Bytes) (l : List Named) (b : Named) (after : List Named) → s ≡ b.name → any (same s) (names (l ++ b ∷ after)) ≡ true
unfolding any
is_among_lem s [] b after e = rw (e, same_self b.name) refl
is_among_lem s (k ∷ l) b after e = or-second (same s k.name) _ (is_among_lem s l b after e)

not-among : (l : List Named) (a b : Named) (between after : List Named) → a.name ≡ b.name → distinct same (names (l ++ a ∷ between ++ b ∷ after)) ≡ true → ⊥
unfolding distinct
not-among [] a b between after e f = clash (sym (is_among_lem a.name between b after e) ∙ not-true _ (and_left (not (any (same a.name) (names (between ++ b ∷ after)))) _ f))
not-among (k ∷ l) a b between after e f = not-among l a b between after e (and_right (not (any (same k.name) (names (l ++ a ∷ between ++ b ∷ after)))) _ f)

-- the names of two of them differ
pub names-differ : (n : ℕ) (ks : List Named) → LegalMarks n ks → (before between after : List Named) (a b : Named) → ks ≡ before ++ a ∷ between ++ b ∷ after → a.name ≡ b.name → ⊥
names-differ n ks L before between after a b e f = not-among before a b between after f (sym (ap (λ l. distinct same (names l)) e) ∙ L.once)

-- ---- a version more, a mark more, versions fewer
later : (n m : ℕ) (k : Named) → n ≤ m → is_mark n k ≡ true → is_mark m k ≡ true
unfolding is_mark in_range
later n m k l e =
    let v = and_right (is_mark_name k.name) _ e in
    let a : k.version ≤ n = leb-true k.version n (and_right (leb 1 k.version) _ v) in
    let b : k.version ≤ m = omega arith in
    and_both _ _ (and_left (is_mark_name k.name) _ e) (and_both _ _ (and_left (leb 1 k.version) _ v) (le-leb k.version m b))

all-later : (n m : ℕ) → n ≤ m → (ks : List Named) → all (is_mark n) ks ≡ true → all (is_mark m) ks ≡ true
unfolding all
all-later n m l [] e = refl
all-later n m l (k ∷ ks) e = and_both _ _ (later n m k l (and_left (is_mark n k) _ e)) (all-later n m l ks (and_right (is_mark n k) _ e))

all_snoc : {A : Type 0} (f : A → Bool) (l : List A) (a : A) → all f l ≡ true → f a ≡ true → all f (l ++ a ∷ []) ≡ true
unfolding all
all_snoc f [] a e h = and_both _ _ h refl
all_snoc f (x ∷ l) a e h = and_both _ _ (and_left (f x) _ e) (all_snoc f l a (and_right (f x) _ e) h)

-- ---- no name twice, in more marks and in fewer
distinct_snoc : (l : List Bytes) (s : Bytes) → distinct same l ≡ true → any (same s) l ≡ false → distinct same (l ++ s ∷ []) ≡ true
unfolding distinct any
distinct_snoc [] s e f = refl
distinct_snoc (x ∷ l) s e f =
    let p : any (same x) (l ++ s ∷ []) ≡ false = any_append (same x) l (s ∷ []) ∙ rw (not-true (any (same x) l) (and_left (not (any (same x) l)) (distinct same l) e), same_turn x s, or_left (same s x) (any (same s) l) f) refl in
    rw p (distinct_snoc l s (and_right (not (any (same x) l)) _ e) (or_right (same s x) (any (same s) l) f))

keep-nothing : {A : Type 0} (g : A → Bool) → keep g [] ≡ []
unfolding keep
keep-nothing g = refl

any-keep : (s : Bytes) (g : Named → Bool) (ks : List Named) → any (same s) (names ks) ≡ false → any (same s) (names (keep g ks)) ≡ false
unfolding any
any-keep s g [] e = rw (keep-nothing g) refl
any-keep s g (k ∷ ks) e =
    let r = any-keep s g ks (or_right (same s k.name) _ e) in
    by-test (g k) (λ z. rw (keep-yes g k ks z, or_left (same s k.name) _ e) r) (λ z. rw (keep-no g k ks z) r)

distinct-keep : (g : Named → Bool) (ks : List Named) → distinct same (names ks) ≡ true → distinct same (names (keep g ks)) ≡ true
unfolding distinct
distinct-keep g [] e = rw (keep-nothing g) refl
distinct-keep g (k ∷ ks) e =
    let r = distinct-keep g ks (and_right (not (any (same k.name) (names ks))) _ e) in
    let p = any-keep k.name g ks (not-true _ (and_left (not (any (same k.name) (names ks))) _ e)) in
    by-test (g k) (λ z. rw (keep-yes g k ks z, p) r) (λ z. rw (keep-no g k ks z) r)

back-mark : (n i : ℕ) (k : Named) → leb k.version i ≡ true → is_mark n k ≡ true → is_mark i k ≡ true
unfolding is_mark in_range
back-mark n i k l e =
    let v = and_right (is_mark_name k.name) _ e in
    and_both _ _ (and_left (is_mark_name k.name) _ e) (and_both _ _ (and_left (leb 1 k.version) _ v) l)

back-good : (n i : ℕ) (ks : List Named) → all (is_mark n) ks ≡ true → all (is_mark i) (keep (λ k. leb k.version i) ks) ≡ true
unfolding all keep
back-good n i [] e = refl
back-good n i (k ∷ ks) e = by-test (leb k.version i)
    (λ z. rw (keep-yes (λ k. leb k.version i) k ks z) (and_both _ _ (back-mark n i k z (and_left (is_mark n k) _ e)) (back-good n i ks (and_right (is_mark n k) _ e))))
    (λ z. rw (keep-no (λ k. leb k.version i) k ks z) (back-good n i ks (and_right (is_mark n k) _ e)))

-- ---- the three ways in which the marks change
-- a version is added
pub legal-more : (n m : ℕ) (ks : List Named) → n ≤ m → LegalMarks n ks → LegalMarks m ks
legal-more n m ks l L = record { few = L.few; good = all-later n m l ks L.good; once = L.once }

-- a mark is set
pub legal-set : (n : ℕ) (ks : List Named) (k : Named) → LegalMarks n ks → length ks < 32 → is_mark n k ≡ true → any (λ x. same k.name x.name) ks ≡ false → LegalMarks n (ks ++ k ∷ [])
legal-set n ks k L l e f = record {
  few = rw length-append (omega arith);
  good = all_snoc (is_mark n) ks k L.good e;
  once = ap (distinct same) (map_snoc (λ x. x.name) ks k) ∙ distinct_snoc (names ks) k.name L.once (sym (held_any k.name ks) ∙ f);
}

-- back to version i
pub legal-back : (n i : ℕ) (ks : List Named) → LegalMarks n ks → LegalMarks i (up_to i ks)
unfolding up_to
legal-back n i ks L = record {
  few = (let h = keep-le (λ k. leb k.version i) ks in omega (arith, L.few));
  good = back-good n i ks L.good;
  once = distinct-keep (λ k. leb k.version i) ks L.once;
}

-- ---- a table and its 608 bytes are the same thing
fits-entry : (n : ℕ) (k : Named) → n ≤ 999 → is_mark n k ≡ true → Fits (entry k)
unfolding entry is_mark is_mark_name in_range
fits-entry n k l e =
    let p : length k.name ≤ 16 = leb-true (length k.name) 16 (and_left (leb (length k.name) 16) _ (and_right (leb 1 (length k.name)) _ (and_left (is_mark_name k.name) _ e))) in
    let q : k.version ≤ n = leb-true k.version n (and_right (leb 1 k.version) _ (and_right (is_mark_name k.name) _ e)) in
    (rw (length-append, length-replicate) (omega arith), omega arith)

fits-unused : (j : ℕ) → AllFit (replicate j unused)
fits-unused zero = no_more
fits-unused (suc j) = one_more {m = unused} (refl, omega arith) (fits-unused j)

fits_all : (n : ℕ) (ks : List Named) (j : ℕ) → n ≤ 999 → all (is_mark n) ks ≡ true → AllFit (map entry ks ++ replicate j unused)
unfolding all
fits_all n [] j l e = fits-unused j
fits_all n (k ∷ ks) j l e = one_more (fits-entry n k l (and_left (is_mark n k) _ e)) (fits_all n ks j l (and_right (is_mark n k) _ e))

fits : (n : ℕ) (ks : List Named) → n ≤ 999 → LegalMarks n ks → AllFit (entries ks) × (length (entries ks) ≡ 32)
unfolding entries
fits n ks l L = (fits_all n ks (32 - length ks) l L.good, entries-length ks L.few)

pub bytes-length : (n : ℕ) (ks : List Named) → n ≤ 999 → LegalMarks n ks → length (table_bytes (entries ks)) ≡ 608
bytes-length n ks l L = let f = fits n ks l L in table-length f.0 ∙ ap (λ k. k * 19) f.1

pub table-back : (n : ℕ) (ks : List Named) → n ≤ 999 → LegalMarks n ks → table_in (table_bytes (entries ks)) ≡ entries ks
table-back n ks l L =
    let f = fits n ks l L in
    table-long (table_bytes (entries ks)) (bytes-length n ks l L) ∙ ap (λ k. marks_from k (table_bytes (entries ks))) (sym f.1) ∙ marks-back f.0

pub table-bytes : (s : Bytes) → length s ≡ 608 → ((i : ℕ) → get_or s i 0 < 256) → table_bytes (table_in s) ≡ s
table-bytes s h b = ap table_bytes (table-long s h) ∙ bytes_back 32 s h b
