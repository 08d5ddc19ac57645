-- What the functions over a lent table give, from what those on the table by value give.
use Rattle.std.specs.Prelude.{ℕ, ◌≤◌, Bool, List, [], ◌∷◌, ◌++◌, ◌⊎◌, take, drop, Result as Tried, Ok, Err}
use Rattle.std.proofs.Common.{arith, ◌∙◌, inl, inr, drop_of_length-le, take_all}
use Rattle.std.proofs.Math.Path.{◌≡◌, refl, sym, ap, subst}
use Rattle.std.proofs.Math.Bool.{true, false}
use Rattle.std.proofs.Math.Logic.{⊎_elim}
use Rattle.std.proofs.Math.Dec.{eqb}
use Rattle.std.proofs.Math.ListN.{length}
use borrow.Author.Tests.{eqb-true}
use Rattle.xml.specs.Bytes.{Bytes}
use Rattle.xml.specs.Truth.{by-test}
use Rattle.marks.specs.declared.Mark.{Mark}
use Rattle.marks.specs.declared.Table.{Table}
use Rattle.keys.specs.Result.{Refusal, Result, number_of, refused, ok, r17}
use Rattle.keys.specs.Meant.{row_of, meant, Came}
use Rattle.keys.specs.declared.refusal.Refusal.{Refusal as Cause}
use Rattle.keys.specs.ResultLaws.{refused-ok, ok-inj}
use Rattle.marks.specs.Marks.{Named, entries, is_table, marks_in, setting, finding, dropping, marks_after, number}
use Rattle.marks.specs.Judging.{lent_of}
use Rattle.marks.specs.Lent.{pick, over, blanks, table_of}
use Rattle.marks.specs.LentLaws.{blanks-length}
use Rattle.marks.specs.Changing.{tabled, holding, version_in, done, setting_after, finding_after, counted_after, number_after, table_after, found_by, found_after}
use Rattle.marks.specs.ChangeLaws.{setting-illegal, dropping-illegal}

nil_end : {A : Type 0} (l : List A) → l ++ [] ≡ l
nil_end [] = refl
nil_end (a ∷ l) = ap (λ r. a ∷ r) (nil_end l)

over-all : {A : Type 0} (s t : List A) → length s ≡ 32 → length t ≡ 32 → over 32 s t ≡ s
over-all s t a b =
    let x : length t ≤ 32 = omega arith in
    ap (λ l. l ++ drop 32 t) (take_all 32 s (omega arith)) ∙ ap (λ l. s ++ l) (drop_of_length-le t x) ∙ nil_end s

module _ (n : ℕ) (ms : List Mark) where
  -- a table not of 32 entries is refused, and is by value an empty one
  short : eqb (length ms) 32 ≡ false → marks_in n ms ≡ refused r17
  unfolding marks_in is_table
  short e = rw e refl

  pub lent_is : marks_in n (lent_of (table_of ms)) ≡ marks_in n ms
  unfolding marks_in is_table
  lent_is = at (eqb (length ms) 32) refl
    where
      at : (b : Bool) → eqb (length ms) 32 ≡ b → marks_in n (take (pick b) (over (pick b) ms blanks)) ≡ marks_in n ms
      at true e =
          let l : length ms ≡ 32 = eqb-true (length ms) 32 e in
          ap (λ k. marks_in n (take 32 k)) (over-all ms blanks l blanks-length) ∙ ap (marks_in n) (take_all 32 ms (omega arith))
      at false e = sym (short e)

  pub full-or-refused : (length ms ≡ 32) ⊎ (marks_in n ms ≡ refused r17)
  full-or-refused = at (eqb (length ms) 32) refl
    where
      at : (b : Bool) → eqb (length ms) 32 ≡ b → (length ms ≡ 32) ⊎ (marks_in n ms ≡ refused r17)
      at true e = inl (eqb-true (length ms) 32 e)
      at false e = inr (short e)

-- the calls depend on the marks of the table alone
pub setting-by : (n : ℕ) (ms ns : List Mark) (s : Bytes) (v : ℕ) → marks_in n ms ≡ marks_in n ns → setting n ms s v ≡ setting n ns s v
unfolding setting
setting-by n ms ns s v e = rw e refl

pub finding-by : (n : ℕ) (ms ns : List Mark) (s : Bytes) → marks_in n ms ≡ marks_in n ns → finding n ms s ≡ finding n ns s
unfolding finding
finding-by n ms ns s e = rw e refl

pub dropping-by : (n : ℕ) (ms ns : List Mark) (i : ℕ) → marks_in n ms ≡ marks_in n ns → dropping n ms i ≡ dropping n ns i
unfolding dropping
dropping-by n ms ns i e = rw e refl

-- a table t that was written back where X is not refused: as far as its size says, it makes the lent one that of X
pub record Written (ms : List Mark) (X : Result (List Named)) (t : Table) : Type 0 where
  pub small : t.size ≤ 32
  pub within : t.size ≤ length ms
  pub done_is : ok tt ≡ done X
  pub left : over t.size t.held ms ≡ marks_after X ms

module _ (ms : List Mark) (t : Table) where
  written : (X : Result (List Named)) → ok t ≡ tabled X → (length ms ≡ 32) ⊎ (X ≡ refused r17) → length t.held ≡ 32 → Written ms X t
  unfolding marks_after
  written (refused w) e c h = refused-ok (sym e)
  written (ok ks) e c h =
      let l : length ms ≡ 32 = ⊎_elim (λ l. l) (λ z. refused-ok (sym z)) c in
      let q : t ≡ holding ks = ok-inj e in
      let g : length (entries ks) ≡ 32 = ap (λ x. length x.held) (sym q) ∙ h in
      rw q (record { small = omega arith; within = omega arith; done_is = refl; left = over-all (entries ks) ms g l })

  pub set-written : (n : ℕ) (s : Bytes) (v : ℕ) → ok t ≡ tabled (setting n (lent_of (table_of ms)) s v) → length t.held ≡ 32 → Written ms (setting n ms s v) t
  set-written n s v e h = written (setting n ms s v) (e ∙ ap tabled (setting-by n (lent_of (table_of ms)) ms s v (lent_is n ms)))
      (⊎_elim (λ l. inl l) (λ y. inr (setting-illegal n ms s v y)) (full-or-refused n ms)) h

  pub drop-written : (n i : ℕ) → ok t ≡ tabled (dropping n (lent_of (table_of ms)) i) → length t.held ≡ 32 → Written ms (dropping n ms i) t
  drop-written n i e h = written (dropping n ms i) (e ∙ ap tabled (dropping-by n (lent_of (table_of ms)) ms i (lent_is n ms)))
      (⊎_elim (λ l. inl l) (λ y. inr (dropping-illegal n ms i y)) (full-or-refused n ms)) h

-- one refusal of two results
refused_as_well : {A B : Type 0} {v w : Refusal} → ◌≡◌ {A = Result A} (refused w) (refused v) → ◌≡◌ {A = Result B} (refused w) (refused v)
refused_as_well {v = v} {w = w} e = let x : w ≡ v = cc in ap refused x

-- a refusal, of the table by value and of the lent one, which is left as it was
pub record Kept_out (ms : List Mark) (X : Result (List Named)) (w : Refusal) : Type 0 where
  pub done_is : refused w ≡ done X
  pub left : ms ≡ marks_after X ms

module _ (ms : List Mark) {w : Refusal} where
  pub kept_out : (X : Result (List Named)) → refused w ≡ tabled X → Kept_out ms X w
  unfolding marks_after
  kept_out (refused v) e = record { done_is = refused_as_well e; left = refl }
  kept_out (ok ks) e = refused-ok e

  pub set-kept : (n : ℕ) (s : Bytes) (v : ℕ) → refused w ≡ tabled (setting n (lent_of (table_of ms)) s v) → Kept_out ms (setting n ms s v) w
  set-kept n s v e = kept_out (setting n ms s v) (e ∙ ap tabled (setting-by n (lent_of (table_of ms)) ms s v (lent_is n ms)))

  pub drop_kept : (n i : ℕ) → refused w ≡ tabled (dropping n (lent_of (table_of ms)) i) → Kept_out ms (dropping n ms i) w
  drop_kept n i e = kept_out (dropping n ms i) (e ∙ ap tabled (dropping-by n (lent_of (table_of ms)) ms i (lent_is n ms)))

-- what holds of the number counted
pub counted-is : {E : Type 0} {counted : Tried ℕ E} {m : ℕ} (P : ℕ → Type 0) → counted ≡ Ok m → P m → (n : ℕ) → counted ≡ Ok n → P n
counted-is {m = m} P e p n f = let q : m ≡ n = cc in subst P q p

pub find-same : (n : ℕ) (ms : List Mark) (s : Bytes) → finding n (lent_of (table_of ms)) s ≡ finding n ms s
find-same n ms s = finding-by n (lent_of (table_of ms)) ms s (lent_is n ms)

-- ---- on a table by value that was lent whole
pub lent-done : (X : Result (List Named)) (ms left : List Mark) → ok tt ≡ done X → left ≡ marks_after X ms → ok (record { held = left; size = 32 }) ≡ tabled X
unfolding marks_after
lent-done (refused w) ms left e l = refused-ok (sym e)
lent-done (ok ks) ms left e l = rw l refl

pub lent-refused : (X : Result (List Named)) {w : Refusal} → refused w ≡ done X → refused w ≡ tabled X
lent-refused (refused v) e = refused_as_well e
lent-refused (ok ks) e = refused-ok e

-- ---- a caller whose errors are the refusals: what `Came` says is what is meant
pub came-meant : {A : Type 0} {X : Result A} (r : Tried A Cause) → Came (λ w v. v ≡ w) X r → meant r ≡ X
came-meant (Ok a) e = sym e
came-meant (Err v) c = ap (λ w. refused (row_of w)) c.2 ∙ sym c.1

module _ (ms left : List Mark) (s : Bytes) (i : ℕ) where
  pub set-meant : (counted : Tried ℕ Cause) (r : Tried (Unit {0}) Cause)
      → ((e : Cause) → counted ≡ Err e → (r ≡ Err e) × (left ≡ ms))
      → ((n : ℕ) → counted ≡ Ok n → Came (λ w e. e ≡ w) (done (setting n ms s i)) r × (left ≡ marks_after (setting n ms s i) ms))
      → (meant r ≡ done (setting_after counted ms s i)) × (left ≡ marks_after (setting_after counted ms s i) ms)
  unfolding marks_after
  set-meant (Ok n) r a b = let p = b n refl in (came-meant r p.0, p.1)
  set-meant (Err e) r a b = let p = a e refl in (ap meant p.0, p.1)

pub set-tabled : (ms : List Mark) (s : Bytes) (i : ℕ) (counted : Tried ℕ Cause) (r : Tried Table Cause)
    → ((e : Cause) → counted ≡ Err e → r ≡ Err e) → ((n : ℕ) → counted ≡ Ok n → Came (λ w e. e ≡ w) (tabled (setting n ms s i)) r)
    → meant r ≡ tabled (setting_after counted ms s i)
set-tabled ms s i (Ok n) r a b = came-meant r (b n refl)
set-tabled ms s i (Err e) r a b = ap meant (a e refl)

pub find-meant : (ms : List Mark) (s : Bytes) (counted : Tried ℕ Cause) (r : Tried ℕ Cause)
    → ((e : Cause) → counted ≡ Err e → r ≡ Err e) → ((n : ℕ) → counted ≡ Ok n → Came (λ w e. e ≡ w) (version_in (finding n ms s)) r)
    → meant r ≡ version_in (finding_after counted ms s)
find-meant ms s (Ok n) r a b = came-meant r (b n refl)
find-meant ms s (Err e) r a b = ap meant (a e refl)

-- ---- a caller whose errors are numbers
abbrev Numbered : Cause → ℕ → Type 0
Numbered w e = e ≡ number_of (row_of w)

came-found : (X : Result Named) (r : Tried ℕ ℕ) → Came Numbered (version_in X) r → r ≡ found_by X
came-found (ok k) (Ok v) e = ap Ok (sym (ok-inj e))
came-found (ok k) (Err e) c = refused-ok (sym c.1)
came-found (refused v) (Ok k) e = refused-ok e
came-found (refused v) (Err e) c = let x : v ≡ row_of c.0 = cc in ap Err (c.2 ∙ ap number_of (sym x))

-- the number of an answer
abbrev pub told_by : Tried (Unit {0}) ℕ → ℕ
told_by (Ok u) = 0
told_by (Err e) = e

came-done : (X : Result (List Named)) (r : Tried (Unit {0}) ℕ) → Came Numbered (done X) r → told_by r ≡ number X
unfolding number
came-done (ok ks) (Ok u) e = refl
came-done (ok ks) (Err e) c = refused-ok (sym c.1)
came-done (refused v) (Ok u) e = refused-ok e
came-done (refused v) (Err e) c = let x : v ≡ row_of c.0 = cc in c.2 ∙ ap number_of (sym x)

pub found-numbered : (before n : ℕ) (X : ℕ → Result Named) (r : Tried ℕ ℕ)
    → ((e : ℕ) → counted_after before n ≡ Err e → r ≡ Err e) → ((m : ℕ) → counted_after before n ≡ Ok m → Came Numbered (version_in (X m)) r)
    → r ≡ found_after before (X n)
unfolding found_after
found-numbered before n X r a b = by-test (eqb before 0)
    (λ y. rw (y, found_after) (came-found (X n) r (b n (rw (y, counted_after) refl))))
    (λ y. rw (y, found_after) (a before (rw (y, counted_after) refl)))

pub done-numbered : (before n : ℕ) (X : ℕ → Result (List Named)) (ms left : List Mark) (r : Tried (Unit {0}) ℕ)
    → ((e : ℕ) → counted_after before n ≡ Err e → (r ≡ Err e) × (left ≡ ms))
    → ((m : ℕ) → counted_after before n ≡ Ok m → Came Numbered (done (X m)) r × (left ≡ marks_after (X m) ms))
    → (told_by r ≡ number_after before (X n)) × (left ≡ table_after before (X n) ms)
unfolding number_after table_after
done-numbered before n X ms left r a b = by-test (eqb before 0)
    (λ y. let p = b n (rw (y, counted_after) refl) in rw (y, number_after, table_after) (came-done (X n) r p.0, p.1))
    (λ y. let p = a before (rw (y, counted_after) refl) in rw (y, number_after, table_after) (ap told_by p.0, p.1))
