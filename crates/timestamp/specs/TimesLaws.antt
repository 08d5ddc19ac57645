-- A timestamp's text says its set: a number belongs to the text just when it is in the set. The test of equal sets decides equality.
use Rattle.std.specs.Prelude.{ℕ, zero, suc, ◌+◌, ◌-◌, ◌≤◌, ◌<◌, ◌≡◌, refl, Bool, true, false, ◌&&◌, ◌||◌, List, [], ◌∷◌, ◌++◌, map, eqb, leb, length, get_or, replicate}
use Rattle.std.proofs.Common.{arith, sym, ◌∙◌, ap, subst, append_assoc, append-nil}
use Rattle.std.specs.Bool.{beq}
use Rattle.std.proofs.Math.Bool.{or_assoc}
use borrow.Author.Tests.{eqb-true, eqb-false, leb-true, eq-eqb, ne_eqb, le-leb}
use Rattle.xml.specs.Bytes.{Bytes, bytes, any, all, split, join_by, among, is_digit, is_times, within, bytes_compute}
use Rattle.xml.specs.BytesLaws.{same_by-is, same_by-self}
use Rattle.xml.specs.SplitLaws.{Free, free-append, free_all, split-free, split-alone, split-sep}
use Rattle.xml.specs.Truth.{clash, bool_by, not_so, and_left, and_right, and_both, or-both, or-first, or-second}
use Rattle.timestamp.specs.Times.{Times, same_times, always, up_from, extend, runs, decimal, write_run, write_times, number, run_holds, belongs, last_number, times_compute}

-- ---- equal sets
pub beq-is : (a b : Bool) → beq a b ≡ true → a ≡ b
beq-is true true e = refl
beq-is true false e = sym e
beq-is false true e = e
beq-is false false e = refl

pub beq-self : (a : Bool) → beq a a ≡ true
beq-self true = refl
beq-self false = refl

pub times-is : (t u : Times) → same_times t u ≡ true → t ≡ u
unfolding same_times
times-is t u e = same_by-is beq beq-is t u e

pub times-self : (t : Times) → same_times t t ≡ true
unfolding same_times
times-self t = same_by-self beq beq-self t

pub times-not : (t u : Times) → (t ≡ u → ⊥) → same_times t u ≡ false
times-not t u h = not_so (same_times t u) (λ e. h (times-is t u e))

-- ---- tests
pub bool_eq : (a b : Bool) → (a ≡ true → b ≡ true) → (b ≡ true → a ≡ true) → a ≡ b
bool_eq true b f g = sym (f refl)
bool_eq false b f g = sym (not_so b (λ e. clash (sym (g e))))

pub or-by : {G : Type 0} (a b : Bool) → (a || b) ≡ true → (a ≡ true → G) → (b ≡ true → G) → G
or-by true b e f g = f refl
or-by false b e f g = g e

pub same_or : {G : Type 0} (i j : ℕ) → (i ≡ j → G) → ((i ≡ j → ⊥) → G) → G
same_or {G} i j f g = bool_by (λ _. G) (eqb i j) (λ e. f (eqb-true i j e)) (λ e. g (eqb-false i j e))

-- ---- decimals: one computed test over the numbers 1 to 999
good : ℕ → Bool
good n = eqb (number (decimal n)) n && all is_digit (decimal n)

all-good : all good (up_from 1 999) ≡ true
unfolding times_compute good
all-good = refl

pub all_from : (P : ℕ → Bool) (i n m : ℕ) → all P (up_from i n) ≡ true → i ≤ m → m < i + n → P m ≡ true
unfolding up_from all
all_from P i zero m h l u = absurd (omega arith)
all_from P i (suc n) m h l u = same_or i m
    (λ e. rw (← e) (and_left (P i) (all P (up_from (suc i) n)) h))
    (λ e. all_from P (suc i) n m (and_right (P i) (all P (up_from (suc i) n)) h) (omega (arith, e)) (omega arith))

pub digit_low : (b : ℕ) → is_digit b ≡ true → 48 ≤ b
unfolding is_digit within
digit_low b e = leb-true 48 b (and_left (leb 48 b) (leb b 57) e)

pub digit-high : (b : ℕ) → is_digit b ≡ true → b ≤ 57
unfolding is_digit within
digit-high b e = leb-true b 57 (and_right (leb 48 b) (leb b 57) e)

digit-times : (b : ℕ) → is_digit b ≡ true → is_times b ≡ true
unfolding is_times
digit-times b e = or-first (is_digit b) (among "-," b) e

module _ (n : ℕ) (l : 1 ≤ n) (u : n ≤ 999) where
  number-decimal : number (decimal n) ≡ n
  unfolding good
  number-decimal = eqb-true (number (decimal n)) n (and_left (eqb (number (decimal n)) n) (all is_digit (decimal n)) (all_from good 1 999 n all-good l (omega arith)))

  digits : all is_digit (decimal n) ≡ true
  unfolding good
  digits = and_right (eqb (number (decimal n)) n) (all is_digit (decimal n)) (all_from good 1 999 n all-good l (omega arith))

  no-comma : Free (eqb 44) (decimal n)
  no-comma = free_all is_digit (eqb 44) (λ b t. ne_eqb 44 b (λ e. omega (arith, digit_low b t))) (decimal n) digits

  no-dash : Free (eqb 45) (decimal n)
  no-dash = free_all is_digit (eqb 45) (λ b t. ne_eqb 45 b (λ e. omega (arith, digit_low b t))) (decimal n) digits

-- ---- one run
unfoldable pub in_run : ℕ → ℕ × ℕ → Bool
in_run i r = leb r.0 i && leb i r.1

pub in-run : (i a b : ℕ) → a ≤ i → i ≤ b → in_run i (a, b) ≡ true
unfolding in_run
in-run i a b l u = and_both (leb a i) (leb i b) (le-leb a i l) (le-leb i b u)

pub run_in_lem : (i a b : ℕ) → in_run i (a, b) ≡ true → (a ≤ i) × (i ≤ b)
unfolding in_run
run_in_lem i a b t = (leb-true a i (and_left (leb a i) (leb i b) t), leb-true i b (and_right (leb a i) (leb i b) t))

pub in_run-one : (i a : ℕ) → eqb i a ≡ in_run i (a, a)
in_run-one i a = bool_eq (eqb i a) (in_run i (a, a))
    (λ t. let e = eqb-true i a t in in-run i a a (omega arith) (omega arith))
    (λ t. let x = run_in_lem i a a t in eq-eqb i a (omega arith))

-- the text of a run within 1 to 999 holds what the run holds
run-text : (i a b : ℕ) → 1 ≤ a → a ≤ b → b ≤ 999 → run_holds i (split (eqb 45) (write_run (a, b))) ≡ in_run i (a, b)
unfolding write_run run_holds in_run bytes
run-text i a b l m u =
    same_or a b
    (λ e. subst (λ z. run_holds i (split (eqb 45) (write_run (a, z))) ≡ in_run i (a, z)) e
    (rw (eq-eqb a a refl, write_run) (rw (split-alone (eqb 45) (decimal a) (no-dash a l (omega arith)), number-decimal a l (omega arith)) (in_run-one i a))))
    (λ e. rw (ne_eqb a b e, write_run) (rw (append_assoc (decimal a) (45 ∷ []) (decimal b)) (rw (two-parts (omega arith)) (rw (number-decimal a l (omega arith), number-decimal b (omega arith) u) refl))))
  where
    two-parts : a ≤ 999 → split (eqb 45) (decimal a ++ 45 ∷ decimal b) ≡ decimal a ∷ decimal b ∷ []
    two-parts v = split-free (eqb 45) (decimal a) (45 ∷ decimal b) [] (decimal b ∷ []) (no-dash a l v)
        (split-sep (eqb 45) 45 (decimal b) refl ∙ ap (λ w. [] ∷ w) (split-alone (eqb 45) (decimal b) (no-dash b (omega arith) u))) ∙ rw append-nil refl

pub free-run : (a b : ℕ) → 1 ≤ a → a ≤ b → b ≤ 999 → Free (eqb 44) (write_run (a, b))
unfolding write_run bytes
free-run a b l m u =
    bool_by (λ x. Free (eqb 44) (elim x as (λ _. Bytes) [ true ↦ decimal a | false ↦ decimal a ++ bytes "-" ++ decimal b ])) (eqb a b)
    (λ _. no-comma a l (omega arith))
    (λ _. free-append (eqb 44) (decimal a ++ bytes "-") (decimal b) (free-append (eqb 44) (decimal a) (bytes "-") (no-comma a l (omega arith)) (refl, tt)) (no-comma b (omega arith) u))

-- ---- the runs of a set
abbrev pub Within : ℕ → List (ℕ × ℕ) → Type 0
Within j [] = Unit {0}
Within j (r ∷ rs) = (j ≤ r.0) × (r.0 ≤ r.1) × (r.1 ≤ 999) × Within j rs

within-weaker : (j : ℕ) (rs : List (ℕ × ℕ)) → Within (suc j) rs → Within j rs
within-weaker j [] h = tt
within-weaker j (r ∷ rs) h = (omega arith, h.1, h.2, within-weaker j rs h.3)

within-extend : (j : ℕ) (rs : List (ℕ × ℕ)) → j ≤ 999 → Within (suc j) rs → Within j (extend j rs)
unfolding extend
within-extend j [] u h = (omega arith, omega arith, u, tt)
within-extend j (r ∷ rs) u h =
    bool_by (λ x. Within j (elim x as (λ _. List (ℕ × ℕ)) [ true ↦ (j, r.1) ∷ rs | false ↦ (j, j) ∷ r ∷ rs ])) (eqb r.0 (suc j))
    (λ _. (omega arith, omega arith, h.2, within-weaker j rs h.3))
    (λ _. (omega arith, omega arith, u, within-weaker j (r ∷ rs) h))

pub runs-within : (j : ℕ) (t : Times) → j + length t ≤ 1000 → Within j (runs j t)
unfolding runs
runs-within j [] u = tt
runs-within j (false ∷ t) u = within-weaker j (runs (suc j) t) (runs-within (suc j) t (omega arith))
runs-within j (true ∷ t) u = within-extend j (runs (suc j) t) (omega arith) (runs-within (suc j) t (omega arith))

pub below_none : (i j : ℕ) (rs : List (ℕ × ℕ)) → i < j → Within j rs → any (in_run i) rs ≡ false
unfolding any
below_none i j [] l h = refl
below_none i j (r ∷ rs) l h = or-both (in_run i r) (any (in_run i) rs)
    (not_so (in_run i r) (λ x. let y = run_in_lem i r.0 r.1 x in omega arith))
    (below_none i j rs l h.3)

run_more : (i j a b : ℕ) → a ≡ suc j → a ≤ b → in_run i (j, b) ≡ (eqb i j || in_run i (a, b))
run_more i j a b d h = bool_eq (in_run i (j, b)) (eqb i j || in_run i (a, b))
    (λ t. let x = run_in_lem i j b t in same_or i j (λ e. or-first (eqb i j) _ (eq-eqb i j e)) (λ e. or-second (eqb i j) _ (in-run i a b (omega (arith, e)) x.1)))
    (λ t. or-by (eqb i j) (in_run i (a, b)) t (λ x. let e = eqb-true i j x in in-run i j b (omega arith) (omega arith)) (λ x. let y = run_in_lem i a b x in in-run i j b (omega arith) y.1))

extend-any : (i j : ℕ) (rs : List (ℕ × ℕ)) → Within (suc j) rs → any (in_run i) (extend j rs) ≡ (eqb i j || any (in_run i) rs)
unfolding extend any
extend-any i j [] h = rw (in_run-one i j) refl
extend-any i j (r ∷ rs) h =
    bool_by (λ x. (eqb r.0 (suc j) ≡ x) → any (in_run i) (elim x as (λ _. List (ℕ × ℕ)) [ true ↦ (j, r.1) ∷ rs | false ↦ (j, j) ∷ r ∷ rs ]) ≡ (eqb i j || (in_run i r || any (in_run i) rs))) (eqb r.0 (suc j))
    (λ _ e. rw (run_more i j r.0 r.1 (eqb-true r.0 (suc j) e) h.1) (or_assoc (eqb i j) (in_run i r) (any (in_run i) rs)))
    (λ _ e. rw (in_run-one i j) refl) refl

-- a number is in the runs of a set just when it is in the set
pub runs-are : (i j : ℕ) (t : Times) → j ≤ i → j + length t ≤ 1000 → any (in_run i) (runs j t) ≡ get_or t (i - j) false
unfolding runs any
runs-are i j [] l u = refl
runs-are i j (false ∷ t) l u = same_or i j
    (λ e. let z : i - j ≡ 0 = omega arith in rw z (below_none i (suc j) (runs (suc j) t) (omega arith) (runs-within (suc j) t (omega arith))))
    (λ e. let z : i - j ≡ suc (i - suc j) = omega (arith, e) in rw z (runs-are i (suc j) t (omega (arith, e)) (omega arith)))
runs-are i j (true ∷ t) l u = extend-any i j (runs (suc j) t) (runs-within (suc j) t (omega arith)) ∙ same_or i j
    (λ e. let z : i - j ≡ 0 = omega arith in rw (z, eq-eqb i j e) refl)
    (λ e. let z : i - j ≡ suc (i - suc j) = omega (arith, e) in rw (z, ne_eqb i j e) (runs-are i (suc j) t (omega (arith, e)) (omega arith)))

-- ---- the text
none-text : (i : ℕ) → 1 ≤ i → any (λ r. run_holds i (split (eqb 45) r)) (split (eqb 44) []) ≡ false
unfolding times_compute
none-text i l = rw (ne_eqb i 0 (λ e. omega arith)) refl

some-texts : (i : ℕ) (r : ℕ × ℕ) (rs : List (ℕ × ℕ)) → Within 1 (r ∷ rs) → any (λ r. run_holds i (split (eqb 45) r)) (split (eqb 44) (join_by (44 ∷ []) (map write_run (r ∷ rs)))) ≡ any (in_run i) (r ∷ rs)
unfolding any join_by
some-texts i r [] h =
    rw (split-alone (eqb 44) (write_run r) (free-run r.0 r.1 h.0 h.1 h.2)) (rw (run-text i r.0 r.1 h.0 h.1 h.2) refl)
some-texts i r (q ∷ rs) h =
    let rest : Bytes = join_by (44 ∷ []) (map write_run (q ∷ rs)) in
    let e : split (eqb 44) (write_run r ++ 44 ∷ [] ++ rest) ≡ write_run r ∷ split (eqb 44) rest
    = ap (split (eqb 44)) (append_assoc (write_run r) (44 ∷ []) rest) ∙ split-free (eqb 44) (write_run r) (44 ∷ rest) [] (split (eqb 44) rest) (free-run r.0 r.1 h.0 h.1 h.2) (split-sep (eqb 44) 44 rest refl) ∙ rw append-nil refl in
    rw e (rw (run-text i r.0 r.1 h.0 h.1 h.2, some-texts i q rs h.3) refl)

texts-are : (i : ℕ) (rs : List (ℕ × ℕ)) → 1 ≤ i → Within 1 rs → any (λ r. run_holds i (split (eqb 45) r)) (split (eqb 44) (join_by (44 ∷ []) (map write_run rs))) ≡ any (in_run i) rs
unfolding any join_by
texts-are i [] l h = none-text i l
texts-are i (r ∷ rs) l h = some-texts i r rs h

-- "In text, a number belongs to it when one of its runs holds that number": just the numbers of the set
pub belongs-times : (i : ℕ) (t : Times) → 1 ≤ i → length t ≤ 999 → belongs i (write_times t) ≡ get_or t (i - 1) false
unfolding belongs write_times bytes
belongs-times i t l u = texts-are i (runs 1 t) l (runs-within 1 t (omega arith)) ∙ runs-are i 1 t l (omega arith)

-- ---- it consists of digits, `-` and `,`
all_append : (P : ℕ → Bool) (s t : Bytes) → all P s ≡ true → all P t ≡ true → all P (s ++ t) ≡ true
unfolding all
all_append P [] t h g = g
all_append P (b ∷ s) t h g = and_both (P b) (all P (s ++ t)) (and_left (P b) (all P s) h) (all_append P s t (and_right (P b) (all P s) h) g)

all_weaker : (P Q : ℕ → Bool) → ((b : ℕ) → P b ≡ true → Q b ≡ true) → (s : Bytes) → all P s ≡ true → all Q s ≡ true
unfolding all
all_weaker P Q f [] h = refl
all_weaker P Q f (b ∷ s) h = and_both (Q b) (all Q s) (f b (and_left (P b) (all P s) h)) (all_weaker P Q f s (and_right (P b) (all P s) h))

punctuation-times : (all is_times (bytes "-") ≡ true) × (all is_times (bytes ",") ≡ true)
unfolding bytes_compute
punctuation-times = (refl, refl)

decimal-bytes : (n : ℕ) → 1 ≤ n → n ≤ 999 → all is_times (decimal n) ≡ true
decimal-bytes n l u = all_weaker is_digit is_times digit-times (decimal n) (digits n l u)

run-bytes : (a b : ℕ) → 1 ≤ a → a ≤ b → b ≤ 999 → all is_times (write_run (a, b)) ≡ true
unfolding write_run
run-bytes a b l m u =
    let h : all is_times (decimal a) ≡ true = decimal-bytes a l (omega arith) in
    bool_by (λ x. all is_times (elim x as (λ _. Bytes) [ true ↦ decimal a | false ↦ decimal a ++ bytes "-" ++ decimal b ]) ≡ true) (eqb a b)
    (λ _. h)
    (λ _. all_append is_times (decimal a ++ bytes "-") (decimal b) (all_append is_times (decimal a) (bytes "-") h punctuation-times.0) (decimal-bytes b (omega arith) u))

runs-bytes : (rs : List (ℕ × ℕ)) → Within 1 rs → all is_times (join_by (bytes ",") (map write_run rs)) ≡ true
unfolding all join_by
runs-bytes [] h = refl
runs-bytes (r ∷ []) h = run-bytes r.0 r.1 h.0 h.1 h.2
runs-bytes (r ∷ q ∷ rs) h =
    all_append is_times (write_run r ++ bytes ",") (join_by (bytes ",") (map write_run (q ∷ rs)))
    (all_append is_times (write_run r) (bytes ",") (run-bytes r.0 r.1 h.0 h.1 h.2) punctuation-times.1)
    (runs-bytes (q ∷ rs) h.3)

pub times-bytes : (t : Times) → length t ≤ 999 → all is_times (write_times t) ≡ true
unfolding write_times
times-bytes t u = runs-bytes (runs 1 t) (runs-within 1 t (omega arith))

-- ---- versions that lack it
runs-lacks : (i : ℕ) (t : Times) → runs i (t ++ false ∷ []) ≡ runs i t
unfolding runs
runs-lacks i [] = refl
runs-lacks i (false ∷ t) = runs-lacks (suc i) t
runs-lacks i (true ∷ t) = ap (extend i) (runs-lacks (suc i) t)

pub write-lacks : (t : Times) → write_times (t ++ false ∷ []) ≡ write_times t
unfolding write_times
write-lacks t = ap (λ rs. join_by (bytes ",") (map write_run rs)) (runs-lacks 1 t)

runs_none : (i n : ℕ) → runs i (replicate n false) ≡ []
unfolding runs
runs_none i zero = refl
runs_none i (suc n) = runs_none (suc i) n

pub write-none : (n : ℕ) → write_times (replicate n false) ≡ []
unfolding write_times join_by
write-none n = ap (λ rs. join_by (bytes ",") (map write_run rs)) (runs_none 1 n)

-- ---- all n versions
runs-always : (i n : ℕ) → runs i (replicate (suc n) true) ≡ (i, i + n) ∷ []
unfolding runs extend
runs-always i zero = let z : i + 0 ≡ i = omega arith in rw z refl
runs-always i (suc n) = let z : i + suc n ≡ suc i + n = omega arith in rw (z, runs-always (suc i) n) (rw (eq-eqb (suc i) (suc i) refl, extend) refl)

-- their text is one run
pub write-always : (n : ℕ) → write_times (always (suc n)) ≡ write_run (1, suc n)
unfolding write_times always join_by
write-always n = let z : 1 + n ≡ suc n = omega arith in ap (λ rs. join_by (bytes ",") (map write_run rs)) (runs-always 1 n ∙ ap (λ m. (1, m) ∷ []) z)

last-good : all (λ n. eqb (last_number (write_run (1, n))) n) (up_from 1 999) ≡ true
unfolding times_compute
last-good = refl

pub last-always : (n : ℕ) → 1 ≤ n → n ≤ 999 → last_number (write_times (always n)) ≡ n
last-always zero l u = absurd (omega arith)
last-always (suc n) l u =
    ap last_number (write-always n)
    ∙ eqb-true (last_number (write_run (1, suc n))) (suc n) (all_from (λ n. eqb (last_number (write_run (1, n))) n) 1 999 (suc n) last-good l (omega arith))
