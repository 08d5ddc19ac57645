-- The orders of numbers and of lists, and the test of equality that an order gives: labels and contents are lists of bytes, or lists of such lists.
use Rattle.std.specs.Prelude.{ℕ, ◌<◌, ◌≤◌, ◌≡◌, Bool, true, false, T, ltb, eqb}
use Rattle.std.proofs.Math.Path.{refl, ap₂}
use Rattle.std.proofs.Common.{ap, sym, ◌∙◌, subst, arith, ltb→lt, lt→ltb, nltb→le, eqb→eq}
use mathlib.Core.List.{List, [], ◌∷◌}
use mathlib.Core.Ordering.{Ordering, lt, eq, gt, lt≢eq, eq≢lt, gt≢lt, gt≢eq}
use Rattle.std.proofs.Math.Dec.{eqb_refl}
use Rattle.model.specs.Keyed.{Order, turned, self}
use Rattle.model.specs.Masks.{is_true, true-is, clash}
use Rattle.model.specs.Groups.{Same}

abbrev pub side : Bool → Bool → Ordering
side true e = lt
side false true = eq
side false false = gt

abbrev pub cmp_n : ℕ → ℕ → Ordering
cmp_n a b = side (ltb a b) (eqb a b)

pub off : (b : Bool) → (T b → ⊥) → b ≡ false
off true f = absurd (f tt)
off false f = refl

pub is-lt : {a b : ℕ} → a < b → cmp_n a b ≡ lt
is-lt {a} {b} h = rw (is_true (ltb a b) (lt→ltb a b h))

pub is-eq : (a : ℕ) → cmp_n a a ≡ eq
is-eq a = rw (off (ltb a a) (λ t. omega (arith, ltb→lt a a t)), is_true (eqb a a) (eqb_refl a))

pub is_gt : {a b : ℕ} → b < a → cmp_n a b ≡ gt
is_gt {a} {b} h = rw (off (ltb a b) (λ t. omega (arith, ltb→lt a b t)), off (eqb a b) (λ t. omega (arith, eqb→eq a b t)))

-- the three cases
pub data Cases (a b : ℕ) : Ordering → Type 0 where
  less : a < b → Cases a b lt
  alike' : a ≡ b → Cases a b eq
  more : b < a → Cases a b gt

pub cases : (a b : ℕ) → Cases a b (cmp_n a b)
cases a b = go (ltb a b) (eqb a b) refl refl
  where
    go : (c d : Bool) → ltb a b ≡ c → eqb a b ≡ d → Cases a b (side c d)
    go true d p q = less (ltb→lt a b (true-is p))
    go false true p q = alike' (eqb→eq a b (true-is q))
    go false false p q = more
        (let le : b ≤ a = nltb→le a b (rw p tt) in
        let ne : (a ≡ b → ⊥) = (λ e. clash (is_true (eqb a b) (subst (λ x. T (eqb a x)) e (eqb_refl a))) q) in omega arith)

pub turn_n : (a b : ℕ) {o : Ordering} → Cases a b o → cmp_n b a ≡ turned o
turn_n a b (less h) = is_gt h
turn_n a b (alike' e) = ap (λ x. cmp_n b x) e ∙ is-eq b
turn_n a b (more h) = is-lt h

pub same_n : (a b : ℕ) {o : Ordering} → Cases a b o → o ≡ eq → a ≡ b
same_n a b (less h) e = absurd (lt≢eq e)
same_n a b (alike' p) e = p
same_n a b (more h) e = absurd (gt≢eq e)

pub less_n : (a b : ℕ) {o : Ordering} → Cases a b o → o ≡ lt → a < b
less_n a b (less h) e = h
less_n a b (alike' p) e = absurd (eq≢lt e)
less_n a b (more h) e = absurd (gt≢lt e)

abbrev pub numbers : Order ℕ
numbers = record {
  cmp = cmp_n;
  turn = λ a b. turn_n a b (cases a b);
  same = λ {a} {b} e. same_n a b (cases a b) e;
  trans = λ {a} {b} {c} e f. is-lt {a = a} {b = c} (omega (arith, less_n a b (cases a b) e, less_n b c (cases b c) f));
}

-- the order of lists: by the first place where they differ, and the shorter first
abbrev pub next : Ordering → Ordering → Ordering
next lt o = lt
next eq o = o
next gt o = gt

module _ {A : Type 0} (ord : Order A) where
  unfoldable pub cmp_l : List A → List A → Ordering
  cmp_l [] [] = eq
  cmp_l [] (y ∷ ys) = lt
  cmp_l (x ∷ xs) [] = gt
  cmp_l (x ∷ xs) (y ∷ ys) = next (ord.cmp x y) (cmp_l xs ys)

  pub turn_l : (xs ys : List A) → cmp_l ys xs ≡ turned (cmp_l xs ys)
  unfolding cmp_l
  turn_l [] [] = refl
  turn_l [] (y ∷ ys) = refl
  turn_l (x ∷ xs) [] = refl
  turn_l (x ∷ xs) (y ∷ ys) = ap₂ next (ord.turn x y) (turn_l xs ys) ∙ go (ord.cmp x y)
    where
      go : (o : Ordering) → next (turned o) (turned (cmp_l xs ys)) ≡ turned (next o (cmp_l xs ys))
      go lt = refl
      go eq = refl
      go gt = refl

  pub same_l : (xs ys : List A) → cmp_l xs ys ≡ eq → xs ≡ ys
  unfolding cmp_l
  same_l [] [] e = refl
  same_l [] (y ∷ ys) e = absurd (lt≢eq e)
  same_l (x ∷ xs) [] e = absurd (gt≢eq e)
  same_l (x ∷ xs) (y ∷ ys) e = go (ord.cmp x y) refl (same_l xs ys) e
    where
      go : (o : Ordering) → ord.cmp x y ≡ o → (cmp_l xs ys ≡ eq → xs ≡ ys) → next o (cmp_l xs ys) ≡ eq → x ∷ xs ≡ y ∷ ys
      go lt p ih f = absurd (lt≢eq f)
      go eq p ih f = ap₂ (λ a t. a ∷ t) (ord.same p) (ih f)
      go gt p ih f = absurd (gt≢eq f)

  pub trans_l : (xs ys zs : List A) → cmp_l xs ys ≡ lt → cmp_l ys zs ≡ lt → cmp_l xs zs ≡ lt
  unfolding cmp_l
  trans_l [] [] zs e f = absurd (eq≢lt e)
  trans_l [] (y ∷ ys) [] e f = absurd (gt≢lt f)
  trans_l [] (y ∷ ys) (z ∷ zs) e f = refl
  trans_l (x ∷ xs) [] zs e f = absurd (gt≢lt e)
  trans_l (x ∷ xs) (y ∷ ys) [] e f = absurd (gt≢lt f)
  trans_l (x ∷ xs) (y ∷ ys) (z ∷ zs) e f = go (ord.cmp x y) (ord.cmp y z) refl refl (trans_l xs ys zs) e f
    where
      go : (o p : Ordering) → ord.cmp x y ≡ o → ord.cmp y z ≡ p → (cmp_l xs ys ≡ lt → cmp_l ys zs ≡ lt → cmp_l xs zs ≡ lt)
          → next o (cmp_l xs ys) ≡ lt → next p (cmp_l ys zs) ≡ lt → next (ord.cmp x z) (cmp_l xs zs) ≡ lt
      go lt lt q r ih e f = rw (ord.trans q r)
      go lt eq q r ih e f = rw (subst (λ t. ord.cmp x t ≡ lt) (ord.same r) q)
      go lt gt q r ih e f = absurd (gt≢lt f)
      go eq lt q r ih e f = rw (subst (λ t. ord.cmp t z ≡ lt) (sym (ord.same q)) r)
      go eq eq q r ih e f = rw (subst (λ t. ord.cmp x t ≡ eq) (ord.same r) q) (ih e f)
      go eq gt q r ih e f = absurd (gt≢lt f)
      go gt p q r ih e f = absurd (gt≢lt e)

  abbrev pub lists : Order (List A)
  lists = record { cmp = cmp_l; turn = turn_l; same = λ {a} {b} e. same_l a b e; trans = λ {a} {b} {c} e f. trans_l a b c e f }

-- an order tells when two are the same
abbrev pub is_eq : Ordering → Bool
is_eq lt = false
is_eq eq = true
is_eq gt = false

abbrev pub is_lt : Ordering → Bool
is_lt lt = true
is_lt eq = false
is_lt gt = false

pub of-is_eq : (o : Ordering) → is_eq o ≡ true → o ≡ eq
of-is_eq lt e = absurd (clash e refl)
of-is_eq eq e = refl
of-is_eq gt e = absurd (clash e refl)

abbrev pub alike : {C : Type 0} → Order C → Same C
alike ord = record { test = λ c d. is_eq (ord.cmp c d); self = λ c. ap is_eq (self ord c); same = λ {c} {d} e. ord.same (of-is_eq (ord.cmp c d) e) }

-- labels: a name and the values of its key, each a list of bytes
abbrev pub labels : Order (List (List ℕ))
labels = lists (lists numbers)

unfoldable pub labels_compute : Unit {0}
unfolding cmp_l
labels_compute = tt
