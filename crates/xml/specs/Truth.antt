-- What a test that answers true or false says: of `&&`, `||`, and of the elements of a list; and what equal answers hold.
use Rattle.std.specs.Prelude.{ℕ, ◌≡◌, Bool, ◌&&◌, ◌||◌, Some, Result, Ok}
use Rattle.std.proofs.Common.{arith, sym, ◌∙◌}
use Rattle.std.proofs.Math.Path.{refl, ap}
use Rattle.std.proofs.Math.Bool.{true, false}
use mathlib.Core.List.{List, [], ◌∷◌, Memᴰ}
use Rattle.xml.specs.Bytes.{any, all}

pub clash : {A : Type 0} → true ≡ false → A
clash e = let z : ◌≡◌ {A = ℕ} 0 1 = cc in absurd (omega arith)

-- equal answers hold the same
pub ok-inj : {A E : Type 0} {x y : A} → ◌≡◌ {A = Result A E} (Ok x) (Ok y) → x ≡ y
ok-inj e = cc

pub some-inj : {A : Type 0} {x y : A} → Some x ≡ Some y → x ≡ y
some-inj e = cc

pub bool_by : (G : Bool → Type 0) (b : Bool) → (b ≡ true → G true) → (b ≡ false → G false) → G b
bool_by G true f g = f refl
bool_by G false f g = g refl

pub by-test : {A : Type 0} (x : Bool) → (x ≡ true → A) → (x ≡ false → A) → A
by-test true f g = f refl
by-test false f g = g refl

pub not_so : (b : Bool) → (b ≡ true → ⊥) → b ≡ false
not_so true f = absurd (f refl)
not_so false f = refl

pub and_left : (a b : Bool) → (a && b) ≡ true → a ≡ true
and_left true b e = refl
and_left false b e = e

pub and_right : (a b : Bool) → (a && b) ≡ true → b ≡ true
and_right true b e = e
and_right false b e = clash (sym e)

pub and_both : (a b : Bool) → a ≡ true → b ≡ true → (a && b) ≡ true
and_both true b e f = f
and_both false b e f = e

pub both_true : (a b : Bool) → (a && b) ≡ true → (a ≡ true) × (b ≡ true)
both_true a b e = (and_left a b e, and_right a b e)

pub both : {a b : Bool} → a ≡ true → b ≡ true → (a && b) ≡ true
both e f = rw (e, f)

pub or_left : (a b : Bool) → (a || b) ≡ false → a ≡ false
or_left false b e = refl
or_left true b e = e

pub or_right : (a b : Bool) → (a || b) ≡ false → b ≡ false
or_right false b e = e
or_right true b e = clash e

pub or-both : (a b : Bool) → a ≡ false → b ≡ false → (a || b) ≡ false
or-both false b e f = f
or-both true b e f = e

pub both_false : (a b : Bool) → (a || b) ≡ false → (a ≡ false) × (b ≡ false)
both_false a b e = (or_left a b e, or_right a b e)

pub neither : {a b : Bool} → a ≡ false → b ≡ false → (a || b) ≡ false
neither e f = rw (e, f)

pub or-none : (a : Bool) → (a || false) ≡ a
or-none true = refl
or-none false = refl

pub or_swap : (a b c : Bool) → (a || (b || c)) ≡ (b || (a || c))
or_swap true true c = refl
or_swap true false c = refl
or_swap false b c = refl

-- a choice of four, from the left as code says it and from the right as a list's elements are tested
pub or-four : (a b c d : Bool) → (a || b || c || d) ≡ (a || (b || (c || (d || false))))
or-four true b c d = refl
or-four false true c d = refl
or-four false false true d = refl
or-four false false false true = refl
or-four false false false false = refl

-- a conjunction that fails though its first part holds
pub and-false : {a b : Bool} → a ≡ true → (a && b) ≡ false → b ≡ false
and-false p e = rw p at e

pub or-first : (a b : Bool) → a ≡ true → (a || b) ≡ true
or-first true b e = refl
or-first false b e = clash (sym e)

pub or-second : (a b : Bool) → b ≡ true → (a || b) ≡ true
or-second true b e = refl
or-second false b e = e

module _ {A : Type 0} where
  -- one of a list passes the test
  pub any-mem : (f : A → Bool) (l : List A) → any f l ≡ true → (x : A) × Memᴰ x l × (f x ≡ true)
  unfolding any
  any-mem f [] e = clash (sym e)
  any-mem f (x ∷ l) e = go (f x) refl (λ h. any-mem f l h) e
    where
      go : (b : Bool) → f x ≡ b → (any f l ≡ true → (y : A) × Memᴰ y l × (f y ≡ true)) → (b || any f l) ≡ true → (y : A) × Memᴰ y (x ∷ l) × (f y ≡ true)
      go true p ih h = (x, Memᴰ.head refl, p)
      go false p ih h = let t = ih h in (t.0, Memᴰ.tail t.1, t.2)

  pub mem-any : (f : A → Bool) {x : A} {l : List A} → Memᴰ x l → f x ≡ true → any f l ≡ true
  unfolding any
  mem-any f (Memᴰ.head {x = y} {xs = l} e) h = or-first (f y) (any f l) (ap f (sym e) ∙ h)
  mem-any f (Memᴰ.tail {x = y} {xs = l} m) h = or-second (f y) (any f l) (mem-any f m h)

  -- none does
  pub none_any : (f : A → Bool) {x : A} {l : List A} → Memᴰ x l → any f l ≡ false → f x ≡ false
  none_any f {x} m e = not_so (f x) (λ h. clash (sym (mem-any f m h) ∙ e))

  pub any_none : (f : A → Bool) (l : List A) → ((x : A) → Memᴰ x l → f x ≡ false) → any f l ≡ false
  any_none f l h = not_so (any f l) (λ e. let t = any-mem f l e in clash (sym t.2 ∙ h t.0 t.1))

  -- all do
  pub all-mem : (f : A → Bool) {x : A} {l : List A} → Memᴰ x l → all f l ≡ true → f x ≡ true
  unfolding all
  all-mem f (Memᴰ.head {x = y} {xs = l} e) h = ap f e ∙ and_left (f y) (all f l) h
  all-mem f (Memᴰ.tail {x = y} {xs = l} m) h = all-mem f m (and_right (f y) (all f l) h)
