-- What a result of a `do` block says of its steps; and an option of its value.
use Rattle.std.specs.Prelude.{Some, None, ℕ, ◌≡◌, refl, Bool, true, false}
use Rattle.std.proofs.Common.{arith, sym}
use Rattle.keys.specs.Result.{Refusal, Result, refused, ok, ◌>>=◌, ◌>>◌, refuse, refused_as}

pub refused-ok : {A B : Type 0} {n : Refusal} {a : A} → refused n ≡ ok a → B
refused-ok e = let z : ◌≡◌ {A = ℕ} 0 1 = cc in absurd (omega arith)

pub ok-inj : {A : Type 0} {a b : A} → ok a ≡ ok b → a ≡ b
ok-inj e = cc

pub none-not : {A B : Type 0} {a : A} → None ≡ Some a → B
none-not e = let z : ◌≡◌ {A = ℕ} 0 1 = cc in absurd (omega arith)

pub some-is : {A : Type 0} {a b : A} → Some a ≡ Some b → a ≡ b
some-is e = cc

pub bind_inv : {A B : Type 0} (r : Result A) (f : A → Result B) (b : B) → (r >>= f) ≡ ok b → (a : A) × (r ≡ ok a) × (f a ≡ ok b)
bind_inv (ok a) f b e = (a, refl, e)
bind_inv (refused n) f b e = refused-ok e

-- a refusal's test that fails, and the rest of the block
pub passed : {B : Type 0} (n : Refusal) (x : Bool) (s : Result B) (b : B) → (refuse n x >> s) ≡ ok b → (x ≡ false) × (s ≡ ok b)
passed n false s b e = (refl, e)
passed n true s b e = refused-ok e

-- and back
pub pass : {B : Type 0} (n : Refusal) {x : Bool} (s : Result B) → x ≡ false → (refuse n x >> s) ≡ s
pass n s e = rw e

-- two blocks that begin with one test and, where it fails, go on alike
pub refuse-both : {B : Type 0} (n : Refusal) (x : Bool) {y : Bool} {s t : Result B} → x ≡ y → (x ≡ false → s ≡ t) → (refuse n x >> s) ≡ (refuse n y >> t)
refuse-both n true e h = rw (sym e)
refuse-both n false e h = rw (sym e) (h refl)

pub refused_as-inv : {A : Type 0} (n : Refusal) (r : Result A) (a : A) → refused_as n r ≡ ok a → r ≡ ok a
refused_as-inv n (refused m) a e = refused-ok e
refused_as-inv n (ok b) a e = e
