-- The outcome of a comparison as a number, and the comparison of two texts byte by byte.
use Rattle.std.specs.Prelude.{ℕ, ◌≡◌, Bool, true, false, cond, [], ◌∷◌, eqb, ltb}
use Rattle.std.specs.declared.cmp.Ordering.{Ordering as Answer}
use Rattle.std.specs.declared.cmp.Ordering.TheVariants.{Less, Equal, Greater}
use Rattle.std.specs.Ordering.{ordering_index, ordering_then, nat_cmp, is_lt, is_ne}
use Rattle.std.specs.Cmp.Lexicographic.{slice_cmp}
use Rattle.std.proofs.Common.{arith, sym, ◌∙◌, ap}
use Rattle.std.proofs.Math.Path.{refl}
use mathlib.Core.Bool.{true≢false}
use mathlib.Core.Ordering.{Ordering, lt, eq, gt}
use Rattle.xml.specs.Bytes.{Bytes, same}
use Rattle.xml.specs.BytesLaws.{same-is, same_self}
use Rattle.xml.specs.Truth.{clash, not_so}
use Rattle.model.specs.Keyed.{self}
use Rattle.model.specs.Orders.{next, side, cmp_l, numbers, lists, is_eq, of-is_eq}

-- 0 before, 1 the same, 2 after
abbrev pub rank : Ordering → ℕ
rank lt = 0
rank eq = 1
rank gt = 2

pub rank-eq : (o : Ordering) → rank o ≡ 1 → o ≡ eq
rank-eq lt e = absurd (omega arith)
rank-eq eq e = refl
rank-eq gt e = absurd (omega arith)

pub rank_lt : (o : Ordering) → rank o ≡ 0 → o ≡ lt
rank_lt lt e = refl
rank_lt eq e = absurd (omega arith)
rank_lt gt e = absurd (omega arith)

pub rank-gt : (o : Ordering) → (rank o ≡ 0 → ⊥) → (rank o ≡ 1 → ⊥) → o ≡ gt
rank-gt lt a b = absurd (a refl)
rank-gt eq a b = absurd (b refl)
rank-gt gt a b = refl

abbrev pub compare_bytes : Bytes → Bytes → Ordering
compare_bytes a b = cmp_l numbers a b

-- the test of equality is that of the order
pub same-compare : (a b : Bytes) → same a b ≡ is_eq (compare_bytes a b)
same-compare a b = go (same a b) refl
  where
    go : (x : Bool) → same a b ≡ x → x ≡ is_eq (compare_bytes a b)
    go true h = rw (← same-is a b h) (sym (ap is_eq (self (lists numbers) a)))
    go false h = sym (not_so (is_eq (compare_bytes a b)) (λ e. clash (sym (ap (same a) (sym ((lists numbers).same (of-is_eq (compare_bytes a b) e))) ∙ same_self a) ∙ h)))

-- ---- the program's ordering, and what its tests tell
pub first-is : (o : Answer) → is_lt o ≡ eqb (ordering_index o) 0
first-is Less = refl
first-is Equal = refl
first-is Greater = refl

pub is-same : (o : Answer) → is_ne o ≡ false → ordering_index o ≡ 1
is-same Less e = absurd (true≢false e)
is-same Equal e = refl
is-same Greater e = absurd (true≢false e)

pub not-same : (o : Answer) → is_ne o ≡ true → ordering_index o ≡ 1 → ⊥
not-same Less e f = absurd (omega arith)
not-same Equal e f = absurd (true≢false (sym e))
not-same Greater e f = absurd (omega arith)

-- the library's order of bytes is that of the definitions
index-then : (a b : Answer) (o p : Ordering) → ordering_index a ≡ rank o → ordering_index b ≡ rank p → ordering_index (ordering_then a b) ≡ rank (next o p)
index-then Less b lt p e f = refl
index-then Less b eq p e f = absurd (omega arith)
index-then Less b gt p e f = absurd (omega arith)
index-then Equal b lt p e f = absurd (omega arith)
index-then Equal b eq p e f = f
index-then Equal b gt p e f = absurd (omega arith)
index-then Greater b lt p e f = absurd (omega arith)
index-then Greater b eq p e f = absurd (omega arith)
index-then Greater b gt p e f = refl

byte-is : (a b : ℕ) → ordering_index (nat_cmp a b) ≡ rank (numbers.cmp a b)
byte-is a b = go (ltb a b) (eqb a b)
  where
    go : (c d : Bool) → ordering_index (cond c Less (cond d Equal Greater)) ≡ rank (side c d)
    go true d = refl
    go false true = refl
    go false false = refl

pub bytes-compare : (s t : Bytes) → ordering_index (slice_cmp nat_cmp s t) ≡ rank (compare_bytes s t)
unfolding cmp_l
bytes-compare [] [] = refl
bytes-compare [] (y ∷ t) = refl
bytes-compare (x ∷ s) [] = refl
bytes-compare (x ∷ s) (y ∷ t) = index-then (nat_cmp x y) (slice_cmp nat_cmp s t) (numbers.cmp x y) (compare_bytes s t) (byte-is x y) (bytes-compare s t)
