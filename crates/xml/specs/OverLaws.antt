-- The laws of `over`, `over_at` and `Wrote`: pieces that are written one after the other are one piece, also through a lent part.
use Rattle.std.specs.Prelude.{ℕ, zero, suc, ◌+◌, ◌-◌, ◌≤◌, min, ◌≡◌, refl, List, [], ◌∷◌, ◌++◌, length, take, drop, set}
use Rattle.std.proofs.Common.{zero-le, ap, sym, ◌∙◌, append-nil, zero-add, suc-add, arith, length-append, length-drop, drop_of_length-le, take_all}
use Rattle.std.proofs.Math.Nat.{zero-min, suc-min-suc}
use borrow.Rule.Slice.PartMut.{put_mid}
use Rattle.xml.specs.Over.{over, over_at, Wrote}

over_none : (w : List ℕ) → over [] w ≡ []
unfolding over
over_none [] = refl
over_none (b ∷ w) = refl

pub over-nil : (out : List ℕ) → over out [] ≡ out
unfolding over
over-nil [] = refl
over-nil (o ∷ os) = refl

pub length_over : (out w : List ℕ) → length (over out w) ≡ length out
unfolding over
length_over [] [] = refl
length_over [] (b ∷ w) = refl
length_over (o ∷ os) [] = refl
length_over (o ∷ os) (b ∷ w) = ap suc (length_over os w)

pub at-nil : (out : List ℕ) (a : ℕ) → over_at out a [] ≡ out
unfolding over_at
at-nil out zero = over-nil out
at-nil [] (suc a) = over_none []
at-nil (o ∷ os) (suc a) = ap (λ l. o ∷ l) (at-nil os a)

pub length_at : (out : List ℕ) (a : ℕ) (w : List ℕ) → length (over_at out a w) ≡ length out
unfolding over_at
length_at out zero w = length_over out w
length_at [] (suc a) w = ap (λ l. length l) (over_none w)
length_at (o ∷ os) (suc a) w = ap suc (length_at os a w)

-- past the end nothing is written
pub at-past : (out : List ℕ) (a : ℕ) (w : List ℕ) → length out ≤ a → over_at out a w ≡ out
unfolding over_at
at-past [] zero w h = over_none w
at-past [] (suc a) w h = over_none w
at-past (o ∷ os) zero w h = absurd (omega arith)
at-past (o ∷ os) (suc a) w h = ap (λ l. o ∷ l) (at-past os a w (omega arith))

-- a byte is a store, also past the end
pub at_set : (out : List ℕ) (a b : ℕ) → set out a b ≡ over_at out a (b ∷ [])
unfolding over_at over
at_set [] zero b = refl
at_set [] (suc a) b = refl
at_set (o ∷ []) zero b = refl
at_set (o ∷ p ∷ os) zero b = refl
at_set (o ∷ os) (suc a) b = ap (λ l. o ∷ l) (at_set os a b)

-- where all of it fits, it takes the place of as many bytes
pub at-fits : (out : List ℕ) (a : ℕ) (w : List ℕ) → a + length w ≤ length out → over_at out a w ≡ put_mid a (length w) out w
unfolding over_at over
at-fits out a w h =
    let n : length w ≤ length (drop a out) = rw length-drop (omega arith) in
    rw (take_all (length (drop a out)) w n) refl

over-then : (out v w : List ℕ) → over_at (over out v) (length v) w ≡ over out (v ++ w)
unfolding over over_at
over-then out [] w = ap (λ l. over l w) (over-nil out)
over-then [] (b ∷ v) w = over_none w
over-then (o ∷ os) (b ∷ v) w = ap (λ l. b ∷ l) (over-then os v w)

-- THE law: v at a, and then w at the place after it, is v ++ w at a
pub at-then : (out : List ℕ) (a : ℕ) (v w : List ℕ) → over_at (over_at out a v) (a + length v) w ≡ over_at out a (v ++ w)
unfolding over_at
at-then out zero v w = rw zero-add (over-then out v w)
at-then [] (suc a) v w = rw (suc-add, over_none v) (over_none w ∙ sym (over_none (v ++ w)))
at-then (o ∷ os) (suc a) v w = rw suc-add (ap (λ l. o ∷ l) (at-then os a v w))

-- the writers' law
pub wrote_then : {out mid left : List ℕ} {a r s : ℕ} {v w : List ℕ} → Wrote out a v r mid → Wrote mid r w s left → Wrote out a (v ++ w) s left
wrote_then {out} {mid} {left} {a} {r} {s} {v} {w} x y =
    record {
      place = rw length-append (omega (arith, x.place, y.place));
      bytes = y.bytes ∙ (rw (x.place, x.bytes) refl) ∙ at-then out a v w;
    }

pub wrote_none : {out : List ℕ} {a : ℕ} → Wrote out a [] a out
wrote_none {out} {a} = record { place = omega arith; bytes = sym (at-nil out a) }

-- at the start, `over_at` is `over`
pub wrote-over : {out left : List ℕ} {r : ℕ} {w : List ℕ} → Wrote out 0 w r left → (r ≡ length w) × (left ≡ over out w)
unfolding over_at
wrote-over x = (omega (arith, x.place), x.bytes)

at-min : (out : List ℕ) (r : ℕ) (w : List ℕ) → over_at out (min r (length out)) w ≡ over_at out r w
unfolding over_at
at-min [] r w = at-past [] (min r 0) w zero-le ∙ sym (at-past [] r w zero-le)
at-min (o ∷ os) zero w = rw zero-min refl
at-min (o ∷ os) (suc r) w = rw suc-min-suc (ap (λ l. o ∷ l) (at-min os r w))

-- what a writer of the lent part `&mut mid[from..]` did, said of the whole
pub lent_back : (mid : List ℕ) (r from : ℕ) {w : List ℕ} {s : ℕ} {part : List ℕ} → from ≡ min r (length mid)
    → Wrote (take (length mid - from) (drop from mid)) 0 w s part → Wrote mid r w (r + s) (put_mid from (length mid - from) mid part)
unfolding over_at
lent_back mid r from {w} {s} {part} e x =
    let n : length (drop from mid) ≤ length mid - from = rw length-drop (omega arith) in
    record {
      place = omega (arith, x.place);
      bytes = rw (x.bytes, take_all (length mid - from) (drop from mid) n, drop_of_length-le (drop from mid) n, append-nil, e) (at-min mid r w);
    }
