-- Laws of the counts: of a text in two parts, at a place of a text, and of the nodes of a tape.
use Rattle.std.specs.Prelude.{ℕ, ◌+◌, ◌%◌, ◌<◌, ◌≤◌, ◌≡◌, refl, Bool, true, false, ◌&&◌, ◌||◌, List, [], ◌∷◌, ◌++◌, eqb, length}
use Prim.Native.Char.{code}
use Rattle.std.proofs.Math.Path.{ap, ap₂, sym}
use Rattle.std.proofs.Common.{◌∙◌, drop_of_length-le}
use Rattle.std.proofs.Math.Numerals.{add-one}
use native.Mathlib.Omega.{arith}
use borrow.Author.Tests.{eq-eqb, ne_eqb}
use Rattle.std.proofs.Math.ListN.{drop, get_or}
use Rattle.std.proofs.Math.Seq.{drop-cons, get_or-drop}
use Rattle.xml.specs.Bytes.{Bytes}
use Rattle.xml.specs.Forest.{Forest}
use Rattle.xml.specs.Tape.{head_at, Tape, at-end, at-text, at-elem, at-stamp}
use Rattle.xml.specs.Truth.{or_left, or_right}
use Rattle.xml.specs.Neat.{one, count, is_other, others, tags, tags_below}

-- ---- in two parts
pub one-most : (x : Bool) → one x ≤ 1
one-most true = omega arith
one-most false = omega arith

pub count-append : (b : ℕ) (s t : Bytes) → count b (s ++ t) ≡ count b s + count b t
unfolding count
count-append b [] t = omega arith
count-append b (c ∷ s) t = omega (arith, count-append b s t)

pub others-right : (s t : Bytes) → others (s ++ t) ≡ false → others t ≡ false
unfolding others
others-right [] t e = e
others-right (a ∷ s) t e = others-right s t (or_right (is_other a (get_or (s ++ t) 0 0) (get_or (s ++ t) 1 0)) (others (s ++ t)) e)

-- ---- at a place of a text
-- a text of which no byte is so has no CR
pub others-returns : (s : Bytes) → others s ≡ false → count (code "\r") s ≡ 0
unfolding others count
others-returns [] e = refl
others-returns (a ∷ s) e =
    let y = get_or s 0 0 in
    let z = get_or s 1 0 in
    let m = eqb a (code "&") && (eqb y (code "q") || (eqb y (code "a") && eqb z (code "p"))) in
    rw (or_right m (eqb a (code "\r")) (or_left (is_other a y z) (others s) e)) (omega (arith, others-returns s (or_right (is_other a y z) (others s) e)))

pub count_most : (b : ℕ) (s : Bytes) → count b s ≤ length s
unfolding count
count_most b [] = omega arith
count_most b (c ∷ s) = omega (arith, one-most (eqb c b), count_most b s)

-- what a test counts for
pub one-yes : {x b n : ℕ} → x ≡ b → n ≡ 1 → n ≡ one (eqb x b)
one-yes {x} {b} e d = rw (eq-eqb x b e) d

pub one-no : {x b n : ℕ} → (x ≡ b → ⊥) → n ≡ 0 → n ≡ one (eqb x b)
one-no {x} {b} e d = rw (ne_eqb x b e) d

-- n of the bytes at to i are b
pub record Counting (b : ℕ) (src : Bytes) (at i n : ℕ) : Type 0 where
  pub most : at + n ≤ i
  pub is : count b (drop at src) ≡ n + count b (drop i src)

module _ {b : ℕ} {src : Bytes} {at i : ℕ} where
  pub counting-none : i ≡ at → Counting b src at i 0
  counting-none e = rw e (record { most = omega arith; is = omega arith })

  pub counting-next : {n m : ℕ} (j : ℕ) → Counting b src at i n → i < length src → m ≡ one (eqb (get_or src i 0) b) → j ≡ i + 1 → Counting b src at j (n + m)
  unfolding count
  counting-next {n} {m} j x h d e =
      let z : count b (drop i src) ≡ one (eqb (get_or src i 0) b) + count b (drop (i + 1) src) = rw (add-one, drop-cons src i 0) in
      rw e (record { most = omega (arith, x.most, one-most (eqb (get_or src i 0) b)); is = omega (arith, x.is) })

  pub counting-over : {n : ℕ} → Counting b src at i n → length src ≤ i → n ≡ count b (drop at src)
  unfolding count
  counting-over x h = let z : count b (drop i src) ≡ 0 = rw (drop_of_length-le src) in omega (arith, x.is)

module _ (src : Bytes) (i : ℕ) where
  -- whether the byte at i is a `&` that is never written, and whether one after it is
  pub others-next : {y z : ℕ} {r : Bool} → i < length src → r ≡ is_other (get_or src i 0) y z → y ≡ get_or src (i + 1) 0 → z ≡ get_or src (i + 2) 0
      → others (drop i src) ≡ (r || others (drop (i + 1) src))
  unfolding others
  others-next {y} {z} {r} h d ey ez =
      let s : drop i src ≡ get_or src i 0 ∷ drop (i + 1) src = rw add-one (drop-cons src i 0 h) in
      let k₁ : i + 1 + 0 ≡ i + 1 = omega arith in
      let k₂ : i + 1 + 1 ≡ i + 2 = omega arith in
      let x₁ : get_or (drop (i + 1) src) 0 0 ≡ y = get_or-drop (i + 1) src 0 0 ∙ ap (λ (j : ℕ). get_or src j 0) k₁ ∙ sym ey in
      let x₂ : get_or (drop (i + 1) src) 1 0 ≡ z = get_or-drop (i + 1) src 1 0 ∙ ap (λ (j : ℕ). get_or src j 0) k₂ ∙ sym ez in
      ap others s ∙ ap₂ (λ (u v : ℕ). is_other (get_or src i 0) u v || others (drop (i + 1) src)) x₁ x₂ ∙ ap (λ (u : Bool). u || others (drop (i + 1) src)) (sym d)

  pub others-over : length src ≤ i → others (drop i src) ≡ false
  unfolding others
  others-over h = rw (drop_of_length-le src)

-- ---- the nodes of a tape
module _ (cells : List ℕ) (p : ℕ) where
  pub below-text : head_at cells p % 4 ≡ 0 → tags_below cells (p + 1) ≡ tags_below cells p
  unfolding tags_below
  below-text e = rw (add-one, e) (omega arith)

  pub below-tag : (head_at cells p % 4 ≡ 0 → ⊥) → tags_below cells (p + 1) ≡ tags_below cells p + 1
  unfolding tags_below
  below-tag n = rw (add-one, ne_eqb (head_at cells p % 4) 0 n)

tape-tags : {src cells : List ℕ} {p q : ℕ} {f : Forest} → Tape src cells p q f → tags_below cells q ≡ tags_below cells p + tags f
unfolding tags
tape-tags {cells = cells} (at-end e) = omega (arith, ap (tags_below cells) e)
tape-tags {cells = cells} {p = p} (at-text n u e t) = omega (arith, below-text cells p n.kind-is, tape-tags t)
tape-tags {cells = cells} {p = p} (at-elem n i t) = omega (arith, below-tag cells p (λ z. omega (arith, n.kind-is)), tape-tags i, tape-tags t)
tape-tags {cells = cells} {p = p} (at-stamp n i t) = omega (arith, below-tag cells p (λ z. omega (arith, n.kind-is)), tape-tags i, tape-tags t)

pub tags-are : {src cells : List ℕ} {q r : ℕ} {f : Forest} → Tape src cells 0 q f → r ≡ tags_below cells q → r ≡ tags f
unfolding tags_below
tags-are t e = omega (arith, tape-tags t)
