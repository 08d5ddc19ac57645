-- Bytes that two texts have alike, and that stand for themselves: runs of text go on over them together.
use Rattle.std.specs.Prelude.{ℕ, zero, suc, ◌+◌, ◌-◌, ◌<◌, ◌≤◌, ◌≡◌, Bool, false, not, ◌||◌, eqb, ltb, length, get_or}
use Prim.Native.Char.{code}
use Rattle.std.proofs.Common.{add-zero, arith, ap₂, ◌∙◌, ltb-true, ltb-false, eqb-true}
use Rattle.std.proofs.lemmas.Bool.{eqb-false}
use Rattle.std.proofs.Math.Seq.{slice}
use Rattle.xml.specs.Bytes.{Bytes, same}
use Rattle.xml.specs.CompareLaws.{same_more, bytes-more}
use Rattle.xml.specs.Read.{unescape}
use Rattle.xml.specs.SameTapes.{not-false}
use Rattle.xml.specs.SignLaws.{slice_first}
use Rattle.xml.specs.GrammarLaws.{unescape-plain}
use Rattle.xml.specs.Truth.{by-test, or_left, or_right}

-- a byte that is not the other text's, or begins an entity or a line end
abbrev pub is_unlike : ℕ → ℕ → Bool
is_unlike x y = not (eqb x y) || eqb x (code "&") || eqb x (code "\r")

-- so many bytes from i and j on are alike
pub record Alike (src₁ : Bytes) (i : ℕ) (src₂ : Bytes) (j n : ℕ) : Type 0 where
  pub at : (k : ℕ) → k < n → is_unlike (get_or src₁ (i + k) 0) (get_or src₂ (j + k) 0) ≡ false

module _ {src₁ src₂ : Bytes} {i j : ℕ} where
  pub alike-none : Alike src₁ i src₂ j 0
  alike-none = record { at = λ k h. absurd (omega arith) }

  pub alike_then : {n m : ℕ} → Alike src₁ i src₂ j n → Alike src₁ (i + n) src₂ (j + n) m → Alike src₁ i src₂ j (n + m)
  alike_then {n} {m} a b =
      record {
        at = λ k h.
            by-test (ltb k n) (λ t. a.at k (ltb-true k n t))
            (λ t.
            let l = ltb-false k n t in
            let x : i + k ≡ i + n + (k - n) = omega arith in
            let y : j + k ≡ j + n + (k - n) = omega arith in
            ap₂ (λ (u v : ℕ). is_unlike (get_or src₁ u 0) (get_or src₂ v 0)) x y ∙ b.at (k - n) (omega arith));
      }

  -- one byte more
  pub alike-more : {n : ℕ} → Alike src₁ i src₂ j n → is_unlike (get_or src₁ (i + n) 0) (get_or src₂ (j + n) 0) ≡ false → Alike src₁ i src₂ j (n + 1)
  alike-more {n} a e =
      alike_then a
      (record {
        at = λ k h.
            let x : i + n + k ≡ i + n = omega arith in
            let y : j + n + k ≡ j + n = omega arith in
            rw (x, y) e;
      })

  -- some of them
  pub alike-part : {n m : ℕ} → Alike src₁ i src₂ j n → m ≤ n → Alike src₁ i src₂ j m
  alike-part a h = record { at = λ k l. a.at k (omega arith) }

-- both runs go on by r bytes that are alike, no further than their ends: they mean the same where what is left of them does
pub record Onward (src₁ : Bytes) (i e₁ : ℕ) (src₂ : Bytes) (j e₂ r : ℕ) : Type 0 where
  pub in₁ : i + r ≤ e₁
  pub in₂ : j + r ≤ e₂
  pub means : same (unescape 0 (slice i e₁ src₁)) (unescape 0 (slice j e₂ src₂)) ≡ same (unescape 0 (slice (i + r) e₁ src₁)) (unescape 0 (slice (j + r) e₂ src₂))

module _ (src₁ : Bytes) (e₁ : ℕ) (src₂ : Bytes) (e₂ : ℕ) (h : e₁ ≤ length src₁) (k : e₂ ≤ length src₂) where
  -- what is read of both is the same where it is of the rest: so over bytes that are alike, if it is over one
  alike-along : (g : Bytes → Bytes)
      → ((i j : ℕ) → i < e₁ → j < e₂ → is_unlike (get_or src₁ i 0) (get_or src₂ j 0) ≡ false → same (g (slice i e₁ src₁)) (g (slice j e₂ src₂)) ≡ same (g (slice (i + 1) e₁ src₁)) (g (slice (j + 1) e₂ src₂)))
      → (r i j : ℕ) → i + r ≤ e₁ → j + r ≤ e₂ → Alike src₁ i src₂ j r → same (g (slice i e₁ src₁)) (g (slice j e₂ src₂)) ≡ same (g (slice (i + r) e₁ src₁)) (g (slice (j + r) e₂ src₂))
  alike-along g f zero i j l m a = rw (add-zero, add-zero)
  alike-along g f (suc r) i j l m a =
      let x : i + r + 1 ≡ i + suc r = omega arith in
      let y : j + r + 1 ≡ j + suc r = omega arith in
      alike-along g f r i j (omega arith) (omega arith) (alike-part a (omega arith))
      ∙ f (i + r) (j + r) (omega arith) (omega arith) (a.at r (omega arith))
      ∙ ap₂ (λ (u v : ℕ). same (g (slice u e₁ src₁)) (g (slice v e₂ src₂))) x y

  alike_is : (x y : ℕ) → is_unlike x y ≡ false → x ≡ y
  alike_is x y u = eqb-true x y (not-false (eqb x y) (or_left (not (eqb x y)) (eqb x (code "&")) (or_left (not (eqb x y) || eqb x (code "&")) (eqb x (code "\r")) u)))

  alike-one : (i j : ℕ) → i < e₁ → j < e₂ → is_unlike (get_or src₁ i 0) (get_or src₂ j 0) ≡ false
      → same (unescape 0 (slice i e₁ src₁)) (unescape 0 (slice j e₂ src₂)) ≡ same (unescape 0 (slice (i + 1) e₁ src₁)) (unescape 0 (slice (j + 1) e₂ src₂))
  alike-one i j l m u =
      let x = get_or src₁ i 0 in
      let y = get_or src₂ j 0 in
      let e : x ≡ y = alike_is x y u in
      let n = eqb-false x (code "&") (or_right (not (eqb x y)) (eqb x (code "&")) (or_left (not (eqb x y) || eqb x (code "&")) (eqb x (code "\r")) u)) in
      let o = eqb-false x (code "\r") (or_right (not (eqb x y) || eqb x (code "&")) (eqb x (code "\r")) u) in
      rw (slice_first i e₁ src₁ l h, slice_first j e₂ src₂ m k, unescape-plain x (slice (i + 1) e₁ src₁) n o, unescape-plain y (slice (j + 1) e₂ src₂) (λ z. n (e ∙ z)) (λ z. o (e ∙ z)))
      (same_more x y _ _ e)

  pub onward : {i j r : ℕ} → i + r ≤ e₁ → j + r ≤ e₂ → Alike src₁ i src₂ j r → Onward src₁ i e₁ src₂ j e₂ r
  onward {i} {j} {r} l m a = record { in₁ = l; in₂ = m; means = alike-along (unescape 0) alike-one r i j l m a }

  -- the parts themselves
  pub alike_same : (i j r : ℕ) → i + r ≤ e₁ → j + r ≤ e₂ → Alike src₁ i src₂ j r → same (slice i e₁ src₁) (slice j e₂ src₂) ≡ same (slice (i + r) e₁ src₁) (slice (j + r) e₂ src₂)
  alike_same i j r l m a = alike-along (λ s. s) (λ u v p q w. bytes-more src₁ u e₁ src₂ v e₂ p h q k (alike_is (get_or src₁ u 0) (get_or src₂ v 0) w)) r i j l m a
