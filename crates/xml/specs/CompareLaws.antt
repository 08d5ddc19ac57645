-- Laws of the tests on runs of text: equal bytes, equal meaning, and white space, at places of a text.
use Rattle.std.specs.Prelude.{ℕ, ◌+◌, ◌-◌, ◌<◌, ◌≤◌, ◌≡◌, refl, true, false, [], ◌∷◌, eqb, leb, length, get_or, Result, Ok, Err}
use Prim.Native.Char.{code}
use Rattle.std.proofs.Common.{ap, sym, ◌∙◌, arith, eq-eqb, ne_eqb, eqb-true, leb-true, leb-false}
use Rattle.std.proofs.lemmas.Bool.{eqb-false}
use Rattle.std.proofs.Math.Seq.{slice, slice_empty, length-slice}
use Rattle.xml.specs.Bytes.{Bytes, all, same, same_by, is_white, bytes_compute}
use Rattle.xml.specs.BytesLaws.{same-is}
use Rattle.xml.specs.Grammar.{Entity, lt, gt, amp, quot, apos}
use Rattle.xml.specs.Read.{entity_at, unescape}
use Rattle.xml.specs.Words.{signed}
use Rattle.xml.specs.Truth.{by-test, not_so}
use Rattle.xml.specs.SignLaws.{Meant, sign-means, slice_first, unescape-hit, unescape-miss}
use Rattle.xml.specs.GrammarLaws.{unescape-plain, unescape-joined, unescape-turned}
use Rattle.xml.specs.declared.text.Sign.{Sign}

-- ---- equal bytes
pub same_more : (x y : ℕ) (s t : Bytes) → x ≡ y → same (x ∷ s) (y ∷ t) ≡ same s t
unfolding same same_by
same_more x y s t e = rw (eq-eqb x y e) refl

pub same-other : (x y : ℕ) (s t : Bytes) → (x ≡ y → ⊥) → same (x ∷ s) (y ∷ t) ≡ false
unfolding same same_by
same-other x y s t e = rw (ne_eqb x y e) refl

pub same_none : same [] [] ≡ true
unfolding same same_by
same_none = refl

pub same_left : (x : ℕ) (s : Bytes) → same (x ∷ s) [] ≡ false
unfolding same same_by
same_left x s = refl

pub same-right : (y : ℕ) (t : Bytes) → same [] (y ∷ t) ≡ false
unfolding same same_by
same-right y t = refl

pub same-lengths : (s t : Bytes) → (length s ≡ length t → ⊥) → same s t ≡ false
same-lengths s t n = not_so (same s t) (λ e. n (ap length (same-is s t e)))

-- at a place of each of two texts
module _ (src₁ : Bytes) (i e₁ : ℕ) (src₂ : Bytes) (j e₂ : ℕ) (h : i < e₁) (k : e₁ ≤ length src₁) (l : j < e₂) (m : e₂ ≤ length src₂) where
  pub bytes-more : get_or src₁ i 0 ≡ get_or src₂ j 0 → same (slice i e₁ src₁) (slice j e₂ src₂) ≡ same (slice (i + 1) e₁ src₁) (slice (j + 1) e₂ src₂)
  bytes-more e = rw (slice_first i e₁ src₁ h k, slice_first j e₂ src₂ l m) (same_more _ _ _ _ e)

  pub bytes-other : (get_or src₁ i 0 ≡ get_or src₂ j 0 → ⊥) → same (slice i e₁ src₁) (slice j e₂ src₂) ≡ false
  bytes-other e = rw (slice_first i e₁ src₁ h k, slice_first j e₂ src₂ l m) (same-other _ _ _ _ e)

pub bytes-over : (src₁ : Bytes) (e₁ : ℕ) (src₂ : Bytes) (e₂ : ℕ) → same (slice e₁ e₁ src₁) (slice e₂ e₂ src₂) ≡ true
bytes-over src₁ e₁ src₂ e₂ = rw (slice_empty e₁ src₁, slice_empty e₂ src₂) same_none

pub bytes_apart : (src₁ : Bytes) (a₁ e₁ : ℕ) (src₂ : Bytes) (a₂ e₂ : ℕ) → e₁ ≤ length src₁ → e₂ ≤ length src₂ → (e₁ - a₁ ≡ e₂ - a₂ → ⊥)
    → same (slice a₁ e₁ src₁) (slice a₂ e₂ src₂) ≡ false
bytes_apart src₁ a₁ e₁ src₂ a₂ e₂ h k n =
    same-lengths (slice a₁ e₁ src₁) (slice a₂ e₂ src₂) (λ e. n (sym (length-slice a₁ e₁ src₁ h) ∙ e ∙ length-slice a₂ e₂ src₂ k))

-- ---- equal meaning
module _ {src₁ src₂ : Bytes} {i e₁ j e₂ : ℕ} {g h : Sign} (x : Meant src₁ i e₁ g) (y : Meant src₂ j e₂ h) where
  pub run_more : g.byte ≡ h.byte
      → same (unescape 0 (slice i e₁ src₁)) (unescape 0 (slice j e₂ src₂)) ≡ same (unescape 0 (slice g.next e₁ src₁)) (unescape 0 (slice h.next e₂ src₂))
  run_more e = rw (x.means, y.means) (same_more _ _ _ _ e)

  pub run-other : (g.byte ≡ h.byte → ⊥) → same (unescape 0 (slice i e₁ src₁)) (unescape 0 (slice j e₂ src₂)) ≡ false
  run-other e = rw (x.means, y.means) (same-other _ _ _ _ e)

pub meant-over : (src : Bytes) (e : ℕ) → unescape 0 (slice e e src) ≡ []
unfolding unescape
meant-over src e = rw (slice_empty e src)

pub run-left : {src₁ : Bytes} {i e₁ : ℕ} {g : Sign} (src₂ : Bytes) (e₂ : ℕ) → Meant src₁ i e₁ g
    → same (unescape 0 (slice i e₁ src₁)) (unescape 0 (slice e₂ e₂ src₂)) ≡ false
run-left src₂ e₂ x = rw (x.means, meant-over src₂ e₂) (same_left _ _)

pub run-right : (src₁ : Bytes) (e₁ : ℕ) {src₂ : Bytes} {j e₂ : ℕ} {h : Sign} → Meant src₂ j e₂ h
    → same (unescape 0 (slice e₁ e₁ src₁)) (unescape 0 (slice j e₂ src₂)) ≡ false
run-right src₁ e₁ y = rw (y.means, meant-over src₁ e₁) (same-right _ _)

pub run-over : (src₁ : Bytes) (e₁ : ℕ) (src₂ : Bytes) (e₂ : ℕ) → same (unescape 0 (slice e₁ e₁ src₁)) (unescape 0 (slice e₂ e₂ src₂)) ≡ true
run-over src₁ e₁ src₂ e₂ = rw (meant-over src₁ e₁, meant-over src₂ e₂) same_none

-- ---- white space
entity-black : {e : Bytes} {c : ℕ} → Entity e c → is_white c ≡ false
unfolding bytes_compute
entity-black lt = refl
entity-black gt = refl
entity-black amp = refl
entity-black quot = refl
entity-black apos = refl

amp-black : (b : ℕ) → b ≡ code "&" → is_white b ≡ false
unfolding bytes_compute
amp-black b e = rw e

pub return-white : (b : ℕ) → b ≡ code "\r" → is_white b ≡ true
unfolding bytes_compute
return-white b e = rw e

pub feed-white : is_white (code "\n") ≡ true
unfolding bytes_compute
feed-white = refl

pub all-black : (b : ℕ) (s : Bytes) → is_white b ≡ false → all is_white (b ∷ s) ≡ false
unfolding all
all-black b s e = rw e refl

pub all_white : (b : ℕ) (s : Bytes) → is_white b ≡ true → all is_white (b ∷ s) ≡ all is_white s
unfolding all
all_white b s e = rw e refl

-- what a run means is white space where its raw bytes are
pub white-meant : (s : Bytes) → all is_white (unescape 0 s) ≡ all is_white s
unfolding unescape
white-meant [] = refl
white-meant (b ∷ s) = by-test (eqb b (code "&")) (λ t. let a = eqb-true b (code "&") t in found a (entity_at s) refl ∙ sym (all-black b s (amp-black b a))) (kept (white-meant s))
  where
    found : b ≡ code "&" → (o : Result (ℕ × ℕ) ℕ) → entity_at s ≡ o → all is_white (unescape 0 (b ∷ s)) ≡ false
    found a (Ok (n, c)) e = ap (all is_white) (unescape-hit b n c s a e) ∙ all-black c _ (entity-black (signed s n c e).entity)
    found a (Err n) e = ap (all is_white) (unescape-miss b n s a e) ∙ all-black b _ (amp-black b a)

    kept : all is_white (unescape 0 s) ≡ all is_white s → eqb b (code "&") ≡ false → all is_white (unescape 0 (b ∷ s)) ≡ all is_white (b ∷ s)
    kept ih t = by-test (eqb b (code "\r")) (λ u. return ih (eqb-true b (code "\r") u)) (λ u. self ih t (eqb-false b (code "\r") u))
      where
        return : all is_white (unescape 0 s) ≡ all is_white s → b ≡ code "\r" → all is_white (unescape 0 (b ∷ s)) ≡ all is_white (b ∷ s)
        return ih u =
            by-test (eqb (get_or s 0 0) (code "\n"))
            (λ v. ap (all is_white) (unescape-joined b s u (eqb-true (get_or s 0 0) (code "\n") v)) ∙ ih ∙ sym (all_white b s (return-white b u)))
            (λ v. ap (all is_white) (unescape-turned b s u (eqb-false (get_or s 0 0) (code "\n") v)) ∙ all_white (code "\n") (unescape 0 s) feed-white ∙ ih ∙ sym (all_white b s (return-white b u)))

        self : all is_white (unescape 0 s) ≡ all is_white s → eqb b (code "&") ≡ false → (b ≡ code "\r" → ⊥) → all is_white (unescape 0 (b ∷ s)) ≡ all is_white (b ∷ s)
        self ih t u =
            ap (all is_white) (unescape-plain b s (eqb-false b (code "&") t) u)
            ∙ by-test (is_white b) (λ w. all_white b (unescape 0 s) w ∙ ih ∙ sym (all_white b s w)) (λ w. all-black b (unescape 0 s) w ∙ sym (all-black b s w))

module _ (src : Bytes) (i e : ℕ) (h : i < e) (k : e ≤ length src) where
  pub white-more : is_white (get_or src i 0) ≡ true → all is_white (slice i e src) ≡ all is_white (slice (i + 1) e src)
  white-more w = rw (slice_first i e src h k) (all_white _ _ w)

  pub white-other : is_white (get_or src i 0) ≡ false → all is_white (slice i e src) ≡ false
  white-other w = rw (slice_first i e src h k) (all-black _ _ w)

pub white-over : (src : Bytes) (e : ℕ) → all is_white (slice e e src) ≡ true
unfolding all
white-over src e = rw (slice_empty e src)

-- the first run is over: so is the second, or they differ
pub run_ends : (src₁ : Bytes) (e₁ : ℕ) (src₂ : Bytes) (j e₂ : ℕ) → j ≤ e₂ → e₂ ≤ length src₂
    → leb e₂ j ≡ same (unescape 0 (slice e₁ e₁ src₁)) (unescape 0 (slice j e₂ src₂))
run_ends src₁ e₁ src₂ j e₂ h k =
    by-test (leb e₂ j)
    (λ t. let z : j ≡ e₂ = omega (arith, leb-true e₂ j t) in t ∙ rw z (sym (run-over src₁ e₁ src₂ e₂)))
    (λ t. t ∙ sym (run-right src₁ e₁ (sign-means src₂ j e₂ (leb-false e₂ j t) k)))
