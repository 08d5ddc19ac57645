-- The last byte of a run of text: every entity ends in `;`, so another byte is meant as it stands, and runs that end in different ones differ.
use Prim.Native.Nat.{ℕ, zero, suc, ◌+◌, ◌-◌, ◌<◌, ◌≤◌}
use Prim.Native.Char.{code}
use Rattle.std.proofs.Math.Path.{◌≡◌, refl, ap, sym, subst}
use Rattle.std.proofs.Common.{ap₂, ◌∙◌, arith}
use Rattle.std.specs.Prelude.{Bool, false, get_or, Result, Ok, Err}
use mathlib.Core.List.{[], ◌∷◌, ◌++◌}
use borrow.Author.Tests.{eqb-true, eqb-false, eq-eqb, ne_eqb}
use Rattle.std.proofs.Math.Dec.{eqb, eqb-suc-suc}
use Rattle.std.proofs.Math.ListN.{length, length-append}
use Rattle.std.proofs.Math.Seq.{slice, get_or-append_seam}
use Rattle.xml.specs.Bytes.{Bytes, bytes, same}
use Rattle.xml.specs.BytesLaws.{same-is}
use Rattle.xml.specs.Read.{common, further, try, entity_at, unescape}
use Rattle.xml.specs.ScanLaws.{common-cons, common-off, common-fits, try-hit, try-miss, found_len, entity-fits}
use Rattle.xml.specs.SignLaws.{unescape-miss}
use Rattle.xml.specs.GrammarLaws.{unescape-plain, unescape-joined, unescape-turned}
use Rattle.xml.specs.Truth.{by-test, not_so}
use Rattle.xml.specs.WriteLaws.{slice_snoc}

-- a text whose last byte is b
abbrev Last : ℕ → Bytes → Type 0
Last b s = (t : Bytes) × (s ≡ t ++ b ∷ [])

last_more : {b : ℕ} {s : Bytes} (c : ℕ) → Last b s → Last b (c ∷ s)
last_more c x = (c ∷ x.0, ap (λ (u : Bytes). c ∷ u) x.1)

-- the text begins with the word
abbrev is_whole : Bytes → Bytes → Bool
is_whole w s = eqb (common w s) (length w)

-- what is found, however much of a miss is right
abbrev settled : Result (ℕ × ℕ) ℕ → Result (ℕ × ℕ) ℕ
settled (Ok (n, c)) = Ok (n, c)
settled (Err m) = Err 0

further-settled : (k : ℕ) (o : Result (ℕ × ℕ) ℕ) → settled (further k o) ≡ settled o
unfolding further
further-settled k (Ok (n, c)) = refl
further-settled k (Err m) = refl

entity-nil : entity_at [] ≡ Err 0
unfolding bytes entity_at try common further
entity-nil = refl

settled-hit : (p : Result (ℕ × ℕ) ℕ) (n c : ℕ) → settled p ≡ Ok (n, c) → p ≡ Ok (n, c)
settled-hit (Ok (j, d)) n c e = e
settled-hit (Err j) n c e = let z : ◌≡◌ {A = ℕ} 0 1 = cc in absurd (omega arith)

module _ (b : ℕ) (other : b ≡ code ";" → ⊥) where
  -- a word that ends in `;` is whole or not without the byte
  whole-last : (v s : Bytes) → is_whole (v ++ code ";" ∷ []) (s ++ b ∷ []) ≡ is_whole (v ++ code ";" ∷ []) s
  unfolding common
  whole-last [] [] = ap (λ (n : ℕ). eqb n 1) (common-off (code ";") b [] [] (ne_eqb (code ";") b (λ e. other (sym e))))
  whole-last [] (d ∷ s) = refl
  whole-last (x ∷ v) [] =
      let w = x ∷ (v ++ code ";" ∷ []) in
      not_so (is_whole w (b ∷ [])) (λ t. omega (arith, eqb-true (common w (b ∷ [])) (length w) t, common-fits w (b ∷ []), length-append v (code ";" ∷ [])))
      ∙ sym (ne_eqb 0 (length w) (λ e. omega arith))
  whole-last (x ∷ v) (d ∷ s) =
      let w = v ++ code ";" ∷ [] in
      by-test (eqb x d)
      (λ t. rw (common-cons x d w (s ++ b ∷ []) t, common-cons x d w s t) (eqb-suc-suc (common w (s ++ b ∷ [])) (length w) ∙ whole-last v s ∙ sym (eqb-suc-suc (common w s) (length w))))
      (λ t. rw (common-off x d w (s ++ b ∷ []) t, common-off x d w s t) refl)

  try-last : (v : Bytes) (c : ℕ) (s : Bytes) (o p : Result (ℕ × ℕ) ℕ) → settled p ≡ settled o →
      settled (try (v ++ code ";" ∷ []) c (s ++ b ∷ []) p) ≡ settled (try (v ++ code ";" ∷ []) c s o)
  try-last v c s o p h =
      let w = v ++ code ";" ∷ [] in
      let l = s ++ b ∷ [] in
      by-test (is_whole w s)
      (λ t. ap settled (try-hit w c l p (eqb-true (common w l) (length w) (whole-last v s ∙ t)) ∙ sym (try-hit w c s o (eqb-true (common w s) (length w) t))))
      (λ t.
      ap settled (try-miss w c l p (eqb-false (common w l) (length w) (whole-last v s ∙ t))) ∙ further-settled (common w l) p ∙ h
      ∙ sym (ap settled (try-miss w c s o (eqb-false (common w s) (length w) t)) ∙ further-settled (common w s) o))

  entity-last : (s : Bytes) → settled (entity_at (s ++ b ∷ [])) ≡ settled (entity_at s)
  unfolding bytes entity_at
  entity-last s =
      try-last (bytes "lt") (code "<") s _ _ (try-last (bytes "gt") (code ">") s _ _ (try-last (bytes "amp") (code "&") s _ _
      (try-last (bytes "quot") (code "\"") s _ _ (try-last (bytes "apos") (code "'") s (Err 0) (Err 0) refl))))

  -- an `&`, by what is found after it without the byte and with it
  amp-last : (d : ℕ) (s : Bytes) → d ≡ code "&" → (o p : Result (ℕ × ℕ) ℕ) → entity_at s ≡ o → entity_at (s ++ b ∷ []) ≡ p → settled p ≡ settled o →
      ((k : ℕ) → k ≤ length s → Last b (unescape k (s ++ b ∷ []))) → Last b (unescape 0 (d ∷ (s ++ b ∷ [])))
  unfolding unescape
  amp-last d s e (Ok (n, c)) p x y h f =
      let z : entity_at (s ++ b ∷ []) ≡ Ok (n, c) = y ∙ settled-hit p n c h in
      let l : n ≤ length s = subst (λ (o : Result (ℕ × ℕ) ℕ). found_len o ≤ length s) x (entity-fits s) in
      rw (eq-eqb d (code "&") e, z, unescape) (last_more c (f n l))
  amp-last d s e (Err m) (Ok (n, c)) x y h f = let z : ◌≡◌ {A = ℕ} 0 1 = cc in absurd (omega arith)
  amp-last d s e (Err m) (Err n) x y h f = rw (unescape-miss d n (s ++ b ∷ []) e y) (last_more d (f 0 (omega arith)))

  -- the byte is meant last
  unescape-last : (b ≡ code "\r" → ⊥) → (k : ℕ) (s : Bytes) → k ≤ length s → Last b (unescape k (s ++ b ∷ []))
  unfolding unescape
  unescape-last r zero [] h =
      by-test (eqb b (code "&")) (λ t. ([], unescape-miss b 0 [] (eqb-true b (code "&") t) entity-nil)) (λ t. ([], unescape-plain b [] (eqb-false b (code "&") t) r))
  unescape-last r (suc k) [] h = absurd (omega arith)
  unescape-last r zero (d ∷ s) h =
      by-test (eqb d (code "&"))
      (λ t. amp-last d s (eqb-true d (code "&") t) (entity_at s) (entity_at (s ++ b ∷ [])) refl refl (entity-last s) (λ k l. unescape-last r k s l))
      (λ t. by-test (eqb d (code "\r"))
      (λ u.
      let l = s ++ b ∷ [] in
      by-test (eqb (get_or l 0 0) (code "\n"))
      (λ v. rw (unescape-joined d l (eqb-true d (code "\r") u) (eqb-true (get_or l 0 0) (code "\n") v)) (unescape-last r 0 s (omega arith)))
      (λ v. rw (unescape-turned d l (eqb-true d (code "\r") u) (eqb-false (get_or l 0 0) (code "\n") v)) (last_more (code "\n") (unescape-last r 0 s (omega arith)))))
      (λ u. rw (unescape-plain d (s ++ b ∷ []) (eqb-false d (code "&") t) (eqb-false d (code "\r") u)) (last_more d (unescape-last r 0 s (omega arith)))))
  unescape-last r (suc k) (d ∷ s) h = unescape-last r k s (omega arith)

-- the last byte of a part
run-last : (src : Bytes) (a e : ℕ) → a < e → e ≤ length src → (get_or src (e - 1) 0 ≡ code ";" → ⊥) → (get_or src (e - 1) 0 ≡ code "\r" → ⊥) →
    Last (get_or src (e - 1) 0) (unescape 0 (slice a e src))
run-last src a e h k o r =
    let z : e ≡ e - 1 + 1 = omega arith in
    let x = unescape-last (get_or src (e - 1) 0) o r 0 (slice a (e - 1) src) (omega arith) in
    (x.0, ap (λ (n : ℕ). unescape 0 (slice a n src)) z ∙ ap (unescape 0) (slice_snoc src a (e - 1) (omega arith) (omega arith)) ∙ x.1)

last-same : (s t : Bytes) (b c : ℕ) → s ++ b ∷ [] ≡ t ++ c ∷ [] → b ≡ c
last-same s t b c e =
    let n : length s ≡ length t = omega (arith, ap length e, length-append s (b ∷ []), length-append t (c ∷ [])) in
    sym (get_or-append_seam s b [] 0) ∙ ap₂ (λ (l : Bytes) (i : ℕ). get_or l i 0) e n ∙ get_or-append_seam t c [] 0

-- THE law: runs that end in bytes that differ, and end no entity and in no CR, mean different things
pub ends-other : (src₁ : Bytes) (a₁ e₁ : ℕ) (src₂ : Bytes) (a₂ e₂ : ℕ) → a₁ < e₁ → e₁ ≤ length src₁ → a₂ < e₂ → e₂ ≤ length src₂ →
    (get_or src₁ (e₁ - 1) 0 ≡ get_or src₂ (e₂ - 1) 0 → ⊥) → (get_or src₁ (e₁ - 1) 0 ≡ code ";" → ⊥) → (get_or src₂ (e₂ - 1) 0 ≡ code ";" → ⊥) →
    (get_or src₁ (e₁ - 1) 0 ≡ code "\r" → ⊥) → (get_or src₂ (e₂ - 1) 0 ≡ code "\r" → ⊥) →
    same (unescape 0 (slice a₁ e₁ src₁)) (unescape 0 (slice a₂ e₂ src₂)) ≡ false
ends-other src₁ a₁ e₁ src₂ a₂ e₂ h₁ k₁ h₂ k₂ n o₁ o₂ r₁ r₂ =
    let x = run-last src₁ a₁ e₁ h₁ k₁ o₁ r₁ in
    let y = run-last src₂ a₂ e₂ h₂ k₂ o₂ r₂ in
    not_so (same (unescape 0 (slice a₁ e₁ src₁)) (unescape 0 (slice a₂ e₂ src₂)))
    (λ t. n (last-same x.0 y.0 _ _ (sym x.1 ∙ same-is _ _ t ∙ y.1)))
