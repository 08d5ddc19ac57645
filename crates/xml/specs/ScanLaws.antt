-- Laws of names, times, words and entities: how far each goes, at a place of a text.
use Rattle.std.specs.Prelude.{◌≡◌, refl, Bool, true, false, [], ◌∷◌, ◌++◌, ℕ, zero, suc, ◌+◌, ◌<◌, ◌≤◌, max, eqb, length, drop, get_or, Result, Ok, Err}
use Rattle.std.proofs.Common.{ap, sym, ◌∙◌, add-one, one-add, arith, eq-eqb, ne_eqb, eqb-true, drop_of_length-le, drop-cons}
use Prim.Native.Char.{code}
use Rattle.std.proofs.lemmas.Bool.{eqb-false}
use Rattle.xml.specs.Bytes.{Bytes, bytes, is_start, is_name_byte, is_times}
use Rattle.xml.specs.Read.{common, name_rest, name_len, times_len, try, further, entity_at}

pub name_rest-cons : (r b : ℕ) (s : Bytes) → is_name_byte b ≡ true → name_rest (suc r) (b ∷ s) ≡ suc (name_rest r s)
unfolding name_rest
name_rest-cons r b s t = rw (t, name_rest)

pub name_rest-off : (r b : ℕ) (s : Bytes) → is_name_byte b ≡ false → name_rest r (b ∷ s) ≡ 0
unfolding name_rest
name_rest-off zero b s t = refl
name_rest-off (suc r) b s t = rw (t, name_rest)

pub name_rest-nil : (r : ℕ) → name_rest r [] ≡ 0
unfolding name_rest
name_rest-nil zero = refl
name_rest-nil (suc r) = refl

pub name_rest-none : (s : Bytes) → name_rest 0 s ≡ 0
unfolding name_rest
name_rest-none s = refl

module _ (src : Bytes) (j : ℕ) where
  pub name_rest-end : (r : ℕ) → length src ≤ j → name_rest r (drop j src) ≡ 0
  name_rest-end r h = rw drop_of_length-le (name_rest-nil r)

  pub name_rest-stop : (r : ℕ) → j < length src → is_name_byte (get_or src j 0) ≡ false → name_rest r (drop j src) ≡ 0
  name_rest-stop r h t = rw (drop-cons src j 0) (name_rest-off r (get_or src j 0) (drop (suc j) src) t)

  pub name_rest-more : (r r' j' : ℕ) → j < length src → is_name_byte (get_or src j 0) ≡ true → r ≡ suc r' → j' ≡ suc j → name_rest r (drop j src) ≡ suc (name_rest r' (drop j' src))
  name_rest-more r r' j' h t e f = rw (e, f, drop-cons src j 0) (name_rest-cons r' (get_or src j 0) (drop (suc j) src) t)

pub name_rest-fits : (r : ℕ) (s : Bytes) → name_rest r s ≤ length s
unfolding name_rest
name_rest-fits zero s = omega arith
name_rest-fits (suc r) [] = omega arith
name_rest-fits (suc r) (b ∷ s) = go (is_name_byte b) refl (name_rest-fits r s)
  where
    go : (t : Bool) → is_name_byte b ≡ t → name_rest r s ≤ length s → name_rest (suc r) (b ∷ s) ≤ suc (length s)
    go true e h = rw (name_rest-cons r b s e) (omega arith)
    go false e h = rw (name_rest-off (suc r) b s e) (omega arith)

pub name_len-cons : (b : ℕ) (s : Bytes) → is_start b ≡ true → name_len (b ∷ s) ≡ suc (name_rest 31 s)
unfolding name_len
name_len-cons b s t = rw (t, name_len)

pub name_len-off : (b : ℕ) (s : Bytes) → is_start b ≡ false → name_len (b ∷ s) ≡ 0
unfolding name_len
name_len-off b s t = rw (t, name_len)

pub name_len-fits : (s : Bytes) → name_len s ≤ length s
unfolding name_len
name_len-fits [] = omega arith
name_len-fits (b ∷ s) = go (is_start b) refl
  where
    go : (t : Bool) → is_start b ≡ t → name_len (b ∷ s) ≤ suc (length s)
    go true e = rw (name_len-cons b s e) (omega (arith, name_rest-fits 31 s))
    go false e = rw (name_len-off b s e) (omega arith)

module _ (src : Bytes) (j : ℕ) where
  pub name_len-end : length src ≤ j → name_len (drop j src) ≡ 0
  unfolding name_len
  name_len-end h = rw (drop_of_length-le src)

  pub name_len-stop : j < length src → is_start (get_or src j 0) ≡ false → name_len (drop j src) ≡ 0
  name_len-stop h t = rw (drop-cons src j 0) (name_len-off (get_or src j 0) (drop (suc j) src) t)

  pub name_len-more : j < length src → is_start (get_or src j 0) ≡ true → name_len (drop j src) ≡ 1 + name_rest 31 (drop (j + 1) src)
  name_len-more h t = rw (add-one, one-add, drop-cons src j 0) (name_len-cons (get_or src j 0) (drop (suc j) src) t)

pub times_len-cons : (b : ℕ) (s : Bytes) → is_times b ≡ true → times_len (b ∷ s) ≡ suc (times_len s)
unfolding times_len
times_len-cons b s t = rw (t, times_len)

pub times_len-off : (b : ℕ) (s : Bytes) → is_times b ≡ false → times_len (b ∷ s) ≡ 0
unfolding times_len
times_len-off b s t = rw (t, times_len)

pub times_len-fits : (s : Bytes) → times_len s ≤ length s
unfolding times_len
times_len-fits [] = omega arith
times_len-fits (b ∷ s) = go (is_times b) refl (times_len-fits s)
  where
    go : (t : Bool) → is_times b ≡ t → times_len s ≤ length s → times_len (b ∷ s) ≤ suc (length s)
    go true e h = rw (times_len-cons b s e) (omega arith)
    go false e h = rw (times_len-off b s e) (omega arith)

module _ (src : Bytes) (j : ℕ) where
  pub times_len-end : length src ≤ j → times_len (drop j src) ≡ 0
  unfolding times_len
  times_len-end h = rw (drop_of_length-le src)

  pub times_len-stop : j < length src → is_times (get_or src j 0) ≡ false → times_len (drop j src) ≡ 0
  times_len-stop h t = rw (drop-cons src j 0) (times_len-off (get_or src j 0) (drop (suc j) src) t)

  pub times_len-more : (j' : ℕ) → j < length src → is_times (get_or src j 0) ≡ true → j' ≡ suc j → times_len (drop j src) ≡ suc (times_len (drop j' src))
  times_len-more j' h t e = rw (e, drop-cons src j 0) (times_len-cons (get_or src j 0) (drop (suc j) src) t)

pub common-cons : (w b : ℕ) (ws s : Bytes) → eqb w b ≡ true → common (w ∷ ws) (b ∷ s) ≡ suc (common ws s)
unfolding common
common-cons w b ws s t = rw (t, common)

pub common-off : (w b : ℕ) (ws s : Bytes) → eqb w b ≡ false → common (w ∷ ws) (b ∷ s) ≡ 0
unfolding common
common-off w b ws s t = rw (t, common)

pub common-nil : (ws : Bytes) → common ws [] ≡ 0
unfolding common
common-nil [] = refl
common-nil (w ∷ ws) = refl

pub common-empty : (s : Bytes) → common [] s ≡ 0
unfolding common
common-empty s = refl

module _ (word src : Bytes) (i j : ℕ) where
  pub common-end : length src ≤ j → common (drop i word) (drop j src) ≡ 0
  common-end h = rw (drop_of_length-le src) (common-nil (drop i word))

  pub common-done : length word ≤ i → common (drop i word) (drop j src) ≡ 0
  common-done h = rw (drop_of_length-le word) (common-empty (drop j src))

  pub common-stop : i < length word → j < length src → (get_or src j 0 ≡ get_or word i 0 → ⊥) → common (drop i word) (drop j src) ≡ 0
  common-stop h g t =
      rw (drop-cons word i 0, drop-cons src j 0)
      (common-off (get_or word i 0) (get_or src j 0) (drop (suc i) word) (drop (suc j) src) (ne_eqb (get_or word i 0) (get_or src j 0) (λ e. t (sym e))))

  pub common-more : (i' j' : ℕ) → i < length word → j < length src → get_or src j 0 ≡ get_or word i 0 → i' ≡ suc i → j' ≡ suc j →
      common (drop i word) (drop j src) ≡ suc (common (drop i' word) (drop j' src))
  common-more i' j' h g t e f =
      rw (e, f, drop-cons word i 0, drop-cons src j 0)
      (common-cons (get_or word i 0) (get_or src j 0) (drop (suc i) word) (drop (suc j) src) (eq-eqb (get_or word i 0) (get_or src j 0) (sym t)))

pub common-self : (n s : Bytes) → common n (n ++ s) ≡ length n
unfolding common
common-self [] s = refl
common-self (b ∷ n) s = common-cons b b n (n ++ s) (eq-eqb b b refl) ∙ ap suc (common-self n s)

pub common-fits : (w s : Bytes) → common w s ≤ length s
unfolding common
common-fits [] s = omega arith
common-fits (w ∷ ws) [] = omega arith
common-fits (w ∷ ws) (b ∷ s) = go (eqb w b) refl (common-fits ws s)
  where
    go : (t : Bool) → eqb w b ≡ t → common ws s ≤ length s → common (w ∷ ws) (b ∷ s) ≤ suc (length s)
    go true e h = rw (common-cons w b ws s e) (omega arith)
    go false e h = rw (common-off w b ws s e) (omega arith)

abbrev pub found_len : Result (ℕ × ℕ) ℕ → ℕ
found_len (Ok (n, b)) = n
found_len (Err n) = n

pub further-fits : (k m : ℕ) (o : Result (ℕ × ℕ) ℕ) → k ≤ m → found_len o ≤ m → found_len (further k o) ≤ m
unfolding further
further-fits k m (Ok (n, b)) h g = g
further-fits k m (Err n) h g = omega arith

pub try-hit : (w : Bytes) (b : ℕ) (s : Bytes) (o : Result (ℕ × ℕ) ℕ) → common w s ≡ length w → try w b s o ≡ Ok (length w, b)
unfolding try
try-hit w b s o e = rw (eq-eqb (common w s) (length w) e, try)

pub try-miss : (w : Bytes) (b : ℕ) (s : Bytes) (o : Result (ℕ × ℕ) ℕ) → (common w s ≡ length w → ⊥) → try w b s o ≡ further (common w s) o
unfolding try
try-miss w b s o e = rw (ne_eqb (common w s) (length w) e, try)

pub try-fits : (w : Bytes) (b : ℕ) (s : Bytes) (o : Result (ℕ × ℕ) ℕ) → found_len o ≤ length s → found_len (try w b s o) ≤ length s
try-fits w b s o h = go (eqb (common w s) (length w)) refl
  where
    go : (t : Bool) → eqb (common w s) (length w) ≡ t → found_len (try w b s o) ≤ length s
    go true e = rw (try-hit w b s o (eqb-true _ _ e)) (omega (arith, common-fits w s, eqb-true (common w s) (length w) e))
    go false e = rw (try-miss w b s o (eqb-false _ _ e)) (further-fits (common w s) (length s) o (common-fits w s) h)

pub entity-fits : (s : Bytes) → found_len (entity_at s) ≤ length s
unfolding bytes entity_at
entity-fits s =
    try-fits (bytes "lt;") (code "<") s _ (try-fits (bytes "gt;") (code ">") s _ (try-fits (bytes "amp;") (code "&") s _ (try-fits (bytes "quot;") (code "\"") s _ (try-fits (bytes "apos;") (code "'") s _ (omega arith)))))

-- the entity by the five counts
module _ (s : Bytes) where
  abbrev pub No : Bytes → Type 0
  No w = common w s ≡ length w → ⊥

  pub entity-lt : common (bytes "lt;") s ≡ 3 → entity_at s ≡ Ok (3, code "<")
  unfolding bytes entity_at
  entity-lt e = try-hit (bytes "lt;") (code "<") s _ e

  pub entity-gt : No (bytes "lt;") → common (bytes "gt;") s ≡ 3 → entity_at s ≡ Ok (3, code ">")
  unfolding bytes entity_at further
  entity-gt a e = rw (try-miss (bytes "lt;") (code "<") s _ a, try-hit (bytes "gt;") (code ">") s _ e)

  pub entity-amp : No (bytes "lt;") → No (bytes "gt;") → common (bytes "amp;") s ≡ 4 → entity_at s ≡ Ok (4, code "&")
  unfolding bytes entity_at further
  entity-amp a b e = rw (try-miss (bytes "lt;") (code "<") s _ a, try-miss (bytes "gt;") (code ">") s _ b, try-hit (bytes "amp;") (code "&") s _ e)

  pub entity-quot : No (bytes "lt;") → No (bytes "gt;") → No (bytes "amp;") → common (bytes "quot;") s ≡ 5 → entity_at s ≡ Ok (5, code "\"")
  unfolding bytes entity_at further
  entity-quot a b d e = rw (try-miss (bytes "lt;") (code "<") s _ a, try-miss (bytes "gt;") (code ">") s _ b, try-miss (bytes "amp;") (code "&") s _ d, try-hit (bytes "quot;") (code "\"") s _ e)

  pub entity-apos : No (bytes "lt;") → No (bytes "gt;") → No (bytes "amp;") → No (bytes "quot;") → common (bytes "apos;") s ≡ 5 → entity_at s ≡ Ok (5, code "'")
  unfolding bytes entity_at further
  entity-apos a b d q e =
      rw (try-miss (bytes "lt;") (code "<") s _ a, try-miss (bytes "gt;") (code ">") s _ b, try-miss (bytes "amp;") (code "&") s _ d, try-miss (bytes "quot;") (code "\"") s _ q, try-hit (bytes "apos;") (code "'") s _ e)

  pub entity-none : No (bytes "lt;") → No (bytes "gt;") → No (bytes "amp;") → No (bytes "quot;") → No (bytes "apos;") →
      entity_at s ≡ Err (max (common (bytes "lt;") s) (max (common (bytes "gt;") s) (max (common (bytes "amp;") s) (max (common (bytes "quot;") s) (max (common (bytes "apos;") s) 0)))))
  unfolding bytes entity_at further
  entity-none a b d q e =
      rw (try-miss (bytes "lt;") (code "<") s _ a, try-miss (bytes "gt;") (code ">") s _ b, try-miss (bytes "amp;") (code "&") s _ d, try-miss (bytes "quot;") (code "\"") s _ q, try-miss (bytes "apos;") (code "'") s _ e)

  pub entity-miss : (a b d q p m₅ m₄ m₃ m₂ m₁ : ℕ) →
      a ≡ common (bytes "lt;") s → b ≡ common (bytes "gt;") s → d ≡ common (bytes "amp;") s → q ≡ common (bytes "quot;") s → p ≡ common (bytes "apos;") s →
      (a ≡ 3 → ⊥) → (b ≡ 3 → ⊥) → (d ≡ 4 → ⊥) → (q ≡ 5 → ⊥) → (p ≡ 5 → ⊥) →
      m₅ ≡ max p 0 → m₄ ≡ max q m₅ → m₃ ≡ max d m₄ → m₂ ≡ max b m₃ → m₁ ≡ max a m₂ → Err m₁ ≡ entity_at s
  unfolding bytes
  entity-miss a b d q p m₅ m₄ m₃ m₂ m₁ ea eb ed eq ep na nb nd nq np e₅ e₄ e₃ e₂ e₁ =
      let no = entity-none (λ e. na (ea ∙ e)) (λ e. nb (eb ∙ e)) (λ e. nd (ed ∙ e)) (λ e. nq (eq ∙ e)) (λ e. np (ep ∙ e)) in
      cc

-- a text that begins with a word
pub begins : (w s : Bytes) → common w s ≡ length w → s ≡ w ++ drop (length w) s
unfolding common
begins [] s e = refl
begins (w ∷ ws) [] e = let z : ◌≡◌ {A = ℕ} 0 (suc (length ws)) = e in absurd (omega arith)
begins (w ∷ ws) (b ∷ s) e = at (eqb w b) refl (λ g. begins ws s g)
  where
    at : (t : Bool) → eqb w b ≡ t → (common ws s ≡ length ws → s ≡ ws ++ drop (length ws) s) → b ∷ s ≡ w ∷ (ws ++ drop (length ws) s)
    at true q f =
        let n : suc (common ws s) ≡ suc (length ws) = sym (common-cons w b ws s q) ∙ e in
        let g : s ≡ ws ++ drop (length ws) s = f (omega arith) in
        let x : w ≡ b = eqb-true w b q in
        ap (λ (y : ℕ). y ∷ s) (sym x) ∙ ap (λ (l : Bytes). w ∷ l) g
    at false q f = let z : 0 ≡ suc (length ws) = sym (common-off w b ws s q) ∙ e in absurd (omega arith)

pub further-hit : (k : ℕ) (o : Result (ℕ × ℕ) ℕ) (n c : ℕ) → further k o ≡ Ok (n, c) → o ≡ Ok (n, c)
unfolding further
further-hit k (Ok (j, b)) n c e = e
further-hit k (Err j) n c e = let z : ◌≡◌ {A = ℕ} 0 1 = cc in absurd (omega arith)
