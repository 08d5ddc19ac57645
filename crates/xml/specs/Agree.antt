-- Texts that begin with the same bytes: what reads no further than these answers the same for both.
use Rattle.std.specs.Prelude.{◌≡◌, refl, Bool, true, false, [], ◌∷◌, ◌++◌, ◌⊎◌, ℕ, zero, suc, ◌+◌, ◌-◌, ◌<◌, ◌≤◌, max, eqb, length, take, drop, get_or, Result, Ok, Err, Option, Some, None}
use Rattle.std.proofs.Common.{ap, sym, ◌∙◌, subst, inl, inr, ⊎_elim, not-suc-le-zero, le_of_suc-le-suc, arith, ne_eqb, eqb-true}
use Prim.Native.Char.{code}
use Rattle.std.proofs.lemmas.Bool.{eqb-false}
use Rattle.xml.specs.Bytes.{Bytes, bytes, is_start, is_name_byte, is_times}
use Rattle.xml.specs.Read.{common, name_rest, name_len, times_len, further, try, entity_at, text_byte, scan, read_compute}
use Rattle.xml.specs.Truth.{ok-inj}
use Rattle.xml.specs.ScanLaws.{name_rest-cons, name_rest-off, name_len-cons, name_len-off, times_len-cons, times_len-off, common-cons, common-off, common-self, try-hit, try-miss, begins, further-hit}
use Rattle.xml.specs.TextLaws.{place, Reach, byte-reach, byte-over, byte-hit, byte-miss}

-- the two texts have m bytes at least, and the first m are the same
pub data Agrees : ℕ → Bytes → Bytes → Type 0 where
  done : {s s' : Bytes} → Agrees 0 s s'
  more : {m b : ℕ} {s s' : Bytes} → Agrees m s s' → Agrees (suc m) (b ∷ s) (b ∷ s')

pub agrees-take : (m : ℕ) (s t : Bytes) → m ≤ length s → Agrees m s (take m s ++ t)
agrees-take zero s t h = done
agrees-take (suc m) [] t h = absurd (not-suc-le-zero h)
agrees-take (suc m) (b ∷ s) t h = more (agrees-take m s t (le_of_suc-le-suc h))

pub get_d-same : (m i : ℕ) (s s' : Bytes) → i < m → Agrees m s s' → get_or s' i 0 ≡ get_or s i 0
get_d-same zero i s s' h a = absurd (not-suc-le-zero h)
get_d-same (suc m) zero s s' h (more a) = refl
get_d-same (suc m) (suc i) s s' h (more a) = get_d-same m i _ _ (le_of_suc-le-suc h) a

pub take_same : (m n : ℕ) (s s' : Bytes) → n ≤ m → Agrees m s s' → take n s' ≡ take n s
take_same m zero s s' h a = refl
take_same zero (suc n) s s' h a = absurd (not-suc-le-zero h)
take_same (suc m) (suc n) s s' h (more {b = b} a) = ap (λ (l : Bytes). b ∷ l) (take_same m n _ _ (le_of_suc-le-suc h) a)

pub agrees-drop : (n m : ℕ) (s s' : Bytes) → Agrees m s s' → Agrees (m - n) (drop n s) (drop n s')
agrees-drop zero m s s' a = let e : m - 0 ≡ m = omega arith in subst (λ (x : ℕ). Agrees x s s') (sym e) a
agrees-drop (suc n) zero s s' a = let e : 0 - suc n ≡ 0 = omega arith in subst (λ (x : ℕ). Agrees x (drop (suc n) s) (drop (suc n) s')) (sym e) done
agrees-drop (suc n) (suc m) s s' (more {s = u} {s' = u'} a) =
    let e : suc m - suc n ≡ m - n = omega arith in
    subst (λ (x : ℕ). Agrees x (drop n u) (drop n u')) (sym e) (agrees-drop n m u u' a)

name_rest-same : (m r : ℕ) (s s' : Bytes) → name_rest r s < m → Agrees m s s' → name_rest r s' ≡ name_rest r s
unfolding name_rest
name_rest-same zero r s s' h a = absurd (not-suc-le-zero h)
name_rest-same (suc m) zero s s' h a = refl
name_rest-same (suc m) (suc r) s s' h (more {b = b} {s = u} {s' = u'} a) = at (is_name_byte b) refl (λ g. name_rest-same m r u u' g a)
  where
    at : (t : Bool) → is_name_byte b ≡ t → (name_rest r u < m → name_rest r u' ≡ name_rest r u) → name_rest (suc r) (b ∷ u') ≡ name_rest (suc r) (b ∷ u)
    at true e f =
        name_rest-cons r b u' e ∙ ap suc (f (le_of_suc-le-suc (subst (λ (x : ℕ). suc x ≤ suc m) (name_rest-cons r b u e) h))) ∙ sym (name_rest-cons r b u e)
    at false e f = name_rest-off (suc r) b u' e ∙ sym (name_rest-off (suc r) b u e)

pub name_len-same : (m : ℕ) (s s' : Bytes) → name_len s < m → Agrees m s s' → name_len s' ≡ name_len s
name_len-same zero s s' h a = absurd (not-suc-le-zero h)
name_len-same (suc m) s s' h (more {b = b} {s = u} {s' = u'} a) = at (is_start b) refl
  where
    at : (t : Bool) → is_start b ≡ t → name_len (b ∷ u') ≡ name_len (b ∷ u)
    at true e =
        name_len-cons b u' e ∙ ap suc (name_rest-same m 31 u u' (le_of_suc-le-suc (subst (λ (x : ℕ). suc x ≤ suc m) (name_len-cons b u e) h)) a) ∙ sym (name_len-cons b u e)
    at false e = name_len-off b u' e ∙ sym (name_len-off b u e)

pub times_len-same : (m : ℕ) (s s' : Bytes) → times_len s < m → Agrees m s s' → times_len s' ≡ times_len s
times_len-same zero s s' h a = absurd (not-suc-le-zero h)
times_len-same (suc m) s s' h (more {b = b} {s = u} {s' = u'} a) = at (is_times b) refl (λ g. times_len-same m u u' g a)
  where
    at : (t : Bool) → is_times b ≡ t → (times_len u < m → times_len u' ≡ times_len u) → times_len (b ∷ u') ≡ times_len (b ∷ u)
    at true e f =
        times_len-cons b u' e ∙ ap suc (f (le_of_suc-le-suc (subst (λ (x : ℕ). suc x ≤ suc m) (times_len-cons b u e) h))) ∙ sym (times_len-cons b u e)
    at false e f = times_len-off b u' e ∙ sym (times_len-off b u e)

pub common-same : (w : Bytes) (m : ℕ) (s s' : Bytes) → common w s < m → Agrees m s s' → common w s' ≡ common w s
unfolding common
common-same [] m s s' h a = refl
common-same (w ∷ ws) zero s s' h a = absurd (not-suc-le-zero h)
common-same (w ∷ ws) (suc m) s s' h (more {b = b} {s = u} {s' = u'} a) = at (eqb w b) refl (λ g. common-same ws m u u' g a)
  where
    at : (t : Bool) → eqb w b ≡ t → (common ws u < m → common ws u' ≡ common ws u) → common (w ∷ ws) (b ∷ u') ≡ common (w ∷ ws) (b ∷ u)
    at true e f =
        common-cons w b ws u' e ∙ ap suc (f (le_of_suc-le-suc (subst (λ (x : ℕ). suc x ≤ suc m) (common-cons w b ws u e) h))) ∙ sym (common-cons w b ws u e)
    at false e f = common-off w b ws u' e ∙ sym (common-off w b ws u e)

-- ---- entities

pub found-apart : {A : Type 0} (n c k : ℕ) → ◌≡◌ {A = Result (ℕ × ℕ) ℕ} (Ok (n, c)) (Err k) → A
found-apart n c k e = let z : ◌≡◌ {A = ℕ} 0 1 = cc in absurd (omega arith)

pub miss-is : (j k : ℕ) → ◌≡◌ {A = Result (ℕ × ℕ) ℕ} (Err j) (Err k) → j ≡ k
miss-is j k e = cc

pub further-miss : (c : ℕ) (o : Result (ℕ × ℕ) ℕ) (k : ℕ) → further c o ≡ Err k → (j : ℕ) × (o ≡ Err j) × (max c j ≡ k)
unfolding further
further-miss c (Ok (n, b)) k e = found-apart n b k e
further-miss c (Err j) k e = (j, refl, miss-is (max c j) k e)

try-miss-same : (w : Bytes) (b m : ℕ) (s s' : Bytes) (o o' : Result (ℕ × ℕ) ℕ) (k : ℕ) → try w b s o ≡ Err k → k < m → Agrees m s s' →
    ((j : ℕ) → j ≤ k → o ≡ Err j → o' ≡ Err j) → try w b s' o' ≡ Err k
unfolding further
try-miss-same w b m s s' o o' k e h a f = at (eqb (common w s) (length w)) refl
  where
    at : (t : Bool) → eqb (common w s) (length w) ≡ t → try w b s' o' ≡ Err k
    at true q = found-apart (length w) b k (sym (try-hit w b s o (eqb-true (common w s) (length w) q)) ∙ e)
    at false q =
        let no = eqb-false (common w s) (length w) q in
        let x = further-miss (common w s) o k (sym (try-miss w b s o no) ∙ e) in
        let i : max (common w s) x.0 ≡ k = x.2 in
        let c : common w s < m = omega arith in
        let g : common w s' ≡ common w s = common-same w m s s' c a in
        let y : o' ≡ Err x.0 = f x.0 (omega arith) x.1 in
        try-miss w b s' o' (λ z. no (sym g ∙ z)) ∙ ap (λ (n : ℕ). further n o') g ∙ ap (further (common w s)) y ∙ ap Err i

pub entity-miss-same : (m : ℕ) (s s' : Bytes) (k : ℕ) → entity_at s ≡ Err k → k < m → Agrees m s s' → entity_at s' ≡ Err k
unfolding bytes entity_at
entity-miss-same m s s' k e h a =
    try-miss-same (bytes "lt;") (code "<") m s s' _ _ k e h a
    (λ k₁ h₁ e₁. try-miss-same (bytes "gt;") (code ">") m s s' _ _ k₁ e₁ (omega arith) a
    (λ k₂ h₂ e₂. try-miss-same (bytes "amp;") (code "&") m s s' _ _ k₂ e₂ (omega arith) a
    (λ k₃ h₃ e₃. try-miss-same (bytes "quot;") (code "\"") m s s' _ _ k₃ e₃ (omega arith) a
    (λ k₄ h₄ e₄. try-miss-same (bytes "apos;") (code "'") m s s' _ _ k₄ e₄ (omega arith) a (λ k₅ h₅ e₅. e₅)))))

begins-same : (w r s' : Bytes) (m : ℕ) → length w ≤ m → Agrees m (w ++ r) s' → s' ≡ w ++ drop (length w) s'
begins-same [] r s' m h a = refl
begins-same (w ∷ ws) r s' zero h a = absurd (not-suc-le-zero h)
begins-same (w ∷ ws) r s' (suc m) h (more {s' = u'} a) = ap (λ (l : Bytes). w ∷ l) (begins-same ws r u' m (le_of_suc-le-suc h) a)

-- a word that stands there whole stands in the other text too
pub word_same : (w : Bytes) (m : ℕ) (s s' : Bytes) → common w s ≡ length w → length w ≤ m → Agrees m s s' → common w s' ≡ length w
word_same w m s s' e h a =
    let x = begins-same w (drop (length w) s) s' m h (subst (λ (y : Bytes). Agrees m y s') (begins w s e) a) in
    ap (common w) x ∙ common-self w (drop (length w) s')

pub record Begun (w : Bytes) (b : ℕ) (s : Bytes) (n c : ℕ) : Type 0 where
  is : s ≡ w ++ drop (length w) s
  long : n ≡ length w
  means : c ≡ b

hit-is : (j b n c : ℕ) → ◌≡◌ {A = Result (ℕ × ℕ) ℕ} (Ok (j, b)) (Ok (n, c)) → (n ≡ j) × (c ≡ b)
hit-is j b n c e = let p = ok-inj e in (sym (ap (λ x. x.0) p), sym (ap (λ x. x.1) p))

try-cases : (w : Bytes) (b : ℕ) (s : Bytes) (o : Result (ℕ × ℕ) ℕ) (n c : ℕ) → try w b s o ≡ Ok (n, c) → Begun w b s n c ⊎ (o ≡ Ok (n, c))
try-cases w b s o n c e = at (eqb (common w s) (length w)) refl
  where
    at : (t : Bool) → eqb (common w s) (length w) ≡ t → Begun w b s n c ⊎ (o ≡ Ok (n, c))
    at true q =
        let g = eqb-true (common w s) (length w) q in
        let x = hit-is (length w) b n c (sym (try-hit w b s o g) ∙ e) in
        inl (record { is = begins w s g; long = x.0; means = x.1 })
    at false q = inr (further-hit (common w s) o n c (sym (try-miss w b s o (eqb-false (common w s) (length w) q)) ∙ e))

begun-same : (w : Bytes) (b m : ℕ) (s s' : Bytes) (n c : ℕ) → ((r : Bytes) → entity_at (w ++ r) ≡ Ok (length w, b)) → n ≤ m → Agrees m s s' →
    Begun w b s n c → entity_at s' ≡ Ok (n, c)
begun-same w b m s s' n c f h a g =
    let l : length w ≤ m = omega (arith, g.long) in
    let x = begins-same w (drop (length w) s) s' m l (subst (λ (y : Bytes). Agrees m y s') g.is a) in
    ap entity_at x ∙ f (drop (length w) s') ∙ ap (λ (y : ℕ). Ok (y, b)) (sym g.long) ∙ ap (λ (y : ℕ). Ok (n, y)) (sym g.means)

pub lt-hit : (r : Bytes) → entity_at (bytes "lt;" ++ r) ≡ Ok (3, code "<")
unfolding read_compute
lt-hit r = refl

pub gt-hit : (r : Bytes) → entity_at (bytes "gt;" ++ r) ≡ Ok (3, code ">")
unfolding read_compute
gt-hit r = refl

pub amp-hit : (r : Bytes) → entity_at (bytes "amp;" ++ r) ≡ Ok (4, code "&")
unfolding read_compute
amp-hit r = refl

pub quot-hit : (r : Bytes) → entity_at (bytes "quot;" ++ r) ≡ Ok (5, code "\"")
unfolding read_compute
quot-hit r = refl

pub apos-hit : (r : Bytes) → entity_at (bytes "apos;" ++ r) ≡ Ok (5, code "'")
unfolding read_compute
apos-hit r = refl

pub entity-hit-same : (m : ℕ) (s s' : Bytes) (n c : ℕ) → entity_at s ≡ Ok (n, c) → n ≤ m → Agrees m s s' → entity_at s' ≡ Ok (n, c)
unfolding bytes entity_at
entity-hit-same m s s' n c e h a =
    ⊎_elim (begun-same (bytes "lt;") (code "<") m s s' n c lt-hit h a)
    (λ e₁. ⊎_elim (begun-same (bytes "gt;") (code ">") m s s' n c gt-hit h a)
    (λ e₂. ⊎_elim (begun-same (bytes "amp;") (code "&") m s s' n c amp-hit h a)
    (λ e₃. ⊎_elim (begun-same (bytes "quot;") (code "\"") m s s' n c quot-hit h a)
    (λ e₄. ⊎_elim (begun-same (bytes "apos;") (code "'") m s s' n c apos-hit h a)
    (λ e₅. found-apart n c 0 (sym e₅))
    (try-cases (bytes "apos;") (code "'") s _ n c e₄))
    (try-cases (bytes "quot;") (code "\"") s _ n c e₃))
    (try-cases (bytes "amp;") (code "&") s _ n c e₂))
    (try-cases (bytes "gt;") (code ">") s _ n c e₁))
    (try-cases (bytes "lt;") (code "<") s _ n c e)

-- ---- runs of text

abbrev pub Enough : ℕ → Result (Option (ℕ × ℕ)) ℕ → Type 0
Enough m (Ok None) = 0 ≤ 0
Enough m (Ok (Some (k, r))) = k ≤ m
Enough m (Err k) = k ≤ m

-- a byte that is neither `<` nor `&` means the same before any text
byte-alone : (q b : ℕ) (s s' : Bytes) → (b ≡ code "<" → ⊥) → (b ≡ code "&" → ⊥) → text_byte q b s' ≡ text_byte q b s
unfolding text_byte
byte-alone q b s s' n a = rw (ne_eqb b (code "<") n, ne_eqb b (code "&") a, text_byte)

pub byte-same : (q b m : ℕ) (s s' : Bytes) → Agrees m s s' → Enough m (text_byte q b s) → text_byte q b s' ≡ text_byte q b s
byte-same q b m s s' a h = at (eqb b (code "<")) refl (eqb b (code "&")) refl (entity_at s) refl
  where
    at : (x : Bool) → eqb b (code "<") ≡ x → (y : Bool) → eqb b (code "&") ≡ y → (o : Result (ℕ × ℕ) ℕ) → entity_at s ≡ o → text_byte q b s' ≡ text_byte q b s
    at true x y z o e = byte-over q b s' (eqb-true b (code "<") x) ∙ sym (byte-over q b s (eqb-true b (code "<") x))
    at false x false z o e = byte-alone q b s s' (eqb-false b (code "<") x) (eqb-false b (code "&") z)
    at false x true z (Ok (k, c)) e =
        let p = eqb-false b (code "<") x in
        let r = eqb-true b (code "&") z in
        let g = byte-hit q b s k c p r e in
        let i : k ≤ m = subst (Enough m) g h in
        byte-hit q b s' k c p r (entity-hit-same m s s' k c e i a) ∙ sym g
    at false x true z (Err k) e =
        let p = eqb-false b (code "<") x in
        let r = eqb-true b (code "&") z in
        let g = byte-miss q b s k p r e in
        let i : 1 + k ≤ m = subst (Enough m) g h in
        byte-miss q b s' k p r (entity-miss-same m s s' k e (omega arith) a) ∙ sym g

pub scan-ge : (q k n : ℕ) (s : Bytes) → k ≤ length s → n + k ≤ place (scan q k n s)
unfolding scan
scan-ge q k n [] h = omega arith
scan-ge q (suc k) n (b ∷ s) h = omega (arith, scan-ge q k (n + 1) s (le_of_suc-le-suc h))
scan-ge q zero n (b ∷ s) h = at (text_byte q b s) (byte-reach q b s) (λ k r g. scan-ge r k (n + 1) s g)
  where
    at : (o : Result (Option (ℕ × ℕ)) ℕ) → Reach q (length s) o → ((k r : ℕ) → k ≤ length s → n + 1 + k ≤ place (scan r k (n + 1) s)) →
        n + 0 ≤ place (elim o [ Ok None ↦ Ok n | Ok (Some (k, r)) ↦ scan r k (n + 1) s | Err k ↦ Err (n + k) ])
    at (Ok None) g f = omega arith
    at (Ok (Some (k, r))) g f = omega (arith, f k r g.0)
    at (Err k) g f = omega arith

abbrev pub turn : ℕ → Bytes → Result (Option (ℕ × ℕ)) ℕ → Result ℕ ℕ
turn n s o = elim o [ Ok None ↦ Ok n | Ok (Some (k, r)) ↦ scan r k (n + 1) s | Err k ↦ Err (n + k) ]

pub scan-same : (m q k n : ℕ) (s s' : Bytes) → k ≤ length s → Agrees m s s' → place (scan q k n s) < n + m → scan q k n s' ≡ scan q k n s
unfolding scan
scan-same zero q k n s s' l a h = absurd (omega (arith, scan-ge q k n s l))
scan-same (suc m) q (suc k) n s s' l (more {s = u} {s' = u'} a) h = scan-same m q k (n + 1) u u' (le_of_suc-le-suc l) a (omega arith)
scan-same (suc m) q zero n s s' l (more {b = b} {s = u} {s' = u'} a) h = at (text_byte q b u) refl (λ k r g i. scan-same m r k (n + 1) u u' g a i)
  where
    at : (o : Result (Option (ℕ × ℕ)) ℕ) → text_byte q b u ≡ o → ((k r : ℕ) → k ≤ length u → place (scan r k (n + 1) u) < n + 1 + m → scan r k (n + 1) u' ≡ scan r k (n + 1) u) →
        turn n u' (text_byte q b u') ≡ turn n u (text_byte q b u)
    at (Ok None) e f =
        let g = byte-same q b m u u' a (subst (Enough m) (sym e) (omega arith)) in
        ap (turn n u') (g ∙ e) ∙ sym (ap (turn n u) e)
    at (Ok (Some (k, r))) e f =
        let i = subst (Reach q (length u)) e (byte-reach q b u) in
        let p : place (scan r k (n + 1) u) < n + suc m = subst (λ (o : Result (Option (ℕ × ℕ)) ℕ). place (turn n u o) < n + suc m) e h in
        let j : k ≤ m = omega (arith, scan-ge r k (n + 1) u i.0) in
        let g = byte-same q b m u u' a (subst (Enough m) (sym e) j) in
        ap (turn n u') (g ∙ e) ∙ f k r i.0 (omega arith) ∙ sym (ap (turn n u) e)
    at (Err k) e f =
        let p : n + k < n + suc m = subst (λ (o : Result (Option (ℕ × ℕ)) ℕ). place (turn n u o) < n + suc m) e h in
        let j : k ≤ m = omega arith in
        let g = byte-same q b m u u' a (subst (Enough m) (sym e) j) in
        ap (turn n u') (g ∙ e) ∙ sym (ap (turn n u) e)
