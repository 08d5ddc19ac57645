-- Laws of runs of text: what is meant first, and what comes after; bytes that are written as they stand.
use Rattle.std.specs.Prelude.{ℕ, zero, suc, ◌+◌, ◌*◌, ◌-◌, ◌<◌, ◌≤◌, ◌≡◌, refl, Bool, true, false, ◌||◌, [], ◌∷◌, ◌++◌, eqb, length, take, drop, get_or, Result, Ok, Err}
use Prim.Native.Char.{code}
use Rattle.std.proofs.Common.{ap, ap₂, sym, ◌∙◌, subst, append-nil, add-one, add-zero, arith, drop-cons, drop-drop, length-take-le, get_or-take, get_or-drop, take-take, eq-eqb, ne_eqb, eqb-true}
use Rattle.std.proofs.Math.Seq.{slice, length-slice, slice_empty}
use Rattle.std.proofs.lemmas.Bool.{eqb-false}
use Rattle.xml.specs.Bytes.{Bytes, bytes, any, among}
use Rattle.xml.specs.Forest.{escape}
use Rattle.xml.specs.Read.{entity_at, unescape}
use Rattle.xml.specs.GrammarLaws.{unescape-plain, unescape-joined, unescape-turned}
use Rattle.xml.specs.ScanLaws.{found_len, entity-fits}
use Rattle.xml.specs.Signs.{spelt, is_marked, plain_len, sign_found, sign_return, sign_at}
use Rattle.xml.specs.TapeLaws.{slice-part, length-escape, length-unescape}
use Rattle.xml.specs.Truth.{or_left, or_right, by-test}
use Rattle.xml.specs.declared.text.Sign.{Sign}

-- ---- parts of a text
-- the byte at i, and the part after it
pub slice_first : (i e : ℕ) (l : Bytes) → i < e → e ≤ length l → slice i e l ≡ get_or l i 0 ∷ slice (i + 1) e l
slice_first i e l h k =
    let n : i < length (take e l) = rw (length-take-le e l k) h in
    rw (add-one, drop-cons (take e l) i 0 n, get_or-take e l i 0 h) refl

pub slice-skip : (i e n : ℕ) (l : Bytes) → drop n (slice i e l) ≡ slice (i + n) e l
slice-skip i e n l = drop-drop n i (take e l)

-- ---- what is meant
pub unescape-skip : (k : ℕ) (s : Bytes) → unescape k s ≡ unescape 0 (drop k s)
unfolding unescape
unescape-skip zero s = refl
unescape-skip (suc k) [] = refl
unescape-skip (suc k) (b ∷ s) = unescape-skip k s

pub unescape-hit : (b n c : ℕ) (s : Bytes) → b ≡ code "&" → entity_at s ≡ Ok (n, c) → unescape 0 (b ∷ s) ≡ c ∷ unescape 0 (drop n s)
unfolding unescape
unescape-hit b n c s e h = rw (eq-eqb b (code "&") e, h, unescape) (ap (λ (x : Bytes). c ∷ x) (unescape-skip n s))

pub unescape-miss : (b n : ℕ) (s : Bytes) → b ≡ code "&" → entity_at s ≡ Err n → unescape 0 (b ∷ s) ≡ b ∷ unescape 0 s
unfolding unescape
unescape-miss b n s e h = rw (eq-eqb b (code "&") e, h, unescape)

pub sign-plain : (i b : ℕ) (s : Bytes) → (b ≡ code "&" → ⊥) → (b ≡ code "\r" → ⊥) → sign_at i (b ∷ s) ≡ record { byte = b; next = i + 1 }
unfolding sign_at
sign-plain i b s n m = rw (ne_eqb b (code "&") n, ne_eqb b (code "\r") m, sign_at)

pub sign-return : (i b : ℕ) (s : Bytes) → b ≡ code "\r" → sign_at i (b ∷ s) ≡ sign_return i s
unfolding sign_at
sign-return i b s e = rw (ne_eqb b (code "&") (λ x. eqb-false (code "\r") (code "&") refl (sym e ∙ x)), eq-eqb b (code "\r") e, sign_at)

-- what a CR at i means, by the byte after it, where the run ends at e
module _ (i e : ℕ) (src : Bytes) where
  after-return : get_or (slice (i + 1) e src) 0 0 ≡ get_or (take e src) (i + 1) 0
  after-return = get_or-drop (i + 1) (take e src) 0 0 ∙ ap (λ (n : ℕ). get_or (take e src) n 0) (add-zero (i + 1))

  pub return-joined : get_or (take e src) (i + 1) 0 ≡ code "\n" → sign_return i (slice (i + 1) e src) ≡ record { byte = code "\n"; next = i + 2 }
  return-joined h = rw (eq-eqb (get_or (slice (i + 1) e src) 0 0) (code "\n") (after-return ∙ h))

  pub return-turned : (get_or (take e src) (i + 1) 0 ≡ code "\n" → ⊥) → sign_return i (slice (i + 1) e src) ≡ record { byte = code "\n"; next = i + 1 }
  return-turned h = rw (ne_eqb (get_or (slice (i + 1) e src) 0 0) (code "\n") (λ x. h (sym after-return ∙ x)))

pub sign-amp : (i b : ℕ) (s : Bytes) → b ≡ code "&" → sign_at i (b ∷ s) ≡ sign_found i b (entity_at s)
unfolding sign_at
sign-amp i b s e = rw (eq-eqb b (code "&") e, sign_at)

-- a run that is not over: what is meant first, and the run after it
pub record Meant (src : Bytes) (i e : ℕ) (g : Sign) : Type 0 where
  pub means : unescape 0 (slice i e src) ≡ g.byte ∷ unescape 0 (slice g.next e src)
  pub forward : i < g.next
  pub inside : g.next ≤ e

module _ (src : Bytes) (i e : ℕ) (h : i < e) (k : e ≤ length src) where
  meant-plain : (get_or src i 0 ≡ code "&" → ⊥) → (get_or src i 0 ≡ code "\r" → ⊥) → Meant src i e (record { byte = get_or src i 0; next = i + 1 })
  meant-plain n m =
      record {
        means = rw (slice_first i e src h k) (unescape-plain (get_or src i 0) (slice (i + 1) e src) n m);
        forward = omega arith;
        inside = omega arith;
      }

  -- CR LF, and a lone CR
  meant-joined : get_or src i 0 ≡ code "\r" → get_or (slice (i + 1) e src) 0 0 ≡ code "\n" → Meant src i e (record { byte = code "\n"; next = i + 2 })
  meant-joined a b =
      let l : i + 1 < e = some_left (slice (i + 1) e src) refl b in
      let f = slice_first (i + 1) e src l k in
      let c : get_or src (i + 1) 0 ≡ code "\n" = sym (ap (λ (s : Bytes). get_or s 0 0) f) ∙ b in
      let z : i + 1 + 1 ≡ i + 2 = omega arith in
      record {
        means = ap (unescape 0) (slice_first i e src h k) ∙ unescape-joined (get_or src i 0) (slice (i + 1) e src) a b
            ∙ ap (unescape 0) f ∙ unescape-plain (get_or src (i + 1) 0) (slice (i + 1 + 1) e src) (λ x. eqb-false (code "\n") (code "&") refl (sym c ∙ x)) (λ x. eqb-false (code "\n") (code "\r") refl (sym c ∙ x))
            ∙ ap₂ (λ (x n : ℕ). x ∷ unescape 0 (slice n e src)) c z;
        forward = omega arith;
        inside = omega arith;
      }
    where
      some_left : (s : Bytes) → slice (i + 1) e src ≡ s → get_or s 0 0 ≡ code "\n" → i + 1 < e
      some_left [] x y = absurd (eqb-false 0 (code "\n") refl y)
      some_left (b ∷ s) x y = omega (arith, length-slice (i + 1) e src k, ap length x)

  meant-turned : get_or src i 0 ≡ code "\r" → (get_or (slice (i + 1) e src) 0 0 ≡ code "\n" → ⊥) → Meant src i e (record { byte = code "\n"; next = i + 1 })
  meant-turned a b =
      record {
        means = rw (slice_first i e src h k) (unescape-turned (get_or src i 0) (slice (i + 1) e src) a b);
        forward = omega arith;
        inside = omega arith;
      }

  meant-return : get_or src i 0 ≡ code "\r" → Meant src i e (sign_return i (slice (i + 1) e src))
  meant-return a =
      by-test (eqb (get_or (slice (i + 1) e src) 0 0) (code "\n")) (λ t. rw t (meant-joined a (eqb-true _ (code "\n") t))) (λ t. rw t (meant-turned a (eqb-false _ (code "\n") t)))

  meant-found : get_or src i 0 ≡ code "&" → (o : Result (ℕ × ℕ) ℕ) → entity_at (slice (i + 1) e src) ≡ o → found_len o ≤ length (slice (i + 1) e src)
      → Meant src i e (sign_found i (get_or src i 0) o)
  meant-found a (Ok (n, c)) x l =
      record {
        means = rw (slice_first i e src h k) (unescape-hit (get_or src i 0) n c (slice (i + 1) e src) a x ∙ ap (λ (y : Bytes). c ∷ unescape 0 y) (slice-skip (i + 1) e n src));
        forward = omega arith;
        inside = omega (arith, length-slice (i + 1) e src k);
      }
  meant-found a (Err n) x l =
      record {
        means = rw (slice_first i e src h k) (unescape-miss (get_or src i 0) n (slice (i + 1) e src) a x);
        forward = omega arith;
        inside = omega arith;
      }

  pub sign-here : (get_or src i 0 ≡ code "&" → ⊥) → (get_or src i 0 ≡ code "\r" → ⊥) → sign_at i (slice i e src) ≡ record { byte = get_or src i 0; next = i + 1 }
  sign-here n m = rw (slice_first i e src h k) (sign-plain i (get_or src i 0) (slice (i + 1) e src) n m)

  pub sign_line : get_or src i 0 ≡ code "\r" → sign_at i (slice i e src) ≡ sign_return i (slice (i + 1) e src)
  sign_line a = rw (slice_first i e src h k) (sign-return i (get_or src i 0) (slice (i + 1) e src) a)

  pub sign-found : get_or src i 0 ≡ code "&" → (o : Result (ℕ × ℕ) ℕ) → entity_at (slice (i + 1) e src) ≡ o → sign_at i (slice i e src) ≡ sign_found i (get_or src i 0) o
  sign-found a o x = rw (slice_first i e src h k) (sign-amp i (get_or src i 0) (slice (i + 1) e src) a ∙ ap (sign_found i (get_or src i 0)) x)

  pub found_inside : (n c : ℕ) → entity_at (slice (i + 1) e src) ≡ Ok (n, c) → i + 1 + n ≤ e
  found_inside n c x =
      let l : n ≤ length (slice (i + 1) e src) = subst (λ (o : Result (ℕ × ℕ) ℕ). found_len o ≤ length (slice (i + 1) e src)) x (entity-fits (slice (i + 1) e src)) in
      omega (arith, length-slice (i + 1) e src k)

  pub sign-means : Meant src i e (sign_at i (slice i e src))
  sign-means =
      by-test (eqb (get_or src i 0) (code "&"))
      (λ t.
      let a = eqb-true (get_or src i 0) (code "&") t in
      let o = entity_at (slice (i + 1) e src) in
      rw (sign-found a o refl) (meant-found a o refl (entity-fits (slice (i + 1) e src))))
      (λ t. by-test (eqb (get_or src i 0) (code "\r"))
      (λ u. let a = eqb-true (get_or src i 0) (code "\r") u in rw (sign_line a) (meant-return a))
      (λ u. let a = eqb-false (get_or src i 0) (code "&") t in let b = eqb-false (get_or src i 0) (code "\r") u in rw (sign-here a b) (meant-plain a b)))

-- ---- what is written
pub escape-plain : (b : ℕ) (s : Bytes) → (b ≡ code "&" → ⊥) → (b ≡ code "<" → ⊥) → (b ≡ code ">" → ⊥) → escape (b ∷ s) ≡ b ∷ escape s
unfolding escape
escape-plain b s x y z = rw (ne_eqb b (code "&") x, ne_eqb b (code "<") y, ne_eqb b (code ">") z, escape)

pub escape-cons : (b : ℕ) (s : Bytes) → escape (b ∷ s) ≡ escape (b ∷ []) ++ escape s
unfolding escape bytes
escape-cons b s = at (eqb b (code "&")) (eqb b (code "<")) (eqb b (code ">"))
  where
    at : (x y z : Bool) →
        elim x [
          | true ↦ bytes "&amp;" ++ escape s
          | false ↦ elim y [ true ↦ bytes "&lt;" ++ escape s | false ↦ elim z [ true ↦ bytes "&gt;" ++ escape s | false ↦ b ∷ escape s ] ]
        ]
        ≡
        elim x [
          | true ↦ bytes "&amp;" ++ []
          | false ↦ elim y [ true ↦ bytes "&lt;" ++ [] | false ↦ elim z [ true ↦ bytes "&gt;" ++ [] | false ↦ b ∷ [] ] ]
        ] ++ escape s
    at true y z = refl
    at false true z = refl
    at false false true = refl
    at false false false = refl

marked_by : (l a g : Bool) → (a || l || g) ≡ (l || (a || false) || g)
marked_by true true g = refl
marked_by true false g = refl
marked_by false true g = refl
marked_by false false g = refl

pub marked-is : (b : ℕ) → is_marked b ≡ (among "<&" b || eqb b (code ">") || eqb b (code "\r"))
unfolding is_marked bytes any among
marked-is b = ap (λ (t : Bool). t || eqb b (code "\r")) (marked_by (eqb b (code "<")) (eqb b (code "&")) (eqb b (code ">")))

pub record Plain (b : ℕ) : Type 0 where
  pub no-amp : b ≡ code "&" → ⊥
  pub no_lt : b ≡ code "<" → ⊥
  pub no-gt : b ≡ code ">" → ⊥

pub not-marked : (b : ℕ) → is_marked b ≡ false → Plain b
unfolding is_marked
not-marked b e =
    let d = or_left (eqb b (code "&") || eqb b (code "<") || eqb b (code ">")) (eqb b (code "\r")) e in
    let l = or_left (eqb b (code "&") || eqb b (code "<")) (eqb b (code ">")) d in
    record {
      no-amp = eqb-false b (code "&") (or_left (eqb b (code "&")) (eqb b (code "<")) l);
      no_lt = eqb-false b (code "<") (or_right (eqb b (code "&")) (eqb b (code "<")) l);
      no-gt = eqb-false b (code ">") (or_right (eqb b (code "&") || eqb b (code "<")) (eqb b (code ">")) d);
    }

pub not-return : (b : ℕ) → is_marked b ≡ false → b ≡ code "\r" → ⊥
unfolding is_marked
not-return b e = eqb-false b (code "\r") (or_right (eqb b (code "&") || eqb b (code "<") || eqb b (code ">")) (eqb b (code "\r")) e)

pub plain-on : (b : ℕ) (s : Bytes) → is_marked b ≡ false → plain_len (b ∷ s) ≡ suc (plain_len s)
unfolding plain_len
plain-on b s e = rw (e, plain_len)

pub plain-off : (b : ℕ) (s : Bytes) → is_marked b ≡ true → plain_len (b ∷ s) ≡ 0
unfolding plain_len
plain-off b s e = rw (e, plain_len)

pub plain_fits : (s : Bytes) → plain_len s ≤ length s
unfolding plain_len
plain_fits [] = omega arith
plain_fits (b ∷ s) = by-test (is_marked b) (λ e. rw (plain-off b s e) (omega arith)) (λ e. rw (plain-on b s e) (omega (arith, plain_fits s)))

-- the bytes that stand for themselves and are written as they stand, and the rest
pub means-plain : (s : Bytes) → unescape 0 s ≡ take (plain_len s) s ++ unescape 0 (drop (plain_len s) s)
unfolding plain_len unescape
means-plain [] = refl
means-plain (b ∷ s) =
    by-test (is_marked b) (λ e. rw (plain-off b s e) refl)
    (λ e. rw (plain-on b s e) (unescape-plain b s (not-marked b e).no-amp (not-return b e) ∙ ap (λ (x : Bytes). b ∷ x) (means-plain s)))

pub spelt-plain : (s : Bytes) → spelt s ≡ take (plain_len s) s ++ spelt (drop (plain_len s) s)
unfolding plain_len unescape escape
spelt-plain [] = refl
spelt-plain (b ∷ s) =
    by-test (is_marked b) (λ e. rw (plain-off b s e) refl)
    (λ e. let p = not-marked b e in
    rw (plain-on b s e)
    (ap escape (unescape-plain b s p.no-amp (not-return b e)) ∙ escape-plain b (unescape 0 s) p.no-amp p.no_lt p.no-gt ∙ ap (λ (x : Bytes). b ∷ x) (spelt-plain s)))

-- how far bytes are written as they stand, at a place of a text
pub plain_over : (src : Bytes) (e : ℕ) → plain_len (slice e e src) ≡ 0
unfolding plain_len
plain_over src e = rw (slice_empty e src)

module _ (src : Bytes) (j e : ℕ) (h : j < e) (k : e ≤ length src) where
  pub plain-stop : is_marked (get_or src j 0) ≡ true → plain_len (slice j e src) ≡ 0
  plain-stop t = rw (slice_first j e src h k) (plain-off (get_or src j 0) (slice (j + 1) e src) t)

  pub plain_step : is_marked (get_or src j 0) ≡ false → plain_len (slice j e src) ≡ suc (plain_len (slice (j + 1) e src))
  plain_step p = rw (slice_first j e src h k) (plain-on (get_or src j 0) (slice (j + 1) e src) p)

-- ---- one byte of text
pub escape-one : (b : ℕ) → Plain b → escape (b ∷ []) ≡ b ∷ []
unfolding escape
escape-one b p = escape-plain b [] p.no-amp p.no_lt p.no-gt

pub escape-amp : (b : ℕ) → b ≡ code "&" → escape (b ∷ []) ≡ bytes "&amp;"
unfolding escape bytes
escape-amp b e = rw e

pub escape-lt : (b : ℕ) → b ≡ code "<" → escape (b ∷ []) ≡ bytes "&lt;"
unfolding escape bytes
escape-lt b e = rw e

pub escape-gt : (b : ℕ) → b ≡ code ">" → escape (b ∷ []) ≡ bytes "&gt;"
unfolding escape bytes
escape-gt b e = rw e

-- ---- a run that is read or written on its way: the bytes i to j stand for themselves
pub record Running (src : Bytes) (i e j : ℕ) : Type 0 where
  pub forward : i ≤ j
  pub inside : j ≤ e
  pub means : unescape 0 (slice i e src) ≡ slice i j src ++ unescape 0 (slice j e src)
  pub written : spelt (slice i e src) ≡ slice i j src ++ spelt (slice j e src)

pub running : (src : Bytes) (i e j : ℕ) → i ≤ e → e ≤ length src → j ≡ i + plain_len (slice i e src) → Running src i e j
running src i e j h k d =
    let s = slice i e src in
    let n = plain_len s in
    let l : n ≤ e - i = rw (length-slice i e src k) at (plain_fits s) in
    let x : take n s ≡ slice i j src = sym (slice-part i n (take e src)) ∙ ap (drop i) (take-take (i + n) e src (omega arith)) ∙ ap (λ (m : ℕ). slice i m src) (sym d) in
    let y : drop n s ≡ slice j e src = slice-skip i e n src ∙ ap (λ (m : ℕ). slice m e src) (sym d) in
    record {
      forward = omega arith;
      inside = omega arith;
      means = means-plain s ∙ ap₂ (λ (u v : Bytes). u ++ unescape 0 v) x y;
      written = spelt-plain s ∙ ap₂ (λ (u v : Bytes). u ++ spelt v) x y;
    }

pub spelt-sign : {src : Bytes} {i e : ℕ} {g : Sign} → Meant src i e g → spelt (slice i e src) ≡ escape (g.byte ∷ []) ++ spelt (slice g.next e src)
spelt-sign {src} {i} {e} {g} m = ap escape m.means ∙ escape-cons g.byte (unescape 0 (slice g.next e src))

pub length-spelt : (s : Bytes) → length (spelt s) ≤ 5 * length s
length-spelt s = omega (arith, length-escape (unescape 0 s), length-unescape 0 s)

pub spelt-over : (src : Bytes) (e : ℕ) → spelt (slice e e src) ≡ []
unfolding unescape escape
spelt-over src e = rw (slice_empty e src)

-- a run with no marked byte is written as it stands
pub plain-length : (src : Bytes) (a e : ℕ) → a ≤ e → e ≤ length src → e ≡ a + plain_len (slice a e src) → e - a ≡ length (spelt (slice a e src))
plain-length src a e h k d =
    rw ((running src a e e h k d).written, spelt-over src e, append-nil) (sym (length-slice a e src k))
