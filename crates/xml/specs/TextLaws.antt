-- Laws of `text_byte` and `scan`.
use Rattle.std.specs.Prelude.{◌≡◌, refl, Bool, false, ◌&&◌, [], ◌∷◌, ℕ, zero, suc, ◌+◌, ◌-◌, ◌<◌, ◌≤◌, eqb, leb, length, drop, get_or, Result, Ok, Err, Option, Some, None}
use Rattle.std.proofs.Common.{ap, ◌∙◌, add-one, add-zero, le_of_suc-le-suc, not-suc-le-zero, arith, drop_of_length-le, length-drop, drop-cons, drop-drop}
use Rattle.std.proofs.Math.Bool.{true}
use Prim.Native.Char.{code}
use borrow.Author.Tests.{eq-eqb, ne_eqb, le-leb, lt-leb}
use Rattle.xml.specs.Bytes.{Bytes, is_legal, bytes_compute}
use Rattle.xml.specs.Read.{entity_at, text_byte, scan}
use Rattle.xml.specs.ScanLaws.{found_len, entity-fits}

pub legal-greater : (b : ℕ) → b ≡ code ">" → is_legal b ≡ true
unfolding bytes_compute
legal-greater b e = rw e

module _ (q b : ℕ) (s : Bytes) where
  pub byte-over : b ≡ code "<" → text_byte q b s ≡ Ok None
  unfolding text_byte
  byte-over e = rw (eq-eqb b (code "<") e, text_byte)

  pub byte-hit : (k d : ℕ) → (b ≡ code "<" → ⊥) → b ≡ code "&" → entity_at s ≡ Ok (k, d) → text_byte q b s ≡ Ok (Some (k, 0))
  unfolding text_byte
  byte-hit k d n e h = rw (ne_eqb b (code "<") n, eq-eqb b (code "&") e, h, text_byte)

  pub byte-miss : (k : ℕ) → (b ≡ code "<" → ⊥) → b ≡ code "&" → entity_at s ≡ Err k → text_byte q b s ≡ Err (1 + k)
  unfolding text_byte
  byte-miss k n e h = rw (ne_eqb b (code "<") n, eq-eqb b (code "&") e, h, text_byte)

  pub byte-bracket : (b ≡ code "<" → ⊥) → (b ≡ code "&" → ⊥) → b ≡ code "]" → text_byte q b s ≡ Ok (Some (0, q + 1))
  unfolding text_byte
  byte-bracket n a e = rw (ne_eqb b (code "<") n, ne_eqb b (code "&") a, eq-eqb b (code "]") e, text_byte)

  pub byte-closed : (b ≡ code "<" → ⊥) → (b ≡ code "&" → ⊥) → (b ≡ code "]" → ⊥) → b ≡ code ">" → 2 ≤ q → text_byte q b s ≡ Err 0
  unfolding text_byte
  byte-closed n a d e h = rw (ne_eqb b (code "<") n, ne_eqb b (code "&") a, ne_eqb b (code "]") d, eq-eqb b (code ">") e, le-leb 2 q h, text_byte)

  pub byte-greater : (b ≡ code "<" → ⊥) → (b ≡ code "&" → ⊥) → (b ≡ code "]" → ⊥) → b ≡ code ">" → q < 2 → text_byte q b s ≡ Ok (Some (0, 0))
  unfolding text_byte
  byte-greater n a d e h =
      let l : is_legal b ≡ true = legal-greater b e in
      rw (ne_eqb b (code "<") n, ne_eqb b (code "&") a, ne_eqb b (code "]") d, eq-eqb b (code ">") e, lt-leb 2 q h, l, text_byte)

  pub byte-other : (t : Bool) → (b ≡ code "<" → ⊥) → (b ≡ code "&" → ⊥) → (b ≡ code "]" → ⊥) → (b ≡ code ">" → ⊥) → is_legal b ≡ t →
      text_byte q b s ≡ elim t [ true ↦ Ok (Some (0, 0)) | false ↦ Err 0 ]
  unfolding text_byte
  byte-other t n a d e l = rw (ne_eqb b (code "<") n, ne_eqb b (code "&") a, ne_eqb b (code "]") d, ne_eqb b (code ">") e, l, text_byte)

-- how far what a byte says reaches
abbrev pub Reach : ℕ → ℕ → Result (Option (ℕ × ℕ)) ℕ → Type 0
Reach q m (Ok None) = 0 ≤ m
Reach q m (Ok (Some (k, r))) = (k ≤ m) × (r ≤ q + 1)
Reach q m (Err k) = k ≤ 1 + m

pub pick : (P : Result (Option (ℕ × ℕ)) ℕ → Type 0) (t : Bool) (x y : Result (Option (ℕ × ℕ)) ℕ) → P x → P y → P (elim t [ true ↦ x | false ↦ y ])
pick P true x y h g = h
pick P false x y h g = g

pub found : (q : ℕ) (s : Bytes) (o : Result (ℕ × ℕ) ℕ) → found_len o ≤ length s → Reach q (length s) (elim o [ Ok (k, c) ↦ Ok (Some (k, 0)) | Err k ↦ Err (1 + k) ])
found q s (Ok (k, c)) h = (h, omega arith)
found q s (Err k) h = omega arith

pub byte-reach : (q b : ℕ) (s : Bytes) → Reach q (length s) (text_byte q b s)
unfolding text_byte
byte-reach q b s =
    let P : Result (Option (ℕ × ℕ)) ℕ → Type 0 = Reach q (length s) in
    pick P (eqb b (code "<")) (Ok None) _ (omega arith)
    (pick P (eqb b (code "&")) _ _ (found q s (entity_at s) (entity-fits s))
    (pick P (eqb b (code "]")) _ _ (omega arith)
    (pick P (eqb b (code ">") && leb 2 q) _ _ (omega arith) (pick P (is_legal b) _ _ (omega arith) (omega arith)))))

pub scan-skip : (q k n : ℕ) (s : Bytes) → k ≤ length s → scan q k n s ≡ scan q 0 (n + k) (drop k s)
unfolding scan
scan-skip q zero n s h = rw add-zero
scan-skip q (suc k) n [] h = absurd (not-suc-le-zero h)
scan-skip q (suc k) n (b ∷ s) h = scan-skip q k (n + 1) s (le_of_suc-le-suc h) ∙ ap (λ (m : ℕ). scan q 0 m (drop k s)) (omega arith)

pub scan-cons : (q n b : ℕ) (s : Bytes) → scan q 0 n (b ∷ s) ≡ elim (text_byte q b s) [ Ok None ↦ Ok n | Ok (Some (k, r)) ↦ scan r k (n + 1) s | Err k ↦ Err (n + k) ]
unfolding scan
scan-cons q n b s = refl

module _ (src : Bytes) (q n j : ℕ) where
  abbrev pub Here : Result (Option (ℕ × ℕ)) ℕ
  Here = text_byte q (get_or src j 0) (drop (j + 1) src)

  pub at-cons : j < length src → drop j src ≡ get_or src j 0 ∷ drop (j + 1) src
  at-cons h = rw (add-one, drop-cons src j 0)

  pub scan-end : length src ≤ j → scan q 0 n (drop j src) ≡ Ok n
  unfolding scan
  scan-end h = rw (drop_of_length-le src)

  pub scan-over : j < length src → Here ≡ Ok None → scan q 0 n (drop j src) ≡ Ok n
  scan-over h e = rw (at-cons h, scan-cons, e)

  pub scan-off : (k : ℕ) → j < length src → Here ≡ Err k → scan q 0 n (drop j src) ≡ Err (n + k)
  scan-off k h e = rw (at-cons h, scan-cons, e)

  pub scan-on : (k r : ℕ) → j < length src → Here ≡ Ok (Some (k, r)) → k ≤ length (drop (j + 1) src) →
      scan q 0 n (drop j src) ≡ scan r 0 (n + 1 + k) (drop (j + 1 + k) src)
  scan-on k r h e g = rw (at-cons h, scan-cons, e) (scan-skip r k (n + 1) (drop (j + 1) src) g ∙ rw drop-drop)

  pub here-reach : Reach q (length src - (j + 1)) Here
  here-reach = rw (← length-drop (j + 1) src) (byte-reach q (get_or src j 0) (drop (j + 1) src))

-- where it ends, or stops
abbrev pub place : Result ℕ ℕ → ℕ
place (Ok m) = m
place (Err m) = m

-- where a run ends: between lo and hi; a wrong byte stands at hi at most
abbrev pub RunIn : ℕ → ℕ → Result ℕ ℕ → Type 0
RunIn lo hi (Ok m) = (lo ≤ m) × (m ≤ hi)
RunIn lo hi (Err m) = m ≤ hi

pub run_wider : (lo hi lo' hi' : ℕ) (r : Result ℕ ℕ) → lo' ≤ lo → hi ≤ hi' → RunIn lo hi r → RunIn lo' hi' r
run_wider lo hi lo' hi' (Ok m) a b h = omega arith
run_wider lo hi lo' hi' (Err m) a b h = omega arith

pub scan-range : (q k n : ℕ) (s : Bytes) → k ≤ length s → RunIn n (n + length s) (scan q k n s)
unfolding scan
scan-range q k n [] h = omega arith
scan-range q (suc k) n (b ∷ s) h =
    run_wider (n + 1) (n + 1 + length s) n (n + suc (length s)) (scan q k (n + 1) s) (omega arith) (omega arith)
    (scan-range q k (n + 1) s (le_of_suc-le-suc h))
scan-range q zero n (b ∷ s) h = turn (text_byte q b s) (byte-reach q b s) (λ k r g. scan-range r k (n + 1) s g)
  where
    turn : (o : Result (Option (ℕ × ℕ)) ℕ) → Reach q (length s) o → ((k r : ℕ) → k ≤ length s → RunIn (n + 1) (n + 1 + length s) (scan r k (n + 1) s)) →
        RunIn n (n + suc (length s)) (elim o [ Ok None ↦ Ok n | Ok (Some (k, r)) ↦ scan r k (n + 1) s | Err k ↦ Err (n + k) ])
    turn (Ok None) g f = omega arith
    turn (Ok (Some (k, r))) g f = run_wider (n + 1) (n + 1 + length s) n (n + suc (length s)) (scan r k (n + 1) s) (omega arith) (omega arith) (f k r g.0)
    turn (Err k) g f = omega arith

abbrev pub NotOver : Result (Option (ℕ × ℕ)) ℕ → Type 0
NotOver (Ok None) = ⊥
NotOver (Ok (Some (k, r))) = 0 ≤ 0
NotOver (Err k) = 0 ≤ 0

pub found-on : (o : Result (ℕ × ℕ) ℕ) → NotOver (elim o [ Ok (k, c) ↦ Ok (Some (k, 0)) | Err k ↦ Err (1 + k) ])
found-on (Ok (k, c)) = omega arith
found-on (Err k) = omega arith

pub byte-on : (q b : ℕ) (s : Bytes) → (b ≡ code "<" → ⊥) → NotOver (text_byte q b s)
unfolding text_byte
byte-on q b s n =
    rw (ne_eqb b (code "<") n, text_byte)
    (pick NotOver (eqb b (code "&")) _ _ (found-on (entity_at s))
    (pick NotOver (eqb b (code "]")) _ _ (omega arith)
    (pick NotOver (eqb b (code ">") && leb 2 q) _ _ (omega arith) (pick NotOver (is_legal b) _ _ (omega arith) (omega arith)))))

pub scan-first : (b : ℕ) (s : Bytes) → (b ≡ code "<" → ⊥) → RunIn 1 (1 + length s) (scan 0 0 0 (b ∷ s))
unfolding scan
scan-first b s n = turn (text_byte 0 b s) (byte-reach 0 b s) (byte-on 0 b s n)
  where
    turn : (o : Result (Option (ℕ × ℕ)) ℕ) → Reach 0 (length s) o → NotOver o →
        RunIn 1 (1 + length s) (elim o [ Ok None ↦ Ok 0 | Ok (Some (k, r)) ↦ scan r k (0 + 1) s | Err k ↦ Err (0 + k) ])
    turn (Ok None) g f = absurd f
    turn (Ok (Some (k, r))) g f = run_wider (0 + 1) (0 + 1 + length s) 1 (1 + length s) (scan r k (0 + 1) s) (omega arith) (omega arith) (scan-range r k (0 + 1) s g.0)
    turn (Err k) g f = omega arith
