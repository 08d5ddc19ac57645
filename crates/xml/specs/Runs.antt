-- A run of text is scanned to its end, and what is scanned to its end is a run.
use Rattle.std.specs.Prelude.{ℕ, zero, suc, ◌+◌, ◌≤◌, ◌<◌, ◌≡◌, refl, true, [], ◌∷◌, ◌++◌, eqb, leb, length, drop, get_or, Result, Ok, Err, Option, Some, None}
use Prim.Native.Char.{code}
use Rattle.std.proofs.Common.{add-zero, not-suc-le-zero, le_of_suc-le-suc, arith, ap, sym, ◌∙◌, subst, append_assoc, eqb-true, leb-true, leb-false, length-append}
use Rattle.std.proofs.lemmas.Bool.{eqb-false}
use Rattle.xml.specs.Bytes.{Bytes, is_character, bytes_compute}
use Rattle.xml.specs.Grammar.{Entity, lt, gt, amp, quot, apos, Characters, none, kept, joined, turned, entity}
use Rattle.xml.specs.Read.{scan, text_byte, read_compute}
use Rattle.xml.specs.Truth.{by-test}
use Rattle.xml.specs.GrammarLaws.{character-not, lt-markup, amp-markup, character-legal}
use Rattle.xml.specs.Clear.{Clear, clear-nil, clear-entity, clear-bracket, clear-other, clear-closed, entity-clear, bracket-clear, other-clear}
use Rattle.xml.specs.ScanLaws.{entity-fits, found_len}
use Rattle.xml.specs.TextLaws.{byte-bracket, byte-greater, byte-other, scan-cons}
use Rattle.xml.specs.Words.{Signed, signed, Byte, over, hit, bracket, character, off, byte}

-- ---- a run is scanned
scan_lt : (q n : ℕ) (t : Bytes) → scan q 0 n (code "<" ∷ t) ≡ Ok n
unfolding scan text_byte
scan_lt q n t = refl

scan-entity : {e : Bytes} {c : ℕ} (q n : ℕ) (s : Bytes) → Entity e c → scan q 0 n (e ++ s) ≡ scan 0 0 (n + length e) s
unfolding read_compute
scan-entity q n s lt = ap (λ (m : ℕ). scan 0 0 m s) (omega arith)
scan-entity q n s gt = ap (λ (m : ℕ). scan 0 0 m s) (omega arith)
scan-entity q n s amp = ap (λ (m : ℕ). scan 0 0 m s) (omega arith)
scan-entity q n s quot = ap (λ (m : ℕ). scan 0 0 m s) (omega arith)
scan-entity q n s apos = ap (λ (m : ℕ). scan 0 0 m s) (omega arith)

-- a character of a run, and the number of `]` just before the next byte
byte-kept : (q b : ℕ) (s t : Bytes) → is_character b ≡ true → Clear q (b ∷ t) →
    (p : ℕ) × (text_byte q b s ≡ Ok (Some (0, p))) × Clear p t
byte-kept q b s t e k =
    by-test (eqb b (code "]"))
    (λ x. (q + 1, byte-bracket q b s n m (eqb-true b (code "]") x), bracket-clear q t (subst (λ (y : ℕ). Clear q (y ∷ t)) (eqb-true b (code "]") x) k)))
    (λ x. (0, plain (eqb-false b (code "]") x), other-clear q b t k))
  where
    n : b ≡ code "<" → ⊥
    n = character-not b (code "<") lt-markup e

    m : b ≡ code "&" → ⊥
    m = character-not b (code "&") amp-markup e

    plain : (b ≡ code "]" → ⊥) → text_byte q b s ≡ Ok (Some (0, 0))
    plain x =
        by-test (eqb b (code ">"))
        (λ y.
        let g = eqb-true b (code ">") y in
        byte-greater q b s n m x g
        (by-test (leb 2 q) (λ z. absurd (clear-closed q t (subst (λ (c : ℕ). Clear q (c ∷ t)) g k) (leb-true 2 q z))) (λ z. leb-false 2 q z)))
        (λ y. byte-other q b s true n m x (eqb-false b (code ">") y) (character-legal b e))

scan-on : (q n b p : ℕ) (s : Bytes) → text_byte q b s ≡ Ok (Some (0, p)) → scan q 0 n (b ∷ s) ≡ scan p 0 (n + 1) s
scan-on q n b p s e = rw (scan-cons, e)

return_kept : (b : ℕ) → b ≡ code "\r" → is_character b ≡ true
unfolding bytes_compute
return_kept b e = rw e

one_more : (q n b : ℕ) (s u : Bytes) → is_character b ≡ true → Clear q (b ∷ s)
    → ((p : ℕ) → Clear p s → scan p 0 (n + 1) (s ++ code "<" ∷ u) ≡ Ok (n + 1 + length s)) → scan q 0 n (b ∷ (s ++ code "<" ∷ u)) ≡ Ok (n + suc (length s))
one_more q n b s u e k f =
    let v = s ++ code "<" ∷ u in
    let x = byte-kept q b v s e k in
    let m : n + 1 + length s ≡ n + suc (length s) = omega arith in
    scan-on q n b x.0 v x.1 ∙ f x.0 x.2 ∙ ap Ok m

pub scan-characters : {s t : Bytes} (q n : ℕ) (u : Bytes) → Characters s t → Clear q s → scan q 0 n (s ++ code "<" ∷ u) ≡ Ok (n + length s)
scan-characters q n u none k = scan_lt q n u ∙ ap Ok (sym (add-zero n))
scan-characters q n u (kept {b = b} {s = s} e o c) k = one_more q n b s u e k (λ p l. scan-characters p (n + 1) u c l)
scan-characters q n u (joined {b = b} {s = s} e f c) k = one_more q n b s u (return_kept b e) k (λ p l. scan-characters p (n + 1) u c l)
scan-characters q n u (turned {b = b} {s = s} e f c) k = one_more q n b s u (return_kept b e) k (λ p l. scan-characters p (n + 1) u c l)
scan-characters q n u (entity {e = e} {s = s} i c) k =
    let m : n + length e + length s ≡ n + length (e ++ s) = omega (arith, length-append e s) in
    ap (scan q 0 n) (append_assoc e s (code "<" ∷ u)) ∙ scan-entity q n (s ++ code "<" ∷ u) i
    ∙ scan-characters 0 (n + length e) u c (entity-clear q s i k) ∙ ap Ok m

-- ---- what is scanned is a run, and the text ends after it or goes on with a `<`
abbrev pub Ends : Bytes → Type 0
Ends [] = Unit {0}
Ends (b ∷ s) = b ≡ code "<"

pub record Scanned (q n m : ℕ) (s : Bytes) : Type 0 where
  pub raw : Bytes
  pub rest : Bytes
  pub meaning : Bytes
  pub is : s ≡ raw ++ rest
  pub long : m ≡ n + length raw
  pub means : Characters raw meaning
  pub clear : Clear q raw
  pub ends : Ends rest

scanned-none : (q n m : ℕ) (s : Bytes) → Ends s → ◌≡◌ {A = Result ℕ ℕ} (Ok n) (Ok m) → Scanned q n m s
scanned-none q n m s i e =
    let l : n ≡ m = cc in
    record { raw = []; rest = s; meaning = []; is = refl; long = omega arith; means = none; clear = clear-nil q; ends = i }

scanned-bracket : (q n m : ℕ) (s : Bytes) → Scanned (q + 1) (n + 1) m s → Scanned q n m (code "]" ∷ s)
unfolding bytes_compute
scanned-bracket q n m s r =
    let l = r.long in
    record {
      raw = code "]" ∷ r.raw;
      rest = r.rest;
      meaning = code "]" ∷ r.meaning;
      is = ap (code "]" ∷◌) r.is;
      long = omega arith;
      means = kept refl (eqb-false (code "]") (code "\r") refl) r.means;
      clear = clear-bracket q r.raw r.clear;
      ends = r.ends;
    }

-- a character more before a run
pub meant-more : (b : ℕ) (s t : Bytes) → is_character b ≡ true → Characters s t → (u : Bytes) × Characters (b ∷ s) u
meant-more b s t e c =
    by-test (eqb b (code "\r"))
    (λ x. by-test (eqb (get_or s 0 0) (code "\n")) (λ y. (t, joined (eqb-true b (code "\r") x) (eqb-true (get_or s 0 0) (code "\n") y) c))
    (λ y. (code "\n" ∷ t, turned (eqb-true b (code "\r") x) (eqb-false (get_or s 0 0) (code "\n") y) c)))
    (λ x. (b ∷ t, kept e (eqb-false b (code "\r") x) c))

scanned-kept : (q n m b : ℕ) (s : Bytes) → is_character b ≡ true → (b ≡ code "]" → ⊥) → (b ≡ code ">" → q < 2) → Scanned 0 (n + 1) m s → Scanned q n m (b ∷ s)
scanned-kept q n m b s e x y r =
    let l = r.long in
    let c = meant-more b r.raw r.meaning e r.means in
    record {
      raw = b ∷ r.raw;
      rest = r.rest;
      meaning = c.0;
      is = ap (b ∷◌) r.is;
      long = omega arith;
      means = c.1;
      clear = clear-other q b r.raw x y r.clear;
      ends = r.ends;
    }

scanned-entity : (q n m k c : ℕ) (s : Bytes) → Signed k c s → Scanned 0 (n + 1 + k) m (drop k s) → Scanned q n m (code "&" ∷ s)
scanned-entity q n m k c s g r =
    let l = r.long in
    record {
      raw = g.sign ++ r.raw;
      rest = r.rest;
      meaning = c ∷ r.meaning;
      is = g.is ∙ ap (g.sign ++◌) r.is ∙ sym (append_assoc g.sign r.raw r.rest);
      long = omega (arith, length-append g.sign r.raw, g.long);
      means = entity g.entity r.means;
      clear = clear-entity q r.raw g.entity r.clear;
      ends = r.ends;
    }

pub scan-sound : (s : Bytes) (q k n m : ℕ) → k ≤ length s → scan q k n s ≡ Ok m → Scanned q (n + k) m (drop k s)
unfolding scan
scan-sound [] q zero n m h e = scanned-none q (n + 0) m [] tt (rw add-zero e)
scan-sound [] q (suc k) n m h e = absurd (not-suc-le-zero h)
scan-sound (b ∷ s) q (suc k) n m h e =
    let i : n + 1 + k ≡ n + suc k = omega arith in
    subst (λ (x : ℕ). Scanned q x m (drop k s)) i (scan-sound s q k (n + 1) m (le_of_suc-le-suc h) e)
scan-sound (b ∷ s) q zero n m h e =
    subst (λ (x : ℕ). Scanned q x m (b ∷ s)) (sym (add-zero n)) (turn (text_byte q b s) (byte q b s) (λ k r g f. scan-sound s r k (n + 1) m g f) e)
  where
    turn : (o : Result (Option (ℕ × ℕ)) ℕ) → Byte q b s o → ((k r : ℕ) → k ≤ length s → scan r k (n + 1) s ≡ Ok m → Scanned r (n + 1 + k) m (drop k s)) →
        ◌≡◌ {A = Result ℕ ℕ} (elim o [ Ok None ↦ Ok n | Ok (Some (k, r)) ↦ scan r k (n + 1) s | Err k ↦ Err (n + k) ]) (Ok m) → Scanned q n m (b ∷ s)
    turn o (over x) f g = scanned-none q n m (b ∷ s) x g
    turn o (hit {k = k} {c = c} x y) f g =
        let i : k ≤ length s = subst (λ (z : Result (ℕ × ℕ) ℕ). found_len z ≤ length s) y (entity-fits s) in
        subst (λ (z : ℕ). Scanned q n m (z ∷ s)) (sym x) (scanned-entity q n m k c s (signed s k c y) (f k 0 i g))
    turn o (bracket x) f g =
        subst (λ (z : ℕ). Scanned q n m (z ∷ s)) (sym x)
        (scanned-bracket q n m s (subst (λ (z : ℕ). Scanned (q + 1) z m s) (add-zero (n + 1)) (f 0 (q + 1) (omega arith) g)))
    turn o (character x y z) f g =
        scanned-kept q n m b s x y z (subst (λ (v : ℕ). Scanned 0 v m s) (add-zero (n + 1)) (f 0 0 (omega arith) g))
    turn o (off {k = k}) f g = let e : ◌≡◌ {A = Result ℕ ℕ} (Err (n + k)) (Ok m) = g in let z : ◌≡◌ {A = ℕ} 0 1 = cc in absurd (omega arith)
