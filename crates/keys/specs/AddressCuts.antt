-- The parts of an address's step: a word, a value in quotes and a list of conditions are read just where they are written.
use Rattle.std.specs.Prelude.{ℕ, zero, suc, ◌≤◌, ◌<◌, ◌≡◌, refl, Bool, true, false, ◌&&◌, [], ◌∷◌, ◌++◌, eqb, leb, length, take, drop, get_or}
use Prim.Native.Char.{code}
use Rattle.std.proofs.Common.{not-suc-le-zero, le_of_suc-le-suc, add-one, arith, sym, ◌∙◌, ap, ap₂, subst, length-take-le, eqb-true, eq-eqb, leb-true, leb-false, le-leb}
use Rattle.std.proofs.Math.Option.{none, some}
use Rattle.std.proofs.Math.ListN.{get_or-eq_default}
use Rattle.std.proofs.Math.Seq.{split_at, take-append_seam, drop-append-add, get_or-append_seam}
use Rattle.xml.specs.Bytes.{Bytes, all, is_name_byte, is_value}
use Rattle.xml.specs.Read.{name_rest}
use Rattle.xml.specs.Truth.{by-test, both_true, both}
use Rattle.xml.specs.ScanLaws.{name_rest-cons, name_rest-off, name_rest-nil}
use Rattle.keys.specs.AddressText.{value-bytes, quote-off}
use Rattle.keys.specs.AddressScan.{cut, value_of}

pub none-some : {A B : Type 0} {a : A} → none ≡ some a → B
none-some e = let z : ◌≡◌ {A = ℕ} 0 1 = cc in absurd (omega arith)

pub some_inj : {A : Type 0} {a b : A} → some a ≡ some b → a ≡ b
some_inj e = cc

-- ---- a word
pub cut-sound : (w s r : Bytes) → cut w s ≡ some r → s ≡ w ++ r
unfolding cut
cut-sound [] s r e = some_inj e
cut-sound (a ∷ w) [] r e = none-some e
cut-sound (a ∷ w) (b ∷ s) r e =
    by-test (eqb a b)
    (λ t. ap₂ (λ x y. x ∷ y) (sym (eqb-true a b t)) (cut-sound w s r (rw (t, cut) at e)))
    (λ t. none-some (rw (t, cut) at e))

pub cut-own : (w r : Bytes) → cut w (w ++ r) ≡ some r
unfolding cut
cut-own [] r = refl
cut-own (a ∷ w) r = rw (eq-eqb a a refl, cut) (cut-own w r)

-- ---- a run of a value's bytes
-- no such byte comes first
abbrev pub Stops : Bytes → Type 0
Stops [] = Unit {0}
Stops (b ∷ s) = is_name_byte b ≡ false

pub run-all : (n : Bytes) (r : ℕ) (t : Bytes) → all is_name_byte n ≡ true → length n ≤ r → Stops t → name_rest r (n ++ t) ≡ length n
unfolding all
run-all [] r [] a h e = name_rest-nil r
run-all [] r (b ∷ t) a h e = name_rest-off r b t e
run-all (b ∷ n) zero t a h e = absurd (not-suc-le-zero h)
run-all (b ∷ n) (suc r) t a h e =
    let i = both_true (is_name_byte b) (all is_name_byte n) a in
    name_rest-cons r b (n ++ t) i.0 ∙ ap suc (run-all n r t i.1 (le_of_suc-le-suc h) e)

run-taken : (r : ℕ) (s : Bytes) → all is_name_byte (take (name_rest r s) s) ≡ true
unfolding all name_rest
run-taken zero s = refl
run-taken (suc r) [] = refl
run-taken (suc r) (b ∷ s) = at (is_name_byte b) refl (run-taken r s)
  where
    at : (t : Bool) → is_name_byte b ≡ t → all is_name_byte (take (name_rest r s) s) ≡ true → all is_name_byte (take (name_rest (suc r) (b ∷ s)) (b ∷ s)) ≡ true
    at true e h = rw (name_rest-cons r b s e) (both e h)
    at false e h = rw (name_rest-off (suc r) b s e)

pub run_short : (r : ℕ) (s : Bytes) → name_rest r s ≤ r
unfolding name_rest
run_short zero s = omega arith
run_short (suc r) [] = omega arith
run_short (suc r) (b ∷ s) = at (is_name_byte b) refl (run_short r s)
  where
    at : (t : Bool) → is_name_byte b ≡ t → name_rest r s ≤ r → name_rest (suc r) (b ∷ s) ≤ suc r
    at true e h = rw (name_rest-cons r b s e) (omega arith)
    at false e h = rw (name_rest-off (suc r) b s e) (omega arith)

pub value-short : (v : Bytes) → is_value v ≡ true → (1 ≤ length v) × (length v ≤ 32)
unfolding is_value
value-short v e =
    let a = both_true (leb 1 (length v) && leb (length v) 32) (all is_name_byte v) e in
    let b = both_true (leb 1 (length v)) (leb (length v) 32) a.0 in
    (leb-true 1 (length v) b.0, leb-true (length v) 32 b.1)

-- a value of m bytes stands here
abbrev pub value_test : Bytes → ℕ → Bool
value_test s m = leb 1 m && leb m 32 && eqb (get_or s m 0) (code "\"")

pub value-yes : (s : Bytes) (m : ℕ) → value_test s m ≡ true → value_of s m ≡ some (take m s, drop (suc m) s)
unfolding value_of
value-yes s m t = rw (t, value_of)

pub value-no : (s : Bytes) (m : ℕ) → value_test s m ≡ false → value_of s m ≡ none
unfolding value_of
value-no s m t = rw (t, value_of)

pub record ValueAt (s : Bytes) (m : ℕ) : Type 0 where
  pub some_byte : 1 ≤ m
  pub short : m ≤ 32
  pub quote-is : get_or s m 0 ≡ code "\""
  pub inside : m < length s

pub value-at : (s : Bytes) (m : ℕ) → value_test s m ≡ true → ValueAt s m
value-at s m t =
    let a = both_true (leb 1 m && leb m 32) (eqb (get_or s m 0) (code "\"")) t in
    let b = both_true (leb 1 m) (leb m 32) a.0 in
    let q = eqb-true (get_or s m 0) (code "\"") a.1 in
    record {
      some_byte = leb-true 1 m b.0;
      short = leb-true m 32 b.1;
      quote-is = q;
      inside = by-test (leb (length s) m) (λ h. let z = get_or-eq_default s 0 (leb-true (length s) m h) in absurd (omega arith)) (λ h. leb-false (length s) m h);
    }

value-parts : (s : Bytes) (m : ℕ) → value_test s m ≡ true → all is_name_byte (take m s) ≡ true → (s ≡ take m s ++ (code "\"" ∷ drop (suc m) s)) × (is_value (take m s) ≡ true)
unfolding is_value
value-parts s m t a =
    let p = value-at s m t in
    let i = p.inside in
    let e : length (take m s) ≡ m = length-take-le m s (omega arith) in
    (split_at s m 0 i ∙ ap (λ b. take m s ++ (b ∷ drop (suc m) s)) p.quote-is, rw e (both (both (le-leb 1 m p.some_byte) (le-leb m 32 p.short)) a))

pub value-sound : (s v r : Bytes) → value_of s (name_rest 33 s) ≡ some (v, r) → (s ≡ v ++ (code "\"" ∷ r)) × (is_value v ≡ true)
value-sound s v r e =
    let m = name_rest 33 s in
    by-test (value_test s m)
    (λ t. subst (λ (z : Bytes × Bytes). (s ≡ z.0 ++ (code "\"" ∷ z.1)) × (is_value z.0 ≡ true)) (some_inj (sym (value-yes s m t) ∙ e)) (value-parts s m t (run-taken 33 s)))
    (λ t. none-some (sym (value-no s m t) ∙ e))

pub value-own : (v r : Bytes) → is_value v ≡ true → value_of (v ++ (code "\"" ∷ r)) (name_rest 33 (v ++ (code "\"" ∷ r))) ≡ some (v, r)
value-own v r h =
    let s = v ++ (code "\"" ∷ r) in
    let l = value-short v h in
    let m : name_rest 33 s ≡ length v = run-all v 33 (code "\"" ∷ r) (value-bytes v h) (omega (arith, l.1)) quote-off in
    let t : value_test s (length v) ≡ true = both (both (le-leb 1 (length v) l.0) (le-leb (length v) 32 l.1)) (eq-eqb _ _ (get_or-append_seam v (code "\"") r 0)) in
    ap (value_of s) m ∙ value-yes s (length v) t ∙ ap₂ (λ a b. some (a, b)) (take-append_seam v (code "\"" ∷ r)) (rw (← add-one (length v)) (drop-append-add v (code "\"" ∷ r) 1))
