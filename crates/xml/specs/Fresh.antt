-- Names that are new in a tag: `fresh` says whether a beginning can still become one, and `new_len` how far a text begins one.
use Rattle.std.specs.Prelude.{ℕ, zero, suc, ◌+◌, ◌-◌, ◌≤◌, ◌<◌, ◌≡◌, refl, Bool, true, false, not, ◌||◌, eqb, length, take, drop}
use Rattle.std.proofs.Common.{not-suc-le-zero, le_of_suc-le-suc, arith, ap, ap₂, sym, ◌∙◌, subst, eqb-true, take-append-drop, length-take-le}
use mathlib.Core.List.{List, [], ◌∷◌, ◌++◌, append_assoc, append-nil, Memᴰ}
use Rattle.std.proofs.lemmas.Bool.{eqb-false}
use Rattle.xml.specs.Bytes.{Bytes, any, same, is_empty, is_start, is_name_byte, is_name}
use Rattle.xml.specs.Tags.{is_new, below, fresh, fresh_len, new_len}
use Rattle.xml.specs.Read.{name_rest, name_len}
use Rattle.xml.specs.ScanLaws.{name_rest-cons, name_rest-off, name_rest-fits, name_len-cons, name_len-off}
use Rattle.xml.specs.Truth.{by-test, clash, both_true, not_so, any-mem, mem-any, or-first, or-second}
use Rattle.xml.specs.Names.{name-prefix, name-at, name-small, name-short}

-- ---- a new name
pub new-name : (used : List Bytes) (n : Bytes) → is_new used n ≡ true → is_name n ≡ true
unfolding is_new
new-name used n e = (both_true (is_name n) (not (any (same n) used)) e).0

pub new-unused : (used : List Bytes) (n : Bytes) → is_new used n ≡ true → any (same n) used ≡ false
unfolding is_new
new-unused used n e = at (any (same n) used) (both_true (is_name n) (not (any (same n) used)) e).1
  where
    at : (b : Bool) → not b ≡ true → b ≡ false
    at true h = sym h
    at false h = refl

pub unused-new : (used : List Bytes) (n : Bytes) → is_name n ≡ true → any (same n) used ≡ false → is_new used n ≡ true
unfolding is_new
unused-new used n e h = rw (e, h)

-- ---- what can become one
below-mem : (n b : ℕ) → b < n → Memᴰ b (below n)
unfolding below
below-mem zero b h = absurd (not-suc-le-zero h)
below-mem (suc n) b h =
    by-test (eqb b n) (λ e. Memᴰ.head (eqb-true b n e)) (λ e. let d = eqb-false b n e in Memᴰ.tail (below-mem n b (less d)))
  where
    less : (b ≡ n → ⊥) → b < n
    less d = omega arith

pub fresh-new : (k : ℕ) (used : List Bytes) (q : Bytes) → is_new used q ≡ true → fresh k used q ≡ true
unfolding fresh
fresh-new zero used q e = e
fresh-new (suc k) used q e = rw (e, fresh)

fresh-more : (k : ℕ) (used : List Bytes) (q : Bytes) (c : ℕ) → is_empty q || is_name q ≡ true → c < 128 → fresh k used (q ++ c ∷ []) ≡ true → fresh (suc k) used q ≡ true
unfolding fresh
fresh-more k used q c h l e =
    by-test (is_new used q) (λ i. rw (i, fresh))
    (λ i. rw (i, h, fresh) (mem-any (λ d. fresh k used (q ++ d ∷ [])) (below-mem 128 c l) e))

-- what begins a new name is fresh
pub fresh-complete : (t : Bytes) (k : ℕ) (used : List Bytes) (q : Bytes) → is_new used (q ++ t) ≡ true → length t ≤ k → fresh k used q ≡ true
fresh-complete [] k used q e h = fresh-new k used q (rw append-nil at e)
fresh-complete (c ∷ t) zero used q e h = absurd (not-suc-le-zero h)
fresh-complete (c ∷ t) (suc k) used q e h =
    let n = new-name used (q ++ c ∷ t) e in
    let i : (q ++ c ∷ []) ++ t ≡ q ++ c ∷ t = append_assoc q (c ∷ []) t in
    let p : is_empty q || is_name q ≡ true = by-test (is_empty q) (λ x. or-first (is_empty q) (is_name q) x) (λ x. or-second (is_empty q) (is_name q) (name-prefix q (c ∷ t) n x)) in
    fresh-more k used q c p (name-small c (name-at q t c n))
    (fresh-complete t k used (q ++ c ∷ []) (subst (λ (x : Bytes). is_new used x ≡ true) (sym i) e) (le_of_suc-le-suc h))

-- and what is fresh begins one
pub record Grows (k : ℕ) (used : List Bytes) (q : Bytes) : Type 0 where
  pub rest : Bytes
  pub new : is_new used (q ++ rest) ≡ true
  pub short : length rest ≤ k

pub fresh-sound : (k : ℕ) (used : List Bytes) (q : Bytes) → fresh k used q ≡ true → Grows k used q
unfolding fresh
fresh-sound zero used q e = record { rest = []; new = rw append-nil e; short = omega arith }
fresh-sound (suc k) used q e = at (is_new used q) refl (is_empty q || is_name q) refl e (λ c h. fresh-sound k used (q ++ c ∷ []) h)
  where
    at : (x : Bool) → is_new used q ≡ x → (y : Bool) → is_empty q || is_name q ≡ y →
        elim x [ true ↦ true | false ↦ elim y [ true ↦ any (λ c. fresh k used (q ++ c ∷ [])) (below 128) | false ↦ false ] ] ≡ true →
        ((c : ℕ) → fresh k used (q ++ c ∷ []) ≡ true → Grows k used (q ++ c ∷ [])) → Grows (suc k) used q
    at true x y z h ih = record { rest = []; new = rw append-nil x; short = omega arith }
    at false x false z h ih = clash (sym h)
    at false x true z h ih =
        let m = any-mem (λ c. fresh k used (q ++ c ∷ [])) (below 128) h in
        let g = ih m.0 m.2 in
        let l = g.short in
        record { rest = m.0 ∷ g.rest; new = rw append_assoc at g.new; short = omega arith }

-- ---- how far a text begins one
pub fresh_len-cons : (k : ℕ) (used : List Bytes) (q : Bytes) (b : ℕ) (s : Bytes) → fresh k used (q ++ b ∷ []) ≡ true →
    fresh_len (suc k) used q (b ∷ s) ≡ suc (fresh_len k used (q ++ b ∷ []) s)
unfolding fresh_len
fresh_len-cons k used q b s e = rw (e, fresh_len)

pub fresh_len-off : (k : ℕ) (used : List Bytes) (q : Bytes) (b : ℕ) (s : Bytes) → fresh k used (q ++ b ∷ []) ≡ false → fresh_len (suc k) used q (b ∷ s) ≡ 0
unfolding fresh_len
fresh_len-off k used q b s e = rw (e, fresh_len)

pub fresh_len-fits : (k : ℕ) (used : List Bytes) (q s : Bytes) → fresh_len k used q s ≤ length s
unfolding fresh_len
fresh_len-fits zero used q s = omega arith
fresh_len-fits (suc k) used q [] = omega arith
fresh_len-fits (suc k) used q (b ∷ s) = at (fresh k used (q ++ b ∷ [])) refl (fresh_len-fits k used (q ++ b ∷ []) s)
  where
    at : (t : Bool) → fresh k used (q ++ b ∷ []) ≡ t → fresh_len k used (q ++ b ∷ []) s ≤ length s → fresh_len (suc k) used q (b ∷ s) ≤ suc (length s)
    at true e h = rw (fresh_len-cons k used q b s e) (omega arith)
    at false e h = rw (fresh_len-off k used q b s e) (omega arith)

pub no_name : (k : ℕ) (used : List Bytes) (q : Bytes) (c : ℕ) → is_name_byte c ≡ false → fresh k used (q ++ c ∷ []) ≡ false
no_name k used q c e =
    not_so (fresh k used (q ++ c ∷ [])) (λ h.
    let g = fresh-sound k used (q ++ c ∷ []) h in
    let n : is_name (q ++ c ∷ g.rest) ≡ true = rw append_assoc at (new-name used ((q ++ c ∷ []) ++ g.rest) g.new) in
    clash (sym (name-at q g.rest c n) ∙ e))

-- a new name that stands there is counted whole
fresh_len-past : (t : Bytes) (k : ℕ) (used : List Bytes) (q s : Bytes) → is_new used (q ++ t) ≡ true → length t ≤ k → fresh_len k used q (t ++ s) ≡ length t + fresh_len (k - length t) used (q ++ t) s
fresh_len-past [] k used q s e h = let z : k - 0 ≡ k = omega arith in rw (z, append-nil) (omega arith)
fresh_len-past (b ∷ t) zero used q s e h = absurd (not-suc-le-zero h)
fresh_len-past (b ∷ t) (suc k) used q s e h =
    let i : (q ++ b ∷ []) ++ t ≡ q ++ b ∷ t = append_assoc q (b ∷ []) t in
    let n : is_new used ((q ++ b ∷ []) ++ t) ≡ true = subst (λ (x : Bytes). is_new used x ≡ true) (sym i) e in
    let z : k - length t ≡ suc k - suc (length t) = omega arith in
    omega (
      arith,
      fresh_len-cons k used q b (t ++ s) (fresh-complete t k used (q ++ b ∷ []) n (le_of_suc-le-suc h)),
      fresh_len-past t k used (q ++ b ∷ []) s n (le_of_suc-le-suc h),
      ap₂ (λ (l : ℕ) (x : Bytes). fresh_len l used x s) z i,
    )

fresh_len-none : (k : ℕ) (used : List Bytes) (q : Bytes) (c : ℕ) (s : Bytes) → is_name_byte c ≡ false → fresh_len k used q (c ∷ s) ≡ 0
unfolding fresh_len
fresh_len-none zero used q c s e = refl
fresh_len-none (suc k) used q c s e = fresh_len-off k used q c s (no_name k used q c e)

pub new_len-all : (used : List Bytes) (n : Bytes) (c : ℕ) (s : Bytes) → is_new used n ≡ true → is_name_byte c ≡ false → new_len used (n ++ c ∷ s) ≡ length n
new_len-all used n c s e d = omega (arith, fresh_len-past n 32 used [] (c ∷ s) e (name-short n (new-name used n e)), fresh_len-none (32 - length n) used n c s d)

-- so is one that stands there as far as a name does
rest_over : (r : ℕ) (used : List Bytes) (q s : Bytes) → fresh_len (r - name_rest r s) used q (drop (name_rest r s) s) ≡ 0
unfolding fresh_len name_rest
rest_over zero used q s = refl
rest_over (suc r) used q [] = let z : suc r - 0 ≡ suc r = omega arith in rw z refl
rest_over (suc r) used q (b ∷ s) = at (is_name_byte b) refl (rest_over r used q s)
  where
    at : (t : Bool) → is_name_byte b ≡ t → fresh_len (r - name_rest r s) used q (drop (name_rest r s) s) ≡ 0 → fresh_len (suc r - name_rest (suc r) (b ∷ s)) used q (drop (name_rest (suc r) (b ∷ s)) (b ∷ s)) ≡ 0
    at true e h =
        let z : suc r - suc (name_rest r s) ≡ r - name_rest r s = omega arith in
        rw (name_rest-cons r b s e, z) h
    at false e h = rw (name_rest-off (suc r) b s e) (fresh_len-none (suc r - 0) used q b s e)

pub new_len-name : (used : List Bytes) (s : Bytes) → is_new used (take (name_len s) s) ≡ true → new_len used s ≡ name_len s
unfolding name_len is_new is_name
new_len-name used [] e = clash (sym e)
new_len-name used (b ∷ s) e =
    by-test (is_start b)
    (λ h.
    let n = name_len-cons b s h in
    let w = b ∷ take (name_rest 31 s) s in
    let e' : is_new used w ≡ true = rw n at e in
    let l = length-take-le (name_rest 31 s) s (name_rest-fits 31 s) in
    let z : 32 - suc (length (take (name_rest 31 s) s)) ≡ 31 - name_rest 31 s = omega arith in
    omega (
      arith,
      n,
      ap (λ (x : Bytes). new_len used (b ∷ x)) (take-append-drop (name_rest 31 s) s),
      fresh_len-past w 32 used [] (drop (name_rest 31 s) s) e' (name-short w (new-name used w e')),
      ap (λ (k : ℕ). fresh_len k used w (drop (name_rest 31 s) s)) z,
      rest_over 31 used w s,
    ))
    (λ h. clash (sym (rw (name_len-off b s h) at e)))

-- what is counted can become a new name
pub fresh_len-grows : (k : ℕ) (used : List Bytes) (q s : Bytes) → fresh k used q ≡ true → Grows k used (q ++ take (fresh_len k used q s) s)
unfolding fresh_len
fresh_len-grows zero used q s e = rw append-nil (fresh-sound zero used q e)
fresh_len-grows (suc k) used q [] e = rw append-nil (fresh-sound (suc k) used q e)
fresh_len-grows (suc k) used q (b ∷ s) e = at (fresh k used (q ++ b ∷ [])) refl (λ h. fresh_len-grows k used (q ++ b ∷ []) s h)
  where
    at : (t : Bool) → fresh k used (q ++ b ∷ []) ≡ t → (fresh k used (q ++ b ∷ []) ≡ true → Grows k used ((q ++ b ∷ []) ++ take (fresh_len k used (q ++ b ∷ []) s) s)) →
        Grows (suc k) used (q ++ take (fresh_len (suc k) used q (b ∷ s)) (b ∷ s))
    at true x ih =
        let g = ih x in
        let l = g.short in
        rw (fresh_len-cons k used q b s x)
        (record { rest = g.rest; new = subst (λ (y : Bytes). is_new used (y ++ g.rest) ≡ true) (append_assoc q (b ∷ []) (take (fresh_len k used (q ++ b ∷ []) s) s)) g.new; short = omega arith })
    at false x ih = rw (fresh_len-off k used q b s x, append-nil) (fresh-sound (suc k) used q e)
