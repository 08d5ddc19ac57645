-- An attribute's value is scanned to its closing quote, and what is scanned to a quote is one.
use Rattle.std.specs.Prelude.{ℕ, zero, suc, ◌+◌, ◌≤◌, ◌<◌, ◌≡◌, Bool, not, ◌&&◌, ◌||◌, [], ◌∷◌, ◌++◌, ◌⊎◌, length, drop, Result, Ok, Err, Option, Some, None}
use Prim.Native.Char.{code}
use Rattle.std.proofs.Common.{add-zero, not-suc-le-zero, le_of_suc-le-suc, arith, ap, sym, ◌∙◌, subst, append_assoc, inl, inr, ⊎_elim, length-append}
use Rattle.std.proofs.Math.Path.{refl}
use Rattle.std.proofs.Math.Bool.{true, false}
use borrow.Author.Tests.{eq-eqb, ne_eqb, eqb-true, eqb-false}
use Rattle.std.proofs.Math.Dec.{eqb}
use Rattle.std.proofs.Math.Seq.{drop-append_seam}
use Rattle.xml.specs.Bytes.{Bytes, bytes, all, among, is_character}
use Rattle.xml.specs.Tags.{is_quote, in_value, tags_compute}
use Rattle.xml.specs.Grammar.{Entity, lt, gt, amp, quot, apos, Characters, none, kept, joined, turned, entity}
use Rattle.xml.specs.Read.{entity_at, value_byte, value, read_compute}
use Rattle.xml.specs.Truth.{by-test, clash, both, both_true}
use Rattle.xml.specs.GrammarLaws.{character-not, amp-markup}
use Rattle.xml.specs.ScanLaws.{found_len, entity-fits}
use Rattle.xml.specs.Words.{signed}

-- ---- quotes
pub quote-is : (q : ℕ) → is_quote q ≡ true → (q ≡ code "\"") ⊎ (q ≡ code "'")
unfolding tags_compute
quote-is q e = by-test (eqb q 34) (λ h. inl (eqb-true q 34 h)) (λ h. inr (by-test (eqb q 39) (λ g. eqb-true q 39 g) (λ g. clash (sym e ∙ rw (h, g)))))

pub by-quote : (P : ℕ → Type 0) (q : ℕ) → is_quote q ≡ true → P (code "\"") → P (code "'") → P q
by-quote P q e x y = ⊎_elim (λ h. subst P (sym h) x) (λ h. subst P (sym h) y) (quote-is q e)

pub amp-quote : (q : ℕ) → is_quote q ≡ true → code "&" ≡ q → ⊥
amp-quote q e = by-quote (λ (x : ℕ). code "&" ≡ x → ⊥) q e (λ h. eqb-false 38 34 refl h) (λ h. eqb-false 38 39 refl h)

-- ---- a byte of a value
module _ (q b : ℕ) (s : Bytes) where
  pub value-over : b ≡ q → value_byte q b s ≡ Ok None
  unfolding value_byte
  value-over e = rw (eq-eqb b q e, value_byte)

  pub value-hit : (k c : ℕ) → (b ≡ q → ⊥) → b ≡ code "&" → entity_at s ≡ Ok (k, c) → value_byte q b s ≡ Ok (Some (k, 0))
  unfolding value_byte
  value-hit k c n e h = rw (ne_eqb b q n, eq-eqb b (code "&") e, h, value_byte)

  pub value-miss : (k : ℕ) → (b ≡ q → ⊥) → b ≡ code "&" → entity_at s ≡ Err k → value_byte q b s ≡ Err (1 + k)
  unfolding value_byte
  value-miss k n e h = rw (ne_eqb b q n, eq-eqb b (code "&") e, h, value_byte)

  pub value-kept : (b ≡ q → ⊥) → (b ≡ code "&" → ⊥) → is_character b && in_value q b ≡ true → value_byte q b s ≡ Ok (Some (0, 0))
  unfolding value_byte
  value-kept n m e = rw (ne_eqb b q n, ne_eqb b (code "&") m, e, value_byte)

  pub value-off : (b ≡ q → ⊥) → (b ≡ code "&" → ⊥) → is_character b && in_value q b ≡ false → value_byte q b s ≡ Err 0
  unfolding value_byte
  value-off n m e = rw (ne_eqb b q n, ne_eqb b (code "&") m, e, value_byte)

  pub data ValueCase : Result (Option (ℕ × ℕ)) ℕ → Type 0 where
    over : b ≡ q → ValueCase (Ok None)
    hit : {k c : ℕ} → (b ≡ q → ⊥) → b ≡ code "&" → entity_at s ≡ Ok (k, c) → ValueCase (Ok (Some (k, 0)))
    miss : {k : ℕ} → (b ≡ q → ⊥) → b ≡ code "&" → entity_at s ≡ Err k → ValueCase (Err (1 + k))
    plain : (b ≡ q → ⊥) → (b ≡ code "&" → ⊥) → is_character b && in_value q b ≡ true → ValueCase (Ok (Some (0, 0)))
    off : (b ≡ q → ⊥) → (b ≡ code "&" → ⊥) → is_character b && in_value q b ≡ false → ValueCase (Err 0)

  pub value-case : ValueCase (value_byte q b s)
  unfolding value_byte
  value-case = at (eqb b q) refl (eqb b (code "&")) refl (entity_at s) refl (is_character b && in_value q b) refl
    where
      at : (x : Bool) → eqb b q ≡ x → (y : Bool) → eqb b (code "&") ≡ y → (o : Result (ℕ × ℕ) ℕ) → entity_at s ≡ o → (z : Bool) → is_character b && in_value q b ≡ z →
          ValueCase
          (elim x [
            | true ↦ Ok None
            | false ↦ elim y [ true ↦ elim o [ Ok (k, c) ↦ Ok (Some (k, 0)) | Err k ↦ Err (1 + k) ] | false ↦ elim z [ true ↦ Ok (Some (0, 0)) | false ↦ Err 0 ] ]
          ])
      at true x y g o h z i = over (eqb-true b q x)
      at false x true g (Ok (k, c)) h z i = hit (eqb-false b q x) (eqb-true b (code "&") g) h
      at false x true g (Err k) h z i = miss (eqb-false b q x) (eqb-true b (code "&") g) h
      at false x false g o h true i = plain (eqb-false b q x) (eqb-false b (code "&") g) i
      at false x false g o h false i = off (eqb-false b q x) (eqb-false b (code "&") g) i

-- ---- how far it goes
abbrev pub value_turn : ℕ → ℕ → Bytes → Result (Option (ℕ × ℕ)) ℕ → Result ℕ ℕ
value_turn q n s o = elim o [ Ok None ↦ Ok n | Ok (Some (k, r)) ↦ value q k (n + 1) s | Err k ↦ Err (n + k) ]

pub value-cons : (q n b : ℕ) (s : Bytes) → value q 0 n (b ∷ s) ≡ value_turn q n s (value_byte q b s)
unfolding value
value-cons q n b s = refl

pub value-skip : (q k n : ℕ) (s : Bytes) → k ≤ length s → value q k n s ≡ value q 0 (n + k) (drop k s)
unfolding value
value-skip q zero n s h = rw add-zero
value-skip q (suc k) n [] h = absurd (not-suc-le-zero h)
value-skip q (suc k) n (b ∷ s) h = value-skip q k (n + 1) s (le_of_suc-le-suc h) ∙ ap (λ (m : ℕ). value q 0 m (drop k s)) (omega arith)

-- from lo on: up to a quote before hi, or a wrong byte at hi at most
abbrev pub ValueIn : ℕ → ℕ → Result ℕ ℕ → Type 0
ValueIn lo hi (Ok m) = (lo ≤ m) × (m < hi)
ValueIn lo hi (Err m) = (lo ≤ m) × (m ≤ hi)

value-wider : (lo hi lo' hi' : ℕ) (r : Result ℕ ℕ) → lo' ≤ lo → hi ≤ hi' → ValueIn lo hi r → ValueIn lo' hi' r
value-wider lo hi lo' hi' (Ok m) a b h = omega arith
value-wider lo hi lo' hi' (Err m) a b h = omega arith

pub found-fits : (s : Bytes) (o : Result (ℕ × ℕ) ℕ) → entity_at s ≡ o → found_len o ≤ length s
found-fits s o e = subst (λ (z : Result (ℕ × ℕ) ℕ). found_len z ≤ length s) e (entity-fits s)

pub value-range : (q k n : ℕ) (s : Bytes) → k ≤ length s → ValueIn (n + k) (n + length s) (value q k n s)
unfolding value
value-range q k n [] h = omega arith
value-range q (suc k) n (b ∷ s) h =
    value-wider (n + 1 + k) (n + 1 + length s) (n + suc k) (n + suc (length s)) (value q k (n + 1) s) (omega arith) (omega arith) (value-range q k (n + 1) s (le_of_suc-le-suc h))
value-range q zero n (b ∷ s) h = turn (value_byte q b s) (value-case q b s) (λ k g. value-range q k (n + 1) s g)
  where
    turn : (o : Result (Option (ℕ × ℕ)) ℕ) → ValueCase q b s o → ((k : ℕ) → k ≤ length s → ValueIn (n + 1 + k) (n + 1 + length s) (value q k (n + 1) s)) →
        ValueIn (n + 0) (n + suc (length s)) (value_turn q n s o)
    turn o (over e) f = omega arith
    turn o (hit {k = k} {c = c} x y z) f =
        value-wider (n + 1 + k) (n + 1 + length s) (n + 0) (n + suc (length s)) (value q k (n + 1) s) (omega arith) (omega arith) (f k (found-fits s (Ok (k, c)) z))
    turn o (miss {k = k} x y z) f = let l : k ≤ length s = found-fits s (Err k) z in omega arith
    turn o (plain x y z) f =
        value-wider (n + 1 + 0) (n + 1 + length s) (n + 0) (n + suc (length s)) (value q 0 (n + 1) s) (omega arith) (omega arith) (f 0 (omega arith))
    turn o (off x y z) f = omega arith

-- ---- a value is scanned
all_both : (f : ℕ → Bool) (s t : Bytes) → all f (s ++ t) ≡ true → (all f s ≡ true) × (all f t ≡ true)
unfolding all
all_both f [] t e = (refl, e)
all_both f (b ∷ s) t e =
    let i = both_true (f b) (all f (s ++ t)) e in
    let j = all_both f s t i.1 in
    (both i.0 j.0, j.1)

pub all_append : (f : ℕ → Bool) (s t : Bytes) → all f s ≡ true → all f t ≡ true → all f (s ++ t) ≡ true
unfolding all
all_append f [] t e h = h
all_append f (b ∷ s) t e h = let i = both_true (f b) (all f s) e in both i.0 (all_append f s t i.1 h)

in-not : (q b : ℕ) → in_value q b ≡ true → b ≡ q → ⊥
unfolding in_value
in-not q b e h = clash (sym e ∙ rw (eq-eqb b q h))

value-word : (q n c : ℕ) (w s : Bytes) → is_quote q ≡ true → entity_at (w ++ s) ≡ Ok (length w, c) → value q 0 n (code "&" ∷ (w ++ s)) ≡ value q 0 (n + suc (length w)) s
value-word q n c w s h e =
    let l : length w ≤ length (w ++ s) = omega (arith, length-append w s) in
    let m : n + 1 + length w ≡ n + suc (length w) = omega arith in
    value-cons q n (code "&") (w ++ s) ∙ ap (value_turn q n (w ++ s)) (value-hit q (code "&") (w ++ s) (length w) c (amp-quote q h) refl e)
    ∙ value-skip q (length w) (n + 1) (w ++ s) l ∙ ap (value q 0 (n + 1 + length w)) (drop-append_seam w s) ∙ ap (λ (x : ℕ). value q 0 x s) m

value-entity : {e : Bytes} {c : ℕ} (q n : ℕ) (s : Bytes) → is_quote q ≡ true → Entity e c → value q 0 n (e ++ s) ≡ value q 0 (n + length e) s
unfolding read_compute
value-entity q n s h lt = value-word q n (code "<") (bytes "lt;") s h refl
value-entity q n s h gt = value-word q n (code ">") (bytes "gt;") s h refl
value-entity q n s h amp = value-word q n (code "&") (bytes "amp;") s h refl
value-entity q n s h quot = value-word q n (code "\"") (bytes "quot;") s h refl
value-entity q n s h apos = value-word q n (code "'") (bytes "apos;") s h refl

-- no CR stands in a value
pub no_return : (q b : ℕ) → in_value q b ≡ true → b ≡ code "\r" → ⊥
unfolding tags_compute
no_return q b i e = at (eqb b q) (among "\t\n\r" b) i (ap (among "\t\n\r") e)
  where
    at : (x y : Bool) → not (x || y) ≡ true → y ≡ true → ⊥
    at true y h g = clash (sym h)
    at false y h g = clash (sym h ∙ ap not g)

pub no-return-first : (q b : ℕ) (s : Bytes) → all (in_value q) (b ∷ s) ≡ true → b ≡ code "\r" → ⊥
unfolding all
no-return-first q b s a = no_return q b (both_true (in_value q b) (all (in_value q) s) a).0

pub value-all : {s v : Bytes} (q n : ℕ) (u : Bytes) → is_quote q ≡ true → Characters s v → all (in_value q) s ≡ true → value q 0 n (s ++ q ∷ u) ≡ Ok (n + length s)
unfolding all
value-all q n u h none a = value-cons q n q u ∙ ap (value_turn q n u) (value-over q q u refl) ∙ ap Ok (sym (add-zero n))
value-all q n u h (joined {b = b} {s = s} r f c) a = absurd (no-return-first q b s a r)
value-all q n u h (turned {b = b} {s = s} r f c) a = absurd (no-return-first q b s a r)
value-all q n u h (kept {b = b} {s = s} e r c) a =
    let i = both_true (in_value q b) (all (in_value q) s) a in
    let m : n + 1 + length s ≡ n + suc (length s) = omega arith in
    value-cons q n b (s ++ q ∷ u)
    ∙ ap (value_turn q n (s ++ q ∷ u)) (value-kept q b (s ++ q ∷ u) (in-not q b i.0) (character-not b (code "&") amp-markup e) (both e i.0))
    ∙ value-all q (n + 1) u h c i.1 ∙ ap Ok m
value-all q n u h (entity {e = e} {s = s} i c) a =
    let m : n + length e + length s ≡ n + length (e ++ s) = omega (arith, length-append e s) in
    ap (value q 0 n) (append_assoc e s (q ∷ u)) ∙ value-entity q n (s ++ q ∷ u) h i
    ∙ value-all q (n + length e) u h c (all_both (in_value q) e s a).1 ∙ ap Ok m

-- ---- what is scanned is a value, and a quote stands after it
pub record Valued (q n m : ℕ) (s : Bytes) : Type 0 where
  pub raw : Bytes
  pub rest : Bytes
  pub meaning : Bytes
  pub is : s ≡ raw ++ q ∷ rest
  pub long : m ≡ n + length raw
  pub means : Characters raw meaning
  pub within : all (in_value q) raw ≡ true

pub entity-in : {e : Bytes} {c : ℕ} (q : ℕ) → is_quote q ≡ true → Entity e c → all (in_value q) e ≡ true
unfolding tags_compute
entity-in q h lt = by-quote (λ (x : ℕ). all (in_value x) (bytes "&lt;") ≡ true) q h refl refl
entity-in q h gt = by-quote (λ (x : ℕ). all (in_value x) (bytes "&gt;") ≡ true) q h refl refl
entity-in q h amp = by-quote (λ (x : ℕ). all (in_value x) (bytes "&amp;") ≡ true) q h refl refl
entity-in q h quot = by-quote (λ (x : ℕ). all (in_value x) (bytes "&quot;") ≡ true) q h refl refl
entity-in q h apos = by-quote (λ (x : ℕ). all (in_value x) (bytes "&apos;") ≡ true) q h refl refl

run-apart : {A : Type 0} (m p : ℕ) → Err m ≡ Ok p → A
run-apart m p e = let z : ◌≡◌ {A = ℕ} 0 1 = cc in absurd (omega arith)

pub value-sound : (s : Bytes) (q k n m : ℕ) → is_quote q ≡ true → k ≤ length s → value q k n s ≡ Ok m → Valued q (n + k) m (drop k s)
unfolding value all
value-sound [] q k n m h l e = run-apart n m e
value-sound (b ∷ s) q (suc k) n m h l e =
    let i : n + 1 + k ≡ n + suc k = omega arith in
    subst (λ (x : ℕ). Valued q x m (drop k s)) i (value-sound s q k (n + 1) m h (le_of_suc-le-suc l) e)
value-sound (b ∷ s) q zero n m h l e =
    subst (λ (x : ℕ). Valued q x m (b ∷ s)) (sym (add-zero n)) (turn (value_byte q b s) (value-case q b s) (λ k g f. value-sound s q k (n + 1) m h g f) e)
  where
    turn : (o : Result (Option (ℕ × ℕ)) ℕ) → ValueCase q b s o → ((k : ℕ) → k ≤ length s → value q k (n + 1) s ≡ Ok m → Valued q (n + 1 + k) m (drop k s)) →
        value_turn q n s o ≡ Ok m → Valued q n m (b ∷ s)
    turn o (over x) f g =
        let i : n ≡ m = cc in
        record { raw = []; rest = s; meaning = []; is = ap (λ (y : ℕ). y ∷ s) x; long = omega arith; means = none; within = refl }
    turn o (hit {k = k} {c = c} x y z) f g =
        let w = signed s k c z in
        let r = f k (found-fits s (Ok (k, c)) z) g in
        let i = r.long in
        record {
          raw = w.sign ++ r.raw;
          rest = r.rest;
          meaning = c ∷ r.meaning;
          is = ap (λ (u : ℕ). u ∷ s) y ∙ w.is ∙ ap (w.sign ++◌) r.is ∙ sym (append_assoc w.sign r.raw (q ∷ r.rest));
          long = omega (arith, length-append w.sign r.raw, w.long);
          means = entity w.entity r.means;
          within = all_append (in_value q) w.sign r.raw (entity-in q h w.entity) r.within;
        }
    turn o (miss x y z) f g = run-apart _ m g
    turn o (plain x y z) f g =
        let r = f 0 (omega arith) g in
        let i = r.long in
        let c = both_true (is_character b) (in_value q b) z in
        record {
          raw = b ∷ r.raw;
          rest = r.rest;
          meaning = b ∷ r.meaning;
          is = ap (b ∷◌) r.is;
          long = omega arith;
          means = kept c.0 (no_return q b c.1) r.means;
          within = both c.1 r.within;
        }
    turn o (off x y z) f g = run-apart _ m g
