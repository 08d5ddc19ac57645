-- Names and times at the start of a text: those that stand there are counted, and what is counted is one.
use Rattle.std.specs.Prelude.{ℕ, zero, suc, ◌+◌, ◌-◌, ◌≤◌, ◌<◌, ◌≡◌, refl, Bool, true, false, ◌&&◌, ◌||◌, [], ◌∷◌, ◌++◌, eqb, leb, length, take, get_or}
use Prim.Native.Char.{code}
use Rattle.std.proofs.Common.{not-suc-le-zero, le_of_suc-le-suc, arith, ap, sym, ◌∙◌, append-nil, ne_eqb, leb-true, leb-false, le-leb, length-append, length-take-le}
use Rattle.std.proofs.lemmas.Bool.{lt-leb}
use Rattle.xml.specs.Bytes.{Bytes, all, is_empty, is_start, is_name_byte, is_value, is_name, is_times, is_letter, is_digit, among, within, class_of, bytes_compute}
use Rattle.xml.specs.declared.class.ByteClass.{ByteClass}
use Rattle.xml.specs.declared.class.ByteClass.TheVariants.{Illegal, White, Start, Other, Markup, Plain}
use Rattle.xml.specs.GrammarLaws.{class_by}
use Rattle.xml.specs.Read.{name_rest, name_len, times_len}
use Rattle.xml.specs.Truth.{by-test, clash, both_true, both, neither}
use Rattle.xml.specs.ScanLaws.{name_rest-cons, name_rest-off, name_rest-nil, name_rest-fits, name_len-cons, name_len-off, times_len-cons, times_len-off}

-- ---- the same bytes
-- ---- a name
record Name (b : ℕ) (s : Bytes) : Type 0 where
  first : is_start b ≡ true
  more : all is_name_byte s ≡ true
  short : length s ≤ 31

name-parts : (b : ℕ) (s : Bytes) → is_name (b ∷ s) ≡ true → Name b s
unfolding is_name is_value all
name-parts b s e =
    let h = both_true (is_start b) (is_value (b ∷ s)) e in
    let g = both_true (leb 1 (suc (length s)) && leb (suc (length s)) 32) (all is_name_byte (b ∷ s)) h.1 in
    let i = both_true (leb 1 (suc (length s))) (leb (suc (length s)) 32) g.0 in
    let j : suc (length s) ≤ 32 = leb-true (suc (length s)) 32 i.1 in
    record { first = h.0; more = (both_true (is_name_byte b) (all is_name_byte s) g.1).1; short = omega arith }

start-name : (b : ℕ) → is_start b ≡ true → is_name_byte b ≡ true
unfolding is_start is_name_byte
start-name b e = at (class_of b) e
  where
    at : (c : ByteClass) → elim c [ Illegal ↦ false | White ↦ false | Start ↦ true | Other ↦ false | Markup ↦ false | Plain ↦ false ] ≡ true →
        elim c [ Illegal ↦ false | White ↦ false | Start ↦ true | Other ↦ true | Markup ↦ false | Plain ↦ false ] ≡ true
    at Illegal e = e
    at White e = e
    at Start e = e
    at Other e = refl
    at Markup e = e
    at Plain e = e

parts-name : (b : ℕ) (s : Bytes) → Name b s → is_name (b ∷ s) ≡ true
unfolding is_name is_value all
parts-name b s p =
    let l = p.short in
    let i : leb 1 (suc (length s)) ≡ true = le-leb 1 (suc (length s)) (omega arith) in
    let j : leb (suc (length s)) 32 ≡ true = le-leb (suc (length s)) 32 (omega arith) in
    both p.first (both (both i j) (both (start-name b p.first) p.more))

name_rest-past : (n : Bytes) (r : ℕ) (t : Bytes) → all is_name_byte n ≡ true → length n ≤ r → name_rest r (n ++ t) ≡ length n + name_rest (r - length n) t
unfolding all
name_rest-past [] r t a h = let z : r - 0 ≡ r = omega arith in rw z (omega arith)
name_rest-past (b ∷ n) zero t a h = absurd (not-suc-le-zero h)
name_rest-past (b ∷ n) (suc r) t a h =
    let i = both_true (is_name_byte b) (all is_name_byte n) a in
    let z : r - length n ≡ suc r - suc (length n) = omega arith in
    omega (arith, name_rest-cons r b (n ++ t) i.0, name_rest-past n r t i.1 (le_of_suc-le-suc h), ap (λ (k : ℕ). name_rest k t) z)

name-past : (n t : Bytes) → is_name n ≡ true → name_len (n ++ t) ≡ length n + name_rest (32 - length n) t
unfolding is_name
name-past [] t a = clash (sym a)
name-past (b ∷ n) t a =
    let p = name-parts b n a in
    let z : 31 - length n ≡ 32 - suc (length n) = omega arith in
    omega (arith, name_len-cons b (n ++ t) p.first, name_rest-past n 31 t p.more p.short, ap (λ (k : ℕ). name_rest k t) z)

pub name-all : (n : Bytes) (c : ℕ) (s : Bytes) → is_name n ≡ true → is_name_byte c ≡ false → name_len (n ++ c ∷ s) ≡ length n
name-all n c s a e = omega (arith, name-past n (c ∷ s) a, name_rest-off (32 - length n) c s e)

pub name-whole : (n : Bytes) → is_name n ≡ true → name_len n ≡ length n
name-whole n a = omega (arith, ap name_len (append-nil n), name-past n [] a, name_rest-nil (32 - length n))

-- its first byte is of a name, and there is one
pub name-first : (n s : Bytes) (c : ℕ) → is_name n ≡ true → is_start c ≡ false → get_or (n ++ s) 0 0 ≡ c → ⊥
unfolding is_name
name-first [] s c a e h = clash (sym a)
name-first (b ∷ n) s c a e h = clash (sym (name-parts b n a).first ∙ ap is_start h ∙ e)

pub name-some : (n : Bytes) → is_name n ≡ true → length n ≡ 0 → ⊥
unfolding is_name
name-some [] a e = clash (sym a)
name-some (b ∷ n) a e = omega arith

-- ---- what is counted is a name
name_rest-short : (r : ℕ) (s : Bytes) → name_rest r s ≤ r
unfolding name_rest
name_rest-short zero s = omega arith
name_rest-short (suc r) [] = omega arith
name_rest-short (suc r) (b ∷ s) = at (is_name_byte b) refl (name_rest-short r s)
  where
    at : (t : Bool) → is_name_byte b ≡ t → name_rest r s ≤ r → name_rest (suc r) (b ∷ s) ≤ suc r
    at true e h = rw (name_rest-cons r b s e) (omega arith)
    at false e h = rw (name_rest-off (suc r) b s e) (omega arith)

name_rest-taken : (r : ℕ) (s : Bytes) → all is_name_byte (take (name_rest r s) s) ≡ true
unfolding all name_rest
name_rest-taken zero s = refl
name_rest-taken (suc r) [] = refl
name_rest-taken (suc r) (b ∷ s) = at (is_name_byte b) refl (name_rest-taken r s)
  where
    at : (t : Bool) → is_name_byte b ≡ t → all is_name_byte (take (name_rest r s) s) ≡ true → all is_name_byte (take (name_rest (suc r) (b ∷ s)) (b ∷ s)) ≡ true
    at true e h = rw (name_rest-cons r b s e) (both e h)
    at false e h = rw (name_rest-off (suc r) b s e)

pub name-taken : (s : Bytes) → (name_len s ≡ 0 → ⊥) → is_name (take (name_len s) s) ≡ true
unfolding name_len
name-taken [] z = absurd (z refl)
name-taken (b ∷ s) z =
    by-test (is_start b) (λ e.
    rw (name_len-cons b s e)
    (parts-name b (take (name_rest 31 s) s) (record {
      first = e;
      more = name_rest-taken 31 s;
      short = omega (arith, length-take-le (name_rest 31 s) s (name_rest-fits 31 s), name_rest-short 31 s);
    })))
    (λ e. absurd (z (name_len-off b s e)))

-- ---- times
pub times-all : (t : Bytes) (c : ℕ) (s : Bytes) → all is_times t ≡ true → is_times c ≡ false → times_len (t ++ c ∷ s) ≡ length t
unfolding all
times-all [] c s a e = times_len-off c s e
times-all (b ∷ t) c s a e =
    let i = both_true (is_times b) (all is_times t) a in
    times_len-cons b (t ++ c ∷ s) i.0 ∙ ap suc (times-all t c s i.1 e)

pub times-taken : (s : Bytes) → all is_times (take (times_len s) s) ≡ true
unfolding all times_len
times-taken [] = refl
times-taken (b ∷ s) = at (is_times b) refl (times-taken s)
  where
    at : (t : Bool) → is_times b ≡ t → all is_times (take (times_len s) s) ≡ true → all is_times (take (times_len (b ∷ s)) (b ∷ s)) ≡ true
    at true e h = rw (times_len-cons b s e) (both e h)
    at false e h = rw (times_len-off b s e)

-- ---- parts of a name
all_left : (f : ℕ → Bool) (s t : Bytes) → all f (s ++ t) ≡ true → all f s ≡ true
unfolding all
all_left f [] t e = refl
all_left f (b ∷ s) t e = let i = both_true (f b) (all f (s ++ t)) e in both i.0 (all_left f s t i.1)

all-at : (f : ℕ → Bool) (s t : Bytes) (c : ℕ) → all f (s ++ c ∷ t) ≡ true → f c ≡ true
unfolding all
all-at f [] t c e = (both_true (f c) (all f t) e).0
all-at f (b ∷ s) t c e = all-at f s t c (both_true (f b) (all f (s ++ c ∷ t)) e).1

-- what begins a name is one
pub name-prefix : (q t : Bytes) → is_name (q ++ t) ≡ true → is_empty q ≡ false → is_name q ≡ true
unfolding is_empty
name-prefix [] t a e = clash e
name-prefix (b ∷ q) t a e =
    let p = name-parts b (q ++ t) a in
    let l = p.short in
    parts-name b q (record { first = p.first; more = all_left is_name_byte q t p.more; short = omega (arith, length-append q t) })

pub name-bytes : (n : Bytes) → is_name n ≡ true → all is_name_byte n ≡ true
unfolding is_name all
name-bytes [] a = clash (sym a)
name-bytes (b ∷ n) a = let p = name-parts b n a in both (start-name b p.first) p.more

pub name-short : (n : Bytes) → is_name n ≡ true → length n ≤ 32
unfolding is_name
name-short [] a = clash (sym a)
name-short (b ∷ n) a = let l = (name-parts b n a).short in omega arith

-- each of its bytes is of a name
pub name-at : (q t : Bytes) (c : ℕ) → is_name (q ++ c ∷ t) ≡ true → is_name_byte c ≡ true
name-at q t c a = all-at is_name_byte q t c (name-bytes (q ++ c ∷ t) a)

-- and is a small number
class-name : (w n d m p : Bool) → n ≡ false → d ≡ false →
    elim (class_by w n d m p) [ Illegal ↦ false | White ↦ false | Start ↦ true | Other ↦ true | Markup ↦ false | Plain ↦ false ] ≡ false
class-name true n d m p e f = refl
class-name false true d m p e f = e
class-name false false true m p e f = f
class-name false false false true p e f = refl
class-name false false false false true e f = refl
class-name false false false false false e f = refl

pub and-not : (a b : Bool) → b ≡ false → a && b ≡ false
and-not true b e = e
and-not false b e = refl

pub name-small : (b : ℕ) → is_name_byte b ≡ true → b < 128
unfolding bytes_compute
name-small b e =
    by-test (leb 128 b)
    (λ h.
    let g = leb-true 128 b h in
    clash (sym e
    ∙ class-name (among "\t\n\r " b) (is_letter b || eqb b (code "_")) (is_digit b || among ".-" b) (among "<&" b) (within 0x20 0x7E b)
    (neither (neither (and-not (leb 65 b) (leb b 90) (lt-leb b 90 (omega arith))) (and-not (leb 97 b) (leb b 122) (lt-leb b 122 (omega arith)))) (ne_eqb b 95 (λ x. omega arith)))
    (neither (and-not (leb 48 b) (leb b 57) (lt-leb b 57 (omega arith))) (neither (ne_eqb b 46 (λ x. omega arith)) (neither (ne_eqb b 45 (λ x. omega arith)) refl)))))
    (λ h. leb-false 128 b h)
