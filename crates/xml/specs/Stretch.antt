-- Stretches of a text in which a test answers the same at each byte, and how far runs of bytes go over them.
use Rattle.std.specs.Prelude.{ℕ, zero, suc, ◌+◌, ◌-◌, ◌<◌, ◌≤◌, ◌≡◌, Bool, true, false, not, ◌||◌, ltb, length, drop, get_or}
use Rattle.std.proofs.Common.{zero-add, add-zero, arith, ap, sym, ◌∙◌, ltb-true, ltb-false, lt-ltb, le-ltb}
use Rattle.std.proofs.Math.Seq.{slice}
use Rattle.xml.specs.Bytes.{Bytes, is_times}
use Rattle.xml.specs.ByteTests.{is_plain, plain-next}
use Rattle.xml.specs.Read.{times_len, scan}
use Rattle.xml.specs.ScanLaws.{times_len-end, times_len-stop, times_len-more}
use Rattle.xml.specs.Signs.{is_marked, plain_len}
use Rattle.xml.specs.SignLaws.{plain-stop, plain_step, plain_over}
use Rattle.xml.specs.TextLaws.{scan-on}
use Rattle.xml.specs.Truth.{bool_by, by-test, or_left, or_right}

-- the test f answers t at each byte from i to e
pub record Each (f : ℕ → Bool) (t : Bool) (src : Bytes) (i e : ℕ) : Type 0 where
  pub at : (j : ℕ) → i ≤ j → j < e → f (get_or src j 0) ≡ t

-- such a stretch from i on that ends at r, no further than e
pub record Passed (f : ℕ → Bool) (t : Bool) (src : Bytes) (i e r : ℕ) : Type 0 where
  pub forward : i ≤ r
  pub inside : r ≤ e
  pub each : Each f t src i r

-- such a stretch that ends at e, or before a byte for which the test answers otherwise
pub record Stopped (f : ℕ → Bool) (t : Bool) (src : Bytes) (i e r : ℕ) : Type 0 where
  pub passed : Passed f t src i e r
  pub stop : r < e → f (get_or src r 0) ≡ not t

module _ {f : ℕ → Bool} {t : Bool} {src : Bytes} where
  pub each_none : {i e : ℕ} → e ≤ i → Each f t src i e
  each_none h = record { at = λ j l g. absurd (omega arith) }

  pub each-then : {i m e : ℕ} → Each f t src i m → Each f t src m e → Each f t src i e
  each-then {i} {m} {e} a b =
      record { at = λ j l g. by-test (ltb j m) (λ x. a.at j l (ltb-true j m x)) (λ x. b.at j (ltb-false j m x) g) }

  -- one byte more
  pub each_more : {i j k : ℕ} → Each f t src i j → f (get_or src j 0) ≡ t → k ≤ j + 1 → Each f t src i k
  each_more {i} {j} {k} a e h =
      each-then a (record { at = λ m l g. let s : j ≡ m = omega arith in ap (λ (n : ℕ). f (get_or src n 0)) (sym s) ∙ e })

  -- a part of a stretch
  pub each_part : {i e m k : ℕ} → Each f t src i e → i ≤ m → k ≤ e → Each f t src m k
  each_part a h g = record { at = λ j l n. a.at j (omega arith) (omega arith) }

  pub passed_none : {i e : ℕ} → i ≤ e → Passed f t src i e i
  passed_none h = record { forward = omega arith; inside = h; each = each_none (omega arith) }

  pub passed_then : {i e j k : ℕ} → Passed f t src i e j → Each f t src j k → j ≤ k → k ≤ e → Passed f t src i e k
  passed_then p a h g = record { forward = omega (arith, p.forward); inside = g; each = each-then p.each a }

  pub passed-more : {i e j : ℕ} → Passed f t src i e j → f (get_or src j 0) ≡ t → j < e → Passed f t src i e (j + 1)
  passed-more p a h = record { forward = omega (arith, p.forward); inside = omega arith; each = each_more p.each a (omega arith) }

  pub passed_on : {i n m e r : ℕ} → Passed f t src i n m → Passed f t src m e r → Passed f t src i e r
  passed_on p q = record { forward = omega (arith, p.forward, q.forward); inside = q.inside; each = each-then p.each q.each }

-- a stretch, and the next up to where that ends
pub stopped-after : {f : ℕ → Bool} {t : Bool} {src : Bytes} {i n m e r : ℕ} → Passed f t src i n m → Stopped f t src m e r → Stopped f t src i e r
stopped-after p s = record { passed = passed_on p s.passed; stop = s.stop }

-- one byte more, where a hit among the bytes is noted
pub no_hit : {f : ℕ → Bool} {t : Bool} {src : Bytes} {i j k : ℕ} (hit o : Bool) → (hit ≡ false → Each f t src i j) → (o ≡ false → f (get_or src j 0) ≡ t) →
    k ≤ j + 1 → (hit || o) ≡ false → Each f t src i k
no_hit hit o a e h n = each_more (a (or_left hit o n)) (e (or_right hit o n)) h

-- ---- bytes that are written as they stand
module _ (src : Bytes) (e r : ℕ) (k : r ≤ e) (l : e ≤ length src) where
  plain-each : (d i : ℕ) → i + d ≡ r → Each is_marked false src i r → plain_len (slice i e src) ≡ d + plain_len (slice r e src)
  plain-each zero i h a = let m : i ≡ r = omega arith in rw (m, zero-add)
  plain-each (suc d) i h a =
      let b : Each is_marked false src (i + 1) r = each_part a (omega arith) (omega arith) in
      omega (arith, plain_step src i e (omega arith) l (a.at i (omega arith) (omega arith)), plain-each d (i + 1) (omega arith) b)

pub plain-passed : {src : Bytes} {i e r : ℕ} → e ≤ length src → Passed is_marked false src i e r →
    i + plain_len (slice i e src) ≡ r + plain_len (slice r e src)
plain-passed {src} {i} {e} {r} k p =
    omega (arith, p.forward, plain-each src e r p.inside k (r - i) i (omega (arith, p.forward)) p.each)

-- where the bytes that are written as they stand end
pub plain-stopped : {src : Bytes} {i e r : ℕ} → e ≤ length src → Stopped is_marked false src i e r → r ≡ i + plain_len (slice i e src)
plain-stopped {src} {i} {e} {r} k s =
    let p = s.passed in
    let none : plain_len (slice r e src) ≡ 0 =
    by-test (ltb r e) (λ x. plain-stop src r e (ltb-true r e x) k (s.stop (ltb-true r e x)))
    (λ x. let d : r ≡ e = omega (arith, p.inside, ltb-false r e x) in rw d (plain_over src e))
    in
    omega (arith, plain-passed k p)

-- ---- plain bytes
-- how many times `]` stand before the place e, where q stand before i and plain bytes between
abbrev pub brackets_after : ℕ → ℕ → ℕ → ℕ
brackets_after q i e = elim (ltb i e) [ true ↦ 0 | false ↦ q ]

module _ (q i e : ℕ) where
  pub brackets-off : i < e → brackets_after q i e ≡ 0
  brackets-off h = rw (lt-ltb i e h, brackets_after)

  pub brackets-stay : e ≤ i → brackets_after q i e ≡ q
  brackets-stay h = rw (le-ltb i e h, brackets_after)

module _ (src : Bytes) (r : ℕ) (l : r ≤ length src) where
  scan-one : (q n i : ℕ) → i < r → Each is_plain true src i r → scan q 0 n (drop i src) ≡ scan 0 0 (n + 1) (drop (i + 1) src)
  scan-one q n i h a =
      scan-on src q n i 0 0 (omega arith) (plain-next q (get_or src i 0) (drop (i + 1) src) (a.at i (omega arith) h)) (omega arith) ∙ simp add-zero

  scan-each : (d n i : ℕ) → i + d ≡ r → Each is_plain true src i r → scan 0 0 n (drop i src) ≡ scan 0 0 (n + d) (drop r src)
  scan-each zero n i h a = let m : i ≡ r = omega arith in rw (m, add-zero)
  scan-each (suc d) n i h a =
      let b : Each is_plain true src (i + 1) r = each_part a (omega arith) (omega arith) in
      let s : n + 1 + d ≡ n + suc d = omega arith in
      scan-one 0 n i (omega arith) a ∙ scan-each d (n + 1) (i + 1) (omega arith) b ∙ ap (λ (m : ℕ). scan 0 0 m (drop r src)) s

  scan-some : (q n i : ℕ) → i < r → Each is_plain true src i r → scan q 0 n (drop i src) ≡ scan 0 0 (n + (r - i)) (drop r src)
  scan-some q n i h a =
      let b : Each is_plain true src (i + 1) r = each_part a (omega arith) (omega arith) in
      let s : n + 1 + (r - (i + 1)) ≡ n + (r - i) = omega arith in
      scan-one q n i h a ∙ scan-each (r - (i + 1)) (n + 1) (i + 1) (omega arith) b ∙ ap (λ (m : ℕ). scan 0 0 m (drop r src)) s

-- a run goes on over plain bytes
pub scan-passed : {src : Bytes} {i r : ℕ} (q n : ℕ) → Passed is_plain true src i (length src) r →
    scan q 0 n (drop i src) ≡ scan (brackets_after q i r) 0 (n + (r - i)) (drop r src)
scan-passed {src} {i} {r} q n p =
    bool_by (λ (t : Bool). scan q 0 n (drop i src) ≡ scan (elim t [ true ↦ 0 | false ↦ q ]) 0 (n + (r - i)) (drop r src)) (ltb i r)
    (λ t. scan-some src r p.inside q n i (ltb-true i r t) p.each)
    (λ t.
    let m : i ≡ r = omega (arith, ltb-false i r t, p.forward) in
    let s : n ≡ n + (r - i) = omega arith in
    ap (λ (x : ℕ). scan q 0 n (drop x src)) m ∙ ap (λ (x : ℕ). scan q 0 x (drop r src)) s)

-- ---- bytes of times
pub times-within : {src : Bytes} {i m e r : ℕ} → Stopped is_times true src i m r → r < m → m ≤ e → Stopped is_times true src i e r
times-within s h k =
    record { passed = record { forward = s.passed.forward; inside = omega arith; each = s.passed.each }; stop = λ g. s.stop h }

module _ (src : Bytes) (r : ℕ) (l : r ≤ length src) where
  times-each : (d i : ℕ) → i + d ≡ r → Each is_times true src i r → times_len (drop i src) ≡ d + times_len (drop r src)
  times-each zero i h a = let m : i ≡ r = omega arith in rw (m, zero-add)
  times-each (suc d) i h a =
      let b : Each is_times true src (i + 1) r = each_part a (omega arith) (omega arith) in
      omega (arith, times_len-more src i (i + 1) (omega arith) (a.at i (omega arith) (omega arith)) (omega arith), times-each d (i + 1) (omega arith) b)

pub times-there : {src : Bytes} {i r : ℕ} → Stopped is_times true src i (length src) r → r - i ≡ times_len (drop i src)
times-there {src} {i} {r} s =
    let p = s.passed in
    let none : times_len (drop r src) ≡ 0 =
    by-test (ltb r (length src)) (λ x. times_len-stop src r (ltb-true r (length src) x) (s.stop (ltb-true r (length src) x)))
    (λ x. times_len-end src r (ltb-false r (length src) x))
    in
    omega (arith, p.forward, times-each src r p.inside (r - i) i (omega (arith, p.forward)) p.each)
