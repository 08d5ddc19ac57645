-- The text of a set cut at version i, as a place in an archive's text, a count of bytes, and a tail; and what a `T` with such a text becomes.
use Rattle.std.specs.Prelude.{ℕ, ◌+◌, ◌-◌, ◌%◌, ◌<◌, ◌≤◌, ◌≡◌, refl, Bool, true, false, length}
use Rattle.std.proofs.Common.{arith, ◌∙◌, ap₂, subst, length-append, get_or-take, get_or-drop, get_or-append-add}
use Rattle.std.proofs.Math.Path.{sym, ap}
use mathlib.Core.List.{List, [], ◌++◌, append_assoc, append-nil}
use Rattle.std.proofs.Math.ListN.{get_or, take, drop, get_or-append}
use Rattle.std.proofs.Math.Seq.{slice, slice_empty, length-slice, take_all}
use Rattle.xml.specs.Bytes.{Bytes, bytes, same}
use Rattle.xml.specs.Forest.{Forest, write}
use Rattle.xml.specs.BytesLaws.{same-is, same_self}
use borrow.Author.Tests.{eqb-true}
use Rattle.xml.specs.Truth.{clash, not_so}
use Rattle.xml.specs.Over.{over, Wrote}
use Rattle.xml.specs.OverLaws.{length_at, wrote-over}
use Rattle.xml.specs.Tape.{head_at, next_at, Tape}
use Rattle.xml.specs.TapeLaws.{bytes_at, opening, closing}
use Rattle.timestamp.specs.Times.{Times, always}
use Rattle.timestamp.specs.TimesLaws.{bool_eq}
use Rattle.timestamp.specs.Set.{empty_set, up_to, cut_at, same_set, is_none}
use Rattle.timestamp.specs.Tests.{same-tells, same-told}
use Rattle.timestamp.specs.Listed.{listed, text_of, Only, only-cut, only-more, only-up-to, listed-inj, listed-cong, listed-up-to, text-inj, text-none}
use Rattle.timestamp.specs.Parses.{text-parse, text-some}
use Rattle.timestamp.proofs.LongestLaws.{text-short}
use Rattle.timestamp.specs.Write.{decimal-short}
use Rattle.timestamp.specs.Place.{IsSet}
use Rattle.timestamp.specs.Change.{Changes, tail_text, is_void}
use Rattle.timestamp.specs.declared.change.Tail.{Tail}
use Rattle.timestamp.specs.declared.change.Tail.TheVariants.{Nothing, Dashed, Listed, Alone}
use Rattle.versions.specs.Walk.{times_in, back_forest}
use Rattle.versions.specs.ListedLaws.{times-listed, times_cut}
use Rattle.versions.specs.TimedLaws.{changed-text}
use Rattle.versions.specs.Rendered.{Renders}
use Rattle.versions.specs.BackText.{back_text, back-dropped, back-bare, back-wrapped, times-room, back_whole}

-- the bytes from a on, `to` of them, and then the tail
abbrev pub cut_text : List ℕ → ℕ → ℕ → Tail → ℕ → Bytes
cut_text src a to tail i = slice a (a + to) src ++ tail_text tail i

-- they are the text of a set of some versions 1 to i
pub record Trimmed (i : ℕ) (src : List ℕ) (a to : ℕ) (tail : Tail) : Type 0 where
  pub inside : a + to ≤ length src
  pub set : ℕ → Bool
  pub only : Only i set
  pub text-is : text_of set ≡ cut_text src a to tail i

module _ {i : ℕ} {src : List ℕ} {a to : ℕ} {tail : Tail} (x : Trimmed i src a to tail) where
  length_cut : length (cut_text src a to tail i) ≡ to + length (tail_text tail i)
  length_cut = length-append (slice a (a + to) src) (tail_text tail i) ∙ omega (arith, length-slice a (a + to) src x.inside)

  -- it is short
  pub trimmed-short : to + length (tail_text tail i) ≤ 3000
  trimmed-short = omega (arith, text-short x.set, ap length x.text-is, length_cut)

  -- its length, by that of its tail
  pub cut-long : {n : ℕ} {free four : List ℕ} → Wrote free 0 (tail_text tail i) n four → to + n ≡ length (cut_text src a to tail i)
  cut-long w = omega (arith, w.place, length_cut)

  -- the versions that it has
  pub trimmed-times : i ≤ 999 → times_in i (cut_text src a to tail i) ≡ listed i x.set
  trimmed-times h = ap (times_in i) (sym x.text-is) ∙ times-listed i x.set h

  -- the tag with it
  pub trimmed-room : {at r : ℕ} {out left : List ℕ} → Wrote out at (opening false (cut_text src a to tail i)) r left → r ≤ at + 3008
  trimmed-room w = times-room x.set (rw (← x.text-is) at w)

-- ---- the set of a text, cut at i
module _ (i : ℕ) (src : List ℕ) (a e to : ℕ) (tail : Tail) (h : a ≤ e) (k : e ≤ length src) (w : IsSet (slice a e src)) (c : Changes (slice a e src) (cut_at i) i to tail) where
  pub cut-trimmed : Trimmed i src a to tail
  cut-trimmed =
      record {
        inside = omega (arith, c.inside, length-slice a e src k);
        set = cut_at i w.s;
        only = only-cut 999 i w.s (text-parse (slice a e src) w.s w.is).1;
        text-is = changed-text a e src w.s h k w.is c;
      }

  -- it has the same versions up to i
  pub cut-times : i ≤ 999 → times_in i (cut_text src a to tail i) ≡ times_in i (slice a e src)
  unfolding cut-trimmed
  cut-times z = trimmed-times cut-trimmed z ∙ sym (ap (times_in i) (text-parse (slice a e src) w.s w.is).0 ∙ times_cut i w.s z)

-- ---- its bytes
pub same_start : (s t : Bytes) (n : ℕ) → n ≡ length s → n ≡ length t → same s t ≡ same (slice 0 n s) (slice 0 n t)
same_start s t n e f = sym (ap₂ same (take_all n s (omega arith)) (take_all n t (omega arith)))

tail-length : (tail : Tail) (i : ℕ) → 1 ≤ i → i ≤ 999 → (length (tail_text tail i) ≤ 4) × (length (tail_text tail i) ≡ 0 → tail ≡ Nothing)
tail-length Nothing i h k = (omega arith, λ e. refl)
tail-length Dashed i h k = let d = decimal-short i h (omega arith) in (omega (arith, d.1), λ e. absurd (omega arith))
tail-length Listed i h k = let d = decimal-short i h (omega arith) in (omega (arith, d.1), λ e. absurd (omega arith))
tail-length Alone i h k = let d = decimal-short i h (omega arith) in (omega (arith, d.1), λ e. absurd (omega (arith, d.0)))

cut-empty : (src : List ℕ) (a to : ℕ) (tail : Tail) (i : ℕ) → is_void to tail ≡ true → cut_text src a to tail i ≡ []
cut-empty src a to Nothing i e = let z : a + to ≡ a = omega (arith, eqb-true to 0 e) in rw (z, append-nil) (slice_empty a src)
cut-empty src a to Dashed i e = clash (sym e)
cut-empty src a to Listed i e = clash (sym e)
cut-empty src a to Alone i e = clash (sym e)

void-told : (to : ℕ) (tail : Tail) → to ≡ 0 → tail ≡ Nothing → is_void to tail ≡ true
void-told to tail z n = rw (z, n) refl

-- a byte of the part, or of what follows it
pub part-byte : (src : List ℕ) (a to k : ℕ) (t : List ℕ) → a + to ≤ length src → k < to → get_or src (a + k) 0 ≡ get_or (slice a (a + to) src ++ t) k 0
part-byte src a to k t h l =
    sym (get_or-append (slice a (a + to) src) t 0 k (omega (arith, length-slice a (a + to) src h)) ∙ get_or-drop a (take (a + to) src) k 0 ∙ get_or-take (a + to) src (a + k) 0 (omega arith))

pub rest-byte : (src : List ℕ) (a to k : ℕ) (t : List ℕ) → a + to ≤ length src → to ≤ k → get_or t (k - to) 0 ≡ get_or (slice a (a + to) src ++ t) k 0
rest-byte src a to k t h l =
    let z : length (slice a (a + to) src) + (k - to) ≡ k = omega (arith, length-slice a (a + to) src h) in
    sym (ap (λ (m : ℕ). get_or (slice a (a + to) src ++ t) m 0) (sym z) ∙ get_or-append-add (slice a (a + to) src) t (k - to) 0)

module _ {i : ℕ} {src : List ℕ} {a to : ℕ} {tail : Tail} (small : i ≤ 999) (one : 1 ≤ i) (x : Trimmed i src a to tail) where
  -- with its tail in four bytes
  module _ {n : ℕ} {free four : List ℕ} (w : Wrote free 0 (tail_text tail i) n four) (f : length free ≡ 4) where
    pub cut-room : to + n ≤ to + length four
    cut-room = omega (arith, w.place, (tail-length tail i one small).0, ap length w.bytes ∙ length_at free 0 (tail_text tail i))

    pub cut-byte : (k : ℕ) → k < to + n → get_or (slice a (a + to) src ++ four) k 0 ≡ get_or (cut_text src a to tail i) k 0
    unfolding over
    cut-byte k h =
        let s = slice a (a + to) src in
        let t = tail_text tail i in
        let z : take (length free) t ≡ t = take_all (length free) t (omega (arith, f, (tail-length tail i one small).0)) in
        ap (λ (u : List ℕ). get_or (s ++ u) k 0) ((wrote-over w).1 ∙ ap (λ (u : List ℕ). u ++ drop (length t) free) z)
        ∙ ap (λ (u : List ℕ). get_or u k 0) (sym (append_assoc s t (drop (length t) free)))
        ∙ get_or-append (s ++ t) (drop (length t) free) 0 k (omega (arith, cut-long x w))

  -- nothing, or not
  empty-none : is_void to tail ≡ true → is_none x.set ≡ true
  empty-none e = same-told x.set empty_set (λ v l. not_so (x.set v) (λ t. text-some x.set (only-more i 999 x.set small x.only) v t (x.text-is ∙ cut-empty src a to tail i e)))

  some-not : is_void to tail ≡ false → is_none x.set ≡ false
  some-not ne = not_so (is_none x.set) (λ e.
      let z = listed-inj i x.set empty_set x.only (λ v t. clash (sym t)) (listed-cong i x.set empty_set (λ v b d. same-tells x.set empty_set e v (omega arith))) in
      let y : length (cut_text src a to tail i) ≡ 0 = ap length (sym x.text-is ∙ ap text_of z ∙ text-none) in
      clash (sym (void-told to tail (omega (arith, length_cut x, y)) ((tail-length tail i one small).1 (omega (arith, length_cut x, y)))) ∙ ne))

  -- all versions
  pub trimmed-all : times_in i (cut_text src a to tail i) ≡ always i → x.set ≡ up_to i
  trimmed-all e = listed-inj i x.set (up_to i) x.only (only-up-to i) (sym (trimmed-times x small) ∙ e ∙ sym (listed-up-to i))

-- ---- a `T` whose text, cut at i, is the second one, in an element of the versions of the first
module _ {i : ℕ} {src : List ℕ} (cells : List ℕ) (p : ℕ) {a to : ℕ} {tail : Tail} {b to' : ℕ} {tail' : Tail} (small : i ≤ 999) (one : 1 ≤ i) (x : Trimmed i src a to tail) (y : Trimmed i src b to' tail')
    (l : p < next_at cells p) (k : head_at cells p % 4 ≡ 2) (e : times_in i (cut_text src b to' tail' i) ≡ times_in i (bytes_at src cells p)) where
  times-are : listed i y.set ≡ times_in i (bytes_at src cells p)
  times-are = sym (trimmed-times y small) ∙ e

  same-both : same_set x.set y.set ≡ same (cut_text src a to tail i) (cut_text src b to' tail' i)
  same-both =
      bool_eq (same_set x.set y.set) (same (cut_text src a to tail i) (cut_text src b to' tail' i))
      (λ t. let z = listed-inj i x.set y.set x.only y.only (listed-cong i x.set y.set (λ v c d. same-tells x.set y.set t v (omega arith))) in
      ap (same (cut_text src a to tail i)) (sym y.text-is ∙ ap text_of (sym z) ∙ x.text-is) ∙ same_self (cut_text src a to tail i))
      (λ t. let z = text-inj x.set y.set (only-more i 999 x.set small x.only) (only-more i 999 y.set small y.only)
      (x.text-is ∙ same-is (cut_text src a to tail i) (cut_text src b to' tail' i) t ∙ sym y.text-is) in
      same-told x.set y.set (λ v c. ap (λ (s : ℕ → Bool). s v) z))

  module _ {at r : ℕ} {out left : List ℕ} where
    around : Renders (back_text i (listed i x.set)) src cells p (next_at cells p) out at r left → Renders (back_text i (times_in i (cut_text src a to tail i))) src cells p (next_at cells p) out at r left
    around h = subst (λ (t : Times). Renders (back_text i t) src cells p (next_at cells p) out at r left) (sym (trimmed-times x small)) h

    inner : Renders (back_text i (times_in i (cut_text src b to' tail' i))) src cells (p + 1) (next_at cells p) out at r left → Renders (back_text i (listed i y.set)) src cells (p + 1) (next_at cells p) out at r left
    inner h = subst (λ (t : Times). Renders (back_text i t) src cells (p + 1) (next_at cells p) out at r left) (trimmed-times y small) h

  pub node-dropped : {at : ℕ} {out : List ℕ} → is_void to' tail' ≡ true → Renders (back_text i (times_in i (cut_text src a to tail i))) src cells p (next_at cells p) out at at out
  node-dropped z = around (back-dropped i x.set y.set small x.only y.only l k times-are (empty-none small one y z))

  module _ {at r : ℕ} {out left : List ℕ} (n : is_void to' tail' ≡ false) where
    pub node-bare : same (cut_text src a to tail i) (cut_text src b to' tail' i) ≡ true
        → Renders (back_text i (times_in i (cut_text src b to' tail' i))) src cells (p + 1) (next_at cells p) out at r left
        → Renders (back_text i (times_in i (cut_text src a to tail i))) src cells p (next_at cells p) out at r left
    node-bare z h = around (back-bare i x.set y.set small x.only y.only l k times-are (some-not small one y n) (same-both ∙ z) (inner h))

    pub node-wrapped : {c d : ℕ} {mid more : List ℕ} → same (cut_text src a to tail i) (cut_text src b to' tail' i) ≡ false
        → Wrote out at (opening false (cut_text src b to' tail' i)) c mid → Renders (back_text i (times_in i (cut_text src b to' tail' i))) src cells (p + 1) (next_at cells p) mid c d more
        → Wrote more d (closing false (bytes_at src cells p)) r left → Renders (back_text i (times_in i (cut_text src a to tail i))) src cells p (next_at cells p) out at r left
    node-wrapped z v h w = around (back-wrapped i x.set y.set small x.only y.only l k times-are (some-not small one y n) (same-both ∙ z) (rw (← y.text-is) at v) (inner h) w)

-- ---- the whole archive
pub whole_back : {i a to hi at b c r : ℕ} {tail : Tail} {src cells out mid more left : List ℕ} → i ≤ 999 → 1 ≤ i → (x : Trimmed i src a to tail) → times_in i (cut_text src a to tail i) ≡ always i
    → 0 < hi → next_at cells 0 ≡ hi → head_at cells 0 % 4 ≡ 2 → Wrote out at (opening false (cut_text src a to tail i)) b mid
    → Renders (back_text i (times_in i (cut_text src a to tail i))) src cells 1 hi mid b c more → Wrote more c (bytes "</T>") r left
    → (f : Forest) → Tape src cells 0 hi f → Wrote out at (write (back_forest i f)) r left
whole_back {i} {hi = hi} {b = b} {c = c} {src = src} {cells = cells} {mid = mid} {more = more} small one x e g n k v h w =
    back_whole i x.set small (trimmed-all small one x e) g n k (rw (← x.text-is) at v)
    (subst (λ (t : Times). Renders (back_text i t) src cells 1 hi mid b c more) (trimmed-times x small) h) w
