-- What the writers' functions ask, and the laws of a writer on its way.
use Rattle.std.specs.Prelude.{ℕ, ◌+◌, ◌-◌, ◌%◌, ◌^◌, ◌<◌, ◌≤◌, min, ◌≡◌, refl, List, [], ◌∷◌, ◌++◌, true, false, eqb, leb, length, take, drop, get_or, set}
use Rattle.std.proofs.Common.{ap, sym, ◌∙◌, append-nil, append_assoc, arith, add-one, leb-true, leb-false, length-append, take-suc, take-add, length-take-le}
use Rattle.std.proofs.Math.Seq.{slice, length-slice}
use Rattle.std.proofs.lemmas.List.{drop-append-le, take-append-drop}
use Rattle.xml.specs.Bytes.{Bytes}
use Rattle.xml.specs.Truth.{by-test}
use Rattle.xml.specs.Forest.{Forest, escape, write}
use Rattle.xml.specs.Signs.{spelt}
use Rattle.xml.specs.SignLaws.{Meant, Running, spelt-sign, length-spelt}
use Rattle.xml.specs.declared.text.Sign.{Sign}
use Rattle.xml.specs.Over.{over_at, Wrote}
use Rattle.xml.specs.OverLaws.{length_at, at-past, at_set, at-then, wrote_none, wrote_then}
use Rattle.xml.specs.Tape.{head_at, next_at, Tape, Valid, Writes}
use Rattle.xml.specs.TapeLaws.{slice-part, bytes_at, opening, Inner, OneRun, Rest, split, text-node, length-write}

-- the nodes lo to hi are a forest, and a word holds the place after it
pub record Fit (src cells : List ℕ) (lo hi at : ℕ) : Type 0 where
  pub forest : Forest
  pub tape : Tape src cells lo hi forest
  pub room : at + length (write forest) < 2 ^ 61

-- a writer on its way: of `whole`, it has written `done`, and `rest` is left
pub record Left (whole rest : Bytes) (out : List ℕ) (at to : ℕ) (left : List ℕ) : Type 0 where
  pub done : Bytes
  pub all : whole ≡ done ++ rest
  pub wrote : Wrote out at done to left

pub left-none : {whole out : List ℕ} {at : ℕ} → Left whole whole out at at out
left-none = record { done = []; all = refl; wrote = wrote_none }

pub left-more : {whole rest out mid left : List ℕ} {at to r : ℕ} (v : Bytes) → Left whole (v ++ rest) out at to mid → Wrote mid to v r left → Left whole rest out at r left
left-more {rest = rest} v x w =
    record { done = x.done ++ v; all = x.all ∙ sym (append_assoc x.done v rest); wrote = wrote_then x.wrote w }

pub left-done : {whole out left : List ℕ} {at to : ℕ} → Left whole [] out at to left → Wrote out at whole to left
left-done x = rw (x.all, append-nil) x.wrote

-- the place where it has come to
pub left-place : {whole rest out left : List ℕ} {at to : ℕ} → Left whole rest out at to left → to + length rest ≡ at + length whole
left-place x = omega (arith, x.wrote.place, simp length-append at (ap length x.all))

-- a run of text, on its way: bytes that stand for themselves; and what is meant next
pub left-run : {src whole out mid left : List ℕ} {i e j at to r : ℕ} → Running src i e j → Left whole (spelt (slice i e src)) out at to mid
    → Wrote mid to (slice i j src) r left → Left whole (spelt (slice j e src)) out at r left
left-run {src} {i = i} {j = j} g x w = left-more (slice i j src) (rw g.written at x) w

pub left-sign : {src whole out mid left : List ℕ} {i e at to r : ℕ} {g : Sign} → Meant src i e g → Left whole (spelt (slice i e src)) out at to mid
    → Wrote mid to (escape (g.byte ∷ [])) r left → Left whole (spelt (slice g.next e src)) out at r left
left-sign {g = g} m x w = left-more (escape (g.byte ∷ [])) (rw (spelt-sign m) at x) w

pub left-room : (src : List ℕ) (a e : ℕ) {rest out left : List ℕ} {at to : ℕ} → Left (spelt (slice a e src)) rest out at to left → e ≤ length src → e - a ≤ 32768
    → at < 2 ^ 61 + 32768 → to < 2 ^ 62
left-room src a e x h k l = omega (arith, left-place x, length-spelt (slice a e src), length-slice a e src h)

-- what does not fit is not written
pub at_cut : (out : List ℕ) (a : ℕ) (v w : Bytes) → length out ≤ a + length v → over_at out a (v ++ w) ≡ over_at out a v
at_cut out a v w h = sym (at-then out a v w) ∙ at-past (over_at out a v) (a + length v) w (rw (length_at out a v) h)

-- so the bytes that there is room for are enough
pub at-some : (out : List ℕ) (a : ℕ) (w : Bytes) → a ≤ length out → length out ≤ a + length w → over_at out a (take (length out - a) w) ≡ over_at out a w
at-some out a w h k =
    let n : length (take (length out - a) w) ≡ length out - a = length-take-le (length out - a) w (omega arith) in
    sym (at_cut out a (take (length out - a) w) (drop (length out - a) w) (omega arith)) ∙ ap (over_at out a) (take-append-drop (length out - a) w)

-- a part with one byte more
pub slice_snoc : (l : List ℕ) (a i : ℕ) → a ≤ i → i < length l → slice a (i + 1) l ≡ slice a i l ++ (get_or l i 0 ∷ [])
slice_snoc l a i h k =
    let n : a ≤ length (take i l) = rw (length-take-le i l (omega arith)) h in
    rw (add-one, take-suc l i 0 k, drop-append-le a (take i l) (get_or l i 0 ∷ []) n) refl

-- a part is its first bytes and the others
pub slice-split : (a m n : ℕ) (l : List ℕ) → a ≤ m → m ≤ length l → slice a (m + n) l ≡ slice a m l ++ slice m (m + n) l
slice-split a m n l h k =
    let g : a ≤ length (take m l) = rw (length-take-le m l k) h in
    ap (drop a) (take-add m n l) ∙ drop-append-le a (take m l) (take n (drop m l)) g ∙ ap (λ (x : List ℕ). slice a m l ++ x) (sym (slice-part m n l))

-- ---- a part that is copied byte by byte, as many as fit
module _ (out src : List ℕ) (at a e : ℕ) (h : a ≤ e) (k : e ≤ length src) where
  pub part_step : (from i : ℕ) (mid : List ℕ) → a + i < e → mid ≡ over_at out from (slice a (a + i) src)
      → set mid (from + i) (get_or src (a + i) 0) ≡ over_at out from (slice a (a + (i + 1)) src)
  part_step from i mid l w =
      let b = get_or src (a + i) 0 in
      let n : length (slice a (a + i) src) ≡ i = length-slice a (a + i) src (omega arith) ∙ (omega arith) in
      let p : a + (i + 1) ≡ a + i + 1 = omega arith in
      at_set mid (from + i) b
      ∙ rw (w, p, slice_snoc src a (a + i) (omega arith) (omega arith))
      (ap (λ (x : ℕ). over_at (over_at out from (slice a (a + i) src)) (from + x) (b ∷ [])) (sym n) ∙ at-then out from (slice a (a + i) src) (b ∷ []))

  part-fits : (count : ℕ) → at ≤ length out → count ≡ min (e - a) (length out - at) → over_at out at (slice a (a + count) src) ≡ over_at out at (slice a e src)
  part-fits count l d = by-test (leb (e - a) (length out - at)) all some
    where
      all : leb (e - a) (length out - at) ≡ true → over_at out at (slice a (a + count) src) ≡ over_at out at (slice a e src)
      all t = let z : a + count ≡ e = omega (arith, leb-true (e - a) (length out - at) t) in rw z

      some : leb (e - a) (length out - at) ≡ false → over_at out at (slice a (a + count) src) ≡ over_at out at (slice a e src)
      some t =
          let u = leb-false (e - a) (length out - at) t in
          let z : e ≡ a + count + (e - (a + count)) = omega arith in
          let n : length (slice a (a + count) src) ≡ a + count - a = length-slice a (a + count) src (omega arith) in
          let y : slice a e src ≡ slice a (a + count) src ++ slice (a + count) (a + count + (e - (a + count))) src =
          ap (λ (x : ℕ). slice a x src) z ∙ slice-split a (a + count) (e - (a + count)) src (omega arith) (omega arith) in
          sym (ap (over_at out at) y ∙ at_cut out at (slice a (a + count) src) (slice (a + count) (a + count + (e - (a + count))) src) (omega arith))

  pub part-done : (from count : ℕ) → from ≡ min at (length out) → count ≡ min (e - a) (length out - from)
      → over_at out from (slice a (a + count) src) ≡ over_at out at (slice a e src)
  part-done from count f d = by-test (leb at (length out)) inner past
    where
      inner : leb at (length out) ≡ true → over_at out from (slice a (a + count) src) ≡ over_at out at (slice a e src)
      inner t =
          let l = leb-true at (length out) t in
          let z : from ≡ at = omega arith in
          rw z (part-fits count l (omega arith))

      past : leb at (length out) ≡ false → over_at out from (slice a (a + count) src) ≡ over_at out at (slice a e src)
      past t =
          let l = leb-false at (length out) t in
          at-past out from (slice a (a + count) src) (omega arith) ∙ sym (at-past out at (slice a e src) (omega arith))

module _ {src cells : List ℕ} where
  pub valid-fit : {lo hi at : ℕ} → Valid src cells lo hi → hi ≤ 2 ^ 32 → at < 2 ^ 60 → Fit src cells lo hi at
  valid-fit x h g = record { forest = x.forest; tape = x.tape; room = omega (arith, length-write x.tape) }

  pub fit-start : {lo hi at : ℕ} → Fit src cells lo hi at → Fit src cells lo hi 0
  fit-start x = record { forest = x.forest; tape = x.tape; room = omega (arith, x.room) }

  -- the room for a node's inside, once its opening tag is written
  pub inner-fit : {p at to : ℕ} {out left : List ℕ} → (g : Fit src cells p (next_at cells p) at) → Inner src cells p g.forest
      → Wrote out at (opening (eqb (head_at cells p % 4) 1) (bytes_at src cells p)) to left → Fit src cells (p + 1) (next_at cells p) to
  inner-fit g i w =
      record { forest = i.kids; tape = i.tape; room = omega (arith, g.room, w.place, simp length-append at (ap length i.written)) }

  -- the room for the next node
  pub rest-fit : {lo p q at to : ℕ} {out left : List ℕ} → (g : Fit src cells lo q at) → Rest src cells p q (write g.forest) out at to left → p < q
      → Fit src cells p (next_at cells p) to
  rest-fit g x l =
      let s = split x.tape l in
      record {
        forest = s.first;
        tape = s.here;
        room = omega (arith, g.room, x.wrote.place, simp length-append at (ap length x.all), simp length-append at (ap length s.written));
      }

  -- a run of text, by itself
  pub text-writes : {p to r : ℕ} {mid left : List ℕ} → p < next_at cells p → head_at cells p % 4 ≡ 0 → Wrote mid to (spelt (bytes_at src cells p)) r left
      → Writes src cells p (next_at cells p) mid to r left
  unfolding write
  text-writes l k w f t = rw (text-node t l k, append-nil) w

  -- nodes that are one run of text
  pub run-writes : {p q to r : ℕ} {mid left : List ℕ} → OneRun src cells p q → Wrote mid to (spelt (bytes_at src cells p)) r left → Writes src cells p q mid to r left
  run-writes x w f t = text-writes x.node.forward x.run w f (rw x.ends at t)
