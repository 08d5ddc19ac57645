-- A walk along the tape that writes something of each node in turn: what it has written, and what is left.
use Rattle.std.specs.Prelude.{ℕ, ◌+◌, ◌-◌, ◌/◌, ◌%◌, ◌<◌, ◌≤◌, ◌≡◌, refl, List, [], ◌++◌, take, drop}
use Rattle.std.proofs.Common.{arith, sym, ◌∙◌, ap, append-nil, append_assoc}
use Rattle.std.proofs.Math.Bool.{true}
use Rattle.std.proofs.Math.ListN.{length, length-append}
use Rattle.std.proofs.Math.Seq.{length-slice}
use Rattle.xml.specs.Bytes.{Bytes, bytes}
use Rattle.xml.specs.Forest.{Forest, end, elem, text, join, escape}
use Rattle.xml.specs.Signs.{spelt}
use Rattle.xml.specs.Over.{Wrote}
use Rattle.xml.specs.OverLaws.{length_at, wrote_none, wrote_then}
use Rattle.xml.specs.Tape.{head_at, next_at, start_in, end_in, Tape, Valid}
use Rattle.xml.specs.TapeLaws.{Front, bytes_at, slice-part, opening, closing, split, text-node, inner-node, tape-le, tape-none}

-- what is written of a forest: of siblings one after the other, of a run the run, of an element its tags around what it holds
pub record Pieces (w : Forest → Bytes) : Type 0 where
  pub nothing : w end ≡ []
  pub both : (f g : Forest) → w (join f g) ≡ w f ++ w g
  pub run : (b : Bytes) → w (text b end) ≡ escape b
  pub element : (b : Bytes) (k : Forest) → w (elem b k end) ≡ opening true b ++ w k ++ closing true b

-- whichever forest the nodes lo to hi are, w of it is written
abbrev pub Renders : (Forest → Bytes) → List ℕ → List ℕ → ℕ → ℕ → List ℕ → ℕ → ℕ → List ℕ → Type 0
Renders w src cells lo hi out at r left = (f : Forest) → Tape src cells lo hi f → Wrote out at (w f) r left

-- a writer on its way: of `whole`, it has written `done`, and the nodes p to q are left
pub record Going (w : Forest → Bytes) (src cells : List ℕ) (p q : ℕ) (whole out : List ℕ) (at to : ℕ) (left : List ℕ) : Type 0 where
  pub done : Bytes
  pub rest : Forest
  pub tape : Tape src cells p q rest
  pub all : whole ≡ done ++ w rest
  pub wrote : Wrote out at done to left

-- ---- the nodes of a tape, one by one
-- the part of the text that is lent for a node's bytes
pub node-part : (src cells : List ℕ) (p : ℕ)
    → take (end_in (head_at cells p) - start_in (head_at cells p)) (drop (start_in (head_at cells p)) src) ≡ bytes_at src cells p
node-part src cells p =
    let h = head_at cells p in
    let e : end_in h - start_in h ≡ h / 4 % 32768 = omega arith in
    rw e (sym (slice-part (start_in h) (h / 4 % 32768) src))

module _ {src cells : List ℕ} where
  pub valid-inside : {p : ℕ} → Valid src cells p (next_at cells p) → p < next_at cells p → (head_at cells p % 4 ≡ 0 → ⊥) → Valid src cells (p + 1) (next_at cells p)
  valid-inside x l k = let i = inner-node x.tape l k in record { forest = i.kids; tape = i.tape }

  -- a tag takes less room than a node has
  pub open-room : {p q at a : ℕ} {out mid : List ℕ} → Front src cells p q → Wrote out at (opening true (bytes_at src cells p)) a mid → a ≤ at + 32769
  unfolding opening bytes
  open-room {p} {at = at} {a = a} h w =
      let e : a ≡ at + length (opening true (bytes_at src cells p)) = w.place in
      omega (arith, simp length-append at e, length-slice (start_in (head_at cells p)) (end_in (head_at cells p)) src h.within)

  module _ {w : Forest → Bytes} where
    pub going-none : {p q : ℕ} {f : Forest} {out : List ℕ} {at : ℕ} → Tape src cells p q f → Going w src cells p q (w f) out at at out
    going-none h = record { done = []; rest = _; tape = h; all = refl; wrote = wrote_none }

    pub going_more : {p q : ℕ} {whole out : List ℕ} {at to r : ℕ} {mid left : List ℕ} → Pieces w → Going w src cells p q whole out at to mid → p < q
        → Renders w src cells p (next_at cells p) mid to r left → Going w src cells (next_at cells p) q whole out at r left
    going_more z x l h =
        let s = split x.tape l in
        record {
          done = x.done ++ w s.first;
          rest = s.rest;
          tape = s.after;
          all = x.all ∙ ap (λ (v : Bytes). x.done ++ v) (ap w s.is ∙ z.both s.first s.rest) ∙ sym (append_assoc x.done (w s.first) (w s.rest));
          wrote = wrote_then x.wrote (h s.first s.here);
        }

    pub going_done : {p q : ℕ} {whole out : List ℕ} {at to : ℕ} {left : List ℕ} → Pieces w → Going w src cells p q whole out at to left → q ≤ p → Wrote out at whole to left
    going_done {p} {q} z x l =
        let e : q ≡ p = omega (arith, tape-le x.tape) in
        rw (x.all, tape-none (rw e at x.tape), z.nothing, append-nil) x.wrote

    pub going-length : {p q : ℕ} {whole out : List ℕ} {at to : ℕ} {left : List ℕ} → Going w src cells p q whole out at to left → length left ≡ length out
    going-length x = ap length x.wrote.bytes ∙ length_at _ _ _

    -- a run of text, by itself
    pub text-renders : {p at r : ℕ} {out left : List ℕ} → Pieces w → p < next_at cells p → head_at cells p % 4 ≡ 0 → Wrote out at (spelt (bytes_at src cells p)) r left
        → Renders w src cells p (next_at cells p) out at r left
    text-renders z l k h f t = rw (text-node t l k, z.run _) h

    -- an element, by itself
    pub element-renders : {p at a b r : ℕ} {out mid more left : List ℕ} → Pieces w → p < next_at cells p → head_at cells p % 4 ≡ 1
        → Wrote out at (opening true (bytes_at src cells p)) a mid → Renders w src cells (p + 1) (next_at cells p) mid a b more
        → Wrote more b (closing true (bytes_at src cells p)) r left → Renders w src cells p (next_at cells p) out at r left
    element-renders {p} z l k x h y f t =
        let i = inner-node t l (λ e. omega arith) in
        rw (i.element k, z.element (bytes_at src cells p) i.kids) (wrote_then (wrote_then x (h i.kids i.tape)) y)
