-- The text of an archive's nodes after a step back to version i: its laws for a writer that walks along the tape.
use Rattle.std.specs.Prelude.{ℕ, ◌+◌, ◌*◌, ◌-◌, ◌%◌, ◌<◌, ◌≤◌, ◌≡◌, Bool, true, false, length}
use Rattle.std.proofs.Common.{arith, ◌∙◌, subst, length-append}
use Rattle.std.proofs.Math.Path.{refl, sym, ap}
use Rattle.std.proofs.Math.Bool.{not}
use mathlib.Core.List.{List, append-nil, append_assoc}
use Rattle.xml.specs.Bytes.{Bytes, bytes}
use Rattle.xml.specs.Forest.{Forest, end, elem, text, stamp, join, write}
use Rattle.xml.specs.Complete.{join-end}
use Rattle.xml.specs.Over.{Wrote}
use Rattle.xml.specs.OverLaws.{wrote_none, wrote_then}
use Rattle.xml.specs.Tape.{head_at, next_at, Tape}
use Rattle.xml.specs.TapeLaws.{bytes_at, opening, closing, inner-node, length-write}
use Rattle.timestamp.specs.Times.{Times, same_times, write_times, always}
use Rattle.timestamp.specs.Set.{same_set, is_none, up_to}
use Rattle.timestamp.specs.Listed.{listed, text_of, Only, same-listed, text-listed, text-up-to, listed-up-to}
use Rattle.timestamp.proofs.LongestLaws.{text-short}
use Rattle.versions.specs.Walk.{times_in, ever, back_in, back_forest, inside_of}
use Rattle.versions.specs.ListedLaws.{ever-listed}
use Rattle.versions.specs.Sizes.{write-join}
use Rattle.versions.specs.BackContents.{settled}
use Rattle.versions.specs.BackLength.{length-in}
use Rattle.versions.specs.VersionText.{join-assoc}
use Rattle.versions.specs.Rendered.{Pieces, Renders}
use Rattle.versions.specs.Timely.{Timely}

-- what is written of nodes in an element that stands in the versions `around`
unfoldable pub back_text : ℕ → Times → Forest → Bytes
back_text i around f = write (back_in i around f)

-- a `T`, by the tests that the code makes
back-settled : (i : ℕ) (around : Times) (s : Bytes) (k r : Forest)
    → back_in i around (stamp s k r) ≡ settled (ever (times_in i s)) (same_times around (times_in i s)) (write_times (times_in i s)) (back_in i (times_in i s) k) (back_in i around r)
unfolding back_in
back-settled i around s k r = go (ever (times_in i s)) (same_times around (times_in i s)) (write_times (times_in i s)) (back_in i (times_in i s) k) (back_in i around r)
  where
    go : (b c : Bool) (s : Bytes) (j h : Forest)
        → elim b as (λ _. Forest) [ false ↦ h | true ↦ elim c as (λ _. Forest) [ true ↦ join j h | false ↦ stamp s j h ] ] ≡ settled b c s j h
    go false c s j h = refl
    go true true s j h = refl
    go true false s j h = refl

settled-join : (b c : Bool) (s : Bytes) (j r g : Forest) → join (settled b c s j r) g ≡ settled b c s j (join r g)
unfolding join
settled-join false c s j r g = refl
settled-join true true s j r g = join-assoc j r g
settled-join true false s j r g = refl

module _ (i : ℕ) (around : Times) where
  back-join : (f g : Forest) → back_in i around (join f g) ≡ join (back_in i around f) (back_in i around g)
  unfolding back_in join
  back-join end g = refl
  back-join (text b r) g = ap (text b) (back-join r g)
  back-join (elem n k r) g = ap (elem n (back_in i around k)) (back-join r g)
  back-join (stamp s k r) g =
      let t = times_in i s in
      back-settled i around s k (join r g)
      ∙ ap (settled (ever t) (same_times around t) (write_times t) (back_in i t k)) (back-join r g)
      ∙ sym (settled-join (ever t) (same_times around t) (write_times t) (back_in i t k) (back_in i around r) (back_in i around g))
      ∙ ap (λ (f : Forest). join f (back_in i around g)) (sym (back-settled i around s k r))

  pub back-pieces : Pieces (back_text i around)
  unfolding back_text back_in write opening closing
  back-pieces = record {
    nothing = refl;
    both = λ f g. ap write (back-join f g) ∙ write-join (back_in i around f) (back_in i around g);
    run = λ b. append-nil _;
    element = λ b k. simp (append-nil, append_assoc);
  }

  pub back-length : {src cells : List ℕ} {p q : ℕ} (x : Timely i src cells p q) → length (back_text i around x.forest) ≤ 163840 * (q - p)
  unfolding back_text
  back-length x = omega (arith, length-in x.last i around x.forest x.reach x.small x.timed, length-write x.tape)

-- a `T` alone whose set, cut at i, is u, in an element that stands in a
module _ (i : ℕ) (a u : ℕ → Bool) (small : i ≤ 999) (oa : Only i a) (ou : Only i u) where
  back-timed : (s : Bytes) (k : Forest) → listed i u ≡ times_in i s
      → back_text i (listed i a) (stamp s k end) ≡ write (settled (not (is_none u)) (same_set a u) (text_of u) (back_in i (listed i u) k) end)
  unfolding back_text back_in
  back-timed s k e =
      let b : ever (times_in i s) ≡ not (is_none u) = ap ever (sym e) ∙ ever-listed i u ou (omega arith) in
      let c : same_times (listed i a) (times_in i s) ≡ same_set a u = ap (same_times (listed i a)) (sym e) ∙ sym (same-listed i a u oa ou (omega arith)) in
      let d : write_times (times_in i s) ≡ text_of u = ap write_times (sym e) ∙ sym (text-listed i u small ou) in
      ap write (back-settled i (listed i a) s k end) ∙ rw (b, c, d, ← e)

  module _ {src cells : List ℕ} {p : ℕ} (l : p < next_at cells p) (k : head_at cells p % 4 ≡ 2) (e : listed i u ≡ times_in i (bytes_at src cells p)) where
    -- cut to nothing
    pub back-dropped : {at : ℕ} {out : List ℕ} → is_none u ≡ true → Renders (back_text i (listed i a)) src cells p (next_at cells p) out at at out
    unfolding write
    back-dropped x f t =
        let n = inner-node t l (λ z. omega arith) in
        rw (n.timed k, back-timed (bytes_at src cells p) n.kids e, x) wrote_none

    -- cut to the set around it
    pub back-bare : {at r : ℕ} {out left : List ℕ} → is_none u ≡ false → same_set a u ≡ true
        → Renders (back_text i (listed i u)) src cells (p + 1) (next_at cells p) out at r left → Renders (back_text i (listed i a)) src cells p (next_at cells p) out at r left
    unfolding back_text
    back-bare x y h f t =
        let n = inner-node t l (λ z. omega arith) in
        rw (n.timed k, back-timed (bytes_at src cells p) n.kids e, x, y, join-end) (h n.kids n.tape)

    -- cut to another set
    pub back-wrapped : {at b c r : ℕ} {out mid more left : List ℕ} → is_none u ≡ false → same_set a u ≡ false → Wrote out at (opening false (text_of u)) b mid
        → Renders (back_text i (listed i u)) src cells (p + 1) (next_at cells p) mid b c more → Wrote more c (closing false (bytes_at src cells p)) r left
        → Renders (back_text i (listed i a)) src cells p (next_at cells p) out at r left
    unfolding back_text write opening closing
    back-wrapped x y v h w f t =
        let n = inner-node t l (λ z. omega arith) in
        rw (n.timed k, back-timed (bytes_at src cells p) n.kids e, x, y, append-nil) (wrote_then (wrote_then v (h n.kids n.tape)) w)

-- the opening tag with a set is short
pub times-room : (u : ℕ → Bool) {at r : ℕ} {out left : List ℕ} → Wrote out at (opening false (text_of u)) r left → r ≤ at + 3008
unfolding opening bytes
times-room u {at} {r} w =
    let e : r ≡ at + length (opening false (text_of u)) = w.place in
    omega (arith, simp length-append at e, text-short u)

-- the whole archive: `<T t="1-i">` around what the outer `T` holds
pub back_whole : (i : ℕ) (u : ℕ → Bool) {src cells out mid more left : List ℕ} {hi at b c r : ℕ} → i ≤ 999 → u ≡ up_to i → 0 < hi → next_at cells 0 ≡ hi → head_at cells 0 % 4 ≡ 2
    → Wrote out at (opening false (text_of u)) b mid → Renders (back_text i (listed i u)) src cells 1 hi mid b c more → Wrote more c (bytes "</T>") r left
    → (f : Forest) → Tape src cells 0 hi f → Wrote out at (write (back_forest i f)) r left
unfolding back_text back_forest inside_of write opening
back_whole i u {src} {cells} small z l e k v h w f t =
    let n = inner-node (subst (λ (q : ℕ). Tape src cells 0 q f) (sym e) t) (rw e l) (λ x. omega arith) in
    let a : write_times (always i) ≡ text_of u = sym (ap text_of z ∙ text-up-to i small) in
    let d : always i ≡ listed i u = sym (ap (listed i) z ∙ listed-up-to i) in
    rw (n.timed k, append-nil, a, d) (wrote_then (wrote_then v (h n.kids (subst (λ (q : ℕ). Tape src cells 1 q n.kids) e n.tape))) w)
