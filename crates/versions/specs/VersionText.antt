-- The text of a version that an archive's forest holds: its laws for a writer that walks along the tape.
use Rattle.std.specs.Prelude.{ℕ, ◌+◌, ◌*◌, ◌-◌, ◌%◌, ◌<◌, ◌≤◌, ◌≡◌, Bool}
use native.Mathlib.Omega.{arith}
use Rattle.std.proofs.Math.Path.{refl, sym, ap}
use Rattle.std.proofs.Common.{◌∙◌}
use Rattle.std.proofs.Math.Bool.{true, false}
use mathlib.Core.List.{List, append-nil, append_assoc}
use Rattle.std.proofs.Math.ListN.{length, length-append}
use Rattle.xml.specs.Bytes.{Bytes}
use Rattle.xml.specs.Forest.{Forest, end, elem, text, stamp, join, write}
use Rattle.xml.specs.Complete.{join-end}
use Rattle.xml.specs.OverLaws.{wrote_none}
use Rattle.xml.specs.Tape.{head_at, next_at, Tape}
use Rattle.xml.specs.TapeLaws.{bytes_at, opening, closing, inner-node, length-write}
use Rattle.timestamp.specs.Times.{belongs}
use Rattle.versions.specs.Archive.{pick}
use Rattle.versions.specs.Sizes.{write-join}
use Rattle.versions.specs.Rendered.{Pieces, Renders}

-- version i of an archive's forest, written
unfoldable pub version_text : ℕ → Forest → Bytes
version_text i f = write (pick i f)

pub join-assoc : (f g h : Forest) → join (join f g) h ≡ join f (join g h)
unfolding join
join-assoc end g h = refl
join-assoc (text b r) g h = ap (text b) (join-assoc r g h)
join-assoc (elem n k r) g h = ap (elem n k) (join-assoc r g h)
join-assoc (stamp t k r) g h = ap (stamp t k) (join-assoc r g h)

module _ (i : ℕ) where
  pub pick-join : (f g : Forest) → pick i (join f g) ≡ join (pick i f) (pick i g)
  unfolding pick join
  pick-join end g = refl
  pick-join (text b r) g = ap (text b) (pick-join r g)
  pick-join (elem n k r) g = ap (elem n (pick i k)) (pick-join r g)
  pick-join (stamp t k r) g = go (belongs i t) (pick-join r g)
    where
      go : (x : Bool) → pick i (join r g) ≡ join (pick i r) (pick i g)
          → elim x as (λ _. Forest) [ true ↦ join (pick i k) (pick i (join r g)) | false ↦ pick i (join r g) ]
          ≡ join (elim x as (λ _. Forest) [ true ↦ join (pick i k) (pick i r) | false ↦ pick i r ]) (pick i g)
      go true e = ap (join (pick i k)) e ∙ sym (join-assoc (pick i k) (pick i r) (pick i g))
      go false e = e

  pub version-pieces : Pieces (version_text i)
  unfolding version_text pick write opening closing
  version-pieces = record {
    nothing = refl;
    both = λ f g. ap write (pick-join f g) ∙ write-join (pick i f) (pick i g);
    run = λ b. append-nil _;
    element = λ b k. simp (append-nil, append_assoc);
  }

  -- what is left out only makes it shorter
  pub pick-shorter : (f : Forest) → length (write (pick i f)) ≤ length (write f)
  unfolding pick write
  pick-shorter end = omega arith
  pick-shorter (text b r) = simp length-append (omega (arith, pick-shorter r))
  pick-shorter (elem n k r) = simp length-append (omega (arith, pick-shorter k, pick-shorter r))
  pick-shorter (stamp t k r) = go (belongs i t) (pick-shorter k) (pick-shorter r)
    where
      go : (x : Bool) → length (write (pick i k)) ≤ length (write k) → length (write (pick i r)) ≤ length (write r)
          → length (write (elim x as (λ _. Forest) [ true ↦ join (pick i k) (pick i r) | false ↦ pick i r ])) ≤ length (write (stamp t k r))
      go true h g = rw write-join (simp length-append (omega arith))
      go false h g = simp length-append (omega arith)

  module _ {src cells : List ℕ} where
    pub version-length : {p q : ℕ} {f : Forest} → Tape src cells p q f → length (version_text i f) ≤ 163840 * (q - p)
    unfolding version_text
    version-length {f = f} t = omega (arith, pick-shorter f, length-write t)

    -- a `T` with version i, by itself
    pub stamp-in : {p at r : ℕ} {out left : List ℕ} → p < next_at cells p → head_at cells p % 4 ≡ 2 → belongs i (bytes_at src cells p) ≡ true
        → Renders (version_text i) src cells (p + 1) (next_at cells p) out at r left → Renders (version_text i) src cells p (next_at cells p) out at r left
    unfolding version_text pick
    stamp-in l k e h f t =
        let x = inner-node t l (λ z. omega arith) in
        rw (x.timed k, e, pick, join-end) (h x.kids x.tape)

    -- one without it
    pub stamp-out : {p at : ℕ} {out : List ℕ} → p < next_at cells p → head_at cells p % 4 ≡ 2 → belongs i (bytes_at src cells p) ≡ false
        → Renders (version_text i) src cells p (next_at cells p) out at at out
    unfolding version_text pick write
    stamp-out l k e f t =
        let x = inner-node t l (λ z. omega arith) in
        rw (x.timed k, e, pick) wrote_none
