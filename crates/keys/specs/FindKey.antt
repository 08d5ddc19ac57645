-- The child of an element that a key names: where it stands on the tape, and its value.
use Rattle.std.specs.Prelude.{ℕ, ◌+◌, ◌%◌, ◌<◌, ◌≤◌, ◌≡◌, refl, false}
use Rattle.std.proofs.Common.{arith, sym, ◌∙◌}
use Rattle.std.proofs.Math.Path.{ap}
use Rattle.std.proofs.Math.Bool.{true}
use mathlib.Core.List.{List, [], ◌∷◌}
use Rattle.xml.specs.Bytes.{Bytes, same, is_value}
use Rattle.xml.specs.Truth.{clash}
use Rattle.xml.specs.Forest.{Forest}
use Rattle.xml.specs.Tape.{head_at, next_at, Node, Tape, at-end, at-text, at-elem, at-stamp}
use Rattle.xml.specs.TapeLaws.{bytes_at, Front, front, tape-le}
use Rattle.keys.specs.Version.{called, is_key_value, is_one_value, run_in, value_in}
use Rattle.keys.specs.Values.{value-plain}
use Rattle.keys.specs.Walks.{Going, going_done, parted, going-past, going-over}

-- of the siblings up to hi, the element r is the first of those of the name, which hold fs
pub record Child (src cells : List ℕ) (key : Bytes) (hi r : ℕ) (fs : List Forest) : Type 0 where
  pub front : Front src cells r hi
  pub kids : Forest
  pub rest : Forest
  pub inside : Tape src cells (r + 1) (next_at cells r) kids
  pub after : Tape src cells (next_at cells r) hi rest
  pub are : fs ≡ kids ∷ called key rest

-- that element; or hi, where there is none
pub data KeyAt (src cells : List ℕ) (key : Bytes) (hi r : ℕ) (fs : List Forest) : Type 0 where
  nowhere : r ≡ hi → fs ≡ [] → KeyAt src cells key hi r fs
  there : Child src cells key hi r fs → KeyAt src cells key hi r fs

module _ {src cells : List ℕ} where
  -- the value of a key child is the bytes of its one run of text
  held-value : {p q : ℕ} {k : Forest} → Tape src cells p q k → is_key_value k ≡ true → Node src cells p 0 (run_in k)
  unfolding is_key_value run_in
  held-value (at-end e) h = clash (sym h)
  held-value (at-elem n i t) h = clash (sym h)
  held-value (at-stamp n i t) h = clash (sym h)
  held-value (at-text {raw = raw} n u e (at-end d)) h = rw (sym u ∙ value-plain raw (ap is_value u ∙ h)) n
  held-value (at-text n u e (at-text m v d t)) h = clash (sym h)
  held-value (at-text n u e (at-elem m i t)) h = clash (sym h)
  held-value (at-text n u e (at-stamp m i t)) h = clash (sym h)

-- ---- a search on its way: the nodes p to q are left, and hold all elements of the name
module _ {src cells : List ℕ} (key : Bytes) {p q : ℕ} {fs : List Forest} (x : Going src cells p q fs (called key)) (l : p < q) where
  pub key-over : (head_at cells p % 4 ≡ 1 → ⊥) → Going src cells (next_at cells p) q fs (called key)
  unfolding called
  key-over = going-over (called key) (λ b r. refl) (λ t k r. refl) x l

  pub key-past : head_at cells p % 4 ≡ 1 → same key (bytes_at src cells p) ≡ false → Going src cells (next_at cells p) q fs (called key)
  unfolding called
  key-past k s = let y = parted x.tape l k in going-past (called key) x y (rw (sym (ap (same key) y.node.bytes-are) ∙ s, called))

  pub key_here : head_at cells p % 4 ≡ 1 → same key (bytes_at src cells p) ≡ true → KeyAt src cells key q p fs
  unfolding called
  key_here k s =
      let y = parted x.tape l k in
      there (record {
        front = front x.tape l;
        kids = y.kids;
        rest = y.rest;
        inside = y.inner;
        after = y.after;
        are = x.same ∙ ap (called key) y.is ∙ rw (sym (ap (same key) y.node.bytes-are) ∙ s, called);
      })

module _ {src cells : List ℕ} {key : Bytes} where
  pub key-none : {p q : ℕ} {fs : List Forest} → Going src cells p q fs (called key) → q ≤ p → KeyAt src cells key q p fs
  unfolding called
  key-none x l = nowhere (omega (arith, tape-le x.tape)) (going_done x l)

  -- ---- what it found
  module _ {hi r : ℕ} {fs : List Forest} where
    pub called-none : KeyAt src cells key hi r fs → r ≡ hi → fs ≡ []
    called-none (nowhere e n) h = n
    called-none (there c) h = absurd (omega (arith, c.front.forward, c.front.inside))

    pub called-some : KeyAt src cells key hi r fs → (r ≡ hi → ⊥) → Child src cells key hi r fs
    called-some (nowhere e n) h = absurd (h e)
    called-some (there c) h = c

    pub key-value : KeyAt src cells key hi r fs → is_one_value fs ≡ true → Node src cells (r + 1) 0 (value_in fs)
    unfolding is_one_value value_in
    key-value (nowhere e n) h = clash (sym h ∙ ap is_one_value n)
    key-value (there c) h = rw c.are (only (called key c.rest) (rw c.are at h))
      where
        only : (gs : List Forest) → is_one_value (c.kids ∷ gs) ≡ true → Node src cells (r + 1) 0 (value_in (c.kids ∷ gs))
        only [] o = held-value c.inside o
        only (g ∷ gs) o = clash (sym o)
