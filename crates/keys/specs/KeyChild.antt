-- What makes an element on a tape a key child: it holds a value, and it is the only one of its name.
use Rattle.std.specs.Prelude.{ℕ, ◌%◌, ◌≡◌, false, List, [], ◌∷◌}
use Rattle.std.proofs.Math.Path.{refl, ap}
use Rattle.std.proofs.Common.{sym, ◌∙◌, arith}
use Rattle.xml.specs.Bytes.{is_value}
use Rattle.xml.specs.Forest.{Forest, text}
use Rattle.xml.specs.Tape.{head_at, next_at, Tape, at-end, at-text, at-elem, at-stamp}
use Rattle.xml.specs.TapeLaws.{bytes_at, tape-none}
use Rattle.keys.specs.Version.{is_key_value, is_one_value}
use Rattle.keys.specs.Values.{value-raw}

-- ---- the value of a key child
module _ {src cells : List ℕ} {lo hi : ℕ} where
  pub value_none : {f : Forest} → Tape src cells lo hi f → lo ≡ hi → is_key_value f ≡ false
  unfolding is_key_value
  value_none h e = ap is_key_value (tape-none (rw (← e) at h))

  pub value-node : {f : Forest} → Tape src cells lo hi f → (head_at cells lo % 4 ≡ 0 → ⊥) → is_key_value f ≡ false
  unfolding is_key_value
  value-node (at-end e) k = refl
  value-node (at-text n u e r) k = absurd (k n.kind-is)
  value-node (at-elem n i r) k = refl
  value-node (at-stamp n i r) k = refl

  pub value-more : {f : Forest} → Tape src cells lo hi f → (next_at cells lo ≡ hi → ⊥) → is_key_value f ≡ false
  unfolding is_key_value
  value-more (at-end e) k = refl
  value-more (at-elem n i r) k = refl
  value-more (at-stamp n i r) k = refl
  value-more (at-text n u e (at-end d)) k = absurd (k (omega arith))
  value-more (at-text n u e (at-text m v d r)) k = refl
  value-more (at-text n u e (at-elem m i r)) k = refl
  value-more (at-text n u e (at-stamp m i r)) k = refl

  pub value-text : {f : Forest} → Tape src cells lo hi f → (lo ≡ hi → ⊥) → head_at cells lo % 4 ≡ 0 → next_at cells lo ≡ hi → is_key_value f ≡ is_value (bytes_at src cells lo)
  unfolding is_key_value
  value-text (at-end e) d k h = absurd (d e)
  value-text (at-elem n i r) d k h = absurd (omega (arith, n.kind-is))
  value-text (at-stamp n i r) d k h = absurd (omega (arith, n.kind-is))
  value-text (at-text {raw = raw} {b = b} n u e r) d k h =
      ap (λ x. is_key_value (text b x)) (tape-none (rw (sym e ∙ h) at r)) ∙ ap is_value (sym u) ∙ value-raw raw ∙ ap is_value (sym n.bytes-are)

-- "just once"
pub one_none : {fs : List Forest} → fs ≡ [] → is_one_value fs ≡ false
unfolding is_one_value
one_none e = rw e

pub one-twice : {fs gs hs : List Forest} {f g : Forest} → fs ≡ f ∷ gs → gs ≡ g ∷ hs → is_one_value fs ≡ false
unfolding is_one_value
one-twice e h = rw (e, h)

pub one-once : {fs gs : List Forest} {f : Forest} → fs ≡ f ∷ gs → gs ≡ [] → is_one_value fs ≡ is_key_value f
unfolding is_one_value
one-once e h = rw (e, h)
