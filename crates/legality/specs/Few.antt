-- How many siblings some nodes are.
use Rattle.std.specs.Prelude.{ℕ, ◌+◌, ◌<◌, ◌≡◌, List}
use Rattle.std.proofs.Math.Path.{ap}
use Rattle.std.proofs.Common.{arith}
use Rattle.xml.specs.Forest.{Forest, end, elem, text, stamp}
use Rattle.xml.specs.Tape.{next_at, Tape, at-end, at-text, at-elem, at-stamp}
use Rattle.xml.specs.TapeLaws.{tape-none, tape-one}

unfoldable pub siblings : Forest → ℕ
siblings end = 0
siblings (text b r) = 1 + siblings r
siblings (elem m k r) = 1 + siblings r
siblings (stamp s k r) = 1 + siblings r

module _ {src cells : List ℕ} where
  pub siblings-none : {p : ℕ} {f : Forest} → Tape src cells p p f → siblings f ≡ 0
  unfolding siblings
  siblings-none t = ap siblings (tape-none t)

  pub siblings-more : {p q : ℕ} {f g : Forest} → Tape src cells p q f → p < q → Tape src cells (next_at cells p) q g → siblings f ≡ 1 + siblings g
  unfolding siblings
  siblings-more (at-end e) l t = absurd (omega arith)
  siblings-more (at-text n u e r) l t = ap (λ (f : Forest). 1 + siblings f) (tape-one r (rw e at t))
  siblings-more (at-elem n k r) l t = ap (λ (f : Forest). 1 + siblings f) (tape-one r t)
  siblings-more (at-stamp n k r) l t = ap (λ (f : Forest). 1 + siblings f) (tape-one r t)
