-- The limits of every version by the sizes that the walk has added up.
use Prim.Native.Nat.{ℕ, suc, ◌+◌, ◌-◌, ◌≤◌, ◌<◌}
use native.Mathlib.Omega.{arith}
use Rattle.std.proofs.Math.Numerals.{add-one}
use Rattle.std.specs.Prelude.{◌≡◌, Bool, true, false, ◌&&◌, List, []}
use Rattle.std.proofs.Math.Path.{refl}
use Rattle.std.proofs.Common.{sym, ◌∙◌, ap}
use borrow.Author.Tests.{le-leb, lt-leb}
use Rattle.std.proofs.Math.Dec.{leb}
use Rattle.std.proofs.Math.ListN.{get_or}
use Rattle.xml.specs.Bytes.{all}
use Rattle.xml.specs.Truth.{clash, not_so, and_right, and_both}
use Rattle.xml.specs.Forest.{Forest}
use Rattle.xml.specs.Tape.{Tape}
use Rattle.keys.specs.KeyList.{KeyList}
use Rattle.timestamp.specs.Times.{always, up_from}
use Rattle.versions.specs.Walk.{siblings_legal}

-- the nodes lo to hi are the inside of an archive of n versions that is legal, its limits apart
pub record LegalInside (src cells : List ℕ) (lo hi n : ℕ) : Type 0 where
  pub forest : Forest
  pub tape : Tape src cells lo hi forest
  pub few : hi ≤ 16384
  pub some-there : 1 ≤ n
  pub not_more : n ≤ 999
  pub keys : KeyList
  pub legal : siblings_legal keys n [] (always n) forest ≡ true

-- version i is within the limits
unfoldable pub is_small : List ℕ → List ℕ → ℕ → ℕ → ℕ → Bool
is_small nodes bytes x y i = leb (x + get_or nodes i 0) 512 && leb (y + get_or bytes i 0) 16384

module _ (nodes bytes : List ℕ) (x y i : ℕ) where
  pub small-nodes : 512 < x + get_or nodes i 0 → is_small nodes bytes x y i ≡ false
  unfolding is_small
  small-nodes h = rw (lt-leb (x + get_or nodes i 0) 512 h) refl

  pub small_bytes : 16384 < y + get_or bytes i 0 → is_small nodes bytes x y i ≡ false
  unfolding is_small
  small_bytes h = not_so (leb (x + get_or nodes i 0) 512 && leb (y + get_or bytes i 0) 16384) (λ e.
      clash (sym (and_right (leb (x + get_or nodes i 0) 512) (leb (y + get_or bytes i 0) 16384) e) ∙ lt-leb (y + get_or bytes i 0) 16384 h))

  pub small-both : x + get_or nodes i 0 ≤ 512 → y + get_or bytes i 0 ≤ 16384 → is_small nodes bytes x y i ≡ true
  unfolding is_small
  small-both h g = and_both (leb (x + get_or nodes i 0) 512) (leb (y + get_or bytes i 0) 16384) (le-leb (x + get_or nodes i 0) 512 h) (le-leb (y + get_or bytes i 0) 16384 g)

-- ---- a test of the versions from i to n, one after the other
module _ (P : ℕ → Bool) (i n : ℕ) where
  pub each_more : i ≤ n → P i ≡ true → all P (up_from i (n + 1 - i)) ≡ all P (up_from (i + 1) (n + 1 - (i + 1)))
  unfolding up_from all
  each_more l e =
      let z : n + 1 - i ≡ suc (n - i) = omega arith in
      let y : n + 1 - (i + 1) ≡ n - i = omega arith in
      rw (z, y, add-one i, e) refl

  pub each-not : i ≤ n → P i ≡ false → all P (up_from i (n + 1 - i)) ≡ false
  unfolding up_from all
  each-not l e = let z : n + 1 - i ≡ suc (n - i) = omega arith in rw (z, e) refl

  pub each-done : n < i → all P (up_from i (n + 1 - i)) ≡ true
  unfolding up_from all
  each-done l = let z : n + 1 - i ≡ 0 = omega arith in rw z refl

pub each_start : (P : ℕ → Bool) (n : ℕ) → all P (up_from 1 n) ≡ all P (up_from 1 (n + 1 - 1))
each_start P n = let z : n ≡ n + 1 - 1 = omega arith in ap (λ (m : ℕ). all P (up_from 1 m)) z
