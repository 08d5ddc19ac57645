-- Content beneath a frontier meets every rule of versions: nothing there is listed, keyed or ordered.
use Rattle.std.specs.Prelude.{◌≡◌, true, false, not, ◌&&◌}
use Rattle.std.proofs.Math.Path.{refl, ap}
use Rattle.std.proofs.lemmas.Bool.{not-true}
use Rattle.model.specs.Masks.{clash}
use Rattle.xml.specs.Bytes.{bytes, all, same}
use Rattle.xml.specs.Forest.{Forest, end, elem, text, stamp}
use Rattle.keys.specs.KeyList.{Path, KeyList, above}
use Rattle.keys.specs.Version.{◌▸◌, misplaced, unkeyed, doubled, ordered}
use Rattle.keys.specs.Legal.{untimed}
use Rattle.xml.specs.Truth.{and_left, and_right, or-both}
use Rattle.keys.specs.KeyListLaws.{beneath, front-bare}

module _ (K : KeyList) where
  pub front-placed : (q : Path) (f : Forest) → above K q ≡ false → untimed f ≡ true → misplaced K q f ≡ false
  unfolding misplaced untimed
  front-placed q end a u = refl
  front-placed q (text b r) a u = rw a (front-placed q r a u)
  front-placed q (stamp t k r) a u = absurd (clash u refl)
  front-placed q (elem n k r) a u =
      let c = and_left (not (same n (bytes "T")) && untimed k) (untimed r) u in
      or-both _ (misplaced K q r)
      (or-both _ (misplaced K (q ▸ n) k)
      (or-both (same n (bytes "T")) _ (not-true _ (and_left (not (same n (bytes "T"))) _ c)) (rw a))
      (front-placed (q ▸ n) k (beneath K q n a) (and_right (not (same n (bytes "T"))) _ c)))
      (front-placed q r a (and_right (not (same n (bytes "T")) && untimed k) _ u))

  pub front-keyed : (q : Path) (f : Forest) → above K q ≡ false → unkeyed K q f ≡ false
  unfolding unkeyed all
  front-keyed q end a = refl
  front-keyed q (text b r) a = front-keyed q r a
  front-keyed q (stamp t k r) a = front-keyed q r a
  front-keyed q (elem n k r) a = rw (front-bare K (q ▸ n) (beneath K q n a)) (or-both (unkeyed K (q ▸ n) k) _ (front-keyed (q ▸ n) k (beneath K q n a)) (front-keyed q r a))

  pub front-single : (q : Path) (f : Forest) → above K q ≡ false → doubled K q f ≡ false
  unfolding doubled
  front-single q end a = refl
  front-single q (text b r) a = front-single q r a
  front-single q (stamp t k r) a = front-single q r a
  front-single q (elem n k r) a = rw a (or-both (doubled K (q ▸ n) k) _ (front-single (q ▸ n) k (beneath K q n a)) (front-single q r a))

  pub front_ordered : (q : Path) (f : Forest) → above K q ≡ false → ordered K q f ≡ f
  unfolding ordered
  front_ordered q end a = refl
  front_ordered q (text b r) a = ap (text b) (front_ordered q r a)
  front_ordered q (stamp t k r) a = ap (stamp t k) (front_ordered q r a)
  front_ordered q (elem n k r) a = rw (a, ordered) (ap (elem n k) (front_ordered q r a))
