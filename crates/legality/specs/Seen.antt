-- The hashes of contents seen so far, in a table of 256 words: a bit for each remainder by 16,384. A content whose hash's bit is not set
-- is none of those seen.
use Prim.Native.Nat.{ℕ, ◌+◌, ◌%◌, ◌<◌}
use Rattle.std.proofs.Common.{arith, add-one, sym, ◌∙◌, eq-eqb, take-suc-set}
use Rattle.std.specs.Prelude.{◌≡◌, Bool, true, false, ◌&&◌, ◌||◌, eqb, length, take, set}
use Rattle.std.proofs.Math.Path.{refl, ap}
use mathlib.Core.List.{List, [], ◌∷◌, ◌++◌}
use Rattle.xml.specs.Bytes.{all}
use Rattle.xml.specs.Forest.{Forest, end, elem, text, stamp, same_forest}
use Rattle.xml.specs.Tape.{Tape}
use Rattle.xml.specs.Truth.{clash, and_left, and_right, both, neither, or-first, or-second}
use Rattle.timestamp.specs.Set.{set_of, adding}
use Rattle.versions.specs.Branches.{repeats}
use Rattle.versions.specs.Hashes.{mixed, folded, mixed-small, folded-small, hash_from, hashes_of, HashOf, hashes-apart}

-- the bit of the hash h
unfoldable pub is_seen : List ℕ → ℕ → Bool
is_seen w h = set_of w (h % 16384)

-- the hashes of what the nodes lo to hi hold are set
abbrev pub Seen : List ℕ → List ℕ → ℕ → ℕ → List ℕ → Type 0
Seen src cells lo hi w = (d : Forest) → Tape src cells lo hi d → all (is_seen w) (hashes_of d) ≡ true

-- ---- one hash more
module _ (w v : List ℕ) (h : ℕ) (is : set_of v ≡ adding (h % 16384) (set_of w)) where
  seen-is : (x : ℕ) → is_seen v x ≡ (eqb (x % 16384) (h % 16384) || is_seen w x)
  unfolding is_seen
  seen-is x = ap (λ (s : ℕ → Bool). s (x % 16384)) is

  all_more : (l : List ℕ) → all (is_seen w) l ≡ true → all (is_seen v) (l ++ (h ∷ [])) ≡ true
  unfolding all
  all_more [] a = both (seen-is h ∙ or-first (eqb (h % 16384) (h % 16384)) (is_seen w h) (eq-eqb (h % 16384) (h % 16384) refl)) refl
  all_more (x ∷ l) a =
      both (seen-is x ∙ or-second (eqb (x % 16384) (h % 16384)) (is_seen w x) (and_left (is_seen w x) (all (is_seen w) l) a)) (all_more l (and_right (is_seen w x) (all (is_seen w) l) a))

  pub seen_more : (hashes : List ℕ) (c : ℕ) → c < length hashes → all (is_seen w) (take c hashes) ≡ true → all (is_seen v) (take (c + 1) (set hashes c h)) ≡ true
  seen_more hashes c l a = rw (add-one, take-suc-set hashes c h l) (all_more (take c hashes) a)

-- ---- a content whose hash is not seen
module _ (P : ℕ → Bool) (k : Forest) (not_seen : P (hash_from 0 k) ≡ false) where
  unlike : (j r : Forest) → (P (hash_from 0 j) && all P (hashes_of r)) ≡ true → same_forest k j ≡ false
  unlike j r a = hashes-apart k j _ _ refl refl (λ z. clash (sym (and_left (P (hash_from 0 j)) (all P (hashes_of r)) a) ∙ ap P z ∙ not_seen))

  unseen-new : (d : Forest) → all P (hashes_of d) ≡ true → repeats k d ≡ false
  unfolding all hashes_of repeats
  unseen-new end a = refl
  unseen-new (text b r) a = neither (unlike end r a) (unseen-new r (and_right (P (hash_from 0 end)) (all P (hashes_of r)) a))
  unseen-new (elem b j r) a = neither (unlike j r a) (unseen-new r (and_right (P (hash_from 0 j)) (all P (hashes_of r)) a))
  unseen-new (stamp b j r) a = neither (unlike j r a) (unseen-new r (and_right (P (hash_from 0 j)) (all P (hashes_of r)) a))

pub seen-new : (w : List ℕ) (h : ℕ) (k d : Forest) → h ≡ hash_from 0 k → is_seen w h ≡ false → all (is_seen w) (hashes_of d) ≡ true → repeats k d ≡ false
seen-new w h k d e n a = unseen-new (is_seen w) k (ap (is_seen w) (sym e) ∙ n) d a

-- ---- hashes are below 65,536
hash-small : (h : ℕ) (f : Forest) → h < 65536 → hash_from h f < 65536
unfolding hash_from
hash-small h end l = l
hash-small h (text b r) l = hash-small (folded (mixed h 0) b) r (folded-small (mixed h 0) b (mixed-small h 0))
hash-small h (elem b k r) l = hash-small (hash_from (mixed h 1) k) r (hash-small (mixed h 1) k (mixed-small h 1))
hash-small h (stamp b k r) l = hash-small (hash_from (mixed h 2) k) r (hash-small (mixed h 2) k (mixed-small h 2))

pub hash-fits : {src cells : List ℕ} {lo hi h : ℕ} {f : Forest} → Tape src cells lo hi f → HashOf src cells lo hi h → h < 65536
hash-fits {f = f} t is = rw (is f t) (hash-small 0 f (omega arith))
