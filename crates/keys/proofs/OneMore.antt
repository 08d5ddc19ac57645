-- A key list with one more line: its paths, their places, their key names and what is above.
use Prim.Native.Nat.{ℕ, zero, suc, ◌+◌, ◌<◌}
use native.Mathlib.Nat.{le_of_suc-le-suc, not-suc-le-zero}
use native.Mathlib.Omega.{arith}
use mathlib.Core.Path.{◌≡◌, refl, sym, ◌∙◌, ap, ap₂}
use mathlib.Core.Bool.{Bool, true, false}
use mathlib.Core.List.{List, [], ◌∷◌, ◌++◌, map, flat_map, append_assoc, append-nil, Memᴰ}
use lib.ListN.{length, get_or, length-append, length-map, get_or-append}
use lib.Seq.{get_or-append_seam, get_or-append-add}
use Rattle.xml.specs.Bytes.{Bytes}
use Rattle.xml.specs.Truth.{not_so}
use Rattle.keys.specs.KeyList.{Path, Key, KeyList, same_path, path, implied, paths, key_names_at}
use Rattle.keys.specs.Version.{◌▸◌}
use Rattle.keys.specs.KeyListLaws.{same_path-is, same_path-self}

infixl 66 ◌▷◌
-- the lines of J, and k after them
abbrev pub ◌▷◌ : KeyList → Key → KeyList
J ▷ k = J ++ k ∷ []

pub paths-append : (J K : KeyList) → paths (J ++ K) ≡ paths J ++ paths K
unfolding paths flat_map
paths-append [] K = refl
paths-append (j ∷ J) K = ap (λ (z : List Path). (path j ∷ implied j) ++ z) (paths-append J K) ∙ sym (append_assoc (path j ∷ implied j) (paths J) (paths K))

paths-one : (k : Key) → paths (k ∷ []) ≡ path k ∷ implied k
unfolding paths flat_map
paths-one k = append-nil (path k ∷ implied k)

pub paths-more : (J : KeyList) (k : Key) → paths (J ▷ k) ≡ paths J ++ path k ∷ implied k
paths-more J k = paths-append J (k ∷ []) ∙ ap (λ (z : List Path). paths J ++ z) (paths-one k)

implied-length : (k : Key) → length (implied k) ≡ length k.key_names
unfolding implied
implied-length k = length-map k.key_names (λ n. path k ++ n ∷ [])

-- ---- the paths by their numbers
module _ (J : KeyList) (k : Key) where
  pub paths-count : length (paths (J ▷ k)) ≡ length (paths J) + 1 + length k.key_names
  paths-count = let a = ap length (paths-more J k) ∙ length-append (paths J) (path k ∷ implied k) in omega (arith, implied-length k)

  pub at_old : (i : ℕ) → i < length (paths J) → get_or (paths (J ▷ k)) i [] ≡ get_or (paths J) i []
  at_old i h = ap (λ (z : List Path). get_or z i []) (paths-more J k) ∙ get_or-append (paths J) (path k ∷ implied k) [] i h

  pub at-line : get_or (paths (J ▷ k)) (length (paths J)) [] ≡ path k
  at-line = ap (λ (z : List Path). get_or z (length (paths J)) []) (paths-more J k) ∙ get_or-append_seam (paths J) (path k) (implied k) []

  pub at_key : (j : ℕ) → j < length k.key_names → get_or (paths (J ▷ k)) (length (paths J) + 1 + j) [] ≡ path k ▸ get_or k.key_names j []
  unfolding implied
  at_key j h =
      let z : length (paths J) + 1 + j ≡ length (paths J) + suc j = omega arith in
      ap₂ (λ (z : List Path) (i : ℕ). get_or z i []) (paths-more J k) z ∙ get_or-append-add (paths J) (path k ∷ implied k) (suc j) [] ∙ get_d-in k.key_names j h
    where
      get_d-in : (ns : List Bytes) (j : ℕ) → j < length ns → get_or (map (λ n. path k ++ n ∷ []) ns) j [] ≡ path k ▸ get_or ns j []
      get_d-in [] j h = absurd (not-suc-le-zero h)
      get_d-in (n ∷ ns) zero h = refl
      get_d-in (n ∷ ns) (suc j) h = get_d-in ns j (le_of_suc-le-suc h)

-- ---- key names
pub names-other : (J : KeyList) (k : Key) (p : Path) → (path k ≡ p → ⊥) → key_names_at (J ▷ k) p ≡ key_names_at J p
unfolding key_names_at
names-other [] k p f = rw (not_so (same_path (path k) p) (λ e. f (same_path-is (path k) p e)), key_names_at)
names-other (j ∷ J) k p f = go (same_path (path j) p) refl (names-other J k p f)
  where
    go : (b : Bool) → same_path (path j) p ≡ b → key_names_at (J ▷ k) p ≡ key_names_at J p → key_names_at ((j ∷ J) ▷ k) p ≡ key_names_at (j ∷ J) p
    go true e ih = rw (e, key_names_at)
    go false e ih = rw (e, key_names_at) ih

pub names-new : (J : KeyList) (k : Key) → ((j : Key) → Memᴰ j J → path j ≡ path k → ⊥) → key_names_at (J ▷ k) (path k) ≡ k.key_names
unfolding key_names_at
names-new [] k f = rw (same_path-self (path k), key_names_at)
names-new (j ∷ J) k f =
    rw (not_so (same_path (path j) (path k)) (λ e. f j (Memᴰ.head refl) (same_path-is (path j) (path k) e)), key_names_at) (names-new J k (λ i m. f i (Memᴰ.tail m)))
