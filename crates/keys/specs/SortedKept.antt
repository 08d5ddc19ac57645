-- What sorting keeps: the size of a version, and that each node is in its place.
use Rattle.std.proofs.Common.{arith, ◌∙◌}
use Rattle.std.specs.Prelude.{◌≡◌, refl, true, false, ◌||◌}
use Rattle.std.proofs.Math.Option.{Option, some}
use Rattle.std.proofs.Math.ListN.{length, length-append}
use Rattle.xml.specs.Bytes.{Bytes}
use Rattle.xml.specs.Forest.{Forest, elem, write, nodes, depth}
use Rattle.xml.specs.Tape.{size}
use Rattle.keys.specs.KeyList.{Path, KeyList}
use Rattle.keys.specs.Version.{◌▸◌, Label, label, too_large, misplaced, same_label, find, is_some}
use Rattle.xml.specs.Truth.{bool_by, or_swap}
use Rattle.keys.specs.Sorting.{Into, here, after, Sorting, kept, empty, put, astray}

-- a measure of siblings that goes by each of them, in whatever order, and by what each holds
module _ (K : KeyList) {A : Type 0} (μ : Path → Forest → A)
    (swap : (p : Path) (n : Bytes) (k : Forest) (m : Bytes) (j r : Forest) → μ p (elem n k (elem m j r)) ≡ μ p (elem m j (elem n k r)))
    (rest : (p : Path) (n : Bytes) (k r s : Forest) → μ p r ≡ μ p s → μ p (elem n k r) ≡ μ p (elem n k s)) where
  pub into-kept : {p : Path} {n : Bytes} {k f g : Forest} → Into K p n k f g → μ p g ≡ μ p (elem n k f)
  into-kept (here h) = refl
  into-kept {p} {n} {k} (after {m = m} {j = j} {r = r} h i) = rest p m j _ _ (into-kept i) ∙ swap p m j n k r

  sorted-kept : (kids : (p : Path) (n : Bytes) (k j r : Forest) → μ (p ▸ n) k ≡ μ (p ▸ n) j → μ p (elem n k r) ≡ μ p (elem n j r))
      → {p : Path} {f g : Forest} → Sorting K p f g → μ p g ≡ μ p f
  sorted-kept kids (kept a) = refl
  sorted-kept kids (empty a) = refl
  sorted-kept kids {p} (put {n = n} {j = j} {r = r} a x y i) = into-kept i ∙ rest p n j _ _ (sorted-kept kids y) ∙ kids p n _ _ r (sorted-kept kids x)

module _ (K : KeyList) {p : Path} {f g : Forest} (t : Sorting K p f g) where
  sorted-depth : depth g ≡ depth f
  unfolding depth
  sorted-depth = sorted-kept K (λ _ h. depth h) (λ p n k m j r. omega arith) (λ p n k r s e. omega arith) (λ p n k j r e. omega arith) t

  pub sorted-nodes : nodes g ≡ nodes f
  unfolding nodes
  sorted-nodes = sorted-kept K (λ _ h. nodes h) (λ p n k m j r. omega arith) (λ p n k r s e. omega arith) (λ p n k j r e. omega arith) t

  pub sorted-size : size g ≡ size f
  unfolding size
  sorted-size = sorted-kept K (λ _ h. size h) (λ p n k m j r. omega arith) (λ p n k r s e. omega arith) (λ p n k j r e. omega arith) t

  sorted-length : length (write g) ≡ length (write f)
  unfolding write
  sorted-length =
      sorted-kept K (λ _ h. length (write h)) (λ p n k m j r. simp length-append (omega arith)) (λ p n k r s e. simp length-append (omega arith))
      (λ p n k j r e. simp length-append (omega arith)) t

  pub sorted-small : too_large g ≡ too_large f
  unfolding too_large
  sorted-small = rw (sorted-depth, sorted-nodes, sorted-length)

  pub sorted-placed : misplaced K p g ≡ misplaced K p f
  unfolding misplaced
  sorted-placed =
      sorted-kept K (λ q h. misplaced K q h) (λ p n k m j r. or_swap (astray K p n k) (astray K p m j) (misplaced K p r)) (λ p n k r s e. rw e)
      (λ p n k j r e. rw e) t

-- whether a label is among siblings
pub find-elem : (K : KeyList) (p : Path) (l : Label) (n : Bytes) (k r : Forest)
    → is_some (find K p l (elem n k r)) ≡ (same_label l (label K p n k) || is_some (find K p l r))
unfolding find is_some
find-elem K p l n k r =
    bool_by (λ x. is_some {A = Forest} (elim x as (λ _. Option Forest) [ true ↦ some k | false ↦ find K p l r ]) ≡ (x || is_some (find K p l r)))
    (same_label l (label K p n k)) (λ _. refl) (λ _. refl)
