-- A version's tree of labels, element by element: how high it is, and the version that it stands for.
use Rattle.std.specs.Prelude.{◌≤◌, ◌≡◌, refl, Bool, true, false, not, ◌&&◌, ◌||◌, []}
use Rattle.std.proofs.Common.{arith, ap, sym, ◌∙◌}
use Rattle.xml.specs.Bytes.{Bytes, bytes, same}
use Rattle.xml.specs.Forest.{Forest, end, elem, text, stamp, depth}
use Rattle.model.specs.Keyed.{Tree, nil, node}
use Rattle.model.specs.Direct.{height}
use Rattle.model.specs.Masks.{clash}
use Rattle.xml.specs.Truth.{bool_by, or_left}
use Rattle.keys.specs.KeyList.{Path, KeyList, listed, above}
use Rattle.keys.specs.Version.{◌▸◌, Label, label, name_in, misplaced}
use Rattle.keys.specs.Tree.{Content, inner, front, keyed, forest_of}
use Rattle.keys.specs.Legal.{RootOrNone, LegalVersion}

-- of an element, by whether its path is above a frontier
abbrev pub content_of : Bool → Forest → Content
content_of true k = inner
content_of false k = front k

abbrev pub kids_of : Bool → Tree Label Content → Tree Label Content
kids_of true t = t
kids_of false t = nil

pub keyed-elem : (K : KeyList) (p : Path) (n : Bytes) (k r : Forest)
    → keyed K p (elem n k r) ≡ node (label K p n k) (content_of (above K (p ▸ n)) k) (kids_of (above K (p ▸ n)) (keyed K (p ▸ n) k)) (keyed K p r)
unfolding keyed
keyed-elem K p n k r = bool_by
    (λ b. elim b as (λ _. Tree Label Content) [
      | true ↦ node (label K p n k) inner (keyed K (p ▸ n) k) (keyed K p r)
      | false ↦ node (label K p n k) (front k) nil (keyed K p r)
    ] ≡ node (label K p n k) (content_of b k) (kids_of b (keyed K (p ▸ n) k)) (keyed K p r))
    (above K (p ▸ n)) (λ e. refl) (λ e. refl)

-- ---- how high
height-kids : (b : Bool) (t : Tree Label Content) → height (kids_of b t) ≤ height t
unfolding height
height-kids true t = omega arith
height-kids false t = omega arith

pub tree-height : (K : KeyList) (p : Path) (v : Forest) → height (keyed K p v) ≤ depth v
unfolding keyed height depth
tree-height K p end = omega arith
tree-height K p (text b r) = tree-height K p r
tree-height K p (stamp t k r) = omega (arith, tree-height K p r)
tree-height K p (elem n k r) = rw (keyed-elem K p n k r)
    (omega (arith, tree-height K (p ▸ n) k, tree-height K p r, height-kids (above K (p ▸ n)) (keyed K (p ▸ n) k)))

-- ---- what is in place
-- a test that fails though its first part holds
pub three-false : (a b c : Bool) → (a || b || c) ≡ false → (a ≡ false) × (b ≡ false) × (c ≡ false)
three-false false false false e = (refl, refl, refl)
three-false false false true e = absurd (clash refl e)
three-false false true c e = absurd (clash refl e)
three-false true b c e = absurd (clash refl e)

four-false : (a b c d : Bool) → (a || b || c || d) ≡ false → (a ≡ false) × (b ≡ false) × (c ≡ false) × (d ≡ false)
four-false false false false false e = (refl, refl, refl, refl)
four-false false false false true e = absurd (clash refl e)
four-false false false true d e = absurd (clash refl e)
four-false false true c d e = absurd (clash refl e)
four-false true b c d e = absurd (clash refl e)

pub placed-elem : (K : KeyList) (p : Path) (n : Bytes) (k r : Forest) → misplaced K p (elem n k r) ≡ false
    → (same n (bytes "T") ≡ false) × (above K p && not (listed K (p ▸ n)) ≡ false) × (misplaced K (p ▸ n) k ≡ false) × (misplaced K p r ≡ false)
unfolding misplaced
placed-elem K p n k r e = four-false _ _ _ _ e

-- ---- and back: above a frontier there are only elements
held_by_lem : (b : Bool) (k : Forest) (t : Tree Label Content) → (b ≡ true → forest_of t ≡ k) → (l : Label) (r : Tree Label Content)
    → forest_of (node l (content_of b k) (kids_of b t) r) ≡ elem (name_in l) k (forest_of r)
unfolding forest_of
held_by_lem true k t h l r = ap (λ f. elem (name_in l) f (forest_of r)) (h refl)
held_by_lem false k t h l r = refl

forest-of : (K : KeyList) (p : Path) (f : Forest) → above K p ≡ true → misplaced K p f ≡ false → forest_of (keyed K p f) ≡ f
unfolding misplaced keyed forest_of label name_in
forest-of K p end a m = refl
forest-of K p (text b r) a m = absurd (clash a (or_left (above K p) (misplaced K p r) m))
forest-of K p (stamp t k r) a m = absurd (clash refl m)
forest-of K p (elem n k r) a m =
    let w = placed-elem K p n k r m in
    ap forest_of (keyed-elem K p n k r)
    ∙ held_by_lem (above K (p ▸ n)) k (keyed K (p ▸ n) k) (λ e. forest-of K (p ▸ n) k e w.2) (label K p n k) (keyed K p r)
    ∙ ap (elem n k) (forest-of K p r a w.3)

forest-root : (K : KeyList) (v : Forest) → RootOrNone v → misplaced K [] v ≡ false → forest_of (keyed K [] v) ≡ v
unfolding misplaced keyed forest_of label name_in
forest-root K end o m = refl
forest-root K (text b r) o m = absurd o
forest-root K (stamp t k r) o m = absurd (clash refl m)
forest-root K (elem n k r) o m =
    let w = placed-elem K [] n k r m in
    ap forest_of (keyed-elem K [] n k r)
    ∙ held_by_lem (above K ([] ▸ n)) k (keyed K ([] ▸ n) k) (λ e. forest-of K ([] ▸ n) k e w.2) (label K [] n k) (keyed K [] r)
    ∙ ap (elem n k) (ap (λ f. forest_of (keyed K [] f)) o ∙ sym o)

pub forest-tree : (K : KeyList) (v : Forest) → LegalVersion K v → forest_of (keyed K [] v) ≡ v
forest-tree K v h = forest-root K v h.root h.placed
