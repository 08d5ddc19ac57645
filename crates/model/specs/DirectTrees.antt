-- The direct archive: its siblings ascend, and what it has at an address.
use Prim.Native.Nat.{ℕ, zero, suc, ◌≤◌}
use Rattle.std.specs.Prelude.{◌≡◌, Bool, true, false, ◌||◌}
use Rattle.std.proofs.Math.Path.{refl, ap, ap₂, sym, fun_ext}
use Rattle.std.proofs.Common.{◌∙◌}
use mathlib.Core.List.{List, [], ◌∷◌, map, foldr, map-map}
use Rattle.std.proofs.Math.Option.{Option, none, some}
use mathlib.Core.Ordering.{lt}
use native.Mathlib.Omega.{arith}
use Rattle.std.proofs.Math.Nat.{le-max_left, le-max_right}
use Rattle.model.specs.Gather.{All}
use Rattle.model.specs.Keyed.{Order, self, flop, Tree, nil, node, Past, is_some, any, mask, keep_if, three, here, look, Before, Ascending, Needs, Under}
use Rattle.model.specs.Looked.{look-nil, look-before, before-trans}
use Rattle.model.specs.Masks.{under-any}
use Rattle.model.specs.SameTrees.{order-by}
use Rattle.model.specs.Groups.{Same, Groups}
use Rattle.model.specs.Direct.{height, insert_label, labels_in, labels_of, content_at, kids_at, groups_of, direct}
use Rattle.model.specs.DirectGroups.{bool_by}

module _ {L : Type 0} (ord : Order L) where
  -- ascending labels
  abbrev Lower : L → List L → Type 0
  Lower l [] = Unit {0}
  Lower l (m ∷ ms) = ord.cmp l m ≡ lt

  abbrev Rising : List L → Type 0
  Rising [] = Unit {0}
  Rising (l ∷ ls) = Lower l ls × Rising ls

  lower-insert : (q l : L) (ls : List L) → ord.cmp q l ≡ lt → Lower q ls → Lower q (insert_label ord l ls)
  unfolding insert_label
  lower-insert q l [] c s = c
  lower-insert q l (m ∷ ms) c s = order-by (ord.cmp l m) (λ d. rw d c) (λ d. rw d s) (λ d. rw d s)

  rising-insert : (l : L) (ls : List L) → Rising ls → Rising (insert_label ord l ls)
  unfolding insert_label
  rising-insert l [] s = (tt, tt)
  rising-insert l (m ∷ ms) s = order-by (ord.cmp l m) (λ d. rw d (d, s)) (λ d. rw d s) (λ d. rw d (lower-insert m l ms (flop ord d) s.0, rising-insert l ms s.1))

  -- a label is one of them
  unfoldable has : L → List L → Bool
  has q [] = false
  has q (m ∷ ms) = three (ord.cmp q m) false true (has q ms)

  has-insert : (q l : L) (ls : List L) → has q (insert_label ord l ls) ≡ three (ord.cmp q l) (has q ls) true (has q ls)
  unfolding insert_label has
  has-insert q l [] = refl
  has-insert q l (m ∷ ms) = order-by (ord.cmp l m)
      (λ c. order-by (ord.cmp q l) (λ d. rw (c, d, ord.trans d c)) (λ d. rw (c, d)) (λ d. rw (c, d)))
      (λ c. rw (c, ord.same c) (order-by (ord.cmp q m) (λ d. rw d) (λ d. rw d) (λ d. rw d)))
      (λ c. order-by (ord.cmp q m) (λ d. rw (c, d, ord.trans d (flop ord c))) (λ d. rw (c, d) (order-by (ord.cmp q l) (λ f. rw f) (λ f. rw f) (λ f. rw f))) (λ d. rw (c, d, has-insert q l ms)))

  -- siblings made from labels
  abbrev fan : {E : Type 0} → (L → E) → (L → Tree L E) → List L → Tree L E
  fan f g = foldr (λ l rest. node l (f l) (g l) rest) nil

  abbrev keep : {X : Type 0} → Bool → Option X → Option X
  keep true o = o
  keep false o = none

  module _ {E : Type 0} (f : L → E) (g : L → Tree L E) where
    look-fan : (q : L) (qs : List L) (ls : List L) → look ord (fan f g ls) (q ∷ qs) ≡ keep (has q ls) (here qs (some (f q)) (look ord (g q) qs))
    unfolding look has
    look-fan q qs [] = refl
    look-fan q qs (l ∷ ls) = order-by (ord.cmp q l) (λ c. rw c) (λ c. rw (ord.same c, self ord l)) (λ c. rw c (look-fan q qs ls))

    before-fan : (l : L) (ls : List L) → Lower l ls → Before ord l (fan f g ls)
    before-fan l [] b = tt
    before-fan l (m ∷ ms) b = b

    ascending-fan : ((l : L) → Ascending ord (g l)) → (ls : List L) → Rising ls → Ascending ord (fan f g ls)
    unfolding Ascending
    ascending-fan s [] r = tt
    ascending-fan s (l ∷ ls) r = (before-fan l ls r.0, s l, ascending-fan s ls r.1)

all_map : {X Y : Type 0} {G : X → Type 0} (H : Y → Type 0) (f : X → Y) → ((x : X) → G x → H (f x)) → (xs : List X) → All G xs → All H (map f xs)
all_map H f j [] s = tt
all_map H f j (x ∷ xs) s = (j x s.0, all_map H f j xs s.1)

any-first : (b : Bool) (p : List Bool) → any (b ∷ p) ≡ (b || any p)
unfolding any
any-first true p = refl
any-first false p = refl

-- what versions have at a label
module _ {L C : Type 0} (ord : Order L) where
  content-look : (q : L) (v : Tree L C) → content_at ord q v ≡ look ord v (q ∷ [])
  unfolding content_at look
  content-look q nil = refl
  content-look q (node l c k r) = ap (three (ord.cmp q l) none (some c)) (content-look q r)

  kids-look : (q x : L) (qs : List L) (v : Tree L C) → look ord (kids_at ord q v) (x ∷ qs) ≡ look ord v (q ∷ x ∷ qs)
  unfolding kids_at look
  kids-look q x qs nil = refl
  kids-look q x qs (node l c k r) = order-by (ord.cmp q l) (λ e. rw e) (λ e. rw e) (λ e. rw e (kids-look q x qs r))

  kids-ascending : (q : L) (v : Tree L C) → Ascending ord v → Ascending ord (kids_at ord q v)
  unfolding kids_at Ascending
  kids-ascending q nil s = tt
  kids-ascending q (node l c k r) s = order-by (ord.cmp q l) (λ e. rw e tt) (λ e. rw e s.1) (λ e. rw e (kids-ascending q r s.2))

  kids-height : (q : L) (d : ℕ) (v : Tree L C) → height v ≤ suc d → height (kids_at ord q v) ≤ d
  unfolding kids_at height
  kids-height q d nil b = omega arith
  kids-height q d (node l c k r) b = order-by (ord.cmp q l) (λ e. rw e (omega arith))
      (λ e. rw e (omega (arith, le-max_left (suc (height k)) (height r))))
      (λ e. rw e (kids-height q d r (omega (arith, le-max_right (suc (height k)) (height r)))))

  -- nothing stands beneath what is not there
  needs-parent : (q x : L) (qs : List L) (v : Tree L C) → Needs (is_some (content_at ord q v)) (is_some (look ord v (q ∷ x ∷ qs)))
  unfolding content_at look
  needs-parent q x qs nil = tt
  needs-parent q x qs (node l c k r) = order-by (ord.cmp q l) (λ e. rw e tt) (λ e. rw e tt) (λ e. rw e (needs-parent q x qs r))

  under_parent : (q x : L) (qs : List L) (vs : List (Tree L C)) → Under (mask (map (content_at ord q) vs)) (mask (map (λ v. look ord v (q ∷ x ∷ qs)) vs))
  unfolding Under
  under_parent q x qs [] = tt
  under_parent q x qs (v ∷ vs) = (needs-parent q x qs v, under_parent q x qs vs)

  -- a label is one of the versions' where one has it
  has_in : (q : L) (v : Tree L C) (ls : List L) → Ascending ord v → has ord q (labels_in ord v ls) ≡ (is_some (content_at ord q v) || has ord q ls)
  unfolding labels_in content_at Ascending
  has_in q nil ls s = refl
  has_in q (node l c k r) ls s = has-insert ord q l (labels_in ord r ls) ∙ order-by (ord.cmp q l)
      (λ e. rw e (has_in q r ls s.2 ∙ ap (λ o. is_some o || has ord q ls) (content-look q r ∙ look-before ord r q [] (before-trans ord r e s.0))))
      (λ e. rw e) (λ e. rw e (has_in q r ls s.2))

  has_of : (q : L) (vs : List (Tree L C)) → All (Ascending ord) vs → has ord q (labels_of ord vs) ≡ any (mask (map (content_at ord q) vs))
  unfolding labels_of has any
  has_of q [] s = refl
  has_of q (v ∷ vs) s = has_in q v (labels_of ord vs) s.0 ∙ ap (λ b. is_some (content_at ord q v) || b) (has_of q vs s.1)
      ∙ sym (any-first (is_some (content_at ord q v)) (mask (map (content_at ord q) vs)))

  rising-in : (v : Tree L C) (ls : List L) → Rising ord ls → Rising ord (labels_in ord v ls)
  unfolding labels_in
  rising-in nil ls s = s
  rising-in (node l c k r) ls s = rising-insert ord l (labels_in ord r ls) (rising-in r ls s)

  rising-of : (vs : List (Tree L C)) → Rising ord (labels_of ord vs)
  unfolding labels_of
  rising-of [] = tt
  rising-of (v ∷ vs) = rising-in v (labels_of ord vs) (rising-of vs)

  empty-height : (v : Tree L C) → height v ≤ 0 → v ≡ nil
  unfolding height
  empty-height nil b = refl
  empty-height (node l c k r) b = absurd (omega (arith, le-max_left (suc (height k)) (height r)))

nowhere : {C : Type 0} (h : Past C) → All (λ o. o ≡ none) h → any (mask h) ≡ false
unfolding any
nowhere [] s = refl
nowhere (o ∷ h) s = rw s.0 (nowhere h s.1)

module _ {L C : Type 0} (ord : Order L) (sm : Same C) where
  pub ascending-direct : (d : ℕ) (vs : List (Tree L C)) → Ascending ord (direct ord sm d vs)
  unfolding direct Ascending
  ascending-direct zero vs = tt
  ascending-direct (suc d) vs = ascending-fan ord (λ l. groups_of sm (map (content_at ord l) vs)) (λ l. direct ord sm d (map (kids_at ord l) vs))
      (λ l. ascending-direct d (map (kids_at ord l) vs)) (labels_of ord vs) (rising-of ord vs)

  -- the entry of a column
  abbrev pub entry : Past C → Option (Groups C)
  entry h = keep_if (any (mask h)) (groups_of sm h)

  no-entry : (h : Past C) → any (mask h) ≡ false → none ≡ entry h
  no-entry h e = rw e

  keep-entry : (h : Past C) → keep ord (any (mask h)) (some (groups_of sm h)) ≡ entry h
  keep-entry h = bool_by (any (mask h)) (λ e. rw e) (λ e. rw e)

  keep-under : (p h : Past C) → Under (mask p) (mask h) → keep ord (any (mask p)) (entry h) ≡ entry h
  keep-under p h u = bool_by (any (mask p)) (λ e. rw e) (λ e. rw e (no-entry h (under-any (mask p) (mask h) u e)))

  pub look-direct : (d : ℕ) (vs : List (Tree L C)) → All (Ascending ord) vs → All (λ v. height v ≤ d) vs → (qs : List L)
      → look ord (direct ord sm d vs) qs ≡ entry (map (λ v. look ord v qs) vs)
  unfolding direct look
  look-direct zero vs s b qs = no-entry (map (λ v. look ord v qs) vs)
      (nowhere (map (λ v. look ord v qs) vs) (all_map (λ o. o ≡ none) (λ v. look ord v qs) (λ v h. ap (λ t. look ord t qs) (empty-height ord v h)) vs b))
  look-direct (suc d) vs s b [] = look-nil ord (direct ord sm (suc d) vs) ∙ no-entry (map (λ v. look ord v []) vs)
      (nowhere (map (λ v. look ord v []) vs) (all_map (λ o. o ≡ none) (λ v. look ord v []) (λ v h. look-nil ord v) vs b))
  look-direct (suc d) vs s b (q ∷ []) = look-fan ord (λ l. groups_of sm (map (content_at ord l) vs)) (λ l. direct ord sm d (map (kids_at ord l) vs)) q [] (labels_of ord vs)
      ∙ ap (λ t. keep ord t (some (groups_of sm (map (content_at ord q) vs)))) (has_of ord q vs s)
      ∙ keep-entry (map (content_at ord q) vs)
      ∙ ap (λ f. entry (map f vs)) (fun_ext (content-look ord q))
  look-direct (suc d) vs s b (q ∷ x ∷ qs) = look-fan ord (λ l. groups_of sm (map (content_at ord l) vs)) (λ l. direct ord sm d (map (kids_at ord l) vs)) q (x ∷ qs) (labels_of ord vs)
      ∙ ap₂ (keep ord) (has_of ord q vs s)
      (look-direct d (map (kids_at ord q) vs) (all_map (Ascending ord) (kids_at ord q) (kids-ascending ord q) vs s) (all_map (λ v. height v ≤ d) (kids_at ord q) (kids-height ord q d) vs b) (x ∷ qs)
      ∙ ap entry (map-map (λ v. look ord v (x ∷ qs)) (kids_at ord q) vs ∙ ap (λ f. map f vs) (fun_ext (kids-look ord q x qs))))
      ∙ keep-under (map (content_at ord q) vs) (map (λ v. look ord v (q ∷ x ∷ qs)) vs) (under_parent ord q x qs vs)
