-- A well-formed archive of n + 1 versions is the merge of its first n and its last one (T5).
use Rattle.std.specs.Prelude.{ℕ, suc, ◌≤◌, ◌≡◌, List, Bool, length, take}
use Rattle.std.proofs.Math.Path.{refl, subst}
use Rattle.std.proofs.Common.{ap, sym, ◌∙◌, arith, length-take-le}
use Rattle.std.proofs.Math.Bool.{true, false}
use Rattle.std.proofs.Math.Option.{Option, none, some}
use Rattle.std.proofs.Math.Dec.{T}
use Rattle.model.specs.Keyed.{Order, Tree, nil, node, Past, any, mask, ◌▷◌, debut, blank, at, keep_if, trim, grown, sift, version, cut, Under, Roof, Before, Ascending, merge, WF, WFBy}
use Rattle.model.specs.Merged.{Merge, done, old, new, both, merge-is}
use Rattle.model.specs.Masks.{last, any_false, under-take}
use Rattle.model.specs.Pasts.{mask-▷, mask-take, absent, under_at, under-trim}
use Rattle.model.specs.Looked.{before-trans}

module _ {L C : Type 0} where
  -- a reading that says nothing of what stands under p keeps nothing of it
  sift-roof : {Y : Type 0} (f : Past C → Option Y) (p : List Bool) → ((h : Past C) → Under p (mask h) → f h ≡ none) → (k : Tree L (Past C)) → Roof mask p k → sift f k ≡ nil
  unfolding sift Roof
  sift-roof f p no-h nil x = refl
  sift-roof f p no-h (node l h k r) x = rw (no-h h x.0) (sift-roof f p no-h r x.1)

  roof-cut : (i : ℕ) (p : List Bool) (k : Tree L (Past C)) → Roof mask p k → Roof mask (take i p) (cut i k)
  unfolding sift Roof
  roof-cut i p nil x = tt
  roof-cut i p (node l h k r) x = go (any (mask (take i h))) (roof-cut i p r x.1)
    where
      go : (b : Bool) → Roof mask (take i p) (cut i r) → Roof mask (take i p) (grown l (keep_if b (take i h)) (cut i k) (cut i r))
      go true y = (rw (mask-take i h) (under-take i p (mask h) x.0), y)
      go false y = y

module _ {L : Type 0} (ord : Order L) where
  -- what is left of ascending siblings ascends
  before-sift : {X Y : Type 0} (f : X → Option Y) (l : L) (t : Tree L X) → Before ord l t → Ascending ord t → Before ord l (sift f t)
  unfolding sift Ascending
  before-sift f l nil b s = tt
  before-sift f l (node l' x k r) b s = go (f x) (before-sift f l r (before-trans ord r b s.0) s.2)
    where
      go : (o : Option _) → Before ord l (sift f r) → Before ord l (grown l' o (sift f k) (sift f r))
      go none y = y
      go (some c) y = b

  pub ascending-sift : {X Y : Type 0} (f : X → Option Y) (t : Tree L X) → Ascending ord t → Ascending ord (sift f t)
  unfolding sift Ascending
  ascending-sift f nil s = tt
  ascending-sift f (node l x k r) s = go (f x) (ascending-sift f k s.1) (ascending-sift f r s.2)
    where
      go : (o : Option _) → Ascending ord (sift f k) → Ascending ord (sift f r) → Ascending ord (grown l o (sift f k) (sift f r))
      go none y z = z
      go (some c) y z = (before-sift f l r s.0 s.2, y, z)

  pub WFBy-ascending : {E : Type 0} (Formed : E → Type 0) (mask_e : E → List Bool) (a : Tree L E) → WFBy ord Formed mask_e a → Ascending ord a
  unfolding WFBy Ascending
  WFBy-ascending F m nil w = tt
  WFBy-ascending F m (node l h k r) w = (w.2, WFBy-ascending F m k w.4, WFBy-ascending F m r w.5)

  pub WF-ascending : {C : Type 0} (n : ℕ) (a : Tree L (Past C)) → WF ord n a → Ascending ord a
  WF-ascending n a w = WFBy-ascending (λ h. length h ≡ n) mask a w

module _ {L C : Type 0} (ord : Order L) (n : ℕ) where
  pub cut-WF : (i : ℕ) → i ≤ n → (a : Tree L (Past C)) → WF ord n a → WF ord i (cut i a)
  unfolding sift WFBy
  cut-WF i b nil w = tt
  cut-WF i b (node l h k r) w = go (any (mask (take i h))) refl (cut-WF i b k w.4) (cut-WF i b r w.5)
    where
      go : (s : Bool) → any (mask (take i h)) ≡ s → WF ord i (cut i k) → WF ord i (cut i r) → WF ord i (grown l (keep_if s (take i h)) (cut i k) (cut i r))
      go false e y z = z
      go true e y z = (length-take-le i h (rw w.0 b), rw e tt, before-sift ord (trim i) l r w.2 (WF-ascending ord n r w.5), rw (mask-take i h) (roof-cut i (mask h) k w.3), y, z)

  -- one element: its first n versions, what the last one says, and the parts of its children and of its later siblings
  rejoin : (l : L) (g : Past C) (o : Option C) {k r ck cr : Tree L (Past C)} {vk vr : Tree L C} → length g ≡ n → T (any (mask (g ▷ o))) → Before ord l cr → Before ord l vr
      → (any (mask g) ≡ false → ck ≡ nil) → (o ≡ none → vk ≡ nil) → Merge ord n ck vk k → Merge ord n cr vr r
      → (b : Bool) → any (mask g) ≡ b → Merge ord n (grown l (keep_if b g) ck cr) (grown l o vk vr) (node l (g ▷ o) k r)
  rejoin l g none e t x y noc nov p q true s = old y (rw (nov refl) at p) q
  rejoin l g (some c) e t x y noc nov p q true s = both p q
  rejoin l g none e t x y noc nov p q false s = absurd (rw (mask-▷ g none, any_false (mask g), s) at t)
  rejoin l g (some c) e t x y noc nov p q false s = rw (absent g s ∙ ap blank e) (new x (rw (noc s) at p) q)

  rebuilt : (a : Tree L (Past C)) → WF ord (suc n) a → Merge ord n (cut n a) (version n a) a
  unfolding sift WFBy
  rebuilt nil w = done
  rebuilt (node l h k r) w =
      subst (λ x. Merge ord n (cut n (node l h k r)) (version n (node l h k r)) (node l x k r)) (sym (last h none w.0))
      (rejoin l (take n h) (at n h) (length-take-le n h (omega (arith, w.0))) (subst (λ x. T (any (mask x))) (last h none w.0) w.1)
      (before-sift ord (trim n) l r w.2 asc) (before-sift ord (at n) l r w.2 asc)
      (λ e. sift-roof (trim n) (mask h) (λ f u. under-trim n h f u e) k w.3) (λ e. sift-roof (at n) (mask h) (λ f u. under_at n h f u e) k w.3)
      (rebuilt k w.4) (rebuilt r w.5) (any (mask (take n h))) refl)
    where
      asc : Ascending ord r
      asc = WF-ascending ord (suc n) r w.5

  pub complete : (a : Tree L (Past C)) → WF ord (suc n) a → merge ord n (cut n a) (version n a) ≡ a
  complete a w = merge-is ord (debut n) ◌▷◌ (rebuilt a w)
