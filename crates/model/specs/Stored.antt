-- The archive as it is stored: each element once, with its groups. It represents the archive of pasts, and so has T1 to T6 too.
use Prim.Native.Nat.{ℕ, zero, suc, ◌<◌, ◌≤◌}
use Rattle.std.specs.Prelude.{◌≡◌, Bool, ◌||◌, length, take}
use Rattle.std.proofs.Math.Path.{refl, ap, sym}
use Rattle.std.proofs.Common.{◌∙◌, subst, arith, add-one, length-take-le}
use mathlib.Core.List.{List, [], ◌∷◌}
use Rattle.std.proofs.Math.Bool.{true, false}
use Rattle.std.proofs.Math.Option.{Option, none, some, map}
use Rattle.std.proofs.Math.ListN.{replicate, length-replicate}
use Rattle.std.proofs.lemmas.List.{replicate-append-replicate}
use Rattle.model.specs.Gather.{gather, gather-more, All}
use Rattle.model.specs.Keyed.{Order, Tree, nil, Past, any, mask, is_some, ◌▷◌, blank, debut, at, keep_if, trim, sift, version, cut, look, holds, presence, history, Ascending, merge_by, merge, WF, WFBy}
use Rattle.model.specs.Merged.{merge-is, merged}
use Rattle.model.specs.Masks.{length-▷}
use Rattle.model.specs.Rebuilt.{ascending-sift, WFBy-ascending}
use Rattle.model.specs.Ledger.{Ledger, reads, all-WF, all_read, all-cut, all-reads, length-reads, all-observed, represent, from}
use Rattle.model.specs.PastTrees.{archive, history-merge}
use Rattle.model.specs.Groups.{Same, Groups, at_g, cut_g, hit, left, add_g, WFG}
use Rattle.model.specs.GroupLaws.{groups}
use Rattle.model.specs.Mapped.{map_t, map-sift, sift-map, sift-cong, Formed?, look-formed, map_back, WF-map, zip-map, look-map}

-- the versions of an element: those of its contents together
unfoldable pub or_l : List Bool → List Bool → List Bool
or_l [] q = q
or_l (b ∷ p) [] = b ∷ p
or_l (b ∷ p) (c ∷ q) = (b || c) ∷ or_l p q

unfoldable pub mask_g : {C : Type 0} → ℕ → Groups C → List Bool
mask_g n [] = replicate n false
mask_g n (g ∷ gs) = or_l g.0 (mask_g n gs)

abbrev pub trim_g : {C : Type 0} → ℕ → Groups C → Option (Groups C)
trim_g i gs = keep_if (any (mask_g i (cut_g i gs))) (cut_g i gs)

abbrev pub version_s : {L C : Type 0} → ℕ → Tree L (Groups C) → Tree L C
version_s i = sift (at_g i)

abbrev pub cut_s : {L C : Type 0} → ℕ → Tree L (Groups C) → Tree L (Groups C)
cut_s i = sift (trim_g i)

module _ {L C : Type 0} (ord : Order L) (sm : Same C) where
  abbrev pub merge_s : ℕ → Tree L (Groups C) → Tree L C → Tree L (Groups C)
  merge_s n = merge_by ord (λ c. add_g sm n [] (some c)) (add_g sm n)

  abbrev pub WFS : ℕ → Tree L (Groups C) → Type 0
  WFS n = WFBy ord (WFG sm n) (mask_g n)

  abbrev pub history_s : ℕ → List L → Tree L (Groups C) → List Bool
  history_s n = history ord (mask_g n) n

or-▷ : (p q : List Bool) (b c : Bool) → length p ≡ length q → or_l (p ▷ b) (q ▷ c) ≡ or_l p q ▷ (b || c)
unfolding or_l
or-▷ [] [] b c e = refl
or-▷ [] (d ∷ q) b c e = absurd (omega arith)
or-▷ (a ∷ p) [] b c e = absurd (omega arith)
or-▷ (a ∷ p) (d ∷ q) b c e = ap (λ t. (a || d) ∷ t) (or-▷ p q b c (omega arith))

length-or : (p q : List Bool) → length p ≡ length q → length (or_l p q) ≡ length q
unfolding or_l
length-or [] q e = refl
length-or (b ∷ p) [] e = e
length-or (b ∷ p) (c ∷ q) e = ap suc (length-or p q (omega arith))

pub or-blank : (p : List Bool) (n : ℕ) → length p ≡ n → or_l p (replicate n false) ≡ p
unfolding or_l
or-blank [] zero e = refl
or-blank [] (suc n) e = absurd (omega arith)
or-blank (b ∷ p) zero e = refl
or-blank (true ∷ p) (suc n) e = ap (λ t. true ∷ t) (or-blank p n (omega arith))
or-blank (false ∷ p) (suc n) e = ap (λ t. false ∷ t) (or-blank p n (omega arith))

module _ {C : Type 0} (sm : Same C) where
  pub length-mask_g : (n : ℕ) (gs : Groups C) → WFG sm n gs → length (mask_g n gs) ≡ n
  unfolding mask_g WFG
  length-mask_g n [] w = length-replicate n false
  length-mask_g n (g ∷ gs) w = length-or g.0 (mask_g n gs) (w.0 ∙ sym (length-mask_g n gs w.3)) ∙ length-mask_g n gs w.3

  or_left : (d : C) (o : Option C) → (hit sm o d || is_some (left sm (hit sm o d) o)) ≡ is_some o
  or_left d none = refl
  or_left d (some c) = go (sm.test c d)
    where
      go : (b : Bool) → (b || is_some (left sm b (some c))) ≡ true
      go true = refl
      go false = refl

  pub mask-add : (n : ℕ) (gs : Groups C) (o : Option C) → WFG sm n gs → mask_g (suc n) (add_g sm n gs o) ≡ mask_g n gs ▷ is_some o
  unfolding mask_g add_g WFG
  mask-add n [] none w = ap (λ m. replicate m false) (sym (add-one n)) ∙ sym (replicate-append-replicate n 1 false)
  mask-add n [] (some c) w = or-blank (replicate n false ▷ true) (suc n) (length-▷ (replicate n false) true (length-replicate n false))
  mask-add n (g ∷ gs) o w =
      ap (or_l (g.0 ▷ hit sm o g.1)) (mask-add n gs (left sm (hit sm o g.1) o) w.3)
      ∙ or-▷ g.0 (mask_g n gs) (hit sm o g.1) (is_some (left sm (hit sm o g.1) o)) (w.0 ∙ sym (length-mask_g n gs w.3))
      ∙ ap (λ b. or_l g.0 (mask_g n gs) ▷ b) (or_left g.1 o)

  -- a past in groups, and back
  abbrev pub enc : Past C → Groups C
  enc = gather (add_g sm) zero []

  abbrev pub dec : ℕ → Groups C → Past C
  dec n = reads at_g n

  all-fine : (h : Past C) → All (λ (o : Option C). Unit {0}) h
  all-fine [] = tt
  all-fine (o ∷ h) = (tt, all-fine h)

  enc-WF : (n : ℕ) (h : Past C) → length h ≡ n → WFG sm n (enc h)
  enc-WF n h e = subst (λ m. WFG sm m (enc h)) e (all-WF (WFG sm) (λ o. Unit {0}) [] (add_g sm) cut_g at_g (groups sm) h (all-fine h))

  enc-mask : (n : ℕ) (h : Past C) → length h ≡ n → mask_g n (enc h) ≡ mask h
  unfolding mask_g
  enc-mask n h e = ap (λ m. mask_g m (enc h)) (sym e) ∙ all-observed (WFG sm) (λ o. Unit {0}) [] (add_g sm) cut_g at_g (groups sm) h (all-fine h) mask_g is_some refl (λ n gs o w g. mask-add n gs o w)

  enc-at : (n i : ℕ) (h : Past C) → length h ≡ n → i < n → at_g i (enc h) ≡ at i h
  enc-at n i h e b = all_read (WFG sm) (λ o. Unit {0}) [] (add_g sm) cut_g at_g (groups sm) h (all-fine h) none i (omega arith)

  enc-cut : (n i : ℕ) (h : Past C) → length h ≡ n → i ≤ n → cut_g i (enc h) ≡ enc (take i h)
  enc-cut n i h e b = all-cut (WFG sm) (λ o. Unit {0}) [] (add_g sm) cut_g at_g (groups sm) h (all-fine h) i (omega arith)

  enc-trim : (n i : ℕ) (h : Past C) → length h ≡ n → i ≤ n → trim_g i (enc h) ≡ map enc (trim i h)
  enc-trim n i h e b = rw (enc-cut n i h e b, enc-mask i (take i h) (length-take-le i h (omega arith))) (go (any (mask (take i h))))
    where
      go : (s : Bool) → keep_if s (enc (take i h)) ≡ map enc (keep_if s (take i h))
      go true = refl
      go false = refl

  enc-add : (n : ℕ) (h : Past C) (o : Option C) → length h ≡ n → enc (h ▷ o) ≡ add_g sm n (enc h) o
  enc-add n h o e = gather-more (add_g sm) [] h o ∙ ap (λ m. add_g sm m (enc h) o) e

  enc-dec : (n : ℕ) (gs : Groups C) → WFG sm n gs → enc (dec n gs) ≡ gs
  enc-dec n gs w = all-reads (WFG sm) (λ o. Unit {0}) [] (add_g sm) cut_g at_g (groups sm) n gs w

  length-dec : (n : ℕ) (gs : Groups C) → length (dec n gs) ≡ n
  length-dec n gs = length-reads (WFG sm) (λ o. Unit {0}) [] (add_g sm) cut_g at_g (groups sm) n gs

  dec-mask : (n : ℕ) (gs : Groups C) → WFG sm n gs → mask (dec n gs) ≡ mask_g n gs
  dec-mask n gs w = sym (enc-mask n (dec n gs) (length-dec n gs)) ∙ ap (mask_g n) (enc-dec n gs w)

  enc-blank : (n m : ℕ) → gather (add_g sm) m [] (blank n) ≡ []
  unfolding gather add_g
  enc-blank zero m = refl
  enc-blank (suc n) m = enc-blank n (suc m)

  enc-debut : (n : ℕ) (c : C) → enc (debut n c) ≡ add_g sm n [] (some c)
  enc-debut n c = enc-add n (blank n) (some c) (length-replicate n none) ∙ ap (λ gs. add_g sm n gs (some c)) (enc-blank n zero)

module _ {L C : Type 0} (ord : Order L) (sm : Same C) where
  abbrev pub store : Tree L (Past C) → Tree L (Groups C)
  store = map_t (enc sm)

  store-WF : (n : ℕ) (a : Tree L (Past C)) → WF ord n a → WFS ord sm n (store a)
  store-WF n a w = WF-map ord (λ h. length h ≡ n) mask (enc sm) (WFG sm n) (mask_g n) (λ h e. (enc-WF sm n h e, enc-mask sm n h e)) a w

  store-onto : (n : ℕ) (b : Tree L (Groups C)) → WFS ord sm n b → (a : Tree L (Past C)) × WF ord n a × (store a ≡ b)
  store-onto n b w = (
    map_t (dec sm n) b,
    WF-map ord (WFG sm n) (mask_g n) (dec sm n) (λ h. length h ≡ n) mask (λ gs x. (length-dec sm n gs, dec-mask sm n gs x)) b w,
    map_back ord (WFG sm n) (mask_g n) (dec sm n) (enc sm) (enc-dec sm n) b w,
  )

  pub store-merge : (n : ℕ) (a : Tree L (Past C)) (v : Tree L C) → WF ord n a → merge_s ord sm n (store a) v ≡ store (merge ord n a v)
  store-merge n a v w = merge-is ord (λ c. add_g sm n [] (some c)) (add_g sm n)
      (zip-map ord (λ h. length h ≡ n) mask (enc sm) (debut n) ◌▷◌ (λ c. add_g sm n [] (some c)) (add_g sm n) (enc-debut sm n) (enc-add sm n) (merged ord n a v) w)

  store-cut : (n i : ℕ) (a : Tree L (Past C)) → WF ord n a → i ≤ n → cut_s i (store a) ≡ store (cut i a)
  store-cut n i a w b = sift-map (enc sm) (trim_g i) a
      ∙ sift-cong ord (λ h. length h ≡ n) mask (λ h. trim_g i (enc sm h)) (λ h. map (enc sm) (trim i h)) (λ h e. enc-trim sm n i h e b) a w
      ∙ sym (map-sift (enc sm) (trim i) a)

  store-version : (n i : ℕ) (a : Tree L (Past C)) → WF ord n a → i < n → version_s i (store a) ≡ version i a
  store-version n i a w b = sift-map (enc sm) (at_g i) a ∙ sift-cong ord (λ h. length h ≡ n) mask (λ h. at_g i (enc sm h)) (at i) (λ h e. enc-at sm n i h e b) a w

  stored-good : (n i : ℕ) (b : Tree L (Groups C)) → WFS ord sm n b → Ascending ord (version_s i b)
  stored-good n i b w = ascending-sift ord (at_g i) b (WFBy-ascending ord (WFG sm n) (mask_g n) b w)

  pub stored : Ledger (WFS ord sm) (Ascending ord) nil (merge_s ord sm) cut_s version_s
  unfolding map_t
  stored = represent (archive ord) (WFS ord sm) (merge_s ord sm) cut_s version_s store store-WF store-onto store-merge store-cut store-version stored-good

  store-history : (n : ℕ) (qs : List L) (a : Tree L (Past C)) → WF ord n a → history_s ord sm n qs (store a) ≡ history ord mask n qs a
  store-history n qs a w = rw (look-map ord (enc sm) a qs) (go (look ord a qs) (look-formed ord (λ h. length h ≡ n) mask a w qs))
    where
      go : (o : Option (Past C)) → Formed? ord (λ h. length h ≡ n) mask o → presence (mask_g n) n (map (enc sm) o) ≡ presence mask n o
      go none f = refl
      go (some h) f = enc-mask sm n h f

  pub history_s-merge : (n : ℕ) (qs : List L) (b : Tree L (Groups C)) (v : Tree L C) → WFS ord sm n b → Ascending ord v → history_s ord sm (suc n) qs (merge_s ord sm n b v) ≡ history_s ord sm n qs b ▷ holds ord qs v
  history_s-merge n qs b v w g =
      from (archive ord) (WFS ord sm) (merge_s ord sm) cut_s version_s store store-WF store-onto store-merge store-cut store-version stored-good n
      (λ b. history_s ord sm (suc n) qs (merge_s ord sm n b v) ≡ history_s ord sm n qs b ▷ holds ord qs v)
      (λ a w. ap (history_s ord sm (suc n) qs) (store-merge n a v w) ∙ store-history (suc n) qs (merge ord n a v) ((archive ord).grows n a v w g)
      ∙ history-merge ord n qs a v ∙ ap (λ p. p ▷ holds ord qs v) (sym (store-history n qs a w))) b w

  pub history_s-end : (qs : List L) → history_s ord sm zero qs nil ≡ []
  unfolding look
  history_s-end qs = refl
