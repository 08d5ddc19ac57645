-- The sets of an element's contents, cut at version i: they share the element's set cut at i, and of two or more none is all of it.
use Rattle.std.specs.Prelude.{ℕ, zero, suc, ◌≤◌, ◌≡◌, Bool, true, ◌||◌, take, replicate, T}
use Rattle.std.proofs.Common.{arith, ◌∙◌, ap, subst}
use Rattle.std.proofs.Math.Path.{refl, sym}
use Rattle.std.proofs.Math.Bool.{false}
use mathlib.Core.List.{List, [], ◌∷◌}
use Rattle.std.proofs.Math.ListN.{length}
use Rattle.std.proofs.Math.Seq.{length-take-le}
use Rattle.model.specs.Gather.{All}
use Rattle.model.specs.Keyed.{any, Under}
use Rattle.model.specs.Masks.{unseen}
use Rattle.model.specs.Groups.{Same, Groups, cons_if, cut_g, Disjoint, Apart, WFG}
use Rattle.model.specs.Stored.{or_l, mask_g, length-mask_g}

-- ---- joined sets
or-take : (i : ℕ) (p q : List Bool) → length p ≡ length q → take i (or_l p q) ≡ or_l (take i p) (take i q)
unfolding or_l
or-take zero p q e = refl
or-take (suc i) [] [] e = refl
or-take (suc i) [] (c ∷ q) e = absurd (omega arith)
or-take (suc i) (b ∷ p) [] e = absurd (omega arith)
or-take (suc i) (b ∷ p) (c ∷ q) e = ap (λ t. (b || c) ∷ t) (or-take i p q (omega arith))

or-none : (i : ℕ) (q : List Bool) → length q ≡ i → or_l (replicate i false) q ≡ q
unfolding or_l
or-none zero q e = refl
or-none (suc i) [] e = absurd (omega arith)
or-none (suc i) (c ∷ q) e = ap (λ t. c ∷ t) (or-none i q (omega arith))

pub take-replicate : (i n : ℕ) (b : Bool) → i ≤ n → take i (replicate n b) ≡ replicate i b
take-replicate zero n b l = refl
take-replicate (suc i) zero b l = absurd (omega arith)
take-replicate (suc i) (suc n) b l = ap (λ t. b ∷ t) (take-replicate i n b (omega arith))

-- each is under both together
under_left : (p q : List Bool) → length p ≡ length q → Under (or_l p q) p
unfolding Under or_l
under_left [] [] e = tt
under_left [] (c ∷ q) e = absurd (omega arith)
under_left (b ∷ p) [] e = absurd (omega arith)
under_left (true ∷ p) (c ∷ q) e = (tt, under_left p q (omega arith))
under_left (false ∷ p) (true ∷ q) e = (tt, under_left p q (omega arith))
under_left (false ∷ p) (false ∷ q) e = (tt, under_left p q (omega arith))

under-right : (p q : List Bool) → length p ≡ length q → Under (or_l p q) q
unfolding Under or_l
under-right [] [] e = tt
under-right [] (c ∷ q) e = absurd (omega arith)
under-right (b ∷ p) [] e = absurd (omega arith)
under-right (true ∷ p) (c ∷ q) e = (tt, under-right p q (omega arith))
under-right (false ∷ p) (true ∷ q) e = (tt, under-right p q (omega arith))
under-right (false ∷ p) (false ∷ q) e = (tt, under-right p q (omega arith))

under-trans : (p q r : List Bool) → Under p q → Under q r → Under p r
unfolding Under
under-trans [] [] [] u v = tt
under-trans [] [] (d ∷ r) u v = absurd v
under-trans [] (c ∷ q) r u v = absurd u
under-trans (b ∷ p) [] r u v = absurd u
under-trans (b ∷ p) (c ∷ q) [] u v = absurd v
under-trans (true ∷ p) (c ∷ q) (d ∷ r) u v = (tt, under-trans p q r u.1 v.1)
under-trans (false ∷ p) (false ∷ q) (false ∷ r) u v = (tt, under-trans p q r u.1 v.1)
under-trans (false ∷ p) (false ∷ q) (true ∷ r) u v = absurd v.0
under-trans (false ∷ p) (true ∷ q) (d ∷ r) u v = absurd u.0

-- no set is under one that is disjoint with it, unless it is empty
not-under : (p q : List Bool) → Disjoint p q → Under p q → T (any q) → ⊥
unfolding Disjoint Under any
not-under [] [] d u t = t
not-under [] (c ∷ q) d u t = u
not-under (b ∷ p) [] d u t = u
not-under (true ∷ p) (true ∷ q) d u t = d.0
not-under (true ∷ p) (false ∷ q) d u t = not-under p q d.1 u.1 t
not-under (false ∷ p) (true ∷ q) d u t = u.0
not-under (false ∷ p) (false ∷ q) d u t = not-under p q d.1 u.1 t

not-over : (p q : List Bool) → Disjoint p q → Under q p → T (any p) → ⊥
unfolding Disjoint Under any
not-over [] [] d u t = t
not-over [] (c ∷ q) d u t = u
not-over (b ∷ p) [] d u t = u
not-over (true ∷ p) (true ∷ q) d u t = d.0
not-over (true ∷ p) (false ∷ q) d u t = u.0
not-over (false ∷ p) (c ∷ q) d u t = not-over p q d.1 u.1 t

module _ {C : Type 0} (sm : Same C) where
  -- an element's set, cut, is that of its contents cut
  pub mask-cut : (n i : ℕ) (gs : Groups C) → WFG sm n gs → i ≤ n → mask_g i (cut_g i gs) ≡ take i (mask_g n gs)
  unfolding mask_g WFG cut_g
  mask-cut n i [] w l = sym (take-replicate i n false l)
  mask-cut n i (g ∷ gs) w l =
      go (any (take i g.0)) refl (mask-cut n i gs w.3 l) ∙ sym (or-take i g.0 (mask_g n gs) (w.0 ∙ sym (length-mask_g sm n gs w.3)))
    where
      cut-length : length (take i g.0) ≡ i
      cut-length = length-take-le i g.0 (rw w.0 l)

      rest-length : length (take i (mask_g n gs)) ≡ i
      rest-length = length-take-le i (mask_g n gs) (rw (length-mask_g sm n gs w.3) l)

      go : (b : Bool) → any (take i g.0) ≡ b → mask_g i (cut_g i gs) ≡ take i (mask_g n gs)
          → mask_g i (cons_if b (take i g.0, g.1) (cut_g i gs)) ≡ or_l (take i g.0) (take i (mask_g n gs))
      go true e ih = ap (or_l (take i g.0)) ih
      go false e ih =
          ih ∙ sym (ap (λ p. or_l p (take i (mask_g n gs))) (unseen (take i g.0) e ∙ ap (λ m. replicate m false) cut-length)
          ∙ or-none i (take i (mask_g n gs)) rest-length)

  -- what is disjoint with a set in u is not u
  others-less : (u p : List Bool) (d : C) (gs : Groups C) → Apart sm p d gs → T (any p) → Under u p → All (λ g. u ≡ g.0 → ⊥) gs
  unfolding Apart
  others-less u p d [] x t h = tt
  others-less u p d (g ∷ gs) x t h = ((λ e. not-over p g.0 x.1 (subst (λ (v : List Bool). Under v p) e h) t), others-less u p d gs x.3 t h)

  -- of two or more contents none is there as long as the element
  pub all-less : (n : ℕ) (g h : List Bool × C) (gs : Groups C) → WFG sm n (g ∷ h ∷ gs) → All (λ f. mask_g n (g ∷ h ∷ gs) ≡ f.0 → ⊥) (g ∷ h ∷ gs)
  unfolding mask_g WFG Apart
  all-less n g h gs w =
      let rest : length (mask_g n gs) ≡ n = length-mask_g sm n gs w.3.3 in
      let both : length (or_l h.0 (mask_g n gs)) ≡ n = length-mask_g sm n (h ∷ gs) w.3 in
      let here = under_left g.0 (or_l h.0 (mask_g n gs)) (w.0 ∙ sym both) in
      let there = under-trans _ _ _ (under-right g.0 (or_l h.0 (mask_g n gs)) (w.0 ∙ sym both)) (under_left h.0 (mask_g n gs) (w.3.0 ∙ sym rest)) in (
        (λ e. not-under g.0 h.0 w.2.1 (subst (λ (v : List Bool). Under v h.0) e there) w.3.1),
        others-less _ g.0 g.1 (h ∷ gs) w.2 w.1 here,
      )
