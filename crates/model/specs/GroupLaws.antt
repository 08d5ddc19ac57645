-- The groups of an element obey the laws of a ledger.
use Prim.Native.Nat.{ℕ, zero, suc, ◌<◌, ◌≤◌}
use Rattle.std.specs.Prelude.{◌≡◌, Bool, not, ◌&&◌, take, get_or}
use Rattle.std.proofs.Math.Path.{refl, ap, sym}
use Rattle.std.proofs.Common.{◌∙◌, subst, take_all, length-take-le}
use mathlib.Core.List.{List, [], ◌∷◌}
use Rattle.std.proofs.Math.Bool.{true, false}
use Rattle.std.proofs.Math.Option.{Option, none, some}
use native.Mathlib.Omega.{arith}
use Rattle.std.proofs.Math.ListN.{length, replicate, get_or-replicate}
use Rattle.std.proofs.lemmas.List.{length-replicate}
use Rattle.std.proofs.Math.Dec.{T}
use Rattle.model.specs.Keyed.{any, ◌▷◌}
use Rattle.model.specs.Masks.{length-▷, get-before, get-last, take-▷, last, is_true, clash, any-blank, unseen, any_false, any-true, any-▷}
use Rattle.model.specs.Groups.{Same, Groups, pick, at_g, cons_if, cut_g, hit, left, add_g, Apart, WFG, disjoint-▷, disjoint-blank, disjoint-take, disjoint-get, earlier-▷, earlier-blank, earlier-take, earlier-last}
use Rattle.model.specs.Ledger.{Ledger}

module _ {C : Type 0} (sm : Same C) where
  -- a group that says b of the new version, and what is left for the groups after it
  Fit : Bool → C → Option C → Type 0
  Fit b d none = Unit {0}
  Fit b d (some c) = (b ≡ false) × (sm.test c d ≡ false)

  fit-hit : (d : C) (o : Option C) → Fit (hit sm o d) d (left sm (hit sm o d) o)
  unfolding Fit
  fit-hit d none = tt
  fit-hit d (some c) = go (sm.test c d) refl
    where
      go : (b : Bool) → sm.test c d ≡ b → Fit b d (left sm b (some c))
      go true e = tt
      go false e = (refl, e)

  fit-left : (b a : Bool) (d : C) (o : Option C) → Fit b d o → Fit b d (left sm a o)
  unfolding Fit
  fit-left b true d o f = tt
  fit-left b false d o f = f

  -- no two groups are told that the content is theirs
  fit-not : (b : Bool) (d e : C) (o : Option C) → Fit b d o → T (not (b && hit sm o e))
  unfolding Fit
  fit-not true d e none f = tt
  fit-not false d e none f = tt
  fit-not false d e (some c) f = tt
  fit-not true d e (some c) f = absurd (clash refl f.0)

  apart-add : (n : ℕ) (p : List Bool) (b : Bool) (d : C) (gs : Groups C) (o : Option C) → length p ≡ n → T (any p) → Apart sm p d gs → WFG sm n gs → Fit b d o
      → Apart sm (p ▷ b) d (add_g sm n gs o)
  unfolding add_g Apart WFG Fit
  apart-add n p b d [] none e t x w f = tt
  apart-add n p b d [] (some c) e t x w f =
      (f.1, disjoint-▷ p (replicate n false) b true (e ∙ sym (length-replicate n false)) (disjoint-blank p n) (rw f.0 tt), earlier-blank p b true e t, tt)
  apart-add n p b d (g ∷ gs) o e t x w f = (
    x.0,
    disjoint-▷ p g.0 b (hit sm o g.1) (e ∙ sym w.0) x.1 (fit-not b d g.1 o f),
    earlier-▷ p g.0 b (hit sm o g.1) x.2,
    apart-add n p b d gs (left sm (hit sm o g.1) o) e t x.3 w.3 (fit-left b (hit sm o g.1) d o f),
  )

  add-WF : (n : ℕ) (gs : Groups C) (o : Option C) → WFG sm n gs → WFG sm (suc n) (add_g sm n gs o)
  unfolding add_g WFG Apart
  add-WF n [] none w = tt
  add-WF n [] (some c) w = (length-▷ (replicate n false) true (length-replicate n false), rw (any-true (replicate n false)) tt, tt, tt)
  add-WF n (g ∷ gs) o w = (
    length-▷ g.0 (hit sm o g.1) w.0,
    any-▷ g.0 (hit sm o g.1) w.1,
    apart-add n g.0 (hit sm o g.1) g.1 gs (left sm (hit sm o g.1) o) w.0 w.1 w.2 w.3 (fit-hit g.1 o),
    add-WF n gs (left sm (hit sm o g.1) o) w.3,
  )

  at_old : (n : ℕ) (gs : Groups C) (o : Option C) → WFG sm n gs → (i : ℕ) → i < n → at_g i (add_g sm n gs o) ≡ at_g i gs
  unfolding add_g WFG at_g
  at_old n [] none w i b = refl
  at_old n [] (some c) w i b = rw (get-before b (replicate n false) true false (length-replicate n false), get_or-replicate n i false false b)
  at_old n (g ∷ gs) o w i b = rw (get-before b g.0 (hit sm o g.1) false w.0, at_old n gs (left sm (hit sm o g.1) o) w.3 i b)

  pick-hit : (d : C) (o : Option C) → pick (hit sm o d) d (left sm (hit sm o d) o) ≡ o
  pick-hit d none = refl
  pick-hit d (some c) = go (sm.test c d) refl
    where
      go : (b : Bool) → sm.test c d ≡ b → pick b d (left sm b (some c)) ≡ some c
      go true e = ap some (sym (sm.same e))
      go false e = refl

  at_new : (n : ℕ) (gs : Groups C) (o : Option C) → WFG sm n gs → at_g n (add_g sm n gs o) ≡ o
  unfolding add_g WFG at_g
  at_new n [] none w = refl
  at_new n [] (some c) w = rw (get-last (replicate n false) true false (length-replicate n false))
  at_new n (g ∷ gs) o w = rw (get-last g.0 (hit sm o g.1) false w.0, at_new n gs (left sm (hit sm o g.1) o) w.3) (pick-hit g.1 o)

  cut-old : (n : ℕ) (gs : Groups C) (o : Option C) → WFG sm n gs → (i : ℕ) → i ≤ n → cut_g i (add_g sm n gs o) ≡ cut_g i gs
  unfolding add_g WFG cut_g
  cut-old n [] none w i b = refl
  cut-old n [] (some c) w i b = rw (take-▷ b (replicate n false) true (length-replicate n false), any-blank n i)
  cut-old n (g ∷ gs) o w i b = rw (take-▷ b g.0 (hit sm o g.1) w.0, cut-old n gs (left sm (hit sm o g.1) o) w.3 i b)

  cut-whole : (n : ℕ) (gs : Groups C) → WFG sm n gs → cut_g n gs ≡ gs
  unfolding WFG cut_g
  cut-whole n [] w = refl
  cut-whole n (g ∷ gs) w = rw (take_all n g.0 (omega (arith, w.0)), is_true (any g.0) w.1, cut-whole n gs w.3)

  apart-cut : (i : ℕ) (p : List Bool) (d : C) (gs : Groups C) → Apart sm p d gs → Apart sm (take i p) d (cut_g i gs)
  unfolding Apart cut_g
  apart-cut i p d [] x = tt
  apart-cut i p d (g ∷ gs) x = go (any (take i g.0)) refl (apart-cut i p d gs x.3)
    where
      go : (b : Bool) → any (take i g.0) ≡ b → Apart sm (take i p) d (cut_g i gs) → Apart sm (take i p) d (cons_if b (take i g.0, g.1) (cut_g i gs))
      go false e y = y
      go true e y = (x.0, disjoint-take i p g.0 x.1, earlier-take i p g.0 x.2 (rw e tt), y)

  cut-WFG : (n i : ℕ) (gs : Groups C) → WFG sm n gs → i ≤ n → WFG sm i (cut_g i gs)
  unfolding WFG cut_g
  cut-WFG n i [] w b = tt
  cut-WFG n i (g ∷ gs) w b = go (any (take i g.0)) refl (cut-WFG n i gs w.3 b)
    where
      go : (s : Bool) → any (take i g.0) ≡ s → WFG sm i (cut_g i gs) → WFG sm i (cons_if s (take i g.0, g.1) (cut_g i gs))
      go false e y = y
      go true e y = (length-take-le i g.0 (rw w.0 b), rw e tt, apart-cut i g.0 g.1 gs w.2, y)

  -- the others say nothing of a version that a group has; and their contents are not its own
  apart-at : (i : ℕ) (p : List Bool) (d : C) (gs : Groups C) → Apart sm p d gs → get_or p i false ≡ true → at_g i gs ≡ none
  unfolding Apart at_g
  apart-at i p d [] x e = refl
  apart-at i p d (g ∷ gs) x e = rw (disjoint-get i p g.0 x.1 e) (apart-at i p d gs x.3 e)

  apart-hit : (i : ℕ) (p : List Bool) (d : C) (gs : Groups C) → Apart sm p d gs → hit sm (at_g i gs) d ≡ false
  unfolding Apart at_g
  apart-hit i p d [] x = refl
  apart-hit i p d (g ∷ gs) x = go (get_or g.0 i false) (apart-hit i p d gs x.3)
    where
      go : (b : Bool) → hit sm (at_g i gs) d ≡ false → hit sm (pick b g.1 (at_g i gs)) d ≡ false
      go true y = x.0
      go false y = y

  -- nothing comes after a group that begins at the last version
  apart_none : (n : ℕ) (p : List Bool) (d : C) (gs : Groups C) → Apart sm p d gs → WFG sm (suc n) gs → any (take n p) ≡ false → gs ≡ []
  unfolding Apart WFG
  apart_none n p d [] x w e = refl
  apart_none n p d (g ∷ gs) x w e = absurd (rw e at (earlier-last n p g.0 w.0 x.2 w.1))

  -- one group: its first n versions, and what it says of the last one
  rejoin : (n : ℕ) (p : List Bool) (d : C) (b : Bool) (gs : Groups C) → length p ≡ n → T (any (p ▷ b)) → (b ≡ true → at_g n gs ≡ none) → hit sm (at_g n gs) d ≡ false
      → (any p ≡ false → gs ≡ []) → add_g sm n (cut_g n gs) (at_g n gs) ≡ gs → (s : Bool) → any p ≡ s
      → add_g sm n (cons_if s (p, d) (cut_g n gs)) (pick b d (at_g n gs)) ≡ (p ▷ b, d) ∷ gs
  unfolding add_g cut_g
  rejoin n p d true gs e t x y z ih true s = rw (sm.self d) (ap (λ u. (p ▷ true, d) ∷ u) (ap (add_g sm n (cut_g n gs)) (sym (x refl)) ∙ ih))
  rejoin n p d false gs e t x y z ih true s = rw y (ap (λ u. (p ▷ false, d) ∷ u) ih)
  rejoin n p d false gs e t x y z ih false s = absurd (rw (any_false p, s) at t)
  rejoin n p d true gs e t x y z ih false s = rw (z s, unseen p s ∙ ap (λ m. replicate m false) e)

  complete : (n : ℕ) (gs : Groups C) → WFG sm (suc n) gs → add_g sm n (cut_g n gs) (at_g n gs) ≡ gs
  unfolding add_g WFG cut_g at_g
  complete n [] w = refl
  complete n (g ∷ gs) w =
      rejoin n (take n g.0) g.1 (get_or g.0 n false) gs (length-take-le n g.0 (omega (arith, w.0))) (subst (λ p. T (any p)) (last g.0 false w.0) w.1)
      (apart-at n g.0 g.1 gs w.2) (apart-hit n g.0 g.1 gs w.2) (apart_none n g.0 g.1 gs w.2 w.3) (complete n gs w.3) (any (take n g.0)) refl
      ∙ ap (λ p. (p, g.1) ∷ gs) (sym (last g.0 false w.0))

  none_left : (gs : Groups C) → WFG sm zero gs → [] ≡ gs
  unfolding WFG any
  none_left [] w = refl
  none_left (g ∷ gs) w = absurd (go g.0 w.0 w.1)
    where
      go : (p : List Bool) → length p ≡ zero → T (any p) → ⊥
      go [] e t = t
      go (b ∷ p) e t = omega arith

  pub groups : Ledger {A = Groups C} {X = Option C} (WFG sm) (λ o. Unit {0}) [] (add_g sm) cut_g at_g
  unfolding WFG
  groups = record {
    start = tt;
    only = none_left;
    grows = λ n gs o w s. add-WF n gs o w;
    good = λ n i gs w. tt;
    old = λ n gs o w s. at_old n gs o w;
    new = λ n gs o w s. at_new n gs o w;
    kept = λ n gs o w s. cut-old n gs o w;
    whole = cut-whole;
    shorter = cut-WFG;
    complete = complete;
  }
