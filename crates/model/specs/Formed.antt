-- A merge of a well-formed archive and an ascending version is a well-formed archive (T1).
use Rattle.std.specs.Prelude.{ℕ, suc, ◌≡◌, List, Bool, true, length, T}
use Rattle.std.proofs.Common.{◌∙◌}
use Rattle.std.proofs.Math.Bool.{false}
use Rattle.std.proofs.Math.Option.{Option, none, some}
use Rattle.std.proofs.lemmas.List.{length-replicate, length-map}
use Rattle.model.specs.Keyed.{Order, Tree, nil, node, Past, any, mask, is_some, ◌▷◌, blank, Needs, Under, Roof, Before, Ascending, merge, WF, WFBy}
use Rattle.model.specs.Merged.{Merge, done, old, new, both, merged}
use Rattle.model.specs.Masks.{length-▷, any-▷, any-true, needs-false, under-▷, under-blank}
use Rattle.model.specs.Pasts.{mask-▷, mask-blank}

-- the version's children may stand if their parent does
Below : {L C : Type 0} → Bool → Tree L C → Type 0
Below b nil = Unit {0}
Below b (node l c k r) = Needs b true × Below b r

below_true : {L C : Type 0} (v : Tree L C) → Below true v
unfolding Below
below_true nil = tt
below_true (node l d k r) = (tt, below_true r)

module _ {L C : Type 0} (ord : Order L) (n : ℕ) where
  before-merge : (l : L) {a m : Tree L (Past C)} {v : Tree L C} → Merge ord n a v m → Before ord l a → Before ord l v → Before ord l m
  before-merge l done x y = tt
  before-merge l (old b p q) x y = x
  before-merge l (new b p q) x y = y
  before-merge l (both p q) x y = x

  abbrev Over : List Bool → Tree L (Past C) → Type 0
  Over = Roof mask

  under_more : (p : List Bool) (h : Past C) (b : Bool) (o : Option C) → Under p (mask h) → Needs b (is_some o) → Under (p ▷ b) (mask (h ▷ o))
  under_more p h b o u a = rw (mask-▷ h o) (under-▷ p (mask h) b (is_some o) u a)

  roof-merge : (p : List Bool) (b : Bool) → length p ≡ n → {a m : Tree L (Past C)} {v : Tree L C} → Merge ord n a v m → Over p a → Below b v → Over (p ▷ b) m
  unfolding Roof Below
  roof-merge p b e done x y = tt
  roof-merge p b e (old {h = h} _ _ q) x y = (under_more p h b none x.0 (needs-false b), roof-merge p b e q x.1 y)
  roof-merge p b e (new {c = c} _ _ q) x y = (under_more p (blank n) b (some c) (rw (mask-blank C n) (under-blank p e)) y.0, roof-merge p b e q x y.1)
  roof-merge p b e (both {h = h} {c = c} _ q) x y = (under_more p h b (some c) x.0 y.0, roof-merge p b e q x.1 y.1)

  roof-more : (h : Past C) (o : Option C) → length h ≡ n → {a m : Tree L (Past C)} {v : Tree L C} → Merge ord n a v m → Over (mask h) a → Below (is_some o) v → Over (mask (h ▷ o)) m
  roof-more h o e z x y = rw (mask-▷ h o) (roof-merge (mask h) (is_some o) (length-map h is_some ∙ e) z x y)

  any-more : (h : Past C) (c : C) → T (any (mask (h ▷ some c)))
  any-more h c = rw (mask-▷ h (some c), any-true (mask h)) tt

  formed : {a m : Tree L (Past C)} {v : Tree L C} → Merge ord n a v m → WF ord n a → Ascending ord v → WF ord (suc n) m
  unfolding WFBy Ascending Roof Below
  formed done w s = tt
  formed (old {l = l} {h = h} b p q) w s =
      (length-▷ h none w.0, rw (mask-▷ h none) (any-▷ (mask h) false w.1), before-merge l q w.2 b, roof-more h none w.0 p w.3 tt, formed p w.4 tt, formed q w.5 s)
  formed (new {l = l} {c = c} {k = k} b p q) w s = (
    length-▷ (blank n) (some c) (length-replicate n none),
    any-more (blank n) c,
    before-merge l q b s.0,
    roof-more (blank n) (some c) (length-replicate n none) p tt (below_true k),
    formed p tt s.1,
    formed q w s.2,
  )
  formed (both {l = l} {h = h} {c = c} {k' = k'} p q) w s =
      (length-▷ h (some c) w.0, any-more h c, before-merge l q w.2 s.0, roof-more h (some c) w.0 p w.3 (below_true k'), formed p w.4 s.1, formed q w.5 s.2)

  pub merge-WF : (a : Tree L (Past C)) (v : Tree L C) → WF ord n a → Ascending ord v → WF ord (suc n) (merge ord n a v)
  merge-WF a v w s = formed (merged ord n a v) w s
