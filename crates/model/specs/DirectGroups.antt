-- The groups of a column, directly: those that its contents make when they are added one after another.
use Rattle.std.specs.Prelude.{ℕ, ◌≡◌, Bool, not, length, replicate}
use Rattle.std.proofs.Math.Path.{refl, ap, ap₂, sym}
use Rattle.std.proofs.Common.{◌∙◌}
use mathlib.Core.List.{List, [], ◌∷◌, ◌++◌, map, map-append, append-nil}
use Rattle.std.proofs.Math.Bool.{true, false, ◌||◌}
use Rattle.std.proofs.Math.Option.{Option, none, some}
use Rattle.model.specs.Gather.{Snoc, empty, more, snoc, gather, gather-more}
use Rattle.model.specs.Keyed.{Past, ◌▷◌}
use Rattle.model.specs.Masks.{clash}
use Rattle.model.specs.Groups.{Same, cons_if, hit, add_g}
use Rattle.model.specs.Stored.{enc}
use Rattle.model.specs.Direct.{among, distinct, groups_of}

pub bool_by : {G : Type 0} (b : Bool) → (b ≡ true → G) → (b ≡ false → G) → G
bool_by true f g = f refl
bool_by false f g = g refl

swap_or : (a b c : Bool) → (b || (a || c)) ≡ ((a || b) || c)
swap_or true true c = refl
swap_or true false c = refl
swap_or false b c = refl

or_left : (a b : Bool) → (a || b) ≡ false → a ≡ false
or_left true b e = e
or_left false b e = refl

or_right : (a b : Bool) → (a || b) ≡ false → b ≡ false
or_right true b e = absurd (clash refl e)
or_right false b e = e

module _ {C : Type 0} (sm : Same C) where
  distinct-old : (c : C) (seen : List C) (h : Past C) → among sm c seen ≡ true → distinct sm seen (some c ∷ h) ≡ distinct sm seen h
  unfolding distinct
  distinct-old c seen h e = rw (e, distinct)

  distinct-new : (c : C) (seen : List C) (h : Past C) → among sm c seen ≡ false → distinct sm seen (some c ∷ h) ≡ c ∷ distinct sm (c ∷ seen) h
  unfolding distinct
  distinct-new c seen h e = rw (e, distinct)

  -- one that is there differs from one that is not
  apart : (c d : C) (ds : List C) → among sm c ds ≡ true → among sm d ds ≡ false → sm.test c d ≡ false
  apart c d ds e f = bool_by (sm.test c d) (λ t. absurd (clash e (rw (sm.same t) f))) (λ n. n)

  -- what was seen before does not come again
  seen-out : (c : C) (seen : List C) (h : Past C) → among sm c seen ≡ true → among sm c (distinct sm seen h) ≡ false
  unfolding distinct among
  seen-out c seen [] e = refl
  seen-out c seen (none ∷ h) e = seen-out c seen h e
  seen-out c seen (some d ∷ h) e = bool_by (among sm d seen)
      (λ y. ap (among sm c) (distinct-old d seen h y) ∙ seen-out c seen h e)
      (λ f. ap (among sm c) (distinct-new d seen h f) ∙ ap₂ ◌||◌ (apart c d seen e f) (seen-out c (d ∷ seen) h (ap₂ ◌||◌ (apart c d seen e f) e)))

  abbrev Different : List C → Type 0
  Different [] = Unit {0}
  Different (d ∷ ds) = (among sm d ds ≡ false) × Different ds

  different : (seen : List C) (h : Past C) → Different (distinct sm seen h)
  unfolding distinct among
  different seen [] = tt
  different seen (none ∷ h) = different seen h
  different seen (some d ∷ h) = bool_by (among sm d seen)
      (λ y. rw (distinct-old d seen h y) (different seen h))
      (λ f. rw (distinct-new d seen h f) (seen-out d (d ∷ seen) h (ap (λ b. b || among sm d seen) (sm.self d)), different (d ∷ seen) h))

  -- a content is one of these
  abbrev known : Option C → List C → Bool
  known none ds = false
  known (some c) ds = among sm c ds

  unknown : (o : Option C) (d : C) (ds : List C) → known o (d ∷ ds) ≡ false → (hit sm o d ≡ false) × (known o ds ≡ false)
  unfolding among
  unknown none d ds e = (refl, refl)
  unknown (some c) d ds e = (or_left (sm.test c d) (among sm c ds) e, or_right (sm.test c d) (among sm c ds) e)

  -- a content that is neither seen nor in the column has no version
  unheard : (c : C) (seen : List C) (h : Past C) → among sm c seen ≡ false → among sm c (distinct sm seen h) ≡ false → map (λ o. hit sm o c) h ≡ replicate (length h) false
  unfolding distinct among
  unheard c seen [] e f = refl
  unheard c seen (none ∷ h) e f = ap (λ p. false ∷ p) (unheard c seen h e f)
  unheard c seen (some d ∷ h) e f = bool_by (among sm d seen)
      (λ y. ap₂ ◌∷◌ (apart d c seen y e) (unheard c seen h e (rw (distinct-old d seen h y) at f)))
      (λ n. let u = unknown (some c) d (distinct sm (d ∷ seen) h) (rw (distinct-new d seen h n) at f) in
      ap₂ ◌∷◌ (turned u.0) (unheard c (d ∷ seen) h (ap₂ ◌||◌ u.0 e) u.1))
    where
      turned : sm.test c d ≡ false → sm.test d c ≡ false
      turned z = bool_by (sm.test d c) (λ t. absurd (clash (sm.self c) (rw (sm.same t) at z))) (λ n. n)

  -- the contents of a column of one version more
  distinct_none : (seen : List C) (h : Past C) → distinct sm seen (h ▷ none) ≡ distinct sm seen h
  unfolding distinct
  distinct_none seen [] = refl
  distinct_none seen (none ∷ h) = distinct_none seen h
  distinct_none seen (some d ∷ h) = bool_by (among sm d seen)
      (λ y. distinct-old d seen (h ▷ none) y ∙ distinct_none seen h ∙ sym (distinct-old d seen h y))
      (λ n. distinct-new d seen (h ▷ none) n ∙ ap (◌∷◌ d) (distinct_none (d ∷ seen) h) ∙ sym (distinct-new d seen h n))

  abbrev novel : C → Bool → List C
  novel c b = cons_if (not b) c []

  distinct-some : (c : C) (seen : List C) (h : Past C)
      → distinct sm seen (h ▷ some c) ≡ distinct sm seen h ++ novel c (among sm c (distinct sm seen h) || among sm c seen)
  unfolding distinct among
  distinct-some c seen [] = bool_by (among sm c seen) (λ y. rw (y, distinct)) (λ n. rw (n, distinct))
  distinct-some c seen (none ∷ h) = distinct-some c seen h
  distinct-some c seen (some d ∷ h) = bool_by (among sm d seen)
      (λ y. distinct-old d seen (h ▷ some c) y ∙ distinct-some c seen h ∙ ap tail (sym (distinct-old d seen h y)))
      (λ n. distinct-new d seen (h ▷ some c) n ∙ ap (◌∷◌ d) (distinct-some c (d ∷ seen) h)
      ∙ ap (λ b. d ∷ (distinct sm (d ∷ seen) h ++ novel c b)) (swap_or (sm.test c d) (among sm c (distinct sm (d ∷ seen) h)) (among sm c seen))
      ∙ ap tail (sym (distinct-new d seen h n)))
    where
      tail : List C → List C
      tail ds = ds ++ novel c (among sm c ds || among sm c seen)

  -- a content with its versions in a column
  abbrev group : Past C → C → List Bool × C
  group h d = (map (λ o. hit sm o d) h, d)

  group-more : (h : Past C) (o : Option C) (d : C) (b : Bool) → hit sm o d ≡ b → (map (λ o. hit sm o d) h ▷ b, d) ≡ group (h ▷ o) d
  group-more h o d b e = ap (λ p. (p, d)) (ap (λ x. map (λ o. hit sm o d) h ▷ x) (sym e) ∙ sym (map-append (λ o. hit sm o d) h (o ∷ [])))

  -- no content, or one that none of these is, goes past them
  add_none : (n : ℕ) (h : Past C) (o : Option C) (ds : List C) → known o ds ≡ false → add_g sm n (map (group h) ds) none ≡ map (group (h ▷ o)) ds
  unfolding add_g
  add_none n h o [] e = refl
  add_none n h o (d ∷ ds) e = ap₂ ◌∷◌ (group-more h o d false (unknown o d ds e).0) (add_none n h o ds (unknown o d ds e).1)

  add-some : (n : ℕ) (h : Past C) (c : C) (ds : List C) → Different ds
      → add_g sm n (map (group h) ds) (some c) ≡ map (group (h ▷ some c)) ds ++ cons_if (not (among sm c ds)) (replicate n false ▷ true, c) []
  unfolding add_g among
  add-some n h c [] w = refl
  add-some n h c (d ∷ ds) w = bool_by (sm.test c d)
      (λ t. rw t (ap₂ ◌∷◌ (group-more h (some c) d true t) (add_none n h (some c) ds (rw (sm.same t) w.0) ∙ sym (append-nil _))))
      (λ f. rw f (ap₂ ◌∷◌ (group-more h (some c) d false f) (add-some n h c ds w.1)))

  groups-add : (h : Past C) (o : Option C) → add_g sm (length h) (groups_of sm h) o ≡ groups_of sm (h ▷ o)
  unfolding groups_of among
  groups-add h none = add_none (length h) h none (distinct sm [] h) refl ∙ ap (map (group (h ▷ none))) (sym (distinct_none [] h))
  groups-add h (some c) = add-some (length h) h c (distinct sm [] h) (different [] h)
      ∙ bool_by (among sm c (distinct sm [] h)) (λ y. rw y (append-nil _ ∙ ap (map (group (h ▷ some c))) (sym (append-nil (distinct sm [] h)))))
      (λ f. rw f (ap (λ p. map (group (h ▷ some c)) (distinct sm [] h) ++ (p ∷ [])) (ap (λ p. (p ▷ true, c)) (sym (unheard c [] h refl f)) ∙ group-more h (some c) c true (sm.self c))
      ∙ sym (map-append (group (h ▷ some c)) (distinct sm [] h) (c ∷ []))))
      ∙ ap (map (group (h ▷ some c))) (sym (distinct-some c [] h))

  enc-snoc : {h : Past C} → Snoc h → enc sm h ≡ groups_of sm h
  unfolding gather groups_of distinct
  enc-snoc empty = refl
  enc-snoc (more h o s) = gather-more (add_g sm) [] h o ∙ ap (λ gs. add_g sm (length h) gs o) (enc-snoc s) ∙ groups-add h o

  pub enc-is : (h : Past C) → enc sm h ≡ groups_of sm h
  enc-is h = enc-snoc (snoc h)
