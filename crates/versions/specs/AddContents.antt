-- A version more, at one element: how its set and its contents are written then.
use Rattle.std.specs.Prelude.{ℕ, zero, suc, ◌≤◌, ◌≡◌, Bool, ◌&&◌, T, length, replicate}
use Rattle.std.proofs.Math.Path.{refl, ap, ap₂}
use Rattle.std.proofs.Common.{sym, ◌∙◌}
use Rattle.std.proofs.Math.Bool.{true, false, and-false}
use Rattle.std.specs.Bool.{beq}
use Rattle.std.proofs.Math.Option.{none, some}
use mathlib.Core.List.{[], ◌∷◌, ◌++◌}
use Rattle.xml.specs.Bytes.{same_by}
use Rattle.xml.specs.Forest.{Forest, end, elem, text, stamp, same_forest}
use Rattle.model.specs.Keyed.{any, ◌▷◌}
use Rattle.model.specs.Masks.{clash, is_true}
use Rattle.model.specs.Groups.{Groups, left, add_g, Apart, WFG}
use Rattle.model.specs.Stored.{mask_g, or-blank}
use Rattle.xml.specs.Truth.{bool_by}
use Rattle.keys.specs.Tree.{Content, inner, front, contents, same_content, held_by}
use Rattle.keys.specs.Legal.{untimed}
use Rattle.timestamp.specs.Times.{Times, same_times, only_after, write_times}
use Rattle.timestamp.specs.TimesLaws.{times-not, write-lacks}
use Rattle.versions.specs.Archive.{wrap, branches, holding}
use Rattle.versions.specs.Lawful.{InnerEntry, FrontEntry}
use Rattle.versions.specs.Walk.{times_in, newest, add_branch, add_bare, add_content}
use Rattle.versions.specs.SetLaws.{times_in-write}

-- ---- sets with one version more
less : (t : Times) (b : Bool) → (same_times [] (t ▷ b) ≡ false) × (same_times (t ▷ b) [] ≡ false)
unfolding same_times same_by
less [] b = (refl, refl)
less (a ∷ t) b = (refl, refl)

-- sets that both have it, or both lack it, are equal just when they were
pub same_more : (t u : Times) (b : Bool) → same_times (t ▷ b) (u ▷ b) ≡ same_times t u
unfolding same_times same_by
same_more [] [] true = refl
same_more [] [] false = refl
same_more [] (c ∷ u) b = rw (less u b).0 (and-false (beq b c))
same_more (a ∷ t) [] b = rw (less t b).1 (and-false (beq a b))
same_more (a ∷ t) (c ∷ u) b = ap (λ s. beq a c && s) (same_more t u b)

-- one that has it differs from one that lacks it
pub same-apart : (t u : Times) → same_times (t ▷ true) (u ▷ false) ≡ false
unfolding same_times same_by
same-apart [] [] = refl
same-apart [] (c ∷ u) = rw (less u false).0 (and-false (beq true c))
same-apart (a ∷ t) [] = rw (less t true).1 (and-false (beq a false))
same-apart (a ∷ t) (c ∷ u) = rw (same-apart t u) (and-false (beq a c))

none-there : (n : ℕ) → any (replicate n false) ≡ false
unfolding any
none-there zero = refl
none-there (suc n) = none-there n

-- one that began before differs from the version alone
pub same-alone : (n : ℕ) (t : Times) → any t ≡ true → same_times (t ▷ true) (only_after n) ≡ false
unfolding only_after
same-alone n t a = same_more t (replicate n false) true ∙ times-not t (replicate n false) (λ e. clash (ap any (sym e) ∙ a) (none-there n))

-- ---- an element that is in a `T`
pub wrap-other : (parent t : Times) (element : Forest → Forest) (r : Forest) → same_times parent t ≡ false → wrap parent t element r ≡ stamp (write_times t) (element end) r
unfolding wrap
wrap-other parent t element r e = rw (e, wrap)

-- ---- contents that the version lacks
branches-lack : (n : ℕ) (gs : Groups Content) → branches (add_g contents n gs none) ≡ branches gs
unfolding branches add_g
branches-lack n [] = refl
branches-lack n (g ∷ gs) = ap₂ (λ s r. stamp s (held_by g.1 end) r) (write-lacks g.0) (branches-lack n gs)

pub holding-lacks : (n : ℕ) (gs : Groups Content) (kids : Forest) → holding (add_g contents n gs none) kids ≡ holding gs kids
unfolding holding add_g
holding-lacks n [] kids = refl
holding-lacks n (g ∷ []) kids = refl
holding-lacks n (g ∷ h ∷ gs) kids = branches-lack n (g ∷ h ∷ gs)

-- ---- a frontier's contents, and the version's content
module _ (n : ℕ) (u : n ≤ 999) (f : Forest) where
  branch_same : (t : Times) (g : Forest) (gs : Groups Content) → length t ≡ n → add_branch n f (branches gs) ≡ branches (add_g contents n gs (some (front f)))
      → add_branch n f (stamp (write_times t) g (branches gs)) ≡ branches (add_g contents n ((t, front g) ∷ gs) (some (front f)))
  unfolding add_branch branches add_g same_content
  branch_same t g gs e ih = bool_by
      (λ b. elim b as (λ _. Forest) [ true ↦ stamp (write_times (times_in n (write_times t) ++ true ∷ [])) g (branches gs) | false ↦ stamp (write_times t) g (add_branch n f (branches gs)) ]
      ≡ stamp (write_times (t ▷ b)) g (branches (add_g contents n gs (left contents b (some (front f))))))
      (same_forest f g)
      (λ _. ap₂ (λ s r. stamp s g r) (ap (λ t. write_times (t ▷ true)) (times_in-write n t e u)) (sym (branches-lack n gs)))
      (λ _. ap₂ (λ s r. stamp s g r) (sym (write-lacks t)) ih)

  add-branch : (gs : Groups Content) → WFG contents n gs → FrontEntry gs → add_branch n f (branches gs) ≡ branches (add_g contents n gs (some (front f)))
  unfolding add_branch branches add_g WFG newest only_after
  add-branch [] w h = refl
  add-branch ((t, inner) ∷ gs) w h = absurd h.0
  add-branch ((t, front g) ∷ gs) w h = branch_same t g gs w.0 (add-branch gs w.3 h.1)

  add-bare : (t : Times) (g kids : Forest) → add_bare n t f g ≡ holding (add_g contents n ((t, front g) ∷ []) (some (front f))) kids
  unfolding add_bare holding branches add_g same_content newest only_after
  add-bare t g kids = bool_by
      (λ b. elim b as (λ _. Forest) [ true ↦ g | false ↦ stamp (write_times t) g (newest n f end) ] ≡ holding ((t ▷ b, front g) ∷ add_g contents n [] (left contents b (some (front f)))) kids)
      (same_forest f g) (λ _. refl) (λ _. ap (λ s. stamp s g (newest n f end)) (sym (write-lacks t)))

  bare : (t : Times) (g : Forest) → untimed g ≡ true → add_content n t f g ≡ add_bare n t f g
  unfolding add_content untimed
  bare t end e = refl
  bare t (text b r) e = refl
  bare t (elem m k r) e = refl
  bare t (stamp s k r) e = absurd (clash e refl)

  pub add-front : (gs : Groups Content) (kids more : Forest) → T (any (mask_g n gs)) → WFG contents n gs → FrontEntry gs → add_content n (mask_g n gs) f (holding gs kids) ≡ holding (add_g contents n gs (some (front f))) more
  unfolding add_content holding branches mask_g add_g WFG
  add-front [] kids more a w h = absurd (clash (is_true (any (replicate n false)) a) (none-there n))
  add-front ((t, inner) ∷ gs) kids more a w h = absurd h.0
  add-front ((t, front g) ∷ []) kids more a w h = ap (λ t. add_content n t f g) (or-blank t n w.0) ∙ bare t g h.0.1 ∙ add-bare t g more
  add-front ((t, front g) ∷ i ∷ gs) kids more a w h = add-branch ((t, front g) ∷ i ∷ gs) w h

-- above a frontier there is no content of its own
pub inner-one : (n : ℕ) (gs : Groups Content) (kids : Forest) → T (any (mask_g n gs)) → WFG contents n gs → InnerEntry gs → holding (add_g contents n gs (some inner)) kids ≡ kids
unfolding holding mask_g add_g WFG Apart same_content
inner-one n [] kids a w h = absurd (clash (is_true (any (replicate n false)) a) (none-there n))
inner-one n ((t, inner) ∷ []) kids a w h = refl
inner-one n ((t, front f) ∷ gs) kids a w h = absurd h.0
inner-one n ((t, inner) ∷ (s, front f) ∷ gs) kids a w h = absurd h.1.0
inner-one n ((t, inner) ∷ (s, inner) ∷ gs) kids a w h = absurd (clash refl w.2.0)
