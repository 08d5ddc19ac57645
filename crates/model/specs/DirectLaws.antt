-- The archive of a list of versions, directly, is the published merge folded over the list.
use Rattle.std.specs.Prelude.{ℕ, zero, ◌≤◌, ◌≡◌, List, [], ◌∷◌, map, false, length}
use Rattle.std.proofs.Math.Path.{refl, ap}
use Rattle.std.proofs.Common.{sym, ◌∙◌}
use Rattle.std.proofs.lemmas.List.{map-append, length-map}
use Rattle.std.proofs.Math.Option
use Rattle.std.proofs.Math.Option.{Option, none, some}
use Rattle.model.specs.Gather.{Snoc, empty, more, snoc, gather, gather-more, All, all-front}
use Rattle.model.specs.Keyed.{Order, Tree, nil, Past, is_some, any, mask, ◌▷◌, keep_if, look, merge, version, cut, WF, Ascending}
use Rattle.model.specs.Masks.{any-true, any_false, is_true, true-is, any-▷}
use Rattle.model.specs.Merged.{merged}
use Rattle.model.specs.Pasts.{absent, mask-▷}
use Rattle.model.specs.Looked.{push, look-merge}
use Rattle.model.specs.Rebuilt.{WFBy-ascending}
use Rattle.model.specs.Ledger.{all-WF}
use Rattle.model.specs.Groups.{Same, WFG}
use Rattle.model.specs.Mapped.{map_t, look-map}
use Rattle.model.specs.Stored.{enc, store, store-merge, merge_s, mask_g}
use Rattle.model.specs.PastTrees.{archive}
use Rattle.model.specs.Theorems.{archive_of, archive-formed}
use Rattle.model.specs.Direct.{height, direct}
use Rattle.model.specs.DirectGroups.{bool_by, enc-is}
use Rattle.model.specs.SameTrees.{look-only}
use Rattle.model.specs.DirectTrees.{entry, ascending-direct, look-direct}

-- a past, where it has a content
abbrev lived : {C : Type 0} → Past C → Option (Past C)
lived h = keep_if (any (mask h)) h

push-lived : {C : Type 0} (h : Past C) (o : Option C) → push (length h) (lived h) o ≡ lived (h ▷ o)
push-lived {C} h o = bool_by (any (mask h))
    (λ e. rw (e, mask-▷ h o, is_true (any (mask h ▷ is_some o)) (any-▷ (mask h) (is_some o) (true-is e))))
    (λ e. rw (e, mask-▷ h o) (go o e))
  where
    go : (o : Option C) → any (mask h) ≡ false → push (length h) none o ≡ keep_if (any (mask h ▷ is_some o)) (h ▷ o)
    go none e = rw (any_false (mask h), e)
    go (some c) e = rw (any-true (mask h)) (ap (λ t. some (t ▷ some c)) (sym (absent h e)))

module _ {L C : Type 0} (ord : Order L) (sm : Same C) where
  -- of pasts
  abbrev pasts_of : List (Tree L C) → Tree L (Past C)
  pasts_of = gather (merge ord) zero nil

  look-pasts : (qs : List L) {vs : List (Tree L C)} → Snoc vs → look ord (pasts_of vs) qs ≡ lived (map (λ v. look ord v qs) vs)
  unfolding gather look any
  look-pasts qs empty = refl
  look-pasts qs (more vs v t) = ap (λ a. look ord a qs) (gather-more (merge ord) nil vs v) ∙ look-merge ord (length vs) (merged ord (length vs) (pasts_of vs) v) qs
      ∙ ap (λ o. push (length vs) o (look ord v qs)) (look-pasts qs t)
      ∙ ap (λ n. push n (lived (map (λ v. look ord v qs) vs)) (look ord v qs)) (sym (length-map vs (λ v. look ord v qs)))
      ∙ push-lived (map (λ v. look ord v qs) vs) (look ord v qs)
      ∙ ap lived (sym (map-append (λ v. look ord v qs) vs (v ∷ [])))

  stored-archive : {vs : List (Tree L C)} → Snoc vs → All (Ascending ord) vs → archive_of ord sm vs ≡ store ord sm (pasts_of vs)
  unfolding gather map_t
  stored-archive empty s = refl
  stored-archive (more vs v t) s = gather-more (merge_s ord sm) nil vs v
      ∙ ap (λ a. merge_s ord sm (length vs) a v) (stored-archive t (all-front (Ascending ord) vs v s).0)
      ∙ store-merge ord sm (length vs) (pasts_of vs) v (all-WF (WF ord) (Ascending ord) nil (merge ord) cut version (archive ord) vs (all-front (Ascending ord) vs v s).0)
      ∙ ap (store ord sm) (sym (gather-more (merge ord) nil vs v))

  entry-lived : (h : Past C) → Option.map (enc sm) (lived h) ≡ entry ord sm h
  entry-lived h = bool_by (any (mask h)) (λ e. rw e (ap some (enc-is sm h))) (λ e. rw e)

  look-archive : (vs : List (Tree L C)) → All (Ascending ord) vs → (qs : List L) → look ord (archive_of ord sm vs) qs ≡ entry ord sm (map (λ v. look ord v qs) vs)
  look-archive vs s qs = ap (λ a. look ord a qs) (stored-archive (snoc vs) s) ∙ look-map ord (enc sm) (pasts_of vs) qs
      ∙ ap (Option.map (enc sm)) (look-pasts qs (snoc vs)) ∙ entry-lived (map (λ v. look ord v qs) vs)

  pub archive-direct : (d : ℕ) (vs : List (Tree L C)) → All (Ascending ord) vs → All (λ v. height v ≤ d) vs → direct ord sm d vs ≡ archive_of ord sm vs
  archive-direct d vs s b = look-only ord (direct ord sm d vs) (archive_of ord sm vs) (ascending-direct ord sm d vs)
      (WFBy-ascending ord (WFG sm (length vs)) (mask_g (length vs)) (archive_of ord sm vs) (archive-formed ord sm vs s))
      (λ qs. look-direct ord sm d vs s b qs ∙ sym (look-archive vs s qs))
