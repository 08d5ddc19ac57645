-- The archive of a list of versions, oldest first: T1 to T6.
use Rattle.std.specs.Prelude.{ℕ, zero, suc, ◌≡◌, true, false, length, replicate}
use Rattle.std.proofs.Math.Path.{refl}
use Rattle.std.proofs.Common.{ap, sym, ◌∙◌, arith, add-one}
use mathlib.Core.List.{List, [], ◌∷◌, map}
use Rattle.std.proofs.Math.Option.{Option, none, some}
use Rattle.std.proofs.lemmas.List.{replicate-append-replicate}
use Rattle.model.specs.Gather.{gather, All}
use Rattle.model.specs.Keyed.{Order, Tree, nil, node, Past, any, mask, is_some, ◌▷◌, blank, at, version, cut, look, holds, presence, history, Ascending, merge, WF, WFBy}
use Rattle.model.specs.Merged.{merged}
use Rattle.model.specs.Pasts.{mask-▷, mask-blank}
use Rattle.model.specs.Kept.{version-old, version-new, cut-old, cut_all}
use Rattle.model.specs.Formed.{merge-WF}
use Rattle.model.specs.Looked.{push, look-merge}
use Rattle.model.specs.Rebuilt.{complete, cut-WF, ascending-sift, WF-ascending}
use Rattle.model.specs.Ledger.{Ledger, all-observed}

module _ {L : Type 0} (ord : Order L) where
  abbrev pub archive_of : {C : Type 0} → List (Tree L C) → Tree L (Past C)
  archive_of vs = gather (merge ord) zero nil vs

presence-push : {C : Type 0} (n : ℕ) (x : Option (Past C)) (y : Option C) → presence mask (suc n) (push n x y) ≡ presence mask n x ▷ is_some y
presence-push n none none = ap (λ m. replicate m false) (sym (add-one n)) ∙ sym (replicate-append-replicate n 1 false)
presence-push {C} n none (some c) = mask-▷ (blank n) (some c) ∙ ap (λ t. t ▷ true) (mask-blank C n)
presence-push n (some h) y = mask-▷ h y

module _ {L C : Type 0} (ord : Order L) where
  none_left : (a : Tree L (Past C)) → WF ord zero a → nil ≡ a
  unfolding WFBy any
  none_left nil w = refl
  none_left (node l [] k r) w = absurd w.1
  none_left (node l (o ∷ h) k r) w = absurd (omega (arith, w.0))

  pub archive : Ledger {A = Tree L (Past C)} {X = Tree L C} (WF ord) (Ascending ord) nil (merge ord) cut version
  unfolding WFBy
  archive = record {
    start = tt;
    only = none_left;
    grows = λ n a v w s. merge-WF ord n a v w s;
    good = λ n i a w. ascending-sift ord (at i) a (WF-ascending ord n a w);
    old = λ n a v w s i b. version-old ord n a v w i b;
    new = λ n a v w s. version-new ord n a v w;
    kept = λ n a v w s i b. cut-old ord n a v w i b;
    whole = λ n a w. cut_all ord n a w;
    shorter = λ n i a w b. cut-WF ord n i b a w;
    complete = λ n a w. complete ord n a w;
  }

  pub history-merge : (n : ℕ) (qs : List L) (a : Tree L (Past C)) (v : Tree L C) → history ord mask (suc n) qs (merge ord n a v) ≡ history ord mask n qs a ▷ holds ord qs v
  unfolding holds
  history-merge n qs a v = rw (look-merge ord n (merged ord n a v) qs) (presence-push n (look ord a qs) (look ord v qs))

  pub archive-history : (vs : List (Tree L C)) → All (Ascending ord) vs → (qs : List L) → history ord mask (length vs) qs (archive_of ord vs) ≡ map (holds ord qs) vs
  unfolding look
  archive-history vs s qs = all-observed (WF ord) (Ascending ord) nil (merge ord) cut version archive vs s (λ n a. history ord mask n qs a) (holds ord qs) refl (λ n a v w g. history-merge n qs a v)
