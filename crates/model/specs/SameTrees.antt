-- Trees of ascending siblings that have the same at every address are the same.
use Rattle.std.specs.Prelude.{ℕ, ◌≡◌}
use Rattle.std.proofs.Math.Path.{refl, sym, subst}
use Rattle.std.proofs.Common.{◌∙◌, arith}
use mathlib.Core.List.{List, [], ◌∷◌}
use Rattle.std.proofs.Math.Option.{Option, none, some}
use mathlib.Core.Ordering.{Ordering, lt, eq, gt}
use Rattle.model.specs.Keyed.{Order, self, flop, Tree, nil, node, here, look, Before, Ascending}
use Rattle.model.specs.Looked.{look-nil, look-before, before-trans}

pub order-by : {G : Type 0} (o : Ordering) → (o ≡ lt → G) → (o ≡ eq → G) → (o ≡ gt → G) → G
order-by lt f g h = f refl
order-by eq f g h = g refl
order-by gt f g h = h refl

there : {X : Type 0} {o : Option X} {x : X} → o ≡ some x → o ≡ none → ⊥
there p q = let z : ◌≡◌ {A = ℕ} 0 1 = cc in omega arith

module _ {L E : Type 0} (ord : Order L) where
  look-first : (l : L) (x : E) (k r : Tree L E) (qs : List L) → look ord (node l x k r) (l ∷ qs) ≡ here qs (some x) (look ord k qs)
  unfolding look
  look-first l x k r qs = rw (self ord l)

  -- beneath and after a first sibling
  look-kids : (l : L) (x y : E) (k r k' r' : Tree L E) → ((qs : List L) → look ord (node l x k r) qs ≡ look ord (node l y k' r') qs) → (qs : List L) → look ord k qs ≡ look ord k' qs
  look-kids l x y k r k' r' e [] = look-nil ord k ∙ sym (look-nil ord k')
  look-kids l x y k r k' r' e (q ∷ qs) = sym (look-first l x k r (q ∷ qs)) ∙ e (l ∷ q ∷ qs) ∙ look-first l y k' r' (q ∷ qs)

  look-rest : (l : L) (x y : E) (k r k' r' : Tree L E) → Before ord l r → Before ord l r'
      → ((qs : List L) → look ord (node l x k r) qs ≡ look ord (node l y k' r') qs) → (qs : List L) → look ord r qs ≡ look ord r' qs
  unfolding look
  look-rest l x y k r k' r' b b' e [] = look-nil ord r ∙ sym (look-nil ord r')
  look-rest l x y k r k' r' b b' e (q ∷ qs) = order-by (ord.cmp q l)
      (λ c. look-before ord r q qs (before-trans ord r c b) ∙ sym (look-before ord r' q qs (before-trans ord r' c b')))
      (λ c. rw (ord.same c) (look-before ord r l qs b ∙ sym (look-before ord r' l qs b')))
      (λ c. rw c at (e (q ∷ qs)))

  pub look-only : (a b : Tree L E) → Ascending ord a → Ascending ord b → ((qs : List L) → look ord a qs ≡ look ord b qs) → a ≡ b
  unfolding look Ascending
  look-only nil nil s t e = refl
  look-only nil (node m y k' r') s t e = absurd (there (look-first m y k' r' []) (sym (e (m ∷ []))))
  look-only (node l x k r) nil s t e = absurd (there (look-first l x k r []) (e (l ∷ [])))
  look-only (node l x k r) (node m y k' r') s t e = order-by (ord.cmp l m)
      (λ c. absurd (there (look-first l x k r []) (e (l ∷ []) ∙ look-before ord (node m y k' r') l [] c)))
      (λ c. subst (λ m. Before ord m r' → ((qs : List L) → look ord (node l x k r) qs ≡ look ord (node m y k' r') qs) → node l x k r ≡ node m y k' r') (ord.same c)
      (λ b f. let p : some x ≡ some y = sym (look-first l x k r []) ∙ f (l ∷ []) ∙ look-first l y k' r' [] in
      let x≡y : x ≡ y = cc in
      rw (x≡y, look-only k k' s.1 t.1 (look-kids l x y k r k' r' f), look-only r r' s.2 t.2 (look-rest l x y k r k' r' s.0 b f)))
      t.0 e)
      (λ c. absurd (there (look-first m y k' r' []) (sym (e (m ∷ [])) ∙ look-before ord (node l x k r) m [] (flop ord c))))
