-- Laws of lawful trees, over what an entry is: key children follow key children, and lawful roots have one label.
use Rattle.std.specs.Prelude.{◌≡◌, refl, true}
use Rattle.std.proofs.Common.{sym, ◌∙◌, subst}
use Rattle.std.proofs.Math.Path.{ap}
use Rattle.std.proofs.Math.Option.{Option}
use mathlib.Core.List.{List, [], ◌∷◌}
use Rattle.model.specs.Masks.{clash}
use Rattle.model.specs.Keyed.{Tree, node, look}
use Rattle.model.specs.Orders.{labels}
use Rattle.xml.specs.Bytes.{Bytes, is_name}
use Rattle.keys.specs.KeyList.{KeyList, rules_kept, contexts_in_notation, listed}
use Rattle.keys.specs.RootLaws.{root-label, root-bare}
use Rattle.keys.specs.Version.{Label, name_in}
use Rattle.keys.specs.Address.{values_in}
use Rattle.keys.specs.Legal.{KeyChildren, Lawful}

-- where two elements have key children with the same values, so has a third whose children follow from theirs
module _ {E F G : Type 0} (KE : E → Bytes → Option E → Type 0) (KF : F → Bytes → Option F → Type 0) (KG : G → Bytes → Option G → Type 0)
    (e : E) (k : Tree Label E) (f : F) (j : Tree Label F) (g : G) (t : Tree Label G)
    (step : (n v : Bytes) → KE e v (look labels k ((n ∷ []) ∷ [])) → KF f v (look labels j ((n ∷ []) ∷ [])) → KG g v (look labels t ((n ∷ []) ∷ []))) where
  pub children-both : (ns vs : List Bytes) → KeyChildren KE ns vs e k → KeyChildren KF ns vs f j → KeyChildren KG ns vs g t
  unfolding KeyChildren
  children-both [] [] x y = tt
  children-both [] (v ∷ vs) x y = x
  children-both (n ∷ ns) [] x y = x
  children-both (n ∷ ns) (v ∷ vs) x y = (x.0, step n v x.1 y.1, children-both ns vs x.2 y.2)

module _ {E G : Type 0} (KE : E → Bytes → Option E → Type 0) (KG : G → Bytes → Option G → Type 0) (e : E) (k : Tree Label E) (g : G) (t : Tree Label G)
    (step : (n v : Bytes) → KE e v (look labels k ((n ∷ []) ∷ [])) → KG g v (look labels t ((n ∷ []) ∷ []))) where
  pub children-one : (ns vs : List Bytes) → KeyChildren KE ns vs e k → KeyChildren KG ns vs g t
  children-one ns vs x = children-both KE KE KG e k e k g t (λ n v y z. step n v y) ns vs x x

-- ---- roots
no-values : {E : Type 0} (KE : E → Bytes → Option E → Type 0) (vs : List Bytes) (e : E) (k : Tree Label E) → KeyChildren KE [] vs e k → vs ≡ []
unfolding KeyChildren
no-values KE [] e k x = refl
no-values KE (v ∷ vs) e k x = absurd x

parts : (l : Label) → is_name (name_in l) ≡ true → l ≡ name_in l ∷ values_in l
unfolding is_name name_in values_in
parts [] e = absurd (clash e refl)
parts (n ∷ vs) e = refl

module _ (K : KeyList) (kept : rules_kept K ≡ true) (notation : contexts_in_notation K ≡ true) where
  -- a root's label is its name alone
  root_is : {E : Type 0} (II IF : E → Type 0) (KE : E → Bytes → Option E → Type 0) (l : Label) (e : E) (k r : Tree Label E)
      → Lawful K II IF KE [] (node l e k r) → (l ≡ name_in l ∷ []) × (listed K (name_in l ∷ []) ≡ true)
  unfolding Lawful
  root_is II IF KE l e k r x = (
    parts l x.0 ∙ ap (λ vs. name_in l ∷ vs) (no-values KE (values_in l) e k (subst (λ ns. KeyChildren KE ns (values_in l) e k) (root-bare K (name_in l) kept notation x.2) x.4)),
    x.2,
  )

  pub root-same : {E F : Type 0} (IE JE : E → Type 0) (KE : E → Bytes → Option E → Type 0) (IF JF : F → Type 0) (KF : F → Bytes → Option F → Type 0)
      (l m : Label) (e : E) (k r : Tree Label E) (f : F) (j s : Tree Label F)
      → Lawful K IE JE KE [] (node l e k r) → Lawful K IF JF KF [] (node m f j s) → l ≡ m
  root-same IE JE KE IF JF KF l m e k r f j s x y =
      let a = root_is IE JE KE l e k r x in
      let b = root_is IF JF KF m f j s y in
      a.0 ∙ ap (λ n. n ∷ []) (root-label K (name_in l) (name_in m) notation a.1 b.1) ∙ sym b.0
