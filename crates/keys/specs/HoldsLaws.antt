-- A version holds an address if its tree does.
use Rattle.std.specs.Prelude.{◌≡◌, Bool, ◌&&◌, eqb, length}
use Rattle.std.proofs.Math.Path.{refl, ap}
use Rattle.std.proofs.Common.{sym, ◌∙◌}
use Rattle.std.proofs.Math.Bool.{true, false}
use mathlib.Core.List.{List, [], ◌∷◌}
use Rattle.std.proofs.Math.Option.{Option, none, some}
use Rattle.xml.specs.Bytes.{all, is_value}
use Rattle.xml.specs.Forest.{Forest}
use Rattle.model.specs.Keyed
use Rattle.model.specs.Keyed.{look, is_some, Ascending}
use Rattle.model.specs.Orders.{labels}
use Rattle.model.specs.Masks.{clash}
use Rattle.xml.specs.Truth.{bool_by, and_left, and_right}
use Rattle.keys.specs.KeyList.{Path, KeyList, listed, above, key_names_at, rules_kept}
use Rattle.keys.specs.KeyListLaws.{listed_above, root-above}
use Rattle.keys.specs.Version.{◌▸◌, Label, name_in, find}
use Rattle.keys.specs.Address.{values_in, steps_known, holds}
use Rattle.keys.specs.Legal.{LegalVersion}
use Rattle.keys.specs.Tree.{keyed}
use Rattle.keys.specs.TreeParts.{kids_of}
use Rattle.keys.specs.Ascents.{ascending}
use Rattle.keys.specs.FindLaws.{seen, AscendingIn, look-find, find-ascending}

step-listed : (K : KeyList) (p : Path) (l : Label) (ls : List Label) → steps_known K p (l ∷ ls) ≡ true
    → (listed K (p ▸ name_in l) ≡ true) × (steps_known K (p ▸ name_in l) ls ≡ true)
unfolding steps_known
step-listed K p l ls s = four (listed K (p ▸ name_in l)) (eqb (length (values_in l)) (length (key_names_at K (p ▸ name_in l)))) (all is_value (values_in l)) (steps_known K (p ▸ name_in l) ls) s
  where
    four : (a b c d : Bool) → (a && b && c && d) ≡ true → (a ≡ true) × (d ≡ true)
    four a b c d e = (and_left a b (and_left (a && b) c (and_left (a && b && c) d e)), and_right (a && b && c) d e)

module _ (K : KeyList) where
  holds_at : (p : Path) (f : Forest) (l : Label) (ls : List Label) → Ascending labels (keyed K p f) → steps_known K p (l ∷ ls) ≡ true
      → holds K p (l ∷ ls) f ≡ is_some (look labels (keyed K p f) (l ∷ ls))
  unfolding holds
  holds_at p f l [] a s = go (find K p l f) ∙ ap is_some (sym (look-find K p f l [] a))
    where
      go : (o : Option Forest) → elim o as (λ _. Bool) [ none ↦ false | some k ↦ true ] ≡ is_some (seen K (p ▸ name_in l) [] o)
      go none = refl
      go (some k) = refl
  holds_at p f l (m ∷ ls) a s =
      go (find K p l f) (find-ascending K p f l a) (λ k b. holds_at (p ▸ name_in l) k m ls b (step-listed K p l (m ∷ ls) s).1) ∙ ap is_some (sym (look-find K p f l (m ∷ ls) a))
    where
      go : (o : Option Forest) → AscendingIn K (p ▸ name_in l) o
          → ((k : Forest) → Ascending labels (keyed K (p ▸ name_in l) k) → holds K (p ▸ name_in l) (m ∷ ls) k ≡ is_some (look labels (keyed K (p ▸ name_in l) k) (m ∷ ls)))
          → elim o as (λ _. Bool) [ none ↦ false | some k ↦ holds K (p ▸ name_in l) (m ∷ ls) k ] ≡ is_some (seen K (p ▸ name_in l) (m ∷ ls) o)
      go none b ih = refl
      go (some k) b ih = bool_by
          (λ c. Ascending labels (kids_of c (keyed K (p ▸ name_in l) k)) → holds K (p ▸ name_in l) (m ∷ ls) k ≡ is_some (look labels (kids_of c (keyed K (p ▸ name_in l) k)) (m ∷ ls)))
          (above K (p ▸ name_in l))
          (λ e b. ih k b)
          (λ e b. absurd (clash (step-listed K (p ▸ name_in l) m ls (step-listed K p l (m ∷ ls) s).1).0 (listed_above K (p ▸ name_in l) (name_in m) e)))
          b

  -- the addresses of archives have one step at least
  pub holds-tree : (v : Forest) (l : Label) (ls : List Label) → rules_kept K ≡ true → LegalVersion K v → steps_known K [] (l ∷ ls) ≡ true
      → holds K [] (l ∷ ls) v ≡ Keyed.holds labels (l ∷ ls) (keyed K [] v)
  unfolding Keyed.holds
  holds-tree v l ls rules legal s = holds_at [] v l ls (ascending K [] v (root-above K rules) legal.single legal.ascends) s
