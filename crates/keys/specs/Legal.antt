-- What holds of a legal version, and of its tree of labels: the laws of archives are stated over these.
use Rattle.std.specs.Prelude.{◌≡◌, Bool, true, false, not, ◌&&◌, List, [], ◌∷◌}
use Rattle.std.proofs.Math.Option.{Option, some}
use Rattle.xml.specs.Bytes.{Bytes, bytes, same, is_name, is_value}
use Rattle.xml.specs.Forest.{Forest, end, elem, text, stamp, Tidy}
use Rattle.model.specs.Keyed.{Tree, nil, node, look, Ascending}
use Rattle.model.specs.Orders.{labels}
use Rattle.keys.specs.KeyList.{Path, KeyList, listed, above, key_names_at}
use Rattle.keys.specs.Version.{◌▸◌, Label, name_in, too_large, misplaced, unkeyed, doubled, ordered}
use Rattle.keys.specs.Address.{values_in}
use Rattle.keys.specs.Tree.{Content, inner, front}

-- one root element, or none
abbrev pub RootOrNone : Forest → Type 0
RootOrNone end = Unit {0}
RootOrNone (elem n k r) = r ≡ end
RootOrNone (text b r) = ⊥
RootOrNone (stamp t k r) = r ≡ end

-- a forest that is a version of some text
pub record LegalVersion (K : KeyList) (v : Forest) : Type 0 where
  pub tidy : Tidy false v
  pub root : RootOrNone v
  pub small : too_large v ≡ false
  pub placed : misplaced K [] v ≡ false
  pub keyed : unkeyed K [] v ≡ false
  pub single : doubled K [] v ≡ false
  pub ascends : ordered K [] v ≡ v

-- content beneath a frontier: no timestamp, and the name T nowhere
unfoldable pub untimed : Forest → Bool
untimed end = true
untimed (text b r) = untimed r
untimed (elem n k r) = not (same n (bytes "T")) && untimed k && untimed r
untimed (stamp t k r) = false

-- ---- trees of labels, over what an entry is
module _ {E : Type 0} (KeyEntry : E → Bytes → Option E → Type 0) where
  -- the children for the key names of an element, with its values
  unfoldable pub KeyChildren : List Bytes → List Bytes → E → Tree Label E → Type 0
  KeyChildren [] [] e k = Unit {0}
  KeyChildren [] (v ∷ vs) e k = ⊥
  KeyChildren (n ∷ ns) [] e k = ⊥
  KeyChildren (n ∷ ns) (v ∷ vs) e k = (is_value v ≡ true) × KeyEntry e v (look labels k ((n ∷ []) ∷ [])) × KeyChildren ns vs e k

-- an element above a frontier, and one at a frontier
abbrev pub Kind : {E : Type 0} → (E → Type 0) → (E → Type 0) → Bool → E → Tree Label E → Type 0
Kind IsInner IsFront true e k = IsInner e
Kind IsInner IsFront false e k = IsFront e × (k ≡ nil)

module _ {E : Type 0} (K : KeyList) (IsInner IsFront : E → Type 0) (KeyEntry : E → Bytes → Option E → Type 0) where
  -- siblings in an element of path p: each has a path of the list, is of the kind that its path says, and has its key children
  unfoldable pub Lawful : Path → Tree Label E → Type 0
  Lawful p nil = Unit {0}
  Lawful p (node l e k r) =
      (is_name (name_in l) ≡ true) × (same (name_in l) (bytes "T") ≡ false) × (listed K (p ▸ name_in l) ≡ true)
      × Kind IsInner IsFront (above K (p ▸ name_in l)) e k
      × KeyChildren KeyEntry (key_names_at K (p ▸ name_in l)) (values_in l) e k
      × Lawful (p ▸ name_in l) k × Lawful p r

-- ---- of a version
abbrev pub InnerContent : Content → Type 0
InnerContent inner = Unit {0}
InnerContent (front f) = ⊥

abbrev pub FrontContent : Content → Type 0
FrontContent inner = ⊥
FrontContent (front f) = Tidy false f × (untimed f ≡ true)

abbrev pub KeyContent : Content → Bytes → Option Content → Type 0
KeyContent c v o = o ≡ some (front (text v end))

abbrev pub LawfulVersion : KeyList → Path → Tree Label Content → Type 0
LawfulVersion K p t = Lawful K InnerContent FrontContent KeyContent p t

-- one element at most
abbrev pub AtMostOne : {E : Type 0} → Tree Label E → Type 0
AtMostOne nil = Unit {0}
AtMostOne (node l e k r) = r ≡ nil

pub record LegalTree (K : KeyList) (t : Tree Label Content) : Type 0 where
  pub ascends : Ascending labels t
  pub lawful : LawfulVersion K [] t
  pub sole : AtMostOne t
