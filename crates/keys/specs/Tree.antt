-- A version as a tree of labels, which is what archives are made of.
use Rattle.std.specs.Prelude.{◌≡◌, refl, Bool, true, false}
use Rattle.std.proofs.Common.{sym, ap}
use Rattle.xml.specs.Forest.{Forest, end, elem, text, stamp, same_forest}
use Rattle.xml.specs.Truth.{clash}
use Rattle.xml.specs.BytesLaws.{forest-is, forest-self}
use Rattle.model.specs.Keyed.{Tree, nil, node}
use Rattle.model.specs.Groups.{Same}
use Rattle.keys.specs.KeyList.{Path, KeyList, above}
use Rattle.keys.specs.Version.{◌▸◌, Label, label, name_in, version_compute}

-- what an element holds beside keyed elements: nothing above a frontier, its content at a frontier
pub data Content : Type 0 where
  inner : Content
  front : Forest → Content

unfoldable pub same_content : Content → Content → Bool
same_content inner inner = true
same_content inner (front g) = false
same_content (front f) inner = false
same_content (front f) (front g) = same_forest f g

pub content-self : (c : Content) → same_content c c ≡ true
unfolding same_content
content-self inner = refl
content-self (front f) = forest-self f

pub content-is : (c d : Content) → same_content c d ≡ true → c ≡ d
unfolding same_content
content-is inner inner e = refl
content-is inner (front g) e = clash (sym e)
content-is (front f) inner e = clash (sym e)
content-is (front f) (front g) e = ap front (forest-is f g e)

-- the test of equality, and that it is one
abbrev pub contents : Same Content
contents = record { test = same_content; self = content-self; same = λ {c} {d} e. content-is c d e }

-- the elements of siblings in an element of path p, each with its label; what lies beneath a frontier is its content
unfoldable pub keyed : KeyList → Path → Forest → Tree Label Content
keyed K p end = nil
keyed K p (text b r) = keyed K p r
keyed K p (stamp t k r) = keyed K p r
keyed K p (elem n k r) =
    elim (above K (p ▸ n)) [
      | true ↦ node (label K p n k) inner (keyed K (p ▸ n) k) (keyed K p r)
      | false ↦ node (label K p n k) (front k) nil (keyed K p r)
    ]

-- and back
abbrev pub held_by : Content → Forest → Forest
held_by inner kids = kids
held_by (front f) kids = f

unfoldable pub forest_of : Tree Label Content → Forest
forest_of nil = end
forest_of (node l c k r) = elem (name_in l) (held_by c (forest_of k)) (forest_of r)

unfoldable pub tree_compute : Unit {0}
unfolding version_compute same_content keyed forest_of
tree_compute = tt
