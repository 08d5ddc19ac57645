-- What holds of the tree of an archive: the conditions on a legal version's tree (keys' Legal.antt), over sets of versions.
use Rattle.std.specs.Prelude.{ℕ, ◌≡◌, [], ◌∷◌}
use Rattle.std.proofs.Math.Option.{Option, some}
use Rattle.xml.specs.Bytes.{Bytes}
use Rattle.xml.specs.Forest.{end, text}
use Rattle.model.specs.Gather.{All}
use Rattle.model.specs.Orders.{labels}
use Rattle.model.specs.Groups.{Groups}
use Rattle.model.specs.Stored.{mask_g, WFS}
use Rattle.keys.specs.KeyList.{Path, KeyList}
use Rattle.keys.specs.Tree.{Content, front, contents}
use Rattle.keys.specs.Legal.{Lawful, InnerContent, FrontContent, AtMostOne}
use Rattle.versions.specs.Archive.{Archive}

abbrev pub InnerEntry : Groups Content → Type 0
InnerEntry gs = All (λ g. InnerContent g.1) gs

abbrev pub FrontEntry : Groups Content → Type 0
FrontEntry gs = All (λ g. FrontContent g.1) gs

-- the child for a key name: there as long as the element itself, with the one value
abbrev pub KeyEntry : ℕ → Groups Content → Bytes → Option (Groups Content) → Type 0
KeyEntry n gs v o = o ≡ some ((mask_g n gs, front (text v end)) ∷ [])

abbrev pub LawfulArchive : KeyList → ℕ → Path → Archive → Type 0
LawfulArchive K n p a = Lawful K InnerEntry FrontEntry (KeyEntry n) p a

-- the tree of an archive of n legal versions, sizes apart
pub record LegalArchive (K : KeyList) (n : ℕ) (a : Archive) : Type 0 where
  pub formed : WFS labels contents n a
  pub lawful : LawfulArchive K n [] a
  -- one root at most: no version need have one
  pub rooted : AtMostOne a
