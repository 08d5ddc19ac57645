-- The versions of a legal archive are legal.
use Rattle.std.specs.Prelude.{ℕ, ◌≡◌, Bool, List, [], ◌∷◌}
use Rattle.std.proofs.Math.Path.{refl}
use Rattle.std.proofs.Math.Bool.{true, false}
use Rattle.std.proofs.Math.Option.{Option, none, some}
use Rattle.xml.specs.Bytes.{Bytes}
use Rattle.xml.specs.Forest.{end, text}
use Rattle.model.specs.Keyed.{nil, node, grown, sift}
use Rattle.model.specs.Orders.{labels}
use Rattle.model.specs.Groups.{Groups, at_g, WFG}
use Rattle.model.specs.Rebuilt.{ascending-sift, WFBy-ascending}
use Rattle.model.specs.Sifted.{look-sift, mask_at_lem, all-at}
use Rattle.model.specs.Stored.{version_s, mask_g}
use Rattle.keys.specs.KeyList.{Path, KeyList, above, key_names_at}
use Rattle.keys.specs.Version.{◌▸◌, name_in}
use Rattle.keys.specs.Address.{values_in}
use Rattle.keys.specs.Tree.{Content, front, contents}
use Rattle.keys.specs.Legal.{Kind, KeyChildren, Lawful, InnerContent, FrontContent, KeyContent, LawfulVersion, AtMostOne, LegalTree}
use Rattle.versions.specs.Archive.{Archive}
use Rattle.versions.specs.Lawful.{InnerEntry, FrontEntry, KeyEntry, LawfulArchive, LegalArchive}
use Rattle.versions.specs.LawfulLaws.{children-one}

module _ (n i : ℕ) where
  -- a key child stands where its element does
  child-at : (gs : Groups Content) (c d : Content) → at_g i gs ≡ some c → at_g i ((mask_g n gs, d) ∷ []) ≡ some d
  unfolding at_g
  child-at gs c d e = rw (mask_at_lem n i gs, e)

  kind_at : (b : Bool) (gs : Groups Content) (c : Content) (k : Archive) → at_g i gs ≡ some c → Kind InnerEntry FrontEntry b gs k → Kind InnerContent FrontContent b c (version_s i k)
  unfolding sift
  kind_at true gs c k e x = rw e at (all-at InnerContent i gs x)
  kind_at false gs c k e x = (rw e at (all-at FrontContent i gs x.0), rw x.1)

  keys-at : (gs : Groups Content) (c : Content) (k : Archive) → at_g i gs ≡ some c → (ns vs : List Bytes) → KeyChildren (KeyEntry n) ns vs gs k → KeyChildren KeyContent ns vs c (version_s i k)
  keys-at gs c k e ns vs x = children-one (KeyEntry n) KeyContent gs k c (version_s i k)
      (λ m v f. look-sift labels (at_g i) k (m ∷ []) f (child-at gs c (front (text v end)) e)) ns vs x

  lawful-at : (K : KeyList) (p : Path) (a : Archive) → LawfulArchive K n p a → LawfulVersion K p (version_s i a)
  unfolding Lawful sift
  lawful-at K p nil x = tt
  lawful-at K p (node l gs k r) x = go (at_g i gs) refl (lawful-at K (p ▸ name_in l) k x.5) (lawful-at K p r x.6)
    where
      go : (o : Option Content) → at_g i gs ≡ o → LawfulVersion K (p ▸ name_in l) (version_s i k) → LawfulVersion K p (version_s i r)
          → LawfulVersion K p (grown l o (version_s i k) (version_s i r))
      go none e y z = z
      go (some c) e y z = (
        x.0,
        x.1,
        x.2,
        kind_at (above K (p ▸ name_in l)) gs c k e x.3,
        keys-at gs c k e (key_names_at K (p ▸ name_in l)) (values_in l) x.4,
        y,
        z,
      )

  sole-at : (a : Archive) → AtMostOne a → AtMostOne (version_s i a)
  unfolding sift
  sole-at nil x = tt
  sole-at (node l gs k r) x = rw x (go (at_g i gs))
    where
      go : (o : Option Content) → AtMostOne (grown l o (version_s i k) nil)
      go none = tt
      go (some c) = refl

pub version-legal-tree : (K : KeyList) (n i : ℕ) (a : Archive) → LegalArchive K n a → LegalTree K (version_s i a)
version-legal-tree K n i a x = record {
  ascends = ascending-sift labels (at_g i) a (WFBy-ascending labels (WFG contents n) (mask_g n) a x.formed);
  lawful = lawful-at n i K [] a x.lawful;
  sole = sole-at n i a x.rooted;
}
