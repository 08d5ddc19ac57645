-- The tree of a legal version is a legal tree.
use Rattle.std.specs.Prelude.{◌≡◌, Bool, not, []}
use Rattle.std.proofs.Math.Path.{refl}
use Rattle.std.proofs.Common.{ap}
use Rattle.std.proofs.Math.Bool.{true, false}
use borrow.Author.Tests.{not-false}
use Rattle.xml.specs.Bytes.{Bytes, all, is_name}
use Rattle.xml.specs.Forest.{Forest, end, elem, text, stamp, Tidy}
use Rattle.model.specs.Keyed.{Tree, Ascending}
use Rattle.model.specs.Orders.{labels}
use Rattle.model.specs.Masks.{clash}
use Rattle.xml.specs.Truth.{or_right, and_both, and-false}
use Rattle.keys.specs.KeyList.{Path, KeyList, above, key_names_at, rules_kept}
use Rattle.keys.specs.KeyListLaws.{root-above}
use Rattle.keys.specs.Version.{◌▸◌, Label, called, is_one_value, label, name_in, misplaced, unkeyed}
use Rattle.keys.specs.Address.{values_in}
use Rattle.keys.specs.Tree.{Content, keyed}
use Rattle.keys.specs.Legal.{RootOrNone, LegalVersion, untimed, Kind, Lawful, InnerContent, FrontContent, LawfulVersion, AtMostOne, LegalTree}
use Rattle.keys.specs.TreeParts.{content_of, kids_of, keyed-elem, three-false, placed-elem}
use Rattle.keys.specs.Ascents.{elem-ascending, ascending}
use Rattle.keys.specs.KeyFound.{keys_found}

-- what is in place has no timestamp
pub untimed-placed : (K : KeyList) (p : Path) (f : Forest) → misplaced K p f ≡ false → untimed f ≡ true
unfolding untimed misplaced
untimed-placed K p end m = refl
untimed-placed K p (text b r) m = untimed-placed K p r (or_right (above K p) (misplaced K p r) m)
untimed-placed K p (stamp t k r) m = absurd (clash refl m)
untimed-placed K p (elem n k r) m =
    let w = placed-elem K p n k r m in
    and_both _ _ (and_both _ _ (ap not w.0) (untimed-placed K (p ▸ n) k w.2)) (untimed-placed K p r w.3)

keyed-parts : (K : KeyList) (p : Path) (n : Bytes) (k r : Forest) → unkeyed K p (elem n k r) ≡ false
    → (all (λ key. is_one_value (called key k)) (key_names_at K (p ▸ n)) ≡ true) × (unkeyed K (p ▸ n) k ≡ false) × (unkeyed K p r ≡ false)
unfolding unkeyed
keyed-parts K p n k r u =
    let w = three-false (not (all (λ key. is_one_value (called key k)) (key_names_at K (p ▸ n)))) (unkeyed K (p ▸ n) k) (unkeyed K p r) u in
    (not-false _ w.0, w.1, w.2)

kind-of : (b : Bool) (k : Forest) (t : Tree Label Content) → Tidy false k → untimed k ≡ true → Kind InnerContent FrontContent b (content_of b k) (kids_of b t)
kind-of true k t d u = tt
kind-of false k t d u = ((d, u), refl)

module _ (K : KeyList) (rules : rules_kept K ≡ true) where
  lawful-kids : (b : Bool) (q : Path) (t : Tree Label Content) → (b ≡ true → Ascending labels t → LawfulVersion K q t) → Ascending labels (kids_of b t) → LawfulVersion K q (kids_of b t)
  unfolding Lawful
  lawful-kids true q t h a = h refl a
  lawful-kids false q t h a = tt

  lawful-elem : (p : Path) (n : Bytes) (k r : Forest) → above K p ≡ true → is_name n ≡ true → Tidy false k → misplaced K p (elem n k r) ≡ false → unkeyed K p (elem n k r) ≡ false
      → Ascending labels (kids_of (above K (p ▸ n)) (keyed K (p ▸ n) k)) → LawfulVersion K (p ▸ n) (kids_of (above K (p ▸ n)) (keyed K (p ▸ n) k)) → LawfulVersion K p (keyed K p r)
      → LawfulVersion K p (keyed K p (elem n k r))
  unfolding Lawful label name_in values_in
  lawful-elem p n k r a i d m u s hk hr =
      let w = placed-elem K p n k r m in
      rw (keyed-elem K p n k r) (
        i,
        w.0,
        not-false _ (and-false a w.1),
        kind-of (above K (p ▸ n)) k (keyed K (p ▸ n) k) d (untimed-placed K (p ▸ n) k w.2),
        keys_found K (p ▸ n) k rules (above K (p ▸ n)) refl s (keyed-parts K p n k r u).0,
        hk,
        hr,
      )

  lawful : (p : Path) (f : Forest) → above K p ≡ true → Tidy false f → misplaced K p f ≡ false → unkeyed K p f ≡ false → Ascending labels (keyed K p f) → LawfulVersion K p (keyed K p f)
  unfolding keyed misplaced unkeyed Lawful
  lawful p end a d m u s = tt
  lawful p (text b r) a d m u s = lawful p r a d.3 (or_right (above K p) (misplaced K p r) m) u s
  lawful p (stamp t k r) a d m u s = absurd (clash refl m)
  lawful p (elem n k r) a d m u s =
      let w = placed-elem K p n k r m in
      let v = keyed-parts K p n k r u in
      let z = elem-ascending K p n k r s in
      lawful-elem p n k r a d.0 d.1 m u z.1
      (lawful-kids (above K (p ▸ n)) (p ▸ n) (keyed K (p ▸ n) k) (λ b i. lawful (p ▸ n) k b d.1 w.2 v.1 i) z.1)
      (lawful p r a d.2 w.3 v.2 z.2)

sole-tree : (K : KeyList) (v : Forest) → RootOrNone v → misplaced K [] v ≡ false → AtMostOne (keyed K [] v)
unfolding keyed misplaced
sole-tree K end o m = tt
sole-tree K (text b r) o m = absurd o
sole-tree K (stamp t k r) o m = absurd (clash refl m)
sole-tree K (elem n k r) o m = rw (keyed-elem K [] n k r) (ap (keyed K []) o)

pub legal-tree : (K : KeyList) (v : Forest) → rules_kept K ≡ true → LegalVersion K v → LegalTree K (keyed K [] v)
legal-tree K v rules h =
    let a = root-above K rules in
    let s = ascending K [] v a h.single h.ascends in
    record { ascends = s; lawful = lawful K rules [] v a h.tidy h.placed h.keyed s; sole = sole-tree K v h.root h.placed }
