-- A legal archive's text is exactly the written archive of some 1 to 999 legal versions of at most 1,024 nodes, and reads back as these.
use Rattle.std.specs.Prelude.{ℕ, zero, suc, ◌+◌, ◌≤◌, ◌<◌, ◌≡◌, ◌&&◌, List, [], ◌∷◌, map, get_or}
use Rattle.std.proofs.Common.{arith, sym, ◌∙◌}
use Rattle.std.proofs.Math.Numerals.{one-add}
use Rattle.std.proofs.Math.Path.{refl, ap, subst}
use Rattle.std.proofs.Math.Bool.{true, false, not}
use Rattle.std.proofs.Math.Dec.{leb, ltb}
use Rattle.std.proofs.Math.ListN.{length, length-map, get_or-map}
use borrow.Author.Tests.{le-leb, le-ltb, leb-true, ltb-false, not-false}
use Rattle.xml.specs.Bytes.{Bytes, same}
use Rattle.xml.specs.Forest.{Forest, end, write, nodes}
use Rattle.xml.specs.Read.{Outcome, whole, broken, read}
use Rattle.xml.specs.RoundTrip.{read-write}
use Rattle.xml.specs.BytesLaws.{same-is, same_self}
use Rattle.model.specs.Gather.{All, gather}
use Rattle.model.specs.Keyed.{Tree, nil, Ascending}
use Rattle.model.specs.Orders.{labels}
use Rattle.model.specs.Stored.{merge_s}
use Rattle.model.specs.Theorems.{archive-version}
use Rattle.keys.specs.Result.{ok, ◌>>=◌, ◌>>◌, refuse, r10}
use Rattle.keys.specs.KeyList.{KeyList, key_list, rules_kept}
use Rattle.keys.specs.KeyListLaws.{rules-kept, key_list-notation}
use Rattle.keys.specs.Versions.{version-legal, legal-version}
use Rattle.keys.specs.TreeParts.{forest-tree}
use Rattle.keys.specs.TreeLaws.{legal-tree}
use Rattle.keys.specs.Version.{Label, parsed, version}
use Rattle.keys.specs.Tree.{Content, contents, keyed, forest_of}
use Rattle.keys.specs.Legal.{LegalVersion, LegalTree}
use Rattle.xml.specs.Truth.{and_left, and_right}
use Rattle.timestamp.specs.TimesLaws.{last-always}
use Rattle.keys.specs.ResultLaws.{refused-ok, ok-inj, bind_inv, passed, refused_as-inv}
use Rattle.versions.specs.Lawful.{LegalArchive}
use Rattle.versions.specs.LawfulMerge.{archive-legal-tree}
use Rattle.versions.specs.StampedTidy.{archive-tidy}
use Rattle.versions.specs.Picked.{pick-archive}
use Rattle.versions.specs.Archive.{archive, archive_forest, archive_of, Versions, empty, more, Legal, pick, versions_from, last_version, archive_text}

whole-inj : {f g : Forest} → whole f ≡ whole g → f ≡ g
whole-inj e = cc

-- ---- the versions that a forest's timestamps pick
from_all : (K : KeyList) (f : Forest) (ws : List Forest) (j : ℕ)
    → ((i : ℕ) → i < length ws → version K (write (pick (j + i) f)) ≡ ok (get_or ws i end)) → versions_from K f (length ws) j ≡ ok ws
unfolding versions_from
from_all K f [] j h = refl
from_all K f (w ∷ ws) j h =
    let e : version K (write (pick j f)) ≡ ok w = subst (λ m. version K (write (pick m f)) ≡ ok w) (omega arith) (h 0 (omega arith)) in
    let t : versions_from K f (length ws) (suc j) ≡ ok ws = from_all K f ws (suc j) (λ i b. subst (λ m. version K (write (pick m f)) ≡ ok (get_or ws i end)) (omega arith) (h (suc i) (omega arith))) in
    rw (e, t) refl

pub record Picked (K : KeyList) (n : ℕ) (vs : List Forest) : Type 0 where
  pub texts : List Bytes
  pub legal : Versions K texts vs
  pub counted : length vs ≡ n

from-picked : (K : KeyList) (f : Forest) (n j : ℕ) (vs : List Forest) → versions_from K f n j ≡ ok vs → Picked K n vs
unfolding versions_from
from-picked K f zero j vs e = let z : [] ≡ vs = cc in subst (Picked K 0) z (record { texts = []; legal = empty; counted = refl })
from-picked K f (suc n) j vs e =
    let x = bind_inv (version K (write (pick j f))) _ vs e in
    let y = bind_inv (versions_from K f n (suc j)) _ vs x.2 in
    let z : x.0 ∷ y.0 ≡ vs = cc y.2 in
    let r = from-picked K f n (suc j) y.0 y.1 in
    subst (Picked K (suc n)) z (record { texts = write (pick j f) ∷ r.texts; legal = more x.1 r.legal; counted = ap suc r.counted })

-- ---- the trees of legal versions
module _ (keys : Bytes) (K : KeyList) (k : key_list keys ≡ ok K) where
  rules : rules_kept K ≡ true
  rules = rules-kept keys K k

  pub all-legal : {ss : List Bytes} {vs : List Forest} → Versions K ss vs → All (LegalVersion K) vs
  all-legal empty = tt
  all-legal (more e h) = (version-legal K _ _ e, all-legal h)

  pub all-trees : (vs : List Forest) → All (LegalVersion K) vs → All (LegalTree K) (map (keyed K []) vs)
  all-trees [] h = tt
  all-trees (v ∷ vs) h = (legal-tree K v rules h.0, all-trees vs h.1)

  pub all-ascend : (ts : List (Tree Label Content)) → All (LegalTree K) ts → All (Ascending labels) ts
  all-ascend [] h = tt
  all-ascend (t ∷ ts) h = (h.0.ascends, all-ascend ts h.1)

  pub all-at : (vs : List Forest) → All (LegalVersion K) vs → (i : ℕ) → i < length vs → LegalVersion K (get_or vs i end)
  all-at [] h i b = absurd (omega arith)
  all-at (v ∷ vs) h zero b = h.0
  all-at (v ∷ vs) h (suc i) b = all-at vs h.1 i (omega arith)

  module _ (vs : List Forest) (legal : All (LegalVersion K) vs) (there : 1 ≤ length vs) (counted : length vs ≤ 999) where
    -- the archive of legal versions is legal
    pub legal-of : LegalArchive K (length vs) (archive K vs)
    unfolding archive
    legal-of = subst (λ n. LegalArchive K n (gather (merge_s labels contents) 0 nil (map (keyed K []) vs))) (length-map vs (keyed K []))
        (archive-legal-tree K (map (keyed K []) vs) rules (key_list-notation keys K k) (all-trees vs legal))

    -- version i of it is the version received
    pub picked_of : (i : ℕ) → i < length vs → pick (suc i) (archive_of K vs) ≡ get_or vs i end
    unfolding archive_of archive keyed
    picked_of i b =
        pick-archive K (length vs) i (archive K vs) legal-of counted b
        ∙ ap forest_of (archive-version labels contents (map (keyed K []) vs) (all-ascend (map (keyed K []) vs) (all-trees vs legal)) i (rw length-map b)
        ∙ get_or-map (keyed K []) vs i end)
        ∙ forest-tree K (get_or vs i end) (all-at vs legal i b)

    pub read_of : read true (write (archive_of K vs)) ≡ whole (archive_of K vs)
    unfolding archive_of
    read_of = let t = archive-tidy K (length vs) (archive K vs) legal-of counted in read-write true _ t.1 t.0

    pub last_of : last_version (archive_of K vs) ≡ length vs
    unfolding last_version archive_of archive_forest
    last_of = last-always (length vs) there counted

    -- the written archive of legal versions reads back as these versions
    pub read_back : nodes (archive_of K vs) ≤ 1024 → archive_text K (write (archive_of K vs)) ≡ ok vs
    unfolding archive_text parsed
    read_back small =
        let n : not (leb 1 (length vs) && leb (length vs) 999) ≡ false = rw (le-leb 1 (length vs) there, le-leb (length vs) 999 counted) refl in
        let m : ltb 1024 (nodes (archive_of K vs)) ≡ false = le-ltb 1024 _ small in
        let f = from_all K (archive_of K vs) vs 1 (λ i b. rw one-add (ap (λ v. version K (write v)) (picked_of i b) ∙ legal-version K (get_or vs i end) (all-at vs legal i b))) in
        let s = same_self (write (archive_of K vs)) in
        rw (read_of, last_of, n, m, f, s) refl

  -- what `archive_text` accepts is legal, with these versions
  pub archive-legal : (s : Bytes) (vs : List Forest) → archive_text K s ≡ ok vs → (l : Legal K s) × (l.versions ≡ vs)
  unfolding archive_text parsed
  archive-legal s vs e = accepted (read true s) refl (refused_as-inv r10 _ vs e)
    where
      accepted : (o : Outcome) → read true s ≡ o → (do
        f ← parsed o
        refuse r10 (not (leb 1 (last_version f) && leb (last_version f) 999))
        refuse r10 (ltb 1024 (nodes f))
        ws ← versions_from K f (last_version f) 1
        refuse r10 (not (same s (write (archive_of K ws))))
        ok ws) ≡ ok vs → (l : Legal K s) × (l.versions ≡ vs)
      accepted (broken p) r h = refused-ok h
      accepted (whole f) r h =
          let x = passed r10 (not (leb 1 (last_version f) && leb (last_version f) 999)) _ vs h in
          let y = passed r10 (ltb 1024 (nodes f)) _ vs x.1 in
          let z = bind_inv (versions_from K f (last_version f) 1) _ vs y.1 in
          let w = passed r10 (not (same s (write (archive_of K z.0)))) _ vs z.2 in
          let v : z.0 ≡ vs = ok-inj w.1 in
          let p = from-picked K f (last_version f) 1 vs (z.1 ∙ ap ok v) in
          let t = not-false (leb 1 (last_version f) && leb (last_version f) 999) x.0 in
          let lo : 1 ≤ length vs = omega (arith, leb-true 1 (last_version f) (and_left (leb 1 (last_version f)) (leb (last_version f) 999) t), p.counted) in
          let hi : length vs ≤ 999 = omega (arith, leb-true (last_version f) 999 (and_right (leb 1 (last_version f)) (leb (last_version f) 999) t), p.counted) in
          let q : s ≡ write (archive_of K vs) = same-is s (write (archive_of K z.0)) (not-false (same s (write (archive_of K z.0))) w.0) ∙ ap (λ u. write (archive_of K u)) v in
          let g : f ≡ archive_of K vs = whole-inj (sym r ∙ ap (read true) q ∙ read_of vs (all-legal p.legal) lo hi) in (
            record {
              texts = p.texts;
              versions = vs;
              each-legal = p.legal;
              some-there = lo;
              not_more = hi;
              exactly = q;
              small = subst (λ u. nodes u ≤ 1024) g (ltb-false 1024 (nodes f) y.0);
            },
            refl,
          )

  -- and what is legal is accepted, as its versions
  pub legal-archive : (s : Bytes) (l : Legal K s) → archive_text K s ≡ ok l.versions
  legal-archive s l = ap (archive_text K) l.exactly ∙ read_back l.versions (all-legal l.each-legal) l.some-there l.not_more l.small
