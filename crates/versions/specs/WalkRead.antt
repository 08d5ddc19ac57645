-- The conditions that a program checks on an archive's forest accept exactly the legal archives.
use Prim.Native.Nat.{ℕ, zero, suc, ◌≤◌, ◌<◌}
use Rattle.std.proofs.Common.{arith, ◌∙◌, ap₂, inl, inr}
use Rattle.std.specs.Prelude.{◌≡◌, ◌⊎◌, not, ◌&&◌, ltb}
use Rattle.std.proofs.Math.Path.{refl, sym, ap, subst}
use Rattle.std.proofs.Math.Bool.{true, false}
use Rattle.std.proofs.Math.Dec.{leb}
use mathlib.Core.List.{List, [], ◌∷◌, ◌++◌, map, map-append}
use Rattle.std.proofs.lemmas.Bool.{not-false}
use Rattle.std.proofs.Math.ListN.{length, length-map}
use Rattle.xml.specs.Bytes.{Bytes, same}
use Rattle.xml.specs.Forest.{Forest, write, nodes}
use Rattle.xml.specs.Read.{Outcome, whole, broken, read}
use Rattle.xml.specs.RoundTrip.{read-tidy}
use Rattle.xml.specs.BytesLaws.{same-is, same_self}
use Rattle.model.specs.Gather.{All, all_snoc}
use Rattle.model.specs.Orders.{labels}
use Rattle.model.specs.Ledger.{reads}
use Rattle.model.specs.Stored.{version_s}
use Rattle.model.specs.Theorems.{formed-archive, length-versions}
use Rattle.keys.specs.KeyList.{KeyList, key_list}
use Rattle.keys.specs.KeyListLaws.{rules-kept, key_list-notation}
use Rattle.keys.specs.Result.{Refusal, Result, refused, ok, ◌>>=◌, ◌>>◌, refuse, refused_as, r10}
use Rattle.keys.specs.ResultLaws.{refused-ok, passed, refused_as-inv}
use Rattle.keys.specs.Version.{parsed, too_large}
use Rattle.keys.specs.Tree.{contents, keyed, forest_of}
use Rattle.keys.specs.Legal.{LegalVersion, LegalTree}
use Rattle.keys.specs.TreeVersion.{tree-legal, tree-keyed}
use Rattle.versions.specs.Archive.{Archive, archive, archive_forest, archive_of, archive_text, pick, versions_from, last_version}
use Rattle.versions.specs.Lawful.{LegalArchive}
use Rattle.versions.specs.LawfulVersions.{version-legal-tree}
use Rattle.versions.specs.Picked.{pick-archive}
use Rattle.versions.specs.ForestLegal.{forest-legal, legal-forest}
use Rattle.versions.specs.LegalLaws.{all-legal, all-at, legal-of, picked_of, read_of, read_back, archive-legal}
use Rattle.versions.specs.Walk.{forest_legal, archive_read}

-- what a result is made into
abbrev pub mapped : {A B : Type 0} → (A → B) → Result A → Result B
mapped f (refused n) = refused n
mapped f (ok a) = ok (f a)

as-cases : {A : Type 0} (n : Refusal) (r : Result A) → (refused_as n r ≡ refused n) ⊎ ((a : A) × (refused_as n r ≡ ok a))
as-cases n (refused m) = inl refl
as-cases n (ok a) = inr (a, refl)

module _ (keys : Bytes) (K : KeyList) (k : key_list keys ≡ ok K) where
  -- ---- the versions of a legal archive's tree
  module _ (n : ℕ) (a : Archive) (legal : LegalArchive K n a) (small : (i : ℕ) → i < n → too_large (forest_of (version_s i a)) ≡ false) where
    forests : ℕ → List Forest
    forests m = map forest_of (reads version_s m a)

    each-legal : (m : ℕ) → m ≤ n → All (LegalVersion K) (forests m) × (map (keyed K []) (forests m) ≡ reads version_s m a)
    unfolding forests reads
    each-legal zero b = (tt, refl)
    each-legal (suc m) b =
        let h = each-legal m (omega arith) in
        let t : LegalTree K (version_s m a) = version-legal-tree K n m a legal in
        let v : LegalVersion K (forest_of (version_s m a)) = tree-legal K (version_s m a) (rules-kept keys K k) t (small m (omega arith)) in
        let e : keyed K [] (forest_of (version_s m a)) ≡ version_s m a = tree-keyed K (version_s m a) (rules-kept keys K k) t in (
          rw map-append (all_snoc (LegalVersion K) (map forest_of (reads version_s m a)) (forest_of (version_s m a)) h.0 v),
          rw (map-append, map-append) (ap₂ (λ x y. x ++ y) h.1 (ap (λ x. x ∷ []) e)),
        )

    count-forests : length (forests n) ≡ n
    unfolding forests
    count-forests = length-map (reads version_s n a) forest_of ∙ length-versions labels contents n a

    archive-forests : archive_of K (forests n) ≡ archive_forest n a
    unfolding archive_of archive
    archive-forests =
        rw (count-forests, (each-legal n (omega arith)).1) (ap (archive_forest n) (formed-archive labels contents n a legal.formed))

  -- ---- what the walk accepts is the archive of legal versions
  read-accepts : (s : Bytes) (f : Forest) → archive_read K s ≡ ok f → (vs : List Forest) × (archive_text K s ≡ ok vs)
  unfolding archive_read parsed
  read-accepts s f e = accepted (read true s) refl (refused_as-inv r10 _ f e)
    where
      accepted : (o : Outcome) → read true s ≡ o → (do
        g ← parsed o
        refuse r10 (not (same s (write g)))
        refuse r10 (not (forest_legal K g))
        ok g) ≡ ok f → (vs : List Forest) × (archive_text K s ≡ ok vs)
      accepted (broken p) r h = refused-ok h
      accepted (whole g) r h =
          let x = passed r10 (not (same s (write g))) _ f h in
          let y = passed r10 (not (forest_legal K g)) _ f x.1 in
          let q : s ≡ write g = same-is s (write g) (not-false (same s (write g)) x.0) in
          let l = forest-legal K g (rules-kept keys K k) (key_list-notation keys K k) (read-tidy true s g r).0 (not-false (forest_legal K g) y.0) in
          let small : (i : ℕ) → i < l.count → too_large (forest_of (version_s i l.tree)) ≡ false = λ i b.
          ap too_large (sym (pick-archive K l.count i l.tree l.legal l.not_more b) ∙ ap (pick (suc i)) (sym l.exactly)) ∙ l.each-small i b in
          let vs : List Forest = forests l.count l.tree l.legal small l.count in
          let h = (each-legal l.count l.tree l.legal small l.count (omega arith)).0 in
          let c : length vs ≡ l.count = count-forests l.count l.tree l.legal small in
          let lo = l.some-there in
          let hi = l.not_more in
          let z : g ≡ archive_of K vs = l.exactly ∙ sym (archive-forests l.count l.tree l.legal small) in
          let m : nodes (archive_of K vs) ≤ 1024 = subst (λ u. nodes u ≤ 1024) z l.few in
          (vs, ap (archive_text K) (q ∙ ap write z) ∙ read_back keys K k vs h (omega arith) (omega arith) m)

  accepts-read : (s : Bytes) (vs : List Forest) → archive_text K s ≡ ok vs → archive_read K s ≡ ok (archive_of K vs)
  unfolding archive_read parsed archive_of
  accepts-read s vs e =
      let l = archive-legal keys K k s vs e in
      let h : All (LegalVersion K) vs = subst (All (LegalVersion K)) l.1 (all-legal keys K k l.0.each-legal) in
      let lo : 1 ≤ length vs = subst (λ ws. 1 ≤ length ws) l.1 l.0.some-there in
      let hi : length vs ≤ 999 = subst (λ ws. length ws ≤ 999) l.1 l.0.not_more in
      let q : s ≡ write (archive_of K vs) = l.0.exactly ∙ ap (λ ws. write (archive_of K ws)) l.1 in
      let r : read true s ≡ whole (archive_of K vs) = ap (read true) q ∙ read_of keys K k vs h lo hi in
      let t : same s (write (archive_of K vs)) ≡ true = ap (λ u. same u (write (archive_of K vs))) q ∙ same_self (write (archive_of K vs)) in
      let m : nodes (archive_of K vs) ≤ 1024 = subst (λ ws. nodes (archive_of K ws) ≤ 1024) l.1 l.0.small in
      let f : forest_legal K (archive_of K vs) ≡ true = legal-forest K (length vs) (archive K vs) (rules-kept keys K k) lo hi (legal-of keys K k vs h lo hi) m
      (λ i b. ap too_large (picked_of keys K k vs h lo hi i b) ∙ (all-at keys K k vs h i b).small) in
      rw (r, t, f) refl

  -- both refuse under 10 alone
  text-cases : (s : Bytes) → (archive_text K s ≡ refused r10) ⊎ ((vs : List Forest) × (archive_text K s ≡ ok vs))
  unfolding archive_text
  text-cases s = as-cases r10 (do
    f ← parsed (read true s)
    refuse r10 (not (leb 1 (last_version f) && leb (last_version f) 999))
    refuse r10 (ltb 1024 (nodes f))
    vs ← versions_from K f (last_version f) 1
    refuse r10 (not (same s (write (archive_of K vs))))
    ok vs)

  read-cases : (s : Bytes) → (archive_read K s ≡ refused r10) ⊎ ((f : Forest) × (archive_read K s ≡ ok f))
  unfolding archive_read
  read-cases s = as-cases r10 (do
    f ← parsed (read true s)
    refuse r10 (not (same s (write f)))
    refuse r10 (not (forest_legal K f))
    ok f)

  -- the conditions on the forest accept exactly the legal archives, and give their forests
  pub read-agrees : (s : Bytes) → archive_read K s ≡ mapped (archive_of K) (archive_text K s)
  read-agrees s = by-text (archive_text K s) refl (text-cases s) (read-cases s)
    where
      by-text : (t : Result (List Forest)) → archive_text K s ≡ t → (archive_text K s ≡ refused r10) ⊎ ((vs : List Forest) × (archive_text K s ≡ ok vs))
          → (archive_read K s ≡ refused r10) ⊎ ((f : Forest) × (archive_read K s ≡ ok f)) → archive_read K s ≡ mapped (archive_of K) t
      by-text (ok vs) e t r = accepts-read s vs e
      by-text (refused n) e (inr t) r = refused-ok (sym e ∙ t.1)
      by-text (refused n) e (inl t) (inl r) = r ∙ ap (mapped (archive_of K)) (sym t ∙ e)
      by-text (refused n) e (inl t) (inr r) = refused-ok (sym e ∙ (read-accepts s r.0 r.1).1)
