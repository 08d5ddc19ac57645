-- What the archive of legal versions is and gives: it is what document 01's paragraph says, the archive of the first i is the archive cut
-- back to i, and histories are the sets of versions that hold the address.
use Rattle.std.specs.Prelude.{ℕ, zero, suc, ◌≤◌, ◌≡◌, true, ◌||◌, take}
use Rattle.std.proofs.Common.{arith, ◌∙◌}
use Rattle.std.proofs.Math.Path.{refl, sym, ap, ap₂, subst}
use Rattle.std.proofs.Math.Bool.{false}
use mathlib.Core.List.{List, [], ◌∷◌, map}
use borrow.Author.Tests.{ltb-false, le-ltb}
use Rattle.std.proofs.Math.Dec.{ltb}
use Rattle.std.proofs.Math.ListN.{length, length-map}
use Rattle.std.proofs.Math.Seq.{length-take-le}
use Rattle.xml.specs.Bytes.{Bytes}
use Rattle.xml.specs.Forest.{Forest, write, nodes, depth}
use Rattle.xml.specs.Truth.{or_left}
use Rattle.model.specs.Gather.{All}
use Rattle.model.specs.Keyed
use Rattle.model.specs.Keyed.{Tree, Ascending}
use Rattle.model.specs.Orders.{labels}
use Rattle.model.specs.Stored.{cut_s, history_s}
use Rattle.model.specs.Direct.{height}
use Rattle.model.specs.DirectLaws.{archive-direct}
use Rattle.model.specs.Theorems.{archive-cut, archive-history}
use Rattle.keys.specs.KeyList.{KeyList, key_list}
use Rattle.keys.specs.Result.{ok}
use Rattle.keys.specs.KeyListLaws.{rules-kept}
use Rattle.keys.specs.Version.{Label, too_large}
use Rattle.keys.specs.Address.{holds, steps_known}
use Rattle.keys.specs.Tree.{contents, keyed}
use Rattle.keys.specs.Legal.{LegalVersion}
use Rattle.keys.specs.TreeParts.{tree-height}
use Rattle.keys.specs.HoldsLaws.{holds-tree}
use Rattle.versions.specs.Archive.{archive, archive_direct, archive_of, archive_text}
use Rattle.versions.specs.NodesBack.{nodes-back}
use Rattle.versions.specs.BackLength.{length_back}
use Rattle.versions.specs.LegalLaws.{all-trees, all-ascend, all-legal, legal-of, archive-legal}
use Rattle.versions.specs.Calls.{storable}

map-take : {A B : Type 0} (f : A → B) (i : ℕ) (xs : List A) → map f (take i xs) ≡ take i (map f xs)
map-take f zero xs = refl
map-take f (suc i) [] = refl
map-take f (suc i) (x ∷ xs) = ap (λ t. f x ∷ t) (map-take f i xs)

module _ (keys : Bytes) (K : KeyList) (k : key_list keys ≡ ok K) where
  low : (v : Forest) → LegalVersion K v → height (keyed K [] v) ≤ 16
  unfolding too_large
  low v h =
      let d : depth v ≤ 16 = ltb-false 16 (depth v) (or_left (ltb 16 (depth v)) _ (or_left (ltb 16 (depth v) || ltb 512 (nodes v)) _ h.small)) in
      omega (arith, tree-height K [] v)

  all-low : (vs : List Forest) → All (LegalVersion K) vs → All (λ t. height t ≤ 16) (map (keyed K []) vs)
  all-low [] h = tt
  all-low (v ∷ vs) h = (low v h.0, all-low vs h.1)

  module _ (vs : List Forest) (legal : All (LegalVersion K) vs) where
    ascend : All (Ascending labels) (map (keyed K []) vs)
    ascend = all-ascend keys K k (map (keyed K []) vs) (all-trees keys K k vs legal)

    -- the published merge gives what document 01's paragraph says
    pub archive-is-direct : archive K vs ≡ archive_direct K vs
    unfolding archive archive_direct
    archive-is-direct = sym (archive-direct labels contents 16 (map (keyed K []) vs) ascend (all-low vs legal))

    -- the archive of the first i versions is the archive cut back to i
    pub archive-back : (i : ℕ) → i ≤ length vs → archive K (take i vs) ≡ cut_s i (archive K vs)
    unfolding archive
    archive-back i b = rw map-take (sym (archive-cut labels contents (map (keyed K []) vs) ascend i (rw length-map b)))

    -- a history is the set of the versions that hold the address
    pub history-is : (l : Label) (ls : List Label) → steps_known K [] (l ∷ ls) ≡ true
        → history_s labels contents (length vs) (l ∷ ls) (archive K vs) ≡ map (holds K [] (l ∷ ls)) vs
    unfolding archive
    history-is l ls s =
        ap (λ n. history_s labels contents n (l ∷ ls) (archive K vs)) (sym (length-map vs (keyed K [])))
        ∙ archive-history labels contents (map (keyed K []) vs) ascend (l ∷ ls) ∙ each vs legal
      where
        each : (ws : List Forest) → All (LegalVersion K) ws → map (Keyed.holds labels (l ∷ ls)) (map (keyed K []) ws) ≡ map (holds K [] (l ∷ ls)) ws
        each [] h = refl
        each (w ∷ ws) h = ap₂ (λ b t. b ∷ t) (sym (holds-tree K w l ls (rules-kept keys K k) h.0 s)) (each ws h.1)

    -- stepping back adds no node
    pub back-nodes : (i : ℕ) → 1 ≤ i → i ≤ length vs → 1 ≤ length vs → length vs ≤ 999 → nodes (archive_of K (take i vs)) ≤ nodes (archive_of K vs)
    unfolding archive_of
    back-nodes i l b there counted =
        let h = legal-of keys K k vs legal there counted in
        let e : length (take i vs) ≡ i = length-take-le i vs b in
        rw (e, archive-back i b) (nodes-back K (length vs) i (archive K vs) h.formed h.lawful)

    -- and no byte
    pub back-bytes : (i : ℕ) → 1 ≤ i → i ≤ length vs → 1 ≤ length vs → length vs ≤ 999 → length (write (archive_of K (take i vs))) ≤ length (write (archive_of K vs))
    unfolding archive_of
    back-bytes i l b there counted =
        let e : length (take i vs) ≡ i = length-take-le i vs b in
        rw (e, archive-back i b) (length_back K (length vs) i (archive K vs) (legal-of keys K k vs legal there counted) counted l b)

  -- "Stepping back can't meet 13."
  pub back-storable : (s : Bytes) (vs : List Forest) → archive_text K s ≡ ok vs → length s ≤ 32768 → (i : ℕ) → 1 ≤ i → i ≤ length vs → storable (archive_of K (take i vs)) ≡ ok tt
  unfolding storable
  back-storable s vs e m i l b =
      let x = archive-legal keys K k s vs e in
      let h : All (LegalVersion K) vs = subst (All (LegalVersion K)) x.1 (all-legal keys K k x.0.each-legal) in
      let lo : 1 ≤ length vs = subst (λ ws. 1 ≤ length ws) x.1 x.0.some-there in
      let hi : length vs ≤ 999 = subst (λ ws. length ws ≤ 999) x.1 x.0.not_more in
      let q : s ≡ write (archive_of K vs) = x.0.exactly ∙ ap (λ ws. write (archive_of K ws)) x.1 in
      let n : nodes (archive_of K vs) ≤ 1024 = subst (λ ws. nodes (archive_of K ws) ≤ 1024) x.1 x.0.small in
      let u : ltb 1024 (nodes (archive_of K (take i vs))) ≡ false = le-ltb 1024 (nodes (archive_of K (take i vs))) (omega (arith, back-nodes vs h i l b lo hi)) in
      let w : ltb 32768 (length (write (archive_of K (take i vs)))) ≡ false = le-ltb 32768 (length (write (archive_of K (take i vs)))) (omega (arith, back-bytes vs h i l b lo hi, ap length q)) in
      rw (u, w) refl
