-- Every version of a legal archive is within the limits of 6 just where its elements lie no deeper than 16 and the sizes that the walk
-- has added up (Measured.antt) are within them.
use Prim.Native.Nat.{ℕ, zero, suc, ◌+◌, ◌-◌, ◌≤◌, ◌<◌}
use native.Mathlib.Omega.{arith}
use Rattle.std.specs.Prelude.{Option, ◌≡◌, Bool, true, ◌&&◌, ◌||◌, List, [], length, replicate}
use Rattle.std.proofs.Math.Path.{refl, ap, ap₂}
use Rattle.std.proofs.Common.{sym, ◌∙◌}
use Rattle.std.proofs.Math.Bool.{false, not}
use borrow.Author.Tests.{le-ltb, lt-ltb, le-leb, lt-leb, ltb-true, ltb-false, not-true}
use Rattle.std.proofs.Math.Dec.{leb, ltb}
use Rattle.std.proofs.Math.ListN.{get_or}
use Rattle.std.proofs.lemmas.List.{length-replicate, get_or-replicate}
use Rattle.xml.specs.Bytes.{all}
use Rattle.xml.specs.Forest.{Forest, write, nodes, depth}
use Rattle.xml.specs.Tape.{Tape}
use Rattle.xml.specs.TapeLaws.{tape-one}
use Rattle.xml.specs.Truth.{by-test, clash, not_so, and_left, and_right, or_left}
use Rattle.keys.specs.KeyList.{KeyList}
use Rattle.keys.specs.Version.{too_large}
use Rattle.timestamp.specs.Times.{always, up_from}
use Rattle.timestamp.specs.TimesLaws.{same_or}
use Rattle.versions.specs.Archive.{pick}
use Rattle.versions.specs.Walk.{siblings_legal, all_small}
use Rattle.versions.specs.Sizes.{own_nodes, own_bytes, timed_in, Nested, nodes-pick, bytes-pick}
use Rattle.versions.specs.Grown.{Cells}
use Rattle.legality.specs.Measured.{stopped, nodes_of, bytes_of, stops, few-nodes, few_bytes, Room, Sums, Measured}
use Rattle.legality.specs.Layered.{Layered, siblings-layered, layered-nested, layered-read, layered-stops, depth-pick, layered-reached}
use Rattle.versions.specs.Small.{LegalInside, is_small}
use Rattle.legality.specs.declared.bounds.Size.{Size}

-- ---- a test of the n versions from i on
module _ (P : ℕ → Bool) where
  all-at : (i n : ℕ) → all P (up_from i n) ≡ true → (j : ℕ) → i ≤ j → j < i + n → P j ≡ true
  unfolding all up_from
  all-at i zero e j l h = absurd (omega arith)
  all-at i (suc n) e j l h =
      same_or j i (λ q. ap P q ∙ and_left (P i) (all P (up_from (suc i) n)) e)
      (λ q. all-at (suc i) n (and_right (P i) (all P (up_from (suc i) n)) e) j (omega (arith, q)) (omega arith))

  all_same : (Q : ℕ → Bool) (i n : ℕ) → ((j : ℕ) → i ≤ j → j < i + n → P j ≡ Q j) → all P (up_from i n) ≡ all Q (up_from i n)
  unfolding all up_from
  all_same Q i zero h = refl
  all_same Q i (suc n) h = ap₂ (λ (x y : Bool). x && y) (h i (omega arith) (omega arith)) (all_same Q (suc i) n (λ j a b. h j (omega arith) (omega arith)))

not-less : (a b : ℕ) → not (ltb a b) ≡ leb b a
not-less a b = by-test (ltb a b) (λ e. rw e (sym (lt-leb b a (ltb-true a b e)))) (λ e. rw e (sym (le-leb b a (ltb-false a b e))))

not-both : (x y : Bool) → not (x || y) ≡ (not x && not y)
not-both true y = refl
not-both false y = refl

-- what is within the limits, of a forest that is not too deep
pub not-large : (f : Forest) → depth f ≤ 16 → not (too_large f) ≡ (leb (nodes f) 512 && leb (length (write f)) 16384)
unfolding too_large
not-large f h =
    rw (le-ltb 16 (depth f) h) (not-both (ltb 512 (nodes f)) (ltb 16384 (length (write f))) ∙ ap₂ (λ (x y : Bool). x && y) (not-less 512 (nodes f)) (not-less 16384 (length (write f))))

-- version i of the forest is within the limits, its depth apart
unfoldable pub sizes_fit : Forest → ℕ → Bool
sizes_fit f i = leb (own_nodes f + timed_in own_nodes i f) 512 && leb (own_bytes f + timed_in own_bytes i f) 16384

always-at : (n i : ℕ) → i < n → get_or (always n) i false ≡ true
unfolding always
always-at n i l = get_or-replicate n i true false l

-- the cells at first
abbrev pub noughts : List ℕ
noughts = replicate 1000 0

zeros : (v : ℕ) → v < 1000 → get_or noughts v 0 ≡ 0
zeros v l = get_or-replicate {A = ℕ} 1000 v 0 0 l

noughts-count : length noughts ≡ 1000
noughts-count = length-replicate {A = ℕ} 1000 0

module _ (K : KeyList) (n : ℕ) (some-there : 1 ≤ n) (not_more : n ≤ 999) (f : Forest) (legal : siblings_legal K n [] (always n) f ≡ true) where
  layers : Layered n false (always n) f
  layers = siblings-layered n K [] (always n) f legal

  -- where a `T` has a version, so have those around it
  pub nested : (i : ℕ) → i < n → Nested (suc i) true f
  nested i l = rw (always-at n i l) at (layered-nested n false (always n) f i l layers)

  -- elements that lie too deep do so in some version
  small-deep : 16 < depth f → all_small n f ≡ false
  unfolding all_small too_large
  small-deep d =
      let r = layered-reached n false (always n) f (record { place = 0; below = some-there; there = always-at n 0 some-there }) layers in
      let b = r.below in
      let x = r.deep in
      let g = pick (suc r.place) f in
      not_so (all (λ i. not (too_large (pick i f))) (up_from 1 n)) (λ h.
      let y = not-true (ltb 16 (depth g) || ltb 512 (nodes g) || ltb 16384 (length (write g))) (all-at (λ i. not (too_large (pick i f))) 1 n h (suc r.place) (omega arith) (omega arith)) in
      clash (sym (lt-ltb 16 (depth g) (omega arith)) ∙ or_left (ltb 16 (depth g)) (ltb 512 (nodes g)) (or_left (ltb 16 (depth g) || ltb 512 (nodes g)) (ltb 16384 (length (write g))) y)))

  -- one version, by its sizes
  version-small : depth f ≤ 16 → (i : ℕ) → i < n → not (too_large (pick (suc i) f)) ≡ sizes_fit f (suc i)
  unfolding sizes_fit
  version-small d i l =
      not-large (pick (suc i) f) (omega (arith, depth-pick (suc i) f))
      ∙ ap₂ (λ (p q : ℕ). leb p 512 && leb q 16384) (nodes-pick (suc i) f (nested i l)) (bytes-pick (suc i) f (nested i l))

  small-flat : depth f ≤ 16 → all_small n f ≡ all (sizes_fit f) (up_from 1 n)
  unfolding all_small
  small-flat d =
      all_same (λ i. not (too_large (pick i f))) (sizes_fit f) 1 n (λ j l h.
      let z : suc (j - 1) ≡ j = omega arith in
      rw z at (version-small d (j - 1) (omega arith)))

  -- ---- as the walk has it
  pub small-stopped : stops 16 false f ≡ true → all_small n f ≡ false
  small-stopped e = small-deep (ltb-true 16 (depth f) (sym (layered-stops n false (always n) f 16 layers) ∙ e))

  pub small_is : (x y : ℕ) (a b : List ℕ) → stops 16 false f ≡ false → Sums f x y noughts a noughts b → all_small n f ≡ all (is_small a b x y) (up_from 1 n)
  unfolding is_small sizes_fit
  small_is x y a b e s =
      small-flat (ltb-false 16 (depth f) (sym (layered-stops n false (always n) f 16 layers) ∙ e))
      ∙ all_same (sizes_fit f) (is_small a b x y) 1 n (λ j l h.
      let z = zeros j (omega arith) in
      let u : own_nodes f + timed_in own_nodes j f ≡ x + get_or a j 0 = omega (arith, s.own-nodes, s.in-nodes.each j l (omega arith)) in
      let v : own_bytes f + timed_in own_bytes j f ≡ y + get_or b j 0 = omega (arith, s.own-bytes, s.in_bytes.each j l (omega arith)) in
      ap₂ (λ (p q : ℕ). leb p 512 && leb q 16384) u v)

-- ---- what all_small asks of its callees
module _ {src cells : List ℕ} {lo hi n : ℕ} (w : LegalInside src cells lo hi n) where
  pub inside-room : Room src cells lo hi noughts noughts
  inside-room =
      let m = w.few in
      record {
        forest = w.forest;
        tape = w.tape;
        stamps = layered-read n false (always n) w.forest w.not_more (siblings-layered n w.keys [] (always n) w.forest w.legal);
        few = m;
        nodes-count = noughts-count;
        bytes_count = noughts-count;
        nodes-room = λ v a c. omega (arith, zeros v (omega arith));
        bytes-room = λ v a c. omega (arith, zeros v (omega arith));
      }

  module _ {r : Option Size} {a b : List ℕ} (m : (f : Forest) → Tape src cells lo hi f → Measured 16 false f r noughts a noughts b) where
    pub inside-stopped : (stopped r) ≡ true → (f : Forest) → Tape src cells lo hi f → false ≡ all_small n f
    inside-stopped e f t =
        rw (tape-one t w.tape) (sym (small-stopped w.keys n w.some-there w.not_more w.forest w.legal (sym (m w.forest w.tape).stop ∙ e)))

    pub inside-cells : (stopped r) ≡ false → Cells a 1 (nodes_of r) × Cells b 1 (bytes_of r)
    inside-cells e =
        let s = (m w.forest w.tape).sums e in
        let h = w.few in (
          record { count = s.in-nodes.count ∙ noughts-count; room = λ v l k. omega (arith, zeros v (omega arith), s.own-nodes, s.in-nodes.each v l k, few-nodes v w.tape) },
          record { count = s.in_bytes.count ∙ noughts-count; room = λ v l k. omega (arith, zeros v (omega arith), s.own-bytes, s.in_bytes.each v l k, few_bytes v w.tape) },
        )

    pub inside-small : (stopped r) ≡ false → (f : Forest) → Tape src cells lo hi f → all (is_small a b (nodes_of r) (bytes_of r)) (up_from 1 n) ≡ all_small n f
    inside-small e f t =
        rw (tape-one t w.tape) (sym (small_is w.keys n w.some-there w.not_more w.forest w.legal (nodes_of r) (bytes_of r) a b (sym (m w.forest w.tape).stop ∙ e) ((m w.forest w.tape).sums e)))
