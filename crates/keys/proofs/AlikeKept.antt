-- Texts whose forests are alike are received alike: refused under the same number, or kept as the same version.
use Rattle.std.specs.Prelude.{◌≡◌, true, false, ◌&&◌}
use Rattle.std.proofs.Math.Path.{refl, sym, ap}
use Rattle.std.proofs.Common.{◌∙◌, ap₂}
use mathlib.Core.List.{List, [], ◌∷◌, map}
use Rattle.xml.specs.Bytes.{Bytes, all, is_white, line_ends}
use Rattle.xml.specs.Truth.{by-test, or_left, or_right, and-false}
use Rattle.xml.specs.Forest.{Forest, elem, text}
use Rattle.keys.specs.Result.{ok, r6, r7, r8, r9}
use Rattle.keys.specs.ResultLaws.{refuse-both}
use Rattle.keys.specs.KeyList.{Path, KeyList, key_list, above, rules_kept}
use Rattle.keys.specs.KeyListLaws.{beneath, rules-kept}
use Rattle.keys.specs.Version.{◌▸◌, label, same_label, find, is_some, drop_white, too_large, misplaced, unkeyed, doubled, insert_by, ordered, parsed, version}
use Rattle.keys.specs.VersionRead.{read_version-complete}
use Rattle.keys.specs.Alike.{Alike, swapped, moved, inside, past, beyond, as_is, backwards, then, AnyOrder, EachInAnyOrder, none, more}
use Rattle.keys.specs.DropLaws.{drop-run, keep_run, label-drop, unkeyed-drop, doubled-drop}
use Rattle.keys.specs.Sorting.{ordered-elem, misplaced-kids, misplaced-rest, sorted}
use Rattle.keys.specs.SortedKept.{find-elem}
use Rattle.keys.specs.SortedKeys.{keyed-kids, keyed-rest, sorted-label}
use Rattle.keys.specs.SortedOnce.{single-here, single-kids, single-rest}
use Rattle.keys.specs.SiblingLaws.{insert-swap}
use Rattle.keys.proofs.AlikeLaws.{front-alike, large-alike, misplaced-alike, unkeyed-alike, doubled-alike}

-- what is kept of a forest in an element of path p
abbrev kept : KeyList → Path → Forest → Forest
kept K p f = ordered K p (drop_white K p f)

-- every node that is not dropped is in its place
abbrev InPlace : KeyList → Path → Forest → Type 0
InPlace K p f = misplaced K p (drop_white K p f) ≡ false

module _ (K : KeyList) (p : Path) where
  insert-text : (n : Bytes) (k : Forest) (b : Bytes) (r : Forest) → insert_by K p n k (text b r) ≡ text b (insert_by K p n k r)
  unfolding insert_by
  insert-text n k b r = refl

  kept-elem : (n : Bytes) (k r : Forest) → above K p ≡ true → kept K p (elem n k r) ≡ insert_by K p n (kept K (p ▸ n) k) (kept K p r)
  unfolding drop_white
  kept-elem n k r a = ordered-elem K p n (drop_white K (p ▸ n) k) (drop_white K p r) a

  kept-white : (b : Bytes) (r : Forest) → (above K p && all is_white b) ≡ true → kept K p (text b r) ≡ kept K p r
  kept-white b r e = ap (ordered K p) (drop-run K p b r e)

  kept-text : (b : Bytes) (r : Forest) → (above K p && all is_white b) ≡ false → kept K p (text b r) ≡ text b (kept K p r)
  unfolding ordered
  kept-text b r e = ap (ordered K p) (keep_run K p b r e)

  placed-kids : (n : Bytes) (k r : Forest) → InPlace K p (elem n k r) → InPlace K (p ▸ n) k
  unfolding drop_white
  placed-kids n k r h = misplaced-kids K p n (drop_white K (p ▸ n) k) (drop_white K p r) h

  placed-rest : (n : Bytes) (k r : Forest) → InPlace K p (elem n k r) → InPlace K p r
  unfolding drop_white
  placed-rest n k r h = misplaced-rest K p n (drop_white K (p ▸ n) k) (drop_white K p r) h

  placed-text : (b : Bytes) (r : Forest) → InPlace K p (text b r) → InPlace K p r
  unfolding misplaced
  placed-text b r h =
      by-test (above K p && all is_white b)
      (λ e. sym (ap (misplaced K p) (drop-run K p b r e)) ∙ h)
      (λ e. or_right (above K p) (misplaced K p (drop_white K p r)) (sym (ap (misplaced K p) (keep_run K p b r e)) ∙ h))

module _ (K : KeyList) (rules : rules_kept K ≡ true) where
  label_kept : (p : Path) (n : Bytes) (k r : Forest) → InPlace K p (elem n k r) → unkeyed K p (elem n k r) ≡ false → label K p n (kept K (p ▸ n) k) ≡ label K p n k
  unfolding drop_white
  label_kept p n k r m u =
      sorted-label K p n (drop_white K (p ▸ n) k) (drop_white K p r) (unkeyed-drop K rules p (elem n k r) ∙ u) (sorted K (p ▸ n) (drop_white K (p ▸ n) k) (placed-kids K p n k r m))
      ∙ label-drop K rules p n k

  -- where 7, 8 and 9 do not apply, the same is kept
  kept-alike : {p : Path} {f g : Forest} → InPlace K p f → unkeyed K p f ≡ false → doubled K p f ≡ false → Alike K p f g → kept K p f ≡ kept K p g
  unfolding unkeyed doubled
  kept-alike {p} h u d (swapped {n = n} {m = m} {k = k} {j = j} {r = r} a) =
      let x = and-false a (single-here K p n k (elem m j r) d) in
      let y = or_left (same_label (label K p n k) (label K p m j)) (is_some (find K p (label K p n k) r)) (sym (find-elem K p (label K p n k) m j r) ∙ x) in
      let l = label_kept p n k (elem m j r) h u in
      let l' = label_kept p m j r (placed-rest K p n k (elem m j r) h) (keyed-rest K p n k (elem m j r) u) in
      kept-elem K p n k (elem m j r) a ∙ ap (insert_by K p n (kept K (p ▸ n) k)) (kept-elem K p m j r a)
      ∙ insert-swap K p n (kept K (p ▸ n) k) m (kept K (p ▸ m) j) (kept K p r) (ap₂ same_label l l' ∙ y)
      ∙ sym (kept-elem K p m j (elem n k r) a ∙ ap (insert_by K p m (kept K (p ▸ m) j)) (kept-elem K p n k r a))
  kept-alike {p} h u d (moved {n = n} {b = b} {k = k} {r = r} a) =
      kept-elem K p n k (text b r) a ∙ by-test (above K p && all is_white b)
      (λ e. ap (insert_by K p n (kept K (p ▸ n) k)) (kept-white K p b r e) ∙ sym (kept-white K p b (elem n k r) e ∙ kept-elem K p n k r a))
      (λ e. ap (insert_by K p n (kept K (p ▸ n) k)) (kept-text K p b r e) ∙ insert-text K p n (kept K (p ▸ n) k) b (kept K p r) ∙ sym (kept-text K p b (elem n k r) e ∙ ap (text b) (kept-elem K p n k r a)))
  kept-alike {p} h u d (inside {n = n} {k = k} {j = j} {r = r} x) =
      let i = kept-alike (placed-kids K p n k r h) (keyed-kids K p n k r u) (single-kids K p n k r d) x in
      by-test (above K p)
      (λ a. kept-elem K p n k r a ∙ ap (λ z. insert_by K p n z (kept K p r)) i ∙ sym (kept-elem K p n j r a))
      (λ a. ap (λ z. kept K p (elem n z r)) (front-alike (beneath K p n a) x))
  kept-alike {p} h u d (past {n = n} {k = k} {r = r} {s = s} x) =
      let i = kept-alike (placed-rest K p n k r h) (keyed-rest K p n k r u) (single-rest K p n k r d) x in
      by-test (above K p)
      (λ a. kept-elem K p n k r a ∙ ap (insert_by K p n (kept K (p ▸ n) k)) i ∙ sym (kept-elem K p n k s a))
      (λ a. ap (λ z. kept K p (elem n k z)) (front-alike a x))
  kept-alike {p} h u d (beyond {b = b} {r = r} {s = s} x) =
      let i = kept-alike (placed-text K p b r h) u d x in
      by-test (above K p && all is_white b)
      (λ e. kept-white K p b r e ∙ i ∙ sym (kept-white K p b s e))
      (λ e. kept-text K p b r e ∙ ap (text b) i ∙ sym (kept-text K p b s e))
  kept-alike h u d as_is = refl
  kept-alike h u d (backwards x) = let v = unkeyed-alike K rules x ∙ u in sym (kept-alike (misplaced-alike K x ∙ h) v (doubled-alike K rules v x ∙ d) x)
  kept-alike h u d (then x y) =
      kept-alike h u d x ∙ kept-alike (sym (misplaced-alike K x) ∙ h) (sym (unkeyed-alike K rules x) ∙ u) (sym (doubled-alike K rules u x) ∙ d) y

module _ (keys : Bytes) (K : KeyList) (legal : key_list keys ≡ ok K) where
  -- a text with its keyed siblings in another order is refused under the same number, or is the same version
  pub any_order : (s t : Bytes) → AnyOrder K s t → version K s ≡ version K t
  unfolding version parsed
  any_order s t o =
      let x = o.alike in
      let rules = rules-kept keys K legal in
      let v = drop_white K [] o.first in
      let plain = unkeyed-drop K rules [] o.first in
      rw (read_version-complete (line_ends s) o.first o.first-spelled, read_version-complete (line_ends t) o.second o.second-spelled)
      (refuse-both r6 (too_large v) (large-alike K x) (λ _.
      refuse-both r7 (misplaced K [] v) (misplaced-alike K x) (λ h.
      refuse-both r8 (unkeyed K [] v) (plain ∙ unkeyed-alike K rules x ∙ sym (unkeyed-drop K rules [] o.second)) (λ e.
      let u = sym plain ∙ e in
      let same = doubled-drop K rules [] o.first in
      refuse-both r9 (doubled K [] v) (same ∙ doubled-alike K rules u x ∙ sym (doubled-drop K rules [] o.second)) (λ d.
      ap ok (kept-alike K rules h u (sym same ∙ d) x))))))

  -- of two lists of texts, number by number
  pub any-order-all : (ss ts : List Bytes) → EachInAnyOrder K ss ts → map (version K) ss ≡ map (version K) ts
  any-order-all [] [] none = refl
  any-order-all [] (t ∷ ts) o = elim o [ ]
  any-order-all (s ∷ ss) [] o = elim o [ ]
  any-order-all (s ∷ ss) (t ∷ ts) (more o h) = ap₂ ◌∷◌ (any_order s t o) (any-order-all ss ts h)
