-- Forests that are alike: beneath a frontier they are the same; refusals 6, 7 and 8 apply to both or to neither, and so does 9 where 8 does
-- not apply.
use Rattle.std.proofs.Common.{arith, ◌∙◌}
use Rattle.std.specs.Prelude.{◌≡◌, Bool, true, false, ◌&&◌, ◌||◌}
use Rattle.std.proofs.Math.Path.{refl, sym, ap, ap₂}
use Rattle.std.proofs.Math.Bool.{not}
use Rattle.std.proofs.Math.ListN.{length, length-append}
use Rattle.xml.specs.Bytes.{Bytes, any, all, same, is_white}
use Rattle.xml.specs.Truth.{clash, by-test, or_swap}
use Rattle.xml.specs.Forest.{Forest, elem, text, write, nodes, depth}
use Rattle.keys.specs.KeyList.{Path, KeyList, above, key_names_at, rules_kept}
use Rattle.keys.specs.KeyListLaws.{beneath}
use Rattle.keys.specs.Version.{◌▸◌, Label, drop_white, too_large, misplaced, is_key_value, run_in, label, same_label, find, is_some, unkeyed, doubled}
use Rattle.keys.specs.Alike.{Alike, swapped, moved, inside, past, beyond, as_is, backwards, then}
use Rattle.keys.specs.DropLaws.{drop-run, keep_run, key-front}
use Rattle.keys.specs.Labelled.{has_keys}
use Rattle.keys.specs.Sorting.{astray}
use Rattle.keys.specs.SortedKept.{find-elem}
use Rattle.keys.specs.SortedKeys.{keyed-here, keyed-kids, keyed-rest}
use Rattle.keys.specs.SortedOnce.{same-turned}
use Rattle.keys.specs.KeyTallies.{with, with-swap, with_value, tallied, tallied-elem, tallied-text, same_keys, same-label}

-- beneath a frontier nothing changes places
pub front-alike : {K : KeyList} {p : Path} {f g : Forest} → above K p ≡ false → Alike K p f g → f ≡ g
front-alike a (swapped b) = clash (sym b ∙ a)
front-alike a (moved b) = clash (sym b ∙ a)
front-alike {K} {p} a (inside {n = n} {r = r} x) = ap (λ z. elem n z r) (front-alike (beneath K p n a) x)
front-alike a (past {n = n} {k = k} x) = ap (elem n k) (front-alike a x)
front-alike a (beyond {b = b} x) = ap (text b) (front-alike a x)
front-alike a as_is = refl
front-alike a (backwards x) = sym (front-alike a x)
front-alike a (then x y) = front-alike a x ∙ front-alike a y

-- so a key value is the same
value-alike : {K : KeyList} {p : Path} {f g : Forest} → above K p ≡ false → Alike K p f g → (is_key_value f ≡ is_key_value g) × (run_in f ≡ run_in g)
value-alike a x = (ap is_key_value (front-alike a x), ap run_in (front-alike a x))

-- ---- 6 and 7: a measure of siblings that goes by each of them, in whatever order, and by what each holds
module _ (K : KeyList) {A : Type 0} (μ : Path → Forest → A)
    (swap : (p : Path) (n : Bytes) (k : Forest) (m : Bytes) (j r : Forest) → μ p (elem n k (elem m j r)) ≡ μ p (elem m j (elem n k r)))
    (move : (p : Path) (n : Bytes) (k : Forest) (b : Bytes) (r : Forest) → μ p (elem n k (text b r)) ≡ μ p (text b (elem n k r)))
    (kids : (p : Path) (n : Bytes) (k j r : Forest) → μ (p ▸ n) k ≡ μ (p ▸ n) j → μ p (elem n k r) ≡ μ p (elem n j r))
    (rest : (p : Path) (n : Bytes) (k r s : Forest) → μ p r ≡ μ p s → μ p (elem n k r) ≡ μ p (elem n k s))
    (run : (p : Path) (b : Bytes) (r s : Forest) → μ p r ≡ μ p s → μ p (text b r) ≡ μ p (text b s)) where
  measure-alike : {p : Path} {f g : Forest} → Alike K p f g → μ p (drop_white K p f) ≡ μ p (drop_white K p g)
  unfolding drop_white
  measure-alike {p} (swapped {n = n} {m = m} {k = k} {j = j} {r = r} a) = swap p n (drop_white K (p ▸ n) k) m (drop_white K (p ▸ m) j) (drop_white K p r)
  measure-alike {p} (moved {n = n} {b = b} {k = k} {r = r} a) =
      let d = drop_white K (p ▸ n) k in
      by-test (above K p && all is_white b)
      (λ e. ap (λ z. μ p (elem n d z)) (drop-run K p b r e) ∙ ap (μ p) (sym (drop-run K p b (elem n k r) e)))
      (λ e. ap (λ z. μ p (elem n d z)) (keep_run K p b r e) ∙ move p n d b (drop_white K p r) ∙ ap (μ p) (sym (keep_run K p b (elem n k r) e)))
  measure-alike {p} (inside {n = n} {k = k} {j = j} {r = r} x) = kids p n (drop_white K (p ▸ n) k) (drop_white K (p ▸ n) j) (drop_white K p r) (measure-alike x)
  measure-alike {p} (past {n = n} {k = k} {r = r} {s = s} x) = rest p n (drop_white K (p ▸ n) k) (drop_white K p r) (drop_white K p s) (measure-alike x)
  measure-alike {p} (beyond {b = b} {r = r} {s = s} x) =
      let h = measure-alike x in
      by-test (above K p && all is_white b)
      (λ e. ap (μ p) (drop-run K p b r e) ∙ h ∙ ap (μ p) (sym (drop-run K p b s e)))
      (λ e. ap (μ p) (keep_run K p b r e) ∙ run p b (drop_white K p r) (drop_white K p s) h ∙ ap (μ p) (sym (keep_run K p b s e)))
  measure-alike as_is = refl
  measure-alike (backwards x) = sym (measure-alike x)
  measure-alike (then x y) = measure-alike x ∙ measure-alike y

module _ (K : KeyList) {p : Path} {f g : Forest} (x : Alike K p f g) where
  depth-alike : depth (drop_white K p f) ≡ depth (drop_white K p g)
  unfolding depth
  depth-alike =
      measure-alike K (λ _ h. depth h) (λ p n k m j r. omega arith) (λ p n k b r. refl) (λ p n k j r e. omega arith) (λ p n k r s e. omega arith)
      (λ p b r s e. e) x

  nodes-alike : nodes (drop_white K p f) ≡ nodes (drop_white K p g)
  unfolding nodes
  nodes-alike =
      measure-alike K (λ _ h. nodes h) (λ p n k m j r. omega arith) (λ p n k b r. omega arith) (λ p n k j r e. omega arith) (λ p n k r s e. omega arith)
      (λ p b r s e. omega arith) x

  length-alike : length (write (drop_white K p f)) ≡ length (write (drop_white K p g))
  unfolding write
  length-alike =
      measure-alike K (λ _ h. length (write h)) (λ p n k m j r. simp length-append (omega arith)) (λ p n k b r. simp length-append (omega arith))
      (λ p n k j r e. simp length-append (omega arith)) (λ p n k r s e. simp length-append (omega arith)) (λ p b r s e. simp length-append (omega arith)) x

  pub large-alike : too_large (drop_white K p f) ≡ too_large (drop_white K p g)
  unfolding too_large
  large-alike = rw (depth-alike, nodes-alike, length-alike)

  pub misplaced-alike : misplaced K p (drop_white K p f) ≡ misplaced K p (drop_white K p g)
  unfolding misplaced
  misplaced-alike =
      measure-alike K (misplaced K) (λ p n k m j r. or_swap (astray K p n k) (astray K p m j) (misplaced K p r))
      (λ p n k b r. or_swap (astray K p n k) (above K p) (misplaced K p r)) (λ p n k j r e. rw e) (λ p n k r s e. rw e) (λ p b r s e. rw e) x

-- ---- 8 and 9
swap-doubled : (t s a b c d e : Bool) → (t && (s || a) || c || (t && b || d || e)) ≡ (t && (s || b) || d || (t && a || c || e))
swap-doubled true true a b c d e = refl
swap-doubled true false a b c d e = or_swap (a || c) (b || d) e
swap-doubled false s a b c d e = or_swap c d e

find-text : (K : KeyList) (l : Label) (p : Path) (b : Bytes) (r : Forest) → is_some (find K p l (text b r)) ≡ is_some (find K p l r)
unfolding find
find-text K l p b r = refl

module _ (K : KeyList) (rules : rules_kept K ≡ true) where
  -- the key children
  tallied-alike : {q : Path} {f g : Forest} → Alike K q f g → (key : Bytes) → any (same key) (key_names_at K q) ≡ true → tallied key f ≡ tallied key g
  tallied-alike (swapped {n = n} {m = l} {k = k} {j = j} {r = r} a) key m =
      tallied-elem key n k (elem l j r) ∙ ap (with (same key n) k) (tallied-elem key l j r) ∙ with-swap (same key n) (same key l) k j (tallied key r)
      ∙ sym (tallied-elem key l j (elem n k r) ∙ ap (with (same key l) j) (tallied-elem key n k r))
  tallied-alike (moved {n = n} {b = b} {k = k} {r = r} a) key m =
      tallied-elem key n k (text b r) ∙ ap (with (same key n) k) (tallied-text key b r) ∙ sym (tallied-text key b (elem n k r) ∙ tallied-elem key n k r)
  tallied-alike {q} (inside {n = n} {k = k} {j = j} {r = r} x) key m =
      by-test (same key n)
      (λ e. let v = value-alike (key-front K rules q key n m e) x in tallied-elem key n k r ∙ with_value (same key n) k j (tallied key r) v.0 v.1 ∙ sym (tallied-elem key n j r))
      (λ e. tallied-elem key n k r ∙ ap (λ b. with b k (tallied key r)) e ∙ sym (tallied-elem key n j r ∙ ap (λ b. with b j (tallied key r)) e))
  tallied-alike (past {n = n} {k = k} {r = r} {s = s} x) key m =
      tallied-elem key n k r ∙ ap (with (same key n) k) (tallied-alike x key m) ∙ sym (tallied-elem key n k s)
  tallied-alike (beyond {b = b} {r = r} {s = s} x) key m = tallied-text key b r ∙ tallied-alike x key m ∙ sym (tallied-text key b s)
  tallied-alike as_is key m = refl
  tallied-alike (backwards x) key m = sym (tallied-alike x key m)
  tallied-alike (then x y) key m = tallied-alike x key m ∙ tallied-alike y key m

  pub unkeyed-alike : {p : Path} {f g : Forest} → Alike K p f g → unkeyed K p f ≡ unkeyed K p g
  unfolding unkeyed
  unkeyed-alike {p} (swapped {n = n} {m = m} {k = k} {j = j} {r = r} a) =
      or_swap (not (has_keys (key_names_at K (p ▸ n)) k) || unkeyed K (p ▸ n) k) (not (has_keys (key_names_at K (p ▸ m)) j) || unkeyed K (p ▸ m) j) (unkeyed K p r)
  unkeyed-alike (moved a) = refl
  unkeyed-alike {p} (inside {n = n} {k = k} {j = j} {r = r} x) = ap₂ (λ h u. not h || u || unkeyed K p r) (same_keys K p n k j (tallied-alike x)) (unkeyed-alike x)
  unkeyed-alike {p} (past {n = n} {k = k} x) = ap (λ u. not (has_keys (key_names_at K (p ▸ n)) k) || unkeyed K (p ▸ n) k || u) (unkeyed-alike x)
  unkeyed-alike (beyond x) = unkeyed-alike x
  unkeyed-alike as_is = refl
  unkeyed-alike (backwards x) = sym (unkeyed-alike x)
  unkeyed-alike (then x y) = unkeyed-alike x ∙ unkeyed-alike y

  -- the labels among siblings
  label-alike : (p : Path) (n : Bytes) {k j : Forest} (r : Forest) → unkeyed K p (elem n k r) ≡ false → Alike K (p ▸ n) k j → label K p n k ≡ label K p n j
  label-alike p n {k} {j} r u x = same-label K p n k j (tallied-alike x) (keyed-here K p n k r u)

  find-alike : (l : Label) {p : Path} {f g : Forest} → unkeyed K p f ≡ false → Alike K p f g → is_some (find K p l f) ≡ is_some (find K p l g)
  unfolding unkeyed
  find-alike l {p} u (swapped {n = n} {m = m} {k = k} {j = j} {r = r} a) =
      simp find-elem (or_swap (same_label l (label K p n k)) (same_label l (label K p m j)) (is_some (find K p l r)))
  find-alike l {p} u (moved {n = n} {b = b} {k = k} {r = r} a) =
      find-elem K p l n k (text b r) ∙ ap (λ z. same_label l (label K p n k) || z) (find-text K l p b r) ∙ sym (find-text K l p b (elem n k r) ∙ find-elem K p l n k r)
  find-alike l {p} u (inside {n = n} {k = k} {j = j} {r = r} x) =
      find-elem K p l n k r ∙ ap (λ c. same_label l c || is_some (find K p l r)) (label-alike p n r u x) ∙ sym (find-elem K p l n j r)
  find-alike l {p} u (past {n = n} {k = k} {r = r} {s = s} x) =
      find-elem K p l n k r ∙ ap (λ b. same_label l (label K p n k) || b) (find-alike l (keyed-rest K p n k r u) x) ∙ sym (find-elem K p l n k s)
  find-alike l {p} u (beyond {b = b} {r = r} {s = s} x) = find-text K l p b r ∙ find-alike l u x ∙ sym (find-text K l p b s)
  find-alike l u as_is = refl
  find-alike l u (backwards x) = sym (find-alike l (unkeyed-alike x ∙ u) x)
  find-alike l u (then x y) = find-alike l u x ∙ find-alike l (sym (unkeyed-alike x) ∙ u) y

  pub doubled-alike : {p : Path} {f g : Forest} → unkeyed K p f ≡ false → Alike K p f g → doubled K p f ≡ doubled K p g
  unfolding unkeyed doubled
  doubled-alike {p} u (swapped {n = n} {m = m} {k = k} {j = j} {r = r} a) =
      let x = label K p n k in
      let y = label K p m j in
      ap (λ b. above K p && b || doubled K (p ▸ n) k || (above K p && is_some (find K p y r) || doubled K (p ▸ m) j || doubled K p r)) (find-elem K p x m j r)
      ∙ swap-doubled (above K p) (same_label x y) (is_some (find K p x r)) (is_some (find K p y r)) (doubled K (p ▸ n) k) (doubled K (p ▸ m) j) (doubled K p r)
      ∙ ap (λ b. above K p && b || doubled K (p ▸ m) j || (above K p && is_some (find K p x r) || doubled K (p ▸ n) k || doubled K p r))
      (ap (λ s. s || is_some (find K p y r)) (same-turned x y) ∙ sym (find-elem K p y n k r))
  doubled-alike {p} u (moved {n = n} {b = b} {k = k} {r = r} a) =
      ap (λ z. above K p && z || doubled K (p ▸ n) k || doubled K p r) (find-text K (label K p n k) p b r)
  doubled-alike {p} u (inside {n = n} {k = k} {r = r} x) =
      ap₂ (λ l d. above K p && is_some (find K p l r) || d || doubled K p r) (label-alike p n r u x) (doubled-alike (keyed-kids K p n k r u) x)
  doubled-alike {p} u (past {n = n} {k = k} {r = r} x) =
      ap₂ (λ b d. above K p && b || doubled K (p ▸ n) k || d) (find-alike (label K p n k) (keyed-rest K p n k r u) x) (doubled-alike (keyed-rest K p n k r u) x)
  doubled-alike {p} u (beyond {b = b} {r = r} x) = doubled-alike u x
  doubled-alike u as_is = refl
  doubled-alike u (backwards x) = sym (doubled-alike (unkeyed-alike x ∙ u) x)
  doubled-alike u (then x y) = doubled-alike u x ∙ doubled-alike (sym (unkeyed-alike x) ∙ u) y
