-- The forests that a program takes for legal are just those of the legal archives' trees.
use Prim.Native.Nat.{ℕ, zero, suc, ◌+◌, ◌-◌, ◌≤◌, ◌<◌}
use native.Mathlib.Omega.{arith}
use Rattle.std.specs.Prelude.{◌≡◌, refl, Bool, true, false, ◌&&◌, leb, length, replicate, get_or}
use Rattle.std.proofs.Common.{sym, ◌∙◌, subst}
use Rattle.std.proofs.Math.Path.{ap}
use Rattle.std.proofs.Math.Bool.{not}
use mathlib.Core.List.{[], ◌∷◌}
use borrow.Author.Tests.{not-true, leb-true, le-leb}
use Rattle.std.proofs.lemmas.List.{length-replicate, get_or-replicate}
use Rattle.xml.specs.Bytes.{all, same}
use Rattle.xml.specs.BytesLaws.{same-is, same_self}
use Rattle.xml.specs.Forest.{Forest, end, elem, text, stamp, nodes, Tidy}
use Rattle.xml.specs.Read.{is_end}
use Rattle.model.specs.Keyed.{nil, node, Under, Roof, WFBy}
use Rattle.model.specs.Masks.{clash}
use Rattle.model.specs.Orders.{labels}
use Rattle.model.specs.Stored.{mask_g, length-mask_g, WFS}
use Rattle.keys.specs.KeyList.{KeyList, rules_kept, contexts_in_notation}
use Rattle.keys.specs.Tree.{contents}
use Rattle.xml.specs.Truth.{and_left, and_right, and_both, both_true}
use Rattle.keys.specs.Version.{too_large}
use Rattle.xml.specs.Complete.{join-end}
use Rattle.versions.specs.BackLaws.{any-always, length-always}
use Rattle.timestamp.specs.Times.{Times, always, up_from, belongs, write_times, last_number}
use Rattle.timestamp.specs.TimesLaws.{belongs-times, last-always}
use Rattle.versions.specs.Archive.{Archive, stamped, archive_forest, pick}
use Rattle.versions.specs.Lawful.{LegalArchive}
use Rattle.versions.specs.LawfulMerge.{one-root}
use Rattle.versions.specs.Walk.{siblings_legal, all_small, forest_legal}
use Rattle.versions.specs.SiblingsLegal.{siblings-tree}
use Rattle.versions.specs.TreeSiblings.{tree-siblings}

-- ---- every one of the n versions from i on
all_up : (P : ℕ → Bool) (i n : ℕ) → all P (up_from i n) ≡ true → (j : ℕ) → j < n → P (i + j) ≡ true
unfolding up_from all
all_up P i zero h j l = absurd (omega arith)
all_up P i (suc n) h zero l = let e : i + 0 ≡ i = omega arith in ap P e ∙ and_left (P i) (all P (up_from (suc i) n)) h
all_up P i (suc n) h (suc j) l = let e : i + suc j ≡ suc i + j = omega arith in ap P e ∙ all_up P (suc i) n (and_right (P i) (all P (up_from (suc i) n)) h) j (omega arith)

up-all : (P : ℕ → Bool) (i n : ℕ) → ((j : ℕ) → j < n → P (i + j) ≡ true) → all P (up_from i n) ≡ true
unfolding up_from all
up-all P i zero h = refl
up-all P i (suc n) h =
    let e : i ≡ i + 0 = omega arith in
    and_both (P i) (all P (up_from (suc i) n)) (ap P e ∙ h 0 (omega arith))
    (up-all P (suc i) n (λ j l. let d : suc i + j ≡ i + suc j = omega arith in ap P d ∙ h (suc j) (omega arith)))

-- a version is picked from its inside
pub pick-inside : (n i : ℕ) (k : Forest) → n ≤ 999 → i < n → pick (suc i) (stamp (write_times (always n)) k end) ≡ pick (suc i) k
unfolding pick always
pick-inside n i k b l =
    let z : suc i - 1 ≡ i = omega arith in
    let e : belongs (suc i) (write_times (replicate n true)) ≡ true = belongs-times (suc i) (replicate n true) (omega arith) (omega (arith, length-replicate n true))
    ∙ ap (λ m. get_or (replicate n true) m false) z ∙ get_or-replicate n i true false l in
    rw (e, pick) (join-end (pick (suc i) k))

-- a root may stand in any of the n versions
under-always : (n : ℕ) (t : Times) → length t ≡ n → Under (always n) t
unfolding Under always
under-always zero [] e = tt
under-always zero (b ∷ t) e = absurd (omega arith)
under-always (suc n) [] e = absurd (omega arith)
under-always (suc n) (b ∷ t) e = (tt, under-always n t (omega arith))

roots-roof : (n : ℕ) (a : Archive) → WFS labels contents n a → Roof (mask_g n) (always n) a
unfolding Roof WFBy
roots-roof n nil w = tt
roots-roof n (node l gs k r) w = (under-always n (mask_g n gs) (length-mask_g contents n gs w.0), roots-roof n r w.5)

end_is : (f : Forest) → is_end f ≡ true → f ≡ end
unfolding is_end
end_is end e = refl
end_is (text b r) e = absurd (clash e refl)
end_is (elem m k r) e = absurd (clash e refl)
end_is (stamp s k r) e = absurd (clash e refl)

-- ---- the forest of a legal archive
pub record LegalForest (K : KeyList) (f : Forest) : Type 0 where
  pub count : ℕ
  pub tree : Archive
  pub some-there : 1 ≤ count
  pub not_more : count ≤ 999
  pub legal : LegalArchive K count tree
  pub exactly : f ≡ archive_forest count tree
  pub few : nodes f ≤ 1024
  pub each-small : (i : ℕ) → i < count → too_large (pick (suc i) f) ≡ false

-- what is checked inside the outer `T` of n versions
module _ (K : KeyList) (n : ℕ) (u : rules_kept K ≡ true) (notation : contexts_in_notation K ≡ true) (l : 1 ≤ n) (b : n ≤ 999) where
  inside-legal : (k : Forest) → Tidy true k → nodes k ≤ 1024 → siblings_legal K n [] (always n) k ≡ true → all_small n k ≡ true → LegalForest K (stamp (write_times (always n)) k end)
  unfolding archive_forest nodes all_small
  inside-legal k d m h o =
      let g = siblings-tree K n [] (always n) k u (length-always n) (any-always n l) d h in
      record {
        count = n;
        tree = g.tree;
        some-there = l;
        not_more = b;
        legal = record { formed = g.formed; lawful = g.lawful; rooted = one-root K u notation n g.tree g.formed g.lawful };
        exactly = ap (λ f. stamp (write_times (always n)) f end) g.written;
        few = omega arith;
        each-small = λ i c. let e : suc i ≡ 1 + i = omega arith in
            ap too_large (pick-inside n i k b c ∙ ap (λ j. pick j k) e) ∙ not-true (too_large (pick (1 + i) k)) (all_up (λ j. not (too_large (pick j k))) 1 n o i c);
      }

pub forest-legal : (K : KeyList) (f : Forest) → rules_kept K ≡ true → contexts_in_notation K ≡ true → Tidy true f → forest_legal K f ≡ true → LegalForest K f
unfolding forest_legal
forest-legal K end u o d h = absurd (clash h refl)
forest-legal K (text b r) u o d h = absurd (clash h refl)
forest-legal K (elem m k r) u o d h = absurd (clash h refl)
forest-legal K (stamp s k r) u o d h =
    let n = last_number s in
    let h7 = both_true _ (all_small n k) h in
    let h6 = both_true _ (siblings_legal K n [] (always n) k) h7.0 in
    let h4 = both_true _ (leb (nodes k) 1024) h6.0 in
    let h3 = both_true _ (same s (write_times (always n))) h4.0 in
    let h2 = both_true _ (leb n 999) h3.0 in
    let h1 = both_true (is_end r) (leb 1 n) h2.0 in
    let g = inside-legal K n u o (leb-true 1 n h1.1) (leb-true n 999 h2.1) k d.2 (leb-true (nodes k) 1024 h4.1) h6.1 h7.1 in
    subst (λ z. LegalForest K (stamp s k z)) (sym (end_is r h1.0)) (subst (λ z. LegalForest K (stamp z k end)) (sym (same-is s (write_times (always n)) h3.1)) g)

pub legal-forest : (K : KeyList) (n : ℕ) (a : Archive) → rules_kept K ≡ true → 1 ≤ n → n ≤ 999 → LegalArchive K n a → nodes (archive_forest n a) ≤ 1024
    → ((i : ℕ) → i < n → too_large (pick (suc i) (archive_forest n a)) ≡ false) → forest_legal K (archive_forest n a) ≡ true
unfolding forest_legal archive_forest nodes all_small is_end
legal-forest K n a u l b h m o =
    let e : last_number (write_times (always n)) ≡ n = last-always n l b in
    let k = stamped n (always n) a in
    subst (λ c. (leb 1 c && leb c 999 && same (write_times (always n)) (write_times (always c)) && leb (nodes k) 1024 && siblings_legal K c [] (always c) k && all (λ i. not (too_large (pick i k))) (up_from 1 c)) ≡ true) (sym e)
    (and_both _ _ (and_both _ _ (and_both _ _ (and_both _ _ (and_both _ _ (le-leb 1 n l) (le-leb n 999 b)) (same_self (write_times (always n)))) (le-leb (nodes k) 1024 (omega arith)))
    (tree-siblings K n [] (always n) a u b (length-always n) h.formed h.lawful (roots-roof n a h.formed)))
    (up-all (λ i. not (too_large (pick i k))) 1 n (λ j c. let d : 1 + j ≡ suc j = omega arith in
    ap (λ i. not (too_large (pick i k))) d ∙ ap not (ap too_large (sym (pick-inside n j k b c)) ∙ o j c))))
