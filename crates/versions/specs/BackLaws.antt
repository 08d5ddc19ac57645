-- Stepping back on the forest of an archive gives the forest of the archive of its first i versions.
use Rattle.std.specs.Prelude.{ℕ, zero, suc, ◌≤◌, ◌≡◌, Bool, [], length}
use Rattle.std.proofs.Common.{arith, ◌∙◌, subst}
use Rattle.std.proofs.Math.Path.{refl, sym, ap, ap₂}
use Rattle.std.proofs.Math.Bool.{true, false}
use Rattle.std.proofs.Math.ListN.{take}
use Rattle.std.proofs.lemmas.List.{length-replicate}
use Rattle.model.specs.Masks.{clash}
use Rattle.model.specs.Keyed.{nil, node, any, keep_if, grown, sift, WFBy}
use Rattle.model.specs.Orders.{labels}
use Rattle.model.specs.Groups.{cut_g}
use Rattle.model.specs.Stored.{mask_g, length-mask_g, cut_s, WFS}
use Rattle.xml.specs.Forest.{Forest, end, elem, stamp}
use Rattle.keys.specs.KeyList.{Path, KeyList, above}
use Rattle.xml.specs.Truth.{bool_by}
use Rattle.keys.specs.Version.{◌▸◌, Label, name_in}
use Rattle.keys.specs.Tree.{contents}
use Rattle.keys.specs.Legal.{Lawful}
use Rattle.timestamp.specs.Times.{Times, same_times, always, write_times}
use Rattle.timestamp.specs.TimesLaws.{times-is}
use Rattle.versions.specs.Archive.{Archive, wrap, holding, stamped, archive_forest}
use Rattle.versions.specs.Walk.{back_in, inside_of, back_forest}
use Rattle.versions.specs.Lawful.{LawfulArchive, LegalArchive}
use Rattle.versions.specs.StampedLabels.{wrap-bare}
use Rattle.versions.specs.CutSets.{take-replicate, mask-cut}
use Rattle.versions.specs.BackContents.{put, settled, back-stamp, wrap-put, back-holding}

pub length-always : (n : ℕ) → length (always n) ≡ n
unfolding always
length-always n = length-replicate n true

pub take-always : (i n : ℕ) → i ≤ n → take i (always n) ≡ always i
unfolding always
take-always i n l = take-replicate i n true l

module _ (K : KeyList) (n i : ℕ) (l : i ≤ n) (m : n ≤ 999) where
  -- an element of the versions t, in one of the versions `parent`: it holds x, cut to y; r are the siblings after it, cut to s
  module _ (parent t : Times) (name : Label) (q : length t ≡ n) (x r s : Forest) (rest : back_in i (take i parent) r ≡ s) where
    back-wrapped : back_in i (take i parent) (stamp (write_times t) (elem (name_in name) x end) r)
        ≡ settled (any (take i t)) (same_times (take i parent) (take i t)) (write_times (take i t)) (elem (name_in name) (back_in i (take i t) x) end) s
    unfolding back_in
    back-wrapped =
        back-stamp i (take i parent) t (elem (name_in name) x end) r (omega arith) (omega arith)
        ∙ ap (settled (any (take i t)) (same_times (take i parent) (take i t)) (write_times (take i t)) (elem (name_in name) (back_in i (take i t) x) end)) rest

    back-gone : any (take i parent) ≡ true → any (take i t) ≡ false → back_in i (take i parent) (wrap parent t (elem (name_in name) x) r) ≡ s
    unfolding wrap
    back-gone still e =
        bool_by (λ b. (same_times parent t ≡ b) → back_in i (take i parent) (elim b as (λ _. Forest) [ true ↦ elem (name_in name) x r | false ↦ stamp (write_times t) (elem (name_in name) x end) r ]) ≡ s)
        (same_times parent t)
        (λ d _. absurd (clash (subst (λ (u : Times). any (take i u) ≡ true) (times-is parent t d) still) e))
        (λ _ _. back-wrapped ∙ ap (λ b. settled b (same_times (take i parent) (take i t)) (write_times (take i t)) (elem (name_in name) (back_in i (take i t) x) end) s) e) refl

    back-kept : (y : Forest) → back_in i (take i t) x ≡ y → any (take i t) ≡ true → back_in i (take i parent) (wrap parent t (elem (name_in name) x) r) ≡ wrap (take i parent) (take i t) (elem (name_in name) y) s
    unfolding wrap back_in
    back-kept y held e =
        bool_by (λ b. back_in i (take i parent) (elim b as (λ _. Forest) [ true ↦ elem (name_in name) x r | false ↦ stamp (write_times t) (elem (name_in name) x end) r ])
        ≡ wrap (take i parent) (take i t) (elem (name_in name) y) s)
        (same_times parent t)
        (λ d. let z : take i parent ≡ take i t = ap (take i) (times-is parent t d) in
        ap₂ (elem (name_in name)) (ap (λ u. back_in i u x) z ∙ held) rest ∙ sym (ap (λ u. wrap u (take i t) (elem (name_in name) y) s) z ∙ wrap-bare (take i t) (elem (name_in name) y) s))
        (λ _. back-wrapped
        ∙ ap (λ b. settled b (same_times (take i parent) (take i t)) (write_times (take i t)) (elem (name_in name) (back_in i (take i t) x) end) s) e
        ∙ ap (λ f. put (same_times (take i parent) (take i t)) (write_times (take i t)) (elem (name_in name) f end) s) held
        ∙ sym (wrap-put (take i parent) (take i t) (name_in name) y s))

  back-siblings : (p : Path) (parent : Times) (a : Archive) → WFS labels contents n a → LawfulArchive K n p a → length parent ≡ n → any (take i parent) ≡ true
      → back_in i (take i parent) (stamped n parent a) ≡ stamped i (take i parent) (cut_s i a)
  unfolding stamped sift back_in WFBy Lawful
  back-siblings p parent nil w h e t = refl
  back-siblings p parent (node name gs k r) w h e t =
      go (any (take i (mask_g n gs))) refl
      (λ f. back-siblings (p ▸ name_in name) (mask_g n gs) k w.4 h.5 (length-mask_g contents n gs w.0) f)
      (back-siblings p parent r w.5 h.6 e t)
      ∙ ap (λ u. stamped i (take i parent) (grown name (keep_if (any u) (cut_g i gs)) (cut_s i k) (cut_s i r))) (sym (mask-cut contents n i gs w.0 l))
    where
      go : (b : Bool) → any (take i (mask_g n gs)) ≡ b
          → (any (take i (mask_g n gs)) ≡ true → back_in i (take i (mask_g n gs)) (stamped n (mask_g n gs) k) ≡ stamped i (take i (mask_g n gs)) (cut_s i k))
          → back_in i (take i parent) (stamped n parent r) ≡ stamped i (take i parent) (cut_s i r)
          → back_in i (take i parent) (wrap parent (mask_g n gs) (elem (name_in name) (holding gs (stamped n (mask_g n gs) k))) (stamped n parent r))
          ≡ stamped i (take i parent) (grown name (keep_if b (cut_g i gs)) (cut_s i k) (cut_s i r))
      go true c kids rest =
          back-kept parent (mask_g n gs) name (length-mask_g contents n gs w.0) _ _ _ rest _
          (back-holding n i l m (above K (p ▸ name_in name)) gs k _ _ w.0 h.3
          (λ z. (ap (stamped n (mask_g n gs)) z, ap (λ a. stamped i (take i (mask_g n gs)) (cut_s i a)) z)) c (kids c)) c
          ∙ ap (λ u. wrap (take i parent) u (elem (name_in name) (holding (cut_g i gs) (stamped i u (cut_s i k)))) (stamped i (take i parent) (cut_s i r))) (sym (mask-cut contents n i gs w.0 l))
      go false c kids rest = back-gone parent (mask_g n gs) name (length-mask_g contents n gs w.0) _ _ _ rest t c

pub any-always : (i : ℕ) → 1 ≤ i → any (always i) ≡ true
unfolding any always
any-always zero l = absurd (omega arith)
any-always (suc i) l = refl

-- stepping an archive back to i gives the archive of its first i versions
pub back-archive : (K : KeyList) (n i : ℕ) (a : Archive) → LegalArchive K n a → n ≤ 999 → 1 ≤ i → i ≤ n → back_forest i (archive_forest n a) ≡ archive_forest i (cut_s i a)
unfolding back_forest archive_forest inside_of
back-archive K n i a h m b l =
    let z : take i (always n) ≡ always i = take-always i n l in
    ap (λ f. stamp (write_times (always i)) f end)
    (subst (λ (u : Times). back_in i u (stamped n (always n) a) ≡ stamped i u (cut_s i a)) z
    (back-siblings K n i l m [] (always n) a h.formed h.lawful (length-always n) (ap any z ∙ any-always i b)))
