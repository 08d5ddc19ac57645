-- Laws of the function that reads one step of an address, one a return.
use Rattle.std.specs.Prelude.{Option as Maybe, None, Some, ℕ, suc, ◌+◌, ◌*◌, ◌/◌, ◌<◌, ◌≤◌, ◌≡◌, refl, true, false, eqb, length, take, get_or}
use Prim.Native.Char.{code}
use Rattle.std.proofs.Common.{add-one, sym, ◌∙◌, length-drop, drop-cons, drop-drop, ne_eqb}
use native.Mathlib.Omega.{arith}
use Rattle.std.proofs.Math.Path.{ap, ap₂, subst}
use Rattle.std.proofs.Math.Option.{none, some}
use mathlib.Core.List.{◌∷◌, map}
use Rattle.std.proofs.Math.ListN.{drop}
use Rattle.std.proofs.Math.Seq.{slice}
use Rattle.xml.specs.Bytes.{Bytes}
use Rattle.xml.specs.Read.{name_rest}
use Rattle.xml.specs.ScanLaws.{name_rest-fits}
use Rattle.xml.specs.Truth.{by-test}
use Rattle.keys.specs.KeyList.{Path, KeyList, paths, rules_kept, listed, key_names_at}
use Rattle.keys.specs.Version.{◌▸◌}
use Rattle.keys.specs.Table.{place_of}
use Rattle.keys.specs.PlaceLaws.{index_listed, place-listed, place-unlisted, few-paths}
use Rattle.keys.specs.AddressScan.{conditions, labelled, named, step_in}
use Rattle.keys.specs.AddressCuts.{run_short}
use Rattle.keys.specs.AddressMeans.{named-listed, named-unlisted, step-slash}
use Rattle.xml.specs.TapeLaws.{slice-part}
use Rattle.keys.specs.AddressParts.{end_of, piece, Inside, ConditionsIn, ConditionsRead, StepRead}
use Rattle.keys.specs.declared.address.Conditions.{Conditions}

-- ---- 129 stands for a path that is not listed
unlisted-place : (K : KeyList) → rules_kept K ≡ true → (p : Path) (n : Bytes) → place_of K (p ▸ n) ≡ 129 → listed K (p ▸ n) ≡ false
unfolding listed
unlisted-place K u p n e =
    by-test (listed K (p ▸ n))
    (λ t. absurd (omega (arith, sym (place-listed K (p ▸ n) t) ∙ e, (index_listed (paths K) (p ▸ n) t).0, few-paths K u)))
    (λ t. t)

listed-place : (K : KeyList) (p : Path) (n : Bytes) → (place_of K (p ▸ n) ≡ 129 → ⊥) → listed K (p ▸ n) ≡ true
listed-place K p n f = by-test (listed K (p ▸ n)) (λ t. t) (λ t. absurd (f (place-unlisted K p n t)))

-- ---- the step's returns
-- how far the run of a name goes
pub name-run : (s : Bytes) (at m : ℕ) → at < length s → m ≡ name_rest 33 (drop (at + 1) s) → (m ≤ 33) × (at + 1 + m ≤ length s)
name-run s at m h l = (omega (arith, run_short 33 (drop (at + 1) s)), omega (arith, name_rest-fits 33 (drop (at + 1) s), length-drop (at + 1) s))

off-slash : (K : KeyList) (p : Path) (b : ℕ) (t : Bytes) → eqb b (code "/") ≡ false → step_in K p (b ∷ t) ≡ none
unfolding step_in
off-slash K p b t e = rw (e, step_in) refl

module _ (K : KeyList) (p : Path) (s : Bytes) (at : ℕ) (h : at < length s) where
  pub step_other : (get_or s at 0 ≡ code "/" → ⊥) → StepRead K p s at None
  step_other f = ap (step_in K p) (drop-cons s at 0 h) ∙ off-slash K p (get_or s at 0) (drop (suc at) s) (ne_eqb (get_or s at 0) (code "/") f)

  -- behind a `/` stand m bytes of a name
  module _ (e : get_or s at 0 ≡ code "/") (m : ℕ) (l : m ≡ name_rest 33 (drop (at + 1) s)) where
    name : Bytes
    name = slice (at + 1) (at + 1 + m) s

    slashed : step_in K p (drop at s) ≡ named K p (drop (at + 1) s) m
    slashed =
        ap (step_in K p) (drop-cons s at 0 h ∙ ap₂ (λ (b k : ℕ). b ∷ drop k s) e (sym (add-one at)))
        ∙ step-slash K p (drop (at + 1) s)
        ∙ ap (named K p (drop (at + 1) s)) (sym l)

    name-is : name ≡ take m (drop (at + 1) s)
    unfolding name
    name-is = slice-part (at + 1) m s

    pub step-unlisted : rules_kept K ≡ true → {q : ℕ} → q ≡ place_of K (p ▸ slice (at + 1) (at + 1 + m) s) → q ≡ 129 → StepRead K p s at None
    unfolding name
    step-unlisted u c f = slashed ∙ named-unlisted K p (drop (at + 1) s) m (ap (λ z. listed K (p ▸ z)) (sym name-is) ∙ unlisted-place K u p name (sym c ∙ f))

    -- it is listed, and its conditions decide
    conditioned : {q : ℕ} → q ≡ place_of K (p ▸ slice (at + 1) (at + 1 + m) s) → (q ≡ 129 → ⊥) → step_in K p (drop at s) ≡ labelled name (conditions (key_names_at K (p ▸ name)) (drop (at + 1 + m) s))
    unfolding name
    conditioned c f =
        slashed
        ∙ named-listed K p (drop (at + 1) s) m (ap (λ z. listed K (p ▸ z)) (sym name-is) ∙ listed-place K p name (λ z. f (c ∙ z)))
        ∙ ap₂ (λ x y. labelled x (conditions (key_names_at K (p ▸ x)) y)) (sym name-is) (drop-drop m (at + 1) s)

    pub step-wrong : {q : ℕ} {x : Maybe Conditions} → q ≡ place_of K (p ▸ slice (at + 1) (at + 1 + m) s) → (q ≡ 129 → ⊥)
        → ConditionsRead (key_names_at K (p ▸ slice (at + 1) (at + 1 + m) s)) s (at + 1 + m) x → x ≡ None → StepRead K p s at None
    unfolding name labelled
    step-wrong c f d e = conditioned c f ∙ ap (labelled name) (subst (λ (x : Maybe Conditions). ConditionsRead (key_names_at K (p ▸ name)) s (at + 1 + m) x) e d)

    pub step-read : (q : ℕ) (r : Conditions) {x : Maybe Conditions} → q ≡ place_of K (p ▸ slice (at + 1) (at + 1 + m) s) → (q ≡ 129 → ⊥)
        → ConditionsRead (key_names_at K (p ▸ slice (at + 1) (at + 1 + m) s)) s (at + 1 + m) x → x ≡ Some r
        → StepRead K p s at (Some (record { next = r.next; name = (at + 1) * 64 + m; place = q; values = r.values }))
    unfolding name labelled
    step-read q r c f g e =
        let w = name-run s at m h l in
        let d : ConditionsIn (key_names_at K (p ▸ name)) s (at + 1 + m) r = subst (λ (x : Maybe Conditions). ConditionsRead (key_names_at K (p ▸ name)) s (at + 1 + m) x) e g in
        let a : ((at + 1) * 64 + m) / 64 ≡ at + 1 = omega arith in
        let b : end_of ((at + 1) * 64 + m) ≡ at + 1 + m = omega arith in
        let pe : piece s ((at + 1) * 64 + m) ≡ name = ap₂ (λ (x y : ℕ). slice x y s) a b in
        record {
          right = subst (λ (x : Bytes). step_in K p (drop at s) ≡ some (x ∷ map (piece s) (take (length (key_names_at K (p ▸ x))) r.values), drop r.next s)) (sym pe)
              (conditioned c f ∙ ap (labelled name) d.right);
          place_is = c ∙ ap (λ x. place_of K (p ▸ x)) (sym pe);
          within = d.within;
          name-inside = rw b (name-run s at m h l).1;
          inside = subst (λ (x : Bytes). Inside s (length (key_names_at K (p ▸ x))) r.values) (sym pe) d.inside;
        }
