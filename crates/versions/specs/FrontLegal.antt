-- What a program checks on the content of a frontier holds just of the contents that an archive's groups write there.
use Rattle.std.specs.Prelude.{ℕ, suc, ◌≤◌, ◌≡◌, refl, true, false, not, ◌&&◌, List, [], ◌∷◌, leb, length}
use Rattle.std.proofs.Common.{arith, sym, ◌∙◌, ap, ap₂, subst, leb-true, le-leb}
use Rattle.std.proofs.lemmas.Bool.{not-true}
use Rattle.xml.specs.Bytes.{Bytes, bytes, same}
use Rattle.xml.specs.BytesLaws.{same-is}
use Rattle.xml.specs.Forest.{Forest, end, elem, text, stamp, same_forest, Tidy}
use Rattle.model.specs.Keyed.{any}
use Rattle.model.specs.Masks.{clash, is_true, true-is}
use Rattle.model.specs.Groups.{Groups, Apart, WFG}
use Rattle.model.specs.Stored.{mask_g, or_l}
use Rattle.keys.specs.Tree.{Content, inner, front, same_content, contents}
use Rattle.keys.specs.Legal.{untimed}
use Rattle.xml.specs.Truth.{and_left, and_right, and_both}
use Rattle.timestamp.specs.Times.{Times, same_times, write_times}
use Rattle.timestamp.specs.TimesLaws.{times-is, times-self}
use Rattle.versions.specs.Archive.{branches, holding}
use Rattle.versions.specs.Lawful.{FrontEntry}
use Rattle.versions.specs.Walk.{times_in, canonical, ever, disjoint, earlier, branches_in, all_timed, apart, contents_apart, together, front_legal}
use Rattle.versions.specs.SetLaws.{length-times_in, times_in-write, canonical-write, ever-any, disjoint-is, is-disjoint, earlier-is, is-earlier}
use Rattle.versions.specs.StampedLabels.{mask_one}

pub canonical-is : (n : ℕ) (s : Bytes) → canonical n s ≡ true → s ≡ write_times (times_in n s)
unfolding canonical
canonical-is n s e = same-is s (write_times (times_in n s)) e

-- content with no `T` is tidy beside versions too
tidy-untimed : (f : Forest) → Tidy true f → untimed f ≡ true → Tidy false f
unfolding untimed
tidy-untimed end h u = tt
tidy-untimed (text b r) h u = (h.0, h.1, h.2, tidy-untimed r h.3 u)
tidy-untimed (elem m k r) h u =
    let v = and_left (not (same m (bytes "T")) && untimed k) (untimed r) u in
    (h.0, tidy-untimed k h.1 (and_right (not (same m (bytes "T"))) (untimed k) v), tidy-untimed r h.2 (and_right (not (same m (bytes "T")) && untimed k) (untimed r) u))
tidy-untimed (stamp s k r) h u = absurd (clash u refl)

-- ---- contents in their `T`s, and their groups
abbrev fronts : List (Times × Forest) → Groups Content
fronts [] = []
fronts (c ∷ cs) = (c.0, front c.1) ∷ fronts cs

apart-fronts : (t : Times) (f : Forest) (cs : List (Times × Forest)) → apart t f cs ≡ true → Apart contents t (front f) (fronts cs)
unfolding apart Apart same_content
apart-fronts t f [] h = tt
apart-fronts t f (c ∷ cs) h =
    let h3 = and_left _ (apart t f cs) h in
    let h2 = and_left _ (earlier t c.0) h3 in (
      not-true (same_forest c.1 f) (and_left _ (disjoint t c.0) h2),
      disjoint-is t c.0 (and_right (not (same_forest c.1 f)) _ h2),
      earlier-is t c.0 (and_right (not (same_forest c.1 f) && disjoint t c.0) _ h3),
      apart-fronts t f cs (and_right (not (same_forest c.1 f) && disjoint t c.0 && earlier t c.0) _ h),
    )

fronts-apart : (t : Times) (f : Forest) (cs : List (Times × Forest)) → Apart contents t (front f) (fronts cs) → apart t f cs ≡ true
unfolding apart Apart same_content
fronts-apart t f [] h = refl
fronts-apart t f (c ∷ cs) h =
    and_both _ _ (and_both _ _ (and_both _ _ (ap not h.0) (is-disjoint t c.0 h.1)) (is-earlier t c.0 h.2)) (fronts-apart t f cs h.3)

formed-fronts : (n : ℕ) (f : Forest) → contents_apart (branches_in n f) ≡ true → WFG contents n (fronts (branches_in n f))
unfolding branches_in contents_apart WFG
formed-fronts n end h = tt
formed-fronts n (text b r) h = formed-fronts n r h
formed-fronts n (elem m k r) h = formed-fronts n r h
formed-fronts n (stamp s k r) h =
    let h1 = and_left _ (contents_apart (branches_in n r)) h in (
      length-times_in n s,
      true-is (sym (ever-any (times_in n s)) ∙ and_left (ever (times_in n s)) _ h1),
      apart-fronts (times_in n s) k (branches_in n r) (and_right (ever (times_in n s)) _ h1),
      formed-fronts n r (and_right (ever (times_in n s) && apart (times_in n s) k (branches_in n r)) _ h),
    )

fronts-formed : (n : ℕ) (cs : List (Times × Forest)) → WFG contents n (fronts cs) → contents_apart cs ≡ true
unfolding contents_apart WFG
fronts-formed n [] w = refl
fronts-formed n (c ∷ cs) w =
    and_both _ _ (and_both _ _ (ever-any c.0 ∙ is_true (any c.0) w.1) (fronts-apart c.0 c.1 cs w.2)) (fronts-formed n cs w.3)

-- the versions of all contents together
or-none : (t : Times) → or_l t [] ≡ t
unfolding or_l
or-none [] = refl
or-none (b ∷ t) = refl

mask-fronts : (n : ℕ) (t : Times) → length t ≡ n → (f : Forest) → or_l t (mask_g n (fronts (branches_in n f))) ≡ or_l t (together (branches_in n f))
unfolding branches_in together mask_g
mask-fronts n t e end = mask_one n t inner e ∙ sym (or-none t)
mask-fronts n t e (text b r) = mask-fronts n t e r
mask-fronts n t e (elem m k r) = mask-fronts n t e r
mask-fronts n t e (stamp s k r) = ap (or_l t) (mask-fronts n (times_in n s) (length-times_in n s) r)

-- ---- from the forest
branches-fronts : (n : ℕ) (f : Forest) → all_timed n f ≡ true → branches (fronts (branches_in n f)) ≡ f
unfolding branches_in all_timed branches
branches-fronts n end h = refl
branches-fronts n (text b r) h = absurd (clash h refl)
branches-fronts n (elem m k r) h = absurd (clash h refl)
branches-fronts n (stamp s k r) h =
    let h1 = and_left _ (all_timed n r) h in
    ap₂ (λ u g. stamp u k g) (sym (canonical-is n s (and_left (canonical n s) _ h1))) (branches-fronts n r (and_right (canonical n s && untimed k) _ h))

entry-fronts : (n : ℕ) (f : Forest) → Tidy true f → all_timed n f ≡ true → FrontEntry (fronts (branches_in n f))
unfolding branches_in all_timed
entry-fronts n end d h = tt
entry-fronts n (text b r) d h = absurd (clash h refl)
entry-fronts n (elem m k r) d h = absurd (clash h refl)
entry-fronts n (stamp s k r) d h =
    let h1 = and_left _ (all_timed n r) h in
    let u = and_right (canonical n s) (untimed k) h1 in
    ((tidy-untimed k d.2 u, u), entry-fronts n r d.3 (and_right (canonical n s && untimed k) _ h))

-- two or more are written each in its `T`
held-fronts : (gs : Groups Content) → 2 ≤ length gs → holding gs end ≡ branches gs
unfolding holding
held-fronts [] h = absurd (omega arith)
held-fronts (g ∷ []) h = absurd (omega arith)
held-fronts (g ∷ i ∷ gs) h = refl

length-fronts : (cs : List (Times × Forest)) → length (fronts cs) ≡ length cs
length-fronts [] = refl
length-fronts (c ∷ cs) = ap suc (length-fronts cs)

-- the groups of what a frontier that stands in the versions t holds
pub record Fronted (n : ℕ) (t : Times) (f : Forest) : Type 0 where
  pub groups : Groups Content
  pub formed : WFG contents n groups
  pub mask : mask_g n groups ≡ t
  pub entry : FrontEntry groups
  pub held : holding groups end ≡ f

fronted-one : (n : ℕ) (t : Times) (f : Forest) → length t ≡ n → any t ≡ true → Tidy true f → untimed f ≡ true → Fronted n t f
unfolding WFG Apart holding
fronted-one n t f e a d u = record {
  groups = (t, front f) ∷ [];
  formed = (e, true-is a, tt, tt);
  mask = mask_one n t (front f) e;
  entry = ((tidy-untimed f d u, u), tt);
  held = refl;
}

pub front-groups : (n : ℕ) (t : Times) (f : Forest) → length t ≡ n → any t ≡ true → Tidy true f → front_legal n t f ≡ true → Fronted n t f
unfolding front_legal untimed branches_in mask_g together
front-groups n t end e a d h = fronted-one n t end e a d refl
front-groups n t (text b r) e a d h = fronted-one n t (text b r) e a d h
front-groups n t (elem m k r) e a d h = fronted-one n t (elem m k r) e a d h
front-groups n t (stamp s k r) e a d h =
    let f = stamp s k r in
    let h2 = and_left _ (same_times (together (branches_in n f)) t) h in
    let h1 = and_left _ (contents_apart (branches_in n f)) h2 in
    let b = and_left (all_timed n f) _ h1 in
    record {
      groups = fronts (branches_in n f);
      formed = formed-fronts n f (and_right (all_timed n f && leb 2 (length (branches_in n f))) _ h2);
      mask = mask-fronts n (times_in n s) (length-times_in n s) r
          ∙ times-is _ t (and_right (all_timed n f && leb 2 (length (branches_in n f)) && contents_apart (branches_in n f)) _ h);
      entry = entry-fronts n f d b;
      held = held-fronts (fronts (branches_in n f)) (rw (length-fronts (branches_in n f)) (leb-true 2 (length (branches_in n f)) (and_right (all_timed n f) _ h1)))
          ∙ branches-fronts n f b;
    }

-- ---- from the groups
fronts-back : (n : ℕ) (gs : Groups Content) → n ≤ 999 → WFG contents n gs → FrontEntry gs → fronts (branches_in n (branches gs)) ≡ gs
unfolding branches_in branches WFG
fronts-back n [] b w h = refl
fronts-back n ((t, inner) ∷ gs) b w h = absurd h.0
fronts-back n ((t, front f) ∷ gs) b w h = ap₂ (λ u hs. (u, front f) ∷ hs) (times_in-write n t w.0 b) (fronts-back n gs b w.3 h.1)

timed-branches : (n : ℕ) (gs : Groups Content) → n ≤ 999 → WFG contents n gs → FrontEntry gs → all_timed n (branches gs) ≡ true
unfolding all_timed branches WFG
timed-branches n [] b w h = refl
timed-branches n ((t, inner) ∷ gs) b w h = absurd h.0
timed-branches n ((t, front f) ∷ gs) b w h = and_both _ _ (and_both _ _ (canonical-write n t w.0 b) h.0.1) (timed-branches n gs b w.3 h.1)

-- one content is bare
untimed-front : (n : ℕ) (t : Times) (f : Forest) → untimed f ≡ true → front_legal n t f ≡ true
unfolding front_legal untimed
untimed-front n t end u = refl
untimed-front n t (text b r) u = u
untimed-front n t (elem m k r) u = u
untimed-front n t (stamp s k r) u = absurd (clash u refl)

-- two or more
two-legal : (n : ℕ) (t s : Times) (f : Content) (h : Times × Content) (gs : Groups Content) → n ≤ 999 → WFG contents n ((s, f) ∷ h ∷ gs) → FrontEntry ((s, f) ∷ h ∷ gs)
    → mask_g n ((s, f) ∷ h ∷ gs) ≡ t → front_legal n t (branches ((s, f) ∷ h ∷ gs)) ≡ true
unfolding front_legal branches branches_in together mask_g WFG
two-legal n t s f h gs b w d e =
    let hs : Groups Content = (s, f) ∷ h ∷ gs in
    let x : fronts (branches_in n (branches hs)) ≡ hs = fronts-back n hs b w d in
    and_both _ _
    (and_both _ _
    (and_both _ _ (timed-branches n hs b w d) (le-leb 2 (length (branches_in n (branches hs))) (omega (arith, length-fronts (branches_in n (branches hs)), ap length x))))
    (fronts-formed n (branches_in n (branches hs)) (subst (λ z. WFG contents n z) (sym x) w)))
    (subst (λ z. same_times z t ≡ true) (sym e ∙ ap (mask_g n) (sym x) ∙ mask-fronts n (times_in n (write_times s)) (length-times_in n (write_times s)) (branches (h ∷ gs))) (times-self t))

pub groups-front : (n : ℕ) (t : Times) (gs : Groups Content) → n ≤ 999 → WFG contents n gs → FrontEntry gs → mask_g n gs ≡ t → front_legal n t (holding gs end) ≡ true
unfolding holding front_legal
groups-front n t [] b w h e = refl
groups-front n t ((s, inner) ∷ []) b w h e = absurd h.0
groups-front n t ((s, front f) ∷ []) b w h e = untimed-front n t f h.0.1
groups-front n t ((s, f) ∷ g ∷ gs) b w h e = two-legal n t s f g gs b w h e
