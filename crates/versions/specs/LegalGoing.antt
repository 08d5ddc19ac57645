-- Legal siblings one by one: each is an element or a `T` around one, and its label comes after that of the one before.
use Rattle.std.specs.Prelude.{ℕ, ◌+◌, ◌<◌, ◌≤◌, ◌≡◌, Bool, true, false, ◌&&◌, List}
use Rattle.std.proofs.Common.{arith, sym, ◌∙◌, ap₂}
use Rattle.std.proofs.Math.Path.{refl, ap, subst}
use Rattle.std.proofs.Math.Bool.{and-true, and-false}
use Rattle.std.proofs.Math.Option.{Option, none, some}
use Rattle.xml.specs.Bytes.{Bytes}
use Rattle.xml.specs.Truth.{clash, and_left}
use Rattle.xml.specs.Forest.{Forest, end, elem, stamp}
use Rattle.xml.specs.Tape.{next_at, Node, Tape, at-end, at-text, at-elem, at-stamp}
use Rattle.xml.specs.TapeLaws.{tape-le, tape-none}
use Rattle.keys.specs.KeyList.{Path, KeyList}
use Rattle.keys.specs.Version.{Label, label}
use Rattle.timestamp.specs.Times.{Times}
use Rattle.versions.specs.Walk.{times_in, canonical, ever, within, is_sole, first_label, precedes, siblings_legal}
use Rattle.versions.specs.HistorySteps.{sole-is}
use Rattle.versions.specs.HistoryTape.{element_at, element-timed, element-bare}
use Rattle.versions.specs.LegalTimes.{own_legal, own_times}
use Rattle.versions.specs.LegalSteps.{element_legal, LastIs, no_last, last-is, element-once}

-- ---- one sibling, the first of f
pub record Sib (src cells : List ℕ) (K : KeyList) (n : ℕ) (q : Path) (t : Times) (p hi : ℕ) (f : Forest) : Type 0 where
  pub name : Bytes
  pub kids : Forest
  pub rest : Forest
  pub node : Node src cells (element_at cells p) 1 name
  pub tape : Tape src cells (element_at cells p + 1) (next_at cells (element_at cells p)) kids
  pub after : Tape src cells (next_at cells p) hi rest
  pub low : p ≤ element_at cells p
  pub inside : next_at cells (element_at cells p) ≤ hi
  pub first-is : first_label K q f ≡ some (label K q name kids)
  pub legal : siblings_legal K n q t f
      ≡ (element_legal K n q (own_times n t f) name kids && precedes (some (label K q name kids)) (first_label K q rest) && siblings_legal K n q t rest)

module _ {src cells : List ℕ} (K : KeyList) (n : ℕ) (q : Path) (t : Times) {p hi : ℕ} where
  timed-sib : (s m : Bytes) (j r : Forest) → Node src cells p 2 s → Tape src cells (p + 1) (next_at cells p) (elem m j end) → Tape src cells (next_at cells p) hi r
      → own_legal n t (stamp s (elem m j end) r) ≡ true → Sib src cells K n q t p hi (stamp s (elem m j end) r)
  unfolding own_legal own_times siblings_legal element_legal first_label precedes
  timed-sib s m j r d (at-elem i x (at-end z)) y o =
      let e = element-timed cells p d.kind-is in
      record {
        name = m;
        kids = j;
        rest = r;
        node = rw e i;
        tape = rw e x;
        after = y;
        low = rw e (omega arith);
        inside = rw e (omega (arith, z, tape-le y));
        first-is = refl;
        legal = ap (λ b. b && siblings_legal K n q (times_in n s) (elem m j end) && precedes (some (label K q m j)) (first_label K q r) && siblings_legal K n q t r) o
            ∙ ap (λ b. b && precedes (some (label K q m j)) (first_label K q r) && siblings_legal K n q t r)
            (and-true (element_legal K n q (times_in n s) m j && true) ∙ and-true (element_legal K n q (times_in n s) m j));
      }

  pub sib : {f : Forest} → Tape src cells p hi f → p < hi → own_legal n t f ≡ true → Sib src cells K n q t p hi f
  unfolding own_legal own_times siblings_legal element_legal first_label
  sib (at-end e) b o = absurd (omega arith)
  sib (at-text d u e r) b o = clash (sym o)
  sib (at-elem {n = m} {k = k} {r = r} d x y) b o =
      let e = element-bare cells p (λ z. omega (arith, d.kind-is)) in
      record {
        name = m;
        kids = k;
        rest = r;
        node = rw e d;
        tape = rw e x;
        after = y;
        low = rw e (omega arith);
        inside = rw e (tape-le y);
        first-is = refl;
        legal = refl;
      }
  sib (at-stamp {t = s} {k = k} {r = r} d x y) b o =
      let g = sole-is k (and_left (is_sole k) _ (and_left (is_sole k && canonical n s) _ (and_left (is_sole k && canonical n s && ever (times_in n s)) _ (and_left (is_sole k && canonical n s && ever (times_in n s) && within (times_in n s) t) _ o)))) in
      subst (λ z. Sib src cells K n q t p hi (stamp s z r)) (sym g.2)
      (timed-sib s g.0 g.1 r d (subst (λ z. Tape src cells (p + 1) (next_at cells p) z) g.2 x) y (subst (λ z. own_legal n t (stamp s z r) ≡ true) g.2 o))

  sib-not : {f : Forest} → Tape src cells p hi f → p < hi → own_legal n t f ≡ false → siblings_legal K n q t f ≡ false
  unfolding own_legal siblings_legal
  sib-not (at-end e) b o = absurd (omega arith)
  sib-not (at-text d u e r) b o = refl
  sib-not (at-elem d x y) b o = clash o
  sib-not (at-stamp {t = s} {k = k} {r = r} d x y) b o =
      ap (λ b. b && siblings_legal K n q (times_in n s) k && precedes (first_label K q k) (first_label K q r) && siblings_legal K n q t r) o

-- ---- the loop: of the whole answer, that of the siblings from p on is left, after an element `last`
pub record Legally (src cells : List ℕ) (K : KeyList) (n : ℕ) (q : Path) (t : Times) (p hi last : ℕ) (whole : Bool) : Type 0 where
  pub left : Forest
  pub tape : Tape src cells p hi left
  pub before-it : Option Label
  pub last_one : LastIs K q src cells hi last before-it
  pub same : whole ≡ (precedes before-it (first_label K q left) && siblings_legal K n q t left)

precedes-end : (o : Option Label) → precedes o none ≡ true
unfolding precedes
precedes-end none = refl
precedes-end (some a) = refl

module _ {src cells : List ℕ} {K : KeyList} {n : ℕ} {q : Path} {t : Times} where
  pub legally-start : {p hi : ℕ} {f : Forest} → Tape src cells p hi f → Legally src cells K n q t p hi hi (siblings_legal K n q t f)
  unfolding precedes
  legally-start {p} {hi} {f} x = record { left = f; tape = x; before-it = none; last_one = no_last (omega arith); same = refl }

  module _ {p hi last : ℕ} {whole : Bool} (x : Legally src cells K n q t p hi last whole) where
    pub legally-done : hi ≤ p → whole ≡ true
    unfolding siblings_legal first_label
    legally-done l =
        let e : p ≡ hi = omega (arith, tape-le x.tape) in
        x.same ∙ ap (λ f. precedes x.before-it (first_label K q f) && siblings_legal K n q t f) (tape-none (rw e at x.tape)) ∙ ap (λ b. b && true) (precedes-end x.before-it)

    pub legally-own : p < hi → own_legal n t x.left ≡ false → whole ≡ false
    legally-own b o = x.same ∙ ap (λ z. precedes x.before-it (first_label K q x.left) && z) (sib-not K n q t x.tape b o) ∙ and-false (precedes x.before-it (first_label K q x.left))

    module _ (b : p < hi) (o : own_legal n t x.left ≡ true) where
      pub the-sib : Sib src cells K n q t p hi x.left
      the-sib = sib K n q t x.tape b o

      pub legally-element : element_legal K n q (own_times n t x.left) the-sib.name the-sib.kids ≡ false → whole ≡ false
      legally-element h =
          x.same ∙ ap (λ z. precedes x.before-it (first_label K q x.left) && z)
          (the-sib.legal ∙ ap (λ z. z && precedes (some (label K q the-sib.name the-sib.kids)) (first_label K q the-sib.rest) && siblings_legal K n q t the-sib.rest) h)
          ∙ and-false (precedes x.before-it (first_label K q x.left))

      pub legally-not : precedes x.before-it (some (label K q the-sib.name the-sib.kids)) ≡ false → whole ≡ false
      legally-not h = x.same ∙ ap (λ z. z && siblings_legal K n q t x.left) (ap (precedes x.before-it) the-sib.first-is ∙ h)

      pub legally-more : element_legal K n q (own_times n t x.left) the-sib.name the-sib.kids ≡ true → precedes x.before-it (some (label K q the-sib.name the-sib.kids)) ≡ true
          → Legally src cells K n q t (next_at cells p) hi (element_at cells p) whole
      legally-more h g =
          record {
            left = the-sib.rest;
            tape = the-sib.after;
            before-it = some (label K q the-sib.name the-sib.kids);
            last_one = last-is (omega (arith, the-sib.inside, tape-le the-sib.tape)) the-sib.node the-sib.tape (element-once K n q (own_times n t x.left) the-sib.name the-sib.kids h);
            same = x.same ∙ ap₂ (λ y z. y && z) (ap (precedes x.before-it) the-sib.first-is ∙ g)
                (the-sib.legal ∙ ap (λ z. z && precedes (some (label K q the-sib.name the-sib.kids)) (first_label K q the-sib.rest) && siblings_legal K n q t the-sib.rest) h);
          }
