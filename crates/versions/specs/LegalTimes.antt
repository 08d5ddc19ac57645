-- The set of a sibling in an archive: that of its parent if it is bare, and that of its `T`, around one element, if not.
use Rattle.std.proofs.lemmas.Option.{IfSome_then}
use Rattle.std.specs.Prelude.{Option, Some, None, is_some, IfSome, ℕ, ◌+◌, ◌%◌, ◌<◌, ◌≤◌, ◌≡◌, Bool, true, ◌&&◌, List, eqb}
use Rattle.std.proofs.Common.{arith, ◌∙◌}
use Rattle.std.proofs.Math.Path.{refl, sym, ap, ap₂}
use Rattle.std.proofs.Math.Bool.{false, not}
use borrow.Author.Tests.{eq-eqb, ne_eqb}
use Rattle.xml.specs.Bytes.{Bytes}
use Rattle.xml.specs.Forest.{Forest, end, elem, text, stamp}
use Rattle.xml.specs.Read.{is_end}
use Rattle.xml.specs.Tape.{head_at, next_at, Tape, at-end, at-text, at-elem, at-stamp}
use Rattle.xml.specs.TapeLaws.{bytes_at, tape-le}
use Rattle.xml.specs.Truth.{by-test, and_left}
use Rattle.timestamp.specs.Times.{Times, same_times}
use Rattle.timestamp.specs.Set.{set_of, up_to, same_set, subset}
use Rattle.timestamp.specs.Tests.{subset-tells}
use Rattle.timestamp.specs.Listed.{listed, Only, only-up-to, same-listed}
use Rattle.timestamp.specs.Parse.{refused, accepted, parsed, Parsed}
use Rattle.timestamp.specs.Parses.{text-parse}
use Rattle.timestamp.specs.declared.Timestamp.{Timestamp}
use Rattle.versions.specs.Walk.{times_in, canonical, ever, within, is_sole}
use Rattle.versions.specs.ListedLaws.{within-listed}
use Rattle.versions.specs.LegalTexts.{fits, legal-text, legal-set}

-- the set s may be that of a `T` in an element of the versions t
unfoldable pub stands : ℕ → (ℕ → Bool) → (ℕ → Bool) → Bool
stands n t s = subset s (up_to n) && subset s t && not (same_set s t)

pub stands-out : (n : ℕ) (t s : ℕ → Bool) → subset s (up_to n) ≡ false → stands n t s ≡ false
unfolding stands
stands-out n t s e = rw e

pub stands-past : (n : ℕ) (t s : ℕ → Bool) → subset s (up_to n) ≡ true → subset s t ≡ false → stands n t s ≡ false
unfolding stands
stands-past n t s e f = rw (e, f)

pub stands-in : (n : ℕ) (t s : ℕ → Bool) → subset s (up_to n) ≡ true → subset s t ≡ true → stands n t s ≡ not (same_set s t)
unfolding stands
stands-in n t s e f = rw (e, f)

-- the text l may be that of such a `T`
unfoldable pub times_legal : ℕ → Times → Bytes → Bool
times_legal n t l = canonical n l && ever (times_in n l) && within (times_in n l) t && not (same_times (times_in n l) t)

-- what is answered of a text: its set, if it is that of such a `T`
pub record TimesRead (n : ℕ) (t : ℕ → Bool) (l : Bytes) (r : Option Timestamp) : Type 0 where
  pub some-is : is_some r ≡ times_legal n (listed n t) l
  pub own : IfSome r (λ s. Only n (set_of s.words) × (listed n (set_of s.words) ≡ times_in n l))

module _ (n : ℕ) (t : ℕ → Bool) (l : Bytes) (h : n ≤ 999) (o : Only n t) where
  text-refused : parsed l ≡ refused → times_legal n (listed n t) l ≡ false
  unfolding times_legal
  text-refused e = ap (λ x. x && within (times_in n l) (listed n t) && not (same_times (times_in n l) (listed n t))) (legal-text n l h ∙ ap (fits n) e)

  module _ (s : ℕ → Bool) (e : parsed l ≡ accepted s) where
    only-in : subset s (up_to n) ≡ true → Only n s
    only-in d v q = let x = (text-parse l s e).1 v q in (x.0, (only-up-to n v (subset-tells s (up_to n) d v (omega (arith, x.1)) q)).1)

    read-it : (canonical n l && ever (times_in n l)) ≡ subset s (up_to n)
    read-it = legal-text n l h ∙ ap (fits n) e

    text-stands : times_legal n (listed n t) l ≡ stands n t s
    unfolding times_legal stands
    text-stands = by-test (subset s (up_to n))
        (λ d.
        let w : within (times_in n l) (listed n t) ≡ subset s t = ap (λ x. within x (listed n t)) (legal-set n l h s e) ∙ within-listed n s t (only-in d) (omega arith) in
        let q : same_times (times_in n l) (listed n t) ≡ same_set s t = ap (λ x. same_times x (listed n t)) (legal-set n l h s e) ∙ sym (same-listed n s t (only-in d) o (omega arith)) in
        ap₂ (λ x y. x && y) (ap₂ (λ x y. x && y) read-it w) (ap not q))
        (λ d. ap (λ x. x && within (times_in n l) (listed n t) && not (same_times (times_in n l) (listed n t))) (read-it ∙ d) ∙ sym (ap (λ x. x && subset s t && not (same_set s t)) d))

  pub read-refused : parsed l ≡ refused → TimesRead n t l None
  read-refused e = record { some-is = sym (text-refused e); own = tt }

  module _ (s : Timestamp) (e : parsed l ≡ accepted (set_of s.words)) where
    pub read-apart : stands n t (set_of s.words) ≡ false → TimesRead n t l None
    read-apart d = record { some-is = sym (text-stands (set_of s.words) e ∙ d); own = tt }

    pub read-accepted : stands n t (set_of s.words) ≡ true → TimesRead n t l (Some s)
    unfolding stands
    read-accepted d =
        let g = set_of s.words in
        record {
          some-is = sym (text-stands g e ∙ d);
          own = (only-in g e (and_left (subset g (up_to n)) (subset g t) (and_left (subset g (up_to n) && subset g t) (not (same_set g t)) d)), sym (legal-set n l h g e));
        }

-- ---- one element and nothing else
module _ {src cells : List ℕ} where
  end_test : {p q : ℕ} {f : Forest} → Tape src cells p q f → is_end f ≡ eqb p q
  unfolding is_end
  end_test {p} {q} (at-end e) = sym (eq-eqb p q e)
  end_test {p} {q} (at-text d u e r) = sym (ne_eqb p q (λ z. absurd (omega (arith, tape-le r))))
  end_test {p} {q} (at-elem d k r) = sym (ne_eqb p q (λ z. absurd (omega (arith, tape-le k, tape-le r))))
  end_test {p} {q} (at-stamp d k r) = sym (ne_eqb p q (λ z. absurd (omega (arith, tape-le k, tape-le r))))

  pub sole_none : {p q : ℕ} {f : Forest} → Tape src cells p q f → q ≤ p → is_sole f ≡ false
  unfolding is_sole
  sole_none (at-end e) l = refl
  sole_none (at-text d u e r) l = refl
  sole_none (at-elem d k r) l = absurd (omega (arith, tape-le k, tape-le r))
  sole_none (at-stamp d k r) l = refl

  pub sole-other : {p q : ℕ} {f : Forest} → Tape src cells p q f → (head_at cells p % 4 ≡ 1 → ⊥) → is_sole f ≡ false
  unfolding is_sole
  sole-other (at-end e) l = refl
  sole-other (at-text d u e r) l = refl
  sole-other (at-elem d k r) l = absurd (l d.kind-is)
  sole-other (at-stamp d k r) l = refl

  pub sole-one : {p q : ℕ} {f : Forest} → Tape src cells p q f → p < q → head_at cells p % 4 ≡ 1 → is_sole f ≡ eqb (next_at cells p) q
  unfolding is_sole
  sole-one (at-end e) l h = absurd (omega arith)
  sole-one (at-text d u e r) l h = absurd (omega (arith, d.kind-is))
  sole-one (at-elem d k r) l h = end_test r
  sole-one (at-stamp d k r) l h = absurd (omega (arith, d.kind-is))

-- ---- the first sibling's set
unfoldable pub own_legal : ℕ → Times → Forest → Bool
own_legal n t end = false
own_legal n t (text b r) = false
own_legal n t (elem m k r) = true
own_legal n t (stamp s k r) = is_sole k && canonical n s && ever (times_in n s) && within (times_in n s) t && not (same_times (times_in n s) t)

unfoldable pub own_times : ℕ → Times → Forest → Times
own_times n t end = t
own_times n t (text b r) = t
own_times n t (elem m k r) = t
own_times n t (stamp s k r) = times_in n s

-- what is answered of it: its set, if it has one
pub record OwnRead (n : ℕ) (t : ℕ → Bool) (f : Forest) (r : Option Timestamp) : Type 0 where
  pub some-is : is_some r ≡ own_legal n (listed n t) f
  pub own : IfSome r (λ s. Only n (set_of s.words) × (listed n (set_of s.words) ≡ own_times n (listed n t) f))

module _ {src cells : List ℕ} (n : ℕ) (t : ℕ → Bool) (o : Only n t) {p q : ℕ} where
  -- text
  pub own-text : {f : Forest} → Tape src cells p q f → p < q → head_at cells p % 4 ≡ 0 → OwnRead n t f None
  unfolding own_legal
  own-text (at-end e) l k = absurd (omega arith)
  own-text (at-text i u e a) l k = record { some-is = refl; own = tt }
  own-text (at-elem i a b) l k = absurd (omega (arith, i.kind-is))
  own-text (at-stamp i a b) l k = absurd (omega (arith, i.kind-is))

  -- a bare element
  pub own_bare : {f : Forest} (r : Timestamp) → Tape src cells p q f → p < q → head_at cells p % 4 ≡ 1 → set_of r.words ≡ t → OwnRead n t f (Some r)
  unfolding own_legal own_times
  own_bare r (at-end e) l k z = absurd (omega arith)
  own_bare r (at-text i u e a) l k z = absurd (omega (arith, i.kind-is))
  own_bare r (at-elem i a b) l k z = record { some-is = refl; own = (rw z o, ap (listed n) z) }
  own_bare r (at-stamp i a b) l k z = absurd (omega (arith, i.kind-is))

  -- a `T` that is around more or less than an element
  pub own-crowd : {f : Forest} → Tape src cells p q f → p < q → head_at cells p % 4 ≡ 2 → ((k : Forest) → Tape src cells (p + 1) (next_at cells p) k → is_sole k ≡ false) → OwnRead n t f None
  unfolding own_legal
  own-crowd (at-end e) l k z = absurd (omega arith)
  own-crowd (at-text i u e a) l k z = absurd (omega (arith, i.kind-is))
  own-crowd (at-elem i a b) l k z = absurd (omega (arith, i.kind-is))
  own-crowd (at-stamp {t = s} {k = g} i a b) l k z =
      record {
        some-is = sym (ap (λ x. x && canonical n s && ever (times_in n s) && within (times_in n s) (listed n t) && not (same_times (times_in n s) (listed n t))) (z g a));
        own = tt;
      }

  pub own-timed : {f : Forest} (r : Option Timestamp) → Tape src cells p q f → p < q → head_at cells p % 4 ≡ 2 → ((k : Forest) → Tape src cells (p + 1) (next_at cells p) k → is_sole k ≡ true)
      → TimesRead n t (bytes_at src cells p) r → OwnRead n t f r
  unfolding own_legal own_times times_legal
  own-timed r (at-end e) l k z d = absurd (omega arith)
  own-timed r (at-text i u e a) l k z d = absurd (omega (arith, i.kind-is))
  own-timed r (at-elem i a b) l k z d = absurd (omega (arith, i.kind-is))
  own-timed r (at-stamp {t = s} {k = g} i a b) l k z d =
      record {
        some-is = d.some-is ∙ ap (times_legal n (listed n t)) i.bytes-are
            ∙ sym (ap (λ x. x && canonical n s && ever (times_in n s) && within (times_in n s) (listed n t) && not (same_times (times_in n s) (listed n t))) (z g a));
        own = IfSome_then r d.own (λ _ h. (h.0, h.1 ∙ ap (times_in n) i.bytes-are));
      }
