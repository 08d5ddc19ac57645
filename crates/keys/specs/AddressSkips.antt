-- Laws of the functions that skip words and read a value in quotes, one a return.
use Rattle.std.specs.Prelude.{Option as Maybe, None, Some, ℕ, zero, suc, ◌+◌, ◌-◌, ◌*◌, ◌/◌, ◌<◌, ◌≤◌, ◌≡◌, true, false, ◌&&◌, [], ◌∷◌, ◌++◌, eqb, leb, length, get_or}
use Prim.Native.Char.{code}
use Rattle.std.proofs.Common.{arith, ◌∙◌, length-append, length-drop, take-append-drop, take_at, drop-drop, get_or-drop, le-leb, eq-eqb, ne_eqb}
use Rattle.std.proofs.Math.Path.{refl, sym, ap, ap₂}
use Rattle.std.proofs.Math.Bool.{and-false}
use Rattle.std.proofs.Math.Option.{Option, none, some}
use Rattle.std.proofs.Math.ListN.{take, drop}
use Rattle.std.proofs.Math.Seq.{slice}
use Rattle.std.proofs.lemmas.Bool.{lt-leb}
use Rattle.xml.specs.Bytes.{Bytes, bytes, same}
use Rattle.xml.specs.BytesLaws.{same-is, same_self}
use Rattle.xml.specs.Read.{name_rest}
use Rattle.xml.specs.TapeLaws.{slice-part}
use Rattle.xml.specs.Truth.{clash, both, by-test}
use Rattle.keys.specs.AddressScan.{cut, value_of, after_open, condition}
use Rattle.keys.specs.AddressCuts.{cut-sound, cut-own, value_test, value-yes, value-no, value-at}
use Rattle.keys.specs.AddressParts.{end_of, from, further, opener, Skipped, QuotedRead, ValueRead}

-- ---- what stands from a place on
pub from_in : (s : Bytes) (at : ℕ) → at ≤ length s → from s at ≡ some (drop at s)
unfolding from
from_in s at h = rw (le-leb at (length s) h, from)

pub from_out : (s : Bytes) (at : ℕ) → length s < at → from s at ≡ none
unfolding from
from_out s at h = rw (lt-leb at (length s) h, from)

cut-none : (w t : Bytes) → ((r : Bytes) → t ≡ w ++ r → ⊥) → cut w t ≡ none
cut-none w t f = go (cut w t) refl
  where
    go : (x : Option Bytes) → cut w t ≡ x → cut w t ≡ none
    go none c = c
    go (some r) c = absurd (f r (cut-sound w t r c))

-- ---- skipping a word w
module _ (s : Bytes) (at : ℕ) (w : Bytes) where
  pub skip-out : at ≤ length s + 1 → length s < at → Skipped s at w at
  unfolding further
  skip-out h l = record { within = h; rest = rw (from_out s at l) refl }

  none_here : at ≤ length s → ((r : Bytes) → drop at s ≡ w ++ r → ⊥) → Skipped s at w (length s + 1)
  unfolding further
  none_here h f = record { within = omega arith; rest = from_out s (length s + 1) (omega arith) ∙ sym (rw (from_in s at h) (cut-none w (drop at s) f)) }

  module _ (k : ℕ) (l : length w ≡ k) where
    pub skip-short : at ≤ length s → length s - at < k → Skipped s at w (length s + 1)
    skip-short h g = none_here h (λ r e. omega (arith, sym (length-drop at s) ∙ ap length e, length-append w r))

    pub skip-other : at ≤ length s → same (slice at (at + k) s) w ≡ false → Skipped s at w (length s + 1)
    skip-other h f =
        none_here h
        (λ r e. clash (sym (ap (λ z. same z w) (slice-part at k s ∙ ap (take k) e ∙ take_at w r k l) ∙ same_self w) ∙ f))

    pub skip-word : at + k ≤ length s → same (slice at (at + k) s) w ≡ true → Skipped s at w (at + k)
    unfolding further
    skip-word h t =
        let p : take k (drop at s) ≡ w = sym (slice-part at k s) ∙ same-is _ w t in
        let q : drop at s ≡ w ++ drop (at + k) s = sym (take-append-drop k (drop at s)) ∙ ap₂ (λ a b. a ++ b) p (drop-drop k at s) in
        record {
          within = omega arith;
          rest = from_in s (at + k) h ∙ sym (rw (from_in s at (omega arith)) (ap (cut w) q ∙ cut-own w (drop (at + k) s)));
        }

-- ---- what opens a condition
pub open-first : (j : ℕ) → j ≡ 0 → opener j ≡ bytes "["
unfolding opener
open-first j e = rw e refl

pub open-later : (j : ℕ) → (j ≡ 0 → ⊥) → opener j ≡ bytes " and "
unfolding opener
open-later zero f = absurd (f refl)
open-later (suc j) f = refl

-- ---- a value in quotes
pub quoted-out : (s : Bytes) (at : ℕ) → length s < at → QuotedRead s at None
unfolding after_open
quoted-out s at h = ap after_open (from_out s at h)

module _ (s : Bytes) (at m : ℕ) (h : at ≤ length s) (e : m ≡ name_rest 33 (drop at s)) where
  here : after_open (from s at) ≡ value_of (drop at s) m
  unfolding after_open
  here = ap after_open (from_in s at h) ∙ ap (value_of (drop at s)) (sym e)

  test-false : value_test (drop at s) m ≡ false → QuotedRead s at None
  test-false t = here ∙ value-no (drop at s) m t

  pub quoted-empty : m ≡ 0 → QuotedRead s at None
  quoted-empty z = test-false (ap (λ k. leb 1 k && leb k 32 && eqb (get_or (drop at s) k 0) (code "\"")) z)

  pub quoted-long : 32 < m → QuotedRead s at None
  quoted-long l = test-false (rw (lt-leb m 32 l, and-false (leb 1 m)))

  pub quoted-open : (get_or s (at + m) 0 ≡ code "\"" → ⊥) → QuotedRead s at None
  quoted-open f = test-false (rw (ne_eqb (get_or (drop at s) m 0) (code "\"") (λ q. f (sym (get_or-drop at s m 0) ∙ q))) (and-false (leb 1 m && leb m 32)))

  pub quoted-read : (m ≡ 0 → ⊥) → m ≤ 32 → get_or s (at + m) 0 ≡ code "\"" → QuotedRead s at (Some (at * 64 + m))
  quoted-read z l q =
      let t : value_test (drop at s) m ≡ true = both (both (le-leb 1 m (omega arith)) (le-leb m 32 l)) (eq-eqb _ _ (get_or-drop at s m 0 ∙ q)) in
      let v = value-at (drop at s) m t in
      let a : (at * 64 + m) / 64 ≡ at = omega arith in
      let b : end_of (at * 64 + m) ≡ at + m = omega arith in (
        here ∙ value-yes (drop at s) m t ∙ ap₂ (λ x y. some (x, y))
            (sym (ap₂ (λ x y. slice x y s) a b ∙ slice-part at m s)) (drop-drop (suc m) at s ∙ ap (λ k. drop k s) (let c : at + suc m ≡ end_of (at * 64 + m) + 1 = omega arith in c)),
        let i = v.inside in omega (arith, length-drop at s),
      )

-- ---- a condition: three words are one
cut-append : (w v s : Bytes) → cut (w ++ v) s ≡ further v (cut w s)
unfolding cut further
cut-append [] v s = refl
cut-append (a ∷ w) v [] = refl
cut-append (a ∷ w) v (b ∷ s) =
    by-test (eqb a b)
    (λ t. rw (t, cut) (cut-append w v s))
    (λ t. rw (t, cut) refl)

pub condition-by : (o k s : Bytes) (at a b v : ℕ) (r : Maybe ℕ) → at ≤ length s → Skipped s at o a → Skipped s a k b → Skipped s b (bytes "=\"") v → QuotedRead s v r → ValueRead o k s at r
unfolding condition further
condition-by o k s at a b v r h x y z q =
    let c : from s v ≡ cut (o ++ (k ++ bytes "=\"")) (drop at s) =
    z.rest ∙ ap (further (bytes "=\"")) (y.rest ∙ ap (further k) (x.rest ∙ ap (further o) (from_in s at h)))
    ∙ sym (cut-append o (k ++ bytes "=\"") (drop at s) ∙ twice k (bytes "=\"") (cut o (drop at s)))
    in
    read (ap after_open (sym c)) r q
  where
    read : condition o k (drop at s) ≡ after_open (from s v) → (r : Maybe ℕ) → QuotedRead s v r → ValueRead o k s at r
    read e None q = e ∙ q
    read e (Some r) q = (e ∙ q.0, q.1)

    twice : (w u : Bytes) (x : Option Bytes) → further (w ++ u) x ≡ further u (further w x)
    twice w u none = refl
    twice w u (some t) = cut-append w u t
