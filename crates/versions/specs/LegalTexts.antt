-- A text that the reader of timestamps accepts as a set of the numbers 1 to n is a legal one in an archive of n versions, and no other is.
use Prim.Native.Nat.{ℕ, ◌≤◌}
use Rattle.std.proofs.Common.{arith, ◌∙◌, ap₂}
use Rattle.std.proofs.Math.Path.{◌≡◌, refl, sym, ap}
use Rattle.std.proofs.Math.Bool.{Bool, and-true}
use Rattle.std.specs.Prelude.{true, false, ◌&&◌, []}
use Rattle.std.proofs.Math.Dec.{leb}
use borrow.Author.Tests.{le-leb, leb-true}
use Rattle.xml.specs.Bytes.{Bytes, same}
use Rattle.xml.specs.BytesLaws.{same-is, same_self}
use Rattle.xml.specs.Truth.{by-test, not_so, and_left, and_right, and_both}
use Rattle.timestamp.specs.Times.{belongs, write_times}
use Rattle.timestamp.specs.TimesLaws.{bool_eq, write-none}
use Rattle.timestamp.specs.Set.{empty_set, up_to, cut_at, subset}
use Rattle.timestamp.specs.Tests.{subset-tells, subset-told}
use Rattle.timestamp.specs.Runs.{from-cong}
use Rattle.timestamp.specs.Listed.{listed, text_of, Only, only-up-to, only-cut, only-more, listed-cong, listed-none, text-listed, text-inj}
use Rattle.timestamp.specs.Parse.{Outcome, refused, accepted, parsed, pick_outcome}
use Rattle.timestamp.specs.Parses.{text-parse, parse-text}
use Rattle.versions.specs.Walk.{times_in, canonical, ever}
use Rattle.versions.specs.ListedLaws.{ever-none, ever-some, times-listed, times_cut}

-- what the code tests of a text: it is read, as a set within 1 to n
abbrev pub fits : ℕ → Outcome → Bool
fits n refused = false
fits n (accepted s) = subset s (up_to n)

only-subset : (n : ℕ) (s : ℕ → Bool) → Only 999 s → subset s (up_to n) ≡ true → Only n s
only-subset n s o e v q = let x = o v q in (x.0, (only-up-to n v (subset-tells s (up_to n) e v (omega (arith, x.1)) q)).1)

subset-only : (n : ℕ) (s : ℕ → Bool) → Only n s → subset s (up_to n) ≡ true
subset-only n s o = subset-told s (up_to n) (λ v l q. let x = o v q in and_both (leb 1 v) (leb v n) (le-leb 1 v x.0) (le-leb v n x.1))

-- no text but the empty one is that of no version
ever-text : (n : ℕ) (s : ℕ → Bool) → ever (listed n s) ≡ false → write_times (listed n s) ≡ []
unfolding listed
ever-text n s e = ap write_times (listed-cong n s empty_set (λ v a b. ever-none s 1 n e v a (omega arith)) ∙ listed-none n) ∙ write-none n

module _ (n : ℕ) (l : Bytes) (h : n ≤ 999) where
  test : Bool
  test = canonical n l && ever (times_in n l)

  fits-accepted : (s : ℕ → Bool) → parsed l ≡ accepted s → test ≡ subset s (up_to n)
  unfolding test canonical
  fits-accepted s e =
      let f = text-parse l s e in
      let t : times_in n l ≡ listed n s = ap (times_in n) f.0 ∙ times-listed n s h in
      bool_eq test (subset s (up_to n))
      (λ x.
      let w : l ≡ write_times (listed n s) = same-is l (write_times (times_in n l)) (and_left (canonical n l) (ever (times_in n l)) x) ∙ ap write_times t in
      let c = only-cut 999 n s f.1 in
      let k : text_of (cut_at n s) ≡ write_times (listed n s) = text-listed n (cut_at n s) h c ∙ ap write_times (sym (times_cut n s h) ∙ times-listed n s h) in
      let q : s ≡ cut_at n s = text-inj s (cut_at n s) f.1 (only-more n 999 (cut_at n s) h c) (sym f.0 ∙ w ∙ sym k) in
      subset-only n s (λ v y. c v (ap (λ (g : ℕ → Bool). g v) (sym q) ∙ y)))
      (λ x.
      let w : write_times (listed n s) ≡ l = sym (text-listed n s h (only-subset n s f.1 x)) ∙ sym f.0 in
      and_both (canonical n l) (ever (times_in n l))
      (ap (same l) (ap write_times t ∙ w) ∙ same_self l)
      (ap ever t ∙ by-test (ever (listed n s)) (λ y. y) (λ y. absurd (f.2 (sym w ∙ ever-text n s y)))))

  fits_refused : parsed l ≡ refused → test ≡ false
  unfolding test canonical times_in listed
  fits_refused e = not_so test (λ x.
      let s : ℕ → Bool = cut_at n (λ v. leb 1 v && belongs v l) in
      let o : Only n s = λ v q. (leb-true 1 v (and_left (leb 1 v) (belongs v l) (and_left (leb 1 v && belongs v l) (leb v n) q)), leb-true v n (and_right (leb 1 v && belongs v l) (leb v n) q)) in
      let t : times_in n l ≡ listed n s = from-cong (λ v. belongs v l) s 1 n (λ v a b. sym (ap₂ (λ y z. y && belongs v l && z) (le-leb 1 v a) (le-leb v n (omega arith)) ∙ and-true (belongs v l))) in
      let w : l ≡ text_of s = same-is l (write_times (times_in n l)) (and_left (canonical n l) (ever (times_in n l)) x) ∙ ap write_times t ∙ sym (text-listed n s h o) in
      let r = ever-some s 1 n (ap ever (sym t) ∙ and_right (canonical n l) (ever (times_in n l)) x) in
      let z : refused ≡ accepted s = sym e ∙ ap parsed w ∙ parse-text s r.0 (only-more n 999 s h o) r.3 in
      let y : ◌≡◌ {A = ℕ} 0 1 = cc in omega arith)

  pub legal-text : (canonical n l && ever (times_in n l)) ≡ fits n (parsed l)
  unfolding test
  legal-text = go (parsed l) refl
    where
      go : (o : Outcome) → parsed l ≡ o → test ≡ fits n o
      go refused e = fits_refused e
      go (accepted s) e = fits-accepted s e

  -- of the reader's answer
  pub legal-read : (b : Bool) (s : ℕ → Bool) → pick_outcome b s ≡ parsed l → (canonical n l && ever (times_in n l)) ≡ (b && subset s (up_to n))
  legal-read true s e = legal-text ∙ ap (fits n) (sym e)
  legal-read false s e = legal-text ∙ ap (fits n) (sym e)

  -- the set that it is accepted as is the one that it gives
  pub legal-set : (s : ℕ → Bool) → parsed l ≡ accepted s → times_in n l ≡ listed n s
  legal-set s e = ap (times_in n) (text-parse l s e).0 ∙ times-listed n s h
