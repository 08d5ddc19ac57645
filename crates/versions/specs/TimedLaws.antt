-- What the functions that read and write an archive's `T`s come to: texts of sets, and the pieces of a `T`.
use Rattle.std.specs.Prelude.{ℕ, suc, ◌+◌, ◌-◌, ◌≤◌, ◌≡◌, refl, Bool, true, false, length, take, drop}
use Rattle.std.proofs.Common.{arith, add-one, sym, ◌∙◌, ap, subst, length-append, take-take, length-take-le}
use mathlib.Core.List.{List, [], ◌∷◌, ◌++◌, append-nil}
use Rattle.std.proofs.Math.Seq.{slice, length-slice}
use Rattle.xml.specs.Bytes.{Bytes, bytes}
use Rattle.xml.specs.Forest.{Forest, end, stamp, write}
use Rattle.xml.specs.Over.{Wrote}
use Rattle.xml.specs.OverLaws.{wrote_then}
use Rattle.xml.specs.TapeLaws.{opening, slice-part}
use Rattle.xml.specs.Truth.{clash}
use Rattle.timestamp.specs.Times.{Times, always, only_after, write_times}
use Rattle.timestamp.specs.Set.{set_of, empty_set, adding, up_to, subset}
use Rattle.timestamp.specs.Tests.{subset-tells}
use Rattle.timestamp.specs.Listed.{listed, Only, text_of, listed-adding, listed-newest, listed-up-to, only-adding, only_none, only-up-to, text-listed, text-up-to}
use Rattle.timestamp.proofs.LongestLaws.{text-short}
use Rattle.timestamp.specs.Parse.{Outcome, refused, accepted, parsed}
use Rattle.timestamp.specs.Parses.{text-parse}
use Rattle.timestamp.specs.Place.{IsSetTo}
use Rattle.timestamp.specs.Change.{tail_text, Changes}
use Rattle.timestamp.specs.declared.change.Tail.{Tail}
use Rattle.versions.specs.Walk.{times_in, newest}
use Rattle.versions.specs.LegalTexts.{fits, legal-text, legal-set}
use Rattle.versions.specs.AddParts.{Holds, Says, LegalSet}

-- ---- a legal text says its set
pub legal-says : (n a e : ℕ) (src : Bytes) → n ≤ 999 → a ≤ e → e ≤ length src → LegalSet n (slice a e src) → Says n src a e (times_in n (slice a e src))
legal-says n a e src h l w c = go (parsed (slice a e src)) refl
  where
    go : (o : Outcome) → parsed (slice a e src) ≡ o → Says n src a e (times_in n (slice a e src))
    go refused f = clash (sym (sym (legal-text n (slice a e src) h) ∙ c) ∙ ap (fits n) f)
    go (accepted s) f =
        let x = text-parse (slice a e src) s f in
        let u : subset s (up_to n) ≡ true = sym (ap (fits n) f) ∙ sym (legal-text n (slice a e src) h) ∙ c in
        record {
          ordered = l;
          within = w;
          short = omega (arith, length-slice a e src w, ap length x.0, text-short s);
          set = s;
          is = f;
          only = λ v q. let y = x.1 v q in (y.0, (only-up-to n v (subset-tells s (up_to n) u v (omega (arith, y.1)) q)).1);
          listed-is = sym (legal-set n (slice a e src) h s f);
        }

-- ---- its text, and that with version n + 1
module _ {n : ℕ} {src : Bytes} {a e : ℕ} {t : Times} (x : Says n src a e t) where
  pub says-text : n ≤ 999 → slice a e src ≡ write_times t
  says-text h = (text-parse (slice a e src) x.set x.is).0 ∙ text-listed n x.set h x.only ∙ ap write_times x.listed-is

  pub says-more : n ≤ 998 → text_of (adding (n + 1) x.set) ≡ write_times (t ++ true ∷ [])
  says-more h =
      ap (λ i. text_of (adding i x.set)) (add-one n)
      ∙ text-listed (suc n) (adding (suc n) x.set) (omega arith) (only-adding n x.set x.only)
      ∙ ap write_times (listed-adding n x.set ∙ ap (λ l. l ++ true ∷ []) x.listed-is)

  pub says-set : IsSetTo n (slice a e src)
  says-set = record { s = x.set; is = x.is; only = x.only }

pub newest-text : (n : ℕ) (s : ℕ → Bool) → n ≤ 998 → s ≡ adding (n + 1) empty_set → text_of s ≡ write_times (only_after n)
newest-text n s h e =
    ap text_of (e ∙ ap (λ i. adding i empty_set) (add-one n)) ∙ text-listed (suc n) (adding (suc n) empty_set) (omega arith) (only-adding n empty_set (only_none n)) ∙ ap write_times (listed-newest n)

-- a part of a text, as it is lent
pub part_slice : (a e : ℕ) (l : Bytes) → a ≤ e → take (e - a) (drop a l) ≡ slice a e l
part_slice a e l h = let z : a + (e - a) ≡ e = omega arith in sym (slice-part a (e - a) l) ∙ ap (λ x. slice a x l) z

-- ---- the pieces of a `T`
module _ {out mid far left : List ℕ} {at a b r : ℕ} where
  pub wrote-times : (s : ℕ → Bool) → Wrote out at (bytes "<T t=\"") a mid → Wrote mid a (text_of s) b far → Wrote far b (bytes "\">") r left
      → Wrote out at (opening false (text_of s)) r left × (r ≤ at + 3008)
  unfolding opening bytes
  wrote-times s x y z = (wrote_then x (wrote_then y z), omega (arith, x.place, y.place, z.place, text-short s))

  pub wrote-timed : (s : Bytes) (f : Forest) → Wrote out at (opening false s) a mid → Wrote mid a (write f) b far → Wrote far b (bytes "</T>") r left
      → Wrote out at (write (stamp s f end)) r left
  unfolding opening bytes write
  wrote-timed s f x y z = rw append-nil (wrote_then (wrote_then x y) z)

pub wrote-newest : {out left : List ℕ} {at r : ℕ} (n : ℕ) (s : ℕ → Bool) (f : Forest) → n ≤ 998 → s ≡ adding (n + 1) empty_set → Wrote out at (write (stamp (text_of s) f end)) r left
    → Wrote out at (write (newest n f end)) r left
unfolding newest
wrote-newest n s f h e x = rw (newest-text n s h e) at x

-- ---- the text of a changed set is short
pub change-short : {to v : ℕ} {tail : Tail} {g : (ℕ → Bool) → ℕ → Bool} (l : Bytes) (s : ℕ → Bool) → parsed l ≡ accepted s → Changes l g v to tail → to + length (tail_text tail v) ≤ 3000
change-short {to} {v} {tail} {g} l s f c =
    omega (arith, text-short (g s), ap length (c.becomes s f) ∙ length-append (take to l) (tail_text tail v), length-take-le to l c.inside)

-- ---- the text of a changed set, where the set's own is a part of a text
pub changed-text : {to v : ℕ} {tail : Tail} {g : (ℕ → Bool) → ℕ → Bool} (a e : ℕ) (src : Bytes) (s : ℕ → Bool) → a ≤ e → e ≤ length src → parsed (slice a e src) ≡ accepted s
    → Changes (slice a e src) g v to tail → text_of (g s) ≡ slice a (a + to) src ++ tail_text tail v
changed-text {to} {v} {tail} a e src s l w f c =
    let m : to ≤ e - a = omega (arith, c.inside, length-slice a e src w) in
    let y : take to (slice a e src) ≡ slice a (a + to) src = ap (take to) (sym (part_slice a e src l)) ∙ take-take to (e - a) (drop a src) m ∙ sym (slice-part a to src) in
    c.becomes s f ∙ ap (λ t. t ++ tail_text tail v) y

-- ---- the sets of all versions
pub up-to-holds : {words : List ℕ} (n : ℕ) → set_of words ≡ up_to n → Holds n words (always n)
up-to-holds {words} n e = record { only = subst (Only n) (sym e) (only-up-to n); listed-is = ap (listed n) e ∙ listed-up-to n }

pub up-to-text : (n : ℕ) (s : ℕ → Bool) → n ≤ 998 → s ≡ up_to (n + 1) → text_of s ≡ write_times (always (suc n))
up-to-text n s h e = ap text_of (e ∙ ap up_to (add-one n)) ∙ text-up-to (suc n) (omega arith)
