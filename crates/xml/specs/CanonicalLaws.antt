-- The panel's answer, case by case.
use Rattle.std.specs.Prelude.{ℕ, ◌^◌, ◌<◌, ◌≤◌, ◌≡◌, Bool, List, length, replicate, Result, Ok, Err}
use Rattle.std.proofs.Math.Path.{refl}
use Rattle.std.proofs.Common.{ap, sym, ◌∙◌, arith}
use Rattle.std.proofs.Math.Bool.{true, false}
use borrow.Author.Tests.{lt-ltb, le-ltb, ltb-false}
use Rattle.std.proofs.Math.Dec.{ltb}
use Rattle.xml.specs.Bytes.{Bytes}
use Rattle.xml.specs.Forest.{Forest, write}
use Rattle.xml.specs.Over.{over}
use Rattle.xml.specs.Read.{Outcome, whole, broken, read}
use Rattle.xml.specs.Tape.{Valid}
use Rattle.xml.specs.Fits.{version-fits}
use Rattle.xml.specs.State.{Filled, Refused}
use Rattle.xml.specs.Canonical.{canon_error, canon_number, canon_value, form_of, form_out, read_of, read_out, canonical_of, canonical_out, canonical_tape}
use Rattle.xml.specs.declared.ReadError.{ReadError}
use Rattle.xml.specs.declared.ReadError.TheVariants.{Wrong as ReadWrong, Full}
use Rattle.xml.specs.declared.panel.CanonError.{CanonError}
use Rattle.xml.specs.declared.panel.CanonError.TheVariants.{Long, Narrow, Wrong, Short}

-- what the writer of a forest's form answers and leaves in the output
abbrev pub Formed : Forest → List ℕ → Result ℕ CanonError → List ℕ → Type 0
Formed f out r left = ((canon_number r, canon_value r) ≡ form_of f (length out)) × (left ≡ form_out f out)

-- the same of a text that is read
abbrev pub FormRead : Bytes → List ℕ → Result ℕ CanonError → List ℕ → Type 0
FormRead s out r left = ((canon_number r, canon_value r) ≡ read_of (read false s) (length out)) × (left ≡ read_out (read false s) out)

-- the same of any text, with what is left on the tape
abbrev pub Answered : Bytes → List ℕ → List ℕ → Result ℕ CanonError → List ℕ → List ℕ → Type 0
Answered s tape out r left cells =
    ((canon_number r, canon_value r) ≡ canonical_of s (length tape) (length out)) × (left ≡ canonical_out s (length tape) out)
    × (cells ≡ canonical_tape s tape)

-- ---- a forest's form
module _ (f : Forest) (out : List ℕ) (n : ℕ) (is : n ≡ length (write f)) where
  pub form-short : length out < n → Formed f out (Err Short) out
  unfolding canon_number canon_value form_of form_out
  form-short h =
      let t : ltb (length out) (length (write f)) ≡ true = lt-ltb (length out) (length (write f)) (omega arith) in
      (rw (t, form_of) refl, rw (t, form_out) refl)

  pub form-done : n ≤ length out → (left : List ℕ) → left ≡ over out (write f) → Formed f out (Ok n) left
  unfolding canon_number canon_value form_of form_out
  form-done h left w =
      let t : ltb (length out) (length (write f)) ≡ false = le-ltb (length out) (length (write f)) (omega arith) in
      (rw (t, form_of) (ap (λ (x : ℕ). (0, x)) is), rw (t, form_out) w)

-- ---- a text's
module _ (s : Bytes) (out : List ℕ) where
  pub read-wrong : (p : ℕ) → read false s ≡ broken p → FormRead s out (Err (Wrong p)) out
  unfolding canon_number canon_value read_of read_out
  read-wrong p e = rw e (refl, refl)

  pub read-refused : (cells : List ℕ) (e : ReadError) → Refused false s cells e → length s ≤ length cells → FormRead s out (Err (canon_error e)) out
  read-refused cells (ReadWrong p) g h = read-wrong p g
  read-refused cells Full g h = absurd (omega (arith, g.0, h))

  pub read_whole : (f : Forest) (r : Result ℕ CanonError) (left : List ℕ) → read false s ≡ whole f → Formed f out r left → FormRead s out r left
  unfolding read_of read_out
  read_whole f r left e g = rw e g

module _ (s : Bytes) (tape out : List ℕ) where
  pub answer-long : 16384 < length s → Answered s tape out (Err Long) out tape
  unfolding canon_number canon_value canonical_of canonical_out canonical_tape
  answer-long h = rw (lt-ltb 16384 (length s) h, canonical_of, canonical_out, canonical_tape) (refl, refl, refl)

  module _ (l : length s ≤ 16384) where
    pub answer-narrow : length tape < length s → Answered s tape out (Err Narrow) out tape
    unfolding canon_number canon_value canonical_of canonical_out canonical_tape
    answer-narrow h = rw (le-ltb 16384 (length s) l, lt-ltb (length tape) (length s) h, canonical_of, canonical_out, canonical_tape) (refl, refl, refl)

    pub answer-read : (r : Result ℕ CanonError) (left cells : List ℕ) → length s ≤ length tape → FormRead s out r left → cells ≡ replicate (length tape) 0
        → Answered s tape out r left cells
    unfolding canonical_of canonical_out canonical_tape
    answer-read r left cells h g e =
        rw (le-ltb 16384 (length s) l, le-ltb (length tape) (length s) h, canonical_of, canonical_out, canonical_tape) (g.0, g.1, e)

-- what the form asks
pub filled-few : {s : Bytes} {before cells : List ℕ} {n : ℕ} → Filled false s before cells n → length s ≤ 16384 → Valid s cells 0 n × (n ≤ 2 ^ 32)
filled-few {s} g l =
    (record { forest = g.forest; tape = g.tape }, omega (arith, g.count, version-fits false s g.forest g.is))

-- the form lies within the output
form-fits : (f : Forest) (room n : ℕ) → form_of f room ≡ (0, n) → n ≤ room
unfolding form_of
form-fits f room n = at (ltb room (length (write f))) refl
  where
    at : (x : Bool) → ltb room (length (write f)) ≡ x → ◌≡◌ {A = ℕ × ℕ} (elim x [ true ↦ (14, 0) | false ↦ (0, length (write f)) ]) (0, n) → n ≤ room
    at true t e = let z : ◌≡◌ {A = ℕ} 14 0 = ap (λ x. x.0) e in absurd (omega arith)
    at false t e = let z : length (write f) ≡ n = ap (λ x. x.1) e in omega (arith, ltb-false room (length (write f)) t)

pub done-fits : (s : Bytes) (cells room n : ℕ) (r : Result ℕ CanonError) → r ≡ Ok n → (canon_number r, canon_value r) ≡ canonical_of s cells room → n ≤ room
unfolding canon_number canon_value canonical_of read_of
done-fits s cells room n r d h = at (ltb 16384 (length s)) (ltb cells (length s)) (read false s) (sym h ∙ rw d refl)
  where
    at : (x y : Bool) (o : Outcome)
        → ◌≡◌ {A = ℕ × ℕ} (elim x [ true ↦ (2, 0) | false ↦ elim y [ true ↦ (1, 0) | false ↦ read_of o room ] ]) (0, n) → n ≤ room
    at true y o e = let z : ◌≡◌ {A = ℕ} 2 0 = ap (λ x. x.0) e in absurd (omega arith)
    at false true o e = let z : ◌≡◌ {A = ℕ} 1 0 = ap (λ x. x.0) e in absurd (omega arith)
    at false false (broken p) e = let z : ◌≡◌ {A = ℕ} 5 0 = ap (λ x. x.0) e in absurd (omega arith)
    at false false (whole f) e = form-fits f room n e
