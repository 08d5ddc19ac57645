-- Tags at a place of a text: a law for each answer of the scanner.
use Prim.Native.Char.{code}
use Prim.Native.Nat.{ℕ, ◌+◌, ◌-◌, ◌≤◌}
use mathlib.Core.Path.{◌≡◌, ap, ap₂, sym, ◌∙◌, subst}
use mathlib.Core.Bool.{Bool, true, false, ◌&&◌}
use native.Mathlib.Nat.{add-zero}
use native.Mathlib.Omega.{arith}
use borrow.Author.Tests.{eqb-true}
use lib.Dec.{eqb}
use lib.ListN.{length, take, drop, get_or, length-drop}
use lib.Seq.{slice, get_or-drop, drop-drop}
use Rattle.xml.specs.Bytes.{Bytes, bytes}
use Rattle.xml.specs.Forest.{Forest}
use Rattle.xml.specs.Read.{common, name_len, times_len, Stack, start_tag}
use Rattle.xml.specs.TapeLaws.{slice-part}
use Rattle.xml.specs.ScanLaws.{name_len-fits, times_len-fits, common-fits}
use Rattle.xml.specs.StepLaws.{in-range}
use Rattle.xml.specs.Truth.{and_left, and_right}
use Rattle.xml.specs.Tokens.{StartRead, TimesRead, EndNamed, timed_by, start_none, start-opens, start-lone, start-slash, begins_times, start-timed, start-other, times-off, times-open, times-shut, end-off, end-open, end-shut}
use Rattle.std.specs.Prelude.{Result, Ok, Err}
use Rattle.xml.specs.declared.Start.TheVariants.{Opens, Lone}

-- ---- a start tag after its `<`, with times or not
begins-at : (a : Bool) (src : Bytes) (at : ℕ) → begins_times a (get_or (drop at src) 0 0) (get_or (drop at src) 1 0) ≡ begins_times a (get_or src at 0) (get_or src (at + 1) 0)
begins-at a src at = ap₂ (begins_times a) (get_or-drop at src 0 0 ∙ ap (λ (i : ℕ). get_or src i 0) (add-zero at)) (get_or-drop at src 1 0)

pub times-begun : (a : Bool) (src : Bytes) (at : ℕ) → begins_times a (get_or src at 0) (get_or src (at + 1) 0) ≡ true → at + 1 ≤ length src
times-begun a src at e =
    let t = eqb (get_or src at 0) (code "T") in
    let s = eqb (get_or src (at + 1) 0) (code " ") in
    omega (arith, in-range src at 83 (eqb-true (get_or src at 0) (code "T") (and_left t s (and_right a (t && s) e))))

pub times-here : (a : Bool) (src : Bytes) (at : ℕ) → begins_times a (get_or src at 0) (get_or src (at + 1) 0) ≡ true → (r : Result ℕ ℕ) → TimesRead (drop (at + 1) src) r →
    (st : Stack) (f : Forest) → start_tag a st f (drop at src) ≡ timed_by st f (drop 1 (drop at src)) r
times-here a src at e r h =
    start-timed a (drop at src) (begins-at a src at ∙ e) r (subst (λ (s : Bytes). TimesRead s r) (sym (drop-drop 1 at src)) h)

-- ---- a start tag after its `<`: its name has n bytes
module _ (a : Bool) (src : Bytes) (at : ℕ) (inn : at ≤ length src) {n : ℕ} (len : n ≡ name_len (drop at src)) where
  pub name_in_lem : at + n ≤ length src
  name_in_lem = omega (arith, name_len-fits (drop at src), length-drop at src)

  pub none_here : n ≡ 0 → StartRead a (drop at src) (Err 1)
  none_here z = start_none a (drop at src) len z

  module _ {b : ℕ} (is : b ≡ get_or src (at + n) 0) (some : n ≡ 0 → ⊥) where
    first : get_or (drop at src) n 0 ≡ b
    first = get_or-drop at src n 0 ∙ sym is

    pub opens-here : b ≡ code ">" → StartRead a (drop at src) (Ok (Opens n))
    opens-here e = start-opens a (drop at src) len some (first ∙ e)

    module _ (more : b ≡ code ">" → ⊥) where
      module _ {d : ℕ} (after : d ≡ get_or src (at + n + 1) 0) (slash : b ≡ code "/") where
        second : get_or (drop at src) (1 + n) 0 ≡ d
        second =
            let e : at + (1 + n) ≡ at + n + 1 = omega arith in
            get_or-drop at src (1 + n) 0 ∙ ap (λ (i : ℕ). get_or src i 0) e ∙ sym after

        pub lone-here : d ≡ code ">" → StartRead a (drop at src) (Ok (Lone n))
        lone-here e = start-lone a (drop at src) len some (λ x. more (sym first ∙ x)) (first ∙ slash) (second ∙ e)

        pub slash-here : (d ≡ code ">" → ⊥) → StartRead a (drop at src) (Err (2 + n))
        slash-here e = start-slash a (drop at src) len some (λ x. more (sym first ∙ x)) (first ∙ slash) (λ x. e (sym second ∙ x))

      pub other-here : (b ≡ code "/" → ⊥) → begins_times a (get_or src at 0) (get_or src (at + 1) 0) ≡ false → StartRead a (drop at src) (Err (1 + n))
      other-here bare e = start-other a (drop at src) len some (λ x. more (sym first ∙ x)) (λ x. bare (sym first ∙ x)) (begins-at a src at ∙ e)

-- ---- an archive's start tag after its `<T`
module _ (src : Bytes) (at : ℕ) (inn : at ≤ length src) {m : ℕ} (is : m ≡ common (bytes " t=\"") (drop at src)) where
  pub word_in : at + m ≤ length src
  word_in = omega (arith, common-fits (bytes " t=\"") (drop at src), length-drop at src)

  pub word-off : (m ≡ 4 → ⊥) → TimesRead (drop at src) (Err (2 + m))
  word-off z = times-off (drop at src) is z

  module _ (whole : m ≡ 4) {n : ℕ} (len : n ≡ times_len (drop (at + 4) src)) where
    pub times-in : at + 4 + n ≤ length src
    times-in = omega (arith, times_len-fits (drop (at + 4) src), length-drop (at + 4) src, word_in)

    module _ {e : ℕ} (shut : e ≡ common (bytes "\">") (drop (at + 4 + n) src)) where
      pub shut-in : at + 4 + n + e ≤ length src
      shut-in = omega (arith, common-fits (bytes "\">") (drop (at + 4 + n) src), length-drop (at + 4 + n) src, times-in)

      len' : n ≡ times_len (drop 4 (drop at src))
      len' = len ∙ ap times_len (sym (drop-drop 4 at src))

      shut' : e ≡ common (bytes "\">") (drop n (drop 4 (drop at src)))
      shut' = shut ∙ ap (common (bytes "\">")) (sym (drop-drop n (at + 4) src) ∙ ap (drop n) (sym (drop-drop 4 at src)))

      pub times-open-here : (e ≡ 2 → ⊥) → TimesRead (drop at src) (Err (6 + n + e))
      times-open-here z = times-open (drop at src) is len' shut' whole z

      pub times-shut-here : e ≡ 2 → TimesRead (drop at src) (Ok n)
      times-shut-here z = times-shut (drop at src) is len' shut' whole z

-- ---- an end tag after its `</`
module _ (name src : Bytes) (at : ℕ) (inn : at ≤ length src) {m : ℕ} (is : m ≡ common name (drop at src)) where
  pub agreed-in : at + m ≤ length src
  agreed-in = omega (arith, common-fits name (drop at src), length-drop at src)

  pub end-off-here : (m ≡ length name → ⊥) → EndNamed name (drop at src) (Err m)
  end-off-here z = end-off name (drop at src) is z

  module _ {b : ℕ} (after : b ≡ get_or src (at + m) 0) (whole : m ≡ length name) where
    pub end-open-here : (b ≡ code ">" → ⊥) → EndNamed name (drop at src) (Err m)
    end-open-here z = end-open name (drop at src) is whole (λ x. z (after ∙ sym (get_or-drop at src m 0) ∙ x))

    pub end-shut-here : b ≡ code ">" → EndNamed name (drop at src) (Ok m)
    end-shut-here z = end-shut name (drop at src) is whole (get_or-drop at src m 0 ∙ sym after ∙ z)

-- a lent part of the text
pub part-is : (start end : ℕ) (l : Bytes) → start ≤ end → take (end - start) (drop start l) ≡ slice start end l
part-is start end l h =
    let e : start + (end - start) ≡ end = omega arith in
    sym (slice-part start (end - start) l) ∙ ap (λ (x : ℕ). slice start x l) e
