-- Bytes told by comparisons: which of the five tests of a class say white space and names, and the bytes of a text that stand for themselves.
use Rattle.std.specs.Prelude.{ℕ, ◌<◌, ◌≤◌, ◌≡◌, refl, Bool, true, false, ◌&&◌, ◌||◌, leb, Ok, Some}
use Prim.Native.Char.{code}
use Rattle.std.proofs.Common.{arith, sym, ◌∙◌}
use Rattle.std.proofs.Math.Path.{ap}
use Rattle.std.proofs.Math.Bool.{not}
use borrow.Author.Tests.{ne_eqb, le-leb, lt-leb, eqb-true, leb-true, leb-false}
use Rattle.std.proofs.Math.Dec.{eqb}
use Rattle.xml.specs.Bytes.{Bytes, bytes, any, class_of, among, within, is_letter, is_digit, is_white, is_legal, is_start, is_name_byte, bytes_compute}
use Rattle.xml.specs.declared.class.ByteClass.TheVariants.{Illegal, White, Start, Other, Markup, Plain}
use Rattle.xml.specs.Truth.{by-test, clash, and_left, and_right, or-first, or-second, neither}
use Rattle.xml.specs.GrammarLaws.{class_by}
use Rattle.xml.specs.Read.{text_byte}
use Rattle.xml.specs.TextLaws.{byte-other}

-- a byte after which a text goes on, whatever stands before it: white space, or 0x20 to 0x7E and none of `<`, `&`, `]`, `>`
unfoldable pub is_plain : ℕ → Bool
is_plain b = (among "\t\n\r " b || within 0x20 0x7E b) && not (among "<&]>" b)

-- ---- what the five tests of a class say of a byte
white-by : (w n d m p : Bool) →
    elim (class_by w n d m p) [ Illegal ↦ false | White ↦ true | Start ↦ false | Other ↦ false | Markup ↦ false | Plain ↦ false ] ≡ w
white-by true n d m p = refl
white-by false true d m p = refl
white-by false false true m p = refl
white-by false false false true p = refl
white-by false false false false true = refl
white-by false false false false false = refl

start-by : (w n d m p : Bool) → (w ≡ true → n ≡ false) →
    elim (class_by w n d m p) [ Illegal ↦ false | White ↦ false | Start ↦ true | Other ↦ false | Markup ↦ false | Plain ↦ false ] ≡ n
start-by true n d m p h = sym (h refl)
start-by false true d m p h = refl
start-by false false true m p h = refl
start-by false false false true p h = refl
start-by false false false false true h = refl
start-by false false false false false h = refl

name_by : (w n d m p : Bool) → (w ≡ true → (n || d) ≡ false) →
    elim (class_by w n d m p) [ Illegal ↦ false | White ↦ false | Start ↦ true | Other ↦ true | Markup ↦ false | Plain ↦ false ] ≡ (n || d)
name_by true n d m p h = sym (h refl)
name_by false true d m p h = refl
name_by false false true m p h = refl
name_by false false false true p h = refl
name_by false false false false true h = refl
name_by false false false false false h = refl

legal-by : (w n d m p : Bool) → (w || p) ≡ true →
    elim (class_by w n d m p) [ Illegal ↦ false | White ↦ true | Start ↦ true | Other ↦ true | Markup ↦ true | Plain ↦ true ] ≡ true
legal-by true n d m p e = refl
legal-by false true d m p e = refl
legal-by false false true m p e = refl
legal-by false false false true p e = refl
legal-by false false false false true e = refl
legal-by false false false false false e = e

special-by : (l a k g x : Bool) → (l || (a || false) || k || g || not x) ≡ not (x && not (l || (a || (k || (g || false)))))
special-by true a k g true = refl
special-by true a k g false = refl
special-by false true k g true = refl
special-by false true k g false = refl
special-by false false true g true = refl
special-by false false true g false = refl
special-by false false false true true = refl
special-by false false false true false = refl
special-by false false false false true = refl
special-by false false false false false = refl

-- ---- white space and names
module _ (b : ℕ) where
  white-none : 32 < b → among "\t\n\r " b ≡ false
  unfolding bytes_compute
  white-none h =
      rw (ne_eqb b (code "\t") (λ e. omega arith), ne_eqb b (code "\n") (λ e. omega arith), ne_eqb b (code "\r") (λ e. omega arith), ne_eqb b (code " ") (λ e. omega arith))

  white_low : among "\t\n\r " b ≡ true → b ≤ 32
  white_low e = by-test (leb b 32) (λ t. leb-true b 32 t) (λ t. clash (sym e ∙ white-none (leb-false b 32 t)))

  start_none : b ≤ 32 → (is_letter b || eqb b (code "_")) ≡ false
  unfolding bytes_compute
  start_none h = rw (lt-leb (code "A") b (omega arith), lt-leb (code "a") b (omega arith), ne_eqb b (code "_") (λ e. omega arith))

  other_none : b ≤ 32 → (is_digit b || among ".-" b) ≡ false
  unfolding bytes_compute
  other_none h = rw (lt-leb (code "0") b (omega arith), ne_eqb b (code ".") (λ e. omega arith), ne_eqb b (code "-") (λ e. omega arith))

  -- no byte of a name is white space
  pub white-apart : among "\t\n\r " b ≡ true → (is_letter b || eqb b (code "_") || (is_digit b || among ".-" b)) ≡ false
  white-apart e = neither (start_none (white_low e)) (other_none (white_low e))

  pub white-is : is_white b ≡ among "\t\n\r " b
  unfolding is_white class_of
  white-is = white-by (among "\t\n\r " b) (is_letter b || eqb b (code "_")) (is_digit b || among ".-" b) (among "<&" b) (within 0x20 0x7E b)

  pub start_is : is_start b ≡ (is_letter b || eqb b (code "_"))
  unfolding is_start class_of
  start_is =
      start-by (among "\t\n\r " b) (is_letter b || eqb b (code "_")) (is_digit b || among ".-" b) (among "<&" b) (within 0x20 0x7E b)
      (λ e. start_none (white_low e))

  pub name-is : is_name_byte b ≡ (is_letter b || eqb b (code "_") || (is_digit b || among ".-" b))
  unfolding is_name_byte class_of
  name-is =
      name_by (among "\t\n\r " b) (is_letter b || eqb b (code "_")) (is_digit b || among ".-" b) (among "<&" b) (within 0x20 0x7E b)
      white-apart

  pub small-named : within 0x61 0x7A b ≡ true → is_name_byte b ≡ true
  unfolding is_letter
  small-named e =
      let l = or-second (within (code "A") (code "Z") b) (within (code "a") (code "z") b) e in
      name-is ∙ or-first (is_letter b || eqb b (code "_")) (is_digit b || among ".-" b) (or-first (is_letter b) (eqb b (code "_")) l)

-- ---- plain bytes
module _ (b : ℕ) where
  pub plain-digit : is_digit b ≡ true → is_plain b ≡ true
  unfolding is_plain bytes_compute
  plain-digit e =
      let l = leb-true (code "0") b (and_left (leb (code "0") b) (leb b (code "9")) e) in
      let h = leb-true b (code "9") (and_right (leb (code "0") b) (leb b (code "9")) e) in
      rw (white-none b (omega arith), le-leb 0x20 b (omega arith), le-leb b 0x7E (omega arith), ne_eqb b (code "<") (λ z. omega arith), ne_eqb b (code "&") (λ z. omega arith), ne_eqb b (code "]") (λ z. omega arith), ne_eqb b (code ">") (λ z. omega arith))

  plain-lt : b ≡ code "<" → is_plain b ≡ false
  unfolding is_plain bytes_compute
  plain-lt e = rw e

  plain-amp : b ≡ code "&" → is_plain b ≡ false
  unfolding is_plain bytes_compute
  plain-amp e = rw e

  pub plain-markup : among "<&" b ≡ true → is_plain b ≡ false
  unfolding bytes any among
  plain-markup e =
      by-test (eqb b (code "<")) (λ t. plain-lt (eqb-true b (code "<") t))
      (λ t. by-test (eqb b (code "&")) (λ u. plain-amp (eqb-true b (code "&") u)) (λ u. clash (sym (rw (t, u) at e))))

  plain-bracket : b ≡ code "]" → is_plain b ≡ false
  unfolding is_plain bytes_compute
  plain-bracket e = rw e

  plain-greater : b ≡ code ">" → is_plain b ≡ false
  unfolding is_plain bytes_compute
  plain-greater e = rw e

  plain-legal : is_plain b ≡ true → is_legal b ≡ true
  unfolding is_plain is_legal class_of
  plain-legal e =
      legal-by (among "\t\n\r " b) (is_letter b || eqb b (code "_")) (is_digit b || among ".-" b) (among "<&" b) (within 0x20 0x7E b)
      (and_left (among "\t\n\r " b || within 0x20 0x7E b) (not (among "<&]>" b)) e)

  -- the bytes that are not plain
  pub special-is : (among "<&" b || eqb b (code "]") || eqb b (code ">") || not (is_white b || within 0x20 0x7E b)) ≡ not (is_plain b)
  unfolding is_plain bytes any among
  special-is =
      ap (λ (w : Bool). among "<&" b || eqb b (code "]") || eqb b (code ">") || not (w || within 0x20 0x7E b)) (white-is b)
      ∙ special-by (eqb b (code "<")) (eqb b (code "&")) (eqb b (code "]")) (eqb b (code ">")) (among "\t\n\r " b || within 0x20 0x7E b)

-- a text goes on after a plain byte
pub plain-next : (q b : ℕ) (s : Bytes) → is_plain b ≡ true → text_byte q b s ≡ Ok (Some (0, 0))
plain-next q b s e =
    byte-other q b s true (λ h. clash (sym e ∙ plain-lt b h)) (λ h. clash (sym e ∙ plain-amp b h)) (λ h. clash (sym e ∙ plain-bracket b h))
    (λ h. clash (sym e ∙ plain-greater b h)) (plain-legal b e)
