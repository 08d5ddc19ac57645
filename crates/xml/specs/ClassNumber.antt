-- The classes of bytes as numbers: the formula that gives them, and what a number says of a byte.
use Rattle.std.specs.Prelude.{ℕ, ◌≡◌, refl, Bool, true, false, ◌||◌, eqb, leb}
use Prim.Native.Char.{code}
use Rattle.std.proofs.Common.{◌∙◌, sym}
use Rattle.xml.specs.Bytes.{among, within, is_letter, is_digit, class_of, is_white, is_start, is_name_byte, is_legal}
use Rattle.xml.specs.declared.class.ByteClass.{ByteClass}
use Rattle.xml.specs.declared.class.ByteClass.TheVariants.{Illegal, White, Start, Other, Markup, Plain}
use Rattle.xml.specs.ByteTests.{white-apart, white-is, start_is, name-is}
use Rattle.xml.specs.GrammarLaws.{class_by}
use Rattle.xml.specs.Truth.{clash}

-- "illegal, white space, name start, other name byte, markup (`<`, `&`), other text"
unfoldable pub class_number : ByteClass → ℕ
class_number Illegal = 0
class_number White = 1
class_number Start = 2
class_number Other = 3
class_number Markup = 4
class_number Plain = 5

legal-class : (c : ByteClass) → elim c [ Illegal ↦ false | White ↦ true | Start ↦ true | Other ↦ true | Markup ↦ true | Plain ↦ true ] ≡ leb 1 (class_number c)
unfolding class_number
legal-class Illegal = refl
legal-class White = refl
legal-class Start = refl
legal-class Other = refl
legal-class Markup = refl
legal-class Plain = refl

pub legal-number : (b : ℕ) → is_legal b ≡ leb 1 (class_number (class_of b))
unfolding is_legal
legal-number b = legal-class (class_of b)

-- ---- the formula: name start, name byte, white space, markup and 0x20 to 0x7E, asked one after the other
abbrev pub class_asked : Bool → Bool → Bool → Bool → Bool → ByteClass
class_asked n d w m p =
    elim n [
      | true ↦ Start
      | false ↦ elim d [ true ↦ Other | false ↦ elim w [ true ↦ White | false ↦ elim m [ true ↦ Markup | false ↦ elim p [ true ↦ Plain | false ↦ Illegal ] ] ] ]
    ]

asked_is : (w n d m p : Bool) → (w ≡ true → (n || d) ≡ false) → class_by w n d m p ≡ class_asked n (n || d) w m p
asked_is true true d m p h = clash (h refl)
asked_is true false true m p h = clash (h refl)
asked_is true false false m p h = refl
asked_is false true d m p h = refl
asked_is false false true m p h = refl
asked_is false false false true p h = refl
asked_is false false false false true h = refl
asked_is false false false false false h = refl

pub class_is : (b : ℕ) → class_of b ≡ class_asked (is_start b) (is_name_byte b) (is_white b) (among "<&" b) (within 0x20 0x7E b)
unfolding class_of
class_is b =
    asked_is (among "\t\n\r " b) (is_letter b || eqb b (code "_")) (is_digit b || among ".-" b) (among "<&" b) (within 0x20 0x7E b) (white-apart b)
    ∙ rw (← name-is b, ← start_is b, ← white-is b)

-- c is the class of b
module _ (b : ℕ) {c : ByteClass} (is : c ≡ class_of b) where
  pub legal-yes : (c ≡ Illegal → ⊥) → is_legal b ≡ true
  unfolding is_legal
  legal-yes e = at c e is
    where
      at : (c : ByteClass) → (c ≡ Illegal → ⊥) → c ≡ class_of b → elim (class_of b) [ Illegal ↦ false | White ↦ true | Start ↦ true | Other ↦ true | Markup ↦ true | Plain ↦ true ] ≡ true
      at Illegal e i = absurd (e refl)
      at White e i = rw (sym i)
      at Start e i = rw (sym i)
      at Other e i = rw (sym i)
      at Markup e i = rw (sym i)
      at Plain e i = rw (sym i)

  pub legal-no : c ≡ Illegal → is_legal b ≡ false
  unfolding is_legal
  legal-no e = rw (sym is ∙ e, is_legal)
