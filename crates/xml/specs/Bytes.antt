-- Byte strings: literals, tests, splitting at bytes, and the class of a byte.
use Rattle.std.specs.Prelude.{ℕ, ◌≡◌, refl, Bool, false, ◌&&◌, ◌||◌, eqb, leb, length, get_or}
use Prim.Native.Char.{code}
use Prim.Native.String.{String}
use Rattle.std.proofs.Math.Bool.{true, not}
use mathlib.Core.List.{List, [], ◌∷◌, ◌++◌}
use Rattle.xml.specs.declared.class.ByteClass.{ByteClass}
use Rattle.xml.specs.declared.class.ByteClass.TheVariants.{Illegal, White, Start, Other, Markup, Plain}

abbrev pub Bytes : Type 0
Bytes = List ℕ

-- the bytes of a text literal
unfoldable pub bytes : String → Bytes
bytes = elim [ String.[] ↦ [] | String.◌∷◌ c (s → r) ↦ code c ∷ r ]

-- ---- lists and tests
module _ {A : Type 0} where
  unfoldable pub any : (A → Bool) → List A → Bool
  any f [] = false
  any f (x ∷ xs) = f x || any f xs

  unfoldable pub all : (A → Bool) → List A → Bool
  all f [] = true
  all f (x ∷ xs) = f x && all f xs

  unfoldable pub keep : (A → Bool) → List A → List A
  keep f [] = []
  keep f (x ∷ xs) = elim (f x) [ true ↦ x ∷ keep f xs | false ↦ keep f xs ]

  unfoldable pub distinct : (A → A → Bool) → List A → Bool
  unfolding any
  distinct eq [] = true
  distinct eq (x ∷ xs) = not (any (eq x) xs) && distinct eq xs

  unfoldable pub same_by : (A → A → Bool) → List A → List A → Bool
  same_by eq [] [] = true
  same_by eq [] (y ∷ ys) = false
  same_by eq (x ∷ xs) [] = false
  same_by eq (x ∷ xs) (y ∷ ys) = eq x y && same_by eq xs ys

unfoldable pub same : Bytes → Bytes → Bool
same = same_by eqb

unfoldable pub is_empty : Bytes → Bool
is_empty [] = true
is_empty (b ∷ s) = false

unfoldable pub push : ℕ → List Bytes → List Bytes
push b [] = (b ∷ []) ∷ []
push b (w ∷ ws) = (b ∷ w) ∷ ws

-- the parts between the bytes that are separators: one more than there are separators
unfoldable pub split : (ℕ → Bool) → Bytes → List Bytes
split f [] = [] ∷ []
split f (b ∷ s) = elim (f b) [ true ↦ [] ∷ split f s | false ↦ push b (split f s) ]

-- the texts one after another, with c between two
unfoldable pub join_by : Bytes → List Bytes → Bytes
join_by c [] = []
join_by c (s ∷ []) = s
join_by c (s ∷ t ∷ ts) = s ++ c ++ join_by c (t ∷ ts)

unfoldable pub starts : Bytes → Bytes → Bool
starts [] s = true
starts (a ∷ p) [] = false
starts (a ∷ p) (b ∷ s) = eqb a b && starts p s

-- p stands somewhere in the text
unfoldable pub occurs : Bytes → Bytes → Bool
occurs p [] = starts p []
occurs p (b ∷ s) = starts p (b ∷ s) || occurs p s

-- ---- "Each byte has one class" (found in a table of 256 entries before Q-3, and by comparison since)
unfoldable pub among : String → ℕ → Bool
among s b = any (eqb b) (bytes s)

unfoldable pub within : ℕ → ℕ → ℕ → Bool
within lo hi b = leb lo b && leb b hi

unfoldable pub is_letter : ℕ → Bool
is_letter b = within (code "A") (code "Z") b || within (code "a") (code "z") b

unfoldable pub is_digit : ℕ → Bool
is_digit b = within (code "0") (code "9") b

-- "illegal, white space, name start, other name byte, markup (`<`, `&`), other text"
unfoldable pub class_of : ℕ → ByteClass
class_of b =
    elim (among "\t\n\r " b) [
      | true ↦ White
      | false ↦
          elim (is_letter b || eqb b (code "_")) [
            | true ↦ Start
            | false ↦
                elim (is_digit b || among ".-" b) [
                  | true ↦ Other
                  | false ↦
                      elim (among "<&" b) [
                        | true ↦ Markup
                        | false ↦
                            elim (within 0x20 0x7E b) [ true ↦ Plain | false ↦ Illegal ]
                      ]
                ]
          ]
    ]

unfoldable pub is_white : ℕ → Bool
is_white b = elim (class_of b) [ Illegal ↦ false | White ↦ true | Start ↦ false | Other ↦ false | Markup ↦ false | Plain ↦ false ]

unfoldable pub is_legal : ℕ → Bool
is_legal b = elim (class_of b) [ Illegal ↦ false | White ↦ true | Start ↦ true | Other ↦ true | Markup ↦ true | Plain ↦ true ]

-- a byte of text that stands for itself: legal and no markup
unfoldable pub is_character : ℕ → Bool
is_character b = elim (class_of b) [ Illegal ↦ false | White ↦ true | Start ↦ true | Other ↦ true | Markup ↦ false | Plain ↦ true ]

unfoldable pub is_start : ℕ → Bool
is_start b = elim (class_of b) [ Illegal ↦ false | White ↦ false | Start ↦ true | Other ↦ false | Markup ↦ false | Plain ↦ false ]

unfoldable pub is_name_byte : ℕ → Bool
is_name_byte b = elim (class_of b) [ Illegal ↦ false | White ↦ false | Start ↦ true | Other ↦ true | Markup ↦ false | Plain ↦ false ]

-- a byte that text may mean: legal, and no CR, which is read as LF
unfoldable pub is_meant : ℕ → Bool
is_meant b = is_legal b && not (eqb b (code "\r"))

-- XML 1.0 section 2.11, "translating both the two-character sequence #xD #xA and any #xD that is not followed by #xA to a single #xA":
-- a CR before an LF goes, any other CR is an LF
unfoldable pub line_ends : Bytes → Bytes
line_ends [] = []
line_ends (b ∷ s) =
    elim (eqb b (code "\r")) [
      | false ↦ b ∷ line_ends s
      | true ↦ elim (eqb (get_or s 0 0) (code "\n")) [ true ↦ line_ends s | false ↦ code "\n" ∷ line_ends s ]
    ]

-- "1 to 32 letters, digits, `.`, `-`, `_`": a key value
unfoldable pub is_value : Bytes → Bool
is_value s = leb 1 (length s) && leb (length s) 32 && all is_name_byte s

-- "A name is 1 to 32 bytes: a letter or `_`, then letters, digits, `.`, `-`, `_`."
unfoldable pub is_name : Bytes → Bool
is_name [] = false
is_name (b ∷ s) = is_start b && is_value (b ∷ s)

-- a byte of a timestamp's text: digits, `-` and `,`
unfoldable pub is_times : ℕ → Bool
is_times b = is_digit b || among "-," b

-- everything above computes where this is named on an `unfolding` line
unfoldable pub bytes_compute : Unit {0}
unfolding bytes any all keep distinct same_by same is_empty push split join_by starts occurs among within is_letter is_digit class_of is_white is_legal is_character is_start is_name_byte is_meant line_ends is_value is_name is_times
bytes_compute = tt

pub name-test : is_name (bytes "x.y-1") && not (is_name (bytes "1a")) && not (is_name (bytes "a b")) ≡ true
unfolding bytes_compute
name-test = refl
