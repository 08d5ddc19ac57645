-- What is read of a text: its numbers, if it is just their text and not empty.
use Rattle.std.specs.Prelude.{ℕ, Bool, true, false, not, ◌&&◌, Option, Some, None}
use Rattle.xml.specs.Bytes.{Bytes, is_empty, same}
use Rattle.timestamp.specs.Times.{belongs}
use Rattle.timestamp.specs.Set.{set_of, up_to}
use Rattle.timestamp.specs.Listed.{text_of}
use Rattle.timestamp.specs.declared.Timestamp.{Timestamp}

-- a text is refused, or accepted as a set's
pub data Outcome : Type 0 where
  refused : Outcome
  accepted : (ℕ → Bool) → Outcome

-- the numbers 1 to 999 that belong to a text
unfoldable pub numbers_in : Bytes → ℕ → Bool
numbers_in l v = up_to 999 v && belongs v l

unfoldable pub parsed : Bytes → Outcome
parsed l = elim (not (is_empty l) && same l (text_of (numbers_in l))) [ true ↦ accepted (numbers_in l) | false ↦ refused ]

-- what the code's answer says
abbrev pub pick_outcome : Bool → (ℕ → Bool) → Outcome
pick_outcome true s = accepted s
pick_outcome false s = refused

abbrev pub told : Option Timestamp → Outcome
told None = refused
told (Some t) = accepted (set_of t.words)

-- a set read into one that the caller lends: whether the text is a set's, and the set
pub record Parsed : Type 0 where
  pub ok : Bool
  pub stamp : Timestamp

abbrev pub outcome : Parsed → Outcome
outcome r = pick_outcome r.ok (set_of r.stamp.words)

abbrev pub read_as : Bool → Timestamp → Parsed
read_as b t = record { ok = b; stamp = t }
