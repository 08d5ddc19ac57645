-- What the functions that read an address answer: positions in its text, and the rest that a machine of AddressScan.antt reads on.
use Rattle.std.specs.Prelude.{Option as Maybe, None, Some, ℕ, zero, suc, ◌+◌, ◌/◌, ◌%◌, ◌<◌, ◌≤◌, ◌≡◌, true, false, List, [], ◌∷◌, map, leb, length, take, drop, get_or}
use Rattle.std.proofs.Math.Option.{Option, none, some}
use Rattle.std.proofs.Math.Path.{subst}
use Rattle.std.proofs.Math.Seq.{slice}
use Rattle.xml.specs.Bytes.{Bytes, bytes}
use Rattle.keys.specs.Result.{refused, ok, r12}
use Rattle.keys.specs.KeyList.{Path, KeyList, key_names_at}
use Rattle.keys.specs.Version.{◌▸◌, Label, name_in}
use Rattle.keys.specs.Address.{address}
use Rattle.keys.specs.Table.{place_of, Table}
use Rattle.keys.specs.AddressScan.{cut, after_open, condition, conditions, step_in}
use Rattle.keys.specs.declared.address.Conditions.{Conditions}
use Rattle.keys.specs.declared.address.Step.{Step}
use Rattle.keys.specs.declared.address.Parsed.{Parsed}

-- a position: start * 64 + length
abbrev pub end_of : ℕ → ℕ
end_of c = c / 64 + c % 64

-- the bytes at a position
abbrev pub piece : Bytes → ℕ → Bytes
piece s c = slice (c / 64) (end_of c) s

-- what stands from a place on; past the end there is nothing, not even the end
unfoldable pub from : Bytes → ℕ → Option Bytes
from s at = elim (leb at (length s)) [ true ↦ some (drop at s) | false ↦ none ]

unfoldable pub further : Bytes → Option Bytes → Option Bytes
further w none = none
further w (some s) = cut w s

-- what opens a step's condition number j
unfoldable pub opener : ℕ → Bytes
opener zero = bytes "["
opener (suc j) = bytes " and "

-- r is the place behind the word, if it stands at the place
pub record Skipped (s : Bytes) (at : ℕ) (w : Bytes) (r : ℕ) : Type 0 where
  pub within : r ≤ length s + 1
  pub rest : from s r ≡ further w (from s at)

-- the position of a value behind which a quote stands, if there is one
abbrev pub QuotedRead : Bytes → ℕ → Maybe ℕ → Type 0
QuotedRead s at None = after_open (from s at) ≡ none
QuotedRead s at (Some r) = (after_open (from s at) ≡ some (piece s r, drop (end_of r + 1) s)) × (end_of r < length s)

-- the position of a condition's value, if the condition stands there
abbrev pub ValueRead : Bytes → Bytes → Bytes → ℕ → Maybe ℕ → Type 0
ValueRead o k s at None = condition o k (drop at s) ≡ none
ValueRead o k s at (Some r) = (condition o k (drop at s) ≡ some (piece s r, drop (end_of r + 1) s)) × (end_of r < length s)

-- the label whose name and first c key values have these positions
abbrev pub label_at : Bytes → ℕ → ℕ → List ℕ → Label
label_at s c name values = piece s name ∷ map (piece s) (take c values)

-- all of the first c positions are in the text
abbrev pub Inside : Bytes → ℕ → List ℕ → Type 0
Inside s c values = (j : ℕ) → j < c → end_of (get_or values j 0) ≤ length s

-- the conditions of a path with these key names, from a place on
pub record ConditionsIn (ks : List Bytes) (s : Bytes) (at : ℕ) (r : Conditions) : Type 0 where
  pub right : conditions ks (drop at s) ≡ some (map (piece s) (take (length ks) r.values), drop r.next s)
  pub within : r.next ≤ length s
  pub inside : Inside s (length ks) r.values

abbrev pub ConditionsRead : List Bytes → Bytes → ℕ → Maybe Conditions → Type 0
ConditionsRead ks s at None = conditions ks (drop at s) ≡ none
ConditionsRead ks s at (Some r) = ConditionsIn ks s at r

-- the step below the path p, from a place on
pub record StepIn (K : KeyList) (p : Path) (s : Bytes) (at : ℕ) (r : Step) : Type 0 where
  pub right : step_in K p (drop at s) ≡ some (label_at s (length (key_names_at K (p ▸ piece s r.name))) r.name r.values, drop r.next s)
  pub place_is : r.place ≡ place_of K (p ▸ piece s r.name)
  pub within : r.next ≤ length s
  pub name-inside : end_of r.name ≤ length s
  pub inside : Inside s (length (key_names_at K (p ▸ piece s r.name))) r.values

abbrev pub StepRead : KeyList → Path → Bytes → ℕ → Maybe Step → Type 0
StepRead K p s at None = step_in K p (drop at s) ≡ none
StepRead K p s at (Some r) = StepIn K p s at r

-- ---- a parsed address
-- the path of step i and those above it
abbrev pub path_to : List Label → ℕ → Path
path_to ls i = map name_in (take (suc i) ls)

-- a step of the address s below which the path ends: its label, its place, and that all positions are in the text
pub record StepAs (K : KeyList) (s : Bytes) (l : Label) (path : Path) (name place : ℕ) (values : List ℕ) : Type 0 where
  pub label_is : l ≡ label_at s (length (key_names_at K path)) name values
  pub place_is : place ≡ place_of K path
  pub name-inside : end_of name ≤ length s
  pub values-inside : Inside s (length (key_names_at K path)) values

-- step i of the steps ls
abbrev pub StepIs : KeyList → Bytes → List Label → List ℕ → List ℕ → List (List ℕ) → ℕ → Type 0
StepIs K s ls names places values i = StepAs K s (get_or ls i []) (path_to ls i) (get_or names i 0) (get_or places i 0) (get_or values i [])

pub record Steps (K : KeyList) (s : Bytes) (r : Parsed) (values : List (List ℕ)) : Type 0 where
  pub steps : List Label
  pub accepted : address K s ≡ ok steps
  pub counted : length steps ≡ r.count
  pub step : (i : ℕ) → i < r.count → StepIs K s steps r.names r.places values i

-- the steps of the address, 8 at most
pub record ParsedAs (K : KeyList) (s : Bytes) (r : Parsed) (values : List (List ℕ)) : Type 0 where
  pub few : r.count ≤ 8
  pub accepted-as : 0 < r.count → Steps K s r values

-- the answer: none where the address is refused, else its steps
abbrev pub AddressParsed : KeyList → Bytes → Maybe Parsed → List (List ℕ) → Type 0
AddressParsed K s None values = address K s ≡ refused r12
AddressParsed K s (Some r) values = (0 < r.count) × ParsedAs K s r values

pub parsed-is : (K : KeyList) (s : Bytes) (values : List (List ℕ)) {x y : Maybe Parsed} → AddressParsed K s x values → x ≡ y → AddressParsed K s y values
parsed-is K s values p e = subst (λ (x : Maybe Parsed). AddressParsed K s x values) e p

-- what a function that is lent a key list's table asks
pub record Tabled (text : Bytes) (cells : List ℕ) (n : ℕ) : Type 0 where
  pub key_list : KeyList
  pub table : Table text cells n key_list

-- key name j of the path at a place
pub record Keyed (text : Bytes) (cells : List ℕ) (n place j : ℕ) : Type 0 where
  pub key_list : KeyList
  pub path : Path
  pub table : Table text cells n key_list
  pub place_is : place_of key_list path ≡ place
  pub key : j < length (key_names_at key_list path)
