-- Adding a version, part by part: a sibling of the archive by itself, what becomes of it, and what siblings a program can add to.
use Rattle.std.specs.Prelude.{ℕ, ◌+◌, ◌-◌, ◌≤◌, ◌≡◌, Bool, true, false, ◌&&◌, List, [], ◌∷◌, ◌++◌, length}
use Rattle.std.proofs.Math.Option.{Option, none, some}
use Rattle.std.proofs.Math.Seq.{slice}
use Rattle.xml.specs.Bytes.{Bytes}
use Rattle.xml.specs.Forest.{Forest, end, elem, text, stamp}
use Rattle.xml.specs.Tape.{next_at, Node, Tape}
use Rattle.xml.specs.TapeLaws.{opening, closing}
use Rattle.model.specs.Orders.{labels}
use Rattle.keys.specs.KeyList.{Path, KeyList, above, key_names_at}
use Rattle.keys.specs.Version.{◌▸◌, Label}
use Rattle.keys.specs.Legal.{untimed}
use Rattle.keys.specs.Labelled.{has_keys}
use Rattle.keys.specs.Ranks.{rank}
use Rattle.timestamp.specs.Times.{Times, write_times}
use Rattle.timestamp.specs.Set.{set_of}
use Rattle.timestamp.specs.Listed.{listed, Only}
use Rattle.timestamp.specs.Parse.{accepted, parsed}
use Rattle.versions.specs.Walk.{times_in, canonical, ever, add_content, add_in}

-- the words hold the presence list t of n versions
pub record Holds (n : ℕ) (words : List ℕ) (t : Times) : Type 0 where
  pub only : Only n (set_of words)
  pub listed-is : listed n (set_of words) ≡ t

-- the text src[a..e] is that of a set of n versions, with the presence list t
pub record Says (n : ℕ) (src : Bytes) (a e : ℕ) (t : Times) : Type 0 where
  pub ordered : a ≤ e
  pub within : e ≤ length src
  pub short : e - a ≤ 3000
  pub set : ℕ → Bool
  pub is : parsed (slice a e src) ≡ accepted set
  pub only : Only n set
  pub listed-is : listed n set ≡ t

-- ---- a sibling: the element m, which holds k, bare or in a `T` with its own text
abbrev pub sibling : Option Bytes → Bytes → Forest → Forest
sibling none m k = elem m k end
sibling (some s) m k = stamp s (elem m k end) end

-- its set, in a parent that stands in the versions t
abbrev pub set_in : ℕ → Times → Option Bytes → Times
set_in n t none = t
set_in n t (some s) = times_in n s

-- what becomes of it where the version lacks it, and where the version has it too, so that it holds x now
abbrev pub old_part : Times → Option Bytes → Bytes → Forest → Forest
old_part t none m k = stamp (write_times t) (elem m k end) end
old_part t (some s) m k = stamp s (elem m k end) end

abbrev pub both_part : ℕ → Option Bytes → Bytes → Forest → Forest
both_part n none m x = elem m x end
both_part n (some s) m x = stamp (write_times (times_in n s ++ true ∷ [])) (elem m x end) end

-- the tags of its `T` then
abbrev pub opened : Times → Option Bytes → Bytes
opened t none = []
opened t (some s) = opening false (write_times (t ++ true ∷ []))

abbrev pub closed : Option Bytes → Bytes
closed none = []
closed (some s) = closing false []

-- what an element of path q that stands in the versions t and holds f comes to hold, if it holds v in version n + 1
unfoldable pub inside : KeyList → ℕ → Path → Times → Forest → Forest → Forest
inside K n q t f v = elim (above K q) [ true ↦ add_in K n q t f v | false ↦ add_content n t v f ]

-- how a label compares with the next one of the version: 0 before it, or there is none, 1 the same, 2 after it
abbrev pub order_of : Label → Option Label → ℕ
order_of l none = 0
order_of l (some j) = rank (labels.cmp l j)

-- ---- what a program can add to
abbrev pub LegalSet : ℕ → Bytes → Type 0
LegalSet n s = (canonical n s && ever (times_in n s)) ≡ true

abbrev pub SetOf : ℕ → Option Bytes → Type 0
SetOf n none = Unit {0}
SetOf n (some s) = LegalSet n s

-- contents in their `T`s
pub data BranchesIn (n : ℕ) : Forest → Type 0 where
  no-branch : BranchesIn n end
  branch : {s : Bytes} {k r : Forest} → LegalSet n s → BranchesIn n r → BranchesIn n (stamp s k r)

-- what a frontier holds
abbrev pub FrontIn : ℕ → Forest → Type 0
FrontIn n end = Unit {0}
FrontIn n (text b r) = Unit {0}
FrontIn n (elem m k r) = Unit {0}
FrontIn n (stamp s k r) = BranchesIn n (stamp s k r)

-- siblings in an element of path p
pub data SiblingsIn (K : KeyList) (n : ℕ) : Path → Forest → Type 0 where
  no-sibling : {p : Path} → SiblingsIn K n p end
  bare : {p : Path} {m : Bytes} {k r : Forest} → has_keys (key_names_at K (p ▸ m)) k ≡ true → (above K (p ▸ m) ≡ true → SiblingsIn K n (p ▸ m) k)
      → (above K (p ▸ m) ≡ false → FrontIn n k) → SiblingsIn K n p r → SiblingsIn K n p (elem m k r)
  timed : {p : Path} {s m : Bytes} {k r : Forest} → LegalSet n s → has_keys (key_names_at K (p ▸ m)) k ≡ true → (above K (p ▸ m) ≡ true → SiblingsIn K n (p ▸ m) k)
      → (above K (p ▸ m) ≡ false → FrontIn n k) → SiblingsIn K n p r → SiblingsIn K n p (stamp s (elem m k end) r)

-- and of a version
pub data VersionIn (K : KeyList) : Path → Forest → Type 0 where
  no-element : {p : Path} → VersionIn K p end
  element : {p : Path} {m : Bytes} {k r : Forest} → untimed (elem m k end) ≡ true → has_keys (key_names_at K (p ▸ m)) k ≡ true
      → (above K (p ▸ m) ≡ true → VersionIn K (p ▸ m) k) → VersionIn K p r → VersionIn K p (elem m k r)

-- ---- on the tape
-- where the element of the sibling at p is
abbrev pub place_in : Option Bytes → ℕ → ℕ
place_in none p = p
place_in (some s) p = p + 1

abbrev pub Outer : List ℕ → List ℕ → ℕ → Option Bytes → Type 0
Outer src cells p none = Unit {0}
Outer src cells p (some s) = Node src cells p 2 s

-- node p is this sibling
pub record At (src cells : List ℕ) (p : ℕ) (o : Option Bytes) (m : Bytes) (k : Forest) : Type 0 where
  pub here : Tape src cells p (next_at cells p) (sibling o m k)
  pub outer : Outer src cells p o
  pub node : Node src cells (place_in o p) 1 m
  pub inner : Tape src cells (place_in o p + 1) (next_at cells (place_in o p)) k
  pub ends : next_at cells (place_in o p) ≡ next_at cells p
