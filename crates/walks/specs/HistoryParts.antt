-- The walk of a history down the steps of an address: what its functions ask and answer.
use Rattle.std.specs.Borrow.{Bor}
use Rattle.std.specs.Prelude.{Option, MatchOption, ℕ, ◌+◌, ◌%◌, ◌<◌, ◌≤◌, ◌≡◌, refl, true, false, List, [], eqb, length}
use Rattle.std.proofs.Common.{arith, eq-eqb, ne_eqb}
use Rattle.std.proofs.Math.Seq.{slice, length-slice}
use Rattle.xml.specs.Bytes.{Bytes}
use Rattle.xml.specs.Forest.{Forest}
use Rattle.xml.specs.Truth.{bool_by}
use Rattle.xml.specs.TapeLaws.{bytes_at}
use Rattle.xml.specs.Tape.{head_at, start_in, end_in, Tape}
use Rattle.keys.specs.Result.{ok}
use Rattle.keys.specs.KeyList.{Path, KeyList}
use Rattle.keys.specs.Version.{◌▸◌, Label, name_in}
use Rattle.keys.specs.Address.{address}
use Rattle.keys.specs.AddressParts.{StepAs, ParsedAs}
use Rattle.keys.specs.Table.{Table}
use Rattle.keys.specs.declared.address.Parsed.{Parsed}
use Rattle.timestamp.specs.Times.{Times}
use Rattle.versions.specs.Walk.{siblings_legal, forest_legal, history_forest}
use Rattle.versions.specs.HistoryTape.{element_at, near_at, Reached, StepAt}

-- the nodes lo to hi are legal siblings, and a step of the address s is one of an element among them
pub record StepSought (text : Bytes) (table : List ℕ) (n : ℕ) (s : Bytes) (name place : ℕ) (values src cells : List ℕ) (lo hi : ℕ) : Type 0 where
  pub key_list : KeyList
  pub path : Path
  pub tabled : Table text table n key_list
  pub step : Label
  pub step_is : StepAs key_list s step (path ▸ name_in step) name place values
  pub versions : ℕ
  pub times : Times
  pub siblings : Forest
  pub tape : Tape src cells lo hi siblings
  pub legal : siblings_legal key_list versions path times siblings ≡ true

-- r is the sibling with the label of the step, whatever they are
abbrev pub OfStep : Bytes → List ℕ → ℕ → Bytes → ℕ → ℕ → List ℕ → List ℕ → List ℕ → ℕ → ℕ → (KeyList → ℕ → Path → Label → Times → Forest → Type 0) → Type 0
OfStep text table n s name place values src cells lo hi P =
    (K : KeyList) (m : ℕ) (q : Path) (l : Label) (t : Times) (f : Forest) → Table text table n K → StepAs K s l (q ▸ name_in l) name place values
    → Tape src cells lo hi f → siblings_legal K m q t f ≡ true → P K m q l t f

abbrev pub StepFound : Bytes → List ℕ → ℕ → Bytes → ℕ → ℕ → List ℕ → List ℕ → List ℕ → ℕ → ℕ → Option ℕ → Type 0
StepFound text table n s name place values src cells lo hi r =
    MatchOption r (OfStep text table n s name place values src cells lo hi (λ K m q l t f. StepAt src cells K m q l hi f hi))
    (λ p. OfStep text table n s name place values src cells lo hi (λ K m q l t f. Reached src cells K m q l f p))

-- the text of a node has less than 32,768 bytes
pub short-part : (src : Bytes) (x : ℕ) → end_in x ≤ length src → length (slice (start_in x) (end_in x) src) ≤ 32767
short-part src x w = let e = length-slice (start_in x) (end_in x) src w in omega (arith, e)

pub element-most : (cells : List ℕ) (p : ℕ) → element_at cells p ≤ p + 1
unfolding element_at
element-most cells p = bool_by (λ t. elim t as (λ _. ℕ) [ true ↦ p + 1 | false ↦ p ] ≤ p + 1) (eqb (head_at cells p % 4) 2) (λ _. omega arith) (λ _. omega arith)

module _ (src cells : List ℕ) (p : ℕ) (around : Bytes) where
  pub near-timed : head_at cells p % 4 ≡ 2 → bytes_at src cells p ≡ near_at src cells p around
  unfolding near_at
  near-timed h = rw (near_at, eq-eqb (head_at cells p % 4) 2 h) refl

  pub near-bare : (head_at cells p % 4 ≡ 2 → ⊥) → around ≡ near_at src cells p around
  unfolding near_at
  near-bare h = rw (near_at, ne_eqb (head_at cells p % 4) 2 h) refl

-- an accepted address, and a legal archive on the tape
pub record HistoryAsked (text : Bytes) (table : List ℕ) (n : ℕ) (s : Bytes) (steps : Parsed) (values : List (List ℕ)) (src cells : List ℕ) (count : ℕ) : Type 0 where
  pub key_list : KeyList
  pub tabled : Table text table n key_list
  pub parsed : ParsedAs key_list s steps values
  pub some-step : 0 < steps.count
  pub forest : Forest
  pub tape : Tape src cells 0 count forest
  pub legal : forest_legal key_list forest ≡ true

-- what is said of the history of the address, whatever the key list, the address and the archive are
abbrev pub OfHistory : Bytes → List ℕ → ℕ → Bytes → List ℕ → List ℕ → ℕ → (Bytes → Type 0) → Type 0
OfHistory text table n s src cells count P =
    (K : KeyList) (f : Forest) (ls : List Label) → Table text table n K → Tape src cells 0 count f → address K s ≡ ok ls → P (history_forest K ls f)

-- the history w is this text, or it is empty
abbrev pub AroundIs : Bytes → Option (Bor Bytes) → Type 0
AroundIs w r = MatchOption r (w ≡ []) (λ x. (x.now ≡ w) × (length x.now ≤ 32767))
