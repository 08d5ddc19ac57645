-- The reader's state: how what it holds stands to the definition of reading, and what each of its functions says.
use Rattle.std.specs.Prelude.{ℕ, ◌+◌, ◌*◌, ◌<◌, ◌≤◌, ◌≡◌, Bool, List, length, drop, get_or, set, Result, Ok, Err}
use Prim.Native.Char.{code}
use Rattle.xml.specs.Bytes.{Bytes}
use Rattle.xml.specs.Forest.{Forest}
use Rattle.xml.specs.Read.{Stack, whole, broken, step, start_tag, go, read}
use Rattle.xml.specs.Tape.{Tape, size}
use Rattle.xml.specs.Held.{Held}
use Rattle.xml.specs.declared.ReadError.{ReadError}
use Rattle.xml.specs.declared.ReadError.TheVariants.{Wrong, Full}
use Rattle.xml.specs.declared.reader.Progress.{Progress}

-- a run of text stands after a tag: there the nodes so far have left a byte
abbrev pub Spare : Bytes → ℕ → ℕ → ℕ → Type 0
Spare src at count top = 0 < top → at < length src → (get_or src at 0 ≡ code "<" → ⊥) → 2 * count + 1 ≤ at

-- reading has come to `at`, and goes on from what is held to the text's answer
pub record Reading (a : Bool) (src : Bytes) (cells : List ℕ) (at count top : ℕ) : Type 0 where
  pub stack : Stack
  pub forest : Forest
  pub held : Held src cells stack forest top count
  pub answer : read a src ≡ go a stack forest at 0 (drop at src)
  pub within : at ≤ length src
  pub few : 2 * count ≤ at
  pub spare : Spare src at count top
  pub short : length src ≤ 32768
  pub room : 2 * count ≤ length cells

-- a byte stands at `at`
pub record Here (a : Bool) (src : Bytes) (cells : List ℕ) (at count top : ℕ) : Type 0 where
  pub reading : Reading a src cells at count top
  pub here : at < length src

-- a run of text begins at `at`, in an open node
pub record Running (a : Bool) (src : Bytes) (cells : List ℕ) (at count top : ℕ) : Type 0 where
  pub reading : Reading a src cells at count top
  pub here : at < length src
  pub inner : 0 < top
  pub other : get_or src at 0 ≡ code "<" → ⊥

-- an end tag begins at `at`, in an open node
pub record Ending (a : Bool) (src : Bytes) (cells : List ℕ) (at count top : ℕ) : Type 0 where
  pub reading : Reading a src cells at count top
  pub here : at < length src
  pub inner : 0 < top
  pub less : get_or src at 0 ≡ code "<"
  pub slash : get_or src (at + 1) 0 ≡ code "/"

-- a start tag is to be read, whose `<` stands at `at`
pub record Opening (a : Bool) (src : Bytes) (cells : List ℕ) (at count top : ℕ) : Type 0 where
  pub reading : Reading a src cells at count top
  pub here : at < length src
  pub starts : step a reading.stack reading.forest (drop at src) ≡ start_tag a reading.stack reading.forest (drop (at + 1) src)

-- the cells from node n on are as they were
abbrev pub Untouched : List ℕ → List ℕ → ℕ → Type 0
Untouched before cells n = (i : ℕ) → 2 * n ≤ i → get_or cells i 0 ≡ get_or before i 0

-- the tape has less than a cell a byte; and whatever forest the text has, it has more nodes than fit
abbrev pub Overfull : Bool → Bytes → List ℕ → Type 0
Overfull a src cells = (length cells < length src) × ((f : Forest) → read a src ≡ whole f → length cells < 2 * size f)

-- why reading stopped: at a wrong byte, or for want of room
abbrev pub Refused : Bool → Bytes → List ℕ → ReadError → Type 0
Refused a src cells (Wrong p) = read a src ≡ broken p
Refused a src cells Full = Overfull a src cells

-- the two cells of a new node were written, and the reader goes on at `at` with `top` open; or there is no room for them
pub record Noted (before : List ℕ) (count head next at top : ℕ) (cells : List ℕ) (r : Result Progress ReadError) : Type 0 where
  pub fits : 2 * count + 1 < length before → (r ≡ Ok (record { at = at; count = count + 1; top = top })) × (cells ≡ set (set before (2 * count) head) (2 * count + 1) next)
  pub over : length before < 2 * count + 2 → (r ≡ Err Full) × (cells ≡ before)

-- a step went on
pub record Went (a : Bool) (src : Bytes) (before : List ℕ) (at count : ℕ) (cells : List ℕ) (p n top : ℕ) : Type 0 where
  pub reading : Reading a src cells p n top
  pub later : at < p
  pub more : count ≤ n
  pub untouched : Untouched before cells n

-- what a step from `at` and `count` says
abbrev pub Stepped : Bool → Bytes → List ℕ → ℕ → ℕ → List ℕ → Result Progress ReadError → Type 0
Stepped a src before at count cells (Ok p) = Went a src before at count cells p.at p.count p.top
Stepped a src before at count cells (Err e) = Refused a src cells e

-- the text was read: its forest stands on the tape, and nothing else has changed
pub record Filled (a : Bool) (src : Bytes) (before cells : List ℕ) (n : ℕ) : Type 0 where
  pub forest : Forest
  pub is : read a src ≡ whole forest
  pub tape : Tape src cells 0 n forest
  pub count : n ≡ size forest
  pub untouched : Untouched before cells n

-- what the reader answers
abbrev pub Replied : Bool → Bytes → List ℕ → List ℕ → Result ℕ ReadError → Type 0
Replied a src before cells (Ok n) = Filled a src before cells n
Replied a src before cells (Err e) = Refused a src cells e
