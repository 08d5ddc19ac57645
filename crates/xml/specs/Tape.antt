-- The tape: a forest in memory, two cells a node, in the order of the text. The first cell is start * 131072 + count * 4 + kind, of the
-- bytes of the text that name the node (an element's name, a timestamp, a run's raw bytes); the second is the number of the first node
-- after its subtree.
use Rattle.std.specs.Prelude.{ℕ, ◌+◌, ◌*◌, ◌/◌, ◌%◌, ◌<◌, ◌≤◌, ◌≡◌, List, length, get_or}
use Rattle.std.proofs.Math.Seq.{slice}
use Rattle.xml.specs.Bytes.{Bytes}
use Rattle.xml.specs.Forest.{Forest, end, elem, text, stamp, write}
use Rattle.xml.specs.Read.{unescape}
use Rattle.xml.specs.Over.{Wrote}

abbrev pub head_at : List ℕ → ℕ → ℕ
head_at cells p = get_or cells (2 * p) 0

abbrev pub next_at : List ℕ → ℕ → ℕ
next_at cells p = get_or cells (2 * p + 1) 0

abbrev pub start_in : ℕ → ℕ
start_in head = head / 131072

abbrev pub end_in : ℕ → ℕ
end_in head = head / 131072 + head / 4 % 32768

-- node p is of this kind (0 a run of text, 1 an element, 2 an archive's `T`), named by these bytes of the text
pub record Node (src cells : List ℕ) (p kind : ℕ) (bytes : Bytes) : Type 0 where
  pub held : 2 * p + 1 < length cells
  pub kind-is : head_at cells p % 4 ≡ kind
  pub within : end_in (head_at cells p) ≤ length src
  pub bytes-are : slice (start_in (head_at cells p)) (end_in (head_at cells p)) src ≡ bytes

-- nodes p up to q of the tape are the forest
pub data Tape (src cells : List ℕ) : ℕ → ℕ → Forest → Type 0 where
  at-end : {p q : ℕ} → p ≡ q → Tape src cells p q end
  at-text : {p q : ℕ} {raw b : Bytes} {r : Forest} → Node src cells p 0 raw → unescape 0 raw ≡ b → next_at cells p ≡ p + 1 → Tape src cells (p + 1) q r
      → Tape src cells p q (text b r)
  at-elem : {p q : ℕ} {n : Bytes} {k r : Forest} → Node src cells p 1 n → Tape src cells (p + 1) (next_at cells p) k
      → Tape src cells (next_at cells p) q r → Tape src cells p q (elem n k r)
  at-stamp : {p q : ℕ} {t : Bytes} {k r : Forest} → Node src cells p 2 t → Tape src cells (p + 1) (next_at cells p) k
      → Tape src cells (next_at cells p) q r → Tape src cells p q (stamp t k r)

-- how many nodes a tape has for a forest: every run, element and `T`
unfoldable pub size : Forest → ℕ
size end = 0
size (text b r) = 1 + size r
size (elem n k r) = 1 + size k + size r
size (stamp t k r) = 1 + size k + size r

-- the nodes lo to hi are a forest
pub record Valid (src cells : List ℕ) (lo hi : ℕ) : Type 0 where
  pub forest : Forest
  pub tape : Tape src cells lo hi forest

-- whichever forest the nodes are, that is written
abbrev pub Writes : List ℕ → List ℕ → ℕ → ℕ → List ℕ → ℕ → ℕ → List ℕ → Type 0
Writes src cells lo hi out at r left = (f : Forest) → Tape src cells lo hi f → Wrote out at (write f) r left
