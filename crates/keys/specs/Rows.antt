-- Names in a row in a text, each d bytes after the one before it: how a scanner meets a context (d = 1) and key names (d = 2).
use Rattle.std.specs.Prelude.{ℕ, ◌+◌, ◌<◌, ◌≤◌, ◌≡◌, List, [], ◌∷◌, length, drop}
use Rattle.std.proofs.Math.Seq.{slice}
use Rattle.xml.specs.Bytes.{Bytes}
use Rattle.xml.specs.Read.{name_len}

-- the names stand from i on, and end at e
pub data Row (d : ℕ) (text : Bytes) (e : ℕ) : ℕ → List Bytes → Type 0 where
  row-none : {i : ℕ} → i ≤ length text → e ≤ i + d → e ≤ length text → Row d text e i []
  row-name : {i : ℕ} {n : Bytes} {ns : List Bytes} → name_len (drop (i + d) text) ≡ length n → slice (i + d) (i + d + length n) text ≡ n → 0 < length n → i + d + length n ≤ e
      → Row d text e (i + d + length n) ns → Row d text e i (n ∷ ns)

pub record Rowed (d : ℕ) (text : Bytes) (e i : ℕ) : Type 0 where
  pub names : List Bytes
  pub row : Row d text e i names
