-- Where a line's parts stand in the text.
use Prim.Native.Nat.{ℕ, ◌+◌, ◌≤◌}
use native.Mathlib.Omega.{arith}
use mathlib.Core.Path.{◌≡◌, ◌∙◌, ap}
use mathlib.Core.List.{[], ◌∷◌, ◌++◌}
use lib.ListN.{length, drop}
use lib.Seq.{slice}
use Rattle.xml.specs.Bytes.{Bytes, bytes, join_by}
use Rattle.keys.specs.KeyList.{write_context}
use Rattle.keys.specs.Rows.{Row}
use Rattle.keys.specs.LineRead.{LineIs}
use Rattle.keys.proofs.RowMade.{part-there, row-names, row-context}
use Rattle.keys.proofs.LineScanLaws.{past, past_one}
use Rattle.keys.proofs.LoadCells.{name-32}

module _ {text : Bytes} {at c m e : ℕ} (l : LineIs text at c m e) where
  from_keys : Bytes
  from_keys = join_by (bytes ", ") l.key.key_names ++ 125 ∷ 41 ∷ 41 ∷ 10 ∷ drop (e + 4) text

  start : at + 1 ≤ length text
  start = omega (arith, l.context-ends, l.name-ends, l.names-end, l.within)

  to-context : drop (at + 1) text ≡ write_context l.key.context ++ 44 ∷ 32 ∷ 40 ∷ (l.key.name ++ 44 ∷ 32 ∷ 123 ∷ from_keys)
  unfolding from_keys
  to-context = past_one at 40 text (write_context l.key.context ++ 44 ∷ 32 ∷ 40 ∷ (l.key.name ++ 44 ∷ 32 ∷ 123 ∷ from_keys)) l.is

  to-name : drop (c + 3) text ≡ l.key.name ++ 44 ∷ 32 ∷ 123 ∷ from_keys
  to-name =
      let x = past (at + 1) text (write_context l.key.context) (44 ∷ 32 ∷ 40 ∷ (l.key.name ++ 44 ∷ 32 ∷ 123 ∷ from_keys)) to-context in
      past c text (44 ∷ 32 ∷ 40 ∷ []) (l.key.name ++ 44 ∷ 32 ∷ 123 ∷ from_keys) (ap (λ (z : ℕ). drop z text) l.context-ends ∙ x)

  to-keys : drop (m + 1 + 2) text ≡ from_keys
  to-keys =
      let x = past (c + 3) text l.key.name (44 ∷ 32 ∷ 123 ∷ from_keys) to-name in
      let z : m + 1 + 2 ≡ c + 3 + length l.key.name + 3 = omega (arith, l.name-ends) in
      ap (λ (z : ℕ). drop z text) z ∙ past (c + 3 + length l.key.name) text (44 ∷ 32 ∷ 123 ∷ []) from_keys x

  pub context-then : (s : Bytes) × (drop (at + 1) text ≡ write_context l.key.context ++ 44 ∷ s)
  context-then = (32 ∷ 40 ∷ (l.key.name ++ 44 ∷ 32 ∷ 123 ∷ from_keys), to-context)

  pub context-row : Row 1 text c (at + 1) l.key.context
  context-row = row-context text c (at + 1) l.key.context (32 ∷ 40 ∷ (l.key.name ++ 44 ∷ 32 ∷ 123 ∷ from_keys)) l.key-noted.context-names start to-context l.context-ends

  pub context-part : slice (at + 1) c text ≡ write_context l.key.context
  context-part =
      ap (λ (z : ℕ). slice (at + 1) z text) l.context-ends
      ∙ part-there (at + 1) text (write_context l.key.context) (44 ∷ 32 ∷ 40 ∷ (l.key.name ++ 44 ∷ 32 ∷ 123 ∷ from_keys)) start to-context

  pub keys-row : Row 2 text e (m + 1) l.key.key_names
  unfolding from_keys
  keys-row =
      row-names text e (m + 1) l.key.key_names (41 ∷ 41 ∷ 10 ∷ drop (e + 4) text) l.key-noted.key-named (omega (arith, l.names-end, l.within)) to-keys
      (omega (arith, l.names-end))

  pub name-part : slice (c + 3) m text ≡ l.key.name
  name-part =
      ap (λ (z : ℕ). slice (c + 3) z text) l.name-ends
      ∙ part-there (c + 3) text l.key.name (44 ∷ 32 ∷ 123 ∷ from_keys) (omega (arith, l.name-ends, l.names-end, l.within)) to-name

  pub name-bounds : (c + 3 ≤ m) × (m ≤ length text) × (m ≤ c + 3 + 32)
  name-bounds = (omega (arith, l.name-ends), omega (arith, l.names-end, l.within), omega (arith, l.name-ends, name-32 l.key.name l.key-noted.name-named))
