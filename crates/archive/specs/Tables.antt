-- The entries of the firmware, for demand 3 of the code: the 608 bytes that an entry leaves are those of the table that the call leaves.
use Rattle.std.specs.Prelude.{ℕ, ◌≡◌, refl, List, [], eqb, length, replicate}
use Rattle.std.proofs.Common.{sym, ◌∙◌, ap, lit≤, eqb-true}
use Rattle.std.proofs.lemmas.Bool.{eqb-false}
use Rattle.xml.specs.Bytes.{Bytes}
use Rattle.xml.specs.Truth.{by-test}
use Rattle.marks.specs.Marks.{entries, table_bytes, table_in, marks_compute}
use Rattle.marks.specs.Promises.{table-back}
use Rattle.versions.specs.Calls.{Marked, set_mark, find_mark, step_back, step_back_to_mark, table_left}
use Rattle.versions.proofs.CallsKept.{back-kept, back-to-mark-kept, set-kept}
use Rattle.versions.proofs.MarkLaws.{LeavesMarks, back-leaves, back-to-mark-leaves, set-leaves, find-nothing}
use Rattle.archive.specs.Giving.{ToldMarked}
use Rattle.archive.specs.Entries.{ToldTable, ToldFound}
use Rattle.archive.specs.Runs.{Returns}

-- a run of the entries begins with 608 zero bytes: a table of unused entries
pub zero-bytes : table_in (replicate 608 0) ≡ entries []
unfolding marks_compute
zero-bytes = refl

-- of a call that was lent the table of the bytes s, and leaves it where it is refused
table-left : (s : Bytes) (m : Marked) (bytes : Bytes) → LeavesMarks m → ((m.answer.number ≡ 0 → ⊥) → m.table ≡ table_in s) → bytes ≡ table_left m s → table_in bytes ≡ m.table
unfolding table_left
table-left s m bytes l k e = by-test (eqb m.answer.number 0)
    (λ t.
    let q = l (eqb-true m.answer.number 0 t) in
    ap table_in (e ∙ rw (t, table_left) refl) ∙ ap (λ z. table_in (table_bytes z)) q.2 ∙ table-back 999 q.0 (lit≤ tt) q.1 ∙ sym q.2)
    (λ t. ap table_in (e ∙ rw (t, table_left) refl) ∙ sym (k (eqb-false m.answer.number 0 t)))

module _ (keys archive s : Bytes) where
  module _ {out : List ℕ} {number size : ℕ} {left : List ℕ} {bytes : Bytes} where
    pub back-told : (i : ℕ) → ToldTable (step_back keys archive (table_in s) i (length out) 16384) out s number size left bytes
        → ToldMarked (step_back keys archive (table_in s) i (length out) 16384) out number size left (table_in bytes)
    back-told i t = record {
      told = t.told;
      table_is = table-left s _ bytes (back-leaves keys archive (table_in s) i (length out) 16384) (back-kept keys archive (table_in s) (length out) 16384 i) t.bytes-are;
    }

    pub back-to-mark-told : (name : Bytes) → ToldTable (step_back_to_mark keys archive (table_in s) name (length out) 16384) out s number size left bytes
        → ToldMarked (step_back_to_mark keys archive (table_in s) name (length out) 16384) out number size left (table_in bytes)
    back-to-mark-told name t = record {
      told = t.told;
      table_is = table-left s _ bytes (back-to-mark-leaves keys archive (table_in s) name (length out) 16384) (back-to-mark-kept keys archive (table_in s) (length out) 16384 name) t.bytes-are;
    }

  pub set_told : (name : Bytes) (i : ℕ) {number size : ℕ} {bytes : Bytes} → ToldTable (set_mark keys archive (table_in s) name i 16384) [] s number size [] bytes
      → Returns (set_mark keys archive (table_in s) name i 16384).answer (record { cells = 16384; number = number; size = size })
      × (table_in bytes ≡ (set_mark keys archive (table_in s) name i 16384).table)
  set_told name i {bytes = bytes} t = (
    (t.told.number_is, t.told.size_is),
    table-left s _ bytes (set-leaves keys archive (table_in s) name i 16384) (set-kept keys archive (table_in s) name i 16384) t.bytes-are,
  )

  pub find-told : (name : Bytes) {number version size : ℕ} → ToldFound (find_mark keys archive (table_in s) name 16384) number version size
      → Returns (find_mark keys archive (table_in s) name 16384).answer (record { cells = 16384; number = number; size = size })
      × (version ≡ (find_mark keys archive (table_in s) name 16384).version)
  find-told name f = ((f.number_is, f.size_is ∙ sym (ap length (find-nothing keys archive (table_in s) name 16384))), f.version-is)
