-- The scanners of a line, as machines: how long a path is that stands at the start of a text, and where key names end.
use Rattle.std.specs.Prelude.{None, Option, Some, ℕ, zero, suc, ◌+◌, ◌≤◌, ◌≡◌, true, false, not, ◌&&◌, [], ◌∷◌, eqb, length, drop}
use Rattle.xml.specs.Bytes.{Bytes, bytes}
use Rattle.xml.specs.Read.{common, name_len}

-- the bytes of `/name/name..` at the start, the first k skipped
unfoldable pub path_run : ℕ → Bytes → ℕ
path_run k [] = 0
path_run (suc k) (b ∷ s) = suc (path_run k s)
path_run zero (b ∷ s) = elim (eqb b 47 && not (eqb (name_len s) 0)) [ true ↦ suc (path_run (name_len s) s) | false ↦ 0 ]

-- the path that stands after the byte at a place goes as far when its first names are passed, up to `from`
pub record Begun (text : Bytes) (at from : ℕ) : Type 0 where
  pub within : at + 1 ≤ length text → from ≤ length text
  pub run : at + 1 + path_run 0 (drop (at + 1) text) ≡ from + path_run 0 (drop from text)

-- the end of one to r names with `, ` between two, the first of them two bytes after i
unfoldable pub names_end : Bytes → ℕ → ℕ → Option ℕ
names_end text zero i = None
names_end text (suc r) i =
    elim (eqb (name_len (drop (i + 2) text)) 0) [
      | true ↦ None
      | false ↦
          elim (eqb (common (bytes ", ") (drop (i + 2 + name_len (drop (i + 2) text)) text)) 2) [
            | true ↦ names_end text r (i + 2 + name_len (drop (i + 2) text))
            | false ↦ Some (i + 2 + name_len (drop (i + 2) text))
          ]
    ]
