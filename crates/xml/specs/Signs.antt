-- A run of text by its raw bytes: what is meant first, and how many bytes at the start are written as they stand.
use Rattle.std.specs.Prelude.{ℕ, suc, ◌+◌, Bool, true, false, ◌||◌, [], ◌∷◌, eqb, get_or, Result, Ok, Err}
use Prim.Native.Char.{code}
use Rattle.xml.specs.Bytes.{Bytes}
use Rattle.xml.specs.Forest.{escape}
use Rattle.xml.specs.Read.{entity_at, unescape}
use Rattle.xml.specs.declared.text.Sign.{Sign}

-- what a run of raw bytes is written as
abbrev pub spelt : Bytes → Bytes
spelt raw = escape (unescape 0 raw)

-- a byte that begins an entity or a line end, or is written as an entity; any other is written as it stands
unfoldable pub is_marked : ℕ → Bool
is_marked b = eqb b (code "&") || eqb b (code "<") || eqb b (code ">") || eqb b (code "\r")

-- how many bytes at the start are written as they stand
unfoldable pub plain_len : Bytes → ℕ
plain_len [] = 0
plain_len (b ∷ s) = elim (is_marked b) [ true ↦ 0 | false ↦ suc (plain_len s) ]

-- at the place i stands an `&`, with o after it
abbrev pub sign_found : ℕ → ℕ → Result (ℕ × ℕ) ℕ → Sign
sign_found i b (Ok (n, c)) = record { byte = c; next = i + 1 + n }
sign_found i b (Err n) = record { byte = b; next = i + 1 }

-- at the place i stands a CR, with s after it
abbrev pub sign_return : ℕ → Bytes → Sign
sign_return i s = record { byte = code "\n"; next = elim (eqb (get_or s 0 0) (code "\n")) [ true ↦ i + 2 | false ↦ i + 1 ] }

-- the run s stands at the place i
unfoldable pub sign_at : ℕ → Bytes → Sign
sign_at i [] = record { byte = 0; next = i }
sign_at i (b ∷ s) = elim (eqb b (code "&")) [ true ↦ sign_found i b (entity_at s) | false ↦ elim (eqb b (code "\r")) [ true ↦ sign_return i s | false ↦ record { byte = b; next = i + 1 } ] ]
