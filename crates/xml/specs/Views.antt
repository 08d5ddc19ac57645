-- What the two cells of a node say.
use Rattle.std.specs.Prelude.{ℕ, ◌-◌, ◌%◌, Bool, ◌&&◌, List, eqb}
use Rattle.xml.specs.Tape.{head_at, next_at, start_in, end_in}
use Rattle.xml.specs.declared.tape.View.{View}

abbrev pub view_at : List ℕ → ℕ → View
view_at cells p = record { start = start_in (head_at cells p); end = end_in (head_at cells p); kind = head_at cells p % 4; next = next_at cells p }

-- the nodes lo to hi are one run of text and nothing else
unfoldable pub is_run : List ℕ → ℕ → ℕ → Bool
is_run cells lo hi = eqb (hi - lo) 1 && eqb (head_at cells lo % 4) 0
