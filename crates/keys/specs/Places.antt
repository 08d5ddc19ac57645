-- What the functions over a key list's table read from it.
use Rattle.std.specs.Prelude.{ℕ, ◌+◌, Bool, true, false, ◌&&◌, List, eqb}
use Rattle.std.proofs.Math.Seq.{slice}
use Rattle.xml.specs.Bytes.{Bytes, same}
use Rattle.keys.specs.Table.{name_start, name_end, parent_in}
use Rattle.keys.specs.declared.places.Part.{Part}

-- where the name of the path number q stands
abbrev pub part_at : List ℕ → ℕ → Part
part_at cells q = record { start = name_start cells q; end = name_end cells q }

-- the path number i is below the place, with this name
abbrev pub is_child_at : Bytes → List ℕ → ℕ → ℕ → Bytes → Bool
is_child_at text cells i place name = eqb (parent_in cells i) place && same name (slice (name_start cells i) (name_end cells i) text)

-- the first number that a path below the place can have
abbrev pub first_below : ℕ → ℕ
first_below place = elim (eqb place 128) [ true ↦ 0 | false ↦ place + 1 ]
