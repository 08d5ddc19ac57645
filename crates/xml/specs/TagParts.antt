-- A tag by its raw bytes: its attributes by the places where they stand, and in ascending order of their names.
use Rattle.std.specs.Prelude.{ℕ, ◌+◌, Bool, true, false, ◌&&◌, ◌||◌, List, [], ◌∷◌, eqb, length, drop, get_or}
use Prim.Native.Char.{code}
use Rattle.std.proofs.Math.Seq.{slice}
use Rattle.xml.specs.Bytes.{Bytes, keep, same}
use Rattle.xml.specs.Tags.{Attr, attr, attr_name, escape_value, less, sort, until, parts}
use Rattle.xml.specs.Read.{unescape}
use Rattle.xml.specs.TagLaws.{Tag}
use Rattle.xml.specs.declared.tag.Part.{Part}

-- what stands in a start tag
abbrev pub IsTag : Bytes → Type 0
IsTag raw = Tag false raw

-- the attribute whose `=` stands at the place e
abbrev pub part_from : Bytes → ℕ → Part
part_from s e = record { equals = e; end = e + 2 + until (get_or s (e + 1) 0) (drop (e + 2) s) }

-- the attribute whose space stands at the place i
unfoldable pub part_at : Bytes → ℕ → Part
part_at s i = part_from s (i + 1 + until (code "=") (drop (i + 1) s))

-- its name, and the bytes between its quotes
abbrev pub attr_in : Bytes → ℕ → Part → Attr
attr_in s i g = attr (slice (i + 1) g.equals s) (slice (g.equals + 2) g.end s)

abbrev pub attr_at : Bytes → ℕ → Attr
attr_at s i = attr_in s i (part_at s i)

-- what the bytes between its quotes are written as
abbrev pub quoted : Bytes → Bytes
quoted raw = escape_value (unescape 0 raw)

-- two attributes mean the same
unfoldable pub alike : Attr → Attr → Bool
alike (attr n v) (attr m w) = same n m && same (unescape 0 v) (unescape 0 w)

-- ---- by ascending names
-- those whose names come after `low`
unfoldable pub above : Bytes → List Attr → List Attr
above low l = keep (λ x. less low (attr_name x)) l

-- the name n comes after `low`, and before that of the attribute at the place `best`, if one stands there
unfoldable pub is_nearer : Bytes → Bytes → ℕ → Bytes → Bool
is_nearer s low best n = less low n && (eqb best (length s) || less n (attr_name (attr_at s best)))

-- the place `best`; or i, where an attribute of the name n stands that is nearer
unfoldable pub nearer_of : Bytes → Bytes → ℕ → ℕ → Bytes → ℕ
nearer_of s low best i n = elim (is_nearer s low best n) [ true ↦ i | false ↦ best ]

-- the attribute at the place i and those after it, by ascending names; at the tag's end there is none
unfoldable pub sorted_from : Bytes → ℕ → List Attr
sorted_from s i = elim (eqb i (length s)) [ true ↦ [] | false ↦ attr_at s i ∷ sort (above (attr_name (attr_at s i)) (parts 0 s)) ]
