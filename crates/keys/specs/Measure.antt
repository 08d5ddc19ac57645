-- 6 by one walk: nodes and bytes are added up, node by node, until a limit is passed. The walk's meaning, as a recursion on the forest.
use Rattle.std.specs.Prelude.{ℕ, zero, suc, ◌+◌, ◌*◌, ◌≤◌, Bool, true, false, ◌&&◌, ◌||◌, ltb, length}
use Rattle.xml.specs.Bytes.{Bytes, bytes, all, same, is_white}
use Rattle.xml.specs.Forest.{Forest, end, elem, text, stamp, escape}
use Rattle.keys.specs.declared.measure.Sizes.{Sizes}
use Rattle.keys.specs.KeyList.{Path, KeyList, above}
use Rattle.keys.specs.Version.{◌▸◌}

-- what is counted is within the limits
pub record Within (s : Sizes) : Type 0 where
  pub nodes-few : s.nodes ≤ 512
  pub bytes-few : s.bytes ≤ 16384

-- a limit is passed, and nothing more is counted
abbrev pub passed : Sizes
passed = record { over = true; nodes = 0; bytes = 0 }

abbrev pub sizes : ℕ → ℕ → Sizes
sizes n b = record { over = false; nodes = n; bytes = b }

abbrev pub unless : Bool → Sizes → Sizes
unless true s = passed
unless false s = s

-- so many nodes and bytes more
unfoldable pub plus : Sizes → ℕ → ℕ → Sizes
plus s n b = unless (ltb 512 (s.nodes + n) || ltb 16384 (s.bytes + b)) (sizes (s.nodes + n) (s.bytes + b))

-- "`T` elements are not counted"
abbrev pub counted : Bool → ℕ
counted true = 0
counted false = 1

-- an element's two tags more
unfoldable pub plus_tags : Sizes → Bytes → Sizes
plus_tags s n = plus s (counted (same n (bytes "T"))) (2 * length n + 5)

abbrev pub plus_kept : Bool → Sizes → Bytes → Sizes
plus_kept true s b = s
plus_kept false s b = plus s 1 (length (escape b))

-- a run of text more, which may be dropped
unfoldable pub plus_text : KeyList → Path → Sizes → Bytes → Sizes
plus_text K p s b = plus_kept (above K p && all is_white b) s b

abbrev pub go_on : Bool → Sizes → (Sizes → Sizes) → Sizes
go_on true s f = s
go_on false s f = f s

-- the walk goes on, unless a limit is passed
abbrev pub onward : Sizes → (Sizes → Sizes) → Sizes
onward s f = go_on s.over s f

-- s, and then the forest in an element of path p, where elements may stand d deep
unfoldable pub measured : KeyList → Path → ℕ → Forest → Sizes → Sizes
measured K p d end s = s
measured K p d (text b r) s = onward (plus_text K p s b) (measured K p d r)
measured K p zero (elem n k r) s = passed
measured K p (suc d) (elem n k r) s = onward (onward (plus_tags s n) (measured K (p ▸ n) d k)) (measured K p (suc d) r)
measured K p zero (stamp n k r) s = passed
measured K p (suc d) (stamp n k r) s = onward (onward (plus_tags s n) (measured K (p ▸ n) d k)) (measured K p (suc d) r)
