-- The sizes of every version of an archive, in one walk: what a `T` holds itself, other `T`s apart, counts for each of its versions.
use Rattle.std.specs.Prelude.{ℕ, ◌+◌, ◌*◌, ◌≡◌, refl, Bool, true, false, ◌++◌, length}
use Rattle.std.proofs.Common.{arith, sym, append_assoc, length-append}
use Rattle.xml.specs.Bytes.{Bytes, bytes, same}
use Rattle.xml.specs.Forest.{Forest, end, elem, text, stamp, join, escape, write, nodes}
use Rattle.xml.specs.Truth.{clash}
use Rattle.timestamp.specs.Times.{belongs}
use Rattle.versions.specs.Archive.{pick}

-- an element named T counts for nothing
unfoldable pub one : Bytes → ℕ
one n = elim (same n (bytes "T")) [ true ↦ 0 | false ↦ 1 ]

-- nodes and written bytes that stand in no `T` of the forest
unfoldable pub own_nodes : Forest → ℕ
own_nodes end = 0
own_nodes (text b r) = 1 + own_nodes r
own_nodes (elem n k r) = one n + own_nodes k + own_nodes r
own_nodes (stamp t k r) = own_nodes r

unfoldable pub own_bytes : Forest → ℕ
own_bytes end = 0
own_bytes (text b r) = length (escape b) + own_bytes r
own_bytes (elem n k r) = 2 * length n + 5 + own_bytes k + own_bytes r
own_bytes (stamp t k r) = own_bytes r

abbrev pub when_in : Bool → ℕ → ℕ
when_in true x = x
when_in false x = 0

-- what the `T`s of the forest, at any depth, hold themselves and have in version i; `own` is one of the two above
unfoldable pub timed_in : (Forest → ℕ) → ℕ → Forest → ℕ
timed_in own i end = 0
timed_in own i (text b r) = timed_in own i r
timed_in own i (elem n k r) = timed_in own i k + timed_in own i r
timed_in own i (stamp t k r) = when_in (belongs i t) (own k) + timed_in own i k + timed_in own i r

-- where a `T` has version i, so have those around it
unfoldable pub Nested : ℕ → Bool → Forest → Type 0
Nested i around end = Unit {0}
Nested i around (text b r) = Nested i around r
Nested i around (elem n k r) = Nested i around k × Nested i around r
Nested i around (stamp t k r) = (belongs i t ≡ true → around ≡ true) × Nested i (belongs i t) k × Nested i around r

none_in : (own : Forest → ℕ) (i : ℕ) (f : Forest) → Nested i false f → timed_in own i f ≡ 0
unfolding timed_in Nested
none_in own i end h = refl
none_in own i (text b r) h = none_in own i r h
none_in own i (elem n k r) h = omega (arith, none_in own i k h.0, none_in own i r h.1)
none_in own i (stamp t k r) h = go (belongs i t) refl h.0 h.1 (λ x. none_in own i k x) (none_in own i r h.2)
  where
    go : (b : Bool) → belongs i t ≡ b → (belongs i t ≡ true → false ≡ true) → Nested i (belongs i t) k → (Nested i false k → timed_in own i k ≡ 0) → timed_in own i r ≡ 0
        → when_in (belongs i t) (own k) + timed_in own i k + timed_in own i r ≡ 0
    go true e f g ih rest = clash (sym (f e))
    go false e f g ih rest = let z = ih (rw e at g) in rw e (omega arith)

pub nodes-join : (f g : Forest) → nodes (join f g) ≡ nodes f + nodes g
unfolding join nodes
nodes-join end g = omega arith
nodes-join (text b r) g = omega (arith, nodes-join r g)
nodes-join (elem n k r) g = rw (nodes-join r g) (omega arith)
nodes-join (stamp t k r) g = omega (arith, nodes-join r g)

-- the nodes of version i
pub nodes-pick : (i : ℕ) (f : Forest) → Nested i true f → nodes (pick i f) ≡ own_nodes f + timed_in own_nodes i f
unfolding pick nodes own_nodes timed_in Nested one
nodes-pick i end h = refl
nodes-pick i (text b r) h = omega (arith, nodes-pick i r h)
nodes-pick i (elem n k r) h = rw (nodes-pick i k h.0, nodes-pick i r h.1) (omega arith)
nodes-pick i (stamp t k r) h = go (belongs i t) refl h.1 (nodes-pick i k) (none_in own_nodes i k) (nodes-pick i r h.2)
  where
    go : (b : Bool) → belongs i t ≡ b → Nested i (belongs i t) k → (Nested i true k → nodes (pick i k) ≡ own_nodes k + timed_in own_nodes i k)
        → (Nested i false k → timed_in own_nodes i k ≡ 0) → nodes (pick i r) ≡ own_nodes r + timed_in own_nodes i r
        → nodes (elim (belongs i t) as (λ _. Forest) [ true ↦ join (pick i k) (pick i r) | false ↦ pick i r ]) ≡ own_nodes r + (when_in (belongs i t) (own_nodes k) + timed_in own_nodes i k + timed_in own_nodes i r)
    go true e g ih not_in rest = rw (e, nodes-join (pick i k) (pick i r)) (omega (arith, ih (rw e at g), rest))
    go false e g ih not_in rest = rw e (omega (arith, not_in (rw e at g), rest))

pub write-join : (f g : Forest) → write (join f g) ≡ write f ++ write g
unfolding join write
write-join end g = refl
write-join (text b r) g = rw (write-join r g) (sym (append_assoc (escape b) (write r) (write g)))
write-join (elem n k r) g = rw (write-join r g) (simp append_assoc)
write-join (stamp t k r) g = rw (write-join r g) (simp append_assoc)

-- and its written bytes
pub bytes-pick : (i : ℕ) (f : Forest) → Nested i true f → length (write (pick i f)) ≡ own_bytes f + timed_in own_bytes i f
unfolding pick write own_bytes timed_in Nested bytes
bytes-pick i end h = refl
bytes-pick i (text b r) h = rw length-append (omega (arith, bytes-pick i r h))
bytes-pick i (elem n k r) h = simp length-append (omega (arith, bytes-pick i k h.0, bytes-pick i r h.1))
bytes-pick i (stamp t k r) h = go (belongs i t) refl h.1 (bytes-pick i k) (none_in own_bytes i k) (bytes-pick i r h.2)
  where
    go : (b : Bool) → belongs i t ≡ b → Nested i (belongs i t) k → (Nested i true k → length (write (pick i k)) ≡ own_bytes k + timed_in own_bytes i k)
        → (Nested i false k → timed_in own_bytes i k ≡ 0) → length (write (pick i r)) ≡ own_bytes r + timed_in own_bytes i r
        → length (write (elim (belongs i t) as (λ _. Forest) [ true ↦ join (pick i k) (pick i r) | false ↦ pick i r ])) ≡ own_bytes r + (when_in (belongs i t) (own_bytes k) + timed_in own_bytes i k + timed_in own_bytes i r)
    go true e g ih not_in rest = rw (e, write-join (pick i k) (pick i r), length-append) (omega (arith, ih (rw e at g), rest))
    go false e g ih not_in rest = rw e (omega (arith, not_in (rw e at g), rest))
