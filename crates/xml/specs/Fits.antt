-- How many cells a text needs: at most one a byte; and an archive, which has few nodes besides its `T`s, far fewer.
use Rattle.std.specs.Prelude.{ℕ, ◌+◌, ◌*◌, ◌<◌, ◌≤◌, ◌≡◌, refl, Bool, true, false, List, [], ◌∷◌, ◌++◌, leb, length}
use Rattle.std.proofs.Common.{ap, arith, length-append, leb-true, leb-false}
use Rattle.xml.specs.Bytes.{Bytes, bytes, same, is_empty}
use Rattle.xml.specs.Forest.{Forest, end, elem, text, stamp, nodes, NotText, Root}
use Rattle.xml.specs.Grammar.{Content, nothing, run, element, lone, times}
use Rattle.xml.specs.Truth.{clash, by-test}
use Rattle.xml.specs.Read.{Outcome, whole, broken, read}
use Rattle.xml.specs.Sound.{read-sound}
use Rattle.xml.specs.Tape.{size}
use Rattle.xml.specs.State.{Overfull}

-- how many elements have the name T, which `nodes` does not count
unfoldable pub misnamed : Forest → ℕ
misnamed end = 0
misnamed (text b r) = misnamed r
misnamed (elem n k r) = elim (same n (bytes "T")) [ true ↦ 1 | false ↦ 0 ] + misnamed k + misnamed r
misnamed (stamp t k r) = misnamed k + misnamed r

-- two cells a node, and a run of one byte has one: two cells a node are at most one more than the bytes, and no more where no run is first
record Fits (s : Bytes) (f : Forest) : Type 0 where
  most : 2 * size f ≤ length s + 1
  tight : NotText f → 2 * size f ≤ length s

some-length : (s : Bytes) → is_empty s ≡ false → 1 ≤ length s
unfolding is_empty
some-length [] e = clash e
some-length (b ∷ s) e = omega arith

content-fits : {a : Bool} {s : Bytes} {f : Forest} → Content a s f → Fits s f
unfolding size bytes
content-fits nothing = record { most = omega arith; tight = λ n. omega arith }
content-fits (run {s = s} {u = u} {r = r} c e o n k) =
    let h : 2 * size r ≤ length u = (content-fits k).tight n in
    record { most = simp length-append (omega (arith, h, some-length s e)); tight = λ x. absurd x }
content-fits (element e c k) =
    let h = (content-fits c).most in
    let i = (content-fits k).most in
    record { most = simp length-append (omega arith); tight = λ x. simp length-append (omega arith) }
content-fits (lone e k) =
    let i = (content-fits k).most in
    record { most = simp length-append (omega arith); tight = λ x. simp length-append (omega arith) }
content-fits (times g e c k) =
    let h = (content-fits c).most in
    let i = (content-fits k).most in
    record { most = simp length-append (omega arith); tight = λ x. simp length-append (omega arith) }

root-first : (f : Forest) → Root f → NotText f
root-first end r = tt
root-first (elem n k g) r = tt
root-first (text b g) r = r
root-first (stamp t k g) r = tt

-- a text needs no more cells than it has bytes
pub version-fits : (a : Bool) (s : Bytes) (f : Forest) → read a s ≡ whole f → 2 * size f ≤ length s
version-fits a s f e =
    let g = read-sound a s f e in
    let h = (content-fits g.content).tight (root-first f g.root) in
    omega (arith, h, ap length g.text-is, length-append (g.before ++ g.inner) g.after, length-append g.before g.inner)

one-count : (n : Bytes) → elim (same n (bytes "T")) [ true ↦ 0 | false ↦ 1 ] + elim (same n (bytes "T")) [ true ↦ 1 | false ↦ 0 ] ≡ 1
one-count n = at (same n (bytes "T"))
  where
    at : (b : Bool) → elim b [ true ↦ 0 | false ↦ 1 ] + elim b [ true ↦ 1 | false ↦ 0 ] ≡ 1
    at true = refl
    at false = refl

-- a `T` costs twelve bytes
content-timed : {a : Bool} {s : Bytes} {f : Forest} → Content a s f → 12 * size f ≤ 12 * (nodes f + misnamed f) + length s
unfolding size nodes misnamed bytes
content-timed nothing = omega arith
content-timed (run c e o n k) = simp length-append (omega (arith, content-timed k))
content-timed (element {n = n} e c k) = simp length-append (omega (arith, content-timed c, content-timed k, one-count n))
content-timed (lone {n = n} e k) = simp length-append (omega (arith, content-timed k, one-count n))
content-timed (times g e c k) = simp length-append (omega (arith, content-timed c, content-timed k))

-- besides the nodes that count, and elements named T, there is a node for each twelve bytes
pub timed-fits : (a : Bool) (s : Bytes) (f : Forest) → read a s ≡ whole f → 12 * size f ≤ 12 * (nodes f + misnamed f) + length s
timed-fits a s f e =
    let g = read-sound a s f e in
    let h = content-timed g.content in
    omega (arith, h, ap length g.text-is, length-append (g.before ++ g.inner) g.after, length-append g.before g.inner)

-- an archive of at most 1,024 nodes fits into 7,508 cells
pub archive-fits : (s : Bytes) (f : Forest) → read true s ≡ whole f → nodes f ≤ 1024 → misnamed f ≡ 0 → length s ≤ 32768 → 2 * size f ≤ 7508
archive-fits s f e n m l = omega (arith, timed-fits true s f e)

-- ---- what it says that a tape is too short
-- of one cell a byte: that the text is wrong
pub full-broken : (a : Bool) (s : Bytes) (cells : List ℕ) → Overfull a s cells → length s ≤ length cells → (p : ℕ) × (read a s ≡ broken p)
full-broken a s cells o l = at (read a s) refl
  where
    at : (x : Outcome) → read a s ≡ x → (p : ℕ) × (read a s ≡ broken p)
    at (whole f) e = absurd (omega (arith, o.1 f e, version-fits a s f e))
    at (broken p) e = (p, e)

-- of 7,508 cells: that no archive of at most 1,024 nodes has this text
pub full-archive : (s : Bytes) (cells : List ℕ) (f : Forest) → Overfull true s cells → 7508 ≤ length cells → length s ≤ 32768 → read true s ≡ whole f →
    misnamed f ≡ 0 → 1024 < nodes f
full-archive s cells f o l k e m =
    by-test (leb (nodes f) 1024) (λ x. absurd (omega (arith, o.1 f e, archive-fits s f e (leb-true (nodes f) 1024 x) m k))) (λ x. leb-false (nodes f) 1024 x)
