-- The walk that measures every version (Sizes.antt says what): where it stops, what it asks, and what it has done.
use Rattle.std.specs.Prelude.{Option, Some, None, ℕ, ◌+◌, ◌*◌, ◌-◌, ◌%◌, ◌<◌, ◌≤◌, ◌≡◌, Bool, true, false, ◌||◌, List, eqb, get_or}
use native.Mathlib.Omega.{arith}
use Rattle.std.proofs.Math.Path.{refl, sym, ap, ap₂}
use Rattle.std.proofs.Common.{◌∙◌}
use Rattle.std.proofs.Math.Bool.{or_assoc}
use borrow.Author.Tests.{eq-eqb, ne_eqb}
use Rattle.std.proofs.Math.ListN.{length}
use Rattle.xml.specs.Bytes.{Bytes, bytes, same}
use Rattle.xml.specs.Forest.{Forest, end, elem, text, stamp, join}
use Rattle.xml.specs.Signs.{spelt}
use Rattle.xml.specs.Tape.{head_at, next_at, Tape, at-end, at-text, at-elem, at-stamp}
use Rattle.xml.specs.TapeLaws.{bytes_at, OneRun, tape-le, node-bytes, length-unescape, length-escape, inner-node, text-node}
use Rattle.xml.specs.Truth.{clash}
use Rattle.timestamp.specs.Times.{belongs}
use Rattle.timestamp.specs.Listed.{belongs-listed}
use Rattle.timestamp.specs.Parse.{accepted, parsed}
use Rattle.timestamp.specs.Parses.{text-parse}
use Rattle.versions.specs.Sizes.{one, own_nodes, own_bytes, when_in, timed_in}
use Rattle.versions.specs.Grown.{Grown, grown-none, grown-then, grown-same}
use Rattle.legality.specs.Raised.{Readable}
use Rattle.legality.specs.declared.bounds.Size.{Size}

-- what a walk that has not stopped answers
abbrev pub owned : ℕ → ℕ → Option Size
owned n b = Some (record { nodes = n; bytes = b })

abbrev pub stopped : Option Size → Bool
stopped None = true
stopped (Some s) = false

abbrev pub nodes_of : Option Size → ℕ
nodes_of None = 0
nodes_of (Some s) = s.nodes

abbrev pub bytes_of : Option Size → ℕ
bytes_of None = 0
bytes_of (Some s) = s.bytes

-- each `T` has the text of a set
abbrev pub AllRead : Forest → Type 0
AllRead end = Unit {0}
AllRead (text b r) = AllRead r
AllRead (elem m k r) = AllRead k × AllRead r
AllRead (stamp t k r) = Readable t × AllRead k × AllRead r

-- the walk stops at an element deeper than it may go, or at a `T` straight in a `T` (w says whether the forest stands so)
unfoldable pub stops : ℕ → Bool → Forest → Bool
stops d w end = false
stops d w (text b r) = stops d w r
stops d w (elem m k r) = eqb d 0 || stops (d - 1) false k || stops d w r
stops d w (stamp t k r) = w || stops d true k || stops d w r

-- ---- forests one after the other
pub nodes-join : (f g : Forest) → own_nodes (join f g) ≡ own_nodes f + own_nodes g
unfolding own_nodes join
nodes-join end g = omega arith
nodes-join (text b r) g = omega (arith, nodes-join r g)
nodes-join (elem m k r) g = omega (arith, nodes-join r g)
nodes-join (stamp t k r) g = nodes-join r g

pub bytes-join : (f g : Forest) → own_bytes (join f g) ≡ own_bytes f + own_bytes g
unfolding own_bytes join
bytes-join end g = omega arith
bytes-join (text b r) g = omega (arith, bytes-join r g)
bytes-join (elem m k r) g = omega (arith, bytes-join r g)
bytes-join (stamp t k r) g = bytes-join r g

pub timed-join : (own : Forest → ℕ) (v : ℕ) (f g : Forest) → timed_in own v (join f g) ≡ timed_in own v f + timed_in own v g
unfolding timed_in join
timed-join own v end g = omega arith
timed-join own v (text b r) g = timed-join own v r g
timed-join own v (elem m k r) g = omega (arith, timed-join own v r g)
timed-join own v (stamp t k r) g = omega (arith, timed-join own v r g)

pub stops_join : (d : ℕ) (w : Bool) (f g : Forest) → stops d w (join f g) ≡ (stops d w f || stops d w g)
unfolding stops join
stops_join d w end g = refl
stops_join d w (text b r) g = stops_join d w r g
stops_join d w (elem m k r) g =
    ap (λ (x : Bool). eqb d 0 || stops (d - 1) false k || x) (stops_join d w r g) ∙ sym (or_assoc (eqb d 0 || stops (d - 1) false k) (stops d w r) (stops d w g))
stops_join d w (stamp t k r) g =
    ap (λ (x : Bool). w || stops d true k || x) (stops_join d w r g) ∙ sym (or_assoc (w || stops d true k) (stops d w r) (stops d w g))

pub read_join : (f g : Forest) → AllRead (join f g) → AllRead f × AllRead g
unfolding join
read_join end g h = (tt, h)
read_join (text b r) g h = read_join r g h
read_join (elem m k r) g h = let z = read_join r g h.1 in ((h.0, z.0), z.1)
read_join (stamp t k r) g h = let z = read_join r g h.2 in ((h.0, h.1, z.0), z.1)

-- ---- an element's count
pub one_none : (n : Bytes) → same n (bytes "T") ≡ true → one n ≡ 0
unfolding one
one_none n e = rw (e, one)

pub one-some : (n : Bytes) → same n (bytes "T") ≡ false → one n ≡ 1
unfolding one
one-some n e = rw (e, one)

-- ---- how much it can be: 163,840 bytes a node
pub one-most : (n : Bytes) → one n ≤ 1
unfolding one
one-most n = go (same n (bytes "T"))
  where
    go : (b : Bool) → elim b as (λ _. ℕ) [ true ↦ 0 | false ↦ 1 ] ≤ 1
    go true = omega arith
    go false = omega arith

pub when-all : (b : Bool) (x : ℕ) → when_in b x ≤ x
when-all true x = omega arith
when-all false x = omega arith

module _ {src cells : List ℕ} where
  pub few-nodes : {p q : ℕ} {f : Forest} (v : ℕ) → Tape src cells p q f → own_nodes f + timed_in own_nodes v f ≤ q - p
  unfolding own_nodes timed_in
  few-nodes v (at-end e) = omega arith
  few-nodes v (at-text n u e r) = omega (arith, few-nodes v r, tape-le r)
  few-nodes v (at-elem {n = b} n k r) = omega (arith, one-most b, few-nodes v k, few-nodes v r, tape-le k, tape-le r)
  few-nodes v (at-stamp {t = t} {k = f} n k r) = omega (arith, when-all (belongs v t) (own_nodes f), few-nodes v k, few-nodes v r, tape-le k, tape-le r)

  pub few_bytes : {p q : ℕ} {f : Forest} (v : ℕ) → Tape src cells p q f → own_bytes f + timed_in own_bytes v f ≤ 163840 * (q - p)
  unfolding own_bytes timed_in
  few_bytes v (at-end e) = omega arith
  few_bytes v (at-text {raw = raw} {b = b} n u e r) = omega (arith, node-bytes n, ap length u, length-unescape 0 raw, length-escape b, few_bytes v r, tape-le r)
  few_bytes v (at-elem n k r) = omega (arith, node-bytes n, few_bytes v k, few_bytes v r, tape-le k, tape-le r)
  few_bytes v (at-stamp {t = t} {k = f} n k r) = omega (arith, when-all (belongs v t) (own_bytes f), few_bytes v k, few_bytes v r, tape-le k, tape-le r)

-- ---- what the walk asks, and what it has done
pub record Room (src cells : List ℕ) (lo hi : ℕ) (nodes bytes : List ℕ) : Type 0 where
  pub forest : Forest
  pub tape : Tape src cells lo hi forest
  pub stamps : AllRead forest
  pub few : hi ≤ 16384
  pub nodes-count : length nodes ≡ 1000
  pub bytes_count : length bytes ≡ 1000
  pub nodes-room : (v : ℕ) → 1 ≤ v → v ≤ 999 → get_or nodes v 0 + (hi - lo) ≤ 16384
  pub bytes-room : (v : ℕ) → 1 ≤ v → v ≤ 999 → get_or bytes v 0 + 163840 * (hi - lo) ≤ 2684354560

pub record Sums (f : Forest) (n b : ℕ) (nodes nodes' bytes bytes' : List ℕ) : Type 0 where
  pub own-nodes : n ≡ own_nodes f
  pub own-bytes : b ≡ own_bytes f
  pub in-nodes : Grown nodes nodes' (λ v. timed_in own_nodes v f)
  pub in_bytes : Grown bytes bytes' (λ v. timed_in own_bytes v f)

pub record Measured (left : ℕ) (w : Bool) (f : Forest) (r : Option Size) (nodes nodes' bytes bytes' : List ℕ) : Type 0 where
  pub nodes-kept : length nodes' ≡ length nodes
  pub bytes-kept : length bytes' ≡ length bytes
  pub stop : (stopped r) ≡ stops left w f
  pub sums : (stopped r) ≡ false → Sums f (nodes_of r) (bytes_of r) nodes nodes' bytes bytes'

-- ---- one node
sums-measured : {left n b : ℕ} {w : Bool} {f : Forest} {x x' y y' : List ℕ} → stops left w f ≡ false → Sums f n b x x' y y'
    → Measured left w f (owned n b) x x' y y'
sums-measured e s = record { nodes-kept = s.in-nodes.count; bytes-kept = s.in_bytes.count; stop = sym e; sums = λ _. s }

-- a walk that has stopped, with the lengths as they were
stopped-measured : {left : ℕ} {w : Bool} {f : Forest} {r : Option Size} {x x' y y' : List ℕ} → length x' ≡ length x → length y' ≡ length y → (stopped r) ≡ true → stops left w f ≡ true → Measured left w f r x x' y y'
stopped-measured l k e s = record { nodes-kept = l; bytes-kept = k; stop = e ∙ sym s; sums = λ d. clash (sym e ∙ d) }

module _ {src cells : List ℕ} {p left : ℕ} {w : Bool} {x y : List ℕ} where
  pub text-measured : {f : Forest} {n : ℕ} → Tape src cells p (next_at cells p) f → p < next_at cells p → head_at cells p % 4 ≡ 0 → n ≡ length (spelt (bytes_at src cells p))
      → Measured left w f (owned 1 n) x x y y
  unfolding own_nodes own_bytes timed_in stops
  text-measured t l k e =
      rw (text-node t l k) (sums-measured refl (record { own-nodes = refl; own-bytes = omega arith; in-nodes = grown-none; in_bytes = grown-none }))

  -- nodes that are one run of text
  pub run-measured : {f : Forest} {q n : ℕ} → Tape src cells p q f → OneRun src cells p q → n ≡ length (spelt (bytes_at src cells p)) → Measured left w f (owned 1 n) x x y y
  run-measured t o d = text-measured (rw o.ends at t) o.node.forward o.run d

  -- an element deeper than the walk may go
  pub deep-measured : {f : Forest} {r : Option Size} → Tape src cells p (next_at cells p) f → p < next_at cells p → head_at cells p % 4 ≡ 1 → left ≡ 0 → (stopped r) ≡ true → Measured left w f r x x y y
  unfolding stops
  deep-measured t l k e s =
      let i = inner-node t l (λ z. omega arith) in
      stopped-measured refl refl s (rw (i.element k, eq-eqb left 0 e) refl)

  -- the walk stopped in it
  pub element-stopped : {f : Forest} {r : Option Size} {x' y' : List ℕ} → Tape src cells p (next_at cells p) f → p < next_at cells p → head_at cells p % 4 ≡ 1 → (left ≡ 0 → ⊥)
      → ((g : Forest) → Tape src cells (p + 1) (next_at cells p) g → Measured (left - 1) false g r x x' y y') → (stopped r) ≡ true → Measured left w f r x x' y y'
  unfolding stops
  element-stopped t l k e m s =
      let i = inner-node t l (λ z. omega arith) in
      let j = m i.kids i.tape in
      stopped-measured j.nodes-kept j.bytes-kept s (rw (i.element k, ne_eqb left 0 e, sym j.stop ∙ s) refl)

  pub element-measured : {f : Forest} {r : Option Size} {x' y' : List ℕ} {o n b : ℕ} → Tape src cells p (next_at cells p) f → p < next_at cells p → head_at cells p % 4 ≡ 1 → (left ≡ 0 → ⊥)
      → ((g : Forest) → Tape src cells (p + 1) (next_at cells p) g → Measured (left - 1) false g r x x' y y') → (stopped r) ≡ false
      → o ≡ one (bytes_at src cells p) → n ≡ o + (nodes_of r) → b ≡ 2 * length (bytes_at src cells p) + 5 + (bytes_of r)
      → Measured left w f (owned n b) x x' y y'
  unfolding stops own_nodes own_bytes timed_in
  element-measured t l k e m s a c d =
      let i = inner-node t l (λ z. omega arith) in
      let j = m i.kids i.tape in
      let u = j.sums s in
      rw (i.element k) (sums-measured (rw (ne_eqb left 0 e, sym j.stop ∙ s) refl) (record {
        own-nodes = omega (arith, u.own-nodes);
        own-bytes = omega (arith, u.own-bytes);
        in-nodes = grown-same (λ v. timed_in own_nodes v i.kids + 0) (λ v g h. omega arith) u.in-nodes;
        in_bytes = grown-same (λ v. timed_in own_bytes v i.kids + 0) (λ v g h. omega arith) u.in_bytes;
      }))

  -- a `T` straight in a `T`
  pub twice-measured : {f : Forest} {r : Option Size} → Tape src cells p (next_at cells p) f → p < next_at cells p → head_at cells p % 4 ≡ 2 → w ≡ true → (stopped r) ≡ true → Measured left w f r x x y y
  unfolding stops
  twice-measured t l k e s =
      let i = inner-node t l (λ z. omega arith) in
      stopped-measured refl refl s (rw (i.timed k, e) refl)

  pub timed-stopped : {f : Forest} {r : Option Size} {x' y' : List ℕ} → Tape src cells p (next_at cells p) f → p < next_at cells p → head_at cells p % 4 ≡ 2 → w ≡ false
      → ((g : Forest) → Tape src cells (p + 1) (next_at cells p) g → Measured left true g r x x' y y') → (stopped r) ≡ true → Measured left w f r x x' y y'
  unfolding stops
  timed-stopped t l k q m s =
      let i = inner-node t l (λ z. omega arith) in
      let j = m i.kids i.tape in
      stopped-measured j.nodes-kept j.bytes-kept s (rw (i.timed k, q, sym j.stop ∙ s) refl)

  pub timed-measured : {f : Forest} {r : Option Size} {x' y' x'' y'' : List ℕ} {s : ℕ → Bool} → Tape src cells p (next_at cells p) f → p < next_at cells p → head_at cells p % 4 ≡ 2 → w ≡ false → parsed (bytes_at src cells p) ≡ accepted s
      → ((g : Forest) → Tape src cells (p + 1) (next_at cells p) g → Measured left true g r x x' y y') → (stopped r) ≡ false
      → Grown x' x'' (λ v. when_in (s v) (nodes_of r)) → Grown y' y'' (λ v. when_in (s v) (bytes_of r))
      → Measured left w f (owned 0 0) x x'' y y''
  unfolding stops own_nodes own_bytes timed_in
  timed-measured {r = r} {s = s} t l k v e m q a c =
      let i = inner-node t l (λ z. omega arith) in
      let j = m i.kids i.tape in
      let u = j.sums q in
      let b = bytes_at src cells p in
      let z = text-parse b s e in
      rw (i.timed k) (sums-measured (rw (v, sym j.stop ∙ q) refl) (record {
        own-nodes = refl;
        own-bytes = refl;
        in-nodes = grown-same (λ v. when_in (belongs v b) (own_nodes i.kids) + timed_in own_nodes v i.kids + 0)
            (λ v g h. let u' : when_in (s v) (nodes_of r) ≡ when_in (belongs v b) (own_nodes i.kids) = ap₂ when_in (sym (ap (belongs v) z.0 ∙ belongs-listed s v g h)) u.own-nodes in omega arith)
            (grown-then u.in-nodes a);
        in_bytes = grown-same (λ v. when_in (belongs v b) (own_bytes i.kids) + timed_in own_bytes v i.kids + 0)
            (λ v g h. let u' : when_in (s v) (bytes_of r) ≡ when_in (belongs v b) (own_bytes i.kids) = ap₂ when_in (sym (ap (belongs v) z.0 ∙ belongs-listed s v g h)) u.own-bytes in omega arith)
            (grown-then u.in_bytes c);
      }))
