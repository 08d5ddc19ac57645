-- What one version has of some nodes at most: of the contents of a frontier, of which it has no two (Parted.antt), the largest counts.
use Rattle.std.specs.Prelude.{Option, IfSome, ℕ, zero, suc, ◌+◌, ◌*◌, ◌-◌, ◌%◌, ◌<◌, ◌≤◌, max, ◌≡◌, Bool, true, false, List, [], leb, length}
use Rattle.std.proofs.Common.{arith, sym, ◌∙◌, length-append}
use Rattle.std.proofs.Math.Path.{refl, ap}
use Rattle.std.proofs.Math.Bool.{not, and-false, or-false}
use borrow.Author.Tests.{le-leb, not-true}
use Rattle.xml.specs.Bytes.{Bytes, bytes, all}
use Rattle.xml.specs.Forest.{Forest, end, elem, text, stamp, join, write, escape, nodes, depth}
use Rattle.xml.specs.Signs.{spelt}
use Rattle.xml.specs.Tape.{head_at, next_at, Tape, Valid, at-end, at-text, at-elem, at-stamp}
use Rattle.xml.specs.TapeLaws.{bytes_at, OneRun, Front, tape-le, tape-none, tape-one, tape-join, front, split, inner-node, text-node}
use Rattle.xml.specs.Complete.{join-end}
use Rattle.xml.specs.Truth.{by-test, clash, and_both, or-second}
use Rattle.timestamp.specs.Times.{belongs, up_from, always}
use Rattle.versions.specs.Archive.{pick}
use Rattle.versions.specs.Walk.{is_sole, siblings_legal, all_small}
use Rattle.versions.specs.Sizes.{one, when_in, nodes-join, write-join}
use Rattle.versions.specs.Small.{LegalInside}
use Rattle.versions.specs.VersionText.{pick-join}
use Rattle.keys.specs.Version.{too_large}
use Rattle.legality.specs.Measured.{one-most, when-all}
use Rattle.legality.specs.Going.{text-short, name-length}
use Rattle.legality.specs.Layered.{depth-pick, depth-join}
use Rattle.legality.specs.Parted.{has_content, Parted, has_join, parted-join, parted-last, siblings-parted}
use Rattle.legality.specs.SmallLaws.{not-large}
use Rattle.legality.specs.declared.bounds.Size.{Size}

-- a `T` around anything but one element: a content of a frontier
unfoldable pub content_node : Forest → Bool
content_node end = false
content_node (text b r) = false
content_node (elem m k r) = false
content_node (stamp s k r) = not (is_sole k)

-- the forest is at most so deep, and version v has at most so many nodes and bytes of it
pub record Bounded (v : ℕ) (f : Forest) (left n b : ℕ) : Type 0 where
  pub flat : depth f ≤ left
  pub nodes-in : nodes (pick v f) ≤ n
  pub bytes-in : length (write (pick v f)) ≤ b

-- so has each version of the nodes lo to hi
pub record Most (src cells : List ℕ) (lo hi left n b : ℕ) : Type 0 where
  pub few : n ≤ hi - lo
  pub short : b ≤ 163840 * (hi - lo)
  pub each : (f : Forest) → Tape src cells lo hi f → (v : ℕ) → Parted v f → Bounded v f left n b

-- what a walk answers, unless it has stopped
abbrev pub Bounds : List ℕ → List ℕ → ℕ → ℕ → ℕ → Option Size → Type 0
Bounds src cells lo hi left r = IfSome r (λ s. Most src cells lo hi left s.nodes s.bytes)

-- ---- a `T` alone, in a version that has it or lacks it
pick-has : (v : ℕ) (s : Bytes) (k : Forest) → belongs v s ≡ true → pick v (stamp s k end) ≡ pick v k
unfolding pick
pick-has v s k e = rw (e, pick) (join-end (pick v k))

pick-lacks : (v : ℕ) (s : Bytes) (k : Forest) → belongs v s ≡ false → pick v (stamp s k end) ≡ end
unfolding pick
pick-lacks v s k e = rw (e, pick) refl

nodes-lacking : (v : ℕ) (s : Bytes) (k : Forest) → belongs v s ≡ false → nodes (pick v (stamp s k end)) ≡ 0
unfolding nodes
nodes-lacking v s k e = ap nodes (pick-lacks v s k e)

bytes-lacking : (v : ℕ) (s : Bytes) (k : Forest) → belongs v s ≡ false → length (write (pick v (stamp s k end))) ≡ 0
unfolding write
bytes-lacking v s k e = ap (λ (f : Forest). length (write f)) (pick-lacks v s k e)

content-lacking : (v : ℕ) (s : Bytes) (k : Forest) → belongs v s ≡ false → has_content v (stamp s k end) ≡ false
unfolding has_content
content-lacking v s k e = rw (e, and-false (not (is_sole k))) refl

content-there : (v : ℕ) (s : Bytes) (k : Forest) → is_sole k ≡ false → belongs v s ≡ true → has_content v (stamp s k end) ≡ true
unfolding has_content
content-there v s k d e = rw (d, e) refl

stamp-bounded : (v : ℕ) (s : Bytes) {k : Forest} {left n b : ℕ} → Bounded v k left n b → Bounded v (stamp s k end) left n b
unfolding depth
stamp-bounded v s {k} h =
    by-test (belongs v s)
    (λ e. record { flat = omega (arith, h.flat); nodes-in = rw (pick-has v s k e) h.nodes-in; bytes-in = rw (pick-has v s k e) h.bytes-in })
    (λ e. record { flat = omega (arith, h.flat); nodes-in = omega (arith, nodes-lacking v s k e); bytes-in = omega (arith, bytes-lacking v s k e) })

elem-bounded : (v : ℕ) (m : Bytes) {k : Forest} {left n b : ℕ} → Bounded v k left n b → Bounded v (elem m k end) (left + 1) (1 + n) (2 * length m + 5 + b)
unfolding depth pick nodes write one bytes
elem-bounded v m {k} h =
    record {
      flat = omega (arith, h.flat);
      nodes-in = omega (arith, one-most m, h.nodes-in);
      bytes-in = simp length-append (omega (arith, h.bytes-in));
    }

text-bounded : (v : ℕ) (b : Bytes) {left n : ℕ} → length (escape b) ≤ n → Bounded v (text b end) left 1 n
unfolding depth pick nodes write
text-bounded v b h = record { flat = omega arith; nodes-in = omega arith; bytes-in = rw length-append (omega (arith, h)) }

module _ {src cells : List ℕ} {p left : ℕ} where
  pub text-most : {n : ℕ} → Front src cells p (next_at cells p) → head_at cells p % 4 ≡ 0 → n ≡ length (spelt (bytes_at src cells p)) → Most src cells p (next_at cells p) left 1 n
  text-most g k e =
      record {
        few = omega (arith, g.forward);
        short = omega (arith, g.forward, text-short g);
        each = λ f t v h. rw (text-node t g.forward k) (text-bounded v _ (omega (arith, e)));
      }

  pub run-most : {q n : ℕ} → OneRun src cells p q → n ≡ length (spelt (bytes_at src cells p)) → Most src cells p q left 1 n
  run-most o d = rw o.ends (text-most (rw o.ends at o.node) o.run d)

  pub element-most : {n b x y : ℕ} → Front src cells p (next_at cells p) → head_at cells p % 4 ≡ 1 → (left ≡ 0 → ⊥) → Most src cells (p + 1) (next_at cells p) (left - 1) n b
      → x ≡ 1 + n → y ≡ 2 * length (bytes_at src cells p) + 5 + b → Most src cells p (next_at cells p) left x y
  element-most g k e m ex ey =
      rw (ex, ey) (record {
        few = omega (arith, g.forward, m.few);
        short = omega (arith, g.forward, m.short, name-length g);
        each = λ f t v h.
            let i = inner-node t g.forward (λ z. omega arith) in
            let h2 : Parted v (elem (bytes_at src cells p) i.kids end) = rw (i.element k) at h in
            let z : left - 1 + 1 ≡ left = omega (arith, e) in
            rw (i.element k) (rw z at (elem-bounded v (bytes_at src cells p) (m.each i.kids i.tape v h2.0)));
      })

  pub timed-most : {n b : ℕ} → Front src cells p (next_at cells p) → head_at cells p % 4 ≡ 2 → Most src cells (p + 1) (next_at cells p) left n b → Most src cells p (next_at cells p) left n b
  timed-most g k m =
      record {
        few = omega (arith, g.forward, m.few);
        short = omega (arith, g.forward, m.short);
        each = λ f t v h.
            let i = inner-node t g.forward (λ z. omega arith) in
            let h2 : Parted v (stamp (bytes_at src cells p) i.kids end) = rw (i.timed k) at h in
            rw (i.timed k) (stamp-bounded v (bytes_at src cells p) (m.each i.kids i.tape v h2.1));
      }

-- ---- the shape of a node
pub record Content (f : Forest) : Type 0 where
  pub set : Bytes
  pub kids : Forest
  pub is : f ≡ stamp set kids end
  pub many : is_sole kids ≡ false

module _ {src cells : List ℕ} {p : ℕ} where
  pub node-held : {f : Forest} → Tape src cells p (next_at cells p) f → p + 1 < next_at cells p → 2 * (p + 1) + 1 < length cells
  node-held (at-end e) l = absurd (omega arith)
  node-held (at-text n u e r) l = absurd (omega arith)
  node-held (at-elem n k r) l = (front k l).held
  node-held (at-stamp n k r) l = (front k l).held

  -- whether it is a content
  pub other-node : {f : Forest} → Tape src cells p (next_at cells p) f → p < next_at cells p → (head_at cells p % 4 ≡ 2 → ⊥) → content_node f ≡ false
  unfolding content_node
  other-node (at-end e) l k = refl
  other-node (at-text n u e r) l k = refl
  other-node (at-elem n j r) l k = refl
  other-node (at-stamp n j r) l k = absurd (k n.kind-is)

  pub timed-node : {f : Forest} {b : Bool} → Tape src cells p (next_at cells p) f → p < next_at cells p → head_at cells p % 4 ≡ 2
      → ((g : Forest) → Tape src cells (p + 1) (next_at cells p) g → b ≡ is_sole g) → not b ≡ content_node f
  unfolding content_node
  timed-node t l k h = let i = inner-node t l (λ z. omega arith) in rw (i.timed k) (ap not (h i.kids i.tape))

  plain-node : {f : Forest} → Tape src cells p (next_at cells p) f → p < next_at cells p → content_node f ≡ false → (v : ℕ) → has_content v f ≡ false
  unfolding content_node has_content
  plain-node (at-end e) l c v = absurd (omega arith)
  plain-node (at-text n u e r) l c v = rw (tape-none (rw e at r)) refl
  plain-node (at-elem n k r) l c v = rw (tape-none r) refl
  plain-node (at-stamp n k r) l c v = rw (c, tape-none r) refl

  content-node : {f : Forest} → Tape src cells p (next_at cells p) f → p < next_at cells p → content_node f ≡ true → Content f
  unfolding content_node
  content-node (at-end e) l c = clash (sym c)
  content-node (at-text n u e r) l c = clash (sym c)
  content-node (at-elem n k r) l c = clash (sym c)
  content-node (at-stamp {t = t} {k = k} n x r) l c = record { set = t; kids = k; is = ap (stamp t k) (tape-none r); many = not-true (is_sole k) c }

-- ---- the walk on its way from sibling to sibling
-- version v has of these siblings so much beside contents, and contents of at most m nodes and c bytes
pub record Summed (v : ℕ) (d : Forest) (left n b m c : ℕ) : Type 0 where
  pub flat : depth d ≤ left
  pub nodes-in : nodes (pick v d) ≤ n + when_in (has_content v d) m
  pub bytes-in : length (write (pick v d)) ≤ b + when_in (has_content v d) c

-- the nodes lo to p are passed, and p to q are left
pub record Gone (src cells : List ℕ) (lo p q left n b m c : ℕ) : Type 0 where
  pub done : Forest
  pub rest : Forest
  pub before : Tape src cells lo p done
  pub after : Tape src cells p q rest
  pub few : n + m ≤ p - lo
  pub short : b + c ≤ 163840 * (p - lo)
  pub each : (v : ℕ) → Parted v done → Summed v done left n b m c

-- ---- one sibling more
when-most : (b : Bool) {x y : ℕ} → x ≤ y → when_in b x ≤ when_in b y
when-most true l = l
when-most false l = omega arith

nodes-both : (v : ℕ) (f g : Forest) → nodes (pick v (join f g)) ≡ nodes (pick v f) + nodes (pick v g)
nodes-both v f g = ap nodes (pick-join v f g) ∙ nodes-join (pick v f) (pick v g)

bytes-both : (v : ℕ) (f g : Forest) → length (write (pick v (join f g))) ≡ length (write (pick v f)) + length (write (pick v g))
bytes-both v f g = ap (λ (h : Forest). length (write h)) (pick-join v f g) ∙ ap length (write-join (pick v f) (pick v g)) ∙ length-append (write (pick v f)) (write (pick v g))

summed-plain : (v : ℕ) (d g : Forest) {left n b m c i j : ℕ} → Summed v d left n b m c → Bounded v g left i j → has_content v g ≡ false → Summed v (join d g) left (n + i) (b + j) m c
summed-plain v d g s h e =
    let w : has_content v (join d g) ≡ has_content v d = has_join v d g ∙ rw e (or-false (has_content v d)) in
    record {
      flat = omega (arith, depth-join d g, s.flat, h.flat);
      nodes-in = rw w (omega (arith, nodes-both v d g, s.nodes-in, h.nodes-in));
      bytes-in = rw w (omega (arith, bytes-both v d g, s.bytes-in, h.bytes-in));
    }

summed-lacks : (v : ℕ) (d : Forest) (t : Bytes) (k : Forest) {left n b m c x y i j : ℕ} → Summed v d left n b m c → Bounded v (stamp t k end) left i j → belongs v t ≡ false
    → m ≤ x → c ≤ y → Summed v (join d (stamp t k end)) left n b x y
summed-lacks v d t k s h e mx cy =
    let g = stamp t k end in
    let w : has_content v (join d g) ≡ has_content v d = has_join v d g ∙ rw (content-lacking v t k e) (or-false (has_content v d)) in
    record {
      flat = omega (arith, depth-join d g, s.flat, h.flat);
      nodes-in = rw w (omega (arith, nodes-both v d g, s.nodes-in, nodes-lacking v t k e, when-most (has_content v d) mx));
      bytes-in = rw w (omega (arith, bytes-both v d g, s.bytes-in, bytes-lacking v t k e, when-most (has_content v d) cy));
    }

-- a content that version v has is its first
summed-has : (v : ℕ) (d : Forest) (t : Bytes) (k : Forest) {left n b m c x y i j : ℕ} → Summed v d left n b m c → Bounded v (stamp t k end) left i j → is_sole k ≡ false → belongs v t ≡ true
    → Parted v (join d (stamp t k end)) → i ≤ x → j ≤ y → Summed v (join d (stamp t k end)) left n b x y
summed-has v d t k {n = n} {b} {m} {c} {x} {y} s h o e p mx cy =
    let g = stamp t k end in
    let w : has_content v (join d g) ≡ true = has_join v d g ∙ or-second (has_content v d) (has_content v g) (content-there v t k o e) in
    let z : has_content v d ≡ false = parted-last v d t k p o e in
    let a : nodes (pick v d) ≤ n + 0 = rw z at s.nodes-in in
    let a2 : length (write (pick v d)) ≤ b + 0 = rw z at s.bytes-in in
    record {
      flat = omega (arith, depth-join d g, s.flat, h.flat);
      nodes-in = rw w (omega (arith, nodes-both v d g, a, h.nodes-in));
      bytes-in = rw w (omega (arith, bytes-both v d g, a2, h.bytes-in));
    }

module _ {src cells : List ℕ} {lo p q left n b m c : ℕ} where
  -- the next node
  pub gone-front : Gone src cells lo p q left n b m c → p < q → Front src cells p q
  gone-front g l = front g.after l

  pub gone-next : Gone src cells lo p q left n b m c → p < q → Valid src cells p (next_at cells p)
  gone-next g l = let s = split g.after l in record { forest = s.first; tape = s.here }

  -- it is no content
  pub gone-plain : {i j : ℕ} → Gone src cells lo p q left n b m c → p < q → Most src cells p (next_at cells p) left i j
      → ((f : Forest) → Tape src cells p (next_at cells p) f → content_node f ≡ false) → Gone src cells lo (next_at cells p) q left (n + i) (b + j) m c
  gone-plain g l h o =
      let s = split g.after l in
      let w = front g.after l in
      record {
        done = join g.done s.first;
        rest = s.rest;
        before = tape-join g.before s.here;
        after = s.after;
        few = omega (arith, g.few, h.few, w.forward, tape-le g.before);
        short = omega (arith, g.short, h.short, w.forward, tape-le g.before);
        each = λ v x.
            let y = parted-join v g.done s.first x in
            summed-plain v g.done s.first (g.each v y.0) (h.each s.first s.here v y.1) (plain-node s.here w.forward (o s.first s.here) v);
      }

  -- it is one
  pub gone-content : {i j x y : ℕ} → Gone src cells lo p q left n b m c → p < q → Most src cells p (next_at cells p) left i j
      → ((f : Forest) → Tape src cells p (next_at cells p) f → content_node f ≡ true) → x ≡ max m i → y ≡ max c j → Gone src cells lo (next_at cells p) q left n b x y
  gone-content {i} {j} {x} {y} g l h o ex ey =
      let s = split g.after l in
      let w = front g.after l in
      let k = content-node s.here w.forward (o s.first s.here) in
      record {
        done = join g.done s.first;
        rest = s.rest;
        before = tape-join g.before s.here;
        after = s.after;
        few = omega (arith, g.few, h.few, w.forward, tape-le g.before, ex);
        short = omega (arith, g.short, h.short, w.forward, tape-le g.before, ey);
        each = λ v z.
            let u = parted-join v g.done s.first z in
            let a : Bounded v (stamp k.set k.kids end) left i j = rw k.is at (h.each s.first s.here v u.1) in
            let e = g.each v u.0 in
            rw k.is (by-test (belongs v k.set)
            (λ r. summed-has v g.done k.set k.kids {x = x} {y = y} e a k.many r (rw k.is at z) (omega (arith, ex)) (omega (arith, ey)))
            (λ r. summed-lacks v g.done k.set k.kids {x = x} {y = y} e a r (omega (arith, ex)) (omega (arith, ey))));
      }

  pub gone-done : Gone src cells lo p q left n b m c → q ≤ p → Most src cells lo q left (n + m) (b + c)
  gone-done g l =
      let e : q ≡ p = omega (arith, tape-le g.after) in
      record {
        few = omega (arith, g.few);
        short = omega (arith, g.short);
        each = λ f t v h.
            let d : f ≡ g.done = tape-one t (rw e g.before) in
            let s = g.each v (rw d at h) in
            rw d (record {
              flat = s.flat;
              nodes-in = omega (arith, s.nodes-in, when-all (has_content v g.done) m);
              bytes-in = omega (arith, s.bytes-in, when-all (has_content v g.done) c);
            });
      }

pub gone-start : {src cells : List ℕ} {lo q left : ℕ} → Valid src cells lo q → Gone src cells lo lo q left 0 0 0 0
unfolding depth pick nodes write has_content
gone-start t = record { done = end; rest = t.forest; before = at-end refl; after = t.tape; few = omega arith; short = omega arith; each = λ v h. record { flat = omega arith; nodes-in = omega arith; bytes-in = omega arith } }

-- ---- a legal archive within the limits by these bounds
all_so : (P : ℕ → Bool) (i n : ℕ) → ((j : ℕ) → i ≤ j → j < i + n → P j ≡ true) → all P (up_from i n) ≡ true
unfolding all up_from
all_so P i zero h = refl
all_so P i (suc n) h = and_both (P i) (all P (up_from (suc i) n)) (h i (omega arith) (omega arith)) (all_so P (suc i) n (λ j a b. h j (omega arith) (omega arith)))

pub bounded-small : {src cells : List ℕ} {lo hi n x y : ℕ} → LegalInside src cells lo hi n → Most src cells lo hi 16 x y → x ≤ 512 → y ≤ 16384 → (f : Forest) → Tape src cells lo hi f → true ≡ all_small n f
unfolding all_small
bounded-small {n = n} w m a c f t =
    sym (all_so (λ i. not (too_large (pick i f))) 1 n (λ j l h.
    let z : suc (j - 1) ≡ j = omega arith in
    let e : siblings_legal w.keys n [] (always n) f ≡ true = ap (siblings_legal w.keys n [] (always n)) (tape-one t w.tape) ∙ w.legal in
    let p : Parted j f = rw z at (siblings-parted n (j - 1) (omega arith) w.keys [] (always n) f e) in
    let s = m.each f t j p in
    not-large (pick j f) (omega (arith, depth-pick j f, s.flat))
    ∙ and_both (leb (nodes (pick j f)) 512) (leb (length (write (pick j f))) 16384) (le-leb (nodes (pick j f)) 512 (omega (arith, s.nodes-in))) (le-leb (length (write (pick j f))) 16384 (omega (arith, s.bytes-in)))))
