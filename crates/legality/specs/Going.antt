-- The walk that measures every version, on its way from sibling to sibling.
use Rattle.std.specs.Prelude.{Option, ℕ, ◌+◌, ◌-◌, ◌%◌, ◌^◌, ◌<◌, ◌≤◌, ◌≡◌, refl, Bool, true, false, List, eqb, length}
use Rattle.std.proofs.Common.{arith, sym, ◌∙◌, ap, eqb-true}
use Rattle.std.proofs.lemmas.Bool.{eqb-false}
use Rattle.xml.specs.Complete.{join-end, join-assoc}
use Rattle.xml.specs.Forest.{Forest, end, join}
use Rattle.xml.specs.Tape.{head_at, next_at, start_in, end_in, Tape, at-end}
use Rattle.xml.specs.TapeLaws.{bytes_at, Front, tape-le, tape-none, tape-one, tape-join, front, split, inner-node}
use Rattle.std.proofs.Math.Seq.{length-slice}
use Rattle.xml.specs.Signs.{spelt}
use Rattle.xml.specs.SignLaws.{length-spelt}
use Rattle.xml.specs.Truth.{by-test, clash, or-both, or-first, or-second}
use Rattle.versions.specs.Sizes.{own_nodes, own_bytes, timed_in}
use Rattle.versions.specs.Grown.{Cells, grown-none, grown-then, grown-same}
use Rattle.legality.specs.Measured.{stopped, nodes_of, bytes_of, owned, stops, nodes-join, bytes-join, timed-join, stops_join, few-nodes, few_bytes, AllRead, read_join, Room, Sums, Measured}
use Rattle.legality.specs.Raised.{Readable}
use Rattle.legality.specs.declared.bounds.Size.{Size}

-- the nodes lo to p are measured, and p to q are left
pub record Going (src cells : List ℕ) (lo p q left : ℕ) (w : Bool) (f : Forest) (n b : ℕ) (nodes nodes' bytes bytes' : List ℕ) : Type 0 where
  pub done : Forest
  pub rest : Forest
  pub before : Tape src cells lo p done
  pub after : Tape src cells p q rest
  pub is : f ≡ join done rest
  pub went : stops left w done ≡ false
  pub sums : Sums done n b nodes nodes' bytes bytes'

sums_join : {f g : Forest} {n b i j m c : ℕ} {x x' x'' y y' y'' : List ℕ} → Sums f n b x x' y y' → Sums g i j x' x'' y' y'' → m ≡ n + i → c ≡ b + j → Sums (join f g) m c x x'' y y''
sums_join {f} {g} s t e d =
    record {
      own-nodes = omega (arith, s.own-nodes, t.own-nodes, nodes-join f g);
      own-bytes = omega (arith, s.own-bytes, t.own-bytes, bytes-join f g);
      in-nodes = grown-same (λ v. timed_in own_nodes v (join f g)) (λ v l h. sym (timed-join own_nodes v f g)) (grown-then s.in-nodes t.in-nodes);
      in_bytes = grown-same (λ v. timed_in own_bytes v (join f g)) (λ v l h. sym (timed-join own_bytes v f g)) (grown-then s.in_bytes t.in_bytes);
    }

module _ {src cells : List ℕ} where
  pub going_start : {lo q left : ℕ} {w : Bool} {f : Forest} {x y : List ℕ} → Tape src cells lo q f → Going src cells lo lo q left w f 0 0 x x y y
  unfolding own_nodes own_bytes timed_in stops join
  going_start {f = f} t =
      record {
        done = end;
        rest = f;
        before = at-end refl;
        after = t;
        is = refl;
        went = refl;
        sums = record { own-nodes = refl; own-bytes = refl; in-nodes = grown-none; in_bytes = grown-none };
      }

  -- what the next node asks
  pub going-room : {lo p q left : ℕ} {w : Bool} {f : Forest} {n b : ℕ} {x x' y y' : List ℕ} → Room src cells lo q x y → Going src cells lo p q left w f n b x x' y y' → p < q → Room src cells p (next_at cells p) x' y'
  going-room {lo} {p} {q} m g l =
      let s = split g.after l in
      let z = tape-le s.here in
      let j = tape-le s.after in
      let u = tape-le g.before in
      let e : m.forest ≡ join g.done (join s.first s.rest) = tape-one m.tape (tape-join g.before g.after) ∙ ap (join g.done) s.is in
      record {
        forest = s.first;
        tape = s.here;
        stamps = (read_join s.first s.rest (read_join g.done (join s.first s.rest) (rw e at m.stamps)).1).0;
        few = omega (arith, m.few);
        nodes-count = g.sums.in-nodes.count ∙ m.nodes-count;
        bytes_count = g.sums.in_bytes.count ∙ m.bytes_count;
        nodes-room = λ v a c. omega (arith, m.nodes-room v a c, g.sums.in-nodes.each v a c, few-nodes v g.before);
        bytes-room = λ v a c. omega (arith, m.bytes-room v a c, g.sums.in_bytes.each v a c, few_bytes v g.before);
      }

  -- the sums fit their words
  pub going-fits : {lo p q left : ℕ} {w : Bool} {f : Forest} {n b : ℕ} {x x' x'' y y' y'' : List ℕ} {r : Option Size} → Room src cells lo q x y → Going src cells lo p q left w f n b x x' y y' → p < q
      → ((h : Forest) → Tape src cells p (next_at cells p) h → Measured left w h r x' x'' y' y'') → (stopped r) ≡ false → (n + (nodes_of r) < 2 ^ 32) × (b + (bytes_of r) < 2 ^ 32)
  going-fits {lo} {p} {q} m g l k e =
      let s = split g.after l in
      let z = tape-le s.here in
      let j = tape-le s.after in
      let u = tape-le g.before in
      let t = (k s.first s.here).sums e in (
        omega (arith, m.few, g.sums.own-nodes, t.own-nodes, few-nodes 0 g.before, few-nodes 0 s.here),
        omega (arith, m.few, g.sums.own-bytes, t.own-bytes, few_bytes 0 g.before, few_bytes 0 s.here),
      )

  pub going_more : {lo p q left : ℕ} {w : Bool} {f : Forest} {n b i j : ℕ} {x x' x'' y y' y'' : List ℕ} {r : Option Size} → Going src cells lo p q left w f n b x x' y y' → p < q
      → ((h : Forest) → Tape src cells p (next_at cells p) h → Measured left w h r x' x'' y' y'') → (stopped r) ≡ false → i ≡ n + (nodes_of r) → j ≡ b + (bytes_of r)
      → Going src cells lo (next_at cells p) q left w f i j x x'' y y''
  going_more {left = left} {w = w} g l k e a c =
      let s = split g.after l in
      let t = k s.first s.here in
      record {
        done = join g.done s.first;
        rest = s.rest;
        before = tape-join g.before s.here;
        after = s.after;
        is = g.is ∙ ap (join g.done) s.is ∙ sym (join-assoc g.done s.first s.rest);
        went = stops_join left w g.done s.first ∙ or-both (stops left w g.done) (stops left w s.first) g.went (sym t.stop ∙ e);
        sums = sums_join g.sums (t.sums e) a c;
      }

  pub going-stopped : {lo p q left : ℕ} {w : Bool} {f : Forest} {n b : ℕ} {x x' x'' y y' y'' : List ℕ} {r : Option Size} → Going src cells lo p q left w f n b x x' y y' → p < q
      → ((h : Forest) → Tape src cells p (next_at cells p) h → Measured left w h r x' x'' y' y'') → (stopped r) ≡ true → Measured left w f r x x'' y y''
  going-stopped {left = left} {w = w} g l k e =
      let s = split g.after l in
      let t = k s.first s.here in
      let u : stops left w (join s.first s.rest) ≡ true = stops_join left w s.first s.rest ∙ or-first (stops left w s.first) (stops left w s.rest) (sym t.stop ∙ e) in
      record {
        nodes-kept = t.nodes-kept ∙ g.sums.in-nodes.count;
        bytes-kept = t.bytes-kept ∙ g.sums.in_bytes.count;
        stop = e ∙ sym (ap (stops left w) (g.is ∙ ap (join g.done) s.is) ∙ stops_join left w g.done (join s.first s.rest) ∙ or-second (stops left w g.done) (stops left w (join s.first s.rest)) u);
        sums = λ d. clash (sym e ∙ d);
      }

  pub going_done : {lo p q left : ℕ} {w : Bool} {f : Forest} {n b : ℕ} {x x' y y' : List ℕ} → Going src cells lo p q left w f n b x x' y y' → q ≤ p
      → Measured left w f (owned n b) x x' y y'
  going_done {p = p} {q} {f = f} g l =
      let e : q ≡ p = omega (arith, tape-le g.after) in
      let d : f ≡ g.done = g.is ∙ ap (join g.done) (tape-none (rw e at g.after)) ∙ join-end g.done in
      rw d (record { nodes-kept = g.sums.in-nodes.count; bytes-kept = g.sums.in_bytes.count; stop = sym g.went; sums = λ _. g.sums })

  -- ---- inside a node
  pub text-short : {p q : ℕ} → Front src cells p q → length (spelt (bytes_at src cells p)) ≤ 163835
  text-short {p} g =
      omega (arith, length-spelt (bytes_at src cells p), length-slice (start_in (head_at cells p)) (end_in (head_at cells p)) src g.within)

  pub name-length : {p q : ℕ} → Front src cells p q → length (bytes_at src cells p) ≡ end_in (head_at cells p) - start_in (head_at cells p)
  name-length {p} g = length-slice (start_in (head_at cells p)) (end_in (head_at cells p)) src g.within

  inner-read : {p : ℕ} {f : Forest} (t : Tape src cells p (next_at cells p) f) (l : p < next_at cells p) (k : head_at cells p % 4 ≡ 0 → ⊥) → AllRead f → AllRead (inner-node t l k).kids
  inner-read {p} t l k a =
      let i = inner-node t l k in
      by-test (eqb (head_at cells p % 4) 1) (λ q. (rw (i.element (eqb-true (head_at cells p % 4) 1 q)) at a).0)
      (λ q. (rw (i.timed (omega (arith, (front t l).kind, k, eqb-false (head_at cells p % 4) 1 q))) at a).1)

  -- a `T` has the text of a set
  pub inner-text : {p : ℕ} {x y : List ℕ} → Room src cells p (next_at cells p) x y → p < next_at cells p → head_at cells p % 4 ≡ 2 → Readable (bytes_at src cells p)
  inner-text m l k = (rw ((inner-node m.tape l (λ z. omega arith)).timed k) at m.stamps).0

  pub inner_room : {p : ℕ} {x y : List ℕ} → Room src cells p (next_at cells p) x y → p < next_at cells p → (head_at cells p % 4 ≡ 0 → ⊥) → Room src cells (p + 1) (next_at cells p) x y
  inner_room m l k =
      let i = inner-node m.tape l k in
      record {
        forest = i.kids;
        tape = i.tape;
        stamps = inner-read m.tape l k m.stamps;
        few = m.few;
        nodes-count = m.nodes-count;
        bytes_count = m.bytes_count;
        nodes-room = λ v a c. omega (arith, m.nodes-room v a c);
        bytes-room = λ v a c. omega (arith, m.bytes-room v a c);
      }

  -- what it holds itself
  pub inner-own : {lo hi left : ℕ} {w : Bool} {x x' y y' : List ℕ} {r : Option Size} → Room src cells lo hi x y
      → ((h : Forest) → Tape src cells lo hi h → Measured left w h r x x' y y') → (stopped r) ≡ false → ((nodes_of r) ≤ 16384) × ((bytes_of r) ≤ 2684354560)
  inner-own m k e =
      let t = (k m.forest m.tape).sums e in
      let z = tape-le m.tape in
      (omega (arith, m.few, t.own-nodes, few-nodes 0 m.tape), omega (arith, m.few, t.own-bytes, few_bytes 0 m.tape))

  -- and the cells' room for it
  pub inner-cells : {lo hi left : ℕ} {w : Bool} {x x' y y' : List ℕ} {r : Option Size} → Room src cells lo hi x y
      → ((h : Forest) → Tape src cells lo hi h → Measured left w h r x x' y y') → (stopped r) ≡ false → Cells x' 1 (nodes_of r) × Cells y' 1 (bytes_of r)
  inner-cells m k e =
      let t = (k m.forest m.tape).sums e in (
        record { count = t.in-nodes.count ∙ m.nodes-count; room = λ v a c. omega (arith, t.own-nodes, t.in-nodes.each v a c, m.nodes-room v a c, few-nodes v m.tape) },
        record { count = t.in_bytes.count ∙ m.bytes_count; room = λ v a c. omega (arith, t.own-bytes, t.in_bytes.each v a c, m.bytes-room v a c, few_bytes v m.tape) },
      )
