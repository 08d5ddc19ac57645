-- Adding a version, on the way: of the archive's siblings those from node p are left, and of the version's those from node q.
use Rattle.std.specs.Prelude.{ℕ, ◌+◌, ◌*◌, ◌-◌, ◌<◌, ◌≤◌, ◌≡◌, refl, false, not, ◌&&◌, List, length}
use Rattle.std.proofs.Common.{arith, ◌∙◌, length-append}
use Rattle.std.proofs.Math.Decide.{dec_lt}
use Rattle.std.proofs.Math.Path.{sym, ap, subst}
use Rattle.std.proofs.Math.Bool.{true}
use Rattle.std.proofs.Math.Option.{Option, none, some}
use mathlib.Core.Ordering.{Ordering, lt, eq, gt}
use Rattle.xml.specs.Bytes.{Bytes, bytes, same}
use Rattle.xml.specs.Forest.{Forest, end, elem, write, nodes, join}
use Rattle.xml.specs.Over.{Wrote}
use Rattle.xml.specs.OverLaws.{wrote_none}
use Rattle.xml.specs.Tape.{next_at, Node, Tape}
use Rattle.xml.specs.TapeLaws.{opening, closing, node-bytes, tape-le, tape-none, tape-size}
use Rattle.xml.specs.Complete.{join-assoc}
use Rattle.xml.specs.Truth.{and_left, and_right}
use Rattle.model.specs.Orders.{labels}
use Rattle.keys.specs.KeyList.{Path, KeyList, above}
use Rattle.keys.specs.Version.{◌▸◌, Label, label}
use Rattle.keys.specs.Legal.{untimed}
use Rattle.keys.specs.Ranks.{rank}
use Rattle.keys.specs.Table.{place_of, Table}
use Rattle.timestamp.specs.Times.{Times}
use Rattle.versions.specs.Walk.{first_label, newest, add_content, add_new, add_in}
use Rattle.versions.specs.Sizes.{nodes-join}
use Rattle.versions.specs.AddParts.{Says, sibling, set_in, old_part, both_part, opened, closed, inside, order_of, SiblingsIn, VersionIn, place_in, At}
use Rattle.adding.specs.Growth.{Grew}
use Rattle.versions.specs.AddTurns.{First, first-sibling, Next, next-element, turn-old, turn-both, turn-new, alike, nodes-new}
use Rattle.versions.specs.AddFront.{wrote-join, plain-count}
use Rattle.versions.specs.AddWalk.{Held, Both, both-wrote, both-nodes, old-nodes, order-none, order-some}
use Rattle.adding.specs.declared.content.Added.{Added}

pub record Way (src cells : List ℕ) (p hi : ℕ) (vsrc vcells : List ℕ) (q vhi n : ℕ) (K : KeyList) (w : Path) (t : Times) (whole first : Forest)
    (out : List ℕ) (at to : ℕ) (left : List ℕ) (fresh : ℕ) : Type 0 where
  pub rest : Forest
  pub other : Forest
  pub tape : Tape src cells p hi rest
  pub vtape : Tape vsrc vcells q vhi other
  pub siblings : SiblingsIn K n w rest
  pub version : VersionIn K w other
  pub made : Forest
  pub all : whole ≡ join made (add_in K n w t rest other)
  pub count : nodes made + nodes rest ≡ nodes first + fresh
  pub wrote : Wrote out at (write made) to left

pub way-none : {src cells : List ℕ} {lo hi : ℕ} {vsrc vcells : List ℕ} {vlo vhi n : ℕ} {K : KeyList} {w : Path} {t : Times} {f v : Forest} {out : List ℕ} {at : ℕ}
    → Tape src cells lo hi f → Tape vsrc vcells vlo vhi v → SiblingsIn K n w f → VersionIn K w v
    → Way src cells lo hi vsrc vcells vlo vhi n K w t (add_in K n w t f v) f out at at out 0
unfolding join write nodes
way-none {f = f} {v = v} h g s x =
    record { rest = f; other = v; tape = h; vtape = g; siblings = s; version = x; made = end; all = refl; count = omega arith; wrote = wrote_none }

-- neither before nor after is the same
pub order_same : (l : Label) (o : Option Label) → (order_of l o ≡ 2 → ⊥) → (order_of l o ≡ 0 → ⊥) → order_of l o ≡ 1
order_same l none g h = absurd (h refl)
order_same l (some j) g h = by (labels.cmp l j) g h
  where
    by : (o : Ordering) → (rank o ≡ 2 → ⊥) → (rank o ≡ 0 → ⊥) → rank o ≡ 1
    by lt g h = absurd (h refl)
    by eq g h = refl
    by gt g h = absurd (g refl)

-- above a frontier, and at one
pub inside-above : (K : KeyList) (n : ℕ) (w : Path) (t : Times) (f v : Forest) → above K w ≡ true → inside K n w t f v ≡ add_in K n w t f v
unfolding inside
inside-above K n w t f v e = rw (e, inside)

pub inside-front : (K : KeyList) (n : ℕ) (w : Path) (t : Times) (f v : Forest) → above K w ≡ false → inside K n w t f v ≡ add_content n t v f
unfolding inside
inside-front K n w t f v e = rw (e, inside)

module _ {src cells : List ℕ} {p hi : ℕ} {vsrc vcells : List ℕ} {q vhi n : ℕ} {K : KeyList} {w : Path} {t : Times} {whole first : Forest} {out mid : List ℕ} {at to fresh : ℕ}
    (x : Way src cells p hi vsrc vcells q vhi n K w t whole first out at to mid fresh) where
  -- the archive's next sibling, and how its label compares
  abbrev pub next_of : p < hi → First K n w src cells p hi x.rest
  next_of l = first-sibling x.tape x.siblings l

  abbrev pub order_at : p < hi → ℕ
  order_at l = order_of (label K w (next_of l).name (next_of l).kids) (first_label K w x.other)

  pub order-at : (l : p < hi) {r own : ℕ} → ((o : Option Bytes) (m : Bytes) (k : Forest) → At src cells p o m k → own ≡ place_of K (w ▸ m))
      → ((o : Option Bytes) (m : Bytes) (k v : Forest) → place_of K (w ▸ m) ≡ own → At src cells p o m k → Tape vsrc vcells q vhi v → VersionIn K w v → r ≡ order_of (label K w m k) (first_label K w v))
      → order_at l ≡ r
  order-at l b f =
      let s = next_of l in
      sym (f s.own s.name s.kids x.other (sym (b s.own s.name s.kids s.at)) s.at x.vtape x.version)

  pub there : (l : p < hi) → (order_at l ≡ 0 → ⊥) → q < vhi
  there l h = go (dec_lt q vhi)
    where
      go : Dec (q < vhi) → q < vhi
      go (yes e) = e
      go (no e) = absurd (h (order-none K w (label K w (next_of l).name (next_of l).kids) x.vtape (omega arith)))

  abbrev pub other_of : q < vhi → Next K w vsrc vcells q vhi x.other
  other_of u = next-element x.vtape x.version u

  -- the nodes of the sibling and those after it
  count-rest : (l : p < hi) → nodes x.rest ≡ nodes (sibling (next_of l).own (next_of l).name (next_of l).kids) + nodes (next_of l).rest
  count-rest l = ap nodes (next_of l).is ∙ nodes-join (sibling (next_of l).own (next_of l).name (next_of l).kids) (next_of l).rest

  -- what is added where the next sibling is written as g
  further : (l : p < hi) (v g r : Forest) → x.other ≡ v → add_in K n w t (join (sibling (next_of l).own (next_of l).name (next_of l).kids) (next_of l).rest) v ≡ join g r → whole ≡ join (join x.made g) r
  further l v g r d e =
      x.all ∙ ap (λ f. join x.made (add_in K n w t f x.other)) (next_of l).is
      ∙ ap (λ z. join x.made (add_in K n w t (join (sibling (next_of l).own (next_of l).name (next_of l).kids) (next_of l).rest) z)) d
      ∙ ap (join x.made) e ∙ sym (join-assoc x.made g r)

  pub way-old : {r : ℕ} {left : List ℕ} (l : p < hi) → order_at l ≡ 0 → Wrote mid to (write (old_part t (next_of l).own (next_of l).name (next_of l).kids)) r left
      → Way src cells (next_at cells p) hi vsrc vcells q vhi n K w t whole first out at r left fresh
  way-old l e y =
      let s = next_of l in
      let g : Forest = old_part t s.own s.name s.kids in
      record {
        rest = s.rest;
        other = x.other;
        tape = s.after;
        vtape = x.vtape;
        siblings = s.others;
        version = x.version;
        made = join x.made g;
        all = further l x.other g (add_in K n w t s.rest x.other) refl (turn-old K n w t s.own s.name s.kids s.rest x.version e);
        count = rw (nodes-join x.made g) (omega (arith, x.count, count-rest l, old-nodes t s.own s.name s.kids));
        wrote = wrote-join x.made g x.wrote y;
      }

  pub way-new : {r : ℕ} {left : List ℕ} (l : p < hi) → order_at l ≡ 2 → ((f : Forest) → Tape vsrc vcells q (next_at vcells q) f → Wrote mid to (write (newest n f end)) r left)
      → Way src cells p hi vsrc vcells (next_at vcells q) vhi n K w t whole first out at r left (fresh + (next_at vcells q - q))
  unfolding newest nodes
  way-new l e y =
      let s = next_of l in
      let u = other_of (there l (λ z. omega (arith, z, e))) in
      let g : Forest = elem u.name u.kids end in
      let h : Forest = join (sibling s.own s.name s.kids) s.rest in
      record {
        rest = x.rest;
        other = u.rest;
        tape = x.tape;
        vtape = u.after;
        siblings = x.siblings;
        version = u.others;
        made = join x.made (newest n g end);
        all = further l (elem u.name u.kids u.rest) (newest n g end) (add_in K n w t x.rest u.rest) u.is
            (turn-new K n w t s.own s.name s.kids s.rest u.name u.kids u.rest (sym (order-some (label K w s.name s.kids) u) ∙ e)
            ∙ ap (λ f. join (newest n g end) (add_in K n w t f u.rest)) (sym s.is));
        count = rw (nodes-join x.made (newest n g end)) (omega (arith, x.count, plain-count u.here u.plain));
        wrote = wrote-join x.made (newest n g end) x.wrote (y g u.here);
      }

  -- the sibling that both have
  pub both_of : {text : Bytes} {table : List ℕ} {n-paths place a e : ℕ} (l : p < hi) (u : q < vhi) → order_at l ≡ 1 → Table text table n-paths K
      → ((o : Option Bytes) (m : Bytes) (k : Forest) → At src cells p o m k → place ≡ place_of K (w ▸ m)) → Says n src a e t
      → Both text table n-paths place src cells p vsrc vcells q n a e K w t (next_of l).own (next_of l).name (next_of l).kids (other_of u).kids
  unfolding untimed
  both_of l u e a b c =
      let s = next_of l in
      let o = other_of u in
      let z : o.name ≡ s.name = sym (alike K w s.name s.kids o.name o.kids (sym (order-some (label K w s.name s.kids) o) ∙ e)) in
      record {
        tabled = a;
        place_is = sym (b s.own s.name s.kids s.at);
        at = s.at;
        own-set = s.set;
        siblings = s.siblings;
        front = s.front;
        vnode = subst (λ m. Node vsrc vcells q 1 m) z o.node;
        vinner = o.inner;
        version = subst (λ m. above K (w ▸ m) ≡ true → VersionIn K (w ▸ m) o.kids) z o.version;
        plain = and_right (not (same o.name (bytes "T"))) (untimed o.kids) (and_left (not (same o.name (bytes "T")) && untimed o.kids) true o.plain);
        set = c;
      }

  pub way-both : {most reach : ℕ} {r : Added} {left : List ℕ} (l : p < hi) (u : q < vhi) → order_at l ≡ 1
      → Grew mid to (both_part n (next_of l).own (next_of l).name (inside K n (w ▸ (next_of l).name) (set_in n t (next_of l).own) (next_of l).kids (other_of u).kids))
      (sibling (next_of l).own (next_of l).name (next_of l).kids) most reach r left
      → Way src cells (next_at cells p) hi vsrc vcells (next_at vcells q) vhi n K w t whole first out at r.at left (fresh + r.fresh)
  way-both l u e y =
      let s = next_of l in
      let o = other_of u in
      let g : Forest = both_part n s.own s.name (inside K n (w ▸ s.name) (set_in n t s.own) s.kids o.kids) in
      record {
        rest = s.rest;
        other = o.rest;
        tape = s.after;
        vtape = o.after;
        siblings = s.others;
        version = o.others;
        made = join x.made g;
        all = further l (elem o.name o.kids o.rest) g (add_in K n w t s.rest o.rest) o.is
            (turn-both K n w t s.own s.name s.kids s.rest o.name o.kids o.rest (sym (order-some (label K w s.name s.kids) o) ∙ e));
        count = rw (nodes-join x.made g) (omega (arith, x.count, count-rest l, y.count));
        wrote = wrote-join x.made g x.wrote y.wrote;
      }

  pub way-done : {r : ℕ} {left : List ℕ} → hi ≤ p → Wrote mid to (write (add_new K n w x.other)) r left → Wrote out at (write whole) r left × (nodes whole ≡ nodes first + (fresh + (vhi - q)))
  unfolding add_in nodes
  way-done l y =
      let z : hi ≡ p = omega (arith, tape-le x.tape) in
      let d : x.rest ≡ end = tape-none (rw z at x.tape) in
      let e : whole ≡ join x.made (add_new K n w x.other) = x.all ∙ ap (λ f. join x.made (add_in K n w t f x.other)) d in (
        rw e (wrote-join x.made (add_new K n w x.other) x.wrote y),
        ap nodes e ∙ nodes-join x.made (add_new K n w x.other) ∙ omega (arith, x.count, ap nodes d, nodes-new n x.version, tape-size x.vtape),
      )

-- a sibling that both have, piece by piece
pub both-grew : {out a b c d left : List ℕ} {at i j l s most reach most' reach' : ℕ} {r : Added} (n : ℕ) (t : Times) (o : Option Bytes) (m : Bytes) {x k : Forest}
    → Wrote out at (opened (set_in n t o) o) i a → Wrote a i (opening true m) j b → Grew b j x k most reach r c → Wrote c r.at (closing true m) l d → Wrote d l (closed o) s left
    → most ≤ most' → s ≤ at + reach' → Grew out at (both_part n o m x) (sibling o m k) most' reach' (record { at = s; fresh = r.fresh }) left
both-grew {r = r} n t o m {x} {k} p q y z e f g =
    record { wrote = both-wrote n t o m x p q y.wrote z e; count = both-nodes n o m x k r.fresh y.count; few = omega (arith, y.few); near = g }

-- the bytes that are left for the nodes from p' and q', where those before took no more than their share
room-step : {r most : ℕ} (to a b c d e f : ℕ) → e ≡ a + b → f ≡ c + d → to + 262144 * (e + f) ≤ most → r ≤ to + 262144 * (b + d) → r + 262144 * (a + c) ≤ most
room-step to a b c d e f x y h g = omega arith

pub room-more : (to : ℕ) {r most p p' hi q q' vhi : ℕ} → to + 262144 * (hi - p + (vhi - q)) ≤ most → r ≤ to + 262144 * (p' - p + (q' - q)) → p ≤ p' → p' ≤ hi → q ≤ q' → q' ≤ vhi
    → r + 262144 * (hi - p' + (vhi - q')) ≤ most
room-more to {p = p} {p' = p'} {hi = hi} {q = q} {q' = q'} {vhi = vhi} h g a b c d =
    room-step to (hi - p') (p' - p) (vhi - q') (q' - q) (hi - p) (vhi - q) (omega (arith, a, b)) (omega (arith, c, d)) h g

-- what a sibling that both have holds
pub inner-held : {text : Bytes} {table : List ℕ} {n-paths place : ℕ} {src cells : List ℕ} {p : ℕ} {vsrc vcells : List ℕ} {q n a e b d : ℕ} {K : KeyList} {w : Path} {t : Times}
    {o : Option Bytes} {m : Bytes} {k g : Forest} → Both text table n-paths place src cells p vsrc vcells q n a e K w t o m k g → Says n src b d (set_in n t o)
    → Held text table n-paths place src cells (place_in o p + 1) (next_at cells (place_in o p)) vsrc vcells (q + 1) (next_at vcells q) n b d K (w ▸ m) (set_in n t o) k g
inner-held b s =
    record { tabled = b.tabled; place_is = b.place_is; tape = b.at.inner; vtape = b.vinner; siblings = b.siblings; front = b.front; version = b.version; plain = b.plain; set = s }

-- an element's tags are short
pub opening-short : {src cells : List ℕ} {p kind : ℕ} {m : Bytes} → Node src cells p kind m → length (opening true m) ≤ 32769
unfolding opening bytes
opening-short n = simp length-append (omega (arith, node-bytes n))

pub closing-short : {src cells : List ℕ} {p kind : ℕ} {m : Bytes} → Node src cells p kind m → length (closing true m) ≤ 32770
unfolding closing bytes
closing-short n = simp length-append (omega (arith, node-bytes n))

-- the bytes that are left inside an element, of those for its sibling
pub room-inner : (at q : ℕ) {j most p e end' next vnext : ℕ} → p ≤ e → e < next → end' ≡ next → q + 1 ≤ vnext → j ≤ at + 35777 → at + 262144 * (next - p + (vnext - q)) < most
    → j + (262144 * (end' - (e + 1) + (vnext - (q + 1))) + 32768) < most
room-inner at q {j} {most} {p} {e} {end'} {next} {vnext} a b c d g h =
    go (end' - (e + 1)) (vnext - (q + 1)) (next - p) (vnext - q) (omega (arith, a, b, c)) (omega (arith, d)) h
  where
    go : (x y u v : ℕ) → x + 1 ≤ u → y + 1 ≤ v → at + 262144 * (u + v) < most → j + (262144 * (x + y) + 32768) < most
    go x y u v f k h = omega (arith, g)

pub room-outer : (at q : ℕ) {j x p e end' next vnext : ℕ} → p ≤ e → e < next → end' ≡ next → q + 1 ≤ vnext → j ≤ at + 35777 → x ≤ j + (262144 * (end' - (e + 1) + (vnext - (q + 1))) + 32768)
    → x + 400000 ≤ at + 262144 * (next - p + (vnext - q))
room-outer at q {j} {x} {p} {e} {end'} {next} {vnext} a b c d g h =
    go (end' - (e + 1)) (vnext - (q + 1)) (next - p) (vnext - q) (omega (arith, a, b, c)) (omega (arith, d)) h
  where
    go : (y z u v : ℕ) → y + 1 ≤ u → z + 1 ≤ v → x ≤ j + (262144 * (y + z) + 32768) → x + 400000 ≤ at + 262144 * (u + v)
    go y z u v f k h = omega (arith, g)
