-- What the tape holds while nodes are open, and how it changes as they are opened and closed.
use Rattle.std.specs.Prelude.{ℕ, ◌+◌, ◌*◌, ◌-◌, ◌<◌, ◌≤◌, ◌≡◌, refl, List, length, get_or, set}
use Rattle.std.proofs.Common.{ap, sym, ◌∙◌, subst, arith, length-set, get_or-set_same, get_or-set_other}
use Rattle.xml.specs.Bytes.{Bytes}
use Rattle.xml.specs.Forest.{Forest, end, elem, text, stamp, join}
use Rattle.xml.specs.Read.{Tag, named, timed, tag_node, Stack, outer, inside}
use Rattle.xml.specs.Tape.{next_at, Node, Tape, at-end, at-elem, at-stamp, size}
use Rattle.xml.specs.TapeLaws.{Kept, kept-part, tape-le, tape-size, tape-join, node-same, tape-same}

-- an open node's kind, and the bytes of the text that name it
abbrev pub tag_kind : Tag → ℕ
tag_kind (named n) = 1
tag_kind (timed t) = 2

abbrev pub tag_bytes : Tag → Bytes
tag_bytes (named n) = n
tag_bytes (timed t) = t

-- how many nodes there are, open ones among them
unfoldable pub stack_size : Stack → Forest → ℕ
stack_size outer f = size f
stack_size (inside o g st) f = 1 + size f + stack_size st g

-- the first n nodes are what was read: `top` is one more than the number of the innermost open node, or 0; f is what stands in it; the
-- second cell of an open node holds the `top` of the node around it
pub data Held (src cells : List ℕ) : Stack → Forest → ℕ → ℕ → Type 0 where
  held_none : {f : Forest} {top n : ℕ} → top ≡ 0 → Tape src cells 0 n f → Held src cells outer f top n
  held_in : {o : Tag} {g f : Forest} {st : Stack} {top n : ℕ} → 0 < top → Node src cells (top - 1) (tag_kind o) (tag_bytes o) → Tape src cells top n f
      → Held src cells st g (next_at cells (top - 1)) (top - 1) → Held src cells (inside o g st) f top n

pub size-join : (f g : Forest) → size (join f g) ≡ size f + size g
unfolding size join
size-join end g = omega arith
size-join (text b r) g = omega (arith, size-join r g)
size-join (elem n k r) g = omega (arith, size-join r g)
size-join (stamp t k r) g = omega (arith, size-join r g)

pub size-node : (o : Tag) (f : Forest) → size (tag_node o f) ≡ 1 + size f
unfolding size
size-node (named n) f = omega arith
size-node (timed t) f = omega arith

module _ {src cells : List ℕ} where
  pub held-le : {st : Stack} {f : Forest} {top n : ℕ} → Held src cells st f top n → top ≤ n
  held-le (held_none e t) = omega arith
  held-le (held_in p d t h) = tape-le t

  pub held-size : {st : Stack} {f : Forest} {top n : ℕ} → Held src cells st f top n → n ≡ stack_size st f
  unfolding stack_size
  held-size (held_none e t) = omega (arith, tape-size t)
  held-size (held_in p d t h) = omega (arith, tape-size t, held-size h)

  -- what is read next stands after what is held
  pub held_more : {st : Stack} {f g : Forest} {top n hi : ℕ} → Held src cells st f top n → Tape src cells n hi g → Held src cells st (join f g) top hi
  held_more (held_none e t) u = held_none e (tape-join t u)
  held_more (held_in p d t h) u = held_in p d (tape-join t u) h

  -- a node is opened
  pub held-open : {st : Stack} {f : Forest} {top n : ℕ} (o : Tag) → Held src cells st f top n → Node src cells n (tag_kind o) (tag_bytes o) → next_at cells n ≡ top →
      Held src cells (inside o f st) end (n + 1) (n + 1)
  held-open {st} {f} {top} {n} o h d e =
      let q : n ≡ n + 1 - 1 = omega arith in
      held_in {top = n + 1} (omega arith) (subst (λ (x : ℕ). Node src cells x (tag_kind o) (tag_bytes o)) q d) (at-end refl)
      (subst (λ (x : ℕ). Held src cells st f (next_at cells x) x) q (subst (λ (y : ℕ). Held src cells st f y n) (sym e) h))

  -- the node of a tag that was closed
  tag-tape : {p q : ℕ} {f : Forest} (o : Tag) → Node src cells p (tag_kind o) (tag_bytes o) → Tape src cells (p + 1) (next_at cells p) f → next_at cells p ≡ q →
      Tape src cells p q (tag_node o f)
  tag-tape (named n) d t e = at-elem d t (at-end e)
  tag-tape (timed n) d t e = at-stamp d t (at-end e)

module _ {src cells : List ℕ} (new : List ℕ) where
  pub held_same : {st : Stack} {f : Forest} {top n : ℕ} → Kept cells new 0 n → Held src cells st f top n → Held src new st f top n
  held_same a (held_none e t) = held_none e (tape-same new a t)
  held_same {top = top} {n = n} a (held_in {o = o} {g = g} {f = f} {st = st} p d t h) =
      let l = tape-le t in
      let room = a.room in
      let x : next_at new (top - 1) ≡ next_at cells (top - 1) = a.same (2 * (top - 1) + 1) (omega arith) (omega arith) in
      held_in p (node-same new (a.same (2 * (top - 1)) (omega arith) (omega arith)) (omega arith) d)
      (tape-same new (kept-part (omega arith) (omega arith) a) t)
      (subst (λ (y : ℕ). Held src new st g y (top - 1)) (sym x) (held_same (kept-part (omega arith) (omega arith) a) h))

  -- the open node is closed
  pub held-close : {o : Tag} {g f : Forest} {st : Stack} {top n : ℕ} → Held src cells (inside o g st) f top n → 2 * n ≤ length cells →
      new ≡ set cells (2 * (top - 1) + 1) n → Held src new st (join g (tag_node o f)) (next_at cells (top - 1)) n
  held-close {o} {g} {f} {st} {top} {n} (held_in p d t h) room e =
      let l = tape-le t in
      let i : ℕ = 2 * (top - 1) + 1 in
      let long : length new ≡ length cells = ap length e ∙ length-set cells i n in
      let other : (j : ℕ) → (j ≡ i → ⊥) → get_or new j 0 ≡ get_or cells j 0 =
      λ j x. ap (λ (c : List ℕ). get_or c j 0) e ∙ get_or-set_other cells i j n 0 x
      in
      let next : next_at new (top - 1) ≡ n = ap (λ (c : List ℕ). get_or c i 0) e ∙ get_or-set_same cells i n 0 (omega arith) in
      let above : Kept cells new top n = record { room = omega arith; same = λ j x y. other j (λ z. omega arith) } in
      let below : Kept cells new 0 (top - 1) = record { room = omega arith; same = λ j x y. other j (λ z. omega arith) } in
      let q : top ≡ top - 1 + 1 = omega arith in
      held_more (held_same below h)
      (tag-tape o (node-same new (other (2 * (top - 1)) (λ z. omega arith)) (omega arith) d)
      (subst (λ (y : ℕ). Tape src new (top - 1 + 1) y f) (sym next) (subst (λ (y : ℕ). Tape src new y n f) q (tape-same new above t))) next)
