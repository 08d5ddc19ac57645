-- Adding a version, the walk: what it asks at an element and at a sibling that the version has too, and how far it has come.
use Rattle.std.specs.Prelude.{ℕ, ◌+◌, ◌%◌, ◌<◌, ◌≤◌, ◌≡◌, refl, true, false, List, [], ◌++◌, eqb}
use Rattle.std.proofs.Common.{arith, sym, ◌∙◌, append-nil, append_assoc, eqb-true}
use Rattle.std.proofs.Math.Path.{ap}
use Rattle.std.proofs.Math.Option.{Option, none, some}
use Rattle.std.proofs.lemmas.Bool.{eqb-false}
use Rattle.xml.specs.Bytes.{Bytes}
use Rattle.xml.specs.Forest.{Forest, end, elem, stamp, write, nodes, join}
use Rattle.xml.specs.Over.{Wrote}
use Rattle.xml.specs.OverLaws.{wrote_none, wrote_then}
use Rattle.xml.specs.Tape.{next_at, head_at, Node, Tape}
use Rattle.xml.specs.TapeLaws.{Front, front, opening, closing, tape-le, tape-none}
use Rattle.xml.specs.Complete.{join-assoc}
use Rattle.xml.specs.Truth.{by-test}
use Rattle.model.specs.Orders.{labels}
use Rattle.keys.specs.KeyList.{Path, KeyList, above, key_names_at}
use Rattle.keys.specs.Version.{◌▸◌, Label, label}
use Rattle.keys.specs.Legal.{untimed}
use Rattle.keys.specs.Labelled.{has_keys}
use Rattle.keys.specs.Ranks.{rank}
use Rattle.keys.specs.Table.{place_of, Table}
use Rattle.timestamp.specs.Times.{Times}
use Rattle.versions.specs.Walk.{first_label, newest, add_new}
use Rattle.versions.specs.AddParts.{Says, sibling, set_in, old_part, both_part, opened, closed, order_of, SetOf, FrontIn, SiblingsIn, VersionIn, place_in, At}
use Rattle.versions.specs.HistoryTape.{element_at, element-timed, element-bare}
use Rattle.versions.specs.AddTurns.{Next, next-element, add-new}
use Rattle.versions.specs.AddFront.{wrote-join, join-end}

-- ---- the two kinds of siblings
module _ {src cells : List ℕ} {p : ℕ} {o : Option Bytes} {m : Bytes} {k : Forest} (a : At src cells p o m k) (P : Option Bytes → Type 0) where
  pub timed-by : head_at cells p % 4 ≡ 2 → ((s : Bytes) → Node src cells p 2 s → P (some s)) → P o
  timed-by e f = go o a e f
    where
      go : (o : Option Bytes) → At src cells p o m k → head_at cells p % 4 ≡ 2 → ((s : Bytes) → Node src cells p 2 s → P (some s)) → P o
      go none a e f = absurd (omega (arith, a.node.kind-is))
      go (some s) a e f = f s a.outer

  pub bare-by : (head_at cells p % 4 ≡ 2 → ⊥) → P none → P o
  bare-by e x = go o a e x
    where
      go : (o : Option Bytes) → At src cells p o m k → (head_at cells p % 4 ≡ 2 → ⊥) → P none → P o
      go none a e x = x
      go (some s) a e x = absurd (e a.outer.kind-is)

-- its element
pub at_place : {src cells : List ℕ} {p : ℕ} {o : Option Bytes} {m : Bytes} {k : Forest} → At src cells p o m k → element_at cells p ≡ place_in o p
at_place {cells = cells} {p = p} {o = o} a = by-test (eqb (head_at cells p % 4) 2)
    (λ e. let h = eqb-true (head_at cells p % 4) 2 e in timed-by a (λ z. element_at cells p ≡ place_in z p) h (λ s d. element-timed cells p h))
    (λ e. let h = eqb-false (head_at cells p % 4) 2 e in bare-by a (λ z. element_at cells p ≡ place_in z p) h (element-bare cells p h))

pub at_forward : {src cells : List ℕ} {p : ℕ} (o : Option Bytes) {m : Bytes} {k : Forest} → At src cells p o m k → (p ≤ place_in o p) × (place_in o p < next_at cells p)
at_forward none a = (omega arith, omega (arith, tape-le a.inner, a.ends))
at_forward (some s) a = (omega arith, omega (arith, tape-le a.inner, a.ends))

-- ---- what it asks
-- of an element at the place: what it holds in the archive and in the version
pub record Held (text : Bytes) (table : List ℕ) (n-paths place : ℕ) (src cells : List ℕ) (lo hi : ℕ) (vsrc vcells : List ℕ) (vlo vhi n a e : ℕ)
    (K : KeyList) (w : Path) (t : Times) (f v : Forest) : Type 0 where
  pub tabled : Table text table n-paths K
  pub place_is : place_of K w ≡ place
  pub tape : Tape src cells lo hi f
  pub vtape : Tape vsrc vcells vlo vhi v
  pub siblings : above K w ≡ true → SiblingsIn K n w f
  pub front : above K w ≡ false → FrontIn n f
  pub version : above K w ≡ true → VersionIn K w v
  pub plain : untimed v ≡ true
  pub set : Says n src a e t

pub record SomeHeld (text : Bytes) (table : List ℕ) (n-paths place : ℕ) (src cells : List ℕ) (lo hi : ℕ) (vsrc vcells : List ℕ) (vlo vhi n a e : ℕ) : Type 0 where
  pub key_list : KeyList
  pub path : Path
  pub times : Times
  pub forest : Forest
  pub other : Forest
  pub held : Held text table n-paths place src cells lo hi vsrc vcells vlo vhi n a e key_list path times forest other

-- of a sibling whose element is at the place, and that the version has too
pub record Both (text : Bytes) (table : List ℕ) (n-paths place : ℕ) (src cells : List ℕ) (p : ℕ) (vsrc vcells : List ℕ) (q n a e : ℕ)
    (K : KeyList) (w : Path) (t : Times) (o : Option Bytes) (m : Bytes) (k g : Forest) : Type 0 where
  pub tabled : Table text table n-paths K
  pub place_is : place_of K (w ▸ m) ≡ place
  pub at : At src cells p o m k
  pub own-set : SetOf n o
  pub siblings : above K (w ▸ m) ≡ true → SiblingsIn K n (w ▸ m) k
  pub front : above K (w ▸ m) ≡ false → FrontIn n k
  pub vnode : Node vsrc vcells q 1 m
  pub vinner : Tape vsrc vcells (q + 1) (next_at vcells q) g
  pub version : above K (w ▸ m) ≡ true → VersionIn K (w ▸ m) g
  pub plain : untimed g ≡ true
  pub set : Says n src a e t

pub record SomeBoth (text : Bytes) (table : List ℕ) (n-paths place : ℕ) (src cells : List ℕ) (p : ℕ) (vsrc vcells : List ℕ) (q n a e : ℕ) : Type 0 where
  pub key_list : KeyList
  pub path : Path
  pub times : Times
  pub own : Option Bytes
  pub name : Bytes
  pub kids : Forest
  pub other : Forest
  pub both : Both text table n-paths place src cells p vsrc vcells q n a e key_list path times own name kids other

-- of the next siblings of both, to compare their labels, where the element of the archive's is at the place
pub record SomeNext (text : Bytes) (table : List ℕ) (n-paths place : ℕ) (src cells : List ℕ) (p : ℕ) (vsrc vcells : List ℕ) (q vhi : ℕ) : Type 0 where
  pub key_list : KeyList
  pub path : Path
  pub tabled : Table text table n-paths key_list
  pub own : Option Bytes
  pub name : Bytes
  pub kids : Forest
  pub place_is : place_of key_list (path ▸ name) ≡ place
  pub at : At src cells p own name kids
  pub keys : has_keys (key_names_at key_list (path ▸ name)) kids ≡ true
  pub other : Forest
  pub vtape : Tape vsrc vcells q vhi other
  pub version : VersionIn key_list path other

-- ---- a sibling that both have, as it is written
element-written : (m : Bytes) (x : Forest) → write (elem m x end) ≡ opening true m ++ write x ++ closing true m
unfolding write opening closing
element-written m x = simp (append-nil, append_assoc)

stamp-written : (s : Bytes) (x : Forest) → write (stamp s x end) ≡ opening false s ++ write x ++ closing false []
unfolding write opening closing
stamp-written s x = simp (append-nil, append_assoc)

pub both-wrote : {out a b c d left : List ℕ} {at i j k l r : ℕ} (n : ℕ) (t : Times) (o : Option Bytes) (m : Bytes) (x : Forest)
    → Wrote out at (opened (set_in n t o) o) i a → Wrote a i (opening true m) j b → Wrote b j (write x) k c → Wrote c k (closing true m) l d → Wrote d l (closed o) r left
    → Wrote out at (write (both_part n o m x)) r left
both-wrote n t none m x p q y z e = rw (element-written m x) (simp append-nil at (wrote_then p (wrote_then (wrote_then (wrote_then q y) z) e)))
both-wrote n t (some s) m x p q y z e = rw (stamp-written, element-written m x) (wrote_then (wrote_then p (wrote_then (wrote_then q y) z)) e)

pub both-nodes : (n : ℕ) (o : Option Bytes) (m : Bytes) (x k : Forest) (d : ℕ) → nodes x ≡ nodes k + d → nodes (both_part n o m x) ≡ nodes (sibling o m k) + d
unfolding nodes
both-nodes n none m x k d e = omega arith
both-nodes n (some s) m x k d e = omega arith

pub old-nodes : (t : Times) (o : Option Bytes) (m : Bytes) (k : Forest) → nodes (old_part t o m k) ≡ nodes (sibling o m k)
unfolding nodes
old-nodes t none m k = omega arith
old-nodes t (some s) m k = refl

-- ---- what is left of the version, on the way
pub record Newer (src cells : List ℕ) (q hi n : ℕ) (K : KeyList) (w : Path) (whole : Forest) (out : List ℕ) (at to : ℕ) (left : List ℕ) : Type 0 where
  pub rest : Forest
  pub tape : Tape src cells q hi rest
  pub version : VersionIn K w rest
  pub made : Forest
  pub all : whole ≡ join made (add_new K n w rest)
  pub wrote : Wrote out at (write made) to left

pub newer-none : {src cells : List ℕ} {lo hi n : ℕ} {K : KeyList} {w : Path} {v : Forest} {out : List ℕ} {at : ℕ} → Tape src cells lo hi v → VersionIn K w v
    → Newer src cells lo hi n K w (add_new K n w v) out at at out
unfolding join write
newer-none {v = v} h x = record { rest = v; tape = h; version = x; made = end; all = refl; wrote = wrote_none }

module _ {src cells : List ℕ} {q hi n : ℕ} {K : KeyList} {w : Path} {whole : Forest} {out mid : List ℕ} {at to : ℕ} (x : Newer src cells q hi n K w whole out at to mid) where
  pub newer-more : {r : ℕ} {left : List ℕ} → q < hi → ((f : Forest) → Tape src cells q (next_at cells q) f → Wrote mid to (write (newest n f end)) r left)
      → Newer src cells (next_at cells q) hi n K w whole out at r left
  newer-more l y =
      let s = next-element x.tape x.version l in
      let g : Forest = elem s.name s.kids end in
      record {
        rest = s.rest;
        tape = s.after;
        version = s.others;
        made = join x.made (newest n g end);
        all = x.all ∙ ap (λ f. join x.made f) (ap (add_new K n w) s.is ∙ add-new K n w s.name s.kids s.rest) ∙ sym (join-assoc x.made (newest n g end) (add_new K n w s.rest));
        wrote = wrote-join x.made (newest n g end) x.wrote (y g s.here);
      }

  pub newer-done : hi ≤ q → Wrote out at (write whole) to mid
  unfolding add_new
  newer-done l =
      let z : hi ≡ q = omega (arith, tape-le x.tape) in
      let e : whole ≡ x.made = x.all ∙ ap (λ f. join x.made (add_new K n w f)) (tape-none (rw z at x.tape)) ∙ join-end x.made in
      rw e x.wrote

-- ---- the labels of the next ones
pub at_front : {src cells : List ℕ} {p : ℕ} (o : Option Bytes) {m : Bytes} {k : Forest} → At src cells p o m k → Front src cells p (next_at cells p)
at_front o a = front a.here (omega (arith, at_forward o a))

pub order-none : {src cells : List ℕ} {q hi : ℕ} {v : Forest} (K : KeyList) (w : Path) (l : Label) → Tape src cells q hi v → hi ≤ q → order_of l (first_label K w v) ≡ 0
unfolding first_label
order-none {q = q} {hi = hi} K w l h e = let z : hi ≡ q = omega (arith, tape-le h) in ap (λ f. order_of l (first_label K w f)) (tape-none (rw z at h))

pub order-some : {K : KeyList} {w : Path} {src cells : List ℕ} {q hi : ℕ} {v : Forest} (l : Label) (s : Next K w src cells q hi v)
    → order_of l (first_label K w v) ≡ rank (labels.cmp l (label K w s.name s.kids))
unfolding first_label
order-some {K} {w} l s = ap (λ f. order_of l (first_label K w f)) s.is
