-- Adding a version, one turn: which sibling comes next, what the tapes say of it, and what is left to add.
use Rattle.std.specs.Prelude.{ℕ, ◌+◌, ◌<◌, ◌≡◌, Bool, true, false, ◌&&◌, not, List}
use Rattle.std.proofs.Common.{arith, sym, ◌∙◌}
use Rattle.std.proofs.Math.Path.{refl, ap}
use Rattle.std.proofs.Math.Option.{Option, none, some}
use mathlib.Core.Ordering.{Ordering, lt, eq, gt}
use Rattle.xml.specs.Bytes.{Bytes, bytes, same}
use Rattle.xml.specs.Forest.{Forest, end, elem, text, stamp, nodes, join}
use Rattle.xml.specs.Tape.{next_at, Node, Tape, at-end, at-text, at-elem, at-stamp, size}
use Rattle.xml.specs.Truth.{clash, and_left, and_right}
use Rattle.model.specs.Keyed.{three}
use Rattle.model.specs.Orders.{labels}
use Rattle.keys.specs.KeyList.{Path, KeyList, above, key_names_at}
use Rattle.keys.specs.Version.{◌▸◌, label, name_in}
use Rattle.keys.specs.Legal.{untimed}
use Rattle.keys.specs.Labelled.{has_keys}
use Rattle.keys.specs.Ranks.{rank, rank-eq}
use Rattle.timestamp.specs.Times.{Times}
use Rattle.versions.specs.Walk.{first_label, newest, add_new, add_at, add_in}
use Rattle.versions.specs.AddParts.{sibling, set_in, old_part, both_part, inside, order_of, SetOf, FrontIn, SiblingsIn, no-sibling, bare, timed, VersionIn, no-element, element, At}

-- ---- content that is not timed: each node of the tape counts
pub untimed-size : (f : Forest) → untimed f ≡ true → nodes f ≡ size f
unfolding untimed nodes size
untimed-size end e = refl
untimed-size (text b r) e = ap (λ x. 1 + x) (untimed-size r e)
untimed-size (elem m k r) e =
    let h : (not (same m (bytes "T")) && untimed k) ≡ true = and_left (not (same m (bytes "T")) && untimed k) (untimed r) e in
    go (same m (bytes "T")) (and_left (not (same m (bytes "T"))) (untimed k) h) (untimed-size k (and_right (not (same m (bytes "T"))) (untimed k) h))
    (untimed-size r (and_right (not (same m (bytes "T")) && untimed k) (untimed r) e))
  where
    go : (b : Bool) → not b ≡ true → nodes k ≡ size k → nodes r ≡ size r → elim b as (λ _. ℕ) [ true ↦ 0 | false ↦ 1 ] + nodes k + nodes r ≡ 1 + size k + size r
    go true h x y = clash (sym h)
    go false h x y = omega arith
untimed-size (stamp t k r) e = clash (sym e)

-- ---- the archive's next sibling
pub record First (K : KeyList) (n : ℕ) (w : Path) (src cells : List ℕ) (p hi : ℕ) (f : Forest) : Type 0 where
  pub own : Option Bytes
  pub name : Bytes
  pub kids : Forest
  pub rest : Forest
  pub is : f ≡ join (sibling own name kids) rest
  pub at : At src cells p own name kids
  pub after : Tape src cells (next_at cells p) hi rest
  pub set : SetOf n own
  pub keys : has_keys (key_names_at K (w ▸ name)) kids ≡ true
  pub siblings : above K (w ▸ name) ≡ true → SiblingsIn K n (w ▸ name) kids
  pub front : above K (w ▸ name) ≡ false → FrontIn n kids
  pub others : SiblingsIn K n w rest

pub first-sibling : {K : KeyList} {n : ℕ} {w : Path} {src cells : List ℕ} {p hi : ℕ} {f : Forest} → Tape src cells p hi f → SiblingsIn K n w f → p < hi
    → First K n w src cells p hi f
unfolding join
first-sibling (at-end e) no-sibling l = absurd (omega arith)
first-sibling (at-text _ _ _ _) x l = elim x [ ]
first-sibling (at-stamp d (at-end _) a) x l = elim x [ ]
first-sibling (at-stamp d (at-text _ _ _ _) a) x l = elim x [ ]
first-sibling (at-stamp d (at-elem b i (at-text _ _ _ _)) a) x l = elim x [ ]
first-sibling (at-stamp d (at-elem b i (at-elem _ _ _)) a) x l = elim x [ ]
first-sibling (at-stamp d (at-elem b i (at-stamp _ _ _)) a) x l = elim x [ ]
first-sibling (at-stamp d (at-stamp _ _ _) a) x l = elim x [ ]
first-sibling (at-elem {n = m} {k = k} {r = r} d i a) (bare h s g o) l =
    record { own = none; name = m; kids = k; rest = r; is = refl; at = record { here = at-elem d i (at-end refl); outer = tt; node = d; inner = i; ends = refl }; after = a; set = tt; keys = h; siblings = s; front = g; others = o }
first-sibling {src = src} {cells = cells} {p = p} (at-stamp {t = s} {r = r} d (at-elem {n = m} {k = k} b i (at-end e)) a) (timed c h x g o) l =
    record { own = some s; name = m; kids = k; rest = r; is = refl; at = record { here = at-stamp d (at-elem b i (at-end e)) (at-end refl); outer = d; node = b; inner = i; ends = e }; after = a; set = c; keys = h; siblings = x; front = g; others = o }

-- ---- the version's next element
pub record Next (K : KeyList) (w : Path) (src cells : List ℕ) (q hi : ℕ) (v : Forest) : Type 0 where
  pub name : Bytes
  pub kids : Forest
  pub rest : Forest
  pub is : v ≡ elem name kids rest
  pub here : Tape src cells q (next_at cells q) (elem name kids end)
  pub node : Node src cells q 1 name
  pub inner : Tape src cells (q + 1) (next_at cells q) kids
  pub after : Tape src cells (next_at cells q) hi rest
  pub plain : untimed (elem name kids end) ≡ true
  pub keys : has_keys (key_names_at K (w ▸ name)) kids ≡ true
  pub version : above K (w ▸ name) ≡ true → VersionIn K (w ▸ name) kids
  pub others : VersionIn K w rest

pub next-element : {K : KeyList} {w : Path} {src cells : List ℕ} {q hi : ℕ} {v : Forest} → Tape src cells q hi v → VersionIn K w v → q < hi → Next K w src cells q hi v
next-element (at-end e) no-element l = absurd (omega arith)
next-element (at-text _ _ _ _) x l = elim x [ ]
next-element (at-stamp _ _ _) x l = elim x [ ]
next-element (at-elem {n = m} {k = k} {r = r} d i a) (element u h x o) l =
    record { name = m; kids = k; rest = r; is = refl; here = at-elem d i (at-end refl); node = d; inner = i; after = a; plain = u; keys = h; version = x; others = o }

-- ---- one turn
three-lt : {X : Type 0} (o : Ordering) (x y z : X) → rank o ≡ 0 → three o x y z ≡ x
three-lt lt x y z e = refl
three-lt eq x y z e = absurd (omega arith)
three-lt gt x y z e = absurd (omega arith)

three-eq : {X : Type 0} (o : Ordering) (x y z : X) → rank o ≡ 1 → three o x y z ≡ y
three-eq lt x y z e = absurd (omega arith)
three-eq eq x y z e = refl
three-eq gt x y z e = absurd (omega arith)

three-gt : {X : Type 0} (o : Ordering) (x y z : X) → rank o ≡ 2 → three o x y z ≡ z
three-gt lt x y z e = absurd (omega arith)
three-gt eq x y z e = absurd (omega arith)
three-gt gt x y z e = refl

module _ (K : KeyList) (n : ℕ) (w : Path) (t : Times) (o : Option Bytes) (m : Bytes) (k r : Forest) where
  first-label-is : first_label K w (join (sibling o m k) r) ≡ some (label K w m k)
  unfolding first_label join
  first-label-is = by o
    where
      by : (o : Option Bytes) → first_label K w (join (sibling o m k) r) ≡ some (label K w m k)
      by none = refl
      by (some s) = refl

  in-sibling : (v : Forest) → add_in K n w t (join (sibling o m k) r) v
      ≡ add_at K n w (label K w m k) (join (old_part t o m k)) (λ g. join (both_part n o m (inside K n (w ▸ m) (set_in n t o) k g))) (add_in K n w t r) v
  unfolding add_in join inside
  in-sibling v = by o
    where
      by : (o : Option Bytes) → add_in K n w t (join (sibling o m k) r) v
          ≡ add_at K n w (label K w m k) (join (old_part t o m k)) (λ g. join (both_part n o m (inside K n (w ▸ m) (set_in n t o) k g))) (add_in K n w t r) v
      by none = refl
      by (some s) = refl

  -- only the archive has it
  pub turn-old : {v : Forest} → VersionIn K w v → order_of (label K w m k) (first_label K w v) ≡ 0
      → add_in K n w t (join (sibling o m k) r) v ≡ join (old_part t o m k) (add_in K n w t r v)
  unfolding add_at first_label
  turn-old no-element e = in-sibling end
  turn-old (element {m = j} {k = g} {r = s} u h x y) e = in-sibling (elem j g s) ∙ three-lt (labels.cmp (label K w m k) (label K w j g)) _ _ _ e

  -- both have it
  pub turn-both : (j : Bytes) (g s : Forest) → rank (labels.cmp (label K w m k) (label K w j g)) ≡ 1
      → add_in K n w t (join (sibling o m k) r) (elem j g s) ≡ join (both_part n o m (inside K n (w ▸ m) (set_in n t o) k g)) (add_in K n w t r s)
  unfolding add_at
  turn-both j g s e = in-sibling (elem j g s) ∙ three-eq (labels.cmp (label K w m k) (label K w j g)) _ _ _ e

  -- only the version has the element that comes before it
  pub turn-new : (j : Bytes) (g s : Forest) → rank (labels.cmp (label K w m k) (label K w j g)) ≡ 2
      → add_in K n w t (join (sibling o m k) r) (elem j g s) ≡ join (newest n (elem j g end) end) (add_in K n w t (join (sibling o m k) r) s)
  unfolding add_at newest join
  turn-new j g s e = in-sibling (elem j g s) ∙ three-gt (labels.cmp (label K w m k) (label K w j g)) _ _ _ e ∙ ap (newest n (elem j g end)) (sym (in-sibling s))

-- the names are the same where the labels are
pub alike : (K : KeyList) (w : Path) (m : Bytes) (k : Forest) (j : Bytes) (g : Forest) → rank (labels.cmp (label K w m k) (label K w j g)) ≡ 1 → m ≡ j
unfolding label name_in
alike K w m k j g e = ap name_in (labels.same (rank-eq (labels.cmp (label K w m k) (label K w j g)) e))

-- what is left of the version
pub add-new : (K : KeyList) (n : ℕ) (w : Path) (j : Bytes) (g s : Forest) → add_new K n w (elem j g s) ≡ join (newest n (elem j g end) end) (add_new K n w s)
unfolding add_new newest join
add-new K n w j g s = refl

pub nodes-new : {K : KeyList} (n : ℕ) {w : Path} {v : Forest} → VersionIn K w v → nodes (add_new K n w v) ≡ size v
unfolding add_new newest nodes size
nodes-new n no-element = refl
nodes-new {K} n {w} (element {m = m} {k = k} {r = r} u h x o) = let e : nodes (elem m k end) ≡ size (elem m k end) = untimed-size (elem m k end) u in omega (arith, e, nodes-new n o)
