-- The graph of nested merge: whatever is said of a merge is proved along it.
use Rattle.std.specs.Prelude.{ℕ, ◌≡◌}
use Rattle.std.proofs.Math.Path.{refl}
use Rattle.std.proofs.Math.Option.{Option, none, some}
use mathlib.Core.Ordering.{Ordering, lt, eq, gt}
use Rattle.model.specs.Keyed.{Order, self, flip, flop, Tree, nil, node, Past, ◌▷◌, debut, fresh, graft, merge_by, merge, Before}

pub data Zip {L C E : Type 0} (ord : Order L) (make : C → E) (add : E → Option C → E) : Tree L E → Tree L C → Tree L E → Type 0 where
  done : Zip ord make add nil nil nil
  old : {l : L} {h : E} {k r km rm : Tree L E} {v : Tree L C} → Before ord l v
      → Zip ord make add k nil km → Zip ord make add r v rm → Zip ord make add (node l h k r) v (node l (add h none) km rm)
  new : {l : L} {c : C} {k r : Tree L C} {a km rm : Tree L E} → Before ord l a
      → Zip ord make add nil k km → Zip ord make add a r rm → Zip ord make add a (node l c k r) (node l (make c) km rm)
  both : {l : L} {h : E} {c : C} {k r km rm : Tree L E} {k' r' : Tree L C}
      → Zip ord make add k k' km → Zip ord make add r r' rm → Zip ord make add (node l h k r) (node l c k' r') (node l (add h (some c)) km rm)

abbrev pub Merge : {L C : Type 0} → Order L → ℕ → Tree L (Past C) → Tree L C → Tree L (Past C) → Type 0
Merge ord n = Zip ord (debut n) ◌▷◌

module _ {L C E : Type 0} (ord : Order L) (make : C → E) (add : E → Option C → E) where
  abbrev Some : Tree L E → Tree L C → Type 0
  Some a v = (m : Tree L E) × Zip ord make add a v m

  some-fresh : (v : Tree L C) → Some nil v
  some-fresh nil = (nil, done)
  some-fresh (node l c k r) = (_, new tt (some-fresh k).1 (some-fresh r).1)

  some-graft : (l : L) (h : E) (k r : Tree L E) → ((v : Tree L C) → Some k v) → ((v : Tree L C) → Some r v) → (v : Tree L C) → Some (node l h k r) v
  some-graft l h k r sk sr nil = (_, old tt (sk nil).1 (sr nil).1)
  some-graft l h k r sk sr (node l' c k' r') = go (ord.cmp l l') refl (some-graft l h k r sk sr r')
    where
      go : (o : Ordering) → ord.cmp l l' ≡ o → Some (node l h k r) r' → Some (node l h k r) (node l' c k' r')
      go lt e s = (_, old e (sk nil).1 (sr (node l' c k' r')).1)
      go eq e s = rw (← ord.same e) (_, both (sk k').1 (sr r').1)
      go gt e s = (_, new (flop ord e) (some-fresh k').1 s.1)

  some-merge : (a : Tree L E) (v : Tree L C) → Some a v
  some-merge nil = some-fresh
  some-merge (node l h k r) = some-graft l h k r (some-merge k) (some-merge r)

  -- the function computes what the graph says
  merge-old : (l : L) (h : E) (k r : Tree L E) (v : Tree L C) → Before ord l v
      → merge_by ord make add (node l h k r) v ≡ node l (add h none) (merge_by ord make add k nil) (merge_by ord make add r v)
  unfolding merge_by graft
  merge-old l h k r nil b = refl
  merge-old l h k r (node l' c k' r') b = rw b

  merge-new : (l : L) (c : C) (k r : Tree L C) (a : Tree L E) → Before ord l a
      → merge_by ord make add a (node l c k r) ≡ node l (make c) (merge_by ord make add nil k) (merge_by ord make add a r)
  unfolding merge_by graft fresh
  merge-new l c k r nil b = refl
  merge-new l c k r (node l' h k' r') b = rw (flip ord b)

  pub merge-is : {a : Tree L E} {v : Tree L C} {m : Tree L E} → Zip ord make add a v m → merge_by ord make add a v ≡ m
  unfolding merge_by graft fresh
  merge-is done = refl
  merge-is (old {l = l} {h = h} {k = k} {r = r} {v = v} b p q) = rw (merge-old l h k r v b, merge-is p, merge-is q)
  merge-is (new {l = l} {c = c} {k = k} {r = r} {a = a} b p q) = rw (merge-new l c k r a b, merge-is p, merge-is q)
  merge-is (both {l = l} p q) = rw (self ord l, merge-is p, merge-is q)

  pub zipped : (a : Tree L E) (v : Tree L C) → Zip ord make add a v (merge_by ord make add a v)
  zipped a v = rw (merge-is (some-merge a v).1) (some-merge a v).1

pub merged : {L C : Type 0} (ord : Order L) (n : ℕ) (a : Tree L (Past C)) (v : Tree L C) → Merge ord n a v (merge ord n a v)
merged ord n a v = zipped ord (debut n) ◌▷◌ a v
