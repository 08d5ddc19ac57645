-- Contents in their `T`s, pairwise apart: each is apart from those before it, and what is kept of those (Branches.antt) decides that.
use Prim.Native.Nat.{ℕ, ◌+◌, ◌≤◌, ◌<◌}
use Rattle.std.proofs.Common.{arith, ◌∙◌, ap₂}
use Rattle.std.specs.Prelude.{◌≡◌, Bool, false, ◌&&◌, ◌||◌, [], ◌∷◌, length}
use Rattle.std.proofs.Math.Path.{refl, sym, ap}
use Rattle.std.proofs.Math.Bool.{true, not, or-false, or_assoc}
use borrow.Author.Tests.{lt-ltb, ltb-true, not-true}
use Rattle.xml.specs.Bytes.{Bytes}
use Rattle.xml.specs.Forest.{Forest, end, elem, text, stamp, join, same_forest}
use Rattle.xml.specs.Truth.{clash, and_left, and_right, and_both, or_left, or_right, or-both, or-first, or-second}
use Rattle.model.specs.Stored.{or_l}
use Rattle.timestamp.specs.Times.{Times}
use Rattle.timestamp.specs.TimesLaws.{or-by}
use Rattle.timestamp.specs.Set.{empty_set, joined, apart as apart_sets, first_in}
use Rattle.timestamp.specs.Tests.{apart-tells, apart-told}
use Rattle.timestamp.specs.Listed.{listed, Only, only_none, only-joined}
use Rattle.versions.specs.Walk.{times_in, ever, disjoint, earlier, branches_in, apart, contents_apart, together}
use Rattle.versions.specs.ListedLaws.{or-listed, disjoint-listed, earlier-listed}
use Rattle.versions.specs.Branches.{repeats}

-- what is asked of a later content with the set u, of one with the set t
unfoldable pub other : Times → Forest → Times → Forest → Bool
other t f u k = not (same_forest k f) && disjoint t u && earlier t u

-- and of all contents d before it
unfoldable pub fresh : ℕ → Times → Forest → Forest → Bool
fresh n u k end = true
fresh n u k (text b r) = fresh n u k r
fresh n u k (elem m j r) = fresh n u k r
fresh n u k (stamp b j r) = other (times_in n b) j u k && fresh n u k r

module _ (n : ℕ) where
  apart-tail : (t : Times) (f d g : Forest) → apart t f (branches_in n (join d g)) ≡ true → apart t f (branches_in n g) ≡ true
  unfolding apart branches_in join
  apart-tail t f end g h = h
  apart-tail t f (text b r) g h = apart-tail t f r g h
  apart-tail t f (elem m k r) g h = apart-tail t f r g h
  apart-tail t f (stamp b k r) g h = apart-tail t f r g (and_right (not (same_forest k f) && disjoint t (times_in n b) && earlier t (times_in n b)) (apart t f (branches_in n (join r g))) h)

  apart_snoc : (t : Times) (f d : Forest) (b : Bytes) (k : Forest) → apart t f (branches_in n d) ≡ true → other t f (times_in n b) k ≡ true
      → apart t f (branches_in n (join d (stamp b k end))) ≡ true
  unfolding apart branches_in join other
  apart_snoc t f end b k h o = and_both _ _ o refl
  apart_snoc t f (text c r) b k h o = apart_snoc t f r b k h o
  apart_snoc t f (elem m j r) b k h o = apart_snoc t f r b k h o
  apart_snoc t f (stamp c j r) b k h o =
      let q = not (same_forest j f) && disjoint t (times_in n c) && earlier t (times_in n c) in
      and_both q (apart t f (branches_in n (join r (stamp b k end)))) (and_left q (apart t f (branches_in n r)) h)
      (apart_snoc t f r b k (and_right q (apart t f (branches_in n r)) h) o)

  -- ---- a content in the midst
  pub ever-of : (d : Forest) (b : Bytes) (k r : Forest) → contents_apart (branches_in n (join d (stamp b k r))) ≡ true → ever (times_in n b) ≡ true
  unfolding contents_apart branches_in join
  ever-of end b k r h =
      and_left (ever (times_in n b)) (apart (times_in n b) k (branches_in n r)) (and_left (ever (times_in n b) && apart (times_in n b) k (branches_in n r)) (contents_apart (branches_in n r)) h)
  ever-of (text c d) b k r h = ever-of d b k r h
  ever-of (elem m j d) b k r h = ever-of d b k r h
  ever-of (stamp c j d) b k r h = ever-of d b k r (and_right (ever (times_in n c) && apart (times_in n c) j (branches_in n (join d (stamp b k r)))) (contents_apart (branches_in n (join d (stamp b k r)))) h)

  pub fresh-of : (d : Forest) (b : Bytes) (k r : Forest) → contents_apart (branches_in n (join d (stamp b k r))) ≡ true → fresh n (times_in n b) k d ≡ true
  unfolding contents_apart branches_in join fresh apart other
  fresh-of end b k r h = refl
  fresh-of (text c d) b k r h = fresh-of d b k r h
  fresh-of (elem m j d) b k r h = fresh-of d b k r h
  fresh-of (stamp c j d) b k r h =
      let t = times_in n c in
      let g = join d (stamp b k r) in
      let h1 = and_left (ever t && apart t j (branches_in n g)) (contents_apart (branches_in n g)) h in
      let h2 = apart-tail t j d (stamp b k r) (and_right (ever t) (apart t j (branches_in n g)) h1) in
      and_both (not (same_forest k j) && disjoint t (times_in n b) && earlier t (times_in n b)) (fresh n (times_in n b) k d)
      (and_left (not (same_forest k j) && disjoint t (times_in n b) && earlier t (times_in n b)) (apart t j (branches_in n r)) h2)
      (fresh-of d b k r (and_right (ever t && apart t j (branches_in n g)) (contents_apart (branches_in n g)) h))

  -- ---- a content after all of d
  contents-snoc : (d : Forest) (b : Bytes) (k : Forest) → contents_apart (branches_in n d) ≡ true → ever (times_in n b) ≡ true → fresh n (times_in n b) k d ≡ true
      → contents_apart (branches_in n (join d (stamp b k end))) ≡ true
  unfolding contents_apart branches_in join fresh apart
  contents-snoc end b k h e f = and_both _ _ (and_both _ _ e refl) refl
  contents-snoc (text c d) b k h e f = contents-snoc d b k h e f
  contents-snoc (elem m j d) b k h e f = contents-snoc d b k h e f
  contents-snoc (stamp c j d) b k h e f =
      let t = times_in n c in
      let h1 = and_left (ever t && apart t j (branches_in n d)) (contents_apart (branches_in n d)) h in
      let f1 = and_left (other t j (times_in n b) k) (fresh n (times_in n b) k d) f in
      and_both _ _ (and_both _ _ (and_left (ever t) (apart t j (branches_in n d)) h1) (apart_snoc t j d b k (and_right (ever t) (apart t j (branches_in n d)) h1) f1))
      (contents-snoc d b k (and_right (ever t && apart t j (branches_in n d)) (contents_apart (branches_in n d)) h) e (and_right (other t j (times_in n b) k) (fresh n (times_in n b) k d) f))

  fresh-more : (u : Times) (k d : Forest) (b : Bytes) (j : Forest) → fresh n u k d ≡ true → other (times_in n b) j u k ≡ true → fresh n u k (join d (stamp b j end)) ≡ true
  unfolding fresh join
  fresh-more u k end b j h o = and_both _ _ o refl
  fresh-more u k (text c d) b j h o = fresh-more u k d b j h o
  fresh-more u k (elem m i d) b j h o = fresh-more u k d b j h o
  fresh-more u k (stamp c i d) b j h o =
      and_both _ _ (and_left (other (times_in n c) i u k) (fresh n u k d) h) (fresh-more u k d b j (and_right (other (times_in n c) i u k) (fresh n u k d) h) o)

  fresh-less : (u : Times) (k d : Forest) (b : Bytes) (j : Forest) → fresh n u k (join d (stamp b j end)) ≡ true → (fresh n u k d ≡ true) × (other (times_in n b) j u k ≡ true)
  unfolding fresh join
  fresh-less u k end b j h = (refl, and_left (other (times_in n b) j u k) true h)
  fresh-less u k (text c d) b j h = fresh-less u k d b j h
  fresh-less u k (elem m i d) b j h = fresh-less u k d b j h
  fresh-less u k (stamp c i d) b j h =
      let x = fresh-less u k d b j (and_right (other (times_in n c) i u k) (fresh n u k (join d (stamp b j end))) h) in
      (and_both _ _ (and_left (other (times_in n c) i u k) (fresh n u k (join d (stamp b j end))) h) x.0, x.1)

repeats-snoc : (k d : Forest) (b : Bytes) (j : Forest) → repeats k (join d (stamp b j end)) ≡ (repeats k d || same_forest k j)
unfolding repeats join
repeats-snoc k end b j = or-false (same_forest k j)
repeats-snoc k (text c d) b j = ap (λ (x : Bool). same_forest k end || x) (repeats-snoc k d b j) ∙ sym (or_assoc (same_forest k end) (repeats k d) (same_forest k j))
repeats-snoc k (elem m i d) b j = ap (λ (x : Bool). same_forest k i || x) (repeats-snoc k d b j) ∙ sym (or_assoc (same_forest k i) (repeats k d) (same_forest k j))
repeats-snoc k (stamp c i d) b j = ap (λ (x : Bool). same_forest k i || x) (repeats-snoc k d b j) ∙ sym (or_assoc (same_forest k i) (repeats k d) (same_forest k j))

-- ---- what is kept of the contents before
pub record Branch (n : ℕ) (d : Forest) (u : ℕ → Bool) (m : ℕ) (b : Bytes) (k : Forest) (s : ℕ → Bool) : Type 0 where
  pub set : times_in n b ≡ listed n s
  pub only : Only n s
  pub some : ever (times_in n b) ≡ true
  pub clear : apart_sets s u ≡ true
  pub later : m < first_in 1024 s 0
  pub new : repeats k d ≡ false

-- the contents d have the union u, and the last begins at m
pub data Seen (n : ℕ) : Forest → (ℕ → Bool) → ℕ → Type 0 where
  nothing : {u : ℕ → Bool} → u ≡ empty_set → Seen n end u 0
  more : {d e : Forest} {u v : ℕ → Bool} {m l : ℕ} {b : Bytes} {k : Forest} {s : ℕ → Bool} → Seen n d u m → Branch n d u m b k s
      → e ≡ join d (stamp b k end) → v ≡ joined u s → l ≡ first_in 1024 s 0 → Seen n e v l

pub seen-only : {n : ℕ} {d : Forest} {u : ℕ → Bool} {m : ℕ} → Seen n d u m → Only n u
seen-only {n} (nothing e) = rw e (only_none n)
seen-only {n} (more {u = u} {s = s} x b p q z) = rw q (only-joined n u s (seen-only x) b.only)

apart-turn : (s t : ℕ → Bool) → apart_sets s t ≡ true → apart_sets t s ≡ true
apart-turn s t e = apart-told t s (λ v l a b. apart-tells s t e v l b a)

module _ {n : ℕ} (small : n ≤ 999) where
  -- by sets
  other-sets : (s t : ℕ → Bool) (f k : Forest) → Only n s → Only n t → other (listed n s) f (listed n t) k ≡ true
      → (same_forest k f ≡ false) × (apart_sets t s ≡ true) × (first_in 1024 s 0 < first_in 1024 t 0)
  unfolding other
  other-sets s t f k o p h =
      let h1 = and_left (not (same_forest k f) && disjoint (listed n s) (listed n t)) (earlier (listed n s) (listed n t)) h in (
        not-true (same_forest k f) (and_left (not (same_forest k f)) (disjoint (listed n s) (listed n t)) h1),
        apart-turn s t (sym (disjoint-listed n s t o (omega arith)) ∙ and_right (not (same_forest k f)) (disjoint (listed n s) (listed n t)) h1),
        ltb-true (first_in 1024 s 0) (first_in 1024 t 0) (sym (earlier-listed n s t o p (omega arith)) ∙ and_right (not (same_forest k f) && disjoint (listed n s) (listed n t)) (earlier (listed n s) (listed n t)) h),
      )

  sets-other : (s t : ℕ → Bool) (f k : Forest) → Only n s → Only n t → same_forest k f ≡ false → apart_sets t s ≡ true → first_in 1024 s 0 < first_in 1024 t 0
      → other (listed n s) f (listed n t) k ≡ true
  unfolding other
  sets-other s t f k o p e a l =
      and_both _ _ (and_both _ _ (ap not e) (disjoint-listed n s t o (omega arith) ∙ apart-turn t s a))
      (earlier-listed n s t o p (omega arith) ∙ lt-ltb (first_in 1024 s 0) (first_in 1024 t 0) l)

  pub seen-fresh : {d : Forest} {u : ℕ → Bool} {m : ℕ} → Seen n d u m → (s : ℕ → Bool) (k : Forest) → Only n s → 0 < first_in 1024 s 0 → fresh n (listed n s) k d ≡ true
      → (apart_sets s u ≡ true) × (m < first_in 1024 s 0) × (repeats k d ≡ false)
  unfolding repeats
  seen-fresh (nothing {u = u} e) s k o z h = (apart-told s u (λ v l a b. clash (sym b ∙ ap (λ (g : ℕ → Bool). g v) e)), z, refl)
  seen-fresh (more {d = d} {e = g} {u = u} {v = w} {b = b} {k = j} {s = t} x r p q l) s k o z h =
      let y = fresh-less n (listed n s) k d b j (rw p at h) in
      let i = seen-fresh x s k o z y.0 in
      let a = other-sets t s j k r.only o (rw r.set at y.1) in (
        apart-told s w (λ v c e f. or-by (u v) (t v) (sym (ap (λ (g : ℕ → Bool). g v) q) ∙ f) (λ f1. apart-tells s u i.0 v c e f1) (λ f2. apart-tells s t a.1 v c e f2)),
        omega (arith, a.2),
        ap (repeats k) p ∙ repeats-snoc k d b j ∙ or-both (repeats k d) (same_forest k j) i.2 a.0,
      )

  pub fresh-seen : {d : Forest} {u : ℕ → Bool} {m : ℕ} → Seen n d u m → (s : ℕ → Bool) (k : Forest) → Only n s → apart_sets s u ≡ true → m < first_in 1024 s 0 → repeats k d ≡ false
      → fresh n (listed n s) k d ≡ true
  unfolding fresh
  fresh-seen (nothing e) s k o a l h = refl
  fresh-seen (more {d = d} {e = g} {u = u} {v = w} {b = b} {k = j} {s = t} x r p q z) s k o a l h =
      let y = sym (repeats-snoc k d b j) ∙ ap (repeats k) (sym p) ∙ h in
      let f = r.later in
      let i = fresh-seen x s k o
      (apart-told s u (λ v c e f. apart-tells s w a v c e (ap (λ (g : ℕ → Bool). g v) q ∙ or-first (u v) (t v) f)))
      (omega arith) (or_left (repeats k d) (same_forest k j) y) in
      let c = sets-other t s j k r.only o (or_right (repeats k d) (same_forest k j) y)
      (apart-told s t (λ v c e f. apart-tells s w a v c e (ap (λ (g : ℕ → Bool). g v) q ∙ or-second (u v) (t v) f)))
      (omega arith) in
      rw p (fresh-more n (listed n s) k d b j i (rw r.set c))

  pub seen_apart : {d : Forest} {u : ℕ → Bool} {m : ℕ} → Seen n d u m → contents_apart (branches_in n d) ≡ true
  unfolding contents_apart branches_in
  seen_apart (nothing e) = refl
  seen_apart (more {d = d} {b = b} {k = k} {s = s} x r p q z) =
      rw p (contents-snoc n d b k (seen_apart x) r.some (rw r.set (fresh-seen x s k r.only r.clear r.later r.new)))

-- ---- the union
or-then : (p q r : Times) → or_l (or_l p q) r ≡ or_l p (or_l q r)
unfolding or_l
or-then [] q r = refl
or-then (a ∷ p) [] r = refl
or-then (a ∷ p) (b ∷ q) [] = refl
or-then (a ∷ p) (b ∷ q) (c ∷ r) = ap₂ (λ (x : Bool) (l : Times). x ∷ l) (or_assoc a b c) (or-then p q r)

or-empty : (p : Times) → or_l p [] ≡ p
unfolding or_l
or-empty [] = refl
or-empty (a ∷ p) = refl

together-snoc : (n : ℕ) (d : Forest) (b : Bytes) (k : Forest) → together (branches_in n (join d (stamp b k end))) ≡ or_l (together (branches_in n d)) (times_in n b)
unfolding together branches_in join or_l
together-snoc n end b k = or-empty (times_in n b)
together-snoc n (text c d) b k = together-snoc n d b k
together-snoc n (elem m j d) b k = together-snoc n d b k
together-snoc n (stamp c j d) b k = ap (or_l (times_in n c)) (together-snoc n d b k) ∙ sym (or-then (times_in n c) (together (branches_in n d)) (times_in n b))

seen-or : {n : ℕ} {d : Forest} {u : ℕ → Bool} {m : ℕ} → Seen n d u m → (s : ℕ → Bool) → or_l (together (branches_in n d)) (listed n s) ≡ listed n (joined u s)
unfolding together branches_in or_l
seen-or {n} (nothing e) s = rw e refl
seen-or {n} (more {d = d} {u = u} {b = b} {k = k} {s = t} x r p q z) s =
    rw (p, q) (ap (λ (l : Times). or_l l (listed n s)) (together-snoc n d b k ∙ ap (or_l (together (branches_in n d))) r.set ∙ seen-or x t) ∙ or-listed n (joined u t) s)

pub seen-together : {n : ℕ} {d : Forest} {u : ℕ → Bool} {m : ℕ} → Seen n d u m → 1 ≤ length (branches_in n d) → together (branches_in n d) ≡ listed n u
unfolding branches_in
seen-together (nothing e) l = absurd (omega arith)
seen-together {n} (more {d = d} {u = u} {b = b} {k = k} {s = t} x r p q z) l =
    rw (p, q) (together-snoc n d b k ∙ ap (or_l (together (branches_in n d))) r.set ∙ seen-or x t)

pub length-snoc : (n : ℕ) (d : Forest) (b : Bytes) (k : Forest) → length (branches_in n (join d (stamp b k end))) ≡ length (branches_in n d) + 1
unfolding branches_in join
length-snoc n end b k = refl
length-snoc n (text c d) b k = length-snoc n d b k
length-snoc n (elem m j d) b k = length-snoc n d b k
length-snoc n (stamp c j d) b k = omega (arith, length-snoc n d b k)
