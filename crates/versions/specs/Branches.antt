-- The contents of a frontier in their `T`s, checked one after the other: what is kept of those before is their union, the first version
-- of the last, and their number. Running.antt says that this decides what Walk.antt asks.
use Rattle.std.specs.Prelude.{ℕ, ◌+◌, ◌%◌, ◌<◌, ◌≤◌, ◌≡◌, Bool, true, false, ◌&&◌, ◌||◌, List, eqb, leb, ltb}
use Rattle.std.proofs.Common.{arith, ◌∙◌}
use Rattle.std.proofs.Math.Path.{refl, sym, ap}
use Rattle.std.proofs.Math.Bool.{and-false, not}
use borrow.Author.Tests.{le-leb, lt-leb, lt-ltb, le-ltb, eqb-true, eqb-false}
use Rattle.xml.specs.Bytes.{Bytes}
use Rattle.xml.specs.Forest.{Forest, end, elem, text, stamp, join, same_forest}
use Rattle.xml.specs.Read.{unescape}
use Rattle.xml.specs.Tape.{head_at, next_at, Tape, at-end, at-text, at-elem, at-stamp}
use Rattle.xml.specs.TapeLaws.{bytes_at, tape-le, tape-none, tape-join, front}
use Rattle.xml.specs.Truth.{by-test, clash, not_so, and_left, and_right, or-first, or-second}
use Rattle.keys.specs.Legal.{untimed}
use Rattle.timestamp.specs.Set.{set_of, empty_set, up_to, joined, same_set, apart, subset, first_in}
use Rattle.timestamp.specs.Tests.{same-tells, apart-tells}
use Rattle.timestamp.specs.Parse.{Outcome, refused, accepted, parsed, Parsed, pick_outcome, outcome}

-- ---- a node and those after it
pub record First (src cells : List ℕ) (p q : ℕ) (f : Forest) : Type 0 where
  pub kids : Forest
  pub rest : Forest
  pub inside : Tape src cells (p + 1) (next_at cells p) kids
  pub after : Tape src cells (next_at cells p) q rest
  pub run : head_at cells p % 4 ≡ 0 → f ≡ text (unescape 0 (bytes_at src cells p)) rest
  pub element : head_at cells p % 4 ≡ 1 → f ≡ elem (bytes_at src cells p) kids rest
  pub timed : head_at cells p % 4 ≡ 2 → f ≡ stamp (bytes_at src cells p) kids rest

module _ {src cells : List ℕ} where
  pub first : {p q : ℕ} {f : Forest} → Tape src cells p q f → p < q → First src cells p q f
  first (at-end e) l = absurd (omega arith)
  first (at-text {r = f} n u e r) l =
      record {
        kids = end;
        rest = f;
        inside = at-end (sym e);
        after = rw e r;
        run = λ k. rw (n.bytes-are, u) refl;
        element = λ k. absurd (omega (arith, n.kind-is));
        timed = λ k. absurd (omega (arith, n.kind-is));
      }
  first (at-elem {k = f} {r = g} n k r) l =
      record {
        kids = f;
        rest = g;
        inside = k;
        after = r;
        run = λ k. absurd (omega (arith, n.kind-is));
        element = λ k. rw n.bytes-are refl;
        timed = λ k. absurd (omega (arith, n.kind-is));
      }
  first (at-stamp {k = f} {r = g} n k r) l =
      record {
        kids = f;
        rest = g;
        inside = k;
        after = r;
        run = λ k. absurd (omega (arith, n.kind-is));
        element = λ k. absurd (omega (arith, n.kind-is));
        timed = λ k. rw n.bytes-are refl;
      }

-- ---- content that one of these nodes holds already
unfoldable pub repeats : Forest → Forest → Bool
repeats k end = false
repeats k (text b r) = same_forest k end || repeats k r
repeats k (elem m j r) = same_forest k j || repeats k r
repeats k (stamp s j r) = same_forest k j || repeats k r

module _ {src cells : List ℕ} where
  -- the node by itself
  alone : {p q : ℕ} {f : Forest} (t : Tape src cells p q f) (l : p < q) → head_at cells p % 4 ≡ 2
      → Tape src cells p (next_at cells p) (stamp (bytes_at src cells p) (first t l).kids end)
  unfolding first
  alone (at-end e) l k = absurd (omega arith)
  alone (at-text n u e r) l k = absurd (omega (arith, n.kind-is))
  alone (at-elem n i r) l k = absurd (omega (arith, n.kind-is))
  alone (at-stamp n i r) l k = rw n.bytes-are (at-stamp n i (at-end refl))

  pub repeats-first : {p q : ℕ} {f : Forest} (k : Forest) (t : Tape src cells p q f) (l : p < q) → repeats k f ≡ (same_forest k (first t l).kids || repeats k (first t l).rest)
  unfolding repeats first
  repeats-first k (at-end e) l = absurd (omega arith)
  repeats-first k (at-text n u e r) l = refl
  repeats-first k (at-elem n i r) l = refl
  repeats-first k (at-stamp n i r) l = refl

-- ---- the machine
-- a set that may come after: of versions 1 to n, none of them in u, the first of them after m
unfoldable pub follows : ℕ → (ℕ → Bool) → ℕ → (ℕ → Bool) → Bool
follows n u m s = subset s (up_to n) && apart s u && ltb m (first_in 1024 s 0)

-- after the contents d, whose union is u, whose last begins at m, and which are c
unfoldable pub judged : ℕ → (ℕ → Bool) → (ℕ → Bool) → ℕ → ℕ → Forest → Forest → Bool
judged n t u m c d end = leb 2 c && same_set u t
judged n t u m c d (text b r) = false
judged n t u m c d (elem b k r) = false
judged n t u m c d (stamp b k r) =
    elim (parsed b) [
      | refused ↦ false
      | accepted s ↦ follows n u m s && untimed k && not (repeats k d) && judged n t (joined u s) (first_in 1024 s 0) (c + 1) (join d (stamp b k end)) r
    ]

module _ (n : ℕ) (u : ℕ → Bool) (m : ℕ) (s : ℕ → Bool) where
  pub follows-early : first_in 1024 s 0 ≤ m → follows n u m s ≡ false
  unfolding follows
  follows-early l = rw (le-ltb m (first_in 1024 s 0) l) (and-false (subset s (up_to n) && apart s u))

  pub follows-in : subset s (up_to n) ≡ true → apart s u ≡ true → m < first_in 1024 s 0 → follows n u m s ≡ true
  unfolding follows
  follows-in e d l = rw (e, d) (lt-ltb m (first_in 1024 s 0) l)

  follows-apart : follows n u m s ≡ true → apart s u ≡ true
  unfolding follows
  follows-apart e = and_right (subset s (up_to n)) (apart s u) (and_left (subset s (up_to n) && apart s u) (ltb m (first_in 1024 s 0)) e)

-- where all are legal, the union so far is within the versions t
module _ (n : ℕ) (t : ℕ → Bool) where
  within-stamp : (u : ℕ → Bool) (m c : ℕ) (d : Forest) (b : Bytes) (k r : Forest)
      → ((s : ℕ → Bool) → judged n t (joined u s) (first_in 1024 s 0) (c + 1) (join d (stamp b k end)) r ≡ true → (v : ℕ) → v < 1024 → joined u s v ≡ true → t v ≡ true)
      → (p : Outcome) → parsed b ≡ p → judged n t u m c d (stamp b k r) ≡ true → (v : ℕ) → v < 1024 → u v ≡ true → t v ≡ true
  unfolding judged
  within-stamp u m c d b k r ih refused q e v l h = clash (sym e ∙ rw (q, judged))
  within-stamp u m c d b k r ih (accepted s) q e v l h =
      ih s (and_right (follows n u m s && untimed k && not (repeats k d)) _ (rw (q, judged) at e)) v l (or-first (u v) (s v) h)

  judged-within : (u : ℕ → Bool) (m c : ℕ) (d f : Forest) → judged n t u m c d f ≡ true → (v : ℕ) → v < 1024 → u v ≡ true → t v ≡ true
  unfolding judged
  judged-within u m c d end e v l h = sym (same-tells u t (and_right (leb 2 c) (same_set u t) e) v l) ∙ h
  judged-within u m c d (text b r) e v l h = clash (sym e)
  judged-within u m c d (elem b k r) e v l h = clash (sym e)
  judged-within u m c d (stamp b k r) e v l h =
      within-stamp u m c d b k r (λ s. judged-within (joined u s) (first_in 1024 s 0) (c + 1) (join d (stamp b k end)) r) (parsed b) refl e v l h

-- what the reader of a timestamp answers
pub outcome-refused : (r : Parsed) (l : Bytes) → outcome r ≡ parsed l → r.ok ≡ false → parsed l ≡ refused
outcome-refused r l e d = sym e ∙ ap (λ (x : Bool). pick_outcome x (set_of r.stamp.words)) d

pub outcome-accepted : (r : Parsed) (l : Bytes) → outcome r ≡ parsed l → r.ok ≡ true → parsed l ≡ accepted (set_of r.stamp.words)
outcome-accepted r l e d = sym e ∙ ap (λ (x : Bool). pick_outcome x (set_of r.stamp.words)) d

-- ---- the search for a content, on its way: the nodes p to q are left
pub record Sought (src cells : List ℕ) (p q : ℕ) (k d : Forest) : Type 0 where
  pub rest : Forest
  pub tape : Tape src cells p q rest
  pub same : repeats k d ≡ repeats k rest

module _ {src cells : List ℕ} where
  pub sought-start : {p q : ℕ} {k d : Forest} → Tape src cells p q d → Sought src cells p q k d
  sought-start t = record { rest = _; tape = t; same = refl }

  pub sought-found : {p q : ℕ} {k d : Forest} → Sought src cells p q k d → p < q → ((g : Forest) → Tape src cells (p + 1) (next_at cells p) g → true ≡ same_forest k g) → repeats k d ≡ true
  sought-found {k = k} x l h =
      let g = first x.tape l in
      x.same ∙ repeats-first k x.tape l ∙ ap (λ (b : Bool). b || repeats k g.rest) (sym (h g.kids g.inside))

  pub sought-more : {p q : ℕ} {k d : Forest} → Sought src cells p q k d → p < q → ((g : Forest) → Tape src cells (p + 1) (next_at cells p) g → false ≡ same_forest k g) → Sought src cells (next_at cells p) q k d
  sought-more {k = k} x l h =
      let g = first x.tape l in
      record { rest = g.rest; tape = g.after; same = x.same ∙ repeats-first k x.tape l ∙ ap (λ (b : Bool). b || repeats k g.rest) (sym (h g.kids g.inside)) }

  pub sought-none : {p q : ℕ} {k d : Forest} → Sought src cells p q k d → q ≤ p → repeats k d ≡ false
  unfolding repeats
  sought-none {p} {q} {k} x l =
      let e : q ≡ p = omega (arith, tape-le x.tape) in
      x.same ∙ ap (repeats k) (tape-none (rw e at x.tape))

-- ---- the check of all contents, on its way
pub record Way (src cells : List ℕ) (lo p q n : ℕ) (t u : ℕ → Bool) (m c : ℕ) (whole : Bool) : Type 0 where
  pub done : Forest
  pub rest : Forest
  pub before : Tape src cells lo p done
  pub after : Tape src cells p q rest
  pub answer : whole ≡ judged n t u m c done rest

ends : (a b c d : Bool) → (a && b && c && d) ≡ true → (a ≡ true) × (d ≡ true)
ends a b c d e = (and_left a b (and_left (a && b) c (and_left (a && b && c) d e)), and_right (a && b && c) d e)

module _ {src cells : List ℕ} {n : ℕ} {t : ℕ → Bool} where
  pub way-start : {lo q : ℕ} {u : ℕ → Bool} {f : Forest} → Tape src cells lo q f → u ≡ empty_set → Way src cells lo lo q n t u 0 0 (judged n t empty_set 0 0 end f)
  way-start {f = f} h e = record { done = end; rest = f; before = at-end refl; after = h; answer = rw e refl }

  pub way-few : {lo p q : ℕ} {u : ℕ → Bool} {m c : ℕ} {whole : Bool} → Way src cells lo p q n t u m c whole → q ≤ p → c < 2 → whole ≡ false
  unfolding judged
  way-few {p = p} {q} {u} {m} {c} x l h =
      let e : q ≡ p = omega (arith, tape-le x.after) in
      x.answer ∙ ap (judged n t u m c x.done) (tape-none (rw e at x.after)) ∙ ap (λ (b : Bool). b && same_set u t) (lt-leb 2 c h)

  pub way-done : {lo p q : ℕ} {u : ℕ → Bool} {m c : ℕ} {whole : Bool} → Way src cells lo p q n t u m c whole → q ≤ p → 2 ≤ c → whole ≡ same_set u t
  unfolding judged
  way-done {p = p} {q} {u} {m} {c} x l h =
      let e : q ≡ p = omega (arith, tape-le x.after) in
      x.answer ∙ ap (judged n t u m c x.done) (tape-none (rw e at x.after)) ∙ ap (λ (b : Bool). b && same_set u t) (le-leb 2 c h)

  -- a node that is no `T`
  pub way-other : {lo p q : ℕ} {u : ℕ → Bool} {m c : ℕ} {whole : Bool} → Way src cells lo p q n t u m c whole → p < q → (head_at cells p % 4 ≡ 2 → ⊥) → whole ≡ false
  unfolding judged
  way-other {p = p} {u = u} {m} {c} x l h =
      let g = first x.after l in
      x.answer ∙ by-test (eqb (head_at cells p % 4) 0)
      (λ e. ap (judged n t u m c x.done) (g.run (eqb-true (head_at cells p % 4) 0 e)))
      (λ e. ap (judged n t u m c x.done) (g.element (omega (arith, eqb-false (head_at cells p % 4) 0 e, (front x.after l).kind))))

  -- a `T` whose text is that of no set
  pub way-refused : {lo p q : ℕ} {u : ℕ → Bool} {m c : ℕ} {whole : Bool} → Way src cells lo p q n t u m c whole → p < q → head_at cells p % 4 ≡ 2
      → parsed (bytes_at src cells p) ≡ refused → whole ≡ false
  unfolding judged
  way-refused {u = u} {m} {c} x l k e = x.answer ∙ ap (judged n t u m c x.done) ((first x.after l).timed k) ∙ rw (e, judged)

  -- one whose text is that of s: what comes of it
  step : {lo p q : ℕ} {u : ℕ → Bool} {m c : ℕ} {whole : Bool} (x : Way src cells lo p q n t u m c whole) (l : p < q) → head_at cells p % 4 ≡ 2
      → (s : ℕ → Bool) → parsed (bytes_at src cells p) ≡ accepted s
      → whole ≡ (follows n u m s && untimed (first x.after l).kids && not (repeats (first x.after l).kids x.done)
      && judged n t (joined u s) (first_in 1024 s 0) (c + 1) (join x.done (stamp (bytes_at src cells p) (first x.after l).kids end)) (first x.after l).rest)
  unfolding judged
  step {u = u} {m} {c} x l k s e = x.answer ∙ ap (judged n t u m c x.done) ((first x.after l).timed k) ∙ rw (e, judged)

  pub way-not : {lo p q : ℕ} {u : ℕ → Bool} {m c : ℕ} {whole : Bool} → Way src cells lo p q n t u m c whole → p < q → head_at cells p % 4 ≡ 2
      → (s : ℕ → Bool) → parsed (bytes_at src cells p) ≡ accepted s → follows n u m s ≡ false → whole ≡ false
  way-not x l k s e h = step x l k s e ∙ rw h

  -- its versions are of t, and new
  pub way-new : {lo p q : ℕ} {u : ℕ → Bool} {m c : ℕ} {whole : Bool} → Way src cells lo p q n t u m c whole → p < q → head_at cells p % 4 ≡ 2
      → (s : ℕ → Bool) → parsed (bytes_at src cells p) ≡ accepted s → whole ≡ true → (v : ℕ) → v < 1024 → s v ≡ true → (t v ≡ true) × (u v ≡ false)
  way-new {p = p} {u = u} {m} {c} x l k s e h v small i =
      let g = first x.after l in
      let d = join x.done (stamp (bytes_at src cells p) g.kids end) in
      let a = ends (follows n u m s) (untimed g.kids) (not (repeats g.kids x.done)) (judged n t (joined u s) (first_in 1024 s 0) (c + 1) d g.rest) (sym (step x l k s e) ∙ h) in (
        judged-within n t (joined u s) (first_in 1024 s 0) (c + 1) d g.rest a.1 v small (or-second (u v) (s v) i),
        not_so (u v) (λ j. apart-tells s u (follows-apart n u m s a.0) v small i j),
      )

  pub way-timed : {lo p q : ℕ} {u : ℕ → Bool} {m c : ℕ} {whole : Bool} → Way src cells lo p q n t u m c whole → p < q → head_at cells p % 4 ≡ 2
      → (s : ℕ → Bool) → parsed (bytes_at src cells p) ≡ accepted s → follows n u m s ≡ true
      → ((g : Forest) → Tape src cells (p + 1) (next_at cells p) g → false ≡ untimed g) → whole ≡ false
  way-timed x l k s e h d = let g = first x.after l in step x l k s e ∙ rw (h, sym (d g.kids g.inside))

  pub way-repeats : {lo p q : ℕ} {u : ℕ → Bool} {m c : ℕ} {whole : Bool} → Way src cells lo p q n t u m c whole → p < q → head_at cells p % 4 ≡ 2
      → (s : ℕ → Bool) → parsed (bytes_at src cells p) ≡ accepted s → follows n u m s ≡ true
      → ((g : Forest) → Tape src cells (p + 1) (next_at cells p) g → true ≡ untimed g)
      → ((d g : Forest) → Tape src cells lo p d → Tape src cells (p + 1) (next_at cells p) g → true ≡ repeats g d) → whole ≡ false
  way-repeats x l k s e h d r =
      let g = first x.after l in
      step x l k s e ∙ rw (h, sym (d g.kids g.inside), sym (r x.done g.kids x.before g.inside))

  pub way-more : {lo p q : ℕ} {u v : ℕ → Bool} {m j c : ℕ} {whole : Bool} → Way src cells lo p q n t u m c whole → p < q → head_at cells p % 4 ≡ 2
      → (s : ℕ → Bool) → parsed (bytes_at src cells p) ≡ accepted s → follows n u m s ≡ true
      → ((g : Forest) → Tape src cells (p + 1) (next_at cells p) g → true ≡ untimed g)
      → ((d g : Forest) → Tape src cells lo p d → Tape src cells (p + 1) (next_at cells p) g → false ≡ repeats g d)
      → v ≡ joined u s → j ≡ first_in 1024 s 0 → Way src cells lo (next_at cells p) q n t v j (c + 1) whole
  way-more {p = p} x l k s e h d r a b =
      let g = first x.after l in
      record {
        done = join x.done (stamp (bytes_at src cells p) g.kids end);
        rest = g.rest;
        before = tape-join x.before (alone x.after l k);
        after = g.after;
        answer = step x l k s e ∙ rw (h, sym (d g.kids g.inside), sym (r x.done g.kids x.before g.inside), a, b);
      }
