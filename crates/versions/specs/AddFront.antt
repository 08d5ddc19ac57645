-- Adding to what a frontier holds: contents in their `T`s are passed by until one is the version's, and a bare one is kept or wrapped.
use Rattle.std.specs.Prelude.{ℕ, ◌+◌, ◌-◌, ◌%◌, ◌<◌, ◌≤◌, ◌≡◌, false, List, ◌∷◌, [], ◌++◌}
use Rattle.std.proofs.Common.{arith, ◌∙◌}
use Rattle.std.proofs.Math.Path.{refl, sym, ap}
use Rattle.std.proofs.Math.Bool.{true}
use Rattle.xml.specs.Bytes.{Bytes}
use Rattle.xml.specs.Forest.{Forest, end, elem, text, stamp, write, nodes, join, same_forest}
use Rattle.xml.specs.Over.{Wrote}
use Rattle.xml.specs.OverLaws.{wrote_none, wrote_then}
use Rattle.xml.specs.Tape.{next_at, head_at, Tape, at-end, at-text, at-elem, at-stamp, Valid, Writes}
use Rattle.xml.specs.TapeLaws.{bytes_at, tape-le, tape-none, tape-size, split}
use Rattle.xml.specs.Complete.{join-assoc}
use Rattle.keys.specs.Legal.{untimed}
use Rattle.timestamp.specs.Times.{Times, write_times}
use Rattle.versions.specs.Walk.{times_in, newest, add_branch, add_bare, add_content}
use Rattle.versions.specs.Sizes.{nodes-join, write-join}
use Rattle.versions.specs.AddParts.{LegalSet, BranchesIn, no-branch, branch, FrontIn}
use Rattle.versions.specs.AddTurns.{untimed-size}

-- ---- forests one after the other
module _ {out mid left : List ℕ} {at to r : ℕ} where
  pub wrote-join : (f g : Forest) → Wrote out at (write f) to mid → Wrote mid to (write g) r left → Wrote out at (write (join f g)) r left
  wrote-join f g x y = rw (write-join f g) (wrote_then x y)

pub join-end : (f : Forest) → join f end ≡ f
unfolding join
join-end end = refl
join-end (text b r) = ap (text b) (join-end r)
join-end (elem m k r) = ap (elem m k) (join-end r)
join-end (stamp s k r) = ap (stamp s k) (join-end r)

-- ---- parts of a tape
module _ {src cells : List ℕ} {p q : ℕ} where
  pub valid-inside : Valid src cells p q → p < q → Valid src cells (p + 1) (next_at cells p)
  valid-inside x l = go x.tape l
    where
      go : {f : Forest} → Tape src cells p q f → p < q → Valid src cells (p + 1) (next_at cells p)
      go (at-end e) l = absurd (omega arith)
      go (at-text d u e r) l = record { forest = end; tape = at-end (sym e) }
      go (at-elem d i r) l = record { forest = _; tape = i }
      go (at-stamp d i r) l = record { forest = _; tape = i }

  pub valid-first : Valid src cells p q → p < q → Valid src cells p (next_at cells p)
  valid-first x l = record { forest = (split x.tape l).first; tape = (split x.tape l).here }

  pub valid-rest : Valid src cells p q → p < q → Valid src cells (next_at cells p) q
  valid-rest x l = record { forest = (split x.tape l).rest; tape = (split x.tape l).after }

-- ---- what is asked of a frontier: contents in their `T`s with legal sets, or one content
pub record SomeBranches (n : ℕ) (src cells : List ℕ) (lo hi : ℕ) : Type 0 where
  pub forest : Forest
  pub tape : Tape src cells lo hi forest
  pub legal : BranchesIn n forest

pub record SomeFront (n : ℕ) (src cells : List ℕ) (lo hi : ℕ) : Type 0 where
  pub forest : Forest
  pub tape : Tape src cells lo hi forest
  pub legal : FrontIn n forest

module _ {n : ℕ} {src cells : List ℕ} {p q : ℕ} where
  pub branches-valid : SomeBranches n src cells p q → Valid src cells p q
  branches-valid x = record { forest = x.forest; tape = x.tape }

  pub branches-set : SomeBranches n src cells p q → p < q → LegalSet n (bytes_at src cells p)
  branches-set x l = go x.tape x.legal l
    where
      go : {f : Forest} → Tape src cells p q f → BranchesIn n f → p < q → LegalSet n (bytes_at src cells p)
      go (at-end e) no-branch l = absurd (omega arith)
      go (at-text _ _ _ _) b l = elim b [ ]
      go (at-elem _ _ _) b l = elim b [ ]
      go (at-stamp d i r) (branch y o) l = rw d.bytes-are y

  pub branches-rest : SomeBranches n src cells p q → p < q → SomeBranches n src cells (next_at cells p) q
  branches-rest x l = go x.tape x.legal l
    where
      go : {f : Forest} → Tape src cells p q f → BranchesIn n f → p < q → SomeBranches n src cells (next_at cells p) q
      go (at-end e) no-branch l = absurd (omega arith)
      go (at-text _ _ _ _) b l = elim b [ ]
      go (at-elem _ _ _) b l = elim b [ ]
      go (at-stamp {r = f} d i r) (branch y o) l = record { forest = f; tape = r; legal = o }

  pub front-valid : SomeFront n src cells p q → Valid src cells p q
  front-valid x = record { forest = x.forest; tape = x.tape }

  pub front-branches : SomeFront n src cells p q → p < q → head_at cells p % 4 ≡ 2 → SomeBranches n src cells p q
  front-branches x l k = go x.tape x.legal l
    where
      go : {f : Forest} → Tape src cells p q f → FrontIn n f → p < q → SomeBranches n src cells p q
      go (at-end e) y l = absurd (omega arith)
      go (at-text d u e r) y l = absurd (omega (arith, d.kind-is, k))
      go (at-elem d i r) y l = absurd (omega (arith, d.kind-is, k))
      go (at-stamp d i r) y l = record { forest = _; tape = at-stamp d i r; legal = y }

-- ---- contents in their `T`s, on the way: those before node p are written as they stood
pub record Passing (src cells : List ℕ) (p hi n : ℕ) (v whole first : Forest) (out : List ℕ) (at to : ℕ) (left : List ℕ) : Type 0 where
  pub rest : Forest
  pub tape : Tape src cells p hi rest
  pub legal : BranchesIn n rest
  pub made : Forest
  pub all : whole ≡ join made (add_branch n v rest)
  pub count : nodes made + nodes rest ≡ nodes first
  pub wrote : Wrote out at (write made) to left

pub passing-none : {src cells : List ℕ} {lo hi n : ℕ} {f v : Forest} {out : List ℕ} {at : ℕ} → Tape src cells lo hi f → BranchesIn n f → Passing src cells lo hi n v (add_branch n v f) f out at at out
unfolding join nodes write
passing-none {f = f} h b = record { rest = f; tape = h; legal = b; made = end; all = refl; count = omega arith; wrote = wrote_none }

module _ {src cells : List ℕ} {p hi n : ℕ} {v whole first : Forest} {out mid : List ℕ} {at to : ℕ} where
  pub passing-more : {r : ℕ} {left : List ℕ} → Passing src cells p hi n v whole first out at to mid → p < hi → ((k : Forest) → Tape src cells (p + 1) (next_at cells p) k → same_forest v k ≡ false)
      → Writes src cells p (next_at cells p) mid to r left → Passing src cells (next_at cells p) hi n v whole first out at r left
  unfolding add_branch join nodes
  passing-more {r} {left} x l d w = go x.tape x.legal x.all x.count
    where
      go : {f : Forest} → Tape src cells p hi f → BranchesIn n f → whole ≡ join x.made (add_branch n v f) → nodes x.made + nodes f ≡ nodes first → Passing src cells (next_at cells p) hi n v whole first out at r left
      go (at-end e) no-branch a c = absurd (omega arith)
      go (at-text _ _ _ _) b a c = elim b [ ]
      go (at-elem _ _ _) b a c = elim b [ ]
      go (at-stamp {t = s} {k = k} {r = f} b i h) (branch y o) a c =
          record {
            rest = f;
            tape = h;
            legal = o;
            made = join x.made (stamp s k end);
            all = (rw (d k i, add_branch) at a) ∙ sym (join-assoc x.made (stamp s k end) (add_branch n v f));
            count = rw (nodes-join x.made (stamp s k end)) (omega arith);
            wrote = wrote-join x.made (stamp s k end) x.wrote (w (stamp s k end) (at-stamp b i (at-end refl)));
          }

  -- the version's is found
  pub passing-same : {b r : ℕ} {far left : List ℕ} (times : Bytes) → Passing src cells p hi n v whole first out at to mid → p < hi
      → ((k : Forest) → Tape src cells (p + 1) (next_at cells p) k → same_forest v k ≡ true)
      → (LegalSet n (bytes_at src cells p) → times ≡ write_times (times_in n (bytes_at src cells p) ++ true ∷ []))
      → ((k : Forest) → Tape src cells (p + 1) (next_at cells p) k → Wrote mid to (write (stamp times k end)) b far)
      → Writes src cells (next_at cells p) hi far b r left → Wrote out at (write whole) r left × (nodes whole ≡ nodes first + 0)
  unfolding add_branch join nodes
  passing-same {b} {r} {far} {left} times x l d g y w = go x.tape x.legal x.all x.count
    where
      go : {f : Forest} → Tape src cells p hi f → BranchesIn n f → whole ≡ join x.made (add_branch n v f) → nodes x.made + nodes f ≡ nodes first
          → Wrote out at (write whole) r left × (nodes whole ≡ nodes first + 0)
      go (at-end e) no-branch a c = absurd (omega arith)
      go (at-text _ _ _ _) b a c = elim b [ ]
      go (at-elem _ _ _) b a c = elim b [ ]
      go (at-stamp {t = s} {k = k} {r = f} z i h) (branch q o) a c =
          let t : times ≡ write_times (times_in n s ++ true ∷ []) = (rw z.bytes-are at g) q in
          let e : whole ≡ join x.made (stamp times k f) = (rw (d k i, add_branch) at a) ∙ ap (λ u. join x.made (stamp u k f)) (sym t) in
          (rw e (wrote-join x.made (stamp times k f) x.wrote (wrote-join (stamp times k end) f (y k i) (w f h))), ap nodes e ∙ nodes-join x.made (stamp times k f) ∙ omega arith)

  -- none is the version's
  pub passing-done : {r : ℕ} {left : List ℕ} → Passing src cells p hi n v whole first out at to mid → hi ≤ p → Wrote mid to (write (newest n v end)) r left
      → Wrote out at (write whole) r left × (nodes whole ≡ nodes first + nodes v)
  unfolding add_branch nodes newest
  passing-done {r} {left} x l w =
      let z : hi ≡ p = omega (arith, tape-le x.tape) in
      let y : x.rest ≡ end = tape-none (rw z at x.tape) in
      let e : whole ≡ join x.made (newest n v end) = x.all ∙ ap (λ f. join x.made (add_branch n v f)) y in
      (rw e (wrote-join x.made (newest n v end) x.wrote w), ap nodes e ∙ nodes-join x.made (newest n v end) ∙ omega (arith, x.count, ap nodes y))

-- ---- one content
module _ {out left : List ℕ} {at r : ℕ} (n : ℕ) (t : Times) (v f : Forest) where
  pub bare-same : same_forest v f ≡ true → Wrote out at (write f) r left → Wrote out at (write (add_bare n t v f)) r left × (nodes (add_bare n t v f) ≡ nodes f + 0)
  unfolding add_bare
  bare-same e w = rw (e, add_bare) (w, omega arith)

  pub bare-other : {mid : List ℕ} {to : ℕ} → same_forest v f ≡ false → Wrote out at (write (stamp (write_times t) f end)) to mid → Wrote mid to (write (newest n v end)) r left
      → Wrote out at (write (add_bare n t v f)) r left × (nodes (add_bare n t v f) ≡ nodes f + nodes v)
  unfolding add_bare nodes newest join
  bare-other e x y = rw (e, add_bare) (wrote-join (stamp (write_times t) f end) (newest n v end) x y, omega arith)

-- ---- which of the two
module _ {src cells : List ℕ} {lo hi : ℕ} (n : ℕ) (t : Times) (v : Forest) where
  pub content-bare : {f : Forest} → Tape src cells lo hi f → (lo < hi → head_at cells lo % 4 ≡ 2 → ⊥) → add_content n t v f ≡ add_bare n t v f
  unfolding add_content
  content-bare (at-end e) h = refl
  content-bare (at-text d u e r) h = refl
  content-bare (at-elem d i r) h = refl
  content-bare (at-stamp d i r) h = absurd (h (omega (arith, tape-le i, tape-le r)) d.kind-is)

  pub content-timed : {f : Forest} → Tape src cells lo hi f → lo < hi → head_at cells lo % 4 ≡ 2 → FrontIn n f → (add_content n t v f ≡ add_branch n v f) × BranchesIn n f
  unfolding add_content
  content-timed (at-end e) l h g = absurd (omega arith)
  content-timed (at-text d u e r) l h g = absurd (omega (arith, d.kind-is))
  content-timed (at-elem d i r) l h g = absurd (omega (arith, d.kind-is))
  content-timed (at-stamp d i r) l h g = (refl, g)

-- a version's content has a node for each of the tape's
pub plain-count : {src cells : List ℕ} {lo hi : ℕ} {v : Forest} → Tape src cells lo hi v → untimed v ≡ true → nodes v ≡ hi - lo
plain-count {lo = lo} {v = v} h u = untimed-size v u ∙ omega (arith, tape-size h)
