-- A walk over the nodes of a version's tape, in an element whose path has a place: what it asks, what it says, and its loop over siblings.
use Rattle.std.specs.Prelude.{ℕ, ◌+◌, ◌%◌, ◌<◌, ◌≤◌, ◌≡◌, refl, List, []}
use Rattle.std.proofs.Common.{ap, sym, ◌∙◌, arith}
use Rattle.xml.specs.Bytes.{Bytes}
use Rattle.xml.specs.Forest.{Forest, end, elem, text, stamp, join}
use Rattle.xml.specs.Tape.{head_at, next_at, Node, Tape, at-end, at-text, at-elem, at-stamp, Valid}
use Rattle.xml.specs.TapeLaws.{bytes_at, Front, front, split, inner-node, tape-le, tape-none}
use Rattle.keys.specs.KeyList.{Path, KeyList}
use Rattle.keys.specs.Version.{◌▸◌}
use Rattle.keys.specs.Table.{place_of, Table}
use Rattle.keys.specs.PlaceLaws.{place-root}
use Rattle.keys.specs.Placed.{Placed, OfPlace}

-- what a walk asks: the place of a path, and nodes that are a forest
pub record Walk (text : Bytes) (table : List ℕ) (n place : ℕ) (src cells : List ℕ) (lo hi : ℕ) : Type 0 where
  pub placed : Placed text table n place
  pub valid : Valid src cells lo hi

-- what it says: for whichever key list, path and forest these are
abbrev pub OfNodes : Bytes → List ℕ → ℕ → ℕ → List ℕ → List ℕ → ℕ → ℕ → (KeyList → Path → Forest → Type 0) → Type 0
OfNodes key_text table n place src cells lo hi P = OfPlace key_text table n place (λ K p. (f : Forest) → Tape src cells lo hi f → P K p f)

-- of a version's nodes, which stand above the root
abbrev pub OfVersion : Bytes → List ℕ → ℕ → List ℕ → List ℕ → ℕ → (KeyList → Forest → Type 0) → Type 0
OfVersion key_text table n src cells count P = (K : KeyList) → Table key_text table n K → (f : Forest) → Tape src cells 0 count f → P K f

module _ {text : Bytes} {table : List ℕ} {n place : ℕ} {src cells : List ℕ} where
  pub walk-front : {p q : ℕ} → Walk text table n place src cells p q → p < q → Front src cells p q
  walk-front w l = front w.valid.tape l

  -- the first node, and those after it
  pub walk-node : {p q : ℕ} → Walk text table n place src cells p q → p < q → Walk text table n place src cells p (next_at cells p)
  walk-node w l = let s = split w.valid.tape l in record { placed = w.placed; valid = record { forest = s.first; tape = s.here } }

  pub walk-next : {p q : ℕ} → Walk text table n place src cells p q → p < q → Walk text table n place src cells (next_at cells p) q
  walk-next w l = let s = split w.valid.tape l in record { placed = w.placed; valid = record { forest = s.rest; tape = s.after } }

  -- what an element holds, at the place below
  pub walk-kids : {p below : ℕ} → Walk text table n place src cells p (next_at cells p) → p < next_at cells p → (head_at cells p % 4 ≡ 0 → ⊥)
      → OfPlace text table n place (λ K q. below ≡ place_of K (q ▸ bytes_at src cells p)) → Walk text table n below src cells (p + 1) (next_at cells p)
  walk-kids {p} w l k h =
      let a = w.placed in
      let i = inner-node w.valid.tape l k in
      record {
        placed = record { key_list = a.key_list; path = a.path ▸ bytes_at src cells p; table = a.table; place_is = sym (h a.key_list a.path a.table a.place_is) };
        valid = record { forest = i.kids; tape = i.tape };
      }

-- a loop on its way: the whole answer is what is to be said of the nodes p to q
pub record Going {A : Type 0} (src cells : List ℕ) (p q : ℕ) (whole : A) (of : Forest → A) : Type 0 where
  pub rest : Forest
  pub tape : Tape src cells p q rest
  pub same : whole ≡ of rest

module _ {A : Type 0} {src cells : List ℕ} {p q : ℕ} {whole : A} {of : Forest → A} where
  -- by one node
  pub going_more : (next : Forest → A) → Going src cells p q whole of → p < q
      → ((f g : Forest) → Tape src cells p (next_at cells p) f → of (join f g) ≡ next g) → Going src cells (next_at cells p) q whole next
  going_more next x l h =
      let s = split x.tape l in
      record { rest = s.rest; tape = s.after; same = x.same ∙ ap of s.is ∙ h s.first s.rest s.here }

  -- the first node decides
  pub going-found : {a : A} → Going src cells p q whole of → p < q → ((f g : Forest) → Tape src cells p (next_at cells p) f → of (join f g) ≡ a) → whole ≡ a
  going-found x l h = let s = split x.tape l in x.same ∙ ap of s.is ∙ h s.first s.rest s.here

  pub going_done : Going src cells p q whole of → q ≤ p → whole ≡ of end
  going_done x l = let e : q ≡ p = omega (arith, tape-le x.tape) in x.same ∙ ap of (tape-none (rw e at x.tape))

pub going_start : {A : Type 0} {src cells : List ℕ} {p q : ℕ} {f : Forest} (of : Forest → A) → Tape src cells p q f → Going src cells p q (of f) of
going_start of h = record { rest = _; tape = h; same = refl }

-- the element p is the first of the nodes: what it and the rest are
pub record Parted (src cells : List ℕ) (p q : ℕ) (f : Forest) : Type 0 where
  pub name : Bytes
  pub kids : Forest
  pub rest : Forest
  pub node : Node src cells p 1 name
  pub inner : Tape src cells (p + 1) (next_at cells p) kids
  pub after : Tape src cells (next_at cells p) q rest
  pub is : f ≡ elem name kids rest

pub parted : {src cells : List ℕ} {p q : ℕ} {f : Forest} → Tape src cells p q f → p < q → head_at cells p % 4 ≡ 1 → Parted src cells p q f
parted (at-end e) l k = absurd (omega arith)
parted (at-text n u e t) l k = absurd (omega (arith, n.kind-is))
parted (at-elem n i t) l k = record { name = _; kids = _; rest = _; node = n; inner = i; after = t; is = refl }
parted (at-stamp n i t) l k = absurd (omega (arith, n.kind-is))

module _ {A : Type 0} {src cells : List ℕ} (of : Forest → A) {p q : ℕ} {whole : A} where
  -- by an element that decides nothing
  pub going-past : (x : Going src cells p q whole of) (y : Parted src cells p q x.rest) → of (elem y.name y.kids y.rest) ≡ of y.rest
      → Going src cells (next_at cells p) q whole of
  going-past x y e = record { rest = y.rest; tape = y.after; same = x.same ∙ ap of y.is ∙ e }

  -- by a node that is none, where no such decides anything
  pub going-over : ((b : Bytes) (r : Forest) → of (text b r) ≡ of r) → ((t : Bytes) (k r : Forest) → of (stamp t k r) ≡ of r)
      → Going src cells p q whole of → p < q → (head_at cells p % 4 ≡ 1 → ⊥) → Going src cells (next_at cells p) q whole of
  going-over over past x l h = go x.tape x.same
    where
      go : {g : Forest} → Tape src cells p q g → whole ≡ of g → Going src cells (next_at cells p) q whole of
      go (at-end e) i = absurd (omega arith)
      go (at-text {b = b} {r = r} n u e t) i = record { rest = r; tape = rw e t; same = i ∙ over b r }
      go (at-elem n k t) i = absurd (h n.kind-is)
      go (at-stamp {t = m} {k = k} {r = r} n j t) i = record { rest = r; tape = t; same = i ∙ past m k r }

-- the whole version, above the root
pub walk_top : {text : Bytes} {table : List ℕ} {n count : ℕ} {src cells : List ℕ} {K : KeyList} {f : Forest} → Table text table n K → Tape src cells 0 count f
    → Walk text table n 128 src cells 0 count
walk_top {K = K} {f = f} t h = record { placed = record { key_list = K; path = []; table = t; place_is = place-root K }; valid = record { forest = f; tape = h } }
