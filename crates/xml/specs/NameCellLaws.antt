-- Laws of names that are noted in cells: how two names are compared, and how a name is found among the cells by halving and put in its place.
use Rattle.std.specs.Prelude.{ℕ, ◌+◌, ◌-◌, ◌/◌, ◌%◌, ◌<◌, ◌≤◌, ◌≡◌, refl, false, List, [], ◌∷◌, eqb, ltb, length, get_or, set}
use Rattle.std.proofs.Math.Path.{ap, sym}
use Rattle.std.proofs.Common.{ap₂, ◌∙◌, subst, eqb-true, ltb-true, ltb-false, length-set, get_or-set_same, get_or-set_other}
use Rattle.std.proofs.Math.Bool.{true}
use native.Mathlib.Omega.{arith}
use Rattle.std.proofs.lemmas.Bool.{eqb-false}
use Rattle.std.proofs.Math.Seq.{slice, slice_empty}
use Rattle.xml.specs.Bytes.{Bytes, any, same}
use Rattle.xml.specs.BytesLaws.{same-is, same_self}
use Rattle.xml.specs.Tags.{less}
use Rattle.xml.specs.NameOrder.{less-more, less_other, less-nil, less-self, less-trans, less-total}
use Rattle.xml.specs.NameCells.{cell_of, name_in, InText, cell_at, name_at, NameCells, Parted, Shifted, Below}
use Rattle.xml.specs.SignLaws.{slice_first}
use Rattle.xml.specs.Truth.{by-test, clash, not_so, or-first, or-second}

-- ---- the order of two names, at a place of each of two texts
module _ (src₁ : Bytes) (i e₁ : ℕ) (src₂ : Bytes) (j e₂ : ℕ) (l : j < e₂) (m : e₂ ≤ length src₂) where
  pub order-first : i ≡ e₁ → less (slice i e₁ src₁) (slice j e₂ src₂) ≡ true
  unfolding less
  order-first e = rw (e, slice_empty e₁ src₁, slice_first j e₂ src₂ l m)

  module _ (h : i < e₁) (k : e₁ ≤ length src₁) where
    pub order-more : get_or src₁ i 0 ≡ get_or src₂ j 0 → less (slice i e₁ src₁) (slice j e₂ src₂) ≡ less (slice (i + 1) e₁ src₁) (slice (j + 1) e₂ src₂)
    order-more e = rw (slice_first i e₁ src₁ h k, slice_first j e₂ src₂ l m) (less-more _ _ _ _ e)

    pub order_other : (get_or src₁ i 0 ≡ get_or src₂ j 0 → ⊥) → less (slice i e₁ src₁) (slice j e₂ src₂) ≡ ltb (get_or src₁ i 0) (get_or src₂ j 0)
    order_other n = rw (slice_first i e₁ src₁ h k, slice_first j e₂ src₂ l m) (less_other _ _ _ _ n)

pub order-over : (s src₂ : Bytes) (j e₂ : ℕ) → j ≡ e₂ → less s (slice j e₂ src₂) ≡ false
order-over s src₂ j e₂ e = rw (e, slice_empty e₂ src₂) (less-nil s)

-- ---- cells
pub no_names : {src cells : List ℕ} {base : ℕ} → base ≤ length cells → NameCells src cells base 0 []
unfolding any
no_names h =
    record {
      room = omega arith;
      in-text = λ i l. absurd (omega arith);
      ascends = λ i j l m. absurd (omega arith);
      is-used = λ i l. absurd (omega arith);
      held = λ q e. clash (sym e);
      few = omega arith;
    }

-- ---- halving
pub parted-all : {src cells : List ℕ} {base k : ℕ} {name : Bytes} → Parted src cells base k name 0 k
parted-all = record { low = omega arith; high = omega arith; before = λ i l. absurd (omega arith); after = λ i l m. absurd (omega arith) }

module _ {src cells : List ℕ} {base k : ℕ} {name : Bytes} {used : List Bytes} {lo hi mid : ℕ} (n : NameCells src cells base k used) (p : Parted src cells base k name lo hi) (l : lo ≤ mid) (h : mid < hi) where
  pub parted-up : less (name_at src cells base mid) name ≡ true → Parted src cells base k name (mid + 1) hi
  parted-up e =
      record {
        low = omega arith;
        high = p.high;
        before = λ i g.
            by-test (ltb i mid)
            (λ x. less-trans _ _ _ (n.ascends i mid (ltb-true i mid x) (omega (arith, p.high))) e)
            (λ x. let z : i ≡ mid = omega (arith, ltb-false i mid x) in ap (λ (y : ℕ). less (name_at src cells base y) name) z ∙ e);
        after = p.after;
      }

  pub parted-down : less (name_at src cells base mid) name ≡ false → Parted src cells base k name lo mid
  parted-down e =
      record {
        low = l;
        high = omega (arith, p.high);
        before = p.before;
        after = λ i g m.
            by-test (ltb mid i)
            (λ x. not_so _ (λ y. clash (sym (less-trans _ _ _ (n.ascends mid i (ltb-true mid i x) m) y) ∙ e)))
            (λ x. let z : i ≡ mid = omega (arith, ltb-false mid i x) in ap (λ (y : ℕ). less (name_at src cells base y) name) z ∙ e);
      }

-- ---- a name that is sought
module _ {src cells : List ℕ} {base k : ℕ} {name : Bytes} {used : List Bytes} {r : ℕ} (n : NameCells src cells base k used) (p : Parted src cells base k name r r) where
  not-before : (i : ℕ) → i < r → name_at src cells base i ≡ name → ⊥
  not-before i l e = clash (sym (p.before i l) ∙ ap (λ (x : Bytes). less x name) e ∙ less-self name)

  pub not_noted : r ≡ k → any (same name) used ≡ false
  not_noted e = not_so _ (λ u. let t = n.held name u in not-before t.0 (omega (arith, t.1)) t.2)

  pub noted-as : r < k → same (name_at src cells base r) name ≡ any (same name) used
  noted-as h =
      by-test (same (name_at src cells base r) name)
      (λ e. e ∙ sym (ap (λ (x : Bytes). any (same x) used) (sym (same-is _ _ e)) ∙ n.is-used r h))
      (λ e. e ∙ sym (not_so _ (λ u. let t = n.held name u in nowhere e t.0 t.1 t.2)))
    where
      nowhere : same (name_at src cells base r) name ≡ false → (i : ℕ) → i < k → name_at src cells base i ≡ name → ⊥
      nowhere d i l e =
          by-test (ltb i r) (λ x. not-before i (ltb-true i r x) e)
          (λ x.
          by-test (eqb i r)
          (λ y. clash (sym (same_self name) ∙ ap (λ (z : Bytes). same z name) (sym e ∙ ap (name_at src cells base) (eqb-true i r y)) ∙ d))
          (λ y.
          let m : r < i = omega (arith, ltb-false i r x, eqb-false i r y) in
          clash (sym (n.ascends r i m l) ∙ ap (less (name_at src cells base r)) e ∙ p.after r (omega arith) h)))

  -- one that is not noted comes before those that do not come before it
  later : any (same name) used ≡ false → (i : ℕ) → r ≤ i → i < k → less name (name_at src cells base i) ≡ true
  later d i g l =
      by-test (less name (name_at src cells base i)) (λ e. e)
      (λ e. clash (sym (n.is-used i l) ∙ ap (λ (x : Bytes). any (same x) used) (less-total _ _ (p.after i g l) e) ∙ d))

-- ---- cells that are moved, and one that is put among them
pub shifted_none : {cells : List ℕ} {hi : ℕ} → Shifted cells hi hi cells
shifted_none = record { long = refl; kept = λ i l. refl; moved = λ i l m. absurd (omega arith) }

pub shifted-more : {cells new : List ℕ} {lo i hi : ℕ} → lo + 1 ≡ i → i ≤ hi → hi < length cells → Shifted cells i hi new → Shifted cells lo hi (set new i (get_or new lo 0))
shifted-more {cells} {new} {lo} {i} {hi} e h b s =
    record {
      long = length-set new i (get_or new lo 0) ∙ s.long;
      kept = λ j l. get_or-set_other new i j (get_or new lo 0) 0 (λ d. omega arith) ∙ s.kept j (omega arith);
      moved = λ j l m.
          by-test (eqb j lo)
          (λ x.
          let z = eqb-true j lo x in
          let y : j + 1 ≡ i = omega arith in
          ap (λ (a : ℕ). get_or (set new i (get_or new lo 0)) a 0) y ∙ get_or-set_same new i (get_or new lo 0) 0 (omega (arith, s.long)) ∙ s.kept lo (omega arith) ∙ ap (λ (a : ℕ). get_or cells a 0) (sym z))
          (λ x. let z = eqb-false j lo x in get_or-set_other new i (j + 1) (get_or new lo 0) 0 (λ d. omega arith) ∙ s.moved j (omega arith) m);
    }

-- one more cell stands at r of the k from `base` on
record Put (cells : List ℕ) (base k r cell : ℕ) (new : List ℕ) : Type 0 where
  long : length new ≡ length cells
  low : (i : ℕ) → i < r → cell_at new base i ≡ cell_at cells base i
  here : cell_at new base r ≡ cell
  high : (i : ℕ) → r ≤ i → i < k → cell_at new base (i + 1) ≡ cell_at cells base i

module _ {cells mid : List ℕ} {base k r : ℕ} (cell : ℕ) (h : r ≤ k) (b : base + k < length cells) (s : Shifted cells (base + r) (base + k) mid) where
  put : Put cells base k r cell (set mid (base + r) cell)
  put =
      record {
        long = length-set mid (base + r) cell ∙ s.long;
        low = λ i l. get_or-set_other mid (base + r) (base + i) cell 0 (λ d. omega arith) ∙ s.kept (base + i) (omega arith);
        here = get_or-set_same mid (base + r) cell 0 (omega (arith, s.long));
        high = λ i g l.
            let z : base + (i + 1) ≡ base + i + 1 = omega arith in
            get_or-set_other mid (base + r) (base + (i + 1)) cell 0 (λ d. omega arith) ∙ ap (λ (a : ℕ). get_or mid a 0) z ∙ s.moved (base + i) (omega arith) (omega arith);
      }

  pub put-below : Below cells (set mid (base + r) cell) base
  put-below =
      record {
        long = length-set mid (base + r) cell ∙ s.long;
        kept = λ i l. get_or-set_other mid (base + r) i cell 0 (λ d. omega arith) ∙ s.kept i (omega arith);
      }

-- ---- the names with one more
-- where j lies: below r, at r, or one further than an i from r on
data Side (r j : ℕ) : Type 0 where
  low : j < r → Side r j
  here : j ≡ r → Side r j
  high : (i : ℕ) → j ≡ i + 1 → r ≤ i → Side r j

side : (r j : ℕ) → Side r j
side r j =
    by-test (ltb j r) (λ x. low (ltb-true j r x))
    (λ x. by-test (eqb j r) (λ y. here (eqb-true j r y)) (λ y. high (j - 1) (omega (arith, ltb-false j r x, eqb-false j r y)) (omega (arith, ltb-false j r x, eqb-false j r y))))

module _ {src cells new : List ℕ} {base k r cell : ℕ} {used : List Bytes} (n : NameCells src cells base k used) (q : Parted src cells base k (name_in src cell) r r) (p : Put cells base k r cell new) where
  cell-high : {i j : ℕ} → j ≡ i + 1 → r ≤ i → j < k + 1 → cell_at new base j ≡ cell_at cells base i
  cell-high {i} e g l = ap (cell_at new base) e ∙ p.high i g (omega arith)

  cell-here : {j : ℕ} → j ≡ r → cell_at new base j ≡ cell
  cell-here e = ap (cell_at new base) e ∙ p.here

  put-in-text : InText src cell → (j : ℕ) → j < k + 1 → InText src (cell_at new base j)
  put-in-text t j l = at (side r j)
    where
      at : Side r j → InText src (cell_at new base j)
      at (low h) = subst (InText src) (sym (p.low j h)) (n.in-text j (omega (arith, q.high)))
      at (here e) = subst (InText src) (sym (cell-here e)) t
      at (high i e g) = subst (InText src) (sym (cell-high e g l)) (n.in-text i (omega arith))

  put-ascends : any (same (name_in src cell)) used ≡ false → (i j : ℕ) → i < j → j < k + 1 → less (name_at src new base i) (name_at src new base j) ≡ true
  put-ascends d i j l m = at (side r i) (side r j)
    where
      by : (x y : ℕ) → cell_at new base i ≡ x → cell_at new base j ≡ y → less (name_in src x) (name_in src y) ≡ true → less (name_at src new base i) (name_at src new base j) ≡ true
      by x y e f h = ap₂ (λ (a b : ℕ). less (name_in src a) (name_in src b)) e f ∙ h

      at : Side r i → Side r j → less (name_at src new base i) (name_at src new base j) ≡ true
      at (low h) (low g) = by _ _ (p.low i h) (p.low j g) (n.ascends i j l (omega (arith, q.high)))
      at (low h) (here f) = by _ _ (p.low i h) (cell-here f) (q.before i h)
      at (low h) (high v f g) = by _ _ (p.low i h) (cell-high f g m) (n.ascends i v (omega arith) (omega arith))
      at (here e) (high v f g) = by _ _ (cell-here e) (cell-high f g m) (later n q d v g (omega arith))
      at (high u e h) (high v f g) = by _ _ (cell-high e h (omega arith)) (cell-high f g m) (n.ascends u v (omega arith) (omega arith))
      at (here e) (low g) = absurd (omega arith)
      at (here e) (here f) = absurd (omega arith)
      at (high u e h) (low g) = absurd (omega arith)
      at (high u e h) (here f) = absurd (omega arith)

  put-used : (j : ℕ) → j < k + 1 → any (same (name_at src new base j)) (name_in src cell ∷ used) ≡ true
  unfolding any
  put-used j l = at (side r j)
    where
      by : (x : ℕ) → cell_at new base j ≡ x → any (same (name_in src x)) (name_in src cell ∷ used) ≡ true → any (same (name_at src new base j)) (name_in src cell ∷ used) ≡ true
      by x e h = ap (λ (a : ℕ). any (same (name_in src a)) (name_in src cell ∷ used)) e ∙ h

      at : Side r j → any (same (name_at src new base j)) (name_in src cell ∷ used) ≡ true
      at (low h) = by _ (p.low j h) (or-second (same (name_at src cells base j) (name_in src cell)) (any (same (name_at src cells base j)) used) (n.is-used j (omega (arith, q.high))))
      at (here e) = by _ (cell-here e) (or-first (same (name_in src cell) (name_in src cell)) (any (same (name_in src cell)) used) (same_self (name_in src cell)))
      at (high i e g) = by _ (cell-high e g l) (or-second (same (name_at src cells base i) (name_in src cell)) (any (same (name_at src cells base i)) used) (n.is-used i (omega arith)))

  put-held : (s : Bytes) → any (same s) (name_in src cell ∷ used) ≡ true → (j : ℕ) × (j < k + 1) × (name_at src new base j ≡ s)
  unfolding any
  put-held s e =
      by-test (same s (name_in src cell)) (λ x. (r, omega (arith, q.high), ap (name_in src) p.here ∙ sym (same-is _ _ x)))
      (λ x. let t = n.held s (rw x at e) in old t.0 t.1 t.2)
    where
      old : (i : ℕ) → i < k → name_at src cells base i ≡ s → (j : ℕ) × (j < k + 1) × (name_at src new base j ≡ s)
      old i l e =
          by-test (ltb i r) (λ x. (i, omega arith, ap (name_in src) (p.low i (ltb-true i r x)) ∙ e))
          (λ x. (i + 1, omega arith, ap (name_in src) (p.high i (ltb-false i r x) l) ∙ e))

  put-names : any (same (name_in src cell)) used ≡ false → InText src cell → base + k < length cells → NameCells src new base (k + 1) (name_in src cell ∷ used)
  put-names d t b =
      record {
        room = omega (arith, p.long);
        in-text = put-in-text t;
        ascends = put-ascends d;
        is-used = put-used;
        held = put-held;
        few = omega (arith, n.few);
      }

-- a name that is noted in its place
pub noted_more : {src cells mid : List ℕ} {base k r : ℕ} {used : List Bytes} (start count : ℕ) → start + count ≤ length src → count ≤ 32 → base + k < length cells
    → any (same (slice start (start + count) src)) used ≡ false → Parted src cells base k (slice start (start + count) src) r r → Shifted cells (base + r) (base + k) mid
    → NameCells src cells base k used → NameCells src (set mid (base + r) (cell_of start count)) base (k + 1) (slice start (start + count) src ∷ used)
noted_more {src} {cells} {mid} {base} {k} {r} {used} start count w h b d q s n =
    subst (λ (x : Bytes). NameCells src (set mid (base + r) (cell_of start count)) base (k + 1) (x ∷ used)) name
    (put-names n (subst (λ (x : Bytes). Parted src cells base k x r r) (sym name) q) (put (cell_of start count) q.high b s) (ap (λ (x : Bytes). any (same x) used) name ∙ d)
    (record { within = omega arith; short = omega arith }) b)
  where
    first : cell_of start count / 64 ≡ start
    first = omega arith

    rest : cell_of start count % 64 ≡ count
    rest = omega arith

    name : name_in src (cell_of start count) ≡ slice start (start + count) src
    name = ap₂ (λ (x y : ℕ). slice x (x + y) src) first rest
