-- Going along a row of names: what is asked of all of them is asked of one after another.
use Prim.Native.Nat.{ℕ, ◌+◌, ◌<◌, ◌≤◌}
use native.Mathlib.Omega.{arith}
use mathlib.Core.Path.{◌≡◌, refl, sym, ◌∙◌, ap, ap₂, subst}
use mathlib.Core.Bool.{Bool, true, false}
use mathlib.Core.List.{List, [], ◌∷◌}
use lib.ListN.{length, drop}
use lib.Seq.{slice}
use Rattle.xml.specs.Bytes.{Bytes, any, distinct, same}
use Rattle.xml.specs.Read.{name_len}
use Rattle.keys.specs.Rows.{Row, row-none, row-name, Rowed}

pub row_within : {d : ℕ} {text : Bytes} {e i : ℕ} {ns : List Bytes} → Row d text e i ns → e ≤ length text
row_within (row-none f h w) = w
row_within (row-name l p s b r) = row_within r

pub row_from : {d : ℕ} {text : Bytes} {e i : ℕ} {ns : List Bytes} → Row d text e i ns → i ≤ length text
row_from (row-none f h w) = f
row_from (row-name l p s b r) = omega (arith, row_within r)

pub record Next (d : ℕ) (text : Bytes) (e i k : ℕ) (ns : List Bytes) : Type 0 where
  pub name : Bytes
  pub rest : List Bytes
  pub is : ns ≡ name ∷ rest
  pub part : slice (i + d) (i + d + k) text ≡ name
  pub below : i + d + k ≤ e
  pub some : 0 < k
  pub row : Row d text e (i + d + k) rest

-- where the row goes on, its next name is counted
pub row_next : {d : ℕ} {text : Bytes} {e i k : ℕ} {ns : List Bytes} → Row d text e i ns → i + d < e → k ≡ name_len (drop (i + d) text) → Next d text e i k ns
row_next (row-none f b w) h q = absurd (omega arith)
row_next {d} {text} {e} {i} {k} (row-name {n = n} {ns = ns} l p s b r) h q =
    let z : length n ≡ k = sym (q ∙ l) in
    record {
      name = n;
      rest = ns;
      is = refl;
      part = ap (λ (x : ℕ). slice (i + d) (i + d + x) text) (sym z) ∙ p;
      below = omega arith;
      some = omega arith;
      row = subst (λ (x : ℕ). Row d text e (i + d + x) ns) z r;
    }

pub row-end : {d : ℕ} {text : Bytes} {e i : ℕ} {ns : List Bytes} → Row d text e i ns → e ≤ i + d → ns ≡ []
row-end (row-none f b w) h = refl
row-end (row-name l p s b r) h = absurd (omega arith)

-- the names of a row are no others
pub row_one : {d : ℕ} {text : Bytes} {e i : ℕ} {ns ms : List Bytes} → Row d text e i ns → Row d text e i ms → ns ≡ ms
row_one (row-none f b w) r = sym (row-end r b)
row_one {d} {text} {e} {i} (row-name {n = n} {ns = ns} l p s b q) r =
    let x = row_next r (omega arith) (sym l) in
    ap₂ (λ (m : Bytes) (ms : List Bytes). m ∷ ms) (sym p ∙ x.part) (row_one q x.row) ∙ sym x.is

-- the names from `from` on have the answer of those from i on
abbrev pub Along : {A : Type 0} → ℕ → Bytes → ℕ → (List Bytes → A) → ℕ → ℕ → Type 0
Along d text e g from i = (ns : List Bytes) → Row d text e from ns → (ms : List Bytes) × Row d text e i ms × (g ns ≡ g ms)

pub along-starts : {A : Type 0} {d : ℕ} {text : Bytes} {e : ℕ} (g : List Bytes → A) (from : ℕ) → Along d text e g from from
along-starts g from ns r = (ns, r, refl)

module _ {text : Bytes} {e from i : ℕ} (w : Bytes) (a : Along 2 text e (any (same w)) from i) where
  module _ {k : ℕ} (h : i + 2 < e) (q : k ≡ name_len (drop (i + 2) text)) where
    pub among-found : same w (slice (i + 2) (i + 2 + k) text) ≡ true → (ns : List Bytes) → Row 2 text e from ns → true ≡ any (same w) ns
    unfolding any
    among-found f ns r =
        let t = a ns r in
        let x = row_next t.1 h q in
        sym (t.2 ∙ ap (any (same w)) x.is ∙ rw (sym (ap (same w) x.part) ∙ f))

    pub among-turn : same w (slice (i + 2) (i + 2 + k) text) ≡ false → Along 2 text e (any (same w)) from (i + (2 + k))
    unfolding any
    among-turn f ns r =
        let t = a ns r in
        let x = row_next t.1 h q in
        let z : i + 2 + k ≡ i + (2 + k) = omega arith in
        (x.rest, subst (λ (j : ℕ). Row 2 text e j x.rest) z x.row, t.2 ∙ ap (any (same w)) x.is ∙ rw (sym (ap (same w) x.part) ∙ f))

  pub among-ends : e ≤ i + 2 → (ns : List Bytes) → Row 2 text e from ns → false ≡ any (same w) ns
  unfolding any
  among-ends h ns r = let t = a ns r in sym (t.2 ∙ ap (any (same w)) (row-end t.1 h))

module _ {text : Bytes} {e from i : ℕ} (a : Along 2 text e (distinct same) from i) where
  module _ {k : ℕ} {b : Bool} (h : i + 2 < e) (q : k ≡ name_len (drop (i + 2) text)) (f : (ns : List Bytes) → Row 2 text e (i + 2 + k) ns → b ≡ any (same (slice (i + 2) (i + 2 + k) text)) ns) where
    pub distinct-found : b ≡ true → (ns : List Bytes) → Row 2 text e from ns → false ≡ distinct same ns
    unfolding distinct
    distinct-found g ns r =
        let t = a ns r in
        let x = row_next t.1 h q in
        sym (t.2 ∙ ap (distinct same) x.is ∙ rw (sym (ap (λ (z : Bytes). any (same z) x.rest) x.part) ∙ sym (f x.rest x.row) ∙ g))

    pub distinct-turn : b ≡ false → Along 2 text e (distinct same) from (i + (2 + k))
    unfolding distinct
    distinct-turn g ns r =
        let t = a ns r in
        let x = row_next t.1 h q in
        let z : i + 2 + k ≡ i + (2 + k) = omega arith in (
          x.rest,
          subst (λ (j : ℕ). Row 2 text e j x.rest) z x.row,
          t.2 ∙ ap (distinct same) x.is ∙ rw (sym (ap (λ (z : Bytes). any (same z) x.rest) x.part) ∙ sym (f x.rest x.row) ∙ g),
        )

  pub distinct-ends : e ≤ i + 2 → (ns : List Bytes) → Row 2 text e from ns → true ≡ distinct same ns
  unfolding distinct
  distinct-ends h ns r = let t = a ns r in sym (t.2 ∙ ap (distinct same) (row-end t.1 h))

-- the row that is left after a name
pub rowed-turn : {text : Bytes} {e i k : ℕ} → Rowed 2 text e i → i + 2 < e → k ≡ name_len (drop (i + 2) text) → Rowed 2 text e (i + (2 + k))
rowed-turn {text} {e} {i} {k} r h q = let z : i + 2 + k ≡ i + (2 + k) = omega arith in let x = row_next r.row h q in record { names = x.rest; row = subst (λ (j : ℕ). Row 2 text e j x.rest) z x.row }

pub rowed-next : {d : ℕ} {text : Bytes} {e i k : ℕ} → Rowed d text e i → i + d < e → k ≡ name_len (drop (i + d) text) → Rowed d text e (i + d + k)
rowed-next {d} {text} {e} {i} {k} r h q = let x = row_next r.row h q in record { names = x.rest; row = x.row }

pub rowed-fits : {d : ℕ} {text : Bytes} {e i k : ℕ} → Rowed d text e i → i + d < e → k ≡ name_len (drop (i + d) text) → (i + d + k ≤ e) × (e ≤ length text) × (0 < k)
rowed-fits {d} {text} {e} {i} {k} r h q = ((row_next r.row h q).below, row_within r.row, (row_next r.row h q).some)
