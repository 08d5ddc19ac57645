-- Two parts of tapes are the same forest where they agree node by node.
use Rattle.std.specs.Prelude.{ℕ, ◌+◌, ◌*◌, ◌-◌, ◌%◌, ◌<◌, ◌≤◌, ◌≡◌, refl, Bool, true, false, not, List, eqb, leb, length}
use Rattle.std.proofs.Common.{ap, ap₂, sym, ◌∙◌, arith, eq-eqb, ne_eqb, eqb-true, leb-true, leb-false}
use Rattle.std.proofs.lemmas.Bool.{eqb-false}
use Rattle.xml.specs.Bytes.{Bytes, same}
use Rattle.xml.specs.BytesLaws.{same_self, forest-is, forest-self}
use Rattle.xml.specs.Truth.{by-test, clash, not_so}
use Rattle.xml.specs.Forest.{Forest, text, same_forest}
use Rattle.xml.specs.Read.{unescape}
use Rattle.xml.specs.Tape.{head_at, next_at, end_in, Node, Tape, at-end, at-text, at-elem, at-stamp, size}
use Rattle.xml.specs.TapeLaws.{bytes_at, tape-le, tape-size}

-- two parts of texts
pub record Parts (src₁ : List ℕ) (a₁ e₁ : ℕ) (src₂ : List ℕ) (a₂ e₂ : ℕ) : Type 0 where
  pub le₁ : a₁ ≤ e₁
  pub in₁ : e₁ ≤ length src₁
  pub le₂ : a₂ ≤ e₂
  pub in₂ : e₂ ≤ length src₂

-- what the bytes that name a node mean: a run of text, or a name or times
abbrev pub meaning : Bool → Bytes → Bytes
meaning true raw = unescape 0 raw
meaning false raw = raw

-- ---- any node of a tape
pub record At (src cells : List ℕ) (p : ℕ) : Type 0 where
  pub held : 2 * p + 1 < length cells
  pub within : end_in (head_at cells p) ≤ length src
  pub forward : p < next_at cells p

module _ {src cells : List ℕ} where
  pub tape-at : {p q : ℕ} {f : Forest} (i : ℕ) → Tape src cells p q f → p ≤ i → i < q → At src cells i
  tape-at i (at-end e) h l = absurd (omega arith)
  tape-at {p} i (at-text n u e r) h l =
      by-test (eqb i p) (λ x. rw (eqb-true i p x) (record { held = n.held; within = n.within; forward = omega arith }))
      (λ x. tape-at i r (omega (arith, eqb-false i p x)) l)
  tape-at {p} i (at-elem n k r) h l =
      by-test (eqb i p) (λ x. rw (eqb-true i p x) (record { held = n.held; within = n.within; forward = omega (arith, tape-le k) }))
      (λ x. by-test (leb (next_at cells p) i) (λ y. tape-at i r (leb-true (next_at cells p) i y) l)
      (λ y. tape-at i k (omega (arith, eqb-false i p x)) (leb-false (next_at cells p) i y)))
  tape-at {p} i (at-stamp n k r) h l =
      by-test (eqb i p) (λ x. rw (eqb-true i p x) (record { held = n.held; within = n.within; forward = omega (arith, tape-le k) }))
      (λ x. by-test (leb (next_at cells p) i) (λ y. tape-at i r (leb-true (next_at cells p) i y) l)
      (λ y. tape-at i k (omega (arith, eqb-false i p x)) (leb-false (next_at cells p) i y)))

-- ---- two nodes of two tapes: of the same kind, as far from their next, with the same meaning
pub record Agrees (src₁ cells₁ : List ℕ) (p : ℕ) (src₂ cells₂ : List ℕ) (q : ℕ) : Type 0 where
  pub kind : head_at cells₁ p % 4 ≡ head_at cells₂ q % 4
  pub far : next_at cells₁ p - p ≡ next_at cells₂ q - q
  pub says : meaning (eqb (head_at cells₁ p % 4) 0) (bytes_at src₁ cells₁ p) ≡ meaning (eqb (head_at cells₁ p % 4) 0) (bytes_at src₂ cells₂ q)

-- the nodes p to q of one tape agree with those from u on of the other
abbrev pub Agree : List ℕ → List ℕ → ℕ → ℕ → List ℕ → List ℕ → ℕ → Type 0
Agree src₁ cells₁ p q src₂ cells₂ u = (i j : ℕ) → p ≤ i → i < q → u ≤ j → i + u ≡ j + p → Agrees src₁ cells₁ i src₂ cells₂ j

-- by the place of a node: it is the first; or it is not
by_first : {A : Type 0} (i p : ℕ) → p ≤ i → (i ≡ p → A) → (p < i → A) → A
by_first i p h f g = by-test (eqb i p) (λ x. f (eqb-true i p x)) (λ x. g (omega (arith, eqb-false i p x)))

by_part : {A : Type 0} (i m : ℕ) → (i < m → A) → (m ≤ i → A) → A
by_part i m f g = by-test (leb m i) (λ x. g (leb-true m i x)) (λ x. f (leb-false m i x))

module _ {src₁ cells₁ src₂ cells₂ : List ℕ} where
  text_says : {p u : ℕ} {raw raw' b c : Bytes} → Node src₁ cells₁ p 0 raw → unescape 0 raw ≡ b → Node src₂ cells₂ u 0 raw' → unescape 0 raw' ≡ c
      → Agrees src₁ cells₁ p src₂ cells₂ u → b ≡ c
  text_says {p} n e m d g =
      sym e ∙ ap (unescape 0) (sym n.bytes-are) ∙ (rw (eq-eqb (head_at cells₁ p % 4) 0 n.kind-is) at g.says) ∙ ap (unescape 0) m.bytes-are ∙ d

  name-says : {p u k : ℕ} {b c : Bytes} → 0 < k → Node src₁ cells₁ p k b → Node src₂ cells₂ u k c → Agrees src₁ cells₁ p src₂ cells₂ u → b ≡ c
  name-says {p} h n m g =
      sym n.bytes-are ∙ (rw (ne_eqb (head_at cells₁ p % 4) 0 (omega (arith, n.kind-is))) at g.says) ∙ m.bytes-are

  -- where all agree, it is one forest
  pub agree_same : {p q u v : ℕ} {f g : Forest} → Tape src₁ cells₁ p q f → Tape src₂ cells₂ u v g → q - p ≡ v - u → Agree src₁ cells₁ p q src₂ cells₂ u → f ≡ g
  agree_same (at-end e) (at-end d) l a = refl
  agree_same (at-end e) (at-text m w d s) l a = absurd (omega (arith, tape-le s))
  agree_same (at-end e) (at-elem m k s) l a = absurd (omega (arith, tape-le k, tape-le s))
  agree_same (at-end e) (at-stamp m k s) l a = absurd (omega (arith, tape-le k, tape-le s))
  agree_same (at-text n w e r) (at-end d) l a = absurd (omega (arith, tape-le r))
  agree_same {p} {u = u} (at-text n w e r) (at-text m x d s) l a =
      let o = tape-le r in
      let z = tape-le s in
      ap₂ text (text_says n w m x (a p u (omega arith) (omega arith) (omega arith) (omega arith)))
      (agree_same r s (omega arith) (λ i j h g t b. a i j (omega arith) g (omega arith) (omega arith)))
  agree_same {p} {u = u} (at-text n w e r) (at-elem m k s) l a =
      absurd (omega (arith, n.kind-is, m.kind-is, tape-le r, (a p u (omega arith) (omega (arith, tape-le r)) (omega arith) (omega arith)).kind))
  agree_same {p} {u = u} (at-text n w e r) (at-stamp m k s) l a =
      absurd (omega (arith, n.kind-is, m.kind-is, tape-le r, (a p u (omega arith) (omega (arith, tape-le r)) (omega arith) (omega arith)).kind))
  agree_same (at-elem n k r) (at-end d) l a = absurd (omega (arith, tape-le k, tape-le r))
  agree_same {p} {u = u} (at-elem n k r) (at-text m w d s) l a =
      absurd (omega (arith, n.kind-is, m.kind-is, (a p u (omega arith) (omega (arith, tape-le k, tape-le r)) (omega arith) (omega arith)).kind))
  agree_same {p} {u = u} (at-elem {n = b} {k = f} {r = f'} n k r) (at-elem {n = c} {k = g} {r = g'} m j s) l a =
      let o = tape-le k in
      let y = tape-le r in
      let z = tape-le j in
      let t = tape-le s in
      let h = a p u (omega arith) (omega arith) (omega arith) (omega arith) in
      let d = h.far in
      let x : b ≡ c = name-says (omega arith) n m h in
      let w : f ≡ g = agree_same k j (omega arith) (λ i' j' α β γ δ. a i' j' (omega arith) (omega arith) (omega arith) (omega arith)) in
      let w' : f' ≡ g' = agree_same r s (omega arith) (λ i' j' α β γ δ. a i' j' (omega arith) (omega arith) (omega arith) (omega arith)) in
      cc
  agree_same {p} {u = u} (at-elem n k r) (at-stamp m j s) l a =
      absurd (omega (arith, n.kind-is, m.kind-is, (a p u (omega arith) (omega (arith, tape-le k, tape-le r)) (omega arith) (omega arith)).kind))
  agree_same (at-stamp n k r) (at-end d) l a = absurd (omega (arith, tape-le k, tape-le r))
  agree_same {p} {u = u} (at-stamp n k r) (at-text m w d s) l a =
      absurd (omega (arith, n.kind-is, m.kind-is, (a p u (omega arith) (omega (arith, tape-le k, tape-le r)) (omega arith) (omega arith)).kind))
  agree_same {p} {u = u} (at-stamp n k r) (at-elem m j s) l a =
      absurd (omega (arith, n.kind-is, m.kind-is, (a p u (omega arith) (omega (arith, tape-le k, tape-le r)) (omega arith) (omega arith)).kind))
  agree_same {p} {u = u} (at-stamp {t = b} {k = f} {r = f'} n k r) (at-stamp {t = c} {k = g} {r = g'} m j s) l a =
      let o = tape-le k in
      let y = tape-le r in
      let z = tape-le j in
      let t = tape-le s in
      let h = a p u (omega arith) (omega arith) (omega arith) (omega arith) in
      let d = h.far in
      let x : b ≡ c = name-says (omega arith) n m h in
      let w : f ≡ g = agree_same k j (omega arith) (λ i' j' α β γ δ. a i' j' (omega arith) (omega arith) (omega arith) (omega arith)) in
      let w' : f' ≡ g' = agree_same r s (omega arith) (λ i' j' α β γ δ. a i' j' (omega arith) (omega arith) (omega arith) (omega arith)) in
      cc

  text-agrees : {p u : ℕ} {raw raw' b : Bytes} → Node src₁ cells₁ p 0 raw → unescape 0 raw ≡ b → Node src₂ cells₂ u 0 raw' → unescape 0 raw' ≡ b
      → next_at cells₁ p - p ≡ next_at cells₂ u - u → Agrees src₁ cells₁ p src₂ cells₂ u
  text-agrees {p} n e m d l =
      record {
        kind = n.kind-is ∙ sym m.kind-is;
        far = l;
        says = rw (eq-eqb (head_at cells₁ p % 4) 0 n.kind-is) (ap (unescape 0) n.bytes-are ∙ e ∙ sym d ∙ ap (unescape 0) (sym m.bytes-are));
      }

  name-agrees : {p u k : ℕ} {b : Bytes} → 0 < k → Node src₁ cells₁ p k b → Node src₂ cells₂ u k b → next_at cells₁ p - p ≡ next_at cells₂ u - u
      → Agrees src₁ cells₁ p src₂ cells₂ u
  name-agrees {p} h n m l =
      record {
        kind = n.kind-is ∙ sym m.kind-is;
        far = l;
        says = rw (ne_eqb (head_at cells₁ p % 4) 0 (omega (arith, n.kind-is))) (n.bytes-are ∙ sym m.bytes-are);
      }

  -- one forest's nodes agree
  pub same-agree : {p q u v : ℕ} {f : Forest} → Tape src₁ cells₁ p q f → Tape src₂ cells₂ u v f → Agree src₁ cells₁ p q src₂ cells₂ u
  same-agree (at-end e) s i j h l t b = absurd (omega arith)
  same-agree {p} {u = u} (at-text n w e r) (at-text m x d s) i j h l t b =
      by_first i p h (λ z. let g : j ≡ u = omega arith in rw (z, g) (text-agrees n w m x (omega arith)))
      (λ z. same-agree r s i j (omega arith) l (omega arith) (omega arith))
  same-agree {p} {u = u} (at-elem n k r) (at-elem m k' r') i j h l t b =
      let x = tape-size k in
      let y = tape-size k' in
      by_first i p h (λ z. let g : j ≡ u = omega arith in rw (z, g) (name-agrees (omega arith) n m (omega arith)))
      (λ z. by_part i (next_at cells₁ p) (λ g. same-agree k k' i j (omega arith) g (omega arith) (omega arith))
      (λ g. same-agree r r' i j g l (omega arith) (omega arith)))
  same-agree {p} {u = u} (at-stamp n k r) (at-stamp m k' r') i j h l t b =
      let x = tape-size k in
      let y = tape-size k' in
      by_first i p h (λ z. let g : j ≡ u = omega arith in rw (z, g) (name-agrees (omega arith) n m (omega arith)))
      (λ z. by_part i (next_at cells₁ p) (λ g. same-agree k k' i j (omega arith) g (omega arith) (omega arith))
      (λ g. same-agree r r' i j g l (omega arith) (omega arith)))

  -- two nodes that do not agree, or more nodes in one: two forests
  pub apart : {p q u v : ℕ} {f g : Forest} → Tape src₁ cells₁ p q f → Tape src₂ cells₂ u v g → (i j : ℕ) → p ≤ i → i < q → u ≤ j → i + u ≡ j + p
      → (Agrees src₁ cells₁ i src₂ cells₂ j → ⊥) → same_forest f g ≡ false
  apart {f = f} {g = g} x y i j h l t b different =
      not_so (same_forest f g) (λ e. different (same-agree x (rw (← forest-is f g e) at y) i j h l t b))

  pub apart-size : {p q u v : ℕ} {f g : Forest} → Tape src₁ cells₁ p q f → Tape src₂ cells₂ u v g → (q - p ≡ v - u → ⊥) → same_forest f g ≡ false
  apart-size {f = f} {g = g} x y different = not_so (same_forest f g) (λ e. different (omega (arith, tape-size x, tape-size y, ap size (forest-is f g e))))

  pub together : {p q u v : ℕ} {f g : Forest} → Tape src₁ cells₁ p q f → Tape src₂ cells₂ u v g → q - p ≡ v - u → Agree src₁ cells₁ p q src₂ cells₂ u
      → same_forest f g ≡ true
  together {f = f} x y l a = rw (← agree_same x y l a) (forest-self f)

  -- one node more that agrees
  pub agree-more : {p u : ℕ} (i j : ℕ) → u ≤ j → i + u ≡ j + p → Agree src₁ cells₁ p i src₂ cells₂ u → Agrees src₁ cells₁ i src₂ cells₂ j
      → Agree src₁ cells₁ p (i + 1) src₂ cells₂ u
  agree-more i j t b a g i' j' h l t' b' =
      by_part i' i (λ x. a i' j' h x t' b')
      (λ x.
      let y : i' ≡ i = omega arith in
      let z : j' ≡ j = omega arith in
      rw (y, z) g)

-- two parts that are not the same
pub same_not : (s t : Bytes) → same s t ≡ false → s ≡ t → ⊥
same_not s t e d = clash (sym (same_self t) ∙ rw d at e)

-- a test that is turned round
pub not-true : (b : Bool) → not b ≡ true → b ≡ false
not-true true e = clash (sym e)
not-true false e = refl

pub not-false : (b : Bool) → not b ≡ false → b ≡ true
not-false true e = refl
not-false false e = clash e
