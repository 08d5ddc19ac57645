-- A set taken out of another, word by word: what is left, and whether all its members were there.
use Rattle.std.specs.Prelude.{ℕ, ◌+◌, ◌/◌, ◌%◌, ◌^◌, ◌≤◌, ◌<◌, ◌≡◌, List, Bool, ◌&&◌, eqb, leb, length, get_or, set}
use Rattle.std.proofs.Math.Path.{refl, sym, ap, fun_ext}
use Rattle.std.proofs.Common.{ap₂, ◌∙◌, arith, length-set, get_or-set_same, get_or-set_other, below_more, eqb-true, eq-eqb, leb-true}
use Rattle.std.proofs.Math.Bool.{true, false, not, xor, and-true}
use Rattle.std.specs.Bool.{beq}
use Rattle.std.proofs.Math.Decide.{dec_lt}
use Rattle.std.specs.Int.Bits.{bit_and, bit_or, bit_xor, or_add_and, xor_add_and, xor_self}
use Rattle.std.proofs.lemmas.Nat.{and_le_l, and_le_r}
use Rattle.xml.specs.Truth.{by-test, clash, not_so, and_left, and_right}
use Rattle.timestamp.specs.TimesLaws.{bool_eq}
use Rattle.timestamp.specs.Bits.{bit, bit-and, bit-xor, bit-none}
use Rattle.timestamp.specs.Set.{set_of, empty_set, every, same_set, between, without, subset}
use Rattle.timestamp.specs.Words.{range_word, range-bit}
use Rattle.timestamp.specs.Tests.{told-words, subset-tells, subset-told, same-words}

-- word k without the bits x of it, which it may lack
abbrev pub xor_at : List ℕ → (ℕ → ℕ) → ℕ → ℕ
xor_at a f k = bit_xor (get_or a k 0) (f k)

-- the bits of the word f k that word k lacks
abbrev pub lack_at : List ℕ → (ℕ → ℕ) → ℕ → ℕ
lack_at a f k = bit_and (xor_at a f k) (f k)

-- what is taken of one word
abbrev pub TakenWord : List ℕ → ℕ → ℕ → List ℕ → Bool → Type 0
TakenWord a k x w r = (w ≡ set a k (bit_xor (get_or a k 0) x)) × (r ≡ eqb (bit_and (bit_xor (get_or a k 0) x) x) 0) × (x < 2 ^ 64)

-- what is taken of all: r, whether all numbers of s were there; then they are left out
abbrev pub Taken : List ℕ → (ℕ → Bool) → List ℕ → Bool → Type 0
Taken a s w r = (r ≡ subset s (set_of a)) × (r ≡ true → set_of w ≡ without (set_of a) s) × (length w ≡ 16)

-- the words f are taken out of a's words from `from` to before i, which then are w, and had them all
pub record Taking (a : List ℕ) (f : ℕ → ℕ) (from i : ℕ) (w : List ℕ) : Type 0 where
  pub size : length w ≡ 16
  pub below : (k : ℕ) → k < from → get_or w k 0 ≡ get_or a k 0
  pub are : (k : ℕ) → k < i → from ≤ k → get_or w k 0 ≡ xor_at a f k
  pub rest : (k : ℕ) → i ≤ k → get_or w k 0 ≡ get_or a k 0
  pub each : (k : ℕ) → k < i → from ≤ k → lack_at a f k ≡ 0

pub taking-start : (a : List ℕ) (f : ℕ → ℕ) (from : ℕ) → length a ≡ 16 → Taking a f from from a
taking-start a f from e =
    record { size = e; below = λ k l. refl; are = λ k l h. absurd (omega arith); rest = λ k l. refl; each = λ k l h. absurd (omega arith) }

-- one word more
pub taking-more : (a : List ℕ) (f : ℕ → ℕ) (from i : ℕ) (w : List ℕ) → Taking a f from i w → from ≤ i → i < 16
    → lack_at w f i ≡ 0 → Taking a f from (i + 1) (set w i (xor_at w f i))
taking-more a f from i w p l h z =
    let d : get_or w i 0 ≡ get_or a i 0 = p.rest i (omega arith) in
    record {
      size = length-set w i (xor_at w f i) ∙ p.size;
      below = λ k m. get_or-set_other w i k (xor_at w f i) 0 (omega arith) ∙ p.below k m;
      are = below_more (λ k. from ≤ k → get_or (set w i (xor_at w f i)) k 0 ≡ xor_at a f k) i
          (λ k n m. get_or-set_other w i k (xor_at w f i) 0 (omega arith) ∙ p.are k n m)
          (λ m. get_or-set_same w i (xor_at w f i) 0 (omega (arith, p.size)) ∙ ap (λ (n : ℕ). bit_xor n (f i)) d);
      rest = λ k m. get_or-set_other w i k (xor_at w f i) 0 (omega arith) ∙ p.rest k (omega arith);
      each = below_more (λ k. from ≤ k → lack_at a f k ≡ 0) i p.each (λ m. ap (λ (n : ℕ). bit_and (bit_xor n (f i)) (f i)) (sym d) ∙ z);
    }

-- ---- the set s, whose words are f
abbrev lacked : (ℕ → Bool) → (ℕ → Bool) → ℕ → Bool
lacked t s v = xor (t v) (s v) && s v

lack-none : (t s : ℕ → Bool) → same_set (lacked t s) empty_set ≡ subset s t
unfolding same_set xor
lack-none t s = ap (every 1024) (fun_ext (λ v. go (t v) (s v)))
  where
    go : (x y : Bool) → beq (xor x y && y) false ≡ beq (y && x) y
    go true true = refl
    go true false = refl
    go false true = refl
    go false false = refl

module _ (a : List ℕ) (f : ℕ → ℕ) (s : ℕ → Bool) (bits : (v : ℕ) → bit (f (v / 64)) (v % 64) ≡ s v) where
  lack-bit : (v : ℕ) → bit (lack_at a f (v / 64)) (v % 64) ≡ lacked (set_of a) s v
  unfolding set_of
  lack-bit v = bit-and _ _ _ ∙ ap (λ (x : Bool). x && bit (f (v / 64)) (v % 64)) (bit-xor _ _ _) ∙ ap (λ (x : Bool). xor (set_of a v) x && x) (bits v)

  -- a set that has them all lacks none in a word
  pub has_all : (i : ℕ) → i < 16 → f i < 2 ^ 64 → subset s (set_of a) ≡ true → lack_at a f i ≡ 0
  has_all i h l e =
      told-words (lack_at a f) (λ k. 0) (lacked (set_of a) s) empty_set lack-bit (λ v. bit-none _) (lack-none (set_of a) s ∙ e) i h
      (omega (arith, and_le_r (xor_at a f i) (f i))) (omega arith)

  -- a word that lacks some of them
  pub taking-lacks : (i : ℕ) → i < 16 → f i < 2 ^ 64 → (lack_at a f i ≡ 0 → ⊥) → subset s (set_of a) ≡ false
  taking-lacks i h l n = not_so (subset s (set_of a)) (λ e. n (has_all i h l e))

  -- words that lack none of them
  pub none-lacks : ((v : ℕ) → v < 1024 → s v ≡ true → lack_at a f (v / 64) ≡ 0) → subset s (set_of a) ≡ true
  unfolding xor
  none-lacks h =
      subset-told s (set_of a) (λ v l q. go (set_of a v) (s v) q (sym (lack-bit v) ∙ ap (λ (n : ℕ). bit n (v % 64)) (h v l q) ∙ bit-none _))
    where
      go : (y z : Bool) → z ≡ true → (xor y z && z) ≡ false → y ≡ true
      go true z q e = refl
      go false true q e = sym e
      go false false q e = q

  module _ (from i : ℕ) (w : List ℕ) (p : Taking a f from i w) (r : (v : ℕ) → s v ≡ true → (from ≤ v / 64) × (v / 64 < i)) where
    -- all were there
    pub taking-all : subset s (set_of a) ≡ true
    taking-all = none-lacks (λ v l q. let h = r v q in p.each (v / 64) h.1 h.0)

    -- what is left
    pub taking-left : i ≤ 16 → set_of w ≡ without (set_of a) s
    unfolding set_of xor
    taking-left h = fun_ext (λ v. at v (dec_lt (v / 64) from) (dec_lt (v / 64) i))
      where
        go : (y z : Bool) → (z ≡ true → y ≡ true) → xor y z ≡ (y && not z)
        go true true f = refl
        go true false f = refl
        go false true f = sym (f refl)
        go false false f = refl

        kept : (v : ℕ) → get_or w (v / 64) 0 ≡ get_or a (v / 64) 0 → s v ≡ false → set_of w v ≡ (set_of a v && not (s v))
        kept v k e = ap (λ (n : ℕ). bit n (v % 64)) k ∙ sym (ap (λ (y : Bool). set_of a v && not y) e ∙ and-true (set_of a v))

        at : (v : ℕ) → Dec (v / 64 < from) → Dec (v / 64 < i) → set_of w v ≡ (set_of a v && not (s v))
        at v (yes q) d = kept v (p.below (v / 64) q) (not_so (s v) (λ z. let g = r v z in omega arith))
        at v (no q) (yes d) =
            ap (λ (n : ℕ). bit n (v % 64)) (p.are (v / 64) d (omega arith)) ∙ bit-xor _ _ _ ∙ ap (xor (set_of a v)) (bits v)
            ∙ go (set_of a v) (s v) (λ z. subset-tells s (set_of a) taking-all v (omega (arith, (r v z).1)) z)
        at v (no q) (no d) = kept v (p.rest (v / 64) (omega arith)) (not_so (s v) (λ z. let g = r v z in omega arith))

-- ---- a run
module _ {lo hi : ℕ} (le : lo ≤ hi) (small : hi < 1024) where
  run-bits : (v : ℕ) → bit (range_word lo hi (v / 64)) (v % 64) ≡ between lo hi v
  run-bits v = range-bit lo hi v (omega arith)

  run_in_lem : (v : ℕ) → between lo hi v ≡ true → (lo / 64 ≤ v / 64) × (v / 64 < hi / 64 + 1)
  run_in_lem v e =
      let l = leb-true lo v (and_left (leb lo v) (leb v hi) e) in
      let h = leb-true v hi (and_right (leb lo v) (leb v hi) e) in
      (omega arith, omega arith)

  module _ {a : List ℕ} {k x : ℕ} {w left : List ℕ} {r : Bool} (p : Taking a (range_word lo hi) (lo / 64) k w) (l : lo / 64 ≤ k) (h : k < 16)
      (is : x ≡ range_word lo hi k) (t : TakenWord w k x left r) where
    -- a word lacks some of it
    pub run-lacks : r ≡ false → Taken a (between lo hi) left false
    run-lacks e =
        let same : bit_and (bit_xor (get_or w k 0) x) x ≡ lack_at a (range_word lo hi) k = ap₂ (λ (n m : ℕ). bit_and (bit_xor n m) m) (p.rest k (omega arith)) is in (
          sym (taking-lacks a (range_word lo hi) (between lo hi) run-bits k h (omega (arith, is, t.2))
              (λ z. clash (sym (eq-eqb (bit_and (bit_xor (get_or w k 0) x) x) 0 (same ∙ z)) ∙ sym t.1 ∙ e))),
          λ z. clash (sym z),
          ap length t.0 ∙ length-set w k _ ∙ p.size,
        )

    -- one word more
    pub run_more : r ≡ true → Taking a (range_word lo hi) (lo / 64) (k + 1) left
    run_more e =
        let z : bit_and (bit_xor (get_or w k 0) x) x ≡ 0 = eqb-true (bit_and (bit_xor (get_or w k 0) x) x) 0 (sym t.1 ∙ e) in
        rw (t.0, is) (taking-more a (range_word lo hi) (lo / 64) k w p l h (rw is at z))

  -- all of its words
  module _ {a : List ℕ} {k : ℕ} {w : List ℕ} (p : Taking a (range_word lo hi) (lo / 64) k w) (e : k ≡ hi / 64 + 1) where
    within : (v : ℕ) → between lo hi v ≡ true → (lo / 64 ≤ v / 64) × (v / 64 < k)
    within v q = let z = run_in_lem v q in (z.0, omega (arith, z.1))

    pub run-all : Taken a (between lo hi) w true
    run-all = (
      sym (taking-all a (range_word lo hi) (between lo hi) run-bits (lo / 64) k w p within),
      λ _. taking-left a (range_word lo hi) (between lo hi) run-bits (lo / 64) k w p within (omega arith),
      p.size,
    )

  -- it stands in one word
  pub run-one : (a left : List ℕ) {x : ℕ} {r : Bool} → length a ≡ 16 → lo / 64 ≡ hi / 64 → x ≡ range_word lo hi (lo / 64) → TakenWord a (lo / 64) x left r
      → Taken a (between lo hi) left r
  run-one a left {x} {r} s e is t =
      let p = taking-start a (range_word lo hi) (lo / 64) s in
      by-test r (λ z. rw z (run-all (run_more p (omega arith) (omega arith) is t z) (omega arith))) (λ z. rw z (run-lacks p (omega arith) (omega arith) is t z))

-- ---- whether one set is a part of another: what the first i words tell
own_bits : (a : List ℕ) (v : ℕ) → bit (get_or a (v / 64) 0) (v % 64) ≡ set_of a v
unfolding set_of
own_bits a v = refl

or-none : (x y : ℕ) → bit_or x y ≡ 0 → (x ≡ 0) × (y ≡ 0)
or-none x y e = (omega (arith, or_add_and x y, and_le_l x y, and_le_r x y), omega (arith, or_add_and x y, and_le_l x y, and_le_r x y))

xor-none : (x y : ℕ) → bit_xor x y ≡ 0 → y ≡ x
xor-none x y e = let h = xor_add_and x y in omega (arith, h, and_le_l x y, and_le_r x y)

-- x is 0 where the words p are, the first i of them; it is where q holds
pub record Ored (p : ℕ → ℕ) (q : Bool) (i x : ℕ) : Type 0 where
  pub each : x ≡ 0 → (k : ℕ) → k < i → p k ≡ 0
  pub all : q ≡ true → x ≡ 0

pub ored-start : (p : ℕ → ℕ) (q : Bool) → Ored p q 0 0
ored-start p q = record { each = λ z k l. absurd (omega arith); all = λ z. refl }

pub ored-more : {p : ℕ → ℕ} {q : Bool} {i x y : ℕ} → Ored p q i x → y ≡ p i → (q ≡ true → p i ≡ 0) → Ored p q (i + 1) (bit_or x y)
ored-more {p} {q} {i} {x} {y} o e h =
    record {
      each = λ z. let n = or-none x y z in below_more (λ k. p k ≡ 0) i (o.each n.0) (sym e ∙ n.1);
      all = λ z. rw (o.all z, e, h z);
    }

module _ (a b : List ℕ) where
  -- the words of a that b lacks, and those in which they differ
  abbrev pub lacked_of : ℕ → ℕ
  lacked_of = lack_at b (λ k. get_or a k 0)

  abbrev pub differ_of : ℕ → ℕ
  differ_of = xor_at b (λ k. get_or a k 0)

  pub part-lack : {i x y : ℕ} → Ored lacked_of (subset (set_of a) (set_of b)) i x → i < 16 → get_or a i 0 < 2 ^ 64 → y ≡ lacked_of i
      → Ored lacked_of (subset (set_of a) (set_of b)) (i + 1) (bit_or x y)
  part-lack {i} o l h e = ored-more o e (has_all b (λ k. get_or a k 0) (set_of a) (own_bits a) i l h)

  pub part-more : {i x : ℕ} → Ored differ_of (same_set (set_of a) (set_of b)) i x → i < 16 → get_or a i 0 < 2 ^ 64 → get_or b i 0 < 2 ^ 64
      → Ored differ_of (same_set (set_of a) (set_of b)) (i + 1) (bit_or x (differ_of i))
  part-more {i} o l h g =
      ored-more o refl (λ e. ap (λ (n : ℕ). bit_xor (get_or b i 0) n)
      (told-words (λ k. get_or a k 0) (λ k. get_or b k 0) (set_of a) (set_of b) (own_bits a) (own_bits b) e i l h g) ∙ xor_self (get_or b i 0))

  pub part_none : {x : ℕ} → Ored lacked_of (subset (set_of a) (set_of b)) 16 x → (x ≡ 0 → ⊥) → subset (set_of a) (set_of b) ≡ false
  part_none o n = not_so (subset (set_of a) (set_of b)) (λ e. n (o.all e))

  pub part-told : {x y : ℕ} → Ored lacked_of (subset (set_of a) (set_of b)) 16 x → x ≡ 0 → Ored differ_of (same_set (set_of a) (set_of b)) 16 y
      → not (eqb y 0) ≡ (subset (set_of a) (set_of b) && not (same_set (set_of a) (set_of b)))
  part-told {x} {y} o z d =
      let s : subset (set_of a) (set_of b) ≡ true = none-lacks b (λ k. get_or a k 0) (set_of a) (own_bits a) (λ v l q. o.each z (v / 64) (omega arith)) in
      rw s (ap not (bool_eq (eqb y 0) (same_set (set_of a) (set_of b))
      (λ e. same-words a b (λ k l. xor-none (get_or b k 0) (get_or a k 0) (d.each (eqb-true y 0 e) k l))) (λ e. eq-eqb y 0 (d.all e))))
