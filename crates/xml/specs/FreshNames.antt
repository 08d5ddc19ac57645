-- Whether a beginning can still become a name that no attribute of a tag has, byte after byte that may follow it; and how far a text begins one, at places of it.
use Prim.Native.Nat.{ℕ, zero, suc, ◌+◌, ◌-◌, ◌≤◌, ◌<◌}
use Rattle.std.proofs.Common.{add-one, ap₂, sym, ◌∙◌, subst, eqb-true, length-set, drop_of_length-le, take_all, take-suc, get_or-set_same, drop-cons}
use native.Mathlib.Omega.{arith}
use Rattle.std.specs.Prelude.{◌≡◌, Bool, true, not, ◌||◌, eqb, length, take, drop, get_or, set}
use Rattle.std.proofs.Math.Path.{refl, ap}
use Rattle.std.proofs.Math.Bool.{false}
use mathlib.Core.List.Memᴰ
use mathlib.Core.List.{List, [], ◌∷◌, ◌++◌, append_assoc, Memᴰ}
use Rattle.std.proofs.lemmas.Bool.{eqb-false}
use Rattle.std.proofs.lemmas.List.{take-set-le}
use Rattle.xml.specs.Bytes.{Bytes, any, same, is_empty, is_name}
use Rattle.xml.specs.Tags.{is_new, below, fresh, fresh_len, new_len}
use Rattle.xml.specs.Read.{name_len}
use Rattle.xml.specs.Truth.{by-test, or_right, any_none}
use Rattle.xml.specs.ScanLaws.{name_len-fits}
use Rattle.xml.specs.Names.{name-taken, name-whole}
use Rattle.xml.specs.Fresh.{fresh-complete, fresh-sound, fresh_len-cons, fresh_len-off}

-- ---- a new name, by comparing it with those that are used
pub new_none : (used : List Bytes) (q : Bytes) → length q ≡ 0 → is_new used q ≡ false
unfolding is_new is_name
new_none used [] e = refl
new_none used (b ∷ q) e = absurd (omega arith)

pub new-test : (used : List Bytes) (q : Bytes) → is_empty q || is_name q ≡ true → (length q ≡ 0 → ⊥) → is_new used q ≡ not (any (same q) used)
unfolding is_new is_empty
new-test used [] e n = absurd (n refl)
new-test used (b ∷ q) e n = rw e

-- ---- a beginning of a name, by how many of its bytes are of one
pub begins-name : (q : Bytes) → length q ≤ name_len q → is_empty q || is_name q ≡ true
unfolding is_empty
begins-name [] h = refl
begins-name (b ∷ q) h =
    let l : name_len (b ∷ q) ≡ length (b ∷ q) = omega (arith, name_len-fits (b ∷ q)) in
    let n = name-taken (b ∷ q) (λ z. omega arith) in
    subst (λ (x : Bytes). is_name x ≡ true) (take_all (name_len (b ∷ q)) (b ∷ q) (omega arith)) n

not-name : (q : Bytes) → name_len q < length q → is_empty q || is_name q ≡ false
unfolding is_empty
not-name [] h = absurd (omega arith)
not-name (b ∷ q) h = by-test (is_name (b ∷ q)) (λ e. absurd (omega (arith, name-whole (b ∷ q) e))) (λ e. e)

below_less : (n b : ℕ) → Memᴰ b (below n) → b < n
unfolding below
below_less zero b m = absurd (Memᴰ.not-nil m)
below_less (suc n) b (Memᴰ.head e) = omega arith
below_less (suc n) b (Memᴰ.tail m) = omega (arith, below_less n b m)

module _ (used : List Bytes) (q : Bytes) where
  -- no name begins so
  pub fresh-never : (k : ℕ) → name_len q < length q → fresh k used q ≡ false
  unfolding fresh is_new
  fresh-never k h = at k (or_right (is_empty q) (is_name q) (not-name q h))
    where
      at : (k : ℕ) → is_name q ≡ false → fresh k used q ≡ false
      at zero f = rw f
      at (suc k) f = let old : is_new used q ≡ false = rw f in rw (old, not-name q h, fresh)

  pub fresh-full : (k : ℕ) → is_new used q ≡ false → k ≡ 0 → fresh k used q ≡ false
  unfolding fresh
  fresh-full k old e = rw e old

  -- none of the bytes below c helps
  abbrev pub Tried : ℕ → ℕ → Type 0
  Tried k c = (d : ℕ) → d < c → fresh k used (q ++ d ∷ []) ≡ false

  -- one does
  pub tried-hit : (k c n : ℕ) → fresh k used (q ++ c ∷ []) ≡ true → n ≡ suc k → fresh n used q ≡ true
  tried-hit k c n e d =
      let g = fresh-sound k used (q ++ c ∷ []) e in
      let l = g.short in
      rw d (fresh-complete (c ∷ g.rest) (suc k) used q (subst (λ (x : Bytes). is_new used x ≡ true) (append_assoc q (c ∷ []) g.rest) g.new) (omega arith))

  -- all were tried
  pub tried-none : (k n : ℕ) → is_new used q ≡ false → is_empty q || is_name q ≡ true → Tried k 128 → n ≡ suc k → fresh n used q ≡ false
  unfolding fresh
  tried-none k n old b h d = rw (d, old, b, fresh) (any_none (λ c. fresh k used (q ++ c ∷ [])) (below 128) (λ c m. h c (below_less 128 c m)))

  pub tried-more : (k c e : ℕ) → Tried k c → fresh k used (q ++ c ∷ []) ≡ false → e ≡ c + 1 → Tried k e
  tried-more k c e h f d i l = by-test (eqb i c) (λ x. rw (eqb-true i c x) f) (λ x. h i (omega (arith, eqb-false i c x)))

-- ---- the first bytes of an array
take-longer : (nm : Bytes) (l c : ℕ) → l < length nm → take (l + 1) (set nm l c) ≡ take l nm ++ c ∷ []
take-longer nm l c h =
    rw add-one
    (take-suc (set nm l c) l 0 (rw length-set h) ∙ ap₂ (λ (x : Bytes) (y : ℕ). x ++ y ∷ []) (take-set-le l nm l c (omega arith)) (get_or-set_same nm l c 0 h))

pub longer-fresh : (used : List Bytes) (nm : Bytes) (l c : ℕ) (r : Bool) → l < length nm → l < 32 → r ≡ fresh (32 - (l + 1)) used (take (l + 1) (set nm l c)) → fresh (31 - l) used (take l nm ++ c ∷ []) ≡ r
longer-fresh used nm l c r h g e =
    let z : 32 - (l + 1) ≡ 31 - l = omega arith in
    ap (fresh (31 - l) used) (sym (take-longer nm l c h)) ∙ ap (λ (k : ℕ). fresh k used (take (l + 1) (set nm l c))) (sym z) ∙ sym e

-- ---- n bytes at a place begin a new name: those that stand in an array
pub record Counted (used : List Bytes) (src : Bytes) (at : ℕ) (nm : Bytes) (n : ℕ) : Type 0 where
  pub is : new_len used (drop at src) ≡ n + fresh_len (32 - n) used (take n nm) (drop (at + n) src)

module _ {used : List Bytes} {src : Bytes} {at : ℕ} {nm : Bytes} where
  pub count-start : Counted used src at nm 0
  count-start = let z : at + 0 ≡ at = omega arith in record { is = rw z (omega arith) }

  module _ {n : ℕ} (x : Counted used src at nm n) where
    pub count-end : length src ≤ at + n → new_len used (drop at src) ≡ n
    unfolding fresh_len
    count-end h = omega (arith, x.is, ap (fresh_len (32 - n) used (take n nm)) (drop_of_length-le src h), none (32 - n))
      where
        none : (k : ℕ) → fresh_len k used (take n nm) [] ≡ 0
        none zero = refl
        none (suc k) = refl

    pub count-full : 32 ≤ n → new_len used (drop at src) ≡ n
    unfolding fresh_len
    count-full h = let z : 32 - n ≡ 0 = omega arith in omega (arith, x.is, ap (λ (k : ℕ). fresh_len k used (take n nm) (drop (at + n) src)) z)

    module _ (short : n < 32) (fits : at + n < length src) (r : Bool) (told : r ≡ fresh (32 - (n + 1)) used (take (n + 1) (set nm n (get_or src (at + n) 0)))) (array : n < length nm) where
      first : fresh_len (32 - n) used (take n nm) (drop (at + n) src) ≡ fresh_len (suc (31 - n)) used (take n nm) (get_or src (at + n) 0 ∷ drop (suc (at + n)) src)
      first = let z : 32 - n ≡ suc (31 - n) = omega arith in ap₂ (λ (k : ℕ) (t : Bytes). fresh_len k used (take n nm) t) z (drop-cons src (at + n) 0 fits)

      pub count-stop : r ≡ false → new_len used (drop at src) ≡ n
      count-stop e =
          omega (
            arith,
            x.is,
            first,
            fresh_len-off (31 - n) used (take n nm) (get_or src (at + n) 0) (drop (suc (at + n)) src) (longer-fresh used nm n (get_or src (at + n) 0) r array short told ∙ e),
          )

      pub count-more : r ≡ true → Counted used src at (set nm n (get_or src (at + n) 0)) (n + 1)
      count-more e =
          let c : ℕ = get_or src (at + n) 0 in
          let z : suc (at + n) ≡ at + (n + 1) = omega arith in
          let y : 31 - n ≡ 32 - (n + 1) = omega arith in
          let t = take-longer nm n c array in
          record {
            is = omega (
              arith,
              x.is,
              first,
              fresh_len-cons (31 - n) used (take n nm) c (drop (suc (at + n)) src) (longer-fresh used nm n c r array short told ∙ e),
              ap₂ (λ (i : ℕ) (q : Bytes). fresh_len i used q (drop (suc (at + n)) src)) y (sym t),
              ap (λ (i : ℕ). fresh_len (32 - (n + 1)) used (take (n + 1) (set nm n c)) (drop i src)) z,
            );
          }
