-- 7 and 8 on a forest as it is read, white space and all, node by node.
use Rattle.std.specs.Prelude.{ℕ, ◌%◌, ◌<◌, eqb, ◌≡◌, Bool, ◌&&◌, ◌||◌, List}
use Rattle.std.proofs.Common.{arith, eq-eqb, ne_eqb, sym, ◌∙◌}
use Rattle.std.proofs.Math.Path.{refl, ap}
use Rattle.std.proofs.Math.Bool.{true, false, not, or-false, or_assoc}
use Rattle.xml.specs.Bytes.{Bytes, bytes, all, same, is_white}
use Rattle.xml.specs.Truth.{bool_by, by-test, or-first}
use Rattle.xml.specs.Forest.{Forest, end, elem, text, stamp, join}
use Rattle.xml.specs.Tape.{head_at, next_at, Tape, at-end, at-text, at-elem, at-stamp}
use Rattle.xml.specs.TapeLaws.{tape-none}
use Rattle.keys.specs.KeyList.{Path, KeyList, above, listed, key_names_at, rules_kept}
use Rattle.keys.specs.Table.{place_of}
use Rattle.keys.specs.Beneath.{front-keyed}
use Rattle.keys.specs.PlaceLaws.{few-paths, place-below, place-unlisted}
use Rattle.keys.specs.Version.{◌▸◌, drop_white, misplaced, called, is_one_value, unkeyed}

-- a path not in the list, refused text, or the name `T`
unfoldable pub astray : KeyList → Path → Forest → Bool
astray K p f = misplaced K p (drop_white K p f)

-- the same of one element by itself
unfoldable pub strange : KeyList → Path → Bytes → Bool
strange K p n = same n (bytes "T") || above K p && not (listed K (p ▸ n))

-- a key child missing, repeated or illegal
unfoldable pub keyless : KeyList → Path → Forest → Bool
keyless K p f = unkeyed K p (drop_white K p f)

-- the same of what one element holds
unfoldable pub lacking : KeyList → Path → Forest → Bool
lacking K p k = not (all (λ key. is_one_value (called key (drop_white K p k))) (key_names_at K p))

module _ (K : KeyList) where
  drop-join : (p : Path) (f g : Forest) → drop_white K p (join f g) ≡ join (drop_white K p f) (drop_white K p g)
  unfolding drop_white join
  drop-join p end g = refl
  drop-join p (elem n k r) g = ap (elem n (drop_white K (p ▸ n) k)) (drop-join p r g)
  drop-join p (stamp t k r) g = ap (stamp t (drop_white K p k)) (drop-join p r g)
  drop-join p (text b r) g =
      let i = drop-join p r g in
      bool_by (λ x. elim x as (λ _. Forest) [ true ↦ drop_white K p (join r g) | false ↦ text b (drop_white K p (join r g)) ]
      ≡ join (elim x as (λ _. Forest) [ true ↦ drop_white K p r | false ↦ text b (drop_white K p r) ]) (drop_white K p g))
      (above K p && all is_white b) (λ _. i) (λ _. ap (text b) i)

  misplaced-join : (p : Path) (f g : Forest) → misplaced K p (join f g) ≡ (misplaced K p f || misplaced K p g)
  unfolding misplaced join
  misplaced-join p end g = refl
  misplaced-join p (elem n k r) g =
      rw (misplaced-join p r g) (sym (or_assoc (same n (bytes "T") || above K p && not (listed K (p ▸ n)) || misplaced K (p ▸ n) k) (misplaced K p r) (misplaced K p g)))
  misplaced-join p (stamp t k r) g = refl
  misplaced-join p (text b r) g = rw (misplaced-join p r g) (sym (or_assoc (above K p) (misplaced K p r) (misplaced K p g)))

  unkeyed-join : (p : Path) (f g : Forest) → unkeyed K p (join f g) ≡ (unkeyed K p f || unkeyed K p g)
  unfolding unkeyed join
  unkeyed-join p end g = refl
  unkeyed-join p (elem n k r) g =
      rw (unkeyed-join p r g)
      (sym (or_assoc (not (all (λ key. is_one_value (called key k)) (key_names_at K (p ▸ n))) || unkeyed K (p ▸ n) k) (unkeyed K p r) (unkeyed K p g)))
  unkeyed-join p (stamp t k r) g = unkeyed-join p r g
  unkeyed-join p (text b r) g = unkeyed-join p r g

  -- ---- 7
  astray-join : (p : Path) (f g : Forest) → astray K p (join f g) ≡ (astray K p f || astray K p g)
  unfolding astray
  astray-join p f g = ap (misplaced K p) (drop-join p f g) ∙ misplaced-join p (drop_white K p f) (drop_white K p g)

  pub astray-end : (p : Path) → astray K p end ≡ false
  unfolding astray drop_white misplaced
  astray-end p = refl

  astray-text : (p : Path) (b : Bytes) → astray K p (text b end) ≡ (above K p && not (all is_white b))
  unfolding astray drop_white misplaced
  astray-text p b = by (above K p) (all is_white b) refl
    where
      by : (x y : Bool) → above K p ≡ x → misplaced K p (elim (x && y) as (λ _. Forest) [ true ↦ end | false ↦ text b end ]) ≡ (x && not y)
      by true true e = refl
      by true false e = rw e
      by false y e = rw e

  astray-elem : (p : Path) (n : Bytes) (k : Forest) → astray K p (elem n k end) ≡ (strange K p n || astray K (p ▸ n) k)
  unfolding astray strange drop_white misplaced
  astray-elem p n k = or-false (strange K p n || astray K (p ▸ n) k)

  astray-stamp : (p : Path) (t : Bytes) (k : Forest) → astray K p (stamp t k end) ≡ true
  unfolding astray drop_white misplaced
  astray-stamp p t k = refl

  -- an element by itself, by its own place
  module _ (p : Path) (n : Bytes) where
    pub strange-named : same n (bytes "T") ≡ true → strange K p n ≡ true
    unfolding strange
    strange-named h = rw h

    pub strange-under : same n (bytes "T") ≡ false → above K p ≡ false → strange K p n ≡ false
    unfolding strange
    strange-under h a = rw (h, a)

    pub strange-below : rules_kept K ≡ true → same n (bytes "T") ≡ false → above K p ≡ true → {below : ℕ} → place_of K (p ▸ n) ≡ below → eqb below 129 ≡ strange K p n
    unfolding strange
    strange-below u h a {below} e = rw (h, a) (by-test (listed K (p ▸ n))
        (λ l. rw l (ne_eqb below 129 (omega (arith, place-below K u (p ▸ n) l, few-paths K u))))
        (λ l. rw l (eq-eqb below 129 (sym e ∙ place-unlisted K p n l))))

  module _ (p : Path) {n : Bytes} {f k : Forest} (e : f ≡ elem n k end) where
    pub astray-strange : strange K p n ≡ true → astray K p f ≡ true
    astray-strange h = ap (astray K p) e ∙ astray-elem p n k ∙ or-first (strange K p n) (astray K (p ▸ n) k) h

    pub astray-inside : strange K p n ≡ false → astray K p f ≡ astray K (p ▸ n) k
    astray-inside h = ap (astray K p) e ∙ astray-elem p n k ∙ rw h

  -- a run of text by itself
  module _ (p : Path) {f : Forest} (b : Bytes) (e : f ≡ text b end) where
    pub astray-under : above K p ≡ false → astray K p f ≡ false
    astray-under h = ap (astray K p) e ∙ astray-text p b ∙ rw h

    pub astray-run : above K p ≡ true → astray K p f ≡ not (all is_white b)
    astray-run h = ap (astray K p) e ∙ astray-text p b ∙ rw h

  -- a node that is neither
  pub astray-other : {src cells : List ℕ} {i : ℕ} {f : Forest} (p : Path) → Tape src cells i (next_at cells i) f → i < next_at cells i → (head_at cells i % 4 ≡ 0 → ⊥)
      → (head_at cells i % 4 ≡ 1 → ⊥) → astray K p f ≡ true
  astray-other p (at-end e) l d k = absurd (omega arith)
  astray-other p (at-text n u e r) l d k = absurd (d n.kind-is)
  astray-other p (at-elem n i r) l d k = absurd (k n.kind-is)
  astray-other p (at-stamp {t = t} {k = j} n i r) l d k = ap (λ x. astray K p (stamp t j x)) (tape-none r) ∙ astray-stamp p t j

  -- a node among its siblings
  module _ (p : Path) (f g : Forest) where
    pub astray-here : astray K p f ≡ true → astray K p (join f g) ≡ true
    astray-here h = astray-join p f g ∙ or-first (astray K p f) (astray K p g) h

    pub astray-past : astray K p f ≡ false → astray K p (join f g) ≡ astray K p g
    astray-past h = astray-join p f g ∙ rw h

  -- ---- 8
  keyless-join : (p : Path) (f g : Forest) → keyless K p (join f g) ≡ (keyless K p f || keyless K p g)
  unfolding keyless
  keyless-join p f g = ap (unkeyed K p) (drop-join p f g) ∙ unkeyed-join p (drop_white K p f) (drop_white K p g)

  pub keyless-end : (p : Path) → keyless K p end ≡ false
  unfolding keyless drop_white unkeyed
  keyless-end p = refl

  keyless-text : (p : Path) (b : Bytes) → keyless K p (text b end) ≡ false
  unfolding keyless drop_white unkeyed
  keyless-text p b = bool_by (λ x. unkeyed K p (elim x as (λ _. Forest) [ true ↦ end | false ↦ text b end ]) ≡ false) (above K p && all is_white b) (λ _. refl) (λ _. refl)

  keyless-elem : (p : Path) (n : Bytes) (k : Forest) → keyless K p (elem n k end) ≡ (lacking K (p ▸ n) k || keyless K (p ▸ n) k)
  unfolding keyless lacking drop_white unkeyed
  keyless-elem p n k = or-false (lacking K (p ▸ n) k || keyless K (p ▸ n) k)

  keyless-stamp : (p : Path) (t : Bytes) (k : Forest) → keyless K p (stamp t k end) ≡ false
  unfolding keyless drop_white unkeyed
  keyless-stamp p t k = refl

  -- a node that is no element
  pub keyless-other : {src cells : List ℕ} {i : ℕ} {f : Forest} (p : Path) → Tape src cells i (next_at cells i) f → (head_at cells i % 4 ≡ 1 → ⊥) → keyless K p f ≡ false
  keyless-other p (at-end e) k = keyless-end p
  keyless-other p (at-text {b = b} n u e r) k = ap (λ x. keyless K p (text b x)) (tape-none (rw (← e) at r)) ∙ keyless-text p b
  keyless-other p (at-elem n i r) k = absurd (k n.kind-is)
  keyless-other p (at-stamp {t = t} {k = j} n i r) k = ap (λ x. keyless K p (stamp t j x)) (tape-none r) ∙ keyless-stamp p t j

  -- what a frontier holds
  pub keyless-under : (p : Path) (f : Forest) → above K p ≡ false → keyless K p f ≡ false
  unfolding keyless
  keyless-under p f h = front-keyed K p (drop_white K p f) h

  -- an element by itself
  module _ (p : Path) {n : Bytes} {f k : Forest} (e : f ≡ elem n k end) where
    pub keyless-lacking : lacking K (p ▸ n) k ≡ true → keyless K p f ≡ true
    keyless-lacking h = ap (keyless K p) e ∙ keyless-elem p n k ∙ or-first (lacking K (p ▸ n) k) (keyless K (p ▸ n) k) h

    pub keyless-inside : lacking K (p ▸ n) k ≡ false → keyless K p f ≡ keyless K (p ▸ n) k
    keyless-inside h = ap (keyless K p) e ∙ keyless-elem p n k ∙ rw h

  -- a node among its siblings
  module _ (p : Path) (f g : Forest) where
    pub keyless-here : keyless K p f ≡ true → keyless K p (join f g) ≡ true
    keyless-here h = keyless-join p f g ∙ or-first (keyless K p f) (keyless K p g) h

    pub keyless-past : keyless K p f ≡ false → keyless K p (join f g) ≡ keyless K p g
    keyless-past h = keyless-join p f g ∙ rw h
