-- The rules line by line: a list that keeps them keeps them with one more line exactly if that line fits.
use Prim.Native.Nat.{◌+◌, ◌<◌, ◌≤◌}
use mathlib.Core.Path.{◌≡◌, refl, sym, ◌∙◌, ap}
use mathlib.Core.Bool.{Bool, true, false, not, ◌&&◌}
use mathlib.Core.Logic.{◌⊎◌, inl, inr, ⊎_elim}
use mathlib.Core.List.Memᴰ
use mathlib.Core.List.{List, [], ◌∷◌, ◌++◌, map, flat_map, Memᴰ}
use lib.ListN.{length}
use Rattle.xml.specs.Bytes.{bytes, any, all, distinct, same}
use Rattle.xml.specs.Truth.{not_so, and_left, and_right, both, any-mem, any_none}
use Rattle.keys.specs.KeyList.{Path, Key, KeyList, same_path, path, implied, paths, contexts_known, listed}
use Rattle.keys.specs.KeyListLaws.{same_path-is, line-implied, once-head, once-tail}
use Rattle.keys.specs.RootLaws.{not-empty}

-- what the rules ask of a line that comes after those of J
pub record Fits (J : KeyList) (k : Key) : Type 0 where
  pub line : Memᴰ k.context (map path J)
  pub new : listed J (path k) ≡ false
  pub no-T : same k.name (bytes "T") ≡ false
  pub no-key-T : any (same (bytes "T")) k.key_names ≡ false
  pub short : length k.context + 1 ≤ 8
  pub key-short : 0 < length k.key_names → length k.context + 2 ≤ 8
  pub few : length (paths J) + 1 + length k.key_names ≤ 128

-- ---- lists and tests
module _ {A : Type 0} (f : A → Bool) where
  pub all-by : (l : List A) → ((x : A) → Memᴰ x l → f x ≡ true) → all f l ≡ true
  unfolding all
  all-by [] h = refl
  all-by (x ∷ l) h = both (h x (Memᴰ.head refl)) (all-by l (λ y m. h y (Memᴰ.tail m)))

pub distinct_append : (s t : List Path) → distinct same_path s ≡ true → distinct same_path t ≡ true → ((x : Path) → Memᴰ x s → Memᴰ x t → ⊥) → distinct same_path (s ++ t) ≡ true
unfolding distinct
distinct_append [] t a b f = b
distinct_append (x ∷ s) t a b f =
    both (ap not (any_none (same_path x) (s ++ t) apart)) (distinct_append s t (once-tail x s a) b (λ y m. f y (Memᴰ.tail m)))
  where
    apart : (y : Path) → Memᴰ y (s ++ t) → same_path x y ≡ false
    apart y m = not_so (same_path x y) (λ e. ⊎_elim (λ o. once-head x s a (Memᴰ.cast (same_path-is x y e) o)) (λ o. f x (Memᴰ.head refl) (Memᴰ.cast (same_path-is x y e) o)) (Memᴰ.append_cases s m))

-- ---- contexts
-- the paths of lines, after those of J
pub before : KeyList → List Path → List Path
before [] e = e
before (j ∷ J) e = before J (path j ∷ e)

pub known-append : (J K : KeyList) (e : List Path) → contexts_known e (J ++ K) ≡ (contexts_known e J && contexts_known (before J e) K)
unfolding contexts_known before
known-append [] K e = refl
known-append (j ∷ J) K e = go (any (same_path j.context) e) (known-append J K (path j ∷ e))
  where
    go : (b : Bool) → contexts_known (path j ∷ e) (J ++ K) ≡ (contexts_known (path j ∷ e) J && contexts_known (before J (path j ∷ e)) K)
        → (b && contexts_known (path j ∷ e) (J ++ K)) ≡ ((b && contexts_known (path j ∷ e) J) && contexts_known (before J (path j ∷ e)) K)
    go true ih = ih
    go false ih = refl

before-kept : (J : KeyList) {e : List Path} {p : Path} → Memᴰ p e → Memᴰ p (before J e)
unfolding before
before-kept [] m = m
before-kept (j ∷ J) m = before-kept J (Memᴰ.tail m)

pub before-line : (J : KeyList) (e : List Path) {p : Path} → Memᴰ p (map path J) → Memᴰ p (before J e)
unfolding before
before-line [] e m = absurd (Memᴰ.not-nil m)
before-line (j ∷ J) e (Memᴰ.head q) = before-kept J (Memᴰ.head q)
before-line (j ∷ J) e (Memᴰ.tail m) = before-line J (path j ∷ e) m

pub line_before : (J : KeyList) {e : List Path} {p : Path} → Memᴰ p (before J e) → Memᴰ p e ⊎ Memᴰ p (map path J)
unfolding before
line_before [] m = inl m
line_before (j ∷ J) {e} {p} m = go (line_before J m)
  where
    go : Memᴰ p (path j ∷ e) ⊎ Memᴰ p (map path J) → Memᴰ p e ⊎ Memᴰ p (map path (j ∷ J))
    go (inl (Memᴰ.head q)) = inr (Memᴰ.head q)
    go (inl (Memᴰ.tail o)) = inl o
    go (inr o) = inr (Memᴰ.tail o)

-- each context is empty or the path of a line
context-line : (K : KeyList) (e : List Path) → contexts_known e K ≡ true → {k : Key} → Memᴰ k K → Memᴰ k.context e ⊎ Memᴰ k.context (map path K)
unfolding contexts_known
context-line [] e c m = absurd (Memᴰ.not-nil m)
context-line (j ∷ K) e c {k} (Memᴰ.head q) =
    let t = any-mem (same_path j.context) e (and_left _ (contexts_known (path j ∷ e) K) c) in
    inl (Memᴰ.cast (ap (λ (z : Key). z.context) q ∙ same_path-is j.context t.0 t.2) t.1)
context-line (j ∷ K) e c {k} (Memᴰ.tail m) = go (context-line K (path j ∷ e) (and_right (any (same_path j.context) e) _ c) m)
  where
    go : Memᴰ k.context (path j ∷ e) ⊎ Memᴰ k.context (map path K) → Memᴰ k.context e ⊎ Memᴰ k.context (map path (j ∷ K))
    go (inl (Memᴰ.head q)) = inr (Memᴰ.head q)
    go (inl (Memᴰ.tail o)) = inl o
    go (inr o) = inr (Memᴰ.tail o)

implied-mem : (K : KeyList) (p : Path) → Memᴰ p (flat_map implied K) → (k : Key) × Memᴰ k K × Memᴰ p (implied k)
unfolding flat_map
implied-mem [] p m = absurd (Memᴰ.not-nil m)
implied-mem (k ∷ K) p m = go (λ n. implied-mem K p n) (Memᴰ.append_cases (implied k) m)
  where
    go : (Memᴰ p (flat_map implied K) → (j : Key) × Memᴰ j K × Memᴰ p (implied j)) → Memᴰ p (implied k) ⊎ Memᴰ p (flat_map implied K) → (j : Key) × Memᴰ j (k ∷ K) × Memᴰ p (implied j)
    go ih (inl n) = (k, Memᴰ.head refl, n)
    go ih (inr n) = let t = ih n in (t.0, Memᴰ.tail t.1, t.2)

-- "no implied path": it follows from the other rules
pub free-by : (K : KeyList) → contexts_known ([] ∷ []) K ≡ true → distinct same_path (paths K) ≡ true → all (λ p. not (any (λ c. same_path p c) (map (λ k. k.context) K))) (flat_map implied K) ≡ true
unfolding implied
free-by K c u = all-by (λ p. not (any (λ c. same_path p c) (map (λ k. k.context) K))) (flat_map implied K) (λ p m. ap not (not_so (any (λ c. same_path p c) (map (λ k. k.context) K)) (λ e. bad p m e)))
  where
    bad : (p : Path) → Memᴰ p (flat_map implied K) → any (λ c. same_path p c) (map (λ k. k.context) K) ≡ true → ⊥
    bad p m e =
        let i = implied-mem K p m in
        let t = any-mem (λ c. same_path p c) (map (λ k. k.context) K) e in
        let s = Memᴰ.of_map (λ k. k.context) K t.1 in
        let q : s.0.context ≡ p = s.2 ∙ sym (same_path-is p t.0 t.2) in
        ⊎_elim
        (λ o. let x = Memᴰ.of_map (λ n. path i.0 ++ n ∷ []) i.0.key_names i.2 in not-empty (path i.0) x.0 (x.2 ∙ sym q ∙ Memᴰ.eq_of_singleton o))
        (λ o. let y = Memᴰ.of_map path K o in line-implied u y.1 (sym q ∙ sym y.2) i.1 i.2)
        (context-line K ([] ∷ []) c s.1)
