-- Places: what the place of a path says. A path's prefixes are of the list too, so beneath an unlisted path and a frontier there is none.
use Rattle.std.specs.Prelude.{ℕ, zero, suc, ◌<◌, ◌≤◌, ◌≡◌, refl, Bool, true, false, ◌⊎◌, get_or}
use Rattle.std.proofs.Common.{not-suc-le-zero, le_of_suc-le-suc, arith, sym, ◌∙◌, ap, ⊎_elim, leb-true}
use Rattle.std.proofs.Math.Logic.{inl, inr}
use mathlib.Core.List.Memᴰ
use mathlib.Core.List.{List, [], ◌∷◌, ◌++◌, Memᴰ}
use Rattle.std.proofs.Math.ListN.{length}
use Rattle.model.specs.Masks.{clash}
use Rattle.xml.specs.Bytes.{Bytes, any}
use Rattle.xml.specs.Truth.{not_so, by-test, and_left, and_right, any-mem, mem-any, any_none}
use Rattle.keys.specs.KeyList.{Path, Key, KeyList, same_path, path, implied, paths, contexts_known, rules_kept, listed, continues, above, key_names_at}
use Rattle.keys.specs.Version.{◌▸◌}
use Rattle.keys.specs.KeyListLaws.{same_path-is, same_path-self, not-above, continues-none, continues-next, paths-mem, mem-paths, rules, no_line, listed_above, front-bare, root-above}
use Rattle.keys.specs.RootLaws.{not-empty}
use Rattle.keys.specs.Table.{index_in, place_of}

-- a path is empty or has a last name
pub ends : {A : Type 0} (q : Path) → (q ≡ [] → A) → ((p : Path) (n : Bytes) → q ≡ p ▸ n → A) → A
ends [] f g = f refl
ends (m ∷ q) f g = ends q (λ e. g [] m (ap (λ z. m ∷ z) e)) (λ p n e. g (m ∷ p) n (ap (λ z. m ∷ z) e))

-- ---- a number in a list of paths
pub index_listed : (l : List Path) (q : Path) → any (same_path q) l ≡ true → (index_in l q < length l) × (get_or l (index_in l q) [] ≡ q)
unfolding any index_in
index_listed [] q e = absurd (clash e refl)
index_listed (p ∷ l) q e = go (same_path q p) refl (λ h. index_listed l q h) e
  where
    go : (b : Bool) → same_path q p ≡ b → (any (same_path q) l ≡ true → (index_in l q < length l) × (get_or l (index_in l q) [] ≡ q)) → any (same_path q) (p ∷ l) ≡ true
        → (index_in (p ∷ l) q < length (p ∷ l)) × (get_or (p ∷ l) (index_in (p ∷ l) q) [] ≡ q)
    go true s ih h = rw (s, index_in) (omega arith, sym (same_path-is q p s))
    go false s ih h = rw (s, index_in) (let t = ih (rw (s, any) at h) in (omega (arith, t.0), t.1))

-- the first that is q has its number
pub index-first : (l : List Path) (q : Path) (i : ℕ) → i < length l → get_or l i [] ≡ q → ((j : ℕ) → j < i → get_or l j [] ≡ q → ⊥) → index_in l q ≡ i
unfolding index_in
index-first [] q i h e f = absurd (not-suc-le-zero h)
index-first (p ∷ l) q zero h e f = rw (ap (same_path q) e ∙ same_path-self q, index_in)
index-first (p ∷ l) q (suc i) h e f =
    rw (not_so (same_path q p) (λ s. f 0 (omega arith) (sym (same_path-is q p s))), index_in)
    (ap suc (index-first l q i (le_of_suc-le-suc h) e (λ j k. f (suc j) (omega arith))))

pub mem-at : {A : Type 0} (l : List (List A)) (i : ℕ) → i < length l → Memᴰ (get_or l i []) l
mem-at [] i h = absurd (not-suc-le-zero h)
mem-at (p ∷ l) zero h = Memᴰ.head refl
mem-at (p ∷ l) (suc i) h = Memᴰ.tail (mem-at l i (le_of_suc-le-suc h))

pub at_mem : {q : Path} {l : List Path} → Memᴰ q l → (i : ℕ) × (i < length l) × (get_or l i [] ≡ q)
at_mem (Memᴰ.head e) = (0, omega arith, sym e)
at_mem (Memᴰ.tail m) = let t = at_mem m in (suc t.0, omega (arith, t.1), t.2)

pub listed-mem : (K : KeyList) (q : Path) → listed K q ≡ true → Memᴰ q (paths K)
unfolding listed
listed-mem K q e = let t = any-mem (same_path q) (paths K) e in Memᴰ.cast (same_path-is q t.0 t.2) t.1

pub mem-listed : (K : KeyList) (q : Path) → Memᴰ q (paths K) → listed K q ≡ true
unfolding listed
mem-listed K q m = mem-any (same_path q) m (same_path-self q)

-- ---- the place of a path
pub place-root : (K : KeyList) → place_of K [] ≡ 128
unfolding place_of
place-root K = refl

place-next : (K : KeyList) (p : Path) (n : Bytes) → (b : Bool) → listed K (p ▸ n) ≡ b
    → place_of K (p ▸ n) ≡ elim b [ true ↦ index_in (paths K) (p ▸ n) | false ↦ 129 ]
unfolding place_of
place-next K [] n b e = rw (e, place_of)
place-next K (m ∷ p) n b e = rw (e, place_of)

-- of a path of the list it is its number
pub place-listed : (K : KeyList) (q : Path) → listed K q ≡ true → place_of K q ≡ index_in (paths K) q
unfolding place_of implied path
place-listed K [] e = let t = paths-mem K [] (listed-mem K [] e) in absurd (go t.0 t.2)
  where
    go : (k : Key) → Memᴰ [] (path k ∷ implied k) → ⊥
    go k (Memᴰ.head p) = not-empty k.context k.name (sym p)
    go k (Memᴰ.tail o) = let t = Memᴰ.of_map (λ n. path k ++ n ∷ []) k.key_names o in not-empty (path k) t.0 t.2
place-listed K (m ∷ p) e = rw (e, place_of)

pub place-unlisted : (K : KeyList) (p : Path) (n : Bytes) → listed K (p ▸ n) ≡ false → place_of K (p ▸ n) ≡ 129
place-unlisted K p n e = place-next K p n false e

-- at the number i first stands q
pub place-first : (K : KeyList) (q : Path) (i : ℕ) → i < length (paths K) → get_or (paths K) i [] ≡ q → ((j : ℕ) → j < i → get_or (paths K) j [] ≡ q → ⊥) → place_of K q ≡ i
place-first K q i h e f = place-listed K q (mem-listed K q (Memᴰ.cast (sym e) (mem-at (paths K) i h))) ∙ index-first (paths K) q i h e f

-- it stands nowhere
pub place-nowhere : (K : KeyList) (p : Path) (n : Bytes) → ((j : ℕ) → j < length (paths K) → get_or (paths K) j [] ≡ p ▸ n → ⊥) → place_of K (p ▸ n) ≡ 129
place-nowhere K p n f = place-unlisted K p n (not_so (listed K (p ▸ n)) (λ e. let t = at_mem (listed-mem K (p ▸ n) e) in f t.0 t.1 t.2))

-- ---- a list that keeps the rules
pub few-paths : (K : KeyList) → rules_kept K ≡ true → length (paths K) ≤ 128
few-paths K e = leb-true (length (paths K)) 128 (rules K e).few

-- a context is empty or the path of a line
context-known : (earlier : List Path) (K : KeyList) → contexts_known earlier K ≡ true → {k : Key} → Memᴰ k K → Memᴰ k.context earlier ⊎ Memᴰ k.context (paths K)
unfolding contexts_known
context-known earlier [] e m = absurd (Memᴰ.not-nil m)
context-known earlier (j ∷ K) e {k} (Memᴰ.head p) =
    let t = any-mem (same_path j.context) earlier (and_left _ (contexts_known (path j ∷ earlier) K) e) in
    inl (Memᴰ.cast (ap (λ (z : Key). z.context) p ∙ same_path-is j.context t.0 t.2) t.1)
context-known earlier (j ∷ K) e {k} (Memᴰ.tail m) =
    go (context-known (path j ∷ earlier) K (and_right (any (same_path j.context) earlier) _ e) m)
  where
    go : Memᴰ k.context (path j ∷ earlier) ⊎ Memᴰ k.context (paths K) → Memᴰ k.context earlier ⊎ Memᴰ k.context (paths (j ∷ K))
    go (inl (Memᴰ.head p)) = inr (mem-paths {k = j} (Memᴰ.head refl) (Memᴰ.head p))
    go (inl (Memᴰ.tail n)) = inl n
    go (inr n) = let t = paths-mem K k.context n in inr (mem-paths (Memᴰ.tail t.1) t.2)

module _ (K : KeyList) (u : rules_kept K ≡ true) where
  -- a path that another continues is empty or of the list
  pub closed : (p : Path) (n : Bytes) → listed K (p ▸ n) ≡ false → above K (p ▸ n) ≡ false
  unfolding implied
  closed p n e = not-above K (p ▸ n) (any_none (continues (p ▸ n)) (paths K) none)
    where
      away : {r : Path} → Memᴰ r (paths K) → p ▸ n ≡ r → ⊥
      away m q = clash (mem-listed K (p ▸ n) (Memᴰ.cast q m)) e

      apart : (k : Key) → Memᴰ k K → p ▸ n ≡ k.context → ⊥
      apart k m q = ⊎_elim (λ o. not-empty p n (q ∙ Memᴰ.eq_of_singleton o)) (λ o. away o q) (context-known ([] ∷ []) K (rules K u).known m)

      line : (k : Key) → Memᴰ k K → continues (p ▸ n) (path k) ≡ false
      line = no_line (p ▸ n) ([] ∷ []) K (rules K u).known (λ d o. ap (continues (p ▸ n)) (Memᴰ.eq_of_singleton o) ∙ continues-none (p ▸ n)) apart

      none : (r : Path) → Memᴰ r (paths K) → continues (p ▸ n) r ≡ false
      none r m = let t = paths-mem K r m in go t.0 t.1 t.2
        where
          go : (k : Key) → Memᴰ k K → Memᴰ r (path k ∷ implied k) → continues (p ▸ n) r ≡ false
          go k o (Memᴰ.head q) = ap (continues (p ▸ n)) q ∙ line k o
          go k o (Memᴰ.tail i) = not_so (continues (p ▸ n) r) (λ f. let t = Memᴰ.of_map (λ x. path k ++ x ∷ []) k.key_names i in
              ⊎_elim (away (mem-paths o (Memᴰ.head refl))) (λ g. clash g (line k o)) (continues-next (p ▸ n) (path k) t.0 (ap (continues (p ▸ n)) t.2 ∙ f)))

  pub place-below : (q : Path) → listed K q ≡ true → place_of K q < length (paths K)
  unfolding listed
  place-below q e = rw (place-listed K q e) (index_listed (paths K) q e).0

  -- 129 says that it is not of the list, and nothing beneath it
  pub place-129 : (q : Path) → place_of K q ≡ 129 → (above K q ≡ false) × (key_names_at K q ≡ []) × ((n : Bytes) → place_of K (q ▸ n) ≡ 129)
  place-129 q e = let a = front q e in (a, front-bare K q a, λ n. place-unlisted K q n (listed_above K q n a))
    where
      off : (p : Path) (n : Bytes) → place_of K (p ▸ n) ≡ 129 → listed K (p ▸ n) ≡ false
      off p n f = not_so (listed K (p ▸ n)) (λ l. omega (arith, place-below (p ▸ n) l, few-paths K u))

      front : (p : Path) → place_of K p ≡ 129 → above K p ≡ false
      front p f = ends p (λ z. absurd (omega (arith, ap (place_of K) (sym z) ∙ f, place-root K))) (λ c n z. rw z (closed c n (off c n (ap (place_of K) (sym z) ∙ f))))

  -- beneath a frontier there is none
  pub place-front : (p : Path) (n : Bytes) → above K p ≡ false → place_of K (p ▸ n) ≡ 129
  place-front p n e = place-unlisted K p n (listed_above K p n e)

  pub place-top : above K [] ≡ true
  place-top = root-above K u

  -- a place is 128, the path's number, or 129
  pub place-kind : (q : Path) → ((place_of K q ≡ 128) × (q ≡ [])) ⊎ ((place_of K q < length (paths K)) × (get_or (paths K) (place_of K q) [] ≡ q)) ⊎ (place_of K q ≡ 129)
  unfolding listed
  place-kind q = ends q (λ z. inl (ap (place_of K) z ∙ place-root K, z)) (λ c n z. inr (go c n z))
    where
      go : (c : Path) (n : Bytes) → q ≡ c ▸ n → ((place_of K q < length (paths K)) × (get_or (paths K) (place_of K q) [] ≡ q)) ⊎ (place_of K q ≡ 129)
      go c n z = by-test (listed K q)
          (λ l. inl (rw (place-listed K q l) (index_listed (paths K) q l)))
          (λ l. inr (ap (place_of K) z ∙ place-unlisted K c n (ap (listed K) (sym z) ∙ l)))

  pub place-128 : (q : Path) → place_of K q ≡ 128 → q ≡ []
  place-128 q e = ⊎_elim (λ h. h.1) (⊎_elim (λ h. absurd (omega (arith, few-paths K u))) (λ h. absurd (omega arith))) (place-kind q)

  -- what stands at a number
  pub place_at : (q : Path) → place_of K q < 128 → (place_of K q < length (paths K)) × (get_or (paths K) (place_of K q) [] ≡ q)
  place_at q l = ⊎_elim (λ h. absurd (omega arith)) (⊎_elim (λ h. h) (λ h. absurd (omega arith))) (place-kind q)

  -- paths of the list, and the empty one, have places of their own
  pub place-own : (p q : Path) → place_of K p ≡ place_of K q → (place_of K p ≡ 129 → ⊥) → p ≡ q
  place-own p q e f =
      ⊎_elim (λ h. h.1 ∙ sym (place-128 q (sym e ∙ h.0)))
      (⊎_elim (λ h. sym h.1 ∙ ap (λ (i : ℕ). get_or (paths K) i []) e ∙ (place_at q (omega (arith, few-paths K u, e, h.0))).1) (λ h. absurd (f h)))
      (place-kind p)
