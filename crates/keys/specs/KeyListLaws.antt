-- Laws of key lists: names and paths are compared exactly; implied paths are frontiers; nothing beneath a frontier is listed.
use Prim.Native.Char.{code}
use Rattle.std.specs.Prelude.{◌≡◌, refl, Bool, true, false, not, ◌&&◌, ◌⊎◌, eqb, leb, length}
use Rattle.std.proofs.Common.{sym, ◌∙◌, ap, ap₂, subst, inl, inr, ⊎_elim}
use Rattle.std.proofs.Math.Bool.{not-not}
use mathlib.Core.List.Memᴰ
use mathlib.Core.List.{List, [], ◌∷◌, ◌++◌, map, flat_map, Memᴰ}
use Rattle.std.proofs.lemmas.Bool.{not-true, not-false}
use Rattle.model.specs.Masks.{clash}
use Rattle.xml.specs.Bytes.{Bytes, bytes, any, all, same, distinct, split}
use Rattle.keys.specs.Result.{r3, r4, ok}
use Rattle.keys.specs.KeyList.{Path, Key, KeyList, same_path, path, implied, paths, contexts_known, first_bare, rules_kept, lines_of, keys_of, contexts_in_notation, key_list, listed, continues, frontier, above, key_names_at}
use Rattle.keys.specs.Version.{◌▸◌}
use Rattle.xml.specs.BytesLaws.{same_by-is, same_by-self, same-is, same_self}
use Rattle.keys.specs.ResultLaws.{bind_inv, passed}
use Rattle.xml.specs.Truth.{not_so, and_left, and_right, any-mem, mem-any, none_any, any_none, all-mem}

-- ---- names and paths are compared exactly
pub same_path-is : (a b : Path) → same_path a b ≡ true → a ≡ b
unfolding same_path
same_path-is = same_by-is same same-is

pub same_path-self : (a : Path) → same_path a a ≡ true
unfolding same_path
same_path-self = same_by-self same same_self

-- ---- what continues a path
pub continues-none : (c : Path) → continues c [] ≡ false
unfolding continues
continues-none [] = refl
continues-none (n ∷ c) = refl

pub continues-next : (c d : Path) (x : Bytes) → continues c (d ▸ x) ≡ true → (c ≡ d) ⊎ (continues c d ≡ true)
unfolding continues
continues-next [] [] x e = inl refl
continues-next [] (m ∷ d) x e = inr refl
continues-next (n ∷ c) [] x e = absurd (clash (and_right (same n x) _ e) (continues-none c))
continues-next (n ∷ c) (m ∷ d) x e = go (continues-next c d x (and_right (same n m) _ e))
  where
    s : same n m ≡ true
    s = and_left (same n m) _ e

    go : (c ≡ d) ⊎ (continues c d ≡ true) → (n ∷ c ≡ m ∷ d) ⊎ (continues (n ∷ c) (m ∷ d) ≡ true)
    go (inl p) = inl (ap₂ (λ a t. a ∷ t) (same-is n m s) p)
    go (inr p) = inr (rw s p)

pub continues-one : (q : Path) (n : Bytes) → continues q (q ▸ n) ≡ true
unfolding continues
continues-one [] n = refl
continues-one (m ∷ q) n = rw (same_self m) (continues-one q n)

continues-root : (q : Path) (n : Bytes) → continues [] (q ▸ n) ≡ true
unfolding continues
continues-root [] n = refl
continues-root (m ∷ q) n = refl

continues-less : (q : Path) (n : Bytes) (r : Path) → continues (q ▸ n) r ≡ true → continues q r ≡ true
unfolding continues
continues-less [] n [] e = e
continues-less [] n (m ∷ r) e = refl
continues-less (x ∷ q) n [] e = e
continues-less (x ∷ q) n (m ∷ r) e = rw (and_left (same x m) _ e) (continues-less q n r (and_right (same x m) _ e))

-- ---- the paths of a list
pub paths-mem : (K : KeyList) (r : Path) → Memᴰ r (paths K) → (k : Key) × Memᴰ k K × Memᴰ r (path k ∷ implied k)
unfolding paths flat_map
paths-mem [] r m = absurd (Memᴰ.not-nil m)
paths-mem (k ∷ K) r m = go (λ n. paths-mem K r n) (Memᴰ.append_cases (path k ∷ implied k) m)
  where
    go : (Memᴰ r (flat_map (λ k. path k ∷ implied k) K) → (j : Key) × Memᴰ j K × Memᴰ r (path j ∷ implied j)) → Memᴰ r (path k ∷ implied k) ⊎ Memᴰ r (flat_map (λ k. path k ∷ implied k) K) → (j : Key) × Memᴰ j (k ∷ K) × Memᴰ r (path j ∷ implied j)
    go ih (inl n) = (k, Memᴰ.head refl, n)
    go ih (inr n) = let t = ih n in (t.0, Memᴰ.tail t.1, t.2)

pub mem-paths : {k : Key} {K : KeyList} {r : Path} → Memᴰ k K → Memᴰ r (path k ∷ implied k) → Memᴰ r (paths K)
unfolding paths flat_map
mem-paths {r = r} (Memᴰ.head {x = j} e) n = Memᴰ.append_left _ (subst (λ (z : Key). Memᴰ r (path z ∷ implied z)) e n)
mem-paths (Memᴰ.tail {x = j} m) n = Memᴰ.append_right (path j ∷ implied j) (mem-paths m n)

pub mem-implied : {k : Key} {K : KeyList} {r : Path} → Memᴰ k K → Memᴰ r (implied k) → Memᴰ r (flat_map implied K)
unfolding flat_map
mem-implied {r = r} (Memᴰ.head {x = j} e) n = Memᴰ.append_left _ (subst (λ (z : Key). Memᴰ r (implied z)) e n)
mem-implied (Memᴰ.tail {x = j} m) n = Memᴰ.append_right (implied j) (mem-implied m n)

-- ---- the rules
pub record Rules (K : KeyList) : Type 0 where
  pub first : first_bare K ≡ true
  pub known : contexts_known ([] ∷ []) K ≡ true
  pub once : distinct same_path (paths K) ≡ true
  pub free : all (λ p. not (any (λ c. same_path p c) (map (λ k. k.context) K))) (flat_map implied K) ≡ true
  pub no-T : all (λ p. all (λ n. not (same n (bytes "T"))) p) (paths K) ≡ true
  pub lines : leb (length K) 64 ≡ true
  pub few : leb (length (paths K)) 128 ≡ true
  pub short : all (λ p. leb (length p) 8) (paths K) ≡ true

all-eight : (a b c d f g h i : Bool) → (a && b && c && d && f && g && h && i) ≡ true
    → (a ≡ true) × (b ≡ true) × (c ≡ true) × (d ≡ true) × (f ≡ true) × (g ≡ true) × (h ≡ true) × (i ≡ true)
all-eight true true true true true true true i e = (refl, refl, refl, refl, refl, refl, refl, e)
all-eight true true true true true true false i e = absurd (clash e refl)
all-eight true true true true true false h i e = absurd (clash e refl)
all-eight true true true true false g h i e = absurd (clash e refl)
all-eight true true true false f g h i e = absurd (clash e refl)
all-eight true true false d f g h i e = absurd (clash e refl)
all-eight true false c d f g h i e = absurd (clash e refl)
all-eight false b c d f g h i e = absurd (clash e refl)

pub rules : (K : KeyList) → rules_kept K ≡ true → Rules K
unfolding rules_kept
rules K e =
    let t =
    all-eight (first_bare K) (contexts_known ([] ∷ []) K) (distinct same_path (paths K))
    (all (λ p. not (any (λ c. same_path p c) (map (λ k. k.context) K))) (flat_map implied K)) (all (λ p. all (λ n. not (same n (bytes "T"))) p) (paths K))
    (leb (length K) 64) (leb (length (paths K)) 128) (all (λ p. leb (length p) 8) (paths K)) e
    in
    record { first = t.0; known = t.1; once = t.2; free = t.3; no-T = t.4; lines = t.5; few = t.6; short = t.7 }

-- "No path is given twice": no path stands in two parts of the list of them
pub once-head : (c : Path) (l : List Path) → distinct same_path (c ∷ l) ≡ true → Memᴰ c l → ⊥
unfolding distinct any
once-head c l e m = clash (mem-any (same_path c) m (same_path-self c)) (not-true (any (same_path c) l) (and_left (not (any (same_path c) l)) _ e))

pub once-tail : (c : Path) (l : List Path) → distinct same_path (c ∷ l) ≡ true → distinct same_path l ≡ true
unfolding distinct any
once-tail c l e = and_right (not (any (same_path c) l)) _ e

pub once-apart : {c : Path} {s : List Path} (t : List Path) → distinct same_path (s ++ t) ≡ true → Memᴰ c s → Memᴰ c t → ⊥
once-apart t e (Memᴰ.head {x = x} {xs = s} p) m = once-head x (s ++ t) e (Memᴰ.append_right s (Memᴰ.cast (sym p) m))
once-apart t e (Memᴰ.tail {x = x} {xs = s} n) m = once-apart t (once-tail x (s ++ t) e) n m

pub once-right : (s t : List Path) → distinct same_path (s ++ t) ≡ true → distinct same_path t ≡ true
once-right [] t e = e
once-right (x ∷ s) t e = once-right s t (once-tail x (s ++ t) e)

-- so no line has an implied path
pub line-implied : {k j : Key} {c : Path} {K : KeyList} → distinct same_path (paths K) ≡ true → Memᴰ k K → c ≡ path k → Memᴰ j K → Memᴰ c (implied j) → ⊥
unfolding paths flat_map
line-implied {c = c} u (Memᴰ.head {x = x} {xs = K} e) p (Memᴰ.head e') n =
    once-head (path x) _ u (Memᴰ.cast (ap path (sym e) ∙ sym p) (Memᴰ.append_left _ (subst (λ (z : Key). Memᴰ c (implied z)) e' n)))
line-implied u (Memᴰ.head {x = x} {xs = K} e) p (Memᴰ.tail m) n =
    once-head (path x) _ u (Memᴰ.cast (ap path (sym e) ∙ sym p) (Memᴰ.append_right (implied x) (mem-paths m (Memᴰ.tail n))))
line-implied {c = c} u (Memᴰ.tail {x = x} {xs = K} m) p (Memᴰ.head e) n =
    once-apart (paths K) (once-tail (path x) _ u) (subst (λ (z : Key). Memᴰ c (implied z)) e n) (mem-paths m (Memᴰ.head p))
line-implied u (Memᴰ.tail {x = x} {xs = K} m) p (Memᴰ.tail m') n =
    line-implied (once-right (implied x) (paths K) (once-tail (path x) _ u)) m p m' n

-- "A context is the path of an earlier line": what no context equals, no line's path continues
pub no_line : (c : Path) (earlier : List Path) (K : KeyList) → contexts_known earlier K ≡ true → ((e : Path) → Memᴰ e earlier → continues c e ≡ false)
    → ((k : Key) → Memᴰ k K → c ≡ k.context → ⊥) → (k : Key) → Memᴰ k K → continues c (path k) ≡ false
unfolding contexts_known path
no_line c earlier [] e f h k m = absurd (Memᴰ.not-nil m)
no_line c earlier (j ∷ K) e f h k m = go (λ n. no_line c (path j ∷ earlier) K (and_right (any (same_path j.context) earlier) _ e) before (λ i o. h i (Memᴰ.tail o)) k n) m
  where
    known : Memᴰ j.context earlier
    known = let t = any-mem (same_path j.context) earlier (and_left _ (contexts_known (path j ∷ earlier) K) e) in Memᴰ.cast (same_path-is j.context t.0 t.2) t.1

    here : continues c (path j) ≡ false
    here = not_so (continues c (path j)) (λ t. ⊎_elim (h j (Memᴰ.head refl)) (λ u. clash u (f j.context known)) (continues-next c j.context j.name t))

    before : (d : Path) → Memᴰ d (path j ∷ earlier) → continues c d ≡ false
    before d (Memᴰ.head p) = ap (continues c) p ∙ here
    before d (Memᴰ.tail n) = f d n

    go : (Memᴰ k K → continues c (path k) ≡ false) → Memᴰ k (j ∷ K) → continues c (path k) ≡ false
    go ih (Memᴰ.head p) = ap (λ z. continues c (path z)) p ∙ here
    go ih (Memᴰ.tail n) = ih n

-- ---- key names
-- the line that a path has its key names from
pub line_of : (K : KeyList) (q : Path) (n : Bytes) → any (same n) (key_names_at K q) ≡ true → (k : Key) × Memᴰ k K × (path k ≡ q) × Memᴰ (q ▸ n) (implied k)
unfolding key_names_at any implied
line_of [] q n e = absurd (clash e refl)
line_of (k ∷ K) q n e = go (same_path (path k) q) refl (λ f. line_of K q n f) e
  where
    go : (b : Bool) → same_path (path k) q ≡ b → (any (same n) (key_names_at K q) ≡ true → (j : Key) × Memᴰ j K × (path j ≡ q) × Memᴰ (q ▸ n) (implied j))
        → any (same n) (elim b as (λ _. List Bytes) [ true ↦ k.key_names | false ↦ key_names_at K q ]) ≡ true
        → (j : Key) × Memᴰ j (k ∷ K) × (path j ≡ q) × Memᴰ (q ▸ n) (implied j)
    go false s ih f = let t = ih f in (t.0, Memᴰ.tail t.1, t.2, t.3)
    go true s ih f =
        let t = any-mem (same n) k.key_names f in
        let p = same_path-is (path k) q s in
        (k, Memᴰ.head refl, p, Memᴰ.cast (ap₂ (λ a b. a ▸ b) (sym p) (same-is n t.0 t.2)) (Memᴰ.map (λ m. path k ▸ m) t.1))

name-first : (n : Bytes) (ns : List Bytes) → any (same n) (n ∷ ns) ≡ true
name-first n ns = mem-any (same n) {x = n} (Memᴰ.head refl) (same_self n)

-- a path that no line has is bare
pub no_names : (K : KeyList) (q : Path) → ((k : Key) → Memᴰ k K → q ≡ path k → ⊥) → key_names_at K q ≡ []
unfolding key_names_at
no_names [] q h = refl
no_names (k ∷ K) q h =
    rw (not_so (same_path (path k) q) (λ e. h k (Memᴰ.head refl) (sym (same_path-is (path k) q e))), key_names_at) (no_names K q (λ j m. h j (Memᴰ.tail m)))

module _ (K : KeyList) (q : Path) (n : Bytes) (u : rules_kept K ≡ true) (e : any (same n) (key_names_at K q) ≡ true) where
  pub no-line-here : (k : Key) → Memᴰ k K → q ▸ n ≡ path k → ⊥
  no-line-here k m p = let t = line_of K q n e in line-implied (rules K u).once m p t.1 t.3

  pub key-bare : key_names_at K (q ▸ n) ≡ []
  key-bare = no_names K (q ▸ n) no-line-here

  no-context : (k : Key) → Memᴰ k K → q ▸ n ≡ k.context → ⊥
  no-context k m p =
      let t = line_of K q n e in
      let f = all-mem (λ p. not (any (λ c. same_path p c) (map (λ k. k.context) K))) (mem-implied t.1 t.3) (rules K u).free in
      clash (mem-any (λ c. same_path (q ▸ n) c) (Memᴰ.map (λ k. k.context) m) (ap (same_path (q ▸ n)) (sym p) ∙ same_path-self (q ▸ n))) (not-true _ f)

  no-path : (r : Path) → Memᴰ r (paths K) → continues (q ▸ n) r ≡ false
  unfolding implied
  no-path r m = go (paths-mem K r m).2
    where
      k : Key
      k = (paths-mem K r m).0

      line : continues (q ▸ n) (path k) ≡ false
      line = no_line (q ▸ n) ([] ∷ []) K (rules K u).known (λ d o. ap (continues (q ▸ n)) (Memᴰ.eq_of_singleton o) ∙ continues-none (q ▸ n)) no-context k (paths-mem K r m).1

      go : Memᴰ r (path k ∷ implied k) → continues (q ▸ n) r ≡ false
      go (Memᴰ.head p) = ap (continues (q ▸ n)) p ∙ line
      go (Memᴰ.tail o) = not_so (continues (q ▸ n) r) (λ f. let t = Memᴰ.of_map (λ x. path k ++ x ∷ []) k.key_names o in
          ⊎_elim (no-line-here k (paths-mem K r m).1) (λ g. clash g line) (continues-next (q ▸ n) (path k) t.0 (ap (continues (q ▸ n)) t.2 ∙ f)))

  pub key-frontier : above K (q ▸ n) ≡ false
  unfolding above frontier
  key-frontier = rw (any_none (continues (q ▸ n)) (paths K) no-path)

-- ---- beneath the frontiers
pub above-not : (K : KeyList) (q : Path) → above K q ≡ false → any (continues q) (paths K) ≡ false
unfolding above frontier
above-not K q e = sym (not-not (any (continues q) (paths K))) ∙ e

pub above-by : (K : KeyList) (q : Path) → any (continues q) (paths K) ≡ true → above K q ≡ true
unfolding above frontier
above-by K q e = rw e

pub above-is : (K : KeyList) (q : Path) → above K q ≡ true → any (continues q) (paths K) ≡ true
unfolding above frontier
above-is K q e = sym (not-not (any (continues q) (paths K))) ∙ e

pub not-above : (K : KeyList) (q : Path) → any (continues q) (paths K) ≡ false → above K q ≡ false
unfolding above frontier
not-above K q e = rw e

pub beneath : (K : KeyList) (q : Path) (n : Bytes) → above K q ≡ false → above K (q ▸ n) ≡ false
beneath K q n e = not-above K (q ▸ n)
    (any_none (continues (q ▸ n)) (paths K) (λ r m. not_so (continues (q ▸ n) r) (λ f. clash (continues-less q n r f) (none_any (continues q) m (above-not K q e)))))

pub listed_above : (K : KeyList) (q : Path) (n : Bytes) → above K q ≡ false → listed K (q ▸ n) ≡ false
unfolding listed
listed_above K q n e =
    any_none (same_path (q ▸ n)) (paths K)
    (λ r m. not_so (same_path (q ▸ n) r) (λ f. clash (continues-one q n) (none_any (continues q) (Memᴰ.cast (same_path-is (q ▸ n) r f) m) (above-not K q e))))

-- a path that has key names is above the frontiers, so a frontier has none
pub front-bare : (K : KeyList) (q : Path) → above K q ≡ false → key_names_at K q ≡ []
front-bare K q e = go (key_names_at K q) refl
  where
    go : (ns : List Bytes) → key_names_at K q ≡ ns → key_names_at K q ≡ []
    go [] p = p
    go (n ∷ ns) p =
        let t = line_of K q n (rw p (name-first n ns)) in
        absurd (clash (continues-one q n) (none_any (continues q) (mem-paths t.1 (Memᴰ.tail t.3)) (above-not K q e)))

pub keyed-above : (K : KeyList) (q : Path) → (key_names_at K q ≡ [] → ⊥) → above K q ≡ true
keyed-above K q h = go (above K q) refl
  where
    go : (b : Bool) → above K q ≡ b → above K q ≡ true
    go true e = e
    go false e = absurd (h (front-bare K q e))

-- ---- the list as a whole
pub root-above : (K : KeyList) → rules_kept K ≡ true → above K [] ≡ true
unfolding first_bare path
root-above K u = go K (rules K u).first
  where
    go : (J : KeyList) → first_bare J ≡ true → above J [] ≡ true
    go [] e = absurd (clash e refl)
    go (k ∷ J) e = above-by (k ∷ J) [] (mem-any (continues []) (mem-paths (Memᴰ.head {x = k} {xs = J} refl) (Memᴰ.head refl)) (continues-root k.context k.name))

-- a key list that is accepted
accepted : (s : Bytes) (K : KeyList) → key_list s ≡ ok K → (contexts_in_notation K ≡ true) × (rules_kept K ≡ true)
unfolding key_list
accepted s K e =
    let ls = bind_inv (lines_of (split (eqb (code "\n")) s)) _ K e in
    let ks = bind_inv (keys_of ls.0) _ K ls.2 in
    let x3 = passed r3 (not (contexts_in_notation ks.0)) _ K ks.2 in
    let x4 = passed r4 (not (rules_kept ks.0)) _ K x3.1 in
    let d : ks.0 ≡ K = cc x4.1 in
    subst (λ z. (contexts_in_notation z ≡ true) × (rules_kept z ≡ true)) d (not-false (contexts_in_notation ks.0) x3.0, not-false (rules_kept ks.0) x4.0)

pub key_list-notation : (s : Bytes) (K : KeyList) → key_list s ≡ ok K → contexts_in_notation K ≡ true
key_list-notation s K e = (accepted s K e).0

pub rules-kept : (s : Bytes) (K : KeyList) → key_list s ≡ ok K → rules_kept K ≡ true
rules-kept s K e = (accepted s K e).1
