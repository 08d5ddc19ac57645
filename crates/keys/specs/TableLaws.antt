-- What the table's cells say of the path at a place: whether it is above the frontiers, its key names, and the paths right below it.
use Rattle.std.specs.Prelude.{ℕ, zero, suc, ◌+◌, ◌-◌, ◌<◌, ◌≤◌, ◌≡◌, refl, ◌⊎◌, Bool, true, false, eqb, ltb, length, get_or}
use Rattle.std.proofs.Common.{arith, not-suc-le-zero, le_of_suc-le-suc, sym, ◌∙◌, ap, ap₂, subst, inl, inr, ⊎_elim, length-append, get_or-append-add, below_more, eqb-true, eq-eqb, ne_eqb, ltb-true, ltb-false}
use mathlib.Core.List.Memᴰ
use mathlib.Core.List.{List, [], ◌∷◌, ◌++◌, flat_map, Memᴰ}
use Rattle.std.proofs.Math.ListN.{get_or-append, get_or-eq_default}
use Rattle.std.proofs.Math.Seq.{slice}
use Rattle.std.proofs.lemmas.Bool.{eqb-false}
use Rattle.model.specs.Masks.{clash}
use Rattle.xml.specs.Bytes.{Bytes, any, same, distinct}
use Rattle.xml.specs.BytesLaws.{same-is, same_self}
use Rattle.xml.specs.Truth.{by-test, and_left, and_right, both, any-mem}
use Rattle.keys.specs.KeyList.{Path, KeyList, path, implied, paths, contexts_known, same_path, above, key_names_at, rules_kept}
use Rattle.keys.specs.Version.{◌▸◌}
use Rattle.keys.specs.KeyListLaws.{same_path-is, rules, rules-kept, no_names, once-head, once-tail}
use Rattle.keys.specs.RootLaws.{not-empty}
use Rattle.keys.specs.Table.{place_of, Table, name_start, name_end, parent_in, keys_in, inner_in, bit_of}
use Rattle.keys.specs.Placed.{OfPlace}
use Rattle.keys.specs.Places.{part_at, first_below, is_child_at}
use Rattle.keys.specs.declared.places.Part.{Part}
use Rattle.keys.specs.PlaceLaws.{mem-at, place-root, place-first, place-kind, place-128, place-129, place-top, place_at, place-own, place-front, place-nowhere}

-- a path's last name, and what is above it
pub last-is : (p q : Path) (m n : Bytes) → p ▸ m ≡ q ▸ n → (p ≡ q) × (m ≡ n)
last-is [] [] m n e = (refl, cc)
last-is [] (y ∷ q) m n e = let f : q ▸ n ≡ [] = cc in absurd (not-empty q n f)
last-is (x ∷ p) [] m n e = let f : p ▸ m ≡ [] = cc in absurd (not-empty p m f)
last-is (x ∷ p) (y ∷ q) m n e = let f : p ▸ m ≡ q ▸ n = cc in let g : x ≡ y = cc in let t = last-is p q m n f in (let h = t.0 in cc, t.1)

-- a path comes after the one that it continues, unless that is one of the earlier paths
comes-after : (earlier : List Path) (K : KeyList) → contexts_known earlier K ≡ true → (p : Path) (m : Bytes) (j : ℕ) → j < length (paths K) → get_or (paths K) j [] ≡ p ▸ m
    → Memᴰ p earlier ⊎ ((i : ℕ) × (i < j) × (get_or (paths K) i [] ≡ p))
unfolding contexts_known path implied paths flat_map
comes-after earlier [] u p m j h e = absurd (not-suc-le-zero h)
comes-after earlier (k ∷ K) u p m zero h e =
    let t = any-mem (same_path k.context) earlier (and_left _ (contexts_known (path k ∷ earlier) K) u) in
    inl (Memᴰ.cast (sym (last-is k.context p k.name m e).0 ∙ same_path-is k.context t.0 t.2) t.1)
comes-after earlier (k ∷ K) u p m (suc j) h e =
    by-test (ltb j (length (implied k))) (λ l. near (ltb-true j (length (implied k)) l)) (λ l. far (ltb-false j (length (implied k)) l) (comes-after (path k ∷ earlier) K (and_right (any (same_path k.context) earlier) _ u) p m))
  where
    near : j < length (implied k) → Memᴰ p earlier ⊎ ((i : ℕ) × (i < suc j) × (get_or (paths (k ∷ K)) i [] ≡ p))
    near l =
        let t = Memᴰ.of_map (λ n. path k ++ n ∷ []) k.key_names (mem-at (implied k) j l) in
        inr (0, omega arith, (last-is (path k) p t.0 m (t.2 ∙ sym (get_or-append (implied k) (paths K) [] j l) ∙ e)).0)

    far : length (implied k) ≤ j
        → ((i : ℕ) → i < length (paths K) → get_or (paths K) i [] ≡ p ▸ m → Memᴰ p (path k ∷ earlier) ⊎ ((o : ℕ) × (o < i) × (get_or (paths K) o [] ≡ p)))
        → Memᴰ p earlier ⊎ ((i : ℕ) × (i < suc j) × (get_or (paths (k ∷ K)) i [] ≡ p))
    far l ih =
        let d : j ≡ length (implied k) + (j - length (implied k)) = omega arith in
        go (ih (j - length (implied k)) (omega (arith, h, length-append (implied k) (paths K)))
        (sym (get_or-append-add (implied k) (paths K) (j - length (implied k)) []) ∙ ap (λ (i : ℕ). get_or (implied k ++ paths K) i []) (sym d) ∙ e))
      where
        go : Memᴰ p (path k ∷ earlier) ⊎ ((o : ℕ) × (o < j - length (implied k)) × (get_or (paths K) o [] ≡ p)) → Memᴰ p earlier ⊎ ((i : ℕ) × (i < suc j) × (get_or (paths (k ∷ K)) i [] ≡ p))
        go (inl (Memᴰ.head q)) = inr (0, omega arith, sym q)
        go (inl (Memᴰ.tail n)) = inl n
        go (inr o) = inr (suc (length (implied k) + o.0), omega (arith, o.1), get_or-append-add (implied k) (paths K) o.0 [] ∙ o.2)

-- no path stands at two numbers
once-at : (l : List Path) → distinct same_path l ≡ true → (i j : ℕ) → i < length l → j < length l → get_or l i [] ≡ get_or l j [] → i ≡ j
once-at [] u i j h k e = absurd (not-suc-le-zero h)
once-at (p ∷ l) u zero zero h k e = refl
once-at (p ∷ l) u zero (suc j) h k e = absurd (once-head p l u (Memᴰ.cast e (mem-at l j (le_of_suc-le-suc k))))
once-at (p ∷ l) u (suc i) zero h k e = absurd (once-head p l u (Memᴰ.cast (sym e) (mem-at l i (le_of_suc-le-suc h))))
once-at (p ∷ l) u (suc i) (suc j) h k e = ap suc (once-at l (once-tail p l u) i j (le_of_suc-le-suc h) (le_of_suc-le-suc k) e)

-- no line has the empty path
root-keyless : (K : KeyList) → key_names_at K [] ≡ []
unfolding path
root-keyless K = no_names K [] (λ k m e. not-empty k.context k.name (sym e))

-- paths below the root's parent can be anywhere, others only after the place
pub first-top : (place : ℕ) → place ≡ 128 → 0 ≡ first_below place
first-top place e = rw (eq-eqb place 128 e, first_below)

pub first-after : (place : ℕ) → (place ≡ 128 → ⊥) → place + 1 ≡ first_below place
first-after place f = rw (ne_eqb place 128 f, first_below)

first-kinds : {A : Type 0} (place : ℕ) → (0 ≡ first_below place → place ≡ 128 → A) → (place + 1 ≡ first_below place → (place ≡ 128 → ⊥) → A) → A
first-kinds place f g =
    by-test (eqb place 128) (λ b. let e = eqb-true place 128 b in f (first-top place e) e) (λ b. let e = eqb-false place 128 b in g (first-after place e) e)

module _ {text : Bytes} {cells : List ℕ} {n : ℕ} {K : KeyList} (t : Table text cells n K) where
  pub table-rules : rules_kept K ≡ true
  table-rules = rules-kept text K t.accepted

  -- the number of a path is its place
  pub table-place : (q : Path) (i : ℕ) → i < n → get_or (paths K) i [] ≡ q → place_of K q ≡ i
  table-place q i h e =
      place-first K q i (omega (arith, t.counted)) e
      (λ j k f. let z = once-at (paths K) (rules K table-rules).once j i (omega (arith, t.counted)) (omega (arith, t.counted)) (f ∙ sym e) in omega arith)

  -- a path below one of the list has a greater number
  pub table-later : (p : Path) (m : Bytes) (j : ℕ) → j < n → get_or (paths K) j [] ≡ p ▸ m → (place_of K p ≡ 128) ⊎ (place_of K p < j)
  table-later p m j h f =
      ⊎_elim (λ o. inl (ap (place_of K) (Memᴰ.eq_of_singleton o) ∙ place-root K)) (λ o. inr (let z = table-place p o.0 (omega (arith, o.1)) o.2 in omega (arith, o.1)))
      (comes-after ([] ∷ []) K (rules K table-rules).known p m j (omega (arith, t.counted)) f)

  module _ (p : Path) (i : ℕ) (e : place_of K p ≡ i) where
    pub table-top : i ≡ 128 → above K p ≡ true
    table-top f = rw (place-128 K table-rules p (e ∙ f)) (place-top K table-rules)

    -- a place that is no number of the table, nor 128, is 129
    pub table-out : n ≤ i → (i ≡ 128 → ⊥) → i ≡ 129
    table-out h f =
        ⊎_elim (λ k. absurd (f (sym e ∙ k.0))) (⊎_elim (λ k. absurd (omega (arith, t.counted, k.0, e))) (λ k. sym e ∙ k)) (place-kind K table-rules p)

    pub table-off : i ≡ 129 → above K p ≡ false
    table-off f = (place-129 K table-rules p (e ∙ f)).0

    -- where a path continues it, the place is 128 or a number of the table
    pub table-within : above K p ≡ true → (i ≡ 128 → ⊥) → i < n
    table-within a f = by-test (ltb i n) (ltb-true i n) (λ l. absurd (clash a (table-off (table-out (ltb-false i n l) f))))

    pub table-first : above K p ≡ true → (i ≤ 128) × (first_below i ≤ n)
    table-first a = first-kinds i (λ z f. (omega arith, omega arith)) (λ z f. let w = table-within a f in (omega (arith, t.few), omega arith))

    -- the root's parent has no key names
    pub table-bare : n ≤ i → key_names_at K p ≡ []
    table-bare h =
        ⊎_elim (λ k. rw k.1 (root-keyless K)) (⊎_elim (λ k. absurd (omega (arith, t.counted, k.0, e))) (λ k. (place-129 K table-rules p k).1)) (place-kind K table-rules p)

    -- the entry at a number is the path's
    own : (h : i < n) → (t.entry i h).parent ▸ (t.entry i h).name ≡ p
    own h = sym (t.entry i h).path-is ∙ ap (λ (j : ℕ). get_or (paths K) j []) (sym e) ∙ (place_at K table-rules p (omega (arith, e, t.few))).1

    pub table-inner : i < n → inner_in cells i ≡ bit_of (above K p)
    table-inner h = (t.entry i h).inner-is ∙ ap (λ (q : Path). bit_of (above K q)) (own h)

    pub table-keys : i < n → keys_in cells i ≡ length (key_names_at K p)
    table-keys h = (t.entry i h).keys-are ∙ ap (λ (q : Path). length (key_names_at K q)) (own h)

    -- key name j of the path at the place i is the name of the path number i + 1 + j
    pub table-key-path : i < n → (j : ℕ) → j < length (key_names_at K p) → (i + 1 + j < n) × (get_or (paths K) (i + 1 + j) [] ≡ p ▸ get_or (key_names_at K p) j [])
    table-key-path h j k = (by-test (ltb (i + 1 + j) n) (ltb-true (i + 1 + j) n) (λ l. absurd (beyond (ltb-false (i + 1 + j) n l))), there)
      where
        there : get_or (paths K) (i + 1 + j) [] ≡ p ▸ get_or (key_names_at K p) j []
        there = subst (λ (q : Path). j < length (key_names_at K q) → get_or (paths K) (i + 1 + j) [] ≡ q ▸ get_or (key_names_at K q) j []) (own h) ((t.entry i h).key-paths j) k

        beyond : n ≤ i + 1 + j → ⊥
        beyond l = not-empty p (get_or (key_names_at K p) j []) (sym there ∙ get_or-eq_default (paths K) [] (omega (arith, t.counted)))

    pub table-key-name : i < n → (j : ℕ) → j < length (key_names_at K p)
        → (name_end cells (i + 1 + j) ≤ length text) × (slice (name_start cells (i + 1 + j)) (name_end cells (i + 1 + j)) text ≡ get_or (key_names_at K p) j [])
    table-key-name h j k =
        let a = table-key-path h j k in
        let c = t.entry (i + 1 + j) a.0 in
        (c.within, c.name-is ∙ (last-is c.parent p c.name (get_or (key_names_at K p) j []) (sym c.path-is ∙ a.1)).1)

    pub table-key-place : i < n → (j : ℕ) → j < length (key_names_at K p) → place_of K (p ▸ get_or (key_names_at K p) j []) ≡ i + 1 + j
    table-key-place h j k = let a = table-key-path h j k in table-place (p ▸ get_or (key_names_at K p) j []) (i + 1 + j) a.0 a.1

  -- the path number i has this name right below the place
  module _ (p : Path) (place : ℕ) (e : place_of K p ≡ place) (i : ℕ) (h : i < n) (m : Bytes) where
    pub table-child : (place ≡ 129 → ⊥) → is_child_at text cells i place m ≡ true → get_or (paths K) i [] ≡ p ▸ m
    table-child f b =
        let c = t.entry i h in
        let x = eqb-true (parent_in cells i) place (and_left (eqb (parent_in cells i) place) (same m (slice (name_start cells i) (name_end cells i) text)) b) in
        let y = same-is m (slice (name_start cells i) (name_end cells i) text) (and_right (eqb (parent_in cells i) place) (same m (slice (name_start cells i) (name_end cells i) text)) b) in
        let z = place-own K table-rules c.parent p (sym c.parent_is ∙ x ∙ sym e) (λ g. f (sym x ∙ c.parent_is ∙ g)) in
        c.path-is ∙ ap₂ (λ (q : Path) (l : Bytes). q ▸ l) z (sym (y ∙ c.name-is))

    pub table-other : is_child_at text cells i place m ≡ false → get_or (paths K) i [] ≡ p ▸ m → ⊥
    table-other b g =
        let c = t.entry i h in
        let l = last-is c.parent p c.name m (sym c.path-is ∙ g) in
        let x = c.parent_is ∙ ap (place_of K) l.0 ∙ e in
        let y = c.name-is ∙ l.1 in
        clash (both (eq-eqb (parent_in cells i) place x) (rw y (same_self m))) b

-- the bit as a test
pub inner-bit : (b : ℕ) (t : Bool) → b ≡ bit_of t → eqb b 1 ≡ t
inner-bit b true e = eq-eqb b 1 e
inner-bit b false e = ne_eqb b 1 (λ f. omega arith)

-- ---- what the search of a child reads
pub part-within : (cells : List ℕ) (i : ℕ) {part : Part} (l : ℕ) → part ≡ part_at cells i → name_end cells i ≤ l → (part.start ≤ part.end) × (part.end ≤ l)
part-within cells i {part} l e h = rw e (omega arith, h)

module _ (text : Bytes) (cells : List ℕ) (i place : ℕ) (m : Bytes) where
  pub child-not : (parent_in cells i ≡ place → ⊥) → is_child_at text cells i place m ≡ false
  child-not f = rw (ne_eqb (parent_in cells i) place f)

  pub child-by : {r : Bool} {part : Part} → parent_in cells i ≡ place → part ≡ part_at cells i → r ≡ same m (slice part.start part.end text) → r ≡ is_child_at text cells i place m
  child-by {r} {part} e p q = rw (eq-eqb (parent_in cells i) place e) (q ∙ ap (λ (z : Part). same m (slice z.start z.end text)) p)

-- the search of a child: none of the paths before the number i is it
abbrev pub NoChild : Bytes → List ℕ → ℕ → ℕ → Bytes → ℕ → Type 0
NoChild text cells n place m i = OfPlace text cells n place (λ K p. (j : ℕ) → j < i → get_or (paths K) j [] ≡ p ▸ m → ⊥)

module _ (text : Bytes) (cells : List ℕ) (n place : ℕ) (m : Bytes) where
  -- it starts right after the place: a path below comes later
  pub search-starts : (i : ℕ) → i ≡ first_below place → OfPlace text cells n place (λ K p. true ≡ above K p) → NoChild text cells n place m i
  search-starts i r a K p t e j l f =
      first-kinds place (λ z g. omega arith)
      (λ z g. let w = table-within t p place e (sym (a K p t e)) g in ⊎_elim (λ y. g (sym e ∙ y)) (λ y. omega arith) (table-later t p m j (omega arith) f))

  pub search-goes : (i : ℕ) → i < n → NoChild text cells n place m i → is_child_at text cells i place m ≡ false → NoChild text cells n place m (i + 1)
  search-goes i h g b K p t e = below_more _ _ (g K p t e) (table-other t p place e i h m b)

  -- nothing is below a place that is not above
  pub search-shut : OfPlace text cells n place (λ K p. false ≡ above K p) → OfPlace text cells n place (λ K p. 129 ≡ place_of K (p ▸ m))
  search-shut a K p t e = sym (place-front K (table-rules t) p m (sym (a K p t e)))

  pub search-finds : (i : ℕ) → i < n → NoChild text cells n place m i → OfPlace text cells n place (λ K p. true ≡ above K p) → is_child_at text cells i place m ≡ true
      → OfPlace text cells n place (λ K p. i ≡ place_of K (p ▸ m))
  search-finds i h g a b K p t e = sym (table-place t (p ▸ m) i h (table-child t p place e i h m (λ f. clash (sym (a K p t e)) (table-off t p place e f)) b))

  pub search-ends : (i : ℕ) → n ≤ i → NoChild text cells n place m i → OfPlace text cells n place (λ K p. 129 ≡ place_of K (p ▸ m))
  search-ends i h g K p t e = sym (place-nowhere K p m (λ j l. g K p t e j (omega (arith, t.counted))))
