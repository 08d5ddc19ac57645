-- A key list with one more line, whose context is listed and whose path is new: places, key names, and what is above.
use Prim.Native.Nat.{suc}
use native.Mathlib.Omega.{arith}
use mathlib.Core.Path.{◌≡◌, refl, sym, ◌∙◌, ap, subst}
use mathlib.Core.Bool.{Bool, true, false, ◌&&◌}
use mathlib.Core.Logic.{◌⊎◌, inl, inr, ⊎_elim}
use mathlib.Core.List.Memᴰ
use mathlib.Core.List.{List, [], ◌∷◌, ◌++◌, map, Memᴰ}
use lib.ListN.{length}
use Rattle.model.specs.Masks.{clash}
use Rattle.xml.specs.Bytes.{Bytes, any, same}
use Rattle.xml.specs.Truth.{not_so, by-test, any-mem, mem-any, any_none, none_any}
use Rattle.keys.specs.KeyList.{Path, Key, KeyList, same_path, path, implied, paths, rules_kept, listed, continues, above, key_names_at}
use Rattle.keys.specs.Version.{◌▸◌}
use Rattle.keys.specs.KeyListLaws.{continues-next, continues-one, above-by, not-above, above-not, above-is, mem-paths, beneath, listed_above, front-bare}
use Rattle.keys.specs.RootLaws.{not-empty}
use Rattle.keys.specs.Table.{index_in, place_of}
use Rattle.keys.specs.PlaceLaws.{listed-mem, mem-listed, mem-at, place-listed, place-first, place-root, closed}
use Rattle.keys.proofs.OneMore.{◌▷◌, paths-more, paths-count, at_old, at-line, names-other, names-new}

-- nothing continues itself
pub continues-self : (p : Path) → continues p p ≡ false
unfolding continues
continues-self [] = refl
continues-self (n ∷ p) = go (same n n) (continues-self p)
  where
    go : (b : Bool) → continues p p ≡ false → (b && continues p p) ≡ false
    go true e = e
    go false e = refl

pub longer : (p : Path) (n : Bytes) → p ▸ n ≡ p → ⊥
longer [] n e = not-empty [] n e
longer (m ∷ p) n e = let f : p ▸ n ≡ p = cc in longer p n f

-- what continues a path is longer
continues-back : (p : Path) (n : Bytes) → continues (p ▸ n) p ≡ false
unfolding continues
continues-back [] n = refl
continues-back (m ∷ p) n = go (same m m) (continues-back p n)
  where
    go : (b : Bool) → continues (p ▸ n) p ≡ false → (b && continues (p ▸ n) p) ≡ false
    go true e = e
    go false e = refl

index-append : (l t : List Path) (p : Path) → any (same_path p) l ≡ true → index_in (l ++ t) p ≡ index_in l p
unfolding index_in any
index-append [] t p e = absurd (clash e refl)
index-append (q ∷ l) t p e = go (same_path p q) refl (λ h. index-append l t p h) e
  where
    go : (b : Bool) → same_path p q ≡ b → (any (same_path p) l ≡ true → index_in (l ++ t) p ≡ index_in l p) → any (same_path p) (q ∷ l) ≡ true → index_in (q ∷ (l ++ t)) p ≡ index_in (q ∷ l) p
    go true s ih h = rw (s, index_in)
    go false s ih h = rw (s, index_in) (ap suc (ih (rw (s, any) at h)))

module _ (J : KeyList) (u : rules_kept J ≡ true) (k : Key) (new : listed J (path k) ≡ false) where
  mem-more : (r : Path) → Memᴰ r (paths (J ▷ k)) → Memᴰ r (paths J) ⊎ Memᴰ r (path k ∷ implied k)
  mem-more r m = Memᴰ.append_cases (paths J) (subst (λ (z : List Path). Memᴰ r z) (paths-more J k) m)

  old-more : {r : Path} → Memᴰ r (paths J) → Memᴰ r (paths (J ▷ k))
  old-more {r} m = subst (λ (z : List Path). Memᴰ r z) (sym (paths-more J k)) (Memᴰ.append_left (path k ∷ implied k) m)

  new-more : {r : Path} → Memᴰ r (path k ∷ implied k) → Memᴰ r (paths (J ▷ k))
  new-more {r} m = subst (λ (z : List Path). Memᴰ r z) (sym (paths-more J k)) (Memᴰ.append_right (paths J) m)

  -- nothing of J is the new path or below it
  new-front : above J (path k) ≡ false
  unfolding path
  new-front = closed J u k.context k.name new

  pub not-old : {r : Path} → Memᴰ r (paths J) → r ≡ path k → ⊥
  not-old m e = clash (mem-listed J (path k) (Memᴰ.cast (sym e) m)) new

  key-new : (n : Bytes) → listed J (path k ▸ n) ≡ false
  key-new n = listed_above J (path k) n new-front

  pub key-not-old : {r : Path} (n : Bytes) → Memᴰ r (paths J) → r ≡ path k ▸ n → ⊥
  key-not-old n m e = clash (mem-listed J (path k ▸ n) (Memᴰ.cast (sym e) m)) (key-new n)

  -- ---- places
  pub place-old : (p : Path) → (p ≡ []) ⊎ (listed J p ≡ true) → place_of (J ▷ k) p ≡ place_of J p
  unfolding listed
  place-old p (inl e) = rw e (place-root (J ▷ k) ∙ sym (place-root J))
  place-old p (inr e) =
      place-listed (J ▷ k) p (mem-listed (J ▷ k) p (old-more (listed-mem J p e)))
      ∙ ap (λ (z : List Path). index_in z p) (paths-more J k) ∙ index-append (paths J) (path k ∷ implied k) p e ∙ sym (place-listed J p e)

  pub place-line : place_of (J ▷ k) (path k) ≡ length (paths J)
  place-line =
      place-first (J ▷ k) (path k) (length (paths J)) (omega (arith, paths-count J k)) (at-line J k)
      (λ j h f. not-old (mem-at (paths J) j h) (sym (at_old J k j h) ∙ f))

  -- ---- key names
  pub key-names-old : (p : Path) → Memᴰ p (paths J) → key_names_at (J ▷ k) p ≡ key_names_at J p
  key-names-old p m = names-other J k p (λ e. not-old m (sym e))

  pub key-names-line : key_names_at (J ▷ k) (path k) ≡ k.key_names
  key-names-line = names-new J k (λ j m e. not-old (mem-paths m (Memᴰ.head refl)) e)

  pub key-names-key : (n : Bytes) → key_names_at (J ▷ k) (path k ▸ n) ≡ []
  key-names-key n = names-other J k (path k ▸ n) (λ e. longer (path k) n (sym e)) ∙ front-bare J (path k ▸ n) (beneath J (path k) n new-front)

  -- ---- what is above
  -- what continues a key name's path continues the line's
  into_key : (p r : Path) → Memᴰ r (implied k) → continues p r ≡ true → (p ≡ path k) ⊎ (continues p (path k) ≡ true)
  unfolding implied
  into_key p r m e = let t = Memᴰ.of_map (λ n. path k ++ n ∷ []) k.key_names m in continues-next p (path k) t.0 (ap (continues p) t.2 ∙ e)

  pub above-keyless : k.key_names ≡ [] → above (J ▷ k) (path k) ≡ false
  unfolding implied
  above-keyless z = not-above (J ▷ k) (path k) (any_none (continues (path k)) (paths (J ▷ k)) (λ r m. ⊎_elim (λ o. none_any (continues (path k)) o (above-not J (path k) new-front)) (λ o. here r o) (mem-more r m)))
    where
      here : (r : Path) → Memᴰ r (path k ∷ implied k) → continues (path k) r ≡ false
      here r (Memᴰ.head e) = ap (continues (path k)) e ∙ continues-self (path k)
      here r (Memᴰ.tail o) = absurd (Memᴰ.not-nil (Memᴰ.of_map (λ n. path k ++ n ∷ []) [] (subst (λ (z : List Bytes). Memᴰ r (map (λ n. path k ++ n ∷ []) z)) z o)).1)

  pub above-keyed : (n : Bytes) (ns : List Bytes) → k.key_names ≡ n ∷ ns → above (J ▷ k) (path k) ≡ true
  unfolding implied
  above-keyed n ns z =
      above-by (J ▷ k) (path k) (mem-any (continues (path k)) (new-more {r = path k ▸ n} (Memᴰ.tail (subst (λ (y : List Bytes). Memᴰ (path k ▸ n) (map (λ m. path k ++ m ∷ []) y)) (sym z) (Memᴰ.head refl)))) (continues-one (path k) n))

  pub above-key : (n : Bytes) → above (J ▷ k) (path k ▸ n) ≡ false
  above-key n = not-above (J ▷ k) (path k ▸ n) (any_none (continues (path k ▸ n)) (paths (J ▷ k)) (λ r m. ⊎_elim (λ o. none_any (continues (path k ▸ n)) o (above-not J (path k ▸ n) (beneath J (path k) n new-front))) (here r) (mem-more r m)))
    where
      here : (r : Path) → Memᴰ r (path k ∷ implied k) → continues (path k ▸ n) r ≡ false
      here r (Memᴰ.head e) = ap (continues (path k ▸ n)) e ∙ continues-back (path k) n
      here r (Memᴰ.tail o) = not_so (continues (path k ▸ n) r) (λ f. ⊎_elim (λ e. longer (path k) n e) (λ e. clash e (continues-back (path k) n)) (into_key (path k ▸ n) r o f))

  -- the context is above now; all others are as they were
  pub above-context : above (J ▷ k) k.context ≡ true
  unfolding path
  above-context = above-by (J ▷ k) k.context (mem-any (continues k.context) (new-more (Memᴰ.head refl)) (continues-one k.context k.name))

  pub above-old : Memᴰ k.context (paths J) → (p : Path) → Memᴰ p (paths J) → (p ≡ k.context → ⊥) → above (J ▷ k) p ≡ above J p
  unfolding path
  above-old c p m f = by-test (above J p) (λ e. kept e) (λ e. not-above (J ▷ k) p (any_none (continues p) (paths (J ▷ k)) (λ r o. ⊎_elim (λ i. none_any (continues p) i (above-not J p e)) (λ i. here e r i) (mem-more r o))) ∙ sym e)
    where
      kept : above J p ≡ true → above (J ▷ k) p ≡ above J p
      kept e = let t = any-mem (continues p) (paths J) (above-is J p e) in above-by (J ▷ k) p (mem-any (continues p) (old-more t.1) t.2) ∙ sym e

      line : above J p ≡ false → continues p (path k) ≡ false
      line e = not_so (continues p (path k)) (λ g. ⊎_elim f (λ h. clash h (none_any (continues p) c (above-not J p e))) (continues-next p k.context k.name g))

      here : above J p ≡ false → (r : Path) → Memᴰ r (path k ∷ implied k) → continues p r ≡ false
      here e r (Memᴰ.head q) = ap (continues p) q ∙ line e
      here e r (Memᴰ.tail o) = not_so (continues p r) (λ g. ⊎_elim (λ q. not-old m q) (λ q. clash q (line e)) (into_key p r o g))
