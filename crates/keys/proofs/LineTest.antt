-- Which paths of a table are lines' and which are key names': a key name's path stands right after its line's.
use Prim.Native.Nat.{ℕ, zero, suc, ◌+◌, ◌-◌, ◌<◌, ◌≤◌}
use native.Mathlib.Nat.{le_of_suc-le-suc, not-suc-le-zero}
use native.Mathlib.Omega.{arith}
use mathlib.Core.Path.{◌≡◌, refl, sym, ◌∙◌, ap}
use mathlib.Core.Bool.{true, false}
use mathlib.Core.List.Memᴰ
use mathlib.Core.List.{List, [], ◌∷◌, ◌++◌, map, flat_map, Memᴰ}
use lib.Dec.{ltb, leb}
use lib.ListN.{length, get_or}
use borrow.Author.Tests.{ltb-true, leb-true, lt-ltb, le-leb}
use Rattle.model.specs.Masks.{clash}
use Rattle.xml.specs.Bytes.{Bytes, distinct, same}
use Rattle.xml.specs.BytesLaws.{same_self}
use Rattle.xml.specs.Truth.{not_so, and_left, and_right, both, mem-any}
use Rattle.keys.specs.KeyList.{Path, Key, KeyList, same_path, path, implied, paths, key_names_at}
use Rattle.keys.specs.Version.{◌▸◌}
use Rattle.keys.specs.KeyListLaws.{same_path-is, same_path-self, rules, paths-mem, mem-paths, no-line-here, once-head, once-right}
use Rattle.keys.specs.Table.{place_of, Table, parent_in, keys_in}
use Rattle.keys.specs.Loading.{implied_in}
use Rattle.keys.specs.PlaceLaws.{mem-listed, mem-at, place_at, place-below}
use Rattle.keys.specs.TableLaws.{table-rules, table-keys, table-key-path, table-key-place, last-is}

-- a line's key names are its path's
names_of : (J : KeyList) → distinct same_path (paths J) ≡ true → {k : Key} → Memᴰ k J → key_names_at J (path k) ≡ k.key_names
unfolding key_names_at paths flat_map
names_of [] u m = absurd (Memᴰ.not-nil m)
names_of (j ∷ J) u {k} (Memᴰ.head e) = rw (e, same_path-self (path j), key_names_at)
names_of (j ∷ J) u {k} (Memᴰ.tail m) =
    rw (not_so (same_path (path j) (path k)) (λ e. once-head (path j) _ u (Memᴰ.append_right (implied j) (Memᴰ.cast (same_path-is (path j) (path k) e) (mem-paths m (Memᴰ.head refl))))), key_names_at)
    (names_of J (once-right (path j ∷ implied j) (paths J) u) m)

at_name : {n : Bytes} {ns : List Bytes} → Memᴰ n ns → (j : ℕ) × (j < length ns) × (get_or ns j [] ≡ n)
at_name (Memᴰ.head e) = (0, omega arith, sym e)
at_name (Memᴰ.tail m) = let t = at_name m in (suc t.0, omega (arith, t.1), t.2)

name-mem : (ns : List Bytes) (j : ℕ) → j < length ns → Memᴰ (get_or ns j []) ns
name-mem [] j h = absurd (not-suc-le-zero h)
name-mem (n ∷ ns) zero h = Memᴰ.head refl
name-mem (n ∷ ns) (suc j) h = Memᴰ.tail (name-mem ns j (le_of_suc-le-suc h))

module _ {text : Bytes} {cells : List ℕ} {n : ℕ} {J : KeyList} (t : Table text cells n J) (p : Path) (i : ℕ) (e : place_of J p ≡ i) where
  -- a line's path
  pub line-place : Memᴰ p (map path J) → (i < n) × (implied_in cells i ≡ false)
  line-place m = (below, not_so (implied_in cells i) (λ b. bad (ltb-true (parent_in cells i) i (and_left _ (leb i (parent_in cells i + keys_in cells (parent_in cells i))) b)) (leb-true i (parent_in cells i + keys_in cells (parent_in cells i)) (and_right (ltb (parent_in cells i) i) _ b))))
    where
      s : (k : Key) × Memᴰ k J × (path k ≡ p)
      s = Memᴰ.of_map path J m

      below : i < n
      below = omega (arith, place-below J (table-rules t) p (mem-listed J p (Memᴰ.cast (sym s.2) (mem-paths s.1 (Memᴰ.head refl)))), t.counted, e)

      q : ℕ
      q = parent_in cells i

      bad : q < i → i ≤ q + keys_in cells q → ⊥
      bad a b =
          let c = t.entry i below in
          let w : place_of J c.parent ≡ q = sym c.parent_is in
          let l = table-keys t c.parent q w (omega (arith, a, below)) in
          let j : i - q - 1 < length (key_names_at J c.parent) = omega (arith, a, b, l) in
          let x = table-key-path t c.parent q w (omega (arith, a, below)) (i - q - 1) j in
          let z : q + 1 + (i - q - 1) ≡ i = omega (arith, a) in
          let y : p ≡ c.parent ▸ get_or (key_names_at J c.parent) (i - q - 1) [] =
          sym (place_at J (table-rules t) p (omega (arith, e, below, t.few))).1 ∙ ap (λ (h : ℕ). get_or (paths J) h []) (e ∙ sym z) ∙ x.1
          in
          no-line-here J c.parent (get_or (key_names_at J c.parent) (i - q - 1) []) (table-rules t)
          (mem-any (same (get_or (key_names_at J c.parent) (i - q - 1) [])) (name-mem (key_names_at J c.parent) (i - q - 1) j) (same_self (get_or (key_names_at J c.parent) (i - q - 1) [])))
          s.0 s.1 (sym y ∙ sym s.2)

  -- and what is none is one of the key names'
  pub place-line-is : i < n → implied_in cells i ≡ false → Memᴰ p (map path J)
  unfolding implied
  place-line-is h b = let s = paths-mem J p (Memᴰ.cast (sym is.1) (mem-at (paths J) (place_of J p) is.0)) in go s.0 s.1 s.2
    where
      is : (place_of J p < length (paths J)) × (get_or (paths J) (place_of J p) [] ≡ p)
      is = place_at J (table-rules t) p (omega (arith, e, h, t.few))

      key : (k : Key) → Memᴰ k J → (j : ℕ) → j < length k.key_names → path k ▸ get_or k.key_names j [] ≡ p → ⊥
      key k m j l y =
          let u = names_of J (rules J (table-rules t)).once m in
          let c = t.entry i h in
          let below = place-below J (table-rules t) (path k) (mem-listed J (path k) (mem-paths m (Memᴰ.head refl))) in
          let x = table-key-place t (path k) (place_of J (path k)) refl (omega (arith, below, t.counted)) j (rw u l) in
          let z : place_of J p ≡ place_of J (path k) + 1 + j = ap (place_of J) (sym y) ∙ ap (λ (ns : List Bytes). place_of J (path k ▸ get_or ns j [])) (sym u) ∙ x in
          let w = last-is c.parent (path k) c.name (get_or k.key_names j []) (sym c.path-is ∙ ap (λ (h : ℕ). get_or (paths J) h []) (sym e) ∙ is.1 ∙ sym y) in
          let v : parent_in cells i ≡ place_of J (path k) = c.parent_is ∙ ap (place_of J) w.0 in
          let g = table-keys t (path k) (place_of J (path k)) refl (omega (arith, below, t.counted)) in
          let f : keys_in cells (parent_in cells i) ≡ length k.key_names = ap (keys_in cells) v ∙ g ∙ ap length u in
          clash (both (lt-ltb (parent_in cells i) i (omega (arith, v, z, e))) (le-leb i (parent_in cells i + keys_in cells (parent_in cells i)) (omega (arith, v, z, e, f, l)))) b

      go : (k : Key) → Memᴰ k J → Memᴰ p (path k ∷ implied k) → Memᴰ p (map path J)
      go k m (Memᴰ.head q) = Memᴰ.cast q (Memᴰ.map path m)
      go k m (Memᴰ.tail o) =
          let s = Memᴰ.of_map (λ n. path k ++ n ∷ []) k.key_names o in
          let a = at_name s.1 in
          absurd (key k m a.0 a.1 (ap (λ (z : Bytes). path k ▸ z) a.2 ∙ s.2))
