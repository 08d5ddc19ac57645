-- A table with one more line: each entry is what it was, the context is above now, and the line's own entries come after.
use Prim.Native.Nat.{ℕ, ◌+◌, ◌*◌, ◌-◌, ◌/◌, ◌%◌, ◌<◌, ◌≤◌}
use native.Mathlib.Omega.{arith}
use mathlib.Core.Path.{◌≡◌, refl, sym, ◌∙◌, ap, ap₂, subst}
use mathlib.Core.Bool.{Bool, true, false, not}
use mathlib.Core.Logic.{inl, inr}
use mathlib.Core.List.Memᴰ
use mathlib.Core.List.{List, [], ◌∷◌, Memᴰ}
use lib.Dec.{eqb, ltb}
use lib.ListN.{length, get_or, take, drop}
use lib.Seq.{slice, take-take, length-take-le}
use borrow.Author.Tests.{eqb-true, eqb-false, ne_eqb, ltb-true, ltb-false}
use Rattle.model.specs.Masks.{clash}
use Rattle.xml.specs.Bytes.{Bytes}
use Rattle.xml.specs.Truth.{by-test}
use Rattle.keys.specs.Result.{ok}
use Rattle.keys.specs.KeyList.{Path, Key, KeyList, path, paths, rules_kept, key_list, listed, above, key_names_at}
use Rattle.keys.specs.Version.{◌▸◌}
use Rattle.keys.specs.KeyListLaws.{listed_above}
use Rattle.keys.specs.Notation.{Noted}
use Rattle.keys.specs.Table.{place_of, Table, Entry, name_start, name_end, parent_in, keys_in, inner_in, bit_of}
use Rattle.keys.specs.PlaceLaws.{mem-at, mem-listed, place-below, ends, place_at, closed}
use Rattle.keys.specs.TableLaws.{table-rules, table-key-path, table-place}
use Rattle.keys.proofs.OneMore.{◌▷◌, paths-count, at_old, at-line, at_key}
use Rattle.keys.proofs.OneMoreLaws.{place-old, place-line, key-names-old, key-names-line, key-names-key, above-keyless, above-keyed, above-key, above-context, above-old}
use Rattle.keys.proofs.Growing.{Fits}
use Rattle.keys.proofs.Grown.{context-mem}
use Rattle.keys.specs.Added.{Added}

-- a part that ends before the end of the text taken
pub slice-take : (s e at : ℕ) (text : Bytes) → e ≤ at → slice s e (take at text) ≡ slice s e text
slice-take s e at text h = ap (drop s) (take-take e at text h)

-- the lowest bit set changes nothing above it
half-kept : (x y : ℕ) → y ≡ x + (1 - x % 2) → y / 2 ≡ x / 2
half-kept x y e = omega arith

bit_kept : (x y : ℕ) → y ≡ x + (1 - x % 2) → (y / 16 ≡ x / 16) × (y / 2 % 8 ≡ x / 2 % 8)
bit_kept x y e = let h = half-kept x y e in (omega arith, ap (λ (z : ℕ). z % 8) h)

module _ {text : Bytes} {at : ℕ} {cells cells' : List ℕ} {n : ℕ} {J : KeyList} (t : Table (take at text) cells n J) (k : Key) (d : Noted k) (f : Fits J k)
    {at' c a b e : ℕ} (place : place_of J k.context ≡ c) (more : at ≤ at') (within : at' ≤ length text)
    (name : slice a b text ≡ k.name) (a-b : a ≤ b) (b_at : b ≤ at') (e-at : e ≤ at') (small : b - a < 64)
    (ad : Added text cells cells' n c a b e k.key_names) where
  u : rules_kept J ≡ true
  u = table-rules t

  new : listed J (path k) ≡ false
  new = f.new

  size : n ≡ length (paths J)
  size = t.counted

  long : length (take at' text) ≡ at'
  long = length-take-le at' text within

  c-below : c < n
  c-below = omega (arith, place-below J u k.context (mem-listed J k.context (context-mem J u k d f)), place, size)

  few-keys : length k.key_names ≤ 4
  few-keys = d.few-keys

  -- ---- the entries that were there
  tail-old : (i : ℕ) → i < n → (get_or cells' (2 * i + 1) 0 / 16 ≡ get_or cells (2 * i + 1) 0 / 16) × (get_or cells' (2 * i + 1) 0 / 2 % 8 ≡ get_or cells (2 * i + 1) 0 / 2 % 8)
  tail-old i h = by-test (eqb i c)
      (λ z. let y = ap (λ (x : ℕ). get_or cells' (2 * x + 1) 0) (eqb-true i c z) in let w = ap (λ (x : ℕ). get_or cells (2 * x + 1) 0) (eqb-true i c z) in
      bit_kept (get_or cells (2 * i + 1) 0) (get_or cells' (2 * i + 1) 0) (y ∙ ad.context ∙ ap (λ (x : ℕ). x + (1 - x % 2)) (sym w)))
      (λ z. let y = ad.tails i h (eqb-false i c z) in (ap (λ (x : ℕ). x / 16) y, ap (λ (x : ℕ). x / 2 % 8) y))

  module _ (i : ℕ) (h : i < n) where
    abbrev o : Entry (take at text) cells J i
    o = t.entry i h

    abbrev p : Path
    p = o.parent ▸ o.name

    p-mem : Memᴰ p (paths J)
    p-mem = Memᴰ.cast (sym o.path-is) (mem-at (paths J) i (omega (arith, size)))

    inner-old : inner_in cells' i ≡ bit_of (above (J ▷ k) p)
    inner-old = by-test (eqb i c) (λ z. itself (eqb-true i c z)) (λ z. other (eqb-false i c z))
      where
        itself : i ≡ c → inner_in cells' i ≡ bit_of (above (J ▷ k) p)
        itself z =
            let y : p ≡ k.context = sym o.path-is ∙ ap (λ (x : ℕ). get_or (paths J) x []) (z ∙ sym place) ∙ (place_at J u k.context (omega (arith, c-below, t.few, place))).1 in
            let w = ap (λ (x : ℕ). get_or cells' (2 * x + 1) 0) z in
            let v : inner_in cells' i ≡ 1 = omega (arith, ad.context, w) in
            v ∙ sym (ap bit_of (ap (above (J ▷ k)) y ∙ above-context J u k new))

        other : (i ≡ c → ⊥) → inner_in cells' i ≡ bit_of (above (J ▷ k) p)
        other z = ap (λ (x : ℕ). x % 2) (ad.tails i h z) ∙ o.inner-is ∙ ap bit_of (sym (above-old J u k new (context-mem J u k d f) p p-mem (λ y. z (sym (table-place t p i h o.path-is) ∙ ap (place_of J) y ∙ place))))

    parent-kept : place_of (J ▷ k) o.parent ≡ place_of J o.parent
    parent-kept = place-old J u k new o.parent (ends o.parent inl (λ q m z. inr (by-test (listed J o.parent) (λ y. y) (λ y. absurd (unlisted q m z y)))))
      where
        unlisted : (q : Path) (m : Bytes) → o.parent ≡ q ▸ m → listed J o.parent ≡ false → ⊥
        unlisted q m z y = clash (mem-listed J p p-mem) (listed_above J o.parent o.name (ap (above J) z ∙ closed J u q m (ap (listed J) (sym z) ∙ y)))

    entry_old : Entry (take at' text) cells' (J ▷ k) i
    entry_old =
        let z = ap (λ (x : ℕ). x / 64) (ad.heads i h) in
        let y = ap (λ (x : ℕ). x / 64 + x % 64) (ad.heads i h) in
        let w : name_end cells' i ≤ at = omega (arith, o.within, y, short-take) in
        record {
          parent = o.parent;
          name = o.name;
          path-is = at_old J k i (omega (arith, size)) ∙ o.path-is;
          within = omega (arith, w, long);
          name-is = slice-take (name_start cells' i) (name_end cells' i) at' text (omega (arith, w)) ∙ sym (slice-take (name_start cells' i) (name_end cells' i) at text w)
              ∙ ap₂ (λ (s r : ℕ). slice s r (take at text)) z y ∙ o.name-is;
          parent_is = (tail-old i h).0 ∙ o.parent_is ∙ sym parent-kept;
          keys-are = (tail-old i h).1 ∙ o.keys-are ∙ ap length (sym names-kept);
          key-paths = λ j l. keyed j (subst (λ (ns : List Bytes). j < length ns) names-kept l);
          inner-is = inner-old;
        }
      where
        short-take : length (take at text) ≤ at
        short-take = omega (arith, length-take-le at text (omega (arith, more, within)))

        names-kept : key_names_at (J ▷ k) p ≡ key_names_at J p
        names-kept = key-names-old J u k new p p-mem

        keyed : (j : ℕ) → j < length (key_names_at J p) → get_or (paths (J ▷ k)) (i + 1 + j) [] ≡ p ▸ get_or (key_names_at (J ▷ k) p) j []
        keyed j l =
            let x = table-key-path t p i (table-place t p i h o.path-is) h j l in
            at_old J k (i + 1 + j) (omega (arith, x.0, size)) ∙ x.1 ∙ ap (λ (ns : List Bytes). p ▸ get_or ns j []) (sym names-kept)

  -- ---- the line's
  entry-line : Entry (take at' text) cells' (J ▷ k) n
  unfolding path
  entry-line =
      let s : name_start cells' n ≡ a = omega (arith, ad.head) in
      let r : name_end cells' n ≡ b = omega (arith, ad.head) in
      record {
        parent = k.context;
        name = k.name;
        path-is = ap (λ (x : ℕ). get_or (paths (J ▷ k)) x []) size ∙ at-line J k;
        within = omega (arith, r, long);
        name-is = ap₂ (λ (x y : ℕ). slice x y (take at' text)) s r ∙ slice-take a b at' text b_at ∙ name;
        parent_is = parent-c ∙ sym (place-old J u k new k.context (inr (mem-listed J k.context (context-mem J u k d f))) ∙ place);
        keys-are = keys-c ∙ ap length (sym (key-names-line J u k new));
        key-paths = λ j l. ap (λ (x : ℕ). get_or (paths (J ▷ k)) (x + 1 + j) []) size ∙ at_key J k j (subst (λ (ns : List Bytes). j < length ns) (key-names-line J u k new) l)
            ∙ ap (λ (ns : List Bytes). path k ▸ get_or ns j []) (sym (key-names-line J u k new));
        inner-is = inner-line k.key_names refl;
      }
    where
      bit-small : (x : Bool) → bit_of x ≤ 1
      bit-small true = omega arith
      bit-small false = omega arith

      parent-c : parent_in cells' n ≡ c
      parent-c = omega (arith, ad.tail, few-keys, bit-small (not (eqb (length k.key_names) 0)))

      keys-c : keys_in cells' n ≡ length k.key_names
      keys-c = omega (arith, ad.tail, few-keys, bit-small (not (eqb (length k.key_names) 0)))

      bit-c : inner_in cells' n ≡ bit_of (not (eqb (length k.key_names) 0))
      bit-c = omega (arith, ad.tail, few-keys, bit-small (not (eqb (length k.key_names) 0)))

      inner-line : (ns : List Bytes) → k.key_names ≡ ns → inner_in cells' n ≡ bit_of (above (J ▷ k) (path k))
      inner-line [] z = bit-c ∙ ap (λ (ns : List Bytes). bit_of (not (eqb (length ns) 0))) z ∙ sym (ap bit_of (above-keyless J u k new z))
      inner-line (m ∷ ns) z = bit-c ∙ ap (λ (ns : List Bytes). bit_of (not (eqb (length ns) 0))) z ∙ ap (λ (x : Bool). bit_of (not x)) (ne_eqb (length (m ∷ ns)) 0 (λ g. omega arith)) ∙ sym (ap bit_of (above-keyed J u k new m ns z))

  -- ---- its key names'
  entry_key : (j : ℕ) → j < length k.key_names → Entry (take at' text) cells' (J ▷ k) (n + 1 + j)
  entry_key j l =
      let m = get_or k.key_names j [] in
      let q = ad.keys j l in
      record {
        parent = path k;
        name = m;
        path-is = ap (λ (x : ℕ). get_or (paths (J ▷ k)) (x + 1 + j) []) size ∙ at_key J k j l;
        within = omega (arith, q.within, long);
        name-is = slice-take (name_start cells' (n + 1 + j)) (name_end cells' (n + 1 + j)) at' text (omega (arith, q.within)) ∙ q.name-is;
        parent_is = let z : parent_in cells' (n + 1 + j) ≡ n = omega (arith, q.tail) in z ∙ size ∙ sym (place-line J u k new);
        keys-are = let z : keys_in cells' (n + 1 + j) ≡ 0 = omega (arith, q.tail) in z ∙ ap length (sym (key-names-key J u k new m));
        key-paths = λ i h. absurd (omega (arith, h, ap length (key-names-key J u k new m)));
        inner-is = let z : inner_in cells' (n + 1 + j) ≡ 0 = omega (arith, q.tail) in z ∙ sym (ap bit_of (above-key J u k new m));
      }

  pub table-grown : key_list (take at' text) ≡ ok (J ▷ k) → 2 * (n + 1 + length k.key_names) ≤ length cells → length text ≤ 4096 → Table (take at' text) cells' (n + 1 + length k.key_names) (J ▷ k)
  table-grown g room l =
      record {
        accepted = g;
        counted = omega (arith, paths-count J k, size);
        few = omega (arith, f.few, size);
        held = omega (arith, ad.size);
        short = omega (arith, long);
        entry = λ i h. by-test (ltb i n) (λ z. entry_old i (ltb-true i n z)) (λ z. later i h (ltb-false i n z));
      }
    where
      later : (i : ℕ) → i < n + 1 + length k.key_names → n ≤ i → Entry (take at' text) cells' (J ▷ k) i
      later i h z = by-test (eqb n i) (λ y. subst (λ (x : ℕ). Entry (take at' text) cells' (J ▷ k) x) (eqb-true n i y) entry-line)
          (λ y. let w : n + 1 + (i - n - 1) ≡ i = omega (arith, z, eqb-false n i y) in
          subst (λ (x : ℕ). Entry (take at' text) cells' (J ▷ k) x) w (entry_key (i - n - 1) (omega (arith, z, h, eqb-false n i y))))
