-- The root: a key list has just one path of one name, the first line's, and it has no key names.
use Rattle.std.specs.Prelude.{ℕ, ◌≡◌, refl, true, not, eqb, length}
use Rattle.std.proofs.Common.{arith, sym, ◌∙◌, ap, eqb-true}
use mathlib.Core.List.Memᴰ
use mathlib.Core.List.{List, [], ◌∷◌, ◌++◌, Memᴰ}
use Rattle.std.proofs.lemmas.Bool.{not-true}
use Rattle.model.specs.Masks.{clash}
use Rattle.xml.specs.Bytes.{Bytes}
use Rattle.keys.specs.KeyList.{Path, Key, KeyList, same_path, path, implied, paths, first_bare, rules_kept, is_root_context, contexts_in_notation, listed, key_names_at}
use Rattle.keys.specs.Version.{◌▸◌}
use Rattle.xml.specs.Truth.{and_left, and_right, any-mem, all-mem}
use Rattle.keys.specs.KeyListLaws.{same_path-is, same_path-self, paths-mem, rules}

-- a path of one name has nothing above it
one_name : (c : Path) (x m : Bytes) → m ∷ [] ≡ c ▸ x → (c ≡ []) × (m ≡ x)
one_name [] x m e = (refl, cc)
one_name (y ∷ []) x m e = let z : ◌≡◌ {A = ℕ} 0 1 = cc in absurd (omega arith)
one_name (y ∷ w ∷ c) x m e = let z : ◌≡◌ {A = ℕ} 0 1 = cc in absurd (omega arith)

pub not-empty : (c : Path) (x : Bytes) → c ▸ x ≡ [] → ⊥
not-empty [] x e = let z : ◌≡◌ {A = ℕ} 0 1 = cc in omega arith
not-empty (y ∷ c) x e = let z : ◌≡◌ {A = ℕ} 0 1 = cc in omega arith

-- only the first line's path is one
line-root : (k : Key) (ks : KeyList) → contexts_in_notation (k ∷ ks) ≡ true → (j : Key) → Memᴰ j (k ∷ ks) → j.context ≡ [] → j ≡ k
unfolding contexts_in_notation is_root_context
line-root k ks c j (Memᴰ.head e) p = e
line-root k ks c j (Memᴰ.tail m) p =
    let f = all-mem (λ j. not (is_root_context j.context)) m (and_right (is_root_context k.context) _ c) in
    absurd (clash (ap is_root_context p) (not-true (is_root_context j.context) f))

first-context : (k : Key) (ks : KeyList) → contexts_in_notation (k ∷ ks) ≡ true → k.context ≡ []
unfolding contexts_in_notation is_root_context
first-context k ks c = go k.context (and_left (is_root_context k.context) _ c)
  where
    go : (p : Path) → is_root_context p ≡ true → p ≡ []
    go [] e = refl
    go (n ∷ p) e = absurd (clash e refl)

first-name : (k : Key) (ks : KeyList) (m : Bytes) → contexts_in_notation (k ∷ ks) ≡ true → listed (k ∷ ks) (m ∷ []) ≡ true → m ≡ k.name
unfolding listed path implied
first-name k ks m c e = go q.2
  where
    q : (j : Key) × Memᴰ j (k ∷ ks) × Memᴰ (m ∷ []) (path j ∷ implied j)
    q = let t = any-mem (same_path (m ∷ [])) (paths (k ∷ ks)) e in paths-mem (k ∷ ks) (m ∷ []) (Memᴰ.cast (same_path-is (m ∷ []) t.0 t.2) t.1)

    go : Memᴰ (m ∷ []) (path q.0 ∷ implied q.0) → m ≡ k.name
    go (Memᴰ.head p) = let r = one_name q.0.context q.0.name m p in r.1 ∙ ap (λ j. j.name) (line-root k ks c q.0 q.1 r.0)
    go (Memᴰ.tail o) =
        let t = Memᴰ.of_map (λ n. path q.0 ++ n ∷ []) q.0.key_names o in
        absurd (not-empty q.0.context q.0.name (one_name (path q.0) t.0 m (sym t.2)).0)

-- so all roots that a key list allows have one name
pub root-label : (K : KeyList) (m n : Bytes) → contexts_in_notation K ≡ true → listed K (m ∷ []) ≡ true → listed K (n ∷ []) ≡ true → m ≡ n
unfolding contexts_in_notation
root-label [] m n c e f = absurd (clash c refl)
root-label (k ∷ ks) m n c e f = first-name k ks m c e ∙ sym (first-name k ks n c f)

pub root-bare : (K : KeyList) (m : Bytes) → rules_kept K ≡ true → contexts_in_notation K ≡ true → listed K (m ∷ []) ≡ true → key_names_at K (m ∷ []) ≡ []
unfolding contexts_in_notation first_bare key_names_at path
root-bare [] m u c e = absurd (clash c refl)
root-bare (k ∷ ks) m u c e = rw (first-name k ks m c e, first-context k ks c, same_path-self (k.name ∷ []), key_names_at) (go k.key_names (rules (k ∷ ks) u).first)
  where
    go : (ns : List Bytes) → eqb (length ns) 0 ≡ true → ns ≡ []
    go [] e = refl
    go (n ∷ ns) e = absurd (omega (arith, eqb-true (length (n ∷ ns)) 0 e))
