-- A key list that is accepted holds names alone: those of its paths and its key names, of which a path has four at most.
use Rattle.std.specs.Prelude.{◌≤◌, ◌≡◌, refl, Bool, not, ◌&&◌, eqb, leb, length}
use Rattle.std.proofs.Common.{arith, sym, subst, leb-true}
use Rattle.std.proofs.Math.Bool.{true}
use mathlib.Core.List.Memᴰ
use mathlib.Core.List.{List, [], ◌∷◌, ◌++◌, Memᴰ}
use Rattle.std.proofs.lemmas.Bool.{not-false}
use Prim.Native.Char.{code}
use Rattle.xml.specs.Bytes.{Bytes, all, same, distinct, split, is_name}
use Rattle.xml.specs.Truth.{by-test, and_left, and_right, all-mem}
use Rattle.keys.specs.Result.{ok, r3, r4}
use Rattle.keys.specs.ResultLaws.{bind_inv, passed, ok-inj}
use Rattle.keys.specs.KeyList.{Path, Key, KeyList, write_key, words, key_of, in_notation, contexts_in_notation, lines_of, keys_of, same_path, path, implied, rules_kept, key_list, listed, key_names_at}
use Rattle.keys.specs.Version.{◌▸◌}
use Rattle.keys.specs.KeyListLaws.{paths-mem, rules, rules-kept}
use Rattle.keys.specs.PlaceLaws.{listed-mem}
use Rattle.keys.specs.TableLaws.{last-is}

-- what the notation says of a line's names
record Notated (k : Key) : Type 0 where
  names : all is_name (k.context ++ k.name ∷ k.key_names) ≡ true
  few : length k.key_names ≤ 4

notated : (line : Bytes) (k : Key) → in_notation line k ≡ true → Notated k
unfolding in_notation
notated line k e =
    let a = and_left _ (distinct same k.key_names) e in
    record {
      names = and_right (same line (write_key k)) _ (and_left _ (leb (length k.key_names) 4) a);
      few = leb-true _ 4 (and_right (same line (write_key k) && all is_name (k.context ++ k.name ∷ k.key_names)) _ a);
    }

keys-notated : (ls : List Bytes) (K : KeyList) → keys_of ls ≡ ok K → {k : Key} → Memᴰ k K → Notated k
unfolding keys_of
keys-notated [] K e {k} m = absurd (Memᴰ.not-nil (subst (λ (z : KeyList). Memᴰ k z) (sym (ok-inj e)) m))
keys-notated (l ∷ ls) K e {k} m =
    let a = passed r3 (not (in_notation l (key_of (words l)))) _ K e in
    let b = bind_inv (keys_of ls) _ K a.1 in
    go b.0 (notated l (key_of (words l)) (not-false _ a.0)) (λ n. keys-notated ls b.0 b.1 n) (subst (λ (z : KeyList). Memᴰ k z) (sym (ok-inj b.2)) m)
  where
    go : (J : KeyList) → Notated (key_of (words l)) → (Memᴰ k J → Notated k) → Memᴰ k (key_of (words l) ∷ J) → Notated k
    go J h ih (Memᴰ.head p) = subst Notated (sym p) h
    go J h ih (Memᴰ.tail n) = ih n

module _ (text : Bytes) (K : KeyList) (e : key_list text ≡ ok K) where
  line-notated : {k : Key} → Memᴰ k K → Notated k
  unfolding key_list
  line-notated {k} m =
      let ls = bind_inv (lines_of (split (eqb (code "\n")) text)) _ K e in
      let ks = bind_inv (keys_of ls.0) _ K ls.2 in
      let x3 = passed r3 (not (contexts_in_notation ks.0)) _ K ks.2 in
      let x4 = passed r4 (not (rules_kept ks.0)) _ K x3.1 in
      keys-notated ls.0 ks.0 ks.1 (subst (λ (z : KeyList). Memᴰ k z) (sym (ok-inj x4.1)) m)

  -- a step of a listed path is a name
  pub listed-name : (p : Path) (n : Bytes) → listed K (p ▸ n) ≡ true → is_name n ≡ true
  unfolding path implied
  listed-name p n h = let t = paths-mem K (p ▸ n) (listed-mem K (p ▸ n) h) in go t.0 (line-notated t.1) t.2
    where
      go : (k : Key) → Notated k → Memᴰ (p ▸ n) (path k ∷ implied k) → is_name n ≡ true
      go k w (Memᴰ.head q) =
          all-mem is_name (Memᴰ.append_right k.context (Memᴰ.head (last-is p k.context n k.name q).1)) w.names
      go k w (Memᴰ.tail o) =
          let t = Memᴰ.of_map (λ x. path k ++ x ∷ []) k.key_names o in
          let q = (last-is (path k) p t.0 n t.2).1 in
          all-mem is_name (Memᴰ.append_right k.context (Memᴰ.tail (Memᴰ.cast (sym q) t.1))) w.names

  -- at most eight names
  pub listed-short : (p : Path) → listed K p ≡ true → length p ≤ 8
  listed-short p h = leb-true (length p) 8 (all-mem (λ p. leb (length p) 8) (listed-mem K p h) (rules K (rules-kept text K e)).short)

pub all_right : (P : Bytes → Bool) (a b : List Bytes) → all P (a ++ b) ≡ true → all P b ≡ true
unfolding all
all_right P [] b h = h
all_right P (x ∷ a) b h = all_right P a b (and_right (P x) _ h)

at_names : (K : KeyList) (p : Path) → ((k : Key) → Memᴰ k K → Notated k) → (all is_name (key_names_at K p) ≡ true) × (length (key_names_at K p) ≤ 4)
unfolding key_names_at all
at_names [] p h = (refl, omega arith)
at_names (k ∷ K) p h =
    by-test (same_path (path k) p)
    (λ s. rw (s, key_names_at) (let w = h k (Memᴰ.head {x = k} {xs = K} refl) in (and_right (is_name k.name) _ (all_right is_name k.context (k.name ∷ k.key_names) w.names), w.few)))
    (λ s. rw (s, key_names_at) (at_names K p (λ j m. h j (Memᴰ.tail m))))

-- the key names of a path are names, and four at most
pub key-names : (text : Bytes) (K : KeyList) → key_list text ≡ ok K → (p : Path) → all is_name (key_names_at K p) ≡ true
key-names text K e p = (at_names K p (λ k m. line-notated text K e m)).0

pub few-keys : (text : Bytes) (K : KeyList) → key_list text ≡ ok K → (p : Path) → length (key_names_at K p) ≤ 4
few-keys text K e p = (at_names K p (λ k m. line-notated text K e m)).1
