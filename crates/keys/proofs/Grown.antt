-- A line that fits is what the rules ask; a list that keeps them has no other.
use Prim.Native.Nat.{◌+◌, ◌<◌, ◌≤◌}
use native.Mathlib.Omega.{arith}
use mathlib.Core.Path.{◌≡◌, refl, sym, ◌∙◌, ap, subst}
use mathlib.Core.Bool.{Bool, true, false, not}
use mathlib.Core.Logic.{⊎_elim}
use mathlib.Core.List.Memᴰ
use mathlib.Core.List.{List, [], ◌∷◌, ◌++◌, map, Memᴰ}
use lib.Dec.{leb}
use lib.ListN.{length, length-append}
use borrow.Author.Tests.{leb-true, le-leb, not-true}
use Rattle.model.specs.Masks.{clash}
use Rattle.xml.specs.Bytes.{Bytes, bytes, any, all, distinct, same}
use Rattle.xml.specs.BytesLaws.{same-is, same_self}
use Rattle.xml.specs.Truth.{not_so, and_left, and_right, both, any-mem, mem-any, any_none, none_any, all-mem}
use Rattle.keys.specs.KeyList.{Path, Key, KeyList, same_path, path, implied, paths, contexts_known, first_bare, rules_kept, is_root_context, listed}
use Rattle.keys.specs.Version.{◌▸◌}
use Rattle.keys.specs.KeyListLaws.{same_path-is, same_path-self, Rules, rules, mem-paths, once-apart}
use Rattle.keys.specs.Notation.{Noted}
use Rattle.keys.specs.PlaceLaws.{listed-mem}
use Rattle.keys.specs.TableLaws.{last-is}
use Rattle.keys.proofs.OneMore.{◌▷◌, paths-append, paths-more, paths-count}
use Rattle.keys.proofs.OneMoreLaws.{key-not-old, not-old, longer}
use Rattle.keys.proofs.Growing.{Fits, all-by, distinct_append, known-append, before, before-line, line_before, free-by}

rules-by : (K : KeyList) → Rules K → rules_kept K ≡ true
unfolding rules_kept
rules-by K r = both (both (both (both (both (both (both r.first r.known) r.once) r.free) r.no-T) r.lines) r.few) r.short

-- no name of a path is T
abbrev pub plain : Path → Bool
plain p = all (λ n. not (same n (bytes "T"))) p

plain_more : (p : Path) (n : Bytes) → plain p ≡ true → same n (bytes "T") ≡ false → plain (p ▸ n) ≡ true
plain_more p n a e = all-by (λ m. not (same m (bytes "T"))) (p ▸ n) (λ m o. ⊎_elim (λ i. all-mem (λ m. not (same m (bytes "T"))) i a) (λ i. ap (λ z. not (same z (bytes "T"))) (Memᴰ.eq_of_singleton i) ∙ ap not e) (Memᴰ.append_cases p o))

pub plain-last : (p : Path) (n : Bytes) → plain (p ▸ n) ≡ true → same n (bytes "T") ≡ false
plain-last p n a = not-true (same n (bytes "T")) (all-mem (λ m. not (same m (bytes "T"))) (Memᴰ.append_right p (Memᴰ.head {x = n} {xs = []} refl)) a)

longer-by : (p : Path) (n : Bytes) → length (p ▸ n) ≡ length p + 1
longer-by p n = length-append p (n ∷ [])

-- the key names' paths are as distinct as the key names
distinct-implied : (p : Path) (ns : List Bytes) → distinct same ns ≡ true → distinct same_path (map (λ n. p ++ n ∷ []) ns) ≡ true
unfolding distinct
distinct-implied p [] u = refl
distinct-implied p (n ∷ ns) u =
    both (ap not (any_none (same_path (p ▸ n)) (map (λ n. p ++ n ∷ []) ns) apart)) (distinct-implied p ns (and_right (not (any (same n) ns)) _ u))
  where
    apart : (q : Path) → Memᴰ q (map (λ n. p ++ n ∷ []) ns) → same_path (p ▸ n) q ≡ false
    apart q m = not_so (same_path (p ▸ n) q) (λ e.
        let t = Memᴰ.of_map (λ n. p ++ n ∷ []) ns m in
        let x = last-is p p n t.0 (same_path-is (p ▸ n) q e ∙ sym t.2) in
        clash (mem-any (same n) t.1 (rw (← x.1) (same_self n))) (not-true (any (same n) ns) (and_left (not (any (same n) ns)) _ u)))

first_more : (J : KeyList) (k : Key) → first_bare J ≡ true → first_bare (J ▷ k) ≡ true
unfolding first_bare
first_more [] k e = absurd (clash e refl)
first_more (j ∷ J) k e = e

some_in : {n : Bytes} {ns : List Bytes} → Memᴰ n ns → 0 < length ns
some_in (Memᴰ.head e) = omega arith
some_in (Memᴰ.tail m) = omega arith

-- ---- with a line that fits
module _ (J : KeyList) (u : rules_kept J ≡ true) (k : Key) (d : Noted k) (f : Fits J k) where
  r : Rules J
  r = rules J u

  -- a line's path is listed
  pub context-mem : Memᴰ k.context (paths J)
  context-mem = let t = Memᴰ.of_map path J f.line in Memᴰ.cast (sym t.2) (mem-paths t.1 (Memᴰ.head refl))

  known : contexts_known ([] ∷ []) (J ▷ k) ≡ true
  unfolding contexts_known
  known = known-append J (k ∷ []) ([] ∷ []) ∙ both r.known (both (mem-any (same_path k.context) (before-line J ([] ∷ []) f.line) (same_path-self k.context)) refl)

  fresh : distinct same_path (path k ∷ implied k) ≡ true
  unfolding distinct implied
  fresh = both (ap not (any_none (same_path (path k)) (implied k) (λ q m. not_so (same_path (path k) q) (λ e.
      let t = Memᴰ.of_map (λ n. path k ++ n ∷ []) k.key_names m in longer (path k) t.0 (t.2 ∙ sym (same_path-is (path k) q e)))))) (distinct-implied (path k) k.key_names d.keys-once)

  once : distinct same_path (paths (J ▷ k)) ≡ true
  unfolding implied
  once = ap (distinct same_path) (paths-more J k) ∙ distinct_append (paths J) (path k ∷ implied k) r.once fresh apart
    where
      apart : (q : Path) → Memᴰ q (paths J) → Memᴰ q (path k ∷ implied k) → ⊥
      apart q m (Memᴰ.head e) = not-old J u k f.new m e
      apart q m (Memᴰ.tail o) = let t = Memᴰ.of_map (λ n. path k ++ n ∷ []) k.key_names o in key-not-old J u k f.new t.0 m (sym t.2)

  line_plain : plain (path k) ≡ true
  unfolding path
  line_plain = plain_more k.context k.name (all-mem plain context-mem r.no-T) f.no-T

  -- what holds of the old paths, of the line's and of its key names' holds of all
  all_more : (g : Path → Bool) → all g (paths J) ≡ true → g (path k) ≡ true → ((n : Bytes) → Memᴰ n k.key_names → g (path k ▸ n) ≡ true) → all g (paths (J ▷ k)) ≡ true
  unfolding implied
  all_more g a b c = ap (all g) (paths-more J k) ∙ all-by g (paths J ++ path k ∷ implied k) (λ q m. ⊎_elim (λ o. all-mem g o a) (λ o. here q o) (Memᴰ.append_cases (paths J) m))
    where
      here : (q : Path) → Memᴰ q (path k ∷ implied k) → g q ≡ true
      here q (Memᴰ.head e) = ap g e ∙ b
      here q (Memᴰ.tail o) = let t = Memᴰ.of_map (λ n. path k ++ n ∷ []) k.key_names o in ap g (sym t.2) ∙ c t.0 t.1

  key-plain : (n : Bytes) → Memᴰ n k.key_names → same n (bytes "T") ≡ false
  key-plain n m = not_so (same n (bytes "T")) (λ e. clash (rw (same-is n (bytes "T") e) (same_self (bytes "T"))) (none_any (same (bytes "T")) m f.no-key-T))

  pub grown : length J + 1 ≤ 64 → rules_kept (J ▷ k) ≡ true
  unfolding path
  grown l = rules-by (J ▷ k) (record {
    first = first_more J k r.first;
    known = known;
    once = once;
    free = free-by (J ▷ k) known once;
    no-T = all_more plain r.no-T line_plain (λ n m. plain_more (path k) n line_plain (key-plain n m));
    lines = le-leb (length (J ▷ k)) 64 (omega (arith, length-append J (k ∷ [])));
    few = le-leb (length (paths (J ▷ k))) 128 (omega (arith, paths-count J k, f.few));
    short = all_more (λ p. leb (length p) 8) r.short (le-leb (length (path k)) 8 (omega (arith, longer-by k.context k.name, f.short)))
        (λ n m. le-leb (length (path k ▸ n)) 8 (omega (arith, longer-by (path k) n, longer-by k.context k.name, f.key-short (some_in m))));
  })

-- ---- and back
module _ (J : KeyList) (k : Key) (rest : KeyList) (u : rules_kept (J ++ k ∷ rest) ≡ true) where
  all-rules : Rules (J ++ k ∷ rest)
  all-rules = rules (J ++ k ∷ rest) u

  whole : paths (J ++ k ∷ rest) ≡ paths J ++ paths (k ∷ rest)
  whole = paths-append J (k ∷ rest)

  here : {q : Path} → Memᴰ q (path k ∷ implied k) → Memᴰ q (paths (J ++ k ∷ rest))
  here {q} m = subst (λ (z : List Path). Memᴰ q z) (sym whole) (Memᴰ.append_right (paths J) (mem-paths {k = k} (Memᴰ.head refl) m))

  key_here : {n : Bytes} → Memᴰ n k.key_names → Memᴰ (path k ▸ n) (paths (J ++ k ∷ rest))
  unfolding implied
  key_here m = here (Memᴰ.tail (Memᴰ.map (λ n. path k ++ n ∷ []) m))

  pub fits-lines : length J + 1 ≤ 64
  fits-lines = let a = leb-true (length (J ++ k ∷ rest)) 64 all-rules.lines in omega (arith, length-append J (k ∷ rest))

  pub fits : is_root_context k.context ≡ false → Fits J k
  unfolding path contexts_known is_root_context
  fits root = record {
    line = ⊎_elim (λ o. absurd (clash (ap is_root_context (Memᴰ.eq_of_singleton o)) root)) (λ o. o) (line_before J named);
    new = not_so (listed J (path k)) (λ e. once-apart (paths (k ∷ rest)) (sym (ap (distinct same_path) whole) ∙ all-rules.once) (listed-mem J (path k) e) (mem-paths {k = k} (Memᴰ.head refl) (Memᴰ.head refl)));
    no-T = plain-last k.context k.name (all-mem plain (here (Memᴰ.head refl)) all-rules.no-T);
    no-key-T = any_none (same (bytes "T")) k.key_names (λ n m. not_so (same (bytes "T") n) (λ e. clash (rw (same-is (bytes "T") n e) (same_self n)) (plain-last (path k) n (all-mem plain (key_here m) all-rules.no-T))));
    short = let a = leb-true (length (path k)) 8 (all-mem (λ p. leb (length p) 8) (here (Memᴰ.head refl)) all-rules.short) in omega (arith, longer-by k.context k.name);
    key-short = λ h. keyed k.key_names h (λ n m. leb-true (length (path k ▸ n)) 8 (all-mem (λ p. leb (length p) 8) (key_here m) all-rules.short));
    few = let a = leb-true (length (paths (J ++ k ∷ rest))) 128 all-rules.few in omega (arith, ap length whole, length-append (paths J) (paths (k ∷ rest)), counted);
  }
    where
      named : Memᴰ k.context (before J ([] ∷ []))
      named =
          let a = and_right (contexts_known ([] ∷ []) J) _ (sym (known-append J (k ∷ rest) ([] ∷ [])) ∙ all-rules.known) in
          let t = any-mem (same_path k.context) (before J ([] ∷ [])) (and_left _ (contexts_known (path k ∷ before J ([] ∷ [])) rest) a) in
          Memᴰ.cast (same_path-is k.context t.0 t.2) t.1

      keyed : (ns : List Bytes) → 0 < length ns → ((n : Bytes) → Memᴰ n ns → length (path k ▸ n) ≤ 8) → length k.context + 2 ≤ 8
      keyed [] h g = absurd (omega arith)
      keyed (n ∷ ns) h g = omega (arith, g n (Memᴰ.head refl), longer-by (path k) n, longer-by k.context k.name)

      counted : 1 + length k.key_names ≤ length (paths (k ∷ rest))
      counted = omega (arith, ap length (paths-append (k ∷ []) rest), length-append (paths (k ∷ [])) (paths rest), paths-count [] k)
