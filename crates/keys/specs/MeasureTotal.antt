-- The walk of refusal 6 decides it: what it adds up to is what the version has, or a limit is passed.
use Prim.Native.Nat.{ℕ, zero, suc, ◌+◌, ◌*◌, ◌<◌, ◌≤◌, max}
use Rattle.std.specs.Prelude.{◌≡◌, Bool, true, false, ◌&&◌, ◌||◌, length}
use Rattle.std.proofs.Math.Path.{refl, sym}
use Rattle.std.proofs.Common.{◌∙◌, subst, length-append}
use mathlib.Core.List.{[], ◌++◌}
use native.Mathlib.Omega.{arith}
use borrow.Author.Tests.{ltb-true, ltb-false, lt-ltb, le-ltb}
use Rattle.std.proofs.Math.Dec.{ltb}
use Rattle.xml.specs.Bytes.{Bytes, bytes, all, is_white}
use Rattle.xml.specs.Truth.{clash, or-first, or-second}
use Rattle.xml.specs.Forest.{Forest, end, elem, text, stamp, escape, write, nodes, depth, Tidy}
use Rattle.keys.specs.declared.measure.Sizes.{Sizes}
use Rattle.keys.specs.KeyList.{Path, KeyList, above}
use Rattle.keys.specs.Version.{◌▸◌, drop_white, too_large}
use Rattle.keys.specs.Measure.{Within, sizes, unless, plus, plus_tags, plus_kept, plus_text, go_on, onward, measured}

-- from s to t, so deep, with so many nodes and bytes
data Total (d : ℕ) (s t : Sizes) (deep many long : ℕ) : Type 0 where
  fits : t.over ≡ false → deep ≤ d → t.nodes ≡ s.nodes + many → t.bytes ≡ s.bytes + long → t.nodes ≤ 512 → t.bytes ≤ 16384 → Total d s t deep many long
  too-deep : t.over ≡ true → d < deep → Total d s t deep many long
  too_many : t.over ≡ true → 512 < s.nodes + many → Total d s t deep many long
  too_long : t.over ≡ true → 16384 < s.bytes + long → Total d s t deep many long

total-none : {d : ℕ} {s : Sizes} → s.over ≡ false → Within s → Total d s s 0 0 0
total-none e h = fits e (omega arith) (omega arith) (omega arith) h.nodes-few h.bytes-few

total-plus : (d : ℕ) (s : Sizes) (n b : ℕ) → Total d s (plus s n b) 0 n b
unfolding plus
total-plus d s n b = by (ltb 512 (s.nodes + n)) (ltb 16384 (s.bytes + b)) refl refl
  where
    by : (x y : Bool) → ltb 512 (s.nodes + n) ≡ x → ltb 16384 (s.bytes + b) ≡ y → Total d s (unless (x || y) (sizes (s.nodes + n) (s.bytes + b))) 0 n b
    by true y e g = too_many refl (ltb-true _ _ e)
    by false true e g = too_long refl (ltb-true _ _ g)
    by false false e g = fits refl (omega arith) refl refl (ltb-false _ _ e) (ltb-false _ _ g)

-- one level further up
total-up : {d : ℕ} {s t : Sizes} {deep many long : ℕ} → Total d s t deep many long → Total (suc d) s t (1 + deep) many long
total-up (fits e h n b x y) = fits e (omega arith) n b x y
total-up (too-deep e h) = too-deep e (omega arith)
total-up (too_many e h) = too_many e h
total-up (too_long e h) = too_long e h

-- one after another
module _ {d : ℕ} {s t : Sizes} {deep many long deep' many' long' : ℕ} (f : Sizes → Sizes) where
  go-total : (b : Bool) → t.over ≡ b → Total d s t deep many long → (t.over ≡ false → Within t → Total d t (f t) deep' many' long')
      → Total d s (go_on b t f) (max deep deep') (many + many') (long + long')
  go-total true e (fits o h n b x y) g = clash (sym e ∙ o)
  go-total true e (too-deep o h) g = too-deep o (omega arith)
  go-total true e (too_many o h) g = too_many o (omega arith)
  go-total true e (too_long o h) g = too_long o (omega arith)
  go-total false e (too-deep o h) g = clash (sym o ∙ e)
  go-total false e (too_many o h) g = clash (sym o ∙ e)
  go-total false e (too_long o h) g = clash (sym o ∙ e)
  go-total false e (fits o h n b x y) g = more (g e (record { nodes-few = x; bytes-few = y }))
    where
      more : Total d t (f t) deep' many' long' → Total d s (f t) (max deep deep') (many + many') (long + long')
      more (fits o' h' n' b' x' y') = fits o' (omega arith) (omega arith) (omega arith) x' y'
      more (too-deep o' h') = too-deep o' (omega arith)
      more (too_many o' h') = too_many o' (omega arith)
      more (too_long o' h') = too_long o' (omega arith)

  total-then : Total d s t deep many long → (t.over ≡ false → Within t → Total d t (f t) deep' many' long')
      → Total d s (onward t f) (max deep deep') (many + many') (long + long')
  total-then h g = go-total t.over refl h g

total-is : {d : ℕ} {s t : Sizes} {deep many long deep' many' long' : ℕ} → deep ≡ deep' → many ≡ many' → long ≡ long' → Total d s t deep many long → Total d s t deep' many' long'
total-is e g h t = rw (e, g, h) at t

-- a run of white space that is dropped is nothing
kept-total : (d : ℕ) (s : Sizes) (b : Bytes) (g : Forest) (x : Bool) (f : Sizes → Sizes) → s.over ≡ false → Within s
    → ((t : Sizes) → t.over ≡ false → Within t → Total d t (f t) (depth g) (nodes g) (length (write g)))
    → let v = elim x as (λ _. Forest) [ true ↦ g | false ↦ text b g ] in Total d s (onward (plus_kept x s b) f) (depth v) (nodes v) (length (write v))
unfolding depth nodes write
kept-total d s b g true f e w h = subst (λ x. Total d s (go_on x s f) (depth g) (nodes g) (length (write g))) (sym e) (h s e w)
kept-total d s b g false f e w h =
    total-is (omega arith) refl (sym (length-append (escape b) (write g))) (total-then f (total-plus d s 1 (length (escape b))) (h (plus s 1 (length (escape b)))))

length-tags : (n k r : Bytes) → 2 * length n + 5 + length k + length r ≡ length (bytes "<" ++ n ++ bytes ">" ++ k ++ bytes "</" ++ n ++ bytes ">" ++ r)
unfolding bytes
length-tags n k r = simp length-append (omega arith)

module _ (K : KeyList) where
  measured-total : (p : Path) (d : ℕ) (f : Forest) (s : Sizes) → Tidy false f → s.over ≡ false → Within s
      → Total d s (measured K p d f s) (depth (drop_white K p f)) (nodes (drop_white K p f)) (length (write (drop_white K p f)))
  unfolding measured plus_text plus_tags drop_white depth nodes write
  measured-total p d end s t e h = total-none e h
  measured-total p d (text b r) s t e h = kept-total d s b (drop_white K p r) (above K p && all is_white b) (measured K p d r) e h (λ u. measured-total p d r u t.3)
  measured-total p zero (elem n k r) s t e h = too-deep refl (omega arith)
  measured-total p (suc d) (elem n k r) s t e h =
      total-is (omega arith) refl (length-tags n (write (drop_white K (p ▸ n) k)) (write (drop_white K p r)))
      (total-then (measured K p (suc d) r)
      (total-then (measured K (p ▸ n) d k) (total-plus (suc d) s _ _) (λ o w. total-up (measured-total (p ▸ n) d k _ t.1 o w)))
      (λ o w. measured-total p (suc d) r _ t.2 o w))
  measured-total p d (stamp n k r) s t e h = clash (sym t.0)

  pub measured-large : (f : Forest) → Tidy false f → (measured K [] 16 f (sizes 0 0)).over ≡ too_large (drop_white K [] f)
  unfolding too_large
  measured-large f t = by (measured-total [] 16 f (sizes 0 0) t refl (record { nodes-few = omega arith; bytes-few = omega arith }))
    where
      by : {t : Sizes} {deep many long : ℕ} → Total 16 (sizes 0 0) t deep many long → t.over ≡ (ltb 16 deep || ltb 512 many || ltb 16384 long)
      by {many = m} {long = l} (fits e h n b x y) = rw (le-ltb 16 _ h, le-ltb 512 m (omega arith), le-ltb 16384 l (omega arith)) e
      by (too-deep e h) = rw (lt-ltb 16 _ h) e
      by {deep = d} {many = m} {long = l} (too_many e h) =
          e ∙ sym (or-first (ltb 16 d || ltb 512 m) (ltb 16384 l) (or-second (ltb 16 d) (ltb 512 m) (lt-ltb 512 m (omega arith))))
      by {deep = d} {many = m} {long = l} (too_long e h) = e ∙ sym (or-second (ltb 16 d || ltb 512 m) (ltb 16384 l) (lt-ltb 16384 l (omega arith)))
