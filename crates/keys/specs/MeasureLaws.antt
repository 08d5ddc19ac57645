-- Laws of the walk of refusal 6, node by node.
use Prim.Native.Nat.{ℕ, zero, suc, ◌+◌, ◌*◌, ◌-◌, ◌%◌, ◌<◌, ◌≤◌}
use Rattle.std.specs.Prelude.{◌≡◌, Bool, true, false, ◌&&◌, ◌||◌, List, ltb, length}
use Rattle.std.proofs.Math.Path.{refl}
use Rattle.std.proofs.Common.{ap, sym, ◌∙◌}
use native.Mathlib.Omega.{arith}
use borrow.Author.Tests.{ltb-false, lt-ltb, le-ltb}
use Rattle.xml.specs.Bytes.{Bytes, bytes, all, same, is_white}
use Rattle.xml.specs.Truth.{bool_by}
use Rattle.xml.specs.Forest.{Forest, end, elem, text, stamp, join, escape}
use Rattle.xml.specs.Tape.{head_at, next_at, Tape, at-end, at-text, at-elem, at-stamp}
use Rattle.xml.specs.TapeLaws.{bytes_at, tape-none}
use Rattle.keys.specs.declared.measure.Sizes.{Sizes}
use Rattle.keys.specs.KeyList.{Path, KeyList, above}
use Rattle.keys.specs.Version.{◌▸◌}
use Rattle.keys.specs.Measure.{passed, sizes, unless, plus, counted, plus_tags, plus_kept, plus_text, go_on, onward, measured, Within}

-- ---- one node after another
go_both : (b : Bool) (s : Sizes) (f g h : Sizes → Sizes) → s.over ≡ b → ((t : Sizes) → t.over ≡ false → h t ≡ onward (f t) g) → go_on b s h ≡ onward (go_on b s f) g
go_both true s f g h e i = rw e refl
go_both false s f g h e i = i s e

onward-both : (s : Sizes) (f g h : Sizes → Sizes) → ((t : Sizes) → t.over ≡ false → h t ≡ onward (f t) g) → onward s h ≡ onward (onward s f) g
onward-both s f g h i = go_both s.over s f g h refl i

go-none : (b : Bool) (s : Sizes) (f : Sizes → Sizes) → ((t : Sizes) → f t ≡ t) → go_on b s f ≡ s
go-none true s f h = refl
go-none false s f h = h s

module _ (K : KeyList) where
  -- the first nodes, and the others
  measured-join : (p : Path) (d : ℕ) (f g : Forest) (s : Sizes) → s.over ≡ false → measured K p d (join f g) s ≡ onward (measured K p d f s) (measured K p d g)
  unfolding measured join
  measured-join p d end g s e = rw e refl
  measured-join p d (text b r) g s e = onward-both (plus_text K p s b) _ _ _ (λ t h. measured-join p d r g t h)
  measured-join p zero (elem n k r) g s e = refl
  measured-join p (suc d) (elem n k r) g s e = onward-both (onward (plus_tags s n) (measured K (p ▸ n) d k)) _ _ _ (λ t h. measured-join p (suc d) r g t h)
  measured-join p zero (stamp n k r) g s e = refl
  measured-join p (suc d) (stamp n k r) g s e = onward-both (onward (plus_tags s n) (measured K (p ▸ n) d k)) _ _ _ (λ t h. measured-join p (suc d) r g t h)

  pub measured-end : (p : Path) (d : ℕ) (s : Sizes) → measured K p d end s ≡ s
  unfolding measured
  measured-end p d s = refl

  pub measured-text : (p : Path) (d : ℕ) (b : Bytes) (s : Sizes) → measured K p d (text b end) s ≡ plus_text K p s b
  unfolding measured
  measured-text p d b s = go-none (plus_text K p s b).over (plus_text K p s b) (measured K p d end) (measured-end p d)

  -- an element as deep as none may stand
  measured-low : (p : Path) (d : ℕ) (n : Bytes) (k r : Forest) (s : Sizes) → d ≡ 0 → (measured K p d (elem n k r) s ≡ passed) × (measured K p d (stamp n k r) s ≡ passed)
  unfolding measured
  measured-low p d n k r s e = rw e (refl, refl)

  measured-elem : (p : Path) (d : ℕ) (n : Bytes) (k : Forest) (s : Sizes) → 0 < d → measured K p d (elem n k end) s ≡ onward (plus_tags s n) (measured K (p ▸ n) (d - 1) k)
  unfolding measured
  measured-elem p zero n k s h = absurd (omega arith)
  measured-elem p (suc d) n k s h =
      let e : suc d - 1 ≡ d = omega arith in
      let t = onward (plus_tags s n) (measured K (p ▸ n) d k) in
      rw e (go-none t.over t (λ u. u) (λ u. refl))

  measured-stamp : (p : Path) (d : ℕ) (n : Bytes) (k : Forest) (s : Sizes) → 0 < d → measured K p d (stamp n k end) s ≡ onward (plus_tags s n) (measured K (p ▸ n) (d - 1) k)
  unfolding measured
  measured-stamp p zero n k s h = absurd (omega arith)
  measured-stamp p (suc d) n k s h =
      let e : suc d - 1 ≡ d = omega arith in
      let t = onward (plus_tags s n) (measured K (p ▸ n) d k) in
      rw e (go-none t.over t (λ u. u) (λ u. refl))

-- ---- no word is passed
plus-within : (s : Sizes) (n b : ℕ) → Within (plus s n b)
unfolding plus
plus-within s n b = by (ltb 512 (s.nodes + n)) (ltb 16384 (s.bytes + b)) (λ e. ltb-false 512 (s.nodes + n) e) (λ e. ltb-false 16384 (s.bytes + b) e)
  where
    by : (x y : Bool) → (x ≡ false → s.nodes + n ≤ 512) → (y ≡ false → s.bytes + b ≤ 16384) → Within (unless (x || y) (sizes (s.nodes + n) (s.bytes + b)))
    by true y f g = record { nodes-few = omega arith; bytes-few = omega arith }
    by false true f g = record { nodes-few = omega arith; bytes-few = omega arith }
    by false false f g = record { nodes-few = f refl; bytes-few = g refl }

within_on : (b : Bool) (s : Sizes) (f : Sizes → Sizes) → Within s → ((t : Sizes) → Within t → Within (f t)) → Within (go_on b s f)
within_on true s f h g = h
within_on false s f h g = g s h

onward-within : (s : Sizes) (f : Sizes → Sizes) → Within s → ((t : Sizes) → Within t → Within (f t)) → Within (onward s f)
onward-within s f h g = within_on s.over s f h g

pub tags-within : (s : Sizes) (n : Bytes) → Within (plus_tags s n)
unfolding plus_tags
tags-within s n = plus-within s _ _

module _ (K : KeyList) where
  text-within : (p : Path) (s : Sizes) (b : Bytes) → Within s → Within (plus_text K p s b)
  unfolding plus_text
  text-within p s b h = bool_by (λ x. Within (plus_kept x s b)) (above K p && all is_white b) (λ _. h) (λ _. plus-within s 1 (length (escape b)))

  pub measured-within : (p : Path) (d : ℕ) (f : Forest) (s : Sizes) → Within s → Within (measured K p d f s)
  unfolding measured
  measured-within p d end s h = h
  measured-within p d (text b r) s h = onward-within (plus_text K p s b) (measured K p d r) (text-within p s b h) (measured-within p d r)
  measured-within p zero (elem n k r) s h = record { nodes-few = omega arith; bytes-few = omega arith }
  measured-within p (suc d) (elem n k r) s h =
      onward-within (onward (plus_tags s n) (measured K (p ▸ n) d k)) (measured K p (suc d) r)
      (onward-within (plus_tags s n) (measured K (p ▸ n) d k) (tags-within s n) (measured-within (p ▸ n) d k)) (measured-within p (suc d) r)
  measured-within p zero (stamp n k r) s h = record { nodes-few = omega arith; bytes-few = omega arith }
  measured-within p (suc d) (stamp n k r) s h =
      onward-within (onward (plus_tags s n) (measured K (p ▸ n) d k)) (measured K p (suc d) r)
      (onward-within (plus_tags s n) (measured K (p ▸ n) d k) (tags-within s n) (measured-within (p ▸ n) d k)) (measured-within p (suc d) r)

-- ---- what the functions do
module _ (s : Sizes) (n b : ℕ) where
  pub plus-many : 512 < s.nodes + n → plus s n b ≡ passed
  unfolding plus
  plus-many h = rw (lt-ltb 512 (s.nodes + n) h)

  pub plus-long : s.nodes + n ≤ 512 → 16384 < s.bytes + b → plus s n b ≡ passed
  unfolding plus
  plus-long g h = rw (le-ltb 512 (s.nodes + n) g, lt-ltb 16384 (s.bytes + b) h)

  pub plus-fits : s.nodes + n ≤ 512 → s.bytes + b ≤ 16384 → plus s n b ≡ sizes (s.nodes + n) (s.bytes + b)
  unfolding plus
  plus-fits g h = rw (le-ltb 512 (s.nodes + n) g, le-ltb 16384 (s.bytes + b) h)

pub plus-tags : (s : Sizes) (n : Bytes) (x : Bool) → same n (bytes "T") ≡ x → plus_tags s n ≡ plus s (counted x) (2 * length n + 5)
unfolding plus_tags
plus-tags s n x g = rw g

module _ (K : KeyList) (p : Path) (s : Sizes) (b : Bytes) where
  pub text-dropped : (above K p && all is_white b) ≡ true → plus_text K p s b ≡ s
  unfolding plus_text
  text-dropped h = rw h

  pub text-kept : (above K p && all is_white b) ≡ false → plus_text K p s b ≡ plus s 1 (length (escape b))
  unfolding plus_text
  text-kept h = rw h

-- with t after s, a limit is passed, or none is
module _ {s t : Sizes} (f : Sizes → Sizes) (e : t ≡ s) where
  pub onward-stop : t.over ≡ true → onward s f ≡ t
  onward-stop h = ap (λ (u : Sizes). onward u f) (sym e) ∙ rw h

  pub onward-on : t.over ≡ false → onward s f ≡ f t
  onward-on h = ap (λ (u : Sizes). onward u f) (sym e) ∙ rw h

-- a node among its siblings
module _ (K : KeyList) (p : Path) (d : ℕ) (f g : Forest) (s : Sizes) {t : Sizes} (o : s.over ≡ false) (e : t ≡ measured K p d f s) where
  pub measured-stop : t.over ≡ true → measured K p d (join f g) s ≡ t
  measured-stop h = measured-join K p d f g s o ∙ onward-stop (measured K p d g) e h

  pub measured-past : t.over ≡ false → measured K p d (join f g) s ≡ measured K p d g t
  measured-past h = measured-join K p d f g s o ∙ onward-on (measured K p d g) e h

-- ---- a node that is no text
pub record Inside (K : KeyList) (q : Path) (d : ℕ) (src cells : List ℕ) (p : ℕ) (f : Forest) (s : Sizes) : Type 0 where
  pub kids : Forest
  pub tape : Tape src cells (p + 1) (next_at cells p) kids
  pub low : d ≡ 0 → measured K q d f s ≡ passed
  pub deep : 0 < d → measured K q d f s ≡ onward (plus_tags s (bytes_at src cells p)) (measured K (q ▸ bytes_at src cells p) (d - 1) kids)

module _ (K : KeyList) (q : Path) (d : ℕ) {src cells : List ℕ} {p : ℕ} where
  pub measured-inside : {f : Forest} (s : Sizes) → Tape src cells p (next_at cells p) f → p < next_at cells p → (head_at cells p % 4 ≡ 0 → ⊥) → Inside K q d src cells p f s
  measured-inside s (at-end e) l k = absurd (omega arith)
  measured-inside s (at-text n u e r) l k = absurd (k n.kind-is)
  measured-inside s (at-elem {n = m} {k = j} n i r) l k =
      record {
        kids = j;
        tape = i;
        low = λ e. (measured-low K q d m j _ s e).0;
        deep = λ h. rw (n.bytes-are, tape-none r) (measured-elem K q d m j s h);
      }
  measured-inside s (at-stamp {t = m} {k = j} n i r) l k =
      record {
        kids = j;
        tape = i;
        low = λ e. (measured-low K q d m j _ s e).1;
        deep = λ h. rw (n.bytes-are, tape-none r) (measured-stamp K q d m j s h);
      }
