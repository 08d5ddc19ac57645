-- Texts that begin with the same bytes: a start tag that reaches no further than these is the same in both.
use Rattle.std.specs.Prelude.{ℕ, zero, suc, ◌+◌, ◌-◌, ◌≤◌, ◌<◌, ◌≡◌, refl, Bool, true, false, ◌&&◌, ◌||◌, List, [], ◌∷◌, ◌++◌, eqb, length, take, drop, get_or, Result, Ok, Err, Option, Some, None}
use Prim.Native.Char.{code}
use Rattle.std.proofs.Common.{not-suc-le-zero, le_of_suc-le-suc, arith, ap, ap₂, sym, ◌∙◌, subst}
use Rattle.xml.specs.Bytes.{Bytes, bytes, same}
use Rattle.xml.specs.Tags.{is_quote, is_new, fresh, fresh_len, new_len}
use Rattle.xml.specs.Read.{name_len, value_byte, value, attr_byte, attrs, tag_from, tag_len}
use Rattle.xml.specs.Truth.{by-test}
use Rattle.xml.specs.TextLaws.{place}
use Rattle.xml.specs.Fresh.{fresh_len-cons, fresh_len-off}
use Rattle.xml.specs.Values.{ValueCase, over, hit, miss, plain, off, value-case, value-over, value-hit, value-miss, value-kept, value-off, value_turn, ValueIn, value-range, found-fits}
use Rattle.xml.specs.Attrs.{value_at, AttrCase, unnamed, unquoted, stops, goes, attr-case, attr-over, attr-unnamed, attr-unquoted, attr-stops, attr-goes, attr-reach, AttrReach, attr_turn, attrs-range, over as no-attr}
use Rattle.xml.specs.TagLaws.{tag-short, tag-long, tag_len-range}
use Rattle.xml.specs.Agree.{Agrees, more, agrees-drop, get_d-same, take_same, name_len-same, entity-hit-same, entity-miss-same, Enough}

-- ---- values
value-byte-same : (q b m : ℕ) (s s' : Bytes) → Agrees m s s' → Enough m (value_byte q b s) → value_byte q b s' ≡ value_byte q b s
value-byte-same q b m s s' a h = at (value_byte q b s) (value-case q b s) h
  where
    at : (o : Result (Option (ℕ × ℕ)) ℕ) → ValueCase q b s o → Enough m o → value_byte q b s' ≡ o
    at o (over e) h = value-over q b s' e
    at o (hit {k = k} {c = c} x y z) h = value-hit q b s' k c x y (entity-hit-same m s s' k c z h a)
    at o (miss {k = k} x y z) h = value-miss q b s' k x y (entity-miss-same m s s' k z (omega arith) a)
    at o (plain x y z) h = value-kept q b s' x y z
    at o (off x y z) h = value-off q b s' x y z

value-ge : (q k n : ℕ) (s : Bytes) → k ≤ length s → n + k ≤ place (value q k n s)
value-ge q k n s h = at (value q k n s) (value-range q k n s h)
  where
    at : (r : Result ℕ ℕ) → ValueIn (n + k) (n + length s) r → n + k ≤ place r
    at (Ok m) i = i.0
    at (Err m) i = i.0

pub value_same : (m q k n : ℕ) (s s' : Bytes) → k ≤ length s → Agrees m s s' → place (value q k n s) < n + m → value q k n s' ≡ value q k n s
unfolding value
value_same zero q k n s s' l a h = absurd (omega (arith, value-ge q k n s l))
value_same (suc m) q (suc k) n s s' l (more {s = u} {s' = u'} a) h = value_same m q k (n + 1) u u' (le_of_suc-le-suc l) a (omega arith)
value_same (suc m) q zero n s s' l (more {b = b} {s = u} {s' = u'} a) h =
    at (value_byte q b u) refl (value-case q b u) (λ k g i. value_same m q k (n + 1) u u' g a i)
  where
    put : (o : Result (Option (ℕ × ℕ)) ℕ) → value_byte q b u ≡ o → Enough m o → value_turn q n u' o ≡ value_turn q n u o → value_turn q n u' (value_byte q b u') ≡ value_turn q n u (value_byte q b u)
    put o e i g = ap (value_turn q n u') (value-byte-same q b m u u' a (subst (Enough m) (sym e) i) ∙ e) ∙ g ∙ sym (ap (value_turn q n u) e)

    at : (o : Result (Option (ℕ × ℕ)) ℕ) → value_byte q b u ≡ o → ValueCase q b u o → ((k : ℕ) → k ≤ length u → place (value q k (n + 1) u) < n + 1 + m → value q k (n + 1) u' ≡ value q k (n + 1) u) →
        value_turn q n u' (value_byte q b u') ≡ value_turn q n u (value_byte q b u)
    at o e (over x) f = put (Ok None) e (omega arith) refl
    at o e (hit {k = k} {c = c} x y z) f =
        let i : k ≤ length u = found-fits u (Ok (k, c)) z in
        let p : place (value q k (n + 1) u) < n + suc m = subst (λ (o : Result (Option (ℕ × ℕ)) ℕ). place (value_turn q n u o) < n + suc m) e h in
        put (Ok (Some (k, 0))) e (omega (arith, value-ge q k (n + 1) u i)) (f k i (omega arith))
    at o e (miss {k = k} x y z) f =
        let p : n + (1 + k) < n + suc m = subst (λ (o : Result (Option (ℕ × ℕ)) ℕ). place (value_turn q n u o) < n + suc m) e h in
        put (Err (1 + k)) e (omega arith) refl
    at o e (plain x y z) f =
        let p : place (value q 0 (n + 1) u) < n + suc m = subst (λ (o : Result (Option (ℕ × ℕ)) ℕ). place (value_turn q n u o) < n + suc m) e h in
        put (Ok (Some (0, 0))) e (omega arith) (f 0 (omega arith) (omega arith))
    at o e (off x y z) f = put (Err 0) e (omega arith) refl

-- ---- names
pub fresh_len-same : (m k : ℕ) (used : List Bytes) (q s s' : Bytes) → fresh_len k used q s < m → Agrees m s s' → fresh_len k used q s' ≡ fresh_len k used q s
unfolding fresh_len
fresh_len-same zero k used q s s' h a = absurd (not-suc-le-zero h)
fresh_len-same (suc m) zero used q s s' h a = refl
fresh_len-same (suc m) (suc k) used q s s' h (more {b = b} {s = u} {s' = u'} a) = at (fresh k used (q ++ b ∷ [])) refl (λ g. fresh_len-same m k used (q ++ b ∷ []) u u' g a)
  where
    at : (t : Bool) → fresh k used (q ++ b ∷ []) ≡ t →
        (fresh_len k used (q ++ b ∷ []) u < m → fresh_len k used (q ++ b ∷ []) u' ≡ fresh_len k used (q ++ b ∷ []) u) → fresh_len (suc k) used q (b ∷ u') ≡ fresh_len (suc k) used q (b ∷ u)
    at true e f =
        fresh_len-cons k used q b u' e ∙ ap suc (f (le_of_suc-le-suc (subst (λ (x : ℕ). suc x ≤ suc m) (fresh_len-cons k used q b u e) h))) ∙ sym (fresh_len-cons k used q b u e)
    at false e f = fresh_len-off k used q b u' e ∙ sym (fresh_len-off k used q b u e)

-- ---- an attribute
module _ (used : List Bytes) (b m : ℕ) (s s' : Bytes) (a : Agrees m s s') where
  len : new_len used s < m → new_len used s' ≡ new_len used s
  len l = fresh_len-same m 32 used [] s s' l a

  pub name-same : new_len used s < m → take (new_len used s') s' ≡ take (new_len used s) s
  name-same l = ap (λ (x : ℕ). take x s') (len l) ∙ take_same m (new_len used s) s s' (omega arith) a

  named-same : new_len used s < m → (t : Bool) → is_new used (take (new_len used s) s) && eqb (get_or s (new_len used s) 0) (code "=") ≡ t →
      is_new used (take (new_len used s') s') && eqb (get_or s' (new_len used s') 0) (code "=") ≡ t
  named-same l t e =
      ap₂ (λ (x : Bytes) (y : ℕ). is_new used x && eqb y (code "=")) (name-same l) (ap (λ (x : ℕ). get_or s' x 0) (len l) ∙ get_d-same m (new_len used s) s s' l a) ∙ e

  quote-same : 1 + new_len used s < m → get_or s' (1 + new_len used s') 0 ≡ get_or s (1 + new_len used s) 0
  quote-same l = ap (λ (x : ℕ). get_or s' (1 + x) 0) (len (omega arith)) ∙ get_d-same m (1 + new_len used s) s s' l a

  value-at-same : (r : Result ℕ ℕ) → value_at s (new_len used s) ≡ r → 2 + new_len used s + place r < m → value_at s' (new_len used s') ≡ r
  value-at-same r e l =
      let h : place (value_at s (new_len used s)) < 0 + (m - (2 + new_len used s)) = rw e (omega arith) in
      ap₂ (λ (x : ℕ) (y : Bytes). value x 0 0 y) (quote-same (omega arith)) (ap (λ (x : ℕ). drop (2 + x) s') (len (omega arith)))
      ∙ value_same (m - (2 + new_len used s)) (get_or s (1 + new_len used s) 0) 0 0 (drop (2 + new_len used s) s) (drop (2 + new_len used s) s') (omega arith)
      (agrees-drop (2 + new_len used s) m s s' a) h
      ∙ e

  pub attr-same : (o : Result (Option (ℕ × ℕ)) ℕ) → AttrCase used b s o → Enough m o → attr_byte used b s' ≡ o
  attr-same o (no-attr e) h = attr-over used b s' e
  attr-same o (unnamed e g) h =
      attr-unnamed used b s' e (named-same (omega arith) false g) ∙ ap (λ (x : ℕ). Err (1 + x)) (len (omega arith))
  attr-same o (unquoted e g i) h =
      attr-unquoted used b s' e (named-same (omega arith) true g) (ap is_quote (quote-same (omega arith)) ∙ i) ∙ ap (λ (x : ℕ). Err (2 + x)) (len (omega arith))
  attr-same o (stops {k = k} e g i v) h =
      attr-stops used b s' k e (named-same (omega arith) true g) (ap is_quote (quote-same (omega arith)) ∙ i) (value-at-same (Err k) v (omega arith))
      ∙ ap (λ (x : ℕ). Err (3 + x + k)) (len (omega arith))
  attr-same o (goes {k = k} e g i v) h =
      attr-goes used b s' k e (named-same (omega arith) true g) (ap is_quote (quote-same (omega arith)) ∙ i) (value-at-same (Ok k) v (omega arith))
      ∙ ap (λ (x : ℕ). Ok (Some (3 + x + k, 0))) (len (omega arith))

pub attrs-same : (m : ℕ) (used : List Bytes) (k n : ℕ) (s s' : Bytes) → k ≤ length s → Agrees m s s' → place (attrs used k n s) < n + m → attrs used k n s' ≡ attrs used k n s
unfolding attrs
attrs-same zero used k n s s' l a h = absurd (omega (arith, attrs-range used k n s l))
attrs-same (suc m) used (suc k) n s s' l (more {s = u} {s' = u'} a) h = attrs-same m used k (n + 1) u u' (le_of_suc-le-suc l) a (omega arith)
attrs-same (suc m) used zero n s s' l (more {b = b} {s = u} {s' = u'} a) h =
    at (attr_byte used b u) refl (attr-case used b u) (attr-reach used b u) (λ w k g i. attrs-same m w k (n + 1) u u' g a i)
  where
    put : (o : Result (Option (ℕ × ℕ)) ℕ) → attr_byte used b u ≡ o → AttrCase used b u o → Enough m o → attr_turn used n u' o ≡ attr_turn used n u o → attr_turn used n u' (attr_byte used b u') ≡ attr_turn used n u (attr_byte used b u)
    put o e c i g = ap (attr_turn used n u') (attr-same used b m u u' a o c i) ∙ g ∙ sym (ap (attr_turn used n u) e)

    off-in : (k : ℕ) → attr_byte used b u ≡ Err k → k ≤ m
    off-in k e = let p : n + k < n + suc m = subst (λ (o : Result (Option (ℕ × ℕ)) ℕ). place (attr_turn used n u o) < n + suc m) e h in omega arith

    at : (o : Result (Option (ℕ × ℕ)) ℕ) → attr_byte used b u ≡ o → AttrCase used b u o → AttrReach (length u) o →
        ((w : List Bytes) (k : ℕ) → k ≤ length u → place (attrs w k (n + 1) u) < n + 1 + m → attrs w k (n + 1) u' ≡ attrs w k (n + 1) u) →
        attr_turn used n u' (attr_byte used b u') ≡ attr_turn used n u (attr_byte used b u)
    at o e (no-attr x) r f = put (Ok None) e (no-attr x) (omega arith) refl
    at o e (unnamed x y) r f = put _ e (unnamed x y) (off-in _ e) refl
    at o e (unquoted x y z) r f = put _ e (unquoted x y z) (off-in _ e) refl
    at o e (stops x y z v) r f = put _ e (stops x y z v) (off-in _ e) refl
    at o e (goes {k = k} x y z v) r f =
        let K : ℕ = 3 + new_len used u + k in
        let w = take (new_len used u) u ∷ used in
        let p : place (attrs w K (n + 1) u) < n + suc m = subst (λ (o : Result (Option (ℕ × ℕ)) ℕ). place (attr_turn used n u o) < n + suc m) e h in
        let i : K ≤ m = omega (arith, attrs-range w K (n + 1) u r) in
        put (Ok (Some (K, 0))) e (goes x y z v) i (ap (λ (x : Bytes). attrs (x ∷ used) K (n + 1) u') (name-same used b m u u' a (omega arith)) ∙ f w K r (omega arith))

pub tag_len-same : (a : Bool) (m : ℕ) (s s' : Bytes) → place (tag_len a s) < m → Agrees m s s' → tag_len a s' ≡ tag_len a s
tag_len-same a m s s' h ag =
    ap (tag_from a s') (name_len-same m s s' l ag) ∙ by-test (eqb (name_len s) 0 || a && same (take (name_len s) s) (bytes "T")) short long
  where
    l : name_len s < m
    l = omega (arith, tag_len-range a s)

    t : take (name_len s) s' ≡ take (name_len s) s
    t = take_same m (name_len s) s s' (omega (arith, l)) ag

    test : eqb (name_len s) 0 || a && same (take (name_len s) s') (bytes "T") ≡ eqb (name_len s) 0 || a && same (take (name_len s) s) (bytes "T")
    test = ap (λ (x : Bytes). eqb (name_len s) 0 || a && same x (bytes "T")) t

    short : eqb (name_len s) 0 || a && same (take (name_len s) s) (bytes "T") ≡ true → tag_from a s' (name_len s) ≡ tag_from a s (name_len s)
    short x = tag-short a s' (name_len s) (test ∙ x) ∙ sym (tag-short a s (name_len s) x)

    long : eqb (name_len s) 0 || a && same (take (name_len s) s) (bytes "T") ≡ false → tag_from a s' (name_len s) ≡ tag_from a s (name_len s)
    long x =
        let e = tag-long a s (name_len s) x in
        let i : place (attrs [] 0 (name_len s) (drop (name_len s) s)) < name_len s + (m - name_len s) = omega (arith, ap place e, l) in
        tag-long a s' (name_len s) (test ∙ x) ∙ attrs-same (m - name_len s) [] 0 (name_len s) (drop (name_len s) s) (drop (name_len s) s') (omega arith) (agrees-drop (name_len s) m s s' ag) i ∙ sym e
