-- The attributes of a tag by ascending names: after each comes the one with the least name of those above it.
use Rattle.std.specs.Prelude.{ℕ, ◌+◌, ◌≤◌, ◌<◌, ◌≡◌, Bool, true, ◌&&◌, ◌||◌, eqb, length, drop}
use Prim.Native.Char.{code}
use Rattle.std.proofs.Common.{arith, ◌∙◌}
use Rattle.std.proofs.Math.Path.{refl, ap, sym, subst}
use Rattle.std.proofs.Math.Bool.{false}
use mathlib.Core.List.{List, [], ◌∷◌, ◌++◌, append_assoc, append-nil}
use borrow.Author.Tests.{eq-eqb, ne_eqb, eqb-true, eqb-false}
use Rattle.std.proofs.Math.Seq.{slice}
use Rattle.xml.specs.Bytes.{Bytes, any, keep, same}
use Rattle.xml.specs.BytesLaws.{same-is, same_self}
use Rattle.xml.specs.Tags.{Attr, attr_name, less, insert, sort, name_of, until, parts}
use Rattle.xml.specs.Grammar.{Attributes, none, more}
use Rattle.xml.specs.Truth.{by-test, clash, not_so, both, both_true, and-false, both_false, neither, or-first, or-second}
use Rattle.xml.specs.Names.{and-not}
use Rattle.xml.specs.Fresh.{new-name, new-unused}
use Rattle.xml.specs.UsedNames.{any_named}
use Rattle.xml.specs.NameOrder.{less-self, less-asym, less-trans, less-total}
use Rattle.xml.specs.TagLaws.{Below, insert-first, insert-later, below-insert}
use Rattle.xml.specs.TagParts.{IsTag, part_at, attr_in, attr_at, above, is_nearer, nearer_of, sorted_from}
use Rattle.xml.specs.TagPlaces.{Reached, PartIn, attributes-first, part_in, tag-start, tag-first, tag-end, none_left}
use Rattle.xml.specs.declared.tag.Part.{Part}

-- ---- lists of attributes
-- no two have the same name
abbrev Apart : List Attr → Type 0
Apart [] = Unit {0}
Apart (x ∷ l) = (any_named (attr_name x) l ≡ false) × Apart l

module _ (low : Bytes) (x : Attr) (l : List Attr) where
  pub above_on : less low (attr_name x) ≡ true → above low (x ∷ l) ≡ x ∷ above low l
  unfolding above keep
  above_on e = rw (e, keep)

  above-off : less low (attr_name x) ≡ false → above low (x ∷ l) ≡ above low l
  unfolding above keep
  above-off e = rw (e, keep)

above-none : (low : Bytes) (l : List Attr) → any (λ x. less low (attr_name x)) l ≡ false → above low l ≡ []
unfolding any above keep
above-none low [] e = refl
above-none low (x ∷ l) e = let i = both_false (less low (attr_name x)) (any (λ y. less low (attr_name y)) l) e in above-off low x l i.0 ∙ above-none low l i.1

-- of two names that differ, one comes first
less-or : (n m : Bytes) → same n m ≡ false → less n m ≡ false → less m n ≡ true
less-or n m d e = by-test (less m n) (λ h. h) (λ h. clash (sym (ap (same n) (sym (less-total n m e h)) ∙ same_self n) ∙ d))

-- what does not come after `low` does not come after what does
not_after : (low n m : Bytes) → less low n ≡ true → less low m ≡ false → less n m ≡ false
not_after low n m e h = not_so (less n m) (λ i. clash (sym (less-trans low n m e i) ∙ h))

-- none of a list has a name between two
abbrev between : Bytes → Bytes → Attr → Bool
between low n y = less low (attr_name y) && less (attr_name y) n

module _ (low : Bytes) (x : Attr) (after : less low (attr_name x) ≡ true) where
  -- an attribute that is neither x nor between comes after both or none
  apart_from : (y : Attr) → same (attr_name x) (attr_name y) ≡ false → between low (attr_name x) y ≡ false → less low (attr_name y) ≡ less (attr_name x) (attr_name y)
  apart_from y d e =
      by-test (less low (attr_name y))
      (λ h. h ∙ sym (by-test (less (attr_name x) (attr_name y)) (λ i. i) (λ i. clash (sym (less-or (attr_name x) (attr_name y) d i) ∙ and-false h e))))
      (λ h. h ∙ sym (not_after low (attr_name x) (attr_name y) after h))

  above_same : (l : List Attr) → any_named (attr_name x) l ≡ false → any (between low (attr_name x)) l ≡ false → above low l ≡ above (attr_name x) l
  unfolding above keep any any_named
  above_same [] d e = refl
  above_same (y ∷ l) d e =
      let i = both_false (same (attr_name x) (attr_name y)) (any_named (attr_name x) l) d in
      let j = both_false (between low (attr_name x) y) (any (between low (attr_name x)) l) e in
      let q = apart_from y i.0 j.0 in
      let r = above_same l i.1 j.1 in
      by-test (less low (attr_name y))
      (λ h. above_on low y l h ∙ ap (y ∷◌) r ∙ sym (above_on (attr_name x) y l (sym q ∙ h)))
      (λ h. above-off low y l h ∙ r ∙ sym (above-off (attr_name x) y l (sym q ∙ h)))

-- those above a name begin with none below it
above-below : (x : Attr) (l : List Attr) → Below x (sort (above (attr_name x) l))
unfolding above keep sort
above-below x [] = tt
above-below x (y ∷ l) =
    by-test (less (attr_name x) (attr_name y))
    (λ h. rw (above_on (attr_name x) y l h) (below-insert x y (sort (above (attr_name x) l)) (above-below x l) (less-asym (attr_name x) (attr_name y) h)))
    (λ h. rw (above-off (attr_name x) y l h) (above-below x l))

named-there : (n : Bytes) (q : List Attr) (x : Attr) (r : List Attr) → any_named n (q ++ x ∷ r) ≡ false → same n (attr_name x) ≡ false
unfolding any_named any
named-there n [] x r e = (both_false (same n (attr_name x)) (any_named n r) e).0
named-there n (y ∷ q) x r e = named-there n q x r (both_false (same n (attr_name y)) (any_named n (q ++ x ∷ r)) e).1

-- THE law: the least name above `low`, and those above it
least_first : (low : Bytes) (q : List Attr) (x : Attr) (r : List Attr) → Apart (q ++ x ∷ r) → less low (attr_name x) ≡ true → any (between low (attr_name x)) (q ++ x ∷ r) ≡ false
    → sort (above low (q ++ x ∷ r)) ≡ x ∷ sort (above (attr_name x) (q ++ x ∷ r))
unfolding sort any
least_first low [] x r a after e =
    let j = both_false (between low (attr_name x) x) (any (between low (attr_name x)) r) e in
    ap sort (above_on low x r after ∙ ap (x ∷◌) (above_same low x after r a.0 j.1)) ∙ insert-first x (sort (above (attr_name x) r)) (above-below x r)
    ∙ ap (λ (l : List Attr). x ∷ sort l) (sym (above-off (attr_name x) x r (less-self (attr_name x))))
least_first low (y ∷ q) x r a after e =
    let l : List Attr = q ++ x ∷ r in
    let j = both_false (between low (attr_name x) y) (any (between low (attr_name x)) l) e in
    let ih = least_first low q x r a.1 after j.1 in
    let d : same (attr_name x) (attr_name y) ≡ false = not_so (same (attr_name x) (attr_name y)) (λ h. clash (sym (ap (same (attr_name y)) (same-is (attr_name x) (attr_name y) h) ∙ same_self (attr_name y)) ∙ named-there (attr_name y) q x r a.0)) in
    let g = apart_from low x after y d j.0 in
    by-test (less low (attr_name y))
    (λ h. ap sort (above_on low y l h) ∙ ap (insert y) ih ∙ insert-later y x (sort (above (attr_name x) l)) (sym g ∙ h) ∙ ap (λ (m : List Attr). x ∷ sort m) (sym (above_on (attr_name x) y l (sym g ∙ h))))
    (λ h. ap sort (above-off low y l h) ∙ ih ∙ ap (λ (m : List Attr). x ∷ sort m) (sym (above-off (attr_name x) y l (sym g ∙ h))))

-- ---- the attributes of a tag
-- their names are apart, and none is one that is used
named_new : {used : List Bytes} {u : Bytes} {l : List Attr} (n : Bytes) → any (same n) used ≡ true → Attributes used u l → any_named n (parts 0 u) ≡ false
unfolding any_named any parts attr_name
named_new n h none = refl
named_new {used} n h (more {n = m} {s = s} {u = u} q new quote c within r) =
    ap (any_named n) (attributes-first m s u q (new-name used m new) within)
    ∙ neither (not_so (same n m) (λ e. clash (sym h ∙ ap (λ (x : Bytes). any (same x) used) (same-is n m e) ∙ new-unused used m new))) (named_new n (or-second (same n m) (any (same n) used) h) r)

attributes-apart : {used : List Bytes} {u : Bytes} {l : List Attr} → Attributes used u l → Apart (parts 0 u)
unfolding parts any attr_name
attributes-apart none = tt
attributes-apart {used} (more {n = n} {s = s} {u = u} q new quote c within r) =
    subst Apart (sym (attributes-first n s u q (new-name used n new) within)) (named_new n (or-first (same n n) (any (same n) used) (same_self n)) r, attributes-apart r)

tag-apart : {s : Bytes} → IsTag s → Apart (parts 0 s)
tag-apart t = subst Apart (sym (tag-first t)) (attributes-apart (tag-start t).spells)

-- ---- the next one
module _ (s : Bytes) where
  pub sorted-end : sorted_from s (length s) ≡ []
  unfolding sorted_from
  sorted-end = rw (eq-eqb (length s) (length s) refl, sorted_from)

  pub sorted-here : (i : ℕ) → i < length s → sorted_from s i ≡ attr_at s i ∷ sort (above (attr_name (attr_at s i)) (parts 0 s))
  unfolding sorted_from
  sorted-here i h = rw (ne_eqb i (length s) (λ e. omega arith), sorted_from)

-- which of two places is nearer
module _ (s low : Bytes) (best i : ℕ) (n : Bytes) where
  pub nearer-before : less low n ≡ false → best ≡ nearer_of s low best i n
  unfolding nearer_of is_nearer
  nearer-before e = rw (e, nearer_of)

  pub nearer-alone : less low n ≡ true → best ≡ length s → i ≡ nearer_of s low best i n
  unfolding nearer_of is_nearer
  nearer-alone e h = rw (e, eq-eqb best (length s) h, nearer_of)

  module _ (m : ℕ) (e : less low n ≡ true) (h : best ≡ length s → ⊥) (d : m ≡ until (code "=") (drop (best + 1) s)) where
    by_name : is_nearer s low best n ≡ less n (slice (best + 1) (best + 1 + m) s)
    unfolding is_nearer attr_name part_at
    by_name = rw (e, ne_eqb best (length s) h) (ap (λ (k : ℕ). less n (slice (best + 1) (best + 1 + k) s)) (sym d))

    pub nearer-this : less n (slice (best + 1) (best + 1 + m) s) ≡ true → i ≡ nearer_of s low best i n
    unfolding nearer_of
    nearer-this f = rw (by_name ∙ f, nearer_of)

    pub nearer-best : less n (slice (best + 1) (best + 1 + m) s) ≡ false → best ≡ nearer_of s low best i n
    unfolding nearer_of
    nearer-best f = rw (by_name ∙ f, nearer_of)

-- the place r is that of the attribute with the least name after `low`, or the end
pub record NextPart (s low : Bytes) (r : ℕ) : Type 0 where
  pub reached : Reached s r
  pub is : sort (above low (parts 0 s)) ≡ sorted_from s r

-- the attributes up to i were looked at, and the nearest of them, if there is one, stands at `best`
pub record Seeking (s low : Bytes) (best i : ℕ) : Type 0 where
  pub reached : Reached s i
  pub nearest : Reached s best
  pub after : best < length s → less low (attr_name (attr_at s best)) ≡ true
  pub seen : List Attr
  pub is : parts 0 s ≡ seen ++ parts 0 (drop i s)
  pub least : any (λ x. is_nearer s low best (attr_name x)) seen ≡ false

any-less : (f g : Attr → Bool) (l : List Attr) → ((x : Attr) → f x ≡ true → g x ≡ true) → any g l ≡ false → any f l ≡ false
unfolding any
any-less f g [] h e = refl
any-less f g (x ∷ l) h e =
    let i = both_false (g x) (any g l) e in
    neither (not_so (f x) (λ t. clash (sym (h x t) ∙ i.0))) (any-less f g l h i.1)

any_snoc : (f : Attr → Bool) (l : List Attr) (x : Attr) → any f l ≡ false → f x ≡ false → any f (l ++ x ∷ []) ≡ false
unfolding any
any_snoc f [] x e h = neither h refl
any_snoc f (y ∷ l) x e h = let i = both_false (f y) (any f l) e in neither i.0 (any_snoc f l x i.1 h)

module _ {s low : Bytes} where
  pub seeking-start : IsTag s → {i : ℕ} → i ≡ length (name_of s) → Seeking s low (length s) i
  unfolding any
  seeking-start t {i} e =
      let x = tag-start t in
      record {
        reached = rw e x;
        nearest = tag-end t;
        after = λ h. absurd (omega arith);
        seen = [];
        is = rw e (tag-first t);
        least = refl;
      }

  -- one more was looked at
  pub seeking-next : {best i r k : ℕ} {g : Part} → Seeking s low best i → i < length s → PartIn s i g → g ≡ part_at s i → r ≡ nearer_of s low best i (slice (i + 1) g.equals s) → k ≡ g.end + 1
      → Seeking s low r k
  unfolding nearer_of is_nearer attr_name
  seeking-next {best} {i} {r} {k} {g} x h p e d z =
      by-test (is_nearer s low best n)
      (λ t. let y : r ≡ i = d ∙ rw (t, nearer_of) in subst (λ (j : ℕ). Seeking s low j k) (sym y) (nearer t))
      (λ t. let y : r ≡ best = d ∙ rw (t, nearer_of) in subst (λ (j : ℕ). Seeking s low j k) (sym y) (farther t))
    where
      n : Bytes
      n = slice (i + 1) g.equals s

      named : attr_name (attr_at s i) ≡ n
      named = ap (λ (f : Part). slice (i + 1) f.equals s) (sym e)

      more-seen : parts 0 s ≡ (x.seen ++ (attr_in s i g ∷ [])) ++ parts 0 (drop k s)
      more-seen = x.is ∙ ap (x.seen ++◌) p.first ∙ ap (λ (j : ℕ). x.seen ++ attr_in s i g ∷ parts 0 (drop j s)) (sym z) ∙ sym (append_assoc x.seen (attr_in s i g ∷ []) (parts 0 (drop k s)))

      here : (m : Bytes) → is_nearer s low i m ≡ (less low m && less m n)
      here m = rw (ne_eqb i (length s) (λ q. omega arith)) (ap (λ (v : Bytes). less low m && less m v) named)

      farther : is_nearer s low best n ≡ false → Seeking s low best k
      farther t =
          record {
            reached = rw z p.next;
            nearest = x.nearest;
            after = x.after;
            seen = x.seen ++ (attr_in s i g ∷ []);
            is = more-seen;
            least = any_snoc (λ y. is_nearer s low best (attr_name y)) x.seen (attr_in s i g) x.least t;
          }

      nearer : is_nearer s low best n ≡ true → Seeking s low i k
      nearer t =
          let b = both_true (less low n) (eqb best (length s) || less n (attr_name (attr_at s best))) t in
          record {
            reached = rw z p.next;
            nearest = x.reached;
            after = λ q. ap (less low) named ∙ b.0;
            seen = x.seen ++ (attr_in s i g ∷ []);
            is = more-seen;
            least = any_snoc (λ y. is_nearer s low i (attr_name y)) x.seen (attr_in s i g)
                (any-less (λ y. is_nearer s low i (attr_name y)) (λ y. is_nearer s low best (attr_name y)) x.seen (λ y f. closer (attr_name y) b.1 (sym (here (attr_name y)) ∙ f)) x.least)
                (here n ∙ and-not (less low n) (less n n) (less-self n));
          }
        where
          closer : (m : Bytes) → eqb best (length s) || less n (attr_name (attr_at s best)) ≡ true → less low m && less m n ≡ true → is_nearer s low best m ≡ true
          closer m a f =
              let j = both_true (less low m) (less m n) f in
              both j.0
              (by-test (eqb best (length s)) (λ q. or-first (eqb best (length s)) (less m (attr_name (attr_at s best))) q)
              (λ q. or-second (eqb best (length s)) (less m (attr_name (attr_at s best))) (less-trans m n (attr_name (attr_at s best)) j.1 (rw q at a))))

  -- all were looked at
  pub seeking-end : {best i : ℕ} → IsTag s → Seeking s low best i → length s ≤ i → NextPart s low best
  unfolding is_nearer sort
  seeking-end {best} {i} t x h = record { reached = x.nearest; is = by-test (eqb best (length s)) over found }
    where
      all : any (λ y. is_nearer s low best (attr_name y)) (parts 0 s) ≡ false
      all = ap (any (λ y. is_nearer s low best (attr_name y))) (x.is ∙ ap (x.seen ++◌) (none_left x.reached h) ∙ append-nil x.seen) ∙ x.least

      over : eqb best (length s) ≡ true → sort (above low (parts 0 s)) ≡ sorted_from s best
      over q =
          ap sort (above-none low (parts 0 s) (any-less (λ y. less low (attr_name y)) (λ y. is_nearer s low best (attr_name y)) (parts 0 s)
          (λ y f. both f (or-first (eqb best (length s)) (less (attr_name y) (attr_name (attr_at s best))) q)) all))
          ∙ sym (ap (sorted_from s) (eqb-true best (length s) q) ∙ sorted-end s)

      found : eqb best (length s) ≡ false → sort (above low (parts 0 s)) ≡ sorted_from s best
      found q =
          let k = x.nearest.inside in
          let d = eqb-false best (length s) q in
          let b : best < length s = omega arith in
          let p = part_in x.nearest b in
          let l : List Attr = x.nearest.passed ++ attr_at s best ∷ parts 0 (drop ((part_at s best).end + 1) s) in
          let e : parts 0 s ≡ l = x.nearest.is ∙ ap (x.nearest.passed ++◌) p.first in
          let o : any (between low (attr_name (attr_at s best))) (parts 0 s) ≡ false = any-less (between low (attr_name (attr_at s best))) (λ y. is_nearer s low best (attr_name y)) (parts 0 s)
          (λ y f. let j = both_true (less low (attr_name y)) (less (attr_name y) (attr_name (attr_at s best))) f in both j.0 (or-second (eqb best (length s)) (less (attr_name y) (attr_name (attr_at s best))) j.1)) all
          in
          subst (λ (m : List Attr). sort (above low m) ≡ attr_at s best ∷ sort (above (attr_name (attr_at s best)) m)) (sym e)
          (least_first low x.nearest.passed (attr_at s best) (parts 0 (drop ((part_at s best).end + 1) s)) (subst Apart e (tag-apart t)) (x.after b) (ap (any (between low (attr_name (attr_at s best)))) (sym e) ∙ o))
          ∙ sym (sorted-here s best b)
