-- Writing a tag by its raw bytes: values, attributes, and the attributes by ascending names.
use Rattle.std.specs.Prelude.{ℕ, suc, ◌+◌, ◌*◌, ◌-◌, ◌^◌, ◌≤◌, ◌<◌, ◌≡◌, refl, Bool, true, false, eqb, length, get_or}
use Prim.Native.Char.{code}
use Rattle.std.proofs.Common.{arith, ap₂, ◌∙◌, length-append, get_or-append-add}
use Rattle.std.proofs.Math.Path.{ap, sym}
use Rattle.std.proofs.Math.Bool.{not}
use mathlib.Core.List.{List, [], ◌∷◌, ◌++◌, append_assoc, append-nil, map}
use borrow.Author.Tests.{eq-eqb, ne_eqb}
use Rattle.std.proofs.Math.Seq.{slice, slice_empty}
use Rattle.xml.specs.Bytes.{Bytes, bytes, all, keep, same, is_name_byte, is_name, bytes_compute}
use Rattle.xml.specs.BytesLaws.{same-is, same_self}
use Rattle.xml.specs.CompareLaws.{same-lengths}
use Rattle.xml.specs.Tags.{Attr, attr, attr_name, escape_value, attr_text, less, insert, sort, tag_text, name_of, until, parts, is_quote}
use Rattle.xml.specs.Grammar.{Attributes, none, more, StartTag, bare, attributed}
use Rattle.xml.specs.Read.{unescape, means, tag_of}
use Rattle.xml.specs.Truth.{both_true, neither, or-none}
use Rattle.xml.specs.Names.{name-some, name-bytes}
use Rattle.xml.specs.Fresh.{new-name}
use Rattle.xml.specs.SignLaws.{Meant, slice_first}
use Rattle.xml.specs.TapeLaws.{length-unescape}
use Rattle.xml.specs.Over.{Wrote}
use Rattle.xml.specs.WriteLaws.{Left, left-none, left-more, left-place, slice_snoc}
use Rattle.xml.specs.TagLaws.{name-no, value-length, name-of, start-raw, start-means, start-long}
use Rattle.xml.specs.TagParts.{IsTag, part_at, attr_in, quoted, above, sorted_from}
use Rattle.xml.specs.TagPlaces.{Reached, PartIn, name-bare, attributes-first, tag-start, tag-first}
use Rattle.xml.specs.NextPart.{NextPart, above_on, sorted-end, sorted-here}
use Rattle.xml.specs.declared.tag.Part.{Part}
use Rattle.xml.specs.declared.text.Sign.{Sign}

-- ---- a name alone, or a quote at the end
pub until-name : (s : Bytes) → until (code " ") s ≡ length (name_of s)
unfolding until name_of
until-name [] = refl
until-name (b ∷ s) = at (eqb b (code " ")) (until-name s)
  where
    at : (t : Bool) → until (code " ") s ≡ length (name_of s) → elim t [ true ↦ 0 | false ↦ suc (until (code " ") s) ] ≡ length {A = ℕ} (elim t [ true ↦ [] | false ↦ b ∷ name_of s ])
    at true e = refl
    at false e = ap suc e

all-last : (f : ℕ → Bool) (s : Bytes) → all f s ≡ true → (length s ≡ 0 → ⊥) → f (get_or s (length s - 1) 0) ≡ true
unfolding all
all-last f [] a h = absurd (h refl)
all-last f (b ∷ []) a h = (both_true (f b) true a).0
all-last f (b ∷ c ∷ s) a h =
    let z : suc (suc (length s)) - 1 ≡ suc (length s) = omega arith in
    let y : suc (length s) - 1 ≡ length s = omega arith in
    ap (λ (k : ℕ). f (get_or (b ∷ c ∷ s) k 0)) z ∙ ap (λ (k : ℕ). f (get_or (c ∷ s) k 0)) (sym y) ∙ all-last f (c ∷ s) (both_true (f b) (all f (c ∷ s)) a).1 (λ e. omega arith)

name-quote : (b : ℕ) → is_name_byte b ≡ true → is_quote b ≡ false
unfolding bytes_compute is_quote
name-quote b e = neither (name-no (code "\"") refl b e) (neither (name-no (code "'") refl b e) refl)

last-quote : {used : List Bytes} {u : Bytes} {l : List Attr} (b : ℕ) → is_quote b ≡ true → Attributes used u l → is_quote (get_or (b ∷ u) (length u) 0) ≡ true
last-quote b e none = e
last-quote b e (more {n = n} {s = s} {u = u} q new quote c within r) =
    let A : Bytes = bytes " " ++ n ++ bytes "=" ++ (q ∷ s) in
    let k : length (A ++ (q ∷ u)) ≡ suc (length A) + length u = omega (arith, length-append A (q ∷ u)) in
    ap (λ (i : ℕ). is_quote (get_or (b ∷ (A ++ (q ∷ u))) i 0)) k ∙ ap is_quote (get_or-append-add (b ∷ A) (q ∷ u) (length u) 0) ∙ last-quote q quote r

bare-quote : (n : Bytes) → is_name n ≡ true → not (is_quote (get_or n (length n - 1) 0)) ≡ same n (name_of n)
bare-quote n e = ap not (name-quote (get_or n (length n - 1) 0) (all-last is_name_byte n (name-bytes n e) (name-some n e))) ∙ sym (ap (same n) (name-of n e) ∙ same_self n)

start-quote : {w n t : Bytes} → StartTag false w n t → not (is_quote (get_or w (length w - 1) 0)) ≡ same w (name_of w)
start-quote (bare {n = n} e) = bare-quote n e
start-quote {w} (attributed {n = n} {u = u} e p r) = by r (start-raw {a = false} (attributed e p r))
  where
    by : {used : List Bytes} {u : Bytes} {l : List Attr} → Attributes used u l → name_of (n ++ u) ≡ n → not (is_quote (get_or (n ++ u) (length (n ++ u) - 1) 0)) ≡ same (n ++ u) (name_of (n ++ u))
    by none h = rw append-nil (bare-quote n e)
    by (more {n = m} {s = s} {u = u} q new quote c within r) h =
        let A : Bytes = bytes " " ++ m ++ bytes "=" ++ (q ∷ s) in
        let t : n ++ (A ++ (q ∷ u)) ≡ (n ++ A) ++ (q ∷ u) = sym (append_assoc n A (q ∷ u)) in
        let k : length ((n ++ A) ++ (q ∷ u)) - 1 ≡ length (n ++ A) + length u = omega (arith, length-append (n ++ A) (q ∷ u)) in
        let d : length ((n ++ A) ++ (q ∷ u)) ≡ length n → ⊥ = λ x. omega (arith, length-append (n ++ A) (q ∷ u), length-append n A) in
        let o : name_of ((n ++ A) ++ (q ∷ u)) ≡ n = ap name_of (sym t) ∙ h in
        rw t
        (ap (λ (i : ℕ). not (is_quote (get_or ((n ++ A) ++ (q ∷ u)) i 0))) k ∙ ap (λ (b : ℕ). not (is_quote b)) (get_or-append-add (n ++ A) (q ∷ u) (length u) 0) ∙ ap not (last-quote q quote r)
        ∙ sym (ap (same ((n ++ A) ++ (q ∷ u))) o ∙ same-lengths ((n ++ A) ++ (q ∷ u)) n d))

module _ {s : Bytes} (t : IsTag s) where
  quote-last : not (is_quote (get_or s (length s - 1) 0)) ≡ same s (name_of s)
  quote-last = start-quote t.start

  pub ends-quoted : get_or s (length s - 1) 0 ≡ code "\"" → false ≡ same s (name_of s)
  unfolding is_quote bytes_compute
  ends-quoted e = rw (eq-eqb (get_or s (length s - 1) 0) (code "\"") e) at quote-last

  pub ends-other : (get_or s (length s - 1) 0 ≡ code "\"" → ⊥) → not (eqb (get_or s (length s - 1) 0) (code "'")) ≡ same s (name_of s)
  unfolding is_quote bytes_compute
  ends-other n = ap not (sym (or-none (eqb (get_or s (length s - 1) 0) (code "'")))) ∙ (rw (ne_eqb (get_or s (length s - 1) 0) (code "\"") n) at quote-last)

  pub tag-named : is_name (name_of s) ≡ true
  tag-named = ap is_name (start-raw t.start) ∙ named t.start
    where
      named : {w n v : Bytes} → StartTag false w n v → is_name n ≡ true
      named (bare e) = e
      named (attributed e p r) = e

  -- a name alone means itself
  pub bare-means : same s (name_of s) ≡ true → tag_of s ≡ s
  unfolding tag_of tag_text attr_text sort parts
  bare-means e =
      let n = name_of s in
      let h : s ≡ n = same-is s n e in
      let p : parts 0 s ≡ [] = ap (parts 0) h ∙ name-bare n tag-named in
      ap (λ (l : List Attr). n ++ attr_text (sort (map means l))) p ∙ append-nil n ∙ sym h

-- ---- values
escape-value : (b : ℕ) (s : Bytes) → escape_value (b ∷ s) ≡ escape_value (b ∷ []) ++ escape_value s
unfolding escape_value bytes
escape-value b s = at (eqb b (code "&")) (eqb b (code "<")) (eqb b (code "\""))
  where
    at : (x y z : Bool) →
        elim x [
          | true ↦ bytes "&amp;" ++ escape_value s
          | false ↦ elim y [ true ↦ bytes "&lt;" ++ escape_value s | false ↦ elim z [ true ↦ bytes "&quot;" ++ escape_value s | false ↦ b ∷ escape_value s ] ]
        ]
        ≡
        elim x [
          | true ↦ bytes "&amp;" ++ []
          | false ↦ elim y [ true ↦ bytes "&lt;" ++ [] | false ↦ elim z [ true ↦ bytes "&quot;" ++ [] | false ↦ b ∷ [] ] ]
        ] ++ escape_value s
    at true y z = refl
    at false true z = refl
    at false false true = refl
    at false false false = refl

module _ (b : ℕ) where
  pub value-amp : b ≡ code "&" → escape_value (b ∷ []) ≡ bytes "&amp;"
  unfolding escape_value bytes
  value-amp e = rw e

  pub value-lt : b ≡ code "<" → escape_value (b ∷ []) ≡ bytes "&lt;"
  unfolding escape_value bytes
  value-lt e = rw e

  pub value-quot : b ≡ code "\"" → escape_value (b ∷ []) ≡ bytes "&quot;"
  unfolding escape_value bytes
  value-quot e = rw e

  pub value-one : (b ≡ code "&" → ⊥) → (b ≡ code "<" → ⊥) → (b ≡ code "\"" → ⊥) → escape_value (b ∷ []) ≡ b ∷ []
  unfolding escape_value
  value-one x y z = rw (ne_eqb b (code "&") x, ne_eqb b (code "<") y, ne_eqb b (code "\"") z, escape_value)

pub quoted-over : (s : Bytes) (e : ℕ) → quoted (slice e e s) ≡ []
unfolding unescape escape_value
quoted-over s e = rw (slice_empty e s)

pub length-quoted : (s : Bytes) → length (quoted s) ≤ 6 * length s
length-quoted s = omega (arith, value-length (unescape 0 s), length-unescape 0 s)

-- a value on its way: what is meant next
pub left-value : {s whole out mid left : List ℕ} {i e at to r : ℕ} {g : Sign} → Meant s i e g → Left whole (quoted (slice i e s)) out at to mid
    → Wrote mid to (escape_value (g.byte ∷ [])) r left → Left whole (quoted (slice g.next e s)) out at r left
left-value {s} {i = i} {e = e} {g = g} m x w =
    left-more (escape_value (g.byte ∷ [])) (rw (ap escape_value m.means ∙ escape-value g.byte (unescape 0 (slice g.next e s))) at x) w

-- ---- an attribute
pub part-text : {s : Bytes} {i : ℕ} {g : Part} → PartIn s i g → attr_text (means (attr_in s i g) ∷ []) ≡ ((slice i (g.equals + 1) s ++ (code "\"" ∷ [])) ++ quoted (slice (g.equals + 2) g.end s)) ++ (code "\"" ∷ [])
unfolding attr_text means bytes
part-text {s} {i} {g} p =
    let h = p.named in
    let k = p.valued in
    let l = p.inside in
    let e : slice i (g.equals + 1) s ≡ code " " ∷ (slice (i + 1) g.equals s ++ (code "=" ∷ [])) =
    slice_first i (g.equals + 1) s (omega arith) (omega arith) ∙ ap₂ (λ (x : ℕ) (y : Bytes). x ∷ y) p.space (slice_snoc s (i + 1) g.equals (omega arith) (omega arith) ∙ ap (λ (x : ℕ). slice (i + 1) g.equals s ++ (x ∷ [])) p.sign)
    in
    rw e (simp append_assoc)

-- the first, and those after it
text-first : (x : Attr) (l : List Attr) → attr_text (x ∷ l) ≡ attr_text (x ∷ []) ++ attr_text l
unfolding attr_text bytes
text-first (attr n v) l = simp append_assoc

-- ---- the attributes of a tag by ascending names
insert-means : (x : Attr) (l : List Attr) → insert (means x) (map means l) ≡ map means (insert x l)
unfolding insert means attr_name
insert-means x [] = refl
insert-means (attr n v) (attr m w ∷ l) = at (less m n) (insert-means (attr n v) l)
  where
    at : (t : Bool) → insert (attr n (unescape 0 v)) (map means l) ≡ map means (insert (attr n v) l) →
        elim t [ true ↦ attr m (unescape 0 w) ∷ insert (attr n (unescape 0 v)) (map means l) | false ↦ attr n (unescape 0 v) ∷ attr m (unescape 0 w) ∷ map means l ]
        ≡ map means (elim t [ true ↦ attr m w ∷ insert (attr n v) l | false ↦ attr n v ∷ attr m w ∷ l ])
    at true e = ap (attr m (unescape 0 w) ∷◌) e
    at false e = refl

pub sort-means : (l : List Attr) → sort (map means l) ≡ map means (sort l)
unfolding sort
sort-means [] = refl
sort-means (x ∷ l) = ap (insert (means x)) (sort-means l) ∙ insert-means x (sort l)

pub tag-text : (s : Bytes) → tag_of s ≡ name_of s ++ attr_text (map means (sort (parts 0 s)))
unfolding tag_of tag_text
tag-text s = ap (λ (l : List Attr). name_of s ++ attr_text l) (sort-means (parts 0 s))

-- all of them come after the empty name
name-less : (n : Bytes) → is_name n ≡ true → less [] n ≡ true
unfolding less is_name
name-less [] e = e
name-less (b ∷ n) e = refl

attributes-above : {used : List Bytes} {u : Bytes} {l : List Attr} → Attributes used u l → above [] (parts 0 u) ≡ parts 0 u
unfolding above keep parts attr_name
attributes-above none = refl
attributes-above {used} (more {n = n} {s = s} {u = u} q new quote c within r) =
    let e = new-name used n new in
    let f = attributes-first n s u q e within in
    ap (above []) f ∙ above_on [] (attr n s) (parts 0 u) (name-less n e) ∙ ap (attr n s ∷◌) (attributes-above r) ∙ sym f

pub sorted_all : {s : Bytes} {r : ℕ} → IsTag s → NextPart s (slice 0 0 s) r → sort (parts 0 s) ≡ sorted_from s r
sorted_all {s} t x = ap sort (tag-first t ∙ sym (ap (above []) (tag-first t) ∙ attributes-above (tag-start t).spells)) ∙ ap (λ (n : Bytes). sort (above n (parts 0 s))) (sym (slice_empty 0 s)) ∙ x.is

pub sorted-next : {s : Bytes} {i r : ℕ} {g : Part} → i < length s → g ≡ part_at s i → NextPart s (slice (i + 1) g.equals s) r → sorted_from s i ≡ attr_in s i g ∷ sorted_from s r
unfolding attr_name
sorted-next {s} {i} {r} {g} h e x =
    sorted-here s i h ∙ ap (λ (f : Part). attr_in s i f ∷ sort (above (slice (i + 1) f.equals s) (parts 0 s))) (sym e) ∙ ap (attr_in s i g ∷◌) x.is

pub sorted-over : {s : Bytes} {i : ℕ} → Reached s i → length s ≤ i → sorted_from s i ≡ []
sorted-over {s} {i} x h = let k = x.inside in let z : i ≡ length s = omega arith in ap (sorted_from s) z ∙ sorted-end s

-- each turn leaves fewer
pub sorted-less : {s : Bytes} {i r : ℕ} {g : Part} → i < length s → g ≡ part_at s i → NextPart s (slice (i + 1) g.equals s) r → length (sorted_from s r) < length (sorted_from s i)
sorted-less h e x = omega (arith, ap length (sorted-next h e x))

-- ---- the attributes of a tag on their way out
module _ {s : Bytes} where
  pub writing_start : {out : List ℕ} {at r : ℕ} → IsTag s → NextPart s (slice 0 0 s) r → Left (attr_text (map means (sort (parts 0 s)))) (attr_text (map means (sorted_from s r))) out at at out
  writing_start t x = rw (sorted_all t x) left-none

  pub writing-next : {whole out mid left : List ℕ} {i at to q r : ℕ} {g : Part} → Left whole (attr_text (map means (sorted_from s i))) out at to mid → i < length s → g ≡ part_at s i
      → NextPart s (slice (i + 1) g.equals s) r → Wrote mid to (attr_text (means (attr_in s i g) ∷ [])) q left → Left whole (attr_text (map means (sorted_from s r))) out at q left
  writing-next {i = i} {r = r} {g = g} x h e n w =
      left-more (attr_text (means (attr_in s i g) ∷ [])) (rw (ap (λ (l : List Attr). attr_text (map means l)) (sorted-next h e n) ∙ text-first (means (attr_in s i g)) (map means (sorted_from s r))) at x) w

  pub writing-room : {rest out left : List ℕ} {at to : ℕ} → IsTag s → length s ≤ 32768 → Left (attr_text (map means (sort (parts 0 s)))) rest out at to left → at < 2 ^ 61 + 2 ^ 58 + 32768 → to < 2 ^ 61 + 2 ^ 59
  writing-room t h x l =
      omega (arith, left-place x, (start-long t.start).0, ap length (start-means t.start), ap length (tag-text s), length-append (name_of s) (attr_text (map means (sort (parts 0 s)))))
