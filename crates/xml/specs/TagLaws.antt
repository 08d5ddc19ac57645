-- What stands in a start tag: the tag that it means, how long it is, and that a tag as it is written spells itself.
use Rattle.std.specs.Prelude.{ℕ, zero, suc, ◌+◌, ◌*◌, ◌≤◌, ◌≡◌, refl, Bool, true, false, not, ◌&&◌, ◌||◌, List, [], ◌∷◌, ◌++◌, map, eqb, length, take, drop, get_or, Ok}
use Prim.Native.Char.{code}
use Rattle.std.proofs.Common.{add-zero, le_of_suc-le-suc, arith, ap, ap₂, sym, ◌∙◌, subst, append_assoc, append-nil, eq-eqb, ne_eqb, eqb-true, length-append, length-drop, get_or-append-add, take-add}
use Rattle.std.proofs.lemmas.Bool.{eqb-false}
use Rattle.std.proofs.Math.Seq.{take-append_seam, drop-append_seam, drop-append-add}
use Rattle.xml.specs.Bytes.{Bytes, bytes, any, all, same, is_legal, is_character, is_start, is_name_byte, is_name, among, bytes_compute}
use Rattle.xml.specs.Tags.{Attr, attr, attr_name, escape_value, attr_text, less, insert, sort, tag_text, name_of, until, name_len_in, value_len_in, parts, is_quote, in_value, is_inline, Fine, Written, named_t, tags_compute, bare as bare-tag, attributed as attributed-tag}
use Rattle.xml.specs.Grammar.{Entity, lt, gt, amp, quot, apos, Characters, kept, joined, turned, entity, Attributes, none, more, StartTag, bare, attributed, none as no-characters}
use Rattle.xml.specs.Read.{name_len, attrs, tag_from, tag_len, means, tag_of}
use Rattle.xml.specs.Truth.{by-test, clash, both, both_true, both_false, neither, or_swap, not_so}
use Rattle.xml.specs.BytesLaws.{same-is, same_self}
use Rattle.xml.specs.GrammarLaws.{characters-mean, character-legal, legal-character}
use Rattle.xml.specs.ScanLaws.{name_len-fits}
use Rattle.xml.specs.TextLaws.{place}
use Rattle.xml.specs.NameOrder.{less-asym}
use Rattle.xml.specs.Names.{name-all, name-some, name-first, name-taken, name-bytes, name-short}
use Rattle.xml.specs.Fresh.{new-name, new-unused, unused-new}
use Rattle.xml.specs.Values.{no-return-first, all_append}
use Rattle.xml.specs.Attrs.{After, more-text, more-long, attrs-all, attrs-range, attrs-sound}

-- ---- the parts of what stands in a tag
pub until-all : (P : ℕ → Bool) (c : ℕ) (s t : Bytes) → ((b : ℕ) → P b ≡ true → eqb b c ≡ false) → all P s ≡ true → until c (s ++ c ∷ t) ≡ length s
unfolding until all
until-all P c [] t h a = rw (eq-eqb c c refl, until)
until-all P c (b ∷ s) t h a =
    let i = both_true (P b) (all P s) a in
    rw (h b i.0, until) (ap suc (until-all P c s t h i.1))

pub name-no : (c : ℕ) → is_name_byte c ≡ false → (b : ℕ) → is_name_byte b ≡ true → eqb b c ≡ false
name-no c e b h = ne_eqb b c (λ x. clash (sym h ∙ ap is_name_byte x ∙ e))

pub value-no : (q b : ℕ) → in_value q b ≡ true → eqb b q ≡ false
unfolding in_value
value-no q b e = not_so (eqb b q) (λ h. clash (sym e ∙ rw h))

parts-skip : (k : ℕ) (s : Bytes) → k ≤ length s → parts k s ≡ parts 0 (drop k s)
unfolding parts
parts-skip zero s h = refl
parts-skip (suc k) [] h = refl
parts-skip (suc k) (b ∷ s) h = parts-skip k s (le_of_suc-le-suc h)

pub equals-name : is_name_byte (code "=") ≡ false
unfolding bytes_compute
equals-name = refl

space-name : is_name_byte (code " ") ≡ false
unfolding bytes_compute
space-name = refl

pub parts-name : (n u : Bytes) → all is_name_byte n ≡ true → parts 0 (n ++ u) ≡ parts 0 u
unfolding parts all
parts-name [] u a = refl
parts-name (b ∷ n) u a =
    let i = both_true (is_name_byte b) (all is_name_byte n) a in
    rw (name-no (code " ") space-name b i.0, parts) (parts-name n u i.1)

parts-space : (s : Bytes) → parts 0 (code " " ∷ s) ≡ attr (take (name_len_in s) s) (take (value_len_in s) (drop (2 + name_len_in s) s)) ∷ parts (3 + name_len_in s + value_len_in s) s
unfolding parts
parts-space s = refl

pub parts-one : (n s u : Bytes) (q : ℕ) → all is_name_byte n ≡ true → all (in_value q) s ≡ true → parts 0 (code " " ∷ After n q s u) ≡ attr n s ∷ parts 0 u
parts-one n s u q a h =
    let S = After n q s u in
    let m : name_len_in S ≡ length n = until-all is_name_byte (code "=") n (q ∷ (s ++ q ∷ u)) (name-no (code "=") equals-name) a in
    let g : get_or S (1 + name_len_in S) 0 ≡ q = ap (λ (x : ℕ). get_or S x 0) (one (name_len_in S) (length n) m) ∙ get_or-append-add n (code "=" ∷ q ∷ (s ++ q ∷ u)) 1 0 in
    let d : drop (2 + name_len_in S) S ≡ s ++ q ∷ u = ap (λ (x : ℕ). drop x S) (two (name_len_in S) (length n) m) ∙ drop-append-add n (code "=" ∷ q ∷ (s ++ q ∷ u)) 2 in
    let v : value_len_in S ≡ length s = ap₂ until g d ∙ until-all (in_value q) q s u (value-no q) h in
    let l : 3 + name_len_in S + value_len_in S ≡ length n + (2 + (length s + 1)) = omega arith in
    let k : length n + (2 + (length s + 1)) ≤ length S = omega (arith, length-append n (code "=" ∷ q ∷ (s ++ q ∷ u)), length-append s (q ∷ u)) in
    let t : 2 + (length s + 1) ≡ suc (suc (length s + 1)) = omega arith in
    parts-space S
    ∙ ap₂ (λ (x y : Bytes). attr x y ∷ parts (3 + name_len_in S + value_len_in S) S) (ap (λ (x : ℕ). take x S) m ∙ take-append_seam n (code "=" ∷ q ∷ (s ++ q ∷ u)))
    (ap₂ take v d ∙ take-append_seam s (q ∷ u))
    ∙ ap (λ (x : List Attr). attr n s ∷ x)
    (ap (λ (x : ℕ). parts x S) l ∙ parts-skip (length n + (2 + (length s + 1))) S k
    ∙ ap (parts 0) (drop-append-add n (code "=" ∷ q ∷ (s ++ q ∷ u)) (2 + (length s + 1)) ∙ ap (λ (x : ℕ). drop x (code "=" ∷ q ∷ (s ++ q ∷ u))) t ∙ drop-append-add s (q ∷ u) 1))
  where
    one : (x y : ℕ) → x ≡ y → 1 + x ≡ y + 1
    one x y e = omega arith

    two : (x y : ℕ) → x ≡ y → 2 + x ≡ y + 2
    two x y e = omega arith

pub parts-mean : {used : List Bytes} {u : Bytes} {l : List Attr} → Attributes used u l → map means (parts 0 u) ≡ l
unfolding parts means
parts-mean none = refl
parts-mean {used} (more {n = n} {s = s} {u = u} {l = l} q new quote c within r) =
    ap (λ (x : Bytes). map means (parts 0 x)) (sym (append-nil (bytes " " ++ n ++ bytes "=" ++ (q ∷ s) ++ (q ∷ u))) ∙ more-text n s u [] q)
    ∙ ap (map means) (parts-one n s (u ++ []) q (name-bytes n (new-name used n new)) within)
    ∙ ap₂ (λ (x : Bytes) (y : List Attr). attr n x ∷ y) (characters-mean c) (ap (λ (x : Bytes). map means (parts 0 x)) (append-nil u) ∙ parts-mean r)

name_of-name : (n u : Bytes) → all is_name_byte n ≡ true → name_of (n ++ u) ≡ n ++ name_of u
unfolding name_of all
name_of-name [] u a = refl
name_of-name (b ∷ n) u a =
    let i = both_true (is_name_byte b) (all is_name_byte n) a in
    rw (name-no (code " ") space-name b i.0, name_of) (ap (b ∷◌) (name_of-name n u i.1))

pub name-of : (n : Bytes) → is_name n ≡ true → name_of n ≡ n
unfolding name_of
name-of n e = ap name_of (sym (append-nil n)) ∙ name_of-name n [] (name-bytes n e) ∙ append-nil n

attributes-start : {used : List Bytes} {u : Bytes} {l : List Attr} → Attributes used u l → name_of u ≡ []
unfolding name_of bytes
attributes-start none = refl
attributes-start (more {n = n} {s = s} {u = u} q new quote c within r) =
    ap name_of (sym (append-nil (bytes " " ++ n ++ bytes "=" ++ (q ∷ s) ++ (q ∷ u))) ∙ more-text n s u [] q)

attr_text-start : (l : List Attr) → name_of (attr_text l) ≡ []
unfolding name_of attr_text bytes
attr_text-start [] = refl
attr_text-start (attr n v ∷ l) = ap name_of regroup
  where
    regroup : bytes " " ++ n ++ bytes "=\"" ++ escape_value v ++ bytes "\"" ++ attr_text l ≡ code " " ∷ (n ++ bytes "=\"" ++ escape_value v ++ bytes "\"" ++ attr_text l)
    regroup = simp append_assoc

-- the name in a tag, and the tag that it means
pub text-name : (n : Bytes) (l : List Attr) → is_name n ≡ true → name_of (n ++ attr_text l) ≡ n
text-name n l e = name_of-name n (attr_text l) (name-bytes n e) ∙ ap (n ++◌) (attr_text-start l) ∙ append-nil n

pub start-name : {a : Bool} {w n t : Bytes} → StartTag a w n t → name_of t ≡ n
unfolding tag_text
start-name (bare {n = n} e) = name-of n e
start-name (attributed {n = n} {l = l} e h r) = text-name n (sort l) e

pub start-means : {a : Bool} {w n t : Bytes} → StartTag a w n t → tag_of w ≡ t
unfolding tag_of tag_text attr_text sort parts
start-means (bare {n = n} e) =
    ap₂ (λ (x : Bytes) (y : List Attr). x ++ attr_text (sort (map means y))) (name-of n e) (ap (parts 0) (sym (append-nil n)) ∙ parts-name n [] (name-bytes n e)) ∙ append-nil n
start-means (attributed {n = n} {u = u} {l = l} e h r) =
    ap₂ (λ (x : Bytes) (y : List Attr). x ++ attr_text (sort y))
    (name_of-name n u (name-bytes n e) ∙ ap (n ++◌) (attributes-start r) ∙ append-nil n)
    (ap (map means) (parts-name n u (name-bytes n e)) ∙ parts-mean r)

-- there is one, and its first byte is of a name
pub start-some : {a : Bool} {w n t : Bytes} → StartTag a w n t → length w ≡ 0 → ⊥
start-some (bare {n = n} e) h = name-some n e h
start-some (attributed {n = n} {u = u} e p r) h = name-some n e (zero_left (length n) (length u) (sym (length-append n u) ∙ h))
  where
    zero_left : (x y : ℕ) → x + y ≡ 0 → x ≡ 0
    zero_left x y e = omega arith

pub start_first : {a : Bool} {w n t : Bytes} (s : Bytes) (c : ℕ) → StartTag a w n t → is_start c ≡ false → get_or (w ++ s) 0 0 ≡ c → ⊥
start_first s c (bare {n = n} e) d h = name-first n s c e d h
start_first s c (attributed {n = n} {u = u} e p r) d h = name-first n (u ++ s) c e d (ap (λ (x : Bytes). get_or x 0 0) (sym (append_assoc n u s)) ∙ h)

-- an archive's tags are tags
version-tag : {a : Bool} {w n t : Bytes} → StartTag a w n t → StartTag false w n t
version-tag (bare e) = bare e
version-tag (attributed e p r) = attributed e refl r

pub start-any : {a : Bool} {w n t : Bytes} → StartTag a w n t → StartTag false w (name_of t) t
start-any {w = w} {t = t} s = subst (λ (x : Bytes). StartTag false w x t) (sym (start-name s)) (version-tag s)

-- the name in what stands in a tag
pub start-raw : {a : Bool} {w n t : Bytes} → StartTag a w n t → name_of w ≡ n
start-raw (bare {n = n} e) = name-of n e
start-raw (attributed {n = n} {u = u} e h r) = name_of-name n u (name-bytes n e) ∙ ap (n ++◌) (attributes-start r) ∙ append-nil n

-- a tag is at most six times as long as what spells it: a quote in a value is written in six bytes
characters-length : {s v : Bytes} → Characters s v → length v ≤ length s
unfolding bytes
characters-length no-characters = omega arith
characters-length (kept e h c) = let i = characters-length c in omega arith
characters-length (joined e h c) = let i = characters-length c in omega arith
characters-length (turned e h c) = let i = characters-length c in omega arith
characters-length (entity {e = e} {s = s} i c) = let j = characters-length c in let k = entity-long i in omega (arith, length-append e s)
  where
    entity-long : {e : Bytes} {c : ℕ} → Entity e c → 1 ≤ length e
    entity-long lt = omega arith
    entity-long gt = omega arith
    entity-long amp = omega arith
    entity-long quot = omega arith
    entity-long apos = omega arith

by_length : {n : ℕ} (t : Bool) (x y : Bytes) → length x ≤ n → length y ≤ n → length {A = ℕ} (elim t [ true ↦ x | false ↦ y ]) ≤ n
by_length true x y h g = h
by_length false x y h g = g

pub value-length : (v : Bytes) → length (escape_value v) ≤ 6 * length v
unfolding bytes escape_value
value-length [] = omega arith
value-length (b ∷ v) =
    let i = value-length v in
    by_length (eqb b (code "&")) _ _ (simp length-append (omega arith))
    (by_length (eqb b (code "<")) _ _ (simp length-append (omega arith))
    (by_length (eqb b (code "\"")) _ _ (simp length-append (omega arith)) (omega arith)))

pub text-long : (n v : Bytes) (l : List Attr) → length (attr_text (attr n v ∷ l)) ≡ 4 + length n + length (escape_value v) + length (attr_text l)
unfolding attr_text bytes
text-long n v l = simp length-append (omega arith)

insert-long : (x : Attr) (l : List Attr) → length (attr_text (insert x l)) ≡ length (attr_text (x ∷ l))
unfolding insert
insert-long x [] = refl
insert-long (attr n v) (attr m w ∷ l) = at (less (attr_name (attr m w)) (attr_name (attr n v))) (insert-long (attr n v) l)
  where
    at : (t : Bool) → length (attr_text (insert (attr n v) l)) ≡ length (attr_text (attr n v ∷ l)) →
        length (attr_text (elim t [ true ↦ attr m w ∷ insert (attr n v) l | false ↦ attr n v ∷ attr m w ∷ l ])) ≡ length (attr_text (attr n v ∷ attr m w ∷ l))
    at true h = omega (arith, text-long m w (insert (attr n v) l), text-long n v l, text-long n v (attr m w ∷ l), text-long m w l)
    at false h = refl

pub sort-long : (l : List Attr) → length (attr_text (sort l)) ≡ length (attr_text l)
unfolding sort
sort-long [] = refl
sort-long (attr n v ∷ l) = omega (arith, insert-long (attr n v) (sort l), text-long n v (sort l), text-long n v l, sort-long l)

attributes-long : {used : List Bytes} {u : Bytes} {l : List Attr} → Attributes used u l → length (attr_text l) ≤ 6 * length u
unfolding attr_text
attributes-long none = omega arith
attributes-long (more {n = n} {s = s} {v = v} {u = u} {l = l} q new quote c within r) =
    let i = attributes-long r in
    omega (arith, text-long n v l, more-long n s u q, value-length v, characters-length c)

pub start-long : {a : Bool} {w n t : Bytes} → StartTag a w n t → (length t ≤ 6 * length w) × (length n ≤ 32)
unfolding tag_text
start-long (bare {n = n} e) = omega (arith, name-short n e)
start-long (attributed {n = n} {u = u} {l = l} e h r) =
    omega (arith, name-short n e, length-append n u, length-append n (attr_text (sort l)), sort-long l, attributes-long r)

-- a tag that is a name alone is spelled so
none-long : (l : List Attr) → length (attr_text l) ≡ 0 → l ≡ []
none-long [] h = refl
none-long (attr m v ∷ l) h = absurd (omega (arith, text-long m v l))

none-spelled : {used : List Bytes} {u : Bytes} {l : List Attr} → Attributes used u l → l ≡ [] → u ≡ []
none-spelled none h = refl
none-spelled (more {n = n} {v = v} {l = l} q new quote c within r) h = let z : ◌≡◌ {A = ℕ} 0 1 = cc in absurd (omega arith)

pub start-bare : {a : Bool} {w n t : Bytes} → StartTag a w n t → is_name t ≡ true → (w ≡ n) × (t ≡ n)
unfolding tag_text
start-bare (bare e) h = (refl, refl)
start-bare {t = t} (attributed {n = n} {u = u} {l = l} e p r) h =
    let i : tag_text n l ≡ n = sym (name-of (tag_text n l) h) ∙ text-name n (sort l) e in
    let j : l ≡ [] = none-long l (zero (length n) (length (attr_text (sort l))) (length (attr_text l)) (sort-long l) (sym (length-append n (attr_text (sort l))) ∙ ap length i)) in
    (ap (n ++◌) (none-spelled r j) ∙ append-nil n, i)
  where
    zero : (x y z : ℕ) → y ≡ z → x + y ≡ x → z ≡ 0
    zero x y z d e = omega arith

-- ---- how long it is
module _ (a : Bool) (s : Bytes) (n : ℕ) where
  pub tag-short : eqb n 0 || a && same (take n s) (bytes "T") ≡ true → tag_from a s n ≡ Ok n
  unfolding tag_from
  tag-short e = rw (e, tag_from)

  pub tag-long : eqb n 0 || a && same (take n s) (bytes "T") ≡ false → tag_from a s n ≡ attrs [] 0 n (drop n s)
  unfolding tag_from
  tag-long e = rw (e, tag_from)

next-name : {used : List Bytes} {u : Bytes} {l : List Attr} (n : Bytes) (c : ℕ) (t : Bytes) → is_name n ≡ true → is_name_byte c ≡ false → Attributes used u l → name_len (n ++ (u ++ c ∷ t)) ≡ length n
next-name n c t e d none = name-all n c t e d
next-name n c t e d (more {n = m} {s = s} {u = u} q new quote k within r) =
    ap (λ (x : Bytes). name_len (n ++ x)) (more-text m s u (c ∷ t) q) ∙ name-all n (code " ") (After m q s (u ++ c ∷ t)) e space-name

pub tag_len-all : {a : Bool} {w n t : Bytes} (c : ℕ) (s : Bytes) → StartTag a w n t → is_name_byte c ≡ false → (c ≡ code " " → ⊥) → tag_len a (w ++ c ∷ s) ≡ Ok (length w)
tag_len-all {a} c s (bare {n = n} e) d h =
    let S = n ++ c ∷ s in
    ap (tag_from a S) (name-all n c s e d)
    ∙ by-test (eqb (length n) 0 || a && same (take (length n) S) (bytes "T")) (λ x. tag-short a S (length n) x)
    (λ x. tag-long a S (length n) x ∙ ap (attrs [] 0 (length n)) (drop-append_seam n (c ∷ s)) ∙ attrs-all (length n) c s none h ∙ ap Ok (add-zero (length n)))
tag_len-all {a} c s (attributed {n = n} {u = u} {l = l} e p r) d h =
    let v = u ++ c ∷ s in
    let S = n ++ v in
    let q : eqb (length n) 0 || a && same (take (length n) S) (bytes "T") ≡ false =
    neither (ne_eqb (length n) 0 (name-some n e)) (ap (λ (x : Bytes). a && same x (bytes "T")) (take-append_seam n v) ∙ p)
    in
    ap (tag_len a) (append_assoc n u (c ∷ s)) ∙ ap (tag_from a S) (next-name n c s e d r) ∙ tag-long a S (length n) q
    ∙ ap (attrs [] 0 (length n)) (drop-append_seam n v) ∙ attrs-all (length n) c s r h ∙ ap Ok (sym (length-append n u))

-- it lies in the text
pub tag_len-range : (a : Bool) (s : Bytes) → (name_len s ≤ place (tag_len a s)) × (place (tag_len a s) ≤ length s)
tag_len-range a s =
    let n = name_len s in
    by-test (eqb n 0 || a && same (take n s) (bytes "T"))
    (λ x. let e = ap place (tag-short a s n x) in omega (arith, name_len-fits s))
    (λ x. let e = ap place (tag-long a s n x) in omega (arith, name_len-fits s, length-drop n s, attrs-range [] 0 n (drop n s) (omega arith)))

-- what is scanned is a tag
pub record Tag (a : Bool) (w : Bytes) : Type 0 where
  pub name : Bytes
  pub tag : Bytes
  pub start : StartTag a w name tag

pub tag_len-sound : (a : Bool) (s : Bytes) (n : ℕ) → tag_len a s ≡ Ok n → (n ≡ 0 → ⊥) → Tag a (take n s)
tag_len-sound a s n e z =
    by-test (eqb m 0 || a && same (take m s) (bytes "T"))
    (λ x. let i : Ok m ≡ Ok n = sym (tag-short a s m x) ∙ e in let j : m ≡ n = cc in short j)
    (λ x. long x (sym (tag-long a s m x) ∙ e))
  where
    m : ℕ
    m = name_len s

    short : name_len s ≡ n → Tag a (take n s)
    short j = let y : is_name (take n s) ≡ true = subst (λ (i : ℕ). is_name (take i s) ≡ true) j (name-taken s (λ i. z (sym j ∙ i))) in record { name = take n s; tag = take n s; start = bare y }

    long : eqb (name_len s) 0 || a && same (take (name_len s) s) (bytes "T") ≡ false → attrs [] 0 (name_len s) (drop (name_len s) s) ≡ Ok n → Tag a (take n s)
    long x h =
        let y = both_false (eqb (name_len s) 0) (a && same (take (name_len s) s) (bytes "T")) x in
        let t = attrs-sound (drop (name_len s) s) [] 0 (name_len s) n (omega arith) h in
        let k = t.long in
        let j : n ≡ name_len s + length t.raw = omega arith in
        let i : take n s ≡ take (name_len s) s ++ t.raw =
        ap (λ (v : ℕ). take v s) j ∙ take-add (name_len s) (length t.raw) s
        ∙ ap (λ (v : Bytes). take (name_len s) s ++ v) (ap (take (length t.raw)) t.is ∙ take-append_seam t.raw t.rest)
        in
        rw i (record { name = take (name_len s) s; tag = tag_text (take (name_len s) s) t.list; start = attributed (name-taken s (eqb-false (name_len s) 0 y.0)) y.1 t.spells })

-- ---- values as they are written
data Escaped (b : ℕ) (s : Bytes) : Bytes → Type 0 where
  sign : {e : Bytes} {c : ℕ} → b ≡ c → Entity e c → Escaped b s (e ++ s)
  self : (b ≡ code "&" → ⊥) → (b ≡ code "<" → ⊥) → (b ≡ code "\"" → ⊥) → Escaped b s (b ∷ s)

escaped : (b : ℕ) (s : Bytes) → Escaped b (escape_value s) (escape_value (b ∷ s))
unfolding escape_value
escaped b s = at (eqb b (code "&")) refl (eqb b (code "<")) refl (eqb b (code "\"")) refl
  where
    at : (x : Bool) → eqb b (code "&") ≡ x → (y : Bool) → eqb b (code "<") ≡ y → (z : Bool) → eqb b (code "\"") ≡ z →
        Escaped b (escape_value s)
        (elim x [
          | true ↦ bytes "&amp;" ++ escape_value s
          | false ↦ elim y [ true ↦ bytes "&lt;" ++ escape_value s | false ↦ elim z [ true ↦ bytes "&quot;" ++ escape_value s | false ↦ b ∷ escape_value s ] ]
        ])
    at true e y f z g = sign (eqb-true b (code "&") e) amp
    at false e true f z g = sign (eqb-true b (code "<") f) lt
    at false e false f true g = sign (eqb-true b (code "\"") g) quot
    at false e false f false g = self (eqb-false b (code "&") e) (eqb-false b (code "<") f) (eqb-false b (code "\"") g)

entity-in : {e : Bytes} {c : ℕ} → Entity e c → all (in_value (code "\"")) e ≡ true
unfolding tags_compute
entity-in lt = refl
entity-in gt = refl
entity-in amp = refl
entity-in quot = refl
entity-in apos = refl

inline-return : (b : ℕ) → is_inline b ≡ true → b ≡ code "\r" → ⊥
unfolding tags_compute
inline-return b i e = clash (sym i ∙ ap is_inline e)

escaped-characters : {b : ℕ} {s w : Bytes} (t : Bytes) → Escaped b s w → is_inline b ≡ true → Characters s t → Characters w (b ∷ t)
unfolding is_inline
escaped-characters t (sign h e) l c = rw h (entity e c)
escaped-characters {b} t (self n m g) l c =
    kept (legal-character b m n (both_true (is_legal b) (not (among "\t\n\r" b)) l).0) (inline-return b l) c

escaped-in : {b : ℕ} {s w : Bytes} → Escaped b s w → is_inline b ≡ true → all (in_value (code "\"")) s ≡ true → all (in_value (code "\"")) w ≡ true
unfolding all in_value is_inline
escaped-in {s = s} (sign {e = w} h e) l c = all_append (in_value (code "\"")) w s (entity-in e) c
escaped-in {b} {s = s} (self n m g) l c =
    let i : in_value (code "\"") b ≡ true = rw (ne_eqb b (code "\"") g) (both_true (is_legal b) (not (among "\t\n\r" b)) l).1 in
    both i c

value-characters : (v : Bytes) → all is_inline v ≡ true → Characters (escape_value v) v
unfolding escape_value all
value-characters [] l = no-characters
value-characters (b ∷ v) l =
    let h = both_true (is_inline b) (all is_inline v) l in
    escaped-characters v (escaped b v) h.0 (value-characters v h.1)

value_in_lem : (v : Bytes) → all is_inline v ≡ true → all (in_value (code "\"")) (escape_value v) ≡ true
unfolding escape_value all
value_in_lem [] l = refl
value_in_lem (b ∷ v) l = let h = both_true (is_inline b) (all is_inline v) l in escaped-in (escaped b v) h.0 (value_in_lem v h.1)

quote-quote : is_quote (code "\"") ≡ true
unfolding tags_compute
quote-quote = refl

pub fine-attributes : (used : List Bytes) (l : List Attr) → Fine used l → Attributes used (attr_text l) l
unfolding attr_text bytes
fine-attributes used [] f = none
fine-attributes used (attr n v ∷ l) f =
    subst (λ (x : Bytes). Attributes used x (attr n v ∷ l)) regroup
    (more (code "\"") f.0 quote-quote (value-characters v f.1) (value_in_lem v f.1) (fine-attributes (n ∷ used) l f.2))
  where
    regroup : bytes " " ++ n ++ bytes "=" ++ (code "\"" ∷ escape_value v) ++ (code "\"" ∷ attr_text l) ≡ bytes " " ++ n ++ bytes "=\"" ++ escape_value v ++ bytes "\"" ++ attr_text l
    regroup = simp append_assoc

-- ---- what attributes mean
in-meant : (q b : ℕ) → is_character b ≡ true → in_value q b ≡ true → is_inline b ≡ true
unfolding in_value is_inline
in-meant q b c i = both (character-legal b c) (at (eqb b q) (among "\t\n\r" b) i)
  where
    at : (x y : Bool) → not (x || y) ≡ true → not y ≡ true
    at true y e = clash (sym e)
    at false y e = e

entity-meant : {e : Bytes} {c : ℕ} → Entity e c → is_inline c ≡ true
unfolding tags_compute
entity-meant lt = refl
entity-meant gt = refl
entity-meant amp = refl
entity-meant quot = refl
entity-meant apos = refl

all_right : (f : ℕ → Bool) (s t : Bytes) → all f (s ++ t) ≡ true → all f t ≡ true
unfolding all
all_right f [] t e = e
all_right f (b ∷ s) t e = all_right f s t (both_true (f b) (all f (s ++ t)) e).1

characters-meant : {s v : Bytes} (q : ℕ) → Characters s v → all (in_value q) s ≡ true → all is_inline v ≡ true
unfolding all
characters-meant q no-characters a = refl
characters-meant q (joined {b = b} {s = s} r f c) a = absurd (no-return-first q b s a r)
characters-meant q (turned {b = b} {s = s} r f c) a = absurd (no-return-first q b s a r)
characters-meant q (kept {b = b} {s = s} e r c) a =
    let i = both_true (in_value q b) (all (in_value q) s) a in
    both (in-meant q b e i.0) (characters-meant q c i.1)
characters-meant q (entity {e = e} {s = s} i c) a = both (entity-meant i) (characters-meant q c (all_right (in_value q) e s a))

pub attributes-fine : {used : List Bytes} {u : Bytes} {l : List Attr} → Attributes used u l → Fine used l
attributes-fine none = tt
attributes-fine (more q new quote c within r) = (new, characters-meant q c within, attributes-fine r)

-- ---- their order
abbrev pub Below : Attr → List Attr → Type 0
Below x [] = Unit {0}
Below x (y ∷ l) = less (attr_name y) (attr_name x) ≡ false

abbrev Ascending : List Attr → Type 0
Ascending [] = Unit {0}
Ascending (x ∷ l) = Below x l × Ascending l

pub insert-first : (x : Attr) (l : List Attr) → Below x l → insert x l ≡ x ∷ l
unfolding insert
insert-first x [] h = refl
insert-first x (y ∷ l) h = rw (h, insert)

pub insert-later : (x y : Attr) (l : List Attr) → less (attr_name y) (attr_name x) ≡ true → insert x (y ∷ l) ≡ y ∷ insert x l
unfolding insert
insert-later x y l h = rw (h, insert)

pub below-insert : (y x : Attr) (l : List Attr) → Below y l → less (attr_name x) (attr_name y) ≡ false → Below y (insert x l)
unfolding insert
below-insert y x [] h e = e
below-insert y x (z ∷ l) h e =
    by-test (less (attr_name z) (attr_name x)) (λ i. rw (insert-later x z l i) h) (λ i. rw (insert-first x (z ∷ l) i) e)

insert-ascending : (x : Attr) (l : List Attr) → Ascending l → Ascending (insert x l)
unfolding insert
insert-ascending x [] h = (tt, tt)
insert-ascending x (y ∷ l) h = at (less (attr_name y) (attr_name x)) refl (insert-ascending x l h.1)
  where
    at : (t : Bool) → less (attr_name y) (attr_name x) ≡ t → Ascending (insert x l) → Ascending (insert x (y ∷ l))
    at true i ih = rw (insert-later x y l i) (below-insert y x l h.0 (less-asym (attr_name y) (attr_name x) i), ih)
    at false i ih = rw (insert-first x (y ∷ l) i) (i, h)

sort-ascending : (l : List Attr) → Ascending (sort l)
unfolding sort
sort-ascending [] = tt
sort-ascending (x ∷ l) = insert-ascending x (sort l) (sort-ascending l)

ascending-sort : (l : List Attr) → Ascending l → sort l ≡ l
unfolding sort
ascending-sort [] h = refl
ascending-sort (x ∷ l) h = ap (insert x) (ascending-sort l h.1) ∙ insert-first x l h.0

pub sort_sorted : (l : List Attr) → sort (sort l) ≡ sort l
sort_sorted l = ascending-sort (sort l) (sort-ascending l)

-- ---- sorting keeps them new
fine-same : (used used' : List Bytes) (l : List Attr) → ((n : Bytes) → any (same n) used ≡ any (same n) used') → Fine used l → Fine used' l
unfolding any
fine-same used used' [] h f = tt
fine-same used used' (attr n v ∷ l) h f =
    (unused-new used' n (new-name used n f.0) (sym (h n) ∙ new-unused used n f.0), f.1, fine-same (n ∷ used) (n ∷ used') l (λ m. ap (λ (x : Bool). same m n || x) (h m)) f.2)

pub same_not : (n m : Bytes) → same n m ≡ false → same m n ≡ false
same_not n m e = not_so (same m n) (λ h. clash (sym (ap (same n) (same-is m n h) ∙ same_self n) ∙ e))

insert-fine : (used : List Bytes) (x : Attr) (l : List Attr) → Fine used (x ∷ l) → Fine used (insert x l)
unfolding insert attr_name same any
insert-fine used x [] f = f
insert-fine used (attr n v) (attr m w ∷ l) f = at (less m n) refl (λ g. insert-fine (m ∷ used) (attr n v) l g)
  where
    at : (t : Bool) → less m n ≡ t → (Fine (m ∷ used) (attr n v ∷ l) → Fine (m ∷ used) (insert (attr n v) l)) → Fine used (insert (attr n v) (attr m w ∷ l))
    at false i ih = rw (insert-first (attr n v) (attr m w ∷ l) i) f
    at true i ih =
        let u = new-unused used n f.0 in
        let y = both_false (same m n) (any (same m) used) (new-unused (n ∷ used) m f.2.0) in
        let k : Fine (m ∷ used) (attr n v ∷ l) =
        (unused-new (m ∷ used) n (new-name used n f.0) (neither (same_not m n y.0) u), f.1, fine-same (m ∷ n ∷ used) (n ∷ m ∷ used) l (λ z. or_swap (same z m) (same z n) (any (same z) used)) f.2.2)
        in
        rw (insert-later (attr n v) (attr m w) l i) (unused-new used m (new-name (n ∷ used) m f.2.0) y.1, f.2.1, ih k)

pub sort-fine : (used : List Bytes) (l : List Attr) → Fine used l → Fine used (sort l)
unfolding sort
sort-fine used [] f = tt
sort-fine used (attr n v ∷ l) f = insert-fine used (attr n v) (sort l) (f.0, f.1, sort-fine (n ∷ used) l f.2)

-- ---- a tag as it is written
pub written_start : {a : Bool} {t : Bytes} → Written a t → StartTag a t (name_of t) t
unfolding tag_text
written_start {a} (bare-tag {n = n} e) = subst (λ (x : Bytes). StartTag a n x n) (sym (name-of n e)) (bare e)
written_start {a} (attributed-tag n l e p f s) =
    subst (λ (x : Bytes). StartTag a (n ++ attr_text l) x (n ++ attr_text l)) (sym (text-name n l e))
    (subst (λ (x : List Attr). StartTag a (n ++ attr_text l) n (n ++ attr_text x)) s (attributed e p (fine-attributes [] l f)))

-- a version's tags are an archive's too, but for those of a `T`
pub written-archive : {t : Bytes} → Written false t → named_t t ≡ false → Written true t
unfolding named_t
written-archive (bare-tag e) h = bare-tag e
written-archive (attributed-tag n l e p f s) h =
    attributed-tag n l e (ap (λ (x : Bytes). same x (bytes "T")) (sym (text-name n l e)) ∙ (both_false (same (name_of (n ++ attr_text l)) (bytes "T")) _ h).0) f s

pub written-version : {t : Bytes} → Written true t → Written false t
written-version (bare-tag e) = bare-tag e
written-version (attributed-tag n l e p f s) = attributed-tag n l e refl f s

pub not_T : (t : Bytes) → named_t t ≡ false → same (name_of t) (bytes "T") ≡ false
unfolding named_t
not_T t h = (both_false (same (name_of t) (bytes "T")) _ h).0

-- there is one
pub written-some : {a : Bool} {t : Bytes} → Written a t → t ≡ [] → ⊥
written-some w h = start-some (written_start w) (ap length h)

pub start-written : {a : Bool} {w n t : Bytes} → StartTag a w n t → Written a t
unfolding tag_text
start-written (bare e) = bare-tag e
start-written (attributed {n = n} {l = l} e p r) = attributed-tag n (sort l) e p (sort-fine [] l (attributes-fine r)) (sort_sorted l)
