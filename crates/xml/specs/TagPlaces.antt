-- The attributes of a tag at the places where they stand: each is followed by the next, or by the tag's end.
use Rattle.std.specs.Prelude.{ℕ, ◌+◌, ◌≤◌, ◌<◌, ◌≡◌, false, List, [], ◌∷◌, ◌++◌, take, get_or}
use Prim.Native.Char.{code}
use Rattle.std.proofs.Common.{add-zero, arith, ◌∙◌, append_assoc, append-nil, length-append, drop-drop, get_or-drop}
use Rattle.std.proofs.Math.Path.{refl, ap, ap₂, sym, subst}
use Rattle.std.proofs.Math.Bool.{true}
use Rattle.std.proofs.Math.ListN.{length, drop, length-drop}
use Rattle.std.proofs.Math.Seq.{slice, drop-append_seam, drop-length, take-append_seam}
use Rattle.xml.specs.Bytes.{Bytes, bytes, all, is_name_byte, is_name}
use Rattle.xml.specs.Tags.{Attr, attr, name_of, until, parts, in_value}
use Rattle.xml.specs.Grammar.{Attributes, none, more, StartTag, bare, attributed}
use Rattle.xml.specs.Names.{name-some, name-bytes}
use Rattle.xml.specs.Fresh.{new-name}
use Rattle.xml.specs.Attrs.{After, more-text}
use Rattle.xml.specs.TapeLaws.{slice-part}
use Rattle.xml.specs.TagLaws.{until-all, name-no, value-no, equals-name, parts-name, parts-one, start-raw}
use Rattle.xml.specs.TagParts.{IsTag, part_at, part_from, attr_in}
use Rattle.xml.specs.declared.tag.Part.{Part}

-- ---- what stands at a place of a text
drop_past : (s : Bytes) (i : ℕ) (x y : Bytes) → drop i s ≡ x ++ y → drop (i + length x) s ≡ y
drop_past s i x y e = sym (drop-drop (length x) i s) ∙ ap (drop (length x)) e ∙ drop-append_seam x y

byte-here : (s : Bytes) (i b : ℕ) (t : Bytes) → drop i s ≡ b ∷ t → get_or s i 0 ≡ b
byte-here s i b t e = ap (λ (x : ℕ). get_or s x 0) (sym (add-zero i)) ∙ sym (get_or-drop i s 0 0) ∙ ap (λ (x : Bytes). get_or x 0 0) e

slice-here : (s : Bytes) (i j : ℕ) (x y : Bytes) → drop i s ≡ x ++ y → j ≡ i + length x → slice i j s ≡ x
slice-here s i j x y e d = ap (λ (k : ℕ). slice i k s) d ∙ slice-part i (length x) s ∙ ap (take (length x)) e ∙ take-append_seam x y

-- the attribute at a place, by how far it is to its `=`, its quote, and how far it is to the next
pub part-is : (s : Bytes) (i m q v : ℕ) → m ≡ until (code "=") (drop (i + 1) s) → q ≡ get_or s (i + 1 + m + 1) 0 → v ≡ until q (drop (i + 1 + m + 2) s)
    → ◌≡◌ {A = Part} (record { equals = i + 1 + m; end = i + 1 + m + 2 + v }) (part_at s i)
unfolding part_at
part-is s i m q v d e f =
    ap (λ (x : ℕ). record { equals = i + 1 + m; end = i + 1 + m + 2 + x }) (f ∙ ap (λ (x : ℕ). until x (drop (i + 1 + m + 2) s)) e) ∙ ap (λ (x : ℕ). part_from s (i + 1 + x)) d

-- a name has none
pub name-bare : (n : Bytes) → is_name n ≡ true → parts 0 n ≡ []
unfolding parts
name-bare n e = ap (parts 0) (sym (append-nil n)) ∙ parts-name n [] (name-bytes n e)

-- attributes begin with the first, and the others are those after it
pub attributes-first : (n s u : Bytes) (q : ℕ) → is_name n ≡ true → all (in_value q) s ≡ true → parts 0 (bytes " " ++ n ++ bytes "=" ++ (q ∷ s) ++ (q ∷ u)) ≡ attr n s ∷ parts 0 u
attributes-first n s u q e within =
    ap (parts 0) (sym (append-nil (bytes " " ++ n ++ bytes "=" ++ (q ∷ s) ++ (q ∷ u))) ∙ more-text n s u [] q) ∙ parts-one n s (u ++ []) q (name-bytes n e) within ∙ ap (λ (x : Bytes). attr n s ∷ parts 0 x) (append-nil u)

-- ---- on the way: attributes were passed, and from the place i on stand the others
pub record Reached (s : Bytes) (i : ℕ) : Type 0 where
  pub passed : List Attr
  pub used : List Bytes
  pub left : List Attr
  pub inside : i ≤ length s
  pub is : parts 0 s ≡ passed ++ parts 0 (drop i s)
  pub spells : Attributes used (drop i s) left

-- the attribute at the place i, and the next
pub record PartIn (s : Bytes) (i : ℕ) (g : Part) : Type 0 where
  pub named : i + 1 < g.equals
  pub valued : g.equals + 2 ≤ g.end
  pub inside : g.end < length s
  pub space : get_or s i 0 ≡ code " "
  pub sign : get_or s g.equals 0 ≡ code "="
  pub name : is_name (slice (i + 1) g.equals s) ≡ true
  pub first : parts 0 (drop i s) ≡ attr_in s i g ∷ parts 0 (drop (g.end + 1) s)
  pub next : Reached s (g.end + 1)

module _ (s : Bytes) (i : ℕ) (passed : List Attr) (is : parts 0 s ≡ passed ++ parts 0 (drop i s)) (h : i < length s) where
  -- an attribute stands there, with its name n, its quote q, what is between its quotes, and what comes after
  one : {used : List Bytes} {u : Bytes} {l : List Attr} (n : Bytes) (q : ℕ) (v : Bytes) → is_name n ≡ true → all (in_value q) v ≡ true → Attributes (n ∷ used) u l
      → drop i s ≡ code " " ∷ After n q v u → PartIn s i (part_at s i)
  unfolding part_at
  one {used} {u} {l} n q v e w r d =
      let b : all is_name_byte n ≡ true = name-bytes n e in
      let d₁ : drop (i + 1) s ≡ After n q v u = drop_past s i (code " " ∷ []) (After n q v u) d in
      let m : i + 1 + until (code "=") (drop (i + 1) s) ≡ i + 1 + length n = ap (λ (x : ℕ). i + 1 + x) (ap (until (code "=")) d₁ ∙ until-all is_name_byte (code "=") n (q ∷ (v ++ q ∷ u)) (name-no (code "=") equals-name) b) in
      subst (λ (x : ℕ). PartIn s i (part_from s x)) (sym m) (from (i + 1 + length n) refl b d₁)
    where
      from : (k : ℕ) → k ≡ i + 1 + length n → all is_name_byte n ≡ true → drop (i + 1) s ≡ After n q v u → PartIn s i (part_from s k)
      from k z b d₁ =
          let d₂ : drop k s ≡ code "=" ∷ q ∷ (v ++ q ∷ u) = ap (λ (x : ℕ). drop x s) z ∙ drop_past s (i + 1) n (code "=" ∷ q ∷ (v ++ q ∷ u)) d₁ in
          let d₃ : drop (k + 1) s ≡ q ∷ (v ++ q ∷ u) = drop_past s k (code "=" ∷ []) (q ∷ (v ++ q ∷ u)) d₂ in
          let d₄ : drop (k + 2) s ≡ v ++ q ∷ u = drop_past s k (code "=" ∷ q ∷ []) (v ++ q ∷ u) d₂ in
          let j : k + 2 + until (get_or s (k + 1) 0) (drop (k + 2) s) ≡ k + 2 + length v = ap (λ (x : ℕ). k + 2 + x) (ap₂ until (byte-here s (k + 1) q (v ++ q ∷ u) d₃) d₄ ∙ until-all (in_value q) q v u (value-no q) w) in
          subst (λ (x : ℕ). PartIn s i (record { equals = k; end = x })) (sym j) (upto (k + 2 + length v) refl d₂ d₄)
        where
          upto : (o : ℕ) → o ≡ k + 2 + length v → drop k s ≡ code "=" ∷ q ∷ (v ++ q ∷ u) → drop (k + 2) s ≡ v ++ q ∷ u → PartIn s i (record { equals = k; end = o })
          upto o y d₂ d₄ =
              let d₅ : drop o s ≡ q ∷ u = ap (λ (x : ℕ). drop x s) y ∙ drop_past s (k + 2) v (q ∷ u) d₄ in
              let d₆ : drop (o + 1) s ≡ u = drop_past s o (q ∷ []) u d₅ in
              let f : parts 0 (drop i s) ≡ attr_in s i (record { equals = k; end = o }) ∷ parts 0 (drop (o + 1) s) =
              ap (parts 0) d ∙ parts-one n v u q b w
              ∙ ap₂ (λ (x : Attr) (t : Bytes). x ∷ parts 0 t) (ap₂ attr (sym (slice-here s (i + 1) k n (code "=" ∷ q ∷ (v ++ q ∷ u)) d₁ z)) (sym (slice-here s (k + 2) o v (q ∷ u) d₄ y))) (sym d₆)
              in
              let t : o < length s = omega (arith, length-drop o s, ap length d₅) in
              record {
                named = omega (arith, name-some n e);
                valued = omega arith;
                inside = t;
                space = byte-here s i (code " ") (After n q v u) d;
                sign = byte-here s k (code "=") (q ∷ (v ++ q ∷ u)) d₂;
                name = ap is_name (slice-here s (i + 1) k n (code "=" ∷ q ∷ (v ++ q ∷ u)) d₁ z) ∙ e;
                first = f;
                next = record {
                  passed = passed ++ (attr_in s i (record { equals = k; end = o }) ∷ []);
                  used = n ∷ used;
                  left = l;
                  inside = omega arith;
                  is = is ∙ ap (passed ++◌) f ∙ sym (append_assoc passed (attr_in s i (record { equals = k; end = o }) ∷ []) (parts 0 (drop (o + 1) s)));
                  spells = subst (λ (x : Bytes). Attributes (n ∷ used) x l) (sym d₆) r;
                };
              }

  here : {used : List Bytes} {u : Bytes} {l : List Attr} → Attributes used u l → drop i s ≡ u → PartIn s i (part_at s i)
  here none d = absurd (omega (arith, length-drop i s, ap length d))
  here {used} (more {n = n} {s = v} {u = u} q new quote c within r) d =
      one n q v (new-name used n new) within r (d ∙ sym (append-nil _) ∙ more-text n v u [] q ∙ ap (λ (x : Bytes). code " " ∷ After n q v x) (append-nil u))

pub part_in : {s : Bytes} {i : ℕ} → Reached s i → i < length s → PartIn s i (part_at s i)
part_in {s} {i} x h = here s i x.passed x.is h x.spells refl

-- where the name ends
after-name : (n u : Bytes) {l : List Attr} → is_name n ≡ true → Attributes [] u l → Reached (n ++ u) (length n)
after-name n u {l} e r =
    record {
      passed = [];
      used = [];
      left = l;
      inside = omega (arith, length-append n u);
      is = parts-name n u (name-bytes n e) ∙ ap (parts 0) (sym (drop-append_seam n u));
      spells = subst (λ (x : Bytes). Attributes [] x l) (sym (drop-append_seam n u)) r;
    }

start-reached : {w n t : Bytes} → StartTag false w n t → Reached w (length n)
start-reached (bare {n = n} e) = subst (λ (x : Bytes). Reached x (length n)) (append-nil n) (after-name n [] e none)
start-reached (attributed {n = n} {u = u} e p r) = after-name n u e r

pub tag-start : {s : Bytes} → IsTag s → Reached s (length (name_of s))
tag-start {s} x = subst (λ (n : Bytes). Reached s (length n)) (sym (start-raw x.start)) (start-reached x.start)

-- all the attributes of a tag stand after its name
pub tag-first : {s : Bytes} → IsTag s → parts 0 s ≡ parts 0 (drop (length (name_of s)) s)
unfolding parts
tag-first {s} x = rw (start-raw x.start) (first x.start)
  where
    first : {w n t : Bytes} → StartTag false w n t → parts 0 w ≡ parts 0 (drop (length n) w)
    first (bare {n = n} e) = name-bare n e ∙ sym (ap (parts 0) (drop-length n))
    first (attributed {n = n} {u = u} e p r) = parts-name n u (name-bytes n e) ∙ ap (parts 0) (sym (drop-append_seam n u))

-- where the tag ends
pub tag-end : {s : Bytes} → IsTag s → Reached s (length s)
unfolding parts
tag-end {s} x =
    record {
      passed = parts 0 s;
      used = [];
      left = [];
      inside = omega arith;
      is = sym (ap (λ (t : Bytes). parts 0 s ++ parts 0 t) (drop-length s) ∙ append-nil (parts 0 s));
      spells = rw (drop-length s) none;
    }

pub none_left : {s : Bytes} {i : ℕ} → Reached s i → length s ≤ i → parts 0 (drop i s) ≡ []
unfolding parts
none_left {s} {i} x h = let k = x.inside in let z : i ≡ length s = omega arith in ap (λ (j : ℕ). parts 0 (drop j s)) z ∙ ap (parts 0) (drop-length s)
