-- What stands in a start tag is scanned to its end, and what is scanned so is a name with attributes; what the tag means.
use Rattle.std.specs.Prelude.{ℕ, zero, suc, ◌+◌, ◌≤◌, ◌<◌, ◌≡◌, refl, Bool, true, false, ◌&&◌, List, [], ◌∷◌, ◌++◌, eqb, length, take, drop, get_or, Result, Ok, Err, Option, Some, None}
use Prim.Native.Char.{code}
use Rattle.std.proofs.Common.{add-zero, not-suc-le-zero, le_of_suc-le-suc, arith, ap, ap₂, sym, ◌∙◌, subst, append_assoc, eq-eqb, ne_eqb, eqb-true, length-append, length-drop, get_or-append-add, drop-cons, drop-drop, length-take-le}
use Rattle.std.proofs.Math.Seq.{take-append_seam, get_or-append_seam, drop-append-add, split_at}
use Rattle.xml.specs.Bytes.{Bytes, bytes, all, is_name_byte, bytes_compute}
use Rattle.xml.specs.Tags.{Attr, attr, is_quote, in_value, is_new, fresh, new_len}
use Rattle.xml.specs.Grammar.{Characters, Attributes, none, more}
use Rattle.xml.specs.Read.{value, attr_of, attr_byte, attrs, means}
use Rattle.xml.specs.Truth.{both, both_true}
use Rattle.xml.specs.TextLaws.{place}
use Rattle.xml.specs.StepLaws.{in-range}
use Rattle.xml.specs.Names.{name-short}
use Rattle.xml.specs.Fresh.{new-name, fresh-complete, fresh_len-fits, new_len-all}
use Rattle.xml.specs.Values.{by-quote, ValueIn, value-range, value-all, value-sound}

-- ---- the byte after a name, or after an attribute
abbrev pub value_at : Bytes → ℕ → Result ℕ ℕ
value_at s m = value (get_or s (1 + m) 0) 0 0 (drop (2 + m) s)

module _ (used : List Bytes) (b : ℕ) (s : Bytes) where
  -- an attribute may begin here
  abbrev pub Begins : Type 0
  Begins = eqb b (code " ") && fresh 32 used [] ≡ true

  abbrev pub Named : Bool → Type 0
  Named t = is_new used (take (new_len used s) s) && eqb (get_or s (new_len used s) 0) (code "=") ≡ t

  abbrev pub Quoted : Bool → Type 0
  Quoted t = is_quote (get_or s (1 + new_len used s) 0) ≡ t

  pub data AttrCase : Result (Option (ℕ × ℕ)) ℕ → Type 0 where
    over : eqb b (code " ") && fresh 32 used [] ≡ false → AttrCase (Ok None)
    unnamed : Begins → Named false → AttrCase (Err (1 + new_len used s))
    unquoted : Begins → Named true → Quoted false → AttrCase (Err (2 + new_len used s))
    stops : {k : ℕ} → Begins → Named true → Quoted true → value_at s (new_len used s) ≡ Err k → AttrCase (Err (3 + new_len used s + k))
    goes : {k : ℕ} → Begins → Named true → Quoted true → value_at s (new_len used s) ≡ Ok k → AttrCase (Ok (Some (3 + new_len used s + k, 0)))

  pub attr-over : eqb b (code " ") && fresh 32 used [] ≡ false → attr_byte used b s ≡ Ok None
  unfolding attr_byte
  attr-over e = rw (e, attr_byte)

  pub attr-unnamed : Begins → Named false → attr_byte used b s ≡ Err (1 + new_len used s)
  unfolding attr_byte attr_of
  attr-unnamed e h = rw (e, attr_byte) (rw (h, attr_of))

  pub attr-unquoted : Begins → Named true → Quoted false → attr_byte used b s ≡ Err (2 + new_len used s)
  unfolding attr_byte attr_of
  attr-unquoted e h g = rw (e, attr_byte) (rw (h, g, attr_of))

  pub attr-stops : (k : ℕ) → Begins → Named true → Quoted true → value_at s (new_len used s) ≡ Err k → attr_byte used b s ≡ Err (3 + new_len used s + k)
  unfolding attr_byte attr_of
  attr-stops k e h g i = rw (e, attr_byte) (rw (h, g, i, attr_of))

  pub attr-goes : (k : ℕ) → Begins → Named true → Quoted true → value_at s (new_len used s) ≡ Ok k → attr_byte used b s ≡ Ok (Some (3 + new_len used s + k, 0))
  unfolding attr_byte attr_of
  attr-goes k e h g i = rw (e, attr_byte) (rw (h, g, i, attr_of))

  pub attr-case : AttrCase (attr_byte used b s)
  attr-case =
      at (eqb b (code " ") && fresh 32 used []) refl (is_new used (take (new_len used s) s) && eqb (get_or s (new_len used s) 0) (code "=")) refl
      (is_quote (get_or s (1 + new_len used s) 0)) refl (value_at s (new_len used s)) refl
    where
      at : (x : Bool) → eqb b (code " ") && fresh 32 used [] ≡ x → (y : Bool) → Named y → (z : Bool) → Quoted z → (r : Result ℕ ℕ) → value_at s (new_len used s) ≡ r →
          AttrCase (attr_byte used b s)
      at false e y h z g r i = rw (attr-over e) (over e)
      at true e false h z g r i = rw (attr-unnamed e h) (unnamed e h)
      at true e true h false g r i = rw (attr-unquoted e h g) (unquoted e h g)
      at true e true h true g (Err k) i = rw (attr-stops k e h g i) (stops e h g i)
      at true e true h true g (Ok k) i = rw (attr-goes k e h g i) (goes e h g i)

  -- the bytes that it names stand in the text
  pub named_in : Named true → new_len used s < length s
  named_in h = in-range s (new_len used s) 60 (eqb-true (get_or s (new_len used s) 0) (code "=") (both_true (is_new used (take (new_len used s) s)) _ h).1)

pub quote-in : (s : Bytes) (i : ℕ) → is_quote (get_or s i 0) ≡ true → i < length s
quote-in s i e = by-quote (λ (x : ℕ). get_or s i 0 ≡ x → i < length s) (get_or s i 0) e (λ h. in-range s i 33 h) (λ h. in-range s i 38 h) refl

-- how far what a byte says reaches
abbrev pub AttrReach : ℕ → Result (Option (ℕ × ℕ)) ℕ → Type 0
AttrReach m (Ok None) = 0 ≤ m
AttrReach m (Ok (Some (k, r))) = k ≤ m
AttrReach m (Err k) = (1 ≤ k) × (k ≤ 1 + m)

pub attr-reach : (used : List Bytes) (b : ℕ) (s : Bytes) → AttrReach (length s) (attr_byte used b s)
attr-reach used b s = at (attr_byte used b s) (attr-case used b s)
  where
    fits : new_len used s ≤ length s
    fits = fresh_len-fits 32 used [] s

    at : (o : Result (Option (ℕ × ℕ)) ℕ) → AttrCase used b s o → AttrReach (length s) o
    at o (over e) = omega arith
    at o (unnamed e h) = omega (arith, fits)
    at o (unquoted e h g) = omega (arith, named_in used b s h)
    at o (stops {k = k} e h g i) =
        let r = subst (λ (x : Result ℕ ℕ). ValueIn (0 + 0) (0 + length (drop (2 + new_len used s) s)) x) i (value-range (get_or s (1 + new_len used s) 0) 0 0 (drop (2 + new_len used s) s) (omega arith)) in
        omega (arith, quote-in s (1 + new_len used s) g, length-drop (2 + new_len used s) s)
    at o (goes {k = k} e h g i) =
        let r = subst (λ (x : Result ℕ ℕ). ValueIn (0 + 0) (0 + length (drop (2 + new_len used s) s)) x) i (value-range (get_or s (1 + new_len used s) 0) 0 0 (drop (2 + new_len used s) s) (omega arith)) in
        omega (arith, quote-in s (1 + new_len used s) g, length-drop (2 + new_len used s) s)

-- ---- attributes one after another
abbrev pub attr_turn : List Bytes → ℕ → Bytes → Result (Option (ℕ × ℕ)) ℕ → Result ℕ ℕ
attr_turn used n s o = elim o [ Ok None ↦ Ok n | Ok (Some (k, r)) ↦ attrs (take (new_len used s) s ∷ used) k (n + 1) s | Err k ↦ Err (n + k) ]

pub attrs-cons : (used : List Bytes) (n b : ℕ) (s : Bytes) → attrs used 0 n (b ∷ s) ≡ attr_turn used n s (attr_byte used b s)
unfolding attrs
attrs-cons used n b s = refl

pub attrs-skip : (used : List Bytes) (k n : ℕ) (s : Bytes) → k ≤ length s → attrs used k n s ≡ attrs used 0 (n + k) (drop k s)
unfolding attrs
attrs-skip used zero n s h = rw add-zero
attrs-skip used (suc k) n [] h = absurd (not-suc-le-zero h)
attrs-skip used (suc k) n (b ∷ s) h = attrs-skip used k (n + 1) s (le_of_suc-le-suc h) ∙ ap (λ (m : ℕ). attrs used 0 m (drop k s)) (omega arith)

pub attrs-range : (used : List Bytes) (k n : ℕ) (s : Bytes) → k ≤ length s → (n + k ≤ place (attrs used k n s)) × (place (attrs used k n s) ≤ n + length s)
unfolding attrs
attrs-range used k n [] h = omega arith
attrs-range used (suc k) n (b ∷ s) h = let r = attrs-range used k (n + 1) s (le_of_suc-le-suc h) in omega arith
attrs-range used zero n (b ∷ s) h = turn (attr_byte used b s) (attr-reach used b s) (λ k g. attrs-range (take (new_len used s) s ∷ used) k (n + 1) s g)
  where
    turn : (o : Result (Option (ℕ × ℕ)) ℕ) → AttrReach (length s) o →
        ((k : ℕ) → k ≤ length s → (n + 1 + k ≤ place (attrs (take (new_len used s) s ∷ used) k (n + 1) s)) × (place (attrs (take (new_len used s) s ∷ used) k (n + 1) s) ≤ n + 1 + length s)) →
        (n + 0 ≤ place (attr_turn used n s o)) × (place (attr_turn used n s o) ≤ n + suc (length s))
    turn (Ok None) g f = omega arith
    turn (Ok (Some (k, r))) g f = let x = f k g in omega arith
    turn (Err k) g f = omega arith

-- ---- attributes are scanned
pub equals-name : is_name_byte (code "=") ≡ false
unfolding bytes_compute
equals-name = refl

-- an attribute, after its space
abbrev pub After : Bytes → ℕ → Bytes → Bytes → Bytes
After n q s u = n ++ code "=" ∷ q ∷ (s ++ q ∷ u)

pub more-text : (n s u t : Bytes) (q : ℕ) → (bytes " " ++ n ++ bytes "=" ++ (q ∷ s) ++ (q ∷ u)) ++ t ≡ code " " ∷ After n q s (u ++ t)
unfolding bytes
more-text n s u t q = simp append_assoc

module _ (used : List Bytes) (n : Bytes) {s v : Bytes} (q : ℕ) (w : Bytes) (new : is_new used n ≡ true) (quote : is_quote q ≡ true) (means : Characters s v) (within : all (in_value q) s ≡ true) where
  abbrev S : Bytes
  S = After n q s w

  one-len : new_len used S ≡ length n
  one-len = new_len-all used n (code "=") (q ∷ (s ++ q ∷ w)) new equals-name

  one_name : take (new_len used S) S ≡ n
  one_name = ap (λ (x : ℕ). take x S) one-len ∙ take-append_seam n (code "=" ∷ q ∷ (s ++ q ∷ w))

  one-quote : get_or S (1 + new_len used S) 0 ≡ q
  one-quote = ap (λ (x : ℕ). get_or S x 0) (add (new_len used S) (length n) one-len) ∙ get_or-append-add n (code "=" ∷ q ∷ (s ++ q ∷ w)) 1 0
    where
      add : (x y : ℕ) → x ≡ y → 1 + x ≡ y + 1
      add x y e = omega arith

  one-rest : drop (2 + new_len used S) S ≡ s ++ q ∷ w
  one-rest = ap (λ (x : ℕ). drop x S) (add (new_len used S) (length n) one-len) ∙ drop-append-add n (code "=" ∷ q ∷ (s ++ q ∷ w)) 2
    where
      add : (x y : ℕ) → x ≡ y → 2 + x ≡ y + 2
      add x y e = omega arith

  pub one-goes : attr_byte used (code " ") S ≡ Ok (Some (3 + new_len used S + length s, 0))
  one-goes =
      attr-goes used (code " ") S (length s)
      (both (eq-eqb (code " ") (code " ") refl) (fresh-complete n 32 used [] new (name-short n (new-name used n new))))
      (both (ap (is_new used) one_name ∙ new) (eq-eqb _ (code "=") (ap (λ (x : ℕ). get_or S x 0) one-len ∙ get_or-append_seam n (code "=") (q ∷ (s ++ q ∷ w)) 0)))
      (ap is_quote one-quote ∙ quote)
      (ap₂ (λ (x : ℕ) (y : Bytes). value x 0 0 y) one-quote one-rest ∙ value-all q 0 w quote means within ∙ ap Ok (zero-plus (length s)))
    where
      zero-plus : (x : ℕ) → 0 + x ≡ x
      zero-plus x = omega arith

  pub one-long : length S ≡ 3 + length n + length s + length w
  one-long = omega (arith, length-append n (code "=" ∷ q ∷ (s ++ q ∷ w)), length-append s (q ∷ w))

  one-drop : drop (3 + new_len used S + length s) S ≡ w
  one-drop =
      ap (λ (x : ℕ). drop x S) (add (new_len used S) (length n) one-len) ∙ drop-append-add n (code "=" ∷ q ∷ (s ++ q ∷ w)) (2 + (length s + 1))
      ∙ ap (λ (x : ℕ). drop x (code "=" ∷ q ∷ (s ++ q ∷ w))) two ∙ drop-append-add s (q ∷ w) 1
    where
      add : (x y : ℕ) → x ≡ y → 3 + x + length s ≡ y + (2 + (length s + 1))
      add x y e = omega arith

      two : 2 + (length s + 1) ≡ suc (suc (length s + 1))
      two = omega arith

  pub one-step : (at : ℕ) → attrs used 0 at (code " " ∷ S) ≡ attrs (n ∷ used) 0 (at + (4 + length n + length s)) w
  one-step at =
      let K : ℕ = 3 + new_len used S + length s in
      let l : K ≤ length S = omega (arith, one-long, one-len) in
      let m : at + 1 + K ≡ at + (4 + length n + length s) = omega (arith, one-len) in
      attrs-cons used at (code " ") S ∙ ap (attr_turn used at S) one-goes ∙ ap (λ (x : Bytes). attrs (x ∷ used) K (at + 1) S) one_name
      ∙ attrs-skip (n ∷ used) K (at + 1) S l ∙ ap₂ (λ (x : ℕ) (y : Bytes). attrs (n ∷ used) 0 x y) m one-drop

pub more-long : (n s u : Bytes) (q : ℕ) → length (bytes " " ++ n ++ bytes "=" ++ (q ∷ s) ++ (q ∷ u)) ≡ 4 + length n + length s + length u
more-long n s u q =
    omega (
      arith,
      ap length (more-text n s u [] q),
      length-append (bytes " " ++ n ++ bytes "=" ++ (q ∷ s) ++ (q ∷ u)) [],
      length-append n (code "=" ∷ q ∷ (s ++ q ∷ (u ++ []))),
      length-append s (q ∷ (u ++ [])),
      length-append u [],
    )

pub attrs-all : {used : List Bytes} {u : Bytes} {l : List Attr} (at c : ℕ) (t : Bytes) → Attributes used u l → (c ≡ code " " → ⊥) → attrs used 0 at (u ++ c ∷ t) ≡ Ok (at + length u)
attrs-all {used} at c t none d =
    attrs-cons used at c t ∙ ap (attr_turn used at t) (attr-over used c t (rw (ne_eqb c (code " ") d))) ∙ ap Ok (sym (add-zero at))
attrs-all {used} at c t (more {n = n} {s = s} {u = u} q new quote means within r) d =
    let m : at + (4 + length n + length s) + length u ≡ at + length (bytes " " ++ n ++ bytes "=" ++ (q ∷ s) ++ (q ∷ u)) = omega (arith, more-long n s u q) in
    ap (attrs used 0 at) (more-text n s u (c ∷ t) q) ∙ one-step used n q (u ++ c ∷ t) new quote means within at ∙ attrs-all (at + (4 + length n + length s)) c t r d ∙ ap Ok m

-- ---- what is scanned is attributes
pub record Tagged (used : List Bytes) (n m : ℕ) (s : Bytes) : Type 0 where
  pub raw : Bytes
  pub rest : Bytes
  pub list : List Attr
  pub is : s ≡ raw ++ rest
  pub long : m ≡ n + length raw
  pub spells : Attributes used raw list

-- the name of an attribute, `=`, a quote, and what comes after
pub parted : (s : Bytes) (m : ℕ) → get_or s m 0 ≡ code "=" → 1 + m < length s → s ≡ take m s ++ code "=" ∷ get_or s (1 + m) 0 ∷ drop (2 + m) s
parted s m e h =
    let i : suc m < length s = omega arith in
    let j : 1 + m ≡ suc m = omega arith in
    let k : 2 + m ≡ suc (suc m) = omega arith in
    split_at s m 0 (omega arith) ∙ ap₂ (λ (x : ℕ) (y : Bytes). take m s ++ x ∷ y) e (drop-cons s (suc m) 0 i)
    ∙ ap₂ (λ (x y : ℕ). take m s ++ code "=" ∷ get_or s x 0 ∷ drop y s) (sym j) (sym k)

-- an attribute that goes on for k bytes after its space
pub record Stands (used : List Bytes) (b : ℕ) (s : Bytes) (k : ℕ) : Type 0 where
  pub quote : ℕ
  pub raw : Bytes
  pub rest : Bytes
  pub meaning : Bytes
  pub new : is_new used (take (new_len used s) s) ≡ true
  pub quoted : is_quote quote ≡ true
  pub means : Characters raw meaning
  pub within : all (in_value quote) raw ≡ true
  pub is : b ∷ s ≡ code " " ∷ After (take (new_len used s) s) quote raw rest
  pub after : drop k s ≡ rest
  pub long : k ≡ 3 + new_len used s + length raw

pub attr-stands : (used : List Bytes) (b : ℕ) (s : Bytes) (k : ℕ) → Begins used b s → Named used b s true → Quoted used b s true → value_at s (new_len used s) ≡ Ok k → Stands used b s (3 + new_len used s + k)
attr-stands used b s k x z w v =
    let M = new_len used s in
    let q : ℕ = get_or s (1 + M) 0 in
    let new = both_true (is_new used (take M s)) (eqb (get_or s M 0) (code "=")) z in
    let r = value-sound (drop (2 + M) s) q 0 0 k w (omega arith) v in
    let l = r.long in
    let kr : 3 + M + k ≡ 2 + M + (length r.raw + 1) = omega arith in
    let c : b ≡ code " " = eqb-true b (code " ") (both_true (eqb b (code " ")) (fresh 32 used []) x).0 in
    record {
      quote = q;
      raw = r.raw;
      rest = r.rest;
      meaning = r.meaning;
      new = new.0;
      quoted = w;
      means = r.means;
      within = r.within;
      is = ap₂ (λ (i : ℕ) (j : Bytes). i ∷ j) c (parted s M (eqb-true (get_or s M 0) (code "=") new.1) (quote-in s (1 + M) w) ∙ ap (λ (j : Bytes). take M s ++ code "=" ∷ q ∷ j) r.is);
      after = ap (λ (i : ℕ). drop i s) kr ∙ sym (drop-drop (length r.raw + 1) (2 + M) s) ∙ ap (drop (length r.raw + 1)) r.is ∙ drop-append-add r.raw (q ∷ r.rest) 1;
      long = omega arith;
    }

pub attrs-sound : (s : Bytes) (used : List Bytes) (k n m : ℕ) → k ≤ length s → attrs used k n s ≡ Ok m → Tagged used (n + k) m (drop k s)
unfolding attrs
attrs-sound [] used zero n m l e =
    let i : n ≡ m = cc in
    record { raw = []; rest = []; list = []; is = refl; long = omega arith; spells = none }
attrs-sound [] used (suc k) n m l e = absurd (not-suc-le-zero l)
attrs-sound (b ∷ s) used (suc k) n m l e =
    let i : n + 1 + k ≡ n + suc k = omega arith in
    subst (λ (x : ℕ). Tagged used x m (drop k s)) i (attrs-sound s used k (n + 1) m (le_of_suc-le-suc l) e)
attrs-sound (b ∷ s) used zero n m l e =
    subst (λ (x : ℕ). Tagged used x m (b ∷ s)) (sym (add-zero n))
    (turn (attr_byte used b s) (attr-case used b s) (attr-reach used b s) (λ k g f. attrs-sound s (take (new_len used s) s ∷ used) k (n + 1) m g f) e)
  where
    apart : {A : Type 0} (x : ℕ) → Err x ≡ Ok m → A
    apart x h = let z : ◌≡◌ {A = ℕ} 0 1 = cc in absurd (omega arith)

    turn : (o : Result (Option (ℕ × ℕ)) ℕ) → AttrCase used b s o → AttrReach (length s) o →
        ((k : ℕ) → k ≤ length s → attrs (take (new_len used s) s ∷ used) k (n + 1) s ≡ Ok m → Tagged (take (new_len used s) s ∷ used) (n + 1 + k) m (drop k s)) →
        attr_turn used n s o ≡ Ok m → Tagged used n m (b ∷ s)
    turn o (over x) y f g =
        let i : n ≡ m = cc in
        record { raw = []; rest = b ∷ s; list = []; is = refl; long = omega arith; spells = none }
    turn o (unnamed x z) y f g = apart _ g
    turn o (unquoted x z w) y f g = apart _ g
    turn o (stops x z w v) y f g = apart _ g
    turn o (goes {k = k} x z w v) y f g =
        let name = take (new_len used s) s in
        let r = attr-stands used b s k x z w v in
        let h = f (3 + new_len used s + k) y g in
        let l = r.long in
        let hl = h.long in
        record {
          raw = bytes " " ++ name ++ bytes "=" ++ (r.quote ∷ r.raw) ++ (r.quote ∷ h.raw);
          rest = h.rest;
          list = attr name r.meaning ∷ h.list;
          is = r.is ∙ ap (λ (j : Bytes). code " " ∷ After name r.quote r.raw j) (sym r.after ∙ h.is) ∙ sym (more-text name r.raw h.raw h.rest r.quote);
          long = omega (arith, more-long name r.raw h.raw r.quote, length-take-le (new_len used s) s (fresh_len-fits 32 used [] s));
          spells = more r.quote r.new r.quoted r.means r.within h.spells;
        }
