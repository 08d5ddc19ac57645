-- The text of an address, step by step, and that it has one reading: `address` accepts just the written forms of known steps.
use Rattle.std.specs.Prelude.{ℕ, ◌≡◌, refl, true, false, ◌&&◌, eqb, leb, length}
use Prim.Native.Char.{code}
use Rattle.std.proofs.Common.{arith, sym, ◌∙◌, ap, ap₂, eqb-true, eq-eqb}
use mathlib.Core.List.{List, [], ◌∷◌, ◌++◌, zip_with, append-nil, append_assoc}
use Rattle.xml.specs.Bytes.{Bytes, bytes, all, split, join_by, is_start, is_name_byte, is_value, is_name, bytes_compute}
use Rattle.xml.specs.Truth.{clash, not_so, and_left, and_right}
use Rattle.xml.specs.SplitLaws.{Free, free-append, free_all, split-free, split-alone, split-sep}
use Rattle.keys.specs.KeyList.{Path, KeyList, key_names_at}
use Rattle.keys.specs.Version.{◌▸◌, Label, name_in}
use Rattle.keys.specs.Address.{write_conditions, values_in, seconds, step_of}

-- ---- the conditions, one after another, each behind what opens it
unfoldable pub joined : Bytes → List Bytes → List Bytes → Bytes
joined o [] vs = bytes "]"
joined o (k ∷ ks) [] = bytes "]"
joined o (k ∷ ks) (v ∷ vs) = o ++ (k ++ (bytes "=\"" ++ (v ++ (bytes "\"" ++ joined (bytes " and ") ks vs))))

unfoldable pub conditions_text : List Bytes → List Bytes → Bytes
conditions_text [] vs = []
conditions_text (k ∷ ks) vs = joined (bytes "[") (k ∷ ks) vs

one : Bytes → Bytes → Bytes
one n v = n ++ bytes "=\"" ++ v ++ bytes "\""

joined-join_by : (o k v : Bytes) (ks vs : List Bytes) → o ++ (join_by (bytes " and ") (zip_with one (k ∷ ks) (v ∷ vs)) ++ bytes "]") ≡ joined o (k ∷ ks) (v ∷ vs)
unfolding joined join_by zip_with one
joined-join_by o k v [] vs = simp append_assoc
joined-join_by o k v (j ∷ ks) [] = simp append_assoc
joined-join_by o k v (j ∷ ks) (w ∷ vs) = simp append_assoc (ap (λ z. o ++ (k ++ (bytes "=\"" ++ (v ++ (bytes "\"" ++ z))))) (joined-join_by (bytes " and ") j w ks vs))

pub conditions-text : (ks vs : List Bytes) → length vs ≡ length ks → write_conditions ks vs ≡ conditions_text ks vs
unfolding write_conditions conditions_text one
conditions-text [] vs e = refl
conditions-text (k ∷ ks) [] e = absurd (omega arith)
conditions-text (k ∷ ks) (v ∷ vs) e = append_assoc (bytes "[") (join_by (bytes " and ") (zip_with one (k ∷ ks) (v ∷ vs))) (bytes "]") ∙ joined-join_by (bytes "[") k v ks vs

-- ---- names and values hold no separator
apart : (c b : ℕ) → is_name_byte c ≡ false → is_name_byte b ≡ true → eqb c b ≡ false
apart c b e h = not_so (eqb c b) (λ t. clash (sym h ∙ ap is_name_byte (sym (eqb-true c b t)) ∙ e))

pub value-bytes : (v : Bytes) → is_value v ≡ true → all is_name_byte v ≡ true
unfolding is_value
value-bytes v e = and_right (leb 1 (length v) && leb (length v) 32) _ e

pub name-value : (n : Bytes) → is_name n ≡ true → is_value n ≡ true
unfolding is_name
name-value [] e = clash (sym e)
name-value (b ∷ n) e = and_right (is_start b) _ e

pub value-free : (c : ℕ) (v : Bytes) → is_name_byte c ≡ false → is_value v ≡ true → Free (eqb c) v
value-free c v e h = free_all is_name_byte (eqb c) (λ b t. apart c b e t) v (value-bytes v h)

pub slash-off : is_name_byte (code "/") ≡ false
unfolding bytes_compute
slash-off = refl

pub bracket-off : is_name_byte (code "[") ≡ false
unfolding bytes_compute
bracket-off = refl

pub quote-off : is_name_byte (code "\"") ≡ false
unfolding bytes_compute
quote-off = refl

-- ---- the values of a step are what stands between quotes
-- a part without the separator, the separator, and the rest
pub split_at : (c : ℕ) (s t : Bytes) → Free (eqb c) s → split (eqb c) (s ++ (c ∷ t)) ≡ s ∷ split (eqb c) t
split_at c s t h = split-free (eqb c) s (c ∷ t) [] (split (eqb c) t) h (split-sep (eqb c) c t (eq-eqb c c refl)) ∙ ap (λ z. z ∷ split (eqb c) t) (append-nil s)

joined-values : (x o : Bytes) (ks vs : List Bytes) → Free (eqb (code "\"")) x → Free (eqb (code "\"")) o → all is_name ks ≡ true → all is_value vs ≡ true → length vs ≡ length ks
    → seconds (split (eqb (code "\"")) (x ++ joined o ks vs)) ≡ vs
unfolding joined all seconds bytes
joined-values x o [] [] f g a b e = ap seconds (split-alone (eqb (code "\"")) (x ++ bytes "]") (free-append (eqb (code "\"")) x (bytes "]") f (refl, tt)))
joined-values x o [] (v ∷ vs) f g a b e = absurd (omega arith)
joined-values x o (k ∷ ks) [] f g a b e = absurd (omega arith)
joined-values x o (k ∷ ks) (v ∷ vs) f g a b e =
    let kf = value-free (code "\"") k quote-off (name-value k (and_left (is_name k) _ a)) in
    let vf = value-free (code "\"") v quote-off (and_left (is_value v) _ b) in
    let ef = free-append (eqb (code "\"")) x (o ++ (k ++ bytes "=")) f (free-append (eqb (code "\"")) o (k ++ bytes "=") g (free-append (eqb (code "\"")) k (bytes "=") kf (refl, tt))) in
    let J = joined (bytes " and ") ks vs in
    let p : x ++ (o ++ (k ++ (bytes "=\"" ++ (v ++ (bytes "\"" ++ J))))) ≡ (x ++ (o ++ (k ++ bytes "="))) ++ (code "\"" ∷ (v ++ (code "\"" ∷ J))) = simp append_assoc in
    ap (λ z. seconds (split (eqb (code "\"")) z)) p
    ∙ ap seconds (split_at (code "\"") (x ++ (o ++ (k ++ bytes "="))) (v ++ (code "\"" ∷ J)) ef ∙ ap (λ z. (x ++ (o ++ (k ++ bytes "="))) ∷ z) (split_at (code "\"") v J vf))
    ∙ ap (λ z. v ∷ z) (joined-values [] (bytes " and ") ks vs tt (refl, (refl, (refl, (refl, (refl, tt))))) (and_right (is_name k) _ a) (and_right (is_value v) _ b) (omega arith))

-- ---- a step that is written is read back
unfoldable pub step_text : List Bytes → Label → Bytes
step_text ks l = name_in l ++ conditions_text ks (values_in l)

pub step-read : (ks : List Bytes) (n : Bytes) (vs : List Bytes) → is_name n ≡ true → all is_name ks ≡ true → all is_value vs ≡ true → length vs ≡ length ks → step_of (step_text ks (n ∷ vs)) ≡ n ∷ vs
unfolding step_of step_text conditions_text name_in values_in seconds joined bytes
step-read [] n [] h a b e =
    let m = name-value n h in
    rw append-nil (ap₂ (λ x y. name_in x ∷ seconds y) (split-alone (eqb (code "[")) n (value-free (code "[") n bracket-off m)) (split-alone (eqb (code "\"")) n (value-free (code "\"") n quote-off m)))
step-read [] n (v ∷ vs) h a b e = absurd (omega arith)
step-read (k ∷ ks) n [] h a b e = absurd (omega arith)
step-read (k ∷ ks) n (v ∷ vs) h a b e =
    let m = name-value n h in
    ap₂ (λ x y. x ∷ y) (ap name_in (split_at (code "[") n (k ++ (bytes "=\"" ++ (v ++ (bytes "\"" ++ joined (bytes " and ") ks vs)))) (value-free (code "[") n bracket-off m)))
    (joined-values n (bytes "[") (k ∷ ks) (v ∷ vs) (value-free (code "\"") n quote-off m) (refl, tt) a b e)

-- the steps' texts
unfoldable pub step_texts : KeyList → Path → List Label → List Bytes
step_texts K p [] = []
step_texts K p (l ∷ ls) = step_text (key_names_at K (p ▸ name_in l)) l ∷ step_texts K (p ▸ name_in l) ls
