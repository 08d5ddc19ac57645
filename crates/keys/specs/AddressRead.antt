-- What `address` means: it accepts just the written forms of some known steps, and gives those.
use Prim.Native.Char.{code}
use Rattle.std.proofs.Common.{arith, sym, ◌∙◌, subst}
use Rattle.std.specs.Prelude.{◌≡◌, Bool, true, false, not, ◌&&◌, eqb, length}
use Rattle.std.proofs.Math.Path.{refl, ap, ap₂}
use mathlib.Core.List.{List, [], ◌∷◌, ◌++◌, map, append-nil}
use borrow.Author.Tests.{eqb-true, eq-eqb, eqb-false, ne_eqb, not-false}
use Rattle.xml.specs.Bytes.{Bytes, bytes, all, same, split, is_value, is_name}
use Rattle.xml.specs.BytesLaws.{same-is, same_self}
use Rattle.xml.specs.Truth.{clash, and_left, and_right}
use Rattle.xml.specs.SplitLaws.{Free, free-append, split-alone}
use Rattle.keys.specs.Result.{refused, ok, ◌>>◌, refuse, r12}
use Rattle.keys.specs.ResultLaws.{passed, ok-inj}
use Rattle.keys.specs.KeyList.{Path, KeyList, key_list, listed, key_names_at}
use Rattle.keys.specs.Version.{◌▸◌, Label, name_in}
use Rattle.keys.specs.Address.{values_in, write_address, steps_known, step_of, steps_of, address}
use Rattle.keys.specs.Named.{listed-name, key-names}
use Rattle.keys.specs.AddressText.{joined, conditions_text, conditions-text, step_text, step_texts, name-value, value-free, slash-off, split_at, step-read}

-- ---- a known step
pub record Known (K : KeyList) (p : Path) (l : Label) : Type 0 where
  pub place : listed K (p ▸ name_in l) ≡ true
  pub as_many : length (values_in l) ≡ length (key_names_at K (p ▸ name_in l))
  pub values : all is_value (values_in l) ≡ true

pub known : (K : KeyList) (p : Path) (l : Label) (ls : List Label) → steps_known K p (l ∷ ls) ≡ true → Known K p l × (steps_known K (p ▸ name_in l) ls ≡ true)
unfolding steps_known
known K p l ls e =
    let a = and_left (listed K (p ▸ name_in l) && eqb (length (values_in l)) (length (key_names_at K (p ▸ name_in l))) && all is_value (values_in l)) _ e in
    let b = and_left (listed K (p ▸ name_in l) && eqb (length (values_in l)) (length (key_names_at K (p ▸ name_in l)))) _ a in (
      record {
        place = and_left (listed K (p ▸ name_in l)) _ b;
        as_many = eqb-true _ _ (and_right (listed K (p ▸ name_in l)) _ b);
        values = and_right (listed K (p ▸ name_in l) && eqb (length (values_in l)) (length (key_names_at K (p ▸ name_in l)))) _ a;
      },
      and_right (listed K (p ▸ name_in l) && eqb (length (values_in l)) (length (key_names_at K (p ▸ name_in l))) && all is_value (values_in l)) _ e,
    )

pub known_more : (K : KeyList) (p : Path) (l : Label) (ls : List Label) → Known K p l → steps_known K (p ▸ name_in l) ls ≡ true → steps_known K p (l ∷ ls) ≡ true
unfolding steps_known
known_more K p l ls h e = rw (h.place, eq-eqb _ _ h.as_many, h.values) e

-- it is written behind a `/`
pub write_step : (K : KeyList) (p : Path) (l : Label) (ls : List Label) → Known K p l
    → write_address K p (l ∷ ls) ≡ code "/" ∷ (step_text (key_names_at K (p ▸ name_in l)) l ++ write_address K (p ▸ name_in l) ls)
unfolding write_address step_text bytes
write_step K p l ls h = rw (conditions-text (key_names_at K (p ▸ name_in l)) (values_in l) h.as_many) refl

-- ---- it holds no `/`
joined_free : (o : Bytes) (ks vs : List Bytes) → Free (eqb (code "/")) o → all is_name ks ≡ true → all is_value vs ≡ true → Free (eqb (code "/")) (joined o ks vs)
unfolding joined all bytes
joined_free o [] vs f a b = (refl, tt)
joined_free o (k ∷ ks) [] f a b = (refl, tt)
joined_free o (k ∷ ks) (v ∷ vs) f a b =
    let g = eqb (code "/") in
    let kf = value-free (code "/") k slash-off (name-value k (and_left (is_name k) _ a)) in
    let vf = value-free (code "/") v slash-off (and_left (is_value v) _ b) in
    free-append g o _ f (free-append g k _ kf (
      refl,
      (
        refl,
        free-append g v _ vf (
          refl,
          joined_free (bytes " and ") ks vs (refl, (refl, (refl, (refl, (refl, tt))))) (and_right (is_name k) _ a) (and_right (is_value v) _ b),
        ),
      ),
    ))

step-free : (ks : List Bytes) (l : Label) → is_name (name_in l) ≡ true → all is_name ks ≡ true → all is_value (values_in l) ≡ true → Free (eqb (code "/")) (step_text ks l)
unfolding step_text conditions_text bytes
step-free [] l h a b = free-append (eqb (code "/")) (name_in l) [] (value-free (code "/") (name_in l) slash-off (name-value (name_in l) h)) tt
step-free (k ∷ ks) l h a b =
    free-append (eqb (code "/")) (name_in l) _ (value-free (code "/") (name_in l) slash-off (name-value (name_in l) h)) (joined_free (bytes "[") (k ∷ ks) (values_in l) (refl, tt) a b)

module _ (text : Bytes) (K : KeyList) (e : key_list text ≡ ok K) where
  address-parts : (x : Bytes) (p : Path) (ls : List Label) → Free (eqb (code "/")) x → steps_known K p ls ≡ true → split (eqb (code "/")) (x ++ write_address K p ls) ≡ x ∷ step_texts K p ls
  unfolding write_address step_texts
  address-parts x p [] f h = rw append-nil (split-alone (eqb (code "/")) x f)
  address-parts x p (l ∷ ls) f h =
      let t = known K p l ls h in
      let k = t.0 in
      let q = p ▸ name_in l in
      let w = step_text (key_names_at K q) l in
      let free = step-free (key_names_at K q) l (listed-name text K e p (name_in l) k.place) (key-names text K e q) k.values in
      ap (λ z. split (eqb (code "/")) (x ++ z)) (write_step K p l ls k)
      ∙ split_at (code "/") x (w ++ write_address K q ls) f
      ∙ ap (λ z. x ∷ z) (address-parts w q ls free t.1)

  steps-read : (p : Path) (ls : List Label) → steps_known K p ls ≡ true → map step_of (step_texts K p ls) ≡ ls
  unfolding step_texts name_in values_in is_name
  steps-read p [] h = refl
  steps-read p ([] ∷ ls) h = clash (sym (listed-name text K e p [] (known K p [] ls h).0.place))
  steps-read p ((n ∷ vs) ∷ ls) h =
      let t = known K p (n ∷ vs) ls h in
      let k = t.0 in
      ap₂ (λ a b. a ∷ b)
      (step-read (key_names_at K (p ▸ n)) n vs (listed-name text K e p n k.place) (key-names text K e (p ▸ n)) k.values k.as_many)
      (steps-read (p ▸ n) ls t.1)

  -- a written address is accepted, and gives its steps
  pub address-written : (l : Label) (ls : List Label) → steps_known K [] (l ∷ ls) ≡ true → address K (write_address K [] (l ∷ ls)) ≡ ok (l ∷ ls)
  unfolding address steps_of
  address-written l ls h =
      let s = write_address K [] (l ∷ ls) in
      let d : steps_of (split (eqb (code "/")) s) ≡ l ∷ ls = ap steps_of (address-parts [] [] (l ∷ ls) tt h) ∙ steps-read [] (l ∷ ls) h in
      rw (d, h, same_self s, ne_eqb (length (l ∷ ls)) 0 (λ z. omega arith)) refl

-- ---- and what is accepted is a written address
pub record Accepted (K : KeyList) (s : Bytes) (ls : List Label) : Type 0 where
  pub written : s ≡ write_address K [] ls
  pub steps : steps_known K [] ls ≡ true
  pub some-step : length ls ≡ 0 → ⊥

pub address-accepted : (K : KeyList) (s : Bytes) (ls : List Label) → address K s ≡ ok ls → Accepted K s ls
unfolding address
address-accepted K s ls e =
    let ks = steps_of (split (eqb (code "/")) s) in
    let a = passed r12 (eqb (length ks) 0) _ ls e in
    let b = passed r12 (not (steps_known K [] ks)) _ ls a.1 in
    let c = passed r12 (not (same s (write_address K [] ks))) _ ls b.1 in
    subst (λ (z : List Label). Accepted K s z) (ok-inj c.1) (record {
      written = same-is s (write_address K [] ks) (not-false _ c.0);
      steps = not-false _ b.0;
      some-step = eqb-false (length ks) 0 a.0;
    })

-- anything else is refused under 12
pub address-refused : (K : KeyList) (s : Bytes) → ((ls : List Label) → Accepted K s ls → ⊥) → address K s ≡ refused r12
unfolding address
address-refused K s f =
    let ks = steps_of (split (eqb (code "/")) s) in
    go ks (eqb (length ks) 0) (steps_known K [] ks) (same s (write_address K [] ks)) (λ a b c. f ks (record { written = same-is s (write_address K [] ks) c; steps = b; some-step = eqb-false (length ks) 0 a }))
  where
    go : {A : Type 0} (a : A) (x y z : Bool) → (x ≡ false → y ≡ true → z ≡ true → ⊥) → (refuse r12 x >> (refuse r12 (not y) >> (refuse r12 (not z) >> ok a))) ≡ refused r12
    go a true y z h = refl
    go a false false z h = refl
    go a false true false h = refl
    go a false true true h = absurd (h refl refl refl)
