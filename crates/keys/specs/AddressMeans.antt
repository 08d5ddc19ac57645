-- Reading an address step by step gives what `address` says.
use Prim.Native.Nat.{ℕ, zero, suc, ◌+◌, ◌≤◌}
use Prim.Native.Char.{code}
use Rattle.std.proofs.Common.{arith, sym, ◌∙◌, subst, length-append, take-append-drop, eqb-true}
use Rattle.std.specs.Prelude.{◌≡◌, true, false, eqb, drop}
use Rattle.std.proofs.Math.Path.{refl, ap, ap₂}
use Rattle.std.proofs.Math.Option.{Option, none, some}
use mathlib.Core.List.{List, [], ◌∷◌, ◌++◌, map, map-append, append-nil, append_assoc}
use Rattle.std.proofs.Math.ListN.{length, take}
use Rattle.std.proofs.Math.Seq.{take-append_seam, drop-append_seam}
use Rattle.xml.specs.Bytes.{Bytes, bytes, is_name}
use Rattle.xml.specs.Read.{name_rest}
use Rattle.xml.specs.Truth.{clash, by-test}
use Rattle.keys.specs.Result.{ok}
use Rattle.keys.specs.KeyList.{Path, KeyList, key_list, listed, key_names_at}
use Rattle.keys.specs.Version.{◌▸◌, Label, name_in}
use Rattle.keys.specs.Address.{values_in, write_address, steps_known, address}
use Rattle.keys.specs.Named.{listed-name, listed-short}
use Rattle.keys.specs.AddressText.{joined, conditions_text, step_text, name-value, value-bytes, slash-off, bracket-off}
use Rattle.keys.specs.AddressRead.{Known, known, known_more, write_step, Accepted, address-written, address-refused}
use Rattle.keys.specs.AddressScan.{conditions, labelled, named, step_in, steps_from, steps}
use Rattle.keys.specs.AddressCuts.{none-some, some_inj, Stops, run-all, value-short}
use Rattle.keys.specs.AddressConditions.{conditions-sound, conditions-own}

-- ---- one step
pub named-listed : (K : KeyList) (p : Path) (s : Bytes) (m : ℕ) → listed K (p ▸ take m s) ≡ true
    → named K p s m ≡ labelled (take m s) (conditions (key_names_at K (p ▸ take m s)) (drop m s))
unfolding named
named-listed K p s m h = rw (h, named)

pub named-unlisted : (K : KeyList) (p : Path) (s : Bytes) (m : ℕ) → listed K (p ▸ take m s) ≡ false → named K p s m ≡ none
unfolding named
named-unlisted K p s m h = rw (h, named)

-- a step that is read: it is known, and this is its text
record Read (K : KeyList) (p : Path) (s : Bytes) (l : Label) (r : Bytes) : Type 0 where
  is_known : Known K p l
  text-is : s ≡ code "/" ∷ (step_text (key_names_at K (p ▸ name_in l)) l ++ r)

label-read : (K : KeyList) (p : Path) (s : Bytes) (m : ℕ) (x : Option (List Bytes × Bytes)) (l : Label) (r : Bytes)
    → conditions (key_names_at K (p ▸ take m s)) (drop m s) ≡ x → listed K (p ▸ take m s) ≡ true → labelled (take m s) x ≡ some (l, r) → Read K p (code "/" ∷ s) l r
unfolding labelled name_in values_in step_text
label-read K p s m none l r c h e = none-some e
label-read K p s m (some x) l r c h e =
    let q = some_inj e in
    let n = take m s in
    let t = conditions-sound (key_names_at K (p ▸ n)) (drop m s) x.0 x.1 c in
    subst (λ (z : Label × Bytes). Read K p (code "/" ∷ s) z.0 z.1) q (record {
      is_known = record { place = h; as_many = t.0; values = t.1 };
      text-is = ap (λ z. code "/" ∷ z) (sym (take-append-drop m s) ∙ ap (λ z. n ++ z) t.2 ∙ sym (append_assoc n _ x.1));
    })

step-sound : (K : KeyList) (p : Path) (s : Bytes) (l : Label) (r : Bytes) → step_in K p s ≡ some (l, r) → Read K p s l r
unfolding step_in
step-sound K p [] l r e = none-some e
step-sound K p (b ∷ s) l r e =
    by-test (eqb b (code "/"))
    (λ t. subst (λ (c : ℕ). Read K p (c ∷ s) l r) (sym (eqb-true b (code "/") t))
    (by-test (listed K (p ▸ take (name_rest 33 s) s))
    (λ h. label-read K p s (name_rest 33 s) _ l r refl h (sym (named-listed K p s (name_rest 33 s) h) ∙ (rw (t, step_in) at e)))
    (λ h. none-some (sym (named-unlisted K p s (name_rest 33 s) h) ∙ (rw (t, step_in) at e)))))
    (λ t. none-some (rw (t, step_in) at e))

-- what follows a name of a step is no byte of it
conditions-stop : (ks vs : List Bytes) (r : Bytes) → length vs ≡ length ks → Stops r → Stops (conditions_text ks vs ++ r)
unfolding conditions_text joined bytes
conditions-stop [] vs r l h = h
conditions-stop (k ∷ ks) [] r l h = absurd (omega arith)
conditions-stop (k ∷ ks) (v ∷ vs) r l h = bracket-off

pub step-slash : (K : KeyList) (p : Path) (s : Bytes) → step_in K p (code "/" ∷ s) ≡ named K p s (name_rest 33 s)
unfolding step_in
step-slash K p s = refl

module _ (text : Bytes) (K : KeyList) (e : key_list text ≡ ok K) where
  step-own : (p : Path) (l : Label) (r : Bytes) → Known K p l → Stops r → step_in K p (code "/" ∷ (step_text (key_names_at K (p ▸ name_in l)) l ++ r)) ≡ some (l, r)
  unfolding name_in values_in step_text is_name labelled
  step-own p [] r h stop = clash (sym (listed-name text K e p [] h.place))
  step-own p (n ∷ vs) r h stop =
      let ks = key_names_at K (p ▸ n) in
      let t = conditions_text ks vs ++ r in
      let s = n ++ t in
      let v = name-value n (listed-name text K e p n h.place) in
      let m : name_rest 33 s ≡ length n = run-all n 33 t (value-bytes n v) (omega (arith, (value-short n v).1)) (conditions-stop ks vs r h.as_many stop) in
      let a : take (length n) s ≡ n = take-append_seam n t in
      ap (λ z. step_in K p (code "/" ∷ z)) (append_assoc n (conditions_text ks vs) r)
      ∙ step-slash K p s
      ∙ ap (named K p s) m
      ∙ named-listed K p s (length n) (ap (λ z. listed K (p ▸ z)) a ∙ h.place)
      ∙ ap₂ (λ x y. labelled x (conditions (key_names_at K (p ▸ x)) y)) a (drop-append_seam n t)
      ∙ ap (labelled n) (conditions-own ks vs r h.as_many h.values)

-- ---- the steps
record AllRead (K : KeyList) (done : List Label) (s : Bytes) (ls : List Label) : Type 0 where
  new : List Label
  all_are : ls ≡ done ++ new
  text-is : s ≡ write_address K (map name_in done) new
  are-known : steps_known K (map name_in done) new ≡ true

none_left : (K : KeyList) (done ls : List Label) → some done ≡ some ls → AllRead K done [] ls
unfolding write_address steps_known
none_left K done ls e = record { new = []; all_are = sym (some_inj e) ∙ sym (append-nil done); text-is = refl; are-known = refl }

pub path-next : (done : List Label) (l : Label) → map name_in (done ++ l ∷ []) ≡ map name_in done ▸ name_in l
path-next done l = map-append name_in done (l ∷ [])

steps-sound : (k : ℕ) (K : KeyList) (done : List Label) (s : Bytes) (ls : List Label) → steps_from k K done s ≡ some ls → AllRead K done s ls
unfolding steps_from
steps-sound zero K done [] ls e = none_left K done ls e
steps-sound zero K done (b ∷ s) ls e = none-some e
steps-sound (suc k) K done [] ls e = none_left K done ls e
steps-sound (suc k) K done (b ∷ s) ls e = go (step_in K (map name_in done) (b ∷ s)) refl (λ l r f. steps-sound k K (done ++ l ∷ []) r ls f) e
  where
    p : Path
    p = map name_in done

    go : (x : Option (Label × Bytes)) → step_in K p (b ∷ s) ≡ x → ((l : Label) (r : Bytes) → steps_from k K (done ++ l ∷ []) r ≡ some ls → AllRead K (done ++ l ∷ []) r ls)
        → ◌≡◌ {A = Option (List Label)} (elim x as (λ _. Option (List Label)) [ none ↦ none | some x ↦ steps_from k K (done ++ x.0 ∷ []) x.1 ]) (some ls) → AllRead K done (b ∷ s) ls
    go none c ih f = none-some f
    go (some x) c ih f =
        let h = step-sound K p (b ∷ s) x.0 x.1 c in
        let m = ih x.0 x.1 f in
        let q = path-next done x.0 in
        record {
          new = x.0 ∷ m.new;
          all_are = m.all_are ∙ append_assoc done (x.0 ∷ []) m.new;
          text-is =
              h.text-is
              ∙ ap (λ z. code "/" ∷ (step_text (key_names_at K (p ▸ name_in x.0)) x.0 ++ z)) (m.text-is ∙ ap (λ z. write_address K z m.new) q)
              ∙ sym (write_step K p x.0 m.new h.is_known);
          are-known = known_more K p x.0 m.new h.is_known (sym (ap (λ z. steps_known K z m.new) q) ∙ m.are-known);
        }

-- a written address ends a step before it
address-stops : (K : KeyList) (p : Path) (ls : List Label) → steps_known K p ls ≡ true → Stops (write_address K p ls)
unfolding write_address
address-stops K p [] h = tt
address-stops K p (l ∷ ls) h = subst Stops (sym (write_step K p l ls (known K p l ls h).0)) slash-off

module _ (text : Bytes) (K : KeyList) (e : key_list text ≡ ok K) where
  steps-own : (k : ℕ) (done new : List Label) → steps_known K (map name_in done) new ≡ true → length new ≤ k → steps_from k K done (write_address K (map name_in done) new) ≡ some (done ++ new)
  unfolding steps_from write_address
  steps-own zero done [] h l = ap some (sym (append-nil done))
  steps-own zero done (x ∷ new) h l = absurd (omega arith)
  steps-own (suc k) done [] h l = ap some (sym (append-nil done))
  steps-own (suc k) done (x ∷ new) h l =
      let p = map name_in done in
      let t = known K p x new h in
      let r = write_address K (p ▸ name_in x) new in
      let q = path-next done x in
      ap (steps_from (suc k) K done) (write_step K p x new t.0)
      ∙ ap (λ (y : Option (Label × Bytes)). elim y as (λ _. Option (List Label)) [ none ↦ none | some y ↦ steps_from k K (done ++ y.0 ∷ []) y.1 ]) (step-own text K e p x r t.0 (address-stops K (p ▸ name_in x) new t.1))
      ∙ ap (λ z. steps_from k K (done ++ x ∷ []) (write_address K z new)) (sym q)
      ∙ steps-own k (done ++ x ∷ []) new (ap (λ z. steps_known K z new) q ∙ t.1) (omega arith)
      ∙ ap some (append_assoc done (x ∷ []) new)

  -- eight steps at most
  known-short : (p : Path) (ls : List Label) → length p ≤ 8 → steps_known K p ls ≡ true → length p + length ls ≤ 8
  known-short p [] l h = omega arith
  known-short p (x ∷ ls) l h =
      let t = known K p x ls h in
      let a = known-short (p ▸ name_in x) ls (listed-short text K e (p ▸ name_in x) t.0.place) t.1 in
      omega (arith, a, length-append p (name_in x ∷ []))

  pub scan-means : (s : Bytes) → address K s ≡ steps (steps_from 8 K [] s)
  unfolding steps
  scan-means s = go (steps_from 8 K [] s) refl
    where
      all_of : (ls : List Label) → Accepted K s ls → steps_from 8 K [] s ≡ some ls
      all_of ls a = ap (steps_from 8 K []) a.written ∙ steps-own 8 [] ls a.steps (omega (arith, known-short [] ls (omega arith) a.steps))

      go : (x : Option (List Label)) → steps_from 8 K [] s ≡ x → address K s ≡ steps x
      go none c = address-refused K s (λ ls a. none-some (sym c ∙ all_of ls a))
      go (some []) c = address-refused K s (λ ls a. a.some-step (ap length (some_inj (sym (all_of ls a) ∙ c))))
      go (some (l ∷ ls)) c =
          let m = steps-sound 8 K [] s (l ∷ ls) c in
          ap (address K) (m.text-is ∙ ap (write_address K []) (sym m.all_are)) ∙ address-written text K e l ls (ap (steps_known K []) m.all_are ∙ m.are-known)
