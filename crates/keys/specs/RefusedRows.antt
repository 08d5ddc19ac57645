-- The rows under which a key list and an address are refused.
use Prim.Native.Char.{code}
use Rattle.std.specs.Prelude.{◌≡◌, refl, Bool, true, false, not, List, [], ◌∷◌, ◌⊎◌, eqb, length}
use Rattle.std.proofs.Common.{sym, ap, ◌∙◌, inl, inr, ⊎_elim}
use Rattle.xml.specs.Bytes.{Bytes, same, split}
use Rattle.keys.specs.Result.{Refusal, Result, refused, ok, ◌>>=◌, ◌>>◌, refuse, refused_as, r3, r4, r12}
use Rattle.keys.specs.ResultLaws.{refused-ok}
use Rattle.keys.specs.KeyList.{KeyList, words, key_of, in_notation, contexts_in_notation, lines_of, keys_of, rules_kept, key_list}
use Rattle.keys.specs.NotationLaws.{lines-3}
use Rattle.keys.specs.Version.{Label}
use Rattle.keys.specs.Address.{steps_of, steps_known, write_address, address}

-- ---- the steps of a block
refused-inj : {A : Type 0} {n m : Refusal} → ◌≡◌ {A = Result A} (refused n) (refused m) → n ≡ m
refused-inj e = cc

-- refused by a test, or after it
pub refuse-row : {B : Type 0} (n : Refusal) (x : Bool) (s : Result B) {w : Refusal} → (refuse n x >> s) ≡ refused w → (w ≡ n) ⊎ (s ≡ refused w)
refuse-row n true s e = inl (sym (refused-inj e))
refuse-row n false s e = inr e

-- refused by a step, or after it
pub bind-row : {A B : Type 0} (r : Result A) (f : A → Result B) {w : Refusal} → (r >>= f) ≡ refused w → (r ≡ refused w) ⊎ ((a : A) × (r ≡ ok a) × (f a ≡ refused w))
bind-row (refused n) f e = inl (ap refused (refused-inj e))
bind-row (ok a) f e = inr (a, refl, e)

-- refused under a row, whatever the number was
pub refused_as-row : {A : Type 0} (n : Refusal) (r : Result A) {w : Refusal} → refused_as n r ≡ refused w → w ≡ n
refused_as-row n (refused m) e = sym (refused-inj e)
refused_as-row n (ok a) e = refused-ok (sym e)

-- ---- 3 or 4: a key list
keys-row : (ls : List Bytes) {w : Refusal} → keys_of ls ≡ refused w → w ≡ r3
unfolding keys_of
keys-row [] e = refused-ok (sym e)
keys-row (l ∷ ls) e =
    ⊎_elim (λ x. x) (λ x. ⊎_elim (keys-row ls) (λ y. refused-ok (sym y.2)) (bind-row (keys_of ls) _ x)) (refuse-row r3 (not (in_notation l (key_of (words l)))) _ e)

pub key_list-row : (s : Bytes) {w : Refusal} → key_list s ≡ refused w → (w ≡ r3) ⊎ (w ≡ r4)
unfolding key_list
key_list-row s {w} e = ⊎_elim (λ x. inl (lines x)) (λ x. ⊎_elim (λ y. inl (keys-row x.0 y)) (λ y. rules y.0 y.2) (bind-row (keys_of x.0) _ x.2)) (bind-row (lines_of (split (eqb (code "\n")) s)) _ e)
  where
    lines : lines_of (split (eqb (code "\n")) s) ≡ refused w → w ≡ r3
    lines x = ⊎_elim (λ y. sym (refused-inj (sym y ∙ x))) (λ y. refused-ok (sym x ∙ y.1)) (lines-3 (split (eqb (code "\n")) s))

    rules : (ks : KeyList) → (refuse r3 (not (contexts_in_notation ks)) >> (refuse r4 (not (rules_kept ks)) >> ok ks)) ≡ refused w → (w ≡ r3) ⊎ (w ≡ r4)
    rules ks x = ⊎_elim inl (λ y. ⊎_elim inr (λ z. refused-ok (sym z)) (refuse-row r4 (not (rules_kept ks)) _ y)) (refuse-row r3 (not (contexts_in_notation ks)) _ x)

-- ---- 12: an address
pub address-row : (K : KeyList) (s : Bytes) {w : Refusal} → address K s ≡ refused w → w ≡ r12
unfolding address
address-row K s {w} e = three (steps_of (split (eqb (code "/")) s)) e
  where
    three : (ls : List Label) → (refuse r12 (eqb (length ls) 0) >> (refuse r12 (not (steps_known K [] ls)) >> (refuse r12 (not (same s (write_address K [] ls))) >> ok ls))) ≡ refused w → w ≡ r12
    three ls x =
        ⊎_elim (λ y. y) (λ y. ⊎_elim (λ z. z) (λ z. ⊎_elim (λ u. u) (λ u. refused-ok (sym u)) (refuse-row r12 (not (same s (write_address K [] ls))) _ z)) (refuse-row r12 (not (steps_known K [] ls)) _ y)) (refuse-row r12 (eqb (length ls) 0) _ x)
