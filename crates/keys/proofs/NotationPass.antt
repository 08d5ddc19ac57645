-- The notation pass: the lines read so far are keys, and what is read from the whole text is what the rest adds to them.
use Prim.Native.Nat.{ℕ, suc, ◌+◌, ◌<◌, ◌≤◌}
use native.Mathlib.Omega.{arith}
use mathlib.Core.Path.{◌≡◌, refl, sym, ◌∙◌, ap}
use mathlib.Core.Bool.{Bool, true, false, not, ◌&&◌}
use mathlib.Core.Logic.{◌⊎◌, inl, inr, ⊎_elim}
use mathlib.Core.List.{List, [], ◌∷◌, ◌++◌, append_assoc, append-nil}
use lib.Dec.{eqb}
use lib.ListN.{length, drop, get_or, drop_of_length-le}
use lib.Seq.{drop-cons}
use borrow.Author.Tests.{eqb-true, eqb-false}
use Rattle.model.specs.Masks.{clash}
use Rattle.xml.specs.Bytes.{Bytes, all, split}
use Rattle.xml.specs.Truth.{by-test, and_left, and_right, both}
use Rattle.keys.specs.Result.{Result, refused, ok, ◌>>=◌, r3}
use Rattle.keys.specs.KeyList.{Key, KeyList, write_key, words, key_of, in_notation, is_root_context, contexts_in_notation, lines_of, keys_of, key_list}
use Rattle.keys.specs.Notation.{Noted, AllNoted, write_lines, keys_read}
use Rattle.keys.specs.SpellLaws.{spelt}
use Rattle.keys.specs.NotationLaws.{keys_none, keys-line, lines-3, keys-cases, key-list-3, contexts-3}
use Rattle.keys.specs.LineRead.{LineIs, NoLine, InNotation, Upto}

-- ---- a text's keys are refused as not in the notation, or read
keys_of-3 : (ls : List Bytes) → (keys_of ls ≡ refused r3) ⊎ ((K : KeyList) × (keys_of ls ≡ ok K))
unfolding keys_of
keys_of-3 [] = inr ([], refl)
keys_of-3 (l ∷ ls) = go (in_notation l (key_of (words l))) refl (keys_of-3 ls)
  where
    go : (b : Bool) → in_notation l (key_of (words l)) ≡ b → (keys_of ls ≡ refused r3) ⊎ ((K : KeyList) × (keys_of ls ≡ ok K)) → (keys_of (l ∷ ls) ≡ refused r3) ⊎ ((K : KeyList) × (keys_of (l ∷ ls) ≡ ok K))
    go false e h = inl (rw e refl)
    go true e (inl h) = inl (rw e (rw h refl))
    go true e (inr h) = inr (key_of (words l) ∷ h.0, rw e (rw h.1 refl))

keys-3 : (s : Bytes) → (keys_read s ≡ refused r3) ⊎ ((K : KeyList) × (keys_read s ≡ ok K))
unfolding keys_read
keys-3 s = ⊎_elim (λ e. inl (ap (λ (z : Result (List Bytes)). z >>= keys_of) e)) (λ e. read e.0 e.1 (keys_of-3 e.0)) (lines-3 (split (eqb 10) s))
  where
    read : (ls : List Bytes) → lines_of (split (eqb 10) s) ≡ ok ls → (keys_of ls ≡ refused r3) ⊎ ((K : KeyList) × (keys_of ls ≡ ok K)) → (keys_read s ≡ refused r3) ⊎ ((K : KeyList) × (keys_read s ≡ ok K))
    read ls e (inl h) = inl (ap (λ (z : Result (List Bytes)). z >>= keys_of) e ∙ h)
    read ls e (inr h) = inr (h.0, ap (λ (z : Result (List Bytes)). z >>= keys_of) e ∙ h.1)

-- ---- lists of keys, one more at the end
lines_more : (J : KeyList) (k : Key) → write_lines (J ++ k ∷ []) ≡ write_lines J ++ (write_key k ++ 10 ∷ [])
unfolding write_lines
lines_more [] k = refl
lines_more (j ∷ J) k = ap (λ (z : Bytes). write_key j ++ 10 ∷ z) (lines_more J k) ∙ sym (append_assoc (write_key j) (10 ∷ write_lines J) (write_key k ++ 10 ∷ []))

noted_more : (J : KeyList) (k : Key) → AllNoted J → Noted k → AllNoted (J ++ k ∷ [])
noted_more [] k d e = (e, tt)
noted_more (j ∷ J) k d e = (d.0, noted_more J k d.1 e)

later_more : (J : KeyList) (k : Key) → all (λ j. not (is_root_context j.context)) J ≡ true → is_root_context k.context ≡ false → all (λ j. not (is_root_context j.context)) (J ++ k ∷ []) ≡ true
unfolding all
later_more [] k a e = both (ap not e) refl
later_more (j ∷ J) k a e = both (and_left (not (is_root_context j.context)) _ a) (later_more J k (and_right (not (is_root_context j.context)) _ a) e)

contexts-more : (J : KeyList) (k : Key) → contexts_in_notation J ≡ true → is_root_context k.context ≡ false → contexts_in_notation (J ++ k ∷ []) ≡ true
unfolding contexts_in_notation
contexts-more [] k a e = absurd (clash a refl)
contexts-more (j ∷ J) k a e = both (and_left (is_root_context j.context) _ a) (later_more J k (and_right (is_root_context j.context) _ a) e)

later-bad : (J : KeyList) (k : Key) (ks : KeyList) → is_root_context k.context ≡ true → all (λ j. not (is_root_context j.context)) (J ++ k ∷ ks) ≡ false
unfolding all
later-bad [] k ks e = rw e
later-bad (j ∷ J) k ks e = go (not (is_root_context j.context)) (later-bad J k ks e)
  where
    go : (b : Bool) → all (λ j. not (is_root_context j.context)) (J ++ k ∷ ks) ≡ false → (b && all (λ j. not (is_root_context j.context)) (J ++ k ∷ ks)) ≡ false
    go true ih = ih
    go false ih = refl

contexts-late : (J : KeyList) (k : Key) (ks : KeyList) → contexts_in_notation J ≡ true → is_root_context k.context ≡ true → contexts_in_notation (J ++ k ∷ ks) ≡ false
unfolding contexts_in_notation
contexts-late [] k ks a e = absurd (clash a refl)
contexts-late (j ∷ J) k ks a e = rw (later-bad J k ks e) (rw (and_left (is_root_context j.context) _ a) refl)

first-only : (J : KeyList) (k : Key) → J ≡ [] → is_root_context k.context ≡ true → contexts_in_notation (J ++ k ∷ []) ≡ true
unfolding contexts_in_notation all
first-only J k z e = rw z (both e refl)

first-not : (J : KeyList) (k : Key) (ks : KeyList) → J ≡ [] → is_root_context k.context ≡ false → contexts_in_notation (J ++ k ∷ ks) ≡ false
unfolding contexts_in_notation
first-not J k ks z e = rw z (rw e refl)

-- ---- the pass
bind_ok : {A : Type 0} (x : Result A) → x ≡ (x >>= λ a. ok a)
bind_ok (refused n) = refl
bind_ok (ok a) = refl

bind-two : (x : Result KeyList) (J : KeyList) (k : Key) → ((x >>= λ ks. ok (k ∷ ks)) >>= λ ks. ok (J ++ ks)) ≡ (x >>= λ ks. ok ((J ++ k ∷ []) ++ ks))
bind-two (refused n) J k = refl
bind-two (ok ks) J k = ap ok (sym (append_assoc J (k ∷ []) ks))

module _ (text : Bytes) where
  pub pass-starts : Upto text 0
  unfolding write_lines
  pass-starts = record { done = []; done-noted = tt; none = λ _. refl; some = λ f. absurd (f refl); is = refl; read = bind_ok (keys_read text); within = omega arith }

  pub start-done : pass-starts.done ≡ []
  unfolding pass-starts
  start-done = refl

  module _ (at : ℕ) (u : Upto text at) where
    pub pass-goes : (c n m : ℕ) → LineIs text at c n m → Upto text (m + 4)
    pass-goes c n m l =
        let k = l.key in
        let s = drop (m + 4) text in
        let x : drop at text ≡ write_key k ++ 10 ∷ s = l.is ∙ sym (spelt k (10 ∷ s)) in
        record {
          done = u.done ++ k ∷ [];
          done-noted = noted_more u.done k u.done-noted l.key-noted;
          none = λ z. absurd (omega arith);
          some = λ _. by-test (eqb at 0)
              (λ z. let y = u.none (eqb-true at 0 z) in first-only u.done k y (l.root ∙ z))
              (λ z. contexts-more u.done k (u.some (eqb-false at 0 z)) (l.root ∙ z));
          is = u.is ∙ ap (λ (z : Bytes). write_lines u.done ++ z) (x ∙ sym (append_assoc (write_key k) (10 ∷ []) s)) ∙ sym (append_assoc (write_lines u.done) (write_key k ++ 10 ∷ []) s) ∙ ap (λ (z : Bytes). z ++ s) (sym (lines_more u.done k));
          read = u.read ∙ ap (λ (z : Result KeyList). z >>= λ ks. ok (u.done ++ ks)) (ap keys_read x ∙ keys-line k s l.key-noted) ∙ bind-two (keys_read s) u.done k;
          within = l.within;
        }

    pub pass-done : (c n m : ℕ) (l : LineIs text at c n m) → (pass-goes c n m l).done ≡ u.done ++ l.key ∷ []
    unfolding pass-goes
    pass-done c n m l = refl

    -- a line that is no key's
    pub pass-fails : at < length text → NoLine text at → key_list text ≡ refused r3
    pass-fails h f = ⊎_elim (λ e. key-list-3 text (u.read ∙ ap (λ (z : Result KeyList). z >>= λ ks. ok (u.done ++ ks)) (ap keys_read (drop-cons text at 0 h) ∙ e)))
        (λ b. wrong b.key b.after b.key-noted (drop-cons text at 0 h ∙ b.is)) (keys-cases (get_or text at 0) (drop (suc at) text))
      where
        -- it is a key with the context that another line has
        wrong : (k : Key) (s : Bytes) → Noted k → drop at text ≡ write_key k ++ 10 ∷ s → key_list text ≡ refused r3
        wrong k s d x = ⊎_elim
            (λ e. key-list-3 text (u.read ∙ ap (λ (z : Result KeyList). z >>= λ ks. ok (u.done ++ ks)) (ap keys_read x ∙ keys-line k s d ∙ ap (λ (z : Result KeyList). z >>= λ ks. ok (k ∷ ks)) e)))
            (λ e. contexts-3 text (u.done ++ k ∷ e.0)
            (u.read ∙ ap (λ (z : Result KeyList). z >>= λ ks. ok (u.done ++ ks)) (ap keys_read x ∙ keys-line k s d ∙ ap (λ (z : Result KeyList). z >>= λ ks. ok (k ∷ ks)) e.1))
            (misfit e.0 (is_root_context k.context) refl (eqb at 0) refl)) (keys-3 s)
          where
            misfit : (ks : KeyList) (b : Bool) → is_root_context k.context ≡ b → (t : Bool) → eqb at 0 ≡ t → contexts_in_notation (u.done ++ k ∷ ks) ≡ false
            misfit ks true e true g = absurd (f k s d (e ∙ sym g) (x ∙ spelt k (10 ∷ s)))
            misfit ks false e false g = absurd (f k s d (e ∙ sym g) (x ∙ spelt k (10 ∷ s)))
            misfit ks true e false g = contexts-late u.done k ks (u.some (eqb-false at 0 g)) e
            misfit ks false e true g = first-not u.done k ks (u.none (eqb-true at 0 g)) e

    pub pass-ends : length text ≤ at → (at ≡ 0 → ⊥) → InNotation text
    pass-ends h f = record { keys = u.done; all_noted = u.done-noted; contexts = u.some f; is = u.is ∙ ap (λ (z : Bytes). write_lines u.done ++ z) (drop_of_length-le text h) ∙ append-nil (write_lines u.done) }

    pub pass-empty : length text ≤ at → at ≡ 0 → key_list text ≡ refused r3
    unfolding contexts_in_notation
    pass-empty h z =
        contexts-3 text [] (u.read ∙ ap (λ (z : Result KeyList). z >>= λ ks. ok (u.done ++ ks)) (ap keys_read (drop_of_length-le text h) ∙ keys_none) ∙ ap ok (append-nil u.done ∙ u.none z)) refl
