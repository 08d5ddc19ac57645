-- What is read from a text line by line: a key that its first line is, or refusal 3.
use Rattle.std.specs.Prelude.{ℕ, ◌≡◌, refl, Bool, true, false, not, ◌⊎◌, List, [], ◌∷◌, ◌++◌, eqb}
use Prim.Native.Char.{code}
use Rattle.std.proofs.Common.{sym, ◌∙◌, ap, inl, inr, ⊎_elim, append-nil, eqb-true}
use Rattle.xml.specs.Bytes.{Bytes, is_empty, push, split}
use Rattle.xml.specs.SplitLaws.{Free, split-free, split-alone, split-sep}
use Rattle.xml.specs.Truth.{by-test}
use Rattle.keys.specs.Result.{Result, refused, ok, ◌>>=◌, ◌>>◌, refuse, r3, r4}
use Rattle.keys.specs.KeyList.{Key, KeyList, write_key, words, key_of, in_notation, contexts_in_notation, lines_of, keys_of, rules_kept, key_list}
use Rattle.keys.specs.Notation.{Noted, AllNoted, write_lines, keys_read}
use Rattle.keys.specs.SpellLaws.{key_back, noted, noted-inv, line-free}

-- the first line of a text, if it has an LF
record First (s : Bytes) : Type 0 where
  line : Bytes
  after : Bytes
  is : s ≡ line ++ 10 ∷ after
  free : Free (eqb 10) line

first-line : (s : Bytes) → Free (eqb 10) s ⊎ First s
first-line [] = inl tt
first-line (b ∷ s) = by-test (eqb 10 b)
    (λ e. inr (record { line = []; after = s; is = ap (λ (x : ℕ). x ∷ s) (sym (eqb-true 10 b e)); free = tt }))
    (λ e. ⊎_elim (λ f. inl (e, f)) (λ f. inr (record { line = b ∷ f.line; after = f.after; is = ap (λ (x : Bytes). b ∷ x) f.is; free = (e, f.free) })) (first-line s))

-- every text has at least a part
split-some : (f : ℕ → Bool) (s : Bytes) → (w : Bytes) × (ws : List Bytes) × (split f s ≡ w ∷ ws)
unfolding split push
split-some f [] = ([], [], refl)
split-some f (b ∷ s) = go (f b) refl (split-some f s)
  where
    go : (t : Bool) → f b ≡ t → ((w : Bytes) × (ws : List Bytes) × (split f s ≡ w ∷ ws)) → (w : Bytes) × (ws : List Bytes) × (split f (b ∷ s) ≡ w ∷ ws)
    go true e h = ([], split f s, split-sep f b s e)
    go false e h = (b ∷ h.0, h.1, rw (e, split) (rw h.2 refl))

-- the lines of a text that has a first one
lines-first : (w s : Bytes) → Free (eqb 10) w → lines_of (split (eqb 10) (w ++ 10 ∷ s)) ≡ (lines_of (split (eqb 10) s) >>= λ ls. ok (w ∷ ls))
unfolding lines_of
lines-first w s f =
    let t = split-some (eqb 10) s in
    ap lines_of (split-free (eqb 10) w (10 ∷ s) [] (split (eqb 10) s) f (split-sep (eqb 10) 10 s refl) ∙ ap (λ (z : Bytes). z ∷ split (eqb 10) s) (append-nil w))
    ∙ rw t.2

pub keys_none : keys_read [] ≡ ok []
unfolding keys_read lines_of keys_of split is_empty
keys_none = refl

-- of lines, the first and the others
then-line : (k : Key) (w : Bytes) (x : Result (List Bytes)) → in_notation w (key_of (words w)) ≡ true → key_of (words w) ≡ k
    → ((x >>= λ ls. ok (w ∷ ls)) >>= keys_of) ≡ ((x >>= keys_of) >>= λ ks. ok (k ∷ ks))
unfolding keys_of
then-line k w (refused n) e f = refl
then-line k w (ok ls) e f = rw (e, f)

pub keys-line : (k : Key) (s : Bytes) → Noted k → keys_read (write_key k ++ 10 ∷ s) ≡ (keys_read s >>= λ ks. ok (k ∷ ks))
unfolding keys_read
keys-line k s d =
    ap (λ (z : Result (List Bytes)). z >>= keys_of) (lines-first (write_key k) s (line-free k d))
    ∙ then-line k (write_key k) (lines_of (split (eqb 10) s)) (ap (in_notation (write_key k)) (key_back k d) ∙ noted k d) (key_back k d)

-- lines are refused as not in the notation
pub lines-3 : (l : List Bytes) → (lines_of l ≡ refused r3) ⊎ ((ls : List Bytes) × (lines_of l ≡ ok ls))
unfolding lines_of
lines-3 [] = inl refl
lines-3 (w ∷ []) = go (is_empty w) refl
  where
    go : (b : Bool) → is_empty w ≡ b → (lines_of (w ∷ []) ≡ refused r3) ⊎ ((ls : List Bytes) × (lines_of (w ∷ []) ≡ ok ls))
    go true e = inr ([], rw e refl)
    go false e = inl (rw e refl)
lines-3 (w ∷ v ∷ ws) = ⊎_elim (λ e. inl (rw e refl)) (λ e. inr (w ∷ e.0, rw e.1 refl)) (lines-3 (v ∷ ws))

-- a line that is no key's is refused, whatever comes after it
bad-line : (w : Bytes) (l : List Bytes) → in_notation w (key_of (words w)) ≡ false → ((lines_of l >>= λ ls. ok (w ∷ ls)) >>= keys_of) ≡ refused r3
unfolding keys_of
bad-line w l e = ⊎_elim (λ h. rw h refl) (λ h. rw h.1 (rw e refl)) (lines-3 l)

unended : (b : ℕ) (s : Bytes) → (lines_of ((b ∷ s) ∷ []) >>= keys_of) ≡ refused r3
unfolding lines_of is_empty
unended b s = refl

-- what a text that is not empty begins with
pub record Begun (s : Bytes) : Type 0 where
  pub key : Key
  pub after : Bytes
  pub key-noted : Noted key
  pub is : s ≡ write_key key ++ 10 ∷ after

pub keys-cases : (b : ℕ) (s : Bytes) → (keys_read (b ∷ s) ≡ refused r3) ⊎ Begun (b ∷ s)
unfolding keys_read
keys-cases b s = ⊎_elim alone lined (first-line (b ∷ s))
  where
    alone : Free (eqb 10) (b ∷ s) → (keys_read (b ∷ s) ≡ refused r3) ⊎ Begun (b ∷ s)
    alone f = inl (ap (λ (z : List Bytes). lines_of z >>= keys_of) (split-alone (eqb 10) (b ∷ s) f) ∙ unended b s)

    lined : First (b ∷ s) → (keys_read (b ∷ s) ≡ refused r3) ⊎ Begun (b ∷ s)
    lined f =
        let e = ap (λ (z : Bytes). lines_of (split (eqb 10) z) >>= keys_of) f.is ∙ ap (λ (z : Result (List Bytes)). z >>= keys_of) (lines-first f.line f.after f.free) in
        by-test (in_notation f.line (key_of (words f.line)))
        (λ h. let n = noted-inv f.line (key_of (words f.line)) h in
        inr (record { key = key_of (words f.line); after = f.after; key-noted = n.1; is = f.is ∙ ap (λ (z : Bytes). z ++ 10 ∷ f.after) n.0 }))
        (λ h. inl (e ∙ bad-line f.line (split (eqb 10) f.after) h))

-- ---- the whole
unfoldable judged : KeyList → Result KeyList
judged ks = refuse r3 (not (contexts_in_notation ks)) >> (refuse r4 (not (rules_kept ks)) >> ok ks)

bind-bind : {A B C : Type 0} (x : Result A) (f : A → Result B) (g : B → Result C) → (x >>= λ a. (f a >>= g)) ≡ ((x >>= f) >>= g)
bind-bind (refused n) f g = refl
bind-bind (ok a) f g = refl

key-list-read : (s : Bytes) → key_list s ≡ (keys_read s >>= judged)
unfolding key_list keys_read judged
key-list-read s = bind-bind (lines_of (split (eqb (code "\n")) s)) keys_of judged

pub key-list-3 : (s : Bytes) → keys_read s ≡ refused r3 → key_list s ≡ refused r3
key-list-3 s e = key-list-read s ∙ rw e

pub contexts-3 : (s : Bytes) (K : KeyList) → keys_read s ≡ ok K → contexts_in_notation K ≡ false → key_list s ≡ refused r3
unfolding judged
contexts-3 s K e h = key-list-read s ∙ rw (e, h)

pub rules-4 : (s : Bytes) (K : KeyList) → keys_read s ≡ ok K → contexts_in_notation K ≡ true → rules_kept K ≡ false → key_list s ≡ refused r4
unfolding judged
rules-4 s K e h g = key-list-read s ∙ rw (e, h, g)

pub key-list-ok : (s : Bytes) (K : KeyList) → keys_read s ≡ ok K → contexts_in_notation K ≡ true → rules_kept K ≡ true → key_list s ≡ ok K
unfolding judged
key-list-ok s K e h g = key-list-read s ∙ rw (e, h, g)

pub lines-read : (K : KeyList) → AllNoted K → keys_read (write_lines K) ≡ ok K
unfolding write_lines
lines-read [] d = keys_none
lines-read (k ∷ K) d = keys-line k (write_lines K) d.0 ∙ rw (lines-read K d.1)
