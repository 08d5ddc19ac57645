-- Laws of one step of reading, and of `go` at a place of a text: a law for each case of a definition.
use Rattle.std.specs.Prelude.{◌≡◌, refl, Bool, true, false, ◌&&◌, [], ◌∷◌, ℕ, zero, suc, ◌+◌, ◌-◌, ◌<◌, ◌≤◌, eqb, length, take, drop, get_or, Ok, Err}
use Rattle.std.proofs.Common.{ap, ◌∙◌, add-zero, not-suc-le-zero, le_of_suc-le-suc, arith, drop_of_length-le, length-drop, drop-cons, drop-drop}
use Prim.Native.Char.{code}
use borrow.Author.Tests.{eq-eqb, ne_eqb, eqb-true, eqb-false}
use Rattle.xml.specs.Bytes.{Bytes, bytes, same, is_white}
use Rattle.xml.specs.Forest.{Forest, end, elem, text, join}
use Rattle.xml.specs.Read.{common, times_len, unescape, scan, Tag, named, timed, tag_name, tag_node, Stack, outer, inside, move, wrong, whole, broken, is_end, times_end, times_of, start_of, start_tag, end_of, end_tag, characters, step, finish, go, read}

pub go-skip : (a : Bool) (st : Stack) (f : Forest) (at k : ℕ) (s : Bytes) → k ≤ length s → go a st f at k s ≡ go a st f (at + k) 0 (drop k s)
unfolding go
go-skip a st f at zero s h = rw add-zero
go-skip a st f at (suc k) [] h = absurd (not-suc-le-zero h)
go-skip a st f at (suc k) (b ∷ s) h = go-skip a st f (suc at) k s (le_of_suc-le-suc h) ∙ ap (λ (m : ℕ). go a st f m 0 (drop k s)) (omega arith)

pub go-cons : (a : Bool) (st : Stack) (f : Forest) (at b : ℕ) (s : Bytes) →
    go a st f at 0 (b ∷ s) ≡ elim (step a st f (b ∷ s)) [ move st' f' k ↦ go a st' f' (suc at) k s | wrong k ↦ broken (at + k) ]
unfolding go
go-cons a st f at b s = refl

module _ (a : Bool) (src : Bytes) (st : Stack) (f : Forest) (at : ℕ) (answer : read a src ≡ go a st f at 0 (drop at src)) where
  pub go-move : (st' : Stack) (f' : Forest) (k at' : ℕ) → at < length src → step a st f (drop at src) ≡ move st' f' k → at' ≡ at + 1 + k → at' ≤ length src →
      read a src ≡ go a st' f' at' 0 (drop at' src)
  go-move st' f' k at' h e p l =
      let d = drop-cons src at 0 h in
      let e' : step a st f (get_or src at 0 ∷ drop (suc at) src) ≡ move st' f' k = rw d at e in
      let g : k ≤ length (drop (suc at) src) = omega (arith, length-drop (suc at) src) in
      let q : suc at + k ≡ at' = omega arith in
      answer ∙ ap (λ (s : Bytes). go a st f at 0 s) d
      ∙ rw (go-cons, e') (go-skip a st' f' (suc at) k (drop (suc at) src) g ∙ rw (drop-drop, q))

  pub go-wrong : (k p : ℕ) → at < length src → step a st f (drop at src) ≡ wrong k → p ≡ at + k → read a src ≡ broken p
  go-wrong k p h e q =
      let d = drop-cons src at 0 h in
      let e' : step a st f (get_or src at 0 ∷ drop (suc at) src) ≡ wrong k = rw d at e in
      answer ∙ ap (λ (s : Bytes). go a st f at 0 s) d ∙ rw (go-cons, e', q)

  pub go-end : length src ≤ at → read a src ≡ finish st f at
  unfolding go
  go-end h = answer ∙ rw (drop_of_length-le src)

-- a byte that is not 0 stands in the text
pub in-range : (l : Bytes) (i v : ℕ) → get_or l i 0 ≡ suc v → i < length l
in-range [] i v e = omega arith
in-range (x ∷ l) zero v e = omega arith
in-range (x ∷ l) (suc i) v e = omega (arith, in-range l i v e)

-- ---- character data

pub step-chars : (a : Bool) (o : Tag) (g : Forest) (st : Stack) (f : Forest) (b : ℕ) (s : Bytes) → (b ≡ code "<" → ⊥) →
    step a (inside o g st) f (b ∷ s) ≡ characters (inside o g st) f (b ∷ s)
unfolding step
step-chars a o g st f b s n = rw (ne_eqb b (code "<") n, step)

pub chars-upto : (st : Stack) (f : Forest) (s : Bytes) (k : ℕ) → scan 0 0 0 s ≡ Ok k →
    characters st f s ≡ move st (join f (text (unescape 0 (take k s)) end)) (k - 1)
unfolding characters
chars-upto st f s k e = rw (e, characters)

pub chars-stop : (st : Stack) (f : Forest) (s : Bytes) (k : ℕ) → scan 0 0 0 s ≡ Err k → characters st f s ≡ wrong k
unfolding characters
chars-stop st f s k e = rw (e, characters)

-- ---- a start tag

module _ (a : Bool) (st : Stack) (f : Forest) (s : Bytes) (n : ℕ) where
  pub tag-none : n ≡ 0 → start_of a st f s n ≡ wrong 1
  unfolding start_of
  tag-none z = rw (eq-eqb n 0 z, start_of)

  pub tag_open : (n ≡ 0 → ⊥) → get_or s n 0 ≡ code ">" → start_of a st f s n ≡ move (inside (named (take n s)) f st) end (1 + n)
  unfolding start_of
  tag_open z b = rw (ne_eqb n 0 z, eq-eqb (get_or s n 0) (code ">") b, start_of)

  pub tag-bad : (n ≡ 0 → ⊥) → (get_or s n 0 ≡ code ">" → ⊥) → (get_or s n 0 ≡ code "/" → ⊥) → a && same (take n s) (bytes "T") ≡ false →
      start_of a st f s n ≡ wrong (1 + n)
  unfolding start_of
  tag-bad z b d t = rw (ne_eqb n 0 z, ne_eqb (get_or s n 0) (code ">") b, ne_eqb (get_or s n 0) (code "/") d, t, start_of)

  pub tag-times : (n ≡ 0 → ⊥) → (get_or s n 0 ≡ code ">" → ⊥) → (get_or s n 0 ≡ code "/" → ⊥) → a && same (take n s) (bytes "T") ≡ true →
      start_of a st f s n ≡ times_of st f (drop 1 s) (common (bytes " t=\"") (drop 1 s))
  unfolding start_of
  tag-times z b d t = rw (ne_eqb n 0 z, ne_eqb (get_or s n 0) (code ">") b, ne_eqb (get_or s n 0) (code "/") d, t, start_of)

  pub tag-slash : (n ≡ 0 → ⊥) → (get_or s n 0 ≡ code ">" → ⊥) → get_or s n 0 ≡ code "/" → (get_or s (1 + n) 0 ≡ code ">" → ⊥) → start_of a st f s n ≡ wrong (2 + n)
  unfolding start_of
  tag-slash z b d g = rw (ne_eqb n 0 z, ne_eqb (get_or s n 0) (code ">") b, eq-eqb (get_or s n 0) (code "/") d, ne_eqb (get_or s (1 + n) 0) (code ">") g, start_of)

  pub tag-empty : (n ≡ 0 → ⊥) → (get_or s n 0 ≡ code ">" → ⊥) → get_or s n 0 ≡ code "/" → get_or s (1 + n) 0 ≡ code ">" →
      start_of a st f s n ≡ move st (join f (elem (take n s) end end)) (2 + n)
  unfolding start_of
  tag-empty z b d g = rw (ne_eqb n 0 z, ne_eqb (get_or s n 0) (code ">") b, eq-eqb (get_or s n 0) (code "/") d, eq-eqb (get_or s (1 + n) 0) (code ">") g, start_of)

-- ---- an archive's `<T t="..">`

module _ (st : Stack) (f : Forest) (s : Bytes) where
  pub times-bad : (m : ℕ) → (m ≡ 4 → ⊥) → times_of st f s m ≡ wrong (2 + m)
  unfolding times_of
  times-bad m z = rw (ne_eqb m 4 z, times_of)

  pub times-good : (m : ℕ) → m ≡ 4 →
      times_of st f s m ≡ times_end st f (drop 4 s) (times_len (drop 4 s)) (common (bytes "\">") (drop (times_len (drop 4 s)) (drop 4 s)))
  unfolding times_of
  times-good m z = rw (eq-eqb m 4 z, times_of)

  pub times-end-bad : (n m : ℕ) → (m ≡ 2 → ⊥) → times_end st f s n m ≡ wrong (6 + n + m)
  unfolding times_end
  times-end-bad n m z = rw (ne_eqb m 2 z, times_end)

  pub times-end-good : (n m : ℕ) → m ≡ 2 → times_end st f s n m ≡ move (inside (timed (take n s)) f st) end (7 + n)
  unfolding times_end
  times-end-good n m z = rw (eq-eqb m 2 z, times_end)

-- ---- an end tag

pub step_end : (a : Bool) (o : Tag) (g : Forest) (st : Stack) (f : Forest) (b : ℕ) (s : Bytes) → b ≡ code "<" → get_or s 0 0 ≡ code "/" →
    step a (inside o g st) f (b ∷ s) ≡ end_tag o g st f (drop 1 s)
unfolding step
step_end a o g st f b s e d = rw (eq-eqb b (code "<") e, eq-eqb (get_or s 0 0) (code "/") d, step)

pub end-good : (o : Tag) (g : Forest) (st : Stack) (f : Forest) (s : Bytes) (m : ℕ) → m ≡ length (tag_name o) → get_or s m 0 ≡ code ">" →
    end_of o g st f s m ≡ move st (join g (tag_node o f)) (2 + m)
unfolding end_of
end-good o g st f s m l b = rw (eq-eqb m (length (tag_name o)) l, eq-eqb (get_or s m 0) (code ">") b, end_of)

pub end_short : (o : Tag) (g : Forest) (st : Stack) (f : Forest) (s : Bytes) (m : ℕ) → (m ≡ length (tag_name o) → ⊥) →
    end_of o g st f s m ≡ wrong (2 + m)
unfolding end_of
end_short o g st f s m l = rw (ne_eqb m (length (tag_name o)) l, end_of)

pub end-bad : (o : Tag) (g : Forest) (st : Stack) (f : Forest) (s : Bytes) (m : ℕ) → m ≡ length (tag_name o) → (get_or s m 0 ≡ code ">" → ⊥) →
    end_of o g st f s m ≡ wrong (2 + m)
unfolding end_of
end-bad o g st f s m l b = rw (eq-eqb m (length (tag_name o)) l, ne_eqb (get_or s m 0) (code ">") b, end_of)

-- ---- a start tag in an element, and outside any

pub step_start : (a : Bool) (o : Tag) (g : Forest) (st : Stack) (f : Forest) (b : ℕ) (s : Bytes) → b ≡ code "<" → (get_or s 0 0 ≡ code "/" → ⊥) →
    step a (inside o g st) f (b ∷ s) ≡ start_tag a (inside o g st) f s
unfolding step
step_start a o g st f b s e d = rw (eq-eqb b (code "<") e, ne_eqb (get_or s 0 0) (code "/") d, step)

pub out-white : (a : Bool) (f : Forest) (b : ℕ) (s : Bytes) → is_white b ≡ true → step a outer f (b ∷ s) ≡ move outer f 0
unfolding step
out-white a f b s e = rw (e, step)

pub out-other : (a : Bool) (f : Forest) (b : ℕ) (s : Bytes) → is_white b ≡ false → (b ≡ code "<" → ⊥) → step a outer f (b ∷ s) ≡ wrong 0
unfolding step
out-other a f b s e n = rw (e, ne_eqb b (code "<") n, step)

pub out-second : (a : Bool) (f : Forest) (b : ℕ) (s : Bytes) → is_white b ≡ false → b ≡ code "<" → is_end f ≡ false → step a outer f (b ∷ s) ≡ wrong 0
unfolding step
out-second a f b s e n g = rw (e, eq-eqb b (code "<") n, g, step)

pub out-start : (a : Bool) (f : Forest) (b : ℕ) (s : Bytes) → is_white b ≡ false → b ≡ code "<" → is_end f ≡ true → step a outer f (b ∷ s) ≡ start_tag a outer f s
unfolding step
out-start a f b s e n g = rw (e, eq-eqb b (code "<") n, g, step)

-- ---- the end of the text

pub finish-outer : (f : Forest) (at : ℕ) → is_end f ≡ true → finish outer f at ≡ broken at
unfolding finish
finish-outer f at e = rw (e, finish)

pub finish-done : (f : Forest) (at : ℕ) → is_end f ≡ false → finish outer f at ≡ whole f
unfolding finish
finish-done f at e = rw (e, finish)

pub finish-inside : (o : Tag) (g : Forest) (st : Stack) (f : Forest) (at : ℕ) → finish (inside o g st) f at ≡ broken at
unfolding finish
finish-inside o g st f at = refl

-- ---- the cases of a start tag, by its name's length and the bytes after it

pub data StartCase (a : Bool) (s : Bytes) (n : ℕ) : Type 0 where
  none : n ≡ 0 → StartCase a s n
  opens : (n ≡ 0 → ⊥) → get_or s n 0 ≡ code ">" → StartCase a s n
  lone : (n ≡ 0 → ⊥) → (get_or s n 0 ≡ code ">" → ⊥) → get_or s n 0 ≡ code "/" → get_or s (1 + n) 0 ≡ code ">" → StartCase a s n
  slash : (n ≡ 0 → ⊥) → (get_or s n 0 ≡ code ">" → ⊥) → get_or s n 0 ≡ code "/" → (get_or s (1 + n) 0 ≡ code ">" → ⊥) → StartCase a s n
  times : (n ≡ 0 → ⊥) → (get_or s n 0 ≡ code ">" → ⊥) → (get_or s n 0 ≡ code "/" → ⊥) → a && same (take n s) (bytes "T") ≡ true → StartCase a s n
  bad : (n ≡ 0 → ⊥) → (get_or s n 0 ≡ code ">" → ⊥) → (get_or s n 0 ≡ code "/" → ⊥) → a && same (take n s) (bytes "T") ≡ false → StartCase a s n

pub start-case : (a : Bool) (s : Bytes) (n : ℕ) → StartCase a s n
start-case a s n =
    at (eqb n 0) refl (eqb (get_or s n 0) (code ">")) refl (eqb (get_or s n 0) (code "/")) refl (eqb (get_or s (1 + n) 0) (code ">")) refl
    (a && same (take n s) (bytes "T")) refl
  where
    at : (w : Bool) → eqb n 0 ≡ w → (x : Bool) → eqb (get_or s n 0) (code ">") ≡ x → (y : Bool) → eqb (get_or s n 0) (code "/") ≡ y →
        (z : Bool) → eqb (get_or s (1 + n) 0) (code ">") ≡ z → (t : Bool) → a && same (take n s) (bytes "T") ≡ t → StartCase a s n
    at true w x p y q z r t u = none (eqb-true n 0 w)
    at false w true p y q z r t u = opens (eqb-false n 0 w) (eqb-true (get_or s n 0) (code ">") p)
    at false w false p true q true r t u =
        lone (eqb-false n 0 w) (eqb-false (get_or s n 0) (code ">") p) (eqb-true (get_or s n 0) (code "/") q) (eqb-true (get_or s (1 + n) 0) (code ">") r)
    at false w false p true q false r t u =
        slash (eqb-false n 0 w) (eqb-false (get_or s n 0) (code ">") p) (eqb-true (get_or s n 0) (code "/") q) (eqb-false (get_or s (1 + n) 0) (code ">") r)
    at false w false p false q z r true u = times (eqb-false n 0 w) (eqb-false (get_or s n 0) (code ">") p) (eqb-false (get_or s n 0) (code "/") q) u
    at false w false p false q z r false u = bad (eqb-false n 0 w) (eqb-false (get_or s n 0) (code ">") p) (eqb-false (get_or s n 0) (code "/") q) u

-- one step, over a list
pub go_on_lem : (a : Bool) (st st' : Stack) (f f' : Forest) (at b k : ℕ) (s : Bytes) → step a st f (b ∷ s) ≡ move st' f' k → k ≤ length s →
    go a st f at 0 (b ∷ s) ≡ go a st' f' (suc at + k) 0 (drop k s)
go_on_lem a st st' f f' at b k s e h = rw (go-cons, e) (go-skip a st' f' (suc at) k s h)
