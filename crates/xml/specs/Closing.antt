-- What is open, closed by its end tags; and the start tags `<name/>` and `<T t="..">` before these: each is read to the end of the text.
use Rattle.std.specs.Prelude.{◌≡◌, refl, Bool, true, false, [], ◌∷◌, ◌++◌, ℕ, zero, suc, ◌+◌, ◌≤◌, length, take, drop, get_or}
use Rattle.std.proofs.Common.{ap, sym, ◌∙◌, arith, length-append, get_or-append-add}
use Prim.Native.Char.{code}
use Rattle.std.proofs.lemmas.Bool.{eqb-false}
use Rattle.std.proofs.Math.Seq.{take-append_seam, drop-append_seam, get_or-append_seam, drop-append-add}
use Rattle.xml.specs.Bytes.{Bytes, bytes, is_start, is_name_byte, is_times, bytes_compute}
use Rattle.xml.specs.Forest.{Forest, end, elem, text, stamp, join}
use Rattle.xml.specs.Read.{common, name_rest, name_len, times_len, Tag, named, timed, tag_name, tag_node, Stack, outer, inside, move, whole, is_end, times_end, start_of, start_tag, step, go, read_compute}
use Rattle.xml.specs.ScanLaws.{name_rest-cons, name_rest-off, name_len-cons, name_len-off, times_len-cons, times_len-off, common-self}
use Rattle.xml.specs.StepLaws.{tag-empty, times-end-good, finish-done, go_on_lem}
use Rattle.xml.specs.Goes.{goes_end}
use Rattle.xml.specs.TimedTags.{times_close}

-- ---- closing what is open

-- the end tags of all that is open
unfoldable pub close_all : Stack → Bytes
close_all outer = []
close_all (inside o g st) = code "<" ∷ code "/" ∷ (tag_name o ++ (code ">" ∷ close_all st))

pub join-some : (g : Forest) (o : Tag) (k : Forest) → is_end (join g (tag_node o k)) ≡ false
unfolding is_end join
join-some end (named n) k = refl
join-some end (timed t) k = refl
join-some (elem m a b) o k = refl
join-some (text a b) o k = refl
join-some (stamp a b d) o k = refl

-- a state whose open elements are closed is read to the end
abbrev pub Closes : Bool → Stack → Forest → Bytes → Type 0
Closes a st f s = (at : ℕ) → (r : Forest) × (go a st f at 0 s ≡ whole r)

pub some-closes : (a : Bool) (st : Stack) (f : Forest) → (st ≡ outer → is_end f ≡ false) → Closes a st f (close_all st)
unfolding close_all go
some-closes a outer f h at = (f, finish-done f at (h refl))
some-closes a (inside o g st) f h at =
    let x = goes_end a o g st f (close_all st) in
    let y = some-closes a st (join g (tag_node o f)) (λ e. join-some g o f) (x.later at) in
    (y.0, x.goes at ∙ y.1)

pub inner-closes : (a : Bool) (o : Tag) (g : Forest) (st : Stack) (f : Forest) → Closes a (inside o g st) f (close_all (inside o g st))
inner-closes a o g st f = some-closes a (inside o g st) f apart
  where
    apart : inside o g st ≡ outer → is_end f ≡ false
    apart e = let z : ◌≡◌ {A = ℕ} 0 1 = cc in absurd (omega arith)

-- ---- an empty element completes a start tag

slash-no : is_name_byte (code "/") ≡ false
unfolding bytes_compute
slash-no = refl

rest-slash : (r : ℕ) (s x : Bytes) → name_rest r (take (name_rest r s) s ++ code "/" ∷ x) ≡ name_rest r s
unfolding name_rest
rest-slash zero s x = refl
rest-slash (suc r) [] x = name_rest-off (suc r) (code "/") x slash-no
rest-slash (suc r) (b ∷ s) x = at (is_name_byte b) refl (rest-slash r s x)
  where
    at : (t : Bool) → is_name_byte b ≡ t → name_rest r (take (name_rest r s) s ++ code "/" ∷ x) ≡ name_rest r s →
        name_rest (suc r) (take (name_rest (suc r) (b ∷ s)) (b ∷ s) ++ code "/" ∷ x) ≡ name_rest (suc r) (b ∷ s)
    at true e h =
        ap (λ (n : ℕ). name_rest (suc r) (take n (b ∷ s) ++ code "/" ∷ x)) (name_rest-cons r b s e)
        ∙ name_rest-cons r b (take (name_rest r s) s ++ code "/" ∷ x) e ∙ ap suc h ∙ sym (name_rest-cons r b s e)
    at false e h =
        ap (λ (n : ℕ). name_rest (suc r) (take n (b ∷ s) ++ code "/" ∷ x)) (name_rest-off (suc r) b s e)
        ∙ name_rest-off (suc r) (code "/") x slash-no ∙ sym (name_rest-off (suc r) b s e)

pub name-slash : (s x : Bytes) → (name_len s ≡ 0 → ⊥) → name_len (take (name_len s) s ++ code "/" ∷ x) ≡ name_len s
unfolding name_len
name-slash [] x h = absurd (h refl)
name-slash (b ∷ s) x h = at (is_start b) refl
  where
    at : (t : Bool) → is_start b ≡ t → name_len (take (name_len (b ∷ s)) (b ∷ s) ++ code "/" ∷ x) ≡ name_len (b ∷ s)
    at true e =
        ap (λ (n : ℕ). name_len (take n (b ∷ s) ++ code "/" ∷ x)) (name_len-cons b s e)
        ∙ name_len-cons b (take (name_rest 31 s) s ++ code "/" ∷ x) e ∙ ap suc (rest-slash 31 s x) ∙ sym (name_len-cons b s e)
    at false e = absurd (h (name_len-off b s e))

-- `<`, a name w, `/>` and what closes the rest
pub empty-closes : (a : Bool) (st : Stack) (f : Forest) (w : Bytes) → (length w ≡ 0 → ⊥) → name_len (w ++ (code "/" ∷ code ">" ∷ close_all st)) ≡ length w →
    step a st f (code "<" ∷ (w ++ (code "/" ∷ code ">" ∷ close_all st))) ≡ start_tag a st f (w ++ (code "/" ∷ code ">" ∷ close_all st)) → Closes a st f (code "<" ∷ (w ++ (code "/" ∷ code ">" ∷ close_all st)))
empty-closes a st f w z l e at =
    let c = close_all st in
    let s = w ++ (code "/" ∷ code ">" ∷ c) in
    let n : ℕ = length w in
    let b : get_or s n 0 ≡ code "/" = get_or-append_seam w (code "/") (code ">" ∷ c) 0 in
    let j : 1 + n ≡ n + 1 = omega arith in
    let d : get_or s (1 + n) 0 ≡ code ">" = ap (λ (i : ℕ). get_or s i 0) j ∙ get_or-append-add w (code "/" ∷ code ">" ∷ c) 1 0 in
    let no : get_or s n 0 ≡ code ">" → ⊥ = λ y. eqb-false (code "/") (code ">") refl (sym b ∙ y) in
    let m : step a st f (code "<" ∷ s) ≡ move st (join f (elem (take n s) end end)) (2 + n) = e ∙ ap (start_of a st f s) l ∙ tag-empty a st f s n z no b d in
    let h : 2 + n ≤ length s = omega (arith, length-append w (code "/" ∷ code ">" ∷ c)) in
    let k : 2 + n ≡ n + 2 = omega arith in
    let q : drop (2 + n) s ≡ c = ap (λ (i : ℕ). drop i s) k ∙ drop-append-add w (code "/" ∷ code ">" ∷ c) 2 in
    let y = some-closes a st (join f (elem (take n s) end end)) (λ x. join-some f (named (take n s)) end) (suc at + (2 + n)) in (
      y.0,
      go_on_lem a st st f (join f (elem (take n s) end end)) at (code "<") (2 + n) s m h
          ∙ ap (λ (x : Bytes). go a st (join f (elem (take n s) end end)) (suc at + (2 + n)) 0 x) q ∙ y.1,
    )

-- ---- an archive's `<T t="..">`

times-starts : (st : Stack) (f : Forest) (x : Bytes) → start_tag true st f (bytes "T t=\"" ++ x) ≡ times_close st f x
unfolding read_compute
times-starts st f x = refl

pub times_cut : (s x : Bytes) → times_len (take (times_len s) s ++ (bytes "\">" ++ x)) ≡ times_len s
unfolding read_compute
times_cut [] x = refl
times_cut (b ∷ s) x = at (is_times b) refl (times_cut s x)
  where
    y : Bytes
    y = bytes "\">" ++ x

    at : (t : Bool) → is_times b ≡ t → times_len (take (times_len s) s ++ y) ≡ times_len s → times_len (take (times_len (b ∷ s)) (b ∷ s) ++ y) ≡ times_len (b ∷ s)
    at true e h =
        ap (λ (n : ℕ). times_len (take n (b ∷ s) ++ y)) (times_len-cons b s e)
        ∙ times_len-cons b (take (times_len s) s ++ y) e ∙ ap suc h ∙ sym (times_len-cons b s e)
    at false e h = ap (λ (n : ℕ). times_len (take n (b ∷ s) ++ y)) (times_len-off b s e) ∙ sym (times_len-off b s e)

-- `<T t="`, times t, `">` and what closes all
pub times-closes : (st : Stack) (f : Forest) (t : Bytes) → ((x : Bytes) → times_len (t ++ (bytes "\">" ++ x)) ≡ length t) →
    ((u : Bytes) → (get_or u 0 0 ≡ code "/" → ⊥) → step true st f (code "<" ∷ u) ≡ start_tag true st f u) →
    Closes true st f (code "<" ∷ (bytes "T t=\"" ++ (t ++ (bytes "\">" ++ close_all (inside (timed t) f st)))))
unfolding bytes
times-closes st f t l starts at =
    let c = close_all (inside (timed t) f st) in
    let q : Bytes = bytes "\">" in
    let n : ℕ = length t in
    let u : Bytes = t ++ (q ++ c) in
    let s : Bytes = bytes "T t=\"" ++ u in
    let m : step true st f (code "<" ∷ s) ≡ move (inside (timed t) f st) end (7 + n) =
    starts s (λ y. eqb-false (code "T") (code "/") refl y) ∙ times-starts st f u
    ∙ ap (λ (i : ℕ). times_end st f u i (common q (drop i u))) (l c)
    ∙ ap (λ (x : Bytes). times_end st f u n (common q x)) (drop-append_seam t (q ++ c))
    ∙ ap (times_end st f u n) (common-self q c)
    ∙ times-end-good st f u n 2 refl
    ∙ ap (λ (x : Bytes). move (inside (timed x) f st) end (7 + n)) (take-append_seam t (q ++ c))
    in
    let h : 7 + n ≤ length s = omega (arith, length-append t (q ++ c)) in
    let j : 7 + n ≡ suc (suc (suc (suc (suc (n + 2))))) = omega arith in
    let d : drop (7 + n) s ≡ c = ap (λ (i : ℕ). drop i s) j ∙ drop-append-add t (q ++ c) 2 in
    let y = inner-closes true (timed t) f st end (suc at + (7 + n)) in (
      y.0,
      go_on_lem true st (inside (timed t) f st) f end at (code "<") (7 + n) s m h
          ∙ ap (λ (x : Bytes). go true (inside (timed t) f st) end (suc at + (7 + n)) 0 x) d ∙ y.1,
    )
