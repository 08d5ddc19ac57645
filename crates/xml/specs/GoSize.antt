-- Reading never takes a node back: the forest of a text has all the nodes that were read on the way.
use Prim.Native.Char.{code}
use Rattle.std.specs.Prelude.{ℕ, zero, suc, ◌+◌, ◌≤◌, ◌≡◌, refl, Bool, [], ◌∷◌, eqb, length, take, drop, get_or, Result, Ok, Err}
use Rattle.std.proofs.Common.{sym, ◌∙◌, subst, arith, eqb-true}
use Rattle.std.proofs.lemmas.Bool.{eqb-false}
use Rattle.xml.specs.Bytes.{Bytes, bytes, is_white}
use Rattle.xml.specs.Forest.{Forest, end, elem, text, join}
use Rattle.xml.specs.Read.{common, name_len, times_len, scan, unescape, Tag, named, timed, tag_name, tag_node, Stack, outer, inside, Move, move, wrong, whole, broken, is_end, start_of, times_of, times_end, end_of, characters, step, finish, go}
use Rattle.xml.specs.Tape.{size}
use Rattle.xml.specs.Truth.{by-test}
use Rattle.xml.specs.StepLaws.{StartCase, none, opens, lone, slash, times, bad, start-case, tag-none, tag_open, tag-bad, tag-times, tag-slash, tag-empty, times-bad, times-good, times-end-bad, times-end-good, step-chars, chars-upto, chars-stop, end-good, end-bad, end_short, step_start, step_end, out-white, out-other, out-second, out-start, finish-outer, finish-done}
use Rattle.xml.specs.Held.{stack_size, size-join, size-node}

-- at least n nodes after a step
abbrev Grown : ℕ → Move → Type 0
Grown n (move st f k) = n ≤ stack_size st f
Grown n (wrong k) = Unit {0}

pub join-size : (st : Stack) (f x : Forest) → stack_size st (join f x) ≡ stack_size st f + size x
unfolding stack_size
join-size outer f x = size-join f x
join-size (inside o g st) f x = omega (arith, size-join f x)

pub open-size : (st : Stack) (f : Forest) (o : Tag) → stack_size (inside o f st) end ≡ 1 + stack_size st f
unfolding stack_size size
open-size st f o = omega arith

times-grown : (st : Stack) (f : Forest) (s : Bytes) (m : ℕ) → Grown (stack_size st f) (times_of st f s m)
times-grown st f s m =
    by-test (eqb m 4) (λ x. subst (Grown (stack_size st f)) (sym (times-good st f s m (eqb-true m 4 x))) shut)
    (λ x. subst (Grown (stack_size st f)) (sym (times-bad st f s m (eqb-false m 4 x))) tt)
  where
    n : ℕ
    n = times_len (drop 4 s)

    c : ℕ
    c = common (bytes "\">") (drop (times_len (drop 4 s)) (drop 4 s))

    shut : Grown (stack_size st f) (times_end st f (drop 4 s) n c)
    shut =
        by-test (eqb c 2)
        (λ x. subst (Grown (stack_size st f)) (sym (times-end-good st f (drop 4 s) n c (eqb-true c 2 x))) (omega (arith, open-size st f (timed (take n (drop 4 s))))))
        (λ x. subst (Grown (stack_size st f)) (sym (times-end-bad st f (drop 4 s) n c (eqb-false c 2 x))) tt)

start-grown : (a : Bool) (st : Stack) (f : Forest) (s : Bytes) (n : ℕ) → Grown (stack_size st f) (start_of a st f s n)
start-grown a st f s n = at (start-case a s n)
  where
    at : StartCase a s n → Grown (stack_size st f) (start_of a st f s n)
    at (none z) = subst (Grown (stack_size st f)) (sym (tag-none a st f s n z)) tt
    at (opens z b) = subst (Grown (stack_size st f)) (sym (tag_open a st f s n z b)) (omega (arith, open-size st f (named (take n s))))
    at (lone z b d e) = subst (Grown (stack_size st f)) (sym (tag-empty a st f s n z b d e)) (omega (arith, join-size st f (elem (take n s) end end)))
    at (slash z b d e) = subst (Grown (stack_size st f)) (sym (tag-slash a st f s n z b d e)) tt
    at (times z b d t) = subst (Grown (stack_size st f)) (sym (tag-times a st f s n z b d t)) (times-grown st f (drop 1 s) (common (bytes " t=\"") (drop 1 s)))
    at (bad z b d t) = subst (Grown (stack_size st f)) (sym (tag-bad a st f s n z b d t)) tt

end-grown : (o : Tag) (g : Forest) (st : Stack) (f : Forest) (s : Bytes) (m : ℕ) → Grown (stack_size (inside o g st) f) (end_of o g st f s m)
unfolding stack_size
end-grown o g st f s m =
    by-test (eqb m (length (tag_name o)))
    (λ x.
    by-test (eqb (get_or s m 0) (code ">"))
    (λ y.
    subst (Grown (stack_size (inside o g st) f)) (sym (end-good o g st f s m (eqb-true m (length (tag_name o)) x) (eqb-true (get_or s m 0) (code ">") y)))
    (omega (arith, join-size st g (tag_node o f), size-node o f)))
    (λ y. subst (Grown (stack_size (inside o g st) f)) (sym (end-bad o g st f s m (eqb-true m (length (tag_name o)) x) (eqb-false (get_or s m 0) (code ">") y))) tt))
    (λ x. subst (Grown (stack_size (inside o g st) f)) (sym (end_short o g st f s m (eqb-false m (length (tag_name o)) x))) tt)

chars-grown : (st : Stack) (f : Forest) (s : Bytes) (r : Result ℕ ℕ) → scan 0 0 0 s ≡ r → Grown (stack_size st f) (characters st f s)
chars-grown st f s (Ok k) e = subst (Grown (stack_size st f)) (sym (chars-upto st f s k e)) (omega (arith, join-size st f (text (unescape 0 (take k s)) end)))
chars-grown st f s (Err k) e = subst (Grown (stack_size st f)) (sym (chars-stop st f s k e)) tt

step-grown : (a : Bool) (st : Stack) (f : Forest) (b : ℕ) (s : Bytes) → Grown (stack_size st f) (step a st f (b ∷ s))
step-grown a outer f b s =
    by-test (is_white b) (λ x. subst (Grown (stack_size outer f)) (sym (out-white a f b s x)) (omega arith))
    (λ x.
    by-test (eqb b (code "<"))
    (λ y.
    by-test (is_end f)
    (λ z. subst (Grown (stack_size outer f)) (sym (out-start a f b s x (eqb-true b (code "<") y) z)) (start-grown a outer f s (name_len s)))
    (λ z. subst (Grown (stack_size outer f)) (sym (out-second a f b s x (eqb-true b (code "<") y) z)) tt))
    (λ y. subst (Grown (stack_size outer f)) (sym (out-other a f b s x (eqb-false b (code "<") y))) tt))
step-grown a (inside o g st) f b s =
    by-test (eqb b (code "<"))
    (λ x.
    by-test (eqb (get_or s 0 0) (code "/"))
    (λ y.
    subst (Grown (stack_size (inside o g st) f)) (sym (step_end a o g st f b s (eqb-true b (code "<") x) (eqb-true (get_or s 0 0) (code "/") y)))
    (end-grown o g st f (drop 1 s) (common (tag_name o) (drop 1 s))))
    (λ y.
    subst (Grown (stack_size (inside o g st) f)) (sym (step_start a o g st f b s (eqb-true b (code "<") x) (eqb-false (get_or s 0 0) (code "/") y)))
    (start-grown a (inside o g st) f s (name_len s))))
    (λ x. subst (Grown (stack_size (inside o g st) f)) (sym (step-chars a o g st f b s (eqb-false b (code "<") x))) (chars-grown (inside o g st) f (b ∷ s) (scan 0 0 0 (b ∷ s)) refl))

broken-apart : {A : Type 0} {p : ℕ} {f : Forest} → broken p ≡ whole f → A
broken-apart e = let z : ◌≡◌ {A = ℕ} 0 1 = cc in absurd (omega arith)

finish-size : (st : Stack) (f : Forest) (at : ℕ) (g : Forest) → finish st f at ≡ whole g → stack_size st f ≤ size g
unfolding finish stack_size
finish-size outer f at g e =
    by-test (is_end f) (λ x. broken-apart (sym (finish-outer f at x) ∙ e))
    (λ x. let y : whole f ≡ whole g = sym (finish-done f at x) ∙ e in let z : f ≡ g = cc in rw z (omega arith))
finish-size (inside o h st) f at g e = broken-apart e

-- whatever is read from here, it has the nodes that are there
pub go-size : (a : Bool) (st : Stack) (f : Forest) (at k : ℕ) (s : Bytes) (g : Forest) → go a st f at k s ≡ whole g → stack_size st f ≤ size g
unfolding go
go-size a st f at k [] g e = finish-size st f at g e
go-size a st f at (suc k) (b ∷ s) g e = go-size a st f (suc at) k s g e
go-size a st f at zero (b ∷ s) g e = by (step a st f (b ∷ s)) (step-grown a st f b s) (λ st' f' k h. go-size a st' f' (suc at) k s g h) e
  where
    by : (m : Move) → Grown (stack_size st f) m → ((st' : Stack) (f' : Forest) (k : ℕ) → go a st' f' (suc at) k s ≡ whole g → stack_size st' f' ≤ size g) →
        elim m [ move st' f' k ↦ go a st' f' (suc at) k s | wrong k ↦ broken (at + k) ] ≡ whole g → stack_size st f ≤ size g
    by (move st' f' k) h f e = omega (arith, f st' f' k e)
    by (wrong k) h f e = broken-apart e
