-- What a step reads lies in the text: the bytes after the first that it passes, and its wrong byte, or that stands at the end.
use Rattle.std.specs.Prelude.{◌≡◌, refl, Bool, true, false, [], ◌∷◌, ℕ, suc, ◌+◌, ◌≤◌, eqb, length, drop, get_or, Result, Ok, Err}
use Rattle.std.proofs.Common.{sym, subst, arith, eqb-true, length-drop}
use Prim.Native.Char.{code}
use Rattle.std.proofs.lemmas.Bool.{eqb-false}
use Rattle.xml.specs.Bytes.{Bytes, bytes, is_white}
use Rattle.xml.specs.Forest.{Forest}
use Rattle.xml.specs.Read.{common, name_len, times_len, scan, Tag, tag_name, Stack, outer, inside, Move, move, wrong, is_end, start_of, end_of, characters, step}
use Rattle.xml.specs.ScanLaws.{name_len-fits, times_len-fits, common-fits}
use Rattle.xml.specs.TextLaws.{RunIn, scan-range}
use Rattle.xml.specs.StepLaws.{in-range, StartCase, none, opens, lone, slash, times, bad, start-case, tag-none, tag_open, tag-bad, tag-times, tag-slash, tag-empty, times-bad, times-good, times-end-bad, times-end-good, step-chars, chars-upto, chars-stop, end-good, end-bad, end_short, step_start, step_end, out-white, out-other, out-second, out-start}
use Rattle.xml.specs.TimedTags.{is-timed, times_tag, times_close}

pub move-apart : {A : Type 0} (st : Stack) (f : Forest) (k j : ℕ) → move st f k ≡ wrong j → A
move-apart st f k j e = let z : ◌≡◌ {A = ℕ} 0 1 = cc in absurd (omega arith)

pub move-count : (st st' : Stack) (f f' : Forest) (k j : ℕ) → move st f k ≡ move st' f' j → k ≡ j
move-count st st' f f' k j e = cc

pub wrong-is : (k j : ℕ) → wrong k ≡ wrong j → k ≡ j
wrong-is k j e = cc

abbrev pub In : ℕ → Move → Type 0
In m (move st f k) = k ≤ m
In m (wrong k) = k ≤ suc m

close-in : (st : Stack) (f : Forest) (s : Bytes) → In (5 + length s) (times_close st f s)
close-in st f s = at (eqb c 2) refl
  where
    n : ℕ
    n = times_len s

    c : ℕ
    c = common (bytes "\">") (drop (times_len s) s)

    fits : n + c ≤ length s
    fits = omega (arith, times_len-fits s, common-fits (bytes "\">") (drop (times_len s) s), length-drop (times_len s) s)

    at : (x : Bool) → eqb c 2 ≡ x → In (5 + length s) (times_close st f s)
    at true x =
        let z = eqb-true c 2 x in
        subst (In (5 + length s)) (sym (times-end-good st f s n c z)) (omega (arith, fits))
    at false x = subst (In (5 + length s)) (sym (times-end-bad st f s n c (eqb-false c 2 x))) (omega (arith, fits))

times-in : (st : Stack) (f : Forest) (s : Bytes) → In (1 + length s) (times_tag st f s)
times-in st f s = at (eqb c 4) refl
  where
    c : ℕ
    c = common (bytes " t=\"") s

    at : (x : Bool) → eqb c 4 ≡ x → In (1 + length s) (times_tag st f s)
    at true x =
        let z = eqb-true c 4 x in
        let m : 5 + length (drop 4 s) ≡ 1 + length s = omega (arith, length-drop 4 s, common-fits (bytes " t=\"") s) in
        subst (In (1 + length s)) (sym (times-good st f s c z)) (subst (λ (k : ℕ). In k (times_close st f (drop 4 s))) m (close-in st f (drop 4 s)))
    at false x = subst (In (1 + length s)) (sym (times-bad st f s c (eqb-false c 4 x))) (omega (arith, common-fits (bytes " t=\"") s))

start-in : (a : Bool) (st : Stack) (f : Forest) (s : Bytes) (n : ℕ) → n ≤ length s → In (length s) (start_of a st f s n)
start-in a st f s n l = at (start-case a s n)
  where
    at : StartCase a s n → In (length s) (start_of a st f s n)
    at (none z) = subst (In (length s)) (sym (tag-none a st f s n z)) (omega arith)
    at (opens z b) = subst (In (length s)) (sym (tag_open a st f s n z b)) (omega (arith, in-range s n 61 b))
    at (lone z b d e) = subst (In (length s)) (sym (tag-empty a st f s n z b d e)) (omega (arith, in-range s (1 + n) 61 e))
    at (slash z b d e) = subst (In (length s)) (sym (tag-slash a st f s n z b d e)) (omega (arith, in-range s n 46 d))
    at (times z b d t) =
        let m : 1 + length (drop 1 s) ≡ length s = omega (arith, length-drop 1 s, (is-timed a s n l t).one) in
        subst (In (length s)) (sym (tag-times a st f s n z b d t)) (subst (λ (k : ℕ). In k (times_tag st f (drop 1 s))) m (times-in st f (drop 1 s)))
    at (bad z b d t) = subst (In (length s)) (sym (tag-bad a st f s n z b d t)) (omega arith)

end-in : (o : Tag) (g : Forest) (st : Stack) (f : Forest) (s : Bytes) (m : ℕ) → m ≤ length s → In (suc (length s)) (end_of o g st f s m)
end-in o g st f s m l = at (eqb m (length (tag_name o))) refl (eqb (get_or s m 0) (code ">")) refl
  where
    at : (x : Bool) → eqb m (length (tag_name o)) ≡ x → (y : Bool) → eqb (get_or s m 0) (code ">") ≡ y → In (suc (length s)) (end_of o g st f s m)
    at true x true y =
        let b = eqb-true (get_or s m 0) (code ">") y in
        subst (In (suc (length s))) (sym (end-good o g st f s m (eqb-true m (length (tag_name o)) x) b)) (omega (arith, in-range s m 61 b))
    at true x false y = subst (In (suc (length s))) (sym (end-bad o g st f s m (eqb-true m (length (tag_name o)) x) (eqb-false (get_or s m 0) (code ">") y))) (omega arith)
    at false x y z = subst (In (suc (length s))) (sym (end_short o g st f s m (eqb-false m (length (tag_name o)) x))) (omega arith)

chars-in : (st : Stack) (f : Forest) (b : ℕ) (s : Bytes) → (r : Result ℕ ℕ) → scan 0 0 0 (b ∷ s) ≡ r → In (length s) (characters st f (b ∷ s))
chars-in st f b s (Ok k) e =
    let g = subst (λ (y : Result ℕ ℕ). RunIn 0 (0 + suc (length s)) y) e (scan-range 0 0 0 (b ∷ s) (omega arith)) in
    subst (In (length s)) (sym (chars-upto st f (b ∷ s) k e)) (omega arith)
chars-in st f b s (Err k) e =
    let g = subst (λ (y : Result ℕ ℕ). RunIn 0 (0 + suc (length s)) y) e (scan-range 0 0 0 (b ∷ s) (omega arith)) in
    subst (In (length s)) (sym (chars-stop st f (b ∷ s) k e)) (omega arith)

tags-in : (a : Bool) (o : Tag) (g : Forest) (st : Stack) (f : Forest) (b : ℕ) (s : Bytes) → b ≡ code "<" → In (length s) (step a (inside o g st) f (b ∷ s))
tags-in a o g st f b [] e = subst (In 0) (sym (step_start a o g st f b [] e (λ x. eqb-false 0 (code "/") refl x))) (start-in a (inside o g st) f [] (name_len []) (name_len-fits []))
tags-in a o g st f b (d ∷ u) e = at (eqb d (code "/")) refl
  where
    at : (x : Bool) → eqb d (code "/") ≡ x → In (suc (length u)) (step a (inside o g st) f (b ∷ d ∷ u))
    at true x = subst (In (suc (length u))) (sym (step_end a o g st f b (d ∷ u) e (eqb-true d (code "/") x))) (end-in o g st f u (common (tag_name o) u) (common-fits (tag_name o) u))
    at false x = subst (In (suc (length u))) (sym (step_start a o g st f b (d ∷ u) e (eqb-false d (code "/") x))) (start-in a (inside o g st) f (d ∷ u) (name_len (d ∷ u)) (name_len-fits (d ∷ u)))

pub step_in_lem : (a : Bool) (st : Stack) (f : Forest) (b : ℕ) (s : Bytes) → In (length s) (step a st f (b ∷ s))
step_in_lem a outer f b s = at (is_white b) refl (eqb b (code "<")) refl (is_end f) refl
  where
    at : (x : Bool) → is_white b ≡ x → (y : Bool) → eqb b (code "<") ≡ y → (z : Bool) → is_end f ≡ z → In (length s) (step a outer f (b ∷ s))
    at true x y p z q = subst (In (length s)) (sym (out-white a f b s x)) (omega arith)
    at false x false p z q = subst (In (length s)) (sym (out-other a f b s x (eqb-false b (code "<") p))) (omega arith)
    at false x true p false q = subst (In (length s)) (sym (out-second a f b s x (eqb-true b (code "<") p) q)) (omega arith)
    at false x true p true q = subst (In (length s)) (sym (out-start a f b s x (eqb-true b (code "<") p) q)) (start-in a outer f s (name_len s) (name_len-fits s))
step_in_lem a (inside o g st) f b s = at (eqb b (code "<")) refl
  where
    at : (x : Bool) → eqb b (code "<") ≡ x → In (length s) (step a (inside o g st) f (b ∷ s))
    at true p = tags-in a o g st f b s (eqb-true b (code "<") p)
    at false p = subst (In (length s)) (sym (step-chars a o g st f b s (eqb-false b (code "<") p))) (chars-in (inside o g st) f b s (scan 0 0 0 (b ∷ s)) refl)
