-- The place that `read` answers is that of the first wrong byte: whatever stands after it, the answer is the same.
use Rattle.std.specs.Prelude.{◌≡◌, refl, Bool, true, false, ◌&&◌, [], ◌∷◌, ◌++◌, ℕ, zero, suc, ◌+◌, ◌-◌, ◌<◌, ◌≤◌, min, eqb, length, take, drop, get_or, Result, Ok, Err}
use Rattle.std.proofs.Common.{ap, sym, ◌∙◌, subst, zero-add, arith, eqb-true}
use Prim.Native.Char.{code}
use Rattle.std.proofs.lemmas.Bool.{eqb-false}
use Rattle.xml.specs.Bytes.{Bytes, bytes, same, is_white}
use Rattle.xml.specs.Forest.{Forest, end, elem, text, join}
use Rattle.xml.specs.Read.{common, name_len, unescape, scan, Tag, named, tag_name, tag_node, Stack, outer, inside, Move, move, wrong, Outcome, whole, broken, is_end, start_of, start_tag, end_of, end_tag, characters, step, finish, go, read}
use Rattle.xml.specs.ScanLaws.{name_len-fits}
use Rattle.xml.specs.StepLaws.{StartCase, none, opens, lone, slash, times, bad, start-case, tag-none, tag_open, tag-bad, tag-times, tag-slash, tag-empty, step-chars, chars-upto, chars-stop, step_start, step_end, out-white, out-other, out-second, out-start}
use Rattle.xml.specs.Agree.{Agrees, more, agrees-take, agrees-drop, get_d-same, take_same, name_len-same, common-same, scan-same}
use Rattle.xml.specs.TextLaws.{place}
use Rattle.xml.specs.TimedTags.{is-timed, reach_t, times-reach, times-same}

-- ---- one step

-- the number of bytes after the first that tell what a step does: a run of text ends before a byte that is no more of it
abbrev pub reach : Move → ℕ
reach (move st f k) = suc k
reach (wrong k) = k

reach-le : (o : Move) → reach_t o ≤ reach o
reach-le (move st f k) = omega arith
reach-le (wrong k) = omega arith

start-reach : (a : Bool) (st : Stack) (f : Forest) (s : Bytes) (n : ℕ) → n ≤ length s → 1 + n ≤ reach_t (start_of a st f s n)
start-reach a st f s n l = at (start-case a s n)
  where
    at : StartCase a s n → 1 + n ≤ reach_t (start_of a st f s n)
    at (none z) = rw (tag-none a st f s n z) (omega arith)
    at (opens z b) = rw (tag_open a st f s n z b) (omega arith)
    at (lone z b d e) = rw (tag-empty a st f s n z b d e) (omega arith)
    at (slash z b d e) = rw (tag-slash a st f s n z b d e) (omega arith)
    at (times z b d t) =
        rw (tag-times a st f s n z b d t) (omega (arith, (is-timed a s n l t).one, times-reach st f (drop 1 s) (common (bytes " t=\"") (drop 1 s))))
    at (bad z b d t) = rw (tag-bad a st f s n z b d t) (omega arith)

end-reach : (o : Tag) (g : Forest) (st : Stack) (f : Forest) (s : Bytes) (m : ℕ) → 2 + m ≤ reach_t (end_of o g st f s m)
unfolding end_of
end-reach o g st f s m = pick (eqb m (length (tag_name o)) && eqb (get_or s m 0) (code ">"))
  where
    pick : (t : Bool) → 2 + m ≤ reach_t (elim t [ true ↦ move st (join g (tag_node o f)) (2 + m) | false ↦ wrong (2 + m) ])
    pick true = omega arith
    pick false = omega arith

start-at : (a : Bool) (st : Stack) (f : Forest) (m n : ℕ) (s s' : Bytes) → Agrees m s s' → n < m → n ≤ length s → reach_t (start_of a st f s n) ≤ m →
    start_of a st f s' n ≡ start_of a st f s n
start-at a st f m n s s' ag l fits h = at (start-case a s n)
  where
    g : get_or s' n 0 ≡ get_or s n 0
    g = get_d-same m n s s' l ag

    t : take n s' ≡ take n s
    t = take_same m n s s' (omega arith) ag

    name : a && same (take n s') (bytes "T") ≡ a && same (take n s) (bytes "T")
    name = ap (λ (x : Bytes). a && same x (bytes "T")) t

    at : StartCase a s n → start_of a st f s' n ≡ start_of a st f s n
    at (none z) = tag-none a st f s' n z ∙ sym (tag-none a st f s n z)
    at (opens z b) = tag_open a st f s' n z (g ∙ b) ∙ ap (λ (x : Bytes). move (inside (named x) f st) end (1 + n)) t ∙ sym (tag_open a st f s n z b)
    at (lone z b d e) =
        let v = tag-empty a st f s n z b d e in
        let j : 2 + n ≤ m = subst (λ (x : Move). reach_t x ≤ m) v h in
        let g₂ = get_d-same m (1 + n) s s' (omega arith) ag in
        tag-empty a st f s' n z (λ x. b (sym g ∙ x)) (g ∙ d) (g₂ ∙ e) ∙ ap (λ (x : Bytes). move st (join f (elem x end end)) (2 + n)) t ∙ sym v
    at (slash z b d e) =
        let v = tag-slash a st f s n z b d e in
        let j : 2 + n ≤ m = subst (λ (x : Move). reach_t x ≤ m) v h in
        let g₂ = get_d-same m (1 + n) s s' (omega arith) ag in
        tag-slash a st f s' n z (λ x. b (sym g ∙ x)) (g ∙ d) (λ x. e (sym g₂ ∙ x)) ∙ sym v
    at (times z b d u) =
        let v = tag-times a st f s n z b d u in
        let k = subst (λ (x : Move). reach_t x ≤ m) v h in
        tag-times a st f s' n z (λ x. b (sym g ∙ x)) (λ x. d (sym g ∙ x)) (name ∙ u)
        ∙ times-same st f (m - 1) (drop 1 s) (drop 1 s') (agrees-drop 1 m s s' ag) (omega arith) ∙ sym v
    at (bad z b d u) =
        tag-bad a st f s' n z (λ x. b (sym g ∙ x)) (λ x. d (sym g ∙ x)) (name ∙ u) ∙ sym (tag-bad a st f s n z b d u)

pub start-same : (a : Bool) (st : Stack) (f : Forest) (m : ℕ) (s s' : Bytes) → Agrees m s s' → reach_t (start_tag a st f s) ≤ m → start_tag a st f s' ≡ start_tag a st f s
start-same a st f m s s' ag h =
    let l : name_len s < m = omega (arith, start-reach a st f s (name_len s) (name_len-fits s)) in
    ap (start_of a st f s') (name_len-same m s s' l ag) ∙ start-at a st f m (name_len s) s s' ag l (name_len-fits s) h

end_same : (o : Tag) (g : Forest) (st : Stack) (f : Forest) (m : ℕ) (s s' : Bytes) → Agrees m s s' → reach_t (end_tag o g st f s) ≤ suc m →
    end_tag o g st f s' ≡ end_tag o g st f s
unfolding end_of
end_same o g st f m s s' ag h =
    let l : common (tag_name o) s < m = omega (arith, end-reach o g st f s (common (tag_name o) s)) in
    let b = get_d-same m (common (tag_name o) s) s s' l ag in
    ap (end_of o g st f s') (common-same (tag_name o) m s s' l ag) ∙ rw (b, end_of)

chars-same : (st : Stack) (f : Forest) (m : ℕ) (s s' : Bytes) → Agrees m s s' → (r : Result ℕ ℕ) → scan 0 0 0 s ≡ r → place r < m → characters st f s' ≡ characters st f s
chars-same st f m s s' ag (Ok k) e h =
    let g = scan-same m 0 0 0 s s' (omega arith) ag (subst (λ (x : ℕ). place (scan 0 0 0 s) < x) (sym (zero-add m)) (subst (λ (x : Result ℕ ℕ). place x < m) (sym e) h)) in
    chars-upto st f s' k (g ∙ e)
    ∙ ap (λ (x : Bytes). move st (join f (text (unescape 0 x) end)) (k - 1)) (take_same m k s s' (omega arith) ag)
    ∙ sym (chars-upto st f s k e)
chars-same st f m s s' ag (Err k) e h =
    let g = scan-same m 0 0 0 s s' (omega arith) ag (subst (λ (x : ℕ). place (scan 0 0 0 s) < x) (sym (zero-add m)) (subst (λ (x : Result ℕ ℕ). place x < m) (sym e) h)) in
    chars-stop st f s' k (g ∙ e) ∙ sym (chars-stop st f s k e)

chars-place : (st : Stack) (f : Forest) (s : Bytes) (m : ℕ) (r : Result ℕ ℕ) → scan 0 0 0 s ≡ r → reach (characters st f s) < m → place r < m
chars-place st f s m (Ok k) e h = let x = subst (λ (y : Move). reach y < m) (chars-upto st f s k e) h in omega arith
chars-place st f s m (Err k) e h = subst (λ (y : Move). reach y < m) (chars-stop st f s k e) h

pub tags-same : (a : Bool) (o : Tag) (g : Forest) (st : Stack) (f : Forest) (m b : ℕ) (s s' : Bytes) → b ≡ code "<" → Agrees m s s' →
    reach_t (step a (inside o g st) f (b ∷ s)) ≤ m → step a (inside o g st) f (b ∷ s') ≡ step a (inside o g st) f (b ∷ s)
tags-same a o g st f zero b s s' e ag h = at (eqb (get_or s 0 0) (code "/")) refl
  where
    at : (x : Bool) → eqb (get_or s 0 0) (code "/") ≡ x → step a (inside o g st) f (b ∷ s') ≡ step a (inside o g st) f (b ∷ s)
    at true p =
        let v = subst (λ (y : Move). reach_t y ≤ 0) (step_end a o g st f b s e (eqb-true (get_or s 0 0) (code "/") p)) h in
        absurd (omega (arith, end-reach o g st f (drop 1 s) (common (tag_name o) (drop 1 s))))
    at false p =
        let v = subst (λ (y : Move). reach_t y ≤ 0) (step_start a o g st f b s e (eqb-false (get_or s 0 0) (code "/") p)) h in
        absurd (omega (arith, start-reach a (inside o g st) f s (name_len s) (name_len-fits s)))
tags-same a o g st f (suc m) b s s' e (more {b = d} {s = u} {s' = u'} ag) h = at (eqb d (code "/")) refl
  where
    at : (x : Bool) → eqb d (code "/") ≡ x → step a (inside o g st) f (b ∷ d ∷ u') ≡ step a (inside o g st) f (b ∷ d ∷ u)
    at true p =
        let q = eqb-true d (code "/") p in
        let v = step_end a o g st f b (d ∷ u) e q in
        step_end a o g st f b (d ∷ u') e q ∙ end_same o g st f m u u' ag (subst (λ (y : Move). reach_t y ≤ suc m) v h) ∙ sym v
    at false p =
        let q = eqb-false d (code "/") p in
        let v = step_start a o g st f b (d ∷ u) e q in
        step_start a o g st f b (d ∷ u') e q ∙ start-same a (inside o g st) f (suc m) (d ∷ u) (d ∷ u') (more ag) (subst (λ (y : Move). reach_t y ≤ suc m) v h) ∙ sym v

pub step_same : (a : Bool) (st : Stack) (f : Forest) (m b : ℕ) (s s' : Bytes) → Agrees m s s' → reach (step a st f (b ∷ s)) ≤ m → step a st f (b ∷ s') ≡ step a st f (b ∷ s)
step_same a outer f m b s s' ag h = at (is_white b) refl (eqb b (code "<")) refl (is_end f) refl
  where
    at : (x : Bool) → is_white b ≡ x → (y : Bool) → eqb b (code "<") ≡ y → (z : Bool) → is_end f ≡ z → step a outer f (b ∷ s') ≡ step a outer f (b ∷ s)
    at true x y p z q = out-white a f b s' x ∙ sym (out-white a f b s x)
    at false x false p z q = out-other a f b s' x (eqb-false b (code "<") p) ∙ sym (out-other a f b s x (eqb-false b (code "<") p))
    at false x true p false q = out-second a f b s' x (eqb-true b (code "<") p) q ∙ sym (out-second a f b s x (eqb-true b (code "<") p) q)
    at false x true p true q =
        let v = out-start a f b s x (eqb-true b (code "<") p) q in
        out-start a f b s' x (eqb-true b (code "<") p) q ∙ start-same a outer f m s s' ag (omega (arith, reach-le (start_tag a outer f s), subst (λ (y : Move). reach y ≤ m) v h)) ∙ sym v
step_same a (inside o g st) f m b s s' ag h = at (eqb b (code "<")) refl
  where
    at : (x : Bool) → eqb b (code "<") ≡ x → step a (inside o g st) f (b ∷ s') ≡ step a (inside o g st) f (b ∷ s)
    at true p = tags-same a o g st f m b s s' (eqb-true b (code "<") p) ag (omega (arith, reach-le (step a (inside o g st) f (b ∷ s))))
    at false p =
        let n = eqb-false b (code "<") p in
        let v = step-chars a o g st f b s n in
        let l : reach (characters (inside o g st) f (b ∷ s)) ≤ m = subst (λ (y : Move). reach y ≤ m) v h in
        let i = chars-place (inside o g st) f (b ∷ s) (suc m) (scan 0 0 0 (b ∷ s)) refl (omega arith) in
        step-chars a o g st f b s' n ∙ chars-same (inside o g st) f (suc m) (b ∷ s) (b ∷ s') (more ag) (scan 0 0 0 (b ∷ s)) refl i ∙ sym v

-- ---- going on

answer-apart : {A : Type 0} (f : Forest) (p : ℕ) → whole f ≡ broken p → A
answer-apart f p e = let z : ◌≡◌ {A = ℕ} 0 1 = cc in absurd (omega arith)

pub bad-is : (p q : ℕ) → broken p ≡ broken q → p ≡ q
bad-is p q e = cc

pub finish-ge : (st : Stack) (f : Forest) (at p : ℕ) → finish st f at ≡ broken p → at ≡ p
unfolding finish
finish-ge outer f at p e = pick (is_end f) e
  where
    pick : (t : Bool) → elim t [ true ↦ broken at | false ↦ whole f ] ≡ broken p → at ≡ p
    pick true e = bad-is at p e
    pick false e = answer-apart f p e
finish-ge (inside o g st) f at p e = bad-is at p e

agrees-le : (m : ℕ) (s s' : Bytes) → Agrees m s s' → m ≤ length s
agrees-le zero s s' ag = omega arith
agrees-le (suc m) s s' (more {s = u} {s' = u'} ag) = omega (arith, agrees-le m u u' ag)

abbrev pub go_on : Bool → ℕ → Bytes → Move → Outcome
go_on a at s o = elim o [ move st' f' k ↦ go a st' f' (suc at) k s | wrong k ↦ broken (at + k) ]

pub go-ge : (a : Bool) (s : Bytes) (st : Stack) (f : Forest) (at k p : ℕ) → go a st f at k s ≡ broken p → at + min k (length s) ≤ p
unfolding go
go-ge a [] st f at k p e = omega (arith, finish-ge st f at p e)
go-ge a (b ∷ s) st f at (suc k) p e = omega (arith, go-ge a s st f (suc at) k p e)
go-ge a (b ∷ s) st f at zero p e = turned (step a st f (b ∷ s)) e (λ st' f' k q. go-ge a s st' f' (suc at) k p q)
  where
    turned : (o : Move) → go_on a at s o ≡ broken p → ((st' : Stack) (f' : Forest) (k : ℕ) → go a st' f' (suc at) k s ≡ broken p → suc at + min k (length s) ≤ p) →
        at + min 0 (suc (length s)) ≤ p
    turned (move st' f' k) e g = omega (arith, g st' f' k e)
    turned (wrong k) e g = omega (arith, bad-is (at + k) p e)

first-same : (a : Bool) (m : ℕ) (st : Stack) (f : Forest) (at k : ℕ) (s s' : Bytes) (p : ℕ) → Agrees m s s' → p < at + m → go a st f at k s ≡ broken p → go a st f at k s' ≡ broken p
unfolding go
first-same a zero st f at k s s' p ag h e = absurd (omega (arith, go-ge a s st f at k p e))
first-same a (suc m) st f at (suc k) s s' p (more {s = u} {s' = u'} ag) h e = first-same a m st f (suc at) k u u' p ag (omega arith) e
first-same a (suc m) st f at zero s s' p (more {b = b} {s = u} {s' = u'} ag) h e =
    turned (step a st f (b ∷ u)) refl e (λ st' f' k q. first-same a m st' f' (suc at) k u u' p ag (omega arith) q)
  where
    turned : (o : Move) → step a st f (b ∷ u) ≡ o → go_on a at u o ≡ broken p →
        ((st' : Stack) (f' : Forest) (k : ℕ) → go a st' f' (suc at) k u ≡ broken p → go a st' f' (suc at) k u' ≡ broken p) → go_on a at u' (step a st f (b ∷ u')) ≡ broken p
    turned (move st' f' k) v e g =
        let l = agrees-le m u u' ag in
        let i : suc k ≤ m = omega (arith, go-ge a u st' f' (suc at) k p e) in
        ap (go_on a at u') (step_same a st f m b u u' ag (subst (λ (y : Move). reach y ≤ m) (sym v) i) ∙ v) ∙ g st' f' k e
    turned (wrong k) v e g =
        let i : k ≤ m = omega (arith, bad-is (at + k) p e) in
        ap (go_on a at u') (step_same a st f m b u u' ag (subst (λ (y : Move). reach y ≤ m) (sym v) i) ∙ v) ∙ e

-- whatever stands after the byte at p, the answer is that p is wrong: no text has these p + 1 bytes first
pub first : (a : Bool) (s t : Bytes) (p : ℕ) → read a s ≡ broken p → p < length s → read a (take (p + 1) s ++ t) ≡ broken p
unfolding read
first a s t p e h =
    first-same a (p + 1) outer end 0 0 s (take (p + 1) s ++ t) p (agrees-take (p + 1) s t (omega arith)) (omega arith) e
