-- The bytes before the wrong one can be completed: `read a s ≡ broken p` gives a t with `read a (take p s ++ t) ≡ whole f`.
use Rattle.std.specs.Prelude.{◌≡◌, refl, Bool, true, false, [], ◌∷◌, ◌++◌, ◌⊎◌, ℕ, zero, suc, ◌+◌, ◌-◌, ◌≤◌, eqb, leb, length, take, get_or, Result, Ok, Err}
use Rattle.std.proofs.Common.{ap, sym, ◌∙◌, subst, append_assoc, inl, inr, ⊎_elim, zero-add, le_of_suc-le-suc, arith, eqb-true, leb-true, leb-false, length-append, length-take-le}
use Prim.Native.Char.{code}
use Rattle.std.proofs.lemmas.Bool.{eqb-false}
use Rattle.std.proofs.Math.Seq.{drop-append_seam}
use Rattle.xml.specs.Bytes.{Bytes, is_white}
use Rattle.xml.specs.Forest.{Forest, end, text, join}
use Rattle.xml.specs.Read.{unescape, scan, Tag, tag_name, Stack, outer, inside, Move, move, wrong, whole, broken, is_end, step, go, read}
use Rattle.xml.specs.TextLaws.{RunIn, scan-first}
use Rattle.xml.specs.StepLaws.{step-chars, chars-upto, chars-stop, step_start, step_end, out-white, out-other, out-second, out-start, go_on_lem}
use Rattle.xml.specs.Agree.{Agrees, agrees-take}
use Rattle.xml.specs.TimedTags.{reach_t}
use Rattle.xml.specs.First.{reach, start-same, tags-same, step_same, finish-ge, go_on, go-ge, bad-is}
use Rattle.xml.specs.StepIn.{In, step_in_lem, move-apart, move-count, wrong-is}
use Rattle.xml.specs.LiveText.{scan-live, scan-cut}
use Rattle.xml.specs.Closing.{close_all, Closes, inner-closes}
use Rattle.xml.specs.LiveTags.{Alive, state-live, start-live, end_live}

-- a run b ∷ v of text before what closes the rest
run-closes : (a : Bool) (o : Tag) (g : Forest) (st : Stack) (f : Forest) (b : ℕ) (v : Bytes) → (b ≡ code "<" → ⊥) →
    scan 0 0 0 ((b ∷ v) ++ close_all (inside o g st)) ≡ Ok (suc (length v)) → Closes a (inside o g st) f ((b ∷ v) ++ close_all (inside o g st))
run-closes a o g st f b v n e at =
    let here = inside o g st in
    let c = close_all here in
    let s = v ++ c in
    let f' = join f (text (unescape 0 (take (suc (length v)) (b ∷ s))) end) in
    let p : suc (length v) - 1 ≡ length v = omega arith in
    let m : step a here f (b ∷ s) ≡ move here f' (length v) =
    step-chars a o g st f b s n ∙ chars-upto here f (b ∷ s) (suc (length v)) e ∙ ap (λ (x : ℕ). move here f' x) p
    in
    let y = inner-closes a o g st f' (suc at + length v) in (
      y.0,
      go_on_lem a here here f f' at b (length v) s m (omega (arith, length-append v c))
          ∙ ap (λ (x : Bytes). go a here f' (suc at + length v) 0 x) (drop-append_seam v c) ∙ y.1,
    )

chars-live : (a : Bool) (o : Tag) (g : Forest) (st : Stack) (f : Forest) (b : ℕ) (s : Bytes) (j : ℕ) → (b ≡ code "<" → ⊥) → scan 0 0 0 (b ∷ s) ≡ Err j →
    Alive a (inside o g st) f (take j (b ∷ s))
unfolding close_all
chars-live a o g st f b s zero n e = state-live a (inside o g st) f
chars-live a o g st f b s (suc j) n e =
    let x = scan-live (b ∷ s) 0 0 0 (suc j) (omega arith) e in
    let z : suc j - 0 ≡ suc j = omega arith in
    let c = close_all (inside o g st) in
    let v = take j s ++ x.add in
    let ends : scan 0 0 0 ((b ∷ v) ++ c) ≡ Ok (0 + suc (length v)) =
    subst (λ (m : ℕ). scan 0 0 0 ((take m (b ∷ s) ++ x.add) ++ c) ≡ Ok (0 + length (take m (b ∷ s) ++ x.add))) z (x.ends (code "/" ∷ (tag_name o ++ (code ">" ∷ close_all st))))
    in
    record {
      add = x.add ++ c;
      closes = subst (λ (l : Bytes). Closes a (inside o g st) f (b ∷ l)) (append_assoc (take j s) x.add c)
          (run-closes a o g st f b v n (ends ∙ ap Ok (zero-add (suc (length v)))));
    }

step-live : (a : Bool) (st : Stack) (f : Forest) (b : ℕ) (s : Bytes) (j : ℕ) → step a st f (b ∷ s) ≡ wrong j → Alive a st f (take j (b ∷ s))
step-live a outer f b s j e = at (is_white b) refl (eqb b (code "<")) refl (is_end f) refl
  where
    zero-live : wrong 0 ≡ wrong j → Alive a outer f (take j (b ∷ s))
    zero-live i = subst (λ (m : ℕ). Alive a outer f (take m (b ∷ s))) (wrong-is 0 j i) (state-live a outer f)

    at : (x : Bool) → is_white b ≡ x → (y : Bool) → eqb b (code "<") ≡ y → (z : Bool) → is_end f ≡ z → Alive a outer f (take j (b ∷ s))
    at true x y p z q = move-apart outer f 0 j (sym (out-white a f b s x) ∙ e)
    at false x false p z q = zero-live (sym (out-other a f b s x (eqb-false b (code "<") p)) ∙ e)
    at false x true p false q = zero-live (sym (out-second a f b s x (eqb-true b (code "<") p) q) ∙ e)
    at false x true p true q =
        let i = eqb-true b (code "<") p in
        subst (λ (c : ℕ). Alive a outer f (take j (c ∷ s))) (sym i)
        (start-live a outer f s j (λ u h. out-start a f (code "<") u (ap is_white (sym i) ∙ x) refl q) (sym (out-start a f b s x i q) ∙ e))
step-live a (inside o g st) f b s j e = at (eqb b (code "<")) refl (eqb (get_or s 0 0) (code "/")) refl
  where
    at : (x : Bool) → eqb b (code "<") ≡ x → (y : Bool) → eqb (get_or s 0 0) (code "/") ≡ y → Alive a (inside o g st) f (take j (b ∷ s))
    at false p y q =
        let n = eqb-false b (code "<") p in
        run (scan 0 0 0 (b ∷ s)) refl
      where
        run : (r : Result ℕ ℕ) → scan 0 0 0 (b ∷ s) ≡ r → Alive a (inside o g st) f (take j (b ∷ s))
        run (Ok k) c = move-apart _ _ _ j (sym (step-chars a o g st f b s (eqb-false b (code "<") p) ∙ chars-upto (inside o g st) f (b ∷ s) k c) ∙ e)
        run (Err k) c =
            let i = wrong-is k j (sym (step-chars a o g st f b s (eqb-false b (code "<") p) ∙ chars-stop (inside o g st) f (b ∷ s) k c) ∙ e) in
            chars-live a o g st f b s j (eqb-false b (code "<") p) (c ∙ ap Err i)
    at true p false q =
        let i = eqb-true b (code "<") p in
        subst (λ (c : ℕ). Alive a (inside o g st) f (take j (c ∷ s))) (sym i)
        (start-live a (inside o g st) f s j (λ u h. step_start a o g st f (code "<") u refl h) (sym (step_start a o g st f b s i (eqb-false (get_or s 0 0) (code "/") q)) ∙ e))
    at true p true q = tag s (eqb-true (get_or s 0 0) (code "/") q) e
      where
        tag : (u : Bytes) → get_or u 0 0 ≡ code "/" → step a (inside o g st) f (b ∷ u) ≡ wrong j → Alive a (inside o g st) f (take j (b ∷ u))
        tag [] d e = absurd (eqb-false 0 (code "/") refl d)
        tag (c ∷ u) d e =
            let i = eqb-true b (code "<") p in
            subst (λ (x : ℕ). Alive a (inside o g st) f (take j (x ∷ c ∷ u))) (sym i)
            (subst (λ (x : ℕ). Alive a (inside o g st) f (take j (code "<" ∷ x ∷ u))) (sym d)
            (end_live a o g st f u j (sym (step_end a o g st f b (c ∷ u) i d) ∙ e)))

-- ---- going on

outer_same : (a : Bool) (f : Forest) (m b : ℕ) (s s' : Bytes) → Agrees m s s' → reach_t (step a outer f (b ∷ s)) ≤ m → step a outer f (b ∷ s') ≡ step a outer f (b ∷ s)
outer_same a f m b s s' ag h = at (is_white b) refl (eqb b (code "<")) refl (is_end f) refl
  where
    at : (x : Bool) → is_white b ≡ x → (y : Bool) → eqb b (code "<") ≡ y → (z : Bool) → is_end f ≡ z → step a outer f (b ∷ s') ≡ step a outer f (b ∷ s)
    at true x y p z q = out-white a f b s' x ∙ sym (out-white a f b s x)
    at false x false p z q = out-other a f b s' x (eqb-false b (code "<") p) ∙ sym (out-other a f b s x (eqb-false b (code "<") p))
    at false x true p false q = out-second a f b s' x (eqb-true b (code "<") p) q ∙ sym (out-second a f b s x (eqb-true b (code "<") p) q)
    at false x true p true q =
        let v = out-start a f b s x (eqb-true b (code "<") p) q in
        out-start a f b s' x (eqb-true b (code "<") p) q ∙ start-same a outer f m s s' ag (subst (λ (y : Move). reach_t y ≤ m) v h) ∙ sym v

-- a step over k + 1 bytes, of which the first m + 1 are kept, is taken again over what they are completed to;
-- or it is a run of text that ends where the kept bytes end, and is closed there
again : (a : Bool) (st : Stack) (f : Forest) (b : ℕ) (s : Bytes) (st' : Stack) (f' : Forest) (k m : ℕ) → step a st f (b ∷ s) ≡ move st' f' k → k ≤ m → m ≤ length s →
    ((t : Bytes) → step a st f (b ∷ (take m s ++ t)) ≡ move st' f' k) ⊎ Alive a st f (b ∷ take m s)
unfolding close_all
again a outer f b s st' f' k m e h l =
    inl (λ t. outer_same a f m b s (take m s ++ t) (agrees-take m s t l) (subst (λ (y : Move). reach_t y ≤ m) (sym e) h) ∙ e)
again a (inside o g st) f b s st' f' k m e h l = at (eqb b (code "<")) refl (leb (suc k) m) refl
  where
    at : (x : Bool) → eqb b (code "<") ≡ x → (y : Bool) → leb (suc k) m ≡ y →
        ((t : Bytes) → step a (inside o g st) f (b ∷ (take m s ++ t)) ≡ move st' f' k) ⊎ Alive a (inside o g st) f (b ∷ take m s)
    at true x y q =
        inl (λ t. tags-same a o g st f m b s (take m s ++ t) (eqb-true b (code "<") x) (agrees-take m s t l) (subst (λ (y : Move). reach_t y ≤ m) (sym e) h) ∙ e)
    at false x true q =
        inl (λ t. step_same a (inside o g st) f m b s (take m s ++ t) (agrees-take m s t l) (subst (λ (y : Move). reach y ≤ m) (sym e) (leb-true (suc k) m q)) ∙ e)
    at false x false q = inr (run (scan 0 0 0 (b ∷ s)) refl)
      where
        n : b ≡ code "<" → ⊥
        n = eqb-false b (code "<") x

        run : (r : Result ℕ ℕ) → scan 0 0 0 (b ∷ s) ≡ r → Alive a (inside o g st) f (b ∷ take m s)
        run (Err j) c = move-apart st' f' k j (sym e ∙ step-chars a o g st f b s n ∙ chars-stop (inside o g st) f (b ∷ s) j c)
        run (Ok j) c =
            let i : j - 1 ≡ k = move-count _ st' _ f' (j - 1) k (sym (step-chars a o g st f b s n ∙ chars-upto (inside o g st) f (b ∷ s) j c) ∙ e) in
            let r = subst (λ (y : Result ℕ ℕ). RunIn 1 (1 + length s) y) c (scan-first b s n) in
            let over = leb-false (suc k) m q in
            let w : j - 0 ≡ suc m = omega arith in
            let u : length (take m s) ≡ m = length-take-le m s l in
            let v : j ≡ suc (length (take m s)) = omega arith in
            let d : scan 0 0 0 ((b ∷ take m s) ++ close_all (inside o g st)) ≡ Ok j =
            subst (λ (z : ℕ). scan 0 0 0 (take z (b ∷ s) ++ close_all (inside o g st)) ≡ Ok j) w
            (scan-cut (b ∷ s) 0 0 0 j (omega arith) c (code "/" ∷ (tag_name o ++ (code ">" ∷ close_all st))))
            in
            record { add = close_all (inside o g st); closes = run-closes a o g st f b (take m s) n (d ∙ ap Ok v) }

-- the wrong byte stands in the text, or at its end
go-le : (a : Bool) (s : Bytes) (st : Stack) (f : Forest) (at k p : ℕ) → go a st f at k s ≡ broken p → p ≤ at + length s
unfolding go
go-le a [] st f at k p e = omega (arith, finish-ge st f at p e)
go-le a (b ∷ s) st f at (suc k) p e = omega (arith, go-le a s st f (suc at) k p e)
go-le a (b ∷ s) st f at zero p e = turned (step a st f (b ∷ s)) (step_in_lem a st f b s) e (λ st' f' k q. go-le a s st' f' (suc at) k p q)
  where
    turned : (o : Move) → In (length s) o → go_on a at s o ≡ broken p → ((st' : Stack) (f' : Forest) (k : ℕ) → go a st' f' (suc at) k s ≡ broken p → p ≤ suc at + length s) →
        p ≤ at + suc (length s)
    turned (move st' f' k) i e g = omega (arith, g st' f' k e)
    turned (wrong k) i e g = omega (arith, bad-is (at + k) p e)

pub read-le : (a : Bool) (s : Bytes) (p : ℕ) → read a s ≡ broken p → p ≤ length s
unfolding read
read-le a s p e = omega (arith, go-le a s outer end 0 0 p e)

record Lives (a : Bool) (st : Stack) (f : Forest) (at k p : ℕ) (s : Bytes) : Type 0 where
  add : Bytes
  forest : Forest
  reads : go a st f at k (take (p - at) s ++ add) ≡ whole forest

live : (a : Bool) (s : Bytes) (st : Stack) (f : Forest) (at k p : ℕ) → k ≤ length s → go a st f at k s ≡ broken p → Lives a st f at k p s
unfolding go
live a [] st f at k p l e =
    let x = state-live a st f in
    let y = x.closes at in
    let i : p - at ≡ 0 = omega (arith, finish-ge st f at p e) in
    let z : k ≡ 0 = omega arith in
    record {
      add = x.add;
      forest = y.0;
      reads = subst (λ (m : ℕ). go a st f at k (take m [] ++ x.add) ≡ whole y.0) (sym i) (subst (λ (m : ℕ). go a st f at m x.add ≡ whole y.0) (sym z) y.1);
    }
live a (b ∷ s) st f at (suc k) p l e =
    let x = live a s st f (suc at) k p (le_of_suc-le-suc l) e in
    let i : p - at ≡ suc (p - suc at) = omega (arith, go-ge a s st f (suc at) k p e) in
    record {
      add = x.add;
      forest = x.forest;
      reads = subst (λ (m : ℕ). go a st f at (suc k) (take m (b ∷ s) ++ x.add) ≡ whole x.forest) (sym i) x.reads;
    }
live a (b ∷ s) st f at zero p l e = turned (step a st f (b ∷ s)) refl (step_in_lem a st f b s) e (λ st' f' k i q. live a s st' f' (suc at) k p i q)
  where
    turned : (o : Move) → step a st f (b ∷ s) ≡ o → In (length s) o → go_on a at s o ≡ broken p →
        ((st' : Stack) (f' : Forest) (k : ℕ) → k ≤ length s → go a st' f' (suc at) k s ≡ broken p → Lives a st' f' (suc at) k p s) → Lives a st f at 0 p (b ∷ s)
    turned (wrong j) v i e g =
        let w : p - at ≡ j = omega (arith, bad-is (at + j) p e) in
        let x = step-live a st f b s j v in
        let y = x.closes at in
        record { add = x.add; forest = y.0; reads = subst (λ (m : ℕ). go a st f at 0 (take m (b ∷ s) ++ x.add) ≡ whole y.0) (sym w) y.1 }
    turned (move st' f' k) v i e g =
        let lo = go-ge a s st' f' (suc at) k p e in
        let hi = go-le a s st' f' (suc at) k p e in
        let m : ℕ = p - suc at in
        let w : p - at ≡ suc m = omega arith in
        let x = g st' f' k i e in
        ⊎_elim
        (λ c. record {
          add = x.add;
          forest = x.forest;
          reads = subst (λ (m : ℕ). go a st f at 0 (take m (b ∷ s) ++ x.add) ≡ whole x.forest) (sym w)
              (ap (go_on a at (take m s ++ x.add)) (c x.add) ∙ x.reads);
        })
        (λ y. let z = y.closes at in
        record { add = y.add; forest = z.0; reads = subst (λ (m : ℕ). go a st f at 0 (take m (b ∷ s) ++ y.add) ≡ whole z.0) (sym w) z.1 })
        (again a st f b s st' f' k m v (omega arith) (omega arith))

-- the p bytes before the wrong one begin some text of the subset
pub alive : (a : Bool) (s : Bytes) (p : ℕ) → read a s ≡ broken p → (t : Bytes) × (f : Forest) × (read a (take p s ++ t) ≡ whole f)
unfolding read
alive a s p e =
    let x = live a s outer end 0 0 p (omega arith) e in
    let z : p - 0 ≡ p = omega arith in
    (x.add, x.forest, subst (λ (m : ℕ). go a outer end 0 0 (take m s ++ x.add) ≡ whole x.forest) z x.reads)
