-- What completes a tag that was begun, so that all that is open is closed and the text is read to its end.
use Rattle.std.specs.Prelude.{◌≡◌, Bool, true, false, [], ◌∷◌, ◌++◌, eqb, length, take, drop, get_or}
use Rattle.std.proofs.Math.Path.{refl}
use Rattle.std.proofs.Common.{ap, sym, ◌∙◌, subst, append_assoc, arith, eqb-true, take-suc, take-add, length-take-le}
use Prim.Native.Char.{code}
use Prim.Native.Nat.{ℕ, suc, ◌+◌}
use Rattle.std.proofs.lemmas.Bool.{eqb-false}
use Rattle.xml.specs.Bytes.{Bytes, bytes, is_start, bytes_compute}
use Rattle.xml.specs.Forest.{Forest, end, elem, text, stamp, join}
use Rattle.xml.specs.Read.{common, name_len, times_len, Tag, timed, tag_name, tag_node, Stack, outer, inside, wrong, start_tag, end_tag, step, read_compute}
use Rattle.xml.specs.ScanLaws.{name_len-cons, name_len-off, name_len-fits, times_len-fits, begins}
use Rattle.xml.specs.StepLaws.{in-range, StartCase, none, opens, lone, slash, times, bad, start-case, tag-none, tag_open, tag-bad, tag-times, tag-slash, tag-empty, times-bad, times-good, times-end-bad, times-end-good, end-good, end-bad, end_short}
use Rattle.xml.specs.Goes.{goes_end}
use Rattle.xml.specs.TimedTags.{is-timed, times_tag, times_close}
use Rattle.xml.specs.Truth.{clash}
use Rattle.xml.specs.LiveText.{completed}
use Rattle.xml.specs.StepIn.{move-apart, wrong-is}
use Rattle.xml.specs.Closing.{close_all, join-some, Closes, some-closes, inner-closes, name-slash, empty-closes, times_cut, times-closes}

-- ---- the completion of each state, and of each token that went wrong

pub record Alive (a : Bool) (st : Stack) (f : Forest) (s : Bytes) : Type 0 where
  pub add : Bytes
  pub closes : Closes a st f (s ++ add)

pub state-live : (a : Bool) (st : Stack) (f : Forest) → Alive a st f []
unfolding read_compute
state-live a outer end = record { add = bytes "<a/>"; closes = λ at. (elem (bytes "a") end end, refl) }
state-live a outer (elem n k r) = record { add = []; closes = λ at. (elem n k r, refl) }
state-live a outer (text b r) = record { add = []; closes = λ at. (text b r, refl) }
state-live a outer (stamp t k r) = record { add = []; closes = λ at. (stamp t k r, refl) }
state-live a (inside o g st) f = record { add = close_all (inside o g st); closes = inner-closes a o g st f }

slash-start : is_start (code "/") ≡ false
unfolding bytes_compute
slash-start = refl

first-no-slash : (s x : Bytes) → (name_len s ≡ 0 → ⊥) → get_or (take (name_len s) s ++ x) 0 0 ≡ code "/" → ⊥
unfolding name_len
first-no-slash [] x h e = h refl
first-no-slash (b ∷ s) x h e = at (is_start b) refl
  where
    at : (t : Bool) → is_start b ≡ t → ⊥
    at true q =
        let z : b ≡ code "/" = subst (λ (n : ℕ). get_or (take n (b ∷ s) ++ x) 0 0 ≡ code "/") (name_len-cons b s q) e in
        clash (sym q ∙ ap is_start z ∙ slash-start)
    at false q = h (name_len-off b s q)

one_name : (c : Bytes) → name_len (code "a" ∷ code "/" ∷ c) ≡ 1
unfolding read_compute
one_name c = refl

-- ---- an archive's `<T t="..">`

module _ (st : Stack) (f : Forest) (s : Bytes) (j : ℕ)
    (starts : (u : Bytes) → (get_or u 0 0 ≡ code "/" → ⊥) → step true st f (code "<" ∷ u) ≡ start_tag true st f u) where
  close-live : times_close st f s ≡ wrong j → Alive true st f (take j (code "<" ∷ (bytes "T t=\"" ++ s)))
  unfolding bytes
  close-live e = at (eqb c 2) refl
    where
      n : ℕ
      n = times_len s

      c : ℕ
      c = common (bytes "\">") (drop (times_len s) s)

      t : Bytes
      t = take (times_len s) s

      at : (x : Bool) → eqb c 2 ≡ x → Alive true st f (take j (code "<" ∷ (bytes "T t=\"" ++ s)))
      at true x = move-apart _ _ _ j (sym (times-end-good st f s n c (eqb-true c 2 x)) ∙ e)
      at false x =
          let q : Bytes = bytes "\">" in
          let z = close_all (inside (timed t) f st) in
          let i : 6 + n + c ≡ j = wrong-is (6 + n + c) j (sym (times-end-bad st f s n c (eqb-false c 2 x)) ∙ e) in
          let i' : suc (suc (suc (suc (suc (suc (n + c)))))) ≡ j = omega arith in
          let w : take (n + c) s ++ (drop c q ++ z) ≡ t ++ (q ++ z) =
          ap (λ (y : Bytes). y ++ (drop c q ++ z)) (take-add n c s)
          ∙ append_assoc t (take c (drop n s)) (drop c q ++ z)
          ∙ ap (λ (y : Bytes). t ++ y) (sym (append_assoc (take c (drop n s)) (drop c q) z) ∙ ap (λ (y : Bytes). y ++ z) (completed q (drop n s)))
          in
          let l = length-take-le n s (times_len-fits s) in
          subst (λ (m : ℕ). Alive true st f (take m (code "<" ∷ (bytes "T t=\"" ++ s)))) i'
          (record {
            add = drop c q ++ z;
            closes = subst (λ (y : Bytes). Closes true st f (code "<" ∷ (bytes "T t=\"" ++ y))) (sym w)
                (times-closes st f t (λ y. times_cut s y ∙ sym l) starts);
          })

times-live : (st : Stack) (f : Forest) (s : Bytes) (j : ℕ) →
    ((u : Bytes) → (get_or u 0 0 ≡ code "/" → ⊥) → step true st f (code "<" ∷ u) ≡ start_tag true st f u) →
    times_tag st f s ≡ wrong j → Alive true st f (take j (code "<" ∷ code "T" ∷ s))
unfolding bytes times_len
times-live st f s j starts e = at (eqb c 4) refl
  where
    c : ℕ
    c = common (bytes " t=\"") s

    at : (x : Bool) → eqb c 4 ≡ x → Alive true st f (take j (code "<" ∷ code "T" ∷ s))
    at true x =
        let k = eqb-true c 4 x in
        subst (λ (y : Bytes). Alive true st f (take j (code "<" ∷ code "T" ∷ y))) (sym (begins (bytes " t=\"") s k))
        (close-live st f (drop 4 s) j starts (sym (times-good st f s c k) ∙ e))
    at false x =
        let v : Bytes = bytes " t=\"" in
        let z = bytes "\">" ++ close_all (inside (timed []) f st) in
        let i : 2 + c ≡ j = wrong-is (2 + c) j (sym (times-bad st f s c (eqb-false c 4 x)) ∙ e) in
        let i' : suc (suc c) ≡ j = omega arith in
        let w : take c s ++ (drop c v ++ z) ≡ v ++ z =
        sym (append_assoc (take c s) (drop c v) z) ∙ ap (λ (y : Bytes). y ++ z) (completed v s)
        in
        subst (λ (m : ℕ). Alive true st f (take m (code "<" ∷ code "T" ∷ s))) i'
        (record {
          add = drop c v ++ z;
          closes = subst (λ (y : Bytes). Closes true st f (code "<" ∷ code "T" ∷ y)) (sym w) (times-closes st f [] (λ y. times_cut [] y) starts);
        })

-- ---- a start tag

pub start-live : (a : Bool) (st : Stack) (f : Forest) (s : Bytes) (j : ℕ) →
    ((u : Bytes) → (get_or u 0 0 ≡ code "/" → ⊥) → step a st f (code "<" ∷ u) ≡ start_tag a st f u) →
    start_tag a st f s ≡ wrong j → Alive a st f (take j (code "<" ∷ s))
start-live a st f s j starts e = at (start-case a s (name_len s))
  where
    c : Bytes
    c = code "/" ∷ code ">" ∷ close_all st

    full : (name_len s ≡ 0 → ⊥) → Closes a st f (code "<" ∷ (take (name_len s) s ++ c))
    full z =
        let l = length-take-le (name_len s) s (name_len-fits s) in
        empty-closes a st f (take (name_len s) s) (λ y. z (sym l ∙ y)) (name-slash s (code ">" ∷ close_all st) z ∙ sym l)
        (starts (take (name_len s) s ++ c) (first-no-slash s c z))

    at : StartCase a s (name_len s) → Alive a st f (take j (code "<" ∷ s))
    at (none z) =
        let i : 1 ≡ j = wrong-is 1 j (sym (tag-none a st f s (name_len s) z) ∙ e) in
        subst (λ (m : ℕ). Alive a st f (take m (code "<" ∷ s))) i
        (record {
          add = code "a" ∷ c;
          closes = empty-closes a st f (code "a" ∷ []) (λ y. eqb-false 1 0 refl y) (one_name (code ">" ∷ close_all st))
              (starts (code "a" ∷ c) (λ y. eqb-false (code "a") (code "/") refl y));
        })
    at (opens z b) = move-apart _ _ _ j (sym (tag_open a st f s (name_len s) z b) ∙ e)
    at (lone z b d g) = move-apart _ _ _ j (sym (tag-empty a st f s (name_len s) z b d g) ∙ e)
    at (slash z b d g) =
        let i : 2 + name_len s ≡ j = wrong-is (2 + name_len s) j (sym (tag-slash a st f s (name_len s) z b d g) ∙ e) in
        let i' : suc (suc (name_len s)) ≡ j = omega arith in
        let k : take (suc (name_len s)) s ≡ take (name_len s) s ++ (code "/" ∷ []) =
        take-suc s (name_len s) 0 (in-range s (name_len s) 46 d) ∙ ap (λ (x : ℕ). take (name_len s) s ++ (x ∷ [])) d
        in
        let w : take (suc (name_len s)) s ++ (code ">" ∷ close_all st) ≡ take (name_len s) s ++ c =
        ap (λ (x : Bytes). x ++ (code ">" ∷ close_all st)) k ∙ append_assoc (take (name_len s) s) (code "/" ∷ []) (code ">" ∷ close_all st)
        in
        subst (λ (m : ℕ). Alive a st f (take m (code "<" ∷ s))) i'
        (record { add = code ">" ∷ close_all st; closes = subst (λ (x : Bytes). Closes a st f (code "<" ∷ x)) (sym w) (full z) })
    at (times z b d t) =
        let is = is-timed a s (name_len s) (name_len-fits s) t in
        subst (λ (y : Bytes). Alive a st f (take j (code "<" ∷ y))) (sym is.is)
        (subst (λ (x : Bool). Alive x st f (take j (code "<" ∷ code "T" ∷ drop 1 s))) (sym is.archive)
        (times-live st f (drop 1 s) j (λ u h. subst (λ (x : Bool). step x st f (code "<" ∷ u) ≡ start_tag x st f u) is.archive (starts u h))
        (sym (tag-times a st f s (name_len s) z b d t) ∙ e)))
    at (bad z b d t) =
        let i : 1 + name_len s ≡ j = wrong-is (1 + name_len s) j (sym (tag-bad a st f s (name_len s) z b d t) ∙ e) in
        let i' : suc (name_len s) ≡ j = omega arith in
        subst (λ (m : ℕ). Alive a st f (take m (code "<" ∷ s))) i' (record { add = c; closes = full z })

-- ---- an end tag

pub end_live : (a : Bool) (o : Tag) (g : Forest) (st : Stack) (f : Forest) (s : Bytes) (j : ℕ) → end_tag o g st f s ≡ wrong j → Alive a (inside o g st) f (take j (code "<" ∷ code "/" ∷ s))
end_live a o g st f s j e = at (eqb (common (tag_name o) s) (length (tag_name o))) refl (eqb (get_or s (common (tag_name o) s) 0) (code ">")) refl
  where
    full : 2 + common (tag_name o) s ≡ j → Alive a (inside o g st) f (take j (code "<" ∷ code "/" ∷ s))
    full i =
        let i' : suc (suc (common (tag_name o) s)) ≡ j = omega arith in
        let w : take (common (tag_name o) s) s ++ (drop (common (tag_name o) s) (tag_name o) ++ (code ">" ∷ close_all st)) ≡ tag_name o ++ (code ">" ∷ close_all st) =
        sym (append_assoc (take (common (tag_name o) s) s) (drop (common (tag_name o) s) (tag_name o)) (code ">" ∷ close_all st)) ∙ ap (λ (x : Bytes). x ++ (code ">" ∷ close_all st)) (completed (tag_name o) s)
        in
        subst (λ (m : ℕ). Alive a (inside o g st) f (take m (code "<" ∷ code "/" ∷ s))) i'
        (record {
          add = drop (common (tag_name o) s) (tag_name o) ++ (code ">" ∷ close_all st);
          closes = subst (λ (x : Bytes). Closes a (inside o g st) f (code "<" ∷ code "/" ∷ x)) (sym w)
              (λ at.
              let x = goes_end a o g st f (close_all st) in
              let y = some-closes a st (join g (tag_node o f)) (λ e. join-some g o f) (x.later at) in
              (y.0, x.goes at ∙ y.1));
        })

    at : (x : Bool) → eqb (common (tag_name o) s) (length (tag_name o)) ≡ x → (y : Bool) → eqb (get_or s (common (tag_name o) s) 0) (code ">") ≡ y → Alive a (inside o g st) f (take j (code "<" ∷ code "/" ∷ s))
    at true x true y = move-apart _ _ _ j (sym (end-good o g st f s (common (tag_name o) s) (eqb-true (common (tag_name o) s) (length (tag_name o)) x) (eqb-true (get_or s (common (tag_name o) s) 0) (code ">") y)) ∙ e)
    at true x false y = full (wrong-is _ j (sym (end-bad o g st f s (common (tag_name o) s) (eqb-true (common (tag_name o) s) (length (tag_name o)) x) (eqb-false (get_or s (common (tag_name o) s) 0) (code ">") y)) ∙ e))
    at false x y z = full (wrong-is _ j (sym (end_short o g st f s (common (tag_name o) s) (eqb-false (common (tag_name o) s) (length (tag_name o)) x)) ∙ e))
