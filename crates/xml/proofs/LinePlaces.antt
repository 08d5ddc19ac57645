-- Line ends and places: where a raw text is refused, its received text is refused at the image of that place.
use Rattle.std.specs.Prelude.{ℕ, suc, ◌+◌, ◌-◌, ◌<◌, ◌≤◌, ◌≡◌, Bool, true, false, ◌⊎◌, eqb, ltb, take, drop, get_or}
use Prim.Native.Char.{code}
use Rattle.std.proofs.Common.{arith, ap₂, sym, ◌∙◌, subst, inl, inr, ⊎_elim, eqb-true, ltb-true, ltb-false, length-append, take-append-drop, length-take-le}
use Rattle.std.proofs.Math.Path.{refl, ap}
use mathlib.Core.List.{[], ◌∷◌, ◌++◌, append_assoc}
use Rattle.std.proofs.lemmas.Bool.{eqb-false}
use Rattle.std.proofs.Math.ListN.{length}
use Rattle.std.proofs.Math.Seq.{take-append_seam}
use Rattle.std.proofs.lemmas.List.{take-append-le}
use Rattle.xml.specs.Bytes.{Bytes, line_ends}
use Rattle.xml.specs.Forest.{Forest}
use Rattle.xml.specs.Read.{Outcome, whole, broken, read}
use Rattle.xml.specs.First.{first}
use Rattle.xml.specs.Live.{alive, read-le}
use Rattle.xml.specs.Truth.{by-test}
use Rattle.xml.proofs.Lines.{Line, off, join, turn, line, line-off, line-joined, line-turned, feed-return, feed-first, lines-append, lines-no-return, counted, no-return-lines, read-lines, read-raw}

never : (p : ℕ) (f : Forest) → broken p ≡ whole f → ⊥
never p f e = let z : ◌≡◌ {A = ℕ} 0 1 = cc in omega arith

off-lf : (v : Bytes) → line_ends (code "\n" ∷ v) ≡ code "\n" ∷ line_ends v
off-lf v = line-off (code "\n") v feed-return

-- an LF after x is a line end of its own, or belongs to a CR before it
abbrev Own : Bytes → Type 0
Own x = (v : Bytes) → line_ends (x ++ code "\n" ∷ v) ≡ line_ends x ++ code "\n" ∷ line_ends v

abbrev Eaten : Bytes → Type 0
Eaten x = (v : Bytes) → line_ends (x ++ code "\n" ∷ v) ≡ line_ends x ++ line_ends v

seam : (x : Bytes) → Own x ⊎ Eaten x
unfolding line_ends
seam [] = inl off-lf
seam (b ∷ x) = at x (line b x) (seam x)
  where
    at : (x : Bytes) → Line b x → Own x ⊎ Eaten x → Own (b ∷ x) ⊎ Eaten (b ∷ x)
    at x (off n e) h =
        ⊎_elim (λ i. inl (λ v. line-off b (x ++ code "\n" ∷ v) n ∙ ap (b ∷◌) (i v) ∙ ap (λ (y : Bytes). y ++ code "\n" ∷ line_ends v) (sym e)))
        (λ i. inr (λ v. line-off b (x ++ code "\n" ∷ v) n ∙ ap (b ∷◌) (i v) ∙ ap (λ (y : Bytes). y ++ line_ends v) (sym e))) h
    at [] (join f g e) h = absurd (eqb-false 0 (code "\n") refl g)
    at (c ∷ x) (join f g e) h =
        ⊎_elim (λ i. inl (λ v. line-joined b (c ∷ (x ++ code "\n" ∷ v)) f g ∙ i v ∙ ap (λ (y : Bytes). y ++ code "\n" ∷ line_ends v) (sym e)))
        (λ i. inr (λ v. line-joined b (c ∷ (x ++ code "\n" ∷ v)) f g ∙ i v ∙ ap (λ (y : Bytes). y ++ line_ends v) (sym e))) h
    at [] (turn f g e) h = inr (λ v. line-joined b (code "\n" ∷ v) f refl ∙ off-lf v ∙ ap (λ (y : Bytes). y ++ line_ends v) (sym e))
    at (c ∷ x) (turn f g e) h =
        ⊎_elim (λ i. inl (λ v. line-turned b (c ∷ (x ++ code "\n" ∷ v)) f g ∙ ap (code "\n" ∷◌) (i v) ∙ ap (λ (y : Bytes). y ++ code "\n" ∷ line_ends v) (sym e)))
        (λ i. inr (λ v. line-turned b (c ∷ (x ++ code "\n" ∷ v)) f g ∙ ap (code "\n" ∷◌) (i v) ∙ ap (λ (y : Bytes). y ++ line_ends v) (sym e))) h

-- whatever comes after x, the line ends of x are read first
ahead : (x t : Bytes) → (u : Bytes) × (line_ends (x ++ t) ≡ line_ends x ++ u)
ahead x t = at t (eqb (get_or t 0 0) (code "\n")) refl
  where
    at : (t : Bytes) (y : Bool) → eqb (get_or t 0 0) (code "\n") ≡ y → (u : Bytes) × (line_ends (x ++ t) ≡ line_ends x ++ u)
    at t false e = (line_ends t, lines-append x t (eqb-false (get_or t 0 0) (code "\n") e))
    at [] true e = (line_ends [], lines-append x [] (eqb-false 0 (code "\n") refl))
    at (c ∷ t) true e =
        subst (λ (d : ℕ). (u : Bytes) × (line_ends (x ++ d ∷ t) ≡ line_ends x ++ u)) (sym (eqb-true c (code "\n") e))
        (⊎_elim (λ i. (code "\n" ∷ line_ends t, i t)) (λ i. (line_ends t, i t)) (seam x))

module _ (a : Bool) (x y : Bytes) (e : read a (x ++ y) ≡ broken (length x)) where
  -- with the first byte of y, x begins no text; by itself it begins one
  stops : (c : ℕ) (z : Bytes) → y ≡ c ∷ z → (t : Bytes) (f : Forest) → read a (x ++ c ∷ t) ≡ whole f → ⊥
  stops c z d t f r =
      let n : length x + 1 ≡ length (x ++ c ∷ []) = omega (arith, length-append x (c ∷ [])) in
      let k : take (length x + 1) (x ++ y) ≡ x ++ c ∷ [] =
      ap₂ take n (ap (x ++◌) d ∙ sym (append_assoc x (c ∷ []) z)) ∙ take-append_seam (x ++ c ∷ []) z
      in
      let l : length x < length (x ++ y) = omega (arith, length-append x y, ap length d) in
      never (length x) f (sym (first a (x ++ y) t (length x) e l) ∙ ap (λ (w : Bytes). read a (w ++ t)) k ∙ ap (read a) (append_assoc x (c ∷ []) t) ∙ r)

  lives : (t : Bytes) × (f : Forest) × (read a (x ++ t) ≡ whole f)
  lives = let w = alive a (x ++ y) (length x) e in (w.0, w.1, ap (λ (v : Bytes). read a (v ++ w.0)) (sym (take-append_seam x y)) ∙ w.2)

  -- the place is not between CR and LF
  not-between : (z : Bytes) → y ≡ code "\n" ∷ z → Eaten x → ⊥
  not-between z d h = at lives.0 lives.1 lives.2 (eqb (get_or lives.0 0 0) (code "\n")) refl
    where
      at : (t : Bytes) (f : Forest) → read a (x ++ t) ≡ whole f → (b : Bool) → eqb (get_or t 0 0) (code "\n") ≡ b → ⊥
      at t f r false n =
          stops (code "\n") z d t f (read-raw a (x ++ code "\n" ∷ t) f
          (ap (read a) (h t ∙ sym (lines-append x t (eqb-false (get_or t 0 0) (code "\n") n))) ∙ read-lines a (x ++ t) f r))
      at [] f r true n = eqb-false 0 (code "\n") refl (eqb-true 0 (code "\n") n)
      at (c ∷ t) f r true n = stops (code "\n") z d t f (ap (λ (b : ℕ). read a (x ++ b ∷ t)) (sym (eqb-true c (code "\n") n)) ∙ r)

  -- so an LF there is one of its own
  own : (z : Bytes) → y ≡ code "\n" ∷ z → Own x
  own z d = ⊎_elim (λ i. i) (λ i. absurd (not-between z d i)) (seam x)

  apart : (c : ℕ) (z : Bytes) → y ≡ c ∷ z → (c ≡ code "\r" → ⊥) → (t : Bytes) → line_ends (x ++ c ∷ t) ≡ line_ends x ++ c ∷ line_ends t
  apart c z d n t =
      by-test (eqb c (code "\n"))
      (λ i. let j = eqb-true c (code "\n") i in subst (λ (b : ℕ). line_ends (x ++ b ∷ t) ≡ line_ends x ++ b ∷ line_ends t) (sym j) (own z (d ∙ ap (λ (b : ℕ). b ∷ z) j) t))
      (λ i. lines-append x (c ∷ t) (eqb-false c (code "\n") i) ∙ ap (line_ends x ++◌) (line-off c t n))

  -- the received text in two parts
  received : line_ends (x ++ y) ≡ line_ends x ++ line_ends y
  received = at y refl
    where
      at : (w : Bytes) → y ≡ w → line_ends (x ++ w) ≡ line_ends x ++ line_ends w
      at [] d = lines-append x [] (eqb-false 0 (code "\n") refl)
      at (c ∷ z) d =
          by-test (eqb c (code "\r"))
          (λ i. lines-append x (c ∷ z) (λ j. feed-return (sym j ∙ eqb-true c (code "\r") i)))
          (λ i. let n = eqb-false c (code "\r") i in apart c z d n z ∙ ap (line_ends x ++◌) (sym (line-off c z n)))

  -- not before the image
  not_earlier : (q : ℕ) → read a (line_ends (x ++ y)) ≡ broken q → q < length (line_ends x) → ⊥
  not_earlier q r h =
      let w = lives in
      let u = ahead x w.0 in
      let l : q + 1 ≤ length (line_ends x) = omega arith in
      let m : q < length (line_ends (x ++ y)) = omega (arith, ap length received, length-append (line_ends x) (line_ends y)) in
      let k : take (q + 1) (line_ends (x ++ y)) ≡ take (q + 1) (line_ends x) = ap (take (q + 1)) received ∙ take-append-le (q + 1) (line_ends x) (line_ends y) l in
      let s : Bytes = drop (q + 1) (line_ends x) ++ u.0 in
      let g : take (q + 1) (line_ends (x ++ y)) ++ s ≡ line_ends (x ++ w.0) =
      ap (◌++ s) k ∙ sym (append_assoc (take (q + 1) (line_ends x)) (drop (q + 1) (line_ends x)) u.0) ∙ ap (◌++ u.0) (take-append-drop (q + 1) (line_ends x)) ∙ sym u.1
      in
      never q w.1 (sym (first a (line_ends (x ++ y)) s q r m) ∙ ap (read a) g ∙ read-lines a (x ++ w.0) w.1 w.2)

  -- the received text goes on with b, as x with c and v
  goes-wrong : (b c : ℕ) (z v t : Bytes) (f : Forest) → y ≡ c ∷ z → (b ≡ code "\r" → ⊥) → line_ends (x ++ c ∷ v) ≡ line_ends x ++ b ∷ line_ends t
      → read a (line_ends x ++ b ∷ t) ≡ whole f → ⊥
  goes-wrong b c z v t f d n g r =
      let h : line_ends (line_ends x ++ b ∷ t) ≡ line_ends x ++ b ∷ line_ends t = no-return-lines (counted (line_ends x) (lines-no-return x)) (b ∷ t) ∙ ap (line_ends x ++◌) (line-off b t n) in
      stops c z d v f (read-raw a (x ++ c ∷ v) f (ap (read a) (g ∙ sym h) ∙ read-lines a (line_ends x ++ b ∷ t) f r))

  later-wrong : (b : ℕ) (w : Bytes) → line_ends y ≡ b ∷ w → (t : Bytes) (f : Forest) → read a (line_ends x ++ b ∷ t) ≡ whole f → ⊥
  unfolding line_ends
  later-wrong b w i t f r = at y refl i
    where
      at : (s : Bytes) → y ≡ s → line_ends s ≡ b ∷ w → ⊥
      at [] d i = omega (arith, ap length i)
      at (c ∷ z) d i = case (line c z)
        where
          back : c ≡ code "\r" → b ≡ code "\n" → ⊥
          back g j =
              let k : line_ends (c ∷ code "\n" ∷ t) ≡ b ∷ line_ends t = line-joined c (code "\n" ∷ t) g refl ∙ off-lf t ∙ ap (λ (m : ℕ). m ∷ line_ends t) (sym j) in
              goes-wrong b c z (code "\n" ∷ t) t f d (λ m. feed-return (sym j ∙ m))
              (lines-append x (c ∷ code "\n" ∷ t) (λ m. feed-return (sym m ∙ g)) ∙ ap (line_ends x ++◌) k) r

          case : Line c z → ⊥
          case (off n g) = let j : c ≡ b = cc in goes-wrong b c z t t f d (λ k. n (j ∙ k)) (apart c z d n t ∙ ap (λ (m : ℕ). line_ends x ++ m ∷ line_ends t) j) r
          case (turn g h k) = let j : code "\n" ≡ b = cc in back g (sym j)
          case (join g h k) = back g (sym (ap (λ (s : Bytes). get_or s 0 0) (sym k ∙ i)) ∙ feed-first z h)

  not-later : (q : ℕ) → read a (line_ends (x ++ y)) ≡ broken q → length (line_ends x) < q → ⊥
  not-later q r h = at (line_ends y) refl
    where
      at : (s : Bytes) → line_ends y ≡ s → ⊥
      at [] d = omega (arith, read-le a (line_ends (x ++ y)) q r, ap length received, length-append (line_ends x) (line_ends y), ap length d)
      at (b ∷ w) d =
          let l = alive a (line_ends (x ++ y)) q r in
          let g : line_ends (x ++ y) ≡ (line_ends x ++ b ∷ []) ++ w = received ∙ ap (line_ends x ++◌) d ∙ sym (append_assoc (line_ends x) (b ∷ []) w) in
          let m : ℕ = q - length (line_ends x ++ b ∷ []) in
          let k : q ≡ length (line_ends x ++ b ∷ []) + m = omega (arith, length-append (line_ends x) (b ∷ [])) in
          let n : take q (line_ends (x ++ y)) ≡ (line_ends x ++ b ∷ []) ++ take m w = ap₂ take k g ∙ take_past (line_ends x ++ b ∷ []) w m in
          later-wrong b w d (take m w ++ l.0) l.1
          (ap (read a) (sym (ap (◌++ l.0) n ∙ append_assoc (line_ends x ++ b ∷ []) (take m w) l.0 ∙ append_assoc (line_ends x) (b ∷ []) (take m w ++ l.0))) ∙ l.2)
        where
          take_past : (u w : Bytes) (m : ℕ) → take (length u + m) (u ++ w) ≡ u ++ take m w
          take_past [] w m = let k : 0 + m ≡ m = omega arith in ap (λ (j : ℕ). take j w) k
          take_past (c ∷ u) w m = let k : suc (length u) + m ≡ suc (length u + m) = omega arith in ap (λ (j : ℕ). take j (c ∷ (u ++ w))) k ∙ ap (c ∷◌) (take_past u w m)

  image : read a (line_ends (x ++ y)) ≡ broken (length (line_ends x))
  image = at (read a (line_ends (x ++ y))) refl
    where
      at : (o : Outcome) → read a (line_ends (x ++ y)) ≡ o → o ≡ broken (length (line_ends x))
      at (whole f) r = absurd (never (length x) f (sym e ∙ read-raw a (x ++ y) f r))
      at (broken q) r =
          let lo : length (line_ends x) ≤ q = by-test (ltb q (length (line_ends x))) (λ t. absurd (not_earlier q r (ltb-true q _ t))) (λ t. ltb-false q _ t) in
          let hi : q ≤ length (line_ends x) = by-test (ltb (length (line_ends x)) q) (λ t. absurd (not-later q r (ltb-true _ q t))) (λ t. ltb-false _ q t) in
          ap broken (omega arith)

-- THE law of places
pub place-lines : (a : Bool) (s : Bytes) (p : ℕ) → read a s ≡ broken p → read a (line_ends s) ≡ broken (length (line_ends (take p s)))
place-lines a s p e =
    let n : length (take p s) ≡ p = length-take-le p s (read-le a s p e) in
    let d : take p s ++ drop p s ≡ s = take-append-drop p s in
    ap (λ (w : Bytes). read a (line_ends w)) (sym d) ∙ image a (take p s) (drop p s) (ap (read a) d ∙ e ∙ ap broken (sym n))

-- what is read of a raw text, in terms of its received text: the same forest, or the image of the place of refusal
unfoldable pub in_received : Bytes → Outcome → Outcome
in_received s (whole f) = whole f
in_received s (broken p) = broken (length (line_ends (take p s)))

-- THE law of line ends: a raw text is read as its received text is, place by place
pub read-received : (a : Bool) (s : Bytes) → read a (line_ends s) ≡ in_received s (read a s)
unfolding in_received
read-received a s = at (read a s) refl
  where
    at : (o : Outcome) → read a s ≡ o → read a (line_ends s) ≡ in_received s o
    at (whole f) e = read-lines a s f e
    at (broken p) e = place-lines a s p e
