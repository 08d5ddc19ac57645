-- Laws of `match_at`: pieces that are compared one after the other are one piece; runs of text, nodes and whole texts.
use Rattle.std.specs.Prelude.{ℕ, ◌+◌, ◌-◌, ◌%◌, ◌<◌, ◌≤◌, ◌≡◌, refl, true, false, List, [], ◌++◌, eqb, length, take, drop}
use Rattle.std.proofs.Common.{ap, ◌∙◌, append-nil, append_assoc, add-zero, arith, eq-eqb, ne_eqb, eqb-true, length-append, length-drop, take-append-drop, drop_of_length-le, drop-drop, length-take-le}
use Rattle.std.proofs.Math.Path.{sym}
use Rattle.std.proofs.lemmas.Bool.{eqb-false}
use Rattle.std.proofs.Math.Seq.{slice, drop-append_seam, length-slice}
use Rattle.std.proofs.lemmas.List.{drop-append-le}
use Rattle.xml.specs.Bytes.{Bytes, same}
use Rattle.xml.specs.BytesLaws.{same-is, same_self}
use Rattle.xml.specs.Forest.{Forest, write}
use Rattle.xml.specs.Read.{common}
use Rattle.xml.specs.ScanLaws.{common-self, common-fits, begins}
use Rattle.xml.specs.Signs.{spelt}
use Rattle.xml.specs.Tape.{head_at, next_at, Tape}
use Rattle.xml.specs.TapeLaws.{bytes_at, tape-le, tape-none, split, text-node}
use Rattle.xml.specs.Truth.{by-test, clash}
use Rattle.xml.specs.Matching.{match_at, Matches}

module _ (s : Bytes) (at : ℕ) (w : Bytes) where
  -- w stands in the text s at the place `at`
  abbrev pub Stands : Type 0
  Stands = common w (drop at s) ≡ length w

  stands-before : (rest : Bytes) → drop at s ≡ w ++ rest → Stands
  stands-before rest e = ap (common w) e ∙ common-self w rest

  stands_after : Stands → drop at s ≡ w ++ drop (at + length w) s
  stands_after h = begins w (drop at s) h ∙ ap (λ (x : Bytes). w ++ x) (drop-drop (length w) at s)

  pub match-hit : Stands → match_at s at w ≡ at + length w
  unfolding match_at
  match-hit h = rw (eq-eqb (common w (drop at s)) (length w) h, match_at)

  pub match-miss : (Stands → ⊥) → match_at s at w ≡ length s + 1
  unfolding match_at
  match-miss n = rw (ne_eqb (common w (drop at s)) (length w) n, match_at)

  match_by : {A : Type 0} → (Stands → A) → ((Stands → ⊥) → A) → A
  match_by f g = by-test (eqb (common w (drop at s)) (length w)) (λ t. f (eqb-true (common w (drop at s)) (length w) t)) (λ t. g (eqb-false (common w (drop at s)) (length w) t))

  -- no more bytes stand there than the text has
  stands-fits : Stands → length w ≤ length s - at
  stands-fits h = rw (length-drop at s, h) at (common-fits w (drop at s))

  -- a place is one past the end at most
  pub match-fits : {r : ℕ} → r ≡ match_at s at w → at ≤ length s + 1 → r ≤ length s + 1
  match-fits e k = match_by (λ h. omega (arith, e ∙ match-hit h, stands-fits h)) (λ n. omega (arith, e ∙ match-miss n))

  -- past the end of the text nothing stands
  pub match-past : length s < at → at ≤ length s + 1 → match_at s at w ≡ at
  match-past l k = match_by (λ h. match-hit h ∙ (omega (arith, stands-fits h))) (λ n. match-miss n ∙ (omega arith))

pub match_none : (s : Bytes) (at : ℕ) → match_at s at [] ≡ at
match_none s at = match-hit s at [] (stands-before s at [] (drop at s) refl) ∙ add-zero at

-- a part stands at its own place
pub match-here : (s : Bytes) (a e : ℕ) → a ≤ e → e ≤ length s → match_at s a (slice a e s) ≡ e
match-here s a e h k =
    let n : a ≤ length (take e s) = rw (length-take-le e s k) h in
    match-hit s a (slice a e s) (stands-before s a (slice a e s) (drop e s) (ap (drop a) (sym (take-append-drop e s)) ∙ drop-append-le a (take e s) (drop e s) n))
    ∙ (omega (arith, length-slice a e s k))

-- ---- THE law: w at a place, and then v at the place after it, is w ++ v
module _ (s : Bytes) (at : ℕ) (w v : Bytes) where
  stands-first : Stands s at (w ++ v) → Stands s at w
  stands-first h = stands-before s at w (v ++ drop (at + length (w ++ v)) s) (stands_after s at (w ++ v) h ∙ append_assoc w v (drop (at + length (w ++ v)) s))

  stands-second : Stands s at (w ++ v) → Stands s (at + length w) v
  stands-second h =
      let r = drop (at + length (w ++ v)) s in
      stands-before s (at + length w) v r
      (sym (drop-drop (length w) at s) ∙ ap (drop (length w)) (stands_after s at (w ++ v) h ∙ append_assoc w v r) ∙ drop-append_seam w (v ++ r))

  stands-both : Stands s at w → Stands s (at + length w) v → Stands s at (w ++ v)
  stands-both h k =
      let r = drop (at + length w + length v) s in
      stands-before s at (w ++ v) r (stands_after s at w h ∙ ap (λ (x : Bytes). w ++ x) (stands_after s (at + length w) v k) ∙ sym (append_assoc w v r))

  pub match-append : match_at s (match_at s at w) v ≡ match_at s at (w ++ v)
  match-append =
      match_by s at w
      (λ h. rw (match-hit s at w h) (match_by s (at + length w) v
      (λ k. match-hit s (at + length w) v k ∙ (omega (arith, length-append w v)) ∙ sym (match-hit s at (w ++ v) (stands-both h k)))
      (λ n. match-miss s (at + length w) v n ∙ sym (match-miss s at (w ++ v) (λ k. n (stands-second k))))))
      (λ n. rw (match-miss s at w n) (match-past s (length s + 1) v (omega arith) (omega arith) ∙ sym (match-miss s at (w ++ v) (λ k. n (stands-first k)))))

pub match-then : (s : Bytes) (at : ℕ) (w v : Bytes) {r q : ℕ} → r ≡ match_at s at w → q ≡ match_at s r v → q ≡ match_at s at (w ++ v)
match-then s at w v x y = y ∙ ap (λ (p : ℕ). match_at s p v) x ∙ match-append s at w v

-- what is left, once its first piece was compared
pub match-on : (s : Bytes) (at : ℕ) (w v : Bytes) {whole : Bytes} {r : ℕ} → whole ≡ w ++ v → r ≡ match_at s at w → match_at s at whole ≡ match_at s r v
match-on s at w v e x = ap (match_at s at) e ∙ sym (match-then s at w v x refl)

-- a text is w if w stands at its start and ends where it ends
pub match-same : (s w : Bytes) → eqb (match_at s 0 w) (length s) ≡ same s w
match-same s w = by-test (same s w) is other
  where
    is : same s w ≡ true → eqb (match_at s 0 w) (length s) ≡ same s w
    is t =
        let e = same-is s w t in
        eq-eqb (match_at s 0 w) (length s) (match-hit s 0 w (stands-before s 0 w [] (e ∙ sym (append-nil w))) ∙ (omega (arith, ap length e))) ∙ sym t

    other : same s w ≡ false → eqb (match_at s 0 w) (length s) ≡ same s w
    other t =
        ne_eqb (match_at s 0 w) (length s)
        (λ e. match_by s 0 w
        (λ h.
        let n : 0 + length w ≡ length s = sym (match-hit s 0 w h) ∙ e in
        let d : s ≡ w = stands_after s 0 w h ∙ ap (λ (x : Bytes). w ++ x) (drop_of_length-le s {i = 0 + length w} (omega arith)) ∙ append-nil w in
        clash (sym (same_self w) ∙ ap (λ (x : Bytes). same x w) (sym d) ∙ t))
        (λ n. absurd (omega (arith, sym (match-miss s 0 w n) ∙ e))))
        ∙ sym t

-- a comparison of siblings on its way: of `whole`, the nodes p to q are left
pub record Due (src cells : List ℕ) (p q : ℕ) (whole : Bytes) (at to : ℕ) : Type 0 where
  pub rest : Forest
  pub tape : Tape src cells p q rest
  pub left : match_at src at whole ≡ match_at src to (write rest)

module _ {src cells : List ℕ} where
  pub due-none : {p q at : ℕ} {f : Forest} → Tape src cells p q f → Due src cells p q (write f) at at
  due-none t = record { rest = _; tape = t; left = refl }

  pub due-more : {p q at to r : ℕ} {whole : Bytes} → Due src cells p q whole at to → p < q → Matches src cells p (next_at cells p) to r
      → Due src cells (next_at cells p) q whole at r
  due-more {to = to} x l m =
      let s = split x.tape l in
      record { rest = s.rest; tape = s.after; left = x.left ∙ match-on src to (write s.first) (write s.rest) s.written (m s.first s.here) }

  pub due-done : {p q at to : ℕ} {whole : Bytes} → Due src cells p q whole at to → q ≤ p → to ≡ match_at src at whole
  unfolding write
  due-done {p} {q} {to = to} x l =
      let e : q ≡ p = omega (arith, tape-le x.tape) in
      sym (x.left ∙ rw (tape-none (rw e at x.tape)) (match_none src to))

  -- a run of text, by itself
  pub text-matches : {p r : ℕ} (to : ℕ) → p < next_at cells p → head_at cells p % 4 ≡ 0 → r ≡ match_at src to (spelt (bytes_at src cells p)) → Matches src cells p (next_at cells p) to r
  unfolding write
  text-matches to l k e f t = rw (text-node t l k, append-nil) e
