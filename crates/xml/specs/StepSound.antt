-- Each step of reading keeps the invariant: what has been read spells what is open.
use Prim.Native.Nat.{ℕ, zero, suc, ◌+◌, ◌≤◌, ◌<◌}
use Prim.Native.Char.{code}
use Rattle.std.proofs.Common.{one-add, ◌∙◌, append_assoc, eqb-true, take-append-drop, drop-cons}
use native.Mathlib.Omega.{arith}
use Rattle.std.specs.Prelude.{◌≡◌, Bool, false, ◌&&◌, [], ◌∷◌, ◌++◌, eqb}
use Rattle.std.proofs.Math.Path.{refl, ap, sym, subst}
use Rattle.std.proofs.Math.Bool.{true}
use Rattle.std.proofs.lemmas.Bool.{eqb-false}
use Rattle.std.proofs.Math.ListN.{length, take, drop, get_or, length-append}
use Rattle.std.proofs.Math.Seq.{length-take-le, split_at, drop-drop}
use Rattle.xml.specs.Bytes.{Bytes, bytes, all, same, is_name, is_times}
use Rattle.xml.specs.Forest.{Forest, end, elem, join}
use Rattle.xml.specs.Grammar.{nothing, lone}
use Rattle.xml.specs.Read.{common, name_len, times_len, named, timed, Stack, inside, Move, move, wrong, times_end, times_of, start_of, start_tag}
use Rattle.xml.specs.Truth.{both_true}
use Rattle.xml.specs.BytesLaws.{same-is}
use Rattle.xml.specs.Names.{name-taken, times-taken}
use Rattle.xml.specs.ScanLaws.{begins}
use Rattle.xml.specs.StepLaws.{in-range}
use Rattle.xml.specs.ScanLaws.{times_len-fits}
use Rattle.xml.specs.Opened.{opening, Fresh, Opened, Free, opened-node, opened-start, free-node, free-end}

-- from p read, with t to come, to a state with k bytes of s to skip
pub record Stepped (a : Bool) (p t s : Bytes) (st : Stack) (f : Forest) (k : ℕ) : Type 0 where
  pub fits : k ≤ length s
  pub now : Bytes
  pub is : p ++ t ≡ now ++ drop k s
  pub opened : Opened a st now f
  pub free : Free st f (drop k s)

abbrev pub SteppedTo : Bool → Bytes → Bytes → Bytes → Move → Type 0
SteppedTo a p t s (move st f k) = Stepped a p t s st f k
SteppedTo a p t s (wrong k) = Unit {0}

pub pick : (P : Move → Type 0) (t : Bool) (x y : Move) → (t ≡ true → P x) → (t ≡ false → P y) → P (elim t [ true ↦ x | false ↦ y ])
pick P true x y h g = h refl
pick P false x y h g = g refl

-- the text that was read, in parts
pub cut : (p x t u s : Bytes) → t ≡ x ++ u → u ≡ s → p ++ t ≡ (p ++ x) ++ s
cut p x t u s e h = rw (e, h) (sym (append_assoc p x s))

-- a text that begins with one byte
first_taken_lem : (c n : ℕ) (t : Bytes) → take n t ≡ c ∷ [] → t ≡ c ∷ drop 1 t
first_taken_lem c zero t e = let z : ◌≡◌ {A = ℕ} 0 1 = ap length e in absurd (omega arith)
first_taken_lem c (suc n) [] e = let z : ◌≡◌ {A = ℕ} 0 1 = ap length e in absurd (omega arith)
first_taken_lem c (suc n) (b ∷ t) e = let z : b ≡ c = cc in ap (λ (x : ℕ). x ∷ t) z

-- ---- a start tag
module _ (a : Bool) (st : Stack) (f : Forest) (p s : Bytes) (o : Opened a st p f) (fresh : Fresh st f) where
  abbrev Went : Move → Type 0
  Went = SteppedTo a p (code "<" ∷ s) s

  named-open : (n : ℕ) → is_name (take n s) ≡ true → get_or s n 0 ≡ code ">" → Stepped a p (code "<" ∷ s) s (inside (named (take n s)) f st) end (1 + n)
  unfolding bytes
  named-open n name e =
      let h : n < length s = in-range s n 61 e in
      let i : s ≡ take n s ++ code ">" ∷ drop (suc n) s = split_at s n 0 h ∙ ap (λ (x : ℕ). take n s ++ x ∷ drop (suc n) s) e in
      record {
        fits = omega arith;
        now = p ++ opening (named (take n s));
        is = cut p (opening (named (take n s))) (code "<" ∷ s) (drop (suc n) s) (drop (1 + n) s) (ap (code "<" ∷◌) i ∙ simp append_assoc) (rw one-add);
        opened = opened-start (named (take n s)) o fresh name;
        free = free-end (inside (named (take n s)) f st) (drop (1 + n) s);
      }

  named-lone : (n : ℕ) → is_name (take n s) ≡ true → get_or s n 0 ≡ code "/" → get_or s (1 + n) 0 ≡ code ">" →
      Stepped a p (code "<" ∷ s) s st (join f (elem (take n s) end end)) (2 + n)
  unfolding bytes
  named-lone n name e g =
      let h : 1 + n < length s = in-range s (1 + n) 61 g in
      let h' : suc n < length s = omega arith in
      let h'' : n < length s = omega arith in
      let j : 1 + n ≡ suc n = omega arith in
      let l : suc (suc n) ≡ 2 + n = omega arith in
      let x = take n s in
      let i : s ≡ x ++ code "/" ∷ code ">" ∷ drop (suc (suc n)) s =
      split_at s n 0 h'' ∙ ap (λ (y : ℕ). x ++ y ∷ drop (suc n) s) e
      ∙ ap (λ (y : Bytes). x ++ code "/" ∷ y) (drop-cons s (suc n) 0 h' ∙ ap (λ (y : ℕ). y ∷ drop (suc (suc n)) s) (ap (λ (y : ℕ). get_or s y 0) (sym j) ∙ g))
      in
      record {
        fits = omega arith;
        now = p ++ (bytes "<" ++ x ++ bytes "/>" ++ []);
        is = cut p (bytes "<" ++ x ++ bytes "/>" ++ []) (code "<" ∷ s) (drop (suc (suc n)) s) (drop (2 + n) s) (ap (code "<" ∷◌) i ∙ simp append_assoc) (ap (λ (y : ℕ). drop y s) l);
        opened = opened-node o fresh (lone name nothing) refl;
        free = free-node st f (elem x end end) (drop (2 + n) s) refl;
      }

  timed-open : (n : ℕ) → a ≡ true → s ≡ code "T" ∷ drop 1 s → common (bytes " t=\"") (drop 1 s) ≡ 4 → n ≡ times_len (drop 4 (drop 1 s)) →
      common (bytes "\">") (drop n (drop 4 (drop 1 s))) ≡ 2 → Stepped a p (code "<" ∷ s) s (inside (timed (take n (drop 4 (drop 1 s)))) f st) end (7 + n)
  unfolding bytes
  timed-open n h e c l d =
      let v = drop 1 s in
      let w = drop 4 v in
      let x = take n w in
      let y : Bytes = drop 2 (drop n w) in
      let i : w ≡ x ++ code "\"" ∷ code ">" ∷ y = sym (take-append-drop n w) ∙ ap (λ (z : Bytes). x ++ z) (begins (bytes "\">") (drop n w) d) in
      let j : s ≡ code "T" ∷ code " " ∷ code "t" ∷ code "=" ∷ code "\"" ∷ (x ++ code "\"" ∷ code ">" ∷ y) =
      e ∙ ap (code "T" ∷◌) (begins (bytes " t=\"") v c ∙ ap (λ (z : Bytes). bytes " t=\"" ++ z) i)
      in
      let q : n ≤ length w = omega (arith, times_len-fits w) in
      let m : 5 + n + 2 ≡ 7 + n = omega arith in
      let y' : y ≡ drop (7 + n) s = ap (λ (z : Bytes). drop 2 (drop n z)) (drop-drop 4 1 s) ∙ ap (drop 2) (drop-drop n 5 s) ∙ drop-drop 2 (5 + n) s ∙ ap (λ (z : ℕ). drop z s) m in
      record {
        fits = omega (arith, ap length j, length-append x (code "\"" ∷ code ">" ∷ y), length-take-le n w q);
        now = p ++ opening (timed x);
        is = cut p (opening (timed x)) (code "<" ∷ s) y (drop (7 + n) s) (ap (code "<" ∷◌) j ∙ simp append_assoc) y';
        opened = opened-start (timed x) o fresh (h, subst (λ (z : ℕ). all is_times (take z w) ≡ true) (sym l) (times-taken w));
        free = free-end (inside (timed x) f st) (drop (7 + n) s);
      }

  -- after `<T`, in an archive
  times-sound : a ≡ true → s ≡ code "T" ∷ drop 1 s → Went (times_of st f (drop 1 s) (common (bytes " t=\"") (drop 1 s)))
  unfolding times_of times_end
  times-sound h e =
      let v = drop 1 s in
      let w = drop 4 v in
      pick Went (eqb (common (bytes " t=\"") v) 4) _ _
      (λ x. pick Went (eqb (common (bytes "\">") (drop (times_len w) w)) 2) _ _
      (λ y. timed-open (times_len w) h e (eqb-true (common (bytes " t=\"") v) 4 x) refl (eqb-true (common (bytes "\">") (drop (times_len w) w)) 2 y))
      (λ y. tt))
      (λ x. tt)

  pub start-sound : Went (start_tag a st f s)
  unfolding start_of bytes
  start-sound =
      let n = name_len s in
      pick Went (eqb n 0) _ _ (λ x. tt) (λ x.
      let name : is_name (take n s) ≡ true = name-taken s (eqb-false n 0 x) in
      pick Went (eqb (get_or s n 0) (code ">")) _ _ (λ y. named-open n name (eqb-true (get_or s n 0) (code ">") y)) (λ y.
      pick Went (eqb (get_or s n 0) (code "/")) _ _
      (λ z. pick Went (eqb (get_or s (1 + n) 0) (code ">")) _ _
      (λ u. named-lone n name (eqb-true (get_or s n 0) (code "/") z) (eqb-true (get_or s (1 + n) 0) (code ">") u)) (λ u. tt))
      (λ z. pick Went (a && same (take n s) (bytes "T")) _ _
      (λ u. let b = both_true a (same (take n s) (bytes "T")) u in times-sound b.0 (first_taken_lem (code "T") n s (same-is (take n s) (bytes "T") b.1)))
      (λ u. tt))))
