-- Line ends: a text spells what it spells with CR LF and lone CR read as LF, no more and no less; what is written has no CR.
use Rattle.std.specs.Prelude.{ℕ, ◌+◌, ◌<◌, ◌≡◌, Bool, true, false, ◌&&◌, ◌||◌, eqb, length, take, get_or}
use Prim.Native.Char.{code}
use Rattle.std.proofs.Common.{arith, ap₂, sym, ◌∙◌, subst}
use Rattle.std.proofs.Math.Path.{refl, ap}
use mathlib.Core.List.{[], ◌∷◌, ◌++◌, append_assoc, append-nil}
use borrow.Author.Tests.{eqb-true, eqb-false, eq-eqb, ne_eqb}
use Rattle.xml.specs.Bytes.{Bytes, bytes, all, starts, occurs, is_empty, is_white, is_character, is_name_byte, is_name, is_times, line_ends, bytes_compute}
use Rattle.xml.specs.Forest.{Forest, end, elem, text, stamp, write, NotText, Tidy, Root}
use Rattle.xml.specs.Grammar.{Entity, lt, gt, amp, quot, apos, Characters, none, kept, joined, turned, entity, Content, nothing, run, element, lone, times, Spells}
use Rattle.xml.specs.Read.{whole, broken, read}
use Rattle.xml.specs.Sound.{read-sound}
use Rattle.xml.specs.Complete.{read-complete, content-end}
use Rattle.xml.specs.First.{first}
use Rattle.xml.specs.Live.{alive}
use Rattle.xml.specs.CompareLaws.{return-white, feed-white}
use Rattle.xml.specs.Truth.{by-test, clash, both_true}
use Rattle.xml.specs.Neat.{count}
use Rattle.xml.specs.NeatWritten.{write-signs, name-bytes, name-return, times-return, signs-returns}

-- ---- byte by byte
pub line-off : (b : ℕ) (s : Bytes) → (b ≡ code "\r" → ⊥) → line_ends (b ∷ s) ≡ b ∷ line_ends s
unfolding line_ends
line-off b s n = rw (ne_eqb b (code "\r") n, line_ends)

pub line-joined : (b : ℕ) (s : Bytes) → b ≡ code "\r" → get_or s 0 0 ≡ code "\n" → line_ends (b ∷ s) ≡ line_ends s
unfolding line_ends
line-joined b s e f = rw (eq-eqb b (code "\r") e, eq-eqb (get_or s 0 0) (code "\n") f, line_ends)

pub line-turned : (b : ℕ) (s : Bytes) → b ≡ code "\r" → (get_or s 0 0 ≡ code "\n" → ⊥) → line_ends (b ∷ s) ≡ code "\n" ∷ line_ends s
unfolding line_ends
line-turned b s e f = rw (eq-eqb b (code "\r") e, ne_eqb (get_or s 0 0) (code "\n") f, line_ends)

-- the three ways in which a text goes on
pub data Line (b : ℕ) (s : Bytes) : Type 0 where
  off : (b ≡ code "\r" → ⊥) → line_ends (b ∷ s) ≡ b ∷ line_ends s → Line b s
  join : b ≡ code "\r" → get_or s 0 0 ≡ code "\n" → line_ends (b ∷ s) ≡ line_ends s → Line b s
  turn : b ≡ code "\r" → (get_or s 0 0 ≡ code "\n" → ⊥) → line_ends (b ∷ s) ≡ code "\n" ∷ line_ends s → Line b s

pub line : (b : ℕ) (s : Bytes) → Line b s
line b s =
    by-test (eqb b (code "\r"))
    (λ x. let e = eqb-true b (code "\r") x in
    by-test (eqb (get_or s 0 0) (code "\n")) (λ y. let f = eqb-true (get_or s 0 0) (code "\n") y in join e f (line-joined b s e f))
    (λ y. let f = eqb-false (get_or s 0 0) (code "\n") y in turn e f (line-turned b s e f)))
    (λ x. let e = eqb-false b (code "\r") x in off e (line-off b s e))

pub feed-return : code "\n" ≡ code "\r" → ⊥
feed-return = eqb-false (code "\n") (code "\r") refl

-- ---- texts in which a byte does not stand: CR, or LF
pub data Lacks (c : ℕ) : Bytes → Type 0 where
  lacks-nil : Lacks c []
  lacks-more : {b : ℕ} {s : Bytes} → (b ≡ c → ⊥) → Lacks c s → Lacks c (b ∷ s)

abbrev pub NoReturn : Bytes → Type 0
NoReturn = Lacks (code "\r")

abbrev NoFeed : Bytes → Type 0
NoFeed = Lacks (code "\n")

module _ {c : ℕ} where
  pub counted : (s : Bytes) → count c s ≡ 0 → Lacks c s
  unfolding count
  counted [] e = lacks-nil
  counted (b ∷ s) e = by-test (eqb b c) (λ x. absurd (omega (arith, rw x at e))) (λ x. lacks-more (eqb-false b c x) (counted s (let d = rw x at e in omega arith)))

  by_bytes : (p : ℕ → Bool) → p c ≡ false → (s : Bytes) → all p s ≡ true → Lacks c s
  unfolding all
  by_bytes p n [] e = lacks-nil
  by_bytes p n (b ∷ s) e = let x = both_true (p b) (all p s) e in lacks-more (λ d. clash (sym x.0 ∙ ap p d ∙ n)) (by_bytes p n s x.1)

  name-lacks : is_name_byte c ≡ false → (n : Bytes) → is_name n ≡ true → Lacks c n
  name-lacks h n e = by_bytes is_name_byte h n (name-bytes n e)

  lacks-then : {p q : Bytes} → Lacks c p → Lacks c q → Lacks c (p ++ q)
  lacks-then lacks-nil g = g
  lacks-then (lacks-more n f) g = lacks-more n (lacks-then f g)

pub no-return-lines : {p : Bytes} → NoReturn p → (s : Bytes) → line_ends (p ++ s) ≡ p ++ line_ends s
no-return-lines lacks-nil s = refl
no-return-lines (lacks-more {b = b} {s = p} n f) s = line-off b (p ++ s) n ∙ ap (b ∷◌) (no-return-lines f s)

entity-no-return : {e : Bytes} {c : ℕ} → Entity e c → NoReturn e
unfolding bytes count
entity-no-return lt = counted (bytes "&lt;") refl
entity-no-return gt = counted (bytes "&gt;") refl
entity-no-return amp = counted (bytes "&amp;") refl
entity-no-return quot = counted (bytes "&quot;") refl
entity-no-return apos = counted (bytes "&apos;") refl

-- what is written has no CR, and stands for itself
pub write-returns : (a : Bool) (f : Forest) → Tidy a f → count (code "\r") (write f) ≡ 0
write-returns a f t = signs-returns (write-signs a f t)

pub no-return-self : (s : Bytes) → count (code "\r") s ≡ 0 → line_ends s ≡ s
unfolding line_ends
no-return-self s e = ap line_ends (sym (append-nil s)) ∙ no-return-lines (counted s e) [] ∙ append-nil s

pub write-lines : (a : Bool) (f : Forest) → Tidy a f → line_ends (write f) ≡ write f
write-lines a f t = no-return-self (write f) (write-returns a f t)

-- and no text has one once its line ends are read
pub lines-no-return : (s : Bytes) → count (code "\r") (line_ends s) ≡ 0
unfolding line_ends count
lines-no-return [] = refl
lines-no-return (b ∷ s) = at (line b s) (lines-no-return s)
  where
    at : Line b s → count (code "\r") (line_ends s) ≡ 0 → count (code "\r") (line_ends (b ∷ s)) ≡ 0
    at (off n e) i = ap (count (code "\r")) e ∙ rw (ne_eqb b (code "\r") n) (omega arith)
    at (join f g e) i = ap (count (code "\r")) e ∙ i
    at (turn f g e) i = ap (count (code "\r")) e ∙ omega arith

-- ---- a text in parts, the second of which begins with no LF
pub lines-append : (s u : Bytes) → (get_or u 0 0 ≡ code "\n" → ⊥) → line_ends (s ++ u) ≡ line_ends s ++ line_ends u
unfolding line_ends
lines-append [] u n = refl
lines-append (b ∷ s) u n = at s (line b s) (lines-append s u n)
  where
    at : (s : Bytes) → Line b s → line_ends (s ++ u) ≡ line_ends s ++ line_ends u → line_ends (b ∷ (s ++ u)) ≡ line_ends (b ∷ s) ++ line_ends u
    at s (off f e) i = line-off b (s ++ u) f ∙ ap (b ∷◌) i ∙ ap (λ (x : Bytes). x ++ line_ends u) (sym e)
    at [] (join f g e) i = absurd (eqb-false 0 (code "\n") refl g)
    at (c ∷ s) (join f g e) i = line-joined b (c ∷ (s ++ u)) f g ∙ i ∙ ap (λ (x : Bytes). x ++ line_ends u) (sym e)
    at [] (turn f g e) i = line-turned b u f n ∙ ap (code "\n" ∷◌) i ∙ ap (λ (x : Bytes). x ++ line_ends u) (sym e)
    at (c ∷ s) (turn f g e) i = line-turned b (c ∷ (s ++ u)) f g ∙ ap (code "\n" ∷◌) i ∙ ap (λ (x : Bytes). x ++ line_ends u) (sym e)

-- a text whose line ends are read to two parts is two parts
record Split (s x u : Bytes) : Type 0 where
  left : Bytes
  right : Bytes
  is : s ≡ left ++ right
  lines_left : line_ends left ≡ x
  lines-right : line_ends right ≡ u

first-same : (l r s : Bytes) (c : ℕ) (x : Bytes) → s ≡ l ++ r → line_ends l ≡ c ∷ x → get_or s 0 0 ≡ get_or l 0 0
unfolding line_ends
first-same [] r s c x e d = absurd (omega (arith, ap length d))
first-same (b ∷ l) r s c x e d = ap (λ (y : Bytes). get_or y 0 0) e

not-feed : (l r s : Bytes) → s ≡ l ++ r → (get_or s 0 0 ≡ code "\n" → ⊥) → get_or l 0 0 ≡ code "\n" → ⊥
not-feed [] r s e n d = eqb-false 0 (code "\n") refl d
not-feed (b ∷ l) r s e n d = n (ap (λ (y : Bytes). get_or y 0 0) e ∙ d)

unsplit : (s x u : Bytes) → line_ends s ≡ x ++ u → Split s x u
unfolding line_ends
unsplit [] x u e = start x e
  where
    start : (x : Bytes) → line_ends [] ≡ x ++ u → Split [] x u
    start [] e = record { left = []; right = []; is = refl; lines_left = refl; lines-right = e }
    start (c ∷ x) e = absurd (omega (arith, ap length e))
unsplit (b ∷ s) x u e = begin x e (λ y d. unsplit s y u d)
  where
    at : (c : ℕ) (x : Bytes) → line_ends (b ∷ s) ≡ c ∷ (x ++ u) → Line b s → ((x : Bytes) → line_ends s ≡ x ++ u → Split s x u) → Split (b ∷ s) (c ∷ x) u
    at c x e (off n d) f =
        let q : b ≡ c = cc in
        let g = f x (cc) in
        record { left = b ∷ g.left; right = g.right; is = ap (b ∷◌) g.is; lines_left = line-off b g.left n ∙ ap₂ (λ (y : ℕ) (z : Bytes). y ∷ z) q g.lines_left; lines-right = g.lines-right }
    at c x e (join n h d) f =
        let g = f (c ∷ x) (sym d ∙ e) in
        record {
          left = b ∷ g.left;
          right = g.right;
          is = ap (b ∷◌) g.is;
          lines_left = line-joined b g.left n (sym (first-same g.left g.right s c x g.is g.lines_left) ∙ h) ∙ g.lines_left;
          lines-right = g.lines-right;
        }
    at c x e (turn n h d) f =
        let q : code "\n" ≡ c = cc in
        let g = f x (cc) in
        record {
          left = b ∷ g.left;
          right = g.right;
          is = ap (b ∷◌) g.is;
          lines_left = line-turned b g.left n (not-feed g.left g.right s g.is h) ∙ ap₂ (λ (y : ℕ) (z : Bytes). y ∷ z) q g.lines_left;
          lines-right = g.lines-right;
        }

    begin : (x : Bytes) → line_ends (b ∷ s) ≡ x ++ u → ((x : Bytes) → line_ends s ≡ x ++ u → Split s x u) → Split (b ∷ s) x u
    begin [] e f = record { left = []; right = b ∷ s; is = refl; lines_left = refl; lines-right = e }
    begin (c ∷ x) e f = at c x e (line b s) f

-- a byte that is no LF stands first in both
record Begun (s : Bytes) (b : ℕ) (x : Bytes) : Type 0 where
  later : Bytes
  is : s ≡ b ∷ later
  lines : line_ends later ≡ x

pub feed-first : (s : Bytes) → get_or s 0 0 ≡ code "\n" → get_or (line_ends s) 0 0 ≡ code "\n"
unfolding line_ends
feed-first [] e = e
feed-first (b ∷ s) e = ap (λ (x : Bytes). get_or x 0 0) (line-off b s (λ d. feed-return (sym e ∙ d))) ∙ e

begun : (s : Bytes) (b : ℕ) (x : Bytes) → (b ≡ code "\n" → ⊥) → line_ends s ≡ b ∷ x → Begun s b x
unfolding line_ends
begun [] b x n e = absurd (omega (arith, ap length e))
begun (c ∷ s) b x n e = at (line c s)
  where
    at : Line c s → Begun (c ∷ s) b x
    at (off f d) = let q : c ≡ b = cc in record { later = s; is = ap (λ (y : ℕ). y ∷ s) q; lines = cc }
    at (join f g d) = absurd (n (sym (ap (λ (y : Bytes). get_or y 0 0) (sym d ∙ e)) ∙ feed-first s g))
    at (turn f g d) = absurd (n (sym (ap (λ (y : Bytes). get_or y 0 0) (sym d ∙ e))))

-- a part of such bytes stands first in both
record After (s p x : Bytes) : Type 0 where
  later : Bytes
  is : s ≡ p ++ later
  lines : line_ends later ≡ x

after : {p : Bytes} → NoFeed p → (s x : Bytes) → line_ends s ≡ p ++ x → After s p x
after lacks-nil s x e = record { later = s; is = refl; lines = e }
after (lacks-more {b = b} {s = p} n f) s x e =
    let g = begun s b (p ++ x) n e in
    let h = after f g.later x g.lines in
    record { later = h.later; is = g.is ∙ ap (b ∷◌) h.is; lines = h.lines }

pub name-feed : is_name_byte (code "\n") ≡ false
unfolding bytes_compute
name-feed = refl

times-feed : is_times (code "\n") ≡ false
unfolding bytes_compute
times-feed = refl

entity-no-feed : {e : Bytes} {c : ℕ} → Entity e c → NoFeed e
unfolding bytes count
entity-no-feed lt = counted (bytes "&lt;") refl
entity-no-feed gt = counted (bytes "&gt;") refl
entity-no-feed amp = counted (bytes "&amp;") refl
entity-no-feed quot = counted (bytes "&quot;") refl
entity-no-feed apos = counted (bytes "&apos;") refl

-- ---- a run of text
-- a byte of the text once its line ends are read, and how it stood before
data Stood (s : Bytes) (b : ℕ) (x : Bytes) : Type 0 where
  itself : {u : Bytes} → s ≡ b ∷ u → (b ≡ code "\r" → ⊥) → line_ends u ≡ x → Stood s b x
  alone : {u : Bytes} → b ≡ code "\n" → s ≡ code "\r" ∷ u → (get_or u 0 0 ≡ code "\n" → ⊥) → line_ends u ≡ x → Stood s b x
  paired : {u : Bytes} → b ≡ code "\n" → s ≡ code "\r" ∷ code "\n" ∷ u → line_ends u ≡ x → Stood s b x

stood : (s : Bytes) (b : ℕ) (x : Bytes) → line_ends s ≡ b ∷ x → Stood s b x
unfolding line_ends
stood [] b x e = absurd (omega (arith, ap length e))
stood (c ∷ s) b x e = at s (line c s) e
  where
    at : (s : Bytes) → Line c s → line_ends (c ∷ s) ≡ b ∷ x → Stood (c ∷ s) b x
    at s (off f d) e = let q : c ≡ b = cc in itself {u = s} (ap (λ (y : ℕ). y ∷ s) q) (λ h. f (q ∙ h)) (cc)
    at s (turn f g d) e = let q : code "\n" ≡ b = cc in alone {u = s} (sym q) (ap (λ (y : ℕ). y ∷ s) f) g (cc)
    at [] (join f g d) e = absurd (eqb-false 0 (code "\n") refl g)
    at (a ∷ s) (join f g d) e =
        let h : a ∷ line_ends s ≡ b ∷ x = sym (line-off a s (λ y. feed-return (sym g ∙ y))) ∙ sym d ∙ e in
        let q : a ≡ b = cc in
        paired {u = s} (sym q ∙ g) (ap₂ (λ (y z : ℕ). y ∷ z ∷ s) f g) (cc)

chars-lines : {s t : Bytes} → Characters s t → Characters (line_ends s) t
unfolding line_ends bytes_compute
chars-lines none = none
chars-lines (kept {b = b} {s = s} e n c) = rw (line-off b s n) (kept e n (chars-lines c))
chars-lines (joined {b = b} {s = s} e f c) = rw (line-joined b s e f) (chars-lines c)
chars-lines (turned {b = b} {s = s} e f c) = rw (line-turned b s e f) (kept refl feed-return (chars-lines c))
chars-lines (entity {s = s} e c) = rw (no-return-lines (entity-no-return e) s) (entity e (chars-lines c))

nil-lines : (s : Bytes) → line_ends s ≡ [] → s ≡ []
unfolding line_ends
nil-lines [] e = refl
nil-lines (b ∷ s) e = at s (line b s) e
  where
    at : (s : Bytes) → Line b s → line_ends (b ∷ s) ≡ [] → b ∷ s ≡ []
    at s (off f d) e = absurd (omega (arith, ap length (sym d ∙ e)))
    at s (turn f g d) e = absurd (omega (arith, ap length (sym d ∙ e)))
    at [] (join f g d) e = absurd (eqb-false 0 (code "\n") refl g)
    at (a ∷ s) (join f g d) e = absurd (omega (arith, ap length (sym (line-off a s (λ y. feed-return (sym g ∙ y))) ∙ sym d ∙ e)))

read-no-return : (s : Bytes) (b : ℕ) (x : Bytes) → line_ends s ≡ b ∷ x → b ≡ code "\r" → ⊥
read-no-return s b x e f = at (stood s b x e)
  where
    at : Stood s b x → ⊥
    at (itself i n h) = n f
    at (alone i j n h) = feed-return (sym i ∙ f)
    at (paired i j h) = feed-return (sym i ∙ f)

chars-raw : {x t : Bytes} → Characters x t → (s : Bytes) → line_ends s ≡ x → Characters s t
chars-raw none s e = rw (nil-lines s e) none
chars-raw (joined {b = b} {s = x} f g c) s e = absurd (read-no-return s b x e f)
chars-raw (turned {b = b} {s = x} f g c) s e = absurd (read-no-return s b x e f)
chars-raw (entity {e = w} {s = x} i c) s e =
    let g = after (entity-no-feed i) s x e in
    rw g.is (entity i (chars-raw c g.later g.lines))
chars-raw (kept {b = b} {s = x} {t = t} k n c) s e = at (stood s b x e) (λ u h. chars-raw c u h)
  where
    at : Stood s b x → ((u : Bytes) → line_ends u ≡ x → Characters u t) → Characters s (b ∷ t)
    at (itself {u = u} i m h) f = rw i (kept k m (f u h))
    at (alone {u = u} i j m h) f = rw (i, j) (turned refl m (f u h))
    at (paired {u = u} i j h) f = rw (i, j) (joined refl refl (kept (subst (λ (y : ℕ). is_character y ≡ true) i k) feed-return (f u h)))

-- ---- tests of a run
starts-lines : {p : Bytes} → NoFeed p → NoReturn p → (s : Bytes) → starts p (line_ends s) ≡ starts p s
unfolding line_ends starts
starts-lines lacks-nil f s = refl
starts-lines (lacks-more n q) (lacks-more m f) [] = refl
starts-lines {p} (lacks-more {b = a} {s = p'} n q) (lacks-more m f) (b ∷ s) = at (line b s) (starts-lines q f s)
  where
    no : (w : Bytes) → get_or w 0 0 ≡ code "\n" → starts (a ∷ p') w ≡ false
    no [] e = refl
    no (c ∷ w) e = rw (ne_eqb a c (λ d. n (d ∙ e)))

    at : Line b s → starts p' (line_ends s) ≡ starts p' s → starts (a ∷ p') (line_ends (b ∷ s)) ≡ starts (a ∷ p') (b ∷ s)
    at (off g e) i = ap (starts (a ∷ p')) e ∙ ap (λ (x : Bool). eqb a b && x) i
    at (join g h e) i = ap (starts (a ∷ p')) e ∙ no (line_ends s) (feed-first s h) ∙ sym (rw (ne_eqb a b (λ d. m (d ∙ g))))
    at (turn g h e) i = ap (starts (a ∷ p')) e ∙ no (code "\n" ∷ line_ends s) refl ∙ sym (rw (ne_eqb a b (λ d. m (d ∙ g))))

occurs-lines : (a : ℕ) (p : Bytes) → NoFeed (a ∷ p) → NoReturn (a ∷ p) → (s : Bytes) → occurs (a ∷ p) (line_ends s) ≡ occurs (a ∷ p) s
unfolding line_ends occurs starts
occurs-lines a p q f [] = refl
occurs-lines a p q f (b ∷ s) = at (line b s) (occurs-lines a p q f s) (starts-lines q f (b ∷ s))
  where
    at : Line b s → occurs (a ∷ p) (line_ends s) ≡ occurs (a ∷ p) s → starts (a ∷ p) (line_ends (b ∷ s)) ≡ starts (a ∷ p) (b ∷ s) → occurs (a ∷ p) (line_ends (b ∷ s)) ≡ occurs (a ∷ p) (b ∷ s)
    at (off g e) i j = ap (occurs (a ∷ p)) e ∙ ap₂ (λ (x y : Bool). x || y) (ap (starts (a ∷ p)) (sym e) ∙ j) i
    at (join g h e) i j = ap (occurs (a ∷ p)) e ∙ i ∙ rw (return-starts q f) refl
      where
        return-starts : NoFeed (a ∷ p) → NoReturn (a ∷ p) → eqb a b ≡ false
        return-starts q (lacks-more m f) = ne_eqb a b (λ d. m (d ∙ g))
    at (turn g h e) i j = ap (occurs (a ∷ p)) e ∙ ap₂ (λ (x y : Bool). x || y) (ap (starts (a ∷ p)) (sym e) ∙ j) i

closes-lines : (s : Bytes) → occurs (bytes "]]>") (line_ends s) ≡ occurs (bytes "]]>") s
unfolding bytes count
closes-lines s = occurs-lines (code "]") (bytes "]>") (counted (bytes "]]>") refl) (counted (bytes "]]>") refl) s

empty-lines : (s : Bytes) → is_empty (line_ends s) ≡ is_empty s
unfolding line_ends is_empty
empty-lines [] = refl
empty-lines (b ∷ s) = at (line_ends (b ∷ s)) refl
  where
    at : (w : Bytes) → line_ends (b ∷ s) ≡ w → is_empty w ≡ false
    at [] e = absurd (omega (arith, ap length (nil-lines (b ∷ s) e)))
    at (c ∷ w) e = refl

pub white-lines : (s : Bytes) → all is_white (line_ends s) ≡ all is_white s
unfolding line_ends all
white-lines [] = refl
white-lines (b ∷ s) = at (line b s) (white-lines s)
  where
    at : Line b s → all is_white (line_ends s) ≡ all is_white s → all is_white (line_ends (b ∷ s)) ≡ (is_white b && all is_white s)
    at (off g e) i = ap (all is_white) e ∙ ap (λ (x : Bool). is_white b && x) i
    at (join g h e) i = ap (all is_white) e ∙ i ∙ sym (rw (return-white b g) refl)
    at (turn g h e) i = ap (all is_white) e ∙ rw (feed-white, return-white b g) i

-- ---- content
-- a start tag, what stands in it, its end tag, and what comes after
abbrev parts : Bytes → Bytes → Bytes → Bytes → Bytes
parts p s q u = p ++ (s ++ (q ++ u))

parts-lines : {p q : Bytes} (s u : Bytes) → NoReturn p → NoReturn q → (get_or (q ++ u) 0 0 ≡ code "\n" → ⊥) → line_ends (parts p s q u) ≡ parts p (line_ends s) q (line_ends u)
parts-lines {p} {q} s u f g n =
    no-return-lines f (s ++ (q ++ u)) ∙ ap (p ++◌) (lines-append s (q ++ u) n ∙ ap (line_ends s ++◌) (no-return-lines g u))

record Parted (s p x q u : Bytes) : Type 0 where
  inner : Bytes
  later : Bytes
  is : s ≡ parts p inner q later
  lines-inner : line_ends inner ≡ x
  lines-later : line_ends later ≡ u

parted : {p q : Bytes} (s x u : Bytes) → NoFeed p → NoFeed q → line_ends s ≡ parts p x q u → Parted s p x q u
parted {p} {q} s x u f g e =
    let a = after f s (x ++ (q ++ u)) e in
    let b = unsplit a.later x (q ++ u) a.lines in
    let c = after g b.right u b.lines-right in
    record {
      inner = b.left;
      later = c.later;
      is = a.is ∙ ap (p ++◌) (b.is ∙ ap (b.left ++◌) c.is);
      lines-inner = b.lines_left;
      lines-later = c.lines;
    }

module _ (n : Bytes) where
  abbrev opens : Bytes
  opens = bytes "<" ++ n ++ bytes ">"

  abbrev closes : Bytes
  closes = bytes "</" ++ n ++ bytes ">"

  abbrev lones : Bytes
  lones = bytes "<" ++ n ++ bytes "/>"

  abbrev timed : Bytes
  timed = bytes "<T t=\"" ++ n ++ bytes "\">"

  element-parts : (s u : Bytes) → bytes "<" ++ n ++ bytes ">" ++ s ++ bytes "</" ++ n ++ bytes ">" ++ u ≡ parts opens s closes u
  element-parts s u = simp append_assoc

  times-parts : (s u : Bytes) → bytes "<T t=\"" ++ n ++ bytes "\">" ++ s ++ bytes "</T>" ++ u ≡ parts timed s (bytes "</T>") u
  times-parts s u = simp append_assoc

  opens-firm : NoReturn n → NoReturn opens
  unfolding bytes count
  opens-firm f = lacks-then (lacks-then (counted (bytes "<") refl) f) (counted (bytes ">") refl)

  closes-firm : NoReturn n → NoReturn closes
  unfolding bytes count
  closes-firm f = lacks-then (lacks-then (counted (bytes "</") refl) f) (counted (bytes ">") refl)

  lones-firm : NoReturn n → NoReturn lones
  unfolding bytes count
  lones-firm f = lacks-then (lacks-then (counted (bytes "<") refl) f) (counted (bytes "/>") refl)

  timed-firm : NoReturn n → NoReturn timed
  unfolding bytes count
  timed-firm f = lacks-then (lacks-then (counted (bytes "<T t=\"") refl) f) (counted (bytes "\">") refl)

  opens-smooth : NoFeed n → NoFeed opens
  unfolding bytes count
  opens-smooth f = lacks-then (lacks-then (counted (bytes "<") refl) f) (counted (bytes ">") refl)

  closes-smooth : NoFeed n → NoFeed closes
  unfolding bytes count
  closes-smooth f = lacks-then (lacks-then (counted (bytes "</") refl) f) (counted (bytes ">") refl)

  lones-smooth : NoFeed n → NoFeed lones
  unfolding bytes count
  lones-smooth f = lacks-then (lacks-then (counted (bytes "<") refl) f) (counted (bytes "/>") refl)

  timed-smooth : NoFeed n → NoFeed timed
  unfolding bytes count
  timed-smooth f = lacks-then (lacks-then (counted (bytes "<T t=\"") refl) f) (counted (bytes "\">") refl)

  closes-head : (u : Bytes) → get_or (closes ++ u) 0 0 ≡ code "\n" → ⊥
  unfolding bytes
  closes-head u e = eqb-false (code "<") (code "\n") refl e

last-firm : NoReturn (bytes "</T>")
unfolding bytes count
last-firm = counted (bytes "</T>") refl

last-smooth : NoFeed (bytes "</T>")
unfolding bytes count
last-smooth = counted (bytes "</T>") refl

last-head : (u : Bytes) → get_or (bytes "</T>" ++ u) 0 0 ≡ code "\n" → ⊥
unfolding bytes
last-head u e = eqb-false (code "<") (code "\n") refl e

-- content that is no text begins with a tag
tag-head : {a : Bool} {u : Bytes} {r : Forest} → Content a u r → NotText r → get_or u 0 0 ≡ code "\n" → ⊥
unfolding bytes
tag-head nothing n e = eqb-false 0 (code "\n") refl e
tag-head (run c e o m r) n d = n
tag-head (element e k r) n d = eqb-false (code "<") (code "\n") refl d
tag-head (lone e r) n d = eqb-false (code "<") (code "\n") refl d
tag-head (times h e k r) n d = eqb-false (code "<") (code "\n") refl d

content-lines : {a : Bool} {s : Bytes} {f : Forest} → Content a s f → Content a (line_ends s) f
unfolding line_ends
content-lines nothing = nothing
content-lines (run {s = s} {u = u} c e o n k) =
    rw (lines-append s u (tag-head k n)) (run (chars-lines c) (empty-lines s ∙ e) (closes-lines s ∙ o) n (content-lines k))
content-lines {a} (element {n = n} {s = s} {u = u} {k = g} {r = r} e k t) =
    let f = name-lacks name-return n e in
    let x = element-parts n s u in
    subst (λ (y : Bytes). Content a y (elem n g r))
    (element-parts n (line_ends s) (line_ends u) ∙ sym (parts-lines s u (opens-firm n f) (closes-firm n f) (closes-head n u)) ∙ ap line_ends (sym x))
    (element e (content-lines k) (content-lines t))
content-lines {a} (lone {n = n} {u = u} {r = r} e t) =
    subst (λ (y : Bytes). Content a y (elem n end r)) (sym (no-return-lines (lones-firm n (name-lacks name-return n e)) u)) (lone e (content-lines t))
content-lines {a} (times {t = n} {s = s} {u = u} {k = g} {r = r} h e k t) =
    subst (λ (y : Bytes). Content a y (stamp n g r))
    (times-parts n (line_ends s) (line_ends u) ∙ sym (parts-lines s u (timed-firm n (by_bytes is_times times-return n e)) last-firm (last-head u)) ∙ ap line_ends (sym (times-parts n s u)))
    (times h e (content-lines k) (content-lines t))

content-raw : {a : Bool} {x : Bytes} {f : Forest} → Content a x f → (s : Bytes) → line_ends s ≡ x → Content a s f
content-raw nothing s e = rw (nil-lines s e) nothing
content-raw (run {s = x} {u = u} c i o n k) s e =
    let g = unsplit s x u e in
    rw g.is
    (run (chars-raw c g.left g.lines_left) (sym (empty-lines g.left) ∙ ap is_empty g.lines_left ∙ i)
    (sym (closes-lines g.left) ∙ ap (occurs (bytes "]]>")) g.lines_left ∙ o) n (content-raw k g.right g.lines-right))
content-raw {a} (element {n = n} {s = x} {u = u} {k = kids} {r = r} i k t) s e =
    let m = name-lacks name-feed n i in
    let g = parted s x u (opens-smooth n m) (closes-smooth n m) (e ∙ element-parts n x u) in
    subst (λ (y : Bytes). Content a y (elem n kids r)) (element-parts n g.inner g.later ∙ sym g.is)
    (element i (content-raw k g.inner g.lines-inner) (content-raw t g.later g.lines-later))
content-raw {a} (lone {n = n} {u = u} {r = r} i t) s e =
    let g = after (lones-smooth n (name-lacks name-feed n i)) s u e in
    subst (λ (y : Bytes). Content a y (elem n end r)) (sym g.is) (lone i (content-raw t g.later g.lines))
content-raw {a} (times {t = n} {s = x} {u = u} {k = kids} {r = r} h i k t) s e =
    let g = parted s x u (timed-smooth n (by_bytes is_times times-feed n i)) last-smooth (e ∙ times-parts n x u) in
    subst (λ (y : Bytes). Content a y (stamp n kids r)) (times-parts n g.inner g.later ∙ sym g.is)
    (times h i (content-raw k g.inner g.lines-inner) (content-raw t g.later g.lines-later))

-- ---- the whole text
root-text : (f : Forest) → Root f → NotText f
root-text end r = absurd r
root-text (elem n k f) r = tt
root-text (text b f) r = absurd r
root-text (stamp t k f) r = tt

firm-whole : {p : Bytes} → NoReturn p → line_ends p ≡ p
unfolding line_ends
firm-whole {p} f = ap line_ends (sym (append-nil p)) ∙ no-return-lines f [] ∙ append-nil p

whole_parts : (p s q v : Bytes) → parts p s q [] ++ v ≡ parts p s q v
whole_parts p s q v = simp (append-nil, append_assoc)

head-tag : {a : Bool} {f : Forest} (i z : Bytes) → Content a i f → Root f → get_or (i ++ z) 0 0 ≡ code "\n" → ⊥
unfolding bytes
head-tag i z nothing r e = r
head-tag i z (run c x o m k) r e = r
head-tag i z (element x k t) r e = eqb-false (code "<") (code "\n") refl e
head-tag i z (lone x t) r e = eqb-false (code "<") (code "\n") refl e
head-tag i z (times h x k t) r e = eqb-false (code "<") (code "\n") refl e

-- the root ends with a tag
root-lines : {a : Bool} {s : Bytes} {f : Forest} (v : Bytes) → Content a s f → Root f → line_ends (s ++ v) ≡ line_ends s ++ line_ends v
unfolding line_ends
root-lines v nothing r = absurd r
root-lines v (run c e o n k) r = absurd r
root-lines v (element {n = n} {s = s} {u = u} e k t) r =
    let f = name-lacks name-return n e in
    let z : u ≡ [] = content-end t r in
    let p = parts-lines s v (opens-firm n f) (closes-firm n f) (closes-head n v) in
    let q = parts-lines s [] (opens-firm n f) (closes-firm n f) (closes-head n []) in
    rw z (ap line_ends (ap (◌++ v) (element-parts n s []) ∙ whole_parts (opens n) s (closes n) v) ∙ p
    ∙ sym (ap (◌++ line_ends v) (ap line_ends (element-parts n s []) ∙ q) ∙ whole_parts (opens n) (line_ends s) (closes n) (line_ends v)))
root-lines v (lone {n = n} {u = u} e t) r =
    let f = lones-firm n (name-lacks name-return n e) in
    let z : u ≡ [] = content-end t r in
    rw (z, append-nil (lones n)) (no-return-lines f v ∙ ap (◌++ line_ends v) (sym (firm-whole f)))
root-lines v (times {t = n} {s = s} {u = u} h e k t) r =
    let f = timed-firm n (by_bytes is_times times-return n e) in
    let z : u ≡ [] = content-end t r in
    let p = parts-lines s v f last-firm (last-head v) in
    let q = parts-lines s [] f last-firm (last-head []) in
    rw z (ap line_ends (ap (◌++ v) (times-parts n s []) ∙ whole_parts (timed n) s (bytes "</T>") v) ∙ p
    ∙ sym (ap (◌++ line_ends v) (ap line_ends (times-parts n s []) ∙ q) ∙ whole_parts (timed n) (line_ends s) (bytes "</T>") (line_ends v)))

spells-lines : {a : Bool} {s : Bytes} {f : Forest} → Spells a s f → Spells a (line_ends s) f
spells-lines {a} {s} {f} p =
    let b : Bytes = p.before in
    let i : Bytes = p.inner in
    let z : Bytes = p.after in
    let h = head-tag i z p.content p.root in
    record {
      before = line_ends b;
      inner = line_ends i;
      after = line_ends z;
      text-is = ap line_ends (p.text-is ∙ append_assoc b i z) ∙ lines-append b (i ++ z) h ∙ ap (line_ends b ++◌) (root-lines z p.content p.root)
          ∙ sym (append_assoc (line_ends b) (line_ends i) (line_ends z));
      white-before = white-lines b ∙ p.white-before;
      white-after = white-lines z ∙ p.white-after;
      content = content-lines p.content;
      root = p.root;
    }

spells-raw : {a : Bool} {s : Bytes} {f : Forest} → Spells a (line_ends s) f → Spells a s f
spells-raw {a} {s} {f} p =
    let g = unsplit s (p.before ++ p.inner) p.after p.text-is in
    let h = unsplit g.left p.before p.inner g.lines_left in
    record {
      before = h.left;
      inner = h.right;
      after = g.right;
      text-is = g.is ∙ ap (◌++ g.right) h.is;
      white-before = sym (white-lines h.left) ∙ ap (all is_white) h.lines_left ∙ p.white-before;
      white-after = sym (white-lines g.right) ∙ ap (all is_white) g.lines-right ∙ p.white-after;
      content = content-raw p.content h.right h.lines-right;
      root = p.root;
    }

-- THE law: a raw text is read as what its received text is read as
pub read-lines : (a : Bool) (s : Bytes) (f : Forest) → read a s ≡ whole f → read a (line_ends s) ≡ whole f
read-lines a s f e = read-complete a (line_ends s) f (spells-lines (read-sound a s f e))

pub read-raw : (a : Bool) (s : Bytes) (f : Forest) → read a (line_ends s) ≡ whole f → read a s ≡ whole f
read-raw a s f e = read-complete a s f (spells-raw (read-sound a (line_ends s) f e))

-- ---- places: of a raw text that is refused, the bytes before the place begin a raw text whose received text is of the subset, and with the byte
-- there they begin none
pub place-first : (a : Bool) (s : Bytes) (p : ℕ) → read a s ≡ broken p → p < length s → (t : Bytes) (f : Forest) → read a (line_ends (take (p + 1) s ++ t)) ≡ whole f → ⊥
place-first a s p e h t f d =
    let x : broken p ≡ whole f = sym (first a s t p e h) ∙ read-raw a (take (p + 1) s ++ t) f d in
    let z : ◌≡◌ {A = ℕ} 0 1 = cc in
    omega arith

pub place-alive : (a : Bool) (s : Bytes) (p : ℕ) → read a s ≡ broken p → (t : Bytes) × (f : Forest) × (read a (line_ends (take p s ++ t)) ≡ whole f)
place-alive a s p e = let x = alive a s p e in (x.0, x.1, read-lines a (take p s ++ x.0) x.1 x.2)
