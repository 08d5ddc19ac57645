-- The counts of what is written; and what is read is as written where its counts are the same, piece by piece.
use Rattle.std.specs.Prelude.{ℕ, suc, ◌+◌, ◌*◌, ◌≤◌, ◌≡◌, refl, Bool, true, false, ◌&&◌, eqb, leb, length}
use Prim.Native.Char.{code}
use Rattle.std.proofs.Common.{arith, ap₂, sym, ◌∙◌, eqb-true, ne_eqb}
use Rattle.std.proofs.Math.Path.{ap}
use mathlib.Core.List.{[], ◌∷◌, ◌++◌, append_assoc, append-nil}
use Rattle.std.proofs.lemmas.Bool.{eqb-false}
use Rattle.xml.specs.Bytes.{Bytes, bytes, all, is_character, is_meant, is_name_byte, is_name, is_value, is_start, is_times, bytes_compute}
use Rattle.xml.specs.Forest.{Forest, end, elem, text, stamp, escape, write, Tidy}
use Rattle.xml.specs.Grammar.{Entity, lt, gt, amp, quot, apos, Characters, none, kept, joined, turned, entity, Content, nothing, run, element, lone, times}
use Rattle.xml.specs.GrammarLaws.{character-not, lt-markup, amp-markup}
use Rattle.xml.specs.Spelled.{meant-legal}
use Rattle.xml.specs.SignLaws.{Plain, escape-one, escape-amp, escape-lt, escape-gt, escape-cons}
use Rattle.xml.specs.Truth.{by-test, clash, and_right, both_true}
use Rattle.xml.specs.Neat.{count, others, tags}
use Rattle.xml.specs.NeatLaws.{count-append, others-right, others-returns}

-- ---- what is written: so many `<` and `>`, no `&` with `q` or `ap` after it and no CR, whatever comes next
pub record Signs (s : Bytes) (l g : ℕ) : Type 0 where
  pub less : count (code "<") s ≡ l
  pub greater : count (code ">") s ≡ g
  pub passes : (t : Bytes) → others (s ++ t) ≡ others t

then : {s u : Bytes} {l g m h : ℕ} → Signs s l g → Signs u m h → Signs (s ++ u) (l + m) (g + h)
then {s} {u} x y =
    record {
      less = omega (arith, x.less, y.less, count-append (code "<") s u);
      greater = omega (arith, x.greater, y.greater, count-append (code ">") s u);
      passes = λ t. ap others (append_assoc s u t) ∙ x.passes (u ++ t) ∙ y.passes t;
    }

nil-signs : Signs [] 0 0
unfolding count
nil-signs = record { less = refl; greater = refl; passes = λ t. refl }

less-signs : Signs (bytes "<") 1 0
unfolding count others bytes
less-signs = record { less = refl; greater = refl; passes = λ t. refl }

greater-signs : Signs (bytes ">") 0 1
unfolding count others bytes
greater-signs = record { less = refl; greater = refl; passes = λ t. refl }

slash-signs : Signs (bytes "</") 1 0
unfolding count others bytes
slash-signs = record { less = refl; greater = refl; passes = λ t. refl }

lone-signs : Signs (bytes "/>") 0 1
unfolding count others bytes
lone-signs = record { less = refl; greater = refl; passes = λ t. refl }

times-signs : Signs (bytes "<T t=\"") 1 0
unfolding count others bytes
times-signs = record { less = refl; greater = refl; passes = λ t. refl }

quote-signs : Signs (bytes "\">") 0 1
unfolding count others bytes
quote-signs = record { less = refl; greater = refl; passes = λ t. refl }

close-signs : Signs (bytes "</T>") 1 1
unfolding count others bytes
close-signs = record { less = refl; greater = refl; passes = λ t. refl }

amp-signs : Signs (bytes "&amp;") 0 0
unfolding count others bytes
amp-signs = record { less = refl; greater = refl; passes = λ t. refl }

lt-signs : Signs (bytes "&lt;") 0 0
unfolding count others bytes
lt-signs = record { less = refl; greater = refl; passes = λ t. refl }

gt-signs : Signs (bytes "&gt;") 0 0
unfolding count others bytes
gt-signs = record { less = refl; greater = refl; passes = λ t. refl }

plain-signs : {b : ℕ} → Plain b → (b ≡ code "\r" → ⊥) → Signs (b ∷ []) 0 0
unfolding count others
plain-signs {b} p r =
    record {
      less = rw (ne_eqb b (code "<") p.no_lt);
      greater = rw (ne_eqb b (code ">") p.no-gt);
      passes = λ t. rw (ne_eqb b (code "&") p.no-amp, ne_eqb b (code "\r") r);
    }

escape-byte : (b : ℕ) → (b ≡ code "\r" → ⊥) → Signs (escape (b ∷ [])) 0 0
escape-byte b r =
    by-test (eqb b (code "&")) (λ x. rw (escape-amp b (eqb-true b (code "&") x)) amp-signs)
    (λ x. by-test (eqb b (code "<")) (λ y. rw (escape-lt b (eqb-true b (code "<") y)) lt-signs)
    (λ y. by-test (eqb b (code ">")) (λ z. rw (escape-gt b (eqb-true b (code ">") z)) gt-signs)
    (λ z.
    let p : Plain b = record { no-amp = eqb-false b (code "&") x; no_lt = eqb-false b (code "<") y; no-gt = eqb-false b (code ">") z } in
    rw (escape-one b p) (plain-signs p r))))

escape-signs : (t : Bytes) → all is_meant t ≡ true → Signs (escape t) 0 0
unfolding escape all
escape-signs [] e = nil-signs
escape-signs (b ∷ t) e =
    let h = both_true (is_meant b) (all is_meant t) e in
    rw (escape-cons b t) (then (escape-byte b (meant-legal b h.0).1) (escape-signs t h.1))

-- bytes of which none is `<`, `>`, `&` or CR
module _ (p : ℕ → Bool) (l : p (code "<") ≡ false) (g : p (code ">") ≡ false) (m : p (code "&") ≡ false) (r : p (code "\r") ≡ false) where
  plain_of : (b : ℕ) → p b ≡ true → Plain b
  plain_of b e =
      record {
        no-amp = λ d. clash (sym e ∙ ap p d ∙ m);
        no_lt = λ d. clash (sym e ∙ ap p d ∙ l);
        no-gt = λ d. clash (sym e ∙ ap p d ∙ g);
      }

  all-signs : (s : Bytes) → all p s ≡ true → Signs s 0 0
  unfolding all
  all-signs [] e = nil-signs
  all-signs (b ∷ s) e = let x = both_true (p b) (all p s) e in then (plain-signs (plain_of b x.0) (λ d. clash (sym x.0 ∙ ap p d ∙ r))) (all-signs s x.1)

name-lt : is_name_byte (code "<") ≡ false
unfolding bytes_compute
name-lt = refl

name-gt : is_name_byte (code ">") ≡ false
unfolding bytes_compute
name-gt = refl

name-amp : is_name_byte (code "&") ≡ false
unfolding bytes_compute
name-amp = refl

times-lt : is_times (code "<") ≡ false
unfolding bytes_compute
times-lt = refl

times-gt : is_times (code ">") ≡ false
unfolding bytes_compute
times-gt = refl

times-amp : is_times (code "&") ≡ false
unfolding bytes_compute
times-amp = refl

pub name-return : is_name_byte (code "\r") ≡ false
unfolding bytes_compute
name-return = refl

pub times-return : is_times (code "\r") ≡ false
unfolding bytes_compute
times-return = refl

pub name-bytes : (n : Bytes) → is_name n ≡ true → all is_name_byte n ≡ true
unfolding is_name is_value
name-bytes [] e = clash (sym e)
name-bytes (b ∷ s) e =
    and_right (leb 1 (suc (length s)) && leb (suc (length s)) 32) (all is_name_byte (b ∷ s)) (and_right (is_start b) (is_value (b ∷ s)) e)

name-signs : (n : Bytes) → is_name n ≡ true → Signs n 0 0
name-signs n e = all-signs is_name_byte name-lt name-gt name-amp name-return n (name-bytes n e)

pub times-counts : (t : Bytes) → all is_times t ≡ true → Signs t 0 0
times-counts t e = all-signs is_times times-lt times-gt times-amp times-return t e

-- a text with such counts has no CR
pub signs-returns : {s : Bytes} {l g : ℕ} → Signs s l g → count (code "\r") s ≡ 0
unfolding others
signs-returns {s} x = others-returns s (ap others (sym (append-nil s)) ∙ x.passes [])

-- two `<` and two `>` a tag
counted : {s : Bytes} {l g : ℕ} (t : ℕ) → Signs s l g → l ≡ 2 * t → g ≡ 2 * t → Signs s (2 * t) (2 * t)
counted t x e d = record { less = x.less ∙ e; greater = x.greater ∙ d; passes = x.passes }

pub write-signs : (a : Bool) (f : Forest) → Tidy a f → Signs (write f) (2 * tags f) (2 * tags f)
unfolding write tags
write-signs a end t = nil-signs
write-signs a (text b r) t = counted (tags r) (then (escape-signs b t.1) (write-signs a r t.3)) (omega arith) (omega arith)
write-signs a (elem n k r) t =
    let m = name-signs n t.0 in
    counted (1 + tags k + tags r)
    (then (then (then (then (then (then (then less-signs m) greater-signs) (write-signs a k t.1)) slash-signs) m) greater-signs) (write-signs a r t.2))
    (omega arith) (omega arith)
write-signs a (stamp u k r) t =
    let m = times-counts u t.1 in
    counted (1 + tags k + tags r)
    (then (then (then (then (then times-signs m) quote-signs) (write-signs a k t.2)) close-signs) (write-signs a r t.3))
    (omega arith) (omega arith)

-- ---- a text, and what it is written as: never more `<`; for each `<` that is missing at most one `>` is; and the same where none is missing
pub record Told (s w : Bytes) : Type 0 where
  pub most : count (code "<") s ≤ count (code "<") w
  pub least : count (code "<") s + count (code ">") w ≤ count (code ">") s + count (code "<") w
  pub is : (u : Bytes) → others (s ++ u) ≡ false → count (code "<") s ≡ count (code "<") w → count (code ">") s ≡ count (code ">") w → s ≡ w

fixed : (s : Bytes) → Told s s
fixed s = record { most = omega arith; least = omega arith; is = λ u o l g. refl }

told-then : {s w u v : Bytes} → Told s w → Told u v → Told (s ++ u) (w ++ v)
told-then {s} {w} {u} {v} x y =
    record {
      most = omega (arith, x.most, y.most, ls, lw);
      least = omega (arith, x.least, y.least, ls, lw, gs, gw);
      is = λ t o l g.
          let o₁ : others (s ++ (u ++ t)) ≡ false = ap others (sym (append_assoc s u t)) ∙ o in
          ap₂ (λ (a b : Bytes). a ++ b)
          (x.is (u ++ t) o₁ (omega (arith, x.most, y.most, ls, lw)) (omega (arith, x.most, x.least, y.most, y.least, ls, lw, gs, gw)))
          (y.is t (others-right s (u ++ t) o₁) (omega (arith, x.most, y.most, ls, lw)) (omega (arith, x.most, x.least, y.most, y.least, ls, lw, gs, gw)));
    }
  where
    ls : count (code "<") (s ++ u) ≡ count (code "<") s + count (code "<") u
    ls = count-append (code "<") s u

    lw : count (code "<") (w ++ v) ≡ count (code "<") w + count (code "<") v
    lw = count-append (code "<") w v

    gs : count (code ">") (s ++ u) ≡ count (code ">") s + count (code ">") u
    gs = count-append (code ">") s u

    gw : count (code ">") (w ++ v) ≡ count (code ">") w + count (code ">") v
    gw = count-append (code ">") w v

-- an entity that is never written
never : {s w : Bytes} → ((u : Bytes) → others (s ++ u) ≡ true) → count (code "<") s ≡ count (code "<") w → count (code ">") s ≡ count (code ">") w → Told s w
never o l g = record { most = omega arith; least = omega arith; is = λ u d l g. clash (sym (o u) ∙ d) }

entity-told : {e : Bytes} {c : ℕ} → Entity e c → Told e (escape (c ∷ []))
unfolding escape bytes others count
entity-told lt = fixed (bytes "&lt;")
entity-told gt = fixed (bytes "&gt;")
entity-told amp = fixed (bytes "&amp;")
entity-told quot = never (λ u. refl) refl refl
entity-told apos = never (λ u. refl) refl refl

bare-told : {b : ℕ} → b ≡ code ">" → Told (b ∷ []) (escape (b ∷ []))
unfolding escape bytes count
bare-told e = rw e (record { most = omega arith; least = omega arith; is = λ u o l g. absurd (omega arith) })

kept-told : (b : ℕ) → is_character b ≡ true → Told (b ∷ []) (escape (b ∷ []))
kept-told b e =
    by-test (eqb b (code ">")) (λ g. bare-told (eqb-true b (code ">") g))
    (λ g. rw (escape-one b (record { no-amp = character-not b (code "&") amp-markup e; no_lt = character-not b (code "<") lt-markup e; no-gt = eqb-false b (code ">") g })) (fixed (b ∷ [])))

-- nor is a CR ever written
return-told : (b : ℕ) (w : Bytes) → b ≡ code "\r" → count (code "<") w ≡ 0 → count (code ">") w ≡ 0 → Told (b ∷ []) w
unfolding count others
return-told b w e l g = rw e (never (λ u. refl) (sym l) (sym g))

characters-told : {s t : Bytes} → Characters s t → Told s (escape t)
unfolding escape count
characters-told none = fixed []
characters-told (joined {b = b} e f c) = told-then (return-told b [] e refl refl) (characters-told c)
characters-told (turned {b = b} e f c) = told-then (return-told b (code "\n" ∷ []) e refl refl) (characters-told c)
characters-told (kept {b = b} {t = t} e n c) = rw (escape-cons b t) (told-then (kept-told b e) (characters-told c))
characters-told (entity {c = c} {t = t} e r) = rw (escape-cons c t) (told-then (entity-told e) (characters-told r))

fewer : {s w : Bytes} → Signs s 1 1 → Signs w 2 2 → Told s w
fewer x y = record { most = omega arith; least = omega arith; is = λ u o l g. absurd (omega arith) }

lone-told : (n : Bytes) → is_name n ≡ true → Told (bytes "<" ++ n ++ bytes "/>") (bytes "<" ++ n ++ bytes ">" ++ [] ++ bytes "</" ++ n ++ bytes ">")
lone-told n e =
    let m = name-signs n e in
    fewer (then (then less-signs m) lone-signs) (then (then (then (then (then (then less-signs m) greater-signs) nil-signs) slash-signs) m) greater-signs)

pub content-told : {a : Bool} {s : Bytes} {f : Forest} → Content a s f → Told s (write f)
unfolding write
content-told nothing = fixed []
content-told (run c e o n r) = told-then (characters-told c) (content-told r)
content-told (element {n = n} e c r) =
    told-then (told-then (told-then (told-then (told-then (fixed (bytes "<" ++ n ++ bytes ">")) (content-told c)) (fixed (bytes "</"))) (fixed n)) (fixed (bytes ">"))) (content-told r)
content-told (lone {n = n} e r) = told-then (lone-told n e) (content-told r)
content-told (times {t = t} a e c r) =
    told-then (told-then (told-then (fixed (bytes "<T t=\"" ++ t ++ bytes "\">")) (content-told c)) (fixed (bytes "</T>"))) (content-told r)
