-- Key values in a run of text: they have no entity, so the run's raw bytes decide.
use Rattle.std.specs.Prelude.{ℕ, ◌<◌, ◌≤◌, ◌≡◌, refl, true, false, ◌&&◌, [], ◌∷◌, eqb, leb, length, Result, Ok, Err}
use Prim.Native.Char.{code}
use Rattle.std.proofs.Common.{ap, sym, ◌∙◌, arith}
use Rattle.std.proofs.Math.Bool.{and-false}
use borrow.Author.Tests.{le-leb, lt-leb, eqb-true, eqb-false}
use Rattle.xml.specs.Bytes.{Bytes, bytes, all, is_name_byte, is_value, bytes_compute}
use Rattle.xml.specs.GrammarLaws.{unescape-plain, unescape-joined, unescape-turned}
use Rattle.xml.proofs.Lines.{name-feed}
use Rattle.xml.specs.NeatWritten.{name-return}
use Rattle.xml.specs.Read.{common, further, try, entity_at, unescape}
use Rattle.xml.specs.Truth.{clash, bool_by, by-test, and_left, and_right}

-- ---- what is a value
pub value_empty : (s : Bytes) → length s < 1 → is_value s ≡ false
unfolding is_value
value_empty s h = rw (lt-leb 1 (length s) h)

pub value_over : (s : Bytes) → 32 < length s → is_value s ≡ false
unfolding is_value
value_over s h = rw (le-leb 1 (length s) (omega arith), lt-leb (length s) 32 h)

pub value_names : (s : Bytes) → 1 ≤ length s → length s ≤ 32 → is_value s ≡ all is_name_byte s
unfolding is_value
value_names s h g = rw (le-leb 1 (length s) h, le-leb (length s) 32 g)

-- ---- no entity means a byte of a name
abbrev NoName : Result (ℕ × ℕ) ℕ → Type 0
NoName (Ok (n, c)) = is_name_byte c ≡ false
NoName (Err n) = Unit {0}

no-further : (k : ℕ) (o : Result (ℕ × ℕ) ℕ) → NoName o → NoName (further k o)
unfolding further
no-further k (Ok (n, c)) h = h
no-further k (Err n) h = tt

no-try : (w : Bytes) (b : ℕ) (s : Bytes) (o : Result (ℕ × ℕ) ℕ) → is_name_byte b ≡ false → NoName o → NoName (try w b s o)
unfolding try
no-try w b s o h g = bool_by (λ x. NoName (elim x as (λ _. Result (ℕ × ℕ) ℕ) [ true ↦ Ok (length w, b) | false ↦ further (common w s) o ])) (eqb (common w s) (length w)) (λ _. h) (λ _. no-further (common w s) o g)

no-entity : (s : Bytes) → NoName (entity_at s)
unfolding entity_at bytes_compute
no-entity s =
    no-try (bytes "lt;") (code "<") s _ refl (no-try (bytes "gt;") (code ">") s _ refl (no-try (bytes "amp;") (code "&") s _ refl
    (no-try (bytes "quot;") (code "\"") s _ refl (no-try (bytes "apos;") (code "'") s (Err 0) refl tt))))

no-amp : is_name_byte (code "&") ≡ false
unfolding bytes_compute
no-amp = refl

-- the byte b, with s after it
data Reads (b : ℕ) (s : Bytes) : Type 0 where
  itself : unescape 0 (b ∷ s) ≡ b ∷ unescape 0 s → Reads b s
  neither : {c : ℕ} {t : Bytes} → is_name_byte b ≡ false → is_name_byte c ≡ false → unescape 0 (b ∷ s) ≡ c ∷ t → Reads b s

reads : (b : ℕ) (s : Bytes) → Reads b s
unfolding unescape
reads b s = by-test (eqb b (code "&")) amp (λ e. by-test (eqb b (code "\r")) (λ f. return s (eqb-true b (code "\r") f)) (λ f. itself (rw (e, f, unescape))))
  where
    return : (s : Bytes) → b ≡ code "\r" → Reads b s
    return [] f = neither (ap is_name_byte f ∙ name-return) name-feed (unescape-turned b [] f (eqb-false 0 (code "\n") refl))
    return (c ∷ s) f =
        by-test (eqb c (code "\n"))
        (λ g.
        let h = eqb-true c (code "\n") g in
        neither (ap is_name_byte f ∙ name-return) (ap is_name_byte h ∙ name-feed)
        (unescape-joined b (c ∷ s) f h ∙ unescape-plain c s (λ x. eqb-false (code "\n") (code "&") refl (sym h ∙ x)) (λ x. eqb-false (code "\n") (code "\r") refl (sym h ∙ x))))
        (λ g. neither (ap is_name_byte f ∙ name-return) name-feed (unescape-turned b (c ∷ s) f (eqb-false c (code "\n") g)))

    amp : eqb b (code "&") ≡ true → Reads b s
    amp e = entity (entity_at s) refl (no-entity s)
      where
        entity : (o : Result (ℕ × ℕ) ℕ) → entity_at s ≡ o → NoName o → Reads b s
        entity (Ok (n, c)) h g = neither {c = c} {t = unescape n s} (ap is_name_byte (eqb-true b (code "&") e) ∙ no-amp) g (rw (e, h, unescape))
        entity (Err n) h g = itself (rw (e, h, unescape))

-- a run of name bytes means itself, and any other has another byte
names-raw : (s : Bytes) → all is_name_byte (unescape 0 s) ≡ all is_name_byte s
unfolding all unescape
names-raw [] = refl
names-raw (b ∷ s) = at (reads b s) (names-raw s)
  where
    at : Reads b s → all is_name_byte (unescape 0 s) ≡ all is_name_byte s → all is_name_byte (unescape 0 (b ∷ s)) ≡ (is_name_byte b && all is_name_byte s)
    at (itself e) i = ap (all is_name_byte) e ∙ ap (λ x. is_name_byte b && x) i
    at (neither f g e) i = ap (all is_name_byte) e ∙ rw (f, g)

names-self : (s : Bytes) → all is_name_byte s ≡ true → unescape 0 s ≡ s
unfolding all unescape
names-self [] h = refl
names-self (b ∷ s) h = at (reads b s) (names-self s (and_right (is_name_byte b) (all is_name_byte s) h))
  where
    at : Reads b s → unescape 0 s ≡ s → unescape 0 (b ∷ s) ≡ b ∷ s
    at (itself e) i = e ∙ ap (λ x. b ∷ x) i
    at (neither f g e) i = clash (sym (and_left (is_name_byte b) (all is_name_byte s) h) ∙ f)

no_value : (s : Bytes) → all is_name_byte s ≡ false → is_value s ≡ false
unfolding is_value
no_value s h = rw h (and-false (leb 1 (length s) && leb (length s) 32))

pub value-raw : (s : Bytes) → is_value (unescape 0 s) ≡ is_value s
value-raw s = by-test (all is_name_byte s) (λ e. ap is_value (names-self s e)) (λ e. no_value (unescape 0 s) (names-raw s ∙ e) ∙ sym (no_value s e))

pub value-plain : (s : Bytes) → is_value (unescape 0 s) ≡ true → unescape 0 s ≡ s
unfolding is_value
value-plain s e =
    names-self s (sym (names-raw s) ∙ and_right (leb 1 (length (unescape 0 s)) && leb (length (unescape 0 s)) 32) (all is_name_byte (unescape 0 s)) e)
