-- Laws of the grammar's characters: what a run means, and when a byte stands for itself.
use Rattle.std.specs.Prelude.{ℕ, ◌≡◌, refl, Bool, true, false, ◌||◌, [], ◌∷◌, ◌++◌, eqb, get_or}
use Prim.Native.Char.{code}
use Rattle.std.proofs.Common.{ap, sym, ◌∙◌, ne_eqb, eq-eqb}
use Rattle.std.proofs.lemmas.Bool.{eqb-false}
use Rattle.xml.specs.Bytes.{Bytes, all, is_empty, class_of, among, within, is_letter, is_digit, is_legal, is_character, is_meant, bytes_compute}
use Rattle.xml.specs.declared.class.ByteClass.{ByteClass}
use Rattle.xml.specs.declared.class.ByteClass.TheVariants.{Illegal, White, Start, Other, Markup, Plain}
use Rattle.xml.specs.Truth.{both, clash, neither}
use Rattle.xml.specs.Grammar.{Entity, lt, gt, amp, quot, apos, Characters, none, kept, joined, turned, entity}
use Rattle.xml.specs.Read.{unescape, read_compute}

-- ---- bytes that stand for themselves
pub character-not : (b c : ℕ) → is_character c ≡ false → is_character b ≡ true → b ≡ c → ⊥
character-not b c n e h = clash (sym e ∙ ap is_character h ∙ n)

pub lt-markup : is_character (code "<") ≡ false
unfolding bytes_compute
lt-markup = refl

pub amp-markup : is_character (code "&") ≡ false
unfolding bytes_compute
amp-markup = refl

pub character-legal : (b : ℕ) → is_character b ≡ true → is_legal b ≡ true
unfolding is_character is_legal
character-legal b e = at (class_of b) e
  where
    at : (c : ByteClass) → elim c [ Illegal ↦ false | White ↦ true | Start ↦ true | Other ↦ true | Markup ↦ false | Plain ↦ true ] ≡ true →
        elim c [ Illegal ↦ false | White ↦ true | Start ↦ true | Other ↦ true | Markup ↦ true | Plain ↦ true ] ≡ true
    at Illegal e = e
    at White e = e
    at Start e = e
    at Other e = e
    at Markup e = refl
    at Plain e = e

abbrev pub class_by : Bool → Bool → Bool → Bool → Bool → ByteClass
class_by w n d m p =
    elim w [
      | true ↦ White
      | false ↦ elim n [ true ↦ Start | false ↦ elim d [ true ↦ Other | false ↦ elim m [ true ↦ Markup | false ↦ elim p [ true ↦ Plain | false ↦ Illegal ] ] ] ]
    ]

class-legal : (w n d m p : Bool) → m ≡ false →
    elim (class_by w n d m p) [ Illegal ↦ false | White ↦ true | Start ↦ true | Other ↦ true | Markup ↦ true | Plain ↦ true ] ≡ true →
    elim (class_by w n d m p) [ Illegal ↦ false | White ↦ true | Start ↦ true | Other ↦ true | Markup ↦ false | Plain ↦ true ] ≡ true
class-legal true n d m p e l = refl
class-legal false true d m p e l = refl
class-legal false false true m p e l = refl
class-legal false false false true p e l = clash e
class-legal false false false false true e l = refl
class-legal false false false false false e l = l

pub legal-character : (b : ℕ) → (b ≡ code "<" → ⊥) → (b ≡ code "&" → ⊥) → is_legal b ≡ true → is_character b ≡ true
unfolding bytes_compute
legal-character b n m l =
    class-legal (among "\t\n\r " b) (is_letter b || eqb b (code "_")) (is_digit b || among ".-" b) (among "<&" b) (within 0x20 0x7E b)
    (neither (ne_eqb b (code "<") n) (neither (ne_eqb b (code "&") m) refl)) l

-- ---- what characters mean
entity-legal : {e : Bytes} {c : ℕ} → Entity e c → is_meant c ≡ true
unfolding bytes_compute
entity-legal lt = refl
entity-legal gt = refl
entity-legal amp = refl
entity-legal quot = refl
entity-legal apos = refl

pub legal-meant : (b : ℕ) → is_legal b ≡ true → (b ≡ code "\r" → ⊥) → is_meant b ≡ true
unfolding is_meant
legal-meant b l n = rw (l, ne_eqb b (code "\r") n)

feed-meant : is_meant (code "\n") ≡ true
unfolding bytes_compute
feed-meant = refl

pub characters-legal : {s t : Bytes} → Characters s t → all is_meant t ≡ true
unfolding all
characters-legal none = refl
characters-legal (kept {b = b} e n c) = both (legal-meant b (character-legal b e) n) (characters-legal c)
characters-legal (joined e f c) = characters-legal c
characters-legal (turned e f c) = both feed-meant (characters-legal c)
characters-legal (entity e c) = both (entity-legal e) (characters-legal c)

-- a text that begins with an LF is not empty
pub feed-some : (s : Bytes) → get_or s 0 0 ≡ code "\n" → is_empty s ≡ false
unfolding is_empty
feed-some [] e = absurd (eqb-false 0 (code "\n") refl e)
feed-some (b ∷ s) e = refl

pub characters-some : {s t : Bytes} → Characters s t → is_empty s ≡ false → is_empty t ≡ false
unfolding is_empty
characters-some none e = e
characters-some (kept x n c) e = refl
characters-some (joined {s = s} x f c) e = characters-some c (feed-some s f)
characters-some (turned x f c) e = refl
characters-some (entity x c) e = refl

-- an entity, and reading over it
unescape-entity : {e : Bytes} {c : ℕ} (s : Bytes) → Entity e c → unescape 0 (e ++ s) ≡ c ∷ unescape 0 s
unfolding read_compute
unescape-entity s lt = refl
unescape-entity s gt = refl
unescape-entity s amp = refl
unescape-entity s quot = refl
unescape-entity s apos = refl

-- a byte of a run that begins no entity
pub unescape-plain : (b : ℕ) (s : Bytes) → (b ≡ code "&" → ⊥) → (b ≡ code "\r" → ⊥) → unescape 0 (b ∷ s) ≡ b ∷ unescape 0 s
unfolding unescape
unescape-plain b s n m = rw (ne_eqb b (code "&") n, ne_eqb b (code "\r") m, unescape)

return-amp : (b : ℕ) → b ≡ code "\r" → b ≡ code "&" → ⊥
return-amp b e x = eqb-false (code "\r") (code "&") refl (sym e ∙ x)

pub unescape-joined : (b : ℕ) (s : Bytes) → b ≡ code "\r" → get_or s 0 0 ≡ code "\n" → unescape 0 (b ∷ s) ≡ unescape 0 s
unfolding unescape
unescape-joined b s e f = rw (ne_eqb b (code "&") (return-amp b e), eq-eqb b (code "\r") e, eq-eqb (get_or s 0 0) (code "\n") f, unescape)

pub unescape-turned : (b : ℕ) (s : Bytes) → b ≡ code "\r" → (get_or s 0 0 ≡ code "\n" → ⊥) → unescape 0 (b ∷ s) ≡ code "\n" ∷ unescape 0 s
unfolding unescape
unescape-turned b s e f = rw (ne_eqb b (code "&") (return-amp b e), eq-eqb b (code "\r") e, ne_eqb (get_or s 0 0) (code "\n") f, unescape)

pub characters-mean : {s t : Bytes} → Characters s t → unescape 0 s ≡ t
unfolding unescape
characters-mean none = refl
characters-mean (kept {b = b} {s = s} e n c) = unescape-plain b s (character-not b (code "&") amp-markup e) n ∙ ap (b ∷◌) (characters-mean c)
characters-mean (joined {b = b} {s = s} e f c) = unescape-joined b s e f ∙ characters-mean c
characters-mean (turned {b = b} {s = s} e f c) = unescape-turned b s e f ∙ ap (code "\n" ∷◌) (characters-mean c)
characters-mean (entity {c = c} {s = s} e d) = unescape-entity s e ∙ ap (c ∷◌) (characters-mean d)
