-- Words at the start of a text: `common`, entities, and what a byte of a run tells.
use Rattle.std.specs.Prelude.{ℕ, suc, ◌+◌, ◌<◌, ◌≡◌, refl, Bool, true, false, ◌&&◌, ◌∷◌, ◌++◌, eqb, leb, length, drop, Result, Ok, Err, Option, Some, None}
use Prim.Native.Char.{code}
use Rattle.std.proofs.Common.{arith, ap, sym, ◌∙◌, subst, eq-eqb, eqb-true, leb-false}
use Rattle.std.proofs.lemmas.Bool.{eqb-false}
use Rattle.xml.specs.Bytes.{Bytes, bytes, is_legal, is_character}
use Rattle.xml.specs.Grammar.{Entity, lt, gt, amp, quot, apos}
use Rattle.xml.specs.Read.{common, try, entity_at, text_byte}
use Rattle.xml.specs.Truth.{by-test, clash, both, ok-inj}
use Rattle.xml.specs.GrammarLaws.{legal-character}
use Rattle.xml.specs.ScanLaws.{try-hit, try-miss, begins, further-hit}

-- ---- entities
pub record Signed (k c : ℕ) (s : Bytes) : Type 0 where
  pub sign : Bytes
  pub entity : Entity sign c
  pub is : code "&" ∷ s ≡ sign ++ drop k s
  pub long : length sign ≡ suc k

signed_by : (w : Bytes) (b : ℕ) (s : Bytes) (o : Result (ℕ × ℕ) ℕ) (k c : ℕ) → Entity (code "&" ∷ w) b → (o ≡ Ok (k, c) → Signed k c s) → try w b s o ≡ Ok (k, c) → Signed k c s
signed_by w b s o k c i f e = by-test (eqb (common w s) (length w)) hit miss
  where
    hit : eqb (common w s) (length w) ≡ true → Signed k c s
    hit q =
        let g = eqb-true (common w s) (length w) q in
        let h : ◌≡◌ {A = Result (ℕ × ℕ) ℕ} (Ok (length w, b)) (Ok (k, c)) = sym (try-hit w b s o g) ∙ e in
        let l : length w ≡ k = ap (λ x. x.0) (ok-inj h) in
        let m : b ≡ c = ap (λ x. x.1) (ok-inj h) in
        record {
          sign = code "&" ∷ w;
          entity = subst (λ (x : ℕ). Entity (code "&" ∷ w) x) m i;
          is = ap (λ (x : Bytes). code "&" ∷ x) (begins w s g ∙ ap (λ (x : ℕ). w ++ drop x s) l);
          long = ap suc l;
        }

    miss : eqb (common w s) (length w) ≡ false → Signed k c s
    miss q = f (further-hit (common w s) o k c (sym (try-miss w b s o (eqb-false (common w s) (length w) q)) ∙ e))

pub signed : (s : Bytes) (k c : ℕ) → entity_at s ≡ Ok (k, c) → Signed k c s
unfolding bytes entity_at
signed s k c e =
    signed_by (bytes "lt;") (code "<") s _ k c lt
    (signed_by (bytes "gt;") (code ">") s _ k c gt
    (signed_by (bytes "amp;") (code "&") s _ k c amp
    (signed_by (bytes "quot;") (code "\"") s _ k c quot
    (signed_by (bytes "apos;") (code "'") s _ k c apos (λ z. let y : ◌≡◌ {A = ℕ} 0 1 = cc in absurd (omega arith)))))) e

-- ---- a byte of a run
pub data Byte (q b : ℕ) (s : Bytes) : Result (Option (ℕ × ℕ)) ℕ → Type 0 where
  over : b ≡ code "<" → Byte q b s (Ok None)
  hit : {k c : ℕ} → b ≡ code "&" → entity_at s ≡ Ok (k, c) → Byte q b s (Ok (Some (k, 0)))
  bracket : b ≡ code "]" → Byte q b s (Ok (Some (0, q + 1)))
  character : is_character b ≡ true → (b ≡ code "]" → ⊥) → (b ≡ code ">" → q < 2) → Byte q b s (Ok (Some (0, 0)))
  off : {k : ℕ} → Byte q b s (Err k)

pub byte : (q b : ℕ) (s : Bytes) → Byte q b s (text_byte q b s)
unfolding text_byte
byte q b s =
    at (eqb b (code "<")) refl (eqb b (code "&")) refl (eqb b (code "]")) refl (eqb b (code ">") && leb 2 q) refl (is_legal b) refl (entity_at s) refl
  where
    at : (x : Bool) → eqb b (code "<") ≡ x → (y : Bool) → eqb b (code "&") ≡ y → (z : Bool) → eqb b (code "]") ≡ z →
        (w : Bool) → eqb b (code ">") && leb 2 q ≡ w → (l : Bool) → is_legal b ≡ l → (o : Result (ℕ × ℕ) ℕ) → entity_at s ≡ o →
        Byte q b s
        (elim x [
          | true ↦ Ok None
          | false ↦
              elim y [
                | true ↦ elim o [ Ok (k, c) ↦ Ok (Some (k, 0)) | Err k ↦ Err (1 + k) ]
                | false ↦ elim z [ true ↦ Ok (Some (0, q + 1)) | false ↦ elim w [ true ↦ Err 0 | false ↦ elim l [ true ↦ Ok (Some (0, 0)) | false ↦ Err 0 ] ] ]
              ]
        ])
    at true e y f z g w h l i o j = over (eqb-true b (code "<") e)
    at false e true f z g w h l i (Ok (k, c)) j = hit (eqb-true b (code "&") f) j
    at false e true f z g w h l i (Err k) j = off
    at false e false f true g w h l i o j = bracket (eqb-true b (code "]") g)
    at false e false f false g true h l i o j = off
    at false e false f false g false h true i o j =
        character (legal-character b (eqb-false b (code "<") e) (eqb-false b (code "&") f) i) (eqb-false b (code "]") g)
        (λ x. by-test (leb 2 q) (λ y. clash (sym (both (eq-eqb b (code ">") x) y) ∙ h)) (λ y. leb-false 2 q y))
    at false e false f false g false h false i o j = off
