-- The parts of a line, as the scanner meets them: its context and its key names.
use Rattle.std.specs.Prelude.{None, Option, Some}
use Prim.Native.Nat.{ℕ, ◌+◌, ◌≤◌}
use native.Mathlib.Omega.{arith}
use mathlib.Core.Path.{◌≡◌, refl, sym, ◌∙◌, ap, subst}
use mathlib.Core.Bool.{true, false}
use mathlib.Core.List.{List, [], ◌∷◌, ◌++◌, append_assoc}
use lib.Dec.{eqb}
use lib.ListN.{length, drop, get_or}
use lib.Seq.{drop-drop}
use borrow.Author.Tests.{eq-eqb, ne_eqb}
use Rattle.model.specs.Masks.{clash}
use Rattle.xml.specs.Bytes.{Bytes, bytes, all, is_name, join_by, bytes_compute}
use Rattle.xml.specs.Read.{common}
use Rattle.xml.specs.ScanLaws.{common-self, begins}
use Rattle.xml.specs.Names.{name-first}
use Rattle.xml.specs.Truth.{and_left}
use Rattle.keys.specs.KeyList.{Path, write_path, write_context, is_root_context}
use Rattle.keys.specs.LineScans.{path_run, names_end}
use Rattle.keys.proofs.LineScanLaws.{past_one, past_fits, run-path, PathAt, path-at}
use Rattle.keys.proofs.NamesEndLaws.{NamesAt, names-found, names-real}
use Rattle.keys.specs.ResultLaws.{none-not, some-is}
use Rattle.keys.specs.LineRead.{ContextIs, ContextRead, KeysAre, KeysRead}

-- a word that stands at a place
pub word-there : (w text : Bytes) (i : ℕ) → common w (drop i text) ≡ length w → drop i text ≡ w ++ drop (i + length w) text
word-there w text i e = begins w (drop i text) e ∙ ap (λ (z : Bytes). w ++ z) (drop-drop (length w) i text)

pub word_fits : (w text : Bytes) (i : ℕ) → i ≤ length text → common w (drop i text) ≡ length w → i + length w ≤ length text
word_fits w text i h e = past_fits i text w (drop (i + length w) text) h (word-there w text i e)

pub there-word : (w text s : Bytes) (i : ℕ) → drop i text ≡ w ++ s → common w (drop i text) ≡ length w
there-word w text s i e = ap (common w) e ∙ common-self w s

-- ---- contexts
root-only : (p : Path) → is_root_context p ≡ true → p ≡ []
unfolding is_root_context
root-only [] e = refl
root-only (n ∷ p) e = absurd (clash e refl)

pub not_root : (p : Path) → is_root_context p ≡ false → write_context p ≡ write_path p
unfolding is_root_context write_context
not_root [] e = absurd (clash refl e)
not_root (n ∷ p) e = refl

filled : (p : Path) → is_root_context p ≡ false → length (write_context p) ≡ 0 → ⊥
unfolding is_root_context write_context write_path bytes
filled [] c e = clash refl c
filled (n ∷ p) c e = omega arith

rooted : (p : Path) → (length (write_path p) ≡ 0 → ⊥) → is_root_context p ≡ false
unfolding is_root_context write_path
rooted [] f = absurd (f refl)
rooted (n ∷ p) f = refl

-- the first line's
module _ (text : Bytes) (at : ℕ) (first : at ≡ 0) where
  pub first-context : common (40 ∷ 47 ∷ []) (drop at text) ≡ 2 → at ≤ length text → ContextRead text at (Some (at + 2))
  unfolding write_context bytes is_root_context all
  first-context e h =
      record {
        found = λ p s n r q. let z : at + 2 ≡ at + 1 + 1 = omega arith in ap Some z ∙ ap (λ (z : Path). Some (at + 1 + length (write_context z))) (sym (root-only p (r ∙ eq-eqb at 0 first)));
        real = λ e' q. subst (λ (z : ℕ). ContextIs text at z) (some-is q)
            (record {
              path = [];
              named = refl;
              root = sym (eq-eqb at 0 first);
              is = word-there (40 ∷ 47 ∷ []) text at e;
              ends = omega arith;
              within = word_fits (40 ∷ 47 ∷ []) text at h e;
            });
      }

  pub no-first-context : (common (40 ∷ 47 ∷ []) (drop at text) ≡ 2 → ⊥) → ContextRead text at None
  unfolding write_context bytes
  no-first-context f =
      record {
        found = λ p s n r q. absurd (f (there-word (40 ∷ 47 ∷ []) text (44 ∷ s) at (q ∙ ap (λ (z : Path). 40 ∷ (write_context z ++ 44 ∷ s)) (root-only p (r ∙ eq-eqb at 0 first)))));
        real = λ e q. none-not q;
      }

-- the others'
module _ (text : Bytes) (at : ℕ) (later : at ≡ 0 → ⊥) where
  pub no-bracket : (common (40 ∷ []) (drop at text) ≡ 1 → ⊥) → ContextRead text at None
  no-bracket f = record { found = λ p s n r q. absurd (f (there-word (40 ∷ []) text (write_context p ++ 44 ∷ s) at q)); real = λ e q. none-not q }

  module _ (r : ℕ) (q : r ≡ at + 1 + path_run 0 (drop (at + 1) text)) where
    -- a context that stands there is counted whole
    counted : (p : Path) (s : Bytes) → all is_name p ≡ true → is_root_context p ≡ eqb at 0 → drop at text ≡ 40 ∷ (write_context p ++ 44 ∷ s) → r ≡ at + 1 + length (write_context p)
    unfolding bytes_compute
    counted p s n c e =
        let w = not_root p (c ∙ ne_eqb at 0 later) in
        let d : drop (at + 1) text ≡ write_path p ++ 44 ∷ s = past_one at 40 text (write_context p ++ 44 ∷ s) e ∙ ap (λ (z : Bytes). z ++ 44 ∷ s) w in
        let l = ap (path_run 0) d ∙ run-path p 44 s n refl (λ z. omega arith) in
        omega (arith, ap length w)

    pub no-path : r ≡ at + 1 → ContextRead text at None
    no-path z = record { found = λ p s n c e. absurd (some p (c ∙ ne_eqb at 0 later) (counted p s n c e)); real = λ e q. none-not q }
      where
        some : (p : Path) → is_root_context p ≡ false → r ≡ at + 1 + length (write_context p) → ⊥
        some p c e = filled p c (omega arith)

    pub later-context : common (40 ∷ []) (drop at text) ≡ 1 → at ≤ length text → (r ≡ at + 1 → ⊥) → ContextRead text at (Some r)
    later-context e h f = record { found = λ p s n c g. ap Some (counted p s n c g); real = λ e' g. subst (λ (z : ℕ). ContextIs text at z) (some-is g) there }
      where
        a : PathAt (drop (at + 1) text)
        a = path-at (drop (at + 1) text)

        far : is_root_context a.path ≡ false
        far = rooted a.path (λ z. f (q ∙ omega (arith, a.long, z)))

        tail : drop (at + 1) text ≡ write_context a.path ++ drop r text
        tail = a.is ∙ ap (λ (z : Bytes). write_path a.path ++ z) (drop-drop (path_run 0 (drop (at + 1) text)) (at + 1) text ∙ ap (λ (z : ℕ). drop z text) (sym q)) ∙ ap (λ (z : Bytes). z ++ drop r text) (sym (not_root a.path far))

        long : r ≡ at + 1 + length (write_context a.path)
        long = omega (arith, q, a.long, ap length (not_root a.path far))

        there : ContextIs text at r
        there =
            record {
              path = a.path;
              named = a.named;
              root = far ∙ sym (ne_eqb at 0 later);
              is = word-there (40 ∷ []) text at e ∙ ap (λ (z : Bytes). 40 ∷ z) tail;
              ends = long;
              within = omega (arith, long, past_fits (at + 1) text (write_context a.path) (drop r text) (word_fits (40 ∷ []) text at h e) tail);
            }

-- ---- key names
join_first : (n : Bytes) (ns : List Bytes) (t : Bytes) → (u : Bytes) × (join_by (bytes ", ") (n ∷ ns) ++ t ≡ n ++ u)
unfolding join_by
join_first n [] t = (t, refl)
join_first n (m ∷ ns) t = (bytes ", " ++ (join_by (bytes ", ") (m ∷ ns) ++ t), append_assoc (n ++ bytes ", ") (join_by (bytes ", ") (m ∷ ns)) t ∙ append_assoc n (bytes ", ") (join_by (bytes ", ") (m ∷ ns) ++ t))

no-brace : (n : Bytes) (ns : List Bytes) (t u : Bytes) → all is_name (n ∷ ns) ≡ true → join_by (bytes ", ") (n ∷ ns) ++ t ≡ 125 ∷ u → ⊥
unfolding all bytes_compute
no-brace n ns t u a e =
    let q = join_first n ns t in
    name-first n q.0 125 (and_left (is_name n) (all is_name ns) a) refl (ap (λ (z : Bytes). get_or z 0 0) (sym q.1 ∙ e))

module _ (text : Bytes) (from : ℕ) where
  pub no_keys : from + 2 ≤ length text → common (125 ∷ []) (drop (from + 2) text) ≡ 1 → KeysRead text from (Some (from + 2))
  unfolding join_by all
  no_keys h e = record { found = none; real = λ e' q. subst (λ (z : ℕ). KeysAre text from z) (some-is q) (record { names = []; named = refl; few = omega arith; is = refl; ends = omega arith; within = h }) }
    where
      none : (ks : List Bytes) (s : Bytes) → all is_name ks ≡ true → length ks ≤ 4 → drop (from + 2) text ≡ join_by (bytes ", ") ks ++ 125 ∷ s
          → Some (from + 2) ≡ Some (from + 2 + length (join_by (bytes ", ") ks))
      none [] s a l q = let z : from + 2 ≡ from + 2 + 0 = omega arith in ap Some z
      none (n ∷ ns) s a l q = absurd (no-brace n ns (125 ∷ s) (drop (from + 2 + 1) text) a (sym q ∙ word-there (125 ∷ []) text (from + 2) e))

  pub some-keys : {r : Option ℕ} → from + 2 ≤ length text → (common (125 ∷ []) (drop (from + 2) text) ≡ 1 → ⊥) → r ≡ names_end text 4 from → KeysRead text from r
  unfolding join_by
  some-keys {r} h f q = record { found = some; real = λ e g. there e (names-real text 4 from e h (sym q ∙ g)) }
    where
      some : (ks : List Bytes) (s : Bytes) → all is_name ks ≡ true → length ks ≤ 4 → drop (from + 2) text ≡ join_by (bytes ", ") ks ++ 125 ∷ s → r ≡ Some (from + 2 + length (join_by (bytes ", ") ks))
      some [] s a l g = absurd (f (there-word (125 ∷ []) text s (from + 2) g))
      some (n ∷ ns) s a l g = q ∙ names-found text 4 from n ns s a l g

      there : (e : ℕ) → NamesAt text 4 from e → KeysAre text from e
      there e a = record { names = a.first ∷ a.others; named = a.named; few = a.few; is = a.is; ends = a.ends; within = a.within }
