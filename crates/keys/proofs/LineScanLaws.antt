-- The scanners of a line find every path and every list of key names that stands there, and what they find is one.
use Prim.Native.Nat.{ℕ, zero, suc, ◌+◌, ◌≤◌}
use native.Mathlib.Nat.{le_of_suc-le-suc, not-suc-le-zero}
use native.Mathlib.Omega.{arith}
use mathlib.Core.Path.{◌≡◌, refl, sym, ◌∙◌, ap}
use mathlib.Core.Bool.{Bool, true, false, not, ◌&&◌}
use mathlib.Core.List.{[], ◌∷◌, ◌++◌, append_assoc}
use lib.Dec.{eqb}
use lib.ListN.{length, drop, take, length-append, length-drop, take-append-drop}
use lib.Seq.{drop-drop, drop-append_seam, length-take-le}
use borrow.Author.Tests.{eqb-true, eq-eqb, ne_eqb, eqb-false}
use Rattle.xml.specs.Bytes.{Bytes, bytes, all, is_name, is_name_byte, bytes_compute}
use Rattle.xml.specs.Read.{common, name_len}
use Rattle.xml.specs.ScanLaws.{name_len-fits, common-self, begins}
use Rattle.xml.specs.Names.{name-all, name-taken, name-some}
use Rattle.xml.specs.Truth.{by-test, and_left, and_right, both}
use Rattle.keys.specs.KeyList.{Path, write_path}
use Rattle.keys.specs.LineScans.{path_run, Begun}

-- ---- a path
run-skip : (k : ℕ) (s : Bytes) → k ≤ length s → path_run k s ≡ k + path_run 0 (drop k s)
unfolding path_run
run-skip zero s h = omega arith
run-skip (suc k) [] h = absurd (not-suc-le-zero h)
run-skip (suc k) (b ∷ s) h = let z = run-skip k s (le_of_suc-le-suc h) in omega arith

run_step : (b : ℕ) (s : Bytes) → b ≡ 47 → (name_len s ≡ 0 → ⊥) → path_run 0 (b ∷ s) ≡ suc (name_len s + path_run 0 (drop (name_len s) s))
unfolding path_run
run_step b s e f = rw (both (eq-eqb b 47 e) (ap not (ne_eqb (name_len s) 0 f)), path_run) (ap suc (run-skip (name_len s) s (name_len-fits s)))

run_none : (b : ℕ) (s : Bytes) → (b ≡ 47 → name_len s ≡ 0) → path_run 0 (b ∷ s) ≡ 0
unfolding path_run
run_none b s f = by-test (eqb b 47) (λ e. rw (eq-eqb (name_len s) 0 (f (eqb-true b 47 e)), path_run) (go (eqb b 47))) (λ e. rw (e, path_run))
  where
    go : (t : Bool) → ◌≡◌ {A = ℕ} (elim (t && false) as (λ _. ℕ) [ true ↦ suc (path_run (name_len s) s) | false ↦ 0 ]) 0
    go true = refl
    go false = refl

run-nil : path_run 0 [] ≡ 0
unfolding path_run
run-nil = refl

-- what comes after a part
pub past : (i : ℕ) (text w s : Bytes) → drop i text ≡ w ++ s → drop (i + length w) text ≡ s
past i text w s e = sym (drop-drop (length w) i text) ∙ ap (drop (length w)) e ∙ drop-append_seam w s

pub past_one : (i b : ℕ) (text s : Bytes) → drop i text ≡ b ∷ s → drop (i + 1) text ≡ s
past_one i b text s e = past i text (b ∷ []) s e

-- the text from a place has that many bytes
pub past_fits : (i : ℕ) (text w s : Bytes) → i ≤ length text → drop i text ≡ w ++ s → i + length w ≤ length text
past_fits i text w s h e = omega (arith, sym (length-drop i text) ∙ ap length e ∙ length-append w s)

slash-at : (i : ℕ) (text : Bytes) → common (47 ∷ []) (drop i text) ≡ 1 → drop i text ≡ 47 ∷ drop (i + 1) text
slash-at i text e = begins (47 ∷ []) (drop i text) e ∙ ap (λ (z : Bytes). 47 ∷ z) (drop-drop 1 i text)

module _ (text : Bytes) (i : ℕ) where
  pub slash-fits : i ≤ length text → common (47 ∷ []) (drop i text) ≡ 1 → i + 1 ≤ length text
  slash-fits h e = past_fits i text (47 ∷ []) (drop (i + 1) text) h (slash-at i text e)

  pub name-fits : {n : ℕ} → n ≡ name_len (drop (i + 1) text) → i + 1 ≤ length text → i + 1 + n ≤ length text
  name-fits q h = omega (arith, name_len-fits (drop (i + 1) text), length-drop (i + 1) text)

  pub path-turn : {n : ℕ} → common (47 ∷ []) (drop i text) ≡ 1 → n ≡ name_len (drop (i + 1) text) → (n ≡ 0 → ⊥) → i + path_run 0 (drop i text) ≡ i + (1 + n) + path_run 0 (drop (i + (1 + n)) text)
  path-turn {n} e q f =
      let s = drop (i + 1) text in
      let y : i + 1 + n ≡ i + (1 + n) = omega arith in
      let x : drop (name_len s) s ≡ drop (i + (1 + n)) text = ap (λ (m : ℕ). drop m s) (sym q) ∙ drop-drop n (i + 1) text ∙ ap (λ (m : ℕ). drop m text) y in
      let z = ap (path_run 0) (slash-at i text e) ∙ run_step 47 s refl (λ g. f (q ∙ g)) in
      let w = ap (path_run 0) x in
      omega arith

  pub path-stop : common (47 ∷ []) (drop i text) ≡ 1 → 0 ≡ name_len (drop (i + 1) text) → path_run 0 (drop i text) ≡ 0
  path-stop e q = ap (path_run 0) (slash-at i text e) ∙ run_none 47 (drop (i + 1) text) (λ _. sym q)

  pub path-off : (common (47 ∷ []) (drop i text) ≡ 1 → ⊥) → path_run 0 (drop i text) ≡ 0
  path-off f = go (drop i text) f
    where
      go : (s : Bytes) → (common (47 ∷ []) s ≡ 1 → ⊥) → path_run 0 s ≡ 0
      go [] g = run-nil
      go (b ∷ s) g = run_none b s (λ e. absurd (g (ap (λ (x : ℕ). common (47 ∷ []) (x ∷ s)) e ∙ common-self (47 ∷ []) s)))

-- every path that stands there, up to a byte that can't go on
pub path-head : (p : Path) (c : ℕ) (t : Bytes) → is_name_byte c ≡ false → (x : ℕ) × (u : Bytes) × (write_path p ++ c ∷ t ≡ x ∷ u) × (is_name_byte x ≡ false)
unfolding write_path bytes_compute
path-head [] c t h = (c, t, refl, h)
path-head (n ∷ p) c t h = (47, (n ++ write_path p) ++ c ∷ t, refl, refl)

-- a path that stands there is counted whole, and then what goes on after it
pub run-through : (p : Path) (c : ℕ) (t : Bytes) → all is_name p ≡ true → is_name_byte c ≡ false → path_run 0 (write_path p ++ c ∷ t) ≡ length (write_path p) + path_run 0 (c ∷ t)
unfolding write_path all bytes
run-through [] c t a h = omega arith
run-through (n ∷ p) c t a h =
    let s = write_path p ++ c ∷ t in
    let q = path-head p c t h in
    let nm = and_left (is_name n) (all is_name p) a in
    let l : name_len (n ++ s) ≡ length n = ap (λ (z : Bytes). name_len (n ++ z)) q.2 ∙ name-all n q.0 q.1 nm q.3 in
    let d : drop (name_len (n ++ s)) (n ++ s) ≡ s = ap (λ (m : ℕ). drop m (n ++ s)) l ∙ drop-append_seam n s in
    let r = run_step 47 (n ++ s) refl (λ g. name-some n nm (sym l ∙ g)) in
    let e : (n ++ write_path p) ++ c ∷ t ≡ n ++ s = append_assoc n (write_path p) (c ∷ t) in
    let i = ap (path_run 0) d ∙ run-through p c t (and_right (is_name n) (all is_name p) a) h in
    let w = ap (λ (z : Bytes). path_run 0 (47 ∷ z)) e in
    omega (arith, length-append n (write_path p))

pub run-path : (p : Path) (c : ℕ) (t : Bytes) → all is_name p ≡ true → is_name_byte c ≡ false → (c ≡ 47 → ⊥) → path_run 0 (write_path p ++ c ∷ t) ≡ length (write_path p)
run-path p c t a h f = omega (arith, run-through p c t a h, run_none c t (λ e. absurd (f e)))

-- where no name is known
pub begun-none : (text : Bytes) (at : ℕ) → Begun text at (at + 1)
begun-none text at = record { within = λ h. h; run = refl }

-- what is counted is a path
pub record PathAt (s : Bytes) : Type 0 where
  pub path : Path
  pub named : all is_name path ≡ true
  pub is : s ≡ write_path path ++ drop (path_run 0 s) s
  pub long : path_run 0 s ≡ length (write_path path)

none-at : (s : Bytes) → path_run 0 s ≡ 0 → PathAt s
unfolding write_path all
none-at s e = record { path = []; named = refl; is = ap (λ (m : ℕ). drop m s) (sym e); long = e }

more-at : (b : ℕ) (s : Bytes) → b ≡ 47 → (name_len s ≡ 0 → ⊥) → PathAt (drop (name_len s) s) → PathAt (b ∷ s)
unfolding write_path all bytes
more-at b s e f q =
    let n = name_len s in
    let nm = take n s in
    let r = run_step b s e f in
    let rest = drop (path_run 0 (drop n s)) (drop n s) in
    let z : drop (path_run 0 (b ∷ s)) (b ∷ s) ≡ rest = ap (λ (m : ℕ). drop m (b ∷ s)) r ∙ sym (drop-drop (path_run 0 (drop n s)) n s) in
    let x : s ≡ nm ++ (write_path q.path ++ rest) = sym (take-append-drop n s) ∙ ap (λ (y : Bytes). nm ++ y) q.is in
    record {
      path = nm ∷ q.path;
      named = both (name-taken s f) q.named;
      is = ap (λ (m : ℕ). m ∷ s) e ∙ ap (λ (y : Bytes). 47 ∷ y) (x ∙ sym (append_assoc nm (write_path q.path) rest)) ∙ ap (λ (y : Bytes). (47 ∷ (nm ++ write_path q.path)) ++ y) (sym z);
      long = r ∙ ap suc (ap (λ (m : ℕ). n + m) q.long ∙ ap (λ (m : ℕ). m + length (write_path q.path)) (sym (length-take-le n s (name_len-fits s))) ∙ sym (length-append nm (write_path q.path)));
    }

path-from : (k : ℕ) (s : Bytes) → k ≤ length s → PathAt (drop k s)
path-from zero [] h = none-at [] run-nil
path-from (suc k) [] h = absurd (not-suc-le-zero h)
path-from (suc k) (b ∷ s) h = path-from k s (le_of_suc-le-suc h)
path-from zero (b ∷ s) h = go (eqb b 47) refl (eqb (name_len s) 0) refl (path-from (name_len s) s (name_len-fits s))
  where
    go : (t : Bool) → eqb b 47 ≡ t → (u : Bool) → eqb (name_len s) 0 ≡ u → PathAt (drop (name_len s) s) → PathAt (b ∷ s)
    go true e false f q = more-at b s (eqb-true b 47 e) (eqb-false (name_len s) 0 f) q
    go true e true f q = none-at (b ∷ s) (run_none b s (λ _. eqb-true (name_len s) 0 f))
    go false e u f q = none-at (b ∷ s) (run_none b s (λ g. absurd (eqb-false b 47 e g)))

pub path-at : (s : Bytes) → PathAt s
path-at s = path-from 0 s (omega arith)
