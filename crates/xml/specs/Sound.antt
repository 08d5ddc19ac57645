-- Soundness of reading: a text that is read spells the forest that it is read as.
use Prim.Native.Nat.{ℕ, zero, suc, ◌+◌, ◌-◌, ◌≤◌, ◌<◌}
use Prim.Native.Char.{code}
use Rattle.std.proofs.Common.{not-suc-le-zero, le_of_suc-le-suc, sym, ◌∙◌, subst, drop-cons}
use native.Mathlib.Omega.{arith}
use Rattle.std.specs.Prelude.{◌≡◌, Bool, true, false, ◌&&◌, Result, Ok, Err}
use Rattle.std.proofs.Math.Path.{refl, ap}
use mathlib.Core.List.{[], ◌∷◌, ◌++◌, append_assoc, append-nil}
use borrow.Author.Tests.{eqb-true, eqb-false}
use Rattle.std.proofs.Math.Dec.{eqb}
use Rattle.std.proofs.Math.ListN.{length, take, drop, get_or, length-append}
use Rattle.std.proofs.Math.Seq.{take-append_seam, drop-append_seam}
use Rattle.xml.specs.Bytes.{Bytes, bytes, all, is_empty, is_white}
use Rattle.xml.specs.Forest.{Forest, end, text, join}
use Rattle.xml.specs.Grammar.{Characters, nothing, run, Spells}
use Rattle.xml.specs.Read.{common, scan, unescape, Tag, tag_name, tag_node, Stack, outer, inside, Move, move, wrong, whole, broken, is_end, end_of, end_tag, characters, step, finish, go, read}
use Rattle.xml.specs.Truth.{both_true, both}
use Rattle.xml.specs.GrammarLaws.{characters-mean}
use Rattle.xml.specs.Clear.{Clear}
use Rattle.xml.specs.ScanLaws.{begins}
use Rattle.xml.specs.Runs.{Ends, scan-sound}
use Rattle.xml.specs.StepLaws.{in-range}
use Rattle.xml.specs.Opened.{ends_text, closing, Opened, blank, Free, opened-more, opened-end, opened-white, opened-finish, free-node, node-root}
use Rattle.xml.specs.StepSound.{Stepped, SteppedTo, pick, cut, start-sound}

-- ---- in an element
module _ (a : Bool) (o : Tag) (g : Forest) (st : Stack) (f : Forest) (p : Bytes) (opened : Opened a (inside o g st) p f) where
  -- an end tag
  end-good : (v : Bytes) (m : ℕ) → m ≡ common (tag_name o) v → m ≡ length (tag_name o) → get_or v m 0 ≡ code ">" →
      Stepped a p (code "<" ∷ code "/" ∷ v) (code "/" ∷ v) st (join g (tag_node o f)) (2 + m)
  unfolding bytes
  end-good v m c l e =
      let n = tag_name o in
      let h : m < length v = in-range v m 61 e in
      let i : v ≡ n ++ drop m v = begins n v (sym c ∙ l) ∙ ap (λ (x : ℕ). n ++ drop x v) (sym l) in
      let j : v ≡ n ++ code ">" ∷ drop (suc m) v = i ∙ ap (n ++◌) (drop-cons v m 0 h ∙ ap (λ (x : ℕ). x ∷ drop (suc m) v) e) in
      let k : suc (suc m) ≡ 2 + m = omega arith in
      record {
        fits = omega arith;
        now = p ++ closing o;
        is = cut p (closing o) (code "<" ∷ code "/" ∷ v) (drop (suc m) v) (drop (2 + m) (code "/" ∷ v))
            (ap (λ (x : Bytes). code "<" ∷ code "/" ∷ x) j ∙ simp append_assoc) (ap (λ (x : ℕ). drop x (code "/" ∷ v)) k);
        opened = opened-end opened;
        free = free-node st g (tag_node o f) (drop (2 + m) (code "/" ∷ v)) (node-root o f);
      }

  end-sound : (v : Bytes) → SteppedTo a p (code "<" ∷ code "/" ∷ v) (code "/" ∷ v) (end_tag o g st f v)
  unfolding end_of
  end-sound v =
      let m = common (tag_name o) v in
      pick (SteppedTo a p (code "<" ∷ code "/" ∷ v) (code "/" ∷ v)) (eqb m (length (tag_name o)) && eqb (get_or v m 0) (code ">")) _ _ (λ x.
      let h = both_true (eqb m (length (tag_name o))) (eqb (get_or v m 0) (code ">")) x in
      end-good v m refl (eqb-true m (length (tag_name o)) h.0) (eqb-true (get_or v m 0) (code ">") h.1))
      (λ x. tt)

  -- a run of text
  run-good : (b : ℕ) (s raw rest t : Bytes) (k : ℕ) → (b ≡ code "<" → ⊥) → (ends_text f ≡ true → ⊥) → b ∷ s ≡ raw ++ rest → k ≡ length raw → Characters raw t →
      Clear 0 raw → Ends rest → Stepped a p (b ∷ s) s (inside o g st) (join f (text (unescape 0 (take k (b ∷ s))) end)) (k - 1)
  unfolding is_empty
  run-good b s [] rest t k n d e l c w i = absurd (n (subst Ends (sym e) i))
  run-good b s (x ∷ raw) rest t k n d e l c w i =
      let y : s ≡ raw ++ rest = cc in
      let u : unescape 0 (take k (b ∷ s)) ≡ t =
      ap (unescape 0) (ap (take k) e ∙ ap (λ (z : ℕ). take z ((x ∷ raw) ++ rest)) l ∙ take-append_seam (x ∷ raw) rest) ∙ characters-mean c
      in
      let m : k - 1 ≡ length raw = omega arith in
      let r : drop (k - 1) s ≡ rest = ap (λ (z : ℕ). drop z s) m ∙ ap (drop (length raw)) y ∙ drop-append_seam raw rest in
      record {
        fits = omega (arith, ap length y, length-append raw rest);
        now = p ++ ((x ∷ raw) ++ []);
        is = cut p ((x ∷ raw) ++ []) (b ∷ s) rest (drop (k - 1) s) (e ∙ simp append_assoc) (sym r);
        opened = rw u (opened-more opened (run c refl w.no tt nothing) (λ z. absurd (d z)));
        free = λ z. rw r i;
      }

  chars-sound : (b : ℕ) (s : Bytes) → (b ≡ code "<" → ⊥) → (ends_text f ≡ true → ⊥) → SteppedTo a p (b ∷ s) s (characters (inside o g st) f (b ∷ s))
  unfolding characters
  chars-sound b s n d = at (scan 0 0 0 (b ∷ s)) refl
    where
      at : (r : Result ℕ ℕ) → scan 0 0 0 (b ∷ s) ≡ r →
          SteppedTo a p (b ∷ s) s (elim r [ Ok k ↦ move (inside o g st) (join f (text (unescape 0 (take k (b ∷ s))) end)) (k - 1) | Err k ↦ wrong k ])
      at (Ok k) e =
          let r = scan-sound (b ∷ s) 0 0 0 k (omega arith) e in
          let l = r.long in
          run-good b s r.raw r.rest r.meaning k n d r.is (omega arith) r.means r.clear r.ends
      at (Err k) e = tt

  in-sound : (b : ℕ) (s : Bytes) → Free (inside o g st) f (b ∷ s) → SteppedTo a p (b ∷ s) s (step a (inside o g st) f (b ∷ s))
  unfolding step
  in-sound b s free =
      pick (SteppedTo a p (b ∷ s) s) (eqb b (code "<")) _ _
      (λ x. rw (eqb-true b (code "<") x)
      (pick (SteppedTo a p (code "<" ∷ s) s) (eqb (get_or s 0 0) (code "/")) _ _ (λ y. slash s (eqb-true (get_or s 0 0) (code "/") y))
      (λ y. start-sound a (inside o g st) f p s opened tt)))
      (λ x. chars-sound b s (eqb-false b (code "<") x) (λ y. eqb-false b (code "<") x (free y)))
    where
      slash : (s : Bytes) → get_or s 0 0 ≡ code "/" → SteppedTo a p (code "<" ∷ s) s (end_tag o g st f (drop 1 s))
      slash [] e = absurd (eqb-false 0 (code "/") refl e)
      slash (c ∷ v) e = rw e (end-sound v)

-- ---- outside the root
out-sound : (a : Bool) (f : Forest) (p : Bytes) (b : ℕ) (s : Bytes) → Opened a outer p f → SteppedTo a p (b ∷ s) s (step a outer f (b ∷ s))
unfolding step all
out-sound a f p b s o =
    pick (SteppedTo a p (b ∷ s) s) (is_white b) _ _
    (λ x. record {
      fits = omega arith;
      now = p ++ (b ∷ []);
      is = cut p (b ∷ []) (b ∷ s) s s refl refl;
      opened = opened-white (b ∷ []) o (both x refl);
      free = tt;
    })
    (λ x. pick (SteppedTo a p (b ∷ s) s) (eqb b (code "<") && is_end f) _ _ (λ y.
    let h = both_true (eqb b (code "<")) (is_end f) y in
    rw (eqb-true b (code "<") h.0) (start-sound a outer f p s o h.1))
    (λ y. tt))

step-sound : (a : Bool) (st : Stack) (f : Forest) (p : Bytes) (b : ℕ) (s : Bytes) → Opened a st p f → Free st f (b ∷ s) → SteppedTo a p (b ∷ s) s (step a st f (b ∷ s))
step-sound a outer f p b s o free = out-sound a f p b s o
step-sound a (inside t g st) f p b s o free = in-sound a t g st f p o b s free

-- ---- the whole text
never : {A : Type 0} (n : ℕ) (h : Forest) → broken n ≡ whole h → A
never n h e = let z : ◌≡◌ {A = ℕ} 0 1 = cc in absurd (omega arith)

finish-sound : (a : Bool) (st : Stack) (f : Forest) (p : Bytes) (at : ℕ) (h : Forest) → Opened a st p f → finish st f at ≡ whole h → Spells a p h
unfolding finish
finish-sound a (inside t g st) f p at h o e = never at h e
finish-sound a outer f p at h o e = turn (is_end f) refl e
  where
    turn : (t : Bool) → is_end f ≡ t → elim t [ true ↦ broken at | false ↦ whole f ] ≡ whole h → Spells a p h
    turn true x y = never at h y
    turn false x y = let z : f ≡ h = cc in subst (λ (g : Forest). Spells a p g) z (opened-finish o x)

go-sound : (s : Bytes) (a : Bool) (st : Stack) (f : Forest) (p : Bytes) (at k : ℕ) (h : Forest) → k ≤ length s → Opened a st p f → Free st f (drop k s) →
    go a st f at k s ≡ whole h → Spells a (p ++ drop k s) h
unfolding go
go-sound [] a st f p at zero h l o free e = rw append-nil (finish-sound a st f p at h o e)
go-sound [] a st f p at (suc k) h l o free e = absurd (not-suc-le-zero l)
go-sound (b ∷ s) a st f p at (suc k) h l o free e = go-sound s a st f p (suc at) k h (le_of_suc-le-suc l) o free e
go-sound (b ∷ s) a st f p at zero h l o free e =
    turn (step a st f (b ∷ s)) (step-sound a st f p b s o free) (λ st' f' p' k m q r. go-sound s a st' f' p' (suc at) k h m q r) e
  where
    turn : (m : Move) → SteppedTo a p (b ∷ s) s m →
        ((st' : Stack) (f' : Forest) (p' : Bytes) (k : ℕ) → k ≤ length s → Opened a st' p' f' → Free st' f' (drop k s) → go a st' f' (suc at) k s ≡ whole h →
        Spells a (p' ++ drop k s) h) →
        elim m [ move st' f' k ↦ go a st' f' (suc at) k s | wrong k ↦ broken (at + k) ] ≡ whole h → Spells a (p ++ b ∷ s) h
    turn (move st' f' k) r ih g = rw r.is (ih st' f' r.now k r.fits r.opened r.free g)
    turn (wrong k) r ih g = never (at + k) h g

pub read-sound : (a : Bool) (s : Bytes) (f : Forest) → read a s ≡ whole f → Spells a s f
unfolding read all
read-sound a s f e = go-sound s a outer end [] 0 0 f (omega arith) (blank refl) tt e
