-- One step of the reader: from what is held before it to what is held after it.
use Prim.Native.Nat.{ℕ, suc, ◌+◌, ◌*◌, ◌-◌, ◌<◌, ◌≤◌}
use mathlib.Core.Path.{◌≡◌, ap, sym, ◌∙◌, subst}
use mathlib.Core.Bool.{Bool}
use mathlib.Core.List.{List, ◌∷◌}
use native.Mathlib.Omega.{arith}
use borrow.Author.Tests.{leb-true, leb-false}
use lib.Dec.{leb}
use lib.ListN.{length, drop, get_or, set, length-drop}
use lib.Seq.{drop-cons}
use Rattle.xml.specs.Bytes.{Bytes}
use Rattle.xml.specs.Forest.{Forest}
use Rattle.xml.specs.Read.{Stack, Move, move, wrong, broken, step, go, read}
use Rattle.xml.specs.Truth.{by-test}
use Rattle.xml.specs.TapeNew.{head_of, Added, new-long, new-other}
use Rattle.xml.specs.StepLaws.{go-move, go-wrong}
use Rattle.xml.specs.StepIn.{In, step_in_lem}
use Rattle.xml.specs.Held.{stack_size, Held, held-le, held-size}
use Rattle.xml.specs.GoSize.{go-size}
use Rattle.xml.specs.State.{Reading, Spare, Untouched, Overfull, Noted, Went, Stepped}
use Rattle.std.specs.Prelude.{Result}
use Rattle.xml.specs.declared.ReadError.{ReadError}
use Rattle.xml.specs.declared.reader.Progress.{Progress}

module _ {a : Bool} {src : Bytes} {cells : List ℕ} {at count top : ℕ} (r : Reading a src cells at count top) (here : at < length src) where
  pub top-le : top ≤ count
  top-le = held-le r.held

  abbrev Next : Move → Type 0
  Next m = step a r.stack r.forest (drop at src) ≡ m

  -- a step reads bytes of the text
  pub in-text : (m : Move) → Next m → In (length src - (at + 1)) m
  in-text m e =
      let d = drop-cons src at 0 here in
      let l : length (drop (suc at) src) ≡ length src - (at + 1) = omega (arith, length-drop (suc at) src) in
      subst (In (length src - (at + 1))) e
      (subst (λ (s : Bytes). In (length src - (at + 1)) (step a r.stack r.forest s)) (sym d)
      (subst (λ (n : ℕ). In n (step a r.stack r.forest (get_or src at 0 ∷ drop (suc at) src))) l (step_in_lem a r.stack r.forest (get_or src at 0) (drop (suc at) src))))

  pub stops : (k p : ℕ) → Next (wrong k) → p ≡ at + k → read a src ≡ broken p
  stops k p e q = go-wrong a src r.stack r.forest at r.answer k p here e q

  -- where reading goes on after a step
  goes : (st : Stack) (f : Forest) (k p : ℕ) → Next (move st f k) → p ≡ at + 1 + k → read a src ≡ go a st f p 0 (drop p src)
  goes st f k p e q =
      let l : k ≤ length src - (at + 1) = in-text (move st f k) e in
      go-move a src r.stack r.forest at r.answer st f k p here e q (omega arith)

  -- a step that leaves no node more than one more
  pub went : (st : Stack) (f : Forest) (k p : ℕ) {new : List ℕ} {n t : ℕ} → Next (move st f k) → p ≡ at + 1 + k → Held src new st f t n → count ≤ n → n ≤ count + 1 →
      2 * n ≤ length new → Untouched cells new n → 2 * n ≤ p → Spare src p n t → Went a src cells at count new p n t
  went st f k p e q h low high room kept tight spare =
      let l : k ≤ length src - (at + 1) = in-text (move st f k) e in
      record {
        reading =
            record {
              stack = st;
              forest = f;
              held = h;
              answer = goes st f k p e q;
              within = omega arith;
              few = tight;
              spare = spare;
              short = r.short;
              room = room;
            };
        later = omega arith;
        more = low;
        untouched = kept;
      }

  -- a step with one node more, for which there is no room
  too_many : (st : Stack) (f : Forest) (k p : ℕ) → Next (move st f k) → p ≡ at + 1 + k → stack_size st f ≡ 1 + stack_size r.stack r.forest →
      2 * count + 2 ≤ p → length cells < 2 * count + 2 → Overfull a src cells
  too_many st f k p e q s tight h =
      let l : k ≤ length src - (at + 1) = in-text (move st f k) e in (
        omega arith,
        λ g w.
            let n = go-size a st f p 0 (drop p src) g (sym (goes st f k p e q) ∙ w) in
            let c = held-size r.held in
            omega arith,
      )

  -- a new node: what its two cells say is the step
  module _ (st : Stack) (f : Forest) (k p start len kind next t : ℕ) (e : Next (move st f k)) (q : p ≡ at + 1 + k)
      (more : stack_size st f ≡ 1 + stack_size r.stack r.forest) (inn : start + len ≤ length src) (small : len ≤ 32767) (kinds : kind < 4)
      (tight : 2 * count + 2 ≤ p) (spare : Spare src p (count + 1) t)
      (held : (new : List ℕ) → Added src cells count start len kind next new → Held src new st f t (count + 1)) where
    pub noted : {new : List ℕ} {o : Result Progress ReadError} {h : ℕ} → h ≡ head_of start len kind → Noted cells count h next p t new o → Stepped a src cells at count new o
    noted {new} {o} is n =
        by-test (leb (2 * count + 2) (length cells)) (λ x. fits (leb-true (2 * count + 2) (length cells) x)) (λ x. over (leb-false (2 * count + 2) (length cells) x))
      where
        fits : 2 * count + 2 ≤ length cells → Stepped a src cells at count new o
        fits h =
            let room : 2 * count + 1 < length cells = omega arith in
            let y = n.fits room in
            let made : Added src cells count start len kind next new = record { room = room; within = inn; small = small; kinds = kinds; stored = y.1 ∙ ap (λ (x : ℕ). set (set cells (2 * count) x) (2 * count + 1) next) is } in
            let long = new-long made in
            subst (Stepped a src cells at count new) (sym y.0)
            (went st f k p e q (held new made) (omega arith) (omega arith) (omega arith) (λ i z. new-other made i (λ d. omega arith) (λ d. omega arith))
            (omega arith) spare)

        over : length cells < 2 * count + 2 → Stepped a src cells at count new o
        over h =
            let y = n.over h in
            subst (Stepped a src cells at count new) (sym y.0)
            (subst (Overfull a src) (sym y.1) (too_many st f k p e q more tight h))
