-- The reader's tokens: a run of text, a start tag, an end tag, a byte outside the root, and the end of the text.
use Prim.Native.Char.{code}
use Prim.Native.Nat.{ℕ, suc, ◌+◌, ◌-◌, ◌<◌, ◌≤◌}
use mathlib.Core.Path.{◌≡◌, refl, ap, sym, ◌∙◌, subst}
use mathlib.Core.Bool.{Bool}
use mathlib.Core.List.{List}
use native.Mathlib.Omega.{arith}
use lib.ListN.{length, take, drop, get_or, length-drop}
use lib.Seq.{slice, drop-cons, drop-drop, get_or-drop}
use Rattle.xml.specs.Bytes.{Bytes}
use Rattle.xml.specs.Forest.{Forest, end, elem, text, join}
use Rattle.xml.specs.Read.{unescape, scan, Tag, named, timed, Stack, outer, inside, move, wrong, broken, characters, step, read}
use Rattle.xml.specs.Tape.{Node, Tape, at-end, at-text, at-elem, size}
use Rattle.xml.specs.TapeLaws.{slice-part}
use Rattle.xml.specs.TapeNew.{head_of, new-next, new-kept, new-node}
use Rattle.xml.specs.TextLaws.{RunIn, scan-first}
use Rattle.xml.specs.StepLaws.{step-chars, chars-upto, chars-stop}
use Rattle.xml.specs.Held.{tag_kind, tag_bytes, Held, held_none, held_in, held-le, held_more, held-open, held_same}
use Rattle.xml.specs.GoSize.{join-size, open-size}
use Rattle.xml.specs.Tight.{Far, start-far, run-then}
use Rattle.xml.specs.Tokens.{StartRead}
use Rattle.xml.specs.State.{Reading, Running, Opening, Noted, Stepped}
use Rattle.xml.proofs.Steps.{in-text, stops, noted}
use Rattle.std.specs.Prelude.{Result, Ok, Err}
use Rattle.xml.specs.declared.ReadError.{ReadError}
use Rattle.xml.specs.declared.reader.Progress.{Progress}
use Rattle.xml.specs.declared.Start.TheVariants.{Opens, Lone, Timed}

-- ---- what is open
pub record Around (src cells : List ℕ) (st : Stack) (f : Forest) (top n : ℕ) : Type 0 where
  pub tag : Tag
  pub before : Forest
  pub stack : Stack
  pub is : st ≡ inside tag before stack
  pub node : Node src cells (top - 1) (tag_kind tag) (tag_bytes tag)

pub around : {src cells : List ℕ} {st : Stack} {f : Forest} {top n : ℕ} → Held src cells st f top n → 0 < top → Around src cells st f top n
around (held_none e t) p = absurd (omega arith)
around (held_in {o = o} {g = g} {st = st} q d t h) p = record { tag = o; before = g; stack = st; is = refl; node = d }

pub outermost : {src cells : List ℕ} {st : Stack} {f : Forest} {n : ℕ} → Held src cells st f 0 n → (st ≡ outer) × Tape src cells 0 n f
outermost (held_none e t) = (refl, t)
outermost (held_in q d t h) = absurd (omega arith)

-- ---- a run of text
module _ {a : Bool} {src : Bytes} {cells : List ℕ} {at count top : ℕ} (w : Running a src cells at count top) where
  abbrev rr : Reading a src cells at count top
  rr = w.reading

  chars : step a rr.stack rr.forest (drop at src) ≡ characters rr.stack rr.forest (drop at src)
  chars =
      let i = around rr.held w.inner in
      let d = drop-cons src at 0 w.here in
      ap (λ (x : Stack). step a x rr.forest (drop at src)) i.is
      ∙ ap (step a (inside i.tag i.before i.stack) rr.forest) d
      ∙ step-chars a i.tag i.before i.stack rr.forest (get_or src at 0) (drop (suc at) src) w.other
      ∙ ap (characters (inside i.tag i.before i.stack) rr.forest) (sym d)
      ∙ ap (λ (x : Stack). characters x rr.forest (drop at src)) (sym i.is)

  pub run-range : (r : Result ℕ ℕ) → r ≡ scan 0 0 0 (drop at src) → RunIn 1 (length src - at) r
  run-range r e =
      let here = w.here in
      let l : 1 + length (drop (suc at) src) ≡ length src - at = omega (arith, length-drop (suc at) src) in
      subst (RunIn 1 (length src - at)) (sym e)
      (rw (← l, drop-cons src at 0 here) (scan-first (get_or src at 0) (drop (suc at) src) w.other))

  pub stop-in : (k : ℕ) → Err k ≡ scan 0 0 0 (drop at src) → at + k ≤ length src
  stop-in k e =
      let g : k ≤ length src - at = run-range (Err k) e in
      omega (arith, w.here)

  pub run-bad : (k : ℕ) → Err k ≡ scan 0 0 0 (drop at src) → read a src ≡ broken (at + k)
  run-bad k e = stops rr w.here k (at + k) (chars ∙ chars-stop rr.stack rr.forest (drop at src) k (sym e)) refl

  pub run_small : (k : ℕ) → Ok k ≡ scan 0 0 0 (drop at src) → (1 ≤ k) × (at + k ≤ length src) × (k ≤ 32767)
  run_small k e =
      let g : (1 ≤ k) × (k ≤ length src - at) = run-range (Ok k) e in
      let here = w.here in
      let short = rr.short in
      let few = rr.few in
      let inner = w.inner in
      let t = held-le rr.held in
      (g.0, omega arith, omega arith)

  -- a tag stands after a run
  run-then-at : (k : ℕ) → Ok k ≡ scan 0 0 0 (drop at src) → at + k < length src → get_or src (at + k) 0 ≡ code "<"
  run-then-at k e h =
      let here = w.here in
      sym (get_or-drop at src k 0) ∙ run-then (drop at src) k (sym e) (omega (arith, length-drop at src))

  pub run-good : (k : ℕ) {new : List ℕ} {o : Result Progress ReadError} {h : ℕ} → Ok k ≡ scan 0 0 0 (drop at src) → h ≡ head_of at k 0 →
      Noted cells count h (count + 1) (at + k) top new o → Stepped a src cells at count new o
  unfolding size
  run-good k e is n =
      let g = run_small k e in
      let q : at + k ≡ at + 1 + (k - 1) = omega (arith, g.0) in
      let x : Forest = text (unescape 0 (take k (drop at src))) end in
      noted rr w.here rr.stack (join rr.forest x) (k - 1) (at + k) at k 0 (count + 1) top
      (chars ∙ chars-upto rr.stack rr.forest (drop at src) k (sym e)) q (omega (arith, join-size rr.stack rr.forest x)) g.1 g.2 (omega arith)
      (omega (arith, g.0, rr.spare w.inner w.here w.other)) (λ t h d. absurd (d (run-then-at k e h)))
      (λ v m. held_more (held_same v (new-kept m) rr.held) (at-text (new-node m) (ap (unescape 0) (slice-part at k src)) (new-next m) (at-end refl))) is n

-- ---- a start tag
module _ {a : Bool} {src : Bytes} {cells : List ℕ} {at count top : ℕ} (w : Opening a src cells at count top) where
  abbrev ro : Reading a src cells at count top
  ro = w.reading

  pub open-bad : (k : ℕ) → StartRead a (drop (at + 1) src) (Err k) → read a src ≡ broken (at + k)
  open-bad k e = stops ro w.here k (at + k) (w.starts ∙ e ro.stack ro.forest) refl

  pub bad-in : (k : ℕ) → StartRead a (drop (at + 1) src) (Err k) → at + k ≤ length src
  bad-in k e =
      let g : k ≤ suc (length src - (at + 1)) = in-text ro w.here (wrong k) (w.starts ∙ e ro.stack ro.forest) in
      omega (arith, w.here)

  pub opens_in : (n : ℕ) → StartRead a (drop (at + 1) src) (Ok (Opens n)) → at + 2 + n ≤ length src
  opens_in n e =
      let g : 1 + n ≤ length src - (at + 1) = in-text ro w.here _ (w.starts ∙ e ro.stack ro.forest) in
      omega (arith, w.here)

  pub lone-in : (n : ℕ) → StartRead a (drop (at + 1) src) (Ok (Lone n)) → at + 3 + n ≤ length src
  lone-in n e =
      let g : 2 + n ≤ length src - (at + 1) = in-text ro w.here _ (w.starts ∙ e ro.stack ro.forest) in
      omega (arith, w.here)

  pub timed-in : (n : ℕ) → StartRead a (drop (at + 1) src) (Ok (Timed n)) → at + 8 + n ≤ length src
  timed-in n e =
      let g : 7 + n ≤ length src - (at + 1) = in-text ro w.here _ (w.starts ∙ e ro.stack ro.forest) in
      omega (arith, w.here)

  opened : (o : Tag) (k p start len : ℕ) → step a ro.stack ro.forest (drop at src) ≡ move (inside o ro.forest ro.stack) end k → p ≡ at + 1 + k →
      start + len ≤ length src → len ≤ 32767 → tag_kind o < 4 → 2 ≤ k → slice start (start + len) src ≡ tag_bytes o → {new : List ℕ} {r : Result Progress ReadError} {h : ℕ} → h ≡ head_of start len (tag_kind o) →
      Noted cells count h top p (count + 1) new r → Stepped a src cells at count new r
  opened o k p start len e q inn small kinds far b is n =
      noted ro w.here (inside o ro.forest ro.stack) end k p start len (tag_kind o) top (count + 1) e q (open-size ro.stack ro.forest o) inn small kinds
      (omega (arith, ro.few)) (λ z h d. omega (arith, ro.few))
      (λ v m. held-open o (held_same v (new-kept m) ro.held) (subst (Node src v count (tag_kind o)) b (new-node m)) (new-next m)) is n

  pub opens-good : (n : ℕ) {new : List ℕ} {r : Result Progress ReadError} {h : ℕ} → StartRead a (drop (at + 1) src) (Ok (Opens n)) → h ≡ head_of (at + 1) n 1 →
      Noted cells count h top (at + 2 + n) (count + 1) new r → Stepped a src cells at count new r
  opens-good n e is m =
      let l = opens_in n e in
      let far : 2 ≤ 1 + n = subst Far (e ro.stack ro.forest) (start-far a ro.stack ro.forest (drop (at + 1) src)) in
      let short = ro.short in
      opened (named (take n (drop (at + 1) src))) (1 + n) (at + 2 + n) (at + 1) n (w.starts ∙ e ro.stack ro.forest) (omega arith) (omega arith) (omega arith)
      (omega arith) far (slice-part (at + 1) n src) is m

  pub timed-good : (n : ℕ) {new : List ℕ} {r : Result Progress ReadError} {h : ℕ} → StartRead a (drop (at + 1) src) (Ok (Timed n)) → h ≡ head_of (at + 6) n 2 →
      Noted cells count h top (at + 8 + n) (count + 1) new r → Stepped a src cells at count new r
  timed-good n e is m =
      let l = timed-in n e in
      let short = ro.short in
      let s = drop (at + 1) src in
      let i : at + 1 + 1 + 4 ≡ at + 6 = omega arith in
      let d : drop 4 (drop 1 s) ≡ drop (at + 6) src = ap (drop 4) (drop-drop 1 (at + 1) src) ∙ drop-drop 4 (at + 1 + 1) src ∙ ap (λ (x : ℕ). drop x src) i in
      opened (timed (take n (drop 4 (drop 1 s)))) (7 + n) (at + 8 + n) (at + 6) n (w.starts ∙ e ro.stack ro.forest) (omega arith) (omega arith) (omega arith)
      (omega arith) (omega arith) (slice-part (at + 6) n src ∙ ap (take n) (sym d)) is m

  pub lone-good : (n : ℕ) {new : List ℕ} {r : Result Progress ReadError} {h : ℕ} → StartRead a (drop (at + 1) src) (Ok (Lone n)) → h ≡ head_of (at + 1) n 1 →
      Noted cells count h (count + 1) (at + 3 + n) top new r → Stepped a src cells at count new r
  unfolding size
  lone-good n e is m =
      let l = lone-in n e in
      let short = ro.short in
      let x : Forest = elem (take n (drop (at + 1) src)) end end in
      noted ro w.here ro.stack (join ro.forest x) (2 + n) (at + 3 + n) (at + 1) n 1 (count + 1) top
      (w.starts ∙ e ro.stack ro.forest) (omega arith) (omega (arith, join-size ro.stack ro.forest x)) (omega arith) (omega arith) (omega arith)
      (omega (arith, ro.few)) (λ z h d. omega (arith, ro.few))
      (λ v d.
      held_more (held_same v (new-kept d) ro.held)
      (at-elem (subst (Node src v count 1) (slice-part (at + 1) n src) (new-node d)) (at-end (sym (new-next d))) (at-end (new-next d)))) is m
