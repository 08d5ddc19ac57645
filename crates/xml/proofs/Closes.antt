-- The reader's tokens, continued: an end tag, a byte outside the root, and the beginning and the end of the text.
use Prim.Native.Char.{code}
use Prim.Native.Nat.{ℕ, zero, suc, ◌+◌, ◌*◌, ◌-◌, ◌%◌, ◌<◌, ◌≤◌}
use mathlib.Core.Path.{◌≡◌, refl, ap, sym, ◌∙◌, subst}
use mathlib.Core.Bool.{Bool, true, false}
use mathlib.Core.List.{List, ◌∷◌}
use native.Mathlib.Numerals.{add-one}
use native.Mathlib.Nat.{add-zero}
use native.Mathlib.Omega.{arith}
use lib.ListN.{length, drop, get_or, set, length-set}
use lib.Seq.{slice, drop-cons, drop-drop, get_or-drop, get_or-set_other}
use Rattle.xml.specs.Bytes.{Bytes, is_white, bytes_compute}
use Rattle.xml.specs.Forest.{Forest, end, elem, text, stamp, join}
use Rattle.xml.specs.Read.{tag_node, Stack, outer, inside, move, wrong, broken, is_end, step, start_tag, end_tag, finish, read}
use Rattle.xml.specs.Tape.{head_at, next_at, Tape, at-end, size}
use Rattle.xml.specs.TapeLaws.{tape-none, tape-size, bytes_at}
use Rattle.xml.specs.Views.{view_at}
use Rattle.xml.specs.declared.tape.View.{View}
use Rattle.xml.specs.StepLaws.{go-end, in-range, step_start, step_end, out-white, out-other, out-second, out-start, finish-outer, finish-done, finish-inside}
use Rattle.xml.specs.Held.{Held, held_none, held-le, held-close}
use Rattle.xml.specs.Tokens.{EndRead, ended_by}
use Rattle.xml.specs.State.{Reading, Here, Ending, Opening, Untouched, Went, Filled}
use Rattle.xml.specs.Stretch.{Each, Passed, each_part}
use Rattle.xml.proofs.Steps.{in-text, stops, went}
use Rattle.xml.proofs.Turns.{Around, around, outermost}
use Rattle.std.specs.Prelude.{Result, Ok, Err}

-- ---- an end tag
module _ {a : Bool} {src : Bytes} {cells : List ℕ} {at count top : ℕ} (w : Ending a src cells at count top) where
  abbrev r : Reading a src cells at count top
  r = w.reading

  pub its : Around src cells r.stack r.forest top count
  its = around r.held w.inner

  pub two_in : at + 2 ≤ length src
  two_in = omega (arith, in-range src (at + 1) 46 w.slash)

  closes : step a r.stack r.forest (drop at src) ≡ end_tag its.tag its.before its.stack r.forest (drop (at + 2) src)
  closes =
      let j : suc at + 1 ≡ at + 2 = omega arith in
      let e : drop 1 (drop (suc at) src) ≡ drop (at + 2) src = drop-drop 1 (suc at) src ∙ ap (λ (x : ℕ). drop x src) j in
      let i : suc at + 0 ≡ at + 1 = omega arith in
      let g : get_or (drop (suc at) src) 0 0 ≡ code "/" = get_or-drop (suc at) src 0 0 ∙ ap (λ (x : ℕ). get_or src x 0) i ∙ w.slash in
      ap (λ (x : Stack). step a x r.forest (drop at src)) its.is
      ∙ ap (step a (inside its.tag its.before its.stack) r.forest) (drop-cons src at 0 w.here)
      ∙ step_end a its.tag its.before its.stack r.forest (get_or src at 0) (drop (suc at) src) w.less g
      ∙ ap (end_tag its.tag its.before its.stack r.forest) e

  -- what the scanner answers
  abbrev pub Read : Result ℕ ℕ → Type 0
  Read o = EndRead (head_at cells (top - 1) % 4) (bytes_at src cells (top - 1)) (drop (at + 2) src) o

  ended : (o : Result ℕ ℕ) → Read o → step a r.stack r.forest (drop at src) ≡ ended_by its.tag its.before its.stack r.forest o
  ended o e = closes ∙ e its.tag (sym its.node.kind-is) (sym its.node.bytes-are) its.before its.stack r.forest

  pub stop-in : (m : ℕ) → Read (Err m) → at + 2 + m ≤ length src
  stop-in m e =
      let g : 2 + m ≤ suc (length src - (at + 1)) = in-text r w.here (wrong (2 + m)) (ended (Err m) e) in
      omega (arith, w.here)

  pub close-in : (m : ℕ) → Read (Ok m) → at + 3 + m ≤ length src
  close-in m e =
      let g : 2 + m ≤ length src - (at + 1) = in-text r w.here _ (ended (Ok m) e) in
      omega (arith, w.here)

  pub close-bad : (m : ℕ) → Read (Err m) → read a src ≡ broken (at + 2 + m)
  close-bad m e = stops r w.here (2 + m) (at + 2 + m) (ended (Err m) e) (omega arith)

  pub close-good : (m : ℕ) (new : List ℕ) → Read (Ok m) → new ≡ set cells (2 * (top - 1) + 1) count →
      Went a src cells at count new (at + 3 + m) count (next_at cells (top - 1))
  close-good m new e n =
      let held : Held src cells (inside its.tag its.before its.stack) r.forest top count =
      subst (λ (x : Stack). Held src cells x r.forest top count) its.is r.held
      in
      let long : length new ≡ length cells = ap length n ∙ length-set cells (2 * (top - 1) + 1) count in
      let room = r.room in
      let t = held-le r.held in
      let inner = w.inner in
      went r w.here its.stack (join its.before (tag_node its.tag r.forest)) (2 + m) (at + 3 + m) (ended (Ok m) e) (omega arith)
      (held-close new held room n) (omega arith) (omega arith) (omega arith)
      (λ i h. ap (λ (c : List ℕ). get_or c i 0) n ∙ get_or-set_other cells (2 * (top - 1) + 1) i count 0 (λ d. omega arith))
      (omega (arith, r.few)) (λ z h d. omega (arith, r.few))

  -- the same of what was seen of the node
  module _ {v : View} (seen : v ≡ view_at cells (top - 1)) where
    pub seen-in : (at + 2 ≤ length src) × (v.start ≤ v.end) × (v.end ≤ length src)
    seen-in = subst (λ (x : View). (at + 2 ≤ length src) × (x.start ≤ x.end) × (x.end ≤ length src)) (sym seen) (two_in, omega arith, its.node.within)

    pub told : (q o : Result ℕ ℕ) → q ≡ o → EndRead v.kind (slice v.start v.end src) (drop (at + 2) src) q → Read o
    told q o e h =
        subst Read e (subst (λ (x : View). EndRead x.kind (slice x.start x.end src) (drop (at + 2) src) q) seen h)

    pub close-seen : (m : ℕ) (new : List ℕ) → Read (Ok m) → new ≡ set cells (2 * (top - 1) + 1) count → Went a src cells at count new (at + 3 + m) count v.next
    close-seen m new e n = subst (λ (x : View). Went a src cells at count new (at + 3 + m) count x.next) (sym seen) (close-good m new e n)

-- ---- a start tag in an open node
module _ {a : Bool} {src : Bytes} {cells : List ℕ} {at count top : ℕ} (w : Here a src cells at count top) where
  at-is : drop at src ≡ get_or src at 0 ∷ drop (at + 1) src
  at-is = let h = w.here in rw (add-one, drop-cons src at 0)

  pub opening : 0 < top → get_or src at 0 ≡ code "<" → (get_or src (at + 1) 0 ≡ code "/" → ⊥) → Opening a src cells at count top
  opening p e d =
      let r = w.reading in
      let i = around r.held p in
      let d' : get_or (drop (at + 1) src) 0 0 ≡ code "/" → ⊥ = λ x. d (ap (λ (j : ℕ). get_or src j 0) (sym (add-zero (at + 1))) ∙ sym (get_or-drop (at + 1) src 0 0) ∙ x) in
      record {
        reading = r;
        here = w.here;
        starts =
            ap (λ (x : Stack). step a x r.forest (drop at src)) i.is
            ∙ ap (step a (inside i.tag i.before i.stack) r.forest) at-is
            ∙ step_start a i.tag i.before i.stack r.forest (get_or src at 0) (drop (at + 1) src) e d'
            ∙ ap (λ (x : Stack). start_tag a x r.forest (drop (at + 1) src)) (sym i.is);
      }

-- ---- outside the root
end-at : {src cells : List ℕ} {f : Forest} → Tape src cells 0 0 f → is_end f ≡ true
unfolding is_end
end-at t = rw (tape-none t)

some_at : {src cells : List ℕ} {n : ℕ} (f : Forest) → (n ≡ 0 → ⊥) → Tape src cells 0 n f → is_end f ≡ false
unfolding is_end size
some_at end z t = absurd (z (tape-size t))
some_at (text b r) z t = refl
some_at (elem m k r) z t = refl
some_at (stamp m k r) z t = refl

less-white : (b : ℕ) → b ≡ code "<" → is_white b ≡ false
unfolding bytes_compute
less-white b e = ap is_white e

module _ {a : Bool} {src : Bytes} {cells : List ℕ} {at count : ℕ} (w : Here a src cells at count 0) where
  abbrev ro : Reading a src cells at count 0
  ro = w.reading

  out : (ro.stack ≡ outer) × Tape src cells 0 count ro.forest
  out = outermost ro.held

  at_out : step a ro.stack ro.forest (drop at src) ≡ step a outer ro.forest (get_or src at 0 ∷ drop (at + 1) src)
  at_out = ap (λ (x : Stack). step a x ro.forest (drop at src)) out.0 ∙ ap (step a outer ro.forest) (at-is w)

  pub outside-white : is_white (get_or src at 0) ≡ true → Went a src cells at count cells (at + 1) count 0
  outside-white e =
      went ro w.here ro.stack ro.forest 0 (at + 1)
      (at_out ∙ out-white a ro.forest (get_or src at 0) (drop (at + 1) src) e ∙ ap (λ (x : Stack). move x ro.forest 0) (sym out.0)) (omega arith)
      ro.held (omega arith) (omega arith) ro.room (λ i h. refl) (omega (arith, ro.few)) (λ z h d. absurd (omega arith))

  pub outside-other : is_white (get_or src at 0) ≡ false → (get_or src at 0 ≡ code "<" → ⊥) → read a src ≡ broken at
  outside-other e n = stops ro w.here 0 at (at_out ∙ out-other a ro.forest (get_or src at 0) (drop (at + 1) src) e n) (omega arith)

  pub outside-second : get_or src at 0 ≡ code "<" → (count ≡ 0 → ⊥) → read a src ≡ broken at
  outside-second n z =
      stops ro w.here 0 at (at_out ∙ out-second a ro.forest (get_or src at 0) (drop (at + 1) src) (less-white (get_or src at 0) n) n (some_at ro.forest z out.1)) (omega arith)

  outside-start : get_or src at 0 ≡ code "<" → count ≡ 0 → Opening a src cells at count 0
  outside-start n z =
      let none = end-at (subst (λ (x : ℕ). Tape src cells 0 x ro.forest) z out.1) in
      record {
        reading = ro;
        here = w.here;
        starts =
            at_out ∙ out-start a ro.forest (get_or src at 0) (drop (at + 1) src) (less-white (get_or src at 0) n) n none
            ∙ ap (λ (x : Stack). start_tag a x ro.forest (drop (at + 1) src)) (sym out.0);
      }

-- the same where nothing is open
module _ {a : Bool} {src : Bytes} {cells : List ℕ} {at count top : ℕ} (w : Here a src cells at count top) (none : top ≤ 0) where
  shut : top ≡ 0
  shut = omega arith

  pub outside : Here a src cells at count 0
  outside = subst (Here a src cells at count) shut w

  pub opening-root : get_or src at 0 ≡ code "<" → count ≤ 0 → Opening a src cells at count top
  opening-root e z = subst (Opening a src cells at count) (sym shut) (outside-start outside e (omega arith))

-- white space outside the root, as far as it goes
module _ {a : Bool} {src : Bytes} {cells : List ℕ} {count r : ℕ} (k : r ≤ length src) where
  outside-on : (d : ℕ) {at : ℕ} (w : Here a src cells at count 0) → is_white (get_or src at 0) ≡ true → Each is_white true src (at + 1) r
      → at + 1 + d ≡ r → Reading a src cells r count 0
  outside-on zero {at} w e p h = let z : at + 1 ≡ r = omega arith in subst (λ (x : ℕ). Reading a src cells x count 0) z (outside-white w e).reading
  outside-on (suc d) {at} w e p h =
      let n : at + 1 < r = omega arith in
      outside-on d (record { reading = (outside-white w e).reading; here = omega arith }) (p.at (at + 1) (omega arith) n) (each_part p (omega arith) (omega arith)) (omega arith)

pub outside-whites : {a : Bool} {src : Bytes} {cells : List ℕ} {at count r : ℕ} (w : Here a src cells at count 0) → is_white (get_or src at 0) ≡ true
    → Passed is_white true src (at + 1) (length src) r → Went a src cells at count cells r count 0
outside-whites {at = at} {r = r} w e p = record {
  reading = outside-on p.inside (r - (at + 1)) w e p.each (omega (arith, p.forward));
  later = omega (arith, p.forward);
  more = omega arith;
  untouched = λ i h. refl;
}

-- ---- the end of the text
module _ {a : Bool} {src : Bytes} {cells : List ℕ} {at count top : ℕ} (r : Reading a src cells at count top) (ends : length src ≤ at) where
  over : read a src ≡ finish r.stack r.forest at
  over = go-end a src r.stack r.forest at r.answer ends

  pub end-inside : (top ≡ 0 → ⊥) → read a src ≡ broken at
  end-inside z =
      let i = around r.held (omega arith) in
      over ∙ ap (λ (x : Stack). finish x r.forest at) i.is ∙ finish-inside i.tag i.before i.stack r.forest at

  module _ (z : top ≡ 0) where
    was : (r.stack ≡ outer) × Tape src cells 0 count r.forest
    was = outermost (subst (λ (x : ℕ). Held src cells r.stack r.forest x count) z r.held)

    pub end_none : count ≡ 0 → read a src ≡ broken at
    end_none n =
        over ∙ ap (λ (x : Stack). finish x r.forest at) was.0
        ∙ finish-outer r.forest at (end-at (subst (λ (x : ℕ). Tape src cells 0 x r.forest) n was.1))

    pub end-done : (before : List ℕ) → (count ≡ 0 → ⊥) → Untouched before cells count → Filled a src before cells count
    end-done before n u =
        record {
          forest = r.forest;
          is = over ∙ ap (λ (x : Stack). finish x r.forest at) was.0 ∙ finish-done r.forest at (some_at r.forest n was.1);
          tape = was.1;
          count = omega (arith, tape-size was.1);
          untouched = u;
        }

-- ---- the start
pub begin : {a : Bool} {src : Bytes} {cells : List ℕ} → length src ≤ 32768 → Reading a src cells 0 0 0
unfolding read
begin s =
    record {
      stack = outer;
      forest = end;
      held = held_none refl (at-end refl);
      answer = refl;
      within = omega arith;
      few = omega arith;
      spare = λ z h d. absurd (omega arith);
      short = s;
      room = omega arith;
    }
