-- `walks::back::back` meets its contract: `<T t="1-i">` around what the outer `T` holds.
use Prim.Native.Nat.{ℕ, ◌≤◌}
use native.Mathlib.Omega.{arith}
use mathlib.Core.Path.{◌≡◌, sym, ◌∙◌, subst}
use Rattle.xml.specs.Bytes.{bytes}
use Rattle.xml.specs.Tape.{head_at, start_in, end_in}
use Rattle.xml.specs.TapeLaws.{Front, bytes_at, front}
use Rattle.timestamp.specs.Times.{Times}
use Rattle.timestamp.specs.Set.{cut_at}
use Rattle.timestamp.specs.Place.{IsSet}
use Rattle.timestamp.specs.Change.{Changes}
use Rattle.versions.specs.Walk.{times_in}
use Rattle.versions.specs.Rendered.{node-part}
use Rattle.versions.specs.Timely.{Timely, timely-set, timely-whole}
use Rattle.versions.specs.BackText.{back-length}
use Rattle.walks.specs.Trimmed.{cut_text, Trimmed, trimmed-short, trimmed-room, cut-trimmed, cut-times, whole_back}
use Rattle.walks.proofs.back.back.Goals as goal

pub view-v-requires : goal.view-v-requires
view-v-requires c =
    let first : Front c.args.doc.now.src.now c.args.doc.now.tape.now 0 c.args.hi = front c.requires.3.tape c.requires.0 in
    first.held

pub slice_bounds-cut_at-count : goal.slice_bounds-cut_at-count
slice_bounds-cut_at-count c = rw c.view-v.ensures (omega arith)

pub slice_bounds-cut_at-start : goal.slice_bounds-cut_at-start
slice_bounds-cut_at-start c = rw c.view-v.ensures (omega arith)

pub slice_bounds-cut_at-end : goal.slice_bounds-cut_at-end
slice_bounds-cut_at-end c =
    let first : Front c.args.doc.now.src.now c.args.doc.now.tape.now 0 c.args.hi = front c.requires.3.tape c.requires.0 in
    rw c.view-v.ensures (omega (arith, first.within))

pub cut_at-cut-requires : goal.cut_at-cut-requires
cut_at-cut-requires c =
    let outer-set : IsSet (bytes_at c.args.doc.now.src.now c.args.doc.now.tape.now 0) = let e = c.requires.1 in timely-set (subst (λ (q : ℕ). Timely c.args.i c.args.doc.now.src.now c.args.doc.now.tape.now 0 q) (sym e) c.requires.3) (rw e c.requires.0) c.requires.2 in
    rw (c.view-v.ensures, node-part c.args.doc.now.src.now c.args.doc.now.tape.now 0) outer-set

pub put_changed-inside-requires : goal.put_changed-inside-requires
put_changed-inside-requires c =
    let low : c.args.i ≤ 999 = omega (arith, c.requires.3.reach, c.requires.3.small) in
    let changed : Changes (bytes_at c.args.doc.now.src.now c.args.doc.now.tape.now 0) (cut_at c.args.i) c.args.i c.cut_at-cut.result.to c.cut_at-cut.result.tail = rw (c.view-v.ensures, node-part c.args.doc.now.src.now c.args.doc.now.tape.now 0) at c.cut_at-cut.ensures in
    let first : Front c.args.doc.now.src.now c.args.doc.now.tape.now 0 c.args.hi = front c.requires.3.tape c.requires.0 in
    let outer-set : IsSet (bytes_at c.args.doc.now.src.now c.args.doc.now.tape.now 0) = let e = c.requires.1 in timely-set (subst (λ (q : ℕ). Timely c.args.i c.args.doc.now.src.now c.args.doc.now.tape.now 0 q) (sym e) c.requires.3) (rw e c.requires.0) c.requires.2 in
    let trim : Trimmed c.args.i c.args.doc.now.src.now (start_in (head_at c.args.doc.now.tape.now 0)) c.cut_at-cut.result.to c.cut_at-cut.result.tail = cut-trimmed c.args.i c.args.doc.now.src.now (start_in (head_at c.args.doc.now.tape.now 0)) (end_in (head_at c.args.doc.now.tape.now 0)) c.cut_at-cut.result.to c.cut_at-cut.result.tail (omega arith) (first).within (outer-set) (changed) in
    let x = trim in
    rw c.view-v.ensures (x.inside, trimmed-short x, c.requires.4, low, omega (arith, c.requires.6))

pub write_back-close-requires : goal.write_back-close-requires
write_back-close-requires c =
    let changed : Changes (bytes_at c.args.doc.now.src.now c.args.doc.now.tape.now 0) (cut_at c.args.i) c.args.i c.cut_at-cut.result.to c.cut_at-cut.result.tail = rw (c.view-v.ensures, node-part c.args.doc.now.src.now c.args.doc.now.tape.now 0) at c.cut_at-cut.ensures in
    let first : Front c.args.doc.now.src.now c.args.doc.now.tape.now 0 c.args.hi = front c.requires.3.tape c.requires.0 in
    let outer-set : IsSet (bytes_at c.args.doc.now.src.now c.args.doc.now.tape.now 0) = let e = c.requires.1 in timely-set (subst (λ (q : ℕ). Timely c.args.i c.args.doc.now.src.now c.args.doc.now.tape.now 0 q) (sym e) c.requires.3) (rw e c.requires.0) c.requires.2 in
    let trim : Trimmed c.args.i c.args.doc.now.src.now (start_in (head_at c.args.doc.now.tape.now 0)) c.cut_at-cut.result.to c.cut_at-cut.result.tail = cut-trimmed c.args.i c.args.doc.now.src.now (start_in (head_at c.args.doc.now.tape.now 0)) (end_in (head_at c.args.doc.now.tape.now 0)) c.cut_at-cut.result.to c.cut_at-cut.result.tail (omega arith) (first).within (outer-set) (changed) in
    let v = c.view-v.ensures in
    let q = c.requires in
    let o = trimmed-room trim (rw v at c.put_changed-inside.ensures) in
    rw v (timely-whole q.3 q.0 q.1 q.2, q.4, trim, omega (arith, q.0, q.6, o))

pub put_word-requires : goal.put_word-requires
put_word-requires c =
    let inner : Times = times_in c.args.i (cut_text c.args.doc.now.src.now (start_in (head_at c.args.doc.now.tape.now 0)) c.cut_at-cut.result.to c.cut_at-cut.result.tail c.args.i) in
    let changed : Changes (bytes_at c.args.doc.now.src.now c.args.doc.now.tape.now 0) (cut_at c.args.i) c.args.i c.cut_at-cut.result.to c.cut_at-cut.result.tail = rw (c.view-v.ensures, node-part c.args.doc.now.src.now c.args.doc.now.tape.now 0) at c.cut_at-cut.ensures in
    let first : Front c.args.doc.now.src.now c.args.doc.now.tape.now 0 c.args.hi = front c.requires.3.tape c.requires.0 in
    let outer-set : IsSet (bytes_at c.args.doc.now.src.now c.args.doc.now.tape.now 0) = let e = c.requires.1 in timely-set (subst (λ (q : ℕ). Timely c.args.i c.args.doc.now.src.now c.args.doc.now.tape.now 0 q) (sym e) c.requires.3) (rw e c.requires.0) c.requires.2 in
    let trim : Trimmed c.args.i c.args.doc.now.src.now (start_in (head_at c.args.doc.now.tape.now 0)) c.cut_at-cut.result.to c.cut_at-cut.result.tail = cut-trimmed c.args.i c.args.doc.now.src.now (start_in (head_at c.args.doc.now.tape.now 0)) (end_in (head_at c.args.doc.now.tape.now 0)) c.cut_at-cut.result.to c.cut_at-cut.result.tail (omega arith) (first).within (outer-set) (changed) in
    let v = c.view-v.ensures in
    let q = c.requires in
    let o = trimmed-room trim (rw v at c.put_changed-inside.ensures) in
    let x = timely-whole q.3 q.0 q.1 q.2 in
    let k = rw v at c.write_back-close.ensures in
    omega (arith, q.0, q.6, o, (k x.forest x.tape).place, back-length c.args.i inner x)

pub returns : goal.returns
unfolding bytes
returns c =
    let low : c.args.i ≤ 999 = omega (arith, c.requires.3.reach, c.requires.3.small) in
    let inner : Times = times_in c.args.i (cut_text c.args.doc.now.src.now (start_in (head_at c.args.doc.now.tape.now 0)) c.cut_at-cut.result.to c.cut_at-cut.result.tail c.args.i) in
    let changed : Changes (bytes_at c.args.doc.now.src.now c.args.doc.now.tape.now 0) (cut_at c.args.i) c.args.i c.cut_at-cut.result.to c.cut_at-cut.result.tail = rw (c.view-v.ensures, node-part c.args.doc.now.src.now c.args.doc.now.tape.now 0) at c.cut_at-cut.ensures in
    let first : Front c.args.doc.now.src.now c.args.doc.now.tape.now 0 c.args.hi = front c.requires.3.tape c.requires.0 in
    let outer-set : IsSet (bytes_at c.args.doc.now.src.now c.args.doc.now.tape.now 0) = let e = c.requires.1 in timely-set (subst (λ (q : ℕ). Timely c.args.i c.args.doc.now.src.now c.args.doc.now.tape.now 0 q) (sym e) c.requires.3) (rw e c.requires.0) c.requires.2 in
    let same-times : inner ≡ times_in c.args.i (bytes_at c.args.doc.now.src.now c.args.doc.now.tape.now 0) = cut-times c.args.i c.args.doc.now.src.now (start_in (head_at c.args.doc.now.tape.now 0)) (end_in (head_at c.args.doc.now.tape.now 0)) c.cut_at-cut.result.to c.cut_at-cut.result.tail (omega arith) (first).within (outer-set) (changed) (low) in
    let trim : Trimmed c.args.i c.args.doc.now.src.now (start_in (head_at c.args.doc.now.tape.now 0)) c.cut_at-cut.result.to c.cut_at-cut.result.tail = cut-trimmed c.args.i c.args.doc.now.src.now (start_in (head_at c.args.doc.now.tape.now 0)) (end_in (head_at c.args.doc.now.tape.now 0)) c.cut_at-cut.result.to c.cut_at-cut.result.tail (omega arith) (first).within (outer-set) (changed) in
    let v = c.view-v.ensures in
    let q = c.requires in
    whole_back low q.4 trim (same-times ∙ q.5) q.0 q.1 q.2 (rw v at c.put_changed-inside.ensures) (rw v at c.write_back-close.ensures) c.put_word.ensures
