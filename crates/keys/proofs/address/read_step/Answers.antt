-- `read_step` meets its contract: one law a return.
use Rattle.std.proofs.lemmas.Slice.{between_is}
use Prim.Native.Nat.{◌+◌}
use native.Mathlib.Omega.{arith}
use mathlib.Core.Path.{sym}
use lib.Seq.{slice}
use Rattle.keys.specs.Version.{◌▸◌}
use Rattle.keys.specs.TableLaws.{table-rules}
use Rattle.keys.specs.AddressStep.{name-run, step_other, step-unlisted, step-wrong, step-read}
use Rattle.keys.proofs.address.read_step.Goals as goal

pub returns-then-s-at-ne47 : goal.returns-then-s-at-ne47
returns-then-s-at-ne47 c = λ K p t e.
    let a = c.args in
    let s = a.s.now in
    step_other K p s a.at (omega arith) c.if-s-at-ne47.true

pub overflow_add-at-4 : goal.overflow_add-at-4
overflow_add-at-4 c = let a = c.args in
    let s = a.s.now in
    let m = c.value_len-m.result in
    let w = name-run s a.at m (omega arith) c.value_len-m.ensures in
    omega arith

pub slice_bounds-child-end : goal.slice_bounds-child-end
slice_bounds-child-end c =
    let w = name-run c.args.s.now c.args.at c.value_len-m.result (omega arith) c.value_len-m.ensures in
    omega arith

pub child-q-requires : goal.child-q-requires
child-q-requires c = c.requires.0

pub returns-then-q-eq129 : goal.returns-then-q-eq129
returns-then-q-eq129 c = λ K p t e.
    let a = c.args in
    let s = a.s.now in
    step-unlisted K p s a.at (omega arith) c.if-s-at-ne47.false c.value_len-m.result c.value_len-m.ensures (table-rules t) (simp between_is at (c.child-q.ensures K p t e)) c.if-q-eq129.true

pub overflow_add-at-6 : goal.overflow_add-at-6
overflow_add-at-6 c = let a = c.args in
    let s = a.s.now in
    let m = c.value_len-m.result in
    let w = name-run s a.at m (omega arith) c.value_len-m.ensures in
    omega arith

pub read_conditions-requires : goal.read_conditions-requires
read_conditions-requires c = let a = c.args in
    let s = a.s.now in
    let m = c.value_len-m.result in
    let w = name-run s a.at m (omega arith) c.value_len-m.ensures in
    let h = c.requires.0 in
    (record { key_list = h.key_list; path = h.path ▸ slice (a.at + 1) (a.at + 1 + m) s; table = h.table; place_is = sym (simp between_is at (c.child-q.ensures h.key_list h.path h.table h.place_is)) }, omega arith, omega arith, omega arith)

pub overflow_add-result-2 : goal.overflow_add-result-2
overflow_add-result-2 c = let a = c.args in
    let s = a.s.now in
    let m = c.value_len-m.result in
    let w = name-run s a.at m (omega arith) c.value_len-m.ensures in
    omega arith

pub returns : goal.returns
returns c = λ K p t e.
    let a = c.args in
    let s = a.s.now in
    let m = c.value_len-m.result in
    let q = simp between_is at (c.child-q.ensures K p t e) in
    step-read K p s a.at (omega arith) c.if-s-at-ne47.false m c.value_len-m.ensures c.child-q.result c.in_ok-c.c q c.if-q-eq129.false (c.read_conditions.ensures K (p ▸ slice (a.at + 1) (a.at + 1 + m) s) t (sym q)) c.in_ok-c.was

pub returns-in_err-c : goal.returns-in_err-c
returns-in_err-c c = rw c.from_residual.ensures (λ K p t e.
    let a = c.args in
    let s = a.s.now in
    let m = c.value_len-m.result in
    let q = simp between_is at (c.child-q.ensures K p t e) in
    step-wrong K p s a.at (omega arith) c.if-s-at-ne47.false m c.value_len-m.ensures q c.if-q-eq129.false (c.read_conditions.ensures K (p ▸ slice (a.at + 1) (a.at + 1 + m) s) t (sym q)) c.in_err-c.was)
