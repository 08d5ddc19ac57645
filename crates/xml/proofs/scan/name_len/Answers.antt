-- `xml::scan::name_len` meets its contract: a law for each return. Assumes nothing.
use mathlib.Core.Path.{sym, ◌∙◌, ap}
use Prim.Native.Nat.{ℕ, ◌+◌}
use native.Mathlib.Omega.{arith}
use lib.ListN.{drop, length-drop}
use Rattle.xml.specs.ScanLaws.{name_rest-fits, name_len-end, name_len-stop, name_len-more}
use Rattle.xml.proofs.scan.name_len.Goals as goal

pub returns-then-at-src : goal.returns-then-at-src
returns-then-at-src c = let src = c.args.src.now in
    let at = c.args.at in
    sym (name_len-end src at (omega arith))

pub returns-then-not-is_name_start : goal.returns-then-not-is_name_start
returns-then-not-is_name_start c = let src = c.args.src.now in
    let at = c.args.at in
    let k = c.is_name_start in
    sym (name_len-stop src at (omega arith) (sym k.ensures ∙ c.if-not-is_name_start.true))

pub overflow_add-result : goal.overflow_add-result
overflow_add-result c = let src = c.args.src.now in
    let at = c.args.at in
    omega (arith, name_rest-fits 31 (drop (at + 1) src), length-drop (at + 1) src)

pub returns : goal.returns
returns c = let src = c.args.src.now in
    let at = c.args.at in
    let k = c.is_name_start in
    let more = name_len-more src at (omega arith) (sym k.ensures ∙ c.if-not-is_name_start.false) in
    ap (λ (x : ℕ). 1 + x) c.name_rest.ensures ∙ sym more
