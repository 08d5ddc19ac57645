-- `give_draft` meets its contract: a size that is not refused lies on the draft.
use mathlib.Core.Path.{sym}
use lib.Seq.{length-take-le}
use Rattle.std.proofs.Common.{arith}
use Rattle.std.proofs.lemmas.Result.{err_from_is_err_and}
use Rattle.archive.specs.AddCall.{stored-small, store-refused, store-done}
use Rattle.archive.proofs.add.give_draft.Goals as goal

pub returns-in_err-storable : goal.returns-in_err-storable
returns-in_err-storable c g x =
    let p = err_from_is_err_and c.from_residual.result c.from_residual.ensures.1 in
    rw (p.1, p.2) (store-refused g c.args.out.now x c.in_err-storable.ensures)

pub slice_bounds-put_word-end : goal.slice_bounds-put_word-end
slice_bounds-put_word-end c = let l = stored-small c.args.size.nodes c.args.size.bytes _ c.in_ok-storable.ensures in
    sym (length-take-le c.args.size.bytes c.args.draft.now (omega (arith, l, c.requires)))

pub put_word-count-requires : goal.put_word-count-requires
put_word-count-requires c = let l = stored-small c.args.size.nodes c.args.size.bytes _ c.in_ok-storable.ensures in
    omega (arith, length-take-le c.args.size.bytes c.args.draft.now (omega (arith, l, c.requires)), l)

pub returns : goal.returns
returns c g x = store-done g c.args.out.now x c.in_ok-storable.ensures c.requires c.put_word-count.ensures
