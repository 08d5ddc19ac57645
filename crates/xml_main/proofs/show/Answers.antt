-- The form lies within the output.
use Rattle.std.proofs.Common.{arith, ◌≡◌, ◌≤◌, sym, length, ℕ, List, ◌++◌}
use lib.ListN.{take, drop, length-append, length-drop}
use lib.Seq.{length-take-le}
use Rattle.xml.specs.CanonicalLaws.{done-fits}
use Rattle.xml_main.proofs.show.Goals as goal

-- the output is as long as before
within : (n room : ℕ) (out part : List ℕ) → room ≤ length out → n ≤ length (take room out) → length part ≡ length (take room out) → n ≤ length (part ++ drop room out)
within n room out part k h e = rw (length-append part (drop room out), length-drop room out) (omega (arith, length-take-le room out k))

pub slice_bounds-out-end-in-Ok : goal.slice_bounds-out-end-in-Ok
slice_bounds-out-end-in-Ok c =
    within c.in-Ok.n c.args.room c.bytes_256-out.result c.canonical.new.out (omega (arith, c.bytes_256-out.ensures, c.requires.room))
    (done-fits c.args.text.now _ _ _ _ c.in-Ok.is c.canonical.ensures.0) c.canonical.auto.out

pub slice_bounds-write_all-end : goal.slice_bounds-write_all-end
slice_bounds-write_all-end c =
    sym
    (length-take-le _ _
    (within c.in-Ok.n c.args.room c.bytes_256-out.result c.canonical.new.out (omega (arith, c.bytes_256-out.ensures, c.requires.room))
    (done-fits c.args.text.now _ _ _ _ c.in-Ok.is c.canonical.ensures.0) c.canonical.auto.out))
