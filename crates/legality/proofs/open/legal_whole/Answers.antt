-- `archive::open::legal_whole` meets its contract: no outer `T`, an inside that is not legal, or a legal archive. Assumes nothing.
use Prim.Native.Nat.{ℕ}
use native.Mathlib.Omega.{arith}
use mathlib.Core.Path.{◌≡◌, sym, ◌∙◌, ap}
use Rattle.xml.specs.Forest.{Forest}
use Rattle.xml.specs.Tape.{Tape}
use Rattle.keys.specs.KeyList.{KeyList}
use Rattle.keys.specs.Table.{Table}
use Rattle.versions.specs.Walk.{inside_of}
use Rattle.versions.specs.LegalWhole.{outer_of, inside_legal, outer-of-most, outer-zero, outer-inside, inside-no, inside-yes}
use Rattle.legality.proofs.open.legal_whole.Goals as goal

pub returns-in_err-n : goal.returns-in_err-n
returns-in_err-n c = rw c.from_residual.ensures (λ K t f x. outer-zero K f (c.in_err-n.ensures f x))

pub inside_legal-requires : goal.inside_legal-requires
inside_legal-requires c =
    let some : (f : Forest) → Tape c.args.doc.now.src.now c.args.doc.now.tape.now 0 c.args.hi f → outer_of f ≡ 0 → ⊥ = λ f x z. let n = c.in_ok-n.ensures f x in omega (arith, n.0, n.1, z) in
    let v = c.requires.1 in
    let e = c.in_ok-n.ensures v.forest v.tape in
    (c.requires.0, record { forest = inside_of v.forest; tape = outer-inside v.tape (some v.forest v.tape) }, c.requires.2, e.1, omega (arith, e.0, outer-of-most v.forest))

pub returns-then-not-inside_legal : goal.returns-then-not-inside_legal
returns-then-not-inside_legal c K t f x =
    let some : (f : Forest) → Tape c.args.doc.now.src.now c.args.doc.now.tape.now 0 c.args.hi f → outer_of f ≡ 0 → ⊥ = λ f x z. let n = c.in_ok-n.ensures f x in omega (arith, n.0, n.1, z) in
    let said : (K : KeyList) → Table c.args.keys.now.text.now c.args.keys.now.table.now c.args.keys.now.paths K → (f : Forest) → Tape c.args.doc.now.src.now c.args.doc.now.tape.now 0 c.args.hi f → c.inside_legal.result ≡ inside_legal K (outer_of f) (inside_of f) = λ K t f x. c.inside_legal.ensures K t (inside_of f) (outer-inside x (some f x)) ∙ ap (λ (z : ℕ). inside_legal K z (inside_of f)) (c.in_ok-n.ensures f x).0 in
    inside-no K f (some f x) (sym (said K t f x) ∙ c.if-not-inside_legal.true)

pub returns : goal.returns
returns c K t f x =
    let some : (f : Forest) → Tape c.args.doc.now.src.now c.args.doc.now.tape.now 0 c.args.hi f → outer_of f ≡ 0 → ⊥ = λ f x z. let n = c.in_ok-n.ensures f x in omega (arith, n.0, n.1, z) in
    let said : (K : KeyList) → Table c.args.keys.now.text.now c.args.keys.now.table.now c.args.keys.now.paths K → (f : Forest) → Tape c.args.doc.now.src.now c.args.doc.now.tape.now 0 c.args.hi f → c.inside_legal.result ≡ inside_legal K (outer_of f) (inside_of f) = λ K t f x. c.inside_legal.ensures K t (inside_of f) (outer-inside x (some f x)) ∙ ap (λ (z : ℕ). inside_legal K z (inside_of f)) (c.in_ok-n.ensures f x).0 in
    ((c.in_ok-n.ensures f x).0 ∙ sym (inside-yes K f (some f x) (sym (said K t f x) ∙ c.if-not-inside_legal.false)), (c.in_ok-n.ensures f x).1)
