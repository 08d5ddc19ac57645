-- `element_legal` and `siblings_legal` meet their contracts: the answer of the loop is that of the siblings to come, after the last label; an element is
-- judged by its tests one after the other. The nodes left fall.
use Rattle.std.proofs.lemmas.Slice.{between_is}
use native.Mathlib.Omega.{arith}
use mathlib.Core.Path.{refl, sym, ◌∙◌, ap}
use Rattle.xml.specs.Bytes.{bytes}
use Rattle.xml.specs.TapeLaws.{tape-le}
use Rattle.keys.specs.Version.{◌▸◌}
use Rattle.keys.specs.TableLaws.{table-rules}
use Rattle.keys.specs.Walks.{walk-front, walk-node, walk-next}
use Rattle.versions.specs.LegalSteps.{element_legal, element-unlisted, element-named, element-front, element-lack, element-inside, element-once, last-labelled, walk-in}
use Rattle.versions.specs.LegalGoing.{legally-start, legally-done, legally-own, the-sib, legally-element, legally-not, legally-more}
use Rattle.legality.proofs.legal.+element_legal_siblings_legal.Goals as goal

pub element_legal-view-v-requires : goal.element_legal-view-v-requires
element_legal-view-v-requires t c = c.requires.node.held

pub element_legal-child-own-requires : goal.element_legal-child-own-requires
element_legal-child-own-requires t c = c.requires.placed

pub element_legal-part-requires : goal.element_legal-part-requires
element_legal-part-requires t c = rw c.view-v.ensures (omega arith, c.requires.node.within)

pub element_legal-returns-then-own-eq129 : goal.element_legal-returns-then-own-eq129
element_legal-returns-then-own-eq129 t c K q s z m k a b = sym (element-unlisted K _ q _ m k (table-rules s) (sym (rw (c.part.ensures, c.view-v.ensures, a.bytes-are) at (c.child-own.ensures K q s z)) ∙ c.if-own-eq129.true))

pub element_legal-returns-then-same_bytes : goal.element_legal-returns-then-same_bytes
unfolding bytes
element_legal-returns-then-same_bytes t c K q s z m k a b = let d = sym (rw (c.part.ensures, c.view-v.ensures, a.bytes-are) at (c.child-own.ensures K q s z)) in sym (element-named K _ q _ m k (λ y. c.if-own-eq129.false (sym d ∙ y)) (sym (rw (c.view-v.ensures, a.bytes-are) at (simp between_is at c.same_bytes.ensures)) ∙ c.if-same_bytes.true))

pub element_legal-is_above-requires : goal.element_legal-is_above-requires
element_legal-is_above-requires t c = c.requires.placed.table.held

pub element_legal-overflow_add-e : goal.element_legal-overflow_add-e
element_legal-overflow_add-e t c = omega (arith, c.requires.node.held)

pub element_legal-front_legal-requires : goal.element_legal-front_legal-requires
element_legal-front_legal-requires t c = rw c.view-v.ensures (record { forest = c.requires.kids; tape = c.requires.tape }, c.requires.few)

pub element_legal-returns-then-not-is_above : goal.element_legal-returns-then-not-is_above
unfolding bytes
element_legal-returns-then-not-is_above t c K q s z m k a b = let d = sym (rw (c.part.ensures, c.view-v.ensures, a.bytes-are) at (c.child-own.ensures K q s z)) in (rw c.view-v.ensures at c.front_legal.ensures) k _ b c.requires.only refl ∙ sym (element-front K _ q _ m k (λ y. c.if-own-eq129.false (sym d ∙ y)) (sym (rw (c.view-v.ensures, a.bytes-are) at (simp between_is at c.same_bytes.ensures)) ∙ c.if-same_bytes.false) (sym (c.is_above.ensures c.args.keys.now.text.now K (q ▸ m) s d) ∙ c.if-not-is_above.true))

pub element_legal-overflow_add-e-2 : goal.element_legal-overflow_add-e-2
element_legal-overflow_add-e-2 t c = omega (arith, c.requires.node.held)

pub element_legal-has_keys-requires : goal.element_legal-has_keys-requires
element_legal-has_keys-requires t c = rw c.view-v.ensures (walk-in c.requires (rw (c.part.ensures, c.view-v.ensures) at c.child-own.ensures))

pub element_legal-returns-then-not-has_keys : goal.element_legal-returns-then-not-has_keys
unfolding bytes
element_legal-returns-then-not-has_keys t c K q s z m k a b = let d = sym (rw (c.part.ensures, c.view-v.ensures, a.bytes-are) at (c.child-own.ensures K q s z)) in sym (element-lack K _ q _ m k (λ y. c.if-own-eq129.false (sym d ∙ y)) (sym (rw (c.view-v.ensures, a.bytes-are) at (simp between_is at c.same_bytes.ensures)) ∙ c.if-same_bytes.false) (sym (c.is_above.ensures c.args.keys.now.text.now K (q ▸ m) s d) ∙ c.if-not-is_above.false) (sym ((rw c.view-v.ensures at c.has_keys.ensures) K (q ▸ m) s d k b) ∙ c.if-not-has_keys.true))

pub element_legal-overflow_add-e-3 : goal.element_legal-overflow_add-e-3
element_legal-overflow_add-e-3 t c = omega (arith, c.requires.node.held, c.well_formed)

pub element_legal-siblings_legal-requires : goal.element_legal-siblings_legal-requires
element_legal-siblings_legal-requires t c = rw c.view-v.ensures (omega (arith, c.decreases, tape-le c.requires.tape), (walk-in c.requires (rw (c.part.ensures, c.view-v.ensures) at c.child-own.ensures), c.requires.few, c.requires.only))

pub element_legal-returns : goal.element_legal-returns
unfolding bytes
element_legal-returns t c K q s z m k a b = let d = sym (rw (c.part.ensures, c.view-v.ensures, a.bytes-are) at (c.child-own.ensures K q s z)) in (rw c.view-v.ensures at c.siblings_legal.ensures) K (q ▸ m) s d k b ∙ sym (element-inside K _ q _ m k (λ y. c.if-own-eq129.false (sym d ∙ y)) (sym (rw (c.view-v.ensures, a.bytes-are) at (simp between_is at c.same_bytes.ensures)) ∙ c.if-same_bytes.false) (sym (c.is_above.ensures c.args.keys.now.text.now K (q ▸ m) s d) ∙ c.if-not-is_above.false) (sym ((rw c.view-v.ensures at c.has_keys.ensures) K (q ▸ m) s d k b) ∙ c.if-not-has_keys.false))

pub siblings_legal-loop-p-init : goal.siblings_legal-loop-p-init
siblings_legal-loop-p-init t c = (omega arith, c.requires.0, λ K q s z f h. legally-start h)

pub siblings_legal-own_times-requires : goal.siblings_legal-own_times-requires
siblings_legal-own_times-requires t c = let s = walk-front c.loop-p.invariant.1 c.loop-p-test.true in (s.forward, (walk-node c.loop-p.invariant.1 c.loop-p-test.true).valid)

pub siblings_legal-returns-in_default : goal.siblings_legal-returns-in_default
siblings_legal-returns-in_default t c K q s z f h = let x = c.loop-p.invariant.2 K q s z f h in let b = c.loop-p-test.true in let w = c.in_default.ensures c.args.n _ x.left c.requires.1 c.requires.2 b x.tape in sym (legally-own x b (sym w.some-is))

pub siblings_legal-element_at-e-requires : goal.siblings_legal-element_at-e-requires
siblings_legal-element_at-e-requires t c = (walk-front c.loop-p.invariant.1 c.loop-p-test.true).held

pub siblings_legal-element_legal-requires : goal.siblings_legal-element_legal-requires
siblings_legal-element_legal-requires t c = let A = c.requires.0.placed in let K = A.key_list in let q = A.path in let s = A.table in let z = A.place_is in let f = c.requires.0.valid.forest in let h = c.requires.0.valid.tape in let x = c.loop-p.invariant.2 K q s z f h in let b = c.loop-p-test.true in let w = c.in-Some.ensures c.args.n _ x.left c.requires.1 c.requires.2 b x.tape in let o = sym w.some-is in let y = the-sib x b o in rw c.element_at-e.ensures (omega (arith, y.low, y.inside, tape-le y.tape, c.loop-p.invariant.0, c.decreases), record { placed = A; name = y.name; kids = y.kids; node = y.node; tape = y.tape; few = c.requires.1; only = w.own.0 })

pub siblings_legal-returns-then-not-element_legal : goal.siblings_legal-returns-then-not-element_legal
siblings_legal-returns-then-not-element_legal t c K q s z f h = let x = c.loop-p.invariant.2 K q s z f h in let b = c.loop-p-test.true in let w = c.in-Some.ensures c.args.n _ x.left c.requires.1 c.requires.2 b x.tape in let o = sym w.some-is in let y = the-sib x b o in sym (legally-element x b o (ap (λ u. element_legal K c.args.n q u y.name y.kids) (sym w.own.1) ∙ sym ((rw c.element_at-e.ensures at c.element_legal.ensures) K q s z y.name y.kids y.node y.tape) ∙ c.if-not-element_legal.true))

pub siblings_legal-ascends-requires : goal.siblings_legal-ascends-requires
siblings_legal-ascends-requires t c = let A = c.requires.0.placed in let K = A.key_list in let q = A.path in let s = A.table in let z = A.place_is in let f = c.requires.0.valid.forest in let h = c.requires.0.valid.tape in let x = c.loop-p.invariant.2 K q s z f h in let b = c.loop-p-test.true in let w = c.in-Some.ensures c.args.n _ x.left c.requires.1 c.requires.2 b x.tape in let o = sym w.some-is in let y = the-sib x b o in rw c.element_at-e.ensures (λ l. last-labelled s z x.last_one l, record { key_list = K; path = q; tabled = s; place_is = z; name = y.name; kids = y.kids; node = y.node; tape = y.tape; once = element-once K c.args.n q _ y.name y.kids (ap (λ u. element_legal K c.args.n q u y.name y.kids) (sym w.own.1) ∙ sym ((rw c.element_at-e.ensures at c.element_legal.ensures) K q s z y.name y.kids y.node y.tape) ∙ c.if-not-element_legal.false) })

pub siblings_legal-returns-then-not-ascends : goal.siblings_legal-returns-then-not-ascends
siblings_legal-returns-then-not-ascends t c K q s z f h = let x = c.loop-p.invariant.2 K q s z f h in let b = c.loop-p-test.true in let w = c.in-Some.ensures c.args.n _ x.left c.requires.1 c.requires.2 b x.tape in let o = sym w.some-is in let y = the-sib x b o in sym (legally-not x b o (sym ((rw c.element_at-e.ensures at c.ascends.ensures) K q s z x.before-it y.name y.kids x.last_one y.node y.tape) ∙ c.if-not-ascends.true))

pub siblings_legal-view-p-requires : goal.siblings_legal-view-p-requires
siblings_legal-view-p-requires t c = (walk-front c.loop-p.invariant.1 c.loop-p-test.true).held

pub siblings_legal-loop-p-smaller : goal.siblings_legal-loop-p-smaller
siblings_legal-loop-p-smaller t c = let s = walk-front c.loop-p.invariant.1 c.loop-p-test.true in rw c.view-p.ensures (omega (arith, s.forward, s.inside))

pub siblings_legal-loop-p-preserved : goal.siblings_legal-loop-p-preserved
siblings_legal-loop-p-preserved t c = let k = walk-front c.loop-p.invariant.1 c.loop-p-test.true in rw (c.view-p.ensures, c.element_at-e.ensures) (omega (arith, k.forward, c.loop-p.invariant.0), walk-next c.loop-p.invariant.1 c.loop-p-test.true, λ K q s z f h. let x = c.loop-p.invariant.2 K q s z f h in let b = c.loop-p-test.true in let w = c.in-Some.ensures c.args.n _ x.left c.requires.1 c.requires.2 b x.tape in let o = sym w.some-is in let y = the-sib x b o in legally-more x b o (ap (λ u. element_legal K c.args.n q u y.name y.kids) (sym w.own.1) ∙ sym ((rw c.element_at-e.ensures at c.element_legal.ensures) K q s z y.name y.kids y.node y.tape) ∙ c.if-not-element_legal.false) (sym ((rw c.element_at-e.ensures at c.ascends.ensures) K q s z x.before-it y.name y.kids x.last_one y.node y.tape) ∙ c.if-not-ascends.false))

pub siblings_legal-returns : goal.siblings_legal-returns
siblings_legal-returns t c K q s z f h = sym (legally-done (c.loop-p.invariant.2 K q s z f h) c.loop-p-test.false)
