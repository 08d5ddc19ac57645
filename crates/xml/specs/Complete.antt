-- Completeness of reading: a text is read as the forest that it spells.
use Rattle.std.specs.Prelude.{ℕ, ◌≡◌, refl, Bool, false}
use Prim.Native.Char.{code}
use Rattle.std.proofs.Common.{ap, sym, ◌∙◌}
use mathlib.Core.List.{[], ◌∷◌, ◌++◌, append_assoc, append-nil}
use Rattle.std.proofs.lemmas.Bool.{eqb-false}
use Rattle.xml.specs.Bytes.{Bytes, bytes, is_start, bytes_compute}
use Rattle.xml.specs.Forest.{Forest, end, elem, text, stamp, join, NotText, Root}
use Rattle.xml.specs.Grammar.{Content, nothing, run, element, lone, times, Spells}
use Rattle.xml.specs.Read.{Tag, named, timed, Stack, outer, inside, whole, is_end, start_tag, step, finish, go, read}
use Rattle.xml.specs.Truth.{clash}
use Rattle.xml.specs.Clear.{clear-start}
use Rattle.xml.specs.Spelled.{root-some}
use Rattle.xml.specs.Names.{name-first}
use Rattle.xml.specs.StepLaws.{step_start, out-start, finish-done}
use Rattle.xml.specs.Goes.{Goes, goes_none, goes_then, goes-start, goes-lone, goes-timed, goes_end, goes-text, goes-white}

-- ---- forests one after another
pub join-end : (f : Forest) → join f end ≡ f
unfolding join
join-end end = refl
join-end (elem n k r) = ap (elem n k) (join-end r)
join-end (text b r) = ap (text b) (join-end r)
join-end (stamp t k r) = ap (stamp t k) (join-end r)

pub join-assoc : (f g h : Forest) → join (join f g) h ≡ join f (join g h)
unfolding join
join-assoc end g h = refl
join-assoc (elem n k r) g h = ap (elem n k) (join-assoc r g h)
join-assoc (text b r) g h = ap (text b) (join-assoc r g h)
join-assoc (stamp t k r) g h = ap (stamp t k) (join-assoc r g h)

-- ---- the texts of the grammar, from the left
module _ (n u t : Bytes) where
  element-text : (s : Bytes) → bytes "<" ++ n ++ bytes ">" ++ s ++ bytes "</" ++ n ++ bytes ">" ++ u ++ t
      ≡ code "<" ∷ (n ++ code ">" ∷ (s ++ code "<" ∷ code "/" ∷ (n ++ code ">" ∷ (u ++ t))))
  unfolding bytes
  element-text s = simp append_assoc

  lone-text : bytes "<" ++ n ++ bytes "/>" ++ u ++ t ≡ code "<" ∷ (n ++ code "/" ∷ code ">" ∷ (u ++ t))
  unfolding bytes
  lone-text = simp append_assoc

  times-text : (s : Bytes) → bytes "<T t=\"" ++ n ++ bytes "\">" ++ s ++ bytes "</T>" ++ u ++ t
      ≡ code "<" ∷ code "T" ∷ code " " ∷ code "t" ∷ code "=" ∷ code "\"" ∷ (n ++ code "\"" ∷ code ">" ∷ (s ++ code "<" ∷ code "/" ∷ (bytes "T" ++ code ">" ∷ (u ++ t))))
  unfolding bytes
  times-text s = simp append_assoc

slash-start : is_start (code "/") ≡ false
unfolding bytes_compute
slash-start = refl

-- after a text stands a tag
tag-next : {a : Bool} {u : Bytes} {r : Forest} (t : Bytes) → NotText r → Content a u r → (v : Bytes) × (u ++ code "<" ∷ t ≡ code "<" ∷ v)
tag-next t n nothing = (t, refl)
tag-next t n (run c e o m r) = absurd n
tag-next t n (element {n = x} {s = s} {u = u} e k r) = (_, element-text x u (code "<" ∷ t) s)
tag-next t n (lone {n = x} {u = u} e r) = (_, lone-text x u (code "<" ∷ t))
tag-next t n (times {t = x} {s = s} {u = u} h e k r) = (_, times-text x u (code "<" ∷ t) s)

-- reading goes over content in an element
goes-content : {a : Bool} {s : Bytes} {f : Forest} (o : Tag) (g : Forest) (st : Stack) (f₀ : Forest) (t : Bytes) → Content a s f →
    Goes a (inside o g st) f₀ (s ++ code "<" ∷ t) (inside o g st) (join f₀ f) (code "<" ∷ t)
unfolding join
goes-content o g st f₀ t nothing = rw join-end goes_none
goes-content {a} o g st f₀ t (run {s = s} {t = v} {u = u} {r = r} c e h n k) =
    let x = tag-next t n k in
    let q : Goes a (inside o g st) (join f₀ (text v end)) (u ++ code "<" ∷ t) (inside o g st) (join f₀ (text v r)) (code "<" ∷ t) =
    rw join-assoc at (goes-content o g st (join f₀ (text v end)) t k)
    in
    rw (append_assoc s u (code "<" ∷ t), x.1) (goes_then (goes-text a o g st f₀ x.0 c e (clear-start h)) (rw x.1 at q))
goes-content {a} o g st f₀ t (element {n = n} {s = s} {u = u} {k = k} {r = r} e c d) =
    let here = inside o g st in
    let w = code "<" ∷ t in
    let v = s ++ code "<" ∷ code "/" ∷ (n ++ code ">" ∷ (u ++ w)) in
    rw (element-text n u w s)
    (goes_then (goes-start a here f₀ n v e (step_start a o g st f₀ (code "<") (n ++ code ">" ∷ v) refl (name-first n (code ">" ∷ v) (code "/") e slash-start)))
    (goes_then (goes-content (named n) f₀ here end (code "/" ∷ (n ++ code ">" ∷ (u ++ w))) c)
    (goes_then (goes_end a (named n) f₀ here k (u ++ w)) (rw join-assoc at (goes-content o g st (join f₀ (elem n k end)) t d)))))
goes-content {a} o g st f₀ t (lone {n = n} {u = u} {r = r} e d) =
    let here = inside o g st in
    let w = code "<" ∷ t in
    let v = code "/" ∷ code ">" ∷ (u ++ w) in
    rw (lone-text n u w)
    (goes_then (goes-lone a here f₀ n (u ++ w) e (step_start a o g st f₀ (code "<") (n ++ v) refl (name-first n v (code "/") e slash-start)))
    (rw join-assoc at (goes-content o g st (join f₀ (elem n end end)) t d)))
goes-content {a} o g st f₀ t (times {t = n} {s = s} {u = u} {k = k} {r = r} h e c d) =
    let here = inside o g st in
    let w = code "<" ∷ t in
    let v = s ++ code "<" ∷ code "/" ∷ (bytes "T" ++ code ">" ∷ (u ++ w)) in
    rw (times-text n u w s)
    (goes_then (goes-timed here f₀ n v e a h (step_start a o g st f₀ (code "<") _ refl (λ x. eqb-false (code "T") (code "/") refl x)))
    (goes_then (goes-content (timed n) f₀ here end (code "/" ∷ (bytes "T" ++ code ">" ∷ (u ++ w))) c)
    (goes_then (goes_end a (timed n) f₀ here k (u ++ w)) (rw join-assoc at (goes-content o g st (join f₀ (stamp n k end)) t d)))))

-- ---- the root
not_end : {A : Type 0} (f : Forest) → is_end f ≡ false → f ≡ end → A
unfolding is_end
not_end f e h = clash (sym (ap is_end h) ∙ e)

pub content-end : {a : Bool} {u : Bytes} {r : Forest} → Content a u r → r ≡ end → u ≡ []
unfolding is_end
content-end nothing e = refl
content-end (run {t = t} {r = r} c e o n d) h = not_end (text t r) refl h
content-end (element {n = n} {k = k} {r = r} e c d) h = not_end (elem n k r) refl h
content-end (lone {n = n} {r = r} e d) h = not_end (elem n end r) refl h
content-end (times {t = t} {k = k} {r = r} h e c d) g = not_end (stamp t k r) refl g

out-tag : (a : Bool) (s : Bytes) → step a outer end (code "<" ∷ s) ≡ start_tag a outer end s
unfolding bytes_compute is_end
out-tag a s = out-start a end (code "<") s refl refl refl

goes-root : {a : Bool} {s : Bytes} {f : Forest} (t : Bytes) → Content a s f → Root f → Goes a outer end (s ++ t) outer f t
unfolding join
goes-root t nothing h = absurd h
goes-root t (run c e o n d) h = absurd h
goes-root {a} t (element {n = n} {s = s} {u = u} {k = k} {r = r} e c d) h =
    let v = s ++ code "<" ∷ code "/" ∷ (n ++ code ">" ∷ t) in
    rw (element-text n u t s, content-end d h, h)
    (goes_then (goes-start a outer end n v e (out-tag a (n ++ code ">" ∷ v)))
    (goes_then (goes-content (named n) end outer end (code "/" ∷ (n ++ code ">" ∷ t)) c) (goes_end a (named n) end outer k t)))
goes-root {a} t (lone {n = n} {u = u} {r = r} e d) h =
    rw (lone-text n u t, content-end d h, h) (goes-lone a outer end n t e (out-tag a (n ++ code "/" ∷ code ">" ∷ t)))
goes-root {a} t (times {t = n} {s = s} {u = u} {k = k} {r = r} g e c d) h =
    let v = s ++ code "<" ∷ code "/" ∷ (bytes "T" ++ code ">" ∷ t) in
    rw (times-text n u t s, content-end d h, h)
    (goes_then (goes-timed outer end n v e a g (out-tag a _))
    (goes_then (goes-content (timed n) end outer end (code "/" ∷ (bytes "T" ++ code ">" ∷ t)) c) (goes_end a (timed n) end outer k t)))

go-nil : (a : Bool) (f : Forest) (at : ℕ) → go a outer f at 0 [] ≡ finish outer f at
unfolding go
go-nil a f at = refl

pub read-complete : (a : Bool) (s : Bytes) (f : Forest) → Spells a s f → read a s ≡ whole f
unfolding read
read-complete a s f p =
    let g =
    goes_then (goes-white a end p.before (p.inner ++ p.after) p.white-before)
    (goes_then (goes-root p.after p.content p.root) (rw append-nil at (goes-white a f p.after [] p.white-after)))
    in
    ap (go a outer end 0 0) (p.text-is ∙ append_assoc p.before p.inner p.after) ∙ g.goes 0 ∙ go-nil a f (g.later 0)
    ∙ finish-done f (g.later 0) (root-some f p.root)
