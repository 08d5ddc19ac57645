-- What has been read spells what is open: the invariant of reading, and how it grows.
use Rattle.std.specs.Prelude.{ℕ, ◌≡◌, refl, Bool, true, false, ◌||◌, [], ◌∷◌, ◌++◌}
use Rattle.std.proofs.Common.{ap, sym, ◌∙◌, subst, append_assoc, append-nil}
use Rattle.xml.specs.Bytes.{Bytes, bytes, all, is_name, is_times, is_white}
use Rattle.xml.specs.Forest.{Forest, end, elem, text, stamp, join, NotText, Root}
use Rattle.xml.specs.Grammar.{Content, nothing, run, element, lone, times, Spells}
use Rattle.xml.specs.Read.{Tag, named, timed, tag_name, tag_node, Stack, outer, inside, is_end}
use Rattle.xml.specs.Truth.{clash, both_true, both}
use Rattle.xml.specs.Spelled.{root-some}
use Rattle.xml.specs.Runs.{Ends}

-- ---- contents one after another
unfoldable pub ends_text : Forest → Bool
ends_text end = false
ends_text (elem n k r) = ends_text r
ends_text (text b r) = is_end r || ends_text r
ends_text (stamp t k r) = ends_text r

text-join : (f r : Forest) → NotText f → (is_end f || ends_text f ≡ true → NotText r) → NotText (join f r)
unfolding join is_end
text-join end r n h = h refl
text-join (elem m k f) r n h = tt
text-join (text b f) r n h = absurd n
text-join (stamp t k f) r n h = tt

or_right : {x : Bool} (y : Bool) → x ≡ true → y || x ≡ true
or_right true e = refl
or_right false e = e

pub content-join : {a : Bool} {s u : Bytes} {f r : Forest} → Content a s f → Content a u r → (ends_text f ≡ true → NotText r) → Content a (s ++ u) (join f r)
unfolding join ends_text
content-join nothing d h = d
content-join {u = u} {r = r} (run {s = s} {u = v} {r = f} c e o n k) d h =
    rw (append_assoc s v u) (run c e o (text-join f r n h) (content-join k d (λ x. h (or_right (is_end f) x))))
content-join {u = u} (element {n = n} {s = s} {u = v} e c k) d h =
    rw (append_assoc (bytes "<" ++ n ++ bytes ">" ++ s ++ bytes "</" ++ n ++ bytes ">") v u) (element e c (content-join k d h))
content-join {u = u} (lone {n = n} {u = v} e k) d h = rw (append_assoc (bytes "<" ++ n ++ bytes "/>") v u) (lone e (content-join k d h))
content-join {u = u} (times {t = t} {s = s} {u = v} g e c k) d h =
    rw (append_assoc (bytes "<T t=\"" ++ t ++ bytes "\">" ++ s ++ bytes "</T>") v u) (times g e c (content-join k d h))

-- ---- tags
abbrev pub opening : Tag → Bytes
opening (named n) = bytes "<" ++ n ++ bytes ">"
opening (timed t) = bytes "<T t=\"" ++ t ++ bytes "\">"

abbrev pub closing : Tag → Bytes
closing o = bytes "</" ++ tag_name o ++ bytes ">"

abbrev pub Legal : Bool → Tag → Type 0
Legal a (named n) = is_name n ≡ true
Legal a (timed t) = (a ≡ true) × (all is_times t ≡ true)

times-shut : bytes "</" ++ bytes "T" ++ bytes ">" ≡ bytes "</T>"
unfolding bytes
times-shut = refl

node : {a : Bool} {s : Bytes} {f : Forest} (o : Tag) → Legal a o → Content a s f → Content a (opening o ++ s ++ closing o) (tag_node o f)
node {a} {s} {f} (named n) l c =
    subst (λ (x : Bytes). Content a x (elem n f end)) (simp (append_assoc, append-nil)) (element l c nothing)
node {a} {s} {f} (timed t) l c = rw times-shut (rw append-nil at (times l.0 l.1 c nothing))

-- ---- what has been read: white space; one root, and white space after it; or what stands before an open tag, the tag, and content so far
abbrev pub Fresh : Stack → Forest → Type 0
Fresh outer g = is_end g ≡ true
Fresh (inside o f st) g = Unit {0}

pub data Opened (a : Bool) : Stack → Bytes → Forest → Type 0 where
  blank : {w : Bytes} → all is_white w ≡ true → Opened a outer w end
  done : {s : Bytes} {f : Forest} → Spells a s f → Opened a outer s f
  within : {st : Stack} {p s : Bytes} {g f : Forest} (o : Tag) → Opened a st p g → Fresh st g → Legal a o → Content a s f →
      Opened a (inside o g st) (p ++ opening o ++ s) f

-- what may follow: after a run of text, a `<` or nothing
abbrev pub Free : Stack → Forest → Bytes → Type 0
Free outer f s = Unit {0}
Free (inside o g st) f s = ends_text f ≡ true → Ends s

-- more content in an element
pub opened-more : {a : Bool} {o : Tag} {g f x : Forest} {st : Stack} {p v : Bytes} → Opened a (inside o g st) p f → Content a v x → (ends_text f ≡ true → NotText x) →
    Opened a (inside o g st) (p ++ v) (join f x)
opened-more {v = v} (within {p = p} {s = s} o q h l c) d e = rw (append_assoc (p ++ opening o) s v) (within o q h l (content-join c d e))

root-text : (f : Forest) → Root f → NotText f
root-text end r = tt
root-text (elem n k f) r = tt
root-text (text b f) r = absurd r
root-text (stamp t k f) r = tt

-- one node more
pub opened-node : {a : Bool} {st : Stack} {p v : Bytes} {g x : Forest} → Opened a st p g → Fresh st g → Content a v x → Root x → Opened a st (p ++ v) (join g x)
unfolding join all
opened-node {v = v} (blank {w = w} e) h c r =
    done (record { before = w; inner = v; after = []; text-is = sym (append-nil (w ++ v)); white-before = e; white-after = refl; content = c; root = r })
opened-node (done {f = f} s) h c r = clash (sym h ∙ root-some f s.root)
opened-node {x = x} (within o q f l d) h c r = opened-more (within o q f l d) c (λ e. root-text x r)

-- a start tag
pub opened-start : {a : Bool} {st : Stack} {p : Bytes} {g : Forest} (o : Tag) → Opened a st p g → Fresh st g → Legal a o → Opened a (inside o g st) (p ++ opening o) end
opened-start {a} {st} {p} {g} o q h l = rw append-nil at (within o q h l nothing)

-- an end tag
pub node-root : (o : Tag) (f : Forest) → Root (tag_node o f)
node-root (named n) f = refl
node-root (timed t) f = refl

pub opened-end : {a : Bool} {o : Tag} {st : Stack} {p : Bytes} {g f : Forest} → Opened a (inside o g st) p f → Opened a st (p ++ closing o) (join g (tag_node o f))
opened-end {a} {st = st} {g = g} {f = f} (within {p = p} {s = s} o q h l c) =
    subst (λ (x : Bytes). Opened a st x (join g (tag_node o f))) (simp append_assoc) (opened-node q h (node o l c) (node-root o f))

-- white space outside the root
all_append : (f : ℕ → Bool) (s t : Bytes) → all f s ≡ true → all f t ≡ true → all f (s ++ t) ≡ true
unfolding all
all_append f [] t e h = h
all_append f (b ∷ s) t e h = let i = both_true (f b) (all f s) e in both i.0 (all_append f s t i.1 h)

pub opened-white : {a : Bool} {p : Bytes} {f : Forest} (w : Bytes) → Opened a outer p f → all is_white w ≡ true → Opened a outer (p ++ w) f
opened-white w (blank {w = v} e) h = blank (all_append is_white v w e h)
opened-white w (done s) h =
    done (record {
      before = s.before;
      inner = s.inner;
      after = s.after ++ w;
      text-is = ap (◌++ w) s.text-is ∙ append_assoc (s.before ++ s.inner) s.after w;
      white-before = s.white-before;
      white-after = all_append is_white s.after w s.white-after h;
      content = s.content;
      root = s.root;
    })

pub opened-finish : {a : Bool} {s : Bytes} {f : Forest} → Opened a outer s f → is_end f ≡ false → Spells a s f
unfolding is_end
opened-finish (blank e) h = clash h
opened-finish (done s) h = s

-- after a node anything may follow
ends_join : (f x : Forest) → ends_text x ≡ false → is_end x ≡ false → ends_text (join f x) ≡ false
unfolding join ends_text is_end
ends_join end x e h = e
ends_join (elem m k r) x e h = ends_join r x e h
ends_join (text b end) x e h = rw (h, e)
ends_join (text b (elem m k r)) x e h = ends_join r x e h
ends_join (text b (text c r)) x e h = ends_join (text c r) x e h
ends_join (text b (stamp t k r)) x e h = ends_join r x e h
ends_join (stamp t k r) x e h = ends_join r x e h

root_ends : (x : Forest) → Root x → ends_text x ≡ false
unfolding ends_text
root_ends end r = refl
root_ends (elem n k x) r = rw r
root_ends (text b x) r = absurd r
root_ends (stamp t k x) r = rw r

pub free-node : (st : Stack) (f x : Forest) (s : Bytes) → Root x → Free st (join f x) s
free-node outer f x s r = tt
free-node (inside o g st) f x s r = λ e. clash (sym e ∙ ends_join f x (root_ends x r) (root-some x r))

pub free-end : (st : Stack) (s : Bytes) → Free st end s
unfolding ends_text
free-end outer s = tt
free-end (inside o g st) s = λ e. clash (sym e)
