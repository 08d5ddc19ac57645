-- Hashes: numbers that equal forests share, so that contents with different hashes need no comparison.
use Prim.Native.Nat.{ℕ, zero, suc, ◌+◌, ◌-◌, ◌*◌, ◌%◌, ◌≤◌, ◌<◌}
use native.Mathlib.Omega.{arith}
use Rattle.std.proofs.Common.{add-one, sym, ◌∙◌, length-drop, take-append-drop, drop-cons, take-suc-set}
use Rattle.std.specs.Prelude.{◌≡◌, Bool, not, ◌&&◌, List, [], ◌∷◌, ◌++◌, eqb, length, take, drop, get_or, set}
use Rattle.std.proofs.Math.Path.{refl, ap, ap₂}
use Rattle.std.proofs.Math.Bool.{true, false}
use borrow.Author.Tests.{eq-eqb, ne_eqb, not-true, not-false}
use Rattle.std.proofs.Math.Seq.{slice, slice_empty}
use Rattle.xml.specs.Bytes.{Bytes}
use Rattle.xml.specs.BytesLaws.{forest-is}
use Rattle.xml.specs.Forest.{Forest, end, elem, text, stamp, join, same_forest}
use Rattle.xml.specs.Read.{unescape}
use Rattle.xml.specs.SignLaws.{Meant}
use Rattle.xml.specs.Tape.{head_at, next_at, Tape, at-end, at-text, at-elem, at-stamp, size}
use Rattle.xml.specs.TapeLaws.{bytes_at, tape-none, tape-size, tape-join, tape-one, front, split, inner-node}
use Rattle.xml.specs.Truth.{by-test, not_so, and_left, and_right}
use Rattle.xml.specs.declared.text.Sign.{Sign}
use Rattle.keys.specs.Legal.{untimed}
use Rattle.timestamp.specs.Set.{joined, first_in}
use Rattle.timestamp.specs.Parse.{accepted, parsed}
use Rattle.versions.specs.Branches.{first, repeats, follows, Way, way-timed, way-repeats, way-more}

-- a number folded into a hash
unfoldable pub mixed : ℕ → ℕ → ℕ
mixed h b = (h * 31 + b) % 65536

-- bytes folded into a hash
unfoldable pub folded : ℕ → Bytes → ℕ
folded h [] = h
folded h (b ∷ s) = folded (mixed h b) s

-- the hash of a forest, going on from h: its nodes in order by their kinds, runs of text with their bytes
unfoldable pub hash_from : ℕ → Forest → ℕ
hash_from h end = h
hash_from h (text b r) = hash_from (folded (mixed h 0) b) r
hash_from h (elem n k r) = hash_from (hash_from (mixed h 1) k) r
hash_from h (stamp t k r) = hash_from (hash_from (mixed h 2) k) r

-- h is the hash of whichever forest the nodes lo to hi are
abbrev pub HashOf : List ℕ → List ℕ → ℕ → ℕ → ℕ → Type 0
HashOf src cells lo hi h = (f : Forest) → Tape src cells lo hi f → h ≡ hash_from 0 f

-- ---- hashes are below 65,536
pub mixed-small : (h b : ℕ) → mixed h b < 65536
unfolding mixed
mixed-small h b = omega arith

pub folded-small : (h : ℕ) (s : Bytes) → h < 65536 → folded h s < 65536
unfolding folded
folded-small h [] l = l
folded-small h (b ∷ s) l = folded-small (mixed h b) s (mixed-small h b)

-- ---- a run of text
-- what is meant first, and the run after it
pub fold_more : {src : Bytes} {i e : ℕ} {g : Sign} (h : ℕ) → Meant src i e g
    → folded h (unescape 0 (slice i e src)) ≡ folded (mixed h g.byte) (unescape 0 (slice g.next e src))
unfolding folded
fold_more h x = ap (folded h) x.means

-- the run is over
pub fold_over : (src : Bytes) (e h : ℕ) → folded h (unescape 0 (slice e e src)) ≡ h
unfolding folded unescape
fold_over src e h = rw (slice_empty e src)

-- ---- nodes
-- a node of this kind, named by these bytes, folded into a hash
unfoldable pub hash_node : ℕ → Bytes → ℕ → ℕ
hash_node kind b h =
    elim (eqb kind 0) [
      | true ↦ folded (mixed h 0) (unescape 0 b)
      | false ↦ elim (eqb kind 1) [ true ↦ mixed h 1 | false ↦ mixed h 2 ]
    ]

module _ (kind : ℕ) (b : Bytes) (h : ℕ) where
  pub node-run : kind ≡ 0 → hash_node kind b h ≡ folded (mixed h 0) (unescape 0 b)
  unfolding hash_node
  node-run e = rw (eq-eqb kind 0 e, hash_node)

  pub node-element : kind ≡ 1 → hash_node kind b h ≡ mixed h 1
  unfolding hash_node
  node-element e = rw (ne_eqb kind 0 (λ z. omega arith), eq-eqb kind 1 e, hash_node)

  pub node-timed : (kind ≡ 0 → ⊥) → (kind ≡ 1 → ⊥) → hash_node kind b h ≡ mixed h 2
  unfolding hash_node
  node-timed x y = rw (ne_eqb kind 0 x, ne_eqb kind 1 y, hash_node)

  pub node-small : hash_node kind b h < 65536
  unfolding hash_node
  node-small = at (eqb kind 0) (eqb kind 1)
    where
      at : (x y : Bool) → elim x [ true ↦ folded (mixed h 0) (unescape 0 b) | false ↦ elim y [ true ↦ mixed h 1 | false ↦ mixed h 2 ] ] < 65536
      at true y = folded-small (mixed h 0) (unescape 0 b) (mixed-small h 0)
      at false true = mixed-small h 1
      at false false = mixed-small h 2

-- ---- along a tape
-- k nodes from p on, folded into a hash one by one
unfoldable pub hash_along : List ℕ → List ℕ → ℕ → ℕ → ℕ → ℕ
hash_along src cells zero p h = h
hash_along src cells (suc k) p h = hash_along src cells k (p + 1) (hash_node (head_at cells p % 4) (bytes_at src cells p) h)

module _ (src cells : List ℕ) where
  along-split : (a b p h : ℕ) → hash_along src cells (a + b) p h ≡ hash_along src cells b (p + a) (hash_along src cells a p h)
  unfolding hash_along
  along-split zero b p h =
      let y : 0 + b ≡ b = omega arith in
      let z : p + 0 ≡ p = omega arith in
      rw (y, z) refl
  along-split (suc a) b p h =
      let y : suc a + b ≡ suc (a + b) = omega arith in
      let z : p + suc a ≡ p + 1 + a = omega arith in
      rw (y, z) (along-split a b (p + 1) (hash_node (head_at cells p % 4) (bytes_at src cells p) h))

  -- the first node, and those after it
  pub along-more : (p q h : ℕ) → p < q → hash_along src cells (q - p) p h ≡ hash_along src cells (q - (p + 1)) (p + 1) (hash_node (head_at cells p % 4) (bytes_at src cells p) h)
  unfolding hash_along
  along-more p q h l = let z : q - p ≡ suc (q - (p + 1)) = omega arith in rw z refl

  -- no node
  pub along-none : (p q h : ℕ) → q ≤ p → hash_along src cells (q - p) p h ≡ h
  unfolding hash_along
  along-none p q h l = let z : q - p ≡ 0 = omega arith in rw z refl

module _ {src cells : List ℕ} where
  -- a node, what it holds, and what comes after it
  along-node : (p h : ℕ) (r : Forest) {k : Forest} → Tape src cells (p + 1) (next_at cells p) k
      → hash_along src cells (1 + size k + size r) p h ≡ hash_along src cells (size r) (next_at cells p) (hash_along src cells (size k) (p + 1) (hash_node (head_at cells p % 4) (bytes_at src cells p) h))
  unfolding hash_along
  along-node p h r {k} t =
      let y : 1 + size k + size r ≡ suc (size k + size r) = omega arith in
      rw (y, tape-size t) (along-split src cells (size k) (size r) (p + 1) (hash_node (head_at cells p % 4) (bytes_at src cells p) h))

  along-forest : {p q : ℕ} {f : Forest} (h : ℕ) → Tape src cells p q f → hash_along src cells (size f) p h ≡ hash_from h f
  unfolding size hash_from hash_along
  along-forest h (at-end e) = refl
  along-forest {p} h (at-text {b = b} {r = r} n u e t) =
      let y : 1 + size r ≡ suc (size r) = omega arith in
      let z : hash_node (head_at cells p % 4) (bytes_at src cells p) h ≡ folded (mixed h 0) b = node-run (head_at cells p % 4) (bytes_at src cells p) h n.kind-is ∙ ap (λ (s : Bytes). folded (mixed h 0) (unescape 0 s)) n.bytes-are ∙ ap (folded (mixed h 0)) u in
      rw y (ap (hash_along src cells (size r) (p + 1)) z ∙ along-forest (folded (mixed h 0) b) t)
  along-forest {p} h (at-elem {k = k} {r = r} n i t) =
      let z = node-element (head_at cells p % 4) (bytes_at src cells p) h n.kind-is in
      along-node p h r i ∙ ap (λ (x : ℕ). hash_along src cells (size r) (next_at cells p) (hash_along src cells (size k) (p + 1) x)) z
      ∙ ap (hash_along src cells (size r) (next_at cells p)) (along-forest (mixed h 1) i) ∙ along-forest (hash_from (mixed h 1) k) t
  along-forest {p} h (at-stamp {k = k} {r = r} n i t) =
      let z = node-timed (head_at cells p % 4) (bytes_at src cells p) h (λ y. omega (arith, n.kind-is)) (λ y. omega (arith, n.kind-is)) in
      along-node p h r i ∙ ap (λ (x : ℕ). hash_along src cells (size r) (next_at cells p) (hash_along src cells (size k) (p + 1) x)) z
      ∙ ap (hash_along src cells (size r) (next_at cells p)) (along-forest (mixed h 2) i) ∙ along-forest (hash_from (mixed h 2) k) t

  -- the hash of a tape's nodes
  pub along-tape : {p q : ℕ} {f : Forest} (h : ℕ) → Tape src cells p q f → hash_along src cells (q - p) p h ≡ hash_from h f
  along-tape {p} {q} {f} h t = let z : q - p ≡ size f = omega (arith, tape-size t) in rw z (along-forest h t)

-- ---- contents
-- the hashes of what each of the nodes holds
unfoldable pub hashes_of : Forest → List ℕ
hashes_of end = []
hashes_of (text b r) = hash_from 0 end ∷ hashes_of r
hashes_of (elem n k r) = hash_from 0 k ∷ hashes_of r
hashes_of (stamp t k r) = hash_from 0 k ∷ hashes_of r

-- from the j-th on, `hashes` begins with those of what the nodes d hold
pub record Noted (hashes : List ℕ) (j : ℕ) (d : Forest) : Type 0 where
  pub more : List ℕ
  pub are : drop j hashes ≡ hashes_of d ++ more

-- that holds of whichever forest the nodes lo to hi are
abbrev pub Notes : List ℕ → List ℕ → ℕ → ℕ → List ℕ → ℕ → Type 0
Notes src cells lo hi hashes j = (d : Forest) → Tape src cells lo hi d → Noted hashes j d

-- the j-th hash is that of what the first node holds, and those of the others come after it
pub record NotedFirst (hashes : List ℕ) (j : ℕ) (k r : Forest) : Type 0 where
  pub within : j < length hashes
  pub is : get_or hashes j 0 ≡ hash_from 0 k
  pub rest : Noted hashes (j + 1) r

noted-cons : (hashes : List ℕ) (j : ℕ) (k r : Forest) (l : List ℕ) → drop j hashes ≡ hash_from 0 k ∷ (hashes_of r ++ l) → NotedFirst hashes j k r
noted-cons hashes j k r l e =
    let i : j < length hashes = omega (arith, length-drop j hashes, ap length e) in
    let d = drop-cons hashes j 0 i in
    let x : get_or hashes j 0 ≡ hash_from 0 k = cc in
    let y : drop (suc j) hashes ≡ hashes_of r ++ l = cc in
    record { within = i; is = x; rest = record { more = l; are = rw add-one y } }

module _ {src cells : List ℕ} where
  -- of the nodes p to q, what the first holds, and the others
  pub noted-first : {p q : ℕ} {f k r : Forest} {hashes : List ℕ} {j : ℕ} → Tape src cells p q f → p < q → Tape src cells (p + 1) (next_at cells p) k
      → Tape src cells (next_at cells p) q r → Noted hashes j f → NotedFirst hashes j k r
  unfolding hashes_of
  noted-first (at-end e) l i s x = absurd (omega arith)
  noted-first {k = k} {r} {hashes} {j} (at-text n u e t) l i s x =
      noted-cons hashes j k r x.more (x.are ∙ ap₂ (λ y z. hash_from 0 y ∷ (hashes_of z ++ x.more)) (sym (tape-none (rw e at i))) (tape-one t (rw e at s)))
  noted-first {k = k} {r} {hashes} {j} (at-elem n h t) l i s x =
      noted-cons hashes j k r x.more (x.are ∙ ap₂ (λ y z. hash_from 0 y ∷ (hashes_of z ++ x.more)) (tape-one h i) (tape-one t s))
  noted-first {k = k} {r} {hashes} {j} (at-stamp n h t) l i s x =
      noted-cons hashes j k r x.more (x.are ∙ ap₂ (λ y z. hash_from 0 y ∷ (hashes_of z ++ x.more)) (tape-one h i) (tape-one t s))

-- the first c hashes are those
pub noted-all : (hashes : List ℕ) (c : ℕ) (d : Forest) → take c hashes ≡ hashes_of d → Noted hashes 0 d
noted-all hashes c d e = record { more = drop c hashes; are = sym (take-append-drop c hashes) ∙ ap (λ (l : List ℕ). l ++ drop c hashes) e }

-- one content more
hashes-join : (d : Forest) (t : Bytes) (k : Forest) → hashes_of (join d (stamp t k end)) ≡ hashes_of d ++ (hash_from 0 k ∷ [])
unfolding hashes_of join
hashes-join end t k = refl
hashes-join (text b r) t k = ap (λ (l : List ℕ). hash_from 0 end ∷ l) (hashes-join r t k)
hashes-join (elem n j r) t k = ap (λ (l : List ℕ). hash_from 0 j ∷ l) (hashes-join r t k)
hashes-join (stamp s j r) t k = ap (λ (l : List ℕ). hash_from 0 j ∷ l) (hashes-join r t k)

note-more : (hashes : List ℕ) (c h : ℕ) (d : Forest) (t : Bytes) (k : Forest) → take c hashes ≡ hashes_of d → c < length hashes → h ≡ hash_from 0 k
    → take (c + 1) (set hashes c h) ≡ hashes_of (join d (stamp t k end))
note-more hashes c h d t k e l is =
    rw (add-one, take-suc-set hashes c h l, hashes-join d t k) (ap₂ (λ x y. x ++ (y ∷ [])) e is)

module _ {src cells : List ℕ} where
  -- no content yet
  pub note-none : {p : ℕ} {d : Forest} → Tape src cells p p d → [] ≡ hashes_of d
  unfolding hashes_of
  note-none t = ap hashes_of (sym (tape-none t))

  -- that of what the `T` p holds comes after those for the nodes lo to p
  pub note-next : {lo p q h : ℕ} {d f : Forest} (hashes : List ℕ) (c : ℕ) → Tape src cells lo p d → Tape src cells p q f → p < q → head_at cells p % 4 ≡ 2
      → take c hashes ≡ hashes_of d → c < length hashes → HashOf src cells (p + 1) (next_at cells p) h
      → (g : Forest) → Tape src cells lo (next_at cells p) g → take (c + 1) (set hashes c h) ≡ hashes_of g
  note-next {p = p} {h = h} {d} hashes c t u l k e i is g v =
      let s = split u l in
      let w = inner-node s.here (front u l).forward (λ z. omega arith) in
      note-more hashes c h d (bytes_at src cells p) w.kids e i (is w.kids w.tape)
      ∙ ap hashes_of (ap (join d) (sym (w.timed k)) ∙ tape-one (tape-join t s.here) v)

-- ---- different hashes, different forests
pub hashes-apart : (f g : Forest) (h x : ℕ) → h ≡ hash_from 0 f → x ≡ hash_from 0 g → (x ≡ h → ⊥) → same_forest f g ≡ false
hashes-apart f g h x a b n = not_so (same_forest f g) (λ e. n (b ∙ ap (hash_from 0) (sym (forest-is f g e)) ∙ sym a))

-- ---- the contents checked one after the other (Branches.antt), the two tests of what a `T` holds at once
module _ {src cells : List ℕ} {n : ℕ} {t : ℕ → Bool} where
  -- one of the tests fails
  pub way-illegal : {lo p q : ℕ} {u : ℕ → Bool} {m c : ℕ} {whole : Bool} → Way src cells lo p q n t u m c whole → p < q → head_at cells p % 4 ≡ 2
      → (s : ℕ → Bool) → parsed (bytes_at src cells p) ≡ accepted s → follows n u m s ≡ true
      → ((d g : Forest) → Tape src cells lo p d → Tape src cells (p + 1) (next_at cells p) g → false ≡ (untimed g && not (repeats g d))) → whole ≡ false
  way-illegal x l k s e h r =
      let g = first x.after l in
      by-test (untimed g.kids)
      (λ z. way-repeats x l k s e h (λ j v. sym (ap untimed (tape-one v g.inside) ∙ z))
      (λ d j a v. let w : untimed j ≡ true = ap untimed (tape-one v g.inside) ∙ z in
      sym (not-false (repeats j d) (sym (rw w at (r d j a v))))))
      (λ z. way-timed x l k s e h (λ j v. sym (ap untimed (tape-one v g.inside) ∙ z)))

  -- both hold: there is one content more
  pub way-legal : {lo p q : ℕ} {u v : ℕ → Bool} {m j c : ℕ} {whole : Bool} → Way src cells lo p q n t u m c whole → p < q → head_at cells p % 4 ≡ 2
      → (s : ℕ → Bool) → parsed (bytes_at src cells p) ≡ accepted s → follows n u m s ≡ true
      → ((d g : Forest) → Tape src cells lo p d → Tape src cells (p + 1) (next_at cells p) g → true ≡ (untimed g && not (repeats g d)))
      → v ≡ joined u s → j ≡ first_in 1024 s 0 → Way src cells lo (next_at cells p) q n t v j (c + 1) whole
  way-legal x l k s e h r a b =
      way-more x l k s e h (λ g v. sym (and_left (untimed g) (not (repeats g x.done)) (sym (r x.done g x.before v))))
      (λ d g y v. sym (not-true (repeats g d) (and_right (untimed g) (not (repeats g d)) (sym (r d g y v))))) a b
