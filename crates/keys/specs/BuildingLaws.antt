-- An element built: its first cell, what it holds, and its second cell, written last; and content that is copied.
use Rattle.std.specs.Prelude.{Option, Some, None, is_none, ℕ, ◌+◌, ◌*◌, ◌<◌, ◌≤◌, ◌≡◌, false, List, length, get_or, set}
use native.Mathlib.Omega.{arith}
use Rattle.std.proofs.Common.{sym, ◌∙◌, ap, length-set, get_or-set_same, get_or-set_other}
use Rattle.xml.specs.Bytes.{Bytes}
use Rattle.xml.specs.Forest.{Forest, end}
use Rattle.xml.specs.Tape.{head_at, next_at, Node, at-end, at-elem, size}
use Rattle.xml.specs.TapeLaws.{tape-size, node-same, tape-same}
use Rattle.keys.specs.KeyList.{Path, KeyList, above}
use Rattle.keys.specs.Version.{◌▸◌, ordered}
use Rattle.keys.specs.Beneath.{front-single, front_ordered}
use Rattle.keys.specs.DropLaws.{front-drop}
use Rattle.keys.specs.Table.{place_of}
use Rattle.keys.specs.Placed.{OfPlace}
use Rattle.keys.specs.Arranged.{arranged}
use Rattle.keys.specs.Copied.{Linked, Copied, tape-linked, tape-moved}
use Rattle.keys.specs.ResultLaws.{none-not, some-is}
use Rattle.keys.specs.Building.{ContentFit, ElementFit, ContentBuilt, ElementBuilt, ContentArranged, ElementArranged, content-once}

module _ {key_text : Bytes} {table : List ℕ} {n place : ℕ} {src cells : List ℕ} {p : ℕ} where
  -- what an element holds, at its own place
  pub fit-kids : {own m : ℕ} (g : ElementFit key_text table n place src cells p m) → place_of g.key_list (g.path ▸ g.name) ≡ own
      → ContentFit key_text table n own src cells (p + 1) (next_at cells p) (m + 1)
  fit-kids g e =
      record {
        key_list = g.key_list;
        path = g.path ▸ g.name;
        tabled = g.tabled;
        place_is = e;
        forest = g.kids;
        tape = g.tape;
        start = omega (arith, g.node.held);
        placed = g.kid.placed;
        keyed = g.kid.keyed;
        fits = g.fits;
      }

  -- 9 applies to what it holds
  pub element-twice : {own m : ℕ} {e : Option ℕ} {out mid new left : List ℕ} → OfPlace key_text table n place (λ K q. (b : Bytes) → Node src cells p 1 b → place_of K (q ▸ b) ≡ own)
      → ContentArranged key_text table n own src cells (p + 1) (next_at cells p) new (m + 1) e mid → e ≡ None → ElementArranged key_text table n place src cells p out m None left
  element-twice {e = e} of_place c z =
      record { doubled-is = λ K q t d b k a h. ap is_none (sym z) ∙ c.doubled-is K (q ▸ b) t (of_place K q t d b a) k h; built = λ i x. none-not x }

  module _ {own : ℕ} (out : List ℕ) (m : ℕ) (mid : List ℕ) (r : Option ℕ) (e : ℕ) (of_place : OfPlace key_text table n place (λ K q. (b : Bytes) → Node src cells p 1 b → place_of K (q ▸ b) ≡ own))
      (w : ContentArranged key_text table n own src cells (p + 1) (next_at cells p) (set out (2 * m) (head_at cells p)) (m + 1) r mid) (apart : r ≡ Some e) (o : length mid ≡ length out) (room : 2 * e ≤ length mid)
      (here : 2 * m + 1 < length out) where
    inner : ContentBuilt key_text table n own src cells (p + 1) (next_at cells p) (set out (2 * m) (head_at cells p)) (m + 1) e mid
    inner = w.built e apart

    other : (i : ℕ) → (i ≡ 2 * m + 1 → ⊥) → get_or (set mid (2 * m + 1) e) i 0 ≡ get_or mid i 0
    other i d = get_or-set_other mid (2 * m + 1) i e 0 d

    first : head_at (set mid (2 * m + 1) e) m ≡ head_at cells p
    first = other (2 * m) (omega arith) ∙ inner.kept (2 * m) (omega arith) ∙ get_or-set_same out (2 * m) (head_at cells p) 0 (omega arith)

    second : next_at (set mid (2 * m + 1) e) m ≡ e
    second = get_or-set_same mid (2 * m + 1) e 0 (omega arith)

    element-built : ElementBuilt key_text table n place src cells p out m e (set mid (2 * m + 1) e)
    element-built =
        record {
          kept = λ i l. other i (omega arith) ∙ inner.kept i (omega arith) ∙ get_or-set_other out (2 * m) i (head_at cells p) 0 (omega arith);
          tape = λ K q t d b k a h.
              at-elem {q = e} {k = arranged K (q ▸ b) k} {r = end} (node-same (set mid (2 * m + 1) e) first (simp length-set (omega arith)) a)
              (rw second (tape-same (set mid (2 * m + 1) e) (record { room = simp length-set room; same = λ i x y. other i (omega arith) }) (inner.tape K (q ▸ b) t (of_place K q t d b a) k h)))
              (at-end second);
        }

    pub element-arranged : ElementArranged key_text table n place src cells p out m (Some e) (set mid (2 * m + 1) e)
    element-arranged = record { doubled-is = λ K q t d b k a h. sym (ap is_none apart) ∙ w.doubled-is K (q ▸ b) t (of_place K q t d b a) k h; built = λ i x. rw (sym (some-is x)) element-built }

  -- an element's end is within the tape
  pub element-end : {own m e : ℕ} {out mid : List ℕ} (g : ElementFit key_text table n place src cells p m) → place_of g.key_list (g.path ▸ g.name) ≡ own
      → ContentBuilt key_text table n own src cells (p + 1) (next_at cells p) out (m + 1) e mid → e ≤ 512
  element-end g d c = omega (arith, tape-size (c.tape g.key_list (g.path ▸ g.name) g.tabled d g.kids g.tape), g.fits)

  pub element-size : {m e : ℕ} {out left : List ℕ} → ElementFit key_text table n place src cells p m → ElementBuilt key_text table n place src cells p out m e left → (m < e) × (e ≤ 512)
  unfolding size
  element-size g b =
      let z = tape-size (b.tape g.key_list g.path g.tabled g.place_is g.name g.kids g.node g.tape) in (omega arith, omega (arith, g.fits))

-- ---- beneath a frontier the nodes are copied
front-arranged : (K : KeyList) (q : Path) (f : Forest) → above K q ≡ false → arranged K q f ≡ f
front-arranged K q f a = ap (ordered K q) (front-drop K q f a) ∙ front_ordered K q f a

module _ {key_text : Bytes} {table : List ℕ} {n place : ℕ} {src cells : List ℕ} {lo hi m : ℕ} (g : ContentFit key_text table n place src cells lo hi m) where
  pub fit-linked : Linked cells lo hi
  fit-linked = tape-linked g.tape g.start

  pub fit-few : above g.key_list g.path ≡ false → m + hi ≤ 512 + lo
  fit-few a = omega (arith, g.fits, tape-size g.tape, ap size (front-arranged g.key_list g.path g.forest a))

  pub content-copied : (out : List ℕ) {r : ℕ} {left : List ℕ} → OfPlace key_text table n place (λ K q. above K q ≡ false) → Copied cells lo hi out m r left → m + hi ≤ 512 + lo → 1024 ≤ length out
      → ContentArranged key_text table n place src cells lo hi out m (Some r) left
  content-copied out {r} {left} a c few long =
      content-once (λ K q t e f h. sym (front-single K q f (a K q t e)))
      (record {
        kept = c.kept;
        tape = λ K q t e f h. rw (front-arranged K q f (a K q t e)) (tape-moved left m c.moved (omega (arith, c.size)) m r h (omega arith) (omega arith) (omega arith) c.count);
      })
