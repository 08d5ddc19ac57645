-- A version put in canonical order: what is asked of its tape, and what the answer says.
use Rattle.std.specs.Prelude.{Option, Some, None, ℕ, ◌≤◌, ◌≡◌, refl, true, false, not, ◌&&◌, ◌||◌, List, [], length}
use Rattle.std.proofs.Common.{arith, sym, ◌∙◌, subst}
use Rattle.std.proofs.Math.Dec.{ltb}
use borrow.Author.Tests.{ltb-false}
use Rattle.xml.specs.Bytes.{Bytes, bytes, same}
use Rattle.xml.specs.Truth.{clash, or_left, or_right}
use Rattle.xml.specs.Forest.{Forest, end, elem, text, stamp, write, nodes, depth}
use Rattle.xml.specs.Tape.{Tape, size}
use Rattle.xml.specs.TapeLaws.{tape-size, tape-one}
use Rattle.keys.specs.ResultLaws.{ok-inj}
use Rattle.keys.specs.KeyList.{Path, KeyList, above, listed}
use Rattle.keys.specs.KeyListLaws.{rules-kept}
use Rattle.keys.specs.Version.{◌▸◌, drop_white, too_large, misplaced, unkeyed, doubled, ordered}
use Rattle.keys.specs.Sorting.{misplaced-kids, misplaced-rest, sorted}
use Rattle.keys.specs.SortedKept.{sorted-placed, sorted-nodes}
use Rattle.keys.specs.DropLaws.{unkeyed-drop, doubled-drop}
use Rattle.keys.specs.Table.{Table}
use Rattle.keys.specs.PlaceLaws.{place-root}
use Rattle.keys.specs.Building.{ContentFit, ContentArranged}

-- the nodes 0 to count are a version that has passed 6, 7 and 8
pub record VersionFit (key_text : Bytes) (table : List ℕ) (n : ℕ) (src cells : List ℕ) (count : ℕ) : Type 0 where
  pub key_list : KeyList
  pub tabled : Table key_text table n key_list
  pub forest : Forest
  pub tape : Tape src cells 0 count forest
  pub small : too_large (drop_white key_list [] forest) ≡ false
  pub placed : misplaced key_list [] (drop_white key_list [] forest) ≡ false
  pub keyed : unkeyed key_list [] (drop_white key_list [] forest) ≡ false

-- the nodes 0 to m are the version v in canonical order
pub record Ordered (K : KeyList) (v : Forest) (src left : List ℕ) (m : ℕ) : Type 0 where
  pub single : doubled K [] v ≡ false
  pub tape : Tape src left 0 m (ordered K [] v)
  pub count : m ≡ nodes v
  pub few : m ≤ 512

-- that, or 9 applies
abbrev pub AnswerOf : KeyList → Forest → List ℕ → List ℕ → Option ℕ → Type 0
AnswerOf K v src left (Some m) = Ordered K v src left m
AnswerOf K v src left None = doubled K [] v ≡ true

-- whichever key list and forest they are
abbrev pub Answers : Bytes → List ℕ → ℕ → List ℕ → List ℕ → ℕ → List ℕ → Option ℕ → Type 0
Answers key_text table n src cells count left r =
    (K : KeyList) (f : Forest) → Table key_text table n K → Tape src cells 0 count f → AnswerOf K (drop_white K [] f) src left r

-- where no element is a `T`, each node counts
size-nodes : (K : KeyList) (p : Path) (f : Forest) → misplaced K p f ≡ false → size f ≡ nodes f
unfolding size nodes misplaced
size-nodes K p end m = refl
size-nodes K p (text b r) m = omega (arith, size-nodes K p r (or_right (above K p) (misplaced K p r) m))
size-nodes K p (stamp t k r) m = clash m
size-nodes K p (elem n k r) m =
    let e = or_left (same n (bytes "T")) (above K p && not (listed K (p ▸ n))) (or_left (same n (bytes "T") || above K p && not (listed K (p ▸ n))) (misplaced K (p ▸ n) k)
    (or_left (same n (bytes "T") || above K p && not (listed K (p ▸ n)) || misplaced K (p ▸ n) k) (misplaced K p r) m)) in
    let i = size-nodes K (p ▸ n) k (misplaced-kids K p n k r m) in
    let j = size-nodes K p r (misplaced-rest K p n k r m) in
    rw e (omega arith)

module _ {key_text : Bytes} {table : List ℕ} {n : ℕ} {src cells : List ℕ} {count : ℕ} (g : VersionFit key_text table n src cells count) where
  abbrev v : Forest
  v = drop_white g.key_list [] g.forest

  few-nodes : nodes v ≤ 512
  unfolding too_large
  few-nodes = ltb-false 512 (nodes v) (or_right (ltb 16 (depth v)) (ltb 512 (nodes v)) (or_left (ltb 16 (depth v) || ltb 512 (nodes v)) (ltb 16384 (length (write v))) g.small))

  ordered-size : size (ordered g.key_list [] v) ≡ nodes v
  ordered-size =
      let s = sorted g.key_list [] v g.placed in
      size-nodes g.key_list [] (ordered g.key_list [] v) (sorted-placed g.key_list s ∙ g.placed) ∙ sorted-nodes g.key_list s

  raw-keyed : unkeyed g.key_list [] g.forest ≡ false
  raw-keyed = sym (unkeyed-drop g.key_list (rules-kept key_text g.key_list g.tabled.accepted) [] g.forest) ∙ g.keyed

  pub version-fits : ContentFit key_text table n 128 src cells 0 count 0
  version-fits =
      record {
        key_list = g.key_list;
        path = [];
        tabled = g.tabled;
        place_is = place-root g.key_list;
        forest = g.forest;
        tape = g.tape;
        start = omega arith;
        placed = g.placed;
        keyed = raw-keyed;
        fits = omega (arith, ordered-size, few-nodes);
      }

  pub version-ordered : {out left : List ℕ} {m : ℕ} → ContentArranged key_text table n 128 src cells 0 count out 0 (Some m) left
      → (K : KeyList) (f : Forest) → Table key_text table n K → Tape src cells 0 count f → Ordered K (drop_white K [] f) src left m
  version-ordered {left = left} {m = m} b K f t h =
      let e : g.key_list ≡ K = ok-inj (sym g.tabled.accepted ∙ t.accepted) in
      let x = (b.built m refl).tape g.key_list [] g.tabled (place-root g.key_list) g.forest g.tape in
      let c : m ≡ nodes v = omega (arith, tape-size x, ordered-size) in
      subst (λ J. Ordered J (drop_white J [] f) src left m) e (rw (tape-one h g.tape)
      (record {
        single = doubled-drop g.key_list (rules-kept key_text g.key_list g.tabled.accepted) [] g.forest ∙ sym (b.doubled-is g.key_list [] g.tabled (place-root g.key_list) g.forest g.tape);
        tape = x;
        count = c;
        few = omega (arith, few-nodes);
      }))

pub version-twice : {key_text : Bytes} {table : List ℕ} {n : ℕ} {src cells : List ℕ} {count : ℕ} {out left : List ℕ}
    → ContentArranged key_text table n 128 src cells 0 count out 0 None left
    → (K : KeyList) (f : Forest) → Table key_text table n K → Tape src cells 0 count f → doubled K [] (drop_white K [] f) ≡ true
version-twice {key_text} b K f t h = doubled-drop K (rules-kept key_text K t.accepted) [] f ∙ sym (b.doubled-is K [] t (place-root K) f h)

-- so whatever is answered of the whole version's nodes is the answer
pub version-answers : {key_text : Bytes} {table : List ℕ} {n : ℕ} {src cells : List ℕ} {count : ℕ} {out left : List ℕ} (r : Option ℕ) → VersionFit key_text table n src cells count
    → ContentArranged key_text table n 128 src cells 0 count out 0 r left → Answers key_text table n src cells count left r
version-answers (Some m) g b = version-ordered g b
version-answers None g b = version-twice b
