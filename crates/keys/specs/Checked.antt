-- What a walk over the siblings of a version's tape knows of them: whose children they are, and that every element has its key children.
use Rattle.std.specs.Prelude.{ℕ, ◌%◌, ◌<◌, ◌≡◌, refl, true, false, List}
use Rattle.std.proofs.Common.{arith, sym, ◌∙◌, subst}
use Rattle.xml.specs.Bytes.{Bytes}
use Rattle.xml.specs.Truth.{clash}
use Rattle.xml.specs.Forest.{Forest}
use Rattle.xml.specs.Tape.{head_at, next_at, Tape, at-end, at-text, at-elem, at-stamp}
use Rattle.keys.specs.ResultLaws.{ok-inj}
use Rattle.keys.specs.KeyList.{Path, KeyList, above}
use Rattle.keys.specs.KeyListLaws.{rules-kept}
use Rattle.keys.specs.Version.{unkeyed}
use Rattle.keys.specs.SortedKeys.{keyed-here, keyed-rest}
use Rattle.keys.specs.Table.{place_of, Table}
use Rattle.keys.specs.Placed.{OfPlace}
use Rattle.keys.specs.PlaceLaws.{place-own}
use Rattle.keys.specs.TableLaws.{table-off}
use Rattle.keys.specs.Labelled.{Labelled}

-- a place above the frontiers has one path, and a table one key list
pub at_place : {text : Bytes} {table : List ℕ} {n place : ℕ} {K : KeyList} (P : KeyList → Path → Type 0) (p : Path) → Table text table n K → place_of K p ≡ place
    → above K p ≡ true → P K p → OfPlace text table n place P
at_place {text} {place = place} {K = K} P p t e a h L q u d =
    let z : K ≡ L = ok-inj (sym t.accepted ∙ u.accepted) in
    let s = subst (λ J. place_of J p ≡ place) z e in
    let b = subst (λ J. above J p ≡ true) z a in
    subst (P L) (place-own L (rules-kept text L u.accepted) p q (s ∙ sym d) (λ f. clash (sym b ∙ table-off u p (place_of L p) refl f))) (subst (λ J. P J p) z h)

-- the nodes lo to hi are children of an element at the place, each element among them and beneath with its key children
pub record Checked (text : Bytes) (table : List ℕ) (n place : ℕ) (src cells : List ℕ) (lo hi : ℕ) : Type 0 where
  pub key_list : KeyList
  pub path : Path
  pub tabled : Table text table n key_list
  pub place_is : place_of key_list path ≡ place
  pub forest : Forest
  pub tape : Tape src cells lo hi forest
  pub keyed : unkeyed key_list path forest ≡ false

module _ {text : Bytes} {table : List ℕ} {n place : ℕ} {src cells : List ℕ} where
  -- the nodes after the first
  pub checked-next : {p hi : ℕ} → Checked text table n place src cells p hi → p < hi → Checked text table n place src cells (next_at cells p) hi
  checked-next {p} {hi} g l = go g.tape g.keyed
    where
      at : (r : Forest) → Tape src cells (next_at cells p) hi r → unkeyed g.key_list g.path r ≡ false → Checked text table n place src cells (next_at cells p) hi
      at r t u = record { key_list = g.key_list; path = g.path; tabled = g.tabled; place_is = g.place_is; forest = r; tape = t; keyed = u }

      go : {f : Forest} → Tape src cells p hi f → unkeyed g.key_list g.path f ≡ false → Checked text table n place src cells (next_at cells p) hi
      go (at-end e) u = absurd (omega arith)
      go (at-text {r = r} m v e t) u = at r (rw e t) (unfold unkeyed in u)
      go (at-elem {n = m} {k = k} {r = r} o i t) u = at r t (keyed-rest g.key_list g.path m k r u)
      go (at-stamp {r = r} m i t) u = at r t (unfold unkeyed in u)

  -- the first, if it is an element
  pub checked-here : {p hi : ℕ} → Checked text table n place src cells p hi → p < hi → head_at cells p % 4 ≡ 1 → Labelled text table n place src cells p
  checked-here {p} {hi} g l k = go g.tape g.keyed
    where
      go : {f : Forest} → Tape src cells p hi f → unkeyed g.key_list g.path f ≡ false → Labelled text table n place src cells p
      go (at-end e) u = absurd (omega arith)
      go (at-text m v e t) u = absurd (omega (arith, m.kind-is))
      go (at-elem {n = m} {k = j} {r = r} o i t) u =
          record { key_list = g.key_list; path = g.path; tabled = g.tabled; place_is = g.place_is; name = m; kids = j; node = o; tape = i; once = keyed-here g.key_list g.path m j r u }
      go (at-stamp m i t) u = absurd (omega (arith, m.kind-is))
