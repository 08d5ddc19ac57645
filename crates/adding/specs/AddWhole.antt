-- Adding a version to a whole archive: what it asks is what a legal archive and a legal version have.
use Rattle.std.specs.Prelude.{ℕ, suc, ◌+◌, ◌*◌, ◌<◌, ◌≤◌, ◌≡◌, refl, Bool, true, false, leb, length}
use Rattle.std.proofs.Common.{arith, sym, ◌∙◌, subst, leb-true}
use Rattle.std.proofs.Math.Path.{ap}
use mathlib.Core.List.{List, []}
use Rattle.std.proofs.lemmas.List.{length-replicate}
use Rattle.std.proofs.Math.Seq.{slice}
use Rattle.xml.specs.Bytes.{Bytes, bytes, same}
use Rattle.xml.specs.Forest.{Forest, end, elem, text, stamp, nodes}
use Rattle.xml.specs.BytesLaws.{same-is}
use Rattle.xml.specs.Read.{is_end}
use Rattle.xml.specs.Over.{Wrote}
use Rattle.xml.specs.Tape.{head_at, next_at, start_in, end_in, Node, Tape, at-end, at-text, at-elem, at-stamp}
use Rattle.xml.specs.TapeLaws.{opening}
use Rattle.xml.specs.Truth.{clash, and_both, both_true}
use Rattle.keys.specs.KeyList.{KeyList, above}
use Rattle.keys.specs.Legal.{LegalVersion}
use Rattle.keys.specs.Table.{Table}
use Rattle.keys.specs.TableLaws.{table-rules}
use Rattle.keys.specs.PlaceLaws.{place-root, place-top}
use Rattle.timestamp.specs.Times.{always, write_times, last_number}
use Rattle.timestamp.specs.Set.{up_to}
use Rattle.timestamp.specs.Listed.{text_of}
use Rattle.versions.specs.Archive.{last_version}
use Rattle.versions.specs.Walk.{times_in, canonical, ever, siblings_legal, all_small, inside_of, forest_legal, add_in, add_forest}
use Rattle.versions.specs.AllTimed.{AllTimed, timed-forest}
use Rattle.versions.specs.SetLaws.{times_in-write}
use Rattle.versions.specs.AddParts.{Says, LegalSet, inside, SiblingsIn}
use Rattle.adding.specs.Growth.{Grew}
use Rattle.versions.specs.AddLegal.{siblings-in, legal-version-in}
use Rattle.versions.specs.AddWalk.{Held}
use Rattle.adding.specs.AddWay.{inside-above}
use Rattle.versions.specs.TimedLaws.{legal-says, up-to-text, wrote-timed}
use Rattle.adding.specs.declared.content.Added.{Added}

-- the nodes below hi are a legal archive of n versions, and those below vhi of the other tape a legal version
pub record Adding (text : Bytes) (table : List ℕ) (n-paths : ℕ) (src cells : List ℕ) (hi : ℕ) (vsrc vcells : List ℕ) (vhi n : ℕ) (K : KeyList) (f v : Forest) : Type 0 where
  pub tabled : Table text table n-paths K
  pub tape : Tape src cells 0 hi f
  pub legal : forest_legal K f ≡ true
  pub last : last_version f ≡ n
  pub vtape : Tape vsrc vcells 0 vhi v
  pub version : LegalVersion K v

pub record SomeAdding (text : Bytes) (table : List ℕ) (n-paths : ℕ) (src cells : List ℕ) (hi : ℕ) (vsrc vcells : List ℕ) (vhi n : ℕ) : Type 0 where
  pub key_list : KeyList
  pub forest : Forest
  pub other : Forest
  pub adding : Adding text table n-paths src cells hi vsrc vcells vhi n key_list forest other

-- ---- the outer `T`
end_is : (r : Forest) → is_end r ≡ true → r ≡ end
unfolding is_end
end_is end e = refl
end_is (text b r) e = clash (sym e)
end_is (elem m k r) e = clash (sym e)
end_is (stamp s k r) e = clash (sym e)

record Outer (K : KeyList) (n : ℕ) (src cells : List ℕ) (hi : ℕ) (f : Forest) : Type 0 where
  inner : Tape src cells 1 hi (inside_of f)
  siblings : SiblingsIn K n [] (inside_of f)
  all : nodes f ≡ nodes (inside_of f)
  there : 2 * 0 + 1 < length cells
  says : Says n src (start_in (head_at cells 0)) (end_in (head_at cells 0)) (always n)

outer-says : {src cells : List ℕ} {s : Bytes} {m : ℕ} → Node src cells 0 2 s → same s (write_times (always m)) ≡ true → m ≤ 999 → LegalSet m s
    → Says m src (start_in (head_at cells 0)) (end_in (head_at cells 0)) (always m)
unfolding always
outer-says {src} {cells} {s} {m} d e l c =
    let a = start_in (head_at cells 0) in
    let b = end_in (head_at cells 0) in
    let t : times_in m (slice a b src) ≡ always m = ap (times_in m) (d.bytes-are ∙ same-is s (write_times (always m)) e) ∙ times_in-write m (always m) (length-replicate m true) l in
    subst (Says m src a b) t (legal-says m a b src l (omega arith) d.within (subst (LegalSet m) (sym d.bytes-are) c))

outer : (K : KeyList) (n : ℕ) {src cells : List ℕ} {hi : ℕ} {f : Forest} → Tape src cells 0 hi f → forest_legal K f ≡ true → last_version f ≡ n → Outer K n src cells hi f
unfolding forest_legal last_version inside_of nodes AllTimed
outer K n (at-end e) h l = clash (sym h)
outer K n (at-text d u e r) h l = clash (sym h)
outer K n (at-elem d i r) h l = clash (sym h)
outer K n {src} {cells} {hi} (at-stamp {t = s} {k = k} {r = r} d i a) h l =
    let m = last_number s in
    let h7 = both_true _ (all_small m k) h in
    let h6 = both_true _ (siblings_legal K m [] (always m) k) h7.0 in
    let h4 = both_true _ (leb (nodes k) 1024) h6.0 in
    let h3 = both_true _ (same s (write_times (always m))) h4.0 in
    let h2 = both_true _ (leb m 999) h3.0 in
    let z : r ≡ end = end_is r (both_true (is_end r) (leb 1 m) h2.0).0 in
    record {
      inner = subst (λ x. Tape src cells 1 x k) (last-node (subst (λ x. Tape src cells (next_at cells 0) hi x) z a)) i;
      siblings = subst (λ x. SiblingsIn K x [] k) l (siblings-in K m [] (always m) k h6.1);
      all = ap (λ x. nodes k + nodes x) z ∙ omega arith;
      there = d.held;
      says = subst (λ x. Says x src (start_in (head_at cells 0)) (end_in (head_at cells 0)) (always x)) l (outer-says d h3.1 (leb-true m 999 h2.1) (let w = timed-forest K (stamp s k r) h in and_both (canonical m s) (ever (times_in m s)) w.0 w.1));
    }
  where
    last-node : {p q : ℕ} → Tape src cells p q end → p ≡ q
    last-node (at-end e) = e

module _ {text : Bytes} {table : List ℕ} {n-paths : ℕ} {src cells : List ℕ} {hi : ℕ} {vsrc vcells : List ℕ} {vhi n : ℕ} {K : KeyList} {f v : Forest}
    (x : Adding text table n-paths src cells hi vsrc vcells vhi n K f v) where
  -- the outer `T`'s node
  pub adding-there : 2 * 0 + 1 < length cells
  adding-there = (outer K n x.tape x.legal x.last).there

  top : above K [] ≡ true
  top = place-top K (table-rules x.tabled)

  pub adding-held : Held text table n-paths 128 src cells 1 hi vsrc vcells 0 vhi n (start_in (head_at cells 0)) (end_in (head_at cells 0)) K [] (always n) (inside_of f) v
  adding-held =
      let o = outer K n x.tape x.legal x.last in
      let g = legal-version-in K v (table-rules x.tabled) x.version in
      record {
        tabled = x.tabled;
        place_is = place-root K;
        tape = o.inner;
        vtape = x.vtape;
        siblings = λ _. o.siblings;
        front = λ b. clash (sym top ∙ b);
        version = λ _. g.0;
        plain = g.1;
        set = o.says;
      }

  pub adding-grew : {out mid far left : List ℕ} {at a s most reach most' reach' : ℕ} {r : Added} (t : ℕ → Bool) → n ≤ 998 → t ≡ up_to (n + 1)
      → Wrote out at (opening false (text_of t)) a mid → Grew mid a (inside K n [] (always n) (inside_of f) v) (inside_of f) most reach r far → Wrote far r.at (bytes "</T>") s left
      → most ≤ most' → s ≤ at + reach' → Grew out at (add_forest K n v f) f most' reach' (record { at = s; fresh = r.fresh }) left
  unfolding add_forest nodes
  adding-grew {r = r} t h e p y z b c =
      let w : Forest = add_in K n [] (always n) (inside_of f) v in
      let q = inside-above K n [] (always n) (inside_of f) v top in
      record {
        wrote = wrote-timed (write_times (always (suc n))) w (rw (up-to-text n t h e) at p) (rw q at y.wrote) z;
        count = omega (arith, ap nodes q, y.count, (outer K n x.tape x.legal x.last).all);
        few = omega (arith, y.few);
        near = c;
      }
