-- The call that adds a version: its steps, and what they ask and say.
use Rattle.std.specs.Prelude.{ℕ, ◌+◌, ◌<◌, ◌≤◌, min, ◌≡◌, refl, Bool, ◌||◌, List, length, take, drop}
use Rattle.std.proofs.Common.{arith, sym, ◌∙◌, ap, subst, take_all, take_at}
use Rattle.std.proofs.Math.Path.{ap₂}
use Rattle.std.proofs.Math.Bool.{true, false}
use Rattle.std.proofs.Math.Dec.{eqb, ltb}
use Rattle.std.proofs.Math.Seq.{slice}
use borrow.Author.Tests.{lt-ltb, le-ltb, ltb-false, eq-eqb, ne_eqb}
use Rattle.xml.specs.Bytes.{Bytes}
use Rattle.xml.specs.Forest.{Forest, write, nodes}
use Rattle.xml.specs.Over.{over, Wrote}
use Rattle.xml.specs.Tape.{Tape}
use Rattle.xml.specs.OverLaws.{length_over, wrote-over}
use Rattle.xml.specs.Truth.{or_right}
use Rattle.keys.specs.ResultLaws.{refused-ok}
use Rattle.keys.specs.Result.{Refusal, Result, number_of, refused, ok, ◌>>=◌, ◌>>◌, refuse, r11, r13, r14}
use Rattle.keys.specs.KeyList.{KeyList, key_list}
use Rattle.keys.specs.Version.{version}
use Rattle.keys.specs.Versions.{version-legal}
use Rattle.keys.specs.Table.{Table}
use Rattle.keys.specs.Loading.{Tabled}
use Rattle.versions.specs.Archive.{last_version}
use Rattle.versions.specs.Calls.{answer, room, at_most, storable, give, add}
use Rattle.versions.specs.Walk.{archive_read, add_forest, add_on}
use Rattle.versions.specs.WalkLaws.{adds}
use Rattle.versions.specs.LegalWhole.{legal-few}
use Rattle.versions.specs.AllTimed.{legal-last}
use Rattle.adding.specs.Growth.{Grew}
use Rattle.adding.specs.AddWhole.{Adding, SomeAdding}
use Rattle.archive.specs.Reception.{Version}
use Rattle.archive.specs.Giving.{Gives, gives_same, step_ok, test-refused, test-passed, give-done, archive-back}
use Rattle.legality.specs.Opened.{ArchiveOn}
use Rattle.adding.specs.declared.content.Added.{Added}
use Rattle.archive.specs.declared.add.Size.{Size}

-- the steps that store and give an archive
abbrev pub store_in : Forest → ℕ → Result Bytes
store_in g out = do
  storable g
  give out (write g)

-- the steps that add the version v to the archive f of n versions
abbrev pub add_to : KeyList → ℕ → Forest → ℕ → Forest → Result Bytes
add_to K n v out f = do
  refuse r11 (eqb n 999)
  store_in (add_forest K n v f) out

-- the steps under a key list
abbrev pub add_under : KeyList → Bytes → Bytes → ℕ → Result Bytes
add_under K received archive out = do
  v ← version K received
  f ← archive_read K archive
  add_to K (last_version f) v out f

-- all steps but the first
abbrev pub add_from : Bytes → Bytes → Bytes → ℕ → Result Bytes
add_from keys received archive out = do
  at_most 4096 keys
  at_most 16384 received
  at_most 32768 archive
  K ← key_list keys
  add_under K received archive out

pub add-from : (keys received archive : Bytes) (out work : ℕ) → add keys received archive out work ≡ answer (room work >> add_from keys received archive out)
unfolding add_on
add-from keys received archive out work = sym (adds keys received archive out work)

-- ---- 13 and 14
-- a result of so many nodes and bytes is too large, or else too long for the output
abbrev pub fitting : ℕ → ℕ → ℕ → Result (Unit {0})
fitting count size out = do
  refuse r13 (ltb 1024 count || ltb 32768 size)
  refuse r14 (ltb out size)

module _ (count size out : ℕ) where
  pub many-nodes : 1024 < count → refused r13 ≡ fitting count size out
  many-nodes l = rw (lt-ltb 1024 count l)

  pub many-bytes : count ≤ 1024 → 32768 < size → refused r13 ≡ fitting count size out
  many-bytes c l = rw (le-ltb 1024 count c, lt-ltb 32768 size l)

  pub no_room : count ≤ 1024 → size ≤ 32768 → out < size → refused r14 ≡ fitting count size out
  no_room c d l = rw (le-ltb 1024 count c, le-ltb 32768 size d, lt-ltb out size l)

  pub some-room : count ≤ 1024 → size ≤ 32768 → size ≤ out → ok tt ≡ fitting count size out
  some-room c d l = rw (le-ltb 1024 count c, le-ltb 32768 size d, le-ltb out size l)

not-refused : (a b : Bool) → ok tt ≡ (refuse r13 a >> refuse r14 b) → (a ≡ false) × (b ≡ false)
not-refused true b e = refused-ok (sym e)
not-refused false true e = refused-ok (sym e)
not-refused false false e = (refl, refl)

-- an archive has this size, and lies on the draft if that can hold it
pub record Drafted (g : Forest) (r : Size) (draft : List ℕ) : Type 0 where
  pub nodes-are : r.nodes ≡ nodes g
  pub bytes-are : r.bytes ≡ length (write g)
  pub lies : r.bytes ≤ length draft → take r.bytes draft ≡ write g

refused-row : {v w : Refusal} → ◌≡◌ {A = Result (Unit {0})} (refused w) (refused v) → w ≡ v
refused-row e = cc

module _ (g : Forest) (out : List ℕ) where
  refused_as_lem : {w : Refusal} (a b : Bool) → (ltb 1024 (nodes g) || ltb 32768 (length (write g))) ≡ a → ltb (length out) (length (write g)) ≡ b → refused w ≡ (refuse r13 a >> refuse r14 b)
      → Gives (store_in g (length out)) (number_of w) 0 out out
  unfolding storable give number_of
  refused_as_lem true b p q e = test-refused _ r13 out p (ap number_of (refused-row e)) (ap (λ v. eqb (number_of v) 1) (refused-row e))
  refused_as_lem false true p q e = test-passed _ r13 p (test-refused _ r14 out q (ap number_of (refused-row e)) (ap (λ v. eqb (number_of v) 1) (refused-row e)))
  refused_as_lem false false p q e = refused-ok e

module _ (count size out : ℕ) (e : ok tt ≡ fitting count size out) where
  stored-as : ((ltb 1024 count || ltb 32768 size) ≡ false) × (ltb out size ≡ false)
  stored-as = not-refused (ltb 1024 count || ltb 32768 size) (ltb out size) e

  -- a size that is not refused
  pub stored-small : size ≤ 32768
  stored-small = ltb-false 32768 size (or_right (ltb 1024 count) (ltb 32768 size) stored-as.0)

module _ (g : Forest) (out : List ℕ) {draft : List ℕ} {r : Size} (x : Drafted g r draft) where
  pub store-refused : {w : Refusal} → refused w ≡ fitting r.nodes r.bytes (length out) → Gives (store_in g (length out)) (number_of w) 0 out out
  store-refused e = refused_as_lem g out _ _ refl refl (e ∙ ap₂ (λ c d. fitting c d (length out)) x.nodes-are x.bytes-are)

  pub store-done : {count : ℕ} {left : List ℕ} → ok tt ≡ fitting r.nodes r.bytes (length out) → min r.bytes 32768 ≤ length draft → Wrote out 0 (slice 0 r.bytes draft) count left
      → Gives (store_in g (length out)) 0 count out left
  unfolding storable
  store-done {count} {left} e l w =
      let y = stored-as r.nodes r.bytes (length out) e in
      let z : (ltb 1024 (nodes g) || ltb 32768 (length (write g))) ≡ false = ap₂ (λ c d. ltb 1024 c || ltb 32768 d) (sym x.nodes-are) (sym x.bytes-are) ∙ y.0 in
      let p = wrote-over (subst (λ s. Wrote out 0 s count left) (x.lies (omega (arith, l, stored-small r.nodes r.bytes (length out) e))) w) in
      test-passed _ r13 z (give-done (write g) out p.0 (omega (arith, p.0, x.bytes-are, ltb-false (length out) r.bytes y.1)) p.1)

-- ---- a legal archive and a version received
module _ {text : Bytes} {table : List ℕ} {paths : ℕ} {src cells : List ℕ} {hi n : ℕ} {vsrc vcells : List ℕ} {vhi : ℕ}
    (w : (K : KeyList) → Table text table paths K → Version K vsrc vcells vhi) (a : (K : KeyList) → Table text table paths K → ArchiveOn K src cells hi n) where
  adding : (K : KeyList) (t : Table text table paths K) → Adding text table paths src cells hi vsrc vcells vhi n K (a K t).forest (w K t).forest
  adding K t =
      let x = a K t in
      let y = w K t in
      record { tabled = t; tape = x.tape; legal = x.legal; last = x.last; vtape = y.tape; version = version-legal K vsrc y.forest y.is }

  pub some-adding : Tabled text table paths → SomeAdding text table paths src cells hi vsrc vcells vhi n × (hi ≤ 16384) × (vhi ≤ 512)
  some-adding t =
      let K = t.keys in
      (record { key_list = K; forest = (a K t.table).forest; other = (w K t.table).forest; adding = adding K t.table }, (a K t.table).few, (w K t.table).few)

  pub add-given : {number size : ℕ} {out left : List ℕ}
      → ((K : KeyList) (f v : Forest) → Adding text table paths src cells hi vsrc vcells vhi n K f v → Gives (add_to K n v (length out) f) number size out left)
      → (K : KeyList) → Table text table paths K → Gives (add_under K vsrc src (length out)) number size out left
  add-given {out = out} g K t =
      let x = a K t in
      let y = w K t in
      step_ok _ y.forest y.is (step_ok _ x.forest x.is (gives_same (ap (λ j. add_to K j y.forest (length out) x.forest) x.last) (g K x.forest y.forest (adding K t))))

-- 10: the archive, beside a version received
pub add-back : {w : Refusal} {K : KeyList} {vsrc vcells : List ℕ} {vhi : ℕ} (src out : List ℕ) → Version K vsrc vcells vhi → archive_read K src ≡ refused w
    → Gives (add_under K vsrc src (length out)) (number_of w) 0 out out
add-back {K = K} src out y e = step_ok _ y.forest y.is (archive-back K src _ out e)

-- 11: version 999 is the last
pub add-11 : (K : KeyList) (n : ℕ) (v f : Forest) (out : List ℕ) → n ≡ 999 → Gives (add_to K n v (length out) f) (number_of r11) 0 out out
unfolding number_of
add-11 K n v f out e = test-refused _ r11 out (eq-eqb n 999 e) refl refl

-- ---- an archive with a version more
module _ {text : Bytes} {table : List ℕ} {paths : ℕ} {src cells : List ℕ} {hi : ℕ} {vsrc vcells : List ℕ} {vhi n : ℕ} (x : SomeAdding text table paths src cells hi vsrc vcells vhi n) where
  pub not_last : (n ≡ 999 → ⊥) → n ≤ 998
  not_last z = omega (arith, x.adding.last, legal-last x.key_list x.forest x.adding.legal)

  pub adding-few : {count : ℕ} → ((f : Forest) → Tape src cells 0 hi f → count ≡ nodes f) → count ≤ 1024
  adding-few c = omega (arith, c x.forest x.adding.tape, legal-few x.key_list x.forest x.adding.legal)

-- what is written from the start lies there, if it can hold it
over-lies : (out w : List ℕ) → length w ≤ length out → take (length w) (over out w) ≡ w
unfolding over
over-lies out w l = rw (take_all (length out) w l) (take_at w (drop (length w) out) (length w) refl)

wrote-lies : {out left : List ℕ} {r : ℕ} {w : List ℕ} → Wrote out 0 w r left → r ≤ length left → take r left ≡ w
wrote-lies {out} {left} {r} {w} x l =
    let y = wrote-over x in
    rw (y.0, y.1) (over-lies out w (omega (arith, l, y.0, ap (λ t. length t) y.1, length_over out w)))

-- drafted, by what `add` answers
pub grown-draft : {g f : Forest} {blank draft : List ℕ} {most reach : ℕ} {r : Added} {count : ℕ} → Grew blank 0 g f most reach r draft → count ≡ nodes f
    → Drafted g (record { nodes = count + r.fresh; bytes = r.at }) draft
grown-draft {r = r} x c = record { nodes-are = ap (λ k. k + r.fresh) c ∙ sym x.count; bytes-are = (wrote-over x.wrote).0; lies = wrote-lies x.wrote }

-- and stored
pub add-stored : (K : KeyList) (n : ℕ) (v f : Forest) (out : List ℕ) {number size : ℕ} {left : List ℕ} → (n ≡ 999 → ⊥) → Gives (store_in (add_forest K n v f) (length out)) number size out left
    → Gives (add_to K n v (length out) f) number size out left
add-stored K n v f out z g = test-passed _ r11 (ne_eqb n 999 z) g
