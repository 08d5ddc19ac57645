-- The calls that step back, by their steps; what its walk asks of the archive on the tape, and how long what it writes can be.
use Rattle.std.specs.Prelude.{ℕ, ◌+◌, ◌*◌, ◌%◌, ◌^◌, ◌<◌, ◌≤◌, ◌≡◌, not, ◌&&◌, List, Result as Tried, Ok, Err}
use Rattle.std.proofs.Common.{arith, ◌∙◌}
use Rattle.std.proofs.Math.Path.{refl, sym, ap, subst}
use Rattle.std.proofs.Math.Dec.{leb}
use Rattle.std.proofs.Math.ListN.{length}
use Rattle.xml.specs.Bytes.{Bytes}
use Rattle.xml.specs.Forest.{Forest, write}
use Rattle.xml.specs.Tape.{head_at, next_at, Tape}
use Rattle.xml.specs.TapeLaws.{bytes_at, tape-one}
use Rattle.keys.specs.Result.{Refusal, Result, number_of, refused, ok, ◌>>=◌, ◌>>◌, refuse, r11}
use Rattle.keys.specs.ResultLaws.{refused-ok, ok-inj, bind_inv}
use Rattle.keys.specs.Meant.{row_of, meant, number_in, length_in}
use Rattle.keys.specs.declared.refusal.Refusal.{Refusal as Cause}
use Rattle.marks.specs.declared.Mark.{Mark}
use Rattle.marks.specs.Marks.{Named, marks_in, legal_name, find, finding, up_to, dropping, number}
use Rattle.marks.specs.Judging.{judged}
use Rattle.marks.specs.Changing.{version_in}
use Rattle.marks.specs.ChangeLaws.{dropping-legal, illegal-is, judged-means}
use Rattle.timestamp.specs.Times.{always}
use Rattle.versions.specs.Archive.{last_version}
use Rattle.versions.specs.Calls.{Given, marked, answer, out_after, room, step_back, step_back_to_mark}
use Rattle.versions.specs.Walk.{times_in, back_forest, archive_in, earlier_on, step_back_on, step_back_to_mark_on}
use Rattle.versions.specs.WalkLaws.{then-bind, steps_back, steps_back_to_mark}
use Rattle.versions.specs.BackLength.{back-shorter}
use Rattle.versions.specs.Timely.{Timely, legal-outer, legal-all}
use Rattle.archive.specs.declared.back.Back.{Back}
use Rattle.archive.specs.Giving.{Gives}
use Rattle.archive.specs.Later.{Later, back-later, named-later}
use Rattle.archive.specs.Opening.{OpenedOn, NotOpened}
use Rattle.archive.specs.Asking.{asked, Lies, Reaches, reaches-timely, reaches-short}

-- the archive of the first i versions of an archive's forest, written
abbrev pub earlier_text : ℕ → Forest → Bytes
earlier_text i f = write (back_forest i f)

-- ---- the steps
-- the last ones of a step back to version i, on the archive's forest: 17, 11, 14
abbrev pub back_given : Forest → (table : List Mark) (i out : ℕ) → Result Given
back_given f table i out = do
  ks ← marks_in (last_version f) table
  earlier_on f ks i out

-- of a step back to the version of a mark: 17, 15, 14
abbrev pub named_given : Forest → (table : List Mark) (name : Bytes) (out : ℕ) → Result Given
named_given f table name out = do
  ks ← marks_in (last_version f) table
  legal_name name
  k ← find name ks
  earlier_on f ks k.version out

-- all but the first
abbrev pub back_in : (keys s : Bytes) (table : List Mark) (i out : ℕ) → Result Given
back_in keys s table i out = do
  f ← archive_in keys s
  back_given f table i out

abbrev pub named_in : (keys s : Bytes) (table : List Mark) (name : Bytes) (out : ℕ) → Result Given
named_in keys s table name out = do
  f ← archive_in keys s
  named_given f table name out

-- the calls are the test for room, and the steps that follow it
pub back-steps : (keys s : Bytes) (table : List Mark) (i out work : ℕ) → step_back keys s table i out work ≡ marked table (room work >> back_in keys s table i out)
unfolding step_back_on
back-steps keys s table i out work = sym (steps_back keys s table i out work)

pub named-steps : (keys s : Bytes) (table : List Mark) (name : Bytes) (out work : ℕ) → step_back_to_mark keys s table name out work ≡ marked table (room work >> named_in keys s table name out)
unfolding step_back_to_mark_on
named-steps keys s table name out work = sym (steps_back_to_mark keys s table name out work)

-- ---- what a step back on a table by value answers: number and length, the output, and what is to be dropped from the table
abbrev pub length_back : Tried Back Cause → ℕ
length_back (Ok b) = b.length
length_back (Err v) = 0

pub record Steps (X : Result Given) (table : List Mark) (r : Tried Back Cause) (out left : List ℕ) : Type 0 where
  pub number_is : number_in r ≡ (marked table X).answer.number
  pub size_is : length_back r ≡ length (marked table X).answer.bytes
  pub out-is : left ≡ out_after (marked table X).answer out
  pub drops : (g : Given) (b : Back) → X ≡ ok g → r ≡ Ok b → dropping b.versions table b.to ≡ ok g.marks

-- from the length of the result, or its refusal
abbrev pub stepped : Tried ℕ Cause → (versions to : ℕ) → Tried Back Cause
stepped (Ok k) n i = Ok (record { length = k; versions = n; to = i })
stepped (Err v) n i = Err v

err-ok : {A B E : Type 0} {v : E} {b : A} → ◌≡◌ {A = Tried A E} (Err v) (Ok b) → B
err-ok e = let z : ◌≡◌ {A = ℕ} 0 1 = cc in absurd (omega arith)

ok-is : {A E : Type 0} {a b : A} → ◌≡◌ {A = Tried A E} (Ok a) (Ok b) → a ≡ b
ok-is e = cc

pub steps-same : {X Y : Result Given} {table : List Mark} {r : Tried Back Cause} {out left : List ℕ} → X ≡ Y → Steps Y table r out left → Steps X table r out left
steps-same {table = table} {r = r} {out = out} {left = left} e s = subst (λ Z. Steps Z table r out left) (sym e) s

pub steps-refused : {X : Result Given} (table : List Mark) {v : Cause} (out : List ℕ) → X ≡ refused (row_of v) → Steps X table (Err v) out out
unfolding marked answer out_after
steps-refused table out e = steps-same e (record { number_is = refl; size_is = refl; out-is = refl; drops = λ g b x y. refused-ok x })

-- the last steps, where the table is legal
module _ (f : Forest) (table : List Mark) (ks : List Named) (i : ℕ) (out : List ℕ) (m : marks_in (last_version f) table ≡ ok ks) where
  abbrev given_by : Result Bytes → Result Given
  given_by X = do
    t ← X
    ok (record { text = t; marks = up_to i ks })

  -- what is given, and what is to be dropped
  by-text : (X : Result Bytes) (a : Tried ℕ Cause) {left : List ℕ} → Gives X (number_in a) (length_in a) out left → Steps (given_by X) table (stepped a (last_version f) i) out left
  unfolding marked answer out_after
  by-text (ok t) (Ok k) g = record {
    number_is = g.number_is;
    size_is = g.size_is;
    out-is = g.out-is;
    drops = λ h b e y. subst (λ (c : Back). dropping c.versions table c.to ≡ ok h.marks) (ok-is y) (dropping-legal (last_version f) table ks i m ∙ ap (λ z. ok z.marks) (ok-inj e));
  }
  by-text (ok t) (Err v) g = record { number_is = g.number_is; size_is = g.size_is; out-is = g.out-is; drops = λ h b e y. err-ok y }
  by-text (refused w) (Ok k) g = record { number_is = g.number_is; size_is = g.size_is; out-is = g.out-is; drops = λ h b e y. refused-ok e }
  by-text (refused w) (Err v) g = record { number_is = g.number_is; size_is = g.size_is; out-is = g.out-is; drops = λ h b e y. refused-ok e }

  given_is : earlier_on f ks i (length out) ≡ given_by (asked (last_version f) i (length out) (earlier_text i f))
  unfolding earlier_on
  given_is = sym (then-bind (refuse r11 (not (leb 1 i && leb i (last_version f)))) _ _)

  pub steps-given : (a : Tried ℕ Cause) {left : List ℕ} → Gives (asked (last_version f) i (length out) (earlier_text i f)) (number_in a) (length_in a) out left
      → Steps (earlier_on f ks i (length out)) table (stepped a (last_version f) i) out left
  steps-given a g = steps-same given_is (by-text (asked (last_version f) i (length out) (earlier_text i f)) a g)

refused-is : {A : Type 0} {v w : Refusal} → ◌≡◌ {A = Result A} (refused v) (refused w) → v ≡ w
refused-is e = cc

-- ---- on the tape, where n versions lie
lies-last : {src cells : List ℕ} {hi n : ℕ} → Lies src cells hi n → (f : Forest) → Tape src cells 0 hi f → last_version f ≡ n
lies-last x f t = ap last_version (tape-one t x.archive.tape) ∙ x.archive.last

module _ {src cells : List ℕ} {hi n : ℕ} (x : Lies src cells hi n) (f : Forest) (tape : Tape src cells 0 hi f) (table : List Mark) (out : List ℕ) where
  -- a table that is not legal
  pub back-illegal : (i : ℕ) {v : Cause} → Err v ≡ judged n table → Steps (back_given f table i (length out)) table (Err v) out out
  back-illegal i {v} e =
      let l = illegal-is n table v e in
      steps-refused table out
      (ap (λ j. marks_in j table >>= (λ ks. earlier_on f ks i (length out))) (lies-last x f tape) ∙ ap (λ M. M >>= (λ ks. earlier_on f ks i (length out))) (l.1 ∙ ap refused (sym l.0)))

  -- a legal one
  given-at : (ks : List Named) (i : ℕ) (a : Tried ℕ Cause) {left : List ℕ} → marks_in n table ≡ ok ks → Gives (asked n i (length out) (earlier_text i f)) (number_in a) (length_in a) out left
      → Steps (earlier_on f ks i (length out)) table (stepped a n i) out left
  given-at ks i a {left} m g =
      let l = lies-last x f tape in
      subst (λ j. Steps (earlier_on f ks i (length out)) table (stepped a j i) out left) l
      (steps-given f table ks i out (ap (λ j. marks_in j table) l ∙ m) a (subst (λ j. Gives (asked j i (length out) (earlier_text i f)) (number_in a) (length_in a) out left) (sym l) g))

  pub back-given : (i : ℕ) {u : ℕ} (a : Tried ℕ Cause) {left : List ℕ} → Ok u ≡ judged n table → Gives (asked n i (length out) (earlier_text i f)) (number_in a) (length_in a) out left
      → Steps (back_given f table i (length out)) table (stepped a n i) out left
  back-given i {u} a e g =
      let p = bind_inv (marks_in n table) (λ ks. ok (length ks)) u (sym (ap meant e ∙ judged-means n table)) in
      steps-same (ap (λ h. marks_in h table >>= (λ ls. earlier_on f ls i (length out))) (lies-last x f tape) ∙ ap (λ M. M >>= (λ ls. earlier_on f ls i (length out))) p.1) (given-at p.0 i a p.1 g)

  -- to the version of a mark
  named-is : (name : Bytes) → named_given f table name (length out) ≡ (marks_in n table >>= (λ ks. legal_name name >> (find name ks >>= (λ k. earlier_on f ks k.version (length out)))))
  named-is name = ap (λ j. marks_in j table >>= (λ ks. legal_name name >> (find name ks >>= (λ k. earlier_on f ks k.version (length out))))) (lies-last x f tape)

  -- the steps after the table is read
  abbrev named-rest : Bytes → List Named → Result Given
  named-rest name ks = legal_name name >> (find name ks >>= (λ k. earlier_on f ks k.version (length out)))

  -- finding, and then going back: refused where finding is, and else to the version found
  named_none : (name : Bytes) (M : Result (List Named)) (w : Refusal) → (M >>= (λ ks. legal_name name >> find name ks)) ≡ refused w → (M >>= named-rest name) ≡ refused w
  named_none name (refused v) w e = ap refused (refused-is e)
  named_none name (ok ks) w e = sym (then-bind (legal_name name) (find name ks) _) ∙ ap (λ R. R >>= (λ k. earlier_on f ks k.version (length out))) e

  named_some : (name : Bytes) (M : Result (List Named)) (k : Named) → (M >>= (λ ks. legal_name name >> find name ks)) ≡ ok k
      → (ks : List Named) × (M ≡ ok ks) × ((M >>= named-rest name) ≡ earlier_on f ks k.version (length out))
  named_some name (refused v) k e = refused-ok e
  named_some name (ok ks) k e = (ks, refl, sym (then-bind (legal_name name) (find name ks) _) ∙ ap (λ R. R >>= (λ k. earlier_on f ks k.version (length out))) e)

  pub named-refused : (name : Bytes) {v : Cause} → refused (row_of v) ≡ version_in (finding n table name) → Steps (named_given f table name (length out)) table (Err v) out out
  unfolding finding
  named-refused name {v} e = by (finding n table name) refl e
    where
      by : (X : Result Named) → finding n table name ≡ X → refused (row_of v) ≡ version_in X → Steps (named_given f table name (length out)) table (Err v) out out
      by (ok k) y q = refused-ok q
      by (refused w) y q = steps-refused table out (named-is name ∙ named_none name (marks_in n table) (row_of v) (y ∙ ap refused (sym (refused-is q))))

  pub named-given : (name : Bytes) {i : ℕ} (a : Tried ℕ Cause) {left : List ℕ} → ok i ≡ version_in (finding n table name) → Gives (asked n i (length out) (earlier_text i f)) (number_in a) (length_in a) out left
      → Steps (named_given f table name (length out)) table (stepped a n i) out left
  unfolding finding
  named-given name {i} a {left} e g = by (finding n table name) refl e
    where
      by : (X : Result Named) → finding n table name ≡ X → ok i ≡ version_in X → Steps (named_given f table name (length out)) table (stepped a n i) out left
      by (refused w) y q = refused-ok (sym q)
      by (ok k) y q =
          let p = named_some name (marks_in n table) k y in
          steps-same (named-is name ∙ p.2 ∙ ap (λ j. earlier_on f p.0 j (length out)) (sym (ok-inj q))) (given-at p.0 i a p.1 g)

-- ---- all steps but the first, from those on the tape
marked-number : (table : List Mark) (X : Result Given) → (marked table X).answer.number ≡ number X
unfolding marked answer number
marked-number table (refused w) = refl
marked-number table (ok g) = refl

module _ (F : Forest → Result Given) (late : (f : Forest) → Later (number (F f))) (keys src : Bytes) (table : List Mark) (out : List ℕ) where
  sent : {v : Cause} → NotOpened keys src (row_of v) → Steps (archive_in keys src >>= F) table (Err v) out out × Later (number_of (row_of v))
  sent x = (steps-refused table out (ap (λ R. R >>= F) x.is), x.later)

  on : {cells : List ℕ} {hi n : ℕ} {r : Tried Back Cause} {left : List ℕ} → OpenedOn keys src cells hi n → ((f : Forest) → Tape src cells 0 hi f → Steps (F f) table r out left)
      → Steps (archive_in keys src >>= F) table r out left × Later (number_in r)
  on x g = let s = g x.forest x.tape in (steps-same (ap (λ R. R >>= F) x.is) s, subst Later (sym (s.number_is ∙ marked-number table (F x.forest))) (late x.forest))

module _ (keys src : Bytes) (table : List Mark) (out : List ℕ) where
  pub back-sent-back : (i : ℕ) {v : Cause} → NotOpened keys src (row_of v) → Steps (back_in keys src table i (length out)) table (Err v) out out × Later (number_of (row_of v))
  back-sent-back i x = sent (λ f. back_given f table i (length out)) (λ f. back-later f table i (length out)) keys src table out x

  pub back-on-tape : (i : ℕ) {cells : List ℕ} {hi n : ℕ} {r : Tried Back Cause} {left : List ℕ} → OpenedOn keys src cells hi n
      → ((f : Forest) → Tape src cells 0 hi f → Steps (back_given f table i (length out)) table r out left) → Steps (back_in keys src table i (length out)) table r out left × Later (number_in r)
  back-on-tape i x g = on (λ f. back_given f table i (length out)) (λ f. back-later f table i (length out)) keys src table out x g

  pub named-sent-back : (name : Bytes) {v : Cause} → NotOpened keys src (row_of v) → Steps (named_in keys src table name (length out)) table (Err v) out out × Later (number_of (row_of v))
  named-sent-back name x = sent (λ f. named_given f table name (length out)) (λ f. named-later f table name (length out)) keys src table out x

  pub named-on-tape : (name : Bytes) {cells : List ℕ} {hi n : ℕ} {r : Tried Back Cause} {left : List ℕ} → OpenedOn keys src cells hi n
      → ((f : Forest) → Tape src cells 0 hi f → Steps (named_given f table name (length out)) table r out left) → Steps (named_in keys src table name (length out)) table r out left × Later (number_in r)
  named-on-tape name x g = on (λ f. named_given f table name (length out)) (λ f. named-later f table name (length out)) keys src table out x g

-- what the walk requires, for a version that is there
pub back-asks : {src cells : List ℕ} {hi i : ℕ} → Reaches src cells hi i
    → (0 < hi) × (next_at cells 0 ≡ hi) × (head_at cells 0 % 4 ≡ 2) × Timely i src cells 0 hi × (1 ≤ i) × (times_in i (bytes_at src cells 0) ≡ always i)
    × (0 + 163840 * hi < 2 ^ 60)
back-asks {i = i} x =
    let a = x.lies.archive in
    let K = x.lies.keys in
    let o = legal-outer K a.legal a.tape in
    (o.0, o.1, o.2, reaches-timely x, x.some-there, legal-all K i a.legal a.tape (subst (λ k. i ≤ k) (sym a.last) x.reach), omega (arith, a.few))

-- what it writes is no longer than the archive's text
pub back-short : {src cells : List ℕ} {hi i : ℕ} → Reaches src cells hi i → (f : Forest) → Tape src cells 0 hi f → length (earlier_text i f) ≤ length src
back-short {i = i} x f t = reaches-short (earlier_text i) (back-shorter i) x f t
