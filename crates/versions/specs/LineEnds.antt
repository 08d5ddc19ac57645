-- Line ends in archives and answers: no legal archive has a CR, one with a CR is refused under 10, and no call writes one; notes of two
-- tablets are one content.
use Rattle.std.specs.Prelude.{ℕ, zero, suc, ◌+◌, ◌≤◌, ◌≡◌, refl, false, not, ◌&&◌, List, [], ◌∷◌, ◌++◌, map, eqb, ltb, length, take}
use Prim.Native.Char.{code}
use Rattle.std.proofs.Common.{arith, sym, ◌∙◌, ap, subst, eqb-true, leb-true, length-append, length-take-le}
use Rattle.std.proofs.Math.Bool.{true}
use Rattle.std.proofs.lemmas.Bool.{eqb-false, not-false}
use Rattle.std.proofs.Math.Dec.{leb}
use Rattle.std.proofs.lemmas.List.{length-map}
use Rattle.xml.specs.Bytes.{Bytes, bytes, same}
use Rattle.xml.specs.Forest.{Forest, write, nodes}
use Rattle.xml.specs.Read.{read}
use Rattle.xml.specs.Neat.{count}
use Rattle.xml.specs.NeatWritten.{times-counts, signs-returns}
use Rattle.xml.proofs.Lines.{write-returns}
use Rattle.xml.specs.Truth.{by-test, both_true}
use Rattle.model.specs.Gather.{All, all_snoc, all_take}
use Rattle.keys.specs.Result.{Result, refused, ok, ◌>>=◌, ◌>>◌, refuse, refused_as, r10, r11, r14}
use Rattle.keys.specs.ResultLaws.{refused-ok, ok-inj, bind_inv}
use Rattle.keys.specs.KeyList.{KeyList, key_list}
use Rattle.keys.specs.Version.{parsed, version}
use Rattle.keys.specs.Legal.{LegalVersion}
use Rattle.keys.specs.Versions.{version-legal}
use Rattle.keys.specs.Address.{address, holds}
use Rattle.timestamp.specs.Times.{Times, write_times}
use Rattle.timestamp.specs.TimesLaws.{times-bytes}
use Rattle.timestamp.specs.Longest.{longest}
use Rattle.timestamp.proofs.LongestLaws.{longest-length}
use Rattle.marks.specs.declared.Mark.{Mark}
use Rattle.marks.specs.Marks.{Named, marks_in, legal_name, find}
use Rattle.versions.specs.Archive.{archive, archive_of, Legal, versions_from, last_version, archive_text}
use Rattle.versions.specs.StampedTidy.{archive-tidy}
use Rattle.versions.specs.LegalLaws.{all-legal, legal-of, archive-legal}
use Rattle.versions.specs.Calls.{Answer, answer, Given, marked, room, at_most, version_at, not_full, storable, give, found, add, retrieve, history, earlier, step_back, step_back_to_mark, longest_history, calls_compute}
use Rattle.versions.specs.CallLaws.{refuse-ok, not_full-ok, then_ok, earlier-ok}

tenth : {A : Type 0} (x : Result A) → ((a : A) → refused_as r10 x ≡ ok a → ⊥) → refused_as r10 x ≡ refused r10
tenth (refused m) n = refl
tenth (ok a) n = absurd (n a refl)

-- ---- archives
module _ (keys : Bytes) (K : KeyList) (k : key_list keys ≡ ok K) where
  written-returns : (vs : List Forest) → All (LegalVersion K) vs → 1 ≤ length vs → length vs ≤ 999 → count (code "\r") (write (archive_of K vs)) ≡ 0
  unfolding archive_of
  written-returns vs l lo hi = write-returns true _ (archive-tidy K (length vs) (archive K vs) (legal-of keys K k vs l lo hi) hi).0

  pub archive-returns : (s : Bytes) → Legal K s → count (code "\r") s ≡ 0
  archive-returns s l =
      ap (count (code "\r")) l.exactly ∙ written-returns l.versions (all-legal keys K k l.each-legal) l.some-there l.not_more

  -- "An archive text holding CR is not legal (10)."
  pub returns-refused : (s : Bytes) → (count (code "\r") s ≡ 0 → ⊥) → archive_text K s ≡ refused r10
  unfolding archive_text
  returns-refused s n =
      tenth (do
        f ← parsed (read true s)
        refuse r10 (not (leb 1 (last_version f) && leb (last_version f) 999))
        refuse r10 (ltb 1024 (nodes f))
        vs ← versions_from K f (last_version f) 1
        refuse r10 (not (same s (write (archive_of K vs))))
        ok vs)
      (λ vs e. n (archive-returns s (archive-legal keys K k s vs e).0))

  -- the versions of an archive that is accepted
  record Accepted (vs : List Forest) : Type 0 where
    legal : All (LegalVersion K) vs
    there : 1 ≤ length vs
    counted : length vs ≤ 999

  accepted : (s : Bytes) (vs : List Forest) → archive_text K s ≡ ok vs → Accepted vs
  accepted s vs e =
      let l = archive-legal keys K k s vs e in
      subst Accepted l.1 (record { legal = all-legal keys K k l.0.each-legal; there = l.0.some-there; counted = l.0.not_more })

-- ---- answers
-- what a call gives, where it is not refused, has no CR
abbrev Free : Result Bytes → Type 0
Free x = (s : Bytes) → x ≡ ok s → count (code "\r") s ≡ 0

free-bind : {A : Type 0} (r : Result A) (f : A → Result Bytes) → ((a : A) → r ≡ ok a → Free (f a)) → Free (r >>= f)
free-bind r f g s e = let x = bind_inv r f s e in g x.0 x.1 s x.2

free-then : (r : Result (Unit {0})) (x : Result Bytes) → (r ≡ ok tt → Free x) → Free (r >> x)
free-then (ok u) x g s e = g refl s e
free-then (refused n) x g s e = refused-ok e

free-give : (out : ℕ) (s : Bytes) → count (code "\r") s ≡ 0 → Free (give out s)
unfolding give
free-give out s h t e = ap (count (code "\r")) (sym (ok-inj (then_ok (refuse r14 (ltb out (length s))) (ok s) e))) ∙ h

free-answer : (x : Result Bytes) → Free x → count (code "\r") (answer x).bytes ≡ 0
unfolding answer count
free-answer (ok s) g = g s refl
free-answer (refused n) g = refl

free-marked : (table : List Mark) (x : Result Given) → ((g : Given) → x ≡ ok g → count (code "\r") g.text ≡ 0) → count (code "\r") (marked table x).answer.bytes ≡ 0
unfolding marked answer count
free-marked table (ok g) h = h g refl
free-marked table (refused n) h = refl

-- the versions that a call writes
at-legal : {K : KeyList} (i : ℕ) (vs : List Forest) (v : Forest) → All (LegalVersion K) vs → version_at i vs ≡ ok v → LegalVersion K v
unfolding version_at
at-legal zero vs v l e = refused-ok e
at-legal (suc i) [] v l e = refused-ok e
at-legal {K} (suc zero) (w ∷ vs) v l e = subst (LegalVersion K) (ok-inj e) l.0
at-legal (suc (suc i)) (w ∷ vs) v l e = at-legal (suc i) vs v l.1 e

earlier-free : (keys : Bytes) (K : KeyList) (k : key_list keys ≡ ok K) (vs : List Forest) → Accepted keys K k vs → (ks : List Named) (i out : ℕ) (g : Given)
    → earlier K vs ks i out ≡ ok g → count (code "\r") g.text ≡ 0
earlier-free keys K k vs a ks i out g e =
    let x = earlier-ok K vs ks i out g e in
    let n = length-take-le i vs x.1 in
    ap (λ y. count (code "\r") y.text) x.2 ∙ written-returns keys K k (take i vs) (all_take (LegalVersion K) i vs a.legal) (omega (arith, x.0, n)) (omega (arith, x.1, a.counted, n))

-- a block that reads the archive and is not refused
read-free : (keys archive : Bytes) (work : ℕ) (F : KeyList → List Forest → Result Given) (g : Given)
    → (room work >> (at_most 4096 keys >> (at_most 32768 archive >> (key_list keys >>= (λ L. archive_text L archive >>= F L))))) ≡ ok g
    → ((K : KeyList) (k : key_list keys ≡ ok K) (vs : List Forest) → Accepted keys K k vs → F K vs ≡ ok g → count (code "\r") g.text ≡ 0) → count (code "\r") g.text ≡ 0
read-free keys archive work F g e h =
    let x = bind_inv (key_list keys) _ g (then_ok (at_most 32768 archive) _ (then_ok (at_most 4096 keys) _ (then_ok (room work) _ e))) in
    let y = bind_inv (archive_text x.0 archive) _ g x.2 in
    h x.0 x.1 y.0 (accepted keys x.0 x.1 archive y.0 y.1) y.2

-- "No CR is ever written": no answer of a call has one, whatever it is lent
pub record NoReturns : Type 0 where
  pub founding : (keys text : Bytes) (out work : ℕ) → count (code "\r") (found keys text out work).bytes ≡ 0
  pub adding : (keys text archive : Bytes) (out work : ℕ) → count (code "\r") (add keys text archive out work).bytes ≡ 0
  pub retrieving : (keys archive : Bytes) (i out work : ℕ) → count (code "\r") (retrieve keys archive i out work).bytes ≡ 0
  pub histories : (keys archive place : Bytes) (out work : ℕ) → count (code "\r") (history keys archive place out work).bytes ≡ 0
  pub stepping-back : (keys archive : Bytes) (table : List Mark) (i out work : ℕ) → count (code "\r") (step_back keys archive table i out work).answer.bytes ≡ 0
  pub back-to-marks : (keys archive : Bytes) (table : List Mark) (name : Bytes) (out work : ℕ) → count (code "\r") (step_back_to_mark keys archive table name out work).answer.bytes ≡ 0
  pub longest-lines : (n out work : ℕ) → count (code "\r") (longest_history n out work).bytes ≡ 0

times-returns : (t : Times) → length t ≤ 999 → count (code "\r") (write_times t) ≡ 0
times-returns t h = signs-returns (times-counts (write_times t) (times-bytes t h))

pub no-returns : NoReturns
unfolding found add retrieve history step_back step_back_to_mark longest_history
no-returns =
    record {
      founding = λ keys text out work. free-answer _ (free-then (room work) _ λ _. free-then (at_most 4096 keys) _ λ _. free-then (at_most 16384 text) _ λ _.
          free-bind (key_list keys) _ λ K k. free-bind (version K text) _ λ v e. free-then (storable (archive_of K (v ∷ []))) _ λ _.
          free-give out _ (written-returns keys K k (v ∷ []) (version-legal K text v e, tt) (omega arith) (omega arith)));
      adding = λ keys text archive out work. free-answer _ (free-then (room work) _ λ _. free-then (at_most 4096 keys) _ λ _. free-then (at_most 16384 text) _ λ _.
          free-then (at_most 32768 archive) _ λ _. free-bind (key_list keys) _ λ K k. free-bind (version K text) _ λ v e. free-bind (archive_text K archive) _ λ vs a.
          free-then (not_full vs) _ λ n. free-then (storable (archive_of K (vs ++ v ∷ []))) _ λ _.
          let w = accepted keys K k archive vs a in
          let m = length-append vs (v ∷ []) in
          free-give out _ (written-returns keys K k (vs ++ v ∷ []) (all_snoc (LegalVersion K) vs v w.legal (version-legal K text v e)) (omega (arith, m)) (not-over (length vs) w.counted (not_full-ok vs n) m)));
      retrieving = λ keys archive i out work. free-answer _ (free-then (room work) _ λ _. free-then (at_most 4096 keys) _ λ _. free-then (at_most 32768 archive) _ λ _.
          free-bind (key_list keys) _ λ K k. free-bind (archive_text K archive) _ λ vs a. free-bind (version_at i vs) _ λ v e.
          free-give out _ (write-returns false v (at-legal i vs v (accepted keys K k archive vs a).legal e).tidy));
      histories = λ keys archive place out work. free-answer _ (free-then (room work) _ λ _. free-then (at_most 4096 keys) _ λ _. free-then (at_most 32768 archive) _ λ _.
          free-then (at_most 2560 place) _ λ _. free-bind (key_list keys) _ λ K k. free-bind (archive_text K archive) _ λ vs a. free-bind (address K place) _ λ ls e.
          free-give out _ (times-returns (map (holds K [] ls) vs) (omega (arith, (accepted keys K k archive vs a).counted, length-map vs (holds K [] ls)))));
      stepping-back = λ keys archive table i out work. free-marked table _ λ g e.
          read-free keys archive work (λ L us. marks_in (length us) table >>= (λ js. earlier L us js i out)) g e λ K k vs a h.
          let x = bind_inv (marks_in (length vs) table) _ g h in
          earlier-free keys K k vs a x.0 i out g x.2;
      back-to-marks = λ keys archive table name out work. free-marked table _ λ g e.
          read-free keys archive work (λ L us. marks_in (length us) table >>= (λ js. legal_name name >> (find name js >>= (λ x. earlier L us js x.version out)))) g e λ K k vs a h.
          let x = bind_inv (marks_in (length vs) table) _ g h in
          let y = bind_inv (find name x.0) _ g (then_ok (legal_name name) _ x.2) in
          earlier-free keys K k vs a x.0 y.0.version out g y.2;
      longest-lines = λ n out work. free-answer _ (free-then (room work) _ λ _. free-then (refuse r11 (not (leb 1 n && leb n 999))) _ λ h.
          free-give out _ (times-returns (longest n) (few n h)));
    }
  where
    not-over : (n : ℕ) {m : ℕ} → n ≤ 999 → (n ≡ 999 → ⊥) → m ≡ n + 1 → m ≤ 999
    not-over n l h e = by-test (eqb n 999) (λ t. absurd (h (eqb-true n 999 t))) (λ t. let x = eqb-false n 999 t in omega arith)

    few : (n : ℕ) → refuse r11 (not (leb 1 n && leb n 999)) ≡ ok tt → length (longest n) ≤ 999
    few n h =
        let t = both_true (leb 1 n) (leb n 999) (not-false _ (refuse-ok r11 _ h)) in
        omega (arith, longest-length n, leb-true n 999 t.1)

-- ---- computed: three tablets, one archive; a note saved again with other line ends is no new content; an archive with CR
abbrev lines : Bytes
lines = bytes "(/, (station, {}))\n(/station, (note, {}))\n"

abbrev one : Bytes
one = bytes "<T t=\"1\"><station><note>a\n<by>b\nc</by>\n</note></station></T>"

abbrev two : Bytes
two = bytes "<T t=\"1-2\"><station><note>a\n<by>b\nc</by>\n</note></station></T>"

abbrev success : Bytes → Answer
success s = record { number = 0; bytes = s }

abbrev table : List (Answer × Answer)
table =
    (found lines (bytes "<station>\n<note>a\n<by>b\nc</by>\n</note></station>\n") 32768 16384, success one) ∷
    (found lines (bytes "<station>\r\n<note>a\r\n<by>b\r\nc</by>\r\n</note></station>\r\n") 32768 16384, success one) ∷
    (found lines (bytes "<station>\r<note>a\r<by>b\rc</by>\r</note></station>\r") 32768 16384, success one) ∷
    (add lines (bytes "<station><note>a\r\n<by>b\rc</by>\r</note></station>") one 32768 16384, success two) ∷
    (add lines (bytes "<station><note/></station>") (bytes "<T t=\"1\"><station><note>a\n<by>b\r\nc</by>\n</note></station></T>") 32768 16384, record { number = 10; bytes = [] }) ∷
    (add lines (bytes "<station><note/></station>") (bytes "<T t=\"1\"><station><note>a\n<by>b\rc</by>\n</note></station></T>") 32768 16384, record { number = 10; bytes = [] }) ∷ []

pub tablets : map (λ r. r.0) table ≡ map (λ r. r.1) table
unfolding calls_compute
tablets = refl
