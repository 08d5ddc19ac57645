-- The calls' answers, step by step: an answer and an output are what the steps of a call give. A law for each kind of step.
use Rattle.std.specs.Prelude.{ℕ, ◌<◌, ◌≤◌, ◌≡◌, Bool, true, false, ltb, drop}
use Rattle.std.proofs.Common.{arith, ◌∙◌, take_all}
use Rattle.std.proofs.Math.Path.{refl, sym, ap, subst}
use mathlib.Core.List.{List, [], ◌++◌}
use Rattle.std.proofs.Math.Dec.{eqb}
use Rattle.std.proofs.Math.ListN.{length, replicate}
use borrow.Author.Tests.{lt-ltb, le-ltb, ltb-true, ltb-false}
use Rattle.xml.specs.Bytes.{Bytes}
use Rattle.xml.specs.Over.{over, Wrote}
use Rattle.xml.specs.OverLaws.{wrote-over}
use Rattle.keys.specs.Result.{Refusal, Result, number_of, refused, ok, ◌>>=◌, ◌>>◌, refuse, r1, r14}
use Rattle.keys.specs.KeyList.{KeyList, key_list}
use Rattle.keys.specs.Version.{version}
use Rattle.xml.specs.Forest.{Forest}
use Rattle.marks.specs.declared.Mark.{Mark}
use Rattle.versions.specs.Calls.{Answer, answer, Marked, room, at_most, give, out_after, work_after}
use Rattle.versions.specs.Walk.{archive_read}
use Rattle.archive.specs.Reception.{SentBack}
use Rattle.archive.specs.FirstSteps.{room-1, long-later, keys-later, archive-later}

-- an answer and an output are what the steps give; 1 is not among them
pub record Gives (x : Result Bytes) (number size : ℕ) (out left : List ℕ) : Type 0 where
  pub number_is : number ≡ (answer x).number
  pub size_is : size ≡ length (answer x).bytes
  pub out-is : left ≡ out_after (answer x) out
  pub later : eqb number 1 ≡ false

-- the same steps
pub gives_same : {x y : Result Bytes} {number size : ℕ} {out left : List ℕ} → x ≡ y → Gives y number size out left → Gives x number size out left
gives_same {number = number} {size = size} {out = out} {left = left} e g = subst (λ z. Gives z number size out left) (sym e) g

pub gives-refused : {x : Result Bytes} {number : ℕ} (w : Refusal) (out : List ℕ) → x ≡ refused w → number ≡ number_of w → eqb number 1 ≡ false → Gives x number 0 out out
unfolding answer out_after
gives-refused w out e n l = gives_same e (record { number_is = n; size_is = refl; out-is = refl; later = l })

pub gives-ok : {x : Result Bytes} {n : ℕ} {out left : List ℕ} (s : Bytes) → x ≡ ok s → n ≡ length s → n ≤ length out → left ≡ over out s → Gives x 0 n out left
unfolding answer out_after over
gives-ok {out = out} s e h l o =
    gives_same e (record { number_is = refl; size_is = h; out-is = o ∙ ap (λ t. t ++ drop (length s) out) (take_all (length out) s (omega arith)); later = refl })

-- ---- a step that is refused, and one that is not
pub step-refused : {A : Type 0} {r : Result A} (g : A → Result Bytes) {number : ℕ} (w : Refusal) (out : List ℕ) → r ≡ refused w → number ≡ number_of w → eqb number 1 ≡ false
    → Gives (r >>= g) number 0 out out
step-refused g w out e n l = gives-refused w out (ap (λ z. z >>= g) e) n l

pub step_ok : {A : Type 0} {r : Result A} (g : A → Result Bytes) {number size : ℕ} {out left : List ℕ} (a : A) → r ≡ ok a → Gives (g a) number size out left
    → Gives (r >>= g) number size out left
step_ok g a e x = gives_same (ap (λ z. z >>= g) e) x

-- ---- a test of a refusal
module _ (x : Result Bytes) {b : Bool} (w : Refusal) where
  pub test-refused : {number : ℕ} (out : List ℕ) → b ≡ true → number ≡ number_of w → eqb number 1 ≡ false → Gives (refuse w b >> x) number 0 out out
  test-refused out e n l = gives-refused w out (rw e) n l

  pub test-passed : {number size : ℕ} {out left : List ℕ} → b ≡ false → Gives x number size out left → Gives (refuse w b >> x) number size out left
  test-passed e g = gives_same (rw e) g

-- ---- 2: a text's length
module _ (x : Result Bytes) (n : ℕ) (s : Bytes) where
  pub too_long : {w : Refusal} (out : List ℕ) → refused w ≡ at_most n s → Gives (at_most n s >> x) (number_of w) 0 out out
  too_long {w} out e = gives-refused w out (ap (λ z. z >> x) (sym e)) refl (long-later n s e)

  pub not-long : {number size : ℕ} {out left : List ℕ} → ok tt ≡ at_most n s → Gives x number size out left → Gives (at_most n s >> x) number size out left
  not-long e g = gives_same (ap (λ z. z >> x) (sym e)) g

-- ---- 3, 4: the key list; 5 to 9: a version sent back; 10: the archive
pub keys-back : {w : Refusal} (g : KeyList → Result Bytes) (keys : Bytes) (out : List ℕ) → key_list keys ≡ refused w → Gives (key_list keys >>= g) (number_of w) 0 out out
keys-back {w} g keys out e = step-refused g w out e refl (keys-later keys e)

pub version-back : {K : KeyList} {src : Bytes} {w : Refusal} (g : Forest → Result Bytes) (out : List ℕ) → SentBack K src w → Gives (version K src >>= g) (number_of w) 0 out out
version-back {w = w} g out b = step-refused g w out b.is refl b.later

pub archive-back : {w : Refusal} (K : KeyList) (src : Bytes) (g : Forest → Result Bytes) (out : List ℕ) → archive_read K src ≡ refused w
    → Gives (archive_read K src >>= g) (number_of w) 0 out out
archive-back {w} K src g out e = step-refused g w out e refl (archive-later K src e)

-- ---- giving the text
module _ (s : Bytes) (out : List ℕ) {count : ℕ} (h : count ≡ length s) where
  pub give-short : length out < count → Gives (give (length out) s) (number_of r14) 0 out out
  unfolding give number_of
  give-short l = test-refused (ok s) r14 out (lt-ltb (length out) (length s) (omega arith)) refl refl

  pub give-done : {left : List ℕ} → count ≤ length out → left ≡ over out s → Gives (give (length out) s) 0 count out left
  unfolding give
  give-done l o = test-passed (ok s) r14 (le-ltb (length out) (length s) (omega arith)) (gives-ok s refl h l o)

-- by whether the output lacks room for it
module _ (s : Bytes) (out : List ℕ) {lacks : Bool} (h : lacks ≡ ltb (length out) (length s)) where
  pub give-lacks : lacks ≡ true → Gives (give (length out) s) (number_of r14) 0 out out
  give-lacks e = give-short s out refl (ltb-true (length out) (length s) (sym h ∙ e))

  pub give-fits : {count : ℕ} {left : List ℕ} → lacks ≡ false → Wrote out 0 s count left → Gives (give (length out) s) 0 count out left
  give-fits e w =
      let x = wrote-over w in
      give-done s out x.0 (omega (arith, x.0, ltb-false (length out) (length s) (sym h ∙ e))) x.1

-- ---- the call
-- number, length and output at an exit are those of the answer a: of a call, and of an entry of the firmware, whose work cells are its own
pub record Told (a : Answer) (out : List ℕ) (number size : ℕ) (left : List ℕ) : Type 0 where
  pub number_is : number ≡ a.number
  pub size_is : size ≡ length a.bytes
  pub out-is : left ≡ out_after a out

pub told-by : {a : Answer} {out : List ℕ} {number size n k : ℕ} {left : List ℕ} → number ≡ n → size ≡ k → Told a out n k left → Told a out number size left
told-by e f t = rw (e, f) t

-- where 16,384 cells are lent, 1 does not hold, and the answer is what the later steps give
pub gives-told : (x : Result Bytes) (a : Answer) (out : List ℕ) → a ≡ answer (room 16384 >> x) → {number size : ℕ} {left : List ℕ} → Gives x number size out left
    → Told a out number size left
unfolding room
gives-told x a out z g =
    let y : answer x ≡ a = sym z in
    record { number_is = g.number_is ∙ ap (λ b. b.number) y; size_is = g.size_is ∙ ap (λ b. length b.bytes) y; out-is = g.out-is ∙ ap (λ b. out_after b out) y }

-- number, length, output and work cells at a call's exit are those of the answer a
pub record Ends (a : Answer) (out work : List ℕ) (number size : ℕ) (left cells : List ℕ) : Type 0 where
  pub number_is : number ≡ a.number
  pub size_is : size ≡ length a.bytes
  pub out-is : left ≡ out_after a out
  pub work-is : cells ≡ work_after a work

pub ends-told : {a : Answer} {out work : List ℕ} {number size : ℕ} {left cells : List ℕ} → Ends a out work number size left cells → Told a out number size left
ends-told e = record { number_is = e.number_is; size_is = e.size_is; out-is = e.out-is }

-- likewise of a call over a table of marks, and the table at its exit
pub record ToldMarked (m : Marked) (out : List ℕ) (number size : ℕ) (left : List ℕ) (table : List Mark) : Type 0 where
  pub told : Told m.answer out number size left
  pub table_is : table ≡ m.table

pub record EndsMarked (m : Marked) (out work : List ℕ) (number size : ℕ) (left cells : List ℕ) (table : List Mark) : Type 0 where
  pub ends : Ends m.answer out work number size left cells
  pub table_is : table ≡ m.table

pub marked-told : {m : Marked} {out work : List ℕ} {number size : ℕ} {left cells : List ℕ} {table : List Mark} → EndsMarked m out work number size left cells table
    → ToldMarked m out number size left table
marked-told e = record { told = ends-told e.ends; table_is = e.table_is }

clear-after : (a : Answer) (work : List ℕ) → eqb a.number 1 ≡ false → work_after a work ≡ replicate (length work) 0
unfolding work_after
clear-after a work e = rw (e, work_after) refl

module _ (x : Result Bytes) (a : Answer) (out work : List ℕ) (z : a ≡ answer (room (length work) >> x)) where
  -- 1: the work cells are too few
  pub ends-1 : {w : Refusal} → refused w ≡ room (length work) → Ends a out work (number_of w) 0 out work
  unfolding answer number_of out_after work_after
  ends-1 {w} e =
      let q : w ≡ r1 = (room-1 (length work) e).0 in
      let y : a ≡ record { number = 1; bytes = [] } = z ∙ ap (λ r. answer (r >> x)) (sym e) ∙ rw q refl in
      subst (λ b. Ends b out work (number_of w) 0 out work) (sym y) (record { number_is = rw q refl; size_is = refl; out-is = refl; work-is = refl })

  -- they are not, and were cleared
  pub ends : {number size : ℕ} {left cells : List ℕ} → ok tt ≡ room (length work) → Gives x number size out left → (k : ℕ) → k ≡ length work → cells ≡ replicate k 0
      → Ends a out work number size left cells
  ends {number} {size} {left} {cells} e g k q w =
      let y : a ≡ answer x = z ∙ ap (λ r. answer (r >> x)) (sym e) in
      let n : number ≡ a.number = g.number_is ∙ ap (λ b. b.number) (sym y) in
      record {
        number_is = n;
        size_is = g.size_is ∙ ap (λ b. length b.bytes) (sym y);
        out-is = g.out-is ∙ ap (λ b. out_after b out) (sym y);
        work-is = subst (λ j. cells ≡ replicate j 0) q w ∙ sym (clear-after a work (subst (λ k. eqb k 1 ≡ false) n g.later));
      }
