-- The first steps of the calls, as the program takes them: the work cells (1), the lengths (2), the key list (3, 4); and the rows under which
-- these and the archive (10) are refused.
use Rattle.std.specs.Prelude.{ℕ, ◌<◌, ◌≤◌, ◌≡◌, refl, Bool, true, false, ◌⊎◌, eqb, ltb, length}
use Rattle.std.proofs.Common.{ap, sym, ◌∙◌, ltb-true, ltb-false}
use Rattle.std.proofs.Math.Logic.{⊎_elim}
use Rattle.xml.specs.Bytes.{Bytes}
use Rattle.keys.specs.Result.{Refusal as Row, Result, number_of, refused, ok, refuse, r1, r2, r10}
use Rattle.keys.specs.ResultLaws.{refused-ok}
use Rattle.keys.specs.RefusedRows.{key_list-row, refused_as-row}
use Rattle.keys.specs.KeyList.{KeyList, key_list}
use Rattle.versions.specs.Calls.{room, at_most}
use Rattle.versions.specs.Walk.{archive_read}
use Rattle.archive.specs.Later.{Later}

-- ---- what a test says
refused-row : {v w : Row} → ◌≡◌ {A = Result (Unit {0})} (refused w) (refused v) → w ≡ v
refused-row e = cc

pub room-1 : {w : Row} (n : ℕ) → refused w ≡ room n → (w ≡ r1) × (n < 16384)
unfolding room
room-1 {w} n e = at (ltb n 16384) refl e
  where
    at : (b : Bool) → ltb n 16384 ≡ b → refused w ≡ refuse r1 b → (w ≡ r1) × (n < 16384)
    at true t h = (refused-row h, ltb-true n 16384 t)
    at false t h = refused-ok h

pub roomy : (n : ℕ) → ok tt ≡ room n → 16384 ≤ n
unfolding room
roomy n e = at (ltb n 16384) refl e
  where
    at : (b : Bool) → ltb n 16384 ≡ b → ok tt ≡ refuse r1 b → 16384 ≤ n
    at true t h = refused-ok (sym h)
    at false t h = ltb-false n 16384 t

pub long-2 : {w : Row} (n : ℕ) (s : Bytes) → refused w ≡ at_most n s → w ≡ r2
unfolding at_most
long-2 {w} n s e = at (ltb n (length s)) e
  where
    at : (b : Bool) → refused w ≡ refuse r2 b → w ≡ r2
    at true h = refused-row h
    at false h = refused-ok h

pub short : (n : ℕ) (s : Bytes) → ok tt ≡ at_most n s → length s ≤ n
unfolding at_most
short n s e = at (ltb n (length s)) refl e
  where
    at : (b : Bool) → ltb n (length s) ≡ b → ok tt ≡ refuse r2 b → length s ≤ n
    at true t h = refused-ok (sym h)
    at false t h = ltb-false n (length s) t

-- ---- none of the rows is that of the first step
later-row : {v w : Row} → w ≡ v → Later (number_of v) → Later (number_of w)
later-row e l = ap (λ r. eqb (number_of r) 1) e ∙ l

pub long-later : {w : Row} (n : ℕ) (s : Bytes) → refused w ≡ at_most n s → Later (number_of w)
unfolding number_of
long-later n s e = later-row (long-2 n s e) refl

pub keys-later : {w : Row} (s : Bytes) → key_list s ≡ refused w → Later (number_of w)
unfolding number_of
keys-later s e = ⊎_elim (λ x. later-row x refl) (λ x. later-row x refl) (key_list-row s e)

pub archive-later : {w : Row} (K : KeyList) (s : Bytes) → archive_read K s ≡ refused w → Later (number_of w)
unfolding archive_read number_of
archive-later K s e = later-row (refused_as-row r10 _ e) refl
