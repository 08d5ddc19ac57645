-- How long a history is at most: the call that gives the longest text, and outputs into which every history fits (Q-14).
use Rattle.std.specs.Prelude.{ℕ, ◌≤◌, ◌≡◌, Bool, true, false, not, ◌&&◌, List, [], ◌∷◌, map, leb, ltb, length}
use Rattle.std.proofs.Common.{arith, sym, ◌∙◌, ap, le-ltb, leb-true}
use Rattle.std.proofs.Math.Path.{refl}
use Rattle.std.proofs.Math.Logic.{⊎_elim}
use Rattle.std.proofs.lemmas.List.{length-map}
use Rattle.std.proofs.lemmas.Bool.{not-false}
use Rattle.xml.specs.Bytes.{Bytes, bytes, same}
use Rattle.xml.specs.Truth.{and_right}
use Rattle.xml.specs.Forest.{Forest, end, elem, write, nodes}
use Rattle.xml.specs.Read.{read}
use Rattle.keys.specs.Result.{Refusal, Result, number_of, refused, ok, ◌>>=◌, ◌>>◌, refuse, r1, r2, r3, r4, r10, r11, r12}
use Rattle.keys.specs.ResultLaws.{refused-ok}
use Rattle.keys.specs.RefusedRows.{refuse-row, bind-row, refused_as-row, key_list-row, address-row}
use Rattle.keys.specs.KeyList.{KeyList, key_list}
use Rattle.keys.specs.Version.{Label, parsed}
use Rattle.keys.specs.Address.{address, holds}
use Rattle.timestamp.specs.Times.{Times, write_times}
use Rattle.timestamp.specs.Longest.{LongestText, longest}
use Rattle.timestamp.proofs.LongestLaws.{longest-length, longest-text, longest-999, times-short}
use Rattle.versions.specs.Archive.{archive_of, Versions, empty, more, versions_from, last_version, archive_text}
use Rattle.versions.specs.LegalLaws.{all-legal, read_back, archive-legal}
use Rattle.versions.specs.Calls.{answer, room, at_most, give, history, longest_history, calls_compute}
use Rattle.versions.specs.CallLaws.{then_by, give-by, refuse-ok}

-- ---- the longest text
-- "a history text over versions 1 to n than which no set of those numbers has a longer one": what the call gives, where it is not refused
pub longest-given : (n out work : ℕ) → (longest_history n out work).number ≡ 0 → LongestText n (longest_history n out work).bytes
unfolding longest_history answer
longest-given n out work h =
    then_by (λ a. LongestText n a.bytes) (room work) _ h (λ _ i.
    then_by (λ a. LongestText n a.bytes) (refuse r11 (not (leb 1 n && leb n 999))) _ i (λ e j.
    give-by (λ a. LongestText n a.bytes) out (write_times (longest n)) j (longest-text n (leb-true n 999 (and_right (leb 1 n) (leb n 999) (not-false (leb 1 n && leb n 999) (refuse-ok r11 _ e)))))))

-- ---- 14
-- an archive is refused under 10 alone
archive-row : (K : KeyList) (s : Bytes) {w : Refusal} → archive_text K s ≡ refused w → w ≡ r10
unfolding archive_text
archive-row K s h = refused_as-row r10 (do
  f ← parsed (read true s)
  refuse r10 (not (leb 1 (last_version f) && leb (last_version f) 999))
  refuse r10 (ltb 1024 (nodes f))
  vs ← versions_from K f (last_version f) 1
  refuse r10 (not (same s (write (archive_of K vs))))
  ok vs) h

-- no step of a history but the last is refused under a row w of this number
module _ {w : Refusal} (e : number_of w ≡ 14) where
  other : (n : Refusal) → (number_of n ≡ 14 → ⊥) → w ≡ n → ⊥
  other n f x = f (ap number_of (sym x) ∙ e)

  test-14 : {B : Type 0} (n : Refusal) (x : Bool) (s : Result B) → (number_of n ≡ 14 → ⊥) → (s ≡ refused w → ⊥) → (refuse n x >> s) ≡ refused w → ⊥
  test-14 n x s f g h = ⊎_elim (other n f) g (refuse-row n x s h)

  bind-14 : {A B : Type 0} (r : Result A) (f : A → Result B) → (r ≡ refused w → ⊥) → ((a : A) → r ≡ ok a → f a ≡ refused w → ⊥) → (r >>= f) ≡ refused w → ⊥
  bind-14 r f g k h = ⊎_elim g (λ x. k x.0 x.1 x.2) (bind-row r f h)

  length-14 : (n : ℕ) (s : Bytes) (x : Result Bytes) → (x ≡ refused w → ⊥) → (at_most n s >> x) ≡ refused w → ⊥
  unfolding at_most number_of
  length-14 n s x = test-14 r2 (ltb n (length s)) x (λ z. omega arith)

  keys-14 : (s : Bytes) → key_list s ≡ refused w → ⊥
  unfolding number_of
  keys-14 s h = ⊎_elim (other r3 (λ z. omega arith)) (other r4 (λ z. omega arith)) (key_list-row s h)

  archive-14 : (K : KeyList) (s : Bytes) → archive_text K s ≡ refused w → ⊥
  unfolding number_of
  archive-14 K s h = other r10 (λ z. omega arith) (archive-row K s h)

  address-14 : (K : KeyList) (s : Bytes) → address K s ≡ refused w → ⊥
  unfolding number_of
  address-14 K s h = other r12 (λ z. omega arith) (address-row K s h)

  -- nor is the last, where the output is long enough
  give-14 : (out : ℕ) (s : Bytes) → length s ≤ out → give out s ≡ refused w → ⊥
  unfolding give
  give-14 out s l h = refused-ok (sym (rw (le-ltb out (length s) l) at h))

-- an answer's number other than 0 is that of a row
row_of : (x : Result Bytes) → (answer x).number ≡ 14 → (w : Refusal) × (number_of w ≡ 14) × (x ≡ refused w)
unfolding answer
row_of (refused w) h = (w, h, refl)
row_of (ok s) h = absurd (omega arith)

-- an output as long as the longest text over an archive's versions takes every history
pub history-fits : (keys archive place : Bytes) (out work : ℕ)
    → ((K : KeyList) (vs : List Forest) → key_list keys ≡ ok K → archive_text K archive ≡ ok vs → length (write_times (longest (length vs))) ≤ out)
    → (history keys archive place out work).number ≡ 14 → ⊥
unfolding history room number_of
history-fits keys archive place out work long h =
    let x = row_of _ h in
    let e = x.1 in
    test-14 e r1 (ltb work 16384) _ (λ z. omega arith) (length-14 e 4096 keys _ (length-14 e 32768 archive _ (length-14 e 2560 place _
    (bind-14 e (key_list keys) _ (keys-14 e keys) (λ K k. bind-14 e (archive_text K archive) _ (archive-14 e K archive) (λ vs a.
    bind-14 e (address K place) _ (address-14 e K place) (λ ls l.
    give-14 e out (write_times (map (holds K [] ls) vs)) (omega (arith, most K vs k a (map (holds K [] ls) vs) (length-map vs (holds K [] ls)), long K vs k a))))))))) x.2
  where
    most : (K : KeyList) (vs : List Forest) → key_list keys ≡ ok K → archive_text K archive ≡ ok vs → (t : Times) → length t ≡ length vs
        → length (write_times t) ≤ length (write_times (longest (length vs)))
    most K vs k a t e = let l = archive-legal keys K k archive vs a in
        (longest-text (length vs) (rw l.1 at l.0.not_more)).most t e

-- 2,591 bytes take every history, of whatever archive
pub history-2591 : (keys archive place : Bytes) (out work : ℕ) → 2591 ≤ out → (history keys archive place out work).number ≡ 14 → ⊥
history-2591 keys archive place out work h =
    history-fits keys archive place out work (λ K vs k a.
    let l = archive-legal keys K k archive vs a in
    let n : length vs ≤ 999 = rw l.1 at l.0.not_more in
    omega (arith, times-short (longest (length vs)) (omega (arith, longest-length (length vs)))))

-- ---- and one byte less does not
-- a version that has a root, and a vacant one: as texts, and as they are received
root_text : Bool → Bytes
root_text true = bytes "<s></s>"
root_text false = []

root : Bool → Forest
root true = elem (bytes "s") end end
root false = end

root_keys : Bytes
root_keys = bytes "(/, (s, {}))\n"

root_list : KeyList
root_list = record { context = []; name = bytes "s"; key_names = [] } ∷ []

root_label : Label
root_label = bytes "s" ∷ []

keys-read : key_list root_keys ≡ ok root_list
unfolding calls_compute root_keys root_list
keys-read = refl

all-roots : (t : Times) → Versions root_list (map root_text t) (map root t)
unfolding calls_compute root_list root_text root
all-roots [] = empty
all-roots (true ∷ t) = more refl (all-roots t)
all-roots (false ∷ t) = more refl (all-roots t)

-- 999 versions, of which those of the longest line have a root, and their archive
roots : List Forest
roots = map root (longest 999)

root_archive : Bytes
root_archive = write (archive_of root_list roots)

archive-read : archive_text root_list root_archive ≡ ok roots
unfolding root_archive roots
archive-read = read_back root_keys root_list keys-read roots (all-legal root_keys root_list keys-read (all-roots (longest 999))) (omega (arith, counted)) (omega (arith, counted)) (omega (arith, small))
  where
    counted : length roots ≡ 999
    counted = length-map (longest 999) root ∙ longest-length 999

    small : nodes (archive_of root_list roots) ≡ 1
    small = unfold calls_compute roots root_list root in refl

-- the root's history is the longest line, and does not fit into 2,590 bytes
pub history-2590 : (keys archive place : Bytes) × ((history keys archive place 2590 16384).number ≡ 14)
history-2590 = (root_keys, root_archive, bytes "/s", meets)
  where
    short : length root_archive ≡ 2627
    short = unfold calls_compute root_archive roots root_list root in refl

    place_read : address root_list (bytes "/s") ≡ ok (root_label ∷ [])
    place_read = unfold calls_compute root_list root_label in refl

    held : map (holds root_list [] (root_label ∷ [])) roots ≡ longest 999
    held = unfold calls_compute roots root root_list root_label in refl

    meets : (history root_keys root_archive (bytes "/s") 2590 16384).number ≡ 14
    meets = unfold history answer room at_most give number_of bytes root_keys in rw (short, keys-read, archive-read, place_read, held, longest-999) refl
