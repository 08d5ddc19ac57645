-- "Stepping back can't meet 13": it adds no byte to an archive.
use Rattle.std.specs.Prelude.{ℕ, ◌+◌, ◌≤◌, ◌≡◌, refl, Bool, true, false, [], length, take}
use Rattle.std.proofs.Common.{arith, sym, ap, subst, length-append}
use Rattle.model.specs.Masks.{clash}
use Rattle.model.specs.Keyed.{any}
use Rattle.model.specs.Stored.{cut_s}
use Rattle.xml.specs.Bytes.{Bytes}
use Rattle.xml.specs.BytesLaws.{same-is}
use Rattle.xml.specs.Forest.{Forest, end, elem, text, stamp, write, join}
use Rattle.keys.specs.KeyList.{KeyList}
use Rattle.timestamp.specs.Times.{Times, same_times, always, write_times, last_number}
use Rattle.versions.specs.Archive.{Archive, stamped, archive_forest, last_version}
use Rattle.versions.specs.Walk.{times_in, canonical, back_in, inside_of, back_forest, forest_legal}
use Rattle.versions.specs.Lawful.{LegalArchive}
use Rattle.versions.specs.SetLaws.{length-times_in}
use Rattle.versions.specs.BackContents.{settled, back-stamp}
use Rattle.versions.specs.BackLaws.{length-always, take-always, back-archive}
use Rattle.versions.specs.TimesLength.{cut-shorter}
use Rattle.versions.specs.AllTimed.{AllTimed, timed-stamped, timed-siblings, outer}

length-join : (f g : Forest) → length (write (join f g)) ≡ length (write f) + length (write g)
unfolding write join
length-join end g = omega arith
length-join (text b r) g = simp length-append (omega (arith, length-join r g))
length-join (elem m k r) g = simp length-append (omega (arith, length-join r g))
length-join (stamp s k r) g = simp length-append (omega (arith, length-join r g))

length-settled : (b c : Bool) (s t : Bytes) (j k q r : Forest) → length s ≤ length t → length (write j) ≤ length (write k) → length (write q) ≤ length (write r)
    → length (write (settled b c s j q)) ≤ length (write (stamp t k r))
unfolding write
length-settled false c s t j k q r x y z = simp length-append (omega arith)
length-settled true true s t j k q r x y z = simp length-append (omega (arith, length-join j q))
length-settled true false s t j k q r x y z = simp length-append (omega arith)

-- stepping back adds no byte to a forest whose `T`s have the texts of sets
pub length-in : (n i : ℕ) (around : Times) (f : Forest) → i ≤ n → n ≤ 999 → AllTimed n f → length (write (back_in i around f)) ≤ length (write f)
unfolding write back_in AllTimed canonical
length-in n i around end l m h = omega arith
length-in n i around (text b r) l m h = simp length-append (omega (arith, length-in n i around r l m h))
length-in n i around (elem a k r) l m h = simp length-append (omega (arith, length-in n i around k l m h.0, length-in n i around r l m h.1))
length-in n i around (stamp s k r) l m h =
    let t = times_in n s in
    let e = length-times_in n s in
    subst (λ (z : Bytes). length (write (back_in i around (stamp z k r))) ≤ length (write (stamp z k r))) (sym (same-is s (write_times t) h.0))
    (subst (λ (f : Forest). length (write f) ≤ length (write (stamp (write_times t) k r))) (sym (back-stamp i around t k r (omega arith) (omega arith)))
    (length-settled (any (take i t)) (same_times around (take i t)) (write_times (take i t)) (write_times t) (back_in i (take i t) k) k (back_in i around r) r
    (cut-shorter i t (omega arith)) (length-in n i (take i t) k l m h.2) (length-in n i around r l m h.3)))

-- the text of the first i versions is no longer than that of the first n
first-shorter : (i n : ℕ) → i ≤ n → n ≤ 999 → length (write_times (always i)) ≤ length (write_times (always n))
first-shorter i n l m =
    subst (λ (t : Times). length (write_times t) ≤ length (write_times (always n))) (take-always i n l) (cut-shorter i (always n) (omega (arith, length-always n)))

pub length_back : (K : KeyList) (n i : ℕ) (a : Archive) → LegalArchive K n a → n ≤ 999 → 1 ≤ i → i ≤ n → length (write (archive_forest i (cut_s i a))) ≤ length (write (archive_forest n a))
unfolding archive_forest back_forest inside_of
length_back K n i a h m b l =
    subst (λ (f : Forest). length (write f) ≤ length (write (archive_forest n a))) (back-archive K n i a h m b l)
    (length-settled true false (write_times (always i)) (write_times (always n)) (back_in i (always i) (stamped n (always n) a)) (stamped n (always n) a) end end
    (first-shorter i n l m) (length-in n i (always i) (stamped n (always n) a) l m (timed-stamped n m K [] (always n) a h.formed h.lawful)) (omega arith))

-- nor to a legal archive's forest
pub back-shorter : (i : ℕ) (K : KeyList) (f : Forest) → forest_legal K f ≡ true → i ≤ last_version f → length (write (back_forest i f)) ≤ length (write f)
unfolding forest_legal last_version back_forest inside_of write
back-shorter i K end h l = absurd (clash h refl)
back-shorter i K (text b r) h l = absurd (clash h refl)
back-shorter i K (elem m k r) h l = absurd (clash h refl)
back-shorter i K (stamp s k r) h l =
    let n = last_number s in
    let o = outer K s k r h in
    length-settled true false (write_times (always i)) s (back_in i (always i) k) k end r (omega (arith, first-shorter i n l o.small, ap length o.text-is))
    (length-in n i (always i) k l o.small (timed-siblings n K [] (always n) k o.inside)) (omega arith)
