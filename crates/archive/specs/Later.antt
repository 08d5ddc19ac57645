-- No refusal of the steps that follow the opening of an archive is that of the first step, 1.
use Rattle.std.specs.Prelude.{ℕ, ◌≡◌, refl, Bool, true, false, not, ◌&&◌, List, [], ◌∷◌, ◌++◌, eqb, leb, ltb, length}
use Rattle.xml.specs.Bytes.{Bytes, any, same}
use Rattle.xml.specs.Forest.{Forest, write}
use Rattle.xml.specs.Truth.{by-test}
use Rattle.keys.specs.Result.{Refusal, Result, number_of, refused, ok, ◌>>=◌, ◌>>◌, refuse, r11, r14, r15, r16}
use Rattle.marks.specs.declared.Mark.{Mark}
use Rattle.marks.specs.Marks.{Named, is_table, held, marks_in, legal_name, not_held, not_full, standing, is_mark_name, in_range, find, setting, finding, number}
use Rattle.versions.specs.Archive.{last_version}
use Rattle.versions.specs.Calls.{give}
use Rattle.versions.specs.Walk.{back_forest, earlier_on}

-- a number that is not that of the first step
abbrev pub Later : ℕ → Type 0
Later number = eqb number 1 ≡ false

later-test : {A : Type 0} (r : Refusal) (b : Bool) (x : Result A) → Later (number_of r) → Later (number x) → Later (number (refuse r b >> x))
unfolding number
later-test r true x a c = a
later-test r false x a c = c

later-marks : {A : Type 0} (n : ℕ) (table : List Mark) (f : List Named → Result A) → ((ks : List Named) → Later (number (f ks))) → Later (number (marks_in n table >>= f))
unfolding marks_in number number_of
later-marks n table f h = by-test (is_table n table) (λ e. rw e (h (held table))) (λ e. rw e refl)

pub setting-later : (n : ℕ) (table : List Mark) (name : Bytes) (i : ℕ) → Later (number (setting n table name i))
unfolding setting legal_name not_held not_full standing number number_of
setting-later n table name i = later-marks n table _ (λ ks.
    let last : Result (List Named) = ok (ks ++ record { name = name; version = i } ∷ []) in
    let there = refuse r11 (not (in_range n i)) >> last in
    let some = refuse r16 (eqb (length ks) 32) >> there in
    later-test r15 (not (is_mark_name name)) (refuse r15 (any (λ k. same name k.name) ks) >> some) refl
    (later-test r15 (any (λ k. same name k.name) ks) some refl (later-test r16 (eqb (length ks) 32) there refl (later-test r11 (not (in_range n i)) last refl refl))))

find-later : (name : Bytes) (ks : List Named) → Later (number (find name ks))
unfolding find number number_of
find-later name [] = refl
find-later name (k ∷ ks) = by-test (same name k.name) (λ e. rw (e, find) refl) (λ e. rw (e, find) (find-later name ks))

pub finding-later : (n : ℕ) (table : List Mark) (name : Bytes) → Later (number (finding n table name))
unfolding finding legal_name number_of
finding-later n table name = later-marks n table _ (λ ks. later-test r15 (not (is_mark_name name)) (find name ks) refl (find-later name ks))

later-bind : {A B : Type 0} (R : Result A) (G : A → Result B) → Later (number R) → ((a : A) → Later (number (G a))) → Later (number (R >>= G))
unfolding number
later-bind (refused w) G a h = a
later-bind (ok x) G a h = h x

earlier-later : (f : Forest) (ks : List Named) (i out : ℕ) → Later (number (earlier_on f ks i out))
unfolding earlier_on give number number_of
earlier-later f ks i out =
    let s = write (back_forest i f) in
    later-test r11 (not (leb 1 i && leb i (last_version f))) _ refl (later-bind (refuse r14 (ltb out (length s)) >> ok s) _ (later-test r14 (ltb out (length s)) (ok s) refl refl) (λ t. refl))

pub back-later : (f : Forest) (table : List Mark) (i out : ℕ) → Later (number (marks_in (last_version f) table >>= (λ ks. earlier_on f ks i out)))
back-later f table i out = later-marks (last_version f) table _ (λ ks. earlier-later f ks i out)

pub named-later : (f : Forest) (table : List Mark) (name : Bytes) (out : ℕ)
    → Later (number (marks_in (last_version f) table >>= (λ ks. legal_name name >> (find name ks >>= (λ k. earlier_on f ks k.version out)))))
unfolding legal_name number_of
named-later f table name out = later-marks (last_version f) table _ (λ ks.
    later-test r15 (not (is_mark_name name)) _ refl (later-bind (find name ks) _ (find-later name ks) (λ k. earlier-later f ks k.version out)))
