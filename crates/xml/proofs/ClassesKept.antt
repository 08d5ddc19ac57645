-- Each of the 256 bytes keeps the class that it had in the table of 256 entries, in which the program looked it up before: one computed theorem,
-- and what it says of `class`. Assumes nothing.
use mathlib.Core.Path.{◌≡◌, refl, sym, ◌∙◌, ap}
use mathlib.Core.List.{List, [], ◌∷◌}
use Prim.Native.Nat.{ℕ, zero, suc, ◌+◌, ◌<◌}
use native.Mathlib.Nat.{add-zero, zero-add, add-suc, suc-add, le_of_suc-le-suc, not-suc-le-zero}
use lib.ListN.{get_or}
use contract.Lifetimes.{Lfts}
use denote.Triple.Clauses.{AtExit}
use borrow.Fn.Kinds.{Dens, res_t, ended_of}
use Rattle.xml.specs.Bytes.{class_of, bytes_compute}
use Rattle.xml.specs.ClassNumber.{class_number}
use Rattle.xml.proofs.class.class.Kinds as kinds
use Rattle.xml.proofs.class.class.Reads as reads

-- the table as it was, sixteen bytes to a line: 0 illegal, 1 white space, 2 name start, 3 other name byte, 4 markup, 5 other text
unfoldable pub former_table : List ℕ
former_table =
    0 ∷ 0 ∷ 0 ∷ 0 ∷ 0 ∷ 0 ∷ 0 ∷ 0 ∷ 0 ∷ 1 ∷ 1 ∷ 0 ∷ 0 ∷ 1 ∷ 0 ∷ 0 ∷
    0 ∷ 0 ∷ 0 ∷ 0 ∷ 0 ∷ 0 ∷ 0 ∷ 0 ∷ 0 ∷ 0 ∷ 0 ∷ 0 ∷ 0 ∷ 0 ∷ 0 ∷ 0 ∷
    1 ∷ 5 ∷ 5 ∷ 5 ∷ 5 ∷ 5 ∷ 4 ∷ 5 ∷ 5 ∷ 5 ∷ 5 ∷ 5 ∷ 5 ∷ 3 ∷ 3 ∷ 5 ∷
    3 ∷ 3 ∷ 3 ∷ 3 ∷ 3 ∷ 3 ∷ 3 ∷ 3 ∷ 3 ∷ 3 ∷ 5 ∷ 5 ∷ 4 ∷ 5 ∷ 5 ∷ 5 ∷
    5 ∷ 2 ∷ 2 ∷ 2 ∷ 2 ∷ 2 ∷ 2 ∷ 2 ∷ 2 ∷ 2 ∷ 2 ∷ 2 ∷ 2 ∷ 2 ∷ 2 ∷ 2 ∷
    2 ∷ 2 ∷ 2 ∷ 2 ∷ 2 ∷ 2 ∷ 2 ∷ 2 ∷ 2 ∷ 2 ∷ 2 ∷ 5 ∷ 5 ∷ 5 ∷ 5 ∷ 2 ∷
    5 ∷ 2 ∷ 2 ∷ 2 ∷ 2 ∷ 2 ∷ 2 ∷ 2 ∷ 2 ∷ 2 ∷ 2 ∷ 2 ∷ 2 ∷ 2 ∷ 2 ∷ 2 ∷
    2 ∷ 2 ∷ 2 ∷ 2 ∷ 2 ∷ 2 ∷ 2 ∷ 2 ∷ 2 ∷ 2 ∷ 2 ∷ 5 ∷ 5 ∷ 5 ∷ 5 ∷ 0 ∷
    0 ∷ 0 ∷ 0 ∷ 0 ∷ 0 ∷ 0 ∷ 0 ∷ 0 ∷ 0 ∷ 0 ∷ 0 ∷ 0 ∷ 0 ∷ 0 ∷ 0 ∷ 0 ∷
    0 ∷ 0 ∷ 0 ∷ 0 ∷ 0 ∷ 0 ∷ 0 ∷ 0 ∷ 0 ∷ 0 ∷ 0 ∷ 0 ∷ 0 ∷ 0 ∷ 0 ∷ 0 ∷
    0 ∷ 0 ∷ 0 ∷ 0 ∷ 0 ∷ 0 ∷ 0 ∷ 0 ∷ 0 ∷ 0 ∷ 0 ∷ 0 ∷ 0 ∷ 0 ∷ 0 ∷ 0 ∷
    0 ∷ 0 ∷ 0 ∷ 0 ∷ 0 ∷ 0 ∷ 0 ∷ 0 ∷ 0 ∷ 0 ∷ 0 ∷ 0 ∷ 0 ∷ 0 ∷ 0 ∷ 0 ∷
    0 ∷ 0 ∷ 0 ∷ 0 ∷ 0 ∷ 0 ∷ 0 ∷ 0 ∷ 0 ∷ 0 ∷ 0 ∷ 0 ∷ 0 ∷ 0 ∷ 0 ∷ 0 ∷
    0 ∷ 0 ∷ 0 ∷ 0 ∷ 0 ∷ 0 ∷ 0 ∷ 0 ∷ 0 ∷ 0 ∷ 0 ∷ 0 ∷ 0 ∷ 0 ∷ 0 ∷ 0 ∷
    0 ∷ 0 ∷ 0 ∷ 0 ∷ 0 ∷ 0 ∷ 0 ∷ 0 ∷ 0 ∷ 0 ∷ 0 ∷ 0 ∷ 0 ∷ 0 ∷ 0 ∷ 0 ∷
    0 ∷ 0 ∷ 0 ∷ 0 ∷ 0 ∷ 0 ∷ 0 ∷ 0 ∷ 0 ∷ 0 ∷ 0 ∷ 0 ∷ 0 ∷ 0 ∷ 0 ∷ 0 ∷ []

-- the classes of the n bytes from b on, by the definition
unfoldable pub classes_from : ℕ → ℕ → List ℕ
classes_from b zero = []
classes_from b (suc n) = class_number (class_of b) ∷ classes_from (suc b) n

pub classes-kept : classes_from 0 256 ≡ former_table
unfolding classes_from former_table class_number bytes_compute
classes-kept = refl

-- so of each byte
class-from : (b n k : ℕ) → k < n → get_or (classes_from b n) k 0 ≡ class_number (class_of (b + k))
unfolding classes_from
class-from b zero k h = absurd (not-suc-le-zero h)
class-from b (suc n) zero h = ap (λ (m : ℕ). class_number (class_of m)) (sym (add-zero b))
class-from b (suc n) (suc k) h =
    class-from (suc b) n k (le_of_suc-le-suc h) ∙ ap (λ (m : ℕ). class_number (class_of m)) (suc-add b k ∙ sym (add-suc b k))

pub class-kept : (b : ℕ) → b < 256 → class_number (class_of b) ≡ get_or former_table b 0
class-kept b h =
    ap (λ (m : ℕ). class_number (class_of m)) (sym (zero-add b)) ∙ sym (class-from 0 256 b h) ∙ ap (λ (l : List ℕ). get_or l b 0) classes-kept

-- and so of what `class` answers, by the postcondition that Rattle reads off the contract which it is proved to meet
pub class-answers : (κs : Lfts 0) (a : Dens κs kinds.ps) (r : (res_t kinds.r κs).Denot) (x : AtExit (ended_of 0 kinds.ps kinds.r) κs) →
    reads.Post κs a r x → a.0 < 256 → class_number r ≡ get_or former_table a.0 0
class-answers κs a r x p h = ap class_number p ∙ class-kept a.0 h
