-- No `]]>` in a run, seen from a place of it with q times `]` just before.
use Rattle.std.specs.Prelude.{ℕ, suc, ◌+◌, ◌≤◌, ◌<◌, ◌≡◌, refl, false, [], ◌∷◌, ◌++◌, eqb}
use Prim.Native.Char.{code}
use Rattle.std.proofs.Common.{arith, sym, ne_eqb, eqb-true}
use Rattle.xml.specs.Bytes.{Bytes, bytes, occurs, starts, bytes_compute}
use Rattle.xml.specs.Grammar.{Entity, lt, gt, amp, quot, apos}
use Rattle.xml.specs.Truth.{by-test, clash, both_false, neither}

pub record Clear (q : ℕ) (s : Bytes) : Type 0 where
  pub two : 2 ≤ q → starts (bytes ">") s ≡ false
  pub one : 1 ≤ q → starts (bytes "]>") s ≡ false
  pub no : occurs (bytes "]]>") s ≡ false

module _ {A : Type 0} where
  never-pos : {n : ℕ} → suc n ≤ 0 → A
  never-pos h = absurd (omega arith)

-- ---- at the start of a run
pub clear-start : {s : Bytes} → occurs (bytes "]]>") s ≡ false → Clear 0 s
clear-start e = record { two = λ h. never-pos h; one = λ h. never-pos h; no = e }

-- ---- from the bytes after a byte to those from it on
pub clear-nil : (q : ℕ) → Clear q []
unfolding bytes_compute
clear-nil q = record { two = λ h. refl; one = λ h. refl; no = refl }

pub clear-entity : {e : Bytes} {c : ℕ} (q : ℕ) (s : Bytes) → Entity e c → Clear 0 s → Clear q (e ++ s)
unfolding bytes_compute
clear-entity q s lt k = record { two = λ h. refl; one = λ h. refl; no = k.no }
clear-entity q s gt k = record { two = λ h. refl; one = λ h. refl; no = k.no }
clear-entity q s amp k = record { two = λ h. refl; one = λ h. refl; no = k.no }
clear-entity q s quot k = record { two = λ h. refl; one = λ h. refl; no = k.no }
clear-entity q s apos k = record { two = λ h. refl; one = λ h. refl; no = k.no }

pub clear-bracket : (q : ℕ) (s : Bytes) → Clear (q + 1) s → Clear q (code "]" ∷ s)
unfolding bytes_compute
clear-bracket q s k = record { two = λ h. refl; one = λ h. k.two (omega arith); no = neither (k.one (omega arith)) k.no }

pub clear-other : (q b : ℕ) (s : Bytes) → (b ≡ code "]" → ⊥) → (b ≡ code ">" → q < 2) → Clear 0 s → Clear q (b ∷ s)
unfolding bytes_compute
clear-other q b s n g k =
    let m : eqb (code "]") b ≡ false = ne_eqb (code "]") b (λ e. n (sym e)) in
    record {
      two = λ h. by-test (eqb (code ">") b) (λ e. absurd (omega (arith, g (sym (eqb-true (code ">") b e))))) (λ e. rw e);
      one = λ h. rw m;
      no = rw m k.no;
    }

-- ---- and back
pub entity-clear : {e : Bytes} {c : ℕ} (q : ℕ) (s : Bytes) → Entity e c → Clear q (e ++ s) → Clear 0 s
unfolding bytes_compute
entity-clear q s lt k = clear-start k.no
entity-clear q s gt k = clear-start k.no
entity-clear q s amp k = clear-start k.no
entity-clear q s quot k = clear-start k.no
entity-clear q s apos k = clear-start k.no

pub bracket-clear : (q : ℕ) (s : Bytes) → Clear q (code "]" ∷ s) → Clear (q + 1) s
unfolding bytes_compute
bracket-clear q s k =
    let n : (starts (bytes "]>") s ≡ false) × (occurs (bytes "]]>") s ≡ false) = both_false (starts (bytes "]>") s) (occurs (bytes "]]>") s) k.no in
    record { two = λ h. k.one (omega arith); one = λ h. n.0; no = n.1 }

pub other-clear : (q b : ℕ) (s : Bytes) → Clear q (b ∷ s) → Clear 0 s
unfolding bytes_compute
other-clear q b s k = clear-start (both_false (starts (bytes "]]>") (b ∷ s)) (occurs (bytes "]]>") s) k.no).1

pub clear-closed : (q : ℕ) (s : Bytes) → Clear q (code ">" ∷ s) → 2 ≤ q → ⊥
unfolding bytes_compute
clear-closed q s k h = clash (k.two h)
