-- The text of a set while it is written: what is written, and then what the runs from the next member on will give.
use Rattle.std.specs.Prelude.{ℕ, ◌+◌, ◌-◌, ◌*◌, ◌≤◌, ◌<◌, min, ◌≡◌, Bool, Some}
use Rattle.std.proofs.Math.Path.{refl, sym, ap}
use Rattle.std.proofs.Common.{ap₂, ◌∙◌, arith}
use mathlib.Core.List.{List, [], ◌++◌, append_assoc, append-nil}
use Rattle.std.proofs.Math.Bool.{true}
use Rattle.std.proofs.Math.Dec.{ltb}
use borrow.Author.Tests.{lt-ltb, le-ltb}
use Rattle.xml.specs.Bytes.{Bytes, bytes}
use Rattle.xml.specs.Over.{Wrote}
use Rattle.xml.specs.OverLaws.{wrote_then, wrote_none}
use Rattle.timestamp.specs.Times.{write_times}
use Rattle.timestamp.specs.Set.{outside, first_in}
use Rattle.timestamp.specs.First.{RunFrom, first-low, first_member}
use Rattle.timestamp.specs.Runs.{rest, rest_end}
use Rattle.timestamp.specs.Listed.{listed, text_of}
use Rattle.timestamp.specs.Write.{part, part-short, following, joined-following, rest-next, run_past, rest-first}

pub record Written (s : ℕ → Bool) (old : List ℕ) (at : ℕ) (new : List ℕ) (to lo : ℕ) : Type 0 where
  pub w : Bytes
  pub wrote : Wrote old at w to new
  pub so_far : w ++ following (ltb at to) (rest s lo) ≡ text_of s
  pub short : to ≤ at + 8 * lo
  pub low : 1 ≤ lo
  pub member : lo < 1000 → s lo ≡ true

pub written_start : {s : ℕ → Bool} {old : List ℕ} {at lo : ℕ} → lo ≡ first_in 1023 s 1 → Written s old at old at lo
unfolding text_of write_times listed rest bytes
written_start {s} {old} {at} {lo} e =
    let l = first-low s 1023 1 in
    record {
      w = [];
      wrote = wrote_none;
      so_far = ap₂ following (le-ltb at at (omega arith)) (ap (rest s) e ∙ sym (rest-next s 1 (omega arith))) ∙ sym (joined-following (rest s 1));
      short = omega arith;
      low = omega arith;
      member = λ q. ap s e ∙ first_member s 1023 1 (omega arith);
    }

pub written-end : {s : ℕ → Bool} {old new : List ℕ} {at to lo : ℕ} → Written s old at new to lo → 1000 ≤ lo → Wrote old at (text_of s) to new
unfolding following
written-end {s} {at = at} {to = to} {lo = lo} p h =
    let e : p.w ≡ text_of s = sym (append-nil p.w) ∙ ap (λ (x : Bytes). p.w ++ x) (sym (ap (following (ltb at to)) (rest_end s lo h))) ∙ p.so_far in
    rw (← e) p.wrote

-- one run more, from `lo` to before `e`
module _ {s : ℕ → Bool} {old mid : List ℕ} {at to lo e : ℕ} (p : Written s old at mid to lo) (h : lo < 1000)
    (d : e ≡ min (first_in (1024 - lo) (outside s) lo) 1000) where
  pub past-run : (lo < e) × (e ≤ 1000)
  past-run = (run_past s lo e h (p.member h) d, omega (arith, d))

  pub written-more : {new : List ℕ} {next after : ℕ} → Wrote mid to (part (ltb at to) (lo, e - 1)) after new → next ≡ first_in (1024 - e) s e → Written s old at new after next
  unfolding following
  written-more {new} {next} {after} q n =
      let r = past-run in
      let l = first-low s (1024 - e) e in
      let k = part-short (ltb at to) lo (e - 1) p.low (omega arith) (omega arith) in
      let later : ltb at after ≡ true = lt-ltb at after (omega (arith, q.place, k.0, p.wrote.place)) in
      record {
        w = p.w ++ part (ltb at to) (lo, e - 1);
        wrote = wrote_then p.wrote q;
        so_far =
            append_assoc p.w (part (ltb at to) (lo, e - 1)) (following (ltb at after) (rest s next))
            ∙ ap (λ (x : Bytes). p.w ++ x) (ap (λ (x : Bytes). part (ltb at to) (lo, e - 1) ++ x) (ap₂ following later (ap (rest s) n)) ∙ sym (ap (following (ltb at to)) (rest-first s lo e h (p.member h) d))) ∙ p.so_far;
        short = omega (arith, q.place, k.1, p.short);
        low = omega arith;
        member = λ x. ap s n ∙ first_member s (1024 - e) e (omega arith);
      }

-- the next run is x
module _ {s : ℕ → Bool} {old mid : List ℕ} {at to : ℕ} (from : ℕ) (p : Written s old at mid to (first_in (1024 - from) s from)) (x : ℕ × ℕ) (r : RunFrom s from (Some x)) where
  here : Written s old at mid to x.0
  here = rw (sym r.0) at p

  pub run-inside : (1 ≤ x.0) × (x.0 ≤ x.1) × (x.1 < 1000) × (to ≤ at + 8 * 1000)
  run-inside = let b = past-run here r.1 r.2 in (here.low, omega (arith, b), omega (arith, b), omega (arith, here.short, r.1))

  pub run-written : {new : List ℕ} {after : ℕ} → Wrote mid to (part (ltb at to) x) after new → Written s old at new after (first_in (1024 - (x.1 + 1)) s (x.1 + 1))
  run-written q = let z : x.1 + 1 - 1 ≡ x.1 = omega arith in written-more here r.1 r.2 (rw z q) refl
