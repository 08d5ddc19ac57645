-- The call that gives the longest history line: its steps, and what holds of the text that it gives.
use Rattle.std.specs.Prelude.{ℕ, ◌≡◌, refl, List, length, drop}
use Rattle.std.proofs.Common.{sym, ◌∙◌}
use Rattle.std.proofs.Math.Path.{ap, subst}
use Rattle.std.proofs.Math.ListN.{take}
use Rattle.std.proofs.Math.Seq.{take-append_seam}
use Rattle.keys.specs.Result.{◌>>◌}
use Rattle.timestamp.specs.Times.{write_times}
use Rattle.timestamp.specs.Longest.{LongestText, longest}
use Rattle.versions.specs.Calls.{answer, room, out_after, longest_history}
use Rattle.versions.specs.HistoryLength.{longest-given}
use Rattle.archive.specs.Giving.{Told, Ends, ends-told}
use Rattle.archive.specs.Asking.{asked}

-- all steps but the first are those of asking for version n of 999
pub longest-from : (n out work : ℕ) → longest_history n out work ≡ answer (room work >> asked 999 n out (write_times (longest n)))
unfolding longest_history
longest-from n out work = refl

-- what a C entry tells: the call's answer and, of a result, which lies in the output's first bytes, that no text is longer
pub record LongestTold (n : ℕ) (out : List ℕ) (number size : ℕ) (left : List ℕ) : Type 0 where
  pub told : Told (longest_history n (length out) 16384) out number size left
  pub most : number ≡ 0 → LongestText n (take size left)

-- likewise of a call, and the work cells
pub record LongestEnds (n : ℕ) (out work : List ℕ) (number size : ℕ) (left cells : List ℕ) : Type 0 where
  pub ends : Ends (longest_history n (length out) (length work)) out work number size left cells
  pub most : number ≡ 0 → LongestText n (take size left)

module _ {n : ℕ} {out : List ℕ} {number size : ℕ} {left : List ℕ} where
  longest-left : (work : ℕ) → Told (longest_history n (length out) work) out number size left → number ≡ 0 → LongestText n (take size left)
  unfolding out_after
  longest-left work t e =
      let a = longest_history n (length out) work in
      let s : take size left ≡ a.bytes = ap (λ k. take k left) t.size_is ∙ ap (take (length a.bytes)) t.out-is ∙ take-append_seam a.bytes (drop (length a.bytes) out) in
      subst (LongestText n) (sym s) (longest-given n (length out) work (sym t.number_is ∙ e))

  pub longest-told : Told (longest_history n (length out) 16384) out number size left → LongestTold n out number size left
  longest-told t = record { told = t; most = longest-left 16384 t }

  pub longest-ends : {work cells : List ℕ} → Ends (longest_history n (length out) (length work)) out work number size left cells → LongestEnds n out work number size left cells
  longest-ends {work} x = record { ends = x; most = longest-left (length work) (ends-told x) }
