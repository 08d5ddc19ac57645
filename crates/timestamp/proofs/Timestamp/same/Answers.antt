-- `timestamp::Timestamp::same` meets its contract.
use mir.Val.{Fits}
use mir.Syntax.{w64}
use borrow.Author.Rules.{rules}
use Prim.Native.Nat.{ℕ, ◌<◌, ◌^◌}
use mathlib.Core.Path.{◌≡◌, ◌∙◌}
use lib.ListN.{length, get_or}
use Rattle.timestamp.specs.Tests.{equal-words}
use Rattle.timestamp.proofs.Timestamp.same.Goals as goal

pub returns : goal.returns
returns c = let a = c.args.self.words in
    let b = c.args.other.words in
    let la : length a ≡ 16 = search rules in
    let lb : length b ≡ 16 = search rules in
    let ha : (k : ℕ) → k < 16 → get_or a k 0 < 2 ^ 64 = λ k l. let h : Fits w64 (get_or a k 0) = search rules in h.fits in
    let hb : (k : ℕ) → k < 16 → get_or b k 0 < 2 ^ 64 = λ k l. let h : Fits w64 (get_or b k 0) = search rules in h.fits in
    c.eq.ensures ∙ equal-words a b la lb ha hb
