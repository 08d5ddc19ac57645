-- `Refusal::number` meets its contract: the number of each row.
use Rattle.std.proofs.Common.{sym, ap}
use Rattle.keys.specs.Result.{number_of}
use Rattle.keys.specs.Meant.{row_of}
use Rattle.keys.proofs.refusal.Refusal.number.Goals as goal

pub returns-in-CellsTooFew : goal.returns-in-CellsTooFew
unfolding number_of
returns-in-CellsTooFew c = sym (ap (λ w. number_of (row_of w)) c.in-CellsTooFew.is)

pub returns-in-TextTooLong : goal.returns-in-TextTooLong
unfolding number_of
returns-in-TextTooLong c = sym (ap (λ w. number_of (row_of w)) c.in-TextTooLong.is)

pub returns-in-KeyNotation : goal.returns-in-KeyNotation
unfolding number_of
returns-in-KeyNotation c = sym (ap (λ w. number_of (row_of w)) c.in-KeyNotation.is)

pub returns-in-KeyRule : goal.returns-in-KeyRule
unfolding number_of
returns-in-KeyRule c = sym (ap (λ w. number_of (row_of w)) c.in-KeyRule.is)

pub returns-in-VersionText : goal.returns-in-VersionText
unfolding number_of
returns-in-VersionText c = sym (ap (λ w. number_of (row_of w)) c.in-VersionText.is)

pub returns-in-VersionTooLarge : goal.returns-in-VersionTooLarge
unfolding number_of
returns-in-VersionTooLarge c = sym (ap (λ w. number_of (row_of w)) c.in-VersionTooLarge.is)

pub returns-in-Misplaced : goal.returns-in-Misplaced
unfolding number_of
returns-in-Misplaced c = sym (ap (λ w. number_of (row_of w)) c.in-Misplaced.is)

pub returns-in-Unkeyed : goal.returns-in-Unkeyed
unfolding number_of
returns-in-Unkeyed c = sym (ap (λ w. number_of (row_of w)) c.in-Unkeyed.is)

pub returns-in-Doubled : goal.returns-in-Doubled
unfolding number_of
returns-in-Doubled c = sym (ap (λ w. number_of (row_of w)) c.in-Doubled.is)

pub returns-in-ArchiveIllegal : goal.returns-in-ArchiveIllegal
unfolding number_of
returns-in-ArchiveIllegal c = sym (ap (λ w. number_of (row_of w)) c.in-ArchiveIllegal.is)

pub returns-in-NoVersion : goal.returns-in-NoVersion
unfolding number_of
returns-in-NoVersion c = sym (ap (λ w. number_of (row_of w)) c.in-NoVersion.is)

pub returns-in-AddressIllegal : goal.returns-in-AddressIllegal
unfolding number_of
returns-in-AddressIllegal c = sym (ap (λ w. number_of (row_of w)) c.in-AddressIllegal.is)

pub returns-in-ResultTooLarge : goal.returns-in-ResultTooLarge
unfolding number_of
returns-in-ResultTooLarge c = sym (ap (λ w. number_of (row_of w)) c.in-ResultTooLarge.is)

pub returns-in-OutputTooShort : goal.returns-in-OutputTooShort
unfolding number_of
returns-in-OutputTooShort c = sym (ap (λ w. number_of (row_of w)) c.in-OutputTooShort.is)

pub returns-in-MarkName : goal.returns-in-MarkName
unfolding number_of
returns-in-MarkName c = sym (ap (λ w. number_of (row_of w)) c.in-MarkName.is)

pub returns-in-MarksFull : goal.returns-in-MarksFull
unfolding number_of
returns-in-MarksFull c = sym (ap (λ w. number_of (row_of w)) c.in-MarksFull.is)

pub returns-in-TableIllegal : goal.returns-in-TableIllegal
unfolding number_of
returns-in-TableIllegal c = sym (ap (λ w. number_of (row_of w)) c.in-TableIllegal.is)
