-- What the program answers, read as the definitions: its refusals as the rows of the tables, and its results as theirs.
use Rattle.std.specs.Prelude.{ℕ, ◌≡◌, Result as Tried, Ok, Err}
use Rattle.keys.specs.Result.{Refusal as Row, Result, number_of, refused, ok, r1, r2, r3, r4, r5, r6, r7, r8, r9, r10, r11, r12, r13, r14, r15, r16, r17}
use Rattle.keys.specs.declared.refusal.Refusal.{Refusal}
use Rattle.keys.specs.declared.refusal.Refusal.TheVariants.{CellsTooFew, TextTooLong, KeyNotation, KeyRule, VersionText, VersionTooLarge, Misplaced, Unkeyed, Doubled, ArchiveIllegal, NoVersion, AddressIllegal, ResultTooLarge, OutputTooShort, MarkName, MarksFull, TableIllegal}

abbrev pub row_of : Refusal → Row
row_of CellsTooFew = r1
row_of TextTooLong = r2
row_of KeyNotation = r3
row_of KeyRule = r4
row_of VersionText = r5
row_of VersionTooLarge = r6
row_of Misplaced = r7
row_of Unkeyed = r8
row_of Doubled = r9
row_of ArchiveIllegal = r10
row_of NoVersion = r11
row_of AddressIllegal = r12
row_of ResultTooLarge = r13
row_of OutputTooShort = r14
row_of MarkName = r15
row_of MarksFull = r16
row_of TableIllegal = r17

abbrev pub meant : {A : Type 0} → Tried A Refusal → Result A
meant (Ok a) = ok a
meant (Err w) = refused (row_of w)

-- the number that is returned, and the length
abbrev pub number_in : {A : Type 0} → Tried A Refusal → ℕ
number_in (Ok a) = 0
number_in (Err w) = number_of (row_of w)

abbrev pub length_in : Tried ℕ Refusal → ℕ
length_in (Ok n) = n
length_in (Err w) = 0

-- over an error of the caller's own, which `gives` makes of a refusal: the ok of the definition, or what came of its refusal
abbrev pub Came : {A E : Type 0} → (Refusal → E → Type 0) → Result A → Tried A E → Type 0
Came gives X (Ok a) = X ≡ ok a
Came gives X (Err e) = (w : Refusal) × (X ≡ refused (row_of w)) × gives w e
