-- Texts of sets, and texts that are refused.
use Rattle.std.specs.Prelude.{◌≡◌, refl, Bool, true, false, not, ◌&&◌, ◌||◌, [], ◌∷◌, eqb}
use Rattle.xml.specs.Bytes.{bytes, all, bytes_compute}
use Rattle.timestamp.specs.Times.{times_compute, belongs}
use Rattle.timestamp.specs.Set.{between}
use Rattle.timestamp.specs.Listed.{listed, text_of}
use Rattle.timestamp.specs.Parse.{Outcome, refused, accepted}
use Rattle.timestamp.specs.Reading.{read_in, steps, step_in, digit_in, dash_in, close_in}

pub text-sample : text_of (λ v. between 1 3 v || eqb v 5) ≡ bytes "1-3,5"
unfolding times_compute text_of listed
text-sample = refl

abbrev is_refused : Outcome → Bool
is_refused refused = true
is_refused (accepted s) = false

-- empty, a gap of none, a run of one, a leading zero, 0, 1000, falling, a bad byte
pub refused-sample : all (λ l. is_refused (read_in l)) (bytes "" ∷ bytes "1,2" ∷ bytes "3-3" ∷ bytes "01" ∷ bytes "0" ∷ bytes "1000" ∷ bytes "5,3" ∷ bytes "1-3-5" ∷ bytes "1," ∷ bytes "1 " ∷ []) ≡ true
unfolding bytes_compute read_in steps step_in digit_in dash_in close_in
refused-sample = refl

-- any text has numbers, also one that no set has
pub belongs-sample : belongs 12 (bytes "7,0012,x-9") && not (belongs 12 (bytes "1-20-30")) ≡ true
unfolding times_compute
belongs-sample = refl
