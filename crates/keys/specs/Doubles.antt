-- 9 on the tape: what an answer says of it.
use Rattle.std.specs.Prelude.{ℕ, ◌+◌, ◌≡◌, Bool, List}
use Rattle.xml.specs.Bytes.{Bytes}
use Rattle.xml.specs.Forest.{Forest}
use Rattle.xml.specs.Tape.{next_at, Node, Tape}
use Rattle.keys.specs.Version.{◌▸◌, doubled}
use Rattle.keys.specs.Placed.{OfPlace}

-- two siblings among the nodes lo to hi, in an element at the place, or beneath, have the same label
abbrev pub DoubledIn : Bytes → List ℕ → ℕ → ℕ → List ℕ → List ℕ → ℕ → ℕ → Bool → Type 0
DoubledIn key_text table n place src cells lo hi r = OfPlace key_text table n place (λ K q. (f : Forest) → Tape src cells lo hi f → r ≡ doubled K q f)

-- two siblings in the element p, which is in one at the place, have
abbrev pub DoubledKid : Bytes → List ℕ → ℕ → ℕ → List ℕ → List ℕ → ℕ → Bool → Type 0
DoubledKid key_text table n place src cells p r =
    OfPlace key_text table n place (λ K q. (b : Bytes) (k : Forest) → Node src cells p 1 b → Tape src cells (p + 1) (next_at cells p) k → r ≡ doubled K (q ▸ b) k)
