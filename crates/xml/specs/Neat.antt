-- A text that can be read is spelled as its forest is written where nothing in it is spelled otherwise: no white space around the root, no
-- `<a/>`, no bare `>` in text, no `&quot;` or `&apos;`, no CR. Counts tell it: an `<a/>` has one `<` in place of two, a bare `>` is one `>` more
-- (NeatSpelled.antt, `neat-spelled` and `spelled-neat`).
use Rattle.std.specs.Prelude.{ℕ, zero, suc, ◌+◌, ◌*◌, ◌-◌, ◌%◌, ◌≡◌, Bool, true, false, not, ◌&&◌, ◌||◌, List, [], ◌∷◌, eqb, length, get_or}
use Prim.Native.Char.{code}
use Rattle.xml.specs.Bytes.{Bytes, is_white}
use Rattle.xml.specs.Forest.{Forest, end, elem, text, stamp}
use Rattle.xml.specs.Tape.{head_at}

abbrev pub one : Bool → ℕ
one true = 1
one false = 0

-- how many bytes of a text are b
unfoldable pub count : ℕ → Bytes → ℕ
count b [] = 0
count b (c ∷ s) = one (eqb c b) + count b s

-- `&` with `q` or `ap` after it, which is `&quot;` or `&apos;` in a text that can be read, or CR
abbrev pub is_other : ℕ → ℕ → ℕ → Bool
is_other a b c = (eqb a (code "&") && (eqb b (code "q") || (eqb b (code "a") && eqb c (code "p")))) || eqb a (code "\r")

-- some byte of a text is so
unfoldable pub others : Bytes → Bool
others [] = false
others (a ∷ s) = is_other a (get_or s 0 0) (get_or s 1 0) || others s

-- how many elements and `T`s a forest has
unfoldable pub tags : Forest → ℕ
tags end = 0
tags (text b r) = tags r
tags (elem n k r) = 1 + tags k + tags r
tags (stamp t k r) = 1 + tags k + tags r

-- how many of the nodes below p are no runs of text
unfoldable pub tags_below : List ℕ → ℕ → ℕ
tags_below cells zero = 0
tags_below cells (suc p) = tags_below cells p + one (not (eqb (head_at cells p % 4) 0))

abbrev pub last : Bytes → ℕ
last s = get_or s (length s - 1) 0

-- a text with so many tags in it has nothing that is spelled otherwise
pub record Neat (t : ℕ) (s : Bytes) : Type 0 where
  pub some : length s ≡ 0 → ⊥
  pub black-first : is_white (get_or s 0 0) ≡ false
  pub black-last : is_white (last s) ≡ false
  pub less : count (code "<") s ≡ 2 * t
  pub greater : count (code ">") s ≡ 2 * t
  pub no-others : others s ≡ false
