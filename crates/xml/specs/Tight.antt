-- How many bytes a node takes: a start tag three at least, and a run of text is followed by a tag. So a text has a cell a byte at most.
use Prim.Native.Char.{code}
use Rattle.std.specs.Prelude.{ℕ, ◌+◌, ◌<◌, ◌≤◌, ◌≡◌, Bool, [], ◌∷◌, ◌++◌, length, drop, get_or, Ok}
use Rattle.std.proofs.Common.{sym, ap, ◌∙◌, subst, arith, length-append}
use Rattle.std.proofs.lemmas.List.{get_or_at}
use Rattle.xml.specs.Bytes.{Bytes, bytes}
use Rattle.xml.specs.Forest.{Forest}
use Rattle.xml.specs.Read.{common, name_len, scan, Stack, Move, move, wrong, start_of, start_tag, times_of}
use Rattle.xml.specs.Runs.{Ends, scan-sound}
use Rattle.xml.specs.StepLaws.{StartCase, none, opens, lone, slash, times, bad, start-case, tag-none, tag_open, tag-bad, tag-times, tag-slash, tag-empty}
use Rattle.xml.specs.TimedTags.{reach_t, times-reach}

-- a step that goes on reads two bytes more at least
abbrev pub Far : Move → Type 0
Far (move st f k) = 2 ≤ k
Far (wrong k) = Unit {0}

far-by : (m : Move) → 2 ≤ reach_t m → Far m
far-by (move st f k) h = h
far-by (wrong k) h = tt

pub start-far : (a : Bool) (st : Stack) (f : Forest) (s : Bytes) → Far (start_tag a st f s)
start-far a st f s = at (start-case a s (name_len s))
  where
    n : ℕ
    n = name_len s

    at : StartCase a s n → Far (start_of a st f s n)
    at (none z) = subst Far (sym (tag-none a st f s n z)) tt
    at (opens z b) = subst Far (sym (tag_open a st f s n z b)) (omega arith)
    at (lone z b d e) = subst Far (sym (tag-empty a st f s n z b d e)) (omega arith)
    at (slash z b d e) = subst Far (sym (tag-slash a st f s n z b d e)) tt
    at (times z b d t) =
        let m = common (bytes " t=\"") (drop 1 s) in
        subst Far (sym (tag-times a st f s n z b d t)) (far-by (times_of st f (drop 1 s) m) (omega (arith, times-reach st f (drop 1 s) m)))
    at (bad z b d t) = subst Far (sym (tag-bad a st f s n z b d t)) tt

-- a `<` stands after a run of text, or nothing
pub run-then : (s : Bytes) (k : ℕ) → scan 0 0 0 s ≡ Ok k → k < length s → get_or s k 0 ≡ code "<"
run-then s k e h =
    let x = scan-sound s 0 0 0 k (omega arith) e in
    at x.raw x.rest x.is x.long x.ends
  where
    at : (raw rest : Bytes) → s ≡ raw ++ rest → k ≡ 0 + 0 + length raw → Ends rest → get_or s k 0 ≡ code "<"
    at raw [] i l d = absurd (omega (arith, ap length i, length-append raw []))
    at raw (b ∷ t) i l d = ap (λ (z : Bytes). get_or z k 0) i ∙ get_or_at raw b t 0 k (omega arith) ∙ d
