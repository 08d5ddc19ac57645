-- Reading a version's text: it accepts exactly what such a text spells, one root element or nothing, what is written is
-- read back, and a raw text is read as what was received.
use Rattle.std.specs.Prelude.{ℕ, ◌≡◌, refl, Bool, true, false, ◌&&◌, [], ◌∷◌, ◌++◌}
use Prim.Native.Char.{code}
use Rattle.std.proofs.Common.{sym, ◌∙◌, ap, subst, append_assoc}
use Rattle.xml.specs.Bytes.{Bytes, bytes, all, is_white, line_ends, bytes_compute}
use Rattle.xml.specs.Forest.{Forest, end, elem, text, stamp, write, Tidy, Root}
use Rattle.xml.specs.Grammar.{Content, nothing, run, element, lone, times, Spells}
use Rattle.xml.specs.Read.{Outcome, whole, broken, read}
use Rattle.xml.specs.Sound.{read-sound}
use Rattle.xml.specs.Complete.{read-complete}
use Rattle.xml.specs.RoundTrip.{read-write, read-tidy}
use Rattle.xml.specs.CompareLaws.{all-black}
use Rattle.xml.proofs.Lines.{white-lines}
use Rattle.xml.proofs.LinePlaces.{in_received, read-received}
use Rattle.xml.specs.Truth.{clash, by-test}
use Rattle.keys.specs.Version.{VersionSpells, rooted, vacant, parsed, read_version}
use Rattle.keys.specs.Legal.{RootOrNone}

-- ---- the two kinds of texts
pub read-vacant : (s : Bytes) → all is_white s ≡ true → read_version s ≡ whole end
unfolding read_version
read-vacant s e = rw (e, read_version) refl

pub read-rooted : (s : Bytes) → all is_white s ≡ false → read_version s ≡ read false s
unfolding read_version
read-rooted s e = rw (e, read_version) refl

-- ---- a text with a root is not white space alone
starts : {a : Bool} {s : Bytes} {f : Forest} → Content a s f → Root f → (r : Bytes) × (s ≡ code "<" ∷ r)
unfolding bytes
starts nothing o = absurd o
starts (run c e b n x) o = absurd o
starts (element {n = n} {s = s} {u = u} e x y) o = (n ++ bytes ">" ++ s ++ bytes "</" ++ n ++ bytes ">" ++ u, refl)
starts (lone {n = n} {u = u} e x) o = (n ++ bytes "/>" ++ u, refl)
starts (times {t = t} {s = s} {u = u} i e x y) o = (bytes "T t=\"" ++ t ++ bytes "\">" ++ s ++ bytes "</T>" ++ u, refl)

black-inside : (w : Bytes) (b : ℕ) (s : Bytes) → is_white b ≡ false → all is_white (w ++ b ∷ s) ≡ false
unfolding all
black-inside [] b s e = all-black b s e
black-inside (c ∷ w) b s e = go (is_white c) (black-inside w b s e)
  where
    go : (x : Bool) → all is_white (w ++ b ∷ s) ≡ false → (x && all is_white (w ++ b ∷ s)) ≡ false
    go true i = i
    go false i = refl

spells-black : {a : Bool} {s : Bytes} {f : Forest} → Spells a s f → all is_white s ≡ false
unfolding bytes_compute
spells-black g =
    let x = starts g.content g.root in
    let e : g.before ++ code "<" ∷ x.0 ++ g.after ≡ g.before ++ code "<" ∷ (x.0 ++ g.after) = simp append_assoc in
    ap (all is_white) (g.text-is ∙ ap (λ i. g.before ++ i ++ g.after) x.1 ∙ e) ∙ black-inside g.before (code "<") (x.0 ++ g.after) refl

whole-inj : {f g : Forest} → whole f ≡ whole g → f ≡ g
whole-inj e = cc

-- ---- the theorems
pub read_version-sound : (s : Bytes) (f : Forest) → read_version s ≡ whole f → VersionSpells s f
read_version-sound s f e = by-test (all is_white s)
    (λ w. subst (VersionSpells s) (whole-inj (sym (read-vacant s w) ∙ e)) (vacant w))
    (λ b. rooted (read-sound false s f (sym (read-rooted s b) ∙ e)))

pub read_version-complete : (s : Bytes) (f : Forest) → VersionSpells s f → read_version s ≡ whole f
read_version-complete s f (rooted g) = read-rooted s (spells-black g) ∙ read-complete false s f g
read_version-complete s f (vacant w) = read-vacant s w

-- what is read has a root or is nothing
root-too : (f : Forest) → Root f → RootOrNone f
root-too end o = absurd o
root-too (elem n k r) o = o
root-too (text b r) o = absurd o
root-too (stamp t k r) o = o

pub read_version-tidy : (s : Bytes) (f : Forest) → read_version s ≡ whole f → Tidy false f × RootOrNone f
read_version-tidy s f e = by-test (all is_white s)
    (λ w. subst (λ g. Tidy false g × RootOrNone g) (whole-inj (sym (read-vacant s w) ∙ e)) (tt, tt))
    (λ b. let t = read-tidy false s f (sym (read-rooted s b) ∙ e) in (t.0, root-too f t.1))

-- what is written is read back, and two with one written form are one
pub read_version-write : (v : Forest) → RootOrNone v → Tidy false v → read_version (write v) ≡ whole v
unfolding read_version write bytes_compute all
read_version-write end o t = refl
read_version-write (text b r) o t = absurd o
read_version-write (stamp t k r) o h = clash (sym h.0)
read_version-write (elem n k r) o t = read-write false (elem n k r) o t

pub read_version-same : (v w : Forest) → RootOrNone v → Tidy false v → RootOrNone w → Tidy false w → write v ≡ write w → v ≡ w
read_version-same v w o t p u e = whole-inj (sym (read_version-write v o t) ∙ ap read_version e ∙ read_version-write w p u)

-- ---- line ends
-- THE law: a raw text is read as its received text is, the place of a refusal counted in the one and in the other
pub read_version-received : (s : Bytes) → read_version (line_ends s) ≡ in_received s (read_version s)
unfolding in_received
read_version-received s = by-test (all is_white s)
    (λ w. read-vacant (line_ends s) (white-lines s ∙ w) ∙ ap (in_received s) (sym (read-vacant s w)))
    (λ b. read-rooted (line_ends s) (white-lines s ∙ b) ∙ read-received false s ∙ ap (in_received s) (sym (read-rooted s b)))

pub parsed-received : (s : Bytes) → parsed (read_version (line_ends s)) ≡ parsed (read_version s)
unfolding in_received parsed
parsed-received s = ap parsed (read_version-received s) ∙ at (read_version s)
  where
    at : (o : Outcome) → parsed (in_received s o) ≡ parsed o
    at (whole f) = refl
    at (broken p) = refl
