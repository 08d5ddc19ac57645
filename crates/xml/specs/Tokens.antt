-- What the scanner says of a tag, for any state of the reader: which step of reading it is.
use Prim.Native.Char.{code}
use Rattle.std.specs.Prelude.{ℕ, suc, ◌+◌, ◌≡◌, refl, Bool, true, false, ◌&&◌, [], ◌∷◌, eqb, length, take, drop, get_or, Result, Ok, Err}
use Rattle.std.proofs.Common.{ap, sym, ◌∙◌, arith, eq-eqb, ne_eqb, eqb-true, get_or-drop}
use Rattle.std.proofs.lemmas.Bool.{eqb-false}
use Rattle.xml.specs.Bytes.{Bytes, bytes, same, same_by, is_start, is_name_byte, bytes_compute}
use Rattle.xml.specs.Forest.{Forest, end, elem, join}
use Rattle.xml.specs.Read.{common, name_len, times_len, Tag, named, timed, tag_name, tag_node, Stack, inside, Move, move, wrong, start_of, start_tag, times_of, times_end, end_of, end_tag}
use Rattle.xml.specs.Truth.{by-test, and_left, and_right, and_both, and-false}
use Rattle.xml.specs.Held.{tag_kind, tag_bytes}
use Rattle.xml.specs.TimedTags.{is-timed, times_tag}
use Rattle.xml.specs.ScanLaws.{name_len-cons, name_len-fits, name_rest-off, common-off}
use Rattle.xml.specs.StepLaws.{tag-none, tag_open, tag-bad, tag-times, tag-slash, tag-empty, times-bad, times-good, times-end-bad, times-end-good, end-good, end-bad, end_short}
use Rattle.xml.specs.declared.Start.{Start}
use Rattle.xml.specs.declared.Start.TheVariants.{Opens, Lone, Timed}

-- ---- the step that an answer stands for
-- after `<T`: so many bytes of times, or a wrong byte
abbrev pub timed_by : Stack → Forest → Bytes → Result ℕ ℕ → Move
timed_by st f s (Ok n) = move (inside (timed (take n (drop 4 s))) f st) end (7 + n)
timed_by st f s (Err k) = wrong k

-- after `<`
abbrev pub started_by : Stack → Forest → Bytes → Result Start ℕ → Move
started_by st f s (Ok (Opens n)) = move (inside (named (take n s)) f st) end (1 + n)
started_by st f s (Ok (Lone n)) = move st (join f (elem (take n s) end end)) (2 + n)
started_by st f s (Ok (Timed n)) = move (inside (timed (take n (drop 4 (drop 1 s)))) f st) end (7 + n)
started_by st f s (Err k) = wrong k

-- after `</`
abbrev pub ended_by : Tag → Forest → Stack → Forest → Result ℕ ℕ → Move
ended_by o g st f (Ok m) = move st (join g (tag_node o f)) (2 + m)
ended_by o g st f (Err m) = wrong (2 + m)

abbrev pub TimesRead : Bytes → Result ℕ ℕ → Type 0
TimesRead s r = (st : Stack) (f : Forest) → times_tag st f s ≡ timed_by st f s r

abbrev pub StartRead : Bool → Bytes → Result Start ℕ → Type 0
StartRead a s r = (st : Stack) (f : Forest) → start_tag a st f s ≡ started_by st f s r

abbrev pub Ends : Tag → Bytes → Result ℕ ℕ → Type 0
Ends o s r = (g : Forest) (st : Stack) (f : Forest) → end_tag o g st f s ≡ ended_by o g st f r

-- whichever tag has this name
abbrev pub EndNamed : Bytes → Bytes → Result ℕ ℕ → Type 0
EndNamed name s r = (o : Tag) → tag_name o ≡ name → Ends o s r

-- whichever tag has a node of this kind, named by these bytes
abbrev pub EndRead : ℕ → Bytes → Bytes → Result ℕ ℕ → Type 0
EndRead kind name s r = (o : Tag) → tag_kind o ≡ kind → tag_bytes o ≡ name → Ends o s r

-- ---- a start tag, by the length of its name
module _ (a : Bool) (s : Bytes) {n : ℕ} (len : n ≡ name_len s) where
  by_length : (r : Result Start ℕ) → ((st : Stack) (f : Forest) → start_of a st f s n ≡ started_by st f s r) → StartRead a s r
  by_length r h st f = ap (start_of a st f s) (sym len) ∙ h st f

  pub start_none : n ≡ 0 → StartRead a s (Err 1)
  start_none z = by_length (Err 1) (λ st f. tag-none a st f s n z)

  pub start-opens : (n ≡ 0 → ⊥) → get_or s n 0 ≡ code ">" → StartRead a s (Ok (Opens n))
  start-opens z b = by_length (Ok (Opens n)) (λ st f. tag_open a st f s n z b)

  pub start-lone : (n ≡ 0 → ⊥) → (get_or s n 0 ≡ code ">" → ⊥) → get_or s n 0 ≡ code "/" → get_or s (1 + n) 0 ≡ code ">" → StartRead a s (Ok (Lone n))
  start-lone z b d e = by_length (Ok (Lone n)) (λ st f. tag-empty a st f s n z b d e)

  pub start-slash : (n ≡ 0 → ⊥) → (get_or s n 0 ≡ code ">" → ⊥) → get_or s n 0 ≡ code "/" → (get_or s (1 + n) 0 ≡ code ">" → ⊥) → StartRead a s (Err (2 + n))
  start-slash z b d e = by_length (Err (2 + n)) (λ st f. tag-slash a st f s n z b d e)

  pub start-bad : (n ≡ 0 → ⊥) → (get_or s n 0 ≡ code ">" → ⊥) → (get_or s n 0 ≡ code "/" → ⊥) → a && same (take n s) (bytes "T") ≡ false → StartRead a s (Err (1 + n))
  start-bad z b d t = by_length (Err (1 + n)) (λ st f. tag-bad a st f s n z b d t)

  pub start-times : (r : Result ℕ ℕ) → (n ≡ 0 → ⊥) → (get_or s n 0 ≡ code ">" → ⊥) → (get_or s n 0 ≡ code "/" → ⊥) → a && same (take n s) (bytes "T") ≡ true →
      TimesRead (drop 1 s) r → (st : Stack) (f : Forest) → start_tag a st f s ≡ timed_by st f (drop 1 s) r
  start-times r z b d t h st f = ap (start_of a st f s) (sym len) ∙ tag-times a st f s n z b d t ∙ h st f

-- is the name T, in an archive?
first-name : (s : Bytes) → get_or s 0 0 ≡ code "T" → same (take 1 s) (bytes "T") ≡ true
unfolding bytes same same_by
first-name [] t = let z : ◌≡◌ {A = ℕ} 0 84 = t in absurd (omega arith)
first-name (b ∷ s) t = rw (eq-eqb b (code "T") t)

timed-name : (a : Bool) (s : Bytes) (n : ℕ) → a ≡ true → n ≡ 1 → get_or s 0 0 ≡ code "T" → a && same (take n s) (bytes "T") ≡ true
timed-name a s n e o t = and_both a (same (take n s) (bytes "T")) e (ap (λ (i : ℕ). same (take i s) (bytes "T")) o ∙ first-name s t)

-- ---- after `<T`
module _ (s : Bytes) {m : ℕ} (is : m ≡ common (bytes " t=\"") s) where
  pub times-off : (m ≡ 4 → ⊥) → TimesRead s (Err (2 + m))
  times-off z st f = ap (times_of st f s) (sym is) ∙ times-bad st f s m z

  module _ {n e : ℕ} (len : n ≡ times_len (drop 4 s)) (shut : e ≡ common (bytes "\">") (drop n (drop 4 s))) where
    good : m ≡ 4 → (st : Stack) (f : Forest) → times_tag st f s ≡ times_end st f (drop 4 s) n e
    good z st f =
        ap (times_of st f s) (sym is) ∙ times-good st f s m z
        ∙ ap (λ (x : ℕ). times_end st f (drop 4 s) x (common (bytes "\">") (drop x (drop 4 s)))) (sym len)
        ∙ ap (times_end st f (drop 4 s) n) (sym shut)

    pub times-open : m ≡ 4 → (e ≡ 2 → ⊥) → TimesRead s (Err (6 + n + e))
    times-open z x st f = good z st f ∙ times-end-bad st f (drop 4 s) n e x

    pub times-shut : m ≡ 4 → e ≡ 2 → TimesRead s (Ok n)
    times-shut z x st f = good z st f ∙ times-end-good st f (drop 4 s) n e x

-- ---- a start tag, by its first two bytes: of an archive's tags those with `T` and a space have times
abbrev pub begins_times : Bool → ℕ → ℕ → Bool
begins_times a b d = a && (eqb b (code "T") && eqb d (code " "))

times-name : (s : Bytes) → get_or s 0 0 ≡ code "T" → get_or s 1 0 ≡ code " " → 1 ≡ name_len s
unfolding bytes_compute
times-name [] e h = let z : ◌≡◌ {A = ℕ} 0 84 = e in absurd (omega arith)
times-name (b ∷ []) e h = let z : ◌≡◌ {A = ℕ} 0 32 = h in absurd (omega arith)
times-name (b ∷ d ∷ s) e h = sym (name_len-cons b (d ∷ s) (ap is_start e) ∙ ap suc (name_rest-off 31 d s (ap is_name_byte h)))

space-none : (s : Bytes) → (get_or s 0 0 ≡ code " " → ⊥) → 0 ≡ common (bytes " t=\"") s
unfolding bytes common
space-none [] n = refl
space-none (b ∷ s) n = sym (common-off (code " ") b (bytes "t=\"") s (ne_eqb (code " ") b (λ e. n (sym e))))

module _ (a : Bool) (s : Bytes) where
  abbrev Begins : Bool → Type 0
  Begins t = begins_times a (get_or s 0 0) (get_or s 1 0) ≡ t

  pub start-timed : Begins true → (r : Result ℕ ℕ) → TimesRead (drop 1 s) r → (st : Stack) (f : Forest) → start_tag a st f s ≡ timed_by st f (drop 1 s) r
  start-timed e r h =
      let two = and_right a (eqb (get_or s 0 0) (code "T") && eqb (get_or s 1 0) (code " ")) e in
      let t = eqb-true (get_or s 0 0) (code "T") (and_left (eqb (get_or s 0 0) (code "T")) (eqb (get_or s 1 0) (code " ")) two) in
      let p : get_or s 1 0 ≡ 32 = eqb-true (get_or s 1 0) (code " ") (and_right (eqb (get_or s 0 0) (code "T")) (eqb (get_or s 1 0) (code " ")) two) in
      start-times a s (times-name s t p) r (λ z. omega arith) (λ z. let q : get_or s 1 0 ≡ 62 = z in omega arith) (λ z. let q : get_or s 1 0 ≡ 47 = z in omega arith)
      (timed-name a s 1 (and_left a (eqb (get_or s 0 0) (code "T") && eqb (get_or s 1 0) (code " ")) e) refl t) h

  -- of the others none but an element's goes on
  pub start-other : {n : ℕ} → n ≡ name_len s → (n ≡ 0 → ⊥) → (get_or s n 0 ≡ code ">" → ⊥) → (get_or s n 0 ≡ code "/" → ⊥) → Begins false → StartRead a s (Err (1 + n))
  start-other {n} len z b d e = by-test (a && same (take n s) (bytes "T")) named-T (λ t. start-bad a s len z b d t)
    where
      named-T : a && same (take n s) (bytes "T") ≡ true → StartRead a s (Err (1 + n))
      named-T t st f =
          let i = is-timed a s n (omega (arith, name_len-fits s)) t in
          let o = i.one in
          let c : get_or s 0 0 ≡ code "T" = ap (λ (x : Bytes). get_or x 0 0) i.is in
          let p : eqb (get_or s 1 0) (code " ") ≡ false = and-false (eq-eqb (get_or s 0 0) (code "T") c) (and-false i.archive e) in
          let g = times-off (drop 1 s) (space-none (drop 1 s) (λ x. eqb-false (get_or s 1 0) (code " ") p (sym (get_or-drop 1 s 0 0) ∙ x))) (λ x. omega arith) in
          let q : 2 ≡ 1 + n = omega arith in
          start-times a s len (Err 2) z b d t g st f ∙ ap wrong q

-- ---- after `</`
module _ (name s : Bytes) {m : ℕ} (is : m ≡ common name s) where
  by_name : (o : Tag) → tag_name o ≡ name → (g : Forest) (st : Stack) (f : Forest) → end_tag o g st f s ≡ end_of o g st f s m
  by_name o e g st f = ap (λ (w : Bytes). end_of o g st f s (common w s)) e ∙ ap (end_of o g st f s) (sym is)

  pub end-off : (m ≡ length name → ⊥) → EndNamed name s (Err m)
  end-off z o e g st f = by_name o e g st f ∙ end_short o g st f s m (λ x. z (x ∙ ap length e))

  pub end-open : m ≡ length name → (get_or s m 0 ≡ code ">" → ⊥) → EndNamed name s (Err m)
  end-open z b o e g st f = by_name o e g st f ∙ end-bad o g st f s m (z ∙ sym (ap length e)) b

  pub end-shut : m ≡ length name → get_or s m 0 ≡ code ">" → EndNamed name s (Ok m)
  end-shut z b o e g st f = by_name o e g st f ∙ end-good o g st f s m (z ∙ sym (ap length e)) b

-- an archive's `T`
pub end-times : (s name : Bytes) (r : Result ℕ ℕ) (kind : ℕ) → kind ≡ 2 → EndNamed (bytes "T") s r → EndRead kind name s r
end-times s name r kind z h (named n) k b = let x : ◌≡◌ {A = ℕ} 1 2 = k ∙ z in absurd (omega arith)
end-times s name r kind z h (timed t) k b = h (timed t) refl

pub end-element : (s name : Bytes) (r : Result ℕ ℕ) (kind : ℕ) → (kind ≡ 2 → ⊥) → EndNamed name s r → EndRead kind name s r
end-element s name r kind z h (named n) k b = h (named n) b
end-element s name r kind z h (timed t) k b = absurd (z (sym k))
