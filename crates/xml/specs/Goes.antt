-- Reading goes over a tag, and over a run of text.
use Rattle.std.specs.Prelude.{ℕ, suc, ◌+◌, ◌-◌, ◌≤◌, ◌≡◌, Bool, true, false, [], ◌∷◌, ◌++◌, length, take, drop, get_or, Ok}
use Prim.Native.Char.{code}
use Rattle.std.proofs.Common.{zero-add, arith, ap, sym, ◌∙◌, length-append, get_or-append-add}
use Rattle.std.proofs.Math.Path.{refl}
use Rattle.std.proofs.lemmas.Bool.{eqb-false}
use Rattle.std.proofs.Math.Seq.{take-append_seam, drop-append_seam, get_or-append_seam, drop-append-add}
use Rattle.xml.specs.Bytes.{Bytes, bytes, all, is_empty, is_name_byte, is_name, is_times, is_white, bytes_compute}
use Rattle.xml.specs.Forest.{Forest, end, elem, text, join}
use Rattle.xml.specs.Grammar.{Entity, lt, gt, amp, quot, apos, Characters, none, kept, joined, turned, entity}
use Rattle.xml.specs.Read.{common, times_len, scan, unescape, Tag, named, timed, tag_name, tag_node, Stack, outer, inside, move, times_end, start_of, start_tag, end_of, characters, step, go, read_compute}
use Rattle.xml.specs.Truth.{clash, both_true}
use Rattle.xml.specs.GrammarLaws.{lt-markup, character-not, characters-mean}
use Rattle.xml.specs.Clear.{Clear}
use Rattle.xml.specs.Names.{name-all, name-some, times-all}
use Rattle.xml.specs.ScanLaws.{common-self}
use Rattle.xml.specs.Runs.{scan-characters}
use Rattle.xml.specs.StepLaws.{go-skip, go-cons, step-chars, chars-upto, tag_open, tag-empty, times-end-good, step_end, end-good, out-white}

-- reading comes from one state and text to another, wherever it is
pub record Goes (a : Bool) (st : Stack) (f : Forest) (s : Bytes) (st' : Stack) (f' : Forest) (s' : Bytes) : Type 0 where
  pub later : ℕ → ℕ
  pub goes : (at : ℕ) → go a st f at 0 s ≡ go a st' f' (later at) 0 s'

module _ {a : Bool} {st : Stack} {f : Forest} {s : Bytes} where
  pub goes_none : Goes a st f s st f s
  goes_none = record { later = λ at. at; goes = λ at. refl }

  pub goes_then : {st₁ st₂ : Stack} {f₁ f₂ : Forest} {s₁ s₂ : Bytes} → Goes a st f s st₁ f₁ s₁ → Goes a st₁ f₁ s₁ st₂ f₂ s₂ → Goes a st f s st₂ f₂ s₂
  goes_then p q = record { later = λ at. q.later (p.later at); goes = λ at. p.goes at ∙ q.goes (p.later at) }

-- one step
goes_step : (a : Bool) (st st' : Stack) (f f' : Forest) (b k : ℕ) (s s' : Bytes) → step a st f (b ∷ s) ≡ move st' f' k → k ≤ length s → drop k s ≡ s' →
    Goes a st f (b ∷ s) st' f' s'
goes_step a st st' f f' b k s s' e h d =
    record {
      later = λ at. suc at + k;
      goes = λ at. rw (go-cons, e) (go-skip a st' f' (suc at) k s h) ∙ ap (λ (x : Bytes). go a st' f' (suc at + k) 0 x) d;
    }

-- ---- start tags: `step` comes to `start_tag`
module _ (a : Bool) (st : Stack) (f : Forest) (n u : Bytes) (name : is_name n ≡ true) where
  ends-name : is_name_byte (code ">") ≡ false
  unfolding bytes_compute
  ends-name = refl

  slash-name : is_name_byte (code "/") ≡ false
  unfolding bytes_compute
  slash-name = refl

  pub goes-start : step a st f (code "<" ∷ (n ++ code ">" ∷ u)) ≡ start_tag a st f (n ++ code ">" ∷ u) → Goes a st f (code "<" ∷ (n ++ code ">" ∷ u)) (inside (named n) f st) end u
  goes-start e =
      let s = n ++ code ">" ∷ u in
      let t : take (length n) s ≡ n = take-append_seam n (code ">" ∷ u) in
      let m : step a st f (code "<" ∷ s) ≡ move (inside (named n) f st) end (1 + length n) =
      e ∙ ap (start_of a st f s) (name-all n (code ">") u name ends-name) ∙ tag_open a st f s (length n) (name-some n name) (get_or-append_seam n (code ">") u 0)
      ∙ ap (λ (x : Bytes). move (inside (named x) f st) end (1 + length n)) t
      in
      let j : 1 + length n ≡ length n + 1 = omega arith in
      goes_step a st (inside (named n) f st) f end (code "<") (1 + length n) s u m (omega (arith, length-append n (code ">" ∷ u)))
      (ap (λ (i : ℕ). drop i s) j ∙ drop-append-add n (code ">" ∷ u) 1)

  pub goes-lone : step a st f (code "<" ∷ (n ++ code "/" ∷ code ">" ∷ u)) ≡ start_tag a st f (n ++ code "/" ∷ code ">" ∷ u) →
      Goes a st f (code "<" ∷ (n ++ code "/" ∷ code ">" ∷ u)) st (join f (elem n end end)) u
  goes-lone e =
      let v = code "/" ∷ code ">" ∷ u in
      let s = n ++ v in
      let t : take (length n) s ≡ n = take-append_seam n v in
      let c : get_or s (length n) 0 ≡ code "/" = get_or-append_seam n (code "/") (code ">" ∷ u) 0 in
      let i : 1 + length n ≡ length n + 1 = omega arith in
      let g : get_or s (1 + length n) 0 ≡ code ">" = ap (λ (x : ℕ). get_or s x 0) i ∙ get_or-append-add n v 1 0 in
      let m : step a st f (code "<" ∷ s) ≡ move st (join f (elem n end end)) (2 + length n) =
      e ∙ ap (start_of a st f s) (name-all n (code "/") (code ">" ∷ u) name slash-name)
      ∙ tag-empty a st f s (length n) (name-some n name) (λ x. eqb-false (code "/") (code ">") refl (sym c ∙ x)) c g
      ∙ ap (λ (x : Bytes). move st (join f (elem x end end)) (2 + length n)) t
      in
      let j : 2 + length n ≡ length n + 2 = omega arith in
      goes_step a st st f (join f (elem n end end)) (code "<") (2 + length n) s u m (omega (arith, length-append n v))
      (ap (λ (x : ℕ). drop x s) j ∙ drop-append-add n v 2)

-- an archive's `<T t="..">`
module _ (st : Stack) (f : Forest) (t u : Bytes) (many : all is_times t ≡ true) where
  abbrev Shut : Bytes
  Shut = code "\"" ∷ code ">" ∷ u

  abbrev Inner : Bytes
  Inner = code "T" ∷ code " " ∷ code "t" ∷ code "=" ∷ code "\"" ∷ (t ++ Shut)

  quote-times : is_times (code "\"") ≡ false
  unfolding bytes_compute
  quote-times = refl

  shut-common : common (bytes "\">") Shut ≡ 2
  unfolding read_compute
  shut-common = refl

  times-start : start_tag true st f Inner ≡ times_end st f (t ++ Shut) (times_len (t ++ Shut)) (common (bytes "\">") (drop (times_len (t ++ Shut)) (t ++ Shut)))
  unfolding read_compute
  times-start = refl

  goes-times : step true st f (code "<" ∷ Inner) ≡ start_tag true st f Inner → Goes true st f (code "<" ∷ Inner) (inside (timed t) f st) end u
  goes-times e =
      let w = t ++ Shut in
      let n : times_len w ≡ length t = times-all t (code "\"") (code ">" ∷ u) many quote-times in
      let c : common (bytes "\">") (drop (times_len w) w) ≡ 2 = ap (λ (x : ℕ). common (bytes "\">") (drop x w)) n ∙ ap (common (bytes "\">")) (drop-append_seam t Shut) ∙ shut-common in
      let m : step true st f (code "<" ∷ Inner) ≡ move (inside (timed t) f st) end (7 + length t) =
      e ∙ times-start ∙ times-end-good st f w (times_len w) (common (bytes "\">") (drop (times_len w) w)) c
      ∙ ap (λ (x : ℕ). move (inside (timed (take x w)) f st) end (7 + x)) n
      ∙ ap (λ (x : Bytes). move (inside (timed x) f st) end (7 + length t)) (take-append_seam t Shut)
      in
      let j : 7 + length t ≡ suc (suc (suc (suc (suc (length t + 2))))) = omega arith in
      goes_step true st (inside (timed t) f st) f end (code "<") (7 + length t) Inner u m (omega (arith, length-append t Shut))
      (ap (λ (x : ℕ). drop x Inner) j ∙ drop-append-add t Shut 2)

  pub goes-timed : (a : Bool) → a ≡ true → step a st f (code "<" ∷ Inner) ≡ start_tag a st f Inner → Goes a st f (code "<" ∷ Inner) (inside (timed t) f st) end u
  goes-timed true h e = goes-times e
  goes-timed false h e = clash (sym h)

-- ---- an end tag
pub goes_end : (a : Bool) (o : Tag) (g : Forest) (st : Stack) (f : Forest) (u : Bytes) →
    Goes a (inside o g st) f (code "<" ∷ code "/" ∷ (tag_name o ++ code ">" ∷ u)) st (join g (tag_node o f)) u
goes_end a o g st f u =
    let n = tag_name o in
    let s = n ++ code ">" ∷ u in
    let m : step a (inside o g st) f (code "<" ∷ code "/" ∷ s) ≡ move st (join g (tag_node o f)) (2 + length n) =
    step_end a o g st f (code "<") (code "/" ∷ s) refl refl ∙ ap (end_of o g st f s) (common-self n (code ">" ∷ u))
    ∙ end-good o g st f s (length n) refl (get_or-append_seam n (code ">") u 0)
    in
    let j : 2 + length n ≡ suc (length n + 1) = omega arith in
    goes_step a (inside o g st) st f (join g (tag_node o f)) (code "<") (2 + length n) (code "/" ∷ s) u m (omega (arith, length-append n (code ">" ∷ u)))
    (ap (λ (i : ℕ). drop i (code "/" ∷ s)) j ∙ drop-append-add n (code ">" ∷ u) 1)

-- ---- a run of text before a `<`
record Starts (w : Bytes) : Type 0 where
  first : ℕ
  more : Bytes
  is : w ≡ first ∷ more
  other : first ≡ code "<" → ⊥

starts-entity : {e : Bytes} {c : ℕ} (s : Bytes) → Entity e c → Starts (e ++ s)
unfolding bytes
starts-entity s lt = record { first = code "&"; more = _; is = refl; other = λ x. eqb-false (code "&") (code "<") refl x }
starts-entity s gt = record { first = code "&"; more = _; is = refl; other = λ x. eqb-false (code "&") (code "<") refl x }
starts-entity s amp = record { first = code "&"; more = _; is = refl; other = λ x. eqb-false (code "&") (code "<") refl x }
starts-entity s quot = record { first = code "&"; more = _; is = refl; other = λ x. eqb-false (code "&") (code "<") refl x }
starts-entity s apos = record { first = code "&"; more = _; is = refl; other = λ x. eqb-false (code "&") (code "<") refl x }

starts : {s t : Bytes} → Characters s t → is_empty s ≡ false → Starts s
unfolding is_empty
starts none e = clash e
starts (kept {b = b} {s = s} x n c) e = record { first = b; more = s; is = refl; other = character-not b (code "<") lt-markup x }
starts (joined {b = b} {s = s} x f c) e = record { first = b; more = s; is = refl; other = λ y. eqb-false (code "\r") (code "<") refl (sym x ∙ y) }
starts (turned {b = b} {s = s} x f c) e = record { first = b; more = s; is = refl; other = λ y. eqb-false (code "\r") (code "<") refl (sym x ∙ y) }
starts (entity {s = s} x c) e = starts-entity s x

pub goes-text : {w v : Bytes} (a : Bool) (o : Tag) (g : Forest) (st : Stack) (f : Forest) (u : Bytes) → Characters w v → is_empty w ≡ false → Clear 0 w →
    Goes a (inside o g st) f (w ++ code "<" ∷ u) (inside o g st) (join f (text v end)) (code "<" ∷ u)
goes-text {w} {v} a o g st f u c e h =
    let here = inside o g st in
    let i = starts c e in
    let s = w ++ code "<" ∷ u in
    let k : ℕ = length w in
    let is : s ≡ i.first ∷ (i.more ++ code "<" ∷ u) = ap (λ (x : Bytes). x ++ code "<" ∷ u) i.is in
    let l : k ≡ suc (length i.more) = ap length i.is in
    let n : scan 0 0 0 s ≡ Ok k = scan-characters 0 0 u c h ∙ ap Ok (zero-add k) in
    let b : unescape 0 (take k s) ≡ v = ap (unescape 0) (take-append_seam w (code "<" ∷ u)) ∙ characters-mean c in
    let p : k - 1 ≡ length i.more = omega arith in
    let m : step a here f (i.first ∷ (i.more ++ code "<" ∷ u)) ≡ move here (join f (text v end)) (length i.more) =
    step-chars a o g st f i.first (i.more ++ code "<" ∷ u) i.other
    ∙ ap (characters here f) (sym is)
    ∙ chars-upto here f s k n
    ∙ ap (λ (x : Bytes). move here (join f (text x end)) (k - 1)) b
    ∙ ap (λ (x : ℕ). move here (join f (text v end)) x) p
    in
    rw is
    (goes_step a here here f (join f (text v end)) i.first (length i.more) (i.more ++ code "<" ∷ u) (code "<" ∷ u) m
    (omega (arith, length-append i.more (code "<" ∷ u))) (drop-append_seam i.more (code "<" ∷ u)))

-- ---- white space outside the root
pub goes-white : (a : Bool) (f : Forest) (w s : Bytes) → all is_white w ≡ true → Goes a outer f (w ++ s) outer f s
unfolding all
goes-white a f [] s e = goes_none
goes-white a f (b ∷ w) s e =
    let i = both_true (is_white b) (all is_white w) e in
    goes_then (goes_step a outer outer f f b 0 (w ++ s) (w ++ s) (out-white a f b (w ++ s) i.0) (omega arith) refl) (goes-white a f w s i.1)
