-- Whether a number belongs to a text, in one pass over its bytes; for every text this is the definition.
use Prim.Native.Nat.{ℕ, zero, suc, ◌+◌, ◌-◌, ◌*◌, ◌≤◌, ◌<◌, min}
use Rattle.std.specs.Prelude.{◌≡◌, Bool, ◌&&◌, eqb, length, get_or, drop}
use Rattle.std.proofs.Math.Path.{refl, sym, ap, ap₂}
use Rattle.std.proofs.Common.{◌∙◌, arith, add-one, drop_of_length-le, drop-cons, eq-eqb, ne_eqb, le-leb}
use mathlib.Core.List.{List, [], ◌∷◌, ◌++◌, append_assoc, append-nil}
use Rattle.std.proofs.Math.Bool.{true, false, ◌||◌, or-false}
use Rattle.std.proofs.Math.Decide.{dec_le, dec_lt, ℕ_discrete}
use Rattle.std.proofs.Math.Dec.{leb}
use Rattle.std.proofs.Math.ListN.{get_or-eq_default}
use Rattle.std.proofs.lemmas.Bool.{lt-leb}
use Rattle.xml.specs.Bytes.{Bytes, any, split, push}
use Rattle.xml.specs.SplitLaws.{Free, free-append, split_one, split-free, split-alone, split-sep}
use Rattle.xml.specs.Truth.{bool_by}
use Rattle.timestamp.specs.Times.{number_after, number, run_holds, belongs}
use Rattle.timestamp.specs.declared.text.Span.{Span}

abbrev pub fresh : Span
fresh = record { dashes = 0; lo = 0; n = 0 }

abbrev pub dashed : ℕ → ℕ
dashed zero = 1
dashed (suc k) = 2

abbrev pub pick_span : Bool → Span → Span → Span
pick_span true x y = x
pick_span false x y = y

-- a byte of a run more
unfoldable pub stepped : Span → ℕ → Span
stepped x b =
    pick_span (eqb b 45) (record { dashes = dashed x.dashes; lo = x.n; n = 0 }) (record { dashes = x.dashes; lo = x.lo; n = min 1000 (10 * x.n + (b - 48)) })

abbrev pub holds_by : ℕ → ℕ → ℕ → ℕ → Bool
holds_by zero lo n v = eqb v n
holds_by (suc zero) lo n v = leb lo v && leb v n
holds_by (suc (suc k)) lo n v = false

unfoldable pub holds : Span → ℕ → Bool
holds x v = holds_by x.dashes x.lo x.n v

-- the rest of a text, where x is read of its first run
unfoldable pub rests : Span → Bytes → ℕ → Bool
rests x [] v = holds x v
rests x (b ∷ s) v = elim (eqb b 44) [ true ↦ holds x v || rests fresh s v | false ↦ rests (stepped x b) s v ]

-- a dash, and any other byte of a run
pub step-dash : (x : Span) (b : ℕ) → b ≡ 45 → stepped x b ≡ record { dashes = dashed x.dashes; lo = x.n; n = 0 }
unfolding stepped
step-dash x b e = rw (eq-eqb b 45 e)

pub step-digit : (x : Span) (b : ℕ) → (b ≡ 45 → ⊥) → stepped x b ≡ record { dashes = x.dashes; lo = x.lo; n = min 1000 (10 * x.n + (b - 48)) }
unfolding stepped
step-digit x b e = rw (ne_eqb b 45 e)

-- what the code of a run's steps answers
pub dash-done : (x : Span) (b k : ℕ) → b ≡ 45 → k ≡ dashed x.dashes → record { dashes = k; lo = x.n; n = 0 } ≡ stepped x b
dash-done x b k e d = ap (λ (m : ℕ). let y : Span = record { dashes = m; lo = x.n; n = 0 } in y) d ∙ sym (step-dash x b e)

pub digit-done : (x : Span) (b m : ℕ) → (b ≡ 45 → ⊥) → m ≡ min 1000 (10 * x.n + (b - 48)) → record { dashes = x.dashes; lo = x.lo; n = m } ≡ stepped x b
digit-done x b m e d = ap (λ (m : ℕ). let y : Span = record { dashes = x.dashes; lo = x.lo; n = m } in y) d ∙ sym (step-digit x b e)

pub dashed-more : (k : ℕ) → (k ≡ 0 → ⊥) → 2 ≡ dashed k
dashed-more zero h = absurd (h refl)
dashed-more (suc k) h = refl

pub holds-one : (x : Span) (v : ℕ) → x.dashes ≡ 0 → eqb v x.n ≡ holds x v
unfolding holds
holds-one x v e = rw e

pub holds-two : (x : Span) (v : ℕ) → x.dashes ≡ 1 → (leb x.lo v && leb v x.n) ≡ holds x v
unfolding holds
holds-two x v e = rw e

pub holds-many : (x : Span) (v : ℕ) → (x.dashes ≡ 0 → ⊥) → (x.dashes ≡ 1 → ⊥) → false ≡ holds x v
unfolding holds
holds-many x v = go x.dashes
  where
    go : (k : ℕ) → (k ≡ 0 → ⊥) → (k ≡ 1 → ⊥) → false ≡ holds_by k x.lo x.n v
    go zero z o = absurd (z refl)
    go (suc zero) z o = absurd (o refl)
    go (suc (suc k)) z o = refl

pub inside-default : (l : Bytes) (at : ℕ) → at < length l → get_or l at 0 ≡ get_or l at 44
inside-default [] at h = absurd (omega arith)
inside-default (b ∷ l) zero h = refl
inside-default (b ∷ l) (suc at) h = inside-default l at (omega arith)

-- ---- its steps at the place `at` of a text, which ends as if by a comma
pub comma-less : (l : Bytes) (at : ℕ) → (get_or l at 44 ≡ 44 → ⊥) → at < length l
comma-less l at h = go (dec_lt at (length l))
  where
    go : Dec (at < length l) → at < length l
    go (yes q) = q
    go (no q) = absurd (h (get_or-eq_default l 44 (omega arith)))

pub rests-step : (x : Span) (l : Bytes) (at v : ℕ) → (get_or l at 44 ≡ 44 → ⊥) → rests x (drop at l) v ≡ rests (stepped x (get_or l at 44)) (drop (at + 1) l) v
unfolding rests
rests-step x l at v h =
    ap (λ (s : Bytes). rests x s v) (drop-cons l at 44 (comma-less l at h)) ∙ rw (ne_eqb (get_or l at 44) 44 h, rests, add-one at)

pub rests-end : (x : Span) (l : Bytes) (at v : ℕ) → length l ≤ at → rests x (drop at l) v ≡ holds x v
unfolding rests
rests-end x l at v h = ap (λ (s : Bytes). rests x s v) (drop_of_length-le l h)

pub rests-comma : (x : Span) (l : Bytes) (at v : ℕ) → at < length l → get_or l at 44 ≡ 44 → rests x (drop at l) v ≡ (holds x v || rests fresh (drop (at + 1) l) v)
unfolding rests
rests-comma x l at v h e =
    ap (λ (s : Bytes). rests x s v) (drop-cons l at 44 h) ∙ rw (e, rests, add-one at)

pub rests-hit : (x : Span) (l : Bytes) (at v : ℕ) → get_or l at 44 ≡ 44 → holds x v ≡ true → rests x (drop at l) v ≡ true
rests-hit x l at v e h = go (dec_lt at (length l))
  where
    go : Dec (at < length l) → rests x (drop at l) v ≡ true
    go (yes q) = rests-comma x l at v q e ∙ ap (λ (b : Bool). b || rests fresh (drop (at + 1) l) v) h
    go (no q) = rests-end x l at v (omega arith) ∙ h

-- ---- numbers from 1000 on are alike to a number below 1000
after-grows : (n : ℕ) (p : Bytes) → n ≤ number_after n p
unfolding number_after
after-grows n [] = omega arith
after-grows n (b ∷ p) = omega (arith, after-grows (10 * n + (b - 48)) p)

module _ (v : ℕ) (hv : v < 1000) where
  capped : (f : ℕ → Bool) → ((m : ℕ) → 1000 ≤ m → f m ≡ f 1000) → (n : ℕ) (p : Bytes) → f (number_after (min 1000 n) p) ≡ f (number_after n p)
  capped f h n p = go (dec_le n 1000)
    where
      go : Dec (n ≤ 1000) → f (number_after (min 1000 n) p) ≡ f (number_after n p)
      go (yes q) = let e : min 1000 n ≡ n = omega arith in rw e
      go (no q) =
          h (number_after (min 1000 n) p) (omega (arith, after-grows (min 1000 n) p)) ∙ sym (h (number_after n p) (omega (arith, after-grows n p)))

  capped-eq : (n : ℕ) (p : Bytes) → eqb v (number_after (min 1000 n) p) ≡ eqb v (number_after n p)
  capped-eq = capped (eqb v) (λ m h. ne_eqb v m (λ e. omega arith) ∙ sym (ne_eqb v 1000 (λ e. omega arith)))

  capped_lo : (n : ℕ) (p : Bytes) → leb (number_after (min 1000 n) p) v ≡ leb (number_after n p) v
  capped_lo = capped (λ m. leb m v) (λ m h. lt-leb m v (omega arith) ∙ sym (lt-leb 1000 v hv))

  capped_hi : (n : ℕ) (p : Bytes) → leb v (number_after (min 1000 n) p) ≡ leb v (number_after n p)
  capped_hi = capped (leb v) (λ m h. le-leb v m (omega arith) ∙ sym (le-leb v 1000 (omega arith)))

  -- ---- what a run holds, where its first bytes are read
  after : ℕ → ℕ → ℕ → Bytes → List Bytes → Bool
  after zero a n p [] = eqb v (number_after n p)
  after zero a n p (q ∷ []) = leb (number_after n p) v && leb v (number q)
  after zero a n p (q ∷ r ∷ ws) = false
  after (suc zero) a n p [] = leb a v && leb v (number_after n p)
  after (suc zero) a n p (q ∷ ws) = false
  after (suc (suc k)) a n p ws = false

  after-digit : (k a n b : ℕ) (p : Bytes) (ws : List Bytes) → after k a (min 1000 (10 * n + (b - 48))) p ws ≡ after k a n (b ∷ p) ws
  unfolding after number_after
  after-digit zero a n b p [] = capped-eq (10 * n + (b - 48)) p
  after-digit zero a n b p (q ∷ []) = ap (λ (x : Bool). x && leb v (number q)) (capped_lo (10 * n + (b - 48)) p)
  after-digit zero a n b p (q ∷ r ∷ ws) = refl
  after-digit (suc zero) a n b p [] = ap (λ (x : Bool). leb a v && x) (capped_hi (10 * n + (b - 48)) p)
  after-digit (suc zero) a n b p (q ∷ ws) = refl
  after-digit (suc (suc k)) a n b p ws = refl

  after-dash : (k a n : ℕ) (q : Bytes) (ws : List Bytes) → after (dashed k) n 0 q ws ≡ after k a n [] (q ∷ ws)
  unfolding after number_after number
  after-dash zero a n q [] = refl
  after-dash zero a n q (r ∷ ws) = refl
  after-dash (suc zero) a n q ws = refl
  after-dash (suc (suc k)) a n q ws = refl

  -- a run read to its end
  reads : Span → Bytes → Span
  reads x [] = x
  reads x (b ∷ w) = reads (stepped x b) w

  split-some : (f : ℕ → Bool) (s : Bytes) → (p : Bytes) × (ws : List Bytes) × (split f s ≡ p ∷ ws)
  unfolding split push
  split-some f [] = ([], [], refl)
  split-some f (b ∷ s) =
      let r = split-some f s in
      bool_by (λ x. (p : Bytes) × (ws : List Bytes) × (elim x as (λ _. List Bytes) [ true ↦ [] ∷ split f s | false ↦ push b (split f s) ] ≡ p ∷ ws)) (f b)
      (λ e. ([], split f s, refl)) (λ e. (b ∷ r.0, r.1, rw r.2 refl))

  -- what a run holds, by its parts
  parts : Span → List Bytes → Bool
  parts x [] = false
  parts x (p ∷ ws) = after x.dashes x.lo x.n p ws

  at_once : (k a n : ℕ) → holds_by k a n v ≡ after k a n [] []
  unfolding after number_after
  at_once zero a n = refl
  at_once (suc zero) a n = refl
  at_once (suc (suc k)) a n = refl

  reads-holds : (w : Bytes) (x : Span) → holds (reads x w) v ≡ parts x (split (eqb 45) w)
  unfolding reads parts holds split
  reads-holds [] x = at_once x.dashes x.lo x.n
  reads-holds (b ∷ w) x = reads-holds w (stepped x b) ∙ go (split-some (eqb 45) w) (ℕ_discrete b 45)
    where
      go : (p : Bytes) × (ws : List Bytes) × (split (eqb 45) w ≡ p ∷ ws) → Dec (b ≡ 45) → parts (stepped x b) (split (eqb 45) w) ≡ parts x (split (eqb 45) (b ∷ w))
      go r (yes q) =
          ap₂ parts (step-dash x b q) r.2 ∙ after-dash x.dashes x.lo x.n r.0 r.1
          ∙ sym (ap (parts x) (split-sep (eqb 45) b w (eq-eqb 45 b (sym q)) ∙ ap (λ (l : List Bytes). [] ∷ l) r.2))
      go r (no q) =
          ap₂ parts (step-digit x b q) r.2 ∙ after-digit x.dashes x.lo x.n b r.0 r.1
          ∙ sym (ap (parts x) (split_one (eqb 45) b w r.0 r.1 (ne_eqb 45 b (λ e. q (sym e))) r.2))

  parts-fresh : (ws : List Bytes) → parts fresh ws ≡ run_holds v ws
  unfolding parts after run_holds number
  parts-fresh [] = refl
  parts-fresh (p ∷ []) = refl
  parts-fresh (p ∷ q ∷ []) = refl
  parts-fresh (p ∷ q ∷ r ∷ ws) = refl

  reads_more : (w : Bytes) (x : Span) (b : ℕ) → reads x (w ++ b ∷ []) ≡ stepped (reads x w) b
  unfolding reads
  reads_more [] x b = refl
  reads_more (a ∷ w) x b = reads_more w (stepped x a) b

  abbrev in_part : Bytes → Bool
  in_part r = run_holds v (split (eqb 45) r)

  run_holds_lem : (w : Bytes) → holds (reads fresh w) v ≡ in_part w
  run_holds_lem w = reads-holds w fresh ∙ parts-fresh (split (eqb 45) w)

  -- the bytes w of the run are read
  rests-from : (s w : Bytes) → Free (eqb 44) w → rests (reads fresh w) s v ≡ any in_part (split (eqb 44) (w ++ s))
  unfolding rests any reads
  rests-from [] w f =
      run_holds_lem w ∙ sym (or-false (in_part w)) ∙ sym (ap (any in_part) (ap (split (eqb 44)) (append-nil w) ∙ split-alone (eqb 44) w f))
  rests-from (b ∷ s) w f = go (ℕ_discrete b 44) (rests-from s [] tt) (λ g. rests-from s (w ++ b ∷ []) g)
    where
      go : Dec (b ≡ 44) → rests fresh s v ≡ any in_part (split (eqb 44) s)
          → (Free (eqb 44) (w ++ b ∷ []) → rests (reads fresh (w ++ b ∷ [])) s v ≡ any in_part (split (eqb 44) ((w ++ b ∷ []) ++ s)))
          → rests (reads fresh w) (b ∷ s) v ≡ any in_part (split (eqb 44) (w ++ b ∷ s))
      go (yes q) ih jh =
          rw (eq-eqb b 44 q, rests) (ap₂ ◌||◌ (run_holds_lem w) ih)
          ∙ sym (ap (any in_part) (split-free (eqb 44) w (b ∷ s) [] (split (eqb 44) s) f (split-sep (eqb 44) b s (eq-eqb 44 b (sym q))) ∙ ap (λ (x : Bytes). x ∷ split (eqb 44) s) (append-nil w)))
      go (no q) ih jh =
          rw (ne_eqb b 44 q, rests) (ap (λ (x : Span). rests x s v) (sym (reads_more w fresh b))
          ∙ jh (free-append (eqb 44) w (b ∷ []) f (ne_eqb 44 b (λ e. q (sym e)), tt))
          ∙ ap (λ (l : Bytes). any in_part (split (eqb 44) l)) (append_assoc w (b ∷ []) s))

  -- the pass over all the text is the definition
  pub rests-is : (s : Bytes) → rests fresh s v ≡ belongs v s
  unfolding belongs reads
  rests-is s = rests-from s [] tt
