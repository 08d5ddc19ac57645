-- What grows by one version at a time and can be cut back: the laws, and what follows of the whole list of versions.
use Prim.Native.Nat.{ℕ, zero, suc, ◌<◌, ◌≤◌}
use Rattle.std.specs.Prelude.{◌≡◌, ◌⊎◌, length, take, get_or}
use Rattle.std.proofs.Math.Path.{refl, ap, ap₂}
use Rattle.std.proofs.Common.{sym, ◌∙◌, subst, inl, inr, arith, eq-or-lt_of_le, take_all}
use mathlib.Core.List.{List, [], ◌∷◌, ◌++◌, map, map-append}
use Rattle.std.proofs.Math.ListN.{get_or-append}
use Rattle.std.proofs.lemmas.List.{take-append-le}
use Rattle.std.proofs.Math.Seq.{take-nil, get_or-append_seam}
use Rattle.model.specs.Gather.{Snoc, empty, more, snoc, length-snoc, gather, gather-more, All, all-front, all_snoc}

pub record Ledger {A X : Type 0} (WF : ℕ → A → Type 0) (G : X → Type 0) (base : A) (step : ℕ → A → X → A) (cut : ℕ → A → A) (read : ℕ → A → X) : Type 0 where
  pub start : WF zero base
  pub only : (a : A) → WF zero a → base ≡ a
  pub grows : (n : ℕ) (a : A) (v : X) → WF n a → G v → WF (suc n) (step n a v)
  pub good : (n i : ℕ) (a : A) → WF n a → G (read i a)
  pub old : (n : ℕ) (a : A) (v : X) → WF n a → G v → (i : ℕ) → i < n → read i (step n a v) ≡ read i a
  pub new : (n : ℕ) (a : A) (v : X) → WF n a → G v → read n (step n a v) ≡ v
  pub kept : (n : ℕ) (a : A) (v : X) → WF n a → G v → (i : ℕ) → i ≤ n → cut i (step n a v) ≡ cut i a
  pub whole : (n : ℕ) (a : A) → WF n a → cut n a ≡ a
  pub shorter : (n i : ℕ) (a : A) → WF n a → i ≤ n → WF i (cut i a)
  pub complete : (n : ℕ) (a : A) → WF (suc n) a → step n (cut n a) (read n a) ≡ a

-- every version, oldest first
unfoldable pub reads : {A X : Type 0} → (ℕ → A → X) → ℕ → A → List X
reads read zero a = []
reads read (suc n) a = reads read n a ++ (read n a ∷ [])

module _ {A X : Type 0} (WF : ℕ → A → Type 0) (G : X → Type 0) (base : A) (step : ℕ → A → X → A) (cut : ℕ → A → A) (read : ℕ → A → X) (law : Ledger WF G base step cut read) where
  abbrev all : List X → A
  all = gather step zero base

  formed : {vs : List X} → Snoc vs → All G vs → WF (length vs) (all vs)
  unfolding gather
  formed empty s = law.start
  formed (more vs v t) s = rw (gather-more step base vs v, length-snoc vs v) (law.grows (length vs) (all vs) v (formed t (all-front G vs v s).0) (all-front G vs v s).1)

  read_at : {vs : List X} → Snoc vs → All G vs → (d : X) (i : ℕ) → i < length vs → read i (all vs) ≡ get_or vs i d
  read_at empty s d i b = absurd (omega arith)
  read_at (more vs v t) s d i b = rw (gather-more step base vs v) (go (eq-or-lt_of_le h) (λ c. read_at t s' d i c))
    where
      h : i ≤ length vs
      h = omega (arith, length-snoc vs v)

      s' : All G vs
      s' = (all-front G vs v s).0

      go : (i ≡ length vs) ⊎ (i < length vs) → (i < length vs → read i (all vs) ≡ get_or vs i d) → read i (step (length vs) (all vs) v) ≡ get_or (vs ++ (v ∷ [])) i d
      go (inl e) ih = rw (e, get_or-append_seam vs v [] d) (law.new (length vs) (all vs) v (formed t s') (all-front G vs v s).1)
      go (inr c) ih = law.old (length vs) (all vs) v (formed t s') (all-front G vs v s).1 i c ∙ ih c ∙ sym (get_or-append vs (v ∷ []) d i c)

  cut-at : {vs : List X} → Snoc vs → All G vs → (i : ℕ) → i ≤ length vs → cut i (all vs) ≡ all (take i vs)
  cut-at empty s i b = ap (λ j. cut j (all [])) e ∙ law.whole zero (all []) (formed empty tt) ∙ ap all (sym (take-nil i))
    where
      e : i ≡ zero
      e = omega arith
  cut-at (more vs v t) s i b = go (eq-or-lt_of_le b) (λ c. cut-at t s' i c)
    where
      s' : All G vs
      s' = (all-front G vs v s).0

      go : (i ≡ length (vs ++ (v ∷ []))) ⊎ (i < length (vs ++ (v ∷ []))) → (i ≤ length vs → cut i (all vs) ≡ all (take i vs)) → cut i (all (vs ++ (v ∷ []))) ≡ all (take i (vs ++ (v ∷ [])))
      go (inl e) ih = ap (λ j. cut j (all (vs ++ (v ∷ [])))) e ∙ law.whole (length (vs ++ (v ∷ []))) (all (vs ++ (v ∷ []))) (formed (more vs v t) s)
          ∙ ap all (sym (take_all i (vs ++ (v ∷ [])) (omega (arith, e))))
      go (inr c) ih = let d : i ≤ length vs = omega (arith, length-snoc vs v) in
          ap (cut i) (gather-more step base vs v) ∙ law.kept (length vs) (all vs) v (formed t s') (all-front G vs v s).1 i d ∙ ih d ∙ ap all (sym (take-append-le i vs (v ∷ []) d))

  -- what grows by one answer with each version answers for each version
  observed : {Y : Type 0} (obs : ℕ → A → List Y) (f : X → Y) → obs zero base ≡ [] → ((n : ℕ) (a : A) (v : X) → WF n a → G v → obs (suc n) (step n a v) ≡ obs n a ++ (f v ∷ []))
      → {vs : List X} → Snoc vs → All G vs → obs (length vs) (all vs) ≡ map f vs
  unfolding gather
  observed obs f z one empty s = z
  observed obs f z one (more vs v t) s = rw (gather-more step base vs v, length-snoc vs v, map-append f vs (v ∷ []))
      (one (length vs) (all vs) v (formed t (all-front G vs v s).0) (all-front G vs v s).1 ∙ ap (λ p. p ++ (f v ∷ [])) (observed obs f z one t (all-front G vs v s).0))

  -- of a list of versions: what is gathered is well-formed, gives back each of them, and is cut back to what the first i give
  module _ (vs : List X) (s : All G vs) where
    pub all-WF : WF (length vs) (all vs)
    all-WF = formed (snoc vs) s

    pub all_read : (d : X) (i : ℕ) → i < length vs → read i (all vs) ≡ get_or vs i d
    all_read d i b = read_at (snoc vs) s d i b

    pub all-cut : (i : ℕ) → i ≤ length vs → cut i (all vs) ≡ all (take i vs)
    all-cut i b = cut-at (snoc vs) s i b

    pub all-observed : {Y : Type 0} (obs : ℕ → A → List Y) (f : X → Y) → obs zero base ≡ [] → ((n : ℕ) (a : A) (v : X) → WF n a → G v → obs (suc n) (step n a v) ≡ obs n a ++ (f v ∷ []))
        → obs (length vs) (all vs) ≡ map f vs
    all-observed obs f z one = observed obs f z one (snoc vs) s

  -- whatever is well-formed is gathered from its own versions, and so is the only one with these
  pub length-reads : (n : ℕ) (a : A) → length (reads read n a) ≡ n
  unfolding reads
  length-reads zero a = refl
  length-reads (suc n) a = length-snoc (reads read n a) (read n a) ∙ ap suc (length-reads n a)

  pub reads-good : (n m : ℕ) (a : A) → WF m a → All G (reads read n a)
  unfolding reads
  reads-good zero m a w = tt
  reads-good (suc n) m a w = all_snoc G (reads read n a) (read n a) (reads-good n m a w) (law.good m n a w)

  reads-cut : (n : ℕ) (a : A) → WF (suc n) a → (j : ℕ) → j ≤ n → reads read j (cut n a) ≡ reads read j a
  unfolding reads
  reads-cut n a w zero b = refl
  reads-cut n a w (suc j) b = ap₂ (λ t v. t ++ (v ∷ [])) (reads-cut n a w j (omega arith))
      (sym (law.old n (cut n a) (read n a) (law.shorter (suc n) n a w (omega arith)) (law.good (suc n) n a w) j b) ∙ ap (read j) (law.complete n a w))

  pub all-reads : (n : ℕ) (a : A) → WF n a → all (reads read n a) ≡ a
  unfolding reads gather
  all-reads zero a w = law.only a w
  all-reads (suc n) a w =
      gather-more step base (reads read n a) (read n a)
      ∙ ap (λ m. step m (all (reads read n a)) (read n a)) (length-reads n a)
      ∙ ap (λ t. step n t (read n a)) (ap all (sym (reads-cut n a w n (omega arith))) ∙ all-reads n (cut n a) (law.shorter (suc n) n a w (omega arith)))
      ∙ law.complete n a w

  pub unique : (n : ℕ) (a b : A) → WF n a → WF n b → reads read n a ≡ reads read n b → a ≡ b
  unique n a b w x e = sym (all-reads n a w) ∙ ap all e ∙ all-reads n b x

-- what represents a ledger is one
module _ {A B X : Type 0} {WF : ℕ → A → Type 0} {G : X → Type 0} {base : A} {step : ℕ → A → X → A} {cut : ℕ → A → A} {read : ℕ → A → X} (law : Ledger WF G base step cut read)
    (WF' : ℕ → B → Type 0) (step' : ℕ → B → X → B) (cut' : ℕ → B → B) (read' : ℕ → B → X) (S : A → B)
    (sound : (n : ℕ) (a : A) → WF n a → WF' n (S a))
    (onto : (n : ℕ) (b : B) → WF' n b → (a : A) × WF n a × (S a ≡ b))
    (S-step : (n : ℕ) (a : A) (v : X) → WF n a → step' n (S a) v ≡ S (step n a v))
    (S-cut : (n i : ℕ) (a : A) → WF n a → i ≤ n → cut' i (S a) ≡ S (cut i a))
    (S-read : (n i : ℕ) (a : A) → WF n a → i < n → read' i (S a) ≡ read i a)
    (good' : (n i : ℕ) (b : B) → WF' n b → G (read' i b)) where
  -- to prove it of b, prove it of S a
  pub from : (n : ℕ) (P : B → Type 0) → ((a : A) → WF n a → P (S a)) → (b : B) → WF' n b → P b
  from n P f b w = let o = onto n b w in subst P o.2 (f o.0 o.1)

  pub represent : Ledger WF' G (S base) step' cut' read'
  represent = record {
    start = sound zero base law.start;
    only = from zero (λ b. S base ≡ b) (λ a w. ap S (law.only a w));
    grows = λ n b v w g. from n (λ b. WF' (suc n) (step' n b v)) (λ a w. rw (S-step n a v w) (sound (suc n) (step n a v) (law.grows n a v w g))) b w;
    good = good';
    old = λ n b v w g i l. from n (λ b. read' i (step' n b v) ≡ read' i b)
        (λ a w. ap (read' i) (S-step n a v w) ∙ S-read (suc n) i (step n a v) (law.grows n a v w g) (omega arith) ∙ law.old n a v w g i l ∙ sym (S-read n i a w l)) b w;
    new = λ n b v w g. from n (λ b. read' n (step' n b v) ≡ v)
        (λ a w. ap (read' n) (S-step n a v w) ∙ S-read (suc n) n (step n a v) (law.grows n a v w g) (omega arith) ∙ law.new n a v w g) b w;
    kept = λ n b v w g i l. from n (λ b. cut' i (step' n b v) ≡ cut' i b)
        (λ a w. ap (cut' i) (S-step n a v w) ∙ S-cut (suc n) i (step n a v) (law.grows n a v w g) (omega arith) ∙ ap S (law.kept n a v w g i l) ∙ sym (S-cut n i a w l)) b w;
    whole = λ n. from n (λ b. cut' n b ≡ b) (λ a w. S-cut n n a w (omega arith) ∙ ap S (law.whole n a w));
    shorter = λ n i b w l. from n (λ b. WF' i (cut' i b)) (λ a w. rw (S-cut n i a w l) (sound i (cut i a) (law.shorter n i a w l))) b w;
    complete = λ n. from (suc n) (λ b. step' n (cut' n b) (read' n b) ≡ b)
        (λ a w. ap₂ (step' n) (S-cut (suc n) n a w (omega arith)) (S-read (suc n) n a w (omega arith)) ∙ S-step n (cut n a) (read n a) (law.shorter (suc n) n a w (omega arith)) ∙ ap S (law.complete n a w));
  }
