-- The versions of a frontier that no content so far has. A content takes its own from them; the union of the contents is what is taken.
use Rattle.std.specs.Prelude.{ℕ, ◌%◌, ◌≤◌, ◌<◌, ◌≡◌, Bool, ◌&&◌, ◌||◌, List, leb, Some, None}
use Rattle.std.proofs.Common.{arith, sym, ◌∙◌, le-leb}
use Rattle.std.proofs.Math.Path.{refl, ap, fun_ext}
use Rattle.std.proofs.Math.Bool.{true, false, not, beq}
use Rattle.xml.specs.Bytes.{Bytes}
use Rattle.xml.specs.Tape.{head_at}
use Rattle.xml.specs.TapeLaws.{bytes_at}
use Rattle.xml.specs.Truth.{by-test, clash, not_so, and_left, and_right, and_both}
use Rattle.timestamp.specs.Set.{empty_set, up_to, joined, without, every, same_set, is_none, subset, first_in}
use Rattle.timestamp.specs.Tests.{subset-tells, subset-told, apart-told}
use Rattle.timestamp.specs.TakenText.{first_taken}
use Rattle.timestamp.specs.Listed.{Only}
use Rattle.timestamp.specs.Parse.{Outcome, refused, accepted, parsed}
use Rattle.timestamp.specs.Parses.{text-parse}
use Rattle.versions.specs.Branches.{follows, follows-early, follows-in, Way, way-new, way-not, way-refused}

-- every number of s is one of t
abbrev pub Within : (ℕ → Bool) → (ℕ → Bool) → Type 0
Within s t = (v : ℕ) → s v ≡ true → t v ≡ true

-- the set of a text, of which no number is lacking
pub within-read : (b : Bytes) (s l : ℕ → Bool) → parsed b ≡ accepted s → subset s l ≡ true → Within s l
within-read b s l e h v q = subset-tells s l h v (omega (arith, (text-parse b s e).1 v q)) q

-- less is left
pub within-less : (s l t g : ℕ → Bool) → g ≡ without l s → Within l t → Within g t
within-less s l t g e w v q = w v (and_left (l v) (not (s v)) (sym (ap (λ (f : ℕ → Bool). f v) e) ∙ q))

-- at first nothing is taken
pub none-taken : (t : ℕ → Bool) → without t t ≡ empty_set
none-taken t = fun_ext (λ v. go (t v))
  where
    go : (a : Bool) → (a && not a) ≡ false
    go true = refl
    go false = refl

module _ (t l : ℕ → Bool) where
  -- at last all is taken just where none is left
  pub all-taken : Within l t → same_set (without t l) t ≡ is_none l
  unfolding same_set
  all-taken w = ap (every 1024) (fun_ext (λ v. go (t v) (l v) (w v)))
    where
      go : (a b : Bool) → (b ≡ true → a ≡ true) → beq (a && not b) a ≡ beq b false
      go true true f = refl
      go true false f = refl
      go false true f = clash (sym (f refl))
      go false false f = refl

  -- the versions s, which are left, are taken too
  pub more-taken : (s : ℕ → Bool) → Within l t → Within s l → without t (without l s) ≡ joined (without t l) s
  more-taken s w i = fun_ext (λ v. go (t v) (l v) (s v) (w v) (i v))
    where
      go : (a b c : Bool) → (b ≡ true → a ≡ true) → (c ≡ true → b ≡ true) → (a && not (b && not c)) ≡ (a && not b || c)
      go true true true f g = refl
      go true true false f g = refl
      go true false true f g = clash (sym (g refl))
      go true false false f g = refl
      go false true c f g = clash (sym (f refl))
      go false false true f g = clash (sym (g refl))
      go false false false f g = refl

  -- they may come after those that are taken
  pub left-follow : (n m : ℕ) (s : ℕ → Bool) → Only n t → Within l t → Within s l → m < first_in 1024 s 0 → follows n (without t l) m s ≡ true
  left-follow n m s o w i h =
      follows-in n (without t l) m s
      (subset-told s (up_to n) (λ v b q. let x = o v (w v (i v q)) in and_both (leb 1 v) (leb v n) (le-leb 1 v x.0) (le-leb v n x.1)))
      (apart-told s (without t l) (λ v b q z. clash (sym (and_right (t v) (not (l v)) z) ∙ ap not (i v q)))) h

  -- of a content that has a version which is not left
  pub way-lacking : {src cells : List ℕ} {n lo p q m c : ℕ} {whole : Bool} → Way src cells lo p q n t (without t l) m c whole → p < q → head_at cells p % 4 ≡ 2
      → (s : ℕ → Bool) → parsed (bytes_at src cells p) ≡ accepted s → subset s l ≡ false → whole ≡ false
  way-lacking {whole = whole} x o k s e z =
      not_so whole (λ h. clash (sym (subset-told s l (λ v b i. let y = way-new x o k s e h v b i in has (t v) (l v) y.0 y.1)) ∙ z))
    where
      has : (a b : Bool) → a ≡ true → (a && not b) ≡ false → b ≡ true
      has true true e d = refl
      has true false e d = sym d
      has false b e d = clash (sym e)

  -- of a content whose set is not to be taken
  pub way-missed : {src cells : List ℕ} {n lo p q m c : ℕ} {whole : Bool} → Way src cells lo p q n t (without t l) m c whole → p < q → head_at cells p % 4 ≡ 2
      → None ≡ first_taken l (parsed (bytes_at src cells p)) → whole ≡ false
  unfolding first_taken
  way-missed {src} {cells} {n} {lo} {p} {q} {m} {c} {whole} x o k h = go (parsed (bytes_at src cells p)) refl
    where
      go : (y : Outcome) → parsed (bytes_at src cells p) ≡ y → whole ≡ false
      go refused e = way-refused x o k e
      go (accepted s) e = by-test (subset s l) (λ z. let y : None ≡ Some (first_in 1024 s 0) = rw (e, z) at h in absurd cc) (λ z. way-lacking x o k s e z)

  -- or begins too early
  pub way-untaken : {src cells : List ℕ} {n lo p q m c : ℕ} {whole : Bool} → Way src cells lo p q n t (without t l) m c whole → p < q → head_at cells p % 4 ≡ 2
      → (r : ℕ) → Some r ≡ first_taken l (parsed (bytes_at src cells p)) → r ≤ m → whole ≡ false
  unfolding first_taken
  way-untaken {src} {cells} {n} {lo} {p} {q} {m} {c} {whole} x o k r h early = go (parsed (bytes_at src cells p)) refl
    where
      go : (y : Outcome) → parsed (bytes_at src cells p) ≡ y → whole ≡ false
      go refused e = way-refused x o k e
      go (accepted s) e =
          by-test (subset s l)
          (λ z.
          let y : Some r ≡ Some (first_in 1024 s 0) = rw (e, z) at h in
          let w : r ≡ first_in 1024 s 0 = cc in
          way-not x o k s e (follows-early n (without t l) m s (omega (arith, w, early))))
          (λ z. way-lacking x o k s e z)

-- a set that was taken: r is its first number
pub record Took (l : ℕ → Bool) (b : Bytes) (r : ℕ) : Type 0 where
  pub set : ℕ → Bool
  pub is : parsed b ≡ accepted set
  pub had : subset set l ≡ true
  pub first : r ≡ first_in 1024 set 0

pub took : (l : ℕ → Bool) (b : Bytes) (r : ℕ) → Some r ≡ first_taken l (parsed b) → Took l b r
unfolding first_taken
took l b r e = go (parsed b) refl
  where
    go : (y : Outcome) → parsed b ≡ y → Took l b r
    go refused d = let z : Some r ≡ None = rw d at e in absurd cc
    go (accepted s) d =
        by-test (subset s l)
        (λ z.
        let y : Some r ≡ Some (first_in 1024 s 0) = rw (d, z) at e in
        let w : r ≡ first_in 1024 s 0 = cc in
        record { set = s; is = d; had = z; first = w })
        (λ z. let y : Some r ≡ None = rw (d, z) at e in absurd cc)
