-- A text that can be read is neat just where it is what its forest is written as.
use Rattle.std.specs.Prelude.{ℕ, zero, suc, ◌+◌, ◌-◌, ◌<◌, ◌≡◌, refl, Bool, true, false, not, [], ◌∷◌, ◌++◌, length, get_or}
use Prim.Native.Char.{code}
use Rattle.std.proofs.Common.{ap, sym, ◌∙◌, append-nil, arith, length-append, get_or-append-add}
use Rattle.xml.specs.Bytes.{Bytes, bytes, all, same, is_white, bytes_compute}
use Rattle.xml.specs.BytesLaws.{same-is, same_self}
use Rattle.xml.specs.Forest.{Forest, end, elem, text, stamp, write, Tidy, Root}
use Rattle.xml.specs.Grammar.{Spells}
use Rattle.xml.specs.Read.{whole, read}
use Rattle.xml.specs.RoundTrip.{read-tidy}
use Rattle.xml.specs.Sound.{read-sound}
use Rattle.xml.specs.Truth.{by-test, clash, not_so, and_left, and_right}
use Rattle.xml.specs.Neat.{count, others, tags, last, Neat}
use Rattle.xml.specs.NeatWritten.{write-signs, content-told}

-- ---- the first and the last byte
white-at : (s : Bytes) (i : ℕ) → all is_white s ≡ true → i < length s → is_white (get_or s i 0) ≡ true
unfolding all
white-at [] i e h = absurd (omega arith)
white-at (b ∷ s) zero e h = and_left (is_white b) (all is_white s) e
white-at (b ∷ s) (suc i) e h = white-at s i (and_right (is_white b) (all is_white s) e) (omega arith)

-- white space after a text is its last byte
last-after : (s : Bytes) (b : ℕ) (t : Bytes) → last (s ++ b ∷ t) ≡ last (b ∷ t)
last-after s b t =
    let n : length (s ++ b ∷ t) - 1 ≡ length s + (length (b ∷ t) - 1) = rw length-append (omega arith) in
    ap (λ (i : ℕ). get_or (s ++ b ∷ t) i 0) n ∙ get_or-append-add s (b ∷ t) (length (b ∷ t) - 1) 0

lt-black : is_white (code "<") ≡ false
unfolding bytes_compute
lt-black = refl

gt-black : is_white (code ">") ≡ false
unfolding bytes_compute
gt-black = refl

write-first : (f : Forest) → Root f → is_white (get_or (write f) 0 0) ≡ false
unfolding write bytes
write-first end r = absurd r
write-first (elem n k f) r = lt-black
write-first (text b f) r = absurd r
write-first (stamp t k f) r = lt-black

write-last : (f : Forest) → Root f → is_white (last (write f)) ≡ false
unfolding write bytes
write-last end r = absurd r
write-last (elem n k f) r =
    let x : Bytes = bytes "<" ++ n ++ bytes ">" ++ write k ++ bytes "</" ++ n in
    let e : write (elem n k f) ≡ x ++ bytes ">" = ap (λ (g : Forest). write (elem n k g)) r ∙ append-nil (x ++ bytes ">") in
    ap (λ (s : Bytes). is_white (last s)) e ∙ ap is_white (last-after x (code ">") []) ∙ gt-black
write-last (text b f) r = absurd r
write-last (stamp t k f) r =
    let x : Bytes = bytes "<T t=\"" ++ t ++ bytes "\">" ++ write k in
    let e : write (stamp t k f) ≡ x ++ bytes "</T>" = ap (λ (g : Forest). write (stamp t k g)) r ∙ append-nil (x ++ bytes "</T>") in
    ap (λ (s : Bytes). is_white (last s)) e ∙ ap is_white (last-after x (code "<") (bytes "/T>")) ∙ gt-black

write-some : (f : Forest) → Root f → length (write f) ≡ 0 → ⊥
unfolding write bytes
write-some end r e = absurd r
write-some (elem n k f) r e = omega arith
write-some (text b f) r e = absurd r
write-some (stamp t k f) r e = omega arith

-- what is written is neat
write-neat : (a : Bool) (f : Forest) → Tidy a f → Root f → Neat (tags f) (write f)
unfolding others
write-neat a f t r =
    let x = write-signs a f t in
    record {
      some = write-some f r;
      black-first = write-first f r;
      black-last = write-last f r;
      less = x.less;
      greater = x.greater;
      no-others = ap others (sym (append-nil (write f))) ∙ x.passes [];
    }

-- ---- a text that is neat has no white space around it
no-before : (b s : Bytes) → all is_white b ≡ true → is_white (get_or (b ++ s) 0 0) ≡ false → b ≡ []
no-before [] s w e = refl
no-before (x ∷ b) s w e = clash (sym (white-at (x ∷ b) 0 w (omega arith)) ∙ e)

no-after : (s a : Bytes) → all is_white a ≡ true → is_white (last (s ++ a)) ≡ false → a ≡ []
no-after s [] w e = refl
no-after s (x ∷ a) w e = clash (sym (ap is_white (last-after s x a) ∙ white-at (x ∷ a) (length (x ∷ a) - 1) w (omega arith)) ∙ e)

neat-is : (a : Bool) (s : Bytes) (f : Forest) → Spells a s f → Tidy a f → Neat (tags f) s → s ≡ write f
neat-is a s f p t n =
    let b : Bytes = p.before in
    let i : Bytes = p.inner in
    let z : Bytes = p.after in
    let z₀ : z ≡ [] = no-after (b ++ i) z p.white-after (ap (λ (x : Bytes). is_white (last x)) (sym p.text-is) ∙ n.black-last) in
    let e : s ≡ b ++ i = p.text-is ∙ ap (λ (x : Bytes). b ++ i ++ x) z₀ ∙ append-nil (b ++ i) in
    let b₀ : b ≡ [] = no-before b i p.white-before (ap (λ (x : Bytes). is_white (get_or x 0 0)) (sym e) ∙ n.black-first) in
    let d : s ≡ i = e ∙ ap (λ (x : Bytes). x ++ i) b₀ in
    let x = write-signs a f t in
    d ∙ (content-told p.content).is [] (ap others (append-nil i ∙ sym d) ∙ n.no-others)
    (ap (count (code "<")) (sym d) ∙ n.less ∙ sym x.less) (ap (count (code ">")) (sym d) ∙ n.greater ∙ sym x.greater)

-- THE law: a text that can be read is spelled exactly as its forest is written just where it is neat
module _ (a : Bool) (s : Bytes) (f : Forest) (e : read a s ≡ whole f) where
  pub neat-spelled : Neat (tags f) s → same s (write f) ≡ true
  neat-spelled n = ap (same s) (sym (neat-is a s f (read-sound a s f e) (read-tidy a s f e).0 n)) ∙ same_self s

  pub spelled-neat : same s (write f) ≡ true → Neat (tags f) s
  spelled-neat h = let t = read-tidy a s f e in rw (same-is s (write f) h) (write-neat a f t.0 t.1)

  -- so a text that is not neat is spelled otherwise, and what is told last decides
  pub not-spelled : (Neat (tags f) s → ⊥) → same s (write f) ≡ false
  not-spelled n = not_so (same s (write f)) (λ h. n (spelled-neat h))

  pub last-told : {r : Bool} → r ≡ others s → (others s ≡ false → Neat (tags f) s) → not r ≡ same s (write f)
  last-told {r} d k =
      by-test r (λ x. ap not x ∙ sym (not-spelled (λ n. clash (sym x ∙ d ∙ n.no-others)))) (λ x. ap not x ∙ sym (neat-spelled (k (sym d ∙ x))))
