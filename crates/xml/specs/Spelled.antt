-- What a text spells is tidy; contents one after another; and the written form of a tidy forest spells it.
use Rattle.std.specs.Prelude.{ℕ, ◌+◌, ◌≡◌, refl, Bool, true, false, not, [], ◌∷◌, ◌++◌, eqb}
use Prim.Native.Char.{code}
use Rattle.std.proofs.Common.{sym, ◌∙◌, append-nil, eqb-true}
use Rattle.std.proofs.lemmas.Bool.{eqb-false}
use Rattle.xml.specs.Bytes.{Bytes, bytes, all, is_empty, is_legal, is_meant, bytes_compute}
use Rattle.xml.specs.Forest.{Forest, end, elem, text, stamp, escape, write, Tidy, Root}
use Rattle.xml.specs.Grammar.{Entity, lt, gt, amp, quot, apos, Characters, none, kept, entity, Content, nothing, run, element, lone, times, Spells}
use Rattle.xml.specs.Read.{is_end}
use Rattle.xml.specs.Truth.{by-test, clash, both_true}
use Rattle.xml.specs.GrammarLaws.{legal-character, characters-legal, characters-some}
use Rattle.xml.specs.Clear.{Clear, clear-nil, clear-entity, clear-bracket, clear-other}

-- ---- what is spelled is tidy
pub content-tidy : {a : Bool} {s : Bytes} {f : Forest} → Content a s f → Tidy a f
content-tidy nothing = tt
content-tidy (run c e o n r) = (characters-some c e, characters-legal c, n, content-tidy r)
content-tidy (element n k r) = (n, content-tidy k, content-tidy r)
content-tidy (lone n r) = (n, tt, content-tidy r)
content-tidy (times t n k r) = (t, n, content-tidy k, content-tidy r)

pub spelled-tidy : {a : Bool} {s : Bytes} {f : Forest} → Spells a s f → Tidy a f × Root f
spelled-tidy p = (content-tidy p.content, p.root)

pub root-some : (f : Forest) → Root f → is_end f ≡ false
unfolding is_end
root-some end r = absurd r
root-some (elem n k f) r = refl
root-some (text b f) r = absurd r
root-some (stamp t k f) r = refl

-- ---- a run that is written
data Escaped (b : ℕ) (s : Bytes) : Bytes → Type 0 where
  sign : {e : Bytes} {c : ℕ} → b ≡ c → Entity e c → Escaped b s (e ++ s)
  self : (b ≡ code "&" → ⊥) → (b ≡ code "<" → ⊥) → (b ≡ code ">" → ⊥) → Escaped b s (b ∷ s)

escaped : (b : ℕ) (s : Bytes) → Escaped b (escape s) (escape (b ∷ s))
unfolding escape
escaped b s = at (eqb b (code "&")) refl (eqb b (code "<")) refl (eqb b (code ">")) refl
  where
    at : (x : Bool) → eqb b (code "&") ≡ x → (y : Bool) → eqb b (code "<") ≡ y → (z : Bool) → eqb b (code ">") ≡ z →
        Escaped b (escape s)
        (elim x [
          | true ↦ bytes "&amp;" ++ escape s
          | false ↦ elim y [ true ↦ bytes "&lt;" ++ escape s | false ↦ elim z [ true ↦ bytes "&gt;" ++ escape s | false ↦ b ∷ escape s ] ]
        ])
    at true e y f z g = sign (eqb-true b (code "&") e) amp
    at false e true f z g = sign (eqb-true b (code "<") f) lt
    at false e false f true g = sign (eqb-true b (code ">") g) gt
    at false e false f false g = self (eqb-false b (code "&") e) (eqb-false b (code "<") f) (eqb-false b (code ">") g)

pub meant-legal : (b : ℕ) → is_meant b ≡ true → (is_legal b ≡ true) × (b ≡ code "\r" → ⊥)
unfolding is_meant
meant-legal b e =
    let h = both_true (is_legal b) (not (eqb b (code "\r"))) e in
    (h.0, λ x. clash (sym h.1 ∙ rw x refl))

escaped-characters : {b : ℕ} {s w : Bytes} (t : Bytes) → Escaped b s w → is_meant b ≡ true → Characters s t → Characters w (b ∷ t)
escaped-characters t (sign h e) l c = rw h (entity e c)
escaped-characters {b} t (self n m g) l c = let h = meant-legal b l in kept (legal-character b m n h.0) h.1 c

escape-characters : (t : Bytes) → all is_meant t ≡ true → Characters (escape t) t
unfolding escape all
escape-characters [] l = none
escape-characters (b ∷ t) l =
    let h = both_true (is_meant b) (all is_meant t) l in
    escaped-characters t (escaped b t) h.0 (escape-characters t h.1)

escaped-clear : {b : ℕ} {s w : Bytes} (q : ℕ) → Escaped b s w → ((r : ℕ) → Clear r s) → Clear q w
escaped-clear {s = s} q (sign h e) k = clear-entity q s e (k 0)
escaped-clear {b} {s = s} q (self n m g) k =
    by-test (eqb b (code "]")) (λ e. rw (eqb-true b (code "]") e) (clear-bracket q s (k (q + 1))))
    (λ e. clear-other q b s (eqb-false b (code "]") e) (λ h. absurd (g h)) (k 0))

escape-clear : (t : Bytes) (q : ℕ) → Clear q (escape t)
unfolding escape
escape-clear [] q = clear-nil q
escape-clear (b ∷ t) q = escaped-clear q (escaped b t) (λ r. escape-clear t r)

escaped-some : {b : ℕ} {s w : Bytes} → Escaped b s w → is_empty w ≡ false
unfolding bytes_compute
escaped-some (sign h lt) = refl
escaped-some (sign h gt) = refl
escaped-some (sign h amp) = refl
escaped-some (sign h quot) = refl
escaped-some (sign h apos) = refl
escaped-some (self n m g) = refl

escape-some : (t : Bytes) → is_empty t ≡ false → is_empty (escape t) ≡ false
unfolding is_empty
escape-some [] e = clash e
escape-some (b ∷ t) e = escaped-some (escaped b t)

-- ---- the written form
pub write-content : (a : Bool) (f : Forest) → Tidy a f → Content a (write f) f
unfolding write
write-content a end t = nothing
write-content a (text b r) t =
    run (escape-characters b t.1) (escape-some b t.0) (escape-clear b 0).no t.2 (write-content a r t.3)
write-content a (elem n k r) t = element t.0 (write-content a k t.1) (write-content a r t.2)
write-content a (stamp u k r) t = times t.0 t.1 (write-content a k t.2) (write-content a r t.3)

pub write-spells : (a : Bool) (f : Forest) → Tidy a f → Root f → Spells a (write f) f
unfolding all
write-spells a f t r =
    record {
      before = [];
      inner = write f;
      after = [];
      text-is = sym (append-nil (write f));
      white-before = refl;
      white-after = refl;
      content = write-content a f t;
      root = r;
    }
