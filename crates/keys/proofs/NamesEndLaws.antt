-- The scanner of key names finds each list of names that stands there, and what it finds is one.
use Rattle.std.specs.Prelude.{None, Some}
use Prim.Native.Nat.{ℕ, zero, suc, ◌+◌, ◌≤◌}
use native.Mathlib.Nat.{le_of_suc-le-suc, not-suc-le-zero}
use native.Mathlib.Omega.{arith}
use mathlib.Core.Path.{◌≡◌, refl, sym, ◌∙◌, ap, subst}
use mathlib.Core.Bool.{Bool, true, false}
use mathlib.Core.List.{List, [], ◌∷◌, ◌++◌, append_assoc}
use lib.Dec.{eqb}
use lib.ListN.{length, drop, take, length-append, length-drop, take-append-drop}
use lib.Seq.{drop-drop, length-take-le}
use borrow.Author.Tests.{eqb-true, eq-eqb, ne_eqb, eqb-false}
use Rattle.xml.specs.Bytes.{Bytes, bytes, all, is_name, join_by, bytes_compute}
use Rattle.xml.specs.Read.{common, name_len, read_compute}
use Rattle.xml.specs.ScanLaws.{name_len-fits, common-self, begins}
use Rattle.xml.specs.Names.{name-all, name-taken, name-some}
use Rattle.xml.specs.Truth.{and_left, and_right, both}
use Rattle.keys.specs.LineScans.{names_end}
use Rattle.keys.proofs.LineScanLaws.{past, past_fits}

-- ---- one turn: the next name has n bytes
module _ (text : Bytes) (r i : ℕ) {n : ℕ} (q : n ≡ name_len (drop (i + 2) text)) where
  pub names-fail : n ≡ 0 → names_end text (suc r) i ≡ None
  unfolding names_end
  names-fail e = rw (eq-eqb (name_len (drop (i + 2) text)) 0 (sym q ∙ e), names_end)

  turn : (j : ℕ) → j ≡ i + (2 + n) → i + 2 + name_len (drop (i + 2) text) ≡ j
  turn j e = omega arith

  pub names-stop : (j : ℕ) → j ≡ i + (2 + n) → (n ≡ 0 → ⊥) → (common (bytes ", ") (drop j text) ≡ 2 → ⊥) → names_end text (suc r) i ≡ Some j
  unfolding names_end
  names-stop j e f g =
      rw (ne_eqb (name_len (drop (i + 2) text)) 0 (λ z. f (q ∙ z)), names_end)
      (rw (turn j e) (rw (ne_eqb (common (bytes ", ") (drop j text)) 2 g) (ap Some (turn j e))))

  pub names-turn : (j : ℕ) → j ≡ i + (2 + n) → (n ≡ 0 → ⊥) → common (bytes ", ") (drop j text) ≡ 2 → names_end text (suc r) i ≡ names_end text r j
  unfolding names_end
  names-turn j e f g =
      rw (ne_eqb (name_len (drop (i + 2) text)) 0 (λ z. f (q ∙ z)), names_end)
      (rw (turn j e) (rw (eq-eqb (common (bytes ", ") (drop j text)) 2 g) (ap (names_end text r) (turn j e))))

pub names-fit : (text : Bytes) (i : ℕ) {n : ℕ} → n ≡ name_len (drop (i + 2) text) → i + 2 ≤ length text → i + 2 + n ≤ length text
names-fit text i q h = omega (arith, name_len-fits (drop (i + 2) text), length-drop (i + 2) text)

pub names-over : (text : Bytes) (i : ℕ) → names_end text 0 i ≡ None
unfolding names_end
names-over text i = refl

-- ---- names that stand there are found
brace-off : (s : Bytes) → common (bytes ", ") (125 ∷ s) ≡ 2 → ⊥
unfolding read_compute
brace-off s e = omega arith

pub names-found : (text : Bytes) (r i : ℕ) (n : Bytes) (ns : List Bytes) (s : Bytes) → all is_name (n ∷ ns) ≡ true → length (n ∷ ns) ≤ r
    → drop (i + 2) text ≡ join_by (bytes ", ") (n ∷ ns) ++ 125 ∷ s → names_end text r i ≡ Some (i + 2 + length (join_by (bytes ", ") (n ∷ ns)))
unfolding join_by all bytes_compute
names-found text zero i n ns s a h e = absurd (not-suc-le-zero h)
names-found text (suc r) i n [] s a h e =
    let nm = and_left (is_name n) true a in
    let l : name_len (drop (i + 2) text) ≡ length n = ap name_len e ∙ name-all n 125 s nm refl in
    names-stop text r i (sym l) (i + 2 + length n) (omega arith) (name-some n nm) (λ g. brace-off s (ap (common (bytes ", ")) (sym (past (i + 2) text n (125 ∷ s) e)) ∙ g))
names-found text (suc r) i n (m ∷ ns) s a h e =
    let nm = and_left (is_name n) (all is_name (m ∷ ns)) a in
    let j = join_by (bytes ", ") (m ∷ ns) in
    let x : drop (i + 2) text ≡ n ++ (bytes ", " ++ (j ++ 125 ∷ s)) = e ∙ append_assoc (n ++ bytes ", ") j (125 ∷ s) ∙ append_assoc n (bytes ", ") (j ++ 125 ∷ s) in
    let l : name_len (drop (i + 2) text) ≡ length n = ap name_len x ∙ name-all n 44 (32 ∷ (j ++ 125 ∷ s)) nm refl in
    let y : drop (i + 2 + length n) text ≡ bytes ", " ++ (j ++ 125 ∷ s) = past (i + 2) text n (bytes ", " ++ (j ++ 125 ∷ s)) x in
    let z : i + 2 + length n + 2 + length j ≡ i + 2 + length ((n ++ bytes ", ") ++ j) = omega (arith, length-append (n ++ bytes ", ") j, length-append n (bytes ", ")) in
    names-turn text r i (sym l) (i + 2 + length n) (omega arith) (name-some n nm) (ap (common (bytes ", ")) y ∙ common-self (bytes ", ") (j ++ 125 ∷ s))
    ∙ names-found text r (i + 2 + length n) m ns s (and_right (is_name n) (all is_name (m ∷ ns)) a) (le_of_suc-le-suc h) (past (i + 2 + length n) text (bytes ", ") (j ++ 125 ∷ s) y)
    ∙ ap Some z

-- ---- what is found is names
pub record NamesAt (text : Bytes) (r i e : ℕ) : Type 0 where
  pub first : Bytes
  pub others : List Bytes
  pub named : all is_name (first ∷ others) ≡ true
  pub few : length (first ∷ others) ≤ r
  pub is : drop (i + 2) text ≡ join_by (bytes ", ") (first ∷ others) ++ drop e text
  pub ends : e ≡ i + 2 + length (join_by (bytes ", ") (first ∷ others))
  pub within : e ≤ length text

-- the name at a place, and what comes after it
name-there : (text : Bytes) (i : ℕ) → drop i text ≡ take (name_len (drop i text)) (drop i text) ++ drop (i + name_len (drop i text)) text
name-there text i = sym (take-append-drop (name_len (drop i text)) (drop i text)) ∙ ap (λ (y : Bytes). take (name_len (drop i text)) (drop i text) ++ y) (drop-drop (name_len (drop i text)) i text)

fits-there : (text : Bytes) (i : ℕ) → i ≤ length text → i + name_len (drop i text) ≤ length text
fits-there text i h = omega (arith, name_len-fits (drop i text), length-drop i text)

last_name : (text : Bytes) (r i : ℕ) → i + 2 ≤ length text → (name_len (drop (i + 2) text) ≡ 0 → ⊥) → NamesAt text (suc r) i (i + 2 + name_len (drop (i + 2) text))
unfolding join_by all
last_name text r i h f =
    let n = name_len (drop (i + 2) text) in
    let l = length-take-le n (drop (i + 2) text) (name_len-fits (drop (i + 2) text)) in
    record {
      first = take n (drop (i + 2) text);
      others = [];
      named = both (name-taken (drop (i + 2) text) f) refl;
      few = omega arith;
      is = name-there text (i + 2);
      ends = omega arith;
      within = fits-there text (i + 2) h;
    }

more-names : (text : Bytes) (r i e : ℕ) → i + 2 ≤ length text → (name_len (drop (i + 2) text) ≡ 0 → ⊥) → common (bytes ", ") (drop (i + 2 + name_len (drop (i + 2) text)) text) ≡ 2
    → NamesAt text r (i + 2 + name_len (drop (i + 2) text)) e → NamesAt text (suc r) i e
unfolding join_by all bytes
more-names text r i e h f g q =
    let n = name_len (drop (i + 2) text) in
    let nm = take n (drop (i + 2) text) in
    let j = join_by (bytes ", ") (q.first ∷ q.others) in
    let l = length-take-le n (drop (i + 2) text) (name_len-fits (drop (i + 2) text)) in
    let y : drop (i + 2 + n) text ≡ bytes ", " ++ (j ++ drop e text) =
    begins (bytes ", ") (drop (i + 2 + n) text) g ∙ ap (λ (y : Bytes). bytes ", " ++ y) (drop-drop 2 (i + 2 + n) text ∙ q.is)
    in
    record {
      first = nm;
      others = q.first ∷ q.others;
      named = both (name-taken (drop (i + 2) text) f) q.named;
      few = omega (arith, q.few);
      is = name-there text (i + 2) ∙ ap (λ (y : Bytes). nm ++ y) y ∙ sym (append_assoc (nm ++ bytes ", ") j (drop e text) ∙ append_assoc nm (bytes ", ") (j ++ drop e text));
      ends = omega (arith, q.ends, length-append (nm ++ bytes ", ") j, length-append nm (bytes ", "));
      within = q.within;
    }

pub comma-fits : (text : Bytes) (i : ℕ) → i ≤ length text → common (bytes ", ") (drop i text) ≡ 2 → i + 2 ≤ length text
unfolding bytes
comma-fits text i h e = past_fits i text (bytes ", ") (drop 2 (drop i text)) h (begins (bytes ", ") (drop i text) e)

pub names-real : (text : Bytes) (r i e : ℕ) → i + 2 ≤ length text → names_end text r i ≡ Some e → NamesAt text r i e
unfolding names_end
names-real text zero i e h q = let z : ◌≡◌ {A = ℕ} 0 1 = cc in absurd (omega arith)
names-real text (suc r) i e h q = go (eqb (name_len (drop (i + 2) text)) 0) refl (eqb (common (bytes ", ") (drop (i + 2 + name_len (drop (i + 2) text)) text)) 2) refl (λ k g. names-real text r (i + 2 + name_len (drop (i + 2) text)) e k g)
  where
    n : ℕ
    n = name_len (drop (i + 2) text)

    go : (t : Bool) → eqb n 0 ≡ t → (u : Bool) → eqb (common (bytes ", ") (drop (i + 2 + n) text)) 2 ≡ u
        → (i + 2 + n + 2 ≤ length text → names_end text r (i + 2 + n) ≡ Some e → NamesAt text r (i + 2 + n) e) → NamesAt text (suc r) i e
    go true f u g ih = let z : Some e ≡ None = sym q ∙ names-fail text r i {n = n} refl (eqb-true n 0 f) in let y : ◌≡◌ {A = ℕ} 0 1 = cc z in absurd (omega arith)
    go false f false g ih =
        let z : Some (i + 2 + n) ≡ Some e = sym (names-stop text r i {n = n} refl (i + 2 + n) (omega arith) (eqb-false n 0 f) (eqb-false (common (bytes ", ") (drop (i + 2 + n) text)) 2 g)) ∙ q in
        let y : i + 2 + n ≡ e = cc z in
        subst (λ (x : ℕ). NamesAt text (suc r) i x) y (last_name text r i h (eqb-false n 0 f))
    go false f true g ih =
        let c = eqb-true (common (bytes ", ") (drop (i + 2 + n) text)) 2 g in
        more-names text r i e h (eqb-false n 0 f) c
        (ih (comma-fits text (i + 2 + n) (fits-there text (i + 2) h) c) (sym (names-turn text r i {n = n} refl (i + 2 + n) (omega arith) (eqb-false n 0 f) c) ∙ q))
