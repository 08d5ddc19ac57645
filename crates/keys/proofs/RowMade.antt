-- Rows of names in a text: a written context is one, and so are key names with `, ` between two.
use Prim.Native.Nat.{ℕ, zero, suc, ◌+◌, ◌<◌, ◌≤◌}
use native.Mathlib.Omega.{arith}
use mathlib.Core.Path.{◌≡◌, refl, sym, ◌∙◌, ap, ap₂, subst}
use mathlib.Core.Bool.{true, false}
use mathlib.Core.List.{List, [], ◌∷◌, ◌++◌, append_assoc}
use lib.ListN.{length, drop, take, length-append}
use lib.Seq.{slice, take-add, drop_at, length-take-le, take-append_seam}
use Rattle.xml.specs.Bytes.{Bytes, bytes, all, is_name, is_name_byte, join_by, bytes_compute}
use Rattle.xml.specs.Read.{name_len}
use Rattle.xml.specs.Names.{name-all, name-some}
use Rattle.xml.specs.Truth.{and_left, and_right}
use Rattle.keys.specs.KeyList.{Path, write_path, write_context}
use Rattle.keys.specs.Rows.{Row, row-none, row-name}
use Rattle.keys.proofs.RowLaws.{row_next}
use Rattle.keys.proofs.LineScanLaws.{past, past_one, past_fits, path-head}

-- the part of a text where a word stands
pub part-there : (a : ℕ) (text w s : Bytes) → a ≤ length text → drop a text ≡ w ++ s → slice a (a + length w) text ≡ w
part-there a text w s h e =
    ap (drop a) (take-add a (length w) text) ∙ drop_at (take a text) (take (length w) (drop a text)) a (length-take-le a text h) ∙ ap (take (length w)) e ∙ take-append_seam w s

some-name : (n : Bytes) → is_name n ≡ true → 0 < length n
some-name n h = go (length n) refl
  where
    go : (l : ℕ) → length n ≡ l → 0 < l
    go zero e = absurd (name-some n h e)
    go (suc l) e = omega arith

pub row-names : (text : Bytes) (e i : ℕ) (ns : List Bytes) (s : Bytes) → all is_name ns ≡ true → i + 2 ≤ length text → drop (i + 2) text ≡ join_by (bytes ", ") ns ++ 125 ∷ s
    → e ≡ i + 2 + length (join_by (bytes ", ") ns) → Row 2 text e i ns
unfolding join_by all bytes_compute
row-names text e i [] s a h q z = row-none {i = i} (omega arith) (omega arith) (omega arith)
row-names text e i (n ∷ []) s a h q z =
    let nm = and_left (is_name n) true a in
    let f = past_fits (i + 2) text n (125 ∷ s) h q in
    row-name {i = i} (ap name_len q ∙ name-all n 125 s nm refl) (part-there (i + 2) text n (125 ∷ s) h q) (some-name n nm) (omega arith) (row-none {i = i + 2 + length n} (omega arith) (omega arith) (omega arith))
row-names text e i (n ∷ m ∷ ns) s a h q z =
    let nm = and_left (is_name n) (all is_name (m ∷ ns)) a in
    let j = join_by (bytes ", ") (m ∷ ns) in
    let x : drop (i + 2) text ≡ n ++ (bytes ", " ++ (j ++ 125 ∷ s)) = q ∙ append_assoc (n ++ bytes ", ") j (125 ∷ s) ∙ append_assoc n (bytes ", ") (j ++ 125 ∷ s) in
    let y : drop (i + 2 + length n) text ≡ bytes ", " ++ (j ++ 125 ∷ s) = past (i + 2) text n (bytes ", " ++ (j ++ 125 ∷ s)) x in
    let f = past_fits (i + 2) text n (bytes ", " ++ (j ++ 125 ∷ s)) h x in
    let g : i + 2 + length n + 2 ≤ length text = past_fits (i + 2 + length n) text (bytes ", ") (j ++ 125 ∷ s) f y in
    let w : e ≡ i + 2 + length n + 2 + length j = omega (arith, length-append (n ++ bytes ", ") j, length-append n (bytes ", ")) in
    row-name {i = i} (ap name_len x ∙ name-all n 44 (32 ∷ (j ++ 125 ∷ s)) nm refl) (part-there (i + 2) text n (bytes ", " ++ (j ++ 125 ∷ s)) h x) (some-name n nm) (omega arith)
    (row-names text e (i + 2 + length n) (m ∷ ns) s (and_right (is_name n) (all is_name (m ∷ ns)) a) g (past (i + 2 + length n) text (bytes ", ") (j ++ 125 ∷ s) y) w)

row-path : (text : Bytes) (e i : ℕ) (p : Path) (s : Bytes) → all is_name p ≡ true → i ≤ length text → drop i text ≡ write_path p ++ 44 ∷ s → e ≡ i + length (write_path p) → Row 1 text e i p
unfolding write_path all bytes_compute
row-path text e i [] s a h q z = row-none {i = i} (omega arith) (omega arith) (omega arith)
row-path text e i (n ∷ p) s a h q z =
    let nm = and_left (is_name n) (all is_name p) a in
    let r = write_path p ++ 44 ∷ s in
    let u = path-head p 44 s refl in
    let x : drop i text ≡ 47 ∷ (n ++ r) = q ∙ ap (λ (y : Bytes). 47 ∷ y) (append_assoc n (write_path p) (44 ∷ s)) in
    let y : drop (i + 1) text ≡ n ++ r = past_one i 47 text (n ++ r) x in
    let f : i + 1 ≤ length text = past_fits i text (47 ∷ []) (n ++ r) h x in
    let g = past_fits (i + 1) text n r f y in
    let w : e ≡ i + 1 + length n + length (write_path p) = omega (arith, length-append n (write_path p)) in
    row-name {i = i} (ap name_len y ∙ ap (λ (t : Bytes). name_len (n ++ t)) u.2 ∙ name-all n u.0 u.1 nm u.3) (part-there (i + 1) text n r f y) (some-name n nm) (omega arith)
    (row-path text e (i + 1 + length n) p s (and_right (is_name n) (all is_name p) a) g (past (i + 1) text n r y) w)

pub row-context : (text : Bytes) (e i : ℕ) (p : Path) (s : Bytes) → all is_name p ≡ true → i ≤ length text → drop i text ≡ write_context p ++ 44 ∷ s → e ≡ i + length (write_context p) → Row 1 text e i p
unfolding write_context bytes
row-context text e i [] s a h q z = let f : i + 1 ≤ length text = past_fits i text (47 ∷ []) (44 ∷ s) h q in row-none {i = i} (omega arith) (omega arith) (omega arith)
row-context text e i (n ∷ p) s a h q z = row-path text e i (n ∷ p) s a h q z

-- ---- a row whose first names are known
pub record After (text : Bytes) (e j : ℕ) (q p : Path) : Type 0 where
  pub rest : Path
  pub joined : q ++ rest ≡ p
  pub row : Row 1 text e j rest

pub row-after : (text : Bytes) (e j : ℕ) (q : Path) (i : ℕ) {p : Path} → all is_name q ≡ true → i ≤ length text → drop i text ≡ write_path q ++ drop j text → j ≡ i + length (write_path q)
    → (0 < length q → (x : ℕ) × (u : Bytes) × (drop j text ≡ x ∷ u) × (is_name_byte x ≡ false)) → j ≤ e → Row 1 text e i p → After text e j q p
unfolding write_path all bytes
row-after text e j [] i {p} a h q z f l r = let y : i ≡ j = omega arith in record { rest = p; joined = refl; row = subst (λ (x : ℕ). Row 1 text e x p) y r }
row-after text e j (n ∷ p) i a h q z f l r =
    let nm = and_left (is_name n) (all is_name p) a in
    let t = write_path p ++ drop j text in
    let g = f (omega arith) in
    let u = path-head p g.0 g.1 g.3 in
    let x : drop i text ≡ 47 ∷ (n ++ t) = q ∙ ap (λ (y : Bytes). 47 ∷ y) (append_assoc n (write_path p) (drop j text)) in
    let y : drop (i + 1) text ≡ n ++ t = past_one i 47 text (n ++ t) x in
    let b : i + 1 ≤ length text = past_fits i text (47 ∷ []) (n ++ t) h x in
    let k : length n ≡ name_len (drop (i + 1) text) = sym (ap name_len (y ∙ ap (λ (s : Bytes). n ++ (write_path p ++ s)) g.2 ∙ ap (λ (s : Bytes). n ++ s) u.2) ∙ name-all n u.0 u.1 nm u.3) in
    let m : j ≡ i + 1 + length n + length (write_path p) = omega (arith, length-append n (write_path p)) in
    let o = row_next r (omega (arith, some-name n nm)) k in
    let w = row-after text e j p (i + 1 + length n) (and_right (is_name n) (all is_name p) a) (past_fits (i + 1) text n t b y) (past (i + 1) text n t y) m (λ _. g) l o.row in
    record {
      rest = w.rest;
      joined = ap₂ (λ (s : Bytes) (v : Path). s ∷ v) (sym (part-there (i + 1) text n t b y) ∙ o.part) w.joined ∙ sym o.is;
      row = w.row;
    }
