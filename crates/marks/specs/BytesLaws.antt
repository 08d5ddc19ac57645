-- Laws of the loops between a table and its 608 bytes, and the promise that the two forms are one.
use Rattle.std.specs.Prelude.{ℕ, zero, suc, ◌+◌, ◌*◌, ◌/◌, ◌%◌, ◌≤◌, ◌<◌, ◌≡◌, refl, List, [], ◌∷◌, ◌++◌, length, take, drop, set}
use Rattle.std.proofs.Common.{arith, add-one, ◌∙◌, append-nil, append_assoc, length-drop, length-set, take-append-drop, drop_of_length-le, get_or-drop, drop-drop, take-suc, take_at, drop_at, take_all, eq-eqb, ne_eqb}
use Rattle.std.proofs.Math.Path.{sym, ap}
use Rattle.std.proofs.Math.ListN.{get_or, length-append}
use Rattle.std.proofs.Math.Seq.{get_or-append-add, drop-append-add, paste, paste-suc}
use Rattle.std.proofs.lemmas.Slice.{put_mid-paste}
use borrow.Rule.Slice.PartMut.{put_mid}
use Rattle.std.specs.Int.{w16, from_le_bytes, to_le_bytes}
use Rattle.std.proofs.lemmas.Nat.{le_bytes_2}
use Rattle.xml.specs.Bytes.{Bytes}
use Rattle.marks.specs.declared.Mark.{Mark}
use Rattle.marks.specs.declared.Table.{Table}
use Rattle.keys.specs.Result.{refused, r17}
use Rattle.marks.specs.Marks.{is_table, marks_in, entry_bytes, table_bytes, mark_of, marks_from, table_in, marks_compute}
use Rattle.marks.specs.Passed.{LendsAs, wrongs, unreadable}
use Rattle.marks.specs.Lent.{past, over, blanks}
use Rattle.marks.specs.LentLaws.{over-next, blanks-length}

-- ---- the two bytes of a version
pub two-read : (a b : ℕ) → from_le_bytes w16 (a ∷ b ∷ []) ≡ a + 256 * b
two-read a b = omega arith

pub two-written : (v : ℕ) → v < 65536 → to_le_bytes w16 v ≡ v % 256 ∷ v / 256 ∷ []
two-written v h = le_bytes_2 (v % 256 ∷ v / 256 ∷ []) v refl bytes (omega arith)
  where
    bytes : (i : ℕ) → get_or (v % 256 ∷ v / 256 ∷ []) i 0 < 256
    bytes zero = omega arith
    bytes (suc zero) = omega arith
    bytes (suc (suc i)) = omega arith

-- ---- an entry of 19 bytes
pub mark-read : (s : Bytes) (at : ℕ) (b : List ℕ) (v : ℕ) → b ≡ take 16 (drop at s) → v ≡ get_or s (at + 17) 0 + 256 * get_or s (at + 18) 0
    → ◌≡◌ {A = Mark} (record { name = b; len = get_or s (at + 16) 0; version = v }) (mark_of (drop at s))
unfolding mark_of
mark-read s at b v e f = rw (e, f, get_or-drop at s 16 0, get_or-drop at s 17 0, get_or-drop at s 18 0) refl

-- ---- the table of 608
marks-length : (k : ℕ) (s : Bytes) → length (marks_from k s) ≡ k
unfolding marks_from
marks-length zero s = refl
marks-length (suc k) s = ap suc (marks-length k (drop 19 s))

marks-at : (k i : ℕ) (s : Bytes) → i < k → get_or (marks_from k s) i past ≡ mark_of (drop (i * 19) s)
unfolding marks_from
marks-at zero i s h = absurd (omega arith)
marks-at (suc k) zero s h = refl
marks-at (suc k) (suc i) s h =
    let e : 19 + i * 19 ≡ suc i * 19 = omega arith in
    marks-at k i (drop 19 s) (omega arith) ∙ ap mark_of (drop-drop (i * 19) 19 s ∙ ap (λ n. drop n s) e)

pub table-long : (s : Bytes) → length s ≡ 608 → table_in s ≡ marks_from 32 s
unfolding table_in
table-long s h = rw (eq-eqb (length s) 608 h, table_in) refl

pub table-short : (s : Bytes) → (length s ≡ 608 → ⊥) → table_in s ≡ []
unfolding table_in
table-short s h = rw (ne_eqb (length s) 608 h, table_in) refl

module _ (s : Bytes) (h : length s ≡ 608) where
  pub read_next : (ms : List Mark) (m : Mark) (i : ℕ) → i < 32 → ms ≡ over i (marks_from 32 s) blanks → m ≡ mark_of (drop (i * 19) s) → set ms i m ≡ over (i + 1) (marks_from 32 s) blanks
  read_next ms m i l e f =
      let a : i < length (marks_from 32 s) = omega (arith, marks-length 32 s) in
      let c : i < length blanks = omega (arith, blanks-length) in
      ap (λ x. set x i m) e ∙ ap (set (over i (marks_from 32 s) blanks) i) (f ∙ sym (marks-at 32 i s l)) ∙ over-next i (marks_from 32 s) blanks past a c

  pub read-end : (ms : List Mark) (i : ℕ) → i ≤ 32 → 32 ≤ i → ms ≡ over i (marks_from 32 s) blanks → LendsAs s (record { held = ms; size = 32 })
  read-end ms i j k e =
      let n : i ≡ 32 = omega arith in
      let l : length (marks_from 32 s) ≤ 32 = omega (arith, marks-length 32 s) in
      let b : length blanks ≤ 32 = omega (arith, blanks-length) in
      let d : drop 32 blanks ≡ [] = drop_of_length-le blanks b in
      let m : ms ≡ marks_from 32 s = e ∙ rw (n, d, take_all 32 (marks_from 32 s) l) (append-nil (marks_from 32 s)) in
      let t : ms ≡ table_in s = m ∙ sym (table-long s h) in
      record {
        whole = λ n. ap (marks_in n) t;
        lent = λ n. ap (λ x. marks_in n (take 32 x)) m ∙ ap (marks_in n) (take_all 32 (marks_from 32 s) l ∙ sym (table-long s h));
        same = λ z. (t, refl);
        few = omega arith;
      }

-- bytes of another number: 17 on both sides
nothing-refused : (n : ℕ) → marks_in n [] ≡ refused r17
unfolding marks_in is_table
nothing-refused n = refl

wrongs-refused : (n : ℕ) → marks_in n wrongs ≡ refused r17
unfolding marks_compute wrongs
wrongs-refused n = refl

pub read_short : (s : Bytes) (r : Table) → (length s ≡ 608 → ⊥) → r ≡ unreadable → LendsAs s r
read_short s r h e = rw (e) (record {
  whole = λ n. wrongs-refused n ∙ sym (other n);
  lent = λ n. nothing-refused n ∙ sym (other n);
  same = λ z. absurd (h z);
  few = omega arith;
})
  where
    other : (n : ℕ) → marks_in n (table_in s) ≡ refused r17
    other n = ap (marks_in n) (table-short s h) ∙ nothing-refused n

-- ---- writing
put-two : (i : ℕ) (l : Bytes) (a b : ℕ) → i + 2 ≤ length l → put_mid i 2 l (a ∷ b ∷ []) ≡ set (set l i a) (suc i) b
put-two zero [] a b h = absurd (omega arith)
put-two zero (x ∷ []) a b h = absurd (omega arith)
put-two zero (x ∷ y ∷ l) a b h = refl
put-two (suc i) [] a b h = absurd (omega arith)
put-two (suc i) (x ∷ l) a b h = ap (λ r. x ∷ r) (put-two i l a b (omega arith))

module _ (m : Mark) (h : length m.name ≡ 16) where
  pub entry_length : length (entry_bytes m) ≡ 19
  unfolding entry_bytes
  entry_length = rw length-append (rw h refl)

  name-first : take 16 m.name ≡ take 16 (entry_bytes m)
  unfolding entry_bytes
  name-first = take_all 16 m.name (omega arith) ∙ sym (take_at m.name (m.len ∷ m.version % 256 ∷ m.version / 256 ∷ []) 16 h)

  byte-after : (k : ℕ) → get_or (entry_bytes m) (16 + k) 0 ≡ get_or (m.len ∷ m.version % 256 ∷ m.version / 256 ∷ []) k 0
  unfolding entry_bytes
  byte-after k = ap (λ i. get_or (entry_bytes m) (i + k) 0) (sym h) ∙ get_or-append-add m.name (m.len ∷ m.version % 256 ∷ m.version / 256 ∷ []) k 0

  module _ (out : Bytes) (at : ℕ) (l : at + 19 ≤ length out) where
    put_byte : (now : Bytes) (j : ℕ) (b : ℕ) → j < 19 → now ≡ paste out at (entry_bytes m) j → b ≡ get_or (entry_bytes m) j 0 → set now (at + j) b ≡ paste out at (entry_bytes m) (j + 1)
    put_byte now j b k e f =
        let g = entry_length in
        let p : at + j < length out = omega arith in
        let q : j < length (entry_bytes m) = omega arith in
        ap (λ x. set x (at + j) b) e ∙ ap (set (paste out at (entry_bytes m) j) (at + j)) f ∙ paste-suc out at (entry_bytes m) j 0 p q ∙ ap (paste out at (entry_bytes m)) (sym (add-one j))

    pub put-name : (k : ℕ) (s : Bytes) → 16 ≡ k → s ≡ m.name → put_mid at k out s ≡ paste out at (entry_bytes m) 16
    put-name k s e f = put_mid-paste at k out s m.name 16 f e (sym h) ∙ ap (λ x. take at out ++ x ++ drop (at + 16) out) name-first

    put_rest : (now : Bytes) → now ≡ paste out at (entry_bytes m) 16
        → set (set (set now (at + 16) m.len) (at + 17) (m.version % 256)) (at + 18) (m.version / 256) ≡ paste out at (entry_bytes m) 19
    put_rest now e =
        let f : set now (at + 16) m.len ≡ paste out at (entry_bytes m) 17 = put_byte now 16 m.len (omega arith) e (sym (byte-after 0)) in
        let g : set (set now (at + 16) m.len) (at + 17) (m.version % 256) ≡ paste out at (entry_bytes m) 18 = put_byte _ 17 (m.version % 256) (omega arith) f (sym (byte-after 1)) in
        put_byte _ 18 (m.version / 256) (omega arith) g (sym (byte-after 2))

    pub put-version : (now : Bytes) (k : ℕ) (b : Bytes) → now ≡ paste out at (entry_bytes m) 16 → at + 19 ≤ length now → 2 ≡ k → b ≡ m.version % 256 ∷ m.version / 256 ∷ []
        → put_mid (at + 17) k (set now (at + 16) m.len) b ≡ paste out at (entry_bytes m) 19
    put-version now k b e n f g =
        let s = set now (at + 16) m.len in
        let h : at + 17 + 2 ≤ length s = rw length-set (omega arith) in
        let j : suc (at + 17) ≡ at + 18 = omega arith in
        rw (← f, g) (put-two (at + 17) s (m.version % 256) (m.version / 256) h ∙ ap (λ i. set (set s (at + 17) (m.version % 256)) i (m.version / 256)) j ∙ put_rest now e)

append-end : (ms : List Mark) (m : Mark) → table_bytes (ms ++ m ∷ []) ≡ table_bytes ms ++ entry_bytes m
unfolding table_bytes
append-end [] m = append-nil (entry_bytes m)
append-end (x ∷ ms) m = ap (λ l. entry_bytes x ++ l) (append-end ms m) ∙ sym (append_assoc (entry_bytes x) (table_bytes ms) (entry_bytes m))

-- what the output holds after i entries
pub record Put (ms : List Mark) (i : ℕ) (out now : Bytes) : Type 0 where
  pub bytes : now ≡ table_bytes (take i ms) ++ drop (i * 19) out
  pub size : length (table_bytes (take i ms)) ≡ i * 19

pub put-start : (ms : List Mark) (out : Bytes) → Put ms 0 out out
unfolding table_bytes
put-start ms out = record { bytes = refl; size = refl }

pub put-length : (ms : List Mark) (i : ℕ) (out now : Bytes) → i ≤ 32 → length out ≡ 608 → Put ms i out now → length now ≡ 608
put-length ms i out now l h p = ap length p.bytes ∙ rw (length-append, length-drop, p.size) (omega arith)

pub put_next : (ms : List Mark) (i : ℕ) (out now then : Bytes) (m : Mark) → i < 32 → length ms ≡ 32 → length out ≡ 608 → m ≡ get_or ms i past → length (entry_bytes m) ≡ 19 → Put ms i out now → then ≡ paste now (i * 19) (entry_bytes m) 19
    → Put ms (i + 1) out then
put_next ms i out now then m l n h e g p f =
    let A = table_bytes (take i ms) in
    let t : take (i + 1) ms ≡ take i ms ++ m ∷ [] = ap (λ x. take x ms) (add-one i) ∙ take-suc ms i past (omega arith) ∙ ap (λ x. take i ms ++ x ∷ []) (sym e) in
    let w : table_bytes (take (i + 1) ms) ≡ A ++ entry_bytes m = ap table_bytes t ∙ append-end (take i ms) m in
    let a : take (i * 19) now ≡ A = ap (take (i * 19)) p.bytes ∙ take_at A (drop (i * 19) out) (i * 19) p.size in
    let b : drop (i * 19 + 19) now ≡ drop ((i + 1) * 19) out =
    ap (drop (i * 19 + 19)) p.bytes ∙ ap (λ k. drop (k + 19) (A ++ drop (i * 19) out)) (sym p.size) ∙ drop-append-add A (drop (i * 19) out) 19 ∙ drop-drop 19 (i * 19) out ∙ ap (λ k. drop k out) (more i) in
    record {
      bytes = f ∙ ap (λ x. x ++ take 19 (entry_bytes m) ++ drop (i * 19 + 19) now) a ∙ ap (λ x. A ++ x ++ drop (i * 19 + 19) now) (take_all 19 (entry_bytes m) (omega arith)) ∙ ap (λ x. A ++ entry_bytes m ++ x) b ∙ ap (λ x. x ++ drop ((i + 1) * 19) out) (sym w);
      size = ap length w ∙ rw (length-append, p.size, g) (more i);
    }
  where
    more : (i : ℕ) → i * 19 + 19 ≡ (i + 1) * 19
    more i = omega arith

pub put-end : (ms : List Mark) (i : ℕ) (out now : Bytes) → i ≤ 32 → 32 ≤ i → length ms ≡ 32 → length out ≡ 608 → Put ms i out now → now ≡ table_bytes ms
put-end ms i out now j k n h p =
    let d : drop (i * 19) out ≡ [] = none_left out (i * 19) (omega arith) in
    p.bytes ∙ ap (λ x. table_bytes (take i ms) ++ x) d ∙ append-nil (table_bytes (take i ms)) ∙ ap table_bytes (take_all i ms (omega arith))
  where
    none_left : (l : Bytes) (i : ℕ) → length l ≤ i → drop i l ≡ []
    none_left l i h = drop_of_length-le l h

-- ---- a table and its bytes are the same thing
-- an entry that a byte string can hold: 16 name bytes, and a version of two bytes (a length is one byte whatever it is)
abbrev pub Fits : Mark → Type 0
Fits m = (length m.name ≡ 16) × (m.version < 65536)

version-whole : (v : ℕ) → v % 256 + 256 * (v / 256) ≡ v
version-whole v = omega arith

mark-back : (m : Mark) (rest : Bytes) → Fits m → mark_of (entry_bytes m ++ rest) ≡ m
unfolding mark_of entry_bytes
mark-back m rest f =
    let tail = m.len ∷ m.version % 256 ∷ m.version / 256 ∷ [] in
    let whole : (m.name ++ tail) ++ rest ≡ m.name ++ (tail ++ rest) = append_assoc m.name tail rest in
    let n : take 16 (m.name ++ (tail ++ rest)) ≡ m.name = take_at m.name (tail ++ rest) 16 f.0 in
    let g : (k : ℕ) → get_or (m.name ++ (tail ++ rest)) (16 + k) 0 ≡ get_or (tail ++ rest) k 0 = λ k. ap (λ j. get_or (m.name ++ (tail ++ rest)) (j + k) 0) (sym f.0) ∙ get_or-append-add m.name (tail ++ rest) k 0 in
    ap mark_of' whole ∙ together n (g 0) (ap (λ x. x + 256 * get_or (m.name ++ (tail ++ rest)) 18 0) (g 1) ∙ ap (λ x. m.version % 256 + 256 * x) (g 2) ∙ version-whole m.version)
  where
    mark_of' : Bytes → Mark
    mark_of' s = record { name = take 16 s; len = get_or s 16 0; version = get_or s 17 0 + 256 * get_or s 18 0 }

    together : {m n : List ℕ} {k l v w : ℕ} → m ≡ n → k ≡ l → v ≡ w → ◌≡◌ {A = Mark} (record { name = m; len = k; version = v }) (record { name = n; len = l; version = w })
    together p q r = rw (p, q, r) refl

pub data AllFit : List Mark → Type 0 where
  no_more : AllFit []
  one_more : {m : Mark} {ms : List Mark} → Fits m → AllFit ms → AllFit (m ∷ ms)

pub marks-back : {ms : List Mark} → AllFit ms → marks_from (length ms) (table_bytes ms) ≡ ms
unfolding marks_from table_bytes
marks-back no_more = refl
marks-back (one_more {m} {ms} f r) =
    let d : drop 19 (entry_bytes m ++ table_bytes ms) ≡ table_bytes ms = drop_at (entry_bytes m) (table_bytes ms) 19 (entry_length m f.0) in
    rw (mark-back m (table_bytes ms) f, d, marks-back r) refl

pub table-length : {ms : List Mark} → AllFit ms → length (table_bytes ms) ≡ length ms * 19
unfolding table_bytes
table-length no_more = refl
table-length (one_more {m} {ms} f r) =
    let e : length (entry_bytes m ++ table_bytes ms) ≡ length (entry_bytes m) + length (table_bytes ms) = length-append (entry_bytes m) (table_bytes ms) in
    let g = entry_length m f.0 in
    let h = table-length r in
    omega arith

-- and the other way round, for bytes below 256
entry-back : (s : Bytes) → 19 ≤ length s → ((i : ℕ) → get_or s i 0 < 256) → entry_bytes (mark_of s) ≡ take 19 s
unfolding entry_bytes mark_of
entry-back s h b =
    let l = b 17 in
    let m = b 18 in
    let p : (get_or s 17 0 + 256 * get_or s 18 0) % 256 ≡ get_or s 17 0 = omega arith in
    let q : (get_or s 17 0 + 256 * get_or s 18 0) / 256 ≡ get_or s 18 0 = omega arith in
    rw (p, q) (sym (take-suc s 18 0 (omega arith) ∙ ap (λ x. x ++ get_or s 18 0 ∷ []) (take-suc s 17 0 (omega arith) ∙ ap (λ x. x ++ get_or s 17 0 ∷ []) (take-suc s 16 0 (omega arith))) ∙ flat (take 16 s)))
  where
    flat : (l : Bytes) → ((l ++ get_or s 16 0 ∷ []) ++ get_or s 17 0 ∷ []) ++ get_or s 18 0 ∷ [] ≡ l ++ get_or s 16 0 ∷ get_or s 17 0 ∷ get_or s 18 0 ∷ []
    flat [] = refl
    flat (x ∷ l) = ap (λ r. x ∷ r) (flat l)

pub bytes_back : (k : ℕ) (s : Bytes) → length s ≡ k * 19 → ((i : ℕ) → get_or s i 0 < 256) → table_bytes (marks_from k s) ≡ s
unfolding table_bytes marks_from
bytes_back zero [] h b = refl
bytes_back zero (x ∷ s) h b = absurd (omega arith)
bytes_back (suc k) s h b =
    let r = bytes_back k (drop 19 s) (rw length-drop (omega arith)) (λ i. rw (get_or-drop 19 s i 0) (b (19 + i))) in
    rw (entry-back s (omega arith) b, r) (take-append-drop 19 s)
