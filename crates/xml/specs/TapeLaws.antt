-- Laws of the tape: what it says of its first node, what a store elsewhere leaves as it is, and how it is written.
use Rattle.std.specs.Prelude.{ℕ, zero, suc, ◌+◌, ◌*◌, ◌-◌, ◌%◌, ◌<◌, ◌≤◌, ◌≡◌, Bool, true, false, eqb, take, drop, get_or, Result, Ok, Err}
use Prim.Native.Char.{code}
use Rattle.std.proofs.Math.Path.{refl, ap}
use Rattle.std.proofs.Common.{sym, ◌∙◌, zero-add, suc-add}
use mathlib.Core.List.{List, [], ◌∷◌, ◌++◌, append-nil, append_assoc}
use native.Mathlib.Omega.{arith}
use Rattle.std.proofs.Math.ListN.{length, length-append}
use Rattle.std.proofs.Math.Seq.{slice, length-slice, take-nil}
use borrow.Author.Tests.{eq-eqb, ne_eqb, eqb-true}
use Rattle.xml.specs.Bytes.{Bytes, bytes}
use Rattle.xml.specs.Forest.{Forest, end, elem, text, stamp, join, write, escape}
use Rattle.xml.specs.Read.{entity_at, unescape}
use Rattle.xml.specs.Over.{Wrote}
use Rattle.xml.specs.OverLaws.{wrote_none, wrote_then}
use Rattle.xml.specs.Tape.{head_at, next_at, start_in, end_in, Node, Tape, at-end, at-text, at-elem, at-stamp, size, Writes}
use Rattle.xml.specs.Views.{is_run}
use Rattle.xml.specs.Truth.{both_true}

-- the bytes that name the node p
abbrev pub bytes_at : List ℕ → List ℕ → ℕ → Bytes
bytes_at src cells p = slice (start_in (head_at cells p)) (end_in (head_at cells p)) src

-- a part by its start and its length
pub slice-part : (start count : ℕ) (l : List ℕ) → slice start (start + count) l ≡ take count (drop start l)
slice-part zero count l = rw zero-add refl
slice-part (suc start) count [] = rw suc-add (sym (take-nil count))
slice-part (suc start) count (x ∷ l) = rw suc-add (slice-part start count l)

-- the tags around what a node holds: an element's, or an archive's `T`
unfoldable pub opening : Bool → Bytes → Bytes
opening true n = bytes "<" ++ n ++ bytes ">"
opening false t = bytes "<T t=\"" ++ t ++ bytes "\">"

unfoldable pub closing : Bool → Bytes → Bytes
closing true n = bytes "</" ++ n ++ bytes ">"
closing false t = bytes "</T>"

-- the first of the nodes p to q
pub record Front (src cells : List ℕ) (p q : ℕ) : Type 0 where
  pub held : 2 * p + 1 < length cells
  pub within : end_in (head_at cells p) ≤ length src
  pub forward : p < next_at cells p
  pub inside : next_at cells p ≤ q
  pub kind : head_at cells p % 4 < 3

-- the first node by itself, and the nodes after it
pub record Split (src cells : List ℕ) (p q : ℕ) (f : Forest) : Type 0 where
  pub first : Forest
  pub rest : Forest
  pub here : Tape src cells p (next_at cells p) first
  pub after : Tape src cells (next_at cells p) q rest
  pub is : f ≡ join first rest
  pub written : write f ≡ write first ++ write rest

-- a node that is no text: what is in it, and how it is written
pub record Inner (src cells : List ℕ) (p : ℕ) (f : Forest) : Type 0 where
  pub kids : Forest
  pub tape : Tape src cells (p + 1) (next_at cells p) kids
  pub element : head_at cells p % 4 ≡ 1 → f ≡ elem (bytes_at src cells p) kids end
  pub timed : head_at cells p % 4 ≡ 2 → f ≡ stamp (bytes_at src cells p) kids end
  pub written : write f ≡ opening (eqb (head_at cells p % 4) 1) (bytes_at src cells p) ++ write kids ++ closing (eqb (head_at cells p % 4) 1) (bytes_at src cells p)

-- the nodes p to q are one run of text: its node, and no other
pub record OneRun (src cells : List ℕ) (p q : ℕ) : Type 0 where
  pub run : head_at cells p % 4 ≡ 0
  pub node : Front src cells p q
  pub ends : q ≡ next_at cells p

-- a writer on its way: of `whole`, it has written `done`, and the nodes p to q are left
pub record Rest (src cells : List ℕ) (p q : ℕ) (whole out : List ℕ) (at to : ℕ) (left : List ℕ) : Type 0 where
  pub done : Bytes
  pub rest : Forest
  pub tape : Tape src cells p q rest
  pub all : whole ≡ done ++ write rest
  pub wrote : Wrote out at done to left

-- the cells of the nodes p to q are the same in `new`
pub record Kept (cells new : List ℕ) (p q : ℕ) : Type 0 where
  pub room : 2 * q ≤ length new
  pub same : (i : ℕ) → 2 * p ≤ i → i < 2 * q → get_or new i 0 ≡ get_or cells i 0

pub kept-part : {cells new : List ℕ} {p q p' q' : ℕ} → p ≤ p' → q' ≤ q → Kept cells new p q → Kept cells new p' q'
kept-part h g a = record { room = omega (arith, a.room); same = λ i x y. a.same i (omega arith) (omega arith) }

by_length : {n : ℕ} (t : Bool) (x y : Bytes) → length x ≤ n → length y ≤ n → length {A = ℕ} (elim t [ true ↦ x | false ↦ y ]) ≤ n
by_length true x y h g = h
by_length false x y h g = g

pub length-escape : (s : Bytes) → length (escape s) ≤ 5 * length s
unfolding bytes escape
length-escape [] = omega arith
length-escape (b ∷ s) =
    let i = length-escape s in
    by_length (eqb b (code "&")) _ _ (simp length-append (omega arith))
    (by_length (eqb b (code "<")) _ _ (simp length-append (omega arith))
    (by_length (eqb b (code ">")) _ _ (simp length-append (omega arith)) (omega arith)))

pub length-unescape : (k : ℕ) (s : Bytes) → length (unescape k s) ≤ length s
unfolding unescape
length-unescape k [] = omega arith
length-unescape (suc k) (b ∷ s) = omega (arith, length-unescape k s)
length-unescape zero (b ∷ s) = at (eqb b (code "&")) (eqb b (code "\r")) (eqb (get_or s 0 0) (code "\n")) (entity_at s) (λ n. length-unescape n s)
  where
    at : (t x y : Bool) (o : Result (ℕ × ℕ) ℕ) → ((n : ℕ) → length (unescape n s) ≤ length s) →
        length {A = ℕ} (elim t [
          | false ↦ elim x [ false ↦ b ∷ unescape 0 s | true ↦ elim y [ true ↦ unescape 0 s | false ↦ code "\n" ∷ unescape 0 s ] ]
          | true ↦ elim o [ Ok (n, c) ↦ c ∷ unescape n s | Err n ↦ b ∷ unescape 0 s ]
        ]) ≤ suc (length s)
    at false false y o f = omega (arith, f 0)
    at false true true o f = omega (arith, f 0)
    at false true false o f = omega (arith, f 0)
    at true x y (Ok (n, c)) f = omega (arith, f n)
    at true x y (Err n) f = omega (arith, f 0)

module _ {src cells : List ℕ} where
  pub tape-le : {p q : ℕ} {f : Forest} → Tape src cells p q f → p ≤ q
  tape-le (at-end e) = omega arith
  tape-le (at-text n u e r) = omega (arith, tape-le r)
  tape-le (at-elem n k r) = omega (arith, tape-le k, tape-le r)
  tape-le (at-stamp n k r) = omega (arith, tape-le k, tape-le r)

  -- the nodes are as many as the forest has
  pub tape-size : {p q : ℕ} {f : Forest} → Tape src cells p q f → q ≡ p + size f
  unfolding size
  tape-size (at-end e) = omega arith
  tape-size (at-text n u e r) = omega (arith, tape-size r)
  tape-size (at-elem n k r) = omega (arith, tape-size k, tape-size r)
  tape-size (at-stamp n k r) = omega (arith, tape-size k, tape-size r)

  -- no nodes are no forest
  pub tape-none : {p : ℕ} {f : Forest} → Tape src cells p p f → f ≡ end
  tape-none (at-end e) = refl
  tape-none (at-text n u e r) = absurd (omega (arith, tape-le r))
  tape-none (at-elem n k r) = absurd (omega (arith, tape-le k, tape-le r))
  tape-none (at-stamp n k r) = absurd (omega (arith, tape-le k, tape-le r))

  pub tape-join : {p m q : ℕ} {f g : Forest} → Tape src cells p m f → Tape src cells m q g → Tape src cells p q (join f g)
  unfolding join
  tape-join (at-end e) t = rw e t
  tape-join (at-text n u e r) t = at-text n u e (tape-join r t)
  tape-join (at-elem n k r) t = at-elem n k (tape-join r t)
  tape-join (at-stamp n k r) t = at-stamp n k (tape-join r t)

  -- all nodes lie in the tape
  pub tape-room : {p q : ℕ} {f : Forest} → Tape src cells p q f → 2 * p ≤ length cells → 2 * q ≤ length cells
  tape-room (at-end e) h = omega arith
  tape-room (at-text n u e r) h = tape-room r (omega (arith, n.held))
  tape-room (at-elem n k r) h = tape-room r (tape-room k (omega (arith, n.held)))
  tape-room (at-stamp n k r) h = tape-room r (tape-room k (omega (arith, n.held)))

  pub front : {p q : ℕ} {f : Forest} → Tape src cells p q f → p < q → Front src cells p q
  front (at-end e) l = absurd (omega arith)
  front (at-text n u e r) l = record { held = n.held; within = n.within; forward = omega arith; inside = omega (arith, tape-le r); kind = omega (arith, n.kind-is) }
  front (at-elem n k r) l = record { held = n.held; within = n.within; forward = omega (arith, tape-le k); inside = tape-le r; kind = omega (arith, n.kind-is) }
  front (at-stamp n k r) l = record { held = n.held; within = n.within; forward = omega (arith, tape-le k); inside = tape-le r; kind = omega (arith, n.kind-is) }

  pub one-run : {p q : ℕ} {f : Forest} → Tape src cells p q f → is_run cells p q ≡ true → OneRun src cells p q
  unfolding is_run
  one-run {p} {q} t e =
      let h = both_true (eqb (q - p) 1) (eqb (head_at cells p % 4) 0) e in
      let d = eqb-true (q - p) 1 h.0 in
      let s = front t (omega arith) in
      record { run = eqb-true (head_at cells p % 4) 0 h.1; node = s; ends = omega (arith, s.forward, s.inside) }

  pub split : {p q : ℕ} {f : Forest} → Tape src cells p q f → p < q → Split src cells p q f
  unfolding write join
  split (at-end e) l = absurd (omega arith)
  split (at-text {r = f} n u e r) l = record { first = _; rest = f; here = at-text n u e (at-end (sym e)); after = rw e r; is = refl; written = rw append-nil refl }
  split (at-elem n k r) l = record { first = _; rest = _; here = at-elem n k (at-end refl); after = r; is = refl; written = rw append-nil refl }
  split (at-stamp n k r) l = record { first = _; rest = _; here = at-stamp n k (at-end refl); after = r; is = refl; written = rw append-nil refl }

  pub text-node : {p : ℕ} {f : Forest} → Tape src cells p (next_at cells p) f → p < next_at cells p → head_at cells p % 4 ≡ 0 → f ≡ text (unescape 0 (bytes_at src cells p)) end
  text-node (at-end e) l k = absurd (omega arith)
  text-node (at-text n u e r) l k = rw (n.bytes-are, u, tape-none (rw e at r)) refl
  text-node (at-elem n i r) l k = absurd (omega (arith, n.kind-is))
  text-node (at-stamp n i r) l k = absurd (omega (arith, n.kind-is))

  pub inner-node : {p : ℕ} {f : Forest} → Tape src cells p (next_at cells p) f → p < next_at cells p → (head_at cells p % 4 ≡ 0 → ⊥) → Inner src cells p f
  unfolding write opening closing
  inner-node (at-end e) l k = absurd (omega arith)
  inner-node (at-text n u e r) l k = absurd (k n.kind-is)
  inner-node (at-elem n i r) l k =
      record {
        kids = _;
        tape = i;
        element = λ e. rw (n.bytes-are, tape-none r) refl;
        timed = λ e. absurd (omega (arith, n.kind-is));
        written = rw (eq-eqb _ _ n.kind-is, n.bytes-are, tape-none r) (simp (append-nil, append_assoc));
      }
  inner-node {p} (at-stamp n i r) l k =
      record {
        kids = _;
        tape = i;
        element = λ e. absurd (omega (arith, n.kind-is));
        timed = λ e. rw (n.bytes-are, tape-none r) refl;
        written = rw (ne_eqb (head_at cells p % 4) 1 (omega (arith, n.kind-is)), n.bytes-are, tape-none r) (append-nil _);
      }

  -- a loop over siblings
  pub rest-none : {p q : ℕ} {f : Forest} {out : List ℕ} {at : ℕ} → Tape src cells p q f → Rest src cells p q (write f) out at at out
  rest-none h = record { done = []; rest = _; tape = h; all = refl; wrote = wrote_none }

  pub rest_more : {p q : ℕ} {whole out : List ℕ} {at to r : ℕ} {mid left : List ℕ} → Rest src cells p q whole out at to mid → p < q
      → Writes src cells p (next_at cells p) mid to r left → Rest src cells (next_at cells p) q whole out at r left
  rest_more x l w =
      let s = split x.tape l in
      record {
        done = x.done ++ write s.first;
        rest = s.rest;
        tape = s.after;
        all = x.all ∙ rw s.written (sym (append_assoc x.done (write s.first) (write s.rest)));
        wrote = wrote_then x.wrote (w s.first s.here);
      }

  pub rest-done : {p q : ℕ} {whole out : List ℕ} {at to : ℕ} {left : List ℕ} → Rest src cells p q whole out at to left → q ≤ p → Wrote out at whole to left
  unfolding write
  rest-done {p} {q} x l =
      let e : q ≡ p = omega (arith, tape-le x.tape) in
      rw (x.all, tape-none (rw e at x.tape), append-nil) x.wrote

  pub node-bytes : {p kind : ℕ} {b : Bytes} → Node src cells p kind b → length b ≤ 32767
  node-bytes {p} n = omega (arith, ap length n.bytes-are, length-slice (start_in (head_at cells p)) (end_in (head_at cells p)) src n.within)

  -- a node is written in 163,840 bytes at most
  pub length-write : {p q : ℕ} {f : Forest} → Tape src cells p q f → length (write f) ≤ 163840 * (q - p)
  unfolding write bytes
  length-write (at-end e) = omega arith
  length-write (at-text {raw = raw} {b = b} n u e r) =
      simp length-append (omega (arith, node-bytes n, ap length u, length-unescape 0 raw, length-escape b, length-write r, tape-le r))
  length-write (at-elem n k r) = simp length-append (omega (arith, node-bytes n, length-write k, length-write r, tape-le k, tape-le r))
  length-write (at-stamp n k r) = simp length-append (omega (arith, node-bytes n, length-write k, length-write r, tape-le k, tape-le r))

-- another tape with the same cells is the same forest
module _ {src cells : List ℕ} (new : List ℕ) where
  pub node-same : {p n kind : ℕ} {b : Bytes} → head_at new n ≡ head_at cells p → 2 * n + 1 < length new → Node src cells p kind b → Node src new n kind b
  node-same e l n = record { held = l; kind-is = rw e n.kind-is; within = rw e n.within; bytes-are = rw e n.bytes-are }

  pub tape-same : {p q : ℕ} {f : Forest} → Kept cells new p q → Tape src cells p q f → Tape src new p q f
  tape-same s (at-end e) = at-end e
  tape-same {p} s (at-text n u e r) =
      let o = tape-le r in
      let l = s.room in
      at-text (node-same (s.same (2 * p) (omega arith) (omega arith)) (omega arith) n) u
      (s.same (2 * p + 1) (omega arith) (omega arith) ∙ e)
      (tape-same (kept-part (omega arith) (omega arith) s) r)
  tape-same {p} {q} s (at-elem {k = f} {r = g} n k r) =
      let o = tape-le k in
      let u = tape-le r in
      let l = s.room in
      let x : next_at new p ≡ next_at cells p = s.same (2 * p + 1) (omega arith) (omega arith) in
      at-elem {q = q} {k = f} {r = g} (node-same (s.same (2 * p) (omega arith) (omega arith)) (omega arith) n)
      (rw x (tape-same (kept-part (omega arith) (omega arith) s) k))
      (rw x (tape-same (kept-part (omega arith) (omega arith) s) r))
  tape-same {p} {q} s (at-stamp {k = f} {r = g} n k r) =
      let o = tape-le k in
      let u = tape-le r in
      let l = s.room in
      let x : next_at new p ≡ next_at cells p = s.same (2 * p + 1) (omega arith) (omega arith) in
      at-stamp {q = q} {k = f} {r = g} (node-same (s.same (2 * p) (omega arith) (omega arith)) (omega arith) n)
      (rw x (tape-same (kept-part (omega arith) (omega arith) s) k))
      (rw x (tape-same (kept-part (omega arith) (omega arith) s) r))

-- the nodes determine the forest
module _ {src cells : List ℕ} where
  node-one : {p kind : ℕ} {b c : Bytes} → Node src cells p kind b → Node src cells p kind c → b ≡ c
  node-one n m = sym n.bytes-are ∙ m.bytes-are

  pub tape-one : {p q : ℕ} {f g : Forest} → Tape src cells p q f → Tape src cells p q g → f ≡ g
  tape-one {p} (at-end e) t = sym (tape-none (rw (← e) at t))
  tape-one {p} (at-text n u e r) (at-end d) = absurd (omega (arith, tape-le r))
  tape-one {p} (at-text {b = b} {r = f} n u e r) (at-text {b = c} {r = g} m v d s) =
      let x : b ≡ c = sym u ∙ ap (unescape 0) (node-one n m) ∙ v in
      let y = tape-one r s in
      cc
  tape-one {p} (at-text n u e r) (at-elem m k s) = absurd (omega (arith, n.kind-is, m.kind-is))
  tape-one {p} (at-text n u e r) (at-stamp m k s) = absurd (omega (arith, n.kind-is, m.kind-is))
  tape-one {p} (at-elem n k r) (at-end d) = absurd (omega (arith, tape-le k, tape-le r))
  tape-one {p} (at-elem n k r) (at-text m v d s) = absurd (omega (arith, n.kind-is, m.kind-is))
  tape-one {p} (at-elem n k r) (at-elem m l s) =
      let x = node-one n m in
      let y = tape-one k l in
      let z = tape-one r s in
      cc
  tape-one {p} (at-elem n k r) (at-stamp m l s) = absurd (omega (arith, n.kind-is, m.kind-is))
  tape-one {p} (at-stamp n k r) (at-end d) = absurd (omega (arith, tape-le k, tape-le r))
  tape-one {p} (at-stamp n k r) (at-text m v d s) = absurd (omega (arith, n.kind-is, m.kind-is))
  tape-one {p} (at-stamp n k r) (at-elem m l s) = absurd (omega (arith, n.kind-is, m.kind-is))
  tape-one {p} (at-stamp n k r) (at-stamp m l s) =
      let x = node-one n m in
      let y = tape-one k l in
      let z = tape-one r s in
      cc
