-- The context of a line: as far as the line before it tells, and the names that are left.
use Prim.Native.Nat.{ℕ, ◌+◌, ◌-◌, ◌<◌, ◌≤◌}
use native.Mathlib.Omega.{arith}
use mathlib.Core.Path.{◌≡◌, refl, sym, ◌∙◌, ap, ap₂}
use mathlib.Core.Bool.{Bool, true, false, ◌&&◌, ◌||◌}
use mathlib.Core.List.{List, [], ◌∷◌, ◌++◌, append_assoc}
use lib.Dec.{eqb}
use lib.ListN.{length, get_or, take, drop, length-append, length-drop, take-append-drop, drop_of_length-le}
use lib.Seq.{slice, length-slice, drop-drop, drop-cons}
use borrow.Author.Tests.{eqb-true, eq-eqb, ne_eqb}
use Rattle.model.specs.Masks.{clash}
use Rattle.xml.specs.Bytes.{Bytes, all, same, is_name, is_name_byte, bytes_compute}
use Rattle.xml.specs.BytesLaws.{same-is}
use Rattle.xml.specs.TapeLaws.{slice-part}
use Rattle.xml.specs.Truth.{by-test, and_left, and_right, both}
use Rattle.keys.specs.ResultLaws.{ok-inj}
use Rattle.keys.specs.KeyList.{Path, Key, KeyList, path, write_path}
use Rattle.keys.specs.SpellLaws.{path-next, all_append}
use Rattle.keys.specs.Table.{place_of, Table}
use Rattle.keys.specs.PlaceLaws.{place-root}
use Rattle.keys.specs.Rows.{Rowed}
use Rattle.keys.specs.LineScans.{path_run, Begun}
use Rattle.keys.specs.Contexts.{LastIs, stops, stands_whole, KnownIs, Contexting}
use Rattle.keys.specs.declared.contexts.Known.{Known}
use Rattle.keys.specs.declared.contexts.Last.{Last}
use Rattle.keys.proofs.RowLaws.{row_one}
use Rattle.keys.proofs.LineScanLaws.{past_one, past_fits, run-through, run-path}
use Rattle.keys.proofs.LineReadLaws.{not_root}
use Rattle.keys.proofs.RowMade.{After, row-after}
use Rattle.keys.proofs.LineParts.{context-then, context-row}
use Rattle.keys.proofs.LoadSteps.{Counted, Walked}

-- ---- bytes that stand at a place too
and-false : (b : Bool) → (b && false) ≡ false
and-false true = refl
and-false false = refl

-- no name goes on there
stops-off : (s : Bytes) → stops s ≡ true → (x : ℕ) × (u : Bytes) × (s ≡ x ∷ u) × (is_name_byte x ≡ false)
unfolding bytes_compute
stops-off [] e = absurd (clash e refl)
stops-off (b ∷ s) e = (
  b,
  s,
  refl,
  by-test (eqb b 44) (λ f. ap is_name_byte (eqb-true b 44 f)) (λ f. ap is_name_byte (eqb-true b 47 (sym (ap (λ (t : Bool). t || eqb b 47) f) ∙ e))),
)

whole_is : (w s : Bytes) → stands_whole w s ≡ true → (s ≡ w ++ drop (length w) s) × (stops (drop (length w) s) ≡ true)
whole_is w s e = (
  sym (take-append-drop (length w) s) ∙ ap (λ (z : Bytes). z ++ drop (length w) s) (same-is (take (length w) s) w (and_left (same (take (length w) s) w) (stops (drop (length w) s)) e)),
  and_right (same (take (length w) s) w) (stops (drop (length w) s)) e,
)

module _ (text : Bytes) (at a e : ℕ) (k : e ≤ length text) where
  abbrev w : Bytes
  w = slice a e text

  long : length w ≡ e - a
  long = length-slice a e text k

  pub whole-short : length text - at ≤ e - a → stands_whole w (drop at text) ≡ false
  whole-short f =
      let z : length (drop at text) ≤ length w = omega (arith, long, length-drop at text) in
      ap (λ (s : Bytes). same (take (length w) (drop at text)) w && stops s) (drop_of_length-le (drop at text) z)
      ∙ and-false (same (take (length w) (drop at text)) w)

  whole-first : {b : Bool} → same (slice at (at + (e - a)) text) w ≡ b → stands_whole w (drop at text) ≡ (b && stops (drop (length w) (drop at text)))
  whole-first f =
      let x : slice at (at + (e - a)) text ≡ take (length w) (drop at text) = slice-part at (e - a) text ∙ ap (λ (n : ℕ). take n (drop at text)) (sym long) in
      ap (λ (b : Bool). b && stops (drop (length w) (drop at text))) (ap (λ (s : Bytes). same s w) (sym x) ∙ f)

  pub whole-other : same (slice at (at + (e - a)) text) w ≡ false → stands_whole w (drop at text) ≡ false
  whole-other f = whole-first f

  module _ (g : at + (e - a) < length text) (f : same (slice at (at + (e - a)) text) w ≡ true) where
    abbrev next : ℕ
    next = get_or text (at + (e - a)) 0

    whole_by : stands_whole w (drop at text) ≡ (eqb next 44 || eqb next 47)
    whole_by = whole-first f ∙ ap stops (drop-drop (length w) at text ∙ ap (λ (n : ℕ). drop (at + n) text) long ∙ drop-cons text (at + (e - a)) 0 g)

    pub whole-ended : next ≡ 44 → stands_whole w (drop at text) ≡ true
    whole-ended z = whole_by ∙ ap (λ (b : Bool). b || eqb next 47) (eq-eqb next 44 z)

    pub whole-on : (next ≡ 44 → ⊥) → stands_whole w (drop at text) ≡ eqb next 47
    whole-on z = whole_by ∙ ap (λ (b : Bool). b || eqb next 47) (ne_eqb next 44 z)

  pub whole-within : at ≤ length text → stands_whole w (drop at text) ≡ true → at + (e - a) < length text
  whole-within h s =
      let x = whole_is w (drop at text) s in
      let o = stops-off (drop (length w) (drop at text)) x.1 in
      omega (arith, long, length-drop at text, ap length x.0 ∙ length-append w (drop (length w) (drop at text)), ap length o.2)

-- ---- what the last line tells
module _ (text : Bytes) (at : ℕ) (h : at < length text) where
  pub known-none : (K : KeyList) → KnownIs text at K (record { end = at + 1; context = record { place = 128; depth = 0 } })
  unfolding write_path all
  known-none K =
      record {
        path = [];
        named = refl;
        is = refl;
        ends = omega arith;
        within = omega arith;
        stop = λ z. absurd (omega arith);
        place_is = place-root K;
        depth_is = refl;
        short = omega arith;
      }

  module _ {K : KeyList} {last : Last} (l : LastIs text K last) (s : stands_whole (slice last.start last.end text) (drop (at + 1) text) ≡ true) where
    abbrev k : Key
    k = l.key

    abbrev e₁ : ℕ
    e₁ = at + 1 + (last.end - last.start)

    context-long : length (slice last.start last.end text) ≡ last.end - last.start
    context-long = length-slice last.start last.end text (omega (arith, l.parts.to, l.parts.within))

    shared : (drop (at + 1) text ≡ write_path k.context ++ drop e₁ text) × (stops (drop e₁ text) ≡ true)
    shared =
        let x = whole_is (slice last.start last.end text) (drop (at + 1) text) s in
        let z = drop-drop (length (slice last.start last.end text)) (at + 1) text ∙ ap (λ (n : ℕ). drop (at + 1 + n) text) context-long in
        (x.0 ∙ ap₂ (λ (a b : Bytes). a ++ b) l.context-is z, ap stops (sym z) ∙ x.1)

    shared-ends : e₁ ≡ at + 1 + length (write_path k.context)
    shared-ends = omega (arith, context-long, ap length l.context-is)

    shared-within : e₁ < length text
    shared-within = whole-within text (at + 1) last.start last.end (omega (arith, l.parts.to, l.parts.within)) (omega arith) s

    pub known_shared : KnownIs text at K (record { end = e₁; context = last.context })
    known_shared =
        record {
          path = k.context;
          named = l.key-noted.context-names;
          is = shared.0;
          ends = shared-ends;
          within = omega (arith, shared-within);
          stop = λ _. shared.1;
          place_is = l.place_is;
          depth_is = l.depth_is;
          short = omega (arith, l.short);
        }

    module _ (b : get_or text e₁ 0 ≡ 47) (t : stands_whole (slice (last.end + 3) last.name text) (drop (e₁ + 1) text) ≡ true) where
      abbrev e₂ : ℕ
      e₂ = e₁ + 1 + (last.name - (last.end + 3))

      name-long : length (slice (last.end + 3) last.name text) ≡ last.name - (last.end + 3)
      name-long = length-slice (last.end + 3) last.name text l.parts.within

      slash : drop e₁ text ≡ 47 ∷ drop (e₁ + 1) text
      slash = let x = drop-cons text e₁ 0 shared-within in x ∙ ap₂ (λ (a : ℕ) (r : Bytes). a ∷ r) b (sym (past_one e₁ (get_or text e₁ 0) text _ x))

      named : (drop (e₁ + 1) text ≡ k.name ++ drop e₂ text) × (stops (drop e₂ text) ≡ true)
      named =
          let x = whole_is (slice (last.end + 3) last.name text) (drop (e₁ + 1) text) t in
          let z = drop-drop (length (slice (last.end + 3) last.name text)) (e₁ + 1) text ∙ ap (λ (n : ℕ). drop (e₁ + 1 + n) text) name-long in
          (x.0 ∙ ap₂ (λ (a b : Bytes). a ++ b) l.name-is z, ap stops (sym z) ∙ x.1)

      pub known-below : KnownIs text at K (record { end = e₂; context = record { place = last.own; depth = last.context.depth + 1 } })
      unfolding path all
      known-below =
          record {
            path = path k;
            named = all_append k.context (k.name ∷ []) ∙ both l.key-noted.context-names (both l.key-noted.name-named refl);
            is = shared.0 ∙ ap (λ (r : Bytes). write_path k.context ++ r) (slash ∙ ap (λ (r : Bytes). 47 ∷ r) named.0)
                ∙ sym (append_assoc (write_path k.context) (47 ∷ k.name) (drop e₂ text)) ∙ ap (λ (r : Bytes). r ++ drop e₂ text) (sym (path-next k.context k.name));
            ends = omega (arith, shared-ends, name-long, ap length l.name-is, ap length (path-next k.context k.name), length-append (write_path k.context) (47 ∷ k.name));
            within = omega (arith, past_fits (e₁ + 1) text k.name (drop e₂ text) (omega (arith, shared-within)) named.0, name-long, ap length l.name-is);
            stop = λ _. named.1;
            place_is = l.own_is;
            depth_is = omega (arith, l.depth_is, length-append k.context (k.name ∷ []));
            short = omega (arith, l.short);
          }

-- ---- the scanner goes on after it
begun-by : (text : Bytes) (at e : ℕ) (p : Path) → all is_name p ≡ true → drop (at + 1) text ≡ write_path p ++ drop e text → e ≡ at + 1 + length (write_path p) → (0 < length p → stops (drop e text) ≡ true)
    → at + 1 + path_run 0 (drop (at + 1) text) ≡ e + path_run 0 (drop e text)
unfolding write_path
begun-by text at e [] a d z f = omega (arith, ap (path_run 0) d)
begun-by text at e (n ∷ p) a d z f =
    let o = stops-off (drop e text) (f (omega arith)) in
    omega (arith, ap (path_run 0) (d ∙ ap (λ (r : Bytes). write_path (n ∷ p) ++ r) o.2) ∙ run-through (n ∷ p) o.0 o.1 a o.3, ap (path_run 0) o.2)

pub known-begun : {text : Bytes} {at : ℕ} {K : KeyList} {k : Known} → KnownIs text at K k → Begun text at k.end
known-begun {text} {at} {K} {k} x = record { within = λ _. x.within; run = begun-by text at k.end x.path x.named x.is x.ends x.stop }

-- ---- the names that are left
pub keys-one : {s : Bytes} {cells : List ℕ} {n : ℕ} {J K : KeyList} → Table s cells n J → Table s cells n K → J ≡ K
keys-one t u = ok-inj (sym t.accepted ∙ u.accepted)

module _ {text : Bytes} {cells : List ℕ} {at n : ℕ} {known : Known} {c : ℕ} (x : Contexting text cells at n known c) where
  abbrev p : Path
  p = x.line.key.context

  abbrev q : Path
  q = x.known_is.path

  -- the whole context is scanned
  scanned : at + 1 + path_run 0 (drop (at + 1) text) ≡ c
  unfolding bytes_compute
  scanned =
      let w = not_root p (x.line.root ∙ ne_eqb at 0 x.later) in
      let t = context-then x.line in
      let d = t.1 ∙ ap (λ (z : Bytes). z ++ 44 ∷ t.0) w in
      omega (arith, ap (path_run 0) d ∙ run-path p 44 t.0 x.line.key-noted.context-names refl (λ z. omega arith), ap length w, x.line.context-ends)

  after : After text c known.end q p
  after =
      let y = x.known_is in
      row-after text c known.end q (at + 1) y.named (omega (arith, y.ends, y.within)) y.is y.ends (λ h. stops-off (drop known.end text) (y.stop h))
      (omega (arith, (known-begun y).run, scanned)) (context-row x.line)

  pub known-rowed : Rowed 1 text c known.end
  known-rowed = record { names = after.rest; row = after.row }

  pub known-counted : Counted 1 text c (at + 1) known.end known.context.depth
  known-counted ns r = (after.rest, after.row, omega (arith, x.known_is.depth_is, ap length (after.joined ∙ row_one (context-row x.line) r), length-append q after.rest))

  pub known-walked : Walked text at cells n (at + 1) c known.end known.context.place
  known-walked K r t o =
      record {
        gone = q;
        left = after.rest;
        joined = after.joined ∙ row_one (context-row x.line) o;
        place_is = ap (λ (J : KeyList). place_of J q) (sym (keys-one x.table t)) ∙ x.known_is.place_is;
        row = after.row;
      }
