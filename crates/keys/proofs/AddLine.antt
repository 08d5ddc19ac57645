-- Adding a line: what a failed test shows of the whole key list, and what the table is when none fails.
use Prim.Native.Nat.{ℕ, ◌+◌, ◌-◌, ◌<◌, ◌≤◌}
use native.Mathlib.Omega.{arith}
use mathlib.Core.Logic.{◌≢◌}
use mathlib.Core.Path.{◌≡◌, sym, ◌∙◌, ap, subst}
use mathlib.Core.Bool.{true, false, not}
use mathlib.Core.Logic.{inr}
use mathlib.Core.List.{List, [], ◌∷◌, ◌++◌}
use lib.Dec.{ltb}
use lib.ListN.{length, take, drop, length-append, length-drop}
use lib.Seq.{slice, take_at}
use borrow.Author.Tests.{ne_eqb, leb-true, lt-ltb, ltb-true, not-true}
use Rattle.model.specs.Masks.{clash}
use Rattle.xml.specs.Bytes.{Bytes, bytes, any, same}
use Rattle.xml.specs.Truth.{not_so, and_left, and_right, both, or_left, or_right, neither}
use Rattle.keys.specs.Result.{refused, ok, ◌>>=◌, r4}
use Rattle.keys.specs.ResultLaws.{bind_inv, ok-inj}
use Rattle.keys.specs.KeyList.{Key, KeyList, path, write_key, is_root_context, rules_kept, key_list, listed}
use Rattle.keys.specs.KeyListLaws.{rules}
use Rattle.keys.specs.Version.{◌▸◌}
use Rattle.keys.specs.Table.{place_of, Table}
use Rattle.keys.specs.Placed.{Placed, OfPlace}
use Rattle.keys.specs.PlaceLaws.{mem-listed, place-below, place-unlisted, few-paths}
use Rattle.keys.specs.TableLaws.{table-rules}
use Rattle.keys.specs.Notation.{write_lines, keys_read}
use Rattle.keys.specs.SpellLaws.{spelt}
use Rattle.keys.specs.NotationLaws.{keys-line, rules-4, key-list-ok, lines-read}
use Rattle.keys.proofs.NotationPass.{pass-goes, pass-done}
use Rattle.keys.specs.Rows.{Row, row-none, row-name}
use Rattle.keys.specs.LineRead.{Upto, InNotation}
use Rattle.keys.proofs.LineTest.{line-place, place-line-is}
use Rattle.keys.proofs.OneMore.{◌▷◌}
use Rattle.keys.proofs.Growing.{Fits}
use Rattle.keys.proofs.OneMoreLaws.{place-old, place-line}
use Rattle.keys.proofs.Grown.{grown, fits, fits-lines, context-mem}
use Rattle.keys.specs.Added.{Added}
use Rattle.keys.proofs.TableGrown.{table-grown}
use Rattle.keys.proofs.LineParts.{context-row, context-part, keys-row, name-part, name-bounds}
use Rattle.keys.proofs.LineReadLaws.{not_root as root-not}
use Rattle.keys.specs.Contexts.{CountOfRow, LastIs, last_of}
use Rattle.keys.specs.Loading.{implied_in, line_in, HasT, Small, LineRoom, LinePut, Building, Adding, Breaks}
use Rattle.keys.specs.declared.contexts.Context.{Context}

-- what a text begins with, where the rest is known
pub take-front : (m : ℕ) (text w : Bytes) → text ≡ w ++ drop m text → m ≤ length text → take m text ≡ w
take-front m text w e h =
    let l : length w ≡ m = omega (arith, ap length e ∙ length-append w (drop m text), length-drop m text) in
    ap (take m) e ∙ take_at w (drop m text) m l

-- a row has fewer names than the text has bytes
row_count : {d : ℕ} {text : Bytes} {e i : ℕ} {ns : List Bytes} → Row d text e i ns → i + length ns ≤ length text
row_count (row-none f h w) = omega arith
row_count (row-name l p s b r) = omega (arith, row_count r)

-- ---- a text in the notation
module _ {text : Bytes} (i : InNotation text) where
  pub whole-read : keys_read text ≡ ok i.keys
  whole-read = ap keys_read i.is ∙ lines-read i.keys i.all_noted

  -- its list breaks a rule
  pub whole-broken : {K : KeyList} → K ≡ i.keys → (rules_kept K ≡ true → ⊥) → key_list text ≡ refused r4
  whole-broken e f = rules-4 text i.keys whole-read i.contexts (not_so (rules_kept i.keys) (λ u. f (ap rules_kept e ∙ u)))

-- ---- the line in its list
module _ {text : Bytes} {cells : List ℕ} {at n lines : ℕ} {here : Context} {c m e : ℕ} (a : Adding text cells at n lines here c m e) where
  abbrev pub done : KeyList
  done = a.built.upto.done

  abbrev pub key : Key
  key = a.line.key

  abbrev tab : Table (take at text) cells n done
  tab = a.built.table

  written : drop at text ≡ write_key key ++ 10 ∷ drop (e + 4) text
  written = a.line.is ∙ sym (spelt key (10 ∷ drop (e + 4) text))

  -- a whole list in the notation goes on with it
  goes_on : (i : InNotation text) → (rest : KeyList) × (done ++ key ∷ rest ≡ i.keys)
  goes_on i =
      let x : (keys_read (drop at text) >>= λ ks. ok (done ++ ks)) ≡ ok i.keys = sym a.built.upto.read ∙ whole-read i in
      let t = bind_inv (keys_read (drop at text)) (λ ks. ok (done ++ ks)) i.keys x in
      let y : (keys_read (drop (e + 4) text) >>= λ ks. ok (key ∷ ks)) ≡ ok t.0 = sym (ap keys_read written ∙ keys-line key (drop (e + 4) text) a.line.key-noted) ∙ t.1 in
      let s = bind_inv (keys_read (drop (e + 4) text)) (λ ks. ok (key ∷ ks)) t.0 y in
      (s.0, ap (λ (z : KeyList). done ++ z) (ok-inj s.2) ∙ ok-inj t.2)

  not_root : is_root_context key.context ≡ false
  not_root = a.line.root ∙ ne_eqb at 0 a.built.later

  refuse-4 : ((rest : KeyList) → rules_kept (done ++ key ∷ rest) ≡ true → ⊥) → Breaks text
  refuse-4 f i = whole-broken i (goes_on i).1 (f (goes_on i).0)

  -- ---- a test that fails
  pub broken : (Fits done key → ⊥) → Breaks text
  broken f = refuse-4 (λ rest u. f (fits done key rest u not_root))

  pub too_many : lines ≡ 64 → Breaks text
  too_many z = refuse-4 (λ rest u. let y = fits-lines done key rest u in omega (arith, a.built.counted))

  place : place_of done key.context ≡ here.place
  place = sym (a.here-is.0 done key.context tab (context-row a.line))

  depth : here.depth ≡ length key.context
  depth = a.here-is.1 key.context (context-row a.line)

  pub no_line : line_in cells n here.place ≡ false → Breaks text
  no_line q = broken (λ f. let t = line-place tab key.context here.place place f.line in clash (both (lt-ltb here.place n t.0) (ap not t.1)) q)

  pub context-placed : Placed (take at text) cells n here.place
  context-placed = record { key_list = done; path = key.context; table = tab; place_is = place }

  pub not_new : {s : ℕ} → OfPlace (take at text) cells n here.place (λ K p. s ≡ place_of K (p ▸ slice (c + 3) m text)) → (s ≡ 129 → ⊥) → Breaks text
  unfolding path
  not_new {s} q g =
      broken (λ f. g (q done key.context tab place ∙ ap (λ (z : Bytes). place_of done (key.context ▸ z)) (name-part a.line) ∙ place-unlisted done key.context key.name f.new))

  pub has-T : HasT text (c + 3) m e true → Breaks text
  unfolding bytes
  has-T h = broken (λ f. clash (sym (h key.key_names (keys-row a.line))) (neither (ap (λ (z : Bytes). same z (84 ∷ [])) (name-part a.line) ∙ f.no-T) f.no-key-T))

  pub keys-are : {k : ℕ} → CountOfRow 2 text (m + 1) e k → k ≡ length key.key_names
  keys-are h = h key.key_names (keys-row a.line)

  pub few-counted : {k : ℕ} → CountOfRow 2 text (m + 1) e k → (here.depth ≤ 4096) × (k ≤ 4096) × (n ≤ 128)
  few-counted g =
      (omega (arith, depth, row_count (context-row a.line), a.built.short), omega (arith, keys-are g, a.line.key-noted.few-keys), tab.few)

  pub not-small : {k : ℕ} → CountOfRow 2 text (m + 1) e k → (Small here.depth k n → ⊥) → Breaks text
  not-small {k} g f =
      let x = depth in
      let y = keys-are g in
      broken (λ w. f (omega (arith, w.short), λ z. let v = w.key-short (omega arith) in omega arith, omega (arith, w.few, tab.counted)))

  -- ---- none does
  module _ {s k : ℕ} (b : line_in cells n here.place ≡ true) (q : OfPlace (take at text) cells n here.place (λ K p. s ≡ place_of K (p ▸ slice (c + 3) m text))) (z : s ≡ 129)
      (t : HasT text (c + 3) m e false) (g : CountOfRow 2 text (m + 1) e k) (w : Small here.depth k n) where
    abbrev r : ℕ
    r = here.place

    keys : k ≡ length key.key_names
    keys = keys-are g

    pub below : r < n
    below = ltb-true r n (and_left (ltb r n) (not (implied_in cells r)) b)

    fit : Fits done key
    unfolding path bytes
    fit =
        let T = t key.key_names (keys-row a.line) in
        record {
          line = place-line-is tab key.context r place below (not-true (implied_in cells r) (and_right (ltb r n) (not (implied_in cells r)) b));
          new = not_so (listed done (path key)) (λ u. omega (
            arith,
            place-below done (table-rules tab) (path key) u,
            few-paths done (table-rules tab),
            sym (q done key.context tab place ∙ ap (λ (z : Bytes). place_of done (key.context ▸ z)) (name-part a.line)) ∙ z,
          ));
          no-T = ap (λ (z : Bytes). same z (84 ∷ [])) (sym (name-part a.line)) ∙ or_left (same (slice (c + 3) m text) (84 ∷ [])) (any (same (84 ∷ [])) key.key_names) (sym T);
          no-key-T = or_right (same (slice (c + 3) m text) (84 ∷ [])) (any (same (84 ∷ [])) key.key_names) (sym T);
          short = omega (arith, depth, w.0);
          key-short = λ v. let x = w.1 (omega (arith, keys)) in omega (arith, depth);
          few = omega (arith, w.2, keys, tab.counted);
        }

    pub line-room : LineRoom text cells n r c m e k
    line-room =
        record {
          key-room = record { names = key.key_names; row = keys-row a.line; room = omega (arith, w.2, keys, a.built.room); few = tab.few; short = a.built.short };
          counted = keys;
          few-keys = omega (arith, keys, a.line.key-noted.few-keys);
          placed = below;
          name-from = (name-bounds a.line).0;
          name-within = (name-bounds a.line).1;
          small = (name-bounds a.line).2;
        }

    up : Upto text (e + 4)
    up = pass-goes text at a.built.upto c m e a.line

    up_done : up.done ≡ done ▷ key
    unfolding up
    up_done = pass-done text at a.built.upto c m e a.line

    lines_fit : (lines ≡ 64 → ⊥) → length done + 1 ≤ 64
    lines_fit o =
        let x = leb-true (length done) 64 (rules done (table-rules tab)).lines in
        let y : length done ≢ 64 = λ z. o (a.built.counted ∙ z) in
        omega arith

    accepted : (lines ≡ 64 → ⊥) → key_list (take (e + 4) text) ≡ ok up.done
    accepted o =
        let x : take (e + 4) text ≡ write_lines up.done = take-front (e + 4) text (write_lines up.done) up.is up.within in
        ap key_list x ∙ key-list-ok (write_lines up.done) up.done (lines-read up.done up.done-noted) (up.some (λ y. omega arith))
        (ap rules_kept up_done ∙ grown done (table-rules tab) key a.line.key-noted fit (lines_fit o))

    -- what is kept of it
    line_kept : LastIs text (done ▷ key) (last_of at c m n here)
    line_kept =
        record {
          key = key;
          key-noted = a.line.key-noted;
          parts = record { from = omega (arith, a.line.context-ends); to = (name-bounds a.line).0; within = (name-bounds a.line).1 };
          context-is = context-part a.line ∙ root-not key.context not_root;
          name-is = name-part a.line;
          depth_is = depth;
          short = omega (arith, w.0);
          place_is = place-old done (table-rules tab) key fit.new key.context (inr (mem-listed done key.context (context-mem done (table-rules tab) key a.line.key-noted fit))) ∙ place;
          own_is = place-line done (table-rules tab) key fit.new ∙ sym tab.counted;
        }

    pub line-added : {cells' : List ℕ} → (lines ≡ 64 → ⊥) → LinePut text cells cells' n r c m e k → Building text cells' (e + 4) (n + 1 + k) (lines + 1) (last_of at c m n here)
    line-added {cells'} o v =
        record {
          upto = up;
          table = subst (λ (J : KeyList). Table (take (e + 4) text) cells' (n + 1 + k) J) (sym up_done) (subst (λ (x : ℕ). Table (take (e + 4) text) cells' (n + 1 + x) (done ▷ key)) (sym keys) grows);
          last-is = subst (λ (J : KeyList). LastIs text J (last_of at c m n here)) (sym up_done) line_kept;
          counted = omega (arith, length-append done (key ∷ []), a.built.counted, ap length up_done);
          later = λ y. omega arith;
          room = ad.size ∙ a.built.room;
          short = a.built.short;
        }
      where
        ad : Added text cells cells' n r (c + 3) m e key.key_names
        ad = v key.key_names (keys-row a.line) keys

        grows : Table (take (e + 4) text) cells' (n + 1 + length key.key_names) (done ▷ key)
        grows =
            let l = a.line in
            let y = name-bounds l in
            let grow : at ≤ e + 4 = omega (arith, l.context-ends, l.name-ends, l.names-end) in
            let m-e : m ≤ e + 4 = omega (arith, l.names-end) in
            let e-e : e ≤ e + 4 = omega arith in
            let small : m - (c + 3) < 64 = omega arith in
            table-grown tab key l.key-noted fit place grow l.within (name-part l) y.0 m-e e-e small ad (accepted o ∙ ap ok up_done) (omega (arith, w.2, keys, a.built.room)) a.built.short
