-- Loading as a whole: the first line, the end of the lines, and the key list that the table is then of.
use Rattle.std.specs.Prelude.{None, Option, Some}
use Prim.Native.Nat.{ℕ, ◌+◌, ◌*◌, ◌-◌, ◌≤◌}
use native.Mathlib.Omega.{arith}
use mathlib.Core.Path.{◌≡◌, refl, sym, ◌∙◌, ap, ap₂, subst}
use mathlib.Core.Bool.{Bool, true, false, not}
use mathlib.Core.List.Memᴰ
use mathlib.Core.List.{List, [], ◌∷◌, ◌++◌, flat_map}
use lib.Dec.{ltb}
use lib.ListN.{length, get_or, take, drop, length-append}
use lib.Seq.{slice, slice_empty, take_all, length-take-le}
use borrow.Author.Tests.{eqb-true, leb-true, ltb-true, ltb-false}
use Rattle.model.specs.Masks.{clash}
use Rattle.xml.specs.Bytes.{Bytes, bytes, any, all, same, join_by, is_name}
use Rattle.xml.specs.Names.{name-some}
use Rattle.xml.specs.Truth.{by-test, and_left, all-mem}
use Rattle.keys.specs.Result.{refused, ok, ◌>>=◌, r3}
use Rattle.keys.specs.ResultLaws.{bind_inv, ok-inj}
use Rattle.keys.specs.KeyList.{keys_compute, Path, Key, KeyList, path, implied, paths, write_path, is_root_context, first_bare, rules_kept, key_list, above, frontier, key_names_at}
use Rattle.keys.specs.KeyListLaws.{same_path-self, rules, mem-paths}
use Rattle.keys.specs.Table.{Table, Entry, name_start, name_end, parent_in, keys_in, inner_in, bit_of}
use Rattle.keys.specs.PlaceLaws.{place-root}
use Rattle.keys.specs.TableLaws.{table-rules, table-place}
use Rattle.keys.specs.Notation.{Noted, write_lines, keys_read}
use Rattle.keys.specs.SpellLaws.{spelt}
use Rattle.keys.specs.NotationLaws.{keys-line, key-list-ok, lines-read}
use Rattle.keys.proofs.NotationPass.{pass-starts, start-done, pass-goes, pass-done, pass-fails, pass-empty}
use Rattle.keys.specs.LineRead.{Upto, LineIs, NoLine, InNotation}
use Rattle.keys.proofs.OneMoreLaws.{continues-self}
use Rattle.keys.proofs.Grown.{plain-last}
use Rattle.keys.proofs.TableGrown.{slice-take}
use Rattle.keys.proofs.LoadCells.{entry_set, entry-size, entry-head, entry-tail}
use Rattle.keys.proofs.LineParts.{name-part, name-bounds}
use Rattle.keys.proofs.AddLine.{take-front, whole-read, whole-broken}
use Rattle.keys.specs.Contexts.{LastIs, first_of}
use Rattle.keys.specs.Loading.{Building, AddRead, Breaks}
use Rattle.keys.specs.declared.contexts.Last.{Last}

-- ---- what adding a line answers
module _ (text : Bytes) (cells : List ℕ) (lines names : ℕ) (last : Last) {r : Option ℕ} where
  pub add-stop : r ≡ None → AddRead text cells lines names last r → Breaks text
  add-stop e h = subst (λ (z : Option ℕ). AddRead text cells lines names last z) e h

  pub add-next : {m : ℕ} {now : Last} → r ≡ Some m → now ≡ last → AddRead text cells lines names last r → Building text cells (names + 4) m (lines + 1) now
  add-next {m} e k h = subst (λ (z : Last). Building text cells (names + 4) m (lines + 1) z) (sym k) (subst (λ (z : Option ℕ). AddRead text cells lines names last z) e h)

-- ---- after the last line
pub built-all : {text : Bytes} {cells : List ℕ} {at n lines : ℕ} {last : Last} → Building text cells at n lines last → length text ≤ at → (K : KeyList) × Table text cells n K
built-all {text} {cells} {at} {n} b h = (b.upto.done, subst (λ (s : Bytes). Table s cells n b.upto.done) (take_all at text h) b.table)

pub few-lines : {text : Bytes} {cells : List ℕ} {at n lines : ℕ} {last : Last} → Building text cells at n lines last → lines ≤ 64
few-lines b = let x = leb-true (length b.upto.done) 64 (rules b.upto.done (table-rules b.table)).lines in omega (arith, b.counted)

-- ---- one line without context and key names
abbrev bare_key : Bytes → Key
bare_key n = record { context = []; name = n; key_names = [] }

bare-kept : (n : Bytes) → same n (84 ∷ []) ≡ false → rules_kept (bare_key n ∷ []) ≡ true
unfolding keys_compute
bare-kept n e = rw e refl

bare-above : (n : Bytes) → above (bare_key n ∷ []) (n ∷ []) ≡ false
unfolding above frontier paths path implied flat_map any
bare-above n = rw (continues-self (n ∷ [])) refl

bare-names : (n : Bytes) → key_names_at (bare_key n ∷ []) (n ∷ []) ≡ []
unfolding key_names_at path
bare-names n = rw (same_path-self (n ∷ []), key_names_at)

bare-table : (text : Bytes) (cells : List ℕ) (n : Bytes) → key_list text ≡ ok (bare_key n ∷ []) → 2 ≤ length cells → length text ≤ 4096 → name_end cells 0 ≤ length text
    → slice (name_start cells 0) (name_end cells 0) text ≡ n → get_or cells 1 0 ≡ 2048 → Table text cells 1 (bare_key n ∷ [])
unfolding paths path implied flat_map
bare-table text cells n a h l w s t =
    record { accepted = a; counted = refl; few = omega arith; held = omega arith; short = l; entry = λ i b. let z : 0 ≡ i = omega arith in subst (λ (x : ℕ). Entry text cells (bare_key n ∷ []) x) z only }
  where
    only : Entry text cells (bare_key n ∷ []) 0
    only =
        record {
          parent = [];
          name = n;
          path-is = refl;
          within = w;
          name-is = s;
          parent_is = let z : parent_in cells 0 ≡ 128 = omega arith in z ∙ sym (place-root (bare_key n ∷ []));
          keys-are = let z : keys_in cells 0 ≡ 0 = omega arith in z ∙ ap length (sym (bare-names n));
          key-paths = λ j g. absurd (omega (arith, ap length (bare-names n)));
          inner-is = let z : inner_in cells 0 ≡ 0 = omega arith in z ∙ ap bit_of (sym (bare-above n));
        }

-- what is kept of it
bare-last : {text s : Bytes} {cells : List ℕ} {n : Bytes} {c m : ℕ} → Table s cells 1 (bare_key n ∷ []) → Noted (bare_key n) → c + 3 ≤ m → m ≤ length text → slice (c + 3) m text ≡ n
    → LastIs text (bare_key n ∷ []) (first_of c m)
unfolding write_path paths path implied flat_map
bare-last {text} {s} {cells} {n} {c} {m} t d h w e =
    record {
      key = bare_key n;
      key-noted = d;
      parts = record { from = omega arith; to = h; within = w };
      context-is = slice_empty c text;
      name-is = e;
      depth_is = refl;
      short = omega arith;
      place_is = place-root (bare_key n ∷ []);
      own_is = table-place t (n ∷ []) 0 (omega arith) refl;
    }

-- ---- the first line
root_is : (p : Path) → is_root_context p ≡ true → p ≡ []
unfolding is_root_context
root_is [] e = refl
root_is (n ∷ p) e = absurd (clash e refl)

-- there is none
pub no-first : (text : Bytes) → NoLine text 0 → key_list text ≡ refused r3
no-first text f = by-test (ltb 0 (length text)) (λ e. pass-fails text 0 (pass-starts text) (ltb-true 0 (length text) e) f)
    (λ e. pass-empty text 0 (pass-starts text) (ltb-false 0 (length text) e) refl)

no_names : (ks : List Bytes) → all is_name ks ≡ true → length (join_by (bytes ", ") ks) ≡ 0 → ks ≡ []
unfolding join_by all
no_names [] a e = refl
no_names (n ∷ []) a e = absurd (name-some n (and_left (is_name n) true a) e)
no_names (n ∷ m ∷ ks) a e =
    absurd (name-some n (and_left (is_name n) (all is_name (m ∷ ks)) a) (omega (arith, length-append (n ++ bytes ", ") (join_by (bytes ", ") (m ∷ ks)), length-append n (bytes ", "))))

module _ {text : Bytes} {c m e : ℕ} (l : LineIs text 0 c m e) where
  abbrev k : Key
  k = l.key

  root : k.context ≡ []
  root = root_is k.context l.root

  -- a list in the notation begins with its key
  begins-so : (i : InNotation text) → (rest : KeyList) × (k ∷ rest ≡ i.keys)
  begins-so i =
      let y : (keys_read (drop (e + 4) text) >>= λ ks. ok (k ∷ ks)) ≡ ok i.keys =
      sym (ap keys_read (l.is ∙ sym (spelt k (10 ∷ drop (e + 4) text))) ∙ keys-line k (drop (e + 4) text) l.key-noted) ∙ whole-read i
      in
      let s = bind_inv (keys_read (drop (e + 4) text)) (λ ks. ok (k ∷ ks)) i.keys y in
      (s.0, ok-inj s.2)

  refuse-4 : ((rest : KeyList) → rules_kept (k ∷ rest) ≡ true → ⊥) → Breaks text
  refuse-4 f i = whole-broken i (begins-so i).1 (f (begins-so i).0)

  pub up : Upto text (e + 4)
  up = pass-goes text 0 (pass-starts text) c m e l

  -- "The first line has no key names."
  pub first-keyed : (e ≡ m + 3 → ⊥) → Breaks text
  unfolding first_bare join_by
  first-keyed f = refuse-4 (λ rest u. f (l.names-end ∙ empty k.key_names (eqb-true (length k.key_names) 0 (rules (k ∷ rest) u).first)))
    where
      empty : (ks : List Bytes) → length ks ≡ 0 → m + 3 + length (join_by (bytes ", ") ks) ≡ m + 3
      empty [] z = omega arith
      empty (n ∷ ks) z = absurd (omega arith)

  -- "No name is `T`."
  pub first-T : {b : Bool} → b ≡ same (slice (c + 3) m text) (84 ∷ []) → b ≡ true → Breaks text
  unfolding path bytes
  first-T q z = refuse-4 (λ rest u. clash (sym (ap (λ (s : Bytes). same s (84 ∷ [])) (name-part l)) ∙ sym q ∙ z)
      (plain-last k.context k.name (all-mem (λ p. all (λ n. not (same n (bytes "T"))) p) (mem-paths {k = k} (Memᴰ.head refl) (Memᴰ.head refl)) (rules (k ∷ rest) u).no-T)))

  -- ---- alone it keeps the rules, and the table has one path
  module _ (bare : e ≡ m + 3) (plain : same (slice (c + 3) m text) (84 ∷ []) ≡ false) where
    none : k.key_names ≡ []
    none = no_names k.key_names l.key-noted.key-named (omega (arith, l.names-end))

    key-is : bare_key k.name ≡ k
    key-is = sym (ap₂ (λ (p : Path) (ns : List Bytes). record { context = p; name = k.name; key_names = ns }) root none)

    up_done : up.done ≡ bare_key k.name ∷ []
    unfolding up
    up_done = pass-done text 0 (pass-starts text) c m e l ∙ ap (λ (J : KeyList). J ++ k ∷ []) (start-done text) ∙ ap (λ (j : Key). j ∷ []) (sym key-is)

    plain-name : same k.name (84 ∷ []) ≡ false
    plain-name = ap (λ (s : Bytes). same s (84 ∷ [])) (sym (name-part l)) ∙ plain

    accepted : key_list (take (e + 4) text) ≡ ok up.done
    accepted =
        let x : take (e + 4) text ≡ write_lines up.done = take-front (e + 4) text (write_lines up.done) up.is up.within in
        ap key_list x ∙ key-list-ok (write_lines up.done) up.done (lines-read up.done up.done-noted) (up.some (λ y. omega arith)) (ap rules_kept up_done ∙ bare-kept k.name plain-name)

    pub first-added : (cells : List ℕ) {cells' : List ℕ} → cells' ≡ entry_set cells 0 ((c + 3) * 64 + (m - (c + 3))) 2048 → length cells ≡ 256 → length text ≤ 4096 → Building text cells' (e + 4) 1 1 (first_of c m)
    first-added cells {cells'} w z h =
        record {
          upto = up;
          table = subst (λ (J : KeyList). Table (take (e + 4) text) cells' 1 J) (sym up_done) table;
          last-is = subst (λ (J : KeyList). LastIs text J (first_of c m)) (sym up_done) (bare-last table (subst (λ (j : Key). Noted j) (sym key-is) l.key-noted) b.0 b.1 (name-part l));
          counted = ap length (sym up_done);
          later = λ y. omega arith;
          room = size ∙ z;
          short = h;
        }
      where
        size : length cells' ≡ length cells
        size = ap length w ∙ entry-size cells 0 ((c + 3) * 64 + (m - (c + 3))) 2048

        y : get_or cells' 0 0 ≡ (c + 3) * 64 + (m - (c + 3))
        y = ap (λ (s : List ℕ). get_or s 0 0) w ∙ entry-head cells 0 ((c + 3) * 64 + (m - (c + 3))) 2048 (omega (arith, z))

        tail : get_or cells' 1 0 ≡ 2048
        tail = ap (λ (s : List ℕ). get_or s 1 0) w ∙ entry-tail cells 0 ((c + 3) * 64 + (m - (c + 3))) 2048 (omega (arith, z))

        b : (c + 3 ≤ m) × (m ≤ length text) × (m ≤ c + 3 + 32)
        b = name-bounds l

        name-at : slice (name_start cells' 0) (name_end cells' 0) (take (e + 4) text) ≡ k.name
        name-at =
            let s : name_start cells' 0 ≡ c + 3 = omega (arith, y, b) in
            let r : name_end cells' 0 ≡ m = omega (arith, y, b) in
            ap₂ (λ (x y : ℕ). slice x y (take (e + 4) text)) s r ∙ slice-take (c + 3) m (e + 4) text (omega (arith, l.names-end)) ∙ name-part l

        table : Table (take (e + 4) text) cells' 1 (bare_key k.name ∷ [])
        table =
            bare-table (take (e + 4) text) cells' k.name (accepted ∙ ap ok up_done) (omega (arith, size)) (omega (arith, length-take-le (e + 4) text l.within))
            (omega (arith, y, b, length-take-le (e + 4) text l.within, l.names-end)) name-at tail
