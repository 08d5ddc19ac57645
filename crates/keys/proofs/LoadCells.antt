-- The cells that a line's entries are written to.
use Prim.Native.Nat.{ℕ, ◌+◌, ◌*◌, ◌-◌, ◌/◌, ◌%◌, ◌<◌, ◌≤◌}
use native.Mathlib.Omega.{arith}
use mathlib.Core.Path.{◌≡◌, refl, sym, ◌∙◌, ap, ap₂, subst}
use mathlib.Core.Bool.{Bool, true, false, not, ◌&&◌}
use mathlib.Core.List.{List, [], ◌∷◌, ◌++◌, append_assoc, append-nil}
use lib.Dec.{eqb, ltb, leb}
use lib.ListN.{length, get_or, set, take, drop, length-set, length-append, get_or-append}
use lib.Seq.{slice, get_or-set_same, get_or-set_other, get_or-append_seam, length-take-le}
use borrow.Author.Tests.{ltb-true, ltb-false, leb-true, eqb-true, eqb-false}
use Rattle.xml.specs.Bytes.{Bytes, all, is_name, is_value, is_start, is_name_byte}
use Rattle.xml.specs.Read.{name_len}
use Rattle.xml.specs.ScanLaws.{name_len-fits}
use Rattle.xml.specs.Names.{name-taken}
use Rattle.xml.specs.Truth.{by-test, and_left, and_right}
use Rattle.keys.specs.Table.{name_start, name_end, bit_of}
use Rattle.keys.specs.Rows.{Row}
use Rattle.keys.proofs.RowLaws.{Next, row_next, row-end}
use Rattle.keys.specs.Added.{KeyCell}
use Rattle.keys.specs.Loading.{KeysRoom, KeysPut, LineRoom, LinePut}

-- ---- two cells set
-- the entry of the path number i
abbrev pub entry_set : List ℕ → ℕ → ℕ → ℕ → List ℕ
entry_set cells i head tail = set (set cells (2 * i) head) (2 * i + 1) tail

module _ (cells : List ℕ) (i head tail : ℕ) where
  pub entry-size : length (entry_set cells i head tail) ≡ length cells
  entry-size = length-set (set cells (2 * i) head) (2 * i + 1) tail ∙ length-set cells (2 * i) head

  entry_other : (x : ℕ) → (x ≡ 2 * i → ⊥) → (x ≡ 2 * i + 1 → ⊥) → get_or (entry_set cells i head tail) x 0 ≡ get_or cells x 0
  entry_other x f g = get_or-set_other (set cells (2 * i) head) (2 * i + 1) x tail 0 g ∙ get_or-set_other cells (2 * i) x head 0 f

  pub entry-head : 2 * i + 1 < length cells → get_or (entry_set cells i head tail) (2 * i) 0 ≡ head
  entry-head h = get_or-set_other (set cells (2 * i) head) (2 * i + 1) (2 * i) tail 0 (λ e. omega arith) ∙ get_or-set_same cells (2 * i) head 0 (omega arith)

  pub entry-tail : 2 * i + 1 < length cells → get_or (entry_set cells i head tail) (2 * i + 1) 0 ≡ tail
  entry-tail h = get_or-set_same (set cells (2 * i) head) (2 * i + 1) tail 0 (omega (arith, length-set cells (2 * i) head))

-- ---- key names
-- cells that hold a key name's entry as others do
key-same : {text : Bytes} {cells cells' : List ℕ} {n e i : ℕ} {m : Bytes} → get_or cells' (2 * i) 0 ≡ get_or cells (2 * i) 0 → get_or cells' (2 * i + 1) 0 ≡ get_or cells (2 * i + 1) 0 → KeyCell text cells n e i m → KeyCell text cells' n e i m
key-same {text} h g k =
    let z = ap (λ (x : ℕ). x / 64) h in
    let y = ap (λ (x : ℕ). x / 64 + x % 64) h in
    record { within = omega (arith, y, k.within); name-is = ap₂ (λ (s r : ℕ). slice s r text) z y ∙ k.name-is; tail = g ∙ k.tail }

pub record Gone (text : Bytes) (cells : List ℕ) (n e i k : ℕ) (ns : List Bytes) : Type 0 where
  pub gone : List Bytes
  pub left : List Bytes
  pub joined : gone ++ left ≡ ns
  pub row : Row 2 text e i left
  pub number : k ≡ n + 1 + length gone
  pub keys : (j : ℕ) → j < length gone → KeyCell text cells n e (n + 1 + j) (get_or gone j [])

-- the entries of the names before i are written, up to the number k
pub record KeysGoing (text : Bytes) (cells cells' : List ℕ) (n from e i k : ℕ) : Type 0 where
  pub size : length cells' ≡ length cells
  pub below : (x : ℕ) → x < 2 * (n + 1) → get_or cells' x 0 ≡ get_or cells x 0
  pub going : (ns : List Bytes) → Row 2 text e from ns → Gone text cells' n e i k ns

pub keys-start : (text : Bytes) (cells : List ℕ) (n from e : ℕ) → KeysGoing text cells cells n from e from (n + 1)
keys-start text cells n from e =
    record { size = refl; below = λ x h. refl; going = λ ns r. record { gone = []; left = ns; joined = refl; row = r; number = omega arith; keys = λ j h. absurd (omega arith) } }

module _ {text : Bytes} {cells cells' : List ℕ} {n from e i k m : ℕ} (g : KeysGoing text cells cells' n from e i k) (h : i + 2 < e) (q : m ≡ name_len (drop (i + 2) text)) where
  -- there is room for the next entry
  pub keys-fit : KeysRoom text cells n from e → 2 * k + 1 < length cells'
  keys-fit r =
      let t = g.going r.names r.row in
      let x = row_next t.row h q in
      omega (arith, r.room, t.number, sym (ap length t.joined) ∙ ap length (ap (λ (z : List Bytes). t.gone ++ z) x.is), g.size, length-append t.gone (x.name ∷ x.rest))

  module _ {cells'' : List ℕ} (r : KeysRoom text cells n from e) (small : m < 64) (w : cells'' ≡ entry_set cells' k ((i + 2) * 64 + ((i + 2 + m) - (i + 2))) (n * 16)) where
    old : (x : ℕ) → x < 2 * k → get_or cells'' x 0 ≡ get_or cells' x 0
    old x l = ap (λ (z : List ℕ). get_or z x 0) w ∙ entry_other cells' k ((i + 2) * 64 + ((i + 2 + m) - (i + 2))) (n * 16) x (λ z. omega arith) (λ z. omega arith)

    new : (name : Bytes) → slice (i + 2) (i + 2 + m) text ≡ name → i + 2 + m ≤ e → KeyCell text cells'' n e k name
    new name p b =
        let y = ap (λ (z : List ℕ). get_or z (2 * k) 0) w ∙ entry-head cells' k ((i + 2) * 64 + ((i + 2 + m) - (i + 2))) (n * 16) (keys-fit r) in
        let s : name_start cells'' k ≡ i + 2 = omega arith in
        let f : name_end cells'' k ≡ i + 2 + m = omega arith in
        record {
          within = omega arith;
          name-is = ap₂ (λ (a c : ℕ). slice a c text) s f ∙ p;
          tail = ap (λ (z : List ℕ). get_or z (2 * k + 1) 0) w ∙ entry-tail cells' k ((i + 2) * 64 + ((i + 2 + m) - (i + 2))) (n * 16) (keys-fit r);
        }

    pub keys-turn : n + 1 ≤ k → KeysGoing text cells cells'' n from e (i + (2 + m)) (k + 1)
    keys-turn low = record {
      size = ap length w ∙ entry-size cells' k ((i + 2) * 64 + ((i + 2 + m) - (i + 2))) (n * 16) ∙ g.size;
      below = λ x l. old x (omega arith) ∙ g.below x l;
      going = λ ns o. next ns (g.going ns o);
    }
      where
        next : (ns : List Bytes) → Gone text cells' n e i k ns → Gone text cells'' n e (i + (2 + m)) (k + 1) ns
        next ns t =
            let x = row_next t.row h q in
            let z : i + 2 + m ≡ i + (2 + m) = omega arith in
            record {
              gone = t.gone ++ x.name ∷ [];
              left = x.rest;
              joined = append_assoc t.gone (x.name ∷ []) x.rest ∙ ap (λ (s : List Bytes). t.gone ++ s) (sym x.is) ∙ t.joined;
              row = subst (λ (j : ℕ). Row 2 text e j x.rest) z x.row;
              number = omega (arith, t.number, length-append t.gone (x.name ∷ []));
              keys = λ j l. by-test (ltb j (length t.gone)) (λ b. before x j (ltb-true j (length t.gone) b)) (λ b. last x j (omega (arith, l, ltb-false j (length t.gone) b, length-append t.gone (x.name ∷ []))));
            }
          where
            before : (x : Next 2 text e i m t.left) (j : ℕ) → j < length t.gone → KeyCell text cells'' n e (n + 1 + j) (get_or (t.gone ++ x.name ∷ []) j [])
            before x j b =
                subst (λ (s : Bytes). KeyCell text cells'' n e (n + 1 + j) s) (sym (get_or-append t.gone (x.name ∷ []) [] j b))
                (key-same (old (2 * (n + 1 + j)) (omega (arith, t.number, b))) (old (2 * (n + 1 + j) + 1) (omega (arith, t.number, b))) (t.keys j b))

            last : (x : Next 2 text e i m t.left) (j : ℕ) → j ≡ length t.gone → KeyCell text cells'' n e (n + 1 + j) (get_or (t.gone ++ x.name ∷ []) j [])
            last x j b =
                let y : k ≡ n + 1 + j = omega (arith, t.number, b) in
                let v : x.name ≡ get_or (t.gone ++ x.name ∷ []) j [] = sym (get_or-append_seam t.gone x.name [] []) ∙ ap (λ (s : ℕ). get_or (t.gone ++ x.name ∷ []) s []) (sym b) in
                subst (λ (s : ℕ). KeyCell text cells'' n e s (get_or (t.gone ++ x.name ∷ []) j [])) y
                (subst (λ (s : Bytes). KeyCell text cells'' n e k s) v (new x.name x.part x.below))

pub keys-end : {text : Bytes} {cells cells' : List ℕ} {n from e i k : ℕ} → KeysGoing text cells cells' n from e i k → e ≤ i + 2 → KeysPut text cells cells' n from e
keys-end {text} {cells} {cells'} {n} {from} {e} {i} {k} g h = record { size = g.size; below = g.below; keys = λ ns r. all_of ns (g.going ns r) }
  where
    all_of : (ns : List Bytes) → Gone text cells' n e i k ns → (j : ℕ) → j < length ns → KeyCell text cells' n e (n + 1 + j) (get_or ns j [])
    all_of ns t =
        let z : t.gone ≡ ns = sym (append-nil t.gone) ∙ ap (λ (s : List Bytes). t.gone ++ s) (sym (row-end t.row h)) ∙ t.joined in
        subst (λ (s : List Bytes). (j : ℕ) → j < length s → KeyCell text cells' n e (n + 1 + j) (get_or s j [])) z t.keys

-- ---- names are short
pub name-32 : (n : Bytes) → is_name n ≡ true → length n ≤ 32
unfolding is_name is_value
name-32 [] e = omega arith
name-32 (b ∷ s) e =
    leb-true (length (b ∷ s)) 32 (and_right (leb 1 (length (b ∷ s))) (leb (length (b ∷ s)) 32)
    (and_left (leb 1 (length (b ∷ s)) && leb (length (b ∷ s)) 32) (all is_name_byte (b ∷ s)) (and_right (is_start b) (is_value (b ∷ s)) e)))

pub len-32 : (s : Bytes) → name_len s ≤ 32
len-32 s = by-test (eqb (name_len s) 0) (λ e. omega (arith, eqb-true (name_len s) 0 e))
    (λ e. omega (arith, name-32 (take (name_len s) s) (name-taken s (eqb-false (name_len s) 0 e)), length-take-le (name_len s) s (name_len-fits s)))

-- ---- a line and its key names
module _ {text : Bytes} {cells one two three : List ℕ} {n place context name names keys : ℕ} (r : LineRoom text cells n place context name names keys)
    (first : one ≡ entry_set cells n ((context + 3) * 64 + (name - (context + 3))) (place * 16 + keys * 2 + bit_of (not (eqb keys 0))))
    (then : KeysPut text one two n (name + 1) names)
    (last : three ≡ set two (2 * place + 1) (get_or two (2 * place + 1) 0 + (1 - get_or two (2 * place + 1) 0 % 2))) where
  fits : 2 * n + 1 < length cells
  fits = let z = r.key-room.room in omega arith

  p-n : place < n
  p-n = r.placed

  -- the cells of the table's paths, but for the context's second, are as they were
  kept-2 : (x : ℕ) → x < 2 * n → get_or two x 0 ≡ get_or cells x 0
  kept-2 x h =
      then.below x (omega arith) ∙ ap (λ (z : List ℕ). get_or z x 0) first
      ∙ entry_other cells n ((context + 3) * 64 + (name - (context + 3))) (place * 16 + keys * 2 + bit_of (not (eqb keys 0))) x (λ z. omega arith) (λ z. omega arith)

  kept-3 : (x : ℕ) → (x ≡ 2 * place + 1 → ⊥) → get_or three x 0 ≡ get_or two x 0
  kept-3 x f = ap (λ (z : List ℕ). get_or z x 0) last ∙ get_or-set_other two (2 * place + 1) x (get_or two (2 * place + 1) 0 + (1 - get_or two (2 * place + 1) 0 % 2)) 0 f

  size-2 : length two ≡ length cells
  size-2 = then.size ∙ ap length first ∙ entry-size cells n ((context + 3) * 64 + (name - (context + 3))) (place * 16 + keys * 2 + bit_of (not (eqb keys 0)))

  pub line-put : LinePut text cells three n place context name names keys
  line-put ns o c =
      record {
        size = ap length last ∙ length-set two (2 * place + 1) (get_or two (2 * place + 1) 0 + (1 - get_or two (2 * place + 1) 0 % 2)) ∙ size-2;
        heads = λ i h. kept-3 (2 * i) (λ z. omega arith) ∙ kept-2 (2 * i) (omega arith);
        tails = λ i h f. kept-3 (2 * i + 1) (λ z. f (omega arith)) ∙ kept-2 (2 * i + 1) (omega arith);
        context =
            ap (λ (z : List ℕ). get_or z (2 * place + 1) 0) last
            ∙ get_or-set_same two (2 * place + 1) (get_or two (2 * place + 1) 0 + (1 - get_or two (2 * place + 1) 0 % 2)) 0 (omega (arith, size-2, fits, p-n))
            ∙ ap (λ (x : ℕ). x + (1 - x % 2)) (kept-2 (2 * place + 1) (omega (arith, p-n)));
        head = kept-3 (2 * n) (λ z. omega arith) ∙ then.below (2 * n) (omega arith) ∙ ap (λ (z : List ℕ). get_or z (2 * n) 0) first
            ∙ entry-head cells n ((context + 3) * 64 + (name - (context + 3))) (place * 16 + keys * 2 + bit_of (not (eqb keys 0))) fits;
        tail = kept-3 (2 * n + 1) (λ z. omega (arith, p-n)) ∙ then.below (2 * n + 1) (omega arith) ∙ ap (λ (z : List ℕ). get_or z (2 * n + 1) 0) first
            ∙ entry-tail cells n ((context + 3) * 64 + (name - (context + 3))) (place * 16 + keys * 2 + bit_of (not (eqb keys 0))) fits
            ∙ ap (λ (x : ℕ). place * 16 + x * 2 + bit_of (not (eqb x 0))) c;
        keys = λ j l. key-same (kept-3 (2 * (n + 1 + j)) (λ z. omega arith)) (kept-3 (2 * (n + 1 + j) + 1) (λ z. omega (arith, p-n))) (then.keys ns o j l);
      }

pub bit-1 : (b : Bool) → bit_of b ≤ 1
bit-1 true = omega arith
bit-1 false = omega arith

pub room-kept : {text : Bytes} {cells cells' : List ℕ} {n from e : ℕ} → KeysRoom text cells n from e → length cells' ≡ length cells → KeysRoom text cells' n from e
room-kept r h = let z = r.room in record { names = r.names; row = r.row; room = omega arith; few = r.few; short = r.short }
