-- Attributes at places of a text: what the byte before one says, and how far attributes go, their names being noted in cells.
use Prim.Native.Nat.{ℕ, suc, ◌+◌, ◌-◌, ◌≤◌, ◌<◌}
use Prim.Native.Char.{code}
use Rattle.std.proofs.Common.{arith, ap₂, sym, ◌∙◌, subst, append_assoc, eq-eqb, ne_eqb, eqb-true, length-append, length-drop, drop_of_length-le, drop-drop, get_or-drop, length-take-le}
use Rattle.std.proofs.Math.Path.{◌≡◌, ap}
use Rattle.std.specs.Prelude.{refl, Bool, true, ◌&&◌, ◌||◌, List, [], ◌∷◌, ◌++◌, length, take, drop, get_or, Result, Ok, Err, Option, Some, None}
use Rattle.std.proofs.Math.Bool.{false}
use Rattle.std.proofs.lemmas.Bool.{eqb-false}
use Rattle.std.proofs.Math.Dec.{eqb}
use Rattle.std.proofs.Math.Seq.{slice, split_at, take-append-add}
use Rattle.xml.specs.Bytes.{Bytes, any, same, is_empty, is_name}
use Rattle.xml.specs.Tags.{parts, is_quote, is_new, fresh, new_len}
use Rattle.xml.specs.Read.{name_len, value, attr_byte, attrs}
use Rattle.xml.specs.Truth.{ok-inj, some-inj, by-test, clash, both_true, not_so, or-second}
use Rattle.xml.specs.TapeLaws.{slice-part}
use Rattle.xml.specs.TextLaws.{at-cons, place}
use Rattle.xml.specs.StepLaws.{in-range}
use Rattle.xml.specs.ScanLaws.{name_len-fits}
use Rattle.xml.specs.Values.{ValueIn, value-range}
use Rattle.xml.specs.Names.{name-all, name-taken, name-short, name-bytes}
use Rattle.xml.specs.Fresh.{new-name, new-unused, fresh-complete, fresh_len-fits, new_len-name}
use Rattle.xml.specs.Attrs.{value_at, Begins, Named, AttrCase, over, unnamed, unquoted, stops, goes, attr-case, attr-over, attr-unnamed, attr-unquoted, attr-stops, attr-goes, AttrReach, attr-reach, attr_turn, attrs-cons, attrs-range, quote-in, equals-name, After, one-step, Stands, attr-stands}
use Rattle.xml.specs.TagLaws.{parts-one}
use Rattle.xml.specs.NameCells.{NameCells, SomeNames, Below}
use Rattle.xml.specs.NameCellLaws.{no_names}
use Rattle.xml.specs.declared.ReadError.{ReadError}
use Rattle.xml.specs.declared.ReadError.TheVariants.{Wrong, Full}

-- ---- what the byte after a name or an attribute says, with the length m of the name of an attribute that goes on
abbrev with_name : ℕ → Result (Option (ℕ × ℕ)) ℕ → Result (Option (ℕ × ℕ)) ℕ
with_name m (Ok None) = Ok None
with_name m (Ok (Some (k, r))) = Ok (Some (k, m))
with_name m (Err k) = Err k

unfoldable pub attr_named : List Bytes → ℕ → Bytes → Result (Option (ℕ × ℕ)) ℕ
attr_named used b s = with_name (new_len used s) (attr_byte used b s)

module _ (used : List Bytes) (s : Bytes) where
  pub named_other : (b : ℕ) → (b ≡ code " " → ⊥) → attr_named used b s ≡ Ok None
  unfolding attr_named
  named_other b d = ap (with_name (new_len used s)) (attr-over used b s (rw (ne_eqb b (code " ") d)))

  pub named-never : fresh 32 used [] ≡ false → attr_named used (code " ") s ≡ Ok None
  unfolding attr_named
  named-never e = ap (with_name (new_len used s)) (attr-over used (code " ") s e)

  -- no new name stands there
  pub named-old : fresh 32 used [] ≡ true → is_new used (take (name_len s) s) ≡ false → attr_named used (code " ") s ≡ Err (1 + new_len used s)
  unfolding attr_named
  named-old f old = ap (with_name M) (attr-unnamed used (code " ") s f (not_so (is_new used (take M s) && eqb (get_or s M 0) (code "=")) wrong))
    where
      M : ℕ
      M = new_len used s

      wrong : is_new used (take M s) && eqb (get_or s M 0) (code "=") ≡ true → ⊥
      wrong e =
          let n = both_true (is_new used (take M s)) (eqb (get_or s M 0) (code "=")) e in
          let c = eqb-true (get_or s M 0) (code "=") n.1 in
          let l = in-range s M 60 c in
          let w = split_at s M 0 l ∙ ap (λ (x : ℕ). take M s ++ x ∷ drop (suc M) s) c in
          let m = ap name_len w ∙ name-all (take M s) (code "=") (drop (suc M) s) (new-name used (take M s) n.0) equals-name ∙ length-take-le M s (fresh_len-fits 32 used [] s) in
          clash (sym n.0 ∙ ap (λ (x : ℕ). is_new used (take x s)) (sym m) ∙ old)

-- a new name of m bytes stands there
module _ (used : List Bytes) (src : Bytes) (at m : ℕ) (l : m ≡ name_len (drop at src)) (new : is_new used (take m (drop at src)) ≡ true) where
  abbrev Here : Result (Option (ℕ × ℕ)) ℕ
  Here = attr_named used (code " ") (drop at src)

  len : new_len used (drop at src) ≡ m
  len = new_len-name used (drop at src) (subst (λ (x : ℕ). is_new used (take x (drop at src)) ≡ true) l new) ∙ sym l

  begins : Begins used (code " ") (drop at src)
  begins = fresh-complete (take m (drop at src)) 32 used [] new (name-short (take m (drop at src)) (new-name used (take m (drop at src)) new))

  name-is : (t : Bool) → eqb (get_or src (at + m) 0) (code "=") ≡ t → Named used (code " ") (drop at src) t
  name-is t e =
      ap (λ (x : ℕ). is_new used (take x (drop at src)) && eqb (get_or (drop at src) x 0) (code "=")) len
      ∙ rw new (ap (λ (x : ℕ). eqb x (code "=")) (get_or-drop at src m 0) ∙ e)

  pub new-unnamed : (get_or src (at + m) 0 ≡ code "=" → ⊥) → Here ≡ Err (1 + m)
  unfolding attr_named
  new-unnamed d =
      ap (with_name (new_len used (drop at src))) (attr-unnamed used (code " ") (drop at src) begins (name-is false (ne_eqb (get_or src (at + m) 0) (code "=") d)))
      ∙ ap (λ (x : ℕ). Err (1 + x)) len

  module _ (equals : get_or src (at + m) 0 ≡ code "=") (q : ℕ) (is : q ≡ get_or src (at + m + 1) 0) where
    named : Named used (code " ") (drop at src) true
    named = name-is true (eq-eqb (get_or src (at + m) 0) (code "=") equals)

    quote-is : get_or (drop at src) (1 + new_len used (drop at src)) 0 ≡ q
    quote-is =
        let z : at + (1 + m) ≡ at + m + 1 = omega arith in
        ap (λ (x : ℕ). get_or (drop at src) (1 + x) 0) len ∙ get_or-drop at src (1 + m) 0 ∙ ap (λ (x : ℕ). get_or src x 0) z ∙ sym is

    value-is : value_at (drop at src) (new_len used (drop at src)) ≡ value q 0 0 (drop (at + m + 2) src)
    value-is =
        let z : at + (2 + m) ≡ at + m + 2 = omega arith in
        ap₂ (λ (x : ℕ) (y : Bytes). value x 0 0 y) quote-is (ap (λ (x : ℕ). drop (2 + x) (drop at src)) len ∙ drop-drop (2 + m) at src ∙ ap (λ (x : ℕ). drop x src) z)

    pub new-unquoted : is_quote q ≡ false → Here ≡ Err (2 + m)
    unfolding attr_named
    new-unquoted d =
        ap (with_name (new_len used (drop at src))) (attr-unquoted used (code " ") (drop at src) begins named (ap is_quote quote-is ∙ d)) ∙ ap (λ (x : ℕ). Err (2 + x)) len

    module _ (quoted : is_quote q ≡ true) (k : ℕ) where
      pub new-stops : value q 0 0 (drop (at + m + 2) src) ≡ Err k → Here ≡ Err (3 + m + k)
      unfolding attr_named
      new-stops e =
          ap (with_name (new_len used (drop at src))) (attr-stops used (code " ") (drop at src) k begins named (ap is_quote quote-is ∙ quoted) (value-is ∙ e))
          ∙ ap (λ (x : ℕ). Err (3 + x + k)) len

      pub new-goes : value q 0 0 (drop (at + m + 2) src) ≡ Ok k → Here ≡ Ok (Some (3 + m + k, m))
      unfolding attr_named
      new-goes e =
          ap (with_name (new_len used (drop at src))) (attr-goes used (code " ") (drop at src) k begins named (ap is_quote quote-is ∙ quoted) (value-is ∙ e))
          ∙ ap (λ (x : ℕ). Ok (Some (3 + x + k, x))) len

-- the part of a text in which a name of m bytes stands
pub part_same : (s : Bytes) (from m : ℕ) → take (from + m - from) s ≡ take m s
part_same s from m = let z : from + m - from ≡ m = omega arith in rw z refl

pub part-begins : (s : Bytes) (from m : ℕ) → m ≡ name_len s → is_empty (take (from + m - from) s) || is_name (take (from + m - from) s) ≡ true
unfolding is_empty
part-begins s from m l =
    rw (part_same s from m)
    (by-test (eqb m 0) (λ e. rw (eqb-true m 0 e)) (λ e. or-second (is_empty (take m s)) (is_name (take m s)) (rw l (name-taken s (λ z. eqb-false m 0 e (l ∙ z))))))

-- how far its bytes reach
pub name_in_lem : (src : Bytes) (at m : ℕ) → at ≤ length src → m ≡ name_len (drop at src) → at + m ≤ length src
name_in_lem src at m h l = omega (arith, name_len-fits (drop at src), length-drop at src)

pub quote-here : (src : Bytes) (i q : ℕ) → q ≡ get_or src i 0 → is_quote q ≡ true → i < length src
quote-here src i q e h = quote-in src i (ap is_quote (sym e) ∙ h)

pub value_in_lem : (q : ℕ) (s : Bytes) (r : Result ℕ ℕ) → value q 0 0 s ≡ r → place r ≤ length s
value_in_lem q s r e = at r (subst (ValueIn (0 + 0) (0 + length s)) e (value-range q 0 0 s (omega arith)))
  where
    at : (r : Result ℕ ℕ) → ValueIn (0 + 0) (0 + length s) r → place r ≤ length s
    at (Ok k) h = omega arith
    at (Err k) h = omega arith

-- ---- what an answer says of the text
module _ (used : List Bytes) (b : ℕ) (s : Bytes) where
  over-is : attr_named used b s ≡ Ok None → attr_byte used b s ≡ Ok None
  unfolding attr_named
  over-is e = at (attr_byte used b s) e
    where
      at : (o : Result (Option (ℕ × ℕ)) ℕ) → with_name (new_len used s) o ≡ Ok None → o ≡ Ok None
      at (Ok None) h = h
      at (Ok (Some (k, r))) h = cc
      at (Err k) h = h

  off-is : (k : ℕ) → attr_named used b s ≡ Err k → attr_byte used b s ≡ Err k
  unfolding attr_named
  off-is k e = at (attr_byte used b s) e
    where
      at : (o : Result (Option (ℕ × ℕ)) ℕ) → with_name (new_len used s) o ≡ Err k → o ≡ Err k
      at (Ok None) h = h
      at (Ok (Some (j, r))) h = cc
      at (Err j) h = h

  on-stands : (k m : ℕ) → attr_named used b s ≡ Ok (Some (k, m)) → Stands used b s k × (new_len used s ≡ m)
  unfolding attr_named
  on-stands k m e = at (attr_byte used b s) (attr-case used b s) e
    where
      apart : {A : Type 0} {i : ℕ} → ◌≡◌ {A = Result (Option (ℕ × ℕ)) ℕ} (Err i) (Ok (Some (k, m))) → A
      apart h = let z : ◌≡◌ {A = ℕ} 0 1 = cc in absurd (omega arith)

      at : (o : Result (Option (ℕ × ℕ)) ℕ) → AttrCase used b s o → with_name (new_len used s) o ≡ Ok (Some (k, m)) → Stands used b s k × (new_len used s ≡ m)
      at o (over x) h = let z : ◌≡◌ {A = ℕ} 0 1 = cc in absurd (omega arith)
      at o (unnamed x y) h = apart h
      at o (unquoted x y z) h = apart h
      at o (stops x y z v) h = apart h
      at o (goes {k = j} x y z v) h =
          let p = some-inj (ok-inj h) in
          let i : 3 + new_len used s + j ≡ k = ap (λ x. x.0) p in
          let l : new_len used s ≡ m = ap (λ x. x.1) p in
          (subst (Stands used b s) i (attr-stands used b s j x y z v), l)

-- ---- attributes that were passed: those with the names `used`, of which there are k, up to the place j
pub record Gone (src : Bytes) (at : ℕ) (used : List Bytes) (j k : ℕ) : Type 0 where
  pub few : at + k ≤ j
  pub to : j ≤ length src
  pub done : Bytes
  pub split : drop at src ≡ done ++ drop j src
  pub long : at + length done ≡ j
  pub parted : (u : Bytes) → length (parts 0 (done ++ u)) ≡ k + length (parts 0 u)
  pub is : attrs [] 0 0 (drop at src) ≡ attrs used 0 (j - at) (drop j src)

gone-start : {src : Bytes} {at : ℕ} → at ≤ length src → Gone src at [] at 0
gone-start {src} {at} h =
    let z : at - at ≡ 0 = omega arith in
    record { few = omega arith; to = h; done = []; split = refl; long = omega arith; parted = λ u. omega arith; is = rw z refl }

module _ {src : Bytes} {at : ℕ} {used : List Bytes} {j k : ℕ} (x : Gone src at used j k) where
  pub gone-end : length src ≤ j → attrs [] 0 0 (drop at src) ≡ Ok (j - at)
  unfolding attrs
  gone-end h = x.is ∙ ap (attrs used 0 (j - at)) (drop_of_length-le src h)

  module _ (here : j < length src) where
    turned : (o : Result (Option (ℕ × ℕ)) ℕ) → attr_byte used (get_or src j 0) (drop (j + 1) src) ≡ o → attrs [] 0 0 (drop at src) ≡ attr_turn used (j - at) (drop (j + 1) src) o
    turned o e =
        x.is ∙ ap (attrs used 0 (j - at)) (at-cons src 0 0 j here) ∙ attrs-cons used (j - at) (get_or src j 0) (drop (j + 1) src) ∙ ap (attr_turn used (j - at) (drop (j + 1) src)) e

    pub gone-over : attr_named used (get_or src j 0) (drop (j + 1) src) ≡ Ok None → attrs [] 0 0 (drop at src) ≡ Ok (j - at)
    gone-over e = turned (Ok None) (over-is used (get_or src j 0) (drop (j + 1) src) e)

    pub gone-off : (n : ℕ) → attr_named used (get_or src j 0) (drop (j + 1) src) ≡ Err n → attrs [] 0 0 (drop at src) ≡ Err (j - at + n)
    gone-off n e = turned (Err n) (off-is used (get_or src j 0) (drop (j + 1) src) n e)

    pub off-fits : (n : ℕ) → attr_named used (get_or src j 0) (drop (j + 1) src) ≡ Err n → j + n ≤ length src
    off-fits n e =
        let r = subst (AttrReach (length (drop (j + 1) src))) (off-is used (get_or src j 0) (drop (j + 1) src) n e) (attr-reach used (get_or src j 0) (drop (j + 1) src)) in
        omega (arith, length-drop (j + 1) src)

    module _ (n m : ℕ) (told : attr_named used (get_or src j 0) (drop (j + 1) src) ≡ Ok (Some (n, m))) where
      pub on_fits : (j + 1 + n ≤ length src) × (j + 1 + m ≤ length src) × (m ≤ 32)
      on_fits =
          let S = drop (j + 1) src in
          let t = on-stands used (get_or src j 0) S n m told in
          let a = t.0 in
          let M = new_len used S in
          let f = fresh_len-fits 32 used [] S in
          omega (
            arith,
            t.1,
            a.long,
            ap length a.is,
            length-append (take M S) (code "=" ∷ a.quote ∷ (a.raw ++ a.quote ∷ a.rest)),
            length-append a.raw (a.quote ∷ a.rest),
            length-take-le M S f,
            name-short (take M S) (new-name used (take M S) a.new),
            length-drop (j + 1) src,
          )

      gone-on : Gone src at (take m (drop (j + 1) src) ∷ used) (j + 1 + n) (k + 1)
      gone-on =
          let S = drop (j + 1) src in
          let b : ℕ = get_or src j 0 in
          let t = on-stands used b S n m told in
          let a = t.0 in
          let q = a.quote in
          let name = take (new_len used S) S in
          let X = code " " ∷ After name q a.raw [] in
          let nl : length name ≡ new_len used S = length-take-le (new_len used S) S (fresh_len-fits 32 used [] S) in
          let al = a.long in
          let fits = on_fits in
          let few = x.few in
          let long = x.long in
          let xl : length X ≡ 1 + n = omega (arith, length-append name (code "=" ∷ q ∷ (a.raw ++ q ∷ [])), length-append a.raw (q ∷ [])) in
          let r : a.rest ≡ drop (j + 1 + n) src = sym a.after ∙ drop-drop n (j + 1) src in
          let h : drop j src ≡ code " " ∷ After name q a.raw a.rest = at-cons src 0 0 j here ∙ a.is in
          let m' : j - at + (4 + length name + length a.raw) ≡ j + 1 + n - at = omega arith in
          subst (λ (i : ℕ). Gone src at (take i S ∷ used) (j + 1 + n) (k + 1)) t.1
          (record {
            few = omega arith;
            to = fits.0;
            done = x.done ++ X;
            split = x.split ∙ ap (λ (y : Bytes). x.done ++ y) h ∙ sym (joined x.done name a.raw q a.rest) ∙ ap ((x.done ++ X) ++◌) r;
            long = omega (arith, length-append x.done X);
            parted = λ u. omega (
              arith,
              ap (λ (y : Bytes). length (parts 0 y)) (joined x.done name a.raw q u),
              x.parted (code " " ∷ After name q a.raw u),
              ap length (parts-one name a.raw u q (name-bytes name (new-name used name a.new)) a.within),
            );
            is = x.is ∙ ap (attrs used 0 (j - at)) h ∙ one-step used name q a.rest a.new a.quoted a.means a.within (j - at)
                ∙ ap₂ (λ (i : ℕ) (y : Bytes). attrs (name ∷ used) 0 i y) m' r;
          })
        where
          joined : (d n s : Bytes) (q : ℕ) (u : Bytes) → (d ++ (code " " ∷ After n q s [])) ++ u ≡ d ++ (code " " ∷ After n q s u)
          joined d n s q u = simp append_assoc

  -- the whole tag has them
  gone-parts : (n : ℕ) → attrs [] 0 0 (drop at src) ≡ Ok n → k ≤ length (parts 0 (take n (drop at src)))
  gone-parts n e =
      let r = subst (λ (i : Result ℕ ℕ). j - at + 0 ≤ place i) (sym x.is ∙ e) (attrs-range used 0 (j - at) (drop j src) (omega arith)).0 in
      let l = x.long in
      let z : n ≡ length x.done + (n - length x.done) = omega arith in
      let t : take n (drop at src) ≡ x.done ++ take (n - length x.done) (drop j src) =
      ap₂ take z x.split ∙ take-append-add x.done (drop j src) (n - length x.done)
      in
      omega (arith, ap (λ (y : Bytes). length (parts 0 y)) t, x.parted (take (n - length x.done) (drop j src)))

-- ---- how far attributes go, where their names are noted in the cells from base on, of which there are `size` in all
abbrev pub AttrsRead : Bytes → ℕ → ℕ → Result ℕ ReadError → Type 0
AttrsRead s size base (Ok n) = attrs [] 0 0 s ≡ Ok n
AttrsRead s size base (Err (Wrong n)) = attrs [] 0 0 s ≡ Err n
AttrsRead s size base (Err Full) = (size < base + length s) × ((n : ℕ) → attrs [] 0 0 s ≡ Ok n → size < base + length (parts 0 (take n s)))

pub record Noting (src : Bytes) (at base : ℕ) (before cells : List ℕ) (j k : ℕ) : Type 0 where
  pub used : List Bytes
  pub names : NameCells src cells base k used
  pub below : Below before cells base
  pub gone : Gone src at used j k

pub noting-start : {src : Bytes} {at base : ℕ} {cells : List ℕ} → at ≤ length src → base ≤ length cells → Noting src at base cells cells at 0
noting-start h l = record { used = []; names = no_names l; below = record { long = refl; kept = λ i g. refl }; gone = gone-start h }

module _ {src : Bytes} {at base : ℕ} {before cells : List ℕ} {j k : ℕ} (x : Noting src at base before cells j k) where
  pub noting-some : SomeNames src cells base k
  noting-some = record { used = x.used; names = x.names }

  pub noting-room : base + k ≤ length cells
  noting-room = x.names.room

  module _ (here : j < length src) (n m : ℕ) (told : (used : List Bytes) → NameCells src cells base k used → Ok (Some (n, m)) ≡ attr_named used (get_or src j 0) (drop (j + 1) src)) where
    -- the name is not noted yet
    pub noting-new : (used : List Bytes) → NameCells src cells base k used → any (same (slice (j + 1) (j + 1 + m) src)) used ≡ false
    noting-new used h =
        let t = on-stands used (get_or src j 0) (drop (j + 1) src) n m (sym (told used h)) in
        ap (λ (w : Bytes). any (same w) used) (slice-part (j + 1) m src ∙ ap (λ (i : ℕ). take i (drop (j + 1) src)) (sym t.1))
        ∙ new-unused used (take (new_len used (drop (j + 1) src)) (drop (j + 1) src)) t.0.new

    pub noting-fits : (j + 1 + n ≤ length src) × (j + 1 + m ≤ length src) × (m ≤ 32)
    noting-fits = on_fits x.gone here n m (sym (told x.used x.names))

    -- it is noted
    pub noting-on : {later : List ℕ} → ((used : List Bytes) → NameCells src cells base k used → NameCells src later base (k + 1) (slice (j + 1) (j + 1 + m) src ∷ used)) → Below cells later base →
        Noting src at base before later (j + 1 + n) (k + 1)
    noting-on noted b =
        record {
          used = slice (j + 1) (j + 1 + m) src ∷ x.used;
          names = noted x.used x.names;
          below = record { long = b.long ∙ x.below.long; kept = λ i h. b.kept i h ∙ x.below.kept i h };
          gone = subst (λ (w : Bytes). Gone src at (w ∷ x.used) (j + 1 + n) (k + 1)) (sym (slice-part (j + 1) m src)) (gone-on x.gone here n m (sym (told x.used x.names)));
        }

    -- there is no room to note it
    pub noting-full : base + k ≡ length cells → AttrsRead (drop at src) (length before) base (Err Full)
    noting-full e =
        let g = gone-on x.gone here n m (sym (told x.used x.names)) in
        let l = x.below.long in
        (omega (arith, g.few, g.to, length-drop at src), λ i h. omega (arith, gone-parts g i h))
