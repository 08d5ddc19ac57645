-- A version's text received: what is asked of its tape, what the answer says, and a law for each answer.
use Rattle.std.specs.Prelude.{Option, Some, None, ℕ, ◌≤◌, ◌≡◌, refl, Bool, true, false, length, Result as Tried, Ok, Err}
use Rattle.std.proofs.Math.Path.{sym}
use Rattle.std.proofs.Common.{◌∙◌, subst, arith}
use mathlib.Core.List.{List, []}
use Rattle.xml.specs.Bytes.{Bytes, all, is_white}
use Rattle.xml.specs.Forest.{Forest, end, Tidy}
use Rattle.xml.specs.Read.{whole, broken, unescape}
use Rattle.xml.specs.CompareLaws.{white-meant}
use Rattle.xml.specs.Tape.{Tape, at-end}
use Rattle.xml.specs.State.{Filled, Replied}
use Rattle.xml.specs.Fits.{full-broken, version-fits}
use Rattle.keys.specs.Result.{Refusal as Row, number_of, r5, r6, r7, r8, r9, refused, ok}
use Rattle.keys.specs.KeyList.{KeyList}
use Rattle.keys.specs.Version.{version, read_version, parsed, drop_white, too_large, misplaced, unkeyed, doubled, ordered}
use Rattle.keys.specs.VersionRead.{read-rooted, read_version-tidy, parsed-received}
use Rattle.keys.specs.Table.{Table}
use Rattle.keys.specs.Loading.{Tabled}
use Rattle.keys.specs.Walks.{Walk, OfVersion, walk_top}
use Rattle.keys.specs.Arrange.{VersionFit, Ordered, AnswerOf, Answers}
use Rattle.versions.specs.Vacant.{white-vacant}
use Rattle.xml.specs.declared.ReadError.{ReadError}
use Rattle.xml.specs.declared.ReadError.TheVariants.{Wrong, Full}
use Rattle.keys.specs.Meant.{row_of}
use Rattle.keys.specs.declared.refusal.Refusal.{Refusal}
use Rattle.archive.specs.Later.{Later}

-- a version's text was read onto the tape
pub record OnTape (src cells : List ℕ) (count : ℕ) : Type 0 where
  pub forest : Forest
  pub is : read_version src ≡ whole forest
  pub tape : Tape src cells 0 count forest
  pub few : count ≤ 8192

-- the nodes 0 to m are the version of the text
pub record Version (K : KeyList) (src left : List ℕ) (m : ℕ) : Type 0 where
  pub forest : Forest
  pub is : version K src ≡ ok forest
  pub tape : Tape src left 0 m forest
  pub few : m ≤ 512

-- the text is refused under this row, which is not that of the first step
pub record SentBack (K : KeyList) (src : Bytes) (w : Row) : Type 0 where
  pub is : version K src ≡ refused w
  pub later : Later (number_of w)

-- what receiving a text answers: so many nodes, or its refusal
abbrev pub Receives : Bytes → List ℕ → ℕ → List ℕ → List ℕ → Tried ℕ Refusal → Type 0
Receives key_text table n src left (Ok m) = (K : KeyList) → Table key_text table n K → Version K src left m
Receives key_text table n src left (Err w) = (K : KeyList) → Table key_text table n K → SentBack K src (row_of w)

pub walked : {key_text : Bytes} {table : List ℕ} {n : ℕ} {src cells : List ℕ} {count : ℕ} → Tabled key_text table n → OnTape src cells count
    → Walk key_text table n 128 src cells 0 count
walked t g = walk_top t.table g.tape

-- ---- a text of white space alone
-- what the test of the whole text says
pub white-tells : (src : List ℕ) {b c : Bool} → b ≡ all is_white (unescape 0 src) → b ≡ c → all is_white src ≡ c
white-tells src e d = sym (white-meant src) ∙ sym e ∙ d

pub none-there : {key_text : Bytes} {table : List ℕ} {n : ℕ} {src left : List ℕ} → all is_white src ≡ true → (K : KeyList) → Table key_text table n K → Version K src left 0
none-there {src = src} e K t = record { forest = end; is = white-vacant K src e; tape = at-end refl; few = omega arith }

-- ---- the reader's answers of any other, and those of `arrange`
module _ (src before cells : List ℕ) {r : Tried ℕ ReadError} (black : all is_white src ≡ false) where
  pub read_done : {count : ℕ} → length src ≤ 16384 → r ≡ Ok count → Replied false src before cells r → OnTape src cells count
  read_done {count} l e x = let g : Filled false src before cells count = subst (Replied false src before cells) e x in
      record { forest = g.forest; is = read-rooted src black ∙ g.is; tape = g.tape; few = omega (arith, g.count, version-fits false src g.forest g.is) }

  pub read-refused : (e : ReadError) → r ≡ Err e → Replied false src before cells r → length src ≤ length cells → (p : ℕ) × (read_version src ≡ broken p)
  read-refused (Wrong p) e x l = (p, read-rooted src black ∙ subst (Replied false src before cells) e x)
  read-refused Full e x l = let f = full-broken false src cells (subst (Replied false src before cells) e x) l in (f.0, read-rooted src black ∙ f.1)

module _ {key_text : Bytes} {table : List ℕ} {n : ℕ} {src cells : List ℕ} {count : ℕ} (left : List ℕ) {r : Option ℕ} where
  pub arranged-done : {m : ℕ} → r ≡ Some m → Answers key_text table n src cells count left r
      → (K : KeyList) (f : Forest) → Table key_text table n K → Tape src cells 0 count f → Ordered K (drop_white K [] f) src left m
  arranged-done e x K f t h = subst (AnswerOf K (drop_white K [] f) src left) e (x K f t h)

  pub arranged-double : r ≡ None → Answers key_text table n src cells count left r
      → (K : KeyList) (f : Forest) → Table key_text table n K → Tape src cells 0 count f → doubled K [] (drop_white K [] f) ≡ true
  arranged-double e x K f t h = subst (AnswerOf K (drop_white K [] f) src left) e (x K f t h)

-- ---- the three tests' answers
abbrev pub Large : Bytes → List ℕ → ℕ → List ℕ → List ℕ → ℕ → Bool → Type 0
Large key_text table n src cells count b = OfVersion key_text table n src cells count (λ K f. Tidy false f → b ≡ too_large (drop_white K [] f))

abbrev pub Misplaced : Bytes → List ℕ → ℕ → List ℕ → List ℕ → ℕ → Bool → Type 0
Misplaced key_text table n src cells count b = OfVersion key_text table n src cells count (λ K f. b ≡ misplaced K [] (drop_white K [] f))

abbrev pub Unkeyed : Bytes → List ℕ → ℕ → List ℕ → List ℕ → ℕ → Bool → Type 0
Unkeyed key_text table n src cells count b = OfVersion key_text table n src cells count (λ K f. b ≡ unkeyed K [] (drop_white K [] f))

-- ---- a law for each answer
pub sent-5 : {key_text : Bytes} {table : List ℕ} {n : ℕ} {src : List ℕ} {p : ℕ} → read_version src ≡ broken p → (K : KeyList) → Table key_text table n K → SentBack K src r5
unfolding version parsed number_of
sent-5 {src = src} e K t = record { later = refl; is = rw (parsed-received src, e) }

module _ {key_text : Bytes} {table : List ℕ} {n : ℕ} {src cells : List ℕ} {count : ℕ} (g : OnTape src cells count) where
  large : {b c : Bool} → Large key_text table n src cells count b → b ≡ c → (K : KeyList) → Table key_text table n K → too_large (drop_white K [] g.forest) ≡ c
  large a e K t = sym (a K t g.forest g.tape (read_version-tidy src g.forest g.is).0) ∙ e

  pub sent-6 : {b : Bool} → Large key_text table n src cells count b → b ≡ true → (K : KeyList) → Table key_text table n K → SentBack K src r6
  unfolding version parsed number_of
  sent-6 a e K t = record { later = refl; is = rw (parsed-received src, g.is, large a e K t) }

  module _ {b : Bool} (a : Large key_text table n src cells count b) (e : b ≡ false) where
    pub sent-7 : {c : Bool} → Misplaced key_text table n src cells count c → c ≡ true → (K : KeyList) → Table key_text table n K → SentBack K src r7
    unfolding version parsed number_of
    sent-7 m d K t = record { later = refl; is = rw (parsed-received src, g.is, large a e K t, sym (m K t g.forest g.tape) ∙ d) }

    module _ {c : Bool} (m : Misplaced key_text table n src cells count c) (d : c ≡ false) where
      pub sent-8 : {u : Bool} → Unkeyed key_text table n src cells count u → u ≡ true → (K : KeyList) → Table key_text table n K → SentBack K src r8
      unfolding version parsed number_of
      sent-8 k h K t = record { later = refl; is = rw (parsed-received src, g.is, large a e K t, sym (m K t g.forest g.tape) ∙ d, sym (k K t g.forest g.tape) ∙ h) }

      module _ {u : Bool} (k : Unkeyed key_text table n src cells count u) (h : u ≡ false) where
        pub arrange-fit : Tabled key_text table n → VersionFit key_text table n src cells count
        arrange-fit t =
            record {
              key_list = t.keys;
              tabled = t.table;
              forest = g.forest;
              tape = g.tape;
              small = large a e t.keys t.table;
              placed = sym (m t.keys t.table g.forest g.tape) ∙ d;
              keyed = sym (k t.keys t.table g.forest g.tape) ∙ h;
            }

        pub sent-9 : ((K : KeyList) (f : Forest) → Table key_text table n K → Tape src cells 0 count f → doubled K [] (drop_white K [] f) ≡ true)
            → (K : KeyList) → Table key_text table n K → SentBack K src r9
        unfolding version parsed number_of
        sent-9 x K t =
            record {
              later = refl;
              is = rw (parsed-received src, g.is, large a e K t, sym (m K t g.forest g.tape) ∙ d, sym (k K t g.forest g.tape) ∙ h, x K g.forest t g.tape);
            }

        pub received : {left : List ℕ} {j : ℕ} → ((K : KeyList) (f : Forest) → Table key_text table n K → Tape src cells 0 count f → Ordered K (drop_white K [] f) src left j)
            → (K : KeyList) → Table key_text table n K → Version K src left j
        unfolding version parsed
        received x K t =
            let o = x K g.forest t g.tape in
            record {
              forest = ordered K [] (drop_white K [] g.forest);
              is = rw (parsed-received src, g.is, large a e K t, sym (m K t g.forest g.tape) ∙ d, sym (k K t g.forest g.tape) ∙ h, o.single);
              tape = o.tape;
              few = o.few;
            }
