-- A line read part by part: what is missing shows that no key is written there; where nothing is, one is.
use Rattle.std.specs.Prelude.{None, Option, Some}
use Prim.Native.Nat.{ℕ, ◌+◌, ◌≤◌}
use native.Mathlib.Omega.{arith}
use mathlib.Core.Path.{◌≡◌, refl, sym, ◌∙◌, ap}
use mathlib.Core.Bool.{Bool, true, false}
use mathlib.Core.List.{List, [], ◌∷◌, ◌++◌}
use lib.Dec.{eqb}
use lib.ListN.{length, drop, take, length-drop, take-append-drop}
use lib.Seq.{drop-drop, length-take-le}
use Rattle.model.specs.Masks.{clash}
use Rattle.xml.specs.Bytes.{Bytes, bytes, is_name, join_by, distinct, same, bytes_compute}
use Rattle.xml.specs.Read.{common, name_len}
use Rattle.xml.specs.ScanLaws.{name_len-fits}
use Rattle.xml.specs.Names.{name-all, name-some, name-taken}
use Rattle.keys.specs.KeyList.{Key, write_context, is_root_context}
use Rattle.keys.specs.Notation.{Noted, spell}
use Rattle.keys.specs.Rows.{Row, Rowed}
use Rattle.keys.proofs.RowMade.{row-names}
use Rattle.keys.proofs.LineScanLaws.{past, past_one}
use Rattle.keys.specs.ResultLaws.{none-not, some-is}
use Rattle.keys.proofs.LineReadLaws.{word-there, word_fits, there-word}
use Rattle.keys.specs.LineRead.{ContextIs, ContextRead, KeysRead, NameIs, NameRead, LineIs, NoLine}

-- a key that is written at a place, with the context that the place asks for
abbrev Written : Bytes → ℕ → Key → Bytes → Type 0
Written text at k s = Noted k × (is_root_context k.context ≡ eqb at 0) × (drop at text ≡ spell k s)

-- what is written from the name on, and from the key names on
abbrev from_name : Key → Bytes → Bytes
from_name k s = k.name ++ 44 ∷ 32 ∷ 123 ∷ (join_by (bytes ", ") k.key_names ++ 125 ∷ 41 ∷ 41 ∷ s)

module _ (text : Bytes) (at : ℕ) {r : Option ℕ} (read : ContextRead text at r) where
  pub no-context : r ≡ None → NoLine text at
  no-context e k s d root q = none-not (sym e ∙ read.found k.context (32 ∷ 40 ∷ from_name k (10 ∷ s)) d.context-names root q)

  module _ (c : ℕ) (e : r ≡ Some c) where
    after-context : (k : Key) (s : Bytes) → Written text at k s → drop c text ≡ 44 ∷ 32 ∷ 40 ∷ from_name k s
    after-context k s w =
        let x = some-is (sym e ∙ read.found k.context (32 ∷ 40 ∷ from_name k s) w.0.context-names w.1 w.2) in
        ap (λ (z : ℕ). drop z text) x ∙ past (at + 1) text (write_context k.context) (44 ∷ 32 ∷ 40 ∷ from_name k s) (past_one at 40 text (write_context k.context ++ 44 ∷ 32 ∷ 40 ∷ from_name k s) w.2)

    pub no-comma : (common (44 ∷ 32 ∷ 40 ∷ []) (drop c text) ≡ 3 → ⊥) → NoLine text at
    no-comma f k s d root q = f (there-word (44 ∷ 32 ∷ 40 ∷ []) text (from_name k (10 ∷ s)) c (after-context k (10 ∷ s) (d, root, q)))

    pub name-starts : common (44 ∷ 32 ∷ 40 ∷ []) (drop c text) ≡ 3 → c + 3 ≤ length text
    name-starts x = word_fits (44 ∷ 32 ∷ 40 ∷ []) text c (read.real c e).within x

    pub name-stops : {n : ℕ} → common (44 ∷ 32 ∷ 40 ∷ []) (drop c text) ≡ 3 → n ≡ name_len (drop (c + 3) text) → c + 3 + n ≤ length text
    name-stops x q = omega (arith, name_len-fits (drop (c + 3) text), length-drop (c + 3) text, name-starts x)

    module _ (n : ℕ) (q : n ≡ name_len (drop (c + 3) text)) where
      counted : (k : Key) (s : Bytes) → Written text at k s → n ≡ length k.name
      unfolding bytes_compute
      counted k s w =
          let x = past c text (44 ∷ 32 ∷ 40 ∷ []) (from_name k s) (after-context k s w) in
          q ∙ ap name_len x ∙ name-all k.name 44 (32 ∷ 123 ∷ (join_by (bytes ", ") k.key_names ++ 125 ∷ 41 ∷ 41 ∷ s)) w.0.name-named refl

      after-name : (k : Key) (s : Bytes) → Written text at k s → drop (c + 3 + n) text ≡ 44 ∷ 32 ∷ 123 ∷ (join_by (bytes ", ") k.key_names ++ 125 ∷ 41 ∷ 41 ∷ s)
      after-name k s w =
          ap (λ (z : ℕ). drop (c + 3 + z) text) (counted k s w)
          ∙ past (c + 3) text k.name (44 ∷ 32 ∷ 123 ∷ (join_by (bytes ", ") k.key_names ++ 125 ∷ 41 ∷ 41 ∷ s)) (past c text (44 ∷ 32 ∷ 40 ∷ []) (from_name k s) (after-context k s w))

      pub no_name : c + 3 + n ≡ c + 3 → NoLine text at
      no_name z k s d root g = name-some k.name d.name-named (let y = counted k (10 ∷ s) (d, root, g) in omega arith)

      pub no-keys-open : (common (44 ∷ 32 ∷ 123 ∷ []) (drop (c + 3 + n) text) ≡ 3 → ⊥) → NoLine text at
      no-keys-open f k s d root g =
          f (there-word (44 ∷ 32 ∷ 123 ∷ []) text (join_by (bytes ", ") k.key_names ++ 125 ∷ 41 ∷ 41 ∷ 10 ∷ s) (c + 3 + n) (after-name k (10 ∷ s) (d, root, g)))

      module _ (x : common (44 ∷ 32 ∷ 40 ∷ []) (drop c text) ≡ 3) (f : c + 3 + n ≡ c + 3 → ⊥) (y : common (44 ∷ 32 ∷ 123 ∷ []) (drop (c + 3 + n) text) ≡ 3) where
        pub name-read : NameRead text at c (c + 3 + n)
        name-read =
            record {
              found = λ k s d root g. past (c + 3 + n) text (44 ∷ 32 ∷ 123 ∷ []) (join_by (bytes ", ") k.key_names ++ 125 ∷ 41 ∷ 41 ∷ s) (after-name k s (d, root, g));
              real = named;
            }
          where
            a : ContextIs text at c
            a = read.real c e

            fits : c + 3 + n ≤ length text
            fits = name-stops x q

            nm : Bytes
            nm = take n (drop (c + 3) text)

            long : length nm ≡ n
            long = length-take-le n (drop (c + 3) text) (omega (arith, name_len-fits (drop (c + 3) text), q))

            is_name_lem : is_name nm ≡ true
            is_name_lem = ap (λ (z : ℕ). is_name (take z (drop (c + 3) text))) q ∙ name-taken (drop (c + 3) text) (λ z. f (omega (arith, q, z)))

            rest : drop (c + 3) text ≡ nm ++ 44 ∷ 32 ∷ 123 ∷ drop (c + 3 + n + 3) text
            rest = sym (take-append-drop n (drop (c + 3) text)) ∙ ap (λ (z : Bytes). nm ++ z) (drop-drop n (c + 3) text ∙ word-there (44 ∷ 32 ∷ 123 ∷ []) text (c + 3 + n) y)

            named : NameIs text at c (c + 3 + n)
            named =
                record {
                  path = a.path;
                  name-bytes = nm;
                  paths-named = a.named;
                  named = is_name_lem;
                  root = a.root;
                  is = a.is ∙ ap (λ (z : Bytes). 40 ∷ (write_context a.path ++ z)) (word-there (44 ∷ 32 ∷ 40 ∷ []) text c x ∙ ap (λ (z : Bytes). 44 ∷ 32 ∷ 40 ∷ z) rest);
                  context-ends = a.ends;
                  name-ends = omega (arith, long);
                  within = word_fits (44 ∷ 32 ∷ 123 ∷ []) text (c + 3 + n) fits y;
                }

-- ---- from the end of the name on
module _ (text : Bytes) (at c n : ℕ) (name : NameRead text at c n) {r : Option ℕ} (keys : KeysRead text (n + 1) r) where
  keys_from_lem : (k : Key) (s : Bytes) → Written text at k s → drop (n + 1 + 2) text ≡ join_by (bytes ", ") k.key_names ++ 125 ∷ 41 ∷ 41 ∷ s
  keys_from_lem k s w = let z : n + 1 + 2 ≡ n + 3 = omega arith in ap (λ (z : ℕ). drop z text) z ∙ name.found k s w.0 w.1 w.2

  keys_found : (k : Key) (s : Bytes) → Written text at k s → r ≡ Some (n + 1 + 2 + length (join_by (bytes ", ") k.key_names))
  keys_found k s w = keys.found k.key_names (41 ∷ 41 ∷ s) w.0.key-named w.0.few-keys (keys_from_lem k s w)

  pub no-keys-end : r ≡ None → NoLine text at
  no-keys-end e k s d root q = none-not (sym e ∙ keys_found k (10 ∷ s) (d, root, q))

  module _ (m : ℕ) (e : r ≡ Some m) where
    pub no-closing : (common (125 ∷ 41 ∷ 41 ∷ 10 ∷ []) (drop m text) ≡ 4 → ⊥) → NoLine text at
    no-closing f k s d root q =
        let w : Written text at k (10 ∷ s) = (d, root, q) in
        let x = some-is (sym e ∙ keys_found k (10 ∷ s) w) in
        f (there-word (125 ∷ 41 ∷ 41 ∷ 10 ∷ []) text s m (ap (λ (z : ℕ). drop z text) x ∙ past (n + 1 + 2) text (join_by (bytes ", ") k.key_names) (125 ∷ 41 ∷ 41 ∷ 10 ∷ s) (keys_from_lem k (10 ∷ s) w)))

    row_of : (k : Key) (s : Bytes) → Written text at k s → Row 2 text m (n + 1) k.key_names
    row_of k s w =
        row-names text m (n + 1) k.key_names (41 ∷ 41 ∷ s) w.0.key-named (let z = name.real.within in omega arith) (keys_from_lem k s w) (some-is (sym e ∙ keys_found k s w))

    pub not-once : {b : Bool} → ((ns : List Bytes) → Row 2 text m (n + 1) ns → b ≡ distinct same ns) → b ≡ false → NoLine text at
    not-once f g k s d root q = clash d.keys-once (sym (f k.key_names (row_of k (10 ∷ s) (d, root, q))) ∙ g)

    pub closing-fits : m ≤ length text
    closing-fits = (keys.real m e).within

    module _ (x : common (125 ∷ 41 ∷ 41 ∷ 10 ∷ []) (drop m text) ≡ 4) where
      there : drop m text ≡ 125 ∷ 41 ∷ 41 ∷ 10 ∷ drop (m + 4) text
      there = word-there (125 ∷ 41 ∷ 41 ∷ 10 ∷ []) text m x

      keys-row : Row 2 text m (n + 1) (keys.real m e).names
      keys-row =
          row-names text m (n + 1) (keys.real m e).names (41 ∷ 41 ∷ 10 ∷ drop (m + 4) text) (keys.real m e).named (let z = name.real.within in omega arith)
          ((keys.real m e).is ∙ ap (λ (z : Bytes). join_by (bytes ", ") (keys.real m e).names ++ z) there) (keys.real m e).ends

      pub keys-rowed : Rowed 2 text m (n + 1)
      keys-rowed = record { names = (keys.real m e).names; row = keys-row }

      pub line-is : {b : Bool} → ((ns : List Bytes) → Row 2 text m (n + 1) ns → b ≡ distinct same ns) → b ≡ true → LineIs text at c n m
      line-is f g =
          let a = keys.real m e in
          let h = name.real in
          let z : n + 1 + 2 ≡ n + 3 = omega arith in
          let rest = sym (ap (λ (z : ℕ). drop z text) z) ∙ a.is ∙ ap (λ (z : Bytes). join_by (bytes ", ") a.names ++ z) there in
          record {
            key = record { context = h.path; name = h.name-bytes; key_names = a.names };
            key-noted = record { context-names = h.paths-named; name-named = h.named; key-named = a.named; few-keys = a.few; keys-once = sym (f a.names keys-row) ∙ g };
            root = h.root;
            is = h.is ∙ ap (λ (y : Bytes). 40 ∷ (write_context h.path ++ 44 ∷ 32 ∷ 40 ∷ (h.name-bytes ++ 44 ∷ 32 ∷ 123 ∷ y))) rest;
            context-ends = h.context-ends;
            name-ends = h.name-ends;
            names-end = omega (arith, a.ends);
            within = word_fits (125 ∷ 41 ∷ 41 ∷ 10 ∷ []) text m closing-fits x;
          }
