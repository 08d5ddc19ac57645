-- What the scanner of a line answers: all that is in the notation is found, and what is found is in it.
use Rattle.std.specs.Prelude.{None, Option, Some, ℕ, ◌+◌, ◌≤◌, ◌≡◌, Bool, true, false, List, [], ◌∷◌, ◌++◌, eqb, length, drop}
use Rattle.std.proofs.Common.{subst}
use Rattle.xml.specs.Bytes.{Bytes, bytes, all, join_by, is_name}
use Rattle.keys.specs.Result.{refused, r3, ok, ◌>>=◌}
use Rattle.keys.specs.KeyList.{Path, Key, KeyList, write_context, is_root_context, contexts_in_notation, key_list}
use Rattle.keys.specs.Notation.{Noted, AllNoted, spell, write_lines, keys_read}
use Rattle.keys.specs.declared.notation.Line.{Line}

-- a context that ends at e: only the first line's is `/`
pub record ContextIs (text : Bytes) (at e : ℕ) : Type 0 where
  pub path : Path
  pub named : all is_name path ≡ true
  pub root : is_root_context path ≡ eqb at 0
  pub is : drop at text ≡ 40 ∷ (write_context path ++ drop e text)
  pub ends : e ≡ at + 1 + length (write_context path)
  pub within : e ≤ length text

pub record ContextRead (text : Bytes) (at : ℕ) (r : Option ℕ) : Type 0 where
  pub found : (p : Path) (s : Bytes) → all is_name p ≡ true → is_root_context p ≡ eqb at 0 → drop at text ≡ 40 ∷ (write_context p ++ 44 ∷ s) → r ≡ Some (at + 1 + length (write_context p))
  pub real : (e : ℕ) → r ≡ Some e → ContextIs text at e

-- key names that stand two bytes after a place and end at e
pub record KeysAre (text : Bytes) (from e : ℕ) : Type 0 where
  pub names : List Bytes
  pub named : all is_name names ≡ true
  pub few : length names ≤ 4
  pub is : drop (from + 2) text ≡ join_by (bytes ", ") names ++ drop e text
  pub ends : e ≡ from + 2 + length (join_by (bytes ", ") names)
  pub within : e ≤ length text

pub record KeysRead (text : Bytes) (from : ℕ) (r : Option ℕ) : Type 0 where
  pub found : (ks : List Bytes) (s : Bytes) → all is_name ks ≡ true → length ks ≤ 4 → drop (from + 2) text ≡ join_by (bytes ", ") ks ++ 125 ∷ s
      → r ≡ Some (from + 2 + length (join_by (bytes ", ") ks))
  pub real : (e : ℕ) → r ≡ Some e → KeysAre text from e

-- the line at a place as far as the `, {` after its name
pub record NameIs (text : Bytes) (at context name : ℕ) : Type 0 where
  pub path : Path
  pub name-bytes : Bytes
  pub paths-named : all is_name path ≡ true
  pub named : is_name name-bytes ≡ true
  pub root : is_root_context path ≡ eqb at 0
  pub is : drop at text ≡ 40 ∷ (write_context path ++ 44 ∷ 32 ∷ 40 ∷ (name-bytes ++ 44 ∷ 32 ∷ 123 ∷ drop (name + 3) text))
  pub context-ends : context ≡ at + 1 + length (write_context path)
  pub name-ends : name ≡ context + 3 + length name-bytes
  pub within : name + 3 ≤ length text

pub record NameRead (text : Bytes) (at context name : ℕ) : Type 0 where
  pub found : (k : Key) (s : Bytes) → Noted k → is_root_context k.context ≡ eqb at 0 → drop at text ≡ spell k s → drop (name + 3) text ≡ join_by (bytes ", ") k.key_names ++ 125 ∷ 41 ∷ 41 ∷ s
  pub real : NameIs text at context name

-- a line: where its context, its name and its key names end
pub record LineIs (text : Bytes) (at context name names : ℕ) : Type 0 where
  pub key : Key
  pub key-noted : Noted key
  pub root : is_root_context key.context ≡ eqb at 0
  pub is : drop at text ≡ spell key (10 ∷ drop (names + 4) text)
  pub context-ends : context ≡ at + 1 + length (write_context key.context)
  pub name-ends : name ≡ context + 3 + length key.name
  pub names-end : names ≡ name + 3 + length (join_by (bytes ", ") key.key_names)
  pub within : names + 4 ≤ length text

abbrev pub NoLine : Bytes → ℕ → Type 0
NoLine text at = (k : Key) (s : Bytes) → Noted k → is_root_context k.context ≡ eqb at 0 → drop at text ≡ spell k (10 ∷ s) → ⊥

abbrev pub LineRead : Bytes → ℕ → Option Line → Type 0
LineRead text at (Some l) = LineIs text at l.context l.name l.names
LineRead text at None = NoLine text at

-- the lines up to `at` are keys, and what is read from the whole text is what the rest adds to them
pub record Upto (text : Bytes) (at : ℕ) : Type 0 where
  pub done : KeyList
  pub done-noted : AllNoted done
  pub none : at ≡ 0 → done ≡ []
  pub some : (at ≡ 0 → ⊥) → contexts_in_notation done ≡ true
  pub is : text ≡ write_lines done ++ drop at text
  pub read : keys_read text ≡ (keys_read (drop at text) >>= λ ks. ok (done ++ ks))
  pub within : at ≤ length text

-- a text in the notation: its keys
pub record InNotation (text : Bytes) : Type 0 where
  pub keys : KeyList
  pub all_noted : AllNoted keys
  pub contexts : contexts_in_notation keys ≡ true
  pub is : text ≡ write_lines keys

abbrev pub NotationRead : Bytes → Bool → Type 0
NotationRead text true = InNotation text
NotationRead text false = key_list text ≡ refused r3

pub read-line : {text : Bytes} {at : ℕ} {l : Line} {r : Option Line} → r ≡ Some l → LineRead text at r → LineIs text at l.context l.name l.names
read-line {text} {at} e l = subst (λ (z : Option Line). LineRead text at z) e l

-- and so the answer for a whole text
pub read-notation : {text : Bytes} {r : Bool} → r ≡ true → NotationRead text r → InNotation text
read-notation {text} e n = subst (λ (z : Bool). NotationRead text z) e n

pub read-refused : (text : Bytes) {r : Bool} → r ≡ false → NotationRead text r → key_list text ≡ refused r3
read-refused text e n = subst (λ (z : Bool). NotationRead text z) e n

pub read_none : (text : Bytes) (at : ℕ) {r : Option Line} → r ≡ None → LineRead text at r → NoLine text at
read_none text at e l = subst (λ (z : Option Line). LineRead text at z) e l
