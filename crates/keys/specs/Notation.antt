-- The notation of key lists, by what is written: a text is in it exactly if it is the lines of keys of names.
use Rattle.std.specs.Prelude.{◌≤◌, ◌≡◌, true, [], ◌∷◌, ◌++◌, eqb, length}
use Prim.Native.Char.{code}
use Rattle.xml.specs.Bytes.{Bytes, bytes, all, distinct, same, split, join_by, is_name}
use Rattle.keys.specs.Result.{Result, ◌>>=◌}
use Rattle.keys.specs.KeyList.{Key, KeyList, write_context, write_key, lines_of, keys_of}

-- a key of names
pub record Noted (k : Key) : Type 0 where
  pub context-names : all is_name k.context ≡ true
  pub name-named : is_name k.name ≡ true
  pub key-named : all is_name k.key_names ≡ true
  pub few-keys : length k.key_names ≤ 4
  pub keys-once : distinct same k.key_names ≡ true

abbrev pub AllNoted : KeyList → Type 0
AllNoted [] = Unit {0}
AllNoted (k ∷ ks) = Noted k × AllNoted ks

-- "a line per key, each ended by one LF"
unfoldable pub write_lines : KeyList → Bytes
write_lines [] = []
write_lines (k ∷ ks) = write_key k ++ 10 ∷ write_lines ks

-- a line with the text s after it
abbrev pub spell : Key → Bytes → Bytes
spell k s = 40 ∷ (write_context k.context ++ 44 ∷ 32 ∷ 40 ∷ (k.name ++ 44 ∷ 32 ∷ 123 ∷ (join_by (bytes ", ") k.key_names ++ 125 ∷ 41 ∷ 41 ∷ s)))

-- the keys of a text
unfoldable pub keys_read : Bytes → Result KeyList
keys_read s = lines_of (split (eqb (code "\n")) s) >>= keys_of
