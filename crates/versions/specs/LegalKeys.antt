-- The key children of an element of an archive, one key name after another, by the table of the key list.
use Rattle.std.specs.Prelude.{ℕ, ◌+◌, ◌<◌, ◌≤◌, ◌≡◌, refl, Bool, true, false, ◌&&◌, List, [], length, drop, get_or}
use Rattle.std.proofs.Common.{add-one, sym, ◌∙◌, ap, drop_of_length-le, drop-cons}
use Rattle.xml.specs.Bytes.{Bytes, all}
use Rattle.xml.specs.Forest.{Forest}
use Rattle.keys.specs.KeyList.{Path, KeyList, key_names_at}
use Rattle.keys.specs.Version.{called, is_one_value}
use Rattle.keys.specs.Table.{place_of, Table}
use Rattle.keys.specs.Labelled.{has_keys}
use Rattle.keys.specs.LabelLaws.{key_bytes, key-name-is}

-- from the key name number j on, each key child is there just once, with a value
unfoldable pub keys_from : KeyList → Path → Forest → ℕ → Bool
keys_from K p k j = has_keys (drop j (key_names_at K p)) k

pub keys-start : (K : KeyList) (p : Path) (k : Forest) → has_keys (key_names_at K p) k ≡ keys_from K p k 0
unfolding keys_from
keys-start K p k = refl

pub keys-done : (K : KeyList) (p : Path) (k : Forest) (j : ℕ) → length (key_names_at K p) ≤ j → keys_from K p k j ≡ true
unfolding keys_from all
keys-done K p k j h = rw (drop_of_length-le (key_names_at K p) h)

keys-first : (K : KeyList) (p : Path) (k : Forest) (j : ℕ) → j < length (key_names_at K p)
    → keys_from K p k j ≡ (is_one_value (called (get_or (key_names_at K p) j []) k) && has_keys (drop (j + 1) (key_names_at K p)) k)
unfolding keys_from all
keys-first K p k j h = rw (add-one, drop-cons (key_names_at K p) j [] h) refl

module _ {text : Bytes} {cells : List ℕ} {n place : ℕ} (K : KeyList) (p : Path) (t : Table text cells n K) (e : place_of K p ≡ place) (j : ℕ) (h : j < length (key_names_at K p))
    (f : Forest) {r : Bool} (o : r ≡ is_one_value (called (key_bytes text cells (place + 1 + j)) f)) where
  named : is_one_value (called (get_or (key_names_at K p) j []) f) ≡ r
  named = ap (λ key. is_one_value (called key f)) (sym (key-name-is t p place e j h)) ∙ sym o

  pub keys-lack : r ≡ false → keys_from K p f j ≡ false
  keys-lack g = keys-first K p f j h ∙ rw (named ∙ g)

  pub keys-more : r ≡ true → keys_from K p f j ≡ keys_from K p f (j + 1)
  unfolding keys_from
  keys-more g = keys-first K p f j h ∙ rw (named ∙ g)
