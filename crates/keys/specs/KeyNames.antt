-- The key children of an element, one key name after another, by the table of the key list.
use Rattle.std.specs.Prelude.{ℕ, ◌+◌, ◌<◌, ◌≤◌, ◌≡◌, refl, Bool, true, false, not, ◌&&◌, List, [], length, drop, get_or}
use Rattle.std.proofs.Common.{ap, ◌∙◌, add-one, drop_of_length-le, drop-cons}
use Rattle.std.proofs.Math.Path.{sym}
use Rattle.std.proofs.Math.Seq.{slice}
use Rattle.xml.specs.Bytes.{Bytes, all, same}
use Rattle.xml.specs.BytesLaws.{same_self}
use Rattle.xml.specs.Truth.{mem-any}
use Rattle.xml.specs.Forest.{Forest}
use Rattle.keys.specs.KeyList.{Path, KeyList, key_names_at}
use Rattle.keys.specs.PlaceLaws.{mem-at}
use Rattle.keys.specs.Version.{drop_white, called, is_one_value}
use Rattle.keys.specs.Table.{place_of, Table, name_start, name_end}
use Rattle.keys.specs.TableLaws.{table-rules}
use Rattle.keys.specs.Strays.{lacking}
use Rattle.keys.specs.DropLaws.{called-drop}
use Rattle.keys.specs.LabelLaws.{key-name-is}

-- from the key name number j on, a key child is missing, repeated or illegal
unfoldable pub lacking_from : KeyList → Path → Forest → ℕ → Bool
lacking_from K p k j = not (all (λ key. is_one_value (called key (drop_white K p k))) (drop j (key_names_at K p)))

pub lacking-start : (K : KeyList) (p : Path) (k : Forest) → lacking K p k ≡ lacking_from K p k 0
unfolding lacking lacking_from
lacking-start K p k = refl

pub lacking-done : (K : KeyList) (p : Path) (k : Forest) (j : ℕ) → length (key_names_at K p) ≤ j → lacking_from K p k j ≡ false
unfolding lacking_from all
lacking-done K p k j h = rw (drop_of_length-le (key_names_at K p) h)

lacking-first : (K : KeyList) (p : Path) (k : Forest) (j : ℕ) → j < length (key_names_at K p)
    → lacking_from K p k j ≡ not (is_one_value (called (get_or (key_names_at K p) j []) (drop_white K p k)) && all (λ key. is_one_value (called key (drop_white K p k))) (drop (j + 1) (key_names_at K p)))
unfolding lacking_from all
lacking-first K p k j h = rw (add-one, drop-cons (key_names_at K p) j [] h) refl

module _ {text : Bytes} {cells : List ℕ} {n place : ℕ} (K : KeyList) (p : Path) (t : Table text cells n K) (e : place_of K p ≡ place) (j : ℕ) (h : j < length (key_names_at K p)) where
  key-named : (f : Forest) → is_one_value (called (slice (name_start cells (place + 1 + j)) (name_end cells (place + 1 + j)) text) f) ≡ is_one_value (called (get_or (key_names_at K p) j []) (drop_white K p f))
  key-named f =
      let key = get_or (key_names_at K p) j [] in
      let m = mem-any (same key) (mem-at (key_names_at K p) j h) (same_self key) in
      rw (key-name-is t p place e j h) (ap is_one_value (sym (called-drop K (table-rules t) p key f m)))

  module _ (f : Forest) {r : Bool} (o : r ≡ is_one_value (called (slice (name_start cells (place + 1 + j)) (name_end cells (place + 1 + j)) text) f)) where
    pub lacking-here : r ≡ false → lacking_from K p f j ≡ true
    lacking-here g = lacking-first K p f j h ∙ rw (sym (key-named f) ∙ sym o ∙ g)

    pub lacking-more : r ≡ true → lacking_from K p f j ≡ lacking_from K p f (j + 1)
    unfolding lacking_from
    lacking-more g = lacking-first K p f j h ∙ rw (sym (key-named f) ∙ sym o ∙ g)
