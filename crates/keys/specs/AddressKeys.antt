-- The key names of the path at a place, as the table gives them to the reader of an address.
use Rattle.std.specs.Prelude.{ℕ, ◌+◌, ◌*◌, ◌<◌, ◌≤◌, ◌≡◌, List, [], length, get_or}
use Rattle.std.proofs.Common.{arith, ◌∙◌, ap, subst}
use Rattle.std.proofs.Math.Seq.{slice}
use Rattle.xml.specs.Bytes.{Bytes}
use Rattle.keys.specs.KeyList.{key_names_at}
use Rattle.keys.specs.Table.{name_start, name_end}
use Rattle.keys.specs.Placed.{Placed, OfPlace}
use Rattle.keys.specs.Places.{part_at}
use Rattle.keys.specs.TableLaws.{table-keys}
use Rattle.keys.specs.LabelLaws.{key-room, key-within, key-name-is}
use Rattle.keys.specs.Named.{few-keys}
use Rattle.keys.specs.AddressParts.{Skipped, Keyed}
use Rattle.keys.specs.declared.places.Part.{Part}

module _ {text : Bytes} {cells : List ℕ} {n q j : ℕ} (k : Keyed text cells n q j) where
  pub keyed-cell : (q + 1 + j < n) × (2 * (q + 1 + j) < length cells) × (q + 1 + j < 128)
  keyed-cell =
      let a = key-room k.table k.path q k.place_is j k.key in
      (a, omega (arith, k.table.held), omega (arith, k.table.few))

  pub keyed-within : name_end cells (q + 1 + j) ≤ length text
  keyed-within = key-within k.table k.path q k.place_is j k.key

  -- whichever path is at the place, it has as many key names
  pub keyed-name : OfPlace text cells n q (λ K p. slice (name_start cells (q + 1 + j)) (name_end cells (q + 1 + j)) text ≡ get_or (key_names_at K p) j [])
  keyed-name K p t e =
      let h : q < n = omega (arith, keyed-cell.0) in
      let l = table-keys t p q e h in
      let m = table-keys k.table k.path q k.place_is h in
      key-name-is t p q e j (omega (arith, k.key))

-- the word that a key's name is
pub skipped-key : (cells : List ℕ) (i : ℕ) {part : Part} (text : Bytes) {name : Bytes} (s : Bytes) (at r : ℕ)
    → part ≡ part_at cells i → slice (name_start cells i) (name_end cells i) text ≡ name → Skipped s at (slice part.start part.end text) r → Skipped s at name r
skipped-key cells i text s at r e f h = subst (λ (w : Bytes). Skipped s at w r) (ap (λ (z : Part). slice z.start z.end text) e ∙ f) h

-- the path at a place has four key names at most, and key number j below their number
pub few-keyed : {text : Bytes} {cells : List ℕ} {n q : ℕ} (h : Placed text cells n q) {c : ℕ} → OfPlace text cells n q (λ K p. c ≡ length (key_names_at K p)) → c ≤ 4
few-keyed {text} h f = omega (arith, few-keys text h.key_list h.table.accepted h.path, f h.key_list h.path h.table h.place_is)

pub keyed-at : {text : Bytes} {cells : List ℕ} {n q : ℕ} (h : Placed text cells n q) {c j : ℕ} → OfPlace text cells n q (λ K p. c ≡ length (key_names_at K p)) → j < c → Keyed text cells n q j
keyed-at h f l = record {
  key_list = h.key_list;
  path = h.path;
  table = h.table;
  place_is = h.place_is;
  key = omega (arith, f h.key_list h.path h.table h.place_is);
}
