-- Addresses: `/station/lamp[pos="2"]/hours`.
use Rattle.std.specs.Prelude.{Bool, true, false, not, ◌&&◌, eqb, length}
use Prim.Native.Char.{code}
use Rattle.std.proofs.Math.Option.{none, some}
use mathlib.Core.List.{List, [], ◌∷◌, ◌++◌, map, zip_with}
use Rattle.xml.specs.Bytes.{Bytes, bytes, all, same, split, join_by, is_value}
use Rattle.keys.specs.Result.{Result, ok, ◌>>◌, refuse, r12}
use Rattle.xml.specs.Forest.{Forest}
use Rattle.keys.specs.KeyList.{Path, KeyList, listed, key_names_at}
use Rattle.keys.specs.Version.{◌▸◌, Label, name_in, find, version_compute}

-- "key conditions are given in list order, joined by ` and `, for every step whose path has key names"
unfoldable pub write_conditions : List Bytes → List Bytes → Bytes
write_conditions [] vs = []
write_conditions (k ∷ ks) vs = bytes "[" ++ join_by (bytes " and ") (zip_with (λ n v. n ++ bytes "=\"" ++ v ++ bytes "\"") (k ∷ ks) vs) ++ bytes "]"

unfoldable pub values_in : Label → List Bytes
values_in [] = []
values_in (n ∷ vs) = vs

-- the text of an address: its steps, each with the label of an element
unfoldable pub write_address : KeyList → Path → List Label → Bytes
write_address K p [] = []
write_address K p (l ∷ ls) =
    bytes "/" ++ name_in l ++ write_conditions (key_names_at K (p ▸ (name_in l))) (values_in l) ++ write_address K (p ▸ (name_in l)) ls

-- each step has a path of the list, and a legal value for each of its key names
unfoldable pub steps_known : KeyList → Path → List Label → Bool
steps_known K p [] = true
steps_known K p (l ∷ ls) =
    listed K (p ▸ (name_in l)) && eqb (length (values_in l)) (length (key_names_at K (p ▸ (name_in l))))
    && all is_value (values_in l) && steps_known K (p ▸ (name_in l)) ls

-- every second part
unfoldable pub seconds : List Bytes → List Bytes
seconds [] = []
seconds (a ∷ []) = []
seconds (a ∷ b ∷ ws) = b ∷ seconds ws

-- the label that a step can only have: the name in front of `[`, and the values between quotes
unfoldable pub step_of : Bytes → Label
step_of s = name_in (split (eqb (code "[")) s) ∷ seconds (split (eqb (code "\"")) s)

unfoldable pub steps_of : List Bytes → List Label
steps_of [] = []
steps_of (w ∷ ws) = map step_of ws

-- the steps of an address; 12: "address not of this form and list"
unfoldable pub address : KeyList → Bytes → Result (List Label)
address K s = do
  let ls = steps_of (split (eqb (code "/")) s)
  refuse r12 (eqb (length ls) 0)
  refuse r12 (not (steps_known K [] ls))
  refuse r12 (not (same s (write_address K [] ls)))
  ok ls

-- "A version holds, or contains, an address if it has, from its root down, an element for each step with that name and those key values."
unfoldable pub holds : KeyList → Path → List Label → Forest → Bool
holds K p [] f = true
holds K p (l ∷ ls) f = elim (find K p l f) [ none ↦ false | some k ↦ holds K (p ▸ (name_in l)) ls k ]

unfoldable pub address_compute : Unit {0}
unfolding version_compute zip_with write_conditions values_in write_address steps_known seconds step_of steps_of address holds
address_compute = tt
