-- Reading an address from its start, step by step, as a program does. What it means is `scan-means` in AddressMeans.antt.
use Rattle.std.specs.Prelude.{ℕ, zero, suc, true, false, ◌&&◌, List, [], ◌∷◌, ◌++◌, map, eqb, leb, take, drop, get_or}
use Prim.Native.Char.{code}
use Rattle.std.proofs.Math.Option.{Option, none, some}
use Rattle.xml.specs.Bytes.{Bytes, bytes}
use Rattle.xml.specs.Read.{name_rest}
use Rattle.keys.specs.Result.{Result, refused, ok, r12}
use Rattle.keys.specs.KeyList.{Path, KeyList, listed, key_names_at}
use Rattle.keys.specs.Version.{◌▸◌, Label, name_in}

-- what follows a word, if the text begins with it
unfoldable pub cut : Bytes → Bytes → Option Bytes
cut [] s = some s
cut (a ∷ w) [] = none
cut (a ∷ w) (b ∷ s) = elim (eqb a b) [ true ↦ cut w s | false ↦ none ]

-- 1 to 32 bytes of a value and a quote: the value, and what follows; m is how many bytes of a value there are, up to 33
unfoldable pub value_of : Bytes → ℕ → Option (Bytes × Bytes)
value_of s m = elim (leb 1 m && leb m 32 && eqb (get_or s m 0) (code "\"")) [ true ↦ some (take m s, drop (suc m) s) | false ↦ none ]

unfoldable pub after_open : Option Bytes → Option (Bytes × Bytes)
after_open none = none
after_open (some s) = value_of s (name_rest 33 s)

-- one condition: what opens it, the key's name, and its value in quotes
unfoldable pub condition : Bytes → Bytes → Bytes → Option (Bytes × Bytes)
condition o k s = after_open (cut (o ++ (k ++ bytes "=\"")) s)

unfoldable pub closed : List Bytes → Option Bytes → Option (List Bytes × Bytes)
closed vs none = none
closed vs (some s) = some (vs, s)

-- the conditions of the key names that are left, behind those whose values are read
unfoldable pub conditions_from : Bytes → List Bytes → List Bytes → Bytes → Option (List Bytes × Bytes)
conditions_from o vs [] s = closed vs (cut (bytes "]") s)
conditions_from o vs (k ∷ ks) s = elim (condition o k s) [ none ↦ none | some x ↦ conditions_from (bytes " and ") (vs ++ x.0 ∷ []) ks x.1 ]

unfoldable pub conditions : List Bytes → Bytes → Option (List Bytes × Bytes)
conditions [] s = some ([], s)
conditions (k ∷ ks) s = conditions_from (bytes "[") [] (k ∷ ks) s

unfoldable pub labelled : Bytes → Option (List Bytes × Bytes) → Option (Label × Bytes)
labelled n none = none
labelled n (some x) = some (n ∷ x.0, x.1)

-- behind a `/`: a name of m bytes that is listed below p, and its conditions
unfoldable pub named : KeyList → Path → Bytes → ℕ → Option (Label × Bytes)
named K p s m =
    elim (listed K (p ▸ take m s)) [ true ↦ labelled (take m s) (conditions (key_names_at K (p ▸ take m s)) (drop m s)) | false ↦ none ]

-- one step: its label, and what follows
unfoldable pub step_in : KeyList → Path → Bytes → Option (Label × Bytes)
step_in K p [] = none
step_in K p (b ∷ s) = elim (eqb b (code "/")) [ true ↦ named K p s (name_rest 33 s) | false ↦ none ]

-- k steps more at most, behind those that are read
unfoldable pub steps_from : ℕ → KeyList → List Label → Bytes → Option (List Label)
steps_from zero K ls [] = some ls
steps_from zero K ls (b ∷ s) = none
steps_from (suc k) K ls [] = some ls
steps_from (suc k) K ls (b ∷ s) =
    elim (step_in K (map name_in ls) (b ∷ s)) [ none ↦ none | some x ↦ steps_from k K (ls ++ x.0 ∷ []) x.1 ]

-- an address has a step
unfoldable pub steps : Option (List Label) → Result (List Label)
steps none = refused r12
steps (some []) = refused r12
steps (some (l ∷ ls)) = ok (l ∷ ls)
