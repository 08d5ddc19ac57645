-- A forest of XML nodes, and its written form.
use Rattle.std.specs.Prelude.{ℕ, ◌+◌, max, ◌≡◌, Bool, true, false, ◌&&◌, [], ◌∷◌, ◌++◌, eqb}
use Prim.Native.Char.{code}
use Rattle.xml.specs.Bytes.{Bytes, bytes, all, same, is_empty, is_meant, is_name, is_times, bytes_compute}

-- an element with what it holds, a run of text, or an archive's `<T t="..">`, each with the siblings after it
pub data Forest : Type 0 where
  end : Forest
  elem : (name : Bytes) (kids rest : Forest) → Forest
  text : (run : Bytes) (rest : Forest) → Forest
  stamp : (times : Bytes) (kids rest : Forest) → Forest

-- "`&`, `<`, `>` in text as `&amp;`, `&lt;`, `&gt;`"
unfoldable pub escape : Bytes → Bytes
escape [] = []
escape (b ∷ s) =
    elim (eqb b (code "&")) [
      | true ↦ bytes "&amp;" ++ escape s
      | false ↦
          elim (eqb b (code "<")) [
            | true ↦ bytes "&lt;" ++ escape s
            | false ↦
                elim (eqb b (code ">")) [ true ↦ bytes "&gt;" ++ escape s | false ↦ b ∷ escape s ]
          ]
    ]

-- "Written form: no white space added, .. always `<a></a>`"; "Its text gives ..": `<T t="1-3,5">`
unfoldable pub write : Forest → Bytes
write end = []
write (text b r) = escape b ++ write r
write (elem n k r) = bytes "<" ++ n ++ bytes ">" ++ write k ++ bytes "</" ++ n ++ bytes ">" ++ write r
write (stamp t k r) = bytes "<T t=\"" ++ t ++ bytes "\">" ++ write k ++ bytes "</T>" ++ write r

-- "Nodes are elements and kept maximal runs of text; `T` elements are not counted."
unfoldable pub nodes : Forest → ℕ
nodes end = 0
nodes (text b r) = 1 + nodes r
nodes (elem n k r) = elim (same n (bytes "T")) [ true ↦ 0 | false ↦ 1 ] + nodes k + nodes r
nodes (stamp t k r) = nodes k + nodes r

-- "up to sixteen deep, the root being 1"
unfoldable pub depth : Forest → ℕ
depth end = 0
depth (text b r) = depth r
depth (elem n k r) = max (1 + depth k) (depth r)
depth (stamp t k r) = max (depth k) (depth r)

unfoldable pub join : Forest → Forest → Forest
join end g = g
join (text b r) g = text b (join r g)
join (elem n k r) g = elem n k (join r g)
join (stamp t k r) g = stamp t k (join r g)

-- the same forest
unfoldable pub same_forest : Forest → Forest → Bool
same_forest end end = true
same_forest end (elem m j s) = false
same_forest end (text c s) = false
same_forest end (stamp u j s) = false
same_forest (elem n k r) end = false
same_forest (elem n k r) (elem m j s) = same n m && same_forest k j && same_forest r s
same_forest (elem n k r) (text c s) = false
same_forest (elem n k r) (stamp u j s) = false
same_forest (text b r) end = false
same_forest (text b r) (elem m j s) = false
same_forest (text b r) (text c s) = same b c && same_forest r s
same_forest (text b r) (stamp u j s) = false
same_forest (stamp t k r) end = false
same_forest (stamp t k r) (elem m j s) = false
same_forest (stamp t k r) (text c s) = false
same_forest (stamp t k r) (stamp u j s) = same t u && same_forest k j && same_forest r s

-- ---- the forests that texts have: names, runs that are legal and maximal, times in archives alone
abbrev pub NotText : Forest → Type 0
NotText end = Unit {0}
NotText (elem n k r) = Unit {0}
NotText (text b r) = ⊥
NotText (stamp t k r) = Unit {0}

abbrev pub Tidy : Bool → Forest → Type 0
Tidy a end = Unit {0}
Tidy a (elem n k r) = (is_name n ≡ true) × Tidy a k × Tidy a r
Tidy a (text b r) = (is_empty b ≡ false) × (all is_meant b ≡ true) × NotText r × Tidy a r
Tidy a (stamp t k r) = (a ≡ true) × (all is_times t ≡ true) × Tidy a k × Tidy a r

-- one element, or one archive's `T`
abbrev pub Root : Forest → Type 0
Root end = ⊥
Root (elem n k r) = r ≡ end
Root (text b r) = ⊥
Root (stamp t k r) = r ≡ end

unfoldable pub forest_compute : Unit {0}
unfolding bytes_compute escape write nodes depth join same_forest
forest_compute = tt
