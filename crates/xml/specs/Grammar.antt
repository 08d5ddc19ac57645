-- The XML subset as a grammar: "Version texts" of document 01, a rule for each sentence.
use Rattle.std.specs.Prelude.{ℕ, ◌≡◌, Bool, true, false, ◌&&◌, List, [], ◌∷◌, ◌++◌, get_or}
use Prim.Native.Char.{code}
use Rattle.xml.specs.Bytes.{Bytes, bytes, all, is_empty, occurs, same, is_white, is_character, is_name, is_times}
use Rattle.xml.specs.Tags.{Attr, attr, is_quote, in_value, is_new, tag_text}
use Rattle.xml.specs.Forest.{Forest, end, elem, text, stamp, NotText, Root}

-- "the five entities `&lt; &gt; &amp; &quot; &apos;`", and the byte that each stands for
pub data Entity : Bytes → ℕ → Type 0 where
  lt : Entity (bytes "&lt;") (code "<")
  gt : Entity (bytes "&gt;") (code ">")
  amp : Entity (bytes "&amp;") (code "&")
  quot : Entity (bytes "&quot;") (code "\"")
  apos : Entity (bytes "&apos;") (code "'")

-- "Text is bytes 20 to 7E hexadecimal, tab, LF and CR, each kept as it is; `<` and `&` only as markup"; "CR LF and a lone CR are read as LF":
-- raw bytes, and what they mean
pub data Characters : Bytes → Bytes → Type 0 where
  none : Characters [] []
  kept : {b : ℕ} {s t : Bytes} → is_character b ≡ true → (b ≡ code "\r" → ⊥) → Characters s t → Characters (b ∷ s) (b ∷ t)
  -- a CR before an LF means nothing, any other means LF
  joined : {b : ℕ} {s t : Bytes} → b ≡ code "\r" → get_or s 0 0 ≡ code "\n" → Characters s t → Characters (b ∷ s) t
  turned : {b : ℕ} {s t : Bytes} → b ≡ code "\r" → (get_or s 0 0 ≡ code "\n" → ⊥) → Characters s t → Characters (b ∷ s) (code "\n" ∷ t)
  entity : {e : Bytes} {c : ℕ} {s t : Bytes} → Entity e c → Characters s t → Characters (e ++ s) (c ∷ t)

-- "one space before each, in either quote, `=` without spaces": the attributes of a tag in their order, after those of the names `used`
pub data Attributes : List Bytes → Bytes → List Attr → Type 0 where
  none : {used : List Bytes} → Attributes used [] []
  more : {used : List Bytes} {n s v u : Bytes} {l : List Attr} (q : ℕ) → is_new used n ≡ true → is_quote q ≡ true → Characters s v → all (in_value q) s ≡ true
      → Attributes (n ∷ used) u l → Attributes used (bytes " " ++ n ++ bytes "=" ++ (q ∷ s) ++ (q ∷ u)) (attr n v ∷ l)

-- what stands between `<` and `>`, the name in it, and the tag that it is: "Written form sorts by name"
pub data StartTag (a : Bool) : Bytes → Bytes → Bytes → Type 0 where
  bare : {n : Bytes} → is_name n ≡ true → StartTag a n n n
  attributed : {n u : Bytes} {l : List Attr} → is_name n ≡ true → a && same n (bytes "T") ≡ false → Attributes [] u l → StartTag a (n ++ u) n (tag_text n l)

-- "An element holds content and content holds elements": a text, and the forest that it spells; `a` where the text is an archive's
pub data Content (a : Bool) : Bytes → Forest → Type 0 where
  nothing : Content a [] end
  -- a maximal run of text; "`]]>` is illegal"
  run : {s t u : Bytes} {r : Forest} → Characters s t → is_empty s ≡ false → occurs (bytes "]]>") s ≡ false → NotText r → Content a u r → Content a (s ++ u) (text t r)
  -- "Tags are `<name>`, `</name>`, `<name/>`, with no white space inside."
  element : {n s u : Bytes} {k r : Forest} → is_name n ≡ true → Content a s k → Content a u r
      → Content a (bytes "<" ++ n ++ bytes ">" ++ s ++ bytes "</" ++ n ++ bytes ">" ++ u) (elem n k r)
  lone : {n u : Bytes} {r : Forest} → is_name n ≡ true → Content a u r → Content a (bytes "<" ++ n ++ bytes "/>" ++ u) (elem n end r)
  -- an archive's `<T t="..">`
  times : {t s u : Bytes} {k r : Forest} → a ≡ true → all is_times t ≡ true → Content a s k → Content a u r
      → Content a (bytes "<T t=\"" ++ t ++ bytes "\">" ++ s ++ bytes "</T>" ++ u) (stamp t k r)

-- "One root element, white space (tab, LF, CR, space) allowed around it."
pub record Spells (a : Bool) (s : Bytes) (f : Forest) : Type 0 where
  pub before : Bytes
  pub inner : Bytes
  pub after : Bytes
  pub text-is : s ≡ before ++ inner ++ after
  pub white-before : all is_white before ≡ true
  pub white-after : all is_white after ≡ true
  pub content : Content a inner f
  pub root : Root f
