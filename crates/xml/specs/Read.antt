-- Reading a text of the XML subset, token by token: the forest that it spells, or the place of the first byte that no such text has there.
-- What it means is the grammar (Grammar.antt, `read-sound` and `read-complete`); a program is proved against these steps.
use Rattle.std.specs.Prelude.{ℕ, zero, suc, ◌+◌, ◌-◌, max, ◌≡◌, refl, Bool, true, false, ◌&&◌, ◌||◌, List, [], ◌∷◌, map, eqb, leb, length, take, drop, get_or, Result, Ok, Err, Option, Some, None}
use Prim.Native.Char.{code}
use Rattle.xml.specs.Bytes.{Bytes, bytes, same, is_white, is_legal, is_character, is_start, is_name_byte, is_times}
use Rattle.xml.specs.Tags.{Attr, attr, name_of, parts, tag_text, is_quote, in_value, is_new, fresh, new_len, tags_compute}
use Rattle.xml.specs.Forest.{Forest, end, elem, text, stamp, join, write, forest_compute}

-- how many bytes at the start of s agree with the word
unfoldable pub common : Bytes → Bytes → ℕ
common [] s = 0
common (w ∷ ws) [] = 0
common (w ∷ ws) (b ∷ s) = elim (eqb w b) [ true ↦ suc (common ws s) | false ↦ 0 ]

-- ---- names and times: how many bytes at the start are of one
unfoldable pub name_rest : ℕ → Bytes → ℕ
name_rest zero s = 0
name_rest (suc r) [] = 0
name_rest (suc r) (b ∷ s) = elim (is_name_byte b) [ true ↦ suc (name_rest r s) | false ↦ 0 ]

unfoldable pub name_len : Bytes → ℕ
name_len [] = 0
name_len (b ∷ s) = elim (is_start b) [ true ↦ suc (name_rest 31 s) | false ↦ 0 ]

unfoldable pub times_len : Bytes → ℕ
times_len [] = 0
times_len (b ∷ s) = elim (is_times b) [ true ↦ suc (times_len s) | false ↦ 0 ]

-- ---- entities: after an `&`, the rest of one, so many bytes long, which means the byte; or none, and so many bytes are right
unfoldable pub further : ℕ → Result (ℕ × ℕ) ℕ → Result (ℕ × ℕ) ℕ
further k (Ok (n, b)) = Ok (n, b)
further k (Err m) = Err (max k m)

unfoldable pub try : Bytes → ℕ → Bytes → Result (ℕ × ℕ) ℕ → Result (ℕ × ℕ) ℕ
try w b s other = elim (eqb (common w s) (length w)) [ true ↦ Ok (length w, b) | false ↦ further (common w s) other ]

unfoldable pub entity_at : Bytes → Result (ℕ × ℕ) ℕ
entity_at s =
    try (bytes "lt;") (code "<") s (try (bytes "gt;") (code ">") s (try (bytes "amp;") (code "&") s
    (try (bytes "quot;") (code "\"") s (try (bytes "apos;") (code "'") s (Err 0)))))

-- the bytes that a run means, line ends read as LF; k of its bytes are to be skipped
unfoldable pub unescape : ℕ → Bytes → Bytes
unescape k [] = []
unescape (suc k) (b ∷ s) = unescape k s
unescape zero (b ∷ s) =
    elim (eqb b (code "&")) [
      | false ↦
          elim (eqb b (code "\r")) [
            | false ↦ b ∷ unescape 0 s
            | true ↦ elim (eqb (get_or s 0 0) (code "\n")) [ true ↦ unescape 0 s | false ↦ code "\n" ∷ unescape 0 s ]
          ]
      | true ↦
          elim (entity_at s) [ Ok (n, c) ↦ c ∷ unescape n s | Err n ↦ b ∷ unescape 0 s ]
    ]

-- ---- a run of text
-- a byte b of it, with s after it and q times `]` before it: the run ends here; or it goes on, after k bytes more of an entity, with
-- so many `]` before it; or the byte so many bytes on is wrong
unfoldable pub text_byte : ℕ → ℕ → Bytes → Result (Option (ℕ × ℕ)) ℕ
text_byte q b s =
    elim (eqb b (code "<")) [
      | true ↦ Ok None
      | false ↦
          elim (eqb b (code "&")) [
            | true ↦ elim (entity_at s) [ Ok (k, c) ↦ Ok (Some (k, 0)) | Err k ↦ Err (1 + k) ]
            | false ↦
                elim (eqb b (code "]")) [
                  | true ↦ Ok (Some (0, q + 1))
                  | false ↦
                      elim (eqb b (code ">") && leb 2 q) [
                        | true ↦ Err 0
                        | false ↦
                            elim (is_legal b) [ true ↦ Ok (Some (0, 0)) | false ↦ Err 0 ]
                      ]
                ]
          ]
    ]

-- how far a run goes: up to a `<` or the end of the text; or it stops at a wrong byte. n is the number of bytes passed
unfoldable pub scan : ℕ → ℕ → ℕ → Bytes → Result ℕ ℕ
scan q k n [] = Ok n
scan q (suc k) n (b ∷ s) = scan q k (n + 1) s
scan q zero n (b ∷ s) = elim (text_byte q b s) [ Ok None ↦ Ok n | Ok (Some (k, r)) ↦ scan r k (n + 1) s | Err k ↦ Err (n + k) ]

-- ---- what stands in a start tag
-- a byte b of a value between quotes q, with s after it: the value ends here; or it goes on, after k bytes more of an entity; or the
-- byte so many bytes on is wrong
unfoldable pub value_byte : ℕ → ℕ → Bytes → Result (Option (ℕ × ℕ)) ℕ
value_byte q b s =
    elim (eqb b q) [
      | true ↦ Ok None
      | false ↦
          elim (eqb b (code "&")) [
            | true ↦ elim (entity_at s) [ Ok (k, c) ↦ Ok (Some (k, 0)) | Err k ↦ Err (1 + k) ]
            | false ↦
                elim (is_character b && in_value q b) [ true ↦ Ok (Some (0, 0)) | false ↦ Err 0 ]
          ]
    ]

-- how far a value goes: up to the quote; or it stops at a wrong byte, or at the end of the text. n is the number of bytes passed
unfoldable pub value : ℕ → ℕ → ℕ → Bytes → Result ℕ ℕ
value q k n [] = Err n
value q (suc k) n (b ∷ s) = value q k (n + 1) s
value q zero n (b ∷ s) = elim (value_byte q b s) [ Ok None ↦ Ok n | Ok (Some (k, r)) ↦ value q k (n + 1) s | Err k ↦ Err (n + k) ]

-- after the space before an attribute: its name has m bytes, which begin a new name. The bytes after the space that it takes, or how
-- far from the space the wrong byte stands
unfoldable pub attr_of : List Bytes → Bytes → ℕ → Result (Option (ℕ × ℕ)) ℕ
attr_of used s m =
    elim (is_new used (take m s) && eqb (get_or s m 0) (code "=")) [
      | false ↦ Err (1 + m)
      | true ↦
          elim (is_quote (get_or s (1 + m) 0)) [
            | false ↦ Err (2 + m)
            | true ↦
                elim (value (get_or s (1 + m) 0) 0 0 (drop (2 + m) s)) [ Ok k ↦ Ok (Some (3 + m + k, 0)) | Err k ↦ Err (3 + m + k) ]
          ]
    ]

-- a byte after a name or an attribute: what is in the tag is over; or an attribute more goes on for so many bytes, or is wrong
unfoldable pub attr_byte : List Bytes → ℕ → Bytes → Result (Option (ℕ × ℕ)) ℕ
attr_byte used b s = elim (eqb b (code " ") && fresh 32 used []) [ true ↦ attr_of used s (new_len used s) | false ↦ Ok None ]

-- how far attributes go, after those with the names `used`; k bytes are to be skipped, n were passed
unfoldable pub attrs : List Bytes → ℕ → ℕ → Bytes → Result ℕ ℕ
attrs used k n [] = Ok n
attrs used (suc k) n (b ∷ s) = attrs used k (n + 1) s
attrs used zero n (b ∷ s) = elim (attr_byte used b s) [ Ok None ↦ Ok n | Ok (Some (k, r)) ↦ attrs (take (new_len used s) s ∷ used) k (n + 1) s | Err k ↦ Err (n + k) ]

-- how long what stands in a start tag is, of which the name has n bytes; an archive's `T` has no attributes
unfoldable pub tag_from : Bool → Bytes → ℕ → Result ℕ ℕ
tag_from a s n = elim (eqb n 0 || a && same (take n s) (bytes "T")) [ true ↦ Ok n | false ↦ attrs [] 0 n (drop n s) ]

abbrev pub tag_len : Bool → Bytes → Result ℕ ℕ
tag_len a s = tag_from a s (name_len s)

-- the tag that it means
unfoldable pub means : Attr → Attr
means (attr n s) = attr n (unescape 0 s)

unfoldable pub tag_of : Bytes → Bytes
tag_of s = tag_text (name_of s) (map means (parts 0 s))

-- ---- what is open: an element, or an archive's `T`
pub data Tag : Type 0 where
  named : Bytes → Tag
  timed : Bytes → Tag

-- the name in its end tag, and the node that it makes
abbrev pub tag_name : Tag → Bytes
tag_name (named n) = n
tag_name (timed t) = bytes "T"

abbrev pub tag_node : Tag → Forest → Forest
tag_node (named n) k = elem n k end
tag_node (timed t) k = stamp t k end

-- nothing, or a tag with what stands before it, in those around it
pub data Stack : Type 0 where
  outer : Stack
  inside : Tag → Forest → Stack → Stack

-- one step: what is open, what stands in it now, and the number of bytes after the first that were read; or the offset of a wrong byte
pub data Move : Type 0 where
  move : Stack → Forest → ℕ → Move
  wrong : ℕ → Move

pub data Outcome : Type 0 where
  whole : Forest → Outcome
  broken : ℕ → Outcome

unfoldable pub is_end : Forest → Bool
is_end end = true
is_end (elem n k r) = false
is_end (text b r) = false
is_end (stamp t k r) = false

-- ---- tags. The end of a text counts as a byte 0.
-- after `<T t="`: n bytes of times, and m bytes of `">`
unfoldable pub times_end : Stack → Forest → Bytes → ℕ → ℕ → Move
times_end st f s n m = elim (eqb m 2) [ true ↦ move (inside (timed (take n s)) f st) end (7 + n) | false ↦ wrong (6 + n + m) ]

-- after `<T`: m bytes of ` t="`
unfoldable pub times_of : Stack → Forest → Bytes → ℕ → Move
times_of st f s m =
    elim (eqb m 4) [
      | true ↦ times_end st f (drop 4 s) (times_len (drop 4 s)) (common (bytes "\">") (drop (times_len (drop 4 s)) (drop 4 s)))
      | false ↦ wrong (2 + m)
    ]

-- after `<`: a name of n bytes, and `>` or `/>`; in an archive also ` t=".."` after the name T
unfoldable pub start_of : Bool → Stack → Forest → Bytes → ℕ → Move
start_of a st f s n =
    elim (eqb n 0) [
      | true ↦ wrong 1
      | false ↦
          elim (eqb (get_or s n 0) (code ">")) [
            | true ↦ move (inside (named (take n s)) f st) end (1 + n)
            | false ↦
                elim (eqb (get_or s n 0) (code "/")) [
                  | true ↦ elim (eqb (get_or s (1 + n) 0) (code ">")) [ true ↦ move st (join f (elem (take n s) end end)) (2 + n) | false ↦ wrong (2 + n) ]
                  | false ↦
                      elim (a && same (take n s) (bytes "T")) [ true ↦ times_of st f (drop 1 s) (common (bytes " t=\"") (drop 1 s)) | false ↦ wrong (1 + n) ]
                ]
          ]
    ]

abbrev pub start_tag : Bool → Stack → Forest → Bytes → Move
start_tag a st f s = start_of a st f s (name_len s)

-- after `</`: the name of what is open, with which m bytes agree, and `>`
unfoldable pub end_of : Tag → Forest → Stack → Forest → Bytes → ℕ → Move
end_of o g st f s m =
    elim (eqb m (length (tag_name o)) && eqb (get_or s m 0) (code ">")) [ true ↦ move st (join g (tag_node o f)) (2 + m) | false ↦ wrong (2 + m) ]

abbrev pub end_tag : Tag → Forest → Stack → Forest → Bytes → Move
end_tag o g st f s = end_of o g st f s (common (tag_name o) s)

unfoldable pub characters : Stack → Forest → Bytes → Move
characters st f s =
    elim (scan 0 0 0 s) [ Ok k ↦ move st (join f (text (unescape 0 (take k s)) end)) (k - 1) | Err k ↦ wrong k ]

unfoldable pub step : Bool → Stack → Forest → Bytes → Move
step a st f [] = wrong 0
step a outer f (b ∷ s) =
    elim (is_white b) [
      | true ↦ move outer f 0
      | false ↦
          elim (eqb b (code "<") && is_end f) [ true ↦ start_tag a outer f s | false ↦ wrong 0 ]
    ]
step a (inside o g st) f (b ∷ s) =
    elim (eqb b (code "<")) [
      | false ↦ characters (inside o g st) f (b ∷ s)
      | true ↦
          elim (eqb (get_or s 0 0) (code "/")) [ true ↦ end_tag o g st f (drop 1 s) | false ↦ start_tag a (inside o g st) f s ]
    ]

unfoldable pub finish : Stack → Forest → ℕ → Outcome
finish outer f at = elim (is_end f) [ true ↦ broken at | false ↦ whole f ]
finish (inside o g st) f at = broken at

-- reading on at a place: k bytes are to be skipped
unfoldable pub go : Bool → Stack → Forest → ℕ → ℕ → Bytes → Outcome
go a st f at k [] = finish st f at
go a st f at (suc k) (b ∷ s) = go a st f (suc at) k s
go a st f at zero (b ∷ s) = elim (step a st f (b ∷ s)) [ move st' f' k ↦ go a st' f' (suc at) k s | wrong k ↦ broken (at + k) ]

-- a version's text, or an archive's, whose `T` tags have their times
unfoldable pub read : Bool → Bytes → Outcome
read a s = go a outer end 0 0 s

unfoldable pub read_compute : Unit {0}
unfolding tags_compute forest_compute common name_rest name_len times_len further try entity_at unescape text_byte scan value_byte value attr_of attr_byte attrs tag_from means tag_of is_end times_end times_of start_of end_of characters step finish go read
read_compute = tt

unfoldable pub written : Outcome → Bytes
written (broken p) = []
written (whole f) = write f

pub read-test : written (read false (bytes " <a>1&amp;<b/> x</a>\n")) ≡ bytes "<a>1&amp;<b></b> x</a>"
unfolding read_compute written
read-test = refl

pub times-test : written (read true (bytes "<T t=\"1-2,4\"><a>]]&gt;</a><T/></T>")) ≡ bytes "<T t=\"1-2,4\"><a>]]&gt;</a><T></T></T>"
unfolding read_compute written
times-test = refl
