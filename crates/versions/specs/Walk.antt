-- What a program does on the forest of an archive: which forests are legal, by conditions that it can check in one walk, and what
-- retrieving, stepping back, histories, adding and the calls over marks do there. Calls.antt is stated without it; WalkLaws.antt says that it comes to the same.
use Rattle.std.specs.Prelude.{ℕ, suc, Bool, true, false, not, ◌&&◌, ◌||◌, List, [], ◌∷◌, ◌++◌, map, eqb, leb, length}
use Rattle.std.proofs.Math.Option.{Option, none, some}
use Rattle.xml.specs.Bytes.{Bytes, bytes, all, same}
use Rattle.xml.specs.Forest.{Forest, end, elem, text, stamp, write, nodes, join, same_forest}
use Rattle.xml.specs.Read.{read, is_end}
use Rattle.model.specs.Keyed.{three}
use Rattle.model.specs.Stored.{or_l}
use Rattle.model.specs.Orders.{labels}
use Rattle.keys.specs.Result.{Result, ok, ◌>>=◌, ◌>>◌, refuse, refused_as, r10, r11}
use Rattle.keys.specs.KeyList.{Path, KeyList, key_list, listed, above, key_names_at}
use Rattle.keys.specs.Version.{◌▸◌, Label, label, called, is_one_value, same_label, before, too_large, parsed, version}
use Rattle.keys.specs.Address.{address}
use Rattle.keys.specs.Legal.{untimed}
use Rattle.timestamp.specs.Times.{Times, same_times, only_after, always, up_from, belongs, write_times, last_number}
use Rattle.marks.specs.declared.Mark.{Mark}
use Rattle.marks.specs.Marks.{Named, marks_in, legal_name, find, up_to, setting, finding}
use Rattle.versions.specs.Archive.{pick, last_version}
use Rattle.versions.specs.Calls.{Answer, answer, Given, Marked, marked, FoundMark, found_mark, room, at_most, storable, give, calls_compute}

-- ---- sets
-- the set that a text gives, of n versions, and whether it is that set's text
unfoldable pub times_in : ℕ → Bytes → Times
times_in n s = map (λ i. belongs i s) (up_from 1 n)

unfoldable pub canonical : ℕ → Bytes → Bool
canonical n s = same s (write_times (times_in n s))

unfoldable pub ever : Times → Bool
ever [] = false
ever (b ∷ t) = b || ever t

-- every version of t is one of u
unfoldable pub within : Times → Times → Bool
within [] u = true
within (a ∷ t) [] = false
within (a ∷ t) (b ∷ u) = (not a || b) && within t u

unfoldable pub disjoint : Times → Times → Bool
disjoint [] u = true
disjoint (a ∷ t) [] = true
disjoint (a ∷ t) (b ∷ u) = not (a && b) && disjoint t u

-- the first version of t comes before that of u
unfoldable pub earlier : Times → Times → Bool
earlier [] u = false
earlier (a ∷ t) [] = false
earlier (a ∷ t) (b ∷ u) = not b && (a || earlier t u)

-- ---- legality
-- a frontier's contents in their `T`s
unfoldable pub branches_in : ℕ → Forest → List (Times × Forest)
branches_in n end = []
branches_in n (text b r) = branches_in n r
branches_in n (elem m k r) = branches_in n r
branches_in n (stamp s k r) = (times_in n s, k) ∷ branches_in n r

-- nothing but `T`s, each with the text of a set around content with no `T`
unfoldable pub all_timed : ℕ → Forest → Bool
all_timed n end = true
all_timed n (text b r) = false
all_timed n (elem m k r) = false
all_timed n (stamp s k r) = canonical n s && untimed k && all_timed n r

-- a content differs from every later one, has no version with it in common, and begins earlier
unfoldable pub apart : Times → Forest → List (Times × Forest) → Bool
apart t f [] = true
apart t f (c ∷ cs) = not (same_forest c.1 f) && disjoint t c.0 && earlier t c.0 && apart t f cs

unfoldable pub contents_apart : List (Times × Forest) → Bool
contents_apart [] = true
contents_apart (c ∷ cs) = ever c.0 && apart c.0 c.1 cs && contents_apart cs

unfoldable pub together : List (Times × Forest) → Times
together [] = []
together (c ∷ cs) = or_l c.0 (together cs)

-- what a frontier that stands in the versions t holds: one content, or two or more that share these versions
unfoldable pub front_legal : ℕ → Times → Forest → Bool
front_legal n t end = true
front_legal n t (text b r) = untimed (text b r)
front_legal n t (elem m k r) = untimed (elem m k r)
front_legal n t (stamp s k r) =
    all_timed n (stamp s k r) && leb 2 (length (branches_in n (stamp s k r)))
    && contents_apart (branches_in n (stamp s k r)) && same_times (together (branches_in n (stamp s k r))) t

unfoldable pub is_sole : Forest → Bool
is_sole end = false
is_sole (text b r) = false
is_sole (elem m k r) = is_end r
is_sole (stamp s k r) = false

-- the label of the first element
unfoldable pub first_label : KeyList → Path → Forest → Option Label
first_label K p end = none
first_label K p (text b r) = none
first_label K p (elem m k r) = some (label K p m k)
first_label K p (stamp s k r) = first_label K p k

unfoldable pub precedes : Option Label → Option Label → Bool
precedes none l = true
precedes (some a) none = true
precedes (some a) (some b) = before a b

-- siblings whose parent has path p and stands in the versions t: an element that has its parent's set is bare, any other is in a `T`
unfoldable pub siblings_legal : KeyList → ℕ → Path → Times → Forest → Bool
siblings_legal K n p t end = true
siblings_legal K n p t (text b r) = false
siblings_legal K n p t (elem m k r) =
    listed K (p ▸ m) && not (same m (bytes "T"))
    && elim (above K (p ▸ m)) [
      | true ↦ all (λ key. is_one_value (called key k)) (key_names_at K (p ▸ m)) && siblings_legal K n (p ▸ m) t k
      | false ↦ front_legal n t k
    ]
    && precedes (some (label K p m k)) (first_label K p r) && siblings_legal K n p t r
siblings_legal K n p t (stamp s k r) =
    is_sole k && canonical n s && ever (times_in n s) && within (times_in n s) t && not (same_times (times_in n s) t)
    && siblings_legal K n p (times_in n s) k
    && precedes (first_label K p k) (first_label K p r) && siblings_legal K n p t r

-- every version within the limits of 6
unfoldable pub all_small : ℕ → Forest → Bool
all_small n f = all (λ i. not (too_large (pick i f))) (up_from 1 n)

unfoldable pub inside_of : Forest → Forest
inside_of end = end
inside_of (text b r) = end
inside_of (elem m k r) = end
inside_of (stamp s k r) = k

unfoldable pub forest_legal : KeyList → Forest → Bool
forest_legal K end = false
forest_legal K (text b r) = false
forest_legal K (elem m k r) = false
forest_legal K (stamp s k r) =
    is_end r && leb 1 (last_number s) && leb (last_number s) 999 && same s (write_times (always (last_number s)))
    && leb (nodes k) 1024 && siblings_legal K (last_number s) [] (always (last_number s)) k && all_small (last_number s) k

-- the forest of a legal archive's text, which is spelled just as it is written
unfoldable pub archive_read : KeyList → Bytes → Result Forest
archive_read K s = refused_as r10 (do
  f ← parsed (read true s)
  refuse r10 (not (same s (write f)))
  refuse r10 (not (forest_legal K f))
  ok f)

-- ---- stepping back to i: each `T`'s set is cut at i; it is dropped if empty, bare if it is the set around it, else wrapped
unfoldable pub back_in : ℕ → Times → Forest → Forest
back_in i around end = end
back_in i around (text b r) = text b (back_in i around r)
back_in i around (elem m k r) = elem m (back_in i around k) (back_in i around r)
back_in i around (stamp s k r) =
    elim (ever (times_in i s)) [
      | false ↦ back_in i around r
      | true ↦
          elim (same_times around (times_in i s)) [
            | true ↦ join (back_in i (times_in i s) k) (back_in i around r)
            | false ↦ stamp (write_times (times_in i s)) (back_in i (times_in i s) k) (back_in i around r)
          ]
    ]

unfoldable pub back_forest : ℕ → Forest → Forest
back_forest i f = stamp (write_times (always i)) (back_in i (always i) (inside_of f)) end

-- ---- histories: the text of the nearest `T` around the element
abbrev pub or_else : {A : Type 0} → Option A → Option A → Option A
or_else none o = o
or_else (some a) o = some a

unfoldable pub history_in : KeyList → Path → Bytes → Label → List Label → Forest → Option Bytes
history_in K p around l ls end = none
history_in K p around l ls (text b r) = history_in K p around l ls r
history_in K p around l ls (elem m k r) =
    elim (same_label l (label K p m k)) [
      | true ↦ elim ls [ [] ↦ some around | j ∷ js ↦ history_in K (p ▸ m) around j js k ]
      | false ↦ history_in K p around l ls r
    ]
history_in K p around l ls (stamp s k r) = or_else (history_in K p s l ls k) (history_in K p around l ls r)

abbrev pub or_empty : Option Bytes → Bytes
or_empty none = []
or_empty (some s) = s

unfoldable pub history_forest : KeyList → List Label → Forest → Bytes
history_forest K [] f = []
history_forest K (l ∷ ls) f = or_empty (history_in K [] [] l ls f)

-- ---- adding version n + 1
unfoldable pub newest : ℕ → Forest → Forest → Forest
newest n k r = stamp (write_times (only_after n)) k r

-- a content into the contents in their `T`s: the equal one gains n + 1, or a new one comes last
unfoldable pub add_branch : ℕ → Forest → Forest → Forest
add_branch n f end = newest n f end
add_branch n f (text b r) = newest n f end
add_branch n f (elem m k r) = newest n f end
add_branch n f (stamp s k r) =
    elim (same_forest f k) [ true ↦ stamp (write_times (times_in n s ++ true ∷ [])) k r | false ↦ stamp s k (add_branch n f r) ]

-- a content into a frontier that stood in the versions t and holds one, g
unfoldable pub add_bare : ℕ → Times → Forest → Forest → Forest
add_bare n t f g = elim (same_forest f g) [ true ↦ g | false ↦ stamp (write_times t) g (newest n f end) ]

unfoldable pub add_content : ℕ → Times → Forest → Forest → Forest
add_content n t f end = add_bare n t f end
add_content n t f (text b r) = add_bare n t f (text b r)
add_content n t f (elem m k r) = add_bare n t f (elem m k r)
add_content n t f (stamp s k r) = add_branch n f (stamp s k r)

module _ (K : KeyList) (n : ℕ) (p : Path) where
  -- the elements of a version that no archive's element is left for
  unfoldable pub add_new : Forest → Forest
  add_new end = end
  add_new (text b r) = add_new r
  add_new (stamp s k r) = add_new r
  add_new (elem m k r) = newest n (elem m k end) (add_new r)

  -- the archive's element l among the version's: `old` writes it where the version has none, `both` where the version has k; `rest`
  -- is what comes of the siblings after it
  unfoldable pub add_at : Label → (Forest → Forest) → (Forest → Forest → Forest) → (Forest → Forest) → Forest → Forest
  add_at l old both rest end = old (rest end)
  add_at l old both rest (text b r) = add_at l old both rest r
  add_at l old both rest (stamp s k r) = add_at l old both rest r
  add_at l old both rest (elem m k r) = three (labels.cmp l (label K p m k))
      (old (rest (elem m k r)))
      (both k (rest r))
      (newest n (elem m k end) (add_at l old both rest r))

-- siblings whose parent stood in the versions t and stands in n + 1, and the version's: an element that both have stays bare where it
-- was, and else gains n + 1; one that only the archive has is in a `T` now; one that only the version has is in n + 1 alone
unfoldable pub add_in : KeyList → ℕ → Path → Times → Forest → Forest → Forest
add_in K n p t end = add_new K n p
add_in K n p t (text b r) = add_in K n p t r
add_in K n p t (elem m k r) =
    add_at K n p (label K p m k)
    (λ rest. stamp (write_times t) (elem m k end) rest)
    (λ f rest. elem m (elim (above K (p ▸ m)) [ true ↦ add_in K n (p ▸ m) t k f | false ↦ add_content n t f k ]) rest)
    (add_in K n p t r)
add_in K n p t (stamp s end r) = add_in K n p t r
add_in K n p t (stamp s (text b k) r) = add_in K n p t r
add_in K n p t (stamp s (stamp u j k) r) = add_in K n p t r
add_in K n p t (stamp s (elem m k j) r) =
    add_at K n p (label K p m k)
    (λ rest. stamp s (elem m k end) rest)
    (λ f rest. stamp (write_times (times_in n s ++ true ∷ []))
    (elem m (elim (above K (p ▸ m)) [ true ↦ add_in K n (p ▸ m) (times_in n s) k f | false ↦ add_content n (times_in n s) f k ]) end) rest)
    (add_in K n p t r)

unfoldable pub add_forest : KeyList → ℕ → Forest → Forest → Forest
add_forest K n v f = stamp (write_times (always (suc n))) (add_in K n [] (always n) (inside_of f) v) end

-- ---- the calls
unfoldable pub add_on : (keys received archive : Bytes) (out work : ℕ) → Answer
add_on keys received archive out work = answer (do
  room work
  at_most 4096 keys
  at_most 16384 received
  at_most 32768 archive
  K ← key_list keys
  v ← version K received
  f ← archive_read K archive
  refuse r11 (eqb (last_version f) 999)
  storable (add_forest K (last_version f) v f)
  give out (write (add_forest K (last_version f) v f)))

unfoldable pub retrieve_on : (keys archive : Bytes) (i out work : ℕ) → Answer
retrieve_on keys archive i out work = answer (do
  room work
  at_most 4096 keys
  at_most 32768 archive
  K ← key_list keys
  f ← archive_read K archive
  refuse r11 (not (leb 1 i && leb i (last_version f)))
  give out (write (pick i f)))

unfoldable pub history_on : (keys archive place : Bytes) (out work : ℕ) → Answer
history_on keys archive place out work = answer (do
  room work
  at_most 4096 keys
  at_most 32768 archive
  at_most 2560 place
  K ← key_list keys
  f ← archive_read K archive
  ls ← address K place
  give out (history_forest K ls f))

-- ---- the calls over a table of marks: n is the number of the archive's last version
-- the archive's forest: all steps up to 10, but for the first
unfoldable pub archive_in : (keys archive : Bytes) → Result Forest
archive_in keys archive = do
  at_most 4096 keys
  at_most 32768 archive
  K ← key_list keys
  archive_read K archive

-- how many versions it has
unfoldable pub count_on : (keys archive : Bytes) → Result ℕ
count_on keys archive = do
  f ← archive_in keys archive
  ok (last_version f)

unfoldable pub set_mark_on : (keys archive : Bytes) (table : List Mark) (name : Bytes) (i work : ℕ) → Marked
set_mark_on keys archive table name i work = marked table (do
  room work
  n ← count_on keys archive
  ks ← setting n table name i
  ok (record { text = []; marks = ks }))

unfoldable pub find_mark_on : (keys archive : Bytes) (table : List Mark) (name : Bytes) (work : ℕ) → FoundMark
find_mark_on keys archive table name work = found_mark (do
  room work
  n ← count_on keys archive
  finding n table name)

-- the last steps of stepping back to i, and the marks that stay
unfoldable pub earlier_on : Forest → List Named → (i out : ℕ) → Result Given
earlier_on f ks i out = do
  refuse r11 (not (leb 1 i && leb i (last_version f)))
  s ← give out (write (back_forest i f))
  ok (record { text = s; marks = up_to i ks })

unfoldable pub step_back_on : (keys archive : Bytes) (table : List Mark) (i out work : ℕ) → Marked
step_back_on keys archive table i out work = marked table (do
  room work
  f ← archive_in keys archive
  ks ← marks_in (last_version f) table
  earlier_on f ks i out)

unfoldable pub step_back_to_mark_on : (keys archive : Bytes) (table : List Mark) (name : Bytes) (out work : ℕ) → Marked
step_back_to_mark_on keys archive table name out work = marked table (do
  room work
  f ← archive_in keys archive
  ks ← marks_in (last_version f) table
  legal_name name
  k ← find name ks
  earlier_on f ks k.version out)

unfoldable pub walk_compute : Unit {0}
unfolding calls_compute times_in canonical ever within disjoint earlier branches_in all_timed apart contents_apart together front_legal is_sole first_label precedes siblings_legal all_small inside_of forest_legal archive_read back_in back_forest history_in history_forest newest add_branch add_bare add_content add_new add_at add_in add_forest untimed add_on retrieve_on history_on archive_in count_on set_mark_on find_mark_on earlier_on step_back_on step_back_to_mark_on
walk_compute = tt
