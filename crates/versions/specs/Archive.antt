-- Archives: the merged tree, its written form, and reading it back.
use Rattle.std.specs.Prelude.{ℕ, zero, suc, ◌≤◌, ◌≡◌, true, false, not, ◌&&◌, leb, ltb, length}
use mathlib.Core.List.{List, [], ◌∷◌, map}
use Rattle.xml.specs.Bytes.{Bytes, same}
use Rattle.xml.specs.Forest.{Forest, end, elem, text, stamp, write, nodes, join}
use Rattle.xml.specs.Read.{read}
use Rattle.model.specs.Gather.{gather}
use Rattle.model.specs.Keyed.{Tree, nil, node, merge_by, graft, fresh}
use Rattle.model.specs.Orders.{labels}
use Rattle.model.specs.Groups.{Groups, add_g}
use Rattle.model.specs.Stored.{merge_s, mask_g, or_l}
use Rattle.model.specs.Direct.{direct, insert_label, labels_in, labels_of, content_at, kids_at, among, distinct, groups_of}
use Rattle.keys.specs.KeyList.{KeyList}
use Rattle.keys.specs.Result.{Result, ok, ◌>>=◌, ◌>>◌, refuse, refused_as, r10}
use Rattle.keys.specs.Version.{Label, name_in, parsed, version}
use Rattle.keys.specs.Address.{address_compute}
use Rattle.keys.specs.Tree.{Content, contents, keyed, held_by, tree_compute}
use Rattle.timestamp.specs.Times.{Times, same_times, always, write_times, belongs, last_number, times_compute}

-- "Each keyed element stands once among its siblings, in the order above, with the set of versions containing it": with its distinct
-- contents, each with its versions; above a frontier the one content `inner`, and the keyed elements that it holds
abbrev pub Archive : Type 0
Archive = Tree Label (Groups Content)

-- the archive of a list of versions: source document 000's merge (`merge_s` of the model), version by version
unfoldable pub archive : KeyList → List Forest → Archive
archive K vs = gather (merge_s labels contents) 0 nil (map (keyed K []) vs)

-- the same directly, as document 01 says it (`direct` of the model); versions are at most sixteen deep
unfoldable pub archive_direct : KeyList → List Forest → Archive
archive_direct K vs = direct labels contents 16 (map (keyed K []) vs)

-- ---- the written archive, of n versions
-- "If that set differs from its parent's, the element alone is wrapped in a `T` with the set."
unfoldable pub wrap : Times → Times → (Forest → Forest) → Forest → Forest
wrap parent t element r = elim (same_times parent t) [ true ↦ element r | false ↦ stamp (write_times t) (element end) r ]

unfoldable pub branches : Groups Content → Forest
branches [] = end
branches (g ∷ gs) = stamp (write_times g.0) (held_by g.1 end) (branches gs)

-- "A frontier with one content over its life holds it bare. With two or more, each distinct content is in one `T` with its versions"
unfoldable pub holding : Groups Content → Forest → Forest
holding [] kids = kids
holding (g ∷ []) kids = held_by g.1 kids
holding (g ∷ h ∷ gs) kids = branches (g ∷ h ∷ gs)

-- siblings in an element that stands in the versions `parent`
unfoldable pub stamped : ℕ → Times → Archive → Forest
stamped n parent nil = end
stamped n parent (node l gs k r) =
    wrap parent (mask_g n gs) (elem (name_in l) (holding gs (stamped n (mask_g n gs) k))) (stamped n parent r)

-- "The archive of n versions is `<T t="1-n">` (`1` when n is 1) around the merged root.", and Q-6's "The root is treated as any other
-- child: wrapped in its own `T` when its set differs, and left out if no version has it."
unfoldable pub archive_forest : ℕ → Archive → Forest
archive_forest n a = stamp (write_times (always n)) (stamped n (always n) a) end

-- the forest of the archive of a list of versions, whose written form is the archive
unfoldable pub archive_of : KeyList → List Forest → Forest
archive_of K vs = archive_forest (length vs) (archive K vs)

-- ---- legality
-- texts of legal versions, and the versions
pub data Versions (K : KeyList) : List Bytes → List Forest → Type 0 where
  empty : Versions K [] []
  more : {s : Bytes} {ss : List Bytes} {v : Forest} {vs : List Forest} → version K s ≡ ok v → Versions K ss vs → Versions K (s ∷ ss) (v ∷ vs)

-- "An archive is legal if it is exactly the written archive of some 1 to 999 legal versions under its key list, and has at most 1,024 nodes."
pub record Legal (K : KeyList) (s : Bytes) : Type 0 where
  pub texts : List Bytes
  pub versions : List Forest
  pub each-legal : Versions K texts versions
  pub some-there : 1 ≤ length versions
  pub not_more : length versions ≤ 999
  pub exactly : s ≡ write (archive_of K versions)
  pub small : nodes (archive_of K versions) ≤ 1024

-- ---- reading an archive back
-- the part of an archive's forest that is of version i
unfoldable pub pick : ℕ → Forest → Forest
pick i end = end
pick i (text b r) = text b (pick i r)
pick i (elem n k r) = elem n (pick i k) (pick i r)
pick i (stamp t k r) = elim (belongs i t) [ true ↦ join (pick i k) (pick i r) | false ↦ pick i r ]

-- versions i, i + 1, .. of an archive's forest, as many as there are; each must be legal
unfoldable pub versions_from : KeyList → Forest → ℕ → ℕ → Result (List Forest)
versions_from K f zero i = ok []
versions_from K f (suc n) i = do
  v ← version K (write (pick i f))
  vs ← versions_from K f n (suc i)
  ok (v ∷ vs)

-- n, where an archive's forest is `<T t="1-n">` around something
unfoldable pub last_version : Forest → ℕ
last_version end = 0
last_version (text b r) = 0
last_version (elem n k r) = 0
last_version (stamp t k r) = last_number t

-- the versions of an archive, which can only be those that the text's own timestamps pick; 10: "archive not legal"
-- (`legal-archive` and `archive-legal` say that it decides `Legal`)
unfoldable pub archive_text : KeyList → Bytes → Result (List Forest)
archive_text K s = refused_as r10 (do
  f ← parsed (read true s)
  refuse r10 (not (leb 1 (last_version f) && leb (last_version f) 999))
  refuse r10 (ltb 1024 (nodes f))
  vs ← versions_from K f (last_version f) 1
  refuse r10 (not (same s (write (archive_of K vs))))
  ok vs)

unfoldable pub archive_compute : Unit {0}
unfolding address_compute tree_compute times_compute gather merge_by graft fresh add_g mask_g or_l direct insert_label labels_in labels_of content_at kids_at among distinct groups_of archive archive_direct wrap branches holding stamped archive_forest archive_of pick versions_from last_version archive_text
archive_compute = tt
