-- The archive of one version: its `T` is around the version itself, and 13 never applies to it.
use Rattle.std.specs.Prelude.{◌+◌, ◌≤◌, ◌≡◌, refl, ◌||◌, length}
use Rattle.std.proofs.Common.{arith, ◌∙◌, length-append}
use Rattle.std.proofs.Math.Path.{ap, ap₂}
use mathlib.Core.List.{[], ◌∷◌, ◌++◌, append-nil}
use Rattle.std.proofs.Math.Dec.{ltb}
use borrow.Author.Tests.{le-ltb, ltb-false}
use Rattle.xml.specs.Bytes.{Bytes, bytes}
use Rattle.xml.specs.Truth.{or_left, or_right}
use Rattle.xml.specs.Forest.{Forest, end, stamp, write, nodes, depth}
use Rattle.model.specs.Gather.{gather}
use Rattle.keys.specs.Result.{ok}
use Rattle.keys.specs.KeyList.{KeyList}
use Rattle.keys.specs.Version.{version, too_large}
use Rattle.keys.specs.Versions.{version-legal}
use Rattle.keys.specs.Tree.{keyed}
use Rattle.keys.specs.TreeParts.{forest-tree}
use Rattle.timestamp.specs.Times.{always, only_after, write_times, times_compute}
use Rattle.versions.specs.Archive.{archive, archive_forest, archive_of}
use Rattle.versions.specs.AddWritten.{stamped-fresh}
use Rattle.versions.specs.Calls.{storable}

one-text : write_times (always 1) ≡ bytes "1"
unfolding times_compute
one-text = refl

-- the text of the archive of a version with this text
abbrev pub first_text : Bytes → Bytes
first_text w = bytes "<T t=\"1\">" ++ w ++ bytes "</T>"

pub first-length : (w : Bytes) → length (first_text w) ≡ length w + 13
unfolding bytes
first-length w = length-append (bytes "<T t=\"1\">" ++ w) (bytes "</T>") ∙ omega (arith, length-append (bytes "<T t=\"1\">") w)

module _ (K : KeyList) (s : Bytes) (v : Forest) (e : version K s ≡ ok v) where
  founded : archive_of K (v ∷ []) ≡ stamp (bytes "1") v end
  unfolding archive_of archive archive_forest gather always only_after
  founded = ap₂ (λ t f. stamp t f end) one-text (stamped-fresh 0 (keyed K [] v) ∙ forest-tree K v (version-legal K s v e))

  pub founded-text : write (archive_of K (v ∷ [])) ≡ first_text (write v)
  unfolding write bytes
  founded-text = ap write founded ∙ append-nil (first_text (write v))

  few : nodes v ≤ 512
  unfolding too_large
  few = ltb-false 512 (nodes v) (or_right (ltb 16 (depth v)) (ltb 512 (nodes v)) (or_left (ltb 16 (depth v) || ltb 512 (nodes v)) (ltb 16384 (length (write v))) (version-legal K s v e).small))

  pub short : length (write v) ≤ 16384
  unfolding too_large
  short = ltb-false 16384 (length (write v)) (or_right (ltb 16 (depth v) || ltb 512 (nodes v)) (ltb 16384 (length (write v))) (version-legal K s v e).small)

  -- 13 never applies
  founded-small : nodes (archive_of K (v ∷ [])) ≤ 1024
  unfolding nodes
  founded-small = rw founded (omega (arith, few))

  founded-short : length (write (archive_of K (v ∷ []))) ≤ 32768
  founded-short = rw founded-text (omega (arith, first-length (write v), short))

  pub founded-storable : storable (archive_of K (v ∷ [])) ≡ ok tt
  unfolding storable
  founded-storable = rw (le-ltb 1024 (nodes (archive_of K (v ∷ []))) founded-small, le-ltb 32768 (length (write (archive_of K (v ∷ [])))) founded-short)
