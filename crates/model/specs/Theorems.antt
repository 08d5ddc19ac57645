-- The theorems on archives of keyed versions, as they are stored. Versions are counted from 0 here.
use Rattle.std.specs.Prelude.{ℕ, zero, suc, ◌<◌, ◌≤◌, ◌≡◌, List, map, length, take, get_or}
use Rattle.std.proofs.Common.{subst}
use Rattle.model.specs.Gather.{gather, All}
use Rattle.model.specs.Keyed.{Order, Tree, nil, ◌▷◌, Ascending, holds}
use Rattle.model.specs.Ledger.{reads, all-WF, all_read, all-cut, all-reads, unique, reads-good, all-observed, length-reads}
use Rattle.model.specs.Groups.{Same, Groups}
use Rattle.model.specs.Stored.{merge_s, version_s, cut_s, WFS, history_s, stored, history_s-merge, history_s-end}

module _ {L C : Type 0} (ord : Order L) (sm : Same C) where
  -- the published merge, folded over the versions from the first on
  abbrev pub archive_of : List (Tree L C) → Tree L (Groups C)
  archive_of = gather (merge_s ord sm) zero nil

  abbrev pub versions : ℕ → Tree L (Groups C) → List (Tree L C)
  versions = reads version_s

  -- merging keeps well-formedness, the versions before it, the histories and what a cut gives
  pub merge-formed : (n : ℕ) (a : Tree L (Groups C)) (v : Tree L C) → WFS ord sm n a → Ascending ord v → WFS ord sm (suc n) (merge_s ord sm n a v)
  merge-formed = (stored ord sm).grows

  pub merge-history : (n : ℕ) (qs : List L) (a : Tree L (Groups C)) (v : Tree L C) → WFS ord sm n a → Ascending ord v
      → history_s ord sm (suc n) qs (merge_s ord sm n a v) ≡ history_s ord sm n qs a ▷ holds ord qs v
  merge-history = history_s-merge ord sm

  pub cut-formed : (n i : ℕ) (a : Tree L (Groups C)) → WFS ord sm n a → i ≤ n → WFS ord sm i (cut_s i a)
  cut-formed = (stored ord sm).shorter

  -- of the archive of a list of versions: it is well-formed, gives back each version, answers for each address, and is cut to that of the first i
  module _ (vs : List (Tree L C)) (s : All (Ascending ord) vs) where
    pub archive-formed : WFS ord sm (length vs) (archive_of vs)
    archive-formed = all-WF (WFS ord sm) (Ascending ord) nil (merge_s ord sm) cut_s version_s (stored ord sm) vs s

    pub archive-version : (i : ℕ) → i < length vs → version_s i (archive_of vs) ≡ get_or vs i nil
    archive-version = all_read (WFS ord sm) (Ascending ord) nil (merge_s ord sm) cut_s version_s (stored ord sm) vs s nil

    pub archive-history : (qs : List L) → history_s ord sm (length vs) qs (archive_of vs) ≡ map (holds ord qs) vs
    archive-history qs = all-observed (WFS ord sm) (Ascending ord) nil (merge_s ord sm) cut_s version_s (stored ord sm) vs s
        (λ n a. history_s ord sm n qs a) (holds ord qs) (history_s-end ord sm qs) (λ n a v w g. history_s-merge ord sm n qs a v w g)

    pub archive-cut : (i : ℕ) → i ≤ length vs → cut_s i (archive_of vs) ≡ archive_of (take i vs)
    archive-cut = all-cut (WFS ord sm) (Ascending ord) nil (merge_s ord sm) cut_s version_s (stored ord sm) vs s

  -- a well-formed archive is the archive of its own versions, and no other has these
  pub formed-archive : (n : ℕ) (a : Tree L (Groups C)) → WFS ord sm n a → archive_of (versions n a) ≡ a
  formed-archive = all-reads (WFS ord sm) (Ascending ord) nil (merge_s ord sm) cut_s version_s (stored ord sm)

  pub versions-ascend : (n : ℕ) (a : Tree L (Groups C)) → WFS ord sm n a → All (Ascending ord) (versions n a)
  versions-ascend n a w = reads-good (WFS ord sm) (Ascending ord) nil (merge_s ord sm) cut_s version_s (stored ord sm) n n a w

  pub length-versions : (n : ℕ) (a : Tree L (Groups C)) → length (versions n a) ≡ n
  length-versions = length-reads (WFS ord sm) (Ascending ord) nil (merge_s ord sm) cut_s version_s (stored ord sm)

  pub same-archive : (n : ℕ) (a b : Tree L (Groups C)) → WFS ord sm n a → WFS ord sm n b → versions n a ≡ versions n b → a ≡ b
  same-archive = unique (WFS ord sm) (Ascending ord) nil (merge_s ord sm) cut_s version_s (stored ord sm)

  -- nothing else is well-formed
  pub only-formed : (n : ℕ) (a : Tree L (Groups C)) → All (Ascending ord) (versions n a) → archive_of (versions n a) ≡ a → WFS ord sm n a
  only-formed n a s e = subst (λ b. WFS ord sm n b) e
      (subst (λ m. WFS ord sm m (archive_of (versions n a))) (length-versions n a) (archive-formed (versions n a) s))
