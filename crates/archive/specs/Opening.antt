-- An archive opened under a key list: the steps up to 10, and a law for each answer.
use Rattle.std.specs.Prelude.{ℕ, ◌≤◌, ◌≡◌, refl, List, Result as Tried, Ok, Err}
use Rattle.std.proofs.Common.{◌∙◌, ap, subst}
use Rattle.xml.specs.Bytes.{Bytes}
use Rattle.xml.specs.Forest.{Forest}
use Rattle.xml.specs.Tape.{Tape}
use Rattle.keys.specs.Result.{Refusal as Row, number_of, refused, ok, ◌>>=◌}
use Rattle.keys.specs.Meant.{row_of}
use Rattle.keys.specs.declared.refusal.Refusal.{Refusal}
use Rattle.keys.specs.KeyList.{KeyList, key_list}
use Rattle.keys.specs.Table.{Table}
use Rattle.versions.specs.Archive.{last_version}
use Rattle.versions.specs.AllTimed.{legal-last}
use Rattle.versions.specs.Calls.{at_most}
use Rattle.versions.specs.Walk.{archive_read, archive_in}
use Rattle.legality.specs.Opened.{Opens}
use Rattle.legality.specs.declared.open.Opened.{Opened}
use Rattle.archive.specs.Asking.{Lies}
use Rattle.archive.specs.FirstSteps.{long-later, keys-later, archive-later}
use Rattle.archive.specs.Later.{Later}

-- what an archive that was opened is on the tape
pub record OpenedOn (keys src : Bytes) (cells : List ℕ) (hi n : ℕ) : Type 0 where
  pub forest : Forest
  pub is : archive_in keys src ≡ ok forest
  pub lies : Lies src cells hi n
  pub tape : Tape src cells 0 hi forest
  pub last : last_version forest ≡ n
  pub few : n ≤ 999

-- it is refused, or its key list is, under a row that is not that of the first step
pub record NotOpened (keys src : Bytes) (w : Row) : Type 0 where
  pub is : archive_in keys src ≡ refused w
  pub later : Later (number_of w)

-- what opening an archive answers of it
abbrev pub OpenedAs : Bytes → Bytes → List ℕ → Tried Opened Refusal → Type 0
OpenedAs keys src cells (Ok o) = OpenedOn keys src cells o.nodes o.versions
OpenedAs keys src cells (Err w) = NotOpened keys src (row_of w)

module _ (keys src : Bytes) where
  pub opened-long-keys : {w : Row} → refused w ≡ at_most 4096 keys → NotOpened keys src w
  unfolding archive_in
  opened-long-keys e = record { is = rw (← e) refl; later = long-later 4096 keys e }

  module _ (a : ok tt ≡ at_most 4096 keys) where
    pub opened-long : {w : Row} → refused w ≡ at_most 32768 src → NotOpened keys src w
    unfolding archive_in
    opened-long e = record { is = rw (← a, ← e) refl; later = long-later 32768 src e }

    module _ (b : ok tt ≡ at_most 32768 src) where
      -- what is left is the key list's
      left : archive_in keys src ≡ (key_list keys >>= λ K. archive_read K src)
      unfolding archive_in
      left = rw (← a, ← b) refl

      pub opened-keys : {w : Row} → key_list keys ≡ refused w → NotOpened keys src w
      opened-keys e = record { is = left ∙ ap (λ r. r >>= λ K. archive_read K src) e; later = keys-later keys e }

      pub opened-as : {table : List ℕ} {n : ℕ} (cells : List ℕ) (K : KeyList) → Table keys table n K → (r : Tried Opened Refusal) → Opens keys table n src cells r → OpenedAs keys src cells r
      opened-as cells K t (Ok o) h =
          let x = h K t in
          record {
            forest = x.forest;
            is = left ∙ ap (λ r. r >>= λ K. archive_read K src) t.accepted ∙ x.is;
            lies = record { keys = K; archive = x };
            tape = x.tape;
            last = x.last;
            few = subst (λ k. k ≤ 999) x.last (legal-last K x.forest x.legal);
          }
      opened-as cells K t (Err w) h = record { is = left ∙ ap (λ r. r >>= λ K. archive_read K src) t.accepted ∙ h K t; later = archive-later K src (h K t) }
