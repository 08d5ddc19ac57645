-- Demand 3 of the C entries, which are what the firmware calls: each by the postcondition that Rattle reads off the contract which it is proved
-- to meet (`Post`), over the 16,384 work cells that its answer is said of.
use mathlib.Core.Path.{◌≡◌}
use Rattle.xml.specs.Bytes.{Bytes}
use Rattle.keys.specs.Result.{ok}
use Rattle.keys.specs.KeyList.{KeyList, key_list}
use Rattle.marks.specs.Marks.{table_in}
use Rattle.archive.specs.Runs.{ExitsOf, Code, CodeStanding}
use Rattle.archive.proofs.CodeStanding.{code-standing}
use Rattle.archive.specs.Tables.{back-told, back-to-mark-told, set_told, find-told}
use Rattle.firmware.proofs.archive_found.Kinds as found-kinds
use Rattle.firmware.proofs.archive_found.Reads as found-reads
use Rattle.firmware.proofs.archive_add.Kinds as add-kinds
use Rattle.firmware.proofs.archive_add.Reads as add_reads
use Rattle.firmware.proofs.archive_back.Kinds as back-kinds
use Rattle.firmware.proofs.archive_back.Reads as back-reads
use Rattle.firmware.proofs.archive_back_to_mark.Kinds as named-kinds
use Rattle.firmware.proofs.archive_back_to_mark.Reads as named-reads
use Rattle.firmware.proofs.archive_set_mark.Kinds as set-kinds
use Rattle.firmware.proofs.archive_set_mark.Reads as set_Reads
use Rattle.firmware.proofs.archive_find_mark.Kinds as find-kinds
use Rattle.firmware.proofs.archive_find_mark.Reads as find-reads
use Rattle.firmware.proofs.archive_retrieve.Kinds as retrieve-kinds
use Rattle.firmware.proofs.archive_retrieve.Reads as retrieve-reads
use Rattle.firmware.proofs.archive_history.Kinds as history-kinds
use Rattle.firmware.proofs.archive_history.Reads as history-reads

-- the entries, by their contracts
pub entries : Code
entries = record {
  -- `archive_found(keys, version, out, length)`
  founds = record {
    At = ExitsOf found-kinds.ps found-kinds.r found-reads.Post;
    args = λ e. (e.1.0.now, e.1.1.0.now);
    exit = λ e. record { out = e.1.1.1.0.now; cells = 16384; number = e.2; size = e.3.1.1.1.0.now; left = e.3.1.1.0.now };
    meets = λ e. e.4;
  };
  -- `archive_add(keys, archive, version, out, length)`
  adds = record {
    At = ExitsOf add-kinds.ps add-kinds.r add_reads.Post;
    args = λ e. (e.1.0.now, e.1.1.0.now, e.1.1.1.0.now);
    exit = λ e. record { out = e.1.1.1.1.0.now; cells = 16384; number = e.2; size = e.3.1.1.1.1.0.now; left = e.3.1.1.1.0.now };
    meets = λ e. e.4;
  };
  -- `archive_back(keys, archive, marks, i, out, length)`
  backs = record {
    At = ExitsOf back-kinds.ps back-kinds.r back-reads.Post;
    args = λ e. (e.1.0.now, e.1.1.0.now, table_in e.1.1.1.0.now, e.1.1.1.1.0);
    exit = λ e. record { out = e.1.1.1.1.1.0.now; cells = 16384; number = e.2; size = e.3.1.1.1.1.1.0.now; left = e.3.1.1.1.1.0.now };
    table = λ e. table_in e.3.1.1.0.now;
    meets = λ e. back-told e.1.0.now e.1.1.0.now e.1.1.1.0.now e.1.1.1.1.0 e.4;
  };
  -- `archive_back_to_mark(keys, archive, marks, name, out, length)`
  names = record {
    At = ExitsOf named-kinds.ps named-kinds.r named-reads.Post;
    args = λ e. (e.1.0.now, e.1.1.0.now, table_in e.1.1.1.0.now, e.1.1.1.1.0.now);
    exit = λ e. record { out = e.1.1.1.1.1.0.now; cells = 16384; number = e.2; size = e.3.1.1.1.1.1.0.now; left = e.3.1.1.1.1.0.now };
    table = λ e. table_in e.3.1.1.0.now;
    meets = λ e. back-to-mark-told e.1.0.now e.1.1.0.now e.1.1.1.0.now e.1.1.1.1.0.now e.4;
  };
  -- `archive_set_mark(keys, archive, marks, name, i, length)`
  marks = record {
    At = ExitsOf set-kinds.ps set-kinds.r set_Reads.Post;
    args = λ e. (e.1.0.now, e.1.1.0.now, table_in e.1.1.1.0.now, e.1.1.1.1.0.now, e.1.1.1.1.1.0);
    return = λ e. record { cells = 16384; number = e.2; size = e.3.1.1.1.1.1.0.now };
    table = λ e. table_in e.3.1.1.0.now;
    meets = λ e. set_told e.1.0.now e.1.1.0.now e.1.1.1.0.now e.1.1.1.1.0.now e.1.1.1.1.1.0 e.4;
  };
  -- `archive_find_mark(keys, archive, marks, name, version, length)`
  finds = record {
    At = ExitsOf find-kinds.ps find-kinds.r find-reads.Post;
    args = λ e. (e.1.0.now, e.1.1.0.now, table_in e.1.1.1.0.now, e.1.1.1.1.0.now);
    return = λ e. record { cells = 16384; number = e.2; size = e.3.1.1.1.1.1.0.now };
    version = λ e. e.3.1.1.1.1.0.now;
    meets = λ e. find-told e.1.0.now e.1.1.0.now e.1.1.1.0.now e.1.1.1.1.0.now e.4;
  };
  -- `archive_retrieve(keys, archive, i, out, length)`
  retrieves = record {
    At = ExitsOf retrieve-kinds.ps retrieve-kinds.r retrieve-reads.Post;
    args = λ e. (e.1.0.now, e.1.1.0.now, e.1.1.1.0);
    exit = λ e. record { out = e.1.1.1.1.0.now; cells = 16384; number = e.2; size = e.3.1.1.1.1.0.now; left = e.3.1.1.1.0.now };
    meets = λ e. e.4;
  };
  -- `archive_history(keys, archive, address, out, length)`
  histories = record {
    At = ExitsOf history-kinds.ps history-kinds.r history-reads.Post;
    args = λ e. (e.1.0.now, e.1.1.0.now, e.1.1.1.0.now);
    exit = λ e. record { out = e.1.1.1.1.0.now; cells = 16384; number = e.2; size = e.3.1.1.1.1.0.now; left = e.3.1.1.1.0.now };
    meets = λ e. e.4;
  };
}

-- Demand 3 of the entries: any run of them, and any two
pub entries-standing : (keys : Bytes) (K : KeyList) → key_list keys ≡ ok K → CodeStanding entries keys K
entries-standing = code-standing entries
