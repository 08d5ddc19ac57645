-- Demand 3 of the code, joined to the code: the eight calls, each by the postcondition that Rattle reads off the contract which it is proved to
-- meet (`Post`), or, of the four over a lent table of marks, by what its contract says (`Tied`); and the one claim about all runs of them.
use mathlib.Core.Path.{◌≡◌, refl, sym, ap}
use lib.ListN.{length}
use Rattle.xml.specs.Bytes.{Bytes}
use Rattle.keys.specs.Result.{ok}
use Rattle.keys.specs.Meant.{number_in, length_in}
use Rattle.keys.specs.KeyList.{KeyList, key_list}
use Rattle.versions.proofs.MarkLaws.{find-nothing}
use Rattle.archive.specs.Giving.{ends-told, marked-told}
use Rattle.archive.specs.MarkCalls.{SetEnds, FindEnds, BackEnds, NamedEnds}
use Rattle.archive.specs.Runs.{ExitsOf, Saying, WalkedExits, Tied, Code, CodeStanding}
use Rattle.archive.proofs.CodeStanding.{code-standing}
use Rattle.archive.proofs.found.found.Kinds as found-kinds
use Rattle.archive.proofs.found.found.Reads as found-reads
use Rattle.archive.proofs.add.add_version.Kinds as add-kinds
use Rattle.archive.proofs.add.add_version.Reads as add_reads
use Rattle.archive.specs.contracts.back.step_back as step_back
use Rattle.archive.specs.contracts.back.step_back_to_mark as step-back-to-mark
use Rattle.archive.specs.contracts.mark.set_mark as set-mark
use Rattle.archive.specs.contracts.mark.find_mark as find-mark
use Rattle.archive.proofs.retrieve.retrieve.Kinds as retrieve-kinds
use Rattle.archive.proofs.retrieve.retrieve.Reads as retrieve-reads
use Rattle.archive.proofs.history.give_history.Kinds as history-kinds
use Rattle.archive.proofs.history.give_history.Reads as history-reads

-- ---- what the contracts of the calls over a lent table say of an exit
-- `step_back(keys, archive, marks, i, out, work)`
abbrev back_says : Saying step_back.ended
back_says κs a r x =
    BackEnds a.0.now a.1.0.now a.1.1.0.now a.1.1.1.0 a.1.1.1.1.0.now a.1.1.1.1.1.0.now (number_in r) (length_in r)
    x.1.1.1.1.0.now x.1.1.1.1.1.0.now x.1.1.0.now

pub back-tied : Tied step_back.ended (λ M 𝓤 𝓛 mem run. step_back.clauses 𝓛 mem run) back_says
back-tied M 𝓤 𝓛 mem run κs a g r x = refl

-- `step_back_to_mark(keys, archive, marks, name, out, work)`
abbrev named_says : Saying step-back-to-mark.ended
named_says κs a r x =
    NamedEnds a.0.now a.1.0.now a.1.1.0.now a.1.1.1.0.now a.1.1.1.1.0.now a.1.1.1.1.1.0.now (number_in r) (length_in r)
    x.1.1.1.1.0.now x.1.1.1.1.1.0.now x.1.1.0.now

pub named-tied : Tied step-back-to-mark.ended (λ M 𝓤 𝓛 mem run. step-back-to-mark.clauses 𝓛 mem run) named_says
named-tied M 𝓤 𝓛 mem run κs a g r x = refl

-- `set_mark(keys, archive, marks, name, i, work)`
abbrev set_says : Saying set-mark.ended
set_says κs a r x =
    SetEnds a.0.now a.1.0.now a.1.1.0.now a.1.1.1.0.now a.1.1.1.1.0 a.1.1.1.1.1.0.now (number_in r) (length_in r)
    x.1.1.1.1.1.0.now x.1.1.0.now

pub set-tied : Tied set-mark.ended (λ M 𝓤 𝓛 mem run. set-mark.clauses 𝓛 mem run) set_says
set-tied M 𝓤 𝓛 mem run κs a g r x = refl

-- `find_mark(keys, archive, marks, name, work)`
abbrev find_says : Saying find-mark.ended
find_says κs a r x = FindEnds a.0.now a.1.0.now a.1.1.0.now a.1.1.1.0.now a.1.1.1.1.0.now r x.1.1.1.1.0.now

pub find_tied : Tied find-mark.ended (λ M 𝓤 𝓛 mem run. find-mark.clauses 𝓛 mem run) find_says
find_tied M 𝓤 𝓛 mem run κs a g r x = refl

-- the calls, by their contracts
pub calls : Code
calls = record {
  -- `found(keys, version, out, work)`
  founds = record {
    At = ExitsOf found-kinds.ps found-kinds.r found-reads.Post;
    args = λ e. (e.1.0.now, e.1.1.0.now);
    exit = λ e. record { out = e.1.1.1.0.now; cells = length e.1.1.1.1.0.now; number = number_in e.2; size = length_in e.2; left = e.3.1.1.0.now };
    meets = λ e. ends-told e.4;
  };
  -- `add_version(keys, archive, version, out, work)`
  adds = record {
    At = ExitsOf add-kinds.ps add-kinds.r add_reads.Post;
    args = λ e. (e.1.0.now, e.1.1.0.now, e.1.1.1.0.now);
    exit = λ e. record { out = e.1.1.1.1.0.now; cells = length e.1.1.1.1.1.0.now; number = number_in e.2; size = length_in e.2; left = e.3.1.1.1.0.now };
    meets = λ e. ends-told e.4;
  };
  backs = record {
    At = WalkedExits step_back.ended back_says;
    args = λ e. (e.1.0.now, e.1.1.0.now, e.1.1.1.0.now, e.1.1.1.1.0);
    exit = λ e. record { out = e.1.1.1.1.1.0.now; cells = length e.1.1.1.1.1.1.0.now; number = number_in e.2; size = length_in e.2; left = e.3.1.1.1.1.0.now };
    table = λ e. e.3.1.1.0.now;
    meets = λ e. marked-told e.4;
  };
  names = record {
    At = WalkedExits step-back-to-mark.ended named_says;
    args = λ e. (e.1.0.now, e.1.1.0.now, e.1.1.1.0.now, e.1.1.1.1.0.now);
    exit = λ e. record { out = e.1.1.1.1.1.0.now; cells = length e.1.1.1.1.1.1.0.now; number = number_in e.2; size = length_in e.2; left = e.3.1.1.1.1.0.now };
    table = λ e. e.3.1.1.0.now;
    meets = λ e. marked-told e.4;
  };
  marks = record {
    At = WalkedExits set-mark.ended set_says;
    args = λ e. (e.1.0.now, e.1.1.0.now, e.1.1.1.0.now, e.1.1.1.1.0.now, e.1.1.1.1.1.0);
    return = λ e. record { cells = length e.1.1.1.1.1.1.0.now; number = number_in e.2; size = length_in e.2 };
    table = λ e. e.3.1.1.0.now;
    meets = λ e. ((e.4.ends.number_is, e.4.ends.size_is), e.4.table_is);
  };
  finds = record {
    At = WalkedExits find-mark.ended find_says;
    args = λ e. (e.1.0.now, e.1.1.0.now, e.1.1.1.0.now, e.1.1.1.1.0.now);
    return = λ e. record { cells = length e.1.1.1.1.1.0.now; number = number_in e.2; size = 0 };
    version = λ e. length_in e.2;
    meets = λ e. (
      (e.4.number_is, sym (ap length (find-nothing e.1.0.now e.1.1.0.now e.1.1.1.0.now e.1.1.1.1.0.now (length e.1.1.1.1.1.0.now)))),
      e.4.version-is,
    );
  };
  -- `retrieve(keys, archive, i, out, work)`
  retrieves = record {
    At = ExitsOf retrieve-kinds.ps retrieve-kinds.r retrieve-reads.Post;
    args = λ e. (e.1.0.now, e.1.1.0.now, e.1.1.1.0);
    exit = λ e. record { out = e.1.1.1.1.0.now; cells = length e.1.1.1.1.1.0.now; number = number_in e.2; size = length_in e.2; left = e.3.1.1.1.0.now };
    meets = λ e. ends-told e.4;
  };
  -- `give_history(keys, archive, address, out, work)`
  histories = record {
    At = ExitsOf history-kinds.ps history-kinds.r history-reads.Post;
    args = λ e. (e.1.0.now, e.1.1.0.now, e.1.1.1.0.now);
    exit = λ e. record { out = e.1.1.1.1.0.now; cells = length e.1.1.1.1.1.0.now; number = number_in e.2; size = length_in e.2; left = e.3.1.1.1.0.now };
    meets = λ e. ends-told e.4;
  };
}

-- Demand 3 of the calls: any run of them, and any two
pub calls-standing : (keys : Bytes) (K : KeyList) → key_list keys ≡ ok K → CodeStanding calls keys K
calls-standing = code-standing calls
