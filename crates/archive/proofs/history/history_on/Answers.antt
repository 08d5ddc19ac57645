-- `history_on` meets its contract.
use Rattle.archive.specs.HistoryCall.{history-asked, history-found, history-12}
use Rattle.archive.proofs.history.history_on.Goals as goal

pub parse_address-requires : goal.parse_address-requires
parse_address-requires c = (record { key_list = c.requires.0.key_list; table = c.requires.0.tabled }, c.requires.1)

pub returns-in_default : goal.returns-in_default
returns-in_default c K f t h = history-12 K c.args.address.now _ f c.args.out.now (c.parse_address.ensures K t) c.in_default.is

pub give_times-requires : goal.give_times-requires
give_times-requires c = history-asked c.parse_address.ensures c.requires.0 c.in-Some.is

pub returns : goal.returns
returns c K f t h = history-found K c.args.address.now _ (c.parse_address.ensures K t) c.in-Some.is t h c.give_times.ensures
