-- `arrange` meets its contract.
use Rattle.keys.specs.Arrange.{version-fits, version-answers}
use Rattle.keys.proofs.arrange.arrange.Goals as goal

pub arrange_content-requires : goal.arrange_content-requires
arrange_content-requires c = (version-fits c.requires.0, c.requires.1, c.requires.2)

pub returns : goal.returns
returns c = version-answers c.arrange_content.result c.requires.0 c.arrange_content.ensures
