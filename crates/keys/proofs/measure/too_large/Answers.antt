-- `keys::measure::too_large` meets its contract: the walk from above the root, sixteen deep, decides refusal 6. Assumes nothing.
use mathlib.Core.Path.{ap, ◌∙◌}
use mathlib.Core.List.{[]}
use Rattle.keys.specs.declared.measure.Sizes.{Sizes}
use Rattle.keys.specs.PlaceLaws.{place-root}
use Rattle.keys.specs.MeasureTotal.{measured-large}
use Rattle.keys.proofs.measure.too_large.Goals as goal

pub returns : goal.returns
returns c K t f h d = ap (λ (s : Sizes). s.over) (c.measure_content.ensures K [] t (place-root K) f h) ∙ measured-large K f d
