-- `octets::number_in`: counted where there are few enough, 0 elsewhere. Assumes nothing.
use mathlib.Core.Path.{◌∙◌}
use Rattle.octets.proofs.Laws.{number_many, number_few}
use Rattle.octets.proofs.number_in.Goals as goal

pub returns-then-octets-gt8 : goal.returns-then-octets-gt8
returns-then-octets-gt8 c = number_many _ _ c.if-octets-gt8.true

pub returns : goal.returns
returns c = (c.counted.ensures.0 ∙ number_few _ _ c.if-octets-gt8.false, c.counted.ensures.1)
