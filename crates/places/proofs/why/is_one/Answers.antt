-- `why::is_one`: by the kind of the item that is read. Assumes nothing.
use mathlib.Core.Path.{refl, ◌∙◌}
use Rattle.meaning.specs.Description.{is_element}
use Rattle.places.proofs.Reasons.{read_test}
use Rattle.places.proofs.why.is_one.Goals as goal

pub returns : goal.returns
returns c = c.is_element.ensures ∙ read_test is_element refl _ _ c.item_named.ensures
