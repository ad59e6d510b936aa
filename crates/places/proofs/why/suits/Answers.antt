-- `why::suits`: by the kind of the item that is read. Assumes nothing.
use mathlib.Core.Path.{refl, ◌∙◌}
use Rattle.meaning.specs.Description.{is_uint}
use Rattle.places.proofs.Reasons.{read_test}
use Rattle.places.proofs.why.suits.Goals as goal

pub returns : goal.returns
returns c = c.either.ensures ∙ rw (c.is_uint.ensures, read_test is_uint refl _ _ c.item_named.ensures)
