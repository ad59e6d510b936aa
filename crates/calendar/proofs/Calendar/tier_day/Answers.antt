-- `Calendar::tier_day`: the special schedule and the season of the day are asked of the same dates. Assumes nothing.
use mathlib.Core.Path.{refl}
use Rattle.meaning.specs.Calendar.{tier_day, special_on, season_on}
use Rattle.records.specs.Records.{brought_to}
use Rattle.calendar.proofs.Calendar.tier_day.Goals as goal

pub returns : goal.returns
unfolding tier_day special_on season_on brought_to
returns c = rw (c.tier_on.ensures, c.in_season.ensures, c.chosen_by-special.ensures, c.chosen_by-season.ensures) refl
