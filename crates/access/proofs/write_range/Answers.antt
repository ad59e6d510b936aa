-- `access::write_range`: an accepted range fits where it goes. Assumes nothing.
use Rattle.access.proofs.Inside.{place_fits}
use Rattle.access.proofs.write_range.Goals as goal

pub write_at-requires : goal.write_at-requires
write_at-requires c = place_fits _ _ _ _ _ _ _ c.write_place-place.ensures
