-- DEMAND 3, every clause, for every description and image, of our replies. Assumes nothing.
use Prim.Native.Nat.{ℕ}
use mathlib.Core.List.{List}
use Rattle.demands.specs.Demand3.{Demand3}
use Rattle.demands.specs.Replies.{ours}
use Rattle.demands.proofs.Outcomes.{passed_exactly_lem, none_met_lem, lays_or_short_lem, short_exactly_lem, total_exactly_lem}
use Rattle.demands.proofs.Elements.{elements_stand_lem}
use Rattle.demands.proofs.Tables.{tables_stand_lem, tables_follow_lem}
use Rattle.demands.proofs.Made.{table_made_up_lem}
use Rattle.demands.proofs.RangeWrites.{range_stays}
use Rattle.demands.proofs.ElementWrites.{octets_stay, number_stays}

pub demand_3 : (d img : List ℕ) → Demand3 ours d img
demand_3 d img =
    record {
      passed_exactly = passed_exactly_lem d;
      none_met = none_met_lem d img;
      lays_or_short = lays_or_short_lem;
      short_exactly = short_exactly_lem;
      total_exactly = total_exactly_lem;
      tables_stand = tables_stand_lem d img;
      elements_stand = elements_stand_lem d img;
      tables_follow = tables_follow_lem d img;
      table_made_up = table_made_up_lem d img;
      writes_stay_put = record { range = range_stays d img; octets = octets_stay d img; number = number_stays d img };
    }
