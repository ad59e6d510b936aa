-- DEMAND 2, every clause, for every description and image. Assumes nothing.
use Prim.Native.Nat.{ℕ, ◌+◌, ◌≤◌}
use mathlib.Core.Path.{◌≡◌}
use mathlib.Core.Bool.{true}
use mathlib.Core.List.{List}
use borrow.Author.Tests.{le-ltb}
use Rattle.offsets.specs.declared.TableOffset.{TableOffset}
use Rattle.meaning.specs.Basics.{part}
use Rattle.meaning.specs.declared.ElementName.{ElementName}
use Rattle.meaning.specs.Description.{fields_at, is_uint}
use Rattle.meaning.specs.Layout.{number_at}
use Rattle.meaning.specs.Refusals.{element_place_reply, place_part, table_part_reply, element_part_reply, range_at, read_range_reply, read_range_part, integer_place_reply, place_number, element_number_reply}
use Rattle.laying.proofs.Found.{for_exactly}
use Rattle.almanac.proofs.Choices.{season_says, special_says}
use Rattle.almanac.proofs.NextDay.{days}
use Rattle.demands.specs.Demand2.{Reads, Calendar, Demand2}
use Rattle.demands.specs.Replies.{octets_at, ours}
use Rattle.demands.proofs.Calendar.{tier_says, seasoned_says, matrix_says}
use Rattle.demands.proofs.Weekdays.{weekdays_say}
use Rattle.demands.proofs.RangeWrites.{range_writes}
use Rattle.demands.proofs.ElementWrites.{octets_writes, number_writes}
use Rattle.std.specs.Prelude.{Ok}
use Rattle.meaning.specs.Values.{Place}
use Rattle.meaning.specs.declared.Answer.{Answer}

part_told : (img : List ℕ) (x : Place) (p n : ℕ) → x ≡ octets_at p n → place_part img x ≡ part img p n
unfolding place_part
part_told img x p n e = rw e

number_told : (d img : List ℕ) (q : ElementName) (p n : ℕ) → element_place_reply d img q ≡ octets_at p n → is_uint (fields_at d q.item) ≡ true
    → element_number_reply d img q ≡ Ok (Answer.Number (number_at img p n))
unfolding element_number_reply integer_place_reply place_number
number_told d img q p n e u = rw ((for_exactly d img q true p n).1 ((λ g. u), e))

-- a range inside its place
range_told : (x : Place) (p size : ℕ) (o : TableOffset) (n : ℕ) → x ≡ octets_at p size → o.0 + n ≤ size → range_at o n x ≡ octets_at (p + o.0) n
unfolding range_at
range_told x p size o n e h = rw (e, le-ltb size (o.0 + n) h)

reads : (d img : List ℕ) → Reads ours d img
unfolding table_part_reply element_part_reply read_range_reply read_range_part
reads d img =
    record {
      table = λ m k p n e. part_told img _ p n e;
      element = λ q p n e. part_told img _ p n e;
      number = number_told d img;
      range = λ m k p size o n e h. range_told _ p size o n e h;
      range_part = λ m k o n p l e. part_told img _ p l e;
    }

calendar : (d img : List ℕ) → Calendar ours d img
calendar d img =
    record {
      tier = tier_says d img;
      matrix = matrix_says d img;
      seasoned = seasoned_says d img;
      weekdays = weekdays_say;
      days = days;
      season = season_says;
      special = special_says;
    }

pub demand_2 : (d img : List ℕ) → Demand2 ours d img
demand_2 d img =
    record {
      reads = reads d img;
      calendar = calendar d img;
      range = range_writes d img;
      octets = octets_writes d img;
      number = number_writes d img;
    }
