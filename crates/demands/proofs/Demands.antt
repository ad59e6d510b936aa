-- THE THREE DEMANDS hold of our replies and what document 02 asks of messages of ours, and of no others: any families that meet them are ours. Assumes nothing.
use Rattle.demands.specs.Bench.{Messages, our_messages}
use Rattle.demands.specs.Demands.{Demands, AllDemands}
use Rattle.demands.specs.Replies.{Replies, ours}
use Rattle.demands.specs.Same.{Same, SameMessages}
use Rattle.demands.proofs.Demand1.{demand_1}
use Rattle.demands.proofs.Demand2.{demand_2}
use Rattle.demands.proofs.Demand3.{demand_3}
use Rattle.demands.proofs.Messages.{messages_say}
use Rattle.demands.proofs.Only.{only}
use Rattle.demands.proofs.OnlyMessages.{only_messages}

pub demands : Demands ours
demands = record { first = demand_1; second = demand_2; third = demand_3 }

pub only_ours : (R : Replies) → Demands R → Same R ours
only_ours R h = only R h demands

-- with the messages
pub all_demands : AllDemands ours our_messages
all_demands = record { tables = demands; messages = messages_say }

pub all_ours : (R : Replies) (M : Messages) → AllDemands R M → Same R ours × SameMessages M our_messages
all_ours R M h =
    let same = only_ours R h.tables in
    (same, only_messages R same M our_messages h.messages messages_say)
