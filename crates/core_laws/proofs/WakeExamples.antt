-- Worked wakings on two tiles, against the definitions.
use Rattle.std.proofs.Common.{◌≡◌, true, false, [], ◌∷◌, Some, refl}
use Rattle.torus.specs.Shape.{Shape}
use Rattle.torus.specs.declared.step.Choice.TheVariants as choice
use Rattle.packet.specs.declared.kinds.Op.TheVariants as op
use Rattle.flit_buffer.specs.declared.want.Want.TheVariants as want
use Rattle.flit_buffer.specs.declared.word_op.WordOp.TheVariants.{Store}
use Rattle.core_laws.specs.Agent.TheVariants.{Processor}
use Rattle.core_laws.specs.Tile.{Design}
use Rattle.core_laws.specs.Agents.{wiring_of}
use Rattle.core_laws.specs.ChoicesAsleep.{can_enable}
use Rattle.core_laws.specs.Operations.{woken_by_operation}
use Rattle.core_laws.specs.Routers.{PortFlags, frees_put, ports_woken, router_moved}
use Rattle.core_laws.specs.Sleep.{choices_of}
use Rattle.core_laws.specs.Waking.{woken_by}
use Rattle.core_laws.specs.Watch.{Watch, rested}

-- two tiles with the agents 0 to 5, channels of four flits and eight words: the row has 96 places
abbrev two_tiles : Shape
two_tiles = record { radices = 2 ∷ []; datelines = 1 ∷ [] }

abbrev design : Design
design = record { shape = two_tiles; depth = 4; words = 8 }

-- a take from the replies of tile 0 wakes the router that sends them
take_wakes_its_sender : woken_by design (wiring_of two_tiles 0 Processor) (Some (want.Take 0)) ≡ 1 ∷ []
take_wakes_its_sender = refl

-- a report in the done word, which is word 8, wakes both processors, and a change of word 1 nobody
report_wakes_processors : woken_by design (wiring_of two_tiles 0 Processor) (Some (want.Access 8 (op.Add 1)))
    ≡ 0 ∷ 3 ∷ []
report_wakes_processors = refl

service_wakes_nobody : woken_by design (wiring_of two_tiles 0 Processor) (Some (want.Access 1 (op.Store 7))) ≡ []
service_wakes_nobody = refl

-- a store at place 32, the first of the injection of tile 0, wakes router 1, and not processor 0
store_wakes_its_receiver : woken_by_operation design (Store 32 7) ≡ 1 ∷ []
store_wakes_its_receiver = refl

-- a store may be the flit for which a take waits, and is no credit
store_enables_takes : can_enable (Store 32 7) choice.Take ≡ true
store_enables_takes = refl

store_enables_no_credit : can_enable (Store 32 7) choice.Credit ≡ false
store_enables_no_credit = refl

-- a processor is asleep only when its look isn't enabled either
processor_looks : choices_of 10 Processor
    ≡ choice.Send ∷ choice.Take ∷ choice.Credit ∷ choice.Done ∷ choice.Look ∷ []
processor_looks = refl

-- all agents are awake: one that has not moved falls asleep by itself, and one that has moved stays awake
abbrev all_awake : Watch
all_awake = record { state = record { tiles = []; around = record { rings = []; words = [] } }; awake = λ agent. true }

idle_one_sleeps : (rested all_awake 1 false).awake 1 ≡ false
idle_one_sleeps = refl

others_stay_awake : (rested all_awake 1 false).awake 0 ≡ true
others_stay_awake = refl

moved_one_stays_awake : (rested all_awake 1 true).awake 1 ≡ true
moved_one_stays_awake = refl

-- nothing is awake, and each latch is full
abbrev all_asleep : PortFlags
all_asleep = record {
  takes = λ t i. false;
  puts = λ t i. false;
  credits = λ t o. false;
  full = λ t i. true;
}

-- a store at place 0, the first of the hop from tile 0 to tile 1, wakes the take of input 0 of router 1
flit_wakes_its_take : (ports_woken design (Store 0 7) all_asleep).takes 1 0 ≡ true
flit_wakes_its_take = refl

no_other_take : (ports_woken design (Store 0 7) all_asleep).takes 0 1 ≡ false
no_other_take = refl

-- a put of input 3 empties its latch, so that a take may fill it
put_wakes_its_take : (router_moved 0 (choice.Put 3) all_asleep).takes 0 3 ≡ true
put_wakes_its_take = refl

-- a credit may be what the put of any input waits for
credit_frees_puts : frees_put (choice.CreditOf 2) 0 ≡ true
credit_frees_puts = refl
