-- What is answered to a network text and a traffic text.
use Rattle.std.specs.Prelude.{◌≡◌, ◌⊎◌, ℕ, Bool, false, List, Vec, map, length, Result, Ok, Err}
use Rattle.std.specs.List.{range_with_len}
use Rattle.torus.specs.declared.fault.Fault.TheVariants as fault
use Rattle.lexer.specs.declared.refusal.Refusal.{Refusal}
use Rattle.lexer.specs.Outcome.{refusal_at}
use Rattle.lexer.specs.declared.fault.LineFault.{LineFault}
use Rattle.lexer.specs.Faults.{fault_of_refusal}
use Rattle.network_judge.specs.declared.table.Join.{Join}
use Rattle.network_judge.specs.declared.table.NoRoute as no_route
use Rattle.network_judge.specs.Table.{channels_of}
use Rattle.network_judge.specs.Verdicts.{IsFirstFault}
use Rattle.network_machine.specs.declared.moves.Ending.{Ending}
use Rattle.network_machine.specs.declared.moves.Ending.TheVariants as ending
use Rattle.network_machine.specs.declared.moves.Move.{Move}
use Rattle.network_machine.specs.Machine.{NetworkMachineSpec, IsOpenedNetwork}
use Rattle.network_machine.specs.Endings.{IsEnding}
use Rattle.network_rounds.specs.declared.arbiter.Arbiter.{Arbiter}
use Rattle.network_rounds.specs.declared.senders.Timed.{Timed}
use Rattle.network_rounds.specs.declared.reading.Traffic.{Traffic}
use Rattle.network_rounds.specs.declared.reason.TrafficReason.{TrafficReason}
use Rattle.network_rounds.specs.declared.reason.TrafficReason.TheVariants as reason
use Rattle.network_rounds.specs.Choices.{groups_of}
use Rattle.network_rounds.specs.Joined.{AreJoined, IsFirstApart}
use Rattle.network_rounds.specs.Reasons.{traffic_fault_of}
use Rattle.network_rounds.specs.Routers.{AreRouters}
use Rattle.network_rounds.specs.Senders.{queue_of}
use Rattle.network_rounds.specs.Simulations.{IsSimulation, flits_in_channels}
use Rattle.network_rounds.specs.Traffic.{TrafficSpec, traffic_spec, traffic_or_why}
use Rattle.network_text.specs.Network.{NetworkSpec, network_of}
use Rattle.network_answer.specs.Answer.{no_route_line}
use Rattle.network_traffic.specs.declared.answering.SimulationAnswer.{SimulationAnswer}
use Rattle.network_traffic.specs.declared.running.Extent.{Extent}
use Rattle.network_traffic.specs.Fates.{log_of, begun_in_round, delivered_in_round, rounds_waited}
use Rattle.network_traffic.specs.Simulated.{IsExtent}
use Rattle.network_traffic.specs.Written.{report_text, end_line}

-- what is answered to a traffic text of these lines: its packets, between channels that packets go
-- between; or its first line that spells no packet, or else the first packet that isn't so; or out of
-- memory
abbrev pub AnswersTraffic : {A : Type 0} → List Join → List (List ℕ)
    → Result (Traffic A) (Refusal TrafficReason) → Type 0
AnswersTraffic joins lines (Ok t) = (traffic_or_why lines ≡ Ok (traffic_spec t))
    × AreJoined joins (traffic_spec t).packets (length (traffic_spec t).packets)
AnswersTraffic joins lines (Err e) =
    (e ≡ refusal_at 0 reason.Memory) ⊎ ((traffic_or_why lines ≡ Err e)
    ⊎ ((t : TrafficSpec) × (traffic_or_why lines ≡ Ok t) × IsFirstApart joins t e))

-- whether a simulation is over and ends empty
abbrev pub is_sound : Extent → Ending → Bool
is_sound e ending.Locked = false
is_sound e ending.Empty = e.is_over
is_sound e (ending.Goes of) = false

-- a text is the report on packets that are sent through a network: from the empty network on, in
-- clocked rounds by an arbiter over its choices, grouped by routers; and it is over and ends empty, or
-- not
pub record IsSimulationText (A : Type 0) (by : Arbiter) (n : NetworkSpec) (depth : ℕ)
    (packets : List Timed) (text : List ℕ) (sound : Bool) : Type 0 where
  pub routers : List ℕ
  pub are : AreRouters n.table routers
  pub queues : List (Vec Timed A)
  pub queued : map (λ queue. queue.items) queues
      ≡ map (queue_of packets) (range_with_len 0 (channels_of n.table))
  pub groups : List (Vec Move A)
  pub grouped : map (λ group. group.items) groups
      ≡ groups_of n.table.kinds routers (channels_of n.table)
  pub opened : NetworkMachineSpec
  pub opens : IsOpenedNetwork n.table n.replies depth opened
  pub reached : NetworkMachineSpec
  pub lasts : List ℕ
  pub begun : List ℕ
  pub flits : List ℕ
  pub extent : Extent
  pub simulation : IsSimulation by queues groups opened reached lasts begun flits extent.rounds
  pub far : IsExtent queues simulation.rounds 1000000 extent
  pub ending : Ending
  pub ends : IsEnding reached ending
  pub is : text ≡ report_text packets
      (λ k. begun_in_round n.table packets k (log_of simulation.rounds))
      (λ k. delivered_in_round n.table packets k (log_of simulation.rounds))
      (λ x. flits_in_channels x simulation.rounds)
      (λ x. rounds_waited n.table packets x simulation.rounds)
      (channels_of n.table) (end_line extent ending)
  pub sounds : sound ≡ is_sound extent ending

-- the line of the first pair without a route
pub record IsNoRouteText (n : NetworkSpec) (text : List ℕ) (sound : Bool) : Type 0 where
  pub pair : no_route.NoRoute
  pub first : IsFirstFault n.table pair
  pub is : text ≡ no_route_line pair
  pub sounds : sound ≡ false

-- what is answered to packets: the report on them; or the first pair of the network without a route
abbrev pub IsSimulationAnswer : {A : Type 0} → Arbiter → NetworkSpec → ℕ → List Timed
    → SimulationAnswer A → Type 0
IsSimulationAnswer {A} by n depth packets a = IsNoRouteText n a.text.items a.sound
    ⊎ IsSimulationText A by n depth packets a.text.items a.sound

-- out of memory, which is of no line
abbrev pub memory_refused : LineFault
memory_refused = record { fault = fault.Memory; line = 0 }

-- what is answered to packets: the report on them, or the first pair of the network without a
-- route; or out of memory
abbrev pub AnswersPackets : {A : Type 0} → Arbiter → NetworkSpec → ℕ → List Timed
    → Result (SimulationAnswer A) LineFault → Type 0
AnswersPackets by n depth packets (Ok a) = IsSimulationAnswer by n depth packets a
AnswersPackets by n depth packets (Err e) = e ≡ memory_refused

-- a fault is that of a refusal of a traffic text
pub record IsTrafficFault (A : Type 0) (n : NetworkSpec) (traffic : List (List ℕ)) (e : LineFault)
    : Type 0 where
  pub refusal : Refusal TrafficReason
  pub answers : AnswersTraffic {A = A} n.table.joins traffic (Err refusal)
  pub is : e ≡ fault_of_refusal traffic_fault_of refusal

-- what is answered to a network text and a traffic text of these lines: the report on its packets; or
-- the first fault of the network text, or else of the traffic text; or out of memory
abbrev pub AnswersSimulationText : {A : Type 0} → Arbiter → List (List ℕ) → List (List ℕ) → ℕ
    → Result (SimulationAnswer A) LineFault → Type 0
AnswersSimulationText by network traffic depth (Ok a) =
    (n : NetworkSpec) × (network_of network ≡ Ok n) × (t : TrafficSpec)
    × (traffic_or_why traffic ≡ Ok t) × AreJoined n.table.joins t.packets (length t.packets)
    × IsSimulationAnswer by n depth t.packets a
AnswersSimulationText {A} by network traffic depth (Err e) =
    (e ≡ memory_refused) ⊎ ((network_of network ≡ Err e)
    ⊎ ((n : NetworkSpec) × (network_of network ≡ Ok n) × IsTrafficFault A n traffic e))
