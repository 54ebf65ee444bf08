use Rattle.std.proofs.Common.{◌≡◌, List, length, take}
use Rattle.network_traffic.specs.Plans.{plan_table}
use Rattle.network_traffic.specs.Labels.{labels_spec, HasChannels}
use Rattle.network_traffic.specs.Fates.{Stamped, stamped}
use Rattle.network_traffic.specs.Watches.{ShowsLog, KeepsCounts}
use Rattle.network_traffic.proofs.watch.Watch.note_moves.Given as goal

-- the moves so far
abbrev pub invariant-loop-k : goal.invariant-loop-k
invariant-loop-k g l = record {
  channels : HasChannels (labels_spec l.self.labels) (length l.plan.kinds.now);
  many : length l.self.waits.items ≡ length l.initial.self.waits.items;
  waited : l.self.waited ≡ l.initial.self.waited;
  waits : KeepsCounts l.round l.initial.self l.self;
  log : (log : List Stamped) → ShowsLog (plan_table l.plan) l.plan.packets.now log l.initial.self
      → ShowsLog (plan_table l.plan) l.plan.packets.now (stamped l.round (take l.k l.moves) log) l.self;
}
