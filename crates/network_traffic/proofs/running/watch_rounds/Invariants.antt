use Rattle.std.proofs.Common.{◌≡◌, ◌-◌, ◌≤◌, length}
use Rattle.network_rounds.specs.Arbiters.{AreGrants}
use Rattle.network_rounds.specs.Flags.{AreFlags, choices_of}
use Rattle.network_traffic.specs.Plans.{plan_table}
use Rattle.network_traffic.specs.Labels.{labels_spec, HasChannels}
use Rattle.network_traffic.proofs.Simulating.{WatchedSoFar}
use Rattle.network_traffic.proofs.running.watch_rounds.Given as goal

-- the rounds so far
abbrev pub invariant-loop-rounds : goal.invariant-loop-rounds
invariant-loop-rounds g l = record {
  few : l.rounds ≤ l.most;
  begun : length l.begun ≡ length l.initial.begun;
  flits : length l.flits ≡ length l.initial.flits;
  sends : length l.sends ≡ length l.initial.sends;
  enabled : length l.enabled ≡ length l.initial.enabled;
  attempts : length l.attempts ≡ length l.initial.attempts;
  made : length l.made ≡ length l.initial.made;
  channels : HasChannels (labels_spec l.watch.labels) (length l.plan.kinds.now);
  flags : AreFlags l.machine (choices_of l.groups) l.choices;
  grants : AreGrants l.machine l.grants;
  watched : WatchedSoFar l.by (plan_table l.plan) l.plan.packets.now l.queues l.groups l.initial.machine l.machine l.grants.lasts.items l.begun l.flits l.rounds
      (length l.initial.made) l.last l.watch;
}

abbrev pub decreases-loop-rounds : goal.decreases-loop-rounds
decreases-loop-rounds g l = l.most - l.rounds
