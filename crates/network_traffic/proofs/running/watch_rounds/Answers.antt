use Rattle.std.proofs.Common.{◌≡◌, ◌∙◌, refl, sym, subst, arith, length, true, false, None}
use Rattle.std.proofs.lemmas.List.{length-replicate}
use Rattle.network_traffic.specs.Plans.{plan_table}
use Rattle.network_traffic.specs.Labels.{LabelsSpec, HasChannels}
use Rattle.network_traffic.proofs.Simulating.{watched_none, watched_more, goes_before, goes_now}
use Rattle.network_traffic.proofs.running.watch_rounds.Goals as goal

pub loop-rounds-init : goal.loop-rounds-init
loop-rounds-init g c = record {
  few = omega arith;
  begun = refl;
  flits = refl;
  sends = refl;
  enabled = refl;
  made = refl;
  channels = subst (λ (l : LabelsSpec). HasChannels l (length c.args.plan.now.kinds.now)) (sym c.requires.watch.log.labels)
      (record { latches = length-replicate (length c.args.plan.now.kinds.now) None; begun = length-replicate (length c.args.plan.now.kinds.now) 0 });
  flags = c.requires.flags;
  grants = c.requires.grants;
  attempts = refl;
  watched = watched_none c.args.by (plan_table c.args.plan.now) c.args.plan.now.packets.now c.args.queues.now c.args.groups.now c.args.machine.now
      c.args.grants.now.lasts.items c.args.begun.now c.args.flits.now (length c.args.made.now) c.args.watch.now c.requires.none_granted
      (λ x here. c.requires.none_begun x (let size = c.requires.begun in omega (arith, here, size))) c.requires.none_left c.requires.watch;
}

pub loop-rounds-preserved : goal.loop-rounds-preserved
loop-rounds-preserved g c =
    let l = c.loop-rounds in
    let r = c.simulate_round-count in
    let w = watched_more c.args.by (plan_table c.args.plan.now) c.args.plan.now.packets.now c.args.queues.now c.args.groups.now c.args.machine.now l.machine r.new.machine
    l.grants.lasts.items r.new.grants.lasts.items l.begun l.flits r.new.begun r.new.flits l.rounds (length c.args.made.now) c.args.most r.result l.last c.last_of-last.result r.new.made l.watch c.note.new.self c.ends.result
    l.invariant.watched c.loop-rounds-test.true c.requires.most c.requires.room r.ensures.few (r.auto.made ∙ l.invariant.made)
    (l.invariant.begun ∙ c.requires.begun) r.auto.flits r.ensures.round r.ensures.runs r.ensures.same r.ensures.begun r.ensures.flits
    c.note.ensures.rounds c.last_of-last.ensures c.ends.ensures in
    record {
      few = (let low = c.loop-rounds-test.true in omega (arith, low));
      begun = r.auto.begun ∙ l.invariant.begun;
      flits = r.auto.flits ∙ l.invariant.flits;
      sends = r.auto.sends ∙ l.invariant.sends;
      enabled = r.auto.enabled ∙ l.invariant.enabled;
      made = r.auto.made ∙ l.invariant.made;
      channels = c.note.ensures.channels;
      flags = r.ensures.flags;
      grants = r.ensures.grants;
      attempts = r.auto.attempts ∙ l.invariant.attempts;
      watched = record { simulates = w.simulates; shows = w.shows; last = w.last; goes = w.on c.if-ends.false };
    }

pub settle-requires : goal.settle-requires
settle-requires g c =
    let l = c.loop-rounds in
    let r = c.simulate_round-count in
    let w = watched_more c.args.by (plan_table c.args.plan.now) c.args.plan.now.packets.now c.args.queues.now c.args.groups.now c.args.machine.now l.machine r.new.machine
    l.grants.lasts.items r.new.grants.lasts.items l.begun l.flits r.new.begun r.new.flits l.rounds (length c.args.made.now) c.args.most r.result l.last c.last_of-last.result r.new.made l.watch c.note.new.self c.ends.result
    l.invariant.watched c.loop-rounds-test.true c.requires.most c.requires.room r.ensures.few (r.auto.made ∙ l.invariant.made)
    (l.invariant.begun ∙ c.requires.begun) r.auto.flits r.ensures.round r.ensures.runs r.ensures.same r.ensures.begun r.ensures.flits
    c.note.ensures.rounds c.last_of-last.ensures c.ends.ensures in
    w.shows.waited ∙ sym w.shows.many

pub settle-requires-2 : goal.settle-requires-2
settle-requires-2 g c = c.loop-rounds.invariant.watched.shows.waited ∙ sym c.loop-rounds.invariant.watched.shows.many

pub returns-then-ends : goal.returns-then-ends
returns-then-ends g c =
    let l = c.loop-rounds in
    let r = c.simulate_round-count in
    let w = watched_more c.args.by (plan_table c.args.plan.now) c.args.plan.now.packets.now c.args.queues.now c.args.groups.now c.args.machine.now l.machine r.new.machine
    l.grants.lasts.items r.new.grants.lasts.items l.begun l.flits r.new.begun r.new.flits l.rounds (length c.args.made.now) c.args.most r.result l.last c.last_of-last.result r.new.made l.watch c.note.new.self c.ends.result
    l.invariant.watched c.loop-rounds-test.true c.requires.most c.requires.room r.ensures.few (r.auto.made ∙ l.invariant.made)
    (l.invariant.begun ∙ c.requires.begun) r.auto.flits r.ensures.round r.ensures.runs r.ensures.same r.ensures.begun r.ensures.flits
    c.note.ensures.rounds c.last_of-last.ensures c.ends.ensures in
    record {
      lasts = r.new.grants.lasts.items;
      begun = r.new.begun;
      simulation = w.simulates.simulation;
      shows = c.settle.ensures (plan_table c.args.plan.now) c.args.plan.now.packets.now w.simulates.simulation.rounds w.simulates.simulation.number
          (let low = c.loop-rounds-test.true in let most = c.requires.most in omega (arith, low, most)) w.shows;
      far = record {
        few = (let low = c.loop-rounds-test.true in omega (arith, low));
        goes = w.goes;
        over = w.over ∙ c.if-ends.true;
        cut = λ no. absurd (let wrong : true ≡ false = no in cc);
        last = w.last;
      };
    }

pub returns : goal.returns
returns g c =
    let l = c.loop-rounds in
    let h = l.invariant.watched in
    let end = c.loop-rounds-test.false in
    let few = l.invariant.few in
    record {
      lasts = l.grants.lasts.items;
      begun = l.begun;
      simulation = h.simulates.simulation;
      shows = c.settle-2.ensures (plan_table c.args.plan.now) c.args.plan.now.packets.now h.simulates.simulation.rounds h.simulates.simulation.number
          (let most = c.requires.most in omega (arith, few, most)) h.shows;
      far = record {
        few = few;
        goes = goes_before c.args.queues.now h.simulates.simulation.rounds h.goes;
        over = goes_now c.args.queues.now h.simulates.simulation.rounds h.goes;
        cut = λ no. omega (arith, end, few);
        last = h.last;
      };
    }
