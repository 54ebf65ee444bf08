-- The turns follow the rounds until they end, and who watches is told of each pass.
use Rattle.std.proofs.Common.{◌≤◌, [], refl, inl, arith}
use Rattle.worker_run.proofs.Moving.{told_none, hears_none, ports_are, within_ports}
use Rattle.worker_run.proofs.Going.{all_over, begun, next_starts, tile_on, tile_over, told_over}
use Rattle.worker_run.proofs.working.make_turns.Goals as goal

pub returns-then-has_seen : goal.returns-then-has_seen
returns-then-has_seen g c = (
  [],
  told_none _ c.args.turns c.args.seat.now c.first-place.result c.first-place.ensures.first (c.has_seen.ensures.seen.0 c.if-has_seen.true),
  hears_none (g.V.Watch.heard c.args.watch.now c.args.worker c.args.kept.now),
)

pub loop-init : goal.loop-init
loop-init g c = record {
  own = c.requires;
  within = within_ports _ _ c.first-place.result (ports_are c.ports-ports.result c.args.fabric.now c.args.seat.now c.ports-ports.ensures c.requires)
      c.first-place.ensures.within;
  start = c.first-place.ensures.first.0;
  counted = omega arith;
  so_far = (
    [],
    inl (omega arith, refl, begun c.ports-ports.result c.args.seat.now c.first-place.result),
    hears_none (g.V.Watch.heard c.args.watch.now c.args.worker c.args.kept.now),
  );
}

pub after-next-requires-clause-ports : goal.after-next-requires-clause-ports
after-next-requires-clause-ports g c = ports_are c.ports-ports.result c.args.fabric.now c.tile_turns.new.seat c.ports-ports.ensures c.tile_turns.ensures.own

pub after-next-requires-clause-within : goal.after-next-requires-clause-within
after-next-requires-clause-within g c = record { tile = c.loop.invariant.within.tile; at = omega arith }

pub returns-then-run-made : goal.returns-then-run-made
returns-then-run-made g c =
    let k = c.loop.invariant in
    let over = tile_over (g.G.Gate.stops c.args.gate.now c.args.worker) c.args.turns c.ports-ports.result c.args.seat.now c.first-place.result c.loop.place
    c.loop.run c.tile_turns.new.run c.attempt_awake.new.run c.loop.seat c.tile_turns.new.seat c.attempt_awake.new.seat
    (g.V.Watch.heard c.args.watch.now c.args.worker c.args.kept.now) (g.V.Watch.heard c.args.watch.now c.args.worker c.loop.kept)
    k.start c.tile_turns.ensures.leads c.attempt_awake.ensures.tried k.so_far c.if-run-made.true in (
      k.so_far.0,
      told_over _ c.args.turns c.ports-ports.result c.attempt_awake.new.run.made c.args.seat.now c.attempt_awake.new.seat c.first-place.result k.so_far.0
          c.first-place.ensures.first
          (ports_are c.ports-ports.result c.args.fabric.now c.args.seat.now c.ports-ports.ensures c.requires)
          over.0
          (λ h. (let t = c.has_seen.ensures.seen.1 h in let f = c.if-has_seen.false in cc))
          over.1,
      k.so_far.2,
    )

pub loop-preserved : goal.loop-preserved
loop-preserved g c =
    let k = c.loop.invariant in
    let more = c.if-run-made.false in
    let counted = k.counted in
    let later = c.tile_turns.ensures.leads.later in
    record {
      own = c.attempt_awake.ensures.own;
      within = within_ports _ _ c.after-next.result
          (ports_are c.ports-ports.result c.args.fabric.now c.tile_turns.new.seat c.ports-ports.ensures c.tile_turns.ensures.own)
          c.after-next.ensures.within;
      start = next_starts c.ports-ports.result c.loop.place.tile c.tile_turns.new.seat.tiles c.after-next.result c.after-next.ensures.follows;
      counted = omega (arith, more, counted, later);
      so_far = tile_on (g.G.Gate.stops c.args.gate.now c.args.worker) c.args.turns c.ports-ports.result c.args.seat.now c.first-place.result c.loop.place
          c.loop.run c.tile_turns.new.run c.attempt_awake.new.run c.loop.seat c.tile_turns.new.seat c.attempt_awake.new.seat
          (g.V.Watch.heard c.args.watch.now c.args.worker c.args.kept.now) (g.V.Watch.heard c.args.watch.now c.args.worker c.loop.kept)
          k.start c.tile_turns.ensures.leads c.attempt_awake.ensures.tried k.so_far
          c.after-next.result c.rested.result (g.V.Watch.heard c.args.watch.now c.args.worker c.tell_turn-is_over.new.kept)
          c.after-next.ensures.follows more c.tell_turn-is_over.ensures;
    }

pub returns : goal.returns
returns g c =
    let k = c.loop.invariant in
    let counted = k.counted in
    let many : c.args.turns ≤ c.loop.run.made = omega (arith, counted) in
    let over = all_over (g.G.Gate.stops c.args.gate.now c.args.worker) c.args.turns c.ports-ports.result c.args.seat.now c.first-place.result c.loop.place
    k.so_far.0 c.loop.run c.loop.seat many k.so_far.1 in (
      k.so_far.0,
      told_over _ c.args.turns c.ports-ports.result c.loop.run.made c.args.seat.now c.loop.seat c.first-place.result k.so_far.0 c.first-place.ensures.first
          (ports_are c.ports-ports.result c.args.fabric.now c.args.seat.now c.ports-ports.ensures c.requires)
          over.0
          (λ h. (let t = c.has_seen.ensures.seen.1 h in let f = c.if-has_seen.false in cc))
          over.1,
      k.so_far.2,
    )

pub tile_turns-requires-clause-ports : goal.tile_turns-requires-clause-ports
tile_turns-requires-clause-ports g c =
    let e = ports_are c.ports-ports.result c.args.fabric.now c.args.seat.now c.ports-ports.ensures c.requires in
    let few = c.accepted.ensures.accepted.shape.dims_high in
    omega (arith, e, few)

pub attempt_awake-requires-clause-agent : goal.attempt_awake-requires-clause-agent
attempt_awake-requires-clause-agent g c = let low = c.loop.invariant.within.tile in omega (arith, low)
