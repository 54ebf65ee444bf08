use Rattle.std.proofs.Common.{◌≡◌, ℕ, ◌+◌, ◌≤◌, length, ap, arith}
use Rattle.torus.specs.declared.step.Choice.TheVariants.{TakeFrom}
use Rattle.machine_core.specs.Rounds.{attempts_between}
use Rattle.command_schedule.proofs.Kept.{kept_none, kept_then, kept_as, ports_more}
use Rattle.command_schedule.proofs.fair_list.keep_takes.Goals as goal

pub loop-input-init : goal.loop-input-init
loop-input-init g c = record { so_far = kept_none c.args.machine.now c.args.room.now c.args.count; few = omega arith }

pub keep_one-kept-requires : goal.keep_one-kept-requires
keep_one-kept-requires g c =
    let few = c.loop-input.invariant.few in
    let room = c.loop-input.invariant.so_far.room in
    omega (arith, few, room, c.requires)

pub loop-input-preserved : goal.loop-input-preserved
loop-input-preserved g c =
    let few = c.loop-input.invariant.few in
    let more = c.keep_one-kept.ensures.few in
    record {
      so_far = kept_as c.args.machine.now _ _ c.args.room.now c.keep_one-kept.new.room c.args.count c.keep_one-kept.result
          (ports_more (λ (k : ℕ). TakeFrom k) c.args.agent c.loop-input.input)
          (kept_then c.args.machine.now (attempts_between (λ (k : ℕ). TakeFrom k) c.args.agent 0 c.loop-input.input) _ c.args.room.now
          c.loop-input.room c.keep_one-kept.new.room c.args.count c.loop-input.kept c.keep_one-kept.result c.loop-input.invariant.so_far c.keep_one-kept.ensures.kept);
      few = omega (arith, few, more);
    }

pub returns : goal.returns
returns g c =
    let few = c.loop-input.invariant.few in
    let end : c.loop-input.input ≡ c.args.ports = omega arith in
    record {
      kept = kept_as c.args.machine.now _ _ c.args.room.now c.loop-input.room c.args.count c.loop-input.kept
          (ap (attempts_between (λ (k : ℕ). TakeFrom k) c.args.agent 0) end) c.loop-input.invariant.so_far;
      few = omega (arith, few);
    }
