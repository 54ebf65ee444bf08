use Rattle.std.proofs.Common.{ℕ, ◌+◌, ◌≤◌, List, [], ◌∷◌, map, take, get_or, length, ap, arith}
use Rattle.torus.specs.declared.step.Choice.TheVariants.{Put}
use Rattle.torus.specs.declared.step.Step.{Step}
use Rattle.core_laws.specs.Core.{attempts_of}
use Rattle.command_schedule.proofs.Kept.{kept_none, kept_then, kept_as, numbers_more, numbers_all}
use Rattle.command_schedule.proofs.fair_list.keep_puts.Goals as goal

abbrev is_one : Step → List Step
is_one x = x ∷ []

pub loop-input-init : goal.loop-input-init
loop-input-init g c = record { so_far = kept_none c.args.machine.now c.args.room.now c.args.count; few = omega arith }

pub keep_one-kept-requires : goal.keep_one-kept-requires
keep_one-kept-requires g c =
    let few = c.loop-input.invariant.few in
    let room = c.loop-input.invariant.so_far.room in
    omega (arith, few, room, c.requires)

pub loop-input-preserved : goal.loop-input-preserved
loop-input-preserved g c =
    let few = c.loop-input.invariant.few in
    let more = c.keep_one-kept.ensures.few in
    record {
      so_far = kept_as c.args.machine.now _ _ c.args.room.now c.keep_one-kept.new.room c.args.count c.keep_one-kept.result
          (numbers_more (λ (k : ℕ). Put k) c.args.agent c.args.inputs.now c.loop-input.input-index _ c.loop-input-test.true)
          (kept_then c.args.machine.now (attempts_of c.args.agent (map (λ (k : ℕ). Put k) (take c.loop-input.input-index c.args.inputs.now))) _ c.args.room.now
          c.loop-input.room c.keep_one-kept.new.room c.args.count c.loop-input.kept c.keep_one-kept.result c.loop-input.invariant.so_far
          (kept_as c.args.machine.now _ _ c.loop-input.room c.keep_one-kept.new.room c.loop-input.kept c.keep_one-kept.result
          (ap (λ (k : ℕ). is_one (record { agent = c.args.agent; choice = Put k })) c.from.ensures) c.keep_one-kept.ensures.kept));
      few = omega (arith, few, more);
    }

pub returns : goal.returns
returns g c =
    let few = c.loop-input.invariant.few in
    record {
      kept = kept_as c.args.machine.now _ _ c.args.room.now c.loop-input.room c.args.count c.loop-input.kept
          (numbers_all (λ (k : ℕ). Put k) c.args.agent c.args.inputs.now c.loop-input.input-index c.loop-input-test.false) c.loop-input.invariant.so_far;
      few = omega (arith, few);
    }
