use Rattle.std.proofs.Common.{◌+◌, ◌≤◌, take, get_or, length, arith}
use Rattle.core_laws.specs.Core.{attempts_of}
use Rattle.command_schedule.proofs.Kept.{kept_none, kept_then, kept_as, choices_more, choices_all}
use Rattle.command_schedule.proofs.fair_list.keep_choices.Goals as goal

pub loop-choice-init : goal.loop-choice-init
loop-choice-init g c = record { so_far = kept_none c.args.machine.now c.args.room.now c.args.count; few = omega arith }

pub keep_one-kept-requires : goal.keep_one-kept-requires
keep_one-kept-requires g c =
    let few = c.loop-choice.invariant.few in
    let room = c.loop-choice.invariant.so_far.room in
    omega (arith, few, room, c.requires)

pub loop-choice-preserved : goal.loop-choice-preserved
loop-choice-preserved g c =
    let few = c.loop-choice.invariant.few in
    let more = c.keep_one-kept.ensures.few in
    record {
      so_far = kept_as c.args.machine.now _ _ c.args.room.now c.keep_one-kept.new.room c.args.count c.keep_one-kept.result
          (choices_more c.args.agent c.args.choices.now c.loop-choice.choice-index _ c.loop-choice-test.true)
          (kept_then c.args.machine.now (attempts_of c.args.agent (take c.loop-choice.choice-index c.args.choices.now)) _ c.args.room.now
          c.loop-choice.room c.keep_one-kept.new.room c.args.count c.loop-choice.kept c.keep_one-kept.result c.loop-choice.invariant.so_far c.keep_one-kept.ensures.kept);
      few = omega (arith, few, more);
    }

pub returns : goal.returns
returns g c =
    let few = c.loop-choice.invariant.few in
    record {
      kept = kept_as c.args.machine.now _ _ c.args.room.now c.loop-choice.room c.args.count c.loop-choice.kept
          (choices_all c.args.agent c.args.choices.now c.loop-choice.choice-index c.loop-choice-test.false) c.loop-choice.invariant.so_far;
      few = omega (arith, few);
    }
