use Rattle.std.proofs.Common.{refl, subst, sym, arith}
use Rattle.std.proofs.lemmas.Grind.{common_steps}
use Rattle.network_machine.specs.Machine.{KeepsOtherChannels}
use Rattle.network_rounds.specs.Flags.{AreFlags}
use Rattle.network_rounds.proofs.Lists.{makes_one, misses_one}
use Rattle.network_rounds.proofs.Told.{tells_both, tells_same}
use Rattle.network_rounds.proofs.attempting.attempt_one.Goals.{then-y-x, else-y-x}
use Rattle.network_rounds.proofs.attempting.attempt_one.Goals as goal

pub returns-in_default-clause-adds : goal.returns-in_default-clause-adds
returns-in_default-clause-adds g c =
    misses_one c.args.machine.now c.try_move.new.self _ _ c.args.attempt _ _ c.in_default.ensures.prevented c.in_default.ensures.stays refl refl

pub returns-clause-adds : goal.returns-clause-adds
returns-clause-adds g c =
    makes_one c.args.machine.now c.try_move.new.self _ _ c.args.attempt _ _ (c.in-Some.ensures.moves, c.try_move.ensures.same) c.note.ensures.lasts
    (grind (arith, common_steps))

pub returns-clause-flags : goal.returns-clause-flags
returns-clause-flags g c = λ choices are.
    let old = c.args.machine.now in
    let new = c.try_move.new.self in
    let x = c.channel-x.result in
    let y = c.in-Some.y in
    let others = subst (λ z. KeepsOtherChannels old new z y) (sym c.channel-x.ensures) c.in-Some.ensures.others in
    elim c.if-y-x.branch [
      | then-y-x w ↦ subst (AreFlags new choices) (sym w.flags-is)
          (tells_both old new choices x y c.args.flags.now c.tell_channel.new.self w.tell_channel-then-y-x.new.self others c.tell_channel.ensures.flags
          w.tell_channel-then-y-x.ensures.flags are)
      | else-y-x w ↦ subst (AreFlags new choices) (sym w.flags-is)
          (tells_same old new choices x y c.args.flags.now c.tell_channel.new.self others w.if-y-x.false c.tell_channel.ensures.flags are)
    ]
