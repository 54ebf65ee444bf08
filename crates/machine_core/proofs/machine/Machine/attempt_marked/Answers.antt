use Rattle.std.proofs.Common.{sym, ◌∙◌, ap, arith}
use Rattle.machine_parts.specs.Machine.{core_after}
use Rattle.machine_parts.specs.Ports.{is_raised}
use Rattle.machine_core.specs.Marked.{marked_between}
use Rattle.machine_core.proofs.Rounds.{tile_stays}
use Rattle.machine_core.proofs.MarkedSteps.{marked_rest, marked_more}
use Rattle.machine_core.proofs.machine.Machine.attempt_marked.Goals as goal

pub returns-in_default : goal.returns-in_default
returns-in_default g c =
    let is = c.loop-at.invariant in
    is.made
    ∙ ap (core_after c.args.self.now)
    (sym (marked_rest (is_raised c.args.marks.now c.args.tile) c.args.part c.args.tile c.args.from c.loop-at.at c.args.end is.low is.within
    c.in_default.ensures))

pub attempt_part-requires : goal.attempt_part-requires
attempt_part-requires g c =
    tile_stays c.args.tile c.args.self.now c.loop-at.self
    (marked_between (is_raised c.args.marks.now c.args.tile) c.args.part c.args.tile c.args.from c.loop-at.at) c.loop-at.invariant.made c.requires.tile

pub loop-at-preserved : goal.loop-at-preserved
loop-at-preserved g c =
    let is = c.loop-at.invariant in
    let below = c.in-Some.ensures.0 in
    let first = c.in-Some.ensures.1 in
    let low = is.low in
    let later = first.low in
    record {
      made = marked_more (is_raised c.args.marks.now c.args.tile) c.args.part c.args.tile c.args.self.now c.loop-at.self c.attempt_part.new.self
          c.args.from c.loop-at.at c.in-Some.number is.low first.low first.before (first.hit below) is.made c.attempt_part.ensures.change;
      low = omega (arith, low, later);
      within = omega (arith, below);
    }
