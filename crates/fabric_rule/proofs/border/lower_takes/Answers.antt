use Rattle.std.proofs.Common.{arith}
use Rattle.fabric_rule.proofs.Bordering.{take_lowered}
use Rattle.fabric_rule.proofs.border.lower_takes.Goals as goal

pub loop-input-init : goal.loop-input-init
loop-input-init c = λ gs own inside. inside

pub loop-input-preserved : goal.loop-input-preserved
loop-input-preserved c = let d = c.dims.ensures.value in λ gs own inside.
    take_lowered c.args.torus.now c.loop-input.set c.lower_if.new.set c.args.tile c.loop-input.input c.args.first c.args.end c.tile_before-before.result
    c.is_between-own.result c.lower_if.ensures.wanted c.lower_if.ensures.same c.is_between-own.ensures (omega (arith, d)) c.requires.own.0 c.requires.own.1
    c.tile_before-before.ensures gs own (c.loop-input.invariant gs own inside)

pub returns : goal.returns
returns c = c.loop-input.invariant
