use Rattle.std.proofs.Common.{arith}
use Rattle.fabric_rule.proofs.Bordering.{credit_lowered}
use Rattle.fabric_rule.proofs.border.lower_credits.Goals as goal

pub loop-output-init : goal.loop-output-init
loop-output-init c = λ gs own inside. inside

pub loop-output-preserved : goal.loop-output-preserved
loop-output-preserved c = let d = c.dims.ensures.value in λ gs own inside.
    credit_lowered c.args.torus.now c.loop-output.set c.lower_if.new.set c.args.tile c.loop-output.output c.args.first c.args.end c.tile_behind-behind.result
    c.is_between-own.result c.lower_if.ensures.wanted c.lower_if.ensures.same c.is_between-own.ensures (omega (arith, d)) c.requires.own.0 c.requires.own.1
    c.tile_behind-behind.ensures gs own (c.loop-output.invariant gs own inside)

pub returns : goal.returns
returns c = c.loop-output.invariant
