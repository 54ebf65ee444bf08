use Rattle.std.proofs.Common.{ℕ, ◌==◌, ◌&&◌, ◌∙◌, ap, arith}
use Rattle.std.specs.Prelude.{not}
use Rattle.machine_parts.specs.Awake.{bit_of, is_choice_awake}
use Rattle.machine_parts.specs.Inside.{awake_of}
use Rattle.machine_parts.proofs.SetFlags.{cleared, bit_small}
use Rattle.machine_parts.proofs.flags.WakeFlags.rest_choice.Goals as goal

pub returns-clause-flags : goal.returns-clause-flags
returns-clause-flags g c =
    let long = c.self.invariant.flags in
    rw (← c.self.view_is) (λ k z.
    cleared c.self.inside.awake c.args.agent c.bit_of.result c.bit_of.ensures.small (omega (arith, long, c.requires)) k (bit_of z) (bit_small z)
    ∙ ap (λ (b : ℕ). is_choice_awake (awake_of c.self.inside) k z && not ((k == c.args.agent) && (bit_of z == b))) c.bit_of.ensures.value)
