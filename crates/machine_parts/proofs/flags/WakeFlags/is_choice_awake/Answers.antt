use Rattle.std.proofs.Common.{ℕ, ◌==◌, ◌∙◌, ap, arith, slice_index}
use Rattle.std.specs.Prelude.{not}
use Rattle.std.specs.Int.{bit_at}
use Rattle.std.proofs.lemmas.Nat.Bits.{shr_and_one}
use Rattle.machine_parts.specs.Awake.{bits_at}
use Rattle.machine_parts.proofs.SetFlags.{same_bits}
use Rattle.machine_parts.proofs.flags.WakeFlags.is_choice_awake.Goals as goal

pub returns : goal.returns
returns g c =
    let long = c.self.invariant.flags in
    rw (← c.self.view_is)
    (ap (λ (n : ℕ). not (n == 0)) (shr_and_one (slice_index c.self.inside.awake c.args.agent) c.bit_of.result)
    ∙ (ap (λ (n : ℕ). not (bit_at n c.bit_of.result == 0)) (same_bits c.self.inside.awake c.args.agent (omega (arith, long, c.requires)))
    ∙ ap (λ (b : ℕ). not (bit_at (bits_at c.self.inside.awake c.args.agent) b == 0)) c.bit_of.ensures.value))
