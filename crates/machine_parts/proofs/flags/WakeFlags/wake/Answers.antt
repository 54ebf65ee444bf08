use Rattle.std.proofs.Common.{◌≡◌, ◌≢◌, ◌+◌, sym, ◌∙◌, ap, arith, vec_len}
use Rattle.torus.specs.Shape.{tiles_of}
use Rattle.core_laws.specs.Waking.{processors}
use Rattle.machine_parts.specs.Awake.{Awake, with_bits}
use Rattle.machine_parts.proofs.SetFlags.{added_done, added_elsewhere}
use Rattle.machine_parts.proofs.flags.WakeFlags.wake.Goals as goal

pub returns-then-word-len : goal.returns-then-word-len
returns-then-word-len g c =
    let at : c.in-Add.word ≡ vec_len c.self.inside.ends + c.self.inside.words = omega (arith, c.if-word-len.true, c.len.ensures) in
    rw (← c.self.view_is)
    (added_done c.self.inside c.self.invariant c.args.op c.in-Add.word c.in-Add.field-1 c.in-Add.is at c.wake_processors.new.self
    (c.wake_processors.ensures.design ∙ sym (ap (λ (w : Awake). w.design) c.self.view_is))
    (c.wake_processors.ensures.flags ∙ sym (ap (λ (w : Awake). with_bits w.flags 16 (processors (tiles_of w.design.shape))) c.self.view_is)))

pub returns-else-word-len : goal.returns-else-word-len
returns-else-word-len g c =
    let away : c.in-Add.word ≢ vec_len c.self.inside.ends + c.self.inside.words = λ e. c.if-word-len.false (omega (arith, e, c.len.ensures)) in
    rw (← c.self.view_is) (added_elsewhere c.self.inside c.self.invariant c.args.op c.in-Add.word c.in-Add.field-1 c.in-Add.is away)
