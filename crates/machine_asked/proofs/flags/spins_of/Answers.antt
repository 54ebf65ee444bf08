use Rattle.std.proofs.Common.{◌≡◌, length, sym, ◌∙◌, ap, arith}
use Rattle.std.specs.Option.{option_copied}
use Rattle.machine_asked.specs.Asked.{has_spin}
use Rattle.machine_asked.proofs.OneMore.{told_more, none_past}
use Rattle.machine_asked.proofs.flags.spins_of.Goals.{in-Some+in_ok-push, in_default}
use Rattle.machine_asked.proofs.flags.spins_of.Goals as goal

pub loop-processor-preserved : goal.loop-processor-preserved
loop-processor-preserved g c =
    let test = c.loop-processor-test.true in
    let count = c.requires in
    elim c.match-lines.branch [
      | in-Some+in_ok-push w ↦ told_more has_spin c.args.scripts.now.lists c.loop-processor.spins.items _ c.loop-processor.processor w.in-Some.lines.now
          w.has_spin.result (ap option_copied (sym w.in-Some.is) ∙ c.lines.ensures.value) w.has_spin.ensures
          (ap (λ v. v.items) w.spins-is ∙ w.in_ok-push.ensures.items) c.loop-processor.invariant
      | in_default w ↦ absurd (none_past c.args.scripts.now.lists c.loop-processor.processor (omega (arith, test, count))
          (ap option_copied (sym w.in_default.is) ∙ c.lines.ensures.value))
    ]
