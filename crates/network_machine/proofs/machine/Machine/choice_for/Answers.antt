use Rattle.std.proofs.Common.{◌≡◌, true, Option, Some, None, refl, arith}
use Rattle.network_judge.specs.declared.table.Kind.{Kind}
use Rattle.network_judge.specs.declared.table.Kind.TheVariants.{Injection, Hop, Ejection}
use Rattle.network_judge.specs.Table.{is_receiver}
use Rattle.network_machine.proofs.machine.Machine.choice_for.Goals as goal

ejects : (k : Option Kind) → is_receiver k ≡ true → k ≡ Some Ejection
ejects (Some Ejection) is = refl
ejects (Some Injection) is = cc
ejects (Some Hop) is = cc
ejects None is = cc

pub returns-in_err-y : goal.returns-in_err-y
returns-in_err-y g c =
    let size = c.channels-count.ensures.size in
    let low = c.requires.x in
    absurd (c.in_err-y.ensures.none (omega (arith, low, size)) (ejects _ c.requires.to))
