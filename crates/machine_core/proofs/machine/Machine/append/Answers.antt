use Rattle.std.proofs.Common.{◌≡◌, None, sym, ◌∙◌, subst}
use Rattle.machine_parts.specs.Machine.{Core, IsAfter}
use Rattle.machine_parts.specs.Appended.{load_with}
use Rattle.machine_parts.specs.Handed.{refused, moves_kept}
use Rattle.machine_parts.proofs.Handed.{stands, taken}
use Rattle.machine_core.proofs.machine.Machine.append.Goals as goal

pub returns-in-Ok-clause-law : goal.returns-in-Ok-clause-law
returns-in-Ok-clause-law g c = λ l steps h.
    let none : refused c.args.self.now c.args.processor c.args.line ≡ None = sym c.refusal.ensures ∙ c.in_default.is in
    subst (λ (x : Core). IsAfter (load_with l c.args.processor c.args.line) x (moves_kept l c.args.self.now c.args.processor steps))
    (sym c.in-Ok.ensures.taken)
    (stands l c.args.self.now steps c.args.processor c.args.line h
    (taken l c.args.self.now steps c.args.processor c.args.line h c.brings_words.ensures none))
