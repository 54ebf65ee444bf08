use Rattle.std.proofs.Common.{List, sym, subst}
use Rattle.script_lines.specs.declared.line.Line.{Line}
use Rattle.report_model.specs.Programs.{AreSpinsShort}
use Rattle.report_model.proofs.Scripted.{accepted_spins, script_none, script_some}
use Rattle.report_model.proofs.program.script_of.Goals as goal

pub returns-in-Some-clause-spins : goal.returns-in-Some-clause-spins
returns-in-Some-clause-spins g c =
    subst (λ (ls : List Line). AreSpinsShort ls)
    (script_some c.args.scripts.now.lists c.args.p c.in-Some.lines.now (sym c.in-Some.ensures.value))
    (accepted_spins c.args.scripts.now c.args.p c.in-Some.ensures.accepted)

pub returns-in-None-clause-lines : goal.returns-in-None-clause-lines
returns-in-None-clause-lines g c = sym (script_none c.args.scripts.now.lists c.args.p (sym c.in-None.ensures.value))
