use Rattle.std.proofs.Common.{◌+◌, subst, sym}
use Rattle.model_text.specs.Noted.{dependencies_of_log, notes_of_log}
use Rattle.model_text.specs.Views.{log_so_far}
use Rattle.model_answer.specs.Weak.{TellsWeak}
use Rattle.model_answer.proofs.Weakly.{weak_told}
use Rattle.model_answer.proofs.answer.answer_on.Goals as goal

pub returns : goal.returns
returns g c =
    let log = log_so_far c.args.log.now in
    let ops = c.args.trace.now.operations.items in
    let writes = c.args.trace.now.writes.items in
    record {
      verdicts = c.in_ok-verdicts.verdicts;
      judged = c.in_ok-verdicts.ensures;
      obeys = c.obeys.ensures.value;
      told = c.obeys.ensures.told (c.args.trace.now.openings + 1) ops writes c.requires c.in_ok-verdicts.ensures;
      weak = c.in_ok-weak.weak;
      weakly = c.in_ok-weak.ensures;
      weak_is = c.answer.ensures;
      rvwmo = subst (TellsWeak (notes_of_log log) (dependencies_of_log log) ops writes) (sym c.answer.ensures)
          (weak_told log c.args.trace.now c.args.options c.in_ok-weak.weak c.in_ok-weak.ensures);
      text = c.in_ok-text.ensures;
    }
