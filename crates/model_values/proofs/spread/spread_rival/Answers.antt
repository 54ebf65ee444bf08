use Rattle.std.proofs.Common.{Bool, sym, subst, ◌∙◌}
use Rattle.model_values.specs.Known.{NotesMore}
use Rattle.model_values.proofs.Concluding.{concluded, notes_then}
use Rattle.model_values.proofs.Rivals.{rival_more}
use Rattle.model_values.proofs.spread.spread_rival.Goals as goal

pub returns : goal.returns
returns c = record {
  spread = rival_more c.args.question.now c.args.level c.args.x c.args.w c.is_early-early.result c.is_before-late.result c.args.table.now
      c.add-first.new.table c.add-last.new.table c.requires.rival c.is_early-early.ensures.yes c.add-first.ensures.noted
      (λ fact. sym c.is_before-late.ensures ∙ fact) c.add-last.ensures.noted;
  more = subst (λ (m : Bool). NotesMore c.args.level c.args.table.now c.add-last.new.table m) (sym c.either.ensures)
      (notes_then c.args.level c.args.table.now c.add-first.new.table c.add-last.new.table c.add-first.result c.add-last.result c.add-first.ensures.more
      c.add-last.ensures.more);
  concluded = λ quiet. concluded c.args.question.now c.args.level c.args.x c.args.w c.is_early-early.result c.is_before-late.result c.add-first.result
      c.add-last.result c.args.table.now c.add-first.new.table c.add-last.new.table c.is_early-early.ensures.no c.add-first.ensures.noted
      c.add-first.ensures.more c.is_before-late.ensures c.add-last.ensures.noted c.add-last.ensures.more (sym c.either.ensures ∙ quiet);
}
