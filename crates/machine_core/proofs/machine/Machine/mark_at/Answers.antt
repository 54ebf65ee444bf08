use Rattle.std.proofs.Common.{◌∙◌, ap, arith}
use Rattle.machine_parts.specs.Machine.{Core}
use Rattle.machine_core.specs.declared.part.Part.TheVariants.{Processor, Takes, Puts, Credits, Bank}
use Rattle.machine_core.specs.Marked.{can_move}
use Rattle.machine_core.proofs.Marking.{exactly}
use Rattle.machine_core.proofs.machine.Machine.mark_at.Goals as goal

-- no part's marks change the machine, nor those of another part
pub returns-clause-marked : goal.returns-clause-marked
returns-clause-marked g c =
    record {
      processors = λ k low. exactly _ Processor c.args.tile 5 _ _ (omega arith) c.requires.clear.processors c.mark.ensures.marked k low;
      takes = λ k low. exactly _ Takes c.args.tile c.args.ports _ _ c.requires.ports c.requires.clear.takes c.mark-2.ensures.marked k low
          ∙ ap (λ (m : Core). can_move m Takes c.args.tile k) c.mark.ensures.same;
      puts = λ k low. exactly _ Puts c.args.tile c.args.ports _ _ c.requires.ports c.requires.clear.puts c.mark-3.ensures.marked k low
          ∙ ap (λ (m : Core). can_move m Puts c.args.tile k) (c.mark-2.ensures.same ∙ c.mark.ensures.same);
      credits = λ k low. exactly _ Credits c.args.tile c.args.ports _ _ c.requires.ports c.requires.clear.credits c.mark-4.ensures.marked k low
          ∙ ap (λ (m : Core). can_move m Credits c.args.tile k) (c.mark-3.ensures.same ∙ c.mark-2.ensures.same ∙ c.mark.ensures.same);
      banks = λ k low. exactly _ Bank c.args.tile 4 _ _ (omega arith) c.requires.clear.banks c.mark-5.ensures.marked k low
          ∙ ap (λ (m : Core). can_move m Bank c.args.tile k) (c.mark-4.ensures.same ∙ c.mark-3.ensures.same ∙ c.mark-2.ensures.same ∙ c.mark.ensures.same);
    }
