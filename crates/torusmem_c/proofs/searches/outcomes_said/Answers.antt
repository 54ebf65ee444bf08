-- What the command has put is what is said.
use Rattle.std.proofs.Common.{inr, subst, sym, ℕ, Result}
use Rattle.std.specs.Str.Lines.{lines}
use Rattle.lexer.specs.declared.fault.LineFault.{LineFault}
use Rattle.one_order.specs.Load.{Load}
use Rattle.machine_core.specs.Loading.{load_by}
use Rattle.command_schedule.specs.Outcomes.{IsOutcomesText}
use Rattle.torusmem_c.specs.Searches.{IsUnmade}
use Rattle.torusmem_c.proofs.Searching.{refused_text, whole_text}
use Rattle.torusmem_c.proofs.searches.outcomes_said.Goals as goal

pub returns-in-Ok : goal.returns-in-Ok
returns-in-Ok c =
    let asked : Result Load LineFault = load_by (lines c.args.machine.now) (lines c.args.scripts.now) in
    record {
      said = record {
        allowed = c.in_ok-most.ensures.ok.0;
        text = subst (λ (n : ℕ). IsOutcomesText asked n c.args.run c.in-Ok.end c.outcomes_text.new.out.bytes.items) c.in_ok-most.ensures.ok.1
            (whole_text (IsOutcomesText asked c.in_ok-most.most c.args.run) c.new.result.items c.outcomes_text.new.out.bytes.items 0 _ c.in-Ok.end
            c.new.ensures.items c.in-Ok.ensures);
      };
      unsaid = tt;
    }

pub returns-in-Err : goal.returns-in-Err
returns-in-Err c =
    let asked : Result Load LineFault = load_by (lines c.args.machine.now) (lines c.args.scripts.now) in
    record {
      said = tt;
      unsaid = inr (
        c.in_ok-most.ensures.ok.0,
        subst (IsUnmade asked) (sym c.unmade.ensures)
            (refused_text (IsOutcomesText asked c.in_ok-most.most c.args.run) asked _ _ c.in-Err.why c.in-Err.ensures),
      );
    }
