use Rattle.std.proofs.Common.{◌∙◌, ◌++◌, List, ap, inl, inr}
use Rattle.report_model.specs.declared.row.ProgramStep.{ProgramStep}
use Rattle.report_model.proofs.Walked.{few_all_more, few_by, programs_more, scripted_all_more, unscripted_among}
use Rattle.report_model.proofs.program.programs_of.Goals as goal

pub program_of-requires-clause-few : goal.program_of-requires-clause-few
program_of-requires-clause-few g c =
    few_by c.args.made.now c.deref.result.now c.loop-p.p (c.deref.ensures.value ∙ c.in-Ok.ensures) c.requires.few

pub returns-in-Err-clause-none : goal.returns-in-Err-clause-none
returns-in-Err-clause-none g c = elim c.in-Err.ensures.none [
  | inl memory ↦ inl memory
  | inr other ↦ inr (unscripted_among c.args.scripts.now.lists c.args.made.now c.loop-p.p c.args.processors c.script_of.result.now c.deref.result.now
      c.in-Err.why c.loop-p-test.true c.script_of.ensures.lines (c.deref.ensures.value ∙ c.in-Ok.ensures) c.loop-p.invariant.scripted other)
]

pub loop-p-preserved : goal.loop-p-preserved
loop-p-preserved g c =
    let rows = c.deref.ensures.value ∙ c.in-Ok.ensures in
    let grown = c.in-Ok-extend_from_slice.ensures.items ∙ ap (λ (t : List ProgramStep). c.loop-p.steps.items ++ t) c.deref-in-loop-p.ensures.value in
    record {
      steps = programs_more c.args.scripts.now.lists c.args.made.now c.loop-p.p c.script_of.result.now c.deref.result.now c.loop-p.steps.items
          c.in-Ok-program_of.program.items c.extend_from_slice.new.self.items c.script_of.ensures.lines rows c.in-Ok-program_of.ensures.steps grown
          c.loop-p.invariant.steps;
      scripted = scripted_all_more c.args.scripts.now.lists c.args.made.now c.loop-p.p c.script_of.result.now c.deref.result.now c.script_of.ensures.lines
          rows c.in-Ok-program_of.ensures.scripted c.loop-p.invariant.scripted;
      few = few_all_more c.args.made.now c.deref.result.now c.loop-p.p c.loop-p.p c.loop-p.steps.items c.in-Ok-program_of.program.items
          c.extend_from_slice.new.self.items rows c.requires.few c.in-Ok-program_of.ensures.few grown c.loop-p.invariant.few;
    }
