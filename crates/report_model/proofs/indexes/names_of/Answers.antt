use Rattle.std.proofs.Common.{◌≡◌, ◌∙◌, [], ℕ, List, length, map, ap, arith}
use Rattle.std.specs.Prelude.{unwrap_or}
use Rattle.std.specs.BTreeMap.{get, is_at}
use Rattle.std.specs.List.{range_with_len}
use Rattle.std.specs.Map.{lookup}
use Rattle.std.specs.Ordering.{nat_cmp}
use Rattle.model_text.proofs.Growing.{ranged_more}
use Rattle.report_model.specs.declared.row.ProgramStep.{ProgramStep}
use Rattle.report_model.specs.Indexes.{made_before, name_at}
use Rattle.report_model.proofs.Counted.{counts_more, named}
use Rattle.report_model.proofs.indexes.names_of.Goals as goal

pub loop-j-init : goal.loop-j-init
loop-j-init g c = record {
  names = c.new-names.ensures.items;
  counts = λ (p : ℕ). ap (λ (entries : List (ℕ × ℕ)). unwrap_or (lookup (is_at (nat_cmp p)) entries) 0) c.new-counts.ensures.empty;
}

pub loop-j-preserved : goal.loop-j-preserved
loop-j-preserved g c =
    let steps : List ProgramStep = c.args.steps.now in
    let j : ℕ = c.loop-j.j in
    let step : ProgramStep = c.step_at-processor.result in
    let index : ℕ = c.made_by-index.result in
    let counted : index ≡ made_before steps step.source j = c.made_by-index.ensures ∙ c.loop-j.invariant.counts step.source in
    record {
      names = ranged_more (name_at steps) j [] c.loop-j.names.items c.push.new.self.items _ (named steps j index step c.step_at-processor.ensures counted)
          c.in_ok-push.ensures.items c.loop-j.invariant.names;
      counts = counts_more steps j index step (get nat_cmp c.loop-j.counts) (get nat_cmp c.insert.new.self) c.step_at-processor.ensures
          c.in_ok-insert.ensures.updates.0 c.made_by-index.ensures c.loop-j.invariant.counts;
    }

pub returns : goal.returns
returns g c =
    let end : c.loop-j.j ≡ length c.args.steps.now = omega arith in
    c.loop-j.invariant.names ∙ ap (λ (n : ℕ). map (name_at c.args.steps.now) (range_with_len 0 n)) end
