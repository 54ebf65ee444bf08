use Rattle.std.proofs.Common.{ℕ, List, [], slice_index_or, slice_set, ◌∙◌, ap}
use Rattle.fair_rounds.specs.Guard.{with_first, issue_count, row_since}
use Rattle.fair_rounds.proofs.Firsts.{first_more, row_more}
use Rattle.fair_rounds.proofs.guard.see_rows.Goals as goal

pub loop-processor-preserved : goal.loop-processor-preserved
loop-processor-preserved g c =
    let is = c.loop-processor.invariant in
    record {
      issued = ap (λ (xs : List ℕ). slice_set xs c.loop-processor.processor c.issue_count-count.result) is.issued
          ∙ first_more (λ p n. issue_count c.args.machine.now p) 0 c.loop-processor.processor c.args.issued.now c.issue_count-count.result c.issue_count-count.ensures;
      since = ap (λ (rows : List (List ℕ)). slice_set rows c.loop-processor.processor c.see_row.new.since) is.since
          ∙ first_more (row_since c.args.machine.now c.args.issued.now c.args.round) [] c.loop-processor.processor c.args.since.now c.see_row.new.since
          (c.see_row.ensures
          ∙ row_more c.args.machine.now c.args.issued.now c.args.round c.loop-processor.processor c.issue_count-count.result c.loop-processor.issued
          (slice_index_or c.loop-processor.since c.loop-processor.processor [])
          (slice_index_or (with_first c.loop-processor.processor (row_since c.args.machine.now c.args.issued.now c.args.round) 0 c.args.since.now) c.loop-processor.processor [])
          c.issue_count-count.ensures is.issued (ap (λ (rows : List (List ℕ)). slice_index_or rows c.loop-processor.processor []) is.since));
    }
