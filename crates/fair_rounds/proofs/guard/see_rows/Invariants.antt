use Rattle.std.proofs.Common.{◌≡◌}
use Rattle.fair_rounds.specs.Guard.{with_first, issue_count, row_since}
use Rattle.fair_rounds.proofs.guard.see_rows.Given as goal

-- the processors so far are seen
abbrev pub invariant-loop-processor : goal.invariant-loop-processor
invariant-loop-processor g l = record {
  issued : l.issued ≡ with_first l.processor (λ p n. issue_count l.machine p) 0 l.fn.issued;
  since : l.since ≡ with_first l.processor (row_since l.machine l.fn.issued l.round) 0 l.fn.since;
}
