use Rattle.std.proofs.Common.{◌≡◌, map}
use Rattle.std.specs.List.{range_with_len}
use Rattle.report_lines.specs.Contents.{items_of}
use Rattle.trace_answer.specs.Contents.{answers_at}
use Rattle.trace_answer.proofs.contents.answers_of_services.Given as goal

-- the answers of the processors so far
abbrev pub invariant-loop-processor : goal.invariant-loop-processor
invariant-loop-processor g l = items_of l.all.items ≡ map (answers_at l.services) (range_with_len 0 l.processor)
