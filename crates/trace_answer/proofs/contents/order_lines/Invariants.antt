use Rattle.std.proofs.Common.{◌≡◌, map, take}
use Rattle.trace_answer.specs.Contents.{service_line}
use Rattle.trace_answer.proofs.contents.order_lines.Given as goal

-- the lines of the services so far
abbrev pub invariant-loop-service : goal.invariant-loop-service
invariant-loop-service g l = l.lines.items ≡ map service_line (take l.service-index l.services)
