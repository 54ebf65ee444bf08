use Rattle.std.proofs.Common.{◌≡◌}
use Rattle.fair_rounds.specs.Guard.{with_first, since_of, tag_holder}
use Rattle.fair_rounds.proofs.guard.see_row.Given as goal

-- the tags so far are seen
abbrev pub invariant-loop-tag : goal.invariant-loop-tag
invariant-loop-tag g l = l.since ≡ with_first l.tag (λ t s. since_of (tag_holder l.machine l.processor t) l.issued l.round s) 0 l.fn.since
