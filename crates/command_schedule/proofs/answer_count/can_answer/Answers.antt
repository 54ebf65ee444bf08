-- The bounds are those of the scripts, and the numbers those of the answer.
use Rattle.std.proofs.Common.{◌≡◌, ℕ, List, true, subst, ◌∙◌}
use Rattle.std.specs.Prelude.{◌↔◌}
use Rattle.command_schedule.specs.Answers.{AreWithin, counts_of}
use Rattle.command_schedule.specs.declared.answer_count.Bounds.{Bounds}
use Rattle.command_schedule.proofs.answer_count.can_answer.Goals as goal

pub returns : goal.returns
returns g c =
    subst (λ (bounds : List Bounds). (c.are_within.result ≡ true) ↔ AreWithin bounds (counts_of c.args.wanted.now))
    (c.as_slice-within.ensures.value ∙ c.in_ok-bounds.ensures)
    (subst (λ (counts : List ℕ). (c.are_within.result ≡ true) ↔ AreWithin c.as_slice-within.result.now counts)
    (c.as_slice-given.ensures.value ∙ c.in_ok-counts.ensures) c.are_within.ensures)
