use Rattle.std.proofs.Common.{◌≡◌, ◌++◌, slice_index}
use Rattle.std.specs.List.{flat_map, range_with_len}
use Rattle.lexer.specs.Joined.{joined_on}
use Rattle.command_schedule.specs.OutcomeTexts.{held_words}
use Rattle.command_schedule.proofs.outcome_text.put_memory.Given as goal

-- the words below an address are put
abbrev pub invariant-loop-at : goal.invariant-loop-at
invariant-loop-at g l = l.text.items
    ≡ l.fn.text.items ++ joined_on (flat_map (λ a. held_words a (slice_index l.words a)) (range_with_len 0 l.at))
