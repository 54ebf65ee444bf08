-- One word of the memory more.
use Rattle.std.proofs.Common.{ℕ, slice_index}
use Rattle.command_schedule.specs.OutcomeTexts.{held_words}
use Rattle.command_schedule.proofs.Listed.{joined_more}
use Rattle.command_schedule.proofs.outcome_text.put_memory.Goals as goal

pub loop-at-preserved : goal.loop-at-preserved
loop-at-preserved g c =
    joined_more (λ (a : ℕ). held_words a (slice_index c.args.words.now a)) c.loop-at.at c.args.text.now.items c.loop-at.text.items c.put_held.new.text.items
    c.loop-at.invariant c.in_ok-put_held.ensures
