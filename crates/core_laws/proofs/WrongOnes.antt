-- Wrong notions of a live state: what the definition says of states on two tiles, and what each wrong one says of them.
use Rattle.std.proofs.Common.{◌≡◌, ℕ, Bool, true, false, List, [], ◌∷◌, ◌++◌, Option, Some, None, refl, map}
use Rattle.std.specs.Prelude.{is_some}
use Rattle.std.specs.List.{list_any}
use Rattle.torus.specs.declared.step.Step.{Step}
use Rattle.torus.specs.declared.step.Choice.{Choice}
use Rattle.torus.specs.declared.step.Choice.TheVariants.{Send, Take, TakeFrom, Credit, Done, Look}
use Rattle.packet.specs.Flit.{field}
use Rattle.packet.specs.Flits.{offered, flits_of}
use Rattle.script_lines.specs.declared.line.Line.{Line}
use Rattle.script_lines.specs.declared.line.Line.TheVariants as line
use Rattle.script_lines.specs.declared.line.Value.TheVariants.{Number}
use Rattle.one_order.specs.Following.{first_of, next_operation_of, after_issue, after_answer, is_finished}
use Rattle.core_laws.specs.Tile.{Design}
use Rattle.core_laws.specs.Core.{Load, State, design_of, first_state, after, step, round, attempts_of}
use Rattle.core_laws.specs.Rounds.{first_enabled}
use Rattle.core_laws.specs.ProgressMoves.{enabled_step, IsLive, tiles_finished}

-- two tiles with channels of one flit and eight words
abbrev with_scripts : List (List Line) → Load
with_scripts scripts = record {
  shape = record { radices = 2 ∷ []; datelines = 1 ∷ [] };
  depth = 1;
  tags = 1;
  opening = 0 ∷ 0 ∷ 0 ∷ 0 ∷ 0 ∷ 0 ∷ 0 ∷ 0 ∷ [];
  scripts = scripts;
}

abbrev attempt : ℕ → Choice → Step
attempt agent choice = record { agent = agent; choice = choice }

-- processor 0 stores 7 at address 1, and has sent the head of this, which fills the channel
abbrev one_store : Load
one_store = with_scripts ((line.Store 1 (Number 7) ∷ []) ∷ [] ∷ [])

abbrev head_sent : State
head_sent = after one_store (attempt 3 Done ∷ attempt 0 Send ∷ [])

-- the router can take it
router_is_next : enabled_step (design_of one_store) head_sent ≡ Some (attempt 1 (TakeFrom 8))
unfolding first_of next_operation_of after_issue after_answer is_finished field offered flits_of
router_is_next = refl

state_is_live : IsLive (design_of one_store) head_sent
state_is_live = (attempt 1 (TakeFrom 8), router_is_next)

-- wrong: some processor can make a step
abbrev processors_choices : List Step
processors_choices =
    attempts_of 0 (Send ∷ Take ∷ Credit ∷ Done ∷ Look ∷ []) ++ attempts_of 3 (Send ∷ Take ∷ Credit ∷ Done ∷ Look ∷ [])

abbrev SomeProcessorMoves : Design → State → Type 0
SomeProcessorMoves d s = (attempt : Step) × (first_enabled (step d) s processors_choices ≡ Some attempt)

no_processor_moves : SomeProcessorMoves (design_of one_store) head_sent → ⊥
unfolding first_of next_operation_of after_issue after_answer is_finished field offered flits_of
no_processor_moves h = cc (h.1)

-- wrong: live is what isn't finished
abbrev IsUnfinished : State → Type 0
IsUnfinished s = tiles_finished s ≡ false

-- empty scripts are finished at once, and there is a report to make
abbrev nothing : Load
nothing = with_scripts ([] ∷ [] ∷ [])

report_is_next : IsLive (design_of nothing) (first_state nothing)
unfolding first_of next_operation_of after_issue after_answer is_finished field offered flits_of
report_is_next = (attempt 0 Done, refl)

nothing_is_unfinished : IsUnfinished (first_state nothing) → ⊥
unfolding first_of is_finished
nothing_is_unfinished h = cc (h)

-- wrong: there is a step to attempt, whether it is enabled or not
abbrev HasAttempts : Design → State → Type 0
HasAttempts d s = (attempt : Step) × (more : List Step) × (round d.shape ≡ attempt ∷ more)

-- once both have reported and seen it, nothing moves
abbrev at_the_end : State
at_the_end = after nothing (attempt 0 Done ∷ attempt 3 Done ∷ attempt 0 Look ∷ attempt 3 Look ∷ [])

end_is_not_live : IsLive (design_of nothing) at_the_end → ⊥
unfolding first_of next_operation_of after_issue after_answer is_finished field offered flits_of
end_is_not_live h = cc (h.1)

end_has_attempts : HasAttempts (design_of nothing) at_the_end
end_has_attempts = (attempt 0 Send, _, refl)
