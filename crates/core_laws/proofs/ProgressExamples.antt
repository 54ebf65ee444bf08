-- Worked runs on two tiles, against the definitions.
use Rattle.std.proofs.Common.{◌≡◌, ℕ, true, false, List, [], ◌∷◌, ◌++◌, Some, refl}
use Rattle.std.specs.Prelude.{is_some}
use Rattle.torus.specs.declared.step.Step.{Step}
use Rattle.torus.specs.declared.step.Choice.{Choice}
use Rattle.torus.specs.declared.step.Choice.TheVariants.{Send, Take, TakeFrom, Put, Serve, Credit, Done}
use Rattle.packet.specs.Flit.{field}
use Rattle.packet.specs.Flits.{offered, flits_of}
use Rattle.script_lines.specs.declared.line.Line.{Line}
use Rattle.script_lines.specs.declared.line.Line.TheVariants as line
use Rattle.script_lines.specs.declared.line.Value.TheVariants.{Number}
use Rattle.one_order.specs.Following.{first_of, next_operation_of, after_issue, after_answer, is_finished}
use Rattle.core_laws.specs.Core.{Load, design_of, first_state, after, step, round}
use Rattle.core_laws.specs.Rounds.{after_rounds}
use Rattle.core_laws.specs.ProgressMoves.{enabled_step, tiles_finished, moves_left}

abbrev with_scripts : List (List Line) → Load
with_scripts scripts = record {
  shape = record { radices = 2 ∷ []; datelines = 1 ∷ [] };
  depth = 4;
  tags = 4;
  opening = 0 ∷ 0 ∷ 0 ∷ 0 ∷ 0 ∷ 0 ∷ 0 ∷ 0 ∷ [];
  scripts = scripts;
}

abbrev attempt : ℕ → Choice → Step
attempt agent choice = record { agent = agent; choice = choice }

abbrev one_store : Load
one_store = with_scripts ((line.Store 1 (Number 7) ∷ []) ∷ [] ∷ [])

-- a processor with an operation sends its head first
send_first : enabled_step (design_of one_store) (first_state one_store) ≡ Some (attempt 0 Send)
unfolding first_of next_operation_of after_issue after_answer is_finished field offered flits_of
send_first = refl

abbrev one_pass : List Step
one_pass = attempt 0 Send ∷ attempt 1 (TakeFrom 8) ∷ attempt 1 (Put 8) ∷ attempt 4 (TakeFrom 0) ∷ attempt 4 (Put 0) ∷ attempt 5 Take ∷ []

-- the three flits of the store go to bank 1, which serves it
abbrev served_once : List Step
served_once = one_pass ++ one_pass ++ one_pass ++ attempt 5 Serve ∷ []

-- then a credit comes back first; the bank can send its reply and has nothing to serve; and 226 moves are left
credit_next : enabled_step (design_of one_store) (after one_store served_once) ≡ Some (attempt 0 Credit)
unfolding first_of next_operation_of after_issue after_answer is_finished field offered flits_of
credit_next = refl

reply_next : is_some (step (design_of one_store) (after one_store served_once) (attempt 5 Send)) ≡ true
unfolding first_of next_operation_of after_issue after_answer is_finished field offered flits_of
reply_next = refl

none_served : is_some (step (design_of one_store) (after one_store served_once) (attempt 5 Serve)) ≡ false
unfolding first_of next_operation_of after_issue after_answer is_finished field offered flits_of
none_served = refl

moves_then : moves_left one_store served_once 19 ≡ 226
unfolding first_of next_operation_of after_issue after_answer is_finished field offered flits_of
moves_then = refl

-- an attempt that isn't enabled is no move
moves_after_idle : moves_left one_store (attempt 0 Serve ∷ attempt 7 Send ∷ served_once) 21 ≡ 226
unfolding first_of next_operation_of after_issue after_answer is_finished field offered flits_of
moves_after_idle = refl

-- empty scripts are finished, and there is a report and a look of each processor
abbrev nothing : Load
nothing = with_scripts ([] ∷ [] ∷ [])

report_first : enabled_step (design_of nothing) (first_state nothing) ≡ Some (attempt 0 Done)
unfolding first_of next_operation_of after_issue after_answer is_finished field offered flits_of
report_first = refl

four_moves : moves_left nothing [] 0 ≡ 4
four_moves = refl

finished_at_once : tiles_finished (first_state nothing) ≡ true
unfolding first_of is_finished
finished_at_once = refl

-- two loads, one a processor, are answered in the fifth round, and not in the fourth
abbrev two_loads : Load
two_loads = with_scripts ((line.Load 0 ∷ []) ∷ (line.Load 1 ∷ []) ∷ [])

not_in_four : tiles_finished (after_rounds (step (design_of two_loads)) (round two_loads.shape) 4 (first_state two_loads)) ≡ false
unfolding first_of next_operation_of after_issue after_answer is_finished field offered flits_of
not_in_four = refl

in_five : tiles_finished (after_rounds (step (design_of two_loads)) (round two_loads.shape) 5 (first_state two_loads)) ≡ true
unfolding first_of next_operation_of after_issue after_answer is_finished field offered flits_of
in_five = refl
