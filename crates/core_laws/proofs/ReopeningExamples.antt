-- Worked machines of which the reports are taken back, and what a wrong definition makes of them.
use Rattle.std.proofs.Common.{◌≡◌, ℕ, true, false, List, [], ◌∷◌, map, refl}
use Rattle.std.specs.Prelude.{is_some}
use Rattle.torus.specs.declared.step.Step.{Step}
use Rattle.torus.specs.declared.step.Choice.{Choice}
use Rattle.torus.specs.declared.step.Choice.TheVariants.{Send, Take, Done, Look}
use Rattle.script_lines.specs.declared.line.Line.TheVariants as line
use Rattle.script_lines.specs.declared.line.Value.TheVariants.{Number}
use Rattle.one_order.specs.Following.{first_of, is_finished}
use Rattle.core_laws.specs.Core.{Load, State, design_of, step, after, after_from}
use Rattle.core_laws.specs.Machine.{core_after_load}
use Rattle.core_laws.specs.Appended.{appended, load_with}
use Rattle.core_laws.specs.Reopened.{tile_open, state_open, reports_in, reopened, without_reports}
use Rattle.core_laws.specs.Handed.{handed, is_too_long}

-- two tiles, whose scripts are empty
abbrev nothing : Load
nothing = record {
  shape = record { radices = 2 ∷ []; datelines = 1 ∷ [] };
  depth = 4;
  tags = 4;
  opening = 0 ∷ 0 ∷ 0 ∷ 0 ∷ 0 ∷ 0 ∷ 0 ∷ 0 ∷ [];
  scripts = [] ∷ [] ∷ [];
}

abbrev attempt : ℕ → Choice → Step
attempt agent choice = record { agent = agent; choice = choice }

-- both report, and one sees that all have
abbrev all_report : List Step
all_report = attempt 0 Done ∷ attempt 3 Done ∷ []

abbrev reports : List Step
reports = attempt 0 Done ∷ attempt 3 Done ∷ attempt 3 Look ∷ []

three_marks : reports_in (after nothing reports) ≡ 3
unfolding first_of is_finished
three_marks = refl

-- taken back they leave the machine as it was loaded, with all its moves
as_loaded : reopened (core_after_load nothing reports) ≡ core_after_load nothing []
unfolding first_of is_finished
as_loaded = refl

four_moves : (reopened (core_after_load nothing reports)).moves_left ≡ 4
unfolding first_of is_finished
four_moves = refl

-- other steps are left in their order
others_stay : without_reports (attempt 0 Done ∷ attempt 0 Send ∷ attempt 3 Look ∷ attempt 0 Take ∷ [])
    ≡ attempt 0 Send ∷ attempt 0 Take ∷ []
others_stay = refl

-- after that all can report again, and see it
seen_again : is_some (step (design_of nothing)
    (after_from (design_of nothing) (state_open (design_of nothing) (after nothing reports)) all_report)
    (attempt 0 Look)) ≡ true
unfolding first_of is_finished
seen_again = refl

-- wrong: the marks alone are taken back, and the done word stays; it comes to four, and nobody sees two
abbrev with_word_left : State → State
with_word_left s = record { tiles = map tile_open s.tiles; around = s.around }

never_seen : is_some (step (design_of nothing)
    (after_from (design_of nothing) (with_word_left (after nothing reports)) all_report)
    (attempt 0 Look)) ≡ false
unfolding first_of is_finished
never_seen = refl

-- a line that comes after all reports: as if it had been there from the start
line_at_the_end : appended (reopened (core_after_load nothing reports)) 0 (line.Store 1 (Number 7))
    ≡ core_after_load (load_with nothing 0 (line.Store 1 (Number 7))) []
unfolding first_of is_finished
line_at_the_end = refl

-- handed to a processor that has reported, the line takes all reports back first
handed_after_the_report : handed (core_after_load nothing reports) 0 (line.Store 1 (Number 7))
    ≡ core_after_load (load_with nothing 0 (line.Store 1 (Number 7))) []
unfolding first_of is_finished
handed_after_the_report = refl

-- a script of 4095 operations has room for one more, and one of 4096 has none
one_more : is_too_long (4095 ∷ 0 ∷ []) 0 (line.Load 0) ≡ false
one_more = refl

none_more : is_too_long (4096 ∷ 0 ∷ []) 0 (line.Load 0) ≡ true
none_more = refl
