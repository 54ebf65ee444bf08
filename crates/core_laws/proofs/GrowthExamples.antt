-- Worked machines that are handed lines, and what wrong definitions make of them.
use Rattle.std.proofs.Common.{◌≡◌, ℕ, Bool, true, false, List, [], ◌∷◌, ◌++◌, Some, refl, sym, subst, arith}
use Rattle.std.specs.Prelude.{slice_get}
use Rattle.torus.specs.declared.step.Step.{Step}
use Rattle.torus.specs.declared.step.Choice.{Choice}
use Rattle.torus.specs.declared.step.Choice.TheVariants.{Send, TakeFrom, Done}
use Rattle.packet.specs.declared.kinds.Reply.TheVariants.{Ok as Stored}
use Rattle.packet.specs.Flit.{field}
use Rattle.packet.specs.Flits.{flits_of}
use Rattle.script_lines.specs.declared.line.Line.{Line}
use Rattle.script_lines.specs.declared.line.Line.TheVariants as line
use Rattle.script_lines.specs.declared.line.Value.TheVariants.{Number, Last}
use Rattle.script_lines.specs.Lines.{total_count}
use Rattle.one_order.specs.Following.{Following, first_of, next_operation_of}
use Rattle.one_order.specs.Following.{after_issue, after_answer, is_finished, follower_with}
use Rattle.core_laws.specs.Tile.{TileState}
use Rattle.core_laws.specs.Core.{Load, first_tile, after}
use Rattle.core_laws.specs.ProgressMoves.{moves_made, moves_left}
use Rattle.core_laws.specs.Machine.{core_after_load}
use Rattle.core_laws.specs.MachineMoves.{moves_of}
use Rattle.core_laws.specs.Appended.{load_with, MayFollow, IsUnreported}
use Rattle.core_laws.specs.Doings.{Doing, Tries, Appends, core_done, load_grown, moves_done}

abbrev store : Line
store = line.Store 1 (Number 7)

-- where nothing is held back, a fence at the end comes to nothing
fence_at_the_end : is_finished (follower_with line.Fence (first_of [])) ≡ true
unfolding first_of is_finished
fence_at_the_end = refl

-- behind an operation without its answer it stays until that one has come
abbrev behind_store : Following
behind_store = follower_with line.Fence (after_issue (first_of (store ∷ [])))

fence_waits : behind_store.ahead ≡ line.Fence ∷ []
unfolding first_of after_issue
fence_waits = refl

fence_goes : is_finished (after_answer behind_store 0 Stored) ≡ true
unfolding first_of after_issue after_answer is_finished
fence_goes = refl

-- wrong: the line as it is, behind the lines ahead; the script would never be finished
abbrev with_line_behind : Line → Following → Following
with_line_behind line f = record {
  ahead = f.ahead ++ line ∷ [];
  spin = f.spin;
  issued = f.issued;
  waiting = f.waiting;
  last = f.last;
}

fence_left : is_finished (with_line_behind line.Fence (first_of [])) ≡ false
unfolding first_of is_finished
fence_left = refl

-- two tiles
abbrev with_scripts : List (List Line) → Load
with_scripts scripts = record {
  shape = record { radices = 2 ∷ []; datelines = 1 ∷ [] };
  depth = 4;
  tags = 4;
  opening = 0 ∷ 0 ∷ 0 ∷ 0 ∷ 0 ∷ 0 ∷ 0 ∷ 0 ∷ [];
  scripts = scripts;
}

abbrev nothing : Load
nothing = with_scripts ([] ∷ [] ∷ [])

abbrev attempt : ℕ → Choice → Step
attempt agent choice = record { agent = agent; choice = choice }

at_its_processor : load_with nothing 1 store ≡ with_scripts ([] ∷ (store ∷ []) ∷ [])
at_its_processor = refl

-- an attempt that was idle before the line came is a move with the line, so idle attempts are left out
idle_without : moves_of nothing (attempt 0 Send ∷ []) ≡ []
unfolding first_of next_operation_of
idle_without = refl

moves_with : moves_of (load_with nothing 0 store) (attempt 0 Send ∷ []) ≡ attempt 0 Send ∷ []
unfolding first_of next_operation_of field flits_of
moves_with = refl

-- a processor's report is no move with a further line of its own, so who has reported can't be handed one
reports_without : moves_of nothing (attempt 0 Done ∷ []) ≡ attempt 0 Done ∷ []
unfolding first_of is_finished
reports_without = refl

no_report_with : moves_of (load_with nothing 0 store) (attempt 0 Done ∷ []) ≡ []
unfolding first_of is_finished
no_report_with = refl

other_reports : moves_of (load_with nothing 0 store) (attempt 3 Done ∷ []) ≡ attempt 3 Done ∷ []
unfolding first_of is_finished
other_reports = refl

-- an idle attempt, a line, and two moves
abbrev doings : List Doing
doings = Tries (attempt 0 Send) ∷ Appends 0 store ∷ Tries (attempt 0 Send) ∷ Tries (attempt 1 (TakeFrom 8)) ∷ []

abbrev two_moves : List Step
two_moves = attempt 0 Send ∷ attempt 1 (TakeFrom 8) ∷ []

one_line : load_grown nothing doings ≡ load_with nothing 0 store
one_line = refl

two_made : moves_done (core_after_load nothing []) doings ≡ two_moves
unfolding first_of next_operation_of after_issue field flits_of
two_made = refl

-- 2 for each tile, 241 for the store, less two moves: of the machine as of the run from the load with the line
left_to_it : (core_done (core_after_load nothing []) doings).moves_left ≡ 243
unfolding first_of next_operation_of after_issue field flits_of
left_to_it = refl

left_in_the_run : moves_left (load_with nothing 0 store) two_moves 2 ≡ 243
unfolding first_of next_operation_of after_issue field flits_of
left_in_the_run = refl

-- with the idle attempt kept there would be three
three_with_the_idle_one : moves_made (load_with nothing 0 store) (attempt 0 Send ∷ two_moves) ≡ 3
unfolding first_of next_operation_of after_issue field flits_of
three_with_the_idle_one = refl

-- a `last` needs an operation of its own processor before it; that another one has some is not enough
abbrev other_stores : Load
other_stores = with_scripts ([] ∷ (store ∷ []) ∷ [])

no_last : MayFollow other_stores 0 (line.Store 1 Last) → ⊥
no_last may = let before = may.last refl in omega (arith, before)

one_of_the_other : total_count other_stores.scripts ≡ 1
one_of_the_other = refl

-- a line is appended to the script of its own processor
line_of_processor_1 : load_grown nothing (Appends 1 store ∷ []) ≡ load_with nothing 1 store
line_of_processor_1 = refl

-- a processor that has reported is handed no line
abbrev reported_tile : TileState
reported_tile = record (first_tile 1 4 []) { processor = record (first_tile 1 4 []).processor { reported = true } }

reported_is_told : slice_get (after nothing (attempt 0 Done ∷ [])).tiles 0 ≡ Some reported_tile
unfolding first_of is_finished
reported_is_told = refl

no_line_after_the_report : IsUnreported (after nothing (attempt 0 Done ∷ [])) 0 → ⊥
unfolding first_of is_finished
no_line_after_the_report is = reported is.tile is.there is.unreported
  where
    reported : (tile : TileState) → Some reported_tile ≡ Some tile → tile.processor.reported ≡ false → ⊥
    reported tile there not =
        let same : reported_tile ≡ tile = cc in
        let e : ◌≡◌ {A = Bool} true false = subst (λ (t : TileState). t.processor.reported ≡ false) (sym same) not in
        cc (e)
