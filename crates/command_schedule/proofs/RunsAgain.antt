-- The moves of a run are of the torus, and so their schedule is read again.
use Rattle.std.proofs.Common.{◌≡◌, ◌<◌, ◌^◌, Bool, List, [], ◌∷◌, ◌++◌, length, Ok, sym, ap, subst, ◌∙◌, flat_map}
use Rattle.std.specs.List.{All}
use Rattle.std.specs.Str.Lines.{lines}
use Rattle.std.proofs.lemmas.List.{length-map}
use Rattle.std.proofs.lemmas.List.Elements.{All-nil, All-cons, All-head, All-tail, All-same}
use Rattle.torus.specs.declared.step.Step.{Step}
use Rattle.torus.specs.Shape.{Shape, tiles_of, dims_of, IsAccepted as IsAcceptedShape}
use Rattle.script_lines.specs.Machine.{MachineSpec}
use Rattle.script.specs.Steps.{steps_of}
use Rattle.command_schedule.specs.Line.{text_of}
use Rattle.command_schedule.specs.Schedule.{IsStepOf, schedule_of, moves_schedule}
use Rattle.command_schedule.proofs.Again.{rounds_read_back, moves_read_back}
use Rattle.core_laws.specs.Core.{Load, design_of, first_tile, first_state}
use Rattle.core_laws.specs.Runs.{IsAcceptedLoad}
use Rattle.core_laws.specs.Machine.{Core, IsAfter}
use Rattle.core_laws.specs.MachineMoves.{moves_of, moves_from}
use Rattle.core_laws.proofs.StepLists.{machine_further}
use Rattle.command_schedule.proofs.OfTorus.{enabled_are}

first_count : (l : Load) → IsAcceptedLoad l → length (first_state l).tiles ≡ tiles_of l.shape
first_count l is = length-map l.scripts (first_tile (dims_of l.shape) l.tags) ∙ is.processors

pub moves_are : (l : Load) (steps : List Step) → IsAcceptedLoad l → All (IsStepOf l.shape) (moves_of l steps)
moves_are l steps is = enabled_are (design_of l) (first_state l) steps (first_count l is)

-- what all of two lists are, each is
front : {X : Type 0} (P : X → Type 0) (xs ys : List X) → All P (xs ++ ys) → All P xs
front P [] ys all = All-nil P
front P (x ∷ xs) ys all = All-cons P x xs (All-head P x (xs ++ ys) all) (front P xs ys (All-tail P x (xs ++ ys) all))

back : {X : Type 0} (P : X → Type 0) (xs ys : List X) → All P (xs ++ ys) → All P ys
back P [] ys all = all
back P (x ∷ xs) ys all = back P xs ys (All-tail P x (xs ++ ys) all)

pub further_moves_are : (l : Load) (c : Core) (before steps : List Step) → IsAfter l c before → All (IsStepOf l.shape) (moves_from c steps)
further_moves_are l c before steps after =
    back (IsStepOf l.shape) (moves_of l before) (moves_from c steps)
    (All-same (IsStepOf l.shape) (moves_of l before ++ moves_from c steps) (moves_of l (before ++ steps)) (sym (machine_further l c before steps after))
    (moves_are l (before ++ steps) after.accepted))

-- and so are those of each round
each_round : (P : Step → Type 0) (rounds : List (List Step)) → All P (flat_map (λ moves. moves) rounds) → All (All P) rounds
each_round P [] all = All-nil (All P)
each_round P (moves ∷ rounds) all =
    All-cons (All P) moves rounds (front P moves (flat_map (λ more. more) rounds) all)
    (each_round P rounds (back P moves (flat_map (λ more. more) rounds) all))

pub rounds_again : (l : Load) (machine : MachineSpec) (steps : List Step) (rounds : List (List Step)) (finished : Bool)
    → IsAcceptedLoad l → machine.shape ≡ l.shape → flat_map (λ moves. moves) rounds ≡ moves_of l steps → length rounds < 2 ^ 64
    → steps_of machine (lines (text_of (schedule_of rounds finished))) ≡ Ok (moves_of l steps)
rounds_again l machine steps rounds finished is same cut few =
    let of_load : All (IsStepOf l.shape) (flat_map (λ moves. moves) rounds) =
    All-same (IsStepOf l.shape) (flat_map (λ moves. moves) rounds) (moves_of l steps) cut (moves_are l steps is) in
    let of : All (IsStepOf machine.shape) (flat_map (λ moves. moves) rounds) =
    subst (λ (s : Shape). All (IsStepOf s) (flat_map (λ moves. moves) rounds)) (sym same) of_load in
    rounds_read_back machine rounds finished (subst IsAcceptedShape (sym same) is.shape) (each_round (IsStepOf machine.shape) rounds of) few
    ∙ ap Ok cut

pub moves_again : (l : Load) (machine : MachineSpec) (steps : List Step) (finished : Bool) → IsAcceptedLoad l → machine.shape ≡ l.shape
    → steps_of machine (lines (text_of (moves_schedule (moves_of l steps) finished))) ≡ Ok (moves_of l steps)
moves_again l machine steps finished is same =
    moves_read_back machine (moves_of l steps) finished (subst IsAcceptedShape (sym same) is.shape)
    (subst (λ (s : Shape). All (IsStepOf s) (moves_of l steps)) (sym same) (moves_are l steps is))
