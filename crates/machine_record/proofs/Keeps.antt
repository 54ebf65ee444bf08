-- What is kept makes the machine, after each call.
use Rattle.std.proofs.Common.{◌≡◌, inl, inr, ℕ, ◌≤◌, ◌%◌, true, List, Option, Some, None, refl, sym, ◌∙◌, ap, subst}
use Rattle.std.specs.Prelude.{option_map}
use Rattle.std.proofs.lemmas.List.{append-nil}
use Rattle.torus.specs.Shape.{dims_of}
use Rattle.torus.specs.declared.step.Step.{Step}
use Rattle.torus.specs.declared.step.Stepped.TheVariants.{Moved, Idle}
use Rattle.script_lines.specs.declared.line.Line.{Line as ScriptLine}
use Rattle.machine_parts.specs.Core.{round}
use Rattle.machine_parts.specs.Handed.{handed, refused}
use Rattle.machine_parts.specs.Machine.{RunsOn, Steps, core_after}
use Rattle.machine_core.specs.Rounds.{rounds_of}
use Rattle.machine_core.specs.Clocked.{clocked_round, clocked_rounds}
use Rattle.machine_asked.specs.Asked.{Asked, fair_rounds_made, spins_with}
use Rattle.machine_asked.proofs.Waiting.{on_after}
use Rattle.machine_record.specs.declared.action.Action.{Action}
use Rattle.machine_record.specs.declared.action.Action.TheVariants.{Move, Rounds, ClockedRounds, FairRounds}
use Rattle.machine_record.specs.declared.row.LineRow.{LineRow}
use Rattle.machine_record.specs.Action.{is_narrow, one_turned, turn_behind, turns_told}
use Rattle.machine_record.specs.Recording.{Recording, Room}
use Rattle.machine_record.specs.Machine.{HasLineNumber, KeepsAction, KeepsRow, with_action, with_row}
use Rattle.machine_record.specs.MachineInside.{RecordMakes}
use Rattle.machine_record.specs.Replay.{acted, rounds_made, with_line}
use Rattle.machine_record.proofs.Joins.{made_action}
use Rattle.machine_record.proofs.Replays.{clocked_is, clocked_rounds_are, idle_is, made_line, moved_is, rounds_is, same_input}

-- an action more
makes_action : (k : Option Recording) (v w : Asked) (a : Action) → is_narrow a ≡ true → RecordMakes k v → ((rows : List LineRow) → acted rows v a ≡ Some w)
    → RecordMakes (option_map (with_action a) k) w
makes_action None v w a narrow h did = tt
makes_action (Some r) v w a narrow h did = made_action r a v w narrow h did

keeps_action : (old new : Option Recording) (room after : Room) (v w : Asked) (a : Action) → RecordMakes old v → ((rows : List LineRow) → acted rows v a ≡ Some w)
    → KeepsAction a old room new after → RecordMakes new w
keeps_action old new room after v w a h did (inl kept) = subst (λ (k : Option Recording). RecordMakes k w) (sym kept.1) (makes_action old v w a kept.0 h did)
keeps_action old new room after v w a h did (inr ended) = subst (λ (k : Option Recording). RecordMakes k w) (sym ended.1) tt

-- a move
pub keeps_move : (old new : Option Recording) (room after : Room) (v w : Asked) (attempt : Step) → RecordMakes old v → Steps v.core w.core Moved attempt → w.spins ≡ v.spins → w.guard ≡ v.guard
    → KeepsAction (Move attempt) old room new after → RecordMakes new w
keeps_move old new room after v w attempt h steps spins guard kept =
    keeps_action old new room after v w (Move attempt) h (λ rows. moved_is v w Moved attempt steps spins guard refl) kept

-- no move
pub keeps_idle : (old : Option Recording) (v w : Asked) (attempt : Step) → RecordMakes old v → Steps v.core w.core Idle attempt → w.spins ≡ v.spins → w.guard ≡ v.guard
    → RecordMakes old w
keeps_idle old v w attempt h steps spins guard = subst (λ (x : Asked). RecordMakes old x) (sym (idle_is v w Idle attempt steps spins guard refl)) h

-- rounds
pub keeps_rounds : (old new : Option Recording) (room after : Room) (v w : Asked) (k : ℕ) → RecordMakes old v → w.core ≡ core_after v.core (rounds_of v.core.shape k)
    → w.spins ≡ v.spins → w.guard ≡ v.guard → KeepsAction (Rounds k) old room new after → RecordMakes new w
keeps_rounds old new room after v w k h state spins guard kept = keeps_action old new room after v w (Rounds k) h (λ rows. ap Some (rounds_is v w k state spins guard)) kept

-- so many rounds lead on
pub rounds_on : (v w : Asked) (k : ℕ) → w ≡ rounds_made v k → RunsOn v.core w.core (rounds_of v.core.shape k)
rounds_on v w k is = on_after v.core w.core k (ap (λ (x : Asked). x.core) is)

pub keeps_round : (old new : Option Recording) (room after : Room) (v w : Asked) → RecordMakes old v → w.core ≡ core_after v.core (round v.core.shape) → w.spins ≡ v.spins → w.guard ≡ v.guard
    → KeepsAction (Rounds 1) old room new after → RecordMakes new w
keeps_round old new room after v w h state spins guard kept =
    keeps_rounds old new room after v w 1 h (state ∙ ap (core_after v.core) (sym (append-nil (round v.core.shape)))) spins guard kept

-- a clocked round, which is kept by its turn
pub keeps_clocked : (old new : Option Recording) (room after : Room) (v w : Asked) (turn : ℕ) → 1 ≤ dims_of v.core.shape → dims_of v.core.shape ≤ 3
    → RecordMakes old v → w.core ≡ core_after v.core (clocked_round v.core turn) → w.spins ≡ v.spins → w.guard ≡ v.guard
    → KeepsAction (one_turned turn) old room new after → RecordMakes new w
keeps_clocked old new room after v w turn low high h state spins guard kept =
    keeps_action old new room after v w (one_turned turn) h
    (λ rows. ap Some (clocked_is v w turn (turn_behind (turn % turns_told) 0) (same_input turn (dims_of v.core.shape) low high) state spins guard)) kept

-- clocked rounds
pub keeps_clocked_rounds : (old new : Option Recording) (room after : Room) (v w : Asked) (k : ℕ) → RecordMakes old v → w.core ≡ core_after v.core (clocked_rounds v.core k)
    → w.spins ≡ v.spins → w.guard ≡ v.guard → KeepsAction (ClockedRounds k) old room new after → RecordMakes new w
keeps_clocked_rounds old new room after v w k h state spins guard kept =
    keeps_action old new room after v w (ClockedRounds k) h (λ rows. ap Some (clocked_rounds_are v w k state spins guard)) kept

-- fair rounds
pub keeps_fair : (old new : Option Recording) (room after : Room) (v w : Asked) (k : ℕ) → RecordMakes old v → w ≡ fair_rounds_made v k
    → KeepsAction (FairRounds k) old room new after → RecordMakes new w
keeps_fair old new room after v w k h is kept = keeps_action old new room after v w (FairRounds k) h (λ rows. ap Some (sym is)) kept

-- a line
line_more : (k : Option Recording) (v : Asked) (p : ℕ) (first : ScriptLine) → RecordMakes k v → HasLineNumber k → refused v.core p first ≡ None
    → RecordMakes (option_map (with_row p first) k) (with_line v p first)
line_more None v p first h few none = tt
line_more (Some r) v p first h few none = made_line r p first v few h none

kept_line : (old new : Option Recording) (room after : Room) (v w : Asked) (p : ℕ) (first : ScriptLine) → RecordMakes old v → refused v.core p first ≡ None
    → with_line v p first ≡ w → KeepsRow p first old room new after → RecordMakes new w
kept_line old new room after v w p first h none is (inl kept) =
    subst (λ (k : Option Recording). RecordMakes k w) (sym kept.1)
    (subst (λ (x : Asked). RecordMakes (option_map (with_row p first) old) x) is (line_more old v p first h kept.0 none))
kept_line old new room after v w p first h none is (inr ended) = subst (λ (k : Option Recording). RecordMakes k w) (sym ended.1) tt

pub keeps_line : (old new : Option Recording) (room after : Room) (v w : Asked) (p : ℕ) (first : ScriptLine) → RecordMakes old v → refused v.core p first ≡ None
    → w.core ≡ handed v.core p first → w.spins ≡ spins_with v.spins p first → w.guard ≡ v.guard → KeepsRow p first old room new after → RecordMakes new w
keeps_line old new room after v w p first h none core spins guard kept =
    kept_line old new room after v w p first h none (λ i. record { core = sym core i; spins = sym spins i; guard = sym guard i }) kept
