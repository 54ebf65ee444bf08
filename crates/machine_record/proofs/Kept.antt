-- What is kept of what is done, and where a record ends.
use Rattle.std.proofs.Common.{◌≡◌, ◌⊎◌, inl, inr, ◌≤◌, ◌<◌, ℕ, true, false, length, Option, Some, None, refl, ap, subst, vec_capacity, vec_len}
use Rattle.script_lines.specs.declared.line.Line.{Line as ScriptLine}
use Rattle.machine_record.specs.declared.action.Action.{Action}
use Rattle.machine_record.specs.declared.record.Record.{Record}
use Rattle.machine_record.specs.Action.{is_narrow, joined_last}
use Rattle.machine_record.specs.Machine.{HasNoLessRoom, with_action, with_row}
use Rattle.machine_record.specs.MachineInside.{KeepsRowWithin, KeepsWithin}
use Rattle.machine_record.specs.Recorded.{recording_of, room_of}

-- an action, where nothing is kept
pub keeps_none : (A : Type 0) (a : Action) → KeepsWithin {A = A} a None None
keeps_none A a = inr (inr tt, refl)

-- where it is put
pub keeps_put : {A : Type 0} (a : Action) (old new : Record A) → is_narrow a ≡ true
    → recording_of new ≡ with_action a (recording_of old) → HasNoLessRoom (room_of (Some old)) (room_of (Some new))
    → KeepsWithin {A = A} a (Some old) (Some new)
keeps_put a old new narrow is room = inl (narrow, ap Some is, room)

-- where no number names it
pub ends_wide : {A : Type 0} (a : Action) (old : Option (Record A)) → is_narrow a ≡ false → KeepsWithin {A = A} a old None
ends_wide a old wide = inr (inl wide, refl)

-- where it isn't put
pub ends_full : {A : Type 0} (a : Action) (old : Record A)
    → (is_narrow a ≡ false) ⊎ ((joined_last old.actions.items a ≡ None) × (vec_capacity old.actions ≤ vec_len old.actions))
    → KeepsWithin {A = A} a (Some old) None
ends_full a old (inl wide) = ends_wide a (Some old) wide
ends_full a old (inr full) = inr (inr (full.0, subst (λ (n : ℕ). vec_capacity old.actions ≤ n) old.actions.ok.0 full.1), refl)

-- what is kept of a line that a processor was handed, where there is no record: nothing
pub keeps_no_row : (A : Type 0) (p : ℕ) (line : ScriptLine) → KeepsRowWithin {A = A} p line None None
keeps_no_row A p line = inr (tt, refl)

pub keeps_row : {A : Type 0} (p : ℕ) (line : ScriptLine) (old new : Record A) → length old.rows.items < 268435456
    → recording_of new ≡ with_row p line (recording_of old) → HasNoLessRoom (room_of (Some old)) (room_of (Some new))
    → KeepsRowWithin {A = A} p line (Some old) (Some new)
keeps_row p line old new few is room = inl (few, ap Some is, room)

pub ends_at_row : {A : Type 0} (p : ℕ) (line : ScriptLine) (old : Record A)
    → (268435456 ≤ vec_len old.rows) ⊎ (vec_capacity old.rows ≤ vec_len old.rows) ⊎ (vec_capacity old.actions ≤ vec_len old.actions)
    → KeepsRowWithin {A = A} p line (Some old) None
ends_at_row p line old (inl many) = inr (inl (subst (λ (n : ℕ). 268435456 ≤ n) old.rows.ok.0 many), refl)
ends_at_row p line old (inr (inl full)) = inr (inr (inl (subst (λ (n : ℕ). vec_capacity old.rows ≤ n) old.rows.ok.0 full)), refl)
ends_at_row p line old (inr (inr full)) = inr (inr (inr (subst (λ (n : ℕ). vec_capacity old.actions ≤ n) old.actions.ok.0 full)), refl)
