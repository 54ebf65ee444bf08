-- One attempt, and the attempts that are left.
use Rattle.std.proofs.Common.{◌≡◌, ℕ, ◌++◌, List, [], ◌∷◌, Option, Some, None, refl, sym, ap, subst, ◌∙◌, append_assoc, append-nil}
use Rattle.torus.specs.declared.step.Step.{Step}
use Rattle.torus.specs.declared.step.Stepped.{Stepped}
use Rattle.torus.specs.declared.step.Stepped.TheVariants.{Moved, Idle}
use Rattle.core_laws.specs.Core.{State, step}
use Rattle.core_laws.specs.Machine.{Core, built_to, machine_told, core_next, core_after}
use Rattle.core_laws.specs.Enabled.{ahead_if_moved}
use Rattle.core_laws.specs.MachineMoves.{moves_from}
use Rattle.core_laws.proofs.StepLists.{machine_joined}
use Rattle.program_fault.specs.Done.{Output, TookAll, TookFront}
use Rattle.command_schedule.specs.declared.line.ScheduleLine.{ScheduleLine}
use Rattle.command_schedule.specs.Line.{text_of}
use Rattle.command_schedule.specs.Output.{headed, heading_behind}
use Rattle.command_schedule.proofs.Outputs.{took_none, took_then, front_then, front_of_more}
use Rattle.command_schedule.proofs.Headed.{headed_more, headed_none}

moved_by : (x : Step) (o : Option State) (r : Stepped) → r ≡ machine_told o → r ≡ Moved → ahead_if_moved x o [] ≡ x ∷ []
moved_by x None r is moved = absurd (let e : Moved ≡ Idle = sym moved ∙ is in cc)
moved_by x (Some s) r is moved = refl

idle_by : (x : Step) (o : Option State) (r : Stepped) → r ≡ machine_told o → r ≡ Idle → ahead_if_moved x o [] ≡ []
idle_by x None r is idle = refl
idle_by x (Some s) r is idle = absurd (let e : Idle ≡ Moved = sym idle ∙ is in cc)

-- an attempt that moved is a move, and one that didn't is none
pub one_moved : (c : Core) (x : Step) (r : Stepped) → r ≡ machine_told (step (built_to c) c.state x) → r ≡ Moved → moves_from c (x ∷ []) ≡ x ∷ []
one_moved c x r is moved = moved_by x (step (built_to c) c.state x) r is moved

pub one_idle : (c : Core) (x : Step) (r : Stepped) → r ≡ machine_told (step (built_to c) c.state x) → r ≡ Idle → moves_from c (x ∷ []) ≡ []
one_idle c x r is idle = idle_by x (step (built_to c) c.state x) r is idle

-- Of the attempts from a machine some are made and these are left, from the machine now, with a heading
-- that may be still to put; an output took the lines of the moves so far.
pub record HasPut (start : Core) (heading : Option ℕ) (steps : List Step) (old : Output)
    (c : Core) (still : Option ℕ) (left : List Step) (now : Output) : Type 0 where
  pub leads : core_after c left ≡ core_after start steps
  pub text : List ℕ
  pub took : TookAll old now text
  pub whole : text ++ text_of (headed still (moves_from c left)) ≡ text_of (headed heading (moves_from start steps))

-- equal lists of attempts
pub left_as : (start : Core) (heading : Option ℕ) (steps : List Step) (old : Output) (c : Core) (still : Option ℕ) (a b : List Step)
    (now : Output) → a ≡ b → HasPut start heading steps old c still a now → HasPut start heading steps old c still b now
left_as start heading steps old c still a b now is so_far = subst (λ (xs : List Step). HasPut start heading steps old c still xs now) is so_far

module _ (start : Core) (heading : Option ℕ) (steps : List Step) (old : Output)
    (c : Core) (still : Option ℕ) (left : List Step) (now : Output) (so_far : HasPut start heading steps old c still left now)
    (x : Step) (rest : List Step) (next : left ≡ x ∷ rest) (d : Core) (made : d ≡ core_next c x) where
  -- the lines that are left
  left_text : text_of (headed still (moves_from c left))
      ≡ text_of (headed still (moves_from c (x ∷ []))) ++ text_of (headed (heading_behind still (moves_from c (x ∷ []))) (moves_from d rest))
  left_text =
      ap (λ (xs : List Step). text_of (headed still (moves_from c xs))) next
      ∙ ap (λ (xs : List Step). text_of (headed still xs)) (machine_joined c (x ∷ []) rest)
      ∙ headed_more still (moves_from c (x ∷ [])) (moves_from (core_next c x) rest)
      ∙ ap (λ (e : Core). text_of (headed still (moves_from c (x ∷ []))) ++ text_of (headed (heading_behind still (moves_from c (x ∷ []))) (moves_from e rest)))
      (sym made)

  -- one attempt more
  pub put_more : (behind : Output) (then : Option ℕ) → then ≡ heading_behind still (moves_from c (x ∷ []))
      → TookAll now behind (text_of (headed still (moves_from c (x ∷ [])))) → HasPut start heading steps old d then rest behind
  put_more behind then is took =
      let this : List ℕ = text_of (headed still (moves_from c (x ∷ []))) in
      let more : List ℕ = text_of (headed then (moves_from d rest)) in
      record {
        leads = ap (λ (e : Core). core_after e rest) made ∙ (ap (core_after c) (sym next) ∙ so_far.leads);
        text = so_far.text ++ this;
        took = took_then old now behind so_far.text this so_far.took took;
        whole = append_assoc so_far.text this more
            ∙ (ap (λ (t : List ℕ). so_far.text ++ t)
            (ap (λ (h : Option ℕ). this ++ text_of (headed h (moves_from d rest))) is ∙ sym left_text)
            ∙ so_far.whole);
      }

  -- a beginning of one attempt more
  pub put_front : (behind : Output) → TookFront now behind (text_of (headed still (moves_from c (x ∷ []))))
      → TookFront old behind (text_of (headed heading (moves_from start steps)))
  put_front behind took =
      let this : List ℕ = text_of (headed still (moves_from c (x ∷ []))) in
      let more : List ℕ = text_of (headed (heading_behind still (moves_from c (x ∷ []))) (moves_from d rest)) in
      subst (TookFront old behind)
      (append_assoc so_far.text this more ∙ (ap (λ (t : List ℕ). so_far.text ++ t) (sym left_text) ∙ so_far.whole))
      (front_of_more old behind (so_far.text ++ this) more (front_then old now behind so_far.text this so_far.took took))

-- none yet
pub start_put : (start : Core) (heading : Option ℕ) (steps : List Step) (old : Output) → HasPut start heading steps old start heading steps old
start_put start heading steps old = record { leads = refl; text = []; took = took_none old [] refl; whole = refl }

-- all
module _ (start : Core) (heading : Option ℕ) (steps : List Step) (old : Output)
    (c : Core) (still : Option ℕ) (left : List Step) (now : Output) (so_far : HasPut start heading steps old c still left now)
    (end : left ≡ []) where
  pub all_led : c ≡ core_after start steps
  all_led = ap (core_after c) (sym end) ∙ so_far.leads

  pub all_put : TookAll old now (text_of (headed heading (moves_from start steps)))
  all_put =
      subst (TookAll old now)
      (sym (append-nil so_far.text)
      ∙ (ap (λ (ls : List ScheduleLine). so_far.text ++ text_of ls) (sym (ap (λ (xs : List Step). headed still (moves_from c xs)) end ∙ headed_none still))
      ∙ so_far.whole))
      so_far.took
