-- A machine that is handed a line: the choices that don't count as awake are asleep in it.
use Rattle.std.proofs.Common.{◌≡◌, ℕ, ◌*◌, Bool, true, false, List, sym, ◌∙◌, ap, if◌then◌else◌}
use Rattle.std.specs.Prelude.{option_map}
use Rattle.torus.specs.declared.step.Step.{Step}
use Rattle.script_lines.specs.declared.line.Line.{Line}
use Rattle.machine_parts.specs.Placed.{PlacedTile}
use Rattle.machine_parts.specs.Core.{State}
use Rattle.machine_parts.specs.Machine.{Core, built_to}
use Rattle.machine_parts.specs.Appended.{state_with, appended}
use Rattle.machine_parts.proofs.GrowthReports.{others_step}
use Rattle.machine_parts.specs.Reopened.{reopened}
use Rattle.machine_parts.specs.Handed.{handed, has_reported}
use Rattle.machine_parts.specs.ChoicesAsleep.{OtherChoicesSleep}
use Rattle.machine_parts.specs.Awake.{Awake, is_choice_awake, roused}
use Rattle.machine_parts.proofs.KeptSleepers.{choice_roused, every_choice}
use Rattle.machine_parts.specs.Grown.{tiles_given, AreAsReported}

module _ (c : Core) (p : ℕ) (line : Line) (home : ℕ) (tiles new_tiles : List PlacedTile) (row new_row : List ℕ) (awake new_awake : Awake) (taken : ℕ) where
  abbrev AreNow : Bool → Type 0
  AreNow b = AreAsReported (tiles_given line p home tiles) new_tiles row new_row awake new_awake taken b

  abbrev next : Bool → Core
  next b = appended (if b then reopened c else c) p line

  asleep_by : (b : Bool) → AreNow b → OtherChoicesSleep (built_to c) c.state (is_choice_awake awake)
      → OtherChoicesSleep (built_to c) (next b).state (is_choice_awake (roused new_awake (3 * p)))
  asleep_by true now sleep agent choice out =
      let k = choice_roused new_awake (3 * p) agent choice out in
      let clash : ◌≡◌ {A = Bool} true false =
      sym (every_choice awake agent choice) ∙ (ap (λ (w : Awake). is_choice_awake w agent choice) (sym now.awake_is) ∙ k.1) in
      absurd (cc)
  asleep_by false now sleep agent choice out =
      let k = choice_roused new_awake (3 * p) agent choice out in
      let attempt : Step = record { agent = agent; choice = choice } in
      let asleep = sleep agent choice (ap (λ (w : Awake). is_choice_awake w agent choice) (sym now.awake_is) ∙ k.1) in
      others_step (built_to c) c.state attempt line p k.0 ∙ ap (option_map (λ (t : State). state_with t p line)) asleep

  pub choices_handed : AreNow (has_reported c.state p) → OtherChoicesSleep (built_to c) c.state (is_choice_awake awake)
      → OtherChoicesSleep (built_to c) (handed c p line).state (is_choice_awake (roused new_awake (3 * p)))
  choices_handed now = asleep_by (has_reported c.state p) now
