use Rattle.std.proofs.Common.{◌≡◌, ⊎_elim, ℕ, true, refl, sym, ap, ◌∙◌, subst, arith}
use Rattle.std.specs.Prelude.{◌<◌, ◌≤◌}
use Rattle.std.proofs.lemmas.Bool.{cases_lt}
use Rattle.core_laws.specs.Routers.{PortFlags}
use Rattle.machine_parts.specs.Awake.{Awake, is_choice_awake}
use Rattle.machine_parts.specs.Ports.{flags_of}
use Rattle.machine_parts.proofs.KeptSleepers.{every_choice}
use Rattle.fabric_rule.specs.Counted.{AreRight}
use Rattle.fabric_rule.proofs.Counting.{roused_right}
use Rattle.fabric_rule.proofs.Filling.{no_tile}
use Rattle.fabric_rule.proofs.seat_flags.SeatFlags.rouse.Goals as goal

pub returns : goal.returns
returns g c =
    let e = c.fill_tiles.ensures in
    let woken = sym c.rouse_all-2.ensures.flags in
    record {
      right = λ load run now gs more right wider.
          roused_right load run now gs more _ _ (subst (AreRight load run gs) (sym c.self.view_is) right) wider
          (ap (λ (w : Awake). w.design) c.rouse_all.ensures) (e.design ∙ c.rouse_all-2.ensures.design)
          (λ k z. ap (λ (w : Awake). is_choice_awake w k z) c.rouse_all.ensures ∙ every_choice c.self.inside.awake k z)
          (λ t i. e.takes t i (subst (λ (f : PortFlags). f.takes t i ≡ true) woken refl))
          (λ t i. e.puts t i (subst (λ (f : PortFlags). f.puts t i ≡ true) woken refl))
          (λ t o. e.credits t o (subst (λ (f : PortFlags). f.credits t o ≡ true) woken refl))
          (λ t i. ⊎_elim (λ (low : t < 64). e.filled t i (omega arith) low) (λ (past : 64 ≤ t). no_tile c.fill_tiles.new.ports.full t i past) (cases_lt t 64))
          refl refl;
    }
