use Rattle.std.proofs.Common.{◌≡◌, ℕ, ◌+◌, ◌*◌, refl, ◌∙◌, ap, arith}
use Rattle.torus.specs.declared.step.Choice.TheVariants.{TakeFrom}
use Rattle.machine_parts.specs.Core.{attempts_of}
use Rattle.machine_parts.specs.Machine.{core_after}
use Rattle.torus.specs.Choices.{takes_of_all}
use Rattle.machine_core.proofs.Rounds.{tile_stays}
use Rattle.machine_core.proofs.Skips.{further}
use Rattle.machine_core.proofs.machine.Machine.attempt_takes.Goals as goal

pub loop-from-init : goal.loop-from-init
loop-from-init g c = record { made = refl; within = omega arith }

pub loop-from-preserved : goal.loop-from-preserved
loop-from-preserved g c =
    let later = c.attempt_take-from.ensures.later in
    record {
      made = further (λ (k : ℕ). TakeFrom k) (3 * c.args.tile + 1) c.args.self.now c.loop-from.self c.attempt_take-from.new.self c.loop-from.from
          c.attempt_take-from.result (omega (arith, later)) c.loop-from.invariant.made c.attempt_take-from.ensures.state;
      within = c.attempt_take-from.ensures.within;
    }

pub attempt_take-from-requires-clause-tile : goal.attempt_take-from-requires-clause-tile
attempt_take-from-requires-clause-tile g c =
    tile_stays c.args.tile c.args.self.now c.loop-from.self (attempts_of (3 * c.args.tile + 1) (takes_of_all c.loop-from.from)) c.loop-from.invariant.made
    c.requires.tile

pub returns : goal.returns
returns g c =
    let within = c.loop-from.invariant.within in
    let e : c.loop-from.from ≡ c.args.ports = omega (arith, within) in
    c.loop-from.invariant.made ∙ ap (λ (n : ℕ). core_after c.args.self.now (attempts_of (3 * c.args.tile + 1) (takes_of_all n))) e
