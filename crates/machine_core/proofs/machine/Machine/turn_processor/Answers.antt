use Rattle.std.proofs.Common.{◌≡◌, ◌*◌, List, [], ◌∷◌, refl, sym, ◌∙◌, subst, arith}
use Rattle.torus.specs.Choices.{processor_choices}
use Rattle.torus.specs.declared.step.Step.{Step}
use Rattle.torus.specs.declared.step.Choice.{Choice}
use Rattle.torus.specs.declared.step.Choice.TheVariants.{Send, Take, Credit, Done, Look}
use Rattle.machine_parts.specs.Core.{attempts_of}
use Rattle.machine_parts.specs.Machine.{Core, core_after}
use Rattle.machine_core.proofs.Standing.{few_tiles}
use Rattle.machine_core.proofs.Agents.{tile_within}
use Rattle.machine_core.proofs.Rounds.{attempt_more, tile_stays_once}
use Rattle.machine_core.proofs.Sleeping.{choices_slept}
use Rattle.machine_core.proofs.machine.Machine.turn_processor.Goals as goal

pub is_processor_awake-requires : goal.is_processor_awake-requires
is_processor_awake-requires g c =
    let few = few_tiles c.self.inside c.self.invariant in
    let long = c.self.inside.tiles.ok.0 in
    let low = tile_within c.self.inside c.self.invariant c.args.self.now c.self.view_is c.args.tile c.requires in
    omega (arith, few, long, low)

-- one of which no choice counts as awake changes nothing
pub returns-then-not-is_processor_awake : goal.returns-then-not-is_processor_awake
returns-then-not-is_processor_awake g c =
    subst (λ (x : Core). x ≡ core_after x (attempts_of (3 * c.args.tile) processor_choices)) c.self.view_is
    (choices_slept c.self.inside c.self.invariant (3 * c.args.tile) processor_choices (sym c.is_processor_awake.ensures ∙ c.if-not-is_processor_awake.true))

pub returns : goal.returns
returns g c =
    let start : Core = c.args.self.now in
    let of : List Choice → List Step = attempts_of (3 * c.args.tile) in
    let with : Choice → Step = λ choice. record { agent = 3 * c.args.tile; choice = choice } in
    let after_1 = attempt_more start start c.try_processor.new.self [] (with Send) refl c.try_processor.ensures in
    let after_2 = attempt_more start c.try_processor.new.self c.try_processor-2.new.self (of (Send ∷ [])) (with Take) after_1 c.try_processor-2.ensures in
    let after_3 = attempt_more start c.try_processor-2.new.self c.try_processor-3.new.self (of (Send ∷ Take ∷ []))
    (with Credit) after_2 c.try_processor-3.ensures in
    let after_4 = attempt_more start c.try_processor-3.new.self c.try_processor-4.new.self (of (Send ∷ Take ∷ Credit ∷ []))
    (with Done) after_3 c.try_processor-4.ensures in
    attempt_more start c.try_processor-4.new.self c.try_processor-5.new.self (of (Send ∷ Take ∷ Credit ∷ Done ∷ []))
    (with Look) after_4 c.try_processor-5.ensures

-- the tile is there at each of them
pub try_processor-requires-2-clause-tile : goal.try_processor-requires-2-clause-tile
try_processor-requires-2-clause-tile g c =
    tile_stays_once c.args.tile c.args.self.now c.try_processor.new.self (record { agent = 3 * c.args.tile; choice = Send }) c.try_processor.ensures c.requires

pub try_processor-requires-3-clause-tile : goal.try_processor-requires-3-clause-tile
try_processor-requires-3-clause-tile g c =
    let low_1 = tile_stays_once c.args.tile c.args.self.now c.try_processor.new.self (record { agent = 3 * c.args.tile; choice = Send })
    c.try_processor.ensures c.requires in
    tile_stays_once c.args.tile c.try_processor.new.self c.try_processor-2.new.self (record { agent = 3 * c.args.tile; choice = Take })
    c.try_processor-2.ensures low_1

pub try_processor-requires-4-clause-tile : goal.try_processor-requires-4-clause-tile
try_processor-requires-4-clause-tile g c =
    let low_1 = tile_stays_once c.args.tile c.args.self.now c.try_processor.new.self (record { agent = 3 * c.args.tile; choice = Send })
    c.try_processor.ensures c.requires in
    let low_2 = tile_stays_once c.args.tile c.try_processor.new.self c.try_processor-2.new.self (record { agent = 3 * c.args.tile; choice = Take })
    c.try_processor-2.ensures low_1 in
    tile_stays_once c.args.tile c.try_processor-2.new.self c.try_processor-3.new.self (record { agent = 3 * c.args.tile; choice = Credit })
    c.try_processor-3.ensures low_2

pub try_processor-requires-5-clause-tile : goal.try_processor-requires-5-clause-tile
try_processor-requires-5-clause-tile g c =
    let low_1 = tile_stays_once c.args.tile c.args.self.now c.try_processor.new.self (record { agent = 3 * c.args.tile; choice = Send })
    c.try_processor.ensures c.requires in
    let low_2 = tile_stays_once c.args.tile c.try_processor.new.self c.try_processor-2.new.self (record { agent = 3 * c.args.tile; choice = Take })
    c.try_processor-2.ensures low_1 in
    let low_3 = tile_stays_once c.args.tile c.try_processor-2.new.self c.try_processor-3.new.self (record { agent = 3 * c.args.tile; choice = Credit })
    c.try_processor-3.ensures low_2 in
    tile_stays_once c.args.tile c.try_processor-3.new.self c.try_processor-4.new.self (record { agent = 3 * c.args.tile; choice = Done })
    c.try_processor-4.ensures low_3
