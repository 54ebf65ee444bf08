use Rattle.std.proofs.Common.{◌≡◌, ◌+◌, ◌*◌, List, [], ◌∷◌, refl, sym, ◌∙◌, subst, arith}
use Rattle.torus.specs.Choices.{bank_choices}
use Rattle.torus.specs.declared.step.Step.{Step}
use Rattle.torus.specs.declared.step.Choice.{Choice}
use Rattle.torus.specs.declared.step.Choice.TheVariants.{Take, Serve, Send, Credit}
use Rattle.machine_parts.specs.Core.{attempts_of}
use Rattle.machine_parts.specs.Machine.{Core, core_after}
use Rattle.machine_core.proofs.Standing.{few_tiles}
use Rattle.machine_core.proofs.Agents.{tile_within}
use Rattle.machine_core.proofs.Rounds.{attempt_more, tile_stays_once}
use Rattle.machine_core.proofs.Sleeping.{choices_slept}
use Rattle.machine_core.proofs.machine.Machine.turn_bank.Goals as goal

pub is_bank_awake-requires : goal.is_bank_awake-requires
is_bank_awake-requires g c =
    let few = few_tiles c.self.inside c.self.invariant in
    let long = c.self.inside.tiles.ok.0 in
    let low = tile_within c.self.inside c.self.invariant c.args.self.now c.self.view_is c.args.tile c.requires in
    omega (arith, few, long, low)

-- one of which no choice counts as awake changes nothing
pub returns-then-not-is_bank_awake : goal.returns-then-not-is_bank_awake
returns-then-not-is_bank_awake g c =
    subst (λ (x : Core). x ≡ core_after x (attempts_of (3 * c.args.tile + 2) bank_choices)) c.self.view_is
    (choices_slept c.self.inside c.self.invariant (3 * c.args.tile + 2) bank_choices (sym c.is_bank_awake.ensures ∙ c.if-not-is_bank_awake.true))

pub returns : goal.returns
returns g c =
    let start : Core = c.args.self.now in
    let of : List Choice → List Step = attempts_of (3 * c.args.tile + 2) in
    let with : Choice → Step = λ choice. record { agent = 3 * c.args.tile + 2; choice = choice } in
    let after_1 = attempt_more start start c.try_bank.new.self [] (with Take) refl c.try_bank.ensures in
    let after_2 = attempt_more start c.try_bank.new.self c.try_bank-2.new.self (of (Take ∷ [])) (with Serve) after_1 c.try_bank-2.ensures in
    let after_3 = attempt_more start c.try_bank-2.new.self c.try_bank-3.new.self (of (Take ∷ Serve ∷ [])) (with Send) after_2 c.try_bank-3.ensures in
    attempt_more start c.try_bank-3.new.self c.try_bank-4.new.self (of (Take ∷ Serve ∷ Send ∷ [])) (with Credit) after_3 c.try_bank-4.ensures

-- the tile is there at each of them
pub try_bank-requires-2-clause-tile : goal.try_bank-requires-2-clause-tile
try_bank-requires-2-clause-tile g c =
    tile_stays_once c.args.tile c.args.self.now c.try_bank.new.self (record { agent = 3 * c.args.tile + 2; choice = Take }) c.try_bank.ensures c.requires

pub try_bank-requires-3-clause-tile : goal.try_bank-requires-3-clause-tile
try_bank-requires-3-clause-tile g c =
    let low_1 = tile_stays_once c.args.tile c.args.self.now c.try_bank.new.self (record { agent = 3 * c.args.tile + 2; choice = Take })
    c.try_bank.ensures c.requires in
    tile_stays_once c.args.tile c.try_bank.new.self c.try_bank-2.new.self (record { agent = 3 * c.args.tile + 2; choice = Serve }) c.try_bank-2.ensures low_1

pub try_bank-requires-4-clause-tile : goal.try_bank-requires-4-clause-tile
try_bank-requires-4-clause-tile g c =
    let low_1 = tile_stays_once c.args.tile c.args.self.now c.try_bank.new.self (record { agent = 3 * c.args.tile + 2; choice = Take })
    c.try_bank.ensures c.requires in
    let low_2 = tile_stays_once c.args.tile c.try_bank.new.self c.try_bank-2.new.self (record { agent = 3 * c.args.tile + 2; choice = Serve })
    c.try_bank-2.ensures low_1 in
    tile_stays_once c.args.tile c.try_bank-2.new.self c.try_bank-3.new.self (record { agent = 3 * c.args.tile + 2; choice = Send }) c.try_bank-3.ensures low_2
