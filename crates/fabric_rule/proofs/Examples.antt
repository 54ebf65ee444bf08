-- Worked seats on two tiles, against the definitions.
use Rattle.std.proofs.Common.{◌≡◌, ℕ, true, false, List, [], ◌∷◌, refl, replicate}
use Rattle.torus.specs.declared.step.Step.{Step}
use Rattle.torus.specs.declared.step.Choice.TheVariants.{Done, TakeFrom}
use Rattle.one_order.specs.Following.{first_of, is_finished}
use Rattle.tile.specs.Agents.{TilePlace, tile_placed}
use Rattle.core_laws.specs.Core.{Load, design_of, first_state, first_tile}
use Rattle.fabric_rule.specs.View.{View, blank}
use Rattle.fabric_rule.specs.Known.{row_length, word_after, moves}
use Rattle.fabric_rule.specs.Told.{made}
use Rattle.fabric_rule.specs.Groups.{longer, both}

-- two tiles with eight words, and empty scripts
abbrev load : Load
load = record {
  shape = record { radices = 2 ∷ []; datelines = 1 ∷ [] };
  depth = 4;
  tags = 4;
  opening = replicate 8 0;
  scripts = [] ∷ [] ∷ [];
}

-- 96 places, eight words and the done word
row_is_as_long : row_length load ≡ 105
row_is_as_long = refl

-- processor 0 reports: the done word, which stands behind the eight words, is 1
abbrev report : Step
report = record { agent = 0; choice = Done }

done_word : word_after load (report ∷ []) 8 ≡ 1
unfolding word_after first_of is_finished
done_word = refl

-- a router takes the flit that it finds, and takes none from an empty place
abbrev place : TilePlace
place = tile_placed (design_of load) 0 (first_tile 1 4 []) (first_state load).around

abbrev take : Step
take = record { agent = 1; choice = TakeFrom 8 }

router_takes_a_flit : moves place take 11819697222033866752 ≡ true
unfolding moves
router_takes_a_flit = refl

router_takes_no_flit : moves place take 0 ≡ false
unfolding moves
router_takes_no_flit = refl

-- an attempt that doesn't move is left out of the run
idle_is_left_out : made false report ≡ []
idle_is_left_out = refl

-- of two runs the seat that takes in another one knows the longer
longer_is_known : longer [] (report ∷ []) ≡ report ∷ []
longer_is_known = refl

-- and it has the tiles of both
abbrev seat : ℕ → List Step → View
seat tile known = record { live = true; load = load; run = known; groups = (tile ∷ []) ∷ []; told = [] }

tiles_of_both : (both (seat 0 (report ∷ [])) (seat 1 [])).groups ≡ (0 ∷ []) ∷ (1 ∷ []) ∷ []
tiles_of_both = refl

-- the seat that was taken in is gone
taken_in_is_gone : blank.live ≡ false
taken_in_is_gone = refl
