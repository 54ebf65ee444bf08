use Rattle.script_lines.specs.declared.line.Line.TheVariants as line
use Rattle.std.proofs.Common.{ap, List}
use Rattle.core_laws.specs.Appended.{tile_with}
use Rattle.core_laws.specs.Tile.{TileState}
use Rattle.core_laws.proofs.Places.{changed_is}
use Rattle.core_laws.proofs.GrowthSteps.{grown_step, same_event, unreported_with}
use Rattle.core_laws.proofs.Loads.{state_first}
use Rattle.core_laws.proofs.growth_laws.states_take_lines.Goals as goal

pub returns : goal.returns
returns n = record {
  tile = λ s p line tile h. ap (λ (ts : List TileState). record { tiles = ts; around = s.around })
      (changed_is (tile_with line) s.tiles p tile h);
  first = state_first;
  step = λ d s t p line attempt h un. (grown_step d s line attempt p t h un).step;
  event = λ d s t p line attempt h un. same_event d s line attempt p t (grown_step d s line attempt p t h un);
  before = λ d s t p attempt h un. (grown_step d s line.Fence attempt p t h un).unreported;
  unreported = unreported_with;
}
