use Rattle.std.proofs.Common.{◌≡◌}
use Rattle.network_text.specs.Lines.{first_lines}
use Rattle.network_text.specs.ChoosingRead.{choosing_text_of}
use Rattle.network_text.specs.ChoiceLists.{block_toward}
use Rattle.network_text.specs.Tiles.{IsTile}
use Rattle.network_text.proofs.choosing.Choosing.choices.Given as goal

abbrev pub invariant-loop-to : goal.invariant-loop-to
invariant-loop-to g l = record {
  put : l.out.items ≡ first_lines (block_toward (choosing_text_of l.self)) l.to;
  tile : IsTile (choosing_text_of l.self) l.tile;
}
