use Rattle.std.proofs.Common.{◌≡◌, ◌-◌}
use Rattle.network_text.specs.Choosing.{free_layer}
use Rattle.network_text.specs.ChoosingRead.{choosing_text_of}
use Rattle.network_text.proofs.choosing.Choosing.place_for.Given as goal

-- the layers so far have another choice at the place
abbrev pub invariant-loop-layer : goal.invariant-loop-layer
invariant-loop-layer g l =
    free_layer (choosing_text_of l.self) l.cell l.choice l.layer (l.self.layers - l.layer) ≡ free_layer (choosing_text_of l.self) l.cell l.choice 0 l.self.layers
