use Rattle.std.proofs.Common.{rules}
use Rattle.std.specs.Prelude.{Option, is_some}
use Rattle.std.proofs.lemmas.Iterator.{YieldsList-from_slice}
use Rattle.std.proofs.lemmas.Iterator.Search.{all_from_yields_List}
use Rattle.std.proofs.Common.{◌∙◌}
use Rattle.fabric_rule.specs.Placed.{PlacedTile}
use Rattle.fabric.proofs.EndsShown.{whole_told}
use Rattle.fabric.proofs.seats.TileSeat.is_whole.Goals as goal

pub returns : goal.returns
returns g c = whole_told c.self.inside.slots.items c.self.inside.seat _ c.self.view_is c.self.invariant.0 c.all.result
    (all_from_yields_List (λ (o : Option PlacedTile). is_some o) _ _ c.all.result c.all.ensures.ran
    (YieldsList-from_slice c.self.inside.slots.items (c.iter.ensures.rest ∙ c.deref.ensures.value)) (λ x b q k. search rules))
