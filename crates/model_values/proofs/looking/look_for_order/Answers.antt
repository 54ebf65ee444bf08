use Rattle.std.proofs.Common.{refl}
use Rattle.model_values.proofs.Looked.{breaks_path}
use Rattle.model_values.proofs.looking.look_for_order.Goals as goal

pub returns-in-Breaks : goal.returns-in-Breaks
returns-in-Breaks g c = breaks_path {A = g.row.A.Denot} c.args.rules.now c.args.valued.now c.args.path.now c.args.sources.now _ _ _ c.in-Breaks.is
    (record { by = refl; operations = refl; chosen = refl; words = refl; openings = refl; closing = refl }) c.requires.chosen c.requires.left
    c.in_ok-explanation.ensures
