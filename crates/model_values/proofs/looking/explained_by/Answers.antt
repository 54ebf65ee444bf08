use Rattle.std.proofs.Common.{refl}
use Rattle.model_values.proofs.Looked.{explained_ok, left_where}
use Rattle.model_values.proofs.looking.explained_by.Goals as goal

pub returns : goal.returns
returns g c = explained_ok {A = g.row.A.Denot} c.args.rules.now c.args.valued.now c.args.sources.now _ c.explained.result
    (record { by = refl; operations = refl; chosen = refl; words = refl; openings = refl; closing = refl })
    (left_where c.args.valued.now c.args.sources.now c.find_open.result c.is_some.result c.is_some.ensures c.if-is_some.false c.find_open.ensures.none)
    c.explained.ensures
