use Rattle.std.proofs.Common.{refl}
use Rattle.model_values.proofs.Looked.{refuted_if}
use Rattle.model_values.proofs.looking.is_refuted_by.Goals as goal

pub returns : goal.returns
returns g c = refuted_if c.args.rules.now c.args.valued.now c.args.path.now c.args.likely.now.depth c.in_ok-sources.sources.items _ c.is_refuted.result
    (record { by = refl; operations = refl; chosen = c.deref.ensures.value; words = refl; openings = refl; closing = refl })
    c.in_ok-sources.ensures c.is_refuted.ensures
