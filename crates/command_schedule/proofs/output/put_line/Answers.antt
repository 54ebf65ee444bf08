use Rattle.std.proofs.Common.{◌∙◌}
use Rattle.command_schedule.proofs.Outputs.{took_by, took_same}
use Rattle.command_schedule.proofs.output.put_line.Goals as goal

pub returns : goal.returns
returns g c =
    took_same _ _ c.as_bytes.result.now _ c.put_all.result (c.as_bytes.ensures.value ∙ c.as_str.ensures.value ∙ c.line_of.ensures)
    (took_by _ _ c.as_bytes.result.now c.put_all.result c.put_all.ensures.ok c.put_all.ensures.err c.put_all.ensures.quiet c.put_all.ensures.failed)
