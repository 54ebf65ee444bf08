-- The three parts of the table are written one after the other.
use Rattle.std.specs.Prelude.{◌++◌, flat_map, map}
use Rattle.std.proofs.Common.{ap, refl, ◌∙◌}
use Rattle.std.proofs.lemmas.Grind.{put_three}
use Rattle.command_line.specs.Printed.{apart_text, common_text, program_text}
use Rattle.command_line.specs.Table.{common_words}
use Rattle.command_line.specs.TableRows.{named_command}
use Rattle.command_line.proofs.table.CommandTableDisplay.fmt.Goals as goal

pub returns-clause-writes : goal.returns-clause-writes
returns-clause-writes g c = λ plain ok.
    let first = c.in_ok-put_about.ensures plain refl in
    let second = c.in_ok-put_common.ensures first.plain refl in
    let third = c.put_rows.ensures second.plain ok in
    put_three _ _ _ _ _ _ _ _ _ first second third
    (ap (λ words. program_text ++ flat_map common_text words ++ flat_map apart_text (map named_command c.commands.result.now)) c.common_words.ensures
    ∙ ap (λ rows. program_text ++ flat_map common_text common_words ++ flat_map apart_text rows) c.commands.ensures)
