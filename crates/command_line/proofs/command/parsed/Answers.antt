-- The command that was put together is that of the specification.
use Rattle.std.specs.Prelude.{map}
use Rattle.command_line.proofs.Apps.{fails_by_app, fits_app, matches_of_app}
use Rattle.command_line.proofs.command.parsed.Goals as goal

pub returns-clause-matches : goal.returns-clause-matches
returns-clause-matches g c = matches_of_app c.try_get_matches_from_mut.result _ _ _ (map g.S.AsStr.text c.args.words.now)
    c.in_ok-command.ensures.0 c.try_get_matches_from_mut.ensures.ok

pub returns-clause-parser : goal.returns-clause-parser
returns-clause-parser g c = fails_by_app c.try_get_matches_from_mut.result _ (map g.S.AsStr.text c.args.words.now)
    c.in_ok-command.ensures.0 c.try_get_matches_from_mut.ensures.kinds

pub returns-clause-fits : goal.returns-clause-fits
returns-clause-fits g c = fits_app c.try_get_matches_from_mut.result _ (map g.S.AsStr.text c.args.words.now)
    c.in_ok-command.ensures.0 c.try_get_matches_from_mut.ensures.kinds
