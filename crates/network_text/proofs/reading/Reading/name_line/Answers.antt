-- The line gives what its numbers do.
use Rattle.std.proofs.Common.{inr, sym, ◌∙◌, ap}
use Rattle.std.specs.Prelude.{Err}
use Rattle.std.proofs.lemmas.Result.{err_from_is_err_and}
use Rattle.network_text.specs.Network.{after_name}
use Rattle.network_text.specs.Reading.{reading_of}
use Rattle.network_text.proofs.Behind.{numbers_taken}
use Rattle.network_text.proofs.reading.Reading.name_line.Goals as goal

pub returns-in_err-channel-clause-value : goal.returns-in_err-channel-clause-value
returns-in_err-channel-clause-value g c =
    let p = err_from_is_err_and c.from_residual.result c.from_residual.ensures.1 in
    rw p.1 (inr
    (c.in_err-channel.ensures.reason (after_name (reading_of c.args.self.now)) ∙ ap Err (sym p.2)))

pub returns-in_err-channel-clause-read : goal.returns-in_err-channel-clause-read
returns-in_err-channel-clause-read g c =
    let p = err_from_is_err_and c.from_residual.result c.from_residual.ensures.1 in
    rw p.1 tt

pub take_name-requires : goal.take_name-requires
take_name-requires g c = c.requires

pub returns-clause-value : goal.returns-clause-value
returns-clause-value g c =
    numbers_taken (reading_of c.take_name.new.self) _ _ c.take_name.result
    (c.in_ok-channel.ensures.number (after_name (reading_of c.args.self.now))) c.take_name.ensures.value

pub returns-clause-read : goal.returns-clause-read
returns-clause-read g c = c.take_name.ensures.read
