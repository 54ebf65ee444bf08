-- The line gives what its numbers do.
use Rattle.std.proofs.Common.{inr, sym, ◌∙◌, ap}
use Rattle.std.specs.Prelude.{Err}
use Rattle.std.proofs.lemmas.Result.{err_from_is_err_and}
use Rattle.network_text.specs.Network.{after_length}
use Rattle.network_text.specs.Reading.{reading_of}
use Rattle.network_text.proofs.Behind.{numbers_taken}
use Rattle.network_text.proofs.reading.Reading.length_line.Goals as goal

pub returns-in_err-flits-clause-value : goal.returns-in_err-flits-clause-value
returns-in_err-flits-clause-value g c =
    let p = err_from_is_err_and c.from_residual.result c.from_residual.ensures.1 in
    rw p.1 (inr
    (c.in_err-flits.ensures.reason (after_length (reading_of c.args.self.now)) ∙ ap Err (sym p.2)))

pub returns-in_err-flits-clause-read : goal.returns-in_err-flits-clause-read
returns-in_err-flits-clause-read g c =
    let p = err_from_is_err_and c.from_residual.result c.from_residual.ensures.1 in
    rw p.1 tt

pub take_length-requires : goal.take_length-requires
take_length-requires g c = c.requires

pub returns-clause-value : goal.returns-clause-value
returns-clause-value g c =
    numbers_taken (reading_of c.take_length.new.self) _ _ c.take_length.result
    (c.in_ok-flits.ensures.number (after_length (reading_of c.args.self.now))) c.take_length.ensures.value

pub returns-clause-read : goal.returns-clause-read
returns-clause-read g c = c.take_length.ensures.read
