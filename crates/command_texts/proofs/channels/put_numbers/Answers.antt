-- What was taken of the last line comes behind the lines of the channels; the check says whether there is one.
use Rattle.std.specs.Prelude.{codes}
use Rattle.std.proofs.lemmas.Result.{err_from_is_err_and}
use Rattle.program_fault.specs.Done.{output}
use Rattle.command_texts.specs.Lines.{IsNumbersText, all_lines}
use Rattle.command_texts.proofs.Numbers.{checked_text, last_line, puts_last}
use Rattle.command_texts.proofs.Pieces.{front_of_more}
use Rattle.command_texts.proofs.channels.put_numbers.Goals as goal

pub returns-in_err-put_channels : goal.returns-in_err-put_channels
returns-in_err-put_channels g c =
    let p = err_from_is_err_and c.from_residual.result c.from_residual.ensures.1 in
    rw p.1 (
      _,
      checked_text c.args.torus.now c.args.numbers.now c.check-checked.result c.check-checked.ensures.rising,
      record {
        bytes = front_of_more _ _ _ (last_line c.check-checked.result) c.in_err-put_channels.ensures.err;
        failed = c.in_err-put_channels.ensures.failed;
      },
    )

pub returns-in-Ok : goal.returns-in-Ok
returns-in-Ok g c =
    puts_last (IsNumbersText c.args.torus.now c.args.numbers.now)
    (output (g.W.Out.taken c.args.out.now) (g.W.Out.failures c.args.out.now))
    (output (g.W.Out.taken c.put_channels.new.out) (g.W.Out.failures c.put_channels.new.out))
    (output (g.W.Out.taken c.put_all.new.out) (g.W.Out.failures c.put_all.new.out))
    (all_lines c.args.torus.now c.args.numbers.now) (codes "rising\n") c.put_all.result
    (rw c.in-Ok.is at (checked_text c.args.torus.now c.args.numbers.now c.check-checked.result c.check-checked.ensures.rising))
    (record { bytes = c.in_ok-put_channels.ensures.ok; quiet = c.in_ok-put_channels.ensures.quiet })
    c.put_all.ensures.ok c.put_all.ensures.err c.put_all.ensures.quiet c.put_all.ensures.failed
