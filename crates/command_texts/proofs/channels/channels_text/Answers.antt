-- The numbers rise, so what was put is the text of the channels; where the output failed, a beginning of it.
use Rattle.std.proofs.lemmas.Result.{err_from_is_err_and}
use Rattle.std.specs.Str.Lines.{lines}
use Rattle.command_texts.proofs.Numbers.{channels_printed}
use Rattle.command_texts.proofs.channels.channels_text.Goals as goal

pub returns-in_err-put_numbers : goal.returns-in_err-put_numbers
returns-in_err-put_numbers g c =
    let p = err_from_is_err_and c.from_residual-in_err-put_numbers.result c.from_residual-in_err-put_numbers.ensures.1 in
    let put = c.in_err-put_numbers.ensures in
    rw (p.1, p.2) (
      tt,
      (
        put.0,
        channels_printed (lines c.args.machine.now) c.in_ok-machine.machine c.torus-torus.result.now c.in_ok-numbers.numbers.items c.deref.result.now put.0
            c.in_ok-machine.ensures c.torus-torus.ensures.value c.deref.ensures.value c.in_ok-numbers.ensures.numbers c.in_ok-numbers.ensures.rise put.1,
        put.2,
      ),
    )

pub returns : goal.returns
returns g c =
    let put = c.in_ok-put_numbers.ensures in (
      put.0,
      channels_printed (lines c.args.machine.now) c.in_ok-machine.machine c.torus-torus.result.now c.in_ok-numbers.numbers.items c.deref.result.now put.0
          c.in_ok-machine.ensures c.torus-torus.ensures.value c.deref.ensures.value c.in_ok-numbers.ensures.numbers c.in_ok-numbers.ensures.rise put.1,
      put.2,
    )
