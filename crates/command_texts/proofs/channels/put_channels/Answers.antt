-- What was taken of a line comes behind the lines before it.
use Rattle.std.proofs.Common.{◌≡◌, ◌<◌, ◌+◌, ◌*◌, ◌/◌, ◌%◌, ℕ, arith, ◌∙◌, ap, subst, get_or}
use Rattle.std.proofs.lemmas.Result.{err_from_is_err_and}
use Rattle.std.specs.Io.KnownBytes.{Appends}
use Rattle.channel_number.specs.Order.{channel_count}
use Rattle.report_lines.specs.Taken.{AppendsFront}
use Rattle.command_texts.specs.Lines.{order_line, place_line}
use Rattle.command_texts.proofs.Pieces.{line_front, line_more}
use Rattle.command_texts.proofs.channels.put_channels.Given.{Over}
use Rattle.command_texts.proofs.channels.put_channels.Goals as goal

-- the line that was put
ok_line : (g : Over) (c : goal.In_ok-put_all g) → c.as_bytes.result.now ≡ order_line c.args.torus.now c.args.numbers.now c.loop-index.index
ok_line g c =
    let i : ℕ = c.loop-index.index in
    c.as_bytes.ensures.value ∙ c.as_str.ensures.value ∙ c.place_line-line.ensures
    ∙ ap (λ (d : ℕ). place_line (i / (8 * d + 4)) (i % (8 * d + 4)) (get_or c.args.numbers.now i 0)) c.dims.ensures.value

pub loop-index-preserved : goal.loop-index-preserved
loop-index-preserved g c = record {
  taken = line_more _ _ _ (order_line c.args.torus.now c.args.numbers.now) c.loop-index.index c.loop-index.invariant.taken
      (subst (Appends (g.W.Out.taken c.loop-index.out) (g.W.Out.taken c.put_all.new.out)) (ok_line g c) c.in_ok-put_all.ensures.ok);
  quiet = c.in_ok-put_all.ensures.quiet ∙ c.loop-index.invariant.quiet;
}

pub returns-in_err-put_all-clause-err : goal.returns-in_err-put_all-clause-err
returns-in_err-put_all-clause-err g c =
    let p = err_from_is_err_and c.from_residual.result c.from_residual.ensures.1 in
    let i : ℕ = c.loop-index.index in
    let inside : i < channel_count c.args.torus.now = omega arith in
    let line : c.as_bytes.result.now ≡ order_line c.args.torus.now c.args.numbers.now i =
    c.as_bytes.ensures.value ∙ c.as_str.ensures.value ∙ c.place_line-line.ensures
    ∙ ap (λ (d : ℕ). place_line (i / (8 * d + 4)) (i % (8 * d + 4)) (get_or c.args.numbers.now i 0)) c.dims.ensures.value in
    rw p.1 (line_front _ _ _ (order_line c.args.torus.now c.args.numbers.now) i _ inside c.loop-index.invariant.taken
    (subst (AppendsFront (g.W.Out.taken c.loop-index.out) (g.W.Out.taken c.put_all.new.out)) line c.in_err-put_all.ensures.err))
