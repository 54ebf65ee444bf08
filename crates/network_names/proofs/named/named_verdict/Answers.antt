use Rattle.std.proofs.Common.{◌++◌, ◌∙◌, ap}
use Rattle.std.specs.Str.Lines.{lines}
use Rattle.network_names.specs.Named.{title_of, named_line}
use Rattle.network_names.proofs.Verdicts.{line_more}
use Rattle.network_names.proofs.named.named_verdict.Goals as goal

pub loop-line-preserved : goal.loop-line-preserved
loop-line-preserved g c =
    let ls = lines c.args.text.now in
    let kinds = c.args.kinds.now in
    let old = c.loop-line.out.items in
    let line = c.in-Some.line.now in
    let put = c.in_ok-put_line.ensures
    ∙ ap (λ r. old ++ named_line (title_of r (lines c.in_ok-titles.titles.text.now) kinds) c.args.chosen line) c.in_ok-titles.ensures.room
    ∙ ap (λ t. old ++ named_line (title_of c.args.room (lines t) kinds) c.args.chosen line) c.in_ok-titles.ensures.text in
    line_more (named_line (title_of c.args.room ls kinds) c.args.chosen) old c.put_line.new.out.items line c.loop-line.rest.now c.in-Some.after.now c.in-Some.ensures.some put
    ∙ c.loop-line.invariant
