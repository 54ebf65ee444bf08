use Rattle.std.proofs.Common.{◌≡◌, ◌+◌, ◌++◌, ◌<◌, length, take, drop, get_or, List, ℕ, arith, sym, ◌∙◌, ap, subst}
use Rattle.std.proofs.lemmas.Result.{err_from_is_err_and}
use Rattle.report_lines.specs.Line.{line_text, text_of}
use Rattle.report_lines.specs.Taken.{AppendsFront}
use Rattle.report_lines.specs.declared.line.ReportLine.{ReportLine}
use Rattle.report_lines.specs.declared.line.ReportLine.TheVariants.{Header}
use Rattle.report_lines.proofs.Fronts.{front_behind, pieces_at}
use Rattle.report_lines.proofs.report.write_report.Goals as goal

pub returns-in_err-put_all-clause-err : goal.returns-in_err-put_all-clause-err
returns-in_err-put_all-clause-err g c =
    let p = err_from_is_err_and c.from_residual.result c.from_residual.ensures.1 in
    let xs : List ReportLine = c.deref-line-items.result.now in
    let i : ℕ = c.loop-line.line-index in
    let inside : i < length xs = omega arith in
    let here : c.bytes.result.now ≡ line_text (get_or xs i (Header 0)) =
    c.bytes.ensures ∙ c.put_line.ensures in
    let F : List ℕ → Type 0 = λ t. AppendsFront (g.W.Out.taken c.args.out.now) (g.W.Out.taken c.put_all.new.out) t in
    let whole : text_of (take i xs) ++ (c.bytes.result.now ++ text_of (drop (i + 1) xs)) ≡ text_of c.args.report.now =
    ap (λ (t : List ℕ). text_of (take i xs) ++ (t ++ text_of (drop (i + 1) xs))) here
    ∙ sym (pieces_at line_text xs i (Header 0) inside) ∙ ap text_of (c.deref-line-items.ensures.value ∙ c.report.view_is) in
    rw p.1 (subst F whole
    (front_behind _ _ _ _ _ (text_of (drop (i + 1) xs)) c.loop-line.invariant.taken c.in_err-put_all.ensures.err))
