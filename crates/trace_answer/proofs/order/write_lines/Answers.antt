use Rattle.std.proofs.Common.{◌≡◌, ◌+◌, ◌++◌, ◌<◌, length, take, drop, get_or, List, ℕ, arith, sym, ◌∙◌, ap, subst}
use Rattle.std.proofs.lemmas.Result.{err_from_is_err_and}
use Rattle.packet.specs.declared.kinds.Op.TheVariants.{Load}
use Rattle.report_lines.specs.Taken.{AppendsFront}
use Rattle.report_lines.proofs.Fronts.{front_behind, pieces_at}
use Rattle.trace_laws.specs.declared.event.Call.{Call}
use Rattle.trace_answer.specs.Texts.{call_line, lines_text}
use Rattle.trace_answer.proofs.order.write_lines.Goals as goal

pub returns-in_err-put_all-clause-err : goal.returns-in_err-put_all-clause-err
returns-in_err-put_all-clause-err g c =
    let p = err_from_is_err_and c.from_residual.result c.from_residual.ensures.1 in
    let xs : List Call = c.args.order.now in
    let i : ℕ = c.loop-call.call-index in
    let inside : i < length xs = omega arith in
    let here : c.as_bytes.result.now ≡ call_line c.args.issued.now (get_or xs i no_call) =
    c.as_bytes.ensures.value ∙ c.as_str.ensures.value ∙ c.call_line-line.ensures in
    let F : List ℕ → Type 0 = λ t. AppendsFront (g.W.Out.taken c.args.out.now) (g.W.Out.taken c.put_all.new.out) t in
    let whole : lines_text c.args.issued.now (take i xs) ++ (c.as_bytes.result.now ++ lines_text c.args.issued.now (drop (i + 1) xs))
    ≡ lines_text c.args.issued.now xs =
    ap (λ (t : List ℕ). lines_text c.args.issued.now (take i xs) ++ (t ++ lines_text c.args.issued.now (drop (i + 1) xs))) here
    ∙ sym (pieces_at (call_line c.args.issued.now) xs i no_call inside) in
    rw p.1 (subst F whole
    (front_behind _ _ _ _ _ (lines_text c.args.issued.now (drop (i + 1) xs)) c.loop-call.invariant.taken c.in_err-put_all.ensures.err))
  where
    no_call : Call
    no_call = record { id = 0; operation = record { address = 0; op = Load } }
