-- What was taken of a line that failed comes behind the lines before it.
use Rattle.std.proofs.Common.{◌≡◌, ◌+◌, ◌++◌, ◌<◌, length, take, drop, get_or, List, ℕ, arith, sym, ◌∙◌, ap, subst}
use Rattle.std.proofs.lemmas.Grind.{common_steps}
use Rattle.std.proofs.lemmas.Result.{err_from_is_err_and}
use Rattle.std.specs.List.{flat_map}
use Rattle.torus.specs.declared.shape.Class.TheVariants.{Request}
use Rattle.dateline_route.specs.declared.channel.Channel.{Channel}
use Rattle.dateline_route.specs.declared.channel.Kind.TheVariants.{Injection}
use Rattle.report_lines.specs.Taken.{AppendsFront}
use Rattle.report_lines.proofs.Fronts.{front_behind, pieces_at}
use Rattle.command_texts.specs.Lines.{channel_line}
use Rattle.command_texts.proofs.route.put_route.Goals as goal

pub returns-in_err-put_all-clause-err : goal.returns-in_err-put_all-clause-err
returns-in_err-put_all-clause-err g c =
    let p = err_from_is_err_and c.from_residual.result c.from_residual.ensures.1 in
    let xs : List Channel = c.args.channels.now in
    let i : ℕ = c.loop-channel.channel-index in
    let none : Channel = record { tile = 0; class = Request; kind = Injection } in
    let line : Channel → List ℕ = channel_line c.args.torus.now in
    let inside : i < length xs = omega arith in
    let here : c.as_bytes.result.now ≡ line (get_or xs i none) =
    c.as_bytes.ensures.value ∙ c.as_str.ensures.value ∙ c.channel_line-line.ensures in
    let F : List ℕ → Type 0 = λ t. AppendsFront (g.W.Out.taken c.args.out.now) (g.W.Out.taken c.put_all.new.out) t in
    let whole : flat_map line (take i xs) ++ (c.as_bytes.result.now ++ flat_map line (drop (i + 1) xs)) ≡ flat_map line xs =
    ap (λ (t : List ℕ). flat_map line (take i xs) ++ (t ++ flat_map line (drop (i + 1) xs))) here
    ∙ sym (pieces_at line xs i none inside) in
    rw p.1 (subst F whole
    (front_behind _ _ _ _ _ (flat_map line (drop (i + 1) xs)) c.loop-channel.invariant.taken c.in_err-put_all.ensures.err))

pub loop-channel-preserved : goal.loop-channel-preserved
loop-channel-preserved g c = grind (arith, common_steps)

pub returns-clause-ok : goal.returns-clause-ok
returns-clause-ok g c = grind (arith, common_steps)
