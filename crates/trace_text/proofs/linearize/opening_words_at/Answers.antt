use Rattle.std.proofs.Common.{◌<◌, ◌≡◌, ◌∙◌, ap, length, arith, map}
use Rattle.std.proofs.lemmas.List.{take_all}
use Rattle.std.specs.Prelude.{unwrap_or}
use Rattle.trace_lines.specs.Head.{value_in}
use Rattle.trace_text.proofs.Mapped.{mapped_more}
use Rattle.trace_text.proofs.linearize.opening_words_at.Goals as goal

pub loop-i-preserved : goal.loop-i-preserved
loop-i-preserved g c =
    let low : c.loop-i.i < length c.args.addresses.now = omega arith in
    mapped_more (λ a. unwrap_or (value_in c.args.head.now.inits a) 0) c.args.addresses.now c.loop-i.i _ c.loop-i.words.items c.opening.result
    c.push.new.self.items
    low c.opening.ensures c.loop-i.invariant c.in_ok-push.ensures.items

pub returns : goal.returns
returns g c =
    let whole : c.loop-i.i ≡ length c.args.addresses.now = omega arith in
    c.loop-i.invariant ∙ ap (map (λ a. unwrap_or (value_in c.args.head.now.inits a) 0)) (take_all c.loop-i.i c.args.addresses.now (omega arith))
