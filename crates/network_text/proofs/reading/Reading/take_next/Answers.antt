use Rattle.std.proofs.Common.{◌≡◌, ◌<◌, ℕ, true, ◌+◌, ◌*◌, length, take, sym, ◌∙◌, ap, subst, arith}
use Rattle.std.specs.Prelude.{slice_get}
use Rattle.std.specs.List.{count_by}
use Rattle.network_judge.specs.Table.{ejects, is_receiver}
use Rattle.network_text.specs.declared.reason.NetworkReason.TheVariants as reason
use Rattle.lexer.specs.Outcome.{Makes}
use Rattle.network_text.specs.Network.{after_choice, after_next, begun, cell_of}
use Rattle.network_text.specs.Reading.{reading_of}
use Rattle.network_text.proofs.Begun.{is_begun, begun_kinds, next_is}
use Rattle.network_text.proofs.reading.Reading.take_next.Goals as goal

pub cell-cell-requires-clause-begun : goal.cell-cell-requires-clause-begun
cell-cell-requires-clause-begun g c = is_begun (reading_of c.args.self.now) (reading_of c.begin.new.self) c.in_ok-begin.ensures.value

pub cell-cell-requires-clause-channel : goal.cell-cell-requires-clause-channel
cell-cell-requires-clause-channel g c =
    let kinds = ap length (begun_kinds (reading_of c.args.self.now) (reading_of c.begin.new.self) c.in_ok-begin.ensures.value) in
    let low = c.in_default.ensures.there in
    omega arith

pub cell-cell-requires-clause-ejects : goal.cell-cell-requires-clause-ejects
cell-cell-requires-clause-ejects g c =
    ap (λ k. is_receiver (slice_get k c.args.to)) (begun_kinds (reading_of c.args.self.now) (reading_of c.begin.new.self) c.in_ok-begin.ensures.value)
    ∙ (sym c.ejects.ensures ∙ c.if-not-ejects.false)

pub returns-clause-value : goal.returns-clause-value
returns-clause-value g c =
    let old = reading_of c.args.self.now in
    let new = reading_of c.begin.new.self in
    let x : ℕ = c.args.channel in
    let j : ℕ = c.args.to in
    let y : ℕ = c.args.choice in
    let ends = sym c.ejects.ensures ∙ c.if-not-ejects.false in
    let cell : c.cell-cell.result ≡ cell_of old x j =
    c.cell-cell.ensures.cell
    ∙ ap (λ k. x * count_by ejects k + count_by ejects (take j k)) (begun_kinds old new c.in_ok-begin.ensures.value) in
    let same : after_next old x j y ≡ after_choice new c.cell-cell.result y =
    next_is old x j y c.in_default.ensures.there c.in_default-lacks.ensures.there ends c.in_default-lacks-2.ensures.there
    ∙ ap (λ z. after_choice (begun old) z y) (sym cell)
    ∙ ap (λ r. after_choice r c.cell-cell.result y) (sym c.in_ok-begin.ensures.value) in
    subst (Makes reason.Memory (reading_of c.take_choice.new.self) c.take_choice.result) (sym same) c.take_choice.ensures.value
