use Rattle.std.proofs.Common.{◌<◌, sym, ◌∙◌, arith}
use Rattle.std.proofs.lemmas.Bool.{ne_eqb}
use Rattle.std.proofs.lemmas.List.{get_or_read}
use Rattle.network_text.specs.Network.{count_of}
use Rattle.network_text.specs.Reading.{reading_of}
use Rattle.network_text.proofs.Begun.{not_taken, is_taken}
use Rattle.network_text.proofs.reading.Reading.taken_cell.Goals as goal

pub cell-cell-requires-clause-channel : goal.cell-cell-requires-clause-channel
cell-cell-requires-clause-channel g c = omega (arith, c.len.ensures)

pub cell-cell-requires-clause-ejects : goal.cell-cell-requires-clause-ejects
cell-cell-requires-clause-ejects g c = sym c.ejects.ensures ∙ c.if-not-ejects.false

pub returns-then-index-len-clause-value : goal.returns-then-index-len-clause-value
returns-then-index-len-clause-value g c =
    let low : c.args.x < count_of (reading_of c.args.self.now) = omega (arith, c.len.ensures) in
    not_taken (reading_of c.args.self.now) c.args.x c.args.j c.cell-cell.result c.if-not-self.false low (sym c.ejects.ensures ∙ c.if-not-ejects.false)
    c.cell-cell.ensures.cell
    (sym (get_or_read c.args.self.now.choices.items c.cell-cell.result c.index.result.now c.cell-cell.ensures.within c.index.ensures 0)
    ∙ (c.if-index-len.true ∙ omega (arith, c.len-2.ensures)))

pub returns-clause-value : goal.returns-clause-value
returns-clause-value g c =
    let low : c.args.x < count_of (reading_of c.args.self.now) = omega (arith, c.len.ensures) in
    is_taken (reading_of c.args.self.now) c.args.x c.args.j c.cell-cell.result c.if-not-self.false low (sym c.ejects.ensures ∙ c.if-not-ejects.false)
    c.cell-cell.ensures.cell
    (ne_eqb _ _ (λ e. c.if-index-len.false
    (get_or_read c.args.self.now.choices.items c.cell-cell.result c.index.result.now c.cell-cell.ensures.within c.index.ensures 0
    ∙ (e ∙ omega (arith, c.len-2.ensures)))))
