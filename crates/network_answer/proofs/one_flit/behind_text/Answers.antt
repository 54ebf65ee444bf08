use Rattle.std.proofs.Common.{[], sym, ◌∙◌}
use Rattle.network_judge.specs.Table.{table_of}
use Rattle.network_adaptive.specs.Choosing.{ChoiceTable, choosing_of}
use Rattle.network_text.specs.Reading.{reading_of}
use Rattle.network_text.proofs.Refused.{moved}
use Rattle.network_answer.proofs.OneFlit.{shaped_of, shaped_moved, decided_moved, decided_stands, nothing_stands}
use Rattle.network_answer.proofs.one_flit.behind_text.Goals as goal

pub decide-requires-clause-shaped : goal.decide-requires-clause-shaped
decide-requires-clause-shaped g c =
    let f = c.args.fixed.now in
    let t : ChoiceTable = choosing_of f.kinds.items f.joins.items c.args.ways c.args.choices.now c.args.marks.now in
    shaped_moved c.deref.result.now f.kinds.items c.deref-2.result.now f.joins.items c.args.ways c.args.choices.now c.args.marks.now
    c.deref.ensures.value c.deref-2.ensures.value
    (shaped_of t f.replies.items c.args.judged.now (sym c.lacks_numbers.ensures ∙ c.if-not-lacks_numbers.false) c.requires.judged)

pub decide-requires-clause-replies : goal.decide-requires-clause-replies
decide-requires-clause-replies g c =
    let f = c.args.fixed.now in
    moved (reading_of f).table (table_of c.deref.result.now c.deref-2.result.now []) f.replies.items c.deref-3.result.now
    c.deref.ensures.value c.deref-3.ensures.value c.requires.read.replies

pub returns-then-not-lacks_numbers : goal.returns-then-not-lacks_numbers
returns-then-not-lacks_numbers g c =
    let f = c.args.fixed.now in
    let t : ChoiceTable = choosing_of f.kinds.items f.joins.items c.args.ways c.args.choices.now c.args.marks.now in
    nothing_stands t f.replies.items c.args.judged.now c.new.result.items (sym c.lacks_numbers.ensures ∙ c.if-not-lacks_numbers.true) c.new.ensures.items

pub returns : goal.returns
returns g c =
    let f = c.args.fixed.now in
    let t : ChoiceTable = choosing_of f.kinds.items f.joins.items c.args.ways c.args.choices.now c.args.marks.now in
    decided_stands t f.replies.items c.args.judged.now c.in_ok-found.found c.in_ok-text.text.items c.has_rising-never.result
    (sym c.lacks_numbers.ensures ∙ c.if-not-lacks_numbers.false) c.requires.judged c.requires.read.replies
    (decided_moved c.deref.result.now f.kinds.items c.deref-2.result.now f.joins.items c.deref-3.result.now f.replies.items c.args.ways
    c.args.choices.now c.args.marks.now c.in_ok-found.found c.deref.ensures.value c.deref-2.ensures.value c.deref-3.ensures.value c.in_ok-found.ensures)
    c.in_ok-text.ensures c.has_rising-never.ensures
