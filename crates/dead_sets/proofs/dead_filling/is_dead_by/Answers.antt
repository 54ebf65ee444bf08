use Rattle.std.proofs.Common.{◌∙◌, Bool, List, map, sym, subst}
use Rattle.std.proofs.lemmas.List.Folds.{list_all-map}
use Rattle.network_adaptive.specs.Choosing.{ChoiceTable, choosing_of}
use Rattle.deadlock_laws.specs.Fillings.{Filling}
use Rattle.dead_sets.specs.FillingFlags.{filling_of, waits_by, TellsInTurn}
use Rattle.dead_sets.proofs.FilledTold.{some_items}
use Rattle.dead_sets.proofs.Waiting.{dead_if, not_dead}
use Rattle.dead_sets.proofs.dead_filling.is_dead_by.Goals as goal

pub returns-then-not-fill_in_turn : goal.returns-then-not-fill_in_turn
returns-then-not-fill_in_turn g c =
    let a = c.args in
    let t : ChoiceTable = choosing_of a.kinds.now a.joins.now a.ways a.choices.now a.marks.now in
    let fs : List Filling = map (filling_of {A = g.row.A.Denot}) a.items.now in
    let taken = c.fill_in_turn.new.taken in
    let full = c.fill_in_turn.new.full in
    not_dead t a.replies.now fs taken full
    (subst (λ (b : Bool). TellsInTurn t fs taken full b) c.if-not-fill_in_turn.true c.fill_in_turn.ensures)

pub returns : goal.returns
returns g c =
    let a = c.args in
    let t : ChoiceTable = choosing_of a.kinds.now a.joins.now a.ways a.choices.now a.marks.now in
    let fs : List Filling = map (filling_of {A = g.row.A.Denot}) a.items.now in
    let taken = c.fill_in_turn.new.taken in
    let full = c.fill_in_turn.new.full in
    dead_if t a.replies.now fs taken full c.requires.shaped (some_items a.items.now (sym c.is_empty.ensures ∙ c.if-is_empty.false))
    (subst (λ (b : Bool). TellsInTurn t fs taken full b) c.if-not-fill_in_turn.false c.fill_in_turn.ensures)
    c.all_wait.result
    (c.all_wait.ensures ∙ sym (list_all-map (waits_by a.kinds.now a.replies.now a.choices.now a.ways a.marks.now taken full) filling_of a.items.now))
