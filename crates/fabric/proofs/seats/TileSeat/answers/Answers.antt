use Rattle.std.proofs.Common.{Some, true≢false, ap, sym, ◌∙◌, arith}
use Rattle.fabric.proofs.EndsShown.{slot_at, slot_owned, slot_answers}
use Rattle.fabric.proofs.seats.TileSeat.answers.Goals as goal

pub returns-clause-none : goal.returns-clause-none
returns-clause-none g c = (
  (λ e. absurd (true≢false e)),
  (λ none. absurd (none (slot_owned c.self.inside.slots.items c.self.inside.seat _ c.self.view_is c.self.invariant.0 c.args.processor c.in-Some.own
      (slot_at c.self.inside.slots c.args.processor c.index.result.now (Some c.in-Some.own) (omega arith) c.index.ensures c.in-Some.is)))),
)

pub returns-clause-some : goal.returns-clause-some
returns-clause-some g c = slot_answers c.self.inside.slots.items c.self.inside.seat _ c.self.view_is c.self.invariant.0 c.args.processor c.in-Some.own
    (slot_at c.self.inside.slots c.args.processor c.index.result.now (Some c.in-Some.own) (omega arith) c.index.ensures c.in-Some.is)
    ∙ ap Some (sym c.answers.ensures)
