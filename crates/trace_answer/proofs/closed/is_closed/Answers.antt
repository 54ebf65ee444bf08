use Rattle.std.proofs.Common.{◌≡◌, ⊎_elim, ◌+◌, ◌-◌, ◌<◌, ◌≤◌, length, refl, subst, arith}
use Rattle.std.proofs.lemmas.Bool.{cases_lt}
use Rattle.std.proofs.lemmas.Option.{slice_get-get_or}
use Rattle.state_search.specs.Parts.{IsKept}
use Rattle.trace_answer.specs.Noted.{HoldsFound}
use Rattle.trace_answer.proofs.closed.is_closed.Goals as goal

pub returns-then-is_lacking-clause-no : goal.returns-then-is_lacking-clause-no
returns-then-is_lacking-clause-no g c = λ e closed.
    let low : c.events.i - 1 < length c.args.events.now = omega arith in
    let next : c.events.i ≡ c.events.i - 1 + 1 = omega arith in
    c.if-is_lacking.ensures.yes refl c.args.events.now (c.events.i - 1) (slice_get-get_or c.args.events.now (c.events.i - 1) _ low)
    (subst (λ z. HoldsFound c.args.issued.now c.args.events.now c.args.kept.now (length c.args.issued.now) z c.events.found) next c.events.invariant.holds) closed

pub events-preserved : goal.events-preserved
events-preserved g c =
    let low : c.events.i - 1 < length c.args.events.now = omega arith in
    let next : c.events.i ≡ c.events.i - 1 + 1 = omega arith in
    let holds : HoldsFound c.args.issued.now c.args.events.now c.args.kept.now (length c.args.issued.now) (c.events.i - 1 + 1) c.events.found =
    subst (λ z. HoldsFound c.args.issued.now c.args.events.now c.args.kept.now (length c.args.issued.now) z c.events.found) next c.events.invariant.holds in
    record {
      inside = omega arith;
      holds = c.in_ok-note_answered.ensures c.args.events.now (length c.args.issued.now) (c.events.i - 1) (slice_get-get_or c.args.events.now (c.events.i - 1) _ low) holds;
      closed = λ k j kept m above. ⊎_elim {C = IsKept c.args.kept.now j}
          (λ (over : c.events.i - 1 < m.event). c.events.invariant.closed k j kept m (omega arith))
          (λ (under : m.event ≤ c.events.i - 1).
          let here : m.event ≡ c.events.i - 1 = omega arith in
          c.if-is_lacking.ensures.no refl c.args.events.now (c.events.i - 1) (slice_get-get_or c.args.events.now (c.events.i - 1) _ low) holds k j kept m here)
          (cases_lt (c.events.i - 1) m.event);
    }

pub returns-clause-yes : goal.returns-clause-yes
returns-clause-yes g c = λ e k j kept m. c.events.invariant.closed k j kept m (omega arith)
