use Rattle.std.proofs.Common.{◌≡◌, ◌≢◌, ◌<◌, ⊎_elim, length, refl, arith}
use Rattle.std.proofs.lemmas.Bool.{cases_eq}
use Rattle.std.proofs.lemmas.Option.{slice_get-get_or}
use Rattle.trace_laws.proofs.Lists.{get_within}
use Rattle.trace_watch.proofs.matching.is_alone.Goals as goal

pub returns-then-asks_too-clause-no : goal.returns-then-asks_too-clause-no
returns-then-asks_too-clause-no c = λ _ alone.
    let l : c.loop-i.i < length c.args.calls.now = omega arith in
    let r = c.if-asks_too.ensures.yes refl in
    r.1 (alone _ (c.loop-i.i, slice_get-get_or c.args.calls.now c.loop-i.i _ l) r.0)

pub returns-clause-yes : goal.returns-clause-yes
returns-clause-yes c = λ _ call on asks. ⊎_elim {C = call.id ≡ c.args.call.id}
    (λ (e : call.id ≡ c.args.call.id). e)
    (λ (ne : call.id ≢ c.args.call.id).
    let l = get_within c.args.calls.now on.0 call on.1 in
    absurd (c.loop-i.invariant on.0 call (omega arith) on.1 asks ne))
    (cases_eq call.id c.args.call.id)
