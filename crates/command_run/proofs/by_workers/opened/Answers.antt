-- The cuts can be dealt, and the seats between them are those of the workers.
use Rattle.std.proofs.Common.{ℕ, List, Err, ap, sym, ◌∙◌, subst, ⊎_elim}
use Rattle.torus.specs.Shape.{tiles_of}
use Rattle.history.specs.Opening.{CanDeal}
use Rattle.command_run.proofs.Shares.{can_deal_shares}
use Rattle.command_run.proofs.ByWorkers.{seats_dealt}
use Rattle.command_run.proofs.by_workers.opened.Goals as goal

pub returns-in-Ok-clause-seats : goal.returns-in-Ok-clause-seats
returns-in-Ok-clause-seats g c =
    let cuts = c.as_slice.ensures.value ∙ c.cuts_of-cuts.ensures in
    c.in-Ok.ensures.seats
    ∙ seats_dealt c.in-Ok.fabric c.args.tiles c.args.crew c.requires.crew.0 c.requires.crew.2 c.as_slice.result.now (tiles_of c.args.machine.shape) cuts
    c.requires.tiles

pub returns-clause-fault : goal.returns-clause-fault
returns-clause-fault g c =
    let cuts = c.as_slice.ensures.value ∙ c.cuts_of-cuts.ensures in
    let can : CanDeal c.as_slice.result.now 0 (tiles_of c.args.machine.shape) =
    subst (λ (p : List ℕ × ℕ). CanDeal p.0 0 p.1) (λ i. (sym cuts i, c.requires.tiles i))
    (can_deal_shares c.args.tiles c.args.crew c.requires.crew.0 c.requires.crew.2 c.requires.crew.1) in
    ⊎_elim (λ range. absurd (c.in-Err.ensures.range.0 (ap Err range) can)) (λ memory. memory) c.in-Err.ensures.fault
