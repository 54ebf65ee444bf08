use Rattle.std.proofs.Common.{◌∙◌, List, ℕ, subst}
use Rattle.network_rounds.specs.Arbiters.{HasFirsts}
use Rattle.network_rounds.proofs.Firsts.{chosen}
use Rattle.network_rounds.proofs.arbiter.Grants.choose.Goals as goal

pub returns-clause-attempts : goal.returns-clause-attempts
returns-clause-attempts g c =
    let m = c.args.machine.now in
    let moves = c.args.enabled.now in
    c.write_attempts.ensures.attempts ∙ chosen c.args.by m c.args.self.now.lasts.items c.note_firsts.new.firsts moves
    (subst (λ (ls : List ℕ). HasFirsts m ls moves c.note_firsts.new.firsts) c.as_slice-lasts.ensures.value c.note_firsts.ensures)
