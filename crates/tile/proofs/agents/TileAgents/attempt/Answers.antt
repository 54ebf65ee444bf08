use Rattle.std.proofs.Common.{◌≡◌, MatchOption, Option, None, sym, ◌∙◌, ap, subst}
use Rattle.flit_buffer.specs.declared.word_op.WordOp.{WordOp}
use Rattle.tile.specs.declared.agent.Agent.{Agent}
use Rattle.tile.specs.declared.agent.Agent.TheVariants.{Bank}
use Rattle.tile.specs.Agents.{TilePlace, agent_tile, agent_kind, agent_op, tile_next_op}
use Rattle.tile.specs.Placed.{PlacedTile, with_place, agent_attempted, tile_attempted}
use Rattle.tile.proofs.OwnAttempts.{own_op, own_attempt}
use Rattle.tile.proofs.agents.TileAgents.attempt.Goals as goal

pub returns-in-Bank-clause-step : goal.returns-in-Bank-clause-step
returns-in-Bank-clause-step g c =
    let v = c.args.self.now in
    let own : agent_tile c.args.step.agent ≡ v.place.tile =
    sym c.agent_tile.ensures ∙ c.if-agent_tile-self.false ∙ ap (λ (x : PlacedTile). x.place.tile) c.self.view_is in
    let is : agent_kind c.args.step.agent ≡ Bank = sym c.agent_kind.ensures ∙ c.in-Bank.is in
    let same = own_attempt v.place c.args.step c.args.row.now.items own
    ∙ ap (λ (a : Agent). agent_attempted v.place a c.args.step.choice c.args.row.now.items) is in
    let op : tile_next_op v.place c.args.step ≡ agent_op v.place Bank c.args.step.choice = own_op v.place c.args.step Bank own is in
    subst (λ (o : Option WordOp). MatchOption (tile_attempted v.place c.args.step c.args.row.now.items)
    ((c.attempt_bank.result ≡ None) × (c.attempt_bank.new.self ≡ v)) (λ p. (c.attempt_bank.result ≡ o) × (c.attempt_bank.new.self ≡ with_place v p)))
    (sym op) (subst (λ (o : Option TilePlace). MatchOption o ((c.attempt_bank.result ≡ None) × (c.attempt_bank.new.self ≡ v))
    (λ p. (c.attempt_bank.result ≡ agent_op v.place Bank c.args.step.choice) × (c.attempt_bank.new.self ≡ with_place v p)))
    (sym same) c.attempt_bank.ensures.step)
