use Rattle.std.proofs.Common.{◌≡◌, ◌<◌, ℕ, Option, sym, ◌∙◌, ap, subst, vec_len}
use Rattle.std.specs.Option.{IfSome}
use Rattle.flit_buffer.specs.Agent.{next_op}
use Rattle.flit_buffer.specs.Words.{word_of}
use Rattle.flit_buffer.specs.declared.word_op.WordOp.{WordOp}
use Rattle.home_bank.specs.BankTable.{bank_wants}
use Rattle.router.specs.Table.{router_wants}
use Rattle.tile.specs.declared.agent.Agent.TheVariants.{Router, Bank}
use Rattle.tile.specs.Agents.{agent_tile, agent_kind, agent_op, tile_next_op}
use Rattle.tile.specs.Placed.{PlacedTile}
use Rattle.tile.proofs.OwnAttempts.{own_op}
use Rattle.tile.proofs.agents.TileAgents.would_move.Goals as goal

pub would_move-requires-in-Router : goal.would_move-requires-in-Router
would_move-requires-in-Router g c =
    let v : PlacedTile = c.args.self.now in
    let own : agent_tile c.args.step.agent ≡ v.place.tile =
    sym c.agent_tile.ensures ∙ c.if-agent_tile-self.false ∙ ap (λ (x : PlacedTile). x.place.tile) c.self.view_is in
    let second : agent_kind c.args.step.agent ≡ Router = sym c.agent_kind.ensures ∙ c.in-Router.is in
    let op : tile_next_op v.place c.args.step ≡ agent_op v.place Router c.args.step.choice = own_op v.place c.args.step Router own second in
    let room : IfSome (agent_op v.place Router c.args.step.choice) (λ o. word_of o < vec_len c.args.row.now) =
    subst (λ (x : Option WordOp). IfSome x (λ o. word_of o < vec_len c.args.row.now)) op c.requires.room in
    let seen = subst (λ (w : PlacedTile). IfSome (agent_op w.place Router c.args.step.choice) (λ o. word_of o < vec_len c.args.row.now)) (sym c.self.view_is)
    room in
    record {
      room = subst (λ (t : ℕ). IfSome (next_op (router_wants c.self.inside.router.torus t) c.self.inside.router.agent c.args.step.choice)
          (λ o. word_of o < vec_len c.args.row.now)) (sym c.self.invariant.router) seen;
    }

pub would_move-requires-in-Bank : goal.would_move-requires-in-Bank
would_move-requires-in-Bank g c =
    let v : PlacedTile = c.args.self.now in
    let own : agent_tile c.args.step.agent ≡ v.place.tile =
    sym c.agent_tile.ensures ∙ c.if-agent_tile-self.false ∙ ap (λ (x : PlacedTile). x.place.tile) c.self.view_is in
    let third : agent_kind c.args.step.agent ≡ Bank = sym c.agent_kind.ensures ∙ c.in-Bank.is in
    let op : tile_next_op v.place c.args.step ≡ agent_op v.place Bank c.args.step.choice = own_op v.place c.args.step Bank own third in
    let room : IfSome (agent_op v.place Bank c.args.step.choice) (λ o. word_of o < vec_len c.args.row.now) =
    subst (λ (x : Option WordOp). IfSome x (λ o. word_of o < vec_len c.args.row.now)) op c.requires.room in
    let seen = subst (λ (w : PlacedTile). IfSome (agent_op w.place Bank c.args.step.choice) (λ o. word_of o < vec_len c.args.row.now)) (sym c.self.view_is)
    room in
    let tiles = subst (λ (n : ℕ). IfSome (next_op (bank_wants n c.self.inside.tile) c.self.inside.bank.agent c.args.step.choice)
    (λ o. word_of o < vec_len c.args.row.now)) (sym c.self.invariant.banks) seen in
    record {
      room = subst (λ (t : ℕ). IfSome (next_op (bank_wants c.self.inside.bank.tiles t) c.self.inside.bank.agent c.args.step.choice)
          (λ o. word_of o < vec_len c.args.row.now)) (sym c.self.invariant.bank) tiles;
    }
