use Rattle.std.proofs.Common.{◌≡◌, ℕ, Option, Some, None, MatchOption, refl, ◌∙◌, ap, subst, slice_index}
use Rattle.std.specs.Prelude.{option_and_then, option_map}
use Rattle.flit_buffer.specs.Agent.{Agent, next_op, absorbed, attempted}
use Rattle.flit_buffer.specs.Words.{word_of}
use Rattle.flit_buffer.specs.declared.word_op.WordOp.{WordOp}
use Rattle.router.specs.Table.{RouterState, RouterPlace, router_wants, router_after, router_with_agent}
use Rattle.tile.specs.declared.agent.Agent.TheVariants.{Router}
use Rattle.tile.specs.Agents.{agent_op}
use Rattle.tile.specs.Placed.{PlacedTile, with_place, agent_attempted}
use Rattle.tile.proofs.agents.TileAgents.attempt_router.Goals as goal

-- the tile as its router has moved, or not
after_found : (f : RouterPlace → PlacedTile) (r new : RouterPlace) (result op : Option WordOp)
    → ((a : Agent RouterState) → f (router_with_agent r a) ≡ with_place (f r) (record (f r).place { router = a }))
    → (o : Option (Agent RouterState))
    → MatchOption o ((result ≡ None) × (new ≡ r)) (λ a. (result ≡ op) × (new ≡ router_with_agent r a))
    → MatchOption (option_map (λ (a : Agent RouterState). record (f r).place { router = a }) o) ((result ≡ None) × (f new ≡ f r))
    (λ p. (result ≡ op) × (f new ≡ with_place (f r) p))
after_found f r new result op same None h = (h.0, ap f h.1)
after_found f r new result op same (Some a) h = (h.0, ap f h.1 ∙ same a)

after_op : (f : RouterPlace → PlacedTile) (r new : RouterPlace) (result : Option WordOp)
    → ((a : Agent RouterState) → f (router_with_agent r a) ≡ with_place (f r) (record (f r).place { router = a }))
    → (found : WordOp → Option (Agent RouterState)) (op : Option WordOp)
    → MatchOption (option_and_then found op) ((result ≡ None) × (new ≡ r)) (λ a. (result ≡ op) × (new ≡ router_with_agent r a))
    → MatchOption (option_and_then (λ (o : WordOp). option_map (λ (a : Agent RouterState). record (f r).place { router = a }) (found o)) op)
    ((result ≡ None) × (f new ≡ f r)) (λ p. (result ≡ op) × (f new ≡ with_place (f r) p))
after_op f r new result same found None h = (h.0, ap f h.1)
after_op f r new result same found (Some o) h = after_found f r new result (Some o) same (found o) h

pub returns-clause-step : goal.returns-clause-step
returns-clause-step g c =
    let s = c.self.inside in
    let row = c.args.row.now.items in
    let f : RouterPlace → PlacedTile = λ x. record {
      place = record {
        design = record { shape = x.torus; depth = s.depth; words = s.processor.words };
        tile = s.tile;
        processor = s.processor.agent;
        router = x.agent;
        bank = s.bank.agent;
      };
      room = s.bank.room;
    } in
    let step = subst (λ (t : ℕ). MatchOption (attempted (router_wants s.router.torus t) router_after s.router.agent c.args.choice row)
    ((c.attempt.result ≡ None) × (c.attempt.new.self ≡ s.router))
    (λ a. (c.attempt.result ≡ next_op (router_wants s.router.torus t) s.router.agent c.args.choice) × (c.attempt.new.self ≡ router_with_agent s.router a)))
    c.self.invariant.router c.attempt.ensures.step in
    subst (λ (w : PlacedTile). MatchOption (agent_attempted w.place Router c.args.choice row) ((c.attempt.result ≡ None) × (f c.attempt.new.self ≡ w))
    (λ p. (c.attempt.result ≡ agent_op w.place Router c.args.choice) × (f c.attempt.new.self ≡ with_place w p)))
    c.self.view_is
    (after_op f s.router c.attempt.new.self c.attempt.result (λ a. refl) (λ o. absorbed (router_wants s.router.torus s.tile) router_after s.router.agent
    c.args.choice (slice_index row (word_of o))) (next_op (router_wants s.router.torus s.tile) s.router.agent c.args.choice) step)
