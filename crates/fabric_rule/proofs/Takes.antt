-- A take that finds an empty place moves nothing.
use Rattle.std.proofs.Common.{◌≡◌, ℕ, Bool, true, false, List, Option, Some, None, refl, sym, ap}
use Rattle.std.specs.Prelude.{is_some, is_none, nat_lt, option_and_then, option_map, if◌then◌else◌, ◌&&◌, ◌==◌}
use Rattle.std.proofs.lemmas.Option.{same_Some}
use Rattle.torus.specs.Shape.{Shape, dims_of, tiles_of}
use Rattle.torus.specs.declared.step.Step.{Step}
use Rattle.torus.specs.declared.step.Choice.{Choice}
use Rattle.torus.specs.declared.step.Choice.TheVariants as choice
use Rattle.channel_number.specs.Ports.{port_count}
use Rattle.flit_buffer.specs.Agent.{Agent as WithPorts, absorbed, agent_with}
use Rattle.flit_buffer.specs.Wants.{outcome}
use Rattle.flit_buffer.specs.declared.want.Want.{Want}
use Rattle.flit_buffer.specs.declared.want.Want.TheVariants.{Take}
use Rattle.home_bank.specs.BankTable.{BankState, bank_wants, bank_after, is_nil}
use Rattle.router.specs.Table.{RouterState, router_wants, router_after, wants_to_take, latch_of}
use Rattle.tile.specs.declared.agent.Agent.{Agent}
use Rattle.tile.specs.declared.agent.Agent.TheVariants.{Processor, Router, Bank}
use Rattle.tile.specs.Agents.{TilePlace, agent_absorbed, agent_kind, agent_tile}
use Rattle.fabric_rule.specs.Known.{moves}
use Rattle.fabric_rule.specs.Counted.{Counted, IsInnerTake}

-- a want, if there is one, isn't granted by an empty place
abbrev NeedsFlit : Option Want → Type 0
NeedsFlit o = (want : Want) → o ≡ Some want → outcome want 0 ≡ None

take_needs : (j : ℕ) → NeedsFlit (Some (Take j))
take_needs j want e = ap (λ (w : Want). outcome w 0) (sym (same_Some _ _ e))

none_needs : NeedsFlit None
none_needs want e = absurd (cc)

input_needs : (s : Shape) (tile : ℕ) (r : RouterState) (i : ℕ) → NeedsFlit (router_wants s tile r (choice.TakeFrom i))
input_needs s tile r i = by_port (nat_lt i (port_count (dims_of s)))
  where
    by_latch : (o : Option ℕ) → NeedsFlit (wants_to_take s tile i o)
    by_latch None = take_needs i
    by_latch (Some flit) = none_needs

    by_port : (b : Bool) → NeedsFlit (if b then wants_to_take s tile i (latch_of r i) else None)
    by_port true = by_latch (latch_of r i)
    by_port false = none_needs

bank_needs : (b : Bool) → NeedsFlit (if b then Some (Take 0) else None)
bank_needs true = take_needs 0
bank_needs false = none_needs

not_granted : {S C : Type 0} (wants : S → C → Option Want) (after : S → C → Want → ℕ → S) (a : WithPorts S) (c : C) → NeedsFlit (wants a.state c)
    → absorbed wants after a c 0 ≡ None
not_granted wants after a c needs = by_want (wants a.state c) needs
  where
    by_want : (o : Option Want) → NeedsFlit o → option_and_then (λ want. agent_with wants after a c want (outcome want 0)) o ≡ None
    by_want None k = refl
    by_want (Some want) k = ap (λ (r : Option ℕ). agent_with wants after a c want r) (k want refl)

no_agent : (f : Counted) (t : ℕ) (p : TilePlace) (a : Agent) (c : Choice) → IsInnerTake f t c → agent_absorbed p a c 0 ≡ None
no_agent f t p Processor choice.Take k = refl
no_agent f t p Router choice.Take k = refl
no_agent f t p Bank choice.Take k =
    ap (option_map (λ (x : WithPorts BankState). record p { bank = x }))
    (not_granted (bank_wants (tiles_of p.design.shape) p.tile) (bank_after (tiles_of p.design.shape) p.tile) p.bank choice.Take
    (bank_needs (is_none p.bank.state.waiting && is_nil p.bank.state.to_put)))
no_agent f t p Processor (choice.TakeFrom i) k = refl
no_agent f t p Router (choice.TakeFrom i) k =
    ap (option_map (λ (x : WithPorts RouterState). record p { router = x }))
    (not_granted (router_wants p.design.shape p.tile) router_after p.router (choice.TakeFrom i) (input_needs p.design.shape p.tile p.router.state i))
no_agent f t p Bank (choice.TakeFrom i) k = refl
no_agent f t p a choice.Send k = elim k [ ]
no_agent f t p a choice.Credit k = elim k [ ]
no_agent f t p a choice.Done k = elim k [ ]
no_agent f t p a choice.Look k = elim k [ ]
no_agent f t p a choice.Serve k = elim k [ ]
no_agent f t p a (choice.Put i) k = elim k [ ]
no_agent f t p a (choice.CreditOf o) k = elim k [ ]

-- a take that finds no flit moves nothing
pub empty_place : (f : Counted) (t : ℕ) (p : TilePlace) (c : Step) → IsInnerTake f t c.choice → moves p c 0 ≡ false
unfolding moves
empty_place f t p c take = ap (λ (o : Option TilePlace). is_some o) (by_tile (agent_tile c.agent == p.tile))
  where
    by_tile : (b : Bool) → (if b then agent_absorbed p (agent_kind c.agent) c.choice 0 else None) ≡ None
    by_tile true = no_agent f t p (agent_kind c.agent) c.choice take
    by_tile false = refl
