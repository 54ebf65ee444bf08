-- After a store nobody looks at the word that was there.
use Rattle.std.proofs.Common.{◌≡◌, ℕ, Bool, true, false, Option, Some, None, ap}
use Rattle.std.specs.Prelude.{if◌then◌else◌, is_none, is_some, unwrap_or, nat_lt, option_and_then, ◌&&◌}
use Rattle.torus.specs.Shape.{dims_of}
use Rattle.torus.specs.declared.step.Step.{Step}
use Rattle.torus.specs.declared.step.Choice.{Choice}
use Rattle.torus.specs.declared.step.Choice.TheVariants as choice
use Rattle.flit_buffer.specs.Wants.{want_op}
use Rattle.flit_buffer.specs.declared.want.Want.TheVariants.{Take}
use Rattle.flit_buffer.specs.declared.word_op.WordOp.TheVariants.{Store}
use Rattle.channel_number.specs.Ports.{port_count}
use Rattle.home_bank.specs.BankTable.{is_nil}
use Rattle.router.specs.Table.{latch_of, wants_to_take}
use Rattle.tile.specs.declared.agent.Agent.{Agent}
use Rattle.tile.specs.declared.agent.Agent.TheVariants.{Processor, Router, Bank}
use Rattle.tile.specs.Agents.{TilePlace, agent_op, agent_kind}
use Rattle.tile.proofs.OwnSteps.{blind}
use Rattle.tile.specs.Placed.{IsAcceptableTo}
use Rattle.core_laws.specs.Core.{Load}
use Rattle.fabric_rule.specs.Known.{op_of, moves, left_by, Suits}
use Rattle.fabric_rule.proofs.Runs.{own_op}

pub blind_moves : (p : TilePlace) (c : Step) (w v n m : ℕ) → op_of p c ≡ Some (Store w v) → moves p c n ≡ moves p c m
unfolding op_of moves
blind_moves p c w v n m e = ap (λ (o : Option TilePlace). is_some o) (blind p c w v n m e)

pub blind_left : (p : TilePlace) (c : Step) (w v n m : ℕ) → op_of p c ≡ Some (Store w v) → left_by p c n ≡ left_by p c m
unfolding op_of left_by
blind_left p c w v n m e = ap (λ (o : Option TilePlace). unwrap_or o p) (blind p c w v n m e)

-- a take is no store
module _ (p : TilePlace) (w v : ℕ) where
  by_latch : (i : ℕ) (o : Option ℕ) → option_and_then (λ want. want_op p.router.ports want) (wants_to_take p.design.shape p.tile i o) ≡ Some (Store w v) → ⊥
  by_latch i None e = cc
  by_latch i (Some flit) e = cc

  by_port : (i : ℕ) (b : Bool)
      → option_and_then (λ want. want_op p.router.ports want) (if b then wants_to_take p.design.shape p.tile i (latch_of p.router.state i) else None)
      ≡ Some (Store w v) → ⊥
  by_port i true e = by_latch i (latch_of p.router.state i) e
  by_port i false e = cc

  by_rest : (b : Bool) → option_and_then (λ want. want_op p.bank.ports want) (if b then Some (Take 0) else None) ≡ Some (Store w v) → ⊥
  by_rest true e = cc
  by_rest false e = cc

  no_take : agent_op p Processor choice.Take ≡ Some (Store w v) → ⊥
  no_take e = cc

accepts : (p : TilePlace) (w v n m : ℕ) (a : Agent) (c : Choice) → agent_op p a c ≡ Some (Store w v) → IsAcceptableTo p a c n → IsAcceptableTo p a c m
accepts p w v n m Processor choice.Take e k = absurd (no_take p w v e)
accepts p w v n m Processor choice.Send e k = tt
accepts p w v n m Processor choice.Credit e k = tt
accepts p w v n m Processor choice.Done e k = tt
accepts p w v n m Processor choice.Look e k = tt
accepts p w v n m Processor choice.Serve e k = tt
accepts p w v n m Processor (choice.TakeFrom i) e k = tt
accepts p w v n m Processor (choice.Put i) e k = tt
accepts p w v n m Processor (choice.CreditOf i) e k = tt
accepts p w v n m Router (choice.TakeFrom i) e k = absurd (by_port p w v i (nat_lt i (port_count (dims_of p.design.shape))) e)
accepts p w v n m Router choice.Take e k = tt
accepts p w v n m Router choice.Send e k = tt
accepts p w v n m Router choice.Credit e k = tt
accepts p w v n m Router choice.Done e k = tt
accepts p w v n m Router choice.Look e k = tt
accepts p w v n m Router choice.Serve e k = tt
accepts p w v n m Router (choice.Put i) e k = tt
accepts p w v n m Router (choice.CreditOf i) e k = tt
accepts p w v n m Bank choice.Take e k = absurd (by_rest p w v (is_none p.bank.state.waiting && is_nil p.bank.state.to_put) e)
accepts p w v n m Bank choice.Send e k = tt
accepts p w v n m Bank choice.Credit e k = tt
accepts p w v n m Bank choice.Done e k = tt
accepts p w v n m Bank choice.Look e k = tt
accepts p w v n m Bank choice.Serve e k = tt
accepts p w v n m Bank (choice.TakeFrom i) e k = tt
accepts p w v n m Bank (choice.Put i) e k = tt
accepts p w v n m Bank (choice.CreditOf i) e k = tt

pub blind_suits : (load : Load) (p : TilePlace) (c : Step) (w v n m : ℕ) → op_of p c ≡ Some (Store w v) → Suits load p c n → Suits load p c m
unfolding op_of Suits
blind_suits load p c w v n m e k = (accepts p w v n m (agent_kind c.agent) c.choice (own_op _ _ (Store w v) e) k.0, k.1)
