-- The network of a machine, its packets there, and the event of the network that each step is.
use Rattle.std.specs.Prelude.{ℕ, if◌then◌else◌, List, [], ◌∷◌, Option, Some, None, option_map}
use Rattle.std.specs.Prelude.{option_and_then, slice_get}
use Rattle.torus.specs.Shape.{Shape, tiles_of}
use Rattle.torus.specs.declared.shape.Class.TheVariants as class
use Rattle.torus.specs.declared.step.Step.{Step}
use Rattle.torus.specs.declared.step.Choice.{Choice}
use Rattle.torus.specs.declared.step.Choice.TheVariants as choice
use Rattle.packet.specs.declared.heading.Head.{Head}
use Rattle.packet.specs.declared.kinds.Operation.{Operation}
use Rattle.packet.specs.declared.kinds.Packet.{Packet}
use Rattle.packet.specs.declared.kinds.Packet.TheVariants as packet
use Rattle.packet.specs.declared.kinds.Request.{Request}
use Rattle.packet.specs.declared.kinds.Response.{Response}
use Rattle.packet.specs.Flits.{flits_of, head_of}
use Rattle.flit_buffer.specs.Channel.{rest}
use Rattle.flit_buffer.specs.Surroundings.{Surroundings, ring}
use Rattle.channel_number.specs.Ports.{injection_channel, ejection_channel, input_channel, output_channel}
use Rattle.wormhole.specs.Net.{Net, Parcel}
use Rattle.wormhole.specs.Events.{NetEvent, InjectHead, InjectRest, Latch, ForwardHead, ForwardRest, Return}
use Rattle.wormhole.specs.Delivery.{accept}
use Rattle.core_laws.specs.TorusNet as torus_network
use Rattle.router.specs.Table.{RouterState, router_wants, latch_of, output_for}
use Rattle.router.specs.Beginning.{router_wiring}
use Rattle.one_order.specs.ProcessorRecord.{ready, request_of}
use Rattle.one_order.specs.ProcessorTable.{ProcessorState, processor_wants}
use Rattle.home_bank.specs.BankTable.{BankState, bank_wants}
use Rattle.tile.specs.Wiring.{processor_wiring, bank_wiring}
use Rattle.tile.specs.declared.agent.Agent.{Agent}
use Rattle.tile.specs.declared.agent.Agent.TheVariants.{Processor, Router, Bank}
use Rattle.tile.specs.Tile.{Design, TileState}
use Rattle.tile.specs.Agents.{agent_kind, agent_tile}
use Rattle.core_laws.specs.Heads.{carries_route}
use Rattle.core_laws.specs.Core.{State}
use Rattle.core_laws.specs.Moves.{learned_by}
use Rattle.core_laws.specs.Delivery.{next_flit, responses_made}

-- the network of a machine, by the channels' numbers
unfoldable pub net_of : Design → Net
net_of d = torus_network.torus_net d.shape d.depth

-- a packet as the network has it
unfoldable pub parcel_of : Shape → Packet → Parcel
parcel_of s p = torus_network.torus_parcel s p 0 (next_flit (flits_of p)) (rest (flits_of p))

abbrev pub request_parcel : Shape → Request → Parcel
request_parcel s r = parcel_of s (packet.Request r)

abbrev pub response_parcel : Shape → Response → Parcel
response_parcel s r = parcel_of s (packet.Response r)

-- the last of some responses
abbrev pub last_response : List Response → Option Response
last_response [] = None
last_response (r ∷ []) = Some r
last_response (r ∷ q ∷ rs) = last_response (q ∷ rs)

-- a flit comes to the receiving end of channel x, the first that is there
abbrev pub taken_there : Surroundings → ℕ → ℕ → NetEvent
taken_there around x flit = accept (carries_route flit) x flit (rest (ring around.rings x).channel.flits)

-- a flit goes from the latch behind x into y: a head, or one that follows (Dally and Towles,
-- chapter 16)
abbrev pub words_forwarded : Option Head → ℕ → ℕ → ℕ → NetEvent
words_forwarded (Some head) x y flit = ForwardHead x y flit
words_forwarded None x y flit = ForwardRest x y flit

module _ (d : Design) (t : ℕ) where
  -- the flit that a processor sends: the next of the request in course, or the head of the request
  -- that is ready
  abbrev pub request_event : List ℕ → Option (ℕ × Operation) → Option NetEvent
  request_event [] next = option_map (λ f. InjectHead (injection_channel d.shape t class.Request)
      (request_parcel d.shape (request_of (tiles_of d.shape) t f.0 f.1))) next
  request_event (flit ∷ more) next =
      Some (InjectRest (injection_channel d.shape t class.Request) flit more)

  -- the flit that a bank sends: the head of its last reply, or a further flit of it
  abbrev pub reply_event : BankState → List ℕ → Option NetEvent
  reply_event b [] = None
  reply_event b (flit ∷ more) =
      if carries_route flit
      then option_map (λ r. InjectHead (injection_channel d.shape t class.Reply)
      (response_parcel d.shape r))
      (last_response (responses_made t 0 b.entries))
      else Some (InjectRest (injection_channel d.shape t class.Reply) flit more)

  -- the flit in a latch goes to the output for it
  abbrev pub put_event : RouterState → ℕ → Option ℕ → Option NetEvent
  put_event r i None = None
  put_event r i (Some flit) =
      option_map (λ o. words_forwarded (head_of flit) (input_channel d.shape t i)
      (output_channel d.shape t o) flit)
      (output_for d.shape t r i (head_of flit))

  -- the event of a processor's choice, with what it learns: none where it looks or reports
  abbrev pub processor_event : ProcessorState → Surroundings → Choice → ℕ → Option NetEvent
  processor_event p around choice.Send learned = request_event p.to_put (ready p.operations)
  processor_event p around choice.Take flit =
      Some (taken_there around (ejection_channel d.shape t class.Reply) flit)
  processor_event p around choice.Credit learned =
      Some (Return (injection_channel d.shape t class.Request))
  processor_event p around _ learned = None

  -- the event of a router's choice
  abbrev pub router_event : RouterState → Surroundings → Choice → ℕ → Option NetEvent
  router_event r around (choice.TakeFrom i) flit =
      Some (Latch (input_channel d.shape t i) flit
      (rest (ring around.rings (input_channel d.shape t i)).channel.flits))
  router_event r around (choice.Put i) learned = put_event r i (latch_of r i)
  router_event r around (choice.CreditOf o) learned = Some (Return (output_channel d.shape t o))
  router_event r around _ learned = None

  -- the event of a bank's choice: none where it serves
  abbrev pub bank_event : BankState → Surroundings → Choice → ℕ → Option NetEvent
  bank_event b around choice.Take flit =
      Some (taken_there around (ejection_channel d.shape t class.Request) flit)
  bank_event b around choice.Send learned = reply_event b b.to_put
  bank_event b around choice.Credit learned =
      Some (Return (injection_channel d.shape t class.Reply))
  bank_event b around _ learned = None

  -- the event of a choice of one of a tile's agents; none where it isn't enabled
  abbrev pub tile_event : TileState → Surroundings → Agent → Choice → Option NetEvent
  tile_event tile around Processor choice =
      option_and_then (processor_event tile.processor around choice)
      (learned_by (processor_wants (tiles_of d.shape) d.words t) (processor_wiring d.shape t)
      tile.processor around choice)
  tile_event tile around Router choice = option_and_then (router_event tile.router around choice)
      (learned_by (router_wants d.shape t) (router_wiring d.shape t) tile.router around choice)
  tile_event tile around Bank choice = option_and_then (bank_event tile.bank around choice)
      (learned_by (bank_wants (tiles_of d.shape) t) (bank_wiring d.shape t) tile.bank around choice)

-- what a step is of the network: a flit or a credit that moves, or nothing (Dally and Towles,
-- chapters 13 and 16)
abbrev pub network_event : Design → State → Step → Option NetEvent
network_event d s attempt = option_and_then (λ tile.
    tile_event d (agent_tile attempt.agent) tile s.around (agent_kind attempt.agent)
    attempt.choice)
    (slice_get s.tiles (agent_tile attempt.agent))
