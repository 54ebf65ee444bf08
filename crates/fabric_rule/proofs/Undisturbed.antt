-- What an attempt at a tile of another group leaves of an inner choice.
use Rattle.std.proofs.Common.{◌≡◌, ◌↔◌, ℕ, List, [], ◌∷◌, ◌++◌, Option, Some, None, refl, sym, ap, ◌∙◌, subst, append_assoc}
use Rattle.std.specs.Prelude.{not, ◌&&◌, is_some, is_none}
use Rattle.std.proofs.lemmas.List.{append-nil}
use Rattle.std.proofs.lemmas.Option.{same_Some}
use Rattle.torus.specs.Shape.{Shape, tiles_of, dims_of}
use Rattle.torus.specs.declared.step.Step.{Step}
use Rattle.torus.specs.declared.step.Choice.{Choice}
use Rattle.torus.specs.declared.step.Choice.TheVariants as choice
use Rattle.packet.specs.declared.kinds.Op.TheVariants.{Add}
use Rattle.packet.specs.declared.kinds.Request.{Request as Asking}
use Rattle.channel_number.specs.Ports.{port_count}
use Rattle.flit_buffer.specs.Channel.{first_of}
use Rattle.flit_buffer.specs.declared.want.Want.{Want}
use Rattle.flit_buffer.specs.declared.want.Want.TheVariants.{Take, Put, Credit, Access, Await}
use Rattle.flit_buffer.proofs.PortLaws.{some_if}
use Rattle.one_order.specs.Following.{is_finished}
use Rattle.one_order.specs.ProcessorRecord.{ready}
use Rattle.one_order.specs.ProcessorTable.{ProcessorState, processor_wants, flits_due}
use Rattle.home_bank.specs.BankTable.{bank_wants, is_nil}
use Rattle.home_bank.specs.ServiceList.{address_of}
use Rattle.tile.specs.declared.agent.Agent.{Agent}
use Rattle.tile.specs.declared.agent.Agent.TheVariants.{Processor, Router, Bank}
use Rattle.tile.specs.Tile.{Design, TileState}
use Rattle.tile.specs.Agents.{tile_wants, agent_kind, agent_tile}
use Rattle.tile.proofs.AgentNumbers.{number_of_agent}
use Rattle.core_laws.specs.Core.{Load, State, design_of, step, or_same, next, after}
use Rattle.core_laws.specs.Runs.{IsAcceptedLoad}
use Rattle.core_laws.proofs.AgentSteps.{option_map_some}
use Rattle.core_laws.specs.Waking.{receiver_of, sender_of, wiring_at, Meets, Disturbs}
use Rattle.core_laws.proofs.WakeEnds.{receiver_is, sender_is}
use Rattle.core_laws.proofs.RouterWants.{Seeks, seeks}
use Rattle.core_laws.proofs.Wakes.{IsReady, ready_after, Asks, asks_of, low, possible_of, distant}
use Rattle.fabric_rule.specs.Known.{tile_of, enabled}
use Rattle.fabric_rule.specs.Groups.{In, Others}
use Rattle.fabric_rule.proofs.Runs.{after_one}
use Rattle.fabric_rule.specs.Inner.{tile_before, tile_behind, IsInner}

-- of what an inner choice wants the other end is in the groups
abbrev Sought : Shape → List (List ℕ) → ℕ → Want → Type 0
Sought s gs agent (Take i) = In gs (tile_before s agent i)
Sought s gs agent (Credit o) = In gs (tile_behind s agent o)
Sought s gs agent (Await n value) = ⊥
Sought s gs agent (Put o flit) = Unit {0}
Sought s gs agent (Access n act) = Unit {0}

module _ (d : Design) (gs : List (List ℕ)) (agent t : ℕ) (tile : TileState) (w : Want) where
  abbrev by : (x : Want) → x ≡ w → Sought d.shape gs agent x → Sought d.shape gs agent w
  by x e h = subst (Sought d.shape gs agent) e h

  abbrev p : ProcessorState
  p = tile.processor

  of_processor : (c : Choice) → processor_wants (tiles_of d.shape) d.words t p c ≡ Some w → IsInner d.shape gs agent c → Sought d.shape gs agent w
  of_processor choice.Send e h =
      let f = option_map_some (λ flit. Put 0 flit) (first_of (flits_due (tiles_of d.shape) d.words t p.to_put (ready p.operations))) w e in
      by (Put 0 f.0) f.2 tt
  of_processor choice.Take e h = by (Take 0) (same_Some _ _ e) h
  of_processor choice.Credit e h = by (Credit 0) (same_Some _ _ e) h
  of_processor choice.Done e h =
      let f = some_if (is_finished p.operations.following && not p.reported) (Access d.words (Add 1)) w e in by (Access d.words (Add 1)) f.1 tt
  of_processor choice.Look e h = absurd h
  of_processor choice.Serve e h = absurd (cc)
  of_processor (choice.TakeFrom i) e h = absurd (cc)
  of_processor (choice.Put i) e h = absurd (cc)
  of_processor (choice.CreditOf o) e h = absurd (cc)

  of_bank : (c : Choice) → bank_wants (tiles_of d.shape) t tile.bank c ≡ Some w → IsInner d.shape gs agent c → Sought d.shape gs agent w
  of_bank choice.Take e h = let f = some_if (is_none tile.bank.waiting && is_nil tile.bank.to_put) (Take 0) w e in by (Take 0) f.1 h
  of_bank choice.Serve e h =
      let f = option_map_some (λ (r : Asking). Access (address_of t (tiles_of d.shape) r.word) r.op) tile.bank.waiting w e in
      by (Access (address_of t (tiles_of d.shape) f.0.word) f.0.op) f.2 tt
  of_bank choice.Send e h = let f = option_map_some (λ flit. Put 0 flit) (first_of tile.bank.to_put) w e in by (Put 0 f.0) f.2 tt
  of_bank choice.Credit e h = by (Credit 0) (same_Some _ _ e) h
  of_bank choice.Done e h = absurd (cc)
  of_bank choice.Look e h = absurd (cc)
  of_bank (choice.TakeFrom i) e h = absurd (cc)
  of_bank (choice.Put i) e h = absurd (cc)
  of_bank (choice.CreditOf o) e h = absurd (cc)

  of_router : (c : Choice) → Seeks (port_count (dims_of d.shape)) c w → IsInner d.shape gs agent c → Sought d.shape gs agent w
  of_router (choice.TakeFrom i) k h = by (Take i) (sym k.1) h
  of_router (choice.Put i) k h = by (Put k.0 k.1) (sym k.2) tt
  of_router (choice.CreditOf o) k h = by (Credit o) (sym k.1) h
  of_router choice.Send k h = absurd k
  of_router choice.Take k h = absurd k
  of_router choice.Credit k h = absurd k
  of_router choice.Serve k h = absurd k
  of_router choice.Done k h = absurd k
  of_router choice.Look k h = absurd k

  sought : (a : Agent) (c : Choice) → tile_wants d t tile a c ≡ Some w → IsInner d.shape gs agent c → Sought d.shape gs agent w
  sought Processor c e h = of_processor c e h
  sought Router c e h = of_router c (seeks d.shape t tile.router c w e) h
  sought Bank c e h = of_bank c e h

none_alike : (o p : Option State) → (o ≡ None) ↔ (p ≡ None) → is_some o ≡ is_some p
none_alike None None h = refl
none_alike (Some s) (Some t) h = refl
none_alike None (Some t) h = let e = h.0 refl in absurd (cc)
none_alike (Some s) None h = let e = h.1 refl in absurd (cc)

module _ (l : Load) (ok : IsAcceptedLoad l) (gs : List (List ℕ)) (c : Step) (mine : In gs (tile_of c)) (inner : IsInner l.shape gs c.agent c.choice) where
  abbrev d : Design
  d = design_of l

  module _ (run : List Step) (x : Step) (out : In gs (tile_of x) → ⊥) where
    abbrev s : State
    s = after l run

    abbrev is_ready : IsReady d s
    is_ready = ready_after l ok run

    met : (want looks : Want) → Asks d s is_ready x want → Meets (wiring_at l.shape x.agent) want (wiring_at l.shape c.agent) looks → Sought l.shape gs c.agent looks → ⊥
    met (Take i) (Credit o) y m h =
        out (subst (In gs)
        (ap agent_tile (ap (receiver_of l.shape) (sym m)
        ∙ (receiver_is l.shape is_ready.shape (agent_tile x.agent) (low d s is_ready x (Take i) y) (agent_kind x.agent) i (possible_of d s is_ready x (Take i) y)
        ∙ number_of_agent x.agent)))
        h)
    met (Put o flit) (Take i) y m h =
        out (subst (In gs)
        (ap agent_tile (ap (sender_of l.shape) (sym m)
        ∙ (sender_is l.shape is_ready.shape (agent_tile x.agent) (low d s is_ready x (Put o flit) y) (agent_kind x.agent) o
        (possible_of d s is_ready x (Put o flit) y).0
        ∙ number_of_agent x.agent)))
        h)
    met (Access n act) (Await k value) y m h = absurd h
    met (Take i) (Take j) y m h = absurd m
    met (Take i) (Put p more) y m h = absurd m
    met (Take i) (Access n act) y m h = absurd m
    met (Take i) (Await n value) y m h = absurd m
    met (Put o flit) (Put p more) y m h = absurd m
    met (Put o flit) (Credit p) y m h = absurd m
    met (Put o flit) (Access n act) y m h = absurd m
    met (Put o flit) (Await n value) y m h = absurd m
    met (Credit o) (Take j) y m h = absurd m
    met (Credit o) (Put p more) y m h = absurd m
    met (Credit o) (Credit p) y m h = absurd m
    met (Credit o) (Access n act) y m h = absurd m
    met (Credit o) (Await n value) y m h = absurd m
    met (Access n act) (Take j) y m h = absurd m
    met (Access n act) (Put p more) y m h = absurd m
    met (Access n act) (Credit p) y m h = absurd m
    met (Access n act) (Access k more) y m h = absurd m
    met (Await n value) (Take j) y m h = absurd m
    met (Await n value) (Put p more) y m h = absurd m
    met (Await n value) (Credit p) y m h = absurd m
    met (Await n value) (Access k act) y m h = absurd m
    met (Await n value) (Await k more) y m h = absurd m

    calm : Disturbs d s x c → ⊥
    calm m =
        let y = asks_of d s is_ready c m.sought m.seeks in
        met m.want m.sought (asks_of d s is_ready x m.want m.wants) m.meets
        (sought d gs c.agent (agent_tile c.agent) y.tile m.sought (agent_kind c.agent) c.choice y.asks inner)

    by_step : (o : Option State) → step d s x ≡ o → is_some (step d (next d s x) c) ≡ is_some (step d s c)
    by_step None is = ap (λ (o : Option State). is_some (step d (or_same s o) c)) is
    by_step (Some then) is =
        ap (λ (o : Option State). is_some (step d (or_same s o) c)) is
        ∙ none_alike (step d then c) (step d s c)
        (distant d s is_ready x then is c (λ e. out (subst (λ (k : ℕ). In gs (agent_tile k)) e mine)) calm)

    pub one : enabled l (run ++ x ∷ []) c ≡ enabled l run c
    unfolding enabled
    one = ap (λ (z : State). is_some (step d z c)) (after_one l run x) ∙ by_step (step d s x) refl

  pub many : (run between : List Step) → Others gs between → enabled l (run ++ between) c ≡ enabled l run c
  many run [] o = ap (λ (r : List Step). enabled l r c) (append-nil run)
  many run (x ∷ more) o =
      ap (λ (r : List Step). enabled l r c) (sym (append_assoc run (x ∷ []) more))
      ∙ (many (run ++ x ∷ []) more o.1 ∙ one run x o.0)
