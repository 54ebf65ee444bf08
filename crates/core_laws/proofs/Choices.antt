-- The choices that a move leaves asleep: those of another agent that its operation can't enable.
use Rattle.std.proofs.Common.{◌≡◌, ◌≢◌, ℕ, ◌+◌, ◌==◌, ◌&&◌, inl, inr, Bool, true, false, List, Some, refl, sym, ◌∙◌, ap, subst, arith}
use Rattle.std.proofs.Common.{eq-eqb}
use Rattle.std.specs.Prelude.{◌||◌, not, nat_lt, is_none, option_and_then}
use Rattle.std.specs.List.{list_any}
use Rattle.std.proofs.lemmas.Bool.{ne_eqb}
use Rattle.std.proofs.lemmas.Option.{same_Some}
use Rattle.torus.specs.Shape.{tiles_of, dims_of}
use Rattle.torus.specs.declared.step.Step.{Step}
use Rattle.torus.specs.declared.step.Choice.{Choice}
use Rattle.torus.specs.declared.step.Choice.TheVariants as choice
use Rattle.packet.specs.declared.kinds.Op.{Op}
use Rattle.packet.specs.declared.kinds.Request.{Request as Asking}
use Rattle.channel_number.specs.Ports.{port_count}
use Rattle.flit_buffer.specs.Channel.{first_of}
use Rattle.flit_buffer.specs.Surroundings.{ports_of}
use Rattle.flit_buffer.specs.Wants.{PortEnds, input, output, want_op}
use Rattle.flit_buffer.specs.Words.{at}
use Rattle.flit_buffer.specs.declared.word_op.WordOp.{WordOp}
use Rattle.flit_buffer.specs.declared.word_op.WordOp.TheVariants as word_op
use Rattle.flit_buffer.specs.declared.want.Want.{Want}
use Rattle.flit_buffer.specs.declared.want.Want.TheVariants.{Take, Put, Credit, Access, Await}
use Rattle.flit_buffer.proofs.PortLaws.{some_if}
use Rattle.one_order.specs.Following.{is_finished}
use Rattle.one_order.specs.ProcessorRecord.{ready}
use Rattle.one_order.specs.ProcessorTable.{ProcessorState, processor_wants, flits_due}
use Rattle.home_bank.specs.BankTable.{bank_wants, is_nil}
use Rattle.home_bank.specs.ServiceList.{address_of}
use Rattle.core_laws.specs.Agent.{Agent}
use Rattle.core_laws.specs.Agent.TheVariants.{Processor, Router, Bank}
use Rattle.core_laws.specs.Tile.{Design, TileState}
use Rattle.core_laws.specs.Agents.{tile_wants, agent_kind, agent_tile}
use Rattle.core_laws.specs.Core.{Load, State, design_of, step, after}
use Rattle.core_laws.specs.Runs.{IsAcceptedLoad}
use Rattle.core_laws.proofs.AgentSteps.{option_map_some}
use Rattle.core_laws.specs.Attempts.{step_op}
use Rattle.core_laws.specs.Waking.{wiring_at, wanted, Meets, Disturbs}
use Rattle.core_laws.specs.Operations.{woken_by_operation}
use Rattle.core_laws.specs.ChoicesAsleep.{can_enable, OtherChoicesSleep, choices_woken}
use Rattle.core_laws.proofs.Operations.{op_is, accesses, in_memory_after, operations_tell}
use Rattle.core_laws.proofs.PortsMet.{none_of, true_isnt}
use Rattle.core_laws.proofs.RouterWants.{Seeks, seeks}
use Rattle.core_laws.proofs.Wakes.{ready_after, Asks, asks_of, tile_awaits, disturbed_wake, distant}

pub all_awake : (d : Design) (s : State) → OtherChoicesSleep d s (λ agent choice. true)
all_awake d s agent c out = absurd (cc)

-- which choices may want a flit, a credit, or to see a word
abbrev may_want : Want → Choice → Bool
may_want (Take i) c = can_enable (word_op.Store 0 0) c
may_want (Credit o) c = can_enable (word_op.Swap 0 0) c
may_want (Await n value) c = can_enable (word_op.Add 0 0) c
may_want (Put o flit) c = true
may_want (Access n act) c = true

abbrev May : Choice → Want → Type 0
May c w = may_want w c ≡ true

module _ (d : Design) (t : ℕ) (tile : TileState) (w : Want) where
  abbrev by : (c : Choice) (x : Want) → x ≡ w → May c x → May c w
  by c x e h = subst (May c) e h

  abbrev p : ProcessorState
  p = tile.processor

  of_processor : (c : Choice) → processor_wants (tiles_of d.shape) d.words t p c ≡ Some w → May c w
  of_processor choice.Send e =
      let f = option_map_some (λ flit. Put 0 flit) (first_of (flits_due (tiles_of d.shape) d.words t p.to_put (ready p.operations))) w e in
      by choice.Send (Put 0 f.0) f.2 refl
  of_processor choice.Take e = by choice.Take (Take 0) (same_Some _ _ e) refl
  of_processor choice.Credit e = by choice.Credit (Credit 0) (same_Some _ _ e) refl
  of_processor choice.Done e =
      let f = some_if (is_finished p.operations.following && not p.reported) _ w e in by choice.Done _ f.1 refl
  of_processor choice.Look e = let f = some_if (p.reported && not p.seen) (Await d.words (tiles_of d.shape)) w e in by choice.Look _ f.1 refl
  of_processor choice.Serve e = absurd (cc)
  of_processor (choice.TakeFrom i) e = absurd (cc)
  of_processor (choice.Put i) e = absurd (cc)
  of_processor (choice.CreditOf o) e = absurd (cc)

  of_bank : (c : Choice) → bank_wants (tiles_of d.shape) t tile.bank c ≡ Some w → May c w
  of_bank choice.Take e = let f = some_if (is_none tile.bank.waiting && is_nil tile.bank.to_put) (Take 0) w e in by choice.Take (Take 0) f.1 refl
  of_bank choice.Serve e =
      let f = option_map_some (λ (r : Asking). Access (address_of t (tiles_of d.shape) r.word) r.op) tile.bank.waiting w e in by choice.Serve _ f.2 refl
  of_bank choice.Send e = let f = option_map_some (λ flit. Put 0 flit) (first_of tile.bank.to_put) w e in by choice.Send (Put 0 f.0) f.2 refl
  of_bank choice.Credit e = by choice.Credit (Credit 0) (same_Some _ _ e) refl
  of_bank choice.Done e = absurd (cc)
  of_bank choice.Look e = absurd (cc)
  of_bank (choice.TakeFrom i) e = absurd (cc)
  of_bank (choice.Put i) e = absurd (cc)
  of_bank (choice.CreditOf o) e = absurd (cc)

  of_router : (c : Choice) → Seeks (port_count (dims_of d.shape)) c w → May c w
  of_router (choice.TakeFrom i) h = by (choice.TakeFrom i) (Take i) (sym h.1) refl
  of_router (choice.Put i) h = by (choice.Put i) (Put h.0 h.1) (sym h.2) refl
  of_router (choice.CreditOf o) h = by (choice.CreditOf o) (Credit o) (sym h.1) refl
  of_router choice.Send h = absurd h
  of_router choice.Take h = absurd h
  of_router choice.Credit h = absurd h
  of_router choice.Serve h = absurd h
  of_router choice.Done h = absurd h
  of_router choice.Look h = absurd h

  -- an agent's choice and what it wants
  may_be : (a : Agent) (c : Choice) → tile_wants d t tile a c ≡ Some w → May c w
  may_be Processor c e = of_processor c e
  may_be Router c e = of_router c (seeks d.shape t tile.router c w e)
  may_be Bank c e = of_bank c e

-- which choices an operation can enable hangs on its kind alone
swaps : (n v : ℕ) (c : Choice) → can_enable (word_op.Swap n v) c ≡ can_enable (word_op.Swap 0 0) c
swaps n v choice.Send = refl
swaps n v choice.Take = refl
swaps n v choice.Credit = refl
swaps n v choice.Serve = refl
swaps n v choice.Done = refl
swaps n v choice.Look = refl
swaps n v (choice.TakeFrom i) = refl
swaps n v (choice.Put i) = refl
swaps n v (choice.CreditOf o) = refl

stores : (n v : ℕ) (c : Choice) → can_enable (word_op.Store n v) c ≡ can_enable (word_op.Store 0 0) c
stores n v choice.Send = refl
stores n v choice.Take = refl
stores n v choice.Credit = refl
stores n v choice.Serve = refl
stores n v choice.Done = refl
stores n v choice.Look = refl
stores n v (choice.TakeFrom i) = refl
stores n v (choice.Put i) = refl
stores n v (choice.CreditOf o) = refl

adds : (n v : ℕ) (c : Choice) → can_enable (word_op.Add n v) c ≡ can_enable (word_op.Add 0 0) c
adds n v choice.Send = refl
adds n v choice.Take = refl
adds n v choice.Credit = refl
adds n v choice.Serve = refl
adds n v choice.Done = refl
adds n v choice.Look = refl
adds n v (choice.TakeFrom i) = refl
adds n v (choice.Put i) = refl
adds n v (choice.CreditOf o) = refl

module _ (l : Load) (ok : IsAcceptedLoad l) (steps : List Step) (attempt : Step) (op : WordOp) (by : step_op (design_of l) (after l steps) attempt ≡ Some op) where
  abbrev d : Design
  d = design_of l

  abbrev s : State
  s = after l steps

  abbrev ends : PortEnds
  ends = ports_of d.depth s.around (wiring_at d.shape attempt.agent)

  op_of : (want : Want) → wanted d s attempt ≡ Some want → want_op ends want ≡ Some op
  op_of want wants = sym (ap (option_and_then (want_op ends)) wants) ∙ (sym (op_is d s attempt) ∙ by)

  module _ (other : Step) where
    abbrev Met : Want → Want → Type 0
    Met want sought = Meets (wiring_at d.shape attempt.agent) want (wiring_at d.shape other.agent) sought

    abbrev c : Choice
    c = other.choice

    -- an access that brings the awaited value is an addition
    by_access : (n m value : ℕ) (act : Op) → n ≡ m → Asks d s (ready_after l ok steps) attempt (Access n act) → want_op ends (Access n act) ≡ Some op
        → Asks d s (ready_after l ok steps) other (Await m value)
        → May c (Await m value)
        → can_enable op c ≡ true
    by_access n m value act same x e y h =
        let done = (tile_awaits d (agent_tile other.agent) m value y.tile (agent_kind other.agent) c y.asks).0 in
        elim (accesses d (agent_tile attempt.agent) x.tile (in_memory_after l ok steps (agent_tile attempt.agent) x.tile x.here) n act
        (agent_kind attempt.agent) attempt.choice x.asks) [
          | inl k ↦
              ap (λ (z : WordOp). can_enable z c) (sym (same_Some _ _ e))
              ∙ (ap (λ (z : Op). can_enable (at (ends.words + n) z) c) k.1 ∙ (adds (ends.words + n) 1 c ∙ h))
          | inr k ↦ absurd (omega (arith, same, done, k))
        ]

    met : (want sought : Want) → wanted d s attempt ≡ Some want → wanted d s other ≡ Some sought → Met want sought → May c sought → can_enable op c ≡ true
    met (Take i) (Credit o) wants seeks m h =
        ap (λ (z : WordOp). can_enable z c) (sym (same_Some _ _ (op_of (Take i) wants)))
        ∙ (swaps ((input ends i).base + (input ends i).next) 0 c ∙ h)
    met (Put o flit) (Take i) wants seeks m h =
        let f = some_if (nat_lt 0 (output ends o).credits) (word_op.Store ((output ends o).base + (output ends o).next) flit) op (op_of (Put o flit) wants) in
        ap (λ (z : WordOp). can_enable z c) (sym f.1) ∙ (stores ((output ends o).base + (output ends o).next) flit c ∙ h)
    met (Access n act) (Await word value) wants seeks m h =
        by_access n word value act m (asks_of d s (ready_after l ok steps) attempt (Access n act) wants) (op_of (Access n act) wants)
        (asks_of d s (ready_after l ok steps) other (Await word value) seeks) h
    met (Take i) (Take j) wants seeks m h = absurd m
    met (Take i) (Put p more) wants seeks m h = absurd m
    met (Take i) (Access n act) wants seeks m h = absurd m
    met (Take i) (Await n value) wants seeks m h = absurd m
    met (Put o flit) (Put p more) wants seeks m h = absurd m
    met (Put o flit) (Credit p) wants seeks m h = absurd m
    met (Put o flit) (Access n act) wants seeks m h = absurd m
    met (Put o flit) (Await n value) wants seeks m h = absurd m
    met (Access n act) (Take j) wants seeks m h = absurd m
    met (Access n act) (Put p more) wants seeks m h = absurd m
    met (Access n act) (Credit p) wants seeks m h = absurd m
    met (Access n act) (Access k more) wants seeks m h = absurd m
    met (Credit o) (Take j) wants seeks m h = absurd m
    met (Credit o) (Put p more) wants seeks m h = absurd m
    met (Credit o) (Credit p) wants seeks m h = absurd m
    met (Credit o) (Access n act) wants seeks m h = absurd m
    met (Credit o) (Await n value) wants seeks m h = absurd m
    met (Await n value) (Take j) wants seeks m h = absurd m
    met (Await n value) (Put p more) wants seeks m h = absurd m
    met (Await n value) (Credit p) wants seeks m h = absurd m
    met (Await n value) (Access k act) wants seeks m h = absurd m
    met (Await n value) (Await k more) wants seeks m h = absurd m

    -- whom a move can enable looks for what its operation changes
    pub enabled : Disturbs d s attempt other → can_enable op c ≡ true
    enabled m =
        let y = asks_of d s (ready_after l ok steps) other m.sought m.seeks in
        met m.want m.sought m.wants m.seeks m.meets (may_be d (agent_tile other.agent) y.tile m.sought (agent_kind other.agent) c y.asks)

    -- and its agent is one that the operation wakes
    among : other.agent ≢ attempt.agent → Disturbs d s attempt other → list_any (λ k. k == other.agent) (woken_by_operation d op) ≡ true
    among ne m =
        let rest : Bool = list_any (λ k. k == other.agent) (woken_by_operation d op) in
        ap (λ (b : Bool). b || rest) (sym (ne_eqb attempt.agent other.agent (λ e. ne (sym e))))
        ∙ (sym (ap (list_any (λ k. k == other.agent)) (operations_tell l ok steps attempt op by))
        ∙ disturbed_wake d s (ready_after l ok steps) attempt other m)

  both : (a b : Bool) → a ≡ true → b ≡ true → (a && b) ≡ true
  both true b h k = k
  both false b h k = absurd (cc)

  -- no choice is enabled after a move that doesn't count as awake then
  pub kept : (next : State) → step d s attempt ≡ Some next → (awake : ℕ → Choice → Bool) → OtherChoicesSleep d s awake
      → OtherChoicesSleep d next (choices_woken d attempt.agent op awake)
  kept next moves awake sleep agent c out =
      let other : Step = record { agent = agent; choice = c } in
      let woken : Bool = list_any (λ k. k == agent) (woken_by_operation d op) in
      let x = none_of (awake agent c) ((agent == attempt.agent) || (can_enable op c && woken)) out in
      let y = none_of (agent == attempt.agent) (can_enable op c && woken) x.1 in
      let ne : agent ≢ attempt.agent = λ e. true_isnt (agent == attempt.agent) (eq-eqb agent attempt.agent e) y.0 in
      (distant d s (ready_after l ok steps) attempt next moves other ne
      (λ m. true_isnt (can_enable op c && woken) (both (can_enable op c) woken (enabled other m) (among other ne m)) y.1)).1 (sleep agent c x.0)
