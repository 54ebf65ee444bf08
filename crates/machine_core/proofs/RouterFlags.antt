-- Which choices of routers count as awake: after a move, once one has fallen asleep, and after attempts that leave out those asleep.
use Rattle.std.proofs.Common.{◌≡◌, ◌≢◌, inl, inr, ℕ, Bool, true, false, List, Option, Some, None, refl, sym, ◌∙◌, ap, subst, arith}
use Rattle.std.proofs.Common.{slice_get, replicate}
use Rattle.std.specs.Prelude.{◌==◌, ◌&&◌, not, nat_lt, option_map, option_and_then, slice_index_or}
use Rattle.std.proofs.lemmas.Bool.{eqb-true, cases_lt}
use Rattle.std.proofs.lemmas.List.{get_or-replicate, get_or_past, length-replicate}
use Rattle.std.proofs.lemmas.Option.{slice_get-map}
use Rattle.torus.specs.Shape.{dims_of}
use Rattle.torus.specs.declared.step.Step.{Step}
use Rattle.torus.specs.declared.step.Choice.{Choice}
use Rattle.script_lines.specs.declared.line.Line.{Line}
use Rattle.channel_number.specs.Ports.{port_count}
use Rattle.flit_buffer.specs.declared.word_op.WordOp.{WordOp}
use Rattle.tile.specs.declared.agent.Agent.{Agent}
use Rattle.tile.specs.declared.agent.Agent.TheVariants.{Processor, Router, Bank}
use Rattle.tile.specs.Tile.{Design, TileState}
use Rattle.router.specs.Table.{latch_of}
use Rattle.tile.specs.Agents.{agent_number, agent_kind, agent_tile}
use Rattle.tile.proofs.AgentNumbers.{kind_of_number, number_is}
use Rattle.machine_parts.specs.Core.{Load, State, design_of, step, after, first_state, first_tile}
use Rattle.machine_parts.specs.Runs.{IsAcceptedLoad}
use Rattle.machine_parts.specs.Attempts.{step_op}
use Rattle.machine_parts.specs.Routers.{PortFlags, OtherPortsSleep, latch_at, ports_woken, router_moved}
use Rattle.machine_parts.proofs.PortsKept.{woken_after, moved_after}
use Rattle.machine_parts.specs.Ports.{AwakePorts, flags_of, fresh_ports, lowered}

-- after a move of an agent: a router's frees choices of its own too
abbrev pub ports_by : Agent → Design → ℕ → Choice → WordOp → PortFlags → PortFlags
ports_by Processor d t choice op f = ports_woken d op f
ports_by Router d t choice op f = router_moved t choice (ports_woken d op f)
ports_by Bank d t choice op f = ports_woken d op f

-- the flags are those after the move
pub record FollowMove (a : Agent) (old new : AwakePorts) (t : ℕ) (choice : Choice) (op : WordOp) : Type 0 where
  pub design : new.design ≡ old.design
  pub flags : flags_of new ≡ ports_by a old.design t choice op (flags_of old)

-- before any step no latch holds a flit
none_in : {A : Type 0} (n i : ℕ) → slice_index_or {A = Option A} (replicate n None) i None ≡ None
none_in {A} n i = elim (cases_lt i n) [
  | inl l ↦ get_or-replicate n i None None l
  | inr h ↦ let long = length-replicate {A = Option A} n None in get_or_past (replicate n None) i None (omega (arith, h, long))
]

first_latches : (l : Load) (t i : ℕ) → latch_at (first_state l) t i ≡ None
first_latches l t i =
    ap (option_and_then (λ tile. latch_of tile.router i)) (slice_get-map (first_tile (dims_of l.shape) l.tags) l.scripts t)
    ∙ by_script (slice_get l.scripts t)
  where
    by_script : (o : Option (List Line))
        → option_and_then (λ (tile : TileState). latch_of tile.router i) (option_map (first_tile (dims_of l.shape) l.tags) o) ≡ None
    by_script None = refl
    by_script (Some lines) = none_in (port_count (dims_of l.shape)) i

pub fresh_sleep : (l : Load) → OtherPortsSleep (design_of l) (first_state l) fresh_ports
fresh_sleep l = record {
  takes = λ t i out. absurd (cc);
  puts = λ t i out. absurd (cc);
  credits = λ t o out. absurd (cc);
  full = λ t i out. first_latches l t i;
}

module _ (l : Load) (ok : IsAcceptedLoad l) (steps : List Step) (attempt : Step) (op : WordOp) (next : State) (w : AwakePorts) (built : w.design ≡ design_of l)
    (sleep : OtherPortsSleep (design_of l) (after l steps) (flags_of w)) (by : step_op (design_of l) (after l steps) attempt ≡ Some op)
    (moves : step (design_of l) (after l steps) attempt ≡ Some next) where
  -- no router moved where another kind of agent did
  no_router : (a : Agent) → (a ≡ Router → ⊥) → agent_kind attempt.agent ≡ a → (t : ℕ) → agent_number t Router ≢ attempt.agent
  no_router a other is t e = other (sym is ∙ (ap agent_kind (sym e) ∙ kind_of_number t Router))

  others_kept : (a : Agent) → (a ≡ Router → ⊥) → agent_kind attempt.agent ≡ a → OtherPortsSleep (design_of l) next (ports_woken w.design op (flags_of w))
  others_kept a other is =
      subst (λ (d : Design). OtherPortsSleep (design_of l) next (ports_woken d op (flags_of w))) (sym built)
      (woken_after l ok steps attempt op next (flags_of w) by moves (no_router a other is) sleep)

  pub ports_kept : (a : Agent) → agent_kind attempt.agent ≡ a
      → OtherPortsSleep (design_of l) next (ports_by a w.design (agent_tile attempt.agent) attempt.choice op (flags_of w))
  ports_kept Processor is = others_kept Processor (λ e. cc) is
  ports_kept Bank is = others_kept Bank (λ e. cc) is
  ports_kept Router is =
      let t : ℕ = agent_tile attempt.agent in
      let e : attempt.agent ≡ agent_number t Router = number_is attempt.agent t Router refl is in
      subst (λ (d : Design). OtherPortsSleep (design_of l) next (router_moved t attempt.choice (ports_woken d op (flags_of w)))) (sym built)
      (moved_after l ok steps t attempt.choice op next (flags_of w)
      (subst (λ (n : ℕ). step_op (design_of l) (after l steps) (record { agent = n; choice = attempt.choice }) ≡ Some op) e by)
      (subst (λ (n : ℕ). step (design_of l) (after l steps) (record { agent = n; choice = attempt.choice }) ≡ Some next) e moves)
      sleep)

-- a flag that is lowered was before, or is that of the port
pub lowered_is : (f : ℕ → ℕ → Bool) (t i : ℕ) (P : ℕ → ℕ → Type 0) → ((u k : ℕ) → f u k ≡ false → P u k) → P t i
    → (u k : ℕ) → lowered f t i u k ≡ false → P u k
lowered_is f t i P before here u k = by_flag (f u k) (u == t) (k == i) refl refl refl
  where
    by_flag : (a b c : Bool) → f u k ≡ a → (u == t) ≡ b → (k == i) ≡ c → (a && not (b && (c && nat_lt k 32))) ≡ false → P u k
    by_flag false b c e g h out = before u k e
    by_flag true true true e g h out =
        subst (λ (n : ℕ). P n k) (sym (eqb-true u t g)) (subst (λ (n : ℕ). P t n) (sym (eqb-true k i h)) here)
    by_flag true true false e g h out = absurd (cc)
    by_flag true false c e g h out = absurd (cc)
