-- The flags of a seat by port: what attempts of others, and its own moves, leave of them.
use Rattle.std.proofs.Common.{◌≡◌, ◌≢◌, ℕ, true, List, [], ◌∷◌, ◌++◌, Option, Some, None, refl, sym, ap, ◌∙◌, subst, slice_get}
use Rattle.std.specs.Prelude.{option_map, option_and_then}
use Rattle.torus.specs.declared.step.Step.{Step}
use Rattle.torus.specs.declared.step.Choice.{Choice}
use Rattle.torus.specs.declared.step.Choice.TheVariants as choice
use Rattle.flit_buffer.specs.declared.word_op.WordOp.{WordOp}
use Rattle.router.specs.Table.{latch_of}
use Rattle.tile.specs.declared.agent.Agent.TheVariants.{Router}
use Rattle.tile.specs.Tile.{Design, TileState}
use Rattle.tile.specs.Agents.{TilePlace, tile_placed, agent_number}
use Rattle.tile.proofs.AgentNumbers.{tile_of_number}
use Rattle.core_laws.specs.Core.{Load, State, design_of, step, after}
use Rattle.core_laws.specs.Runs.{IsAcceptedLoad}
use Rattle.core_laws.specs.Attempts.{tile_in}
use Rattle.core_laws.specs.Routers.{PortFlags, OtherPortsSleep, of_router, latch_at, ports_woken, router_moved}
use Rattle.core_laws.proofs.PortsKept.{woken_after, moved_after}
use Rattle.fabric_rule.specs.Known.{tile_of, known, enabled, op_of}
use Rattle.fabric_rule.specs.Groups.{In, Others}
use Rattle.fabric_rule.proofs.Groups.{away}
use Rattle.fabric_rule.proofs.Runs.{known_away}
use Rattle.fabric_rule.specs.Inner.{IsInner}
use Rattle.fabric_rule.specs.Sleeping.{PortsRestInside}
use Rattle.fabric_rule.proofs.Flags as flags

-- a latch, as the tile in its place has it
abbrev latch_in : Option TilePlace → ℕ → Option ℕ
latch_in o i = option_and_then (λ (p : TilePlace). latch_of p.router.state i) o

by_place : (d : Design) (s : State) (t i : ℕ) → latch_at s t i ≡ latch_in (tile_in d s t) i
by_place d s t i = by_tile (slice_get s.tiles t)
  where
    by_tile : (o : Option TileState) → option_and_then (λ (tile : TileState). latch_of tile.router i) o
        ≡ latch_in (option_map (λ (tile : TileState). tile_placed d t tile s.around) o) i
    by_tile None = refl
    by_tile (Some tile) = refl

same_place : (l : Load) (ok : IsAcceptedLoad l) (gs : List (List ℕ)) (run between : List Step) → Others gs between → (t : ℕ) → In gs t
    → tile_in (design_of l) (after l (run ++ between)) t ≡ tile_in (design_of l) (after l run) t
unfolding known
same_place l ok gs run between others t mine = known_away l ok run between t (away gs t between mine others)

module _ (l : Load) (ok : IsAcceptedLoad l) (gs : List (List ℕ)) (run between : List Step) (others : Others gs between) (f : PortFlags)
    (sleep : OtherPortsSleep (design_of l) (after l run) f) (inside : PortsRestInside l.shape gs f) where
  abbrev d : Design
  d = design_of l

  abbrev far : List Step
  far = run ++ between

  own : (t : ℕ) → In gs t → In gs (tile_of (record { agent = agent_number t Router; choice = choice.Look }))
  own t mine = subst (In gs) (sym (tile_of_number t Router)) mine

  idle_of : (t : ℕ) (c : Choice) → In gs t → IsInner l.shape gs (agent_number t Router) c → step d (after l run) (of_router t c) ≡ None
      → step d (after l far) (of_router t c) ≡ None
  idle_of t c mine inner none = flags.still_idle l ok gs run between others (of_router t c) (own t mine) inner none

  pub others_keep : OtherPortsSleep d (after l far) f
  others_keep = record {
    takes = λ t i out. let k = inside.takes t i out in idle_of t (choice.TakeFrom i) k.0 k.1 (sleep.takes t i out);
    puts = λ t i out. idle_of t (choice.Put i) (inside.puts t i out) tt (sleep.puts t i out);
    credits = λ t o out. let k = inside.credits t o out in idle_of t (choice.CreditOf o) k.0 k.1 (sleep.credits t o out);
    full = λ t i out.
        by_place d (after l far) t i
        ∙ (ap (λ (o : Option TilePlace). latch_in o i) (same_place l ok gs run between others t (inside.full t i out))
        ∙ (sym (by_place d (after l run) t i) ∙ sleep.full t i out));
  }

  pub moved_keep : (c : Step) (p : TilePlace) (op : WordOp) → In gs (tile_of c) → known l run (tile_of c) ≡ Some p → op_of p c ≡ Some op
      → enabled l far c ≡ true → ((t : ℕ) → agent_number t Router ≢ c.agent)
      → OtherPortsSleep d (after l (far ++ c ∷ [])) (ports_woken d op f)
  moved_keep c p op mine here asks can other =
      subst (λ (z : State). OtherPortsSleep d z (ports_woken d op f)) (sym (flags.leads l ok gs run between others c p op mine here asks can))
      (woken_after l ok far c op (flags.then l ok gs run between others c p op mine here asks can) f
      (flags.by l ok gs run between others c p op mine here asks can)
      (flags.makes l ok gs run between others c p op mine here asks can) other others_keep)

  pub router_keep : (t : ℕ) (c : Choice) (p : TilePlace) (op : WordOp) → In gs t → known l run t ≡ Some p → op_of p (of_router t c) ≡ Some op
      → enabled l far (of_router t c) ≡ true
      → OtherPortsSleep d (after l (far ++ of_router t c ∷ [])) (router_moved t c (ports_woken d op f))
  router_keep t c p op mine here asks can =
      let x : Step = of_router t c in
      let at : known l run (tile_of x) ≡ Some p = subst (λ (u : ℕ). known l run u ≡ Some p) (sym (tile_of_number t Router)) here in
      subst (λ (z : State). OtherPortsSleep d z (router_moved t c (ports_woken d op f)))
      (sym (flags.leads l ok gs run between others x p op (own t mine) at asks can))
      (moved_after l ok far t c op (flags.then l ok gs run between others x p op (own t mine) at asks can) f
      (flags.by l ok gs run between others x p op (own t mine) at asks can)
      (flags.makes l ok gs run between others x p op (own t mine) at asks can) others_keep)
