-- What a seat counts as asleep, after attempts of others and after a move of its own.
use Rattle.std.proofs.Common.{◌≡◌, ◌≢◌, ℕ, Bool, true, false, List, [], ◌∷◌, ◌++◌, Some, refl, sym, ap, ◌∙◌, subst}
use Rattle.std.specs.Prelude.{◌==◌, ◌&&◌, ◌||◌, not, nat_lt}
use Rattle.std.proofs.lemmas.Bool.{eqb-true}
use Rattle.torus.specs.Shape.{Shape}
use Rattle.torus.specs.declared.step.Step.{Step}
use Rattle.torus.specs.declared.step.Choice.{Choice}
use Rattle.flit_buffer.specs.declared.word_op.WordOp.{WordOp}
use Rattle.tile.specs.declared.agent.Agent.TheVariants.{Router}
use Rattle.tile.specs.Tile.{Design}
use Rattle.tile.specs.Agents.{TilePlace, agent_number, agent_kind}
use Rattle.tile.proofs.AgentNumbers.{tile_of_number, kind_of_number}
use Rattle.core_laws.specs.Core.{Load, design_of}
use Rattle.core_laws.specs.Runs.{IsAcceptedLoad}
use Rattle.core_laws.specs.ChoicesAsleep.{choices_woken}
use Rattle.core_laws.specs.Routers.{PortFlags, of_router, brings_flit, returns_credit, empties, fills, frees_put, full_after, ports_woken, router_moved}
use Rattle.core_laws.proofs.PortsMet.{none_of}
use Rattle.fabric_rule.specs.Known.{tile_of, known, enabled, op_of}
use Rattle.fabric_rule.specs.Groups.{In, Others}
use Rattle.fabric_rule.specs.Sleeping.{PortsRestInside, Sleeps}
use Rattle.fabric_rule.proofs.Flags as flags
use Rattle.fabric_rule.proofs.Ports as ports

module _ (gs : List (List ℕ)) (s : Shape) (d : Design) (op : WordOp) where
  pub woken_inside : (f : PortFlags) → PortsRestInside s gs f → PortsRestInside s gs (ports_woken d op f)
  woken_inside f k = record {
    takes = λ t i out. k.takes t i (none_of (f.takes t i) (brings_flit d op t i) out).0;
    puts = k.puts;
    credits = λ t o out. k.credits t o (none_of (f.credits t o) (returns_credit d op t o) out).0;
    full = k.full;
  }

  module _ (t : ℕ) (own : In gs t) (c : Choice) where
    still_full : (g : PortFlags) → ((u i : ℕ) → g.full u i ≡ false → In gs u) → (u i : ℕ) → full_after t c g.full u i ≡ false → In gs u
    still_full g before u i = by_flags (g.full u i) (u == t) refl refl
      where
        by_flags : (a b : Bool) → g.full u i ≡ a → (u == t) ≡ b → ((a && not (b && (empties c i && nat_lt i 32))) || (b && fills c i)) ≡ false → In gs u
        by_flags false b e h out = before u i e
        by_flags true true e h out = subst (In gs) (sym (eqb-true u t h)) own
        by_flags true false e h out = absurd (cc)

    pub moved_inside : (g : PortFlags) → PortsRestInside s gs g → PortsRestInside s gs (router_moved t c g)
    moved_inside g k = record {
      takes = λ u i out. k.takes u i (none_of (g.takes u i) ((u == t) && empties c i) out).0;
      puts = λ u i out. k.puts u i (none_of (g.puts u i) ((u == t) && (frees_put c i && full_after t c g.full u i)) out).0;
      credits = k.credits;
      full = λ u i out. still_full g k.full u i out;
    }

module _ (l : Load) (ok : IsAcceptedLoad l) (gs : List (List ℕ)) (run between : List Step) (awake : ℕ → Choice → Bool) (f : PortFlags)
    (sleep : Sleeps l run gs awake f) (others : Others gs between) where
  abbrev d : Design
  d = design_of l

  pub others_keep : Sleeps l (run ++ between) gs awake f
  others_keep = record {
    choices = flags.others_keep l ok gs run between others awake sleep.choices sleep.inside;
    inside = sleep.inside;
    ports = ports.others_keep l ok gs run between others f sleep.ports sleep.ports_inside;
    ports_inside = sleep.ports_inside;
  }

  pub moved_keep : (c : Step) (p : TilePlace) (op : WordOp) → In gs (tile_of c) → known l run (tile_of c) ≡ Some p → op_of p c ≡ Some op
      → enabled l (run ++ between) c ≡ true → agent_kind c.agent ≢ Router
      → Sleeps l ((run ++ between) ++ c ∷ []) gs (choices_woken d c.agent op awake) (ports_woken d op f)
  moved_keep c p op mine here asks can other = record {
    choices = flags.moved_keep l ok gs run between others c p op mine here asks can awake sleep.choices sleep.inside;
    inside = flags.stay_inside gs awake d c.agent op sleep.inside;
    ports = ports.moved_keep l ok gs run between others f sleep.ports sleep.ports_inside c p op mine here asks can
        (λ t e. other (ap agent_kind (sym e) ∙ kind_of_number t Router));
    ports_inside = woken_inside gs l.shape d op f sleep.ports_inside;
  }

  pub router_keep : (t : ℕ) (c : Choice) (p : TilePlace) (op : WordOp) → In gs t → known l run t ≡ Some p → op_of p (of_router t c) ≡ Some op
      → enabled l (run ++ between) (of_router t c) ≡ true
      → Sleeps l ((run ++ between) ++ of_router t c ∷ []) gs (choices_woken d (agent_number t Router) op awake) (router_moved t c (ports_woken d op f))
  router_keep t c p op mine here asks can =
      let at : known l run (tile_of (of_router t c)) ≡ Some p = subst (λ (u : ℕ). known l run u ≡ Some p) (sym (tile_of_number t Router)) here in
      let own : In gs (tile_of (of_router t c)) = subst (In gs) (sym (tile_of_number t Router)) mine in
      record {
        choices = flags.moved_keep l ok gs run between others (of_router t c) p op own at asks can awake sleep.choices sleep.inside;
        inside = flags.stay_inside gs awake d (agent_number t Router) op sleep.inside;
        ports = ports.router_keep l ok gs run between others f sleep.ports sleep.ports_inside t c p op mine here asks can;
        ports_inside = moved_inside gs l.shape d op t mine c (ports_woken d op f) (woken_inside gs l.shape d op f sleep.ports_inside);
      }
