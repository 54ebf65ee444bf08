-- A router's own moves: what is refused before one that it doesn't free is refused behind it.
use Rattle.std.proofs.Common.{◌≡◌, ◌≢◌, ◌↔◌, ℕ, ◌<◌, Bool, true, false, Option, Some, None, refl, sym, ◌∙◌, ap, subst, slice_get, slice_set, if◌then◌else◌}
use Rattle.std.specs.Prelude.{nat_lt, option_map, option_and_then}
use Rattle.std.proofs.lemmas.Bool.{ne_eqb}
use Rattle.std.proofs.lemmas.Option.{option_and_then_some, slice_get_within}
use Rattle.one_order.proofs.Lists.{get_set_same}
use Rattle.torus.specs.Shape.{dims_of}
use Rattle.torus.specs.declared.step.Choice.{Choice}
use Rattle.torus.specs.declared.step.Choice.TheVariants as choice
use Rattle.channel_number.specs.Ports.{port_count}
use Rattle.flit_buffer.specs.Surroundings.{Surroundings, Wiring, granted, surroundings_after}
use Rattle.flit_buffer.specs.declared.want.Want.{Want}
use Rattle.flit_buffer.specs.declared.want.Want.TheVariants.{Take, Put, Credit, Access, Await}
use Rattle.router.specs.Table.{RouterState, latch_of, wants_to_take, wants_to_put, router_wants, router_after}
use Rattle.router.specs.Beginning.{router_wiring}
use Rattle.core_laws.specs.Agent.{Agent}
use Rattle.core_laws.specs.Agent.TheVariants.{Router}
use Rattle.core_laws.specs.Tile.{Design, TileState, tile_step}
use Rattle.core_laws.specs.Agents.{wiring_of, tile_wants, agent_number, agent_kind}
use Rattle.core_laws.proofs.AgentNumbers.{tile_of_number, kind_of_number}
use Rattle.core_laws.specs.Core.{State, step}
use Rattle.core_laws.proofs.AgentSteps.{did, option_map_some}
use Rattle.core_laws.specs.Waking.{Meets, wiring_at, wanted}
use Rattle.core_laws.specs.Routers.{of_router, empties, fills, frees_put, latch_at}
use Rattle.core_laws.proofs.Grants.{Spares, own_refused}
use Rattle.core_laws.proofs.RouterWants.{latch_kept, latch_emptied, seeks, put_kept}
use Rattle.core_laws.proofs.WakeSteps.{step_idle}

module _ (d : Design) (t : ℕ) where
  abbrev ports : ℕ
  ports = port_count (dims_of d.shape)

  abbrev v : Wiring
  v = router_wiring d.shape t

  abbrev n : ℕ
  n = agent_number t Router

  pub wiring_is : wiring_at d.shape n ≡ v
  wiring_is =
      ap (λ (u : ℕ). wiring_of d.shape u (agent_kind n)) (tile_of_number t Router) ∙ ap (λ (a : Agent). wiring_of d.shape t a) (kind_of_number t Router)

  abbrev pub router_wanted : State → Choice → Option Want
  router_wanted s c = option_and_then (λ (tile : TileState). router_wants d.shape t tile.router c) (slice_get s.tiles t)

  abbrev wanted_by : State → Choice → ℕ → Agent → Option Want
  wanted_by s c u a = option_and_then (λ (tile : TileState). tile_wants d u tile a c) (slice_get s.tiles u)

  pub wanted_is : (s : State) (c : Choice) → wanted d s (of_router t c) ≡ router_wanted s c
  wanted_is s c =
      ap (λ (u : ℕ). wanted_by s c u (agent_kind n)) (tile_of_number t Router) ∙ ap (wanted_by s c t) (kind_of_number t Router)

  -- a choice is not enabled where it wants nothing, or what it wants isn't granted
  pub router_idle : (s : State) (c : Choice) → (step d s (of_router t c) ≡ None) ↔ (option_and_then (granted s.around v) (router_wanted s c) ≡ None)
  router_idle s c =
      let same : option_and_then (granted s.around (wiring_at d.shape n)) (wanted d s (of_router t c))
      ≡ option_and_then (granted s.around v) (router_wanted s c) =
      ap (λ (w : Wiring). option_and_then (granted s.around w) (wanted d s (of_router t c))) wiring_is
      ∙ ap (option_and_then (granted s.around v)) (wanted_is s c) in
      let both = step_idle d s (of_router t c) in
      (λ h. sym same ∙ both.0 h, λ h. both.1 (same ∙ h))

  -- a put of an empty latch isn't enabled
  no_put : (tile : TileState) (i : ℕ) (b : Bool) (latch : Option ℕ) → latch ≡ None
      → (if b then wants_to_put d.shape t tile.router i latch else None) ≡ None
  no_put tile i true None h = refl
  no_put tile i true (Some flit) h = absurd (cc)
  no_put tile i false latch h = refl

  empty_by : (around : Surroundings) (i : ℕ) (o : Option TileState) → option_and_then (λ (tile : TileState). latch_of tile.router i) o ≡ None
      → option_and_then (granted around v) (option_and_then (λ (tile : TileState). router_wants d.shape t tile.router (choice.Put i)) o) ≡ None
  empty_by around i None h = refl
  empty_by around i (Some tile) h = ap (option_and_then (granted around v)) (no_put tile i (nat_lt i ports) (latch_of tile.router i) h)

  pub empty_idle : (s : State) (i : ℕ) → latch_at s t i ≡ None → step d s (of_router t (choice.Put i)) ≡ None
  empty_idle s i h = (router_idle s (choice.Put i)).1 (empty_by s.around i (slice_get s.tiles t) h)

  -- an enabled choice: its tile, what was granted, and what stands after it
  pub record RouterDid (s : State) (c : Choice) (next : State) : Type 0 where
    pub tile : TileState
    pub here : slice_get s.tiles t ≡ Some tile
    pub want : Want
    pub learned : ℕ
    pub wants : router_wants d.shape t tile.router c ≡ Some want
    pub grants : granted s.around v want ≡ Some learned
    pub left : TileState
    pub there : slice_get next.tiles t ≡ Some left
    pub router : left.router ≡ router_after tile.router c want learned
    pub around : next.around ≡ surroundings_after d.depth s.around v want

  abbrev pub with_tile : State → ℕ → TileState × Surroundings → State
  with_tile s u p = record { tiles = slice_set s.tiles u p.0; around = p.1 }

  abbrev step_by : State → Choice → ℕ → Agent → Option State
  step_by s c u a = option_and_then
      (λ (tile : TileState). option_map (λ (p : TileState × Surroundings). with_tile s u p) (tile_step d u tile s.around a c)) (slice_get s.tiles u)

  step_is : (s : State) (c : Choice) → step d s (of_router t c) ≡ step_by s c t Router
  step_is s c = ap (λ (u : ℕ). step_by s c u (agent_kind n)) (tile_of_number t Router) ∙ ap (step_by s c t) (kind_of_number t Router)

  pub router_did : (s : State) (c : Choice) (next : State) → step d s (of_router t c) ≡ Some next → RouterDid s c next
  router_did s c next moves = option_and_then_some _ (slice_get s.tiles t) next (sym (step_is s c) ∙ moves) (λ tile here h.
      let k = option_map_some (λ (p : TileState × Surroundings). with_tile s t p) (tile_step d t tile s.around Router c) next h in
      let f = option_map_some (λ (p : RouterState × Surroundings). (record tile { router = p.0 }, p.1)) _ k.0 k.1 in
      let x = did (router_wants d.shape t) router_after d.depth (router_wiring d.shape t) tile.router s.around c f.0.0 f.0.1 f.1 in
      record {
        tile = tile;
        here = here;
        want = x.want;
        learned = x.learned;
        wants = x.wanted;
        grants = x.grants;
        left = k.0.0;
        there = ap (λ (z : State). slice_get z.tiles t) (sym k.2) ∙ get_set_same s.tiles t k.0.0 (slice_get_within s.tiles t tile here);
        router = ap (λ (p : TileState × Surroundings). p.0.router) (sym f.2) ∙ x.state_is;
        around = ap (λ (z : State). z.around) (sym k.2) ∙ (ap (λ (p : TileState × Surroundings). p.1) (sym f.2) ∙ x.around_is);
      })

  module _ (s : State) (c : Choice) (next : State) (moves : step d s (of_router t c) ≡ Some next) where
    abbrev x : RouterDid s c next
    x = router_did s c next moves

    abbrev r : RouterState
    r = x.tile.router

    abbrev behind : Surroundings
    behind = surroundings_after d.depth s.around v x.want

    -- another choice than the one that moved
    differs : (other : Choice) → step d s (of_router t other) ≡ None → c ≢ other
    differs other none same =
        let clash : ◌≡◌ {A = Option State} (Some next) None = sym moves ∙ (ap (λ (k : Choice). step d s (of_router t k)) same ∙ none) in cc

    by_sought : (other : Choice) → ((sought : Want) → router_wants d.shape t r other ≡ Some sought → (Meets v x.want v sought → ⊥) × Spares x.want sought)
        → (o : Option Want) → router_wants d.shape t r other ≡ o
        → option_and_then (granted s.around v) o ≡ None
        → option_and_then (granted behind v) o ≡ None
    by_sought other apart None e h = refl
    by_sought other apart (Some sought) e h = let a = apart sought e in own_refused d.depth s.around v x.want sought x.learned x.grants a.0 a.1 h

    stays_idle : (other : Choice) → router_wants d.shape t (router_after r c x.want x.learned) other ≡ router_wants d.shape t r other
        → ((sought : Want) → router_wants d.shape t r other ≡ Some sought → (Meets v x.want v sought → ⊥) × Spares x.want sought)
        → step d s (of_router t other) ≡ None
        → step d next (of_router t other) ≡ None
    stays_idle other kept apart none =
        let asked : router_wanted next other ≡ router_wants d.shape t r other =
        ap (λ (o : Option TileState). option_and_then (λ (tile : TileState). router_wants d.shape t tile.router other) o) x.there
        ∙ (ap (λ (z : RouterState). router_wants d.shape t z other) x.router ∙ kept) in
        let before : router_wanted s other ≡ router_wants d.shape t r other =
        ap (λ (o : Option TileState). option_and_then (λ (tile : TileState). router_wants d.shape t tile.router other) o) x.here in
        (router_idle next other).1
        (ap (λ (z : Surroundings). option_and_then (granted z v) (router_wanted next other)) x.around
        ∙ (ap (option_and_then (granted behind v)) asked
        ∙ by_sought other apart (router_wants d.shape t r other) refl
        (sym (ap (option_and_then (granted s.around v)) before) ∙ (router_idle s other).0 none)))

    unfilled : (i : ℕ) (k : Choice) → c ≡ k → (c ≢ choice.TakeFrom i) → fills k i ≡ false
    unfilled i (choice.TakeFrom k) e other = ne_eqb k i (λ same. other (e ∙ ap (λ (j : ℕ). choice.TakeFrom j) same))
    unfilled i (choice.Put k) e other = refl
    unfilled i (choice.CreditOf o) e other = refl
    unfilled i choice.Send e other = refl
    unfilled i choice.Take e other = refl
    unfilled i choice.Credit e other = refl
    unfilled i choice.Serve e other = refl
    unfilled i choice.Done e other = refl
    unfilled i choice.Look e other = refl

    pub own_take : (i : ℕ) → empties c i ≡ false → (i < ports → Meets v x.want v (Take i) → ⊥) → step d s (of_router t (choice.TakeFrom i)) ≡ None
        → step d next (of_router t (choice.TakeFrom i)) ≡ None
    own_take i held unmet none =
        stays_idle (choice.TakeFrom i)
        (ap (λ (l : Option ℕ). if nat_lt i ports then wants_to_take d.shape t i l else None)
        (latch_kept r c x.want x.learned i (unfilled i c refl (differs (choice.TakeFrom i) none)) held))
        (λ sought e.
        let found = seeks d.shape t r (choice.TakeFrom i) sought e in
        let is = found.1 in (
          λ m. unmet found.0 (subst (λ (w : Want). Meets v x.want v w) is m),
          subst (λ (w : Want). Spares x.want w) (sym is) (spares_take x.want i),
        ))
        none
      where
        spares_take : (w : Want) (i : ℕ) → Spares w (Take i)
        spares_take (Take j) i = tt
        spares_take (Put o flit) i = tt
        spares_take (Credit o) i = tt
        spares_take (Access n op) i = tt
        spares_take (Await n value) i = tt

    pub own_credit : (o : ℕ) → (o < ports → Meets v x.want v (Credit o) → ⊥) → step d s (of_router t (choice.CreditOf o)) ≡ None
        → step d next (of_router t (choice.CreditOf o)) ≡ None
    own_credit o unmet none =
        stays_idle (choice.CreditOf o) refl
        (λ sought e.
        let found = seeks d.shape t r (choice.CreditOf o) sought e in
        let is = found.1 in (
          λ m. unmet found.0 (subst (λ (w : Want). Meets v x.want v w) is m),
          subst (λ (w : Want). Spares x.want w) (sym is) (spares_credit x.want o),
        ))
        none
      where
        spares_credit : (w : Want) (i : ℕ) → Spares w (Credit i)
        spares_credit (Take j) i = tt
        spares_credit (Put o flit) i = tt
        spares_credit (Credit o) i = tt
        spares_credit (Access n op) i = tt
        spares_credit (Await n value) i = tt

    -- a put that it doesn't free: only a take can have moved
    put_by : (i : ℕ) (k : Choice) → c ≡ k → frees_put k i ≡ false → router_wants d.shape t r k ≡ Some x.want
        → (router_wants d.shape t (router_after r k x.want x.learned) (choice.Put i) ≡ router_wants d.shape t r (choice.Put i))
        × ((sought : Want) → Spares x.want sought) × ((sought : Want) → (o flit : ℕ) → sought ≡ Put o flit → Meets v x.want v sought → ⊥)
    put_by i (choice.TakeFrom k) e spared wants =
        let is : x.want ≡ Take k = (seeks d.shape t r (choice.TakeFrom k) x.want wants).1 in (
          ap (λ (l : Option ℕ). if nat_lt i ports then wants_to_put d.shape t (router_after r (choice.TakeFrom k) x.want x.learned) i l else None)
              (latch_kept r (choice.TakeFrom k) x.want x.learned i spared refl)
              ∙ ap (λ (o : Option Want). if nat_lt i ports then o else None)
              (put_kept d.shape t r (slice_set r.latches k (Some x.learned)) i (latch_of r i)),
          λ sought. subst (λ (w : Want). Spares w sought) (sym is) tt,
          λ sought o flit at m. subst (λ (w : Want). Meets v (Take k) v w) at (subst (λ (w : Want). Meets v w v sought) is m),
        )
    put_by i (choice.Put k) e spared wants = absurd (cc)
    put_by i (choice.CreditOf o) e spared wants = absurd (cc)
    put_by i choice.Send e spared wants = absurd (cc)
    put_by i choice.Take e spared wants = absurd (cc)
    put_by i choice.Credit e spared wants = absurd (cc)
    put_by i choice.Serve e spared wants = absurd (cc)
    put_by i choice.Done e spared wants = absurd (cc)
    put_by i choice.Look e spared wants = absurd (cc)

    pub own_put : (i : ℕ) → frees_put c i ≡ false → step d s (of_router t (choice.Put i)) ≡ None → step d next (of_router t (choice.Put i)) ≡ None
    own_put i spared none =
        let k = put_by i c refl spared x.wants in
        stays_idle (choice.Put i) k.0 (λ sought e. let f = seeks d.shape t r (choice.Put i) sought e in (k.2 sought f.0 f.1 f.2, k.1 sought)) none

    latch_then : (i : ℕ) → latch_at next t i ≡ latch_of (router_after r c x.want x.learned) i
    latch_then i = ap (option_and_then (λ (tile : TileState). latch_of tile.router i)) x.there ∙ ap (λ (z : RouterState). latch_of z i) x.router

    pub own_latch : (i : ℕ) → fills c i ≡ false → empties c i ≡ false → latch_at next t i ≡ latch_at s t i
    own_latch i f e =
        latch_then i ∙ (latch_kept r c x.want x.learned i f e
        ∙ sym (ap (option_and_then (λ (tile : TileState). latch_of tile.router i)) x.here))

    pub own_emptied : (i : ℕ) → empties c i ≡ true → latch_at next t i ≡ None
    own_emptied i e = latch_then i ∙ latch_emptied d.shape t r c x.want x.learned i x.wants e

    pub own_wanted : wanted d s (of_router t c) ≡ Some x.want
    own_wanted =
        wanted_is s c
        ∙ (ap (λ (o : Option TileState). option_and_then (λ (tile : TileState). router_wants d.shape t tile.router c) o) x.here ∙ x.wants)
