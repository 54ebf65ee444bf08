-- While an operation is out, some step is enabled that begins none and is no credit, report or look; or a flit that may be
-- put waits for a credit that is on its way back.
use Rattle.std.proofs.Common.{◌≡◌, ⊎_elim, ℕ, ◌<◌, ◌==◌, zero, suc, Bool, true, false, List, [], ◌∷◌, length, map, Option, Some, None, sym, ap, ◌∙◌, refl, arith, subst, slice_get, slice_index_or}
use Rattle.std.proofs.lemmas.Bool.{ne_eqb}
use Rattle.std.proofs.lemmas.Option.{slice_get_within, get_or_from_slice_get, same_Some, slice_get-get_or}
use Rattle.std.proofs.lemmas.List.{length-map}
use Rattle.torus.specs.Shape.{tiles_of}
use Rattle.torus.specs.declared.step.Step.{Step}
use Rattle.packet.specs.declared.kinds.Operation.{Operation}
use Rattle.one_order.specs.Events.{order_after}
use Rattle.one_order.specs.Scripts.{Invocation, awaited, unanswered}
use Rattle.one_order.specs.AbstractScripts.{AreInvocationsOf}
use Rattle.one_order.proofs.Followable.{accepted_followable}
use Rattle.one_order.proofs.Shown.{waiting_is}
use Rattle.one_order.proofs.Lists.{within_length}
use Rattle.script_lines.specs.Lines.{IsAcceptedScript}
use Rattle.packet.specs.declared.kinds.Reply.{Reply}
use Rattle.std.proofs.Math.ListN.{get_or-map}
use Rattle.one_order.specs.Observed.{list_at, HasAnswered}
use Rattle.one_order.specs.Following.{Following, is_finished}
use Rattle.one_order.specs.ProcessorRecord.{ProcessorRecord, no_processor}
use Rattle.tile.specs.Tile.{Design, TileState, tile_step}
use Rattle.tile.specs.Agents.{agent_kind, agent_tile, tile_wants}
use Rattle.core_laws.specs.Core.{Load, State, design_of, step, run_of, round, records_of}
use Rattle.core_laws.specs.Runs.{IsAcceptedLoad, state_after}
use Rattle.core_laws.specs.Noted.{noted}
use Rattle.core_laws.specs.ProgressMoves.{IsLive}
use Rattle.core_laws.proofs.Rounds.{found_enabled}
use Rattle.core_laws.proofs.Projection.{net_of}
use Rattle.core_laws.proofs.ProgressWired.{machine_net}
use Rattle.core_laws.proofs.Told.{flits_tell}
use Rattle.core_laws.proofs.Tags.{tags_tell, none_waits}
use Rattle.core_laws.proofs.Lives.{TagsTell}
use Rattle.core_laws.proofs.Out.{ready_with_none_out}
use Rattle.core_laws.proofs.EnabledStep.{StandsSo, live_or_finished}
use Rattle.core_laws.proofs.Histories.{event_at}
use Rattle.core_laws.proofs.EveryRun.{holds_in}
use Rattle.core_laws.proofs.Live.{stands_live}
use Rattle.core_laws.proofs.Machine.{StandsLive}
use Rattle.core_laws.proofs.Stands.{Ghost, tile_at, no_tile}
use Rattle.machine_core.specs.Guarded.{is_begin}
use Rattle.fair_rounds.proofs.Charges.{HasStepped, has_stepped}
use Rattle.fair_rounds.proofs.Calm.{calm_following, calm_tile, calm_around, calm, calm_net, calm_ghost, tile_there, calm_words, calm_routes, tags_is, calm_mirrors, calm_carries}
use Rattle.fair_rounds.proofs.Ready.{CanGo, calm_step}

-- a live calm state gives a choice
live_goes : (d : Design) (s : State) → length s.tiles ≡ tiles_of d.shape → IsLive d (calm s) → CanGo d s
live_goes d s filled live =
    let at = found_enabled (step d) (calm s) live.0 (round d.shape) live.1 in
    let h : HasStepped d (calm s) live.0 (at.1).0 = has_stepped d (calm s) live.0 (at.1).0 (at.1).1 in
    let t : ℕ = agent_tile (live.0).agent in
    let u = tile_there s.tiles t h.tile h.there in
    let low : t < length s.tiles = slice_get_within s.tiles t u.0 u.1 in
    let is : tile_at s t ≡ u.0 = get_or_from_slice_get s.tiles t u.0 no_tile u.1 in
    let g = calm_step d t u.0 s.around (agent_kind (live.0).agent) (live.0).choice h.moved
    (ap (λ (v : TileState). tile_step d t v (calm_around s.around) (agent_kind (live.0).agent) (live.0).choice) (sym u.2) ∙ h.enabled) in
    record {
      attempt = live.0;
      here = subst (λ (k : ℕ). t < k) filled low;
      wants = g.0;
      wanted = ap (λ (v : TileState). tile_wants d t v (agent_kind (live.0).agent) (live.0).choice) is ∙ (g.1).wanted;
      plain = ap (λ (v : TileState). is_begin (agent_kind (live.0).agent) (live.0).choice v.processor.to_put) is ∙ (g.1).plain;
      goes = (g.1).goes;
    }

calm_finished : (f : Following) → is_finished (calm_following f) ≡ (f.waiting == 0)
unfolding is_finished
calm_finished f = refl

some_unanswered : (ops : List Invocation) (i : ℕ) (o : Invocation) → slice_get ops i ≡ Some o → o.answer ≡ None → 0 < unanswered ops
some_unanswered [] i o there none = absurd (cc)
some_unanswered (x ∷ ops) zero o there none =
    let is : x ≡ o = same_Some x o there in
    let one : awaited x.answer ≡ 1 = ap (λ (y : Invocation). awaited y.answer) is ∙ ap awaited none in
    omega (arith, one)
some_unanswered (x ∷ ops) (suc i) o there none = let rest = some_unanswered ops i o there none in omega (arith, rest)

module _ (l : Load) (ok : IsAcceptedLoad l) (steps : List Step) (n : ℕ) where
  abbrev d : Design
  d = design_of l

  abbrev s : State
  s = state_after l steps n

  abbrev g : Ghost
  g = noted l steps n

  live_at : StandsLive d l.tags l.opening s g (order_after (event_at l steps) n)
  live_at = stands_live l ok steps n

  tags_at : TagsTell d s g
  tags_at = tags_tell d l.tags l.opening s g (order_after (event_at l steps) n) ok.tags.0 live_at.stands.flight live_at.balanced (λ p here none busy.
      let f = live_at.following p here in
      ready_with_none_out f.lines f.past (tile_at s p).processor.operations.following f.accepted f.shows none busy)

  calm_waits : (p : ℕ) → p < tiles_of l.shape → (tile_at (calm s) p).processor.operations.following ≡ calm_following (tile_at s p).processor.operations.following
  calm_waits p here =
      let there = slice_get-get_or s.tiles p no_tile (subst (λ (k : ℕ). p < k) (sym live_at.stands.tiles) here) in
      ap (λ (u : TileState). u.processor.operations.following) (get_calm s.tiles p (tile_at s p) there)
    where
      get_calm : (tiles : List TileState) (p : ℕ) (u : TileState) → slice_get tiles p ≡ Some u → slice_index_or (map calm_tile tiles) p no_tile ≡ calm_tile u
      get_calm [] p u h = absurd (cc)
      get_calm (v ∷ tiles) zero u h = ap calm_tile (same_Some v u h)
      get_calm (v ∷ tiles) (suc p) u h = get_calm tiles p u h

  calm_stands : StandsSo d (calm s) (calm_ghost g)
  calm_stands =
      let st = live_at.stands in
      let words = calm_words (net_of d) g.net st.lines st.routes in
      let routes = calm_routes (net_of d) g.net st.lines st.routes in
      let mirrors = calm_mirrors d s g.net.lines st.mirrors in
      record {
        filled = length-map s.tiles calm_tile ∙ st.tiles;
        words = words;
        routes = routes;
        mirrors = mirrors;
        carries = calm_carries d s g st.carries;
        tell = flits_tell d (calm s) (calm_net g.net) ok.shape words routes mirrors;
        tags = record {
          free = λ none p here. let k = tags_is d s p in rw k (tags_at.free none p here);
          ready = λ none p here busy.
              let waits = none_waits d l.tags l.opening s g (order_after (event_at l steps) n) ok.tags.0 st.flight live_at.balanced none p in
              let yes : is_finished (tile_at (calm s) p).processor.operations.following ≡ true =
              ap is_finished (calm_waits p here) ∙ (calm_finished (tile_at s p).processor.operations.following ∙ ap (λ w. w == 0) waits) in
              let never : ◌≡◌ {A = Bool} true false = sym yes ∙ busy in
              absurd (cc);
        };
      }

  -- While an operation is out, some choice can go.
  pub can_go : (p i : ℕ) (o : Operation) → p < tiles_of l.shape → slice_get (list_at (run_of l steps n).issued p) i ≡ Some o
      → (HasAnswered (run_of l steps n) p i → ⊥) → CanGo d s
  can_go p i o here issued never_told = ⊎_elim
      (λ (live : IsLive d (calm s)). live_goes d s live_at.stands.tiles live)
      (λ (all : (q : ℕ) → q < tiles_of l.shape → is_finished (tile_at (calm s) q).processor.operations.following ≡ true).
      let script = within_length l.scripts p (subst (λ (k : ℕ). p < k) (sym ok.processors) here) in
      let follows = (holds_in l ok steps n).follows p script.0 script.1 in
      let low : i < length follows.ops = subst (λ (k : ℕ). i < k) (sym follows.are.count) (slice_get_within (list_at (run_of l steps n).issued p) i o issued) in
      let x = within_length follows.ops i low in
      let none : (x.0).answer ≡ None = not_answered p i follows.ops follows.are x.0 x.1 (x.0).answer refl never_told in
      let some = some_unanswered follows.ops i x.0 x.1 none in
      let same : list_at l.scripts p ≡ script.0 = get_or_from_slice_get l.scripts p script.0 [] script.1 in
      let followable = accepted_followable (length l.opening) script.0 (subst (IsAcceptedScript (length l.opening)) same (ok.scripts.each p)) in
      let waits = waiting_is script.0 follows.ops _ followable follows.shows in
      let record_is : (slice_index_or (records_of s) p no_processor).following ≡ (tile_at s p).processor.operations.following =
      ap (λ (b : ProcessorRecord). b.following) (get_or-map (λ (t : TileState). t.processor.operations) s.tiles p no_tile) in
      let count : (tile_at s p).processor.operations.following.waiting ≡ unanswered follows.ops =
      sym (ap (λ (f : Following). f.waiting) record_is) ∙ waits in
      let busy : ((tile_at s p).processor.operations.following.waiting == 0) ≡ false =
      ne_eqb (tile_at s p).processor.operations.following.waiting 0 (λ e. omega (arith, e, count, some)) in
      let yes = sym (calm_finished (tile_at s p).processor.operations.following) ∙ (sym (ap is_finished (calm_waits p here)) ∙ all p here) in
      let never : ◌≡◌ {A = Bool} false true = sym busy ∙ yes in
      absurd (cc))
      (live_or_finished d (calm s) (calm_ghost g) (machine_net d ok.shape ok.depth.0) calm_stands)
    where
      not_answered : (p i : ℕ) (ops : List Invocation) → AreInvocationsOf (run_of l steps) n p ops → (x : Invocation) → slice_get ops i ≡ Some x
          → (a : Option (ℕ × Reply)) → x.answer ≡ a → (HasAnswered (run_of l steps n) p i → ⊥) → x.answer ≡ None
      not_answered p i ops are x there None is none = is
      not_answered p i ops are x there (Some a) is none =
          let at = (are.answered i x a.0 a.1 there is).1 in
          absurd (none (at.0, at.1, at.2, at.3))
