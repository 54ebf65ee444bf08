-- A round that leaves out sleepers leads where the round leads.
use Rattle.std.proofs.Common.{◌≡◌, ℕ, ◌==◌, ◌&&◌, Bool, true, false, List, [], ◌∷◌, ◌++◌, Option, Some, None, refl, sym, ◌∙◌, ap, subst}
use Rattle.std.proofs.Common.{if◌then◌else◌}
use Rattle.std.specs.Prelude.{◌||◌, not}
use Rattle.std.specs.List.{flat_map, range_with_len}
use Rattle.std.proofs.lemmas.Bool.{eqb-true}
use Rattle.torus.specs.Shape.{tiles_of, dims_of}
use Rattle.torus.specs.declared.step.Step.{Step}
use Rattle.channel_number.specs.Ports.{port_count}
use Rattle.core_laws.specs.Agent.{Agent}
use Rattle.core_laws.specs.Agent.TheVariants.{Processor, Router, Bank}
use Rattle.core_laws.specs.Tile.{Design}
use Rattle.core_laws.specs.Agents.{agent_number, agent_kind}
use Rattle.core_laws.proofs.AgentNumbers.{kind_of_number}
use Rattle.core_laws.specs.Core.{Load, State, design_of, step, or_same, next, after_from, first_state, after, attempts_of}
use Rattle.core_laws.specs.Core.{round_at, round}
use Rattle.core_laws.specs.Runs.{IsAcceptedLoad}
use Rattle.core_laws.proofs.Books.{after_append}
use Rattle.core_laws.specs.Waking.{is_woken}
use Rattle.core_laws.specs.Sleep.{IsAsleep, OthersSleep, choices_of, attempts_at, has_moved}
use Rattle.core_laws.specs.Watch.{Watch, watched, after_watching, rested, agent_turn, tile_turn, tile_turns, round_awake}
use Rattle.core_laws.proofs.Wakes.{ready_after, others_sleep}
use Rattle.core_laws.proofs.Sleepers.{falls, still, same}

both_false : (a b : Bool) → (a || b) ≡ false → (a ≡ false) × (b ≡ false)
both_false true b h = absurd (cc)
both_false false b h = (refl, h)

pub all_awake : (d : Design) (s : State) → OthersSleep d s (λ agent. true)
all_awake d s agent h = absurd (cc)

module _ (l : Load) (ok : IsAcceptedLoad l) where
  abbrev d : Design
  d = design_of l

  pub moved : (steps : List Step) (attempt : Step) (left : State) (awake : ℕ → Bool) → OthersSleep d (after l steps) awake
      → step d (after l steps) attempt ≡ Some left
      → OthersSleep d left (λ agent. awake agent || is_woken d (after l steps) attempt agent)
  moved steps attempt left awake sleep moves agent out =
      let x = both_false (awake agent) (is_woken d (after l steps) attempt agent) out in
      others_sleep d (after l steps) (ready_after l ok steps) attempt left agent moves x.1 (sleep agent x.0)

  -- a state that a run reaches, in which all but those awake are asleep
  record Holds (w : Watch) : Type 0 where
    steps : List Step
    reached : after l steps ≡ w.state
    sleep : OthersSleep d w.state w.awake

  watched_holds : (steps : List Step) (awake : ℕ → Bool) → OthersSleep d (after l steps) awake → (attempt : Step) (o : Option State)
      → step d (after l steps) attempt ≡ o
      → Holds (watched d (record { state = after l steps; awake = awake }) attempt o)
      × ((watched d (record { state = after l steps; awake = awake }) attempt o).state ≡ or_same (after l steps) o)
  watched_holds steps awake sleep attempt None e = (record { steps = steps; reached = refl; sleep = sleep }, refl)
  watched_holds steps awake sleep attempt (Some left) e = (
    record {
      steps = steps ++ attempt ∷ [];
      reached = after_append d (first_state l) steps (attempt ∷ []) ∙ ap (or_same (after l steps)) e;
      sleep = moved steps attempt left awake sleep e;
    },
    refl,
  )

  -- after some attempts
  abbrev Attempted : Watch → List Step → Type 0
  Attempted w attempts = Holds (after_watching d w attempts) × ((after_watching d w attempts).state ≡ after_from d w.state attempts)

  attempted : (w : Watch) (attempts : List Step) → Holds w → Attempted w attempts
  attempted w [] h = (h, refl)
  attempted w (attempt ∷ attempts) h =
      let one : Holds (watched d w attempt (step d w.state attempt)) × ((watched d w attempt (step d w.state attempt)).state ≡ next d w.state attempt) =
      one_attempt w.state h.reached h.sleep in
      let rest = attempted (watched d w attempt (step d w.state attempt)) attempts one.0 in
      (rest.0, rest.1 ∙ ap (λ (z : State). after_from d z attempts) one.1)
    where
      one_attempt : (s : State) → after l h.steps ≡ s → OthersSleep d s w.awake
          → Holds (watched d (record { state = s; awake = w.awake }) attempt (step d s attempt))
          × ((watched d (record { state = s; awake = w.awake }) attempt (step d s attempt)).state ≡ next d s attempt)
      one_attempt s e = subst
          (λ (s : State). OthersSleep d s w.awake
          → Holds (watched d (record { state = s; awake = w.awake }) attempt (step d s attempt))
          × ((watched d (record { state = s; awake = w.awake }) attempt (step d s attempt)).state ≡ next d s attempt))
          e (λ sleep. watched_holds h.steps w.awake sleep attempt (step d (after l h.steps) attempt) refl)

  -- an agent's turn
  abbrev Turned : Watch → List Step → Watch → Type 0
  Turned w attempts now = Holds now × (now.state ≡ after_from d w.state attempts)

  agent_turned : (w : Watch) (agent : ℕ) → Holds w → Turned w (attempts_at l.shape agent) (agent_turn d w agent)
  agent_turned w agent h = by_awake (w.awake agent) refl
    where
      by_moved : (b : Bool) → has_moved d w.state (attempts_at l.shape agent) ≡ b
          → Turned w (attempts_at l.shape agent) (rested (after_watching d w (attempts_at l.shape agent)) agent b)
      by_moved true e = attempted w (attempts_at l.shape agent) h
      by_moved false e =
          let x = attempted w (attempts_at l.shape agent) h in
          let v : Watch = after_watching d w (attempts_at l.shape agent) in
          let stays : v.state ≡ w.state = x.1 ∙ still d w.state (attempts_at l.shape agent) e in
          let asleep : IsAsleep d v.state agent = subst (λ (s : State). IsAsleep d s agent) (sym stays) (falls d w.state agent e) in (
            record {
              steps = (x.0).steps;
              reached = (x.0).reached;
              sleep = λ other out. by_either v other asleep ((x.0).sleep other) (v.awake other) (other == agent) refl refl out;
            },
            x.1,
          )
        where
          by_either : (v : Watch) (other : ℕ) → IsAsleep d v.state agent → (v.awake other ≡ false → IsAsleep d v.state other) → (p q : Bool) → v.awake other ≡ p
              → (other == agent) ≡ q
              → (p && not q) ≡ false → IsAsleep d v.state other
          by_either v other asleep others false q is eq out = others is
          by_either v other asleep others true true is eq out = subst (λ (k : ℕ). IsAsleep d v.state k) (sym (eqb-true other agent eq)) asleep
          by_either v other asleep others true false is eq out = absurd (cc)

      by_awake : (b : Bool) → w.awake agent ≡ b → Turned w (attempts_at l.shape agent)
          (if b then rested (after_watching d w (attempts_at l.shape agent)) agent (has_moved d w.state (attempts_at l.shape agent)) else w)
      by_awake true e = by_moved (has_moved d w.state (attempts_at l.shape agent)) refl
      by_awake false e = (h, sym (same d w.state agent (choices_of (port_count (dims_of l.shape)) (agent_kind agent)) (h.sleep agent e)))

  -- one turn after another
  both_turned : (w now last : Watch) (xs ys : List Step) → Turned w xs now → Turned now ys last → Turned w (xs ++ ys) last
  both_turned w now last xs ys x y = (y.0, y.1 ∙ (ap (λ (z : State). after_from d z ys) x.1 ∙ sym (after_append d w.state xs ys)))

  -- the attempts of a tile's agents are those of the round
  abbrev by_kind : ℕ → Agent → List Step
  by_kind agent a = attempts_of agent (choices_of (port_count (dims_of l.shape)) a)

  attempts_are : (t : ℕ) (a : Agent) → attempts_at l.shape (agent_number t a) ≡ by_kind (agent_number t a) a
  attempts_are t a = ap (by_kind (agent_number t a)) (kind_of_number t a)

  turns_are : (t : ℕ) → attempts_at l.shape (agent_number t Processor)
      ++ (attempts_at l.shape (agent_number t Router) ++ attempts_at l.shape (agent_number t Bank))
      ≡ round_at (port_count (dims_of l.shape)) t
  turns_are t =
      ap (λ (xs : List Step). xs ++ (attempts_at l.shape (agent_number t Router) ++ attempts_at l.shape (agent_number t Bank))) (attempts_are t Processor)
      ∙ (ap (λ (xs : List Step). by_kind (agent_number t Processor) Processor ++ (xs ++ attempts_at l.shape (agent_number t Bank))) (attempts_are t Router)
      ∙ ap (λ (xs : List Step). by_kind (agent_number t Processor) Processor ++ (by_kind (agent_number t Router) Router ++ xs)) (attempts_are t Bank))

  tile_turned : (w : Watch) (t : ℕ) → Holds w → Turned w (round_at (port_count (dims_of l.shape)) t) (tile_turn d w t)
  tile_turned w t h =
      let v : Watch = agent_turn d w (agent_number t Processor) in
      let u : Watch = agent_turn d v (agent_number t Router) in
      let x = agent_turned w (agent_number t Processor) h in
      let y = agent_turned v (agent_number t Router) x.0 in
      let z = agent_turned u (agent_number t Bank) y.0 in
      subst (λ (xs : List Step). Turned w xs (tile_turn d w t)) (turns_are t)
      (both_turned w v (tile_turn d w t) (attempts_at l.shape (agent_number t Processor))
      (attempts_at l.shape (agent_number t Router) ++ attempts_at l.shape (agent_number t Bank)) x
      (both_turned v u (tile_turn d w t) (attempts_at l.shape (agent_number t Router)) (attempts_at l.shape (agent_number t Bank)) y z))

  tiles_turned : (w : Watch) (tiles : List ℕ) → Holds w → Turned w (flat_map (round_at (port_count (dims_of l.shape))) tiles) (tile_turns d w tiles)
  tiles_turned w [] h = (h, refl)
  tiles_turned w (t ∷ tiles) h =
      let x = tile_turned w t h in
      both_turned w (tile_turn d w t) (tile_turns d w (t ∷ tiles)) (round_at (port_count (dims_of l.shape)) t)
      (flat_map (round_at (port_count (dims_of l.shape))) tiles) x
      (tiles_turned (tile_turn d w t) tiles x.0)

  module _ (steps : List Step) (awake : ℕ → Bool) (sleep : OthersSleep d (after l steps) awake) where
    abbrev start : Watch
    start = record { state = after l steps; awake = awake }

    turned : Turned start (round l.shape) (round_awake d start)
    turned = tiles_turned start (range_with_len 0 (tiles_of l.shape)) (record { steps = steps; reached = refl; sleep = sleep })

    pub same_state : (round_awake d start).state ≡ after_from d (after l steps) (round l.shape)
    same_state = turned.1

    pub still_asleep : OthersSleep d (after_from d (after l steps) (round l.shape)) (round_awake d start).awake
    still_asleep = subst (λ (s : State). OthersSleep d s (round_awake d start).awake) turned.1 (turned.0).sleep
