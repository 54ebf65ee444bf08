-- A round in which operations are held back makes a move while one is out.
use Rattle.std.proofs.Common.{◌≡◌, ⊎_elim, inl, inr, ℕ, ◌+◌, ◌<◌, ◌≤◌, List, [], ◌∷◌, Option, Some, None, refl, sym, subst, arith}
use Rattle.std.proofs.lemmas.Bool.{cases_lt}
use Rattle.torus.specs.declared.step.Step.{Step}
use Rattle.tile.specs.Tile.{Design}
use Rattle.tile.specs.Agents.{agent_kind}
use Rattle.core_laws.specs.Rounds as attempts
use Rattle.core_laws.specs.Core.{State, step, or_same, after_from}
use Rattle.core_laws.specs.Machine.{Core, MakesMove, built_to}
use Rattle.core_laws.proofs.Moves.{makes_move}
use Rattle.machine_core.specs.Arbiters.{Arbiter, IsArbiter, arbited_round}
use Rattle.machine_core.specs.Guarded.{without_begins}
use Rattle.fair_rounds.specs.Charges.{charge}
use Rattle.fair_rounds.specs.Costs.{cost_if_made, cost_of}
use Rattle.fair_rounds.specs.Hosts.{IsOut}
use Rattle.fair_rounds.proofs.Guards.{plain_of, plain_is}
use Rattle.fair_rounds.proofs.Lines.{Stage}
use Rattle.fair_rounds.proofs.TwoRounds.{Waits, first_round, second_round}

-- attempts of which none is enabled change and cost nothing
none_made : (d : Design) (xs : List Step) (s : State) → attempts.moves_in (step d) s xs ≡ 0 → (after_from d s xs ≡ s) × (cost_of d s xs ≡ 0)
none_made d [] s none = (refl, refl)
none_made d (a ∷ xs) s none = by_step (λ rest. none_made d xs s rest) (step d s a) none
  where
    by_step : (attempts.moves_in (step d) s xs ≡ 0 → (after_from d s xs ≡ s) × (cost_of d s xs ≡ 0)) → (o : Option State) → attempts.one_if_moved o + attempts.moves_in (step d) (attempts.or_same s o) xs ≡ 0
        → (after_from d (or_same s o) xs ≡ s) × (cost_if_made o (charge (agent_kind a.agent) a.choice) + cost_of d (or_same s o) xs ≡ 0)
    by_step left None is = let rest = left (omega (arith, is)) in (rest.0, let cost = rest.1 in omega (arith, cost))
    by_step left (Some t) is = absurd (omega (arith, is))

module _ (by : Arbiter) (orders : IsArbiter by) (c : Core) (st : Stage c) (p i : ℕ) (x : IsOut c p i) where
  some_made : 0 < attempts.moves_in (step (built_to c)) c.state (plain_of (built_to c) c.state (arbited_round by c))
  some_made = elim (cases_lt 0 (attempts.moves_in (step (built_to c)) c.state (plain_of (built_to c) c.state (arbited_round by c)))) [
    | inl some ↦ some
    | inr none ↦
        (let still = none_made (built_to c) (plain_of (built_to c) c.state (arbited_round by c)) c.state (omega (arith, none)) in
        let cost = still.1 in
        ⊎_elim
        (λ (one : 1 ≤ cost_of (built_to c) c.state (plain_of (built_to c) c.state (arbited_round by c))). absurd (omega (arith, one, cost)))
        (λ (waits : Waits (built_to c) (after_from (built_to c) c.state (plain_of (built_to c) c.state (arbited_round by c)))).
        let two = second_round by orders c st (subst (Waits (built_to c)) still.0 waits) in absurd (omega (arith, two, cost)))
        (first_round by orders c st p i x))
  ]

  pub held_count : 0 < attempts.moves_in (step (built_to c)) c.state (without_begins c (arbited_round by c))
  held_count = subst (λ (xs : List Step). 0 < attempts.moves_in (step (built_to c)) c.state xs)
      (sym (plain_is (arbited_round by c) c (built_to c) c.state refl refl)) some_made

  pub held_moves : MakesMove c (without_begins c (arbited_round by c))
  held_moves = makes_move (built_to c) c (without_begins c (arbited_round by c)) refl held_count
