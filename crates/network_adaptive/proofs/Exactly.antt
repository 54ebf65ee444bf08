-- A network whose routers choose has numbers, a cycle or a channel without an escape, and just one of them.
use Rattle.std.proofs.Common.{◌≡◌, ◌⊎◌, inl, inr, ⊎_elim, ℕ, zero, suc, ◌+◌, ◌-◌, ◌<◌, ◌≤◌, not, Bool, true, false, List, length, refl, sym, ◌∙◌, subst, arith}
use Rattle.std.specs.Prelude.{slice_index}
use Rattle.std.proofs.lemmas.Bool.{cases_Bool}
use Rattle.rising.specs.Graph.{Digraph}
use Rattle.rising.specs.Search.{path_look, StepsOn, IsCircuit}
use Rattle.rising.specs.declared.search.Look.{Look}
use Rattle.network_judge.proofs.Chains.{RiseOn, circle_or_ranks}
use Rattle.network_judge.proofs.Firsts.{any, any_at, any_from, first, fails, none, is_first}
use Rattle.network_adaptive.specs.Choices.{AdaptiveNet, IsAdaptiveNet, Comes, ExtendedDependency, HasEscapes, AreReplyEnds, AreRising, ByChoice}
use Rattle.network_adaptive.proofs.Held.{roams_come}
use Rattle.network_adaptive.specs.Verdicts.{IsEdge, IsDependencyCycle, LacksEscape, HasNumbers, HasCycle, HasNoEscape}
use Rattle.network_adaptive.proofs.Deciding.{leads, leads_from, leads_test, stuck, stuck_from, stuck_test, comes_end, not_true}

-- numbers rise where a channel leads on
rises : (n : AdaptiveNet) (answers : ℕ → ℕ → Bool) (number : ℕ → ℕ) → AreRising n answers number → (x y : ℕ) → IsEdge n answers x y → number x < number y
rises n answers number r x y l = ⊎_elim
    (λ (a : (j : ℕ) × ExtendedDependency n x j y). r.awaits x a.0 y a.1)
    (λ (b : answers x y ≡ true). r.answered x y b)
    l

-- around a cycle they don't
pub no_numbers : (n : AdaptiveNet) (answers : ℕ → ℕ → Bool) (size : ℕ) (at : ℕ → ℕ) → IsDependencyCycle n answers size at
    → (number : ℕ → ℕ) → AreRising n answers number → ⊥
no_numbers n answers size at c number r =
    let some = c.some in
    let up : number (at (size - 1)) < number (at 0) = rises n answers number r (at (size - 1)) (at 0) c.last in
    let over : number (at 0) ≤ number (at (size - 1)) = along (size - 1) (omega arith) in
    omega arith
  where
    along : (k : ℕ) → k < size → number (at 0) ≤ number (at k)
    along zero l = omega arith
    along (suc k) l =
        let before = along k (omega arith) in
        let same : k + 1 ≡ suc k = omega arith in
        let up : number (at k) < number (at (suc k)) =
        subst (λ z. number (at k) < number (at z)) same (rises n answers number r (at k) (at (k + 1)) (c.each k (omega arith))) in
        omega arith

-- the graph of what leads on
abbrev graph : AdaptiveNet → (ℕ → ℕ → Bool) → Digraph
graph n answers = record { nodes = n.frame.channels; columns = n.frame.channels; leads = leads n answers; after = λ x y. y }

module _ (n : AdaptiveNet) (answers : ℕ → ℕ → Bool) (net : IsAdaptiveNet n) (are : AreReplyEnds n answers) where
  looks_on : (look : Look) (y : ℕ) → StepsOn (graph n answers) look y → IsEdge n answers look.node y
  looks_on look y l = subst (λ z. IsEdge n answers look.node z) l.next (leads_from n answers look.node look.column l.marked)

  from_circle : (looks : List Look) → IsCircuit (graph n answers) looks → IsDependencyCycle n answers (length looks) (λ k. (path_look looks k).node)
  from_circle looks c = record {
    some = c.some;
    each = λ k l. looks_on (path_look looks k) (path_look looks (k + 1)).node (c.each k l);
    last = looks_on (path_look looks (length looks - 1)) (path_look looks 0).node c.last;
  }

  escape_low : (x j y : ℕ) → ExtendedDependency n x j y → y < n.frame.channels
  escape_low x j y a =
      let there : Comes n j a.head = roams_come n j x a.head a.comes a.roams in
      net.within j y (ByChoice a.head y there (record { input = a.input; chosen = net.chosen j a.head y there a.escape }))

  from_ranks : (numbers : List ℕ) → RiseOn (graph n answers) numbers → AreRising n answers (slice_index numbers)
  from_ranks numbers r = record {
    awaits = λ x j y a. r.up x y (net.within j x a.comes) (escape_low x j y a)
        (record { column = y; low = escape_low x j y a; leads = leads_test n net answers x y (inl (j, a)); after = refl });
    answered = λ x y b. r.up x y (are.from x y b) (are.to x y b)
        (record { column = y; low = are.to x y b; leads = leads_test n net answers x y (inr b); after = refl });
    bounded = r.bound;
  }

  numbers_or_cycle : HasEscapes n → HasNumbers n answers ⊎ HasCycle n answers
  numbers_or_cycle escapes = elim (circle_or_ranks (graph n answers) (λ x j low e. low)) [
    | inl c ↦ inr (escapes, (length c.0, (λ k. (path_look c.0 k).node, from_circle c.0 c.1)))
    | inr r ↦ inl (escapes, (slice_index r.0, from_ranks r.0 r.1))
  ]

  -- the first channel without an escape, by destination
  abbrev some_stuck : ℕ → Bool
  some_stuck j = any (stuck n j) n.frame.channels

  not_stuck : (j x : ℕ) → stuck n j x ≡ false → LacksEscape n j x → ⊥
  not_stuck j x e s = let bad : true ≡ false = sym (stuck_test n net j x s) ∙ e in cc

  low_stuck : (j x : ℕ) → LacksEscape n j x → some_stuck j ≡ true
  low_stuck j x s = any_at (stuck n j) n.frame.channels x (net.within j x s.comes) (stuck_test n net j x s)

  false_not : (b : Bool) → not b ≡ false → b ≡ true
  false_not true e = refl
  false_not false e = cc

  first_at : (j : ℕ) → some_stuck j ≡ true → ((i : ℕ) → i < j → some_stuck i ≡ false) → HasNoEscape n
  first_at j some before = (
    j,
    elim (is_first (λ x. not (stuck n j x)) n.frame.channels) [
      | fails low here all ↦ (
        first (λ x. not (stuck n j x)) n.frame.channels,
        record {
          stuck = stuck_from n net j (first (λ x. not (stuck n j x)) n.frame.channels) (false_not (stuck n j (first (λ x. not (stuck n j x)) n.frame.channels)) here);
          before = λ i z l s. (let bad : true ≡ false = sym (low_stuck i z s) ∙ before i l in cc);
          beside = λ z l s. not_stuck j z (not_true (stuck n j z) (all z l)) s;
        },
      )
      | none e all ↦
          let w = any_from (stuck n j) n.frame.channels some in
          let low = w.1 in
          absurd (not_stuck j w.0 (not_true (stuck n j w.0) (all w.0 (omega arith))) (stuck_from n net j w.0 w.2))
    ],
  )

  -- no escape somewhere, or escapes everywhere
  stuck_or_escapes : HasNoEscape n ⊎ HasEscapes n
  stuck_or_escapes = elim (is_first (λ j. not (some_stuck j)) n.frame.channels) [
    | fails low here all ↦ inl (first_at (first (λ j. not (some_stuck j)) n.frame.channels)
        (false_not (some_stuck (first (λ j. not (some_stuck j)) n.frame.channels)) here) (λ i l. not_true (some_stuck i) (all i l)))
    | none e all ↦ inr (λ j x come input. elim (cases_Bool (any (λ y. n.escapes x j y) n.frame.channels)) [
      | inl some ↦ (let w = any_from (λ y. n.escapes x j y) n.frame.channels some in (w.0, w.2))
      | inr no_one ↦
          let low : j < n.frame.channels = comes_end n net j x come in
          let s : LacksEscape n j x = record {
            comes = come;
            input = input;
            none = λ y. elim (cases_Bool (n.escapes x j y)) [
              | inl esc ↦ (let there : y < n.frame.channels = net.within j y (ByChoice x y come (record { input = input; chosen = net.chosen j x y come esc })) in
                  let bad : true ≡ false = sym (any_at (λ y. n.escapes x j y) n.frame.channels y there esc) ∙ no_one in cc)
              | inr no_esc ↦ no_esc
            ];
          } in
          let bad : true ≡ false = sym (low_stuck j x s) ∙ not_true (some_stuck j) (all j (omega arith)) in
          absurd (cc)
    ])
  ]

  pub judged : HasNumbers n answers ⊎ (HasCycle n answers ⊎ HasNoEscape n)
  judged = ⊎_elim
      (λ (none : HasNoEscape n). inr (inr none))
      (λ (escapes : HasEscapes n). ⊎_elim
      (λ (a : HasNumbers n answers). inl a)
      (λ (b : HasCycle n answers). inr (inl b))
      (numbers_or_cycle escapes))
      stuck_or_escapes
