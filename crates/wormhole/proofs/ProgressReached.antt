-- What holds in every state that events lead to.
use Rattle.std.proofs.Common.{◌≡◌, ◌+◌, ◌≤◌, ◌<◌, ℕ, zero, suc, Option, Some, None, List, [], ◌∷◌, length, sym, ap, refl, subst, arith, add-one}
use Rattle.std.specs.List.{sum_by}
use Rattle.std.proofs.lemmas.List.Sums.{sum_by-cons}
use Rattle.wormhole.specs.Net.{Net, IsNet}
use Rattle.wormhole.specs.State.{NetState, empty}
use Rattle.wormhole.specs.Events.{NetEvent, CanAllHappen, after, after_all, network_after}
use Rattle.wormhole.specs.Words.{Words}
use Rattle.wormhole.specs.Routes.{Routes}
use Rattle.wormhole.proofs.Reached.{words_kept, routes_kept, words_empty, routes_empty}
use Rattle.wormhole.specs.Weight.{weight, promised}
use Rattle.wormhole.specs.Work.{End, work, IsStep, EventMayHappen}
use Rattle.wormhole.proofs.Falls.{one_less}
use Rattle.wormhole.proofs.Working.{work_falls}
use Rattle.wormhole.proofs.Bounded.{empty_owes}

-- the moves that events make, and those that are still owed, are those that they promised
pub all_make_moves : (n : Net) (s : NetState) (es : List NetEvent) → IsNet n → Words n s → Routes n s → CanAllHappen n s es
    → weight n (after_all n s es) + length es ≡ weight n s + sum_by (promised n) es
all_make_moves n s [] net w r may = refl
all_make_moves n s (e ∷ es) net w r may =
    let one : weight n (after n s e) + 1 ≡ weight n s + promised n e = one_less n s net w r e may.0 in
    let rest : weight n (after_all n (after n s e) es) + length es ≡ weight n (after n s e) + sum_by (promised n) es =
    all_make_moves n (after n s e) es net (words_kept n s e net w r may.0) (routes_kept n s e net w r may.0) may.1 in
    let sum = sum_by-cons (promised n) e es in
    omega arith

-- from the empty network on
pub moves_are_promised : (n : Net) (es : List NetEvent) → IsNet n → CanAllHappen n (empty n) es
    → weight n (after_all n (empty n) es) + length es ≡ sum_by (promised n) es
moves_are_promised n es net may =
    let all : weight n (after_all n (empty n) es) + length es ≡ weight n (empty n) + sum_by (promised n) es =
    all_make_moves n (empty n) es net (words_empty n) (routes_empty n) may in
    let none : weight n (empty n) ≡ 0 = empty_owes n n.channels in
    omega arith

-- a step keeps what holds of the network
pub step_keeps : (n : Net) (s : NetState) (e : Option NetEvent) → IsNet n → Words n s × Routes n s → EventMayHappen n s e
    → Words n (network_after n s e) × Routes n (network_after n s e)
step_keeps n s None net at may = at
step_keeps n s (Some e) net at may = (words_kept n s e net at.0 at.1 may, routes_kept n s e net at.0 at.1 may)

module _ (n : Net) (tiles : ℕ) (ends : ℕ → ℕ → End) (s : ℕ → NetState) (net : IsNet n) (first : Words n (s 0) × Routes n (s 0)) where
  -- it holds after each of some steps
  pub steps_keep : (m : ℕ) → ((i : ℕ) → i < m → IsStep n tiles (ends i) (s i) (ends (i + 1)) (s (i + 1))) → Words n (s m) × Routes n (s m)
  steps_keep zero step = first
  steps_keep (suc m) step =
      let one : IsStep n tiles (ends m) (s m) (ends (m + 1)) (s (m + 1)) = step m (omega arith) in
      subst (λ i. Words n (s i) × Routes n (s i)) (add-one m)
      (subst (λ (t : NetState). Words n t × Routes n t) (sym one.network)
      (step_keeps n (s m) one.event net (steps_keep m (λ i h. step i (omega arith))) one.may))

  -- each of some steps makes a move that is owed
  pub steps_bounded : (m : ℕ) → ((i : ℕ) → i < m → IsStep n tiles (ends i) (s i) (ends (i + 1)) (s (i + 1)))
      → m + work n tiles (ends m) (s m) ≤ work n tiles (ends 0) (s 0)
  steps_bounded zero step = omega arith
  steps_bounded (suc m) step =
      let before : m + work n tiles (ends m) (s m) ≤ work n tiles (ends 0) (s 0) = steps_bounded m (λ i h. step i (omega arith)) in
      let at = steps_keep m (λ i h. step i (omega arith)) in
      let last : work n tiles (ends (m + 1)) (s (m + 1)) < work n tiles (ends m) (s m) =
      work_falls n (s m) net at.0 at.1 tiles (ends m) (ends (m + 1)) (s (m + 1)) (step m (omega arith)) in
      let same : work n tiles (ends (m + 1)) (s (m + 1)) ≡ work n tiles (ends (suc m)) (s (suc m)) = ap (λ i. work n tiles (ends i) (s i)) (add-one m) in
      omega arith
