-- Clocked rounds: which steps they are, that they make a move, and that they finish every script.
use Rattle.std.proofs.Common.{◌≡◌, ◌⊎◌, inl, inr, ℕ, zero, suc, ◌+◌, ◌-◌, ◌*◌, ◌%◌, ◌<◌, ◌≤◌, Bool, true, false, List, [], ◌∷◌, ◌++◌, map, length, Option, Some, None, refl, sym}
use Rattle.std.proofs.Common.{◌∙◌, ap, subst, arith}
use Rattle.std.specs.Prelude.{filter, is_some}
use Rattle.std.specs.List.{flat_map, range_with_len}
use Rattle.std.proofs.Math.Bool.{cond}
use Rattle.std.proofs.Math.Nat.{mod-lt}
use Rattle.std.proofs.lemmas.Bool.{cases_lt}
use Rattle.std.proofs.lemmas.List.{map-append}
use Rattle.std.proofs.lemmas.List.Elements.{filter-append}
use Rattle.torus.specs.Shape.{Shape, tiles_of, dims_of}
use Rattle.torus.specs.declared.step.Step.{Step}
use Rattle.torus.specs.declared.step.Choice.{Choice}
use Rattle.torus.specs.declared.step.Choice.TheVariants.{TakeFrom, Put, CreditOf}
use Rattle.torus.specs.Choices.{processor_choices, bank_choices, takes_of_all, puts_of_all, credits_of_all, router_choices}
use Rattle.channel_number.specs.Ports.{port_count}
use Rattle.machine_parts.specs.AbstractScripts.{AreFinished}
use Rattle.machine_parts.specs.Rounds.{moves_in, one_if_moved}
use Rattle.machine_parts.specs.Core.{Load, State, step, attempts_of, round_at, round, run_of}
use Rattle.machine_parts.specs.ProgressMoves.{IsLive}
use Rattle.machine_parts.specs.Machine.{Core, IsAfter, MakesMove, built_to, core_after, all_finished}
use Rattle.machine_parts.proofs.Machines.{after_steps, finished_of_machine}
use Rattle.machine_parts.proofs.Moves.{lives}
use Rattle.machine_core.specs.declared.part.Marks.{Marks}
use Rattle.machine_core.specs.Rounds.{attempts_between, first_in}
use Rattle.machine_core.specs.Arbiters.{Arbiter, NamesInputs, IsArbiter, arbited_at, arbited_round, by_turn}
use Rattle.machine_core.specs.Clocked.{turned_at, turned_round, clocked_round, clocked_rounds}
use Rattle.machine_core.specs.Marked.{marked_at, MarksTile}
use Rattle.machine_core.proofs.FirstEnabled.{skipped}
use Rattle.machine_core.proofs.Finishing.{few_left}
use Rattle.machine_core.proofs.Rounds.{core_append}
use Rattle.machine_core.proofs.MarkedSteps.{is_enabled, tiles_kept}
use Rattle.machine_core.proofs.Orders.{turned_is, turned_round_is}

-- what is marked of all tiles is the clocked round
turned : (s : Shape) (turn ports first tiles : ℕ) → ports ≡ port_count (dims_of s) → first ≡ turn % ports → tiles ≡ tiles_of s
    → flat_map (turned_at ports first) (range_with_len 0 tiles) ≡ turned_round s turn
turned s turn ports first tiles p f t =
    ap (λ (k : ℕ). flat_map (turned_at ports k) (range_with_len 0 tiles)) f
    ∙ (ap (λ (k : ℕ). flat_map (turned_at k (turn % k)) (range_with_len 0 tiles)) p
    ∙ ap (λ (k : ℕ). flat_map (turned_at (port_count (dims_of s)) (turn % port_count (dims_of s))) (range_with_len 0 k)) t)

pub clocked_is : (c : Core) (m : Marks) (turn ports first tiles : ℕ) → ports ≡ port_count (dims_of c.shape) → first ≡ turn % ports → tiles ≡ tiles_of c.shape
    → ((t : ℕ) → t < tiles_of c.shape → MarksTile c ports t m)
    → flat_map (marked_at m ports first) (range_with_len 0 tiles) ≡ clocked_round c turn
clocked_is c m turn ports first tiles p f t marked =
    let some : 0 < ports = omega (arith, p) in
    let below : turn % ports < ports = mod-lt turn some in
    tiles_kept c m ports first 0 tiles (omega (arith, below, f)) (λ u low. marked u (omega (arith, low, t)))
    ∙ ap (filter (is_enabled c)) (turned c.shape turn ports first tiles p f t)

-- lists of which nothing passes a test
module _ (p : Step → Bool) where
  left_none : (xs ys : List Step) → xs ++ ys ≡ [] → xs ≡ []
  left_none [] ys e = refl
  left_none (x ∷ xs) ys e = absurd (cc)

  right_none : (xs ys : List Step) → xs ++ ys ≡ [] → ys ≡ []
  right_none [] ys e = e
  right_none (x ∷ xs) ys e = absurd (cc)

  none_left : (xs ys : List Step) → filter p (xs ++ ys) ≡ [] → filter p xs ≡ []
  none_left xs ys e = left_none (filter p xs) (filter p ys) (sym (filter-append p xs ys) ∙ e)

  none_right : (xs ys : List Step) → filter p (xs ++ ys) ≡ [] → filter p ys ≡ []
  none_right xs ys e = right_none (filter p xs) (filter p ys) (sym (filter-append p xs ys) ∙ e)

  none_both : (xs ys : List Step) → filter p xs ≡ [] → filter p ys ≡ [] → filter p (xs ++ ys) ≡ []
  none_both xs ys a b = filter-append p xs ys ∙ (ap (λ (zs : List Step). zs ++ filter p ys) a ∙ b)

  module _ (ports t : ℕ) where
    abbrev of_router : List Choice → List Step
    of_router = attempts_of (3 * t + 1)

    routed : (xs ys : List Choice) → filter p (of_router xs) ≡ [] → filter p (of_router ys) ≡ [] → filter p (of_router (xs ++ ys)) ≡ []
    routed xs ys a b =
        ap (filter p) (map-append (λ (choice : Choice). record { agent = 3 * t + 1; choice = choice }) xs ys) ∙ none_both (of_router xs) (of_router ys) a b

    whole : (f : ℕ → Choice) → filter p (attempts_between f (3 * t + 1) 0 ports) ≡ [] → filter p (of_router (map f (range_with_len 0 ports))) ≡ []
    whole f e = ap (λ (n : ℕ). filter p (of_router (map f (range_with_len 0 n)))) (let z : ports ≡ ports - 0 = omega arith in z) ∙ e

    abbrev put_of : ℕ → Step
    put_of i = record { agent = 3 * t + 1; choice = Put i }

    -- one of which nothing passes
    not_there : (before behind : List ℕ) (i : ℕ) → filter p (of_router (map (λ k. Put k) (before ++ i ∷ behind))) ≡ [] → p (put_of i) ≡ false
    not_there [] behind i e = by_test (p (put_of i)) e
      where
        by_test : (b : Bool) → cond b (put_of i ∷ filter p (of_router (map (λ k. Put k) behind))) (filter p (of_router (map (λ k. Put k) behind))) ≡ [] → b ≡ false
        by_test true e = absurd (cc)
        by_test false e = refl
    not_there (j ∷ before) behind i e =
        not_there before behind i (none_right (put_of j ∷ []) (of_router (map (λ k. Put k) (before ++ i ∷ behind))) e)

    none_of_range : (a n : ℕ) → ((i : ℕ) → i < a + n → p (put_of i) ≡ false) → filter p (of_router (map (λ k. Put k) (range_with_len a n))) ≡ []
    none_of_range a zero none = refl
    none_of_range a (suc n) none =
        ap (λ (b : Bool). cond b (put_of a ∷ filter p (of_router (map (λ k. Put k) (range_with_len (a + 1) n))))
        (filter p (of_router (map (λ k. Put k) (range_with_len (a + 1) n))))) (none a (omega arith))
        ∙ none_of_range (a + 1) n (λ i low. none i (omega (arith, low)))

    module _ (inputs : List ℕ) (names : NamesInputs ports inputs) where
      named : filter p (of_router (map (λ k. Put k) inputs)) ≡ [] → filter p (of_router (puts_of_all ports)) ≡ []
      named e = none_of_range 0 ports (λ i low.
          let at = names.all i (omega (arith, low)) in
          not_there at.0 at.1 i (ap (λ (xs : List ℕ). filter p (of_router (map (λ k. Put k) xs))) (sym at.2) ∙ e))

      -- a tile where nothing of a round by an arbiter passes
      none_at : filter p (arbited_at ports inputs t) ≡ [] → filter p (round_at ports t) ≡ []
      none_at e =
          let own : List Step = attempts_of (3 * t) processor_choices in
          let takes : List Step = attempts_between (λ k. TakeFrom k) (3 * t + 1) 0 ports in
          let puts : List Step = of_router (map (λ k. Put k) inputs) in
          let credits : List Step = attempts_between (λ k. CreditOf k) (3 * t + 1) 0 ports in
          let bank : List Step = attempts_of (3 * t + 2) bank_choices in
          let e_3 = none_left (own ++ takes ++ puts ++ credits) bank e in
          let e_2 = none_left (own ++ takes ++ puts) credits e_3 in
          let e_1 = none_left (own ++ takes) puts e_2 in
          let of_takes = whole (λ k. TakeFrom k) (none_right own takes e_1) in
          let of_puts = named (none_right (own ++ takes) puts e_2) in
          let of_credits = whole (λ k. CreditOf k) (none_right (own ++ takes ++ puts) credits e_3) in
          let router = routed (takes_of_all ports ++ puts_of_all ports) (credits_of_all ports) (routed (takes_of_all ports) (puts_of_all ports) of_takes of_puts) of_credits in
          none_both (own ++ of_router (router_choices ports)) bank
          (none_both own (of_router (router_choices ports)) (none_left own takes e_1) router)
          (none_right (own ++ takes ++ puts ++ credits) bank e)

  none_of_tiles : (by : ℕ → List ℕ) (ports a n : ℕ) → ((t : ℕ) → t < a + n → NamesInputs ports (by t))
      → filter p (flat_map (λ t. arbited_at ports (by t) t) (range_with_len a n)) ≡ []
      → filter p (flat_map (round_at ports) (range_with_len a n)) ≡ []
  none_of_tiles by ports a zero names e = refl
  none_of_tiles by ports a (suc n) names e =
      let here : List Step = arbited_at ports (by a) a in
      let rest : List Step = flat_map (λ t. arbited_at ports (by t) t) (range_with_len (a + 1) n) in
      none_both (round_at ports a) (flat_map (round_at ports) (range_with_len (a + 1) n))
      (none_at ports a (by a) (names a (omega arith)) (none_left here rest e))
      (none_of_tiles by ports (a + 1) n (λ t low. names t (omega (arith, low))) (none_right here rest e))

-- where nothing passes, no step is the first that is enabled
none_first : (c : Core) (xs : List Step) → filter (is_enabled c) xs ≡ [] → first_in c xs ≡ None
none_first c [] e = refl
none_first c (x ∷ xs) e = by_test (is_enabled c x) refl (none_first c xs) e
  where
    by_test : (b : Bool) → is_enabled c x ≡ b → (filter (is_enabled c) xs ≡ [] → first_in c xs ≡ None)
        → cond b (x ∷ filter (is_enabled c) xs) (filter (is_enabled c) xs) ≡ [] → first_in c (x ∷ xs) ≡ None
    by_test true is rest h = absurd (cc)
    by_test false is rest h = skipped c x xs is ∙ rest h

-- attempts that make a move at once
abbrev pub MovesAtOnce : Core → List Step → Type 0
MovesAtOnce c xs = MakesMove c xs × (0 < moves_in (step (built_to c)) c.state xs)

-- nothing passes, or the first that does is enabled at once
first_moves : (c : Core) (xs : List Step) → (filter (is_enabled c) xs ≡ []) ⊎ MovesAtOnce c (filter (is_enabled c) xs)
first_moves c [] = inl refl
first_moves c (x ∷ xs) = by_test (step (built_to c) c.state x) refl (first_moves c xs)
  where
    by_test : (o : Option State) → step (built_to c) c.state x ≡ o → (filter (is_enabled c) xs ≡ []) ⊎ MovesAtOnce c (filter (is_enabled c) xs)
        → (cond (is_some o) (x ∷ filter (is_enabled c) xs) (filter (is_enabled c) xs) ≡ [])
        ⊎ MovesAtOnce c (cond (is_some o) (x ∷ filter (is_enabled c) xs) (filter (is_enabled c) xs))
    by_test None is rest = rest
    by_test (Some t) is rest =
        let one : one_if_moved (step (built_to c) c.state x) ≡ 1 = ap one_if_moved is in
        inr (record { before = []; attempt = x; behind = filter (is_enabled c) xs; of = refl; enabled = (t, is) }, omega (arith, one))

-- while a script isn't finished, a clocked round makes a move, by any arbiter
module _ (l : Load) (c : Core) (steps : List Step) (h : IsAfter l c steps) where
  pub arbited_move : (by : Arbiter) → IsArbiter by → all_finished c.state ≡ false → MovesAtOnce c (arbited_round by c)
  arbited_move by names busy =
      let ports : ℕ = port_count (dims_of c.shape) in
      elim (first_moves c (flat_map (λ t. arbited_at ports (by c t) t) (range_with_len 0 (tiles_of c.shape)))) [
        | inl none ↦
            (let nothing = none_first c (round c.shape)
            (none_of_tiles (is_enabled c) (by c) ports 0 (tiles_of c.shape) (λ t low. names c t (omega (arith, low))) none) in
            let live : IsLive (built_to c) c.state = lives l c steps h busy in
            let clash : ◌≡◌ {A = Option Step} None (Some live.0) = sym nothing ∙ live.1 in absurd (cc))
        | inr moves ↦ moves
      ]

  module _ (turn : ℕ) (busy : all_finished c.state ≡ false) where
    moves_at_once : MovesAtOnce c (clocked_round c turn)
    moves_at_once = subst (MovesAtOnce c) (sym (turned_round_is c turn)) (arbited_move (by_turn turn) (turned_is turn) busy)

    pub clocked_moves : MakesMove c (clocked_round c turn)
    clocked_moves = moves_at_once.0

    pub clocked_count : 0 < moves_in (step (built_to c)) c.state (clocked_round c turn)
    clocked_count = moves_at_once.1

-- a machine has made so many clocked rounds, before each some script wasn't finished, and each has made a move
pub record HasMade (start now : Core) (k : ℕ) : Type 0 where
  pub so_far : now ≡ core_after start (clocked_rounds start k)
  pub busy : (j : ℕ) → j < k → all_finished (core_after start (clocked_rounds start j)).state ≡ false
  pub few : k + now.moves_left ≤ start.moves_left

pub has_none : (c : Core) → HasMade c c 0
has_none c = record { so_far = refl; busy = λ j low. absurd (omega (arith, low)); few = omega arith }

module _ (l : Load) (start : Core) (steps : List Step) (h : IsAfter l start steps) (now : Core) (k : ℕ) (made : HasMade start now k) where
  stands : IsAfter l now (steps ++ clocked_rounds start k)
  stands = subst (λ (c : Core). IsAfter l c (steps ++ clocked_rounds start k)) (sym made.so_far) (after_steps l start steps (clocked_rounds start k) h)

  pub few_made : k ≤ 15794304
  few_made =
      let few = made.few in
      let left = few_left l start steps h in
      let moves = h.moves in
      omega (arith, few, left, moves)

  module _ (next : Core) (busy : all_finished now.state ≡ false)
      (moves : next.moves_left + moves_in (step (built_to now)) now.state (clocked_round now k) ≡ now.moves_left) where
    pub less_left : next.moves_left < now.moves_left
    less_left = let some = clocked_count l now (steps ++ clocked_rounds start k) stands k busy in omega (arith, some, moves)

    pub has_more : next ≡ core_after now (clocked_round now k) → HasMade start next (k + 1)
    has_more is =
        let e : suc k ≡ k + 1 = omega arith in
        record {
          so_far =
              is
              ∙ (ap (λ (c : Core). core_after c (clocked_round c k)) made.so_far
              ∙ (sym (core_append start (clocked_rounds start k) (clocked_round (core_after start (clocked_rounds start k)) k))
              ∙ ap (λ (n : ℕ). core_after start (clocked_rounds start n)) e));
          busy = λ j low. elim (cases_lt j k) [
            | inl less ↦ made.busy j less
            | inr most ↦
                (let same : j ≡ k = omega (arith, low, most) in
                ap (λ (n : ℕ). all_finished (core_after start (clocked_rounds start n)).state) same
                ∙ (ap (λ (c : Core). all_finished c.state) (sym made.so_far) ∙ busy))
          ];
          few = let few = made.few in let less = less_left in omega (arith, few, less);
        }

-- and then every script of the run is finished
pub finished_run : (l : Load) (c : Core) (steps : List Step) → IsAfter l c steps → (k : ℕ) → all_finished (core_after c (clocked_rounds c k)).state ≡ true
    → AreFinished (run_of l (steps ++ clocked_rounds c k)) (length (steps ++ clocked_rounds c k)) l.scripts
finished_run l c steps h k is =
    (finished_of_machine l (core_after c (clocked_rounds c k)) (steps ++ clocked_rounds c k) (after_steps l c steps (clocked_rounds c k) h)).0 is
