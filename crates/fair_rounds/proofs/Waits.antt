-- No operation waits for ever.
use Rattle.std.proofs.Common.{◌≡◌, ◌⊎◌, ⊎_elim, inl, inr, ℕ, ◌+◌, ◌*◌, ◌<◌, ◌≤◌, zero, suc, Bool, true, List, ◌++◌, All, length, sym, ap, ◌∙◌, refl, arith, subst}
use Rattle.std.specs.Prelude.{if◌then◌else◌}
use Rattle.torus.specs.Shape.{tiles_of}
use Rattle.torus.specs.declared.step.Step.{Step}
use Rattle.tile.specs.Tile.{Design}
use Rattle.one_order.specs.Observed.{Observed, HasIssued, HasAnswered}
use Rattle.core_laws.specs.Runs.{state_after}
use Rattle.core_laws.specs.Core.{Load, State, design_of, first_state, after, after_from}
use Rattle.core_laws.specs.Machine.{Core, IsAfter, built_to, core_after}
use Rattle.core_laws.specs.Handed.{BringsWords}
use Rattle.core_laws.proofs.Books.{after_append}
use Rattle.core_laws.proofs.Machines.{after_steps}
use Rattle.core_laws.proofs.StepLists.{design_after}
use Rattle.fair_rounds.specs.Chores.{issued_count, served_count}
use Rattle.fair_rounds.specs.Costs.{cost_of}
use Rattle.machine_core.specs.Arbiters.{Arbiter, IsArbiter, arbited_round}
use Rattle.fair_rounds.specs.Hosts.{IsOut, Handing, with_lines, WaitsLonger, IsHosted, longest_wait, NobodyWaits}
use Rattle.machine_core.specs.Guarded.{without_begins, guarded_round}
use Rattle.fair_rounds.proofs.MachineCounts.{chores_by_tags, served_few}
use Rattle.fair_rounds.proofs.Guards.{plain_of, plain_is, left_to_do, chores_are, list_falls}
use Rattle.fair_rounds.proofs.Issues.{issued_still}
use Rattle.fair_rounds.proofs.Lines.{Stage, todo, Grows, grow_all, alike_issued, alike_served}
use Rattle.fair_rounds.proofs.TwoRounds.{Waits, waits_alike, built_is, now_is, first_round, second_round, processor_low}

-- the sum of so many values of a function from a number on
abbrev sum_from : (ℕ → ℕ) → ℕ → ℕ → ℕ
sum_from f a zero = 0
sum_from f a (suc n) = f a + sum_from f (suc a) n

-- where each does one, or it and the next do two, so many do as many but one
sum_least : (f : ℕ → ℕ) (n a : ℕ) → ((j : ℕ) → a ≤ j → suc j < a + n → (1 ≤ f j) ⊎ (2 ≤ f j + f (suc j))) → n ≤ sum_from f a n + 1
sum_least f zero a each = omega arith
sum_least f (suc zero) a each = omega arith
sum_least f (suc (suc n)) a each = by_first (each a (omega arith) (omega arith))
    (sum_least f (suc n) (suc a) (λ j low high. each j (omega (arith, low)) (omega (arith, high))))
    (sum_least f n (suc (suc a)) (λ j low high. each j (omega (arith, low)) (omega (arith, high))))
  where
    by_first : (1 ≤ f a) ⊎ (2 ≤ f a + f (suc a)) → suc n ≤ sum_from f (suc a) (suc n) + 1 → n ≤ sum_from f (suc (suc a)) n + 1
        → suc (suc n) ≤ f a + (f (suc a) + sum_from f (suc (suc a)) n) + 1
    by_first h one two = ⊎_elim
        (λ (x : 1 ≤ f a). omega (arith, x, one))
        (λ (x : 2 ≤ f a + f (suc a)). omega (arith, x, two))
        h

-- hosts hand lines, and rounds are made in which operations are held back or not
pub record IsMade (by : Arbiter) (lines : ℕ → List Handing) (held : ℕ → Bool) (c : ℕ → Core) : Type 0 where
  pub words : (k : ℕ) → All (λ h. BringsWords h.line) (lines k)
  pub next : (k : ℕ) → c (suc k) ≡ core_after (with_lines (c k) (lines k)) (guarded_round by (held k) (with_lines (c k) (lines k)))

module _ (by : Arbiter) (orders : IsArbiter by) (lines : ℕ → List Handing) (held : ℕ → Bool) (c : ℕ → Core)
    (l0 : Load) (steps0 : List Step) (start : IsAfter l0 (c 0) steps0) (hosted : IsMade by lines held c) where
  -- the machine with which round k begins
  abbrev begun : ℕ → Core
  begun k = with_lines (c k) (lines k)

  abbrev grown : (k : ℕ) → (st : Stage (c k)) → Grows (c k) st (with_lines (c k) (lines k))
  grown k st = grow_all (lines k) (c k) st (hosted.words k)

  abbrev next_stage : (k : ℕ) → Stage (c k) → Stage (c (suc k))
  next_stage k st =
      let g = grown k st in
      let e : Core = with_lines (c k) (lines k) in
      record {
        load = (g.stage).load;
        steps = (g.stage).steps ++ guarded_round by (held k) (with_lines (c k) (lines k));
        after = subst (λ (m : Core). IsAfter (g.stage).load m ((g.stage).steps ++ guarded_round by (held k) (with_lines (c k) (lines k)))) (sym (hosted.next k))
            (after_steps (g.stage).load (with_lines (c k) (lines k)) (g.stage).steps (guarded_round by (held k) (with_lines (c k) (lines k))) (g.stage).after);
      }

  abbrev stage : (k : ℕ) → Stage (c k)
  stage zero = record { load = l0; steps = steps0; after = start }
  stage (suc k) = next_stage k (stage k)

  -- what is built stays
  built : (k : ℕ) → built_to (c k) ≡ built_to (c 0)
  built zero = refl
  built (suc k) =
      ap built_to (hosted.next k) ∙ (design_after (with_lines (c k) (lines k)) (guarded_round by (held k) (with_lines (c k) (lines k)))
      ∙ ((grown k (stage k)).built ∙ built k))

  tags_are : (k : ℕ) → (c k).tags ≡ (c 0).tags
  tags_are zero = refl
  tags_are (suc k) =
      let g = grown k (stage k) in
      ((stage (suc k)).after).tags ∙ (sym ((g.stage).after).tags ∙ (g.tags ∙ tags_are k))

  abbrev d : Design
  d = built_to (c 0)

  -- what is still to do, and what is issued and served, when round k begins; and what the round does
  abbrev left : ℕ → ℕ
  left k = todo (c k) (stage k)

  abbrev issued : ℕ → ℕ
  issued k = issued_count (built_to (c 0)) (c k).state

  abbrev served : ℕ → ℕ
  served k = served_count (built_to (c 0)) (c k).state

  abbrev does : ℕ → ℕ
  does k = cost_of (built_to (begun k)) (begun k).state (plain_of (built_to (begun k)) (begun k).state (arbited_round by (begun k)))

  -- a round that is held back
  pub record HeldRound (k : ℕ) : Type 0 where
    pub falls : left (suc k) + 91 * served k + does k ≤ left k + 91 * served (suc k)
    pub same : issued (suc k) ≡ issued k
    pub leads : (c (suc k)).state ≡ after_from (built_to (begun k)) (begun k).state (plain_of (built_to (begun k)) (begun k).state (arbited_round by (begun k)))

  held_round : (k : ℕ) → held k ≡ true → HeldRound k
  held_round k is =
      let st : Stage (c k) = stage k in
      let g : Grows (c k) (stage k) (begun k) = grown k (stage k) in
      let e : Core = begun k in
      let l : Load = (g.stage).load in
      let xs : List Step = (g.stage).steps in
      let ok = ((g.stage).after).accepted in
      let plan : List Step = arbited_round by (begun k) in
      let built_e : design_of (g.stage).load ≡ built_to (begun k) = built_is (begun k) g.stage in
      let state_e : (begun k).state ≡ after (g.stage).load (g.stage).steps = ((g.stage).after).state in
      let list : guarded_round by (held k) (begun k) ≡ plain_of (design_of (g.stage).load) (after (g.stage).load (g.stage).steps) (arbited_round by (begun k)) =
      ap (λ (b : Bool). if b then without_begins (begun k) (arbited_round by (begun k)) else arbited_round by (begun k)) is
      ∙ plain_is (arbited_round by (begun k)) (begun k) (design_of (g.stage).load) (after (g.stage).load (g.stage).steps) (sym built_e) state_e in
      let one : design_of (g.stage).load ≡ built_to (c 0) = built_e ∙ (g.built ∙ built k) in
      let falls = list_falls (g.stage).load ok (arbited_round by (begun k)) (g.stage).steps in
      let now : left (suc k) ≡ left_to_do (g.stage).load ok ((g.stage).steps ++ plain_of (design_of (g.stage).load) (after (g.stage).load (g.stage).steps) (arbited_round by (begun k))) =
      ap (λ (ys : List Step). left_to_do (g.stage).load ok ((g.stage).steps ++ ys)) list in
      let end : (c (suc k)).state ≡ after (g.stage).load ((g.stage).steps ++ plain_of (design_of (g.stage).load) (after (g.stage).load (g.stage).steps) (arbited_round by (begun k))) =
      ((stage (suc k)).after).state ∙ ap (λ (ys : List Step). after (g.stage).load ((g.stage).steps ++ ys)) list in
      let served_before : served_count (design_of (g.stage).load) (after (g.stage).load (g.stage).steps) ≡ served k =
      ap (λ (u : State). served_count (design_of (g.stage).load) u) (sym state_e)
      ∙ (ap (λ (b : Design). served_count b (begun k).state) one ∙ alike_served (built_to (c 0)) (c k).state (begun k).state g.alike) in
      let served_after : served_count (design_of (g.stage).load)
      (after (g.stage).load ((g.stage).steps ++ plain_of (design_of (g.stage).load) (after (g.stage).load (g.stage).steps) (arbited_round by (begun k)))) ≡ served (suc k) =
      ap (λ (u : State). served_count (design_of (g.stage).load) u) (sym end) ∙ ap (λ (b : Design). served_count b (c (suc k)).state) one in
      let costs : cost_of (design_of (g.stage).load) (after (g.stage).load (g.stage).steps)
      (plain_of (design_of (g.stage).load) (after (g.stage).load (g.stage).steps) (arbited_round by (begun k))) ≡ does k =
      ap (λ (b : Design). cost_of b (after (g.stage).load (g.stage).steps) (plain_of b (after (g.stage).load (g.stage).steps) (arbited_round by (begun k)))) built_e
      ∙ ap (λ (u : State). cost_of (built_to (begun k)) u (plain_of (built_to (begun k)) u (arbited_round by (begun k)))) (sym state_e) in
      let runs : after (g.stage).load ((g.stage).steps ++ plain_of (design_of (g.stage).load) (after (g.stage).load (g.stage).steps) (arbited_round by (begun k)))
      ≡ after_from (built_to (begun k)) (begun k).state (plain_of (built_to (begun k)) (begun k).state (arbited_round by (begun k))) =
      after_append (design_of (g.stage).load) (first_state (g.stage).load) (g.stage).steps
      (plain_of (design_of (g.stage).load) (after (g.stage).load (g.stage).steps) (arbited_round by (begun k)))
      ∙ (ap (λ (b : Design). after_from b (after (g.stage).load (g.stage).steps) (plain_of b (after (g.stage).load (g.stage).steps) (arbited_round by (begun k)))) built_e
      ∙ ap (λ (u : State). after_from (built_to (begun k)) u (plain_of (built_to (begun k)) u (arbited_round by (begun k)))) (sym state_e)) in
      let todo_same = g.same in
      let leads : (c (suc k)).state ≡ after_from (built_to (begun k)) (begun k).state (plain_of (built_to (begun k)) (begun k).state (arbited_round by (begun k))) = end ∙ runs in
      record {
        falls = omega (arith, falls, now, served_before, served_after, costs, todo_same);
        same = ap (issued_count (built_to (c 0))) leads
            ∙ (ap (λ (b : Design). issued_count b (after_from (built_to (begun k)) (begun k).state (plain_of (built_to (begun k)) (begun k).state (arbited_round by (begun k)))))
            (sym (g.built ∙ built k))
            ∙ (issued_still (built_to (begun k)) (arbited_round by (begun k)) (begun k).state
            ∙ (ap (λ (b : Design). issued_count b (begun k).state) (g.built ∙ built k) ∙ alike_issued (built_to (c 0)) (c k).state (begun k).state g.alike)));
        leads = leads;
      }

  -- an operation that is out when a round begins is out after the lines
  pub out_begun : (k p i : ℕ) → IsOut (c k) p i → IsOut (begun k) p i
  out_begun k p i x =
      let shows = (grown k (stage k)).shows in
      record {
        issued = subst (λ (v : Observed). HasIssued v p i) (sym shows) x.issued;
        unanswered = λ told. x.unanswered (subst (λ (v : Observed). HasAnswered v p i) shows told);
      }

  -- a round does one, or it and the next do two
  two_rounds : (k p i : ℕ) → IsOut (c k) p i → held k ≡ true → (1 ≤ does k) ⊎ (2 ≤ does k + does (suc k))
  two_rounds k p i x is =
      let g = grown k (stage k) in
      let next = grown (suc k) (stage (suc k)) in
      let h = held_round k is in
      ⊎_elim
      (λ (one : 1 ≤ does k). inl one)
      (λ (waits : Waits (built_to (begun k)) (after_from (built_to (begun k)) (begun k).state (plain_of (built_to (begun k)) (begun k).state (arbited_round by (begun k))))).
      let same : built_to (begun k) ≡ built_to (begun (suc k)) = g.built ∙ (built k ∙ (sym (built (suc k)) ∙ sym next.built)) in
      let there : Waits (built_to (begun (suc k))) (begun (suc k)).state =
      subst (λ (b : Design). Waits b (begun (suc k)).state) same
      (waits_alike (built_to (begun k)) (c (suc k)).state (begun (suc k)).state next.alike
      (subst (Waits (built_to (begun k))) (sym h.leads) waits)) in
      let two = second_round by orders (begun (suc k)) next.stage there in
      inr (omega (arith, two)))
      (first_round by orders (begun k) g.stage p i (out_begun k p i x))

  -- what many rounds do
  many_fall : (n a : ℕ) → ((j : ℕ) → a ≤ j → j < a + n → held j ≡ true)
      → (left (a + n) + 91 * served a + sum_from does a n ≤ left a + 91 * served (a + n)) × (issued (a + n) ≡ issued a)
  many_fall zero a all =
      let same : a + 0 ≡ a = omega arith in
      let l = ap left same in
      let s = ap served same in
      (omega (arith, l, s), ap issued same)
  many_fall (suc n) a all =
      let one = held_round a (all a (omega arith) (omega arith)) in
      let rest = many_fall n (suc a) (λ j low high. all j (omega (arith, low)) (omega (arith, high))) in
      let same : a + suc n ≡ suc a + n = omega arith in
      let l = ap left same in
      let s = ap served same in
      let falls = one.falls in
      let more = rest.0 in
      (omega (arith, falls, more, l, s), ap issued same ∙ (rest.1 ∙ one.same))

  -- what is still to do is bounded by the tags
  by_tags : (k : ℕ) → left k + 91 * issued k ≤ 91 * served k + 241 * (tiles_of (c 0).shape * (c 0).tags)
  by_tags k =
      let st : Stage (c k) = stage k in
      let all = chores_by_tags (stage k).load ((stage k).after).accepted (stage k).steps (length (stage k).steps) in
      let is = chores_are (stage k).load ((stage k).after).accepted (stage k).steps in
      let one : design_of (stage k).load ≡ built_to (c 0) = built_is (c k) (stage k) ∙ built k in
      let now = now_is (c k) (stage k) in
      let i : issued_count (design_of (stage k).load) (state_after (stage k).load (stage k).steps (length (stage k).steps)) ≡ issued k =
      ap (issued_count (design_of (stage k).load)) now ∙ ap (λ (b : Design). issued_count b (c k).state) one in
      let s : served_count (design_of (stage k).load) (state_after (stage k).load (stage k).steps (length (stage k).steps)) ≡ served k =
      ap (served_count (design_of (stage k).load)) now ∙ ap (λ (b : Design). served_count b (c k).state) one in
      let tiles : tiles_of ((stage k).load).shape ≡ tiles_of (c 0).shape = ap (λ (b : Design). tiles_of b.shape) one in
      let tags : ((stage k).load).tags ≡ (c 0).tags = sym ((stage k).after).tags ∙ tags_are k in
      let product : tiles_of ((stage k).load).shape * ((stage k).load).tags ≡ tiles_of (c 0).shape * (c 0).tags =
      ap (λ n. n * ((stage k).load).tags) tiles ∙ ap (λ n. tiles_of (c 0).shape * n) tags in
      omega (arith, all, is, i, s, product)

  few_served : (k : ℕ) → served k ≤ issued k
  few_served k =
      let few = served_few (stage k).load ((stage k).after).accepted (stage k).steps (length (stage k).steps) in
      let one : design_of (stage k).load ≡ built_to (c 0) = built_is (c k) (stage k) ∙ built k in
      let now = now_is (c k) (stage k) in
      let i : issued_count (design_of (stage k).load) (state_after (stage k).load (stage k).steps (length (stage k).steps)) ≡ issued k =
      ap (issued_count (design_of (stage k).load)) now ∙ ap (λ (b : Design). issued_count b (c k).state) one in
      let s : served_count (design_of (stage k).load) (state_after (stage k).load (stage k).steps (length (stage k).steps)) ≡ served k =
      ap (served_count (design_of (stage k).load)) now ∙ ap (λ (b : Design). served_count b (c k).state) one in
      omega (arith, few, i, s)

  -- No operation is out for so many rounds, where those that are made meanwhile are held back as the guard says.
  pub nobody_waits : (most k p i : ℕ) → ((j : ℕ) → j < k + longest_wait most (c 0) → WaitsLonger most c j → held j ≡ true)
      → ((m : ℕ) → k ≤ m → m ≤ k + longest_wait most (c 0) → IsOut (c m) p i) → ⊥
  nobody_waits most k p i guarded out =
      let tiles : ℕ = tiles_of (c 0).shape in
      let n : ℕ = 241 * (tiles_of (c 0).shape * (c 0).tags) + 2 * tiles_of (c 0).shape in
      let a : ℕ = k + most + 1 in
      let is_held : (j : ℕ) → a ≤ j → j < a + n → held j ≡ true = λ j low high. guarded j (omega (arith, high)) (record {
        processor = p;
        index = i;
        since = k;
        long = omega (arith, low);
        out = λ m from to. out m from (omega (arith, to, high));
      }) in
      let least = sum_least does n a (λ j low high. two_rounds j p i (out j (omega (arith, low)) (omega (arith, high))) (is_held j low (omega (arith, high)))) in
      let all = many_fall n a is_held in
      let fall = all.0 in
      let same = all.1 in
      let few = few_served (a + n) in
      let tags = by_tags a in
      let here : p < tiles_of (c k).shape = processor_low by orders (c k) (stage k) p i (out k (omega arith) (omega arith)) in
      let shape : tiles_of (c k).shape ≡ tiles_of (c 0).shape = ap (λ (b : Design). tiles_of b.shape) (built k) in
      omega (arith, least, fall, same, few, tags, here, shape)

-- the law
pub no_operation_waits : (by : Arbiter) → IsArbiter by → (most : ℕ) (lines : ℕ → List Handing) (held : ℕ → Bool) (c : ℕ → Core)
    → (l : Load) (steps : List Step) → IsAfter l (c 0) steps → IsHosted by most lines held c → NobodyWaits (longest_wait most (c 0)) c
no_operation_waits by orders most lines held c l steps start hosted k p i =
    nobody_waits by orders lines held c l steps start (record { words = hosted.words; next = hosted.next }) most k p i (λ j low waits. (hosted.guard j).1 waits)
