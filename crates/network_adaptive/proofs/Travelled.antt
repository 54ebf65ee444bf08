-- What the search tells of the choices for one destination.
use Rattle.std.proofs.Common.{◌≡◌, ◌⊎◌, inl, inr, ⊎_elim, ℕ, zero, suc, ◌+◌, ◌-◌, ◌*◌, ◌<◌, ◌≤◌, ◌&&◌, not, Bool, true, List, [], length, refl, sym, ◌∙◌, ap, subst, arith}
use Rattle.std.specs.Prelude.{slice_index, nat_lt, ◌==◌}
use Rattle.std.proofs.lemmas.Bool.{cases_lt, cases_Bool, and_parts, and_from, eqb-true, eq-eqb, ltb-true}
use Rattle.rising.specs.declared.search.Look.{Look}
use Rattle.rising.specs.Graph.{Digraph, RisesAlong}
use Rattle.rising.specs.Search.{path_look, StepsOn, IsCircuit, LeadsWithin}
use Rattle.rising.specs.Found.{IsPermutationBelow}
use Rattle.network_judge.specs.declared.table.Kind.{Kind}
use Rattle.network_judge.specs.declared.table.Join.{Join}
use Rattle.network_judge.specs.Table.{table_of, joins_of}
use Rattle.network_judge.specs.Marks.{is_marked_at}
use Rattle.network_judge.specs.TableNet.{Flits}
use Rattle.network_adaptive.specs.Choices.{AdaptiveNet, Comes, BeginsIn, ByChoice, HasEscapes}
use Rattle.network_adaptive.specs.Work.{AreNearer}
use Rattle.network_adaptive.specs.declared.verdict.Travel.{Travel}
use Rattle.network_adaptive.specs.declared.verdict.Travel.TheVariants.{Bounded, Round}
use Rattle.network_adaptive.specs.Spread.{block_base, Path, Stop, Go, names, opens, leads_on}
use Rattle.network_adaptive.specs.Choosing.{ChoiceTable, network, IsShaped}
use Rattle.network_adaptive.specs.Flags.{AreDown, AreComes, ComesTo}
use Rattle.network_adaptive.specs.Longest.{ComesOver, BeginsThere, OneChoiceMore, IsLongestWay, AreFarthest, IsMostOf, PassesOver, StartsThere, OneStepMore, IsMostPassed}
use Rattle.network_adaptive.specs.Travel.{ChoicesLead, Here, Onto, CanGoRound, IsTravel, chosen_at, is_taken, choice_graph, step_to, HasNumbersTo, GoesRoundAt, IsTravelOf}
use Rattle.network_adaptive.proofs.Flags.{any_at, any_from, true_not, up_inside}
use Rattle.network_adaptive.proofs.Spreading.{path_up}
use Rattle.network_adaptive.proofs.Bridge.{step_goes, goes_step, to_comes, comes_to, is_adaptive}

-- a choice leads to a channel
pub choices_within : (kinds : List Kind) (choices : List ℕ) (base ways : ℕ) (seen : List Bool) → LeadsWithin (choice_graph kinds choices base ways seen)
choices_within kinds choices base ways seen x k end leads =
    let a = and_parts (is_marked_at seen x) (leads_on kinds x && nat_lt (chosen_at choices base ways x k) (length kinds)) leads in
    let b = and_parts (leads_on kinds x) (nat_lt (chosen_at choices base ways x k) (length kinds)) a.1 in
    ltb-true (chosen_at choices base ways x k) (length kinds) b.1

module _ (kinds : List Kind) (joins : List Join) (choices : List ℕ) (ways : ℕ) (none : List Bool) (down : AreDown none) (j : ℕ) (seen : List Bool)
    (are : AreComes kinds joins (step_to kinds choices ways none j) j seen) where
  abbrev base : ℕ
  base = block_base kinds ways j

  abbrev graph : Digraph
  graph = choice_graph kinds choices base ways seen

  -- a step is an edge of the graph
  step_taken : (x y : ℕ) → ComesTo joins (step_to kinds choices ways none j) j x → step_to kinds choices ways none j x y ≡ true
      → (x < length kinds) × ((k : ℕ) × (k < ways) × (is_taken kinds choices base ways seen x k ≡ true) × (chosen_at choices base ways x k ≡ y))
  step_taken x y c e =
      let seen_x = path_up (step_to kinds choices ways none j) seen c.0 x are.closed (are.begin c.0 c.1) c.2 in
      let low = up_inside seen x seen_x in
      let size = are.size in
      let a = and_parts (leads_on kinds x) (opens (length kinds) choices (base + x * ways) ways none y) e in
      let b = and_parts (nat_lt y (length kinds)) (not (is_marked_at none y) && names choices (base + x * ways) ways y) a.1 in
      let d = and_parts (not (is_marked_at none y)) (names choices (base + x * ways) ways y) b.1 in
      let w = any_from (λ k. slice_index choices (base + x * ways + k) == y) ways d.1 in
      let same : chosen_at choices base ways x w.0 ≡ y = eqb-true (chosen_at choices base ways x w.0) y w.2 in (
        omega arith,
        (
          w.0,
          w.1,
          and_from (is_marked_at seen x) (leads_on kinds x && nat_lt (chosen_at choices base ways x w.0) (length kinds)) seen_x
              (and_from (leads_on kinds x) (nat_lt (chosen_at choices base ways x w.0) (length kinds)) a.0
              (ap (λ z. nat_lt z (length kinds)) same ∙ b.0)),
          same,
        ),
      )

  -- numbers that rise along the graph's edges do so over the steps
  pub numbers_to : (numbers : List ℕ) → IsPermutationBelow (length kinds) numbers → RisesAlong graph (slice_index numbers)
      → HasNumbersTo kinds joins choices ways none j
  numbers_to numbers p up = record {
    number = slice_index numbers;
    low = p.low;
    up = λ x y c e. (let t = step_taken x y c e in
        subst (λ z. slice_index numbers x < slice_index numbers z) t.1.3 (up x t.1.0 t.0 t.1.1 t.1.2));
  }

  -- an edge of the graph is a step
  edge_steps : (look : Look) (y : ℕ) → StepsOn graph look y → (is_marked_at seen look.node ≡ true) × (step_to kinds choices ways none j look.node y ≡ true)
  edge_steps look y s =
      let x : ℕ = look.node in
      let k : ℕ = look.column in
      let a = and_parts (is_marked_at seen x) (leads_on kinds x && nat_lt (chosen_at choices base ways x k) (length kinds)) s.marked in
      let b = and_parts (leads_on kinds x) (nat_lt (chosen_at choices base ways x k) (length kinds)) a.1 in
      let named : names choices (base + x * ways) ways y ≡ true =
      any_at (λ i. slice_index choices (base + x * ways + i) == y) ways k s.end (eq-eqb (chosen_at choices base ways x k) y s.next) in (
        a.0,
        and_from (leads_on kinds x) (opens (length kinds) choices (base + x * ways) ways none y) b.0
            (and_from (nat_lt y (length kinds)) (not (is_marked_at none y) && names choices (base + x * ways) ways y)
            (ap (λ z. nat_lt z (length kinds)) (sym s.next) ∙ b.1)
            (and_from (not (is_marked_at none y)) (names choices (base + x * ways) ways y) (true_not (is_marked_at none y) (down y)) named)),
      )

  -- nodes that lead around are channels that packets go round
  pub round_at : (looks : List Look) → IsCircuit graph looks → GoesRoundAt kinds joins choices ways none j (path_look looks 0).node
  round_at looks c =
      let some = c.some in
      let last : ℕ = length looks - 1 in
      record {
        comes = are.only (path_look looks 0).node (up 0 (omega arith));
        last = (path_look looks last).node;
        way = along last (omega arith);
        back = (edge_steps (path_look looks last) (path_look looks 0).node c.last).1;
      }
    where
      up : (k : ℕ) → k < length looks → is_marked_at seen (path_look looks k).node ≡ true
      up k low = elim (cases_lt (k + 1) (length looks)) [
        | inl less ↦ (edge_steps (path_look looks k) (path_look looks (k + 1)).node (c.each k less)).0
        | inr high ↦
            let some = c.some in
            let same : length looks - 1 ≡ k = omega arith in
            subst (λ z. is_marked_at seen (path_look looks z).node ≡ true) same (edge_steps (path_look looks (length looks - 1)) (path_look looks 0).node c.last).0
      ]

      along : (k : ℕ) → k < length looks → Path (step_to kinds choices ways none j) (path_look looks 0).node (path_look looks k).node
      along zero low = Stop
      along (suc k) low =
          let same : k + 1 ≡ suc k = omega arith in
          let step = subst (λ z. step_to kinds choices ways none j (path_look looks k).node (path_look looks z).node ≡ true) same
          (edge_steps (path_look looks k) (path_look looks (k + 1)).node (c.each k (omega arith))).1 in
          Go (path_look looks k).node (path_look looks (suc k)).node (along k (omega arith)) step

  module _ (far : List ℕ) (f : AreFarthest graph far) where
    some_far : (x : ℕ) → x < length kinds → 1 ≤ slice_index far x
    some_far x low = ⊎_elim
        (λ (one : slice_index far x ≡ 1). omega arith)
        (λ (v : (k : ℕ) × (k < ways) × (is_taken kinds choices base ways seen x k ≡ true) × (slice_index far x ≡ slice_index far (chosen_at choices base ways x k) + 1)).
        let is = v.3 in omega arith)
        (f.each x low).some

    passes_come : (x k : ℕ) → PassesOver joins (step_to kinds choices ways none j) j x k → ComesTo joins (step_to kinds choices ways none j) j x
    passes_come x k (StartsThere i joined) = (i, joined, Stop)
    passes_come x k (OneStepMore u v m p s) = let r = passes_come u m p in (r.0, r.1, Go u v r.2 s)

    come_low : (x : ℕ) → ComesTo joins (step_to kinds choices ways none j) j x → x < length kinds
    come_low x c =
        let low = up_inside seen x (path_up (step_to kinds choices ways none j) seen c.0 x are.closed (are.begin c.0 c.1) c.2) in
        let size = are.size in
        omega arith

    -- who has come far has less before him
    passes_low : (x k : ℕ) → PassesOver joins (step_to kinds choices ways none j) j x k
        → (i : ℕ) × (joins_of (table_of [] joins []) i j ≡ true) × (k + slice_index far x ≤ slice_index far i + 1)
    passes_low x k (StartsThere i joined) = (i, joined, omega arith)
    passes_low x k (OneStepMore u v m p s) =
        let r = passes_low u m p in
        let t = step_taken u v (passes_come u m p) s in
        let less = subst (λ z. slice_index far z < slice_index far u) t.1.3 ((f.each u t.0).above t.1.0 t.1.1 t.1.2) in
        let before = r.2 in
        (r.0, r.1, omega arith)

    passes_all : (least most : ℕ) → IsMostOf joins j (slice_index far) least most → (x k : ℕ)
        → PassesOver joins (step_to kinds choices ways none j) j x k → k ≤ most
    passes_all least most m x k p =
        let r = passes_low x k p in
        let one = some_far x (come_low x (passes_come x k p)) in
        let up = m.all r.0 r.1 in
        let before = r.2 in
        omega arith

    -- and some packet goes as far
    passes_on : (m x k : ℕ) → x < length kinds → slice_index far x ≡ m → PassesOver joins (step_to kinds choices ways none j) j x (suc k)
        → (z : ℕ) × PassesOver joins (step_to kinds choices ways none j) j z (k + m)
    passes_on zero x k low e p = (let one = some_far x low in absurd (omega arith))
    passes_on (suc m) x k low e p = ⊎_elim
        (λ (one : slice_index far x ≡ 1).
        let same : suc k ≡ k + suc m = omega arith in
        (x, subst (λ z. PassesOver joins (step_to kinds choices ways none j) j x z) same p))
        (λ (v : (c : ℕ) × (c < ways) × (is_taken kinds choices base ways seen x c ≡ true) × (slice_index far x ≡ slice_index far (chosen_at choices base ways x c) + 1)).
        let y : ℕ = chosen_at choices base ways x v.0 in
        let s = edge_steps (record { node = x; column = v.0 }) y (record { end = v.1; marked = v.2; next = refl }) in
        let is = v.3 in
        let r = passes_on m y (suc k) (choices_within kinds choices base ways seen x v.0 v.1 v.2) (omega arith) (OneStepMore x y (suc k) p s.1) in
        let same : suc k + m ≡ k + suc m = omega arith in
        (r.0, subst (λ z. PassesOver joins (step_to kinds choices ways none j) j r.0 z) same r.1))
        (f.each x low).some

    -- the most of them to one channel more
    pub most_more : (m least most : ℕ) → m ≡ suc j → IsMostOf joins j (slice_index far) least most
        → IsMostPassed joins (step_to kinds choices ways none) j least → IsMostPassed joins (step_to kinds choices ways none) m most
    most_more m least most e is before = record {
      all = λ i x k l p. elim (cases_lt i j) [
        | inl less ↦ (let old = before.all i x k less p in let up = is.from in omega arith)
        | inr high ↦ (let same : i ≡ j = omega arith in
            passes_all least most is x k (subst (λ z. PassesOver joins (step_to kinds choices ways none z) z x k) same p))
      ];
      some = λ more. ⊎_elim
          (λ (same : most ≡ least). let r = before.some (let less : 0 < least = omega arith in less) in
          (r.0, r.1, subst (λ z. PassesOver joins (step_to kinds choices ways none r.0) r.0 r.1 z) (sym same) r.2))
          (λ (v : (i : ℕ) × (joins_of (table_of [] joins []) i j ≡ true) × (most ≡ slice_index far i)).
          let r = passes_on (slice_index far v.0) v.0 0 (come_low v.0 (v.0, v.1, Stop)) refl (StartsThere v.0 v.1) in
          let is_most = v.2 in
          let same : 0 + slice_index far v.0 ≡ most = omega arith in
          (j, r.0, subst (λ z. PassesOver joins (step_to kinds choices ways none j) j r.0 z) same r.1))
          is.some;
    }

pub most_begin : (joins : List Join) (step : ℕ → ℕ → ℕ → Bool) → IsMostPassed joins step 0 0
most_begin joins step = record { all = λ j x k l. absurd (omega arith); some = λ l. absurd (omega arith) }

module _ (t : ChoiceTable) (none : List Bool) (down : AreDown none) (shaped : IsShaped t) (depth : ℕ) (flits : Flits)
    (escapes : HasEscapes (network t depth flits)) where
  abbrev n : AdaptiveNet
  n = network t depth flits

  abbrev step : ℕ → ℕ → ℕ → Bool
  step = step_to t.kinds t.choices t.ways none

  leads_path : (j x y : ℕ) → Path (step j) x y → ChoicesLead n j x y
  leads_path j x y Stop = Here
  leads_path j x y (Go u v p s) = Onto u v (leads_path j x u p) (step_goes t none down depth flits j u v s)

  -- distances from the numbers
  abbrev distance_by : ((j : ℕ) → j < length t.kinds → HasNumbersTo t.kinds t.joins t.choices t.ways none j) → (x j : ℕ)
      → (j < length t.kinds) ⊎ (length t.kinds ≤ j) → ℕ
  distance_by h x j (inl low) = length t.kinds - (h j low).number x
  distance_by h x j (inr high) = 0

  falls : (h : (j : ℕ) → j < length t.kinds → HasNumbersTo t.kinds t.joins t.choices t.ways none j) → (j x y : ℕ)
      → (d : (j < length t.kinds) ⊎ (length t.kinds ≤ j)) → j < length t.kinds → x < length t.kinds → y < length t.kinds
      → ComesTo t.joins (step j) j x → step j x y ≡ true → distance_by h y j d < distance_by h x j d
  falls h j x y (inl low) is hx hy c e =
      let up = (h j low).up x y c e in
      let a = (h j low).low x hx in
      let b = (h j low).low y hy in
      let less : length t.kinds - (h j low).number y < length t.kinds - (h j low).number x = omega arith in
      less
  falls h j x y (inr high) is hx hy c e = absurd (omega arith)

  short : (h : (j : ℕ) → j < length t.kinds → HasNumbersTo t.kinds t.joins t.choices t.ways none j) → (x j : ℕ)
      → (d : (j < length t.kinds) ⊎ (length t.kinds ≤ j)) → distance_by h x j d ≤ length t.kinds
  short h x j (inl low) = let less : length t.kinds - (h j low).number x ≤ length t.kinds = omega arith in less
  short h x j (inr high) = omega arith

  over_comes : (j x k : ℕ) → ComesOver n j x k → Comes n j x
  over_comes j x k (BeginsThere i joined) = BeginsIn i joined
  over_comes j x k (OneChoiceMore u v m p c) = ByChoice u v (over_comes j u m p) c

  over_passes : (j x k : ℕ) → ComesOver n j x k → PassesOver t.joins (step j) j x k
  over_passes j x k (BeginsThere i joined) = StartsThere i joined
  over_passes j x k (OneChoiceMore u v m p c) = OneStepMore u v m (over_passes j u m p) (goes_step t none down depth flits j u v c)

  passes_over : (j x k : ℕ) → PassesOver t.joins (step j) j x k → ComesOver n j x k
  passes_over j x k (StartsThere i joined) = BeginsThere i joined
  passes_over j x k (OneStepMore u v m p s) = OneChoiceMore u v m (passes_over j u m p) (step_goes t none down depth flits j u v s)

  -- who goes over the most channels ends in its ejection channel
  longest : (most : ℕ) → IsMostPassed t.joins step (length t.kinds) most → IsLongestWay n most
  longest most m = record { all = all; some = some }
    where
      all : (j x k : ℕ) → ComesOver n j x k → k ≤ most
      all j x k c = (let r = comes_to t none down depth flits j x (over_comes j x k c) in
          m.all j x k ((is_adaptive t none down depth flits shaped).ends r.0 j r.1) (over_passes j x k c))

      end : (j x : ℕ) → ComesOver n j x most → ComesOver n j j most
      end j x c = elim (cases_Bool (n.frame.ejects x)) [
        | inl ejects ↦ (let same = (is_adaptive t none down depth flits shaped).arrives j x (over_comes j x most c) ejects in
            subst (λ z. ComesOver n j z most) same c)
        | inr input ↦ (let come = over_comes j x most c in
            let e = escapes j x come input in
            let chosen = (is_adaptive t none down depth flits shaped).chosen j x e.0 come e.1 in
            let more = all j e.0 (suc most) (OneChoiceMore x e.0 most c (record { input = input; chosen = chosen })) in
            absurd (omega arith))
      ]

      some : 0 < most → (j : ℕ) × ComesOver n j j most
      some l = let r = m.some l in (r.0, end r.0 r.1 (passes_over r.0 r.1 most r.2))

  -- what is told by steps holds of the network
  pub travels : (travel : Travel) → IsTravelOf t.kinds t.joins t.choices t.ways none travel → IsTravel n travel
  travels (Round r) g = record {
    comes = to_comes t none down depth flits r.to r.at g.comes;
    last = g.last;
    way = leads_path r.to r.at g.last g.way;
    back = step_goes t none down depth flits r.to g.last r.at g.back;
  }
  travels (Bounded most) h = (
    (
      λ x j. distance_by h.0 x j (cases_lt j (length t.kinds)),
      λ j x y come choice.
          (let net = is_adaptive t none down depth flits shaped in
          let c = comes_to t none down depth flits j x come in
          falls h.0 j x y (cases_lt j (length t.kinds)) (net.ends c.0 j c.1) (net.within j x come) (net.within j y (ByChoice x y come choice)) c
          (goes_step t none down depth flits j x y choice)),
      λ x j. short h.0 x j (cases_lt j (length t.kinds)),
    ),
    longest most h.1,
  )

-- where packets go round no distances fall
pub no_distances : (n : AdaptiveNet) (j x : ℕ) → CanGoRound n j x → (far : ℕ → ℕ → ℕ) → AreNearer n far → ⊥
no_distances n j x r far near =
    let f = on r.last r.way in let down = near j r.last x f.0 r.back in
    let no_more = f.1 in
    omega arith
  where
    on : (y : ℕ) → ChoicesLead n j x y → Comes n j y × (far y j ≤ far x j)
    on y Here = (r.comes, omega arith)
    on y (Onto u v way choice) =
        let f = on u way in
        let less = near j u v f.0 choice in
        let no_more = f.1 in
        (ByChoice u v f.0 choice, omega arith)
