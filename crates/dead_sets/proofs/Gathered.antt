-- The cases in which packets wait, gathered one after the other.
use Rattle.std.proofs.Common.{◌≡◌, ◌⊎◌, inl, inr, ⊎_elim, ℕ, suc, ◌+◌, ◌*◌, ◌<◌, ◌≤◌, Bool, true, false, List, [], ◌∷◌, ◌++◌, length, refl, sym, ◌∙◌, ap, subst, arith, eq-eqb}
use Rattle.std.specs.Prelude.{Some, slice_get, slice_index, nat_lt, ◌==◌}
use Rattle.std.proofs.lemmas.Bool.{cases_eq, eqb-true, ltb-true, lt-ltb, and_parts, and_from, or_left, or_right}
use Rattle.rising.specs.declared.edge.Edge.{Edge}
use Rattle.network_judge.specs.declared.table.Kind.{Kind}
use Rattle.network_judge.specs.declared.table.Join.{Join}
use Rattle.network_judge.specs.declared.table.Reply.{Reply}
use Rattle.network_judge.specs.declared.table.Kind.TheVariants.{Ejection}
use Rattle.network_judge.specs.Table.{table_of, joins_of, is_receiver}
use Rattle.network_judge.specs.Replies.{reply_at}
use Rattle.network_judge.specs.Marks.{is_marked_at}
use Rattle.network_adaptive.specs.Spread.{block_base, names, opens, leads_on, choice_step}
use Rattle.network_adaptive.specs.Flags.{HasPut, AreComes, ComesTo}
use Rattle.network_adaptive.proofs.Flags.{or_cases}
use Rattle.network_adaptive.proofs.Puts.{IsThis, put_none, put_then, put_map, put_one_as}
use Rattle.network_adaptive.proofs.Spreading.{path_up}
use Rattle.network_adaptive.proofs.Circles.{reply_answers, answers_reply}
use Rattle.dead_sets.specs.Cases.{AreCases, AddsCases, IsChoiceCase, IsReplyCase, IsCaseTo}
use Rattle.dead_sets.proofs.Adding.{IsThisCase, IsWayOut, add_none, add_then, add_map, add_one}

-- a choice by its cell
pub choice_at : (choices : List ℕ) (base x ways k cell : ℕ) → cell ≡ x * ways + k
    → slice_index choices (base + x * ways + k) ≡ slice_index choices (base + cell)
choice_at choices base x ways k cell e = let place : base + x * ways + k ≡ base + cell = omega arith in ap (slice_index choices) place

-- the choices behind a channel
module _ (count : ℕ) (choices : List ℕ) (start case : ℕ) where
  abbrev pub WaysSo : ℕ → ℕ → ℕ → Type 0
  WaysSo k y c = (c ≡ case) × (opens count choices start k [] y ≡ true)

  so_more : (k y : ℕ) → opens count choices start k [] y ≡ true → opens count choices start (suc k) [] y ≡ true
  so_more k y e =
      let a = and_parts (nat_lt y count) (names choices start k y) e in
      and_from (nat_lt y count) (names choices start (suc k) y) a.0 (or_right (slice_index choices (start + k) == y) (names choices start k y) a.1)

  so_here : (k y : ℕ) → slice_index choices (start + k) ≡ y → y < count → opens count choices start (suc k) [] y ≡ true
  so_here k y e low =
      and_from (nat_lt y count) (names choices start (suc k) y) (lt-ltb y count low)
      (or_left (slice_index choices (start + k) == y) (names choices start k y) (eq-eqb (slice_index choices (start + k)) y e))

  so_next : (k y : ℕ) → opens count choices start (suc k) [] y ≡ true → ((slice_index choices (start + k) ≡ y) × (y < count)) ⊎ (opens count choices start k [] y ≡ true)
  so_next k y e =
      let a = and_parts (nat_lt y count) (names choices start (suc k) y) e in
      ⊎_elim
      (λ (here : (slice_index choices (start + k) == y) ≡ true). inl (eqb-true (slice_index choices (start + k)) y here, ltb-true y count a.0))
      (λ (rest : names choices start k y ≡ true). inr (and_from (nat_lt y count) (names choices start k y) a.0 rest))
      (or_cases (slice_index choices (start + k) == y) (names choices start k y) a.1)

  pub ways_begin : (old : List Edge) → HasPut (WaysSo 0) old old
  ways_begin old = put_none (WaysSo 0) old (λ y c p. (let a = and_parts (nat_lt y count) (names choices start 0 y) p.1 in let bad : false ≡ true = a.1 in cc))

  pub ways_put : (k i : ℕ) (old seen new : List Edge) (y : ℕ) → i ≡ suc k → slice_index choices (start + k) ≡ y → y < count
      → new ≡ seen ++ record { from = y; to = case } ∷ [] → HasPut (WaysSo k) old seen → HasPut (WaysSo i) old new
  ways_put k i old seen new y e same low f p =
      subst (λ z. HasPut (WaysSo z) old new) (sym e)
      (put_then (WaysSo k) (IsThis y case) (WaysSo (suc k)) old seen new
      (λ u c w. (w.0, so_more k u w.1))
      (λ u c w. (w.1, subst (λ z. opens count choices start (suc k) [] z ≡ true) (sym w.0) (so_here k y same low)))
      (λ u c w. ⊎_elim
      (λ (a : (slice_index choices (start + k) ≡ u) × (u < count)). inr (sym a.0 ∙ same, w.0))
      (λ (b : opens count choices start k [] u ≡ true). inl (w.0, b))
      (so_next k u w.1))
      p (put_one_as seen new y case f))

  pub ways_skip : (k i : ℕ) (old seen : List Edge) → i ≡ suc k → count ≤ slice_index choices (start + k) → HasPut (WaysSo k) old seen
      → HasPut (WaysSo i) old seen
  ways_skip k i old seen e high p =
      subst (λ z. HasPut (WaysSo z) old seen) (sym e)
      (put_map (WaysSo k) (WaysSo (suc k)) old seen
      (λ u c w. (w.0, so_more k u w.1))
      (λ u c w. (
        w.0,
        ⊎_elim
            (λ (a : (slice_index choices (start + k) ≡ u) × (u < count)). let same = a.0 in let low = a.1 in absurd (omega arith))
            (λ (b : opens count choices start k [] u ≡ true). b)
            (so_next k u w.1),
      ))
      p)

pub opens_low : (count : ℕ) (choices : List ℕ) (start ways y : ℕ) → opens count choices start ways [] y ≡ true → y < count
opens_low count choices start ways y e = ltb-true y count (and_parts (nat_lt y count) (names choices start ways y) e).0

-- the channels of one destination
module _ (kinds : List Kind) (choices : List ℕ) (base ways : ℕ) (seen : List Bool) where
  abbrev pub ChoicesSo : ℕ → ℕ → (ℕ → Bool) → Type 0
  ChoicesSo m x out = (x < m) × IsChoiceCase kinds choices base ways seen x out

  pub choices_begin : (at : List ℕ) (edges : List Edge) → AddsCases (ChoicesSo 0) at edges at edges
  choices_begin at edges = add_none (ChoicesSo 0) at edges (λ x out p. let low = p.0 in absurd (omega arith))

  pub choices_skip : (x m : ℕ) (at new : List ℕ) (edges more : List Edge) → m ≡ suc x
      → (is_marked_at seen x ≡ true → leads_on kinds x ≡ true → ⊥) → AddsCases (ChoicesSo x) at edges new more → AddsCases (ChoicesSo m) at edges new more
  choices_skip x m at new edges more e never a =
      subst (λ z. AddsCases (ChoicesSo z) at edges new more) (sym e)
      (add_map (ChoicesSo x) (ChoicesSo (suc x)) at new edges more
      (λ u out p. (let low = p.0 in omega arith, p.1))
      (λ u out p. (
        let low = p.0 in elim (cases_eq u x) [
          | inl same ↦ absurd (never (subst (λ z. is_marked_at seen z ≡ true) same (let q = p.1 in q.up)) (subst (λ z. leads_on kinds z ≡ true) same (let q = p.1 in q.leads)))
          | inr apart ↦ omega arith
        ],
        p.1,
      ))
      a)

  pub choices_put : (x m case : ℕ) (at mid new : List ℕ) (edges some more : List Edge) → m ≡ suc x → x < length kinds
      → is_marked_at seen x ≡ true → leads_on kinds x ≡ true → AreCases (length kinds) mid some → AddsCases (ChoicesSo x) at edges mid some
      → new ≡ mid ++ x ∷ [] → case ≡ length mid → HasPut (IsWayOut case (opens (length kinds) choices (base + x * ways) ways [])) some more
      → AreCases (length kinds) new more × AddsCases (ChoicesSo m) at edges new more
  choices_put x m case at mid new edges some more e low up leads cases a f is put =
      let row : ℕ → Bool = opens (length kinds) choices (base + x * ways) ways [] in
      let r = add_one (length kinds) mid some more cases x low row (opens_low (length kinds) choices (base + x * ways) ways)
      (subst (λ z. HasPut (IsWayOut z row) some more) is put) new f in (
        r.0,
        subst (λ z. AddsCases (ChoicesSo z) at edges new more) (sym e)
            (add_then (ChoicesSo x) (IsThisCase x row) (ChoicesSo (suc x)) at mid new edges some more
            (λ u out p. (let l = p.0 in omega arith, p.1))
            (λ u out p. (
              let same = p.0 in omega arith,
              record {
                low = (let same = p.0 in omega arith);
                up = subst (λ z. is_marked_at seen z ≡ true) (sym p.0) up;
                leads = subst (λ z. leads_on kinds z ≡ true) (sym p.0) leads;
                choice = subst (λ z. out ≡ opens (length kinds) choices (base + z * ways) ways []) (sym p.0) p.1;
              },
            ))
            (λ u out p. elim (cases_eq u x) [
              | inl same ↦ inr (same, subst (λ z. out ≡ opens (length kinds) choices (base + z * ways) ways []) same (let q = p.1 in q.choice))
              | inr apart ↦ inl (let l = p.0 in omega arith, p.1)
            ])
            a r.1),
      )

  pub choices_end : (m : ℕ) (at new : List ℕ) (edges more : List Edge) → m ≡ length kinds → AddsCases (ChoicesSo m) at edges new more
      → AddsCases (IsChoiceCase kinds choices base ways seen) at edges new more
  choices_end m at new edges more e a = add_map (ChoicesSo m) (IsChoiceCase kinds choices base ways seen) at new edges more
      (λ u out p. p.1) (λ u out p. (let l = p.low in omega arith, p)) a

-- the replies to packets from one channel
module _ (count : ℕ) (replies : List Reply) (from : ℕ) where
  pub record RepliesSo (m x : ℕ) (out : ℕ → Bool) : Type 0 where
    pub is : x ≡ from
    pub place : ℕ
    pub low : place < m
    pub answered : (reply_at replies place).from ≡ from
    pub inside : (reply_at replies place).to < count
    pub choice : out ≡ (λ y. y == (reply_at replies place).to)

  pub replies_begin : (at : List ℕ) (edges : List Edge) → AddsCases (RepliesSo 0) at edges at edges
  replies_begin at edges = add_none (RepliesSo 0) at edges (λ x out p. let low = p.low in absurd (omega arith))

  so_far : (k m x : ℕ) (out : ℕ → Bool) → k ≤ m → RepliesSo k x out → RepliesSo m x out
  so_far k m x out wide p = record { is = p.is; place = p.place; low = (let l = p.low in omega arith); answered = p.answered; inside = p.inside; choice = p.choice }

  pub replies_skip : (k m : ℕ) (at new : List ℕ) (edges more : List Edge) → m ≡ suc k
      → ((reply_at replies k).from ≡ from → (reply_at replies k).to < count → ⊥) → AddsCases (RepliesSo k) at edges new more
      → AddsCases (RepliesSo m) at edges new more
  replies_skip k m at new edges more e never a =
      add_map (RepliesSo k) (RepliesSo m) at new edges more
      (λ x out p. so_far k m x out (omega arith) p)
      (λ x out p. elim (cases_eq p.place k) [
        | inl same ↦ absurd (never (subst (λ z. (reply_at replies z).from ≡ from) same p.answered) (subst (λ z. (reply_at replies z).to < count) same p.inside))
        | inr apart ↦ record { is = p.is; place = p.place; low = (let l = p.low in omega arith); answered = p.answered; inside = p.inside; choice = p.choice }
      ])
      a

  pub replies_put : (k m case : ℕ) (at mid new : List ℕ) (edges some more : List Edge) → m ≡ suc k → from < count
      → (reply_at replies k).from ≡ from → (reply_at replies k).to < count → AreCases count mid some → AddsCases (RepliesSo k) at edges mid some
      → new ≡ mid ++ from ∷ [] → case ≡ length mid → more ≡ some ++ record { from = (reply_at replies k).to; to = case } ∷ []
      → AreCases count new more × AddsCases (RepliesSo m) at edges new more
  replies_put k m case at mid new edges some more e low is inside cases a f same_case g =
      let to : ℕ = (reply_at replies k).to in
      let out : ℕ → Bool = λ y. y == to in
      let put = put_map (IsThis to (length mid)) (IsWayOut (length mid) out) some more
      (λ y c p. (p.1, eq-eqb y to p.0)) (λ y c p. (eqb-true y to p.1, p.0)) (put_one_as some more to (length mid) (subst (λ z. more ≡ some ++ record { from = to; to = z } ∷ []) same_case g)) in
      let r = add_one count mid some more cases from low out (λ y e. subst (λ z. z < count) (sym (eqb-true y to e)) inside) put new f in (
        r.0,
        add_then (RepliesSo k) (IsThisCase from out) (RepliesSo m) at mid new edges some more
            (λ x o p. so_far k m x o (omega arith) p)
            (λ x o p. record { is = p.0; place = k; low = omega arith; answered = is; inside = inside; choice = p.1 })
            (λ x o p. elim (cases_eq p.place k) [
              | inl same ↦ inr (p.is, subst (λ z. o ≡ (λ y. y == (reply_at replies z).to)) same p.choice)
              | inr apart ↦ inl (record { is = p.is; place = p.place; low = (let l = p.low in omega arith); answered = p.answered; inside = p.inside; choice = p.choice })
            ])
            a r.1,
      )

  pub replies_end : (m : ℕ) (at new : List ℕ) (edges more : List Edge) → m ≡ length replies → AddsCases (RepliesSo m) at edges new more
      → AddsCases (IsReplyCase count replies from) at edges new more
  replies_end m at new edges more e a = add_map (RepliesSo m) (IsReplyCase count replies from) at new edges more
      (λ x out p. record {
        is = p.is;
        reply = (reply_at replies p.place).to;
        low = p.inside;
        answered = reply_answers replies from (reply_at replies p.place).to (record { place = p.place; here = (let l = p.low in omega arith); from = p.answered; to = refl });
        choice = p.choice;
      })
      (λ x out p. (let r = answers_reply replies from p.reply p.answered in record {
        is = p.is;
        place = r.place;
        low = (let l = r.here in omega arith);
        answered = r.from;
        inside = (let l = p.low in let same = r.to in omega arith);
        choice = (let same : ℕ → ℕ → Bool = λ z y. y == z in p.choice ∙ ap same (sym r.to));
      }))
      a

-- all cases of one destination
module _ (kinds : List Kind) (joins : List Join) (replies : List Reply) (choices : List ℕ) (ways : ℕ) (none : List Bool) (j : ℕ) (seen : List Bool)
    (are : AreComes kinds joins (choice_step kinds choices (block_base kinds ways j) ways none) j seen) where
  abbrev step : ℕ → ℕ → Bool
  step = choice_step kinds choices (block_base kinds ways j) ways none

  abbrev Chosen : ℕ → (ℕ → Bool) → Type 0
  Chosen = IsChoiceCase kinds choices (block_base kinds ways j) ways seen

  abbrev Goal : ℕ → (ℕ → Bool) → Type 0
  Goal = IsCaseTo kinds joins replies choices ways none j

  comes_up : (x : ℕ) → ComesTo joins step j x → is_marked_at seen x ≡ true
  comes_up x c = path_up step seen c.0 x are.closed (are.begin c.0 c.1) c.2

  chosen_goal : (x : ℕ) (out : ℕ → Bool) → Chosen x out → Goal x out
  chosen_goal x out p = (are.only x p.up, inl (p.low, p.leads, p.choice))

  goal_chosen : (x : ℕ) (out : ℕ → Bool) → ComesTo joins step j x → (x < length kinds) × (leads_on kinds x ≡ true) × (out ≡ opens (length kinds) choices (block_base kinds ways j + x * ways) ways [])
      → Chosen x out
  goal_chosen x out come a = record { low = a.0; up = comes_up x come; leads = a.1; choice = a.2 }

  pub with_replies : (at mid new : List ℕ) (edges some more : List Edge) → is_marked_at seen j ≡ true → leads_on kinds j ≡ false
      → AddsCases Chosen at edges mid some → AddsCases (IsReplyCase (length kinds) replies j) mid some new more → AddsCases Goal at edges new more
  with_replies at mid new edges some more up last a b = add_then Chosen (IsReplyCase (length kinds) replies j) Goal at mid new edges some more
      chosen_goal
      (λ x out p. (subst (ComesTo joins step j) (sym p.is) (are.only j up), inr (last, p)))
      (λ x out p. ⊎_elim
      (λ (q : (x < length kinds) × (leads_on kinds x ≡ true) × (out ≡ opens (length kinds) choices (block_base kinds ways j + x * ways) ways [])). inl (goal_chosen x out p.0 q))
      (λ (q : (leads_on kinds j ≡ false) × IsReplyCase (length kinds) replies j x out). inr q.1)
      p.1)
      a b

  pub without_replies : (at mid : List ℕ) (edges some : List Edge) → (is_marked_at seen j ≡ true → leads_on kinds j ≡ false → ⊥)
      → AddsCases Chosen at edges mid some → AddsCases Goal at edges mid some
  without_replies at mid edges some never a = add_map Chosen Goal at mid edges some
      chosen_goal
      (λ x out p. ⊎_elim
      (λ (q : (x < length kinds) × (leads_on kinds x ≡ true) × (out ≡ opens (length kinds) choices (block_base kinds ways j + x * ways) ways [])). goal_chosen x out p.0 q)
      (λ (q : (leads_on kinds j ≡ false) × IsReplyCase (length kinds) replies j x out). let r = q.1 in
      absurd (never (comes_up j (subst (ComesTo joins step j) r.is p.0)) q.0))
      p.1)
      a

-- those of all destinations
module _ (kinds : List Kind) (joins : List Join) (replies : List Reply) (choices : List ℕ) (ways : ℕ) (none : List Bool) where
  abbrev pub CasesSo : ℕ → ℕ → (ℕ → Bool) → Type 0
  CasesSo m x out = (j : ℕ) × (j < m) × IsCaseTo kinds joins replies choices ways none j x out

  cases_begin : AddsCases (CasesSo 0) [] [] [] []
  cases_begin = add_none (CasesSo 0) [] [] (λ x out p. let low = p.1 in absurd (omega arith))

  none_cases : AreCases (length kinds) [] []
  none_cases = record {
    owners = λ c low. absurd (omega arith);
    from = λ y c e. (let l = e.low in absurd (omega arith));
    to = λ y c e. (let l = e.low in absurd (omega arith));
  }

  pub cases_start : (at : List ℕ) (edges : List Edge) → at ≡ [] → edges ≡ [] → AreCases (length kinds) at edges × AddsCases (CasesSo 0) [] [] at edges
  cases_start at edges e f =
      subst (λ (v : List ℕ). AreCases (length kinds) v edges × AddsCases (CasesSo 0) [] [] v edges) (sym e)
      (subst (λ (v : List Edge). AreCases (length kinds) [] v × AddsCases (CasesSo 0) [] [] [] v) (sym f) (none_cases, cases_begin))

  pub cases_more : (j m : ℕ) (mid new : List ℕ) (some more : List Edge) → m ≡ suc j → AddsCases (CasesSo j) [] [] mid some
      → AddsCases (IsCaseTo kinds joins replies choices ways none j) mid some new more → AddsCases (CasesSo m) [] [] new more
  cases_more j m mid new some more e a b = add_then (CasesSo j) (IsCaseTo kinds joins replies choices ways none j) (CasesSo m) [] mid new [] some more
      (λ x out p. (p.0, (let l = p.1 in omega arith), p.2))
      (λ x out p. (j, omega arith, p))
      (λ x out p. elim (cases_eq p.0 j) [
        | inl same ↦ inr (subst (λ z. IsCaseTo kinds joins replies choices ways none z x out) same p.2)
        | inr apart ↦ inl (p.0, (let l = p.1 in omega arith), p.2)
      ])
      a b

  -- to a channel that is no ejection channel there are none
  pub cases_skip : ((i j : ℕ) → joins_of (table_of [] joins []) i j ≡ true → slice_get kinds j ≡ Some Ejection)
      → (j m : ℕ) (at : List ℕ) (edges : List Edge) → m ≡ suc j → is_receiver (slice_get kinds j) ≡ false
      → AddsCases (CasesSo j) [] [] at edges → AddsCases (CasesSo m) [] [] at edges
  cases_skip receivers j m at edges e other before = cases_more j m at at edges edges e before
      (add_none (IsCaseTo kinds joins replies choices ways none j) at edges
      (λ x out p. (let bad : true ≡ false = sym (ap is_receiver (receivers p.0.0 j p.0.1)) ∙ other in cc)))
