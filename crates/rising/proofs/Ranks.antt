-- What the search gives: numbers that rise, or a cycle.
use Rattle.std.proofs.Common.{◌≡◌, inl, inr, ℕ, zero, suc, ◌+◌, ◌-◌, ◌<◌, ◌≤◌, cond, List, [], ◌∷◌, ◌++◌, length, take, drop, replicate, refl, sym, ◌∙◌}
use Rattle.std.proofs.Common.{ap, subst, arith}
use Rattle.std.specs.Prelude.{slice_index}
use Rattle.std.specs.List.{count_by}
use Rattle.std.proofs.lemmas.Bool.{cases_lt, eq-eqb, eqb-true}
use Rattle.std.proofs.lemmas.List.{take_at, length-replicate, get_or-replicate, get_or_past, get_or_push, get_or_append_left}
use Rattle.std.proofs.lemmas.List.Sums.{sum_by-cons}
use Rattle.rising.specs.declared.edge.Edge.{Edge}
use Rattle.rising.specs.declared.search.Look.{Look}
use Rattle.rising.specs.declared.search.Mark.{Mark}
use Rattle.rising.specs.declared.search.Mark.TheVariants.{New, Open, Done}
use Rattle.rising.specs.Graph.{Digraph, edge_at, digraph_of, EdgesAreWithin, RisesOnEdges, RisesAlong}
use Rattle.rising.specs.Found.{IsJoined, IsPermutationBelow, IsEdgeCycle}
use Rattle.rising.specs.Search.{node_mark, path_look, is_unvisited, finish_height, IsFinishedBelow, StepsOn, IsDepthSearch, StayFinished, IsCircuit, AreUnvisited, AreFinishedNodes, AreHeightNumbers, AreLookedColumns}
use Rattle.rising.proofs.Written.{done_inside}
use Rattle.rising.proofs.Circuits.{begun_below}

-- all are new
all_new : (marks : List Mark) → AreUnvisited marks → count_by is_unvisited marks ≡ length marks
all_new [] new = refl
all_new (m ∷ marks) new =
    let one : cond {A = ℕ} (is_unvisited m) 1 0 ≡ 1 = ap (λ (z : Mark). cond {A = ℕ} (is_unvisited z) 1 0) (new 0) in
    let rest = all_new marks (λ x. new (suc x)) in
    let s : count_by is_unvisited (m ∷ marks) ≡ cond {A = ℕ} (is_unvisited m) 1 0 + count_by is_unvisited marks = sum_by-cons (λ (z : Mark). cond (is_unvisited z) 1 0) m marks in
    omega arith

-- the search before it begins
pub begin : (g : Digraph) (marks : List Mark) → length marks ≡ g.nodes → AreUnvisited marks → IsDepthSearch g marks [] 0
begin g marks size new = record {
  size = size;
  path_open = λ k l. absurd (omega arith);
  open_path = λ x k e. let bad : New ≡ Open k = sym (new x) ∙ e in cc;
  leads = λ k l. absurd (omega arith);
  ends = λ k l. absurd (omega arith);
  behind = λ k l. absurd (omega arith);
  at = λ k l. absurd (omega arith);
  apart = λ x y h e f. let bad : New ≡ Done h = sym (new x) ∙ e in cc;
  done = λ x h e. let bad : New ≡ Done h = sym (new x) ∙ e in cc;
  count = let c = all_new marks new in omega arith;
}

-- a node that was begun and one more
pub begun_more : (g : Digraph) (old new : List Mark) (finished n high : ℕ) → IsDepthSearch g old [] finished
    → ((x : ℕ) → x < n → node_mark old x ≡ New → ⊥) → StayFinished old new → IsFinishedBelow new n high
    → (x : ℕ) → x < n + 1 → node_mark new x ≡ New → ⊥
begun_more g old new finished n high s begun stay b x low e =
    elim (cases_lt x n) [
      | inl less ↦ (let d = begun_below g old finished x s (begun x less) in
          let now = stay x d.0 d.1 in
          let bad : New ≡ Done d.0 = sym e ∙ now in
          cc)
      | inr more ↦ (let same : x ≡ n = omega arith in
          let now = b.1 in
          let bad : New ≡ Done b.0 = sym e ∙ (ap (node_mark new) same ∙ now) in
          cc)
    ]

pub begun_also : (marks : List Mark) (n : ℕ) → ((x : ℕ) → x < n → node_mark marks x ≡ New → ⊥) → (node_mark marks n ≡ New → ⊥)
    → (x : ℕ) → x < n + 1 → node_mark marks x ≡ New → ⊥
begun_also marks n begun other x low e =
    elim (cases_lt x n) [
      | inl less ↦ begun x less e
      | inr more ↦ let same : n ≡ x = omega arith in other (ap (node_mark marks) same ∙ e)
    ]

-- all are ranked at the end
pub all_ranked : (g : Digraph) (marks : List Mark) (finished : ℕ) → IsDepthSearch g marks [] finished
    → ((x : ℕ) → x < g.nodes → node_mark marks x ≡ New → ⊥) → AreFinishedNodes g marks
all_ranked g marks finished s begun =
    let count = s.count in
    record {
      size = s.size;
      each = λ x l. (let b = begun_below g marks finished x s (begun x l) in
          let d = s.done x b.0 b.1 in
          let low = d.0 in
          record { rank = b.0; mark = b.1; low = omega arith; behind = d.1 });
      apart = s.apart;
    }

pub ranks_low : (g : Digraph) (marks : List Mark) → AreFinishedNodes g marks → (x : ℕ) → x < length marks
    → finish_height (node_mark marks x) < length marks
ranks_low g marks r x l =
    let size = r.size in
    let k = r.each x (omega arith) in
    let low = k.low in
    let e : finish_height (node_mark marks x) ≡ k.rank = ap finish_height k.mark in
    omega arith

-- one number more
pub numbers_more : (marks : List Mark) (numbers : List ℕ) (x v : ℕ) → length numbers ≡ x
    → ((k : ℕ) → k < x → slice_index numbers k + finish_height (node_mark marks k) + 1 ≡ length marks)
    → v + finish_height (node_mark marks x) + 1 ≡ length marks
    → (k : ℕ) → k < x + 1 → slice_index (numbers ++ v ∷ []) k + finish_height (node_mark marks k) + 1 ≡ length marks
numbers_more marks numbers x v size each new k low =
    elim (cases_lt k x) [
      | inl less ↦ (let e : slice_index (numbers ++ v ∷ []) k ≡ slice_index numbers k = get_or_append_left numbers (v ∷ []) 0 k (omega arith) in
          let old = each k less in
          omega arith)
      | inr more ↦ (let same : x ≡ k = omega arith in
          subst (λ z. slice_index (numbers ++ v ∷ []) z + finish_height (node_mark marks z) + 1 ≡ length marks) same
          (let e : slice_index (numbers ++ v ∷ []) x ≡ v = get_or_push numbers v 0 x size in omega arith))
    ]

-- a fresh list of marks
pub fresh_new : (marks : List Mark) (n : ℕ) → marks ≡ replicate n New → AreUnvisited marks
fresh_new marks n e x =
    ap (λ (z : List Mark). node_mark z x) e
    ∙ elim (cases_lt x n) [
      | inl l ↦ get_or-replicate n x New New l
      | inr g ↦ get_or_past (replicate n New) x New (omega (arith, length-replicate n New))
    ]

-- a list that was written whole, as a vector has it
pub written : {X : Type 0} (n : ℕ) (new old : List X) → n ≡ length new → take n (new ++ drop (length new) old) ≡ new
written n new old e = take_at new (drop (length new) old) n (sym e)

-- the numbers rise along each edge, and no two are the same
pub rises : (g : Digraph) (marks : List Mark) (numbers : List ℕ) → AreFinishedNodes g marks → AreHeightNumbers marks numbers
    → RisesAlong g (slice_index numbers)
rises g marks numbers r n x j inside low leads =
    let y : ℕ = g.after x j in
    let size = r.size in
    let from = r.each x inside in
    let b : IsFinishedBelow marks y from.rank = from.behind j low leads in
    let less = b.2 in
    let inside_too = done_inside marks y b.0 b.1 in
    let hx : finish_height (node_mark marks x) ≡ from.rank = ap finish_height from.mark in
    let hy : finish_height (node_mark marks y) ≡ b.0 = ap finish_height b.1 in
    let nx = n.each x (omega arith) in
    let ny = n.each y (omega arith) in
    omega arith

pub is_placing : (g : Digraph) (marks : List Mark) (numbers : List ℕ) → AreFinishedNodes g marks
    → AreHeightNumbers marks numbers → IsPermutationBelow g.nodes numbers
is_placing g marks numbers r n =
    let size = r.size in
    record {
      size = n.size ∙ r.size;
      low = λ x l. let e = n.each x (omega arith) in omega arith;
      apart = λ x y l m same. (let a = r.each x l in
          let b = r.each y m in
          let hx : finish_height (node_mark marks x) ≡ a.rank = ap finish_height a.mark in
          let hy : finish_height (node_mark marks y) ≡ b.rank = ap finish_height b.mark in
          let nx = n.each x (omega arith) in
          let ny = n.each y (omega arith) in
          let one : b.rank ≡ a.rank = omega arith in
          r.apart x y a.rank a.mark (b.mark ∙ ap Done one));
    }

-- numbers that rise so along the edges of a list
pub rise_on_list : (nodes : ℕ) (edges : List Edge) (number : ℕ → ℕ) → EdgesAreWithin nodes edges
    → RisesAlong (digraph_of nodes edges) number → RisesOnEdges edges number
rise_on_list nodes edges number within up k low =
    let x : ℕ = (edge_at edges k).from in
    up x k (within.from k low) low (eq-eqb x x refl)

-- a node of a circle looks on
looks_on : (g : Digraph) (looks : List Look) → IsCircuit g looks → (k : ℕ) → k < length looks → (y : ℕ) × StepsOn g (path_look looks k) y
looks_on g looks c k low = elim (cases_lt (k + 1) (length looks)) [
  | inl less ↦ ((path_look looks (k + 1)).node, c.each k less)
  | inr last ↦ (let same : length looks - 1 ≡ k = omega arith in
      ((path_look looks 0).node, subst (λ z. StepsOn g (path_look looks z) (path_look looks 0).node) same c.last))
]

-- two columns are joined
joined : (nodes : ℕ) (edges : List Edge) (looks : List Look) (columns : List ℕ) → IsCircuit (digraph_of nodes edges) looks
    → AreLookedColumns looks columns → (j k : ℕ) → j < length looks → k < length looks
    → StepsOn (digraph_of nodes edges) (path_look looks j) (path_look looks k).node
    → IsJoined edges (slice_index columns j) (slice_index columns k)
joined nodes edges looks columns circle are j k low low_too on =
    let next = looks_on (digraph_of nodes edges) looks circle k low_too in
    let first : slice_index columns j ≡ (path_look looks j).column = are.each j low in
    let second : slice_index columns k ≡ (path_look looks k).column = are.each k low_too in
    let one : IsJoined edges (path_look looks j).column (path_look looks k).column = record {
      first = on.end;
      second = next.1.end;
      joined = on.next ∙ sym (eqb-true (edge_at edges (path_look looks k).column).from (path_look looks k).node next.1.marked);
    } in
    subst (λ z. IsJoined edges z (slice_index columns k)) (sym first) (subst (λ z. IsJoined edges (path_look looks j).column z) (sym second) one)

-- a circle's columns are a cycle
pub is_cycle : (nodes : ℕ) (edges : List Edge) (looks : List Look) (columns : List ℕ) → IsCircuit (digraph_of nodes edges) looks
    → AreLookedColumns looks columns → IsEdgeCycle edges columns
is_cycle nodes edges looks columns circle are =
    let size = are.size in
    let some = circle.some in
    let same : length looks - 1 ≡ length columns - 1 = omega arith in
    record {
      some = omega arith;
      each = λ k l. joined nodes edges looks columns circle are k (k + 1) (omega arith) (omega arith) (circle.each k (omega arith));
      last = subst (λ z. IsJoined edges (slice_index columns z) (slice_index columns 0)) same
          (joined nodes edges looks columns circle are (length looks - 1) 0 (omega arith) (omega arith) circle.last);
    }

-- around a cycle no numbers rise
no_numbers : (edges : List Edge) (cycle : List ℕ) → IsEdgeCycle edges cycle → (number : ℕ → ℕ) → RisesOnEdges edges number
    → (k : ℕ) → k < length cycle → number (edge_at edges (slice_index cycle 0)).from ≤ number (edge_at edges (slice_index cycle k)).from
no_numbers edges cycle c number rises zero low = omega arith
no_numbers edges cycle c number rises (suc k) low =
    let before = no_numbers edges cycle c number rises k (omega arith) in
    let e = c.each k (omega arith) in
    let up = rises (slice_index cycle k) e.first in
    let on : number (edge_at edges (slice_index cycle k)).to ≡ number (edge_at edges (slice_index cycle (k + 1))).from = ap number e.joined in
    let same : k + 1 ≡ suc k = omega arith in
    subst (λ z. number (edge_at edges (slice_index cycle 0)).from ≤ number (edge_at edges (slice_index cycle z)).from) same (omega arith)

pub no_rise : (edges : List Edge) (cycle : List ℕ) → IsEdgeCycle edges cycle → (number : ℕ → ℕ) → RisesOnEdges edges number → ⊥
no_rise edges cycle c number rises =
    let some = c.some in
    let around = no_numbers edges cycle c number rises (length cycle - 1) (omega arith) in
    let e = c.last in
    let up = rises (slice_index cycle (length cycle - 1)) e.first in
    let on : number (edge_at edges (slice_index cycle (length cycle - 1))).to ≡ number (edge_at edges (slice_index cycle 0)).from = ap number e.joined in
    omega arith
