-- What the search gives: numbers that rise over dependencies, or a cycle of them.
use Rattle.std.proofs.Common.{◌≡◌, inl, inr, ℕ, ◌<◌, Bool, true, false, List, ◌++◌, length, take, drop, replicate, sym, ◌∙◌}
use Rattle.std.proofs.Common.{ap, subst, arith}
use Rattle.std.specs.Prelude.{◌==◌, slice_index}
use Rattle.std.proofs.lemmas.Bool.{cases_lt}
use Rattle.std.proofs.lemmas.List.{take_at, length-replicate, get_or-replicate, get_or_past}
use Rattle.rising.specs.declared.search.Look.{Look}
use Rattle.rising.specs.Graph.{Digraph, RisesAlong}
use Rattle.rising.specs.Search.{IsCircuit, LeadsWithin}
use Rattle.rising.specs.Found.{IsPermutationBelow}
use Rattle.network_judge.specs.declared.table.Link.{Link}
use Rattle.network_judge.specs.declared.table.Reply.{Reply}
use Rattle.network_judge.specs.Table.{Table, channels_of, columns_of, column_of, choice_of}
use Rattle.network_judge.specs.Columns.{AreColumnEnds}
use Rattle.network_judge.specs.Graph.{flag_at, choice_at, graph_of, marked_of}
use Rattle.network_judge.specs.Replies.{reply_at, AreReplies}
use Rattle.network_judge.specs.Links.{AreLinks}
use Rattle.network_judge.specs.Cycles.{Depends, IsCycle}
use Rattle.network_judge.specs.Verdicts.{AllArrive, IsNumbered}
use Rattle.network_judge.specs.Marks.{is_marked_at, MarksRoutes}
use Rattle.network_judge.proofs.Nets.{is_net}
use Rattle.network_judge.proofs.Ends.{one_column}
use Rattle.network_judge.proofs.Graphs.{either_low, IsEdge, reply_edge, reply_from, stay_with, cycle_with}
use Rattle.network_judge.proofs.Marking.{all_arrive, next_within, passes_end, goes_on, IsUsed, is_used}

-- marked channels and replies lead to channels
pub stay_within : (t : Table) (used : List Bool) (replies : List Reply) (n : ℕ) → AreReplies t replies → MarksRoutes t n used
    → LeadsWithin (marked_of t used replies)
stay_within t used replies n are r =
    stay_with t replies (columns_of t) (flag_at (columns_of t) used) (choice_at (columns_of t) t.choices) are
    (λ x c low marked. (let p = r.only x c low marked in subst (λ z. choice_of t x z < channels_of t) p.column (next_within t x p.to p.passes)))

-- a circle is a cycle of dependencies and replies
pub is_cycle : (t : Table) (used : List Bool) (replies : List Reply) (n : ℕ) (ends : List ℕ) (looks : List Look) (links : List Link)
    → MarksRoutes t n used → AreColumnEnds t.kinds ends → IsCircuit (marked_of t used replies) looks
    → AreLinks (columns_of t) (slice_index ends) looks links → IsCycle t replies links
is_cycle t used replies n ends looks links r ends_are =
    cycle_with t replies (channels_of t) (columns_of t) (flag_at (columns_of t) used) (choice_at (columns_of t) t.choices)
    (slice_index ends) looks links depends
  where
    depends : (x c y : ℕ) → c < columns_of t → flag_at (columns_of t) used x c ≡ true → choice_at (columns_of t) t.choices x c ≡ y
        → Depends t x (slice_index ends c) y
    depends x c y low marked next =
        let p = r.only x c low marked in
        let size = ends_are.size in
        let e = ends_are.each c (omega arith) in
        let same : p.to ≡ slice_index ends c =
        one_column t.kinds p.to (slice_index ends c) (passes_end t x p.to p.passes) e.kind (p.column ∙ sym e.column) in
        subst (λ z. Depends t x z y) same (goes_on t x p.to y p.passes (ap (choice_of t x) p.column ∙ next))

-- where a channel leads on the number rises
number_rises : (g : Digraph) (number : ℕ → ℕ) → RisesAlong g number → (x y : ℕ) → x < g.nodes → IsEdge g x y → number x < number y
number_rises g number up x y low e = subst (λ z. number x < number z) e.after (up x e.column low e.low e.leads)

-- a dependency is a marked column
marked_edge : (t : Table) (used : List Bool) (replies : List Reply) (x j y : ℕ) → IsUsed t used x j y → IsEdge (marked_of t used replies) x y
marked_edge t used replies x j y u =
    let end = u.end in
    let columns : ℕ = columns_of t in
    record {
      column = column_of t j;
      low = omega arith;
      leads = either_low columns (flag_at columns used x) (λ p. (reply_at replies p).from == x) (column_of t j) u.end ∙ u.marked;
      after = either_low columns (choice_at columns t.choices x) (λ p. (reply_at replies p).to) (column_of t j) u.end ∙ u.next;
    }

-- so it is a network with these numbers
pub is_numbered : (t : Table) (used : List Bool) (replies : List Reply) (numbers : List ℕ) → AreReplies t replies
    → MarksRoutes t (length t.joins) used → IsPermutationBelow (channels_of t) numbers
    → RisesAlong (marked_of t used replies) (slice_index numbers) → IsNumbered t replies numbers
is_numbered t used replies numbers are m p up =
    let g : Digraph = marked_of t used replies in
    record {
      count = p.size;
      above = λ x y is. number_rises g (slice_index numbers) up x y (reply_from t replies are x y is)
          (reply_edge replies (channels_of t) (columns_of t) (flag_at (columns_of t) used) (choice_at (columns_of t) t.choices) x y is);
      net = λ depth flits. is_net t (slice_index numbers) (channels_of t) depth flits (all_arrive t used m) p.low
          (λ x j y d. (let u = is_used t used m x j y d in
          number_rises g (slice_index numbers) up x y u.channel (marked_edge t used replies x j y u)));
    }

-- what a fresh list of flags is
pub fresh_clear : (used : List Bool) (n : ℕ) → used ≡ replicate n false → (m : ℕ) → is_marked_at used m ≡ false
fresh_clear used n e m =
    ap (λ (z : List Bool). is_marked_at z m) e
    ∙ elim (cases_lt m n) [
      | inl l ↦ get_or-replicate n m false false l
      | inr g ↦ get_or_past (replicate n false) m false (omega (arith, length-replicate n false))
    ]

-- a list that was written whole, as a vector has it
pub written : {X : Type 0} (n : ℕ) (new old : List X) → n ≡ length new → take n (new ++ drop (length new) old) ≡ new
written n new old e = take_at new (drop (length new) old) n (sym e)

-- the verdict on channels that lead around
pub cycle_judged : (t : Table) (replies : List Reply) (width : ℕ) (used new : List Bool) (ends ends_read : List ℕ)
    (looks looks_read : List Look) (links : List Link)
    → width ≡ columns_of t → used ≡ new → MarksRoutes t (length t.joins) new → AreColumnEnds t.kinds ends → ends_read ≡ ends
    → IsCircuit (graph_of (channels_of t) width t.choices used replies) looks → looks_read ≡ looks
    → AreLinks (length ends_read) (slice_index ends_read) looks_read links → AllArrive t × IsCycle t replies links
cycle_judged t replies width used new ends ends_read looks looks_read links wide same m e read c look l =
    let marked : MarksRoutes t (length t.joins) used = subst (λ z. MarksRoutes t (length t.joins) z) (sym same) m in
    let around : IsCircuit (marked_of t used replies) looks =
    subst (λ z. IsCircuit (graph_of (channels_of t) z t.choices used replies) looks) wide c in
    let seen : AreLinks (length ends) (slice_index ends) looks links =
    subst (λ z. AreLinks (length ends) (slice_index ends) z links) look (subst (λ z. AreLinks (length z) (slice_index z) looks_read links) read l) in
    let linked : AreLinks (columns_of t) (slice_index ends) looks links = subst (λ z. AreLinks z (slice_index ends) looks links) e.size seen in
    (all_arrive t used marked, is_cycle t used replies (length t.joins) ends looks links marked e around linked)

-- the verdict on numbers that rise
pub rising_judged : (t : Table) (replies : List Reply) (width : ℕ) (used new : List Bool) (numbers : List ℕ)
    → AreReplies t replies → width ≡ columns_of t → used ≡ new → MarksRoutes t (length t.joins) new
    → IsPermutationBelow (channels_of t) numbers → RisesAlong (graph_of (channels_of t) width t.choices used replies) (slice_index numbers)
    → AllArrive t × IsNumbered t replies numbers
rising_judged t replies width used new numbers replies_are wide same m p up =
    let marked : MarksRoutes t (length t.joins) used = subst (λ z. MarksRoutes t (length t.joins) z) (sym same) m in (
      all_arrive t used marked,
      is_numbered t used replies numbers replies_are marked p
          (subst (λ z. RisesAlong (graph_of (channels_of t) z t.choices used replies) (slice_index numbers)) wide up),
    )
