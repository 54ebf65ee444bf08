-- Where all walks arrive, there is a cycle of dependencies or there are numbers that rise.
use Rattle.std.proofs.Common.{◌≡◌, ◌⊎◌, inl, inr, ℕ, ◌<◌, List}
use Rattle.std.proofs.Common.{◌∙◌, subst, arith}
use Rattle.std.specs.Prelude.{◌==◌, slice_index, map}
use Rattle.std.proofs.lemmas.List.{length-map, get_or-map}
use Rattle.network_judge.specs.declared.table.Link.{Link}
use Rattle.network_judge.specs.Table.{Table, channels_of, table_next}
use Rattle.network_judge.specs.declared.table.Reply.{Reply}
use Rattle.network_judge.specs.declared.table.By.TheVariants.{Replied}
use Rattle.rising.specs.declared.search.Look.{Look}
use Rattle.network_judge.specs.Replies.{reply_at, AreReplies}
use Rattle.rising.specs.Graph.{Digraph}
use Rattle.network_judge.specs.Graph.{graph_with}
use Rattle.network_judge.specs.Links.{link_of, AreLinks}
use Rattle.network_judge.specs.Cycles.{IsCycle}
use Rattle.network_judge.specs.Verdicts.{AllArrive, IsNumbered}
use Rattle.network_judge.specs.Marks.{Passes}
use Rattle.network_judge.proofs.Nets.{within_way, is_net}
use Rattle.network_judge.proofs.Graphs.{either_low, IsEdge, reply_edge, reply_from, reply_to, stay_with, cycle_with}
use Rattle.network_judge.proofs.Marking.{next_within, goes_on}
use Rattle.network_judge.proofs.Passing.{passes, from_passes, to_passes, dependency_passes}
use Rattle.network_judge.proofs.Chains.{RiseOn, circle_or_ranks}

-- the graph of all dependencies of a table, in a column for each channel, and of replies
abbrev all_of : Table → List Reply → Digraph
all_of t replies = graph_with (channels_of t) (channels_of t) (passes t) (table_next t) replies

-- the links of channels that lead around
links_are : (columns : ℕ) (to : ℕ → ℕ) (looks : List Look) → AreLinks columns to looks (map (link_of columns to) looks)
links_are columns to looks = record {
  size = length-map looks (link_of columns to);
  each = λ k l. get_or-map (link_of columns to) looks k (record { node = 0; column = 0 }) (record { channel = 0; by = Replied }) l;
}

-- a dependency is a column
dependency_edge : (t : Table) (replies : List Reply) → AllArrive t → (x j y : ℕ) → Passes t x j → table_next t x j ≡ y → IsEdge (all_of t replies) x y
dependency_edge t replies arrive x j y p e =
    let n : ℕ = channels_of t in
    let low : j < n = subst (λ z. z < channels_of t) p.way.arrives (within_way t p.from j p.steps p.steps p.way (omega arith)) in
    record {
      column = j;
      low = omega (arith, low);
      leads = either_low n (passes t x) (λ p. (reply_at replies p).from == x) j low ∙ to_passes t arrive x j p;
      after = either_low n (table_next t x) (λ p. (reply_at replies p).to) j low ∙ e;
    }

-- where all walks arrive, there is a cycle or there are numbers
pub cycle_or_numbers : (t : Table) (replies : List Reply) → AreReplies t replies → AllArrive t
    → ((links : List Link) × IsCycle t replies links) ⊎ ((numbers : List ℕ) × IsNumbered t replies numbers)
cycle_or_numbers t replies are arrive =
    elim (circle_or_ranks (all_of t replies) (stay_with t replies (channels_of t) (passes t) (table_next t) are
    (λ x c low e. next_within t x c (from_passes t arrive x c e)))) [
      | inl c ↦ inl (
        map (link_of (channels_of t) (λ j. j)) c.0,
        cycle_with t replies (channels_of t) (channels_of t) (passes t) (table_next t) (λ j. j) c.0 (map (link_of (channels_of t) (λ j. j)) c.0)
            (λ x j y low e f. goes_on t x j y (from_passes t arrive x j e) f) c.1 (links_are (channels_of t) (λ j. j) c.0),
      )
      | inr r ↦ inr (r.0, numbered r.0 r.1)
    ]
  where
    numbered : (numbers : List ℕ) → RiseOn (all_of t replies) numbers → IsNumbered t replies numbers
    numbered numbers r = record {
      count = r.count;
      above = λ x y is. r.up x y (reply_from t replies are x y is) (reply_to t replies are x y is)
          (reply_edge replies (channels_of t) (channels_of t) (passes t) (table_next t) x y is);
      net = λ depth flits. is_net t (slice_index numbers) (channels_of t) depth flits arrive r.bound
          (λ x j y d. (let p = dependency_passes t arrive x j y d in
          let hx : x < channels_of t =
          subst (λ z. z < channels_of t) p.0.here (within_way t p.0.from j p.0.steps p.0.step p.0.way (let b = p.0.before in omega arith)) in
          let hy : y < channels_of t = subst (λ z. z < channels_of t) p.1 (next_within t x j p.0) in
          r.up x y hx hy (dependency_edge t replies arrive x j y p.0 p.1)));
    }
