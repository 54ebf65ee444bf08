-- Pairs of operations of which the first comes before the second in each order that explains a trace.
-- Hangal, Vahia, Manovit, Lu and Narayanan, TSOtool: a program for verifying memory systems using
-- the memory consistency model, 2004.
use Rattle.std.specs.Prelude.{◌≡◌, ℕ, ◌<◌, ◌≤◌, List, length, slice_index}
use Rattle.rising.specs.declared.edge.Edge.{Edge}
use Rattle.rising.specs.Graph.{EdgesAreWithin, RisesOnEdges}
use Rattle.model_values.specs.declared.question.Unordered.{Unordered}
use Rattle.model_values.specs.Unordered.{ExplainsLog}

-- an order of all operations explains the trace with some sources, among them those that the question
-- gives: where it gives no operation as a source, any may be
pub record IsOrderWithSome (q : Unordered) (turn : ℕ → ℕ) : Type 0 where
  pub sources : List ℕ
  pub size : length q.sources.now ≤ length sources
  pub agrees : (x : ℕ) → x < length q.operations.now
      → slice_index q.sources.now x < length q.operations.now
      → slice_index sources x ≡ slice_index q.sources.now x
  pub is : ExplainsLog q.rules.now q.operations.now sources q.words q.openings q.closing turn

-- an operation comes before another in each order that explains the trace, where some pairs do
pub record IsForced (q : Unordered) (edges : List Edge) (x y : ℕ) : Type 0 where
  pub from : x < length q.operations.now
  pub to : y < length q.operations.now
  pub rises : (turn : ℕ → ℕ) → IsOrderWithSome q turn → RisesOnEdges edges turn → turn x < turn y

-- of each pair the first operation comes before the second in each order that explains the trace
pub record AreForced (q : Unordered) (edges : List Edge) : Type 0 where
  pub within : EdgesAreWithin (length q.operations.now) edges
  pub rises : (turn : ℕ → ℕ) → IsOrderWithSome q turn → RisesOnEdges edges turn
