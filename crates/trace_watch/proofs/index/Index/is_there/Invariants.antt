use Rattle.std.proofs.Common.{◌≡◌, ◌≤◌, ℕ, List, Some, length, slice_get}
use Rattle.trace_watch.specs.States.{Config, Covers, config_of, configs_of}
use Rattle.trace_watch.specs.Chains.{IsChain}
use Rattle.trace_watch.proofs.index.Index.is_there.Given as goal

abbrev pub invariant-loop-next : goal.invariant-loop-next
invariant-loop-next g l = record {
  inside : l.next ≤ length l.found;
  left : (i : ℕ) (c : Config) → slice_get (configs_of l.found) i ≡ Some c → Covers c (config_of l.state)
      → (way : List ℕ) × IsChain l.self.links.items l.next i way;
}

abbrev pub decreases-loop-next : goal.decreases-loop-next
decreases-loop-next g l = l.next
