use Rattle.std.proofs.Common.{◌≡◌, ℕ, ◌<◌, length}
use Rattle.std.specs.Prelude.{slice_index}
use Rattle.network_judge.specs.Cycles.{link_at}
use Rattle.rising.specs.Search.{path_look}
use Rattle.network_judge.specs.Links.{link_of}
use Rattle.network_judge.proofs.links.links_of.Given as goal

-- the links so far
abbrev pub invariant-loop-k : goal.invariant-loop-k
invariant-loop-k g l = record {
  size : length l.links.items ≡ l.k;
  each : (m : ℕ) → m < l.k → link_at l.links.items m ≡ link_of (length l.ends) (slice_index l.ends) (path_look l.looks m);
}
