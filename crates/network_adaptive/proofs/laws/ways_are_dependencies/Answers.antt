use Rattle.network_adaptive.proofs.Told.{way_depends, cycle_by}
use Rattle.network_adaptive.proofs.laws.ways_are_dependencies.Goals as goal

pub returns : goal.returns
returns g c = record {
  each = λ n x j y over held come w. way_depends n x j y held come over w;
  cycle = λ n answers edges is. cycle_by n answers edges is;
}
