use Rattle.core_laws.proofs.Fronts.{front_counts_taken, flit_behind_taken}
use Rattle.core_laws.proofs.row_laws.places_follow_the_flits_taken.Goals as goal

pub returns : goal.returns
returns c = record {
  front = λ l ok steps n x x_in. front_counts_taken l ok x x_in steps n;
  flits = λ l ok steps n x i x_in h. flit_behind_taken l ok x x_in steps n i h;
}
