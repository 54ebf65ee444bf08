use Rattle.torus.proofs.Hops.{one_address, each_home}
use Rattle.torus.proofs.laws.homes_name_addresses.Goals as goal

pub returns : goal.returns
returns c = record { unique = λ s _. one_address s; every = λ s _. each_home s }
