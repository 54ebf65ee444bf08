use Rattle.network_text.proofs.Alike.{fixed_is_read, read_is_fixed}
use Rattle.network_text.proofs.laws.fixed_routes_are_the_case_of_one_choice.Goals as goal

pub returns : goal.returns
returns c = record { given = fixed_is_read; back = read_is_fixed }
