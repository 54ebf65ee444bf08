use Rattle.core_laws.proofs.Rounds as rounds
use Rattle.core_laws.proofs.round_laws.first_enabled_is_found.Goals as goal

pub returns : goal.returns
returns g c = record {
  found = λ step s d cs. rounds.found_enabled step s d cs;
  none = λ step s d cs found on enabled. rounds.none_enabled step s enabled.0 d cs found on enabled.1;
}
