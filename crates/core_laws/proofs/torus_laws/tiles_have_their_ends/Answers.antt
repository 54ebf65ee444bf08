use Rattle.core_laws.proofs.TorusEnds.{ends_are, is_injection_at, is_ejection_at, one_injection, one_ejection, replies_above}
use Rattle.core_laws.proofs.TorusParcels.{joined}
use Rattle.core_laws.proofs.torus_laws.tiles_have_their_ends.Goals as goal

pub returns : goal.returns
returns c = record {
  ends = ends_are;
  injections = λ s depth x low injects. is_injection_at s x low injects;
  ejections = λ s depth x low ejects. is_ejection_at s x low ejects;
  joined = λ s depth src dst class from to. joined s src dst class from to;
  own_injection = one_injection;
  own_ejection = one_ejection;
  above = replies_above;
}
