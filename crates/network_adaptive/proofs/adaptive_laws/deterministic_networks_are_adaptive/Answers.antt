use Rattle.network_adaptive.proofs.Deterministic.{is_adaptive, has_escapes, rises, same_events, same_too}
use Rattle.network_adaptive.proofs.adaptive_laws.deterministic_networks_are_adaptive.Goals as goal

pub returns : goal.returns
returns c = record {
  shape = λ m net. is_adaptive m net;
  escapes = λ m net. has_escapes m net;
  rising = λ m net x j y a. rises m net x j y a;
  events = same_events;
  events_too = same_too;
}
