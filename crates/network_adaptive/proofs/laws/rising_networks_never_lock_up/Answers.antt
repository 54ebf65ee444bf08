use Rattle.std.proofs.Common.{subst}
use Rattle.std.specs.Prelude.{slice_index}
use Rattle.network_adaptive.specs.declared.verdict.Verdict.{Verdict}
use Rattle.network_adaptive.specs.Judged.{IsAdaptiveVerdict}
use Rattle.network_adaptive.proofs.Arrive.{sent_reached, whole_was_sent, whole_once}
use Rattle.network_adaptive.specs.Choosing.{network}
use Rattle.network_adaptive.proofs.Rising.{adaptive_is, moves, come}
use Rattle.network_adaptive.proofs.laws.rising_networks_never_lock_up.Goals as goal

pub returns : goal.returns
returns g c = record {
  moving = λ t replies shaped are v numbers travel e is depth flits deep s at.
      (let r = subst (λ (w : Verdict g.row.A.Denot). IsAdaptiveVerdict {A = g.row.A.Denot} t replies w) e is in
      moves t replies shaped are depth flits (slice_index numbers.items) (r depth flits).0 (r depth flits).2 deep s at);
  delivered = λ t replies shaped are v numbers travel e is depth flits deep s at.
      (let r = subst (λ (w : Verdict g.row.A.Denot). IsAdaptiveVerdict {A = g.row.A.Denot} t replies w) e is in
      come t replies shaped are depth flits (slice_index numbers.items) (r depth flits).0 (r depth flits).2 deep s at);
  sent = λ t shaped depth flits s at. whole_was_sent (network t depth flits) s (sent_reached (network t depth flits) s (adaptive_is t depth flits shaped) at);
  once = λ t shaped depth flits s at. whole_once (network t depth flits) s (sent_reached (network t depth flits) s (adaptive_is t depth flits shaped) at);
}
