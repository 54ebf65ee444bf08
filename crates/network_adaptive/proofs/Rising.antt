-- What holds of a network that is judged to be rising.
use Rattle.std.proofs.Common.{◌≡◌, ℕ, ◌<◌, List, [], length, refl}
use Rattle.std.specs.Prelude.{slice_index}
use Rattle.wormhole.specs.Net.{Parcel}
use Rattle.wormhole.specs.State.{NetState}
use Rattle.wormhole.specs.Delivery.{whole}
use Rattle.wormhole.specs.Ends.{IsQuiet}
use Rattle.network_judge.specs.declared.table.Reply.{Reply}
use Rattle.network_judge.specs.Replies.{AreReplies}
use Rattle.network_judge.specs.TableNet.{Flits}
use Rattle.network_adaptive.specs.Choices.{IsAdaptiveNet, HasEscapes, AreRising}
use Rattle.network_adaptive.specs.Flow.{IsReachable}
use Rattle.network_adaptive.specs.Progress.{GoesByEscapes, MoveByEscapes}
use Rattle.network_adaptive.specs.Arrivals.{sum_of_packets}
use Rattle.network_adaptive.proofs.Reached.{words_reached, tracks_reached}
use Rattle.network_adaptive.proofs.Quiet as quiet
use Rattle.network_adaptive.proofs.Arrive.{sent_reached, all_come}
use Rattle.network_adaptive.specs.Choosing.{ChoiceTable, table, network, IsShaped}
use Rattle.network_adaptive.specs.declared.verdict.Verdict.{Verdict}
use Rattle.network_adaptive.specs.declared.verdict.Verdict.TheVariants.{Rising, NoEscape, Cycle}
use Rattle.network_adaptive.specs.Judged.{answers_of, IsAdaptiveVerdict, Promises}
use Rattle.network_adaptive.proofs.Bridge.{is_adaptive}
use Rattle.network_adaptive.proofs.Circles.{are_answers}

pub adaptive_is : (t : ChoiceTable) (depth : ℕ) (flits : Flits) → IsShaped t → IsAdaptiveNet (network t depth flits)
adaptive_is t depth flits shaped = is_adaptive t [] (λ x. refl) depth flits shaped

module _ (t : ChoiceTable) (replies : List Reply) (shaped : IsShaped t) (are : AreReplies (table t) replies) (depth : ℕ) (flits : Flits) (number : ℕ → ℕ)
    (escapes : HasEscapes (network t depth flits)) (rising : AreRising (network t depth flits) (answers_of replies) number) (deep : 0 < depth)
    (s : NetState) (is : IsReachable (network t depth flits) s) where
  pub moves : (x : ℕ) → x < length t.kinds → (IsQuiet (network t depth flits).frame s x → ⊥) → MoveByEscapes (network t depth flits) s (answers_of replies)
  moves =
      let net = adaptive_is t depth flits shaped in
      quiet.finds_move (network t depth flits) s (answers_of replies) net escapes number rising deep
      (words_reached (network t depth flits) s net is) (tracks_reached (network t depth flits) s net is) (are_answers t replies depth flits shaped are)

  pub come : GoesByEscapes (network t depth flits) s (answers_of replies) ⊥ → (f : Parcel → ℕ) → sum_of_packets (network t depth flits) f (whole s)
      ≡ sum_of_packets (network t depth flits) f (λ x. (s.notes x).sent)
  come still =
      let net = adaptive_is t depth flits shaped in
      all_come (network t depth flits) s (sent_reached (network t depth flits) s net is)
      (quiet.quiet (network t depth flits) s (answers_of replies) net escapes number rising deep
      (words_reached (network t depth flits) s net is) (tracks_reached (network t depth flits) s net is) (are_answers t replies depth flits shaped are) still)

-- a verdict that holds keeps what it promises
pub promises : {A : Type 0} (t : ChoiceTable) (replies : List Reply) → IsShaped t → AreReplies (table t) replies → (v : Verdict A)
    → IsAdaptiveVerdict t replies v → Promises t replies v
promises t replies shaped are (Rising numbers travel) holds = λ depth flits deep s at.
    moves t replies shaped are depth flits (slice_index numbers.items) (holds depth flits).0 (holds depth flits).2 deep s at
promises t replies shaped are (NoEscape f) holds = tt
promises t replies shaped are (Cycle edges) holds = tt
