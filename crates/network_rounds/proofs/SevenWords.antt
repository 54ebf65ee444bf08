-- No line of a traffic text has more than six words that mean something, comments apart: seven tell that there are too many.
use Rattle.std.proofs.Common.{◌≡◌, ℕ, ◌+◌, List, [], ◌∷◌, take, refl, sym, ◌∙◌, ap}
use Rattle.std.specs.Prelude.{Result, Ok, Err, if◌then◌else◌}
use Rattle.lexer.specs.Words.{words_of, begins_comment}
use Rattle.lexer.specs.declared.refusal.Refusal.{Refusal}
use Rattle.lexer.specs.Outcome.{◌>>=◌, then_lines, refusal_at}
use Rattle.network_rounds.specs.declared.senders.Timed.{Timed}
use Rattle.network_rounds.specs.declared.reason.TrafficReason.{TrafficReason}
use Rattle.network_rounds.specs.Packets.{spelled_timed}
use Rattle.network_rounds.specs.Traffic.{TrafficSpec, with_packet, after_packet_words, traffic_from}

spelled_seven : (ws : List (List ℕ)) → spelled_timed (take 7 ws) ≡ spelled_timed ws
spelled_seven [] = refl
spelled_seven (a ∷ []) = refl
spelled_seven (a ∷ b ∷ []) = refl
spelled_seven (a ∷ b ∷ c ∷ []) = refl
spelled_seven (a ∷ b ∷ c ∷ d ∷ []) = refl
spelled_seven (a ∷ b ∷ c ∷ d ∷ e ∷ []) = refl
spelled_seven (a ∷ b ∷ c ∷ d ∷ e ∷ f ∷ []) = refl
spelled_seven (a ∷ b ∷ c ∷ d ∷ e ∷ f ∷ g ∷ more) = refl

words_seven : (t : TrafficSpec) (n : ℕ) (ws : List (List ℕ)) → after_packet_words t n (take 7 ws) ≡ after_packet_words t n ws
words_seven t n [] = refl
words_seven t n (w ∷ ws) =
    ap (λ (o : Result Timed TrafficReason). if begins_comment w then Ok t else (o >>= λ timed. Ok (with_packet t n timed))) (spelled_seven (w ∷ ws))

-- one more line of a traffic text
pub traffic_step : (n : ℕ) (t new : TrafficSpec) (line : List ℕ) (rest after ws : List (List ℕ)) (all : Result TrafficSpec (Refusal TrafficReason))
    → rest ≡ line ∷ after → ws ≡ take 7 (words_of line) → after_packet_words t n ws ≡ Ok new → traffic_from t n rest ≡ all
    → traffic_from new (n + 1) after ≡ all
traffic_step n t new line rest after ws all is seven made so_far =
    let here : after_packet_words t n (words_of line) ≡ Ok new =
    sym (words_seven t n (words_of line)) ∙ ap (after_packet_words t n) (sym seven) ∙ made in
    sym (ap (λ o. then_lines n o (λ next. traffic_from next (n + 1) after)) here) ∙ sym (ap (traffic_from t n) is) ∙ so_far

-- a bad line of a traffic text
pub traffic_fault : (n : ℕ) (t : TrafficSpec) (line : List ℕ) (rest after ws : List (List ℕ)) (all : Result TrafficSpec (Refusal TrafficReason)) (e : TrafficReason)
    → rest ≡ line ∷ after → ws ≡ take 7 (words_of line) → after_packet_words t n ws ≡ Err e → traffic_from t n rest ≡ all
    → all ≡ Err (refusal_at n e)
traffic_fault n t line rest after ws all e is seven made so_far =
    let here : after_packet_words t n (words_of line) ≡ Err e =
    sym (words_seven t n (words_of line)) ∙ ap (after_packet_words t n) (sym seven) ∙ made in
    sym so_far ∙ ap (traffic_from t n) is ∙ ap (λ o. then_lines n o (λ next. traffic_from next (n + 1) after)) here
