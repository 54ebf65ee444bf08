-- The traffic text: the packets that its lines spell, or where and why it is refused (this project's
-- own format).
use Rattle.std.specs.Prelude.{◌≡◌, ℕ, ◌+◌, List, [], ◌∷◌, ◌++◌, length, Result, Ok}
use Rattle.std.specs.Prelude.{if◌then◌else◌}
use Rattle.lexer.specs.Words.{words_of, begins_comment}
use Rattle.lexer.specs.declared.refusal.Refusal.{Refusal}
use Rattle.lexer.specs.Outcome.{◌>>=◌, then_lines}
use Rattle.network_rounds.specs.declared.senders.Timed.{Timed}
use Rattle.network_rounds.specs.declared.reading.Traffic as rust
use Rattle.network_rounds.specs.declared.reason.TrafficReason.{TrafficReason}
use Rattle.network_rounds.specs.Packets.{spelled_timed}

-- the packets of a traffic text, and the number of the line of each
pub record TrafficSpec : Type 0 where
  pub packets : List Timed
  pub lines : List ℕ

-- what a program keeps of them
abbrev pub traffic_spec : {A : Type 0} → rust.Traffic A → TrafficSpec
traffic_spec t = record { packets = t.packets.items; lines = t.lines.items }

-- no packet
abbrev pub no_packets : TrafficSpec
no_packets = record { packets = []; lines = [] }

-- one more packet, at this line
abbrev pub with_packet : TrafficSpec → ℕ → Timed → TrafficSpec
with_packet t number timed =
    record { packets = t.packets ++ timed ∷ []; lines = t.lines ++ number ∷ [] }

-- what the words of the line of this number make of them; a line without words and a comment are
-- skipped
abbrev pub after_packet_words : TrafficSpec → ℕ → List (List ℕ) → Result TrafficSpec TrafficReason
after_packet_words t number [] = Ok t
after_packet_words t number (word ∷ words) =
    if begins_comment word then Ok t
    else (spelled_timed (word ∷ words) >>= λ timed. Ok (with_packet t number timed))

-- the packets of these lines, of which the first has this number, behind those before; or the refusal
-- of the first bad line
abbrev pub traffic_from : TrafficSpec → ℕ → List (List ℕ)
    → Result TrafficSpec (Refusal TrafficReason)
traffic_from t number [] = Ok t
traffic_from t number (line ∷ lines) =
    then_lines number (after_packet_words t number (words_of line))
    (λ next. traffic_from next (number + 1) lines)

-- the packets of a text, given as the list of its lines, or where and why it is refused
abbrev pub traffic_or_why : List (List ℕ) → Result TrafficSpec (Refusal TrafficReason)
traffic_or_why lines = traffic_from no_packets 1 lines

-- each packet has a line
abbrev pub HasTrafficLines : TrafficSpec → Type 0
HasTrafficLines t = length t.packets ≡ length t.lines
