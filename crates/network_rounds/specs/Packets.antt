-- The packet that a line of a traffic text spells (this project's own format).
use Rattle.std.specs.Prelude.{ℕ, ◌^◌, ◌&&◌, nat_le, nat_lt, List, [], ◌∷◌, Result, Ok, Err, ok_or, codes}
use Rattle.std.specs.Prelude.{if◌then◌else◌}
use Rattle.std.specs.Str.{bytes_eq}
use Rattle.lexer.specs.Numbers.{index_of}
use Rattle.lexer.specs.Outcome.{◌>>=◌}
use Rattle.network_rounds.specs.declared.senders.Timed.{Timed}
use Rattle.network_rounds.specs.declared.reason.TrafficReason.{TrafficReason}
use Rattle.network_rounds.specs.declared.reason.TrafficReason.TheVariants as reason

-- the number that a word spells where one belongs, of the word at this place of its line
abbrev pub number_of_packet : ℕ → List ℕ → Result ℕ TrafficReason
number_of_packet place word = ok_or (index_of word) (reason.NotNumber place)

-- a number from 1 to 2 ^ 31 - 1, or else this reason
abbrev pub limited : ℕ → TrafficReason → Result ℕ TrafficReason
limited number why = if nat_le 1 number && nat_lt number (2 ^ 31) then Ok number else Err why

-- a packet of these numbers
abbrev pub timed_of : ℕ → ℕ → ℕ → ℕ → Timed
timed_of round from to length = record {
  round = round;
  packet = record { from = from; to = to; length = length };
}

-- the packet of four words: its round, its channels and how many flits it has
abbrev pub timed_of_words : List ℕ → List ℕ → List ℕ → List ℕ → Result Timed TrafficReason
timed_of_words a b c d =
    number_of_packet 1 a >>= λ number. limited number reason.RoundLimits
    >>= λ round. number_of_packet 3 b >>= λ from. number_of_packet 4 c
    >>= λ to. number_of_packet 5 d >>= λ count. limited count reason.LengthLimits
    >>= λ length. Ok (timed_of round from to length)

-- the packet that the words of a line spell: `at ROUND send FROM TO LENGTH`
abbrev pub spelled_timed : List (List ℕ) → Result Timed TrafficReason
spelled_timed (at ∷ a ∷ send ∷ b ∷ c ∷ d ∷ []) =
    if bytes_eq at (codes "at") && bytes_eq send (codes "send") then timed_of_words a b c d
    else Err reason.NotPacket
spelled_timed words = Err reason.NotPacket
