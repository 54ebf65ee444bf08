-- The move that a line of a run text spells (this project's own format).
use Rattle.std.specs.Prelude.{ℕ, ◌^◌, nat_lt, List, [], ◌∷◌, Result, Ok, Err, ok_or, if◌then◌else◌}
use Rattle.lexer.specs.Numbers.{index_of}
use Rattle.lexer.specs.Outcome.{◌>>=◌}
use Rattle.network_machine.specs.declared.moves.Move.{Move}
use Rattle.network_machine.specs.declared.moves.Move.TheVariants as move
use Rattle.network_run.specs.declared.reason.MoveKeyword.{MoveKeyword}
use Rattle.network_run.specs.declared.reason.MoveKeyword.TheVariants as key
use Rattle.network_run.specs.declared.reason.RunReason.{RunReason}
use Rattle.network_run.specs.declared.reason.RunReason.TheVariants as reason

-- the number that a word spells where one belongs, of the word at this place of its line
abbrev pub number_of_run : ℕ → List ℕ → Result ℕ RunReason
number_of_run place word = ok_or (index_of word) (reason.NotNumber place)

-- a packet of less than 2 ^ 31 flits
abbrev pub packet_move : ℕ → ℕ → ℕ → Result Move RunReason
packet_move from to length =
    if nat_lt length (2 ^ 31) then Ok (move.Send (record { from = from; to = to; length = length }))
    else Err reason.LengthLimits

-- the packet behind `send`: its channels, and how many flits it has
abbrev pub spelled_packet : List (List ℕ) → Result Move RunReason
spelled_packet (a ∷ b ∷ c ∷ []) =
    number_of_run 1 a >>= λ from. number_of_run 2 b >>= λ to. number_of_run 3 c
    >>= packet_move from to
spelled_packet [] = Err (reason.NumberCount key.Send)
spelled_packet (a ∷ []) = Err (reason.NumberCount key.Send)
spelled_packet (a ∷ b ∷ []) = Err (reason.NumberCount key.Send)
spelled_packet (a ∷ b ∷ c ∷ d ∷ more) = Err (reason.NumberCount key.Send)

-- the one channel behind another keyword
abbrev pub spelled_channel : MoveKeyword → List (List ℕ) → Result ℕ RunReason
spelled_channel keyword (a ∷ []) = number_of_run 1 a
spelled_channel keyword [] = Err (reason.NumberCount keyword)
spelled_channel keyword (a ∷ b ∷ more) = Err (reason.NumberCount keyword)

-- the move of a keyword and the words behind it
abbrev pub spelled_move : MoveKeyword → List (List ℕ) → Result Move RunReason
spelled_move key.Send values = spelled_packet values
spelled_move key.More values = spelled_channel key.More values >>= λ x. Ok (move.More x)
spelled_move key.Take values = spelled_channel key.Take values >>= λ x. Ok (move.Take x)
spelled_move key.Put values = spelled_channel key.Put values >>= λ x. Ok (move.Put x)
spelled_move key.Accept values = spelled_channel key.Accept values >>= λ x. Ok (move.Accept x)
spelled_move key.Credit values = spelled_channel key.Credit values >>= λ x. Ok (move.Credit x)
