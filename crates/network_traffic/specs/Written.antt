-- The text of a simulation (this project's own format).
use Rattle.std.specs.Prelude.{ℕ, ◌-◌, List, ◌++◌, length, slice_index_or, codes, decimal, Option, Some, None}
use Rattle.std.specs.Prelude.{if◌then◌else◌}
use Rattle.network_machine.specs.declared.moves.Ending.{Ending}
use Rattle.network_machine.specs.declared.moves.Ending.TheVariants as ending
use Rattle.network_rounds.specs.declared.senders.Timed.{Timed}
use Rattle.network_rounds.specs.Packets.{timed_of}
use Rattle.network_text.specs.Lines.{first_lines}
use Rattle.network_traffic.specs.declared.running.Extent.{Extent}

-- a round, or that there is none
abbrev pub round_words : Option ℕ → List ℕ
round_words None = codes "-"
round_words (Some round) = decimal round

-- how many rounds pass from that from which on a packet may be begun to its delivery, both counted
abbrev pub latency_of : Timed → Option ℕ → Option ℕ
latency_of timed None = None
latency_of timed (Some round) = Some (round - (timed.round - 1))

-- the words of a packet
abbrev pub timed_words : Timed → List ℕ
timed_words timed = codes "packet " ++ decimal timed.round
    ++ (codes " " ++ decimal timed.packet.from) ++ (codes " " ++ decimal timed.packet.to)
    ++ (codes " " ++ decimal timed.packet.length)

-- the line of a packet that is begun and delivered in these rounds
abbrev pub packet_line : Timed → Option ℕ → Option ℕ → List ℕ
packet_line timed begun delivered = timed_words timed ++ (codes " begun " ++ round_words begun)
    ++ (codes " delivered " ++ round_words delivered)
    ++ (codes " latency " ++ round_words (latency_of timed delivered)) ++ codes "\n"

-- the line of the packet of a number
abbrev pub packet_line_at : List Timed → (ℕ → Option ℕ) → (ℕ → Option ℕ) → ℕ → List ℕ
packet_line_at packets begun delivered k =
    packet_line (slice_index_or packets k (timed_of 0 0 0 0)) (begun k) (delivered k)

-- the line of a channel that so many flits leave, and behind which they wait so many rounds
abbrev pub channel_line : ℕ → ℕ → ℕ → List ℕ
channel_line x flits waited = codes "channel " ++ decimal x ++ (codes " flits " ++ decimal flits)
    ++ (codes " waited " ++ decimal waited) ++ codes "\n"

-- the line of the channel of a number
abbrev pub channel_line_at : (ℕ → ℕ) → (ℕ → ℕ) → ℕ → List ℕ
channel_line_at flits waited x = channel_line x (flits x) (waited x)

-- what stands at the end
abbrev pub ending_word : Ending → List ℕ
ending_word ending.Locked = codes "locked"
ending_word ending.Empty = codes "empty"
ending_word (ending.Goes of) = codes "going"

-- the line on the end
abbrev pub end_line : Extent → Ending → List ℕ
end_line e ending = (if e.is_over then ending_word ending ++ (codes " after round " ++ decimal e.last)
    else codes "not over after round " ++ decimal e.rounds) ++ codes "\n"

-- a line for each packet, one for each of so many channels, and the end
abbrev pub report_text : List Timed → (ℕ → Option ℕ) → (ℕ → Option ℕ) → (ℕ → ℕ) → (ℕ → ℕ) → ℕ
    → List ℕ → List ℕ
report_text packets begun delivered flits waited channels end =
    first_lines (packet_line_at packets begun delivered) (length packets)
    ++ first_lines (channel_line_at flits waited) channels ++ end
