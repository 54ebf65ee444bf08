-- Which channels a word behind `join` names: `all`, or numbers and ranges between commas (this
-- project's own format).
use Rattle.std.specs.Prelude.{ℕ, ◌+◌, ◌-◌, ◌==◌, Bool, nat_le, nat_lt, List, [], ◌∷◌, map, codes}
use Rattle.std.specs.Prelude.{Result, Ok, Err, Option, Some, None, if◌then◌else◌}
use Rattle.std.specs.Str.{bytes_eq}
use Rattle.std.specs.List.{slice_split, before_first, after_first, flat_map, range_with_len}
use Rattle.std.specs.List.{list_all}
use Rattle.lexer.specs.Numbers.{index_of}
use Rattle.lexer.specs.Outcome.{◌>>=◌}
use Rattle.network_judge.specs.declared.table.Kind.{Kind}
use Rattle.network_text.specs.declared.reason.Keyword.TheVariants as key
use Rattle.network_text.specs.declared.reason.NetworkReason.{NetworkReason}
use Rattle.network_text.specs.declared.reason.NetworkReason.TheVariants as reason
use Rattle.network_text.specs.declared.all_pairs.End.{End}
use Rattle.network_text.specs.declared.all_pairs.End.TheVariants.{Sender, Receiver}
use Rattle.network_text.specs.declared.ranges.ChannelRange.{ChannelRange}
use Rattle.network_text.specs.AllPairs.{channels_with}
use Rattle.network_text.specs.Shapes.{number_at}

-- a comma stands between the parts of a list
abbrev pub is_comma : ℕ → Bool
is_comma byte = byte == 44

-- a dash stands between the ends of a range
abbrev pub is_dash : ℕ → Bool
is_dash byte = byte == 45

-- the channels of a range, from its first to its last
abbrev pub channels_between : ChannelRange → List ℕ
channels_between range = range_with_len range.first (range.last + 1 - range.first)

-- the channels of ranges, one range after another
abbrev pub channels_of : List ChannelRange → List ℕ
channels_of ranges = flat_map channels_between ranges

-- the range of one channel
abbrev pub range_of_one : ℕ → ChannelRange
range_of_one x = record { first = x; last = x }

-- the range from one number to another, which is not below it, in the word at this place of its line
abbrev pub range_between : ℕ → ℕ → ℕ → Result ChannelRange NetworkReason
range_between place x y =
    if nat_le x y then Ok (record { first = x; last = y }) else Err (reason.RangeFalls place)

-- the range whose ends stand before and behind the first dash
abbrev pub range_of_ends : ℕ → List ℕ → Result ChannelRange NetworkReason
range_of_ends place part =
    number_at place (before_first is_dash part) >>= λ x.
    number_at place (after_first is_dash part) >>= range_between place x

-- the range of a part that may be a number
abbrev pub range_by : ℕ → List ℕ → Option ℕ → Result ChannelRange NetworkReason
range_by place part (Some x) = Ok (range_of_one x)
range_by place part None = range_of_ends place part

-- the range that a part names: one channel by its number, or those between two ends
abbrev pub range_at : ℕ → List ℕ → Result ChannelRange NetworkReason
range_at place part = range_by place part (index_of part)

-- the ranges that parts name, in their order
abbrev pub ranges_of : ℕ → List (List ℕ) → Result (List ChannelRange) NetworkReason
ranges_of place [] = Ok []
ranges_of place (part ∷ parts) =
    range_at place part >>= λ range. ranges_of place parts >>= λ ranges. Ok (range ∷ ranges)

-- the ranges that a word names, between its commas
abbrev pub ranges_at : ℕ → List ℕ → Result (List ChannelRange) NetworkReason
ranges_at place word = ranges_of place (slice_split is_comma word)

-- what a word names: by `all` each channel with such an end so far, else its ranges
abbrev pub listed_at : List Kind → End → ℕ → List ℕ → Result (List ChannelRange) NetworkReason
listed_at kinds end place word =
    if bytes_eq word (codes "all") then Ok (map range_of_one (channels_with end kinds))
    else ranges_at place word

-- why the word at this place names no channels, of so many: they are given, and each is below that
abbrev pub lacks_any : ℕ → ℕ → List ChannelRange → Option NetworkReason
lacks_any count place ranges =
    if count == 0 then Some reason.ChannelsFirst
    else (if list_all (λ (range : ChannelRange). nat_lt range.last count) ranges then None
    else Some (reason.ChannelLimits place count))

-- what senders make with the receivers that a word names
abbrev pub with_receivers : {R : Type 0} → List Kind
    → (List ChannelRange → List ChannelRange → Result R NetworkReason) → List ℕ
    → List ChannelRange → Result R NetworkReason
with_receivers kinds f word senders = listed_at kinds Receiver 2 word >>= f senders

-- what the senders and the receivers make that two words name
abbrev pub after_lists : {R : Type 0} → List Kind
    → (List ChannelRange → List ChannelRange → Result R NetworkReason) → List ℕ → List ℕ
    → Result R NetworkReason
after_lists kinds f from to = listed_at kinds Sender 1 from >>= with_receivers kinds f to

-- what the words after `join` make: two lists, or `all` alone
abbrev pub after_join_words : {R : Type 0} → List Kind
    → (List ChannelRange → List ChannelRange → Result R NetworkReason) → Result R NetworkReason
    → List (List ℕ) → Result R NetworkReason
after_join_words kinds f all [] = Err (reason.NumberCount key.Join)
after_join_words kinds f all (a ∷ []) =
    if bytes_eq a (codes "all") then all else Err (reason.NumberCount key.Join)
after_join_words kinds f all (a ∷ b ∷ []) = after_lists kinds f a b
after_join_words kinds f all (a ∷ b ∷ c ∷ more) = Err (reason.NumberCount key.Join)
