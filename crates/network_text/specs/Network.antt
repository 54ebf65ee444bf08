-- The network text: what each line makes of what the lines before it made, and what the whole text
-- is (this project's own format).
use Rattle.std.specs.Prelude.{◌≡◌, ◌⊎◌, ℕ, ◌+◌, ◌*◌, ◌^◌, ◌==◌, ◌&&◌, Bool, true, false, not}
use Rattle.std.specs.Prelude.{nat_le, nat_lt, List, [], ◌∷◌, ◌++◌}
use Rattle.std.specs.Prelude.{length, replicate, slice_index, slice_index_or, slice_get, slice_set}
use Rattle.std.specs.Prelude.{Result, Ok, Err, Option, Some, None, is_some, if◌then◌else◌}
use Rattle.std.specs.List.{list_any}
use Rattle.lexer.specs.Words.{words_of, begins_comment}
use Rattle.lexer.specs.declared.refusal.Refusal.{Refusal}
use Rattle.lexer.specs.Outcome.{then_lines}
use Rattle.lexer.specs.declared.fault.LineFault.{LineFault}
use Rattle.lexer.specs.Faults.{by_fault}
use Rattle.network_text.specs.declared.reason.Keyword.{Keyword}
use Rattle.network_text.specs.declared.reason.Keyword.TheVariants as key
use Rattle.network_text.specs.declared.reason.NetworkReason.{NetworkReason}
use Rattle.network_text.specs.declared.reason.NetworkReason.TheVariants as reason
use Rattle.network_text.specs.declared.reading.GivenNames.{GivenNames}
use Rattle.network_text.specs.Reasons.{network_fault_of, network_keyword_of}
use Rattle.network_text.specs.Shapes.{unless, after_one, after_two, after_three, after_router_words}
use Rattle.network_text.specs.Shapes.{after_link_words, after_name_words}
use Rattle.network_text.specs.AllPairs.{every_join, all_joins, pairs_in}
use Rattle.network_text.specs.declared.ranges.ChannelRange.{ChannelRange}
use Rattle.network_text.specs.Ranges.{channels_of, lacks_any, after_join_words}
use Rattle.network_judge.specs.declared.table.Kind.{Kind}
use Rattle.network_judge.specs.declared.table.Kind.TheVariants.{Injection, Hop, Ejection}
use Rattle.network_judge.specs.declared.table.Reply.{Reply}
use Rattle.network_judge.specs.Table.{Table, table_of, columns_of, column_of, is_sender, is_receiver}

-- what is read so far: the tables, the replies, whether a choice was given yet (there are no
-- choices before), which names are given, and how many flits each packet has, if that is given
pub record Reading : Type 0 where
  pub table : Table
  pub replies : List Reply
  pub begun : Bool
  pub names : List GivenNames
  pub flits : Option ℕ

-- these
abbrev pub reading_with : Table → List Reply → Bool → List GivenNames → Option ℕ → Reading
reading_with table replies begun names flits =
    record { table = table; replies = replies; begun = begun; names = names; flits = flits }

-- nothing is given
abbrev pub nothing_read : Reading
nothing_read = reading_with (table_of [] [] []) [] false [] None

-- how many channels there are; none before their number is given
abbrev pub count_of : Reading → ℕ
count_of r = length r.table.kinds

-- why the word at this place names no channel: their number is given, and it is below it
abbrev pub lacks : Reading → ℕ → ℕ → Option NetworkReason
lacks r place x =
    if count_of r == 0 then Some reason.ChannelsFirst
    else (if not (nat_lt x (count_of r)) then Some (reason.ChannelLimits place (count_of r))
    else None)

-- the number of channels is given once, and all are hops at first
abbrev pub after_channels : Reading → ℕ → Result Reading NetworkReason
after_channels r count =
    if not (count_of r == 0) then Err reason.ChannelsTwice
    else (if nat_le 1 count && nat_le count 65536
    then Ok (reading_with (table_of (replicate count Hop) r.table.joins r.table.choices) r.replies
    r.begun r.names r.flits)
    else Err reason.ChannelsLimits)

-- whether a kind is that of hops
abbrev pub is_hop : Kind → Bool
is_hop Injection = false
is_hop Hop = true
is_hop Ejection = false

-- a channel is of this kind
abbrev pub with_kind : Reading → ℕ → Kind → Reading
with_kind r x kind =
    reading_with (table_of (slice_set r.table.kinds x kind) r.table.joins r.table.choices) r.replies
    r.begun r.names r.flits

-- a channel is made an injection channel, once
abbrev pub after_inject : Reading → ℕ → Result Reading NetworkReason
after_inject r x = unless (lacks r 1 x)
    (if not (is_hop (slice_index_or r.table.kinds x Hop)) then Err reason.KindTwice
    else Ok (with_kind r x Injection))

-- a channel is made an ejection channel, once, before all choices, of which there may be 2 ^ 27
abbrev pub after_eject : Reading → ℕ → Result Reading NetworkReason
after_eject r x = unless (lacks r 1 x)
    (if r.begun then Err reason.EjectionLate
    else (if not (is_hop (slice_index_or r.table.kinds x Hop)) then Err reason.KindTwice
    else (if nat_lt (2 ^ 27) (count_of r * (columns_of r.table + 1))
    then Err reason.EjectionsLimits
    else Ok (with_kind r x Ejection))))

-- packets go from one channel to another
abbrev pub after_join : Reading → ℕ → ℕ → Result Reading NetworkReason
after_join r i j = unless (lacks r 1 i) (unless (lacks r 2 j)
    (if nat_le 4194304 (length r.table.joins) then Err reason.JoinsLimits
    else Ok (reading_with (table_of r.table.kinds
    (r.table.joins ++ record { from = i; to = j } ∷ []) r.table.choices)
    r.replies r.begun r.names r.flits)))

-- packets go from each channel of these ranges to each of those
abbrev pub after_joins : Reading → List ChannelRange → List ChannelRange
    → Result Reading NetworkReason
after_joins r is js = unless (lacks_any (count_of r) 1 is) (unless (lacks_any (count_of r) 2 js)
    (if nat_le (length r.table.joins + length (channels_of is) * length (channels_of js)) 4194304
    then Ok (reading_with (table_of r.table.kinds
    (r.table.joins ++ every_join (channels_of is) (channels_of js)) r.table.choices)
    r.replies r.begun r.names r.flits)
    else Err reason.JoinsLimits))

-- packets go from each sender so far to each receiver so far
abbrev pub after_join_all : Reading → Result Reading NetworkReason
after_join_all r =
    if count_of r == 0 then Err reason.ChannelsFirst
    else (if nat_lt 4194304 (length r.table.joins + pairs_in r.table.kinds)
    then Err reason.AllJoinsLimits
    else Ok (reading_with (table_of r.table.kinds (r.table.joins ++ all_joins r.table.kinds)
    r.table.choices) r.replies r.begun r.names r.flits))

-- with choices: none yet behind any channel for any ejection channel
abbrev pub started : Reading → Reading
started r =
    reading_with (table_of r.table.kinds r.table.joins
    (replicate (count_of r * columns_of r.table) (count_of r)))
    r.replies true r.names r.flits

-- with choices, if none was given
abbrev pub begun : Reading → Reading
begun r = if r.begun then r else started r

-- the place of the choice behind a channel for packets to an ejection channel
abbrev pub cell_of : Reading → ℕ → ℕ → ℕ
cell_of r x j = x * columns_of r.table + column_of r.table j

-- the place of the choice behind a channel for packets to an ejection channel, where one is given
abbrev pub taken_cell : Reading → ℕ → ℕ → Option ℕ
taken_cell r x j =
    if not r.begun then None
    else (if not (nat_lt x (count_of r)) then None
    else (if not (is_receiver (slice_get r.table.kinds j)) then None
    else (if slice_index r.table.choices (cell_of r x j) == count_of r then None
    else Some (cell_of r x j))))

-- the choice at a place is given once
abbrev pub after_choice : Reading → ℕ → ℕ → Result Reading NetworkReason
after_choice r cell y =
    if not (slice_index r.table.choices cell == count_of r) then Err reason.ChoiceTwice
    else Ok (reading_with (table_of r.table.kinds r.table.joins (slice_set r.table.choices cell y))
    r.replies r.begun r.names r.flits)

-- the choice behind a channel for packets to an ejection channel
abbrev pub after_next : Reading → ℕ → ℕ → ℕ → Result Reading NetworkReason
after_next r x j y = unless (lacks r 1 x) (unless (lacks r 2 j)
    (if not (is_receiver (slice_get r.table.kinds j)) then Err (reason.NotEjection 2)
    else unless (lacks r 3 y) (after_choice (begun r) (cell_of r x j) y)))

-- whether the list has this reply
abbrev pub has_reply : List Reply → ℕ → ℕ → Bool
has_reply replies x y = list_any (λ (reply : Reply). reply.from == x && reply.to == y) replies

-- packets from an ejection channel are answered on an injection channel, which is said once
abbrev pub after_reply : Reading → ℕ → ℕ → Result Reading NetworkReason
after_reply r x y = unless (lacks r 1 x)
    (if not (is_receiver (slice_get r.table.kinds x)) then Err (reason.NotEjection 1)
    else unless (lacks r 2 y)
    (if not (is_sender (slice_get r.table.kinds y)) then Err (reason.NotInjection 2)
    else (if has_reply r.replies x y then Err reason.ReplyTwice
    else Ok (reading_with r.table (r.replies ++ record { from = x; to = y } ∷ [])
    r.begun r.names r.flits))))

-- all packets have so many flits, 1 to 2147483647, which is said once
abbrev pub after_length : Reading → ℕ → Result Reading NetworkReason
after_length r flits =
    if count_of r == 0 then Err reason.ChannelsFirst
    else (if is_some r.flits then Err reason.LengthTwice
    else (if nat_le 1 flits && nat_le flits 2147483647
    then Ok (reading_with r.table r.replies r.begun r.names (Some flits))
    else Err reason.LengthLimits))

-- no name is given
abbrev pub unnamed : GivenNames
unnamed = record { router = false; link = false; name = false }

-- which names are given under a number
abbrev pub names_at : Reading → ℕ → GivenNames
names_at r x = slice_index_or r.names x unnamed

-- with room for the names under so many numbers, without one, if none was given
abbrev pub begun_names : ℕ → Reading → Reading
begun_names room r = if length r.names == 0
    then reading_with r.table r.replies r.begun (replicate room unnamed) r.flits
    else r

-- with these names under a number
abbrev pub with_names : Reading → ℕ → GivenNames → Reading
with_names r x n =
    let b = begun_names 65536 r in
    reading_with b.table b.replies b.begun (slice_set b.names x n) b.flits

-- a router is given once; its number is below 65536
abbrev pub after_router : Reading → ℕ → Result Reading NetworkReason
after_router r x =
    if count_of r == 0 then Err reason.ChannelsFirst
    else (if nat_le 65536 x then Err reason.RouterLimits
    else (if (names_at r x).router then Err reason.RouterTwice
    else Ok (with_names r x (record {
      router = true;
      link = (names_at r x).link;
      name = (names_at r x).name;
    }))))

-- the routers at the ends of a channel are given once, behind the routers
abbrev pub after_link : Reading → ℕ → ℕ → ℕ → Result Reading NetworkReason
after_link r x a b = unless (lacks r 1 x)
    (if not (names_at r a).router then Err (reason.NotRouter 2)
    else (if not (names_at r b).router then Err (reason.NotRouter 3)
    else (if (names_at r x).link then Err reason.LinkTwice
    else Ok (with_names r x (record {
      router = (names_at r x).router;
      link = true;
      name = (names_at r x).name;
    })))))

-- the name of a channel is given once
abbrev pub after_name : Reading → ℕ → Result Reading NetworkReason
after_name r x = unless (lacks r 1 x)
    (if (names_at r x).name then Err reason.NameTwice
    else Ok (with_names r x (record {
      router = (names_at r x).router;
      link = (names_at r x).link;
      name = true;
    })))

-- what a line of a keyword and these words makes of it; no line of escapes is one of fixed routes
abbrev pub after_keyword : Reading → Keyword → List (List ℕ) → Result Reading NetworkReason
after_keyword r key.Channels values = after_one key.Channels (after_channels r) values
after_keyword r key.Inject values = after_one key.Inject (after_inject r) values
after_keyword r key.Eject values = after_one key.Eject (after_eject r) values
after_keyword r key.Join values =
    after_join_words r.table.kinds (after_joins r) (after_join_all r) values
after_keyword r key.Next values = after_three key.Next (after_next r) values
after_keyword r key.Reply values = after_two key.Reply (after_reply r) values
after_keyword r key.Length values = after_one key.Length (after_length r) values
after_keyword r key.Router values = after_router_words (after_router r) values
after_keyword r key.Link values = after_link_words (after_link r) values
after_keyword r key.Name values = after_name_words (after_name r) values
after_keyword r key.Escape values = Err reason.UnknownKeyword

-- what a line makes of it whose first word may be a keyword
abbrev pub after_first : Reading → Option Keyword → List (List ℕ) → Result Reading NetworkReason
after_first r None values = Err reason.UnknownKeyword
after_first r (Some keyword) values = after_keyword r keyword values

-- what the words of a line make of it; a line without words and a comment are skipped
abbrev pub after_words : Reading → List (List ℕ) → Result Reading NetworkReason
after_words r [] = Ok r
after_words r (word ∷ values) =
    if begins_comment word then Ok r else after_first r (network_keyword_of word) values

-- a network: its tables, which packets are answered where, and how many flits each packet has, if that
-- is given
pub record NetworkSpec : Type 0 where
  pub table : Table
  pub replies : List Reply
  pub flits : Option ℕ

-- that of all lines; the number of channels must be given
abbrev pub network_with : Reading → Result NetworkSpec NetworkReason
network_with r =
    if count_of r == 0 then Err reason.ChannelsMissing
    else Ok (record { table = (begun r).table; replies = r.replies; flits = r.flits })

-- that network, or why it is refused, or out of memory
abbrev pub MakesNetwork :
    Result NetworkSpec NetworkReason → Result NetworkSpec NetworkReason → Type 0
MakesNetwork (Ok n) made = made ≡ Ok n
MakesNetwork (Err e) made = (e ≡ reason.Memory) ⊎ (made ≡ Err e)

-- the network of these lines, of which the first has this number, after what was read; or the
-- refusal of the first bad line. Where the number of channels is missing, the line after the last
-- is refused
abbrev pub network_from : Reading → ℕ → List (List ℕ) → Result NetworkSpec (Refusal NetworkReason)
network_from r number [] = then_lines number (network_with r) Ok
network_from r number (line ∷ lines) =
    then_lines number (after_words r (words_of line)) (λ next. network_from next (number + 1) lines)

-- the network of a text, given as the list of its lines, or where and why it is refused
abbrev pub network_or_why : List (List ℕ) → Result NetworkSpec (Refusal NetworkReason)
network_or_why lines = network_from nothing_read 1 lines

-- the network of a text, given as the list of its lines, or the fault and the line of its refusal
abbrev pub network_of : List (List ℕ) → Result NetworkSpec LineFault
network_of lines = by_fault network_fault_of (network_or_why lines)
