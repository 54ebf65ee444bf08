-- The first rule of good reports that a line breaks: the rules of each kind of lines in their order
-- (this project's own format).
use Rattle.std.specs.Prelude.{ℕ, ◌-◌, ◌%◌, ◌==◌, ◌&&◌, ◌||◌, not, if◌then◌else◌}
use Rattle.std.specs.Prelude.{List, [], ◌∷◌, Bool, true, false}
use Rattle.std.specs.Prelude.{Option, Some, None, is_some, nat_le, nat_lt, length, map, slice_index}
use Rattle.std.specs.Prelude.{slice_get}
use Rattle.std.specs.List.{list_any}
use Rattle.std.specs.Option.{option_or}
use Rattle.torus.specs.Shape.{product}
use Rattle.packet.specs.Memory.{reply_of_one}
use Rattle.report_lines.specs.Contents.{is_newer}
use Rattle.report_lines.specs.Line.{radix_list}
use Rattle.report_lines.specs.declared.line.Radices.{Radices}
use Rattle.report_lines.specs.declared.line.EntryLine.{EntryLine}
use Rattle.report_lines.specs.declared.line.AnswerLine.{AnswerLine}
use Rattle.report_lines.specs.declared.line.OrderLine.{OrderLine}
use Rattle.report_lines.specs.declared.line.ReportLine.{ReportLine}
use Rattle.report_lines.specs.declared.line.ReportLine.TheVariants as line
use Rattle.report_lines.specs.Reading.{report_line_at}
use Rattle.report_check.specs.Seen.{Seen, above_last, last_bank, entries_at, has_newer, is_answered}
use Rattle.report_check.specs.Seen.{key_of}
use Rattle.report_check.specs.Seen.{line_operation, orders_at, is_named}
use Rattle.report_check.specs.declared.rule.Kind.{Kind}
use Rattle.report_check.specs.declared.rule.Kind.TheVariants as kind
use Rattle.report_check.specs.declared.rule.Rule.{Rule}
use Rattle.report_check.specs.declared.rule.Rule.TheVariants as rule
use Rattle.report_check.specs.Lists.{same_reply, first_from}

-- whether a line ends in a text
abbrev pub has_line_feed : List ℕ → Bool
has_line_feed text = list_any (λ byte. byte == 10) text

-- whether two tests come out the same
abbrev pub is_same : Bool → Bool → Bool
is_same true b = b
is_same false b = not b

-- a rule that is broken unless a test holds
abbrev pub unless : Bool → Rule → Option Rule
unless true wrong = None
unless false wrong = Some wrong

infixl 10 ◌<|>◌
-- the first of two rules that may be broken
abbrev pub ◌<|>◌ : Option Rule → Option Rule → Option Rule
first <|> later = option_or first later

-- lines of this kind come before those of later kinds, and behind the first two lines
abbrev pub place_broken : ℕ → ℕ → Kind → Option Rule
place_broken section latest found =
    unless (not (section == 0)) rule.FirstLine
    <|> unless (not (section == 1)) rule.SecondLine
    <|> unless (not (section == 8)) rule.BehindEnd
    <|> unless (nat_le section latest) (rule.Place found)

-- the first line
abbrev pub header_broken : ℕ → ℕ → Option Rule
header_broken section version =
    unless (not (section == 1)) rule.SecondLine
    <|> unless (not (section == 8)) rule.BehindEnd
    <|> unless (section == 0) (rule.Place kind.Header)
    <|> unless ((version == 1) || (version == 2)) (rule.Version version)

-- the first of some radices that is none
abbrev pub radix_broken : List ℕ → Option Rule
radix_broken [] = None
radix_broken (k ∷ ks) = unless (nat_le 2 k && nat_le k 8) (rule.Radix k) <|> radix_broken ks

-- radices are within the limits, and there are at most 64 tiles
abbrev pub radices_broken : List ℕ → Option Rule
radices_broken radices =
    radix_broken radices <|> unless (nat_le (product radices) 64) (rule.Tiles (product radices))

-- the second line
abbrev pub shape_broken : ℕ → Radices → ℕ → Option Rule
shape_broken section radices words =
    unless (not (section == 0)) rule.FirstLine
    <|> unless (not (section == 8)) rule.BehindEnd
    <|> unless (section == 1) (rule.Place kind.Shape)
    <|> radices_broken (radix_list radices)
    <|> unless (nat_le 1 words && nat_le words 65536) (rule.Words words)

-- an address below the number of words, and its word: addresses rise from a least one, and no word
-- is 0
abbrev pub word_broken : ℕ → ℕ → ℕ → ℕ → Option Rule
word_broken words least address value =
    unless (nat_lt address words) (rule.Address address words)
    <|> unless (nat_le least address) (rule.AddressOrder address least)
    <|> unless (nat_lt 0 value) (rule.Zero address)

-- an `init` line
abbrev pub init_broken : Seen → ℕ → ℕ → Option Rule
init_broken s address value =
    place_broken s.section 3 kind.Init <|> word_broken s.words (above_last s.inits) address value

-- the entry is the next one of its bank, and banks do not fall
abbrev pub next_broken : Seen → EntryLine → Option Rule
next_broken s e =
    unless (nat_lt e.bank s.tiles) (rule.Bank e.bank s.tiles)
    <|> unless (nat_le (last_bank s.entries) e.bank) (rule.BankOrder e.bank (last_bank s.entries))
    <|> unless (e.place == length (entries_at s.entries e.bank))
    (rule.EntryPlace e.place (length (entries_at s.entries e.bank)))
    <|> unless (nat_lt e.source s.tiles) (rule.Source e.source s.tiles)
    <|> unless (nat_lt e.tag 16) (rule.Tag e.tag)
    <|> unless (nat_lt (length s.entries) 65536) rule.EntryCount

-- the address is at home in the entry's bank, and the version has the operation
abbrev pub home_broken : Seen → EntryLine → Option Rule
home_broken s e =
    unless (nat_lt e.address s.words) (rule.Address e.address s.words)
    <|> unless (e.address % s.tiles == e.bank) (rule.Home e.bank (e.address % s.tiles))
    <|> unless (not (is_newer e.op) || (s.version == 2)) rule.Newer

-- the reply is what the operation gives on the memory so far
abbrev pub reply_broken : Seen → EntryLine → Option Rule
reply_broken s e =
    unless (same_reply e.reply (reply_of_one (line_operation e) s.memory))
    (rule.Reply e.reply (reply_of_one (line_operation e) s.memory) e.address)

-- an `entry` line
abbrev pub entry_broken : Seen → EntryLine → Option Rule
entry_broken s e =
    place_broken s.section 4 kind.Entry
    <|> next_broken s e <|> home_broken s e <|> reply_broken s e

-- a line behind the entries: where the version is 2, one of them is one of the newer operations
abbrev pub behind_broken : Seen → ℕ → Kind → Option Rule
behind_broken s latest found =
    place_broken s.section latest found
    <|> unless (not (s.version == 2) || has_newer s.entries) rule.NoneNewer

-- the answer is that of an entry that has none yet
abbrev pub named_broken : Seen → AnswerLine → Option EntryLine → Option Rule
named_broken s a None = Some (rule.NoEntry a.bank a.place)
named_broken s a (Some e) =
    unless (e.source == a.processor) (rule.Processor a.processor e.source)
    <|> unless (same_reply e.reply a.reply) (rule.AnswerReply a.reply e.reply)
    <|> unless (not (is_answered s.answers a.bank a.place)) (rule.AnsweredTwice a.bank a.place)

-- an `answer` line
abbrev pub answer_broken : Seen → AnswerLine → Option Rule
answer_broken s a =
    behind_broken s 5 kind.Answer
    <|> unless (nat_lt a.index 4096) (rule.Index a.index)
    <|> unless (nat_le (above_last (map key_of s.answers)) (key_of a))
    (rule.AnswerOrder a.processor a.index)
    <|> named_broken s a (slice_get (entries_at s.entries a.bank) a.place)

-- an address whose word is not 0, and has no line
abbrev pub word_left : List ℕ → ℕ → Option Rule
word_left memory address =
    unless (slice_index memory address == 0) (rule.LeftOut address (slice_index memory address))

-- the first address from a least one on, below an end, whose word is not 0
abbrev pub left_out : List ℕ → ℕ → ℕ → Option Rule
left_out memory least end = first_from (word_left memory) least (end - least)

-- the first address behind the last one given, below an end, whose word is not 0
abbrev pub left_untold : Seen → ℕ → Option Rule
left_untold s end = left_out s.memory (above_last s.told) end

-- the word of an address is the one that is told
abbrev pub other_word : List ℕ → ℕ → ℕ → Option Rule
other_word memory address value =
    unless (slice_index memory address == value) (rule.Word value (slice_index memory address))

-- a `word` line
abbrev pub told_broken : Seen → ℕ → ℕ → Option Rule
told_broken s address value =
    behind_broken s 6 kind.Word
    <|> word_broken s.words (above_last s.told) address value
    <|> left_untold s address
    <|> other_word s.memory address value

-- an entry is answered behind its service, if it is
abbrev pub answer_untimely : ℕ → Option ℕ → Option Rule
answer_untimely served None = None
answer_untimely served (Some n) = unless (nat_lt served n) (rule.AnsweredFirst n served)

-- an event number that no order line has named
abbrev pub event_broken : Seen → ℕ → Option Rule
event_broken s n =
    unless (nat_le 1 n && nat_le n 196608) (rule.Event n)
    <|> unless (not (is_named s.orders n)) (rule.EventTwice n)

-- the number of an answer, if there is one
abbrev pub answer_event_broken : Seen → Option ℕ → Option Rule
answer_event_broken s None = None
answer_event_broken s (Some n) = event_broken s n

-- the line is that of the next entry of its bank, and says whether that has an answer
abbrev pub turn_broken : Seen → OrderLine → Option EntryLine → Option Rule
turn_broken s o None = Some (rule.NoEntry o.bank o.place)
turn_broken s o (Some e) =
    unless (o.place == length (orders_at s.orders o.bank))
    (rule.OrderPlace o.place (length (orders_at s.orders o.bank)))
    <|> unless (is_same (is_some o.answered) (is_answered s.answers o.bank o.place))
    (rule.Answered (is_some o.answered))

-- an entry is issued, then served, then answered; the numbers of service rise; no number is told
-- twice
abbrev pub events_broken : Seen → OrderLine → Option Rule
events_broken s o =
    unless (nat_lt o.issued o.served) (rule.ServedFirst o.served o.issued)
    <|> answer_untimely o.served o.answered
    <|> unless (nat_le (above_last (map (λ x. x.served) s.orders)) o.served)
    (rule.ServiceOrder o.served (above_last (map (λ x. x.served) s.orders)))
    <|> event_broken s o.issued
    <|> event_broken s o.served
    <|> answer_event_broken s o.answered

-- an `order` line: every word has its line
abbrev pub order_broken : Seen → OrderLine → Option Rule
order_broken s o =
    behind_broken s 7 kind.Order <|> left_untold s s.words
    <|> turn_broken s o (slice_get (entries_at s.entries o.bank) o.place) <|> events_broken s o

-- a bank that has another number of order lines than of entries
abbrev pub bank_unordered : Seen → ℕ → Option Rule
bank_unordered s bank =
    unless (length (orders_at s.orders bank) == length (entries_at s.entries bank))
    (rule.Unordered bank (length (orders_at s.orders bank)) (length (entries_at s.entries bank)))

-- the first such bank
abbrev pub unordered : Seen → Option Rule
unordered s = first_from (bank_unordered s) 0 s.tiles

-- there is no order line, or one for each entry
abbrev pub orders_broken : Seen → Option Rule
orders_broken s = if length s.orders == 0 then None else unordered s

-- an entry that has no answer
abbrev pub place_unanswered : Seen → ℕ → ℕ → Option Rule
place_unanswered s bank place =
    unless (is_answered s.answers bank place) (rule.Unanswered bank place)

-- the first such entry of a bank
abbrev pub unanswered_at : Seen → ℕ → Option Rule
unanswered_at s bank =
    first_from (place_unanswered s bank) 0 (length (entries_at s.entries bank))

-- the first entry that has no answer, where each must have one
abbrev pub first_unanswered : Seen → Bool → Option Rule
first_unanswered s false = None
first_unanswered s true = first_from (unanswered_at s) 0 s.tiles

-- the last line: every word is told, the order is whole, and behind `end complete` each entry has
-- an answer
abbrev pub end_broken : Seen → Bool → Option Rule
end_broken s complete =
    behind_broken s 7 kind.End <|> left_untold s s.words <|> orders_broken s
    <|> first_unanswered s complete

-- the first rule that a line breaks behind what was seen
abbrev pub line_broken : Seen → ReportLine → Option Rule
line_broken s (line.Header version) = header_broken s.section version
line_broken s (line.Shape radices words) = shape_broken s.section radices words
line_broken s (line.Init address value) = init_broken s address value
line_broken s (line.Entry e) = entry_broken s e
line_broken s (line.Answer a) = answer_broken s a
line_broken s (line.Word address value) = told_broken s address value
line_broken s (line.Order o) = order_broken s o
line_broken s (line.End complete) = end_broken s complete

-- what begins with no line of a report
abbrev pub misspelled : ℕ → List ℕ → Rule
misspelled section rest =
    if section == 0 then rule.FirstLine
    else (if section == 1 then rule.SecondLine
    else (if has_line_feed rest then rule.Spelling
    else rule.NoLineFeed))

-- where no line is read: none at the end of a text, behind the line of the end
abbrev pub unread_broken : ℕ → List ℕ → Option Rule
unread_broken section rest =
    if section == 8 then (if length rest == 0 then None else Some rule.BehindEnd)
    else (if length rest == 0 then Some rule.NoEnd
    else Some (misspelled section rest))

-- the first rule that the line breaks that was read, or what is broken where none was
abbrev pub read_broken : Seen → List ℕ → Option (ReportLine × List ℕ) → Option Rule
read_broken s rest None = unread_broken s.section rest
read_broken s rest (Some read) = line_broken s read.0

-- the first rule that what is left of a text breaks
abbrev pub broken : Seen → List ℕ → Option Rule
broken s rest = read_broken s rest (report_line_at rest)
