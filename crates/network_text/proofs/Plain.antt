-- Lines that give no names go as with other names.
use Rattle.std.proofs.Common.{◌≡◌, ℕ, Bool, true, false, List, [], ◌∷◌, ◌++◌, refl, ◌∙◌, ap}
use Rattle.std.specs.Prelude.{Result, Ok, Err, Option, Some, None, is_some, if◌then◌else◌, not, replicate, slice_get, slice_set, slice_index_or, slice_index, nat_le, nat_lt, ◌+◌, ◌*◌, length, ◌==◌, ◌&&◌, codes}
use Rattle.lexer.specs.Words.{begins_comment}
use Rattle.lexer.specs.Outcome.{◌>>=◌}
use Rattle.network_judge.specs.declared.table.Kind.TheVariants.{Injection, Hop, Ejection}
use Rattle.network_judge.specs.Table.{table_of, is_sender, is_receiver}
use Rattle.network_text.specs.declared.reading.GivenNames.{GivenNames}
use Rattle.network_text.specs.declared.reason.Keyword.{Keyword}
use Rattle.network_text.specs.declared.reason.Keyword.TheVariants as key
use Rattle.network_text.specs.declared.reason.NetworkReason.{NetworkReason}
use Rattle.network_text.specs.declared.reason.NetworkReason.TheVariants as reason
use Rattle.network_text.specs.Reasons.{network_keyword_of}
use Rattle.network_text.specs.Shapes.{unless, after_one, after_two, after_three, number_at}
use Rattle.network_judge.specs.declared.table.Kind.{Kind}
use Rattle.network_text.specs.declared.all_pairs.End.TheVariants.{Sender, Receiver}
use Rattle.network_text.specs.declared.ranges.ChannelRange.{ChannelRange}
use Rattle.network_text.specs.Ranges.{channels_of, listed_at, lacks_any, after_join_words}
use Rattle.network_text.specs.AllPairs.{every_join, all_joins, pairs_in}
use Rattle.std.specs.Str.{bytes_eq}
use Rattle.network_text.specs.Network.{Reading, reading_with, lacks, is_hop, with_kind, count_of, begun, started, cell_of, has_reply}
use Rattle.network_text.specs.Network.{after_channels, after_inject, after_eject, after_joins, after_join_all, after_choice, after_next, after_reply, after_length}
use Rattle.network_text.specs.Network.{after_first, after_words}
use Rattle.network_text.specs.Names.{is_naming, words_name}

abbrev pub Read : Type 0
Read = Result Reading NetworkReason

-- with other names
abbrev pub forget : List GivenNames → Reading → Reading
forget s r = reading_with r.table r.replies r.begun s r.flits

abbrev pub mapped : List GivenNames → Read → Read
mapped s (Ok r) = Ok (forget s r)
mapped s (Err e) = Err e

-- it goes with tests and steps
if_mapped : (s : List GivenNames) (b : Bool) (x y : Read) → (if b then mapped s x else mapped s y) ≡ mapped s (if b then x else y)
if_mapped s true x y = refl
if_mapped s false x y = refl

unless_mapped : (s : List GivenNames) (o : Option NetworkReason) (m n : Read) → n ≡ mapped s m → unless o n ≡ mapped s (unless o m)
unless_mapped s None m n is = is
unless_mapped s (Some e) m n is = refl

bind_mapped : {A : Type 0} (s : List GivenNames) (m : Result A NetworkReason) (f h : A → Read) → ((x : A) → h x ≡ mapped s (f x))
    → (m >>= h) ≡ mapped s (m >>= f)
bind_mapped s (Ok x) f h each = each x
bind_mapped s (Err e) f h each = refl

one_mapped : (s : List GivenNames) (k : Keyword) (f h : ℕ → Read) (ws : List (List ℕ)) → ((x : ℕ) → h x ≡ mapped s (f x))
    → after_one k h ws ≡ mapped s (after_one k f ws)
one_mapped s k f h [] each = refl
one_mapped s k f h (a ∷ []) each = bind_mapped s (number_at 1 a) f h each
one_mapped s k f h (a ∷ b ∷ more) each = refl

two_mapped : (s : List GivenNames) (k : Keyword) (f h : ℕ → ℕ → Read) (ws : List (List ℕ)) → ((x y : ℕ) → h x y ≡ mapped s (f x y))
    → after_two k h ws ≡ mapped s (after_two k f ws)
two_mapped s k f h [] each = refl
two_mapped s k f h (a ∷ []) each = refl
two_mapped s k f h (a ∷ b ∷ []) each =
    bind_mapped s (number_at 1 a) (λ x. number_at 2 b >>= f x) (λ x. number_at 2 b >>= h x)
    (λ x. bind_mapped s (number_at 2 b) (f x) (h x) (each x))
two_mapped s k f h (a ∷ b ∷ c ∷ more) each = refl

three_mapped : (s : List GivenNames) (k : Keyword) (f h : ℕ → ℕ → ℕ → Read) (ws : List (List ℕ)) → ((x y z : ℕ) → h x y z ≡ mapped s (f x y z))
    → after_three k h ws ≡ mapped s (after_three k f ws)
three_mapped s k f h [] each = refl
three_mapped s k f h (a ∷ []) each = refl
three_mapped s k f h (a ∷ b ∷ []) each = refl
three_mapped s k f h (a ∷ b ∷ c ∷ []) each =
    bind_mapped s (number_at 1 a) (λ x. number_at 2 b >>= λ y. number_at 3 c >>= f x y) (λ x. number_at 2 b >>= λ y. number_at 3 c >>= h x y)
    (λ x. bind_mapped s (number_at 2 b) (λ y. number_at 3 c >>= f x y) (λ y. number_at 3 c >>= h x y)
    (λ y. bind_mapped s (number_at 3 c) (f x y) (h x y) (each x y)))
three_mapped s k f h (a ∷ b ∷ c ∷ d ∷ more) each = refl

-- what each line gives
channels_mapped : (s : List GivenNames) (r : Reading) (x : ℕ) → after_channels (forget s r) x ≡ mapped s (after_channels r x)
channels_mapped s r x =
    ap (λ (o : Read). if not (count_of r == 0) then Err reason.ChannelsTwice else o) (if_mapped s (nat_le 1 x && nat_le x 65536)
    (Ok (reading_with (table_of (replicate x Hop) r.table.joins r.table.choices) r.replies r.begun r.names r.flits)) (Err reason.ChannelsLimits))
    ∙ if_mapped s (not (count_of r == 0)) (Err reason.ChannelsTwice)
    (if nat_le 1 x && nat_le x 65536
    then Ok (reading_with (table_of (replicate x Hop) r.table.joins r.table.choices) r.replies r.begun r.names r.flits)
    else Err reason.ChannelsLimits)

inject_mapped : (s : List GivenNames) (r : Reading) (x : ℕ) → after_inject (forget s r) x ≡ mapped s (after_inject r x)
inject_mapped s r x =
    unless_mapped s (lacks r 1 x) _ _ (if_mapped s (not (is_hop (slice_index_or r.table.kinds x Hop))) (Err reason.KindTwice) (Ok (with_kind r x Injection)))

four_mapped : (s : List GivenNames) (b c d : Bool) (x y z w : Read)
    → (if b then mapped s x else (if c then mapped s y else (if d then mapped s z else mapped s w))) ≡ mapped s (if b then x else (if c then y else (if d then z else w)))
four_mapped s true c d x y z w = refl
four_mapped s false true d x y z w = refl
four_mapped s false false true x y z w = refl
four_mapped s false false false x y z w = refl

eject_mapped : (s : List GivenNames) (r : Reading) (x : ℕ) → after_eject (forget s r) x ≡ mapped s (after_eject r x)
eject_mapped s r x =
    unless_mapped s (lacks r 1 x) _ _
    (four_mapped s r.begun (not (is_hop (slice_index_or r.table.kinds x Hop))) _ (Err reason.EjectionLate) (Err reason.KindTwice) (Err reason.EjectionsLimits) (Ok (with_kind r x Ejection)))

three_tests_mapped : (s : List GivenNames) (b c : Bool) (x y z : Read)
    → (if b then mapped s x else (if c then mapped s y else mapped s z)) ≡ mapped s (if b then x else (if c then y else z))
three_tests_mapped s true c x y z = refl
three_tests_mapped s false true x y z = refl
three_tests_mapped s false false x y z = refl

joins_mapped : (s : List GivenNames) (r : Reading) (is js : List ChannelRange) → after_joins (forget s r) is js ≡ mapped s (after_joins r is js)
joins_mapped s r is js = unless_mapped s (lacks_any (count_of r) 1 is) _ _ (unless_mapped s (lacks_any (count_of r) 2 js) _ _
    (if_mapped s (nat_le (length r.table.joins + length (channels_of is) * length (channels_of js)) 4194304)
    (Ok (reading_with (table_of r.table.kinds (r.table.joins ++ every_join (channels_of is) (channels_of js)) r.table.choices)
    r.replies r.begun r.names r.flits)) (Err reason.JoinsLimits)))

join_all_mapped : (s : List GivenNames) (r : Reading) → after_join_all (forget s r) ≡ mapped s (after_join_all r)
join_all_mapped s r =
    three_tests_mapped s (count_of r == 0) (nat_lt 4194304 (length r.table.joins + pairs_in r.table.kinds))
    (Err reason.ChannelsFirst) (Err reason.AllJoinsLimits)
    (Ok (reading_with (table_of r.table.kinds (r.table.joins ++ all_joins r.table.kinds) r.table.choices) r.replies r.begun r.names r.flits))

join_words_mapped : (s : List GivenNames) (kinds : List Kind) (f h : List ChannelRange → List ChannelRange → Read) (a b : Read) (ws : List (List ℕ))
    → ((is js : List ChannelRange) → h is js ≡ mapped s (f is js)) → b ≡ mapped s a
    → after_join_words kinds h b ws ≡ mapped s (after_join_words kinds f a ws)
join_words_mapped s kinds f h a b [] each every = refl
join_words_mapped s kinds f h a b (w ∷ []) each every =
    ap (λ (o : Read). if bytes_eq w (codes "all") then o else Err (reason.NumberCount key.Join)) every
    ∙ if_mapped s (bytes_eq w (codes "all")) a (Err (reason.NumberCount key.Join))
join_words_mapped s kinds f h a b (v ∷ w ∷ []) each every =
    bind_mapped s (listed_at kinds Sender 1 v) (λ is. listed_at kinds Receiver 2 w >>= f is) (λ is. listed_at kinds Receiver 2 w >>= h is)
    (λ is. bind_mapped s (listed_at kinds Receiver 2 w) (f is) (h is) (each is))
join_words_mapped s kinds f h a b (v ∷ w ∷ u ∷ more) each every = refl

begun_by : (s : List GivenNames) (r : Reading) (b : Bool) → (if b then forget s r else started (forget s r)) ≡ forget s (if b then r else started r)
begun_by s r true = refl
begun_by s r false = refl

pub begun_mapped : (s : List GivenNames) (r : Reading) → begun (forget s r) ≡ forget s (begun r)
begun_mapped s r = begun_by s r r.begun

choice_mapped : (s : List GivenNames) (r : Reading) (cell y : ℕ) → after_choice (forget s r) cell y ≡ mapped s (after_choice r cell y)
choice_mapped s r cell y =
    if_mapped s (not (slice_index r.table.choices cell == count_of r)) (Err reason.ChoiceTwice)
    (Ok (reading_with (table_of r.table.kinds r.table.joins (slice_set r.table.choices cell y)) r.replies r.begun r.names r.flits))

next_mapped : (s : List GivenNames) (r : Reading) (x j y : ℕ) → after_next (forget s r) x j y ≡ mapped s (after_next r x j y)
next_mapped s r x j y =
    unless_mapped s (lacks r 1 x) _ _ (unless_mapped s (lacks r 2 j) _ _
    (ap (λ (o : Read). if not (is_receiver (slice_get r.table.kinds j)) then Err (reason.NotEjection 2) else o)
    (unless_mapped s (lacks r 3 y) _ _
    (ap (λ q. after_choice q (cell_of r x j) y) (begun_mapped s r) ∙ choice_mapped s (begun r) (cell_of r x j) y))
    ∙ if_mapped s (not (is_receiver (slice_get r.table.kinds j))) (Err (reason.NotEjection 2))
    (unless (lacks r 3 y) (after_choice (begun r) (cell_of r x j) y))))

reply_mapped : (s : List GivenNames) (r : Reading) (x y : ℕ) → after_reply (forget s r) x y ≡ mapped s (after_reply r x y)
reply_mapped s r x y =
    let made : Read = Ok (reading_with r.table (r.replies ++ record { from = x; to = y } ∷ []) r.begun r.names r.flits) in
    let fresh : Read = if has_reply r.replies x y then Err reason.ReplyTwice else made in
    let sends : Read = if not (is_sender (slice_get r.table.kinds y)) then Err (reason.NotInjection 2) else fresh in
    unless_mapped s (lacks r 1 x) _ _
    (ap (λ (o : Read). if not (is_receiver (slice_get r.table.kinds x)) then Err (reason.NotEjection 1) else o)
    (unless_mapped s (lacks r 2 y) sends _
    (ap (λ (o : Read). if not (is_sender (slice_get r.table.kinds y)) then Err (reason.NotInjection 2) else o)
    (if_mapped s (has_reply r.replies x y) (Err reason.ReplyTwice) made)
    ∙ if_mapped s (not (is_sender (slice_get r.table.kinds y))) (Err (reason.NotInjection 2)) fresh))
    ∙ if_mapped s (not (is_receiver (slice_get r.table.kinds x))) (Err (reason.NotEjection 1)) (unless (lacks r 2 y) sends))

length_mapped : (s : List GivenNames) (r : Reading) (n : ℕ) → after_length (forget s r) n ≡ mapped s (after_length r n)
length_mapped s r n =
    four_mapped s (count_of r == 0) (is_some r.flits) (nat_le 1 n && nat_le n 2147483647) (Err reason.ChannelsFirst) (Err reason.LengthTwice)
    (Ok (reading_with r.table r.replies r.begun r.names (Some n))) (Err reason.LengthLimits)

-- a line without names goes as with them
pub record Goes (s : List GivenNames) (o : Read) (next : Reading) : Type 0 where
  pub names : List GivenNames
  pub made : o ≡ Ok (forget names next)

goes_by : (s : List GivenNames) (r next : Reading) (b : Bool) (k : Option Keyword) (ws : List (List ℕ)) → is_naming k ≡ false
    → (if b then Ok r else after_first r k ws) ≡ Ok next → Goes s (if b then Ok (forget s r) else after_first (forget s r) k ws) next
goes_by s r next true k ws plain made = record { names = s; made = ap (mapped s) made }
goes_by s r next false None ws plain made = absurd (cc)
goes_by s r next false (Some key.Channels) ws plain made =
    record { names = s; made = one_mapped s key.Channels (after_channels r) (after_channels (forget s r)) ws (channels_mapped s r) ∙ ap (mapped s) made }
goes_by s r next false (Some key.Inject) ws plain made =
    record { names = s; made = one_mapped s key.Inject (after_inject r) (after_inject (forget s r)) ws (inject_mapped s r) ∙ ap (mapped s) made }
goes_by s r next false (Some key.Eject) ws plain made =
    record { names = s; made = one_mapped s key.Eject (after_eject r) (after_eject (forget s r)) ws (eject_mapped s r) ∙ ap (mapped s) made }
goes_by s r next false (Some key.Join) ws plain made =
    record {
      names = s;
      made = join_words_mapped s r.table.kinds (after_joins r) (after_joins (forget s r)) (after_join_all r) (after_join_all (forget s r)) ws
          (joins_mapped s r) (join_all_mapped s r)
          ∙ ap (mapped s) made;
    }
goes_by s r next false (Some key.Next) ws plain made =
    record { names = s; made = three_mapped s key.Next (after_next r) (after_next (forget s r)) ws (next_mapped s r) ∙ ap (mapped s) made }
goes_by s r next false (Some key.Reply) ws plain made =
    record { names = s; made = two_mapped s key.Reply (after_reply r) (after_reply (forget s r)) ws (reply_mapped s r) ∙ ap (mapped s) made }
goes_by s r next false (Some key.Length) ws plain made =
    record { names = s; made = one_mapped s key.Length (after_length r) (after_length (forget s r)) ws (length_mapped s r) ∙ ap (mapped s) made }
goes_by s r next false (Some key.Router) ws plain made = absurd (cc)
goes_by s r next false (Some key.Link) ws plain made = absurd (cc)
goes_by s r next false (Some key.Name) ws plain made = absurd (cc)
goes_by s r next false (Some key.Escape) ws plain made = absurd (cc)

pub goes : (s : List GivenNames) (r next : Reading) (ws : List (List ℕ)) → words_name ws ≡ false → after_words r ws ≡ Ok next
    → Goes s (after_words (forget s r) ws) next
goes s r next [] plain made = record { names = s; made = ap (mapped s) made }
goes s r next (w ∷ ws) plain made = goes_by s r next (begins_comment w) (network_keyword_of w) ws plain made
