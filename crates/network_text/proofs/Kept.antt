-- Once choices are given, a line of a text of fixed routes keeps their number.
use Rattle.std.proofs.Common.{◌≡◌, ℕ, ◌+◌, Bool, true, false, List, [], ◌∷◌, length, refl, ◌∙◌, ap, subst}
use Rattle.std.specs.Prelude.{Result, Ok, Err, Option, Some, None, is_some, if◌then◌else◌, not, replicate, nat_le, nat_lt, ◌==◌, ◌&&◌, ◌*◌, ◌^◌, slice_get, slice_index, slice_index_or, codes}
use Rattle.std.proofs.lemmas.List.{length-set}
use Rattle.lexer.specs.Words.{begins_comment}
use Rattle.lexer.specs.Outcome.{◌>>=◌}
use Rattle.network_judge.specs.declared.table.Kind.TheVariants.{Hop}
use Rattle.network_judge.specs.Table.{columns_of, is_sender, is_receiver}
use Rattle.network_text.specs.declared.reading.GivenNames.{GivenNames}
use Rattle.network_text.specs.declared.reason.Keyword.{Keyword}
use Rattle.network_text.specs.declared.reason.Keyword.TheVariants as key
use Rattle.network_text.specs.declared.reason.NetworkReason.{NetworkReason}
use Rattle.network_text.specs.Reasons.{network_keyword_of}
use Rattle.network_text.specs.Shapes.{unless, number_at, after_one, after_two, after_three, after_router_words, after_link_words, after_name_words}
use Rattle.network_text.specs.AllPairs.{pairs_in}
use Rattle.network_judge.specs.declared.table.Kind.{Kind}
use Rattle.network_text.specs.declared.all_pairs.End.TheVariants.{Sender, Receiver}
use Rattle.network_text.specs.declared.ranges.ChannelRange.{ChannelRange}
use Rattle.network_text.specs.Ranges.{channels_of, listed_at, lacks_any, after_join_words}
use Rattle.std.specs.Str.{bytes_eq}
use Rattle.network_text.specs.Network.{Reading, reading_with, lacks, count_of, is_hop, has_reply, begun, started, cell_of, unnamed, names_at, with_names}
use Rattle.network_text.specs.Network.{after_channels, after_inject, after_eject, after_joins, after_join_all, after_choice, after_next, after_reply, after_length}
use Rattle.network_text.specs.Network.{after_router, after_link, after_name, after_first, after_words}

abbrev Read : Type 0
Read = Result Reading NetworkReason

-- what is made has as many choices
abbrev pub Same : Reading → Reading → Type 0
Same r q = (q.begun ≡ true) × (length q.table.choices ≡ length r.table.choices)

abbrev pub Keeps : Reading → Read → Type 0
Keeps r made = (q : Reading) → made ≡ Ok q → Same r q

abbrev got : Reading → Read → Reading
got r (Ok q) = q
got r (Err e) = r

keeps_ok : (r p : Reading) → Same r p → Keeps r (Ok p)
keeps_ok r p same = λ q made. subst (Same r) (ap (got r) made) same

keeps_err : (r : Reading) (e : NetworkReason) → Keeps r (Err e)
keeps_err r e = λ q made. absurd (cc)

keeps_if : (r : Reading) (b : Bool) (x y : Read) → Keeps r x → Keeps r y → Keeps r (if b then x else y)
keeps_if r true x y a b = a
keeps_if r false x y a b = b

keeps_unless : (r : Reading) (o : Option NetworkReason) (x : Read) → Keeps r x → Keeps r (unless o x)
keeps_unless r None x a = a
keeps_unless r (Some e) x a = keeps_err r e

keeps_bind : {A : Type 0} (r : Reading) (m : Result A NetworkReason) (f : A → Read) → ((x : A) → Keeps r (f x)) → Keeps r (m >>= f)
keeps_bind r (Ok x) f a = a x
keeps_bind r (Err e) f a = keeps_err r e

one_keeps : (r : Reading) (k : Keyword) (f : ℕ → Read) (ws : List (List ℕ)) → ((x : ℕ) → Keeps r (f x)) → Keeps r (after_one k f ws)
one_keeps r k f [] each = keeps_err r _
one_keeps r k f (a ∷ []) each = keeps_bind r (number_at 1 a) f each
one_keeps r k f (a ∷ b ∷ more) each = keeps_err r _

two_keeps : (r : Reading) (k : Keyword) (f : ℕ → ℕ → Read) (ws : List (List ℕ)) → ((x y : ℕ) → Keeps r (f x y)) → Keeps r (after_two k f ws)
two_keeps r k f [] each = keeps_err r _
two_keeps r k f (a ∷ []) each = keeps_err r _
two_keeps r k f (a ∷ b ∷ []) each = keeps_bind r (number_at 1 a) _ (λ x. keeps_bind r (number_at 2 b) _ (each x))
two_keeps r k f (a ∷ b ∷ c ∷ more) each = keeps_err r _

three_keeps : (r : Reading) (k : Keyword) (f : ℕ → ℕ → ℕ → Read) (ws : List (List ℕ)) → ((x y z : ℕ) → Keeps r (f x y z)) → Keeps r (after_three k f ws)
three_keeps r k f [] each = keeps_err r _
three_keeps r k f (a ∷ []) each = keeps_err r _
three_keeps r k f (a ∷ b ∷ []) each = keeps_err r _
three_keeps r k f (a ∷ b ∷ c ∷ []) each =
    keeps_bind r (number_at 1 a) _ (λ x. keeps_bind r (number_at 2 b) _ (λ y. keeps_bind r (number_at 3 c) _ (each x y)))
three_keeps r k f (a ∷ b ∷ c ∷ d ∷ more) each = keeps_err r _

router_words_keep : (r : Reading) (f : ℕ → Read) (ws : List (List ℕ)) → ((x : ℕ) → Keeps r (f x)) → Keeps r (after_router_words f ws)
router_words_keep r f [] each = keeps_err r _
router_words_keep r f (a ∷ []) each = keeps_err r _
router_words_keep r f (a ∷ b ∷ []) each = keeps_bind r (number_at 1 a) _ (λ x. keeps_if r _ _ _ (each x) (keeps_err r _))
router_words_keep r f (a ∷ b ∷ c ∷ []) each = keeps_err r _
router_words_keep r f (a ∷ b ∷ c ∷ d ∷ []) each =
    keeps_bind r (number_at 1 a) _ (λ x. keeps_bind r (number_at 3 c) _ (λ _. keeps_bind r (number_at 4 d) _
    (λ _. keeps_if r _ _ _ (each x) (keeps_err r _))))
router_words_keep r f (a ∷ b ∷ c ∷ d ∷ e ∷ more) each = keeps_err r _

link_words_keep : (r : Reading) (f : ℕ → ℕ → ℕ → Read) (ws : List (List ℕ)) → ((x y z : ℕ) → Keeps r (f x y z)) → Keeps r (after_link_words f ws)
link_words_keep r f [] each = keeps_err r _
link_words_keep r f (a ∷ []) each = keeps_err r _
link_words_keep r f (a ∷ b ∷ []) each = keeps_err r _
link_words_keep r f (a ∷ b ∷ c ∷ []) each =
    keeps_bind r (number_at 1 a) _ (λ x. keeps_bind r (number_at 2 b) _ (λ y. keeps_bind r (number_at 3 c) _ (each x y)))
link_words_keep r f (a ∷ b ∷ c ∷ d ∷ []) each =
    keeps_bind r (number_at 1 a) _ (λ x. keeps_bind r (number_at 2 b) _ (λ y. keeps_bind r (number_at 3 c) _
    (λ z. keeps_bind r (number_at 4 d) _ (λ _. each x y z))))
link_words_keep r f (a ∷ b ∷ c ∷ d ∷ e ∷ more) each = keeps_err r _

name_words_keep : (r : Reading) (f : ℕ → Read) (ws : List (List ℕ)) → ((x : ℕ) → Keeps r (f x)) → Keeps r (after_name_words f ws)
name_words_keep r f [] each = keeps_err r _
name_words_keep r f (a ∷ ws) each =
    keeps_if r _ _ _ (keeps_bind r (number_at 1 a) _ (λ x. keeps_if r _ _ _ (each x) (keeps_err r _))) (keeps_err r _)

named_by : (r : Reading) (b : Bool) → r.begun ≡ true
    → Same r (if b then reading_with r.table r.replies r.begun (replicate 65536 unnamed) r.flits else r)
named_by r true given = (given, refl)
named_by r false given = (given, refl)

with_keeps : (r : Reading) (x : ℕ) (n : GivenNames) → r.begun ≡ true → Keeps r (Ok (with_names r x n))
with_keeps r x n given = keeps_ok r (with_names r x n) (named_by r (length r.names == 0) given)

router_keeps : (r : Reading) (x : ℕ) → r.begun ≡ true → Keeps r (after_router r x)
router_keeps r x given =
    keeps_if r (count_of r == 0) _ _ (keeps_err r _) (keeps_if r (nat_le 65536 x) _ _ (keeps_err r _)
    (keeps_if r (names_at r x).router _ _ (keeps_err r _) (with_keeps r x _ given)))

link_keeps : (r : Reading) (x a b : ℕ) → r.begun ≡ true → Keeps r (after_link r x a b)
link_keeps r x a b given =
    keeps_unless r (lacks r 1 x) _ (keeps_if r (not (names_at r a).router) _ _ (keeps_err r _)
    (keeps_if r (not (names_at r b).router) _ _ (keeps_err r _)
    (keeps_if r (names_at r x).link _ _ (keeps_err r _) (with_keeps r x _ given))))

name_keeps : (r : Reading) (x : ℕ) → r.begun ≡ true → Keeps r (after_name r x)
name_keeps r x given = keeps_unless r (lacks r 1 x) _ (keeps_if r (names_at r x).name _ _ (keeps_err r _) (with_keeps r x _ given))

channels_keeps : (r : Reading) (n : ℕ) → r.begun ≡ true → Keeps r (after_channels r n)
channels_keeps r n given =
    keeps_if r (not (count_of r == 0)) _ _ (keeps_err r _)
    (keeps_if r (nat_le 1 n && nat_le n 65536) _ _ (keeps_ok r _ (given, refl)) (keeps_err r _))

inject_keeps : (r : Reading) (x : ℕ) → r.begun ≡ true → Keeps r (after_inject r x)
inject_keeps r x given =
    keeps_unless r (lacks r 1 x) _ (keeps_if r (not (is_hop (slice_index_or r.table.kinds x Hop))) _ _ (keeps_err r _) (keeps_ok r _ (given, refl)))

eject_keeps : (r : Reading) (x : ℕ) → r.begun ≡ true → Keeps r (after_eject r x)
eject_keeps r x given =
    keeps_unless r (lacks r 1 x) _ (keeps_if r r.begun _ _ (keeps_err r _)
    (keeps_if r (not (is_hop (slice_index_or r.table.kinds x Hop))) _ _ (keeps_err r _)
    (keeps_if r (nat_lt (2 ^ 27) (count_of r * (columns_of r.table + 1))) _ _ (keeps_err r _) (keeps_ok r _ (given, refl)))))

joins_keep : (r : Reading) (is js : List ChannelRange) → r.begun ≡ true → Keeps r (after_joins r is js)
joins_keep r is js given =
    keeps_unless r (lacks_any (count_of r) 1 is) _ (keeps_unless r (lacks_any (count_of r) 2 js) _
    (keeps_if r (nat_le (length r.table.joins + length (channels_of is) * length (channels_of js)) 4194304) _ _ (keeps_ok r _ (given, refl)) (keeps_err r _)))

join_all_keeps : (r : Reading) → r.begun ≡ true → Keeps r (after_join_all r)
join_all_keeps r given =
    keeps_if r (count_of r == 0) _ _ (keeps_err r _)
    (keeps_if r (nat_lt 4194304 (length r.table.joins + pairs_in r.table.kinds)) _ _ (keeps_err r _) (keeps_ok r _ (given, refl)))

join_words_keep : (r : Reading) (kinds : List Kind) (f : List ChannelRange → List ChannelRange → Read) (all : Read) (ws : List (List ℕ))
    → ((is js : List ChannelRange) → Keeps r (f is js)) → Keeps r all → Keeps r (after_join_words kinds f all ws)
join_words_keep r kinds f all [] each every = keeps_err r _
join_words_keep r kinds f all (a ∷ []) each every = keeps_if r (bytes_eq a (codes "all")) _ _ every (keeps_err r _)
join_words_keep r kinds f all (a ∷ b ∷ []) each every =
    keeps_bind r (listed_at kinds Sender 1 a) _ (λ is. keeps_bind r (listed_at kinds Receiver 2 b) _ (each is))
join_words_keep r kinds f all (a ∷ b ∷ c ∷ more) each every = keeps_err r _

reply_keeps : (r : Reading) (x y : ℕ) → r.begun ≡ true → Keeps r (after_reply r x y)
reply_keeps r x y given =
    keeps_unless r (lacks r 1 x) _ (keeps_if r (not (is_receiver (slice_get r.table.kinds x))) _ _ (keeps_err r _)
    (keeps_unless r (lacks r 2 y) _ (keeps_if r (not (is_sender (slice_get r.table.kinds y))) _ _ (keeps_err r _)
    (keeps_if r (has_reply r.replies x y) _ _ (keeps_err r _) (keeps_ok r _ (given, refl))))))

length_keeps : (r : Reading) (n : ℕ) → r.begun ≡ true → Keeps r (after_length r n)
length_keeps r n given =
    keeps_if r (count_of r == 0) _ _ (keeps_err r _) (keeps_if r (is_some r.flits) _ _ (keeps_err r _)
    (keeps_if r (nat_le 1 n && nat_le n 2147483647) _ _ (keeps_ok r _ (given, refl)) (keeps_err r _)))

begun_same : (r : Reading) → r.begun ≡ true → begun r ≡ r
begun_same r given = ap (λ b. if b then r else started r) given

choice_keeps : (r q : Reading) (cell y : ℕ) → r.begun ≡ true → q ≡ r → Keeps r (after_choice q cell y)
choice_keeps r q cell y given is =
    keeps_if r (not (slice_index q.table.choices cell == count_of q)) _ _ (keeps_err r _)
    (keeps_ok r _ (
      ap (λ (p : Reading). p.begun) is ∙ given,
      length-set q.table.choices cell y ∙ ap (λ (p : Reading). length p.table.choices) is,
    ))

next_keeps : (r : Reading) (x j y : ℕ) → r.begun ≡ true → Keeps r (after_next r x j y)
next_keeps r x j y given =
    keeps_unless r (lacks r 1 x) _ (keeps_unless r (lacks r 2 j) _
    (keeps_if r (not (is_receiver (slice_get r.table.kinds j))) _ _ (keeps_err r _)
    (keeps_unless r (lacks r 3 y) _ (choice_keeps r (begun r) (cell_of r x j) y given (begun_same r given)))))

first_keeps : (r : Reading) (k : Option Keyword) (ws : List (List ℕ)) → r.begun ≡ true → Keeps r (after_first r k ws)
first_keeps r None ws given = keeps_err r _
first_keeps r (Some key.Channels) ws given = one_keeps r key.Channels (after_channels r) ws (λ x. channels_keeps r x given)
first_keeps r (Some key.Inject) ws given = one_keeps r key.Inject (after_inject r) ws (λ x. inject_keeps r x given)
first_keeps r (Some key.Eject) ws given = one_keeps r key.Eject (after_eject r) ws (λ x. eject_keeps r x given)
first_keeps r (Some key.Join) ws given = join_words_keep r r.table.kinds (after_joins r) (after_join_all r) ws (λ is js. joins_keep r is js given) (join_all_keeps r given)
first_keeps r (Some key.Next) ws given = three_keeps r key.Next (after_next r) ws (λ x j y. next_keeps r x j y given)
first_keeps r (Some key.Reply) ws given = two_keeps r key.Reply (after_reply r) ws (λ x y. reply_keeps r x y given)
first_keeps r (Some key.Length) ws given = one_keeps r key.Length (after_length r) ws (λ x. length_keeps r x given)
first_keeps r (Some key.Router) ws given = router_words_keep r (after_router r) ws (λ x. router_keeps r x given)
first_keeps r (Some key.Link) ws given = link_words_keep r (after_link r) ws (λ x a b. link_keeps r x a b given)
first_keeps r (Some key.Name) ws given = name_words_keep r (after_name r) ws (λ x. name_keeps r x given)
first_keeps r (Some key.Escape) ws given = keeps_err r _

pub words_keep : (r : Reading) (ws : List (List ℕ)) → r.begun ≡ true → Keeps r (after_words r ws)
words_keep r [] given = keeps_ok r r (given, refl)
words_keep r (w ∷ ws) given = keeps_if r (begins_comment w) _ _ (keeps_ok r r (given, refl)) (first_keeps r (network_keyword_of w) ws given)
