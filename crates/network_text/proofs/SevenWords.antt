-- No line has more than four words that mean something, comments apart: seven tell that there are too many.
use Rattle.std.proofs.Common.{◌≡◌, ℕ, List, [], ◌∷◌, take, refl, ap}
use Rattle.std.specs.Prelude.{Result, Ok, Option, Some, None, if◌then◌else◌}
use Rattle.lexer.specs.Words.{begins_comment}
use Rattle.network_text.specs.declared.reason.Keyword.{Keyword}
use Rattle.network_text.specs.declared.reason.Keyword.TheVariants as key
use Rattle.network_text.specs.declared.reason.NetworkReason.{NetworkReason}
use Rattle.network_text.specs.Reasons.{network_keyword_of}
use Rattle.network_judge.specs.declared.table.Kind.{Kind}
use Rattle.network_text.specs.declared.ranges.ChannelRange.{ChannelRange}
use Rattle.network_text.specs.Ranges.{after_join_words}
use Rattle.network_text.specs.Shapes.{after_one, after_two, after_three, after_router_words, after_link_words, after_name_words}
use Rattle.network_text.specs.Network.{Reading, after_first, after_words}
use Rattle.network_text.specs.Network.{after_channels, after_inject, after_eject, after_joins, after_join_all, after_next, after_reply, after_length}
use Rattle.network_text.specs.Network.{after_router, after_link, after_name}

one_six : (k : Keyword) (f : ℕ → Result Reading NetworkReason) (ws : List (List ℕ)) → after_one k f (take 6 ws) ≡ after_one k f ws
one_six k f [] = refl
one_six k f (a ∷ []) = refl
one_six k f (a ∷ b ∷ more) = refl

two_six : (k : Keyword) (f : ℕ → ℕ → Result Reading NetworkReason) (ws : List (List ℕ)) → after_two k f (take 6 ws) ≡ after_two k f ws
two_six k f [] = refl
two_six k f (a ∷ []) = refl
two_six k f (a ∷ b ∷ []) = refl
two_six k f (a ∷ b ∷ c ∷ more) = refl

join_six : (kinds : List Kind) (f : List ChannelRange → List ChannelRange → Result Reading NetworkReason) (all : Result Reading NetworkReason)
    (ws : List (List ℕ)) → after_join_words kinds f all (take 6 ws) ≡ after_join_words kinds f all ws
join_six kinds f all [] = refl
join_six kinds f all (a ∷ []) = refl
join_six kinds f all (a ∷ b ∷ []) = refl
join_six kinds f all (a ∷ b ∷ c ∷ more) = refl

three_six : (k : Keyword) (f : ℕ → ℕ → ℕ → Result Reading NetworkReason) (ws : List (List ℕ))
    → after_three k f (take 6 ws) ≡ after_three k f ws
three_six k f [] = refl
three_six k f (a ∷ []) = refl
three_six k f (a ∷ b ∷ []) = refl
three_six k f (a ∷ b ∷ c ∷ []) = refl
three_six k f (a ∷ b ∷ c ∷ d ∷ more) = refl

router_six : (f : ℕ → Result Reading NetworkReason) (ws : List (List ℕ)) → after_router_words f (take 6 ws) ≡ after_router_words f ws
router_six f [] = refl
router_six f (a ∷ []) = refl
router_six f (a ∷ b ∷ []) = refl
router_six f (a ∷ b ∷ c ∷ []) = refl
router_six f (a ∷ b ∷ c ∷ d ∷ []) = refl
router_six f (a ∷ b ∷ c ∷ d ∷ e ∷ more) = refl

link_six : (f : ℕ → ℕ → ℕ → Result Reading NetworkReason) (ws : List (List ℕ)) → after_link_words f (take 6 ws) ≡ after_link_words f ws
link_six f [] = refl
link_six f (a ∷ []) = refl
link_six f (a ∷ b ∷ []) = refl
link_six f (a ∷ b ∷ c ∷ []) = refl
link_six f (a ∷ b ∷ c ∷ d ∷ []) = refl
link_six f (a ∷ b ∷ c ∷ d ∷ e ∷ more) = refl

name_six : (f : ℕ → Result Reading NetworkReason) (ws : List (List ℕ)) → after_name_words f (take 6 ws) ≡ after_name_words f ws
name_six f [] = refl
name_six f (a ∷ []) = refl
name_six f (a ∷ b ∷ []) = refl
name_six f (a ∷ b ∷ c ∷ []) = refl
name_six f (a ∷ b ∷ c ∷ d ∷ []) = refl
name_six f (a ∷ b ∷ c ∷ d ∷ e ∷ []) = refl
name_six f (a ∷ b ∷ c ∷ d ∷ e ∷ g ∷ more) = refl

first_six : (r : Reading) (k : Option Keyword) (ws : List (List ℕ)) → after_first r k (take 6 ws) ≡ after_first r k ws
first_six r None ws = refl
first_six r (Some key.Channels) ws = one_six key.Channels (after_channels r) ws
first_six r (Some key.Inject) ws = one_six key.Inject (after_inject r) ws
first_six r (Some key.Eject) ws = one_six key.Eject (after_eject r) ws
first_six r (Some key.Join) ws = join_six r.table.kinds (after_joins r) (after_join_all r) ws
first_six r (Some key.Next) ws = three_six key.Next (after_next r) ws
first_six r (Some key.Reply) ws = two_six key.Reply (after_reply r) ws
first_six r (Some key.Length) ws = one_six key.Length (after_length r) ws
first_six r (Some key.Router) ws = router_six (after_router r) ws
first_six r (Some key.Link) ws = link_six (after_link r) ws
first_six r (Some key.Name) ws = name_six (after_name r) ws
first_six r (Some key.Escape) ws = refl

pub words_seven : (r : Reading) (ws : List (List ℕ)) → after_words r (take 7 ws) ≡ after_words r ws
words_seven r [] = refl
words_seven r (w ∷ ws) =
    ap (λ (o : Result Reading NetworkReason). if begins_comment w then Ok r else o) (first_six r (network_keyword_of w) ws)
