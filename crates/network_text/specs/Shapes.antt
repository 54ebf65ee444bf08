-- The words behind a keyword of the network text (this project's own format): what a line makes that
-- is given by their numbers, and why they are refused.
use Rattle.std.specs.Prelude.{ℕ, ◌&&◌, Bool, true, false, nat_le, List, [], ◌∷◌, length}
use Rattle.std.specs.Prelude.{Result, Err, Option, Some, None, ok_or, if◌then◌else◌}
use Rattle.std.specs.List.{list_all}
use Rattle.std.specs.Char.{is_ascii_graphic}
use Rattle.lexer.specs.Numbers.{index_of}
use Rattle.lexer.specs.Outcome.{◌>>=◌}
use Rattle.network_text.specs.declared.reason.Keyword.{Keyword}
use Rattle.network_text.specs.declared.reason.Keyword.TheVariants as key
use Rattle.network_text.specs.declared.reason.NetworkReason.{NetworkReason}
use Rattle.network_text.specs.declared.reason.NetworkReason.TheVariants as reason

-- what a line makes, unless something is wrong with it
abbrev pub unless : {A : Type 0} → Option NetworkReason → Result A NetworkReason
    → Result A NetworkReason
unless None made = made
unless (Some e) made = Err e

-- the number that a word spells where one belongs, of the word at this place of its line
abbrev pub number_at : ℕ → List ℕ → Result ℕ NetworkReason
number_at place word = ok_or (index_of word) (reason.NotNumber place)

-- what a line makes by the numbers that three words spell, the first three of its line
abbrev pub three_at : {R : Type 0}
    → (ℕ → ℕ → ℕ → Result R NetworkReason) → List ℕ → List ℕ → List ℕ → Result R NetworkReason
three_at f a b c = number_at 1 a >>= λ x. number_at 2 b >>= λ y. number_at 3 c >>= f x y

-- the one, two or three numbers after a keyword
abbrev pub after_one : {R : Type 0}
    → Keyword → (ℕ → Result R NetworkReason) → List (List ℕ) → Result R NetworkReason
after_one keyword f (a ∷ []) = number_at 1 a >>= f
after_one keyword f [] = Err (reason.NumberCount keyword)
after_one keyword f (a ∷ b ∷ more) = Err (reason.NumberCount keyword)

abbrev pub after_two : {R : Type 0}
    → Keyword → (ℕ → ℕ → Result R NetworkReason) → List (List ℕ) → Result R NetworkReason
after_two keyword f (a ∷ b ∷ []) = number_at 1 a >>= λ x. number_at 2 b >>= f x
after_two keyword f [] = Err (reason.NumberCount keyword)
after_two keyword f (a ∷ []) = Err (reason.NumberCount keyword)
after_two keyword f (a ∷ b ∷ c ∷ more) = Err (reason.NumberCount keyword)

abbrev pub after_three : {R : Type 0}
    → Keyword → (ℕ → ℕ → ℕ → Result R NetworkReason) → List (List ℕ) → Result R NetworkReason
after_three keyword f (a ∷ b ∷ c ∷ []) = three_at f a b c
after_three keyword f [] = Err (reason.NumberCount keyword)
after_three keyword f (a ∷ []) = Err (reason.NumberCount keyword)
after_three keyword f (a ∷ b ∷ []) = Err (reason.NumberCount keyword)
after_three keyword f (a ∷ b ∷ c ∷ d ∷ more) = Err (reason.NumberCount keyword)

-- a word of a name: at most 40 bytes, all visible ASCII (this project's own format)
abbrev pub is_name : List ℕ → Bool
is_name word = nat_le (length word) 40 && list_all is_ascii_graphic word

-- the number and the name after `router`, and a place of two numbers or none
abbrev pub after_router_words : {R : Type 0}
    → (ℕ → Result R NetworkReason) → List (List ℕ) → Result R NetworkReason
after_router_words f (a ∷ b ∷ []) =
    number_at 1 a >>= λ x. (if is_name b then f x else Err reason.NotName)
after_router_words f (a ∷ b ∷ c ∷ d ∷ []) =
    number_at 1 a >>= λ x. number_at 3 c >>= λ _. number_at 4 d >>= λ _.
    (if is_name b then f x else Err reason.NotName)
after_router_words f [] = Err (reason.NumberCount key.Router)
after_router_words f (a ∷ []) = Err (reason.NumberCount key.Router)
after_router_words f (a ∷ b ∷ c ∷ []) = Err (reason.NumberCount key.Router)
after_router_words f (a ∷ b ∷ c ∷ d ∷ e ∷ more) = Err (reason.NumberCount key.Router)

-- the three numbers after `link`, and a fourth or none
abbrev pub after_link_words : {R : Type 0}
    → (ℕ → ℕ → ℕ → Result R NetworkReason) → List (List ℕ) → Result R NetworkReason
after_link_words f (a ∷ b ∷ c ∷ []) = three_at f a b c
after_link_words f (a ∷ b ∷ c ∷ d ∷ []) =
    three_at (λ x y z. number_at 4 d >>= λ _. f x y z) a b c
after_link_words f [] = Err (reason.NumberCount key.Link)
after_link_words f (a ∷ []) = Err (reason.NumberCount key.Link)
after_link_words f (a ∷ b ∷ []) = Err (reason.NumberCount key.Link)
after_link_words f (a ∷ b ∷ c ∷ d ∷ e ∷ more) = Err (reason.NumberCount key.Link)

-- one to four words
abbrev pub are_few : List (List ℕ) → Bool
are_few [] = false
are_few (a ∷ []) = true
are_few (a ∷ b ∷ []) = true
are_few (a ∷ b ∷ c ∷ []) = true
are_few (a ∷ b ∷ c ∷ d ∷ []) = true
are_few (a ∷ b ∷ c ∷ d ∷ e ∷ more) = false

-- whether these are words of a name
abbrev pub are_names : List (List ℕ) → Bool
are_names [] = true
are_names (word ∷ words) = if is_name word then are_names words else false

-- the number after `name` and the one to four words of the name
abbrev pub after_name_words : {R : Type 0}
    → (ℕ → Result R NetworkReason) → List (List ℕ) → Result R NetworkReason
after_name_words f [] = Err (reason.NumberCount key.Name)
after_name_words f (a ∷ words) =
    if are_few words
    then (number_at 1 a >>= λ x. (if are_names words then f x else Err reason.NotName))
    else Err (reason.NumberCount key.Name)
