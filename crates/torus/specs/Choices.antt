-- Which choices an agent has, and their order in a round.
use Rattle.std.specs.Prelude.{ℕ, zero, suc, nat_lt, Bool, true, false, List, [], ◌∷◌, ◌++◌, map}
use Rattle.std.specs.List.{range_with_len}
use Rattle.torus.specs.declared.step.Choice.{Choice}
use Rattle.torus.specs.declared.step.Choice.TheVariants.{Send, Take, TakeFrom, Put, Credit, CreditOf, Serve, Done, Look}

-- the choices of a processor (this project's own format)
abbrev pub is_of_processor : Choice → Bool
is_of_processor Send = true
is_of_processor Take = true
is_of_processor Credit = true
is_of_processor Done = true
is_of_processor Look = true
is_of_processor _ = false

-- the choices of a router with so many inputs and as many outputs: one for each of them (this
-- project's own format)
abbrev pub is_of_router : ℕ → Choice → Bool
is_of_router ports (TakeFrom input) = nat_lt input ports
is_of_router ports (Put input) = nat_lt input ports
is_of_router ports (CreditOf output) = nat_lt output ports
is_of_router ports _ = false

-- the choices of a bank (this project's own format)
abbrev pub is_of_bank : Choice → Bool
is_of_bank Take = true
is_of_bank Serve = true
is_of_bank Send = true
is_of_bank Credit = true
is_of_bank _ = false

-- whether agent k of a tile has a choice: agent 0 is its processor, 1 its router, with so many
-- inputs and as many outputs, 2 its bank (this project's own format)
abbrev pub has_choice : ℕ → ℕ → Choice → Bool
has_choice ports zero choice = is_of_processor choice
has_choice ports (suc zero) choice = is_of_router ports choice
has_choice ports (suc (suc k)) choice = is_of_bank choice

-- a processor's choices in the order of a round, and a bank's (this project's own format)
abbrev pub processor_choices : List Choice
processor_choices = Send ∷ Take ∷ Credit ∷ Done ∷ Look ∷ []

abbrev pub bank_choices : List Choice
bank_choices = Take ∷ Serve ∷ Send ∷ Credit ∷ []

-- a router's choices of so many ports: a take and a put of each input, and a credit of each output
-- (this project's own format)
abbrev pub takes_of_all : ℕ → List Choice
takes_of_all ports = map (λ i. TakeFrom i) (range_with_len 0 ports)

abbrev pub puts_of_all : ℕ → List Choice
puts_of_all ports = map (λ i. Put i) (range_with_len 0 ports)

abbrev pub credits_of_all : ℕ → List Choice
credits_of_all ports = map (λ o. CreditOf o) (range_with_len 0 ports)

-- all of these, in the order of a round
abbrev pub router_choices : ℕ → List Choice
router_choices ports = takes_of_all ports ++ puts_of_all ports ++ credits_of_all ports
