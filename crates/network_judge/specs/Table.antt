-- A network as its user writes it down: tables of its channels, of who sends to whom, and of the
-- routers' choices.
use Rattle.std.specs.Prelude.{◌≡◌, ℕ, ◌+◌, ◌*◌, ◌==◌, ◌&&◌, Bool, true, false, Option, Some, None}
use Rattle.std.specs.Prelude.{List, length, take}
use Rattle.std.specs.Prelude.{slice_index, slice_get}
use Rattle.std.specs.List.{count_by, list_any}
use Rattle.network_judge.specs.declared.table.Kind.{Kind}
use Rattle.network_judge.specs.declared.table.Kind.TheVariants.{Injection, Hop, Ejection}
use Rattle.network_judge.specs.declared.table.Join.{Join}

-- a network's tables: the kind of each channel, the source-destination pairs that packets go
-- between, and the routers' choices, which have a row for each channel and in it a column for each
-- ejection channel (this project's own format)
pub record Table : Type 0 where
  pub kinds : List Kind
  pub joins : List Join
  pub choices : List ℕ

-- these three
abbrev pub table_of : List Kind → List Join → List ℕ → Table
table_of kinds joins choices = record { kinds = kinds; joins = joins; choices = choices }

-- whether a kind is that of ejection channels
abbrev pub ejects : Kind → Bool
ejects Injection = false
ejects Hop = false
ejects Ejection = true

-- how many channels there are, numbered from 0
abbrev pub channels_of : Table → ℕ
channels_of t = length t.kinds

-- the kind of a channel, and none beyond the channels
abbrev pub kind_of : Table → ℕ → Option Kind
kind_of t x = slice_get t.kinds x

-- how many columns there are: one for each ejection channel, in channel order
abbrev pub columns_of : Table → ℕ
columns_of t = count_by ejects t.kinds

-- the column of an ejection channel: how many ejection channels come before it
abbrev pub column_of : Table → ℕ → ℕ
column_of t j = count_by ejects (take j t.kinds)

-- the choice behind a channel in a column
abbrev pub choice_of : Table → ℕ → ℕ → ℕ
choice_of t x column = slice_index t.choices (x * columns_of t + column)

-- the channel that the router behind a channel chooses for packets to an ejection channel (Dally
-- and Towles, chapter 8)
abbrev pub table_next : Table → ℕ → ℕ → ℕ
table_next t x j = choice_of t x (column_of t j)

-- whether packets go from one channel to another
abbrev pub joins_of : Table → ℕ → ℕ → Bool
joins_of t i j = list_any (λ (pair : Join). pair.from == i && pair.to == j) t.joins

-- there is a choice behind each channel in each column
abbrev pub IsFull : Table → Type 0
IsFull t = length t.choices ≡ channels_of t * columns_of t

-- whether a channel of this kind, if any, is one that a sender puts flits into, an injection
-- channel
abbrev pub is_sender : Option Kind → Bool
is_sender (Some Injection) = true
is_sender (Some Hop) = false
is_sender (Some Ejection) = false
is_sender None = false

-- whether it is one that a receiver takes flits from, an ejection channel
abbrev pub is_receiver : Option Kind → Bool
is_receiver (Some Injection) = false
is_receiver (Some Hop) = false
is_receiver (Some Ejection) = true
is_receiver None = false
