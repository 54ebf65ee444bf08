-- The part of the surroundings that a want has to do with.
use Rattle.std.specs.Prelude.{◌≡◌, ℕ, length, slice_index, Option, Some, None}
use Rattle.flit_buffer.specs.Surroundings.{Surroundings, Wiring, ring}
use Rattle.flit_buffer.specs.declared.want.Want.{Want}
use Rattle.flit_buffer.specs.declared.want.Want.TheVariants.{Take, Put, Credit, Access, Await}

-- two surroundings have equal channels and words, wherever in their places the flits lie (this
-- project's own format)
pub record SameChannels (a b : Surroundings) : Type 0 where
  pub count : length a.rings ≡ length b.rings
  pub channels : (x : ℕ) → (ring a.rings x).channel ≡ (ring b.rings x).channel
  pub words : a.words ≡ b.words

-- the number of the channel that a want has to do with; None where it is about a word (this
-- project's own format)
abbrev pub channel_of : Wiring → Want → Option ℕ
channel_of wiring (Take i) = Some (slice_index wiring.inputs i)
channel_of wiring (Put o flit) = Some (slice_index wiring.outputs o)
channel_of wiring (Credit o) = Some (slice_index wiring.outputs o)
channel_of wiring (Access word op) = None
channel_of wiring (Await word value) = None

-- the word that a want writes, if it writes one (this project's own format)
abbrev pub written_word : Want → Option ℕ
written_word (Take i) = None
written_word (Put o flit) = None
written_word (Credit o) = None
written_word (Access word op) = Some word
written_word (Await word value) = None

-- two surroundings are the same where a want looks: a take at the flits of its channel, a put at
-- the credits held of its channel, a credit at those returning, an access or a look at its word
-- (Dally and Towles, chapter 13)
abbrev pub SameWhereWanted : Surroundings → Surroundings → Wiring → Want → Type 0
SameWhereWanted a b wiring (Take i) =
    (ring a.rings (slice_index wiring.inputs i)).channel.flits
    ≡ (ring b.rings (slice_index wiring.inputs i)).channel.flits
SameWhereWanted a b wiring (Put o flit) =
    (ring a.rings (slice_index wiring.outputs o)).channel.held
    ≡ (ring b.rings (slice_index wiring.outputs o)).channel.held
SameWhereWanted a b wiring (Credit o) =
    (ring a.rings (slice_index wiring.outputs o)).channel.returning
    ≡ (ring b.rings (slice_index wiring.outputs o)).channel.returning
SameWhereWanted a b wiring (Access word op) = slice_index a.words word ≡ slice_index b.words word
SameWhereWanted a b wiring (Await word value) = slice_index a.words word ≡ slice_index b.words word
