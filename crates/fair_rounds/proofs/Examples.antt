-- Values worked out by hand, against the definitions.
use Rattle.std.proofs.Common.{◌≡◌, ◌+◌, ◌-◌, ◌*◌, ◌^◌, [], ◌∷◌, Some, None, true, false, slice_index, refl}
use Rattle.packet.specs.Flit.{field}
use Rattle.torus.specs.declared.step.Choice.TheVariants as choice
use Rattle.tile.specs.declared.agent.Agent.TheVariants.{Processor, Bank}
use Rattle.core_laws.specs.Heads.{carries_route}
use Rattle.machine_core.specs.Guarded.{is_begin}
use Rattle.machine_core.specs.Oldest.{processor_told, sorted_by}
use Rattle.fair_rounds.specs.Guard.{counted, since_of, with_first, least_if_out}

-- the oldest first, and of two with one age the lower input
sorted_by_age : sorted_by (slice_index (5 ∷ 2 ∷ 5 ∷ 0 ∷ [])) (0 ∷ 1 ∷ 2 ∷ 3 ∷ []) ≡ 3 ∷ 1 ∷ 0 ∷ 2 ∷ []
sorted_by_age = refl

-- a request is of the tile that sends it, a reply of that to which it goes
request_of_its_source : processor_told (2 ^ 63 + 2 ^ 61 + 9 * 2 ^ 51 + 5 * 2 ^ 45) ≡ 5
unfolding field
request_of_its_source = refl

reply_of_its_destination : processor_told (2 ^ 63 + 2 ^ 61 + 2 ^ 57 + 9 * 2 ^ 51 + 5 * 2 ^ 45) ≡ 9
unfolding field
reply_of_its_destination = refl

no_head_without_its_bit : carries_route (2 ^ 61 + 9 * 2 ^ 51) ≡ false
unfolding field
no_head_without_its_bit = refl

-- a send begins an operation where no flit is left to put, and a bank begins none
send_begins : is_begin Processor choice.Send [] ≡ true
send_begins = refl

send_goes_on : is_begin Processor choice.Send (7 ∷ []) ≡ false
send_goes_on = refl

bank_begins_none : is_begin Bank choice.Send [] ≡ false
bank_begins_none = refl

-- operation 3 is new where three were issued before, and operation 2 isn't
new_since_now : since_of (Some (record { 0 = 3 })) 3 7 4 ≡ 7
new_since_now = refl

old_since_before : since_of (Some (record { 0 = 2 })) 3 7 4 ≡ 4
old_since_before = refl

free_as_before : since_of None 3 7 4 ≡ 4
free_as_before = refl

-- the first two of three, by their places
two_changed : with_first 2 (λ k x. 10 * k + x) 0 (1 ∷ 1 ∷ 1 ∷ []) ≡ 1 ∷ 11 ∷ 1 ∷ []
two_changed = refl

out_since_earlier : least_if_out (Some (record { 0 = 0 })) 3 8 ≡ 3
out_since_earlier = refl

not_out : least_if_out None 3 8 ≡ 8
not_out = refl

-- counts stop at the greatest number of 64 bits
count_more : counted 41 ≡ 42
count_more = refl

count_no_more : counted (2 ^ 64 - 1) ≡ 2 ^ 64 - 1
count_no_more = refl
