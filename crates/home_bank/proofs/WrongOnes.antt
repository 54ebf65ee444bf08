-- Wrong tables of a bank: what the definition wants in a state, and what each wrong one wants there.
use Rattle.std.proofs.Common.{◌≡◌, ℕ, List, [], ◌∷◌, Option, Some, None, refl, if◌then◌else◌}
use Rattle.std.specs.Prelude.{is_none, option_map}
use Rattle.torus.specs.declared.step.Choice.{Choice}
use Rattle.torus.specs.declared.step.Choice.TheVariants as choice
use Rattle.packet.specs.declared.kinds.Op.TheVariants.{Store, Load}
use Rattle.packet.specs.declared.kinds.Request.{Request}
use Rattle.flit_buffer.specs.declared.want.Want.{Want}
use Rattle.flit_buffer.specs.declared.want.Want.TheVariants.{Take, Put, Access}
use Rattle.home_bank.specs.BankTable.{BankState, is_nil, bank_wants}
use Rattle.home_bank.specs.ServiceList.{address_of}

-- processor 0 of two tiles asks bank 1 to store 7 in its word 2, at address 5
abbrev request : Request
request = record { destination = 1; source = 0; tag = record { 0 = 3 }; word = 2; op = Store 7 }

-- a bank with this request and these flits of a reply
abbrev bank : Option Request → List ℕ → BankState
bank waiting to_put = record { entries = []; so_far = []; waiting = waiting; to_put = to_put }

abbrev wants : BankState → Choice → Option Want
wants b c = bank_wants 2 1 b c

-- wrong: takes a flit while a request waits; while a reply is in course; whatever there is
abbrev takes_while_one_waits : BankState → Option Want
takes_while_one_waits b = if is_nil b.to_put then Some (Take 0) else None

abbrev takes_while_it_replies : BankState → Option Want
takes_while_it_replies b = if is_none b.waiting then Some (Take 0) else None

abbrev takes_always : BankState → Option Want
takes_always b = Some (Take 0)

-- with nothing to serve and nothing to put a bank takes
idle_bank_takes : wants (bank None []) choice.Take ≡ Some (Take 0)
idle_bank_takes = refl

-- while a request waits it takes none
bank_with_a_request : wants (bank (Some request) []) choice.Take ≡ None
bank_with_a_request = refl

one_more_is_taken : takes_while_one_waits (bank (Some request) []) ≡ Some (Take 0)
one_more_is_taken = refl

-- nor while flits of a reply are left
replying_bank : wants (bank None (9 ∷ [])) choice.Take ≡ None
replying_bank = refl

one_is_taken_meanwhile : takes_while_it_replies (bank None (9 ∷ [])) ≡ Some (Take 0)
one_is_taken_meanwhile = refl

one_is_taken_always : takes_always (bank (Some request) (9 ∷ [])) ≡ Some (Take 0)
one_is_taken_always = refl

-- wrong: serves the word of the request as if it were an address; loads in place of the operation
abbrev serves_by_word : BankState → Option Want
serves_by_word b = option_map (λ r. Access r.word r.op) b.waiting

abbrev loads_only : BankState → Option Want
loads_only b = option_map (λ r. Access (address_of 1 2 r.word) Load) b.waiting

-- word 2 of bank 1 of two is at address 5
request_is_served : wants (bank (Some request) []) choice.Serve ≡ Some (Access 5 (Store 7))
request_is_served = refl

another_word_is_served : serves_by_word (bank (Some request) []) ≡ Some (Access 2 (Store 7))
another_word_is_served = refl

word_is_loaded : loads_only (bank (Some request) []) ≡ Some (Access 5 Load)
word_is_loaded = refl

-- no request, no service
nothing_to_serve : wants (bank None []) choice.Serve ≡ None
nothing_to_serve = refl

-- wrong: sends the last flit first
abbrev last_of : List ℕ → Option ℕ
last_of [] = None
last_of (flit ∷ []) = Some flit
last_of (flit ∷ next ∷ flits) = last_of (next ∷ flits)

abbrev sends_backwards : BankState → Option Want
sends_backwards b = option_map (λ flit. Put 0 flit) (last_of b.to_put)

first_flit_first : wants (bank None (9 ∷ 8 ∷ 7 ∷ [])) choice.Send ≡ Some (Put 0 9)
first_flit_first = refl

last_flit_first : sends_backwards (bank None (9 ∷ 8 ∷ 7 ∷ [])) ≡ Some (Put 0 7)
last_flit_first = refl
