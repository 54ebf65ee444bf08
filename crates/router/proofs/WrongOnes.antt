-- Wrong tables of a router: what the definition wants in a state, and what each wrong one wants there.
use Rattle.std.proofs.Common.{◌≡◌, ℕ, [], ◌∷◌, Option, Some, None, refl}
use Rattle.std.specs.Prelude.{option_map, replicate, slice_set}
use Rattle.torus.specs.Shape.{Shape}
use Rattle.torus.specs.declared.step.Choice.{Choice}
use Rattle.torus.specs.declared.step.Choice.TheVariants as choice
use Rattle.packet.specs.declared.heading.Head.{Head}
use Rattle.packet.specs.Flit.{field}
use Rattle.packet.specs.Flits.{head_of}
use Rattle.flit_buffer.specs.declared.want.Want.{Want}
use Rattle.flit_buffer.specs.declared.want.Want.TheVariants.{Take, Put}
use Rattle.router.specs.Table.{RouterState, way_of, latch_of, output_owned, output_for, router_wants}

-- two tiles; the router of tile 0 has ten inputs and as many outputs
abbrev pair : Shape
pair = record { radices = 2 ∷ []; datelines = 1 ∷ [] }

-- the head of a request from tile 0 to tile 1, whose way is output 0 and whose input is 8; and a flit behind it
abbrev head : ℕ
head = 11819697222033866752

abbrev body : ℕ
body = 2305843009213693959

-- input 8 has a flit in its latch; this input owns output 0
abbrev with_flit : ℕ → RouterState
with_flit flit = record { latches = slice_set (replicate 10 None) 8 (Some flit); owned = replicate 10 None }

abbrev owned_by : ℕ → RouterState → RouterState
owned_by i r = record { latches = r.latches; owned = slice_set r.owned i (Some 0) }

abbrev wants : RouterState → Choice → Option Want
wants r c = router_wants pair 0 r c

-- wrong: a head takes the output of its way also where an input owns it
abbrev into_owned : RouterState → ℕ → Option Head → Option ℕ
into_owned r i (Some h) = Some (way_of pair 0 i h)
into_owned r i None = output_owned r i

-- wrong: a flit behind the head takes the way of a head, here that of another packet
abbrev by_any_output : RouterState → ℕ → Option Head → Option ℕ
by_any_output r i (Some h) = output_for pair 0 r i (Some h)
by_any_output r i None = Some 0

-- a table by a rule for the output
abbrev puts_by : (RouterState → ℕ → Option Head → Option ℕ) → RouterState → ℕ → Option ℕ → Option Want
puts_by rule r i None = None
puts_by rule r i (Some flit) = option_map (λ o. Put o flit) (rule r i (head_of flit))

abbrev wants_by : (RouterState → ℕ → Option Head → Option ℕ) → RouterState → ℕ → Option Want
wants_by rule r i = puts_by rule r i (latch_of r i)

-- a head takes an output that no input owns
head_takes_a_free_output : wants (with_flit head) (choice.Put 8) ≡ Some (Put 0 head)
unfolding field
head_takes_a_free_output = refl

-- and waits where another input owns it
head_waits_for_an_owned_output : wants (owned_by 2 (with_flit head)) (choice.Put 8) ≡ None
unfolding field
head_waits_for_an_owned_output = refl

head_goes_into_an_owned_output : wants_by into_owned (owned_by 2 (with_flit head)) 8 ≡ Some (Put 0 head)
unfolding field
head_goes_into_an_owned_output = refl

-- a flit behind its head goes to the output that its input owns, and to none else
body_follows_its_head : wants (owned_by 8 (with_flit body)) (choice.Put 8) ≡ Some (Put 0 body)
unfolding field
body_follows_its_head = refl

body_without_an_output : wants (owned_by 2 (with_flit body)) (choice.Put 8) ≡ None
unfolding field
body_without_an_output = refl

body_between_the_flits_of_another : wants_by by_any_output (owned_by 2 (with_flit body)) 8 ≡ Some (Put 0 body)
unfolding field
body_between_the_flits_of_another = refl

-- wrong: takes a flit into a latch that has one
abbrev takes_always : RouterState → ℕ → Option Want
takes_always r i = Some (Take i)

full_latch_takes_none : wants (with_flit head) (choice.TakeFrom 8) ≡ None
full_latch_takes_none = refl

full_latch_is_overwritten : takes_always (with_flit head) 8 ≡ Some (Take 8)
full_latch_is_overwritten = refl

empty_latch_takes : wants (with_flit head) (choice.TakeFrom 7) ≡ Some (Take 7)
empty_latch_takes = refl
