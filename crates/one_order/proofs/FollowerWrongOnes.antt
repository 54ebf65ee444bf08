-- Wrong tables of a processor: what the definition wants in a state, and what each wrong one wants there.
use Rattle.std.proofs.Common.{◌≡◌, ℕ, List, [], ◌∷◌, Bool, true, false, Option, Some, None, refl, if◌then◌else◌}
use Rattle.std.specs.Prelude.{option_map, option_and_then, not}
use Rattle.torus.specs.declared.step.Choice.{Choice}
use Rattle.torus.specs.declared.step.Choice.TheVariants as choice
use Rattle.torus.specs.declared.step.OpId.{OpId}
use Rattle.packet.specs.declared.kinds.Op.TheVariants.{Add}
use Rattle.packet.specs.declared.kinds.Operation.{Operation}
use Rattle.packet.specs.declared.kinds.Reply.TheVariants.{Old, Ok as Stored}
use Rattle.packet.specs.Flits.{flits_of}
use Rattle.script_lines.specs.declared.line.Line.TheVariants as line
use Rattle.script_lines.specs.declared.line.Value.TheVariants.{Number}
use Rattle.tag_table.specs.Tags.{free_tag}
use Rattle.flit_buffer.specs.declared.want.Want.{Want}
use Rattle.flit_buffer.specs.declared.want.Want.TheVariants.{Put, Access}
use Rattle.flit_buffer.specs.Channel.{first_of as first_flit}
use Rattle.one_order.specs.Following.{Following, past_fences, ready_operation as ready_of, first_of, next_operation_of, after_issue, after_answer, is_finished}
use Rattle.one_order.specs.ProcessorRecord.{ProcessorRecord, ready}
use Rattle.one_order.specs.ProcessorTable.{ProcessorState, flits_due, processor_wants}

-- processor 0 of two tiles with eight words, that has followed its script so far and whose tags are so held
abbrev record_of : Following → List (Option OpId) → ProcessorRecord
record_of f tags = record { following = f; tags = tags; issued = []; answers = [] }

abbrev processor : Following → List (Option OpId) → ProcessorState
processor f tags = record { operations = record_of f tags; to_put = []; so_far = []; reported = false; seen = false }

abbrev wants : ProcessorState → Choice → Option Want
wants p c = processor_wants 2 8 0 p c

-- what is sent by a rule for the operation that is ready and its tag
abbrev sends_by : (ProcessorRecord → Option (ℕ × Operation)) → ProcessorState → Option Want
sends_by rule p = option_map (λ flit. Put 0 flit) (first_flit (flits_due 2 8 0 p.to_put (rule p.operations)))

-- tag 0 is held by operation 0, and tag 1 is free; all tags are free; the one tag there is is held
abbrev one_free : List (Option OpId)
one_free = Some (record { 0 = 0 }) ∷ None ∷ []

abbrev all_free : List (Option OpId)
all_free = None ∷ None ∷ []

abbrev none_free : List (Option OpId)
none_free = Some (record { 0 = 0 }) ∷ []

-- the one flit of a load at address 5 under tag 0 and under tag 1
abbrev load_under_0 : ℕ
load_under_0 = 16143152864309542914

abbrev load_under_1 : ℕ
load_under_1 = 16143155063332798466

-- a store is sent, and a fence stands before the load
abbrev at_the_fence : Following
at_the_fence = after_issue (first_of (line.Store 5 (Number 17) ∷ line.Fence ∷ line.Load 5 ∷ []))

-- wrong: no fence holds an operation
abbrev past_each_fence : ProcessorRecord → Option (ℕ × Operation)
past_each_fence b =
    option_and_then (λ o. option_map (λ tag. (tag, o)) (free_tag b.tags)) (ready_of b.following.spin (past_fences b.following.ahead) b.following.last)

fence_holds_the_load : wants (processor at_the_fence one_free) choice.Send ≡ None
unfolding first_of next_operation_of after_issue flits_of
fence_holds_the_load = refl

load_passes_the_fence : sends_by past_each_fence (processor at_the_fence one_free) ≡ Some (Put 0 load_under_1)
unfolding first_of next_operation_of after_issue flits_of
load_passes_the_fence = refl

-- the answer of the store frees it
answer_frees_the_load : wants (processor (after_answer at_the_fence 0 Stored) all_free) choice.Send ≡ Some (Put 0 load_under_0)
unfolding first_of next_operation_of after_issue after_answer flits_of
answer_frees_the_load = refl

-- a store is sent, and a load that need not wait for it is ready
abbrev at_the_load : Following
at_the_load = after_issue (first_of (line.Store 4 (Number 17) ∷ line.Load 5 ∷ []))

-- wrong: tag 0, also where an operation holds it
abbrev under_tag_0 : ProcessorRecord → Option (ℕ × Operation)
under_tag_0 b = option_map (λ o. (0, o)) (next_operation_of b.following)

free_tag_is_taken : wants (processor at_the_load one_free) choice.Send ≡ Some (Put 0 load_under_1)
unfolding first_of next_operation_of after_issue flits_of
free_tag_is_taken = refl

held_tag_is_taken : sends_by under_tag_0 (processor at_the_load one_free) ≡ Some (Put 0 load_under_0)
unfolding first_of next_operation_of after_issue flits_of
held_tag_is_taken = refl

-- where no tag is free it waits
no_tag_is_free : wants (processor at_the_load none_free) choice.Send ≡ None
unfolding first_of next_operation_of after_issue flits_of
no_tag_is_free = refl

two_under_one_tag : sends_by under_tag_0 (processor at_the_load none_free) ≡ Some (Put 0 load_under_0)
unfolding first_of next_operation_of after_issue flits_of
two_under_one_tag = refl

-- wrong: sends an operation that is ready before the flits left of the request in course
abbrev next_request_first : ProcessorState → Option Want
next_request_first p = option_map (λ flit. Put 0 flit) (first_flit (flits_due 2 8 0 [] (ready p.operations)))

abbrev in_course : ProcessorState
in_course = record { operations = record_of at_the_load one_free; to_put = 9 ∷ 8 ∷ []; so_far = []; reported = false; seen = false }

flits_left_first : wants in_course choice.Send ≡ Some (Put 0 9)
flits_left_first = refl

requests_are_mixed : next_request_first in_course ≡ Some (Put 0 load_under_1)
unfolding first_of next_operation_of after_issue flits_of
requests_are_mixed = refl

-- the load of a spin is sent, and its answer may end the spin
abbrev spinning : Following
spinning = after_issue (first_of (line.Spin 5 1 3 ∷ []))

-- wrong: the next load of a spin doesn't wait for the answer of the one before
abbrev spins_on : ProcessorRecord → Option (ℕ × Operation)
spins_on b = option_and_then (λ o. option_map (λ tag. (tag, o)) (free_tag b.tags)) (ready_of b.following.spin b.following.ahead (Some Stored))

spin_waits : wants (processor spinning one_free) choice.Send ≡ None
unfolding first_of next_operation_of after_issue flits_of
spin_waits = refl

spin_does_not_wait : sends_by spins_on (processor spinning one_free) ≡ Some (Put 0 load_under_1)
unfolding first_of next_operation_of after_issue flits_of
spin_does_not_wait = refl

-- the number sought isn't found: one more load
spin_goes_on : wants (processor (after_answer spinning 0 (Old 0)) all_free) choice.Send ≡ Some (Put 0 load_under_0)
unfolding first_of next_operation_of after_issue after_answer flits_of
spin_goes_on = refl

-- wrong: reports whatever is left; and again
abbrev reports_at_once : ProcessorState → Option Want
reports_at_once p = if not p.reported then Some (Access 8 (Add 1)) else None

abbrev reports_again : ProcessorState → Option Want
reports_again p = if is_finished p.operations.following then Some (Access 8 (Add 1)) else None

-- all is sent, and one operation awaits its answer
abbrev one_awaited : Following
one_awaited = after_issue (first_of (line.Load 5 ∷ []))

report_waits : wants (processor one_awaited one_free) choice.Done ≡ None
unfolding first_of after_issue is_finished
report_waits = refl

report_comes_early : reports_at_once (processor one_awaited one_free) ≡ Some (Access 8 (Add 1))
report_comes_early = refl

report_comes_then : wants (processor (after_answer one_awaited 0 (Old 0)) all_free) choice.Done ≡ Some (Access 8 (Add 1))
unfolding first_of after_issue after_answer is_finished
report_comes_then = refl

-- it has reported
abbrev reported : ProcessorState
reported = record { operations = record_of (first_of []) all_free; to_put = []; so_far = []; reported = true; seen = false }

report_comes_once : wants reported choice.Done ≡ None
unfolding first_of is_finished
report_comes_once = refl

report_comes_twice : reports_again reported ≡ Some (Access 8 (Add 1))
unfolding first_of is_finished
report_comes_twice = refl
