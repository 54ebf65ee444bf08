-- As many tags are out as operations await an answer: kept by each issue and answer.
use Rattle.std.proofs.Common.{◌≡◌, ℕ, zero, suc, ◌+◌, ◌-◌, ◌<◌, true, false, cond, List, [], ◌∷◌, Option, Some, None, refl, sym, ◌∙◌, ap, arith, slice_get}
use Rattle.std.proofs.Common.{get_or, set}
use Rattle.std.specs.Prelude.{is_some, IsSome, ◌==◌}
use Rattle.std.proofs.lemmas.List.Sums.{sum_by-set, sum_by-cons}
use Rattle.std.proofs.lemmas.Option.{slice_get_within, get_or_from_slice_get}
use Rattle.torus.specs.declared.step.OpId.{OpId}
use Rattle.packet.specs.declared.kinds.Operation.{Operation}
use Rattle.packet.specs.declared.kinds.Reply.{Reply}
use Rattle.script_lines.specs.declared.line.Line.{Line}
use Rattle.tag_table.specs.Tags.{holder_of, out_count}
use Rattle.one_order.specs.Scripts.{IsFollowable, Invocation, AreAnswered, unanswered, awaited}
use Rattle.one_order.specs.Following.{Following, ShowsPast, next_operation_of, after_issue, after_answer, is_finished, last_answered}
use Rattle.one_order.specs.Following.{other_answered}
use Rattle.one_order.proofs.Shown.{waiting_is, progress}

-- a tag goes out, or comes back
pub out_more : (tags : List (Option OpId)) (tag : ℕ) (id : OpId) → slice_get tags tag ≡ Some None → out_count (set tags tag (Some id)) ≡ out_count tags + 1
out_more tags tag id free =
    let sums = sum_by-set (λ (x : Option OpId). cond (is_some x) 1 0) tags tag (Some id) None (slice_get_within tags tag None free) in
    let was : ◌≡◌ {A = ℕ} (cond (is_some (get_or tags tag None)) 1 0) 0 =
    ap (λ (x : Option OpId). cond (is_some x) 1 0) (get_or_from_slice_get tags tag None None free) in
    omega arith

pub out_less : (tags : List (Option OpId)) (tag : ℕ) (id : OpId) → slice_get tags tag ≡ Some (Some id) → out_count (set tags tag None) + 1 ≡ out_count tags
out_less tags tag id held =
    let sums = sum_by-set (λ (x : Option OpId). cond (is_some x) 1 0) tags tag None None (slice_get_within tags tag (Some id) held) in
    let was : ◌≡◌ {A = ℕ} (cond (is_some (get_or tags tag None)) 1 0) 1 =
    ap (λ (x : Option OpId). cond (is_some x) 1 0) (get_or_from_slice_get tags tag (Some id) None held) in
    omega arith

-- as many tags are out as operations await an answer
abbrev pub AreOut : Following → List (Option OpId) → Type 0
AreOut f tags = f.waiting ≡ out_count tags

pub issue_waits : (f : Following) → (after_issue f).waiting ≡ f.waiting + 1
unfolding after_issue
issue_waits f = refl

pub answer_waits : (f : Following) (i : ℕ) (r : Reply) → (after_answer f i r).waiting ≡ f.waiting - 1
unfolding after_answer
answer_waits f i r = elim ((i + 1) == f.issued) as (λ b. (cond {A = Following} b (last_answered f r) (other_answered f)).waiting ≡ f.waiting - 1)
    [ true ↦ refl | false ↦ refl ]

pub issue_out : (f : Following) (tags : List (Option OpId)) (tag : ℕ) (id : OpId) → AreOut f tags → slice_get tags tag ≡ Some None
    → AreOut (after_issue f) (set tags tag (Some id))
issue_out f tags tag id are free = let a = issue_waits f in let b = out_more tags tag id free in omega arith

pub answer_out : (f : Following) (tags : List (Option OpId)) (tag i : ℕ) (r : Reply) (id : OpId) → AreOut f tags → slice_get tags tag ≡ Some (Some id)
    → AreOut (after_answer f i r) (set tags tag None)
answer_out f tags tag i r id are held = let a = answer_waits f i r in let b = out_less tags tag id held in omega arith

-- a tag that is held is out
pub out_some : (tags : List (Option OpId)) (tag : ℕ) (id : OpId) → slice_get tags tag ≡ Some (Some id) → 0 < out_count tags
out_some tags tag id held = let less = out_less tags tag id held in omega arith

-- with no tag out nobody holds one
count_zero : (x : Option OpId) (xs : List (Option OpId)) → out_count (x ∷ xs) ≡ 0 → (x ≡ None) × (out_count xs ≡ 0)
count_zero None xs none = let sum = sum_by-cons (λ (y : Option OpId). cond (is_some y) 1 0) None xs in (refl, omega arith)
count_zero (Some id) xs none = let sum = sum_by-cons (λ (y : Option OpId). cond (is_some y) 1 0) (Some id) xs in absurd (omega arith)

pub no_holder : (tags : List (Option OpId)) → out_count tags ≡ 0 → (k : ℕ) → holder_of tags k ≡ None
no_holder [] none k = refl
no_holder (x ∷ xs) none zero = (count_zero x xs none).0
no_holder (x ∷ xs) none (suc k) = no_holder xs (count_zero x xs none).1 k

is_answered : (o : Option (ℕ × Reply)) → awaited o ≡ 0 → (a : ℕ) × (reply : Reply) × (o ≡ Some (a, reply))
is_answered None e = absurd (omega arith)
is_answered (Some (a, reply)) e = (a, reply, refl)

pub all_answered : (past : List Invocation) → unanswered past ≡ 0 → AreAnswered past
all_answered [] e i o there = absurd (cc)
all_answered (x ∷ xs) e zero o there =
    let same : x ≡ o = cc in
    let none : awaited x.answer ≡ 0 = omega arith in
    is_answered o.answer (ap (λ (y : Invocation). awaited y.answer) (sym same) ∙ none)
all_answered (x ∷ xs) e (suc i) o there = all_answered xs (omega arith) i o there

some_there : (o : Option Operation) → IsSome o → (x : Operation) × (o ≡ Some x)
some_there None h = absurd (cc)
some_there (Some x) h = (x, refl)

-- a follower of which nothing awaits an answer has finished, or an operation is ready
pub ready_with_none_out : (lines : List Line) (past : List Invocation) (f : Following) → IsFollowable lines → ShowsPast lines past f → f.waiting ≡ 0
    → is_finished f ≡ false → (o : Operation) × (next_operation_of f ≡ Some o)
ready_with_none_out lines past f accepted shows none busy =
    let waits = waiting_is lines past f accepted shows in
    some_there (next_operation_of f) (progress lines past f accepted shows (all_answered past (omega arith)) busy)
