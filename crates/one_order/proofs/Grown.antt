-- A follower that is handed a line at the end of its script.
use Rattle.std.proofs.Common.{◌≡◌, ⊎_elim, ℕ, ◌+◌, ◌-◌, ◌<◌, ◌==◌, ◌&&◌, Bool, true, false, List, [], ◌∷◌, ◌++◌, length, take, Option, Some, None, refl, sym, ◌∙◌, ap, subst, arith}
use Rattle.std.proofs.Common.{slice_get, slice_set, length-append, length-set, eqb-true}
use Rattle.std.specs.Prelude.{is_none, if◌then◌else◌}
use Rattle.std.proofs.lemmas.List.{take-append-le, take_all}
use Rattle.std.proofs.lemmas.List.Sums.{sum_by_push}
use Rattle.std.proofs.lemmas.Option.{slice_get_within}
use Rattle.packet.specs.declared.kinds.Reply.{Reply}
use Rattle.packet.specs.declared.kinds.Operation.{Operation}
use Rattle.script_lines.specs.declared.line.Line.{Line}
use Rattle.script_lines.specs.declared.line.Line.TheVariants as line
use Rattle.script_lines.specs.Lines.{operations_of, operation_count, mentions_last}
use Rattle.one_order.proofs.Lists.{get_push_cases}
use Rattle.one_order.specs.declared.spin.OpenSpin.{OpenSpin}
use Rattle.one_order.specs.Following.{Following, first_of, next_operation_of, operation_asked, ready_operation, spin_issued, ahead_issued}
use Rattle.one_order.specs.Following.{after_issue}
use Rattle.one_order.specs.Following.{past_fences, unfenced, spin_answered, other_answered, last_answered, after_answer}
use Rattle.one_order.specs.Following.{ShowsPast, starts, issues, answers, follower_with, left_of, loads_left, is_empty, is_finished}
use Rattle.one_order.specs.Scripts.{Invocation, IsFollowable}
use Rattle.one_order.proofs.Histories.{with_answer}
use Rattle.one_order.proofs.Places.{unfenced_cases, count_past_fences, count_unfenced}

-- fences in front
past_twice : (xs : List Line) → past_fences (past_fences xs) ≡ past_fences xs
past_twice [] = refl
past_twice (line.Fence ∷ xs) = past_twice xs
past_twice (first ∷ xs) = refl

past_append : (xs ys : List Line) → past_fences (past_fences xs ++ ys) ≡ past_fences (xs ++ ys)
past_append [] ys = refl
past_append (line.Fence ∷ xs) ys = past_append xs ys
past_append (first ∷ xs) ys = refl

fires : (s : Option OpenSpin) (v : ℕ) (xs : List Line) → v ≡ 0 → s ≡ None → unfenced s v xs ≡ past_fences xs
fires s v xs z n = unfenced_cases s v xs (λ ys. ys ≡ past_fences xs) (λ _ _. refl) (λ no. absurd (no z n))

waits : (s : Option OpenSpin) (v : ℕ) (xs : List Line) → unfenced s (v + 1) xs ≡ xs
waits s v xs = unfenced_cases s (v + 1) xs (λ ys. ys ≡ xs) (λ z n. absurd (omega (arith, z))) (λ no. refl)

spins : (s : OpenSpin) (v : ℕ) (xs : List Line) → unfenced (Some s) v xs ≡ xs
spins s v xs = unfenced_cases (Some s) v xs (λ ys. ys ≡ xs) (λ z n. absurd (cc)) (λ no. refl)

twice_by : (b : Bool) (xs ys : List Line)
    → (if b then past_fences ((if b then past_fences xs else xs) ++ ys) else ((if b then past_fences xs else xs) ++ ys))
    ≡ (if b then past_fences (xs ++ ys) else (xs ++ ys))
twice_by true xs ys = past_append xs ys
twice_by false xs ys = refl

twice : (s : Option OpenSpin) (v : ℕ) (xs ys : List Line)
    → unfenced s v (unfenced s v xs ++ ys) ≡ unfenced s v (xs ++ ys)
twice s v xs ys = twice_by ((v == 0) && is_none s) xs ys

-- what stands ahead after an answer
answered : (s s' : Option OpenSpin) (w : ℕ) (xs ys : List Line) → (s ≡ None → s' ≡ None)
    → unfenced s' (w - 1) (unfenced s w (xs ++ ys)) ≡ unfenced s' (w - 1) (unfenced s' (w - 1) xs ++ ys)
answered s s' w xs ys none =
    let v : ℕ = w - 1 in
    unfenced_cases s w (xs ++ ys) (λ zs. unfenced s' (w - 1) zs ≡ unfenced s' (w - 1) (unfenced s' (w - 1) xs ++ ys))
    (λ z n.
    let z' : w - 1 ≡ 0 = omega (arith, z) in
    fires s' (w - 1) (past_fences (xs ++ ys)) z' (none n)
    ∙ (past_twice (xs ++ ys) ∙ (sym (fires s' (w - 1) (xs ++ ys) z' (none n)) ∙ sym (twice s' (w - 1) xs ys))))
    (λ no. sym (twice s' (w - 1) xs ys))

-- a first line with an operation is no fence
no_fence : (x : Line) (xs : List Line) (last : Option Reply) (o : Operation) → operation_asked x last ≡ Some o
    → past_fences (x ∷ xs) ≡ x ∷ xs
no_fence line.Fence xs last o h = absurd (cc)
no_fence x xs last o h = refl

-- where an operation is ready_operation, nothing of the lines ahead is passed
still : (s : Option OpenSpin) (w : ℕ) (xs ys : List Line) (last : Option Reply) (o : Operation)
    → ready_operation s xs last ≡ Some o → unfenced s w (xs ++ ys) ≡ xs ++ ys
still (Some s) w xs ys last o h = spins s w (xs ++ ys)
still None w [] ys last o h = absurd (cc)
still None w (x ∷ xs) ys last o h =
    unfenced_cases None w (x ∷ (xs ++ ys)) (λ zs. zs ≡ x ∷ (xs ++ ys)) (λ z n. no_fence x (xs ++ ys) last o h)
    (λ no. refl)

ready_on : (s : Option OpenSpin) (xs ys : List Line) (last : Option Reply) (o : Operation) → ready_operation s xs last ≡ Some o
    → ready_operation s (xs ++ ys) last ≡ Some o
ready_on (Some s) xs ys last o h = h
ready_on None [] ys last o h = absurd (cc)
ready_on None (x ∷ xs) ys last o h = h

spin_on : (s : Option OpenSpin) (xs ys : List Line) (last : Option Reply) (o : Operation) → ready_operation s xs last ≡ Some o
    → spin_issued s (xs ++ ys) ≡ spin_issued s xs
spin_on (Some s) xs ys last o h = refl
spin_on None [] ys last o h = absurd (cc)
spin_on None (x ∷ xs) ys last o h = refl

ahead_on : (s : Option OpenSpin) (xs ys : List Line) (last : Option Reply) (o : Operation) → ready_operation s xs last ≡ Some o
    → ahead_issued s (xs ++ ys) ≡ ahead_issued s xs ++ ys
ahead_on (Some s) xs ys last o h = refl
ahead_on None [] ys last o h = absurd (cc)
ahead_on None (x ∷ xs) ys last o h = refl

pub first_with : (lines : List Line) (line : Line) → follower_with line (first_of lines) ≡ first_of (lines ++ line ∷ [])
unfolding first_of
first_with lines line =
    let made : List Line → Following = λ xs. record { ahead = xs; spin = None; issued = 0; waiting = 0; last = None } in
    ap made (past_append lines (line ∷ []))

pub next_with : (f : Following) (line : Line) (o : Operation) → next_operation_of f ≡ Some o
    → next_operation_of (follower_with line f) ≡ Some o
unfolding next_operation_of
next_with f line o h =
    ap (λ (xs : List Line). ready_operation f.spin xs f.last) (still f.spin f.waiting f.ahead (line ∷ []) f.last o h)
    ∙ ready_on f.spin f.ahead (line ∷ []) f.last o h

pub issue_with : (f : Following) (line : Line) (o : Operation) → next_operation_of f ≡ Some o
    → after_issue (follower_with line f) ≡ follower_with line (after_issue f)
unfolding next_operation_of after_issue
issue_with f line o h =
    let ys : List Line = line ∷ [] in
    let made : List Line → Option OpenSpin → Following = λ xs s. record {
      ahead = xs;
      spin = s;
      issued = f.issued + 1;
      waiting = f.waiting + 1;
      last = None;
    } in
    ap (λ (xs : List Line). made (ahead_issued f.spin xs) (spin_issued f.spin xs))
    (still f.spin f.waiting f.ahead (line ∷ []) f.last o h)
    ∙ (ap (λ (s : Option OpenSpin). made (ahead_issued f.spin (f.ahead ++ line ∷ [])) s)
    (spin_on f.spin f.ahead (line ∷ []) f.last o h)
    ∙ (ap (λ (xs : List Line). made xs (spin_issued f.spin f.ahead)) (ahead_on f.spin f.ahead (line ∷ []) f.last o h)
    ∙ ap (λ (xs : List Line). made xs (spin_issued f.spin f.ahead))
    (sym (waits (spin_issued f.spin f.ahead) f.waiting (ahead_issued f.spin f.ahead ++ line ∷ [])))))

last_with : (f : Following) (line : Line) (reply : Reply)
    → last_answered (follower_with line f) reply ≡ follower_with line (last_answered f reply)
last_with f line reply =
    let made : List Line → Following = λ xs. record {
      ahead = xs;
      spin = spin_answered f.spin reply;
      issued = f.issued;
      waiting = f.waiting - 1;
      last = Some reply;
    } in
    ap made (answered f.spin (spin_answered f.spin reply) f.waiting f.ahead (line ∷ [])
    (λ n. ap (λ (s : Option OpenSpin). spin_answered s reply) n))

other_with : (f : Following) (line : Line)
    → other_answered (follower_with line f) ≡ follower_with line (other_answered f)
other_with f line =
    let made : List Line → Following = λ xs. record {
      ahead = xs;
      spin = f.spin;
      issued = f.issued;
      waiting = f.waiting - 1;
      last = f.last;
    } in
    ap made (answered f.spin f.spin f.waiting f.ahead (line ∷ []) (λ n. n))

answer_by : (b : Bool) (f : Following) (line : Line) (reply : Reply)
    → (if b then last_answered (follower_with line f) reply else other_answered (follower_with line f))
    ≡ follower_with line (if b then last_answered f reply else other_answered f)
answer_by true f line reply = last_with f line reply
answer_by false f line reply = other_with f line

pub answer_with : (f : Following) (line : Line) (index : ℕ) (reply : Reply)
    → after_answer (follower_with line f) index reply ≡ follower_with line (after_answer f index reply)
unfolding after_answer
answer_with f line index reply = answer_by (index + 1 == f.issued) f line reply

-- what a follower shows of its script, the one with the line shows of the longer one
pub shows_with : (lines : List Line) (line : Line) (past : List Invocation) (f : Following) → ShowsPast lines past f
    → ShowsPast (lines ++ line ∷ []) past (follower_with line f)
shows_with lines line past f starts = subst (ShowsPast (lines ++ line ∷ []) []) (sym (first_with lines line)) starts
shows_with lines line past f (issues before g o t h next answered) =
    let new : Invocation = record { operation = o; issue = t; answer = None } in
    subst (ShowsPast (lines ++ line ∷ []) (before ++ new ∷ [])) (issue_with g line o next)
    (issues before (follower_with line g) o t (shows_with lines line before g h) (next_with g line o next) answered)
shows_with lines line past f (answers before g i o t reply h at open_) =
    subst (ShowsPast (lines ++ line ∷ []) (slice_set before i (with_answer o t reply))) (answer_with g line i reply)
    (answers before (follower_with line g) i o t reply (shows_with lines line before g h) at open_)

-- the longer script can be followed
pub followable_with : (lines : List Line) (added : Line) → IsFollowable lines → ((a v m : ℕ) → added ≡ line.Spin a v m → 0 < m)
    → (mentions_last added ≡ true → 0 < operation_count lines) → IsFollowable (lines ++ added ∷ [])
followable_with lines added is some last = record {
  loads = λ k a v m at. ⊎_elim (λ old. is.loads k a v m old) (λ new. some a v m new.1) (get_push_cases lines added k (line.Spin a v m) at);
  lasts = λ k first at tells. ⊎_elim
      (λ old.
      let low = slice_get_within lines k first old in
      let same = ap operation_count (take-append-le k lines (added ∷ []) (omega (arith, low))) in
      let some_before = is.lasts k first old tells in
      omega (arith, same, some_before))
      (λ new.
      let same = ap operation_count (take-append-le k lines (added ∷ []) (omega (arith, new.0))) in
      let all = ap operation_count (take_all k lines (omega (arith, new.0))) in
      let some_before = last (ap mentions_last new.1 ∙ tells) in
      omega (arith, same, all, some_before))
      (get_push_cases lines added k first at);
}

-- it allows the line's operations more
pub left_with : (f : Following) (line : Line) → left_of (follower_with line f) ≡ left_of f + operations_of line
unfolding left_of
left_with f line =
    let all = count_unfenced f.spin f.waiting (f.ahead ++ line ∷ []) in
    let more = sum_by_push operations_of f.ahead line in
    omega (arith, all, more)

-- where a script allows operations, some are issued or left
pub some_of : (lines : List Line) (past : List Invocation) (f : Following) → ShowsPast lines past f → 0 < operation_count lines
    → 0 < length past + left_of f
unfolding left_of first_of
some_of lines past f starts some = let same = count_past_fences lines in omega (arith, same, some)
some_of lines past f (issues before g o t h next answered) some =
    let new : Invocation = record { operation = o; issue = t; answer = None } in
    let more = length-append before (new ∷ []) in
    omega (arith, more)
some_of lines past f (answers before g i o t reply h at open_) some =
    let low = slice_get_within before i o at in
    let same = length-set before i (with_answer o t reply) in
    omega (arith, low, same)

-- a finished script goes on with the line
goes_on : (spin : Option OpenSpin) (ahead : List Line) (last : Option Reply) (waiting : ℕ) (added : Line)
    → (is_empty ahead && is_none spin && (waiting == 0)) ≡ true
    → ready_operation spin (unfenced spin waiting (ahead ++ added ∷ [])) last ≡ operation_asked added last
goes_on None [] last waiting added e =
    ap (λ (xs : List Line). ready_operation None xs last) (fires None waiting (added ∷ []) (eqb-true waiting 0 e) refl) ∙ alone added
  where
    alone : (first : Line) → ready_operation None (past_fences (first ∷ [])) last ≡ operation_asked first last
    alone line.Fence = refl
    alone first = refl
goes_on None (first ∷ lines) last waiting added e = cc
goes_on (Some s) [] last waiting added e = cc
goes_on (Some s) (first ∷ lines) last waiting added e = cc

pub next_at_end : (f : Following) (line : Line) → is_finished f ≡ true → next_operation_of (follower_with line f) ≡ operation_asked line f.last
unfolding is_finished next_operation_of
next_at_end f line e = goes_on f.spin f.ahead f.last f.waiting line e
