-- What the steps of a program say of the operations that follow a script.
use Rattle.std.proofs.Common.{◌≡◌, inl, inr, ℕ, zero, suc, ◌+◌, ◌-◌, ◌<◌, ◌≤◌, ◌==◌, cond, List, [], ◌∷◌, ◌++◌, length, map}
use Rattle.std.proofs.Common.{Option, Some, refl, sym, ◌∙◌, ap, subst, arith, slice_get, length-append, append_assoc}
use Rattle.std.specs.Prelude.{option_map}
use Rattle.std.proofs.lemmas.Bool.{cases_Bool, cases_eq, cond-true, cond-false, MatchBool-at_true, MatchBool-at_false}
use Rattle.std.proofs.lemmas.Option.{same_Some, slice_get_within}
use Rattle.packet.specs.declared.kinds.Reply.{Reply}
use Rattle.script_lines.specs.declared.line.Line.{Line}
use Rattle.script_lines.specs.declared.line.Line.TheVariants as line
use Rattle.one_order.specs.Scripts.{Invocation, Allows, Spins, IsLastReply, IsAnsweredBefore, AreAnsweredBefore, reply_of, reply_number}
use Rattle.one_order.proofs.Residual.{allows_nothing}
use Rattle.one_order.proofs.Lists.{get_push}
use Rattle.core_models.specs.Programs.{ProgramStep, Made, Fenced, brings, one_step, spin_steps, steps_of_lines}
use Rattle.core_models.proofs.Rising.{Each, Rising, Has, each_weaker}

-- how many operations are before a step, and how many are before what follows it
abbrev pub ahead_of : ProgramStep → ℕ
ahead_of (Made i) = i
ahead_of (Fenced c) = c

abbrev pub upto : ProgramStep → ℕ
upto (Made i) = i + 1
upto (Fenced c) = c

abbrev pub IsLaterStep : ProgramStep → ProgramStep → Type 0
IsLaterStep x y = upto x ≤ ahead_of y

-- of a processor's operations the first ones, so many, are answered before the next one is issued
abbrev pub HoldsBack : List Invocation → ℕ → Type 0
HoldsBack ops c = (j : ℕ) (o q : Invocation) → j < c → slice_get ops j ≡ Some o → slice_get ops c ≡ Some q
    → (reply : Reply) × IsAnsweredBefore o q.issue reply

-- the steps of a program from the operation of an index on
abbrev pub Course : List Invocation → ℕ → List ProgramStep → Type 0
Course all i [] = length all ≤ i
Course all i (Made k ∷ steps) = (k ≡ i) × Course all (i + 1) steps
Course all i (Fenced c ∷ steps) = (c ≡ i) × HoldsBack all c × Course all i steps

pub each_ahead : (all : List Invocation) (i : ℕ) (steps : List ProgramStep) → Course all i steps → Each (λ s. i ≤ ahead_of s) steps
each_ahead all i [] c = tt
each_ahead all i (Made k ∷ steps) c =
    let e = c.0 in
    (omega (arith, e), each_weaker (λ s. i + 1 ≤ ahead_of s) (λ s. i ≤ ahead_of s) steps (λ s h. omega (arith, h)) (each_ahead all (i + 1) steps c.1))
each_ahead all i (Fenced b ∷ steps) c = let e = c.0 in (omega (arith, e), each_ahead all i steps c.2)

pub steps_rise : (all : List Invocation) (i : ℕ) (steps : List ProgramStep) → Course all i steps → Rising IsLaterStep steps
steps_rise all i [] c = tt
steps_rise all i (Made k ∷ steps) c =
    let e = c.0 in (
      each_weaker (λ s. i + 1 ≤ ahead_of s) (λ s. k + 1 ≤ ahead_of s) steps (λ s h. omega (arith, h, e)) (each_ahead all (i + 1) steps c.1),
      steps_rise all (i + 1) steps c.1,
    )
steps_rise all i (Fenced b ∷ steps) c =
    let e = c.0 in
    (each_weaker (λ s. i ≤ ahead_of s) (λ s. b ≤ ahead_of s) steps (λ s h. omega (arith, h, e)) (each_ahead all i steps c.2), steps_rise all i steps c.2)

-- what each step says
abbrev pub IsProved : List Invocation → ProgramStep → Type 0
IsProved all (Made i) = Unit {0}
IsProved all (Fenced c) = HoldsBack all c

pub each_proved : (all : List Invocation) (i : ℕ) (steps : List ProgramStep) → Course all i steps → Each (IsProved all) steps
each_proved all i [] c = tt
each_proved all i (Made k ∷ steps) c = (tt, each_proved all (i + 1) steps c.1)
each_proved all i (Fenced b ∷ steps) c = (c.1, each_proved all i steps c.2)

-- each operation has its step
pub all_made : (all : List Invocation) (i : ℕ) (steps : List ProgramStep) → Course all i steps → (k : ℕ) → i ≤ k → k < length all → Has steps (Made k)
all_made all i [] c k from less = absurd (omega (arith, c, from, less))
all_made all i (Made j ∷ steps) c k from less = elim (cases_eq i k) [
  | inl same ↦ inl (ap Made (c.0 ∙ same))
  | inr other ↦ inr (all_made all (i + 1) steps c.1 k (omega (arith, from, other)) less)
]
all_made all i (Fenced b ∷ steps) c k from less = inr (all_made all i steps c.2 k from less)

-- what stands in two lists that are joined
pub get_here : {A : Type 0} (past : List A) (o : A) (ops : List A) (i : ℕ) → i ≡ length past → slice_get (past ++ o ∷ ops) i ≡ Some o
get_here [] o ops zero e = refl
get_here [] o ops (suc i) e = absurd (omega arith)
get_here (x ∷ past) o ops zero e = absurd (omega arith)
get_here (x ∷ past) o ops (suc i) e = get_here past o ops i (omega arith)

pub get_before : {A : Type 0} (past ops : List A) (j : ℕ) (o : A) → j < length past → slice_get (past ++ ops) j ≡ Some o → slice_get past j ≡ Some o
get_before [] ops j o less h = absurd (omega arith)
get_before (x ∷ past) ops zero o less h = h
get_before (x ∷ past) ops (suc j) o less h = get_before past ops j o (omega arith) h

length_push : {A : Type 0} (past : List A) (o : A) (i : ℕ) → i ≡ length past → i + 1 ≡ length (past ++ o ∷ [])
length_push past o i e = let l = length-append past (o ∷ []) in omega (arith, e, l)

-- a script that is followed from some lines on gives the steps of these lines
abbrev Gives : List Invocation → (List Invocation → List Invocation → Type 0) → (ℕ → List (Option Reply) → List ProgramStep) → Type 0
Gives all Follows over = (past ops : List Invocation) (i : ℕ) → all ≡ past ++ ops → i ≡ length past → Follows past ops
    → Course all i (over i (map reply_of ops))

none_left : {A : Type 0} (all past : List A) (i : ℕ) → all ≡ past ++ [] → i ≡ length past → length all ≤ i
none_left all past i is at = let l : length all ≡ length (past ++ []) = ap length is in let m = length-append past [] in omega (arith, l, m, at)

-- a line of one operation
one_course : (all : List Invocation) (lines : List Line) → Gives all (Allows lines) (steps_of_lines lines) → (past : List Invocation) (o : Invocation)
    (ops : List Invocation) (i : ℕ) → all ≡ past ++ o ∷ ops → i ≡ length past → Allows lines (past ++ o ∷ []) ops
    → Course all i (one_step (steps_of_lines lines) i (map reply_of (o ∷ ops)))
one_course all lines gives past o ops i is at h =
    (refl, gives (past ++ o ∷ []) ops (i + 1) (is ∙ sym (append_assoc past (o ∷ []) ops)) (length_push past o i at) h)

-- the reply to the last one
reply_last : (past : List Invocation) (o : Invocation) (t : ℕ) (reply : Reply) → IsLastReply (past ++ o ∷ []) t reply → reply_of o ≡ Some reply
reply_last past o t reply h =
    let l = length-append past (o ∷ []) in
    let place : length (past ++ o ∷ []) - 1 ≡ length past = omega (arith, l) in
    let it : slice_get (past ++ o ∷ []) (length past) ≡ Some h.0 = subst (λ k. slice_get (past ++ o ∷ []) k ≡ Some h.0) place h.1 in
    let same : o ≡ h.0 = same_Some o h.0 (sym (get_push past o) ∙ it) in
    ap (λ (x : Invocation). reply_of x) same ∙ ap (option_map (λ a. a.1)) h.2.1

-- the loads of a spin
spin_course : (all : List Invocation) (a v : ℕ) (lines : List Line) → Gives all (Allows lines) (steps_of_lines lines) → (most : ℕ)
    → Gives all (Spins a v most (Allows lines)) (spin_steps v most (steps_of_lines lines))
spin_course all a v lines gives zero past ops i is at h = gives past ops i is at h
spin_course all a v lines gives (suc most) past [] i is at h = none_left all past i is at
spin_course all a v lines gives (suc most) past (o ∷ []) i is at h =
    let rest : List ProgramStep = cond (brings v (reply_of o)) (steps_of_lines lines (i + 1) []) (spin_steps v most (steps_of_lines lines) (i + 1) []) in
    let joined = is ∙ sym (append_assoc past (o ∷ []) []) in (
      refl,
      elim (cases_Bool (brings v (reply_of o))) [
        | inl done ↦ subst (Course all (i + 1)) (sym (cond-true (brings v (reply_of o)) (steps_of_lines lines (i + 1) []) (spin_steps v most
            (steps_of_lines lines) (i + 1) []) done))
            (gives (past ++ o ∷ []) [] (i + 1) joined (length_push past o i at) (allows_nothing lines (past ++ o ∷ [])))
        | inr more ↦ subst (Course all (i + 1)) (sym (cond-false (brings v (reply_of o)) (steps_of_lines lines (i + 1) []) (spin_steps v most
            (steps_of_lines lines) (i + 1) []) more))
            (spin_course all a v lines gives most (past ++ o ∷ []) [] (i + 1) joined (length_push past o i at) (spins_nothing a v lines most
            (past ++ o ∷ [])))
      ],
    )
  where
    spins_nothing : (a v : ℕ) (lines : List Line) (most : ℕ) (past : List Invocation) → Spins a v most (Allows lines) past []
    spins_nothing a v lines zero past = allows_nothing lines past
    spins_nothing a v lines (suc most) past = tt
spin_course all a v lines gives (suc most) past (o ∷ q ∷ ops) i is at h =
    let after = h.1 in
    let reply : Reply = after.0 in
    let rs : List (Option Reply) = map reply_of (q ∷ ops) in
    let rest : List ProgramStep = cond (brings v (reply_of o)) (steps_of_lines lines (i + 1) rs) (spin_steps v most (steps_of_lines lines) (i + 1) rs) in
    let joined = is ∙ sym (append_assoc past (o ∷ []) (q ∷ ops)) in
    let same : brings v (reply_of o) ≡ (reply_number reply == v) = ap (brings v) (reply_last past o q.issue reply after.1) in (
      refl,
      elim (cases_Bool (reply_number reply == v)) [
        | inl done ↦ subst (Course all (i + 1)) (sym (cond-true (brings v (reply_of o)) (steps_of_lines lines (i + 1) rs) (spin_steps v most
            (steps_of_lines lines) (i + 1) rs) (same ∙ done)))
            (gives (past ++ o ∷ []) (q ∷ ops) (i + 1) joined (length_push past o i at)
            (MatchBool-at_true (Allows lines (past ++ o ∷ []) (q ∷ ops)) (Spins a v most (Allows lines) (past ++ o ∷ []) (q ∷ ops)) done after.2))
        | inr more ↦ subst (Course all (i + 1)) (sym (cond-false (brings v (reply_of o)) (steps_of_lines lines (i + 1) rs) (spin_steps v most
            (steps_of_lines lines) (i + 1) rs) (same ∙ more)))
            (spin_course all a v lines gives most (past ++ o ∷ []) (q ∷ ops) (i + 1) joined (length_push past o i at)
            (MatchBool-at_false (Allows lines (past ++ o ∷ []) (q ∷ ops)) (Spins a v most (Allows lines) (past ++ o ∷ []) (q ∷ ops)) more after.2))
      ],
    )

-- a fence is past where all before it is answered
fence_holds : (all past : List Invocation) (o : Invocation) (ops : List Invocation) (i : ℕ) → all ≡ past ++ o ∷ ops → i ≡ length past
    → AreAnsweredBefore past o.issue → HoldsBack all i
fence_holds all past o ops i is at h j x q less there next =
    let mine : slice_get (past ++ o ∷ ops) j ≡ Some x = subst (λ (l : List Invocation). slice_get l j ≡ Some x) is there in
    let last : slice_get (past ++ o ∷ ops) i ≡ Some q = subst (λ (l : List Invocation). slice_get l i ≡ Some q) is next in
    let same : o ≡ q = same_Some o q (sym (get_here past o ops i at) ∙ last) in
    subst (λ (z : Invocation). (reply : Reply) × IsAnsweredBefore x z.issue reply) same (h j x (get_before past (o ∷ ops) j x (omega (arith, less, at)) mine))

fence_ends : (all past : List Invocation) (i : ℕ) → all ≡ past ++ [] → i ≡ length past → HoldsBack all i
fence_ends all past i is at j x q less there next =
    let none = none_left all past i is at in
    let within = slice_get_within all i q next in
    absurd (omega (arith, none, within))

pub course : (all : List Invocation) (lines : List Line) → Gives all (Allows lines) (steps_of_lines lines)
course all [] past [] i is at h = none_left all past i is at
course all [] past (o ∷ ops) i is at h = absurd h
course all (line.Fence ∷ lines) past [] i is at h =
    (refl, fence_ends all past i is at, course all lines past [] i is at (allows_nothing lines past))
course all (line.Fence ∷ lines) past (o ∷ ops) i is at h =
    (refl, fence_holds all past o ops i is at h.0, course all lines past (o ∷ ops) i is at h.1)
course all (line.Spin a v m ∷ lines) past ops i is at h = spin_course all a v lines (course all lines) m past ops i is at h
course all (line.Load a ∷ lines) past [] i is at h = none_left all past i is at
course all (line.Load a ∷ lines) past (o ∷ ops) i is at h = one_course all lines (course all lines) past o ops i is at h.1
course all (line.Store a v ∷ lines) past [] i is at h = none_left all past i is at
course all (line.Store a v ∷ lines) past (o ∷ ops) i is at h = one_course all lines (course all lines) past o ops i is at h.1
course all (line.Swap a v ∷ lines) past [] i is at h = none_left all past i is at
course all (line.Swap a v ∷ lines) past (o ∷ ops) i is at h = one_course all lines (course all lines) past o ops i is at h.1
course all (line.Cas a e n ∷ lines) past [] i is at h = none_left all past i is at
course all (line.Cas a e n ∷ lines) past (o ∷ ops) i is at h = one_course all lines (course all lines) past o ops i is at h.1
course all (line.Add a v ∷ lines) past [] i is at h = none_left all past i is at
course all (line.Add a v ∷ lines) past (o ∷ ops) i is at h = one_course all lines (course all lines) past o ops i is at h.1
course all (line.And a v ∷ lines) past [] i is at h = none_left all past i is at
course all (line.And a v ∷ lines) past (o ∷ ops) i is at h = one_course all lines (course all lines) past o ops i is at h.1
course all (line.Or a v ∷ lines) past [] i is at h = none_left all past i is at
course all (line.Or a v ∷ lines) past (o ∷ ops) i is at h = one_course all lines (course all lines) past o ops i is at h.1
course all (line.Xor a v ∷ lines) past [] i is at h = none_left all past i is at
course all (line.Xor a v ∷ lines) past (o ∷ ops) i is at h = one_course all lines (course all lines) past o ops i is at h.1
course all (line.Max a v ∷ lines) past [] i is at h = none_left all past i is at
course all (line.Max a v ∷ lines) past (o ∷ ops) i is at h = one_course all lines (course all lines) past o ops i is at h.1
course all (line.Min a v ∷ lines) past [] i is at h = none_left all past i is at
course all (line.Min a v ∷ lines) past (o ∷ ops) i is at h = one_course all lines (course all lines) past o ops i is at h.1
