-- Where a fence stands between each two lines, each operation is answered before the next one is issued.
use Rattle.std.proofs.Common.{◌≡◌, ◌≢◌, ◌⊎◌, inl, inr, ℕ, zero, suc, ◌+◌, ◌-◌, ◌≤◌, ◌==◌, List, [], ◌∷◌, ◌++◌, length, Some}
use Rattle.std.proofs.Common.{refl, sym, ◌∙◌, ap, subst, arith, slice_get, length-append, append_assoc}
use Rattle.std.proofs.lemmas.Bool.{cases_Bool, cases_eq, MatchBool-at_true, MatchBool-at_false}
use Rattle.std.proofs.lemmas.Option.{same_Some, slice_get_within}
use Rattle.packet.specs.declared.kinds.Reply.{Reply}
use Rattle.script_lines.specs.declared.line.Line.{Line}
use Rattle.script_lines.specs.declared.line.Line.TheVariants as line
use Rattle.one_order.specs.Scripts.{Invocation, Allows, Spins, IsAnsweredBefore, AreAnsweredBefore, reply_number}
use Rattle.core_models.specs.Runs.{HasFencesBetween}
use Rattle.core_models.proofs.Courses.{get_here, get_before}

abbrev IsReplied : Invocation → Invocation → Type 0
IsReplied o q = (reply : Reply) × IsAnsweredBefore o q.issue reply

-- of neighbours from the last of the first ones on, each is answered before the next one is issued
abbrev pub TurnsFrom : List Invocation → List Invocation → Type 0
TurnsFrom past ops = (i : ℕ) (o q : Invocation) → length past ≤ i + 1 → slice_get (past ++ ops) i ≡ Some o → slice_get (past ++ ops)
    (i + 1) ≡ Some q → IsReplied o q

-- so are the last of the first ones and the next one
abbrev Joins : List Invocation → List Invocation → Type 0
Joins past ops = (i : ℕ) (o q : Invocation) → i + 1 ≡ length past → slice_get (past ++ ops) i ≡ Some o → slice_get (past ++ ops) (i + 1) ≡ Some q
    → IsReplied o q

-- a fence comes next, or they are
abbrev Starts : List Line → List Invocation → List Invocation → Type 0
Starts lines past ops = (slice_get lines 0 ≡ Some line.Fence) ⊎ Joins past ops

no_turns : (past : List Invocation) → TurnsFrom past []
no_turns past i o q low at next =
    let within = slice_get_within (past ++ []) (i + 1) q next in
    let l = length-append past [] in
    absurd (omega (arith, within, l, low))

more_turns : (past : List Invocation) (o : Invocation) (ops : List Invocation) → Joins past (o ∷ ops) → TurnsFrom (past ++ o ∷ []) ops
    → TurnsFrom past (o ∷ ops)
more_turns past o ops joins turns i x q low at next = elim (cases_eq (i + 1) (length past)) [
  | inl same ↦ joins i x q same at next
  | inr other ↦ (let l = length-append past (o ∷ []) in
      turns i x q (omega (arith, low, other, l)) (subst (λ xs. slice_get xs i ≡ Some x) (sym (append_assoc past (o ∷ []) ops)) at)
      (subst (λ xs. slice_get xs (i + 1) ≡ Some q) (sym (append_assoc past (o ∷ []) ops)) next))
]

-- a fence
fence_joins : (past : List Invocation) (q : Invocation) (ops : List Invocation) → AreAnsweredBefore past q.issue → Joins past (q ∷ ops)
fence_joins past q ops all i o z end at next =
    let same : q ≡ z = same_Some q z (sym (get_here past q ops (i + 1) end) ∙ next) in
    subst (λ y. IsReplied o y) same (all i o (get_before past (q ∷ ops) i o (omega (arith, end)) at))

-- what follows a line that is no fence
next_starts : (first : Line) (lines : List Line) (past ops : List Invocation) → first ≢ line.Fence → HasFencesBetween (first ∷ lines) → Allows lines past ops
    → Starts lines past ops
next_starts first [] past [] none fences h = inr (λ i o q end at next. no_turns past i o q (omega (arith, end)) at next)
next_starts first [] past (o ∷ ops) none fences h = absurd h
next_starts first (second ∷ lines) past ops none fences h = elim (fences 0 first second refl refl) [
  | inl bad ↦ absurd (none bad)
  | inr is ↦ inl (ap Some is)
]

rest_fenced : (first : Line) (lines : List Line) → HasFencesBetween (first ∷ lines) → HasFencesBetween lines
rest_fenced first lines fences k a b at next = fences (suc k) a b at next

abbrev Turns : List Line → Type 0
Turns lines = (past ops : List Invocation) → Allows lines past ops → Starts lines past ops → TurnsFrom past ops

line_turns : (first : Line) (lines : List Line) → first ≢ line.Fence → HasFencesBetween (first ∷ lines) → Turns lines → (past : List Invocation)
    (o : Invocation) (ops : List Invocation) → Starts (first ∷ lines) past (o ∷ ops) → Allows lines (past ++ o ∷ []) ops → TurnsFrom past (o ∷ ops)
line_turns first lines none fences turns past o ops (inl is) h = absurd (none (same_Some first line.Fence is))
line_turns first lines none fences turns past o ops (inr joins) h =
    more_turns past o ops joins (turns (past ++ o ∷ []) ops h (next_starts first lines (past ++ o ∷ []) ops none fences h))

spin_turns : (a v : ℕ) (lines : List Line) → Turns lines → (most : ℕ) (past ops : List Invocation) → Spins a v most (Allows lines) past ops → Joins past ops
    → TurnsFrom past ops
spin_turns a v lines turns zero past ops h joins = turns past ops h (inr joins)
spin_turns a v lines turns (suc most) past [] h joins = no_turns past
spin_turns a v lines turns (suc most) past (o ∷ []) h joins = more_turns past o [] joins (no_turns (past ++ o ∷ []))
spin_turns a v lines turns (suc most) past (o ∷ q ∷ ops) h joins =
    let after = h.1 in
    let reply : Reply = after.0 in
    let last = after.1 in
    let again : Joins (past ++ o ∷ []) (q ∷ ops) = λ i x z end at next. (
    let here = get_before (past ++ o ∷ []) (q ∷ ops) i x (omega (arith, end)) at in
    let place : length (past ++ o ∷ []) - 1 ≡ i = omega (arith, end) in
    let it : slice_get (past ++ o ∷ []) i ≡ Some last.0 = subst (λ k. slice_get (past ++ o ∷ []) k ≡ Some last.0) place last.1 in
    let same : last.0 ≡ x = same_Some last.0 x (sym it ∙ here) in
    let later : q ≡ z = same_Some q z (sym (get_here (past ++ o ∷ []) q ops (i + 1) end) ∙ next) in
    subst (λ y. IsReplied y z) same (subst (λ y. IsReplied last.0 y) later (reply, last.2))) in
    more_turns past o (q ∷ ops) joins (elim (cases_Bool (reply_number reply == v)) [
      | inl done ↦ turns (past ++ o ∷ []) (q ∷ ops)
          (MatchBool-at_true (Allows lines (past ++ o ∷ []) (q ∷ ops)) (Spins a v most (Allows lines) (past ++ o ∷ []) (q ∷ ops)) done after.2) (inr again)
      | inr more ↦ spin_turns a v lines turns most (past ++ o ∷ []) (q ∷ ops)
          (MatchBool-at_false (Allows lines (past ++ o ∷ []) (q ∷ ops)) (Spins a v most (Allows lines) (past ++ o ∷ []) (q ∷ ops)) more after.2) again
    ])

pub apart_turns : (lines : List Line) → HasFencesBetween lines → Turns lines
apart_turns [] fences past [] h starts = no_turns past
apart_turns [] fences past (o ∷ ops) h starts = absurd h
apart_turns (line.Fence ∷ lines) fences past [] h starts = no_turns past
apart_turns (line.Fence ∷ lines) fences past (o ∷ ops) h starts =
    apart_turns lines (rest_fenced line.Fence lines fences) past (o ∷ ops) h.1 (inr (fence_joins past o ops h.0))
apart_turns (line.Spin a v m ∷ lines) fences past ops h (inl is) = (let bad = same_Some (line.Spin a v m) line.Fence is in absurd (cc))
apart_turns (line.Spin a v m ∷ lines) fences past ops h (inr joins) =
    spin_turns a v lines (apart_turns lines (rest_fenced (line.Spin a v m) lines fences)) m past ops h joins
apart_turns (line.Load a ∷ lines) fences past [] h starts = no_turns past
apart_turns (line.Load a ∷ lines) fences past (o ∷ ops) h starts =
    line_turns (line.Load a) lines (λ (e : line.Load a ≡ line.Fence). cc) fences (apart_turns lines (rest_fenced
    (line.Load a) lines fences)) past o ops starts h.1
apart_turns (line.Store a v ∷ lines) fences past [] h starts = no_turns past
apart_turns (line.Store a v ∷ lines) fences past (o ∷ ops) h starts =
    line_turns (line.Store a v) lines (λ (e : line.Store a v ≡ line.Fence). cc) fences (apart_turns lines (rest_fenced
    (line.Store a v) lines fences)) past o ops starts h.1
apart_turns (line.Swap a v ∷ lines) fences past [] h starts = no_turns past
apart_turns (line.Swap a v ∷ lines) fences past (o ∷ ops) h starts =
    line_turns (line.Swap a v) lines (λ (e : line.Swap a v ≡ line.Fence). cc) fences (apart_turns lines (rest_fenced
    (line.Swap a v) lines fences)) past o ops starts h.1
apart_turns (line.Cas a e n ∷ lines) fences past [] h starts = no_turns past
apart_turns (line.Cas a e n ∷ lines) fences past (o ∷ ops) h starts =
    line_turns (line.Cas a e n) lines (λ (e : line.Cas a e n ≡ line.Fence). cc) fences (apart_turns lines (rest_fenced
    (line.Cas a e n) lines fences)) past o ops starts h.1
apart_turns (line.Add a v ∷ lines) fences past [] h starts = no_turns past
apart_turns (line.Add a v ∷ lines) fences past (o ∷ ops) h starts =
    line_turns (line.Add a v) lines (λ (e : line.Add a v ≡ line.Fence). cc) fences (apart_turns lines (rest_fenced
    (line.Add a v) lines fences)) past o ops starts h.1
apart_turns (line.And a v ∷ lines) fences past [] h starts = no_turns past
apart_turns (line.And a v ∷ lines) fences past (o ∷ ops) h starts =
    line_turns (line.And a v) lines (λ (e : line.And a v ≡ line.Fence). cc) fences (apart_turns lines (rest_fenced
    (line.And a v) lines fences)) past o ops starts h.1
apart_turns (line.Or a v ∷ lines) fences past [] h starts = no_turns past
apart_turns (line.Or a v ∷ lines) fences past (o ∷ ops) h starts =
    line_turns (line.Or a v) lines (λ (e : line.Or a v ≡ line.Fence). cc) fences (apart_turns lines (rest_fenced
    (line.Or a v) lines fences)) past o ops starts h.1
apart_turns (line.Xor a v ∷ lines) fences past [] h starts = no_turns past
apart_turns (line.Xor a v ∷ lines) fences past (o ∷ ops) h starts =
    line_turns (line.Xor a v) lines (λ (e : line.Xor a v ≡ line.Fence). cc) fences (apart_turns lines (rest_fenced
    (line.Xor a v) lines fences)) past o ops starts h.1
apart_turns (line.Max a v ∷ lines) fences past [] h starts = no_turns past
apart_turns (line.Max a v ∷ lines) fences past (o ∷ ops) h starts =
    line_turns (line.Max a v) lines (λ (e : line.Max a v ≡ line.Fence). cc) fences (apart_turns lines (rest_fenced
    (line.Max a v) lines fences)) past o ops starts h.1
apart_turns (line.Min a v ∷ lines) fences past [] h starts = no_turns past
apart_turns (line.Min a v ∷ lines) fences past (o ∷ ops) h starts =
    line_turns (line.Min a v) lines (λ (e : line.Min a v ≡ line.Fence). cc) fences (apart_turns lines (rest_fenced
    (line.Min a v) lines fences)) past o ops starts h.1
