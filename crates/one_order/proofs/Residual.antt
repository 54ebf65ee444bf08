-- What a script still allows after the operations so far, however many more of these are answered.
use Rattle.std.proofs.Common.{◌≡◌, ℕ, zero, suc, ◌-◌, ◌<◌, ◌==◌, ◌||◌, Bool, true, false, List, [], ◌∷◌, ◌++◌, Option, Some, None, refl, sym, ◌∙◌, ap, subst}
use Rattle.std.proofs.Common.{arith, append_assoc, sub-one, eqb-true}
use Rattle.std.specs.Bool.{MatchBool}
use Rattle.std.proofs.lemmas.Bool.{MatchBool-at_false}
use Rattle.std.proofs.lemmas.Option.{same_Some}
use Rattle.packet.specs.declared.kinds.Op.TheVariants as op
use Rattle.packet.specs.declared.kinds.Reply.{Reply}
use Rattle.packet.specs.declared.kinds.Operation.{Operation}
use Rattle.script_lines.specs.declared.line.Line.{Line}
use Rattle.script_lines.specs.declared.line.Line.TheVariants as line
use Rattle.one_order.specs.declared.spin.OpenSpin.{OpenSpin}
use Rattle.one_order.specs.Scripts.{Invocation, reply_number, IsLastReply, AfterLoad, Spins, Allows, FollowsScript, AreAnsweredBefore, AreAnswersBefore}
use Rattle.one_order.specs.Scripts.{AreAnswered, last_reply}
use Rattle.one_order.specs.Following.{ready_operation, spin_issued, ahead_issued, past_fences}
use Rattle.one_order.proofs.Operations.{IsKnown, IsShown, line_to, line_from}
use Rattle.one_order.proofs.Histories.{IsSame, Extends, extends_trans, extends_more, answers_before_less, all_answered_before, HasLastReply}
use Rattle.one_order.proofs.Histories.{last_reply_before, last_reply_kept, last_reply_unique, last_known}

-- what may come next, from a spin that isn't over or the lines ahead
abbrev pub Continues : Option OpenSpin → List Line → List Invocation → List Invocation → Type 0
Continues None ahead past ops = Allows ahead past ops
Continues (Some s) ahead past ops = AfterLoad s.sought (Allows ahead) (Spins s.address s.sought s.left (Allows ahead)) past ops

-- the first of these is issued after every answer so far
abbrev pub IsLater : List Invocation → List Invocation → Type 0
IsLater past [] = Unit {0}
IsLater past (o ∷ ops) = AreAnswersBefore past o.issue

-- after the operations so far the script allows what these may bring next, however many more are answered
pub record Leads (lines : List Line) (past : List Invocation) (spin : Option OpenSpin) (ahead : List Line) : Type 0 where
  pub to : (q ops : List Invocation) → Extends past q → IsLater past ops → Continues spin ahead q ops → FollowsScript lines (q ++ ops)
  pub from : (q ops : List Invocation) → Extends past q → FollowsScript lines (q ++ ops) → Continues spin ahead q ops

-- nothing is always allowed
spins_nothing : (a v m : ℕ) (over : List Invocation → List Invocation → Type 0) (past : List Invocation) → over past [] → Spins a v m over past []
spins_nothing a v zero over past h = h
spins_nothing a v (suc m) over past h = tt

pub allows_nothing : (lines : List Line) (past : List Invocation) → Allows lines past []
allows_nothing [] past = tt
allows_nothing (line.Fence ∷ lines) past = tt
allows_nothing (line.Spin a v m ∷ lines) past = spins_nothing a v m (Allows lines) past (allows_nothing lines past)
allows_nothing (first ∷ lines) past = tt

pub continues_nothing : (spin : Option OpenSpin) (ahead : List Line) (past : List Invocation) → Continues spin ahead past []
continues_nothing None ahead past = allows_nothing ahead past
continues_nothing (Some s) ahead past = tt

-- fences in front hold nothing back when all is answered
fences_before : (ahead : List Line) (q : List Invocation) (o : Invocation) (ops : List Invocation) → AreAnsweredBefore q o.issue →
    Allows (past_fences ahead) q (o ∷ ops) → Allows ahead q (o ∷ ops)
fences_before [] q o ops h k = k
fences_before (line.Fence ∷ lines) q o ops h k = (h, fences_before lines q o ops h k)
fences_before (first ∷ lines) q o ops h k = k

fences_behind : (ahead : List Line) (q : List Invocation) (o : Invocation) (ops : List Invocation) →
    Allows ahead q (o ∷ ops) → Allows (past_fences ahead) q (o ∷ ops)
fences_behind [] q o ops k = k
fences_behind (line.Fence ∷ lines) q o ops k = fences_behind lines q o ops k.1
fences_behind (first ∷ lines) q o ops k = k

unfence_to : (lines : List Line) (past : List Invocation) (ahead : List Line) → Leads lines past None ahead → AreAnswered past →
    (q ops : List Invocation) → Extends past q → IsLater past ops → Allows (past_fences ahead) q ops → FollowsScript lines (q ++ ops)
unfence_to lines past ahead h answered q [] e later k = h.to q [] e tt (allows_nothing ahead q)
unfence_to lines past ahead h answered q (o ∷ ops) e later k =
    h.to q (o ∷ ops) e later (fences_before ahead q o ops (all_answered_before past q o.issue e answered later) k)

unfence_from : (lines : List Line) (past : List Invocation) (ahead : List Line) → Leads lines past None ahead →
    (q ops : List Invocation) → Extends past q → FollowsScript lines (q ++ ops) → Allows (past_fences ahead) q ops
unfence_from lines past ahead h q [] e k = allows_nothing (past_fences ahead) q
unfence_from lines past ahead h q (o ∷ ops) e k = fences_behind ahead q o ops (h.from q (o ∷ ops) e k)

pub leads_past_fences : (lines : List Line) (past : List Invocation) (ahead : List Line) → Leads lines past None ahead → AreAnswered past →
    Leads lines past None (past_fences ahead)
leads_past_fences lines past ahead h answered = record { to = unfence_to lines past ahead h answered; from = unfence_from lines past ahead h }

-- the start
start_to : (lines : List Line) (q ops : List Invocation) → Extends [] q → Allows lines q ops → FollowsScript lines (q ++ ops)
start_to lines [] ops e k = k
start_to lines (p ∷ q) ops e k = absurd e

start_from : (lines : List Line) (q ops : List Invocation) → Extends [] q → FollowsScript lines (q ++ ops) → Allows lines q ops
start_from lines [] ops e k = k
start_from lines (p ∷ q) ops e k = absurd e

pub leads_start : (lines : List Line) → Leads lines [] None lines
leads_start lines = record { to = λ q ops e later k. start_to lines q ops e k; from = start_from lines }

-- one more answer
later_less : (past q ops : List Invocation) → Extends past q → IsLater q ops → IsLater past ops
later_less past q [] e h = tt
later_less past q (o ∷ ops) e h = answers_before_less past q o.issue e h

pub leads_on : (lines : List Line) (past q : List Invocation) (spin : Option OpenSpin) (ahead : List Line) → Leads lines past spin ahead → Extends past q →
    Leads lines q spin ahead
leads_on lines past q spin ahead h e = record {
  to = λ r ops k later c. h.to r ops (extends_trans past q r e k) (later_less past q ops e later) c;
  from = λ r ops k c. h.from r ops (extends_trans past q r e k) c;
}

-- the answer that ends a spin
ended_to : (b : Bool) (a v left : ℕ) (over : List Invocation → List Invocation → Type 0) (past ops : List Invocation) →
    (b || (left == 0)) ≡ true → over past ops → MatchBool b (over past ops) (Spins a v left over past ops)
ended_to true a v left over past ops h k = k
ended_to false a v zero over past ops h k = k
ended_to false a v (suc n) over past ops h k = absurd (let e = eqb-true (suc n) 0 h in omega arith)

ended_from : (b : Bool) (a v left : ℕ) (over : List Invocation → List Invocation → Type 0) (past ops : List Invocation) →
    (b || (left == 0)) ≡ true → MatchBool b (over past ops) (Spins a v left over past ops) → over past ops
ended_from true a v left over past ops h k = k
ended_from false a v zero over past ops h k = k
ended_from false a v (suc n) over past ops h k = absurd (let e = eqb-true (suc n) 0 h in omega arith)

over_to : (lines : List Line) (past : List Invocation) (s : OpenSpin) (ahead : List Line) (reply : Reply) → Leads lines past (Some s) ahead →
    HasLastReply past reply → ((reply_number reply == s.sought) || (s.left == 0)) ≡ true →
    (q ops : List Invocation) → Extends past q → IsLater past ops → Allows ahead q ops → FollowsScript lines (q ++ ops)
over_to lines past s ahead reply h last ends q [] e later k = h.to q [] e tt tt
over_to lines past s ahead reply h last ends q (o ∷ ops) e later k = h.to q (o ∷ ops) e later (
  reply,
  last_reply_before past q o.issue reply e last later,
  ended_to (reply_number reply == s.sought) s.address s.sought s.left (Allows ahead) q (o ∷ ops) ends k,
)

over_from : (lines : List Line) (past : List Invocation) (s : OpenSpin) (ahead : List Line) (reply : Reply) → Leads lines past (Some s) ahead →
    HasLastReply past reply → ((reply_number reply == s.sought) || (s.left == 0)) ≡ true →
    (q ops : List Invocation) → Extends past q → FollowsScript lines (q ++ ops) → Allows ahead q ops
over_from lines past s ahead reply h last ends q [] e k = allows_nothing ahead q
over_from lines past s ahead reply h last ends q (o ∷ ops) e k =
    let c = h.from q (o ∷ ops) e k in
    let same = last_reply_unique q o.issue c.0 reply c.1 (last_reply_kept past q reply e last) in
    ended_from (reply_number reply == s.sought) s.address s.sought s.left (Allows ahead) q (o ∷ ops) ends
    (subst (λ (r : Reply). MatchBool (reply_number r == s.sought) (Allows ahead q (o ∷ ops)) (Spins s.address s.sought s.left (Allows ahead) q (o ∷ ops))) same
    c.2)

pub leads_over : (lines : List Line) (past : List Invocation) (s : OpenSpin) (ahead : List Line) (reply : Reply) → Leads lines past (Some s) ahead →
    HasLastReply past reply → ((reply_number reply == s.sought) || (s.left == 0)) ≡ true → Leads lines past None ahead
leads_over lines past s ahead reply h last ends =
    record { to = over_to lines past s ahead reply h last ends; from = over_from lines past s ahead reply h last ends }

-- a spin line makes at least one load
abbrev pub HasLoads : Line → Type 0
HasLoads (line.Spin a v m) = 0 < m
HasLoads first = Unit {0}

abbrev pub BeginsWithLoads : List Line → Type 0
BeginsWithLoads [] = Unit {0}
BeginsWithLoads (first ∷ lines) = HasLoads first

-- an open spin wants another load when its last one is answered
abbrev pub WantsLoad : Option OpenSpin → Option Reply → Type 0
WantsLoad None last = Unit {0}
WantsLoad (Some s) None = Unit {0}
WantsLoad (Some s) (Some reply) = ((reply_number reply == s.sought) ≡ false) × (0 < s.left)

spins_to : (a v left : ℕ) (over : List Invocation → List Invocation → Type 0) (q : List Invocation) (o : Invocation) (ops : List Invocation) → 0 < left →
    o.operation ≡ record { address = a; op = op.Load } → AfterLoad v over (Spins a v (left - 1) over) (q ++ o ∷ []) ops → Spins a v left over q (o ∷ ops)
spins_to a v zero over q o ops h e k = absurd (omega arith)
spins_to a v (suc n) over q o ops h e k = (e, subst (λ (m : ℕ). AfterLoad v over (Spins a v m over) (q ++ o ∷ []) ops) (sub-one (suc n)) k)

spins_from : (a v left : ℕ) (over : List Invocation → List Invocation → Type 0) (q : List Invocation) (o : Invocation) (ops : List Invocation) → 0 < left →
    Spins a v left over q (o ∷ ops) → (o.operation ≡ record { address = a; op = op.Load }) × AfterLoad v over (Spins a v (left - 1) over) (q ++ o ∷ []) ops
spins_from a v zero over q o ops h k = absurd (omega arith)
spins_from a v (suc n) over q o ops h k = (k.0, subst (λ (m : ℕ). AfterLoad v over (Spins a v m over) (q ++ o ∷ []) ops) (sym (sub-one (suc n))) k.1)

match_false : (b : Bool) (P Q : Type 0) → b ≡ false → Q → MatchBool b P Q
match_false false P Q h k = k
match_false true P Q h k = cc

abbrev load_at : ℕ → Operation
load_at a = record { address = a; op = op.Load }

-- the operation that is ready_operation may come next, and then what may follow it
pub step_to : (spin : Option OpenSpin) (ahead : List Line) (last : Option Reply) (q : List Invocation) (o : Invocation) (ops : List Invocation) →
    ready_operation spin ahead last ≡ Some o.operation → IsKnown last q o.issue → BeginsWithLoads ahead → WantsLoad spin last →
    Continues (spin_issued spin ahead) (ahead_issued spin ahead) (q ++ o ∷ []) ops → Continues spin ahead q (o ∷ ops)
step_to (Some s) ahead None q o ops h known loads wants k = cc
step_to (Some s) ahead (Some reply) q o ops h known loads wants k = (
  reply,
  known reply refl,
  match_false (reply_number reply == s.sought) (Allows ahead q (o ∷ ops)) (Spins s.address s.sought s.left (Allows ahead) q (o ∷ ops)) wants.0
      (spins_to s.address s.sought s.left (Allows ahead) q o ops wants.1 (sym (same_Some (load_at s.address) o.operation h)) k),
)
step_to None [] last q o ops h known loads wants k = cc
step_to None (line.Fence ∷ lines) last q o ops h known loads wants k = cc
step_to None (line.Spin a v m ∷ lines) last q o ops h known loads wants k =
    spins_to a v m (Allows lines) q o ops loads (sym (same_Some (load_at a) o.operation h)) k
step_to None (first ∷ lines) last q o ops h known loads wants k = (line_to first last q o tt h known, k)

-- no fence stands in front
abbrev pub HasNoFence : List Line → Type 0
HasNoFence (line.Fence ∷ lines) = ⊥
HasNoFence lines = Unit {0}

-- the operation that comes next is the one that is ready_operation, and what may follow it may follow
pub step_ready : (spin : Option OpenSpin) (ahead : List Line) (last : Option Reply) (q : List Invocation) (o : Invocation) (ops : List Invocation) →
    IsShown last q o.issue → BeginsWithLoads ahead → WantsLoad spin last → (spin ≡ None → AreAnsweredBefore q o.issue → HasNoFence ahead) →
    Continues spin ahead q (o ∷ ops) → ready_operation spin ahead last ≡ Some o.operation
step_ready (Some s) ahead None q o ops shown loads wants fence k = let e = shown k.0 k.1 in cc
step_ready (Some s) ahead (Some reply) q o ops shown loads wants fence k =
    let e : reply ≡ k.0 = same_Some reply k.0 (shown k.0 k.1) in
    let w : (reply_number k.0 == s.sought) ≡ false = ap (λ (r : Reply). reply_number r == s.sought) (sym e) ∙ wants.0 in
    let again = MatchBool-at_false (Allows ahead q (o ∷ ops)) (Spins s.address s.sought s.left (Allows ahead) q (o ∷ ops)) w k.2 in
    ap (λ (x : Operation). Some x) (sym (spins_from s.address s.sought s.left (Allows ahead) q o ops wants.1 again).0)
step_ready None [] last q o ops shown loads wants fence k = absurd k
step_ready None (line.Fence ∷ lines) last q o ops shown loads wants fence k = absurd (fence refl k.0)
step_ready None (line.Spin a v m ∷ lines) last q o ops shown loads wants fence k =
    ap (λ (x : Operation). Some x) (sym (spins_from a v m (Allows lines) q o ops loads k).0)
step_ready None (first ∷ lines) last q o ops shown loads wants fence k = line_from first last q o k.0 shown

-- the last reply is the one that is known
abbrev pub IsOneReply : Option Reply → List Invocation → ℕ → Type 0
IsOneReply last q t = (x y : Reply) → last ≡ Some x → IsLastReply q t y → x ≡ y

pub step_from : (spin : Option OpenSpin) (ahead : List Line) (last : Option Reply) (q : List Invocation) (o : Invocation) (ops : List Invocation) →
    ready_operation spin ahead last ≡ Some o.operation → IsOneReply last q o.issue → BeginsWithLoads ahead → WantsLoad spin last →
    Continues spin ahead q (o ∷ ops) → Continues (spin_issued spin ahead) (ahead_issued spin ahead) (q ++ o ∷ []) ops
step_from (Some s) ahead None q o ops h one loads wants k = cc
step_from (Some s) ahead (Some reply) q o ops h one loads wants k =
    let e : reply ≡ k.0 = one reply k.0 refl k.1 in
    let w : (reply_number k.0 == s.sought) ≡ false = ap (λ (r : Reply). reply_number r == s.sought) (sym e) ∙ wants.0 in
    let again = MatchBool-at_false (Allows ahead q (o ∷ ops)) (Spins s.address s.sought s.left (Allows ahead) q (o ∷ ops)) w k.2 in
    (spins_from s.address s.sought s.left (Allows ahead) q o ops wants.1 again).1
step_from None [] last q o ops h one loads wants k = absurd k
step_from None (line.Fence ∷ lines) last q o ops h one loads wants k = cc
step_from None (line.Spin a v m ∷ lines) last q o ops h one loads wants k = (spins_from a v m (Allows lines) q o ops loads k).1
step_from None (first ∷ lines) last q o ops h one loads wants k = k.1

-- one more operation
module _ (lines : List Line) (past : List Invocation) (spin : Option OpenSpin) (ahead : List Line) (last : Option Reply) (o : Operation) (t : ℕ)
    (h : Leads lines past spin ahead) (next : ready_operation spin ahead last ≡ Some o) (last_is : last ≡ last_reply past) (before : AreAnswersBefore past t)
    (loads : BeginsWithLoads ahead) (wants : WantsLoad spin last) where
  issued_to_at : (q : List Invocation) (p : Invocation) (ops : List Invocation) → Extends past q → IsSame (record { operation = o; issue = t; answer = None }) p
      →
      Continues (spin_issued spin ahead) (ahead_issued spin ahead) (q ++ p ∷ []) ops → FollowsScript lines ((q ++ p ∷ []) ++ ops)
  issued_to_at q p ops e same k =
      let later : AreAnswersBefore past p.issue = subst (AreAnswersBefore past) (sym same.issue) before in
      let whole = h.to q (p ∷ ops) e later (step_to spin ahead last q p ops (next ∙ ap (λ (x : Operation). Some x) (sym same.operation))
      (λ reply is. last_reply_before past q p.issue reply e (last_known past reply (sym last_is ∙ is)) later) loads wants k) in
      subst (λ (all : List Invocation). FollowsScript lines all) (sym (append_assoc q (p ∷ []) ops)) whole

  issued_from_at : (q : List Invocation) (p : Invocation) (ops : List Invocation) → Extends past q
      → IsSame (record { operation = o; issue = t; answer = None }) p →
      FollowsScript lines ((q ++ p ∷ []) ++ ops) → Continues (spin_issued spin ahead) (ahead_issued spin ahead) (q ++ p ∷ []) ops
  issued_from_at q p ops e same k =
      let whole = subst (λ (all : List Invocation). FollowsScript lines all) (append_assoc q (p ∷ []) ops) k in
      step_from spin ahead last q p ops (next ∙ ap (λ (x : Operation). Some x) (sym same.operation))
      (λ x y is l. sym (last_reply_unique q p.issue y x l (last_reply_kept past q x e (last_known past x (sym last_is ∙ is))))) loads wants
      (h.from q (p ∷ ops) e whole)

  issued_to : (q ops : List Invocation) → Extends (past ++ record { operation = o; issue = t; answer = None } ∷ []) q →
      Continues (spin_issued spin ahead) (ahead_issued spin ahead) q ops → FollowsScript lines (q ++ ops)
  issued_to q ops e k =
      let r = extends_more past (record { operation = o; issue = t; answer = None }) q e in
      subst (λ (all : List Invocation). FollowsScript lines (all ++ ops)) (sym r.2)
      (issued_to_at r.0 r.1 ops r.3 r.4 (subst (λ (all : List Invocation). Continues (spin_issued spin ahead) (ahead_issued spin ahead) all ops) r.2 k))

  issued_from : (q ops : List Invocation) → Extends (past ++ record { operation = o; issue = t; answer = None } ∷ []) q →
      FollowsScript lines (q ++ ops) → Continues (spin_issued spin ahead) (ahead_issued spin ahead) q ops
  issued_from q ops e k =
      let r = extends_more past (record { operation = o; issue = t; answer = None }) q e in
      subst (λ (all : List Invocation). Continues (spin_issued spin ahead) (ahead_issued spin ahead) all ops) (sym r.2)
      (issued_from_at r.0 r.1 ops r.3 r.4 (subst (λ (all : List Invocation). FollowsScript lines (all ++ ops)) r.2 k))

  pub leads_issued : Leads lines (past ++ record { operation = o; issue = t; answer = None } ∷ []) (spin_issued spin ahead) (ahead_issued spin ahead)
  leads_issued = record { to = λ q ops e later k. issued_to q ops e k; from = λ q ops e k. issued_from q ops e k }
