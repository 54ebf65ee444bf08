-- What is kept of a follower of accepted lines: what it has ready is at a word and of 64-bit values, and how much it can issue.
use Rattle.std.proofs.Common.{◌≡◌, ℕ, ◌+◌, ◌-◌, ◌^◌, ◌<◌, ◌≤◌, ◌==◌, List, [], ◌∷◌, Option, Some, None, arith}
use Rattle.std.proofs.lemmas.Bool.{cond_both}
use Rattle.packet.specs.declared.kinds.Reply.{Reply}
use Rattle.packet.specs.declared.kinds.Operation.{Operation}
use Rattle.script_lines.specs.declared.line.Line.{Line}
use Rattle.script_lines.specs.declared.line.Line.TheVariants as line
use Rattle.script_lines.specs.Lines.{IsAcceptedLine, IsAcceptedScript, operation_count}
use Rattle.one_order.specs.declared.spin.OpenSpin.{OpenSpin}
use Rattle.one_order.specs.Scripts.{reply_number}
use Rattle.one_order.specs.Following.{Following, first_of, next_operation_of, after_issue, after_answer, last_answered, other_answered, loads_left}
use Rattle.one_order.specs.Following.{spin_issued, spin_answered}
use Rattle.one_order.proofs.Residual.{BeginsWithLoads, WantsLoad}
use Rattle.one_order.proofs.Places.{Each, each_from, each_past_fences, each_issued, each_unfenced, count_past_fences, count_unfenced, left_issued}
use Rattle.one_order.proofs.Places.{left_answered, wants_left, wants_none, wants_answered, spin_answered_cases}
use Rattle.core_laws.proofs.ValueBounds.{Known, IsInside, IsSpinInside, ready_inside}

-- the lines ahead and the spin are of words of the memory, the last reply is of 64 bits, and what is issued and what is left are at most `most` operations
pub record IsFollowed (words most : ℕ) (f : Following) : Type 0 where
  pub ahead : Each (IsAcceptedLine words) f.ahead
  pub spin : IsSpinInside words f.spin
  pub last : Known f.last
  pub wants : WantsLoad f.spin f.last
  pub count : f.issued + (loads_left f.spin + operation_count f.ahead) ≤ most

begins : (words : ℕ) (ahead : List Line) → Each (IsAcceptedLine words) ahead → BeginsWithLoads ahead
begins words [] h = tt
begins words (line.Load a ∷ lines) h = tt
begins words (line.Store a v ∷ lines) h = tt
begins words (line.Swap a v ∷ lines) h = tt
begins words (line.Cas a e n ∷ lines) h = tt
begins words (line.Add a v ∷ lines) h = tt
begins words (line.And a v ∷ lines) h = tt
begins words (line.Or a v ∷ lines) h = tt
begins words (line.Xor a v ∷ lines) h = tt
begins words (line.Max a v ∷ lines) h = tt
begins words (line.Min a v ∷ lines) h = tt
begins words (line.Fence ∷ lines) h = tt
begins words (line.Spin a v m ∷ lines) h = h.0.2

spin_issued_inside : (words : ℕ) (spin : Option OpenSpin) (ahead : List Line) → Each (IsAcceptedLine words) ahead → IsSpinInside words spin
    → IsSpinInside words (spin_issued spin ahead)
spin_issued_inside words (Some s) ahead each inside = inside
spin_issued_inside words None [] each inside = tt
spin_issued_inside words None (line.Spin a v m ∷ rest) each inside = each.0.0
spin_issued_inside words None (first ∷ rest) each inside = tt

spin_answered_inside : (words : ℕ) (spin : Option OpenSpin) (reply : Reply) → IsSpinInside words spin → IsSpinInside words (spin_answered spin reply)
spin_answered_inside words None reply inside = tt
spin_answered_inside words (Some s) reply inside = spin_answered_cases s reply (IsSpinInside words) (λ _. tt) (λ _ _. inside)

-- the start
pub followed_first : (words : ℕ) (lines : List Line) → IsAcceptedScript words lines → IsFollowed words 4096 (first_of lines)
unfolding first_of
followed_first words lines ok = record {
  ahead = each_past_fences (IsAcceptedLine words) lines (each_from (IsAcceptedLine words) lines ok.each);
  spin = tt;
  last = tt;
  wants = tt;
  count = let e = count_past_fences lines in let m = ok.count in omega arith;
}

pub followed_none : (words most : ℕ) → IsFollowed words most (first_of [])
unfolding first_of
followed_none words most = record { ahead = tt; spin = tt; last = tt; wants = tt; count = omega arith }

-- what is ready
pub next_inside : (words most : ℕ) (f : Following) (o : Operation) → IsFollowed words most f → next_operation_of f ≡ Some o → IsInside words o
unfolding next_operation_of
next_inside words most f o h next = ready_inside words f.spin f.ahead f.last o h.ahead h.spin h.last next

-- an issue
pub followed_issued : (words most : ℕ) (f : Following) (o : Operation) → IsFollowed words most f → next_operation_of f ≡ Some o
    → IsFollowed words most (after_issue f)
unfolding next_operation_of after_issue
followed_issued words most f o h next = record {
  ahead = each_issued (IsAcceptedLine words) f.spin f.ahead h.ahead;
  spin = spin_issued_inside words f.spin f.ahead h.ahead h.spin;
  last = tt;
  wants = wants_none (spin_issued f.spin f.ahead);
  count = let e = h.count in let k = left_issued f.spin f.ahead f.last o next (begins words f.ahead h.ahead) (wants_left f.spin f.last h.wants) in omega arith;
}

-- an answer
other_followed : (words most : ℕ) (f : Following) → IsFollowed words most f → IsFollowed words most (other_answered f)
other_followed words most f h = record {
  ahead = each_unfenced (IsAcceptedLine words) f.spin (f.waiting - 1) f.ahead h.ahead;
  spin = h.spin;
  last = h.last;
  wants = h.wants;
  count = let e = h.count in let k = count_unfenced f.spin (f.waiting - 1) f.ahead in omega arith;
}

last_followed : (words most : ℕ) (f : Following) (reply : Reply) → reply_number reply < 2 ^ 64 → IsFollowed words most f
    → IsFollowed words most (last_answered f reply)
last_followed words most f reply small h = record {
  ahead = each_unfenced (IsAcceptedLine words) (spin_answered f.spin reply) (f.waiting - 1) f.ahead h.ahead;
  spin = spin_answered_inside words f.spin reply h.spin;
  last = small;
  wants = wants_answered f.spin reply;
  count = let e = h.count in let k = count_unfenced (spin_answered f.spin reply) (f.waiting - 1) f.ahead in let l = left_answered f.spin reply in omega arith;
}

pub followed_answered : (words most : ℕ) (f : Following) (i : ℕ) (reply : Reply) → reply_number reply < 2 ^ 64 → IsFollowed words most f
    → IsFollowed words most (after_answer f i reply)
unfolding after_answer
followed_answered words most f i reply small h =
    cond_both (i + 1 == f.issued) (last_answered f reply) (other_answered f) (IsFollowed words most)
    (λ e. last_followed words most f reply small h)
    (λ e. other_followed words most f h)
