-- The replies behind a spin's loads and behind a line, reply by reply.
use Rattle.std.proofs.Common.{◌≡◌, ℕ, zero, suc, ◌+◌, ◌-◌, ◌<◌, ◌==◌, List, [], ◌∷◌, drop, refl, ◌∙◌, ap, arith, Some, None, true, false}
use Rattle.std.specs.Prelude.{Option}
use Rattle.script_lines.specs.declared.line.Line.{Line}
use Rattle.script_lines.specs.declared.line.Line.TheVariants.{Load, Store, Swap, Cas, Add, And, Or, Xor, Max, Min, Fence, Spin}
use Rattle.sentences.specs.Answered.{behind_line, behind_reply, behind_spin}
use Rattle.sentences.specs.Spins.{reply_of_next}
use Rattle.sentences.proofs.Spent.{next_is}

-- no reply is next
none_behind : (sought left : ℕ) (xs : List (Option ℕ)) → reply_of_next xs ≡ None → behind_spin (suc left) sought xs ≡ None
none_behind sought left [] h = refl
none_behind sought left (None ∷ xs) h = refl
none_behind sought left (Some r ∷ xs) h = absurd (let e : Some r ≡ None = h in cc)

pub stops_behind : (sought left : ℕ) (xs : List (Option ℕ)) → 0 < left → reply_of_next xs ≡ None → behind_spin left sought xs ≡ None
stops_behind sought zero xs more h = absurd (omega (arith, more))
stops_behind sought (suc left) xs more h = none_behind sought left xs h

pub none_behind_reply : (xs : List (Option ℕ)) → reply_of_next xs ≡ None → behind_reply xs ≡ None
none_behind_reply [] h = refl
none_behind_reply (None ∷ xs) h = refl
none_behind_reply (Some r ∷ xs) h = absurd (let e : Some r ≡ None = h in cc)

-- the number sought is next
pub finds_behind : (sought left at reply : ℕ) (replies : List (Option ℕ)) → 0 < left
    → reply_of_next (drop at replies) ≡ Some reply → (reply == sought) ≡ true
    → behind_spin left sought (drop at replies) ≡ Some (drop (at + 1) replies)
finds_behind sought zero at reply replies more h same = absurd (omega (arith, more))
finds_behind sought (suc left) at reply replies more h same =
    ap (behind_spin (suc left) sought) (next_is replies at reply h) ∙ (rw same refl)

-- another number is next
pub misses_behind : (sought left at reply : ℕ) (replies : List (Option ℕ)) → 0 < left
    → reply_of_next (drop at replies) ≡ Some reply → (reply == sought) ≡ false
    → behind_spin left sought (drop at replies) ≡ behind_spin (left - 1) sought (drop (at + 1) replies)
misses_behind sought zero at reply replies more h other = absurd (omega (arith, more))
misses_behind sought (suc left) at reply replies more h other =
    ap (behind_spin (suc left) sought) (next_is replies at reply h)
    ∙ ((rw other refl) ∙ ap (λ (n : ℕ). behind_spin n sought (drop (at + 1) replies)) (let e : left ≡ suc left - 1 = omega arith in e))

-- a line of one operation
pub passes_behind : (at reply : ℕ) (replies : List (Option ℕ)) → reply_of_next (drop at replies) ≡ Some reply
    → behind_reply (drop at replies) ≡ Some (drop (at + 1) replies)
passes_behind at reply replies h = ap behind_reply (next_is replies at reply h)

pub one_behind : (line : Line) (xs : List (Option ℕ)) → (line ≡ Fence → ⊥) → ((a v m : ℕ) → line ≡ Spin a v m → ⊥)
    → behind_line line xs ≡ behind_reply xs
one_behind (Load a) xs f s = refl
one_behind (Store a v) xs f s = refl
one_behind (Swap a v) xs f s = refl
one_behind (Cas a e n) xs f s = refl
one_behind (Add a v) xs f s = refl
one_behind (And a v) xs f s = refl
one_behind (Or a v) xs f s = refl
one_behind (Xor a v) xs f s = refl
one_behind (Max a v) xs f s = refl
one_behind (Min a v) xs f s = refl
one_behind Fence xs f s = absurd (f refl)
one_behind (Spin a v m) xs f s = absurd (s a v m refl)
