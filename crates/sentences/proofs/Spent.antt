-- Spins, reply by reply.
use Rattle.std.proofs.Common.{◌≡◌, ℕ, zero, suc, ◌+◌, ◌-◌, ◌<◌, ◌==◌, List, [], ◌∷◌, drop, refl, ◌∙◌, ap, arith, Some, None, true, false}
use Rattle.std.specs.Prelude.{Option}
use Rattle.script_lines.specs.declared.line.Line.{Line}
use Rattle.script_lines.specs.declared.line.Line.TheVariants.{Load, Store, Swap, Cas, Add, And, Or, Xor, Max, Min, Fence, Spin}
use Rattle.sentences.specs.declared.spins.SpentSpin.{SpentSpin}
use Rattle.sentences.specs.Spins.{replied, reply_of_next, spent_from, spun}

-- the reply that is next, and those behind it
pub next_is : (replies : List (Option ℕ)) (at reply : ℕ) → reply_of_next (drop at replies) ≡ Some reply
    → drop at replies ≡ Some reply ∷ drop (at + 1) replies
next_is [] zero reply h = absurd (let e : None ≡ Some reply = h in cc)
next_is [] (suc at) reply h = absurd (let e : None ≡ Some reply = h in cc)
next_is (r ∷ rs) zero reply h = ap (λ (o : Option ℕ). o ∷ rs) h
next_is (r ∷ rs) (suc at) reply h =
    next_is rs at reply h
    ∙ ap (λ (n : ℕ). Some reply ∷ drop n (r ∷ rs)) (let e : suc (at + 1) ≡ suc at + 1 = omega arith in e)

-- no reply is next
none_of : (spin : SpentSpin) (over : List (Option ℕ) → List SpentSpin) (left : ℕ) (xs : List (Option ℕ)) → reply_of_next xs ≡ None
    → spun (suc left) spin over xs ≡ []
none_of spin over left [] h = refl
none_of spin over left (None ∷ xs) h = refl
none_of spin over left (Some r ∷ xs) h = absurd (let e : Some r ≡ None = h in cc)

pub stops : (spin : SpentSpin) (over : List (Option ℕ) → List SpentSpin) (left : ℕ) (xs : List (Option ℕ)) → 0 < left → reply_of_next xs ≡ None
    → spun left spin over xs ≡ []
stops spin over zero xs more h = absurd (omega (arith, more))
stops spin over (suc left) xs more h = none_of spin over left xs h

pub stops_line : (over : List (Option ℕ) → List SpentSpin) (xs : List (Option ℕ)) → reply_of_next xs ≡ None → replied over xs ≡ []
stops_line over [] h = refl
stops_line over (None ∷ xs) h = refl
stops_line over (Some r ∷ xs) h = absurd (let e : Some r ≡ None = h in cc)

-- the number sought is next
pub finds : (spin : SpentSpin) (over : List (Option ℕ) → List SpentSpin) (left at reply : ℕ) (replies : List (Option ℕ)) → 0 < left
    → reply_of_next (drop at replies) ≡ Some reply → (reply == spin.sought) ≡ true → spun left spin over (drop at replies) ≡ over (drop (at + 1) replies)
finds spin over zero at reply replies more h same = absurd (omega (arith, more))
finds spin over (suc left) at reply replies more h same =
    ap (spun (suc left) spin over) (next_is replies at reply h) ∙ (rw same refl)

-- another number is next
pub misses : (spin : SpentSpin) (over : List (Option ℕ) → List SpentSpin) (left at reply : ℕ) (replies : List (Option ℕ)) → 0 < left
    → reply_of_next (drop at replies) ≡ Some reply → (reply == spin.sought) ≡ false
    → spun left spin over (drop at replies) ≡ spun (left - 1) spin over (drop (at + 1) replies)
misses spin over zero at reply replies more h other = absurd (omega (arith, more))
misses spin over (suc left) at reply replies more h other =
    ap (spun (suc left) spin over) (next_is replies at reply h)
    ∙ ((rw other refl) ∙ ap (λ (n : ℕ). spun n spin over (drop (at + 1) replies)) (let e : left ≡ suc left - 1 = omega arith in e))

-- a line of one operation
pub passes : (over : List (Option ℕ) → List SpentSpin) (at reply : ℕ) (replies : List (Option ℕ)) → reply_of_next (drop at replies) ≡ Some reply
    → replied over (drop at replies) ≡ over (drop (at + 1) replies)
passes over at reply replies h = ap (replied over) (next_is replies at reply h)

pub one_operation : (place : ℕ) (line : Line) (rest : List Line) (xs : List (Option ℕ)) → (line ≡ Fence → ⊥)
    → ((a v m : ℕ) → line ≡ Spin a v m → ⊥) → spent_from place (line ∷ rest) xs ≡ replied (spent_from (place + 1) rest) xs
one_operation place (Load a) rest xs f s = refl
one_operation place (Store a v) rest xs f s = refl
one_operation place (Swap a v) rest xs f s = refl
one_operation place (Cas a e n) rest xs f s = refl
one_operation place (Add a v) rest xs f s = refl
one_operation place (And a v) rest xs f s = refl
one_operation place (Or a v) rest xs f s = refl
one_operation place (Xor a v) rest xs f s = refl
one_operation place (Max a v) rest xs f s = refl
one_operation place (Min a v) rest xs f s = refl
one_operation place Fence rest xs f s = absurd (f refl)
one_operation place (Spin a v m) rest xs f s = absurd (s a v m refl)
