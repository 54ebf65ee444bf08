-- A rule that is not broken holds.
use Rattle.std.proofs.Common.{◌≡◌, ◌⊎◌, ℕ, ◌+◌, ◌≤◌, ◌<◌, ◌&&◌, ◌||◌, Bool, true, false, not, zero, suc, Option, Some, None, refl, sym, inl, inr, ap, subst, arith}
use Rattle.std.specs.Option.{option_or}
use Rattle.std.proofs.lemmas.Bool.{false≢true, cases_lt}
use Rattle.std.proofs.lemmas.Option.{none-some}
use Rattle.packet.specs.declared.kinds.Reply.{Reply}
use Rattle.packet.specs.declared.kinds.Reply.TheVariants.{Old, Ok as Stored}
use Rattle.std.proofs.lemmas.Bool.{eqb-true}
use Rattle.report_check.specs.declared.rule.Rule.{Rule}
use Rattle.report_check.specs.Lists.{same_reply, first_or, first_from}
use Rattle.report_check.specs.Broken.{unless, is_same}

pub unless_kept : (b : Bool) (wrong : Rule) → unless b wrong ≡ None → b ≡ true
unless_kept true wrong e = refl
unless_kept false wrong e = absurd (none-some wrong (sym e))

pub or_kept : (a b : Option Rule) → option_or a b ≡ None → (a ≡ None) × (b ≡ None)
or_kept None b e = (refl, e)
or_kept (Some wrong) b e = absurd (none-some wrong (sym e))

-- of a rule behind others
pub last_kept : (a : Option Rule) (b : Bool) (wrong : Rule) → option_or a (unless b wrong) ≡ None → (a ≡ None) × (b ≡ true)
last_kept a b wrong e =
    let both = or_kept a (unless b wrong) e in
    (both.0, unless_kept b wrong both.1)

pub and_both : (a b : Bool) → (a && b) ≡ true → (a ≡ true) × (b ≡ true)
and_both true b e = (refl, e)
and_both false b e = absurd (false≢true e)

pub or_either : (a b : Bool) → (a || b) ≡ true → (a ≡ true) ⊎ (b ≡ true)
or_either true b e = inl refl
or_either false b e = inr e

pub not_true : (a : Bool) → not a ≡ true → a ≡ false
not_true true e = absurd (false≢true e)
not_true false e = refl

-- an implication as a test
pub not_or : (a b : Bool) → (not a || b) ≡ true → a ≡ true → b ≡ true
not_or true b e h = e
not_or false b e h = absurd (false≢true h)

pub same_true : (a b : Bool) → is_same a b ≡ true → a ≡ b
same_true true b e = sym e
same_true false b e = sym (not_true b e)

pub reply_true : (a b : Reply) → same_reply a b ≡ true → a ≡ b
reply_true Stored Stored e = refl
reply_true Stored (Old word) e = absurd (false≢true e)
reply_true (Old word) Stored e = absurd (false≢true e)
reply_true (Old word) (Old other) e = ap Old (eqb-true word other e)

first_none : {X : Type 0} (a b : Option X) → first_or a b ≡ None → (a ≡ None) × (b ≡ None)
first_none None b e = (refl, e)
first_none (Some x) b e = absurd (none-some x (sym e))

-- where none is found, no number has it
pub first_from-none : {X : Type 0} (at : ℕ → Option X) (n left : ℕ) → first_from at n left ≡ None → (k : ℕ) → n ≤ k → k < n + left → at k ≡ None
first_from-none at n zero e k low high = absurd (omega (arith, low, high))
first_from-none at n (suc left) e k low high =
    let both : (at n ≡ None) × (first_from at (n + 1) left ≡ None) = first_none (at n) (first_from at (n + 1) left) e in
    let up : k < n + 1 + left = omega (arith, high) in
    elim (cases_lt n k) [
      | inl above ↦ first_from-none at (n + 1) left both.1 k (omega (arith, above)) up
      | inr below ↦ let here : n ≡ k = omega (arith, low, below) in subst (λ (i : ℕ). at i ≡ None) here both.0
    ]
