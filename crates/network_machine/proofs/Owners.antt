-- Which channels a channel owns, and small steps of searches.
use Rattle.std.proofs.Common.{◌≡◌, ◌≢◌, ℕ, ◌<◌, ◌+◌, List, Option, Some, None, sym, ◌∙◌, ap, subst, arith, IfNone, inl, inr}
use Rattle.std.proofs.lemmas.Bool.{cases_lt}
use Rattle.std.specs.Prelude.{slice_index_or}
use Rattle.network_machine.specs.declared.channel.Channel.{Channel}
use Rattle.network_machine.specs.Outputs.{IsOwnedBy}

pub not_owned : (cs : List Channel) (x y : ℕ) (c : Channel) → c ≡ slice_index_or cs y c → (x ≢ y → c.owner ≡ Some x → 0 < c.held → ⊥)
    → IsOwnedBy cs x y → ⊥
not_owned cs x y c at none own =
    none own.apart (ap (λ (k : Channel). k.owner) at ∙ own.owner c) (subst (λ (k : Channel). 0 < k.held) (sym at) (own.credit c))

-- what holds below a number and at it holds below the next
pub one_more : (P : ℕ → Type 0) (n : ℕ) → ((k : ℕ) → k < n → P k) → P n → (k : ℕ) → k < n + 1 → P k
one_more P n below here k l = elim (cases_lt k n) [
  | inl low ↦ below k low
  | inr high ↦ let same : n ≡ k = omega arith in subst P same here
]

pub if_none : {A : Type 0} (r : Option A) (P Q : Type 0) → (P → Q) → IfNone r P → IfNone r Q
if_none None P Q f h = f h
if_none (Some a) P Q f h = h
