-- Cycles lock up with packets of one length, and rising numbers don't.
use Rattle.std.proofs.Common.{◌≡◌, ◌≢◌, ℕ, zero, suc, ◌+◌, ◌*◌, ◌/◌, ◌%◌, ◌<◌, ◌≤◌, true, false, List, [], ◌∷◌, length, refl, ap, sym, ◌∙◌, arith, eq-eqb}
use Rattle.std.proofs.lemmas.Bool.{ne_eqb}
use Rattle.wormhole.specs.Net.{has_no_flit}
use Rattle.network_judge.specs.declared.table.Verdict.{Verdict}
use Rattle.network_judge.specs.declared.table.Verdict.TheVariants.{Rising, NoRoute, Cycle}
use Rattle.network_judge.specs.Table.{Table}
use Rattle.network_judge.specs.TableNet.{Flits}
use Rattle.network_judge.specs.Verdicts.{IsVerdict}
use Rattle.network_judge.specs.LockUps.{plain_format}
use Rattle.network_judge.proofs.Both.{never}
use Rattle.deadlock_laws.specs.Lengths.{HasPacketsOf, AreBehindHead, SettlesLength}
use Rattle.deadlock_laws.proofs.Circular.{no_reply}
use Rattle.deadlock_laws.proofs.Finished.{cycles_lock}

pub settles : {A : Type 0} (t : Table) (v : Verdict A) → IsVerdict t [] v → (size depth : ℕ) (flits : Flits) → 0 < depth → size ≤ depth + 1
    → HasPacketsOf t flits size → SettlesLength t depth flits size v
settles t (Rising numbers) is size depth flits deep fits has =
    λ locks. never t [] numbers.items (λ x y r. absurd (no_reply x y r)) is.1 depth flits deep
    (λ number top. (let l = locks number top in (l.0, l.1.locks)))
settles t (NoRoute r) is size depth flits deep fits has = tt
settles t (Cycle links) is size depth flits deep fits has = cycles_lock t links.items is.0 is.1 size depth flits deep fits has

-- flits behind the head, so many of them: body flits and a tail flit
abbrev behind : ℕ → List ℕ
behind zero = []
behind (suc zero) = 1 ∷ []
behind (suc (suc m)) = 0 ∷ behind (suc m)

behind_long : (m : ℕ) → length (behind m) ≡ m
behind_long zero = refl
behind_long (suc zero) = refl
behind_long (suc (suc m)) = ap suc (behind_long (suc m))

has_some : (m : ℕ) → has_no_flit (behind (suc m)) ≡ false
has_some zero = refl
has_some (suc m) = refl

behind_are : (m : ℕ) → AreBehindHead plain_format (behind m)
behind_are zero = tt
behind_are (suc zero) = (refl, refl, tt)
behind_are (suc (suc m)) = (refl, sym (has_some m), behind_are (suc m))

abbrev first : ℕ → ℕ → ℕ
first zero j = 4 * j + 3
first (suc m) j = 4 * j + 2

is_head : (m j : ℕ) → plain_format.is_head (first m j) ≡ true
is_head zero j = eq-eqb ((4 * j + 3) / 2 % 2) 1 (omega arith)
is_head (suc m) j = eq-eqb ((4 * j + 2) / 2 % 2) 1 (omega arith)

told : (m j : ℕ) → plain_format.told (first m j) ≡ j
told zero j = omega arith
told (suc m) j = omega arith

no_tail : (j : ℕ) → (4 * j + 2) % 2 ≢ 1
no_tail j = λ e. absurd (omega arith)

alone : (m j : ℕ) → plain_format.is_tail (first m j) ≡ has_no_flit (behind m)
alone zero j = eq-eqb ((4 * j + 3) % 2) 1 (omega arith)
alone (suc m) j = ne_eqb ((4 * j + 2) % 2) 1 (no_tail j) ∙ sym (has_some m)

pub some_format : (t : Table) (size : ℕ) → 0 < size → HasPacketsOf t plain_format size
some_format t zero some = absurd (omega arith)
some_format t (suc m) some = record {
  first = first m;
  others = λ j. behind m;
  long = λ j k. ap suc (behind_long m);
  head = λ j k. is_head m j;
  told = λ j k. told m j;
  alone = λ j k. alone m j;
  behind = λ j k. behind_are m;
}
