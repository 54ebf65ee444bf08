-- Lists of one value.
use Rattle.std.proofs.Common.{◌≡◌, ℕ, get_or, replicate, arith, ⊎_elim}
use Rattle.std.proofs.lemmas.List.{get_or-replicate, get_or_past, length-replicate}
use Rattle.std.proofs.lemmas.Bool.{cases_lt}

-- a list of one value gives it at each index, by that default
pub get_or-blank : {X : Type 0} (n i : ℕ) (d : X) → get_or (replicate n d) i d ≡ d
get_or-blank n i d =
    ⊎_elim (λ inside. get_or-replicate n i d d inside)
    (λ past. get_or_past (replicate n d) i d (omega (arith, length-replicate n d, past)))
    (cases_lt i n)
