-- Words that are not 0.
use Rattle.std.proofs.Common.{◌≡◌, ℕ, suc, ◌==◌, Bool, false, cond, not, List, ◌∷◌, filter, ap, arith}
use Rattle.std.proofs.lemmas.Bool.{ne_eqb}

abbrev pub is_set : ℕ × ℕ → Bool
is_set p = not (p.1 == 0)

pub set_kept : (address x : ℕ) (ps : List (ℕ × ℕ)) → filter is_set ((address, suc x) ∷ ps) ≡ (address, suc x) ∷ filter is_set ps
set_kept address x ps =
    let test : (suc x == 0) ≡ false = ne_eqb (suc x) 0 (λ h. omega (arith, h)) in
    ap (λ (b : Bool). cond {A = List (ℕ × ℕ)} (not b) ((address, suc x) ∷ filter is_set ps) (filter is_set ps)) test
