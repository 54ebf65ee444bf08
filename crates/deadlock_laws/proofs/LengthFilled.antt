-- Which channels some items fill.
use Rattle.std.proofs.Common.{◌≡◌, ◌≢◌, ⊎_elim, ℕ, true, cond, List, ◌∷◌, ◌∙◌, ap, eq-eqb}
use Rattle.std.proofs.lemmas.Bool.{cases_eq, ne_eqb}
use Rattle.network_judge.specs.Table.{Table}
use Rattle.network_judge.specs.declared.fill.Fill.{Fill}
use Rattle.network_judge.specs.Jams.{fill_channel, is_filled}

module _ (t : Table) (f : Fill) (fs : List Fill) (x : ℕ) where
  pub filled_here : fill_channel t f ≡ x → is_filled t (f ∷ fs) x ≡ true
  filled_here same = ap (λ b. cond b true (is_filled t fs x)) (eq-eqb (fill_channel t f) x same)

  pub filled_other : fill_channel t f ≢ x → is_filled t (f ∷ fs) x ≡ is_filled t fs x
  filled_other apart = ap (λ b. cond b true (is_filled t fs x)) (ne_eqb (fill_channel t f) x apart)

  pub filled_behind : is_filled t fs x ≡ true → is_filled t (f ∷ fs) x ≡ true
  filled_behind is = ⊎_elim filled_here (λ (apart : fill_channel t f ≢ x). filled_other apart ∙ is) (cases_eq (fill_channel t f) x)
