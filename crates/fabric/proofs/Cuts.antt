-- The test of the cuts and of the number of probes.
use Rattle.std.proofs.Common.{◌≡◌, true≢false, Bool, true, false, ℕ, ◌<◌, List, [], ◌∷◌, length, refl, sym, ap, ◌∙◌, arith}
use Rattle.std.specs.Prelude.{nat_lt, ◌&&◌, if◌then◌else◌}
use Rattle.std.proofs.lemmas.Bool.Decides.{nat_tests}
use Rattle.fabric.specs.Key.{Rises}
use Rattle.fabric.specs.Opening.{rises, can_deal, CanDeal}

rises_by : (b : Bool) (c : ℕ) (cs : List ℕ) (n : ℕ) → (if b then rises c cs n else false) ≡ true → (b ≡ true) × (rises c cs n ≡ true)
rises_by true c cs n e = (refl, e)
rises_by false c cs n e = cc

rises_true : (a : ℕ) (cs : List ℕ) (n : ℕ) → rises a cs n ≡ true → Rises a cs n
rises_true a [] n e = grind (arith, nat_tests)
rises_true a (c ∷ cs) n e = let p = rises_by (nat_lt a c) c cs n e in let q = p.0 in (grind (arith, nat_tests), rises_true c cs n p.1)

rises_is : (a : ℕ) (cs : List ℕ) (n : ℕ) → Rises a cs n → rises a cs n ≡ true
rises_is a [] n r = grind (arith, nat_tests)
rises_is a (c ∷ cs) n r =
    let lt : nat_lt a c ≡ true = let q = r.0 in grind (arith, nat_tests) in
    ap (λ (b : Bool). if b then rises c cs n else false) lt ∙ rises_is c cs n r.1

and_true : (a b : Bool) → (a && b) ≡ true → (a ≡ true) × (b ≡ true)
and_true true b e = (refl, e)
and_true false b e = cc

pub deal_true : (cuts : List ℕ) (probes n : ℕ) → can_deal cuts probes n ≡ true → CanDeal cuts probes n
deal_true cuts probes n e =
    let p = and_true (nat_lt (length cuts) 16 && nat_lt probes 17) (rises 0 cuts n) e in
    let q = and_true (nat_lt (length cuts) 16) (nat_lt probes 17) p.0 in
    let a = q.0 in
    let b = q.1 in
    record { rise = rises_true 0 cuts n p.1; few_cuts = grind (arith, nat_tests); few_probes = grind (arith, nat_tests) }

deal_is : (cuts : List ℕ) (probes n : ℕ) → CanDeal cuts probes n → can_deal cuts probes n ≡ true
deal_is cuts probes n d =
    let few : length cuts < 16 = let q = d.few_cuts in omega arith in
    let small : probes < 17 = let q = d.few_probes in omega arith in
    let a : nat_lt (length cuts) 16 ≡ true = grind (arith, nat_tests) in
    let b : nat_lt probes 17 ≡ true = grind (arith, nat_tests) in
    let r = rises_is 0 cuts n d.rise in
    ap (λ (x : Bool). (x && nat_lt probes 17) && rises 0 cuts n) a ∙ ap (λ (x : Bool). x && rises 0 cuts n) b ∙ r

pub deal_false : (cuts : List ℕ) (probes n : ℕ) → can_deal cuts probes n ≡ false → CanDeal cuts probes n → ⊥
deal_false cuts probes n e d = true≢false (sym (deal_is cuts probes n d) ∙ e)
