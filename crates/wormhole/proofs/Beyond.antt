-- What of a route lies after a channel.
use Rattle.std.proofs.Common.{◌≡◌, ℕ, ◌+◌, ◌<◌, suc, Bool, true, false, cond, List, [], ◌∷◌, ◌++◌, length, sym, ap, ◌∙◌, refl, subst, arith, append_assoc}
use Rattle.std.proofs.Common.{length-append}
use Rattle.std.proofs.lemmas.Bool.{eq-eqb, ne_eqb, false_from_ne_true}
use Rattle.wormhole.specs.Net.{Net, IsNet, IsOn}
use Rattle.wormhole.specs.Weight.{beyond}

-- numbers rise along a list
abbrev pub Rises : (ℕ → ℕ) → List ℕ → Type 0
Rises number xs = (x y : ℕ) (before between after : List ℕ) → xs ≡ before ++ x ∷ between ++ y ∷ after → number x < number y

-- where the numbers rise, what lies after an item is what follows it
pub beyond_here : (number : ℕ → ℕ) (before after : List ℕ) (x : ℕ) → Rises number (before ++ x ∷ after) → beyond x (before ++ x ∷ after) ≡ length after
beyond_here number [] after x rises = ap (λ (b : Bool). cond b (length after) (beyond x after)) (eq-eqb x x refl)
beyond_here number (y ∷ ys) after x rises =
    let below : number y < number x = rises y x [] ys after refl in
    ap (λ b. cond b (length (ys ++ x ∷ after)) (beyond x (ys ++ x ∷ after))) (ne_eqb y x (λ e. let same = ap number e in omega arith))
    ∙ beyond_here number ys after x (λ a b before between rest e. rises a b (y ∷ before) between rest (ap (λ zs. y ∷ zs) e))

module _ (n : Net) (net : IsNet n) (i j : ℕ) (joined : n.joins i j ≡ true) where
  route_rises : Rises n.number (n.route i j)
  route_rises x y before between after e = net.rises i j x y before between after joined e

  beyond_at : (x : ℕ) (before after : List ℕ) → n.route i j ≡ before ++ x ∷ after → beyond x (n.route i j) ≡ length after
  beyond_at x before after e =
      ap (beyond x) e ∙ beyond_here n.number before after x (subst (Rises n.number) e route_rises)

  -- after the injection all but it lies
  pub first_on : suc (beyond i (n.route i j)) ≡ length (n.route i j)
  first_on =
      let at = net.begins i j joined in
      ap suc (beyond_at i [] at.0 at.1) ∙ sym (ap length at.1)

  -- y is the channel after x on the route
  pub record IsNext (x y : ℕ) : Type 0 where
    pub on : IsOn y (n.route i j)
    pub within : y < n.channels
    pub rises : n.number x < n.number y
    pub not_injection : n.injects y ≡ false
    pub fewer : beyond x (n.route i j) ≡ suc (beyond y (n.route i j))

  -- a channel that isn't the last has a next
  pub next_on : (x y : ℕ) → y ≡ n.next x j → n.ejects x ≡ false → IsOn x (n.route i j) → IsNext x y
  next_on x y is passes on =
      let step : (rest : List ℕ) × (on.1 ≡ n.next x j ∷ rest) = net.walks i j x on.0 on.1 joined passes on.2 in
      let split : n.route i j ≡ on.0 ++ x ∷ (y ∷ step.0) = on.2 ∙ ap (λ zs. on.0 ++ x ∷ zs) (step.1 ∙ ap (λ z. z ∷ step.0) (sym is)) in
      let moved : n.route i j ≡ (on.0 ++ x ∷ []) ++ y ∷ step.0 = split ∙ sym (append_assoc on.0 (x ∷ []) (y ∷ step.0)) in
      let here : IsOn y (n.route i j) = (on.0 ++ x ∷ [], step.0, moved) in
      let left : beyond y (n.route i j) ≡ length step.0 = beyond_at y (on.0 ++ x ∷ []) step.0 moved in
      record {
        on = here;
        within = net.within i j y joined here;
        rises = net.rises i j x y on.0 [] step.0 joined moved;
        not_injection = false_from_ne_true (n.injects y) (λ t.
            let same : beyond y (n.route i j) ≡ beyond i (n.route i j) = ap (λ z. beyond z (n.route i j)) (net.injects i j y joined here t) in
            let first = first_on in
            let size : length (n.route i j) ≡ length on.0 + suc (suc (length step.0)) = ap length split ∙ length-append on.0 (x ∷ y ∷ step.0) in
            omega arith);
        fewer = beyond_at x on.0 (y ∷ step.0) split ∙ ap suc (sym left);
      }

  -- after an ejection nothing lies
  pub last_on : (x : ℕ) → n.ejects x ≡ true → IsOn x (n.route i j) → beyond x (n.route i j) ≡ 0
  last_on x ends on =
      let at = net.ends i j joined in
      let same : x ≡ j = net.ejects i j x joined on ends in
      ap (λ z. beyond z (n.route i j)) same ∙ beyond_at j at.0 [] at.1
