-- Where a packet's route goes on.
use Rattle.std.proofs.Common.{◌≡◌, ◌≢◌, ⊎_elim, ℕ, ◌<◌, true, false, List, [], ◌∷◌, ◌++◌, sym, ◌∙◌, ap, arith, append_assoc}
use Rattle.std.proofs.lemmas.Bool.{cases_Bool}
use Rattle.wormhole.specs.Net.{Net, IsNet, IsOn}

-- numbers that differ are of channels that differ
pub apart_by_number : (n : Net) (x y : ℕ) → n.number x < n.number y → x ≢ y
apart_by_number n x y h e = let same : n.number x ≡ n.number y = ap n.number e in omega arith

-- the numbers rise, with the route's end written out from the right
pub rises_at : (n : Net) (i j x y : ℕ) (before between after : List ℕ) → IsNet n → n.joins i j ≡ true
    → n.route i j ≡ before ++ (x ∷ (between ++ y ∷ after)) → n.number x < n.number y
rises_at n i j x y before between after net joined e =
    net.rises i j x y before between after joined (e ∙ sym (append_assoc before (x ∷ between) (y ∷ after)))

-- the route of a packet goes on from a channel over the next one, and neither stands anywhere else on it
pub record GoesOn (n : Net) (i j x y : ℕ) : Type 0 where
  pub before : List ℕ
  pub after : List ℕ
  pub route : n.route i j ≡ before ++ x ∷ y ∷ after
  pub rises : n.number x < n.number y
  pub output : n.injects y ≡ false
  pub early : (z : ℕ) → IsOn z before → (z ≢ x) × (z ≢ y)
  pub late : (z : ℕ) → IsOn z after → (z ≢ x) × (z ≢ y)

-- the channel after another isn't the first of the route
not_first : (n : Net) (i j x y : ℕ) (before after : List ℕ) → IsNet n → n.joins i j ≡ true → n.route i j ≡ before ++ x ∷ y ∷ after → y ≢ i
not_first n i j x y [] after net joined e same =
    let first = net.begins i j joined in
    let r : x ∷ y ∷ after ≡ i ∷ first.0 = sym e ∙ first.1 in
    let at : x ≡ i = cc in
    apart_by_number n x y (rises_at n i j x y [] [] after net joined e) (at ∙ sym same)
not_first n i j x y (u ∷ before) after net joined e same =
    let first = net.begins i j joined in
    let r : u ∷ (before ++ x ∷ y ∷ after) ≡ i ∷ first.0 = sym e ∙ first.1 in
    let at : u ≡ i = cc in
    let below = rises_at n i j u x [] before (y ∷ after) net joined e in
    let above = rises_at n i j x y (u ∷ before) [] after net joined e in
    let level : n.number u ≡ n.number y = ap n.number (at ∙ sym same) in
    omega arith

pub goes_on : (n : Net) (i j x : ℕ) → IsNet n → n.joins i j ≡ true → n.ejects x ≡ false → IsOn x (n.route i j) → GoesOn n i j x (n.next x j)
goes_on n i j x net joined input on =
    let y : ℕ = n.next x j in
    let more = net.walks i j x on.0 on.1 joined input on.2 in
    let before : List ℕ = on.0 in
    let after : List ℕ = more.0 in
    let route : n.route i j ≡ before ++ x ∷ y ∷ after = on.2 ∙ ap (λ (xs : List ℕ). before ++ x ∷ xs) more.1 in
    let rises : n.number x < n.number y = rises_at n i j x y before [] after net joined route in
    record {
      before = before;
      after = after;
      route = route;
      rises = rises;
      output = ⊎_elim
          (λ (e : n.injects y ≡ true). absurd (not_first n i j x y before after net joined route
          (net.injects i j y joined (before ++ x ∷ [], after, route ∙ sym (append_assoc before (x ∷ []) (y ∷ after))) e)))
          (λ (e : n.injects y ≡ false). e)
          (cases_Bool (n.injects y));
      early = λ z at.
          let r : n.route i j ≡ at.0 ++ (z ∷ (at.1 ++ x ∷ y ∷ after)) =
          route ∙ (ap (λ (xs : List ℕ). xs ++ x ∷ y ∷ after) at.2 ∙ append_assoc at.0 (z ∷ at.1) (x ∷ y ∷ after)) in
          let first : n.number z < n.number x = rises_at n i j z x at.0 at.1 (y ∷ after) net joined r in
          let second : n.number z < n.number y = omega arith in
          (apart_by_number n z x first, apart_by_number n z y second);
      late = λ z at.
          let r : n.route i j ≡ before ++ (x ∷ y ∷ (at.0 ++ z ∷ at.1)) = route ∙ ap (λ (xs : List ℕ). before ++ x ∷ y ∷ xs) at.2 in
          let first : n.number x < n.number z = rises_at n i j x z before (y ∷ at.0) at.1 net joined r in
          let r_too : n.route i j ≡ (before ++ x ∷ []) ++ (y ∷ (at.0 ++ z ∷ at.1)) =
          r ∙ sym (append_assoc before (x ∷ []) (y ∷ (at.0 ++ z ∷ at.1))) in
          let second : n.number y < n.number z = rises_at n i j y z (before ++ x ∷ []) at.0 at.1 net joined r_too in
          (λ e. apart_by_number n x z first (sym e), λ e. apart_by_number n y z second (sym e));
    }

-- the next channel is on the route too
pub next_on : (n : Net) (i j x y : ℕ) → GoesOn n i j x y → IsOn y (n.route i j)
next_on n i j x y g = (g.before ++ x ∷ [], g.after, g.route ∙ sym (append_assoc g.before (x ∷ []) (y ∷ g.after)))

-- the first channel of a route stands nowhere else on it
pub record BeginsAt (n : Net) (i j : ℕ) : Type 0 where
  pub after : List ℕ
  pub route : n.route i j ≡ i ∷ after
  pub late : (z : ℕ) → IsOn z after → z ≢ i

pub begins_at : (n : Net) (i j : ℕ) → IsNet n → n.joins i j ≡ true → BeginsAt n i j
begins_at n i j net joined =
    let first = net.begins i j joined in
    record {
      after = first.0;
      route = first.1;
      late = λ z at e. apart_by_number n i z (rises_at n i j i z [] at.0 at.1 net joined (first.1 ∙ ap (λ (xs : List ℕ). i ∷ xs) at.2)) (sym e);
    }

-- the last channel of a route stands nowhere else on it
pub record EndsAt (n : Net) (i j : ℕ) : Type 0 where
  pub before : List ℕ
  pub route : n.route i j ≡ before ++ j ∷ []
  pub early : (z : ℕ) → IsOn z before → z ≢ j

pub ends_at : (n : Net) (i j : ℕ) → IsNet n → n.joins i j ≡ true → EndsAt n i j
ends_at n i j net joined =
    let last = net.ends i j joined in
    record {
      before = last.0;
      route = last.1;
      early = λ z at. apart_by_number n z j (rises_at n i j z j at.0 at.1 [] net joined
          (last.1 ∙ (ap (λ (xs : List ℕ). xs ++ j ∷ []) at.2 ∙ append_assoc at.0 (z ∷ at.1) (j ∷ []))));
    }
