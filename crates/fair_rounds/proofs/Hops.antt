-- What a network owes to flits that are to be put and taken: at most 30 moves for each flit under way.
use Rattle.std.proofs.Common.{◌≡◌, ◌≢◌, ⊎_elim, ℕ, ◌+◌, ◌*◌, ◌<◌, ◌≤◌, zero, suc, Bool, true, false, List, [], ◌∷◌, length, Option, Some, None, inl, inr, sym, ap, ◌∙◌, refl, arith, subst, All}
use Rattle.std.proofs.Common.{length-append}
use Rattle.std.proofs.Math.Nat.{mul-le-mul_left, mul-suc}
use Rattle.std.proofs.lemmas.Bool.{cases_lt}
use Rattle.std.proofs.lemmas.List.Sums.{sum_by-cons}
use Rattle.std.proofs.lemmas.List.Elements.{All-nil, All-cons, All-head, All-tail}
use Rattle.std.specs.List.{sum_by}
use Rattle.std.specs.Prelude.{if◌then◌else◌}
use Rattle.std.specs.Option.{option_to_list}
use Rattle.wormhole.specs.Net.{Net, IsNet, IsOn, IsParcel, Parcel, flits_of_all}
use Rattle.wormhole.specs.State.{NetState, in_line}
use Rattle.wormhole.specs.Words.{Words}
use Rattle.wormhole.specs.Routes.{Routes}
use Rattle.wormhole.specs.Weight.{sum_below, beyond, weight_onward}
use Rattle.wormhole.proofs.Sums.{sum_same}
use Rattle.fair_rounds.specs.Burden.{burden_at, burden}
use Rattle.fair_rounds.proofs.Reindexing.{reindexed, sum_most, sum_plus}
use Rattle.fair_rounds.proofs.Trails.{Trails, last_or, way}
use Rattle.fair_rounds.proofs.Sizes.{size, size_all, on_way, to_go, hops, hops_most}

module _ (n : Net) (s : NetState) (net : IsNet n) (words : Words n s) (routes : Routes n s) (cur : ℕ → Parcel) (at : Trails n s cur)
    (near : (i j : ℕ) → n.joins i j ≡ true → length (n.route i j) ≤ 10) where
  abbrev line : ℕ → ℕ
  line x = length (in_line (s.lines x))

  abbrev owed : ℕ → ℕ
  owed x = length (s.notes x).owed

  abbrev waits : ℕ → ℕ
  waits x = length (s.notes x).awaited

  abbrev sizes : ℕ → ℕ
  sizes x = sum_by size (s.notes x).parcels

  abbrev hops_at : ℕ → ℕ
  hops_at x = sum_by (hops n x) (s.notes x).parcels

  abbrev tip : ℕ → Parcel
  tip x = last_or (cur x) (s.notes x).parcels

  abbrev onward : ℕ → ℕ
  onward x = waits x * beyond x (way n (cur x))

  -- what comes out of a channel stands in it, or is owed to it
  balance : (x : ℕ) → waits x + sizes x ≡ line x + owed x
  balance x =
      let both = ap length (words.contiguous x) in
      let left = length-append (s.notes x).awaited (flits_of_all (s.notes x).parcels) in
      let right = length-append (in_line (s.lines x)) (s.notes x).owed in
      let all = size_all (s.notes x).parcels in
      omega (arith, both, left, right, all)

  none_waits : (x : ℕ) → 0 < waits x → (s.notes x).awaited ≢ []
  none_waits x some none = let zero_is = ap length none in omega (arith, some, zero_is)

  cur_near : (x : ℕ) → 0 < waits x → to_go n x (cur x) ≤ 10
  cur_near x some =
      let c = at.course x (none_waits x some) in
      on_way n net x (cur x) c.joined c.on (near (cur x).source (cur x).destination c.joined)

  all_near : (x : ℕ) (ks : List Parcel) → All (IsParcel n) ks → All (λ k. IsOn x (n.route k.source k.destination)) ks → All (λ k. to_go n x k ≤ 10) ks
  all_near x [] are on = All-nil (λ k. to_go n x k ≤ 10)
  all_near x (k ∷ ks) are on =
      let is = All-head (IsParcel n) k ks are in
      All-cons (λ k. to_go n x k ≤ 10) k ks
      (on_way n net x k is.joined (All-head (λ k. IsOn x (n.route k.source k.destination)) k ks on) (near k.source k.destination is.joined))
      (all_near x ks (All-tail (IsParcel n) k ks are) (All-tail (λ k. IsOn x (n.route k.source k.destination)) k ks on))

  tip_near : (x : ℕ) (ks : List Parcel) → (s.notes x).parcels ≡ ks → 0 < owed x → to_go n x (tip x) ≤ 10
  tip_near x [] none some =
      let nothing : sizes x ≡ 0 = ap (sum_by size) none in
      let all = balance x in
      subst (λ (p : Parcel). to_go n x p ≤ 10) (sym (ap (last_or (cur x)) none)) (cur_near x (omega (arith, all, nothing, some)))
  tip_near x (k ∷ ks) are some =
      subst (λ (p : Parcel). to_go n x p ≤ 10) (sym (ap (last_or (cur x)) are))
      (last_near k ks (subst (All (λ k. to_go n x k ≤ 10)) are (all_near x (s.notes x).parcels (words.parcels x) (routes.on_route x))))
    where
      last_near : (k : Parcel) (ks : List Parcel) → All (λ k. to_go n x k ≤ 10) (k ∷ ks) → to_go n x (last_or k ks) ≤ 10
      last_near k [] all = All-head (λ k. to_go n x k ≤ 10) k [] all
      last_near k (j ∷ ks) all = last_near j ks (All-tail (λ k. to_go n x k ≤ 10) k (j ∷ ks) all)

  -- of one channel
  hops_here : (x : ℕ) → waits x + onward x + hops_at x ≤ 10 * line x + owed x * to_go n x (tip x)
  hops_here x =
      let most : waits x * to_go n x (cur x) + hops_at x ≤ 10 * line x + owed x * to_go n x (tip x) =
      hops_most n x (cur x) (s.notes x).parcels (waits x) (line x) (owed x) (balance x) (cur_near x)
      (all_near x (s.notes x).parcels (words.parcels x) (routes.on_route x)) (λ some. at.owed x) in
      let split : waits x * to_go n x (cur x) ≡ onward x + waits x = mul-suc (waits x) (beyond x (way n (cur x))) in
      omega (arith, most, split)

  -- what is owed to an injection, and to the output of a router
  abbrev to_begin : ℕ → ℕ
  to_begin x = if n.injects x then owed x else 0

  abbrev to_follow : ℕ → ℕ
  to_follow x = if n.injects x then 0 else owed x * to_go n x (tip x)

  owed_here : (x : ℕ) → owed x * to_go n x (tip x) ≤ 10 * to_begin x + to_follow x
  owed_here x = by_end (n.injects x)
    where
      by_end : (b : Bool) → owed x * to_go n x (tip x) ≤ 10 * (if b then owed x else 0) + (if b then 0 else owed x * to_go n x (tip x))
      by_end false = omega arith
      by_end true = elim (cases_lt 0 (owed x)) [
        | inl some ↦
            let most : owed x * to_go n x (tip x) ≤ owed x * 10 = mul-le-mul_left (owed x) (tip_near x (s.notes x).parcels refl some) in
            omega (arith, most)
        | inr none ↦
            let zero_is : owed x ≡ 0 = omega (arith, none) in
            let gone : owed x * to_go n x (tip x) ≡ 0 * to_go n x (tip x) = ap (λ m. m * to_go n x (tip x)) zero_is in
            omega (arith, gone)
      ]

  pub record IsOwned (y : ℕ) : Type 0 where
    pub input : ℕ
    pub owner : (s.lines y).owner ≡ Some input
    pub within : input < n.channels
    pub pays : owed y * to_go n y (tip y) ≡ onward input

  owned : (y : ℕ) (b : Bool) (o : Option ℕ) → n.injects y ≡ b → (s.lines y).owner ≡ o
      → 0 < (if b then 0 else owed y * to_go n y (tip y)) → IsOwned y
  owned y true o end is some = absurd (omega (arith, some))
  owned y false None end is some =
      let none : owed y ≡ 0 = ap length (words.free y end is) in
      let gone : owed y * to_go n y (tip y) ≡ 0 * to_go n y (tip y) = ap (λ m. m * to_go n y (tip y)) none in
      absurd (omega (arith, gone, some))
  owned y false (Some x) end is some =
      let held = words.held x y is in
      let trail = at.trail x y is in
      record {
        input = x;
        owner = is;
        within = words.inside.owner x y is;
        pays = ap (λ o. length o * to_go n y (tip y)) held.same
            ∙ (ap (λ p. waits x * to_go n y p) trail.same ∙ ap (λ m. waits x * m) (sym trail.next));
      }

  abbrev owned_at : (y : ℕ) → 0 < to_follow y → IsOwned y
  owned_at y some = owned y (n.injects y) (s.lines y).owner refl refl some

  follows : (y : ℕ) (b : Bool) → (if b then 0 else owed y * to_go n y (tip y)) ≤ owed y * to_go n y (tip y)
  follows y true = omega arith
  follows y false = omega arith

  follow_most : sum_below n.channels to_follow ≤ sum_below n.channels onward
  follow_most = reindexed (λ y x. (s.lines y).owner ≡ Some x) (λ y z x a b. words.single x y z a b) n.channels n.channels to_follow onward
      (λ y low some.
      let o : IsOwned y = owned y (n.injects y) (s.lines y).owner refl refl some in
      let least = follows y (n.injects y) in
      let pays = o.pays in
      record { at = o.input; low = o.within; by = o.owner; most = omega (arith, least, pays) })

  -- what comes out of an input of a router goes into the output that it owns
  abbrev to_arrive : ℕ → ℕ
  to_arrive x = if n.ejects x then waits x else 0

  abbrev to_pass : ℕ → ℕ
  to_pass x = if n.ejects x then 0 else waits x

  abbrev to_enter : ℕ → ℕ
  to_enter y = if n.injects y then 0 else owed y

  pub record Owns (x : ℕ) : Type 0 where
    pub output : ℕ
    pub owner : (s.lines output).owner ≡ Some x
    pub within : output < n.channels
    pub pays : to_enter output ≡ waits x

  owns : (x : ℕ) (b : Bool) → n.ejects x ≡ b → 0 < (if b then 0 else waits x) → Owns x
  owns x true end some = absurd (omega (arith, some))
  owns x false end some = ⊎_elim
      (λ (none : (s.notes x).awaited ≡ []). let gone = ap length none in absurd (omega (arith, gone, some)))
      (λ (own : (y : ℕ) × ((s.lines y).owner ≡ Some x)).
      let held = words.held x own.0 own.1 in
      record {
        output = own.0;
        owner = own.1;
        within = words.inside.owned x own.0 own.1;
        pays = ap (λ (b : Bool). if b then 0 else owed own.0) held.output ∙ ap length held.same;
      })
      (words.owning x end)

  enters : (y w : ℕ) → to_enter y ≡ w → w ≤ to_enter y
  enters y w e = omega (arith, e)

  passes : (x : ℕ) (b : Bool) → (if b then 0 else waits x) ≤ waits x
  passes x true = omega arith
  passes x false = omega arith

  pass_most : sum_below n.channels to_pass ≤ sum_below n.channels to_enter
  pass_most = reindexed (λ x y. (s.lines y).owner ≡ Some x) (λ x z y a b. cc) n.channels n.channels to_pass to_enter
      (λ x low some.
      let o : Owns x = owns x (n.ejects x) refl some in
      let most = enters o.output (waits x) o.pays in
      let least = passes x (n.ejects x) in
      record { at = o.output; low = o.within; by = o.owner; most = omega (arith, most, least) })

  abbrev burden_here_at : ℕ → ℕ
  burden_here_at x = burden_at n x (s.lines x) (s.notes x)

  hops_are : (x : ℕ) (ks : List Parcel) → sum_by (hops n x) ks ≡ sum_by (weight_onward n x) ks + sum_by size ks
  hops_are x [] = refl
  hops_are x (k ∷ ks) =
      let rest = hops_are x ks in
      let a = sum_by-cons (hops n x) k ks in
      let b = sum_by-cons (weight_onward n x) k ks in
      let c = sum_by-cons size k ks in
      let split : hops n x k ≡ weight_onward n x k + size k = mul-suc (size k) (beyond x (way n k)) in
      omega (arith, rest, a, b, c, split)

  in_flits : (x : ℕ) → length (s.lines x).flits ≤ line x
  in_flits x = let both = length-append (option_to_list (s.lines x).latch) (s.lines x).flits in omega (arith, both)

  burden_here : (x : ℕ) → burden_here_at x ≤ 3 * waits x + 3 * hops_at x
  burden_here x =
      let all = balance x in
      let flits = in_flits x in
      let sum = hops_are x (s.notes x).parcels in
      omega (arith, all, flits, sum)

  split_waits : (x : ℕ) → waits x ≡ to_arrive x + to_pass x
  split_waits x = by_end (n.ejects x)
    where
      by_end : (b : Bool) → waits x ≡ (if b then waits x else 0) + (if b then 0 else waits x)
      by_end true = omega arith
      by_end false = omega arith

  split_owed : (x : ℕ) → owed x ≡ to_begin x + to_enter x
  split_owed x = by_end (n.injects x)
    where
      by_end : (b : Bool) → owed x ≡ (if b then owed x else 0) + (if b then 0 else owed x)
      by_end true = omega arith
      by_end false = omega arith

  -- the flits of a channel's packets whose heads are there, and those that a receiver awaits
  abbrev pub under_way_at : ℕ → ℕ
  under_way_at x = sizes x + to_arrive x

  -- 30 for each flit under way are enough
  pub burden_most : burden n s ≤ 30 * sum_below n.channels under_way_at
  burden_most =
      let c : ℕ = n.channels in
      let a : sum_below c burden_here_at ≤ sum_below c (λ x. 3 * waits x + 3 * hops_at x) = sum_most c burden_here_at _ (λ x low. burden_here x) in
      let b : sum_below c (λ x. 3 * waits x + 3 * hops_at x) ≡ 3 * sum_below c waits + 3 * sum_below c hops_at = sum_times c waits hops_at in
      let h : sum_below c (λ x. waits x + onward x + hops_at x) ≤ sum_below c (λ x. 10 * line x + (10 * to_begin x + to_follow x)) =
      sum_most c _ _ (λ x low. let one = hops_here x in let two = owed_here x in omega (arith, one, two)) in
      let i : sum_below c (λ x. waits x + onward x + hops_at x) ≡ sum_below c waits + sum_below c onward + sum_below c hops_at =
      let p = sum_plus c (λ x. waits x + onward x) hops_at in let q = sum_plus c waits onward in omega (arith, p, q) in
      let j : sum_below c (λ x. 10 * line x + (10 * to_begin x + to_follow x))
      ≡ 10 * sum_below c line + 10 * sum_below c to_begin + sum_below c to_follow =
      let p = sum_plus c (λ x. 10 * line x) (λ x. 10 * to_begin x + to_follow x) in let q = sum_plus c (λ x. 10 * to_begin x) to_follow in
      let u = sum_ten c line in let v = sum_ten c to_begin in omega (arith, p, q, u, v) in
      let k : sum_below c (λ x. waits x + sizes x) ≡ sum_below c (λ x. line x + owed x) = sum_same c (λ x. line x + owed x) (λ x. waits x + sizes x) (λ x low. balance x) in
      let k1 = sum_plus c waits sizes in
      let k2 = sum_plus c line owed in
      let l : sum_below c waits ≡ sum_below c to_arrive + sum_below c to_pass =
      sum_same c (λ x. to_arrive x + to_pass x) waits (λ x low. split_waits x) ∙ sum_plus c to_arrive to_pass in
      let m : sum_below c owed ≡ sum_below c to_begin + sum_below c to_enter =
      sum_same c (λ x. to_begin x + to_enter x) owed (λ x low. split_owed x) ∙ sum_plus c to_begin to_enter in
      let o = sum_plus c sizes to_arrive in
      omega (arith, a, b, h, i, j, k, k1, k2, l, m, o, follow_most, pass_most)
    where
      sum_ten : (c : ℕ) (f : ℕ → ℕ) → sum_below c (λ x. 10 * f x) ≡ 10 * sum_below c f
      sum_ten zero f = refl
      sum_ten (suc c) f = let rest = sum_ten c f in omega (arith, rest)

      sum_times : (c : ℕ) (f g : ℕ → ℕ) → sum_below c (λ x. 3 * f x + 3 * g x) ≡ 3 * sum_below c f + 3 * sum_below c g
      sum_times zero f g = refl
      sum_times (suc c) f g = let rest = sum_times c f g in omega (arith, rest)
