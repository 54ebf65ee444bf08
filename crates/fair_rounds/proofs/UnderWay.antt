-- The packets under way bound what the flits of a network have still to do.
use Rattle.std.proofs.Common.{◌≡◌, ⊎_elim, ℕ, ◌+◌, ◌*◌, ◌≤◌, Bool, true, false, List, [], ◌∷◌, ◌++◌, length, sym, ap, ◌∙◌, refl, arith, subst, All}
use Rattle.std.proofs.Common.{length-append}
use Rattle.std.proofs.lemmas.List.Sums.{sum_by-cons, sum_by_push}
use Rattle.std.proofs.lemmas.List.Elements.{All-head, All-tail}
use Rattle.std.specs.List.{sum_by}
use Rattle.std.specs.Prelude.{if◌then◌else◌}
use Rattle.wormhole.specs.Net.{Net, IsNet, IsOn, Parcel}
use Rattle.wormhole.specs.State.{NetState, empty}
use Rattle.wormhole.specs.Words.{Words, HasBeginning}
use Rattle.wormhole.specs.Routes.{Routes}
use Rattle.wormhole.specs.Delivery.{whole, whole_of, without_last, IsReached}
use Rattle.wormhole.specs.Weight.{sum_below, promised}
use Rattle.wormhole.specs.Events.{NetEvent, CanHappen, CanAllHappen, after, after_all}
use Rattle.wormhole.proofs.Lists.{all_on, all_from}
use Rattle.wormhole.proofs.Arrivals.{was_sent, begun_was_sent}
use Rattle.wormhole.proofs.Reached.{words_empty, routes_empty, words_kept, routes_kept}
use Rattle.fair_rounds.specs.Burden.{burden, toll, HasShortRoutes, AreShort, caps_sent, caps_whole}
use Rattle.fair_rounds.proofs.Reindexing.{sum_most, sum_plus}
use Rattle.fair_rounds.proofs.Trails.{Trails, trails_empty, trails_kept}
use Rattle.fair_rounds.proofs.HeadCounts.{IsCounted, counted_empty, counted_after}
use Rattle.fair_rounds.proofs.Sizes.{size}
use Rattle.fair_rounds.proofs.Hops.{burden_most}
use Rattle.fair_rounds.proofs.Tolls.{burden_after}

without_push : (ks : List Parcel) (k : Parcel) → without_last (ks ++ k ∷ []) ≡ ks
without_push [] k = refl
without_push (j ∷ []) k = refl
without_push (j ∷ i ∷ ks) k = ap (λ (xs : List Parcel). j ∷ xs) (without_push (i ∷ ks) k)

without_less : (c : Parcel → ℕ) (ks : List Parcel) → sum_by c (without_last ks) ≤ sum_by c ks
without_less c [] = omega arith
without_less c (k ∷ []) = omega arith
without_less c (k ∷ j ∷ ks) =
    let rest = without_less c (j ∷ ks) in
    let a = sum_by-cons c k (without_last (j ∷ ks)) in
    let b = sum_by-cons c k (j ∷ ks) in
    omega (arith, rest, a, b)

sum_less : (c d : Parcel → ℕ) (ks : List Parcel) → All (λ k. c k ≤ d k) ks → sum_by c ks ≤ sum_by d ks
sum_less c d [] all = omega arith
sum_less c d (k ∷ ks) all =
    let here = All-head (λ k. c k ≤ d k) k ks all in
    let rest = sum_less c d ks (All-tail (λ k. c k ≤ d k) k ks all) in
    let a = sum_by-cons c k ks in
    let b = sum_by-cons d k ks in
    omega (arith, here, rest, a, b)

-- what is known of each state that events lead to
pub record Known (n : Net) (s : NetState) : Type 0 where
  pub words : Words n s
  pub routes : Routes n s
  pub cur : ℕ → Parcel
  pub trails : Trails n s cur
  pub counted : (count : Parcel → ℕ) → IsCounted n count s

abbrev no_parcel : Parcel
no_parcel = record { source = 0; destination = 0; index = 0; head = 0; tail = [] }

pub known_empty : (n : Net) → Known n (empty n)
known_empty n = record {
  words = words_empty n;
  routes = routes_empty n;
  cur = λ x. no_parcel;
  trails = trails_empty n no_parcel;
  counted = λ count. counted_empty n count;
}

pub known_after : (n : Net) (s : NetState) (e : NetEvent) → IsNet n → CanHappen n s.lines e → Known n s → Known n (after n s e)
known_after n s e net may k =
    let t = trails_kept n s net k.words k.routes k.cur k.trails e may in
    record {
      words = words_kept n s e net k.words k.routes may;
      routes = routes_kept n s e net k.words k.routes may;
      cur = t.0;
      trails = t.1;
      counted = λ count. counted_after n count s net k.words k.routes e may (k.counted count);
    }

known_all : (n : Net) (s : NetState) (es : List NetEvent) → IsNet n → CanAllHappen n s es → Known n s → Known n (after_all n s es)
known_all n s [] net may k = k
known_all n s (e ∷ es) net may k = known_all n (after n s e) es net may.1 (known_after n s e net may.0 k)

pub known_reached : (n : Net) (s : NetState) → IsNet n → IsReached n s → Known n s
known_reached n s net is = subst (Known n) (sym is.stands) (known_all n (empty n) is.events net is.may (known_empty n))

module _ (n : Net) (s : NetState) (net : IsNet n) (near : HasShortRoutes n) (k : Known n s) (cap : ℕ → ℕ)
    (short : (x : ℕ) → All (AreShort cap) (s.notes x).sent) where
  abbrev count : Parcel → ℕ
  count p = cap p.source

  sent_short : (p : Parcel) → IsOn p (s.notes p.source).sent → AreShort cap p
  sent_short p on = all_on (AreShort cap) (s.notes p.source).sent p (short p.source) on

  parcels_short : (x : ℕ) → All (AreShort cap) (s.notes x).parcels
  parcels_short x = all_from (AreShort cap) (s.notes x).parcels (λ p on. sent_short p (was_sent n s x p k.words k.routes on))

  begun_short : (x : ℕ) (p : Parcel) → IsOn p (s.notes x).begun → AreShort cap p
  begun_short x p on = sent_short p (begun_was_sent n s x p k.routes on)

  -- the flits of the last packet begun, while it isn't whole, and the whole ones
  arrives : (x : ℕ) (awaited : List ℕ) (b : Bool) → (s.notes x).awaited ≡ awaited → n.ejects x ≡ b
      → (if b then length (s.notes x).awaited else 0) + sum_by count (whole_of awaited (s.notes x).begun) ≤ sum_by count (s.notes x).begun
  arrives x [] true is end = let none = ap length is in omega (arith, none)
  arrives x [] false is end = omega arith
  arrives x (f ∷ fs) false is end = let less = without_less count (s.notes x).begun in omega (arith, less)
  arrives x (f ∷ fs) true is end = ⊎_elim
      (λ (none : ((s.notes x).awaited ≡ []) × ((s.lines x).so_far ≡ [])). let no : ◌≡◌ {A = List ℕ} (f ∷ fs) [] = sym is ∙ none.0 in absurd (cc))
      (λ (q : HasBeginning (s.lines x) (s.notes x)).
      let some = begun_short x q.1 (q.0, [], q.2) in
      let whole_is : sum_by count (without_last (s.notes x).begun) ≡ sum_by count q.0 = ap (λ ks. sum_by count (without_last ks)) q.2 ∙ ap (sum_by count) (without_push q.0 q.1) in
      let all : sum_by count (s.notes x).begun ≡ sum_by count q.0 + count q.1 = ap (sum_by count) q.2 ∙ sum_by_push count q.0 q.1 in
      let flits = ap length q.3 in
      let parts = length-append (s.lines x).so_far (s.notes x).awaited in
      omega (arith, some, whole_is, all, flits, parts))
      (k.words.assembling x end)

  -- what the packets under way may have together
  pub under_way_most : burden n s + 30 * caps_whole n cap s ≤ 30 * caps_sent n cap s
  under_way_most =
      let c : ℕ = n.channels in
      let most = burden_most n s net k.words k.routes k.cur k.trails near in
      let way : ℕ → ℕ = λ x. sum_by size (s.notes x).parcels + (if n.ejects x then length (s.notes x).awaited else 0) in
      let each : sum_below c (λ x. way x + sum_by count (whole s x)) ≤ sum_below c (λ x. sum_by count (s.notes x).parcels + sum_by count (s.notes x).begun) =
      sum_most c _ _ (λ x low.
      let a = sum_less size count (s.notes x).parcels (parcels_short x) in
      let b = arrives x (s.notes x).awaited (n.ejects x) refl refl in
      omega (arith, a, b)) in
      let parts = sum_plus c way (λ x. sum_by count (whole s x)) in
      let all = k.counted count in
      omega (arith, most, each, parts, all)

whole_less : (c : Parcel → ℕ) (awaited : List ℕ) (ks : List Parcel) → sum_by c (whole_of awaited ks) ≤ sum_by c ks
whole_less c [] ks = omega arith
whole_less c (f ∷ fs) ks = without_less c ks

-- whatever is counted of packets, that of the whole ones is at most that of the sent ones
pub whole_most : (n : Net) (s : NetState) → Known n s → (cap : ℕ → ℕ) → caps_whole n cap s ≤ caps_sent n cap s
whole_most n s k cap =
    let count : Parcel → ℕ = λ p. cap p.source in
    let each : sum_below n.channels (λ x. sum_by count (whole s x))
    ≤ sum_below n.channels (λ x. sum_by count (s.notes x).parcels + sum_by count (s.notes x).begun) =
    sum_most n.channels _ _ (λ x low. let less = whole_less count (s.notes x).awaited (s.notes x).begun in omega (arith, less)) in
    let all = k.counted count in
    omega (arith, each, all)

-- of a state that events lead to
pub reached_most : (n : Net) → IsNet n → HasShortRoutes n → (s : NetState) → IsReached n s → (cap : ℕ → ℕ)
    → ((x : ℕ) → All (AreShort cap) (s.notes x).sent) → burden n s + 30 * caps_whole n cap s ≤ 30 * caps_sent n cap s
reached_most n net near s is cap short = under_way_most n s net near (known_reached n s net is) cap short

pub reached_toll : (n : Net) → IsNet n → (s : NetState) (e : NetEvent) → Words n s → Routes n s → CanHappen n s.lines e
    → burden n (after n s e) + toll e ≡ burden n s + promised n e
reached_toll n net s e words routes may = burden_after n s net words routes e may
