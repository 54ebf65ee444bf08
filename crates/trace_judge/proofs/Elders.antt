-- A configuration keeps up with an order, in which equal operations take effect in the order of their numbers.
use Rattle.std.proofs.Common.{◌≡◌, ◌≢◌, ◌⊎◌, inl, inr, ⊎_elim, ℕ, zero, suc, ◌<◌, ◌≤◌, List, length, Option, Some, None, refl, sym, ◌∙◌, ap, subst}
use Rattle.std.proofs.Common.{arith, slice_get, take, get_or}
use Rattle.std.proofs.lemmas.Bool.{cases_eq, cases_lt}
use Rattle.std.specs.Option.{IfSome}
use Rattle.std.specs.Int.{bit_at}
use Rattle.packet.specs.declared.kinds.Operation.{Operation}
use Rattle.packet.specs.declared.kinds.Reply.{Reply}
use Rattle.packet.specs.Memory.{reply_to, new_word}
use Rattle.trace_laws.specs.declared.event.Call.{Call}
use Rattle.trace_laws.specs.declared.event.Event.{Event}
use Rattle.trace_laws.specs.declared.opened.Open.{Open}
use Rattle.trace_laws.specs.declared.opened.Config.{Config}
use Rattle.trace_laws.specs.Traces.{IsTrace, TraceIssuesAt, IsAnswered, IsUnanswered}
use Rattle.trace_laws.specs.Orders.{IsOrder, memory_of}
use Rattle.trace_laws.specs.Configs.{IsOpen, IsLeft, HasTakenEffect, MayTake, AgreesWithValue, IsIn, IsAsGood, HasAsGood, effect}
use Rattle.trace_laws.specs.Searches.{IsAt, IsPending, IsIndexTable, Fits, KeepsUp, WasIdle, IsCut}
use Rattle.trace_laws.specs.Unanswered.{HasNoUnansweredLoad}
use Rattle.trace_laws.proofs.Lists.{get_take, take_get, take_push}
use Rattle.trace_laws.proofs.Bits.{bit_cases}
use Rattle.trace_laws.proofs.Table.{at_within}
use Rattle.trace_laws.proofs.Dominance.{good_more, good_effect, taken_on, taken_back}
use Rattle.trace_laws.proofs.Fits.{fits_effect}
use Rattle.trace_judge.specs.Elders.{IsElder, HasElder, IsExpandedInTurn}
use Rattle.trace_judge.proofs.Exchanging.{Stood, Younger, Older, Other, AreTwins, renamed, exchanged, at_map, map_at, prefix_stays, other_is, older_is, stood, answered_stays, exchange, exchange_heard}

-- the cut goes on by one place
pub cut_on : (trace : List Event) (k w : ℕ) (order : List Call) (n : ℕ) (d : Call) → slice_get order n ≡ Some d
    → (i : ℕ) → i < k → TraceIssuesAt trace i d
    → IsCut trace k w order n → IsCut trace k w order (suc n)
cut_on trace k w order n d at i early issue cut = record {
  before = λ x c l h here. ⊎_elim
      (λ (e : x ≡ n).
      let there : slice_get order n ≡ Some c = ap (λ (y : ℕ). slice_get order y) (sym e) ∙ h in
      let same : d ≡ c = cc in
      (i, early, subst (λ (f : Call). TraceIssuesAt trace i f) same issue))
      (λ (ne : x ≢ n). cut.before x c (omega arith) h here)
      (cases_eq x n);
  behind = λ x c l h here. cut.behind x c (omega arith) h here;
}

-- what has no promise is never answered
never_told : (trace : List Event) (k : ℕ) (o : Open) → IsPending trace k o → o.promise ≡ None → IsAnswered trace o.call.id → ⊥
never_told trace k o p none answer =
    let some : o.promise ≡ Some answer.1 = p.kept answer.0 answer.1 answer.2 in
    cc

-- any word agrees with it
agrees_none : (o : Open) (word : ℕ) → o.promise ≡ None → AgreesWithValue o word
agrees_none o word none = subst (λ (p : Option Reply). IfSome p (λ reply. reply_to o.call.operation.op word ≡ reply)) (sym none) tt

-- the reply that the order gives is the promise
pub place_agrees : (opening : List ℕ) (trace : List Event) (k : ℕ) (table : List (Option Open)) (order : List Call)
    → IsOrder opening trace order → (w : ℕ) → (n : ℕ) (d : Config) → Fits opening table w (take n order) d
    → (p : Open) → IsPending trace k p → slice_get order n ≡ Some p.call → p.call.operation.address ≡ w
    → AgreesWithValue p d.word
place_agrees opening trace k table order o w n d fits p fact at here = agree p.promise (λ reply h.
    let answer = fact.honest reply h in
    let told = o.replies answer.0 n p.call reply at answer.1 in
    sym (told ∙ (ap (λ (v : ℕ). reply_to p.call.operation.op (get_or (memory_of opening (take n order)) v 0)) here
    ∙ ap (λ (v : ℕ). reply_to p.call.operation.op v) (sym fits.word))))
  where
    agree : {P : Reply → Type 0} (promise : Option Reply) → ((reply : Reply) → promise ≡ Some reply → P reply)
        → IfSome promise P
    agree None h = tt
    agree (Some reply) h = h reply refl

-- in d the operation in slot u has taken effect, and in c it is one that asks the same as p in slot v
-- and is left there: with the effect of each, c is as good as d still
good_twin : (table : List (Option Open)) (w : ℕ) (c d : Config) (u v : ℕ) (q p : Open) → u < 128 → v < 128
    → IsOpen table w v p → p.promise ≡ None → q.call.operation ≡ p.call.operation → HasTakenEffect d u
    → IsAsGood table w c d → IsAsGood table w (effect c u q) (effect d v p)
good_twin table w c d u v q p l m pending none same has good = record {
  same = ap (λ (o : Operation). new_word o.op c.word) same ∙ ap (λ (x : ℕ). new_word p.call.operation.op x) good.same;
  taken = λ s far b. ⊎_elim
      (λ (e : s ≡ v). inr (
        p,
        record { there = ap (λ (n : ℕ). slice_get table n) e ∙ pending.there; here = pending.here },
        none,
      ))
      (λ (ne : s ≢ v). ⊎_elim (λ t. inl (taken_on c u s q l t)) (λ r. inr r) (good.taken s far (taken_back d v s p m ne b)))
      (cases_eq s v);
  more = λ s far b. ⊎_elim
      (λ (e : s ≡ u). inl (taken_on d v s p m (ap (λ (n : ℕ). bit_at d.taken n) e ∙ has)))
      (λ (ne : s ≢ u). ⊎_elim (λ t. inl (taken_on d v s p m t)) (λ r. inr r) (good.more s far (taken_back c u s q l ne b)))
      (cases_eq s u);
}

-- the operation in slot u serves for that in slot v, which stands next in the order: it is this one,
-- or an elder of it that has taken effect in d
abbrev Serves : Config → ℕ → ℕ → Open → Open → Type 0
Serves d u v q p = ((u ≡ v) × (q ≡ p)) ⊎ (HasTakenEffect d u × IsElder q p)

-- the order, perhaps another one, goes on by one place, and a configuration among these keeps up
pub record GoesOnInTurn (opening : List ℕ) (trace : List Event) (k : ℕ) (table : List (Option Open)) (w : ℕ)
    (old : List Call) (configs : List Config) (n : ℕ) : Type 0 where
  pub order : List Call
  pub explains : IsOrder opening trace order
  pub heard : HasNoUnansweredLoad trace order
  pub stays : (x : ℕ) (c : Call) → IsAnswered trace c.id → slice_get old x ≡ Some c → slice_get order x ≡ Some c
  pub config : Config
  pub there : IsIn configs config
  pub up : KeepsUp opening table w (take n order) config
  pub cut : IsCut trace k w order n

-- what goes on from an order goes on from one whose answered operations stand in it at their places
goes_back : (opening : List ℕ) (trace : List Event) (k : ℕ) (table : List (Option Open)) (w : ℕ)
    (old new : List Call) (configs : List Config) (n : ℕ)
    → ((x : ℕ) (c : Call) → IsAnswered trace c.id → slice_get old x ≡ Some c → slice_get new x ≡ Some c)
    → GoesOnInTurn opening trace k table w new configs n → GoesOnInTurn opening trace k table w old configs n
goes_back opening trace k table w old new configs n kept on = record {
  order = on.order;
  explains = on.explains;
  heard = on.heard;
  stays = λ x c answered h. on.stays x c answered (kept x c answered h);
  config = on.config;
  there = on.there;
  up = on.up;
  cut = on.cut;
}

elders_twins : (trace : List Event) (k : ℕ) (q p : Open) → IsPending trace k q → IsPending trace k p → IsElder q p
    → AreTwins trace q.call p.call
elders_twins trace k q p fact also is = record {
  older = is.older;
  same = is.same;
  first = fact.at;
  second = also.at;
  issue = fact.issue;
  issue_too = also.issue;
  never = never_told trace k q fact is.lost;
  never_too = never_told trace k p also is.waits;
}

elder_through : (r q p : Open) → IsElder r q → ((q ≡ p) ⊎ IsElder q p) → IsElder r p
elder_through r q p is next = ⊎_elim {C = IsElder r p}
    (λ (e : q ≡ p). subst (λ (o : Open). IsElder r o) e is)
    (λ (also : IsElder q p). record {
      older = let l = is.older in let m = also.older in omega arith;
      same = is.same ∙ also.same;
      lost = is.lost;
      waits = also.waits;
    })
    next

-- what stands before the cut is neither of the two
prefix_other : (opening : List ℕ) (trace : List Event) (order : List Call) → IsOrder opening trace order
    → (table : List (Option Open)) (w n : ℕ) (d : Config) → Fits opening table w (take n order) d
    → (t : ℕ) (r p : Open) → IsOpen table w t r → IsLeft d t → slice_get order n ≡ Some p.call
    → (x : ℕ) (c : Call) → x < n → slice_get order x ≡ Some c → renamed r.call.id p.call.id c ≡ c
prefix_other opening trace order o table w n d fits t r p open' left at x c l h = other_is r.call.id p.call.id c
    (λ e. fits.left t r open' left (x, c, get_take n order x c l h, e))
    (λ e. let same = o.once x n c p.call h at e in omega arith)

-- the cut is one in the new order
exchanged_cut : (opening : List ℕ) (trace : List Event) (k w : ℕ) (order : List Call) → IsTrace (length opening) trace
    → IsOrder opening trace order → (n : ℕ) (r p : Open) → IsPending trace k r → IsPending trace k p
    → AreTwins trace r.call p.call → IsCut trace k w order n
    → IsCut trace k w (exchanged r.call.id p.call.id order) n
exchanged_cut opening trace k w order tr o n r p fact also twins cut = record {
  before = λ x d l h here.
      let was = map_at (λ (c : Call). renamed r.call.id p.call.id c) order x d h in
      early x was.0 d l was.1 (ap (λ (c : Call). c.operation.address) (sym was.2) ∙ here)
      (stood (length opening) opening trace order tr o r.call p.call twins x was.0 d was.1 was.2);
  behind = λ x d l h here.
      let was = map_at (λ (c : Call). renamed r.call.id p.call.id c) order x d h in
      late x was.0 d l was.1 (ap (λ (c : Call). c.operation.address) (sym was.2) ∙ here)
      (stood (length opening) opening trace order tr o r.call p.call twins x was.0 d was.1 was.2);
}
  where
    early : (x : ℕ) (c d : Call) → x < n → slice_get order x ≡ Some c → c.operation.address ≡ w
        → Stood r.call p.call c d → (i : ℕ) × (i < k) × TraceIssuesAt trace i d
    early x c d l h here (Younger is alike) =
        (also.at, also.early, subst (λ (e : Call). TraceIssuesAt trace also.at e) (sym alike) also.issue)
    early x c d l h here (Older is alike) =
        (fact.at, fact.early, subst (λ (e : Call). TraceIssuesAt trace fact.at e) (sym alike) fact.issue)
    early x c d l h here (Other is) =
        let i = cut.before x c l h here in
        (i.0, i.1, subst (λ (e : Call). TraceIssuesAt trace i.0 e) (sym is) i.2)

    late : (x : ℕ) (c d : Call) → n ≤ x → slice_get order x ≡ Some c → c.operation.address ≡ w
        → Stood r.call p.call c d → IsUnanswered trace k d.id ⊎ WasIdle trace k d
    late x c d l h here (Younger is alike) =
        inl (subst (λ (e : Call). IsUnanswered trace k e.id) (sym alike) also.unanswered)
    late x c d l h here (Older is alike) =
        inl (subst (λ (e : Call). IsUnanswered trace k e.id) (sym alike) fact.unanswered)
    late x c d l h here (Other is) =
        subst (λ (e : Call). IsUnanswered trace k e.id ⊎ WasIdle trace k e) (sym is) (cut.behind x c l h here)

-- an open operation stands next in the order: it takes effect, or an elder of it does, in an order in which that stands next
pub step_elder : (opening : List ℕ) (trace : List Event) (k : ℕ) (table : List (Option Open))
    → IsTrace (length opening) trace → (w : ℕ) → IsIndexTable trace k w table → w < length opening
    → (configs : List Config) (n : ℕ) (c d : Config) → IsExpandedInTurn table w configs c → IsAsGood table w c d
    → (fuel : ℕ) (order : List Call) → IsOrder opening trace order → HasNoUnansweredLoad trace order
    → Fits opening table w (take n order) d → IsCut trace k w order n
    → (v : ℕ) (p : Open) → IsAt table v p → slice_get order n ≡ Some p.call
    → (u : ℕ) (q : Open) → IsAt table u q → IsLeft c u → q.call.id < fuel → Serves d u v q p
    → GoesOnInTurn opening trace k table w order configs (suc n)
step_elder opening trace k table tr w is inside configs n c d turn good zero order o heard fits cut v p there at u q also free less serves =
    absurd (omega arith)
step_elder opening trace k table tr w is inside configs n c d turn good (suc fuel) order o heard fits cut v p there at u q also free less serves =
    let here : p.call.operation.address ≡ w = is.here v p there in
    let pending : IsOpen table w v p = record { there = there; here = here } in
    let low : v < 128 = at_within trace k w table v p is there in
    let far : u < 128 = at_within trace k w table u q is also in
    let fact : IsPending trace k p = is.pending v p there in
    let left : IsLeft d v = ⊎_elim
    (λ (l : IsLeft d v). l)
    (λ (b : HasTakenEffect d v).
    let on = fits.taken v p pending b in
    let stands = take_get n order on.0 on.1 on.2 in
    let twice = o.once on.0 n on.1 p.call stands.1 at on.3 in
    let before = stands.0 in
    absurd (omega arith))
    (bit_cases d.taken v) in
    let agrees : AgreesWithValue p d.word = place_agrees opening trace k table order o w n d fits p fact at here in
    let next : Fits opening table w (take (suc n) order) (effect d v p) =
    subst (λ (q : List Call). Fits opening table w q (effect d v p)) (sym (take_push order n p.call at))
    (fits_effect opening trace k table w (take n order) d v p is inside
    (record { pending = pending; left = left; agrees = agrees }) fits) in
    let fits_too : AgreesWithValue q c.word = ⊎_elim {C = AgreesWithValue q c.word}
    (λ (e : (u ≡ v) × (q ≡ p)). subst (λ (x : Open). AgreesWithValue x c.word) (sym e.1)
    (subst (λ (x : ℕ). AgreesWithValue p x) (sym good.same) agrees))
    (λ (e : HasTakenEffect d u × IsElder q p). agrees_none q c.word e.1.lost)
    serves in
    let may : MayTake table w c u q =
    record { pending = record { there = also; here = is.here u q also }; left = free; agrees = fits_too } in
    ⊎_elim {C = GoesOnInTurn opening trace k table w order configs (suc n)}
    (λ (e : HasElder table w c q).
    let r : Open = e.elder in
    let elder : IsElder r p = elder_through r q p e.is
    (⊎_elim {C = (q ≡ p) ⊎ IsElder q p} (λ (f : (u ≡ v) × (q ≡ p)). inl f.1) (λ (f : HasTakenEffect d u × IsElder q p). inr f.1) serves) in
    let lesser : r.call.id < fuel = let l = e.is.older in omega arith in
    let behind : IsPending trace k r = is.pending e.slot r e.pending.there in
    ⊎_elim {C = GoesOnInTurn opening trace k table w order configs (suc n)}
    (λ (waits : IsLeft d e.slot).
    let twins : AreTwins trace r.call p.call = elders_twins trace k r p behind fact elder in
    let later : List Call = exchanged r.call.id p.call.id order in
    let same : take n later ≡ take n order = prefix_stays (λ (x : Call). renamed r.call.id p.call.id x) n order
    (prefix_other opening trace order o table w n d fits e.slot r p e.pending waits at) in
    let far_behind : (y : ℕ) → slice_get order y ≡ Some r.call → n < y = λ y h. ⊎_elim {C = n < y}
    (λ (f : y ≡ n).
    let here : slice_get order n ≡ Some r.call = ap (λ (x : ℕ). slice_get order x) (sym f) ∙ h in
    let one : r.call ≡ p.call = cc in
    let l = elder.older in
    let m : r.call.id ≡ p.call.id = ap (λ (x : Call). x.id) one in
    absurd (omega arith))
    (λ (f : y ≢ n). ⊎_elim {C = n < y}
    (λ (l : y < n). absurd (fits.left e.slot r e.pending waits (y, r.call, get_take n order y r.call l h, refl)))
    (λ (l : n ≤ y). omega arith)
    (cases_lt y n))
    (cases_eq y n) in
    let explains = exchange opening trace order tr o r.call p.call twins n at far_behind in
    goes_back opening trace k table w order later configs (suc n)
    (λ x a answered h. answered_stays trace order r.call p.call twins x a answered h)
    (step_elder opening trace k table tr w is inside configs n c d turn good fuel later explains
    (exchange_heard opening trace order tr o r.call p.call twins heard)
    (subst (λ (ys : List Call). Fits opening table w ys d) (sym same) fits)
    (exchanged_cut opening trace k w order tr o n r p behind fact twins cut)
    e.slot r e.pending.there
    (at_map (λ (x : Call). renamed r.call.id p.call.id x) order n p.call at ∙ ap (λ (x : Call). Some x) (older_is trace r.call p.call twins))
    e.slot r e.pending.there e.left lesser (inl (refl, refl))))
    (λ (took : HasTakenEffect d e.slot).
    step_elder opening trace k table tr w is inside configs n c d turn good fuel order o heard fits cut v p there at
    e.slot r e.pending.there e.left lesser (inr (took, elder)))
    (bit_cases d.taken e.slot))
    (λ (has : HasAsGood table w configs (effect c u q)).
    let better : IsAsGood table w (effect c u q) (effect d v p) = ⊎_elim {C = IsAsGood table w (effect c u q) (effect d v p)}
    (λ (e : (u ≡ v) × (q ≡ p)).
    subst (λ (x : ℕ). IsAsGood table w (effect c x q) (effect d v p)) (sym e.0)
    (subst (λ (x : Open). IsAsGood table w (effect c v x) (effect d v p)) (sym e.1)
    (good_effect table w c d v p low good)))
    (λ (e : HasTakenEffect d u × IsElder q p).
    good_twin table w c d u v q p far low pending e.1.waits e.1.same e.0 good)
    serves in
    record {
      order = order;
      explains = o;
      heard = heard;
      stays = λ x a answered h. h;
      config = has.0;
      there = has.1;
      up = (effect d v p, next, good_more table w has.0 (effect c u q) (effect d v p) has.2 better);
      cut = cut_on trace k w order n p.call at fact.at fact.early fact.issue cut;
    })
    (turn u q may)
