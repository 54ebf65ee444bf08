-- Responses in flight from one bank to one processor stand in the order of the services: kept by each move, so that answers come in turn.
use Rattle.std.proofs.Common.{◌≡◌, ◌≢◌, ◌⊎◌, inl, inr, ⊎_elim, ℕ, ◌<◌, ◌≤◌, List, [], ◌∷◌, ◌++◌, length, Some, sym, ◌∙◌, ap, subst, arith, slice_get}
use Rattle.std.specs.Prelude.{remove}
use Rattle.std.proofs.lemmas.Bool.{cases_eq, cases_lt}
use Rattle.std.proofs.lemmas.Option.{slice_get_within, same_Some}
use Rattle.torus.specs.declared.step.Tag.{Tag}
use Rattle.packet.specs.declared.kinds.Op.{Op}
use Rattle.packet.specs.declared.kinds.Operation.{Operation}
use Rattle.packet.specs.declared.kinds.Response.{Response}
use Rattle.home_bank.specs.declared.entry.Entry.{Entry}
use Rattle.one_order.specs.Observed.{Observed, list_at, IsTold}
use Rattle.one_order.specs.Order.{LinearizationPoint, home}
use Rattle.one_order.specs.Events.{Issued, Served, Answered, happens, event_entry}
use Rattle.one_order.proofs.Lists.{push_at_cases, push_at_keeps, push_at_new, get_push_cases, get_append_left, get_push}
use Rattle.one_order.proofs.Account.{Account, told_within}
use Rattle.one_order.proofs.AbstractPlaces.{stood, removed_is, stood_rises, still_there}
use Rattle.one_order.proofs.Transport.{Tags, answer_in, ResponseIs}

-- a response in flight tells p of the service of this place of bank b
abbrev pub IsOnItsWay : List Response → ℕ → ℕ → ℕ → Type 0
IsOnItsWay told p b place = (j : ℕ) × (r : Response) × (slice_get told j ≡ Some r) × (r.source ≡ b) × (r.destination ≡ p) × (r.place ≡ place)

-- Responses of one bank to one processor stand in the order of the services; and each service is answered, or its response is in flight.
pub record Telling (s : Observed) (told : List Response) : Type 0 where
  pub turns : (j k : ℕ) (r q : Response) → j < k → slice_get told j ≡ Some r → slice_get told k ≡ Some q → r.source ≡ q.source → r.destination ≡ q.destination
      → r.place < q.place
  pub served : (b place : ℕ) (e : Entry) → slice_get (list_at s.entries b) place ≡ Some e → IsTold s e.source b place ⊎ IsOnItsWay told e.source b place

-- where a response is the oldest of its bank to its processor, the earlier services of that processor there are answered
pub answered_in_turn : (s : Observed) (told : List Response) → Telling s told → (place : ℕ) (r : Response) → slice_get told place ≡ Some r
    → ((k : ℕ) (q : Response) → k < place → slice_get told k ≡ Some q → q.source ≡ r.source → q.destination ≡ r.destination → ⊥)
    → (at : ℕ) (earlier : Entry) → at < r.place → slice_get (list_at s.entries r.source) at ≡ Some earlier → earlier.source ≡ r.destination
    → IsTold s r.destination r.source at
answered_in_turn s told t place r there oldest at earlier below served of = subst (λ (p : ℕ). IsTold s p r.source at) of (⊎_elim
    (λ answered. answered)
    (λ (way : IsOnItsWay told earlier.source r.source at).
    let k : ℕ = way.0 in
    let q : Response = way.1 in
    let to : q.destination ≡ r.destination = way.4 ∙ of in
    absurd (⊎_elim
    (λ (before : k < place). oldest k q before way.2 way.3 to)
    (λ (from : place ≤ k). ⊎_elim
    (λ (here : place ≡ k).
    let same : r ≡ q = same_Some _ _ (sym there ∙ (ap (slice_get told) here ∙ way.2)) in
    let places : r.place ≡ at = ap (λ (x : Response). x.place) same ∙ way.5 in
    omega (arith, below, places))
    (λ (elsewhere : place ≢ k).
    let behind : place < k = omega arith in
    let turn = t.turns place k r q behind there way.2 (sym way.3) (sym to) in
    let places : q.place ≡ at = way.5 in
    omega (arith, below, turn, places))
    (cases_eq place k))
    (cases_lt k place)))
    (t.served r.source at earlier served))

pub telling_sends : (tiles : ℕ) (s : Observed) (told : List Response) (p : ℕ) (o : Operation) → Telling s told → Telling (happens tiles s (Issued p o)) told
telling_sends tiles s told p o t = record { turns = t.turns; served = t.served }

-- the response of a service goes behind those of the earlier ones
pub telling_serves : (tiles tag_count : ℕ) (opening : List ℕ) (s : Observed) (tags : Tags) (told : List Response) (order : List LinearizationPoint)
    → Account tiles tag_count opening s order
    → ((j : ℕ) (x : Response) → slice_get told j ≡ Some x → ResponseIs tiles opening tags order x) → Telling s told
    → (p i : ℕ) (tag : Tag) (o : Operation) (q : Response) → q.destination ≡ p → q.source ≡ home tiles o → q.place ≡ length (list_at s.entries (home tiles o))
    → Telling (happens tiles s (Served p i tag o)) (told ++ q ∷ [])
telling_serves tiles tag_count opening s tags told order acc responses t p i tag o q to from last =
    let b : ℕ = home tiles o in
    let e : Entry = event_entry p tag o s.memory in
    record {
      turns = λ j k x y below hj hk same_bank same_processor. ⊎_elim
          (λ (lj : slice_get told j ≡ Some x). ⊎_elim
          (λ (lk : slice_get told k ≡ Some y). t.turns j k x y below lj lk same_bank same_processor)
          (λ (nk : (k ≡ length told) × (q ≡ y)).
          let is = responses j x lj in
          let within = told_within tiles tag_count opening s order x.destination (answer_in x is.index is.op) acc is.at in
          let bank : x.source ≡ b = same_bank ∙ (ap (λ (z : Response). z.source) (sym nk.1) ∙ from) in
          let same = ap (λ n. length (list_at s.entries n)) bank in
          let place : y.place ≡ length (list_at s.entries b) = ap (λ (z : Response). z.place) (sym nk.1) ∙ last in
          omega (arith, within, same, place))
          (get_push_cases told q k y hk))
          (λ (nj : (j ≡ length told) × (q ≡ x)). ⊎_elim
          (λ (lk : slice_get told k ≡ Some y). let w = slice_get_within told k y lk in absurd (omega (arith, w, nj.0)))
          (λ (nk : (k ≡ length told) × (q ≡ y)). absurd (omega (arith, nj.0, nk.0)))
          (get_push_cases told q k y hk))
          (get_push_cases told q j x hj);
      served = λ c place x h. ⊎_elim
          (λ (old : slice_get (list_at s.entries c) place ≡ Some x). ⊎_elim
          (λ answered. inl answered)
          (λ (way : IsOnItsWay told x.source c place). inr (way.0, way.1, get_append_left told (q ∷ []) way.0 way.1 way.2, way.3, way.4, way.5))
          (t.served c place x old))
          (λ (new : (c ≡ b) × (place ≡ length (list_at s.entries b)) × (e ≡ x)).
          inr (length told, q, get_push told q, from ∙ sym new.0, to ∙ ap (λ (z : Entry). z.source) new.2, last ∙ sym new.1))
          (push_at_cases s.entries b e c place x h);
    }

-- a response that is taken is an answer
pub telling_takes : (tiles : ℕ) (s : Observed) (told : List Response) → Telling s told → (place : ℕ) (r : Response) (index : ℕ) (op : Op)
    → slice_get told place ≡ Some r → r.destination < length s.answers
    → Telling (happens tiles s (Answered r.destination (answer_in r index op))) (remove told place)
telling_takes tiles s told t place r index op there within = record {
  turns = λ j k x y below hj hk same_bank same_processor.
      t.turns (stood place j) (stood place k) x y (stood_rises place j k below) (sym (removed_is told place j) ∙ hj) (sym (removed_is told place k) ∙ hk)
      same_bank same_processor;
  served = λ b at e h. ⊎_elim
      (λ (old : IsTold s e.source b at). inl
      (old.0, old.1, push_at_keeps s.answers r.destination (answer_in r index op) e.source old.0 old.1 old.2, old.3, old.4))
      (λ (way : IsOnItsWay told e.source b at). ⊎_elim
      (λ (here : way.0 ≡ place).
      let same : way.1 ≡ r = same_Some _ _ (sym way.2 ∙ (ap (slice_get told) here ∙ there)) in
      let bank : r.source ≡ b = ap (λ (z : Response). z.source) (sym same) ∙ way.3 in
      let to : r.destination ≡ e.source = ap (λ (z : Response). z.destination) (sym same) ∙ way.4 in
      let at_place : r.place ≡ at = ap (λ (z : Response). z.place) (sym same) ∙ way.5 in
      let answered : IsTold (happens tiles s (Answered r.destination (answer_in r index op))) r.destination b at =
      (length (list_at s.answers r.destination), answer_in r index op, push_at_new s.answers r.destination (answer_in r index op) within, bank, at_place) in
      inl (subst (λ (p : ℕ). IsTold (happens tiles s (Answered r.destination (answer_in r index op))) p b at) to answered))
      (λ (elsewhere : way.0 ≢ place). let left = still_there told place way.0 way.1 way.2 elsewhere in inr (left.0, way.1, left.1, way.3, way.4, way.5))
      (cases_eq way.0 place))
      (t.served b at e h);
}

-- nothing is served at first
pub telling_none : (s : Observed) → ((b place : ℕ) (e : Entry) → slice_get (list_at s.entries b) place ≡ Some e → ⊥) → Telling s []
telling_none s none = record { turns = λ j k r q below h. cc; served = λ b place e h. absurd (none b place e h) }
