-- What is in flight, and who holds which tag: kept by a service and by an answer.
use Rattle.std.proofs.Common.{◌≡◌, ◌≢◌, inl, inr, ⊎_elim, ℕ, ◌%◌, ◌<◌, ◌≤◌, List, [], ◌∷◌, ◌++◌, length, take, Option}
use Rattle.std.proofs.Common.{Some, None, refl, sym, ◌∙◌, ap, subst, arith, slice_get, length-set}
use Rattle.std.specs.Prelude.{remove}
use Rattle.std.proofs.lemmas.Bool.{cases_eq, cases_lt}
use Rattle.std.proofs.lemmas.List.{take_at}
use Rattle.std.proofs.lemmas.Option.{slice_get_within, same_Some}
use Rattle.torus.specs.declared.step.OpId.{OpId}
use Rattle.packet.specs.declared.kinds.Operation.{Operation}
use Rattle.packet.specs.declared.kinds.Request.{Request}
use Rattle.packet.specs.declared.kinds.Response.{Response}
use Rattle.packet.specs.Memory.{reply_of_one}
use Rattle.one_order.specs.declared.answer.Answer.{Answer}
use Rattle.one_order.specs.Observed.{Observed, list_at}
use Rattle.one_order.specs.Order.{LinearizationPoint, home, count_at, IsInOrder}
use Rattle.one_order.specs.Events.{Served, Answered, happens, points_of}
use Rattle.one_order.proofs.Lists.{push_at_cases, get_push_cases, get_append_left, get_push}
use Rattle.one_order.proofs.Folds.{reply_new}
use Rattle.one_order.proofs.Account.{Account, tells_more}
use Rattle.one_order.proofs.Words.{put, put_other, put_cases}
use Rattle.one_order.proofs.AbstractPlaces.{stood, removed_is, stood_apart, stood_other, stood_rises, still_there}
use Rattle.one_order.proofs.Transport.{Tags, Holds, RequestIs, ResponseIs, answer_in, IsAsked, Sound, one_holder}

-- where a request is the oldest of its source to its bank, its operation is the earliest of its processor with that home
-- that isn't served yet
pub served_in_turn : (tiles : ℕ) (opening : List ℕ) (s : Observed) (tags : Tags) (requests : List Request) (responses : List Response)
    (order : List LinearizationPoint)
    → Sound tiles opening s tags requests responses order
    → (place : ℕ) (r : Request) → slice_get requests place ≡ Some r → (was : RequestIs tiles s tags order r)
    → ((k : ℕ) (q : Request) → k < place → slice_get requests k ≡ Some q → q.source ≡ r.source → q.destination ≡ r.destination → ⊥)
    → (j : ℕ) (earlier : Operation) → j < was.index → slice_get (list_at s.issued r.source) j ≡ Some earlier
    → home tiles earlier ≡ home tiles was.operation → IsInOrder order r.source j
served_in_turn tiles opening s tags requests responses order sound place r there was oldest j earlier below issued same_home = ⊎_elim
    (λ inside. inside)
    (λ (asked : IsAsked tags requests r.source j).
    let k : ℕ = asked.0 in
    let q : Request = asked.1 in
    let is = sound.requests k q asked.2 in
    let mine : Holds tags q.source q.tag.0 j = subst (λ (p : ℕ). Holds tags p q.tag.0 j) (sym asked.3) asked.4 in
    let same : is.index ≡ j = one_holder tags q.source q.tag.0 is.index j is.holds mine in
    let earlier_is : is.operation ≡ earlier =
    same_Some _ _ (sym is.issued ∙ (ap (λ p. slice_get (list_at s.issued p) is.index) asked.3
    ∙ (ap (λ n. slice_get (list_at s.issued r.source) n) same ∙ issued))) in
    let to : q.destination ≡ r.destination =
    sym is.bank ∙ (ap (λ (o : Operation). o.address % tiles) earlier_is ∙ (same_home ∙ was.bank)) in
    absurd (⊎_elim
    (λ (before : k < place). oldest k q before asked.2 asked.3 to)
    (λ (from : place ≤ k). ⊎_elim
    (λ (here : place ≡ k).
    let e : r ≡ q = same_Some _ _ (sym there ∙ (ap (slice_get requests) here ∙ asked.2)) in
    let again : Holds tags r.source r.tag.0 j =
    subst (λ (t : ℕ). Holds tags r.source t j) (ap (λ (x : Request). x.tag.0) (sym e)) asked.4 in
    let f : was.index ≡ j = one_holder tags r.source r.tag.0 was.index j was.holds again in
    omega arith)
    (λ (elsewhere : place ≢ k).
    let behind : place < k = omega arith in
    let turn = sound.turns place k was.index j r q behind there asked.2 (sym asked.3) (sym to) was.holds mine in
    omega arith)
    (cases_eq place k))
    (cases_lt k place)))
    (sound.waiting r.source j earlier issued)

-- A served request leaves the flight, and no other was of its operation.
pub serves_sound : (tiles tag_count : ℕ) (opening : List ℕ) (s : Observed) (tags : Tags) (requests : List Request) (responses : List Response)
    (order : List LinearizationPoint)
    → Account tiles tag_count opening s order → Sound tiles opening s tags requests responses order
    → (place t : ℕ) (r : Request) → slice_get requests place ≡ Some r → (was : RequestIs tiles s tags order r)
    → (q : Response) → q.destination ≡ r.source → q.tag.0 ≡ r.tag.0 → q.source ≡ was.operation.address % tiles
    → q.place ≡ length (list_at s.entries (was.operation.address % tiles)) → q.reply ≡ reply_of_one was.operation s.memory
    → Sound tiles opening (happens tiles s (Served r.source was.index r.tag was.operation)) tags (remove requests place) (responses ++ q ∷ [])
    (order ++ points_of (Served r.source was.index r.tag was.operation) t)
serves_sound tiles tag_count opening s tags requests responses order acc sound place t r there was q destination tag bank q_place reply =
    let p : ℕ = r.source in
    let i : ℕ = was.index in
    let o : Operation = was.operation in
    let b : ℕ = o.address % tiles in
    let new : LinearizationPoint = record { source = p; index = i; operation = o; step = t } in
    let front : take (length order) (order ++ new ∷ []) ≡ order = take_at order (new ∷ []) (length order) refl in
    let other_response : (j : ℕ) (x : Response) → slice_get responses j ≡ Some x → x.destination ≡ p → x.tag.0 ≡ r.tag.0 → ⊥ = λ j x h e f.
    let old = sound.responses j x h in
    let holds : Holds tags p r.tag.0 old.index =
    subst (λ (n : ℕ). Holds tags p n old.index) f (subst (λ (n : ℕ). Holds tags n x.tag.0 old.index) e old.holds) in
    let same = one_holder tags p r.tag.0 old.index i holds was.holds in
    was.waits (old.at.k, old.at.point, old.at.there, old.at.source ∙ e, old.at.index ∙ same) in
    -- an operation in the order stays in it
    let still : (p' j : ℕ) → IsInOrder order p' j → IsInOrder (order ++ new ∷ []) p' j = λ p' j inside.
    (inside.0, inside.1, get_append_left order (new ∷ []) inside.0 inside.1 inside.2, inside.3, inside.4) in
    record {
      tagged = sound.tagged;
      held = sound.held;
      apart = sound.apart;
      requests = λ k x h.
          let at = sym (removed_is requests place k) ∙ h in
          let old = sound.requests (stood place k) x at in
          record {
            index = old.index;
            operation = old.operation;
            holds = old.holds;
            issued = old.issued;
            bank = old.bank;
            word = old.word;
            op = old.op;
            waits = λ inside. ⊎_elim
                (λ (l : slice_get order inside.0 ≡ Some inside.1). old.waits (inside.0, inside.1, l, inside.3, inside.4))
                (λ (n : (inside.0 ≡ length order) × (new ≡ inside.1)).
                let source : p ≡ x.source = ap (λ (z : LinearizationPoint). z.source) n.1 ∙ inside.3 in
                let index : i ≡ old.index = ap (λ (z : LinearizationPoint). z.index) n.1 ∙ inside.4 in
                let mine : Holds tags x.source r.tag.0 old.index =
                subst (λ (n : ℕ). Holds tags x.source r.tag.0 n) index (subst (λ (n : ℕ). Holds tags n r.tag.0 i) source was.holds) in
                let same_tag = sound.apart x.source x.tag.0 r.tag.0 old.index old.holds mine in
                stood_other place k (sound.requests_apart (stood place k) place x r at there (sym source) same_tag))
                (get_push_cases order new inside.0 inside.1 inside.2);
          };
      requests_apart = λ j k x y hj hk same_source same_tag.
          stood_apart place j k (sound.requests_apart (stood place j) (stood place k) x y (sym (removed_is requests place j) ∙ hj)
          (sym (removed_is requests place k) ∙ hk) same_source same_tag);
      responses = λ j x h. ⊎_elim
          (λ (l : slice_get responses j ≡ Some x). let old = sound.responses j x l in
          record {
            index = old.index;
            op = old.op;
            holds = old.holds;
            at = tells_more tiles opening order (new ∷ []) x.destination (answer_in x old.index old.op) old.at;
          })
          (λ (n : (j ≡ length responses) × (q ≡ x)). subst (λ (z : Response). ResponseIs tiles opening tags (order ++ new ∷ []) z) n.1 (record {
            index = i;
            op = o.op;
            holds = rw (destination, tag) was.holds;
            at = record {
              k = length order;
              point = new;
              there = get_push order new;
              source = sym destination;
              index = refl;
              op = refl;
              bank = bank;
              place = q_place
                  ∙ (acc.counts b ∙ (ap (count_at tiles b) (sym front) ∙ ap (λ c. count_at tiles c (take (length order) (order ++ new ∷ []))) (sym bank)));
              reply = reply_new order new opening ∙ ap Some (ap (reply_of_one o) (sym acc.memory) ∙ sym reply);
            };
          }))
          (get_push_cases responses q j x h);
      responses_apart = λ j k x y hj hk same_destination same_tag. ⊎_elim
          (λ (lj : slice_get responses j ≡ Some x). ⊎_elim
          (λ (lk : slice_get responses k ≡ Some y). sound.responses_apart j k x y lj lk same_destination same_tag)
          (λ (nk : (k ≡ length responses) × (q ≡ y)). absurd (other_response j x lj
          (same_destination ∙ (ap (λ (z : Response). z.destination) (sym nk.1) ∙ destination)) (same_tag ∙ (ap (λ (z : Response). z.tag.0) (sym nk.1) ∙ tag))))
          (get_push_cases responses q k y hk))
          (λ (nj : (j ≡ length responses) × (q ≡ x)). ⊎_elim
          (λ (lk : slice_get responses k ≡ Some y). absurd (other_response k y lk
          (sym same_destination ∙ (ap (λ (z : Response). z.destination) (sym nj.1) ∙ destination))
          (sym same_tag ∙ (ap (λ (z : Response). z.tag.0) (sym nj.1) ∙ tag))))
          (λ (nk : (k ≡ length responses) × (q ≡ y)). nj.0 ∙ sym nk.0)
          (get_push_cases responses q k y hk))
          (get_push_cases responses q j x hj);
      turns = λ j k a c x y below hj hk same_source same_bank ha hc.
          sound.turns (stood place j) (stood place k) a c x y (stood_rises place j k below) (sym (removed_is requests place j) ∙ hj)
          (sym (removed_is requests place k) ∙ hk) same_source same_bank ha hc;
      waiting = λ p' j x h. ⊎_elim
          (λ inside. inl (still p' j inside))
          (λ (asked : IsAsked tags requests p' j). ⊎_elim
          (λ (here : asked.0 ≡ place).
          let e : asked.1 ≡ r = same_Some _ _ (sym asked.2 ∙ (ap (slice_get requests) here ∙ there)) in
          let from : p ≡ p' = ap (λ (z : Request). z.source) (sym e) ∙ asked.3 in
          let mine : Holds tags p r.tag.0 j =
          subst (λ (n : ℕ). Holds tags n r.tag.0 j) (sym from) (subst (λ (z : Request). Holds tags p' z.tag.0 j) e asked.4) in
          inl (length order, new, get_push order new, from, one_holder tags p r.tag.0 i j was.holds mine))
          (λ (elsewhere : asked.0 ≢ place).
          let left = still_there requests place asked.0 asked.1 asked.2 elsewhere in
          inr (left.0, asked.1, left.1, asked.3, asked.4))
          (cases_eq asked.0 place))
          (sound.waiting p' j x h);
    }

-- A taken response gives its tag back, and nothing else in flight had it.
pub takes_sound : (tiles : ℕ) (opening : List ℕ) (s : Observed) (tags : Tags) (requests : List Request) (responses : List Response)
    (order : List LinearizationPoint)
    → Sound tiles opening s tags requests responses order
    → (place : ℕ) (r : Response) → slice_get responses place ≡ Some r → (was : ResponseIs tiles opening tags order r)
    → r.destination < tiles
    → Sound tiles opening (happens tiles s (Answered r.destination (answer_in r was.index was.op))) (put tags r.destination r.tag.0 None) requests
    (remove responses place) order
takes_sound tiles opening s tags requests responses order sound place r there was p_in =
    let p : ℕ = r.destination in
    let i : ℕ = was.index in
    let a : Answer = answer_in r i was.op in
    let in_tags : p < length tags = subst (λ (n : ℕ). p < n) (sym sound.tagged) p_in in
    let in_row : r.tag.0 < length (list_at tags p) = slice_get_within (list_at tags p) r.tag.0 (Some (record { 0 = i })) was.holds in
    let kept : (q k j : ℕ) → (q ≡ p → k ≡ r.tag.0 → ⊥) → Holds tags q k j → Holds (put tags p r.tag.0 None) q k j =
    λ q k j other h. put_other tags p r.tag.0 None q k other ∙ h in
    -- who holds a tag now held it before, and it is another tag than the one that came back
    let holders : (q k j : ℕ) → Holds (put tags p r.tag.0 None) q k j → (q ≡ p → k ≡ r.tag.0 → ⊥) × Holds tags q k j = λ q k j h. ⊎_elim
    (λ (new : (q ≡ p) × (k ≡ r.tag.0) × (None ≡ Some (record { 0 = j }))). let e : ◌≡◌ {A = Option OpId} None (Some (record { 0 = j })) = new.2 in absurd (cc))
    (λ old. old)
    (put_cases tags p r.tag.0 None q k (Some (record { 0 = j })) in_tags in_row h) in
    -- a request in flight doesn't have the tag
    let other_tag : (j : ℕ) (x : Request) → slice_get requests j ≡ Some x → x.source ≡ p → x.tag.0 ≡ r.tag.0 → ⊥ = λ j x h e f.
    let old = sound.requests j x h in
    let holds : Holds tags p r.tag.0 old.index =
    subst (λ (n : ℕ). Holds tags p n old.index) f (subst (λ (n : ℕ). Holds tags n x.tag.0 old.index) e old.holds) in
    let same = one_holder tags p r.tag.0 old.index i holds was.holds in
    old.waits (was.at.k, was.at.point, was.at.there, was.at.source ∙ sym e, was.at.index ∙ sym same) in
    record {
      tagged = length-set tags p _ ∙ sound.tagged;
      held = λ q k j h.
          let old = holders q k j h in
          let was_held = sound.held q k j old.1 in (
            was_held.0,
            λ answered. ⊎_elim
                (λ (l : slice_get (list_at s.answers q) answered.0 ≡ Some answered.1). was_held.1 (answered.0, answered.1, l, answered.3))
                (λ (n : (q ≡ p) × (answered.0 ≡ length (list_at s.answers p)) × (a ≡ answered.1)).
                let same : i ≡ j = ap (λ (z : Answer). z.index) n.2 ∙ answered.3 in
                let mine : Holds tags q r.tag.0 j =
                subst (λ (m : ℕ). Holds tags q r.tag.0 m) same (subst (λ (m : ℕ). Holds tags m r.tag.0 i) (sym n.0) was.holds) in
                old.0 n.0 (sound.apart q k r.tag.0 j old.1 mine))
                (push_at_cases s.answers p a q answered.0 answered.1 answered.2),
          );
      apart = λ q j k m hj hk. sound.apart q j k m (holders q j m hj).1 (holders q k m hk).1;
      requests = λ j x h.
          let old = sound.requests j x h in
          record {
            index = old.index;
            operation = old.operation;
            holds = kept x.source x.tag.0 old.index (other_tag j x h) old.holds;
            issued = old.issued;
            bank = old.bank;
            word = old.word;
            op = old.op;
            waits = old.waits;
          };
      requests_apart = sound.requests_apart;
      responses = λ k x h.
          let at = sym (removed_is responses place k) ∙ h in
          let old = sound.responses (stood place k) x at in
          record {
            index = old.index;
            op = old.op;
            holds = kept x.destination x.tag.0 old.index (λ e f. stood_other place k (sound.responses_apart (stood place k) place x r at there e f)) old.holds;
            at = old.at;
          };
      responses_apart = λ j k x y hj hk same_destination same_tag.
          stood_apart place j k (sound.responses_apart (stood place j) (stood place k) x y (sym (removed_is responses place j) ∙ hj)
          (sym (removed_is responses place k) ∙ hk) same_destination same_tag);
      turns = λ j k b c x y below hj hk same_source same_bank hb hc.
          sound.turns j k b c x y below hj hk same_source same_bank (holders x.source x.tag.0 b hb).1 (holders y.source y.tag.0 c hc).1;
      waiting = λ q j x h. ⊎_elim
          (λ inside. inl inside)
          (λ (asked : IsAsked tags requests q j). inr (
            asked.0,
            asked.1,
            asked.2,
            asked.3,
            kept q asked.1.tag.0 j
                (λ e f. other_tag asked.0 asked.1 asked.2 (asked.3 ∙ e) f) asked.4,
          ))
          (sound.waiting q j x h);
    }
