-- What is in flight, and who holds which tag: kept by an issue.
use Rattle.std.proofs.Common.{◌≡◌, ◌⊎◌, inl, inr, ⊎_elim, ℕ, ◌/◌, ◌%◌, ◌<◌, List, [], ◌∷◌, ◌++◌, length, Option, Some}
use Rattle.std.proofs.Common.{None, refl, sym, ◌∙◌, ap, subst, arith, slice_get, ◌==◌, eq-eqb, length-set}
use Rattle.std.proofs.lemmas.Bool.{cond-true}
use Rattle.std.proofs.lemmas.Option.{slice_get_within, same_Some}
use Rattle.torus.specs.declared.step.OpId.{OpId}
use Rattle.packet.specs.declared.kinds.Op.{Op}
use Rattle.packet.specs.declared.kinds.Operation.{Operation}
use Rattle.packet.specs.declared.kinds.Request.{Request}
use Rattle.packet.specs.declared.kinds.Response.{Response}
use Rattle.one_order.specs.declared.answer.Answer.{Answer}
use Rattle.one_order.specs.Observed.{Observed, list_at, HasAnswered}
use Rattle.one_order.specs.Order.{LinearizationPoint, IsInOrder}
use Rattle.one_order.specs.Events.{Issued, push_at, happens, TellsService}
use Rattle.one_order.proofs.Lists.{push_at_cases, push_at_keeps, push_at_new, length_list_at_push}
use Rattle.one_order.proofs.Lists.{length_list_at_push_grows, get_push_cases, get_append_left, get_push}
use Rattle.one_order.proofs.Account.{Account}
use Rattle.one_order.proofs.Words.{put, put_new, put_other, put_cases}

abbrev pub Tags : Type 0
Tags = List (List (Option OpId))

-- operation i of p holds a tag
abbrev pub Holds : Tags → ℕ → ℕ → ℕ → Type 0
Holds tags p tag i = slice_get (list_at tags p) tag ≡ Some (Some (record { 0 = i }))

-- a request in flight is of an operation that holds its tag and isn't served yet
pub record RequestIs (tiles : ℕ) (s : Observed) (tags : Tags) (order : List LinearizationPoint) (r : Request) : Type 0 where
  pub index : ℕ
  pub operation : Operation
  pub holds : Holds tags r.source r.tag.0 index
  pub issued : slice_get (list_at s.issued r.source) index ≡ Some operation
  pub bank : operation.address % tiles ≡ r.destination
  pub word : operation.address / tiles ≡ r.word
  pub op : operation.op ≡ r.op
  pub waits : IsInOrder order r.source index → ⊥

abbrev pub answer_in : Response → ℕ → Op → Answer
answer_in r i op = record { index = i; op = op; reply = r.reply; bank = r.source; place = r.place }

-- a response in flight is of an operation that holds its tag, and tells what its service told
pub record ResponseIs (tiles : ℕ) (opening : List ℕ) (tags : Tags) (order : List LinearizationPoint) (r : Response) : Type 0 where
  pub index : ℕ
  pub op : Op
  pub holds : Holds tags r.destination r.tag.0 index
  pub at : TellsService tiles opening order r.destination (answer_in r index op)

-- an operation that holds a tag has a request in flight
abbrev pub IsAsked : Tags → List Request → ℕ → ℕ → Type 0
IsAsked tags asked p i = (j : ℕ) × (r : Request) × (slice_get asked j ≡ Some r) × (r.source ≡ p) × Holds tags p r.tag.0 i

-- Tags and packets agree: who holds a tag waits for an answer, and no operation holds two; no two packets of a kind
-- have one tag; requests of one source to one bank stand in the order of issue; what is issued is served or asked for.
pub record Sound (tiles : ℕ) (opening : List ℕ) (s : Observed) (tags : Tags) (asked : List Request) (told : List Response)
    (order : List LinearizationPoint) : Type 0 where
  pub tagged : length tags ≡ tiles
  pub held : (p k i : ℕ) → Holds tags p k i → (i < length (list_at s.issued p)) × (HasAnswered s p i → ⊥)
  pub apart : (p j k i : ℕ) → Holds tags p j i → Holds tags p k i → j ≡ k
  pub requests : (j : ℕ) (r : Request) → slice_get asked j ≡ Some r → RequestIs tiles s tags order r
  pub requests_apart : (j k : ℕ) (r q : Request) → slice_get asked j ≡ Some r → slice_get asked k ≡ Some q → r.source ≡ q.source
      → r.tag.0 ≡ q.tag.0 → j ≡ k
  pub responses : (j : ℕ) (r : Response) → slice_get told j ≡ Some r → ResponseIs tiles opening tags order r
  pub responses_apart : (j k : ℕ) (r q : Response) → slice_get told j ≡ Some r → slice_get told k ≡ Some q → r.destination ≡ q.destination
      → r.tag.0 ≡ q.tag.0 → j ≡ k
  pub turns : (j k a b : ℕ) (r q : Request) → j < k → slice_get asked j ≡ Some r → slice_get asked k ≡ Some q → r.source ≡ q.source
      → r.destination ≡ q.destination
      → Holds tags r.source r.tag.0 a → Holds tags q.source q.tag.0 b → a < b
  pub waiting : (p i : ℕ) (o : Operation) → slice_get (list_at s.issued p) i ≡ Some o → IsInOrder order p i ⊎ IsAsked tags asked p i

-- a free tag isn't held
pub free_not_held : (tags : Tags) (p k i : ℕ) → slice_get (list_at tags p) k ≡ Some None → Holds tags p k i → ⊥
free_not_held tags p k i free h =
    let e : ◌≡◌ {A = Option OpId} None (Some (record { 0 = i })) = same_Some _ _ (sym free ∙ h) in cc

pub same_id : (i j : ℕ) (x : Option OpId) → x ≡ Some (record { 0 = i }) → x ≡ Some (record { 0 = j }) → i ≡ j
same_id i j x e f =
    let g : ◌≡◌ {A = OpId} (record { 0 = i }) (record { 0 = j }) = same_Some _ _ (sym e ∙ f) in ap (λ (d : OpId). d.0) g

-- a tag is held by one
pub one_holder : (tags : Tags) (p k i j : ℕ) → Holds tags p k i → Holds tags p k j → i ≡ j
one_holder tags p k i j h g =
    let e : ◌≡◌ {A = Option OpId} (Some (record { 0 = i })) (Some (record { 0 = j })) = same_Some _ _ (sym h ∙ g) in
    same_id i j (Some (record { 0 = i })) refl e

-- A new operation's tag was free, so nothing in flight had it.
pub sends_sound : (tiles tag_count : ℕ) (opening : List ℕ) (s : Observed) (tags : Tags) (requests : List Request) (responses : List Response)
    (order : List LinearizationPoint)
    → Account tiles tag_count opening s order → Sound tiles opening s tags requests responses order
    → (t tag : ℕ) (o : Operation) (r : Request) → t < tiles → slice_get (list_at tags t) tag ≡ Some None
    → r.source ≡ t → r.tag.0 ≡ tag → o.address % tiles ≡ r.destination → o.address / tiles ≡ r.word → o.op ≡ r.op
    → Sound tiles opening (happens tiles s (Issued t o)) (put tags t tag (Some (record { 0 = length (list_at s.issued t) })))
    (requests ++ r ∷ []) responses order
sends_sound tiles tag_count opening s tags requests responses order acc sound t tag o r t_in free source tag_is bank word op =
    let i : ℕ = length (list_at s.issued t) in
    let id : OpId = record { 0 = i } in
    let in_issued : t < length s.issued = subst (λ (n : ℕ). t < n) (sym acc.shown.processors) t_in in
    let in_tags : t < length tags = subst (λ (n : ℕ). t < n) (sym sound.tagged) t_in in
    let in_row : tag < length (list_at tags t) = slice_get_within (list_at tags t) tag None free in
    let new_holds : Holds (put tags t tag (Some id)) t tag i = put_new tags t tag (Some id) in_tags in_row in
    -- who held a tag still does
    let kept : (p k j : ℕ) → Holds tags p k j → Holds (put tags t tag (Some id)) p k j = λ p k j h.
    put_other tags t tag (Some id) p k (λ e f. free_not_held tags t tag j free
    (subst (λ (n : ℕ). Holds tags t n j) f (subst (λ (n : ℕ). Holds tags n k j) e h)))
    ∙ h in
    -- who holds a tag is the new operation, or did
    let holders : (p k j : ℕ) → Holds (put tags t tag (Some id)) p k j → ((p ≡ t) × (k ≡ tag) × (i ≡ j)) ⊎ Holds tags p k j =
    λ p k j h. ⊎_elim
    (λ (new : (p ≡ t) × (k ≡ tag) × (Some id ≡ Some (record { 0 = j }))). inl (new.0, new.1, same_id i j (Some id) refl new.2))
    (λ (old : (p ≡ t → k ≡ tag → ⊥) × Holds tags p k j). inr old.1)
    (put_cases tags t tag (Some id) p k (Some (record { 0 = j })) in_tags in_row h) in
    let other_request : (j : ℕ) (q : Request) → slice_get requests j ≡ Some q → q.source ≡ t → q.tag.0 ≡ tag → ⊥ = λ j q h e f.
    let old = sound.requests j q h in
    free_not_held tags t tag old.index free (subst (λ (n : ℕ). Holds tags t n old.index) f (subst (λ (n : ℕ). Holds tags n q.tag.0 old.index) e old.holds)) in
    let too_old : (p k j : ℕ) → p ≡ t → i ≡ j → Holds tags p k j → ⊥ = λ p k j e f h.
    let was = sound.held p k j h in
    let len : length (list_at s.issued p) ≡ i = ap (λ n. length (list_at s.issued n)) e in
    omega (arith, was.0, len, f) in
    record {
      tagged = length-set tags t _ ∙ sound.tagged;
      held = λ p k j h. ⊎_elim
          (λ (new : (p ≡ t) × (k ≡ tag) × (i ≡ j)).
          let longer = length_list_at_push s.issued t o t in_issued in
          let one = cond-true {A = ℕ} (t == t) 1 0 (eq-eqb t t refl) in
          let within : i < length (list_at (push_at s.issued t o) t) = omega (arith, longer, one) in (
            subst (λ (n : ℕ). n < length (list_at (push_at s.issued t o) p)) new.2
                (subst (λ (n : ℕ). i < length (list_at (push_at s.issued t o) n)) (sym new.0) within),
            λ answered.
                let at = acc.answers p answered.0 answered.1 answered.2 in
                let was =
                slice_get_within (list_at s.issued at.point.source) at.point.index at.point.operation (acc.issued at.k at.point at.there) in
                let e : length (list_at s.issued at.point.source) ≡ i = ap (λ n. length (list_at s.issued n)) (at.source ∙ new.0) in
                let f : at.point.index ≡ i = at.index ∙ (answered.3 ∙ sym new.2) in
                omega (arith, was, e, f),
          ))
          (λ old. let was = sound.held p k j old in let grows = length_list_at_push_grows s.issued t o p in (omega (arith, was.0, grows), was.1))
          (holders p k j h);
      apart = λ p j k m hj hk. ⊎_elim
          (λ (new : (p ≡ t) × (j ≡ tag) × (i ≡ m)). ⊎_elim
          (λ (also : (p ≡ t) × (k ≡ tag) × (i ≡ m)). new.1 ∙ sym also.1)
          (λ old. absurd (too_old p k m new.0 new.2 old))
          (holders p k m hk))
          (λ was_j. ⊎_elim
          (λ (new : (p ≡ t) × (k ≡ tag) × (i ≡ m)). absurd (too_old p j m new.0 new.2 was_j))
          (λ was_k. sound.apart p j k m was_j was_k)
          (holders p k m hk))
          (holders p j m hj);
      requests = λ j q h. ⊎_elim
          (λ (l : slice_get requests j ≡ Some q). let old = sound.requests j q l in record {
            index = old.index;
            operation = old.operation;
            holds = kept q.source q.tag.0 old.index old.holds;
            issued = push_at_keeps s.issued t o q.source old.index old.operation old.issued;
            bank = old.bank;
            word = old.word;
            op = old.op;
            waits = old.waits;
          })
          (λ (n : (j ≡ length requests) × (r ≡ q)). subst (λ (x : Request). RequestIs tiles (happens tiles s (Issued t o))
          (put tags t tag (Some id)) order x) n.1 (record {
            index = i;
            operation = o;
            holds = rw (source, tag_is) new_holds;
            issued = rw source (push_at_new s.issued t o in_issued);
            bank = bank;
            word = word;
            op = op;
            waits = λ inside.
                let was =
                slice_get_within (list_at s.issued inside.1.source) inside.1.index inside.1.operation (acc.issued inside.0 inside.1 inside.2) in
                let e : length (list_at s.issued inside.1.source) ≡ i = ap (λ n. length (list_at s.issued n)) (inside.3 ∙ source) in
                omega (arith, was, e, inside.4);
          }))
          (get_push_cases requests r j q h);
      requests_apart = λ j k x y hj hk same_source same_tag. ⊎_elim
          (λ (lj : slice_get requests j ≡ Some x). ⊎_elim
          (λ (lk : slice_get requests k ≡ Some y). sound.requests_apart j k x y lj lk same_source same_tag)
          (λ (nk : (k ≡ length requests) × (r ≡ y)). absurd (other_request j x lj (same_source ∙ (ap (λ (z : Request). z.source) (sym nk.1) ∙ source))
          (same_tag ∙ (ap (λ (z : Request). z.tag.0) (sym nk.1) ∙ tag_is))))
          (get_push_cases requests r k y hk))
          (λ (nj : (j ≡ length requests) × (r ≡ x)). ⊎_elim
          (λ (lk : slice_get requests k ≡ Some y). absurd (other_request k y lk
          (sym same_source ∙ (ap (λ (z : Request). z.source) (sym nj.1) ∙ source)) (sym same_tag ∙ (ap (λ (z : Request). z.tag.0) (sym nj.1) ∙ tag_is))))
          (λ (nk : (k ≡ length requests) × (r ≡ y)). nj.0 ∙ sym nk.0)
          (get_push_cases requests r k y hk))
          (get_push_cases requests r j x hj);
      responses = λ j q h. let old = sound.responses j q h in
          record { index = old.index; op = old.op; holds = kept q.destination q.tag.0 old.index old.holds; at = old.at };
      responses_apart = sound.responses_apart;
      turns = λ j k a b x y below hj hk same_source same_bank ha hb. ⊎_elim
          (λ (lj : slice_get requests j ≡ Some x).
          let old_x = sound.requests j x lj in
          let hx : Holds tags x.source x.tag.0 a = ⊎_elim
          (λ (new : (x.source ≡ t) × (x.tag.0 ≡ tag) × (i ≡ a)). absurd (other_request j x lj new.0 new.1))
          (λ old. old)
          (holders x.source x.tag.0 a ha) in
          ⊎_elim
          (λ (lk : slice_get requests k ≡ Some y).
          let hy : Holds tags y.source y.tag.0 b = ⊎_elim
          (λ (new : (y.source ≡ t) × (y.tag.0 ≡ tag) × (i ≡ b)). absurd (other_request k y lk new.0 new.1))
          (λ old. old)
          (holders y.source y.tag.0 b hb) in
          sound.turns j k a b x y below lj lk same_source same_bank hx hy)
          (λ (nk : (k ≡ length requests) × (r ≡ y)).
          let at_t : x.source ≡ t = same_source ∙ (ap (λ (z : Request). z.source) (sym nk.1) ∙ source) in
          let newest : b ≡ i = one_holder (put tags t tag (Some id)) y.source y.tag.0 b i hb
          (subst (λ (z : Request). Holds (put tags t tag (Some id)) z.source z.tag.0 i) nk.1 (rw (source, tag_is) new_holds)) in
          let was = sound.held x.source x.tag.0 a hx in
          let len : length (list_at s.issued x.source) ≡ i = ap (λ n. length (list_at s.issued n)) at_t in
          omega (arith, was.0, len, newest))
          (get_push_cases requests r k y hk))
          (λ (nj : (j ≡ length requests) × (r ≡ x)). ⊎_elim
          (λ (lk : slice_get requests k ≡ Some y). let w = slice_get_within requests k y lk in absurd (omega (arith, w, nj.0)))
          (λ (nk : (k ≡ length requests) × (r ≡ y)). absurd (omega (arith, nj.0, nk.0)))
          (get_push_cases requests r k y hk))
          (get_push_cases requests r j x hj);
      waiting = λ p j x h. ⊎_elim
          (λ (old : slice_get (list_at s.issued p) j ≡ Some x). ⊎_elim
          (λ inside. inl inside)
          (λ (asked : IsAsked tags requests p j). inr (
            asked.0,
            asked.1,
            get_append_left requests
                (r ∷ []) asked.0 asked.1 asked.2,
            asked.3,
            kept p asked.1.tag.0 j asked.4,
          ))
          (sound.waiting p j x old))
          (λ (new : (p ≡ t) × (j ≡ length (list_at s.issued t)) × (o ≡ x)).
          inr (
            length requests,
            r,
            get_push requests r,
            source ∙ sym new.0,
            subst (λ (n : ℕ). Holds (put tags t tag (Some id)) p r.tag.0 n) (sym new.1)
                (subst (λ (n : ℕ). Holds (put tags t tag (Some id)) n r.tag.0 i) (sym new.0) (rw tag_is new_holds)),
          ))
          (push_at_cases s.issued t o p j x h);
    }

-- nothing is in flight at first
pub sound_none : (tiles : ℕ) (opening : List ℕ) (s : Observed) (tags : Tags) → length tags ≡ tiles → ((p k i : ℕ) → Holds tags p k i → ⊥)
    → ((p i : ℕ) (o : Operation) → slice_get (list_at s.issued p) i ≡ Some o → ⊥) → Sound tiles opening s tags [] [] []
sound_none tiles opening s tags tagged none unissued = record {
  tagged = tagged;
  held = λ p k i h. absurd (none p k i h);
  apart = λ p j k i h. absurd (none p j i h);
  requests = λ j r h. cc;
  requests_apart = λ j k r q h. cc;
  responses = λ j r h. cc;
  responses_apart = λ j k r q h. cc;
  turns = λ j k a b r q below h. cc;
  waiting = λ p i o h. absurd (unissued p i o h);
}
