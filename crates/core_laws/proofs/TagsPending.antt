-- Who holds a tag has a packet on the way, and as many tags are out as operations await an answer: kept by each move.
use Rattle.std.proofs.Common.{◌≡◌, ◌≢◌, ◌⊎◌, ⊎_elim, ℕ, zero, suc, ◌+◌, ◌-◌, ◌<◌, true, false, cond, List, [], ◌∷◌, ◌++◌, length, map, replicate, Option}
use Rattle.std.proofs.Common.{Some, None, inl, inr, refl, sym, ◌∙◌, ap, subst, arith, slice_get, slice_set, slice_index_or, set, get_or, length-set}
use Rattle.std.specs.Prelude.{is_some, ◌==◌}
use Rattle.std.proofs.lemmas.Bool.{cases_eq}
use Rattle.std.proofs.lemmas.List.Sums.{sum_by-set, sum_by-cons}
use Rattle.std.proofs.lemmas.Option.{same_Some, slice_get_within, get_or_from_slice_get}
use Rattle.torus.specs.declared.step.OpId.{OpId}
use Rattle.packet.specs.declared.kinds.Operation.{Operation}
use Rattle.packet.specs.declared.kinds.Reply.{Reply}
use Rattle.packet.specs.declared.kinds.Request.{Request}
use Rattle.packet.specs.declared.kinds.Response.{Response}
use Rattle.script_lines.specs.declared.line.Line.{Line}
use Rattle.tag_table.specs.Tags.{out_count}
use Rattle.home_bank.specs.ServiceList.{response_of}
use Rattle.one_order.specs.Following.{Following, first_of, after_issue, after_answer, last_answered, other_answered}
use Rattle.one_order.specs.ProcessorRecord.{ProcessorRecord, no_processor, issued_by, answered_by, request_of, index_of}
use Rattle.one_order.specs.Observed.{list_at}
use Rattle.one_order.specs.Order.{LinearizationPoint}
use Rattle.one_order.proofs.Lists.{get_push, get_append_left, get_set_same, get_set_other}
use Rattle.one_order.specs.Flight.{Flight, Move, Sends, Serves, Takes, processor_at, asked_place, told_place, reply_given, moved, moved_by, IsFound}
use Rattle.one_order.specs.ProcessorRecord.{first_record}
use Rattle.one_order.specs.Courses.{first_flight}
use Rattle.one_order.proofs.AbstractPlaces.{still_there}
use Rattle.one_order.proofs.Parts.{tags_at, processor_set}
use Rattle.one_order.proofs.Whole.{Whole}
use Rattle.core_laws.specs.Pending.{AwaitsRequest, AwaitsReply, HavePackets}

-- a tag goes out, or comes back
out_more : (tags : List (Option OpId)) (tag : ℕ) (id : OpId) → slice_get tags tag ≡ Some None → out_count (set tags tag (Some id)) ≡ out_count tags + 1
out_more tags tag id free =
    let sums = sum_by-set (λ (x : Option OpId). cond (is_some x) 1 0) tags tag (Some id) None (slice_get_within tags tag None free) in
    let was : ◌≡◌ {A = ℕ} (cond (is_some (get_or tags tag None)) 1 0) 0 =
    ap (λ (x : Option OpId). cond (is_some x) 1 0) (get_or_from_slice_get tags tag None None free) in
    omega (arith, sums, was)

out_less : (tags : List (Option OpId)) (tag : ℕ) (id : OpId) → slice_get tags tag ≡ Some (Some id) → out_count (set tags tag None) + 1 ≡ out_count tags
out_less tags tag id held =
    let sums = sum_by-set (λ (x : Option OpId). cond (is_some x) 1 0) tags tag None None (slice_get_within tags tag (Some id) held) in
    let was : ◌≡◌ {A = ℕ} (cond (is_some (get_or tags tag None)) 1 0) 1 =
    ap (λ (x : Option OpId). cond (is_some x) 1 0) (get_or_from_slice_get tags tag (Some id) None held) in
    omega (arith, sums, was)

out_none : (n : ℕ) → out_count (replicate n None) ≡ 0
out_none zero = refl
out_none (suc n) = omega (arith, out_none n, sum_by-cons (λ (x : Option OpId). cond (is_some x) 1 0) None (replicate n None))

issue_waits : (f : Following) → (after_issue f).waiting ≡ f.waiting + 1
unfolding after_issue
issue_waits f = refl

answer_waits : (f : Following) (i : ℕ) (r : Reply) → (after_answer f i r).waiting ≡ f.waiting - 1
unfolding after_answer
answer_waits f i r = elim ((i + 1) == f.issued) as (λ b. (cond {A = Following} b (last_answered f r) (other_answered f)).waiting ≡ f.waiting - 1)
    [ true ↦ refl | false ↦ refl ]

-- as many tags are out as operations await an answer
abbrev AreOut : ProcessorRecord → Type 0
AreOut b = b.following.waiting ≡ out_count b.tags

issue_out : (b : ProcessorRecord) (tag : ℕ) (o : Operation) → AreOut b → slice_get b.tags tag ≡ Some None → AreOut (issued_by b tag o)
issue_out b tag o are free = let a = issue_waits b.following in let k = out_more b.tags tag (record { 0 = b.following.issued }) free in omega (arith, a, k, are)

answer_out : (b : ProcessorRecord) (r : Response) (id : OpId) → AreOut b → slice_get b.tags r.tag.0 ≡ Some (Some id) → AreOut (answered_by b r)
answer_out b r id are held = let a = answer_waits b.following (index_of b r.tag.0) r.reply in let k = out_less b.tags r.tag.0 id held in
    omega (arith, a, k, are)

-- a holder after one entry of a table has changed
set_tag : (tags : List (Option OpId)) (tag k : ℕ) (v : Option OpId) (id : OpId) → slice_get (set tags tag v) k ≡ Some (Some id)
    → ((k ≡ tag) × (v ≡ Some id)) ⊎ ((k ≢ tag) × (slice_get tags k ≡ Some (Some id)))
set_tag tags tag k v id h = elim (cases_eq k tag) [
  | inl same ↦
      let within : k < length (set tags tag v) = slice_get_within (set tags tag v) k (Some id) h in
      let low : tag < length tags = omega (arith, length-set tags tag v) in
      let e : ◌≡◌ {A = Option (Option OpId)} (Some v) (Some (Some id)) = sym (get_set_same tags tag v low) ∙ ap (slice_get (set tags tag v)) (sym same) ∙ h in
      inl (same, same_Some _ _ e)
  | inr other ↦ inr (other, sym (get_set_other tags tag k v other) ∙ h)
]

-- the record of a processor after one record has changed
abbrev RecordAfter : List ProcessorRecord → ℕ → ℕ → ProcessorRecord → Type 0
RecordAfter xs t p b =
    ((p ≡ t) × (slice_index_or (slice_set xs t b) p no_processor ≡ b))
    ⊎ ((t < length xs → p ≢ t) × (slice_index_or (slice_set xs t b) p no_processor ≡ slice_index_or xs p no_processor))

record_after : (xs : List ProcessorRecord) (t p : ℕ) (b : ProcessorRecord) → RecordAfter xs t p b
record_after [] t p b = inr ((λ low. absurd (omega arith)), refl)
record_after (x ∷ xs) zero zero b = inl (refl, refl)
record_after (x ∷ xs) zero (suc p) b = inr ((λ low e. omega arith), refl)
record_after (x ∷ xs) (suc t) zero b = inr ((λ low e. omega arith), refl)
record_after (x ∷ xs) (suc t) (suc p) b = ⊎_elim
    (λ (i : (p ≡ t) × (slice_index_or (slice_set xs t b) p no_processor ≡ b)). inl (ap suc i.0, i.1))
    (λ (o : (t < length xs → p ≢ t) × (slice_index_or (slice_set xs t b) p no_processor ≡ slice_index_or xs p no_processor)). inr
    ((λ low e. o.0 (omega arith) (omega arith)), o.1))
    (record_after xs t p b)

abbrev IsFlying : Flight → ℕ → ℕ → Type 0
IsFlying f p k = AwaitsRequest f p k ⊎ AwaitsReply f p k

module _ (tiles : ℕ) (f : Flight) (have : HavePackets f) where
  -- requests that are asked more are on the way too
  more_asked : (bs : List ProcessorRecord) (r : Request) (p k : ℕ) → IsFlying f p k
      → IsFlying (record { processors = bs; entries = f.entries; memory = f.memory; asked = f.asked ++ r ∷ []; told = f.told }) p k
  more_asked bs r p k = λ at. ⊎_elim
      (λ (a : AwaitsRequest f p k). inl (a.0, a.1, get_append_left f.asked (r ∷ []) a.0 a.1 a.2, a.3, a.4))
      (λ (a : AwaitsReply f p k). inr a)
      at

  sends_pending : (t tag : ℕ) (o : Operation) (p k : ℕ) (id : OpId) → slice_get (processor_at (moved tiles f (Sends t tag o)) p).tags k ≡ Some (Some id)
      → IsFlying (moved tiles f (Sends t tag o)) p k
  sends_pending t tag o p k id h = ⊎_elim
      (λ (i : (p ≡ t) × (slice_index_or (slice_set f.processors t (issued_by (processor_at f t) tag o)) p no_processor ≡ issued_by (processor_at f t) tag o)).
      ⊎_elim
      (λ (new : (k ≡ tag) × (Some (record { 0 = (processor_at f t).following.issued }) ≡ Some id)). inl
      (length f.asked, request_of tiles t tag o, get_push f.asked (request_of tiles t tag o), sym i.0, sym new.0))
      (λ (old : (k ≢ tag) × (slice_get (processor_at f t).tags k ≡ Some (Some id))). more_asked (moved tiles f (Sends t tag o)).processors
      (request_of tiles t tag o) p k (subst (λ q. IsFlying f q k) (sym i.0) (have.pending t k id old.1)))
      (set_tag (processor_at f t).tags tag k (Some (record { 0 = (processor_at f t).following.issued })) id
      (sym (ap (λ (b : ProcessorRecord). slice_get b.tags k) i.1) ∙ h)))
      (λ (o' : (t < length f.processors → p ≢ t) × (slice_index_or (slice_set f.processors t (issued_by (processor_at f t) tag o)) p no_processor ≡ slice_index_or f.processors p no_processor)).
      more_asked (moved tiles f (Sends t tag o)).processors (request_of tiles t tag o) p k
      (have.pending p k id (sym (ap (λ (b : ProcessorRecord). slice_get b.tags k) o'.1) ∙ h)))
      (record_after f.processors t p (issued_by (processor_at f t) tag o))

  serves_pending : (r : Request) → slice_get f.asked (asked_place f.asked r) ≡ Some r → (p k : ℕ) (id : OpId)
      → slice_get (processor_at f p).tags k ≡ Some (Some id) → IsFlying (moved tiles f (Serves r)) p k
  serves_pending r there p k id h =
      let made : Response = response_of r.destination (length (list_at f.entries r.destination)) r (reply_given tiles f r) in
      ⊎_elim
      (λ (a : AwaitsRequest f p k). ⊎_elim
      (λ (here : a.0 ≡ asked_place f.asked r).
      let same : a.1 ≡ r = same_Some _ _ (sym a.2 ∙ ap (slice_get f.asked) here ∙ there) in
      inr (length f.told, made, get_push f.told made, ap (λ (q : Request). q.source) (sym same) ∙ a.3, ap (λ (q : Request). q.tag.0) (sym same) ∙ a.4))
      (λ (other : a.0 ≢ asked_place f.asked r).
      let at = still_there f.asked (asked_place f.asked r) a.0 a.1 a.2 other in
      inl (at.0, a.1, at.1, a.3, a.4))
      (cases_eq a.0 (asked_place f.asked r)))
      (λ (a : AwaitsReply f p k). inr (a.0, a.1, get_append_left f.told (made ∷ []) a.0 a.1 a.2, a.3, a.4))
      (have.pending p k id h)

  -- a response that another processor or tag awaits is still on the way
  still_told : (r : Response) (p k : ℕ) → slice_get f.told (told_place f.told r) ≡ Some r → (p ≡ r.destination → k ≡ r.tag.0 → ⊥) → IsFlying f p k
      → IsFlying (moved tiles f (Takes r)) p k
  still_told r p k there other at = ⊎_elim
      (λ (a : AwaitsRequest f p k). inl a)
      (λ (a : AwaitsReply f p k). ⊎_elim
      (λ (here : a.0 ≡ told_place f.told r).
      let same : a.1 ≡ r = same_Some _ _ (sym a.2 ∙ ap (slice_get f.told) here ∙ there) in
      absurd (other (sym a.3 ∙ ap (λ (q : Response). q.destination) same) (sym a.4 ∙ ap (λ (q : Response). q.tag.0) same)))
      (λ (elsewhere : a.0 ≢ told_place f.told r).
      let at = still_there f.told (told_place f.told r) a.0 a.1 a.2 elsewhere in
      inr (at.0, a.1, at.1, a.3, a.4))
      (cases_eq a.0 (told_place f.told r)))
      at

  takes_pending : (r : Response) → slice_get f.told (told_place f.told r) ≡ Some r → r.destination < length f.processors
      → (p k : ℕ) (id : OpId) → slice_get (processor_at (moved tiles f (Takes r)) p).tags k ≡ Some (Some id) → IsFlying (moved tiles f (Takes r)) p k
  takes_pending r there within p k id h = ⊎_elim
      (λ (i : (p ≡ r.destination) × (slice_index_or (slice_set f.processors r.destination (answered_by (processor_at f r.destination) r)) p no_processor ≡ answered_by (processor_at f r.destination) r)).
      ⊎_elim
      (λ (new : (k ≡ r.tag.0) × (◌≡◌ {A = Option OpId} None (Some id))). let never = new.1 in absurd (cc))
      (λ (old : (k ≢ r.tag.0) × (slice_get (processor_at f r.destination).tags k ≡ Some (Some id))). still_told r p k there (λ e g. old.0 g)
      (subst (λ q. IsFlying f q k) (sym i.0) (have.pending r.destination k id old.1)))
      (set_tag (processor_at f r.destination).tags r.tag.0 k None id (sym (ap (λ (b : ProcessorRecord). slice_get b.tags k) i.1) ∙ h)))
      (λ (o' : (r.destination < length f.processors → p ≢ r.destination) × (slice_index_or (slice_set f.processors r.destination (answered_by (processor_at f r.destination) r)) p no_processor ≡ slice_index_or f.processors p no_processor)).
      still_told r p k there (λ e g. o'.0 within e) (have.pending p k id (sym (ap (λ (b : ProcessorRecord). slice_get b.tags k) o'.1) ∙ h)))
      (record_after f.processors r.destination p (answered_by (processor_at f r.destination) r))

-- each move keeps it
have_moved : (tiles tags : ℕ) (opening : List ℕ) (f : Flight) (order : List LinearizationPoint) (m : Move) → length f.processors ≡ tiles
    → Whole tiles tags opening f order
    → IsFound (length opening) f m → HavePackets f → HavePackets (moved tiles f m)
have_moved tiles tags opening f order (Sends t tag o) count w found have = record {
  pending = sends_pending tiles f have t tag o;
  waiting = λ p. processor_set f.processors t (issued_by (processor_at f t) tag o) p AreOut (issue_out (processor_at f t) tag o (have.waiting t) found.2)
      (have.waiting p);
}
have_moved tiles tags opening f order (Serves r) count w found have = record { pending = serves_pending tiles f have r found; waiting = have.waiting }
have_moved tiles tags opening f order (Takes r) count w found have =
    let q = w.sound.responses (told_place f.told r) r found in
    let holds : slice_get (processor_at f r.destination).tags r.tag.0 ≡ Some (Some (record { 0 = q.index })) =
    sym (ap (λ xs. slice_get xs r.tag.0) (tags_at f r.destination)) ∙ q.holds in
    let within : r.destination < length f.processors = held_within f.processors r.destination r.tag.0 (record { 0 = q.index }) holds in
    record {
      pending = takes_pending tiles f have r found within;
      waiting = λ p. processor_set f.processors r.destination (answered_by (processor_at f r.destination) r) p AreOut
          (answer_out (processor_at f r.destination) r (record { 0 = q.index }) (have.waiting r.destination) holds) (have.waiting p);
    }
  where
    held_within : (xs : List ProcessorRecord) (p k : ℕ) (id : OpId) → slice_get (slice_index_or xs p no_processor).tags k ≡ Some (Some id) → p < length xs
    held_within [] p k id h = absurd (cc)
    held_within (x ∷ xs) zero k id h = omega arith
    held_within (x ∷ xs) (suc p) k id h = omega (arith, held_within xs p k id h)

pub have_any : (tiles tags : ℕ) (opening : List ℕ) (f : Flight) (order : List LinearizationPoint) (m : Option Move) → length f.processors ≡ tiles
    → Whole tiles tags opening f order
    → ((x : Move) → m ≡ Some x → IsFound (length opening) f x) → HavePackets f → HavePackets (moved_by tiles f m)
have_any tiles tags opening f order None count w found have = have
have_any tiles tags opening f order (Some m) count w found have = have_moved tiles tags opening f order m count w (found m refl) have

-- at first no tag is out
none_out : (n k : ℕ) (id : OpId) → slice_get (replicate n None) k ≡ Some (Some id) → ⊥
none_out zero k id h = cc
none_out (suc n) zero id h = let e : ◌≡◌ {A = Option OpId} None (Some id) = same_Some _ _ h in cc
none_out (suc n) (suc k) id h = none_out n k id h

first_waits : (lines : List Line) → (first_of lines).waiting ≡ 0
unfolding first_of
first_waits lines = refl

first_held : (tags : ℕ) (scripts : List (List Line)) (p k : ℕ) (id : OpId)
    → slice_get (slice_index_or (map (first_record tags) scripts) p no_processor).tags k ≡ Some (Some id) → ⊥
first_held tags [] p k id h = cc
first_held tags (lines ∷ scripts) zero k id h = none_out tags k id h
first_held tags (lines ∷ scripts) (suc p) k id h = first_held tags scripts p k id h

first_out : (tags : ℕ) (scripts : List (List Line)) (p : ℕ) → AreOut (slice_index_or (map (first_record tags) scripts) p no_processor)
first_out tags [] p = first_waits []
first_out tags (lines ∷ scripts) zero = first_waits lines ∙ sym (out_none tags)
first_out tags (lines ∷ scripts) (suc p) = first_out tags scripts p

pub have_first : (tiles tags : ℕ) (opening : List ℕ) (scripts : List (List Line)) → HavePackets (first_flight tiles tags opening scripts)
have_first tiles tags opening scripts = record { pending = λ p k id h. absurd (first_held tags scripts p k id h); waiting = first_out tags scripts }
