-- What was sent, and where it is, stays with each event.
use Rattle.std.proofs.Common.{◌≡◌, ◌≢◌, ℕ, ◌+◌, ◌<◌, List, [], ◌∷◌, ◌++◌, take, drop, None, true, All, refl, sym, ◌∙◌, ap, subst, arith, append_assoc}
use Rattle.std.specs.List.{sum_by}
use Rattle.std.proofs.lemmas.List.Elements.{All-nil, All-push, All-head, All-tail}
use Rattle.std.proofs.lemmas.List.Sums.{sum_by_push, sum_by-cons, sum_by-append}
use Rattle.wormhole.specs.Net.{Parcel, IsOn}
use Rattle.wormhole.specs.State.{NetLine, Note, NetState, empty}
use Rattle.wormhole.specs.Events.{NetEvent, InjectHead, InjectRest, Latch, ForwardHead, ForwardRest, AcceptHead, AcceptRest, Return}
use Rattle.wormhole.specs.Events.{put, forwarded, accepted, first_tail, popped, after, CanInjectHead, CanAccept}
use Rattle.wormhole.specs.Words.{Words}
use Rattle.wormhole.specs.Routes.{IsSentHere}
use Rattle.wormhole.specs.Delivery.{WasSentTo}
use Rattle.wormhole.proofs.Lists.{all_on, all_from}
use Rattle.wormhole.proofs.Changes.{IsChangedAt, AreChangedAt, kept, kept_both, changed, changed_both}
use Rattle.wormhole.proofs.Receivers.{moved, ejected}
use Rattle.wormhole.proofs.Sums.{sum_same, sum_one, sum_two}
use Rattle.network_adaptive.specs.Choices.{AdaptiveNet, IsAdaptiveNet, Comes}
use Rattle.network_adaptive.specs.Flow.{CanOccur}
use Rattle.network_adaptive.specs.Tracks.{HasTracks}
use Rattle.network_adaptive.specs.Arrivals.{AreSent}
use Rattle.network_adaptive.proofs.Kept.{owner_apart, given}

-- what is on a list still is when the list grows
on_push : (k p : Parcel) (ks : List Parcel) → IsOn k ks → IsOn k (ks ++ p ∷ [])
on_push k p ks on = (on.0, on.1 ++ p ∷ [], ap (λ (ls : List Parcel). ls ++ p ∷ []) on.2 ∙ append_assoc on.0 (k ∷ on.1) (p ∷ []))

-- packets and what was sent are noted alike
pub record IsNotedAs (h k : Note) : Type 0 where
  pub parcels : h.parcels ≡ k.parcels
  pub sent : h.sent ≡ k.sent
  pub begun : h.begun ≡ k.begun

pub sent_same : (n : AdaptiveNet) (s t : NetState) → ((x : ℕ) → IsNotedAs (t.notes x) (s.notes x)) → AreSent n s → AreSent n t
sent_same n s t same r = record {
  sent = λ x. subst (λ (ks : List Parcel). All (IsSentHere n.frame x) ks) (sym (same x).sent) (r.sent x);
  under_way = λ x. subst (λ (ks : List Parcel). All (λ k. IsOn k (t.notes k.source).sent) ks) (sym (same x).parcels)
      (all_from (λ k. IsOn k (t.notes k.source).sent) (s.notes x).parcels (λ k on.
      subst (λ (ks : List Parcel). IsOn k ks) (sym (same k.source).sent) (all_on (λ k. IsOn k (s.notes k.source).sent) (s.notes x).parcels k (r.under_way x) on)));
  begun = λ x. subst (λ (ks : List Parcel). All (WasSentTo n.frame t x) ks) (sym (same x).begun)
      (all_from (WasSentTo n.frame t x) (s.notes x).begun (λ k on.
      (let was = all_on (WasSentTo n.frame s x) (s.notes x).begun k (r.begun x) on in
      record { parcel = was.parcel; destination = was.destination; sent = subst (λ (ks : List Parcel). IsOn k ks) (sym (same k.source).sent) was.sent })));
  all = λ f.
      (let here = sum_same n.frame.channels (λ x. sum_by f ((s.notes x).begun ++ (s.notes x).parcels)) (λ x. sum_by f ((t.notes x).begun ++ (t.notes x).parcels))
      (λ x l. ap (λ (ks : List Parcel). sum_by f (ks ++ (t.notes x).parcels)) (same x).begun ∙ ap (λ (ks : List Parcel). sum_by f ((s.notes x).begun ++ ks)) (same x).parcels) in
      let there = sum_same n.frame.channels (λ x. sum_by f (s.notes x).sent) (λ x. sum_by f (t.notes x).sent) (λ x l. ap (sum_by f) (same x).sent) in
      here ∙ (r.all f ∙ sym there));
}

noted : (h : Note) → IsNotedAs h h
noted h = record { parcels = refl; sent = refl; begun = refl }

-- a sender begins a packet
sent_inject_head : (n : AdaptiveNet) (s : NetState) (x : ℕ) (k : Parcel) → AreSent n s → CanInjectHead n.frame (s.lines x) x k
    → AreSent n (after n.frame s (InjectHead x k))
sent_inject_head n s x k r c =
    let g : Note = s.notes x in
    let l : NetLine = record (put k.head (s.lines x)) { rest = k.tail } in
    let h : Note = record g { parcels = g.parcels ++ k ∷ []; owed = k.tail; sent = g.sent ++ k ∷ [] } in
    let t : NetState = after n.frame s (InjectHead x k) in
    let ch : IsChangedAt s t x l h = changed s x l h in
    let grows : (p : Parcel) (z : ℕ) → IsOn p (s.notes z).sent → IsOn p (t.notes z).sent = λ p.
    kept (λ z l h. IsOn p (s.notes z).sent → IsOn p h.sent) s t x l h ch (on_push p k g.sent) (λ z d on. on) in
    record {
      sent = kept (λ z l h. All (IsSentHere n.frame z) h.sent) s t x l h ch
          (All-push (IsSentHere n.frame x) g.sent k (r.sent x) (record { parcel = c.parcel; source = c.source })) (λ z d. r.sent z);
      under_way = kept (λ z l h. All (λ k. IsOn k (t.notes k.source).sent) h.parcels) s t x l h ch
          (All-push (λ k. IsOn k (t.notes k.source).sent) g.parcels k
          (all_from (λ k. IsOn k (t.notes k.source).sent) g.parcels (λ p on. grows p p.source (all_on (λ k. IsOn k (s.notes k.source).sent) g.parcels p (r.under_way x) on)))
          (subst (λ z. IsOn k (t.notes z).sent) (sym c.source) (subst (λ (v : Note). IsOn k v.sent) (sym ch.note) (g.sent, [], refl))))
          (λ z d. all_from (λ k. IsOn k (t.notes k.source).sent) (s.notes z).parcels (λ p on.
          grows p p.source (all_on (λ k. IsOn k (s.notes k.source).sent) (s.notes z).parcels p (r.under_way z) on)));
      begun = kept (λ z l h. All (WasSentTo n.frame t z) h.begun) s t x l h ch
          (all_from (WasSentTo n.frame t x) g.begun (λ p on. was x p (all_on (WasSentTo n.frame s x) g.begun p (r.begun x) on) (grows p p.source)))
          (λ z d. all_from (WasSentTo n.frame t z) (s.notes z).begun (λ p on. was z p (all_on (WasSentTo n.frame s z) (s.notes z).begun p (r.begun z) on) (grows p p.source)));
      all = λ f.
          (let a = sum_one n.frame.channels x (λ z. sum_by f ((s.notes z).begun ++ (s.notes z).parcels)) (λ z. sum_by f ((t.notes z).begun ++ (t.notes z).parcels)) c.here
          (λ z l d. ap (λ (v : Note). sum_by f (v.begun ++ v.parcels)) (ch.notes z d)) in
          let b = sum_one n.frame.channels x (λ z. sum_by f (s.notes z).sent) (λ z. sum_by f (t.notes z).sent) c.here
          (λ z l d. ap (λ (v : Note). sum_by f v.sent) (ch.notes z d)) in
          let p : sum_by f ((t.notes x).begun ++ (t.notes x).parcels) ≡ sum_by f ((g.begun ++ g.parcels) ++ k ∷ []) =
          ap (λ (v : Note). sum_by f (v.begun ++ v.parcels)) ch.note ∙ ap (sum_by f) (sym (append_assoc g.begun g.parcels (k ∷ []))) in
          let q : sum_by f (t.notes x).sent ≡ sum_by f (g.sent ++ k ∷ []) = ap (λ (v : Note). sum_by f v.sent) ch.note in
          let u = sum_by_push f (g.begun ++ g.parcels) k in
          let v = sum_by_push f g.sent k in
          let old = r.all f in
          omega arith);
    }
  where
    was : (z : ℕ) (p : Parcel) → WasSentTo n.frame s z p
        → (IsOn p (s.notes p.source).sent → IsOn p ((after n.frame s (InjectHead x k)).notes p.source).sent)
        → WasSentTo n.frame (after n.frame s (InjectHead x k)) z p
    was z p w grows = record { parcel = w.parcel; destination = w.destination; sent = grows w.sent }

-- what was sent, one channel's note apart
same_sent : (n : AdaptiveNet) (s t : NetState) → ((z : ℕ) → (t.notes z).sent ≡ (s.notes z).sent) → (z : ℕ) (ks : List Parcel)
    → All (λ k. IsOn k (s.notes k.source).sent) ks → All (λ k. IsOn k (t.notes k.source).sent) ks
same_sent n s t same z ks all = all_from (λ k. IsOn k (t.notes k.source).sent) ks (λ k on.
    subst (λ (ls : List Parcel). IsOn k ls) (sym (same k.source)) (all_on (λ k. IsOn k (s.notes k.source).sent) ks k all on))

same_begun : (n : AdaptiveNet) (s t : NetState) → ((z : ℕ) → (t.notes z).sent ≡ (s.notes z).sent) → (z : ℕ) (ks : List Parcel)
    → All (WasSentTo n.frame s z) ks → All (WasSentTo n.frame t z) ks
same_begun n s t same z ks all = all_from (WasSentTo n.frame t z) ks (λ k on.
    (let w = all_on (WasSentTo n.frame s z) ks k all on in
    record { parcel = w.parcel; destination = w.destination; sent = subst (λ (ls : List Parcel). IsOn k ls) (sym (same k.source)) w.sent }))

-- a receiver takes a head flit
sent_accept_head : (n : AdaptiveNet) (net : IsAdaptiveNet n) (s : NetState) (w : Words n.frame s) (tracks : HasTracks n s) (x flit : ℕ) (more : List ℕ) → AreSent n s
    → CanAccept n.frame (s.lines x) x flit more true → AreSent n (after n.frame s (AcceptHead x flit more))
sent_accept_head n net s w tracks x flit more r c =
    let g : Note = s.notes x in
    let p = moved n.frame g flit (more ++ g.owed) (w.parcels x) (w.awaited x) c.head (ejected n.frame s x flit more true w c) in
    let k : Parcel = p.first in
    let l : NetLine = accepted n.frame flit more (s.lines x) in
    let h : Note = record (popped g) { begun = g.begun ++ take 1 g.parcels } in
    let t : NetState = after n.frame s (AcceptHead x flit more) in
    let ch : IsChangedAt s t x l h = changed s x l h in
    let same : (z : ℕ) → (t.notes z).sent ≡ (s.notes z).sent = kept (λ z l h. h.sent ≡ (s.notes z).sent) s t x l h ch refl (λ z d. refl) in
    let under : All (λ k. IsOn k (t.notes k.source).sent) (k ∷ drop 1 g.parcels) =
    subst (λ (ks : List Parcel). All (λ k. IsOn k (t.notes k.source).sent) ks) p.was (same_sent n s t same x g.parcels (r.under_way x)) in
    let come : Comes n k.destination x = All-head (λ k. Comes n k.destination x) k (drop 1 g.parcels)
    (subst (λ (ks : List Parcel). All (λ k. Comes n k.destination x) ks) p.was (tracks.are.comes x)) in
    record {
      sent = λ z. subst (λ (ks : List Parcel). All (IsSentHere n.frame z) ks) (sym (same z)) (r.sent z);
      under_way = kept (λ z l h. All (λ k. IsOn k (t.notes k.source).sent) h.parcels) s t x l h ch
          (All-tail (λ k. IsOn k (t.notes k.source).sent) k (drop 1 g.parcels) under) (λ z d. same_sent n s t same z (s.notes z).parcels (r.under_way z));
      begun = kept (λ z l h. All (WasSentTo n.frame t z) h.begun) s t x l h ch
          (subst (λ (ks : List Parcel). All (WasSentTo n.frame t x) (g.begun ++ ks)) (sym p.one)
          (All-push (WasSentTo n.frame t x) g.begun k (same_begun n s t same x g.begun (r.begun x))
          (record {
            parcel = p.parcel;
            destination = sym (net.arrives k.destination x come c.ejects);
            sent = All-head (λ k. IsOn k (t.notes k.source).sent) k (drop 1 g.parcels) under;
          })))
          (λ z d. same_begun n s t same z (s.notes z).begun (r.begun z));
      all = λ f.
          (let a = sum_one n.frame.channels x (λ z. sum_by f ((s.notes z).begun ++ (s.notes z).parcels)) (λ z. sum_by f ((t.notes z).begun ++ (t.notes z).parcels)) c.here
          (λ z l d. ap (λ (v : Note). sum_by f (v.begun ++ v.parcels)) (ch.notes z d)) in
          let b = sum_same n.frame.channels (λ z. sum_by f (s.notes z).sent) (λ z. sum_by f (t.notes z).sent) (λ z l. ap (sum_by f) (same z)) in
          let u : (t.notes x).begun ++ (t.notes x).parcels ≡ g.begun ++ g.parcels =
          ap (λ (v : Note). v.begun ++ v.parcels) ch.note
          ∙ (ap (λ (ks : List Parcel). (g.begun ++ ks) ++ drop 1 g.parcels) p.one ∙ (append_assoc g.begun (k ∷ []) (drop 1 g.parcels)
          ∙ ap (λ (ks : List Parcel). g.begun ++ ks) (sym p.was))) in
          let v = ap (sum_by f) u in
          let old = r.all f in
          omega arith);
    }

-- a router gives a channel to a packet
sent_forward_head : (n : AdaptiveNet) (s : NetState) (x y flit : ℕ) (k : Parcel) → AreSent n s → x < n.frame.channels → y < n.frame.channels → x ≢ y
    → (s.notes x).parcels ≡ k ∷ drop 1 (s.notes x).parcels → take 1 (s.notes x).parcels ≡ k ∷ [] → AreSent n (after n.frame s (ForwardHead x y flit))
sent_forward_head n s x y flit k r here there apart was one =
    let g : Note = s.notes x in
    let l : NetLine = record (s.lines x) { latch = None } in
    let h : Note = popped g in
    let m : NetLine = forwarded n.frame x flit (s.lines y) in
    let i : Note = record (s.notes y) { parcels = (s.notes y).parcels ++ take 1 g.parcels; owed = first_tail g.parcels } in
    let t : NetState = after n.frame s (ForwardHead x y flit) in
    let ch : AreChangedAt s t x l h y m i = changed_both s x l h y m i apart in
    let same : (z : ℕ) → (t.notes z).sent ≡ (s.notes z).sent = kept_both (λ z l h. h.sent ≡ (s.notes z).sent) s t x l h y m i ch refl refl (λ z d e. refl) in
    let begun : (z : ℕ) → (t.notes z).begun ≡ (s.notes z).begun = kept_both (λ z l h. h.begun ≡ (s.notes z).begun) s t x l h y m i ch refl refl (λ z d e. refl) in
    let under : All (λ k. IsOn k (t.notes k.source).sent) (k ∷ drop 1 g.parcels) =
    subst (λ (ks : List Parcel). All (λ k. IsOn k (t.notes k.source).sent) ks) was (same_sent n s t same x g.parcels (r.under_way x)) in
    record {
      sent = λ z. subst (λ (ks : List Parcel). All (IsSentHere n.frame z) ks) (sym (same z)) (r.sent z);
      under_way = kept_both (λ z l h. All (λ k. IsOn k (t.notes k.source).sent) h.parcels) s t x l h y m i ch
          (All-tail (λ k. IsOn k (t.notes k.source).sent) k (drop 1 g.parcels) under)
          (subst (λ (ks : List Parcel). All (λ k. IsOn k (t.notes k.source).sent) ((s.notes y).parcels ++ ks)) (sym one)
          (All-push (λ k. IsOn k (t.notes k.source).sent) (s.notes y).parcels k (same_sent n s t same y (s.notes y).parcels (r.under_way y))
          (All-head (λ k. IsOn k (t.notes k.source).sent) k (drop 1 g.parcels) under)))
          (λ z d e. same_sent n s t same z (s.notes z).parcels (r.under_way z));
      begun = λ z. subst (λ (ks : List Parcel). All (WasSentTo n.frame t z) ks) (sym (begun z)) (same_begun n s t same z (s.notes z).begun (r.begun z));
      all = λ f.
          (let a = sum_two n.frame.channels x y (λ z. sum_by f ((s.notes z).begun ++ (s.notes z).parcels)) (λ z. sum_by f ((t.notes z).begun ++ (t.notes z).parcels)) here there apart
          (λ z l d e. ap (λ (v : Note). sum_by f (v.begun ++ v.parcels)) (ch.notes z d e)) in
          let b = sum_same n.frame.channels (λ z. sum_by f (s.notes z).sent) (λ z. sum_by f (t.notes z).sent) (λ z l. ap (sum_by f) (same z)) in
          let u : sum_by f ((t.notes x).begun ++ (t.notes x).parcels) ≡ sum_by f g.begun + sum_by f (drop 1 g.parcels) =
          ap (λ (v : Note). sum_by f (v.begun ++ v.parcels)) ch.note ∙ sum_by-append f g.begun (drop 1 g.parcels) in
          let v : sum_by f ((s.notes x).begun ++ (s.notes x).parcels) ≡ sum_by f g.begun + sum_by f g.parcels = sum_by-append f g.begun g.parcels in
          let o : sum_by f g.parcels ≡ f k + sum_by f (drop 1 g.parcels) = ap (sum_by f) was ∙ sum_by-cons f k (drop 1 g.parcels) in
          let p : sum_by f ((t.notes y).begun ++ (t.notes y).parcels) ≡ sum_by f (((s.notes y).begun ++ (s.notes y).parcels) ++ k ∷ []) =
          ap (λ (v : Note). sum_by f (v.begun ++ v.parcels)) ch.note_too
          ∙ (ap (λ (ks : List Parcel). sum_by f ((s.notes y).begun ++ ((s.notes y).parcels ++ ks))) one
          ∙ ap (sum_by f) (sym (append_assoc (s.notes y).begun (s.notes y).parcels (k ∷ [])))) in
          let q = sum_by_push f ((s.notes y).begun ++ (s.notes y).parcels) k in
          let old = r.all f in
          omega arith);
    }

pub sent_kept : (n : AdaptiveNet) (s : NetState) (e : NetEvent) → IsAdaptiveNet n → Words n.frame s → HasTracks n s → AreSent n s → CanOccur n s.lines e
    → AreSent n (after n.frame s e)
sent_kept n s (InjectHead x k) net w tracks r c = sent_inject_head n s x k r c
sent_kept n s (InjectRest x flit more) net w tracks r c =
    let l : NetLine = record (put flit (s.lines x)) { rest = more } in
    let h : Note = record (s.notes x) { owed = more } in
    let t : NetState = after n.frame s (InjectRest x flit more) in
    sent_same n s t (kept (λ z l h. IsNotedAs h (s.notes z)) s t x l h (changed s x l h) (record { parcels = refl; sent = refl; begun = refl }) (λ z d. noted (s.notes z))) r
sent_kept n s (Latch x flit more) net w tracks r c = sent_same n s (after n.frame s (Latch x flit more)) (λ z. noted (s.notes z)) r
sent_kept n s (ForwardHead x y flit) net w tracks r c =
    let g = given n net s w tracks.course tracks.stamp tracks.now tracks.are x y flit c in
    sent_forward_head n s x y flit g.moves.first r c.here g.there g.apart g.moves.was g.moves.one
sent_kept n s (ForwardRest x y flit) net w tracks r c =
    let l : NetLine = record (s.lines x) { latch = None } in
    let k : Note = record (s.notes x) { awaited = drop 1 (s.notes x).awaited } in
    let m : NetLine = forwarded n.frame x flit (s.lines y) in
    let h : Note = record (s.notes y) { owed = drop 1 (s.notes y).owed } in
    let t : NetState = after n.frame s (ForwardRest x y flit) in
    sent_same n s t (kept_both (λ z l h. IsNotedAs h (s.notes z)) s t x l k y m h
    (changed_both s x l k y m h (owner_apart n net s w tracks.course tracks.stamp tracks.now tracks.are x y c.owned))
    (record { parcels = refl; sent = refl; begun = refl }) (record { parcels = refl; sent = refl; begun = refl }) (λ z d e. noted (s.notes z))) r
sent_kept n s (AcceptHead x flit more) net w tracks r c = sent_accept_head n net s w tracks x flit more r c
sent_kept n s (AcceptRest x flit more) net w tracks r c =
    let l : NetLine = accepted n.frame flit more (s.lines x) in
    let h : Note = record (s.notes x) { awaited = drop 1 (s.notes x).awaited } in
    let t : NetState = after n.frame s (AcceptRest x flit more) in
    sent_same n s t (kept (λ z l h. IsNotedAs h (s.notes z)) s t x l h (changed s x l h) (record { parcels = refl; sent = refl; begun = refl }) (λ z d. noted (s.notes z))) r
sent_kept n s (Return x) net w tracks r c = sent_same n s (after n.frame s (Return x)) (λ z. noted (s.notes z)) r

pub sent_empty : (n : AdaptiveNet) → AreSent n (empty n.frame)
sent_empty n = record {
  sent = λ x. All-nil (IsSentHere n.frame x);
  under_way = λ x. All-nil (λ (k : Parcel). IsOn k []);
  begun = λ x. All-nil (WasSentTo n.frame (empty n.frame) x);
  all = λ f. refl;
}
