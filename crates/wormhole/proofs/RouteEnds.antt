-- What holds of the packets in the channels stays when a sender or a receiver moves a head flit.
use Rattle.std.proofs.Common.{◌≡◌, ⊎_elim, ℕ, true, List, [], ◌∷◌, ◌++◌, take, drop, All, refl, sym, ◌∙◌, ap, subst, append_assoc}
use Rattle.std.proofs.lemmas.List.Elements.{All-push, All-head, All-tail}
use Rattle.wormhole.specs.Net.{Net, IsNet, IsOn, Parcel}
use Rattle.wormhole.specs.State.{NetLine, Note, NetState}
use Rattle.wormhole.specs.Events.{InjectHead, AcceptHead, CanInjectHead, CanAccept, put, accepted, popped, after}
use Rattle.wormhole.specs.Words.{Words}
use Rattle.wormhole.specs.Routes.{between, on_the_way, IsSentHere, IsBegunHere, Routes}
use Rattle.wormhole.proofs.Changes.{IsChangedAt, kept, changed}
use Rattle.wormhole.proofs.Receivers.{moved, ejected}
use Rattle.wormhole.proofs.Flows.{IsBetween, between_cases, push_other, pop_other, push_this, way_put, way_taken}
use Rattle.wormhole.proofs.Ways.{begins_at, ends_at}
use Rattle.wormhole.proofs.Quiet.{SeesSame, flow_same, rising_one}

pub routes_inject_head : (n : Net) (s : NetState) (x : ℕ) (k : Parcel) → IsNet n → Routes n s → CanInjectHead n (s.lines x) x k
    → Routes n (after n s (InjectHead x k))
routes_inject_head n s x k net r c =
    let t : NetState = after n s (InjectHead x k) in
    let h : Note = s.notes x in
    let l : NetLine = record (put k.head (s.lines x)) { rest = k.tail } in
    let new : Note = record h { parcels = h.parcels ++ k ∷ []; owed = k.tail; sent = h.sent ++ k ∷ [] } in
    let ch : IsChangedAt s t x l new = changed s x l new in
    let on : IsOn x (n.route k.source k.destination) =
    let b = begins_at n k.source k.destination net c.parcel.joined in
    ([], b.after, b.route ∙ ap (λ (z : ℕ). z ∷ b.after) c.source) in
    record {
      on_route = kept (λ z l k. All (λ (k : Parcel). IsOn z (n.route k.source k.destination)) k.parcels) s t x l new ch
          (All-push (λ (k : Parcel). IsOn x (n.route k.source k.destination)) h.parcels k (r.on_route x) on)
          (λ z d. r.on_route z);
      rising = rising_one n s t x l new r ch refl;
      sent = kept (λ z l k. All (IsSentHere n z) k.sent) s t x l new ch
          (All-push (IsSentHere n x) h.sent k (r.sent x) (record { parcel = c.parcel; source = c.source })) (λ z d. r.sent z);
      begun = kept (λ z l k. All (IsBegunHere n z) k.begun) s t x l new ch (r.begun x) (λ z d. r.begun z);
      flow = λ i j joined. ⊎_elim
          (λ (is : IsBetween i j k).
          let here : i ≡ x = sym is.source ∙ c.source in
          let b = begins_at n i j net joined in
          let begun : (t.notes j).begun ≡ (s.notes j).begun =
          kept (λ z l k. k.begun ≡ (s.notes z).begun) s t x l new ch refl (λ z d. refl) j in
          let parcels : (t.notes i).parcels ≡ (s.notes i).parcels ++ k ∷ [] =
          subst (λ (z : ℕ). (t.notes z).parcels ≡ (s.notes z).parcels ++ k ∷ []) (sym here) (ap (λ (h : Note). h.parcels) ch.note) in
          let sent : (t.notes i).sent ≡ (s.notes i).sent ++ k ∷ [] =
          subst (λ (z : ℕ). (t.notes z).sent ≡ (s.notes z).sent ++ k ∷ []) (sym here) (ap (λ (h : Note). h.sent) ch.note) in
          let p : ℕ → List Parcel = λ z. (s.notes z).parcels in
          let q : ℕ → List Parcel = λ z. (t.notes z).parcels in
          let way : on_the_way i j q (n.route i j) ≡ on_the_way i j p (n.route i j) ++ k ∷ [] =
          ap (on_the_way i j q) b.route
          ∙ (way_put i j p q i b.after k is parcels (λ z at. ap (λ (h : Note). h.parcels) (ch.notes z (λ e. b.late z at (e ∙ sym here))))
          ∙ ap (λ (xs : List ℕ). on_the_way i j p xs ++ k ∷ []) (sym b.route)) in
          ap (λ (ks : List Parcel). between i j ks ++ on_the_way i j q (n.route i j)) begun
          ∙ (ap (λ (ks : List Parcel). between i j (s.notes j).begun ++ ks) way
          ∙ (sym (append_assoc (between i j (s.notes j).begun) (on_the_way i j p (n.route i j)) (k ∷ []))
          ∙ (ap (λ (ks : List Parcel). ks ++ k ∷ []) (r.flow i j joined)
          ∙ sym (ap (between i j) sent ∙ push_this i j (s.notes i).sent k is.kept)))))
          (λ (e : between i j (k ∷ []) ≡ []).
          flow_same n s t i j
          (λ z. kept (λ z l k. SeesSame i j k (s.notes z)) s t x l new ch
          (record { parcels = push_other i j h.parcels k e; sent = push_other i j h.sent k e; begun = refl })
          (λ z d. record { parcels = refl; sent = refl; begun = refl }) z)
          (r.flow i j joined))
          (between_cases i j k);
    }

pub routes_accept_head : (n : Net) (s : NetState) (x flit : ℕ) (more : List ℕ) → IsNet n → Words n s → Routes n s
    → CanAccept n (s.lines x) x flit more true → Routes n (after n s (AcceptHead x flit more))
routes_accept_head n s x flit more net w r c =
    let t : NetState = after n s (AcceptHead x flit more) in
    let h : Note = s.notes x in
    let m = moved n h flit (more ++ h.owed) (w.parcels x) (w.awaited x) c.head (ejected n s x flit more true w c) in
    let k : Parcel = m.first in
    let l : NetLine = accepted n flit more (s.lines x) in
    let new : Note = record (popped h) { begun = h.begun ++ take 1 h.parcels } in
    let ch : IsChangedAt s t x l new = changed s x l new in
    let ons : All (λ (k : Parcel). IsOn x (n.route k.source k.destination)) (k ∷ drop 1 h.parcels) =
    subst (λ (ks : List Parcel). All (λ (k : Parcel). IsOn x (n.route k.source k.destination)) ks) m.was (r.on_route x) in
    let on : IsOn x (n.route k.source k.destination) =
    All-head (λ (k : Parcel). IsOn x (n.route k.source k.destination)) k (drop 1 h.parcels) ons in
    let there : x ≡ k.destination = net.ejects k.source k.destination x m.parcel.joined on c.ejects in
    let begins : h.begun ++ take 1 h.parcels ≡ h.begun ++ k ∷ [] = ap (λ (ks : List Parcel). h.begun ++ ks) m.one in
    record {
      on_route = kept (λ z l k. All (λ (k : Parcel). IsOn z (n.route k.source k.destination)) k.parcels) s t x l new ch
          (All-tail (λ (k : Parcel). IsOn x (n.route k.source k.destination)) k (drop 1 h.parcels) ons)
          (λ z d. r.on_route z);
      rising = rising_one n s t x l new r ch refl;
      sent = kept (λ z l k. All (IsSentHere n z) k.sent) s t x l new ch (r.sent x) (λ z d. r.sent z);
      begun = kept (λ z l k. All (IsBegunHere n z) k.begun) s t x l new ch
          (subst (λ (ks : List Parcel). All (IsBegunHere n x) ks) (sym begins)
          (All-push (IsBegunHere n x) h.begun k (r.begun x) (record { parcel = m.parcel; destination = sym there })))
          (λ z d. r.begun z);
      flow = λ i j joined. ⊎_elim
          (λ (is : IsBetween i j k).
          let here : j ≡ x = sym is.destination ∙ sym there in
          let b = ends_at n i j net joined in
          let sent : (t.notes i).sent ≡ (s.notes i).sent = kept (λ z l k. k.sent ≡ (s.notes z).sent) s t x l new ch refl (λ z d. refl) i in
          let parcels : (s.notes j).parcels ≡ k ∷ (t.notes j).parcels =
          subst (λ (z : ℕ). (s.notes z).parcels ≡ k ∷ (t.notes z).parcels) (sym here) (m.was ∙ ap (λ (h : Note). k ∷ h.parcels) (sym ch.note)) in
          let begun : (t.notes j).begun ≡ (s.notes j).begun ++ k ∷ [] =
          subst (λ (z : ℕ). (t.notes z).begun ≡ (s.notes z).begun ++ k ∷ []) (sym here) (ap (λ (h : Note). h.begun) ch.note ∙ begins) in
          let p : ℕ → List Parcel = λ z. (s.notes z).parcels in
          let q : ℕ → List Parcel = λ z. (t.notes z).parcels in
          let way : k ∷ on_the_way i j q (n.route i j) ≡ on_the_way i j p (n.route i j) =
          ap (λ (xs : List ℕ). k ∷ on_the_way i j q xs) b.route
          ∙ (way_taken i j p q b.before j k is parcels (λ z at. ap (λ (h : Note). h.parcels) (ch.notes z (λ e. b.early z at (e ∙ sym here))))
          ∙ ap (on_the_way i j p) (sym b.route)) in
          ap (λ (ks : List Parcel). ks ++ on_the_way i j q (n.route i j)) (ap (between i j) begun ∙ push_this i j (s.notes j).begun k is.kept)
          ∙ (append_assoc (between i j (s.notes j).begun) (k ∷ []) (on_the_way i j q (n.route i j))
          ∙ (ap (λ (ks : List Parcel). between i j (s.notes j).begun ++ ks) way
          ∙ (r.flow i j joined ∙ ap (between i j) (sym sent)))))
          (λ (e : between i j (k ∷ []) ≡ []).
          flow_same n s t i j
          (λ z. kept (λ z l k. SeesSame i j k (s.notes z)) s t x l new ch (record {
            parcels = pop_other i j k (drop 1 h.parcels) e ∙ ap (between i j) (sym m.was);
            sent = refl;
            begun = ap (between i j) begins ∙ push_other i j h.begun k e;
          })
          (λ z d. record { parcels = refl; sent = refl; begun = refl }) z)
          (r.flow i j joined))
          (between_cases i j k);
    }
