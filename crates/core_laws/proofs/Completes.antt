-- A tail flit taken makes its packet whole.
use Rattle.std.proofs.Common.{◌≡◌, ◌≢◌, ⊎_elim, ℕ, Bool, true, false, List, [], ◌∷◌, ◌++◌, take, drop, refl, sym, ◌∙◌, ap, subst}
use Rattle.std.proofs.lemmas.Bool.{cases_eq}
use Rattle.wormhole.specs.Net.{Net, IsNet, IsOn, Parcel, IsParcel, EndsWithTail, net_flits, has_no_flit}
use Rattle.wormhole.specs.State.{Note, NetState, update}
use Rattle.wormhole.specs.Events.{NetEvent, AcceptHead, AcceptRest, CanAccept, after, popped}
use Rattle.wormhole.specs.Words.{Words}
use Rattle.wormhole.specs.Routes.{Routes, IsBegunHere}
use Rattle.wormhole.specs.Delivery.{accept, without_last, whole_of, whole}
use Rattle.wormhole.proofs.Changes.{update_same, update_other}
use Rattle.wormhole.proofs.Channels.{pop_rest}
use Rattle.wormhole.proofs.Receivers.{moved, ejected, nothing_so_far}
use Rattle.wormhole.proofs.Reached.{words_kept, routes_kept}
use Rattle.wormhole.proofs.Lists.{all_on}
use Rattle.wormhole.proofs.Arrivals.{was_sent, begun_was_sent}

-- the event of a flit taken by a receiver
abbrev pub accepts : ℕ → ℕ → List ℕ → Bool → NetEvent
accepts x flit more bit = accept bit x flit more

-- the packet that is whole with a flit
pub record Completes (n : Net) (s t : NetState) (x flit : ℕ) : Type 0 where
  pub packet : Parcel
  pub parcel : IsParcel n packet
  pub destination : packet.destination ≡ x
  pub sent : IsOn packet (s.notes packet.source).sent
  pub flits : net_flits packet ≡ (s.lines x).so_far ++ flit ∷ []
  pub whole_now : whole t x ≡ whole s x ++ packet ∷ []

is_empty_only : (xs : List ℕ) → has_no_flit xs ≡ true → xs ≡ []
is_empty_only [] h = refl
is_empty_only (x ∷ xs) h = cc

without_last_push : (ks : List Parcel) (k : Parcel) → without_last (ks ++ k ∷ []) ≡ ks
without_last_push [] k = refl
without_last_push (l ∷ []) k = refl
without_last_push (l ∷ m ∷ ks) k = ap (λ (xs : List Parcel). l ∷ xs) (without_last_push (m ∷ ks) k)

pub completes : (n : Net) (s : NetState) (x flit : ℕ) (more : List ℕ) (bit : Bool) → IsNet n → Words n s → Routes n s → CanAccept n (s.lines x) x flit more bit
    → n.is_tail flit ≡ true
    → Completes n s (after n s (accepts x flit more bit)) x flit
completes n s x flit more true net w r c last =
    let h : Note = s.notes x in
    let m = moved n h flit (more ++ h.owed) (w.parcels x) (w.awaited x) c.head (ejected n s x flit more true w c) in
    let k : Parcel = m.first in
    let here : IsOn k h.parcels = ([], drop 1 h.parcels, m.was) in
    let way : IsOn x (n.route k.source k.destination) = all_on (λ (k : Parcel). IsOn x (n.route k.source k.destination)) h.parcels k (r.on_route x) here in
    let none : k.tail ≡ [] = is_empty_only k.tail (sym m.parcel.alone ∙ (ap n.is_tail m.head ∙ last)) in
    let new : Note = record (popped h) { begun = h.begun ++ take 1 h.parcels } in
    let note : update s.notes x new x ≡ new = update_same s.notes x new in
    record {
      packet = k;
      parcel = m.parcel;
      destination = sym (net.ejects k.source k.destination x m.parcel.joined way c.ejects);
      sent = was_sent n s x k w r here;
      flits = ap (λ (f : ℕ). f ∷ k.tail) m.head
          ∙ (ap (λ (fs : List ℕ). flit ∷ fs) none
          ∙ ap (λ (fs : List ℕ). fs ++ flit ∷ []) (sym (nothing_so_far (s.lines x) h (w.assembling x c.ejects) m.none)));
      whole_now = ap (λ (z : Note). whole_of z.awaited z.begun) note
          ∙ (ap (λ (fs : List ℕ). whole_of fs (h.begun ++ take 1 h.parcels)) (m.tail ∙ none)
          ∙ (ap (λ (ks : List Parcel). h.begun ++ ks) m.one ∙ ap (λ (fs : List ℕ). whole_of fs h.begun ++ k ∷ []) (sym m.none)));
    }
completes n s x flit more false net w r c last =
    let h : Note = s.notes x in
    let p = pop_rest n h.awaited h.parcels flit (more ++ h.owed) (w.parcels x) c.head (ejected n s x flit more false w c) in
    let shaped : EndsWithTail n (flit ∷ p.0) = subst (EndsWithTail n) p.1 (w.awaited x) in
    let none : p.0 ≡ [] = is_empty_only p.0 (sym shaped.1 ∙ last) in
    let awaits : h.awaited ≡ flit ∷ [] = p.1 ∙ ap (λ (fs : List ℕ). flit ∷ fs) none in
    let new : Note = record h { awaited = drop 1 h.awaited } in
    let note : update s.notes x new x ≡ new = update_same s.notes x new in
    ⊎_elim
    (λ (no : (h.awaited ≡ []) × ((s.lines x).so_far ≡ [])). let z = no.0 in let f = p.1 in cc)
    (λ (q : (before : List Parcel) × (last : Parcel) × (h.begun ≡ before ++ last ∷ []) × ((s.lines x).so_far ++ h.awaited ≡ net_flits last)
    × ((s.lines x).so_far ≢ []) × (h.awaited ≢ [])).
    let here : IsOn q.1 h.begun = (q.0, [], q.2) in
    let begun = all_on (IsBegunHere n x) h.begun q.1 (r.begun x) here in
    record {
      packet = q.1;
      parcel = begun.parcel;
      destination = begun.destination;
      sent = begun_was_sent n s x q.1 r here;
      flits = sym q.3 ∙ ap (λ (fs : List ℕ). (s.lines x).so_far ++ fs) awaits;
      whole_now = ap (λ (z : Note). whole_of z.awaited z.begun) note
          ∙ (ap (λ (fs : List ℕ). whole_of (drop 1 fs) h.begun) awaits
          ∙ (q.2 ∙ ap (λ (ks : List Parcel). ks ++ q.1 ∷ [])
          (sym (without_last_push q.0 q.1) ∙ (ap without_last (sym q.2) ∙ ap (λ (fs : List ℕ). whole_of fs h.begun) (sym awaits)))));
    })
    (w.assembling x c.ejects)

-- what was sent stays as it was
pub sent_kept : (n : Net) (s : NetState) (x flit : ℕ) (more : List ℕ) (bit : Bool) (i : ℕ)
    → ((after n s (accepts x flit more bit)).notes i).sent ≡ (s.notes i).sent
sent_kept n s x flit more true i = note_kept s x (record (popped (s.notes x)) { begun = (s.notes x).begun ++ take 1 (s.notes x).parcels }) i refl
  where
    note_kept : (s : NetState) (x : ℕ) (new : Note) (i : ℕ) → new.sent ≡ (s.notes x).sent → (update s.notes x new i).sent ≡ (s.notes i).sent
    note_kept s x new i same = ⊎_elim
        (λ (e : i ≡ x). ap (λ (j : ℕ). (update s.notes x new j).sent) e
        ∙ (ap (λ (k : Note). k.sent) (update_same s.notes x new) ∙ (same ∙ ap (λ (j : ℕ). (s.notes j).sent) (sym e))))
        (λ (other : i ≢ x). ap (λ (k : Note). k.sent) (update_other s.notes x new i other))
        (cases_eq i x)
sent_kept n s x flit more false i = note_kept s x (record (s.notes x) { awaited = drop 1 (s.notes x).awaited }) i refl
  where
    note_kept : (s : NetState) (x : ℕ) (new : Note) (i : ℕ) → new.sent ≡ (s.notes x).sent → (update s.notes x new i).sent ≡ (s.notes i).sent
    note_kept s x new i same = ⊎_elim
        (λ (e : i ≡ x). ap (λ (j : ℕ). (update s.notes x new j).sent) e
        ∙ (ap (λ (k : Note). k.sent) (update_same s.notes x new) ∙ (same ∙ ap (λ (j : ℕ). (s.notes j).sent) (sym e))))
        (λ (other : i ≢ x). ap (λ (k : Note). k.sent) (update_other s.notes x new i other))
        (cases_eq i x)

pub accept_routes : (n : Net) (s : NetState) (x flit : ℕ) (more : List ℕ) (bit : Bool) → IsNet n → Words n s → Routes n s → CanAccept n (s.lines x) x flit more bit
    → Routes n (after n s (accepts x flit more bit))
accept_routes n s x flit more true net w r c = routes_kept n s (AcceptHead x flit more) net w r c
accept_routes n s x flit more false net w r c = routes_kept n s (AcceptRest x flit more) net w r c

pub accept_words : (n : Net) (s : NetState) (x flit : ℕ) (more : List ℕ) (bit : Bool) → IsNet n → Words n s → Routes n s → CanAccept n (s.lines x) x flit more bit
    → Words n (after n s (accepts x flit more bit))
accept_words n s x flit more true net w r c = words_kept n s (AcceptHead x flit more) net w r c
accept_words n s x flit more false net w r c = words_kept n s (AcceptRest x flit more) net w r c
