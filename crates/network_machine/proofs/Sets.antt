-- Channels of which one has moved.
use Rattle.std.proofs.Common.{◌≡◌, ◌≢◌, ⊎_elim, ℕ, ◌<◌, Bool, true, false, cond, List, [], ◌∷◌, length, set, Some, None, refl, sym, ◌∙◌, ap, subst, arith}
use Rattle.std.proofs.lemmas.Bool.{cases_eq}
use Rattle.std.proofs.lemmas.List.{length-set, get_or-set_same, get_or-set_other}
use Rattle.std.specs.Prelude.{slice_index_or}
use Rattle.wormhole.specs.Net.{Net, IsParcel, net_flits}
use Rattle.wormhole.specs.State.{NetLine, update}
use Rattle.wormhole.specs.Events.{put, taken, unlatched, accepted, CanHappen}
use Rattle.wormhole.specs.Events.{InjectHead, InjectRest, Latch, AcceptHead, AcceptRest, Return}
use Rattle.wormhole.proofs.Changes.{update_same, update_other}
use Rattle.network_machine.specs.declared.channel.Channel.{Channel}
use Rattle.network_machine.specs.declared.moves.Packet.{Packet}
use Rattle.network_machine.specs.declared.moves.Move.TheVariants.{Send, More, Take, Accept, Credit}
use Rattle.network_machine.specs.Packets.{packet_of}
use Rattle.network_machine.specs.Lines.{ShowsLine, TakesFlit, Credits, PutsFrom, Accepts, Begins, SendsMore}
use Rattle.network_machine.specs.Moves.{ShowAll, MakesEvent}
use Rattle.network_machine.specs.Forwards.{PutsAt}
use Rattle.network_machine.proofs.Packets.{packet_length}
use Rattle.network_machine.proofs.Which.{only_send, only_more, only_take, only_accept, only_credit}

module _ (ls : ℕ → NetLine) (cs : List Channel) (x : ℕ) (low : x < length cs) (all : ShowAll ls cs) (c : Channel) where
  -- one line has changed, as one channel has
  shows_set : (l : NetLine) → ShowsLine l c → ShowAll (update ls x l) (set cs x c)
  shows_set l is z d within = ⊎_elim
      (λ (e : z ≡ x). subst (λ (m : NetLine). ShowsLine m (slice_index_or (set cs x c) z d)) (sym (ap (update ls x l) e ∙ update_same ls x l))
      (subst (λ (k : Channel). ShowsLine l k) (sym (ap (λ k. slice_index_or (set cs x c) k d) e ∙ get_or-set_same cs x c d low)) is))
      (λ (apart : z ≢ x). subst (λ (m : NetLine). ShowsLine m (slice_index_or (set cs x c) z d)) (sym (update_other ls x l z apart))
      (subst (λ (k : Channel). ShowsLine (ls z) k) (sym (get_or-set_other cs x z c d apart)) (all z d (subst (λ k. z < k) (length-set cs x c) within))))
      (cases_eq z x)

  pub begins_at : (n : Net) (p : Packet) → x ≡ p.from → p.from < n.channels → n.injects p.from ≡ true
      → (0 < p.length → IsParcel n (packet_of p.from p.to p.length))
      → (b : Bool) → Begins (ls x) c p.to p.length b → MakesEvent n ls (Send p) (set cs x c) b
  begins_at n p at within injects parcel true h = (
    InjectHead x (packet_of x p.to p.length),
    ap Send (ap (λ z. record { from = z; to = p.to; length = length (net_flits (packet_of x p.to p.length)) }) at
        ∙ ap (λ z. record { from = p.from; to = p.to; length = z }) (packet_length x p.to p.length h.2)),
    record {
      here = subst (λ z. z < n.channels) (sym at) within;
      injects = ap n.injects at ∙ injects;
      idle = h.0;
      credit = h.1;
      parcel = subst (λ z. IsParcel n (packet_of z p.to p.length)) (sym at) (parcel h.2);
      source = refl;
    },
    shows_set _ h.3,
  )
  begins_at n p at within injects parcel false h =
      only_send (λ e. CanHappen n ls e → ⊥) p (λ k to count can.
      h (subst (λ z. (ls z).rest ≡ []) (sym at) can.idle) (subst (λ z. 0 < (ls z).held) (sym at) can.credit) (omega (arith, count)))

  pub goes_on_at : (n : Net) → x < n.channels → n.injects x ≡ true → (b : Bool) → SendsMore (ls x) c b → MakesEvent n ls (More x) (set cs x c) b
  goes_on_at n within injects true h =
      (InjectRest x h.0 h.1, refl, record { here = within; injects = injects; course = h.2; credit = h.3 }, shows_set _ h.4)
  goes_on_at n within injects false h = only_more (λ e. CanHappen n ls e → ⊥) x (λ flit more can. h flit more can.course can.credit)

  pub takes_at : (n : Net) → x < n.channels → n.ejects x ≡ false → (b : Bool) → TakesFlit (ls x) c b → MakesEvent n ls (Take x) (set cs x c) b
  takes_at n within input true h =
      (Latch x h.0 h.1, refl, record { here = within; input = input; free = h.2; first = h.3 }, shows_set _ h.4)
  takes_at n within input false h = only_take (λ e. CanHappen n ls e → ⊥) x (λ flit more can. h flit more can.free can.first)

  pub credits_at : (n : Net) → x < n.channels → (b : Bool) → Credits (ls x) c b → MakesEvent n ls (Credit x) (set cs x c) b
  credits_at n within true h = (Return x, refl, record { here = within; returns = h.0 }, shows_set _ h.1)
  credits_at n within false h = only_credit (λ e. CanHappen n ls e → ⊥) x (λ can. h can.returns)

  accepted_by : (n : Net) → x < n.channels → n.ejects x ≡ true → (flit : ℕ) (more : List ℕ) → (ls x).flits ≡ flit ∷ more → ShowsLine (taken more (ls x)) c
      → (bit : Bool) → n.is_head flit ≡ bit → MakesEvent n ls (Accept x) (set cs x c) true
  accepted_by n within ends flit more first h true head = (
    AcceptHead x flit more,
    refl,
    record { here = within; ejects = ends; first = first; head = head },
    shows_set (accepted n flit more (ls x)) (record { flits = h.flits; held = h.held; returning = h.returning; latch = h.latch; owner = h.owner; rest = h.rest }),
  )
  accepted_by n within ends flit more first h false head = (
    AcceptRest x flit more,
    refl,
    record { here = within; ejects = ends; first = first; head = head },
    shows_set (accepted n flit more (ls x)) (record { flits = h.flits; held = h.held; returning = h.returning; latch = h.latch; owner = h.owner; rest = h.rest }),
  )

  pub accepts_at : (n : Net) → x < n.channels → n.ejects x ≡ true → (b : Bool) → Accepts (ls x) c b → MakesEvent n ls (Accept x) (set cs x c) b
  accepts_at n within ends true h = accepted_by n within ends h.0 h.1 h.2 h.3 (n.is_head h.0) refl
  accepts_at n within ends false h = only_accept (λ e. CanHappen n ls e → ⊥) x (λ flit more can. h flit more can.first) (λ flit more can. h flit more can.first)

  pub puts_at : (flit i : ℕ) (is_tail b : Bool) → PutsFrom (ls x) c flit i is_tail b → PutsAt ls (set cs x c) x flit i is_tail b
  puts_at flit i is_tail true h = (h.0, shows_set (record (put flit (ls x)) { owner = cond is_tail None (Some i) }) h.1)
  puts_at flit i is_tail false h = h

  pub unlatches_at : ShowsLine (unlatched (ls x)) c → ShowAll (update ls x (unlatched (ls x))) (set cs x c)
  unlatches_at h = shows_set (unlatched (ls x)) h
