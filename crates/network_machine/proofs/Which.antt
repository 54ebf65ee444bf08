-- Which events a move is.
use Rattle.std.proofs.Common.{◌≡◌, ℕ, List, length, subst, sym, ap}
use Rattle.wormhole.specs.Net.{Parcel, net_flits}
use Rattle.wormhole.specs.Events.{NetEvent, InjectHead, InjectRest, Latch, ForwardHead, ForwardRest, AcceptHead, AcceptRest, Return}
use Rattle.network_machine.specs.declared.moves.Move.{Move}
use Rattle.network_machine.specs.declared.moves.Packet.{Packet}
use Rattle.network_machine.specs.declared.moves.Move.TheVariants.{Send, More, Take, Put, Accept, Credit}
use Rattle.network_machine.specs.Moves.{event_move}

abbrev packet_in : Packet → Move → Packet
packet_in p (Send q) = q
packet_in p (More x) = p
packet_in p (Take x) = p
packet_in p (Put x) = p
packet_in p (Accept x) = p
packet_in p (Credit x) = p

module _ (P : NetEvent → Type 0) where
  pub only_more : (x : ℕ) → ((flit : ℕ) (more : List ℕ) → P (InjectRest x flit more)) → (e : NetEvent) → event_move e ≡ More x → P e
  only_more x f (InjectHead z k) is = absurd (cc)
  only_more x f (InjectRest z flit more) is = let same : x ≡ z = cc in subst (λ w. P (InjectRest w flit more)) same (f flit more)
  only_more x f (Latch z flit more) is = absurd (cc)
  only_more x f (ForwardHead z y flit) is = absurd (cc)
  only_more x f (ForwardRest z y flit) is = absurd (cc)
  only_more x f (AcceptHead z flit more) is = absurd (cc)
  only_more x f (AcceptRest z flit more) is = absurd (cc)
  only_more x f (Return z) is = absurd (cc)

  pub only_take : (x : ℕ) → ((flit : ℕ) (more : List ℕ) → P (Latch x flit more)) → (e : NetEvent) → event_move e ≡ Take x → P e
  only_take x f (InjectHead z k) is = absurd (cc)
  only_take x f (InjectRest z flit more) is = absurd (cc)
  only_take x f (Latch z flit more) is = let same : x ≡ z = cc in subst (λ w. P (Latch w flit more)) same (f flit more)
  only_take x f (ForwardHead z y flit) is = absurd (cc)
  only_take x f (ForwardRest z y flit) is = absurd (cc)
  only_take x f (AcceptHead z flit more) is = absurd (cc)
  only_take x f (AcceptRest z flit more) is = absurd (cc)
  only_take x f (Return z) is = absurd (cc)

  pub only_put : (x : ℕ) → ((y flit : ℕ) → P (ForwardHead x y flit)) → ((y flit : ℕ) → P (ForwardRest x y flit)) → (e : NetEvent) → event_move e ≡ Put x → P e
  only_put x f g (InjectHead z k) is = absurd (cc)
  only_put x f g (InjectRest z flit more) is = absurd (cc)
  only_put x f g (Latch z flit more) is = absurd (cc)
  only_put x f g (ForwardHead z y flit) is = let same : x ≡ z = cc in subst (λ w. P (ForwardHead w y flit)) same (f y flit)
  only_put x f g (ForwardRest z y flit) is = let same : x ≡ z = cc in subst (λ w. P (ForwardRest w y flit)) same (g y flit)
  only_put x f g (AcceptHead z flit more) is = absurd (cc)
  only_put x f g (AcceptRest z flit more) is = absurd (cc)
  only_put x f g (Return z) is = absurd (cc)

  pub only_accept : (x : ℕ) → ((flit : ℕ) (more : List ℕ) → P (AcceptHead x flit more)) → ((flit : ℕ) (more : List ℕ) → P (AcceptRest x flit more))
      → (e : NetEvent) → event_move e ≡ Accept x → P e
  only_accept x f g (InjectHead z k) is = absurd (cc)
  only_accept x f g (InjectRest z flit more) is = absurd (cc)
  only_accept x f g (Latch z flit more) is = absurd (cc)
  only_accept x f g (ForwardHead z y flit) is = absurd (cc)
  only_accept x f g (ForwardRest z y flit) is = absurd (cc)
  only_accept x f g (AcceptHead z flit more) is = let same : x ≡ z = cc in subst (λ w. P (AcceptHead w flit more)) same (f flit more)
  only_accept x f g (AcceptRest z flit more) is = let same : x ≡ z = cc in subst (λ w. P (AcceptRest w flit more)) same (g flit more)
  only_accept x f g (Return z) is = absurd (cc)

  pub only_credit : (x : ℕ) → P (Return x) → (e : NetEvent) → event_move e ≡ Credit x → P e
  only_credit x f (InjectHead z k) is = absurd (cc)
  only_credit x f (InjectRest z flit more) is = absurd (cc)
  only_credit x f (Latch z flit more) is = absurd (cc)
  only_credit x f (ForwardHead z y flit) is = absurd (cc)
  only_credit x f (ForwardRest z y flit) is = absurd (cc)
  only_credit x f (AcceptHead z flit more) is = absurd (cc)
  only_credit x f (AcceptRest z flit more) is = absurd (cc)
  only_credit x f (Return z) is = let same : x ≡ z = cc in subst (λ w. P (Return w)) same f

  pub only_send : (p : Packet) → ((k : Parcel) → k.destination ≡ p.to → length (net_flits k) ≡ p.length → P (InjectHead p.from k))
      → (e : NetEvent) → event_move e ≡ Send p → P e
  only_send p f (InjectHead z k) is =
      (let same : record { from = z; to = k.destination; length = length (net_flits k) } ≡ p = ap (packet_in p) is in
      let at : p.from ≡ z = sym (ap (λ (q : Packet). q.from) same) in
      subst (λ w. P (InjectHead w k)) at (f k (ap (λ (q : Packet). q.to) same) (ap (λ (q : Packet). q.length) same)))
  only_send p f (InjectRest z flit more) is = absurd (cc)
  only_send p f (Latch z flit more) is = absurd (cc)
  only_send p f (ForwardHead z y flit) is = absurd (cc)
  only_send p f (ForwardRest z y flit) is = absurd (cc)
  only_send p f (AcceptHead z flit more) is = absurd (cc)
  only_send p f (AcceptRest z flit more) is = absurd (cc)
  only_send p f (Return z) is = absurd (cc)
