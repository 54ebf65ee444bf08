-- What is known of the network of every run, and its packets by class.
use Rattle.std.proofs.Common.{◌≡◌, ℕ, ◌+◌, ◌*◌, ◌<◌, ◌≤◌, zero, suc, true, List, [], ◌∷◌, length, Option, Some, None, sym, ap, ◌∙◌, refl, arith, subst, All, slice_get}
use Rattle.std.specs.List.{sum_by}
use Rattle.std.proofs.Math.Nat.{mul-suc}
use Rattle.std.proofs.lemmas.List.Sums.{sum_by-cons}
use Rattle.std.proofs.lemmas.List.Elements.{All-nil, All-cons, All-head, All-tail}
use Rattle.torus.specs.Shape.{tiles_of}
use Rattle.torus.specs.declared.shape.Class.{Class}
use Rattle.torus.specs.declared.shape.Class.TheVariants.{Request, Reply}
use Rattle.torus.specs.declared.step.Step.{Step}
use Rattle.dateline_route.specs.declared.channel.Channel.{Channel}
use Rattle.channel_number.specs.Order.{channel_at}
use Rattle.channel_number.specs.Ports.{injection_channel, ejection_channel}
use Rattle.wormhole.specs.Net.{Net, IsNet, Parcel}
use Rattle.wormhole.specs.State.{NetState}
use Rattle.wormhole.specs.Routes.{IsSentHere}
use Rattle.wormhole.specs.Delivery.{whole, WasSentTo}
use Rattle.wormhole.specs.Events.{NetEvent, network_after}
use Rattle.wormhole.specs.Work.{EventMayHappen}
use Rattle.wormhole.specs.Weight.{sum_below}
use Rattle.wormhole.proofs.Arrivals.{whole_was_sent}
use Rattle.one_order.specs.Events.{order_after}
use Rattle.one_order.specs.Room.{home_room}
use Rattle.tile.specs.Tile.{Design}
use Rattle.core_laws.specs.Core.{Load, State, design_of, step}
use Rattle.core_laws.specs.Runs.{IsAcceptedLoad, state_after}
use Rattle.core_laws.specs.Noted.{noted, event_by}
use Rattle.core_laws.proofs.Projection.{net_of}
use Rattle.core_laws.proofs.ChannelFacts.{injection_is, ejection_tile, joined_from}
use Rattle.core_laws.proofs.ProgressWired.{net_is}
use Rattle.core_laws.proofs.Histories.{event_at}
use Rattle.core_laws.proofs.EveryRun.{holds_in}
use Rattle.core_laws.proofs.Rooms.{bank_room}
use Rattle.core_laws.proofs.Values.{limited}
use Rattle.core_laws.proofs.ValuesProper.{ready_proper}
use Rattle.core_laws.proofs.Live.{stands_live}
use Rattle.core_laws.proofs.MachineWork.{HasRoom, machine_step}
use Rattle.core_laws.proofs.Made.{still}
use Rattle.core_laws.proofs.Wires.{AreWires, HasEnd}
use Rattle.fair_rounds.specs.Burden.{caps_sent, caps_whole}
use Rattle.fair_rounds.proofs.Reindexing.{reindexed}
use Rattle.fair_rounds.proofs.UnderWay.{Known, known_empty, known_after}

-- what is known of the network of every run
module _ (l : Load) (ok : IsAcceptedLoad l) (steps : List Step) where
  has_room : (n : ℕ) → HasRoom (design_of l) (state_after l steps n) (λ b. home_room (tiles_of l.shape) b l.scripts)
  has_room n = record {
    proper = λ t tag o here due.
        (ready_proper (design_of l) l.tags (limited l ok) l.opening (state_after l steps n) (noted l steps n) (order_after (event_at l steps) n)
        (holds_in l ok steps n).stands (holds_in l ok steps n).values t tag o here due).0;
    room = λ t r here waits. bank_room l ok steps n t r waits;
  }

  after_event : (s : NetState) (e : Option NetEvent) → EventMayHappen (net_of (design_of l)) s e → Known (net_of (design_of l)) s
      → Known (net_of (design_of l)) (network_after (net_of (design_of l)) s e)
  after_event s None may k = k
  after_event s (Some e) may k = known_after (net_of (design_of l)) s e (net_is (design_of l) ok.shape) may k

  by_step : (n : ℕ) (a : Step) (o : Option State) → step (design_of l) (state_after l steps n) a ≡ o → slice_get steps n ≡ Some a
      → Known (net_of (design_of l)) (noted l steps n).net → Known (net_of (design_of l)) (noted l steps (suc n)).net
  by_step n a None is there k =
      let net : (noted l steps (suc n)).net ≡ (noted l steps n).net =
      ap (λ (b : Option Step). network_after (net_of (design_of l)) (noted l steps n).net (event_by l (state_after l steps n) b)) there
      ∙ ap (network_after (net_of (design_of l)) (noted l steps n).net) (still (design_of l) (state_after l steps n) a is) in
      subst (Known (net_of (design_of l))) (sym net) k
  by_step n a (Some after) is there k =
      let m = machine_step (design_of l) l.tags l.opening (state_after l steps n) (noted l steps n) (order_after (event_at l steps) n) ok.shape
      (stands_live l ok steps n) (λ b. home_room (tiles_of l.shape) b l.scripts) (has_room n) a after is in
      let net : (noted l steps (suc n)).net ≡ network_after (net_of (design_of l)) (noted l steps n).net m.event =
      ap (λ (b : Option Step). network_after (net_of (design_of l)) (noted l steps n).net (event_by l (state_after l steps n) b)) there ∙ m.network in
      subst (Known (net_of (design_of l))) (sym net) (after_event (noted l steps n).net m.event m.may k)

  by_attempt : (n : ℕ) (a : Option Step) → slice_get steps n ≡ a
      → Known (net_of (design_of l)) (noted l steps n).net → Known (net_of (design_of l)) (noted l steps (suc n)).net
  by_attempt n None there k =
      subst (Known (net_of (design_of l)))
      (sym (ap (λ (b : Option Step). network_after (net_of (design_of l)) (noted l steps n).net (event_by l (state_after l steps n) b)) there)) k
  by_attempt n (Some a) there k = by_step n a (step (design_of l) (state_after l steps n) a) refl there k

  pub known_noted : (n : ℕ) → Known (net_of (design_of l)) (noted l steps n).net
  known_noted zero = known_empty (net_of (design_of l))
  known_noted (suc n) = by_attempt n (slice_get steps n) refl (known_noted n)

-- a weight of the packets of a class, and none of the other
abbrev pub of_class : Class → ℕ → Class → ℕ
of_class Request w Request = w
of_class Request w Reply = 0
of_class Reply w Request = 0
of_class Reply w Reply = w

of_same : (c : Class) (w : ℕ) → of_class c w c ≡ w
of_same Request w = refl
of_same Reply w = refl

of_some : (c e : Class) (w m : ℕ) → 0 < of_class c w e * m → e ≡ c
of_some Request Request w m some = refl
of_some Request Reply w m some = absurd (omega (arith, some))
of_some Reply Request w m some = absurd (omega (arith, some))
of_some Reply Reply w m some = refl

sum_all : (f : Parcel → ℕ) (v : ℕ) (ks : List Parcel) → All (λ k. f k ≡ v) ks → sum_by f ks ≡ v * length ks
sum_all f v [] all = omega arith
sum_all f v (k ∷ ks) all =
    let here = All-head (λ k. f k ≡ v) k ks all in
    let rest = sum_all f v ks (All-tail (λ k. f k ≡ v) k ks all) in
    let a = sum_by-cons f k ks in
    let b : v * suc (length ks) ≡ v * length ks + v = mul-suc v (length ks) in
    omega (arith, here, rest, a, b)

all_so : {X : Type 0} (P Q : X → Type 0) → ((x : X) → P x → Q x) → (xs : List X) → All P xs → All Q xs
all_so P Q f [] h = All-nil Q
all_so P Q f (x ∷ xs) h = All-cons Q x xs (f x (All-head P x xs h)) (all_so P Q f xs (All-tail P x xs h))

module _ (d : Design) (s : NetState) (net : IsNet (net_of d)) (wires : AreWires d) (k : Known (net_of d) s) (c : Class) (w : ℕ) where
  abbrev pub n : Net
  n = net_of d

  abbrev weigh : ℕ → ℕ
  weigh x = of_class c w (channel_at d.shape x).class

  abbrev sent_at : ℕ → ℕ
  sent_at x = sum_by (λ (p : Parcel). weigh p.source) (s.notes x).sent

  sent_is : (x : ℕ) → sent_at x ≡ weigh x * length (s.notes x).sent
  sent_is x = sum_all (λ (p : Parcel). weigh p.source) (weigh x) (s.notes x).sent
      (all_so (IsSentHere n x) (λ p. weigh p.source ≡ weigh x) (λ p is. ap weigh is.source) (s.notes x).sent (k.routes.sent x))

  sender : (x : ℕ) → x < n.channels → (ps : List Parcel) → (s.notes x).sent ≡ ps → 0 < sent_at x → HasEnd d (injection_channel d.shape) x
  sender x low [] is some =
      let none : sent_at x ≡ 0 = ap (sum_by (λ (p : Parcel). weigh p.source)) is in
      absurd (omega (arith, none, some))
  sender x low (p ∷ ps) is some =
      let sent = All-head (IsSentHere n x) p ps (subst (All (IsSentHere n x)) is (k.routes.sent x)) in
      let injects : n.injects x ≡ true = ap n.injects (sym sent.source) ∙ net.senders p.source p.destination sent.parcel.joined in
      wires.injections x low injects

  pub sent_most : caps_sent n weigh s ≤ sum_below (tiles_of d.shape) (λ t. w * length (s.notes (injection_channel d.shape t c)).sent)
  sent_most = reindexed (λ x t. x ≡ injection_channel d.shape t c) (λ x z t a b. a ∙ sym b) n.channels (tiles_of d.shape) sent_at
      (λ t. w * length (s.notes (injection_channel d.shape t c)).sent)
      (λ x low some.
      let at : HasEnd d (injection_channel d.shape) x = sender x low (s.notes x).sent refl some in
      let class_is : (channel_at d.shape x).class ≡ at.class =
      ap (λ z. (channel_at d.shape z).class) at.is ∙ ap (λ (z : Channel). z.class) (injection_is d.shape at.tile at.class) in
      let all = sent_is x in
      let same : at.class ≡ c = sym class_is ∙ of_some c (channel_at d.shape x).class w (length (s.notes x).sent) (omega (arith, all, some)) in
      let here : x ≡ injection_channel d.shape at.tile c = at.is ∙ ap (injection_channel d.shape at.tile) same in
      let weight : weigh x ≡ w = ap (of_class c w) (class_is ∙ same) ∙ of_same c w in
      let cost : sent_at x ≡ w * length (s.notes (injection_channel d.shape at.tile c)).sent =
      all ∙ ap (λ m. m * length (s.notes x).sent) weight ∙ ap (λ z. w * length (s.notes z).sent) here in
      record { at = at.tile; low = at.here; by = here; most = omega (arith, cost) })

  whole_is : (t : ℕ) → sum_by (λ (p : Parcel). weigh p.source) (whole s (ejection_channel d.shape t c)) ≡ w * length (whole s (ejection_channel d.shape t c))
  whole_is t = sum_all (λ (p : Parcel). weigh p.source) w (whole s (ejection_channel d.shape t c))
      (all_so (WasSentTo n s (ejection_channel d.shape t c)) (λ p. weigh p.source ≡ w)
      (λ p is.
      let joined : n.joins p.source (ejection_channel d.shape t c) ≡ true = ap (n.joins p.source) (sym is.destination) ∙ is.parcel.joined in
      let from = joined_from d p.source t c joined in
      ap (λ z. of_class c w (channel_at d.shape z).class) from.2
      ∙ (ap (λ (z : Channel). of_class c w z.class) (injection_is d.shape from.0 c) ∙ of_same c w))
      (whole s (ejection_channel d.shape t c)) (whole_was_sent n s (ejection_channel d.shape t c) k.routes))

  pub whole_least : sum_below (tiles_of d.shape) (λ t. w * length (whole s (ejection_channel d.shape t c))) ≤ caps_whole n weigh s
  whole_least = reindexed (λ t x. x ≡ ejection_channel d.shape t c) (λ t u x a b. ejection_tile d.shape t u c c (sym a ∙ b)) (tiles_of d.shape) n.channels
      (λ t. w * length (whole s (ejection_channel d.shape t c))) (λ x. sum_by (λ (p : Parcel). weigh p.source) (whole s x))
      (λ t low some.
      let is = whole_is t in
      record { at = ejection_channel d.shape t c; low = wires.ejects t c low; by = refl; most = omega (arith, is) })
