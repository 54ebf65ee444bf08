-- What holds in every state that events lead to.
use Rattle.std.proofs.Common.{◌≡◌, inl, ℕ, List, [], ◌∷◌, refl, sym, ◌∙◌, subst, arith, append-nil}
use Rattle.std.proofs.lemmas.List.Elements.{All-nil}
use Rattle.wormhole.specs.Net.{Net, IsNet, IsOn, IsParcel, Parcel}
use Rattle.wormhole.specs.State.{NetState, empty}
use Rattle.wormhole.specs.Events.{NetEvent, InjectHead, InjectRest, Latch, ForwardHead, ForwardRest, AcceptHead}
use Rattle.wormhole.specs.Events.{AcceptRest, Return, CanHappen, CanAllHappen, after, after_all}
use Rattle.wormhole.specs.Words.{Words}
use Rattle.wormhole.specs.Routes.{on_the_way, IsSentHere, IsBegunHere, Routes}
use Rattle.wormhole.specs.Delivery.{IsReached}
use Rattle.wormhole.proofs.Ends.{words_inject_head, words_inject_rest, words_latch, words_return}
use Rattle.wormhole.proofs.Receivers.{words_accept_head, words_accept_rest}
use Rattle.wormhole.proofs.Routers.{words_forward_head, words_forward_rest}
use Rattle.wormhole.proofs.Ways.{apart_by_number}
use Rattle.wormhole.proofs.Quiet.{routes_inject_rest, routes_latch, routes_accept_rest, routes_return, routes_forward_rest}
use Rattle.wormhole.proofs.RouteEnds.{routes_inject_head, routes_accept_head}
use Rattle.wormhole.proofs.RouteSteps.{has_way, routes_forward_head}

pub words_kept : (n : Net) (s : NetState) (e : NetEvent) → IsNet n → Words n s → Routes n s → CanHappen n s.lines e → Words n (after n s e)
words_kept n s (InjectHead x k) net w r c = words_inject_head n s x k w c
words_kept n s (InjectRest x flit more) net w r c = words_inject_rest n s x flit more w c
words_kept n s (Latch x flit more) net w r c = words_latch n s x flit more w c
words_kept n s (ForwardHead x y flit) net w r c =
    let way = has_way n s x y flit net w r c in words_forward_head n s x y flit way.within way.apart way.goes.output w c
words_kept n s (ForwardRest x y flit) net w r c = words_forward_rest n s x y flit (apart_by_number n x y (r.rising x y c.owned)) w c
words_kept n s (AcceptHead x flit more) net w r c = words_accept_head n s x flit more w c
words_kept n s (AcceptRest x flit more) net w r c = words_accept_rest n s x flit more w c
words_kept n s (Return x) net w r c = words_return n s x w c

pub routes_kept : (n : Net) (s : NetState) (e : NetEvent) → IsNet n → Words n s → Routes n s → CanHappen n s.lines e → Routes n (after n s e)
routes_kept n s (InjectHead x k) net w r c = routes_inject_head n s x k net r c
routes_kept n s (InjectRest x flit more) net w r c = routes_inject_rest n s x flit more r
routes_kept n s (Latch x flit more) net w r c = routes_latch n s x flit more r
routes_kept n s (ForwardHead x y flit) net w r c = routes_forward_head n s x y flit r (has_way n s x y flit net w r c)
routes_kept n s (ForwardRest x y flit) net w r c = routes_forward_rest n s x y flit (apart_by_number n x y (r.rising x y c.owned)) r c.owned
routes_kept n s (AcceptHead x flit more) net w r c = routes_accept_head n s x flit more net w r c
routes_kept n s (AcceptRest x flit more) net w r c = routes_accept_rest n s x flit more r
routes_kept n s (Return x) net w r c = routes_return n s x r

pub words_empty : (n : Net) → Words n (empty n)
words_empty n = record {
  credits = λ x. omega arith;
  contiguous = λ x. refl;
  parcels = λ x. All-nil (IsParcel n);
  awaited = λ x. tt;
  owed = λ x. tt;
  held = λ x y h. cc;
  free = λ y i h. refl;
  single = λ x y z h g. cc;
  owning = λ x i. inl refl;
  inside = record { owner = λ x y h. cc; owned = λ x y h. cc };
  senders = λ x i. refl;
  unlatched = λ x i. refl;
  assembling = λ x i. inl (refl, refl);
}

-- no packet is on any way
nothing_on_the_way : (i j : ℕ) (xs : List ℕ) → on_the_way i j (λ x. []) xs ≡ []
nothing_on_the_way i j [] = refl
nothing_on_the_way i j (x ∷ xs) = append-nil (on_the_way i j (λ x. []) xs) ∙ nothing_on_the_way i j xs

pub routes_empty : (n : Net) → Routes n (empty n)
routes_empty n = record {
  on_route = λ x. All-nil (λ (k : Parcel). IsOn x (n.route k.source k.destination));
  rising = λ x y h. cc;
  sent = λ x. All-nil (IsSentHere n x);
  begun = λ x. All-nil (IsBegunHere n x);
  flow = λ i j joined. nothing_on_the_way i j (n.route i j);
}

pub kept_by_all : (n : Net) (s : NetState) (es : List NetEvent) → IsNet n → Words n s → Routes n s → CanAllHappen n s es
    → Words n (after_all n s es) × Routes n (after_all n s es)
kept_by_all n s [] net w r c = (w, r)
kept_by_all n s (e ∷ es) net w r c = kept_by_all n (after n s e) es net (words_kept n s e net w r c.0) (routes_kept n s e net w r c.0) c.1

pub words_reached : (n : Net) (s : NetState) → IsNet n → IsReached n s → Words n s
words_reached n s net is = subst (Words n) (sym is.stands) (kept_by_all n (empty n) is.events net (words_empty n) (routes_empty n) is.may).0

pub routes_reached : (n : Net) (s : NetState) → IsNet n → IsReached n s → Routes n s
routes_reached n s net is =
    subst (Routes n) (sym is.stands) (kept_by_all n (empty n) is.events net (words_empty n) (routes_empty n) is.may).1
