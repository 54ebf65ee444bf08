-- What holds in every state that events lead to.
use Rattle.std.proofs.Common.{ℕ, ◌+◌, ◌-◌, List, [], ◌∷◌, drop, Some, refl, sym, subst, arith}
use Rattle.std.proofs.lemmas.List.Elements.{All-nil}
use Rattle.wormhole.specs.Net.{Parcel}
use Rattle.wormhole.specs.State.{NetLine, Note, NetState, empty, update}
use Rattle.wormhole.specs.Events.{NetEvent, InjectHead, InjectRest, Latch, ForwardHead, ForwardRest, AcceptHead}
use Rattle.wormhole.specs.Events.{AcceptRest, Return, put, taken, accepted, after, after_all}
use Rattle.wormhole.specs.Words.{Words}
use Rattle.wormhole.proofs.Ends.{words_inject_head, words_inject_rest, words_latch, words_return}
use Rattle.wormhole.proofs.Receivers.{words_accept_head, words_accept_rest}
use Rattle.wormhole.proofs.Routers.{words_put_head, words_forward_rest}
use Rattle.wormhole.proofs.Reached.{words_empty}
use Rattle.wormhole.proofs.Changes.{changed, changed_line}
use Rattle.network_adaptive.specs.Choices.{AdaptiveNet, IsAdaptiveNet, Comes}
use Rattle.network_adaptive.specs.Flow.{CanOccur, CanAllOccur, IsReachable}
use Rattle.network_adaptive.specs.Tracks.{AreTracks, HasTracks}
use Rattle.network_adaptive.proofs.Kept.{less_one, drop_none, tracks_less, owner_apart, tracks_forward_rest, tracks_inject_head, tracks_accept_head, given}
use Rattle.network_adaptive.proofs.Gives.{tracks_forward_head}

pub words_kept : (n : AdaptiveNet) (s : NetState) (e : NetEvent) → IsAdaptiveNet n → Words n.frame s → HasTracks n s → CanOccur n s.lines e
    → Words n.frame (after n.frame s e)
words_kept n s (InjectHead x k) net w r c = words_inject_head n.frame s x k w c
words_kept n s (InjectRest x flit more) net w r c = words_inject_rest n.frame s x flit more w c
words_kept n s (Latch x flit more) net w r c = words_latch n.frame s x flit more w c
words_kept n s (ForwardHead x y flit) net w r c =
    let g = given n net s w r.course r.stamp r.now r.are x y flit c in
    words_put_head n.frame s x y flit g.there g.apart g.output w
    (record { here = c.here; input = c.input; full = c.full; head = c.head; free = c.free; credit = c.credit })
words_kept n s (ForwardRest x y flit) net w r c =
    words_forward_rest n.frame s x y flit (owner_apart n net s w r.course r.stamp r.now r.are x y c.owned) w c
words_kept n s (AcceptHead x flit more) net w r c = words_accept_head n.frame s x flit more w c
words_kept n s (AcceptRest x flit more) net w r c = words_accept_rest n.frame s x flit more w c
words_kept n s (Return x) net w r c = words_return n.frame s x w c

-- a state of which the courses and stamps of another one are tracks has tracks
same : (n : AdaptiveNet) (s t : NetState) (r : HasTracks n s) → AreTracks n t r.course r.stamp r.now → HasTracks n t
same n s t r are = record { course = r.course; stamp = r.stamp; now = r.now; are = are }

some : (n : AdaptiveNet) (t : NetState) (course stamp : ℕ → ℕ) (now : ℕ) → AreTracks n t course stamp now → HasTracks n t
some n t course stamp now are = record { course = course; stamp = stamp; now = now; are = are }

pub tracks_kept : (n : AdaptiveNet) (s : NetState) (e : NetEvent) → IsAdaptiveNet n → Words n.frame s → HasTracks n s → CanOccur n s.lines e
    → HasTracks n (after n.frame s e)
tracks_kept n s (InjectHead x k) net w r c =
    some n (after n.frame s (InjectHead x k)) r.course (update r.stamp x (r.now + 1)) (r.now + 1) (tracks_inject_head n net s w r.course r.stamp r.now r.are x k c)
tracks_kept n s (InjectRest x flit more) net w r c =
    let l : NetLine = record (put flit (s.lines x)) { rest = more } in
    let h : Note = record (s.notes x) { owed = more } in
    same n s (after n.frame s (InjectRest x flit more)) r (tracks_less n s (after n.frame s (InjectRest x flit more))
    (less_one s (after n.frame s (InjectRest x flit more)) x l h (changed s x l h) refl refl (λ e. e)) r.course r.stamp r.now r.are)
tracks_kept n s (Latch x flit more) net w r c =
    let l : NetLine = record (taken more (s.lines x)) { latch = Some flit } in
    same n s (after n.frame s (Latch x flit more)) r (tracks_less n s (after n.frame s (Latch x flit more))
    (less_one s (after n.frame s (Latch x flit more)) x l (s.notes x) (changed_line s x l) refl refl (λ e. e)) r.course r.stamp r.now r.are)
tracks_kept n s (ForwardHead x y flit) net w r c =
    let g = given n net s w r.course r.stamp r.now r.are x y flit c in
    some n (after n.frame s (ForwardHead x y flit)) (update r.course x g.moves.first.destination) (update r.stamp y (r.now + 1)) (r.now + 1)
    (tracks_forward_head n net s w r.course r.stamp r.now r.are x y flit c g)
tracks_kept n s (ForwardRest x y flit) net w r c =
    same n s (after n.frame s (ForwardRest x y flit)) r (tracks_forward_rest n net s w r.course r.stamp r.now r.are x y flit c)
tracks_kept n s (AcceptHead x flit more) net w r c =
    same n s (after n.frame s (AcceptHead x flit more)) r (tracks_accept_head n net s w r.course r.stamp r.now r.are x flit more c)
tracks_kept n s (AcceptRest x flit more) net w r c =
    let l : NetLine = accepted n.frame flit more (s.lines x) in
    let h : Note = record (s.notes x) { awaited = drop 1 (s.notes x).awaited } in
    same n s (after n.frame s (AcceptRest x flit more)) r (tracks_less n s (after n.frame s (AcceptRest x flit more))
    (less_one s (after n.frame s (AcceptRest x flit more)) x l h (changed s x l h) refl refl (drop_none (s.notes x).awaited)) r.course r.stamp r.now r.are)
tracks_kept n s (Return x) net w r c =
    let l : NetLine = record (s.lines x) { held = (s.lines x).held + 1; returning = (s.lines x).returning - 1 } in
    same n s (after n.frame s (Return x)) r (tracks_less n s (after n.frame s (Return x))
    (less_one s (after n.frame s (Return x)) x l (s.notes x) (changed_line s x l) refl refl (λ e. e)) r.course r.stamp r.now r.are)

pub tracks_empty : (n : AdaptiveNet) → HasTracks n (empty n.frame)
tracks_empty n = record {
  course = λ x. 0;
  stamp = λ x. 0;
  now = 0;
  are = record {
    comes = λ x. All-nil (λ (k : Parcel). Comes n k.destination x);
    coming = λ x e more. absurd (more refl);
    owned = λ x y o. cc;
    alone = λ x y o. cc;
    order = λ x y o none. cc;
    past = λ x. omega arith;
  };
}

pub kept_by_all : (n : AdaptiveNet) (s : NetState) (es : List NetEvent) → IsAdaptiveNet n → Words n.frame s → HasTracks n s → CanAllOccur n s es
    → Words n.frame (after_all n.frame s es) × HasTracks n (after_all n.frame s es)
kept_by_all n s [] net w r c = (w, r)
kept_by_all n s (e ∷ es) net w r c = kept_by_all n (after n.frame s e) es net (words_kept n s e net w r c.0) (tracks_kept n s e net w r c.0) c.1

pub words_reached : (n : AdaptiveNet) (s : NetState) → IsAdaptiveNet n → IsReachable n s → Words n.frame s
words_reached n s net is =
    subst (Words n.frame) (sym is.stands) (kept_by_all n (empty n.frame) is.events net (words_empty n.frame) (tracks_empty n) is.may).0

pub tracks_reached : (n : AdaptiveNet) (s : NetState) → IsAdaptiveNet n → IsReachable n s → HasTracks n s
tracks_reached n s net is =
    subst (HasTracks n) (sym is.stands) (kept_by_all n (empty n.frame) is.events net (words_empty n.frame) (tracks_empty n) is.may).1
