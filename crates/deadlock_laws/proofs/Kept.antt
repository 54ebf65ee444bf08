-- What events of endpoints keep: the network's part is a run of the network, and answers are owed where they may be.
use Rattle.std.proofs.Common.{◌≡◌, ℕ, Bool, true, false, if◌then◌else◌, inl, inr, List, [], ◌∷◌, ◌++◌, refl, sym, ◌∙◌, ap, subst, All}
use Rattle.std.proofs.lemmas.List.Elements.{All-nil, All-cons, All-head, All-tail}
use Rattle.wormhole.specs.Net.{Net}
use Rattle.wormhole.specs.State.{update}
use Rattle.wormhole.specs.Events.{NetEvent, CanAllHappen, after_all}
use Rattle.wormhole.specs.Delivery.{IsReached}
use Rattle.wormhole.proofs.Changes.{update_same, update_other}
use Rattle.std.proofs.lemmas.Bool.{cases_eq}
use Rattle.network_judge.specs.Replies.{IsReply}
use Rattle.deadlock_laws.specs.Endpoints.{Endpoints, Owing, EndState, EndEvent, OfNetwork, TakeHead, TakeRest, Answer, net_event}
use Rattle.deadlock_laws.specs.Endpoints.{owing_of, answered, taken_in, end_after, end_after_all, at_first, Begets}
use Rattle.deadlock_laws.specs.Endpoints.{EndsCanAllHappen, EndsMay, EndsReached}

-- the network's events of a list
abbrev pub net_events : List EndEvent → List NetEvent
net_events [] = []
net_events (e ∷ es) = net_event e ∷ net_events es

pub net_may : (n : Net) (p : Endpoints) (s : EndState) (es : List EndEvent) → EndsCanAllHappen n p s es → CanAllHappen n s.net (net_events es)
net_may n p s [] c = tt
net_may n p s (e ∷ es) c = (c.0.net, net_may n p (end_after n s e) es c.1)

pub net_stands : (n : Net) (s : EndState) (es : List EndEvent) → (end_after_all n s es).net ≡ after_all n s.net (net_events es)
net_stands n s [] = refl
net_stands n s (e ∷ es) = net_stands n (end_after n s e) es

pub net_reached : (n : Net) (p : Endpoints) (s : EndState) → EndsReached n p s → IsReached n s.net
net_reached n p s r = record {
  events = net_events r.events;
  may = net_may n p (at_first n) r.events r.may;
  stands = ap (λ (z : EndState). z.net) r.stands ∙ net_stands n (at_first n) r.events;
}

-- the answers of an entry go where they may
pub record MayOwe (p : Endpoints) (x : ℕ) (o : Owing) : Type 0 where
  pub first : IsReply p.replies x o.first
  pub others : Begets p x o.others

abbrev pub Owe : Endpoints → (ℕ → List Owing) → Type 0
Owe p q = (x : ℕ) → All (MayOwe p x) (q x)

owed_by : (p : Endpoints) (x : ℕ) (begets : List ℕ) (os : List Owing) → Begets p x begets → All (MayOwe p x) os → All (MayOwe p x) (owing_of begets ++ os)
owed_by p x [] os b all = all
owed_by p x (y ∷ ys) os b all =
    All-cons (MayOwe p x) (record { first = y; others = ys }) os
    (record { first = All-head (λ z. IsReply p.replies x z) y ys b; others = All-tail (λ z. IsReply p.replies x z) y ys b }) all

owed_last : (p : Endpoints) (x : ℕ) (begets : List ℕ) (os : List Owing) → Begets p x begets → All (MayOwe p x) os → All (MayOwe p x) (os ++ owing_of begets)
owed_last p x begets [] b all = owed_by' begets b
  where
    owed_by' : (ys : List ℕ) → Begets p x ys → All (MayOwe p x) (owing_of ys)
    owed_by' [] c = All-nil (MayOwe p x)
    owed_by' (y ∷ ys) c =
        All-cons (MayOwe p x) (record { first = y; others = ys }) []
        (record { first = All-head (λ z. IsReply p.replies x z) y ys c; others = All-tail (λ z. IsReply p.replies x z) y ys c }) (All-nil (MayOwe p x))
owed_last p x begets (o ∷ os) b all =
    All-cons (MayOwe p x) o (os ++ owing_of begets) (All-head (MayOwe p x) o os all) (owed_last p x begets os b (All-tail (MayOwe p x) o os all))

after_taking : (n : Net) (p : Endpoints) (x flit : ℕ) (begets : List ℕ) (os : List Owing) → Begets p x begets → All (MayOwe p x) os
    → All (MayOwe p x) (taken_in n flit begets os)
after_taking n p x flit begets os b all = by (n.is_tail flit)
  where
    by : (c : Bool) → All (MayOwe p x) (if c then os ++ owing_of begets else os)
    by true = owed_last p x begets os b all
    by false = all

after_answer : (p : Endpoints) (x : ℕ) (os : List Owing) → All (MayOwe p x) os → All (MayOwe p x) (answered os)
after_answer p x [] all = all
after_answer p x (o ∷ os) all =
    owed_by p x o.others os (All-head (MayOwe p x) o os all).others (All-tail (MayOwe p x) o os all)

at_one : (p : Endpoints) (q : ℕ → List Owing) (x : ℕ) (os : List Owing) → Owe p q → All (MayOwe p x) os → Owe p (update q x os)
at_one p q x os owe all z = elim (cases_eq z x) [
  | inl e ↦ subst (λ a. All (MayOwe p a) (update q x os a)) (sym e) (subst (λ l. All (MayOwe p x) l) (sym (update_same q x os)) all)
  | inr d ↦ subst (λ l. All (MayOwe p z) l) (sym (update_other q x os z d)) (owe z)
]

kept : (n : Net) (p : Endpoints) (s : EndState) (e : EndEvent) → EndsMay n p s e → Owe p s.queue → Owe p (end_after n s e).queue
kept n p s (OfNetwork e) m owe = owe
kept n p s (TakeHead x flit more begets) m owe = at_one p s.queue x _ owe (after_taking n p x flit begets (s.queue x) m.1 (owe x))
kept n p s (TakeRest x flit more begets) m owe = at_one p s.queue x _ owe (after_taking n p x flit begets (s.queue x) m (owe x))
kept n p s (Answer x k) m owe = at_one p s.queue x _ owe (after_answer p x (s.queue x) (owe x))

kept_all : (n : Net) (p : Endpoints) (s : EndState) (es : List EndEvent) → EndsCanAllHappen n p s es → Owe p s.queue
    → Owe p (end_after_all n s es).queue
kept_all n p s [] c owe = owe
kept_all n p s (e ∷ es) c owe = kept_all n p (end_after n s e) es c.1 (kept n p s e c.0.ends owe)

pub owe_reached : (n : Net) (p : Endpoints) (s : EndState) → EndsReached n p s → Owe p s.queue
owe_reached n p s r =
    subst (λ (z : EndState). Owe p z.queue) (sym r.stands) (kept_all n p (at_first n) r.events r.may (λ x. All-nil (MayOwe p x)))
