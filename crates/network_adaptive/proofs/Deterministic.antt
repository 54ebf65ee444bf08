-- A network whose routers have one choice each is one whose routers choose.
use Rattle.std.proofs.Common.{◌≡◌, inl, ℕ, ◌<◌, true, false, [], refl, sym, ◌∙◌, subst, eq-eqb}
use Rattle.std.proofs.lemmas.Bool.{eqb-true}
use Rattle.wormhole.specs.Net.{Net, IsNet, IsOn}
use Rattle.wormhole.specs.State.{NetLine}
use Rattle.wormhole.specs.Events as events
use Rattle.wormhole.specs.Events.{NetEvent, InjectHead, InjectRest, Latch, ForwardHead, ForwardRest, AcceptHead, AcceptRest, Return}
use Rattle.wormhole.proofs.Ways.{GoesOn, goes_on, next_on, apart_by_number}
use Rattle.network_adaptive.specs.Choices as choices
use Rattle.network_adaptive.specs.Choices.{AdaptiveNet, IsAdaptiveNet, Comes, BeginsIn, IsChoice, Roams, FromHere, ByNoEscape, ExtendedDependency, HasEscapes, AreRising}
use Rattle.network_adaptive.specs.Flow.{CanOccur}
use Rattle.network_adaptive.specs.Deterministic.{deterministic}

module _ (m : Net) (net : IsNet m) where
  -- packets come along their routes
  record On (j x : ℕ) : Type 0 where
    source : ℕ
    joined : m.joins source j ≡ true
    on : IsOn x (m.route source j)

  next_is : (j x y : ℕ) → IsChoice (deterministic m) j x y → m.next x j ≡ y
  next_is j x y s = eqb-true (m.next x j) y s.chosen

  goes : (j x y : ℕ) (o : On j x) → IsChoice (deterministic m) j x y → GoesOn m o.source j x y
  goes j x y o s = subst (λ z. GoesOn m o.source j x z) (next_is j x y s) (goes_on m o.source j x net o.joined s.input o.on)

  comes_on : (j x : ℕ) → Comes (deterministic m) j x → On j x
  comes_on j x (BeginsIn i joined) = let b = net.begins i j joined in record { source = i; joined = joined; on = ([], b.0, b.1) }
  comes_on j x (choices.ByChoice u v c s) =
      let o = comes_on j u c in
      record { source = o.source; joined = o.joined; on = next_on m o.source j u v (goes j u v o s) }

  pub is_adaptive : IsAdaptiveNet (deterministic m)
  is_adaptive = record {
    senders = net.senders;
    receivers = net.receivers;
    ends = λ i j joined. (let e = net.ends i j joined in net.within i j j joined (e.0, [], e.1));
    within = λ j x c. (let o = comes_on j x c in net.within o.source j x o.joined o.on);
    apart = λ j x y c s. apart_by_number m x y (goes j x y (comes_on j x c) s).rises;
    outputs = λ j x y c s. (goes j x y (comes_on j x c) s).output;
    arrives = λ j x c e. (let o = comes_on j x c in net.ejects o.source j x o.joined o.on e);
    chosen = λ j x y c e. e;
    last = λ j x y c s e. s.chosen;
    marks = λ j x y c e. refl;
  }

  pub has_escapes : HasEscapes (deterministic m)
  has_escapes j x c input = (m.next x j, eq-eqb (m.next x j) (m.next x j) refl)

  -- no packet goes by anything but escapes
  stays : (j x c : ℕ) → Roams (deterministic m) j x c → c ≡ x
  stays j x c FromHere = refl
  stays j x c (ByNoEscape u v r s e) = let bad : true ≡ false = sym s.chosen ∙ e in absurd (cc)

  pub rises : (x j y : ℕ) → ExtendedDependency (deterministic m) x j y → m.number x < m.number y
  rises x j y a =
      let same : a.head ≡ x = stays j x a.head a.roams in
      let s : IsChoice (deterministic m) j x y = record {
        input = subst (λ z. m.ejects z ≡ false) same a.input;
        chosen = subst (λ z. (deterministic m).escapes z j y ≡ true) same a.escape;
      } in
      (goes j x y (comes_on j x a.comes) s).rises

-- an event that may happen in a network of fixed routes may occur in it as an adaptive one
pub same_events : (m : Net) (ls : ℕ → NetLine) (e : NetEvent) → events.CanHappen m ls e → CanOccur (deterministic m) ls e
same_events m ls (InjectHead x k) c = c
same_events m ls (InjectRest x flit more) c = c
same_events m ls (Latch x flit more) c = c
same_events m ls (ForwardHead x y flit) c = record {
  here = c.here;
  input = c.input;
  full = c.full;
  head = c.head;
  chosen = eq-eqb (m.next x (m.told flit)) y (sym c.output);
  free = c.free;
  credit = c.credit;
  room = inl (eq-eqb (m.next x (m.told flit)) y (sym c.output));
}
same_events m ls (ForwardRest x y flit) c = c
same_events m ls (AcceptHead x flit more) c = c
same_events m ls (AcceptRest x flit more) c = c
same_events m ls (Return x) c = c

pub same_too : (m : Net) (ls : ℕ → NetLine) (e : NetEvent) → CanOccur (deterministic m) ls e → events.CanHappen m ls e
same_too m ls (InjectHead x k) c = c
same_too m ls (InjectRest x flit more) c = c
same_too m ls (Latch x flit more) c = c
same_too m ls (ForwardHead x y flit) c = record {
  here = c.here;
  input = c.input;
  full = c.full;
  head = c.head;
  output = sym (eqb-true (m.next x (m.told flit)) y c.chosen);
  free = c.free;
  credit = c.credit;
}
same_too m ls (ForwardRest x y flit) c = c
same_too m ls (AcceptHead x flit more) c = c
same_too m ls (AcceptRest x flit more) c = c
same_too m ls (Return x) c = c
