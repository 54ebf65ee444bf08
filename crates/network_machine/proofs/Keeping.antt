-- Flits keep to routes in each state that events lead to from the empty network.
use Rattle.std.proofs.Common.{◌≡◌, ◌≢◌, ⊎_elim, inl, inr, ℕ, suc, ◌<◌, Bool, true, false, cond, List, [], ◌∷◌, ◌++◌, Some, None, sym, ◌∙◌, ap, subst, arith, All}
use Rattle.std.proofs.lemmas.Bool.{cases_eq, cases_lt}
use Rattle.std.proofs.lemmas.List.Elements.{All-nil, All-cons, All-head, All-tail, All-append}
use Rattle.wormhole.specs.Net.{Net, Parcel, EndsWithTail}
use Rattle.wormhole.specs.State.{NetLine, update, empty_line}
use Rattle.wormhole.specs.Events.{NetEvent, InjectHead, InjectRest, Latch, ForwardHead, ForwardRest, AcceptHead, AcceptRest, Return}
use Rattle.wormhole.specs.Events.{CanHappen, CanInjectHead, CanInjectRest, lines_after}
use Rattle.wormhole.specs.Events.{put, taken, forwarded, unlatched, credited, accepted}
use Rattle.wormhole.proofs.Changes.{update_same, update_other}
use Rattle.network_judge.specs.Table.{Table, channels_of, kind_of, table_next, is_receiver}
use Rattle.network_judge.specs.TableNet.{table_network}
use Rattle.network_judge.specs.Ways.{place}
use Rattle.network_judge.specs.Verdicts.{AllArrive}
use Rattle.network_judge.proofs.Places.{place_next}
use Rattle.network_judge.specs.LockUps.{plain_format}
use Rattle.network_judge.proofs.Still.{on_within, simple}
use Rattle.network_machine.specs.Keeping.{PacketsComeTo, HeadComesTo, KeepsToRoutes, AllKeepToRoutes}

-- what holds of the changed channel and of all others holds of all
pub updates : (P : ℕ → NetLine → Type 0) (ls : ℕ → NetLine) (x : ℕ) (l : NetLine) → ((z : ℕ) → P z (ls z)) → P x l → (z : ℕ) → P z (update ls x l z)
updates P ls x l old new z = ⊎_elim
    (λ (e : z ≡ x). subst (λ (w : ℕ). P w (update ls x l w)) (sym e) (subst (λ (m : NetLine). P x m) (sym (update_same ls x l)) new))
    (λ (h : z ≢ x). subst (λ (m : NetLine). P z m) (sym (update_other ls x l z h)) (old z))
    (cases_eq z x)

-- the next channel of packets that come to a channel which is no ejection channel
pub record GoesOnTo (t : Table) (x j : ℕ) : Type 0 where
  pub comes : PacketsComeTo t (table_next t x j) j
  pub inside : table_next t x j < channels_of t
  pub apart : x ≢ table_next t x j

pub goes_on : (t : Table) (x j : ℕ) → PacketsComeTo t x j → is_receiver (kind_of t x) ≡ false → GoesOnTo t x j
goes_on t x j c input = elim (cases_lt c.step c.steps) [
  | inl low ↦
      let here : place t j c.from (suc c.step) ≡ table_next t x j = place_next t j c.from c.step ∙ ap (λ z. table_next t z j) c.here in
      record {
        comes = record { from = c.from; joined = c.joined; steps = c.steps; way = c.way; step = suc c.step; within = omega arith; here = here };
        inside = subst (λ z. z < channels_of t) here (on_within t c.from j c.steps c.way (suc c.step) (omega arith));
        apart = λ e. simple t c.from j c.steps c.way c.step (suc c.step) (omega arith) (omega arith) (c.here ∙ (e ∙ sym here));
      }
  | inr high ↦
      let same : c.step ≡ c.steps = let w = c.within in omega arith in
      let at : x ≡ j = sym c.here ∙ (ap (place t j c.from) same ∙ c.way.arrives) in
      let ends : is_receiver (kind_of t x) ≡ true = ap (λ z. is_receiver (kind_of t z)) at ∙ ap is_receiver c.way.under_way.receiver in
      absurd (cc)
]

module _ (t : Table) (number : ℕ → ℕ) (top depth : ℕ) where
  abbrev net : Net
  net = table_network t number top depth plain_format

  no_heads : (flits : List ℕ) → EndsWithTail net flits → All (λ flit. plain_format.is_head flit ≡ false) flits
  no_heads [] e = All-nil (λ flit. plain_format.is_head flit ≡ false)
  no_heads (flit ∷ flits) e = All-cons (λ flit. plain_format.is_head flit ≡ false) flit flits e.0 (no_heads flits e.2)

  one_more : (x flit : ℕ) (flits : List ℕ) → All (HeadComesTo t x) flits → HeadComesTo t x flit → All (HeadComesTo t x) (flits ++ flit ∷ [])
  one_more x flit flits old new = All-append (HeadComesTo t x) flits (flit ∷ []) old (All-cons (HeadComesTo t x) flit [] new (All-nil (HeadComesTo t x)))

  no_head : (x flit : ℕ) → plain_format.is_head flit ≡ false → HeadComesTo t x flit
  no_head x flit none is = absurd (cc)

  began : AllArrive t → (x : ℕ) (l : NetLine) (k : Parcel) → KeepsToRoutes t x l → CanInjectHead net l x k
      → KeepsToRoutes t x (record (put k.head l) { rest = k.tail })
  began arrive x l k keeps can = record {
    latched = keeps.latched;
    flits = one_more x k.head l.flits keeps.flits comes;
    rest = no_heads k.tail can.parcel.tail;
    owned = keeps.owned;
    apart = keeps.apart;
  }
    where
      comes : HeadComesTo t x k.head
      comes is = (let way = arrive k.source k.destination can.parcel.joined in
          subst (λ z. PacketsComeTo t x z) (sym can.parcel.told)
          (record { from = k.source; joined = can.parcel.joined; steps = way.0; way = way.1; step = 0; within = omega arith; here = can.source }))

  went_on : (x : ℕ) (l : NetLine) (flit : ℕ) (more : List ℕ) → KeepsToRoutes t x l → CanInjectRest net l x flit more
      → KeepsToRoutes t x (record (put flit l) { rest = more })
  went_on x l flit more keeps can =
      (let rest : All (λ flit. plain_format.is_head flit ≡ false) (flit ∷ more) = subst (All (λ flit. plain_format.is_head flit ≡ false)) can.course keeps.rest in
      record {
        latched = keeps.latched;
        flits = one_more x flit l.flits keeps.flits (no_head x flit (All-head (λ flit. plain_format.is_head flit ≡ false) flit more rest));
        rest = All-tail (λ flit. plain_format.is_head flit ≡ false) flit more rest;
        owned = keeps.owned;
        apart = keeps.apart;
      })

  first_keeps : (x : ℕ) (l : NetLine) (flit : ℕ) (more : List ℕ) → KeepsToRoutes t x l → l.flits ≡ flit ∷ more → HeadComesTo t x flit × All (HeadComesTo t x) more
  first_keeps x l flit more keeps first =
      (let flits : All (HeadComesTo t x) (flit ∷ more) = subst (All (HeadComesTo t x)) first keeps.flits in
      (All-head (HeadComesTo t x) flit more flits, All-tail (HeadComesTo t x) flit more flits))

  latches : (x : ℕ) (l : NetLine) (flit : ℕ) (more : List ℕ) → KeepsToRoutes t x l → l.flits ≡ flit ∷ more
      → KeepsToRoutes t x (record (taken more l) { latch = Some flit })
  latches x l flit more keeps first =
      (let both = first_keeps x l flit more keeps first in
      record {
        latched = λ f e. (let same : flit ≡ f = cc in subst (HeadComesTo t x) same both.0);
        flits = both.1;
        rest = keeps.rest;
        owned = keeps.owned;
        apart = keeps.apart;
      })

  takes : (x : ℕ) (l : NetLine) (flit : ℕ) (more so_far : List ℕ) → KeepsToRoutes t x l → l.flits ≡ flit ∷ more
      → KeepsToRoutes t x (record (taken more l) { so_far = so_far })
  takes x l flit more so_far keeps first = record {
    latched = keeps.latched;
    flits = (first_keeps x l flit more keeps first).1;
    rest = keeps.rest;
    owned = keeps.owned;
    apart = keeps.apart;
  }

  leaves : (x : ℕ) (l : NetLine) → KeepsToRoutes t x l → KeepsToRoutes t x (unlatched l)
  leaves x l keeps = record {
    latched = λ f e. absurd (cc);
    flits = keeps.flits;
    rest = keeps.rest;
    owned = keeps.owned;
    apart = keeps.apart;
  }

  tail_owner : (b : Bool) (x z : ℕ) → cond b None (Some x) ≡ Some z → x ≡ z
  tail_owner true x z e = absurd (cc)
  tail_owner false x z e = cc

  enters : (x y flit : ℕ) (m : NetLine) → KeepsToRoutes t y m → HeadComesTo t y flit → y < channels_of t → x ≢ y
      → KeepsToRoutes t y (forwarded net x flit m)
  enters x y flit m keeps comes inside apart = record {
    latched = keeps.latched;
    flits = one_more y flit m.flits keeps.flits comes;
    rest = keeps.rest;
    owned = λ z e. inside;
    apart = λ z e same. apart (tail_owner (plain_format.is_tail flit) x z e ∙ same);
  }

  comes_back : (x : ℕ) (l : NetLine) → KeepsToRoutes t x l → KeepsToRoutes t x (credited l)
  comes_back x l keeps = record { latched = keeps.latched; flits = keeps.flits; rest = keeps.rest; owned = keeps.owned; apart = keeps.apart }

  both : (ls : ℕ → NetLine) (x y flit : ℕ) → AllKeepToRoutes t ls → HeadComesTo t y flit → y < channels_of t → x ≢ y
      → AllKeepToRoutes t (update (update ls x (unlatched (ls x))) y (forwarded net x flit (ls y)))
  both ls x y flit keeps comes inside apart =
      updates (KeepsToRoutes t) (update ls x (unlatched (ls x))) y (forwarded net x flit (ls y))
      (updates (KeepsToRoutes t) ls x (unlatched (ls x)) keeps (leaves x (ls x) (keeps x)))
      (enters x y flit (ls y) (keeps y) comes inside apart)

  -- where a head flit in a latch goes
  pub head_goes : (ls : ℕ → NetLine) (x flit : ℕ) → AllKeepToRoutes t ls → is_receiver (kind_of t x) ≡ false → (ls x).latch ≡ Some flit
      → plain_format.is_head flit ≡ true → GoesOnTo t x (plain_format.told flit)
  head_goes ls x flit keeps input full head = goes_on t x (plain_format.told flit) ((keeps x).latched flit full head) input

  pub keeps_on : AllArrive t → (ls : ℕ → NetLine) (e : NetEvent) → AllKeepToRoutes t ls → CanHappen net ls e → AllKeepToRoutes t (lines_after net ls e)
  keeps_on arrive ls (InjectHead x k) keeps can =
      updates (KeepsToRoutes t) ls x (record (put k.head (ls x)) { rest = k.tail }) keeps (began arrive x (ls x) k (keeps x) can)
  keeps_on arrive ls (InjectRest x flit more) keeps can =
      updates (KeepsToRoutes t) ls x (record (put flit (ls x)) { rest = more }) keeps (went_on x (ls x) flit more (keeps x) can)
  keeps_on arrive ls (Latch x flit more) keeps can =
      updates (KeepsToRoutes t) ls x (record (taken more (ls x)) { latch = Some flit }) keeps (latches x (ls x) flit more (keeps x) can.first)
  keeps_on arrive ls (ForwardHead x y flit) keeps can =
      (let goes = head_goes ls x flit keeps can.input can.full can.head in
      both ls x y flit keeps (λ head. subst (λ z. PacketsComeTo t z (plain_format.told flit)) (sym can.output) goes.comes)
      (subst (λ z. z < channels_of t) (sym can.output) goes.inside) (λ e. goes.apart (e ∙ can.output)))
  keeps_on arrive ls (ForwardRest x y flit) keeps can =
      both ls x y flit keeps (no_head y flit can.rest) ((keeps y).owned x can.owned) ((keeps y).apart x can.owned)
  keeps_on arrive ls (AcceptHead x flit more) keeps can =
      updates (KeepsToRoutes t) ls x (accepted net flit more (ls x)) keeps (takes x (ls x) flit more _ (keeps x) can.first)
  keeps_on arrive ls (AcceptRest x flit more) keeps can =
      updates (KeepsToRoutes t) ls x (accepted net flit more (ls x)) keeps (takes x (ls x) flit more _ (keeps x) can.first)
  keeps_on arrive ls (Return x) keeps can =
      updates (KeepsToRoutes t) ls x (credited (ls x)) keeps (comes_back x (ls x) (keeps x))

  pub empty_keeps : (x : ℕ) → KeepsToRoutes t x (empty_line net)
  empty_keeps x = record {
    latched = λ flit e. absurd (cc);
    flits = All-nil (HeadComesTo t x);
    rest = All-nil (λ flit. plain_format.is_head flit ≡ false);
    owned = λ z e. absurd (cc);
    apart = λ z e. absurd (cc);
  }
