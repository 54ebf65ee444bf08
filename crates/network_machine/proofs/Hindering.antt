-- What hinders a move, and what doesn't.
use Rattle.std.proofs.Common.{◌≡◌, ℕ, ◌<◌, Bool, true, false, cond, List, ◌∷◌, length, Option, Some, None, refl, sym, ◌∙◌, ap, subst, arith}
use Rattle.std.specs.Prelude.{slice_index_or}
use Rattle.wormhole.specs.State.{NetLine, NetState}
use Rattle.wormhole.specs.Events.{NetEvent, InjectHead, InjectRest, Latch, ForwardHead, ForwardRest, AcceptHead, AcceptRest, Return, CanHappen}
use Rattle.network_judge.specs.Table.{channels_of, kind_of, is_receiver, is_sender, joins_of}
use Rattle.network_judge.specs.declared.table.Kind.TheVariants.{Injection}
use Rattle.network_judge.specs.Verdicts.{AllArrive}
use Rattle.network_judge.specs.Replies.{IsReply, AreReplies}
use Rattle.std.proofs.lemmas.Option.{slice_get_within}
use Rattle.network_judge.specs.LockUps.{plain_format}
use Rattle.network_machine.specs.declared.channel.Channel.{Channel}
use Rattle.network_machine.specs.declared.moves.Packet.{Packet}
use Rattle.network_machine.specs.declared.moves.Hindrance.{Hindrance}
use Rattle.network_machine.specs.declared.moves.Move.TheVariants.{Send, More, Take, Put, Accept, Credit}
use Rattle.network_machine.specs.Lines.{ShowsLine}
use Rattle.network_machine.specs.Lets.{LetsTake, LetsReturn, LetsAccept, LetsBegin, LetsGoOn}
use Rattle.network_machine.specs.Moves.{CanMove}
use Rattle.network_machine.specs.Packets.{packet_of}
use Rattle.network_machine.specs.Machine.{NetworkMachineSpec, ShowsNetwork, plain_network, Prevents, Permits, Settles}
use Rattle.network_machine.specs.Outputs.{LacksAnswer, HasAnswers, IsWayOut}
use Rattle.network_machine.specs.Forwards.{forward}
use Rattle.network_machine.proofs.Which.{only_send, only_more, only_take, only_accept, only_credit}
use Rattle.network_machine.proofs.Packets.{is_parcel, packet_length}
use Rattle.network_machine.proofs.Puts.{line_at, same_way, latch_of}
use Rattle.network_machine.proofs.Forwards.{needs_credit, needs_owner}

-- what the channel at x lets happen, its line does
module _ (m : NetworkMachineSpec) (size : length m.channels ≡ channels_of m.table) (x : ℕ) (here : x < length m.channels) (c : Channel) (at : c ≡ slice_index_or m.channels x c) where
  inside : x < channels_of m.table
  inside = subst (λ z. x < z) size here

  pub takes_settle : is_receiver (kind_of m.table x) ≡ false → (r : Option Hindrance) → ((l : NetLine) → ShowsLine l c → LetsTake l r) → Settles m (Take x) r
  takes_settle input None lets = λ number top depth s shows.
      (let l = lets (s.lines x) (line_at m s shows x here c at) in
      (Latch x l.0 l.1, record { is = refl; may = record { here = inside; input = input; free = l.2; first = l.3 }; answers = tt }))
  takes_settle input (Some h) lets = λ number top depth s shows e can.
      only_take (λ e. CanHappen (plain_network m.table number top depth) s.lines e → ⊥) x
      (λ flit more may. lets (s.lines x) (line_at m s shows x here c at) flit more may.free may.first) e can.is can.may

  pub goes_on_settle : is_sender (kind_of m.table x) ≡ true → (r : Option Hindrance) → ((l : NetLine) → ShowsLine l c → LetsGoOn l r) → Settles m (More x) r
  goes_on_settle sends None lets = λ number top depth s shows.
      (let l = lets (s.lines x) (line_at m s shows x here c at) in
      (InjectRest x l.0 l.1, record { is = refl; may = record { here = inside; injects = sends; course = l.2; credit = l.3 }; answers = tt }))
  goes_on_settle sends (Some h) lets = λ number top depth s shows e can.
      only_more (λ e. CanHappen (plain_network m.table number top depth) s.lines e → ⊥) x
      (λ flit more may. lets (s.lines x) (line_at m s shows x here c at) flit more may.course may.credit) e can.is can.may

  pub credits_settle : (r : Option Hindrance) → ((l : NetLine) → ShowsLine l c → LetsReturn l r) → Settles m (Credit x) r
  credits_settle None lets = λ number top depth s shows.
      (Return x, record { is = refl; may = record { here = inside; returns = lets (s.lines x) (line_at m s shows x here c at) }; answers = tt })
  credits_settle (Some h) lets = λ number top depth s shows e can.
      only_credit (λ e. CanHappen (plain_network m.table number top depth) s.lines e → ⊥) x
      (λ may. lets (s.lines x) (line_at m s shows x here c at) may.returns) e can.is can.may

  accepting : is_receiver (kind_of m.table x) ≡ true → (flit : ℕ) (more : List ℕ) (number : ℕ → ℕ) (top depth : ℕ) (s : NetState)
      → (s.lines x).flits ≡ flit ∷ more → ((y : ℕ) → IsReply m.replies x y → 0 < (s.lines y).held) → (bit : Bool) → plain_format.is_head flit ≡ bit
      → (e : NetEvent) × CanMove (plain_network m.table number top depth) m.replies s.lines (Accept x) e
  accepting ends flit more number top depth s first answers true head =
      (AcceptHead x flit more, record { is = refl; may = record { here = inside; ejects = ends; first = first; head = head }; answers = answers })
  accepting ends flit more number top depth s first answers false head =
      (AcceptRest x flit more, record { is = refl; may = record { here = inside; ejects = ends; first = first; head = head }; answers = answers })

  answered : AreReplies m.table m.replies → HasAnswers m.replies m.channels x → (s : NetState) → ShowsNetwork m s
      → (y : ℕ) → IsReply m.replies x y → y < length m.channels → 0 < (s.lines y).held
  answered replies has s shows y reply there = subst (λ n. 0 < n) (sym (shows.lines y c there).held) (has y c reply there)

  pub accepts_settle : AreReplies m.table m.replies → is_receiver (kind_of m.table x) ≡ true → HasAnswers m.replies m.channels x
      → (r : Option Hindrance) → ((l : NetLine) → ShowsLine l c → LetsAccept l r) → Settles m (Accept x) r
  accepts_settle replies ends has None lets = λ number top depth s shows.
      (let l = lets (s.lines x) (line_at m s shows x here c at) in
      accepting ends l.0 l.1 number top depth s l.2
      (λ y reply. answered replies has s shows y reply (subst (λ z. y < z) (sym size) (slice_get_within m.table.kinds y Injection (replies x y reply).1)))
      (plain_format.is_head l.0) refl)
  accepts_settle replies ends has (Some h) lets = λ number top depth s shows e can.
      only_accept (λ e. CanHappen (plain_network m.table number top depth) s.lines e → ⊥) x
      (λ flit more may. lets (s.lines x) (line_at m s shows x here c at) flit more may.first)
      (λ flit more may. lets (s.lines x) (line_at m s shows x here c at) flit more may.first) e can.is can.may

-- hindrances by kinds, pairs and answers
module _ (m : NetworkMachineSpec) where
  pub no_senders_go_on : (x : ℕ) → is_sender (kind_of m.table x) ≡ false → Prevents m (More x)
  no_senders_go_on x none number top depth s shows e can =
      only_more (λ e. CanHappen (plain_network m.table number top depth) s.lines e → ⊥) x (λ flit more may. (let sends = may.injects in absurd (cc))) e can.is can.may

  pub receivers_take_nothing : (x : ℕ) → is_receiver (kind_of m.table x) ≡ true → Prevents m (Take x)
  receivers_take_nothing x ends number top depth s shows e can =
      only_take (λ e. CanHappen (plain_network m.table number top depth) s.lines e → ⊥) x (λ flit more may. (let input = may.input in absurd (cc))) e can.is can.may

  pub no_receivers_accept : (x : ℕ) → is_receiver (kind_of m.table x) ≡ false → Prevents m (Accept x)
  no_receivers_accept x none number top depth s shows e can =
      only_accept (λ e. CanHappen (plain_network m.table number top depth) s.lines e → ⊥) x (λ flit more may. (let ends = may.ejects in absurd (cc)))
      (λ flit more may. (let ends = may.ejects in absurd (cc))) e can.is can.may

  pub without_answers : (x y : ℕ) → (d : Channel) → LacksAnswer m.replies m.channels x y → Prevents m (Accept x)
  without_answers x y d lacks number top depth s shows e can =
      (let credit = can.answers y lacks.reply in
      let held = (shows.lines y d lacks.here).held in
      let none = lacks.none d in
      absurd (omega arith))

  pub not_joined : (p : Packet) → joins_of m.table p.from p.to ≡ false → Prevents m (Send p)
  not_joined p none number top depth s shows e can =
      only_send (λ e. CanHappen (plain_network m.table number top depth) s.lines e → ⊥) p
      (λ k to count may. (let joined : joins_of m.table p.from p.to ≡ true =
      subst (λ z. joins_of m.table z p.to ≡ true) may.source (subst (λ z. joins_of m.table k.source z ≡ true) to may.parcel.joined) in absurd (cc))) e can.is can.may

  pub no_flits : (p : Packet) → p.length ≡ 0 → Prevents m (Send p)
  no_flits p none number top depth s shows e can =
      only_send (λ e. CanHappen (plain_network m.table number top depth) s.lines e → ⊥) p (λ k to count may. omega (arith, count)) e can.is can.may

  pub sends_settle : (p : Packet) → length m.channels ≡ channels_of m.table → AllArrive m.table → p.from < length m.channels → joins_of m.table p.from p.to ≡ true → 0 < p.length
      → (c : Channel) → c ≡ slice_index_or m.channels p.from c
      → (r : Option Hindrance) → ((l : NetLine) → ShowsLine l c → LetsBegin l r) → Settles m (Send p) r
  sends_settle p size arrive here joined some c at None lets = λ number top depth s shows.
      (let l = lets (s.lines p.from) (line_at m s shows p.from here c at) in
      let way = (arrive p.from p.to joined).1 in (
        InjectHead p.from (packet_of p.from p.to p.length),
        record {
          is = ap (λ z. Send (record { from = p.from; to = p.to; length = z })) (packet_length p.from p.to p.length some);
          may = record {
            here = subst (λ z. p.from < z) size here;
            injects = ap is_sender way.under_way.sender;
            idle = l.0;
            credit = l.1;
            parcel = is_parcel m.table number top depth p.from p.to p.length joined some;
            source = refl;
          };
          answers = tt;
        },
      ))
  sends_settle p size arrive here joined some c at (Some h) lets = λ number top depth s shows e can.
      only_send (λ e. CanHappen (plain_network m.table number top depth) s.lines e → ⊥) p
      (λ k to count may. lets (s.lines p.from) (line_at m s shows p.from here c at) may.idle may.credit) e can.is can.may

-- the flit in a latch, and its output
module _ (m : NetworkMachineSpec) (x flit y : ℕ) (way : IsWayOut m.table m.channels x flit y) (size : length m.channels ≡ channels_of m.table) (c : Channel) (at : c ≡ slice_index_or m.channels y c) where
  by_one_way : (number : ℕ → ℕ) (top depth : ℕ) (s : NetState) → ShowsNetwork m s → (e : NetEvent) → CanMove (plain_network m.table number top depth) m.replies s.lines (Put x) e
      → CanHappen (plain_network m.table number top depth) s.lines (forward (plain_format.is_head flit) x y flit)
  by_one_way number top depth s shows e can = same_way m x flit y way c number top depth s shows (plain_format.is_head flit) refl e can.is can.may

  pub no_credit_puts_nothing : c.held ≡ 0 → Prevents m (Put x)
  no_credit_puts_nothing none number top depth s shows e can =
      (let credit = needs_credit (plain_network m.table number top depth) s.lines x y flit (plain_format.is_head flit) (by_one_way number top depth s shows e can) in
      let held = (line_at m s shows y way.1.there c at).held in
      absurd (omega arith))

  pub owned_puts_nothing : (owner : ℕ) → plain_format.is_head flit ≡ true → c.owner ≡ Some owner → Prevents m (Put x)
  owned_puts_nothing owner head owned number top depth s shows e can =
      (let free = needs_owner (plain_network m.table number top depth) s.lines x y flit (plain_format.is_head flit) (by_one_way number top depth s shows e can) in
      let line = (line_at m s shows y way.1.there c at).owner in
      let none : cond (plain_format.is_head flit) None (Some x) ≡ None = ap (λ b. cond b None (Some x)) head in
      absurd (cc))

  pub rests_go : plain_format.is_head flit ≡ false → Permits m (Put x)
  rests_go rest number top depth s shows =
      (let own = way.1.rest rest in (
        ForwardRest x y flit,
        record {
          is = refl;
          may = record {
            here = subst (λ z. x < z) size way.0.here;
            input = way.0.input;
            full = latch_of m x flit way.0 c s shows;
            rest = rest;
            owned = (shows.lines y c own.here).owner ∙ own.owner c;
            credit = subst (λ n. 0 < n) (sym (shows.lines y c own.here).held) (own.credit c);
          };
          answers = tt;
        },
      ))

  pub heads_go : plain_format.is_head flit ≡ true → c.owner ≡ None → 0 < c.held → Permits m (Put x)
  heads_go head free credit number top depth s shows =
      (let line = line_at m s shows y way.1.there c at in (
        ForwardHead x y flit,
        record {
          is = refl;
          may = record {
            here = subst (λ z. x < z) size way.0.here;
            input = way.0.input;
            full = latch_of m x flit way.0 c s shows;
            head = head;
            output = way.1.head head;
            free = line.owner ∙ free;
            credit = subst (λ n. 0 < n) (sym line.held) credit;
          };
          answers = tt;
        },
      ))
