-- The flit in a latch, and where it goes.
use Rattle.std.proofs.Common.{◌≡◌, ◌≢◌, ℕ, ◌<◌, Bool, true, false, List, [], ◌∷◌, length, Option, Some, None, sym, ◌∙◌, ap, subst, arith}
use Rattle.std.specs.Prelude.{slice_index_or}
use Rattle.wormhole.specs.State.{NetState}
use Rattle.wormhole.specs.Events.{NetEvent, ForwardHead, ForwardRest, CanHappen}
use Rattle.network_judge.specs.Table.{channels_of, kind_of, table_next, is_receiver}
use Rattle.network_judge.specs.LockUps.{plain_format}
use Rattle.network_machine.specs.declared.channel.Channel.{Channel}
use Rattle.network_machine.specs.declared.moves.Move.TheVariants.{Put}
use Rattle.network_machine.specs.Lines.{ShowsLine}
use Rattle.network_machine.specs.Moves.{event_move}
use Rattle.network_machine.specs.Machine.{NetworkMachineSpec, ShowsNetwork, plain_network, Prevents}
use Rattle.network_machine.specs.Outputs.{IsOwnedBy, HasNoOutput, IsLatched, IsWayOut}
use Rattle.network_machine.specs.Forwards.{forward}
use Rattle.network_machine.proofs.Which.{only_put}
use Rattle.network_machine.proofs.Keeping.{head_goes}

-- a channel of a list that has one
pub some_channel : (cs : List Channel) (x : ℕ) → x < length cs → Channel
some_channel [] x here = absurd (omega arith)
some_channel (c ∷ cs) x here = c

-- what a state that is shown has at a channel
pub line_at : (m : NetworkMachineSpec) (s : NetState) → ShowsNetwork m s → (x : ℕ) → x < length m.channels → (c : Channel) → c ≡ slice_index_or m.channels x c
    → ShowsLine (s.lines x) c
line_at m s shows x here c at = subst (ShowsLine (s.lines x)) (sym at) (shows.lines x c here)

module _ (m : NetworkMachineSpec) (x : ℕ) where
  pub receivers_put_nothing : is_receiver (kind_of m.table x) ≡ true → Prevents m (Put x)
  receivers_put_nothing ends number top depth s shows e can =
      only_put (λ e. CanHappen (plain_network m.table number top depth) s.lines e → ⊥) x
      (λ y flit may. (let input = may.input in absurd (cc))) (λ y flit may. (let input = may.input in absurd (cc))) e can.is can.may

  pub empty_latches_put_nothing : (c : Channel) → x < length m.channels → c ≡ slice_index_or m.channels x c → c.latch ≡ None → Prevents m (Put x)
  empty_latches_put_nothing c here at free number top depth s shows e can =
      (let line = (line_at m s shows x here c at).latch in
      only_put (λ e. CanHappen (plain_network m.table number top depth) s.lines e → ⊥) x
      (λ y flit may. (let full = may.full in absurd (cc))) (λ y flit may. (let full = may.full in absurd (cc))) e can.is can.may)

  -- what stands in the latch of a state that is shown
  pub latch_of : (flit : ℕ) → IsLatched m.table m.channels x flit → (c : Channel) → (s : NetState) → ShowsNetwork m s → (s.lines x).latch ≡ Some flit
  latch_of flit is c s shows = (shows.lines x c is.here).latch ∙ is.full c

  same_flit : (a b : ℕ) (o : Option ℕ) → o ≡ Some a → o ≡ Some b → a ≡ b
  same_flit a b o p q = cc

  pub owned_of : (c : Channel) (s : NetState) → ShowsNetwork m s → (y : ℕ) → y < length m.channels → x ≢ y → (s.lines y).owner ≡ Some x → 0 < (s.lines y).held
      → IsOwnedBy m.channels x y
  owned_of c s shows y there apart owner credit = record {
    here = there;
    apart = apart;
    owner = λ d. sym (shows.lines y d there).owner ∙ owner;
    credit = λ d. subst (λ n. 0 < n) (shows.lines y d there).held credit;
  }

  pub no_output_puts_nothing : (flit : ℕ) → length m.channels ≡ channels_of m.table → IsLatched m.table m.channels x flit
      → HasNoOutput m.table m.channels x flit → Prevents m (Put x)
  no_output_puts_nothing flit size is none number top depth s shows e can =
      only_put (λ e. CanHappen (plain_network m.table number top depth) s.lines e → ⊥) x
      (λ y f may. (let same : f ≡ flit = same_flit f flit _ may.full (latch_of flit is (some_channel m.channels x is.here) s shows) in
      let head : plain_format.is_head flit ≡ true = subst (λ z. plain_format.is_head z ≡ true) same may.head in
      let goes = head_goes m.table number top depth s.lines x flit shows.keep is.input (latch_of flit is (some_channel m.channels x is.here) s shows) head in
      none.head head (subst (λ z. x < z) size is.here)
      goes.comes.way.under_way.receiver
      (subst (λ z. table_next m.table x (plain_format.told flit) < z) (sym size) goes.inside) goes.apart))
      (λ y f may. (let same : f ≡ flit = same_flit f flit _ may.full (latch_of flit is (some_channel m.channels x is.here) s shows) in
      none.rest (subst (λ z. plain_format.is_head z ≡ false) same may.rest) y
      (owned_of (some_channel m.channels x is.here) s shows y (subst (λ z. y < z) (sym size) ((shows.keep y).owned x may.owned)) ((shows.keep y).apart x may.owned) may.owned may.credit)))
      e can.is can.may

  -- whatever event puts the flit, the one by its output does
  pub same_way : (flit y : ℕ) → IsWayOut m.table m.channels x flit y → (c : Channel) (number : ℕ → ℕ) (top depth : ℕ) (s : NetState) → ShowsNetwork m s
      → (bit : Bool) → plain_format.is_head flit ≡ bit
      → (e : NetEvent) → event_move e ≡ Put x → CanHappen (plain_network m.table number top depth) s.lines e
      → CanHappen (plain_network m.table number top depth) s.lines (forward bit x y flit)
  same_way flit y way c number top depth s shows true head e is can =
      only_put (λ e. CanHappen (plain_network m.table number top depth) s.lines e → CanHappen (plain_network m.table number top depth) s.lines (ForwardHead x y flit)) x
      (λ z f may. (let same : f ≡ flit = same_flit f flit _ may.full (latch_of flit way.0 c s shows) in
      let at : z ≡ y = may.output ∙ (ap (λ w. table_next m.table x (plain_format.told w)) same ∙ sym (way.1.head head)) in
      record {
        here = may.here;
        input = may.input;
        full = latch_of flit way.0 c s shows;
        head = head;
        output = way.1.head head;
        free = subst (λ w. (s.lines w).owner ≡ None) at may.free;
        credit = subst (λ w. 0 < (s.lines w).held) at may.credit;
      }))
      (λ z f may. (let same : f ≡ flit = same_flit f flit _ may.full (latch_of flit way.0 c s shows) in
      let rest : plain_format.is_head flit ≡ false = subst (λ w. plain_format.is_head w ≡ false) same may.rest in absurd (cc)))
      e is can
  same_way flit y way c number top depth s shows false head e is can =
      only_put (λ e. CanHappen (plain_network m.table number top depth) s.lines e → CanHappen (plain_network m.table number top depth) s.lines (ForwardRest x y flit)) x
      (λ z f may. (let same : f ≡ flit = same_flit f flit _ may.full (latch_of flit way.0 c s shows) in
      let rest : plain_format.is_head flit ≡ true = subst (λ w. plain_format.is_head w ≡ true) same may.head in absurd (cc)))
      (λ z f may. (let own = way.1.rest head in
      record {
        here = may.here;
        input = may.input;
        full = latch_of flit way.0 c s shows;
        rest = head;
        owned = (shows.lines y c own.here).owner ∙ own.owner c;
        credit = subst (λ n. 0 < n) (sym (shows.lines y c own.here).held) (own.credit c);
      }))
      e is can
