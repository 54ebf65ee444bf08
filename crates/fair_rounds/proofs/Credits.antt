-- The credit for which a put waits is one of the same agent's output.
use Rattle.std.proofs.Common.{◌≡◌, ℕ, ◌<◌, Bool, true, false, List, [], ◌∷◌, Option, Some, None, sym, ap, ◌∙◌, refl, arith, subst}
use Rattle.std.specs.Prelude.{if◌then◌else◌, option_map, nat_lt, is_none, ◌&&◌, not}
use Rattle.std.proofs.lemmas.Bool.{lt-ltb, ltb-true}
use Rattle.std.proofs.lemmas.Option.{same_Some}
use Rattle.torus.specs.Shape.{tiles_of, dims_of}
use Rattle.torus.specs.declared.step.Choice.{Choice}
use Rattle.torus.specs.declared.step.Choice.TheVariants as choice
use Rattle.packet.specs.declared.heading.Head.{Head}
use Rattle.packet.specs.declared.kinds.Op.TheVariants.{Add}
use Rattle.packet.specs.declared.kinds.Request.{Request as Asking}
use Rattle.packet.specs.Flits.{head_of}
use Rattle.home_bank.specs.ServiceList.{address_of}
use Rattle.channel_number.specs.Ports.{port_count}
use Rattle.flit_buffer.specs.declared.want.Want.TheVariants as want
use Rattle.flit_buffer.specs.Channel as channel
use Rattle.one_order.specs.Following.{is_finished}
use Rattle.one_order.specs.ProcessorRecord.{ready}
use Rattle.one_order.specs.ProcessorTable.{flits_due}
use Rattle.router.specs.Table.{latch_of, output_for, is_owned, way_of, wants_to_take, wants_to_put}
use Rattle.home_bank.specs.BankTable.{is_nil}
use Rattle.wormhole.specs.State.{NetLine}
use Rattle.tile.specs.Tile.{Design, TileState}
use Rattle.tile.specs.declared.agent.Agent.{Agent}
use Rattle.tile.specs.declared.agent.Agent.TheVariants.{Processor, Router, Bank}
use Rattle.tile.specs.Agents.{tile_wants}
use Rattle.core_laws.specs.Core.{State}
use Rattle.core_laws.proofs.Projection.{net_of}
use Rattle.core_laws.proofs.RouterWork.{if_so}
use Rattle.core_laws.proofs.Wires.{FlitsTell}
use Rattle.core_laws.proofs.Stands.{Mirrors, tile_at}
use Rattle.fair_rounds.specs.Charges.{charge}
use Rattle.machine_core.specs.Guarded.{is_begin}

-- a choice that counts less than 2 begins nothing
pub few_plain : (k : Agent) (c : Choice) (l : List ℕ) → charge k c < 2 → is_begin k c l ≡ false
few_plain Processor choice.Send l few = absurd (omega (arith, few))
few_plain Processor choice.Take l few = refl
few_plain Processor choice.Credit l few = refl
few_plain Processor choice.Done l few = refl
few_plain Processor choice.Look l few = refl
few_plain Processor (choice.TakeFrom i) l few = refl
few_plain Processor (choice.Put i) l few = refl
few_plain Processor (choice.CreditOf i) l few = refl
few_plain Processor choice.Serve l few = refl
few_plain Router c l few = refl
few_plain Bank c l few = refl

-- a router puts on one of its outputs
module _ (d : Design) (s : State) (lines : ℕ → NetLine) (mirrors : Mirrors d s lines) (tell : FlitsTell d s) (t : ℕ) (here : t < tiles_of d.shape) where
  by_owned : (b : Bool) (way o : ℕ) → (if b then None else Some way) ≡ Some o → o ≡ way
  by_owned true way o h = absurd (cc)
  by_owned false way o h = cc

  by_head : (i flit o : ℕ) → i < port_count (dims_of d.shape) → latch_of (tile_at s t).router i ≡ Some flit → (head : Head) → head_of flit ≡ Some head
      → (b : Bool) → (net_of d).is_head flit ≡ b
      → (if is_owned (tile_at s t).router (way_of d.shape t i head) then None else Some (way_of d.shape t i head)) ≡ Some o → o < port_count (dims_of d.shape)
  by_head i flit o low latched head told false bit h =
      let none = tell.rests flit bit in
      let no : ◌≡◌ {A = Option Head} (Some head) None = sym told ∙ none in
      absurd (cc)
  by_head i flit o low latched head told true bit h =
      let at = tell.heads t i flit here low latched bit in
      let same : at.head ≡ head = same_Some at.head head (sym at.told ∙ told) in
      let is = by_owned (is_owned (tile_at s t).router (way_of d.shape t i head)) (way_of d.shape t i head) o h in
      subst (λ (n : ℕ). n < port_count (dims_of d.shape)) (ap (way_of d.shape t i) same ∙ sym is) at.low

  by_told : (i flit o : ℕ) → i < port_count (dims_of d.shape) → latch_of (tile_at s t).router i ≡ Some flit → (head : Option Head) → head_of flit ≡ head
      → output_for d.shape t (tile_at s t).router i head ≡ Some o → o < port_count (dims_of d.shape)
  by_told i flit o low latched None told h = mirrors.outputs t i o here h
  by_told i flit o low latched (Some head) told h = by_head i flit o low latched head told ((net_of d).is_head flit) refl h

  by_output : (i flit o f : ℕ) (r : Option ℕ) → option_map (λ o. want.Put o flit) r ≡ Some (want.Put o f) → r ≡ Some o
  by_output i flit o f None h = absurd (cc)
  by_output i flit o f (Some p) h = cc

  by_latch : (i o f : ℕ) (l : Option ℕ) → i < port_count (dims_of d.shape) → latch_of (tile_at s t).router i ≡ l
      → wants_to_put d.shape t (tile_at s t).router i l ≡ Some (want.Put o f) → o < port_count (dims_of d.shape)
  by_latch i o f None low latched h = absurd (cc)
  by_latch i o f (Some flit) low latched h =
      by_told i flit o low latched (head_of flit) refl (by_output i flit o f (output_for d.shape t (tile_at s t).router i (head_of flit)) h)

  take_no_put : (i o f : ℕ) (l : Option ℕ) → wants_to_take d.shape t i l ≡ Some (want.Put o f) → ⊥
  take_no_put i o f None h = cc
  take_no_put i o f (Some x) h = cc

  pub output_low : (k : Agent) (c : Choice) (o f : ℕ) → tile_wants d t (tile_at s t) k c ≡ Some (want.Put o f) → k ≡ Router → o < port_count (dims_of d.shape)
  output_low Processor c o f h is = absurd (cc)
  output_low Bank c o f h is = absurd (cc)
  output_low Router (choice.Put i) o f h is =
      let so = if_so (nat_lt i (port_count (dims_of d.shape))) (wants_to_put d.shape t (tile_at s t).router i (latch_of (tile_at s t).router i)) (want.Put o f) h in
      by_latch i o f (latch_of (tile_at s t).router i) (ltb-true i (port_count (dims_of d.shape)) so.0) refl so.1
  output_low Router (choice.TakeFrom i) o f h is =
      absurd (take_no_put i o f (latch_of (tile_at s t).router i)
      (if_so (nat_lt i (port_count (dims_of d.shape))) (wants_to_take d.shape t i (latch_of (tile_at s t).router i)) (want.Put o f) h).1)
  output_low Router (choice.CreditOf i) o f h is =
      let no = (if_so (nat_lt i (port_count (dims_of d.shape))) (Some (want.Credit i)) (want.Put o f) h).1 in absurd (cc)
  output_low Router choice.Send o f h is = absurd (cc)
  output_low Router choice.Take o f h is = absurd (cc)
  output_low Router choice.Credit o f h is = absurd (cc)
  output_low Router choice.Done o f h is = absurd (cc)
  output_low Router choice.Look o f h is = absurd (cc)
  output_low Router choice.Serve o f h is = absurd (cc)

-- the choice of the credit
pub record HasCredit (d : Design) (t : ℕ) (k : Agent) (o : ℕ) : Type 0 where
  pub choice : Choice
  pub idle : charge k choice ≡ 0
  pub takes : (u : TileState) → tile_wants d t u k choice ≡ Some (want.Credit o)

first_put : (l : List ℕ) (o f : ℕ) → option_map (λ flit. want.Put 0 flit) (channel.first_of l) ≡ Some (want.Put o f) → 0 ≡ o
first_put [] o f h = absurd (cc)
first_put (x ∷ xs) o f h = cc

module _ (d : Design) (t : ℕ) (u : TileState) where
  by_request : (r : Option Asking) (o f : ℕ) → option_map (λ (r : Asking). want.Access (address_of t (tiles_of d.shape) r.word) r.op) r ≡ Some (want.Put o f) → ⊥
  by_request None o f h = cc
  by_request (Some r) o f h = cc

  of_processor : (o : ℕ) → 0 ≡ o → HasCredit d t Processor o
  of_processor o is = record { choice = choice.Credit; idle = refl; takes = λ v. ap (λ n. Some (want.Credit n)) is }

  of_bank : (o : ℕ) → 0 ≡ o → HasCredit d t Bank o
  of_bank o is = record { choice = choice.Credit; idle = refl; takes = λ v. ap (λ n. Some (want.Credit n)) is }

  pub has_credit : (k : Agent) (c : Choice) (o f : ℕ) → tile_wants d t u k c ≡ Some (want.Put o f) → (k ≡ Router → o < port_count (dims_of d.shape)) → HasCredit d t k o
  has_credit Router c o f h low = record {
    choice = choice.CreditOf o;
    idle = refl;
    takes = λ v. ap (λ b. if b then Some (want.Credit o) else None) (lt-ltb o (port_count (dims_of d.shape)) (low refl));
  }
  has_credit Processor choice.Send o f h low =
      of_processor o (first_put (flits_due (tiles_of d.shape) d.words t u.processor.to_put (ready u.processor.operations)) o f h)
  has_credit Processor choice.Take o f h low = absurd (cc)
  has_credit Processor choice.Credit o f h low = absurd (cc)
  has_credit Processor choice.Done o f h low =
      let no = (if_so (is_finished u.processor.operations.following && not u.processor.reported) (Some (want.Access d.words (Add 1))) (want.Put o f) h).1 in absurd (cc)
  has_credit Processor choice.Look o f h low =
      let no = (if_so (u.processor.reported && not u.processor.seen) (Some (want.Await d.words (tiles_of d.shape))) (want.Put o f) h).1 in absurd (cc)
  has_credit Processor (choice.TakeFrom i) o f h low = absurd (cc)
  has_credit Processor (choice.Put i) o f h low = absurd (cc)
  has_credit Processor (choice.CreditOf i) o f h low = absurd (cc)
  has_credit Processor choice.Serve o f h low = absurd (cc)
  has_credit Bank choice.Take o f h low =
      let no = (if_so (is_none u.bank.waiting && is_nil u.bank.to_put) (Some (want.Take 0)) (want.Put o f) h).1 in absurd (cc)
  has_credit Bank choice.Serve o f h low = absurd (by_request u.bank.waiting o f h)
  has_credit Bank choice.Send o f h low = of_bank o (first_put u.bank.to_put o f h)
  has_credit Bank choice.Credit o f h low = absurd (cc)
  has_credit Bank choice.Done o f h low = absurd (cc)
  has_credit Bank choice.Look o f h low = absurd (cc)
  has_credit Bank (choice.TakeFrom i) o f h low = absurd (cc)
  has_credit Bank (choice.Put i) o f h low = absurd (cc)
  has_credit Bank (choice.CreditOf i) o f h low = absurd (cc)
