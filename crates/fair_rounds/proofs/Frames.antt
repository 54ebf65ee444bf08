-- What a step leaves of a tile: a step that is no put leaves what is wanted of each put.
use Rattle.std.proofs.Common.{◌≡◌, ◌≢◌, ⊎_elim, ℕ, ◌<◌, false, List, [], ◌∷◌, Option, Some, None, sym, ap, ◌∙◌, refl, arith, subst, slice_set, slice_index_or, get_or-set_other}
use Rattle.std.specs.Prelude.{if◌then◌else◌, option_map, is_none, ◌&&◌, not, nat_lt}
use Rattle.std.proofs.lemmas.Bool.{cases_eq}
use Rattle.std.proofs.lemmas.Option.{same_Some}
use Rattle.torus.specs.Shape.{tiles_of, dims_of}
use Rattle.torus.specs.declared.step.Choice.{Choice}
use Rattle.torus.specs.declared.step.Choice.TheVariants as choice
use Rattle.packet.specs.declared.kinds.Request.{Request as Asking}
use Rattle.channel_number.specs.Ports.{port_count}
use Rattle.flit_buffer.specs.declared.want.Want.{Want}
use Rattle.flit_buffer.specs.declared.want.Want.TheVariants as want
use Rattle.flit_buffer.specs.Channel as channel
use Rattle.flit_buffer.specs.Surroundings.{Surroundings, granted, agent_step, surroundings_after}
use Rattle.one_order.specs.Following.{is_finished}
use Rattle.home_bank.specs.ServiceList.{address_of}
use Rattle.packet.specs.declared.kinds.Op.TheVariants.{Add}
use Rattle.one_order.specs.ProcessorRecord.{ready}
use Rattle.one_order.specs.ProcessorTable.{ProcessorState, processor_wants, processor_after, flits_due}
use Rattle.router.specs.Table.{RouterState, router_wants, router_after, latch_of, wants_to_take, wants_to_put}
use Rattle.router.specs.Beginning.{router_wiring}
use Rattle.home_bank.specs.BankTable.{BankState, bank_wants, bank_after, is_nil}
use Rattle.tile.specs.Tile.{Design, TileState, tile_step}
use Rattle.tile.specs.Wiring.{processor_wiring, bank_wiring}
use Rattle.tile.specs.declared.agent.Agent.{Agent}
use Rattle.tile.specs.declared.agent.Agent.TheVariants.{Processor, Router, Bank}
use Rattle.tile.specs.Agents.{tile_wants, wiring_of}
use Rattle.core_laws.proofs.AgentSteps.{did, option_map_some}
use Rattle.core_laws.proofs.RouterWork.{if_so}
use Rattle.core_laws.proofs.Stands.{IsInPhase}
use Rattle.fair_rounds.specs.Charges.{charge}
use Rattle.machine_core.specs.Guarded.{is_begin}
use Rattle.fair_rounds.proofs.Rings.{IsNoPut}

-- what steps that are no puts keep of a tile
pub record Keeps (u v : TileState) : Type 0 where
  pub sends : v.processor.to_put ≡ u.processor.to_put
  pub replies : u.bank.to_put ≢ [] → v.bank.to_put ≡ u.bank.to_put
  pub latches : (i f : ℕ) → latch_of u.router i ≡ Some f → latch_of v.router i ≡ Some f
  pub owned : v.router.owned ≡ u.router.owned

pub keeps_same : (u : TileState) → Keeps u u
keeps_same u = record { sends = refl; replies = λ some. refl; latches = λ i f is. is; owned = refl }

module _ (d : Design) (t : ℕ) where
  -- what a put wants stays
  pub put_told : (u v : TileState) (a : Agent) (c : Choice) (w : Want) → charge a c ≡ 2 → is_begin a c u.processor.to_put ≡ false → Keeps u v
      → tile_wants d t u a c ≡ Some w → (tile_wants d t v a c ≡ Some w) × (is_begin a c v.processor.to_put ≡ false)
  put_told u v Processor choice.Send w counts plain keeps wanted =
      by_list u.processor.to_put refl plain wanted
    where
      by_list : (l : List ℕ) → u.processor.to_put ≡ l → is_begin Processor choice.Send l ≡ false
          → option_map (λ flit. want.Put 0 flit) (channel.first_of (flits_due (tiles_of d.shape) d.words t l (ready u.processor.operations))) ≡ Some w
          → (tile_wants d t v Processor choice.Send ≡ Some w) × (is_begin Processor choice.Send v.processor.to_put ≡ false)
      by_list [] is begin h = absurd (cc)
      by_list (f ∷ fs) is begin h = (
        ap (λ l. option_map (λ flit. want.Put 0 flit) (channel.first_of (flits_due (tiles_of d.shape) d.words t l (ready v.processor.operations)))) (keeps.sends ∙ is) ∙ h,
        ap (is_begin Processor choice.Send) (keeps.sends ∙ is),
      )
  put_told u v Router (choice.Put i) w counts plain keeps wanted =
      let so = if_so (nat_lt i (port_count (dims_of d.shape))) (wants_to_put d.shape t u.router i (latch_of u.router i)) w wanted in
      (ap (λ b. if b then wants_to_put d.shape t v.router i (latch_of v.router i) else None) so.0 ∙ by_latch (latch_of u.router i) refl so.1, refl)
    where
      by_latch : (l : Option ℕ) → latch_of u.router i ≡ l → wants_to_put d.shape t u.router i l ≡ Some w → wants_to_put d.shape t v.router i (latch_of v.router i) ≡ Some w
      by_latch None is h = absurd (cc)
      by_latch (Some f) is h =
          ap (wants_to_put d.shape t v.router i) (keeps.latches i f is)
          ∙ (ap (λ o. wants_to_put d.shape t (record { latches = []; owned = o }) i (Some f)) keeps.owned ∙ h)
  put_told u v Bank choice.Send w counts plain keeps wanted = (by_list u.bank.to_put refl wanted, refl)
    where
      by_list : (l : List ℕ) → u.bank.to_put ≡ l → option_map (λ f. want.Put 0 f) (channel.first_of l) ≡ Some w
          → option_map (λ f. want.Put 0 f) (channel.first_of v.bank.to_put) ≡ Some w
      by_list [] is h = absurd (cc)
      by_list (f ∷ fs) is h = ap (λ l. option_map (λ f. want.Put 0 f) (channel.first_of l))
          (keeps.replies (λ e. let no : ◌≡◌ {A = List ℕ} (f ∷ fs) [] = sym is ∙ e in absurd (cc)) ∙ is) ∙ h
  put_told u v Processor choice.Take w counts plain keeps wanted = absurd (cc)
  put_told u v Processor choice.Credit w counts plain keeps wanted = absurd (cc)
  put_told u v Processor choice.Done w counts plain keeps wanted = absurd (cc)
  put_told u v Processor choice.Look w counts plain keeps wanted = absurd (cc)
  put_told u v Processor (choice.TakeFrom i) w counts plain keeps wanted = absurd (cc)
  put_told u v Processor (choice.Put i) w counts plain keeps wanted = absurd (cc)
  put_told u v Processor (choice.CreditOf i) w counts plain keeps wanted = absurd (cc)
  put_told u v Processor choice.Serve w counts plain keeps wanted = absurd (cc)
  put_told u v Router choice.Send w counts plain keeps wanted = absurd (cc)
  put_told u v Router choice.Take w counts plain keeps wanted = absurd (cc)
  put_told u v Router choice.Credit w counts plain keeps wanted = absurd (cc)
  put_told u v Router choice.Done w counts plain keeps wanted = absurd (cc)
  put_told u v Router choice.Look w counts plain keeps wanted = absurd (cc)
  put_told u v Router (choice.TakeFrom i) w counts plain keeps wanted = absurd (cc)
  put_told u v Router (choice.CreditOf i) w counts plain keeps wanted = absurd (cc)
  put_told u v Router choice.Serve w counts plain keeps wanted = absurd (cc)
  put_told u v Bank choice.Take w counts plain keeps wanted = absurd (cc)
  put_told u v Bank choice.Credit w counts plain keeps wanted = absurd (cc)
  put_told u v Bank choice.Done w counts plain keeps wanted = absurd (cc)
  put_told u v Bank choice.Look w counts plain keeps wanted = absurd (cc)
  put_told u v Bank (choice.TakeFrom i) w counts plain keeps wanted = absurd (cc)
  put_told u v Bank (choice.Put i) w counts plain keeps wanted = absurd (cc)
  put_told u v Bank (choice.CreditOf i) w counts plain keeps wanted = absurd (cc)
  put_told u v Bank choice.Serve w counts plain keeps wanted = absurd (cc)

  -- a want of a choice that counts less than 2 is no put
  pub no_put : (u : TileState) (a : Agent) (c : Choice) (w : Want) → charge a c < 2 → tile_wants d t u a c ≡ Some w → IsNoPut w
  no_put u Processor choice.Send w few h = absurd (omega (arith, few))
  no_put u Processor choice.Take w few h = subst IsNoPut (same_Some (want.Take 0) w h) tt
  no_put u Processor choice.Credit w few h = subst IsNoPut (same_Some (want.Credit 0) w h) tt
  no_put u Processor choice.Done w few h =
      subst IsNoPut (same_Some (want.Access d.words (Add 1)) w (if_so (is_finished u.processor.operations.following && not u.processor.reported) (Some (want.Access d.words (Add 1))) w h).1) tt
  no_put u Processor choice.Look w few h =
      subst IsNoPut (same_Some (want.Await d.words (tiles_of d.shape)) w
      (if_so (u.processor.reported && not u.processor.seen) (Some (want.Await d.words (tiles_of d.shape))) w h).1) tt
  no_put u Processor (choice.TakeFrom i) w few h = absurd (cc)
  no_put u Processor (choice.Put i) w few h = absurd (cc)
  no_put u Processor (choice.CreditOf i) w few h = absurd (cc)
  no_put u Processor choice.Serve w few h = absurd (cc)
  no_put u Router (choice.TakeFrom i) w few h =
      by_latch (latch_of u.router i) (if_so (nat_lt i (port_count (dims_of d.shape))) (wants_to_take d.shape t i (latch_of u.router i)) w h).1
    where
      by_latch : (l : Option ℕ) → wants_to_take d.shape t i l ≡ Some w → IsNoPut w
      by_latch None e = subst IsNoPut (same_Some (want.Take i) w e) tt
      by_latch (Some f) e = absurd (cc)
  no_put u Router (choice.Put i) w few h = absurd (omega (arith, few))
  no_put u Router (choice.CreditOf o) w few h =
      subst IsNoPut (same_Some (want.Credit o) w (if_so (nat_lt o (port_count (dims_of d.shape))) (Some (want.Credit o)) w h).1) tt
  no_put u Router choice.Send w few h = absurd (cc)
  no_put u Router choice.Take w few h = absurd (cc)
  no_put u Router choice.Credit w few h = absurd (cc)
  no_put u Router choice.Done w few h = absurd (cc)
  no_put u Router choice.Look w few h = absurd (cc)
  no_put u Router choice.Serve w few h = absurd (cc)
  no_put u Bank choice.Take w few h =
      subst IsNoPut (same_Some (want.Take 0) w (if_so (is_none u.bank.waiting && is_nil u.bank.to_put) (Some (want.Take 0)) w h).1) tt
  no_put u Bank choice.Serve w few h = by_request u.bank.waiting h
    where
      by_request : (o : Option Asking) → option_map (λ (r : Asking). want.Access (address_of t (tiles_of d.shape) r.word) r.op) o ≡ Some w → IsNoPut w
      by_request None e = absurd (cc)
      by_request (Some r) e = subst IsNoPut (same_Some (want.Access (address_of t (tiles_of d.shape) r.word) r.op) w e) tt
  no_put u Bank choice.Send w few h = absurd (omega (arith, few))
  no_put u Bank choice.Credit w few h = subst IsNoPut (same_Some (want.Credit 0) w h) tt
  no_put u Bank choice.Done w few h = absurd (cc)
  no_put u Bank choice.Look w few h = absurd (cc)
  no_put u Bank (choice.TakeFrom i) w few h = absurd (cc)
  no_put u Bank (choice.Put i) w few h = absurd (cc)
  no_put u Bank (choice.CreditOf i) w few h = absurd (cc)

  -- what a choice that counts less than 2 makes of its tile
  processor_keeps : (u : TileState) (c : Choice) (w : Want) (g : ℕ) → charge Processor c < 2
      → Keeps u (record u { processor = processor_after (tiles_of d.shape) d.words t u.processor c w g })
  processor_keeps u choice.Send w g few = absurd (omega (arith, few))
  processor_keeps u choice.Take w g few = record { sends = refl; replies = λ some. refl; latches = λ i f is. is; owned = refl }
  processor_keeps u choice.Credit w g few = record { sends = refl; replies = λ some. refl; latches = λ i f is. is; owned = refl }
  processor_keeps u choice.Done w g few = record { sends = refl; replies = λ some. refl; latches = λ i f is. is; owned = refl }
  processor_keeps u choice.Look w g few = record { sends = refl; replies = λ some. refl; latches = λ i f is. is; owned = refl }
  processor_keeps u (choice.TakeFrom j) w g few = record { sends = refl; replies = λ some. refl; latches = λ i f is. is; owned = refl }
  processor_keeps u (choice.Put j) w g few = record { sends = refl; replies = λ some. refl; latches = λ i f is. is; owned = refl }
  processor_keeps u (choice.CreditOf j) w g few = record { sends = refl; replies = λ some. refl; latches = λ i f is. is; owned = refl }
  processor_keeps u choice.Serve w g few = record { sends = refl; replies = λ some. refl; latches = λ i f is. is; owned = refl }

  router_keeps : (u : TileState) (c : Choice) (w : Want) (g : ℕ) → charge Router c < 2 → router_wants d.shape t u.router c ≡ Some w
      → Keeps u (record u { router = router_after u.router c w g })
  router_keeps u (choice.TakeFrom j) w g few h = record { sends = refl; replies = λ some. refl; latches = latched; owned = refl }
    where
      free : (l : Option ℕ) → wants_to_take d.shape t j l ≡ Some w → l ≡ None
      free None e = refl
      free (Some f) e = absurd (cc)

      latched : (i f : ℕ) → latch_of u.router i ≡ Some f → slice_index_or (slice_set u.router.latches j (Some g)) i None ≡ Some f
      latched i f is = ⊎_elim
          (λ (same : i ≡ j).
          let none = free (latch_of u.router j) (if_so (nat_lt j (port_count (dims_of d.shape))) (wants_to_take d.shape t j (latch_of u.router j)) w h).1 in
          let no : ◌≡◌ {A = Option ℕ} (Some f) None = sym is ∙ (ap (latch_of u.router) same ∙ none) in
          absurd (cc))
          (λ (other : i ≢ j). get_or-set_other u.router.latches j i (Some g) None other ∙ is)
          (cases_eq i j)
  router_keeps u (choice.Put j) w g few h = absurd (omega (arith, few))
  router_keeps u (choice.CreditOf j) w g few h = record { sends = refl; replies = λ some. refl; latches = λ i f is. is; owned = refl }
  router_keeps u choice.Send w g few h = record { sends = refl; replies = λ some. refl; latches = λ i f is. is; owned = refl }
  router_keeps u choice.Take w g few h = record { sends = refl; replies = λ some. refl; latches = λ i f is. is; owned = refl }
  router_keeps u choice.Credit w g few h = record { sends = refl; replies = λ some. refl; latches = λ i f is. is; owned = refl }
  router_keeps u choice.Done w g few h = record { sends = refl; replies = λ some. refl; latches = λ i f is. is; owned = refl }
  router_keeps u choice.Look w g few h = record { sends = refl; replies = λ some. refl; latches = λ i f is. is; owned = refl }
  router_keeps u choice.Serve w g few h = record { sends = refl; replies = λ some. refl; latches = λ i f is. is; owned = refl }

  bank_keeps : (u : TileState) (c : Choice) (w : Want) (g : ℕ) → charge Bank c < 2 → IsInPhase t u.bank → bank_wants (tiles_of d.shape) t u.bank c ≡ Some w
      → Keeps u (record u { bank = bank_after (tiles_of d.shape) t u.bank c w g })
  bank_keeps u choice.Take w g few phase h = record { sends = refl; replies = λ some. refl; latches = λ i f is. is; owned = refl }
  bank_keeps u choice.Serve w g few phase h = record { sends = refl; replies = λ some. absurd (some (empty u.bank.waiting refl h)); latches = λ i f is. is; owned = refl }
    where
      empty : (o : Option Asking) → u.bank.waiting ≡ o → option_map (λ (r : Asking). want.Access (address_of t (tiles_of d.shape) r.word) r.op) o ≡ Some w
          → u.bank.to_put ≡ []
      empty None is e = absurd (cc)
      empty (Some r) is e = (phase.waits r is).1
  bank_keeps u choice.Send w g few phase h = absurd (omega (arith, few))
  bank_keeps u choice.Credit w g few phase h = record { sends = refl; replies = λ some. refl; latches = λ i f is. is; owned = refl }
  bank_keeps u choice.Done w g few phase h = record { sends = refl; replies = λ some. refl; latches = λ i f is. is; owned = refl }
  bank_keeps u choice.Look w g few phase h = record { sends = refl; replies = λ some. refl; latches = λ i f is. is; owned = refl }
  bank_keeps u (choice.TakeFrom j) w g few phase h = record { sends = refl; replies = λ some. refl; latches = λ i f is. is; owned = refl }
  bank_keeps u (choice.Put j) w g few phase h = record { sends = refl; replies = λ some. refl; latches = λ i f is. is; owned = refl }
  bank_keeps u (choice.CreditOf j) w g few phase h = record { sends = refl; replies = λ some. refl; latches = λ i f is. is; owned = refl }

  -- an enabled choice of a tile: its want and what becomes of the tile and what is around it
  pub record Made (u : TileState) (around : Surroundings) (a : Agent) (c : Choice) (p : TileState × Surroundings) : Type 0 where
    pub wants : Want
    pub learned : ℕ
    pub wanted : tile_wants d t u a c ≡ Some wants
    pub grants : granted around (wiring_of d.shape t a) wants ≡ Some learned
    pub around_is : p.1 ≡ surroundings_after d.depth around (wiring_of d.shape t a) wants
    pub keeps : charge a c < 2 → IsInPhase t u.bank → Keeps u p.0
    pub same : charge a c ≡ 0 → ((p.0).router ≡ u.router) × ((p.0).bank ≡ u.bank)

  none_router : (u : TileState) (c : Choice) (w : Want) (g : ℕ) → charge Router c ≡ 0 → router_after u.router c w g ≡ u.router
  none_router u (choice.TakeFrom j) w g none = absurd (omega (arith, none))
  none_router u (choice.Put j) w g none = absurd (omega (arith, none))
  none_router u (choice.CreditOf j) w g none = refl
  none_router u choice.Send w g none = refl
  none_router u choice.Take w g none = refl
  none_router u choice.Credit w g none = refl
  none_router u choice.Done w g none = refl
  none_router u choice.Look w g none = refl
  none_router u choice.Serve w g none = refl

  none_bank : (u : TileState) (c : Choice) (w : Want) (g : ℕ) → charge Bank c ≡ 0 → bank_after (tiles_of d.shape) t u.bank c w g ≡ u.bank
  none_bank u choice.Take w g none = absurd (omega (arith, none))
  none_bank u choice.Serve w g none = absurd (omega (arith, none))
  none_bank u choice.Send w g none = absurd (omega (arith, none))
  none_bank u choice.Credit w g none = refl
  none_bank u choice.Done w g none = refl
  none_bank u choice.Look w g none = refl
  none_bank u (choice.TakeFrom j) w g none = refl
  none_bank u (choice.Put j) w g none = refl
  none_bank u (choice.CreditOf j) w g none = refl

  pub made : (u : TileState) (around : Surroundings) (a : Agent) (c : Choice) (p : TileState × Surroundings) → tile_step d t u around a c ≡ Some p
      → Made u around a c p
  made u around Processor c p h =
      let W : ProcessorState → Choice → Option Want = processor_wants (tiles_of d.shape) d.words t in
      let q = option_map_some _
      (agent_step W (processor_after (tiles_of d.shape) d.words t) d.depth (processor_wiring d.shape t) u.processor around c) p h in
      let x = did W (processor_after (tiles_of d.shape) d.words t) d.depth (processor_wiring d.shape t) u.processor around c (q.0).0 (q.0).1 q.1 in
      subst (Made u around Processor c) q.2 (record {
        wants = x.want;
        learned = x.learned;
        wanted = x.wanted;
        grants = x.grants;
        around_is = x.around_is;
        keeps = λ few phase. subst (λ (r : ProcessorState). Keeps u (record u { processor = r })) (sym x.state_is) (processor_keeps u c x.want x.learned few);
        same = λ none. (refl, refl);
      })
  made u around Router c p h =
      let W : RouterState → Choice → Option Want = router_wants d.shape t in
      let q = option_map_some _ (agent_step W router_after d.depth (router_wiring d.shape t) u.router around c) p h in
      let x = did W router_after d.depth (router_wiring d.shape t) u.router around c (q.0).0 (q.0).1 q.1 in
      subst (Made u around Router c) q.2 (record {
        wants = x.want;
        learned = x.learned;
        wanted = x.wanted;
        grants = x.grants;
        around_is = x.around_is;
        keeps = λ few phase. subst (λ (r : RouterState). Keeps u (record u { router = r })) (sym x.state_is) (router_keeps u c x.want x.learned few x.wanted);
        same = λ none. (x.state_is ∙ none_router u c x.want x.learned none, refl);
      })
  made u around Bank c p h =
      let W : BankState → Choice → Option Want = bank_wants (tiles_of d.shape) t in
      let q = option_map_some _ (agent_step W (bank_after (tiles_of d.shape) t) d.depth (bank_wiring d.shape t) u.bank around c) p h in
      let x = did W (bank_after (tiles_of d.shape) t) d.depth (bank_wiring d.shape t) u.bank around c (q.0).0 (q.0).1 q.1 in
      subst (Made u around Bank c) q.2 (record {
        wants = x.want;
        learned = x.learned;
        wanted = x.wanted;
        grants = x.grants;
        around_is = x.around_is;
        keeps = λ few phase. subst (λ (r : BankState). Keeps u (record u { bank = r })) (sym x.state_is) (bank_keeps u c x.want x.learned few phase x.wanted);
        same = λ none. (refl, x.state_is ∙ none_bank u c x.want x.learned none);
      })
