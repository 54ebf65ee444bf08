-- What agents find in every reached state is as they ask.
use Rattle.std.proofs.Common.{◌≡◌, ℕ, ◌<◌, List, Some, sym, subst, slice_get}
use Rattle.std.proofs.lemmas.Option.{slice_get_within, get_or_from_slice_get}
use Rattle.torus.specs.Shape.{tiles_of}
use Rattle.torus.specs.declared.step.Step.{Step}
use Rattle.script_lines.specs.Lines.{script_of}
use Rattle.one_order.specs.Events.{order_after}
use Rattle.channel_number.specs.Ports.{input_channel}
use Rattle.tile.specs.Tile.{Design, TileState}
use Rattle.core_laws.specs.Core.{Load, State, design_of}
use Rattle.core_laws.specs.Runs.{IsAcceptedLoad}
use Rattle.core_laws.specs.Asks.{RouterAsks, ProcessorAsks, BankAsks}
use Rattle.core_laws.specs.Noted.{noted}
use Rattle.core_laws.proofs.AskedWords.{router_asks, processor_finds, bank_finds, waiting_here}
use Rattle.core_laws.proofs.HeadWords.{bank_head}
use Rattle.core_laws.proofs.Rooms.{bank_room, issue_room}
use Rattle.core_laws.proofs.SendFacts.{ready_parts}
use Rattle.core_laws.proofs.Values.{limited}
use Rattle.core_laws.proofs.ValuesProper.{ready_proper}
use Rattle.core_laws.proofs.Wired.{is_wired_up}
use Rattle.core_laws.proofs.Histories.{state_at, event_at}
use Rattle.core_laws.proofs.EveryRun.{holds_in}
use Rattle.core_laws.proofs.Stands.{Stands, tile_at, no_tile}

module _ (l : Load) (ok : IsAcceptedLoad l) (steps : List Step) (n t : ℕ) (tile : TileState) (there : slice_get (state_at l steps n).tiles t ≡ Some tile) where
  abbrev d : Design
  d = design_of l

  abbrev s : State
  s = state_at l steps n

  st : Stands d l.tags l.opening s (noted l steps n) (order_after (event_at l steps) n)
  st = (holds_in l ok steps n).stands

  t_in : t < tiles_of l.shape
  t_in = subst (λ (k : ℕ). t < k) st.tiles (slice_get_within s.tiles t tile there)

  is : tile_at s t ≡ tile
  is = get_or_from_slice_get s.tiles t tile no_tile there

  pub router_asked : RouterAsks d t s.around
  router_asked = router_asks d ok.shape l.tags l.opening s _ _ st t
      (λ i i_in. subst (λ (k : ℕ). input_channel d.shape t i < k) (sym st.mirrors.count) ((is_wired_up d ok.shape).inputs_within t i t_in i_in))

  processor_here : ProcessorAsks d (script_of l.scripts t) t (tile_at s t).processor s.around
  processor_here = record {
    flit = processor_finds d ok.shape l.tags l.opening s _ _ st t t_in;
    request = λ tag o is_ready.
        let proper = ready_proper d l.tags (limited l ok) l.opening s _ _ st (holds_in l ok steps n).values t tag o t_in is_ready in
        let parts = ready_parts (tile_at s t).processor.operations tag o is_ready in
        (subst (λ (k : ℕ). o.address < k) (sym st.words) proper.1, slice_get_within (tile_at s t).processor.operations.tags tag _ parts.1, proper.0.spelled);
    room = λ tag o is_ready. issue_room l ok steps n t tag o t_in is_ready;
  }

  pub processor_asked : ProcessorAsks d (script_of l.scripts t) t tile.processor s.around
  processor_asked = subst (λ (x : TileState). ProcessorAsks d (script_of l.scripts t) t x.processor s.around) is processor_here

  bank_here : BankAsks d l.scripts t (tile_at s t).bank s.around
  bank_here = record {
    head = bank_head d ok.shape ok.size.1 l.tags l.opening s _ _ st t t_in;
    flit = bank_finds d ok.shape l.tags l.opening s _ _ st t t_in;
    request = waiting_here d ok.shape l.tags l.opening s _ _ st t;
    room = bank_room l ok steps n t;
  }

  pub bank_asked : BankAsks d l.scripts t tile.bank s.around
  bank_asked = subst (λ (x : TileState). BankAsks d l.scripts t x.bank s.around) is bank_here
