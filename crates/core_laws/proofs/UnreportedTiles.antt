-- A step of a tile without reports.
use Rattle.std.proofs.Common.{◌≡◌, ℕ, ◌+◌, ◌&&◌, Bool, true, false, not, List, Option, Some, None, refl, sym, ◌∙◌, ap, arith}
use Rattle.std.specs.Prelude.{option_and_then, option_map, if◌then◌else◌}
use Rattle.std.proofs.lemmas.Option.{same_Some}
use Rattle.std.proofs.lemmas.List.{set-set}
use Rattle.torus.specs.Shape.{tiles_of}
use Rattle.torus.specs.declared.step.Choice.{Choice}
use Rattle.torus.specs.declared.step.Choice.TheVariants as choice
use Rattle.packet.specs.declared.kinds.Op.TheVariants as op
use Rattle.home_bank.specs.BankTable.{BankState, bank_wants, bank_after}
use Rattle.flit_buffer.specs.declared.want.Want.{Want}
use Rattle.flit_buffer.specs.declared.want.Want.TheVariants as want
use Rattle.flit_buffer.specs.Surroundings.{Surroundings, surroundings_after}
use Rattle.one_order.specs.Following.{is_finished}
use Rattle.one_order.specs.ProcessorTable.{ProcessorState, processor_wants, processor_after}
use Rattle.router.specs.Table.{RouterState, router_wants, router_after}
use Rattle.router.specs.Beginning.{router_wiring}
use Rattle.core_laws.specs.Wiring.{processor_wiring, bank_wiring}
use Rattle.core_laws.specs.Agent.{Agent}
use Rattle.core_laws.specs.Agent.TheVariants.{Processor, Router, Bank}
use Rattle.core_laws.specs.Tile.{Design, TileState, tile_step}
use Rattle.core_laws.specs.Moves.{processor_move, bank_move, tile_move}
use Rattle.one_order.specs.Flight.{Move}
use Rattle.core_laws.proofs.AgentSteps.{Did, did, option_map_some}
use Rattle.core_laws.proofs.ChannelWants.{router_of_channel}
use Rattle.core_laws.specs.Reopened.{tile_open, around_open, mark, marks, is_report}
use Rattle.core_laws.proofs.Tables.{processor_open, safe_of_channel, agent_opened, wants_same, after_same, marks_same, move_same}
use Rattle.core_laws.proofs.Tables.{safe_processor, ServesWords, safe_bank}

abbrev some_pair : TileState → Surroundings → Option (TileState × Surroundings)
some_pair a b = Some (a, b)

abbrev around_with : Surroundings → List ℕ → Surroundings
around_with around ws = record { rings = around.rings; words = ws }

abbrev tile_with : ProcessorState → TileState → TileState
tile_with p tile = record { processor = p; router = tile.router; bank = tile.bank }

one_more : (n : ℕ) → 1 + n ≡ 0 + n + 1
one_more n = omega arith

one_seen : (n : ℕ) → n + 1 ≡ n + 0 + 1
one_seen n = omega arith

module _ (d : Design) (t : ℕ) where
  -- a step that is no report is the same without the marks
  pub record Same (tile : TileState) (around : Surroundings) (agent : Agent) (c : Choice)
      (q : TileState × Surroundings) : Type 0 where
    pub step : tile_step d t (tile_open tile) (around_open d.words around) agent c
        ≡ Some (tile_open q.0, around_open d.words q.1)
    pub move : tile_move d t (tile_open tile) (around_open d.words around) agent c ≡ tile_move d t tile around agent c
    pub marks : marks q.0 ≡ marks tile

  option_then : {A B : Type 0} (f g : A → Option B) (o : Option A) → ((a : A) → f a ≡ g a)
      → option_and_then f o ≡ option_and_then g o
  option_then f g None h = refl
  option_then f g (Some a) h = h a

  pub same_step : (tile : TileState) (around : Surroundings) (agent : Agent) (c : Choice) (q : TileState × Surroundings)
      → tile_step d t tile around agent c ≡ Some q
      → is_report c ≡ false → ServesWords (tiles_of d.shape) d.words t tile.bank → Same tile around agent c q
  same_step tile around Processor c q h plain here =
      let x = option_map_some (λ (r : ProcessorState × Surroundings). (record tile { processor = r.0 }, r.1)) _ q h in
      let y = did (processor_wants (tiles_of d.shape) d.words t) (processor_after (tiles_of d.shape) d.words t) d.depth
      (processor_wiring d.shape t) tile.processor around c x.0.0 x.0.1 x.1 in
      let z = agent_opened (processor_wants (tiles_of d.shape) d.words t) (processor_after (tiles_of d.shape) d.words t)
      d.depth (processor_wiring d.shape t) processor_open d.words tile.processor around c x.0.0 x.0.1 y
      (wants_same (tiles_of d.shape) d.words t tile.processor c plain)
      (λ n. after_same (tiles_of d.shape) d.words t tile.processor c y.want n plain)
      (safe_processor (tiles_of d.shape) d.words t tile.processor c y.want plain y.wanted) in
      record {
        step = ap
            (option_map (λ (r : ProcessorState × Surroundings). (record (tile_open tile) { processor = r.0 }, r.1)))
            z.step
            ∙ ap (λ (r : TileState × Surroundings). some_pair (tile_open r.0) (around_open d.words r.1)) x.2;
        move = ap (λ (o : Option ℕ). option_and_then (processor_move t (processor_open tile.processor) c) o) z.learned
            ∙ option_then (processor_move t (processor_open tile.processor) c) (processor_move t tile.processor c) _
            (move_same t tile.processor c plain);
        marks = ap (λ (r : TileState × Surroundings). marks r.0) (sym x.2)
            ∙ (ap (λ (r : ProcessorState). mark r.reported + mark r.seen) y.state_is
            ∙ marks_same (tiles_of d.shape) d.words t tile.processor c y.want y.learned plain);
      }
  same_step tile around Router c q h plain here =
      let x = option_map_some (λ (r : RouterState × Surroundings). (record tile { router = r.0 }, r.1)) _ q h in
      let y = did (router_wants d.shape t) router_after d.depth (router_wiring d.shape t) tile.router around c x.0.0
      x.0.1 x.1 in
      let z = agent_opened (router_wants d.shape t) router_after d.depth (router_wiring d.shape t) (λ r. r) d.words
      tile.router around c x.0.0 x.0.1 y
      refl (λ n. refl) (safe_of_channel d.words y.want (router_of_channel d.shape t tile.router c y.want y.wanted)) in
      record {
        step = ap (option_map (λ (r : RouterState × Surroundings). (record (tile_open tile) { router = r.0 }, r.1)))
            z.step
            ∙ ap (λ (r : TileState × Surroundings). some_pair (tile_open r.0) (around_open d.words r.1)) x.2;
        move = refl;
        marks = ap (λ (r : TileState × Surroundings). marks r.0) (sym x.2);
      }
  same_step tile around Bank c q h plain here =
      let x = option_map_some (λ (r : BankState × Surroundings). (record tile { bank = r.0 }, r.1)) _ q h in
      let y = did (bank_wants (tiles_of d.shape) t) (bank_after (tiles_of d.shape) t) d.depth (bank_wiring d.shape t)
      tile.bank around c x.0.0 x.0.1 x.1 in
      let z = agent_opened (bank_wants (tiles_of d.shape) t) (bank_after (tiles_of d.shape) t) d.depth
      (bank_wiring d.shape t) (λ r. r) d.words tile.bank around c x.0.0 x.0.1 y
      refl (λ n. refl) (safe_bank (tiles_of d.shape) d.words t tile.bank c y.want here y.wanted) in
      record {
        step = ap (option_map (λ (r : BankState × Surroundings). (record (tile_open tile) { bank = r.0 }, r.1))) z.step
            ∙ ap (λ (r : TileState × Surroundings). some_pair (tile_open r.0) (around_open d.words r.1)) x.2;
        move = ap (λ (o : Option ℕ). option_and_then (bank_move tile.bank c) o) z.learned;
        marks = ap (λ (r : TileState × Surroundings). marks r.0) (sym x.2);
      }

  -- a report changes marks alone
  pub record Report (tile : TileState) (around : Surroundings) (agent : Agent) (c : Choice)
      (q : TileState × Surroundings) : Type 0 where
    pub tile_is : tile_open q.0 ≡ tile_open tile
    pub around_is : around_open d.words q.1 ≡ around_open d.words around
    pub marks : marks q.0 ≡ marks tile + 1

  record Marks (p next : ProcessorState) (around left : Surroundings) : Type 0 where
    open_is : processor_open next ≡ processor_open p
    around_is : around_open d.words left ≡ around_open d.words around
    marks : mark next.reported + mark next.seen ≡ mark p.reported + mark p.seen + 1

  and_not : (a b : Bool) (o w : Want) → (if a && not b then Some o else None) ≡ Some w → (b ≡ false) × (o ≡ w)
  and_not true true o w h = absurd (cc)
  and_not true false o w h = (refl, same_Some o w h)
  and_not false b o w h = absurd (cc)

  report_marks : (p : ProcessorState) (around : Surroundings) (c : Choice) (next : ProcessorState) (left : Surroundings)
      → is_report c ≡ true
      → Did (processor_wants (tiles_of d.shape) d.words t) (processor_after (tiles_of d.shape) d.words t) d.depth
      (processor_wiring d.shape t) p around c next left → Marks p next around left
  report_marks p around choice.Done next left is y =
      let x = and_not (is_finished p.operations.following) p.reported (want.Access d.words (op.Add 1)) y.want
      y.wanted in
      record {
        open_is = ap processor_open y.state_is;
        around_is =
            ap (around_open d.words)
            (y.around_is ∙ ap (surroundings_after d.depth around (processor_wiring d.shape t)) (sym x.1))
            ∙ ap (λ (ws : List ℕ). around_with around ws) (set-set around.words d.words _ 0);
        marks = ap (λ (r : ProcessorState). mark r.reported + mark r.seen) y.state_is
            ∙ (one_more (mark p.seen) ∙ ap (λ (b : Bool). mark b + mark p.seen + 1) (sym x.0));
      }
  report_marks p around choice.Look next left is y =
      let x = and_not p.reported p.seen (want.Await d.words (tiles_of d.shape)) y.want y.wanted in
      record {
        open_is = ap processor_open y.state_is;
        around_is =
            ap (around_open d.words)
            (y.around_is ∙ ap (surroundings_after d.depth around (processor_wiring d.shape t)) (sym x.1));
        marks = ap (λ (r : ProcessorState). mark r.reported + mark r.seen) y.state_is
            ∙ (one_seen (mark p.reported) ∙ ap (λ (b : Bool). mark p.reported + mark b + 1) (sym x.0));
      }
  report_marks p around c next left is y = absurd (cc)

  no_router : (r : RouterState) (c : Choice) (w : Want) → is_report c ≡ true → router_wants d.shape t r c ≡ Some w → ⊥
  no_router r choice.Done w is h = cc
  no_router r choice.Look w is h = cc
  no_router r c w is h = cc

  no_bank : (b : BankState) (c : Choice) (w : Want) → is_report c ≡ true → bank_wants (tiles_of d.shape) t b c ≡ Some w
      → ⊥
  no_bank b choice.Done w is h = cc
  no_bank b choice.Look w is h = cc
  no_bank b c w is h = cc

  pub report_step : (tile : TileState) (around : Surroundings) (agent : Agent) (c : Choice)
      (q : TileState × Surroundings) → tile_step d t tile around agent c ≡ Some q
      → is_report c ≡ true → Report tile around agent c q
  report_step tile around Processor c q h is =
      let x = option_map_some (λ (r : ProcessorState × Surroundings). (record tile { processor = r.0 }, r.1)) _ q h in
      let y = report_marks tile.processor around c x.0.0 x.0.1 is
      (did (processor_wants (tiles_of d.shape) d.words t) (processor_after (tiles_of d.shape) d.words t) d.depth
      (processor_wiring d.shape t) tile.processor around c x.0.0 x.0.1 x.1) in
      record {
        tile_is =
            ap (λ (r : TileState × Surroundings). tile_open r.0) (sym x.2)
            ∙ ap (λ (r : ProcessorState). tile_with r tile) y.open_is;
        around_is = ap (λ (r : TileState × Surroundings). around_open d.words r.1) (sym x.2) ∙ y.around_is;
        marks = ap (λ (r : TileState × Surroundings). marks r.0) (sym x.2) ∙ y.marks;
      }
  report_step tile around Router c q h is =
      let x = option_map_some (λ (r : RouterState × Surroundings). (record tile { router = r.0 }, r.1)) _ q h in
      let y = did (router_wants d.shape t) router_after d.depth (router_wiring d.shape t) tile.router around c x.0.0
      x.0.1 x.1 in
      absurd (no_router tile.router c y.want is y.wanted)
  report_step tile around Bank c q h is =
      let x = option_map_some (λ (r : BankState × Surroundings). (record tile { bank = r.0 }, r.1)) _ q h in
      let y = did (bank_wants (tiles_of d.shape) t) (bank_after (tiles_of d.shape) t) d.depth (bank_wiring d.shape t)
      tile.bank around c x.0.0 x.0.1 x.1 in
      absurd (no_bank tile.bank c y.want is y.wanted)

  none_then : {A : Type 0} (f : A → Option Move) (o : Option A) → ((a : A) → f a ≡ None) → option_and_then f o ≡ None
  none_then f None h = refl
  none_then f (Some a) h = h a

  processor_none : (p : ProcessorState) (c : Choice) (n : ℕ) → is_report c ≡ true → processor_move t p c n ≡ None
  processor_none p choice.Send n is = absurd (cc)
  processor_none p choice.Take n is = absurd (cc)
  processor_none p c n is = refl

  bank_none : (b : BankState) (c : Choice) (n : ℕ) → is_report c ≡ true → bank_move b c n ≡ None
  bank_none b choice.Serve n is = absurd (cc)
  bank_none b c n is = refl

  -- and is no move of the operations
  pub report_move : (tile : TileState) (around : Surroundings) (agent : Agent) (c : Choice) → is_report c ≡ true
      → tile_move d t tile around agent c ≡ None
  report_move tile around Processor c is =
      none_then (processor_move t tile.processor c) _ (λ n. processor_none tile.processor c n is)
  report_move tile around Router c is = refl
  report_move tile around Bank c is = none_then (bank_move tile.bank c) _ (λ n. bank_none tile.bank c n is)
