-- A step of a tile whose processor is handed a line: where it is enabled without the line, it is enabled with it, and
-- does the same.
use Rattle.std.proofs.Common.{◌≡◌, ℕ, false, List, [], ◌∷◌, Option, Some, None, refl, sym, ◌∙◌, ap}
use Rattle.std.specs.Prelude.{option_and_then, option_map}
use Rattle.std.proofs.lemmas.Option.{same_Some}
use Rattle.torus.specs.Shape.{tiles_of}
use Rattle.torus.specs.declared.step.Choice.{Choice}
use Rattle.torus.specs.declared.step.Choice.TheVariants as choice
use Rattle.packet.specs.declared.kinds.Operation.{Operation}
use Rattle.packet.specs.declared.kinds.Packet.TheVariants.{Response}
use Rattle.packet.specs.declared.assembler.Offered.{Offered}
use Rattle.packet.specs.declared.assembler.Offered.TheVariants.{Whole}
use Rattle.packet.specs.Answer.{flits_left}
use Rattle.packet.specs.Flits.{offered}
use Rattle.script_lines.specs.declared.line.Line.{Line}
use Rattle.tag_table.specs.Tags.{free_tag}
use Rattle.flit_buffer.specs.declared.want.Want.{Want}
use Rattle.flit_buffer.specs.declared.want.Want.TheVariants as want
use Rattle.flit_buffer.specs.Channel.{first_of, rest}
use Rattle.flit_buffer.specs.Surroundings.{Surroundings, Wiring, granted, surroundings_after, agent_step, step_with}
use Rattle.one_order.specs.Following.{Following, next_operation_of}
use Rattle.one_order.specs.ProcessorRecord.{ProcessorRecord, ready, issued_by, answered_by, index_of, record_with}
use Rattle.one_order.specs.ProcessorTable.{ProcessorState, request_flits, flits_due, issued_of, record_sent, record_offered}
use Rattle.one_order.specs.ProcessorTable.{processor_wants, processor_after, processor_with}
use Rattle.router.specs.Table.{RouterState}
use Rattle.home_bank.specs.BankTable.{BankState}
use Rattle.core_laws.specs.Wiring.{processor_wiring}
use Rattle.core_laws.specs.Agent.{Agent}
use Rattle.core_laws.specs.Agent.TheVariants.{Processor, Router, Bank}
use Rattle.core_laws.specs.Tile.{Design, TileState, tile_step}
use Rattle.core_laws.specs.Moves.{issue_of, processor_move, tile_move}
use Rattle.core_laws.proofs.AgentSteps.{did, did_learn}
use Rattle.core_laws.specs.Appended.{tile_with}
use Rattle.one_order.proofs.Grown.{next_with, issue_with, answer_with}

module _ (line : Line) where
  next_by : (b : ProcessorRecord) (f : ℕ × Operation) (o : Option Operation) → next_operation_of b.following ≡ o
      → option_and_then (λ o. option_map (λ tag. (tag, o)) (free_tag b.tags)) o ≡ Some f
      → (p : Operation) × (next_operation_of b.following ≡ Some p)
  next_by b f None is h = absurd (cc)
  next_by b f (Some p) is h = (p, is)

  -- what is ready has an operation
  has_next : (b : ProcessorRecord) (f : ℕ × Operation) → ready b ≡ Some f
      → (p : Operation) × (next_operation_of b.following ≡ Some p)
  has_next b f h = next_by b f (next_operation_of b.following) refl h

  -- and is ready with the line
  ready_with : (b : ProcessorRecord) (f : ℕ × Operation) → ready b ≡ Some f → ready (record_with line b) ≡ ready b
  ready_with b f h =
      let at = has_next b f h in
      ap (λ (o : Option Operation). option_and_then (λ o. option_map (λ tag. (tag, o)) (free_tag b.tags)) o)
      (next_with b.following line at.0 at.1 ∙ sym at.1)

  issued_with : (b : ProcessorRecord) (f : ℕ × Operation) → ready b ≡ Some f
      → issued_by (record_with line b) f.0 f.1 ≡ record_with line (issued_by b f.0 f.1)
  issued_with b f h =
      let at = has_next b f h in
      let after : ProcessorRecord = issued_by b f.0 f.1 in
      ap (λ (g : Following). record
      { following = g; tags = after.tags; issued = after.issued; answers = after.answers })
      (issue_with b.following line at.0 at.1)

  module _ (tiles words tile : ℕ) where
    offered_with : (b : ProcessorRecord) (o : Offered)
        → record_offered tiles words tile (record_with line b) o
        ≡ record_with line (record_offered tiles words tile b o)
    offered_with b (Whole (Response r)) =
        let after : ProcessorRecord = answered_by b r in
        ap (λ (g : Following). record
        { following = g; tags = after.tags; issued = after.issued; answers = after.answers })
        (answer_with b.following line (index_of b r.tag.0) r.reply)
    offered_with b o = refl

    -- where a send is wanted, the flits are of the request in course, or something is ready
    record Sendable (b : ProcessorRecord) (to_put : List ℕ) : Type 0 where
      due : flits_due tiles words tile to_put (ready (record_with line b)) ≡ flits_due tiles words tile to_put (ready b)
      sent : record_sent tiles words tile to_put (record_with line b)
          ≡ record_with line (record_sent tiles words tile to_put b)
      issue : issue_of tile to_put (ready (record_with line b)) ≡ issue_of tile to_put (ready b)

    by_ready : (b : ProcessorRecord) (f : Option (ℕ × Operation)) (w : Want) → ready b ≡ f
        → option_map (λ flit. want.Put 0 flit) (first_of (request_flits tiles words tile f)) ≡ Some w → Sendable b []
    by_ready b None w is h = absurd (cc)
    by_ready b (Some f) w is h =
        let same : ready (record_with line b) ≡ ready b = ready_with b f is in
        record {
          due = ap (request_flits tiles words tile) same;
          sent =
              ap (λ (x : Option (ℕ × Operation)). issued_of tiles words tile x (record_with line b)) (same ∙ is)
              ∙ (issued_with b f is
              ∙ ap (λ (x : Option (ℕ × Operation)). record_with line (issued_of tiles words tile x b)) (sym is));
          issue = ap (issue_of tile []) same;
        }

    sendable : (b : ProcessorRecord) (to_put : List ℕ) (w : Want)
        → option_map (λ flit. want.Put 0 flit) (first_of (flits_due tiles words tile to_put (ready b))) ≡ Some w
        → Sendable b to_put
    sendable b [] w h = by_ready b (ready b) w refl h
    sendable b (flit ∷ flits) w h = record { due = refl; sent = refl; issue = refl }

    -- a choice that is wanted without the line: it is wanted with it, and does the same
    pub record Same (p : ProcessorState) (c : Choice) (w : Want) : Type 0 where
      pub wants : processor_wants tiles words tile (processor_with line p) c ≡ processor_wants tiles words tile p c
      pub after : (learned : ℕ)
          → processor_after tiles words tile (processor_with line p) c w learned
          ≡ processor_with line (processor_after tiles words tile p c w learned)
      pub move : (learned : ℕ) → processor_move tile (processor_with line p) c learned ≡ processor_move tile p c learned

    sends_same : (p : ProcessorState) (w : Want) → Sendable p.operations p.to_put → Same p choice.Send w
    sends_same p w s = record {
      wants = ap (λ (flits : List ℕ). option_map (λ flit. want.Put 0 flit) (first_of flits)) s.due;
      after = λ learned.
          let made : ProcessorRecord → List ℕ → ProcessorState = λ b flits. record {
            operations = b;
            to_put = flits;
            so_far = p.so_far;
            reported = p.reported;
            seen = p.seen;
          } in
          ap (λ (b : ProcessorRecord). made b
          (rest (flits_due tiles words tile p.to_put (ready (record_with line p.operations))))) s.sent
          ∙ ap (λ (flits : List ℕ). made (record_with line (record_sent tiles words tile p.to_put p.operations))
          (rest flits)) s.due;
      move = λ learned. s.issue;
    }

    takes_same : (p : ProcessorState) (w : Want) → Same p choice.Take w
    takes_same p w = record {
      wants = refl;
      after = λ flit.
          ap (λ (b : ProcessorRecord). record {
            operations = b;
            to_put = p.to_put;
            so_far = flits_left (offered p.so_far flit) p.so_far flit;
            reported = p.reported;
            seen = p.seen;
          })
          (offered_with p.operations (offered p.so_far flit));
      move = λ flit. refl;
    }

    pub same : (p : ProcessorState) (c : Choice) (w : Want) (learned : ℕ)
        → processor_wants tiles words tile p c ≡ Some w
        → (processor_after tiles words tile p c w learned).reported ≡ false → Same p c w
    same p choice.Send w learned h un = sends_same p w (sendable p.operations p.to_put w h)
    same p choice.Take w learned h un = takes_same p w
    same p choice.Done w learned h un = absurd (cc)
    same p choice.Look w learned h un = record { wants = refl; after = λ n. refl; move = λ n. refl }
    same p choice.Credit w learned h un = record { wants = refl; after = λ n. refl; move = λ n. refl }
    same p c w learned h un = absurd (cc)

    pub unreported : (p : ProcessorState) (c : Choice) (w : Want) (learned : ℕ)
        → (processor_after tiles words tile p c w learned).reported ≡ false → p.reported ≡ false
    unreported p choice.Done w learned un = absurd (cc)
    unreported p c w learned un = un

-- of a tile
module _ (d : Design) (t : ℕ) (line : Line) where
  -- the tile with the line, and the surroundings
  abbrev pub pair_with : TileState × Surroundings → TileState × Surroundings
  pair_with q = (tile_with line q.0, q.1)

  pub record SameStep (tile : TileState) (around : Surroundings) (agent : Agent) (c : Choice)
      (q : TileState × Surroundings) : Type 0 where
    pub unreported : tile.processor.reported ≡ false
    pub step : tile_step d t (tile_with line tile) around agent c ≡ Some (pair_with q)
    pub move : tile_move d t (tile_with line tile) around agent c ≡ tile_move d t tile around agent c

  abbrev some_pair : ProcessorState → Surroundings → Option (ProcessorState × Surroundings)
  some_pair r a = Some (r, a)

  map_with : {A : Type 0} (f : A → TileState × Surroundings) (o : Option A)
      → option_map (λ a. pair_with (f a)) o ≡ option_map pair_with (option_map f o)
  map_with f None = refl
  map_with f (Some a) = refl

  processor_step : (tile : TileState) (around : Surroundings) (c : Choice) (q : TileState × Surroundings)
      (left : ProcessorState × Surroundings)
      → agent_step (processor_wants (tiles_of d.shape) d.words t) (processor_after (tiles_of d.shape) d.words t) d.depth
      (processor_wiring d.shape t) tile.processor around c ≡ Some left
      → ◌≡◌ {A = TileState × Surroundings} (record tile { processor = left.0 }, left.1) q
      → q.0.processor.reported ≡ false → SameStep tile around Processor c q
  processor_step tile around c q left is made un =
      let tiles : ℕ = tiles_of d.shape in
      let wiring : Wiring = processor_wiring d.shape t in
      let wants : ProcessorState → Choice → Option Want = processor_wants (tiles_of d.shape) d.words t in
      let after : ProcessorState → Choice → Want → ℕ → ProcessorState = processor_after (tiles_of d.shape) d.words t in
      let p : ProcessorState = tile.processor in
      let x = did (processor_wants (tiles_of d.shape) d.words t) (processor_after (tiles_of d.shape) d.words t) d.depth
      (processor_wiring d.shape t) tile.processor around c left.0 left.1 is in
      let un_left : left.0.reported ≡ false = ap (λ (r : TileState × Surroundings). r.0.processor.reported) made ∙ un in
      let un_after : (processor_after (tiles_of d.shape) d.words t tile.processor c x.want x.learned).reported ≡ false =
      ap (λ (r : ProcessorState). r.reported) (sym x.state_is) ∙ un_left in
      let s = same line (tiles_of d.shape) d.words t tile.processor c x.want x.learned x.wanted un_after in
      let wanted : processor_wants (tiles_of d.shape) d.words t (processor_with line tile.processor) c ≡ Some x.want =
      s.wants ∙ x.wanted in
      let stepped : agent_step (processor_wants (tiles_of d.shape) d.words t)
      (processor_after (tiles_of d.shape) d.words t) d.depth (processor_wiring d.shape t)
      (processor_with line tile.processor) around c
      ≡ Some (processor_with line left.0, left.1) =
      ap (λ (o : Option Want). option_and_then
      (λ want. step_with (processor_wants (tiles_of d.shape) d.words t)
      (processor_after (tiles_of d.shape) d.words t) d.depth (processor_wiring d.shape t)
      (processor_with line tile.processor) around c want (granted around (processor_wiring d.shape t) want)) o)
      wanted
      ∙ (ap (λ (g : Option ℕ). step_with (processor_wants (tiles_of d.shape) d.words t)
      (processor_after (tiles_of d.shape) d.words t) d.depth (processor_wiring d.shape t)
      (processor_with line tile.processor) around c x.want g) x.grants
      ∙ (ap (λ (r : ProcessorState). some_pair r
      (surroundings_after d.depth around (processor_wiring d.shape t) x.want))
      (s.after x.learned ∙ ap (processor_with line) (sym x.state_is))
      ∙ ap (λ (a : Surroundings). some_pair (processor_with line left.0) a) (sym x.around_is))) in
      record {
        unreported = unreported line (tiles_of d.shape) d.words t tile.processor c x.want x.learned un_after;
        step = ap
            (option_map
            (λ (r : ProcessorState × Surroundings). (record (tile_with line tile) { processor = r.0 }, r.1))) stepped
            ∙ ap (λ (r : TileState × Surroundings). Some (pair_with r)) made;
        move =
            ap (λ (o : Option Want). option_and_then (processor_move t (processor_with line tile.processor) c)
            (option_and_then (granted around (processor_wiring d.shape t)) o)) wanted
            ∙ (ap (λ (g : Option ℕ). option_and_then (processor_move t (processor_with line tile.processor) c) g)
            x.grants
            ∙ (s.move x.learned
            ∙ ap (λ (g : Option ℕ). option_and_then (processor_move t tile.processor c) g)
            (sym (did_learn (processor_wants (tiles_of d.shape) d.words t)
            (processor_after (tiles_of d.shape) d.words t) d.depth (processor_wiring d.shape t) tile.processor
            around c left.0 left.1 x))));
      }

  by_map : {A : Type 0} (f : A → TileState × Surroundings) (o : Option A) (q : TileState × Surroundings)
      → option_map f o ≡ Some q
      → (a : A) × (o ≡ Some a) × (f a ≡ q)
  by_map f None q h = absurd (cc)
  by_map f (Some a) q h = (a, refl, same_Some (f a) q h)

  pub same_step : (tile : TileState) (around : Surroundings) (agent : Agent) (c : Choice) (q : TileState × Surroundings)
      → tile_step d t tile around agent c ≡ Some q → q.0.processor.reported ≡ false → SameStep tile around agent c q
  same_step tile around Processor c q h un =
      let x = by_map (λ (r : ProcessorState × Surroundings). (record tile { processor = r.0 }, r.1)) _ q h in
      processor_step tile around c q x.0 x.1 x.2 un
  same_step tile around Router c q h un =
      let x = by_map (λ (r : RouterState × Surroundings). (record tile { router = r.0 }, r.1)) _ q h in
      record {
        unreported = ap (λ (r : TileState × Surroundings). r.0.processor.reported) x.2 ∙ un;
        step = map_with (λ (r : RouterState × Surroundings). (record tile { router = r.0 }, r.1)) _
            ∙ ap (option_map pair_with) h;
        move = refl;
      }
  same_step tile around Bank c q h un =
      let x = by_map (λ (r : BankState × Surroundings). (record tile { bank = r.0 }, r.1)) _ q h in
      record {
        unreported = ap (λ (r : TileState × Surroundings). r.0.processor.reported) x.2 ∙ un;
        step = map_with (λ (r : BankState × Surroundings). (record tile { bank = r.0 }, r.1)) _
            ∙ ap (option_map pair_with) h;
        move = refl;
      }

  -- the other agents of the tile
  pub other_agent : (tile : TileState) (around : Surroundings) (agent : Agent) (c : Choice) → (agent ≡ Processor → ⊥)
      → tile_step d t (tile_with line tile) around agent c ≡ option_map pair_with (tile_step d t tile around agent c)
  other_agent tile around Processor c apart = absurd (apart refl)
  other_agent tile around Router c apart =
      map_with (λ (r : RouterState × Surroundings). (record tile { router = r.0 }, r.1)) _
  other_agent tile around Bank c apart =
      map_with (λ (r : BankState × Surroundings). (record tile { bank = r.0 }, r.1)) _
