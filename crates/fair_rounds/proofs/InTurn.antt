-- Machines one after the other: what their processors have issued, what is answered, and who holds tags.
use Rattle.std.proofs.Common.{◌≡◌, ⊎_elim, inl, inr, ℕ, zero, suc, ◌+◌, ◌-◌, ◌<◌, ◌≤◌, List, [], ◌∷◌, ◌++◌, length, map, take, Option, refl, sym, ◌∙◌, ap, subst, arith, slice_get, length-append}
use Rattle.torus.specs.declared.step.OpId.{OpId}
use Rattle.torus.specs.declared.step.Step.{Step}
use Rattle.packet.specs.declared.kinds.Operation.{Operation}
use Rattle.one_order.specs.declared.answer.Answer.{Answer}
use Rattle.one_order.specs.Flight.{processor_at}
use Rattle.one_order.specs.Observed.{Observed, list_at}
use Rattle.one_order.specs.ProcessorRecord.{ProcessorRecord, no_processor}
use Rattle.one_order.proofs.Parts.{list_at_map}
use Rattle.tile.specs.Tile.{Design, TileState}
use Rattle.machine_core.proofs.Rounds.{same_shape}
use Rattle.core_laws.specs.Core.{State, after}
use Rattle.core_laws.specs.Runs.{state_after}
use Rattle.core_laws.specs.Machine.{Core, core_after, shown}
use Rattle.core_laws.specs.Mirrors.{tile_at, no_tile}
use Rattle.core_laws.specs.Noted.{flight_after}
use Rattle.core_laws.proofs.Machines.{after_steps}
use Rattle.fair_rounds.specs.Hosts.{IsOut, with_lines, AreSuccessive}
use Rattle.fair_rounds.proofs.Holders.{IsTold, HasTag, AllHold, GoesTo, goes_same, goes_on, goes_far, all_hold}
use Rattle.fair_rounds.proofs.GuardOut.{record_at}
use Rattle.fair_rounds.proofs.Lines.{Stage, Grows, grow_all}
use Rattle.std.proofs.Math.ListN.{get_or-map}

-- the record of a processor of a machine
abbrev pub record_in : Core → ℕ → ProcessorRecord
record_in c p = (tile_at c.state p).processor.operations

-- what a machine shows of it
issued_shown : (c : Core) (p : ℕ) → list_at (shown c).issued p ≡ (record_in c p).issued
issued_shown c p =
    list_at_map (λ (b : ProcessorRecord). b.issued) no_processor refl (map (λ (t : TileState). t.processor.operations) c.state.tiles) p
    ∙ ap (λ (b : ProcessorRecord). b.issued) (get_or-map (λ (t : TileState). t.processor.operations) c.state.tiles p no_tile)

answers_shown : (c : Core) (p : ℕ) → list_at (shown c).answers p ≡ (record_in c p).answers
answers_shown c p =
    list_at_map (λ (b : ProcessorRecord). b.answers) no_processor refl (map (λ (t : TileState). t.processor.operations) c.state.tiles) p
    ∙ ap (λ (b : ProcessorRecord). b.answers) (get_or-map (λ (t : TileState). t.processor.operations) c.state.tiles p no_tile)

pub count_shown : (c : Core) (p : ℕ) → length (list_at (shown c).issued p) ≡ length (record_in c p).issued
count_shown c p = ap (λ (os : List Operation). length os) (issued_shown c p)

pub out_is : (c : Core) (p i : ℕ) → IsOut c p i → (i < length (record_in c p).issued) × (IsTold (record_in c p) i → ⊥)
out_is c p i x =
    let count = count_shown c p in
    let issued = x.issued in (
      omega (arith, count, issued),
      λ told. x.unanswered (told.0, told.1, ap (λ (answers : List Answer). slice_get answers told.0) (answers_shown c p) ∙ told.2, told.3),
    )

pub is_out : (c : Core) (p i : ℕ) → i < length (record_in c p).issued → (IsTold (record_in c p) i → ⊥) → IsOut c p i
is_out c p i low never = record {
  issued = let count = count_shown c p in omega (arith, count, low);
  unanswered = λ told. never (told.0, told.1, ap (λ (answers : List Answer). slice_get answers told.0) (sym (answers_shown c p)) ∙ told.2, told.3);
}

take_front : (xs ys : List Step) → take (length xs) (xs ++ ys) ≡ xs
take_front [] ys = refl
take_front (x ∷ xs) ys = ap (λ zs. x ∷ zs) (take_front xs ys)

-- by steps
module _ (c : Core) (st : Stage c) where
  pub every_holds : (p : ℕ) → AllHold (record_in c p)
  every_holds p = subst AllHold (record_at c st p) (all_hold st.load (st.after).accepted st.steps (length st.steps) p)

  module _ (xs : List Step) where
    abbrev pub after_stage : Stage (core_after c xs)
    after_stage = record { load = st.load; steps = st.steps ++ xs; after = after_steps st.load c st.steps xs st.after }

    -- the state after the first steps
    first_state_is : state_after st.load (st.steps ++ xs) (length st.steps) ≡ c.state
    first_state_is = ap (after st.load) (take_front st.steps xs) ∙ sym (st.after).state

    first_record : (p : ℕ) → processor_at (flight_after st.load (st.steps ++ xs) (length st.steps)) p ≡ record_in c p
    first_record p =
        get_or-map (λ (t : TileState). t.processor.operations) (state_after st.load (st.steps ++ xs) (length st.steps)).tiles p no_tile
        ∙ ap (λ (s : State). (tile_at s p).processor.operations) first_state_is

    pub by_steps : (p : ℕ) → GoesTo (record_in c p) (record_in (core_after c xs) p)
    by_steps p =
        let long : length (st.steps ++ xs) ≡ length st.steps + length xs = length-append st.steps xs in
        let last : processor_at (flight_after st.load (st.steps ++ xs) (length st.steps + length xs)) p ≡ record_in (core_after c xs) p =
        ap (λ (n : ℕ). processor_at (flight_after st.load (st.steps ++ xs) n) p) (sym long) ∙ record_at (core_after c xs) after_stage p in
        subst (λ (b : ProcessorRecord). GoesTo b (record_in (core_after c xs) p)) (first_record p)
        (subst (λ (b : ProcessorRecord). GoesTo (processor_at (flight_after st.load (st.steps ++ xs) (length st.steps)) p) b) last
        (goes_far st.load (st.after).accepted (st.steps ++ xs) (length st.steps) (length xs) p))

-- records of which all but how far a script is followed is the same
goes_alike : (b c : ProcessorRecord) → c.issued ≡ b.issued → c.tags ≡ b.tags → c.answers ≡ b.answers → GoesTo b c
goes_alike b c issued tags answers = record {
  issued = let e = ap (λ (os : List Operation). length os) issued in omega (arith, e);
  told = λ i t. (t.0, t.1, ap (λ (answers : List Answer). slice_get answers t.0) answers ∙ t.2, t.3);
  holders = λ k i h. inl (ap (λ (ts : List (Option OpId)). slice_get ts k) (sym tags) ∙ h);
  hold = λ all i low. ⊎_elim
      (λ (t : IsTold b i). inl (t.0, t.1, ap (λ (answers : List Answer). slice_get answers t.0) answers ∙ t.2, t.3))
      (λ (h : (k : ℕ) × HasTag b k i). inr (h.0, ap (λ (ts : List (Option OpId)). slice_get ts h.0) tags ∙ h.1))
      (all i (let e = ap (λ (os : List Operation). length os) issued in omega (arith, e, low)));
}

by_lines : (c : Core) (st : Stage c) (e : Core) → Grows c st e → (p : ℕ) → GoesTo (record_in c p) (record_in e p)
by_lines c st e g p = goes_alike (record_in c p) (record_in e p) (g.alike.issued p) (g.alike.tags p)
    (sym (answers_shown e p) ∙ (ap (λ (v : Observed). list_at v.answers p) g.shows ∙ answers_shown c p))

-- machines in turn
module _ (c : ℕ → Core) (turn : AreSuccessive c) (start : Stage (c 0)) where
  abbrev grown_at : (k : ℕ) (st : Stage (c k)) → Grows (core_after (c k) (turn.steps k)) (after_stage (c k) st (turn.steps k))
      (with_lines (core_after (c k) (turn.steps k)) (turn.lines k))
  grown_at k st = grow_all (turn.lines k) (core_after (c k) (turn.steps k)) (after_stage (c k) st (turn.steps k)) (turn.words k)

  pub stage_at : (k : ℕ) → Stage (c k)
  stage_at zero = start
  stage_at (suc k) = subst (λ (x : Core). Stage x) (sym (turn.next k)) (grown_at k (stage_at k)).stage

  pub one_on : (k p : ℕ) → GoesTo (record_in (c k) p) (record_in (c (suc k)) p)
  one_on k p =
      let now : Core = core_after (c k) (turn.steps k) in
      let next : Core = with_lines (core_after (c k) (turn.steps k)) (turn.lines k) in
      subst (λ (x : Core). GoesTo (record_in (c k) p) (record_in x p)) (sym (turn.next k))
      (goes_on (record_in (c k) p) (record_in now p) (record_in next p) (by_steps (c k) (stage_at k) (turn.steps k) p)
      (by_lines now (after_stage (c k) (stage_at k) (turn.steps k)) next (grown_at k (stage_at k)) p))

  many_on : (j n p : ℕ) → GoesTo (record_in (c j) p) (record_in (c (j + n)) p)
  many_on j zero p =
      let e : j + 0 ≡ j = omega arith in
      subst (λ (m : ℕ). GoesTo (record_in (c j) p) (record_in (c m) p)) (sym e) (goes_same (record_in (c j) p))
  many_on j (suc n) p =
      let e : j + suc n ≡ suc (j + n) = omega arith in
      subst (λ (m : ℕ). GoesTo (record_in (c j) p) (record_in (c m) p)) (sym e)
      (goes_on (record_in (c j) p) (record_in (c (j + n)) p) (record_in (c (suc (j + n))) p) (many_on j n p) (one_on (j + n) p))

  -- from each to those behind it
  pub goes_between : (j k p : ℕ) → j ≤ k → GoesTo (record_in (c j) p) (record_in (c k) p)
  goes_between j k p low =
      let e : j + (k - j) ≡ k = omega (arith, low) in
      subst (λ (m : ℕ). GoesTo (record_in (c j) p) (record_in (c m) p)) e (many_on j (k - j) p)

  -- all of one shape
  pub shape_is : (k : ℕ) → (c k).shape ≡ (c 0).shape
  shape_is zero = refl
  shape_is (suc k) =
      ap (λ (x : Core). x.shape) (turn.next k)
      ∙ (ap (λ (d : Design). d.shape) (grown_at k (stage_at k)).built ∙ (same_shape (c k) (turn.steps k) ∙ shape_is k))
