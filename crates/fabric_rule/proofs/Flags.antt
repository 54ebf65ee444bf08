-- The flags of a seat: what attempts of others, and its own moves, leave of the choices that sleep.
use Rattle.std.proofs.Common.{◌≡◌, ℕ, Bool, true, false, List, [], ◌∷◌, ◌++◌, Option, Some, None, refl, sym, ap, ◌∙◌, subst}
use Rattle.std.specs.Prelude.{◌==◌, ◌&&◌, ◌||◌, ◌<◌, MatchOption, is_some, length, option_and_then}
use Rattle.std.specs.List.{list_any}
use mathlib.Core.Option.{some}
use lib.ListN.{get_elem?}
use Rattle.torus.specs.Shape.{dims_of}
use Rattle.torus.specs.declared.step.Step.{Step}
use Rattle.torus.specs.declared.step.Choice.{Choice}
use Rattle.channel_number.specs.Ports.{port_count}
use Rattle.flit_buffer.specs.Words.{word_of}
use Rattle.flit_buffer.specs.declared.word_op.WordOp.{WordOp}
use Rattle.tile.specs.Tile.{Design}
use Rattle.tile.specs.Agents.{TilePlace, tile_next_op, agent_kind}
use Rattle.tile.specs.Choices.{has_choice}
use Rattle.core_laws.specs.Core.{Load, State, design_of, step, or_same, after}
use Rattle.core_laws.specs.Runs.{IsAcceptedLoad}
use Rattle.core_laws.proofs.AgentChoices.{other_choice}
use Rattle.core_laws.specs.Row.{row_of}
use Rattle.core_laws.specs.Attempts.{step_op, LeavesRow, MovesRow, IsWordOperation}
use Rattle.core_laws.proofs.RowOfRuns.{is_operation, all_steps}
use Rattle.core_laws.specs.Operations.{woken_by_operation}
use Rattle.core_laws.specs.ChoicesAsleep.{OtherChoicesSleep, choices_woken, can_enable}
use Rattle.core_laws.proofs.Choices as choices
use Rattle.core_laws.proofs.PortsMet.{none_of}
use Rattle.fabric_rule.specs.Known.{tile_of, known, enabled, op_of, moves}
use Rattle.fabric_rule.specs.View.{View}
use Rattle.fabric_rule.specs.Groups.{In, Others}
use Rattle.fabric_rule.specs.Rule.{Kept, Attempted}
use Rattle.fabric_rule.proofs.Groups.{away}
use Rattle.fabric_rule.proofs.Runs.{after_one, known_away}
use Rattle.fabric_rule.specs.Inner.{IsInner}
use Rattle.fabric_rule.specs.Sleeping.{RestsInside}
use Rattle.fabric_rule.proofs.OwnEnds.{own_inner}
use Rattle.fabric_rule.proofs.Undisturbed.{many}

no_state : (o : Option State) → is_some o ≡ false → o ≡ None
no_state None h = refl
no_state (Some s) h = absurd (cc)

a_state : (o : Option State) → is_some o ≡ true → (s : State) × (o ≡ Some s)
a_state None h = absurd (cc)
a_state (Some s) h = (s, refl)

pub idle : (l : Load) (run : List Step) (c : Step) → enabled l run c ≡ false → step (design_of l) (after l run) c ≡ None
unfolding enabled
idle l run c h = no_state _ h

pub unable : (l : Load) (run : List Step) (c : Step) → step (design_of l) (after l run) c ≡ None → enabled l run c ≡ false
unfolding enabled
unable l run c h = ap (λ (o : Option State). is_some o) h

pub able : (l : Load) (run : List Step) (c : Step) → enabled l run c ≡ true → (s : State) × (step (design_of l) (after l run) c ≡ Some s)
unfolding enabled
able l run c h = a_state _ h

pub op_is : (l : Load) (run : List Step) (c : Step) (p : TilePlace) (op : WordOp) → known l run (tile_of c) ≡ Some p → op_of p c ≡ Some op
    → step_op (design_of l) (after l run) c ≡ Some op
unfolding known op_of
op_is l run c p op here asks = ap (λ (o : Option TilePlace). option_and_then (λ (q : TilePlace). tile_next_op q c) o) here ∙ asks

-- what an attempt's operation tells of a state
abbrev OfOp : Design → State → Step → Option WordOp → Type 0
OfOp d s c o = MatchOption o (step d s c ≡ None)
    (λ x. (word_of x < length (row_of d s)) × MatchOption (step d s c) (LeavesRow d s c x) (λ left. MovesRow d s c x left))

-- an attempt for which its tile has no operation
pub unready : (l : Load) (run : List Step) (c : Step) (p : TilePlace) → IsAcceptedLoad l → known l run (tile_of c) ≡ Some p → op_of p c ≡ None
    → enabled l run c ≡ false
unfolding known op_of
unready l run c p ok here asks =
    let d : Design = design_of l in
    let any : IsWordOperation d (after l run) c = subst (λ (z : State). IsWordOperation d z c) (all_steps l run) (is_operation l ok run (length run) c) in
    unable l run c
    (subst (OfOp d (after l run) c) (ap (λ (o : Option TilePlace). option_and_then (λ (q : TilePlace). tile_next_op q c) o) here ∙ asks) any)

module _ (l : Load) (ok : IsAcceptedLoad l) (gs : List (List ℕ)) (run between : List Step) (others : Others gs between) where
  abbrev d : Design
  d = design_of l

  abbrev far : List Step
  far = run ++ between

  -- a choice of the seat's that no other seat can enable
  pub still_idle : (c : Step) → In gs (tile_of c) → IsInner l.shape gs c.agent c.choice → step d (after l run) c ≡ None → step d (after l far) c ≡ None
  still_idle c mine inner none = idle l far c (many l ok gs c mine inner run between others ∙ unable l run c none)

  pub others_keep : (awake : ℕ → Choice → Bool) → OtherChoicesSleep d (after l run) awake → RestsInside gs awake → OtherChoicesSleep d (after l far) awake
  others_keep awake sleep inside agent choice out = by_choice (has_choice (port_count (dims_of l.shape)) (agent_kind agent) choice) refl
    where
      by_choice : (b : Bool) → has_choice (port_count (dims_of l.shape)) (agent_kind agent) choice ≡ b → step d (after l far) (record { agent = agent; choice = choice }) ≡ None
      by_choice false lacks = other_choice d (after l far) (record { agent = agent; choice = choice }) lacks
      by_choice true has =
          let k = inside agent choice out in
          still_idle (record { agent = agent; choice = choice }) k.0 (own_inner l.shape gs agent choice k.0 k.1 k.2 has) (sleep agent choice out)

  -- the operation of an attempt of the seat's, and where it leads
  module _ (c : Step) (p : TilePlace) (op : WordOp) (mine : In gs (tile_of c)) (here : known l run (tile_of c) ≡ Some p) (asks : op_of p c ≡ Some op)
      (can : enabled l far c ≡ true) where
    pub by : step_op d (after l far) c ≡ Some op
    by = op_is l far c p op (known_away l ok run between (tile_of c) (away gs (tile_of c) between mine others) ∙ here) asks

    abbrev pub then : State
    then = (able l far c can).0

    pub makes : step d (after l far) c ≡ Some then
    makes = (able l far c can).1

    pub leads : after l (far ++ c ∷ []) ≡ then
    leads = after_one l far c ∙ ap (or_same (after l far)) makes

    pub moved_keep : (awake : ℕ → Choice → Bool) → OtherChoicesSleep d (after l run) awake → RestsInside gs awake
        → OtherChoicesSleep d (after l (far ++ c ∷ [])) (choices_woken d c.agent op awake)
    moved_keep awake sleep inside =
        subst (λ (z : State). OtherChoicesSleep d z (choices_woken d c.agent op awake)) (sym leads)
        (choices.kept l ok far c op by then makes awake (others_keep awake sleep inside))

pub stay_inside : (gs : List (List ℕ)) (awake : ℕ → Choice → Bool) (d : Design) (mover : ℕ) (op : WordOp) → RestsInside gs awake
    → RestsInside gs (choices_woken d mover op awake)
stay_inside gs awake d mover op inside agent choice out =
    inside agent choice
    (none_of (awake agent choice) ((agent == mover) || (can_enable op choice && list_any (λ k. k == agent) (woken_by_operation d op))) out).0

pub known_idle : (l : Load) (run : List Step) (awake : ℕ → Choice → Bool) (c : Step) → OtherChoicesSleep (design_of l) (after l run) awake
    → awake c.agent c.choice ≡ false → enabled l run c ≡ false
known_idle l run awake c sleep out = unable l run c (sleep c.agent c.choice out)

pub longest_idle : (l : Load) (ok : IsAcceptedLoad l) (words : List ℕ) (views : List View) (r : List Step) (id : ℕ) (v : View) (c : Step) → Kept l words views r
    → get_elem? views id ≡ some v → In v.groups (tile_of c) → IsInner l.shape v.groups c.agent c.choice → enabled l v.run c ≡ false → enabled l r c ≡ false
longest_idle l ok words views r id v c k at mine inner out =
    let b = (k.fits id v at).begins in
    ap (λ (x : List Step). enabled l x c) b.1 ∙ (many l ok v.groups c mine inner v.run b.0 b.2 ∙ out)

pub attempt_idle : (c : Step) (p : TilePlace) (v : View) (n : ℕ) (w : View) → IsAcceptedLoad v.load → Attempted c p v n w → In v.groups (tile_of c)
    → IsInner v.load.shape v.groups c.agent c.choice → enabled v.load v.run c ≡ false → moves p c n ≡ false
attempt_idle c p v n w ok a mine inner out = sym a.enabled_there ∙ (many v.load ok v.groups c mine inner v.run a.between a.others ∙ out)
