-- What a seat counts as asleep, after a turn, after a look, and in the beginning.
use Rattle.std.proofs.Common.{inl, inr, ◌≡◌, ℕ, ◌<◌, true, false, List, [], ◌∷◌, ◌++◌, Some, None, sym, subst, arith}
use Rattle.torus.specs.Shape.{tiles_of}
use Rattle.torus.specs.declared.step.Step.{Step}
use Rattle.flit_buffer.specs.declared.word_op.WordOp.{WordOp}
use Rattle.atomic_table.specs.declared.shared.Seat.{Seat}
use Rattle.tile.specs.Agents.{TilePlace, agent_kind, agent_tile}
use Rattle.tile.proofs.AgentNumbers.{number_low, number_of_agent}
use Rattle.fabric_rule.specs.Core.{Load}
use Rattle.fabric_rule.specs.Runs.{IsAcceptedLoad}
use Rattle.fabric_rule.specs.Placed.{PlacedTile}
use Rattle.fabric_rule.specs.Known.{tile_of, known, enabled, op_of}
use Rattle.fabric_rule.specs.View.{View}
use Rattle.fabric_rule.specs.Groups.{Owns, In, Others, GroupGoesOn, both, flat}
use Rattle.fabric_rule.specs.Rule.{Learned}
use Rattle.fabric_rule.proofs.Runs.{names_tile}
use Rattle.fabric_rule.specs.Counted.{Counted, AreRight}
use Rattle.fabric_rule.proofs.Counting.{others_right}
use Rattle.fabric_rule.proofs.Falling.{choice_idle, take_idle, put_idle, credit_idle}
use Rattle.fabric_rule.proofs.Flags.{unready}
use Rattle.machine_parts.specs.Awake.{is_choice_awake}
use Rattle.machine_parts.specs.Ports.{flags_of}
use Rattle.core_laws.specs.Routers.{of_router}
use Rattle.torus.specs.declared.step.Choice.TheVariants.{TakeFrom, Put, CreditOf}
use Rattle.fabric.specs.Turns.{SeesIdle, StepMoves, Sees, has_choice}
use Rattle.fabric.specs.Seats.{Knowing, StandsAt, seat_knows}
use Rattle.fabric.proofs.Learning.{IsOn}

abbrev S : Type 0
S = Seat (Unit {0}) View

-- what a seat with this view counts is right
abbrev pub RightOf : View → Counted → Type 0
RightOf v f = AreRight v.load v.run v.groups f

-- what was so of the view that a turn picked
pub right_before : (v u : View) (f : Counted) → v ≡ u → RightOf u f → RightOf v f
right_before v u f e right = subst (λ (w : View). RightOf w f) (sym e) right

pub mine_before : (v u : View) (s c : Step) → v ≡ u → s ≡ c → In u.groups (tile_of s) → In v.groups (tile_of c)
mine_before v u s c e same mine = subst (λ (w : View). In w.groups (tile_of c)) (sym e) (subst (λ (x : Step). In u.groups (tile_of x)) same mine)

pub has_before : (v u : View) (c : Step) → v ≡ u → has_choice u.load.shape c ≡ true → has_choice v.load.shape c ≡ true
has_before v u c e has = subst (λ (w : View). has_choice w.load.shape c ≡ true) (sym e) has

-- the agent of a step of a tile is one of 192
pub agent_low : (load : Load) (run : List Step) (c : Step) (x : PlacedTile) → IsAcceptedLoad load → StandsAt load run (tile_of c) x → c.agent < 192
agent_low load run c x ok here =
    let t = names_tile load ok run (tile_of c) x.place here.place in
    let few = ok.shape.tiles in
    let low = number_low (agent_tile c.agent) (tiles_of load.shape) (agent_kind c.agent) t in
    let same = number_of_agent c.agent in
    omega (arith, few, low, same)

-- a turn whose tile has no operation for it
module _ (c : Step) (x : TilePlace) (v : View) (ok : IsAcceptedLoad v.load) (old now : Counted) (right : RightOf v old) (mine : In v.groups (tile_of c))
    (here : known v.load v.run (tile_of c) ≡ Some x) where
  abbrev Rests : Type 0
  Rests = (load : Load) (run : List Step) (gs : List (List ℕ)) → AreRight load run gs old → In gs (agent_tile c.agent) → has_choice load.shape c ≡ true
      → enabled load run c ≡ false → AreRight load run gs now

  pub unready_right : Rests → has_choice v.load.shape c ≡ true → op_of x c ≡ None → RightOf v now
  unready_right rests has none = rests v.load v.run v.groups right mine has (unready v.load v.run c x ok here none)

  -- an idle one, and one that moves
  pub idle_right : Rests → has_choice v.load.shape c ≡ true → (w : View) → SeesIdle v c w → RightOf w now
  idle_right rests has w m =
      subst (λ (z : View). RightOf z now) (sym m.3)
      (rests v.load (v.run ++ m.0) v.groups (others_right v.load ok v.groups v.run m.0 old m.1 right) mine has m.2)

  pub moved_right : (op : WordOp) → ((load : Load) → IsAcceptedLoad load → (run between : List Step) (gs : List (List ℕ)) (p : TilePlace)
      → AreRight load run gs old → Others gs between → In gs (agent_tile c.agent) → known load run (agent_tile c.agent) ≡ Some p → op_of p c ≡ Some op
      → enabled load (run ++ between) c ≡ true → AreRight load ((run ++ between) ++ c ∷ []) gs now)
      → op_of x c ≡ Some op → (w : View) → StepMoves v c w → RightOf w now
  moved_right op moved asks w m =
      subst (λ (z : View). RightOf z now) (sym m.3) (moved v.load ok v.run m.0 v.groups x right m.1 mine here asks m.2)

-- after a look, and where the seat's run went on
pub seen_right : (s z : S) (f : Counted) → IsAcceptedLoad s.me.0.load → Sees s z → RightOf s.me.0 f → RightOf z.me.0 f
seen_right s z f ok l right =
    subst (λ (v : View). RightOf v f) (sym l.view) (others_right s.me.0.load ok s.me.0.groups s.me.0.run l.between f l.others right)

pub right_on : (s z : S) (run : List Step) (f : Counted) → IsOn s run z → GroupGoesOn s.me.0.groups run s.me.0.run → IsAcceptedLoad s.me.0.load
    → RightOf s.me.0 f → RightOf z.me.0 f
right_on s z run f on go ok right =
    let now : AreRight s.me.0.load run s.me.0.groups f =
    subst (λ (r : List Step). AreRight s.me.0.load r s.me.0.groups f) (sym go.1) (others_right s.me.0.load ok s.me.0.groups s.me.0.run go.0 f go.2 right) in
    subst (λ (v : View). RightOf v f) (sym on.2) now

-- all that counted as asleep is awake once two seats are one
in_more : (gs more : List (List ℕ)) (t : ℕ) → In gs t → In (flat (gs ++ more) ∷ []) t
in_more gs more t mine = inl (in_flat (gs ++ more) t (in_front gs more t mine))
  where
    owns_front : (xs ys : List ℕ) (u : ℕ) → Owns xs u → Owns (xs ++ ys) u
    owns_front [] ys u o = elim o [ ]
    owns_front (x ∷ xs) ys u (inl e) = inl e
    owns_front (x ∷ xs) ys u (inr o) = inr (owns_front xs ys u o)

    owns_behind : (xs ys : List ℕ) (u : ℕ) → Owns ys u → Owns (xs ++ ys) u
    owns_behind [] ys u o = o
    owns_behind (x ∷ xs) ys u o = inr (owns_behind xs ys u o)

    in_front : (gs more : List (List ℕ)) (u : ℕ) → In gs u → In (gs ++ more) u
    in_front [] more u o = elim o [ ]
    in_front (g ∷ gs) more u (inl o) = inl o
    in_front (g ∷ gs) more u (inr o) = inr (in_front gs more u o)

    in_flat : (gs : List (List ℕ)) (u : ℕ) → In gs u → Owns (flat gs) u
    in_flat [] u o = elim o [ ]
    in_flat (g ∷ gs) u (inl o) = owns_front g (flat gs) u o
    in_flat (g ∷ gs) u (inr o) = owns_behind g (flat gs) u (in_flat gs u o)

pub joined_right : (v u w : View) (f now : Counted) → Learned (both v u) (flat (v.groups ++ u.groups) ∷ []) w
    → ((load : Load) (run later : List Step) (gs more : List (List ℕ)) → AreRight load run gs f → ((t : ℕ) → In gs t → In more t) → AreRight load later more now)
    → RightOf v f → RightOf w now
joined_right v u w f now l roused right =
    subst (λ (z : View). RightOf z now) (sym l.view)
    (roused v.load v.run w.run v.groups (flat (v.groups ++ u.groups) ∷ []) right (λ t mine. in_more v.groups u.groups t mine))

-- what a seat counts as asleep isn't enabled after the run that callers see
module _ (s : S) (k : Knowing) (f : Counted) (is : seat_knows s ≡ k) (right : RightOf s.me.0 f) where
  seen_by : (c : Step) → enabled s.me.0.load s.me.0.run c ≡ false → enabled k.load k.run c ≡ false
  seen_by c out = subst (λ (x : Knowing). enabled x.load x.run c ≡ false) is out

  pub sleeping_idle : (c : Step) → is_choice_awake f.awake c.agent c.choice ≡ false → enabled k.load k.run c ≡ false
  sleeping_idle c out = seen_by c (choice_idle s.me.0.load s.me.0.run s.me.0.groups (is_choice_awake f.awake) (flags_of f.ports) right.sleep c out)

  pub take_idle_by : (t i : ℕ) → (flags_of f.ports).takes t i ≡ false → enabled k.load k.run (of_router t (TakeFrom i)) ≡ false
  take_idle_by t i out = seen_by _ (take_idle s.me.0.load s.me.0.run s.me.0.groups (is_choice_awake f.awake) (flags_of f.ports) right.sleep t i out)

  pub put_idle_by : (t i : ℕ) → (flags_of f.ports).puts t i ≡ false → enabled k.load k.run (of_router t (Put i)) ≡ false
  put_idle_by t i out = seen_by _ (put_idle s.me.0.load s.me.0.run s.me.0.groups (is_choice_awake f.awake) (flags_of f.ports) right.sleep t i out)

  pub credit_idle_by : (t o : ℕ) → (flags_of f.ports).credits t o ≡ false → enabled k.load k.run (of_router t (CreditOf o)) ≡ false
  credit_idle_by t o out = seen_by _ (credit_idle s.me.0.load s.me.0.run s.me.0.groups (is_choice_awake f.awake) (flags_of f.ports) right.sleep t o out)

-- what two seats in one learned
pub learned_joined : (x v w : View) → x ≡ v → Learned x (flat x.groups ∷ []) w → Learned v (flat v.groups ∷ []) w
learned_joined x v w e l = subst (λ (u : View). Learned u (flat u.groups ∷ []) w) e l
