-- A branch that is added, or one as good is there.
use Rattle.std.proofs.Common.{◌≡◌, ⊎_elim, ℕ, ◌<◌, List, [], ◌∷◌, ◌++◌, length, Option, Some, sym, ◌∙◌, ap, subst, slice_get, append_assoc}
use Rattle.trace_laws.specs.declared.opened.Open.{Open}
use Rattle.trace_laws.specs.declared.opened.Config.{Config}
use Rattle.trace_laws.specs.declared.opened.Branch.{Branch}
use Rattle.trace_laws.specs.declared.opened.Node.{Node}
use Rattle.trace_laws.specs.Configs.{IsIn, IsAsGood, HasAsGood, release, GoesOn}
use Rattle.trace_laws.specs.Searches.{configs_of}
use Rattle.trace_laws.proofs.Dominance.{good_more, good_unanswered}
use Rattle.trace_laws.proofs.Picking.{grown, node_of}
use Rattle.trace_laws.proofs.Lists.{get_push_cases}
use Rattle.trace_judge.specs.declared.idles.Idle.{Idle}
use Rattle.trace_judge.specs.Idles.{AreListed, AreLow, settled}
use Rattle.trace_judge.specs.Sets.{StaysSound, WaitsForEvent, Replaces, Joins, Takes}
use Rattle.trace_judge.proofs.Branches.{pushed_in, stays_same, stays_more, stays_fewer, stays_added}
use Rattle.trace_judge.proofs.Calm.{settled_good}

-- where the settled configuration has one as good, so has the other
pub settled_has : (table : List (Option Open)) (w : ℕ) (idles : List Idle) (c d : Config) (configs : List Config)
    → AreLow idles → AreListed table w idles → d ≡ settled idles c → HasAsGood table w configs d
    → HasAsGood table w configs c
settled_has table w idles c d configs low are e has =
    let good : IsAsGood table w d c = subst (λ (x : Config). IsAsGood table w x c) (sym e) (settled_good table w idles c low are) in
    (has.0, has.1, good_more table w has.0 d c has.2 good)

pub settled_pushed : (table : List (Option Open)) (w : ℕ) (idles : List Idle) (c : Config) (found more : List Branch)
    (b : Branch) → AreLow idles → AreListed table w idles → b.config ≡ settled idles c
    → more ≡ found ++ b ∷ [] → HasAsGood table w (configs_of more) c
settled_pushed table w idles c found more b low are e is =
    (b.config, pushed_in found more b is, subst (λ (x : Config). IsAsGood table w x c) (sym e) (settled_good table w idles c low are))

-- the configuration without an operation that is never answered is there
pub waiting_has : (table : List (Option Open)) (w s : ℕ) (place : Option Open) (c less : Config) (configs : List Config)
    → s < 128 → slice_get table s ≡ Some place → WaitsForEvent place w → less ≡ release c s → IsIn configs less
    → HasAsGood table w configs c
waiting_has table w s place c less configs low at waits e there = (
  less,
  there,
  subst (λ (d : Config). IsAsGood table w d c) (sym e)
      (good_unanswered table w c s waits.0 low
      (record { there = at ∙ ap (λ (p : Option Open). Some p) waits.1; here = waits.2 }) waits.3),
)

pub goes_on_push : (found more : List Branch) (b : Branch) → more ≡ found ++ b ∷ [] → GoesOn found more
goes_on_push found more b is = (b ∷ [], is)

-- a branch of those beside joins, and leads to what is added
pub joins_same : (table : List (Option Open)) (w : ℕ) (from : Branch) (found : List Branch) (nodes : List Node)
    → Joins table w from found nodes found nodes
joins_same table w from found nodes = λ others here. stays_same table w (others ++ found) nodes

again_in : (all : List Branch) (from b : Branch) → IsIn all from → IsIn (all ++ from ∷ []) b → IsIn all b
again_in all from b here h = ⊎_elim {C = IsIn all b}
    (λ (old : slice_get all h.0 ≡ Some b). (h.0, old))
    (λ (r : (h.0 ≡ length all) × (from ≡ b)). subst (λ (c : Branch). IsIn all c) r.1 here)
    (get_push_cases all from h.0 b h.1)

pub joins_push : (table : List (Option Open)) (w : ℕ) (from to : Branch) (found more : List Branch)
    (nodes most : List Node) → Replaces table w from nodes to most → more ≡ found ++ to ∷ []
    → Joins table w from found nodes more most
joins_push table w from to found more nodes most leads is = λ others here.
    let all : List Branch = others ++ found in
    let same : others ++ more ≡ all ++ to ∷ [] =
    ap (λ (bs : List Branch). others ++ bs) is ∙ sym (append_assoc others found (to ∷ [])) in
    subst (λ (bs : List Branch). StaysSound table w all nodes bs most) (sym same)
    (stays_more table w all (all ++ from ∷ []) (all ++ to ∷ []) nodes nodes most
    (stays_fewer table w all (all ++ from ∷ []) nodes (λ b h. again_in all from b here h))
    (leads all))

-- an operation takes effect in a branch that is there
pub takes_same : (table : List (Option Open)) (w : ℕ) (from : Branch) (o : Open) (config : Config) (found : List Branch)
    (nodes : List Node) → Takes table w from o config found nodes found nodes
takes_same table w from o config found nodes = λ s here may is. stays_same table w found nodes

pub takes_push : (table : List (Option Open)) (w : ℕ) (from to : Branch) (o : Open) (config : Config)
    (found more : List Branch) (nodes middle most : List Node)
    → middle ≡ nodes ++ record { call = o.call; before = from.trail } ∷ []
    → Replaces table w (record { config = config; trail = Some (length nodes) }) middle to most
    → more ≡ found ++ to ∷ []
    → Takes table w from o config found nodes more most
takes_push table w from to o config found more nodes middle most pushed leads is = λ s here may e.
    let begun : Branch = record { config = config; trail = Some (length nodes) } in
    let same : begun ≡ grown nodes from s o = ap (λ (d : Config). record { config = d; trail = Some (length nodes) }) e in
    subst (λ (bs : List Branch). StaysSound table w found nodes bs most) (sym is)
    (stays_more table w found (found ++ begun ∷ []) (found ++ to ∷ []) nodes middle most
    (subst (λ (ns : List Node). StaysSound table w found nodes (found ++ begun ∷ []) ns) (sym pushed)
    (subst (λ (b : Branch). StaysSound table w found nodes (found ++ b ∷ []) (nodes ++ node_of from o ∷ [])) (sym same)
    (stays_added table w found nodes from s o here may)))
    (leads found))
