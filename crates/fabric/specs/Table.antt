-- The rule as the table has it, and what each of its steps tells.
use Rattle.std.specs.Prelude.{◌≡◌, ℕ, List, [], ◌∷◌}
use Rattle.atomic_table.specs.Table as table
use Rattle.torus.specs.declared.step.Step.{Step}
use Rattle.tile.specs.Agents.{TilePlace}
use Rattle.fabric_rule.specs.Core.{Load}
use Rattle.fabric_rule.specs.View.{View}
use Rattle.fabric_rule.specs.Groups.{flat}
use Rattle.fabric_rule.specs.Rule.{Kept, Attempted, Looked, Learned}

-- the rule: some run is the longest that any seat knows
abbrev pub Holds : Load → table.State (Unit {0}) View → Type 0
Holds load s = (r : List Step) × Kept load s.words s.views r

-- what a step of the table tells its seat: of an attempt, of a look, and of a look by a seat that
-- was told of others, whose groups stay or become one
abbrev pub Told : Type 1
Told = table.Step (Unit {0}) → table.Me (Unit {0}) View → ℕ → table.Me (Unit {0}) View → Type 0

-- an attempt is made by a seat that still knows what it knew as its turn began
abbrev pub attempted : View → Step → TilePlace → Told
attempted v c p st me n me' = (me.0 ≡ v) × Attempted c p me.0 n me'.0 × (me'.1 ≡ me.1)

abbrev pub looked : Told
looked st me n me' = Looked st.word me.0 n me'.0 × (me'.1 ≡ me.1)

abbrev pub learned : Told
learned st me n me' = Learned me.0 me.0.groups me'.0 × (me'.1 ≡ me.1)

abbrev pub merged : Told
merged st me n me' = Learned me.0 (flat me.0.groups ∷ []) me'.0 × (me'.1 ≡ me.1)
