-- How the key of proofs alone is made: by a table of one word, of which nothing is asked, and a
-- look at it.
use Rattle.std.specs.Prelude.{◌≡◌, ℕ}
use Rattle.atomic_table.specs.Table as table
use Rattle.fabric.specs.Key.{Opening}

-- what a look at the word tells its seat: what was picked
abbrev pub picked : Opening → table.Step (Unit {0}) → table.Me (Unit {0}) Opening → ℕ
    → table.Me (Unit {0}) Opening → Type 0
picked k st me n me' = me'.0 ≡ k
