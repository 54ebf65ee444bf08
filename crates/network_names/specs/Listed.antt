-- The lines of a network text that name its routers and channels, as they are listed.
use Rattle.std.specs.Prelude.{ℕ, List, [], ◌∷◌, map, if◌then◌else◌}
use Rattle.std.specs.Str.Lines.{lines}
use Rattle.network_names.specs.declared.called.Naming.{Naming}
use Rattle.network_names.specs.declared.called.Naming.TheVariants.{Router, Link, Name}
use Rattle.network_names.specs.declared.called.Titles.{Titles}
use Rattle.network_names.specs.Called.{line_names, AreNamingLines}

-- the line of a number behind one more line: the first that names it so
abbrev pub noted : Naming → ℕ → List ℕ → List ℕ → List ℕ
noted naming x line [] = if line_names naming x line then line else []
noted naming x line (c ∷ cs) = c ∷ cs

-- the lines of a text that name routers and channels of numbers below `room`
pub record AreTitles {A : Type 0} (titles : Titles A) : Type 0 where
  pub routers : AreNamingLines titles.room Router (lines titles.text.now)
      (map (λ l. l.now) titles.routers.items)
  pub links : AreNamingLines titles.room Link (lines titles.text.now)
      (map (λ l. l.now) titles.links.items)
  pub names : AreNamingLines titles.room Name (lines titles.text.now)
      (map (λ l. l.now) titles.names.items)
