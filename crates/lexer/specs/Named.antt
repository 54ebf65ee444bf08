-- A text and its name.
use Rattle.std.specs.Prelude.{◌≡◌, ℕ, List}
use Rattle.lexer.specs.declared.named.Named.{Named}

-- a name and bytes are those of a text
pub record IsAbout (t : Named) (name text : List ℕ) : Type 0 where
  pub name_is : name ≡ t.name.now
  pub text_is : text ≡ t.text.now
