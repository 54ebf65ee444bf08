-- Strings of an object, and its parts.
use Rattle.std.proofs.Common.{◌≡◌, ℕ, List, ◌++◌, true, false, refl, ap, ◌∙◌}
use Rattle.std.specs.Str.{IsUtf8, is_utf8}
use Rattle.std.proofs.lemmas.Str.{IsUtf8-from_is_utf8}

-- what isn't UTF-8 is told so
pub is_no_utf8 : (bytes : List ℕ) → (IsUtf8 bytes → ⊥) → false ≡ is_utf8 bytes
is_no_utf8 bytes broken =
    elim (is_utf8 bytes) as (λ b. is_utf8 bytes ≡ b → false ≡ b) [ true ↦ λ e. absurd (broken (IsUtf8-from_is_utf8 bytes e)) | false ↦ λ e. refl ] refl

-- five parts, one after the other
pub five : (a b c d e x1 x2 x3 x4 x5 : List ℕ) → x1 ≡ a → x2 ≡ x1 ++ b → x3 ≡ x2 ++ c → x4 ≡ x3 ++ d → x5 ≡ x4 ++ e
    → x5 ≡ (((a ++ b) ++ c) ++ d) ++ e
five a b c d e x1 x2 x3 x4 x5 h1 h2 h3 h4 h5 =
    h5
    ∙ ap (λ (z : List ℕ). z ++ e)
    (h4 ∙ ap (λ (z : List ℕ). z ++ d) (h3 ∙ ap (λ (z : List ℕ). z ++ c) (h2 ∙ ap (λ (z : List ℕ). z ++ b) h1)))
