-- Which refusal a sentence is about.
use Rattle.std.specs.Prelude.{◌≡◌, ◌⊎◌, ℕ, List, true, Option, Some, None, Err, is_ok}
use Rattle.network_text.specs.declared.reason.NetworkReason.{NetworkReason}
use Rattle.network_text.specs.declared.reason.NetworkReason.TheVariants as reason
use Rattle.lexer.specs.declared.refusal.Refusal.{Refusal}
use Rattle.lexer.specs.Outcome.{refusal_at}
use Rattle.network_text.specs.Network.{network_or_why}
use Rattle.network_text.specs.declared.sentence.NetworkSentence.{NetworkSentence}

-- the refusal that a sentence is about
abbrev pub refusal_in : NetworkSentence → Refusal NetworkReason
refusal_in s = s.refusal

-- the refusal of a sentence on a text is the one that its reader gives, or that of memory; there is
-- none where the reader gives a network
abbrev pub TellsRefusal : List (List ℕ) → Option (Refusal NetworkReason) → Type 0
TellsRefusal lines None = is_ok (network_or_why lines) ≡ true
TellsRefusal lines (Some s) =
    (s ≡ refusal_at 0 reason.Memory) ⊎ (network_or_why lines ≡ Err s)
