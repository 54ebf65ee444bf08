-- What a line gives by the numbers behind its keyword.
use Rattle.std.proofs.Common.{◌≡◌, sym, subst}
use Rattle.std.specs.Prelude.{Result}
use Rattle.network_text.specs.declared.reason.NetworkReason.{NetworkReason}
use Rattle.network_text.specs.declared.reason.NetworkReason.TheVariants as reason
use Rattle.lexer.specs.Outcome.{Makes}
use Rattle.network_text.specs.Network.{Reading}

-- they are taken
pub numbers_taken : {Y : Type 0} (new : Reading) (made by : Result Reading NetworkReason) (result : Result Y NetworkReason) → made ≡ by
    → Makes reason.Memory new result by → Makes reason.Memory new result made
numbers_taken new made by result same makes = subst (λ m. Makes reason.Memory new result m) (sym same) makes
