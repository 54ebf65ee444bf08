-- The states that a bank's choices lead to, and the words that it wants in them.
use Rattle.std.specs.Prelude.{◌≢◌, ℕ, ◌<◌, All, IfSome}
use Rattle.home_bank.specs.ServiceList.{address_of}
use Rattle.home_bank.specs.BankTable.{BankState}

-- of so many tiles and words of the memory: the request that waits is for a word that is there, and
-- no flit of
-- the reply is 0 (this project's own format)
pub record IsBankState (tiles tile words : ℕ) (b : BankState) : Type 0 where
  pub word : IfSome b.waiting (λ r. address_of tile tiles r.word < words)
  pub flits : All (λ flit. flit ≢ 0) b.to_put
