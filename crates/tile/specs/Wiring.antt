-- Which channels a tile's processor and bank have at their inputs and outputs: they stand beside
-- the agents' code.
pub use Rattle.net_interface.specs.Beginning.{processor_wiring}
pub use Rattle.home_bank.specs.Beginning.{bank_wiring}
